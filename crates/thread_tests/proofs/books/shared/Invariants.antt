-- The run that the book is of.
use Rattle.thread_tests.proofs.books.shared.Given as goal

abbrev pub ghosts-work_together : goal.ghosts-work_together
ghosts-work_together g a = record {
  opening = record { instance = a.instance.now; budget = 20; gap = 0; table = a.table; value = a.value };
}
