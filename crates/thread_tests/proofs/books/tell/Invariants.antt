-- The run that the book is of.
use Rattle.thread_tests.proofs.books.tell.Given as goal

abbrev pub ghosts-ask_all : goal.ghosts-ask_all
ghosts-ask_all g a = record {
  opening = record { instance = a.instance.now; budget = a.budget; gap = 0; table = a.table; value = a.value };
}
