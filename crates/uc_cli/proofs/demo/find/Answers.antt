-- What the search answers for the instance of the seed.
use Rattle.std.proofs.Common.{arith}
use Rattle.uc_cli.proofs.SearchResults.{demo_answered}
use Rattle.uc_cli.proofs.demo.find.Goals as goal

pub search-requires-clause-options : goal.search-requires-clause-options
search-requires-clause-options g c = λ lifetimes within. record { budget = omega arith; some = omega arith; workers = omega arith; gap = omega arith }

pub returns-clause-answer : goal.returns-clause-answer
returns-clause-answer g c = grind (arith, demo_answered, g, c)
