-- The walk gives the least value of the patterns, where there is one.
use Rattle.std.proofs.Common.{arith, ℤ, Some, None, Option, IfSome, IfNone, MatchOption}
use Rattle.uc_model.proofs.Common.{wide-size}
use Rattle.leaf_values.proofs.loading.entry.Goals as goal

both : (o : Option ℤ) (P : Type 0) (Q : ℤ → Type 0) → IfNone o P → IfSome o Q → MatchOption o P Q
both None P Q none some = none
both (Some v) P Q none some = some

pub returns-clause-reckoned : goal.returns-clause-reckoned
returns-clause-reckoned c = grind (arith, wide-size, both, c)
