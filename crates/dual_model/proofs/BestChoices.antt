-- What holds of the known choice and of a new one holds of the better of them.
-- Cite from a crate above by `use Rattle.dual_model.proofs.BestChoices.{some-of}`.
use Rattle.std.proofs.Common.{arith, ◌≡◌, ℕ, ℤ, Option, Some, IfSome}
use Rattle.dual_model.specs.Prelude.{Choice, IsOneOf}

pub some-of : (Q : Choice → Type 0) (known result : Option Choice) (cost : Option ℤ) (at : Option ℕ) → IfSome known Q
    → ((v : ℤ) → cost ≡ Some v → Q (record { cost = v; at = at })) → IsOneOf known cost at result → IfSome result Q
some-of Q known result cost at old new one = grind (arith, old, new, one)
