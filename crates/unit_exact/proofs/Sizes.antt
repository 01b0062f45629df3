-- How large the costs of ways are.
use Rattle.std.proofs.Common.{ℕ, suc, ◌≤◌, arith, ℤ, unsigned_abs, Option, Some, None, IfSome}
use Rattle.dual_model.specs.Prelude.{total_of}
use Rattle.unit_exact.specs.inside.Choices.{Choice, choice_cost}
use Rattle.unit_exact.specs.inside.Problems.{MAX_SWITCH}
use Rattle.unit_exact.specs.inside.Switches.{IsWithinSwitches}

pub some-map : (P Q : Choice → Type 0) (o : Option Choice) → ((x : Choice) → P x → Q x) → IfSome o P → IfSome o Q
some-map P Q None f h = tt
some-map P Q (Some x) f h = f x h

-- a switch and what follows with n periods left
pub total-size : (cost : ℤ) (next : Option Choice) (n : ℕ) → unsigned_abs cost ≤ MAX_SWITCH
    → IfSome next (λ choice. IsWithinSwitches n choice.cost) → IfSome (total_of (Some cost) (choice_cost next)) (IsWithinSwitches (suc n))
total-size cost None n small h = tt
total-size cost (Some choice) n small h = grind (arith, small, h)

-- a switch alone
pub some-size : (n : ℕ) (o : Option ℤ) → IfSome o (λ v. unsigned_abs v ≤ MAX_SWITCH) → IfSome o (IsWithinSwitches n)
some-size n None h = tt
some-size n (Some v) h = omega (arith, h)
