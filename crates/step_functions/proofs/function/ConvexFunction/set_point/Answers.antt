-- A function without runs.
use Rattle.std.proofs.Common.{◌≡◌, ℕ, sym, ◌∙◌, arith, List, [], ℤ}
use Rattle.std.proofs.lemmas.Int.{to_z-of_z}
use Rattle.uc_model.proofs.Common.{add-zero}
use Rattle.step_functions.specs.Runs.{Run}
use Rattle.step_functions.specs.Functions.{Steps, value_at}
use Rattle.step_functions.proofs.Values.{value_at-place}
use Rattle.step_functions.proofs.function.ConvexFunction.set_point.Goals as goal

abbrev point_at : ℤ → ℤ → ℕ → Steps
point_at place value room = record { first = place; value = value; runs = []; room = room }

-- the fields that are written are those of such a function
written : (first value place v : ℤ) (runs : List Run) (room n : ℕ) → first ≡ place → value ≡ v → runs ≡ [] → room ≡ n
    → (record { first = first; value = value; runs = runs; room = room }) ≡ point_at place v n
written first value place v runs room n first_is value_is runs_are room_is = λ i. record { first = first_is i; value = value_is i; runs = runs_are i; room = room_is i }

point-value : (place value : ℤ) (room : ℕ) → value_at (point_at place value room) place ≡ value
point-value place value room = value_at-place (point_at place value room) place 0 (sym (add-zero place)) ∙ add-zero value

pub invariant_of-self : goal.invariant_of-self
invariant_of-self c = grind (arith, c)

pub returns-clause-point : goal.returns-clause-point
returns-clause-point c = grind (arith, c)

pub returns-clause-last : goal.returns-clause-last
returns-clause-last c = grind (arith, c)

pub returns-clause-value : goal.returns-clause-value
returns-clause-value c = grind (arith, written, to_z-of_z, point-value, c)
