-- A schedule that is accepted in whole watts is one that a search lets out.
use Rattle.std.proofs.Common.{◌≡◌, Bool, false, arith, ℤ, Option, None, Some}
use Rattle.uc_model.specs.Prelude.{IsLimit}
use Rattle.schedule_check.specs.Accepted.{IsAccepted, IsAcceptedIfFound}
use Rattle.schedule_check.specs.SizedNumbers.{IsSized}
use Rattle.schedule_check.proofs.Plain.{sized}
use Rattle.found_schedule.specs.Found.{Instance, Printed, IsFound, IsFoundIfAny}

limit_sized : (z : ℤ) → IsLimit z → IsSized z
limit_sized z limit = let power = limit.power in omega (arith, power)

pub found_of_accepted : (exact_dispatch : Bool) (instance : Instance) (printed : Printed) (cost : ℤ) → IsAccepted instance printed cost
    → IsFound exact_dispatch instance printed cost
found_of_accepted exact_dispatch instance printed cost accepted = record {
  shape = accepted.shape;
  obeys = accepted.obeys;
  cost_is = accepted.cost_is;
  numbers = record {
    sized = sized printed accepted.numbers;
    cells = λ g t. record { category = (accepted.numbers.cells g t).category; off = (accepted.numbers.cells g t).off };
    shed = λ t. limit_sized _ (accepted.numbers.shed t);
    short = λ t. limit_sized _ (accepted.numbers.short t);
    least = omega (arith, accepted.whole);
    most = omega (arith, accepted.whole);
  };
  size = accepted.size;
  whole = λ _. accepted;
}

pub found_if_accepted : (exact_dispatch : Bool) (instance : Instance) (found : Option (Printed × ℤ)) → IsAcceptedIfFound instance found
    → IsFoundIfAny exact_dispatch instance found
found_if_accepted exact_dispatch instance None accepted = tt
found_if_accepted exact_dispatch instance (Some pair) accepted = found_of_accepted exact_dispatch instance pair.0 pair.1 accepted

-- and without an exact dispatch each such schedule is accepted in whole watts
pub accepted_if_found : (exact_dispatch : Bool) (instance : Instance) (found : Option (Printed × ℤ)) → exact_dispatch ≡ false
    → IsFoundIfAny exact_dispatch instance found → IsAcceptedIfFound instance found
accepted_if_found exact_dispatch instance None plain found = tt
accepted_if_found exact_dispatch instance (Some pair) plain found = found.whole plain
