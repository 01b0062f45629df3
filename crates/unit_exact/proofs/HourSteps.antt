-- No hours behind an output, and an hour behind none.
use Rattle.std.proofs.Common.{◌≡◌, ℕ, true, false, true≢false, sym, arith, ℤ, pos, ◌+ℤ◌, ◌-ℤ◌, Option, Some, None, if◌then◌else◌}
use Rattle.std.specs.Ordering.{int_eq}
use Rattle.uc_model.proofs.Common.{linear}
use Rattle.dual_model.specs.Prelude.{total_of}
use Rattle.dual_model.proofs.Optimum.{total_of-parts}
use Rattle.step_functions.specs.Functions.{Steps, last_place, value_at}
use Rattle.unit_runs.specs.CostThrough.{hour_after, least_between, reserve_cost}
use Rattle.unit_runs.proofs.Costs.{least_between-reached}
use Rattle.unit_exact.specs.inside.Problems.{Table, Thermal}
use Rattle.hull_function.proofs.Represented.{output-of}
use Rattle.hull_function.specs.Hours.{IsCostsOf}

-- ---- no hours behind an output
pub begun-costs : (f : Steps) (output : ℤ) → f.first ≡ output → last_place f ≡ output → value_at f output ≡ pos 0
    → IsCostsOf true f (λ p. if int_eq p output then Some (pos 0) else None)
begun-costs f output first last value = grind (arith, linear, last, value)

-- ---- hours behind none are none
pub none-after : (f g : Steps) (before : ℤ → Option ℤ) (table : Table) (unit : Thermal) (t : ℕ) (cap : ℤ) → IsCostsOf false f before
    → IsCostsOf false g (hour_after table unit t cap before)
none-after f g before table unit t cap is = record {
  inside = λ live. absurd (true≢false (sym live));
  outside = λ p v e.
      let hour = output-of table unit t cap behind p v e in
      let least = least_between-reached (p -ℤ unit.ru) (p +ℤ unit.rd) with_reserve hour.other hour.is in
      let own = total_of-parts (before least.at) (Some (reserve_cost table unit t cap least.at)) hour.other least.is in
      absurd (true≢false (sym (is.outside least.at own.first own.first_is).0));
}
  where
    with_reserve : ℤ → Option ℤ
    with_reserve q = total_of (before q) (Some (reserve_cost table unit t cap q))

    behind : ℤ → Option ℤ
    behind p = least_between (p -ℤ unit.ru) (p +ℤ unit.rd) with_reserve
