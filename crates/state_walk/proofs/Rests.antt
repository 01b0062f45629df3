-- What is left of a run as a function: its size, its end, and a function that isn't alive.
use Rattle.std.proofs.Common.{◌≡◌, ℕ, suc, ◌+◌, ◌*◌, ◌<◌, ◌≤◌, Bool, true, false, true≢false, ◌==◌, sym, arith, ℤ, pos, ◌+ℤ◌, ◌-ℤ◌, Option, Some}
use Rattle.std.proofs.lemmas.Int.{ints}
use Rattle.uc_model.specs.Prelude.{cell_cap}
use Rattle.dual_model.proofs.Optimum.{total_of-parts}
use Rattle.step_functions.specs.Functions.{IsPlace, last_place, value_at}
use Rattle.hull_function.specs.Hulls.{IsBounded}
use Rattle.unit_runs.specs.CostThrough.{least_between, reserve_cost}
use Rattle.unit_runs.proofs.Costs.{least_between-reached}
use Rattle.state_walk.specs.inside.CostToEnd.{cost_to_end, highest_end, hours_after, lowest_end}
use Rattle.state_walk.specs.inside.Problems.{IsLawful, Steps, Table, Thermal}
use Rattle.hull_function.specs.Hours.{with_output, IsCostsOf, IsNear, MAX_RUN}
use Rattle.state_walk.proofs.RestSizes.{hours-size, rest-size}

-- ---- no hours are left
pub ended : (periods : ℕ) (table : Table) (unit : Thermal) (t : ℕ) (f : Steps) → f.first ≡ lowest_end periods unit t → last_place f ≡ highest_end periods unit t
    → ((p : ℤ) → IsPlace f p → value_at f p ≡ pos 0) → IsCostsOf true f (cost_to_end periods table unit 0 t false)
ended periods table unit t f first last level = grind (arith, ints, last, level)

-- ---- where there are no costs there are none before them
pub none-after-dead : (table : Table) (unit : Thermal) (t : ℕ) (cap : ℤ) (f : Steps) (hours : ℤ → Option ℤ) → IsCostsOf false f hours
    → IsCostsOf false f (hours_after table unit t cap hours)
none-after-dead table unit t cap f hours is = record {
  inside = λ live. absurd (true≢false (sym live));
  outside = λ q v e.
      let parts = total_of-parts (least_between (q -ℤ unit.rd) (q +ℤ unit.ru) hours) (Some (reserve_cost table unit t cap q)) v e in
      let found = least_between-reached (q -ℤ unit.rd) (q +ℤ unit.ru) hours parts.first parts.first_is in
      absurd (true≢false (sym (is.outside found.at parts.first found.is).0));
}

-- ---- sizes
module _ (periods : ℕ) (table : Table) (unit : Thermal) (hull : Steps) (lawful : IsLawful periods table unit hull) (n t : ℕ) (within : t + n < periods)
    (alive : Bool) (f : Steps) (live : alive ≡ true) where
  few : n ≤ 168
  few = let most = lawful.problem.periods_are.1 in omega (arith, within, most)

  pub rest-bounded : IsCostsOf alive f (cost_to_end periods table unit n (suc t) false) → IsBounded f MAX_RUN
  rest-bounded is p place =
      let small = (rest-size periods table unit hull lawful n (suc t) false (omega (arith, within)) p (value_at f p) (is.inside live p place)).cost in
      let short = few in
      omega (arith, small, short)

  pub hours-bounded : IsCostsOf alive f (with_output table unit t (cell_cap periods unit t false (n == 0)) (cost_to_end periods table unit n (suc t) false))
      → IsBounded f MAX_RUN
  hours-bounded is p place =
      let small = (hours-size periods table unit hull lawful n t false within p (value_at f p) (is.inside live p place)).cost in
      let short = few in
      omega (arith, small, short)

  pub hours-near : IsCostsOf alive f (with_output table unit t (cell_cap periods unit t false (n == 0)) (cost_to_end periods table unit n (suc t) false))
      → IsNear 3 f
  hours-near is p place =
      let small = hours-size periods table unit hull lawful n t false within p (value_at f p) (is.inside live p place) in
      let low = small.low in
      let high = small.high in
      omega (arith, ints, low, high)

-- ---- room
pub spare-room : (n periods x count room : ℕ) → n < periods → count ≤ suc n * (x + 2) + x → ((periods + 2) * (x + 2)) ≤ room → count < room
spare-room n periods x count room l pieces enough = grind (arith, ints, l, pieces, enough)
