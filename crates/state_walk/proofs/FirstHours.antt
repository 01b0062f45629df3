-- A run that begins with an hour: of the hours from there on, cut to what the beginning lets be.
use Rattle.std.proofs.Common.{◌≡◌, ℕ, ◌*◌, ◌≤◌, Bool, true, false, true≢false, sym, ap, ◌∙◌, arith, ℤ, pos, ◌+ℤ◌, ◌-ℤ◌, ◌*ℤ◌, neg_ℤ, ◌≤ℤ◌, to_z, of_z, unsigned_abs, FitsSigned, Option, Some, None}
use Rattle.std.specs.Int.{w64, w128, int_min}
use Rattle.std.proofs.lemmas.Int.{ints, clamps}
use Rattle.std.proofs.lemmas.Bool.{cond-true}
use Rattle.uc_model.specs.Prelude.{IsLimit, cell_cap}
use Rattle.uc_model.proofs.Common.{linear, mul-one, mul-zero, abs_mul, int_min_left, int_min_right}
use Rattle.dual_model.specs.Prelude.{greatest_output, total_of}
use Rattle.dual_model.proofs.Optimum.{AtMost}
use Rattle.step_functions.specs.Functions.{Steps, IsPlace, value_at}
use Rattle.unit_runs.specs.CostThrough.{is_output, least_between, output_cost, reserve_cost}
use Rattle.unit_runs.proofs.Costs.{least_between-at_most, least_between-reached}
use Rattle.state_walk.specs.inside.CostToEnd.{hours_after}
use Rattle.state_walk.specs.inside.Problems.{Table, Thermal, MAX_POWER, MAX_PRICE}
use Rattle.hull_function.proofs.Represented.{IsCut, cut-place, le_min, least-is, least-left, least-none, output-there, output-within, same-least, through}
use Rattle.hull_function.specs.Hours.{with_output, IsCostsOf, MAX_RUN}

-- ---- a limit on starts takes of the cap
pub first-cap : (periods : ℕ) (unit : Thermal) (t : ℕ) (last : Bool) → cell_cap periods unit t true last ≤ℤ cell_cap periods unit t false last
first-cap periods unit t last = grind (arith, ints, clamps, mul-one, mul-zero)

module _ (table : Table) (unit : Thermal) (t : ℕ) (first cap entry : ℤ) (behind : ℤ → Option ℤ) (order : first ≤ℤ cap) where
  -- ---- outputs that the first hour may have
  shorter : (p v : ℤ) → with_output table unit t first behind p ≡ Some v → (p ≤ℤ first) × (with_output table unit t cap behind p ≡ Some v)
  shorter p v e =
      let found = through (is_output unit first p) (total_of (Some (output_cost table unit t p)) (behind p)) v e in
      let within = output-within unit first p found.0 in
      let below = within.1 in
      let left = int_min_left first (greatest_output unit.points) in
      let right = int_min_right first (greatest_output unit.points) in (
        omega (arith, linear, below, left),
        cond-true (is_output unit cap p) _ None
            (output-there unit cap p within.0 (le_min p cap (greatest_output unit.points) (omega (arith, linear, below, left, order)) (omega (arith, linear, below, right))))
            ∙ found.1,
      )

  longer : (p v : ℤ) → p ≤ℤ first → with_output table unit t cap behind p ≡ Some v → with_output table unit t first behind p ≡ Some v
  longer p v most e =
      let found = through (is_output unit cap p) (total_of (Some (output_cost table unit t p)) (behind p)) v e in
      let within = output-within unit cap p found.0 in
      let below = within.1 in
      let right = int_min_right cap (greatest_output unit.points) in
      cond-true (is_output unit first p) _ None
      (output-there unit first p within.0 (le_min p first (greatest_output unit.points) most (omega (arith, linear, below, right))))
      ∙ found.1

  abbrev pub low : ℤ
  low = entry -ℤ unit.rd

  abbrev pub high : ℤ
  high = int_min first (entry +ℤ unit.ru)

  least-same : least_between low (entry +ℤ unit.ru) (with_output table unit t first behind) ≡ least_between low high (with_output table unit t cap behind)
  least-same = same-least _ _ there back
    where
      there : (v : ℤ) → least_between low (entry +ℤ unit.ru) (with_output table unit t first behind) ≡ Some v
          → AtMost (least_between low high (with_output table unit t cap behind)) v
      there v e =
          let reached = least_between-reached low (entry +ℤ unit.ru) (with_output table unit t first behind) v e in
          let own = shorter reached.at v reached.is in
          least_between-at_most low high (with_output table unit t cap behind) reached.at v reached.from (le_min reached.at first (entry +ℤ unit.ru) own.0 reached.to)
          (record { cost = v; is = own.1; below = omega (arith, linear) })

      back : (v : ℤ) → least_between low high (with_output table unit t cap behind) ≡ Some v
          → AtMost (least_between low (entry +ℤ unit.ru) (with_output table unit t first behind)) v
      back v e =
          let reached = least_between-reached low high (with_output table unit t cap behind) v e in
          let to = reached.to in
          let left = int_min_left first (entry +ℤ unit.ru) in
          let right = int_min_right first (entry +ℤ unit.ru) in
          least_between-at_most low (entry +ℤ unit.ru) (with_output table unit t first behind) reached.at v reached.from (omega (arith, linear, to, right))
          (record { cost = v; is = longer reached.at v (omega (arith, linear, to, left)) reached.is; below = omega (arith, linear) })

  abbrev pub begun_cost : Option ℤ
  begun_cost = hours_after table unit t first (with_output table unit t first behind) entry

  with_reserve : (o : Option ℤ) → least_between low high (with_output table unit t cap behind) ≡ o
      → total_of o (Some (reserve_cost table unit t first entry)) ≡ begun_cost
  with_reserve o e = ap (λ x. total_of x (Some (reserve_cost table unit t first entry))) (sym e ∙ sym least-same)

  -- ---- by the function of the hours
  module _ (f g : Steps) where
    pub none-alive : IsCostsOf false f (with_output table unit t cap behind) → None ≡ begun_cost
    none-alive is =
        with_reserve None (least-none low high (with_output table unit t cap behind) (λ p v from to e. absurd (true≢false (sym (is.outside p v e).0))))

    pub none-left : (some : Bool) → IsCostsOf true f (with_output table unit t cap behind) → IsCut f g low high some → some ≡ false → None ≡ begun_cost
    none-left some is cut dead =
        with_reserve None (least-none low high (with_output table unit t cap behind)
        (λ p v from to e. absurd (true≢false (sym (cut-place f g low high some cut p (is.outside p v e).1 from to).0 ∙ dead))))

    pub some-left : (some : Bool) (place v earned : ℤ) → IsCostsOf true f (with_output table unit t cap behind) → IsCut f g low high some → some ≡ true
        → IsPlace g place → value_at g place ≡ v → ((p : ℤ) → IsPlace g p → v ≤ℤ value_at g p) → neg_ℤ earned ≡ reserve_cost table unit t first entry
        → Some (v -ℤ earned) ≡ begun_cost
    some-left some place v earned is cut live at value least reserve =
        ap Some (omega (arith, linear, reserve))
        ∙ with_reserve (Some v) (least-is f (with_output table unit t cap behind) low high v is (least-left f g low high some cut place v live at value least))

-- ---- the numbers of the first hour as their bits
pub low-is : (entry down : ℤ) → unsigned_abs entry ≤ 2 * MAX_POWER → IsLimit down
    → (to_z w64 (of_z w64 (to_z w64 (of_z w64 entry) -ℤ to_z w64 (of_z w64 down))) ≡ entry -ℤ down) × (unsigned_abs (entry -ℤ down) ≤ 3 * MAX_POWER)
low-is entry down h limit = grind (arith, ints, h, limit)

pub most-is : (cap entry up least : ℤ) → unsigned_abs cap ≤ MAX_POWER → unsigned_abs entry ≤ 2 * MAX_POWER → IsLimit up
    → least ≡ int_min (to_z w64 (of_z w64 cap)) (to_z w64 (of_z w64 (to_z w64 (of_z w64 entry) +ℤ to_z w64 (of_z w64 up))))
    → (to_z w64 (of_z w64 least) ≡ int_min cap (entry +ℤ up)) × (unsigned_abs (int_min cap (entry +ℤ up)) ≤ 3 * MAX_POWER)
most-is cap entry up least h k limit e = grind (arith, ints, h, k, limit, e)

-- ---- what the reserve earns
pub earned-is : (worth most own a b : ℤ) → (pos 0 ≤ℤ worth) × (worth ≤ℤ pos MAX_PRICE) → own ≡ most → unsigned_abs most ≤ 3 * MAX_POWER
    → a ≡ to_z w64 (of_z w64 worth) → b ≡ own
    → (to_z w128 (of_z w128 a) *ℤ to_z w128 (of_z w128 b) ≡ worth *ℤ most) × (unsigned_abs (worth *ℤ most) ≤ MAX_PRICE * (3 * MAX_POWER))
earned-is worth most own a b sized is small e d = grind (arith, ints, abs_mul, sized, is, small, e, d)

pub less-earned : (v product earned : ℤ) → unsigned_abs v ≤ MAX_RUN → product ≡ earned → unsigned_abs earned ≤ MAX_PRICE * (3 * MAX_POWER)
    → FitsSigned w128 (to_z w128 (of_z w128 v) -ℤ to_z w128 (of_z w128 product))
    × (to_z w128 (of_z w128 (to_z w128 (of_z w128 v) -ℤ to_z w128 (of_z w128 product))) ≡ v -ℤ earned)
less-earned v product earned h e k = (omega (arith, ints), omega (arith, ints))
