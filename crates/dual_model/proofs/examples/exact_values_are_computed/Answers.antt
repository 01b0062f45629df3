-- Each example is computed, but for the exact values of the unit of 40 MW, in watts.
use Rattle.std.proofs.Common.{◌≡◌, ℕ, ◌<◌, refl, subst, arith, pos, neg_ℤ}
use Rattle.uc_model.specs.Prelude.{mw}
use Rattle.dual_model.specs.Prelude.{IsUnitValue, IsExactUnitValue, root, alone, sinking_unit, ray}
use Rattle.dual_model.specs.ExactValue.{floored_cost}
use Rattle.dual_model.proofs.Computed.{computed_value, computed_unit_value}
use Rattle.dual_model.proofs.NodeValues.{node_value_of, units_value_of}
use Rattle.dual_model.proofs.UnitValues.{unit_value_of, value_of, term_of}
use Rattle.dual_model.proofs.Patterns.{best_pattern, better}
use Rattle.dual_model.proofs.Terms.{least_reduced_cost, greatest_bound, corner_least, pair_least}
use Rattle.dual_model.proofs.SinkingUnit
use Rattle.dual_model.proofs.examples.exact_values_are_computed.Goals as goal

pub returns : goal.returns
unfolding node_value_of units_value_of unit_value_of best_pattern better value_of term_of least_reduced_cost greatest_bound corner_least pair_least floored_cost
returns c = record {
  off = computed_unit_value refl refl refl;
  kept = SinkingUnit.kept_value;
  unpriced = computed_value refl refl;
  exact = record {
    unit_value = λ g. pos 0;
    exact_value = λ g. mw 15;
    units = λ g l. units_at g l;
    exact_units = λ g l. exact_at g l;
    total = refl;
  };
  up = refl;
  down = refl;
  halves = refl;
}
  where
    alone_at : (g : ℕ) → g < 1 → 0 ≡ g
    alone_at g l = omega (arith, l)

    units_at : (g : ℕ) → g < 1 → IsUnitValue (alone sinking_unit 5 0) root (ray (neg_ℤ (pos 1)) (pos 0) (alone sinking_unit 5 0)) g (pos 0)
    units_at g l =
        subst (λ k. IsUnitValue (alone sinking_unit 5 0) root (ray (neg_ℤ (pos 1)) (pos 0) (alone sinking_unit 5 0)) k
        (pos 0)) (alone_at g l)
        (computed_unit_value refl refl refl)

    exact_at : (g : ℕ) → g < 1 → IsExactUnitValue (alone sinking_unit 5 0) root (ray (neg_ℤ (pos 1)) (pos 0) (alone sinking_unit 5 0)) g
        (mw 15)
    exact_at g l =
        subst (λ k. IsExactUnitValue (alone sinking_unit 5 0) root
        (ray (neg_ℤ (pos 1)) (pos 0) (alone sinking_unit 5 0)) k (mw 15)) (alone_at g l)
        SinkingUnit.ray_value
