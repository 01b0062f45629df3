-- Widths and rises are small, and widths above 0.
use Rattle.std.proofs.Common.{◌≡◌, ◌*◌, arith, sym, subst, ◌∙◌, pos, ◌<ℤ◌, to_z, of_z}
use Rattle.std.specs.Int.{w64}
use Rattle.uc_model.specs.declared.limits.TheConstants.{MAX_COST, MAX_POWER}
use Rattle.uc_model.proofs.Common.{narrow}
use Rattle.cost_curves.specs.UnitCurves.{curve_in}
use Rattle.fractions.specs.Fractions.{lowest}
use Rattle.dispatch_rules.specs.Prelude.{width_at}
use Rattle.dispatch_table.specs.Tasks.{task_of}
use Rattle.dispatch_table.proofs.Scales.{width_positive}
use Rattle.dispatch_table.proofs.scale.slope.Goals as goal

width_is : (c : goal.After-lowest) → to_z w64 (of_z w64 c.width.result) ≡ width_at (curve_in c.args.given.now.curves.now c.args.g) c.args.k
width_is c = narrow c.width.result (2 * MAX_POWER) c.width.ensures.size (omega arith) ∙ c.width.ensures.value

pub lowest-requires : goal.lowest-requires
lowest-requires c =
    subst (λ z. pos 0 <ℤ z) (sym (narrow c.width.result (2 * MAX_POWER) c.width.ensures.size (omega arith) ∙ c.width.ensures.value))
    (width_positive (task_of c.args.given.now) c.requires.given.curves.curve c.args.g c.args.k c.requires.unit c.requires.segment)

pub returns : goal.returns
returns c =
    c.lowest.ensures
    ∙ (λ i. lowest ((narrow c.rise.result (2 * MAX_COST) c.rise.ensures.size (omega arith) ∙ c.rise.ensures.value) i) (width_is c i))
