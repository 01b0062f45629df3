-- A rise is small.
use Rattle.std.proofs.Common.{◌*◌, arith, ap, ◌∙◌, ◌-ℤ◌, add-one}
use Rattle.uc_model.specs.Prelude.{point_of}
use Rattle.uc_model.specs.declared.limits.TheConstants.{MAX_COST}
use Rattle.uc_model.proofs.Common.{narrow}
use Rattle.dispatch_rules.specs.Prelude.{rise_at}
use Rattle.dispatch_table.proofs.given.Given.rise.Goals as goal

pub returns-clause-value : goal.returns-clause-value
returns-clause-value c =
    narrow c.rise.result (2 * MAX_COST) c.rise.ensures.size (omega arith)
    ∙ c.rise.ensures.value
    ∙ ap (λ m. (point_of c.corners-corners.result.now m).cost -ℤ (point_of c.corners-corners.result.now c.args.k).cost) (add-one c.args.k)
    ∙ ap (λ corners. rise_at corners c.args.k) c.corners-corners.ensures.value
