-- The part of the rise is no greater than the rise.
use Rattle.std.proofs.Common.{◌*◌, ◌≤◌, sym, subst, ◌∙◌, arith, lit<, pos, ◌*ℤ◌, ◌<ℤ◌, to_z, of_z, unsigned_abs}
use Rattle.std.specs.Int.{w128}
use Rattle.std.proofs.lemmas.Int.{to_z-of_z}
use Rattle.uc_model.specs.Prelude.{IsFloor}
use Rattle.uc_model.specs.declared.limits.TheConstants.{MAX_POWER}
use Rattle.dual_model.specs.declared.limits.TheConstants.{MAX_CAP}
use Rattle.uc_model.proofs.Common.{linear, sub_nonneg, product-fits}
use Rattle.uc_model.proofs.Sizes.{wide}
use Rattle.period_term.specs.inside.Places.{over_of, rise_of, run_of, MAX_OVER, MAX_RISE}
use Rattle.period_term.proofs.CornerNumbers.{passed-size, rise_down-is}
use Rattle.period_term.proofs.cell.rise_down.Goals as goal

pub product-rising-requires : goal.product-rising-requires
product-rising-requires c = product-fits c.rise.result c.over.result MAX_RISE MAX_OVER c.rise.ensures.size c.over.ensures.size (lit< tt)

pub over-requires-clause-cap : goal.over-requires-clause-cap
over-requires-clause-cap c = passed-size c.args.cap MAX_CAP c.requires.cap

pub floor_div-requires : goal.floor_div-requires
floor_div-requires c =
    subst (λ z. pos 0 <ℤ z) (sym (wide c.run.result (4 * MAX_POWER) c.run.ensures.size (lit< tt) ∙ c.run.ensures.value))
    (omega (arith, linear, c.requires.segment.begins, c.requires.segment.reaches))

part : (c : goal.After-floor_div) → IsFloor ((c.args.prices.now.k *ℤ rise_of c.args.corners.now c.args.left) *ℤ over_of c.args.corners.now c.args.cap c.args.left)
    (run_of c.args.corners.now c.args.left) (to_z w128 (of_z w128 c.floor_div.result))
    × (unsigned_abs (to_z w128 (of_z w128 c.floor_div.result)) ≤ MAX_RISE)
part c = grind (arith, linear, rise_down-is, to_z-of_z, sub_nonneg)

pub returns-clause-floor : goal.returns-clause-floor
returns-clause-floor c = (part c).0

pub returns-clause-size : goal.returns-clause-size
returns-clause-size c = (part c).1
