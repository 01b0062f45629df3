-- One uplift more.
use Rattle.std.proofs.Common.{◌<◌, ap, length, ◌∙◌, arith, pos, ◌-ℤ◌}
use Rattle.uc_model.specs.Prelude.{thermal_count}
use Rattle.uc_model.proofs.Common.{wide-size}
use Rattle.uc_model.proofs.Sizes.{wide}
use Rattle.dual_model.specs.Prelude.{MAX_PART, constant_at}
use Rattle.uplift.specs.Sizes.{MAX_UPLIFT}
use Rattle.uplift.specs.Uplift.{thermal_uplift}
use Rattle.uplift.specs.inside.Lists.{number_in, uplift_by}
use Rattle.uplift.proofs.Lists.{more_first}
use Rattle.uplift.proofs.thermal.thermal_uplifts.Goals as goal

pub loop-g-preserved : goal.loop-g-preserved
loop-g-preserved c =
    let instance = c.args.instance.now in
    let printed = c.args.printed.now in
    let table = c.args.table.now in
    let parts = c.args.parts.now in
    let g = c.loop-g.g in
    let within : g < length parts = omega (arith, c.loop-g-test.true) in
    let part = wide (number_in parts g) MAX_PART (c.requires.part g (pos 0) within) (omega arith) in
    more_first (thermal_count instance) g (uplift_by instance printed table parts) c.loop-g.uplifts.items _ (omega (arith, within, c.requires.parts))
    (wide c.unit_uplift.result MAX_UPLIFT c.unit_uplift.ensures.size (omega arith) ∙ c.unit_uplift.ensures.value
    ∙ ap (λ z. thermal_uplift instance printed table g (z -ℤ constant_at instance table g)) part)
    (wide-size c.unit_uplift.result MAX_UPLIFT c.unit_uplift.ensures.size) c.loop-g.invariant
