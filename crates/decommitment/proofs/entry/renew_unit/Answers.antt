-- The unit is alike, or it enters in the place of its part in the base.
use Rattle.std.proofs.Common.{◌≡◌, ◌+◌, arith, length, ap, subst}
use Rattle.uc_model.specs.Prelude.{renewable_count}
use Rattle.uc_model.proofs.Common.{narrow}
use Rattle.decommitment.specs.inside.Fills.{IsAlike}
use Rattle.decommitment.proofs.Entries.{entered_alike, former_sizes, renewed}
use Rattle.decommitment.proofs.entry.renew_unit.Goals as goal

pub returns-then-is_alike-clause-entered : goal.returns-then-is_alike-clause-entered
returns-then-is_alike-clause-entered c =
    let count : length c.as_slice.result.now ≡ renewable_count c.args.system.now.instance.now = ap length c.as_slice.ensures in
    entered_alike c.args.system.now c.args.hour.now c.args.base.now c.requires.hour c.requires.base c.args.g c.args.fill.now c.requires.unit
    (subst (λ m. IsAlike c.args.hour.now c.args.base.now c.args.g (m + c.args.g)) count (c.is_alike.ensures c.if-is_alike.true)) c.requires.entered

pub unit_part-old-requires-clause-before : goal.unit_part-old-requires-clause-before
unit_part-old-requires-clause-before c = grind (arith, narrow, c)

pub returns-clause-entered : goal.returns-clause-entered
returns-clause-entered c = grind (arith, narrow, renewed, former_sizes, c)
