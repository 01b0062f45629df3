-- A start cost is within its limit.
use Rattle.std.proofs.Common.{◌≤◌, refl, subst, sym, unsigned_abs}
use Rattle.uc_model.specs.declared.limits.TheConstants.{MAX_COST}
use Rattle.uc_model.proofs.Common.{from-size, sigma-size}
use Rattle.dual_model.specs.Prelude.{stop_since}
use Rattle.unit_path.proofs.rests.from_start.Goals as goal

pub priced_start-requires-clause-cost : goal.priced_start-requires-clause-cost
priced_start-requires-clause-cost c =
    from-size c.start_cost-cost.result _ MAX_COST refl
    (subst (λ z. unsigned_abs z ≤ MAX_COST) (sym c.start_cost-cost.ensures) (sigma-size c.args.unit.now c.requires.lawful (stop_since c.args.since) c.args.t))
