-- The stop is looked for in the next period.
use Rattle.std.proofs.Common.{◌≡◌, suc, ◌+◌, ◌∙◌, ap, arith, rules}
use Rattle.uc_model.specs.Prelude.{stops}
use Rattle.schedule_check.specs.WholeWatts.{commitment}
use Rattle.schedule_check.proofs.dispatch.is_below_stop_cap.Goals as goal

pub returns : goal.returns
returns c =
    let next : c.args.t + 1 ≡ suc c.args.t = omega arith in
    let stop = c.stops.ensures ∙ ap (λ k. stops c.args.unit.now (commitment c.args.row.now) k) next in
    search (rules, stop)
