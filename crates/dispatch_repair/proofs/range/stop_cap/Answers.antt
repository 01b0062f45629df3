-- The stop is looked for in the next period.
use Rattle.std.proofs.Common.{◌≡◌, suc, ◌+◌, ◌∙◌, ap, arith, rules}
use Rattle.uc_model.specs.Prelude.{stops, commitment_of}
use Rattle.dispatch_repair.proofs.range.stop_cap.Goals as goal

pub returns-clause-value : goal.returns-clause-value
returns-clause-value c =
    let next : c.args.t + 1 ≡ suc c.args.t = omega arith in
    let stop = c.stops.ensures ∙ ap (λ k. stops c.args.unit.now (commitment_of c.args.pattern.now) k) next in
    search (rules, stop)
