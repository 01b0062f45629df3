-- The state goes on, or is switched.
use Rattle.std.proofs.Common.{refl, not}
use Rattle.dual_model.proofs.Following.{stretch-kept, stretch-turned, traced-more}
use Rattle.dual_model.proofs.traces.Trace.follow.Goals as goal

pub returns-then-t-self-clause-traced : goal.returns-then-t-self-clause-traced
returns-then-t-self-clause-traced c = λ choices on first start stop traced.
    let now = c.args.self in
    traced-more choices on first c.args.t now (record { pattern = c.with_period.result; on = now.on; until = now.until; end = now.end }) refl
    (stretch-kept choices now.end c.args.t now.until now.on c.if-t-self.true) c.with_period.ensures.here c.with_period.ensures.others traced

pub returns-clause-traced : goal.returns-clause-traced
returns-clause-traced c = λ choices on first start stop traced.
    let now = c.args.self in
    let until = c.next_switch.result in
    traced-more choices on first c.args.t now (record { pattern = c.with_period-2.result; on = not now.on; until = until; end = now.end }) refl
    (stretch-turned choices now.end c.args.t now.until until now.on c.args.start.now c.args.stop.now start stop c.if-t-self.false c.next_switch.ensures)
    c.with_period-2.ensures.here c.with_period-2.ensures.others traced
