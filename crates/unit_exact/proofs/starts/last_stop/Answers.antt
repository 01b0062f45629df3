-- By whether the stop is in the horizon.
use Rattle.std.proofs.Common.{sym, arith}
use Rattle.unit_exact.proofs.Since.{since-none, since-some}
use Rattle.unit_exact.proofs.starts.last_stop.Goals as goal

pub returns-then-since-eq0 : goal.returns-then-since-eq0
returns-then-since-eq0 c = sym (since-none c.args.since c.if-since-eq0.true)

pub returns-else-since-eq0 : goal.returns-else-since-eq0
returns-else-since-eq0 c = sym (since-some c.args.since (omega (arith, c.if-since-eq0.false)))
