-- A row more goes behind those that were read; where one can't stand, the rows stop.
use Rattle.cert_text.specs.inside.Parts.{sizes}
use Rattle.cert_text.proofs.Loops.{ramp_more, no_ramp, ramps_done}
use Rattle.cert_text.proofs.reader.table.take_ramp_rows.Goals as goal

pub returns-in_default : goal.returns-in_default
returns-in_default c = no_ramp (sizes c.args.size.now) c.loop.rows.items c.args.count c.loop.counter c.loop.before c.loop.rest.now _ c.loop-test.true c.in_default.ensures c.loop.invariant

pub loop-preserved : goal.loop-preserved
loop-preserved c = ramp_more (sizes c.args.size.now) c.loop.rows.items _ c.args.count c.loop.counter c.loop.before c.loop.rest.now _ _ _ c.loop-test.true c.in-Some.ensures c.in_ok-push.ensures.items c.loop.invariant

pub returns : goal.returns
returns c = ramps_done (sizes c.args.size.now) c.loop.rows.items c.args.count c.loop.counter c.loop.before c.loop.rest.now _ c.loop-test.false c.loop.invariant
