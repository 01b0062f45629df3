-- The renewable units so far give their least.
use Rattle.decommitment.specs.inside.Fills.{IsBegunTo, hour_period}
use Rattle.decommitment.proofs.fill.begin_free.Given as goal

abbrev pub invariant-loop-w : goal.invariant-loop-w
invariant-loop-w l = IsBegunTo (hour_period l.system l.hour) l.w l.sums l.fill
