-- The units so far.
use Rattle.roll.specs.inside.Units.{AreWithin}
use Rattle.roll.proofs.windows.renewables_within.Given as goal

abbrev pub invariant-loop-w : goal.invariant-loop-w
invariant-loop-w l = AreWithin l.units l.start l.len l.w l.within.items
