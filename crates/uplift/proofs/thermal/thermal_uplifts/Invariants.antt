-- The units before g have their uplifts.
use Rattle.uc_model.specs.Prelude.{thermal_count}
use Rattle.uplift.specs.inside.Lists.{AreFirst, uplift_by}
use Rattle.uplift.proofs.thermal.thermal_uplifts.Given as goal

abbrev pub invariant-loop-g : goal.invariant-loop-g
invariant-loop-g l = AreFirst (thermal_count l.instance) l.g (uplift_by l.instance l.printed l.table l.parts) l.uplifts.items
