-- The units before the place have their rows.
use Rattle.std.proofs.Common.{◌≡◌}
use Rattle.dual_model.specs.Prelude.{first_rows}
use Rattle.opening_tables.specs.inside.Rays.{down_of, up_of}
use Rattle.opening_tables.proofs.rays.ramp_rows.Given as goal

abbrev pub invariant-loop-g : goal.invariant-loop-g
invariant-loop-g l = l.rows.items ≡ first_rows l.instance (up_of l.ramps) (down_of l.ramps) l.g
