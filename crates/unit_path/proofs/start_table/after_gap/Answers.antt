-- The categories that the gap allows, after those without a stop.
use Rattle.std.proofs.Common.{add-one, arith}
use Rattle.std.proofs.lemmas.Int.{to_z-of_z}
use Rattle.unit_path.proofs.Gaps.{sigma-gap}
use Rattle.unit_path.proofs.start_table.after_gap.Goals as goal

pub loop-s-preserved : goal.loop-s-preserved
loop-s-preserved c = grind (arith, add-one, to_z-of_z, c)

pub returns : goal.returns
returns c = grind (arith, to_z-of_z, sigma-gap, c)
