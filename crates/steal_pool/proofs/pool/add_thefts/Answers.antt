-- One way more.
use Rattle.std.proofs.Common.{arith}
use Rattle.std.proofs.lemmas.Simd.{map-map}
use Rattle.steal_pool.proofs.Making.{made_more}
use Rattle.steal_pool.proofs.pool.add_thefts.Goals as goal

pub loop-victim-preserved : goal.loop-victim-preserved
loop-victim-preserved c = grind (arith, made_more, map-map, c)
