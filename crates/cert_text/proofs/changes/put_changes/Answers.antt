-- Each turn puts the change of its place.
use Rattle.std.proofs.Common.{arith}
use Rattle.std.proofs.lemmas.List.{length-map, drop_all}
use Rattle.cert_text.proofs.Written.{next_change}
use Rattle.cert_text.proofs.changes.put_changes.Goals as goal

pub loop-change-init : goal.loop-change-init
loop-change-init g c = λ end rest. rest

pub loop-change-preserved : goal.loop-change-preserved
loop-change-preserved g c = grind (arith, next_change, g, c)

pub returns : goal.returns
returns g c = grind (arith, drop_all, length-map, g, c)
