-- Each turn puts the line of its period; past the shorter list there is none.
use Rattle.std.proofs.Common.{arith}
use Rattle.std.proofs.lemmas.Int.{to_z-of_z}
use Rattle.cert_text.proofs.Written.{next_price}
use Rattle.table_list.proofs.PriceChanges.{last_price}
use Rattle.cert_text.proofs.changes.put_price_changes.Goals as goal

pub loop-t-init : goal.loop-t-init
loop-t-init g c = λ end rest. rest

pub loop-t-preserved : goal.loop-t-preserved
loop-t-preserved g c = grind (arith, to_z-of_z, next_price, g, c)

pub returns : goal.returns
returns g c = grind (arith, last_price, g, c)
