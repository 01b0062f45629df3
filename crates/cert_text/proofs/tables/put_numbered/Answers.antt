-- Each turn puts the table of its number behind the one before it.
use Rattle.std.proofs.Common.{arith}
use Rattle.std.proofs.lemmas.List.{get_or-map, get_or_read, length-map}
use Rattle.cert_text.proofs.Written.{next_table, last_table}
use Rattle.cert_text.proofs.tables.put_numbered.Goals as goal

pub loop-number-init : goal.loop-number-init
loop-number-init g c = λ end rest. rest

pub loop-number-preserved : goal.loop-number-preserved
loop-number-preserved g c = grind (arith, get_or_read, get_or-map, next_table, length-map, g, c)

pub returns : goal.returns
returns g c = grind (arith, last_table, length-map, g, c)
