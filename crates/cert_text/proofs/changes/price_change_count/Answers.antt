-- Each turn counts the line of its period; past the shorter list there is none.
use Rattle.std.proofs.Common.{arith}
use Rattle.std.proofs.lemmas.Int.{to_z-of_z}
use Rattle.cert_text.proofs.Written.{next_price_count}
use Rattle.table_list.proofs.PriceChanges.{last_price}
use Rattle.cert_text.proofs.changes.price_change_count.Goals as goal

pub loop-t-preserved : goal.loop-t-preserved
loop-t-preserved c = grind (arith, to_z-of_z, next_price_count, c)

pub returns-clause-count : goal.returns-clause-count
returns-clause-count c = grind (arith, last_price, c)
