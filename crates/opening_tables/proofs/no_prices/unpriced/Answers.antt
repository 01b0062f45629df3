-- The table that is made is that of no prices, which is lawful.
use Rattle.std.proofs.Common.{arith, ◌≡◌, length, w64, to_z, of_z}
use Rattle.std.proofs.lemmas.Result.{IfOk-weaker}
use Rattle.dual_model.specs.Prelude.{unpriced_table}
use Rattle.opening_tables.proofs.NoPrices.{made_of, unpriced_lawful}
use Rattle.opening_tables.proofs.no_prices.unpriced.Goals as goal
use Rattle.opening_tables.proofs.no_prices.unpriced.Goals.{After-drop-zeros}

is_unpriced : (c : After-drop-zeros)
    → made_of (length c.as_slice.result.now) (to_z w64 (of_z w64 c.args.k)) c.deref.result.now c.deref-2.result.now ≡ unpriced_table c.args.instance.now c.args.k
is_unpriced c = grind arith

pub new-requires : goal.new-requires
new-requires c = grind (arith, c)

pub returns-clause-table : goal.returns-clause-table
returns-clause-table c = grind (arith, c)

pub returns-clause-lawful : goal.returns-clause-lawful
returns-clause-lawful c = grind (arith, IfOk-weaker, made_of, is_unpriced, unpriced_lawful, c)
