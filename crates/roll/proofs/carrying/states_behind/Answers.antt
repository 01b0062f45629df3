-- The next unit with its row.
use Rattle.std.proofs.Common.{List, ◌≡◌, ◌+◌, [], sym, subst, ◌∙◌, arith}
use Rattle.std.proofs.lemmas.List.{get_or_read}
use Rattle.uc_model.specs.Prelude.{no_unit, IsLawfulThermal}
use Rattle.roll.specs.Prelude.{CarriedUnit, IsLeftBy}
use Rattle.roll.specs.inside.Rows.{AreStatesBehind, row_at, unit_at}
use Rattle.roll.proofs.CarriedRows.{states_more}
use Rattle.roll.proofs.carrying.states_behind.Goals as goal

unit_is : (c : goal.After-as_slice) → c.index-units-g.result ≡ unit_at c.args.units.now c.loop-g.g
unit_is c = get_or_read c.args.units.now c.loop-g.g c.index-units-g.result c.loop-g-test.true c.index-units-g.is no_unit

row_is : (c : goal.After-as_slice) → c.as_slice.result.now ≡ row_at c.args.rows.now c.loop-g.g
row_is c = grind (arith, get_or_read)

pub state_behind-requires-clause-lawful : goal.state_behind-requires-clause-lawful
state_behind-requires-clause-lawful c = subst IsLawfulThermal (sym (unit_is c)) (c.requires.lawful c.loop-g.g c.loop-g-test.true)

pub state_behind-requires-clause-last : goal.state_behind-requires-clause-last
state_behind-requires-clause-last c = grind (arith, unit_is, row_is, c)

pub loop-g-preserved : goal.loop-g-preserved
loop-g-preserved c =
    let unit : c.index-units-g.result ≡ unit_at c.args.units.now c.loop-g.g = get_or_read c.args.units.now c.loop-g.g c.index-units-g.result c.loop-g-test.true c.index-units-g.is no_unit in
    let row : c.as_slice.result.now ≡ row_at c.args.rows.now c.loop-g.g = c.as_slice.ensures
    ∙ get_or_read c.args.rows.now c.loop-g.g c.index-rows-g.result (omega (arith, c.requires.rows.count, c.loop-g-test.true)) c.index-rows-g.is [] in
    let left : IsLeftBy (unit_at c.args.units.now c.loop-g.g) (row_at c.args.rows.now c.loop-g.g) c.args.end c.state_behind.result = subst (λ u. IsLeftBy u (row_at c.args.rows.now c.loop-g.g) c.args.end c.state_behind.result) unit
    (subst (λ r. IsLeftBy c.index-units-g.result r c.args.end c.state_behind.result) row c.state_behind.ensures.left) in
    subst (AreStatesBehind c.args.units.now c.args.rows.now c.args.end (c.loop-g.g + 1)) (sym {A = List CarriedUnit} c.in_ok-push.ensures.items)
    (states_more c.args.units.now c.args.rows.now c.args.end c.loop-g.g c.loop-g.states.items c.state_behind.result c.loop-g.invariant left c.state_behind.ensures.lawful)
