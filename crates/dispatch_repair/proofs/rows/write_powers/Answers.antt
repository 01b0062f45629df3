-- The thermal units' amounts are behind the renewable ones', and the need is the one that is passed on.
use Rattle.std.proofs.Common.{◌≡◌, ◌+◌, ◌-◌, [], ap, arith, drop, get_or-drop, get_or-take, length, pos, slice_set, sym, take, ◌∙◌}
use Rattle.std.proofs.lemmas.List.{length-drop, length-map, take_all}
use Rattle.uc_model.specs.Prelude.{renewable_count, thermal_count}
use Rattle.uc_model.specs.declared.limits.TheConstants.{MAX_POWER}
use Rattle.uc_model.proofs.Common.{narrow}
use Rattle.dispatch_repair.specs.Prelude.{thermal_amount, rows_of}
use Rattle.dispatch_repair.specs.Amounts.{amount_at}
use Rattle.dispatch_repair.specs.inside.Rows.{cells_with, list_of, outputs_with, row_at}
use Rattle.dispatch_repair.proofs.Listed.{listed_same}
use Rattle.dispatch_repair.proofs.rows.write_powers.Goals as goal

pub returns-clause-thermal : goal.returns-clause-thermal
returns-clause-thermal c =
    let instance = c.args.instance.now in
    let old = rows_of c.args.rows.now.thermal.items in
    let amounts = c.as_slice-amounts.result.now in
    let n = length c.as_slice-renewables.result.now in
    let first : n ≡ renewable_count instance = ap length c.as_slice-renewables.ensures in
    let same = c.as_slice-amounts.ensures.value in
    let whole : take (length amounts - n) (drop n amounts) ≡ drop n amounts = take_all (length amounts - n) (drop n amounts) (omega (arith, length-drop n amounts)) in
    let output : amount_at (take (length amounts - n) (drop n amounts)) ≡ thermal_amount instance c.args.room.now.amounts.items =
    λ i g. (ap (λ xs. amount_at xs g) whole ∙ get_or-drop n amounts g (pos 0) ∙ (λ j. amount_at (same j) (first j + g))) i in
    let count : length c.args.rows.now.thermal.items ≡ thermal_count instance = sym (length-map c.args.rows.now.thermal.items _) ∙ c.requires.shape.thermal in
    let need = narrow c.args.need MAX_POWER c.requires.need (omega arith) in
    c.write_cells.ensures ∙ (λ i. list_of (count i) (cells_with (output i) (amount_at (c.as_slice.ensures.value i)) (need i) c.args.t old))

pub returns-clause-renewable : goal.returns-clause-renewable
returns-clause-renewable c =
    let old = rows_of c.args.rows.now.renewable.items in
    let amounts = c.as_slice-amounts.result.now in
    let n = length c.as_slice-renewables.result.now in
    let first : n ≡ renewable_count c.args.instance.now = ap length c.as_slice-renewables.ensures in
    let count : length c.args.rows.now.renewable.items ≡ n = sym (length-map c.args.rows.now.renewable.items _) ∙ c.requires.shape.renewable ∙ sym first in
    c.write_outputs.ensures
    ∙ ap (λ k. list_of k (outputs_with (amount_at (take n amounts)) c.args.t old)) count
    ∙ listed_same [] n (outputs_with (amount_at (take n amounts)) c.args.t old) (outputs_with (amount_at c.args.room.now.amounts.items) c.args.t old)
    (λ w h. ap (slice_set (row_at old w) c.args.t) (get_or-take n amounts w (pos 0) h ∙ ap (λ xs. amount_at xs w) c.as_slice-amounts.ensures.value))
    ∙ ap (λ k. list_of k (outputs_with (amount_at c.args.room.now.amounts.items) c.args.t old)) first
