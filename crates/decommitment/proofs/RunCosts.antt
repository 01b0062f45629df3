-- What the units of a run cost is what their cells in the commitment's dispatch do.
use Rattle.std.proofs.Common.{◌≡◌, ◌≢◌, ℕ, ◌+◌, ◌*◌, ◌^◌, ◌<◌, ◌≤◌, inl, inr, false, sym, ap, subst, ◌∙◌, arith, List, [], ◌∷◌, ◌++◌, get_or, get_or-set_other, get_or-set_same, set, length, ℤ, pos, ◌+ℤ◌, of_z, to_z, unsigned_abs, if◌then◌else◌}
use Rattle.std.specs.Int.{w128}
use Rattle.std.proofs.lemmas.List.{get_or_read, length_push, set-get_or, set-set}
use Rattle.uc_model.specs.Prelude.{hull_cost, IsLawfulInstance, cell_at, printed_cell_cost, printed_cost, printed_shortage_cost, watt_denominator, renewable_count, thermal_count, thermal_unit, category_cost, sum_below}
use Rattle.uc_model.specs.declared.instance.Thermal.{Thermal}
use Rattle.uc_model.specs.declared.schedule.Cell.{Cell}
use Rattle.uc_model.proofs.Common.{below_or_last, sum_below-same}
use Rattle.schedule_check.proofs.AddedSums.{added}
use Rattle.schedule_check.specs.WholeWatts.{HasPrice, cell, lacking_alone}
use Rattle.dispatch_repair.specs.Prelude.{thermal_amount, IsCommittedCell}
use Rattle.dispatch_repair.proofs.RowsCommitted.{other_cell, push_each}
use Rattle.decommitment.specs.DropCommitment.{Instance, Pattern, Printed}
use Rattle.decommitment.specs.inside.Runs.{Fill, AreDispatched, AreSized, AreUnitCosts, GivesSame, IsCellOf, IsRowOf, IsUnitCost, LacksSo, cost_at, lack_at, outputs_at}
use Rattle.decommitment.specs.inside.Stretches.{IsSameAt}
use Rattle.decommitment.proofs.Drops.{dispatch_prices}
use Rattle.dispatch_repair.proofs.OneDispatch.{one_category}
use Rattle.decommitment.proofs.Runs.{outputs_here}

-- the same state, output and category cost the same
same_cost : (unit : Thermal) (a b : Cell) → a.on ≡ b.on → a.p ≡ b.p → a.category ≡ b.category → printed_cell_cost unit 1 a ≡ printed_cell_cost unit 1 b
same_cost unit a b on p category = λ i. (if on i then hull_cost unit.points 1 (p i) else pos 0) +ℤ category_cost unit (category i)

-- and have a price alike
same_price : (unit : Thermal) (a b : Cell) → a.on ≡ b.on → a.p ≡ b.p → a.category ≡ b.category → HasPrice unit b → HasPrice unit a
same_price unit a b on p category has = grind (arith, has)

module _ (instance : Instance) (patterns : List Pattern) (fills : List Fill) (are : AreDispatched instance patterns fills) where
  printed_cell : (g t : ℕ) → g < thermal_count instance → t < instance.periods → IsCellOf instance patterns fills g t (cell_at are.printed g t)
  printed_cell g t hg ht = record { committed = (are.dispatch.periods.filled t ht).cells g hg; output = are.outputs g t hg ht }

  -- a cell of the run has a price
  pub has_price : (g t : ℕ) (cell : Cell) → IsLawfulInstance instance → g < thermal_count instance → t < instance.periods
      → IsCellOf instance patterns fills g t cell → HasPrice (thermal_unit instance g) cell
  has_price g t cell lawful hg ht is =
      let other = printed_cell g t hg ht in
      same_price (thermal_unit instance g) cell (cell_at are.printed g t) (is.committed.on ∙ sym other.committed.on) (is.output ∙ sym other.output)
      (one_category instance patterns g t cell (cell_at are.printed g t) is.committed other.committed)
      (dispatch_prices instance patterns are.printed lawful are.dispatch g t hg ht)

  -- a unit's cells cost the same there
  unit_total : (g : ℕ) (cost : ℤ) → g < thermal_count instance → IsUnitCost instance patterns fills g cost
      → cost ≡ sum_below instance.periods (λ t. printed_cell_cost (thermal_unit instance g) 1 (cell_at are.printed g t))
  unit_total g cost hg is =
      is.is ∙ sum_below-same instance.periods (λ t. printed_cell_cost (thermal_unit instance g) 1 (is.cells t))
      (λ t. printed_cell_cost (thermal_unit instance g) 1 (cell_at are.printed g t))
      (λ t ht.
      let one = is.are t ht in
      let other = printed_cell g t hg ht in
      same_cost (thermal_unit instance g) (is.cells t) (cell_at are.printed g t) (one.committed.on ∙ sym other.committed.on) (one.output ∙ sym other.output)
      (one_category instance patterns g t (is.cells t) (cell_at are.printed g t) one.committed other.committed))

  -- with what is missing that is its printed cost
  pub whole_cost : (costs : List ℤ) (units missing : ℤ) → AreUnitCosts instance patterns fills (thermal_count instance) costs
      → units ≡ sum_below (thermal_count instance) (cost_at costs) → missing ≡ sum_below instance.periods (printed_shortage_cost instance are.printed)
      → (units +ℤ missing) ≡ printed_cost instance are.printed
  whole_cost costs units missing each units_is missing_is =
      let one : units ≡ sum_below (thermal_count instance) (λ g. sum_below instance.periods (λ t. printed_cell_cost (thermal_unit instance g) 1 (cell_at are.printed g t))) =
      units_is ∙ sum_below-same (thermal_count instance) (cost_at costs)
      (λ g. sum_below instance.periods (λ t. printed_cell_cost (thermal_unit instance g) 1 (cell_at are.printed g t)))
      (λ g hg. unit_total g (cost_at costs g) hg (each g hg)) in
      let over : 1 ≡ watt_denominator are.printed = sym are.lacks.whole in
      λ i. (one ∙ (λ j. sum_below (thermal_count instance) (λ g. sum_below instance.periods (λ t.
      printed_cell_cost (thermal_unit instance g) (over j) (cell_at are.printed g t))))) i +ℤ missing_is i

-- a unit with the same pattern and outputs costs the same
pub carried : (instance : Instance) (patterns : List Pattern) (old new : List Fill) (g h : ℕ) (stood : Pattern) (cost : ℤ) → h ≢ g
    → length new ≡ instance.periods → GivesSame instance h old new → IsUnitCost instance (set patterns g stood) old h cost
    → IsUnitCost instance patterns new h cost
carried instance patterns old new g h stood cost apart all same was =
    let back : set (set patterns g stood) g (get_or patterns g stood) ≡ patterns = set-set patterns g stood (get_or patterns g stood) ∙ set-get_or patterns g stood in
    record {
      cells = was.cells;
      are = λ t ht. record {
        committed = subst (λ p. IsCommittedCell instance p h t (was.cells t)) back
            (other_cell instance (set patterns g stood) g h t (get_or patterns g stood) (was.cells t) apart (was.are t ht).committed);
        output = (was.are t ht).output ∙ same.outputs t (omega (arith, all, ht));
      };
      is = was.is;
      size = was.size;
    }

-- ---- as they are read and written
-- the amount at a unit's place is what it gives
pub amount_read : (instance : Instance) (fills : List Fill) (t g place : ℕ) (fill : Fill) (value : ℤ) → AreSized instance fills → t < length fills
    → fill ≡ get_or fills t fill → g < thermal_count instance → place ≡ renewable_count instance + g → value ≡ get_or fill.amounts.items place value
    → value ≡ thermal_amount instance (outputs_at fills t) g
amount_read instance fills t g place fill value sized h is hg place_is read =
    grind (arith, get_or_read, outputs_here, sized, h, is, hg, place_is, read)

-- what a unit gives in a period is the same where its amounts in two rows are
pub same_here : (instance : Instance) (old new : List Fill) (t g renewables : ℕ) (a b : Fill) → renewables ≡ renewable_count instance
    → t < length old → a ≡ get_or old t a → t < length new → b ≡ get_or new t b → IsSameAt renewables a.amounts.items b.amounts.items g
    → thermal_amount instance (outputs_at old t) g ≡ thermal_amount instance (outputs_at new t) g
same_here instance old new t g renewables a b count inside_old is_a inside_new is_b same =
    grind (arith, outputs_here, count, inside_old, is_a, inside_new, is_b, same)

-- one more cell
pub row_longer : (instance : Instance) (patterns : List Pattern) (fills : List Fill) (g n : ℕ) (row : List Cell) (one : Cell) → IsRowOf instance patterns fills g n row
    → IsCellOf instance patterns fills g n one → IsRowOf instance patterns fills g (n + 1) (row ++ one ∷ [])
row_longer instance patterns fills g n row one before is = record {
  count = length_push row one ∙ ap (λ k. k + 1) before.count;
  cells = push_each (IsCellOf instance patterns fills g) row one (record { on = false; p = pos 0; r = pos 0; category = 0 }) n before.count before.cells is;
}

-- a row's cost is its unit's
pub row_total : (instance : Instance) (patterns : List Pattern) (fills : List Fill) (g : ℕ) (row : List Cell) (cost : ℤ) → length fills ≡ instance.periods
    → IsRowOf instance patterns fills g (length fills) row
    → cost ≡ sum_below (length row) (λ t. printed_cell_cost (thermal_unit instance g) 1 (cell row t)) → unsigned_abs cost ≤ 168 * 2 ^ 64
    → IsUnitCost instance patterns fills g cost
row_total instance patterns fills g row cost all is cost_is size = record {
  cells = cell row;
  are = λ t ht. is.cells t (omega (arith, all, ht));
  is = cost_is ∙ ap (λ n. sum_below n (λ t. printed_cell_cost (thermal_unit instance g) 1 (cell row t))) (is.count ∙ all);
  size = size;
}

-- the costs of a unit more, and their sum
pub record HasCosts (instance : Instance) (patterns : List Pattern) (fills : List Fill) (n : ℕ) (costs : List ℤ) (result : ℤ) : Type 0 where
  pub each : AreUnitCosts instance patterns fills n costs
  pub value : to_z w128 (of_z w128 result) ≡ sum_below n (cost_at costs)
  pub size : unsigned_abs (to_z w128 (of_z w128 result)) ≤ n * (168 * 2 ^ 64)

pub costs_more : (instance : Instance) (patterns : List Pattern) (fills : List Fill) (n : ℕ) (costs : List ℤ) (cost total result : ℤ) → n < length costs → n < 4096
    → AreUnitCosts instance patterns fills n costs → IsUnitCost instance patterns fills n cost → total ≡ sum_below n (cost_at costs)
    → unsigned_abs total ≤ n * (168 * 2 ^ 64) → result ≡ total +ℤ to_z w128 (of_z w128 cost) → HasCosts instance patterns fills (n + 1) (set costs n cost) result
costs_more instance patterns fills n costs cost total result within few each is total_is most e =
    let here : cost_at (set costs n cost) n ≡ cost = get_or-set_same costs n cost (pos 0) within in
    let stays : (k : ℕ) → k < n → cost_at costs k ≡ cost_at (set costs n cost) k = λ k h. sym (get_or-set_other costs n k cost (pos 0) (omega (arith, h))) in
    let next = added n (cost_at (set costs n cost)) total cost result (168 * 2 ^ 64)
    (total_is ∙ sum_below-same n (cost_at costs) (cost_at (set costs n cost)) stays) (sym here) e most is.size (omega (arith, few)) in
    record {
      each = λ k h. elim (below_or_last n k (omega (arith, h))) [
        | inl early ↦ subst (IsUnitCost instance patterns fills k) (stays k early) (each k early)
        | inr last ↦ subst (λ j. IsUnitCost instance patterns fills j (cost_at (set costs n cost) j)) (sym last) (subst (IsUnitCost instance patterns fills n) (sym here) is)
      ];
      value = next.value;
      size = next.size;
    }

-- what is missing costs the same
pub missing_total : (instance : Instance) (fills : List Fill) (printed : Printed) (shed short : List ℤ) → length fills ≡ instance.periods → LacksSo instance fills printed
    → ((t : ℕ) → t < length fills → get_or shed t (pos 0) ≡ (lack_at fills t).shed) → ((t : ℕ) → t < length fills → get_or short t (pos 0) ≡ (lack_at fills t).short)
    → sum_below instance.periods (printed_shortage_cost instance (lacking_alone 1 shed short)) ≡ sum_below instance.periods (printed_shortage_cost instance printed)
missing_total instance fills printed shed short all lacks sheds shorts = grind (arith, sum_below-same, all, lacks, sheds, shorts)
