-- The table is read off the row: each price is the multiplier of its limit.
-- Cite by `use Rattle.dispatch_prices.proofs.ReadOffs.{price_table}`.
use Rattle.std.proofs.Common.{◌≡◌, ℕ, ◌<◌, ◌≤◌, false, ⊎_elim, refl, sym, ap, subst, ◌∙◌, List, [], ◌∷◌, length, ℤ, pos, neg_ℤ, unsigned_abs, IsTrue, slice_index_or, if◌then◌else◌, ◌==◌, ◌||◌}
use Rattle.std.specs.List.{All}
use Rattle.std.proofs.lemmas.Bool.{cases_Bool, cond-false, cond_both}
use Rattle.std.proofs.lemmas.List.Elements.{All-nil, All-cons, All-from_get_or}
use Rattle.uc_model.specs.Prelude.{thermal_count}
use Rattle.uc_model.proofs.Common.{sum_below-same}
use Rattle.dual_model.specs.Prelude.{IsPrice, IsRowPriced, row_of}
use Rattle.dual_model.specs.declared.table.Table.{Table}
use Rattle.pivot_run.specs.Tables as pivots
use Rattle.dispatch_program.specs.Prelude.{multiplier}
use Rattle.dispatch_rules.specs.Prelude.{limit_of, rule_of, Task, Limit, limit, is_same, program, times_at}
use Rattle.dispatch_rules.specs.declared.limit.LimitAt.{LimitAt}
use Rattle.dispatch_rules.specs.declared.limit.LimitRule.{LimitRule}
use Rattle.dispatch_rules.specs.declared.limit.LimitRule.TheVariants.{RampUp, RampDown, Demand, Reserve}
use Rattle.dispatch_rules.proofs.Multipliers.{same-equal}
use Rattle.dispatch_prices.specs.ReadOff.{AreMultipliers, IsEndOf, all_rows, is_nothing, is_priced, kept, limit_in, ramp_row, rows_in, rules_of, times_by}
use Rattle.dispatch_prices.specs.PricedLimits.{ArePrices, IsTableOf, Priced, price_of, demand_price, reserve_price, up_price, down_price}
use Rattle.dispatch_prices.specs.Readings.{IsPriceTable}
use Rattle.dispatch_prices.proofs.RampRows.{up_found, down_found}
use Rattle.dispatch_prices.proofs.SameRules.{rules_same, multiplier_same}
use Rattle.dispatch_prices.proofs.Listing.{all_listed}
use Rattle.dispatch_prices.proofs.TimesBy.{times_of-is, times_within, are_once}

-- a limit that is the same as a priced one is priced
priced_too : (a l : Limit) → IsTrue (is_same a l) → IsTrue (is_priced l) → IsTrue (is_priced a)
priced_too a l same own =
    (λ i. let n = (same-equal a l same).rule i in (n == 11) || ((n == 12) || ((n == 14) || (n == 15)))) ∙ own

module _ (task : Task) (unknowns : ℕ) (listed_limits : List LimitAt) (rights : List ℤ) (t : pivots.Table)
    (is : IsEndOf task unknowns listed_limits rights t) (row : List ℤ) (times : List ℤ)
    (are : AreMultipliers (rules_of unknowns listed_limits rights) listed_limits row (length listed_limits) times) where
  -- the price of a priced limit
  priced_is : (l : Limit) → IsTrue (is_priced l) → times_by listed_limits (λ i. slice_index_or times i (pos 0)) l ≡ times_at task row l
  priced_is l own =
      sum_below-same (length listed_limits) (λ i. if is_same (limit_of (limit_in listed_limits i)) l then slice_index_or times i (pos 0) else pos 0)
      (λ i. if is_same (limit_of (limit_in listed_limits i)) l then multiplier (program task) row i else pos 0) (λ i h. one i h)
      ∙ times_of-is task listed_limits is.limits_are (multiplier (program task) row) l
    where
      one : (i : ℕ) → i < length listed_limits → (if is_same (limit_of (limit_in listed_limits i)) l then slice_index_or times i (pos 0) else pos 0)
          ≡ (if is_same (limit_of (limit_in listed_limits i)) l then multiplier (program task) row i else pos 0)
      one i h = ⊎_elim
          (λ (same : IsTrue (is_same (limit_of (limit_in listed_limits i)) l)).
          ap (λ z. if is_same (limit_of (limit_in listed_limits i)) l then z else pos 0)
          (are.each i h (priced_too (limit_of (limit_in listed_limits i)) l same own)
          ∙ multiplier_same task unknowns listed_limits rights t is row i (subst (λ n. i < n) (rules_same task unknowns listed_limits rights t is) h)))
          (λ (other : is_same (limit_of (limit_in listed_limits i)) l ≡ false).
          cond-false _ (slice_index_or times i (pos 0)) (pos 0) other ∙ sym (cond-false _ (multiplier (program task) row i) (pos 0) other))
          (cases_Bool (is_same (limit_of (limit_in listed_limits i)) l))

-- ---- the limits of the prices
prices_within : (price : ℕ → ℤ) (n : ℕ) (prices : List ℤ) → ArePrices price n prices → All IsPrice prices
prices_within price n prices are = All-from_get_or IsPrice prices (pos 0) (λ t h. are.within t)

rows_priced : (up down : ℕ → ℕ → ℤ) (units periods : ℕ) → ((g t : ℕ) → unsigned_abs (up g t) ≤ 100000000000000) → ((g t : ℕ) → unsigned_abs (down g t) ≤ 100000000000000)
    → All IsRowPriced (all_rows up down units periods)
rows_priced up down units periods first second =
    all_listed IsRowPriced units (rows_in up down periods) (λ g hg. all_listed IsRowPriced periods (λ t. kept (ramp_row up down g t)) (λ t ht.
    cond_both (is_nothing (ramp_row up down g t)) [] (ramp_row up down g t ∷ []) (All IsRowPriced) (λ e. All-nil IsRowPriced)
    (λ e. All-cons IsRowPriced (ramp_row up down g t) [] (record { up = first g t; down = second g t }) (All-nil IsRowPriced))))

-- ---- the table
pub price_table : (task : Task) (unknowns : ℕ) (rights : List ℤ) (t : pivots.Table) (row : List ℤ) (priced : Priced) (k : ℤ) (table : Table)
    → IsEndOf task unknowns priced.limits.now rights t
    → AreMultipliers (rules_of unknowns priced.limits.now rights) priced.limits.now row (length priced.limits.now) priced.times.now
    → IsTableOf priced (thermal_count task.instance) task.instance.periods k table → IsPriceTable task row k table
price_table task unknowns rights t row priced k table is are of = record {
  scale = of.scale;
  demand = prices_within (demand_price priced) task.instance.periods table.pi of.demand;
  reserve = prices_within (reserve_price priced) task.instance.periods table.mu of.reserve;
  ramps = subst (All IsRowPriced) (sym of.ramps) (rows_priced (up_price priced) (down_price priced) (thermal_count task.instance) task.instance.periods
      (λ g s. small RampUp g s) (λ g s. small RampDown g s));
  rows = of.ramps ∙ (λ i. all_rows (λ g s. price RampUp g s refl i) (λ g s. price RampDown g s refl i) (thermal_count task.instance) task.instance.periods);
  read = λ scale. record {
    size = record { form = of.form; units = of.units_are; periods = of.demand.count };
    scale = of.scale ∙ scale;
    pi = λ s h. of.demand.each s h ∙ ap neg_ℤ (price Demand 0 s refl);
    mu = λ s h. of.reserve.each s h ∙ price Reserve 0 s refl;
    up = λ g s hg hs. ap (λ rows. (row_of rows g s).up) of.ramps ∙ up_found (up_price priced) (down_price priced) task.instance.periods g s (thermal_count task.instance) hg hs ∙ price RampUp g s refl;
    down = λ g s hg hs. ap (λ rows. (row_of rows g s).down) of.ramps ∙ down_found (up_price priced) (down_price priced) task.instance.periods g s (thermal_count task.instance) hg hs ∙ price RampDown g s refl;
  };
}
  where
    price : (rule : LimitRule) (g s : ℕ) → IsTrue (is_priced (limit (rule_of rule) g s 0)) → price_of priced rule g s ≡ times_at task row (limit (rule_of rule) g s 0)
    price rule g s own = priced_is task unknowns priced.limits.now rights t is row priced.times.now are (limit (rule_of rule) g s 0) own

    small : (rule : LimitRule) (g s : ℕ) → unsigned_abs (price_of priced rule g s) ≤ 100000000000000
    small rule g s =
        times_within priced.limits.now (λ i. slice_index_or priced.times.now i (pos 0)) (limit (rule_of rule) g s 0) 100000000000000
        (are_once task priced.limits.now is.limits_are) are.within
