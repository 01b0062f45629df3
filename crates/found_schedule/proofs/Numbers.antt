-- The numbers of a schedule that obeys can be told in a certificate: an off cell has none, a category is one of its unit's, and no more is missing
-- than the need.
use Rattle.std.proofs.Common.{◌≡◌, ℕ, ◌<◌, ◌≤◌, ⊎_elim, List, [], length, get_or, sym, subst, ◌∙◌, refl, arith, Bool, true, false, not, ◌&&◌, ◌==◌, ℤ, pos, ◌*ℤ◌, ◌≤ℤ◌}
use Rattle.std.specs.Int.{int_max}
use Rattle.std.proofs.lemmas.Bool.{cases_lt, cond-false, eqb-true}
use Rattle.std.proofs.lemmas.Int.{ints}
use Rattle.std.proofs.lemmas.List.{get_or_past}
use Rattle.std.proofs.lemmas.List.Elements.{All-get_or}
use Rattle.uc_model.specs.Prelude.{was_on, IsLawfulInstance, IsPower, HasShapeOf, cell_at, shed_at, short_at, printed_denominator, printed_schedule, Category, Production, thermal_unit, thermal_count, demand_at, reserve_at, is_category_allowed}
use Rattle.uc_model.proofs.Common.{rule_at, watts-factor, linear, scale-le-scale, printed_shed, printed_short}
use Rattle.schedule_check.specs.SizedNumbers.{HasSizedNumbers, IsSized}
use Rattle.schedule_check.specs.WholeWatts.{over, row_of}
use Rattle.schedule_check.proofs.Priced.{priced_over}
use Rattle.schedule_check.proofs.Produced.{holds_from}
use Rattle.schedule_check.proofs.SameRules.{production-is}
use Rattle.found_schedule.specs.Found.{Cell, Instance, Printed, HasFoundNumbers, IsFoundCell, IsObeying}

abbrev no_cell : Cell
no_cell = record { on = false; p = pos 0; r = pos 0; category = 0 }

no_cell-found : IsFoundCell no_cell
no_cell-found = record { category = omega arith; off = λ e. record { output = refl; reserve = refl; category = refl } }

no_number-sized : IsSized (pos 0)
no_number-sized = omega arith

-- a need that is missing, over a denominator of at most 99
missing-sized : (d : ℕ) (need missing : ℤ) → d ≤ 99 → IsPower need → pos 0 ≤ℤ missing → missing ≤ℤ (pos d *ℤ int_max need (pos 0)) → IsSized missing
missing-sized d need missing few power low high =
    let most : int_max need (pos 0) ≤ℤ pos 10000000000000 = grind (arith, ints) in
    let scaled = scale-le-scale d (int_max need (pos 0)) (pos 10000000000000) most in
    omega (arith, ints, linear, few, low, high, scaled)

module _ (instance : Instance) (printed : Printed) (lawful : IsLawfulInstance instance) (shape : HasShapeOf instance printed)
    (obeys : IsObeying instance printed) where
  abbrev some : 1 ≤ printed.denominator
  some = shape.denominator.0

  -- ---- cells
  no_category : (g t : ℕ) → g < thermal_count instance → t < instance.periods → (cell_at printed g t).on ≡ false → (cell_at printed g t).category ≡ 0
  no_category g t hg ht off =
      let unit = thermal_unit instance g in
      let row = (printed_schedule instance printed (printed_denominator instance printed)).thermal g in
      let never : (not (was_on unit row.on t) && row.on t) ≡ false = rw off (never_on (not (was_on unit row.on t))) in
      eqb-true (row.category t) 0
      (sym (cond-false _ (is_category_allowed unit row.on (row.category t) t) (row.category t == 0) never) ∙ rule_at instance _ _ obeys Category g t hg ht)
    where
      never_on : (b : Bool) → (b && false) ≡ false
      never_on true = refl
      never_on false = refl

  cell-found : (g t : ℕ) → g < thermal_count instance → t < instance.periods → IsFoundCell (cell_at printed g t)
  cell-found g t hg ht =
      let made = sym (production-is instance printed g t lawful some hg ht) ∙ rule_at instance _ _ obeys Production g t hg ht in
      let holds = holds_from (over printed.denominator) (thermal_unit instance g) (row_of printed g) t made in
      record {
        category = omega (arith, (priced_over instance printed lawful some obeys g t hg ht).category, (lawful.thermal g hg).categories.1);
        off = λ off. record { output = holds.idle off; reserve = holds.none off; category = no_category g t hg ht off };
      }

  row-found : (g t : ℕ) → g < thermal_count instance → IsFoundCell (cell_at printed g t)
  row-found g t hg =
      let row = get_or printed.thermal g [] in
      let long : length row ≡ instance.periods = All-get_or (λ (cells : List Cell). length cells ≡ instance.periods) printed.thermal g []
      (subst (λ n. g < n) (sym shape.thermal) hg) shape.cells in
      ⊎_elim
      (λ (within : t < instance.periods). cell-found g t hg within)
      (λ (after : instance.periods ≤ t). subst IsFoundCell (sym (get_or_past row t no_cell (omega (arith, long, after)))) no_cell-found)
      (cases_lt t instance.periods)

  cells-found : (g t : ℕ) → IsFoundCell (cell_at printed g t)
  cells-found g t =
      ⊎_elim
      (λ (within : g < thermal_count instance). row-found g t within)
      (λ (after : thermal_count instance ≤ g).
      subst (λ (row : List Cell). IsFoundCell (get_or row t no_cell)) (sym (get_or_past printed.thermal g [] (omega (arith, shape.thermal, after))))
      (subst IsFoundCell (sym (get_or_past [] t no_cell (omega arith))) no_cell-found))
      (cases_lt g (thermal_count instance))

  -- ---- what is missing
  shed-sized : (t : ℕ) → t < instance.periods → IsSized (shed_at printed t)
  shed-sized t ht =
      let factor = watts-factor instance printed in
      let is = printed_shed instance printed _ factor.0 t (omega (arith, some)) factor.1 obeys ht in
      missing-sized printed.denominator (demand_at instance t) (shed_at printed t) shape.denominator.1 (All-get_or IsPower instance.demand t (pos 0) (omega (arith, lawful.demand_length, ht)) lawful.demand)
      is.nonneg is.within

  short-sized : (t : ℕ) → t < instance.periods → IsSized (short_at printed t)
  short-sized t ht =
      let factor = watts-factor instance printed in
      let is = printed_short instance printed _ factor.0 t (omega (arith, some)) factor.1 obeys ht in
      missing-sized printed.denominator (reserve_at instance t) (short_at printed t) shape.denominator.1
      (All-get_or IsPower instance.reserves t (pos 0) (omega (arith, lawful.reserves_length, ht)) lawful.reserves) is.nonneg is.within

  -- past the last period nothing is missing
  numbers-sized : (numbers : List ℤ) → length numbers ≡ instance.periods → ((t : ℕ) → t < instance.periods → IsSized (get_or numbers t (pos 0))) → (t : ℕ)
      → IsSized (get_or numbers t (pos 0))
  numbers-sized numbers long each t =
      ⊎_elim
      (λ (within : t < instance.periods). each t within)
      (λ (after : instance.periods ≤ t). subst IsSized (sym (get_or_past numbers t (pos 0) (omega (arith, long, after)))) no_number-sized)
      (cases_lt t instance.periods)

  pub found_numbers : HasSizedNumbers printed → HasFoundNumbers printed
  found_numbers sized = record {
    sized = sized;
    cells = cells-found;
    shed = numbers-sized printed.shed shape.shed shed-sized;
    short = numbers-sized printed.short shape.short short-sized;
    least = some;
    most = shape.denominator.1;
  }
