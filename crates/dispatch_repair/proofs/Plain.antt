-- The numbers of a dispatch are plain: a unit's output and reserve stay within its range, which the limits on an instance bound.
-- Cite by `use Rattle.dispatch_repair.proofs.Plain.{plain}`.
use Rattle.std.proofs.Common.{◌≡◌, ℕ, ◌<◌, ◌≤◌, ⊎_elim, Bool, true, false, not, sym, subst, ◌∙◌, arith, List, [], length, get_or, ℤ, pos, ◌+ℤ◌, ◌-ℤ◌, ◌*ℤ◌, ◌≤ℤ◌, IsTrue, All}
use Rattle.std.proofs.lemmas.Bool.{cases_Bool, and_right}
use Rattle.std.specs.Int.{int_max}
use Rattle.std.proofs.lemmas.Int.{ints}
use Rattle.std.proofs.lemmas.List.Elements.{All-get_or}
use Rattle.uc_model.specs.Prelude.{bit, was_on, starts, thermal_unit, thermal_count, renewable_count, renewable_minimum, renewable_maximum, demand_at, reserve_at, cell_at, shed_at, short_at, IsLimit, IsPower, IsLawfulInstance}
use Rattle.uc_model.specs.declared.limits.TheConstants.{MAX_START_ROWS}
use Rattle.uc_model.proofs.Common.{linear, mul-one, mul-zero, le_trans}
use Rattle.schedule_check.specs.SizedNumbers.{output_at}
use Rattle.schedule_check.proofs.Plain.{power_below, plain as plain_everywhere}
use Rattle.schedule_check.proofs.Priced.{allowed-within}
use Rattle.dispatch_repair.specs.Prelude.{Instance, Pattern, Printed, FromRenewable, commitment_at, IsFilled, IsDispatchThrough}
use Rattle.schedule_check.specs.PlainNumbers.{IsIdleCell, IsPlainCell, HasPlainNumbers}
use Rattle.dispatch_repair.proofs.Filled.{cell_within, cell-le-cap, cell_idle, cap-le-range, max_right}
use Rattle.dispatch_repair.proofs.Shortages.{IsPart, filled_shed, filled_short}

bit-le : (a : ℤ) (b : Bool) → pos 0 ≤ℤ a → (a *ℤ bit b) ≤ℤ a
bit-le a true h = omega (arith, linear, mul-one a)
bit-le a false h = omega (arith, linear, mul-zero a)

-- ---- a filled period
module _ (instance : Instance) (patterns : List Pattern) (printed : Printed) (t : ℕ) (lawful : IsLawfulInstance instance)
    (filled : IsFilled instance patterns printed t) where
  off_cell-idle : (g : ℕ) → g < thermal_count instance → (cell_at printed g t).on ≡ false → IsIdleCell (cell_at printed g t)
  off_cell-idle g hg off =
      let chosen = filled.cells g hg in
      let is_off = sym chosen.on ∙ off in
      let idle = cell_idle instance patterns printed t filled g hg is_off in
      record {
        output = idle.0;
        reserve = idle.1;
        category = chosen.none (and_right (not (was_on (thermal_unit instance g) (commitment_at patterns g) t)) (commitment_at patterns g t) is_off);
      }

  category-within : (g : ℕ) → g < thermal_count instance → (cell_at printed g t).category ≤ MAX_START_ROWS
  category-within g hg =
      let unit = thermal_unit instance g in
      let on = commitment_at patterns g in
      let chosen = filled.cells g hg in
      ⊎_elim
      (λ (start : IsTrue (starts unit on t)).
      omega (arith, allowed-within unit on (cell_at printed g t).category t (chosen.start start).allowed, (lawful.thermal g hg).categories.1))
      (λ (none : starts unit on t ≡ false). omega (arith, chosen.none none))
      (cases_Bool (starts unit on t))

  cell_plain : (g : ℕ) → g < thermal_count instance → IsPlainCell (cell_at printed g t)
  cell_plain g hg =
      let unit = thermal_unit instance g in
      let rules = lawful.thermal g hg in
      let inside = cell_within instance patterns printed t filled g hg in
      let range = cap-le-range instance.periods unit (commitment_at patterns g) t in
      let whole = bit-le (unit.pmax -ℤ unit.pmin) (commitment_at patterns g t) (omega (arith, linear, rules.range)) in
      record {
        output = inside.low;
        reserve = inside.reserve;
        total = power_below ((cell_at printed g t).p +ℤ (cell_at printed g t).r) unit.pmax (omega (arith, linear, inside.low, inside.reserve))
            (omega (arith, linear, cell-le-cap instance patterns printed t filled g hg, range, whole, rules.minimum.low)) rules.maximum.power;
        category = category-within g hg;
        off = off_cell-idle g hg;
      }

  output_plain : t < instance.periods → (w : ℕ) → w < renewable_count instance → IsLimit (output_at printed w t)
  output_plain ht w hw =
      let low = le_trans _ _ _ (max_right (renewable_minimum instance w t) (pos 0)) (filled.merit.low (FromRenewable w) hw) in
      record {
        low = low;
        power = power_below _ (renewable_maximum instance w t) low (filled.merit.high (FromRenewable w) hw) ((lawful.renewable w hw).maximum t ht);
      }

  -- what is missing
  needed_power : (need : ℤ) → IsPower need → IsPower (int_max need (pos 0))
  needed_power need power = grind (arith, ints, power)

  part_limit : (price : ℕ) (need missing : ℤ) → IsPower need → IsPart price need missing → IsLimit missing
  part_limit price need missing power part = record { low = part.low; power = power_below missing (int_max need (pos 0)) part.low part.high (needed_power need power) }

  shed_plain : t < instance.periods → IsLimit (shed_at printed t)
  shed_plain ht =
      part_limit instance.a (demand_at instance t) (shed_at printed t)
      (All-get_or IsPower instance.demand t (pos 0) (subst (λ n. t < n) (sym lawful.demand_length) ht) lawful.demand)
      (filled_shed instance patterns printed t lawful ht filled)

  short_plain : t < instance.periods → IsLimit (short_at printed t)
  short_plain ht =
      part_limit instance.b (reserve_at instance t) (short_at printed t)
      (All-get_or IsPower instance.reserves t (pos 0) (subst (λ n. t < n) (sym lawful.reserves_length) ht) lawful.reserves)
      (filled_short instance patterns printed t lawful ht filled)

-- ---- the whole
pub plain : (instance : Instance) (patterns : List Pattern) (periods : ℕ) (printed : Printed) → IsLawfulInstance instance
    → periods ≤ instance.periods → IsDispatchThrough instance patterns periods printed → HasPlainNumbers printed
plain instance patterns periods printed lawful within dispatch =
    plain_everywhere printed
    (λ g t row place.
    let before = inside printed.thermal g t dispatch.shape.cells row place in
    cell_plain instance patterns printed t lawful (dispatch.filled t before) g (omega (arith, row, dispatch.shape.thermal)))
    (λ w t row place.
    let before = inside printed.renewable w t dispatch.shape.outputs row place in
    output_plain instance patterns printed t lawful (dispatch.filled t before) (omega (arith, before, within)) w (omega (arith, row, dispatch.shape.renewable)))
    (λ t place. shed_plain instance patterns printed t lawful (dispatch.filled t (subst (λ n. t < n) dispatch.shape.shed place)) (omega (arith, place, dispatch.shape.shed, within)))
    (λ t place. short_plain instance patterns printed t lawful (dispatch.filled t (subst (λ n. t < n) dispatch.shape.short place)) (omega (arith, place, dispatch.shape.short, within)))
  where
    inside : {X : Type 0} (rows : List (List X)) (i j : ℕ) → All (λ row. length row ≡ periods) rows → i < length rows → j < length (get_or rows i [])
        → j < periods
    inside rows i j each row place = omega (arith, place, All-get_or (λ row. length row ≡ periods) rows i [] row each)
