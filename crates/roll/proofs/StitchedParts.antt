-- Rows that are joined make a stitched schedule, whose numbers are plain where those of its parts are.
use Rattle.std.proofs.Common.{◌≡◌, ℕ, ◌+◌, ◌-◌, ◌<◌, ◌≤◌, ◌++◌, ⊎_elim, List, [], ◌∷◌, length, get_or, take, sym, ap, subst, ◌∙◌, arith, ℤ, pos}
use Rattle.std.proofs.lemmas.Bool.{cases_lt}
use Rattle.std.proofs.lemmas.List.{get_or_append_left, get_or-append-add, get_or-take, length-append, length-map, length-take-le, length_push}
use Rattle.std.proofs.lemmas.List.Elements.{All-get_or, All-from_get_or}
use Rattle.uc_model.specs.Prelude.{thermal_unit, thermal_count, renewable_count, HasShapeOf, cell_at, IsLawfulInstance, IsLawfulThermal, IsLimit}
use Rattle.schedule_check.specs.PlainNumbers.{HasPlainNumbers, IsPlainCell}
use Rattle.schedule_check.specs.SizedNumbers.{output_at}
use Rattle.schedule_check.specs.WholeWatts.{cell, commitment, row_of}
use Rattle.schedule_check.proofs.Plain.{plain}
use Rattle.roll.specs.Prelude.{first_limits, first_periods, Instance, Thermal, Cell, Printed, IsKept, IsContinuation, IsStitched, SameDispatch}
use Rattle.start_costs.specs.Cheapest.{HasLeastCategory}
use Rattle.roll.specs.inside.Joined.{AreEmpty, AreJoined, AreStitchedRows, IsStitchedRow}
use Rattle.roll.specs.inside.Rows.{row_at, unit_at}
use Rattle.roll.proofs.CarriedRows.{one_more}
use Rattle.roll.proofs.JoinedWhole.{joined_new, joined_old, stitched_obeys}

-- ---- rows of the parts
kept_row : (instance : Instance) (m : ℕ) (kept : Printed) → IsKept instance m kept → (g : ℕ) → g < thermal_count instance
    → length (row_of kept g) ≡ m
kept_row instance m kept is g h = All-get_or (λ row. length row ≡ m) kept.thermal g [] (omega (arith, is.shape.thermal)) is.shape.cells

-- the renewable units' rows
kept_outputs : (instance : Instance) (m : ℕ) (kept : Printed) → IsKept instance m kept → length kept.renewable ≡ renewable_count instance
kept_outputs instance m kept is = is.shape.renewable ∙ length-map instance.renewable (first_limits m)

kept_output : (instance : Instance) (m : ℕ) (kept : Printed) → IsKept instance m kept → (w : ℕ) → w < renewable_count instance
    → length (row_at kept.renewable w) ≡ m
kept_output instance m kept is w h = grind (arith, All-get_or, kept_outputs, is, h)

new_outputs : (instance : Instance) (m n : ℕ) (kept shown : Printed) → IsContinuation instance kept m n shown → length shown.renewable ≡ renewable_count instance
new_outputs instance m n kept shown next = next.shape.renewable ∙ next.next.is_window.renewable_units

new_output : (instance : Instance) (m n : ℕ) (kept shown : Printed) (next : IsContinuation instance kept m n shown) → (w : ℕ) → w < renewable_count instance
    → length (row_at shown.renewable w) ≡ next.len
new_output instance m n kept shown next w h = grind (arith, h)

-- ---- lists of numbers
pub joined_length : {X : Type 0} (xs ys : List X) (n : ℕ) → n ≤ length ys → length (xs ++ take n ys) ≡ length xs + n
joined_length xs ys n h = length-append xs (take n ys) ∙ ap (λ k. length xs + k) (length-take-le n ys h)

pub numbers_fit : (instance : Instance) (m n : ℕ) (kept shown : Printed) → IsContinuation instance kept m n shown
    → (n ≤ length shown.shed) × (n ≤ length shown.short)
numbers_fit instance m n kept shown next = grind (arith, next)

-- ---- the cells
-- a cell of the joined row is that of one of its parts
front_cell : (old new row : List Cell) (m n t : ℕ) → length old ≡ m → t < m → SameDispatch (cell (old ++ take n new) t) (cell row t)
    → SameDispatch (cell old t) (cell row t)
front_cell old new row m n t e h same = grind (arith, get_or_append_left, e, h, same)

back_cell : (old new row : List Cell) (m n t : ℕ) → length old ≡ m → t < n → SameDispatch (cell (old ++ take n new) (m + t)) (cell row (m + t))
    → SameDispatch (cell new t) (cell row (m + t))
back_cell old new row m n t e h same = grind (arith, get_or-append-add, get_or-take, e, h, same)

-- ---- the schedule
-- its parts, as the calls give them
pub record HasParts (instance : Instance) (n : ℕ) (kept shown stitched : Printed) : Type 0 where
  pub thermal : AreStitchedRows instance.thermal kept.thermal shown.thermal n (thermal_count instance) stitched.thermal
  pub renewable : AreJoined kept.renewable shown.renewable n (length kept.renewable) stitched.renewable
  pub shed : stitched.shed ≡ kept.shed ++ take n shown.shed
  pub short : stitched.short ≡ kept.short ++ take n shown.short
  pub whole : stitched.denominator ≡ 1

stitched_shape : (instance : Instance) (m n : ℕ) (kept shown stitched : Printed) → IsKept instance m kept → IsContinuation instance kept m n shown
    → HasParts instance n kept shown stitched → HasShapeOf (first_periods (m + n) instance) stitched
stitched_shape instance m n kept shown stitched is next parts = record {
  thermal = parts.thermal.length_is;
  cells = All-from_get_or (λ row. length row ≡ m + n) stitched.thermal [] (λ g h.
      let within : g < thermal_count instance = omega (arith, parts.thermal.length_is) in
      (parts.thermal.each g within).length_is ∙ ap (λ k. k + n) (kept_row instance m kept is g within));
  renewable = parts.renewable.length_is ∙ kept_outputs instance m kept is ∙ sym (length-map instance.renewable (first_limits (m + n)));
  outputs = All-from_get_or (λ row. length row ≡ m + n) stitched.renewable [] (λ w h.
      let within : w < length kept.renewable = omega (arith, parts.renewable.length_is) in
      let unit : w < renewable_count instance = omega (arith, kept_outputs instance m kept is) in
      ap length (parts.renewable.each w within)
      ∙ joined_length (row_at kept.renewable w) (row_at shown.renewable w) n (omega (arith, new_output instance m n kept shown next w unit, next.part))
      ∙ ap (λ k. k + n) (kept_output instance m kept is w unit));
  shed = ap length parts.shed ∙ joined_length kept.shed shown.shed n fits.0 ∙ ap (λ k. k + n) is.shape.shed;
  short = ap length parts.short ∙ joined_length kept.short shown.short n fits.1 ∙ ap (λ k. k + n) is.shape.short;
  denominator = (omega (arith, parts.whole), omega (arith, parts.whole));
}
  where
    fits : (n ≤ length shown.shed) × (n ≤ length shown.short)
    fits = numbers_fit instance m n kept shown next

pub stitched_is : (instance : Instance) (m n : ℕ) (kept shown stitched : Printed) → IsKept instance m kept → IsContinuation instance kept m n shown
    → HasParts instance n kept shown stitched → IsStitched instance m n kept shown stitched
stitched_is instance m n kept shown stitched is next parts = record {
  shape = stitched_shape instance m n kept shown stitched is next parts;
  whole = parts.whole;
  old_cells = λ g t hg ht.
      front_cell (row_of kept g) (row_of shown g) (row_of stitched g) m n t (kept_row instance m kept is g hg) ht ((parts.thermal.each g hg).same t);
  new_cells = λ g t hg ht.
      back_cell (row_of kept g) (row_of shown g) (row_of stitched g) m n t (kept_row instance m kept is g hg) ht ((parts.thermal.each g hg).same (m + t));
  categories = λ g t hg ht. grind (arith, kept_row, parts, g, hg, t, instance, m, kept, is);
  old_outputs = λ w t hw ht.
      joined_old (row_at kept.renewable w) (row_at shown.renewable w) (row_at stitched.renewable w) m n t
      (parts.renewable.each w (omega (arith, kept_outputs instance m kept is))) (kept_output instance m kept is w hw) ht;
  new_outputs = λ w t hw ht. grind (arith, joined_new, kept_outputs, kept_output, kept, w, shown, stitched, m, n, t, parts, instance, is, hw, ht);
  shed = parts.shed;
  short = parts.short;
}

-- ---- plain numbers
plain_cell : (unit : Thermal) (row : List Cell) (t : ℕ) (old : Cell) → IsLawfulThermal unit → IsPlainCell old → SameDispatch old (cell row t)
    → HasLeastCategory unit (commitment row) t (cell row t).category → IsPlainCell (cell row t)
plain_cell unit row t old lawful own same least = grind (arith, lawful, own, same, least)

stitched_plain : (instance : Instance) (m n : ℕ) (kept shown stitched : Printed) → IsLawfulInstance instance → HasPlainNumbers kept → HasPlainNumbers shown
    → IsStitched instance m n kept shown stitched → length kept.shed ≡ m → length kept.short ≡ m → HasPlainNumbers stitched
stitched_plain instance m n kept shown stitched lawful old new joined shed_length short_length =
    plain stitched
    (λ g t hg ht. cell_is g t (omega (arith, joined.shape.thermal))
    (omega (arith, ht, All-get_or (λ row. length row ≡ m + n) stitched.thermal g [] hg joined.shape.cells)))
    (λ w t hw ht. output_is w t (omega (arith, hw, joined.shape.renewable, length-map instance.renewable (first_limits (m + n))))
    (omega (arith, ht, All-get_or (λ row. length row ≡ m + n) stitched.renewable w [] hw joined.shape.outputs)))
    (λ t ht. number_is kept.shed shown.shed stitched.shed t joined.shed shed_length (omega (arith, joined.shape.shed)) (old.shed) (new.shed))
    (λ t ht. number_is kept.short shown.short stitched.short t joined.short short_length (omega (arith, joined.shape.short)) (old.short) (new.short))
  where
    cell_is : (g t : ℕ) → g < thermal_count instance → t < m + n → IsPlainCell (cell_at stitched g t)
    cell_is g t hg ht = ⊎_elim
        (λ (before : t < m).
        plain_cell (thermal_unit instance g) (row_of stitched g) t (cell_at kept g t) (lawful.thermal g hg) (old.cells g t)
        (joined.old_cells g t hg before) (joined.categories g t hg ht))
        (λ (behind : m ≤ t).
        let k = t - m in
        let place : m + k ≡ t = omega arith in
        let inside : m + k < m + n = omega arith in
        subst (λ i. IsPlainCell (cell_at stitched g i)) place
        (plain_cell (thermal_unit instance g) (row_of stitched g) (m + k) (cell_at shown g k) (lawful.thermal g hg) (new.cells g k)
        (joined.new_cells g k hg (omega arith)) (joined.categories g (m + k) hg inside)))
        (cases_lt t m)

    output_is : (w t : ℕ) → w < renewable_count instance → t < m + n → IsLimit (output_at stitched w t)
    output_is w t hw ht = ⊎_elim
        (λ (before : t < m). subst IsLimit (sym (joined.old_outputs w t hw before)) (old.outputs w t))
        (λ (behind : m ≤ t).
        let k = t - m in
        let place : m + k ≡ t = omega arith in
        subst (λ i. IsLimit (output_at stitched w i)) place (subst IsLimit (sym (joined.new_outputs w k hw (omega arith))) (new.outputs w k)))
        (cases_lt t m)

    number_is : (xs ys zs : List ℤ) (t : ℕ) → zs ≡ xs ++ take n ys → length xs ≡ m → t < m + n → ((i : ℕ) → IsLimit (get_or xs i (pos 0)))
        → ((i : ℕ) → IsLimit (get_or ys i (pos 0))) → IsLimit (get_or zs t (pos 0))
    number_is xs ys zs t e l h front back = ⊎_elim
        (λ (before : t < m). subst IsLimit (sym (joined_old xs ys zs m n t e l before)) (front t))
        (λ (behind : m ≤ t).
        let k = t - m in
        let place : m + k ≡ t = omega arith in
        subst (λ i. IsLimit (get_or zs i (pos 0))) place (subst IsLimit (sym (joined_new xs ys zs m n k e l (omega arith))) (back k)))
        (cases_lt t m)

-- ---- what is kept then
pub stitched_kept : (instance : Instance) (m n : ℕ) (kept shown stitched : Printed) → IsLawfulInstance instance → IsKept instance m kept
    → IsContinuation instance kept m n shown → IsStitched instance m n kept shown stitched → IsKept instance (m + n) stitched
stitched_kept instance m n kept shown stitched lawful is next joined = record {
  within = omega (arith, next.part, next.within);
  shape = joined.shape;
  whole = joined.whole;
  numbers = stitched_plain instance m n kept shown stitched lawful is.numbers next.numbers joined is.shape.shed is.shape.short;
  obeys = λ some. stitched_obeys instance m n kept shown stitched lawful is next joined;
}

-- ---- what is kept at first
pub nothing_kept : (instance : Instance) (kept : Printed) → AreEmpty (thermal_count instance) kept.thermal → AreEmpty (renewable_count instance) kept.renewable
    → kept.shed ≡ [] → kept.short ≡ [] → kept.denominator ≡ 1 → IsKept instance 0 kept
nothing_kept instance kept thermal renewable shed short whole = record {
  within = omega arith;
  shape = record {
    thermal = thermal.length_is;
    cells = All-from_get_or (λ row. length row ≡ 0) kept.thermal [] (λ g h. ap length (thermal.each g (omega (arith, thermal.length_is))));
    renewable = renewable.length_is ∙ sym (length-map instance.renewable (first_limits 0));
    outputs = All-from_get_or (λ row. length row ≡ 0) kept.renewable [] (λ w h. ap length (renewable.each w (omega (arith, renewable.length_is))));
    shed = ap length shed;
    short = ap length short;
    denominator = (omega (arith, whole), omega (arith, whole));
  };
  whole = whole;
  numbers = grind (arith, plain, kept, thermal, renewable, shed, short);
  obeys = λ some. absurd (omega arith);
}

-- ---- what the calls on lists give, of the schedules' own lists
pub thermal_as : (units own : List Thermal) (old kept new shown : List (List Cell)) (n : ℕ) (rows stitched : List (List Cell))
    → units ≡ own → old ≡ kept → new ≡ shown → stitched ≡ rows
    → AreStitchedRows units old new n (length units) rows → AreStitchedRows own kept shown n (length own) stitched
thermal_as units own old kept new shown n rows stitched u o s r h = grind (arith, u, o, s, r, h)

pub outputs_as : (old kept new shown : List (List ℤ)) (n : ℕ) (rows stitched : List (List ℤ)) → old ≡ kept → new ≡ shown → stitched ≡ rows
    → AreJoined old new n (length old) rows → AreJoined kept shown n (length kept) stitched
outputs_as old kept new shown n rows stitched o s r h = grind (arith, o, s, r, h)

pub numbers_as : (old kept new shown : List ℤ) (n : ℕ) (row stitched : List ℤ) → old ≡ kept → new ≡ shown → stitched ≡ row
    → row ≡ old ++ take n new → stitched ≡ kept ++ take n shown
numbers_as old kept new shown n row stitched o s r h = r ∙ h ∙ (λ i. o i ++ take n (s i))

-- one more row
pub rows_more : (units : List Thermal) (kept new : List (List Cell)) (keep n : ℕ) (rows : List (List Cell)) (row : List Cell)
    → AreStitchedRows units kept new keep n rows → IsStitchedRow (unit_at units n) (row_at kept n) (row_at new n) keep row
    → AreStitchedRows units kept new keep (n + 1) (rows ++ row ∷ [])
rows_more units kept new keep n rows row before here = record {
  length_is = length_push rows row ∙ ap (λ k. k + 1) before.length_is;
  each = one_more (λ k r. IsStitchedRow (unit_at units k) (row_at kept k) (row_at new k) keep r) rows n row _ before.length_is before.each here;
}
