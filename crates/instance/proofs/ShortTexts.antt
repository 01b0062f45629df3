-- A number of a text has at most as many digits as the text has bytes.
use Rattle.std.proofs.Common.{◌≡◌, ℕ, ◌+◌, ◌≤◌, Bool, true, List, [], ◌∷◌, ◌++◌, length, sym, ap, subst, ◌∙◌, arith, length-append}
use Rattle.std.proofs.lemmas.List.{length-map, append-nil}
use Rattle.decimal_json.specs.Value.{Decimal, Value, number, array, object, Items, no_items, item, Members, no_members, member, held_decimal}
use Rattle.decimal_json.specs.Grammar.{numerals, fraction_text, IsNumber, Spells, SpellsItems, SpellsMoreItems, SpellsMembers, SpellsMoreMembers, SpellsText}
use Rattle.decimal_json.specs.Reading.{IsText}
use Rattle.instance.specs.Scaled.{MOST_DIGITS, IsShort, with_numbers, items_with, members_with, AllNumbers, AllItems, AllMembers}

abbrev Fits : ℕ → Decimal → Type 0
Fits most d = length d.digits ≤ most

numerals_length : (ds : List ℕ) → length (numerals ds) ≡ length ds
numerals_length ds = length-map ds (λ (d : ℕ). 48 + d)

fraction_length : (fs : List ℕ) → length fs ≤ length (fraction_text fs)
fraction_length [] = omega arith
fraction_length (f ∷ fs) = omega (arith, numerals_length (f ∷ fs))

number_fits : (n : Decimal) (bs : List ℕ) → IsNumber n bs → length n.digits ≤ length bs
number_fits n bs h = grind (arith, length-append, numerals_length, fraction_length, h)

inside_parts : (inside : List ℕ) (first last most : ℕ) → length (first ∷ inside ++ last ∷ []) ≤ most → length inside ≤ most
inside_parts inside first last most few = omega (arith, length-append inside (last ∷ []))

item_parts : (before core behind more : List ℕ) (most : ℕ) → length (before ++ (core ++ (behind ++ more))) ≤ most → (length core ≤ most) × (length more ≤ most)
item_parts before core behind more most few = grind (arith, length-append, few)

member_parts : (first key second third core behind more : List ℕ) (most : ℕ) → length (first ++ (key ++ (second ++ (58 ∷ third ++ (core ++ (behind ++ more)))))) ≤ most
    → (length core ≤ most) × (length more ≤ most)
member_parts first key second third core behind more most few = grind (arith, length-append, item_parts, few)

abbrev Short : ℕ → List ℕ → Type 0
Short most bs = length bs ≤ most

mutual
  value_fits : (most : ℕ) (limited : Bool) (level : ℕ) (v : Value) (bs : List ℕ) → Spells limited level v bs → Short most bs → AllNumbers (Fits most) v
  value_fits most limited level (number n) bs h few = omega (arith, number_fits n bs h)
  value_fits most limited level (array vs) bs h few = items_fit most limited (level + 1) vs h.0 h.2 (inside_parts h.0 91 93 most (subst (Short most) h.3 few))
  value_fits most limited level (object ms) bs h few = members_fit most limited (level + 1) ms h.0 h.3 (inside_parts h.0 123 125 most (subst (Short most) h.4 few))
  value_fits most limited level _ bs h few = tt

  items_fit : (most : ℕ) (limited : Bool) (level : ℕ) (vs : Items) (bs : List ℕ) → SpellsItems limited level vs bs → Short most bs → AllItems (Fits most) vs
  items_fit most limited level no_items bs h few = tt
  items_fit most limited level (item v vs) bs h few =
      let parts = item_parts h.0 h.1 h.2 h.3 most (subst (Short most) h.8 few) in
      (value_fits most limited level v h.1 h.5 parts.0, more_items_fit most limited level vs h.3 h.7 parts.1)

  more_items_fit : (most : ℕ) (limited : Bool) (level : ℕ) (vs : Items) (bs : List ℕ) → SpellsMoreItems limited level vs bs → Short most bs → AllItems (Fits most) vs
  more_items_fit most limited level no_items bs h few = tt
  more_items_fit most limited level (item v vs) bs h few =
      let parts = item_parts (44 ∷ h.0) h.1 h.2 h.3 most (subst (Short most) h.8 few) in
      (value_fits most limited level v h.1 h.5 parts.0, more_items_fit most limited level vs h.3 h.7 parts.1)

  members_fit : (most : ℕ) (limited : Bool) (level : ℕ) (ms : Members) (bs : List ℕ) → SpellsMembers limited level ms bs → Short most bs → AllMembers (Fits most) ms
  members_fit most limited level no_members bs h few = tt
  members_fit most limited level (member k v ms) bs h few =
      let parts = member_parts h.0 h.1 h.2 h.3 h.4 h.5 h.6 most (subst (Short most) h.14 few) in
      (value_fits most limited level v h.4 h.11 parts.0, more_members_fit most limited level ms h.6 h.13 parts.1)

  more_members_fit : (most : ℕ) (limited : Bool) (level : ℕ) (ms : Members) (bs : List ℕ) → SpellsMoreMembers limited level ms bs → Short most bs → AllMembers (Fits most) ms
  more_members_fit most limited level no_members bs h few = tt
  more_members_fit most limited level (member k v ms) bs h few =
      let parts = member_parts (44 ∷ h.0) h.1 h.2 h.3 h.4 h.5 h.6 most (subst (Short most) h.14 few) in
      (value_fits most limited level v h.4 h.11 parts.0, more_members_fit most limited level ms h.6 h.13 parts.1)

-- Holding an exponent leaves the digits as they are.
mutual
  as_written : (v : Value) → AllNumbers IsShort (with_numbers held_decimal v) → AllNumbers IsShort v
  as_written (number n) h = h
  as_written (array vs) h = items_as_written vs h
  as_written (object ms) h = members_as_written ms h
  as_written _ h = tt

  items_as_written : (vs : Items) → AllItems IsShort (items_with held_decimal vs) → AllItems IsShort vs
  items_as_written no_items h = tt
  items_as_written (item v vs) h = (as_written v h.0, items_as_written vs h.1)

  members_as_written : (ms : Members) → AllMembers IsShort (members_with held_decimal ms) → AllMembers IsShort ms
  members_as_written no_members h = tt
  members_as_written (member k v ms) h = (as_written v h.0, members_as_written ms h.1)

pub short_text : (bytes : List ℕ) (v : Value) → length bytes ≤ MOST_DIGITS → IsText bytes (with_numbers held_decimal v) → AllNumbers IsShort v
short_text bytes v few is = as_written v (whole (with_numbers held_decimal v) is.1) where
  whole : (w : Value) → SpellsText true w bytes → AllNumbers IsShort w
  whole w h =
      let parts = item_parts h.0 h.1 h.2 [] MOST_DIGITS (subst (Short MOST_DIGITS) (h.6 ∙ ap (λ (b : List ℕ). h.0 ++ (h.1 ++ b)) (sym (append-nil h.2))) few) in
      value_fits MOST_DIGITS true 0 w h.1 h.4 parts.0
