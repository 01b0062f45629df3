-- Where a unit's rows begin and end among rows that rise by unit and then by period, and what a look-up finds there.
use Rattle.std.proofs.Common.{◌≡◌, ℕ, zero, suc, ◌+◌, ◌-◌, ◌<◌, ◌≤◌, ⊎_elim, false, ◌&&◌, ◌==◌, nat_lt, List, [], ◌∷◌, ◌++◌, length, take, drop, replicate, refl, sym, ap, subst, ◌∙◌, arith, pos, slice_index_or, length-append, if◌then◌else◌}
use Rattle.std.proofs.lemmas.Bool.{and_left, cond-true, cond-false, cond_both, le-ltb, lt-ltb, ne_eqb}
use Rattle.std.proofs.lemmas.List.{length-replicate, get_or_default, get_or_past, get_or_append_left, get_or-append_right, get_or-replicate, get_or-take, get_or-drop, length-take, length-drop}
use Rattle.dual_model.specs.Prelude.{RampRow, AreRising, ArePlacesOf, IsRowBefore, row_of, rows_before, unit_rows}

-- ---- the order of units
unit-order : (first second : RampRow) → IsRowBefore first second → first.g ≤ second.g
unit-order first second h = grind (arith, h)

tail-rising : (row : RampRow) (rows : List RampRow) → AreRising (row ∷ rows) → AreRising rows
tail-rising row rows rising i d h = rising (suc i) d (omega arith)

-- a row behind another one is of no earlier unit
unit-later : (rows : List RampRow) → AreRising rows → (i j : ℕ) (d : RampRow) → i ≤ j → j < length rows
    → (slice_index_or rows i d).g ≤ (slice_index_or rows j d).g
unit-later rows rising i zero d h l = grind (arith, rising, h, l)
unit-later rows rising i (suc j) d h l = ⊎_elim
    (λ (same : i ≡ suc j). subst (λ n. (slice_index_or rows n d).g ≤ (slice_index_or rows (suc j) d).g) (sym same) (omega arith))
    (λ (earlier : i ≤ j).
    omega (
      arith,
      unit-later rows rising i j d earlier (omega arith),
      unit-order (slice_index_or rows j d) (slice_index_or rows (suc j) d) (rising j d l),
    ))
    (grind arith)

-- ---- how many rows stand before a unit
before-in : (row : RampRow) (rows : List RampRow) (g : ℕ) → row.g < g → rows_before (row ∷ rows) g ≡ suc (rows_before rows g)
before-in row rows g h = cond-true _ _ _ (lt-ltb row.g g h)

before-out : (row : RampRow) (rows : List RampRow) (g : ℕ) → g ≤ row.g → rows_before (row ∷ rows) g ≡ rows_before rows g
before-out row rows g h = cond-false _ _ _ (le-ltb row.g g h)

-- the next unit's place is no earlier
pub before-next : (rows : List RampRow) (g : ℕ) → rows_before rows g ≤ rows_before rows (suc g)
before-next [] g = omega arith
before-next (row ∷ rows) g = ⊎_elim
    (λ (earlier : row.g < g). omega (arith, before-next rows g, before-in row rows g earlier, before-in row rows (suc g) (omega arith)))
    (λ (other : g ≤ row.g).
    let rest = before-next rows g in
    let here = before-out row rows g other in
    cond_both (nat_lt row.g (suc g)) (suc (rows_before rows (suc g))) (rows_before rows (suc g)) (λ n. rows_before (row ∷ rows) g ≤ n)
    (λ e. omega (arith, rest, here))
    (λ e. omega (arith, rest, here)))
    (grind arith)

-- so many rows are of earlier units where these stand in front
place-is : (rows : List RampRow) (g n : ℕ) (d : RampRow) → n ≤ length rows → ((i : ℕ) → i < n → (slice_index_or rows i d).g < g)
    → ((i : ℕ) → n ≤ i → i < length rows → g ≤ (slice_index_or rows i d).g)
    → rows_before rows g ≡ n
place-is [] g n d h earlier later = omega arith
place-is (row ∷ rows) g zero d h earlier later =
    before-out row rows g (later 0 (omega arith) (omega arith))
    ∙ place-is rows g 0 d (omega arith) (λ i l. absurd (omega arith)) (λ i low l. later (suc i) (omega arith) (omega arith))
place-is (row ∷ rows) g (suc n) d h earlier later =
    before-in row rows g (earlier 0 (omega arith))
    ∙ ap suc (place-is rows g n d (omega arith) (λ i l. earlier (suc i) (omega arith)) (λ i low l. later (suc i) (omega arith) (omega arith)))

-- the first n rows are of units before g, and the others aren't
record AreParted (rows : List RampRow) (g n : ℕ) (d : RampRow) : Type 0 where
  earlier : (i : ℕ) → i < n → (slice_index_or rows i d).g < g
  later : (i : ℕ) → n ≤ i → i < length rows → g ≤ (slice_index_or rows i d).g

parted-more : (row : RampRow) (rows : List RampRow) (g n : ℕ) (d : RampRow) → row.g < g → AreParted rows g n d
    → AreParted (row ∷ rows) g (suc n) d
parted-more row rows g n d h rest = grind (arith, h, rest)

parted : (rows : List RampRow) → AreRising rows → (g : ℕ) (d : RampRow) → AreParted rows g (rows_before rows g) d
parted [] rising g d = record { earlier = λ i l. absurd (omega arith); later = λ i low l. absurd (omega arith) }
parted (row ∷ rows) rising g d = ⊎_elim
    (λ (h : row.g < g).
    subst (λ n. AreParted (row ∷ rows) g n d) (sym (before-in row rows g h))
    (parted-more row rows g (rows_before rows g) d h (parted rows (tail-rising row rows rising) g d)))
    (λ (h : g ≤ row.g).
    let back : (i : ℕ) → 0 ≤ i → i < length (row ∷ rows) → g ≤ (slice_index_or (row ∷ rows) i d).g =
    λ i low l. omega (arith, h, unit-later (row ∷ rows) rising 0 i d low l) in
    let front : (i : ℕ) → i < 0 → (slice_index_or (row ∷ rows) i d).g < g = λ i l. absurd (omega arith) in
    subst (λ n. AreParted (row ∷ rows) g n d) (sym (place-is (row ∷ rows) g 0 d (omega arith) front back))
    (record { earlier = front; later = back }))
    (grind arith)

-- ---- a look-up among the rows of a unit
other_unit : (row : RampRow) (g t : ℕ) → (row.g ≡ g → ⊥) → ((row.g == g) && (row.t == t)) ≡ false
other_unit row g t h = and_left (row.g == g) (row.t == t) (ne_eqb row.g g h)

row_of-drop : (rows : List RampRow) (g t n : ℕ) (d : RampRow) → ((i : ℕ) → i < n → (slice_index_or rows i d).g < g)
    → row_of (drop n rows) g t ≡ row_of rows g t
row_of-drop rows g t zero d h = refl
row_of-drop [] g t (suc n) d h = refl
row_of-drop (row ∷ rows) g t (suc n) d h =
    row_of-drop rows g t n d (λ i l. h (suc i) (omega arith))
    ∙ sym (cond-false _ row (row_of rows g t) (other_unit row g t (λ e. omega (arith, e, h 0 (omega arith)))))

row_of-none : (rows : List RampRow) (g t : ℕ) (d : RampRow) → ((i : ℕ) → i < length rows → g < (slice_index_or rows i d).g)
    → row_of [] g t ≡ row_of rows g t
row_of-none [] g t d h = refl
row_of-none (row ∷ rows) g t d h =
    row_of-none rows g t d (λ i l. h (suc i) (omega arith))
    ∙ sym (cond-false _ row (row_of rows g t) (other_unit row g t (λ e. omega (arith, e, h 0 (omega arith)))))

row_of-take : (rows : List RampRow) (g t n : ℕ) (d : RampRow) → ((i : ℕ) → n ≤ i → i < length rows → g < (slice_index_or rows i d).g)
    → row_of (take n rows) g t ≡ row_of rows g t
row_of-take rows g t zero d h = row_of-none rows g t d (λ i l. h i (omega arith) l)
row_of-take [] g t (suc n) d h = refl
row_of-take (row ∷ rows) g t (suc n) d h =
    ap (λ (rest : RampRow). if (row.g == g) && (row.t == t) then row else rest)
    (row_of-take rows g t n d (λ i low l. h (suc i) (omega arith) (omega arith)))

-- a look-up among a unit's rows finds what one from the front of all rows does
pub look_up : (rows : List RampRow) → AreRising rows → (g t : ℕ) → row_of (unit_rows rows g) g t ≡ row_of rows g t
look_up rows rising g t =
    let none : RampRow = record { g = 0; t = 0; up = pos 0; down = pos 0 } in
    let start = rows_before rows g in
    let end = rows_before rows (suc g) in
    let later : (i : ℕ) → end - start ≤ i → i < length (drop start rows) → g < (slice_index_or (drop start rows) i none).g =
    λ i low l.
    let inside : start + i < length rows = omega (arith, length-drop start rows) in
    let far = (parted rows rising (suc g) none).later (start + i) (omega (arith, before-next rows g)) inside in
    subst (λ (row : RampRow). g < row.g) (sym (get_or-drop start rows i none)) (omega (arith, far)) in
    row_of-take (drop start rows) g t (end - start) none later
    ∙ row_of-drop rows g t start none (parted rows rising g none).earlier

-- the rows of a unit rise as all rows do
pub rising-part : (rows : List RampRow) → AreRising rows → (g : ℕ) → AreRising (unit_rows rows g)
rising-part rows rising g i d h = grind (arith, length-take, length-drop, slice_index_or, get_or-take, get_or-drop, rising, i, d, h)

-- ---- the places of the units
-- the places of the units up to that of the last of the first n rows
pub record ArePlacesSoFar (rows : List RampRow) (n : ℕ) (places : List ℕ) : Type 0 where
  pub within : n ≤ length rows
  pub earlier : (i : ℕ) (d : RampRow) → i < n → (slice_index_or rows i d).g < length places
  pub later : (i : ℕ) (d : RampRow) → n ≤ i → i < length rows → length places ≤ suc (slice_index_or rows i d).g
  pub place : (g d : ℕ) → g < length places → slice_index_or places g d ≡ rows_before rows g
  pub needed : (g : ℕ) → g < length places → rows_before rows g < n

-- units up to that of row n which have no place yet begin there
new_place : (rows : List RampRow) → AreRising rows → (n g : ℕ) (places : List ℕ) (d : RampRow) → ArePlacesSoFar rows n places
    → n < length rows → length places ≤ g → g ≤ (slice_index_or rows n d).g → rows_before rows g ≡ n
new_place rows rising n g places d so_far h low high =
    place-is rows g n d (omega arith)
    (λ i l. omega (arith, so_far.earlier i d l))
    (λ i behind l. omega (arith, high, unit-later rows rising n i d behind l))

pub more_places : (rows : List RampRow) → AreRising rows → (n : ℕ) (places : List ℕ) (d : RampRow) → ArePlacesSoFar rows n places
    → n < length rows
    → ArePlacesSoFar rows (suc n) (places ++ replicate (suc (slice_index_or rows n d).g - length places) n)
more_places rows rising n places d so_far h =
    let last = (slice_index_or rows n d).g in
    let new : List ℕ = replicate (suc last - length places) n in
    let room : length places ≤ suc last = so_far.later n d (omega arith) h in
    let added : length new ≡ suc last - length places = length-replicate (suc last - length places) n in
    let same : (e : RampRow) → (slice_index_or rows n e).g ≡ last = λ e. ap (λ (row : RampRow). row.g) (get_or_default rows n e d h) in
    let size : length (places ++ new) ≡ suc last = length-append places new ∙ omega (arith, added, room) in
    record {
      within = omega arith;
      earlier = λ i e l. omega (arith, size, same e, unit-later rows rising i n e (omega arith) h);
      later = λ i e low l. omega (arith, size, same e, unit-later rows rising n i e (omega arith) l);
      place = λ g e l. ⊎_elim
          (λ (old : g < length places). get_or_append_left places new e g old ∙ so_far.place g e old)
          (λ (past : length places ≤ g).
          get_or-append_right places new (length places) g e refl past
          ∙ get_or-replicate (suc last - length places) (g - length places) n e (omega (arith, size))
          ∙ sym (new_place rows rising n g places d so_far h past (omega (arith, size))))
          (grind arith);
      needed = λ g l. ⊎_elim
          (λ (old : g < length places). omega (arith, so_far.needed g old))
          (λ (past : length places ≤ g). omega (arith, new_place rows rising n g places d so_far h past (omega (arith, size))))
          (grind arith);
    }

-- with all rows passed they are the places
pub all_places : (rows : List RampRow) (n : ℕ) (places : List ℕ) → n ≡ length rows → ArePlacesSoFar rows n places → ArePlacesOf places rows
all_places rows n places all so_far =
    let none : RampRow = record { g = 0; t = 0; up = pos 0; down = pos 0 } in
    record {
      place = λ g. ⊎_elim
          (λ (within : g < length places). so_far.place g (length rows) within)
          (λ (past : length places ≤ g).
          get_or_past places g (length rows) past
          ∙ sym (place-is rows g (length rows) none (omega arith)
          (λ i l. omega (arith, so_far.earlier i none (omega arith)))
          (λ i low l. absurd (omega arith))))
          (grind arith);
      needed = λ g l. omega (arith, so_far.needed g l);
    }
