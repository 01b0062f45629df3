-- The rows of the ramps' prices: within the size, rising, and found by a look-up.
-- Cite by `use Rattle.dispatch_prices.proofs.RampRows.{rows_within, rows_rising, up_found, down_found}`.
use Rattle.std.proofs.Common.{◌≡◌, ℕ, zero, suc, ◌<◌, ◌≤◌, ◌≢◌, ◌⊎◌, inl, inr, ⊎_elim, false, ◌&&◌, ◌==◌, refl, sym, ap, subst, ◌∙◌, arith, List, [], ◌∷◌, ◌++◌, ℤ, pos, IsTrue, if◌then◌else◌}
use Rattle.std.specs.Ordering.{int_eq}
use Rattle.std.specs.List.{All}
use Rattle.std.proofs.lemmas.Bool.{and_parts, and_from, and_left, and_right, cases_Bool, cases_lt, cond-true, cond-false, cond_both, eq-eqb, ne_eqb, true≢false}
use Rattle.std.proofs.lemmas.List.Elements.{All-head, All-tail, All-cons, All-nil, All-append}
use Rattle.uc_model.proofs.Common.{int_eq-true, eq-int_eq}
use Rattle.dual_model.specs.Prelude.{AreRising, IsRowBefore, IsRowWithin, row_of}
use Rattle.dual_model.specs.declared.table.RampRow.{RampRow}
use Rattle.dispatch_prices.specs.ReadOff.{all_rows, is_nothing, kept, ramp_row, rows_in}
use Rattle.dispatch_prices.proofs.Listing.{all_listed}

-- ---- order
-- each row comes before all after it
IsChain : List RampRow → Type 0
IsChain [] = Unit {0}
IsChain (row ∷ rows) = All (IsRowBefore row) rows × IsChain rows

chain_append : (xs ys : List RampRow) → IsChain xs → IsChain ys → All (λ x. All (IsRowBefore x) ys) xs → IsChain (xs ++ ys)
unfolding IsChain
chain_append [] ys first second before = second
chain_append (x ∷ xs) ys first second before = (
  All-append (IsRowBefore x) xs ys first.0 (All-head (λ r. All (IsRowBefore r) ys) x xs before),
  chain_append xs ys first.1 second (All-tail (λ r. All (IsRowBefore r) ys) x xs before),
)

chain_rising : (rows : List RampRow) → IsChain rows → AreRising rows
unfolding IsChain
chain_rising [] chain i d h = absurd (omega arith)
chain_rising (row ∷ []) chain i d h = absurd (omega arith)
chain_rising (row ∷ (next ∷ rows)) chain zero d h = All-head (IsRowBefore row) next rows chain.0
chain_rising (row ∷ (next ∷ rows)) chain (suc i) d h = chain_rising (next ∷ rows) chain.1 i d (omega arith)

-- every x of one list stands so to every y of another
all_pairs : (P Q : RampRow → Type 0) (R : RampRow → RampRow → Type 0) (xs ys : List RampRow) → ((x y : RampRow) → P x → Q y → R x y)
    → All P xs → All Q ys → All (λ x. All (R x) ys) xs
all_pairs P Q R [] ys each first second = All-nil (λ x. All (R x) ys)
all_pairs P Q R (x ∷ xs) ys each first second =
    All-cons (λ r. All (R r) ys) x xs (one ys second) (all_pairs P Q R xs ys each (All-tail P x xs first) second)
  where
    one : (zs : List RampRow) → All Q zs → All (R x) zs
    one [] h = All-nil (R x)
    one (z ∷ zs) h = All-cons (R x) z zs (each x z (All-head P x xs first) (All-head Q z zs h)) (one zs (All-tail Q z zs h))

module _ (up down : ℕ → ℕ → ℤ) where
  -- a row that is kept is of its cell, and not all 0
  record IsKept (g t : ℕ) (row : RampRow) : Type 0 where
    unit : row.g ≡ g
    period : row.t ≡ t
    present : (row.up ≢ pos 0) ⊎ (row.down ≢ pos 0)

  some_number : (row : RampRow) → is_nothing row ≡ false → (row.up ≢ pos 0) ⊎ (row.down ≢ pos 0)
  some_number row e = ⊎_elim
      (λ (none : IsTrue (int_eq row.up (pos 0))). inr (λ z. true≢false (sym (and_from _ _ none (eq-int_eq _ _ z)) ∙ e)))
      (λ (some : int_eq row.up (pos 0) ≡ false). inl (λ z. true≢false (sym (eq-int_eq _ _ z) ∙ some)))
      (cases_Bool (int_eq row.up (pos 0)))

  kept_are : (g t : ℕ) → All (IsKept g t) (kept (ramp_row up down g t))
  kept_are g t =
      cond_both (is_nothing (ramp_row up down g t)) [] (ramp_row up down g t ∷ []) (All (IsKept g t)) (λ e. All-nil (IsKept g t))
      (λ e. All-cons (IsKept g t) (ramp_row up down g t) [] (record { unit = refl; period = refl; present = some_number (ramp_row up down g t) e }) (All-nil (IsKept g t)))

  kept_chain : (g t : ℕ) → IsChain (kept (ramp_row up down g t))
  unfolding IsChain
  kept_chain g t = cond_both (is_nothing (ramp_row up down g t)) [] (ramp_row up down g t ∷ []) IsChain (λ e. tt) (λ e. (All-nil (IsRowBefore (ramp_row up down g t)), tt))

  -- the rows of a unit up to a period, and of the units up to one
  record IsUnitRow (g n : ℕ) (row : RampRow) : Type 0 where
    unit : row.g ≡ g
    period : row.t < n
    present : (row.up ≢ pos 0) ⊎ (row.down ≢ pos 0)

  unit_rows_are : (g n : ℕ) → All (IsUnitRow g n) (rows_in up down n g)
  unit_rows_are g n = all_listed (IsUnitRow g n) n (λ t. kept (ramp_row up down g t)) (λ t h.
      weaker t h (kept (ramp_row up down g t)) (kept_are g t))
    where
      weaker : (t : ℕ) → t < n → (rows : List RampRow) → All (IsKept g t) rows → All (IsUnitRow g n) rows
      weaker t h [] each = All-nil (IsUnitRow g n)
      weaker t h (row ∷ rows) each =
          let own = All-head (IsKept g t) row rows each in
          All-cons (IsUnitRow g n) row rows (record { unit = own.unit; period = omega (arith, own.period); present = own.present }) (weaker t h rows (All-tail (IsKept g t) row rows each))

  unit_chain : (g n : ℕ) → IsChain (rows_in up down n g)
  unfolding IsChain
  unit_chain g zero = tt
  unit_chain g (suc n) =
      chain_append (rows_in up down n g) (kept (ramp_row up down g n)) (unit_chain g n) (kept_chain g n)
      (all_pairs (IsUnitRow g n) (IsKept g n) IsRowBefore (rows_in up down n g) (kept (ramp_row up down g n))
      (λ x y p q. record { before = inr (p.unit ∙ sym q.unit, omega (arith, p.period, q.period)) }) (unit_rows_are g n) (kept_are g n))

  module _ (periods : ℕ) where
    pub rows_within : (units : ℕ) → All (IsRowWithin units periods) (all_rows up down units periods)
    rows_within units = all_listed (IsRowWithin units periods) units (rows_in up down periods) (λ g h. weaker g h (rows_in up down periods g) (unit_rows_are g periods))
      where
        weaker : (g : ℕ) → g < units → (rows : List RampRow) → All (IsUnitRow g periods) rows → All (IsRowWithin units periods) rows
        weaker g h [] each = All-nil (IsRowWithin units periods)
        weaker g h (row ∷ rows) each =
            let own = All-head (IsUnitRow g periods) row rows each in
            All-cons (IsRowWithin units periods) row rows (record { unit = omega (arith, own.unit); period = own.period; present = own.present })
            (weaker g h rows (All-tail (IsUnitRow g periods) row rows each))

    all_chain : (units : ℕ) → IsChain (all_rows up down units periods)
    unfolding IsChain
    all_chain zero = tt
    all_chain (suc n) =
        chain_append (all_rows up down n periods) (rows_in up down periods n) (all_chain n) (unit_chain n periods)
        (all_pairs (IsRowWithin n periods) (IsUnitRow n periods) IsRowBefore (all_rows up down n periods) (rows_in up down periods n)
        (λ x y p q. record { before = inl (omega (arith, p.unit, q.unit)) }) (rows_within n) (unit_rows_are n periods))

    pub rows_rising : (units : ℕ) → AreRising (all_rows up down units periods)
    rows_rising units = chain_rising (all_rows up down units periods) (all_chain units)

-- ---- look-ups
module _ (g t : ℕ) where
  abbrev IsOther : RampRow → Type 0
  IsOther row = ((row.g == g) && (row.t == t)) ≡ false

  found_after : (xs ys : List RampRow) → All IsOther xs → row_of (xs ++ ys) g t ≡ row_of ys g t
  found_after [] ys others = refl
  found_after (x ∷ xs) ys others =
      cond-false ((x.g == g) && (x.t == t)) x (row_of (xs ++ ys) g t) (All-head IsOther x xs others) ∙ found_after xs ys (All-tail IsOther x xs others)

  found_before : (xs ys : List RampRow) → All IsOther ys → row_of (xs ++ ys) g t ≡ row_of xs g t
  found_before [] [] others = refl
  found_before [] (y ∷ ys) others =
      cond-false ((y.g == g) && (y.t == t)) y (row_of ys g t) (All-head IsOther y ys others) ∙ found_before [] ys (All-tail IsOther y ys others)
  found_before (x ∷ xs) ys others = ap (λ r. if (x.g == g) && (x.t == t) then x else r) (found_before xs ys others)

  weaken : (P : RampRow → Type 0) → ((row : RampRow) → P row → IsOther row) → (rows : List RampRow) → All P rows → All IsOther rows
  weaken P each [] h = All-nil IsOther
  weaken P each (row ∷ rows) h = All-cons IsOther row rows (each row (All-head P row rows h)) (weaken P each rows (All-tail P row rows h))

  other_unit : (row : RampRow) → (row.g ≡ g → ⊥) → IsOther row
  other_unit row apart = and_left (row.g == g) (row.t == t) (ne_eqb row.g g apart)

  other_period : (row : RampRow) → (row.t ≡ t → ⊥) → IsOther row
  other_period row apart = and_right (row.g == g) (row.t == t) (ne_eqb row.t t apart)

module _ (up down : ℕ → ℕ → ℤ) (periods : ℕ) where
  -- the row that is found has the prices of its cell
  record Has (g t : ℕ) (row : RampRow) : Type 0 where
    up_is : row.up ≡ up g t
    down_is : row.down ≡ down g t

  own_found : (g t : ℕ) → Has g t (row_of (kept (ramp_row up down g t)) g t)
  own_found g t = ⊎_elim
      (λ (nothing : IsTrue (is_nothing (ramp_row up down g t))).
      let both = and_parts (int_eq (up g t) (pos 0)) (int_eq (down g t) (pos 0)) nothing in
      subst (λ rows. Has g t (row_of rows g t)) (sym (cond-true (is_nothing (ramp_row up down g t)) [] (ramp_row up down g t ∷ []) nothing))
      (record { up_is = sym (int_eq-true _ _ both.0); down_is = sym (int_eq-true _ _ both.1) }))
      (λ (some : is_nothing (ramp_row up down g t) ≡ false).
      subst (λ rows. Has g t (row_of rows g t)) (sym (cond-false (is_nothing (ramp_row up down g t)) [] (ramp_row up down g t ∷ []) some))
      (subst (Has g t) (sym (cond-true ((g == g) && (t == t)) (ramp_row up down g t) (row_of [] g t) (and_from _ _ (eq-eqb g g refl) (eq-eqb t t refl))))
      (record { up_is = refl; down_is = refl })))
      (cases_Bool (is_nothing (ramp_row up down g t)))

  unit_found : (g t n : ℕ) → t < n → Has g t (row_of (rows_in up down n g) g t)
  unit_found g t zero h = absurd (omega arith)
  unit_found g t (suc n) h = ⊎_elim
      (λ (less : t < n).
      subst (Has g t) (sym (found_before g t (rows_in up down n g) (kept (ramp_row up down g n))
      (weaken g t (IsKept up down g n) (λ row p. other_period g t row (λ e. absurd (omega (arith, p.period, e)))) (kept (ramp_row up down g n)) (kept_are up down g n))))
      (unit_found g t n less))
      (λ (most : n ≤ t).
      let same : n ≡ t = omega arith in
      subst (Has g t) (sym (found_after g t (rows_in up down n g) (kept (ramp_row up down g n))
      (weaken g t (IsUnitRow up down g n) (λ row p. other_period g t row (λ e. absurd (omega (arith, p.period, e)))) (rows_in up down n g) (unit_rows_are up down g n))))
      (subst (λ k. Has g t (row_of (kept (ramp_row up down g k)) g t)) (sym same) (own_found g t)))
      (cases_lt t n)

  row_found : (g t n : ℕ) → g < n → t < periods → Has g t (row_of (all_rows up down n periods) g t)
  row_found g t zero h k = absurd (omega arith)
  row_found g t (suc n) h k = ⊎_elim
      (λ (less : g < n).
      subst (Has g t) (sym (found_before g t (all_rows up down n periods) (rows_in up down periods n)
      (weaken g t (IsUnitRow up down n periods) (λ row p. other_unit g t row (λ e. absurd (omega (arith, p.unit, e)))) (rows_in up down periods n) (unit_rows_are up down n periods))))
      (row_found g t n less k))
      (λ (most : n ≤ g).
      let same : n ≡ g = omega arith in
      subst (Has g t) (sym (found_after g t (all_rows up down n periods) (rows_in up down periods n)
      (weaken g t (IsRowWithin n periods) (λ row p. other_unit g t row (λ e. absurd (omega (arith, p.unit, e)))) (all_rows up down n periods) (rows_within up down periods n))))
      (subst (λ j. Has g t (row_of (rows_in up down periods j) g t)) (sym same) (unit_found g t periods k)))
      (cases_lt g n)

  pub up_found : (g t n : ℕ) → g < n → t < periods → (row_of (all_rows up down n periods) g t).up ≡ up g t
  up_found g t n h k = (row_found g t n h k).up_is

  pub down_found : (g t n : ℕ) → g < n → t < periods → (row_of (all_rows up down n periods) g t).down ≡ down g t
  down_found g t n h k = (row_found g t n h k).down_is
