-- Numbers that are made column by column.
-- Cite by `use Rattle.pivot_run.proofs.CombinedEntries.{combined_more}`.
use Rattle.std.proofs.Common.{◌≡◌, ◌≢◌, ⊎_elim, ℕ, ◌+◌, ◌*◌, ◌^◌, ◌<◌, ◌≤◌, ◌++◌, below_more, true, false, refl, sym, ap, subst, ◌∙◌, arith, lit<, zero-mul, mul-zero, List, [], ◌∷◌, length, slice_index_or, ℤ, pos, ◌-ℤ◌, ◌*ℤ◌, unsigned_abs}
use Rattle.std.proofs.lemmas.Bool.{cases_Bool, cases_lt, cond-true, cond-false}
use Rattle.std.proofs.lemmas.Int.{ints}
use Rattle.std.specs.Ordering.{int_eq}
use Rattle.std.proofs.lemmas.List.{get_or_push, get_or_append_left, get_or_past, length-append}
use Rattle.pivot_run.specs.Prelude.{IsSmall, entry}
use Rattle.pivot_run.specs.inside.Entries.{AreBelow, AreEntries, AreEntriesOf, IsCombined, IsNext, IsSplit, Rise, column, number_at, with_column, with_number}
use Rattle.pivot_run.proofs.EntryLists.{number_cases, number_of_entry, number_of_none}

int_eq-true : (a b : ℤ) → int_eq a b ≡ true → a ≡ b
int_eq-true a b h = grind (arith, ints)

-- ---- one entry more
long : {X : Type 0} (xs : List X) (x : X) → length (xs ++ x ∷ []) ≡ length xs + 1
long xs x = length-append xs (x ∷ [])

-- what holds of each element of a list, and of one behind it, holds of each
each_more : {X : Type 0} (P : X → Type 0) (xs : List X) (x d : X) → ((i : ℕ) → i < length xs → P (slice_index_or xs i d)) → P x
    → (i : ℕ) → i < length (xs ++ x ∷ []) → P (slice_index_or (xs ++ x ∷ []) i d)
each_more P xs x d all own i h = grind (arith, ints, get_or_append_left, long, get_or_push, cases_lt, all, own, h)

pub rise_more : (ks : List ℕ) (c : ℕ) → Rise ks → AreBelow ks c → Rise (ks ++ c ∷ [])
rise_more ks c rise below i j h l = grind (arith, ints, get_or_append_left, long, get_or_push, cases_lt, rise, below, i, j, h, l)

pub below_push : (ks : List ℕ) (c : ℕ) → AreBelow ks c → AreBelow (ks ++ c ∷ []) (c + 1)
below_push ks c below = each_more (λ k. k < c + 1) ks c 0 (λ i h. omega (arith, below i h)) (omega arith)

pub below_weaker : (ks : List ℕ) (c d : ℕ) → c ≤ d → AreBelow ks c → AreBelow ks d
below_weaker ks c d h below i l = omega (arith, below i l)

small_push : (xs : List ℤ) (x : ℤ) → IsSmall xs → unsigned_abs x < 2 ^ 127 → IsSmall (xs ++ x ∷ [])
small_push xs x small own c = ⊎_elim
    (λ (less : c < length (xs ++ x ∷ [])). each_more (λ z. unsigned_abs z < 2 ^ 127) xs x (pos 0) (λ i h. small i) own c less)
    (λ (past : length (xs ++ x ∷ []) ≤ c). subst (λ z. unsigned_abs z < 2 ^ 127) (sym (get_or_past (xs ++ x ∷ []) c (pos 0) past)) (lit< tt))
    (cases_lt c (length (xs ++ x ∷ [])))

pub entries_more : (ks : List ℕ) (xs : List ℤ) (c : ℕ) (x : ℤ) → AreEntries ks xs → AreBelow ks c → unsigned_abs x < 2 ^ 127 → AreEntries (ks ++ c ∷ []) (xs ++ x ∷ [])
entries_more ks xs c x are below size = grind (arith, ints, long, rise_more, small_push, are, below, size)

-- the numbers before it stay
number_before : (ks : List ℕ) (xs : List ℤ) (c k : ℕ) (x : ℤ) → AreEntries (ks ++ c ∷ []) (xs ++ x ∷ []) → AreEntries ks xs → k < c
    → number_at (ks ++ c ∷ []) (xs ++ x ∷ []) k ≡ number_at ks xs k
number_before ks xs c k x more are h = ⊎_elim
    (λ found.
    let less : found.0 < length ks = omega (arith, found.1) in
    let there : column (ks ++ c ∷ []) found.0 ≡ k = get_or_append_left ks (c ∷ []) 0 found.0 less ∙ found.2 in
    ap (number_at (ks ++ c ∷ []) (xs ++ x ∷ [])) (sym there)
    ∙ number_of_entry (ks ++ c ∷ []) (xs ++ x ∷ []) found.0 more.rise more.lengths (omega (arith, long ks c))
    ∙ get_or_append_left xs (x ∷ []) (pos 0) found.0 (omega (arith, are.lengths)) ∙ sym found.3)
    (λ none. number_of_none (ks ++ c ∷ []) (xs ++ x ∷ []) k more.lengths (λ i l. each_more (λ j. j ≢ k) ks c 0 none.0 (λ e. absurd (omega (arith, e))) i l) ∙ sym none.1)
    (number_cases ks xs k are.lengths)

number_last : (ks : List ℕ) (xs : List ℤ) (c : ℕ) (x : ℤ) → AreEntries (ks ++ c ∷ []) (xs ++ x ∷ []) → AreEntries ks xs → number_at (ks ++ c ∷ []) (xs ++ x ∷ []) c ≡ x
number_last ks xs c x more are =
    ap (number_at (ks ++ c ∷ []) (xs ++ x ∷ [])) (sym (get_or_push ks c 0 (length ks) refl))
    ∙ number_of_entry (ks ++ c ∷ []) (xs ++ x ∷ []) (length ks) more.rise more.lengths (omega (arith, long ks c))
    ∙ get_or_push xs x (pos 0) (length ks) (sym are.lengths)

-- none stands in a column that all are below
number_beyond : (ks : List ℕ) (xs : List ℤ) (c k : ℕ) → AreEntries ks xs → AreBelow ks c → c ≤ k → number_at ks xs k ≡ pos 0
number_beyond ks xs c k are below h = number_of_none ks xs k are.lengths (λ i l. λ e. absurd (omega (arith, below i l, e)))

-- ---- those of a row
of_more : (row : List ℤ) (ks : List ℕ) (xs : List ℤ) (c : ℕ) (x : ℤ) → AreEntriesOf row ks xs c → x ≡ entry row c → unsigned_abs x < 2 ^ 127
    → AreEntriesOf row (ks ++ c ∷ []) (xs ++ x ∷ []) (c + 1)
of_more row ks xs c x before value size =
    let more = entries_more ks xs c x before.entries before.below size in
    record {
      entries = more;
      below = below_push ks c before.below;
      values = below_more _ _ (λ k h. number_before ks xs c k x more before.entries h ∙ before.values k h) (number_last ks xs c x more before.entries ∙ value);
    }

of_skip : (row : List ℤ) (ks : List ℕ) (xs : List ℤ) (c : ℕ) → AreEntriesOf row ks xs c → entry row c ≡ pos 0 → AreEntriesOf row ks xs (c + 1)
of_skip row ks xs c before zero = grind (arith, ints, below_weaker, below_more, number_beyond, before)

pub of_added : (row : List ℤ) (ks : List ℕ) (xs : List ℤ) (c : ℕ) (x : ℤ) → AreEntriesOf row ks xs c → x ≡ entry row c → unsigned_abs x < 2 ^ 127
    → AreEntriesOf row (with_column c x ks) (with_number x xs) (c + 1)
of_added row ks xs c x before value size = ⊎_elim
    (λ (zero : int_eq x (pos 0) ≡ true).
    rw (cond-true (int_eq x (pos 0)) ks (ks ++ c ∷ []) zero, cond-true (int_eq x (pos 0)) xs (xs ++ x ∷ []) zero)
    (of_skip row ks xs c before (sym value ∙ int_eq-true x (pos 0) zero)))
    (λ (other : int_eq x (pos 0) ≡ false).
    rw (cond-false (int_eq x (pos 0)) ks (ks ++ c ∷ []) other, cond-false (int_eq x (pos 0)) xs (xs ++ x ∷ []) other)
    (of_more row ks xs c x before value size))
    (cases_Bool (int_eq x (pos 0)))

-- ---- those of two rows together
-- a number times 0, less a number times 0
nothing : (x y p e : ℤ) → x ≡ pos 0 → y ≡ pos 0 → pos 0 ≡ x *ℤ p -ℤ e *ℤ y
nothing x y p e f g = grind (arith, ints, f, g)

small_product : (n : ℕ) (x : ℤ) → x ≡ pos 0 → unsigned_abs x * n < 2 ^ 126
small_product n x e = subst (λ z. unsigned_abs z * n < 2 ^ 126) (sym e) (subst (λ m. m < 2 ^ 126) (sym (zero-mul n)) (lit< tt))

small_product_of : (n : ℕ) (x : ℤ) → x ≡ pos 0 → n * unsigned_abs x < 2 ^ 126
small_product_of n x e = subst (λ z. n * unsigned_abs z < 2 ^ 126) (sym e) (subst (λ m. m < 2 ^ 126) (sym (mul-zero n)) (lit< tt))

-- columns in which both are 0
pub combined_skip : (f g : ℕ → ℤ) (p e : ℤ) (ks : List ℕ) (xs : List ℤ) (c d : ℕ) → IsCombined f g p e ks xs c → c ≤ d
    → ((k : ℕ) → c ≤ k → k < d → f k ≡ pos 0) → ((k : ℕ) → c ≤ k → k < d → g k ≡ pos 0) → IsCombined f g p e ks xs d
combined_skip f g p e ks xs c d before h zero other =
    grind (arith, ints, below_weaker, number_beyond, nothing, cases_lt, small_product, small_product_of, before, h, other)

-- one column more
combined_more : (f g : ℕ → ℤ) (p e : ℤ) (ks : List ℕ) (xs : List ℤ) (c : ℕ) (z : ℤ) → IsCombined f g p e ks xs c
    → z ≡ f c *ℤ p -ℤ e *ℤ g c → unsigned_abs z < 2 ^ 127 → unsigned_abs (f c) * unsigned_abs p < 2 ^ 126 → unsigned_abs e * unsigned_abs (g c) < 2 ^ 126
    → IsCombined f g p e (ks ++ c ∷ []) (xs ++ z ∷ []) (c + 1)
combined_more f g p e ks xs c z before value size first second =
    let more = entries_more ks xs c z before.entries before.below size in
    record {
      entries = more;
      below = below_push ks c before.below;
      values = below_more _ _ (λ k h. number_before ks xs c k z more before.entries h ∙ before.values k h) (number_last ks xs c z more before.entries ∙ value);
      first = below_more _ _ before.first first;
      second = below_more _ _ before.second second;
    }

combined_same : (f g : ℕ → ℤ) (p e : ℤ) (ks : List ℕ) (xs : List ℤ) (c : ℕ) (z : ℤ) → IsCombined f g p e ks xs c → z ≡ pos 0
    → z ≡ f c *ℤ p -ℤ e *ℤ g c → unsigned_abs (f c) * unsigned_abs p < 2 ^ 126 → unsigned_abs e * unsigned_abs (g c) < 2 ^ 126
    → IsCombined f g p e ks xs (c + 1)
combined_same f g p e ks xs c z before zero value first second =
    grind (arith, ints, below_weaker, below_more, number_beyond, before, value, first, second)

pub combined_added : (f g : ℕ → ℤ) (p e : ℤ) (ks : List ℕ) (xs : List ℤ) (c : ℕ) (z : ℤ) → IsCombined f g p e ks xs c
    → z ≡ f c *ℤ p -ℤ e *ℤ g c → unsigned_abs z < 2 ^ 127 → unsigned_abs (f c) * unsigned_abs p < 2 ^ 126 → unsigned_abs e * unsigned_abs (g c) < 2 ^ 126
    → IsCombined f g p e (with_column c z ks) (with_number z xs) (c + 1)
combined_added f g p e ks xs c z before value size first second = ⊎_elim
    (λ (zero : int_eq z (pos 0) ≡ true).
    rw (cond-true (int_eq z (pos 0)) ks (ks ++ c ∷ []) zero, cond-true (int_eq z (pos 0)) xs (xs ++ z ∷ []) zero)
    (combined_same f g p e ks xs c z before (int_eq-true z (pos 0) zero) value first second))
    (λ (other : int_eq z (pos 0) ≡ false).
    rw (cond-false (int_eq z (pos 0)) ks (ks ++ c ∷ []) other, cond-false (int_eq z (pos 0)) xs (xs ++ z ∷ []) other)
    (combined_more f g p e ks xs c z before value size first second))
    (cases_Bool (int_eq z (pos 0)))

-- ---- two rows, each up to a column
-- none stands from the split on before a column that all behind it reach
pub none_between : (ks : List ℕ) (xs : List ℤ) (a c d k : ℕ) → AreEntries ks xs → IsSplit ks a c → (a < length ks → d ≤ column ks a) → c ≤ k → k < d → number_at ks xs k ≡ pos 0
none_between ks xs a c d k are split next h l = grind (arith, ints, number_of_none, cases_lt, are, split, next, h, l)

-- the next column of both isn't before the one that both are split at
pub next_reaches : (ks : List ℕ) (a : ℕ) (ls : List ℕ) (b c d : ℕ) → IsSplit ks a c → IsSplit ls b c → IsNext ks a ls b d → c ≤ d
next_reaches ks a ls b c d one other next = grind (arith, ints, one, other, next)

pub next_below : (ks : List ℕ) (a : ℕ) (ls : List ℕ) (b d n : ℕ) → IsNext ks a ls b d → AreBelow ks n → AreBelow ls n → d < n
next_below ks a ls b d n next one other = grind (arith, ints, next, one, other)

-- the columns up to the next one, and that one, by the numbers there
pub combined_next : (ks : List ℕ) (xs : List ℤ) (a : ℕ) (ls : List ℕ) (ys : List ℤ) (b : ℕ) (p e : ℤ) (ms : List ℕ) (zs : List ℤ) (c d : ℕ) (x y z : ℤ)
    → AreEntries ks xs → AreEntries ls ys → IsSplit ks a c → IsSplit ls b c → IsNext ks a ls b d
    → IsCombined (number_at ks xs) (number_at ls ys) p e ms zs c → x ≡ number_at ks xs d → y ≡ number_at ls ys d → z ≡ x *ℤ p -ℤ e *ℤ y
    → unsigned_abs z < 2 ^ 127 → unsigned_abs x * unsigned_abs p < 2 ^ 126 → unsigned_abs e * unsigned_abs y < 2 ^ 126
    → IsCombined (number_at ks xs) (number_at ls ys) p e (with_column d z ms) (with_number z zs) (d + 1)
combined_next ks xs a ls ys b p e ms zs c d x y z own are one other next before f g value size first second =
    combined_added (number_at ks xs) (number_at ls ys) p e ms zs d z
    (combined_skip (number_at ks xs) (number_at ls ys) p e ms zs c d before (next_reaches ks a ls b c d one other next)
    (λ k h l. none_between ks xs a c d k own one next.one h l) (λ k h l. none_between ls ys b c d k are other next.other h l))
    (value ∙ ap (λ w. w *ℤ p -ℤ e *ℤ y) f ∙ ap (λ w. number_at ks xs d *ℤ p -ℤ e *ℤ w) g) size
    (subst (λ w. unsigned_abs w * unsigned_abs p < 2 ^ 126) f first) (subst (λ w. unsigned_abs e * unsigned_abs w < 2 ^ 126) g second)

-- where none is left, all are combined
pub combined_all : (ks : List ℕ) (xs : List ℤ) (a : ℕ) (ls : List ℕ) (ys : List ℤ) (b : ℕ) (p e : ℤ) (ms : List ℕ) (zs : List ℤ) (c n : ℕ)
    → AreEntries ks xs → AreEntries ls ys → IsSplit ks a c → IsSplit ls b c → length ks ≤ a → length ls ≤ b
    → IsCombined (number_at ks xs) (number_at ls ys) p e ms zs c → c ≤ n → IsCombined (number_at ks xs) (number_at ls ys) p e ms zs n
combined_all ks xs a ls ys b p e ms zs c n own are one other none nought before h =
    combined_skip (number_at ks xs) (number_at ls ys) p e ms zs c n before h
    (λ k l m. none_between ks xs a c n k own one (λ i. absurd (omega arith)) l m) (λ k l m. none_between ls ys b c n k are other (λ i. absurd (omega arith)) l m)
