-- The columns and lines of a program in order: what each is, and what is added to lists of their numbers.
-- Cite by `use Rattle.dispatch_table.proofs.ColumnLists.{read_column}`.
use Rattle.std.proofs.Common.{◌≡◌, ℕ, zero, suc, ◌+◌, ◌-◌, ◌*◌, ◌^◌, ◌<◌, ◌≤◌, ⊎_elim, refl, sym, ap, subst, ◌∙◌, arith, Bool, true, false, List, [], ◌∷◌, ◌++◌, map, length, take, slice_index_or, ℤ, pos, ◌+ℤ◌, to_z, of_z, unsigned_abs, append_assoc, add-one, lit<, if◌then◌else◌}
use Rattle.std.proofs.lemmas.Bool.{cases_lt}
use Rattle.std.proofs.lemmas.List.{map-append, length-map, get_or-map, get_or_append_left, get_or-append-add, take_more}
use Rattle.std.specs.Int.{w128}
use Rattle.uc_model.specs.Prelude.{sum_below}
use Rattle.uc_model.proofs.Common.{abs_add}
use Rattle.uc_model.proofs.Sizes.{wide}
use Rattle.pivot_run.specs.Prelude.{IsSmall, entry}
use Rattle.dispatch_program.specs.Prelude.{Program, RightSide, HasColumn, Line, RuleLine, SumLine, CostLine, Slack, Artificial, SumValue, CostValue, all, basic_column, bump, columns_of, counted, has_artificial, is_limit, lines_of, picked, place, slacks}
use Rattle.dispatch_rules.proofs.Listed.{Each, each_none, each_one, each_append}
use Rattle.dispatch_table.specs.declared.column.Column.{Column as ColumnName}
use Rattle.dispatch_table.specs.Numbers.{column_of}

-- ---- the columns that there are
pub each_picked : {A : Type 0} (P : A → Type 0) (test : ℕ → Bool) (f : ℕ → A) (n : ℕ) → ((i : ℕ) → i < n → test i ≡ true → P (f i)) → Each P (picked test f n)
each_picked P test f zero h = each_none P
each_picked P test f (suc n) h =
    each_append P (picked test f n) (if test n then f n ∷ [] else []) (each_picked P test f n (λ i l e. h i (omega arith) e)) (last (test n) (h n (omega arith)))
  where
    last : (b : Bool) → (b ≡ true → P (f n)) → Each P (if b then f n ∷ [] else [])
    last true there = each_one P (f n) (there refl)
    last false there = each_none P

pub columns_are : (p : Program) → Each (HasColumn p) (columns_of p)
columns_are p =
    each_append (HasColumn p) _ _ (each_picked (HasColumn p) all _ p.unknowns (λ i h e. h))
    (each_append (HasColumn p) _ _ (each_picked (HasColumn p) (is_limit p) _ p.rules (λ i h e. (h, e)))
    (each_append (HasColumn p) _ _ (each_picked (HasColumn p) (has_artificial p) _ p.rules (λ i h e. (h, e)))
    (each_append (HasColumn p) (SumValue ∷ []) (CostValue ∷ RightSide ∷ []) (each_one (HasColumn p) SumValue tt)
    (each_append (HasColumn p) (CostValue ∷ []) (RightSide ∷ []) (each_one (HasColumn p) CostValue tt) (each_one (HasColumn p) RightSide tt)))))

pub read_column : (p : Program) (xs : List ColumnName) (i : ℕ) (d : ColumnName) → map column_of xs ≡ columns_of p → i < length xs
    → HasColumn p (column_of (slice_index_or xs i d))
read_column p xs i d are h =
    subst (HasColumn p) (ap (λ cs. slice_index_or cs i RightSide) (sym are) ∙ get_or-map column_of xs i d RightSide h)
    (columns_are p i RightSide (subst (λ n. i < n) (sym (length-map xs column_of) ∙ ap length are) h))

-- ---- a list of numbers
pub push_taken : {A B : Type 0} (f : A → B) (xs : List A) (i : ℕ) (d : A) (items new : List B) (z : B) → i < length xs → items ≡ map f (take i xs)
    → new ≡ items ++ z ∷ [] → z ≡ f (slice_index_or xs i d) → new ≡ map f (take (i + 1) xs)
push_taken f xs i d items new z h before made is =
    made
    ∙ (λ j. before j ++ is j ∷ [])
    ∙ sym (map-append f (take i xs) (slice_index_or xs i d ∷ []))
    ∙ ap (map f) (sym (take_more xs i d h))

pub push_small : (row : List ℤ) (z : ℤ) → IsSmall row → unsigned_abs z < 2 ^ 127 → IsSmall (row ++ z ∷ [])
push_small row z small own k = ⊎_elim
    (λ (less : k < length row). subst (λ x. unsigned_abs x < 2 ^ 127) (sym (get_or_append_left row (z ∷ []) (pos 0) k less)) (small k))
    (λ (most : length row ≤ k).
    let at : k ≡ length row + (k - length row) = omega arith in
    subst (λ x. unsigned_abs x < 2 ^ 127)
    (sym (ap (λ m. entry (row ++ z ∷ []) m) at ∙ get_or-append-add row (z ∷ []) (k - length row) (pos 0)))
    (last (k - length row)))
    (cases_lt k (length row))
  where
    last : (m : ℕ) → unsigned_abs (entry (z ∷ []) m) < 2 ^ 127
    last zero = own
    last (suc m) = lit< tt

-- ---- the basic columns
own_place : (p : Program) (i s a : ℕ) → s ≡ place p (Slack i) → a ≡ place p (Artificial i) → (there : Bool)
    → (if there then a else s) ≡ place p (if there then Artificial i else Slack i)
own_place p i s a slack artificial true = artificial
own_place p i s a slack artificial false = slack

pub basis_more : (p : Program) (items new : List ℕ) (i s a own : ℕ) (there : Bool) → items ≡ map (λ line. place p (basic_column p line)) (picked all RuleLine i)
    → s ≡ place p (Slack i) → a ≡ place p (Artificial i) → there ≡ has_artificial p i → own ≡ (if there then a else s) → new ≡ items ++ own ∷ []
    → new ≡ map (λ line. place p (basic_column p line)) (picked all RuleLine (i + 1))
basis_more p items new i s a own there before slack artificial is chosen made =
    let f : Line → ℕ = λ line. place p (basic_column p line) in
    let place_is : own ≡ f (RuleLine i) = chosen ∙ ap (λ b. if b then a else s) is ∙ own_place p i s a slack artificial (has_artificial p i) in
    made
    ∙ (λ j. before j ++ place_is j ∷ [])
    ∙ sym (map-append f (picked all RuleLine i) (RuleLine i ∷ []))
    ∙ ap (λ m. map f (picked all RuleLine m)) (sym (add-one i))

-- and the place behind the columns of one rule more
pub place_more : (test : ℕ → Bool) (before i old new : ℕ) (there : Bool) → old ≡ before + counted test i → there ≡ test i → new ≡ old + bump there
    → new ≡ before + counted test (i + 1)
place_more test before i old new there place is made =
    let more : counted test (i + 1) ≡ counted test i + bump (test i) = ap (counted test) (add-one i) in
    let last = ap bump is in
    omega arith

pub basis_is : (p : Program) (items two new : List ℕ) (i a : ℕ) → i ≡ p.rules → items ≡ map (λ line. place p (basic_column p line)) (picked all RuleLine i)
    → a ≡ p.unknowns + (slacks p + counted (has_artificial p) i) → two ≡ items ++ a ∷ [] → new ≡ two ++ (a + 1) ∷ []
    → new ≡ map (λ line. place p (basic_column p line)) (lines_of p)
basis_is p items two new i a end before at second third =
    let f : Line → ℕ = λ line. place p (basic_column p line) in
    let count = ap (counted (has_artificial p)) end in
    let sum : a ≡ place p SumValue = omega arith in
    let cost : a + 1 ≡ place p CostValue = omega arith in
    third
    ∙ ap (λ xs. xs ++ (a + 1) ∷ []) second
    ∙ append_assoc items (a ∷ []) ((a + 1) ∷ [])
    ∙ ap (λ xs. xs ++ (a ∷ (a + 1) ∷ [])) (before ∙ ap (λ n. map f (picked all RuleLine n)) end)
    ∙ (λ j. map f (picked all RuleLine p.rules) ++ (sum j ∷ cost j ∷ []))
    ∙ sym (map-append f (picked all RuleLine p.rules) (SumLine ∷ CostLine ∷ []))

-- ---- a sum over the rules
pub off_more : (total n r : ℤ) (i count : ℕ) (f : ℕ → ℤ) → r ≡ total +ℤ to_z w128 (of_z w128 n) → unsigned_abs n ≤ 2 ^ 63 → n ≡ f i → total ≡ sum_below i f
    → unsigned_abs total ≤ i * 2 ^ 63 → i < count → count * 16 < 2 ^ 63
    → (to_z w128 (of_z w128 r) ≡ sum_below (i + 1) f) × (unsigned_abs (to_z w128 (of_z w128 r)) ≤ (i + 1) * 2 ^ 63)
off_more total n r i count f made small is sum size less few =
    let whole : r ≡ total +ℤ n = made ∙ ap (λ z. total +ℤ z) (wide n (2 ^ 63) small (lit< tt)) in
    let both = abs_add total n (i * 2 ^ 63) (2 ^ 63) size small in
    let most : unsigned_abs r ≤ (i + 1) * 2 ^ 63 = subst (λ z. unsigned_abs z ≤ (i + 1) * 2 ^ 63) (sym whole) (omega arith) in
    let bits = wide r ((i + 1) * 2 ^ 63) most (omega arith) in (
      bits ∙ whole ∙ (λ j. sum j +ℤ is j) ∙ ap (λ m. sum_below m f) (sym (add-one i)),
      subst (λ z. unsigned_abs z ≤ (i + 1) * 2 ^ 63) (sym bits) most,
    )
