-- A list with one more entry, which comes last.
-- Cite by `use Rattle.dispatch_schedule.proofs.Lists.{more}`.
use Rattle.std.proofs.Common.{◌≡◌, ℕ, ◌+◌, ◌<◌, ◌≤◌, ⊎_elim, sym, ap, subst, ◌∙◌, arith, List, [], ◌∷◌, ◌++◌, length, slice_index_or}
use Rattle.std.proofs.lemmas.Bool.{cases_lt}
use Rattle.std.proofs.lemmas.List.{length-append, get_or_append_left, get_or-append-add}

module _ {A : Type 0} (P : ℕ → A → Type 0) (d : A) where
  abbrev Are : ℕ → List A → Type 0
  Are n xs = (k : ℕ) → k < n → P k (slice_index_or xs k d)

  last : (xs : List A) (x : A) → slice_index_or (xs ++ x ∷ []) (length xs) d ≡ x
  last xs x = let at : length xs ≡ length xs + 0 = omega arith in ap (λ k. slice_index_or (xs ++ x ∷ []) k d) at ∙ get_or-append-add xs (x ∷ []) 0 d

  pub each_more : (n : ℕ) (xs : List A) (x : A) → length xs ≡ n → Are n xs → P n x → (k : ℕ) → k < n + 1 → P k (slice_index_or (xs ++ x ∷ []) k d)
  each_more n xs x size each own k h = ⊎_elim
      (λ (less : k < n). let within : k < length xs = omega arith in subst (P k) (sym (get_or_append_left xs (x ∷ []) d k within)) (each k less))
      (λ (most : n ≤ k).
      let at : k ≡ length xs = omega arith in
      subst (P k) (sym (ap (λ j. slice_index_or (xs ++ x ∷ []) j d) at ∙ last xs x)) (subst (λ j. P j x) (sym (at ∙ size)) own))
      (cases_lt k n)

  pub count_more : (n : ℕ) (xs : List A) (x : A) → length xs ≡ n → length (xs ++ x ∷ []) ≡ n + 1
  count_more n xs x size = length-append xs (x ∷ []) ∙ ap (λ m. m + 1) size
