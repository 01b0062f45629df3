-- What stands in a list in order: each member comes from a place, and each place gives its members.
-- Cite by `use Rattle.dispatch_rules.proofs.Listed.{stands_listed}`.
use Rattle.std.proofs.Common.{◌≡◌, ℕ, zero, suc, ◌+◌, ◌-◌, ◌<◌, ◌≤◌, ⊎_elim, refl, sym, ap, subst, ◌∙◌, arith, List, [], ◌∷◌, ◌++◌, length, slice_index_or}
use Rattle.std.proofs.lemmas.Bool.{cases_lt}
use Rattle.std.proofs.lemmas.List.{length-append, get_or_append_left, get_or-append-add}
use Rattle.dispatch_rules.specs.Dispatch.{listed}

module _ {A : Type 0} (P : A → Type 0) where
  -- each member has the property
  abbrev pub Each : List A → Type 0
  Each xs = (i : ℕ) (d : A) → i < length xs → P (slice_index_or xs i d)

  pub each_none : Each []
  each_none i d h = absurd (omega arith)

  pub each_one : (x : A) → P x → Each (x ∷ [])
  each_one x p zero d h = p
  each_one x p (suc i) d h = absurd (omega arith)

  pub each_append : (xs ys : List A) → Each xs → Each ys → Each (xs ++ ys)
  each_append xs ys first second i d h = ⊎_elim
      (λ (less : i < length xs). subst P (sym (get_or_append_left xs ys d i less)) (first i d less))
      (λ (most : length xs ≤ i).
      let both = length-append xs ys in
      let at : i ≡ length xs + (i - length xs) = omega arith in
      subst P (sym (ap (λ k. slice_index_or (xs ++ ys) k d) at ∙ get_or-append-add xs ys (i - length xs) d))
      (second (i - length xs) d (omega arith)))
      (cases_lt i (length xs))

  pub each_listed : (n : ℕ) (f : ℕ → List A) → ((j : ℕ) → j < n → Each (f j)) → Each (listed n f)
  each_listed zero f all = each_none
  each_listed (suc n) f all = each_append (listed n f) (f n) (each_listed n f (λ j h. all j (omega arith))) (all n (omega arith))

-- x stands in the list
abbrev pub StandsIn : {A : Type 0} → A → A → List A → Type 0
StandsIn d x xs = (i : ℕ) × (i < length xs) × (slice_index_or xs i d ≡ x)

module _ {A : Type 0} (d x : A) where
  pub stands_alone : StandsIn d x (x ∷ [])
  stands_alone = (0, omega arith, refl)

  pub stands_left : (xs ys : List A) → StandsIn d x xs → StandsIn d x (xs ++ ys)
  stands_left xs ys h = let both = length-append xs ys in (h.0, omega (arith, h.1), get_or_append_left xs ys d h.0 h.1 ∙ h.2)

  pub stands_right : (xs ys : List A) → StandsIn d x ys → StandsIn d x (xs ++ ys)
  stands_right xs ys h = let both = length-append xs ys in (length xs + h.0, omega (arith, h.1), get_or-append-add xs ys h.0 d ∙ h.2)

  pub stands_listed : (n : ℕ) (f : ℕ → List A) (j : ℕ) → j < n → StandsIn d x (f j) → StandsIn d x (listed n f)
  stands_listed zero f j h there = absurd (omega arith)
  stands_listed (suc n) f j h there = ⊎_elim
      (λ (less : j < n). stands_left (listed n f) (f n) (stands_listed n f j less there))
      (λ (most : n ≤ j). let same : j ≡ n = omega arith in stands_right (listed n f) (f n) (subst (λ m. StandsIn d x (f m)) same there))
      (cases_lt j n)
