-- Lists to which the parts of a list in order are added.
-- Cite by `use Rattle.dispatch_table.proofs.Pushed.{push_listed}`.
use Rattle.std.proofs.Common.{◌≡◌, ℕ, ◌+◌, ◌^◌, ◌<◌, sym, ap, subst, ◌∙◌, arith, Bool, List, [], ◌∷◌, ◌++◌, map, length, slice_set, ℤ, pos, to_z, of_z, unsigned_abs, append_assoc, add-one, below_more, get_or-set_other, get_or-set_same, if◌then◌else◌}
use Rattle.std.proofs.lemmas.List.{map-append}
use Rattle.std.specs.Int.{w128}
use Rattle.uc_model.proofs.Sizes.{wide}
use Rattle.pivot_run.specs.Prelude.{entry}
use Rattle.dispatch_program.specs.Prelude.{picked}
use Rattle.dispatch_rules.specs.Prelude.{listed}

module _ {A : Type 0} where
  pub push_listed : (before items new : List A) (n : ℕ) (f : ℕ → List A) → items ≡ before ++ listed n f → new ≡ items ++ f n
      → new ≡ before ++ listed (n + 1) f
  push_listed before items new n f e h =
      h ∙ ap (λ xs. xs ++ f n) e ∙ append_assoc before (listed n f) (f n) ∙ ap (λ m. before ++ listed m f) (sym (add-one n))

  -- two lists, one behind the other
  pub push_both : (before items new front back : List A) → items ≡ before ++ front → new ≡ items ++ back → new ≡ before ++ (front ++ back)
  push_both before items new front back e h = h ∙ ap (λ xs. xs ++ back) e ∙ append_assoc before front back

  -- the next one, where it is picked
  pub push_picked : (test : ℕ → Bool) (f : ℕ → A) (before items new : List A) (n : ℕ) (there : Bool) → items ≡ before ++ picked test f n
      → new ≡ items ++ (if there then f n ∷ [] else []) → there ≡ test n → new ≡ before ++ picked test f (n + 1)
  push_picked test f before items new n there e h is =
      h
      ∙ (λ j. e j ++ (if is j then f n ∷ [] else []))
      ∙ append_assoc before (picked test f n) (if test n then f n ∷ [] else [])
      ∙ ap (λ m. before ++ picked test f m) (sym (add-one n))

-- what is made of each element, where one is added
pub map_push : {A B : Type 0} (f : A → B) (xs new : List A) (x : A) → new ≡ xs ++ x ∷ [] → map f new ≡ map f xs ++ f x ∷ []
map_push f xs new x h = ap (map f) h ∙ map-append f xs (x ∷ [])

-- what holds of each number of a row so far holds of one more that is written
pub set_more : (P : ℕ → ℤ → Type 0) (xs : List ℤ) (i : ℕ) (z : ℤ) → i < length xs → ((k : ℕ) → k < i → P k (entry xs k)) → P i z
    → (k : ℕ) → k < i + 1 → P k (entry (slice_set xs i z) k)
set_more P xs i z h old new =
    below_more (λ k. P k (entry (slice_set xs i z) k)) i
    (λ k l. subst (P k) (sym (get_or-set_other xs i k z (pos 0) (omega arith))) (old k l))
    (subst (P i) (sym (get_or-set_same xs i z (pos 0) h)) new)

-- a number below 2^126 in size is what its bits say
pub bits_are : (z : ℤ) → unsigned_abs z < 2 ^ 126 → to_z w128 (of_z w128 z) ≡ z
bits_are z h = wide z (unsigned_abs z) (omega arith) (omega arith)
