-- The numbers of a combined row, and of rows that are a function of others number by number.
use Rattle.std.proofs.Common.{◌≡◌, ℕ, zero, suc, ◌<◌, ◌≤◌, refl, sym, ap, ◌∙◌, arith, List, [], ◌∷◌, length, map, ℤ, pos, ◌-ℤ◌, ◌*ℤ◌}
use Rattle.std.proofs.lemmas.List.{ext_get_or, length-map, get_or-map}
use Rattle.pivot_run.specs.Prelude.{entry, combined}
use Rattle.uc_model.proofs.Common.{linear, mul-zero, zero-mul}

pub length-combined : (p e : ℤ) (row other : List ℤ) → length (combined p e row other) ≡ length row
length-combined p e [] other = refl
length-combined p e (x ∷ xs) [] = ap suc (length-combined p e xs [])
length-combined p e (x ∷ xs) (y ∷ ys) = ap suc (length-combined p e xs ys)

pub entry-combined : (p e : ℤ) (row other : List ℤ) (c : ℕ) → length row ≡ length other → entry (combined p e row other) c ≡ entry row c *ℤ p -ℤ e *ℤ entry other c
entry-combined p e [] [] c h = let none = mul-zero e in let nought = zero-mul p in omega (arith, linear)
entry-combined p e [] (y ∷ ys) c h = absurd (omega arith)
entry-combined p e (x ∷ xs) [] c h = absurd (omega arith)
entry-combined p e (x ∷ xs) (y ∷ ys) zero h = refl
entry-combined p e (x ∷ xs) (y ∷ ys) (suc c) h = entry-combined p e xs ys c (omega arith)

-- ---- a function of each number
pub map_from_entries : (f : ℤ → ℤ) (old row : List ℤ) (n : ℕ) → length row ≡ length old → length old ≤ n
    → ((k : ℕ) → k < n → entry row k ≡ f (entry old k)) → row ≡ map f old
map_from_entries f old row n same all is =
    ext_get_or (pos 0) row (map f old) (same ∙ sym (length-map old f))
    (λ k h. is k (omega arith) ∙ sym (get_or-map f old k (pos 0) (pos 0) (omega arith)))
