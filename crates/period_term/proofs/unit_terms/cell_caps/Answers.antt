-- Each place holds its cell's cap.
use Rattle.std.proofs.Common.{◌≡◌, ℕ, ◌<◌, ◌≤◌, Bool, true, false, [], ◌∷◌, lit<, ℤ, pos, zero, suc, arith, ◌∙◌, to_z, of_z, slice_index_or, unsigned_abs}
use Rattle.std.specs.Int.{w64}
use Rattle.uc_model.proofs.Common.{abs_narrow, narrow}
use Rattle.uc_model.specs.declared.limits.TheConstants.{MAX_POWER}
use Rattle.dual_model.specs.declared.limits.TheConstants.{MAX_CAP}
use Rattle.uc_model.specs.Prelude.{place}
use Rattle.period_term.proofs.unit_terms.cell_caps.Goals as goal

in_places : (cap : Bool → Bool → ℤ) (neither start stop both : ℤ) → neither ≡ cap false false → start ≡ cap true false
    → stop ≡ cap false true → both ≡ cap true true
    → (s e : Bool) → slice_index_or (neither ∷ start ∷ stop ∷ both ∷ []) (place s e) (pos 0) ≡ cap s e
in_places cap neither start stop both a b c d false false = a
in_places cap neither start stop both a b c d true false = b
in_places cap neither start stop both a b c d false true = c
in_places cap neither start stop both a b c d true true = d

each_within : (neither start stop both : ℤ) → unsigned_abs neither ≤ MAX_CAP → unsigned_abs start ≤ MAX_CAP → unsigned_abs stop ≤ MAX_CAP
    → unsigned_abs both ≤ MAX_CAP → (i : ℕ) → i < 4 → unsigned_abs (slice_index_or (neither ∷ start ∷ stop ∷ both ∷ []) i (pos 0)) ≤ MAX_CAP
each_within neither start stop both a b c d zero h = a
each_within neither start stop both a b c d (suc zero) h = b
each_within neither start stop both a b c d (suc (suc zero)) h = c
each_within neither start stop both a b c d (suc (suc (suc zero))) h = d
each_within neither start stop both a b c d (suc (suc (suc (suc i)))) h = omega arith

-- a cap is the same once it is written in 64 bits
same : (cap value : ℤ) → cap ≡ value → unsigned_abs cap ≤ MAX_POWER → to_z w64 (of_z w64 cap) ≡ value
same cap value is size = narrow cap MAX_POWER size (lit< tt) ∙ is

within : (cap : ℤ) → unsigned_abs cap ≤ MAX_POWER → unsigned_abs (to_z w64 (of_z w64 cap)) ≤ MAX_CAP
within cap size = omega (arith, abs_narrow cap, size)

pub returns-clause-value : goal.returns-clause-value
returns-clause-value c = grind (arith, in_places, same, c)

pub returns-clause-size : goal.returns-clause-size
returns-clause-size c = grind (arith, each_within, within, c)
