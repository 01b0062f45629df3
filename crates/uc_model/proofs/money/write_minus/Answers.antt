-- A number below nought is a `negsuc`, whose minus stands in the buffer's first place.
use Rattle.std.proofs.Common.{◌≡◌, ℕ, ◌∷◌, [], ◌<◌, List, length, take, set, true, ℤ, pos, negsuc, refl, arith, to_z-of_z}
use Rattle.std.specs.Int.Signed.{lt_z}
use Rattle.std.proofs.lemmas.Int.{ints}
use Rattle.uc_model.specs.Decimal.{minus_text}
use Rattle.uc_model.proofs.money.write_minus.Goals as goal

minus_below_nought : (n : ℤ) → lt_z n (pos 0) ≡ true → minus_text n ≡ 45 ∷ []
minus_below_nought (pos n) below = absurd (omega (arith, ints))
minus_below_nought (negsuc n) below = refl

first_written : (bytes : List ℕ) → 0 < length bytes → take 1 (set bytes 0 45) ≡ 45 ∷ []
first_written [] some = absurd (omega arith)
first_written (b ∷ bytes) some = refl

pub returns-then-n-lt0-clause-text : goal.returns-then-n-lt0-clause-text
returns-then-n-lt0-clause-text c = grind (arith, ints, first_written, minus_below_nought, to_z-of_z, c)
