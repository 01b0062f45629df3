-- What a test of two whole numbers says, also where they stand as their bits.
-- Cite by `use Rattle.dispatch_repair.proofs.Numbers.{at_most}`.
use Rattle.std.proofs.Common.{◌≡◌, ℕ, arith, ℤ, ◌≤ℤ◌, ◌<ℤ◌, ◌==◌, ◌&&◌, true, false, to_z, of_z, int_lt}
use Rattle.std.specs.Int.{w64}
use Rattle.std.proofs.lemmas.Int.{ints}
use Rattle.uc_model.proofs.Common.{narrow}
use Rattle.dispatch_repair.specs.Prelude.{IsSizedTotal}

pub at_most : (a b : ℤ) → int_lt a b ≡ false → b ≤ℤ a
at_most a b h = grind (arith, ints)

-- the bits of a number of a total's size are that number's
pub kept : (z : ℤ) → IsSizedTotal z → to_z w64 (of_z w64 z) ≡ z
kept z h = narrow z _ h (omega arith)

pub kept_at_most : (a b : ℤ) → IsSizedTotal a → IsSizedTotal b → int_lt (to_z w64 (of_z w64 a)) (to_z w64 (of_z w64 b)) ≡ false → b ≤ℤ a
kept_at_most a b h k test = grind (arith, ints, h, k, test)

-- what is wanted is above what there may be, and has no price; or not
pub beyond : (price : ℕ) (most wanted : ℤ) → (price == 0 && int_lt most wanted) ≡ true → (price ≡ 0) × (most <ℤ wanted)
beyond price most wanted h = grind (arith, ints, h)

pub not_beyond : (price : ℕ) (most wanted : ℤ) → (price == 0 && int_lt most wanted) ≡ false → price ≡ 0 → wanted ≤ℤ most
not_beyond price most wanted h none = grind (arith, ints, h, none)
