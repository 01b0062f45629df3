-- Numbers within the limit of a power are what their bits say, so a cap is the range less its reduction.
use Rattle.std.proofs.Common.{arith, ◌≡◌, ◌∙◌, lit<, sym, subst, Bool, ℤ, ◌-ℤ◌, ◌*ℤ◌, to_z, of_z}
use Rattle.std.specs.Int.{w64}
use Rattle.uc_model.specs.Prelude.{IsLimit, IsPower, MAX_POWER, bit}
use Rattle.uc_model.proofs.Sizes.{narrow}

abbrev pub bits : ℤ → ℤ
bits z = to_z w64 (of_z w64 z)

pub bits_are : (z : ℤ) → IsLimit z → bits z ≡ z
bits_are z limit = narrow z MAX_POWER limit.power (lit< tt)

pub bits_limit : (z : ℤ) → IsLimit z → IsLimit (bits z)
bits_limit z limit = subst IsLimit (sym (bits_are z limit)) limit

pub is_in_bits : (z value : ℤ) → IsPower z → z ≡ value → bits z ≡ value
is_in_bits z value size is = narrow z MAX_POWER size (lit< tt) ∙ is

pub reduced_power : (z full reduction : ℤ) → IsLimit full → IsLimit reduction
    → (IsLimit (bits full) → IsLimit (bits reduction) → IsPower z) → IsPower z
reduced_power z full reduction h k is = is (bits_limit full h) (bits_limit reduction k)

pub reduced_is : (z full reduction width less : ℤ) (applies : Bool) → IsLimit full → IsLimit reduction
    → (IsLimit (bits full) → IsLimit (bits reduction) → z ≡ bits full -ℤ bits reduction *ℤ bit applies)
    → full ≡ width → reduction ≡ less → z ≡ width -ℤ less *ℤ bit applies
reduced_is z full reduction width less applies h k is full_is reduction_is = grind (arith, h, k, is, full_is, reduction_is)
