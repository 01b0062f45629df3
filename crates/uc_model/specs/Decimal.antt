-- How a whole number is written in decimal, as bytes: `0`, or digits of which the first is no zero, with a minus before them for
-- a number below nought. This is the grammar of a number without fraction and exponent in RFC 8259, but for `-0`.
use Rattle.std.specs.Prelude.{ℕ, zero, suc, ◌+◌, List, [], ◌∷◌, ◌++◌, map, ℤ, pos, negsuc, unsigned_abs, codes}
use Rattle.std.specs.Int.Digits.{digits_of}

-- the byte of a digit, from 48 for `0` to 57 for `9`
abbrev pub digit_byte : ℕ → ℕ
digit_byte d = 48 + d

-- the digits of a number, the highest first, and `0` for nought
unfoldable pub whole_text : ℕ → List ℕ
whole_text zero = digit_byte 0 ∷ []
whole_text (suc n) = map digit_byte (digits_of 10 (suc n))

-- `-` for a number below nought, and else nothing
abbrev pub minus_text : ℤ → List ℕ
minus_text (pos n) = []
minus_text (negsuc n) = codes "-"

-- a number of any sign
unfoldable pub signed_text : ℤ → List ℕ
signed_text z = minus_text z ++ whole_text (unsigned_abs z)
