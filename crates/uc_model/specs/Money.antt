-- How money and power are written. A whole number of micro-dollars, or of watts, stands as dollars, or as megawatts, with exactly
-- six decimals: a minus where it is below nought, the whole part with no leading zero, a point and six digits. Nought is
-- `0.000000`.
use Rattle.std.specs.Prelude.{ℕ, ◌/◌, ◌%◌, ◌^◌, List, [], ◌∷◌, ◌++◌, ℤ, unsigned_abs, codes}
use Rattle.uc_model.specs.Decimal.{digit_byte, minus_text, whole_text}

-- the digit of a number at a power of ten: `digit_at 0` is its last digit
abbrev pub digit_at : ℕ → ℕ → ℕ
digit_at power n = digit_byte (n / 10 ^ power % 10)

-- the last six digits of a number, zeros too
unfoldable pub six_digits : ℕ → List ℕ
six_digits n = digit_at 5 n ∷ digit_at 4 n ∷ digit_at 3 n ∷ digit_at 2 n ∷ digit_at 1 n ∷ digit_at 0 n ∷ []

-- a number of millionths: the whole part, the point and the decimals
unfoldable pub millionths_text : ℕ → List ℕ
millionths_text n = whole_text (n / 1000000) ++ (codes "." ++ six_digits (n % 1000000))

-- the same of any sign
unfoldable pub money_text : ℤ → List ℕ
money_text n = minus_text n ++ millionths_text (unsigned_abs n)
