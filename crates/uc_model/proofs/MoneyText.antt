-- The text of money and of power, `money_text n`.
-- Cite from a crate above by `use Rattle.uc_model.proofs.MoneyText.{money_text_bytes}`.
use Rattle.std.proofs.Common.{◌≡◌, ℕ, ◌+◌, ◌*◌, ◌/◌, ◌%◌, ◌^◌, ◌<◌, ◌≤◌, List, [], ◌∷◌, ◌++◌, length, All, get_or, refl, ap, ◌∙◌, arith, ℤ, pos, negsuc, unsigned_abs, length-append}
use Rattle.std.proofs.lemmas.List.Elements.{All-append, All-cons, All-weaker, All-from_recursion}
use Rattle.std.specs.Str.Parse.{AllDigits, digits_value}
use Rattle.uc_model.specs.Decimal.{digit_byte, minus_text, whole_text}
use Rattle.uc_model.specs.Money.{digit_at, millionths_text, money_text, six_digits}
use Rattle.uc_model.proofs.DecimalText.{digit_byte-digit_value, length-whole_text-le, minus_text_bytes, whole_text_bytes}

-- ---- the six decimals
pub length-six_digits : (n : ℕ) → length (six_digits n) ≡ 6
unfolding six_digits
length-six_digits n = refl

six_digits_bytes : (n : ℕ) → All (λ c. (45 ≤ c) × (c ≤ 57)) (six_digits n)
unfolding six_digits
six_digits_bytes n = All-from_recursion (λ c. (45 ≤ c) × (c ≤ 57)) (six_digits n) (omega arith)

-- the digits of n, of which there are at most six
sum_of_digits : (n : ℕ) → n < 1000000
    → n ≡ 100000 * (n / 100000 % 10) + 10000 * (n / 10000 % 10) + 1000 * (n / 1000 % 10) + 100 * (n / 100 % 10) + 10 * (n / 10 % 10) + n / 1 % 10
sum_of_digits n small = omega arith

pub six_digits_injective : (m n : ℕ) → m < 1000000 → n < 1000000 → six_digits m ≡ six_digits n → m ≡ n
unfolding six_digits
six_digits_injective m n low high e =
    let first = ap (λ ds. get_or ds 0 0) e in
    let second = ap (λ ds. get_or ds 1 0) e in
    let third = ap (λ ds. get_or ds 2 0) e in
    let fourth = ap (λ ds. get_or ds 3 0) e in
    let fifth = ap (λ ds. get_or ds 4 0) e in
    let sixth = ap (λ ds. get_or ds 5 0) e in
    omega (arith, sum_of_digits m low, sum_of_digits n high)

-- six digits are the last six digits of the number that they write
pub six_digits-digits_value : (ds : List ℕ) → length ds ≡ 6 → AllDigits 10 ds → six_digits (digits_value 10 ds) ≡ ds
unfolding six_digits
six_digits-digits_value (a ∷ b ∷ c ∷ d ∷ e ∷ f ∷ []) six all =
    let value = digits_value 10 (a ∷ b ∷ c ∷ d ∷ e ∷ f ∷ []) in
    let a_is : digit_at 5 value ≡ a = ap digit_byte (omega arith) ∙ digit_byte-digit_value a all.0 in
    let b_is : digit_at 4 value ≡ b = ap digit_byte (omega arith) ∙ digit_byte-digit_value b all.1.0 in
    let c_is : digit_at 3 value ≡ c = ap digit_byte (omega arith) ∙ digit_byte-digit_value c all.1.1.0 in
    let d_is : digit_at 2 value ≡ d = ap digit_byte (omega arith) ∙ digit_byte-digit_value d all.1.1.1.0 in
    let e_is : digit_at 1 value ≡ e = ap digit_byte (omega arith) ∙ digit_byte-digit_value e all.1.1.1.1.0 in
    let f_is : digit_at 0 value ≡ f = ap digit_byte (omega arith) ∙ digit_byte-digit_value f all.1.1.1.1.1.0 in
    λ i. a_is i ∷ b_is i ∷ c_is i ∷ d_is i ∷ e_is i ∷ f_is i ∷ []
six_digits-digits_value _ six all = absurd (omega arith)

-- ---- a number that is not negative
pub length-millionths_text : (n : ℕ) → length (millionths_text n) ≡ length (whole_text (n / 1000000)) + 7
unfolding millionths_text
length-millionths_text n =
    omega (arith, length-append (whole_text (n / 1000000)) (46 ∷ six_digits (n % 1000000)), length-six_digits (n % 1000000))

-- ---- money
pub length-money_text : (n : ℤ) → length (money_text n) ≡ length (minus_text n) + length (whole_text (unsigned_abs n / 1000000)) + 7
unfolding money_text
length-money_text n = omega (arith, length-append (minus_text n) (millionths_text (unsigned_abs n)), length-millionths_text (unsigned_abs n))

length-minus_text-le : (n : ℤ) → length (minus_text n) ≤ 1
length-minus_text-le (pos n) = omega arith
length-minus_text-le (negsuc n) = omega arith

-- k places for the whole part, one for a minus, one for the point and six for the decimals
pub length-money_text-le : (k : ℕ) (n : ℤ) → 0 < k → unsigned_abs n / 1000000 < 10 ^ k → length (money_text n) ≤ k + 8
length-money_text-le k n some small = grind (arith, length-money_text, length-minus_text-le, length-whole_text-le, some, small)

pub money_text_nonempty : (n : ℤ) → 0 < length (money_text n)
money_text_nonempty n = omega (arith, length-money_text n)

-- each byte is a minus, a point or a digit, so no space and no line feed
pub money_text_bytes : (n : ℤ) → All (λ c. (45 ≤ c) × (c ≤ 57)) (money_text n)
unfolding money_text millionths_text
money_text_bytes n =
    let P : ℕ → Type 0 = λ c. (45 ≤ c) × (c ≤ 57) in
    let whole = whole_text (unsigned_abs n / 1000000) in
    let decimals = six_digits (unsigned_abs n % 1000000) in
    All-append P (minus_text n) (whole ++ 46 ∷ decimals) (minus_text_bytes n)
    (All-append P whole (46 ∷ decimals) (All-weaker (λ c. (48 ≤ c) × (c ≤ 57)) P (λ c h. omega arith) whole (whole_text_bytes (unsigned_abs n / 1000000)))
    (All-cons P 46 decimals (omega arith) (six_digits_bytes (unsigned_abs n % 1000000))))
