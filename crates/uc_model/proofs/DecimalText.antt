-- The text of a whole number: `whole_text n` of a natural number, `signed_text z` of any.
-- Cite from a crate above by `use Rattle.uc_model.proofs.DecimalText.{whole_text_digits}`.
use Rattle.std.proofs.Common.{◌≡◌, ℕ, zero, suc, ◌+◌, ◌*◌, ◌/◌, ◌%◌, ◌^◌, ◌<◌, ◌≤◌, List, [], ◌∷◌, ◌++◌, map, length, get_or, decimal, All, ⊎_elim, refl, sym, ap, subst, ◌∙◌, arith, ℤ, pos, negsuc, unsigned_abs, append_assoc}
use Rattle.std.specs.Int.Digits.{digits_of}
use Rattle.std.specs.Char.{digit_value}
use Rattle.std.specs.Fmt.{signed_decimal}
use Rattle.std.specs.Str.Parse.{AllDigits, digits_value, digits_value_after}
use Rattle.std.proofs.lemmas.Int.Digits.{digits_of_step, digits_value_push, digits_push}
use Rattle.std.proofs.lemmas.List.{map-append, append-nil, length-append, get_or_append_left, nil_from_length}
use Rattle.std.proofs.lemmas.List.Elements.{All-nil, All-cons, All-append, All-replicate, All-weaker}
use Rattle.std.proofs.lemmas.Bool.{cases_lt}
use Rattle.std.proofs.Math.Nat.{pow-suc}
use Rattle.std.proofs.lemmas.Fmt.{decimal_by_steps_wide}
use Rattle.uc_model.specs.Decimal.{digit_byte, minus_text, whole_text, signed_text}

places_from_power : (k n : ℕ) → 0 < n → n < 10 ^ k → 0 < k
places_from_power zero n positive small = absurd (omega arith)
places_from_power (suc k) n positive small = omega arith

-- ---- the digits one by one
-- the digit of a byte, and its byte
pub digit_value-digit_byte : (d : ℕ) → d < 10 → digit_value (digit_byte d) ≡ d
digit_value-digit_byte d small = grind arith

pub digit_byte-digit_value : (c : ℕ) → digit_value c < 10 → digit_byte (digit_value c) ≡ c
digit_byte-digit_value c small = grind arith

whole_text_positive : (n : ℕ) → 0 < n → whole_text n ≡ map digit_byte (digits_of 10 n)
unfolding whole_text
whole_text_positive zero positive = absurd (omega arith)
whole_text_positive (suc n) positive = refl

-- a single digit
pub whole_text_digit : (n : ℕ) → n < 10 → whole_text n ≡ digit_byte n ∷ []
unfolding whole_text
whole_text_digit zero small = refl
whole_text_digit (suc n) small =
    let none : suc n / 10 ≡ 0 = omega arith in
    let last : suc n % 10 ≡ suc n = omega arith in
    ap (map digit_byte) (digits_of_step 10 (suc n) (omega arith) (omega arith) ∙ (λ i. digits_of 10 (none i) ++ last i ∷ []))

-- the last digit
pub whole_text_step : (n : ℕ) → 10 ≤ n → whole_text n ≡ whole_text (n / 10) ++ digit_byte (n % 10) ∷ []
whole_text_step n large = grind (arith, whole_text_positive, digits_of_step, map-append, large)

-- what holds of each single digit, and is kept by each further one, holds of each text
pub whole_text_by_steps : (P : ℕ → List ℕ → Type 0)
    (one : (n : ℕ) → n < 10 → P n (digit_byte n ∷ []))
    (more : (n : ℕ) (ds : List ℕ) → 10 ≤ n → P (n / 10) ds → P n (ds ++ digit_byte (n % 10) ∷ []))
    → (n : ℕ) → P n (whole_text n)
whole_text_by_steps P one more n = up_to (suc n) n (omega arith)
  where
    up_to : (bound n : ℕ) → n < bound → P n (whole_text n)
    up_to zero n below = absurd (omega arith)
    up_to (suc bound) n below = ⊎_elim
        (λ (small : n < 10). subst (P n) (sym (whole_text_digit n small)) (one n small))
        (λ (large : 10 ≤ n). subst (P n) (sym (whole_text_step n large)) (more n (whole_text (n / 10)) large (up_to bound (n / 10) (omega arith))))
        (cases_lt n 10)

-- ---- what a text holds
pub whole_text_digits : (n : ℕ) → AllDigits 10 (whole_text n)
whole_text_digits = whole_text_by_steps (λ n ds. AllDigits 10 ds)
    (λ n small. (omega (arith, digit_value-digit_byte n small), tt))
    (λ n ds large all. digits_push 10 ds (digit_byte (n % 10)) all (omega (arith, digit_value-digit_byte (n % 10) (omega arith))))

pub whole_text_nonempty : (n : ℕ) → 0 < length (whole_text n)
whole_text_nonempty = whole_text_by_steps (λ n ds. 0 < length ds)
    (λ n small. omega arith)
    (λ n ds large some. omega (arith, length-append ds (digit_byte (n % 10) ∷ [])))

-- the number is read back
pub digits_value-whole_text : (n : ℕ) → digits_value 10 (whole_text n) ≡ n
digits_value-whole_text = whole_text_by_steps (λ n ds. digits_value 10 ds ≡ n)
    (λ n small. omega (arith, digit_value-digit_byte n small))
    (λ n ds large value. omega (arith, digits_value_push 10 ds (digit_byte (n % 10)), digit_value-digit_byte (n % 10) (omega arith)))

-- no leading zero
pub first_whole_text : (n : ℕ) → 0 < n → 48 < get_or (whole_text n) 0 0
first_whole_text n positive = (whole_text_by_steps (λ n ds. (0 < length ds) × (0 < n → 48 < get_or ds 0 0))
    (λ n small. (omega arith, λ some. omega arith))
    (λ n ds large parts. (
      omega (arith, length-append ds (digit_byte (n % 10) ∷ [])),
      λ some. subst (λ c. 48 < c) (sym (get_or_append_left ds (digit_byte (n % 10) ∷ []) 0 0 parts.0)) (parts.1 (omega arith)),
    ))
    n).1 positive

pub length-whole_text-le : (k n : ℕ) → 0 < k → n < 10 ^ k → length (whole_text n) ≤ k
length-whole_text-le zero n some small = absurd (omega arith)
length-whole_text-le (suc k) n some small = ⊎_elim
    (λ (single : n < 10). omega (arith, ap length (whole_text_digit n single)))
    (λ (large : 10 ≤ n).
    let front : n / 10 < 10 ^ k = omega (arith, pow-suc 10 k) in
    let places : 0 < k = places_from_power k (n / 10) (omega arith) front in
    let shorter = length-whole_text-le k (n / 10) places front in
    omega (arith, ap length (whole_text_step n large), length-append (whole_text (n / 10)) (digit_byte (n % 10) ∷ [])))
    (cases_lt n 10)

pub digit_bytes : (ds : List ℕ) → AllDigits 10 ds → All (λ c. (48 ≤ c) × (c ≤ 57)) ds
digit_bytes [] all = All-nil (λ c. (48 ≤ c) × (c ≤ 57))
digit_bytes (c ∷ cs) all = All-cons (λ c. (48 ≤ c) × (c ≤ 57)) c cs (grind (arith, all.0)) (digit_bytes cs all.1)

pub whole_text_bytes : (n : ℕ) → All (λ c. (48 ≤ c) × (c ≤ 57)) (whole_text n)
whole_text_bytes n = digit_bytes (whole_text n) (whole_text_digits n)

-- ---- from digits to the number and back
-- digits behind those of a number that is not nought
pub whole_text-digits_value_after : (n : ℕ) (ds : List ℕ) → 0 < n → AllDigits 10 ds → whole_text (digits_value_after 10 n ds) ≡ whole_text n ++ ds
whole_text-digits_value_after n [] positive all = sym (append-nil (whole_text n))
whole_text-digits_value_after n (c ∷ cs) positive all =
    let front : (n * 10 + digit_value c) / 10 ≡ n = omega (arith, all.0) in
    let last : (n * 10 + digit_value c) % 10 ≡ digit_value c = omega (arith, all.0) in
    let byte = digit_byte-digit_value c all.0 in
    whole_text-digits_value_after (n * 10 + digit_value c) cs (omega arith) all.1
    ∙ ap (λ ds. ds ++ cs) (whole_text_step (n * 10 + digit_value c) (omega arith)
    ∙ (λ i. whole_text (front i) ++ digit_byte (last i) ∷ [])
    ∙ ap (λ d. whole_text n ++ d ∷ []) byte)
    ∙ append_assoc (whole_text n) (c ∷ []) cs

-- `0`, or digits the first of which is no zero, are the text of the number that they write
pub whole_text-digits_value : (ds : List ℕ) → AllDigits 10 ds → 0 < length ds → (get_or ds 0 0 ≡ 48 → length ds ≡ 1) → whole_text (digits_value 10 ds) ≡ ds
whole_text-digits_value [] all some lead = absurd (omega arith)
whole_text-digits_value (c ∷ cs) all some lead = ⊎_elim
    (λ (none : digit_value c < 1).
    let is_zero : c ≡ 48 = omega (arith, digit_byte-digit_value c all.0) in
    let alone : cs ≡ [] = nil_from_length cs (omega (arith, lead is_zero)) in
    (λ i. whole_text (digits_value 10 (is_zero i ∷ alone i))) ∙ whole_text_digit 0 (omega arith) ∙ (λ i. sym is_zero i ∷ sym alone i))
    (λ (positive : 1 ≤ digit_value c).
    let start : 0 * 10 + digit_value c ≡ digit_value c = omega arith in
    ap (λ n. whole_text (digits_value_after 10 n cs)) start
    ∙ whole_text-digits_value_after (digit_value c) cs positive all.1
    ∙ ap (λ ds. ds ++ cs) (whole_text_digit (digit_value c) all.0 ∙ ap (λ d. d ∷ []) (digit_byte-digit_value c all.0)))
    (cases_lt (digit_value c) 1)

-- ---- what std's printing writes
pub decimal-whole_text : (n : ℕ) → n < 10 ^ 64 → decimal n ≡ whole_text n
decimal-whole_text = decimal_by_steps_wide (λ n ds. ds ≡ whole_text n)
    (λ n small. sym (whole_text_digit n small))
    (λ n ds large same. ap (λ front. front ++ digit_byte (n % 10) ∷ []) same ∙ sym (whole_text_step n large))

-- ---- numbers of any sign
pub signed_decimal-signed_text : (z : ℤ) → unsigned_abs z < 10 ^ 64 → signed_decimal z ≡ signed_text z
unfolding signed_text
signed_decimal-signed_text (pos n) small = decimal-whole_text n small
signed_decimal-signed_text (negsuc n) small = ap (λ ds. 45 ∷ ds) (decimal-whole_text (suc n) small)

-- each byte is a minus or a digit, so no space and no line feed
pub minus_text_bytes : (z : ℤ) → All (λ c. (45 ≤ c) × (c ≤ 57)) (minus_text z)
minus_text_bytes (pos n) = All-nil (λ c. (45 ≤ c) × (c ≤ 57))
minus_text_bytes (negsuc n) = All-replicate (λ c. (45 ≤ c) × (c ≤ 57)) 1 45 (omega arith)

pub signed_text_bytes : (z : ℤ) → All (λ c. (45 ≤ c) × (c ≤ 57)) (signed_text z)
unfolding signed_text
signed_text_bytes z =
    All-append (λ c. (45 ≤ c) × (c ≤ 57)) (minus_text z) (whole_text (unsigned_abs z)) (minus_text_bytes z)
    (All-weaker (λ c. (48 ≤ c) × (c ≤ 57)) (λ c. (45 ≤ c) × (c ≤ 57)) (λ c h. omega arith) (whole_text (unsigned_abs z)) (whole_text_bytes (unsigned_abs z)))
