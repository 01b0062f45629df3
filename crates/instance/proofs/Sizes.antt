-- The size of a number: what its exponent is held at, and the whole number nearest to its value in millionths.
use Rattle.std.proofs.Common.{◌≡◌, ℕ, zero, suc, ◌+◌, ◌-◌, ◌*◌, ◌/◌, ◌%◌, ◌^◌, ◌<◌, ◌≤◌, min, refl, sym, ap, ◌∙◌, inl, inr, arith, add-one, add-zero, ◌⊎◌, Bool, true, false, cond, List, length, subst, [], ◌∷◌, take, drop, ⊎_elim, ℤ, pos, negsuc, nat_le, ◌≢◌, fold, nat_lt, slice_index, if◌then◌else◌, pow-add, take-append-drop, length-drop}
use Rattle.std.proofs.lemmas.Bool.{cases_lt, le-ltb, lt-ltb, lt-leb, cases_Bool, false≢true, or_cases, or_parts, leb-false, leb-true, ltb-false, ltb-true}
use Rattle.std.proofs.Math.Nat.{pow-suc, mul_assoc, add-mul, mul_right_comm, one-le-pow, pow-le-pow_right, mul-le-mul_right}
use Rattle.instance.specs.Scaled.{held, held_wholes, PAST_LIMITS, SaySame, MOST_DIGITS, above, below, millionths, IsNearest, MILLION, size_of, wholes_of, is_rounded, places_past, places_before}
use Rattle.std.proofs.lemmas.Int.{ints, clamps}
use Rattle.decimal_json.specs.Value.{Decimal, held as held_exponent, held_decimal, whole_of}
use Rattle.std.specs.List.{list_any}
use Rattle.std.proofs.lemmas.List.Sums.{fold-append}
use Rattle.decimal_json.specs.Grammar.{AreDigits}

pub held_below : (n : ℕ) → n < 10 ^ 14 → held n ≡ n
held_below n lt = rw (lt-ltb n (10 ^ 14) lt)

pub held_above : (n : ℕ) → 10 ^ 14 ≤ n → held n ≡ 10 ^ 14 + n % 1_000_000
held_above n le = rw (le-ltb n (10 ^ 14) le)

pub held_small : (n : ℕ) → held n < 100_000_001_000_000
held_small n = elim (cases_lt n (10 ^ 14)) [ inl lt ↦ omega (arith, held_below n lt) | inr le ↦ omega (arith, held_above n le) ]

pub held_push : (n d : ℕ) → held (held n * 10 + d) ≡ held (n * 10 + d)
held_push n d = elim (cases_lt n (10 ^ 14)) [
  | inl lt ↦ ap (λ (m : ℕ). held (m * 10 + d)) (held_below n lt)
  | inr le ↦
      let h : held n ≡ 10 ^ 14 + n % 1_000_000 = held_above n le in
      held_above (held n * 10 + d) (omega arith) ∙ (let e : 10 ^ 14 + (held n * 10 + d) % 1_000_000 ≡ 10 ^ 14 + (n * 10 + d) % 1_000_000 = omega arith in e) ∙ sym (held_above (n * 10 + d) (omega arith))
]

pub held_carry : (n : ℕ) → held (held n + 1) ≡ held (n + 1)
held_carry n = elim (cases_lt n (10 ^ 14)) [
  | inl lt ↦ ap (λ (m : ℕ). held (m + 1)) (held_below n lt)
  | inr le ↦
      let h : held n ≡ 10 ^ 14 + n % 1_000_000 = held_above n le in
      held_above (held n + 1) (omega arith) ∙ (let e : 10 ^ 14 + (held n + 1) % 1_000_000 ≡ 10 ^ 14 + (n + 1) % 1_000_000 = omega arith in e) ∙ sym (held_above (n + 1) (omega arith))
]

-- one more zero behind a number
pub held_ten : (n i : ℕ) → held (held (n * 10 ^ i) * 10) ≡ held (n * 10 ^ (i + 1))
held_ten n i =
    let one : n * 10 ^ (i + 1) ≡ n * 10 ^ i * 10 + 0 = ap (λ (k : ℕ). n * 10 ^ k) (add-one i) ∙ ap (λ (k : ℕ). n * k) (pow-suc 10 i) ∙ sym (mul_assoc n (10 ^ i) 10) ∙ sym (add-zero (n * 10 ^ i * 10)) in
    ap held (sym (add-zero (held (n * 10 ^ i) * 10))) ∙ held_push (n * 10 ^ i) 0 ∙ ap held (sym one)

full_ten : (w : ℕ) → held (w * 10 ^ 26 * 10) ≡ held (w * 10 ^ 26)
full_ten zero = refl
full_ten (suc w) = held_above (suc w * 10 ^ 26 * 10) (omega arith) ∙ (let e : 10 ^ 14 + suc w * 10 ^ 26 * 10 % 1_000_000 ≡ 10 ^ 14 + suc w * 10 ^ 26 % 1_000_000 = omega arith in e) ∙ sym (held_above (suc w * 10 ^ 26) (omega arith))

held_full : (w k : ℕ) → held (w * 10 ^ (k + 26)) ≡ held (w * 10 ^ 26)
held_full w zero = refl
held_full w (suc k) =
    let next : suc k + 26 ≡ k + 26 + 1 = omega arith in
    ap (λ (j : ℕ). held (w * 10 ^ j)) next ∙ sym (held_ten w (k + 26)) ∙ ap (λ (m : ℕ). held (m * 10)) (held_full w k)
    ∙ (ap held (sym (add-zero (held (w * 10 ^ 26) * 10))) ∙ held_push (w * 10 ^ 26) 0 ∙ ap held (add-zero (w * 10 ^ 26 * 10))) ∙ full_ten w

-- no more than 26 zeros count
pub held_places : (w s : ℕ) → held (w * 10 ^ min s 26) ≡ held (w * 10 ^ s)
held_places w s = elim (cases_lt s 26) [
  | inl lt ↦ let least : min s 26 ≡ s = omega arith in ap (λ (k : ℕ). held (w * 10 ^ k)) least
  | inr le ↦
      let least : min s 26 ≡ 26 = omega arith in
      let more : s - 26 + 26 ≡ s = omega arith in
      ap (λ (k : ℕ). held (w * 10 ^ k)) least ∙ sym (held_full w (s - 26)) ∙ ap (λ (k : ℕ). held (w * 10 ^ k)) more
]

pub held_rest : (n : ℕ) → held n % 1_000_000 ≡ n % 1_000_000
held_rest n = elim (cases_lt n (10 ^ 14)) [
  | inl lt ↦ ap (λ (m : ℕ). m % 1_000_000) (held_below n lt)
  | inr le ↦ let h : held n ≡ 10 ^ 14 + n % 1_000_000 = held_above n le in omega arith
]

pub held_quotient : (n : ℕ) → held n / 1_000_000 ≡ held_wholes (n / 1_000_000)
held_quotient n = elim (cases_lt n (10 ^ 14)) [
  | inl lt ↦ let h : held n ≡ n = held_below n lt in omega arith
  | inr le ↦ let h : held n ≡ 10 ^ 14 + n % 1_000_000 = held_above n le in omega arith
]

-- ---- A number whose exponent is held says the same as the number as it is written.
same_size : (m n : ℕ) → held m ≡ held n → (m ≡ n) ⊎ ((PAST_LIMITS ≤ m) × (PAST_LIMITS ≤ n))
same_size m n e = elim (cases_lt m PAST_LIMITS) [
  | inl p ↦ elim (cases_lt n PAST_LIMITS) [
    | inl q ↦ inl (sym (held_below m p) ∙ e ∙ held_below n q)
    | inr q ↦ absurd (omega (arith, held_below m p, held_above n q))
  ]
  | inr p ↦ elim (cases_lt n PAST_LIMITS) [
    | inl q ↦ absurd (omega (arith, held_above m p, held_below n q))
    | inr q ↦ inr (p, q)
  ]
]

say_same : (a b : Decimal) → a.negative ≡ b.negative → is_rounded a ≡ is_rounded b → held (size_of a) ≡ held (size_of b) → SaySame a b
say_same a b sign rounded e = record {
  sign = sign;
  rounded = rounded;
  rest = sym (held_rest (size_of a)) ∙ ap (λ (m : ℕ). m % MILLION) e ∙ held_rest (size_of b);
  size = same_size (size_of a) (size_of b) e;
}

abbrev at : Bool → List ℕ → ℤ → Decimal
at negative digits z = record { negative = negative; digits = digits; exponent = z }

-- ---- above

many_zeros : (w j k : ℕ) → 26 ≤ j → 26 ≤ k → held (w * 10 ^ j) ≡ held (w * 10 ^ k)
many_zeros w j k p q =
    let least : min j 26 ≡ min k 26 = omega arith in
    sym (held_places w j) ∙ ap (λ (i : ℕ). held (w * 10 ^ i)) least ∙ held_places w k

same_carried : (up : Bool) (m n : ℕ) → held m ≡ held n → held (m + cond up 1 0) ≡ held (n + cond up 1 0)
same_carried true m n e = sym (held_carry m) ∙ ap (λ (k : ℕ). held (k + 1)) e ∙ held_carry n
same_carried false m n e = ap held (add-zero m) ∙ e ∙ sym (ap held (add-zero n))

same_above : (negative : Bool) (digits : List ℕ) (j k : ℕ) → 20 ≤ j → 20 ≤ k → SaySame (at negative digits (pos j)) (at negative digits (pos k))
unfolding size_of is_rounded
same_above negative digits j k p q = say_same (at negative digits (pos j)) (at negative digits (pos k)) refl refl
    (same_carried _ _ _ (many_zeros _ (j + 6) (k + 6) (omega arith) (omega arith)))

-- ---- below

same_below : (negative : Bool) (digits : List ℕ) (j k : ℕ) → length digits + 6 < suc j → length digits + 6 < suc k → SaySame (at negative digits (negsuc j)) (at negative digits (negsuc k))
unfolding size_of is_rounded
same_below negative digits j k p q =
    let none : length digits - (suc j - 6) ≡ 0 = omega arith in
    let none' : length digits - (suc k - 6) ≡ 0 = omega arith in
    let before : 6 - suc j ≡ 0 = omega arith in
    let before' : 6 - suc k ≡ 0 = omega arith in
    let past : nat_le (suc j - 6) (length digits) ≡ false = lt-leb (suc j - 6) (length digits) (omega arith) in
    let past' : nat_le (suc k - 6) (length digits) ≡ false = lt-leb (suc k - 6) (length digits) (omega arith) in
    say_same (at negative digits (negsuc j)) (at negative digits (negsuc k)) refl (rw (none, none')) (rw (none, none', before, before', past, past'))

-- ---- within

pub itself : (d : Decimal) → SaySame d d
itself d = record { sign = refl; rounded = refl; rest = refl; size = inl refl }

for_exponent : (negative : Bool) (digits : List ℕ) (y z : ℤ) → held_exponent z ≡ y → SaySame (at negative digits y) (at negative digits z) → SaySame (held_decimal (at negative digits z)) (at negative digits z)
for_exponent negative digits y z e h = subst (λ (x : ℤ). SaySame (at negative digits x) (at negative digits z)) (sym e) h

same_exponent : (negative : Bool) (digits : List ℕ) (z : ℤ) → length digits ≤ MOST_DIGITS → SaySame (held_decimal (at negative digits z)) (at negative digits z)
same_exponent negative digits (pos n) few = elim (cases_lt 1_000_000_000 n) [
  | inl more ↦ for_exponent negative digits (pos 1_000_000_000) (pos n) (omega (arith, ints, clamps)) (same_above negative digits 1_000_000_000 n (omega arith) (omega arith))
  | inr less ↦ for_exponent negative digits (pos n) (pos n) (omega (arith, ints, clamps)) (itself (at negative digits (pos n)))
]
same_exponent negative digits (negsuc n) few = elim (cases_lt 999_999_999 n) [
  | inl more ↦ for_exponent negative digits (negsuc 999_999_999) (negsuc n) (omega (arith, ints, clamps)) (same_below negative digits 999_999_999 n (omega arith) (omega arith))
  | inr less ↦ for_exponent negative digits (negsuc n) (negsuc n) (omega (arith, ints, clamps)) (itself (at negative digits (negsuc n)))
]

pub held_says_same : (d : Decimal) → length d.digits ≤ MOST_DIGITS → SaySame (held_decimal d) d
held_says_same d few = same_exponent d.negative d.digits d.exponent few

-- ---- what the reader keeps of a number

pub same_held_size : (a b : Decimal) → SaySame a b → held (size_of a) ≡ held (size_of b)
same_held_size a b h = elim h.size [
  | inl e ↦ ap held e
  | inr past ↦ held_above (size_of a) past.0 ∙ ap (λ (k : ℕ). PAST_LIMITS + k) h.rest ∙ sym (held_above (size_of b) past.1)
]

pub same_held_wholes : (a b : Decimal) → SaySame a b → held_wholes (wholes_of a) ≡ held_wholes (wholes_of b)
same_held_wholes a b h = sym (held_quotient (size_of a)) ∙ ap (λ (k : ℕ). k / MILLION) (same_held_size a b h) ∙ held_quotient (size_of b)

-- ---- The size of a scaled number is the whole number nearest to the value in millionths.
-- ---- digits, read as one whole

spread : (a y t w : ℕ) → (a * 10 + y) * t + w ≡ a * (t * 10) + ((0 * 10 + y) * t + w)
spread a y t w = omega (arith, add-mul (a * 10) y t, mul_right_comm a 10 t, mul_assoc a t 10, add-mul (0 * 10) y t)

from_front : (a : ℕ) (ys : List ℕ) → fold (λ n d. n * 10 + d) a ys ≡ a * 10 ^ length ys + whole_of ys
from_front a [] = omega arith
from_front a (y ∷ ys) =
    from_front (a * 10 + y) ys ∙ spread a y (10 ^ length ys) (whole_of ys) ∙ ap (λ t. a * t + ((0 * 10 + y) * 10 ^ length ys + whole_of ys)) (sym (pow-suc 10 (length ys)))
    ∙ ap (λ w. a * 10 ^ suc (length ys) + w) (sym (from_front (0 * 10 + y) ys))

whole_cons : (y : ℕ) (ys : List ℕ) → whole_of (y ∷ ys) ≡ y * 10 ^ length ys + whole_of ys
whole_cons y ys = from_front (0 * 10 + y) ys ∙ ap (λ (k : ℕ). k * 10 ^ length ys + whole_of ys) (omega arith)

one_more : (y t w : ℕ) → y < 10 → w < t → y * t + w < t * 10
one_more y t w lt less = omega (arith, mul-le-mul_right {m = y} {n = 9} t (omega arith), less)

whole_below : (ys : List ℕ) → AreDigits ys → whole_of ys < 10 ^ length ys
whole_below [] are = omega arith
whole_below (y ∷ ys) are = omega (arith, whole_cons y ys, pow-suc 10 (length ys), one_more y (10 ^ length ys) (whole_of ys) are.0 (whole_below ys are.1))

digits_drop : (i : ℕ) (ds : List ℕ) → AreDigits ds → AreDigits (drop i ds)
digits_drop (suc i) (d ∷ ds) are = digits_drop i ds are.1
digits_drop _ _ are = are

-- ---- the digits that are kept, and those that are cut

abbrev kept : List ℕ → ℕ → List ℕ
kept ds p = take (length ds - p) ds

abbrev cut : List ℕ → ℕ → List ℕ
cut ds p = drop (length ds - p) ds

size_cut : (ds : List ℕ) (p : ℕ) → p ≤ length ds → length (cut ds p) ≡ p
size_cut ds p le = omega (arith, length-drop (length ds - p) ds)

short_cut : (ds : List ℕ) (p : ℕ) → length ds < p → length (cut ds p) < p
short_cut ds p lt = omega (arith, length-drop (length ds - p) ds)

none_kept : (ds : List ℕ) (p : ℕ) → length ds < p → whole_of (kept ds p) ≡ 0
none_kept ds p lt = let e : length ds - p ≡ 0 = omega arith in ap (λ (i : ℕ). whole_of (take i ds)) e

ten_less : (i p : ℕ) → i < p → 10 ^ i * 10 ≤ 10 ^ p
ten_less i p lt = omega (arith, pow-suc 10 i, pow-le-pow_right {n = 10} (omega arith) {i = suc i} {j = p} (omega arith))

cut_below : (ds : List ℕ) (p : ℕ) → AreDigits ds → whole_of (cut ds p) < 10 ^ p
cut_below ds p are = elim (cases_lt (length ds) p) [
  | inl lt ↦ omega (arith, whole_below (cut ds p) (digits_drop _ ds are), ten_less (length (cut ds p)) p (short_cut ds p lt))
  | inr le ↦ subst (λ (i : ℕ). whole_of (cut ds p) < 10 ^ i) (size_cut ds p le) (whole_below (cut ds p) (digits_drop _ ds are))
]

parts : (ds : List ℕ) (p : ℕ) → whole_of ds ≡ whole_of (kept ds p) * 10 ^ p + whole_of (cut ds p)
parts ds p =
    let all : whole_of ds ≡ whole_of (kept ds p) * 10 ^ length (cut ds p) + whole_of (cut ds p) = ap whole_of (sym (take-append-drop (length ds - p) ds)) ∙ (fold-append (λ n d. n * 10 + d) 0 (kept ds p) (cut ds p) ∙ from_front (whole_of (kept ds p)) (cut ds p)) in
    elim (cases_lt (length ds) p) [
      | inl lt ↦
          let none = none_kept ds p lt in
          all ∙ ap (λ (k : ℕ). k * 10 ^ length (cut ds p) + whole_of (cut ds p)) none ∙ (let e : 0 * 10 ^ length (cut ds p) + whole_of (cut ds p) ≡ 0 * 10 ^ p + whole_of (cut ds p) = omega arith in e)
          ∙ ap (λ (k : ℕ). k * 10 ^ p + whole_of (cut ds p)) (sym none)
      | inr le ↦ all ∙ ap (λ (i : ℕ). whole_of (kept ds p) * 10 ^ i + whole_of (cut ds p)) (size_cut ds p le)
    ]

-- ---- the digit behind those that are kept

abbrev Carries : Bool → ℕ → ℕ → Type 0
Carries b t c = (b ≡ true → t ≤ 2 * c) × (b ≡ false → 2 * c < t)

first_less : (y : ℕ) (ys : List ℕ) → AreDigits ys → y < 5 → 2 * whole_of (y ∷ ys) < 10 ^ length (y ∷ ys)
first_less y ys are h = omega (arith, whole_cons y ys, pow-suc 10 (length ys), whole_below ys are, mul-le-mul_right {m = y} {n = 4} (10 ^ length ys) (omega arith))

carry_first : (xs : List ℕ) → AreDigits xs → Carries (nat_le 5 (slice_index xs 0)) (10 ^ length xs) (whole_of xs)
carry_first [] are = (λ e. absurd (false≢true e), λ e. omega arith)
carry_first (y ∷ ys) are = (λ e. (omega (arith, whole_cons y ys, pow-suc 10 (length ys), mul-le-mul_right {m = 5} {n = y} (10 ^ length ys) (leb-true 5 y e))), λ e. first_less y ys are.1 (leb-false 5 y e))

abbrev seventh : List ℕ → ℕ → ℕ
seventh ds p = if nat_le p (length ds) then slice_index (cut ds p) 0 else 0

carry : (ds : List ℕ) (p : ℕ) → AreDigits ds → Carries (nat_le 5 (seventh ds p)) (10 ^ p) (whole_of (cut ds p))
carry ds p are = ⊎_elim
    (λ (e : nat_le p (length ds) ≡ true).
    subst (λ (b : Bool). Carries (nat_le 5 (if b then slice_index (cut ds p) 0 else 0)) (10 ^ p) (whole_of (cut ds p))) (sym e)
    (subst (λ (i : ℕ). Carries (nat_le 5 (slice_index (cut ds p) 0)) (10 ^ i) (whole_of (cut ds p))) (size_cut ds p (leb-true p (length ds) e)) (carry_first (cut ds p) (digits_drop _ ds are))))
    (λ (e : nat_le p (length ds) ≡ false).
    subst (λ (b : Bool). Carries (nat_le 5 (if b then slice_index (cut ds p) 0 else 0)) (10 ^ p) (whole_of (cut ds p))) (sym e)
    (λ f. absurd (false≢true f), λ f. omega (arith, whole_below (cut ds p) (digits_drop _ ds are), ten_less (length (cut ds p)) p (short_cut ds p (leb-false p (length ds) e)))))
    (cases_Bool (nat_le p (length ds)))

-- ---- digits that are all 0

all_zero : (ys : List ℕ) → list_any (λ c. nat_lt 0 c) ys ≡ false → whole_of ys ≡ 0
all_zero [] e = refl
all_zero (y ∷ ys) e =
    let both = or_parts (nat_lt 0 y) (list_any (λ c. nat_lt 0 c) ys) e in
    let none : y ≡ 0 = omega (arith, ltb-false _ _ both.0) in
    omega (arith, whole_cons y ys, ap (λ (k : ℕ). k * 10 ^ length ys) none, all_zero ys both.1)

not_zero : (ys : List ℕ) → list_any (λ c. nat_lt 0 c) ys ≡ true → 0 < whole_of ys
not_zero [] e = absurd (false≢true e)
not_zero (y ∷ ys) e = elim (or_cases (nat_lt 0 y) (list_any (λ c. nat_lt 0 c) ys) e) [
  | inl f ↦ omega (arith, whole_cons y ys, one-le-pow (length ys) 10 (omega arith), mul-le-mul_right {m = 1} {n = y} (10 ^ length ys) (ltb-true 0 y f))
  | inr f ↦ omega (arith, whole_cons y ys, not_zero ys f)
]

-- ---- over plain numbers

exact_nearest : (s a d : ℕ) → s * d ≡ a → 0 < d → IsNearest s a d
exact_nearest s a d e lt = record { most = omega (arith, e); next = omega (arith, e, lt, add-mul s 1 d) }

abbrev carried : Bool → ℕ
carried b = if b then 1 else 0

up_nearest : (k c n t : ℕ) → n ≡ k * t + c → c < t → t ≤ 2 * c → IsNearest (k + 1) (n * MILLION) (t * MILLION)
up_nearest k c n t e lt h = record {
  most = omega (arith, e, lt, h, mul_assoc (k + 1) t MILLION, add-mul k 1 t);
  next = omega (arith, e, lt, h, mul_assoc (k + 1 + 1) t MILLION, add-mul (k + 1) 1 t, add-mul k 1 t);
}

down_nearest : (k c n t : ℕ) → n ≡ k * t + c → 2 * c < t → IsNearest k (n * MILLION) (t * MILLION)
down_nearest k c n t e h = record {
  most = omega (arith, e, h, mul_assoc k t MILLION);
  next = omega (arith, e, h, mul_assoc (k + 1) t MILLION, add-mul k 1 t);
}

cut_nearest : (k c n t : ℕ) (b : Bool) → n ≡ k * t + c → c < t → Carries b t c → IsNearest (k * 10 ^ 0 + carried b) (n * MILLION) (t * MILLION)
cut_nearest k c n t true e lt h = subst (λ (s : ℕ). IsNearest s (n * MILLION) (t * MILLION)) (omega arith) (up_nearest k c n t e lt (h.0 refl))
cut_nearest k c n t false e lt h = subst (λ (s : ℕ). IsNearest s (n * MILLION) (t * MILLION)) (omega arith) (down_nearest k c n t e (h.1 refl))

-- no carry, where nothing is cut
full : (k c n x d w : ℕ) (b : Bool) → n ≡ k * 10 ^ 0 + c → c < 10 ^ 0 → Carries b (10 ^ 0) c → x * d ≡ w → (k * x + carried b) * d ≡ n * w
full k c n x d w true e lt h f = absurd (omega (arith, lt, h.0 refl))
full k c n x d w false e lt h f =
    let same : k ≡ n = omega (arith, e, lt) in
    ap (λ (s : ℕ). s * d) (let z : k * x + 0 ≡ k * x = omega arith in z) ∙ mul_assoc k x d ∙ ap (λ (y : ℕ). k * y) f ∙ ap (λ (y : ℕ). y * w) same

-- where only zeros are cut
zero_cut : (k c n t : ℕ) (b : Bool) → n ≡ k * t + c → c < t → Carries b t c → c ≡ 0 → (k * 10 ^ 0 + carried b) * (t * MILLION) ≡ n * MILLION
zero_cut k c n t true e lt h z = absurd (omega (arith, lt, z, h.0 refl))
zero_cut k c n t false e lt h z =
    ap (λ (s : ℕ). s * (t * MILLION)) (let z : k * 10 ^ 0 + 0 ≡ k = omega arith in z) ∙ sym (mul_assoc k t MILLION) ∙ ap (λ (y : ℕ). y * MILLION) (let f : k * t ≡ n = omega (arith, e, z) in f)

-- no multiple, where another digit is cut
no_multiple : (k c n t m : ℕ) → n ≡ k * t + c → c < t → 0 < c → m * (t * MILLION) ≡ n * MILLION → ⊥
no_multiple k c n t m e lt some f = elim (cases_lt k m) [
  | inl less ↦ omega (arith, e, lt, f, mul_assoc m t MILLION, add-mul k 1 t, mul-le-mul_right {m = k + 1} {n = m} t (omega arith))
  | inr le ↦ omega (arith, e, some, f, mul_assoc m t MILLION, mul-le-mul_right {m = m} {n = k} t le)
]

-- ---- by the exponent

abbrev sized : List ℕ → ℕ → ℕ → ℕ
sized ds p q = whole_of (kept ds p) * 10 ^ q + carried (nat_le 5 (seventh ds p))

sized_full : (ds : List ℕ) (p q d w : ℕ) → AreDigits ds → p ≡ 0 → 10 ^ q * d ≡ w → sized ds p q * d ≡ whole_of ds * w
sized_full ds p q d w are e f = subst (λ (i : ℕ). sized ds i q * d ≡ whole_of ds * w) (sym e)
    (full (whole_of (kept ds 0)) (whole_of (cut ds 0)) (whole_of ds) (10 ^ q) d w (nat_le 5 (seventh ds 0)) (parts ds 0) (cut_below ds 0 are) (carry ds 0 are) f)

abbrev Cuts : List ℕ → ℕ → Bool → Type 0
Cuts ds p b = list_any (λ c. nat_lt 0 c) (cut ds p) ≡ b

nothing_cut : (ds : List ℕ) (p : ℕ) → AreDigits ds → p ≡ 0 → Cuts ds p true → ⊥
nothing_cut ds p are e h = omega (arith, cut_below ds p are, ap (λ (i : ℕ). 10 ^ i) e, not_zero (cut ds p) h)

up_exact : (ds : List ℕ) (n : ℕ) → AreDigits ds → sized ds 0 (n + 6) * 1 ≡ whole_of ds * 10 ^ n * MILLION
up_exact ds n are = sized_full ds 0 (n + 6) 1 (10 ^ n * MILLION) are refl (omega (arith, pow-add 10 n 6)) ∙ sym (mul_assoc (whole_of ds) (10 ^ n) MILLION)

one_times : (n : ℕ) → n * MILLION ≡ n * 1 * MILLION
one_times n = omega arith

few_exact : (ds : List ℕ) (m : ℕ) → AreDigits ds → suc m ≤ 6 → sized ds (suc m - 6) (6 - suc m) * 10 ^ suc m ≡ whole_of ds * 1 * MILLION
few_exact ds m are le =
    let all : 6 - suc m + suc m ≡ 6 = omega arith in
    sized_full ds (suc m - 6) (6 - suc m) (10 ^ suc m) MILLION are (omega arith) (sym (pow-add 10 (6 - suc m) (suc m)) ∙ ap (λ (i : ℕ). 10 ^ i) all) ∙ one_times (whole_of ds)

many_below : (m : ℕ) → 6 < suc m → 10 ^ (suc m - 6) * MILLION ≡ 10 ^ suc m
many_below m lt = let all : suc m - 6 + 6 ≡ suc m = omega arith in sym (pow-add 10 (suc m - 6) 6) ∙ ap (λ (i : ℕ). 10 ^ i) all

many_nearest : (ds : List ℕ) (m : ℕ) → AreDigits ds → 6 < suc m → IsNearest (sized ds (suc m - 6) (6 - suc m)) (whole_of ds * 1 * MILLION) (10 ^ suc m)
many_nearest ds m are lt =
    let p : ℕ = suc m - 6 in
    let none : 0 ≡ 6 - suc m = omega arith in
    subst (λ (q : ℕ). IsNearest (sized ds p q) (whole_of ds * 1 * MILLION) (10 ^ suc m)) none
    (subst (λ (d : ℕ). IsNearest (sized ds p 0) (whole_of ds * 1 * MILLION) d) (many_below m lt)
    (subst (λ (a : ℕ). IsNearest (sized ds p 0) a (10 ^ p * MILLION)) (one_times (whole_of ds))
    (cut_nearest (whole_of (kept ds p)) (whole_of (cut ds p)) (whole_of ds) (10 ^ p) (nat_le 5 (seventh ds p)) (parts ds p) (cut_below ds p are) (carry ds p are))))

many_exact : (ds : List ℕ) (m : ℕ) → AreDigits ds → 6 < suc m → Cuts ds (suc m - 6) false → sized ds (suc m - 6) (6 - suc m) * 10 ^ suc m ≡ whole_of ds * 1 * MILLION
many_exact ds m are lt h =
    let p : ℕ = suc m - 6 in
    let none : 0 ≡ 6 - suc m = omega arith in
    subst (λ (q : ℕ). sized ds p q * 10 ^ suc m ≡ whole_of ds * 1 * MILLION) none
    (subst (λ (d : ℕ). sized ds p 0 * d ≡ whole_of ds * 1 * MILLION) (many_below m lt)
    (zero_cut (whole_of (kept ds p)) (whole_of (cut ds p)) (whole_of ds) (10 ^ p) (nat_le 5 (seventh ds p)) (parts ds p) (cut_below ds p are) (carry ds p are) (all_zero (cut ds p) h)
    ∙ one_times (whole_of ds)))

nearest_at : (ds : List ℕ) (e : ℤ) → AreDigits ds → IsNearest (sized ds (places_past e) (places_before e)) (whole_of ds * above e * MILLION) (below e)
nearest_at ds (pos n) are = exact_nearest _ _ 1 (up_exact ds n are) (omega arith)
nearest_at ds (negsuc m) are = elim (cases_lt 6 (suc m)) [
  | inl lt ↦ many_nearest ds m are lt
  | inr le ↦ exact_nearest _ _ (10 ^ suc m) (few_exact ds m are le) (omega (arith, one-le-pow (suc m) 10 (omega arith)))
]

exact_at : (ds : List ℕ) (e : ℤ) → AreDigits ds → Cuts ds (places_past e) false → sized ds (places_past e) (places_before e) * below e ≡ whole_of ds * above e * MILLION
exact_at ds (pos n) are h = up_exact ds n are
exact_at ds (negsuc m) are h = elim (cases_lt 6 (suc m)) [ inl lt ↦ many_exact ds m are lt h | inr le ↦ few_exact ds m are le ]

broken_at : (ds : List ℕ) (e : ℤ) → AreDigits ds → Cuts ds (places_past e) true → (n : ℕ) → n * below e ≡ whole_of ds * above e * MILLION → ⊥
broken_at ds (pos k) are h n f = nothing_cut ds 0 are refl h
broken_at ds (negsuc m) are h n f = elim (cases_lt 6 (suc m)) [
  | inl lt ↦ no_multiple (whole_of (kept ds (suc m - 6))) (whole_of (cut ds (suc m - 6))) (whole_of ds) (10 ^ (suc m - 6)) n (parts ds (suc m - 6)) (cut_below ds (suc m - 6) are) (not_zero (cut ds (suc m - 6)) h)
      (ap (λ (d : ℕ). n * d) (many_below m lt) ∙ f ∙ sym (one_times (whole_of ds)))
  | inr le ↦ nothing_cut ds (suc m - 6) are (omega arith) h
]

pub size_is_nearest : (d : Decimal) → AreDigits d.digits → IsNearest (size_of d) (millionths d) (below d.exponent)
unfolding size_of
size_is_nearest d are = nearest_at d.digits d.exponent are

pub unrounded_is_whole : (d : Decimal) → AreDigits d.digits → is_rounded d ≡ false → size_of d * below d.exponent ≡ millionths d
unfolding size_of is_rounded
unrounded_is_whole d are h = exact_at d.digits d.exponent are h

pub rounded_is_broken : (d : Decimal) → AreDigits d.digits → is_rounded d ≡ true → (n : ℕ) → n * below d.exponent ≢ millionths d
unfolding is_rounded
rounded_is_broken d are h n f = broken_at d.digits d.exponent are h n f
