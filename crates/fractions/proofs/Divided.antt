-- Numbers over their greatest common divisor.
-- Cite by `use Rattle.fractions.proofs.Divided.{fractions_are_lowest, joined_are_least}`.
use Rattle.std.proofs.Common.{◌≡◌, ℕ, zero, suc, ◌*◌, ◌/◌, ◌<◌, ◌≤◌, refl, sym, ap, subst, ◌∙◌, arith, [], ◌∷◌, ℤ, pos, negsuc, neg_ℤ, ◌*ℤ◌, ◌<ℤ◌, unsigned_abs, int_div}
use Rattle.std.specs.Int.{◌∣◌}
use Rattle.std.proofs.Math.Nat.{dvd-mul_left, dvd-mul_right, mul-dvd-mul_left, dvd_of_mul-dvd-mul_left, eq-zero_of_zero-dvd, mul-div_cancel'}
use Rattle.std.proofs.lemmas.Nat.Gcd.{le_of_dvd}
use Rattle.std.proofs.lemmas.Int.{ints, unsigned_abs-mul}
use Rattle.uc_model.proofs.Common.{mul_comm, mul_assoc, mul-zero, neg-mul, mul-lt-mul_left}
use Rattle.pivot_run.specs.Prelude.{entry}
use Rattle.pivot_run.proofs.Divisors.{divisor_of-positive, divisor_of-divides, divisor_of-greatest}
use Rattle.cost_curves.proofs.LowestTerms.{coprime-dvd}
use Rattle.fractions.specs.Fractions.{common_of, missing_factor, joined, FractionsAreLowest, JoinedAreLeast}

-- ---- an exact quotient
size_over : (z : ℤ) (g : ℕ) → unsigned_abs (int_div z (pos g)) ≡ unsigned_abs z / g
size_over (pos n) g = refl
size_over (negsuc n) g = omega (arith, ints)

pub times : (g : ℕ) (z : ℤ) → 0 < g → g ∣ unsigned_abs z → int_div z (pos g) *ℤ pos g ≡ z
times g (pos n) some h = mul_comm (pos (n / g)) (pos g) ∙ ap pos (mul-div_cancel' g h)
times g (negsuc n) some h =
    neg-mul (pos (suc n / g)) (pos g) ∙ ap neg_ℤ (mul_comm (pos (suc n / g)) (pos g) ∙ ap pos (mul-div_cancel' g h))

-- ---- the divisor of two numbers
some : (a b : ℤ) → 0 < common_of a b
some a b = divisor_of-positive (a ∷ b ∷ [])

first_divided : (a b : ℤ) → common_of a b ∣ unsigned_abs a
first_divided a b = divisor_of-divides (a ∷ b ∷ []) 0 (omega arith)

second_divided : (a b : ℤ) → common_of a b ∣ unsigned_abs b
second_divided a b = divisor_of-divides (a ∷ b ∷ []) 1 (omega arith)

above_zero : (b : ℤ) → pos 0 <ℤ b → 0 < unsigned_abs b
above_zero b h = omega (arith, ints)

greatest : (a b : ℤ) (m : ℕ) → 0 < m → 0 < unsigned_abs b → m ∣ unsigned_abs a → m ∣ unsigned_abs b → m ≤ common_of a b
greatest a b m own there first second =
    divisor_of-greatest (a ∷ b ∷ []) m own (omega (arith, le_of_dvd {m = m} {n = unsigned_abs b} there second)) each
  where
    each : (k : ℕ) → k < 2 → m ∣ unsigned_abs (entry (a ∷ b ∷ []) k)
    each zero h = first
    each (suc zero) h = second
    each (suc (suc k)) h = absurd (omega arith)

-- each is it times what is left of it
module _ (a b : ℤ) where
  first_times : common_of a b * unsigned_abs (int_div a (pos (common_of a b))) ≡ unsigned_abs a
  first_times = ap (λ n. common_of a b * n) (size_over a (common_of a b)) ∙ mul-div_cancel' (common_of a b) (first_divided a b)

  second_times : common_of a b * unsigned_abs (int_div b (pos (common_of a b))) ≡ unsigned_abs b
  second_times = ap (λ n. common_of a b * n) (size_over b (common_of a b)) ∙ mul-div_cancel' (common_of a b) (second_divided a b)

-- a number that divides both over it is 1
only_one : (g c a b x y : ℕ) → 0 < b → g * x ≡ a → g * y ≡ b → c ∣ x → c ∣ y → ((m : ℕ) → 0 < m → m ∣ a → m ∣ b → m ≤ g) → 0 < g → c ≡ 1
only_one g zero a b x y there ea eb first second most own =
    let none : y ≡ 0 = eq-zero_of_zero-dvd second in
    absurd (omega (arith, ap (λ n. g * n) none))
only_one g (suc c) a b x y there ea eb first second most own =
    small c (most (g * suc c) (times_positive g own) (subst (λ n. g * suc c ∣ n) ea (mul-dvd-mul_left (suc c) g first)) (subst (λ n. g * suc c ∣ n) eb (mul-dvd-mul_left (suc c) g second)))
  where
    times_positive : (g : ℕ) → 0 < g → 0 < g * suc c
    times_positive g h = omega arith

    small : (c : ℕ) → g * suc c ≤ g → suc c ≡ 1
    small zero h = refl
    small (suc n) h = absurd (omega arith)

coprime : (a b : ℤ) (c : ℕ) → 0 < unsigned_abs b → c ∣ unsigned_abs (int_div a (pos (common_of a b)))
    → c ∣ unsigned_abs (int_div b (pos (common_of a b))) → c ≡ 1
coprime a b c there first second =
    only_one (common_of a b) c (unsigned_abs a) (unsigned_abs b) _ _ there (first_times a b) (second_times a b) first second
    (λ m own one two. greatest a b m own there one two) (some a b)

over_positive : (z : ℤ) (g : ℕ) → pos 0 <ℤ z → g ∣ unsigned_abs z → pos 0 <ℤ int_div z (pos g)
over_positive (pos n) g h divides =
    let whole : g * (n / g) ≡ n = mul-div_cancel' g divides in
    positive (n / g) (omega (arith, ints)) whole
  where
    positive : (m : ℕ) → 0 < n → g * m ≡ n → pos 0 <ℤ pos m
    positive zero above e = absurd (omega arith)
    positive (suc m) above e = omega (arith, ints)
over_positive (negsuc n) g h divides = absurd (omega (arith, ints))

pub missing_positive : (a b : ℤ) → pos 0 <ℤ b → pos 0 <ℤ int_div b (pos (common_of a b))
missing_positive a b h = over_positive b (common_of a b) h (second_divided a b)

pub fractions_are_lowest : FractionsAreLowest
fractions_are_lowest n d h =
    let over = pos (common_of n d) in
    let top : int_div n (pos (common_of n d)) *ℤ pos (common_of n d) ≡ n = times (common_of n d) n (some n d) (first_divided n d) in
    let low : int_div d (pos (common_of n d)) *ℤ pos (common_of n d) ≡ d = times (common_of n d) d (some n d) (second_divided n d) in
    record {
      positive = missing_positive n d h;
      same =
          ap (λ z. int_div n (pos (common_of n d)) *ℤ z) (sym low ∙ mul_comm (int_div d (pos (common_of n d))) (pos (common_of n d)))
          ∙ sym (mul_assoc (int_div n (pos (common_of n d))) (pos (common_of n d)) (int_div d (pos (common_of n d))))
          ∙ ap (λ z. z *ℤ int_div d (pos (common_of n d))) top;
      coprime = λ c first second. coprime n d c (above_zero d h) first second;
    }

-- ---- the least common multiple
mul_positive : (a b : ℤ) → pos 0 <ℤ a → pos 0 <ℤ b → pos 0 <ℤ (a *ℤ b)
mul_positive a b own other = subst (λ z. z <ℤ (a *ℤ b)) (mul-zero a) (mul-lt-mul_left a (pos 0) b own other)

pub joined_are_least : JoinedAreLeast
joined_are_least m d own other = record {
  positive = mul_positive m (missing_factor m d) own (missing_positive m d other);
  first = subst (λ n. unsigned_abs m ∣ n) (sym size) (dvd-mul_right (unsigned_abs m) rest);
  second = subst (λ n. unsigned_abs d ∣ n) (sym both) (dvd-mul_left (unsigned_abs d) part);
  least = λ e first second. subst (λ n. n ∣ e) (sym size) (multiple e (divide e first) second);
}
  where
    rest : ℕ
    rest = unsigned_abs (missing_factor m d)

    part : ℕ
    part = unsigned_abs (int_div m (pos (common_of m d)))

    size : unsigned_abs (joined m d) ≡ unsigned_abs m * rest
    size = unsigned_abs-mul m (missing_factor m d)

    above : common_of m d * part ≡ unsigned_abs m
    above = first_times m d

    below : common_of m d * rest ≡ unsigned_abs d
    below = second_times m d

    both : unsigned_abs (joined m d) ≡ part * unsigned_abs d
    both = size ∙ omega (arith, ap (λ n. n * rest) above, ap (λ n. part * n) below)

    divide : (e : ℕ) → unsigned_abs m ∣ e → unsigned_abs m * (e / unsigned_abs m) ≡ e
    divide e h = mul-div_cancel' (unsigned_abs m) h

    multiple : (e : ℕ) → unsigned_abs m * (e / unsigned_abs m) ≡ e → unsigned_abs d ∣ e → unsigned_abs m * rest ∣ e
    multiple e whole h =
        let k = e / unsigned_abs m in
        let turned : common_of m d * (part * (e / unsigned_abs m)) ≡ e = omega (arith, ap (λ n. n * (e / unsigned_abs m)) above, whole) in
        let divides : common_of m d * rest ∣ common_of m d * (part * (e / unsigned_abs m)) = subst (λ n. common_of m d * rest ∣ n) (sym turned) (subst (λ n. n ∣ e) (sym below) h) in
        let own_part : rest ∣ part * (e / unsigned_abs m) = dvd_of_mul-dvd-mul_left rest (some m d) divides in
        subst (λ n. unsigned_abs m * rest ∣ n) whole
        (mul-dvd-mul_left rest (unsigned_abs m) (coprime-dvd part rest (e / unsigned_abs m) (λ c one two. coprime m d c (above_zero d other) one two) own_part))
