-- A slope has one form in lowest terms. Euclid's algorithm gives the greatest common divisor of its rise and its run, by
-- which both are divided; and a number prime to a factor of a product divides the other one, as the greatest common
-- divisor of two multiples of it shows.
-- Cite from a crate above by `use Rattle.cost_curves.proofs.LowestTerms.{has_gcd, coprime-dvd, denominator-dvd}`.
use Rattle.std.proofs.Common.{◌≡◌, ℕ, zero, suc, ◌*◌, ◌/◌, ◌%◌, ◌<◌, ◌≤◌, refl, sym, ap, subst, ◌∙◌, arith, ℤ, pos, negsuc, neg_ℤ, ◌*ℤ◌, ◌<ℤ◌, unsigned_abs}
use Rattle.std.specs.Int.{◌∣◌, IsGcd}
use Rattle.std.proofs.Math.Nat.{mod-lt, dvd-mul_left, dvd-mul_right, mul-dvd-mul_left, dvd_of_mul-dvd-mul_left, eq-one_of_dvd-one, eq-zero_of_zero-dvd, mul-div_cancel'}
use Rattle.std.proofs.lemmas.Nat.Gcd.{IsGcd-from_zero, IsGcd-from_mod, dvd-zero, dvd_antisymm}
use Rattle.std.proofs.lemmas.Int.{unsigned_abs-mul}
use Rattle.uc_model.proofs.Common.{linear, mul_comm, mul_assoc, mul-neg, le_antisymm, le_of_eq, le_from_mul, pos_of_nonneg}
use Rattle.cost_curves.specs.LowestTerms.{Slope, IsInLowestTerms}

-- ---- greatest common divisors
gcd_below : (n a b : ℕ) → b ≤ n → (g : ℕ) × IsGcd a b g
gcd_below n a zero h = (a, IsGcd-from_zero a zero refl)
gcd_below zero a (suc b) h = absurd (omega arith)
gcd_below (suc n) a (suc b) h = grind (arith, linear, mod-lt, IsGcd-from_mod, h, (gcd_below n (suc b) (a % suc b) (omega arith)))

pub has_gcd : (a b : ℕ) → (g : ℕ) × IsGcd a b g
has_gcd a b = gcd_below b a b (omega arith)

-- a number prime to one factor of a product that it divides divides the other
pub coprime-dvd : (a d k : ℕ) → ((c : ℕ) → c ∣ a → c ∣ d → c ≡ 1) → d ∣ a * k → d ∣ k
coprime-dvd a d zero prime h = dvd-zero d
coprime-dvd a d (suc j) prime h = subst (λ n. d ∣ n) is_k (whole.1.2 d h (dvd-mul_right d (suc j)))
  where
    whole : (g : ℕ) × IsGcd (a * suc j) (d * suc j) g
    whole = has_gcd (a * suc j) (d * suc j)

    rest : ℕ
    rest = whole.0 / suc j

    times : suc j * rest ≡ whole.0
    times = mul-div_cancel' (suc j) (whole.1.2 (suc j) (dvd-mul_left (suc j) a) (dvd-mul_left (suc j) d))

    divides : (m : ℕ) → whole.0 ∣ m * suc j → rest ∣ m
    divides m l =
        let turned : m * suc j ≡ suc j * m = omega arith in
        dvd_of_mul-dvd-mul_left rest (omega arith) (subst (λ n. n ∣ suc j * m) (sym times) (subst (λ n. whole.0 ∣ n) turned l))

    one : rest ≡ 1
    one = prime rest (divides a whole.1.0) (divides d whole.1.1)

    is_k : whole.0 ≡ suc j
    is_k = sym times ∙ ap (λ n. suc j * n) one ∙ omega arith

-- ---- the form
cancel : (q a b : ℤ) → pos 0 <ℤ q → q *ℤ a ≡ q *ℤ b → a ≡ b
cancel q a b some e = le_antisymm a b (le_from_mul q a b some (le_of_eq _ _ e)) (le_from_mul q b a some (le_of_eq _ _ (sym e)))

-- what makes the slope whole is a multiple of the denominator
pub denominator-dvd : (slope : Slope) (numerator multiple : ℤ) (denominator k : ℕ) → pos 0 <ℤ slope.run
    → IsInLowestTerms slope numerator denominator → multiple *ℤ slope.run ≡ slope.rise *ℤ pos k → denominator ∣ k
denominator-dvd slope n m d k some form e =
    coprime-dvd (unsigned_abs n) d k form.coprime (subst (λ z. d ∣ z) (sym sizes) (dvd-mul_left d (unsigned_abs m)))
  where
    -- the run times both sides
    left : slope.run *ℤ (n *ℤ pos k) ≡ (slope.rise *ℤ pos d) *ℤ pos k
    left = sym (mul_assoc slope.run n (pos k)) ∙ ap (λ z. z *ℤ pos k) (mul_comm slope.run n ∙ form.same)

    right : slope.run *ℤ (m *ℤ pos d) ≡ (slope.rise *ℤ pos k) *ℤ pos d
    right = sym (mul_assoc slope.run m (pos d)) ∙ ap (λ z. z *ℤ pos d) (mul_comm slope.run m ∙ e)

    swapped : (slope.rise *ℤ pos d) *ℤ pos k ≡ (slope.rise *ℤ pos k) *ℤ pos d
    swapped =
        mul_assoc slope.rise (pos d) (pos k)
        ∙ ap (λ z. slope.rise *ℤ z) (mul_comm (pos d) (pos k))
        ∙ sym (mul_assoc slope.rise (pos k) (pos d))

    cross : n *ℤ pos k ≡ m *ℤ pos d
    cross = cancel slope.run _ _ some (left ∙ swapped ∙ sym right)

    sizes : unsigned_abs n * k ≡ unsigned_abs m * d
    sizes = sym (unsigned_abs-mul n (pos k)) ∙ ap unsigned_abs cross ∙ unsigned_abs-mul m (pos d)

pub lowest_unique : (slope : Slope) (a b : ℤ) (d e : ℕ) → pos 0 <ℤ slope.run → IsInLowestTerms slope a d → IsInLowestTerms slope b e
    → (a ≡ b) × (d ≡ e)
lowest_unique slope a b d e some first second =
    let denominators : d ≡ e = dvd_antisymm (denominator-dvd slope a b d e some first second.same) (denominator-dvd slope b a e d some second first.same) in
    let products : slope.run *ℤ a ≡ slope.run *ℤ b = mul_comm slope.run a ∙ first.same ∙ ap (λ n. slope.rise *ℤ pos n) denominators
    ∙ sym second.same ∙ mul_comm b slope.run in
    (cancel slope.run a b some products, denominators)

divided : (g : ℕ) (z : ℤ) → g ∣ unsigned_abs z → (n : ℤ) × (pos g *ℤ n ≡ z)
divided g (pos a) h = (pos (a / g), ap pos (mul-div_cancel' g h))
divided g (negsuc a) h = (neg_ℤ (pos (suc a / g)), mul-neg (pos g) (pos (suc a / g)) ∙ ap (λ n. neg_ℤ (pos n)) (mul-div_cancel' g h))

-- a rise over r watts
over_watts : (rise : ℤ) (r : ℕ) → 0 < r → (n : ℤ) × (d : ℕ) × IsInLowestTerms (record { rise = rise; run = pos r }) n d
over_watts rise r some = (n, d, record { same = same; positive = positive; coprime = coprime })
  where
    whole : (g : ℕ) × IsGcd (unsigned_abs rise) r g
    whole = has_gcd (unsigned_abs rise) r

    g : ℕ
    g = whole.0

    top : (n : ℤ) × (pos g *ℤ n ≡ rise)
    top = divided g rise whole.1.0

    n : ℤ
    n = top.0

    d : ℕ
    d = r / g

    times : g * d ≡ r
    times = mul-div_cancel' g whole.1.1

    positive_number : (m : ℕ) → g * m ≡ r → 0 < m
    positive_number zero e = absurd (omega arith)
    positive_number (suc m) e = omega arith

    positive : 0 < d
    positive = positive_number d times

    g_positive : (m : ℕ) → m ∣ r → 0 < m
    g_positive zero h = let none = eq-zero_of_zero-dvd h in absurd (omega arith)
    g_positive (suc m) h = omega arith

    same : n *ℤ pos r ≡ rise *ℤ pos d
    same =
        ap (λ m. n *ℤ pos m) (sym times)
        ∙ sym (mul_assoc n (pos g) (pos d))
        ∙ ap (λ z. z *ℤ pos d) (mul_comm n (pos g) ∙ top.1)

    size : g * unsigned_abs n ≡ unsigned_abs rise
    size = sym (unsigned_abs-mul (pos g) n) ∙ ap unsigned_abs top.1

    coprime : (c : ℕ) → c ∣ unsigned_abs n → c ∣ d → c ≡ 1
    coprime c p q =
        let first : g * c ∣ unsigned_abs rise = subst (λ m. g * c ∣ m) size (mul-dvd-mul_left c g p) in
        let second : g * c ∣ r = subst (λ m. g * c ∣ m) times (mul-dvd-mul_left c g q) in
        let all : g ≡ g * 1 = omega arith in
        eq-one_of_dvd-one (dvd_of_mul-dvd-mul_left c (g_positive g whole.1.1) (subst (λ m. g * c ∣ m) all (whole.1.2 (g * c) first second)))

pub lowest_exists : (slope : Slope) → pos 0 <ℤ slope.run → (numerator : ℤ) × (denominator : ℕ) × IsInLowestTerms slope numerator denominator
lowest_exists slope some =
    let watts = pos_of_nonneg slope.run (omega (arith, linear, some)) in
    let found = over_watts slope.rise watts.0 (omega (arith, linear, some, watts.1)) in
    (found.0, found.1, subst (λ z. IsInLowestTerms (record { rise = slope.rise; run = z }) found.0 found.1) (sym watts.1) found.2)
