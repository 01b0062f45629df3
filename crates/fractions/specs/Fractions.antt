-- Fractions in lowest terms, and least common multiples. Source: Euclid, Elements, book VII, propositions 21 and 34.
use Rattle.std.specs.Prelude.{◌≡◌, ℕ, [], ◌∷◌, ℤ, pos, ◌*ℤ◌, ◌<ℤ◌, int_div, unsigned_abs}
use Rattle.std.specs.Int.{◌∣◌}
use Rattle.pivot_run.specs.Prelude.{divisor_of}
pub use Rattle.fractions.specs.declared.fraction.Fraction.{Fraction}

-- the greatest common divisor of two numbers, 1 where both are 0
abbrev pub common_of : ℤ → ℤ → ℕ
common_of a b = divisor_of (a ∷ b ∷ [])

-- n over d, both divided by their greatest common divisor
abbrev pub lowest : ℤ → ℤ → Fraction
lowest n d = record { numerator = int_div n (pos (common_of n d)); denominator = int_div d (pos (common_of n d)) }

-- d over its greatest common divisor with m: what m is multiplied by to be a multiple of d
abbrev pub missing_factor : ℤ → ℤ → ℤ
missing_factor m d = int_div d (pos (common_of m d))

-- the least common multiple of two numbers above 0
abbrev pub joined : ℤ → ℤ → ℤ
joined m d = m *ℤ missing_factor m d

-- making it forms the product of these two numbers
abbrev pub JoinForms : ℤ → ℤ → ℤ → ℤ → Type 0
JoinForms m d a b = (a ≡ m) × (b ≡ missing_factor m d)

-- the fraction is n over d in lowest terms
pub record IsLowest (n d : ℤ) (f : Fraction) : Type 0 where
  pub positive : pos 0 <ℤ f.denominator
  pub same : f.numerator *ℤ d ≡ n *ℤ f.denominator
  pub coprime : (c : ℕ) → c ∣ unsigned_abs f.numerator → c ∣ unsigned_abs f.denominator → c ≡ 1

abbrev pub FractionsAreLowest : Type 0
FractionsAreLowest = (n d : ℤ) → pos 0 <ℤ d → IsLowest n d (lowest n d)

-- z is the least common multiple of m and d
pub record IsLeastMultiple (m d z : ℤ) : Type 0 where
  pub positive : pos 0 <ℤ z
  pub first : unsigned_abs m ∣ unsigned_abs z
  pub second : unsigned_abs d ∣ unsigned_abs z
  pub least : (e : ℕ) → unsigned_abs m ∣ e → unsigned_abs d ∣ e → unsigned_abs z ∣ e

abbrev pub JoinedAreLeast : Type 0
JoinedAreLeast = (m d : ℤ) → pos 0 <ℤ m → pos 0 <ℤ d → IsLeastMultiple m d (joined m d)
