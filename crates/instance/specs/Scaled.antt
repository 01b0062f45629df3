-- The scaled number of a JSON number: its value as whole millionths, rounded half away from zero at the
-- seventh decimal. Nothing here computes a power of the size of an exponent unless it is unfolded.
use Rattle.std.specs.Prelude.{ℕ, suc, ◌+◌, ◌-◌, ◌*◌, ◌/◌, ◌^◌, Bool, true, false, ◌&&◌, nat_lt, nat_le, List, length, take, drop, slice_index, ℤ, pos, negsuc, neg_ℤ, if◌then◌else◌, ⊤, ◌<◌, ◌≤◌, ◌%◌, min, ◌≡◌, ◌⊎◌}
use Rattle.std.specs.List.{list_any}
use Rattle.decimal_json.specs.Value.{Decimal, whole_of, Value, number, array, object, Items, no_items, item, Members, no_members, member}

-- millionths in a whole
abbrev pub MILLION : ℕ
MILLION = 1_000_000

-- how many of the last digits are past the sixth decimal, by the exponent of the last digit
abbrev pub places_past : ℤ → ℕ
places_past (pos n) = 0
places_past (negsuc n) = suc n - 6

-- how many places the last digit is before the sixth decimal
abbrev pub places_before : ℤ → ℕ
places_before (pos n) = n + 6
places_before (negsuc n) = 6 - suc n

-- the digits through the sixth decimal, and those past it
abbrev pub kept_digits : Decimal → List ℕ
kept_digits d = take (length d.digits - places_past d.exponent) d.digits

abbrev pub cut_digits : Decimal → List ℕ
cut_digits d = drop (length d.digits - places_past d.exponent) d.digits

-- the seventh decimal digit, which is 0 where the first digit is past it
abbrev pub seventh_digit : Decimal → ℕ
seventh_digit d = if nat_le (places_past d.exponent) (length d.digits) then slice_index (cut_digits d) 0 else 0

-- the size of the scaled number
unfoldable pub size_of : Decimal → ℕ
size_of d = whole_of (kept_digits d) * 10 ^ places_before d.exponent + (if nat_le 5 (seventh_digit d) then 1 else 0)

-- a sign and a size
abbrev pub signed : Bool → ℕ → ℤ
signed true n = neg_ℤ (pos n)
signed false n = pos n

abbrev pub scaled : Decimal → ℤ
scaled d = signed d.negative (size_of d)

-- the value is no multiple of a millionth: a digit past the sixth decimal isn't 0
unfoldable pub is_rounded : Decimal → Bool
is_rounded d = list_any (λ c. nat_lt 0 c) (cut_digits d)

-- how many wholes the size of a number has
abbrev pub wholes_of : Decimal → ℕ
wholes_of d = size_of d / MILLION

abbrev pub is_below_zero : Decimal → Bool
is_below_zero d = d.negative && nat_lt 0 (wholes_of d)

-- ---- What becomes of a value whose numbers are changed, and what holds of each of its numbers.
-- a value with each of its numbers changed
abbrev mutual
  pub with_numbers : (Decimal → Decimal) → Value → Value
  with_numbers change (number d) = number (change d)
  with_numbers change (array vs) = array (items_with change vs)
  with_numbers change (object ms) = object (members_with change ms)
  with_numbers change v = v

  pub items_with : (Decimal → Decimal) → Items → Items
  items_with change no_items = no_items
  items_with change (item v vs) = item (with_numbers change v) (items_with change vs)

  pub members_with : (Decimal → Decimal) → Members → Members
  members_with change no_members = no_members
  members_with change (member key v ms) = member key (with_numbers change v) (members_with change ms)

-- Each number of a value is as said.
abbrev mutual
  pub AllNumbers : (Decimal → Type 0) → Value → Type 0
  AllNumbers P (number d) = P d
  AllNumbers P (array vs) = AllItems P vs
  AllNumbers P (object ms) = AllMembers P ms
  AllNumbers P _ = ⊤

  pub AllItems : (Decimal → Type 0) → Items → Type 0
  AllItems P no_items = ⊤
  AllItems P (item v vs) = AllNumbers P v × AllItems P vs

  pub AllMembers : (Decimal → Type 0) → Members → Type 0
  AllMembers P no_members = ⊤
  AllMembers P (member key v ms) = AllNumbers P v × AllMembers P ms

-- ---- What scaling means, by arithmetic: a JSON number's size in millionths is a quotient of two whole numbers, and the
-- scaled number is the whole number nearest to it.
-- ten to an exponent, as a quotient
abbrev pub above : ℤ → ℕ
above (pos n) = 10 ^ n
above (negsuc n) = 1

abbrev pub below : ℤ → ℕ
below (pos n) = 1
below (negsuc n) = 10 ^ suc n

-- A number's size in millionths is this over `below` of its exponent.
abbrev pub millionths : Decimal → ℕ
millionths d = whole_of d.digits * above d.exponent * MILLION

-- The whole number nearest to a / b, the greater one of two: it is at most a / b + 1/2, and the next one isn't.
pub record IsNearest (n a b : ℕ) : Type 0 where
  pub most : 2 * (n * b) ≤ 2 * a + b
  pub next : 2 * a + b < 2 * ((n + 1) * b)

-- ---- How a size of any number of digits stands in 64 bits.
-- A size from here on is past every limit of an instance.
abbrev pub PAST_LIMITS : ℕ
PAST_LIMITS = 10 ^ 14

-- Such a size stands as the least of them with the size's last six digits: whole where the size is.
abbrev pub held : ℕ → ℕ
held n = if nat_lt n PAST_LIMITS then n else PAST_LIMITS + n % 1_000_000

-- A whole number from 10^8 on stands as 10^8.
abbrev pub held_wholes : ℕ → ℕ
held_wholes n = min n (10 ^ 8)

-- ---- What it is for two numbers of JSON to say the same wherever a field of an instance has one.
-- Their signs are the same; both are rounded or neither; both are whole or neither, with the same last six digits of
-- their sizes; and their sizes are the same, or past every limit of an instance.
pub record SaySame (a b : Decimal) : Type 0 where
  pub sign : a.negative ≡ b.negative
  pub rounded : is_rounded a ≡ is_rounded b
  pub rest : size_of a % MILLION ≡ size_of b % MILLION
  pub size : (size_of a ≡ size_of b) ⊎ ((PAST_LIMITS ≤ size_of a) × (PAST_LIMITS ≤ size_of b))

-- The text of a number with more digits has more bytes than an instance file may have.
abbrev pub MOST_DIGITS : ℕ
MOST_DIGITS = 2 ^ 26

-- of so many digits at most
abbrev pub IsShort : Decimal → Type 0
IsShort d = length d.digits ≤ MOST_DIGITS
