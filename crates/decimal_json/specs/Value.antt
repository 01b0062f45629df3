-- A JSON value, apart from how it lies in memory (RFC 8259, section 3), its numbers, and what is open inside a text.
use Rattle.std.specs.Prelude.{ℕ, ℤ, Bool, false, ◌||◌, List, [], ◌∷◌, ◌+◌, ◌-◌, ◌*◌, ◌&&◌, ◌==◌, nat_le, ◌++◌, length, fold, pos, negsuc, ◌-ℤ◌, if◌then◌else◌}
use Rattle.std.specs.Str.{bytes_eq}
use Rattle.std.specs.Int.{int_min, int_max}

-- A number with each of its digits. Its value is the digits, read as one whole, times ten to the exponent.
pub record Decimal : Type 0 where
  pub negative : Bool
  pub digits : List ℕ
  pub exponent : ℤ

-- A text stands as its bytes in UTF-8. Members stand in the order of the file.
mutual
  pub data Value : Type 0 where
    null : Value
    boolean : Bool → Value
    number : Decimal → Value
    text : List ℕ → Value
    array : Items → Value
    object : Members → Value

  pub data Items : Type 0 where
    no_items : Items
    item : Value → Items → Items

  pub data Members : Type 0 where
    no_members : Members
    member : List ℕ → Value → Members → Members

-- the items of a list
abbrev pub items_of : List Value → Items
items_of [] = no_items
items_of (v ∷ vs) = item v (items_of vs)

-- the members of a list of keys and values
abbrev pub members_of : List (List ℕ × Value) → Members
members_of [] = no_members
members_of (m ∷ ms) = member m.0 m.1 (members_of ms)

-- one of the members has the key
abbrev pub has_key : Members → List ℕ → Bool
has_key no_members key = false
has_key (member k v ms) key = bytes_eq k key || has_key ms key

-- ---- What the digits of a JSON number say (RFC 8259, section 6).
-- DIGIT of the grammar, and what it stands for
abbrev pub is_digit : ℕ → Bool
is_digit c = nat_le 48 c && nat_le c 57

abbrev pub digit_of : ℕ → ℕ
digit_of c = c - 48

-- e of the grammar: the letter before an exponent, in either case
abbrev pub is_mark : ℕ → Bool
is_mark c = (c == 101) || (c == 69)

-- digits, read as one whole
abbrev pub whole_of : List ℕ → ℕ
whole_of ds = fold (λ n d. n * 10 + d) 0 ds

-- An exponent beyond 10^9 in size stands as the exponent of that size with its sign.
abbrev pub held : ℤ → ℤ
held z = int_max (negsuc 999_999_999) (int_min z (pos 1_000_000_000))

-- the exponent of the last digit as it is written: what is after the mark, less the digits after the point
abbrev pub written_exponent : Bool → ℕ → ℕ → ℤ
written_exponent down written places = if down then pos 0 -ℤ pos (written + places) else pos written -ℤ pos places

-- the same, as a value keeps it
abbrev pub exponent_of : Bool → ℕ → ℕ → ℤ
exponent_of down written places = held (written_exponent down written places)

-- the number of a sign, of the digits before and after the point, and of an exponent, as it is written
abbrev pub written_decimal : Bool → List ℕ → List ℕ → Bool → ℕ → Decimal
written_decimal negative ds fs down written =
    record { negative = negative; digits = ds ++ fs; exponent = written_exponent down written (length fs) }

-- a number as a value keeps it
abbrev pub held_decimal : Decimal → Decimal
held_decimal d = record { negative = d.negative; digits = d.digits; exponent = held d.exponent }

abbrev pub decimal_from : Bool → List ℕ → List ℕ → Bool → ℕ → Decimal
decimal_from negative ds fs down written = held_decimal (written_decimal negative ds fs down written)

-- ---- What is open at a place of a JSON text.
-- a key and its value
abbrev pub Member : Type 0
Member = List ℕ × Value

-- an array or an object that is open: what came before the value that is being read now
pub data Frame : Type 0 where
  in_array : List Value → Frame
  in_object : List Member → List ℕ → Frame

-- a string is a value, or the key of a member after these, with the place of its first quote
pub data Purpose : Type 0 where
  for_value : Purpose
  for_key : List Member → ℕ → Purpose
