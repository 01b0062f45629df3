-- The characters that a JSON text is read by (RFC 8259, sections 2, 3 and 7), what an escape stands for, and the limit on depth.
use Rattle.std.specs.Prelude.{ℕ, Bool, not, ◌&&◌, ◌||◌, ◌==◌, nat_le, List, [], ◌∷◌, ◌+◌, ◌-◌, ◌*◌, Option, Some, None, if◌then◌else◌}

-- how many arrays and objects may stand in one another
abbrev pub depth_limit : ℕ
depth_limit = 64

-- white space of section 2
abbrev pub is_space : ℕ → Bool
is_space c = (c == 32) || (c == 9) || (c == 10) || (c == 13)

-- a byte of a string that stands for itself, as each byte of a character beyond ASCII does (section 7: unescaped)
abbrev pub is_plain : ℕ → Bool
is_plain c = not (c == 34) && not (c == 92) && nat_le 32 c

-- the letters after the first of a literal of section 3
abbrev pub rue : List ℕ
rue = 114 ∷ 117 ∷ 101 ∷ []

abbrev pub alse : List ℕ
alse = 97 ∷ 108 ∷ 115 ∷ 101 ∷ []

abbrev pub ull : List ℕ
ull = 117 ∷ 108 ∷ 108 ∷ []

-- ---- What an escape in a JSON string stands for (RFC 8259, section 7).
-- the character that an escape of one letter stands for
abbrev pub short_escape : ℕ → Option ℕ
short_escape c = if c == 34 then Some 34 else if c == 92 then Some 92 else if c == 47 then Some 47
    else if c == 98 then Some 8 else if c == 102 then Some 12 else if c == 110 then Some 10
    else if c == 114 then Some 13 else if c == 116 then Some 9 else None

-- a hexadecimal digit in either case, and what it stands for
abbrev pub is_hex : ℕ → Bool
is_hex c = (nat_le 48 c && nat_le c 57) || (nat_le 65 c && nat_le c 70) || (nat_le 97 c && nat_le c 102)

abbrev pub hex_of : ℕ → ℕ
hex_of c = if nat_le c 57 then c - 48 else if nat_le c 70 then c - 55 else c - 87

-- the unit of UTF-16 that four hexadecimal digits spell
abbrev pub unit_of : ℕ → ℕ → ℕ → ℕ → ℕ
unit_of a b c d = ((hex_of a * 16 + hex_of b) * 16 + hex_of c) * 16 + hex_of d
