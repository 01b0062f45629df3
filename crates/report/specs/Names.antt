-- How the name of a unit is written: between double quotes, with the escapes of a JSON string (RFC 8259) for what a string can't
-- hold as it is. Any other byte stands as it is.
use Rattle.std.specs.Prelude.{ℕ, ◌+◌, ◌/◌, ◌%◌, List, [], ◌∷◌, ◌++◌, flat_map, codes, nat_lt, ◌==◌, if◌then◌else◌}
use Rattle.outside.specs.Lines.{joined}

-- the byte of a hexadecimal digit, in lower case
abbrev pub hex_digit : ℕ → ℕ
hex_digit d = if nat_lt d 10 then 48 + d else 87 + d

-- a backslash before a double quote (34) and before a backslash (92); a control character by its number, in four digits
abbrev pub escaped : ℕ → List ℕ
escaped byte =
    if byte == 34 then 92 ∷ 34 ∷ []
    else (if byte == 92 then 92 ∷ 92 ∷ []
    else (if nat_lt byte 32 then 92 ∷ (codes "u00" ++ hex_digit (byte / 16) ∷ hex_digit (byte % 16) ∷ [])
    else byte ∷ []))

-- a unit by its kind, `thermal` or `renewable`, and its name in double quotes
unfoldable pub unit_words : List ℕ → List ℕ → List ℕ
unit_words kind name = joined (kind ∷ (32 ∷ 34 ∷ []) ∷ flat_map escaped name ∷ (34 ∷ []) ∷ [])
