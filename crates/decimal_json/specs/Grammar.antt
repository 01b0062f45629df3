-- The grammar of JSON (RFC 8259), as a relation between bytes and the value that they spell. With limits, an array or an
-- object stands at a level of at most 64, no object has a key twice, and no surrogate stands without its partner: the
-- limits that section 9 lets a reader set, and that sections 4 and 8.2 advise. Without them it is the grammar as it is.
use Rattle.std.specs.Prelude.{◌≡◌, ℕ, ◌+◌, ◌<◌, ⊤, Bool, true, false, ◌&&◌, ◌||◌, List, [], ◌∷◌, ◌++◌, map, Some, encode_utf8, if◌then◌else◌}
use Rattle.std.specs.List.{AllByRecursion, flat_map}
use Rattle.std.specs.Char.Utf16.{is_low_surrogate, is_high_surrogate, surrogate_pair_char}
use Rattle.decimal_json.specs.Value.{Decimal, Value, null, boolean, number, text, array, object, Items, no_items, item, Members, no_members, member, has_key, is_mark, whole_of, decimal_from}
use Rattle.decimal_json.specs.Characters.{short_escape, is_hex, unit_of, is_space, is_plain, rue, alse, ull, depth_limit}

-- section 2: white space
abbrev pub IsSpace : List ℕ → Type 0
IsSpace bs = AllByRecursion (λ c. is_space c ≡ true) bs

-- section 6: digits, and how they are written
abbrev pub AreDigits : List ℕ → Type 0
AreDigits ds = AllByRecursion (λ d. d < 10) ds

abbrev pub numerals : List ℕ → List ℕ
numerals ds = map (λ d. 48 + d) ds

-- section 6: the digits before the point, with no 0 at the front of others
abbrev pub IsWhole : List ℕ → Type 0
IsWhole [] = ⊥
IsWhole (d ∷ []) = d < 10
IsWhole (d ∷ e ∷ ds) = (0 < d) × AreDigits (d ∷ e ∷ ds)

-- section 6: frac
abbrev pub fraction_text : List ℕ → List ℕ
fraction_text [] = []
fraction_text (f ∷ fs) = 46 ∷ numerals (f ∷ fs)

-- section 6: exp, which may be absent: its mark, its sign, and its digits, of which there is a first
pub data Sign : Type 0 where
  no_sign : Sign
  plus : Sign
  minus : Sign

abbrev pub sign_text : Sign → List ℕ
sign_text no_sign = []
sign_text plus = 43 ∷ []
sign_text minus = 45 ∷ []

abbrev pub is_minus : Sign → Bool
is_minus minus = true
is_minus _ = false

pub data Power : Type 0 where
  no_power : Power
  power : ℕ → Sign → ℕ → List ℕ → Power

abbrev pub power_text : Power → List ℕ
power_text no_power = []
power_text (power m s d ds) = m ∷ sign_text s ++ numerals (d ∷ ds)

abbrev pub is_down : Power → Bool
is_down no_power = false
is_down (power m s d ds) = is_minus s

abbrev pub written : Power → ℕ
written no_power = 0
written (power m s d ds) = whole_of (d ∷ ds)

abbrev pub IsPower : Power → Type 0
IsPower no_power = ⊤
IsPower (power m s d ds) = (is_mark m ≡ true) × AreDigits (d ∷ ds)

abbrev pub negative_text : Bool → List ℕ
negative_text negative = if negative then 45 ∷ [] else []

-- section 6: number = [ minus ] int [ frac ] [ exp ]
pub record IsNumber (n : Decimal) (bs : List ℕ) : Type 0 where
  pub negative : Bool
  pub ds : List ℕ
  pub fs : List ℕ
  pub exponent : Power
  pub is_whole : IsWhole ds
  pub are_digits : AreDigits fs
  pub is_power : IsPower exponent
  pub value : n ≡ decimal_from negative ds fs (is_down exponent) (written exponent)
  pub spelled : bs ≡ negative_text negative ++ (numerals ds ++ (fraction_text fs ++ power_text exponent))

-- section 7: a character as it is written: a byte that stands for itself, an escape of one letter, a unit of UTF-16 by four
-- hexadecimal digits, or two units that make a pair
pub data Character : Type 0 where
  itself : ℕ → Character
  short : ℕ → ℕ → Character
  alone : ℕ → ℕ → ℕ → ℕ → Character
  pair : ℕ → ℕ → ℕ → ℕ → ℕ → ℕ → ℕ → ℕ → Character

abbrev pub character_text : Character → List ℕ
character_text (itself c) = c ∷ []
character_text (short l b) = 92 ∷ l ∷ []
character_text (alone a b c d) = 92 ∷ 117 ∷ a ∷ b ∷ c ∷ d ∷ []
character_text (pair a b c d e f g h) = 92 ∷ 117 ∷ a ∷ b ∷ c ∷ d ∷ 92 ∷ 117 ∷ e ∷ f ∷ g ∷ h ∷ []

-- what it stands for, in UTF-8
abbrev pub meaning : Character → List ℕ
meaning (itself c) = c ∷ []
meaning (short l b) = b ∷ []
meaning (alone a b c d) = encode_utf8 (unit_of a b c d)
meaning (pair a b c d e f g h) = encode_utf8 (surrogate_pair_char (unit_of a b c d) (unit_of e f g h))

abbrev pub AreHex : ℕ → ℕ → ℕ → ℕ → Type 0
AreHex a b c d = (is_hex a ≡ true) × (is_hex b ≡ true) × (is_hex c ≡ true) × (is_hex d ≡ true)

abbrev pub is_surrogate : ℕ → Bool
is_surrogate u = is_high_surrogate u || is_low_surrogate u

abbrev pub IsCharacter : Bool → Character → Type 0
IsCharacter limited (itself c) = is_plain c ≡ true
IsCharacter limited (short l b) = short_escape l ≡ Some b
IsCharacter limited (alone a b c d) = AreHex a b c d × (limited ≡ true → is_surrogate (unit_of a b c d) ≡ false)
IsCharacter limited (pair a b c d e f g h) = AreHex a b c d × AreHex e f g h × (is_high_surrogate (unit_of a b c d) ≡ true) × (is_low_surrogate (unit_of e f g h) ≡ true)

-- A first unit and a second one behind it are a pair, and never two units alone.
abbrev pub is_first_alone : Character → Bool
is_first_alone (alone a b c d) = is_high_surrogate (unit_of a b c d)
is_first_alone _ = false

abbrev pub begins_with_second : List Character → Bool
begins_with_second (alone a b c d ∷ cs) = is_low_surrogate (unit_of a b c d)
begins_with_second _ = false

abbrev pub AreCharacters : Bool → List Character → Type 0
AreCharacters limited [] = ⊤
AreCharacters limited (c ∷ cs) = IsCharacter limited c × ((is_first_alone c && begins_with_second cs) ≡ false) × AreCharacters limited cs

-- section 7: string = quotation-mark *char quotation-mark
abbrev pub IsString : Bool → List ℕ → List ℕ → Type 0
IsString limited t bs = (cs : List Character) × AreCharacters limited cs × (t ≡ flat_map meaning cs) × (bs ≡ 34 ∷ flat_map character_text cs ++ 34 ∷ [])

-- section 4: the keys of an object differ
abbrev pub HasUniqueKeys : Members → Type 0
HasUniqueKeys no_members = ⊤
HasUniqueKeys (member k v ms) = (has_key ms k ≡ false) × HasUniqueKeys ms

abbrev mutual
  -- section 3: a value, where so many arrays and objects are open
  pub Spells : Bool → ℕ → Value → List ℕ → Type 0
  Spells limited level null bs = bs ≡ 110 ∷ ull
  Spells limited level (boolean b) bs = bs ≡ (if b then 116 ∷ rue else 102 ∷ alse)
  Spells limited level (number n) bs = IsNumber n bs
  Spells limited level (text t) bs = IsString limited t bs
  Spells limited level (array vs) bs = (inside : List ℕ) × (limited ≡ true → level < depth_limit) × SpellsItems limited (level + 1) vs inside × (bs ≡ 91 ∷ inside ++ 93 ∷ [])
  Spells limited level (object ms) bs = (inside : List ℕ) × (limited ≡ true → level < depth_limit) × (limited ≡ true → HasUniqueKeys ms)
      × SpellsMembers limited (level + 1) ms inside × (bs ≡ 123 ∷ inside ++ 125 ∷ [])

  -- section 5: the items of an array, with white space round each, and a comma between two
  pub SpellsItems : Bool → ℕ → Items → List ℕ → Type 0
  SpellsItems limited level no_items bs = IsSpace bs
  SpellsItems limited level (item v vs) bs = (before core behind more : List ℕ) × IsSpace before × Spells limited level v core × IsSpace behind
      × SpellsMoreItems limited level vs more × (bs ≡ before ++ (core ++ (behind ++ more)))

  pub SpellsMoreItems : Bool → ℕ → Items → List ℕ → Type 0
  SpellsMoreItems limited level no_items bs = bs ≡ []
  SpellsMoreItems limited level (item v vs) bs = (before core behind more : List ℕ) × IsSpace before × Spells limited level v core × IsSpace behind
      × SpellsMoreItems limited level vs more × (bs ≡ 44 ∷ before ++ (core ++ (behind ++ more)))

  -- section 4: the members of an object, with white space round each part, and a comma between two
  pub SpellsMembers : Bool → ℕ → Members → List ℕ → Type 0
  SpellsMembers limited level no_members bs = IsSpace bs
  SpellsMembers limited level (member k v ms) bs = (first key second third core behind more : List ℕ) × IsSpace first × IsString limited k key × IsSpace second × IsSpace third
      × Spells limited level v core × IsSpace behind × SpellsMoreMembers limited level ms more
      × (bs ≡ first ++ (key ++ (second ++ (58 ∷ third ++ (core ++ (behind ++ more))))))

  pub SpellsMoreMembers : Bool → ℕ → Members → List ℕ → Type 0
  SpellsMoreMembers limited level no_members bs = bs ≡ []
  SpellsMoreMembers limited level (member k v ms) bs = (first key second third core behind more : List ℕ) × IsSpace first × IsString limited k key × IsSpace second × IsSpace third
      × Spells limited level v core × IsSpace behind × SpellsMoreMembers limited level ms more
      × (bs ≡ 44 ∷ first ++ (key ++ (second ++ (58 ∷ third ++ (core ++ (behind ++ more))))))

-- section 2: JSON-text = ws value ws
abbrev pub SpellsText : Bool → Value → List ℕ → Type 0
SpellsText limited v bs = (before core behind : List ℕ) × IsSpace before × Spells limited 0 v core × IsSpace behind × (bs ≡ before ++ (core ++ behind))
