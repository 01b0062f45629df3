-- Fronts of JSON texts, within the limits: the bytes up to a place, by what is open there.
use Rattle.std.specs.Prelude.{Bool, ◌≡◌, ℕ, ◌+◌, ◌<◌, true, false, List, [], ◌∷◌, ◌++◌, length, ◌⊎◌}
use Rattle.std.specs.List.{flat_map}
use Rattle.std.specs.Char.Utf16.{is_low_surrogate, is_high_surrogate}
use Rattle.decimal_json.specs.Value.{Value, members_of, has_key, Member, Frame, in_array, in_object, Purpose, for_value, for_key}
use Rattle.decimal_json.specs.Characters.{unit_of, depth_limit}
use Rattle.decimal_json.specs.Grammar.{IsSpace, Spells, IsString, HasUniqueKeys, Character, character_text, AreCharacters, AreHex}

-- items, with a comma behind each
abbrev pub FrontItems : Bool → ℕ → List Value → List ℕ → Type 0
FrontItems limited level [] bs = bs ≡ []
FrontItems limited level (v ∷ vs) bs = (before core behind more : List ℕ) × IsSpace before × Spells limited level v core × IsSpace behind × FrontItems limited level vs more
    × (bs ≡ before ++ (core ++ (behind ++ 44 ∷ more)))

-- members, with a comma behind each
abbrev pub FrontMembers : Bool → ℕ → List Member → List ℕ → Type 0
FrontMembers limited level [] bs = bs ≡ []
FrontMembers limited level (m ∷ ms) bs = (first key second third core behind more : List ℕ) × IsSpace first × IsString limited m.0 key × IsSpace second × IsSpace third
    × Spells limited level m.1 core × IsSpace behind × FrontMembers limited level ms more × (bs ≡ first ++ (key ++ (second ++ (58 ∷ third ++ (core ++ (behind ++ 44 ∷ more))))))

-- a front, and white space
abbrev pub Spaced : (List ℕ → Type 0) → List ℕ → Type 0
Spaced P bs = (base space : List ℕ) × P base × IsSpace space × (bs ≡ base ++ space)

-- the front up to an array's bracket, and the items that came, each with its comma
abbrev pub InArray : (List ℕ → Type 0) → ℕ → List Value → List ℕ → Type 0
InArray Front level vs bs = (front inside : List ℕ) × Front front × (level < depth_limit) × FrontItems true (level + 1) vs inside × (bs ≡ front ++ 91 ∷ inside)

-- the front up to an object's bracket, and the members that came, each with its comma; their keys differ
abbrev pub InObject : (List ℕ → Type 0) → ℕ → List Member → List ℕ → Type 0
InObject Front level ms bs = (front inside : List ℕ) × Front front × (level < depth_limit) × FrontMembers true (level + 1) ms inside × HasUniqueKeys (members_of ms)
    × (bs ≡ front ++ 123 ∷ inside)

-- and a key that is none of theirs
abbrev pub BehindKey : (List ℕ → Type 0) → ℕ → List Member → List ℕ → List ℕ → Type 0
BehindKey Front level ms k bs = (front key : List ℕ) × Spaced (InObject Front level ms) front × IsString true k key × (has_key (members_of ms) k ≡ false) × (bs ≡ front ++ key)

-- and its colon
abbrev pub BehindColon : (List ℕ → Type 0) → ℕ → List Member → List ℕ → List ℕ → Type 0
BehindColon Front level ms k bs = (front : List ℕ) × Spaced (BehindKey Front level ms k) front × (bs ≡ front ++ 58 ∷ [])

-- the front up to where a value may begin, behind white space, inside these arrays and objects
abbrev pub IsFront : List Frame → List ℕ → Type 0
IsFront [] bs = IsSpace bs
IsFront (in_array vs ∷ outer) bs = Spaced (InArray (IsFront outer) (length outer) vs) bs
IsFront (in_object ms k ∷ outer) bs = Spaced (BehindColon (IsFront outer) (length outer) ms k) bs

-- the front up to where a key may begin, behind these members
abbrev pub IsKeyFront : List Frame → List Member → List ℕ → Type 0
IsKeyFront outer ms bs = Spaced (InObject (IsFront outer) (length outer) ms) bs

-- the front up to where a string may begin
abbrev pub IsStringFront : List Frame → Purpose → List ℕ → Type 0
IsStringFront outer for_value bs = IsFront outer bs
IsStringFront outer (for_key ms at) bs = IsKeyFront outer ms bs × (at ≡ length bs)

-- At a place stands a bracket that opens level 65.
abbrev pub OpensTooDeep : List ℕ → ℕ → Type 0
OpensTooDeep bytes at = (outer : List Frame) × (front : List ℕ) × (bracket : ℕ) × (more : List ℕ) × IsFront outer front × (length outer ≡ depth_limit) × ((bracket ≡ 91) ⊎ (bracket ≡ 123))
    × (at ≡ length front) × (bytes ≡ front ++ bracket ∷ more)

-- At a place begins a key, whole, that its object already has.
abbrev pub RepeatsKey : List ℕ → ℕ → Type 0
RepeatsKey bytes at = (outer : List Frame) × (ms : List Member) × (front key k more : List ℕ) × IsKeyFront outer ms front × IsString true k key × (has_key (members_of ms) k ≡ true)
    × (at ≡ length front) × (bytes ≡ front ++ (key ++ more))

-- No escape of the second unit of a pair comes next.
abbrev pub LacksSecond : List ℕ → Type 0
LacksSecond more = (a b c d : ℕ) (rest : List ℕ) → AreHex a b c d → is_low_surrogate (unit_of a b c d) ≡ true → more ≡ 92 ∷ 117 ∷ a ∷ b ∷ c ∷ d ∷ rest → ⊥

-- At a place in a string stands a whole escape of one unit of a pair, the second, or the first with no second behind it.
abbrev pub LacksPartner : List ℕ → ℕ → Type 0
LacksPartner bytes at = (outer : List Frame) × (p : Purpose) × (front : List ℕ) × (cs : List Character) × (a b c d : ℕ) × (more : List ℕ) × IsStringFront outer p front × AreCharacters true cs × AreHex a b c d
    × ((is_low_surrogate (unit_of a b c d) ≡ true) ⊎ ((is_high_surrogate (unit_of a b c d) ≡ true) × LacksSecond more))
    × (at ≡ length (front ++ 34 ∷ flat_map character_text cs)) × (bytes ≡ (front ++ 34 ∷ flat_map character_text cs) ++ 92 ∷ 117 ∷ a ∷ b ∷ c ∷ d ∷ more)
