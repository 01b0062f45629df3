-- Fronts that grow by one item or member, or close.
use Rattle.std.proofs.Common.{Bool, ◌≡◌, ℕ, ◌≤◌, List, [], ◌∷◌, ◌++◌, length, refl, sym, ap, ◌∙◌, arith, true, append_assoc, ◌<◌, append-nil, ◌⊎◌}
use Rattle.decimal_json.specs.Value.{Value, Items, no_items, item, items_of, Members, no_members, member, members_of, Member, Frame, in_array, in_object, Purpose, is_mark, whole_of}
use Rattle.decimal_json.specs.Characters.{is_space, is_hex, unit_of}
use Rattle.decimal_json.specs.Grammar.{IsSpace, IsString, Spells, SpellsItems, SpellsMoreItems, SpellsMembers, SpellsMoreMembers, Character, character_text, meaning, AreCharacters, AreHex, AreDigits, IsWhole, numerals, negative_text, fraction_text, Sign, sign_text, is_minus}
use Rattle.decimal_json.specs.Fronts.{FrontItems, FrontMembers, Spaced, IsFront, IsKeyFront, IsStringFront, BehindKey, OpensTooDeep, RepeatsKey, LacksPartner}
use Rattle.std.specs.List.{flat_map, AllByRecursion}
use Rattle.std.specs.Char.Utf16.{is_high_surrogate}
use Rattle.decimal_json.specs.inside.Scan.{Spot, wanted, first_item, first_key, key_wanted, colon_wanted, ended, literal, numeral, quoted, Numeral, minus, zero_first, whole, point, fraction, mark, signed, exponent, Quoted, plain, escaped, unit, high, high_escaped, high_unit, Hex, no_digit, one_digit, two_digits, three_digits, Step, next, stop}

pub four : (a b c d e : List ℕ) → a ++ (b ++ (c ++ (d ++ e))) ≡ (a ++ (b ++ (c ++ d))) ++ e
four a b c d e = sym (append_assoc a (b ++ (c ++ d)) e ∙ ap (λ x. a ++ x) (append_assoc b (c ++ d) e ∙ ap (λ x. b ++ x) (append_assoc c d e)))

pub seven : (a b c d f g h e : List ℕ) → a ++ (b ++ (c ++ (58 ∷ d ++ (f ++ (g ++ (h ++ e)))))) ≡ (a ++ (b ++ (c ++ (58 ∷ d ++ (f ++ (g ++ h)))))) ++ e
seven a b c d f g h e = simp append_assoc

pub one_more : (bs a b : List ℕ) (c : ℕ) → bs ≡ a ++ b → bs ++ c ∷ [] ≡ a ++ (b ++ c ∷ [])
one_more bs a b c e = ap (λ x. x ++ c ∷ []) e ∙ append_assoc a b (c ∷ [])

pub each_more : (P : ℕ → Type 0) (xs : List ℕ) (x : ℕ) → AllByRecursion P xs → P x → AllByRecursion P (xs ++ x ∷ [])
each_more P [] x each own = (own, tt)
each_more P (y ∷ ys) x each own = (each.0, each_more P ys x each.1 own)

pub spaced_more : (P : List ℕ → Type 0) (bs : List ℕ) (c : ℕ) → Spaced P bs → is_space c ≡ true → Spaced P (bs ++ c ∷ [])
spaced_more P bs c s e = (s.0, s.1 ++ c ∷ [], s.2, each_more (λ k. is_space k ≡ true) s.1 c s.3 e, one_more bs s.0 s.1 c s.4)

pub spaced_none : (P : List ℕ → Type 0) (bs : List ℕ) → P bs → Spaced P bs
spaced_none P bs p = (bs, [], p, tt, sym (append-nil bs))

pub front_depth : (outer : List Frame) (bs : List ℕ) → IsFront outer bs → length outer ≤ 64
front_depth [] bs f = omega arith
front_depth (in_array vs ∷ outer) bs f = omega (arith, f.2.3)
front_depth (in_object ms k ∷ outer) bs f = omega (arith, f.2.1.2.2.2.3)

-- arrays
pub front_items-push : (limited : Bool) (level : ℕ) (vs : List Value) (inside : List ℕ) (v : Value) (before core behind : List ℕ) → FrontItems limited level vs inside → IsSpace before → Spells limited level v core → IsSpace behind
    → FrontItems limited level (vs ++ v ∷ []) (inside ++ (before ++ (core ++ (behind ++ 44 ∷ []))))
front_items-push limited level [] inside v before core behind f sb s sh = (before, core, behind, [], sb, s, sh, refl, ap (λ i. i ++ (before ++ (core ++ (behind ++ 44 ∷ [])))) f)
front_items-push limited level (w ∷ ws) inside v before core behind f sb s sh =
    let x : List ℕ = before ++ (core ++ (behind ++ 44 ∷ [])) in
    (f.0, f.1, f.2, f.3 ++ x, f.4, f.5, f.6, front_items-push limited level ws f.3 v before core behind f.7 sb s sh, ap (λ i. i ++ x) f.8 ∙ sym (four f.0 f.1 f.2 (44 ∷ f.3) x))

items_behind : (limited : Bool) (level : ℕ) (v : Value) (vs : Items) (bs : List ℕ) → SpellsItems limited level (item v vs) bs → SpellsMoreItems limited level (item v vs) (44 ∷ bs)
items_behind limited level v vs bs h = (h.0, h.1, h.2, h.3, h.4, h.5, h.6, h.7, ap (λ (b : List ℕ). 44 ∷ b) h.8)

-- the same items, with a comma before the first
more_items : (limited : Bool) (level : ℕ) (vs : List Value) (v : Value) (bs : List ℕ) → SpellsItems limited level (items_of (vs ++ v ∷ [])) bs → SpellsMoreItems limited level (items_of (vs ++ v ∷ [])) (44 ∷ bs)
more_items limited level [] v bs h = items_behind limited level v no_items bs h
more_items limited level (w ∷ ws) v bs h = items_behind limited level w (items_of (ws ++ v ∷ [])) bs h

pub items_close : (limited : Bool) (level : ℕ) (vs : List Value) (inside : List ℕ) (v : Value) (before core behind : List ℕ) → FrontItems limited level vs inside → IsSpace before → Spells limited level v core → IsSpace behind
    → SpellsItems limited level (items_of (vs ++ v ∷ [])) (inside ++ (before ++ (core ++ behind)))
items_close limited level [] inside v before core behind f sb s sh = grind (arith, append-nil, f, sb, s, sh)
items_close limited level (w ∷ ws) inside v before core behind f sb s sh =
    let x : List ℕ = before ++ (core ++ behind) in
    let more = more_items limited level ws v (f.3 ++ x) (items_close limited level ws f.3 v before core behind f.7 sb s sh) in
    (f.0, f.1, f.2, 44 ∷ f.3 ++ x, f.4, f.5, f.6, more, ap (λ i. i ++ x) f.8 ∙ sym (four f.0 f.1 f.2 (44 ∷ f.3) x))

-- objects
pub front_members-push : (limited : Bool) (level : ℕ) (ms : List Member) (inside : List ℕ) (k : List ℕ) (v : Value) (first key second third core behind : List ℕ) → FrontMembers limited level ms inside
    → IsSpace first → IsString limited k key → IsSpace second → IsSpace third → Spells limited level v core → IsSpace behind
    → FrontMembers limited level (ms ++ (k, v) ∷ []) (inside ++ (first ++ (key ++ (second ++ (58 ∷ third ++ (core ++ (behind ++ 44 ∷ [])))))))
front_members-push limited level [] inside k v first key second third core behind f s1 sk s2 s3 s s4 =
    (first, key, second, third, core, behind, [], s1, sk, s2, s3, s, s4, refl, ap (λ i. i ++ (first ++ (key ++ (second ++ (58 ∷ third ++ (core ++ (behind ++ 44 ∷ []))))))) f)
front_members-push limited level (m ∷ ms) inside k v first key second third core behind f s1 sk s2 s3 s s4 =
    let x : List ℕ = first ++ (key ++ (second ++ (58 ∷ third ++ (core ++ (behind ++ 44 ∷ []))))) in
    let more = front_members-push limited level ms f.6 k v first key second third core behind f.13 s1 sk s2 s3 s s4 in
    let same = ap (λ (i : List ℕ). i ++ x) f.14 ∙ sym (seven f.0 f.1 f.2 f.3 f.4 f.5 (44 ∷ f.6) x) in
    (f.0, f.1, f.2, f.3, f.4, f.5, f.6 ++ x, f.7, f.8, f.9, f.10, f.11, f.12, more, same)

members_behind : (limited : Bool) (level : ℕ) (k : List ℕ) (v : Value) (ms : Members) (bs : List ℕ) → SpellsMembers limited level (member k v ms) bs → SpellsMoreMembers limited level (member k v ms) (44 ∷ bs)
members_behind limited level k v ms bs h = (h.0, h.1, h.2, h.3, h.4, h.5, h.6, h.7, h.8, h.9, h.10, h.11, h.12, h.13, ap (λ (b : List ℕ). 44 ∷ b) h.14)

-- the same members, with a comma before the first
more_members : (limited : Bool) (level : ℕ) (ms : List Member) (m : Member) (bs : List ℕ) → SpellsMembers limited level (members_of (ms ++ m ∷ [])) bs → SpellsMoreMembers limited level (members_of (ms ++ m ∷ [])) (44 ∷ bs)
more_members limited level [] m bs h = members_behind limited level m.0 m.1 no_members bs h
more_members limited level (n ∷ ns) m bs h = members_behind limited level n.0 n.1 (members_of (ns ++ m ∷ [])) bs h

pub members_close : (limited : Bool) (level : ℕ) (ms : List Member) (inside : List ℕ) (k : List ℕ) (v : Value) (first key second third core behind : List ℕ) → FrontMembers limited level ms inside
    → IsSpace first → IsString limited k key → IsSpace second → IsSpace third → Spells limited level v core → IsSpace behind
    → SpellsMembers limited level (members_of (ms ++ (k, v) ∷ [])) (inside ++ (first ++ (key ++ (second ++ (58 ∷ third ++ (core ++ behind))))))
members_close limited level [] inside k v first key second third core behind f s1 sk s2 s3 s s4 =
    let x : List ℕ = first ++ (key ++ (second ++ (58 ∷ third ++ (core ++ behind)))) in
    let same = ap (λ (i : List ℕ). i ++ x) f ∙ ap (λ (b : List ℕ). first ++ (key ++ (second ++ (58 ∷ third ++ (core ++ b))))) (sym (append-nil behind)) in
    (first, key, second, third, core, behind, [], s1, sk, s2, s3, s, s4, refl, same)
members_close limited level (m ∷ ms) inside k v first key second third core behind f s1 sk s2 s3 s s4 =
    let x : List ℕ = first ++ (key ++ (second ++ (58 ∷ third ++ (core ++ behind)))) in
    let more = more_members limited level ms (k, v) (f.6 ++ x) (members_close limited level ms f.6 k v first key second third core behind f.13 s1 sk s2 s3 s s4) in
    let same = ap (λ (i : List ℕ). i ++ x) f.14 ∙ sym (seven f.0 f.1 f.2 f.3 f.4 f.5 (44 ∷ f.6) x) in
    (f.0, f.1, f.2, f.3, f.4, f.5, 44 ∷ f.6 ++ x, f.7, f.8, f.9, f.10, f.11, f.12, more, same)

-- ---- What the bytes so far are, at each spot of the machine.
-- a front, and a value behind it
abbrev pub BehindValue : List Frame → Value → List ℕ → Type 0
BehindValue outer v bs = (front core : List ℕ) × IsFront outer front × Spells true (length outer) v core × (bs ≡ front ++ core)

-- digits that more digits may follow
abbrev pub IsOpenWhole : List ℕ → Type 0
IsOpenWhole [] = ⊥
IsOpenWhole (d ∷ ds) = (0 < d) × AreDigits (d ∷ ds)

abbrev pub IsSomeDigits : List ℕ → Type 0
IsSomeDigits [] = ⊥
IsSomeDigits (d ∷ ds) = AreDigits (d ∷ ds)

-- the bytes of a number so far
abbrev pub NumeralText : Numeral → List ℕ → Type 0
NumeralText minus bs = bs ≡ 45 ∷ []
NumeralText (zero_first n) bs = bs ≡ negative_text n ++ 48 ∷ []
NumeralText (whole n ds) bs = IsOpenWhole ds × (bs ≡ negative_text n ++ numerals ds)
NumeralText (point n ds) bs = IsWhole ds × (bs ≡ (negative_text n ++ numerals ds) ++ 46 ∷ [])
NumeralText (fraction n ds fs) bs = IsWhole ds × IsSomeDigits fs × (bs ≡ (negative_text n ++ numerals ds) ++ (46 ∷ numerals fs))
NumeralText (mark n ds fs) bs = (m : ℕ) × IsWhole ds × AreDigits fs × (is_mark m ≡ true) × (bs ≡ ((negative_text n ++ numerals ds) ++ fraction_text fs) ++ m ∷ [])
NumeralText (signed n ds fs down) bs = (m : ℕ) × (s : Sign) × IsWhole ds × AreDigits fs × (is_mark m ≡ true) × (down ≡ is_minus s)
    × (bs ≡ ((negative_text n ++ numerals ds) ++ fraction_text fs) ++ (m ∷ sign_text s))
NumeralText (exponent n ds fs down w) bs = (m : ℕ) × (s : Sign) × (d : ℕ) × (es : List ℕ) × IsWhole ds × AreDigits fs × (is_mark m ≡ true) × (down ≡ is_minus s) × AreDigits (d ∷ es)
    × (w ≡ whole_of (d ∷ es)) × (bs ≡ ((negative_text n ++ numerals ds) ++ fraction_text fs) ++ ((m ∷ sign_text s) ++ numerals (d ∷ es)))

abbrev pub hex_text : Hex → List ℕ
hex_text no_digit = []
hex_text (one_digit a) = a ∷ []
hex_text (two_digits a b) = a ∷ b ∷ []
hex_text (three_digits a b c) = a ∷ b ∷ c ∷ []

abbrev pub AreHexSoFar : Hex → Type 0
AreHexSoFar no_digit = Unit {0}
AreHexSoFar (one_digit a) = is_hex a ≡ true
AreHexSoFar (two_digits a b) = (is_hex a ≡ true) × (is_hex b ≡ true)
AreHexSoFar (three_digits a b c) = (is_hex a ≡ true) × (is_hex b ≡ true) × (is_hex c ≡ true)

-- a front, its first quote and whole characters
pub record InString (outer : List Frame) (p : Purpose) (t base : List ℕ) : Type 0 where
  pub front : List ℕ
  pub cs : List Character
  pub is_front : IsStringFront outer p front
  pub are : AreCharacters true cs
  pub text : t ≡ flat_map meaning cs
  pub is : base ≡ front ++ 34 ∷ flat_map character_text cs

-- a string so far
abbrev pub QuotedText : List Frame → Purpose → Quoted → List ℕ → Type 0
QuotedText outer p (plain t) bs = InString outer p t bs
QuotedText outer p (escaped t back) bs = (base : List ℕ) × InString outer p t base × (back ≡ length base) × (bs ≡ base ++ 92 ∷ [])
QuotedText outer p (unit t back h) bs = (base : List ℕ) × InString outer p t base × (back ≡ length base) × AreHexSoFar h × (bs ≡ base ++ (92 ∷ 117 ∷ hex_text h))
QuotedText outer p (high t back u) bs = (base : List ℕ) × (a b c d : ℕ) × InString outer p t base × (back ≡ length base) × AreHex a b c d × (u ≡ unit_of a b c d) × (is_high_surrogate u ≡ true)
    × (bs ≡ base ++ (92 ∷ 117 ∷ a ∷ b ∷ c ∷ d ∷ []))
QuotedText outer p (high_escaped t back u) bs = (base : List ℕ) × (a b c d : ℕ) × InString outer p t base × (back ≡ length base) × AreHex a b c d × (u ≡ unit_of a b c d) × (is_high_surrogate u ≡ true)
    × (bs ≡ base ++ (92 ∷ 117 ∷ a ∷ b ∷ c ∷ d ∷ 92 ∷ []))
QuotedText outer p (high_unit t back u h) bs = (base : List ℕ) × (a b c d : ℕ) × InString outer p t base × (back ≡ length base) × AreHex a b c d × (u ≡ unit_of a b c d) × (is_high_surrogate u ≡ true)
    × AreHexSoFar h × (bs ≡ base ++ (92 ∷ 117 ∷ a ∷ b ∷ c ∷ d ∷ 92 ∷ 117 ∷ hex_text h))

-- bytes that are ASCII
abbrev pub AreAscii : List ℕ → Type 0
AreAscii bs = AllByRecursion (λ c. c < 128) bs

-- a literal so far, and the letters that must come
pub record LiteralText (outer : List Frame) (v : Value) (ls bs : List ℕ) : Type 0 where
  pub front : List ℕ
  pub begun : List ℕ
  pub is_front : IsFront outer front
  pub spells : Spells true (length outer) v (begun ++ ls)
  pub ascii : AreAscii ls
  pub is : bs ≡ front ++ begun

abbrev pub Stands : List Frame → Spot → List ℕ → Type 0
Stands outer wanted bs = IsFront outer bs
Stands outer first_item bs = IsFront (in_array [] ∷ outer) bs
Stands outer first_key bs = IsKeyFront outer [] bs
Stands outer (key_wanted ms) bs = IsKeyFront outer ms bs
Stands outer (colon_wanted ms k) bs = Spaced (BehindKey (IsFront outer) (length outer) ms k) bs
Stands outer (ended v) bs = Spaced (BehindValue outer v) bs
Stands outer (literal v ls) bs = LiteralText outer v ls bs
Stands outer (numeral n) bs = (front begun : List ℕ) × IsFront outer front × NumeralText n begun × (bs ≡ front ++ begun)
Stands outer (quoted p q) bs = QuotedText outer p q bs

-- what a fault is a fault of, where the machine stands at a place
abbrev pub Caught : List ℕ → ℕ → ℕ → ℕ → Type 0
Caught bytes here k kind = ((kind ≡ 2) × (k ≡ here)) ⊎ (((kind ≡ 3) × OpensTooDeep bytes k) ⊎ (((kind ≡ 4) × RepeatsKey bytes k) ⊎ ((kind ≡ 5) × LacksPartner bytes k)))

-- a step is sound
abbrev pub Good : Step → List ℕ → ℕ → Type 0
Good (next o s) bs c = Stands o s (bs ++ c ∷ [])
Good (stop k kind) bs c = (cs : List ℕ) → Caught (bs ++ c ∷ cs) (length bs) k kind
