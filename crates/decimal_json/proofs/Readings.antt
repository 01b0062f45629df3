-- What is spelled within the limits is spelled without them.
use Rattle.std.proofs.Common.{ℕ, List, [], ◌∷◌, true, false, ◌≡◌, ◌+◌, suc, ◌++◌, length, refl, sym, ap, subst, ◌∙◌, arith, Bool, append_assoc, ⊎_elim, lit<, ◌==◌, ◌<◌, ◌≤◌, zero, cond, take, get_or, Option, Some, None, length-append, inl, inr, ◌⊎◌, Result, Ok, Err, nat_le}
use Rattle.std.proofs.lemmas.Bool.{false≢true, cases_Bool, and_left, and_right, cond-false, cond_both, cases_lt, cases_order}
use Rattle.decimal_json.specs.Value.{Value, number, text, array, object, Items, no_items, item, Members, no_members, member, items_of, members_of, Member, Frame, in_array, in_object, Purpose, for_value, for_key, decimal_from, is_digit, is_mark}
use Rattle.decimal_json.specs.Grammar.{Character, short, alone, pair, IsCharacter, AreCharacters, IsString, Spells, SpellsItems, SpellsMoreItems, SpellsMembers, SpellsMoreMembers, SpellsText, IsSpace, character_text, meaning, AreHex, is_first_alone, begins_with_second, IsWhole, AreDigits, numerals, negative_text, fraction_text, Power, no_power, power, power_text, is_down, written, IsPower, no_sign, sign_text}
use Rattle.decimal_json.specs.Fronts.{FrontItems, FrontMembers, Spaced, IsFront, IsKeyFront}
use Rattle.std.specs.List.{flat_map}
use Rattle.std.specs.Char.Utf16.{is_low_surrogate, is_high_surrogate}
use Rattle.std.proofs.lemmas.List.{append-nil, take_more, length-take-le, take_at, get_or_at}
use Rattle.decimal_json.specs.Characters.{unit_of, is_hex, short_escape, is_space}
use Rattle.decimal_json.specs.inside.Scan.{Spot, wanted, first_item, first_key, key_wanted, colon_wanted, ended, literal, numeral, quoted, Numeral, minus, zero_first, whole, point, fraction, mark, signed, exponent, Quoted, plain, escaped, unit, high, high_escaped, high_unit, no_digit, one_digit, two_digits, three_digits, Step, next, stop, fault, step, begin_step, ended_step, close_step, literal_step, numeral_step, quoted_step, escape_step, after, outcome, whole_outcome, finish, done, Outcome, Gives}
use Rattle.decimal_json.proofs.Growth.{items_close, members_close, BehindValue, InString, QuotedText, NumeralText, Stands, AreAscii, Caught, Good}
use Rattle.decimal_json.proofs.SoundValues.{open_whole, whole_text, fraction_end, power_end, some_digits, none_alone, good_step, Stops, IsSound, is_sound, at_level, high_of}
use Rattle.std.specs.Str.{IsUtf8, IsCharBoundary, IsAscii, IsValidUpTo}
use Rattle.std.proofs.lemmas.Str.{IsCharBoundary-start, IsCharBoundary-after_ascii, IsUtf8-append, IsUtf8-take, IsUtf8-from_ascii}
use Rattle.decimal_json.specs.Reading.{At, JsonFault, NoMemory, IsNoJson, IsText, IsTextFault, IsFault, HasCause}
use Rattle.decimal_json.proofs.Moves.{Refuses}
use Rattle.decimal_json.proofs.RunValues.{text_arrives}
use Rattle.decimal_json.proofs.RunFaults.{deep_fault, repeated_fault, lacks_fault}
use Rattle.std.specs.Result.{MatchResult, IfOk, IfErr}
use Rattle.std.proofs.lemmas.List.Concat.{flat_map-append}
use Rattle.decimal_json.specs.View.{Json, view}

weaker_character : (c : Character) → IsCharacter true c → IsCharacter false c
weaker_character (alone a b c d) is = (is.0, λ e. absurd (false≢true e))
weaker_character _ is = is

pub weaker_characters : (cs : List Character) → AreCharacters true cs → AreCharacters false cs
weaker_characters [] are = tt
weaker_characters (c ∷ cs) are = (weaker_character c are.0, are.1, weaker_characters cs are.2)

pub weaker_string : (t bs : List ℕ) → IsString true t bs → IsString false t bs
weaker_string t bs s = (s.0, weaker_characters s.0 s.1, s.2, s.3)

mutual
  pub weaker : (level : ℕ) (v : Value) (bs : List ℕ) → Spells true level v bs → Spells false level v bs
  weaker level (text t) bs s = weaker_string t bs s
  weaker level (array vs) bs s = (s.0, λ e. absurd (false≢true e), weaker_items _ vs s.0 s.2, s.3)
  weaker level (object ms) bs s = (s.0, λ e. absurd (false≢true e), λ e. absurd (false≢true e), weaker_members _ ms s.0 s.3, s.4)
  weaker level _ bs s = s

  weaker_items : (level : ℕ) (vs : Items) (bs : List ℕ) → SpellsItems true level vs bs → SpellsItems false level vs bs
  weaker_items level no_items bs s = s
  weaker_items level (item v vs) bs s = (s.0, s.1, s.2, s.3, s.4, weaker level v s.1 s.5, s.6, weaker_more_items level vs s.3 s.7, s.8)

  weaker_more_items : (level : ℕ) (vs : Items) (bs : List ℕ) → SpellsMoreItems true level vs bs → SpellsMoreItems false level vs bs
  weaker_more_items level no_items bs s = s
  weaker_more_items level (item v vs) bs s = (s.0, s.1, s.2, s.3, s.4, weaker level v s.1 s.5, s.6, weaker_more_items level vs s.3 s.7, s.8)

  weaker_members : (level : ℕ) (ms : Members) (bs : List ℕ) → SpellsMembers true level ms bs → SpellsMembers false level ms bs
  weaker_members level no_members bs s = s
  weaker_members level (member k v ms) bs s =
      (s.0, s.1, s.2, s.3, s.4, s.5, s.6, s.7, weaker_string k s.1 s.8, s.9, s.10, weaker level v s.4 s.11, s.12, weaker_more_members level ms s.6 s.13, s.14)

  weaker_more_members : (level : ℕ) (ms : Members) (bs : List ℕ) → SpellsMoreMembers true level ms bs → SpellsMoreMembers false level ms bs
  weaker_more_members level no_members bs s = s
  weaker_more_members level (member k v ms) bs s =
      (s.0, s.1, s.2, s.3, s.4, s.5, s.6, s.7, weaker_string k s.1 s.8, s.9, s.10, weaker level v s.4 s.11, s.12, weaker_more_members level ms s.6 s.13, s.14)

pub weaker_front_items : (level : ℕ) (vs : List Value) (bs : List ℕ) → FrontItems true level vs bs → FrontItems false level vs bs
weaker_front_items level [] bs f = f
weaker_front_items level (v ∷ vs) bs f = (f.0, f.1, f.2, f.3, f.4, weaker level v f.1 f.5, f.6, weaker_front_items level vs f.3 f.7, f.8)

pub weaker_front_members : (level : ℕ) (ms : List Member) (bs : List ℕ) → FrontMembers true level ms bs → FrontMembers false level ms bs
weaker_front_members level [] bs f = f
weaker_front_members level (m ∷ ms) bs f =
    (f.0, f.1, f.2, f.3, f.4, f.5, f.6, f.7, weaker_string m.0 f.1 f.8, f.9, f.10, weaker level m.1 f.4 f.11, f.12, weaker_front_members level ms f.6 f.13, f.14)

-- ---- What stands at a spot of the machine is the front of some JSON text.
-- a text that begins with these bytes, and what is left of it, which is ASCII
abbrev pub Begins : List ℕ → Type 0
Begins bs = (w : Value) × (rest : List ℕ) × SpellsText false w (bs ++ rest) × AreAscii rest

abbrev Completes : List ℕ → List ℕ → Type 0
Completes front last = (w : Value) × (rest : List ℕ) × SpellsText false w (front ++ (last ++ rest)) × AreAscii rest

ascii-append : (xs ys : List ℕ) → AreAscii xs → AreAscii ys → AreAscii (xs ++ ys)
ascii-append [] ys a b = b
ascii-append (x ∷ xs) ys a b = (a.0, ascii-append xs ys a.1 b)

completes_as : (xs ys : List ℕ) (w : Value) → xs ≡ ys → SpellsText false w xs → SpellsText false w ys
completes_as xs ys w e s = subst (λ (x : List ℕ). SpellsText false w x) e s

no_limit : {P : Type 0} → false ≡ true → P
no_limit e = absurd (false≢true e)

array_regroup : (f i s c b x r : List ℕ) → f ++ (i ++ ((s ++ (c ++ b)) ++ (x ++ r))) ≡ ((f ++ i) ++ s) ++ (c ++ (b ++ (x ++ r)))
array_regroup f i s c b x r = simp append_assoc

array_inside : (i s c b x r : List ℕ) → ((i ++ (s ++ (c ++ b))) ++ x) ++ r ≡ i ++ ((s ++ (c ++ b)) ++ (x ++ r))
array_inside i s c b x r = simp append_assoc

object_regroup : (f i a k b m t c d x r : List ℕ) → f ++ (i ++ ((a ++ (k ++ (b ++ (m ++ (t ++ (c ++ d)))))) ++ (x ++ r))) ≡ ((f ++ i) ++ a) ++ (k ++ (b ++ (m ++ (t ++ (c ++ (d ++ (x ++ r)))))))
object_regroup f i a k b m t c d x r = simp append_assoc

object_inside : (i a k b m t c d x r : List ℕ) → ((i ++ (a ++ (k ++ (b ++ (m ++ (t ++ (c ++ d))))))) ++ x) ++ r ≡ i ++ ((a ++ (k ++ (b ++ (m ++ (t ++ (c ++ d)))))) ++ (x ++ r))
object_inside i a k b m t c d x r = simp append_assoc

-- an object that closes behind a member, where what is outside can be closed
object_close : (outer : List Frame) (f0 inside : List ℕ) (ms : List Member) (k : List ℕ) (v : Value) (first key second third core behind : List ℕ)
    → ((w : Value) (bs : List ℕ) → Spells false (length outer) w bs → Completes f0 bs)
    → FrontMembers true (length outer + 1) ms inside → IsSpace first → IsString false k key → IsSpace second → IsSpace third → Spells false (length outer + 1) v core → IsSpace behind
    → (w : Value) × (rest : List ℕ) × SpellsText false w (((f0 ++ 123 ∷ inside) ++ first) ++ (key ++ (second ++ (58 ∷ third ++ (core ++ (behind ++ 125 ∷ rest)))))) × AreAscii rest
object_close outer f0 inside ms k v first key second third core behind closes members s1 sk s2 s3 s s4 =
    let inner : List ℕ = inside ++ (first ++ (key ++ (second ++ (58 ∷ third ++ (core ++ behind))))) in
    let r = closes (object (members_of (ms ++ (k, v) ∷ []))) (123 ∷ inner ++ 125 ∷ [])
    (inner, (λ e. no_limit e), (λ e. no_limit e), members_close false (length outer + 1) ms inside k v first key second third core behind (weaker_front_members (length outer + 1) ms inside members) s1 sk s2 s3 s s4, refl) in (
      r.0,
      r.1,
      completes_as (f0 ++ ((123 ∷ inner ++ 125 ∷ []) ++ r.1)) _ r.0
          (ap (λ x. f0 ++ (123 ∷ x)) (object_inside inside first key second (58 ∷ []) third core behind (125 ∷ []) r.1)
          ∙ object_regroup f0 (123 ∷ inside) first key second (58 ∷ []) third core behind (125 ∷ []) r.1) r.2,
      r.3,
    )

close : (outer : List Frame) (front : List ℕ) → IsFront outer front → (v : Value) (core behind : List ℕ) → Spells false (length outer) v core → IsSpace behind
    → (w : Value) × (rest : List ℕ) × SpellsText false w (front ++ (core ++ (behind ++ rest))) × AreAscii rest
close [] front f v core behind s sp = (v, [], (front, core, behind ++ [], f, s, subst (λ (x : List ℕ). IsSpace x) (sym (append-nil behind)) sp, refl), tt)
close (in_array vs ∷ outer) front f v core behind s sp =
    let a = f.2 in
    let inner : List ℕ = a.1 ++ (f.1 ++ (core ++ behind)) in
    let r = close outer a.0 a.2 (array (items_of (vs ++ v ∷ []))) (91 ∷ inner ++ 93 ∷ []) []
    (inner, (λ e. no_limit e), items_close false (length outer + 1) vs a.1 v f.1 core behind (weaker_front_items (length outer + 1) vs a.1 a.4) f.3 (at_level false (length outer) v core s) sp, refl) tt in (
      r.0,
      93 ∷ r.1,
      completes_as (a.0 ++ ((91 ∷ inner ++ 93 ∷ []) ++ r.1)) _ r.0
          (ap (λ x. a.0 ++ (91 ∷ x)) (array_inside a.1 f.1 core behind (93 ∷ []) r.1) ∙ (array_regroup a.0 (91 ∷ a.1) f.1 core behind (93 ∷ []) r.1
          ∙ ap (λ x. x ++ (core ++ (behind ++ 93 ∷ r.1))) (sym (f.4 ∙ ap (λ y. y ++ f.1) a.5)))) r.2,
      (lit< tt, r.3),
    )
close (in_object ms k ∷ outer) front f v core behind s sp =
    let colon = f.2 in
    let keyed = colon.1.2 in
    let o = keyed.2.2 in
    let r = object_close outer o.0 o.1 ms k v keyed.2.1 keyed.1 colon.1.1 f.1 core behind
    (λ w bs t. let q = close outer o.0 o.2 w bs [] t tt in (q.0, q.1, q.2, q.3))
    o.4 keyed.2.3 (weaker_string k keyed.1 keyed.3) colon.1.3 f.3 (at_level false (length outer) v core s) sp in (
      r.0,
      125 ∷ r.1,
      completes_as _ (front ++ (core ++ (behind ++ 125 ∷ r.1))) r.0
          (regroup ((o.0 ++ 123 ∷ o.1) ++ keyed.2.1) keyed.1 colon.1.1 (58 ∷ []) f.1 (core ++ (behind ++ 125 ∷ r.1))
          ∙ ap (λ x. x ++ (core ++ (behind ++ 125 ∷ r.1)))
          (sym (f.4 ∙ ap (λ x. x ++ f.1) (colon.2 ∙ ap (λ x. x ++ 58 ∷ []) (colon.1.4 ∙ ap (λ x. x ++ colon.1.1) (keyed.5 ∙ ap (λ x. x ++ keyed.1) (keyed.2.4 ∙ ap (λ x. x ++ keyed.2.1) o.6))))))) r.2,
      (lit< tt, r.3),
    )
  where
    regroup : (p k b m t e : List ℕ) → p ++ (k ++ (b ++ (m ++ (t ++ e)))) ≡ ((((p ++ k) ++ b) ++ m) ++ t) ++ e
    regroup p k b m t e = simp append_assoc

-- a number that stands for any value
zero_spells : (limited : Bool) (level : ℕ) → Spells limited level (number (decimal_from false (0 ∷ []) [] false 0)) (48 ∷ [])
zero_spells limited level = record { negative = false; ds = 0 ∷ []; fs = []; exponent = no_power; is_whole = lit< tt; are_digits = tt; is_power = tt; value = refl; spelled = refl }

front_begins : (outer : List Frame) (front : List ℕ) → IsFront outer front → Begins front
front_begins outer front f = let r = close outer front f (number (decimal_from false (0 ∷ []) [] false 0)) (48 ∷ []) [] (zero_spells false (length outer)) tt in (r.0, 48 ∷ r.1, r.2, (lit< tt, r.3))

-- a token that its bytes begin
token_begins : (outer : List Frame) (front begun filler bs : List ℕ) (v : Value) → IsFront outer front → Spells false (length outer) v (begun ++ filler) → bs ≡ front ++ begun → AreAscii filler → Begins bs
token_begins outer front begun filler bs v f s e ascii =
    let r = close outer front f v (begun ++ filler) [] s tt in
    (r.0, filler ++ r.1, completes_as (front ++ ((begun ++ filler) ++ r.1)) (bs ++ (filler ++ r.1)) r.0 (rw e (simp append_assoc)) r.2, ascii-append filler r.1 ascii r.3)

-- a key that its bytes begin, or a key and white space
key_begins : (outer : List Frame) (ms : List Member) (front begun filler key space bs k : List ℕ) → IsKeyFront outer ms front → IsString false k key → IsSpace space → begun ++ filler ≡ key ++ space
    → bs ≡ front ++ begun → AreAscii filler → Begins bs
key_begins outer ms front begun filler key space bs k f s sp same e ascii =
    let o = f.2 in
    let r = object_close outer o.0 o.1 ms k (number (decimal_from false (0 ∷ []) [] false 0)) f.1 key space [] (48 ∷ []) []
    (λ w xs t. let q = close outer o.0 o.2 w xs [] t tt in (q.0, q.1, q.2, q.3)) o.4 f.3 s sp tt (zero_spells false (length outer + 1)) tt in
    let last : List ℕ = 58 ∷ 48 ∷ 125 ∷ r.1 in
    let before : List ℕ = (o.0 ++ 123 ∷ o.1) ++ f.1 in (
      r.0,
      filler ++ last,
      completes_as (before ++ (key ++ (space ++ last))) (bs ++ (filler ++ last)) r.0
          (ap (λ x. before ++ x) (sym (append_assoc key space last) ∙ ap (λ x. x ++ last) (sym same)) ∙ (regroup before begun filler last
          ∙ ap (λ x. x ++ (filler ++ last)) (sym (e ∙ ap (λ x. x ++ begun) (f.4 ∙ ap (λ x. x ++ f.1) o.6))))) r.2,
      ascii-append filler last ascii (lit< tt, (lit< tt, (lit< tt, r.3))),
    )
  where
    regroup : (a b c d : List ℕ) → a ++ ((b ++ c) ++ d) ≡ (a ++ b) ++ (c ++ d)
    regroup a b c d = simp append_assoc

colon_begins : (outer : List Frame) (ms : List Member) (k bs : List ℕ) → Stands outer (colon_wanted ms k) bs → Begins bs
colon_begins outer ms k bs s = let keyed = s.2 in
    key_begins outer ms keyed.0 (keyed.1 ++ s.1) [] keyed.1 s.1 bs k keyed.2 (weaker_string k keyed.1 keyed.3) s.3 (append-nil (keyed.1 ++ s.1))
    (s.4 ∙ (ap (λ x. x ++ s.1) keyed.5 ∙ append_assoc keyed.0 keyed.1 s.1)) tt

value_begins : (outer : List Frame) (v : Value) (bs : List ℕ) → Spaced (BehindValue outer v) bs → Begins bs
value_begins outer v bs t =
    let r = close outer t.2.0 t.2.2 v t.2.1 t.1 (weaker (length outer) v t.2.1 t.2.3) t.3 in
    (r.0, r.1, completes_as (t.2.0 ++ (t.2.1 ++ (t.1 ++ r.1))) (bs ++ r.1) r.0 (rw (t.4, t.2.4) (simp append_assoc)) r.2, r.3)

-- numbers
number_begins : (outer : List Frame) (front begun filler bs : List ℕ) (negative : Bool) (ds fs : List ℕ) (p : Power) → IsFront outer front → IsWhole ds → AreDigits fs → IsPower p
    → begun ++ filler ≡ negative_text negative ++ (numerals ds ++ (fraction_text fs ++ power_text p)) → bs ≡ front ++ begun → AreAscii filler → Begins bs
number_begins outer front begun filler bs negative ds fs p f w d q g e ascii =
    token_begins outer front begun filler bs (number (decimal_from negative ds fs (is_down p) (written p))) f
    (record { negative = negative; ds = ds; fs = fs; exponent = p; is_whole = w; are_digits = d; is_power = q; value = refl; spelled = g }) e ascii

with_mark : (n ds fs more : List ℕ) → ((n ++ ds) ++ fs) ++ more ≡ n ++ (ds ++ (fs ++ more))
with_mark n ds fs more = simp append_assoc

numeral_begins : (outer : List Frame) (n : Numeral) (front begun bs : List ℕ) → IsFront outer front → NumeralText n begun → bs ≡ front ++ begun → Begins bs
numeral_begins outer minus front begun bs f t e = number_begins outer front begun (48 ∷ []) bs true (0 ∷ []) [] no_power f (lit< tt) tt tt (ap (λ x. x ++ 48 ∷ []) t) e (lit< tt, tt)
numeral_begins outer (zero_first n) front begun bs f t e =
    number_begins outer front begun [] bs n (0 ∷ []) [] no_power f (lit< tt) tt tt (append-nil begun ∙ (t ∙ whole_text n (0 ∷ []))) e tt
numeral_begins outer (whole n ds) front begun bs f t e =
    number_begins outer front begun [] bs n ds [] no_power f (open_whole ds t.0) tt tt (append-nil begun ∙ (t.1 ∙ whole_text n ds)) e tt
numeral_begins outer (point n ds) front begun bs f t e =
    number_begins outer front begun (48 ∷ []) bs n ds (0 ∷ []) no_power f t.0 (lit< tt, tt) tt (ap (λ x. x ++ 48 ∷ []) t.1 ∙ (append_assoc (negative_text n ++ numerals ds) (46 ∷ []) (48 ∷ []) ∙ append_assoc (negative_text n) (numerals ds) (46 ∷ 48 ∷ []))) e (lit< tt, tt)
numeral_begins outer (fraction n ds fs) front begun bs f t e =
    number_begins outer front begun [] bs n ds fs no_power f t.0 (some_digits fs t.1) tt (append-nil begun ∙ (t.2 ∙ fraction_end n ds fs t.1)) e tt
numeral_begins outer (mark n ds fs) front begun bs f t e =
    let x : List ℕ = (negative_text n ++ numerals ds) ++ fraction_text fs in
    number_begins outer front begun (48 ∷ []) bs n ds fs (power t.0 no_sign 0 []) f t.1 t.2 (t.3, (lit< tt, tt))
    (ap (λ y. y ++ 48 ∷ []) t.4 ∙ (append_assoc x (t.0 ∷ []) (48 ∷ []) ∙ with_mark (negative_text n) (numerals ds) (fraction_text fs) (t.0 ∷ 48 ∷ []))) e (lit< tt, tt)
numeral_begins outer (signed n ds fs down) front begun bs f t e =
    let x : List ℕ = (negative_text n ++ numerals ds) ++ fraction_text fs in
    number_begins outer front begun (48 ∷ []) bs n ds fs (power t.0 t.1 0 []) f t.2 t.3 (t.4, (lit< tt, tt))
    (ap (λ y. y ++ 48 ∷ []) t.6 ∙ (append_assoc x (t.0 ∷ sign_text t.1) (48 ∷ []) ∙ with_mark (negative_text n) (numerals ds) (fraction_text fs) ((t.0 ∷ sign_text t.1) ++ 48 ∷ []))) e (lit< tt, tt)
numeral_begins outer (exponent n ds fs down w) front begun bs f t e =
    number_begins outer front begun [] bs n ds fs (power t.0 t.1 t.2 t.3) f t.4 t.5 (t.6, t.8) (append-nil begun ∙ (t.10 ∙ power_end n ds fs t.0 t.1 t.2 t.3)) e tt

characters_then : (cs es : List Character) → AreCharacters true cs → AreCharacters false es → AreCharacters false (cs ++ es)
characters_then [] es are more = more
characters_then (c ∷ cs) es are more =
    ((weaker_characters (c ∷ []) (are.0, and_right (is_first_alone c) false refl, tt)).0, and_left (is_first_alone c) (begins_with_second (cs ++ es)) (none_alone c are.0), characters_then cs es are.2 more)

-- the bytes of a string that closes behind them
closes_as : (cs partial filler es all : List ℕ) → all ≡ cs ++ es → partial ++ filler ≡ es ++ 34 ∷ [] → ((34 ∷ cs) ++ partial) ++ filler ≡ 34 ∷ all ++ 34 ∷ []
closes_as cs partial filler es all e f = append_assoc (34 ∷ cs) partial filler ∙ (ap (λ x. (34 ∷ cs) ++ x) f ∙ ap (λ x. 34 ∷ x) (sym (append_assoc cs es (34 ∷ [])) ∙ ap (λ x. x ++ 34 ∷ []) (sym e)))

-- A string so far goes on with these characters, of which some bytes have come.
string_begins : (outer : List Frame) (p : Purpose) (t base partial filler bs : List ℕ) (es : List Character) → InString outer p t base → AreCharacters false es
    → partial ++ filler ≡ flat_map character_text es ++ 34 ∷ [] → bs ≡ base ++ partial → AreAscii filler → Begins bs
string_begins outer for_value t base partial filler bs es r more e f ascii =
    token_begins outer r.front ((34 ∷ flat_map character_text r.cs) ++ partial) filler bs (text (flat_map meaning (r.cs ++ es))) r.is_front
    (r.cs ++ es, characters_then r.cs es r.are more, refl, closes_as (flat_map character_text r.cs) partial filler (flat_map character_text es) (flat_map character_text (r.cs ++ es)) (flat_map-append character_text r.cs es) e)
    (f ∙ (ap (λ x. x ++ partial) r.is ∙ append_assoc r.front (34 ∷ flat_map character_text r.cs) partial)) ascii
string_begins outer (for_key ms at) t base partial filler bs es r more e f ascii =
    key_begins outer ms r.front ((34 ∷ flat_map character_text r.cs) ++ partial) filler (((34 ∷ flat_map character_text r.cs) ++ partial) ++ filler) [] bs (flat_map meaning (r.cs ++ es)) r.is_front.0
    (r.cs ++ es, characters_then r.cs es r.are more, refl, closes_as (flat_map character_text r.cs) partial filler (flat_map character_text es) (flat_map character_text (r.cs ++ es)) (flat_map-append character_text r.cs es) e) tt (sym (append-nil (((34 ∷ flat_map character_text r.cs) ++ partial) ++ filler)))
    (f ∙ (ap (λ x. x ++ partial) r.is ∙ append_assoc r.front (34 ∷ flat_map character_text r.cs) partial)) ascii

unit_begins : (outer : List Frame) (p : Purpose) (t base bs filler : List ℕ) (a b c d : ℕ) (partial : List ℕ) → InString outer p t base → AreHex a b c d → partial ++ filler ≡ 92 ∷ 117 ∷ a ∷ b ∷ c ∷ d ∷ 34 ∷ [] → bs ≡ base ++ partial → AreAscii filler → Begins bs
unit_begins outer p t base bs filler a b c d partial r hex e f ascii =
    string_begins outer p t base partial filler bs (alone a b c d ∷ []) r ((hex, λ g. no_limit g), and_right (is_high_surrogate (unit_of a b c d)) false refl, tt) e f ascii

-- the second unit of a pair, or a unit that stands alone behind another
second_begins : (outer : List Frame) (p : Purpose) (t base bs filler : List ℕ) (a b c d e f g h : ℕ) (partial : List ℕ) → InString outer p t base → AreHex a b c d → is_high_surrogate (unit_of a b c d) ≡ true
    → AreHex e f g h → partial ++ filler ≡ 92 ∷ 117 ∷ a ∷ b ∷ c ∷ d ∷ 92 ∷ 117 ∷ e ∷ f ∷ g ∷ h ∷ 34 ∷ [] → bs ≡ base ++ partial → AreAscii filler → Begins bs
second_begins outer p t base bs filler a b c d e f g h partial r hex is_high second i j ascii =
    ⊎_elim
    (λ (low : is_low_surrogate (unit_of e f g h) ≡ true). string_begins outer p t base partial filler bs (pair a b c d e f g h ∷ []) r ((hex, second, is_high, low), refl, tt) i j ascii)
    (λ (low : is_low_surrogate (unit_of e f g h) ≡ false). string_begins outer p t base partial filler bs (alone a b c d ∷ alone e f g h ∷ []) r (
      (hex, λ k. no_limit k),
      and_right (is_high_surrogate (unit_of a b c d)) (is_low_surrogate (unit_of e f g h)) low,
      ((second, λ k. no_limit k), and_right (is_high_surrogate (unit_of e f g h)) false refl, tt),
    ) i j ascii)
    (cases_Bool (is_low_surrogate (unit_of e f g h)))

quoted_begins : (outer : List Frame) (p : Purpose) (q : Quoted) (bs : List ℕ) → QuotedText outer p q bs → Begins bs
quoted_begins outer p (plain t) bs r = string_begins outer p t bs [] (34 ∷ []) bs [] r tt refl (sym (append-nil bs)) (lit< tt, tt)
quoted_begins outer p (escaped t back) bs r = string_begins outer p t r.0 (92 ∷ []) (110 ∷ 34 ∷ []) bs (short 110 10 ∷ []) r.1 (refl, refl, tt) refl r.3 (lit< tt, (lit< tt, tt))
quoted_begins outer p (unit t back no_digit) bs r = unit_begins outer p t r.0 bs (48 ∷ 48 ∷ 48 ∷ 48 ∷ 34 ∷ []) 48 48 48 48 (92 ∷ 117 ∷ []) r.1 (refl, refl, refl, refl) refl r.4 (lit< tt, (lit< tt, (lit< tt, (lit< tt, (lit< tt, tt)))))
quoted_begins outer p (unit t back (one_digit a)) bs r = unit_begins outer p t r.0 bs (48 ∷ 48 ∷ 48 ∷ 34 ∷ []) a 48 48 48 (92 ∷ 117 ∷ a ∷ []) r.1 (r.3, refl, refl, refl) refl r.4 (lit< tt, (lit< tt, (lit< tt, (lit< tt, tt))))
quoted_begins outer p (unit t back (two_digits a b)) bs r = unit_begins outer p t r.0 bs (48 ∷ 48 ∷ 34 ∷ []) a b 48 48 (92 ∷ 117 ∷ a ∷ b ∷ []) r.1 (r.3.0, r.3.1, refl, refl) refl r.4 (lit< tt, (lit< tt, (lit< tt, tt)))
quoted_begins outer p (unit t back (three_digits a b c)) bs r = unit_begins outer p t r.0 bs (48 ∷ 34 ∷ []) a b c 48 (92 ∷ 117 ∷ a ∷ b ∷ c ∷ []) r.1 (r.3.0, r.3.1, r.3.2, refl) refl r.4 (lit< tt, (lit< tt, tt))
quoted_begins outer p (high t back u) bs r =
    unit_begins outer p t r.0 bs (34 ∷ []) r.1 r.2 r.3 r.4 (92 ∷ 117 ∷ r.1 ∷ r.2 ∷ r.3 ∷ r.4 ∷ []) r.5 r.7 refl r.10 (lit< tt, tt)
quoted_begins outer p (high_escaped t back u) bs r =
    string_begins outer p t r.0 (92 ∷ 117 ∷ r.1 ∷ r.2 ∷ r.3 ∷ r.4 ∷ 92 ∷ []) (110 ∷ 34 ∷ []) bs (alone r.1 r.2 r.3 r.4 ∷ short 110 10 ∷ []) r.5
    ((r.7, λ k. no_limit k), and_right (is_high_surrogate (unit_of r.1 r.2 r.3 r.4)) false refl, (refl, refl, tt)) refl r.10 (lit< tt, (lit< tt, tt))
quoted_begins outer p (high_unit t back u no_digit) bs r =
    second_begins outer p t r.0 bs (48 ∷ 48 ∷ 48 ∷ 48 ∷ 34 ∷ []) r.1 r.2 r.3 r.4 48 48 48 48 (92 ∷ 117 ∷ r.1 ∷ r.2 ∷ r.3 ∷ r.4 ∷ 92 ∷ 117 ∷ []) r.5 r.7 (high_of u r.1 r.2 r.3 r.4 r.8 r.9) (refl, refl, refl, refl) refl r.11 (lit< tt, (lit< tt, (lit< tt, (lit< tt, (lit< tt, tt)))))
quoted_begins outer p (high_unit t back u (one_digit x)) bs r =
    second_begins outer p t r.0 bs (48 ∷ 48 ∷ 48 ∷ 34 ∷ []) r.1 r.2 r.3 r.4 x 48 48 48 (92 ∷ 117 ∷ r.1 ∷ r.2 ∷ r.3 ∷ r.4 ∷ 92 ∷ 117 ∷ x ∷ []) r.5 r.7 (high_of u r.1 r.2 r.3 r.4 r.8 r.9) (r.10, refl, refl, refl) refl r.11 (lit< tt, (lit< tt, (lit< tt, (lit< tt, tt))))
quoted_begins outer p (high_unit t back u (two_digits x y)) bs r =
    second_begins outer p t r.0 bs (48 ∷ 48 ∷ 34 ∷ []) r.1 r.2 r.3 r.4 x y 48 48 (92 ∷ 117 ∷ r.1 ∷ r.2 ∷ r.3 ∷ r.4 ∷ 92 ∷ 117 ∷ x ∷ y ∷ []) r.5 r.7 (high_of u r.1 r.2 r.3 r.4 r.8 r.9) (r.10.0, r.10.1, refl, refl) refl r.11 (lit< tt, (lit< tt, (lit< tt, tt)))
quoted_begins outer p (high_unit t back u (three_digits x y z)) bs r =
    second_begins outer p t r.0 bs (48 ∷ 34 ∷ []) r.1 r.2 r.3 r.4 x y z 48 (92 ∷ 117 ∷ r.1 ∷ r.2 ∷ r.3 ∷ r.4 ∷ 92 ∷ 117 ∷ x ∷ y ∷ z ∷ []) r.5 r.7 (high_of u r.1 r.2 r.3 r.4 r.8 r.9) (r.10.0, r.10.1, r.10.2, refl) refl r.11 (lit< tt, (lit< tt, tt))

pub begins : (outer : List Frame) (spot : Spot) (bs : List ℕ) → Stands outer spot bs → Begins bs
begins outer wanted bs s = front_begins outer bs s
begins outer first_item bs s = front_begins (in_array [] ∷ outer) bs s
begins outer first_key bs s = key_begins outer [] bs [] (34 ∷ 34 ∷ []) (34 ∷ 34 ∷ []) [] bs [] s ([], tt, refl, refl) tt refl (sym (append-nil bs)) (lit< tt, (lit< tt, tt))
begins outer (key_wanted ms) bs s = key_begins outer ms bs [] (34 ∷ 34 ∷ []) (34 ∷ 34 ∷ []) [] bs [] s ([], tt, refl, refl) tt refl (sym (append-nil bs)) (lit< tt, (lit< tt, tt))
begins outer (colon_wanted ms k) bs s = colon_begins outer ms k bs s
begins outer (ended v) bs s = value_begins outer v bs s
begins outer (literal v ls) bs s = token_begins outer s.front s.begun ls bs v s.is_front (weaker (length outer) v (s.begun ++ ls) s.spells) s.is s.ascii
begins outer (numeral n) bs s = numeral_begins outer n s.0 s.1 bs s.2 s.3 s.4
begins outer (quoted p q) bs s = quoted_begins outer p q bs s

-- ---- Where the machine stops is no place inside a character: only a string goes on at a byte beyond ASCII, and it takes each
-- of them.
-- a byte beyond ASCII
abbrev IsHigh : ℕ → Type 0
IsHigh c = 128 ≤ c

-- inside a string, and behind no escape that has begun
abbrev IsPlain : Spot → Type 0
IsPlain spot = (p : Purpose) × (t : List ℕ) × (spot ≡ quoted p (plain t))

abbrev IsPlainStep : Step → Type 0
IsPlainStep (next outer spot) = IsPlain spot
IsPlainStep (stop k kind) = Unit {0}

-- a choice by what no such byte is
unless : (b : Bool) (x y : Step) → b ≡ false → IsPlainStep y → IsPlainStep (cond b x y)
unless b x y e h = subst IsPlainStep (sym (cond-false b x y e)) h

apart_from : (c k : ℕ) → IsHigh c → k < 128 → (c == k) ≡ false
apart_from c k h l = grind arith

no_space : (c : ℕ) → IsHigh c → is_space c ≡ false
no_space c h = grind arith

no_digit_byte : (c : ℕ) → IsHigh c → is_digit c ≡ false
no_digit_byte c h = grind arith

no_mark : (c : ℕ) → IsHigh c → is_mark c ≡ false
no_mark c h = grind arith

no_hex : (c : ℕ) → IsHigh c → is_hex c ≡ false
no_hex c h = grind arith

-- ---- each step
begin_plain : (at : ℕ) (outer : List Frame) (c : ℕ) → IsHigh c → IsPlainStep (begin_step at outer c)
unfolding begin_step
begin_plain at outer c h =
    unless (c == 34) _ _ (apart_from c 34 h (lit< tt)) (unless (c == 91) _ _ (apart_from c 91 h (lit< tt)) (unless (c == 123) _ _ (apart_from c 123 h (lit< tt))
    (unless (c == 116) _ _ (apart_from c 116 h (lit< tt)) (unless (c == 102) _ _ (apart_from c 102 h (lit< tt)) (unless (c == 110) _ _ (apart_from c 110 h (lit< tt))
    (unless (c == 45) _ _ (apart_from c 45 h (lit< tt)) (unless (c == 48) _ _ (apart_from c 48 h (lit< tt)) (unless (is_digit c) _ _ (no_digit_byte c h) tt))))))))

close_plain : (at : ℕ) (outer : List Frame) (v : Value) (c : ℕ) → IsHigh c → IsPlainStep (close_step at outer v c)
unfolding close_step
close_plain at [] v c h = tt
close_plain at (in_array vs ∷ outer) v c h = unless (c == 44) _ _ (apart_from c 44 h (lit< tt)) (unless (c == 93) _ _ (apart_from c 93 h (lit< tt)) tt)
close_plain at (in_object ms k ∷ outer) v c h = unless (c == 44) _ _ (apart_from c 44 h (lit< tt)) (unless (c == 125) _ _ (apart_from c 125 h (lit< tt)) tt)

ended_plain : (at : ℕ) (outer : List Frame) (v : Value) (c : ℕ) → IsHigh c → IsPlainStep (ended_step at outer v c)
unfolding ended_step
ended_plain at outer v c h = unless (is_space c) _ _ (no_space c h) (close_plain at outer v c h)

numeral_plain : (at : ℕ) (outer : List Frame) (n : Numeral) (c : ℕ) → IsHigh c → IsPlainStep (numeral_step at outer n c)
unfolding numeral_step
numeral_plain at outer minus c h = unless (c == 48) _ _ (apart_from c 48 h (lit< tt)) (unless (is_digit c) _ _ (no_digit_byte c h) tt)
numeral_plain at outer (zero_first n) c h =
    unless (c == 46) _ _ (apart_from c 46 h (lit< tt)) (unless (is_mark c) _ _ (no_mark c h) (ended_plain at outer _ c h))
numeral_plain at outer (whole n ds) c h =
    unless (is_digit c) _ _ (no_digit_byte c h) (unless (c == 46) _ _ (apart_from c 46 h (lit< tt)) (unless (is_mark c) _ _ (no_mark c h) (ended_plain at outer _ c h)))
numeral_plain at outer (point n ds) c h = unless (is_digit c) _ _ (no_digit_byte c h) tt
numeral_plain at outer (fraction n ds fs) c h =
    unless (is_digit c) _ _ (no_digit_byte c h) (unless (is_mark c) _ _ (no_mark c h) (ended_plain at outer _ c h))
numeral_plain at outer (mark n ds fs) c h =
    unless (c == 43) _ _ (apart_from c 43 h (lit< tt)) (unless (c == 45) _ _ (apart_from c 45 h (lit< tt)) (unless (is_digit c) _ _ (no_digit_byte c h) tt))
numeral_plain at outer (signed n ds fs down) c h = unless (is_digit c) _ _ (no_digit_byte c h) tt
numeral_plain at outer (exponent n ds fs down w) c h = unless (is_digit c) _ _ (no_digit_byte c h) (ended_plain at outer _ c h)

escape_plain : (at : ℕ) (outer : List Frame) (p : Purpose) (t : List ℕ) (back : ℕ) (e : Option ℕ) (c : ℕ) → IsHigh c → IsPlainStep (escape_step at outer p t back e c)
unfolding escape_step
escape_plain at outer p t back None c h = unless (c == 117) _ _ (apart_from c 117 h (lit< tt)) tt
escape_plain at outer p t back (Some b) c h = (p, t ++ b ∷ [], refl)

quoted_plain : (at : ℕ) (outer : List Frame) (p : Purpose) (q : Quoted) (c : ℕ) → IsHigh c → IsPlainStep (quoted_step at outer p q c)
unfolding quoted_step
quoted_plain at outer p (plain t) c h =
    unless (c == 34) _ _ (apart_from c 34 h (lit< tt)) (unless (c == 92) _ _ (apart_from c 92 h (lit< tt))
    (cond_both (nat_le 32 c) (next outer (quoted p (plain (t ++ c ∷ [])))) (stop at 2) IsPlainStep (λ _. (p, t ++ c ∷ [], refl)) (λ _. tt)))
quoted_plain at outer p (escaped t back) c h = escape_plain at outer p t back (short_escape c) c h
quoted_plain at outer p (unit t back x) c h = unless (is_hex c) _ _ (no_hex c h) tt
quoted_plain at outer p (high t back u) c h = unless (c == 92) _ _ (apart_from c 92 h (lit< tt)) tt
quoted_plain at outer p (high_escaped t back u) c h = unless (c == 117) _ _ (apart_from c 117 h (lit< tt)) tt
quoted_plain at outer p (high_unit t back u x) c h = unless (is_hex c) _ _ (no_hex c h) tt

step_plain : (at : ℕ) (outer : List Frame) (spot : Spot) (bs : List ℕ) (c : ℕ) → Stands outer spot bs → IsHigh c → IsPlainStep (step at outer spot c)
unfolding step literal_step
step_plain at outer wanted bs c s h = unless (is_space c) _ _ (no_space c h) (begin_plain at outer c h)
step_plain at outer first_item bs c s h =
    unless (is_space c) _ _ (no_space c h) (unless (c == 93) _ _ (apart_from c 93 h (lit< tt)) (begin_plain at (in_array [] ∷ outer) c h))
step_plain at outer first_key bs c s h =
    unless (is_space c) _ _ (no_space c h) (unless (c == 125) _ _ (apart_from c 125 h (lit< tt)) (unless (c == 34) _ _ (apart_from c 34 h (lit< tt)) tt))
step_plain at outer (key_wanted ms) bs c s h = unless (is_space c) _ _ (no_space c h) (unless (c == 34) _ _ (apart_from c 34 h (lit< tt)) tt)
step_plain at outer (colon_wanted ms k) bs c s h = unless (is_space c) _ _ (no_space c h) (unless (c == 58) _ _ (apart_from c 58 h (lit< tt)) tt)
step_plain at outer (ended v) bs c s h = ended_plain at outer v c h
step_plain at outer (literal v []) bs c s h = ended_plain at outer v c h
step_plain at outer (literal v (l ∷ ls)) bs c s h = unless (c == l) _ _ (apart_from c l h s.ascii.0) tt
step_plain at outer (numeral n) bs c s h = numeral_plain at outer n c h
step_plain at outer (quoted p q) bs c s h = quoted_plain at outer p q c h

-- ---- two such bytes
-- a string takes each of them
takes : (at : ℕ) (outer : List Frame) (p : Purpose) (t : List ℕ) (c : ℕ) → IsHigh c
    → step at outer (quoted p (plain t)) c ≡ next outer (quoted p (plain (t ++ c ∷ [])))
unfolding step quoted_step
takes at outer p t c h = rw (apart_from c 34 h (lit< tt), apart_from c 92 h (lit< tt), shown c h) refl
  where
    shown : (c : ℕ) → IsHigh c → nat_le 32 c ≡ true
    shown c h = grind arith

-- the faults of the second kind that may come are elsewhere
elsewhere : (n m k kind : ℕ) (bytes : List ℕ) → Caught bytes n k kind → fault k kind ≡ fault m 2 → n < m → ⊥
elsewhere n m k kind bytes (inl s) e l = let f : k ≡ m = cc in omega (arith, s.1, f, l)
elsewhere n m k kind bytes (inr (inl s)) e l = let f : kind ≡ 2 = cc in omega (arith, s.0, f)
elsewhere n m k kind bytes (inr (inr (inl s))) e l = let f : kind ≡ 2 = cc in omega (arith, s.0, f)
elsewhere n m k kind bytes (inr (inr (inr s))) e l = let f : kind ≡ 2 = cc in omega (arith, s.0, f)

at_end : (at m : ℕ) (outer : List Frame) (p : Purpose) (t : List ℕ) → outcome at outer (quoted p (plain t)) [] ≡ fault m 2 → m < at → ⊥
unfolding outcome finish
at_end at m outer p t e l = let f : at ≡ m = cc in omega (arith, f, l)

-- behind one of them another is no fault
second : (at m : ℕ) (o : List Frame) (spot : Spot) (c : ℕ) → IsPlain spot → IsHigh c → outcome at o spot (c ∷ []) ≡ fault m 2 → m < suc at → ⊥
unfolding outcome
second at m o spot c plain_spot h e l =
    let p = plain_spot.0 in
    let t = plain_spot.1 in
    let here : outcome at o (quoted p (plain t)) (c ∷ []) ≡ fault m 2 = subst (λ (x : Spot). outcome at o x (c ∷ []) ≡ fault m 2) plain_spot.2 e in
    at_end (suc at) m o p (t ++ c ∷ []) (sym (ap (λ st. after st (λ o s. outcome (suc at) o s [])) (takes at o p t c h)) ∙ here) l

two_step : (st : Step) (bs : List ℕ) (b c : ℕ) → Good st bs b → IsPlainStep st → IsHigh c
    → after st (λ o s. outcome (suc (length bs)) o s (c ∷ [])) ≡ fault (length bs + 1) 2 → ⊥
two_step (stop k kind) bs b c good is_plain h e = elsewhere (length bs) (length bs + 1) k kind (bs ++ b ∷ []) (good []) e (omega arith)
two_step (next o s) bs b c good is_plain h e = second (suc (length bs)) (length bs + 1) o s c is_plain h e (omega arith)

more_step : (st : Step) (xs bs : List ℕ) (x b c : ℕ) → Good st bs x
    → ((o : List Frame) (s : Spot) → Stands o s (bs ++ x ∷ []) → outcome (length (bs ++ x ∷ [])) o s (xs ++ b ∷ c ∷ []) ≡ fault (length (bs ++ x ∷ []) + length xs + 1) 2 → ⊥)
    → after st (λ o s. outcome (suc (length bs)) o s (xs ++ b ∷ c ∷ [])) ≡ fault (length bs + suc (length xs) + 1) 2 → ⊥
more_step (stop k kind) xs bs x b c good on e = elsewhere (length bs) (length bs + suc (length xs) + 1) k kind (bs ++ x ∷ []) (good []) e (omega arith)
more_step (next o s) xs bs x b c good on e = grind (arith, length-append, good, on, e)

-- between two bytes beyond ASCII the machine doesn't stop
no_fault : (xs bs : List ℕ) (outer : List Frame) (spot : Spot) (b c : ℕ) → Stands outer spot bs → IsHigh b → IsHigh c
    → outcome (length bs) outer spot (xs ++ b ∷ c ∷ []) ≡ fault (length bs + length xs + 1) 2 → ⊥
unfolding outcome
no_fault [] bs outer spot b c s hb hc e =
    two_step (step (length bs) outer spot b) bs b c (good_step outer spot bs b s) (step_plain (length bs) outer spot bs b s hb) hc
    (e ∙ ap (λ n. fault n 2) (omega arith))
no_fault (x ∷ xs) bs outer spot b c s hb hc e =
    more_step (step (length bs) outer spot x) xs bs x b c (good_step outer spot bs x s) (λ o t good f. no_fault xs (bs ++ x ∷ []) o t b c good hb hc f) e

more : (bytes : List ℕ) (i : ℕ) → i < length bytes → take (suc i) bytes ≡ take i bytes ++ get_or bytes i 0 ∷ []
more bytes i l = let on : suc i ≡ i + 1 = omega arith in ap (λ n. take n bytes) on ∙ take_more bytes i 0 l

-- the same of the bytes of an input
between : (bytes : List ℕ) (j : ℕ) → suc j < length bytes → 128 ≤ get_or bytes j 0 → 128 ≤ get_or bytes (suc j) 0
    → whole_outcome (take (suc j) bytes ++ get_or bytes (suc j) 0 ∷ []) ≡ fault (suc j) 2 → ⊥
unfolding whole_outcome
between bytes j l hb hc e =
    let front = take j bytes in
    let b = get_or bytes j 0 in
    let c = get_or bytes (suc j) 0 in
    let split : take (suc j) bytes ++ c ∷ [] ≡ front ++ b ∷ c ∷ [] = ap (λ x. x ++ c ∷ []) (more bytes j (omega (arith, l))) ∙ append_assoc front (b ∷ []) (c ∷ []) in
    let long : length front ≡ j = length-take-le j bytes (omega (arith, l)) in
    no_fault front [] [] wanted b c tt hb hc
    (ap (λ x. outcome 0 [] wanted x) (sym split) ∙ (e ∙ ap (λ n. fault n 2) (omega (arith, long))))

-- where the machine stops for good a character begins, or the input ends
pub stops_between : (bytes : List ℕ) (k : ℕ) → IsUtf8 bytes → k ≤ length bytes
    → (k < length bytes → (xs : List ℕ) → whole_outcome (take k bytes ++ get_or bytes k 0 ∷ xs) ≡ fault k 2) → IsCharBoundary bytes k
stops_between bytes zero utf8 le stuck = IsCharBoundary-start bytes utf8
stops_between bytes (suc j) utf8 le stuck =
    ⊎_elim
    (λ (low : get_or bytes j 0 < 128). subst (IsCharBoundary bytes) (omega arith) (IsCharBoundary-after_ascii bytes j utf8 (omega (arith, le)) low))
    (λ (high : 128 ≤ get_or bytes j 0). (le, λ l beyond. absurd (between bytes j l high beyond (stuck l []))))
    (cases_lt (get_or bytes j 0) 128)

-- ---- The machine's place of a fault of the second kind: no text goes on beyond it.
-- a text is no fault of the second kind
pub no_second : (bytes : List ℕ) (k : ℕ) (v : Value) → whole_outcome bytes ≡ fault k 2 → SpellsText false v bytes → ⊥
no_second bytes k v e s = ⊎_elim (λ (d : whole_outcome bytes ≡ done v). never k v (sym e ∙ d)) (λ (r : Refuses false (whole_outcome bytes)). other k r.place r.kind (sym e ∙ r.is) r.later) (text_arrives false v bytes s)
  where
    never : (k : ℕ) (v : Value) → fault k 2 ≡ done v → ⊥
    never k v e = cc

    other : (k p kind : ℕ) → fault k 2 ≡ fault p kind → 2 < kind → ⊥
    other k p kind e lt = let f : 2 ≡ kind = cc in omega arith

take-past : (xs : List ℕ) (c : ℕ) (cs : List ℕ) (j : ℕ) → length xs < j → (ys : List ℕ) × (take j (xs ++ c ∷ cs) ≡ xs ++ c ∷ ys)
take-past [] c cs zero lt = absurd (omega arith)
take-past [] c cs (suc j) lt = (take j cs, refl)
take-past (x ∷ xs) c cs zero lt = absurd (omega arith)
take-past (x ∷ xs) c cs (suc j) lt = let r = take-past xs c cs j (omega arith) in (r.0, ap (λ z. x ∷ z) r.1)

-- what stops the machine stops it whatever follows
stopped_there : (bytes : List ℕ) (k : ℕ) (s : Stops bytes k) (c : ℕ) → step (length s.front) s.outer s.spot c ≡ stop k 2 → (xs : List ℕ) → whole_outcome (s.front ++ c ∷ xs) ≡ fault k 2
unfolding outcome
stopped_there bytes k s c e xs = s.runs (c ∷ xs) ∙ ap (λ st. after st (λ o t. outcome (suc (length s.front)) o t xs)) e

-- the bytes up to there
front_of : (bytes : List ℕ) (k : ℕ) (s : Stops bytes k) → take k bytes ≡ s.front
front_of bytes k s = ⊎_elim
    (λ (f : bytes ≡ s.front). ap (λ x. take k x) (f ∙ sym (append-nil s.front)) ∙ take_at s.front [] k (sym s.place))
    (λ (r : (c : ℕ) × (cs : List ℕ) × (bytes ≡ s.front ++ c ∷ cs) × (step (length s.front) s.outer s.spot c ≡ stop k 2)). ap (λ x. take k x) r.2 ∙ take_at s.front (r.0 ∷ r.1) k (sym s.place)) s.ends

apart : (k j kind : ℕ) → fault k 2 ≡ fault j kind → 2 < kind → ⊥
apart k j kind e lt = let f : 2 ≡ kind = cc in omega arith

within : (bytes : List ℕ) (k : ℕ) → Stops bytes k → k ≤ length bytes
within bytes k s = grind (arith, length-append, s)

-- the byte there is a fault, whatever follows it
stuck : (bytes : List ℕ) (k : ℕ) → Stops bytes k → k < length bytes → (xs : List ℕ) → whole_outcome (take k bytes ++ get_or bytes k 0 ∷ xs) ≡ fault k 2
stuck bytes k s l xs = ⊎_elim (λ (f : bytes ≡ s.front). absurd (omega (arith, s.place, ap length f, l)))
    (λ (r : (c : ℕ) × (cs : List ℕ) × (bytes ≡ s.front ++ c ∷ cs) × (step (length s.front) s.outer s.spot c ≡ stop k 2)).
    let here : get_or bytes k 0 ≡ r.0 = ap (λ x. get_or x k 0) r.2 ∙ get_or_at s.front r.0 r.1 0 k (sym s.place) in
    ap (λ x. whole_outcome (x ++ get_or bytes k 0 ∷ xs)) (front_of bytes k s) ∙ (ap (λ c. whole_outcome (s.front ++ c ∷ xs)) here ∙ stopped_there bytes k s r.0 r.3 xs)) s.ends

ascii_at : (bs : List ℕ) → AreAscii bs → IsAscii bs
ascii_at [] a i = lit< tt
ascii_at (c ∷ cs) a zero = a.0
ascii_at (c ∷ cs) a (suc i) = ascii_at cs a.1 i

pub is_no_json : (bytes : List ℕ) (k : ℕ) → IsUtf8 bytes → whole_outcome bytes ≡ fault k 2 → Stops bytes k → IsNoJson bytes k
is_no_json bytes k utf8 e s = record {
  within = within bytes k s;
  begins =
      let t : Begins (take k bytes) = subst Begins (sym (front_of bytes k s)) (begins s.outer s.spot s.front s.stands) in
      (t.0, t.1, t.2, IsUtf8-append (take k bytes) t.1 (IsUtf8-take bytes k utf8 (stops_between bytes k utf8 (within bytes k s) (stuck bytes k s))) (IsUtf8-from_ascii t.1 (ascii_at t.1 t.3)));
  longest = λ j lt le begins. ⊎_elim (λ (f : bytes ≡ s.front). omega (arith, s.place, ap length f, lt, le))
      (λ (r : (c : ℕ) × (cs : List ℕ) × (bytes ≡ s.front ++ c ∷ cs) × (step (length s.front) s.outer s.spot c ≡ stop k 2)).
      let past = take-past s.front r.0 r.1 j (omega (arith, s.place, lt)) in
      let same : take j bytes ++ begins.1 ≡ s.front ++ r.0 ∷ (past.0 ++ begins.1) = ap (λ x. take j x ++ begins.1) r.2 ∙ (ap (λ x. x ++ begins.1) past.1 ∙ append_assoc s.front (r.0 ∷ past.0) begins.1) in
      no_second (take j bytes ++ begins.1) k begins.0 (ap whole_outcome same ∙ stopped_there bytes k s r.0 r.3 (past.0 ++ begins.1)) begins.2) s.ends;
  no_text = λ v t. no_second bytes k v e t;
  shallow = λ j d. apart k j 3 (sym e ∙ deep_fault bytes j d) (lit< tt);
  no_repeat = λ j d. apart k j 4 (sym e ∙ repeated_fault bytes j d) (lit< tt);
  no_half = λ j d. apart k j 5 (sym e ∙ lacks_fault bytes j d) (lit< tt);
}

-- ---- What the machine's outcome says of the bytes, for the clauses of `read`.
-- with limits a text arrives at its value
arrives : (bytes : List ℕ) (v : Value) → IsText bytes v → whole_outcome bytes ≡ done v
arrives bytes v t = ⊎_elim (λ e. e) (λ (r : Refuses true (whole_outcome bytes)). absurd (r.limits refl)) (text_arrives true v bytes t.1)

no_value : (k kind : ℕ) (v : Value) → fault k kind ≡ done v → ⊥
no_value k kind v e = cc

pub text_clause : (r : Result Json JsonFault) (bytes : List ℕ) → IsUtf8 bytes → Gives r (whole_outcome bytes) → IfOk r (λ j. IsText bytes (view j))
text_clause (Ok j) bytes utf8 g = (utf8, subst (λ (o : Outcome). IsSound bytes o) g (is_sound bytes))
text_clause (Err e) bytes utf8 g = tt

pub only_clause : (r : Result Json JsonFault) (bytes : List ℕ) → Gives r (whole_outcome bytes) → (v : Value) → IsText bytes v → MatchResult r (λ j. view j ≡ v) (λ e. e ≡ NoMemory)
only_clause (Ok j) bytes g v t = let same : done (view j) ≡ done v = sym g ∙ arrives bytes v t in cc
only_clause (Err (At k kind)) bytes g v t = absurd (no_value k kind v (sym g ∙ arrives bytes v t))
only_clause (Err NoMemory) bytes g v t = refl

text_fault : (bytes : List ℕ) (k kind : ℕ) → IsUtf8 bytes → whole_outcome bytes ≡ fault k kind → IsSound bytes (fault k kind) → IsTextFault bytes k kind
text_fault bytes k kind utf8 e (inl s) = inl (s.0, is_no_json bytes k utf8 (e ∙ ap (fault k) s.0) s.1)
text_fault bytes k kind utf8 e (inr s) = inr s

pub fault_clause : (r : Result Json JsonFault) (bytes : List ℕ) → IsUtf8 bytes → Gives r (whole_outcome bytes) → IfErr r (HasCause bytes)
fault_clause (Ok j) bytes utf8 g = tt
fault_clause (Err (At k kind)) bytes utf8 g = inr (utf8, text_fault bytes k kind utf8 g (subst (λ (o : Outcome). IsSound bytes o) g (is_sound bytes)))
fault_clause (Err NoMemory) bytes utf8 g = tt

pub not_utf8 : (bytes : List ℕ) (at : ℕ) → (IsUtf8 bytes → ⊥) → IsValidUpTo bytes at → HasCause bytes (At at 1)
not_utf8 bytes at no_text up = inl (refl, no_text, record { utf8 = up.front; longest = λ k lt le. up.longest k lt })

-- two places of the same cause are one
one_place : (at k : ℕ) → (at < k → ⊥) → (k < at → ⊥) → at ≡ k
one_place at k a b = ⊎_elim (λ (e : at ≡ k). e) (λ o. ⊎_elim (λ (lt : at < k). absurd (a lt)) (λ (lt : k < at). absurd (b lt)) o) (cases_order at k)

-- what the machine answers where the bytes are no JSON
no_json_outcome : (bytes : List ℕ) (at : ℕ) (o : Outcome) → IsUtf8 bytes → IsNoJson bytes at → whole_outcome bytes ≡ o → IsSound bytes o → whole_outcome bytes ≡ fault at 2
no_json_outcome bytes at (done v) utf8 a e s = absurd (a.no_text v (s.0, s.1, s.2, s.3, weaker 0 v s.1 s.4, s.5, s.6))
no_json_outcome bytes at (fault k kind) utf8 a e (inl s) =
    let two : whole_outcome bytes ≡ fault k 2 = e ∙ ap (fault k) s.0 in
    let b = is_no_json bytes k utf8 two s.1 in
    two ∙ ap (λ j. fault j 2) (sym (one_place at k (λ lt. a.longest k lt b.within b.begins) (λ lt. b.longest at lt a.within a.begins)))
no_json_outcome bytes at (fault k kind) utf8 a e (inr (inl s)) = absurd (a.shallow k s.1)
no_json_outcome bytes at (fault k kind) utf8 a e (inr (inr (inl s))) = absurd (a.no_repeat k s.1)
no_json_outcome bytes at (fault k kind) utf8 a e (inr (inr (inr s))) = absurd (a.no_half k s.1)

fault_outcome : (bytes : List ℕ) (at kind : ℕ) → IsUtf8 bytes → IsTextFault bytes at kind → whole_outcome bytes ≡ fault at kind
fault_outcome bytes at kind utf8 (inl s) = no_json_outcome bytes at (whole_outcome bytes) utf8 s.1 refl (is_sound bytes) ∙ ap (fault at) (sym s.0)
fault_outcome bytes at kind utf8 (inr (inl s)) = deep_fault bytes at s.1 ∙ ap (fault at) (sym s.0)
fault_outcome bytes at kind utf8 (inr (inr (inl s))) = repeated_fault bytes at s.1 ∙ ap (fault at) (sym s.0)
fault_outcome bytes at kind utf8 (inr (inr (inr s))) = lacks_fault bytes at s.1 ∙ ap (fault at) (sym s.0)

one_fault : (a b k kind : ℕ) → fault a b ≡ fault k kind → At a b ≡ At k kind
one_fault a b k kind e = let f : a ≡ k = cc in let g : b ≡ kind = cc in ap (λ x. At x b) f ∙ ap (At k) g

exact_text : (r : Result Json JsonFault) (bytes : List ℕ) (at kind : ℕ) → Gives r (whole_outcome bytes) → whole_outcome bytes ≡ fault at kind → MatchResult r (λ _. ⊥) (λ e. (e ≡ At at kind) ⊎ (e ≡ NoMemory))
exact_text (Ok j) bytes at kind g e = no_value at kind (view j) (sym e ∙ g)
exact_text (Err (At k l)) bytes at kind g e = inl (one_fault k l at kind (sym g ∙ e))
exact_text (Err NoMemory) bytes at kind g e = inr refl

pub exact_clause : (r : Result Json JsonFault) (bytes : List ℕ) → IsUtf8 bytes → Gives r (whole_outcome bytes) → (at kind : ℕ) → IsFault bytes at kind → MatchResult r (λ _. ⊥) (λ e. (e ≡ At at kind) ⊎ (e ≡ NoMemory))
exact_clause r bytes utf8 g at kind (inl s) = absurd (s.1 utf8)
exact_clause r bytes utf8 g at kind (inr s) = exact_text r bytes at kind g (fault_outcome bytes at kind s.0 s.1)

pub exact_utf8 : (bytes : List ℕ) (up : ℕ) → (IsUtf8 bytes → ⊥) → IsValidUpTo bytes up → (at kind : ℕ) → IsFault bytes at kind → (At up 1 ≡ At at kind) ⊎ (At up 1 ≡ NoMemory)
exact_utf8 bytes up no_text valid at kind (inl s) =
    let same : up ≡ at = one_place up at (λ lt. valid.longest at lt s.2.utf8) (λ lt. s.2.longest up lt (omega (arith, valid.short)) valid.front) in
    inl (ap (λ k. At k 1) same ∙ ap (At at) (sym s.0))
exact_utf8 bytes up no_text valid at kind (inr s) = absurd (no_text s.0)
