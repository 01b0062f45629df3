-- Each step of the machine is sound: between tokens, inside numbers and inside strings.
use Rattle.std.proofs.Common.{lit<, ◌≡◌, ℕ, ◌+◌, ◌==◌, ◌<◌, suc, cond, List, [], ◌∷◌, ◌++◌, length, refl, sym, ap, subst, ◌∙◌, arith, true, false, append_assoc, inl, inr, ◌*◌, Bool, ◌&&◌, Option, Some, None, length-append, ◌⊎◌, nat_lt, nat_le, not, encode_utf8, append-nil}
use Rattle.std.proofs.lemmas.Bool.{cond_both, eqb-true, ltb-true, ltb-false, and_parts, leb-true, eqb-false, and_from, and_left, or_from, or_parts, not_from_false, false≢true}
use Rattle.decimal_json.specs.Value.{Value, null, boolean, array, object, no_items, no_members, items_of, members_of, text, has_key, is_digit, digit_of, is_mark, whole_of, Member, Frame, in_array, in_object, Purpose, for_value, for_key}
use Rattle.decimal_json.specs.Characters.{rue, alse, ull, is_space, short_escape, is_hex, unit_of}
use Rattle.decimal_json.specs.inside.Scan.{Spot, wanted, first_item, first_key, key_wanted, colon_wanted, ended, quoted, plain, awaited, next, stop, begin_step, opened, ended_step, close_step, literal_step, numeral, Numeral, minus, zero_first, whole, point, fraction, mark, signed, exponent, so_far, numeral_step, Quoted, escaped, unit, high, high_escaped, high_unit, Hex, no_digit, one_digit, two_digits, three_digits, quoted_step, quote_step, escape_step, more_hex, unit_step, pair_step, literal, Step, Outcome, done, fault, step, finish, finish_value, after, outcome, whole_outcome}
use Rattle.decimal_json.specs.Grammar.{Spells, AreDigits, IsWhole, numerals, negative_text, fraction_text, Sign, no_sign, plus, sign_text, Power, no_power, power, power_text, is_down, written, IsPower, Character, itself, short, alone, pair, character_text, meaning, AreHex, IsCharacter, is_first_alone, begins_with_second, AreCharacters, SpellsText}
use Rattle.decimal_json.specs.Fronts.{InArray, InObject, BehindKey, BehindColon, IsFront, IsKeyFront, IsStringFront, LacksSecond, OpensTooDeep, RepeatsKey, LacksPartner}
use Rattle.decimal_json.proofs.Values.{unique_more}
use Rattle.decimal_json.proofs.Growth.{one_more, spaced_more, spaced_none, front_depth, front_items-push, items_close, front_members-push, members_close, BehindValue, InString, AreAscii, LiteralText, Stands, Good, IsOpenWhole, IsSomeDigits, NumeralText, QuotedText, hex_text, Caught, four, each_more}
use Rattle.std.specs.List.{flat_map}
use Rattle.std.specs.Char.Utf16.{is_low_surrogate, is_high_surrogate, surrogate_pair_char}
use Rattle.std.proofs.lemmas.List.{map-append}
use Rattle.std.proofs.lemmas.List.Concat.{flat_map-append}
use Rattle.std.proofs.lemmas.List.Sums.{fold-append}
use Rattle.decimal_json.specs.Grammar as grammar

pub stuck : (bs : List ℕ) (c : ℕ) → Good (stop (length bs) 2) bs c
stuck bs c = λ cs. inl (refl, refl)

-- one byte known
pub named : (bs : List ℕ) (c k : ℕ) → (c == k) ≡ true → bs ++ c ∷ [] ≡ bs ++ k ∷ []
named bs c k e = ap (λ b. bs ++ b ∷ []) (eqb-true c k e)

front_space : (outer : List Frame) (bs : List ℕ) (c : ℕ) → IsFront outer bs → is_space c ≡ true → IsFront outer (bs ++ c ∷ [])
front_space [] bs c f e = each_more (λ k. is_space k ≡ true) bs c f e
front_space (in_array vs ∷ outer) bs c f e = spaced_more (InArray (IsFront outer) (length outer) vs) bs c f e
front_space (in_object ms k ∷ outer) bs c f e = spaced_more (BehindColon (IsFront outer) (length outer) ms k) bs c f e

too_deep : (outer : List Frame) (bs : List ℕ) (c : ℕ) → IsFront outer bs → nat_lt (length outer) 64 ≡ false → (c ≡ 91) ⊎ (c ≡ 123) → Good (stop (length bs) 3) bs c
too_deep outer bs c f full which = grind (arith, ltb-false, front_depth, f, full, which)

good_opened : (outer : List Frame) (bs : List ℕ) (c : ℕ) (spot : Spot) → IsFront outer bs → (length outer < 64 → Stands outer spot (bs ++ c ∷ [])) → (c ≡ 91) ⊎ (c ≡ 123)
    → Good (opened (length bs) outer spot) bs c
unfolding opened
good_opened outer bs c spot f then which = cond_both (nat_lt (length outer) 64) (next outer spot) (stop (length bs) 3) (λ s. Good s bs c)
    (λ e. then (ltb-true (length outer) 64 e)) (λ e. too_deep outer bs c f e which)

-- a literal begins
literal_begins : (outer : List Frame) (bs : List ℕ) (c k : ℕ) (v : Value) (ls : List ℕ) → IsFront outer bs → (c == k) ≡ true → Spells true (length outer) v (k ∷ ls) → AreAscii ls → LiteralText outer v ls (bs ++ c ∷ [])
literal_begins outer bs c k v ls f e s a = record { front = bs; begun = k ∷ []; is_front = f; spells = s; ascii = a; is = named bs c k e }

string_begins : (outer : List Frame) (p : Purpose) (bs : List ℕ) (c : ℕ) → IsStringFront outer p bs → (c == 34) ≡ true → InString outer p [] (bs ++ c ∷ [])
string_begins outer p bs c f e = record { front = bs; cs = []; is_front = f; are = tt; text = refl; is = named bs c 34 e }

pub digit_small : (c : ℕ) → is_digit c ≡ true → digit_of c < 10
digit_small c e = let parts = and_parts (nat_le 48 c) (nat_le c 57) e in omega (arith, leb-true 48 c parts.0, leb-true c 57 parts.1)

pub digit_again : (c : ℕ) → is_digit c ≡ true → c ≡ 48 + digit_of c
digit_again c e = let parts = and_parts (nat_le 48 c) (nat_le c 57) e in omega (arith, leb-true 48 c parts.0)

above : (c : ℕ) → is_digit c ≡ true → (c == 48) ≡ false → 0 < digit_of c
above c e z = let parts = and_parts (nat_le 48 c) (nat_le c 57) e in let ne : c ≡ 48 → ⊥ = eqb-false c 48 z in omega (arith, leb-true 48 c parts.0)

pub good_begin : (outer : List Frame) (bs : List ℕ) (c : ℕ) → IsFront outer bs → Good (begin_step (length bs) outer c) bs c
unfolding begin_step
good_begin outer bs c f =
    cond_both (c == 34) _ _ (λ s. Good s bs c) (λ e. string_begins outer for_value bs c f e) (λ _.
    cond_both (c == 91) _ _ (λ s. Good s bs c) (λ e. good_opened outer bs c first_item f (λ lt. spaced_none (InArray (IsFront outer) (length outer) []) (bs ++ c ∷ []) (bs, [], f, lt, refl, named bs c 91 e)) (inl (eqb-true c 91 e))) (λ _.
    cond_both (c == 123) _ _ (λ s. Good s bs c) (λ e. good_opened outer bs c first_key f (λ lt. spaced_none (InObject (IsFront outer) (length outer) []) (bs ++ c ∷ []) (bs, [], f, lt, refl, tt, named bs c 123 e)) (inr (eqb-true c 123 e))) (λ _.
    cond_both (c == 116) _ _ (λ s. Good s bs c) (λ e. literal_begins outer bs c 116 (boolean true) rue f e refl (lit< tt, (lit< tt, (lit< tt, tt)))) (λ _.
    cond_both (c == 102) _ _ (λ s. Good s bs c) (λ e. literal_begins outer bs c 102 (boolean false) alse f e refl (lit< tt, (lit< tt, (lit< tt, (lit< tt, tt))))) (λ _.
    cond_both (c == 110) _ _ (λ s. Good s bs c) (λ e. literal_begins outer bs c 110 null ull f e refl (lit< tt, (lit< tt, (lit< tt, tt)))) (λ _.
    cond_both (c == 45) _ _ (λ s. Good s bs c) (λ e. (bs, 45 ∷ [], f, refl, named bs c 45 e)) (λ _.
    cond_both (c == 48) _ _ (λ s. Good s bs c) (λ e. (bs, 48 ∷ [], f, refl, named bs c 48 e)) (λ zero.
    cond_both (is_digit c) _ _ (λ s. Good s bs c)
    (λ e. (bs, (48 + digit_of c) ∷ [], f, ((above c e zero, (digit_small c e, tt)), refl), ap (λ b. bs ++ b ∷ []) (digit_again c e)))
    (λ _. stuck bs c)))))))))

five : (f i a b c e : List ℕ) → ((((f ++ i) ++ a) ++ b) ++ c) ++ e ≡ f ++ (i ++ (a ++ (b ++ (c ++ e))))
five f i a b c e = simp append_assoc

nine : (f i a k b m t c s e : List ℕ) → ((((((((f ++ i) ++ a) ++ k) ++ b) ++ m) ++ t) ++ c) ++ s) ++ e ≡ f ++ (i ++ (a ++ (k ++ (b ++ (m ++ (t ++ (c ++ (s ++ e))))))))
nine f i a k b m t c s e = simp append_assoc

pub at_level : (limited : Bool) (n : ℕ) (v : Value) (core : List ℕ) → Spells limited (suc n) v core → Spells limited (n + 1) v core
at_level limited n v core s = subst (λ (k : ℕ). Spells limited k v core) (omega arith) s

good_close : (outer : List Frame) (bs : List ℕ) (v : Value) (c : ℕ) → Stands outer (ended v) bs → Good (close_step (length bs) outer v c) bs c
unfolding close_step
good_close [] bs v c s = stuck bs c
good_close (in_array vs ∷ outer) bs v c s =
    let b = s.2 in
    let a = b.2.2 in
    let so_far : bs ≡ (((a.0 ++ 91 ∷ a.1) ++ b.2.1) ++ b.1) ++ s.1 = s.4 ∙ ap (λ x. x ++ s.1) (b.4 ∙ ap (λ x. x ++ b.1) (b.2.4 ∙ ap (λ x. x ++ b.2.1) a.5)) in
    cond_both (c == 44) _ _ (λ st. Good st bs c)
    (λ e. spaced_none (InArray (IsFront outer) (length outer) (vs ++ v ∷ [])) (bs ++ c ∷ []) (
      a.0,
      a.1 ++ (b.2.1 ++ (b.1 ++ (s.1 ++ 44 ∷ []))),
      a.2,
      a.3,
      front_items-push true (length outer + 1) vs a.1 v b.2.1 b.1 s.1 a.4 b.2.3 (at_level true (length outer) v b.1 b.3) s.3,
      named bs c 44 e ∙ (ap (λ x. x ++ 44 ∷ []) so_far ∙ five a.0 (91 ∷ a.1) b.2.1 b.1 s.1 (44 ∷ [])),
    ))
    (λ _. cond_both (c == 93) _ _ (λ st. Good st bs c)
    (λ e. spaced_none (BehindValue outer (array (items_of (vs ++ v ∷ [])))) (bs ++ c ∷ []) (
      a.0,
      91 ∷ (a.1 ++ (b.2.1 ++ (b.1 ++ s.1))) ++ 93 ∷ [],
      a.2,
      (a.1 ++ (b.2.1 ++ (b.1 ++ s.1)), (λ _. a.3), items_close true (length outer + 1) vs a.1 v b.2.1 b.1 s.1 a.4 b.2.3 (at_level true (length outer) v b.1 b.3) s.3, refl),
      named bs c 93 e ∙ (ap (λ x. x ++ 93 ∷ []) so_far ∙ (five a.0 (91 ∷ a.1) b.2.1 b.1 s.1 (93 ∷ []) ∙ ap (λ x. a.0 ++ (91 ∷ x)) (four a.1 b.2.1 b.1 s.1 (93 ∷ [])))),
    ))
    (λ _. stuck bs c))
good_close (in_object ms k ∷ outer) bs v c s =
    let b = s.2 in
    let colon = b.2.2 in
    let keyed = colon.1.2 in
    let o = keyed.2.2 in
    let so_far : bs ≡ (((((((o.0 ++ 123 ∷ o.1) ++ keyed.2.1) ++ keyed.1) ++ colon.1.1) ++ 58 ∷ []) ++ b.2.1) ++ b.1) ++ s.1 =
    s.4 ∙ ap (λ x. x ++ s.1) (b.4 ∙ ap (λ x. x ++ b.1) (b.2.4 ∙ ap (λ x. x ++ b.2.1) (colon.2 ∙ ap (λ x. x ++ 58 ∷ []) (colon.1.4 ∙ ap (λ x. x ++ colon.1.1) (keyed.5 ∙ ap (λ x. x ++ keyed.1) (keyed.2.4 ∙ ap (λ x. x ++ keyed.2.1) o.6)))))) in
    cond_both (c == 44) _ _ (λ st. Good st bs c)
    (λ e. spaced_none (InObject (IsFront outer) (length outer) (ms ++ (k, v) ∷ [])) (bs ++ c ∷ []) (
      o.0,
      o.1 ++ (keyed.2.1 ++ (keyed.1 ++ (colon.1.1 ++ (58 ∷ b.2.1 ++ (b.1 ++ (s.1 ++ 44 ∷ [])))))),
      o.2,
      o.3,
      front_members-push true (length outer + 1) ms o.1 k v keyed.2.1 keyed.1 colon.1.1 b.2.1 b.1 s.1 o.4 keyed.2.3 keyed.3 colon.1.3 b.2.3 (at_level true (length outer) v b.1 b.3) s.3,
      unique_more ms k v o.5 keyed.4,
      named bs c 44 e ∙ (ap (λ x. x ++ 44 ∷ []) so_far ∙ nine o.0 (123 ∷ o.1) keyed.2.1 keyed.1 colon.1.1 (58 ∷ []) b.2.1 b.1 s.1 (44 ∷ [])),
    ))
    (λ _. cond_both (c == 125) _ _ (λ st. Good st bs c)
    (λ e. spaced_none (BehindValue outer (object (members_of (ms ++ (k, v) ∷ [])))) (bs ++ c ∷ []) (
      o.0,
      123 ∷ (o.1 ++ (keyed.2.1 ++ (keyed.1 ++ (colon.1.1 ++ (58 ∷ b.2.1 ++ (b.1 ++ s.1)))))) ++ 125 ∷ [],
      o.2,
      (
        o.1 ++ (keyed.2.1 ++ (keyed.1 ++ (colon.1.1 ++ (58 ∷ b.2.1 ++ (b.1 ++ s.1))))),
        (λ _. o.3),
        (λ _. unique_more ms k v o.5 keyed.4),
        members_close true (length outer + 1) ms o.1 k v keyed.2.1 keyed.1 colon.1.1 b.2.1 b.1 s.1 o.4 keyed.2.3 keyed.3 colon.1.3 b.2.3 (at_level true (length outer) v b.1 b.3) s.3,
        refl,
      ),
      named bs c 125 e ∙ (ap (λ x. x ++ 125 ∷ []) so_far ∙ (nine o.0 (123 ∷ o.1) keyed.2.1 keyed.1 colon.1.1 (58 ∷ []) b.2.1 b.1 s.1 (125 ∷ [])
          ∙ ap (λ x. o.0 ++ (123 ∷ x)) (sym (simp append_assoc)))),
    ))
    (λ _. stuck bs c))

pub good_ended : (outer : List Frame) (bs : List ℕ) (v : Value) (c : ℕ) → Stands outer (ended v) bs → Good (ended_step (length bs) outer v c) bs c
unfolding ended_step
good_ended outer bs v c s = cond_both (is_space c) _ _ (λ st. Good st bs c) (λ e. spaced_more (BehindValue outer v) bs c s e) (λ _. good_close outer bs v c s)

-- literals
good_letter : (outer : List Frame) (bs : List ℕ) (v : Value) (ls : List ℕ) (c : ℕ) (l : ℕ) → LiteralText outer v (l ∷ ls) bs → (c == l) ≡ true → Stands outer (awaited v ls) (bs ++ c ∷ [])
good_letter outer bs v [] c l t e =
    spaced_none (BehindValue outer v) (bs ++ c ∷ []) (t.front, t.begun ++ l ∷ [], t.is_front, t.spells, named bs c l e ∙ one_more bs t.front t.begun l t.is)
good_letter outer bs v (m ∷ ls) c l t e = grind (arith, append_assoc, named, one_more, t, e)

pub good_literal : (outer : List Frame) (bs : List ℕ) (v : Value) (ls : List ℕ) (c : ℕ) → LiteralText outer v ls bs → Good (literal_step (length bs) outer v ls c) bs c
unfolding literal_step
good_literal outer bs v [] c t =
    good_ended outer bs v c (spaced_none (BehindValue outer v) bs (t.front, t.begun, t.is_front, subst (λ (x : List ℕ). Spells true (length outer) v x) (append-nil t.begun) t.spells, t.is))
good_literal outer bs v (l ∷ ls) c t = cond_both (c == l) _ _ (λ st. Good st bs c) (λ e. good_letter outer bs v ls c l t e) (λ _. stuck bs c)

-- where a value, a key or a colon has to come
pub good_first_item : (outer : List Frame) (bs : List ℕ) (c : ℕ) → IsFront (in_array [] ∷ outer) bs
    → Good (cond (is_space c) (next outer first_item) (cond (c == 93) (next outer (ended (array no_items))) (begin_step (length bs) (in_array [] ∷ outer) c))) bs c
good_first_item outer bs c f = cond_both (is_space c) _ _ (λ st. Good st bs c) (λ e. front_space (in_array [] ∷ outer) bs c f e)
    (λ _. cond_both (c == 93) _ _ (λ st. Good st bs c)
    (λ e. spaced_none (BehindValue outer (array no_items)) (bs ++ c ∷ [])
    (f.2.0, 91 ∷ f.1 ++ 93 ∷ [], f.2.2, (f.1, (λ _. f.2.3), f.3, refl), named bs c 93 e ∙ (ap (λ x. x ++ 93 ∷ []) (f.4 ∙ ap (λ x. x ++ f.1) (f.2.5 ∙ ap (λ x. f.2.0 ++ 91 ∷ x) f.2.4)) ∙ simp append_assoc)))
    (λ _. good_begin (in_array [] ∷ outer) bs c f))

pub good_key : (outer : List Frame) (ms : List Member) (bs : List ℕ) (c : ℕ) → IsKeyFront outer ms bs → Good (cond (c == 34) (next outer (quoted (for_key ms (length bs)) (plain []))) (stop (length bs) 2)) bs c
good_key outer ms bs c f = cond_both (c == 34) _ _ (λ st. Good st bs c) (λ e. string_begins outer (for_key ms (length bs)) bs c (f, refl) e) (λ _. stuck bs c)

pub good_first_key : (outer : List Frame) (bs : List ℕ) (c : ℕ) → IsKeyFront outer [] bs
    → Good (cond (is_space c) (next outer first_key) (cond (c == 125) (next outer (ended (object no_members))) (cond (c == 34) (next outer (quoted (for_key [] (length bs)) (plain []))) (stop (length bs) 2)))) bs c
good_first_key outer bs c f = cond_both (is_space c) _ _ (λ st. Good st bs c) (λ e. spaced_more (InObject (IsFront outer) (length outer) []) bs c f e)
    (λ _. cond_both (c == 125) _ _ (λ st. Good st bs c)
    (λ e. spaced_none (BehindValue outer (object no_members)) (bs ++ c ∷ [])
    (f.2.0, 123 ∷ f.1 ++ 125 ∷ [], f.2.2, (f.1, (λ _. f.2.3), (λ _. tt), f.3, refl), named bs c 125 e ∙ (ap (λ x. x ++ 125 ∷ []) (f.4 ∙ ap (λ x. x ++ f.1) (f.2.6 ∙ ap (λ x. f.2.0 ++ 123 ∷ x) f.2.4)) ∙ simp append_assoc)))
    (λ _. good_key outer [] bs c f))

pub good_colon : (outer : List Frame) (ms : List Member) (k bs : List ℕ) (c : ℕ) → Stands outer (colon_wanted ms k) bs
    → Good (cond (is_space c) (next outer (colon_wanted ms k)) (cond (c == 58) (next (in_object ms k ∷ outer) wanted) (stop (length bs) 2))) bs c
good_colon outer ms k bs c s = cond_both (is_space c) _ _ (λ st. Good st bs c) (λ e. spaced_more (BehindKey (IsFront outer) (length outer) ms k) bs c s e)
    (λ _. cond_both (c == 58) _ _ (λ st. Good st bs c)
    (λ e. spaced_none (BehindColon (IsFront outer) (length outer) ms k) (bs ++ c ∷ []) (bs, s, named bs c 58 e)) (λ _. stuck bs c))

-- ---- Each step of the machine inside a number is sound.
pub open_whole : (ds : List ℕ) → IsOpenWhole ds → IsWhole ds
open_whole [] w = absurd w
open_whole (d ∷ []) w = w.1.0
open_whole (d ∷ e ∷ ds) w = w

open_more : (ds : List ℕ) (d : ℕ) → IsOpenWhole ds → d < 10 → IsOpenWhole (ds ++ d ∷ [])
open_more [] d w lt = absurd w
open_more (e ∷ ds) d w lt = (w.0, each_more (λ k. k < 10) (e ∷ ds) d w.1 lt)

some_more : (fs : List ℕ) (d : ℕ) → IsSomeDigits fs → d < 10 → IsSomeDigits (fs ++ d ∷ [])
some_more [] d s lt = absurd s
some_more (f ∷ fs) d s lt = each_more (λ k. k < 10) (f ∷ fs) d s lt

pub some_digits : (fs : List ℕ) → IsSomeDigits fs → AreDigits fs
some_digits [] s = absurd s
some_digits (f ∷ fs) s = s

some_text : (fs : List ℕ) → IsSomeDigits fs → 46 ∷ numerals fs ≡ fraction_text fs
some_text [] s = absurd s
some_text (f ∷ fs) s = refl

-- the text so far with a digit behind it
digit_behind : (x : List ℕ) (ds : List ℕ) (c : ℕ) → is_digit c ≡ true → (x ++ numerals ds) ++ c ∷ [] ≡ x ++ numerals (ds ++ digit_of c ∷ [])
digit_behind x ds c e = append_assoc x (numerals ds) (c ∷ []) ∙ (ap (λ b. x ++ (numerals ds ++ b ∷ [])) (digit_again c e) ∙ ap (λ y. x ++ y) (sym (map-append (λ d. 48 + d) ds (digit_of c ∷ []))))

-- a front, and a token so far
grows : (outer : List Frame) (n : Numeral) (front begun bs later : List ℕ) (c : ℕ) → IsFront outer front → bs ≡ front ++ begun → begun ++ c ∷ [] ≡ later → NumeralText n later → Stands outer (numeral n) (bs ++ c ∷ [])
grows outer n front begun bs later c f e g t = (front, later, f, t, one_more bs front begun c e ∙ ap (λ x. front ++ x) g)

pub ends : (outer : List Frame) (n : Bool) (ds fs : List ℕ) (p : Power) (front begun bs : List ℕ) → IsFront outer front → bs ≡ front ++ begun → IsWhole ds → AreDigits fs → IsPower p
    → begun ≡ negative_text n ++ (numerals ds ++ (fraction_text fs ++ power_text p)) → Stands outer (ended (so_far n ds fs (is_down p) (written p))) bs
ends outer n ds fs p front begun bs f e w d q g = spaced_none (BehindValue outer (so_far n ds fs (is_down p) (written p))) bs
    (front, begun, f, record { negative = n; ds = ds; fs = fs; exponent = p; is_whole = w; are_digits = d; is_power = q; value = refl; spelled = g }, e)

pub whole_text : (n : Bool) (ds : List ℕ) → negative_text n ++ numerals ds ≡ negative_text n ++ (numerals ds ++ ([] ++ []))
whole_text n ds = ap (λ x. negative_text n ++ x) (sym (append-nil (numerals ds)))

pub fraction_end : (n : Bool) (ds fs : List ℕ) → IsSomeDigits fs → (negative_text n ++ numerals ds) ++ (46 ∷ numerals fs) ≡ negative_text n ++ (numerals ds ++ (fraction_text fs ++ []))
fraction_end n ds fs s = grind (arith, append_assoc, some_text, append-nil, s)

pub power_end : (n : Bool) (ds fs : List ℕ) (m : ℕ) (s : Sign) (d : ℕ) (es : List ℕ)
    → ((negative_text n ++ numerals ds) ++ fraction_text fs) ++ ((m ∷ sign_text s) ++ numerals (d ∷ es)) ≡ negative_text n ++ (numerals ds ++ (fraction_text fs ++ power_text (power m s d es)))
power_end n ds fs m s d es = grind (arith, append_assoc)

pub good_numeral : (outer : List Frame) (bs : List ℕ) (n : Numeral) (c : ℕ) → Stands outer (numeral n) bs → Good (numeral_step (length bs) outer n c) bs c
unfolding numeral_step
good_numeral outer bs minus c s =
    cond_both (c == 48) _ _ (λ st. Good st bs c)
    (λ e. grows outer (zero_first true) s.0 s.1 bs (45 ∷ 48 ∷ []) c s.2 s.4 (ap (λ x. x ++ c ∷ []) s.3 ∙ ap (λ b. 45 ∷ b ∷ []) (eqb-true c 48 e)) refl)
    (λ z. cond_both (is_digit c) _ _ (λ st. Good st bs c)
    (λ e. grows outer (whole true (digit_of c ∷ [])) s.0 s.1 bs (45 ∷ (48 + digit_of c) ∷ []) c s.2 s.4 (ap (λ x. x ++ c ∷ []) s.3 ∙ ap (λ b. 45 ∷ b ∷ []) (digit_again c e))
    ((above c e z, (digit_small c e, tt)), refl))
    (λ _. stuck bs c))
good_numeral outer bs (zero_first n) c s =
    cond_both (c == 46) _ _ (λ st. Good st bs c)
    (λ e. grows outer (point n (0 ∷ [])) s.0 s.1 bs ((negative_text n ++ 48 ∷ []) ++ 46 ∷ []) c s.2 s.4 (ap (λ x. x ++ c ∷ []) s.3 ∙ ap (λ b. (negative_text n ++ 48 ∷ []) ++ b ∷ []) (eqb-true c 46 e)) (omega arith, refl))
    (λ _. cond_both (is_mark c) _ _ (λ st. Good st bs c)
    (λ e. grows outer (mark n (0 ∷ []) []) s.0 s.1 bs (((negative_text n ++ 48 ∷ []) ++ []) ++ c ∷ []) c s.2 s.4
    (ap (λ x. x ++ c ∷ []) (s.3 ∙ sym (append-nil (negative_text n ++ 48 ∷ [])))) (c, omega arith, tt, e, refl))
    (λ _. good_ended outer bs (so_far n (0 ∷ []) [] false 0) c (ends outer n (0 ∷ []) [] no_power s.0 s.1 bs s.2 s.4 (omega arith) tt tt (s.3 ∙ whole_text n (0 ∷ [])))))
good_numeral outer bs (whole n ds) c s =
    cond_both (is_digit c) _ _ (λ st. Good st bs c)
    (λ e. grows outer (whole n (ds ++ digit_of c ∷ [])) s.0 s.1 bs (negative_text n ++ numerals (ds ++ digit_of c ∷ [])) c s.2 s.4
    (ap (λ x. x ++ c ∷ []) s.3.1 ∙ digit_behind (negative_text n) ds c e) (open_more ds (digit_of c) s.3.0 (digit_small c e), refl))
    (λ _. cond_both (c == 46) _ _ (λ st. Good st bs c)
    (λ e. grows outer (point n ds) s.0 s.1 bs ((negative_text n ++ numerals ds) ++ 46 ∷ []) c s.2 s.4 (ap (λ x. x ++ c ∷ []) s.3.1 ∙ ap (λ b. (negative_text n ++ numerals ds) ++ b ∷ []) (eqb-true c 46 e))
    (open_whole ds s.3.0, refl))
    (λ _. cond_both (is_mark c) _ _ (λ st. Good st bs c)
    (λ e. grows outer (mark n ds []) s.0 s.1 bs (((negative_text n ++ numerals ds) ++ []) ++ c ∷ []) c s.2 s.4
    (ap (λ x. x ++ c ∷ []) (s.3.1 ∙ sym (append-nil (negative_text n ++ numerals ds)))) (c, open_whole ds s.3.0, tt, e, refl))
    (λ _. good_ended outer bs (so_far n ds [] false 0) c (ends outer n ds [] no_power s.0 s.1 bs s.2 s.4 (open_whole ds s.3.0) tt tt (s.3.1 ∙ whole_text n ds)))))
good_numeral outer bs (point n ds) c s =
    cond_both (is_digit c) _ _ (λ st. Good st bs c)
    (λ e. grows outer (fraction n ds (digit_of c ∷ [])) s.0 s.1 bs ((negative_text n ++ numerals ds) ++ (46 ∷ (48 + digit_of c) ∷ [])) c s.2 s.4
    (ap (λ x. x ++ c ∷ []) s.3.1 ∙ (append_assoc (negative_text n ++ numerals ds) (46 ∷ []) (c ∷ []) ∙ ap (λ b. (negative_text n ++ numerals ds) ++ (46 ∷ b ∷ [])) (digit_again c e)))
    (s.3.0, (digit_small c e, tt), refl))
    (λ _. stuck bs c)
good_numeral outer bs (fraction n ds fs) c s =
    cond_both (is_digit c) _ _ (λ st. Good st bs c)
    (λ e. grows outer (fraction n ds (fs ++ digit_of c ∷ [])) s.0 s.1 bs ((negative_text n ++ numerals ds) ++ (46 ∷ numerals (fs ++ digit_of c ∷ []))) c s.2 s.4
    (ap (λ x. x ++ c ∷ []) s.3.2 ∙ (append_assoc (negative_text n ++ numerals ds) (46 ∷ numerals fs) (c ∷ []) ∙ ap (λ x. (negative_text n ++ numerals ds) ++ x) (digit_behind (46 ∷ []) fs c e)))
    (s.3.0, some_more fs (digit_of c) s.3.1 (digit_small c e), refl))
    (λ _. cond_both (is_mark c) _ _ (λ st. Good st bs c)
    (λ e. grows outer (mark n ds fs) s.0 s.1 bs (((negative_text n ++ numerals ds) ++ fraction_text fs) ++ c ∷ []) c s.2 s.4
    (ap (λ x. x ++ c ∷ []) (s.3.2 ∙ ap (λ x. (negative_text n ++ numerals ds) ++ x) (some_text fs s.3.1))) (c, s.3.0, some_digits fs s.3.1, e, refl))
    (λ _. good_ended outer bs (so_far n ds fs false 0) c (ends outer n ds fs no_power s.0 s.1 bs s.2 s.4 s.3.0 (some_digits fs s.3.1) tt (s.3.2 ∙ fraction_end n ds fs s.3.1))))
good_numeral outer bs (mark n ds fs) c s =
    let x : List ℕ = (negative_text n ++ numerals ds) ++ fraction_text fs in
    cond_both (c == 43) _ _ (λ st. Good st bs c)
    (λ e. grows outer (signed n ds fs false) s.0 s.1 bs (x ++ (s.3.0 ∷ 43 ∷ [])) c s.2 s.4
    (ap (λ y. y ++ c ∷ []) s.3.4 ∙ (append_assoc x (s.3.0 ∷ []) (c ∷ []) ∙ ap (λ b. x ++ (s.3.0 ∷ b ∷ [])) (eqb-true c 43 e))) (s.3.0, plus, s.3.1, s.3.2, s.3.3, refl, refl))
    (λ _. cond_both (c == 45) _ _ (λ st. Good st bs c)
    (λ e. grows outer (signed n ds fs true) s.0 s.1 bs (x ++ (s.3.0 ∷ 45 ∷ [])) c s.2 s.4
    (ap (λ y. y ++ c ∷ []) s.3.4 ∙ (append_assoc x (s.3.0 ∷ []) (c ∷ []) ∙ ap (λ b. x ++ (s.3.0 ∷ b ∷ [])) (eqb-true c 45 e))) (s.3.0, grammar.minus, s.3.1, s.3.2, s.3.3, refl, refl))
    (λ _. cond_both (is_digit c) _ _ (λ st. Good st bs c)
    (λ e. grows outer (exponent n ds fs false (digit_of c)) s.0 s.1 bs (x ++ (s.3.0 ∷ (48 + digit_of c) ∷ [])) c s.2 s.4
    (ap (λ y. y ++ c ∷ []) s.3.4 ∙ (append_assoc x (s.3.0 ∷ []) (c ∷ []) ∙ ap (λ b. x ++ (s.3.0 ∷ b ∷ [])) (digit_again c e)))
    (s.3.0, no_sign, digit_of c, [], s.3.1, s.3.2, s.3.3, refl, (digit_small c e, tt), omega arith, refl))
    (λ _. stuck bs c)))
good_numeral outer bs (signed n ds fs down) c s =
    let x : List ℕ = (negative_text n ++ numerals ds) ++ fraction_text fs in
    cond_both (is_digit c) _ _ (λ st. Good st bs c)
    (λ e. grows outer (exponent n ds fs down (digit_of c)) s.0 s.1 bs (x ++ ((s.3.0 ∷ sign_text s.3.1) ++ (48 + digit_of c) ∷ [])) c s.2 s.4
    (ap (λ y. y ++ c ∷ []) s.3.6 ∙ (append_assoc x (s.3.0 ∷ sign_text s.3.1) (c ∷ []) ∙ ap (λ b. x ++ ((s.3.0 ∷ sign_text s.3.1) ++ b ∷ [])) (digit_again c e)))
    (s.3.0, s.3.1, digit_of c, [], s.3.2, s.3.3, s.3.4, s.3.5, (digit_small c e, tt), omega arith, refl))
    (λ _. stuck bs c)
good_numeral outer bs (exponent n ds fs down w) c s =
    let x : List ℕ = (negative_text n ++ numerals ds) ++ fraction_text fs in
    let t = s.3 in
    let y : List ℕ = t.0 ∷ sign_text t.1 in
    cond_both (is_digit c) _ _ (λ st. Good st bs c)
    (λ e. grows outer (exponent n ds fs down (w * 10 + digit_of c)) s.0 s.1 bs (x ++ (y ++ numerals (t.2 ∷ t.3 ++ digit_of c ∷ []))) c s.2 s.4
    (ap (λ z. z ++ c ∷ []) t.10 ∙ (append_assoc x (y ++ numerals (t.2 ∷ t.3)) (c ∷ []) ∙ ap (λ z. x ++ z) (digit_behind y (t.2 ∷ t.3) c e))) (
      t.0,
      t.1,
      t.2,
      t.3 ++ digit_of c ∷ [],
      t.4,
      t.5,
      t.6,
      t.7,
      each_more (λ k. k < 10) (t.2 ∷ t.3) (digit_of c) t.8 (digit_small c e),
      ap (λ k. k * 10 + digit_of c) t.9 ∙ sym (fold-append (λ n d. n * 10 + d) 0 (t.2 ∷ t.3) (digit_of c ∷ [])),
      refl,
    ))
    (λ _. good_ended outer bs (so_far n ds fs down w) c
    (subst (λ (v : Value). Stands outer (ended v) bs) (ap (λ (b : Bool). so_far n ds fs b (whole_of (t.2 ∷ t.3))) (sym t.7) ∙ ap (λ k. so_far n ds fs down k) (sym t.9))
    (ends outer n ds fs (power t.0 t.1 t.2 t.3) s.0 s.1 bs s.2 s.4 t.4 t.5 (t.6, t.8) (t.10 ∙ power_end n ds fs t.0 t.1 t.2 t.3))))

-- ---- Each step of the machine inside a string is sound.
pub flat_map-push : {X Y : Type 0} (f : X → List Y) (xs : List X) (x : X) → flat_map f (xs ++ x ∷ []) ≡ flat_map f xs ++ f x
flat_map-push f xs x = flat_map-append f xs (x ∷ []) ∙ ap (λ zs. flat_map f xs ++ zs) (append-nil (f x))

pub none_alone : (c : Character) → IsCharacter true c → is_first_alone c ≡ false
none_alone (alone a b c d) is = (or_parts (is_high_surrogate (unit_of a b c d)) (is_low_surrogate (unit_of a b c d)) (is.1 refl)).0
none_alone _ is = refl

characters_more : (cs : List Character) (c : Character) → AreCharacters true cs → IsCharacter true c → AreCharacters true (cs ++ c ∷ [])
characters_more [] c are is = (is, and_left (is_first_alone c) (begins_with_second []) (none_alone c is), tt)
characters_more (d ∷ cs) c are is = (are.0, and_left (is_first_alone d) (begins_with_second (cs ++ c ∷ [])) (none_alone d are.0), characters_more cs c are.2 is)

-- a character more
add_character : (outer : List Frame) (p : Purpose) (t base bs : List ℕ) (c : Character) → InString outer p t base → IsCharacter true c → bs ≡ base ++ character_text c → InString outer p (t ++ meaning c) bs
add_character outer p t base bs c r is e = grind (arith, characters_more, flat_map-push, append_assoc, r, is, e)

-- an escape of one unit of a pair
pub lacks : (outer : List Frame) (p : Purpose) (t base bytes : List ℕ) (here back a b c d : ℕ) (more : List ℕ) → InString outer p t base → back ≡ length base → AreHex a b c d
    → (is_low_surrogate (unit_of a b c d) ≡ true) ⊎ ((is_high_surrogate (unit_of a b c d) ≡ true) × LacksSecond more) → bytes ≡ base ++ (92 ∷ 117 ∷ a ∷ b ∷ c ∷ d ∷ more) → Caught bytes here back 5
lacks outer p t base bytes here back a b c d more r e hex which f = grind (arith, r, e, hex, which, f)

-- the quote at the end
closed : (front cs bs : List ℕ) (c : ℕ) → bs ≡ front ++ (34 ∷ cs) → (c == 34) ≡ true → bs ++ c ∷ [] ≡ front ++ (34 ∷ cs ++ 34 ∷ [])
closed front cs bs c e q = named bs c 34 q ∙ one_more bs front (34 ∷ cs) 34 e

good_quote : (outer : List Frame) (p : Purpose) (t bs : List ℕ) (c : ℕ) → InString outer p t bs → (c == 34) ≡ true → Good (quote_step outer p t) bs c
unfolding quote_step
good_quote outer for_value t bs c r q =
    spaced_none (BehindValue outer (text t)) (bs ++ c ∷ [])
    (r.front, 34 ∷ flat_map character_text r.cs ++ 34 ∷ [], r.is_front, (r.cs, r.are, r.text, refl), closed r.front (flat_map character_text r.cs) bs c r.is q)
good_quote outer (for_key ms at) t bs c r q =
    let key : List ℕ = 34 ∷ flat_map character_text r.cs ++ 34 ∷ [] in
    cond_both (has_key (members_of ms) t) _ _ (λ s. Good s bs c)
    (λ e. λ cs. inr (inr (inl (
      refl,
      (
        outer,
        ms,
        r.front,
        key,
        t,
        cs,
        r.is_front.0,
        (r.cs, r.are, r.text, refl),
        e,
        r.is_front.1,
        sym (append_assoc bs (c ∷ []) cs) ∙ (ap (λ x. x ++ cs) (closed r.front (flat_map character_text r.cs) bs c r.is q) ∙ append_assoc r.front key cs),
      ),
    ))))
    (λ e. spaced_none (BehindKey (IsFront outer) (length outer) ms t) (bs ++ c ∷ [])
    (r.front, key, r.is_front.0, (r.cs, r.are, r.text, refl), e, closed r.front (flat_map character_text r.cs) bs c r.is q))

good_plain : (outer : List Frame) (p : Purpose) (t bs : List ℕ) (c : ℕ) → InString outer p t bs → Good (quoted_step (length bs) outer p (plain t) c) bs c
unfolding quoted_step
good_plain outer p t bs c r =
    cond_both (c == 34) _ _ (λ s. Good s bs c) (λ e. good_quote outer p t bs c r e) (λ q.
    cond_both (c == 92) _ _ (λ s. Good s bs c) (λ e. (bs, r, refl, named bs c 92 e)) (λ b.
    cond_both (nat_le 32 c) _ _ (λ s. Good s bs c) (λ e. add_character outer p t bs (bs ++ c ∷ []) (itself c) r (and_from (not (c == 34) && not (c == 92)) (nat_le 32 c) (and_from (not (c == 34)) (not (c == 92)) (not_from_false (c == 34) q) (not_from_false (c == 92) b)) e) refl) (λ _. stuck bs c)))

longer_by : (bs base a : List ℕ) (c k : ℕ) → bs ≡ base ++ a → (c == k) ≡ true → bs ++ c ∷ [] ≡ base ++ (a ++ k ∷ [])
longer_by bs base a c k e f = named bs c k f ∙ one_more bs base a k e

and_then : (bs base a : List ℕ) (c : ℕ) (cs : List ℕ) → bs ≡ base ++ a → bs ++ c ∷ cs ≡ base ++ (a ++ c ∷ cs)
and_then bs base a c cs e = ap (λ x. x ++ c ∷ cs) e ∙ append_assoc base a (c ∷ cs)

good_escaped : (outer : List Frame) (p : Purpose) (t bs : List ℕ) (back c : ℕ) (o : Option ℕ) → short_escape c ≡ o → QuotedText outer p (escaped t back) bs → Good (escape_step (length bs) outer p t back o c) bs c
unfolding escape_step
good_escaped outer p t bs back c None e r =
    cond_both (c == 117) _ _ (λ s. Good s bs c) (λ f. (r.0, r.1, r.2, tt, longer_by bs r.0 (92 ∷ []) c 117 r.3 f)) (λ _. stuck bs c)
good_escaped outer p t bs back c (Some b) e r = add_character outer p t r.0 (bs ++ c ∷ []) (short c b) r.1 e (one_more bs r.0 (92 ∷ []) c r.3)

good_unit : (outer : List Frame) (p : Purpose) (t bs base : List ℕ) (back a b d c : ℕ) → InString outer p t base → back ≡ length base → AreHex a b d c → bs ≡ base ++ (92 ∷ 117 ∷ a ∷ b ∷ d ∷ [])
    → Good (unit_step outer p t back (unit_of a b d c)) bs c
unfolding unit_step
good_unit outer p t bs base back a b d c r e hex f =
    let u : ℕ = unit_of a b d c in
    cond_both (is_high_surrogate u) _ _ (λ s. Good s bs c)
    (λ h. (base, a, b, d, c, r, e, hex, refl, h, one_more bs base (92 ∷ 117 ∷ a ∷ b ∷ d ∷ []) c f))
    (λ h. cond_both (is_low_surrogate u) _ _ (λ s. Good s bs c)
    (λ l. λ cs. lacks outer p t base (bs ++ c ∷ cs) (length bs) back a b d c cs r e hex (inl l) (and_then bs base (92 ∷ 117 ∷ a ∷ b ∷ d ∷ []) c cs f))
    (λ l. add_character outer p t base (bs ++ c ∷ []) (alone a b d c) r (hex, λ _. or_from (is_high_surrogate u) (is_low_surrogate u) h l) (one_more bs base (92 ∷ 117 ∷ a ∷ b ∷ d ∷ []) c f)))

good_hex : (outer : List Frame) (p : Purpose) (t bs : List ℕ) (back : ℕ) (h : Hex) (c : ℕ) → QuotedText outer p (unit t back h) bs → is_hex c ≡ true
    → Good (more_hex h c (λ m. next outer (quoted p (unit t back m))) (λ u. unit_step outer p t back u)) bs c
unfolding more_hex
good_hex outer p t bs back no_digit c r e = (r.0, r.1, r.2, e, one_more bs r.0 (92 ∷ 117 ∷ []) c r.4)
good_hex outer p t bs back (one_digit a) c r e = (r.0, r.1, r.2, (r.3, e), one_more bs r.0 (92 ∷ 117 ∷ a ∷ []) c r.4)
good_hex outer p t bs back (two_digits a b) c r e = (r.0, r.1, r.2, (r.3.0, r.3.1, e), one_more bs r.0 (92 ∷ 117 ∷ a ∷ b ∷ []) c r.4)
good_hex outer p t bs back (three_digits a b d) c r e = good_unit outer p t bs r.0 back a b d c r.1 r.2 (r.3.0, r.3.1, r.3.2, e) r.4

-- behind the first unit of a pair
no_second_at : (c k : ℕ) (cs : List ℕ) → (c == k) ≡ false → (xs : List ℕ) → c ∷ cs ≡ k ∷ xs → ⊥
no_second_at c k cs e xs f = eqb-false c k e (let g : c ≡ k = cc in g)

hex_not : (c a : ℕ) → is_hex c ≡ false → is_hex a ≡ true → c ≡ a → ⊥
hex_not c a e f g = false≢true (sym e ∙ (ap is_hex g ∙ f))

lacks_digit : (h : Hex) (c : ℕ) (cs : List ℕ) → is_hex c ≡ false → LacksSecond (92 ∷ 117 ∷ hex_text h ++ c ∷ cs)
lacks_digit no_digit c cs e = λ a b d f rest hex low g. hex_not c a e hex.0 cc
lacks_digit (one_digit x) c cs e = λ a b d f rest hex low g. hex_not c b e hex.1 cc
lacks_digit (two_digits x y) c cs e = λ a b d f rest hex low g. hex_not c d e hex.2 cc
lacks_digit (three_digits x y z) c cs e = λ a b d f rest hex low g. hex_not c f e hex.3 cc

lacks_low : (a b d f : ℕ) (cs : List ℕ) → is_low_surrogate (unit_of a b d f) ≡ false → LacksSecond (92 ∷ 117 ∷ a ∷ b ∷ d ∷ f ∷ cs)
lacks_low a b d f cs e = grind (arith, e)

pub high_of : (u a b c d : ℕ) → u ≡ unit_of a b c d → is_high_surrogate u ≡ true → is_high_surrogate (unit_of a b c d) ≡ true
high_of u a b c d e h = ap is_high_surrogate (sym e) ∙ h

good_high : (outer : List Frame) (p : Purpose) (t bs : List ℕ) (back u c : ℕ) → QuotedText outer p (high t back u) bs → Good (quoted_step (length bs) outer p (high t back u) c) bs c
unfolding quoted_step
good_high outer p t bs back u c r =
    cond_both (c == 92) _ _ (λ s. Good s bs c)
    (λ e. (r.0, r.1, r.2, r.3, r.4, r.5, r.6, r.7, r.8, r.9, longer_by bs r.0 (92 ∷ 117 ∷ r.1 ∷ r.2 ∷ r.3 ∷ r.4 ∷ []) c 92 r.10 e))
    (λ e. λ cs. lacks outer p t r.0 (bs ++ c ∷ cs) (length bs) back r.1 r.2 r.3 r.4 (c ∷ cs) r.5 r.6 r.7 (inr (high_of u r.1 r.2 r.3 r.4 r.8 r.9, (λ a b d f rest hex low g. no_second_at c 92 cs e (117 ∷ a ∷ b ∷ d ∷ f ∷ rest) g)))
    (and_then bs r.0 (92 ∷ 117 ∷ r.1 ∷ r.2 ∷ r.3 ∷ r.4 ∷ []) c cs r.10))

good_high_escaped : (outer : List Frame) (p : Purpose) (t bs : List ℕ) (back u c : ℕ) → QuotedText outer p (high_escaped t back u) bs → Good (quoted_step (length bs) outer p (high_escaped t back u) c) bs c
unfolding quoted_step
good_high_escaped outer p t bs back u c r =
    cond_both (c == 117) _ _ (λ s. Good s bs c)
    (λ e. (r.0, r.1, r.2, r.3, r.4, r.5, r.6, r.7, r.8, r.9, tt, longer_by bs r.0 (92 ∷ 117 ∷ r.1 ∷ r.2 ∷ r.3 ∷ r.4 ∷ 92 ∷ []) c 117 r.10 e))
    (λ e. λ cs. lacks outer p t r.0 (bs ++ c ∷ cs) (length bs) back r.1 r.2 r.3 r.4 (92 ∷ c ∷ cs) r.5 r.6 r.7 (inr (high_of u r.1 r.2 r.3 r.4 r.8 r.9, (λ a b d f rest hex low g. eqb-false c 117 e (let h : c ≡ 117 = cc in h))))
    (and_then bs r.0 (92 ∷ 117 ∷ r.1 ∷ r.2 ∷ r.3 ∷ r.4 ∷ 92 ∷ []) c cs r.10))

good_pair : (outer : List Frame) (p : Purpose) (t bs base : List ℕ) (back u a b d e f g h c : ℕ) → InString outer p t base → back ≡ length base → AreHex a b d e → u ≡ unit_of a b d e → is_high_surrogate u ≡ true
    → AreHex f g h c → bs ≡ base ++ (92 ∷ 117 ∷ a ∷ b ∷ d ∷ e ∷ 92 ∷ 117 ∷ f ∷ g ∷ h ∷ []) → Good (pair_step outer p t back u (unit_of f g h c)) bs c
unfolding pair_step
good_pair outer p t bs base back u a b d e f g h c r at hex is is_high second text_is =
    let v : ℕ = unit_of f g h c in
    let so_far : List ℕ = 92 ∷ 117 ∷ a ∷ b ∷ d ∷ e ∷ 92 ∷ 117 ∷ f ∷ g ∷ h ∷ [] in
    cond_both (is_low_surrogate v) _ _ (λ s. Good s bs c)
    (λ l. subst (λ (w : ℕ). InString outer p (t ++ encode_utf8 (surrogate_pair_char w v)) (bs ++ c ∷ [])) (sym is)
    (add_character outer p t base (bs ++ c ∷ []) (pair a b d e f g h c) r (hex, second, high_of u a b d e is is_high, l) (one_more bs base so_far c text_is)))
    (λ l. λ cs. lacks outer p t base (bs ++ c ∷ cs) (length bs) back a b d e (92 ∷ 117 ∷ f ∷ g ∷ h ∷ c ∷ cs) r at hex (inr (high_of u a b d e is is_high, lacks_low f g h c cs l))
    (and_then bs base so_far c cs text_is))

good_second : (outer : List Frame) (p : Purpose) (t bs : List ℕ) (back u : ℕ) (h : Hex) (c : ℕ) → QuotedText outer p (high_unit t back u h) bs → is_hex c ≡ true
    → Good (more_hex h c (λ m. next outer (quoted p (high_unit t back u m))) (λ v. pair_step outer p t back u v)) bs c
unfolding more_hex
good_second outer p t bs back u no_digit c r e =
    (r.0, r.1, r.2, r.3, r.4, r.5, r.6, r.7, r.8, r.9, e, one_more bs r.0 (92 ∷ 117 ∷ r.1 ∷ r.2 ∷ r.3 ∷ r.4 ∷ 92 ∷ 117 ∷ []) c r.11)
good_second outer p t bs back u (one_digit x) c r e =
    (r.0, r.1, r.2, r.3, r.4, r.5, r.6, r.7, r.8, r.9, (r.10, e), one_more bs r.0 (92 ∷ 117 ∷ r.1 ∷ r.2 ∷ r.3 ∷ r.4 ∷ 92 ∷ 117 ∷ x ∷ []) c r.11)
good_second outer p t bs back u (two_digits x y) c r e =
    (r.0, r.1, r.2, r.3, r.4, r.5, r.6, r.7, r.8, r.9, (r.10.0, r.10.1, e), one_more bs r.0 (92 ∷ 117 ∷ r.1 ∷ r.2 ∷ r.3 ∷ r.4 ∷ 92 ∷ 117 ∷ x ∷ y ∷ []) c r.11)
good_second outer p t bs back u (three_digits x y z) c r e =
    good_pair outer p t bs r.0 back u r.1 r.2 r.3 r.4 x y z c r.5 r.6 r.7 r.8 r.9 (r.10.0, r.10.1, r.10.2, e) r.11

pub good_quoted : (outer : List Frame) (p : Purpose) (q : Quoted) (bs : List ℕ) (c : ℕ) → QuotedText outer p q bs → Good (quoted_step (length bs) outer p q c) bs c
unfolding quoted_step
good_quoted outer p (plain t) bs c r = good_plain outer p t bs c r
good_quoted outer p (escaped t back) bs c r = good_escaped outer p t bs back c (short_escape c) refl r
good_quoted outer p (unit t back h) bs c r = cond_both (is_hex c) _ _ (λ s. Good s bs c) (λ e. good_hex outer p t bs back h c r e) (λ _. stuck bs c)
good_quoted outer p (high t back u) bs c r = good_high outer p t bs back u c r
good_quoted outer p (high_escaped t back u) bs c r = good_high_escaped outer p t bs back u c r
good_quoted outer p (high_unit t back u h) bs c r = cond_both (is_hex c) _ _ (λ s. Good s bs c) (λ e. good_second outer p t bs back u h c r e)
    (λ e. λ cs. lacks outer p t r.0 (bs ++ c ∷ cs) (length bs) back r.1 r.2 r.3 r.4 (92 ∷ 117 ∷ hex_text h ++ c ∷ cs) r.5 r.6 r.7 (inr (high_of u r.1 r.2 r.3 r.4 r.8 r.9, lacks_digit h c cs e))
    (and_then bs r.0 (92 ∷ 117 ∷ r.1 ∷ r.2 ∷ r.3 ∷ r.4 ∷ 92 ∷ 117 ∷ hex_text h) c cs r.11))

-- ---- What the machine answers is true of the bytes.
pub good_step : (outer : List Frame) (spot : Spot) (bs : List ℕ) (c : ℕ) → Stands outer spot bs → Good (step (length bs) outer spot c) bs c
unfolding step
good_step outer wanted bs c s = cond_both (is_space c) _ _ (λ st. Good st bs c) (λ e. front_space outer bs c s e) (λ _. good_begin outer bs c s)
good_step outer first_item bs c s = good_first_item outer bs c s
good_step outer first_key bs c s = good_first_key outer bs c s
good_step outer (key_wanted ms) bs c s = cond_both (is_space c) _ _ (λ st. Good st bs c) (λ e. spaced_more (InObject (IsFront outer) (length outer) ms) bs c s e) (λ _. good_key outer ms bs c s)
good_step outer (colon_wanted ms k) bs c s = good_colon outer ms k bs c s
good_step outer (ended v) bs c s = good_ended outer bs v c s
good_step outer (literal v ls) bs c s = good_literal outer bs v ls c s
good_step outer (numeral n) bs c s = good_numeral outer bs n c s
good_step outer (quoted p q) bs c s = good_quoted outer p q bs c s

-- The machine goes no further than a place, and what it goes through stands in the bytes.
pub record Stops (bytes : List ℕ) (k : ℕ) : Type 0 where
  pub front : List ℕ
  pub outer : List Frame
  pub spot : Spot
  pub stands : Stands outer spot front
  pub place : k ≡ length front
  pub runs : (xs : List ℕ) → whole_outcome (front ++ xs) ≡ outcome (length front) outer spot xs
  pub ends : (bytes ≡ front) ⊎ ((c : ℕ) × (cs : List ℕ) × (bytes ≡ front ++ c ∷ cs) × (step (length front) outer spot c ≡ stop k 2))

abbrev pub IsSound : List ℕ → Outcome → Type 0
IsSound bytes (done v) = SpellsText true v bytes
IsSound bytes (fault k kind) = ((kind ≡ 2) × Stops bytes k) ⊎ (((kind ≡ 3) × OpensTooDeep bytes k) ⊎ (((kind ≡ 4) × RepeatsKey bytes k) ⊎ ((kind ≡ 5) × LacksPartner bytes k)))

-- how the machine came to a spot
abbrev Runs : List ℕ → List Frame → Spot → Type 0
Runs bs outer spot = (xs : List ℕ) → whole_outcome (bs ++ xs) ≡ outcome (length bs) outer spot xs

cut : (outer : List Frame) (spot : Spot) (bs : List ℕ) → Stands outer spot bs → Runs bs outer spot → IsSound (bs ++ []) (fault (length bs) 2)
cut outer spot bs s r = inl (refl, record { front = bs; outer = outer; spot = spot; stands = s; place = refl; runs = r; ends = inl (append-nil bs) })

value_ends : (outer : List Frame) (spot : Spot) (v : Value) (bs : List ℕ) → Stands outer spot bs → Stands outer (ended v) bs → Runs bs outer spot → IsSound (bs ++ []) (finish_value (length bs) outer v)
unfolding finish_value
value_ends [] spot v bs s t r = (t.2.0, t.2.1, t.1, t.2.2, t.2.3, t.3, append-nil bs ∙ (t.4 ∙ (ap (λ x. x ++ t.1) t.2.4 ∙ append_assoc t.2.0 t.2.1 t.1)))
value_ends (f ∷ outer) spot v bs s t r = cut (f ∷ outer) spot bs s r

lacks_digits : (h : Hex) → LacksSecond (92 ∷ 117 ∷ hex_text h)
lacks_digits no_digit = λ a b c d rest hex low e. cc
lacks_digits _ = λ a b c d rest hex low e. cc

-- a fault that is none of the second kind
late : {bytes : List ℕ} {here k : ℕ} → Caught bytes here k 5 → IsSound bytes (fault k 5)
late (inl e) = absurd (omega (arith, e.0))
late (inr e) = inr e

sound_end : (outer : List Frame) (spot : Spot) (bs : List ℕ) → Stands outer spot bs → Runs bs outer spot → IsSound (bs ++ []) (finish (length bs) outer spot)
unfolding finish
sound_end outer (ended v) bs s r = value_ends outer (ended v) v bs s s r
sound_end outer (numeral (zero_first n)) bs s r =
    value_ends outer (numeral (zero_first n)) (so_far n (0 ∷ []) [] false 0) bs s (ends outer n (0 ∷ []) [] no_power s.0 s.1 bs s.2 s.4 (omega arith) tt tt (s.3 ∙ whole_text n (0 ∷ []))) r
sound_end outer (numeral (whole n ds)) bs s r =
    value_ends outer (numeral (whole n ds)) (so_far n ds [] false 0) bs s (ends outer n ds [] no_power s.0 s.1 bs s.2 s.4 (open_whole ds s.3.0) tt tt (s.3.1 ∙ whole_text n ds)) r
sound_end outer (numeral (fraction n ds fs)) bs s r =
    value_ends outer (numeral (fraction n ds fs)) (so_far n ds fs false 0) bs s (ends outer n ds fs no_power s.0 s.1 bs s.2 s.4 s.3.0 (some_digits fs s.3.1) tt (s.3.2 ∙ fraction_end n ds fs s.3.1)) r
sound_end outer (numeral (exponent n ds fs down w)) bs s r =
    let t = s.3 in
    value_ends outer (numeral (exponent n ds fs down w)) (so_far n ds fs down w) bs s
    (subst (λ (v : Value). Stands outer (ended v) bs) (ap (λ (b : Bool). so_far n ds fs b (whole_of (t.2 ∷ t.3))) (sym t.7) ∙ ap (λ k. so_far n ds fs down k) (sym t.9))
    (ends outer n ds fs (power t.0 t.1 t.2 t.3) s.0 s.1 bs s.2 s.4 t.4 t.5 (t.6, t.8) (t.10 ∙ power_end n ds fs t.0 t.1 t.2 t.3))) r
sound_end outer (quoted p (high t back u)) bs s r =
    late (lacks outer p t s.0 (bs ++ []) (length bs) back s.1 s.2 s.3 s.4 [] s.5 s.6 s.7 (inr (high_of u s.1 s.2 s.3 s.4 s.8 s.9, (λ a b c d rest hex low e. cc))) (append-nil bs ∙ s.10))
sound_end outer (quoted p (high_escaped t back u)) bs s r =
    late (lacks outer p t s.0 (bs ++ []) (length bs) back s.1 s.2 s.3 s.4 (92 ∷ []) s.5 s.6 s.7 (inr (high_of u s.1 s.2 s.3 s.4 s.8 s.9, (λ a b c d rest hex low e. cc))) (append-nil bs ∙ s.10))
sound_end outer (quoted p (high_unit t back u h)) bs s r =
    late (lacks outer p t s.0 (bs ++ []) (length bs) back s.1 s.2 s.3 s.4 (92 ∷ 117 ∷ hex_text h) s.5 s.6 s.7 (inr (high_of u s.1 s.2 s.3 s.4 s.8 s.9, lacks_digits h)) (append-nil bs ∙ s.11))
sound_end outer spot bs s r = cut outer spot bs s r

caught : (bytes bs : List ℕ) (outer : List Frame) (spot : Spot) (c : ℕ) (cs : List ℕ) (k kind : ℕ) → Stands outer spot bs → Runs bs outer spot → bytes ≡ bs ++ c ∷ cs → step (length bs) outer spot c ≡ stop k kind
    → Caught bytes (length bs) k kind → IsSound bytes (fault k kind)
caught bytes bs outer spot c cs k kind s r e f (inl g) = grind (arith, s, r, e, f, g)
caught bytes bs outer spot c cs k kind s r e f (inr g) = inr g

-- one byte, and what comes behind it
sound_step : (bs : List ℕ) (outer : List Frame) (spot : Spot) (c : ℕ) (cs : List ℕ) (s : Step) → step (length bs) outer spot c ≡ s → Stands outer spot bs → Runs bs outer spot → Good s bs c
    → ((o : List Frame) (t : Spot) → Stands o t (bs ++ c ∷ []) → Runs (bs ++ c ∷ []) o t → IsSound ((bs ++ c ∷ []) ++ cs) (outcome (length (bs ++ c ∷ [])) o t cs))
    → IsSound (bs ++ c ∷ cs) (after s (λ o t. outcome (suc (length bs)) o t cs))
unfolding outcome
sound_step bs outer spot c cs (next o t) e stands runs good later =
    let size : length (bs ++ c ∷ []) ≡ suc (length bs) = omega (arith, length-append bs (c ∷ [])) in
    let runs' : Runs (bs ++ c ∷ []) o t = λ xs. ap whole_outcome (append_assoc bs (c ∷ []) xs) ∙ (runs (c ∷ xs) ∙ (ap (λ s. after s (λ o t. outcome (suc (length bs)) o t xs)) e ∙ ap (λ k. outcome k o t xs) (sym size))) in
    subst (λ (xs : List ℕ). IsSound xs (outcome (suc (length bs)) o t cs)) (append_assoc bs (c ∷ []) cs)
    (subst (λ (k : ℕ). IsSound ((bs ++ c ∷ []) ++ cs) (outcome k o t cs)) size (later o t good runs'))
sound_step bs outer spot c cs (stop k kind) e stands runs good later = caught (bs ++ c ∷ cs) bs outer spot c cs k kind stands runs refl e (good cs)

sound : (rest bs : List ℕ) (outer : List Frame) (spot : Spot) → Stands outer spot bs → Runs bs outer spot → IsSound (bs ++ rest) (outcome (length bs) outer spot rest)
unfolding outcome
sound [] bs outer spot s r = sound_end outer spot bs s r
sound (c ∷ cs) bs outer spot s r =
    sound_step bs outer spot c cs (step (length bs) outer spot c) refl s r (good_step outer spot bs c s) (λ o t stands runs. sound cs (bs ++ c ∷ []) o t stands runs)

pub is_sound : (bytes : List ℕ) → IsSound bytes (whole_outcome bytes)
unfolding whole_outcome
is_sound bytes = sound bytes [] [] wanted tt (λ xs. refl)
