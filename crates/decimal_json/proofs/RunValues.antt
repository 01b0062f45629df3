-- The machine at numbers, strings and values of the grammar.
use Rattle.std.proofs.Common.{◌≡◌, ℕ, ◌+◌, ◌*◌, ◌<◌, suc, List, [], ◌∷◌, ◌++◌, length, refl, sym, ap, subst, ◌∙◌, arith, Bool, true, false, append_assoc, length-append, fold, ⊎_elim, ◌==◌, inl, inr, lit<, Some, None, ◌||◌, cond, nat_le, ◌⊎◌, encode_utf8, nat_lt, append-nil}
use Rattle.std.proofs.lemmas.Bool.{and_from, le-leb, cases_eq, ne_eqb, cases_Bool, or_cases, or_parts, false≢true, or_left, lt-ltb, ltb-true}
use Rattle.decimal_json.specs.Value.{Decimal, number, Value, null, boolean, text, array, object, Items, no_items, item, Members, no_members, member, members_of, has_key, is_digit, digit_of, is_mark, whole_of, Frame, Purpose, Member, in_array, in_object, for_value, for_key}
use Rattle.decimal_json.specs.inside.Scan.{Spot, wanted, ended, numeral, zero_first, whole, point, fraction, mark, signed, exponent, so_far, next, step, begin_step, numeral_step, finish, after, outcome, quoted, Quoted, plain, escaped, unit, high, high_escaped, high_unit, Hex, no_digit, one_digit, two_digits, three_digits, Step, stop, Outcome, fault, quoted_step, quote_step, unit_step, pair_step, more_hex, escape_step, first_item, first_key, key_wanted, colon_wanted, done, literal_step, opened, finish_value, whole_outcome, ended_step, close_step, begun}
use Rattle.decimal_json.specs.Grammar.{AreDigits, numerals, IsWhole, fraction_text, Power, no_power, power, Sign, no_sign, plus, minus, sign_text, is_minus, power_text, is_down, written, IsPower, negative_text, IsNumber, Character, itself, short, alone, pair, character_text, meaning, AreHex, is_surrogate, begins_with_second, AreCharacters, IsSpace, IsString, HasUniqueKeys, Spells, SpellsItems, SpellsMoreItems, SpellsMembers, SpellsMoreMembers, SpellsText}
use Rattle.decimal_json.proofs.Moves.{Moves, moves_none, moves_byte, moves_then, moves_on, placed_at, Delimits, delimiter_is, Refuses, refuses_along, space_moves, Arrives, arrives_then, arrives_by}
use Rattle.decimal_json.proofs.Numerals.{whole_starts, zero_starts, mark_is, unit_each, second_each, escaped_some, low_not_high, plain_leads, plain_quote, plain_parts}
use Rattle.std.specs.List.{flat_map}
use Rattle.std.specs.Char.Utf16.{is_low_surrogate, is_high_surrogate, surrogate_pair_char}
use Rattle.decimal_json.specs.Characters.{short_escape, is_hex, unit_of, is_space, rue, alse, ull, depth_limit}
use Rattle.decimal_json.proofs.Values.{first_item_other, first_key_other, item_comma, quote_known, quote_new, items_onto, members_onto, items_of-push, items_onto-push, members_of-push, members_onto-push, new_key}
use Rattle.decimal_json.proofs.Growth.{four, seven}

digit_written : (d : ℕ) → d < 10 → is_digit (48 + d) ≡ true
digit_written d small = and_from (nat_le 48 (48 + d)) (nat_le (48 + d) 57) (le-leb 48 (48 + d) (omega arith)) (le-leb (48 + d) 57 (omega arith))

digit_read : (d : ℕ) → digit_of (48 + d) ≡ d
digit_read d = omega arith

-- a digit leads to a spot that has it, and digits to one that has them all
digit_leads : (next_spot : ℕ → Spot) (at : ℕ) (outer : List Frame) (spot : Spot) (d : ℕ) → d < 10
    → (is_digit (48 + d) ≡ true → step at outer spot (48 + d) ≡ next outer (next_spot (digit_of (48 + d)))) → step at outer spot (48 + d) ≡ next outer (next_spot d)
digit_leads next_spot at outer spot d small leads = leads (digit_written d small) ∙ ap (λ e. next outer (next_spot e)) (digit_read d)

digits_move : (spot : List ℕ → Spot) (at : ℕ) (outer : List Frame) → ((k : ℕ) (xs : List ℕ) (d : ℕ) → d < 10 → step k outer (spot xs) (48 + d) ≡ next outer (spot (xs ++ d ∷ [])))
    → (xs ds : List ℕ) → AreDigits ds → Moves at outer (spot xs) (numerals ds) outer (spot (xs ++ ds))
digits_move spot at outer each xs [] are = subst (λ (ys : List ℕ). Moves at outer (spot xs) [] outer (spot ys)) (sym (append-nil xs)) (moves_none at outer (spot xs))
digits_move spot at outer each xs (d ∷ ds) are = grind (arith, moves_on, append_assoc, each, are, (digits_move spot (at + 1) outer each (xs ++ d ∷ []) ds are.1))

exponent_moves : (at : ℕ) (outer : List Frame) (n : Bool) (ws fs : List ℕ) (down : Bool) (w : ℕ) (ds : List ℕ) → AreDigits ds
    → Moves at outer (numeral (exponent n ws fs down w)) (numerals ds) outer (numeral (exponent n ws fs down (fold (λ k d. k * 10 + d) w ds)))
unfolding step numeral_step
exponent_moves at outer n ws fs down w [] are = moves_none at outer (numeral (exponent n ws fs down w))
exponent_moves at outer n ws fs down w (d ∷ ds) are =
    moves_on at (48 + d) outer (numeral (exponent n ws fs down w)) outer (numeral (exponent n ws fs down (w * 10 + d))) (numerals ds) outer (numeral (exponent n ws fs down (fold (λ k d. k * 10 + d) (w * 10 + d) ds)))
    (rw (digit_written d are.0) (ap (λ e. next outer (numeral (exponent n ws fs down (w * 10 + e)))) (digit_read d)))
    (exponent_moves (at + 1) outer n ws fs down (w * 10 + d) ds are.1)

-- a spot where a number may end, with these digits before and after the point
record CanEnd (n : Bool) (ds fs : List ℕ) (spot : Spot) : Type 0 where
  marked : (at m : ℕ) (outer : List Frame) → is_mark m ≡ true → step at outer spot m ≡ next outer (numeral (mark n ds fs))
  last : (at : ℕ) (outer : List Frame) (rest : List ℕ) → Delimits rest → outcome at outer spot rest ≡ outcome at outer (ended (so_far n ds fs false 0)) rest

same_at : (at : ℕ) (outer : List Frame) (spot other : Spot) (rest : List ℕ) → ((c : ℕ) → Delimits (c ∷ []) → step at outer spot c ≡ step at outer other c) → finish at outer spot ≡ finish at outer other
    → Delimits rest → outcome at outer spot rest ≡ outcome at outer other rest
unfolding outcome
same_at at outer spot other [] each end d = end
same_at at outer spot other (c ∷ cs) each end d = ap (λ s. after s (λ o t. outcome (suc at) o t cs)) (each c d)

zero_can_end : (n : Bool) → CanEnd n (0 ∷ []) [] (numeral (zero_first n))
unfolding step numeral_step finish
zero_can_end n = record {
  marked = λ at m outer e. mark_is m (λ m. step at outer (numeral (zero_first n)) m ≡ next outer (numeral (mark n (0 ∷ []) []))) e refl refl;
  last = λ at outer rest d. same_at at outer (numeral (zero_first n)) (ended (so_far n (0 ∷ []) [] false 0)) rest
      (λ c e. delimiter_is c (λ c. step at outer (numeral (zero_first n)) c ≡ step at outer (ended (so_far n (0 ∷ []) [] false 0)) c) e refl refl refl refl refl refl refl) refl d;
}

whole_can_end : (n : Bool) (ds : List ℕ) → CanEnd n ds [] (numeral (whole n ds))
unfolding step numeral_step finish
whole_can_end n ds = record {
  marked = λ at m outer e. mark_is m (λ m. step at outer (numeral (whole n ds)) m ≡ next outer (numeral (mark n ds []))) e refl refl;
  last = λ at outer rest d. same_at at outer (numeral (whole n ds)) (ended (so_far n ds [] false 0)) rest
      (λ c e. delimiter_is c (λ c. step at outer (numeral (whole n ds)) c ≡ step at outer (ended (so_far n ds [] false 0)) c) e refl refl refl refl refl refl refl) refl d;
}

fraction_can_end : (n : Bool) (ds fs : List ℕ) → CanEnd n ds fs (numeral (fraction n ds fs))
unfolding step numeral_step finish
fraction_can_end n ds fs = record {
  marked = λ at m outer e. mark_is m (λ m. step at outer (numeral (fraction n ds fs)) m ≡ next outer (numeral (mark n ds fs))) e refl refl;
  last = λ at outer rest d. same_at at outer (numeral (fraction n ds fs)) (ended (so_far n ds fs false 0)) rest
      (λ c e. delimiter_is c (λ c. step at outer (numeral (fraction n ds fs)) c ≡ step at outer (ended (so_far n ds fs false 0)) c) e refl refl refl refl refl refl refl) refl d;
}

exponent_last : (at : ℕ) (outer : List Frame) (n : Bool) (ds fs : List ℕ) (down : Bool) (w : ℕ) (rest : List ℕ) → Delimits rest
    → outcome at outer (numeral (exponent n ds fs down w)) rest ≡ outcome at outer (ended (so_far n ds fs down w)) rest
unfolding step numeral_step finish
exponent_last at outer n ds fs down w rest d = same_at at outer (numeral (exponent n ds fs down w)) (ended (so_far n ds fs down w)) rest
    (λ c e. delimiter_is c (λ c. step at outer (numeral (exponent n ds fs down w)) c ≡ step at outer (ended (so_far n ds fs down w)) c) e refl refl refl refl refl refl refl) refl d

-- the digits before the point
record WholeRun (at : ℕ) (outer : List Frame) (n : Bool) (ds : List ℕ) : Type 0 where
  spot : Spot
  moves : Moves at outer (begun n) (numerals ds) outer spot
  can_end : CanEnd n ds [] spot
  pointed : (k : ℕ) → step k outer spot 46 ≡ next outer (numeral (point n ds))

whole_spot : (at : ℕ) (outer : List Frame) (n : Bool) (d : ℕ) (ds : List ℕ) → 0 < d → AreDigits (d ∷ ds) → WholeRun at outer n (d ∷ ds)
unfolding step numeral_step
whole_spot at outer n d ds more are = record {
  spot = numeral (whole n (d ∷ ds));
  moves = moves_on at (48 + d) outer (begun n) outer (numeral (whole n (d ∷ []))) (numerals ds) outer (numeral (whole n (d ∷ ds)))
      (whole_starts at (48 + d) outer n (digit_written d are.0) (λ e. omega arith) ∙ ap (λ e. next outer (numeral (whole n (e ∷ [])))) (digit_read d))
      (digits_move (λ xs. numeral (whole n xs)) (at + 1) outer (λ k xs e small. digit_leads (λ z. numeral (whole n (xs ++ z ∷ []))) k outer (numeral (whole n xs)) e small (λ h. rw h refl)) (d ∷ []) ds are.1);
  can_end = whole_can_end n (d ∷ ds);
  pointed = λ k. refl;
}

zero_spot : (at : ℕ) (outer : List Frame) (n : Bool) → WholeRun at outer n (0 ∷ [])
unfolding step numeral_step
zero_spot at outer n = record {
  spot = numeral (zero_first n);
  moves = moves_byte at 48 outer (begun n) outer (numeral (zero_first n)) (zero_starts at outer n);
  can_end = zero_can_end n;
  pointed = λ k. refl;
}

whole_run : (at : ℕ) (outer : List Frame) (n : Bool) (ds : List ℕ) → IsWhole ds → WholeRun at outer n ds
whole_run at outer n [] is = absurd is
whole_run at outer n (d ∷ []) is = ⊎_elim (λ (e : d ≡ 0). subst (λ (k : ℕ). WholeRun at outer n (k ∷ [])) (sym e) (zero_spot at outer n))
    (λ (ne : d ≡ 0 → ⊥). whole_spot at outer n d [] (omega arith) (is, tt)) (cases_eq d 0)
whole_run at outer n (d ∷ e ∷ ds) is = whole_spot at outer n d (e ∷ ds) is.0 is.1

-- the digits behind the point
record FractionRun (at : ℕ) (outer : List Frame) (spot : Spot) (n : Bool) (ds fs : List ℕ) : Type 0 where
  then : Spot
  moves : Moves at outer spot (fraction_text fs) outer then
  can_end : CanEnd n ds fs then

fraction_run : (at : ℕ) (outer : List Frame) (spot : Spot) (n : Bool) (ds fs : List ℕ) → AreDigits fs → CanEnd n ds [] spot → ((k : ℕ) → step k outer spot 46 ≡ next outer (numeral (point n ds)))
    → FractionRun at outer spot n ds fs
unfolding step numeral_step
fraction_run at outer spot n ds [] are end pointed = record { then = spot; moves = moves_none at outer spot; can_end = end }
fraction_run at outer spot n ds (f ∷ fs) are end pointed = record {
  then = numeral (fraction n ds (f ∷ fs));
  moves = moves_on at 46 outer spot outer (numeral (point n ds)) (numerals (f ∷ fs)) outer (numeral (fraction n ds (f ∷ fs))) (pointed at)
      (moves_on (at + 1) (48 + f) outer (numeral (point n ds)) outer (numeral (fraction n ds (f ∷ []))) (numerals fs) outer (numeral (fraction n ds (f ∷ fs)))
      (rw (digit_written f are.0) (ap (λ e. next outer (numeral (fraction n ds (e ∷ [])))) (digit_read f)))
      (digits_move (λ xs. numeral (fraction n ds xs)) (at + 1 + 1) outer (λ k xs e small. digit_leads (λ z. numeral (fraction n ds (xs ++ z ∷ []))) k outer (numeral (fraction n ds xs)) e small (λ h. rw h refl)) (f ∷ []) fs are.1));
  can_end = fraction_can_end n ds (f ∷ fs);
}

unsigned : (at : ℕ) (outer : List Frame) (n : Bool) (ds fs : List ℕ) (d : ℕ) → d < 10
    → step at outer (numeral (mark n ds fs)) (48 + d) ≡ next outer (numeral (exponent n ds fs false d))
unfolding step numeral_step
unsigned at outer n ds fs d small = rw (ne_eqb (48 + d) 43 (λ e. omega arith), ne_eqb (48 + d) 45 (λ e. omega arith), digit_written d small)
    (ap (λ e. next outer (numeral (exponent n ds fs false e))) (digit_read d))

sign_run : (at : ℕ) (outer : List Frame) (n : Bool) (ds fs : List ℕ) (s : Sign) (d : ℕ) → d < 10
    → Moves at outer (numeral (mark n ds fs)) (sign_text s ++ (48 + d) ∷ []) outer (numeral (exponent n ds fs (is_minus s) d))
unfolding step numeral_step
sign_run at outer n ds fs no_sign d small = moves_byte at (48 + d) outer (numeral (mark n ds fs)) outer (numeral (exponent n ds fs false d)) (unsigned at outer n ds fs d small)
sign_run at outer n ds fs plus d small = moves_on at 43 outer (numeral (mark n ds fs)) outer (numeral (signed n ds fs false)) ((48 + d) ∷ []) outer (numeral (exponent n ds fs false d)) refl
    (moves_byte (at + 1) (48 + d) outer (numeral (signed n ds fs false)) outer (numeral (exponent n ds fs false d))
    (rw (digit_written d small) (ap (λ e. next outer (numeral (exponent n ds fs false e))) (digit_read d))))
sign_run at outer n ds fs minus d small = moves_on at 45 outer (numeral (mark n ds fs)) outer (numeral (signed n ds fs true)) ((48 + d) ∷ []) outer (numeral (exponent n ds fs true d)) refl
    (moves_byte (at + 1) (48 + d) outer (numeral (signed n ds fs true)) outer (numeral (exponent n ds fs true d))
    (rw (digit_written d small) (ap (λ e. next outer (numeral (exponent n ds fs true e))) (digit_read d))))

sign_moves : (at : ℕ) (outer : List Frame) (n : Bool) → Moves at outer wanted (negative_text n) outer (begun n)
unfolding step begin_step
sign_moves at outer true = moves_byte at 45 outer wanted outer (begun true) refl
sign_moves at outer false = moves_none at outer wanted

power_as : (m : ℕ) (s : Sign) (e : ℕ) (es : List ℕ) → power_text (power m s e es) ≡ (m ∷ (sign_text s ++ (48 + e) ∷ [])) ++ numerals es
power_as m no_sign e es = refl
power_as m _ e es = refl

power_run : (at : ℕ) (outer : List Frame) (spot : Spot) (n : Bool) (ds fs : List ℕ) (p : Power) (rest : List ℕ) → IsPower p → CanEnd n ds fs spot → Delimits rest
    → outcome at outer spot (power_text p ++ rest) ≡ outcome (at + length (power_text p)) outer (ended (so_far n ds fs (is_down p) (written p))) rest
power_run at outer spot n ds fs no_power rest is end d = end.last at outer rest d ∙ placed_at at (at + 0) outer (ended (so_far n ds fs false 0)) rest (omega arith)
power_run at outer spot n ds fs (power m s e es) rest is end d =
    let moves : Moves at outer spot (m ∷ (sign_text s ++ (48 + e) ∷ []) ++ numerals es) outer (numeral (exponent n ds fs (is_minus s) (fold (λ k d. k * 10 + d) e es))) =
    moves_then at outer spot (m ∷ (sign_text s ++ (48 + e) ∷ [])) outer (numeral (exponent n ds fs (is_minus s) e)) (numerals es) outer (numeral (exponent n ds fs (is_minus s) (fold (λ k d. k * 10 + d) e es)))
    (moves_on at m outer spot outer (numeral (mark n ds fs)) (sign_text s ++ (48 + e) ∷ []) outer (numeral (exponent n ds fs (is_minus s) e)) (end.marked at m outer is.0) (sign_run (at + 1) outer n ds fs s e is.1.0))
    (exponent_moves (at + length (m ∷ (sign_text s ++ (48 + e) ∷ []))) outer n ds fs (is_minus s) e es is.1.1) in
    let same : power_text (power m s e es) ≡ (m ∷ (sign_text s ++ (48 + e) ∷ [])) ++ numerals es = power_as m s e es in
    let size : length (power_text (power m s e es)) ≡ length ((m ∷ (sign_text s ++ (48 + e) ∷ [])) ++ numerals es) = ap length same in
    let value : fold (λ k d. k * 10 + d) e es ≡ whole_of (e ∷ es) = ap (λ w. fold (λ k d. k * 10 + d) w es) (omega arith) in
    let place : ℕ = at + length ((m ∷ (sign_text s ++ (48 + e) ∷ [])) ++ numerals es) in
    ap (λ xs. outcome at outer spot (xs ++ rest)) same ∙ (moves rest
    ∙ (exponent_last place outer n ds fs (is_minus s) (fold (λ k d. k * 10 + d) e es) rest d
    ∙ (ap (λ w. outcome place outer (ended (so_far n ds fs (is_minus s) w)) rest) value
    ∙ placed_at place (at + length (power_text (power m s e es))) outer (ended (so_far n ds fs (is_minus s) (whole_of (e ∷ es)))) rest (omega (arith, size)))))

-- a number, with what says where it ends
pub number_run : (at : ℕ) (outer : List Frame) (n : Decimal) (bs rest : List ℕ) → IsNumber n bs → Delimits rest
    → outcome at outer wanted (bs ++ rest) ≡ outcome (at + length bs) outer (ended (number n)) rest
number_run at outer n bs rest is d =
    let sign = sign_moves at outer is.negative in
    let at1 : ℕ = at + length (negative_text is.negative) in
    let first = whole_run at1 outer is.negative is.ds is.is_whole in
    let at2 : ℕ = at1 + length (numerals is.ds) in
    let second = fraction_run at2 outer first.spot is.negative is.ds is.fs is.are_digits first.can_end first.pointed in
    let at3 : ℕ = at2 + length (fraction_text is.fs) in
    let third = power_run at3 outer second.then is.negative is.ds is.fs is.exponent rest is.is_power second.can_end d in
    let front : Moves at outer wanted (negative_text is.negative ++ (numerals is.ds ++ fraction_text is.fs)) outer second.then =
    moves_then at outer wanted (negative_text is.negative) outer (begun is.negative) (numerals is.ds ++ fraction_text is.fs) outer second.then sign
    (moves_then at1 outer (begun is.negative) (numerals is.ds) outer first.spot (fraction_text is.fs) outer second.then first.moves second.moves) in
    let f : List ℕ = negative_text is.negative ++ (numerals is.ds ++ fraction_text is.fs) in
    let p : List ℕ = power_text is.exponent in
    let grouped : bs ≡ f ++ p = is.spelled ∙ sym (append_assoc (negative_text is.negative) (numerals is.ds ++ fraction_text is.fs) p ∙ ap (λ xs. negative_text is.negative ++ xs) (append_assoc (numerals is.ds) (fraction_text is.fs) p)) in
    let sizes : length f ≡ length (negative_text is.negative) + (length (numerals is.ds) + length (fraction_text is.fs)) =
    length-append (negative_text is.negative) (numerals is.ds ++ fraction_text is.fs) ∙ ap (λ k. length (negative_text is.negative) + k) (length-append (numerals is.ds) (fraction_text is.fs)) in
    let whole_size : length bs ≡ length f + length p = ap length grouped ∙ length-append f p in
    ap (λ xs. outcome at outer wanted (xs ++ rest)) grouped ∙ (ap (outcome at outer wanted) (append_assoc f p rest)
    ∙ (front (p ++ rest) ∙ (placed_at (at + length f) at3 outer second.then (p ++ rest) (omega (arith, sizes))
    ∙ (third ∙ (ap (λ v. outcome (at3 + length p) outer (ended (number v)) rest) (sym is.value)
    ∙ placed_at (at3 + length p) (at + length bs) outer (ended (number n)) rest (omega (arith, sizes, whole_size)))))))

-- ---- The machine at a string of the grammar.
-- what comes after a step, at a place
abbrev pub go_on : ℕ → List ℕ → Step → Outcome
go_on at rest s = after s (λ o t. outcome at o t rest)

-- one byte
pub byte_run : (at c : ℕ) (outer : List Frame) (spot : Spot) (rest : List ℕ) (s : Step) → step at outer spot c ≡ s → outcome at outer spot (c ∷ rest) ≡ go_on (suc at) rest s
unfolding outcome
byte_run at c outer spot rest s e = ap (go_on (suc at) rest) e

hex_run : (at : ℕ) (outer : List Frame) (p : Purpose) (inside : Hex → Quoted) (full : ℕ → Step) (a b c d : ℕ) (rest : List ℕ)
    → ((at c : ℕ) (h : Hex) → is_hex c ≡ true → step at outer (quoted p (inside h)) c ≡ more_hex h c (λ m. next outer (quoted p (inside m))) full) → AreHex a b c d
    → outcome at outer (quoted p (inside no_digit)) (a ∷ b ∷ c ∷ d ∷ rest) ≡ go_on (suc (suc (suc (suc at)))) rest (full (unit_of a b c d))
unfolding more_hex
hex_run at outer p inside full a b c d rest each h =
    byte_run at a outer (quoted p (inside no_digit)) (b ∷ c ∷ d ∷ rest) (next outer (quoted p (inside (one_digit a)))) (each at a no_digit h.0)
    ∙ (byte_run (suc at) b outer (quoted p (inside (one_digit a))) (c ∷ d ∷ rest) (next outer (quoted p (inside (two_digits a b)))) (each (suc at) b (one_digit a) h.1)
    ∙ (byte_run (suc (suc at)) c outer (quoted p (inside (two_digits a b))) (d ∷ rest) (next outer (quoted p (inside (three_digits a b c)))) (each (suc (suc at)) c (two_digits a b) h.2)
    ∙ byte_run (suc (suc (suc at))) d outer (quoted p (inside (three_digits a b c))) rest (full (unit_of a b c d)) (each (suc (suc (suc at))) d (three_digits a b c) h.3)))

-- the six bytes of a unit, from its backslash on
pub unit_run : (at : ℕ) (outer : List Frame) (p : Purpose) (t : List ℕ) (a b c d : ℕ) (rest : List ℕ) → AreHex a b c d
    → outcome at outer (quoted p (plain t)) (92 ∷ 117 ∷ a ∷ b ∷ c ∷ d ∷ rest) ≡ go_on (suc (suc (suc (suc (suc (suc at)))))) rest (unit_step outer p t at (unit_of a b c d))
unfolding step quoted_step escape_step
unit_run at outer p t a b c d rest h =
    byte_run at 92 outer (quoted p (plain t)) (117 ∷ a ∷ b ∷ c ∷ d ∷ rest) (next outer (quoted p (escaped t at))) refl
    ∙ (byte_run (suc at) 117 outer (quoted p (escaped t at)) (a ∷ b ∷ c ∷ d ∷ rest) (next outer (quoted p (unit t at no_digit))) refl
    ∙ hex_run (suc (suc at)) outer p (unit t at) (λ u. unit_step outer p t at u) a b c d rest (unit_each outer p t at) h)

-- the same of the second unit of a pair
pub second_run : (at : ℕ) (outer : List Frame) (p : Purpose) (t : List ℕ) (back u a b c d : ℕ) (rest : List ℕ) → AreHex a b c d
    → outcome at outer (quoted p (high t back u)) (92 ∷ 117 ∷ a ∷ b ∷ c ∷ d ∷ rest) ≡ go_on (suc (suc (suc (suc (suc (suc at)))))) rest (pair_step outer p t back u (unit_of a b c d))
unfolding step quoted_step
second_run at outer p t back u a b c d rest h =
    byte_run at 92 outer (quoted p (high t back u)) (117 ∷ a ∷ b ∷ c ∷ d ∷ rest) (next outer (quoted p (high_escaped t back u))) refl
    ∙ (byte_run (suc at) 117 outer (quoted p (high_escaped t back u)) (a ∷ b ∷ c ∷ d ∷ rest) (next outer (quoted p (high_unit t back u no_digit))) refl
    ∙ hex_run (suc (suc at)) outer p (high_unit t back u) (λ v. pair_step outer p t back u v) a b c d rest (second_each outer p t back u) h)

pub unit_scalar : (outer : List Frame) (p : Purpose) (t : List ℕ) (back u : ℕ) → is_surrogate u ≡ false → unit_step outer p t back u ≡ next outer (quoted p (plain (t ++ encode_utf8 u)))
unfolding unit_step
unit_scalar outer p t back u e = let parts = or_parts (is_high_surrogate u) (is_low_surrogate u) e in rw (parts.0, parts.1) refl

pub unit_low : (outer : List Frame) (p : Purpose) (t : List ℕ) (back u : ℕ) → is_low_surrogate u ≡ true → unit_step outer p t back u ≡ stop back 5
unfolding unit_step
unit_low outer p t back u e = rw (low_not_high u e, e) refl

pub unit_high : (outer : List Frame) (p : Purpose) (t : List ℕ) (back u : ℕ) → is_high_surrogate u ≡ true → unit_step outer p t back u ≡ next outer (quoted p (high t back u))
unfolding unit_step
unit_high outer p t back u e = rw e refl

pub pair_low : (outer : List Frame) (p : Purpose) (t : List ℕ) (back u v : ℕ) → is_low_surrogate v ≡ true → pair_step outer p t back u v ≡ next outer (quoted p (plain (t ++ encode_utf8 (surrogate_pair_char u v))))
unfolding pair_step
pair_low outer p t back u v e = rw e refl

pair_other : (outer : List Frame) (p : Purpose) (t : List ℕ) (back u v : ℕ) → is_low_surrogate v ≡ false → pair_step outer p t back u v ≡ stop back 5
unfolding pair_step
pair_other outer p t back u v e = rw e refl

no_such_letter : (l b : ℕ) → short_escape l ≡ Some b → l ≡ 117 → ⊥
no_such_letter l b e is = let none : None ≡ Some b = sym (ap short_escape is) ∙ e in cc

high_not_low : (u : ℕ) → is_high_surrogate u ≡ true → is_low_surrogate u ≡ false
high_not_low u e = ⊎_elim (λ (f : is_low_surrogate u ≡ true). absurd (false≢true (sym (low_not_high u f) ∙ e))) (λ (f : is_low_surrogate u ≡ false). f) (cases_Bool (is_low_surrogate u))

-- the bytes of a string behind its first quote
abbrev pub tail_text : List Character → List ℕ
tail_text cs = flat_map character_text cs ++ 34 ∷ []

-- A first unit with no second one behind it is a fault.
high_alone : (limited : Bool) (at : ℕ) (outer : List Frame) (p : Purpose) (t : List ℕ) (back u : ℕ) (cs : List Character) (rest : List ℕ) → AreCharacters limited cs → begins_with_second cs ≡ false
    → outcome at outer (quoted p (high t back u)) (flat_map character_text cs ++ 34 ∷ rest) ≡ fault back 5
unfolding step quoted_step
high_alone limited at outer p t back u [] rest are e = byte_run at 34 outer (quoted p (high t back u)) rest (stop back 5) refl
high_alone limited at outer p t back u (itself c ∷ cs) rest are e =
    byte_run at c outer (quoted p (high t back u)) (flat_map character_text cs ++ 34 ∷ rest) (stop back 5) (rw (plain_parts c are.0).1 refl)
high_alone limited at outer p t back u (short l b ∷ cs) rest are e =
    byte_run at 92 outer (quoted p (high t back u)) (l ∷ flat_map character_text cs ++ 34 ∷ rest) (next outer (quoted p (high_escaped t back u))) refl
    ∙ byte_run (suc at) l outer (quoted p (high_escaped t back u)) (flat_map character_text cs ++ 34 ∷ rest) (stop back 5) (rw (ne_eqb l 117 (no_such_letter l b are.0)) refl)
high_alone limited at outer p t back u (alone a b c d ∷ cs) rest are e =
    second_run at outer p t back u a b c d (flat_map character_text cs ++ 34 ∷ rest) are.0.0 ∙ ap (go_on (suc (suc (suc (suc (suc (suc at)))))) (flat_map character_text cs ++ 34 ∷ rest)) (pair_other outer p t back u (unit_of a b c d) e)
high_alone limited at outer p t back u (pair a b c d f g h i ∷ cs) rest are e =
    second_run at outer p t back u a b c d (92 ∷ 117 ∷ f ∷ g ∷ h ∷ i ∷ flat_map character_text cs ++ 34 ∷ rest) are.0.0
    ∙ ap (go_on (suc (suc (suc (suc (suc (suc at)))))) (92 ∷ 117 ∷ f ∷ g ∷ h ∷ i ∷ flat_map character_text cs ++ 34 ∷ rest)) (pair_other outer p t back u (unit_of a b c d) (high_not_low (unit_of a b c d) are.0.2))

-- a string behind its first quote, up to behind its last
abbrev pub StringRun : Bool → ℕ → List Frame → Purpose → List ℕ → List Character → List ℕ → Type 0
StringRun limited at outer p t cs rest =
    (outcome at outer (quoted p (plain t)) (tail_text cs ++ rest) ≡ go_on (at + length (tail_text cs)) rest (quote_step outer p (t ++ flat_map meaning cs)))
    ⊎ Refuses limited (outcome at outer (quoted p (plain t)) (tail_text cs ++ rest))

-- one character more
character_more : (limited : Bool) (at later : ℕ) (outer : List Frame) (p : Purpose) (t : List ℕ) (c : Character) (cs : List Character) (xs : List ℕ)
    → outcome at outer (quoted p (plain t)) (flat_map character_text (c ∷ cs) ++ xs) ≡ outcome later outer (quoted p (plain (t ++ meaning c))) (flat_map character_text cs ++ xs)
    → later + length (flat_map character_text cs) ≡ at + length (flat_map character_text (c ∷ cs))
    → Arrives limited later outer (quoted p (plain (t ++ meaning c))) (flat_map character_text cs) outer (quoted p (plain ((t ++ meaning c) ++ flat_map meaning cs))) xs
    → Arrives limited at outer (quoted p (plain t)) (flat_map character_text (c ∷ cs)) outer (quoted p (plain (t ++ flat_map meaning (c ∷ cs)))) xs
character_more limited at later outer p t c cs xs e place run = grind (arith, placed_at, append_assoc, refuses_along, e, place, run)

-- The characters of a string within the limits, or up to its last quote, where half of a pair may stand alone.
pub characters_run : (limited : Bool) (at : ℕ) (outer : List Frame) (p : Purpose) (t : List ℕ) (cs : List Character) (xs : List ℕ) → AreCharacters limited cs
    → (limited ≡ true) ⊎ ((rest : List ℕ) × (xs ≡ 34 ∷ rest))
    → Arrives limited at outer (quoted p (plain t)) (flat_map character_text cs) outer (quoted p (plain (t ++ flat_map meaning cs))) xs
unfolding step quoted_step
characters_run limited at outer p t [] xs are behind =
    inl (placed_at at (at + 0) outer (quoted p (plain t)) xs (omega arith) ∙ ap (λ y. outcome (at + 0) outer (quoted p (plain y)) xs) (sym (append-nil t)))
characters_run limited at outer p t (itself c ∷ cs) xs are behind =
    character_more limited at (suc at) outer p t (itself c) cs xs
    (byte_run at c outer (quoted p (plain t)) (flat_map character_text cs ++ xs) (next outer (quoted p (plain (t ++ c ∷ [])))) (plain_leads at c outer p t are.0))
    (omega arith) (characters_run limited (suc at) outer p (t ++ c ∷ []) cs xs are.2 behind)
characters_run limited at outer p t (short l b ∷ cs) xs are behind =
    character_more limited at (suc (suc at)) outer p t (short l b) cs xs
    (byte_run at 92 outer (quoted p (plain t)) (l ∷ flat_map character_text cs ++ xs) (next outer (quoted p (escaped t at))) refl
    ∙ byte_run (suc at) l outer (quoted p (escaped t at)) (flat_map character_text cs ++ xs) (next outer (quoted p (plain (t ++ b ∷ [])))) (escaped_some (suc at) outer p t at l b are.0))
    (omega arith) (characters_run limited (suc (suc at)) outer p (t ++ b ∷ []) cs xs are.2 behind)
characters_run limited at outer p t (alone a b c d ∷ cs) xs are behind =
    let u : ℕ = unit_of a b c d in
    let six : ℕ = suc (suc (suc (suc (suc (suc at))))) in
    let ys : List ℕ = flat_map character_text cs ++ xs in
    let unit_read = unit_run at outer p t a b c d ys are.0.0 in
    let lacks : is_surrogate u ≡ true → is_high_surrogate u ≡ true → outcome six outer (quoted p (high t at u)) ys ≡ fault at 5 = λ e h. ⊎_elim
    (λ (l : limited ≡ true). absurd (false≢true (sym (are.0.1 l) ∙ e)))
    (λ (q : (rest : List ℕ) × (xs ≡ 34 ∷ rest)).
    ap (λ zs. outcome six outer (quoted p (high t at u)) (flat_map character_text cs ++ zs)) q.1 ∙ high_alone limited six outer p t at u cs q.0 are.2 (rw h at are.1)) behind in
    let refused : is_surrogate u ≡ true → go_on six ys (unit_step outer p t at u) ≡ fault at 5 = λ e. ⊎_elim
    (λ (h : is_high_surrogate u ≡ true). ap (go_on six ys) (unit_high outer p t at u h) ∙ lacks e h)
    (λ (w : is_low_surrogate u ≡ true). ap (go_on six ys) (unit_low outer p t at u w)) (or_cases (is_high_surrogate u) (is_low_surrogate u) e) in
    ⊎_elim
    (λ (e : is_surrogate u ≡ true). inr (record { place = at; kind = 5; is = unit_read ∙ refused e; later = lit< tt; limits = λ l. false≢true (sym (are.0.1 l) ∙ e) }))
    (λ (e : is_surrogate u ≡ false).
    character_more limited at six outer p t (alone a b c d) cs xs (unit_read ∙ ap (go_on six ys) (unit_scalar outer p t at u e))
    (omega arith) (characters_run limited six outer p (t ++ encode_utf8 u) cs xs are.2 behind)) (cases_Bool (is_surrogate u))
characters_run limited at outer p t (pair a b c d e f g h ∷ cs) xs are behind =
    let u : ℕ = unit_of a b c d in
    let v : ℕ = unit_of e f g h in
    let six : ℕ = suc (suc (suc (suc (suc (suc at))))) in
    let twelve : ℕ = suc (suc (suc (suc (suc (suc six))))) in
    let ys : List ℕ = flat_map character_text cs ++ xs in
    character_more limited at twelve outer p t (pair a b c d e f g h) cs xs
    (unit_run at outer p t a b c d (92 ∷ 117 ∷ e ∷ f ∷ g ∷ h ∷ ys) are.0.0
    ∙ (ap (go_on six (92 ∷ 117 ∷ e ∷ f ∷ g ∷ h ∷ ys)) (unit_high outer p t at u are.0.2)
    ∙ (second_run six outer p t at u e f g h ys are.0.1 ∙ ap (go_on twelve ys) (pair_low outer p t at u v are.0.3))))
    (omega arith) (characters_run limited twelve outer p (t ++ encode_utf8 (surrogate_pair_char u v)) cs xs are.2 behind)

pub string_run : (limited : Bool) (at : ℕ) (outer : List Frame) (p : Purpose) (t : List ℕ) (cs : List Character) (rest : List ℕ) → AreCharacters limited cs → StringRun limited at outer p t cs rest
string_run limited at outer p t cs rest are = grind (arith, append_assoc, byte_run, plain_quote, length-append, refuses_along, characters_run, are)

-- ---- The machine at values of the grammar.
-- literals
null_moves : (at : ℕ) (outer : List Frame) → Moves at outer wanted (110 ∷ ull) outer (ended null)
unfolding outcome step begin_step literal_step
null_moves at outer = λ rest. placed_at (suc (suc (suc (suc at)))) (at + 4) outer (ended null) rest (omega arith)

boolean_moves : (b : Bool) (at : ℕ) (outer : List Frame) → Moves at outer wanted (cond b (116 ∷ rue) (102 ∷ alse)) outer (ended (boolean b))
unfolding outcome step begin_step literal_step
boolean_moves true at outer = λ rest. placed_at (suc (suc (suc (suc at)))) (at + 4) outer (ended (boolean true)) rest (omega arith)
boolean_moves false at outer = λ rest. placed_at (suc (suc (suc (suc (suc at))))) (at + 5) outer (ended (boolean false)) rest (omega arith)

-- the same bytes under another name
pub arrives_as : (limited : Bool) (at : ℕ) (outer : List Frame) (spot : Spot) (xs ys : List ℕ) (o : List Frame) (s : Spot) (rest : List ℕ) → xs ≡ ys
    → Arrives limited at outer spot xs o s rest → Arrives limited at outer spot ys o s rest
arrives_as limited at outer spot xs ys o s rest e a = subst (λ (bs : List ℕ). Arrives limited at outer spot bs o s rest) e a

-- strings
string_value : (limited : Bool) (at : ℕ) (outer : List Frame) (t bs rest : List ℕ) → IsString limited t bs → Arrives limited at outer wanted bs outer (ended (text t)) rest
unfolding quote_step step begin_step
string_value limited at outer t bs rest is =
    let led : outcome at outer wanted (34 ∷ tail_text is.0 ++ rest) ≡ outcome (suc at) outer (quoted for_value (plain [])) (tail_text is.0 ++ rest) =
    byte_run at 34 outer wanted (tail_text is.0 ++ rest) (next outer (quoted for_value (plain []))) refl in
    arrives_as limited at outer wanted (34 ∷ tail_text is.0) bs outer (ended (text t)) rest (sym is.3)
    (⊎_elim (λ e. inl (led ∙ (e ∙ (placed_at (suc at + length (tail_text is.0)) (at + length (34 ∷ tail_text is.0)) outer (ended (text (flat_map meaning is.0))) rest (omega arith)
    ∙ ap (λ xs. outcome (at + length (34 ∷ tail_text is.0)) outer (ended (text xs)) rest) (sym is.2)))))
    (λ r. inr (refuses_along limited (outcome at outer wanted (34 ∷ tail_text is.0 ++ rest)) (outcome (suc at) outer (quoted for_value (plain [])) (tail_text is.0 ++ rest)) led r))
    (string_run limited (suc at) outer for_value [] is.0 rest is.1))

pub string_key : (limited : Bool) (at : ℕ) (outer : List Frame) (ms : List Member) (k bs rest : List ℕ) → IsString limited k bs → (limited ≡ true → has_key (members_of ms) k ≡ false)
    → Arrives limited at outer (key_wanted ms) bs outer (colon_wanted ms k) rest
unfolding step
string_key limited at outer ms k bs rest is new =
    let cs : List Character = is.0 in
    let led : outcome at outer (key_wanted ms) (34 ∷ tail_text cs ++ rest) ≡ outcome (suc at) outer (quoted (for_key ms at) (plain [])) (tail_text cs ++ rest) =
    byte_run at 34 outer (key_wanted ms) (tail_text cs ++ rest) (next outer (quoted (for_key ms at) (plain []))) refl in
    let place : ℕ = suc at + length (tail_text cs) in
    let named : quote_step outer (for_key ms at) (flat_map meaning cs) ≡ quote_step outer (for_key ms at) k = ap (quote_step outer (for_key ms at)) (sym is.2) in
    arrives_as limited at outer (key_wanted ms) (34 ∷ tail_text cs) bs outer (colon_wanted ms k) rest (sym is.3)
    (⊎_elim
    (λ (e : outcome (suc at) outer (quoted (for_key ms at) (plain [])) (tail_text cs ++ rest) ≡ go_on place rest (quote_step outer (for_key ms at) (flat_map meaning cs))).
    ⊎_elim (λ (twice : has_key (members_of ms) k ≡ true).
    inr (record { place = at; kind = 4; is = led ∙ (e ∙ ap (go_on place rest) (named ∙ quote_known outer ms at k twice)); later = lit< tt; limits = λ l. false≢true (sym (new l) ∙ twice) }))
    (λ (once : has_key (members_of ms) k ≡ false).
    inl (led ∙ (e ∙ (ap (go_on place rest) (named ∙ quote_new outer ms at k once) ∙ placed_at place (at + length (34 ∷ tail_text cs)) outer (colon_wanted ms k) rest (omega arith)))))
    (cases_Bool (has_key (members_of ms) k)))
    (λ r. inr (refuses_along limited (outcome at outer (key_wanted ms) (34 ∷ tail_text cs ++ rest)) (outcome (suc at) outer (quoted (for_key ms at) (plain [])) (tail_text cs ++ rest)) led r))
    (string_run limited (suc at) outer (for_key ms at) [] cs rest is.1))

-- what stands behind a value
pub delimits_behind : (ws tail : List ℕ) → IsSpace ws → Delimits tail → Delimits (ws ++ tail)
delimits_behind [] tail space d = d
delimits_behind (w ∷ ws) tail space d = or_left (is_space w) ((w == 44) || ((w == 93) || (w == 125))) space.0

pub delimited : (behind more rest : List ℕ) → IsSpace behind → Delimits (more ++ rest) → Delimits ((behind ++ more) ++ rest)
delimited behind more rest space d = subst (λ (bs : List ℕ). Delimits bs) (sym (append_assoc behind more rest)) (delimits_behind behind (more ++ rest) space d)

delimits_items : (limited : Bool) (level : ℕ) (vs : Items) (more rest : List ℕ) → SpellsMoreItems limited level vs more → Delimits ((more ++ 93 ∷ []) ++ rest)
delimits_items limited level no_items more rest s = subst (λ (bs : List ℕ). Delimits ((bs ++ 93 ∷ []) ++ rest)) (sym s) refl
delimits_items limited level (item v vs) more rest s = subst (λ (bs : List ℕ). Delimits ((bs ++ 93 ∷ []) ++ rest)) (sym s.8) refl

delimits_members : (limited : Bool) (level : ℕ) (ms : Members) (more rest : List ℕ) → SpellsMoreMembers limited level ms more → Delimits ((more ++ 125 ∷ []) ++ rest)
delimits_members limited level no_members more rest s = subst (λ (bs : List ℕ). Delimits ((bs ++ 125 ∷ []) ++ rest)) (sym s) refl
delimits_members limited level (member k v ms) more rest s = subst (λ (bs : List ℕ). Delimits ((bs ++ 125 ∷ []) ++ rest)) (sym s.14) refl

-- a value with white space round it, and what follows
pub padded : (limited : Bool) (at : ℕ) (frames : List Frame) (v : Value) (before core behind tail : List ℕ) (o : List Frame) (s : Spot) (rest : List ℕ) → IsSpace before → IsSpace behind
    → ((k : ℕ) → Arrives limited k frames wanted core frames (ended v) ((behind ++ tail) ++ rest)) → ((k : ℕ) → Arrives limited k frames (ended v) tail o s rest)
    → Arrives limited at frames wanted (before ++ (core ++ (behind ++ tail))) o s rest
padded limited at frames v before core behind tail o s rest sb sh value follow =
    arrives_then limited at frames wanted before frames wanted (core ++ (behind ++ tail)) o s rest
    (arrives_by limited at frames wanted before frames wanted ((core ++ (behind ++ tail)) ++ rest) (space_moves at frames wanted before sb tt))
    (arrives_then limited (at + length before) frames wanted core frames (ended v) (behind ++ tail) o s rest (value (at + length before))
    (arrives_then limited (at + length before + length core) frames (ended v) behind frames (ended v) tail o s rest
    (arrives_by limited (at + length before + length core) frames (ended v) behind frames (ended v) (tail ++ rest) (space_moves (at + length before + length core) frames (ended v) behind sh tt))
    (follow (at + length before + length core + length behind))))

-- a key, its colon and its value
pub keyed : (limited : Bool) (at : ℕ) (outer : List Frame) (ms : List Member) (k : List ℕ) (v : Value) (first key second third core behind tail : List ℕ) (o : List Frame) (s : Spot) (rest : List ℕ)
    → IsSpace first → IsString limited k key → IsSpace second → IsSpace third → IsSpace behind → (limited ≡ true → has_key (members_of ms) k ≡ false)
    → ((j : ℕ) → Arrives limited j (in_object ms k ∷ outer) wanted core (in_object ms k ∷ outer) (ended v) ((behind ++ tail) ++ rest))
    → ((j : ℕ) → Arrives limited j (in_object ms k ∷ outer) (ended v) tail o s rest)
    → Arrives limited at outer (key_wanted ms) (first ++ (key ++ (second ++ (58 ∷ third ++ (core ++ (behind ++ tail)))))) o s rest
unfolding step
keyed limited at outer ms k v first key second third core behind tail o s rest s1 is s2 s3 s4 new value follow =
    let frames : List Frame = in_object ms k ∷ outer in
    let at1 : ℕ = at + length first in
    let at2 : ℕ = at1 + length key in
    let at3 : ℕ = at2 + length second in
    arrives_then limited at outer (key_wanted ms) first outer (key_wanted ms) (key ++ (second ++ (58 ∷ third ++ (core ++ (behind ++ tail))))) o s rest
    (arrives_by limited at outer (key_wanted ms) first outer (key_wanted ms) ((key ++ (second ++ (58 ∷ third ++ (core ++ (behind ++ tail))))) ++ rest) (space_moves at outer (key_wanted ms) first s1 tt))
    (arrives_then limited at1 outer (key_wanted ms) key outer (colon_wanted ms k) (second ++ (58 ∷ third ++ (core ++ (behind ++ tail)))) o s rest
    (string_key limited at1 outer ms k key ((second ++ (58 ∷ third ++ (core ++ (behind ++ tail)))) ++ rest) is new)
    (arrives_then limited at2 outer (colon_wanted ms k) second outer (colon_wanted ms k) (58 ∷ third ++ (core ++ (behind ++ tail))) o s rest
    (arrives_by limited at2 outer (colon_wanted ms k) second outer (colon_wanted ms k) ((58 ∷ third ++ (core ++ (behind ++ tail))) ++ rest) (space_moves at2 outer (colon_wanted ms k) second s2 tt))
    (arrives_then limited at3 outer (colon_wanted ms k) (58 ∷ []) frames wanted (third ++ (core ++ (behind ++ tail))) o s rest
    (arrives_by limited at3 outer (colon_wanted ms k) (58 ∷ []) frames wanted ((third ++ (core ++ (behind ++ tail))) ++ rest) (moves_byte at3 58 outer (colon_wanted ms k) frames wanted refl))
    (padded limited (at3 + 1) frames v third core behind tail o s rest s3 s4 value follow))))

-- a bracket opens a level, or there may be none more
brackets : (limited : Bool) (at level c d : ℕ) (outer : List Frame) (spot : Spot) (inside : List ℕ) (v : Value) (rest : List ℕ) → step at outer wanted c ≡ opened at outer spot → length outer ≡ level
    → (limited ≡ true → level < depth_limit) → ((k : ℕ) → Arrives limited k outer spot (inside ++ d ∷ []) outer (ended v) rest) → Arrives limited at outer wanted (c ∷ inside ++ d ∷ []) outer (ended v) rest
unfolding opened
brackets limited at level c d outer spot inside v rest opens size limits within =
    ⊎_elim (λ (room : nat_lt (length outer) 64 ≡ true).
    arrives_then limited at outer wanted (c ∷ []) outer spot (inside ++ d ∷ []) outer (ended v) rest
    (arrives_by limited at outer wanted (c ∷ []) outer spot ((inside ++ d ∷ []) ++ rest) (moves_byte at c outer wanted outer spot (opens ∙ rw (lt-ltb (length outer) 64 (ltb-true (length outer) 64 room)) refl)))
    (within (at + 1)))
    (λ (full : nat_lt (length outer) 64 ≡ false).
    inr (record {
      place = at;
      kind = 3;
      is = byte_run at c outer wanted ((inside ++ d ∷ []) ++ rest) (stop at 3) (opens ∙ rw full refl);
      later = lit< tt;
      limits = λ l. false≢true (sym full ∙ lt-ltb (length outer) 64 (omega (arith, limits l, size)));
    }))
    (cases_Bool (nat_lt (length outer) 64))

-- the front of an array or an object, where its first item or key comes
pub first_item_as : (at c : ℕ) (outer : List Frame) (cs : List ℕ) → is_space c ≡ false → (c ≡ 93 → ⊥) → outcome at outer first_item (c ∷ cs) ≡ outcome at (in_array [] ∷ outer) wanted (c ∷ cs)
first_item_as at c outer cs space ne = grind (arith, byte_run, first_item_other, space, ne)

pub first_key_as : (at : ℕ) (outer : List Frame) (cs : List ℕ) → outcome at outer first_key (34 ∷ cs) ≡ outcome at outer (key_wanted []) (34 ∷ cs)
first_key_as at outer cs = byte_run at 34 outer first_key cs (step at outer (key_wanted []) 34) (first_key_other at 34 outer refl (λ e. absurd (omega arith))) ∙ sym (byte_run at 34 outer (key_wanted []) cs (step at outer (key_wanted []) 34) refl)

-- how a value begins
pub record Begins (bs : List ℕ) : Type 0 where
  pub c : ℕ
  pub cs : List ℕ
  pub is : bs ≡ c ∷ cs
  pub no_space : is_space c ≡ false
  pub no_bracket : c ≡ 93 → ⊥

begins_as : (bs : List ℕ) (c : ℕ) (cs : List ℕ) → bs ≡ c ∷ cs → is_space c ≡ false → (c ≡ 93 → ⊥) → Begins bs
begins_as bs c cs e s b = record { c = c; cs = cs; is = e; no_space = s; no_bracket = b }

number_begins : (n : Decimal) (bs : List ℕ) → IsNumber n bs → Begins bs
number_begins n bs is = grind (arith, is)

pub value_begins : (limited : Bool) (level : ℕ) (v : Value) (bs : List ℕ) → Spells limited level v bs → Begins bs
value_begins limited level null bs s = begins_as bs 110 ull s refl (λ e. absurd (omega arith))
value_begins limited level (boolean true) bs s = begins_as bs 116 rue s refl (λ e. absurd (omega arith))
value_begins limited level (boolean false) bs s = begins_as bs 102 alse s refl (λ e. absurd (omega arith))
value_begins limited level (number n) bs s = number_begins n bs s
value_begins limited level (text t) bs s = begins_as bs 34 (tail_text s.0) s.3 refl (λ e. absurd (omega arith))
value_begins limited level (array vs) bs s = begins_as bs 91 (s.0 ++ 93 ∷ []) s.3 refl (λ e. absurd (omega arith))
value_begins limited level (object ms) bs s = begins_as bs 123 (s.0 ++ 125 ∷ []) s.4 refl (λ e. absurd (omega arith))

-- the first item stands where the bracket may close, too
pub first_as : (limited : Bool) (at : ℕ) (outer : List Frame) (core x : List ℕ) (o : List Frame) (s : Spot) (rest : List ℕ) → Begins core
    → Arrives limited at (in_array [] ∷ outer) wanted (core ++ x) o s rest → Arrives limited at outer first_item (core ++ x) o s rest
first_as limited at outer core x o s rest b a = grind (arith, first_item_as, refuses_along, b, a)

pub first_key_is : (limited : Bool) (at : ℕ) (outer : List Frame) (k key x : List ℕ) (o : List Frame) (s : Spot) (rest : List ℕ) → IsString limited k key
    → Arrives limited at outer (key_wanted []) (key ++ x) o s rest → Arrives limited at outer first_key (key ++ x) o s rest
first_key_is limited at outer k key x o s rest is a = grind (arith, first_key_as, refuses_along, is, a)

-- lists under other brackets
close_items : (limited : Bool) (at : ℕ) (outer : List Frame) (vs : List Value) (v : Value) (rest : List ℕ)
    → Arrives limited at (in_array vs ∷ outer) (ended v) (93 ∷ []) outer (ended (array (items_onto vs (item v no_items)))) rest
unfolding step ended_step close_step
close_items limited at outer vs v rest = arrives_by limited at (in_array vs ∷ outer) (ended v) (93 ∷ []) outer (ended (array (items_onto vs (item v no_items)))) rest
    (moves_byte at 93 (in_array vs ∷ outer) (ended v) outer (ended (array (items_onto vs (item v no_items)))) (ap (λ is. next outer (ended (array is))) (items_of-push vs v)))

close_members : (limited : Bool) (at : ℕ) (outer : List Frame) (ms : List Member) (k : List ℕ) (v : Value) (rest : List ℕ)
    → Arrives limited at (in_object ms k ∷ outer) (ended v) (125 ∷ []) outer (ended (object (members_onto ms (member k v no_members)))) rest
unfolding step ended_step close_step
close_members limited at outer ms k v rest = arrives_by limited at (in_object ms k ∷ outer) (ended v) (125 ∷ []) outer (ended (object (members_onto ms (member k v no_members)))) rest
    (moves_byte at 125 (in_object ms k ∷ outer) (ended v) outer (ended (object (members_onto ms (member k v no_members)))) (ap (λ is. next outer (ended (object is))) (members_of-push ms k v)))

mutual
  unfolding step begin_step ended_step close_step

  pub value_arrives : (limited : Bool) (level : ℕ) (v : Value) (bs : List ℕ) → Spells limited level v bs → (at : ℕ) (outer : List Frame) (rest : List ℕ) → length outer ≡ level → Delimits rest
      → Arrives limited at outer wanted bs outer (ended v) rest
  value_arrives limited level null bs s at outer rest size d =
      arrives_as limited at outer wanted (110 ∷ ull) bs outer (ended null) rest (sym s) (arrives_by limited at outer wanted (110 ∷ ull) outer (ended null) rest (null_moves at outer))
  value_arrives limited level (boolean b) bs s at outer rest size d =
      arrives_as limited at outer wanted (cond b (116 ∷ rue) (102 ∷ alse)) bs outer (ended (boolean b)) rest (sym s)
      (arrives_by limited at outer wanted (cond b (116 ∷ rue) (102 ∷ alse)) outer (ended (boolean b)) rest (boolean_moves b at outer))
  value_arrives limited level (number n) bs s at outer rest size d = inl (number_run at outer n bs rest s d)
  value_arrives limited level (text t) bs s at outer rest size d = string_value limited at outer t bs rest s
  value_arrives limited level (array vs) bs s at outer rest size d =
      arrives_as limited at outer wanted (91 ∷ s.0 ++ 93 ∷ []) bs outer (ended (array vs)) rest (sym s.3)
      (brackets limited at level 91 93 outer first_item s.0 (array vs) rest refl size s.1
      (λ k. items_arrive limited (level + 1) vs s.0 s.2 k outer rest (omega (arith, size))))
  value_arrives limited level (object ms) bs s at outer rest size d =
      arrives_as limited at outer wanted (123 ∷ s.0 ++ 125 ∷ []) bs outer (ended (object ms)) rest (sym s.4)
      (brackets limited at level 123 125 outer first_key s.0 (object ms) rest refl size s.1
      (λ k. members_arrive limited (level + 1) ms s.0 s.3 k outer rest (omega (arith, size)) s.2))

  items_arrive : (limited : Bool) (level : ℕ) (vs : Items) (inside : List ℕ) → SpellsItems limited level vs inside → (at : ℕ) (outer : List Frame) (rest : List ℕ) → length outer + 1 ≡ level
      → Arrives limited at outer first_item (inside ++ 93 ∷ []) outer (ended (array vs)) rest
  items_arrive limited level no_items inside s at outer rest size =
      arrives_then limited at outer first_item inside outer first_item (93 ∷ []) outer (ended (array no_items)) rest
      (arrives_by limited at outer first_item inside outer first_item ((93 ∷ []) ++ rest) (space_moves at outer first_item inside s tt))
      (arrives_by limited (at + length inside) outer first_item (93 ∷ []) outer (ended (array no_items)) rest (moves_byte (at + length inside) 93 outer first_item outer (ended (array no_items)) refl))
  items_arrive limited level (item v vs) inside s at outer rest size =
      let tail : List ℕ = s.3 ++ 93 ∷ [] in
      let frames : List Frame = in_array [] ∷ outer in
      arrives_as limited at outer first_item (s.0 ++ (s.1 ++ (s.2 ++ tail))) (inside ++ 93 ∷ []) outer (ended (array (item v vs))) rest (four s.0 s.1 s.2 s.3 (93 ∷ []) ∙ ap (λ bs. bs ++ 93 ∷ []) (sym s.8))
      (arrives_then limited at outer first_item s.0 outer first_item (s.1 ++ (s.2 ++ tail)) outer (ended (array (item v vs))) rest
      (arrives_by limited at outer first_item s.0 outer first_item ((s.1 ++ (s.2 ++ tail)) ++ rest) (space_moves at outer first_item s.0 s.4 tt))
      (first_as limited (at + length s.0) outer s.1 (s.2 ++ tail) outer (ended (array (item v vs))) rest (value_begins limited level v s.1 s.5)
      (padded limited (at + length s.0) frames v [] s.1 s.2 tail outer (ended (array (item v vs))) rest tt s.6
      (λ k. value_arrives limited level v s.1 s.5 k frames ((s.2 ++ tail) ++ rest) (omega (arith, size)) (delimited s.2 tail rest s.6 (delimits_items limited level vs s.3 rest s.7)))
      (λ k. more_items_arrive limited level vs s.3 s.7 k outer [] v rest size))))

  more_items_arrive : (limited : Bool) (level : ℕ) (vs : Items) (more : List ℕ) → SpellsMoreItems limited level vs more → (at : ℕ) (outer : List Frame) (earlier : List Value) (v : Value) (rest : List ℕ)
      → length outer + 1 ≡ level → Arrives limited at (in_array earlier ∷ outer) (ended v) (more ++ 93 ∷ []) outer (ended (array (items_onto earlier (item v vs)))) rest
  more_items_arrive limited level no_items more s at outer earlier v rest size =
      arrives_as limited at (in_array earlier ∷ outer) (ended v) (93 ∷ []) (more ++ 93 ∷ []) outer (ended (array (items_onto earlier (item v no_items)))) rest (ap (λ bs. bs ++ 93 ∷ []) (sym s)) (close_items limited at outer earlier v rest)
  more_items_arrive limited level (item w ws) more s at outer earlier v rest size =
      let tail : List ℕ = s.3 ++ 93 ∷ [] in
      let frames : List Frame = in_array (earlier ++ v ∷ []) ∷ outer in
      let last : Spot = ended (array (items_onto earlier (item v (item w ws)))) in
      arrives_as limited at (in_array earlier ∷ outer) (ended v) (44 ∷ s.0 ++ (s.1 ++ (s.2 ++ tail))) (more ++ 93 ∷ []) outer last rest
      (ap (λ bs. 44 ∷ bs) (four s.0 s.1 s.2 s.3 (93 ∷ [])) ∙ ap (λ bs. bs ++ 93 ∷ []) (sym s.8))
      (arrives_then limited at (in_array earlier ∷ outer) (ended v) (44 ∷ []) frames wanted (s.0 ++ (s.1 ++ (s.2 ++ tail))) outer last rest
      (arrives_by limited at (in_array earlier ∷ outer) (ended v) (44 ∷ []) frames wanted ((s.0 ++ (s.1 ++ (s.2 ++ tail))) ++ rest) (moves_byte at 44 (in_array earlier ∷ outer) (ended v) frames wanted (item_comma at outer earlier v)))
      (padded limited (at + 1) frames w s.0 s.1 s.2 tail outer last rest s.4 s.6
      (λ k. value_arrives limited level w s.1 s.5 k frames ((s.2 ++ tail) ++ rest) (omega (arith, size)) (delimited s.2 tail rest s.6 (delimits_items limited level ws s.3 rest s.7)))
      (λ k. subst (λ (is : Items). Arrives limited k frames (ended w) tail outer (ended (array is)) rest) (items_onto-push earlier v (item w ws))
      (more_items_arrive limited level ws s.3 s.7 k outer (earlier ++ v ∷ []) w rest size))))

  members_arrive : (limited : Bool) (level : ℕ) (ms : Members) (inside : List ℕ) → SpellsMembers limited level ms inside → (at : ℕ) (outer : List Frame) (rest : List ℕ) → length outer + 1 ≡ level
      → (limited ≡ true → HasUniqueKeys ms) → Arrives limited at outer first_key (inside ++ 125 ∷ []) outer (ended (object ms)) rest
  members_arrive limited level no_members inside s at outer rest size unique =
      arrives_then limited at outer first_key inside outer first_key (125 ∷ []) outer (ended (object no_members)) rest
      (arrives_by limited at outer first_key inside outer first_key ((125 ∷ []) ++ rest) (space_moves at outer first_key inside s tt))
      (arrives_by limited (at + length inside) outer first_key (125 ∷ []) outer (ended (object no_members)) rest (moves_byte (at + length inside) 125 outer first_key outer (ended (object no_members)) refl))
  members_arrive limited level (member k v ms) inside s at outer rest size unique =
      let tail : List ℕ = s.6 ++ 125 ∷ [] in
      let frames : List Frame = in_object [] k ∷ outer in
      let last : Spot = ended (object (member k v ms)) in
      let x : List ℕ = s.2 ++ (58 ∷ s.3 ++ (s.4 ++ (s.5 ++ tail))) in
      arrives_as limited at outer first_key (s.0 ++ (s.1 ++ x)) (inside ++ 125 ∷ []) outer last rest (seven s.0 s.1 s.2 s.3 s.4 s.5 s.6 (125 ∷ []) ∙ ap (λ bs. bs ++ 125 ∷ []) (sym s.14))
      (arrives_then limited at outer first_key s.0 outer first_key (s.1 ++ x) outer last rest
      (arrives_by limited at outer first_key s.0 outer first_key ((s.1 ++ x) ++ rest) (space_moves at outer first_key s.0 s.7 tt))
      (first_key_is limited (at + length s.0) outer k s.1 x outer last rest s.8
      (keyed limited (at + length s.0) outer [] k v [] s.1 s.2 s.3 s.4 s.5 tail outer last rest tt s.8 s.9 s.10 s.12 (λ l. refl)
      (λ j. value_arrives limited level v s.4 s.11 j frames ((s.5 ++ tail) ++ rest) (omega (arith, size)) (delimited s.5 tail rest s.12 (delimits_members limited level ms s.6 rest s.13)))
      (λ j. more_members_arrive limited level ms s.6 s.13 j outer [] k v rest size unique))))

  more_members_arrive : (limited : Bool) (level : ℕ) (ms : Members) (more : List ℕ) → SpellsMoreMembers limited level ms more → (at : ℕ) (outer : List Frame) (earlier : List Member) (k : List ℕ) (v : Value) (rest : List ℕ)
      → length outer + 1 ≡ level → (limited ≡ true → HasUniqueKeys (members_onto earlier (member k v ms)))
      → Arrives limited at (in_object earlier k ∷ outer) (ended v) (more ++ 125 ∷ []) outer (ended (object (members_onto earlier (member k v ms)))) rest
  more_members_arrive limited level no_members more s at outer earlier k v rest size unique =
      arrives_as limited at (in_object earlier k ∷ outer) (ended v) (125 ∷ []) (more ++ 125 ∷ []) outer (ended (object (members_onto earlier (member k v no_members)))) rest (ap (λ bs. bs ++ 125 ∷ []) (sym s))
      (close_members limited at outer earlier k v rest)
  more_members_arrive limited level (member j w ms) more s at outer earlier k v rest size unique =
      let tail : List ℕ = s.6 ++ 125 ∷ [] in
      let so_far : List Member = earlier ++ (k, v) ∷ [] in
      let frames : List Frame = in_object so_far j ∷ outer in
      let last : Spot = ended (object (members_onto earlier (member k v (member j w ms)))) in
      let x : List ℕ = s.0 ++ (s.1 ++ (s.2 ++ (58 ∷ s.3 ++ (s.4 ++ (s.5 ++ tail))))) in
      let unique_here : limited ≡ true → HasUniqueKeys (members_onto so_far (member j w ms)) = λ l. subst (λ (is : Members). HasUniqueKeys is) (sym (members_onto-push earlier k v (member j w ms))) (unique l) in
      arrives_as limited at (in_object earlier k ∷ outer) (ended v) (44 ∷ x) (more ++ 125 ∷ []) outer last rest
      (ap (λ bs. 44 ∷ bs) (seven s.0 s.1 s.2 s.3 s.4 s.5 s.6 (125 ∷ [])) ∙ ap (λ bs. bs ++ 125 ∷ []) (sym s.14))
      (arrives_then limited at (in_object earlier k ∷ outer) (ended v) (44 ∷ []) outer (key_wanted so_far) x outer last rest
      (arrives_by limited at (in_object earlier k ∷ outer) (ended v) (44 ∷ []) outer (key_wanted so_far) (x ++ rest) (moves_byte at 44 (in_object earlier k ∷ outer) (ended v) outer (key_wanted so_far) refl))
      (keyed limited (at + 1) outer so_far j w s.0 s.1 s.2 s.3 s.4 s.5 tail outer last rest s.7 s.8 s.9 s.10 s.12 (λ l. new_key so_far j w ms (unique_here l))
      (λ i. value_arrives limited level w s.4 s.11 i frames ((s.5 ++ tail) ++ rest) (omega (arith, size)) (delimited s.5 tail rest s.12 (delimits_members limited level ms s.6 rest s.13)))
      (λ i. subst (λ (is : Members). Arrives limited i frames (ended w) tail outer (ended (object is)) rest) (members_onto-push earlier k v (member j w ms))
      (more_members_arrive limited level ms s.6 s.13 i outer so_far j w rest size unique_here))))

-- a whole text
text_end : (k : ℕ) (v : Value) → outcome k [] (ended v) [] ≡ done v
unfolding outcome finish finish_value
text_end k v = refl

pub text_arrives : (limited : Bool) (v : Value) (bs : List ℕ) → SpellsText limited v bs → (whole_outcome bs ≡ done v) ⊎ Refuses limited (whole_outcome bs)
unfolding whole_outcome
text_arrives limited v bs s =
    let a : Arrives limited 0 [] wanted (s.0 ++ (s.1 ++ (s.2 ++ []))) [] (ended v) [] =
    padded limited 0 [] v s.0 s.1 s.2 [] [] (ended v) [] s.3 s.5
    (λ k. value_arrives limited 0 v s.1 s.4 k [] ((s.2 ++ []) ++ []) refl (delimited s.2 [] [] s.5 tt))
    (λ k. arrives_by limited k [] (ended v) [] [] (ended v) [] (moves_none k [] (ended v))) in
    let same : (s.0 ++ (s.1 ++ (s.2 ++ []))) ++ [] ≡ bs = append-nil (s.0 ++ (s.1 ++ (s.2 ++ []))) ∙ (ap (λ x. s.0 ++ (s.1 ++ x)) (append-nil s.2) ∙ sym s.6) in
    ⊎_elim (λ e. inl (ap (outcome 0 [] wanted) (sym same) ∙ (e ∙ text_end (0 + length (s.0 ++ (s.1 ++ (s.2 ++ [])))) v)))
    (λ r. inr (refuses_along limited (outcome 0 [] wanted bs) (outcome 0 [] wanted ((s.0 ++ (s.1 ++ (s.2 ++ []))) ++ [])) (ap (outcome 0 [] wanted) (sym same)) r)) a
