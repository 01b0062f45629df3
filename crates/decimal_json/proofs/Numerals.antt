-- The machine inside a number, a string and an escape.
use Rattle.std.proofs.Common.{◌≡◌, ℕ, ◌+◌, ◌*◌, ◌<◌, ◌≤◌, ◌==◌, List, [], ◌∷◌, ◌++◌, drop, length, get_or, refl, sym, ap, subst, ◌∙◌, ⊎_elim, nat_le, arith, Bool, true, false, append_assoc, append-nil, length-append, cond, ℤ, slice_range, encode_utf8, Some, None, ◌⊎◌}
use Rattle.decimal_json.specs.Value.{number, is_digit, digit_of, is_mark, exponent_of, Frame, Purpose}
use Rattle.decimal_json.specs.inside.Scan.{Spot, numeral, minus, zero_first, whole, point, fraction, mark, signed, exponent, ended, so_far, next, stop, step, numeral_step, begin_step, scan, finish, fault, quoted, plain, Outcome, quoted_step, quote_step, Hex, no_digit, one_digit, two_digits, three_digits, escaped, unit, high, high_escaped, high_unit, Step, more_hex, unit_step, pair_step, escape_step, At, JsonFault, AddsDigits, ReadsWhole, ReadsFraction, AddsExponent, ReadsExponent, kept, begun, AfterWhole, MayEnd, FailsAt, StandsAt, Leads, ReadsPlain, ReadsText, BreaksText, ReadsEscape, BreaksEscape, resumed, HexAt, ReadsUnit, BreaksUnit}
use Rattle.std.proofs.lemmas.Bool.{and_parts, leb-true, ne_eqb, eqb-true, false≢true, or_cases}
use Rattle.decimal_json.proofs.Moves.{same_scan, moved, byte_and_rest, fails_there, stopped, stepped, finished}
use Rattle.std.proofs.lemmas.List.Edits.{between_more}
use Rattle.std.specs.Str.{IsCharBoundary}
use Rattle.decimal_json.specs.Characters.{is_plain, is_hex, unit_of, short_escape}
use Rattle.std.proofs.lemmas.Str.{encode_ascii}
use Rattle.std.specs.Char.Utf16.{is_low_surrogate, is_high_surrogate, surrogate_pair_char}

pub adds_more : (bytes : List ℕ) (start at : ℕ) (old new : List ℕ) → AddsDigits bytes start at old new → at < length bytes
    → is_digit (get_or bytes at 0) ≡ true → AddsDigits bytes start (at + 1) old (new ++ digit_of (get_or bytes at 0) ∷ [])
unfolding step numeral_step
adds_more bytes start at old new r h e = record {
  digits = r.digits ++ d ∷ [];
  added = ap (λ xs. xs ++ d ∷ []) r.added ∙ append_assoc old r.digits (d ∷ []);
  count = omega (arith, r.count, length-append r.digits (d ∷ []));
  before_point = λ outer n ds. r.before_point outer n ds
      ∙ (moved bytes at c outer (numeral (whole n (ds ++ r.digits))) outer (numeral (whole n ((ds ++ r.digits) ++ d ∷ []))) (byte_and_rest bytes at h) (rw e refl)
      ∙ ap (λ xs. scan bytes (at + 1) outer (numeral (whole n xs))) (append_assoc ds r.digits (d ∷ [])));
  after_point = λ outer n ds fs. r.after_point outer n ds fs
      ∙ (moved bytes at c outer (numeral (fraction n ds (fs ++ r.digits))) outer (numeral (fraction n ds ((fs ++ r.digits) ++ d ∷ []))) (byte_and_rest bytes at h) (rw e refl)
      ∙ ap (λ xs. scan bytes (at + 1) outer (numeral (fraction n ds xs))) (append_assoc fs r.digits (d ∷ [])));
} where
  c : ℕ
  c = get_or bytes at 0

  d : ℕ
  d = digit_of (get_or bytes at 0)

pub digit_low : (c : ℕ) → is_digit c ≡ true → 48 ≤ c
digit_low c e = leb-true 48 c (and_parts (nat_le 48 c) (nat_le c 57) e).0

-- the first digit of a number
pub whole_starts : (at c : ℕ) (outer : List Frame) (n : Bool) → is_digit c ≡ true → (c ≡ 48 → ⊥)
    → step at outer (begun n) c ≡ next outer (numeral (whole n (digit_of c ∷ [])))
unfolding step numeral_step begin_step
whole_starts at c outer true h ne = rw (ne_eqb c 48 ne, h) refl
whole_starts at c outer false h ne =
    let low : 48 ≤ c = digit_low c h in
    let high : c ≤ 57 = leb-true c 57 (and_parts (nat_le 48 c) (nat_le c 57) h).1 in
    rw (
      ne_eqb c 32 (λ e. omega arith),
      ne_eqb c 9 (λ e. omega arith),
      ne_eqb c 10 (λ e. omega arith),
      ne_eqb c 13 (λ e. omega arith),
      ne_eqb c 34 (λ e. omega arith),
      ne_eqb c 91 (λ e. omega arith),
      ne_eqb c 123 (λ e. omega arith),
      ne_eqb c 116 (λ e. omega arith),
      ne_eqb c 102 (λ e. omega arith),
      ne_eqb c 110 (λ e. omega arith),
      ne_eqb c 45 (λ e. omega arith),
      ne_eqb c 48 ne,
      h,
    ) refl

pub zero_starts : (at : ℕ) (outer : List Frame) (n : Bool) → step at outer (begun n) 48 ≡ next outer (numeral (zero_first n))
unfolding step numeral_step begin_step
zero_starts at outer true = refl
zero_starts at outer false = refl

-- a sign with no digit behind it
pub no_whole : (bytes : List ℕ) (at : ℕ) (outer : List Frame) → FailsAt is_digit bytes at → scan bytes at outer (numeral minus) ≡ fault at 2
unfolding step numeral_step finish
no_whole bytes at outer fails = fails_there bytes at at 2 outer (numeral minus) is_digit fails refl (λ c h. rw (ne_eqb c 48 (λ e. false≢true (sym h ∙ ap is_digit e)), h) refl)

pub mark_is : (c : ℕ) (P : ℕ → Type 0) → is_mark c ≡ true → P 101 → P 69 → P c
mark_is c P h small large = ⊎_elim (λ e. subst P (sym (eqb-true c 101 e)) small) (λ e. subst P (sym (eqb-true c 69 e)) large) (or_cases (c == 101) (c == 69) h)

-- a spot where a number may end: a mark leads on, and any other byte does what it does behind the number
may_end : (bytes : List ℕ) (at : ℕ) (outer : List Frame) (spot : Spot) (n : Bool) (ds fs : List ℕ) → ((c : ℕ) → is_mark c ≡ true → step at outer spot c ≡ next outer (numeral (mark n ds fs)))
    → ((c : ℕ) (cs : List ℕ) → drop at bytes ≡ c ∷ cs → is_mark c ≡ false → step at outer spot c ≡ step at outer (ended (so_far n ds fs false 0)) c)
    → finish at outer spot ≡ finish at outer (ended (so_far n ds fs false 0)) → MayEnd bytes at outer spot n ds fs
may_end bytes at outer spot n ds fs marks other last = grind (arith, moved, same_scan, marks, other, last)

-- a number that begins with 0
pub after_zero : (bytes : List ℕ) (at : ℕ) (outer : List Frame) (n : Bool) → AfterWhole bytes at outer (numeral (zero_first n)) n (0 ∷ [])
unfolding step numeral_step finish
after_zero bytes at outer n = record {
  pointed = λ e. moved bytes at 46 outer (numeral (zero_first n)) outer (numeral (point n (0 ∷ []))) e refl;
  unpointed = λ none. may_end bytes at outer (numeral (zero_first n)) n (0 ∷ []) []
      (λ c m. mark_is c (λ c. step at outer (numeral (zero_first n)) c ≡ next outer (numeral (mark n (0 ∷ []) []))) m refl refl) (λ c cs e m. rw (none c cs e, m) refl) refl;
}

pub after_digits : (bytes : List ℕ) (at : ℕ) (outer : List Frame) (n : Bool) (ds : List ℕ) → FailsAt is_digit bytes at
    → AfterWhole bytes at outer (numeral (whole n ds)) n ds
unfolding step numeral_step finish
after_digits bytes at outer n ds fails = record {
  pointed = λ e. moved bytes at 46 outer (numeral (whole n ds)) outer (numeral (point n ds)) e refl;
  unpointed = λ none. may_end bytes at outer (numeral (whole n ds)) n ds []
      (λ c m. mark_is c (λ c. step at outer (numeral (whole n ds)) c ≡ next outer (numeral (mark n ds []))) m refl refl) (λ c cs e m. rw (fails c cs e, none c cs e, m) refl) refl;
}

pub after_fraction : (bytes : List ℕ) (at : ℕ) (outer : List Frame) (n : Bool) (ds fs : List ℕ) → FailsAt is_digit bytes at
    → MayEnd bytes at outer (numeral (fraction n ds fs)) n ds fs
unfolding step numeral_step finish
after_fraction bytes at outer n ds fs fails = may_end bytes at outer (numeral (fraction n ds fs)) n ds fs
    (λ c m. mark_is c (λ c. step at outer (numeral (fraction n ds fs)) c ≡ next outer (numeral (mark n ds fs))) m refl refl) (λ c cs e m. rw (fails c cs e, m) refl) refl

-- the digits before the point, all of them
pub reads_zero : (bytes : List ℕ) (start : ℕ) (outer : List Frame) (n : Bool) → StandsAt bytes start 48
    → ReadsWhole bytes start (start + 1) outer n (0 ∷ [])
reads_zero bytes start outer n e = record {
  spot = numeral (zero_first n);
  same = moved bytes start 48 outer (begun n) outer (numeral (zero_first n)) e (zero_starts start outer n);
  behind = after_zero bytes (start + 1) outer n;
}

pub reads_whole : (bytes : List ℕ) (start at c : ℕ) (outer : List Frame) (n : Bool) (new : List ℕ) → StandsAt bytes start c → is_digit c ≡ true → (c ≡ 48 → ⊥)
    → AddsDigits bytes (start + 1) at (digit_of c ∷ []) new → FailsAt is_digit bytes at → ReadsWhole bytes start at outer n new
reads_whole bytes start at c outer n new e h ne r fails = record {
  spot = numeral (whole n new);
  same = moved bytes start c outer (begun n) outer (numeral (whole n (digit_of c ∷ []))) e (whole_starts start c outer n h ne)
      ∙ (r.before_point outer n (digit_of c ∷ []) ∙ ap (λ xs. scan bytes at outer (numeral (whole n xs))) (sym r.added));
  behind = after_digits bytes at outer n new fails;
}

pub no_fraction : (bytes : List ℕ) (start : ℕ) (old : List ℕ) → FailsAt (λ c. c == 46) bytes start → ReadsFraction bytes start start 0 old old
no_fraction bytes start old fails = record {
  digits = [];
  added = sym (append-nil old);
  count = refl;
  read = λ outer spot n behind. (spot, refl, behind.unpointed fails);
}

pub no_digit_after_point : (bytes : List ℕ) (start : ℕ) (outer : List Frame) (spot : Spot) (n : Bool) (ds : List ℕ) → StandsAt bytes start 46
    → FailsAt is_digit bytes (start + 1) → AfterWhole bytes start outer spot n ds → scan bytes start outer spot ≡ fault (start + 1) 2
unfolding step numeral_step finish
no_digit_after_point bytes start outer spot n ds e fails behind =
    behind.pointed e ∙ fails_there bytes (start + 1) (start + 1) 2 outer (numeral (point n ds)) is_digit fails refl (λ c h. rw h refl)

pub reads_fraction : (bytes : List ℕ) (start at c places : ℕ) (old new : List ℕ) → StandsAt bytes start 46 → StandsAt bytes (start + 1) c → is_digit c ≡ true
    → AddsDigits bytes (start + 2) at (old ++ digit_of c ∷ []) new → FailsAt is_digit bytes at → places + (start + 1) ≡ at
    → ReadsFraction bytes start at places old new
unfolding step numeral_step
reads_fraction bytes start at c places old new e f h r fails count = record {
  digits = digit_of c ∷ r.digits;
  added = r.added ∙ append_assoc old (digit_of c ∷ []) r.digits;
  count = omega (arith, r.count);
  read = λ outer spot n behind. (
    numeral (fraction n old (digit_of c ∷ r.digits)),
    behind.pointed e ∙ (moved bytes (start + 1) c outer (numeral (point n old)) outer (numeral (fraction n old (digit_of c ∷ []))) f (rw h refl)
        ∙ subst (λ (k : ℕ). scan bytes k outer (numeral (fraction n old (digit_of c ∷ []))) ≡ scan bytes at outer (numeral (fraction n old (digit_of c ∷ r.digits)))) (omega arith) (r.after_point outer n old (digit_of c ∷ []))),
    after_fraction bytes at outer n old (digit_of c ∷ r.digits) fails,
  );
}

-- the sign of an exponent, or none
pub sign_read : (bytes : List ℕ) (at : ℕ) (outer : List Frame) (n : Bool) (ds fs : List ℕ) (down : Bool) → StandsAt bytes at (cond down 45 43)
    → scan bytes at outer (numeral (mark n ds fs)) ≡ scan bytes (at + 1) outer (numeral (signed n ds fs down))
unfolding step numeral_step
sign_read bytes at outer n ds fs true e = moved bytes at 45 outer (numeral (mark n ds fs)) outer (numeral (signed n ds fs true)) e refl
sign_read bytes at outer n ds fs false e = moved bytes at 43 outer (numeral (mark n ds fs)) outer (numeral (signed n ds fs false)) e refl

pub no_sign : (bytes : List ℕ) (at : ℕ) (outer : List Frame) (n : Bool) (ds fs : List ℕ) → FailsAt (λ c. c == 43) bytes at → FailsAt (λ c. c == 45) bytes at
    → scan bytes at outer (numeral (mark n ds fs)) ≡ scan bytes at outer (numeral (signed n ds fs false))
unfolding step numeral_step finish
no_sign bytes at outer n ds fs no_plus no_minus = same_scan bytes at outer (numeral (mark n ds fs)) (numeral (signed n ds fs false)) (λ c cs e. rw (no_plus c cs e, no_minus c cs e) refl) refl

pub exponent_ends : (bytes : List ℕ) (at : ℕ) (outer : List Frame) (n : Bool) (ds fs : List ℕ) (down : Bool) (w : ℕ) → FailsAt is_digit bytes at
    → scan bytes at outer (numeral (exponent n ds fs down w)) ≡ scan bytes at outer (ended (so_far n ds fs down w))
unfolding step numeral_step finish
exponent_ends bytes at outer n ds fs down w fails =
    same_scan bytes at outer (numeral (exponent n ds fs down w)) (ended (so_far n ds fs down w)) (λ c cs e. rw (fails c cs e) refl) refl

pub adds_exponent : (bytes : List ℕ) (start at first written new : ℕ) → AddsExponent bytes start at first written → at < length bytes
    → is_digit (get_or bytes at 0) ≡ true → ((w : ℕ) → written ≡ kept w → new ≡ kept (w * 10 + digit_of (get_or bytes at 0)))
    → AddsExponent bytes start (at + 1) first new
unfolding step numeral_step
adds_exponent bytes start at first written new r h e more = (
  r.0 * 10 + digit_of (get_or bytes at 0),
  more r.0 r.1,
  λ outer n ds fs down. r.2 outer n ds fs down
      ∙ moved bytes at (get_or bytes at 0) outer (numeral (exponent n ds fs down r.0)) outer (numeral (exponent n ds fs down (r.0 * 10 + digit_of (get_or bytes at 0)))) (byte_and_rest bytes at h)
      (rw e refl),
)

-- an exponent from its mark on
pub reads_exponent : (bytes : List ℕ) (start at end m c written : ℕ) (down : Bool) → StandsAt bytes start m → is_mark m ≡ true
    → ((outer : List Frame) (n : Bool) (ds fs : List ℕ) → scan bytes (start + 1) outer (numeral (mark n ds fs)) ≡ scan bytes at outer (numeral (signed n ds fs down)))
    → StandsAt bytes at c → is_digit c ≡ true → AddsExponent bytes (at + 1) end (digit_of c) written → FailsAt is_digit bytes end
    → ReadsExponent bytes start end down written
unfolding step numeral_step
reads_exponent bytes start at end m c written down e is_m sign f h r fails = (
  r.0,
  r.1,
  λ outer spot n ds fs behind. behind.marked m e is_m ∙ (sign outer n ds fs
      ∙ (moved bytes at c outer (numeral (signed n ds fs down)) outer (numeral (exponent n ds fs down (digit_of c))) f (rw h refl)
      ∙ (r.2 outer n ds fs down ∙ exponent_ends bytes end outer n ds fs down r.0 fails))),
)

pub no_digit_after_sign : (bytes : List ℕ) (start at m : ℕ) (down : Bool) → StandsAt bytes start m → is_mark m ≡ true
    → ((outer : List Frame) (n : Bool) (ds fs : List ℕ) → scan bytes (start + 1) outer (numeral (mark n ds fs)) ≡ scan bytes at outer (numeral (signed n ds fs down)))
    → FailsAt is_digit bytes at → (outer : List Frame) (spot : Spot) (n : Bool) (ds fs : List ℕ) → MayEnd bytes start outer spot n ds fs → scan bytes start outer spot ≡ fault at 2
unfolding step numeral_step finish
no_digit_after_sign bytes start at m down e is_m sign fails outer spot n ds fs behind =
    behind.marked m e is_m ∙ (sign outer n ds fs
    ∙ fails_there bytes at at 2 outer (numeral (signed n ds fs down)) is_digit fails refl (λ c h. rw h refl))

-- a whole number of the text: its three parts, and what they say together
pub reads_number : (bytes : List ℕ) (start whole_end point_end end places written : ℕ) (outer : List Frame) (n down : Bool) (ds new : List ℕ) (held_to : ℤ)
    → ReadsWhole bytes start whole_end outer n ds → ReadsFraction bytes whole_end point_end places ds new → ReadsExponent bytes point_end end down written
    → ((w : ℕ) → written ≡ kept w → held_to ≡ exponent_of down w places)
    → scan bytes start outer (begun n) ≡ scan bytes end outer (ended (number (record { negative = n; digits = new; exponent = held_to })))
reads_number bytes start whole_end point_end end places written outer n down ds new held_to a b d is = grind (arith, a, b, d, is)

-- ---- The machine inside a string.
pub plain_parts : (c : ℕ) → is_plain c ≡ true → ((c == 34) ≡ false) × ((c == 92) ≡ false) × (nat_le 32 c ≡ true)
plain_parts c e = grind (arith, e)

pub plain_leads : (at c : ℕ) (outer : List Frame) (p : Purpose) (t : List ℕ) → is_plain c ≡ true → step at outer (quoted p (plain t)) c ≡ next outer (quoted p (plain (t ++ c ∷ [])))
unfolding step quoted_step
plain_leads at c outer p t e = let parts = plain_parts c e in rw (parts.0, parts.1, parts.2) refl

pub reads_more : (bytes : List ℕ) (start at : ℕ) → start ≤ at → at < length bytes → is_plain (get_or bytes at 0) ≡ true → ReadsPlain bytes start at (slice_range bytes start at)
    → ReadsPlain bytes start (at + 1) (slice_range bytes start (at + 1))
reads_more bytes start at le lt e r = λ outer p t. r outer p t
    ∙ (moved bytes at (get_or bytes at 0) outer (quoted p (plain (t ++ slice_range bytes start at))) outer (quoted p (plain ((t ++ slice_range bytes start at) ++ get_or bytes at 0 ∷ [])))
    (byte_and_rest bytes at lt) (plain_leads at (get_or bytes at 0) outer p (t ++ slice_range bytes start at) e)
    ∙ ap (λ xs. scan bytes (at + 1) outer (quoted p (plain xs))) (append_assoc t (slice_range bytes start at) (get_or bytes at 0 ∷ []) ∙ ap (λ xs. t ++ xs) (sym (between_more bytes start at 0 le lt))))

-- the ends of a string
pub plain_quote : (at : ℕ) (outer : List Frame) (p : Purpose) (t : List ℕ) → step at outer (quoted p (plain t)) 34 ≡ quote_step outer p t
unfolding step quoted_step
plain_quote at outer p t = refl

plain_control : (at c : ℕ) (outer : List Frame) (p : Purpose) (t : List ℕ) → is_plain c ≡ false → (c ≡ 34 → ⊥) → (c ≡ 92 → ⊥) → step at outer (quoted p (plain t)) c ≡ stop at 2
unfolding step quoted_step
plain_control at c outer p t e no_quote no_backslash =
    let a : (c == 34) ≡ false = ne_eqb c 34 no_quote in
    let b : (c == 92) ≡ false = ne_eqb c 92 no_backslash in
    let low : nat_le 32 c ≡ false = rw (a, b) at e in
    rw (a, b, low) refl

-- the text so far, up to a place
pub record HasRead (bytes : List ℕ) (start at : ℕ) (t : List ℕ) : Type 0 where
  pub forward : start ≤ at
  pub within : at ≤ length bytes
  pub boundary : IsCharBoundary bytes at
  pub same : (outer : List Frame) (p : Purpose) → scan bytes start outer (quoted p (plain [])) ≡ scan bytes at outer (quoted p (plain t))

-- the text up to the next byte that doesn't stand for itself
abbrev pub Reaches : List ℕ → ℕ → ℕ → List ℕ → Type 0
Reaches bytes start end t = (outer : List Frame) (p : Purpose) → scan bytes start outer (quoted p (plain [])) ≡ scan bytes end outer (quoted p (plain t))

pub reaches : (bytes source : List ℕ) (start at end : ℕ) (t more new : List ℕ) → bytes ≡ source → HasRead bytes start at t → ReadsPlain bytes at end (slice_range bytes at end)
    → more ≡ slice_range source at end → new ≡ t ++ more → Reaches source start end new
reaches bytes source start at end t more new e r f g h = grind (arith, e, r, f, g, h)

pub ends_early : (bytes source : List ℕ) (start end : ℕ) (t : List ℕ) (e : JsonFault) → bytes ≡ source → Reaches source start end t → e ≡ At end 2 → drop end bytes ≡ [] → BreaksText source start e
unfolding finish
ends_early bytes source start end t e same r is none = λ outer p. subst (λ (e : JsonFault). Leads e (scan source start outer (quoted p (plain [])))) (sym is)
    (r outer p ∙ finished source end outer (quoted p (plain t)) (subst (λ (s : List ℕ). drop end s ≡ []) same none))

pub ends_well : (bytes source : List ℕ) (start end c : ℕ) (t : List ℕ) → bytes ≡ source → Reaches source start end t → StandsAt bytes end c → c ≡ 34 → ReadsText source start (end + 1) t
ends_well bytes source start end c t same r f is = λ outer p. r outer p ∙ (stepped source end 34 outer (quoted p (plain t)) (subst (λ (b : ℕ). StandsAt source end b) is (subst (λ (s : List ℕ). StandsAt s end c) same f)) ∙ ap (resumed source (end + 1)) (plain_quote end outer p t))

pub ends_badly : (bytes source : List ℕ) (start end c : ℕ) (t : List ℕ) (e : JsonFault) → bytes ≡ source → Reaches source start end t → e ≡ At end 2 → StandsAt bytes end c → FailsAt is_plain bytes end
    → (c ≡ 34 → ⊥) → (c ≡ 92 → ⊥) → BreaksText source start e
ends_badly bytes source start end c t e same r is f fails a b = λ outer p.
    let stands : StandsAt source end c = subst (λ (s : List ℕ). StandsAt s end c) same f in
    let no_plain : FailsAt is_plain source end = subst (λ (s : List ℕ). FailsAt is_plain s end) same fails in
    subst (λ (e : JsonFault). Leads e (scan source start outer (quoted p (plain [])))) (sym is)
    (r outer p ∙ stopped source end c outer (quoted p (plain t)) end 2 stands (plain_control end c outer p t (no_plain c (drop (end + 1) source) stands) a b))

pub goes_on : (bytes source : List ℕ) (start end at c : ℕ) (t new : List ℕ) → bytes ≡ source → Reaches source start end t → ReadsEscape bytes end at c → new ≡ t ++ encode_utf8 c → Reaches source start at new
goes_on bytes source start end at c t new same r escape is = grind (arith, same, r, escape, is)

-- where a byte doesn't stand for itself, a character begins
pub not_plain_low : (c : ℕ) → is_plain c ≡ false → c < 128
not_plain_low c e = grind (arith, e)

pub boundary_at_end : (bytes : List ℕ) (end : ℕ) → end ≤ length bytes → FailsAt is_plain bytes end → IsCharBoundary bytes end
boundary_at_end bytes end le fails = (le, λ lt high. absurd (omega (arith, not_plain_low (get_or bytes end 0) (fails (get_or bytes end 0) (drop (end + 1) bytes) (byte_and_rest bytes end lt)))))

-- ---- The machine inside an escape.
-- one place under two names
pub placed : (bytes : List ℕ) (i j : ℕ) (outer : List Frame) (spot : Spot) → i ≡ j → scan bytes i outer spot ≡ scan bytes j outer spot
placed bytes i j outer spot e = ap (λ k. scan bytes k outer spot) e

-- the two places where such digits stand
pub unit_each : (outer : List Frame) (p : Purpose) (t : List ℕ) (back at c : ℕ) (h : Hex) → is_hex c ≡ true
    → step at outer (quoted p (unit t back h)) c ≡ more_hex h c (λ m. next outer (quoted p (unit t back m))) (λ u. unit_step outer p t back u)
unfolding step quoted_step
unit_each outer p t back at c h e = rw e refl

pub second_each : (outer : List Frame) (p : Purpose) (t : List ℕ) (back u at c : ℕ) (h : Hex) → is_hex c ≡ true
    → step at outer (quoted p (high_unit t back u h)) c ≡ more_hex h c (λ m. next outer (quoted p (high_unit t back u m))) (λ v. pair_step outer p t back u v)
unfolding step quoted_step
second_each outer p t back u at c h e = rw e refl

unit_fails : (bytes : List ℕ) (outer : List Frame) (p : Purpose) (t : List ℕ) (back at : ℕ) (h : Hex) → FailsAt is_hex bytes at
    → scan bytes at outer (quoted p (unit t back h)) ≡ fault at 2
unfolding step quoted_step finish
unit_fails bytes outer p t back at h fails = fails_there bytes at at 2 outer (quoted p (unit t back h)) is_hex fails refl (λ c e. rw e refl)

-- Up to a place there are these hexadecimal digits of a unit alone, or of the second of a pair.
pub record HasHex (bytes : List ℕ) (start at : ℕ) (h : Hex) : Type 0 where
  pub alone : (outer : List Frame) (p : Purpose) (t : List ℕ) (back : ℕ) → scan bytes start outer (quoted p (unit t back no_digit)) ≡ scan bytes at outer (quoted p (unit t back h))
  pub second : (outer : List Frame) (p : Purpose) (t : List ℕ) (back u : ℕ) → scan bytes start outer (quoted p (high_unit t back u no_digit)) ≡ scan bytes at outer (quoted p (high_unit t back u h))

pub no_hex : (bytes : List ℕ) (start : ℕ) → HasHex bytes start start no_digit
no_hex bytes start = record { alone = λ outer p t back. refl; second = λ outer p t back u. refl }

-- a digit more, which leads on
one_hex : (bytes : List ℕ) (start at past c : ℕ) (h m : Hex) → at + 1 ≡ past → StandsAt bytes at c → is_hex c ≡ true
    → ((more : Hex → Step) (full : ℕ → Step) → more_hex h c more full ≡ more m) → HasHex bytes start at h → HasHex bytes start past m
one_hex bytes start at past c h m here stands e leads so = record {
  alone = λ outer p t back. so.alone outer p t back
      ∙ (moved bytes at c outer (quoted p (unit t back h)) outer (quoted p (unit t back m)) stands (unit_each outer p t back at c h e ∙ leads _ _)
      ∙ placed bytes (at + 1) past outer (quoted p (unit t back m)) here);
  second = λ outer p t back u. so.second outer p t back u
      ∙ (moved bytes at c outer (quoted p (high_unit t back u h)) outer (quoted p (high_unit t back u m)) stands (second_each outer p t back u at c h e ∙ leads _ _)
      ∙ placed bytes (at + 1) past outer (quoted p (high_unit t back u m)) here);
}

pub first_hex : (bytes : List ℕ) (start a : ℕ) (i : HexAt bytes start a) → HasHex bytes start (start + 1) (one_digit i.0)
unfolding more_hex
first_hex bytes start a i = one_hex bytes start start (start + 1) i.0 no_digit (one_digit i.0) refl i.1 i.2 (λ more full. refl) (no_hex bytes start)

pub second_hex : (bytes : List ℕ) (start a b : ℕ) (i : HexAt bytes start a) (j : HexAt bytes (start + 1) b) → HasHex bytes start (start + 2) (two_digits i.0 j.0)
unfolding more_hex
second_hex bytes start a b i j =
    one_hex bytes start (start + 1) (start + 2) j.0 (one_digit i.0) (two_digits i.0 j.0) (omega arith) j.1 j.2 (λ more full. refl) (first_hex bytes start a i)

pub third_hex : (bytes : List ℕ) (start a b d : ℕ) (i : HexAt bytes start a) (j : HexAt bytes (start + 1) b) (k : HexAt bytes (start + 2) d)
    → HasHex bytes start (start + 3) (three_digits i.0 j.0 k.0)
unfolding more_hex
third_hex bytes start a b d i j k =
    one_hex bytes start (start + 2) (start + 3) k.0 (two_digits i.0 j.0) (three_digits i.0 j.0 k.0) (omega arith) k.1 k.2 (λ more full. refl) (second_hex bytes start a b i j)

pub reads_unit : (bytes : List ℕ) (start a b d f : ℕ) → HexAt bytes start a → HexAt bytes (start + 1) b → HexAt bytes (start + 2) d → HexAt bytes (start + 3) f
    → ReadsUnit bytes start (((a * 16 + b) * 16 + d) * 16 + f)
unfolding more_hex
reads_unit bytes start a b d f i j k l =
    let so = third_hex bytes start a b d i j k in
    let same : unit_of i.0 j.0 k.0 l.0 ≡ ((a * 16 + b) * 16 + d) * 16 + f = omega (arith, i.3, j.3, k.3, l.3) in
    let past : start + 3 + 1 ≡ start + 4 = omega arith in
    record {
      alone = λ outer p t back. so.alone outer p t back ∙ (stepped bytes (start + 3) l.0 outer (quoted p (unit t back (three_digits i.0 j.0 k.0))) l.1
          ∙ (ap (resumed bytes (start + 3 + 1)) (unit_each outer p t back (start + 3) l.0 (three_digits i.0 j.0 k.0) l.2 ∙ ap (unit_step outer p t back) same) ∙ ap (λ n. resumed bytes n (unit_step outer p t back (((a * 16 + b) * 16 + d) * 16 + f))) past));
      second = λ outer p t back u. so.second outer p t back u ∙ (stepped bytes (start + 3) l.0 outer (quoted p (high_unit t back u (three_digits i.0 j.0 k.0))) l.1
          ∙ (ap (resumed bytes (start + 3 + 1)) (second_each outer p t back u (start + 3) l.0 (three_digits i.0 j.0 k.0) l.2 ∙ ap (pair_step outer p t back u) same) ∙ ap (λ n. resumed bytes n (pair_step outer p t back u (((a * 16 + b) * 16 + d) * 16 + f))) past));
    }

pub breaks_unit : (bytes : List ℕ) (start at : ℕ) (h : Hex) (e : JsonFault) → HasHex bytes start at h → (e ≡ At at 2) × FailsAt is_hex bytes at → BreaksUnit bytes start e
unfolding step quoted_step finish
breaks_unit bytes start at h e so fails = record {
  alone = λ outer p t back. subst (λ (e : JsonFault). Leads e (scan bytes start outer (quoted p (unit t back no_digit)))) (sym fails.0) (so.alone outer p t back ∙ unit_fails bytes outer p t back at h fails.1);
  second = λ outer p t back u. so.second outer p t back u ∙ fails_there bytes at back 5 outer (quoted p (high_unit t back u h)) is_hex fails.1 refl (λ c e. rw e refl);
}

-- the second escape of a pair
pub no_backslash : (bytes : List ℕ) (at : ℕ) (outer : List Frame) (p : Purpose) (t : List ℕ) (back u : ℕ) → FailsAt (λ c. c == 92) bytes at
    → scan bytes at outer (quoted p (high t back u)) ≡ fault back 5
unfolding step quoted_step finish
no_backslash bytes at outer p t back u fails = fails_there bytes at back 5 outer (quoted p (high t back u)) (λ c. c == 92) fails refl (λ c no_test. rw no_test refl)

high_backslash : (bytes : List ℕ) (at : ℕ) (outer : List Frame) (p : Purpose) (t : List ℕ) (back u : ℕ) → StandsAt bytes at 92
    → scan bytes at outer (quoted p (high t back u)) ≡ scan bytes (at + 1) outer (quoted p (high_escaped t back u))
unfolding step quoted_step
high_backslash bytes at outer p t back u e = moved bytes at 92 outer (quoted p (high t back u)) outer (quoted p (high_escaped t back u)) e refl

pub no_u : (bytes : List ℕ) (at : ℕ) (outer : List Frame) (p : Purpose) (t : List ℕ) (back u : ℕ) → StandsAt bytes at 92 → FailsAt (λ c. c == 117) bytes (at + 1)
    → scan bytes at outer (quoted p (high t back u)) ≡ fault back 5
unfolding step quoted_step finish
no_u bytes at outer p t back u e fails =
    high_backslash bytes at outer p t back u e ∙ fails_there bytes (at + 1) back 5 outer (quoted p (high_escaped t back u)) (λ c. c == 117) fails refl (λ c no_test. rw no_test refl)

second_begins : (bytes : List ℕ) (at : ℕ) (outer : List Frame) (p : Purpose) (t : List ℕ) (back u : ℕ) → StandsAt bytes at 92 → StandsAt bytes (at + 1) 117
    → scan bytes at outer (quoted p (high t back u)) ≡ scan bytes (at + 2) outer (quoted p (high_unit t back u no_digit))
unfolding step quoted_step
second_begins bytes at outer p t back u e f = high_backslash bytes at outer p t back u e
    ∙ (moved bytes (at + 1) 117 outer (quoted p (high_escaped t back u)) outer (quoted p (high_unit t back u no_digit)) f refl
    ∙ placed bytes (at + 1 + 1) (at + 2) outer (quoted p (high_unit t back u no_digit)) (omega arith))

pub second_broken : (bytes : List ℕ) (at : ℕ) (e : JsonFault) (outer : List Frame) (p : Purpose) (t : List ℕ) (back u : ℕ) → StandsAt bytes at 92 → StandsAt bytes (at + 1) 117
    → BreaksUnit bytes (at + 2) e → scan bytes at outer (quoted p (high t back u)) ≡ fault back 5
second_broken bytes at e outer p t back u f g r = second_begins bytes at outer p t back u f g ∙ r.second outer p t back u

pub second_not_low : (bytes : List ℕ) (at v : ℕ) (outer : List Frame) (p : Purpose) (t : List ℕ) (back u : ℕ) → StandsAt bytes at 92 → StandsAt bytes (at + 1) 117
    → ReadsUnit bytes (at + 2) v → is_low_surrogate v ≡ false → scan bytes at outer (quoted p (high t back u)) ≡ fault back 5
unfolding pair_step
second_not_low bytes at v outer p t back u f g r low =
    second_begins bytes at outer p t back u f g ∙ (r.second outer p t back u ∙ ap (λ b. resumed bytes (at + 2 + 4) (cond b (next outer (quoted p (plain (t ++ encode_utf8 (surrogate_pair_char u v))))) (stop back 5))) low)

pub second_read : (bytes : List ℕ) (at v : ℕ) (outer : List Frame) (p : Purpose) (t : List ℕ) (back u : ℕ) → StandsAt bytes at 92 → StandsAt bytes (at + 1) 117
    → ReadsUnit bytes (at + 2) v → is_low_surrogate v ≡ true
    → scan bytes at outer (quoted p (high t back u)) ≡ scan bytes (at + 6) outer (quoted p (plain (t ++ encode_utf8 (surrogate_pair_char u v))))
unfolding pair_step
second_read bytes at v outer p t back u f g r low =
    second_begins bytes at outer p t back u f g ∙ (r.second outer p t back u
    ∙ (ap (λ b. resumed bytes (at + 2 + 4) (cond b (next outer (quoted p (plain (t ++ encode_utf8 (surrogate_pair_char u v))))) (stop back 5))) low
    ∙ placed bytes (at + 2 + 4) (at + 6) outer (quoted p (plain (t ++ encode_utf8 (surrogate_pair_char u v)))) (omega arith)))

-- a unit is the first of a pair, the second, or neither
pub low_not_high : (u : ℕ) → is_low_surrogate u ≡ true → is_high_surrogate u ≡ false
low_not_high u e = grind (arith, e)

pub high_between : (u : ℕ) → 0xD800 ≤ u → u < 0xE000 → is_low_surrogate u ≡ false → is_high_surrogate u ≡ true
high_between u lo hi e = grind (arith, lo, hi, e)

pub scalar_no_surrogate : (u : ℕ) → (u < 0xD800) ⊎ (0xE000 ≤ u) → (is_high_surrogate u ≡ false) × (is_low_surrogate u ≡ false)
scalar_no_surrogate u s = grind (arith, s)

escape_begins : (bytes : List ℕ) (back : ℕ) (outer : List Frame) (p : Purpose) (t : List ℕ) → StandsAt bytes back 92
    → scan bytes back outer (quoted p (plain t)) ≡ scan bytes (back + 1) outer (quoted p (escaped t back))
unfolding step quoted_step
escape_begins bytes back outer p t e = moved bytes back 92 outer (quoted p (plain t)) outer (quoted p (escaped t back)) e refl

unicode_begins : (bytes : List ℕ) (back : ℕ) (outer : List Frame) (p : Purpose) (t : List ℕ) → StandsAt bytes back 92 → StandsAt bytes (back + 1) 117
    → scan bytes back outer (quoted p (plain t)) ≡ scan bytes (back + 2) outer (quoted p (unit t back no_digit))
unfolding step quoted_step escape_step
unicode_begins bytes back outer p t e f = escape_begins bytes back outer p t e
    ∙ (moved bytes (back + 1) 117 outer (quoted p (escaped t back)) outer (quoted p (unit t back no_digit)) f refl
    ∙ placed bytes (back + 1 + 1) (back + 2) outer (quoted p (unit t back no_digit)) (omega arith))

pub unicode_broken : (bytes : List ℕ) (back : ℕ) (e : JsonFault) → StandsAt bytes back 92 → StandsAt bytes (back + 1) 117 → BreaksUnit bytes (back + 2) e → BreaksEscape bytes back e
unicode_broken bytes back e f g r = λ outer p t. subst (λ (o : Outcome). Leads e o) (sym (unicode_begins bytes back outer p t f g)) (r.alone outer p t back)

pub unicode_alone : (bytes : List ℕ) (back u : ℕ) → StandsAt bytes back 92 → StandsAt bytes (back + 1) 117 → ReadsUnit bytes (back + 2) u → (u < 0xD800) ⊎ (0xE000 ≤ u)
    → ReadsEscape bytes back (back + 6) u
unfolding unit_step
unicode_alone bytes back u f g r s = λ outer p t. let apart = scalar_no_surrogate u s in
    unicode_begins bytes back outer p t f g ∙ (r.alone outer p t back
    ∙ (rw (apart.0, apart.1) refl ∙ placed bytes (back + 2 + 4) (back + 6) outer (quoted p (plain (t ++ encode_utf8 u))) (omega arith)))

pub unicode_low : (bytes : List ℕ) (back u : ℕ) (e : JsonFault) → e ≡ At back 5 → StandsAt bytes back 92 → StandsAt bytes (back + 1) 117 → ReadsUnit bytes (back + 2) u
    → is_low_surrogate u ≡ true → BreaksEscape bytes back e
unfolding unit_step
unicode_low bytes back u e is f g r low = λ outer p t. subst (λ (e : JsonFault). Leads e (scan bytes back outer (quoted p (plain t)))) (sym is)
    (unicode_begins bytes back outer p t f g ∙ (r.alone outer p t back ∙ rw (low_not_high u low, low) refl))

high_begins : (bytes : List ℕ) (back u : ℕ) (outer : List Frame) (p : Purpose) (t : List ℕ) → StandsAt bytes back 92 → StandsAt bytes (back + 1) 117 → ReadsUnit bytes (back + 2) u
    → is_high_surrogate u ≡ true → scan bytes back outer (quoted p (plain t)) ≡ scan bytes (back + 6) outer (quoted p (high t back u))
unfolding unit_step
high_begins bytes back u outer p t f g r is_high = unicode_begins bytes back outer p t f g ∙ (r.alone outer p t back
    ∙ (rw is_high refl ∙ placed bytes (back + 2 + 4) (back + 6) outer (quoted p (high t back u)) (omega arith)))

pub unicode_pair : (bytes : List ℕ) (back u v : ℕ) → StandsAt bytes back 92 → StandsAt bytes (back + 1) 117 → ReadsUnit bytes (back + 2) u → is_high_surrogate u ≡ true
    → ((outer : List Frame) (p : Purpose) (t : List ℕ) (b h : ℕ) → scan bytes (back + 6) outer (quoted p (high t b h)) ≡ scan bytes (back + 6 + 6) outer (quoted p (plain (t ++ encode_utf8 (surrogate_pair_char h v)))))
    → ReadsEscape bytes back (back + 12) (surrogate_pair_char u v)
unicode_pair bytes back u v f g r is_high behind = λ outer p t. high_begins bytes back u outer p t f g r is_high
    ∙ (behind outer p t back u ∙ placed bytes (back + 6 + 6) (back + 12) outer (quoted p (plain (t ++ encode_utf8 (surrogate_pair_char u v)))) (omega arith))

pub unicode_unpaired : (bytes : List ℕ) (back u : ℕ) (e : JsonFault) → e ≡ At back 5 → StandsAt bytes back 92 → StandsAt bytes (back + 1) 117 → ReadsUnit bytes (back + 2) u
    → is_high_surrogate u ≡ true → ((outer : List Frame) (p : Purpose) (t : List ℕ) (b h : ℕ) → scan bytes (back + 6) outer (quoted p (high t b h)) ≡ fault b 5) → BreaksEscape bytes back e
unicode_unpaired bytes back u e is f g r is_high behind = λ outer p t. subst (λ (e : JsonFault). Leads e (scan bytes back outer (quoted p (plain t)))) (sym is)
    (high_begins bytes back u outer p t f g r is_high ∙ behind outer p t back u)

pub escaped_some : (at : ℕ) (outer : List Frame) (p : Purpose) (t : List ℕ) (back c b : ℕ) → short_escape c ≡ Some b
    → step at outer (quoted p (escaped t back)) c ≡ next outer (quoted p (plain (t ++ b ∷ [])))
unfolding step quoted_step escape_step
escaped_some at outer p t back c b e = ap (λ o. escape_step at outer p t back o c) e

escaped_none : (at : ℕ) (outer : List Frame) (p : Purpose) (t : List ℕ) (back c : ℕ) → short_escape c ≡ None → (c ≡ 117 → ⊥)
    → step at outer (quoted p (escaped t back)) c ≡ stop at 2
unfolding step quoted_step escape_step
escaped_none at outer p t back c e ne = ap (λ o. escape_step at outer p t back o c) e ∙ rw (ne_eqb c 117 ne) refl

-- an escape of one letter, or of none that there is
pub letter_ends : (bytes : List ℕ) (back : ℕ) (e : JsonFault) → e ≡ At (back + 1) 2 → StandsAt bytes back 92 → drop (back + 1) bytes ≡ [] → BreaksEscape bytes back e
unfolding finish
letter_ends bytes back e is f none = λ outer p t. subst (λ (e : JsonFault). Leads e (scan bytes back outer (quoted p (plain t)))) (sym is)
    (escape_begins bytes back outer p t f ∙ finished bytes (back + 1) outer (quoted p (escaped t back)) none)

pub letter_read : (bytes : List ℕ) (back c b : ℕ) → StandsAt bytes back 92 → StandsAt bytes (back + 1) c → Some b ≡ short_escape c → b < 128 → ReadsEscape bytes back (back + 2) b
letter_read bytes back c b f g is low = λ outer p t. escape_begins bytes back outer p t f
    ∙ (moved bytes (back + 1) c outer (quoted p (escaped t back)) outer (quoted p (plain (t ++ b ∷ []))) g (leads outer p t)
    ∙ (placed bytes (back + 1 + 1) (back + 2) outer (quoted p (plain (t ++ b ∷ []))) (omega arith)
    ∙ ap (λ xs. scan bytes (back + 2) outer (quoted p (plain (t ++ xs)))) (sym (encode_ascii b low)))) where
      leads : (outer : List Frame) (p : Purpose) (t : List ℕ) → step (back + 1) outer (quoted p (escaped t back)) c ≡ next outer (quoted p (plain (t ++ b ∷ [])))
      leads outer p t = escaped_some (back + 1) outer p t back c b (sym is)

pub letter_unknown : (bytes : List ℕ) (back c : ℕ) (e : JsonFault) → e ≡ At (back + 1) 2 → StandsAt bytes back 92 → StandsAt bytes (back + 1) c → None ≡ short_escape c → (c ≡ 117 → ⊥)
    → BreaksEscape bytes back e
letter_unknown bytes back c e is f g none ne = λ outer p t. subst (λ (e : JsonFault). Leads e (scan bytes back outer (quoted p (plain t)))) (sym is)
    (escape_begins bytes back outer p t f ∙ stopped bytes (back + 1) c outer (quoted p (escaped t back)) (back + 1) 2 g (escaped_none (back + 1) outer p t back c (sym none) ne))
