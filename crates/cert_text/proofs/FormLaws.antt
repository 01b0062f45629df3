-- The forms of numbers and of single lines read what they write, and nothing else; before them, the digits of a number's text.
use Rattle.std.proofs.Common.{ℕ, ℤ, ◌+◌, ◌/◌, ◌^◌, ◌<◌, ◌≤◌, length, unsigned_abs, arith, ◌≡◌, zero, suc, ◌-◌, ◌*◌, true, false, List, [], ◌∷◌, get_or, take, sym, ap, ◌∙◌, Bool, ◌++◌, drop, All, Option, Some, None, refl, subst, append_assoc, cond, inl, inr, ◌⊎◌, ◌%◌, pos, not, ◌&&◌, ◌||◌, nat_eq, nat_lt, nat_le, ◌↔◌, IfSome, codes}
use Rattle.std.proofs.Math.Nat.{pow-le-pow_right}
use Rattle.std.proofs.lemmas.Int.Digits.{digits_value-lt, digits_value_more}
use Rattle.uc_model.specs.Decimal.{whole_text, minus_text, signed_text, digit_byte}
use Rattle.uc_model.proofs.DecimalText.{whole_text_digits, digits_value-whole_text, length-whole_text-le, whole_text_nonempty, whole_text-digits_value, first_whole_text, whole_text_digit, whole_text_bytes, digit_value-digit_byte}
use Rattle.std.specs.Char.{digit_value}
use Rattle.std.specs.Str.Parse.{digits_value, AllDigits}
use Rattle.std.proofs.lemmas.List.Sums.{prefix_len_is, prefix_len-le-length}
use Rattle.std.proofs.lemmas.Grind.{common_steps}
use Rattle.cert_text.specs.inside.Forms.{is_digit, run, run_value, ◌>>=◌, Form, text_at, after, ended, both, mapped, passing, fixed, when, times, begins_with, is_whole, whole_at, decimals_at, signed_at, with_sign, millionths, millionths_at, money_at, ordinal_at, or_else, version_at, sizes_of, are_sizes, size_at, claim_at, on_cell, off_cell, on_cell_at, cell_at, row_at, scale_at, ramp_count_at, end_at}
use Rattle.std.specs.List.{flat_map, starts_with}
use Rattle.std.proofs.lemmas.Bool.Decides.{Decides-eqb}
use Rattle.std.proofs.lemmas.List.{drop_at, take_at, take-append-drop, length-append, length-take-le, get_or-take, get_or_append_left}
use Rattle.std.proofs.lemmas.List.Elements.{All-nil, All-cons, All-head, All-tail}
use Rattle.std.proofs.lemmas.Option.{same_Some, cond_some}
use Rattle.std.proofs.lemmas.Slice.Eq.{starts_is}
use Rattle.cert_text.proofs.Loops.{after_text}
use Rattle.std.proofs.lemmas.Bool.{ltb-true, leb-true, lt-ltb, le-leb, eqb-true, ne_eqb, and_parts, eq-eqb, false≢true}
use Rattle.uc_model.specs.Money.{six_digits, millionths_text, money_text}
use Rattle.uc_model.proofs.MoneyText.{length-six_digits, six_digits-digits_value, six_digits_injective}
use Rattle.cert_text.specs.TextConditions.{Cell, HasDigits, IsMoney, IsOnCell, IsOffCell, IsCellText, IsThermalRow, IsPowerRow}
use Rattle.outside.specs.Lines.{line, list_line}
use Rattle.cert_text.specs.CertificateText.{Version, First, Second, Third, version_line, size_line, claim_line, cell_text, thermal_line, scale_line, prices_line, end_line}
use Rattle.cert_text.specs.Grammar.{Sizes, AreSizes, IsSizeIn, ramp_count_line}
use Rattle.std.specs.Bool.{Decides}

-- a text of few digits is one of a small number
small-from-digits : (digits n : ℕ) → length (whole_text n) ≤ digits → n < 10 ^ digits
small-from-digits digits n short =
    let value = digits_value-lt 10 (whole_text n) (whole_text_digits n) in
    let power : 10 ^ length (whole_text n) ≤ 10 ^ digits = pow-le-pow_right {n = 10} (omega arith) short in
    omega (arith, value, digits_value-whole_text n, power)

pub digits_range : (digits n : ℕ) → 0 < digits → (length (whole_text n) ≤ digits) ↔ (n < 10 ^ digits)
digits_range digits n some = (small-from-digits digits n, length-whole_text-le digits n some)

pub money_range : (n : ℤ) → (length (whole_text (unsigned_abs n / 1000000)) + 6 ≤ 38) ↔ (unsigned_abs n < 10 ^ 38)
money_range n =
    let dollars = unsigned_abs n / 1000000 in
    let range = digits_range 32 dollars (omega arith) in (
      λ short. let small : dollars < 10 ^ 32 = range.0 (omega arith) in omega arith,
      λ small. let few : length (whole_text dollars) ≤ 32 = range.1 (omega arith) in omega arith,
    )

-- ---- The digits at the front of bytes.
-- a digit of a byte is the byte less that of `0`
digit_value_is : (c : ℕ) → is_digit c ≡ true → (digit_value c ≡ c - 48) × (c - 48 < 10)
digit_value_is c e = grind arith

-- a digit more
pub number_more : (bytes : List ℕ) (count value digit : ℕ) → count < length bytes → is_digit (get_or bytes count 0) ≡ true
    → value ≡ digits_value 10 (take count bytes) → digit ≡ get_or bytes count 0 - 48
    → value * 10 + digit ≡ digits_value 10 (take (count + 1) bytes)
number_more bytes count value digit lt e number is = grind (arith, digit_value_is, digits_value_more, lt, e, number, is)

pub digit_bound : (c digit : ℕ) → is_digit c ≡ true → digit ≡ c - 48 → digit < 10
digit_bound c digit e is = omega (arith, digit_value_is c e)

pub power_more : (k : ℕ) → 10 ^ (k + 1) ≡ 10 * 10 ^ k
power_more k = grind (arith, common_steps)

-- a number of less than 38 digits is far below the greatest of 128 bits
pub small_power : (k : ℕ) → k ≤ 37 → 10 ^ k ≤ 10 ^ 37
small_power k few = pow-le-pow_right {n = 10} (omega arith) few

-- where the digits end
pub run_is : (bytes : List ℕ) (count value : ℕ) → count ≤ length bytes → ((k : ℕ) → k < count → is_digit (get_or bytes k 0) ≡ true)
    → (count < length bytes → is_digit (get_or bytes count 0) ≡ false) → value ≡ digits_value 10 (take count bytes)
    → (count ≡ run bytes) × (value ≡ run_value bytes)
run_is bytes count value within digits stops number =
    let e = prefix_len_is is_digit bytes count 0 within digits stops in
    (sym e, number ∙ ap (λ n. digits_value 10 (take n bytes)) (sym e))

pub run_longer : (bytes : List ℕ) (count : ℕ) → count ≤ length bytes → ((k : ℕ) → k < count → is_digit (get_or bytes k 0) ≡ true) → count ≤ run bytes
run_longer bytes zero within digits = omega arith
run_longer [] (suc count) within digits = absurd (omega arith)
run_longer (b ∷ bytes) (suc count) within digits = rw (digits 0 (omega arith)) (omega (arith, run_longer bytes count (omega arith) (λ k lt. digits (suc k) (omega arith))))

pub power_of_18 : (k : ℕ) → k ≤ 18 → 10 ^ k ≤ 1000000000000000000
power_of_18 k few = let power : 10 ^ k ≤ 10 ^ 18 = pow-le-pow_right {n = 10} (omega arith) few in omega (arith, power)

-- ---- A form reads what it writes, and nothing else: the law of a long form from those of the short ones that it is made of.
-- what is read is valid, and its text is what stood there; and the text of what is valid is read, whatever follows as it may
pub record IsForm {A : Type 0} (form : Form A) (Valid : A → Type 0) (text : A → List ℕ) (Follows : List ℕ → Type 0) : Type 0 where
  pub takes : (bytes : List ℕ) (x : A × List ℕ) → form bytes ≡ Some x → Valid x.0 × (bytes ≡ text x.0 ++ x.1)
  pub again : (a : A) (rest : List ℕ) → Valid a → Follows rest → form (text a ++ rest) ≡ Some (a, rest)

-- anything may follow
abbrev pub Anything : List ℕ → Type 0
Anything rest = Unit {0}

pub bind_some : {A B : Type 0} (o : Option A) (f : A → Option B) (y : B) → (o >>= f) ≡ Some y → (x : A) × (o ≡ Some x) × (f x ≡ Some y)
bind_some (Some x) f y e = (x, refl, e)
bind_some None f y e = absurd cc

-- ---- fixed texts
pub text_at-takes : (text bytes rest : List ℕ) → text_at text bytes ≡ Some rest → bytes ≡ text ++ rest
unfolding text_at
text_at-takes text bytes rest e =
    let found = cond_some (starts_with nat_eq bytes text) (drop (length text) bytes) rest e in
    (starts_is Decides-eqb bytes text (starts_with nat_eq bytes text) refl).0 found.0 ∙ ap (λ r. text ++ r) found.1

pub text_at-again : (text rest : List ℕ) → text_at text (text ++ rest) ≡ Some rest
unfolding text_at
text_at-again text rest =
    let found = (starts_is Decides-eqb (text ++ rest) text (starts_with nat_eq (text ++ rest) text) refl).1 rest refl in
    rw found (ap Some (drop_at text rest (length text) refl))

pub fixed-form : {A : Type 0} (text : List ℕ) (value : A) → IsForm (fixed text value) (λ a. a ≡ value) (λ _. text) Anything
fixed-form {A} text value = grind (arith, bind_some, same_Some, text_at-takes, text_at-again)

pub after-form : {A : Type 0} {form : Form A} {V : A → Type 0} {t : A → List ℕ} {F : List ℕ → Type 0} → IsForm form V t F → (text : List ℕ)
    → IsForm (after text form) V (λ a. text ++ t a) F
after-form {A} {form} {V} {t} {F} h text = grind (arith, bind_some, text_at-takes, append_assoc, after_text, text_at-again, h)

pub ended-form : {A : Type 0} {form : Form A} {V : A → Type 0} {t : A → List ℕ} {F : List ℕ → Type 0} → IsForm form V t F → (text : List ℕ)
    → ((rest : List ℕ) → F (text ++ rest)) → IsForm (ended form text) V (λ a. t a ++ text) Anything
ended-form {A} {form} {V} {t} {F} h text follows = grind (arith, bind_some, text_at-takes, append_assoc, same_Some, text_at-again, h, follows)

pub both-form : {A B : Type 0} {first : Form A} {second : Form B} {V : A → Type 0} {W : B → Type 0} {t : A → List ℕ} {s : B → List ℕ}
    {F G : List ℕ → Type 0} → IsForm first V t F → IsForm second W s G → ((b : B) (rest : List ℕ) → W b → G rest → F (s b ++ rest))
    → IsForm (both first second) (λ p. V p.0 × W p.1) (λ p. t p.0 ++ s p.1) G
both-form {A} {B} {first} {second} {V} {W} {t} {s} {F} {G} h k follows = grind (arith, bind_some, append_assoc, same_Some, h, k, follows)

-- the same condition or text in other words
pub form-as : {A : Type 0} {form : Form A} {V : A → Type 0} {t : A → List ℕ} {F : List ℕ → Type 0} → IsForm form V t F
    → (W : A → Type 0) (s : A → List ℕ) → ((a : A) → V a → W a) → ((a : A) → W a → V a) → ((a : A) → V a → t a ≡ s a) → IsForm form W s F
form-as {A} {form} {V} {t} {F} h W s there back same = grind (arith, h, there, back, same)

-- the same form read as another type
pub image-form : {A B : Type 0} {form : Form A} {V : A → Type 0} {t : A → List ℕ} {F : List ℕ → Type 0} → IsForm form V t F
    → (f : A → B) (s : B → List ℕ) → ((a : A) → V a → t a ≡ s (f a)) → IsForm (mapped f form) (λ b. (a : A) × V a × (f a ≡ b)) s F
image-form {A} {B} {form} {V} {t} {F} h f s same = grind (arith, h, same)

-- where the other type can be read back
pub record IsRetold {A B : Type 0} (f : A → B) (g : B → A) (V : A → Type 0) (W : B → Type 0) (t : A → List ℕ) (s : B → List ℕ) : Type 0 where
  pub there : (a : A) → V a → W (f a) × (t a ≡ s (f a))
  pub back : (b : B) → W b → V (g b) × (f (g b) ≡ b)

pub mapped-form : {A B : Type 0} {form : Form A} {V : A → Type 0} {t : A → List ℕ} {F : List ℕ → Type 0} → IsForm form V t F
    → (f : A → B) (g : B → A) (W : B → Type 0) (s : B → List ℕ) → IsRetold f g V W t s → IsForm (mapped f form) W s F
mapped-form h f g W s retold = grind (arith, h, retold)

-- a test of what is read
pub passing-form : {A : Type 0} {form : Form A} {V : A → Type 0} {t : A → List ℕ} {F : List ℕ → Type 0} → IsForm form V t F
    → (test : A → Bool) (W : A → Type 0) → ((a : A) → V a → test a ≡ true → W a) → ((a : A) → W a → V a × (test a ≡ true)) → IsForm (passing test form) W t F
passing-form {A} {form} {V} {t} {F} h test W there back = grind (arith, h, there, back)

-- the form so many times, where what follows it may be itself
pub times-form : {A : Type 0} {form : Form A} {V : A → Type 0} {t : A → List ℕ} {F : List ℕ → Type 0} → IsForm form V t F
    → ((a : A) (rest : List ℕ) → F (t a ++ rest)) → (n : ℕ) → IsForm (times n form) (λ xs. (length xs ≡ n) × All V xs) (flat_map t) F
unfolding times
times-form {A} {form} {V} {t} {F} h follows n = record { takes = taken n; again = read n }
  where
    taken : (n : ℕ) (bytes : List ℕ) (x : List A × List ℕ) → times n form bytes ≡ Some x → ((length x.0 ≡ n) × All V x.0) × (bytes ≡ flat_map t x.0 ++ x.1)
    taken zero bytes x e = subst (λ (x : List A × List ℕ). ((length x.0 ≡ 0) × All V x.0) × (bytes ≡ flat_map t x.0 ++ x.1)) (same_Some ([], bytes) x e) ((refl, All-nil V), refl)
    taken (suc n) bytes x e =
        let b = bind_some (form bytes) (λ x. times n form x.1 >>= λ xs. Some (x.0 ∷ xs.0, xs.1)) x e in
        let c = bind_some (times n form b.0.1) (λ xs. Some (b.0.0 ∷ xs.0, xs.1)) x b.2 in
        let one = h.takes bytes b.0 b.1 in
        let more = taken n b.0.1 c.0 c.1 in
        let parts = one.1 ∙ ap (λ rest. t b.0.0 ++ rest) more.1 ∙ sym (append_assoc (t b.0.0) (flat_map t c.0.0) c.0.1) in
        subst (λ (x : List A × List ℕ). ((length x.0 ≡ suc n) × All V x.0) × (bytes ≡ flat_map t x.0 ++ x.1)) (same_Some (b.0.0 ∷ c.0.0, c.0.1) x c.2)
        ((ap suc more.0.0, All-cons V b.0.0 c.0.0 one.0 more.0.1), parts)

    goes_on : (xs : List A) (rest : List ℕ) → F rest → F (flat_map t xs ++ rest)
    goes_on [] rest f = f
    goes_on (x ∷ xs) rest f = subst F (sym (append_assoc (t x) (flat_map t xs) rest)) (follows x (flat_map t xs ++ rest))

    read : (n : ℕ) (xs : List A) (rest : List ℕ) → (length xs ≡ n) × All V xs → F rest → times n form (flat_map t xs ++ rest) ≡ Some (xs, rest)
    read zero [] rest v f = refl
    read (suc n) (x ∷ xs) rest v f =
        ap (times (suc n) form) (append_assoc (t x) (flat_map t xs) rest)
        ∙ rw (h.again x (flat_map t xs ++ rest) (All-head V x xs v.1) (goes_on xs rest f), read n xs rest (omega arith, All-tail V x xs v.1) f) refl
    read _ _ rest v f = absurd (omega arith)

-- nothing stands for the value
pub empty-form : {A : Type 0} (value : A) → IsForm (λ rest. Some (value, rest)) (λ a. a ≡ value) (λ _. []) Anything
empty-form {A} value = grind arith

-- made of a value, or another one
abbrev pub IsChosen : {A B : Type 0} → (B → Type 0) → (B → A) → (A → Type 0) → A → Type 0
IsChosen {A} {B} V f W a = ((b : B) × V b × (f b ≡ a)) ⊎ W a

-- a form behind a text, read as another type, or else another form, whose texts don't begin with this text
pub choice-form : {A B : Type 0} {form : Form B} {other : Form A} {V : B → Type 0} {W : A → Type 0} {t : B → List ℕ} {u : A → List ℕ} → IsForm form V t Anything → (f : B → A) → IsForm other W u Anything
    → (text : List ℕ) → ((b : B) → V b → text ++ t b ≡ u (f b)) → ((a : A) (rest : List ℕ) → W a → text_at text (u a ++ rest) ≡ None)
    → IsForm (λ bytes. when (text_at text bytes) (mapped f form) (other bytes)) (IsChosen V f W) u Anything
choice-form {A} {B} {form} {other} {V} {W} {t} {u} h f k text same apart =
    grind (arith, bind_some, same_Some, text_at-takes, append_assoc, text_at-again, h, k, same, apart)

-- ---- The forms of numbers read their texts.
-- what stands there doesn't begin with a digit
abbrev pub NoDigit : List ℕ → Type 0
NoDigit rest = run rest ≡ 0

-- ---- runs of digits
run-digits : (ds rest : List ℕ) → AllDigits 10 ds → NoDigit rest → run (ds ++ rest) ≡ length ds
run-digits [] rest all none = none
run-digits (d ∷ ds) rest all none =
    let yes : is_digit d ≡ true = grind (arith, all.0) in
    rw yes (omega (arith, run-digits ds rest all.1 none))

digits_of_run : (bytes : List ℕ) → AllDigits 10 (take (run bytes) bytes)
digits_of_run [] = tt
digits_of_run (b ∷ bytes) = by_test (is_digit b) (digits_of_run bytes) refl
  where
    by_test : (t : Bool) → AllDigits 10 (take (run bytes) bytes) → is_digit b ≡ t → AllDigits 10 (take (cond t (1 + run bytes) 0) (b ∷ bytes))
    by_test true more e = let one : 1 + run bytes ≡ suc (run bytes) = omega arith in rw one (ltb-true (digit_value b) 10 e, more)
    by_test false more e = tt

run-le : (bytes : List ℕ) → run bytes ≤ length bytes
run-le bytes = prefix_len-le-length is_digit bytes

begins_with-get_or : (c : ℕ) (bytes : List ℕ) → 0 < length bytes → begins_with c bytes ≡ nat_eq (get_or bytes 0 0) c
begins_with-get_or c [] some = absurd (omega arith)
begins_with-get_or c (b ∷ bytes) some = refl

-- a zero before another digit fails the test
lead_from_test : (bytes : List ℕ) → 0 < run bytes → (not (begins_with 48 bytes) || nat_eq (run bytes) 1) ≡ true
    → get_or (take (run bytes) bytes) 0 0 ≡ 48 → length (take (run bytes) bytes) ≡ 1
lead_from_test bytes some test zero_first =
    grind (arith, get_or-take, begins_with-get_or, run-le, nat_eq, length-take-le, eqb-true, some, test, zero_first)

-- and the text of a number passes it
lead_of_text : (n : ℕ) (rest : List ℕ) → (not (begins_with 48 (whole_text n ++ rest)) || nat_eq (length (whole_text n)) 1) ≡ true
lead_of_text zero rest = rw (whole_text_digit 0 (omega arith)) refl
lead_of_text (suc n) rest =
    grind (arith, length-append, whole_text_nonempty, get_or_append_left, first_whole_text, nat_eq, ne_eqb, begins_with-get_or)

pub whole-form : (digits : ℕ) → 0 < digits → IsForm (whole_at digits) (λ n. n < 10 ^ digits) whole_text NoDigit
unfolding whole_at
whole-form digits some = record {
  takes = λ bytes x e.
      let passed = cond_some (is_whole digits bytes) (run_value bytes, drop (run bytes) bytes) x e in
      let tests = and_parts (nat_lt 0 (run bytes) && nat_le (run bytes) digits) (not (begins_with 48 bytes) || nat_eq (run bytes) 1) passed.0 in
      let sizes = and_parts (nat_lt 0 (run bytes)) (nat_le (run bytes) digits) tests.0 in
      let positive : 0 < run bytes = ltb-true 0 (run bytes) sizes.0 in
      let few : run bytes ≤ digits = leb-true (run bytes) digits sizes.1 in
      let ds = take (run bytes) bytes in
      let long : length ds ≡ run bytes = length-take-le (run bytes) bytes (run-le bytes) in
      let text = whole_text-digits_value ds (digits_of_run bytes) (omega arith) (lead_from_test bytes positive tests.1) in
      let power : 10 ^ length ds ≤ 10 ^ digits = pow-le-pow_right {n = 10} (omega arith) (omega arith) in
      subst (λ (x : ℕ × List ℕ). (x.0 < 10 ^ digits) × (bytes ≡ whole_text x.0 ++ x.1)) passed.1 (
        omega (arith, digits_value-lt 10 ds (digits_of_run bytes), power),
        sym (take-append-drop (run bytes) bytes) ∙ ap (λ text. text ++ drop (run bytes) bytes) (sym text),
      );
  again = λ n rest small none.
      let ds = whole_text n in
      let long : run (ds ++ rest) ≡ length ds = run-digits ds rest (whole_text_digits n) none in
      let positive = whole_text_nonempty n in
      let few = length-whole_text-le digits n some small in
      let test : is_whole digits (ds ++ rest) ≡ true = rw (long, lt-ltb 0 (length ds) positive, le-leb (length ds) digits few) (lead_of_text n rest) in
      let value : run_value (ds ++ rest) ≡ n = rw (long, take_at ds rest (length ds) refl) (digits_value-whole_text n) in
      let after : drop (run (ds ++ rest)) (ds ++ rest) ≡ rest = rw (long, drop_at ds rest (length ds) refl) refl in
      rw test (λ i. Some (value i, after i));
}

-- ---- decimals
decimals_are_digits : (n : ℕ) → AllDigits 10 (six_digits n)
unfolding six_digits
decimals_are_digits n = (digit 5, (digit 4, (digit 3, (digit 2, (digit 1, (digit 0, tt))))))
  where
    digit : (power : ℕ) → digit_value (digit_byte (n / 10 ^ power % 10)) < 10
    digit power = omega (arith, digit_value-digit_byte (n / 10 ^ power % 10) (omega arith))

decimals_value : (n : ℕ) → n < 1000000 → digits_value 10 (six_digits n) ≡ n
decimals_value n small = grind (arith, digits_value-lt, decimals_are_digits, length-six_digits, six_digits_injective, six_digits-digits_value, small)

pub decimals-form : IsForm decimals_at (λ n. n < 1000000) six_digits NoDigit
unfolding decimals_at
decimals-form = record {
  takes = λ bytes x e.
      let passed = cond_some (nat_eq (run bytes) 6) (run_value bytes, drop (run bytes) bytes) x e in
      let six : run bytes ≡ 6 = eqb-true (run bytes) 6 passed.0 in
      let ds = take (run bytes) bytes in
      let long : length ds ≡ 6 = length-take-le (run bytes) bytes (run-le bytes) ∙ six in
      let power : 10 ^ length ds ≡ 1000000 = ap (λ k. 10 ^ k) long in
      let text = six_digits-digits_value ds long (digits_of_run bytes) in
      subst (λ (x : ℕ × List ℕ). (x.0 < 1000000) × (bytes ≡ six_digits x.0 ++ x.1)) passed.1 (
        omega (arith, digits_value-lt 10 ds (digits_of_run bytes), power),
        sym (take-append-drop (run bytes) bytes) ∙ ap (λ text. text ++ drop (run bytes) bytes) (sym text),
      );
  again = λ n rest small none.
      let ds = six_digits n in
      let long : run (ds ++ rest) ≡ 6 = run-digits ds rest (decimals_are_digits n) none ∙ length-six_digits n in
      let value : run_value (ds ++ rest) ≡ n = rw (long, take_at ds rest 6 (length-six_digits n)) (decimals_value n small) in
      let after : drop (run (ds ++ rest)) (ds ++ rest) ≡ rest = rw (long, drop_at ds rest 6 (length-six_digits n)) refl in
      rw (eq-eqb (run (ds ++ rest)) 6 long) (λ i. Some (value i, after i));
}

-- ---- signs
-- a form with a minus before it or not, where its own texts begin with none
pub with_sign-form : {form : Form ℕ} {V : ℕ → Type 0} {t : ℕ → List ℕ} {F : List ℕ → Type 0} → IsForm form V t F
    → ((n : ℕ) (rest : List ℕ) → begins_with 45 (t n ++ rest) ≡ false)
    → IsForm (with_sign form) (λ z. V (unsigned_abs z)) (λ z. minus_text z ++ t (unsigned_abs z)) F
with_sign-form {form} {V} {t} {F} h no_minus = grind (arith, h, no_minus)

whole_begins : (n : ℕ) (rest : List ℕ) → begins_with 45 (whole_text n ++ rest) ≡ false
whole_begins n rest = grind (arith, length-append, whole_text_nonempty, get_or_append_left, whole_text_bytes, begins_with-get_or, ne_eqb)

pub signed-form : (digits : ℕ) → 0 < digits → IsForm (signed_at digits) (HasDigits digits) signed_text NoDigit
unfolding signed_at signed_text
signed-form digits some = with_sign-form (whole-form digits some) whole_begins

-- ---- money
pub millionths-form : IsForm millionths_at (λ n. n < 10 ^ 38) millionths_text NoDigit
unfolding millionths_at millionths_text
millionths-form =
    mapped-form (both-form (ended-form (whole-form 32 (omega arith)) (46 ∷ []) (λ rest. refl)) decimals-form (λ n rest v none. tt))
    millionths (λ n. (n / 1000000, n % 1000000)) (λ n. n < 10 ^ 38) millionths_text (record {
      there = λ p v.
          let whole : millionths p / 1000000 ≡ p.0 = omega (arith, v.1) in
          let rest : millionths p % 1000000 ≡ p.1 = omega (arith, v.1) in
          (omega (arith, v.0, v.1), append_assoc (whole_text p.0) (46 ∷ []) (six_digits p.1) ∙ (λ i. whole_text (sym whole i) ++ 46 ∷ six_digits (sym rest i)));
      back = λ n v. ((omega (arith, v), omega arith), omega arith);
    })

millionths_begin : (n : ℕ) (rest : List ℕ) → begins_with 45 (millionths_text n ++ rest) ≡ false
unfolding millionths_text
millionths_begin n rest =
    ap (begins_with 45) (append_assoc (whole_text (n / 1000000)) (46 ∷ six_digits (n % 1000000)) rest) ∙ whole_begins (n / 1000000) (46 ∷ (six_digits (n % 1000000) ++ rest))

pub money-form : IsForm money_at IsMoney money_text NoDigit
unfolding money_at money_text
money-form = with_sign-form millionths-form millionths_begin

-- ---- numbers from 1 on
pub ordinal-form : IsForm ordinal_at (λ n. suc n < 10 ^ 18) (λ n. whole_text (suc n)) NoDigit
unfolding ordinal_at
ordinal-form =
    mapped-form (passing-form (whole-form 18 (omega arith)) (λ n. nat_lt 0 n) (λ n. (0 < n) × (n < 10 ^ 18)) (λ n v e. (ltb-true 0 n e, v)) (λ n w. (w.1, lt-ltb 0 n w.0)))
    (λ n. n - 1) suc (λ n. suc n < 10 ^ 18) (λ n. whole_text (suc n)) (record {
      there = λ n v. let one : n ≡ suc (n - 1) = omega (arith, v.0) in (omega (arith, v.0, v.1), ap whole_text one);
      back = λ n w. ((omega arith, w), omega arith);
    })

-- ---- The forms of single lines read the lines of the grammar.
-- ---- lines of one number
-- a number up to a space or the end of its line
pub last_whole : IsForm (ended (whole_at 18) (codes "\n")) (λ n. n < 10 ^ 18) (λ n. whole_text n ++ codes "\n") Anything
last_whole = ended-form (whole-form 18 (omega arith)) (codes "\n") (λ rest. refl)

pub spaced_whole : IsForm (ended (whole_at 18) (codes " ")) (λ n. n < 10 ^ 18) (λ n. whole_text n ++ codes " ") Anything
spaced_whole = ended-form (whole-form 18 (omega arith)) (codes " ") (λ rest. refl)

pub scale-form : IsForm scale_at (λ k. k < 10 ^ 18) (λ k. scale_line (pos k)) Anything
unfolding scale_at line signed_text
scale-form = after-form last_whole (codes "table ")

pub ramp_count-form : IsForm ramp_count_at (λ count. count < 10 ^ 18) ramp_count_line Anything
unfolding ramp_count_at line
ramp_count-form = after-form last_whole (codes "ramps ")

last_money : IsForm (ended money_at (codes "\n")) IsMoney (λ z. money_text z ++ codes "\n") Anything
last_money = ended-form money-form (codes "\n") (λ rest. refl)

-- ---- the heading
-- the second version, or the third
abbrev IsLater : Version → Type 0
IsLater version = IsChosen (λ (b : Unit {0}). b ≡ tt) (λ _. Second) (λ (version : Version). version ≡ Third) version

pub version-form : IsForm version_at (λ _. Unit {0}) version_line Anything
unfolding version_at line text_at
version-form =
    form-as (choice-form (empty-form tt) (λ _. First) later (codes "uc-certificate 1\n") (λ _ v. first_text) apart) (λ _. Unit {0}) version_line (λ version v. tt) back (λ version v. refl)
  where
    first_text : codes "uc-certificate 1\n" ++ [] ≡ version_line First
    first_text = rw (whole_text_digit 1 (omega arith)) refl

    second_text : codes "uc-certificate 2\n" ++ [] ≡ version_line Second
    second_text = rw (whole_text_digit 2 (omega arith)) refl

    third : IsForm (fixed (codes "uc-certificate 3\n") Third) (λ version. version ≡ Third) version_line Anything
    third = form-as (fixed-form (codes "uc-certificate 3\n") Third) (λ version. version ≡ Third) version_line (λ version v. v) (λ version v. v)
        (λ version v. rw v (rw (whole_text_digit 3 (omega arith)) refl))

    not_second : (version : Version) (rest : List ℕ) → version ≡ Third → text_at (codes "uc-certificate 2\n") (version_line version ++ rest) ≡ None
    not_second version rest v = rw v (rw (whole_text_digit 3 (omega arith)) refl)

    later : IsForm (λ bytes. when (text_at (codes "uc-certificate 2\n") bytes) (λ rest. Some (Second, rest)) (fixed (codes "uc-certificate 3\n") Third bytes)) IsLater version_line Anything
    later = choice-form (empty-form tt) (λ _. Second) third (codes "uc-certificate 2\n") (λ _ v. second_text) not_second

    apart : (version : Version) (rest : List ℕ) → IsLater version → text_at (codes "uc-certificate 1\n") (version_line version ++ rest) ≡ None
    apart First rest (inl v) = absurd (let e = v.2 in cc)
    apart First rest (inr v) = absurd cc
    apart Second rest v = rw (whole_text_digit 2 (omega arith)) refl
    apart Third rest v = rw (whole_text_digit 3 (omega arith)) refl

    back : (version : Version) → Unit {0} → IsChosen (λ (b : Unit {0}). b ≡ tt) (λ _. First) IsLater version
    back First v = inl (tt, refl, refl)
    back Second v = inr (inl (tt, refl, refl))
    back Third v = inr (inr refl)

pub end-form : IsForm end_at (λ _. Unit {0}) (λ _. end_line) Anything
unfolding end_at line
end-form = form-as (fixed-form _ tt) (λ _. Unit {0}) (λ _. end_line) (λ a v. tt) (λ a v. refl) (λ a v. refl)

sizes_decide : (size : Sizes) → Decides (are_sizes size) (AreSizes size)
sizes_decide size = grind arith

pub size-form : (version : Version) → IsForm (size_at version) (IsSizeIn version) (λ size. size_line size.periods size.thermal size.renewable size.tables) Anything
unfolding size_at line
size-form version =
    passing-form (mapped-form (after-form (both-form spaced_whole (both-form spaced_whole (both-form spaced_whole last_whole (λ b rest v f. tt)) (λ b rest v f. tt)) (λ b rest v f. tt)) (codes "size "))
    (sizes_of version) (λ size. (size.periods, (size.thermal, (size.renewable, size.tables))))
    (λ size. (size.version ≡ version) × (size.periods < 10 ^ 18) × (size.thermal < 10 ^ 18) × (size.renewable < 10 ^ 18) × (size.tables < 10 ^ 18))
    (λ size. size_line size.periods size.thermal size.renewable size.tables) (record {
      there = λ p v. ((refl, v.0, v.1.0, v.1.1.0, v.1.1.1), simp append_assoc);
      back = λ size w. ((w.1, (w.2, (w.3, w.4))), λ i. record { version = sym w.0 i; periods = size.periods; thermal = size.thermal; renewable = size.renewable; tables = size.tables });
    }))
    are_sizes (IsSizeIn version) (λ size v e. record { sizes = (sizes_decide size).0 e; told = v.0 })
    (λ size w. (
      (w.told, omega (arith, w.sizes.periods), omega (arith, w.sizes.thermal), omega (arith, w.sizes.renewable), omega (arith, w.sizes.tables)),
      (sizes_decide size).1 w.sizes,
    ))

-- money that there is
abbrev IsMoneyOf : Option ℤ → Type 0
IsMoneyOf o = (z : ℤ) × IsMoney z × (Some z ≡ o)

if_some : (o : Option ℤ) → IsMoneyOf o ⊎ (o ≡ None) → IfSome o IsMoney
if_some o (inl v) = subst (λ (o : Option ℤ). IfSome o IsMoney) v.2 v.1
if_some o (inr none) = rw none tt

money_or_none : (o : Option ℤ) → IfSome o IsMoney → IsMoneyOf o ⊎ (o ≡ None)
money_or_none None v = inr refl
money_or_none (Some z) v = inl (z, v, refl)

pub claim-form : IsForm claim_at (λ bound. IfSome bound IsMoney) claim_line Anything
unfolding claim_at line text_at
claim-form =
    form-as (choice-form last_money Some infeasible (codes "claim bound ") (λ z v. refl) (λ o rest w. rw w refl)) (λ bound. IfSome bound IsMoney) claim_line if_some money_or_none (λ o v. refl)
  where
    infeasible : IsForm (fixed (codes "claim infeasible\n") None) (λ o. o ≡ None) claim_line Anything
    infeasible = form-as (fixed-form (codes "claim infeasible\n") None) (λ o. o ≡ None) claim_line (λ o v. v) (λ o w. w) (λ o v. rw v refl)

-- ---- cells
pub spaced_signed : (digits : ℕ) → 0 < digits → (end : ℕ) → is_digit end ≡ false → IsForm (ended (signed_at digits) (end ∷ [])) (HasDigits digits) (λ z. signed_text z ++ end ∷ []) Anything
spaced_signed digits some end none = ended-form (signed-form digits some) (end ∷ []) (λ rest. rw none refl)

abbrev on_text : Cell → List ℕ
on_text cell = (signed_text cell.p ++ codes ":") ++ ((signed_text cell.r ++ codes ":") ++ whole_text cell.category)

pub on_cell-form : IsForm on_cell_at (λ cell. (cell.on ≡ true) × IsOnCell cell) on_text NoDigit
unfolding on_cell_at
on_cell-form =
    mapped-form (both-form (spaced_signed 15 (omega arith) 58 refl)
    (both-form (spaced_signed 15 (omega arith) 58 refl)
    (passing-form (whole-form 18 (omega arith)) (λ n. nat_le n 255) (λ n. n ≤ 255) (λ n v e. leb-true n 255 e) (λ n w. (omega (arith, w), le-leb n 255 w)))
    (λ b rest v f. tt)) (λ b rest v f. tt))
    on_cell (λ cell. (cell.p, (cell.r, cell.category))) (λ cell. (cell.on ≡ true) × IsOnCell cell) on_text (record {
      there = λ p v. ((refl, record { output = v.0; reserve = v.1.0; category = v.1.1 }), refl);
      back = λ cell w. ((w.1.output, (w.1.reserve, w.1.category)), λ i. record { on = sym w.0 i; p = cell.p; r = cell.r; category = cell.category });
    })

-- a minus before no digit begins no cell that is on
no_on_cell : (rest : List ℕ) → NoDigit rest → on_cell_at (45 ∷ rest) ≡ None
unfolding on_cell_at signed_at whole_at
no_on_cell rest none = rw none refl

pub cell-form : IsForm cell_at IsCellText cell_text NoDigit
unfolding cell_at
cell-form = record { takes = λ bytes x e. taken bytes x (on_cell_at bytes) refl e; again = read }
  where
    on_is : (cell : Cell) → cell.on ≡ true → on_text cell ≡ cell_text cell
    on_is cell on = rw on (simp append_assoc)

    taken : (bytes : List ℕ) (x : Cell × List ℕ) (o : Option (Cell × List ℕ)) → on_cell_at bytes ≡ o → or_else o (fixed (codes "-") off_cell bytes) ≡ Some x
        → IsCellText x.0 × (bytes ≡ cell_text x.0 ++ x.1)
    taken bytes x None e f =
        let off = (fixed-form (codes "-") off_cell).takes bytes x f in
        subst (λ (cell : Cell). IsCellText cell × (bytes ≡ cell_text cell ++ x.1)) (sym off.0)
        (record { on = λ e. absurd (false≢true e); off = λ e. record { output = refl; reserve = refl; category = refl } }, off.1)
    taken bytes x (Some y) e f =
        let on = on_cell-form.takes bytes x (e ∙ f) in
        (record { on = λ e. on.0.1; off = λ e. absurd (false≢true (sym e ∙ on.0.0)) }, on.1 ∙ ap (λ text. text ++ x.1) (on_is x.0 on.0.0))

    off_is : (cell : Cell) → cell.on ≡ false → IsOffCell cell → off_cell ≡ cell
    off_is cell off blank = λ i. record { on = sym off i; p = sym blank.output i; r = sym blank.reserve i; category = sym blank.category i }

    read_by : (cell : Cell) (rest : List ℕ) (on : Bool) → cell.on ≡ on → IsCellText cell → NoDigit rest
        → or_else (on_cell_at (cell_text cell ++ rest)) (fixed (codes "-") off_cell (cell_text cell ++ rest)) ≡ Some (cell, rest)
    read_by cell rest true e v f =
        ap (λ text. or_else (on_cell_at (text ++ rest)) (fixed (codes "-") off_cell (text ++ rest))) (sym (on_is cell e))
        ∙ rw (on_cell-form.again cell rest (e, v.on e) f) refl
    read_by cell rest false e v f =
        let same = off_is cell e (v.off e) in
        subst (λ (cell : Cell). or_else (on_cell_at (cell_text cell ++ rest)) (fixed (codes "-") off_cell (cell_text cell ++ rest)) ≡ Some (cell, rest)) same
        (rw (no_on_cell rest f) ((fixed-form (codes "-") off_cell).again off_cell rest refl tt))

    read : (cell : Cell) (rest : List ℕ) → IsCellText cell → NoDigit rest
        → or_else (on_cell_at (cell_text cell ++ rest)) (fixed (codes "-") off_cell (cell_text cell ++ rest)) ≡ Some (cell, rest)
    read cell rest v f = read_by cell rest cell.on refl v f

-- ---- lines of words
pub row-form : {A : Type 0} {word : Form A} {V : A → Type 0} {t : A → List ℕ} → IsForm word V t NoDigit → (first : List ℕ) (n : ℕ)
    → IsForm (row_at first n word) (λ xs. (length xs ≡ n) × All V xs) (list_line first t) Anything
unfolding list_line
row-form h first n = after-form (ended-form (times-form (after-form h (codes " ")) (λ a rest. refl) n) (codes "\n") (λ rest. refl)) first

pub thermal-form : (periods : ℕ) → IsForm (row_at (codes "t") periods cell_at) (IsThermalRow periods) thermal_line Anything
thermal-form periods = form-as (row-form cell-form (codes "t") periods) (IsThermalRow periods) thermal_line (λ row v. record { cells = v.0; written = v.1 }) (λ row w. (w.cells, w.written)) (λ row v. refl)

pub powers-form : (word : List ℕ) (periods : ℕ) → IsForm (row_at word periods (signed_at 15)) (IsPowerRow periods) (list_line word signed_text) Anything
powers-form word periods =
    form-as (row-form (signed-form 15 (omega arith)) word periods) (IsPowerRow periods) (list_line word signed_text) (λ row v. record { powers = v.0; written = v.1 }) (λ row w. (w.powers, w.written)) (λ row v. refl)

pub prices-form : (word : List ℕ) (periods : ℕ) → IsForm (row_at word periods (signed_at 18)) (λ prices. (length prices ≡ periods) × All (HasDigits 18) prices) (prices_line word) Anything
prices-form word periods = row-form (signed-form 18 (omega arith)) word periods
