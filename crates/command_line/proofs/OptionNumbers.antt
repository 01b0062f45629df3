-- The number that the parser gives is the one that the option's text writes.
use Rattle.std.proofs.Common.{◌≡◌, ◌∙◌, ◌^◌, ◌<◌, ◌≤◌, ℕ, Bool, true, false, refl, sym, ap, arith, cond, Option, Some, None}
use Rattle.std.specs.Option.{option_map_or}
use Rattle.std.specs.Str.Parse.{ParsesUnsigned, ExplainsUnsignedError, HasUnsignedDigitsIfOk, digits_value, without_leading_plus}
use Rattle.clap.specs.Words.{IsUnsignedIn, ReadsOne, Text}
use Rattle.clap.specs.ValueTests.{is_unsigned_in}
use Rattle.clap.specs.declared.builder.value_parser.ValueParser.TheVariants.{Unsigned}
use Rattle.clap.proofs.ValueTestLemmas.{accepts-Accepts, Accepts-accepts}
use Rattle.command_line.specs.Command.{whole_within}

-- the number that u32 reads of the text, or none
abbrev pub Reads : Text → Option ℕ → Type 0
Reads = ReadsOne (λ text r. ParsesUnsigned 32 10 text r × ExplainsUnsignedError 10 text r × HasUnsignedDigitsIfOk text r)

-- what the text writes
abbrev number_of : Text → ℕ
number_of text = digits_value 10 (without_leading_plus text)

inside : (least most : ℕ) (text : Text) → IsUnsignedIn least most text → whole_within least most text ≡ number_of text
inside least most text h =
    let test : is_unsigned_in least most text ≡ true = Accepts-accepts false (Unsigned least most) text h in
    ap (λ b. cond b (number_of text) least) test

outside : (least most : ℕ) (text : Text) → ¬ IsUnsignedIn least most text → whole_within least most text ≡ least
outside least most text none =
    go (is_unsigned_in least most text) (λ test. none (accepts-Accepts false (Unsigned least most) text test))
  where
    go : (b : Bool) → ¬ (b ≡ true) → cond b (number_of text) least ≡ least
    go true none = absurd (none refl)
    go false none = refl

-- the number that is kept of what was read
abbrev IsKept : ℕ → ℕ → Option ℕ → ℕ → Type 0
IsKept least most None n = n ≡ least
IsKept least most (Some read) n = (least ≤ read → read ≤ most → n ≡ read) × (¬ ((least ≤ read) × (read ≤ most)) → n ≡ least)

of_text : (least most : ℕ) (text : Text) (read : Option ℕ) → most < 2 ^ 32 → Reads text read
    → IsKept least most read (whole_within least most text)
of_text least most text None fits fails =
    outside least most text (λ h. fails.1.0 (h.0, omega (arith, h.3, fits)))
of_text least most text (Some n) fits reads = (
  (λ low high. inside least most text (reads.0.0.0, omega (arith, reads.0.0.1), omega (arith, reads.0.1, low), omega (arith, reads.0.1, high))
      ∙ sym reads.0.1),
  (λ outer. outside least most text (λ h. outer (omega (arith, reads.0.1, h.2), omega (arith, reads.0.1, h.3)))),
)

kept_of : (least most : ℕ) (text : Option Text) (read : Option ℕ) → most < 2 ^ 32 → (text ≡ None → read ≡ None)
    → ((t : Text) → text ≡ Some t → Reads t read) → IsKept least most read (option_map_or (whole_within least most) text least)
kept_of least most None read fits none reads = rw (none refl) refl
kept_of least most (Some t) read fits none reads = of_text least most t read fits (reads t refl)

kept_some : (least most n : ℕ) (read : Option ℕ) (kept : ℕ) → read ≡ Some n → IsKept least most read kept
    → (least ≤ n → n ≤ most → n ≡ kept) × (¬ ((least ≤ n) × (n ≤ most)) → least ≡ kept)
kept_some least most n None kept is h = absurd (cc)
kept_some least most n (Some m) kept is h =
    let same : m ≡ n = cc in (
      (λ low high. sym (h.0 (omega (arith, same, low)) (omega (arith, same, high)) ∙ same)),
      (λ outer. sym (h.1 (λ inner. outer (omega (arith, same, inner.0), omega (arith, same, inner.1))))),
    )

kept_none : (least most : ℕ) (read : Option ℕ) (kept : ℕ) → read ≡ None → IsKept least most read kept → least ≡ kept
kept_none least most None kept is h = sym h
kept_none least most (Some m) kept is h = absurd (cc)

-- where a number was read, and where none was, of an option's text
pub number_read : (least most n : ℕ) (seen text : Option Text) (read : Option ℕ) → seen ≡ text → most < 2 ^ 32 → (text ≡ None → read ≡ None)
    → ((t : Text) → text ≡ Some t → Reads t read) → read ≡ Some n
    → (least ≤ n → n ≤ most → n ≡ option_map_or (whole_within least most) seen least)
    × (¬ ((least ≤ n) × (n ≤ most)) → least ≡ option_map_or (whole_within least most) seen least)
number_read least most n seen text read same fits none reads is = rw same (kept_some least most n read _ is (kept_of least most text read fits none reads))

pub number_missing : (least most : ℕ) (seen text : Option Text) (read : Option ℕ) → seen ≡ text → most < 2 ^ 32 → (text ≡ None → read ≡ None)
    → ((t : Text) → text ≡ Some t → Reads t read) → read ≡ None → least ≡ option_map_or (whole_within least most) seen least
number_missing least most seen text read same fits none reads is = rw same (kept_none least most read _ is (kept_of least most text read fits none reads))
