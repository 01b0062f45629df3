-- A reader's way through a JSON text, byte by byte, with what it has read so far: the grammar of RFC 8259 as a machine
-- with a stack. `specs/Grammar.antt` has the grammar by itself, and the clauses of `read` say that both agree.
use Rattle.std.specs.Prelude.{ℕ, suc, ◌+◌, ◌*◌, Bool, true, false, ◌==◌, nat_lt, nat_le, List, [], ◌∷◌, ◌++◌, length, drop, Option, Some, None, encode_utf8, if◌then◌else◌, ◌≡◌, ◌≢◌, ◌<◌, ◌||◌, ◌⊎◌, ⊤, min, is_some, String, Result, Ok, Err}
use Rattle.std.specs.Char.Utf16.{is_low_surrogate, is_high_surrogate, surrogate_pair_char}
use Rattle.std.specs.Global.{Global}
use Rattle.std.specs.Str.{bytes_eq}
use Rattle.indexmap.specs.IndexMap.{IndexMap, get_by_text}
use Rattle.decimal_json.specs.Value.{Value, null, boolean, number, text, array, object, no_items, no_members, items_of, members_of, has_key, Member, Frame, in_array, in_object, Purpose, for_value, for_key, is_digit, digit_of, is_mark, decimal_from}
use Rattle.decimal_json.specs.Characters.{is_space, rue, alse, ull, depth_limit, short_escape, is_hex, unit_of, hex_of}
pub use Rattle.decimal_json.specs.declared.types.JsonFault.{JsonFault}
use Rattle.decimal_json.specs.declared.token.Past.{Past}
use Rattle.decimal_json.specs.declared.token.Past.TheVariants.{Comma, Bracket}
pub use Rattle.decimal_json.specs.declared.types.Json.{Json}
use Rattle.decimal_json.specs.View.{view}
pub use Rattle.decimal_json.specs.declared.types.JsonFault.TheVariants.{At, NoMemory}

-- the hexadecimal digits of an escape that have come
pub data Hex : Type 0 where
  no_digit : Hex
  one_digit : ℕ → Hex
  two_digits : ℕ → ℕ → Hex
  three_digits : ℕ → ℕ → ℕ → Hex

-- Inside a string: the text so far, then the place of a backslash, and the first unit of a pair.
pub data Quoted : Type 0 where
  plain : List ℕ → Quoted
  escaped : List ℕ → ℕ → Quoted
  unit : List ℕ → ℕ → Hex → Quoted
  high : List ℕ → ℕ → ℕ → Quoted
  high_escaped : List ℕ → ℕ → ℕ → Quoted
  high_unit : List ℕ → ℕ → ℕ → Hex → Quoted

-- Inside a number: whether it is negative, the digits before and after the point, whether the exponent is negative, and
-- its digits as one whole.
pub data Numeral : Type 0 where
  minus : Numeral
  zero_first : Bool → Numeral
  whole : Bool → List ℕ → Numeral
  point : Bool → List ℕ → Numeral
  fraction : Bool → List ℕ → List ℕ → Numeral
  mark : Bool → List ℕ → List ℕ → Numeral
  signed : Bool → List ℕ → List ℕ → Bool → Numeral
  exponent : Bool → List ℕ → List ℕ → Bool → ℕ → Numeral

-- What may come now. A literal has the letters that must come.
pub data Spot : Type 0 where
  wanted : Spot
  first_item : Spot
  first_key : Spot
  key_wanted : List Member → Spot
  colon_wanted : List Member → List ℕ → Spot
  ended : Value → Spot
  literal : Value → List ℕ → Spot
  numeral : Numeral → Spot
  quoted : Purpose → Quoted → Spot

-- One byte leads on, or is a fault with its place and kind.
pub data Step : Type 0 where
  next : List Frame → Spot → Step
  stop : ℕ → ℕ → Step

pub data Outcome : Type 0 where
  done : Value → Outcome
  fault : ℕ → ℕ → Outcome

-- a bracket opens one level more, if there may be one
unfoldable pub opened : ℕ → List Frame → Spot → Step
opened at outer spot = if nat_lt (length outer) depth_limit then next outer spot else stop at 3

-- a byte where a value has to begin
unfoldable pub begin_step : ℕ → List Frame → ℕ → Step
begin_step at outer c = if c == 34 then next outer (quoted for_value (plain []))
    else if c == 91 then opened at outer first_item
    else if c == 123 then opened at outer first_key
    else if c == 116 then next outer (literal (boolean true) rue)
    else if c == 102 then next outer (literal (boolean false) alse)
    else if c == 110 then next outer (literal null ull)
    else if c == 45 then next outer (numeral minus)
    else if c == 48 then next outer (numeral (zero_first false))
    else if is_digit c then next outer (numeral (whole false (digit_of c ∷ [])))
    else stop at 2

-- a byte after a value, other than white space
unfoldable pub close_step : ℕ → List Frame → Value → ℕ → Step
close_step at [] v c = stop at 2
close_step at (in_array vs ∷ outer) v c = if c == 44 then next (in_array (vs ++ v ∷ []) ∷ outer) wanted
    else if c == 93 then next outer (ended (array (items_of (vs ++ v ∷ []))))
    else stop at 2
close_step at (in_object ms k ∷ outer) v c = if c == 44 then next outer (key_wanted (ms ++ (k, v) ∷ []))
    else if c == 125 then next outer (ended (object (members_of (ms ++ (k, v) ∷ []))))
    else stop at 2

unfoldable pub ended_step : ℕ → List Frame → Value → ℕ → Step
ended_step at outer v c = if is_space c then next outer (ended v) else close_step at outer v c

-- a literal whose letters from here on must come
abbrev pub awaited : Value → List ℕ → Spot
awaited v [] = ended v
awaited v (l ∷ ls) = literal v (l ∷ ls)

unfoldable pub literal_step : ℕ → List Frame → Value → List ℕ → ℕ → Step
literal_step at outer v [] c = ended_step at outer v c
literal_step at outer v (l ∷ ls) c = if c == l then next outer (awaited v ls) else stop at 2

-- what stands where a number may end
abbrev pub so_far : Bool → List ℕ → List ℕ → Bool → ℕ → Value
so_far negative ds fs down written = number (decimal_from negative ds fs down written)

unfoldable pub numeral_step : ℕ → List Frame → Numeral → ℕ → Step
numeral_step at outer minus c = if c == 48 then next outer (numeral (zero_first true))
    else if is_digit c then next outer (numeral (whole true (digit_of c ∷ []))) else stop at 2
numeral_step at outer (zero_first n) c = if c == 46 then next outer (numeral (point n (0 ∷ [])))
    else if is_mark c then next outer (numeral (mark n (0 ∷ []) []))
    else ended_step at outer (so_far n (0 ∷ []) [] false 0) c
numeral_step at outer (whole n ds) c = if is_digit c then next outer (numeral (whole n (ds ++ digit_of c ∷ [])))
    else if c == 46 then next outer (numeral (point n ds))
    else if is_mark c then next outer (numeral (mark n ds []))
    else ended_step at outer (so_far n ds [] false 0) c
numeral_step at outer (point n ds) c = if is_digit c then next outer (numeral (fraction n ds (digit_of c ∷ []))) else stop at 2
numeral_step at outer (fraction n ds fs) c = if is_digit c then next outer (numeral (fraction n ds (fs ++ digit_of c ∷ [])))
    else if is_mark c then next outer (numeral (mark n ds fs))
    else ended_step at outer (so_far n ds fs false 0) c
numeral_step at outer (mark n ds fs) c = if c == 43 then next outer (numeral (signed n ds fs false))
    else if c == 45 then next outer (numeral (signed n ds fs true))
    else if is_digit c then next outer (numeral (exponent n ds fs false (digit_of c))) else stop at 2
numeral_step at outer (signed n ds fs down) c =
    if is_digit c then next outer (numeral (exponent n ds fs down (digit_of c))) else stop at 2
numeral_step at outer (exponent n ds fs down w) c =
    if is_digit c then next outer (numeral (exponent n ds fs down (w * 10 + digit_of c)))
    else ended_step at outer (so_far n ds fs down w) c

-- the quote at the end of a string; a key that came before is a fault at its first quote
unfoldable pub quote_step : List Frame → Purpose → List ℕ → Step
quote_step outer for_value t = next outer (ended (text t))
quote_step outer (for_key ms at) t = if has_key (members_of ms) t then stop at 4 else next outer (colon_wanted ms t)

-- one more hexadecimal digit: the digits, or the unit that four of them spell
unfoldable pub more_hex : Hex → ℕ → (Hex → Step) → (ℕ → Step) → Step
more_hex no_digit c more full = more (one_digit c)
more_hex (one_digit a) c more full = more (two_digits a c)
more_hex (two_digits a b) c more full = more (three_digits a b c)
more_hex (three_digits a b d) c more full = full (unit_of a b d c)

-- a unit that stands alone, the first of a pair, or the second without the first
unfoldable pub unit_step : List Frame → Purpose → List ℕ → ℕ → ℕ → Step
unit_step outer p t back u = if is_high_surrogate u then next outer (quoted p (high t back u))
    else if is_low_surrogate u then stop back 5
    else next outer (quoted p (plain (t ++ encode_utf8 u)))

-- the second unit of a pair
unfoldable pub pair_step : List Frame → Purpose → List ℕ → ℕ → ℕ → ℕ → Step
pair_step outer p t back u v =
    if is_low_surrogate v then next outer (quoted p (plain (t ++ encode_utf8 (surrogate_pair_char u v)))) else stop back 5

unfoldable pub escape_step : ℕ → List Frame → Purpose → List ℕ → ℕ → Option ℕ → ℕ → Step
escape_step at outer p t back None c = if c == 117 then next outer (quoted p (unit t back no_digit)) else stop at 2
escape_step at outer p t back (Some b) c = next outer (quoted p (plain (t ++ b ∷ [])))

unfoldable pub quoted_step : ℕ → List Frame → Purpose → Quoted → ℕ → Step
quoted_step at outer p (plain t) c = if c == 34 then quote_step outer p t
    else if c == 92 then next outer (quoted p (escaped t at))
    else if nat_le 32 c then next outer (quoted p (plain (t ++ c ∷ []))) else stop at 2
quoted_step at outer p (escaped t back) c = escape_step at outer p t back (short_escape c) c
quoted_step at outer p (unit t back h) c = if is_hex c
    then more_hex h c (λ more. next outer (quoted p (unit t back more))) (λ u. unit_step outer p t back u)
    else stop at 2
quoted_step at outer p (high t back u) c = if c == 92 then next outer (quoted p (high_escaped t back u)) else stop back 5
quoted_step at outer p (high_escaped t back u) c =
    if c == 117 then next outer (quoted p (high_unit t back u no_digit)) else stop back 5
quoted_step at outer p (high_unit t back u h) c = if is_hex c
    then more_hex h c (λ more. next outer (quoted p (high_unit t back u more))) (λ v. pair_step outer p t back u v)
    else stop back 5

unfoldable pub step : ℕ → List Frame → Spot → ℕ → Step
step at outer wanted c = if is_space c then next outer wanted else begin_step at outer c
step at outer first_item c = if is_space c then next outer first_item
    else if c == 93 then next outer (ended (array no_items)) else begin_step at (in_array [] ∷ outer) c
step at outer first_key c = if is_space c then next outer first_key
    else if c == 125 then next outer (ended (object no_members))
    else if c == 34 then next outer (quoted (for_key [] at) (plain [])) else stop at 2
step at outer (key_wanted ms) c = if is_space c then next outer (key_wanted ms)
    else if c == 34 then next outer (quoted (for_key ms at) (plain [])) else stop at 2
step at outer (colon_wanted ms k) c = if is_space c then next outer (colon_wanted ms k)
    else if c == 58 then next (in_object ms k ∷ outer) wanted else stop at 2
step at outer (ended v) c = ended_step at outer v c
step at outer (literal v ls) c = literal_step at outer v ls c
step at outer (numeral n) c = numeral_step at outer n c
step at outer (quoted p q) c = quoted_step at outer p q c

-- The input ends.
unfoldable pub finish_value : ℕ → List Frame → Value → Outcome
finish_value at [] v = done v
finish_value at (f ∷ outer) v = fault at 2

unfoldable pub finish : ℕ → List Frame → Spot → Outcome
finish at outer (ended v) = finish_value at outer v
finish at outer (numeral (zero_first n)) = finish_value at outer (so_far n (0 ∷ []) [] false 0)
finish at outer (numeral (whole n ds)) = finish_value at outer (so_far n ds [] false 0)
finish at outer (numeral (fraction n ds fs)) = finish_value at outer (so_far n ds fs false 0)
finish at outer (numeral (exponent n ds fs down w)) = finish_value at outer (so_far n ds fs down w)
finish at outer (quoted p (high t back u)) = fault back 5
finish at outer (quoted p (high_escaped t back u)) = fault back 5
finish at outer (quoted p (high_unit t back u h)) = fault back 5
finish at outer _ = fault at 2

abbrev pub after : Step → (List Frame → Spot → Outcome) → Outcome
after (next outer spot) go = go outer spot
after (stop at kind) go = fault at kind

-- what comes of the bytes from a place on
unfoldable pub outcome : ℕ → List Frame → Spot → List ℕ → Outcome
outcome at outer spot [] = finish at outer spot
outcome at outer spot (c ∷ cs) = after (step at outer spot c) (λ o s. outcome (suc at) o s cs)

-- what comes of the bytes of a whole input from a place in it on
unfoldable pub scan : List ℕ → ℕ → List Frame → Spot → Outcome
scan bytes at outer spot = outcome at outer spot (drop at bytes)

-- what comes of a whole input
unfoldable pub whole_outcome : List ℕ → Outcome
whole_outcome bytes = outcome 0 [] wanted bytes

-- ---- What a part of the reader answers, beside the machine.
-- The outcome is this fault. Want of memory may come in place of any outcome.
abbrev pub Leads : JsonFault → Outcome → Type 0
Leads (At at kind) o = o ≡ fault at kind
Leads NoMemory o = ⊤

-- what comes of the bytes after a step
abbrev pub resumed : List ℕ → ℕ → Step → Outcome
resumed bytes at s = after s (λ outer spot. scan bytes at outer spot)

-- White space may stand here.
abbrev pub MaySpace : Spot → Type 0
MaySpace wanted = ⊤
MaySpace first_item = ⊤
MaySpace first_key = ⊤
MaySpace (key_wanted ms) = ⊤
MaySpace (colon_wanted ms k) = ⊤
MaySpace (ended v) = ⊤
MaySpace _ = ⊥

-- From one place to another stands white space alone.
abbrev pub SkipsSpace : List ℕ → ℕ → ℕ → Type 0
SkipsSpace bytes start at = (outer : List Frame) (spot : Spot) → MaySpace spot → scan bytes start outer spot ≡ scan bytes at outer spot

-- The byte at a place, if there is one, passes no such test.
abbrev pub FailsAt : (ℕ → Bool) → List ℕ → ℕ → Type 0
FailsAt test bytes at = (c : ℕ) (cs : List ℕ) → drop at bytes ≡ c ∷ cs → test c ≡ false

-- This byte stands at a place.
abbrev pub StandsAt : List ℕ → ℕ → ℕ → Type 0
StandsAt bytes at c = drop at bytes ≡ c ∷ drop (at + 1) bytes

-- A number may end at a place, with these digits before and after the point.
pub record MayEnd (bytes : List ℕ) (at : ℕ) (outer : List Frame) (spot : Spot) (negative : Bool) (ds fs : List ℕ) : Type 0 where
  pub marked : (c : ℕ) → StandsAt bytes at c → is_mark c ≡ true → scan bytes at outer spot ≡ scan bytes (at + 1) outer (numeral (mark negative ds fs))
  pub unmarked : FailsAt is_mark bytes at → scan bytes at outer spot ≡ scan bytes at outer (ended (so_far negative ds fs false 0))

-- A number may end at a place, or go on with a point.
pub record AfterWhole (bytes : List ℕ) (at : ℕ) (outer : List Frame) (spot : Spot) (negative : Bool) (ds : List ℕ) : Type 0 where
  pub pointed : StandsAt bytes at 46 → scan bytes at outer spot ≡ scan bytes (at + 1) outer (numeral (point negative ds))
  pub unpointed : FailsAt (λ c. c == 46) bytes at → MayEnd bytes at outer spot negative ds []

-- From one place to another there are digits alone, and these are added to a list.
pub record AddsDigits (bytes : List ℕ) (start at : ℕ) (old new : List ℕ) : Type 0 where
  pub digits : List ℕ
  pub added : new ≡ old ++ digits
  pub count : start + length digits ≡ at
  pub before_point : (outer : List Frame) (n : Bool) (ds : List ℕ) → scan bytes start outer (numeral (whole n ds)) ≡ scan bytes at outer (numeral (whole n (ds ++ digits)))
  pub after_point : (outer : List Frame) (n : Bool) (ds fs : List ℕ) → scan bytes start outer (numeral (fraction n ds fs)) ≡ scan bytes at outer (numeral (fraction n ds (fs ++ digits)))

-- where the digits of a number begin, behind its sign
abbrev pub begun : Bool → Spot
begun true = numeral minus
begun false = wanted

-- From one place to another stand the digits before the point.
pub record ReadsWhole (bytes : List ℕ) (start at : ℕ) (outer : List Frame) (negative : Bool) (ds : List ℕ) : Type 0 where
  pub spot : Spot
  pub same : scan bytes start outer (begun negative) ≡ scan bytes at outer spot
  pub behind : AfterWhole bytes at outer spot negative ds

-- From one place to another stand a point and digits, or nothing.
pub record ReadsFraction (bytes : List ℕ) (start at places : ℕ) (old new : List ℕ) : Type 0 where
  pub digits : List ℕ
  pub added : new ≡ old ++ digits
  pub count : length digits ≡ places
  pub read : (outer : List Frame) (spot : Spot) (n : Bool) → AfterWhole bytes start outer spot n old
      → (later : Spot) × (scan bytes start outer spot ≡ scan bytes at outer later) × MayEnd bytes at outer later n old digits

-- An exponent's digits, as one whole, are kept up to this.
abbrev pub kept : ℕ → ℕ
kept w = min w 10_000_000_000_000_000_000

-- From one place to another stand the digits of an exponent behind its first, and as one whole they are this.
abbrev pub AddsExponent : List ℕ → ℕ → ℕ → ℕ → ℕ → Type 0
AddsExponent bytes start at first written = (w : ℕ) × (written ≡ kept w) × ((outer : List Frame) (n : Bool) (ds fs : List ℕ) (down : Bool)
    → scan bytes start outer (numeral (exponent n ds fs down first)) ≡ scan bytes at outer (numeral (exponent n ds fs down w)))

-- From one place to another stands an exponent, or nothing, and the number ends.
abbrev pub ReadsExponent : List ℕ → ℕ → ℕ → Bool → ℕ → Type 0
ReadsExponent bytes start at down written = (w : ℕ) × (written ≡ kept w) × ((outer : List Frame) (spot : Spot) (n : Bool) (ds fs : List ℕ)
    → MayEnd bytes start outer spot n ds fs → scan bytes start outer spot ≡ scan bytes at outer (ended (so_far n ds fs down w)))

-- A hexadecimal digit stands at a place, and this is what it stands for.
abbrev pub HexAt : List ℕ → ℕ → ℕ → Type 0
HexAt bytes at d = (c : ℕ) × StandsAt bytes at c × (is_hex c ≡ true) × (d ≡ hex_of c)

-- Four hexadecimal digits spell a unit, alone or as the second of a pair.
pub record ReadsUnit (bytes : List ℕ) (start u : ℕ) : Type 0 where
  pub alone : (outer : List Frame) (p : Purpose) (t : List ℕ) (back : ℕ)
      → scan bytes start outer (quoted p (unit t back no_digit)) ≡ resumed bytes (start + 4) (unit_step outer p t back u)
  pub second : (outer : List Frame) (p : Purpose) (t : List ℕ) (back h : ℕ)
      → scan bytes start outer (quoted p (high_unit t back h no_digit)) ≡ resumed bytes (start + 4) (pair_step outer p t back h u)

-- Where four hexadecimal digits have to stand, this is the fault.
pub record BreaksUnit (bytes : List ℕ) (start : ℕ) (e : JsonFault) : Type 0 where
  pub alone : (outer : List Frame) (p : Purpose) (t : List ℕ) (back : ℕ) → Leads e (scan bytes start outer (quoted p (unit t back no_digit)))
  pub second : (outer : List Frame) (p : Purpose) (t : List ℕ) (back h : ℕ) → scan bytes start outer (quoted p (high_unit t back h no_digit)) ≡ fault back 5

-- From a backslash to another place stands the escape of a character.
abbrev pub ReadsEscape : List ℕ → ℕ → ℕ → ℕ → Type 0
ReadsEscape bytes back at character = (outer : List Frame) (p : Purpose) (t : List ℕ)
    → scan bytes back outer (quoted p (plain t)) ≡ scan bytes at outer (quoted p (plain (t ++ encode_utf8 character)))

-- At a backslash, this is the fault.
abbrev pub BreaksEscape : List ℕ → ℕ → JsonFault → Type 0
BreaksEscape bytes back e = (outer : List Frame) (p : Purpose) (t : List ℕ) → Leads e (scan bytes back outer (quoted p (plain t)))

-- From one place in a string to another stand bytes that add this to its text.
abbrev pub ReadsPlain : List ℕ → ℕ → ℕ → List ℕ → Type 0
ReadsPlain bytes start at more = (outer : List Frame) (p : Purpose) (t : List ℕ)
    → scan bytes start outer (quoted p (plain t)) ≡ scan bytes at outer (quoted p (plain (t ++ more)))

-- From behind a string's first quote to behind its last it says this text.
abbrev pub ReadsText : List ℕ → ℕ → ℕ → List ℕ → Type 0
ReadsText bytes start at t = (outer : List Frame) (p : Purpose) → scan bytes start outer (quoted p (plain [])) ≡ resumed bytes at (quote_step outer p t)

-- Behind a string's first quote, this is the fault.
abbrev pub BreaksText : List ℕ → ℕ → JsonFault → Type 0
BreaksText bytes start e = (outer : List Frame) (p : Purpose) → Leads e (scan bytes start outer (quoted p (plain [])))

-- From one place, where the machine is at a spot, to another place this value comes to its end.
abbrev pub Reads : List ℕ → ℕ → Spot → ℕ → Value → Type 0
Reads bytes start spot at v = (outer : List Frame) → scan bytes start outer spot ≡ scan bytes at outer (ended v)

-- From one place, where the machine is at a spot, this is the fault.
abbrev pub Breaks : List ℕ → ℕ → Spot → JsonFault → Type 0
Breaks bytes start spot e = (outer : List Frame) → Leads e (scan bytes start outer spot)

-- From one place to another stands a value, where so many levels more may open.
abbrev pub ReadsValue : List ℕ → ℕ → ℕ → ℕ → Value → Type 0
ReadsValue bytes start at room v = (outer : List Frame) → length outer + room ≡ depth_limit → scan bytes start outer wanted ≡ scan bytes at outer (ended v)

-- Where a value has to stand, this is the fault.
abbrev pub BreaksValue : List ℕ → ℕ → ℕ → JsonFault → Type 0
BreaksValue bytes start room e = (outer : List Frame) → length outer + room ≡ depth_limit → Leads e (scan bytes start outer wanted)

-- The same of what stands behind the bracket that opens an array or an object.
abbrev pub ReadsInside : List ℕ → ℕ → Spot → ℕ → ℕ → Value → Type 0
ReadsInside bytes start spot at room v = (outer : List Frame) → length outer + (room + 1) ≡ depth_limit → scan bytes start outer spot ≡ scan bytes at outer (ended v)

abbrev pub BreaksInside : List ℕ → ℕ → Spot → ℕ → JsonFault → Type 0
BreaksInside bytes start spot room e = (outer : List Frame) → length outer + (room + 1) ≡ depth_limit → Leads e (scan bytes start outer spot)

-- A test of keys says which keys these members have.
abbrev pub HasKeys : (List ℕ → Bool) → List Member → Type 0
HasKeys test ms = (k : List ℕ) → test k ≡ has_key (members_of ms) k

-- From one place to another stand a key that is none of these, and a colon.
abbrev pub ReadsKey : (List ℕ → Bool) → List ℕ → ℕ → ℕ → List ℕ → Type 0
ReadsKey test bytes start at k = (outer : List Frame) (ms : List Member) → HasKeys test ms
    → scan bytes start outer (key_wanted ms) ≡ scan bytes at (in_object ms k ∷ outer) wanted

-- Where a key has to stand, this is the fault.
abbrev pub BreaksKey : (List ℕ → Bool) → List ℕ → ℕ → JsonFault → Type 0
BreaksKey test bytes start e = (outer : List Frame) (ms : List Member) → HasKeys test ms → Leads e (scan bytes start outer (key_wanted ms))

-- From one place to another stands a member whose key is none of these, where so many levels more may open.
abbrev pub ReadsMember : (List ℕ → Bool) → List ℕ → ℕ → ℕ → ℕ → List ℕ → Value → Type 0
ReadsMember test bytes start at room k v = (outer : List Frame) (ms : List Member) → HasKeys test ms → length outer + (room + 1) ≡ depth_limit
    → scan bytes start outer (key_wanted ms) ≡ scan bytes at (in_object ms k ∷ outer) (ended v)

-- Where a member has to stand, this is the fault.
abbrev pub BreaksMember : (List ℕ → Bool) → List ℕ → ℕ → ℕ → JsonFault → Type 0
BreaksMember test bytes start room e = (outer : List Frame) (ms : List Member) → HasKeys test ms → length outer + (room + 1) ≡ depth_limit
    → Leads e (scan bytes start outer (key_wanted ms))

-- This byte stands at a place of the input, and is no white space.
abbrev pub IsToken : List ℕ → ℕ → ℕ → Type 0
IsToken bytes at c = StandsAt bytes at c × (at < length bytes) × (is_space c ≡ false)

-- Behind white space this byte stands at a place.
pub record FindsToken (bytes : List ℕ) (start at c : ℕ) : Type 0 where
  pub skips : SkipsSpace bytes start at
  pub token : IsToken bytes at c

-- Behind white space stands nothing, or a byte that may not stand there, and this is the fault.
pub record LacksToken (MayNot : ℕ → Type 0) (bytes : List ℕ) (start : ℕ) (e : JsonFault) : Type 0 where
  pub at : ℕ
  pub skips : SkipsSpace bytes start at
  pub is : e ≡ At at 2
  pub fails : (drop at bytes ≡ []) ⊎ ((c : ℕ) × IsToken bytes at c × MayNot c)

-- Behind white space this byte stands right before a place.
pub record PassesToken (bytes : List ℕ) (start next c : ℕ) : Type 0 where
  pub at : ℕ
  pub found : FindsToken bytes start at c
  pub is : next ≡ at + 1

-- What stands behind an item or a member: a comma or a bracket right before the place, or neither, and that is the fault.
abbrev pub IsBehind : List ℕ → ℕ → ℕ → Result Past JsonFault → Type 0
IsBehind bytes start bracket (Ok (Comma past)) = PassesToken bytes start past 44
IsBehind bytes start bracket (Ok (Bracket past)) = PassesToken bytes start past bracket
IsBehind bytes start bracket (Err e) = LacksToken (λ c. (c ≢ 44) × (c ≢ bracket)) bytes start e

abbrev pub place_of : Past → ℕ
place_of (Comma past) = past
place_of (Bracket past) = past

-- the keys that a map has
abbrev pub knows : {X S : Type 0} → IndexMap (String Global) X S → List ℕ → Bool
knows m k = is_some (get_by_text m k)

-- A map has one key more.
abbrev pub AddsKey : (List ℕ → Bool) → (List ℕ → Bool) → List ℕ → Type 0
AddsKey old new key = (k : List ℕ) → new k ≡ (old k || bytes_eq key k)

-- The result is the outcome. Want of memory may come in place of any outcome.
abbrev pub Gives : Result Json JsonFault → Outcome → Type 0
Gives (Ok j) o = o ≡ done (view j)
Gives (Err e) o = Leads e o
