-- The machine round values.
use Rattle.std.proofs.Common.{◌≡◌, ℕ, ◌+◌, ◌==◌, ◌<◌, List, [], ◌∷◌, drop, length, get_or, refl, sym, ap, subst, ◌∙◌, arith, true, false, ◌≤◌, ◌||◌, ◌++◌, ⊎_elim, Bool, Result, Option, Some, None, Ok, Err}
use Rattle.std.proofs.lemmas.Bool.{eq-eqb, ne_eqb, false≢true, lt-ltb, le-ltb, or_parts, or_from}
use Rattle.std.specs.Option.{IfSome, IfNone}
use Rattle.std.specs.Result.{IfErr, IsErrAnd}
use Rattle.std.specs.Str.{IsUtf8, IsCharBoundary, bytes_eq}
use Rattle.std.proofs.lemmas.Str.{IsCharBoundary-after_ascii}
use Rattle.decimal_json.specs.Value.{Value, text, array, object, no_items, no_members, items_of, members_of, has_key, Items, item, Members, member, is_digit, Frame, for_value, Member, in_array, in_object, for_key}
use Rattle.decimal_json.specs.Characters.{is_space, depth_limit}
use Rattle.decimal_json.specs.inside.Scan.{Spot, wanted, literal, awaited, quoted, plain, next, stop, Outcome, fault, step, begin_step, literal_step, quote_step, scan, finish, first_item, first_key, key_wanted, colon_wanted, ended, opened, ended_step, close_step, finish_value, done, whole_outcome, At, Json, JsonFault, Leads, FailsAt, StandsAt, IsToken, Reads, Breaks, ReadsText, BreaksText, MaySpace, FindsToken, LacksToken, PassesToken, HasKeys, AddsKey, ReadsKey, BreaksKey, ReadsValue, BreaksValue, ReadsInside, BreaksInside, ReadsMember, resumed, Gives, SkipsSpace}
use Rattle.decimal_json.proofs.Exits.{passed_on, some_of, none_of}
use Rattle.decimal_json.proofs.Moves.{moved, stopped, finished, byte_and_rest, fails_there, stepped}
use Rattle.std.proofs.lemmas.Bool.Decides.{same_from_decides, Decides-like}
use Rattle.std.proofs.lemmas.Slice.Eq.{bytes_eq-Decides}
use Rattle.decimal_json.specs.Grammar.{HasUniqueKeys}
use mathlib.Core.Bool.{or-false, or_assoc}

-- the letters of a literal
pub letter_read : (bytes : List ℕ) (at i : ℕ) (letters : List ℕ) (outer : List Frame) (v : Value) → i < length letters → StandsAt bytes at (get_or letters i 0)
    → scan bytes at outer (awaited v (drop i letters)) ≡ scan bytes (at + 1) outer (awaited v (drop (i + 1) letters))
unfolding step literal_step
letter_read bytes at i letters outer v lt e =
    ap (λ ls. scan bytes at outer (awaited v ls)) (byte_and_rest letters i lt)
    ∙ moved bytes at (get_or letters i 0) outer (literal v (get_or letters i 0 ∷ drop (i + 1) letters)) outer (awaited v (drop (i + 1) letters)) e (rw (eq-eqb (get_or letters i 0) (get_or letters i 0) refl) refl)

pub letter_missing : (bytes : List ℕ) (at i : ℕ) (letters : List ℕ) (outer : List Frame) (v : Value) → i < length letters → FailsAt (λ c. c == get_or letters i 0) bytes at
    → scan bytes at outer (awaited v (drop i letters)) ≡ fault at 2
unfolding finish step literal_step
letter_missing bytes at i letters outer v lt fails =
    ap (λ ls. scan bytes at outer (awaited v ls)) (byte_and_rest letters i lt)
    ∙ fails_there bytes at at 2 outer (literal v (get_or letters i 0 ∷ drop (i + 1) letters)) (λ c. c == get_or letters i 0) fails refl (λ c e. rw e refl)

-- what the byte with which a value begins leads to
abbrev pub Begins : ℕ → ℕ → Spot → Type 0
Begins start k spot = (outer : List Frame) → step start outer wanted k ≡ next outer spot

begins_at : (bytes : List ℕ) (start c k : ℕ) (spot : Spot) (outer : List Frame) → Begins start k spot → StandsAt bytes start c → c ≡ k
    → scan bytes start outer wanted ≡ scan bytes (start + 1) outer spot
begins_at bytes start c k spot outer begins stands is = moved bytes start k outer wanted outer spot (subst (λ (b : ℕ). StandsAt bytes start b) is stands) (begins outer)

-- What comes behind it, read from a copy of the bytes. What is read is a value of memory, which is seen as that.
pub read_behind : (bytes source : List ℕ) (start end c k : ℕ) (spot : Spot) (v w : Value) → bytes ≡ source → StandsAt source start c → c ≡ k → Begins start k spot
    → Reads bytes (start + 1) spot end v → w ≡ v → Reads source start wanted end w
read_behind bytes source start end c k spot v w same stands is begins r viewed = subst (λ (x : Value). Reads source start wanted end x) (sym viewed)
    (λ outer. begins_at source start c k spot outer begins stands is ∙ subst (λ (s : List ℕ). Reads s (start + 1) spot end v) same r outer)

pub breaks_behind : {T : Type 0} (bytes source : List ℕ) (start c k : ℕ) (spot : Spot) (e : JsonFault) (r : Result T JsonFault) → bytes ≡ source → StandsAt source start c → c ≡ k
    → Begins start k spot → Breaks bytes (start + 1) spot e → IsErrAnd r (λ d. d ≡ e) → IfErr r (Breaks source start wanted)
breaks_behind bytes source start c k spot e r same stands is begins broken h = passed_on r e (Breaks source start wanted) h
    (λ outer. subst (λ (o : Outcome). Leads e o) (sym (begins_at source start c k spot outer begins stands is)) (subst (λ (s : List ℕ). Breaks s (start + 1) spot e) same broken outer))

pub text_reads : (source : List ℕ) (start end : ℕ) (t : List ℕ) → ReadsText source start end t → Reads source start (quoted for_value (plain [])) end (text t)
unfolding quote_step
text_reads source start end t r = λ outer. r outer for_value

pub text_breaks : (source : List ℕ) (start : ℕ) (e : JsonFault) → BreaksText source start e → Breaks source start (quoted for_value (plain [])) e
text_breaks source start e b = λ outer. b outer for_value

-- a byte with which no value begins
pub no_value : (source : List ℕ) (start c : ℕ) (e : JsonFault) → e ≡ At start 2 → StandsAt source start c → is_space c ≡ false → (c ≡ 34 → ⊥) → (c ≡ 91 → ⊥) → (c ≡ 123 → ⊥) → (c ≡ 116 → ⊥) → (c ≡ 102 → ⊥)
    → (c ≡ 110 → ⊥) → (c ≡ 45 → ⊥) → is_digit c ≡ false → Breaks source start wanted e
unfolding step begin_step
no_value source start c e is stands space q b o t f n m d = λ outer. subst (λ (e : JsonFault). Leads e (scan source start outer wanted)) (sym is)
    (stopped source start c outer wanted start 2 stands (stops outer)) where
      stops : (outer : List Frame) → step start outer wanted c ≡ stop start 2
      stops outer = rw (space, ne_eqb c 34 q, ne_eqb c 91 b, ne_eqb c 123 o, ne_eqb c 116 t, ne_eqb c 102 f, ne_eqb c 110 n, ne_eqb c 45 m, ne_eqb c 48 (λ e. false≢true (sym d ∙ ap is_digit e)), d) refl

-- behind an ASCII byte a text may be cut
pub boundary_behind : (source : List ℕ) (at c : ℕ) → IsUtf8 source → at < length source → StandsAt source at c → c < 128 → IsCharBoundary source (at + 1)
boundary_behind source at c utf8 lt e low = grind (arith, byte_and_rest, IsCharBoundary-after_ascii, utf8, lt, e, low)

-- what `token_at` says of its byte
pub token_of : (bytes : List ℕ) (at c : ℕ) (o : Option ℕ) → o ≡ Some c → IfSome o (IsToken bytes at) → IsToken bytes at c
token_of bytes at c o e h = some_of o (IsToken bytes at) c e h

pub end_of : (bytes : List ℕ) (at : ℕ) (o : Option ℕ) → o ≡ None → IfNone o (drop at bytes ≡ []) → drop at bytes ≡ []
end_of bytes at o e h = none_of o (drop at bytes ≡ []) e h

-- ---- The machine inside arrays and objects.
-- an array, up to where an item has to stand
pub record HasItems (bytes : List ℕ) (start at room : ℕ) (vs : List Value) : Type 0 where
  pub forward : start ≤ at
  pub within : at ≤ length bytes
  pub same : (outer : List Frame) → length outer + (room + 1) ≡ depth_limit → scan bytes start outer first_item ≡ scan bytes at (in_array vs ∷ outer) wanted

-- an object, up to where a key has to stand
pub record HasMembers (bytes : List ℕ) (start at room : ℕ) (ms : List Member) (test : List ℕ → Bool) : Type 0 where
  pub forward : start ≤ at
  pub within : at ≤ length bytes
  pub keys : HasKeys test ms
  pub same : (outer : List Frame) → length outer + (room + 1) ≡ depth_limit → scan bytes start outer first_key ≡ scan bytes at outer (key_wanted ms)

led : (e : JsonFault) (o p : Outcome) → o ≡ p → Leads e p → Leads e o
led e o p same leads = subst (λ (o : Outcome). Leads e o) (sym same) leads

led_to : (e : JsonFault) (at kind : ℕ) (o : Outcome) → e ≡ At at kind → o ≡ fault at kind → Leads e o
led_to e at kind o is same = subst (λ (e : JsonFault). Leads e o) (sym is) same

-- the fault of a byte, or of the end of the input, behind white space
lacks : (MayNot : ℕ → Type 0) (bytes : List ℕ) (start : ℕ) (outer : List Frame) (spot : Spot) (e : JsonFault) → LacksToken MayNot bytes start e
    → MaySpace spot → ((at : ℕ) → finish at outer spot ≡ fault at 2)
    → ((at c : ℕ) → is_space c ≡ false → MayNot c → step at outer spot c ≡ stop at 2) → Leads e (scan bytes start outer spot)
lacks MayNot bytes start outer spot e none may ends stops =
    led_to e none.at 2 (scan bytes start outer spot) none.is (none.skips outer spot may
    ∙ ⊎_elim (λ (h : drop none.at bytes ≡ []). finished bytes none.at outer spot h ∙ ends none.at)
    (λ (h : (c : ℕ) × IsToken bytes none.at c × MayNot c). stopped bytes none.at h.0 outer spot none.at 2 h.1.0 (stops none.at h.0 h.1.2 h.2)) none.fails)

-- the machine goes past a byte behind white space
passes : (bytes : List ℕ) (start at c : ℕ) (outer later : List Frame) (spot new : Spot) → FindsToken bytes start at c → MaySpace spot
    → step at outer spot c ≡ next later new → scan bytes start outer spot ≡ scan bytes (at + 1) later new
passes bytes start at c outer later spot new found may s = grind (arith, moved, found, may, s)

passed : (bytes : List ℕ) (start past c : ℕ) (outer later : List Frame) (spot new : Spot) → PassesToken bytes start past c → MaySpace spot
    → ((at : ℕ) → step at outer spot c ≡ next later new) → scan bytes start outer spot ≡ scan bytes past later new
passed bytes start past c outer later spot new p may s = grind (arith, passes, p, may, s)

found_as : (bytes : List ℕ) (start at c k : ℕ) → FindsToken bytes start at c → c ≡ k → FindsToken bytes start at k
found_as bytes start at c k found is = subst (λ (b : ℕ). FindsToken bytes start at b) is found

-- arrays
pub first_item_other : (at c : ℕ) (outer : List Frame) → is_space c ≡ false → (c ≡ 93 → ⊥) → step at outer first_item c ≡ step at (in_array [] ∷ outer) wanted c
unfolding step
first_item_other at c outer space ne = rw (space, ne_eqb c 93 ne) refl

pub item_comma : (at : ℕ) (outer : List Frame) (vs : List Value) (v : Value) → step at (in_array vs ∷ outer) (ended v) 44 ≡ next (in_array (vs ++ v ∷ []) ∷ outer) wanted
unfolding step ended_step close_step
item_comma at outer vs v = refl

pub array_cut : (bytes : List ℕ) (start room : ℕ) (e : JsonFault) → LacksToken (λ _. ⊥) bytes start e → BreaksInside bytes start first_item room e
unfolding finish
array_cut bytes start room e none = λ outer fits. lacks (λ _. ⊥) bytes start outer first_item e none tt (λ at. refl) (λ at c space no. absurd no)

pub array_empty : (bytes : List ℕ) (start at c room : ℕ) → FindsToken bytes start at c → c ≡ 93 → ReadsInside bytes start first_item (at + 1) room (array no_items)
unfolding step
array_empty bytes start at c room found is = λ outer fits.
    passes bytes start at 93 outer outer first_item (ended (array no_items)) (found_as bytes start at c 93 found is) tt refl

pub items_begin : (bytes : List ℕ) (start at c room : ℕ) → FindsToken bytes start at c → (c ≡ 93 → ⊥) → start ≤ at → HasItems bytes start at room []
items_begin bytes start at c room found ne le = record {
  forward = le;
  within = omega (arith, found.token.1);
  same = λ outer fits. found.skips outer first_item tt ∙ (stepped bytes at c outer first_item found.token.0
      ∙ (ap (resumed bytes (at + 1)) (first_item_other at c outer found.token.2 ne) ∙ sym (stepped bytes at c (in_array [] ∷ outer) wanted found.token.0)));
}

-- an array, up to where an item ends
item_read : (bytes : List ℕ) (start at end room : ℕ) (vs : List Value) (v : Value) → HasItems bytes start at room vs → ReadsValue bytes at end room v
    → (outer : List Frame) → length outer + (room + 1) ≡ depth_limit → scan bytes start outer first_item ≡ scan bytes end (in_array vs ∷ outer) (ended v)
item_read bytes start at end room vs v has r outer fits = has.same outer fits ∙ r (in_array vs ∷ outer) (omega (arith, fits))

pub array_breaks : (bytes : List ℕ) (start at end room : ℕ) (vs : List Value) (v : Value) (e : JsonFault) → HasItems bytes start at room vs → ReadsValue bytes at end room v
    → LacksToken (λ c. (c ≡ 44 → ⊥) × (c ≡ 93 → ⊥)) bytes end e → BreaksInside bytes start first_item room e
unfolding step ended_step close_step finish finish_value
array_breaks bytes start at end room vs v e has r none = λ outer fits. led e _ _ (item_read bytes start at end room vs v has r outer fits)
    (lacks _ bytes end (in_array vs ∷ outer) (ended v) e none tt (λ at. refl) (λ at c space no. rw (space, ne_eqb c 44 no.0, ne_eqb c 93 no.1) refl))

pub array_closes : (bytes : List ℕ) (start at end past room : ℕ) (vs : List Value) (v : Value) → HasItems bytes start at room vs → ReadsValue bytes at end room v
    → PassesToken bytes end past 93 → ReadsInside bytes start first_item past room (array (items_of (vs ++ v ∷ [])))
unfolding step ended_step close_step
array_closes bytes start at end past room vs v has r p = λ outer fits. item_read bytes start at end room vs v has r outer fits
    ∙ passed bytes end past 93 (in_array vs ∷ outer) outer (ended v) (ended (array (items_of (vs ++ v ∷ [])))) p tt (λ at. refl)

pub items_go_on : (bytes : List ℕ) (start at end past room : ℕ) (vs : List Value) (v : Value) → HasItems bytes start at room vs → ReadsValue bytes at end room v
    → PassesToken bytes end past 44 → start ≤ past → HasItems bytes start past room (vs ++ v ∷ [])
items_go_on bytes start at end past room vs v has r p le = record {
  forward = le;
  within = omega (arith, p.is, p.found.token.1);
  same = λ outer fits. item_read bytes start at end room vs v has r outer fits
      ∙ passed bytes end past 44 (in_array vs ∷ outer) (in_array (vs ++ v ∷ []) ∷ outer) (ended v) wanted p tt (λ at. item_comma at outer vs v);
}

-- keys
pub no_key : (bytes : List ℕ) (start : ℕ) (test : List ℕ → Bool) (e : JsonFault) → LacksToken (λ c. c ≡ 34 → ⊥) bytes start e → BreaksKey test bytes start e
unfolding step finish
no_key bytes start test e none = λ outer ms keys.
    lacks _ bytes start outer (key_wanted ms) e none tt (λ at. refl) (λ at c space ne. rw (space, ne_eqb c 34 ne) refl)

key_begins : (bytes : List ℕ) (start at : ℕ) → FindsToken bytes start at 34 → (outer : List Frame) (ms : List Member)
    → scan bytes start outer (key_wanted ms) ≡ scan bytes (at + 1) outer (quoted (for_key ms at) (plain []))
unfolding step
key_begins bytes start at found outer ms =
    passes bytes start at 34 outer outer (key_wanted ms) (quoted (for_key ms at) (plain [])) found tt refl

pub key_breaks : (bytes : List ℕ) (start at : ℕ) (test : List ℕ → Bool) (e : JsonFault) → FindsToken bytes start at 34 → BreaksText bytes (at + 1) e
    → BreaksKey test bytes start e
key_breaks bytes start at test e found broken = λ outer ms keys. led e _ _ (key_begins bytes start at found outer ms) (broken outer (for_key ms at))

pub quote_known : (outer : List Frame) (ms : List Member) (at : ℕ) (t : List ℕ) → has_key (members_of ms) t ≡ true → quote_step outer (for_key ms at) t ≡ stop at 4
unfolding quote_step
quote_known outer ms at t e = rw e refl

pub quote_new : (outer : List Frame) (ms : List Member) (at : ℕ) (t : List ℕ) → has_key (members_of ms) t ≡ false → quote_step outer (for_key ms at) t ≡ next outer (colon_wanted ms t)
unfolding quote_step
quote_new outer ms at t e = rw e refl

pub key_twice : (bytes : List ℕ) (start at end : ℕ) (test : List ℕ → Bool) (t : List ℕ) → FindsToken bytes start at 34 → ReadsText bytes (at + 1) end t
    → test t ≡ true → BreaksKey test bytes start (At at 4)
key_twice bytes start at end test t found r known = λ outer ms keys. key_begins bytes start at found outer ms
    ∙ (r outer (for_key ms at) ∙ ap (resumed bytes end) (quote_known outer ms at t (sym (keys t) ∙ known)))

key_is_new : (bytes : List ℕ) (start at end : ℕ) (test : List ℕ → Bool) (t : List ℕ) → FindsToken bytes start at 34 → ReadsText bytes (at + 1) end t → test t ≡ false
    → (outer : List Frame) (ms : List Member) → HasKeys test ms → scan bytes start outer (key_wanted ms) ≡ scan bytes end outer (colon_wanted ms t)
key_is_new bytes start at end test t found r new outer ms keys = key_begins bytes start at found outer ms
    ∙ (r outer (for_key ms at) ∙ ap (resumed bytes end) (quote_new outer ms at t (sym (keys t) ∙ new)))

pub no_colon : (bytes : List ℕ) (start at end : ℕ) (test : List ℕ → Bool) (t : List ℕ) (e : JsonFault) → FindsToken bytes start at 34 → ReadsText bytes (at + 1) end t
    → test t ≡ false → LacksToken (λ c. c ≡ 58 → ⊥) bytes end e → BreaksKey test bytes start e
unfolding step finish
no_colon bytes start at end test t e found r new none = λ outer ms keys. led e _ _ (key_is_new bytes start at end test t found r new outer ms keys)
    (lacks _ bytes end outer (colon_wanted ms t) e none tt (λ p. refl) (λ p c space ne. rw (space, ne_eqb c 58 ne) refl))

pub key_read : (bytes : List ℕ) (start at end colon : ℕ) (test : List ℕ → Bool) (t : List ℕ) → FindsToken bytes start at 34 → ReadsText bytes (at + 1) end t
    → test t ≡ false → FindsToken bytes end colon 58 → ReadsKey test bytes start (colon + 1) t
unfolding step
key_read bytes start at end colon test t found r new second = λ outer ms keys. key_is_new bytes start at end test t found r new outer ms keys
    ∙ passes bytes end colon 58 outer (in_object ms t ∷ outer) (colon_wanted ms t) wanted second tt refl

-- objects
pub first_key_other : (at c : ℕ) (outer : List Frame) → is_space c ≡ false → (c ≡ 125 → ⊥) → step at outer first_key c ≡ step at outer (key_wanted []) c
unfolding step
first_key_other at c outer space ne = rw (space, ne_eqb c 125 ne) refl

pub object_cut : (bytes : List ℕ) (start room : ℕ) (e : JsonFault) → LacksToken (λ _. ⊥) bytes start e → BreaksInside bytes start first_key room e
unfolding finish
object_cut bytes start room e none = λ outer fits. lacks (λ _. ⊥) bytes start outer first_key e none tt (λ at. refl) (λ at c space no. absurd no)

pub object_empty : (bytes : List ℕ) (start at c room : ℕ) → FindsToken bytes start at c → c ≡ 125 → ReadsInside bytes start first_key (at + 1) room (object no_members)
unfolding step
object_empty bytes start at c room found is = λ outer fits.
    passes bytes start at 125 outer outer first_key (ended (object no_members)) (found_as bytes start at c 125 found is) tt refl

pub members_begin : (bytes : List ℕ) (start at c room : ℕ) (test : List ℕ → Bool) → FindsToken bytes start at c → (c ≡ 125 → ⊥) → start ≤ at → HasKeys test []
    → HasMembers bytes start at room [] test
members_begin bytes start at c room test found ne le keys = record {
  forward = le;
  within = omega (arith, found.token.1);
  keys = keys;
  same = λ outer fits. found.skips outer first_key tt ∙ (stepped bytes at c outer first_key found.token.0
      ∙ (ap (resumed bytes (at + 1)) (first_key_other at c outer found.token.2 ne) ∙ sym (stepped bytes at c outer (key_wanted []) found.token.0)));
}

-- a member
pub member_read : (bytes : List ℕ) (start colon end room : ℕ) (test : List ℕ → Bool) (k : List ℕ) (v : Value) → ReadsKey test bytes start colon k
    → ReadsValue bytes colon end room v → ReadsMember test bytes start end room k v
member_read bytes start colon end room test k v key r = λ outer ms keys fits. key outer ms keys ∙ r (in_object ms k ∷ outer) (omega (arith, fits))

-- an object, up to where a member ends
member_added : (bytes : List ℕ) (start at end room : ℕ) (ms : List Member) (test : List ℕ → Bool) (k : List ℕ) (v : Value) → HasMembers bytes start at room ms test
    → ReadsMember test bytes at end room k v → (outer : List Frame) → length outer + (room + 1) ≡ depth_limit → scan bytes start outer first_key ≡ scan bytes end (in_object ms k ∷ outer) (ended v)
member_added bytes start at end room ms test k v has r outer fits = has.same outer fits ∙ r outer ms has.keys fits

pub object_breaks : (bytes : List ℕ) (start at end room : ℕ) (ms : List Member) (test : List ℕ → Bool) (k : List ℕ) (v : Value) (e : JsonFault) → HasMembers bytes start at room ms test → ReadsMember test bytes at end room k v
    → LacksToken (λ c. (c ≡ 44 → ⊥) × (c ≡ 125 → ⊥)) bytes end e → BreaksInside bytes start first_key room e
unfolding step ended_step close_step finish finish_value
object_breaks bytes start at end room ms test k v e has r none = λ outer fits. led e _ _ (member_added bytes start at end room ms test k v has r outer fits)
    (lacks _ bytes end (in_object ms k ∷ outer) (ended v) e none tt (λ at. refl) (λ at c space no. rw (space, ne_eqb c 44 no.0, ne_eqb c 125 no.1) refl))

pub object_closes : (bytes : List ℕ) (start at end past room : ℕ) (ms : List Member) (test : List ℕ → Bool) (k : List ℕ) (v : Value) → HasMembers bytes start at room ms test → ReadsMember test bytes at end room k v
    → PassesToken bytes end past 125 → ReadsInside bytes start first_key past room (object (members_of (ms ++ (k, v) ∷ [])))
unfolding step ended_step close_step
object_closes bytes start at end past room ms test k v has r p = λ outer fits. member_added bytes start at end room ms test k v has r outer fits
    ∙ passed bytes end past 125 (in_object ms k ∷ outer) outer (ended v) (ended (object (members_of (ms ++ (k, v) ∷ [])))) p tt (λ at. refl)

pub has_key-push : (ms : List Member) (k : List ℕ) (v : Value) (q : List ℕ) → has_key (members_of (ms ++ (k, v) ∷ [])) q ≡ (has_key (members_of ms) q || bytes_eq k q)
has_key-push [] k v q = or-false (bytes_eq k q)
has_key-push (m ∷ ms) k v q = ap (λ b. bytes_eq m.0 q || b) (has_key-push ms k v q) ∙ sym (or_assoc (bytes_eq m.0 q) (has_key (members_of ms) q) (bytes_eq k q))

pub members_go_on : (bytes : List ℕ) (start at end past room : ℕ) (ms : List Member) (test more : List ℕ → Bool) (k : List ℕ) (v : Value) → HasMembers bytes start at room ms test → ReadsMember test bytes at end room k v
    → AddsKey test more k → PassesToken bytes end past 44 → start ≤ past → HasMembers bytes start past room (ms ++ (k, v) ∷ []) more
unfolding step ended_step close_step
members_go_on bytes start at end past room ms test more k v has r adds p le = record {
  forward = le;
  within = omega (arith, p.is, p.found.token.1);
  keys = λ q. adds q ∙ (ap (λ b. b || bytes_eq k q) (has.keys q) ∙ sym (has_key-push ms k v q));
  same = λ outer fits. member_added bytes start at end room ms test k v has r outer fits
      ∙ passed bytes end past 44 (in_object ms k ∷ outer) outer (ended v) (key_wanted (ms ++ (k, v) ∷ [])) p tt (λ at. refl);
}

-- a bracket that opens a level
pub open_array : (at : ℕ) (outer : List Frame) → step at outer wanted 91 ≡ opened at outer first_item
unfolding step begin_step
open_array at outer = refl

pub open_object : (at : ℕ) (outer : List Frame) → step at outer wanted 123 ≡ opened at outer first_key
unfolding step begin_step
open_object at outer = refl

pub value_cut : (bytes : List ℕ) (start room : ℕ) (e : JsonFault) → LacksToken (λ _. ⊥) bytes start e → BreaksValue bytes start room e
unfolding finish
value_cut bytes start room e none = λ outer fits. lacks (λ _. ⊥) bytes start outer wanted e none tt (λ at. refl) (λ at c space no. absurd no)

-- the bytes that open a level, and what the machine is at behind them
abbrev pub Opens : ℕ → Spot → Type 0
Opens k spot = (at : ℕ) (outer : List Frame) → step at outer wanted k ≡ opened at outer spot

pub too_deep : (bytes : List ℕ) (start at room c k : ℕ) (spot : Spot) (e : JsonFault) → Opens k spot → FindsToken bytes start at c → c ≡ k
    → e ≡ At at 3 → room ≡ 0 → BreaksValue bytes start room e
unfolding opened
too_deep bytes start at room c k spot e opens found is kind none = λ outer fits.
    let token = found_as bytes start at c k found is in
    led_to e at 3 (scan bytes start outer wanted) kind (token.skips outer wanted tt
    ∙ stopped bytes at k outer wanted at 3 token.token.0 (opens at outer ∙ rw (le-ltb (length outer) 64 (omega (arith, fits, none))) refl))

-- what stands behind a bracket that opens one level more
inside_opens : (bytes : List ℕ) (start at room c k : ℕ) (spot : Spot) → Opens k spot → FindsToken bytes start at c → c ≡ k
    → (outer : List Frame) → length outer + (room + 1) ≡ depth_limit → scan bytes start outer wanted ≡ scan bytes (at + 1) outer spot
unfolding opened
inside_opens bytes start at room c k spot opens found is outer fits =
    passes bytes start at k outer outer wanted spot (found_as bytes start at c k found is) tt (opens at outer ∙ rw (lt-ltb (length outer) 64 (omega (arith, fits))) refl)

pub inside_read : (bytes : List ℕ) (start at end room less c k : ℕ) (spot : Spot) (v : Value) → Opens k spot → FindsToken bytes start at c → c ≡ k → less + 1 ≡ room
    → ReadsInside bytes (at + 1) spot end less v → ReadsValue bytes start end room v
inside_read bytes start at end room less c k spot v opens found is one r = λ outer fits.
    inside_opens bytes start at less c k spot opens found is outer (omega (arith, fits, one)) ∙ r outer (omega (arith, fits, one))

pub inside_breaks : (bytes : List ℕ) (start at room less c k : ℕ) (spot : Spot) (e : JsonFault) → Opens k spot → FindsToken bytes start at c → c ≡ k → less + 1 ≡ room
    → BreaksInside bytes (at + 1) spot less e → BreaksValue bytes start room e
inside_breaks bytes start at room less c k spot e opens found is one broken = λ outer fits.
    led e _ _ (inside_opens bytes start at less c k spot opens found is outer (omega (arith, fits, one))) (broken outer (omega (arith, fits, one)))

-- ---- The machine over a whole input.
whole_scan : (bytes : List ℕ) → whole_outcome bytes ≡ scan bytes 0 [] wanted
unfolding whole_outcome scan
whole_scan bytes = refl

pub document_breaks : (bytes : List ℕ) (e : JsonFault) → BreaksValue bytes 0 64 e → Leads e (whole_outcome bytes)
document_breaks bytes e broken = subst (λ (o : Outcome). Leads e o) (sym (whole_scan bytes)) (broken [] refl)

pub document_ends : (bytes : List ℕ) (end at : ℕ) (v : Value) → ReadsValue bytes 0 end 64 v → SkipsSpace bytes end at → drop at bytes ≡ [] → whole_outcome bytes ≡ done v
unfolding finish finish_value
document_ends bytes end at v r skips none = whole_scan bytes ∙ (r [] refl ∙ (skips [] (ended v) tt ∙ (finished bytes at [] (ended v) none)))

pub document_goes_on : (bytes : List ℕ) (end at c : ℕ) (v : Value) (e : JsonFault) → ReadsValue bytes 0 end 64 v → SkipsSpace bytes end at → IsToken bytes at c → e ≡ At at 2 → Leads e (whole_outcome bytes)
unfolding step ended_step close_step
document_goes_on bytes end at c v e r skips token is = subst (λ (e : JsonFault). Leads e (whole_outcome bytes)) (sym is)
    (whole_scan bytes ∙ (r [] refl ∙ (skips [] (ended v) tt ∙ stopped bytes at c [] (ended v) at 2 token.0 (rw token.2 refl))))

pub gives_fault : (r : Result Json JsonFault) (e : JsonFault) (o : Outcome) → IsErrAnd r (λ d. d ≡ e) → Leads e o → Gives r o
gives_fault (Ok j) e o h l = absurd h
gives_fault (Err d) e o h l = subst (λ (x : JsonFault). Leads x o) (sym h) l

-- ---- Keys that differ, and lists that are put before items and members.
-- a list of values, and then items
abbrev pub items_onto : List Value → Items → Items
items_onto [] is = is
items_onto (v ∷ vs) is = item v (items_onto vs is)

abbrev pub members_onto : List Member → Members → Members
members_onto [] is = is
members_onto (m ∷ ms) is = member m.0 m.1 (members_onto ms is)

pub items_of-push : (vs : List Value) (v : Value) → items_of (vs ++ v ∷ []) ≡ items_onto vs (item v no_items)
items_of-push [] v = refl
items_of-push (w ∷ vs) v = ap (item w) (items_of-push vs v)

pub items_onto-push : (vs : List Value) (v : Value) (is : Items) → items_onto (vs ++ v ∷ []) is ≡ items_onto vs (item v is)
items_onto-push [] v is = refl
items_onto-push (w ∷ vs) v is = ap (item w) (items_onto-push vs v is)

pub members_of-push : (ms : List Member) (k : List ℕ) (v : Value) → members_of (ms ++ (k, v) ∷ []) ≡ members_onto ms (member k v no_members)
members_of-push [] k v = refl
members_of-push (m ∷ ms) k v = ap (member m.0 m.1) (members_of-push ms k v)

pub members_onto-push : (ms : List Member) (k : List ℕ) (v : Value) (is : Members) → members_onto (ms ++ (k, v) ∷ []) is ≡ members_onto ms (member k v is)
members_onto-push [] k v is = refl
members_onto-push (m ∷ ms) k v is = ap (member m.0 m.1) (members_onto-push ms k v is)

pub bytes_eq-swap : (xs ys : List ℕ) → bytes_eq xs ys ≡ bytes_eq ys xs
bytes_eq-swap xs ys = same_from_decides (bytes_eq xs ys) (bytes_eq ys xs) (bytes_eq-Decides xs ys) (Decides-like (bytes_eq ys xs) sym sym (bytes_eq-Decides ys xs))

-- a key among members
lacks_later : (ms : List Member) (k : List ℕ) (v : Value) (rest : Members) (q : List ℕ) → has_key (members_onto ms (member k v rest)) q ≡ false → bytes_eq k q ≡ false
lacks_later [] k v rest q e = (or_parts (bytes_eq k q) (has_key rest q) e).0
lacks_later (m ∷ ms) k v rest q e = lacks_later ms k v rest q (or_parts (bytes_eq m.0 q) (has_key (members_onto ms (member k v rest)) q) e).1

pub new_key : (ms : List Member) (k : List ℕ) (v : Value) (rest : Members) → HasUniqueKeys (members_onto ms (member k v rest)) → has_key (members_of ms) k ≡ false
new_key [] k v rest u = refl
new_key (m ∷ ms) k v rest u = or_from (bytes_eq m.0 k) (has_key (members_of ms) k) (bytes_eq-swap m.0 k ∙ lacks_later ms k v rest m.0 u.0) (new_key ms k v rest u.1)

-- members that differ, and one more
pub unique_more : (ms : List Member) (k : List ℕ) (v : Value) → HasUniqueKeys (members_of ms) → has_key (members_of ms) k ≡ false → HasUniqueKeys (members_of (ms ++ (k, v) ∷ []))
unique_more [] k v u e = (refl, tt)
unique_more (m ∷ ms) k v u e =
    let parts = or_parts (bytes_eq m.0 k) (has_key (members_of ms) k) e in
    (has_key-push ms k v m.0 ∙ or_from (has_key (members_of ms) m.0) (bytes_eq k m.0) u.0 (bytes_eq-swap k m.0 ∙ parts.0), unique_more ms k v u.1 parts.1)
