-- The machine at fronts of texts, and at what may stand behind them.
use Rattle.std.proofs.Common.{◌≡◌, ℕ, ◌+◌, suc, List, [], ◌∷◌, ◌++◌, length, refl, sym, ap, subst, ◌∙◌, arith, true, false, append_assoc, length-append, ⊎_elim, ◌==◌, inl, nat_lt, append-nil}
use Rattle.std.proofs.lemmas.Bool.{cases_Bool, lt-ltb, le-ltb, eqb-true}
use Rattle.decimal_json.specs.Value.{Value, member, members_of, Frame, Purpose, Member, in_array, in_object, for_value, for_key}
use Rattle.decimal_json.specs.inside.Scan.{Spot, wanted, ended, next, step, begin_step, finish, outcome, quoted, plain, high, high_escaped, high_unit, Hex, no_digit, one_digit, two_digits, three_digits, stop, fault, quoted_step, quote_step, pair_step, more_hex, first_item, first_key, key_wanted, colon_wanted, opened, whole_outcome, ended_step, close_step}
use Rattle.decimal_json.specs.Grammar.{Character, character_text, meaning, IsSpace, HasUniqueKeys}
use Rattle.decimal_json.proofs.Moves.{moves_none, moves_byte, placed_at, Refuses, space_moves, Arrives, arrives_then, arrives_by}
use Rattle.decimal_json.proofs.Numerals.{second_each}
use Rattle.std.specs.List.{flat_map}
use Rattle.std.specs.Char.Utf16.{is_low_surrogate, is_high_surrogate}
use Rattle.decimal_json.specs.Characters.{is_hex, unit_of, is_space}
use Rattle.decimal_json.proofs.Values.{item_comma, quote_known, members_onto, new_key}
use Rattle.decimal_json.specs.Fronts.{FrontItems, FrontMembers, IsFront, IsKeyFront, OpensTooDeep, IsStringFront, RepeatsKey, LacksSecond, LacksPartner}
use Rattle.decimal_json.proofs.Growth.{hex_text, AreHexSoFar, four, seven}
use Rattle.decimal_json.proofs.RunValues.{value_arrives, go_on, byte_run, unit_run, unit_low, unit_high, tail_text, characters_run, string_run, arrives_as, string_key, padded, keyed, first_item_as, first_key_as, value_begins, first_as, first_key_is, delimited}

surely : (at : ℕ) (outer : List Frame) (spot : Spot) (bs : List ℕ) (o : List Frame) (s : Spot) (rest : List ℕ) → Arrives true at outer spot bs o s rest → outcome at outer spot (bs ++ rest) ≡ outcome (at + length bs) o s rest
surely at outer spot bs o s rest a = ⊎_elim (λ e. e) (λ (r : Refuses true (outcome at outer spot (bs ++ rest))). absurd (r.limits refl)) a

-- arrays
items_comma : (outer : List Frame) (earlier : List Value) (v : Value) (k : ℕ) (more : List ℕ) (o : List Frame) (s : Spot) (rest : List ℕ)
    → Arrives true (k + 1) (in_array (earlier ++ v ∷ []) ∷ outer) wanted more o s rest → Arrives true k (in_array earlier ∷ outer) (ended v) (44 ∷ more) o s rest
items_comma outer earlier v k more o s rest a = grind (arith, arrives_then, arrives_by, moves_byte, item_comma, a)

items_go : (outer : List Frame) (vs : List Value) (inside : List ℕ) → FrontItems true (length outer + 1) vs inside → (at : ℕ) (earlier : List Value) (rest : List ℕ)
    → Arrives true at (in_array earlier ∷ outer) wanted inside (in_array (earlier ++ vs) ∷ outer) wanted rest
items_go outer [] inside f at earlier rest = grind (arith, arrives_as, append-nil, arrives_by, moves_none, [], f)
items_go outer (v ∷ vs) inside f at earlier rest =
    arrives_as true at (in_array earlier ∷ outer) wanted (f.0 ++ (f.1 ++ (f.2 ++ 44 ∷ f.3))) inside (in_array (earlier ++ v ∷ vs) ∷ outer) wanted rest (sym f.8)
    (padded true at (in_array earlier ∷ outer) v f.0 f.1 f.2 (44 ∷ f.3) (in_array (earlier ++ v ∷ vs) ∷ outer) wanted rest f.4 f.6
    (λ k. value_arrives true (length outer + 1) v f.1 f.5 k (in_array earlier ∷ outer) ((f.2 ++ 44 ∷ f.3) ++ rest) (omega arith) (delimited f.2 (44 ∷ f.3) rest f.6 refl))
    (λ k. items_comma outer earlier v k f.3 (in_array (earlier ++ v ∷ vs) ∷ outer) wanted rest
    (subst (λ (ws : List Value). Arrives true (k + 1) (in_array (earlier ++ v ∷ []) ∷ outer) wanted f.3 (in_array ws ∷ outer) wanted rest) (append_assoc earlier (v ∷ []) vs)
    (items_go outer vs f.3 f.7 (k + 1) (earlier ++ v ∷ []) rest))))

array_runs : (outer : List Frame) (vs : List Value) (inside space : List ℕ) → FrontItems true (length outer + 1) vs inside → IsSpace space → (at c : ℕ) (cs : List ℕ) → is_space c ≡ false → (c ≡ 93 → ⊥)
    → outcome at outer first_item ((inside ++ space) ++ c ∷ cs) ≡ outcome (at + length (inside ++ space)) (in_array vs ∷ outer) wanted (c ∷ cs)
array_runs outer [] inside space f sp at c cs ns nb = grind (arith, space_moves, first_item_as, [], f, sp, ns, nb)
array_runs outer (v ∷ vs) inside space f sp at c cs ns nb =
    let frames : List Frame = in_array (v ∷ vs) ∷ outer in
    let tail : List ℕ = 44 ∷ f.3 ++ space in
    let rest : List ℕ = c ∷ cs in
    surely at outer first_item (inside ++ space) frames wanted rest
    (arrives_as true at outer first_item (f.0 ++ (f.1 ++ (f.2 ++ tail))) (inside ++ space) frames wanted rest (four f.0 f.1 f.2 (44 ∷ f.3) space ∙ ap (λ x. x ++ space) (sym f.8))
    (arrives_then true at outer first_item f.0 outer first_item (f.1 ++ (f.2 ++ tail)) frames wanted rest
    (arrives_by true at outer first_item f.0 outer first_item ((f.1 ++ (f.2 ++ tail)) ++ rest) (space_moves at outer first_item f.0 f.4 tt))
    (first_as true (at + length f.0) outer f.1 (f.2 ++ tail) frames wanted rest (value_begins true (length outer + 1) v f.1 f.5)
    (padded true (at + length f.0) (in_array [] ∷ outer) v [] f.1 f.2 tail frames wanted rest tt f.6
    (λ k. value_arrives true (length outer + 1) v f.1 f.5 k (in_array [] ∷ outer) ((f.2 ++ tail) ++ rest) (omega arith) (delimited f.2 tail rest f.6 refl))
    (λ k. arrives_then true k (in_array [] ∷ outer) (ended v) (44 ∷ []) (in_array (v ∷ []) ∷ outer) wanted (f.3 ++ space) frames wanted rest
    (arrives_by true k (in_array [] ∷ outer) (ended v) (44 ∷ []) (in_array (v ∷ []) ∷ outer) wanted ((f.3 ++ space) ++ rest) (moves_byte k 44 (in_array [] ∷ outer) (ended v) (in_array (v ∷ []) ∷ outer) wanted (item_comma k outer [] v)))
    (arrives_then true (k + 1) (in_array (v ∷ []) ∷ outer) wanted f.3 frames wanted space frames wanted rest
    (items_go outer vs f.3 f.7 (k + 1) (v ∷ []) (space ++ rest))
    (arrives_by true (k + 1 + length f.3) frames wanted space frames wanted rest (space_moves (k + 1 + length f.3) frames wanted space sp tt))))))))

-- objects
members_split : (earlier : List Member) (m : Member) (ms : List Member) → members_of (earlier ++ m ∷ ms) ≡ members_onto earlier (member m.0 m.1 (members_of ms))
members_split [] m ms = refl
members_split (e ∷ earlier) m ms = ap (member e.0 e.1) (members_split earlier m ms)

members_comma : (outer : List Frame) (earlier : List Member) (m : Member) (k : ℕ) (more : List ℕ) (o : List Frame) (s : Spot) (rest : List ℕ)
    → Arrives true (k + 1) outer (key_wanted (earlier ++ m ∷ [])) more o s rest → Arrives true k (in_object earlier m.0 ∷ outer) (ended m.1) (44 ∷ more) o s rest
unfolding step ended_step close_step
members_comma outer earlier m k more o s rest a = arrives_then true k (in_object earlier m.0 ∷ outer) (ended m.1) (44 ∷ []) outer (key_wanted (earlier ++ m ∷ [])) more o s rest
    (arrives_by true k (in_object earlier m.0 ∷ outer) (ended m.1) (44 ∷ []) outer (key_wanted (earlier ++ m ∷ [])) (more ++ rest)
    (moves_byte k 44 (in_object earlier m.0 ∷ outer) (ended m.1) outer (key_wanted (earlier ++ m ∷ [])) refl)) a

members_go : (outer : List Frame) (ms : List Member) (inside : List ℕ) → FrontMembers true (length outer + 1) ms inside → (at : ℕ) (earlier : List Member) (rest : List ℕ) → HasUniqueKeys (members_of (earlier ++ ms))
    → Arrives true at outer (key_wanted earlier) inside outer (key_wanted (earlier ++ ms)) rest
members_go outer [] inside f at earlier rest u = grind (arith, arrives_as, append-nil, arrives_by, moves_none, [], f, u)
members_go outer (m ∷ ms) inside f at earlier rest u =
    arrives_as true at outer (key_wanted earlier) (f.0 ++ (f.1 ++ (f.2 ++ (58 ∷ f.3 ++ (f.4 ++ (f.5 ++ 44 ∷ f.6)))))) inside outer (key_wanted (earlier ++ m ∷ ms)) rest (sym f.14)
    (keyed true at outer earlier m.0 m.1 f.0 f.1 f.2 f.3 f.4 f.5 (44 ∷ f.6) outer (key_wanted (earlier ++ m ∷ ms)) rest f.7 f.8 f.9 f.10 f.12 (λ _. new_key earlier m.0 m.1 (members_of ms) (subst HasUniqueKeys (members_split earlier m ms) u))
    (λ k. value_arrives true (length outer + 1) m.1 f.4 f.11 k (in_object earlier m.0 ∷ outer) ((f.5 ++ 44 ∷ f.6) ++ rest) (omega arith) (delimited f.5 (44 ∷ f.6) rest f.12 refl))
    (λ k. members_comma outer earlier m k f.6 outer (key_wanted (earlier ++ m ∷ ms)) rest
    (subst (λ (ns : List Member). Arrives true (k + 1) outer (key_wanted (earlier ++ m ∷ [])) f.6 outer (key_wanted ns) rest) (append_assoc earlier (m ∷ []) ms)
    (members_go outer ms f.6 f.13 (k + 1) (earlier ++ m ∷ []) rest (subst (λ (ns : List Member). HasUniqueKeys (members_of ns)) (sym (append_assoc earlier (m ∷ []) ms)) u)))))

object_runs : (outer : List Frame) (ms : List Member) (inside space : List ℕ) → FrontMembers true (length outer + 1) ms inside → HasUniqueKeys (members_of ms) → IsSpace space → (at : ℕ) (cs : List ℕ)
    → outcome at outer first_key ((inside ++ space) ++ 34 ∷ cs) ≡ outcome (at + length (inside ++ space)) outer (key_wanted ms) (34 ∷ cs)
object_runs outer [] inside space f u sp at cs = grind (arith, space_moves, first_key_as, [], f, u, sp)
object_runs outer (m ∷ ms) inside space f u sp at cs =
    let tail : List ℕ = 44 ∷ f.6 ++ space in
    let rest : List ℕ = 34 ∷ cs in
    let last : Spot = key_wanted (m ∷ ms) in
    let x : List ℕ = f.2 ++ (58 ∷ f.3 ++ (f.4 ++ (f.5 ++ tail))) in
    surely at outer first_key (inside ++ space) outer last rest
    (arrives_as true at outer first_key (f.0 ++ (f.1 ++ x)) (inside ++ space) outer last rest (seven f.0 f.1 f.2 f.3 f.4 f.5 (44 ∷ f.6) space ∙ ap (λ y. y ++ space) (sym f.14))
    (arrives_then true at outer first_key f.0 outer first_key (f.1 ++ x) outer last rest
    (arrives_by true at outer first_key f.0 outer first_key ((f.1 ++ x) ++ rest) (space_moves at outer first_key f.0 f.7 tt))
    (first_key_is true (at + length f.0) outer m.0 f.1 x outer last rest f.8
    (keyed true (at + length f.0) outer [] m.0 m.1 [] f.1 f.2 f.3 f.4 f.5 tail outer last rest tt f.8 f.9 f.10 f.12 (λ _. refl)
    (λ k. value_arrives true (length outer + 1) m.1 f.4 f.11 k (in_object [] m.0 ∷ outer) ((f.5 ++ tail) ++ rest) (omega arith) (delimited f.5 tail rest f.12 refl))
    (λ k. members_comma outer [] m k (f.6 ++ space) outer last rest
    (arrives_then true (k + 1) outer (key_wanted (m ∷ [])) f.6 outer last space outer last rest
    (members_go outer ms f.6 f.13 (k + 1) (m ∷ []) (space ++ rest) u)
    (arrives_by true (k + 1 + length f.6) outer last space outer last rest (space_moves (k + 1 + length f.6) outer last space sp tt))))))))

-- The machine comes to where a value may begin.
abbrev pub FrontRuns : List Frame → List ℕ → Type 0
FrontRuns outer front = (c : ℕ) (cs : List ℕ) → is_space c ≡ false → (c ≡ 93 → ⊥) → whole_outcome (front ++ c ∷ cs) ≡ outcome (length front) outer wanted (c ∷ cs)

brackets_regroup : (f i s e : List ℕ) → ((f ++ i) ++ s) ++ e ≡ f ++ (i ++ (s ++ e))
brackets_regroup f i s e = simp append_assoc

opens_at : (at : ℕ) (outer : List Frame) (c : ℕ) (spot : Spot) (rest : List ℕ) → step at outer wanted c ≡ next outer spot → outcome at outer wanted (c ∷ rest) ≡ outcome (suc at) outer spot rest
opens_at at outer c spot rest e = byte_run at c outer wanted rest (next outer spot) e

pub key_front_runs : (outer : List Frame) (ms : List Member) (front : List ℕ) → ((f : List ℕ) → IsFront outer f → FrontRuns outer f) → IsKeyFront outer ms front → (cs : List ℕ)
    → whole_outcome (front ++ 34 ∷ cs) ≡ outcome (length front) outer (key_wanted ms) (34 ∷ cs)
unfolding step begin_step opened
key_front_runs outer ms front runs f cs =
    let o = f.2 in
    let is : front ≡ (o.0 ++ 123 ∷ o.1) ++ f.1 = f.4 ∙ ap (λ x. x ++ f.1) o.6 in
    let size : length front ≡ suc (length o.0) + length (o.1 ++ f.1) =
    ap length (is ∙ append_assoc o.0 (123 ∷ o.1) f.1) ∙ (length-append o.0 (123 ∷ o.1 ++ f.1) ∙ omega arith) in
    ap (λ x. whole_outcome (x ++ 34 ∷ cs)) is ∙ (ap whole_outcome (brackets_regroup o.0 (123 ∷ o.1) f.1 (34 ∷ cs) ∙ ap (λ x. o.0 ++ (123 ∷ x)) (sym (append_assoc o.1 f.1 (34 ∷ cs))))
    ∙ (runs o.0 o.2 123 ((o.1 ++ f.1) ++ 34 ∷ cs) refl (λ e. absurd (omega arith))
    ∙ (opens_at (length o.0) outer 123 first_key ((o.1 ++ f.1) ++ 34 ∷ cs) (rw (lt-ltb (length outer) 64 o.3) refl)
    ∙ (object_runs outer ms o.1 f.1 o.4 o.5 f.3 (suc (length o.0)) cs ∙ placed_at (suc (length o.0) + length (o.1 ++ f.1)) (length front) outer (key_wanted ms) (34 ∷ cs) (sym size)))))

pub front_runs : (outer : List Frame) (front : List ℕ) → IsFront outer front → FrontRuns outer front
unfolding whole_outcome step begin_step opened
front_runs [] front f c cs ns nb = space_moves 0 [] wanted front f tt (c ∷ cs) ∙ placed_at (0 + length front) (length front) [] wanted (c ∷ cs) (omega arith)
front_runs (in_array vs ∷ outer) front f c cs ns nb =
    let a = f.2 in
    let is : front ≡ (a.0 ++ 91 ∷ a.1) ++ f.1 = f.4 ∙ ap (λ x. x ++ f.1) a.5 in
    let size : length front ≡ suc (length a.0) + length (a.1 ++ f.1) =
    ap length (is ∙ append_assoc a.0 (91 ∷ a.1) f.1) ∙ (length-append a.0 (91 ∷ a.1 ++ f.1) ∙ omega arith) in
    ap (λ x. whole_outcome (x ++ c ∷ cs)) is ∙ (ap whole_outcome (brackets_regroup a.0 (91 ∷ a.1) f.1 (c ∷ cs) ∙ ap (λ x. a.0 ++ (91 ∷ x)) (sym (append_assoc a.1 f.1 (c ∷ cs))))
    ∙ (front_runs outer a.0 a.2 91 ((a.1 ++ f.1) ++ c ∷ cs) refl (λ e. absurd (omega arith))
    ∙ (opens_at (length a.0) outer 91 first_item ((a.1 ++ f.1) ++ c ∷ cs) (rw (lt-ltb (length outer) 64 a.3) refl)
    ∙ (array_runs outer vs a.1 f.1 a.4 f.3 (suc (length a.0)) c cs ns nb ∙ placed_at (suc (length a.0) + length (a.1 ++ f.1)) (length front) (in_array vs ∷ outer) wanted (c ∷ cs) (sym size)))))
front_runs (in_object ms k ∷ outer) front f c cs ns nb =
    let colon = f.2 in
    let keyed = colon.1.2 in
    let key : List ℕ = keyed.1 in
    let frames : List Frame = in_object ms k ∷ outer in
    let rest : List ℕ = c ∷ cs in
    let part : List ℕ = key ++ (colon.1.1 ++ (58 ∷ f.1)) in
    let is : front ≡ keyed.0 ++ part =
    f.4 ∙ (ap (λ x. x ++ f.1) (colon.2 ∙ ap (λ x. x ++ 58 ∷ []) (colon.1.4 ∙ ap (λ x. x ++ colon.1.1) keyed.5)) ∙ colon_regroup keyed.0 key colon.1.1 (58 ∷ []) f.1) in
    let arrives : Arrives true (length keyed.0) outer (key_wanted ms) part frames wanted rest =
    arrives_then true (length keyed.0) outer (key_wanted ms) key outer (colon_wanted ms k) (colon.1.1 ++ (58 ∷ f.1)) frames wanted rest
    (string_key true (length keyed.0) outer ms k key ((colon.1.1 ++ (58 ∷ f.1)) ++ rest) keyed.3 (λ _. keyed.4))
    (arrives_then true (length keyed.0 + length key) outer (colon_wanted ms k) colon.1.1 outer (colon_wanted ms k) (58 ∷ f.1) frames wanted rest
    (arrives_by true (length keyed.0 + length key) outer (colon_wanted ms k) colon.1.1 outer (colon_wanted ms k) ((58 ∷ f.1) ++ rest) (space_moves (length keyed.0 + length key) outer (colon_wanted ms k) colon.1.1 colon.1.3 tt))
    (arrives_then true (length keyed.0 + length key + length colon.1.1) outer (colon_wanted ms k) (58 ∷ []) frames wanted f.1 frames wanted rest
    (arrives_by true (length keyed.0 + length key + length colon.1.1) outer (colon_wanted ms k) (58 ∷ []) frames wanted (f.1 ++ rest)
    (moves_byte (length keyed.0 + length key + length colon.1.1) 58 outer (colon_wanted ms k) frames wanted refl))
    (arrives_by true (length keyed.0 + length key + length colon.1.1 + 1) frames wanted f.1 frames wanted rest (space_moves (length keyed.0 + length key + length colon.1.1 + 1) frames wanted f.1 f.3 tt)))) in
    let begun : (ys : List ℕ) × (part ++ rest ≡ 34 ∷ ys) = (_, ap (λ x. (x ++ (colon.1.1 ++ (58 ∷ f.1))) ++ rest) keyed.3.3) in
    ap (λ x. whole_outcome (x ++ rest)) is ∙ (ap whole_outcome (append_assoc keyed.0 part rest ∙ ap (λ x. keyed.0 ++ x) begun.1)
    ∙ (key_front_runs outer ms keyed.0 (λ g h. front_runs outer g h) keyed.2 begun.0
    ∙ (ap (λ x. outcome (length keyed.0) outer (key_wanted ms) x) (sym begun.1)
    ∙ (surely (length keyed.0) outer (key_wanted ms) part frames wanted rest arrives
    ∙ placed_at (length keyed.0 + length part) (length front) frames wanted rest (sym (ap length is ∙ length-append keyed.0 part))))))
  where
    colon_regroup : (a k s m t : List ℕ) → (((a ++ k) ++ s) ++ m) ++ t ≡ a ++ (k ++ (s ++ (m ++ t)))
    colon_regroup a k s m t = simp append_assoc

-- a bracket that opens a level too much
pub deep_fault : (bytes : List ℕ) (at : ℕ) → OpensTooDeep bytes at → whole_outcome bytes ≡ fault at 3
unfolding step begin_step opened
deep_fault bytes at d =
    let full : nat_lt (length d.0) 64 ≡ false = le-ltb (length d.0) 64 (omega (arith, d.5)) in
    ap whole_outcome d.8 ∙ (⊎_elim
    (λ (e : d.2 ≡ 91). ap (λ b. whole_outcome (d.1 ++ b ∷ d.3)) e ∙ (front_runs d.0 d.1 d.4 91 d.3 refl (λ g. absurd (omega arith))
    ∙ byte_run (length d.1) 91 d.0 wanted d.3 (stop (length d.1) 3) (rw full refl)))
    (λ (e : d.2 ≡ 123). ap (λ b. whole_outcome (d.1 ++ b ∷ d.3)) e ∙ (front_runs d.0 d.1 d.4 123 d.3 refl (λ g. absurd (omega arith))
    ∙ byte_run (length d.1) 123 d.0 wanted d.3 (stop (length d.1) 3) (rw full refl))) d.6
    ∙ ap (λ k. fault k 3) (sym d.7))

-- ---- The machine at a key that comes twice, and at a surrogate without its partner.
pub repeated_fault : (bytes : List ℕ) (at : ℕ) → RepeatsKey bytes at → whole_outcome bytes ≡ fault at 4
unfolding step
repeated_fault bytes at r =
    let outer : List Frame = r.0 in
    let ms : List Member = r.1 in
    let k : ℕ = length r.2 in
    let cs : List Character = r.7.0 in
    let run : outcome (suc k) outer (quoted (for_key ms k) (plain [])) (tail_text cs ++ r.5) ≡ go_on (suc k + length (tail_text cs)) r.5 (quote_step outer (for_key ms k) (flat_map meaning cs)) =
    ⊎_elim (λ e. e) (λ (f : Refuses true (outcome (suc k) outer (quoted (for_key ms k) (plain [])) (tail_text cs ++ r.5))). absurd (f.limits refl)) (string_run true (suc k) outer (for_key ms k) [] cs r.5 r.7.1) in
    ap whole_outcome (r.10 ∙ ap (λ x. r.2 ++ (x ++ r.5)) r.7.3)
    ∙ (key_front_runs outer ms r.2 (λ f h. front_runs outer f h) r.6 (tail_text cs ++ r.5)
    ∙ (byte_run k 34 outer (key_wanted ms) (tail_text cs ++ r.5) (next outer (quoted (for_key ms k) (plain []))) refl
    ∙ (run
    ∙ (ap (go_on (suc k + length (tail_text cs)) r.5) (ap (quote_step outer (for_key ms k)) (sym r.7.2) ∙ quote_known outer ms k r.4 r.8) ∙ ap (λ j. fault j 4) (sym r.9)))))

-- behind the first unit of a pair, where these digits of the second have come
no_more_hex : (at c : ℕ) (outer : List Frame) (p : Purpose) (t : List ℕ) (back u : ℕ) (h : Hex) (xs : List ℕ) → (is_hex c ≡ true → outcome at outer (quoted p (high_unit t back u h)) (c ∷ xs) ≡ fault back 5)
    → outcome at outer (quoted p (high_unit t back u h)) (c ∷ xs) ≡ fault back 5
unfolding step quoted_step
no_more_hex at c outer p t back u h xs later =
    ⊎_elim later (λ (e : is_hex c ≡ false). byte_run at c outer (quoted p (high_unit t back u h)) xs (stop back 5) (rw e refl)) (cases_Bool (is_hex c))

lack_digits : (h : Hex) → AreHexSoFar h → (at : ℕ) (outer : List Frame) (p : Purpose) (t : List ℕ) (back u : ℕ) (xs : List ℕ) → LacksSecond (92 ∷ 117 ∷ hex_text h ++ xs)
    → outcome at outer (quoted p (high_unit t back u h)) xs ≡ fault back 5
unfolding more_hex outcome finish pair_step
lack_digits h are at outer p t back u [] l = refl
lack_digits no_digit are at outer p t back u (c ∷ xs) l = no_more_hex at c outer p t back u no_digit xs (λ e.
    byte_run at c outer (quoted p (high_unit t back u no_digit)) xs (next outer (quoted p (high_unit t back u (one_digit c)))) (second_each outer p t back u at c no_digit e)
    ∙ lack_digits (one_digit c) e (suc at) outer p t back u xs l)
lack_digits (one_digit a) are at outer p t back u (c ∷ xs) l = no_more_hex at c outer p t back u (one_digit a) xs (λ e.
    byte_run at c outer (quoted p (high_unit t back u (one_digit a))) xs (next outer (quoted p (high_unit t back u (two_digits a c)))) (second_each outer p t back u at c (one_digit a) e)
    ∙ lack_digits (two_digits a c) (are, e) (suc at) outer p t back u xs l)
lack_digits (two_digits a b) are at outer p t back u (c ∷ xs) l = no_more_hex at c outer p t back u (two_digits a b) xs (λ e.
    byte_run at c outer (quoted p (high_unit t back u (two_digits a b))) xs (next outer (quoted p (high_unit t back u (three_digits a b c)))) (second_each outer p t back u at c (two_digits a b) e)
    ∙ lack_digits (three_digits a b c) (are.0, are.1, e) (suc at) outer p t back u xs l)
lack_digits (three_digits a b d) are at outer p t back u (c ∷ xs) l = no_more_hex at c outer p t back u (three_digits a b d) xs (λ e.
    ⊎_elim (λ (low : is_low_surrogate (unit_of a b d c) ≡ true). absurd (l a b d c xs (are.0, are.1, are.2, e) low refl))
    (λ (low : is_low_surrogate (unit_of a b d c) ≡ false). byte_run at c outer (quoted p (high_unit t back u (three_digits a b d))) xs (stop back 5)
    (second_each outer p t back u at c (three_digits a b d) e ∙ rw low refl)) (cases_Bool (is_low_surrogate (unit_of a b d c))))

lack_letter : (at : ℕ) (outer : List Frame) (p : Purpose) (t : List ℕ) (back u : ℕ) (xs : List ℕ) → LacksSecond (92 ∷ xs) → outcome at outer (quoted p (high_escaped t back u)) xs ≡ fault back 5
unfolding outcome finish step quoted_step
lack_letter at outer p t back u [] l = refl
lack_letter at outer p t back u (c ∷ xs) l =
    ⊎_elim (λ (e : (c == 117) ≡ true). byte_run at c outer (quoted p (high_escaped t back u)) xs (next outer (quoted p (high_unit t back u no_digit)))
    (ap (λ b. step at outer (quoted p (high_escaped t back u)) b) (eqb-true c 117 e))
    ∙ lack_digits no_digit tt (suc at) outer p t back u xs (subst (λ (k : ℕ). LacksSecond (92 ∷ k ∷ xs)) (eqb-true c 117 e) l))
    (λ (e : (c == 117) ≡ false). byte_run at c outer (quoted p (high_escaped t back u)) xs (stop back 5) (rw e refl)) (cases_Bool (c == 117))

high_lacks : (at : ℕ) (outer : List Frame) (p : Purpose) (t : List ℕ) (back u : ℕ) (xs : List ℕ) → LacksSecond xs → outcome at outer (quoted p (high t back u)) xs ≡ fault back 5
unfolding outcome finish step quoted_step
high_lacks at outer p t back u [] l = refl
high_lacks at outer p t back u (c ∷ xs) l =
    ⊎_elim (λ (e : (c == 92) ≡ true). byte_run at c outer (quoted p (high t back u)) xs (next outer (quoted p (high_escaped t back u)))
    (ap (λ b. step at outer (quoted p (high t back u)) b) (eqb-true c 92 e))
    ∙ lack_letter (suc at) outer p t back u xs (subst (λ (k : ℕ). LacksSecond (k ∷ xs)) (eqb-true c 92 e) l))
    (λ (e : (c == 92) ≡ false). byte_run at c outer (quoted p (high t back u)) xs (stop back 5) (rw e refl)) (cases_Bool (c == 92))

string_front_runs : (outer : List Frame) (p : Purpose) (front xs : List ℕ) → IsStringFront outer p front → whole_outcome (front ++ 34 ∷ xs) ≡ outcome (suc (length front)) outer (quoted p (plain [])) xs
unfolding step begin_step
string_front_runs outer for_value front xs f = front_runs outer front f 34 xs refl (λ e. absurd (omega arith))
    ∙ byte_run (length front) 34 outer wanted xs (next outer (quoted for_value (plain []))) refl
string_front_runs outer (for_key ms at) front xs f = key_front_runs outer ms front (λ g h. front_runs outer g h) f.0 xs
    ∙ (byte_run (length front) 34 outer (key_wanted ms) xs (next outer (quoted (for_key ms (length front)) (plain []))) refl
    ∙ ap (λ k. outcome (suc (length front)) outer (quoted (for_key ms k) (plain [])) xs) (sym f.1))

pub lacks_fault : (bytes : List ℕ) (at : ℕ) → LacksPartner bytes at → whole_outcome bytes ≡ fault at 5
lacks_fault bytes at l =
    let outer : List Frame = l.0 in
    let p : Purpose = l.1 in
    let flat : List ℕ = flat_map character_text l.3 in
    let escape : List ℕ = 92 ∷ 117 ∷ l.4 ∷ l.5 ∷ l.6 ∷ l.7 ∷ l.8 in
    let t : List ℕ = flat_map meaning l.3 in
    let place : ℕ = suc (length l.2) + length flat in
    let six : ℕ = suc (suc (suc (suc (suc (suc place))))) in
    let u : ℕ = unit_of l.4 l.5 l.6 l.7 in
    let size : at ≡ place = l.13 ∙ (length-append l.2 (34 ∷ flat) ∙ omega arith) in
    ap whole_outcome (l.14 ∙ append_assoc l.2 (34 ∷ flat) escape) ∙ (string_front_runs outer p l.2 (flat ++ escape) l.9
    ∙ (surely (suc (length l.2)) outer (quoted p (plain [])) flat outer (quoted p (plain t)) escape (characters_run true (suc (length l.2)) outer p [] l.3 escape l.10 (inl refl))
    ∙ (unit_run place outer p t l.4 l.5 l.6 l.7 l.8 l.11
    ∙ (⊎_elim (λ (low : is_low_surrogate u ≡ true). ap (go_on six l.8) (unit_low outer p t place u low))
    (λ (h : (is_high_surrogate u ≡ true) × LacksSecond l.8). ap (go_on six l.8) (unit_high outer p t place u h.0) ∙ high_lacks six outer p t place u l.8 h.1) l.12
    ∙ ap (λ k. fault k 5) (sym size)))))
