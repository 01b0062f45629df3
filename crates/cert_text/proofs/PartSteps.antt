-- A part reads the lines of what is valid and nothing else, as the grammar has them; and where it stops, no line of the kind
-- that is to come begins the bytes that are left.
use Rattle.std.proofs.Common.{◌≡◌, ℕ, zero, suc, List, [], ◌∷◌, ◌++◌, length, replicate, All, Option, Some, None, Result, Ok, Err, refl, sym, ap, subst, append_assoc, arith, map, append-nil}
use Rattle.std.specs.List.{flat_map}
use Rattle.std.specs.Option.{ok_or}
use Rattle.std.proofs.lemmas.List.Elements.{All-nil, All-cons, All-head, All-tail}
use Rattle.outside.specs.Lines.{joined}
use Rattle.outside.proofs.Joining.{joined-append}
use Rattle.cert_text.specs.Grammar.{Symbol, Produces, Reaches}
use Rattle.cert_text.specs.inside.Forms.{Form}
use Rattle.cert_text.specs.inside.Parts.{◌>>=◌, Part, line_of, then, told, repeated}
use Rattle.cert_text.proofs.FormLaws.{IsForm, Anything}

-- lines of these kinds were to come, and behind the lines that may stand there comes none that may
pub record Stops (kinds : List Symbol) (bytes rest : List ℕ) : Type 0 where
  pub lines : List (List ℕ)
  pub kind : Symbol
  pub others : List Symbol
  pub run : Reaches kinds lines (kind ∷ others)
  pub parts : bytes ≡ joined lines ++ rest
  pub barred : (text more : List ℕ) (next : List Symbol) → Produces kind text next → rest ≡ text ++ more → ⊥

pub record IsPart {A : Type 0} (part : Part A) (Valid : A → Type 0) (lines : A → List (List ℕ)) (kinds : List Symbol) (next : A → List Symbol) : Type 0 where
  pub takes : (bytes : List ℕ) (x : A × List ℕ) → part bytes ≡ Ok x → Valid x.0 × (bytes ≡ joined (lines x.0) ++ x.1)
  pub again : (a : A) (rest : List ℕ) → Valid a → part (joined (lines a) ++ rest) ≡ Ok (a, rest)
  pub runs : (a : A) → Valid a → Reaches kinds (lines a) (next a)
  pub stops : (bytes rest : List ℕ) → part bytes ≡ Err rest → Stops kinds bytes rest

-- nothing is to come
abbrev pub Done : {A : Type 0} → A → List Symbol
Done a = []

-- ---- the steps of reading
pub bind_ok : {A B : Type 0} (r : Result A (List ℕ)) (f : A → Result B (List ℕ)) (y : B) → (r >>= f) ≡ Ok y → (x : A) × (r ≡ Ok x) × (f x ≡ Ok y)
bind_ok (Ok x) f y e = (x, refl, e)
bind_ok (Err rest) f y e = absurd cc

abbrev pub ok_of : (A : Type 0) → A → List ℕ → Result (A × List ℕ) (List ℕ)
ok_of A a rest = Ok (a, rest)

pub same_Ok : {A : Type 0} (x y : A) → ◌≡◌ {A = Result A (List ℕ)} (Ok x) (Ok y) → x ≡ y
same_Ok x y e = cc

pub same_Err : {A : Type 0} (x y : List ℕ) → ◌≡◌ {A = Result A (List ℕ)} (Err x) (Err y) → x ≡ y
same_Err x y e = cc

-- where two steps stop, one of them does
pub data StopsAt {A B : Type 0} (r : Result A (List ℕ)) (f : A → Result B (List ℕ)) (rest : List ℕ) : Type 0 where
  AtFirst : r ≡ Err rest → StopsAt r f rest
  AtSecond : (x : A) → r ≡ Ok x → f x ≡ Err rest → StopsAt r f rest

pub bind_err : {A B : Type 0} (r : Result A (List ℕ)) (f : A → Result B (List ℕ)) (rest : List ℕ) → (r >>= f) ≡ Err rest → StopsAt r f rest
bind_err (Ok x) f rest e = AtSecond x refl e
bind_err {A} (Err other) f rest e = AtFirst (let same : other ≡ rest = cc in ap (λ (r : List ℕ). Err r) same)

-- ---- lines one behind the other
pub Reaches-then : (kinds : List Symbol) (texts more : List (List ℕ)) (middle left : List Symbol) → Reaches kinds texts middle → Reaches middle more left → Reaches kinds (texts ++ more) left
Reaches-then kinds [] more middle left e h = subst (λ (kinds : List Symbol). Reaches kinds more left) (sym e) h
Reaches-then [] (text ∷ texts) more middle left e h = absurd e
Reaches-then (kind ∷ kinds) (text ∷ texts) more middle left e h = (e.0, e.1, Reaches-then (e.0 ++ kinds) texts more middle left e.2 h)

-- what is to come later changes nothing
pub Reaches-before : (kinds later : List Symbol) (texts : List (List ℕ)) (left : List Symbol) → Reaches kinds texts left → Reaches (kinds ++ later) texts (left ++ later)
Reaches-before kinds later [] left e = ap (λ kinds. kinds ++ later) e
Reaches-before [] later (text ∷ texts) left e = absurd e
Reaches-before (kind ∷ kinds) later (text ∷ texts) left e =
    (e.0, e.1, subst (λ (kinds : List Symbol). Reaches kinds texts (left ++ later)) (append_assoc e.0 kinds later) (Reaches-before (e.0 ++ kinds) later texts left e.2))

pub Stops-before : (kinds later : List Symbol) (bytes rest : List ℕ) → Stops kinds bytes rest → Stops (kinds ++ later) bytes rest
Stops-before kinds later bytes rest h = record {
  lines = h.lines;
  kind = h.kind;
  others = h.others ++ later;
  run = Reaches-before kinds later h.lines (h.kind ∷ h.others) h.run;
  parts = h.parts;
  barred = h.barred;
}

pub Stops-behind : (kinds middle : List Symbol) (texts : List (List ℕ)) (bytes behind rest : List ℕ) → Reaches kinds texts middle → bytes ≡ joined texts ++ behind → Stops middle behind rest
    → Stops kinds bytes rest
Stops-behind kinds middle texts bytes behind rest run parts h = grind (arith, Reaches-then, append_assoc, joined-append, run, parts, h)

-- ---- parts of parts
-- a line of one kind, whose texts are those of a form
pub line-part : {A : Type 0} {form : Form A} {V : A → Type 0} {t : A → List ℕ} → IsForm form V t Anything → (kind : Symbol) (next : A → List Symbol)
    → ((a : A) → V a → Produces kind (t a) (next a)) → ((text : List ℕ) (others : List Symbol) → Produces kind text others → (a : A) × V a × (text ≡ t a))
    → IsPart (line_of form) V (λ a. t a ∷ []) (kind ∷ []) next
line-part {A} {form} {V} {t} h kind next produces only = record {
  takes = λ bytes x e. h.takes bytes x (found (form bytes) bytes x e);
  again = λ a rest v. rw (h.again a rest v tt) refl;
  runs = λ a v. (next a, produces a v, append-nil (next a));
  stops = λ bytes rest e.
      let missed = none (form bytes) bytes rest e in
      record {
        lines = [];
        kind = kind;
        others = [];
        run = refl;
        parts = missed.1;
        barred = λ text more others p same. grind (arith, only, others, p, more, missed, form, same, h);
      };
}
  where
    found : (o : Option (A × List ℕ)) (bytes : List ℕ) (x : A × List ℕ) → ok_or o bytes ≡ Ok x → o ≡ Some x
    found (Some y) bytes x e = ap Some (same_Ok y x e)
    found None bytes x e = absurd cc

    none : (o : Option (A × List ℕ)) (bytes rest : List ℕ) → ok_or o bytes ≡ Err rest → (o ≡ None) × (bytes ≡ rest)
    none (Some y) bytes rest e = absurd cc
    none None bytes rest e = (refl, same_Err bytes rest e)

    no_some : (x : A × List ℕ) → None ≡ Some x → ⊥
    no_some x e = cc

-- one part and then another, which may depend on the value of the first
pub then-part : {A B : Type 0} {first : Part A} {second : A → Part B} {V : A → Type 0} {W : A → B → Type 0} {l : A → List (List ℕ)} {m : A → B → List (List ℕ)}
    {kinds : List Symbol} {middle : A → List Symbol} {left : A → B → List Symbol}
    → IsPart first V l kinds middle → ((a : A) → V a → IsPart (second a) (W a) (m a) (middle a) (left a))
    → IsPart (then first second) (λ p. V p.0 × W p.0 p.1) (λ p. l p.0 ++ m p.0 p.1) kinds (λ p. left p.0 p.1)
then-part {A} {B} {first} {second} {V} {W} {l} {m} {kinds} {middle} {left} h k =
    grind (arith, bind_ok, append_assoc, joined-append, same_Ok, Reaches-then, bind_err, Stops-behind, h, k)

-- a part that is read as another type, which can be read back
pub record IsRetoldPart {A B : Type 0} (f : A → B) (V : A → Type 0) (W : B → Type 0) (l : A → List (List ℕ)) (m : B → List (List ℕ)) (n : A → List Symbol) (o : B → List Symbol) : Type 0 where
  pub there : (a : A) → V a → W (f a) × (l a ≡ m (f a)) × (n a ≡ o (f a))
  pub back : (b : B) → W b → (a : A) × V a × (f a ≡ b)

pub told-part : {A B : Type 0} {part : Part A} {V : A → Type 0} {l : A → List (List ℕ)} {kinds : List Symbol} {n : A → List Symbol} → IsPart part V l kinds n
    → (f : A → B) (W : B → Type 0) (m : B → List (List ℕ)) (o : B → List Symbol) → IsRetoldPart f V W l m n o → IsPart (told f part) W m kinds o
told-part {A} {B} {part} {V} {l} {kinds} {n} h f W m o retold = grind (arith, h, retold)

-- the same in other words
pub part-as : {A : Type 0} {part other : Part A} {V : A → Type 0} {l : A → List (List ℕ)} {kinds : List Symbol} {n : A → List Symbol} → IsPart part V l kinds n
    → ((bytes : List ℕ) → part bytes ≡ other bytes) → IsPart other V l kinds n
part-as h same = grind (arith, h, same)

-- a part, and what is to come behind it anyway
pub before-part : {A : Type 0} {part : Part A} {V : A → Type 0} {l : A → List (List ℕ)} {kinds : List Symbol} {n : A → List Symbol} → IsPart part V l kinds n
    → (later : List Symbol) → IsPart part V l (kinds ++ later) (λ a. n a ++ later)
before-part {A} {part} {V} {l} {kinds} {n} h later = grind (arith, Reaches-before, Stops-before, h)

-- two steps and what they give are one part
pub told_then : {A B C : Type 0} (f : A × B → C) (first : Part A) (second : A → Part B) (bytes : List ℕ)
    → told f (then first second) bytes ≡ (first bytes >>= λ x. second x.0 x.1 >>= λ y. Ok (f (x.0, y.0), y.1))
told_then {A} {B} {C} f first second bytes = grind arith

pub told_second : {A B : Type 0} (first : Part A) (second : A → Part B) (bytes : List ℕ) → told (λ p. p.1) (then first second) bytes ≡ (first bytes >>= λ x. second x.0 x.1)
told_second {A} {B} first second bytes = grind arith

-- nothing to read
pub nothing-part : {A : Type 0} (value : A) → IsPart (λ bytes. ok_of A value bytes) (λ a. a ≡ value) (λ _. []) [] Done
nothing-part {A} value = grind arith

-- a part of one kind of line so many times
pub repeated-part : {A : Type 0} {part : Part A} {V : A → Type 0} {l : A → List (List ℕ)} {kind : Symbol} → IsPart part V l (kind ∷ []) Done
    → (n : ℕ) → IsPart (repeated n part) (λ xs. (length xs ≡ n) × All V xs) (flat_map l) (replicate n kind) Done
unfolding repeated
repeated-part {A} {part} {V} {l} {kind} h zero = record {
  takes = λ bytes x e. subst (λ (x : List A × List ℕ). ((length x.0 ≡ 0) × All V x.0) × (bytes ≡ joined (flat_map l x.0) ++ x.1)) (same_Ok ([], bytes) x e) ((refl, All-nil V), refl);
  again = λ xs rest v. none xs rest v.0;
  runs = λ xs v. no_lines xs v.0;
  stops = λ bytes rest e. absurd cc;
}
  where
    none : (xs : List A) (rest : List ℕ) → length xs ≡ 0 → ok_of (List A) [] (joined (flat_map l xs) ++ rest) ≡ ok_of (List A) xs rest
    none [] rest e = refl
    none (x ∷ xs) rest e = absurd (omega arith)

    no_lines : (xs : List A) → length xs ≡ 0 → Reaches [] (flat_map l xs) []
    no_lines [] e = refl
    no_lines (x ∷ xs) e = absurd (omega arith)
repeated-part {A} {part} {V} {l} {kind} h (suc n) =
    part-as (told-part (then-part (before-part h (replicate n kind)) (λ a v. repeated-part h n)) grown (λ xs. (length xs ≡ suc n) × All V xs) (flat_map l) Done
    (record { there = λ p v. ((ap suc v.1.0, All-cons V p.0 p.1 v.0 v.1.1), refl, refl); back = back }))
    (told_then grown part (λ _. repeated n part))
  where
    grown : A × List A → List A
    grown p = p.0 ∷ p.1

    back : (xs : List A) → (length xs ≡ suc n) × All V xs → (p : A × List A) × (V p.0 × ((length p.1 ≡ n) × All V p.1)) × (grown p ≡ xs)
    back [] w = absurd (omega arith)
    back (x ∷ xs) w = ((x, xs), (All-head V x xs w.1, (omega arith, All-tail V x xs w.1)), refl)

pub map_as_flat : {A B : Type 0} (f : A → B) (xs : List A) → flat_map (λ x. f x ∷ []) xs ≡ map f xs
map_as_flat f [] = refl
map_as_flat f (x ∷ xs) = ap (λ rest. f x ∷ rest) (map_as_flat f xs)
