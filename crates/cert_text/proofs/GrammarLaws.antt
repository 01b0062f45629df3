-- What the grammar of lines says of whole texts: the reader's answer, the first line at fault, and that bytes have one.
use Rattle.std.proofs.Common.{◌≡◌, ℕ, ◌≤◌, List, [], ◌++◌, length, Ok, Err, sym, ap, ◌∙◌, arith, suc, ◌+◌, Bool, true, false, ◌∷◌, All, Option, Some, None, ℤ, pos, refl, cond, nat_eq, ◌≢◌, zero, subst, append-nil, ⊎_elim, replicate, Result, append_assoc, inl, inr, ◌⊎◌, get_or, drop, length-append, take_at, codes}
use Rattle.outside.specs.Lines.{joined, spaced, line, words_of, list_line}
use Rattle.dual_model.specs.Prelude.{Certificate, Bound, Ray, Empty}
use Rattle.table_list.specs.Changes.{Table, Change, OfDemand, OfReserve, OfRamps, changed}
use Rattle.cert_text.specs.CertificateText.{Version, version_number, change_line, Cell, RampRow, Listing, listing_of, certificate_lines, certificate_text, claim_line, cell_text, TreeNode, LeafNode, SplitNode, node_line}
use Rattle.cert_text.specs.TextConditions.{HasText}
use Rattle.cert_text.specs.inside.Parts.{certificate_part}
use Rattle.cert_text.proofs.PartSteps.{same_Ok, Stops, Done}
use Rattle.cert_text.proofs.PartLaws.{certificate-part, certificate_whole, certificate_again, owed_is_tree, prices_as, IsListed, certificate_listed}
use Rattle.std.specs.List.{AllByRecursion, list_any}
use Rattle.std.proofs.lemmas.Bool.{ne_eqb, cases_Bool, cases_eq, eq-eqb, false≢true}
use Rattle.std.proofs.lemmas.List.Elements.{All-head, All-tail, All-weaker, Contains-append_right}
use Rattle.std.proofs.lemmas.List.Sums.{sum_by-append}
use Rattle.uc_model.specs.Decimal.{whole_text, signed_text}
use Rattle.uc_model.specs.Money.{money_text}
use Rattle.uc_model.proofs.DecimalText.{whole_text_bytes, signed_text_bytes}
use Rattle.uc_model.proofs.MoneyText.{money_text_bytes}
use Rattle.outside.proofs.Joining.{joined-cons}
use Rattle.cert_text.specs.Grammar.{Symbol, Head, Size, Claim, Plan, Schedule, ThermalRow, RenewableRow, Shed, Short, Scale, Pi, Mu, Ramps, Ramp, Next, Update, Node, End, Ahead, tables_from, changes_from, scaled, with_ramp, rescaled, Produces, Reaches, ScheduleHead, schedule_line, PlanLine, Priced, Unpriced, plan_line, behind_plan, Sizes, AreSizes, after_size, shortage_rows, schedule_rows, ramp_rows, children, CertKind, HasLineFeed, IsWholeLine, IsFormAt, IsCutAt, IsFaultOf, MayStand, IsKindAt}
use Rattle.cert_text.specs.inside.LineCount.{line_feeds, line_number, stop_kind}
use Rattle.cert_text.specs.inside.Forms.{Form}
use Rattle.cert_text.proofs.FormLaws.{IsForm, Anything, version-form, size-form, claim-form, thermal-form, powers-form, scale-form, ramp_count-form, end-form}
use Rattle.cert_text.proofs.PlanForms.{schedule-form, plan-form}
use Rattle.cert_text.proofs.TableForms.{ramp-form, next-form, change-form, node-form}
use Rattle.cert_text.specs.declared.cert.CertFault.TheVariants as faults
use Rattle.cert_text.specs.declared.cert.CertKind.TheVariants as kinds

pub rest_shorter : (bytes rest : List ℕ) (version : Version) (c : Listing) → certificate_part bytes ≡ Ok ((version, c), rest) → length rest ≤ length bytes
rest_shorter bytes rest version c e =
    let parts = (certificate-part.takes bytes ((version, c), rest) e).1 in
    omega (arith, ap length parts, length-append (joined (certificate_lines version c)) rest)

pub stop_shorter : (bytes rest : List ℕ) → certificate_part bytes ≡ Err rest → length rest ≤ length bytes
stop_shorter bytes rest e =
    let h = certificate-part.stops bytes rest e in
    omega (arith, ap length h.parts, length-append (joined h.lines) rest)

-- a certificate's text is read as its listing and its version, and as nothing else
pub read_as : (bytes rest : List ℕ) (version : Version) (c : Listing) → certificate_part bytes ≡ Ok ((version, c), rest)
    → (another : Version) (certificate : Certificate) → HasText another (listing_of certificate) → bytes ≡ certificate_text another certificate
    → (c ≡ listing_of certificate) × (version ≡ another) × (rest ≡ [])
read_as bytes rest version c e another certificate h text = grind (arith, same_Ok, certificate_whole, e, h, text)

pub no_stop : (bytes rest : List ℕ) → certificate_part bytes ≡ Err rest → (version : Version) (certificate : Certificate) → HasText version (listing_of certificate)
    → bytes ≡ certificate_text version certificate → ⊥
no_stop bytes rest e version certificate h text = grind (arith, certificate_whole, e, h, text)

-- no text is a front of another one, and texts that are one have one listing and one version
pub texts_apart : (version another : Version) (c d : Certificate) (more : List ℕ) → HasText version (listing_of c) → HasText another (listing_of d)
    → certificate_text version c ++ more ≡ certificate_text another d → (listing_of c ≡ listing_of d) × (version ≡ another) × (more ≡ [])
texts_apart version another c d more h k e =
    read_as (certificate_text version c ++ more) more version (listing_of c) (certificate_again version c more h) another d k e

-- ---- Each line that may stand has one line feed, at its end; so lines are counted by their line feeds.
pub line_feeds-append : (xs ys : List ℕ) → line_feeds (xs ++ ys) ≡ line_feeds xs + line_feeds ys
line_feeds-append xs ys = sum_by-append (λ c. cond (nat_eq c 10) 1 0) xs ys

-- ---- words have none
no_feed : (text : List ℕ) → All (λ c. (45 ≤ c) × (c ≤ 57)) text → line_feeds text ≡ 0
no_feed [] all = refl
no_feed (c ∷ text) all =
    let here = All-head (λ c. (45 ≤ c) × (c ≤ 57)) c text all in
    let more = no_feed text (All-tail (λ c. (45 ≤ c) × (c ≤ 57)) c text all) in
    line_feeds-append (c ∷ []) text ∙ rw (ne_eqb c 10 (λ e. omega arith), more) refl

whole_feeds : (n : ℕ) → line_feeds (whole_text n) ≡ 0
whole_feeds n = no_feed (whole_text n) (All-weaker (λ c. (48 ≤ c) × (c ≤ 57)) (λ c. (45 ≤ c) × (c ≤ 57)) (λ c h. omega arith) (whole_text n) (whole_text_bytes n))

signed_feeds : (z : ℤ) → line_feeds (signed_text z) ≡ 0
signed_feeds z = no_feed (signed_text z) (signed_text_bytes z)

money_feeds : (z : ℤ) → line_feeds (money_text z) ≡ 0
money_feeds z = no_feed (money_text z) (money_text_bytes z)

cell_feeds : (cell : Cell) → line_feeds (cell_text cell) ≡ 0
cell_feeds cell = grind (arith, line_feeds-append, signed_feeds, whole_feeds)

-- ---- lines have one
abbrev HasNone : List ℕ → Type 0
HasNone text = line_feeds text ≡ 0

-- a line feed, and before it none
record IsOne (text : List ℕ) : Type 0 where
  front : List ℕ
  ends : text ≡ front ++ 10 ∷ []
  none : line_feeds front ≡ 0

one_feed : (text : List ℕ) → IsOne text → line_feeds text ≡ 1
one_feed text h = ap line_feeds h.ends ∙ line_feeds-append h.front (10 ∷ []) ∙ omega (arith, h.none)

spaced_one : (words : List (List ℕ)) → AllByRecursion HasNone words → IsOne (spaced words (10 ∷ []))
spaced_one [] none = record { front = []; ends = refl; none = refl }
spaced_one (word ∷ words) none =
    let behind = spaced_one words none.1 in
    record {
      front = 32 ∷ (word ++ behind.front);
      ends = ap (λ rest. 32 ∷ rest) (ap (λ rest. word ++ rest) behind.ends ∙ sym (append_assoc word behind.front (10 ∷ [])));
      none = line_feeds-append (32 ∷ []) (word ++ behind.front) ∙ omega (arith, line_feeds-append word behind.front, none.0, behind.none);
    }

line_one : (first : List ℕ) (words : List (List ℕ)) → HasNone first → AllByRecursion HasNone words → IsOne (line first words)
unfolding line
line_one first words none all =
    let behind = spaced_one words all in
    record {
      front = first ++ behind.front;
      ends = ap (λ rest. first ++ rest) behind.ends ∙ sym (append_assoc first behind.front (10 ∷ []));
      none = line_feeds-append first behind.front ∙ omega (arith, none, behind.none);
    }

words_feeds : {A : Type 0} (word : A → List ℕ) → ((a : A) → HasNone (word a)) → (xs : List A) → line_feeds (words_of word xs) ≡ 0
words_feeds word none [] = refl
words_feeds word none (x ∷ xs) =
    line_feeds-append (32 ∷ word x) (words_of word xs)
    ∙ omega (arith, line_feeds-append (32 ∷ []) (word x), none x, words_feeds word none xs)

list_line_one : {A : Type 0} (first : List ℕ) (word : A → List ℕ) → HasNone first → ((a : A) → HasNone (word a)) → (xs : List A) → IsOne (list_line first word xs)
unfolding list_line
list_line_one first word none each xs = record {
  front = first ++ words_of word xs;
  ends = sym (append_assoc first (words_of word xs) (10 ∷ []));
  none = line_feeds-append first (words_of word xs) ∙ omega (arith, none, words_feeds word each xs);
}

claim_one : (bound : Option ℤ) → IsOne (claim_line bound)
claim_one None = line_one (codes "claim infeasible") [] refl tt
claim_one (Some z) = line_one (codes "claim bound") (money_text z ∷ []) refl (money_feeds z, tt)

schedule_one : (head : Option ScheduleHead) → IsOne (schedule_line head)
schedule_one None = line_one (codes "schedule none") [] refl tt
schedule_one (Some head) = grind (arith, nat_eq, line_one, money_feeds, whole_feeds)

plan_one : (first : PlanLine) → IsOne (plan_line first)
plan_one (Priced a b) = line_one (codes "penalty") (whole_text a ∷ whole_text b ∷ []) refl (whole_feeds a, (whole_feeds b, tt))
plan_one (Unpriced head) = schedule_one head

node_one : (node : TreeNode) → IsOne (node_line node)
node_one (LeafNode (Bound false n)) = line_one (codes "bound") (whole_text (suc n) ∷ []) refl (whole_feeds (suc n), tt)
node_one (LeafNode (Ray false n)) = line_one (codes "ray") (whole_text (suc n) ∷ []) refl (whole_feeds (suc n), tt)
node_one (LeafNode (Empty false n)) = line_one (codes "empty") (whole_text (suc n) ∷ []) refl (whole_feeds (suc n), tt)
node_one (LeafNode (Bound true n)) = line_one (codes "exact") (whole_text (suc n) ∷ []) refl (whole_feeds (suc n), tt)
node_one (LeafNode (Ray true n)) = line_one (codes "exact-ray") (whole_text (suc n) ∷ []) refl (whole_feeds (suc n), tt)
node_one (LeafNode (Empty true n)) = line_one (codes "exact-empty") (whole_text (suc n) ∷ []) refl (whole_feeds (suc n), tt)
node_one (SplitNode g t) = line_one (codes "split") (whole_text (suc g) ∷ whole_text (suc t) ∷ []) refl (whole_feeds (suc g), (whole_feeds (suc t), tt))

row_one : (first : List ℕ) → HasNone first → (row : RampRow)
    → IsOne (line first (whole_text (suc row.g) ∷ whole_text (suc row.t) ∷ signed_text row.up ∷ signed_text row.down ∷ []))
row_one first none row = grind (arith, line_one, whole_feeds, signed_feeds, none)

price_one : (first : List ℕ) → HasNone first → (t : ℕ) (price : ℤ) → IsOne (line first (whole_text (suc t) ∷ signed_text price ∷ []))
price_one first none t price = line_one first (whole_text (suc t) ∷ signed_text price ∷ []) none (whole_feeds (suc t), (signed_feeds price, tt))

change_one : (change : Change) → IsOne (change_line change)
change_one (OfDemand t price) = price_one (codes "p") refl t price
change_one (OfReserve t price) = price_one (codes "m") refl t price
change_one (OfRamps row) = row_one (codes "r") refl row

produced_one : (kind : Symbol) (text : List ℕ) (next : List Symbol) → Produces kind text next → IsOne text
produced_one Head text next p = subst IsOne (sym p.1) (line_one (codes "uc-certificate") (whole_text (version_number p.0) ∷ []) refl (whole_feeds (version_number p.0), tt))
produced_one (Size version) text next p = grind (arith, line_one, whole_feeds, version, p)
produced_one Claim text next p = subst IsOne (sym p.2) (claim_one p.0)
produced_one (Plan size) text next p = subst IsOne (sym p.2) (plan_one p.0)
produced_one (Schedule size) text next p = subst IsOne (sym p.2) (schedule_one p.0)
produced_one (ThermalRow size) text next p = subst IsOne (sym p.2) (list_line_one (codes "t") cell_text refl cell_feeds p.0)
produced_one (RenewableRow size) text next p = subst IsOne (sym p.2) (list_line_one (codes "w") signed_text refl signed_feeds p.0)
produced_one (Shed size) text next p = subst IsOne (sym p.2) (list_line_one (codes "d") signed_text refl signed_feeds p.0)
produced_one (Short size) text next p = subst IsOne (sym p.2) (list_line_one (codes "e") signed_text refl signed_feeds p.0)
produced_one (Scale ahead) text next p = subst IsOne (sym p.2) (line_one (codes "table") (signed_text (pos p.0) ∷ []) refl (signed_feeds (pos p.0), tt))
produced_one (Pi ahead table) text next p = subst IsOne (sym p.2) (list_line_one (codes "pi") signed_text refl signed_feeds p.0)
produced_one (Mu ahead table) text next p = subst IsOne (sym p.2) (list_line_one (codes "mu") signed_text refl signed_feeds p.0)
produced_one (Ramps ahead table) text next p = subst IsOne (sym p.2) (line_one (codes "ramps") (whole_text p.0 ∷ []) refl (whole_feeds p.0, tt))
produced_one (Ramp ahead table more before) text next p = subst IsOne (sym p.2) (row_one (codes "ramp") refl p.0)
produced_one (Next ahead before) text next p = grind (arith, line_one, signed_feeds, whole_feeds, ahead, before, p)
produced_one (Update ahead table more last) text next p = subst IsOne (sym p.2) (change_one p.0)
produced_one (Node size) text next p = subst IsOne (sym p.2) (node_one p.0)
produced_one End text next p = subst IsOne (sym p.0) (line_one (codes "end") [] refl tt)

-- as many line feeds as lines
pub reached_feeds : (kinds : List Symbol) (texts : List (List ℕ)) (left : List Symbol) → Reaches kinds texts left → line_feeds (joined texts) ≡ length texts
reached_feeds kinds [] left e = refl
reached_feeds [] (text ∷ texts) left e = absurd e
reached_feeds (kind ∷ kinds) (text ∷ texts) left e =
    ap line_feeds (joined-cons text texts) ∙ line_feeds-append text (joined texts)
    ∙ omega (arith, one_feed text (produced_one kind text e.0 e.1), reached_feeds (e.0 ++ kinds) texts left e.2)

-- ---- Where reading stops, the line that begins there is the first at fault.
-- ---- the first line of bytes
pub later_feed : (b : ℕ) (bytes : List ℕ) → (b ≡ 10 → ⊥) → HasLineFeed (b ∷ bytes) → HasLineFeed bytes
later_feed b bytes other (zero, lt, same) = absurd (other same)
later_feed b bytes other (suc k, lt, same) = (k, omega arith, same)

no_line_feed : (bytes : List ℕ) → list_any (λ c. nat_eq c 10) bytes ≡ false → ¬ HasLineFeed bytes
no_line_feed [] e (k, lt, same) = omega arith
no_line_feed (b ∷ bytes) e has = ⊎_elim
    (λ (feed : b ≡ 10). false≢true (sym e ∙ rw (eq-eqb b 10 feed) refl))
    (λ (other : b ≡ 10 → ⊥). no_line_feed bytes (rw (ne_eqb b 10 other) at e) (later_feed b bytes other has))
    (cases_eq b 10)

record Begins (bytes : List ℕ) : Type 0 where
  text : List ℕ
  more : List ℕ
  parts : bytes ≡ text ++ more
  whole : IsWholeLine text

first_line : (bytes : List ℕ) → list_any (λ c. nat_eq c 10) bytes ≡ true → Begins bytes
first_line [] e = absurd (false≢true e)
first_line (b ∷ bytes) e = ⊎_elim
    (λ (feed : b ≡ 10). record { text = 10 ∷ []; more = bytes; parts = ap (λ b. b ∷ bytes) feed; whole = record { front = []; ends = refl; first = no_line_feed [] refl } })
    (λ (other : b ≡ 10 → ⊥).
    let later = first_line bytes (rw (ne_eqb b 10 other) at e) in
    record {
      text = b ∷ later.text;
      more = later.more;
      parts = ap (λ bytes. b ∷ bytes) later.parts;
      whole = record { front = b ∷ later.whole.front; ends = ap (λ bytes. b ∷ bytes) later.whole.ends; first = λ has. later.whole.first (later_feed b later.whole.front other has) };
    })
    (cases_eq b 10)

-- ---- the number of a line
line_after : (lines : List (List ℕ)) (bytes rest : List ℕ) (left : List Symbol) → Reaches (Head ∷ []) lines left → bytes ≡ joined lines ++ rest → line_number bytes rest ≡ suc (length lines)
line_after lines bytes rest left run parts = grind (arith, length-append, take_at, reached_feeds, run, parts)

-- ---- faults
pub stop_is_fault : (bytes rest : List ℕ) → certificate_part bytes ≡ Err rest → IsFaultOf bytes (faults.At (line_number bytes rest) (stop_kind rest))
stop_is_fault bytes rest e =
    let h = certificate-part.stops bytes rest e in
    let number = line_after h.lines bytes rest (h.kind ∷ h.others) h.run h.parts in
    ⊎_elim
    (λ (has : list_any (λ c. nat_eq c 10) rest ≡ true).
    let line = first_line rest has in
    let form : IsFormAt bytes (line_number bytes rest) = record {
      kind = h.kind;
      text = line.text;
      more = line.more;
      comes = record { before = h.lines; number = number; parts = h.parts ∙ ap (λ rest. joined h.lines ++ rest) line.parts; others = h.others; stand = h.run };
      whole = line.whole;
      barred = λ p. h.barred line.text line.more p.0 p.1 line.parts;
    } in
    rw has form)
    (λ (none : list_any (λ c. nat_eq c 10) rest ≡ false).
    let cut : IsCutAt bytes (line_number bytes rest) = record {
      kind = h.kind;
      rest = rest;
      comes = record { before = h.lines; number = number; parts = h.parts; others = h.others; stand = h.run };
      open_ended = no_line_feed rest none;
    } in
    rw none cut)
    (cases_Bool (list_any (λ c. nat_eq c 10) rest))

pub tail_is_fault : (bytes rest : List ℕ) (version : Version) (c : Listing) → certificate_part bytes ≡ Ok ((version, c), rest) → rest ≢ []
    → IsFaultOf bytes (faults.At (line_number bytes rest) kinds.Tail)
tail_is_fault bytes rest version c e some =
    let one = certificate-part.takes bytes ((version, c), rest) e in
    let run = certificate-part.runs (version, c) one.0 in
    record {
      before = certificate_lines version c;
      number = line_after (certificate_lines version c) bytes rest [] run one.1;
      rest = rest;
      parts = one.1;
      stand = run;
      some = some;
    }

-- ---- certificates
-- what was read is a certificate's listing
pub record IsRead (bytes : List ℕ) (c : Listing) : Type 0 where
  pub version : Version
  pub certificate : Certificate
  pub listed : listing_of certificate ≡ c
  pub conditions : HasText version (listing_of certificate)
  pub text : bytes ≡ certificate_text version certificate

pub whole_is_read : (bytes rest : List ℕ) (version : Version) (c : Listing) → certificate_part bytes ≡ Ok ((version, c), rest) → rest ≡ [] → IsRead bytes c
unfolding certificate_text
whole_is_read bytes rest version c e none =
    let one = certificate-part.takes bytes ((version, c), rest) e in
    let tree = owed_is_tree c.nodes one.0.tree in
    let certificate : Certificate = record { periods = c.periods; thermal = c.thermal; renewable = c.renewable; a = c.a; b = c.b; bound = c.bound; schedule = c.schedule; tables = c.tables; tree = tree.0 } in
    let listed : listing_of certificate ≡ c = (λ i. record { periods = c.periods; thermal = c.thermal; renewable = c.renewable; a = c.a; b = c.b; bound = c.bound; schedule = c.schedule; tables = c.tables; nodes = tree.1 i }) in
    record {
      version = version;
      certificate = certificate;
      listed = listed;
      conditions = subst (HasText version) (sym listed) one.0.text;
      text = one.1 ∙ ap (λ rest. joined (certificate_lines version c) ++ rest) none ∙ append-nil (joined (certificate_lines version c)) ∙ ap (λ c. joined (certificate_lines version c)) (sym listed);
    }

-- ---- The grammar goes one way: bytes have at most one line of a kind at their front. So lines that may stand meet the reader's, and
-- whole ones are those of a certificate.
-- ---- one line of a kind
-- what stands for a line: a value, and what has to come behind it
abbrev Stands : {A : Type 0} → (A → Type 0) → (A → List ℕ) → (A → List Symbol) → List ℕ → List Symbol → Type 0
Stands {A} V t n text next = (a : A) × V a × (text ≡ t a) × (next ≡ n a)

record Agree (text other : List ℕ) (next another : List Symbol) (x y : List ℕ) : Type 0 where
  text_same : text ≡ other
  next_same : next ≡ another
  rest_same : x ≡ y

agree : {A : Type 0} {form : Form A} {V : A → Type 0} {t : A → List ℕ} → IsForm form V t Anything → (n : A → List Symbol) (text other : List ℕ) (next another : List Symbol) (x y : List ℕ)
    → Stands V t n text next → Stands V t n other another → text ++ x ≡ other ++ y → Agree text other next another x y
agree {A} {form} {V} {t} h n text other next another x y p q e = grind (arith, h, p, q, e)

-- the size that a kind speaks of is one
abbrev pub IsLawfulKind : Symbol → Type 0
IsLawfulKind (Plan size) = AreSizes size
IsLawfulKind (Schedule size) = AreSizes size
IsLawfulKind (ThermalRow size) = AreSizes size
IsLawfulKind (RenewableRow size) = AreSizes size
IsLawfulKind (Shed size) = AreSizes size
IsLawfulKind (Short size) = AreSizes size
IsLawfulKind (Scale ahead) = AreSizes ahead.size
IsLawfulKind (Pi ahead table) = AreSizes ahead.size
IsLawfulKind (Mu ahead table) = AreSizes ahead.size
IsLawfulKind (Ramps ahead table) = AreSizes ahead.size
IsLawfulKind (Ramp ahead table more before) = AreSizes ahead.size
IsLawfulKind (Next ahead before) = AreSizes ahead.size
IsLawfulKind (Update ahead table more last) = AreSizes ahead.size
IsLawfulKind (Node size) = AreSizes size
IsLawfulKind _ = Unit {0}

one_line : (kind : Symbol) (text other : List ℕ) (next another : List Symbol) (x y : List ℕ) → IsLawfulKind kind → Produces kind text next → Produces kind other another
    → text ++ x ≡ other ++ y → Agree text other next another x y
one_line Head text other next another x y h p q e = grind (arith, agree, version-form, Head, h, p, q, e)
one_line (Size version) text other next another x y h p q e = agree (size-form version) after_size text other next another x y p q e
one_line Claim text other next another x y h p q e = agree claim-form Done text other next another x y p q e
one_line (Plan size) text other next another x y h p q e = agree (plan-form size.version) (behind_plan size) text other next another x y p q e
one_line (Schedule size) text other next another x y h p q e = agree (schedule-form size.version) (schedule_rows size true) text other next another x y p q e
one_line (ThermalRow size) text other next another x y h p q e = agree (thermal-form size.periods) Done text other next another x y p q e
one_line (RenewableRow size) text other next another x y h p q e = agree (powers-form (codes "w") size.periods) Done text other next another x y p q e
one_line (Shed size) text other next another x y h p q e = agree (powers-form (codes "d") size.periods) Done text other next another x y p q e
one_line (Short size) text other next another x y h p q e = agree (powers-form (codes "e") size.periods) Done text other next another x y p q e
one_line (Scale ahead) text other next another x y h p q e = agree scale-form (λ k. Pi ahead (scaled ahead.size k) ∷ []) text other next another x y p q e
one_line (Pi ahead table) text other next another x y h p q e =
    agree (prices_as (codes "pi") ahead.size) (λ prices. Mu ahead (record table { pi = prices }) ∷ []) text other next another x y p q e
one_line (Mu ahead table) text other next another x y h p q e =
    agree (prices_as (codes "mu") ahead.size) (λ prices. Ramps ahead (record table { mu = prices }) ∷ []) text other next another x y p q e
one_line (Ramps ahead table) text other next another x y h p q e = agree ramp_count-form (λ count. ramp_rows ahead table count None) text other next another x y p q e
one_line (Ramp ahead table more before) text other next another x y h p q e =
    agree (ramp-form ahead.size h before) (λ row. ramp_rows ahead (with_ramp table row) more (Some row)) text other next another x y p q e
one_line (Next ahead before) text other next another x y h p q e = grind (arith, agree, next-form, ahead, before, h, p, q, e)
one_line (Update ahead table more last) text other next another x y h p q e =
    agree (change-form ahead.size h table last) (λ change. changes_from ahead (changed table change) more (Some change)) text other next another x y p q e
one_line (Node size) text other next another x y h p q e = agree (node-form size h) (children size) text other next another x y p q e
one_line End text other next another x y h p q e = agree end-form Done text other next another x y (tt, tt, p.0, p.1) (tt, tt, q.0, q.1) e

-- ---- all kinds that are to come are lawful
abbrev pub AreLawful : List Symbol → Type 0
AreLawful kinds = AllByRecursion IsLawfulKind kinds

both_lawful : (kinds more : List Symbol) → AreLawful kinds → AreLawful more → AreLawful (kinds ++ more)
both_lawful [] more h k = k
both_lawful (kind ∷ kinds) more h k = (h.0, both_lawful kinds more h.1 k)

many_lawful : (n : ℕ) (kind : Symbol) → IsLawfulKind kind → AreLawful (replicate n kind)
many_lawful zero kind h = tt
many_lawful (suc n) kind h = (h, many_lawful n kind h)

tables_lawful : (size : Sizes) (n : ℕ) (before : Option Table) → AreSizes size → AreLawful (tables_from size n before)
tables_lawful size zero before h = tt
tables_lawful size (suc n) before h = grind (arith, h)

ramps_lawful : (ahead : Ahead) (table : Table) (n : ℕ) (before : Option RampRow) → AreSizes ahead.size → AreLawful (ramp_rows ahead table n before)
ramps_lawful ahead table zero before h = tables_lawful ahead.size ahead.tables (Some table) h
ramps_lawful ahead table (suc n) before h = (h, tt)

changes_lawful : (ahead : Ahead) (table : Table) (n : ℕ) (last : Option Change) → AreSizes ahead.size → AreLawful (changes_from ahead table n last)
changes_lawful ahead table zero last h = tables_lawful ahead.size ahead.tables (Some table) h
changes_lawful ahead table (suc n) last h = (h, tt)

shortages_lawful : (size : Sizes) (priced : Bool) → AreSizes size → AreLawful (shortage_rows size priced)
shortages_lawful size false h = tt
shortages_lawful size true h = (h, (h, tt))

rows_lawful : (size : Sizes) (priced : Bool) (head : Option ScheduleHead) → AreSizes size → AreLawful (schedule_rows size priced head)
rows_lawful size priced None h = tt
rows_lawful size priced (Some head) h = grind (arith, both_lawful, many_lawful, shortages_lawful, h)

pub next_lawful : (kind : Symbol) (text : List ℕ) (next : List Symbol) → IsLawfulKind kind → Produces kind text next → AreLawful next
next_lawful Head text next h p = subst AreLawful (sym p.2) (tt, tt)
next_lawful (Size version) text next h p = grind (arith, version, h, p)
next_lawful (Plan size) text next h p = grind (arith, rows_lawful, size, h, p)
next_lawful (Schedule size) text next h p = subst AreLawful (sym p.3) (rows_lawful size true p.0 h)
next_lawful (Scale ahead) text next h p = subst AreLawful (sym p.3) (h, tt)
next_lawful (Pi ahead table) text next h p = subst AreLawful (sym p.3) (h, tt)
next_lawful (Mu ahead table) text next h p = subst AreLawful (sym p.3) (h, tt)
next_lawful (Ramps ahead table) text next h p = subst AreLawful (sym p.3) (ramps_lawful ahead table p.0 None h)
next_lawful (Ramp ahead table more before) text next h p = subst AreLawful (sym p.3) (ramps_lawful ahead (with_ramp table p.0) more (Some p.0) h)
next_lawful (Next ahead before) text next h p = subst AreLawful (sym p.3) (changes_lawful ahead (rescaled before p.0.0) p.0.1 None h)
next_lawful (Update ahead table more last) text next h p = subst AreLawful (sym p.3) (changes_lawful ahead (changed table p.0) more (Some p.0) h)
next_lawful (Node size) text next h p = grind (arith, size, h, p)
next_lawful End text next h p = subst AreLawful (sym p.1) tt
next_lawful _ text next h p = subst AreLawful (sym p.3) tt

-- ---- runs over the same bytes
-- of two runs the second one goes on where the first ends
pub record GoesOn (lines : List (List ℕ)) (left : List Symbol) (x : List ℕ) (others : List (List ℕ)) (another : List Symbol) (y : List ℕ) : Type 0 where
  pub more : List (List ℕ)
  pub lines_are : others ≡ lines ++ more
  pub run : Reaches left more another
  pub rest : x ≡ joined more ++ y

one_further : (line other : List ℕ) (lines others : List (List ℕ)) (left another : List Symbol) (x y : List ℕ) → line ≡ other → GoesOn lines left x others another y → GoesOn (line ∷ lines) left x (other ∷ others) another y
one_further line other lines others left another x y same h = record { more = h.more; lines_are = (λ i. sym same i ∷ h.lines_are i); run = h.run; rest = h.rest }

pub runs_meet : (kinds : List Symbol) (lines others : List (List ℕ)) (left another : List Symbol) (x y : List ℕ) → AreLawful kinds → Reaches kinds lines left → Reaches kinds others another
    → joined lines ++ x ≡ joined others ++ y → GoesOn lines left x others another y ⊎ GoesOn others another y lines left x
runs_meet kinds [] others left another x y h p q e = grind (arith, h, p, q, e)
runs_meet kinds (line ∷ lines) [] left another x y h p q e =
    inr (record { more = line ∷ lines; lines_are = refl; run = subst (λ (kinds : List Symbol). Reaches kinds (line ∷ lines) left) q p; rest = sym e })
runs_meet [] (line ∷ lines) (other ∷ others) left another x y h p q e = absurd p
runs_meet (kind ∷ kinds) (line ∷ lines) (other ∷ others) left another x y h p q e =
    let first : line ++ (joined lines ++ x) ≡ other ++ (joined others ++ y) =
    sym (append_assoc line (joined lines) x) ∙ ap (λ text. text ++ x) (sym (joined-cons line lines)) ∙ e ∙ ap (λ text. text ++ y) (joined-cons other others) ∙ append_assoc other (joined others) y in
    let same = one_line kind line other p.0 q.0 (joined lines ++ x) (joined others ++ y) h.0 p.1 q.1 first in
    let behind : Reaches (p.0 ++ kinds) others another = subst (λ (next : List Symbol). Reaches (next ++ kinds) others another) (sym same.next_same) q.2 in
    ⊎_elim
    (λ (one : GoesOn lines left x others another y). inl (one_further line other lines others left another x y same.text_same one))
    (λ (two : GoesOn others another y lines left x). inr (one_further other line others lines another left y x (sym same.text_same) two))
    (runs_meet (p.0 ++ kinds) lines others left another x y (both_lawful p.0 kinds (next_lawful kind line p.0 h.0 p.1) h.1) p.2 behind same.rest_same)

-- ---- whole runs are those of certificates
nothing_behind : (more : List (List ℕ)) (left : List Symbol) → Reaches [] more left → (more ≡ []) × ([] ≡ left)
nothing_behind [] left e = (refl, e)
nothing_behind (text ∷ more) left e = absurd e

barred_run : (bytes rest : List ℕ) (h : Stops (Head ∷ []) bytes rest) (more : List (List ℕ)) → Reaches (h.kind ∷ h.others) more [] → rest ≡ joined more ++ [] → ⊥
barred_run bytes rest h [] e same = cc
barred_run bytes rest h (text ∷ more) e same = h.barred text (joined more ++ []) e.0 e.1 (same ∙ ap (λ bytes. bytes ++ []) (joined-cons text more) ∙ append_assoc text (joined more) [])

no_whole_stops : (lines : List (List ℕ)) (rest : List ℕ) → Reaches (Head ∷ []) lines [] → Stops (Head ∷ []) (joined lines) rest → ⊥
no_whole_stops lines rest run h = ⊎_elim
    (λ (one : GoesOn lines [] [] h.lines (h.kind ∷ h.others) rest). let none = (nothing_behind one.more (h.kind ∷ h.others) one.run).1 in cc)
    (λ (two : GoesOn h.lines (h.kind ∷ h.others) rest lines [] []). barred_run (joined lines) rest h two.more two.run two.rest)
    (runs_meet (Head ∷ []) lines h.lines [] (h.kind ∷ h.others) [] rest (tt, tt) run h.run (append-nil (joined lines) ∙ h.parts))

whole_lines : (lines others : List (List ℕ)) (rest : List ℕ) → Reaches (Head ∷ []) lines [] → Reaches (Head ∷ []) others [] → joined lines ≡ joined others ++ rest → lines ≡ others
whole_lines lines others rest run whole e = ⊎_elim
    (λ (one : GoesOn lines [] [] others [] rest). sym (one.lines_are ∙ ap (λ more. lines ++ more) (nothing_behind one.more [] one.run).0 ∙ append-nil lines))
    (λ (two : GoesOn others [] rest lines [] []). two.lines_are ∙ ap (λ more. others ++ more) (nothing_behind two.more [] two.run).0 ∙ append-nil others)
    (runs_meet (Head ∷ []) lines others [] [] [] rest (tt, tt) run whole (append-nil (joined lines) ∙ e))

listed_lines : (lines : List (List ℕ)) (version : Version) (c : Listing) (rest : List ℕ) → Reaches (Head ∷ []) lines [] → IsListed version c → joined lines ≡ joined (certificate_lines version c) ++ rest
    → (version : Version) × (certificate : Certificate) × HasText version (listing_of certificate) × (lines ≡ certificate_lines version (listing_of certificate))
listed_lines lines version c rest run listed e =
    let tree = owed_is_tree c.nodes listed.tree in
    let certificate : Certificate = record { periods = c.periods; thermal = c.thermal; renewable = c.renewable; a = c.a; b = c.b; bound = c.bound; schedule = c.schedule; tables = c.tables; tree = tree.0 } in
    let same : listing_of certificate ≡ c = (λ i. record { periods = c.periods; thermal = c.thermal; renewable = c.renewable; a = c.a; b = c.b; bound = c.bound; schedule = c.schedule; tables = c.tables; nodes = tree.1 i }) in (
      version,
      certificate,
      subst (HasText version) (sym same) listed.text,
      whole_lines lines (certificate_lines version c) rest run (certificate-part.runs (version, c) listed) e ∙ ap (certificate_lines version) (sym same),
    )

pub whole_run_is_certificate : (lines : List (List ℕ)) → Reaches (Head ∷ []) lines []
    → (version : Version) × (c : Certificate) × HasText version (listing_of c) × (lines ≡ certificate_lines version (listing_of c))
whole_run_is_certificate lines run = by_reading (certificate_part (joined lines)) refl
  where
    by_reading : (r : Result ((Version × Listing) × List ℕ) (List ℕ)) → certificate_part (joined lines) ≡ r
        → (version : Version) × (c : Certificate) × HasText version (listing_of c) × (lines ≡ certificate_lines version (listing_of c))
    by_reading (Ok x) e = let one = certificate-part.takes (joined lines) x e in listed_lines lines x.0.0 x.0.1 x.1 run one.0 one.1
    by_reading (Err rest) e = absurd (no_whole_stops lines rest run (certificate-part.stops (joined lines) rest e))

pub certificate_runs : (version : Version) (c : Certificate) → HasText version (listing_of c) → Reaches (Head ∷ []) (certificate_lines version (listing_of c)) []
certificate_runs version c h = certificate-part.runs (version, listing_of c) (certificate_listed version c h)

-- ---- Bytes have at most one fault: the lines before it may stand, so two faults have the same lines before them.
none_counted : (bytes : List ℕ) → line_feeds bytes ≡ 0 → HasLineFeed bytes → ⊥
none_counted [] e (k, lt, same) = omega arith
none_counted (b ∷ bytes) e has =
    let parts = line_feeds-append (b ∷ []) bytes in
    ⊎_elim
    (λ (feed : b ≡ 10). let one : line_feeds (b ∷ []) ≡ 1 = rw (eq-eqb b 10 feed) refl in omega (arith, parts, one, e))
    (λ (other : b ≡ 10 → ⊥). none_counted bytes (omega (arith, parts, e)) (later_feed b bytes other has))
    (cases_eq b 10)

produced_whole : (kind : Symbol) (text : List ℕ) (next : List Symbol) → Produces kind text next → IsWholeLine text
produced_whole kind text next p = let h = produced_one kind text next p in record { front = h.front; ends = h.ends; first = none_counted h.front h.none }

-- ---- the first line of bytes is one
one_later : (b : ℕ) (bytes : List ℕ) → HasLineFeed bytes → HasLineFeed (b ∷ bytes)
one_later b bytes (k, lt, same) = (suc k, omega arith, same)

same_front : (f g x y : List ℕ) → (HasLineFeed f → ⊥) → (HasLineFeed g → ⊥) → f ++ 10 ∷ x ≡ g ++ 10 ∷ y → f ≡ g
same_front [] [] x y h k e = refl
same_front [] (c ∷ g) x y h k e = absurd (k (0, omega arith, sym (ap (λ bytes. get_or bytes 0 0) e)))
same_front (b ∷ f) [] x y h k e = absurd (h (0, omega arith, ap (λ bytes. get_or bytes 0 0) e))
same_front (b ∷ f) (c ∷ g) x y h k e =
    let heads : b ≡ c = ap (λ bytes. get_or bytes 0 0) e in
    let tails = same_front f g x y (λ has. h (one_later b f has)) (λ has. k (one_later c g has)) (ap (drop 1) e) in
    (λ i. heads i ∷ tails i)

same_line : (text other x y : List ℕ) → IsWholeLine text → IsWholeLine other → text ++ x ≡ other ++ y → text ≡ other
same_line text other x y h k e = grind (arith, append_assoc, same_front, h, k, e)

-- ---- where a fault stands
abbrev IsPoint : CertKind → List Symbol → List ℕ → Type 0
IsPoint kinds.Form left rest = (kind : Symbol) × (others : List Symbol) × (text : List ℕ) × (more : List ℕ) × (left ≡ kind ∷ others) × (rest ≡ text ++ more) × IsWholeLine text × (MayStand kind text → ⊥)
IsPoint kinds.Cut left rest = (kind : Symbol) × (others : List Symbol) × (left ≡ kind ∷ others) × (HasLineFeed rest → ⊥)
IsPoint kinds.Tail left rest = (left ≡ []) × (rest ≢ [])

record FaultPoint (bytes : List ℕ) (line : ℕ) (kind : CertKind) : Type 0 where
  before : List (List ℕ)
  left : List Symbol
  rest : List ℕ
  number : line ≡ suc (length before)
  parts : bytes ≡ joined before ++ rest
  stand : Reaches (Head ∷ []) before left
  is : IsPoint kind left rest

point_of : (bytes : List ℕ) (line : ℕ) (kind : CertKind) → IsKindAt bytes line kind → FaultPoint bytes line kind
point_of bytes line kinds.Form h = grind (arith, kinds.Form, h)
point_of bytes line kinds.Cut h = grind (arith, kinds.Cut, h)
point_of bytes line kinds.Tail h = record { before = h.before; left = []; rest = h.rest; number = h.number; parts = h.parts; stand = h.stand; is = (refl, h.some) }

-- bytes that begin with a whole line have a line feed
line_has_feed : (text rest : List ℕ) → IsWholeLine text → HasLineFeed (text ++ rest)
line_has_feed text rest h =
    let same : text ++ rest ≡ h.front ++ 10 ∷ rest = ap (λ text. text ++ rest) h.ends ∙ append_assoc h.front (10 ∷ []) rest in
    subst HasLineFeed (sym same) (Contains-append_right h.front (10 ∷ rest) 10 (0, omega arith, refl))

-- no line may stand at a fault
no_line : (kind : CertKind) (left : List Symbol) (rest : List ℕ) → IsPoint kind left rest → (more : List (List ℕ)) (another : List Symbol) (y : List ℕ) → Reaches left more another → rest ≡ joined more ++ y → more ≡ []
no_line kind left rest h [] another y run e = refl
no_line kind [] rest h (text ∷ more) another y run e = absurd run
no_line kinds.Tail (symbol ∷ left) rest h (text ∷ more) another y run e = absurd (let f = h.0 in cc)
no_line kinds.Cut (symbol ∷ left) rest h (text ∷ more) another y run e =
    absurd (h.3 (subst HasLineFeed (sym (e ∙ ap (λ bytes. bytes ++ y) (joined-cons text more) ∙ append_assoc text (joined more) y)) (line_has_feed text (joined more ++ y) (produced_whole symbol text run.0 run.1))))
no_line kinds.Form (symbol ∷ left) rest h (text ∷ more) another y run e =
    let same = same_line h.2 text h.3 (joined more ++ y) h.6 (produced_whole symbol text run.0 run.1) (sym h.5 ∙ e ∙ ap (λ bytes. bytes ++ y) (joined-cons text more) ∙ append_assoc text (joined more) y) in
    let kind_same : symbol ≡ h.0 = ap (head_or symbol) h.4 in
    absurd (h.7 (run.0, subst (λ (kind : Symbol). Produces kind h.2 run.0) kind_same (subst (λ (text : List ℕ). Produces symbol text run.0) (sym same) run.1)))
  where
    head_or : Symbol → List Symbol → Symbol
    head_or symbol [] = symbol
    head_or symbol (first ∷ others) = first

-- and at one place there is one kind
one_kind : (kind another : CertKind) (left : List Symbol) (rest : List ℕ) → IsPoint kind left rest → IsPoint another left rest → kind ≡ another
one_kind kinds.Form kinds.Cut left rest h k = absurd (k.3 (subst HasLineFeed (sym h.5) (line_has_feed h.2 h.3 h.6)))
one_kind kinds.Form kinds.Tail left rest h k = absurd (let e = sym h.4 ∙ k.0 in cc)
one_kind kinds.Cut kinds.Form left rest h k = absurd (h.3 (subst HasLineFeed (sym k.5) (line_has_feed k.2 k.3 k.6)))
one_kind kinds.Cut kinds.Tail left rest h k = absurd (let e = sym h.2 ∙ k.0 in cc)
one_kind kinds.Tail kinds.Form left rest h k = absurd (let e = sym k.4 ∙ h.0 in cc)
one_kind kinds.Tail kinds.Cut left rest h k = absurd (let e = sym k.2 ∙ h.0 in cc)
one_kind _ _ left rest h k = refl

-- the first goes as far as the second
as_far : (bytes : List ℕ) (line other : ℕ) (kind another : CertKind) (p : FaultPoint bytes line kind) (q : FaultPoint bytes other another)
    → GoesOn p.before p.left p.rest q.before q.left q.rest → (line ≡ other) × (kind ≡ another)
as_far bytes line other kind another p q h = grind (arith, no_line, append-nil, one_kind, h)

pub one_fault : (bytes : List ℕ) (line other : ℕ) (kind another : CertKind) → IsKindAt bytes line kind → IsKindAt bytes other another → (line ≡ other) × (kind ≡ another)
one_fault bytes line other kind another h k =
    let p = point_of bytes line kind h in
    let q = point_of bytes other another k in
    ⊎_elim
    (λ (one : GoesOn p.before p.left p.rest q.before q.left q.rest). as_far bytes line other kind another p q one)
    (λ (two : GoesOn q.before q.left q.rest p.before p.left p.rest). let same = as_far bytes other line another kind q p two in (sym same.0, sym same.1))
    (runs_meet (Head ∷ []) p.before q.before p.left q.left p.rest q.rest (tt, tt) p.stand q.stand (sym p.parts ∙ q.parts))
