-- Reading parts of a certificate, of one or more lines each: the value of a part and the bytes behind it, or the bytes from
-- the first line on that may not stand there.
use Rattle.std.specs.Prelude.{◌≡◌, ℕ, zero, suc, Bool, true, false, List, [], ◌∷◌, length, Option, Some, None, Result, Ok, Err, ℤ, pos, codes, replicate}
use Rattle.std.specs.Option.{ok_or, option_map}
use Rattle.dual_model.specs.Prelude.{WrittenSchedule}
use Rattle.table_list.specs.Changes.{Change, changed, all_changed}
use Rattle.cert_text.specs.CertificateText.{Version, told_from, Cell, Printed, RampRow, Table, Listing, TreeNode, LeafNode, SplitNode}
use Rattle.cert_text.specs.Grammar.{Sizes, ScheduleHead, PlanLine, Priced, Unpriced, IsRampAfter, IsChangeAfter, rescaled}
pub use Rattle.cert_text.specs.declared.reader.stop.Stop.{Stop}
use Rattle.cert_text.specs.declared.reader.stop.Stop.TheVariants as stops
use Rattle.cert_text.specs.inside.Forms.{Form, signed_at, version_at, size_at, claim_at, schedule_at, plan_at, cell_at, row_at, scale_at, ramp_count_at, ramp_at, next_at, change_at, node_at, end_at}
use Rattle.cert_text.specs.declared.reader.sizes.Size.{Size}
use Rattle.cert_text.specs.declared.reader.lines.Head.{Head}
use Rattle.cert_text.specs.declared.reader.lines.First.{First}
use Rattle.cert_text.specs.declared.reader.lines.First.TheVariants as firsts

infixl 10 ◌>>=◌
abbrev pub ◌>>=◌ : {A B : Type 0} → Result A (List ℕ) → (A → Result B (List ℕ)) → Result B (List ℕ)
(Ok x) >>= f = f x
(Err rest) >>= f = Err rest

abbrev pub Part : Type 0 → Type 0
Part A = List ℕ → Result (A × List ℕ) (List ℕ)

-- what a function returned, seen by view, is what reading gives, unless memory was refused
abbrev pub StopsAs : {Y : Type 0} → Stop → Result Y (List ℕ) → Type 0
StopsAs stops.NoMemory read = Unit {0}
StopsAs (stops.At rest) read = read ≡ Err rest.now

abbrev pub GivesPart : {X Y : Type 0} → (X → Y) → Result X Stop → Result Y (List ℕ) → Type 0
GivesPart view (Ok x) read = read ≡ Ok (view x)
GivesPart view (Err stop) read = StopsAs stop read

-- ---- parts made of parts
abbrev pub line_of : {A : Type 0} → Form A → Part A
line_of form bytes = ok_or (form bytes) bytes

abbrev pub then : {A B : Type 0} → Part A → (A → Part B) → Part (A × B)
then first second bytes = first bytes >>= λ x. second x.0 x.1 >>= λ y. Ok ((x.0, y.0), y.1)

abbrev pub told : {A B : Type 0} → (A → B) → Part A → Part B
told f part bytes = part bytes >>= λ x. Ok (f x.0, x.1)

-- the part so many times
unfoldable pub repeated : {A : Type 0} → ℕ → Part A → Part (List A)
repeated zero part bytes = Ok ([], bytes)
repeated (suc n) part bytes = part bytes >>= λ x. repeated n part x.1 >>= λ xs. Ok (x.0 ∷ xs.0, xs.1)

-- ---- the schedule
abbrev pub rows_of : {A : Type 0} → List ℕ → ℕ → ℕ → Form A → Part (List (List A))
rows_of first count periods word = repeated count (line_of (row_at first periods word))

-- a power in watts for each period
abbrev pub powers_part : List ℕ → Sizes → Part (List ℤ)
powers_part word size = line_of (row_at word size.periods (signed_at 15))

-- what is missing: nothing where it has no price
abbrev pub nothing : ℕ → List ℤ
nothing periods = replicate periods (pos 0)

abbrev pub missing_part : List ℕ → Sizes → Bool → Part (List ℤ)
missing_part word size false bytes = Ok (nothing size.periods, bytes)
missing_part word size true bytes = powers_part word size bytes

unfoldable pub shortages_part : Sizes → Bool → Part (List ℤ × List ℤ)
shortages_part size priced bytes = then (missing_part (codes "d") size priced) (λ _. missing_part (codes "e") size priced) bytes

-- with the powers over a denominator
abbrev pub printed_of : ℕ → List (List Cell) × (List (List ℤ) × (List ℤ × List ℤ)) → Printed
printed_of denominator p = record { thermal = p.0; renewable = p.1.0; shed = p.1.1.0; short = p.1.1.1; denominator = denominator }

unfoldable pub printed_part : Sizes → Bool → ℕ → Part Printed
printed_part size priced denominator =
    told (printed_of denominator) (then (rows_of (codes "t") size.thermal size.periods cell_at)
    (λ _. then (rows_of (codes "w") size.renewable size.periods (signed_at 15)) (λ _. shortages_part size priced)))

abbrev pub written : ℤ → Printed → Option WrittenSchedule
written cost printed = Some (record { printed = printed; cost = cost })

abbrev pub rows_behind : Sizes → Bool → Option ScheduleHead → Part (Option WrittenSchedule)
rows_behind size priced None bytes = Ok (None, bytes)
rows_behind size priced (Some head) bytes = told (written head.cost) (printed_part size priced head.denominator) bytes

-- the schedule behind prices
unfoldable pub schedule_part : Sizes → Part (Option WrittenSchedule)
schedule_part size bytes = line_of (schedule_at size.version) bytes >>= λ x. rows_behind size true x.0 x.1

-- ---- prices, and the schedule
abbrev pub Planned : Type 0
Planned = (ℕ × ℕ) × Option WrittenSchedule

abbrev pub prices_of : PlanLine → ℕ × ℕ
prices_of (Priced a b) = (a, b)
prices_of (Unpriced head) = (0, 0)

abbrev pub behind_first : Sizes → PlanLine → Part (Option WrittenSchedule)
behind_first size (Priced a b) bytes = schedule_part size bytes
behind_first size (Unpriced head) bytes = rows_behind size false head bytes

abbrev pub plan_from : PlanLine × Option WrittenSchedule → Planned
plan_from p = (prices_of p.0, p.1)

unfoldable pub plan_part : Sizes → Part Planned
plan_part size = told plan_from (then (line_of (plan_at size.version)) (behind_first size))

-- ---- tables
-- so many ramp rows, behind one or as the first ones
unfoldable pub ramp_rows_part : Sizes → ℕ → Option RampRow → Part (List RampRow)
ramp_rows_part size zero before bytes = Ok ([], bytes)
ramp_rows_part size (suc more) before bytes =
    line_of (ramp_at size before) bytes >>= λ x. ramp_rows_part size more (Some x.0) x.1 >>= λ xs. Ok (x.0 ∷ xs.0, xs.1)

unfoldable pub ramps_part : Sizes → Part (List RampRow)
ramps_part size bytes = line_of ramp_count_at bytes >>= λ x. ramp_rows_part size x.0 None x.1

abbrev pub prices_part : List ℕ → Sizes → Part (List ℤ)
prices_part word size = line_of (row_at word size.periods (signed_at 18))

abbrev pub table_of : Sizes → ℕ × (List ℤ × (List ℤ × List RampRow)) → Table
table_of size p = record { units = size.thermal; k = pos p.0; pi = p.1.0; mu = p.1.1.0; ramps = p.1.1.1 }

-- the numbers of a table, in their order
unfoldable pub numbers_part : Sizes → Part (ℕ × (List ℤ × (List ℤ × List RampRow)))
numbers_part size = then (line_of scale_at) (λ _. then (prices_part (codes "pi") size) (λ _. then (prices_part (codes "mu") size) (λ _. ramps_part size)))

unfoldable pub table_part : Sizes → Part Table
table_part size = told (table_of size) (numbers_part size)

-- so many changes of the table, behind one or as the first ones
unfoldable pub changes_part : Sizes → Table → ℕ → Option Change → Part (List Change)
changes_part size table zero last bytes = Ok ([], bytes)
changes_part size table (suc more) last bytes =
    line_of (change_at size table last) bytes >>= λ x. changes_part size (changed table x.0) more (Some x.0) x.1 >>= λ xs. Ok (x.0 ∷ xs.0, xs.1)

-- the same, as a loop goes: the table with all of them
unfoldable pub changed_part : Sizes → ℕ → Table → Option Change → Part Table
changed_part size zero table last bytes = Ok (table, bytes)
changed_part size (suc more) table last bytes =
    line_of (change_at size table last) bytes >>= λ x. changed_part size more (changed table x.0) (Some x.0) x.1

-- a table that is told by its difference to this one
unfoldable pub next_part : Sizes → Table → Part Table
next_part size before =
    told (λ p. all_changed (rescaled before p.0.0) p.1) (then (line_of next_at) (λ p. changes_part size (rescaled before p.0) p.1 None))

unfoldable pub told_part : Sizes → Option Table → Part Table
told_part size None = table_part size
told_part size (Some before) = next_part size before

-- so many tables, behind one or from the first on
unfoldable pub tables_part : Sizes → ℕ → Option Table → Part (List Table)
tables_part size zero before bytes = Ok ([], bytes)
tables_part size (suc more) before bytes =
    told_part size (told_from size.version before) bytes >>= λ x. tables_part size more (Some x.0) x.1 >>= λ xs. Ok (x.0 ∷ xs.0, xs.1)

-- ---- the tree
-- how many trees are owed after a node, where so many others are
abbrev pub owed_after : ℕ → TreeNode → ℕ
owed_after others (LeafNode leaf) = others
owed_after others (SplitNode g t) = suc (suc others)

-- the nodes of so many trees; there are no more of them than the first number
unfoldable pub nodes_part : Sizes → ℕ → ℕ → Part (List TreeNode)
nodes_part size most zero bytes = Ok ([], bytes)
nodes_part size zero (suc others) bytes = Err bytes
nodes_part size (suc most) (suc others) bytes =
    line_of (node_at size) bytes >>= λ x. nodes_part size most (owed_after others x.0) x.1 >>= λ xs. Ok (x.0 ∷ xs.0, xs.1)

-- the nodes of a tree, which are no more than the bytes
unfoldable pub tree_part : Sizes → Part (List TreeNode)
tree_part size bytes = nodes_part size (length bytes) 1 bytes

-- ---- the whole
abbrev pub listing_from : Sizes × (Option ℤ × (Planned × (List Table × (List TreeNode × Unit {0})))) → Listing
listing_from p = record {
  periods = p.0.periods;
  thermal = p.0.thermal;
  renewable = p.0.renewable;
  a = p.1.1.0.0.0;
  b = p.1.1.0.0.1;
  bound = p.1.0;
  schedule = p.1.1.0.1;
  tables = p.1.1.1.0;
  nodes = p.1.1.1.1.0;
}

unfoldable pub heading_part : Part Sizes
heading_part = told (λ p. p.1) (then (line_of version_at) (λ version. line_of (size_at version)))

-- what shows the bound: the tables, the tree, and the last line
abbrev pub proof_part : Sizes → Part (List Table × (List TreeNode × Unit {0}))
proof_part size = then (tables_part size size.tables None) (λ _. then (tree_part size) (λ _. line_of end_at))

-- a certificate in the version that its first line tells
unfoldable pub certificate_part : Part (Version × Listing)
certificate_part =
    told (λ p. (p.0.version, listing_from p))
    (then heading_part (λ size. then (line_of claim_at) (λ _. then (plan_part size) (λ _. proof_part size))))

-- ---- Rows of ramp multipliers one behind the other.
-- each row may stand behind the one before it
abbrev pub AreRamps : Sizes → Option RampRow → List RampRow → Type 0
AreRamps size before [] = Unit {0}
AreRamps size before (row ∷ rows) = IsRampAfter size before row × AreRamps size (Some row) rows

-- each change may stand behind the one before it, of the table that those before it leave
abbrev pub AreChanges : Sizes → Table → Option Change → List Change → Type 0
AreChanges size table last [] = Unit {0}
AreChanges size table last (change ∷ changes) = IsChangeAfter size table last change × AreChanges size (changed table change) (Some change) changes

-- ---- What contracts see of the values that are read.
abbrev pub head_of : Head → ScheduleHead
head_of head = record { cost = head.cost; denominator = head.denominator }

abbrev pub first_of : First → PlanLine
first_of (firsts.Priced a b) = Priced a b
first_of (firsts.Unpriced head) = Unpriced (option_map head_of head)

abbrev pub sizes : Size → Sizes
sizes size = record { version = size.version; periods = size.periods; thermal = size.thermal; renewable = size.renewable; tables = size.tables }
