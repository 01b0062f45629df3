-- The grammar of certificates, line by line: which line may stand where, and what has to come after it. What may stand hangs on the
-- version, and where a table is told by its difference to the one before it, on that table. A count is a number of its digits,
-- however many lines it asks for. This project's own format.
--
-- Units, periods and tables count from 0 here, and from 1 in the text.
use Rattle.std.specs.Prelude.{◌≡◌, ◌⊎◌, ℕ, zero, suc, ◌^◌, ◌<◌, ◌≤◌, Bool, true, false, List, [], ◌∷◌, ◌++◌, ℤ, Option, Some, None, IfSome, replicate, codes, length, All, pos, ◌≢◌, Contains}
pub use Rattle.uc_model.specs.declared.schedule.Cell.{Cell}
use Rattle.uc_model.specs.Decimal.{whole_text}
use Rattle.dual_model.specs.Prelude.{IsRowBefore, IsRowWithin, pi_at, mu_at, up_at, down_at}
pub use Rattle.dual_model.specs.declared.table.RampRow.{RampRow}
use Rattle.outside.specs.Lines.{line, joined}
use Rattle.table_list.specs.Changes.{Table, Change, OfDemand, OfReserve, OfRamps, changed}
use Rattle.cert_text.specs.CertificateText.{Version, TreeNode, LeafNode, SplitNode, node_line, version_line, size_line, claim_line, has_price, penalty_line, cost_line, no_schedule_line, thermal_line, renewable_line, shed_line, short_line, scale_line, prices_line, ramp_line, next_line, change_line, told_from, end_line}
use Rattle.cert_text.specs.TextConditions.{HasDigits, IsMoney, ArePenalties, IsThermalRow, IsPowerRow, IsRampText, IsDenominator, IsNodeText}
use Rattle.cert_text.specs.declared.cert.CertFault.{CertFault}
use Rattle.cert_text.specs.declared.cert.CertFault.TheVariants as faults
pub use Rattle.cert_text.specs.declared.cert.CertKind.{CertKind}
use Rattle.cert_text.specs.declared.cert.CertKind.TheVariants as kinds

-- the version of the format, and the numbers of periods, thermal units, renewable units and tables
pub record Sizes : Type 0 where
  pub version : Version
  pub periods : ℕ
  pub thermal : ℕ
  pub renewable : ℕ
  pub tables : ℕ

pub record AreSizes (size : Sizes) : Type 0 where
  pub some_period : 1 ≤ size.periods
  pub periods : size.periods ≤ 168
  pub thermal : size.thermal ≤ 4096
  pub renewable : size.renewable ≤ 4096
  pub tables : size.tables < 2 ^ 32

-- where tables are to come: the sizes, and how many of them come behind the one in hand
pub record Ahead : Type 0 where
  pub size : Sizes
  pub tables : ℕ

-- what a line may be
pub data Symbol : Type 0 where
  Head : Symbol
  Size : Version → Symbol
  Claim : Symbol
  -- what is behind the claim, of a system of that size; the schedule behind prices; and the rows of a schedule
  Plan : Sizes → Symbol
  Schedule : Sizes → Symbol
  ThermalRow : Sizes → Symbol
  RenewableRow : Sizes → Symbol
  Shed : Sizes → Symbol
  Short : Sizes → Symbol
  -- the first line of a table that is told whole; and those of its prices of demand and of reserve, behind what was told of it
  Scale : Ahead → Symbol
  Pi : Ahead → Table → Symbol
  Mu : Ahead → Table → Symbol
  -- the count of a table's ramp rows; and a row with so many after it, behind another one or as the first
  Ramps : Ahead → Table → Symbol
  Ramp : Ahead → Table → ℕ → Option RampRow → Symbol
  -- the first line of a table that is told by its difference to this one; and a change of a table, with so many after it, behind
  -- another one or as the first
  Next : Ahead → Table → Symbol
  Update : Ahead → Table → ℕ → Option Change → Symbol
  Node : Sizes → Symbol
  End : Symbol

-- the first line of a table, by the one of which it tells the difference
abbrev pub table_head : Ahead → Option Table → Symbol
table_head ahead None = Scale ahead
table_head ahead (Some before) = Next ahead before

-- so many tables are to come, behind one or from the first on
abbrev pub tables_from : Sizes → ℕ → Option Table → List Symbol
tables_from size zero before = []
tables_from size (suc more) before = table_head (record { size = size; tables = more }) (told_from size.version before) ∷ []

-- those behind this table
abbrev pub tables_behind : Ahead → Table → List Symbol
tables_behind ahead table = tables_from ahead.size ahead.tables (Some table)

-- so many ramp rows of the table are to come, behind one or as the first ones
abbrev pub ramp_rows : Ahead → Table → ℕ → Option RampRow → List Symbol
ramp_rows ahead table zero before = tables_behind ahead table
ramp_rows ahead table (suc more) before = Ramp ahead table more before ∷ []

-- so many changes of the table are to come, behind one or as the first ones
abbrev pub changes_from : Ahead → Table → ℕ → Option Change → List Symbol
changes_from ahead table zero last = tables_behind ahead table
changes_from ahead table (suc more) last = Update ahead table more last ∷ []

-- the rows of what is missing, where that has a price
abbrev pub shortage_rows : Sizes → Bool → List Symbol
shortage_rows size false = []
shortage_rows size true = Shed size ∷ Short size ∷ []

-- what the line of a schedule tells: its cost, and the denominator of its powers
pub record ScheduleHead : Type 0 where
  pub cost : ℤ
  pub denominator : ℕ

-- what comes behind that line: its rows where there is one
abbrev pub schedule_rows : Sizes → Bool → Option ScheduleHead → List Symbol
schedule_rows size priced None = []
schedule_rows size priced (Some head) =
    replicate size.thermal (ThermalRow size) ++ (replicate size.renewable (RenewableRow size) ++ shortage_rows size priced)

abbrev pub schedule_line : Option ScheduleHead → List ℕ
schedule_line None = no_schedule_line
schedule_line (Some head) = cost_line head.cost head.denominator

-- such a line in this version
pub record IsScheduleHead (version : Version) (head : ScheduleHead) : Type 0 where
  pub cost : IsMoney head.cost
  pub denominator : IsDenominator version head.denominator

-- the line behind the claim: prices, or else the schedule's, where nothing has a price
pub data PlanLine : Type 0 where
  Priced : ℕ → ℕ → PlanLine
  Unpriced : Option ScheduleHead → PlanLine

abbrev pub plan_line : PlanLine → List ℕ
plan_line (Priced a b) = penalty_line a b
plan_line (Unpriced head) = schedule_line head

-- prices that are told are within their range, and one isn't 0
pub record IsPenaltyLine (a b : ℕ) : Type 0 where
  pub range : ArePenalties a b
  pub some : has_price a b ≡ true

abbrev pub IsPlanLine : Version → PlanLine → Type 0
IsPlanLine version (Priced a b) = IsPenaltyLine a b
IsPlanLine version (Unpriced head) = IfSome head (IsScheduleHead version)

-- and what comes behind it
abbrev pub behind_plan : Sizes → PlanLine → List Symbol
behind_plan size (Priced a b) = Schedule size ∷ []
behind_plan size (Unpriced head) = schedule_rows size false head

-- a split is followed by two trees
abbrev pub children : Sizes → TreeNode → List Symbol
children size (LeafNode leaf) = []
children size (SplitNode g t) = Node size ∷ Node size ∷ []

abbrev pub ramp_count_line : ℕ → List ℕ
ramp_count_line count = line (codes "ramps") (whole_text count ∷ [])

-- sizes of that version
pub record IsSizeIn (version : Version) (size : Sizes) : Type 0 where
  pub sizes : AreSizes size
  pub told : size.version ≡ version

-- a price for each period
pub record ArePrices (size : Sizes) (prices : List ℤ) : Type 0 where
  pub periods : length prices ≡ size.periods
  pub written : All (HasDigits 18) prices

-- a row that may stand behind another one
pub record IsRampAfter (size : Sizes) (before : Option RampRow) (row : RampRow) : Type 0 where
  pub within : IsRowWithin size.thermal size.periods row
  pub written : IsRampText row
  pub rises : IfSome before (λ earlier. IsRowBefore earlier row)

-- ---- tables
-- of a table that is told whole its first line tells the scale alone
abbrev pub scaled : Sizes → ℕ → Table
scaled size k = record { units = size.thermal; k = pos k; pi = []; mu = []; ramps = [] }

abbrev pub with_ramp : Table → RampRow → Table
with_ramp table row = record table { ramps = table.ramps ++ row ∷ [] }

-- and of one that is told by its difference to another, the scale in place of that one's
abbrev pub rescaled : Table → ℕ → Table
rescaled table k = record table { k = pos k }

-- changes come in the order of demand, reserve and ramps, each by period, those of ramps by unit first
abbrev pub ComesBefore : Change → Change → Type 0
ComesBefore (OfDemand t price) (OfDemand u other) = t < u
ComesBefore (OfDemand t price) (OfReserve u other) = Unit {0}
ComesBefore (OfDemand t price) (OfRamps row) = Unit {0}
ComesBefore (OfReserve t price) (OfDemand u other) = ⊥
ComesBefore (OfReserve t price) (OfReserve u other) = t < u
ComesBefore (OfReserve t price) (OfRamps row) = Unit {0}
ComesBefore (OfRamps row) (OfDemand u other) = ⊥
ComesBefore (OfRamps row) (OfReserve u other) = ⊥
ComesBefore (OfRamps row) (OfRamps later) = IsRowBefore row later

-- a change of a number that the table has, of few digits
abbrev pub IsChangeWithin : Sizes → Change → Type 0
IsChangeWithin size (OfDemand t price) = (t < size.periods) × HasDigits 18 price
IsChangeWithin size (OfReserve t price) = (t < size.periods) × HasDigits 18 price
IsChangeWithin size (OfRamps row) = (row.g < size.thermal) × (row.t < size.periods) × IsRampText row

-- it says another number than the table has
abbrev pub Changes : Table → Change → Type 0
Changes table (OfDemand t price) = pi_at table t ≢ price
Changes table (OfReserve t price) = mu_at table t ≢ price
Changes table (OfRamps row) = (up_at table row.g row.t ≢ row.up) ⊎ (down_at table row.g row.t ≢ row.down)

-- a change of the table that may stand behind another one
pub record IsChangeAfter (size : Sizes) (table : Table) (last : Option Change) (change : Change) : Type 0 where
  pub within : IsChangeWithin size change
  pub rises : IfSome last (λ earlier. ComesBefore earlier change)
  pub changes : Changes table change

-- what comes behind the line of the size
abbrev pub after_size : Sizes → List Symbol
after_size size = Claim ∷ Plan size ∷ (tables_from size size.tables None ++ Node size ∷ End ∷ [])

-- a line of that kind, which has to be followed by lines of these kinds before what was to come anyway
abbrev pub Produces : Symbol → List ℕ → List Symbol → Type 0
Produces Head text next = (version : Version) × (text ≡ version_line version) × (next ≡ Size version ∷ [])
Produces (Size version) text next =
    (size : Sizes) × IsSizeIn version size × (text ≡ size_line size.periods size.thermal size.renewable size.tables) × (next ≡ after_size size)
Produces Claim text next = (bound : Option ℤ) × IfSome bound IsMoney × (text ≡ claim_line bound) × (next ≡ [])
Produces (Plan size) text next = (first : PlanLine) × IsPlanLine size.version first × (text ≡ plan_line first) × (next ≡ behind_plan size first)
Produces (Schedule size) text next =
    (head : Option ScheduleHead) × IfSome head (IsScheduleHead size.version) × (text ≡ schedule_line head) × (next ≡ schedule_rows size true head)
Produces (ThermalRow size) text next = (row : List Cell) × IsThermalRow size.periods row × (text ≡ thermal_line row) × (next ≡ [])
Produces (RenewableRow size) text next = (row : List ℤ) × IsPowerRow size.periods row × (text ≡ renewable_line row) × (next ≡ [])
Produces (Shed size) text next = (row : List ℤ) × IsPowerRow size.periods row × (text ≡ shed_line row) × (next ≡ [])
Produces (Short size) text next = (row : List ℤ) × IsPowerRow size.periods row × (text ≡ short_line row) × (next ≡ [])
Produces (Scale ahead) text next =
    (k : ℕ) × (k < 10 ^ 18) × (text ≡ scale_line (pos k)) × (next ≡ Pi ahead (scaled ahead.size k) ∷ [])
Produces (Pi ahead table) text next =
    (prices : List ℤ) × ArePrices ahead.size prices × (text ≡ prices_line (codes "pi") prices) × (next ≡ Mu ahead (record table { pi = prices }) ∷ [])
Produces (Mu ahead table) text next =
    (prices : List ℤ) × ArePrices ahead.size prices × (text ≡ prices_line (codes "mu") prices) × (next ≡ Ramps ahead (record table { mu = prices }) ∷ [])
Produces (Ramps ahead table) text next =
    (count : ℕ) × (count < 10 ^ 18) × (text ≡ ramp_count_line count) × (next ≡ ramp_rows ahead table count None)
Produces (Ramp ahead table more before) text next =
    (row : RampRow) × IsRampAfter ahead.size before row × (text ≡ ramp_line row) × (next ≡ ramp_rows ahead (with_ramp table row) more (Some row))
Produces (Next ahead before) text next =
    (told : ℕ × ℕ) × ((told.0 < 10 ^ 18) × (told.1 < 10 ^ 18)) × (text ≡ next_line (pos told.0) told.1)
    × (next ≡ changes_from ahead (rescaled before told.0) told.1 None)
Produces (Update ahead table more last) text next =
    (change : Change) × IsChangeAfter ahead.size table last change × (text ≡ change_line change)
    × (next ≡ changes_from ahead (changed table change) more (Some change))
Produces (Node size) text next =
    (node : TreeNode) × IsNodeText size.version size.periods size.thermal size.tables node × (text ≡ node_line node) × (next ≡ children size node)
Produces End text next = (text ≡ end_line) × (next ≡ [])

-- where lines of these kinds are to come, these lines may stand, and then lines of those kinds are to come
abbrev pub Reaches : List Symbol → List (List ℕ) → List Symbol → Type 0
Reaches kinds [] left = kinds ≡ left
Reaches [] (text ∷ texts) left = ⊥
Reaches (kind ∷ kinds) (text ∷ texts) left = (next : List Symbol) × Produces kind text next × Reaches (next ++ kinds) texts left

-- ---- What is wrong with bytes that are no certificate's text: the first line that may not stand where it does, or that isn't
-- there. Lines count from 1. This project's own format.
abbrev pub HasLineFeed : List ℕ → Type 0
HasLineFeed bytes = Contains bytes 10

-- bytes up to a line feed, and the line feed
pub record IsWholeLine (text : List ℕ) : Type 0 where
  pub front : List ℕ
  pub ends : text ≡ front ++ 10 ∷ []
  pub first : ¬ HasLineFeed front

-- a line of that kind has this text
abbrev pub MayStand : Symbol → List ℕ → Type 0
MayStand kind text = (next : List Symbol) × Produces kind text next

-- the lines before that line may stand as they do, and a line of that kind is to come, before the bytes that are left
pub record ComesAt (bytes : List ℕ) (line : ℕ) (kind : Symbol) (rest : List ℕ) : Type 0 where
  pub before : List (List ℕ)
  pub number : line ≡ suc (length before)
  pub parts : bytes ≡ joined before ++ rest
  pub others : List Symbol
  pub stand : Reaches (Head ∷ []) before (kind ∷ others)

-- Form: that line is ended by its line feed, and may not stand there
pub record IsFormAt (bytes : List ℕ) (line : ℕ) : Type 0 where
  pub kind : Symbol
  pub text : List ℕ
  pub more : List ℕ
  pub comes : ComesAt bytes line kind (text ++ more)
  pub whole : IsWholeLine text
  pub barred : ¬ MayStand kind text

-- Cut: the bytes end before the line feed of that line
pub record IsCutAt (bytes : List ℕ) (line : ℕ) : Type 0 where
  pub kind : Symbol
  pub rest : List ℕ
  pub comes : ComesAt bytes line kind rest
  pub open_ended : ¬ HasLineFeed rest

-- Tail: the lines before that line are a whole certificate, and a byte follows
pub record IsTailAt (bytes : List ℕ) (line : ℕ) : Type 0 where
  pub before : List (List ℕ)
  pub number : line ≡ suc (length before)
  pub rest : List ℕ
  pub parts : bytes ≡ joined before ++ rest
  pub stand : Reaches (Head ∷ []) before []
  pub some : rest ≢ []

abbrev pub IsKindAt : List ℕ → ℕ → CertKind → Type 0
IsKindAt bytes line kinds.Form = IsFormAt bytes line
IsKindAt bytes line kinds.Cut = IsCutAt bytes line
IsKindAt bytes line kinds.Tail = IsTailAt bytes line

-- the fault is that of the bytes; that memory was refused says nothing of them
abbrev pub IsFaultOf : List ℕ → CertFault → Type 0
IsFaultOf bytes (faults.At line kind) = IsKindAt bytes line kind
IsFaultOf bytes faults.NoMemory = Unit {0}
