-- What a certificate has to meet to have a text of the grammar: its size, the shapes of its lists, and how many digits its
-- numbers have. This project's own format.
use Rattle.std.specs.Prelude.{◌≡◌, ◌≢◌, replicate, ℕ, ◌^◌, ◌<◌, ◌≤◌, Bool, true, false, List, ℤ, pos, unsigned_abs, IfSome, All, length}
pub use Rattle.uc_model.specs.declared.schedule.Cell.{Cell}
use Rattle.dual_model.specs.Prelude.{Certificate, WrittenSchedule, IsWellFormed}
pub use Rattle.dual_model.specs.declared.table.Table.{Table}
pub use Rattle.dual_model.specs.declared.table.RampRow.{RampRow}
use Rattle.cert_text.specs.CertificateText.{Version, Third, Printed, TreeNode, is_exact_node, IsNodeWithin, Listing, has_price, listing_of, written_version}

-- a number of at most so many digits, whatever its sign
abbrev pub HasDigits : ℕ → ℤ → Type 0
HasDigits digits z = unsigned_abs z < 10 ^ digits

-- money has at most 38 digits, those of the decimals among them
abbrev pub IsMoney : ℤ → Type 0
IsMoney cost = HasDigits 38 cost

-- an on cell: watts of at most 15 digits, and a category of a byte
pub record IsOnCell (cell : Cell) : Type 0 where
  pub output : HasDigits 15 cell.p
  pub reserve : HasDigits 15 cell.r
  pub category : cell.category ≤ 255

-- an off cell, which has no number
pub record IsOffCell (cell : Cell) : Type 0 where
  pub output : cell.p ≡ pos 0
  pub reserve : cell.r ≡ pos 0
  pub category : cell.category ≡ 0

pub record IsCellText (cell : Cell) : Type 0 where
  pub on : cell.on ≡ true → IsOnCell cell
  pub off : cell.on ≡ false → IsOffCell cell

-- a row of a cell for each period
pub record IsThermalRow (periods : ℕ) (row : List Cell) : Type 0 where
  pub cells : length row ≡ periods
  pub written : All IsCellText row

-- and of a power in watts for each
pub record IsPowerRow (periods : ℕ) (row : List ℤ) : Type 0 where
  pub powers : length row ≡ periods
  pub written : All (HasDigits 15) row

-- nothing is missing in any of so many periods
pub record HasNoShortage (periods : ℕ) (printed : Printed) : Type 0 where
  pub shed : printed.shed ≡ replicate periods (pos 0)
  pub short : printed.short ≡ replicate periods (pos 0)

-- a power that is missing in each period
pub record HasShortageRows (periods : ℕ) (printed : Printed) : Type 0 where
  pub shed : IsPowerRow periods printed.shed
  pub short : IsPowerRow periods printed.short

-- the lines tell what is missing where that has a price, else no shortage
abbrev pub AreShortagesText : Bool → ℕ → Printed → Type 0
AreShortagesText false periods printed = HasNoShortage periods printed
AreShortagesText true periods printed = HasShortageRows periods printed

-- a denominator of powers from 1 to 99, and in the third version alone another one than 1
pub record IsDenominator (version : Version) (denominator : ℕ) : Type 0 where
  pub least : 1 ≤ denominator
  pub most : denominator ≤ 99
  pub divided : denominator ≢ 1 → version ≡ Third

-- a row for each unit, and what is missing, in this version
pub record IsScheduleText (version : Version) (priced : Bool) (periods thermal renewable : ℕ) (written : WrittenSchedule) : Type 0 where
  pub cost : IsMoney written.cost
  pub thermal_rows : length written.printed.thermal ≡ thermal
  pub cells : All (IsThermalRow periods) written.printed.thermal
  pub renewable_rows : length written.printed.renewable ≡ renewable
  pub outputs : All (IsPowerRow periods) written.printed.renewable
  pub shortages : AreShortagesText priced periods written.printed
  pub denominator : IsDenominator version written.printed.denominator

pub record IsRampText (row : RampRow) : Type 0 where
  pub up : HasDigits 18 row.up
  pub down : HasDigits 18 row.down

-- a well-formed table of the size, whose numbers have at most 18 digits
pub record IsTableText (periods thermal : ℕ) (table : Table) : Type 0 where
  pub form : IsWellFormed table
  pub units : table.units ≡ thermal
  pub periods_priced : length table.pi ≡ periods
  pub scale : HasDigits 18 table.k
  pub pi : All (HasDigits 18) table.pi
  pub mu : All (HasDigits 18) table.mu
  pub rows : length table.ramps < 10 ^ 18
  pub ramps : All IsRampText table.ramps

-- prices up to a million dollars for a megawatt and an hour
pub record ArePenalties (a b : ℕ) : Type 0 where
  pub shed : a ≤ 1000000
  pub short : b ≤ 1000000

-- a node names what there is, and where it claims by exact values the version is the third
pub record IsNodeText (version : Version) (periods thermal tables : ℕ) (node : TreeNode) : Type 0 where
  pub within : IsNodeWithin periods thermal tables node
  pub exact : is_exact_node node ≡ true → version ≡ Third

-- the listed certificate has a text of the grammar in this version
pub record HasText (version : Version) (c : Listing) : Type 0 where
  pub some_period : 1 ≤ c.periods
  pub periods : c.periods ≤ 168
  pub thermal : c.thermal ≤ 4096
  pub renewable : c.renewable ≤ 4096
  pub table_count : length c.tables < 2 ^ 32
  pub bound : IfSome c.bound IsMoney
  pub penalties : ArePenalties c.a c.b
  pub schedule : IfSome c.schedule (IsScheduleText version (has_price c.a c.b) c.periods c.thermal c.renewable)
  pub tables : All (IsTableText c.periods c.thermal) c.tables
  pub nodes : All (IsNodeText version c.periods c.thermal (length c.tables)) c.nodes

-- the certificate has one in the version in which it is written
abbrev pub HasWrittenText : Certificate → Type 0
HasWrittenText c = HasText (written_version (listing_of c)) (listing_of c)
