-- Why a certificate does not hold for an instance: the first code in the order C9, C10, C1, C2, C3, C8, and then C4 to C7
-- node by node in preorder. Source: this project's own format.
--
-- Tables and nodes count from 1 in the codes, units and periods from 0.
use Rattle.std.specs.Prelude.{◌≡◌, ◌≢◌, ℕ, suc, false, List, ℤ, Option, Some, None, IsTrue, All, take, slice_get}
use Rattle.uc_model.specs.Prelude.{thermal_count, renewable_count, Obeys, printed_denominator, printed_schedule, printed_cost}
pub use Rattle.uc_model.specs.declared.instance.Instance.{Instance}
pub use Rattle.uc_model.specs.declared.refusal.Refusal.{Refusal}
use Rattle.uc_model.specs.declared.refusal.Refusal.TheVariants as codes
use Rattle.dual_model.specs.Prelude.{IsLawfulTable, root, Bound, Ray, Empty, has_bound, Certificate, WrittenSchedule, ScheduleHolds}
use Rattle.schedule_check.specs.FirstBroken.{IsFirstBroken}
use Rattle.cert_text.specs.CertificateText.{TreeNode, LeafNode, SplitNode}
use Rattle.cert_check.specs.Visits.{Table, Visit, visits, IsSound}

-- the size is the instance's
pub record HasSize (instance : Instance) (c : Certificate) : Type 0 where
  pub periods : c.periods ≡ instance.periods
  pub thermal : c.thermal ≡ thermal_count instance
  pub renewable : c.renewable ≡ renewable_count instance

-- the prices of shortages are the instance's
pub record HasPrices (instance : Instance) (c : Certificate) : Type 0 where
  pub shed : c.a ≡ instance.a
  pub short : c.b ≡ instance.b

-- the size and the prices are the instance's, and the tables are lawful
pub record HasTables (instance : Instance) (c : Certificate) : Type 0 where
  pub size : HasSize instance c
  pub prices : HasPrices instance c
  pub tables : All (IsLawfulTable instance) c.tables

-- a schedule, if there is one, obeys and costs what is written besides
pub record HasSchedule (instance : Instance) (c : Certificate) : Type 0 where
  pub tables : HasTables instance c
  pub schedule : (written : WrittenSchedule) → c.schedule ≡ Some written → ScheduleHolds instance written

-- the claim fits the schedule and the leaves: a bound is claimed with a leaf that is one, infeasibility with none and
-- without a schedule
abbrev pub ClaimFits : Certificate → Option ℤ → Type 0
ClaimFits c (Some b) = IsTrue (has_bound c.tree)
ClaimFits c None = (c.schedule ≡ None) × (has_bound c.tree ≡ false)

-- it does besides
pub record HasClaim (instance : Instance) (c : Certificate) : Type 0 where
  pub schedule : HasSchedule instance c
  pub claim : ClaimFits c c.bound

-- ---- the codes
-- table i, from 0, is the first that isn't lawful
pub record IsFirstUnlawful (instance : Instance) (tables : List Table) (i : ℕ) : Type 0 where
  pub table : Table
  pub is_table : slice_get tables i ≡ Some table
  pub unlawful : ¬ IsLawfulTable instance table
  pub before : All (IsLawfulTable instance) (take i tables)

-- the schedule of the certificate, which stands for x over q, first breaks this rule
pub record BreaksRule (instance : Instance) (c : Certificate) (rule unit period : ℕ) : Type 0 where
  pub tables : HasTables instance c
  pub written : WrittenSchedule
  pub is_written : c.schedule ≡ Some written
  pub breaks :
      let q = printed_denominator instance written.printed in
      IsFirstBroken instance q (printed_schedule instance written.printed q) (record { rule = rule; unit = unit; period = period })

-- a schedule obeys, and its cost isn't the one written
pub record Miscosts (instance : Instance) (written : WrittenSchedule) (cost computed : ℤ) : Type 0 where
  pub obeys :
      let q = printed_denominator instance written.printed in
      Obeys instance q (printed_schedule instance written.printed q)
  pub is_cost : written.cost ≡ cost
  pub is_computed : computed ≡ printed_cost instance written.printed
  pub differs : cost ≢ computed

-- it is the schedule of the certificate
pub record MissesCost (instance : Instance) (c : Certificate) (cost computed : ℤ) : Type 0 where
  pub tables : HasTables instance c
  pub written : WrittenSchedule
  pub is_written : c.schedule ≡ Some written
  pub miscosts : Miscosts instance written cost computed

-- the code by which a node of that number is refused
abbrev pub refusal_of : TreeNode → ℕ → Refusal
refusal_of (LeafNode (Bound exact table)) number = codes.C4 number
refusal_of (LeafNode (Ray exact table)) number = codes.C5 number
refusal_of (LeafNode (Empty exact g)) number = codes.C6 number
refusal_of (SplitNode g t) number = codes.C7 number

-- the first of some visits that isn't sound is the one of index i, from 0
pub record IsFirstUnsound (instance : Instance) (tables : List Table) (bound : Option ℤ) (all : List Visit) (i : ℕ) (visit : Visit) : Type 0 where
  pub is_visit : slice_get all i ≡ Some visit
  pub unsound : ¬ IsSound instance tables bound visit
  pub before : All (IsSound instance tables bound) (take i all)

-- and the code is that of the first node that isn't sound
pub record IsUnsoundAt (instance : Instance) (c : Certificate) (code : Refusal) : Type 0 where
  pub claim : HasClaim instance c
  pub index : ℕ
  pub visit : Visit
  pub first : IsFirstUnsound instance c.tables c.bound (visits root c.tree) index visit
  pub is_code : code ≡ refusal_of visit.node (suc index)

-- the certificate is refused by the code
abbrev pub IsRefusedBy : Instance → Certificate → Refusal → Type 0
IsRefusedBy instance c codes.C9 = ¬ HasSize instance c
IsRefusedBy instance c codes.C10 = HasSize instance c × (¬ HasPrices instance c)
IsRefusedBy instance c (codes.C1 table) = HasSize instance c × HasPrices instance c × (i : ℕ) × (table ≡ suc i) × IsFirstUnlawful instance c.tables i
IsRefusedBy instance c (codes.C2 rule unit period) = BreaksRule instance c rule unit period
IsRefusedBy instance c (codes.C3 written computed) = MissesCost instance c written computed
IsRefusedBy instance c codes.C8 = HasSchedule instance c × (¬ ClaimFits c c.bound)
IsRefusedBy instance c (codes.C4 node) = IsUnsoundAt instance c (codes.C4 node)
IsRefusedBy instance c (codes.C5 node) = IsUnsoundAt instance c (codes.C5 node)
IsRefusedBy instance c (codes.C6 node) = IsUnsoundAt instance c (codes.C6 node)
IsRefusedBy instance c (codes.C7 node) = IsUnsoundAt instance c (codes.C7 node)
