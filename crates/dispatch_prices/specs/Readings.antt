-- What the code holds of the end of a run, and what keeps it from reading prices off.
use Rattle.std.specs.Prelude.{◌≡◌, ℕ, ◌+◌, ◌<◌, ◌≤◌, ◌⊎◌, Bool, List, length, ℤ, pos, neg_ℤ, unsigned_abs, IsTrue, if◌then◌else◌}
use Rattle.pivot_run.specs.Prelude.{IsWide}
use Rattle.dispatch_program.specs.Prelude.{Program, RightSide, Slack, Artificial, place, multiplier}
use Rattle.dispatch_rules.specs.Prelude.{limit_of, Task, IsReadOff, down_of, scale_of, up_of}
use Rattle.std.specs.List.{All}
use Rattle.dual_model.specs.Prelude.{IsPrice, IsRowPriced}
use Rattle.dual_model.specs.declared.table.Table.{Table}
use Rattle.uc_model.specs.Prelude.{thermal_count}
use Rattle.dispatch_prices.specs.ReadOff.{IsEndOf, IsLargeMultiplier, ReadingForms, all_rows, is_priced, limit_in, rules_of}
use Rattle.dispatch_rules.specs.declared.limit.LimitAt.{LimitAt}
pub use Rattle.dispatch_prices.specs.declared.multipliers.FinalTableau.{FinalTableau}
pub use Rattle.dispatch_prices.specs.declared.multipliers.Places.{Places}
pub use Rattle.dispatch_prices.specs.declared.unfit.Unfit.{Unfit}
use Rattle.dispatch_prices.specs.declared.unfit.Unfit.TheVariants.{Product, Multiplier, NoMemory}

-- the rules of the table
abbrev pub rules_at : FinalTableau → Program
rules_at end = rules_of end.unknowns end.limits.now end.rights.now

-- the table has a column for each unknown, slack and artificial one, the two values and the right side, and a row for each rule, the sum and the cost
pub record HasSize (end : FinalTableau) : Type 0 where
  pub columns : end.table.now.columns ≡ place (rules_at end) RightSide + 1
  pub rows : length end.table.now.rows ≡ length end.limits.now + 2
  pub rights : length end.rights.now ≡ length end.limits.now

-- the end is that of a run on the commitment's table
abbrev pub IsEndAt : Task → FinalTableau → Type 0
IsEndAt task end = IsEndOf task end.unknowns end.limits.now end.rights.now end.table.now

-- the columns of the slack and of the artificial column of rule i, where it has one
pub record ArePlaces (p : Program) (i : ℕ) (places : Places) : Type 0 where
  pub slack : places.slack ≡ place p (Slack i)
  pub artificial : places.artificial ≡ place p (Artificial i)

-- the multiplier of rule i, where that is a price, and within the limit
pub record IsMultiplierAt (p : Program) (listed_limits : List LimitAt) (row : List ℤ) (i : ℕ) (m : ℤ) : Type 0 where
  pub is : IsTrue (is_priced (limit_of (limit_in listed_limits i))) → m ≡ multiplier p row i
  pub within : unsigned_abs m ≤ 100000000000000

abbrev pub IsUnfit : Program → List LimitAt → List ℤ → Unfit → Type 0
IsUnfit p listed_limits row (Product wide) = ReadingForms p row wide.size wide.other × IsWide wide.size wide.other
IsUnfit p listed_limits row (Multiplier z) = IsLargeMultiplier p listed_limits row z
IsUnfit p listed_limits row NoMemory = Unit {0}

-- the product of the two numbers is too large
abbrev pub IsProductOf : ℤ → ℤ → Unfit → Type 0
IsProductOf a b (Product wide) = (wide.size ≡ a) × ((wide.other ≡ b) × IsWide a b)
IsProductOf a b (Multiplier z) = ⊥
IsProductOf a b NoMemory = ⊥

abbrev pub IsProductOfEither : ℤ → ℤ → ℤ → Unfit → Type 0
IsProductOfEither a b c (Product wide) = (wide.size ≡ a) × (((wide.other ≡ b) ⊎ (wide.other ≡ c)) × IsWide wide.size wide.other)
IsProductOfEither a b c (Multiplier z) = ⊥
IsProductOfEither a b c NoMemory = ⊥

-- 1, and -1 for a rule that is negated
abbrev pub sign_of : Bool → ℤ
sign_of negated = if negated then neg_ℤ (pos 1) else pos 1

-- the number is above 10^14 in size
abbrev pub IsLarge : ℤ → Unfit → Type 0
IsLarge number (Product wide) = ⊥
IsLarge number (Multiplier z) = (z ≡ number) × (100000000000000 < unsigned_abs number)
IsLarge number NoMemory = ⊥

-- the table has the scale k, prices within the limits, and the prices of the row, where that is the row's scale
pub record IsPriceTable (task : Task) (row : List ℤ) (k : ℤ) (table : Table) : Type 0 where
  pub scale : table.k ≡ k
  pub demand : All IsPrice table.pi
  pub reserve : All IsPrice table.mu
  pub ramps : All IsRowPriced table.ramps
  pub rows : table.ramps ≡ all_rows (up_of task row) (down_of task row) (thermal_count task.instance) task.instance.periods
  pub read : k ≡ scale_of task row → IsReadOff task row table
