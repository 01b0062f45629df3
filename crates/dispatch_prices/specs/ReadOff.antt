-- The multipliers of a last row, by the limits that the rules are, and the prices among them.
-- Source: the simplex multipliers (G. B. Dantzig, "Linear Programming and Extensions", 1963), in whole numbers.
use Rattle.std.specs.Prelude.{◌≡◌, ℕ, ◌<◌, ◌≤◌, ◌==◌, ◌⊎◌, Bool, true, ◌&&◌, ◌||◌, List, [], ◌∷◌, map, length, slice_index_or, ℤ, pos, unsigned_abs, IsTrue, if◌then◌else◌}
use Rattle.std.specs.Ordering.{int_eq}
use Rattle.uc_model.specs.Prelude.{sum_below, rule_number}
use Rattle.dual_model.specs.declared.table.RampRow.{RampRow}
use Rattle.pivot_run.specs.Prelude.{entry}
use Rattle.pivot_run.specs.Tables as pivots
use Rattle.dispatch_program.specs.Prelude.{Program, Artificial, SumValue, place, sign, multiplier, IsReached}
use Rattle.dispatch_rules.specs.Prelude.{limit_of, Task, Limit, is_same, is_demand, amounts, limits, listed, right_of, program}
use Rattle.dispatch_rules.specs.declared.limit.LimitAt.{LimitAt}
use Rattle.dispatch_rules.specs.declared.limit.LimitRule.TheVariants.{Demand}

-- ---- the rules of the table
abbrev pub limit_in : List LimitAt → ℕ → LimitAt
limit_in listed_limits i = slice_index_or listed_limits i (record { rule = Demand; unit = 0; period = 0; segment = 0 })

-- the program's rules as the code has them, by their kinds and right sides alone
abbrev pub rules_of : ℕ → List LimitAt → List ℤ → Program
rules_of unknowns listed_limits rights = record {
  unknowns = unknowns;
  rules = length listed_limits;
  factor = λ i c. pos 0;
  right = λ i. slice_index_or rights i (pos 0);
  is_equality = λ i. is_demand (limit_of (limit_in listed_limits i));
  cost = λ c. pos 0;
}

-- they are those of a commitment's program, whose run has reached the table
pub record IsEndOf (task : Task) (unknowns : ℕ) (listed_limits : List LimitAt) (rights : List ℤ) (t : pivots.Table) : Type 0 where
  pub unknowns_are : unknowns ≡ length (amounts task)
  pub limits_are : map limit_of listed_limits ≡ limits task
  pub rights_are : rights ≡ map (right_of task) (limits task)
  pub reached : IsReached (program task) t

-- ---- multipliers
-- a rule whose multiplier is a price: M11, M12, M14 and M15
abbrev pub is_priced : Limit → Bool
is_priced l = (rule_number l.rule == 11) || ((rule_number l.rule == 12) || ((rule_number l.rule == 14) || (rule_number l.rule == 15)))

-- reading the multiplier of rule i off, where it is an equality, forms the product of these two numbers
abbrev pub RuleForms : Program → List ℤ → ℕ → ℤ → ℤ → Type 0
RuleForms p row i a b =
    (p.is_equality i ≡ true) × ((a ≡ sign p i) × ((b ≡ entry row (place p (Artificial i))) ⊎ (b ≡ entry row (place p SumValue))))

abbrev pub ReadingForms : Program → List ℤ → ℤ → ℤ → Type 0
ReadingForms p row a b = (i : ℕ) × ((i < p.rules) × RuleForms p row i a b)

-- the multiplier of a priced rule is above 10^14 in size
abbrev pub IsLargeMultiplier : Program → List LimitAt → List ℤ → ℤ → Type 0
IsLargeMultiplier p listed_limits row z =
    (i : ℕ) × (i < p.rules) × IsTrue (is_priced (limit_of (limit_in listed_limits i))) × (z ≡ multiplier p row i)
    × (100000000000000 < unsigned_abs z)

-- none is
abbrev pub HasSmallMultipliers : Program → List LimitAt → List ℤ → Type 0
HasSmallMultipliers p listed_limits row =
    (i : ℕ) → i < p.rules → IsTrue (is_priced (limit_of (limit_in listed_limits i))) → unsigned_abs (multiplier p row i) ≤ 100000000000000

-- the first n numbers are the multipliers of the priced rules, and at most 10^14 in size
pub record AreMultipliers (p : Program) (listed_limits : List LimitAt) (row : List ℤ) (n : ℕ) (times : List ℤ) : Type 0 where
  pub count : length times ≡ n
  pub each : (i : ℕ) → i < n → IsTrue (is_priced (limit_of (limit_in listed_limits i))) → slice_index_or times i (pos 0) ≡ multiplier p row i
  pub within : (i : ℕ) → unsigned_abs (slice_index_or times i (pos 0)) ≤ 100000000000000

-- how often a limit stands there, by a number for each
abbrev pub times_by : List LimitAt → (ℕ → ℤ) → Limit → ℤ
times_by listed_limits times l =
    sum_below (length listed_limits) (λ i. if is_same (limit_of (limit_in listed_limits i)) l then times i else pos 0)

-- each limit stands in the list once
abbrev pub AreOnce : List LimitAt → Type 0
AreOnce listed_limits = (times : ℕ → ℤ) (i : ℕ) → i < length listed_limits → times_by listed_limits times (limit_of (limit_in listed_limits i)) ≡ times i

-- ---- rows of ramps
abbrev pub is_nothing : RampRow → Bool
is_nothing row = int_eq row.up (pos 0) && int_eq row.down (pos 0)

-- the row, unless it is all 0
abbrev pub kept : RampRow → List RampRow
kept row = if is_nothing row then [] else row ∷ []

abbrev pub ramp_row : (ℕ → ℕ → ℤ) → (ℕ → ℕ → ℤ) → ℕ → ℕ → RampRow
ramp_row up down g t = record { g = g; t = t; up = up g t; down = down g t }

-- the rows of so many units and periods
abbrev pub rows_in : (ℕ → ℕ → ℤ) → (ℕ → ℕ → ℤ) → ℕ → ℕ → List RampRow
rows_in up down periods g = listed periods (λ t. kept (ramp_row up down g t))

abbrev pub all_rows : (ℕ → ℕ → ℤ) → (ℕ → ℕ → ℤ) → ℕ → ℕ → List RampRow
all_rows up down units periods = listed units (rows_in up down periods)
