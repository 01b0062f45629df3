-- The hours of a commitment, each at what is best in it by itself. Source: the single-unit problems of the Lagrangian relaxation
-- of the reference model by Knueven, Ostrowski and Watson, whose hours nothing ties once ramps are priced.
use Rattle.std.specs.Prelude.{◌≡◌, ℕ, zero, suc, ◌*◌, ◌<◌, true, false, ℤ, pos, ◌+ℤ◌, ◌-ℤ◌, ◌*ℤ◌, ◌≤ℤ◌, ◌<ℤ◌, unsigned_abs, Some}
use Rattle.uc_model.specs.Prelude.{Commitment, starts, cap, initial_p, term_at}
use Rattle.uc_model.specs.declared.terms.Terms.{Terms}
use Rattle.dual_model.specs.Prelude.{greatest_output, is_followed, pi_at, mu_at}
use Rattle.dual_model.specs.ExactValue.{floored_cost}
use Rattle.step_functions.specs.Functions.{IsPlace, value_at}
use Rattle.unit_runs.specs.Runs.{KeepsRamps}
use Rattle.hull_function.specs.Hulls.{Steps}
use Rattle.hull_function.specs.Problems.{MAX_POWER}
use Rattle.hull_function.specs.declared.hour.Hour.{Hour}
use Rattle.unit_exact.specs.inside.Problems.{Table, Thermal}
pub use Rattle.unit_exact.specs.declared.hourly.Given.{Given}

-- what is given in an hour: no more than its cap, reserve only where it earns something, and then all that is left of the cap;
-- it costs at most the term
pub record IsBestIn (hull : Steps) (hour : Hour) (term : ℤ) (given : Given) : Type 0 where
  pub place : IsPlace hull given.output
  pub reserve : pos 0 ≤ℤ given.reserve
  pub cap : (given.output +ℤ given.reserve) ≤ℤ hour.cap
  pub none : hour.worth ≡ pos 0 → given.reserve ≡ pos 0
  pub all : pos 0 <ℤ hour.worth → given.output +ℤ given.reserve ≡ hour.cap
  pub cost : (value_at hull given.output +ℤ hour.price *ℤ given.output -ℤ hour.worth *ℤ hour.cap) ≤ℤ term

-- what is given in period t of the commitment: nothing where the unit is off, and what costs at most the hour's term where it
-- is on, within the limits but the ramps
pub record IsGivenAt (periods : ℕ) (table : Table) (unit : Thermal) (terms : Terms) (on : Commitment) (t : ℕ) (given : Given) : Type 0 where
  pub output : pos 0 ≤ℤ given.output
  pub reserve : pos 0 ≤ℤ given.reserve
  pub width : given.output ≤ℤ greatest_output unit.points
  pub small : (given.output +ℤ given.reserve) ≤ℤ pos (2 * MAX_POWER)
  pub off : on t ≡ false → (given.output ≡ pos 0) × (given.reserve ≡ pos 0)
  pub cap : on t ≡ true → (given.output +ℤ given.reserve) ≤ℤ cap periods unit on t
  pub cost : on t ≡ true → (m : ℤ) → term_at terms t (starts unit on t) (is_followed periods unit on t) ≡ Some m
      → (floored_cost unit.points table.k 1 (unsigned_abs given.output) -ℤ pi_at table t *ℤ (given.output +ℤ unit.pmin) -ℤ mu_at table t *ℤ given.reserve)
      ≤ℤ (m -ℤ pi_at table t *ℤ unit.pmin)

-- the output before period t; before the first one it is given
abbrev pub output_before : Thermal → (ℕ → Given) → ℕ → ℤ
output_before unit given zero = initial_p unit
output_before unit given (suc t) = (given t).output

-- what is given in period t is so, and keeps the ramps
pub record IsHourlyAt (periods : ℕ) (table : Table) (unit : Thermal) (terms : Terms) (on : Commitment) (given : ℕ → Given) (t : ℕ) : Type 0 where
  pub is : IsGivenAt periods table unit terms on t (given t)
  pub ramps : KeepsRamps unit (output_before unit given t) (given t).output (given t).reserve

-- so much is given in the periods before t, the last of which has this output
pub record IsHourlyTo (periods : ℕ) (table : Table) (unit : Thermal) (terms : Terms) (on : Commitment) (t : ℕ) (before : ℤ) : Type 0 where
  pub given : ℕ → Given
  pub each : (k : ℕ) → k < t → IsHourlyAt periods table unit terms on given k
  pub last : before ≡ output_before unit given t

-- and in all periods
pub record IsHourly (periods : ℕ) (table : Table) (unit : Thermal) (terms : Terms) (on : Commitment) : Type 0 where
  pub given : ℕ → Given
  pub each : (t : ℕ) → t < periods → IsHourlyAt periods table unit terms on given t
