-- What the path knows of the periods from one on: the moves there, and the least ways from there. Source: Bellman's
-- principle of optimality (Dynamic Programming, 1957).
use Rattle.std.specs.Prelude.{◌≡◌, ℕ, suc, ◌+◌, ◌-◌, ◌*◌, ◌<◌, ◌≤◌, Bool, true, false, ◌&&◌, List, ℤ, pos, unsigned_abs, length, slice_index_or, Option, Some, None, if◌then◌else◌}
use Rattle.uc_model.specs.Prelude.{sigma, period_count, may_start, may_stop}
use Rattle.dual_model.specs.Prelude.{holds_initially, hour_before, may_be_off, may_be_on, stop_since, Choices, IsWithin, MAX_MOVE}
use Rattle.unit_path.specs.inside.Choices.{Fix, Terms, Thermal, Choice, choice_cost, IsLeastStart, IsLeastStop}
pub use Rattle.unit_path.specs.declared.hour.Hour.{Hour}

-- what it costs a unit that is on to stay on in period t, and to stop in it where it has been on for long enough, by
-- whether the hour before was a start
abbrev pub stay_cost : Terms → Thermal → Fix → ℕ → Bool → Option ℤ
stay_cost terms unit fix t start = if may_be_on fix t && holds_initially unit t false then hour_before terms unit t start false else None

abbrev pub leave_cost : Terms → Thermal → Fix → ℕ → Bool → Option ℤ
leave_cost terms unit fix t start =
    if may_be_off unit fix t && holds_initially unit t true then hour_before terms unit t start true else None

-- the first period from t on in which something may not be; the number of periods where there is none
pub record IsUntil (may : ℕ → Bool) (periods t until : ℕ) : Type 0 where
  pub later : t ≤ until
  pub within : until ≤ periods
  pub before : (k : ℕ) → t ≤ k → k < until → may k ≡ true
  pub at : until < periods → may until ≡ false

-- a start of a unit that is off since `since` costs from period t on what it costs without a stop in the horizon
abbrev pub IsCold : Thermal → ℕ → ℕ → Type 0
IsCold unit since t = (k : ℕ) → t ≤ k → sigma unit (stop_since since) k ≡ sigma unit None k

-- the least way of a unit that is on before period t since an earlier one, and may stop from t on
abbrev pub IsOnward : Terms → Thermal → Fix → ℕ → Option Choice → Type 0
IsOnward terms unit fix t choice = (since : ℕ) → since < t → may_stop unit since t ≡ true → IsLeastStop terms unit fix since t choice

-- the least way of a unit that is off before period t, may start from t on, and has cold starts from t on
abbrev pub IsColdStart : Terms → Thermal → Fix → ℕ → Option Choice → Type 0
IsColdStart terms unit fix t choice =
    (since : ℕ) → since ≤ t → may_start unit since t ≡ true → IsCold unit since t → IsLeastStart terms unit fix since t choice

-- the least way from a start in period t on, where the unit may be on in it
pub record IsStartIn (terms : Terms) (unit : Thermal) (fix : Fix) (t : ℕ) (choice : Option Choice) : Type 0 where
  pub least : may_be_on fix t ≡ true → IsLeastStop terms unit fix (suc t) (suc t) choice
  pub none : may_be_on fix t ≡ false → choice ≡ None

-- the least way from a stop in period t on, where the unit may be off in it
pub record IsStopIn (terms : Terms) (unit : Thermal) (fix : Fix) (t : ℕ) (choice : Option Choice) : Type 0 where
  pub least : may_be_off unit fix t ≡ true → IsLeastStart terms unit fix (suc t) (suc t) choice
  pub none : may_be_off unit fix t ≡ false → choice ≡ None

-- a way with n periods left costs at most n + 1 moves in size
abbrev pub IsWithinMoves : ℕ → Option Choice → Type 0
IsWithinMoves n choice = IsWithin (MAX_MOVE * n + MAX_MOVE) (choice_cost choice)

-- an entry of the table is that of period t
pub record IsHour (terms : Terms) (unit : Thermal) (fix : Fix) (t : ℕ) (hour : Hour) : Type 0 where
  pub stay : Some hour.stay ≡ hour_before terms unit t false false
  pub stay_size : unsigned_abs hour.stay ≤ MAX_MOVE
  pub start_cost : hour.start_cost ≡ sigma unit None t
  pub on_until : IsUntil (may_be_on fix) (period_count terms) t hour.on_until
  pub off_until : IsUntil (may_be_off unit fix) (period_count terms) t hour.off_until
  pub start : IsStartIn terms unit fix t hour.start
  pub stop : IsStopIn terms unit fix t hour.stop
  pub onward : IsOnward terms unit fix t hour.onward
  pub onward_size : IsWithinMoves (period_count terms - t) hour.onward
  pub cold_start : IsColdStart terms unit fix t hour.cold_start
  pub cold_start_size : IsWithinMoves (period_count terms - t) hour.cold_start

-- the entry of the end of the horizon, which no minimum time bars
pub record IsEnd (terms : Terms) (unit : Thermal) (fix : Fix) (hour : Hour) : Type 0 where
  pub on_until : hour.on_until ≡ period_count terms
  pub off_until : hour.off_until ≡ period_count terms
  pub start : hour.start ≡ None
  pub stop : hour.stop ≡ None
  pub onward : (since : ℕ) → since < period_count terms → IsLeastStop terms unit fix since (period_count terms) hour.onward
  pub onward_size : IsWithinMoves 0 hour.onward
  pub cold_start : (since : ℕ) → since ≤ period_count terms → IsLeastStart terms unit fix since (period_count terms) hour.cold_start
  pub cold_start_size : IsWithinMoves 0 hour.cold_start

abbrev pub hour_in : List Hour → ℕ → Hour
hour_in hours t = slice_index_or hours t
    (record { stay = pos 0; start_cost = pos 0; on_until = 0; off_until = 0; start = None; stop = None; onward = None; cold_start = None })

-- its choices
abbrev pub choices_in : List Hour → Choices
choices_in hours t true = (hour_in hours t).start
choices_in hours t false = (hour_in hours t).stop

-- the table is right from period `from` on
pub record IsTableFrom (terms : Terms) (unit : Thermal) (fix : Fix) (from : ℕ) (hours : List Hour) : Type 0 where
  pub count : length hours ≡ suc (period_count terms)
  pub hour : (t : ℕ) → from ≤ t → t < period_count terms → IsHour terms unit fix t (hour_in hours t)
  pub end : IsEnd terms unit fix (hour_in hours (period_count terms))
