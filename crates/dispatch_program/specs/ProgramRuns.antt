-- The run of a program's table from its start, in which all columns before the artificial ones may enter, and how it ends.
-- Source: the simplex method in two phases (G. B. Dantzig, "Linear Programming and Extensions", 1963).
use Rattle.std.specs.Prelude.{◌≡◌, ℕ, ◌+◌, ◌<◌, ◌⊎◌, None, pos, ◌<ℤ◌}
use Rattle.pivot_run.specs.Prelude.{Table, leaving, number, State, state_after, state_of}
use Rattle.pivot_run.specs.Stages.{plan_at}
use Rattle.dispatch_program.specs.Programs.{Program, RightSide, place, start_table, free_columns}
use Rattle.dispatch_program.specs.LastTables.{IsReached, NoneEnters, NoSumIsLeft, HasZeros}

-- the state after n pivots
abbrev pub state_at : Program → ℕ → State
state_at p n = state_after (free_columns p) (state_of (start_table p) 0) n

abbrev pub RunsReachTables : Type 0
RunsReachTables = (p : Program) (n : ℕ) → IsReached p (state_at p n).table

-- ---- the end
-- a sum is left, and no column enters by its row: the rules can't be obeyed
abbrev pub SumIsLeft : Program → Table → Type 0
SumIsLeft p t = (number t p.rules (place p RightSide) <ℤ pos 0) × NoneEnters p t p.rules

-- none is left, and no column enters by the row of the cost: the basis is a cheapest one
abbrev pub IsCheapest : Program → Table → Type 0
IsCheapest p t = NoSumIsLeft p t × NoneEnters p t (p.rules + 1)

-- none is left, and column j enters by the row of the cost, where the artificial columns have nothing, but no row leaves
pub record FindsNoRow (p : Program) (t : Table) (j : ℕ) : Type 0 where
  pub none : NoSumIsLeft p t
  pub free : j < free_columns p
  pub zeros : HasZeros p t j
  pub below : number t (p.rules + 1) j <ℤ pos 0
  pub stays : leaving t j t.constraints ≡ None

abbrev pub IsStuck : Program → Table → Type 0
IsStuck p t = (j : ℕ) × FindsNoRow p t j

abbrev pub RunsEnd : Type 0
RunsEnd =
    (p : Program) (n : ℕ) → plan_at (free_columns p) (state_at p n) ≡ None
    → SumIsLeft p (state_at p n).table ⊎ (IsCheapest p (state_at p n).table ⊎ IsStuck p (state_at p n).table)
