-- When the minimum times let a unit be switched, by its state before a period. A state is whether the unit is on, and since
-- when: 0 stands for a time before the first period, and suc s for the period s in which it was switched. Source: the rules M2
-- to M5 of the reference model by Knueven, Ostrowski and Watson, each said of the one period in which it decides.
--
-- Periods count from 0 here.
use Rattle.std.specs.Prelude.{ℕ, zero, suc, ◌+◌, ◌-◌, Bool, true, false, nat_le}
pub use Rattle.uc_model.specs.declared.instance.Thermal.{Thermal}

-- the state has lasted long enough to be left in period t: initially `left` periods remain, and a state that
-- was entered in the horizon lasts `most`
abbrev pub has_lasted : ℕ → ℕ → ℕ → ℕ → Bool
has_lasted left most zero t = nat_le left t
has_lasted left most (suc s) t = nat_le (s + most) t

-- M2 and M4, and M3 and M5
abbrev pub may_stop : Thermal → ℕ → ℕ → Bool
may_stop unit since t = has_lasted (unit.ut - unit.ut0) unit.ut since t

abbrev pub may_start : Thermal → ℕ → ℕ → Bool
may_start unit since t = has_lasted (unit.dt - unit.dt0) unit.dt since t

-- a unit that is on, or off, since then may be switched in period t
abbrev pub may_switch : Thermal → Bool → ℕ → ℕ → Bool
may_switch unit true since t = may_stop unit since t
may_switch unit false since t = may_start unit since t
