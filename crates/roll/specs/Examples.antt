-- Two hours solved one by one: what the first leaves to the second, and how a whole breaks a rule whose windows break none, where
-- less is left. The unit is uc_model's, of 10 to 50 MW, on initially at 20 MW.
use Rattle.std.specs.Prelude.{ℕ, true, [], ◌∷◌, ℤ, pos}
use Rattle.uc_model.specs.Prelude.{Example, base_unit, cold_unit, mw, system}
use Rattle.uc_model.specs.Examples.{cells}
use Rattle.roll.specs.Left.{Thermal, Cell, CarriedUnit}
use Rattle.roll.specs.NextWindow.{continued}

-- a ramp of 5 MW an hour both ways
abbrev pub slow_unit : Thermal
slow_unit = record base_unit { ru = mw 5; rd = mw 5 }

-- a shut-down limit of 15 MW
abbrev pub low_stop_unit : Thermal
low_stop_unit = record base_unit { sd = mw 15 }

-- off initially, with a minimum up time of 2 hours
abbrev pub two_hour_unit : Thermal
two_hour_unit = record cold_unit { ut = 2 }

-- both hours, with their demand and the reserve of the first
abbrev pub whole : Thermal → ℤ → ℤ → ℤ → Cell → Cell → Example
whole unit first second reserve one two = record {
  instance = system unit (first ∷ second ∷ []) (reserve ∷ pos 0 ∷ []);
  printed = cells (one ∷ two ∷ []);
}

-- the second hour alone, from a state
abbrev pub second_hour : Thermal → CarriedUnit → ℤ → Cell → Example
second_hour unit state demand cell = record {
  instance = system (continued unit state) (demand ∷ []) (pos 0 ∷ []);
  printed = cells (cell ∷ []);
}

-- on at an output, for some hours
abbrev pub on_at : ℤ → ℕ → CarriedUnit
on_at output time = record { on = true; output = output; time_on = time; time_off = 0 }
