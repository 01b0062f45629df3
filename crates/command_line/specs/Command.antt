-- What the words of the command line ask for. This project's own commands.
use Rattle.std.specs.Prelude.{ℕ, Bool, false, List, [], Option, Some, None, codes, unwrap_or, option_and_then, if◌then◌else◌}
use Rattle.std.specs.Option.{option_map_or}
use Rattle.std.specs.Str.{bytes_eq}
use Rattle.std.specs.Str.Parse.{digits_value, without_leading_plus}
use Rattle.clap.specs.ValueTests.{is_unsigned_in}
use Rattle.clap.specs.Words.{Row, Text, first_of, one_of, subcommand_of}
use Rattle.command_line.specs.Arguments.{program, is_taken}

-- what `solve` is asked: the instance's file, the certificate's, the budget of claims, the number of workers, the gap in parts per
-- million of a cost at which a search is closed, whether a rounded number is refused, whether bounds keep ramps in each unit, whether a
-- commitment whose cells are all decided is dispatched exactly, and the prices of unserved demand and of missing reserve in micro-dollars for
-- a watt and an hour, 0 where there is none
pub record Solve : Type 0 where
  pub instance : List ℕ
  pub certificate : List ℕ
  pub units : ℕ
  pub workers : ℕ
  pub gap : ℕ
  pub exact : Bool
  pub exact_units : Bool
  pub pivot : Bool
  pub shed : ℕ
  pub spill_reserve : ℕ

-- what `check` is asked: the instance's file, the certificate's, and the prices, as `solve` is
pub record Check : Type 0 where
  pub instance : List ℕ
  pub certificate : List ℕ
  pub shed : ℕ
  pub spill_reserve : ℕ

-- what `demo` is asked: the seed
pub record Demo : Type 0 where
  pub seed : ℕ

-- what `upgrade` is asked: the file of the certificate that is read, and of the one that is written
pub record Upgrade : Type 0 where
  pub certificate : List ℕ
  pub to : List ℕ

-- what `uplift` is asked: what `check` is of the certificate, and the number of a table, from 1
pub record Uplift : Type 0 where
  pub check : Check
  pub table : ℕ

-- what `roll` is asked: the instance's file, how many periods a window has, how many of them are kept, and the rest as `solve` is
pub record Roll : Type 0 where
  pub instance : List ℕ
  pub window : ℕ
  pub step : ℕ
  pub units : ℕ
  pub workers : ℕ
  pub gap : ℕ
  pub exact : Bool
  pub shed : ℕ
  pub spill_reserve : ℕ

-- what the program does
pub data Command : Type 0 where
  Solves : Solve → Command
  Checks : Check → Command
  Demos : Demo → Command
  Upgrades : Upgrade → Command
  Uplifts : Uplift → Command
  Rolls : Roll → Command

-- the value of an argument that has to be given, and so is
abbrev pub value_of : Text → List Row → List ℕ
value_of id rows = unwrap_or (first_of id rows) []

-- whether a switch is given
abbrev pub is_on : Text → List Row → Bool
is_on id rows = option_map_or (λ text. bytes_eq text (codes "true")) (first_of id rows) false

-- the whole number that a text writes, where it is from the least to the most, as each one is that the parser lets through; else the least
abbrev pub whole_within : ℕ → ℕ → Text → ℕ
whole_within least most text = if is_unsigned_in least most text then digits_value 10 (without_leading_plus text) else least

-- the number of an argument, and the least where it has none
abbrev pub number_of : ℕ → ℕ → Text → List Row → ℕ
number_of least most id rows = option_map_or (whole_within least most) (one_of id rows) least

abbrev pub solve_of : List Row → Solve
solve_of rows = record {
  instance = value_of (codes "instance") rows;
  certificate = value_of (codes "cert") rows;
  units = number_of 1 1000000 (codes "units") rows;
  workers = number_of 1 64 (codes "workers") rows;
  gap = number_of 0 1000000 (codes "gap") rows;
  exact = is_on (codes "exact") rows;
  exact_units = is_on (codes "exact-units") rows;
  pivot = is_on (codes "pivot") rows;
  shed = number_of 0 1000000 (codes "shed") rows;
  spill_reserve = number_of 0 1000000 (codes "spill-reserve") rows;
}

abbrev pub check_of : List Row → Check
check_of rows = record {
  instance = value_of (codes "instance") rows;
  certificate = value_of (codes "certificate") rows;
  shed = number_of 0 1000000 (codes "shed") rows;
  spill_reserve = number_of 0 1000000 (codes "spill-reserve") rows;
}

abbrev pub demo_of : List Row → Demo
demo_of rows = record { seed = number_of 0 4294967295 (codes "seed") rows }

abbrev pub upgrade_of : List Row → Upgrade
upgrade_of rows = record { certificate = value_of (codes "certificate") rows; to = value_of (codes "cert") rows }

abbrev pub uplift_of : List Row → Uplift
uplift_of rows = record { check = check_of rows; table = number_of 1 1000002 (codes "table") rows }

abbrev pub roll_of : List Row → Roll
roll_of rows = record {
  instance = value_of (codes "instance") rows;
  window = number_of 1 168 (codes "window") rows;
  step = number_of 1 168 (codes "step") rows;
  units = number_of 1 1000000 (codes "units") rows;
  workers = number_of 1 64 (codes "workers") rows;
  gap = number_of 0 1000000 (codes "gap") rows;
  exact = is_on (codes "exact") rows;
  shed = number_of 0 1000000 (codes "shed") rows;
  spill_reserve = number_of 0 1000000 (codes "spill-reserve") rows;
}

-- the command of a name, with what was found for its arguments
abbrev pub named : Text × List Row → Option Command
named given =
    if bytes_eq given.0 (codes "solve") then Some (Solves (solve_of given.1))
    else (if bytes_eq given.0 (codes "check") then Some (Checks (check_of given.1))
    else (if bytes_eq given.0 (codes "demo") then Some (Demos (demo_of given.1))
    else (if bytes_eq given.0 (codes "upgrade") then Some (Upgrades (upgrade_of given.1))
    else (if bytes_eq given.0 (codes "uplift") then Some (Uplifts (uplift_of given.1))
    else (if bytes_eq given.0 (codes "roll") then Some (Rolls (roll_of given.1)) else None)))))

-- the command that the words ask for, where they are taken: then there is one
unfoldable pub command_of : List Text → Option Command
command_of words = if is_taken words then option_and_then named (subcommand_of program words) else None
