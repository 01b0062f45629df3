-- The commands of the program with their arguments, as the command-line parser clap sees them, and when its rule for simple
-- commands takes words. The commands are this project's own; the rule is that of clap 4.
--
-- Help is no argument and no command here, so words that ask for it are refused like any others that aren't taken.
use Rattle.std.specs.Prelude.{Bool, ℕ, true, false, List, [], ◌∷◌, pos, Some, codes}
use Rattle.clap.specs.Words.{App, Kinds, Rule, Shape, Text, new_rule, fault_of}
use Rattle.clap.specs.Simple.{new_shape}
use Rattle.clap.specs.declared.builder.action.ArgAction.TheVariants.{SetTrue}
use Rattle.clap.specs.declared.builder.value_parser.ValueParser.TheVariants.{Signed}

-- a value that is told by its place, and has to be given
abbrev pub place : Text → Rule
place id = record (new_rule id) { required = true }

-- `--NAME VALUE`, which has to be given
abbrev pub needed_option : Text → Rule
needed_option name = record (new_rule name) { long = Some name; required = true }

-- `--NAME N`, a whole number from the least to the most
abbrev pub number_option : Text → ℕ → ℕ → Rule
number_option name least most = record (new_rule name) { long = Some name; parser = Some (Signed (pos least) (pos most)) }

-- `--units N`, a whole number from 1 to a million, which is 1000 where the option isn't given
abbrev pub units_option : Rule
units_option = record (number_option (codes "units") 1 1000000) { defaults = codes "1000" ∷ [] }

-- `--workers N`, a whole number from 1 to 64, which is 1 where the option isn't given
abbrev pub workers_option : Rule
workers_option = record (number_option (codes "workers") 1 64) { defaults = codes "1" ∷ [] }

-- `--gap PPM`, a whole number from 0 to a million, which is 1000 where the option isn't given
abbrev pub gap_option : Rule
gap_option = record (number_option (codes "gap") 0 1000000) { defaults = codes "1000" ∷ [] }

-- `--NAME PRICE`, a whole number from 1 to a million, which may be left out
abbrev pub price_option : Text → Rule
price_option name = number_option name 1 1000000

-- `--NAME HOURS`, a number of periods from 1 to 168, which has to be given
abbrev pub hours_option : Text → Rule
hours_option name = record (number_option name 1 168) { required = true }

-- `--table K`, the number of a table, a whole number from 1 to a million and two, which is 1 where the option isn't given
abbrev pub table_option : Rule
table_option = record (number_option (codes "table") 1 1000002) { defaults = codes "1" ∷ [] }

-- `--NAME`
abbrev pub switch : Text → Rule
switch name = record (new_rule name) { long = Some name; action = Some SetTrue }

-- `solve FILE --cert FILE [--units N] [--workers N] [--gap PPM] [--exact] [--exact-units] [--pivot] [--shed PRICE] [--spill-reserve PRICE]`
abbrev pub solve_shape : Shape
solve_shape = record (new_shape (codes "solve")) {
  rules = place (codes "instance") ∷ needed_option (codes "cert") ∷ units_option ∷ workers_option ∷ gap_option
      ∷ switch (codes "exact") ∷ switch (codes "exact-units") ∷ switch (codes "pivot") ∷ price_option (codes "shed")
      ∷ price_option (codes "spill-reserve") ∷ [];
}

-- `check FILE CERT [--shed PRICE] [--spill-reserve PRICE]`
abbrev pub check_shape : Shape
check_shape = record (new_shape (codes "check")) {
  rules = place (codes "instance") ∷ place (codes "certificate") ∷ price_option (codes "shed")
      ∷ price_option (codes "spill-reserve") ∷ [];
}

-- a whole number from 0 that 32 bits hold, told by its place, which has to be given
abbrev pub seed_place : Rule
seed_place = record (new_rule (codes "seed")) { parser = Some (Signed (pos 0) (pos 4294967295)); required = true }

-- `demo SEED`
abbrev pub demo_shape : Shape
demo_shape = record (new_shape (codes "demo")) { rules = seed_place ∷ [] }

-- `upgrade CERT --cert FILE`
abbrev pub upgrade_shape : Shape
upgrade_shape = record (new_shape (codes "upgrade")) { rules = place (codes "certificate") ∷ needed_option (codes "cert") ∷ [] }

-- `uplift FILE CERT [--table K] [--shed PRICE] [--spill-reserve PRICE]`
abbrev pub uplift_shape : Shape
uplift_shape = record (new_shape (codes "uplift")) {
  rules = place (codes "instance") ∷ place (codes "certificate") ∷ table_option ∷ price_option (codes "shed")
      ∷ price_option (codes "spill-reserve") ∷ [];
}

-- `roll FILE --window H --step S [--units N] [--workers N] [--gap PPM] [--exact] [--shed PRICE] [--spill-reserve PRICE]`
abbrev pub roll_shape : Shape
roll_shape = record (new_shape (codes "roll")) {
  rules = place (codes "instance") ∷ hours_option (codes "window") ∷ hours_option (codes "step") ∷ units_option ∷ workers_option ∷ gap_option
      ∷ switch (codes "exact") ∷ price_option (codes "shed") ∷ price_option (codes "spill-reserve") ∷ [];
}

-- the program has to be given one of the six
abbrev pub program : App
program = record {
  top = record (new_shape (codes "uc")) {
    is_leaf = false;
    subcommand_required = true;
    disable_help_flag = true;
    disable_help_subcommand = true;
  };
  subs = solve_shape ∷ check_shape ∷ demo_shape ∷ upgrade_shape ∷ uplift_shape ∷ roll_shape ∷ [];
}

-- no kind of error may come
abbrev pub is_none : Kinds → Bool
is_none [] = true
is_none (kind ∷ kinds) = false

-- the words, of which the first is the program's name, are taken: clap's rule finds no fault in them
unfoldable pub is_taken : List Text → Bool
is_taken words = is_none (fault_of program words)
