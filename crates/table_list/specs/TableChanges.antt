-- What contracts see of the changes that a list of tables keeps, and which tables may stand in one list.
use Rattle.std.specs.Prelude.{◌≡◌, List, Option, length, map, slice_get, ◌-◌}
use Rattle.table_list.specs.Changes.{Table, Change, OfDemand, OfReserve, OfRamps}
pub use Rattle.table_list.specs.declared.change.Change.{Change as KeptChange}
use Rattle.table_list.specs.declared.change.Change.TheVariants as kept

abbrev pub change_of : KeptChange → Change
change_of (kept.Demand t price) = OfDemand t price
change_of (kept.Reserve t price) = OfReserve t price
change_of (kept.Ramps row) = OfRamps row

abbrev pub changes_of : List KeptChange → List Change
changes_of changes = map change_of changes

-- tables of one system: they have as many units and periods
pub record AreAlike (first second : Table) : Type 0 where
  pub units : first.units ≡ second.units
  pub periods : length first.pi ≡ length second.pi

-- the last one of those so far
abbrev pub last_table : List Table → Option Table
last_table tables = slice_get tables (length tables - 1)
