-- The problem of one thermal unit at a price table: how large its ways are. The limits are this project's.
use Rattle.std.specs.Prelude.{ℕ, ◌*◌, ◌^◌}
pub use Rattle.hull_function.specs.Problems.{Table, Thermal}

-- a run or a start costs at most this in size
abbrev pub MAX_SWITCH : ℕ
MAX_SWITCH = 168 * 10 ^ 29

-- a way through all periods costs at most this, as it is added up
abbrev pub MAX_WAY : ℕ
MAX_WAY = 10 ^ 34
