-- What the last stop adds to the categories that a start may use. Source: the rule of the reference model by Knueven,
-- Ostrowski and Watson on which category a start may use, by the last stop alone.
use Rattle.std.specs.Prelude.{ℕ, suc, Bool, ◌&&◌, nat_lt, nat_le, List, pos, slice_index_or}
use Rattle.uc_model.specs.declared.instance.StartRow.{StartRow}

abbrev pub row_of : List StartRow → ℕ → StartRow
row_of rows s = slice_index_or rows s (record { lag = 0; cost = pos 0 })

-- a stop `gap` periods before t allows category s + 1, whose next one's lag is reached in the horizon
abbrev pub is_within_lags : List StartRow → ℕ → ℕ → ℕ → Bool
is_within_lags rows s gap t =
    (nat_lt gap (row_of rows (suc s)).lag && nat_le (row_of rows (suc s)).lag (suc t))
    && nat_lt (row_of rows s).lag (row_of rows (suc s)).lag
