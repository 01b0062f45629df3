-- The value that a `Json` in memory is.
use Rattle.std.specs.Prelude.{ℕ, List}
use Rattle.std.specs.String.{string_bytes}
pub use Rattle.decimal_json.specs.declared.types.Number.{Number}
pub use Rattle.decimal_json.specs.declared.types.Json.{Json, fold-Json}
use Rattle.decimal_json.specs.declared.types.Json.TheOpen.{Json-F}
pub use Rattle.decimal_json.specs.declared.types.Pair.{Pair, Pair-F, fold-Pair}
use Rattle.decimal_json.specs.Value.{Decimal, Value, null, boolean, number, text, array, object, items_of, members_of}

abbrev pub decimal_of : Number → Decimal
decimal_of n = record { negative = n.negative; digits = n.digits.items; exponent = n.exponent }

-- one level, with each value and each member inside already seen
abbrev pub view_step : Json-F Value (List ℕ × Value) → Value
view_step Json-F.Null = null
view_step (Json-F.Bool b) = boolean b
view_step (Json-F.Number n) = number (decimal_of n)
view_step (Json-F.Text t) = text (string_bytes t)
view_step (Json-F.Array v) = array (items_of v.items)
view_step (Json-F.Object v) = object (members_of v.items)

abbrev pub pair_step : Pair-F Value (List ℕ × Value) → List ℕ × Value
pair_step p = (string_bytes p.key, p.value)

abbrev pub view : Json → Value
view = fold-Json Value (List ℕ × Value) view_step pair_step

-- a member of an object, as its key and its value
abbrev pub pair_view : Pair → List ℕ × Value
pair_view = fold-Pair Value (List ℕ × Value) view_step pair_step
