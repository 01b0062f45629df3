-- What the table says of a period from which a way goes on, be it one of the horizon or its end.
use Rattle.std.proofs.Common.{◌≡◌, ℕ, ◌<◌, ◌≤◌, true, List, arith}
use Rattle.uc_model.specs.Prelude.{period_count, may_start, may_stop}
use Rattle.dual_model.specs.Prelude.{may_be_off, may_be_on}
use Rattle.unit_path.specs.inside.Choices.{Fix, Terms, Thermal, IsLeastStart, IsLeastStop}
use Rattle.unit_path.specs.inside.Hours.{Hour, hour_in, IsCold, IsTableFrom, IsUntil}

pub onward-entry : (terms : Terms) (unit : Thermal) (fix : Fix) (from : ℕ) (hours : List Hour) → IsTableFrom terms unit fix from hours
    → (since t : ℕ) → from ≤ t → since < t → t ≤ period_count terms → (t < period_count terms → may_stop unit since t ≡ true)
    → IsLeastStop terms unit fix since t (hour_in hours t).onward
onward-entry terms unit fix from hours table since t low h high may = grind (arith, table, low, h, high, may)

pub cold_start-entry : (terms : Terms) (unit : Thermal) (fix : Fix) (from : ℕ) (hours : List Hour) → IsTableFrom terms unit fix from hours
    → (since t : ℕ) → from ≤ t → since ≤ t → t ≤ period_count terms → (t < period_count terms → may_start unit since t ≡ true) → (t < period_count terms → IsCold unit since t)
    → IsLeastStart terms unit fix since t (hour_in hours t).cold_start
cold_start-entry terms unit fix from hours table since t low h high may cold = grind (arith, table, low, h, high, may, cold)

pub on_until-entry : (terms : Terms) (unit : Thermal) (fix : Fix) (from : ℕ) (hours : List Hour) → IsTableFrom terms unit fix from hours
    → (t : ℕ) → from ≤ t → t ≤ period_count terms → IsUntil (may_be_on fix) (period_count terms) t (hour_in hours t).on_until
on_until-entry terms unit fix from hours table t low high = grind (arith, table, low, high)

pub off_until-entry : (terms : Terms) (unit : Thermal) (fix : Fix) (from : ℕ) (hours : List Hour) → IsTableFrom terms unit fix from hours
    → (t : ℕ) → from ≤ t → t ≤ period_count terms → IsUntil (may_be_off unit fix) (period_count terms) t (hour_in hours t).off_until
off_until-entry terms unit fix from hours table t low high = grind (arith, table, low, high)
