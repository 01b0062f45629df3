-- The value of one thermal unit at a table: the least reduced cost of its patterns. Source: the single-unit
-- problems of the Lagrangian relaxation of the reference model by Knueven, Ostrowski and Watson, with
-- the start cost that the last stop alone allows in place of the category's.
use Rattle.std.specs.Prelude.{◌≡◌, ℕ, ◌<◌, ℤ, pos, ◌+ℤ◌, ◌-ℤ◌, ◌*ℤ◌, ◌≤ℤ◌, IsTrue, if◌then◌else◌}
use Rattle.uc_model.specs.Prelude.{sum_below, Commitment, starts, last_stop, sigma, thermal_unit}
pub use Rattle.uc_model.specs.declared.instance.Thermal.{Thermal}
use Rattle.dual_model.specs.Prices.{Instance, Table, pi_at}
use Rattle.dual_model.specs.Fixings.{Node, IsPatternAt}
use Rattle.dual_model.specs.Term.{IsTermAt}

-- the value of a period, given the term of each on cell: the term less the price of the minimum output where
-- the unit is on, and K times the least start cost at a start
abbrev pub period_value : Table → Thermal → Commitment → (ℕ → ℤ) → ℕ → ℤ
period_value table unit on term t =
    (if on t then term t -ℤ pi_at table t *ℤ unit.pmin else pos 0)
    +ℤ (if starts unit on t then table.k *ℤ sigma unit (last_stop unit on t) t else pos 0)

-- v is the value of the pattern for unit g
pub record IsPatternValue (instance : Instance) (table : Table) (g : ℕ) (on : Commitment) (v : ℤ) : Type 0 where
  pub term : ℕ → ℤ
  pub terms : (t : ℕ) → t < instance.periods → IsTrue (on t) → IsTermAt instance table g on t (term t)
  pub total : v ≡ sum_below instance.periods (period_value table (thermal_unit instance g) on term)

-- the pattern has the value v, and no pattern of unit g at the node has a lower one
pub record IsBestPattern (instance : Instance) (node : Node) (table : Table) (g : ℕ) (on : Commitment) (v : ℤ) : Type 0 where
  pub pattern : IsPatternAt instance node g on
  pub value : IsPatternValue instance table g on v
  pub least : (other : Commitment) (w : ℤ) → IsPatternAt instance node g other →
      IsPatternValue instance table g other w → v ≤ℤ w

-- v is the value of unit g at the node and the table; there is none where the unit has no pattern there
pub record IsUnitValue (instance : Instance) (node : Node) (table : Table) (g : ℕ) (v : ℤ) : Type 0 where
  pub on : Commitment
  pub best : IsBestPattern instance node table g on v
