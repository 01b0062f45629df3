-- The value of one unit by its terms: the least over its patterns. Source: the single-unit problems of the
-- Lagrangian relaxation of the reference model by Knueven, Ostrowski and Watson, with the start cost that
-- the last stop alone allows in place of the category's.
use Rattle.std.specs.Prelude.{◌≡◌, ℕ, suc, Bool, ◌&&◌, nat_lt, ℤ, pos, ◌+ℤ◌, ◌-ℤ◌, ◌*ℤ◌, ◌≤ℤ◌, IsTrue, unwrap_or, if◌then◌else◌}
use Rattle.uc_model.specs.Prelude.{sum_below, Commitment, starts, stops, is_allowed, last_stop, sigma, period_count, term_at, price_at}
pub use Rattle.uc_model.specs.declared.instance.Thermal.{Thermal}
pub use Rattle.uc_model.specs.declared.terms.Terms.{Terms}
use Rattle.dual_model.specs.Fixings.{fix_agrees}
pub use Rattle.dual_model.specs.declared.node.Fix.{Fix}

-- a pattern of the unit: allowed, and as the fix decides
pub record IsPattern (periods : ℕ) (unit : Thermal) (fix : Fix) (on : Commitment) : Type 0 where
  pub allowed : IsTrue (is_allowed periods unit on)
  pub agrees : IsTrue (fix_agrees periods fix on)

-- a stop follows the period t
abbrev pub is_followed : ℕ → Thermal → Commitment → ℕ → Bool
is_followed periods unit on t = stops unit on (suc t) && nat_lt (suc t) periods

-- the term of an on cell of the pattern; each of an allowed pattern has one
abbrev pub term_of : Terms → Thermal → Commitment → ℕ → ℤ
term_of terms unit on t = unwrap_or (term_at terms t (starts unit on t) (is_followed (period_count terms) unit on t)) (pos 0)

-- the value of a period: the term less the price of the minimum output where the unit is on, and K times
-- the least start cost at a start
abbrev pub period_value : Terms → Thermal → Commitment → ℕ → ℤ
period_value terms unit on t =
    (if on t then term_of terms unit on t -ℤ price_at terms t *ℤ unit.pmin else pos 0)
    +ℤ (if starts unit on t then terms.k *ℤ sigma unit (last_stop unit on t) t else pos 0)

abbrev pub pattern_value : Terms → Thermal → Commitment → ℤ
pattern_value terms unit on = sum_below (period_count terms) (period_value terms unit on)

-- v is the least value of a pattern
pub record IsLeastValue (terms : Terms) (unit : Thermal) (fix : Fix) (v : ℤ) : Type 0 where
  pub on : Commitment
  pub pattern : IsPattern (period_count terms) unit fix on
  pub value : v ≡ pattern_value terms unit on
  pub least : (other : Commitment) → IsPattern (period_count terms) unit fix other → v ≤ℤ pattern_value terms unit other

-- there is no pattern
abbrev pub HasNoPattern : Terms → Thermal → Fix → Type 0
HasNoPattern terms unit fix = (on : Commitment) → ¬ IsPattern (period_count terms) unit fix on
