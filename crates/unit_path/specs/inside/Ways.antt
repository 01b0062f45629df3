-- The way of a pattern from the initial state to the end of the horizon.
use Rattle.std.specs.Prelude.{◌≡◌, ℕ, ◌≤◌, false, ℤ, Some}
use Rattle.uc_model.specs.Prelude.{commitment_of, period_count}
pub use Rattle.uc_model.specs.declared.instance.Thermal.{Thermal}
pub use Rattle.uc_model.specs.declared.pattern.Pattern.{Pattern}
pub use Rattle.uc_model.specs.declared.terms.Terms.{Terms}
pub use Rattle.dual_model.specs.declared.node.Fix.{Fix}
use Rattle.dual_model.specs.Prelude.{way}

-- the pattern's way from the initial state on has this cost, and past the last period the pattern is off
pub record IsWay (terms : Terms) (unit : Thermal) (fix : Fix) (cost : ℤ) (pattern : Pattern) : Type 0 where
  pub attained : way terms unit fix (commitment_of pattern) (period_count terms) 0 unit.on0 0 ≡ Some cost
  pub after : (t : ℕ) → period_count terms ≤ t → commitment_of pattern t ≡ false
