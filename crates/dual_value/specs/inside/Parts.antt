-- How large the numbers of a priced part are.
use Rattle.std.specs.Prelude.{◌≤◌, unsigned_abs}
use Rattle.dual_model.specs.Prelude.{MAX_COST_TO_GO}
use Rattle.ramp_duals.specs.Sizes.{MAX_CONSTANT}
pub use Rattle.dual_value.specs.declared.exact_part.Priced.{Priced}

pub record IsSizedPart (priced : Priced) : Type 0 where
  pub value : unsigned_abs priced.value ≤ MAX_COST_TO_GO
  pub constant : unsigned_abs priced.constant ≤ MAX_CONSTANT
