-- Where an output lies among the corners.
use Rattle.std.specs.Prelude.{◌≡◌, ℕ, suc, ◌<◌, List, ℤ, pos, ◌≤ℤ◌, ◌<ℤ◌, ◌⊎◌, length}
use Rattle.uc_model.specs.Prelude.{output_of}
use Rattle.uc_model.specs.declared.instance.Point.{Point}

-- the output lies between two corners that follow one another, or at the one that is alone; right of the left one unless it is 0
pub record HoldsOutput (corners : List Point) (p : ℤ) (left right : ℕ) : Type 0 where
  pub left_within : left < length corners
  pub right_within : right < length corners
  pub beside : ((left ≡ right) × (length corners ≡ 1)) ⊎ (right ≡ suc left)
  pub begins : output_of corners left ≤ℤ p
  pub reaches : p ≤ℤ output_of corners right
  pub first : pos 0 <ℤ p → output_of corners left <ℤ p
