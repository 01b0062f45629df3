-- The corner of least reduced cost on a lower hull, and the segment that holds a cap.
use Rattle.std.specs.Prelude.{◌≡◌, ℕ, suc, ◌*◌, ◌^◌, ◌<◌, ◌≤◌, List, ℤ, ◌+ℤ◌, ◌-ℤ◌, ◌*ℤ◌, ◌≤ℤ◌, ◌<ℤ◌, length}
use Rattle.uc_model.specs.Prelude.{point_of, output_of}
pub use Rattle.uc_model.specs.declared.instance.Point.{Point}

-- the reduced cost of corner i without reserve
abbrev pub corner_cost : List Point → ℤ → ℤ → ℕ → ℤ
corner_cost corners k a i = k *ℤ (point_of corners i).cost +ℤ a *ℤ output_of corners i

-- how far it lies left of the cap
abbrev pub over_of : List Point → ℤ → ℕ → ℤ
over_of corners cap i = cap -ℤ output_of corners i

-- the rise and the run of the segment from it to the next one
abbrev pub rise_of : List Point → ℕ → ℤ
rise_of corners i = (point_of corners (suc i)).cost -ℤ (point_of corners i).cost

abbrev pub run_of : List Point → ℕ → ℤ
run_of corners i = output_of corners (suc i) -ℤ output_of corners i

-- neither neighbour of corner i costs less
pub record IsLeastPlace (corners : List Point) (k a : ℤ) (i : ℕ) : Type 0 where
  pub within : i < length corners
  pub left : (j : ℕ) → suc j ≡ i → corner_cost corners k a i ≤ℤ corner_cost corners k a j
  pub right : suc i < length corners → corner_cost corners k a i ≤ℤ corner_cost corners k a (suc i)

-- the segment from corner i holds the cap, but for its right end, and ends no further right than corner `place`
pub record HoldsCap (corners : List Point) (cap : ℤ) (i place : ℕ) : Type 0 where
  pub within : suc i ≤ place
  pub begins : output_of corners i ≤ℤ cap
  pub reaches : cap <ℤ output_of corners (suc i)

-- the cap lies on the segment from corner i to the next one, but for its right end
pub record LiesOnSegment (corners : List Point) (cap : ℤ) (i : ℕ) : Type 0 where
  pub within : suc i < length corners
  pub begins : output_of corners i ≤ℤ cap
  pub reaches : cap <ℤ output_of corners (suc i)

-- the sizes of these numbers
abbrev pub MAX_CORNER_COST : ℕ
MAX_CORNER_COST = 3 * 10 ^ 28

abbrev pub MAX_RISE : ℕ
MAX_RISE = 10 ^ 22

abbrev pub MAX_OVER : ℕ
MAX_OVER = 4 * 10 ^ 13

abbrev pub MAX_LEAST : ℕ
MAX_LEAST = 8 * 10 ^ 28
