-- What the multipliers of a cell's limits make of it, on the lower hull of its unit's points.
-- Source: duality of linear programs (G. B. Dantzig, "Linear Programming and Extensions", 1963).
use Rattle.std.specs.Prelude.{◌≡◌, ℕ, suc, ◌-◌, ◌<◌, List, ℤ, pos, ◌+ℤ◌, ◌-ℤ◌, ◌*ℤ◌, ◌≤ℤ◌, length}
use Rattle.uc_model.specs.Prelude.{sum_below, point_of}
use Rattle.cost_curves.specs.LowerHull.{Point}

-- segment i of the hull, from corner i to the next: how wide it is, and how far it rises
abbrev pub width_at : List Point → ℕ → ℤ
width_at corners i = (point_of corners (suc i)).mw -ℤ (point_of corners i).mw

abbrev pub rise_at : List Point → ℕ → ℤ
rise_at corners i = (point_of corners (suc i)).cost -ℤ (point_of corners i).cost

abbrev pub segments : List Point → ℕ
segments corners = length corners - 1

-- the multipliers of a cell's rules: k times the slope of each segment, the multiplier of its length's limit, and that of both caps
-- together; each column's number in the last row is at least 0
pub record IsPricedCell (corners : List Point) (k a b both : ℤ) (slope limit : ℕ → ℤ) : Type 0 where
  pub scale : pos 0 ≤ℤ k
  pub slopes : (i : ℕ) → suc i < length corners → slope i *ℤ width_at corners i ≡ k *ℤ rise_at corners i
  pub limits : (i : ℕ) → suc i < length corners → pos 0 ≤ℤ limit i
  pub caps : pos 0 ≤ℤ both
  pub lengths : (i : ℕ) → suc i < length corners → pos 0 ≤ℤ (slope i +ℤ a +ℤ limit i +ℤ both)
  pub reserve : pos 0 ≤ℤ (b +ℤ both)

-- the number that these make a bound of the cell, `paid` being what the caps are worth
abbrev pub cell_bound : List Point → ℤ → (ℕ → ℤ) → ℤ → ℤ
cell_bound corners k limit paid =
    k *ℤ (point_of corners 0).cost -ℤ sum_below (segments corners) (λ i. limit i *ℤ width_at corners i) -ℤ paid
