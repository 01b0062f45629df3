-- The term of a cell: the least reduced cost of a unit that is on for an hour, rounded down. Source: the
-- Lagrangian relaxation of the reference model by Knueven, Ostrowski and Watson, whose production cost is
-- the least cost of weights on the unit's points. A schedule is rational, so the weights are whole over any
-- denominator q; the term is the greatest whole number that bounds all of them.
use Rattle.std.specs.Prelude.{◌≡◌, ℕ, suc, List, ℤ, pos, ◌+ℤ◌, ◌-ℤ◌, ◌*ℤ◌, ◌≤ℤ◌}
pub use Rattle.uc_model.specs.Prelude.{point_of, output_of, weighted_total, weighted_output, weighted_cost}
use Rattle.uc_model.specs.Prelude.{Commitment, cap, thermal_unit}
pub use Rattle.uc_model.specs.declared.instance.Point.{Point}
pub use Rattle.uc_model.specs.declared.instance.Instance.{Instance}
use Rattle.dual_model.specs.Prices.{Table, pi_at, mu_at, up_at, down_at}

-- m bounds the reduced cost K*cost + A*p + B*r of each output p and reserve r >= 0 with p + r <= cap
pub record IsCellBound (points : List Point) (k a b cap m : ℤ) : Type 0 where
  pub below : (q : ℕ) (weight : ℕ → ℕ) (r : ℤ) → weighted_total points weight ≡ pos q → pos 0 ≤ℤ r →
      (weighted_output points weight +ℤ r) ≤ℤ (pos q *ℤ cap) →
      (pos q *ℤ m) ≤ℤ (k *ℤ weighted_cost points weight +ℤ a *ℤ weighted_output points weight +ℤ b *ℤ r)

-- the term: the greatest whole bound. There is none where cap < 0
pub record IsTerm (points : List Point) (k a b cap m : ℤ) : Type 0 where
  pub reachable : pos 0 ≤ℤ cap
  pub bound : IsCellBound points k a b cap m
  pub greatest : (n : ℤ) → IsCellBound points k a b cap n → n ≤ℤ m

-- A of a cell, the price of output above the minimum: -pi(t) + up(t) - up(t+1) - down(t) + down(t+1)
abbrev pub output_price : Table → ℕ → ℕ → ℤ
output_price table g t = up_at table g t -ℤ pi_at table t -ℤ up_at table g (suc t) -ℤ down_at table g t +ℤ down_at table g (suc t)

-- B of a cell, the price of reserve: -mu(t) + up(t)
abbrev pub reserve_price : Table → ℕ → ℕ → ℤ
reserve_price table g t = up_at table g t -ℤ mu_at table t

-- m is the term of unit g in period t under the commitment
abbrev pub IsTermAt : Instance → Table → ℕ → Commitment → ℕ → ℤ → Type 0
IsTermAt instance table g on t m =
    let unit = thermal_unit instance g in
    IsTerm unit.points table.k (output_price table g t) (reserve_price table g t) (cap instance.periods unit on t) m
