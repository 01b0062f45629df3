-- The least reduced cost of a cell itself, as a fraction: the term is its floor. Source: the Lagrangian relaxation of the reference
-- model by Knueven, Ostrowski and Watson, as the term; the bound of an exact dispatch isn't rounded.
use Rattle.std.specs.Prelude.{◌≡◌, ℕ, ◌<◌, ◌≤◌, List, ℤ, pos, ◌+ℤ◌, ◌*ℤ◌, ◌≤ℤ◌, ◌<ℤ◌, IsTrue}
use Rattle.uc_model.specs.Prelude.{cap, production_cost, IsFloor, Obeys, Schedule, thermal_unit, thermal_count, p_at}
use Rattle.uc_model.specs.declared.instance.Instance.{Instance}
use Rattle.uc_model.specs.declared.instance.Point.{Point}
use Rattle.dual_model.specs.Prelude.{IsCellBound, IsTerm, output_price, reserve_price, weighted_total, weighted_output, weighted_cost}
use Rattle.dual_model.specs.declared.table.Table.{Table}

-- n / d is the least reduced cost K*cost + A*p + B*r of weights and a reserve with p + r <= room: none costs less, and some cost as much
pub record IsCellLeast (points : List Point) (k a b room n d : ℤ) : Type 0 where
  pub positive : pos 0 <ℤ d
  pub bound : IsCellBound points (d *ℤ k) (d *ℤ a) (d *ℤ b) room n
  pub q : ℕ
  pub weight : ℕ → ℕ
  pub r : ℤ
  pub denominator : 1 ≤ q
  pub total : weighted_total points weight ≡ pos q
  pub reserve : pos 0 ≤ℤ r
  pub within : (weighted_output points weight +ℤ r) ≤ℤ (pos q *ℤ room)
  pub attained : pos q *ℤ n ≡ d *ℤ (k *ℤ weighted_cost points weight +ℤ a *ℤ weighted_output points weight +ℤ b *ℤ r)

-- two fractions that are the least are equal
abbrev pub LeastsAreOne : Type 0
LeastsAreOne =
    (points : List Point) (k a b room n d m e : ℤ) → IsCellLeast points k a b room n d → IsCellLeast points k a b room m e
    → n *ℤ e ≡ m *ℤ d

-- the term of a cell is the least reduced cost, rounded down
abbrev pub TermsAreFloors : Type 0
TermsAreFloors =
    (points : List Point) (k a b room m n d : ℤ) → IsTerm points k a b room m → IsCellLeast points k a b room n d → IsFloor n d m

-- weak duality of a cell: over q, q*n is at most d times the reduced cost of each on cell of a schedule that obeys
abbrev pub LeastsBoundCells : Type 0
LeastsBoundCells =
    (instance : Instance) (q : ℕ) (x : Schedule) (table : Table) (g t : ℕ) (n d : ℤ) → Obeys instance q x
    → g < thermal_count instance → t < instance.periods → IsTrue ((x.thermal g).on t)
    → IsCellLeast (thermal_unit instance g).points table.k (output_price table g t) (reserve_price table g t)
    (cap instance.periods (thermal_unit instance g) (x.thermal g).on t) n d
    → (pos q *ℤ n) ≤ℤ (d *ℤ (table.k *ℤ production_cost (thermal_unit instance g) (x.thermal g) t
    +ℤ output_price table g t *ℤ p_at (thermal_unit instance g) (x.thermal g) t
    +ℤ reserve_price table g t *ℤ (x.thermal g).reserve t))
