-- The prices of a period as an hour has them.
use Rattle.std.proofs.Common.{◌≡◌, ℕ, ◌*◌, ◌<◌, ◌≤◌, lit<, ap, subst, sym, ◌∙◌, arith, List, ℤ, pos, ◌-ℤ◌, ◌*ℤ◌, neg_ℤ, ◌≤ℤ◌, to_z, of_z, unsigned_abs, slice_index_or, FitsSigned}
use Rattle.std.specs.Int.{w64, w128, int_max}
use Rattle.std.proofs.lemmas.Int.{ints, clamps}
use Rattle.uc_model.proofs.Common.{narrow, scaled-size}
use Rattle.dual_model.specs.Prelude.{pi_at, mu_at}
use Rattle.unit_runs.specs.CostThrough.{reserve_worth}
use Rattle.hull_function.specs.Problems.{IsLawfulProblem, Table, Thermal, MAX_POWER, MAX_PRICE}

-- what is made of a price of demand, of what reserve is worth, and of the minimum output: each is as in the definition, and fits
pub record IsPricedAt (table : Table) (low : ℤ) (t : ℕ) (pi worth fixed : ℤ) : Type 0 where
  pub difference : FitsSigned w64 (to_z w64 (of_z w64 worth) -ℤ to_z w64 (of_z w64 pi))
  pub turned : FitsSigned w128 (pos 0 -ℤ to_z w128 (of_z w128 fixed))
  pub worth_is : to_z w64 (of_z w64 worth) ≡ reserve_worth table t
  pub price_is : to_z w64 (of_z w64 (to_z w64 (of_z w64 worth) -ℤ to_z w64 (of_z w64 pi))) ≡ reserve_worth table t -ℤ pi_at table t
  pub fixed_is : to_z w128 (of_z w128 (pos 0 -ℤ to_z w128 (of_z w128 fixed))) ≡ neg_ℤ (pi_at table t *ℤ low)
  pub worth_size : (pos 0 ≤ℤ to_z w64 (of_z w64 worth)) × (to_z w64 (of_z w64 worth) ≤ℤ pos MAX_PRICE)
  pub price_size : unsigned_abs (to_z w64 (of_z w64 (to_z w64 (of_z w64 worth) -ℤ to_z w64 (of_z w64 pi)))) ≤ 2 * MAX_PRICE
  pub fixed_size : unsigned_abs (to_z w128 (of_z w128 (pos 0 -ℤ to_z w128 (of_z w128 fixed)))) ≤ MAX_PRICE * MAX_POWER

pub priced-at : (periods : ℕ) (table : Table) (unit : Thermal) (t : ℕ) → IsLawfulProblem periods table unit → t < periods → (pi mu : List ℤ) (worth fixed : ℤ)
    → pi ≡ table.pi → mu ≡ table.mu → worth ≡ int_max (to_z w64 (of_z w64 (slice_index_or mu t (pos 0)))) (pos 0)
    → fixed ≡ to_z w64 (of_z w64 (slice_index_or pi t (pos 0))) *ℤ to_z w64 (of_z w64 unit.pmin)
    → IsPricedAt table unit.pmin t (slice_index_or pi t (pos 0)) worth fixed
priced-at periods table unit t are l pi mu worth fixed pi_is mu_is worth_is fixed_is =
    let low = unit.pmin in
    let minimum = are.unit_is.minimum in
    let pi_at_is : slice_index_or pi t (pos 0) ≡ pi_at table t = ap (λ (xs : List ℤ). slice_index_or xs t (pos 0)) pi_is in
    let mu_at_is : slice_index_or mu t (pos 0) ≡ mu_at table t = ap (λ (xs : List ℤ). slice_index_or xs t (pos 0)) mu_is in
    let small : unsigned_abs (slice_index_or pi t (pos 0)) ≤ MAX_PRICE = subst (λ z. unsigned_abs z ≤ MAX_PRICE) (sym pi_at_is) (are.demand_price t l) in
    let size = scaled-size (slice_index_or pi t (pos 0)) low fixed MAX_PRICE MAX_POWER fixed_is small minimum.power in
    let product : fixed ≡ pi_at table t *ℤ low =
    fixed_is ∙ (λ i. narrow (slice_index_or pi t (pos 0)) MAX_PRICE small (lit< tt) i *ℤ narrow low MAX_POWER minimum.power (lit< tt) i)
    ∙ ap (λ z. z *ℤ low) pi_at_is in
    made (slice_index_or mu t (pos 0)) worth (slice_index_or pi t (pos 0)) fixed mu_at_is
    (are.reserve_price t l) worth_is pi_at_is (are.demand_price t l) product size
  where
    made : (read worth own fixed : ℤ) → read ≡ mu_at table t → unsigned_abs (mu_at table t) ≤ MAX_PRICE → worth ≡ int_max (to_z w64 (of_z w64 read)) (pos 0)
        → own ≡ pi_at table t → unsigned_abs (pi_at table t) ≤ MAX_PRICE → fixed ≡ pi_at table t *ℤ unit.pmin → unsigned_abs fixed ≤ MAX_PRICE * MAX_POWER
        → IsPricedAt table unit.pmin t own worth fixed
    made read worth own fixed read_is mu_small e own_is pi_small product_is size =
        let own_small : unsigned_abs own ≤ MAX_PRICE = subst (λ z. unsigned_abs z ≤ MAX_PRICE) (sym own_is) pi_small in
        let most = worth_of read (mu_at table t) worth read_is mu_small e in
        record {
          difference = apart worth own most.2 own_small;
          turned = about fixed size;
          worth_is = narrow worth MAX_PRICE most.2 (lit< tt) ∙ most.0;
          price_is = less worth own most.2 own_small ∙ (λ i. most.0 i -ℤ own_is i);
          fixed_is = negated fixed size ∙ ap neg_ℤ product_is;
          worth_size = (let is = narrow worth MAX_PRICE most.2 (lit< tt) in sized worth (to_z w64 (of_z w64 worth)) is most.1 most.2);
          price_size = less_size worth own most.2 own_small;
          fixed_size = negated_size fixed size;
        }
      where
        worth_of : (read mu worth : ℤ) → read ≡ mu → unsigned_abs mu ≤ MAX_PRICE → worth ≡ int_max (to_z w64 (of_z w64 read)) (pos 0)
            → (worth ≡ int_max mu (pos 0)) × (pos 0 ≤ℤ worth) × (unsigned_abs worth ≤ MAX_PRICE)
        worth_of read mu worth same small e = (omega (arith, ints, clamps), omega (arith, ints, clamps), omega (arith, ints, clamps))

        apart : (a b : ℤ) → unsigned_abs a ≤ MAX_PRICE → unsigned_abs b ≤ MAX_PRICE → FitsSigned w64 (to_z w64 (of_z w64 a) -ℤ to_z w64 (of_z w64 b))
        apart a b h k = omega (arith, ints)

        about : (a : ℤ) → unsigned_abs a ≤ MAX_PRICE * MAX_POWER → FitsSigned w128 (pos 0 -ℤ to_z w128 (of_z w128 a))
        about a h = omega (arith, ints)

        less : (a b : ℤ) → unsigned_abs a ≤ MAX_PRICE → unsigned_abs b ≤ MAX_PRICE
            → to_z w64 (of_z w64 (to_z w64 (of_z w64 a) -ℤ to_z w64 (of_z w64 b))) ≡ a -ℤ b
        less a b h k = omega (arith, ints)

        less_size : (a b : ℤ) → unsigned_abs a ≤ MAX_PRICE → unsigned_abs b ≤ MAX_PRICE
            → unsigned_abs (to_z w64 (of_z w64 (to_z w64 (of_z w64 a) -ℤ to_z w64 (of_z w64 b)))) ≤ 2 * MAX_PRICE
        less_size a b h k = omega (arith, ints)

        negated : (a : ℤ) → unsigned_abs a ≤ MAX_PRICE * MAX_POWER → to_z w128 (of_z w128 (pos 0 -ℤ to_z w128 (of_z w128 a))) ≡ neg_ℤ a
        negated a h = omega (arith, ints)

        negated_size : (a : ℤ) → unsigned_abs a ≤ MAX_PRICE * MAX_POWER
            → unsigned_abs (to_z w128 (of_z w128 (pos 0 -ℤ to_z w128 (of_z w128 a)))) ≤ MAX_PRICE * MAX_POWER
        negated_size a h = omega (arith, ints)

        sized : (a b : ℤ) → b ≡ a → pos 0 ≤ℤ a → unsigned_abs a ≤ MAX_PRICE → (pos 0 ≤ℤ b) × (b ≤ℤ pos MAX_PRICE)
        sized a b e h k = (omega (arith, ints, h), omega (arith, ints, h))
