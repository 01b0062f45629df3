-- What the test of a leaf's least value says of the leaf.
use Rattle.std.proofs.Common.{◌≡◌, ℕ, ◌<◌, Bool, true, false, IsTrue, inl, inr, List, sym, subst, ◌∙◌, arith, ℤ, pos, ◌*ℤ◌, ◌<ℤ◌, ◌≤ℤ◌, Option, Some, None, MatchOption, Result, Ok, Err, IfOk, ◌↔◌}
use Rattle.std.specs.Int.{int_div_euclid}
use Rattle.std.proofs.lemmas.Option.{same_Some}
use Rattle.uc_model.specs.Prelude.{thermal_count}
use Rattle.uc_model.proofs.Common.{IsFloor-greatest, IsFloor-int_div_euclid, linear, mul-le-mul_right}
use Rattle.dual_model.specs.Prelude.{IsValueOf, IsBlocked, HasBlockedUnit, Bound, Ray, Empty, HasBoundOf, IsBoundedBy, IsExcludedByRay}
use Rattle.dual_model.proofs.ValueKinds.{values_are_unique}
use Rattle.cert_text.specs.CertificateText.{LeafNode}
use Rattle.leaf_values.specs.Reached.{HasValueFrom, least_value}
use Rattle.leaf_values.specs.declared.least.Least.{Least}
use Rattle.cert_check.specs.Visits.{Instance, Node, Table, IsSoundNode}
use Rattle.cert_check.specs.declared.leaf.Claim.TheVariants as claims
use Rattle.cert_check.specs.inside.Leaves.{Claim, Holds, IsEnough, IsHoldingAt, IsLeastFor, FitsScale, Reaches, Says, least_of}

-- what is told for each node is told, for each node, of the answer
pub each-node : {T E : Type 0} (Q : Node → Type 0) (P : Node → T → Type 0) (result : Result T E) → ((node : Node) → Q node → IfOk result (P node))
    → IfOk result (λ t. (node : Node) → Q node → P node t)
each-node Q P (Ok t) told = told
each-node Q P (Err e) told = tt

module _ (exact : Bool) (instance : Instance) (node : Node) (table : Table) where
  -- ---- a bound, and a value above 0, as a least value
  bound-reached : (b : ℤ) → pos 0 <ℤ table.k → HasBoundOf exact instance node table b → HasValueFrom exact instance node table (b *ℤ table.k)
  bound-reached b positive has =
      let k = table.k in
      let times = mul-le-mul_right k b has.bound (let h = positive in omega (arith, linear, h)) has.enough in
      let below = has.is_bound.quotient.below in
      record { value = has.is_bound.value; is_value = has.is_bound.is_value; enough = omega (arith, linear, times, below) }

  reached-bound : (b : ℤ) → pos 0 <ℤ table.k → HasValueFrom exact instance node table (b *ℤ table.k) → HasBoundOf exact instance node table b
  reached-bound b positive has =
      let k = table.k in
      let floor = IsFloor-int_div_euclid has.value k positive in
      record {
        bound = int_div_euclid has.value k;
        is_bound = record { value = has.value; is_value = has.is_value; quotient = floor };
        enough = IsFloor-greatest has.value k (int_div_euclid has.value k) b positive floor has.enough;
      }

  says-reached : (claim : Claim) → FitsScale table.k claim → Says exact claim instance node table → Reaches exact instance node table (least_of table.k claim)
  says-reached (claims.Bound b) fits (inl has) = inl (bound-reached b fits has)
  says-reached (claims.Bound b) fits (inr blocked) = inr blocked
  says-reached claims.Ray fits (inl has) =
      let positive = has.positive in
      inl (record { value = has.value; is_value = has.is_value; enough = omega (arith, linear, positive) })
  says-reached claims.Ray fits (inr blocked) = inr blocked

  reached-says : (claim : Claim) → FitsScale table.k claim → Reaches exact instance node table (least_of table.k claim) → Says exact claim instance node table
  reached-says (claims.Bound b) fits (inl has) = inl (reached-bound b fits has)
  reached-says (claims.Bound b) fits (inr blocked) = inr blocked
  reached-says claims.Ray fits (inl has) =
      let enough = has.enough in
      inl (record { value = has.value; is_value = has.is_value; positive = omega (arith, linear, enough) })
  reached-says claims.Ray fits (inr blocked) = inr blocked

  -- the test by the least value says whether it holds
  pub holds-by-least : (claim : Claim) (least : Least) (told : Bool) → IsLeastFor table.k claim least
      → IsTrue told ↔ Reaches exact instance node table (least_value least)
      → IsTrue told ↔ Holds (record { exact = exact; claim = claim }) instance node table
  holds-by-least claim least told is test = (
    (λ said. record {
      fits = is.fits;
      says = reached-says claim is.fits (subst (λ z. Reaches exact instance node table z) is.value (test.0 said));
    }),
    (λ holds. test.1 (subst (λ z. Reaches exact instance node table z) (sym is.value) (says-reached claim is.fits holds.says))),
  )

valued-not-blocked : (exact : Bool) (instance : Instance) (node : Node) (table : Table) (v : ℤ) → IsValueOf exact instance node table v
    → ¬ HasBlockedUnit exact instance node
valued-not-blocked false instance node table v is blocked =
    let best = is.units blocked.unit blocked.within in
    blocked.empty best.on best.best.pattern
valued-not-blocked true instance node table v is blocked =
    let best = is.exact_units blocked.unit blocked.within in
    blocked.none best.q best.x best.is_schedule

-- the test of a value that is found
module _ (exact : Bool) (instance : Instance) (node : Node) (table : Table) (least : ℤ) where
  enough-reaches : (value : Option ℤ) → MatchOption value (HasBlockedUnit exact instance node) (IsValueOf exact instance node table) → IsEnough least value
      → Reaches exact instance node table least
  enough-reaches None blocked enough = inr blocked
  enough-reaches (Some v) is enough = inl (record { value = v; is_value = is; enough = enough })

  reaches-enough : (value : Option ℤ) → MatchOption value (HasBlockedUnit exact instance node) (IsValueOf exact instance node table)
      → Reaches exact instance node table least → IsEnough least value
  reaches-enough None blocked reaches = tt
  reaches-enough (Some v) is (inl has) =
      subst (λ w. least ≤ℤ w) (values_are_unique exact instance node table has.value v has.is_value is) has.enough
  reaches-enough (Some v) is (inr blocked) = absurd (valued-not-blocked exact instance node table v is blocked)

  pub reaches-by-value : (value : Option ℤ) (told : Bool) → MatchOption value (HasBlockedUnit exact instance node) (IsValueOf exact instance node table)
      → IsTrue told ↔ IsEnough least value → IsTrue told ↔ Reaches exact instance node table least
  reaches-by-value value told is test = (
    (λ said. enough-reaches value is (test.0 said)),
    (λ reaches. test.1 (reaches-enough value is reaches)),
  )

-- ---- the leaf
module _ (exact : Bool) (instance : Instance) (tables : List Table) (node : Node) where
  bounded-is : (b : ℤ) (number : ℕ) (told : Bool) → IsHoldingAt (record { exact = exact; claim = claims.Bound b }) instance tables node number told
      → IsTrue told ↔ IsBoundedBy exact instance tables node number b
  bounded-is b number told at = (
    (λ said.
        let holds = at.holds.0 said in
        record { table = at.table; is_table = at.is_table; scale = holds.fits; bounds = holds.says }),
    (λ by.
        let same : by.table ≡ at.table = same_Some by.table at.table (sym by.is_table ∙ at.is_table) in
        at.holds.1 (subst (λ (t : Table). Holds (record { exact = exact; claim = claims.Bound b }) instance node t) same
        (record { fits = by.scale; says = by.bounds }))),
  )

  excluded-is : (number : ℕ) (told : Bool) → IsHoldingAt (record { exact = exact; claim = claims.Ray }) instance tables node number told
      → IsTrue told ↔ IsExcludedByRay exact instance tables node number
  excluded-is number told at = (
    (λ said.
        let holds = at.holds.0 said in
        record { table = at.table; is_table = at.is_table; scale = holds.fits; excludes = holds.says }),
    (λ by.
        let same : by.table ≡ at.table = same_Some by.table at.table (sym by.is_table ∙ at.is_table) in
        at.holds.1 (subst (λ (t : Table). Holds (record { exact = exact; claim = claims.Ray }) instance node t) same
        (record { fits = by.scale; says = by.excludes }))),
  )

  pub bound-sound : (b : ℤ) (number : ℕ) (told : Bool) → IsHoldingAt (record { exact = exact; claim = claims.Bound b }) instance tables node number told
      → IsTrue told ↔ IsSoundNode instance tables (Some b) node (LeafNode (Bound exact number))
  bound-sound b number told at = bounded-is b number told at

  -- what is claimed says nothing of leaves that exclude
  pub ray-sound : (bound : Option ℤ) (number : ℕ) (told : Bool) → IsHoldingAt (record { exact = exact; claim = claims.Ray }) instance tables node number told
      → IsTrue told ↔ IsSoundNode instance tables bound node (LeafNode (Ray exact number))
  ray-sound None number told at = excluded-is number told at
  ray-sound (Some b) number told at = excluded-is number told at

  pub blocked-sound : (bound : Option ℤ) (g : ℕ) (told : Bool) → g < thermal_count instance → IsTrue told ↔ IsBlocked exact instance node g
      → IsTrue told ↔ IsSoundNode instance tables bound node (LeafNode (Empty exact g))
  blocked-sound None g told within is = ((λ y. (within, is.0 y)), (λ sound. is.1 sound.1))
  blocked-sound (Some b) g told within is = ((λ y. (within, is.0 y)), (λ sound. is.1 sound.1))
