-- The slopes of L rise from step to step, and are those of any segment of the hull that a step lies on.
-- Cite from a crate above by `use Rattle.hull_function.proofs.HullSlopes.{slope-of}`.
use Rattle.std.proofs.Common.{◌≡◌, ℕ, suc, ◌≤◌, sym, ap, subst, ◌∙◌, arith, List, ℤ, pos, ◌+ℤ◌, ◌-ℤ◌, ◌*ℤ◌, ◌≤ℤ◌, ◌<ℤ◌, Some}
use Rattle.uc_model.specs.Prelude.{IsFloor, output_of, run, rise, Segment, segment_width}
use Rattle.uc_model.specs.declared.instance.Point.{Point}
use Rattle.uc_model.proofs.Common.{linear, mul_comm, mul_assoc, mul_left_comm, mul-add, sub-mul, mul-le-mul_left, mul-le-mul_right, le_from_mul, le_antisymm, IsFloor-greatest, IsFloor-int_div_euclid, width_is, IsUnder, Steps}
use Rattle.dual_model.specs.Prelude.{floored_slope, slope_from}

-- ---- over plain numbers: a line from a, of the width v and the rise m, and one to d, of the width w and the rise n; a lies `back`
-- right of where the second begins, and no lower than its line there; d lies `ahead` right of a, and no lower than the first
-- line; `up` is how far d lies above a
steeper : (v w m n back ahead up : ℤ) → pos 0 <ℤ v → pos 0 <ℤ w → pos 0 <ℤ ahead → back +ℤ ahead ≡ w
    → (n *ℤ back) ≤ℤ ((n -ℤ up) *ℤ w) → (m *ℤ ahead) ≤ℤ (up *ℤ v) → (m *ℤ w) ≤ℤ (n *ℤ v)
steeper v w m n back ahead up wide other_wide some sum above below =
    le_from_mul ahead (m *ℤ w) (n *ℤ v) some (omega (arith, linear, first, second, left, right, middle))
  where
    -- up * w <= n * ahead
    rest : (up *ℤ w) ≤ℤ (n *ℤ ahead)
    rest =
        let whole = ap (λ z. n *ℤ z) (sym sum) in
        let parts = mul-add n back ahead in
        let cut = sub-mul n up w in
        omega (arith, linear, above, whole, parts, cut)

    first : ((m *ℤ ahead) *ℤ w) ≤ℤ ((up *ℤ v) *ℤ w)
    first = mul-le-mul_right w (m *ℤ ahead) (up *ℤ v) (omega (arith, linear, other_wide)) below

    second : ((up *ℤ w) *ℤ v) ≤ℤ ((n *ℤ ahead) *ℤ v)
    second = mul-le-mul_right v (up *ℤ w) (n *ℤ ahead) (omega (arith, linear, wide)) rest

    left : ahead *ℤ (m *ℤ w) ≡ (m *ℤ ahead) *ℤ w
    left = mul_left_comm ahead m w ∙ sym (mul_assoc m ahead w)

    right : ahead *ℤ (n *ℤ v) ≡ (n *ℤ ahead) *ℤ v
    right = mul_left_comm ahead n v ∙ sym (mul_assoc n ahead v)

    middle : (up *ℤ v) *ℤ w ≡ (up *ℤ w) *ℤ v
    middle = mul_assoc up v w ∙ ap (λ z. up *ℤ z) (mul_comm v w) ∙ sym (mul_assoc up w v)

-- ---- two segments of the hull, of which the first begins left of where the second ends
pub steeper_segment : (points : List Point) (s t : Segment) → IsUnder points s → IsUnder points t
    → output_of points s.left <ℤ output_of points t.right
    → (rise points s.left s.right *ℤ run points t.left t.right) ≤ℤ (rise points t.left t.right *ℤ run points s.left s.right)
steeper_segment points s t under other order =
    steeper (run points s.left s.right) (run points t.left t.right) (rise points s.left s.right) (rise points t.left t.right)
    (run points t.left s.left) (run points s.left t.right) (rise points s.left t.right) under.wide other.wide (omega (arith, linear, order))
    (omega (arith, linear))
    (subst (λ z. (rise points t.left t.right *ℤ run points t.left s.left) ≤ℤ (z *ℤ run points t.left t.right)) height (other.above s.left under.left))
    (under.above t.right other.right)
  where
    height : rise points t.left s.left ≡ rise points t.left t.right -ℤ rise points s.left t.right
    height = omega (arith, linear)

-- so its slope, K times and rounded down, is no greater
floor_is : (points : List Point) (k : ℤ) (s : Segment) → IsUnder points s
    → IsFloor (k *ℤ rise points s.left s.right) (run points s.left s.right) (floored_slope points k (Some s))
floor_is points k s under =
    let width = width_is (run points s.left s.right) under.wide in
    subst (λ z. IsFloor (k *ℤ rise points s.left s.right) z (floored_slope points k (Some s))) width
    (IsFloor-int_div_euclid (k *ℤ rise points s.left s.right) (pos (segment_width points s)) (let wide = under.wide in omega (arith, linear, width, wide)))

pub rising_floors : (points : List Point) (k : ℤ) (s t : Segment) → pos 0 ≤ℤ k → IsUnder points s → IsUnder points t
    → output_of points s.left <ℤ output_of points t.right → floored_slope points k (Some s) ≤ℤ floored_slope points k (Some t)
rising_floors points k s t sign under other order =
    IsFloor-greatest (k *ℤ rise points t.left t.right) w (floored_slope points k (Some t)) m other.wide (floor_is points k t other)
    (le_from_mul v (m *ℤ w) (k *ℤ rise points t.left t.right) under.wide (omega (arith, linear, first, second, left, right, scaled)))
  where
    v : ℤ
    v = run points s.left s.right

    w : ℤ
    w = run points t.left t.right

    m : ℤ
    m = floored_slope points k (Some s)

    -- v * (m * w) = (m * v) * w <= (k * rise s) * w = k * (rise s * w) <= k * (rise t * v) = v * (k * rise t)
    first : ((m *ℤ v) *ℤ w) ≤ℤ ((k *ℤ rise points s.left s.right) *ℤ w)
    first = mul-le-mul_right w (m *ℤ v) (k *ℤ rise points s.left s.right) (let wide = other.wide in omega (arith, linear, wide)) (floor_is points k s under).below

    second : (k *ℤ (rise points s.left s.right *ℤ w)) ≤ℤ (k *ℤ (rise points t.left t.right *ℤ v))
    second = mul-le-mul_left k _ _ sign (steeper_segment points s t under other order)

    scaled : (k *ℤ rise points s.left s.right) *ℤ w ≡ k *ℤ (rise points s.left s.right *ℤ w)
    scaled = mul_assoc k (rise points s.left s.right) w

    left : v *ℤ (m *ℤ w) ≡ (m *ℤ v) *ℤ w
    left = mul_left_comm v m w ∙ sym (mul_assoc m v w)

    right : v *ℤ (k *ℤ rise points t.left t.right) ≡ k *ℤ (rise points t.left t.right *ℤ v)
    right = mul_left_comm v k (rise points t.left t.right) ∙ ap (λ z. k *ℤ z) (mul_comm v (rise points t.left t.right))

-- ---- steps
-- the slope of a step is that of any segment that it lies on
pub slope-of : (points : List Point) (k : ℤ) (x : ℕ) (s t : Segment) → pos 0 ≤ℤ k → Steps points x s → IsUnder points t
    → output_of points t.left ≤ℤ pos x → pos (suc x) ≤ℤ output_of points t.right → slope_from points k x ≡ floored_slope points k (Some t)
slope-of points k x s t sign step other begins reaches =
    let own_begins = step.begins in
    let own_reaches = step.reaches in
    ap (floored_slope points k) step.at
    ∙ le_antisymm (floored_slope points k (Some s)) (floored_slope points k (Some t))
    (rising_floors points k s t sign step.under other (omega (arith, linear, own_begins, reaches)))
    (rising_floors points k t s sign other step.under (omega (arith, linear, begins, own_reaches)))

-- the slopes rise
pub slopes-rise : (points : List Point) (k : ℤ) (x y : ℕ) (s t : Segment) → pos 0 ≤ℤ k → x ≤ y → Steps points x s → Steps points y t
    → slope_from points k x ≤ℤ slope_from points k y
slopes-rise points k x y s t sign order step other =
    let begins = step.begins in
    let reaches = other.reaches in
    let rise = rising_floors points k s t sign step.under other.under (omega (arith, linear, begins, reaches, order)) in
    let first = ap (floored_slope points k) step.at in
    let second = ap (floored_slope points k) other.at in
    omega (arith, linear, rise, first, second)
