-- Slopes compared by products, and lines through points.
use Rattle.std.proofs.Common.{◌≡◌, sym, ap, ◌∙◌, arith, ℤ, pos, ◌-ℤ◌, ◌*ℤ◌, neg_ℤ, ◌≤ℤ◌, ◌<ℤ◌}
use Rattle.uc_model.proofs.Common.{linear, spread, mul_comm, mul_left_comm, mul-le-mul_left, le_from_mul}
use Rattle.cost_curves.specs.LowerHull.{Point, IsAbove}

-- the slope y over x is at most the slope v over u
pub record IsFlatter (x y u v : ℤ) : Type 0 where
  pub products : (y *ℤ u) ≤ℤ (v *ℤ x)

-- a slope between two others keeps their order
pub flatter_trans : (x y u v s t : ℤ) → pos 0 ≤ℤ x → pos 0 <ℤ u → pos 0 ≤ℤ s → IsFlatter x y u v → IsFlatter u v s t → IsFlatter x y s t
flatter_trans x y u v s t hx hu hs first second =
    let a = mul-le-mul_left s (y *ℤ u) (v *ℤ x) hs first.products in
    let b = mul-le-mul_left x (v *ℤ s) (t *ℤ u) hx second.products in
    let e1 : s *ℤ (y *ℤ u) ≡ u *ℤ (y *ℤ s) = mul_left_comm s y u ∙ ap (λ z. y *ℤ z) (mul_comm s u) ∙ mul_left_comm y u s in
    let e2 : s *ℤ (v *ℤ x) ≡ x *ℤ (v *ℤ s) = mul_left_comm s v x ∙ ap (λ z. v *ℤ z) (mul_comm s x) ∙ mul_left_comm v x s in
    let e3 : x *ℤ (t *ℤ u) ≡ u *ℤ (t *ℤ x) = mul_left_comm x t u ∙ ap (λ z. t *ℤ z) (mul_comm x u) ∙ mul_left_comm t u x in
    let whole : (u *ℤ (y *ℤ s)) ≤ℤ (u *ℤ (t *ℤ x)) = omega (arith, linear) in
    record { products = le_from_mul u _ _ hu whole }

-- how far point b lies right of point a, and how far above
abbrev pub right_of : Point → Point → ℤ
right_of a b = b.mw -ℤ a.mw

abbrev pub above_of : Point → Point → ℤ
above_of a b = b.cost -ℤ a.cost

-- the slope from a to b is at most that from c to d
abbrev pub Flatter : Point → Point → Point → Point → Type 0
Flatter a b c d = IsFlatter (right_of a b) (above_of a b) (right_of c d) (above_of c d)

-- p lies above the line from a to b: the slopes from a to b, from a to p and from b to p rise, or fall, together
products : (ax ay bx by px py : ℤ)
    → (((by -ℤ ay) *ℤ (px -ℤ ax)) -ℤ ((py -ℤ ay) *ℤ (bx -ℤ ax)) ≡ ((by -ℤ ay) *ℤ (px -ℤ bx)) -ℤ ((py -ℤ by) *ℤ (bx -ℤ ax)))
    × (((by -ℤ ay) *ℤ (px -ℤ ax)) -ℤ ((py -ℤ ay) *ℤ (bx -ℤ ax)) ≡ ((py -ℤ ay) *ℤ (px -ℤ bx)) -ℤ ((py -ℤ by) *ℤ (px -ℤ ax)))
products ax ay bx by px py =
    let c1 = mul_comm ay bx in let c2 = mul_comm by ax in let c3 = mul_comm py ax in
    (simp spread (omega (arith, linear)), simp spread (omega (arith, linear)))

-- an order of two differences is that of two others that are as far apart
moved : (x y u v : ℤ) → x -ℤ y ≡ u -ℤ v → x ≤ℤ y → u ≤ℤ v
moved x y u v e h = omega (arith, linear)

pub above-flatter_start : (a b p : Point) → IsAbove a b p → Flatter a b a p
above-flatter_start a b p h = record { products = h }

pub flatter_start-above : (a b p : Point) → Flatter a b a p → IsAbove a b p
flatter_start-above a b p h = h.products

pub above-flatter_next : (a b p : Point) → IsAbove a b p → Flatter a b b p
above-flatter_next a b p h = record { products = moved _ _ _ _ (products a.mw a.cost b.mw b.cost p.mw p.cost).0 h }

pub flatter_next-above : (a b p : Point) → Flatter a b b p → IsAbove a b p
flatter_next-above a b p h = moved _ _ _ _ (sym (products a.mw a.cost b.mw b.cost p.mw p.cost).0) h.products

-- b lies above the line from a to p exactly where the slope from b to p is at most that from a to p
turns : (ax ay bx by px py : ℤ)
    → ((py -ℤ ay) *ℤ (bx -ℤ ax)) -ℤ ((by -ℤ ay) *ℤ (px -ℤ ax)) ≡ ((py -ℤ by) *ℤ (px -ℤ ax)) -ℤ ((py -ℤ ay) *ℤ (px -ℤ bx))
turns ax ay bx by px py =
    let whole = (products ax ay bx by px py).1 in
    omega (arith, linear, whole)

pub above-flatter_end : (a b p : Point) → IsAbove a p b → Flatter b p a p
above-flatter_end a b p h = record { products = moved _ _ _ _ (turns a.mw a.cost b.mw b.cost p.mw p.cost) h }

pub flatter_end-above : (a b p : Point) → Flatter b p a p → IsAbove a p b
flatter_end-above a b p h = moved _ _ _ _ (sym (turns a.mw a.cost b.mw b.cost p.mw p.cost)) h.products

-- b above the line from a to p: the slope from a to p is at most that from a to b
pub above-flatter_whole : (a b p : Point) → IsAbove a p b → Flatter a p a b
above-flatter_whole a b p h = record { products = h }

-- the slope from b to p is at most that from a to b: b lies above the line from a to p
pub flatter_bend-above : (a b p : Point) → Flatter b p a b → IsAbove a p b
flatter_bend-above a b p h =
    let whole = (products a.mw a.cost b.mw b.cost p.mw p.cost).0 in
    moved _ _ _ _ (omega (arith, linear, whole)) h.products

-- the whole numbers apart
pub sub_positive : (a b : ℤ) → a <ℤ b → pos 0 <ℤ (b -ℤ a)
sub_positive a b h = omega (arith, linear)

pub less_le : (a b : ℤ) → a <ℤ b → a ≤ℤ b
less_le a b h = omega (arith, linear)

-- the slope from l to b is at most that from b to p: l lies above the line from b to p
pub before-flatter : (b p l : Point) → Flatter l b b p → IsAbove b p l
before-flatter b p l h =
    let e = turned b.mw b.cost p.mw p.cost l.mw l.cost in
    let f = e.0 in let g = e.1 in
    let k = h.products in
    omega (arith, linear, f, g, k)
  where
    turned : (bx by px py lx ly : ℤ)
        → (((by -ℤ ly) *ℤ (px -ℤ bx)) ≡ neg_ℤ ((ly -ℤ by) *ℤ (px -ℤ bx))) × (((py -ℤ by) *ℤ (bx -ℤ lx)) ≡ neg_ℤ ((py -ℤ by) *ℤ (lx -ℤ bx)))
    turned bx by px py lx ly = (simp spread (omega (arith, linear)), simp spread (omega (arith, linear)))
