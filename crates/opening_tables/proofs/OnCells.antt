-- An on cell of a printed schedule that obeys has an output on its unit's curve.
use Rattle.std.proofs.Common.{◌≡◌, ℕ, ◌<◌, ◌≤◌, Bool, true, false, true≢false, refl, sym, subst, arith, length, ℤ, pos, ◌≤ℤ◌, List, Option, Some, None, IsTrue, if◌then◌else◌}
use Rattle.std.specs.Ordering.{int_eq}
use Rattle.uc_model.specs.Prelude.{Segment, segment_at, IsLawfulInstance, cell_at, printed_denominator, printed_schedule, refused_weight, segment_weight, Obeys, Production, thermal_unit}
use Rattle.uc_model.proofs.Common.{one-mul, production_parts, rule_at}
use Rattle.cost_curves.specs.LowerHull.{AreLawfulPoints, width_of}
use Rattle.cost_curves.proofs.HullExists.{segment-within}
use Rattle.cost_curves.proofs.UnitPoints.{lawful_points}
use Rattle.opening_tables.specs.inside.Slopes.{Instance, Point, Printed, AreOutputsWithin}

held : (q : ℕ) (points : List Point) (p : ℤ) (s : Option Segment) → segment_at points 1 p ≡ s → AreLawfulPoints points
    → ((l : ℕ) → l < length points → segment_weight q points 1 p s l ≤ q) → p ≤ℤ width_of points
held q points p None e lawful within = absurd (let first = within 0 lawful.some in omega (arith, first))
held q points p (Some s) e lawful within = subst (λ z. p ≤ℤ z) (one-mul (width_of points)) (segment-within points 1 p s lawful e).1

on_held : (q : ℕ) (points : List Point) (on : Bool) (p : ℤ) (other : ℕ → ℕ) → IsTrue on → AreLawfulPoints points
    → ((l : ℕ) → l < length points → (if on then segment_weight q points 1 p (segment_at points 1 p) l else other l) ≤ q) → p ≤ℤ width_of points
on_held q points true p other on lawful within = held q points p (segment_at points 1 p) refl lawful within
on_held q points false p other on lawful within = absurd (true≢false (sym on))

pub outputs_within : (instance : Instance) (printed : Printed) → IsLawfulInstance instance → printed.denominator ≡ 1
    → Obeys instance (printed_denominator instance printed) (printed_schedule instance printed (printed_denominator instance printed))
    → AreOutputsWithin instance printed
outputs_within instance printed lawful whole obeys g t hg ht on =
    let q = printed_denominator instance printed in
    let x = printed_schedule instance printed q in
    let cell = cell_at printed g t in
    let made = production_parts q (thermal_unit instance g) (x.thermal g) t (rule_at instance q x obeys Production g t hg ht) in
    let points = (thermal_unit instance g).points in
    let other : ℕ → ℕ = λ l. if int_eq cell.p (pos 0) then 0 else refused_weight q l in
    on_held q points cell.on cell.p other on (lawful_points (thermal_unit instance g) (lawful.thermal g hg))
    (subst (λ d. (l : ℕ) → l < length points → (if cell.on then segment_weight q points d cell.p (segment_at points d cell.p) l else other l) ≤ q)
    whole made.weights)
