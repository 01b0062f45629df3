-- M8 of the schedule that a printed one stands for, cell by cell: it holds exactly where the cell's output lies on the
-- hull and its reserve isn't below 0, and the weights then give the output over the denominator. Powers are over d.
use Rattle.std.proofs.Common.{◌≡◌, ℕ, zero, suc, ◌*◌, ◌/◌, ◌<◌, ◌≤◌, ⊎_elim, true, false, refl, sym, ap, subst, ◌∙◌, arith, List, length, ℤ, pos, ◌*ℤ◌, ◌≤ℤ◌, IsTrue, Option, Some, None, nat_le, if◌then◌else◌}
use Rattle.std.specs.Ordering.{int_eq}
use Rattle.std.proofs.Math.Nat.{le-max_left}
use Rattle.std.proofs.lemmas.Bool.{and_from, or_left, or_right, cases_Bool, cond-true, cond-false, cond_both, le-leb}
use Rattle.uc_model.specs.Prelude.{bit, weighted_total, weighted_output, Segment, segment_at, segment_width, production_at, Row, point_count, p_at, weight_sum, product_below, width_on, cell_width, printed_denominator, refused_weight, segment_weight, cell_weight, IsLawfulThermal}
use Rattle.uc_model.specs.declared.instance.Point.{Point}
use Rattle.uc_model.specs.declared.instance.Thermal.{Thermal}
use Rattle.uc_model.specs.declared.instance.Instance.{Instance}
use Rattle.uc_model.specs.declared.schedule.Cell.{Cell}
use Rattle.uc_model.specs.declared.schedule.Printed.{Printed}
use Rattle.uc_model.proofs.Common.{linear, mul-zero, mul-one, mul_nonneg, pos_nonneg, sum_below-same, sum_below-zero, le-int_le, int_eq-true, eq-int_eq, all_below-from, Produces, production_parts, watts-factor, share_is}
use Rattle.cost_curves.specs.LowerHull.{width_of}
use Rattle.cost_curves.proofs.UnitPoints.{lawful_points}
use Rattle.cost_curves.proofs.HullExists.{segment-there, segment-within}
use Rattle.schedule_check.specs.WholeWatts as watts
use Rattle.schedule_check.proofs.SegmentWeights.{stand_for}
use Rattle.schedule_check.proofs.Counting.{same_test}

-- ---- the denominator
times_positive : (a b : ℕ) → 1 ≤ a → 1 ≤ b → 1 ≤ a * b
times_positive a b h k = grind arith

product_positive : (n : ℕ) (f : ℕ → ℕ) → ((k : ℕ) → 1 ≤ f k) → 1 ≤ product_below n f
product_positive zero f h = omega arith
product_positive (suc n) f h = times_positive (product_below n f) (f n) (product_positive n f h) (h n)

width_positive : (points : List Point) (s : Option Segment) → 1 ≤ width_on points s
width_positive points None = omega arith
width_positive points (Some s) = le-max_left 1 _

cell_positive : (points : List Point) (d : ℕ) (cell : Cell) → 1 ≤ cell_width points d cell
cell_positive points d cell = cond_both cell.on (width_on points (segment_at points d cell.p)) 1 (λ n. 1 ≤ n) (λ e. width_positive points (segment_at points d cell.p)) (λ e. omega arith)

pub denominator_positive : (instance : Instance) (printed : Printed) → 1 ≤ printed.denominator → 1 ≤ printed_denominator instance printed
denominator_positive instance printed some = grind (arith, linear, times_positive, product_positive, cell_positive, some)

-- it is a multiple of that of the watts, at least once
pub record IsShare (d q : ℕ) : Type 0 where
  pub some : 1 ≤ d
  pub factor : q ≡ (q / d) * d
  pub share : 1 ≤ q / d

pub share_of : (instance : Instance) (printed : Printed) → 1 ≤ printed.denominator → IsShare printed.denominator (printed_denominator instance printed)
share_of instance printed some = grind (arith, linear, watts-factor, share_is, denominator_positive, some)

-- ---- what a cell stands for
-- the row has this cell's weights and reserve in period t
pub record Shows (q d : ℕ) (unit : Thermal) (row : Row) (t : ℕ) (cell : Cell) : Type 0 where
  pub on : row.on t ≡ cell.on
  pub weight : (l : ℕ) → row.weight t l ≡ cell_weight q unit.points d cell l
  pub reserve : row.reserve t ≡ pos (q / d) *ℤ cell.r

-- weights that sum to q where the cell is on, and give q times its output
pub record Made (q d : ℕ) (unit : Thermal) (row : Row) (t : ℕ) (cell : Cell) : Type 0 where
  pub each : (l : ℕ) → l < point_count unit → row.weight t l ≤ q
  pub total : weight_sum unit row t ≡ pos q *ℤ bit cell.on
  pub output : p_at unit row t ≡ pos (q / d) *ℤ cell.p

-- weights that are equal give equal sums
total_by : (q : ℕ) (points : List Point) (a b : ℕ → ℕ) → ((l : ℕ) → a l ≡ b l) → weighted_total points a ≡ weighted_total points b
total_by q points a b e = sum_below-same (length points) (λ l. pos (a l)) (λ l. pos (b l)) (λ l h. ap pos (e l))

output_by : (q : ℕ) (points : List Point) (a b : ℕ → ℕ) → ((l : ℕ) → a l ≡ b l) → weighted_output points a ≡ weighted_output points b
output_by q points a b e = grind (arith, linear, e)

-- an on cell on the hull
made_on : (q d : ℕ) (unit : Thermal) (row : Row) (t : ℕ) (cell : Cell) → Shows q d unit row t cell → IsLawfulThermal unit → 1 ≤ d
    → (c : ℕ) → q ≡ c * (d * cell_width unit.points d cell) → cell.on ≡ true → pos 0 ≤ℤ cell.p → cell.p ≤ℤ (pos d *ℤ width_of unit.points)
    → Made q d unit row t cell
made_on q d unit row t cell shows lawful some c factor on low high =
    let points = unit.points in
    let segment = segment-there points d cell.p (lawful_points unit lawful) some low high in
    let width : cell_width points d cell ≡ segment_width points segment.0 =
    cond-true cell.on (width_on points (segment_at points d cell.p)) 1 on ∙ ap (λ o. width_on points o) segment.1 in
    let stands = stand_for q c d points cell.p segment.0 segment.1 some (factor ∙ ap (λ n. c * (d * n)) width) in
    let same = λ (l : ℕ). shows.weight l
    ∙ cond-true cell.on (segment_weight q points d cell.p (segment_at points d cell.p) l) (if int_eq cell.p (pos 0) then 0 else refused_weight q l) on
    ∙ ap (λ o. segment_weight q points d cell.p o l) segment.1 in
    let one : pos q *ℤ bit cell.on ≡ pos q = ap (λ b. pos q *ℤ bit b) on ∙ mul-one (pos q) in
    record {
      each = λ l h. subst (λ w. w ≤ q) (sym (same l)) (stands.each l h);
      total = total_by q points (row.weight t) (segment_weight q points d cell.p (Some segment.0)) same ∙ stands.total ∙ sym one;
      output = output_by q points (row.weight t) (segment_weight q points d cell.p (Some segment.0)) same ∙ stands.output;
    }

-- an off cell without output
made_off : (q d : ℕ) (unit : Thermal) (row : Row) (t : ℕ) (cell : Cell) → Shows q d unit row t cell → cell.on ≡ false → cell.p ≡ pos 0
    → Made q d unit row t cell
made_off q d unit row t cell shows off idle = grind (arith, linear, cond-false, cond-true, eq-int_eq, sum_below-zero, mul-zero, shows, off, idle)

-- ---- M8 on the cell itself
-- what it says
pub record Holds (measure : ℤ → ℤ) (unit : Thermal) (cell : Cell) : Type 0 where
  pub low : cell.on ≡ true → pos 0 ≤ℤ cell.p
  pub high : cell.on ≡ true → cell.p ≤ℤ measure (width_of unit.points)
  pub idle : cell.on ≡ false → cell.p ≡ pos 0
  pub reserve : pos 0 ≤ℤ cell.r
  pub none : cell.on ≡ false → cell.r ≡ pos 0

pub holds_from : (measure : ℤ → ℤ) (unit : Thermal) (cells : List Cell) (t : ℕ) → IsTrue (watts.production_by measure unit cells t)
    → Holds measure unit (watts.cell cells t)
holds_from measure unit cells t h = grind (arith, linear, h)

holds_by : (measure : ℤ → ℤ) (unit : Thermal) (cells : List Cell) (t : ℕ) → Holds measure unit (watts.cell cells t)
    → IsTrue (watts.production_by measure unit cells t)
holds_by measure unit cells t holds = grind (arith, linear, holds)

-- in whole watts
pub holds_to : (unit : Thermal) (cells : List Cell) (t : ℕ) → Holds watts.whole unit (watts.cell cells t) → IsTrue (watts.production_at unit cells t)
holds_to unit cells t holds = holds_by watts.whole unit cells t holds

pub made : (q d : ℕ) (unit : Thermal) (row : Row) (t : ℕ) (cell : Cell) → Shows q d unit row t cell → IsLawfulThermal unit → 1 ≤ d
    → (c : ℕ) → q ≡ c * (d * cell_width unit.points d cell) → Holds (watts.over d) unit cell → Made q d unit row t cell
made q d unit row t cell shows lawful some c factor holds =
    ⊎_elim
    (λ (on : IsTrue cell.on). made_on q d unit row t cell shows lawful some c factor on (holds.low on) (holds.high on))
    (λ (off : cell.on ≡ false). made_off q d unit row t cell shows off (holds.idle off))
    (cases_Bool cell.on)

-- ---- M8 of the schedule
produced : (q d : ℕ) (unit : Thermal) (row : Row) (t : ℕ) (cell : Cell) → Shows q d unit row t cell → Made q d unit row t cell
    → Holds (watts.over d) unit cell → IsTrue (production_at q unit row t)
produced q d unit row t cell shows made holds =
    and_from _ _
    (and_from _ _
    (and_from _ _ (all_below-from (point_count unit) (λ l. nat_le (row.weight t l) q) (λ l h. le-leb _ _ (made.each l h)))
    (eq-int_eq _ _ (made.total ∙ ap (λ b. pos q *ℤ bit b) (sym shows.on))))
    (le-int_le _ _ (subst (λ z. pos 0 ≤ℤ z) (sym shows.reserve) (mul_nonneg (pos (q / d)) cell.r (pos_nonneg (q / d)) holds.reserve))))
    (⊎_elim
    (λ (on : IsTrue (row.on t)). or_left (row.on t) _ on)
    (λ (off : row.on t ≡ false).
    let is_off = sym shows.on ∙ off in
    or_right (row.on t) _ (and_from _ _
    (eq-int_eq _ _ (made.output ∙ ap (λ z. pos (q / d) *ℤ z) (holds.idle is_off) ∙ mul-zero (pos (q / d))))
    (eq-int_eq _ _ (shows.reserve ∙ ap (λ z. pos (q / d) *ℤ z) (holds.none is_off) ∙ mul-zero (pos (q / d))))))
    (cases_Bool (row.on t)))

-- a first weight that is refused breaks it
unrefused : (q : ℕ) (unit : Thermal) (row : Row) (t : ℕ) → IsLawfulThermal unit → Produces q unit row t → row.weight t 0 ≡ suc q → ⊥
unrefused q unit row t lawful made e = let first = made.weights 0 (omega (arith, lawful.points.0)) in omega (arith, first, e)

on_hull : (q d : ℕ) (unit : Thermal) (row : Row) (t : ℕ) (cell : Cell) (s : Option Segment) → segment_at unit.points d cell.p ≡ s
    → Shows q d unit row t cell → IsLawfulThermal unit → Produces q unit row t → cell.on ≡ true
    → (pos 0 ≤ℤ cell.p) × (cell.p ≤ℤ (pos d *ℤ width_of unit.points))
on_hull q d unit row t cell None e shows lawful produces on = grind (arith, linear, e, shows, lawful, produces)
on_hull q d unit row t cell (Some s) e shows lawful produces on = segment-within unit.points d cell.p s (lawful_points unit lawful) e

reserve_sign : (q : ℕ) (r z : ℤ) → 1 ≤ q → z ≡ pos q *ℤ r → pos 0 ≤ℤ z → pos 0 ≤ℤ r
reserve_sign q r z some e h = grind (arith, linear, some, e, h)

reserve_none : (q : ℕ) (r z : ℤ) → 1 ≤ q → z ≡ pos q *ℤ r → z ≡ pos 0 → r ≡ pos 0
reserve_none q r z some e h = grind (arith, linear, some, e, h)

holds_of : (q d : ℕ) (unit : Thermal) (row : Row) (t : ℕ) (cell : Cell) → Shows q d unit row t cell → IsLawfulThermal unit → 1 ≤ q / d
    → Produces q unit row t → Holds (watts.over d) unit cell
holds_of q d unit row t cell shows lawful some produces = record {
  low = λ on. (on_hull q d unit row t cell (segment_at unit.points d cell.p) refl shows lawful produces on).0;
  high = λ on. (on_hull q d unit row t cell (segment_at unit.points d cell.p) refl shows lawful produces on).1;
  idle = λ off. grind (arith, linear, int_eq-true, unrefused, cond-false, cases_Bool, q, unit, row, t, lawful, produces, shows, d, off);
  reserve = reserve_sign (q / d) cell.r (row.reserve t) some shows.reserve produces.reserve;
  none = λ off. reserve_none (q / d) cell.r (row.reserve t) some shows.reserve (produces.idle (shows.on ∙ off)).1;
}

-- M8 holds of the cell's numerators exactly where it holds of what they stand for
pub production-same : (q d : ℕ) (unit : Thermal) (row : Row) (t : ℕ) (cells : List Cell) → Shows q d unit row t (watts.cell cells t) → IsLawfulThermal unit
    → IsShare d q → (c : ℕ) → q ≡ c * (d * cell_width unit.points d (watts.cell cells t))
    → production_at q unit row t ≡ watts.production_by (watts.over d) unit cells t
production-same q d unit row t cells shows lawful share c factor =
    same_test _ _
    (λ h. holds_by (watts.over d) unit cells t (holds_of q d unit row t (watts.cell cells t) shows lawful share.share (production_parts q unit row t h)))
    (λ h. let holds = holds_from (watts.over d) unit cells t h in
    produced q d unit row t (watts.cell cells t) shows (made q d unit row t (watts.cell cells t) shows lawful share.some c factor holds) holds)
