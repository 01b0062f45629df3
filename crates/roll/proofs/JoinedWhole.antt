-- A stitched schedule obeys every rule of the periods that it has: unit by unit, since each row keeps its rules over the border, and
-- period by period, since what the system asks is that of the window or of what is kept.
use Rattle.std.proofs.Common.{◌≡◌, ℕ, ◌+◌, ◌<◌, ◌≤◌, ◌++◌, ⊎_elim, List, length, get_or, take, refl, sym, ap, ◌∙◌, arith, ℤ, pos, IsTrue}
use Rattle.std.proofs.lemmas.Bool.{cases_lt}
use Rattle.std.proofs.lemmas.List.{get_or_append_left, get_or-append-add, get_or-take}
use Rattle.uc_model.specs.Prelude.{thermal_unit, thermal_count, renewable_count, cell_at, shed_at, short_at, IsLawfulInstance}
use Rattle.uc_model.specs.Rules as model
use Rattle.schedule_check.specs.FirstBroken.{HoldsThroughout}
use Rattle.schedule_check.specs.SizedNumbers.{output_at}
use Rattle.schedule_check.specs.WholeWatts as watts
use Rattle.schedule_check.proofs.FirstPlaces.{obeys_stands}
use Rattle.roll.specs.Prelude.{first_periods, Instance, Thermal, Cell, Printed, state_of, continued, IsKept, PrintedObeys, IsContinuation, IsStitched, SameDispatch}
use Rattle.start_costs.specs.Cheapest.{HasLeastCategory}
use Rattle.roll.proofs.KeptRules.{IsSolved, rule_in_watts}
use Rattle.roll.proofs.Parts.{IsPart, first_is_part, first_lawful, window_is_part}
use Rattle.roll.proofs.JoinedRows.{KeepsRules, row_keeps, throughout}
use Rattle.roll.proofs.JoinedSystem.{AreSystemsAlike, same_demand, same_range, same_reserve, same_shed, same_short}

-- ---- the rules of a unit
pub keeps_rules : (instance : Instance) (printed : Printed) → IsSolved instance printed → (g : ℕ) → g < thermal_count instance
    → KeepsRules instance.periods (thermal_unit instance g) (watts.row_of printed g)
keeps_rules instance printed h g hg = record {
  must_run = λ t ht. rule_in_watts instance printed h model.MustRun g t hg ht;
  initial_up = λ t ht. rule_in_watts instance printed h model.InitialUp g t hg ht;
  initial_down = λ t ht. rule_in_watts instance printed h model.InitialDown g t hg ht;
  minimum_up = λ t ht. rule_in_watts instance printed h model.MinimumUp g t hg ht;
  minimum_down = λ t ht. rule_in_watts instance printed h model.MinimumDown g t hg ht;
  initial_stop = λ some. rule_in_watts instance printed h model.InitialStop g 0 hg (omega arith);
  production = λ t ht. rule_in_watts instance printed h model.Production g t hg ht;
  start_cap = λ t ht. rule_in_watts instance printed h model.StartCap g t hg ht;
  stop_cap = λ t ht. rule_in_watts instance printed h model.StopCap g t hg ht;
  ramp_up = λ t ht. rule_in_watts instance printed h model.RampUp g t hg ht;
  ramp_down = λ t ht. rule_in_watts instance printed h model.RampDown g t hg ht;
}

-- over no period there is nothing to keep
keeps_none : (m : ℕ) (unit : Thermal) (row : List Cell) → m ≡ 0 → KeepsRules m unit row
keeps_none m unit row none = grind (arith, none)

front_keeps : (instance : Instance) (m : ℕ) (kept : Printed) → IsLawfulInstance instance → IsKept instance m kept → (g : ℕ)
    → g < thermal_count instance → KeepsRules m (thermal_unit instance g) (watts.row_of kept g)
front_keeps instance m kept lawful is g hg = ⊎_elim
    (λ (none : m < 1). keeps_none m (thermal_unit instance g) (watts.row_of kept g) (omega arith))
    (λ (some : 1 ≤ m).
    let solved : IsSolved (first_periods m instance) kept =
    record { lawful = first_lawful instance m lawful some is.within; whole = is.whole; obeys = is.obeys some } in
    keeps_rules (first_periods m instance) kept solved g hg)
    (cases_lt m 1)

back_keeps : (instance : Instance) (m n : ℕ) (kept shown : Printed) (next : IsContinuation instance kept m n shown) → (g : ℕ) → g < thermal_count instance
    → KeepsRules next.len (continued (thermal_unit instance g) (state_of next.next.carried g)) (watts.row_of shown g)
back_keeps instance m n kept shown next g hg = grind (arith, keeps_rules, hg)

unit_keeps : (instance : Instance) (m n : ℕ) (kept shown stitched : Printed) → IsLawfulInstance instance → IsKept instance m kept
    → IsContinuation instance kept m n shown → IsStitched instance m n kept shown stitched → (g : ℕ) → g < thermal_count instance
    → KeepsRules (m + n) (thermal_unit instance g) (watts.row_of stitched g)
unit_keeps instance m n kept shown stitched lawful is next joined g hg =
    row_keeps (thermal_unit instance g) (state_of next.next.carried g) (watts.row_of kept g) (watts.row_of shown g) (watts.row_of stitched g) m n next.len
    (record {
      lawful = lawful.thermal g hg;
      some = next.some;
      part = next.part;
      old = λ t ht. joined.old_cells g t hg ht;
      new = λ t ht. joined.new_cells g t hg ht;
      categories = λ t ht. joined.categories g t hg ht;
      is_left = next.next.is_carried.each g hg;
      front_keeps = front_keeps instance m kept lawful is g hg;
      back_keeps = back_keeps instance m n kept shown next g hg;
    })

-- ---- the system
-- the numbers of the front and of the back
pub joined_old : (xs ys zs : List ℤ) (m n t : ℕ) → zs ≡ xs ++ take n ys → length xs ≡ m → t < m → get_or zs t (pos 0) ≡ get_or xs t (pos 0)
joined_old xs ys zs m n t e l h = ap (λ list. get_or list t (pos 0)) e ∙ get_or_append_left xs (take n ys) (pos 0) t (omega arith)

pub joined_new : (xs ys zs : List ℤ) (m n t : ℕ) → zs ≡ xs ++ take n ys → length xs ≡ m → t < n → get_or zs (m + t) (pos 0) ≡ get_or ys t (pos 0)
joined_new xs ys zs m n t e l h = grind (arith, get_or-append-add, get_or-take, e, l, h)

-- a period of one part is that of another part
record HasPlaces (first second len other t s : ℕ) : Type 0 where
  pub here : t < len
  pub there : s < other
  pub same : first + t ≡ second + s

alike : (instance one two : Instance) (first second len other t s : ℕ) (printed shown : Printed) → IsPart instance first len one → IsPart instance second other two
    → HasPlaces first second len other t s
    → ((g : ℕ) → g < thermal_count instance → (thermal_unit one g).pmin ≡ (thermal_unit two g).pmin)
    → ((g : ℕ) → g < thermal_count instance → SameDispatch (cell_at shown g s) (cell_at printed g t))
    → ((w : ℕ) → w < renewable_count instance → output_at printed w t ≡ output_at shown w s)
    → shed_at printed t ≡ shed_at shown s → short_at printed t ≡ short_at shown s
    → AreSystemsAlike one two printed shown t s
alike instance one two first second len other t s printed shown a b places least cells outputs shed short =
    grind (arith, a, b, places, least, cells, outputs, shed, short)

old_alike : (instance : Instance) (m n t : ℕ) (kept shown stitched : Printed) → IsLawfulInstance instance → IsKept instance m kept
    → IsContinuation instance kept m n shown → IsStitched instance m n kept shown stitched → t < m
    → AreSystemsAlike (first_periods (m + n) instance) (first_periods m instance) stitched kept t t
old_alike instance m n t kept shown stitched lawful is next joined h =
    alike instance (first_periods (m + n) instance) (first_periods m instance) 0 0 (m + n) m t t stitched kept
    (first_is_part instance (m + n) lawful (omega (arith, next.part, next.within))) (first_is_part instance m lawful is.within)
    (record { here = omega arith; there = h; same = refl })
    (λ g hg. refl)
    (λ g hg. joined.old_cells g t hg h)
    (λ w hw. joined.old_outputs w t hw h)
    (joined_old kept.shed shown.shed stitched.shed m n t joined.shed is.shape.shed h)
    (joined_old kept.short shown.short stitched.short m n t joined.short is.shape.short h)

new_alike : (instance : Instance) (m n t : ℕ) (kept shown stitched : Printed) → IsLawfulInstance instance → IsKept instance m kept
    → (next : IsContinuation instance kept m n shown) → IsStitched instance m n kept shown stitched → t < n
    → AreSystemsAlike (first_periods (m + n) instance) next.window stitched shown (m + t) t
new_alike instance m n t kept shown stitched lawful is next joined h =
    alike instance (first_periods (m + n) instance) next.window 0 m (m + n) next.len (m + t) t stitched shown
    (first_is_part instance (m + n) lawful (omega (arith, next.part, next.within)))
    (window_is_part instance next.next.carried m next.len next.window lawful next.within next.next.is_window)
    (record { here = omega arith; there = omega (arith, next.part); same = omega arith })
    (λ g hg. sym (ap (λ (u : Thermal). u.pmin) (next.next.is_window.thermal g hg)))
    (λ g hg. joined.new_cells g t hg h)
    (λ w hw. joined.new_outputs w t hw h)
    (joined_new kept.shed shown.shed stitched.shed m n t joined.shed is.shape.shed h)
    (joined_new kept.short shown.short stitched.short m n t joined.short is.shape.short h)

-- ---- all rules
-- a rule on the system that tells alike periods alike
system_rule : (rule : model.Rule) (instance : Instance) (m n g t : ℕ) (kept shown stitched : Printed) → IsLawfulInstance instance → IsKept instance m kept
    → IsContinuation instance kept m n shown → IsStitched instance m n kept shown stitched
    → ((one two : Instance) (printed other : Printed) (i k : ℕ) → AreSystemsAlike one two printed other i k → g < model.rule_units rule one
    → watts.holds_at rule one printed g i ≡ watts.holds_at rule two other g k)
    → ((one : Instance) → model.rule_periods rule one ≡ one.periods)
    → ((one two : Instance) → thermal_count one ≡ thermal_count two → renewable_count one ≡ renewable_count two → model.rule_units rule one ≡ model.rule_units rule two)
    → g < model.rule_units rule (first_periods (m + n) instance) → t < m + n
    → IsTrue (watts.holds_at rule (first_periods (m + n) instance) stitched g t)
system_rule rule instance m n g t kept shown stitched lawful is next joined same periods units hg ht =
    throughout (λ k. IsTrue (watts.holds_at rule (first_periods (m + n) instance) stitched g k)) m n old new t ht
  where
    old : (k : ℕ) → k < m → IsTrue (watts.holds_at rule (first_periods (m + n) instance) stitched g k)
    old k h =
        let some : 1 ≤ m = omega arith in
        let solved : IsSolved (first_periods m instance) kept =
        record { lawful = first_lawful instance m lawful some is.within; whole = is.whole; obeys = is.obeys some } in
        let like = old_alike instance m n k kept shown stitched lawful is next joined h in
        let count = units (first_periods (m + n) instance) (first_periods m instance) like.thermal_units like.renewable_units in
        let length_is = periods (first_periods m instance) in
        same (first_periods (m + n) instance) (first_periods m instance) stitched kept k k like hg
        ∙ rule_in_watts (first_periods m instance) kept solved rule g k (omega (arith, count)) (omega (arith, length_is))

    new : (k : ℕ) → k < n → IsTrue (watts.holds_at rule (first_periods (m + n) instance) stitched g (m + k))
    new k h =
        let solved : IsSolved next.window shown = record { lawful = next.lawful; whole = next.whole; obeys = next.obeys } in
        let like = new_alike instance m n k kept shown stitched lawful is next joined h in
        let count = units (first_periods (m + n) instance) next.window like.thermal_units like.renewable_units in
        let length_is = periods next.window in
        let len_is = next.next.is_window.periods in
        same (first_periods (m + n) instance) next.window stitched shown (m + k) k like hg
        ∙ rule_in_watts next.window shown solved rule g k (omega (arith, count)) (omega (arith, length_is, len_is, next.part))

-- a rule on thermal units, by the rules that the unit's row keeps
unit_rule : (instance : Instance) (printed : Printed) (g t : ℕ) → 1 ≤ instance.periods
    → KeepsRules instance.periods (thermal_unit instance g) (watts.row_of printed g)
    → ((k : ℕ) → k < instance.periods
    → HasLeastCategory (thermal_unit instance g) (watts.commitment (watts.row_of printed g)) k (watts.category (watts.row_of printed g) k))
    → (rule : model.Rule) → model.rule_number rule < 13 → t < model.rule_periods rule instance → IsTrue (watts.holds_at rule instance printed g t)
unit_rule instance printed g t some keeps least model.MustRun less ht = keeps.must_run t ht
unit_rule instance printed g t some keeps least model.InitialUp less ht = keeps.initial_up t ht
unit_rule instance printed g t some keeps least model.InitialDown less ht = keeps.initial_down t ht
unit_rule instance printed g t some keeps least model.MinimumUp less ht = keeps.minimum_up t ht
unit_rule instance printed g t some keeps least model.MinimumDown less ht = keeps.minimum_down t ht
unit_rule instance printed g t some keeps least model.Category less ht = grind (arith, some, keeps, least, model.Category, less, ht)
unit_rule instance printed g t some keeps least model.InitialStop less ht = keeps.initial_stop some
unit_rule instance printed g t some keeps least model.Production less ht = keeps.production t ht
unit_rule instance printed g t some keeps least model.StartCap less ht = keeps.start_cap t ht
unit_rule instance printed g t some keeps least model.StopCap less ht = keeps.stop_cap t ht
unit_rule instance printed g t some keeps least model.RampUp less ht = keeps.ramp_up t ht
unit_rule instance printed g t some keeps least model.RampDown less ht = keeps.ramp_down t ht
unit_rule instance printed g t some keeps least _ less ht = absurd (omega arith)

pub stitched_keeps : (instance : Instance) (m n : ℕ) (kept shown stitched : Printed) → IsLawfulInstance instance → IsKept instance m kept
    → IsContinuation instance kept m n shown → IsStitched instance m n kept shown stitched → (rule : model.Rule)
    → HoldsThroughout (first_periods (m + n) instance) (λ r. watts.holds_at r (first_periods (m + n) instance) stitched) rule
stitched_keeps instance m n kept shown stitched lawful is next joined model.RenewableRange g t hg ht =
    system_rule model.RenewableRange instance m n g t kept shown stitched lawful is next joined
    (λ one two printed other i k like h. same_range one two printed other g i k like h) (λ one. refl) (λ one two e f. f) hg ht
stitched_keeps instance m n kept shown stitched lawful is next joined model.Demand g t hg ht =
    system_rule model.Demand instance m n g t kept shown stitched lawful is next joined
    (λ one two printed other i k like h. same_demand one two printed other i k like) (λ one. refl) (λ one two e f. refl) hg ht
stitched_keeps instance m n kept shown stitched lawful is next joined model.Reserve g t hg ht =
    system_rule model.Reserve instance m n g t kept shown stitched lawful is next joined
    (λ one two printed other i k like h. same_reserve one two printed other i k like) (λ one. refl) (λ one two e f. refl) hg ht
stitched_keeps instance m n kept shown stitched lawful is next joined model.ShedRange g t hg ht =
    system_rule model.ShedRange instance m n g t kept shown stitched lawful is next joined
    (λ one two printed other i k like h. same_shed one two printed other i k like) (λ one. refl) (λ one two e f. refl) hg ht
stitched_keeps instance m n kept shown stitched lawful is next joined model.ShortRange g t hg ht =
    system_rule model.ShortRange instance m n g t kept shown stitched lawful is next joined
    (λ one two printed other i k like h. same_short one two printed other i k like) (λ one. refl) (λ one two e f. refl) hg ht
stitched_keeps instance m n kept shown stitched lawful is next joined rule g t hg ht =
    unit_rule (first_periods (m + n) instance) stitched g t (omega (arith, next.some))
    (unit_keeps instance m n kept shown stitched lawful is next joined g hg) (λ k hk. joined.categories g k hg hk) rule (omega arith) ht

pub stitched_obeys : (instance : Instance) (m n : ℕ) (kept shown stitched : Printed) → IsLawfulInstance instance → IsKept instance m kept
    → IsContinuation instance kept m n shown → IsStitched instance m n kept shown stitched → PrintedObeys (first_periods (m + n) instance) stitched
stitched_obeys instance m n kept shown stitched lawful is next joined =
    obeys_stands (first_periods (m + n) instance) stitched
    (first_lawful instance (m + n) lawful (omega (arith, next.some)) (omega (arith, next.part, next.within)))
    joined.whole (stitched_keeps instance m n kept shown stitched lawful is next joined)
