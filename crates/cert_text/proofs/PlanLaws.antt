-- The part of the prices and the schedule reads their lines and nothing else.
use Rattle.std.proofs.Common.{◌≡◌, ℕ, zero, suc, List, [], ◌∷◌, ◌++◌, length, replicate, All, Bool, true, false, true≢false, ◌||◌, nat_lt, ◌∙◌, Option, Some, None, refl, sym, ap, arith, map, ℤ, IfSome, codes}
use Rattle.cert_text.specs.Grammar.{Sizes, Plan, Schedule, ThermalRow, RenewableRow, Shed, Short, ScheduleHead, IsScheduleHead, schedule_line, shortage_rows, schedule_rows, PlanLine, Priced, Unpriced, plan_line, IsPlanLine, behind_plan}
use Rattle.cert_text.specs.inside.Forms.{schedule_at}
use Rattle.cert_text.specs.inside.Parts.{Planned, line_of, then, told, written, nothing, powers_part, shortages_part, printed_of, behind_first, plan_from, plan_part, printed_part, rows_behind, schedule_part}
use Rattle.cert_text.proofs.FormLaws.{thermal-form, powers-form}
use Rattle.cert_text.proofs.PlanForms.{schedule-form, plan-form}
use Rattle.cert_text.specs.TextConditions.{ArePenalties, IsThermalRow, IsPowerRow, IsScheduleText}
use Rattle.cert_text.specs.CertificateText.{thermal_line, renewable_line, shed_line, short_line, schedule_lines, plan_lines, has_price, Printed}
use Rattle.dual_model.specs.Prelude.{WrittenSchedule}
use Rattle.std.proofs.lemmas.Bool.{lt-ltb}
use Rattle.cert_text.proofs.PartSteps.{IsPart, Done, line-part, then-part, told-part, part-as, before-part, told_second, nothing-part, repeated-part, map_as_flat}

-- ---- what is missing
pair_rows : (size : Sizes)
    → IsPart (then (powers_part (codes "d") size) (λ _. powers_part (codes "e") size)) (λ p. IsPowerRow size.periods p.0 × IsPowerRow size.periods p.1)
    (λ p. shed_line p.0 ∷ short_line p.1 ∷ []) (Shed size ∷ Short size ∷ []) Done
pair_rows size =
    then-part (before-part (line-part (powers-form (codes "d") size.periods) (Shed size) Done (λ row v. (row, v, refl, refl)) (λ text others p. (p.0, p.1, p.2))) (Short size ∷ []))
    (λ row v. line-part (powers-form (codes "e") size.periods) (Short size) Done (λ row v. (row, v, refl, refl)) (λ text others p. (p.0, p.1, p.2)))

abbrev AreMissing : Sizes → Bool → List ℤ × List ℤ → Type 0
AreMissing size false p = p ≡ (nothing size.periods, nothing size.periods)
AreMissing size true p = IsPowerRow size.periods p.0 × IsPowerRow size.periods p.1

abbrev missing_lines : Bool → List ℤ × List ℤ → List (List ℕ)
missing_lines false p = []
missing_lines true p = shed_line p.0 ∷ short_line p.1 ∷ []

shortages-part : (size : Sizes) (priced : Bool) → IsPart (shortages_part size priced) (AreMissing size priced) (missing_lines priced) (shortage_rows size priced) Done
unfolding shortages_part
shortages-part size false = nothing-part (nothing size.periods, nothing size.periods)
shortages-part size true = pair_rows size

-- ---- rows for all units, and what is missing
record AreRows (size : Sizes) (priced : Bool) (denominator : ℕ) (printed : Printed) : Type 0 where
  thermal_rows : length printed.thermal ≡ size.thermal
  cells : All (IsThermalRow size.periods) printed.thermal
  renewable_rows : length printed.renewable ≡ size.renewable
  outputs : All (IsPowerRow size.periods) printed.renewable
  missing : AreMissing size priced (printed.shed, printed.short)
  over : printed.denominator ≡ denominator

abbrev printed_lines : Bool → Printed → List (List ℕ)
printed_lines priced printed = map thermal_line printed.thermal ++ (map renewable_line printed.renewable ++ missing_lines priced (printed.shed, printed.short))

printed-part : (size : Sizes) (priced : Bool) (head : ScheduleHead)
    → IsPart (printed_part size priced head.denominator) (AreRows size priced head.denominator) (printed_lines priced) (schedule_rows size priced (Some head)) Done
unfolding printed_part
printed-part size priced head =
    told-part (then-part (before-part (repeated-part (line-part (thermal-form size.periods) (ThermalRow size) Done (λ row v. (row, v, refl, refl)) (λ text others p. (p.0, p.1, p.2))) size.thermal) (replicate size.renewable (RenewableRow size) ++ shortage_rows size priced))
    (λ rows v. then-part (before-part (repeated-part (line-part (powers-form (codes "w") size.periods) (RenewableRow size) Done (λ row v. (row, v, refl, refl)) (λ text others p. (p.0, p.1, p.2))) size.renewable) (shortage_rows size priced))
    (λ rows v. shortages-part size priced)))
    (printed_of head.denominator) (AreRows size priced head.denominator) (printed_lines priced) Done
    (record {
      there = λ p v. (
        record { thermal_rows = v.0.0; cells = v.0.1; renewable_rows = v.1.0.0; outputs = v.1.0.1; missing = v.1.1; over = refl },
        (λ i. map_as_flat thermal_line p.0 i ++ (map_as_flat renewable_line p.1.0 i ++ missing_lines priced p.1.1)),
        refl,
      );
      back = λ printed w. (
        (printed.thermal, (printed.renewable, (printed.shed, printed.short))),
        ((w.thermal_rows, w.cells), ((w.renewable_rows, w.outputs), w.missing)),
        λ i. record { thermal = printed.thermal; renewable = printed.renewable; shed = printed.shed; short = printed.short; denominator = sym w.over i },
      );
    })

-- what stands behind the schedule's line
abbrev IsBehind : Sizes → Bool → Option ScheduleHead → Option WrittenSchedule → Type 0
IsBehind size priced None schedule = schedule ≡ None
IsBehind size priced (Some head) None = ⊥
IsBehind size priced (Some head) (Some w) = (w.cost ≡ head.cost) × AreRows size priced head.denominator w.printed

abbrev row_lines : Bool → Option WrittenSchedule → List (List ℕ)
row_lines priced None = []
row_lines priced (Some w) = printed_lines priced w.printed

rows_behind-part : (size : Sizes) (priced : Bool) (head : Option ScheduleHead)
    → IsPart (rows_behind size priced head) (IsBehind size priced head) (row_lines priced) (schedule_rows size priced head) Done
rows_behind-part size priced None = grind arith
rows_behind-part size priced (Some head) =
    told-part (printed-part size priced head) (written head.cost) (IsBehind size priced (Some head)) (row_lines priced) Done (record { there = λ printed v. ((refl, v), refl, refl); back = back })
  where
    back : (schedule : Option WrittenSchedule) → IsBehind size priced (Some head) schedule
        → (printed : Printed) × AreRows size priced head.denominator printed × (written head.cost printed ≡ schedule)
    back None w = absurd w
    back (Some w) v = (w.printed, v.1, λ i. Some (record { printed = w.printed; cost = sym v.0 i }))

-- ---- schedules with their cost, or none
abbrev pub IsText : Sizes → Bool → Option WrittenSchedule → Type 0
IsText size priced schedule = IfSome schedule (IsScheduleText size.version priced size.periods size.thermal size.renewable)

behind_there : (size : Sizes) (priced : Bool) (head : Option ScheduleHead) (schedule : Option WrittenSchedule) → IfSome head (IsScheduleHead size.version)
    → IsBehind size priced head schedule → IsText size priced schedule × (schedule_line head ∷ row_lines priced schedule ≡ schedule_lines priced schedule)
behind_there size priced None None told v = (tt, refl)
behind_there size priced None (Some w) told v = absurd (let e = v in cc)
behind_there size priced (Some head) None told v = absurd v
behind_there size priced (Some head) (Some w) told v = grind (arith, w, told, v)

abbrev head_told : Option WrittenSchedule → Option ScheduleHead
head_told None = None
head_told (Some w) = Some (record { cost = w.cost; denominator = w.printed.denominator })

behind_back : (size : Sizes) (priced : Bool) (schedule : Option WrittenSchedule) → IsText size priced schedule
    → IfSome (head_told schedule) (IsScheduleHead size.version) × IsBehind size priced (head_told schedule) schedule
behind_back size priced None v = (tt, refl)
behind_back size priced (Some w) v = grind (arith, w, v)

schedule-part : (size : Sizes) → IsPart (schedule_part size) (IsText size true) (schedule_lines true) (Schedule size ∷ []) Done
unfolding schedule_part
schedule-part size =
    part-as (told-part (then-part (line-part (schedule-form size.version) (Schedule size) (schedule_rows size true) (λ cost v. (cost, v, refl, refl)) (λ text others p. (p.0, p.1, p.2))) (λ cost v. rows_behind-part size true cost))
    (λ p. p.1) (IsText size true) (schedule_lines true) Done (record {
      there = λ p v. let h = behind_there size true p.0 p.1 v.0 v.1 in (h.0, h.1, refl);
      back = λ schedule w. ((head_told schedule, schedule), behind_back size true schedule w, refl);
    }))
    (told_second (line_of (schedule_at size.version)) (rows_behind size true))

-- ---- prices, and schedules
abbrev IsBehindFirst : Sizes → PlanLine → Option WrittenSchedule → Type 0
IsBehindFirst size (Priced a b) schedule = IsText size true schedule
IsBehindFirst size (Unpriced head) schedule = IsBehind size false head schedule

abbrev lines_behind : PlanLine → Option WrittenSchedule → List (List ℕ)
lines_behind (Priced a b) schedule = schedule_lines true schedule
lines_behind (Unpriced head) schedule = row_lines false schedule

behind_first-part : (size : Sizes) (first : PlanLine) → IsPart (behind_first size first) (IsBehindFirst size first) (lines_behind first) (behind_plan size first) Done
behind_first-part size (Priced a b) = part-as (schedule-part size) (λ bytes. refl)
behind_first-part size (Unpriced head) = part-as (rows_behind-part size false head) (λ bytes. refl)

pub record IsPlan (size : Sizes) (plan : Planned) : Type 0 where
  pub penalties : ArePenalties plan.0.0 plan.0.1
  pub schedule : IsText size (has_price plan.0.0 plan.0.1) plan.1

abbrev pub lines_of : Planned → List (List ℕ)
lines_of plan = plan_lines plan.0.0 plan.0.1 plan.1

plan_there : (size : Sizes) (first : PlanLine) (schedule : Option WrittenSchedule) → IsPlanLine size.version first → IsBehindFirst size first schedule
    → IsPlan size (plan_from (first, schedule)) × (plan_line first ∷ lines_behind first schedule ≡ lines_of (plan_from (first, schedule)))
plan_there size (Priced a b) schedule told behind = grind (arith, a, b, told, behind)
plan_there size (Unpriced head) schedule told behind = grind (arith, head, told, behind)

-- the line of a plan: its prices, or that of its schedule
abbrev IsToldBy : Sizes → Planned → Type 0
IsToldBy size plan = (p : PlanLine × Option WrittenSchedule) × (IsPlanLine size.version p.0 × IsBehindFirst size p.0 p.1) × (plan_from p ≡ plan)

some_shed : (a b : ℕ) → has_price (suc a) b ≡ true
some_shed a b = ap (λ t. t || nat_lt 0 b) (lt-ltb 0 (suc a) (omega arith))

some_short : (b : ℕ) → has_price 0 (suc b) ≡ true
some_short b = ap (λ t. nat_lt 0 0 || t) (lt-ltb 0 (suc b) (omega arith))

-- where nothing has a price both are 0
pub no_prices : (a b : ℕ) → has_price a b ≡ false → (a ≡ 0) × (b ≡ 0)
no_prices zero zero e = (refl, refl)
no_prices (suc a) b e = absurd (true≢false (sym (some_shed a b) ∙ e))
no_prices zero (suc b) e = absurd (true≢false (sym (some_short b) ∙ e))

plan_back : (size : Sizes) (plan : Planned) → IsPlan size plan → IsToldBy size plan
plan_back size plan w = by_prices (has_price plan.0.0 plan.0.1) refl w.schedule
  where
    by_prices : (priced : Bool) → has_price plan.0.0 plan.0.1 ≡ priced → IsText size priced plan.1 → IsToldBy size plan
    by_prices true e text = ((Priced plan.0.0 plan.0.1, plan.1), (record { range = w.penalties; some = e }, text), refl)
    by_prices false e text =
        let none = no_prices plan.0.0 plan.0.1 e in
        ((Unpriced (head_told plan.1), plan.1), behind_back size false plan.1 text, λ i. ((sym none.0 i, sym none.1 i), plan.1))

pub plan-part : (size : Sizes) → IsPart (plan_part size) (IsPlan size) lines_of (Plan size ∷ []) Done
unfolding plan_part
plan-part size =
    told-part (then-part (line-part (plan-form size.version) (Plan size) (behind_plan size) (λ first v. (first, v, refl, refl)) (λ text others p. (p.0, p.1, p.2))) (λ first v. behind_first-part size first))
    plan_from (IsPlan size) lines_of Done (record {
      there = λ p v. let h = plan_there size p.0 p.1 v.0 v.1 in (h.0, h.1, refl);
      back = plan_back size;
    })
