-- A stop behind the hours of a run, and one before the first period.
use Rattle.std.proofs.Common.{◌≡◌, ℕ, suc, add-one, ◌+◌, ◌-◌, ◌<◌, ◌≤◌, ◌⊎◌, inl, inr, ⊎_elim, Bool, true, false, ◌==◌, refl, sym, ap, subst, ◌∙◌, arith, [], ℤ, pos, ◌+ℤ◌, ◌-ℤ◌, neg_ℤ, ◌≤ℤ◌, ◌<ℤ◌, IsTrue, nat_lt, unsigned_abs, Option, Some, None, if◌then◌else◌}
use Rattle.std.specs.Ordering.{int_eq}
use Rattle.std.proofs.lemmas.Int.{ints}
use Rattle.std.proofs.lemmas.Bool.{cond-true, cond-false, eq-eqb, lt-ltb}
use Rattle.uc_model.specs.Prelude.{sum_below}
use Rattle.uc_model.proofs.Common.{linear, le_antisymm, le_of_eq, int_eq-true}
use Rattle.dual_model.specs.Prelude.{may_move, total_of}
use Rattle.dual_model.proofs.Following.{may-turn_off}
use Rattle.step_functions.specs.Functions.{Steps, IsLeastBetween, IsPlace, last_place, value_at}
use Rattle.step_functions.specs.Runs.{slope_at}
use Rattle.unit_runs.specs.CostThrough.{least_between, run_cost}
use Rattle.unit_runs.specs.Runs.{entry_output}
use Rattle.unit_runs.specs.RunsToGo.{Fix, run_from, run_until, runs_to_go}
use Rattle.unit_runs.proofs.Costs.{least_between-reached}
use Rattle.unit_exact.specs.inside.Choices.{choice_cost, IsCostBelow, IsReached}
use Rattle.unit_exact.specs.inside.Problems.{Table, Thermal}
use Rattle.unit_exact.specs.inside.Switches.{AreSwitches, Switches, switch_total}
use Rattle.unit_exact.proofs.HourSteps.{begun-costs}
use Rattle.hull_function.proofs.Represented.{least-is, through}
use Rattle.unit_exact.proofs.Steps.{total-before}

-- ---- a cost at one output alone
point_value : (output : ℤ) → value_at (record { first = output; value = pos 0; runs = []; room = 0 }) output ≡ pos 0
unfolding value_at
point_value output = let none : unsigned_abs (output -ℤ output) ≡ 0 = omega (arith, ints) in ap (λ n. pos 0 +ℤ sum_below n (slope_at [])) none

pub least-inside : (low high output : ℤ) → low ≤ℤ output → output ≤ℤ high
    → least_between low high (λ p. if int_eq p output then Some (pos 0) else None) ≡ Some (pos 0)
least-inside low high output from to =
    let f : Steps = record { first = output; value = pos 0; runs = []; room = 0 } in
    let last : last_place f ≡ output = omega (arith, linear) in
    let value = point_value output in
    let here : IsPlace f output = record { low = omega (arith, linear); high = omega (arith, linear) } in
    let least : IsLeastBetween f low high (pos 0) = record {
      place = output;
      is_place = here;
      after = from;
      before = to;
      reached = sym value;
      least = λ p place below above. grind (arith, ints, le_antisymm, le_of_eq, place, p, output, f, value);
    } in
    least-is f (λ p. if int_eq p output then Some (pos 0) else None) low high (pos 0) (begun-costs f output refl last value) least

pub least-outside : (low high output : ℤ) → (output <ℤ low) ⊎ (high <ℤ output)
    → None ≡ least_between low high (λ p. if int_eq p output then Some (pos 0) else None)
least-outside low high output out = by (least_between low high (λ p. if int_eq p output then Some (pos 0) else None)) refl
  where
    by : (o : Option ℤ) → least_between low high (λ p. if int_eq p output then Some (pos 0) else None) ≡ o → None ≡ o
    by None e = refl
    by (Some v) e =
        let found = least_between-reached low high (λ p. if int_eq p output then Some (pos 0) else None) v e in
        let own = through (int_eq found.at output) (Some (pos 0)) v found.is in
        let same = int_eq-true found.at output own.0 in
        let from = found.from in
        let to = found.to in
        absurd (⊎_elim
        (λ (before : output <ℤ low). omega (arith, linear, before, same, from))
        (λ (behind : high <ℤ output). omega (arith, linear, behind, same, to))
        out)

-- ---- a stop in a period of the horizon
module _ (periods : ℕ) (table : Table) (unit : Thermal) (fix : Fix) where
  abbrev may : ℕ → ℕ → Bool
  may t since = may_move unit fix t true since false

  -- as it is asked in the code of the period behind t
  pub may-behind : (t since : ℕ) (asked b : Bool) → asked ≡ may (t + 1) since → asked ≡ b → may (suc t) since ≡ b
  may-behind t since asked b is e = ap (λ k. may k since) (sym (add-one t)) ∙ sym is ∙ e

  -- that may not be
  pub stop-none : (t since : ℕ) → t < periods → may t since ≡ false → None ≡ switch_total periods table unit fix t true since
  stop-none t since l never =
      sym (total-before periods table unit fix t true since l
      ∙ ap (λ o. total_of o (runs_to_go periods table unit fix (periods - suc t) (suc t) false (suc t)))
      (cond-false (may t since) (run_until periods table unit since t) None never))

  -- that may be
  pub stop-some : (t since : ℕ) (cost result : Option ℤ) (next : Switches) → t < periods → IsTrue (may t since)
      → cost ≡ run_until periods table unit since t → result ≡ total_of cost (choice_cost next.stop)
      → AreSwitches periods table unit fix t next → result ≡ switch_total periods table unit fix t true since
  stop-some t since cost result next l lets is total entry =
      let next = (entry.stop (may-turn_off unit fix t since lets)).cost in
      total
      ∙ (λ i. total_of (is i) (next i))
      ∙ ap (λ o. total_of o (runs_to_go periods table unit fix (periods - suc t) (suc t) false (suc t)))
      (sym (cond-true (may t since) (run_until periods table unit since t) None lets))
      ∙ sym (total-before periods table unit fix t true since l)

  -- one whose run is found below a limit
  pub stop-below : (t since : ℕ) (limit best cost found result : Option ℤ) (next : Switches) → t < periods → IsTrue (may t since)
      → cost ≡ run_until periods table unit since t → AreSwitches periods table unit fix t next
      → ((o : Option ℤ) → IsReached limit o → IsReached best (total_of o (choice_cost next.stop)))
      → IsCostBelow limit cost found → result ≡ total_of found (choice_cost next.stop)
      → IsCostBelow best (switch_total periods table unit fix t true since) result
  stop-below t since limit best cost found result next l lets is entry reach below total =
      let whole = stop-some t since cost (total_of cost (choice_cost next.stop)) next l lets is refl entry in
      ⊎_elim
      (λ (same : found ≡ cost). inl (total ∙ ap (λ o. total_of o (choice_cost next.stop)) same ∙ whole))
      (λ (over : (found ≡ None) × IsReached limit cost).
      inr (total ∙ ap (λ o. total_of o (choice_cost next.stop)) over.0, subst (IsReached best) whole (reach cost over.1)))
      below

  -- the run that ends there
  pub run-until : (t since : ℕ) (cost : Option ℤ) → run_from since ≤ t
      → cost ≡ run_cost periods table unit (run_from since) (suc (t - run_from since)) → cost ≡ run_until periods table unit since (suc t)
  run-until t since cost order is =
      let hours : suc (t - run_from since) ≡ suc t - run_from since = omega (arith, order) in
      is ∙ ap (run_cost periods table unit (run_from since)) hours

  -- none without an hour costs nothing, where the output before can fall to nothing
  pub run-none : 1 ≤ periods → neg_ℤ unit.ru ≤ℤ entry_output unit 0 → entry_output unit 0 ≤ℤ unit.rd
      → Some (pos 0) ≡ run_until periods table unit 0 0
  run-none some from to =
      sym (cond-true (nat_lt 0 periods) _ _ (lt-ltb 0 periods some) ∙ least-inside (neg_ℤ unit.ru) unit.rd (entry_output unit 0) from to)

  pub run-stuck : 1 ≤ periods → (entry_output unit 0 <ℤ neg_ℤ unit.ru) ⊎ (unit.rd <ℤ entry_output unit 0)
      → None ≡ run_until periods table unit 0 0
  run-stuck some out =
      least-outside (neg_ℤ unit.ru) unit.rd (entry_output unit 0) out ∙ sym (cond-true (nat_lt 0 periods) _ _ (lt-ltb 0 periods some))

  -- a run that isn't there lets no stop be
  pub stop-stuck : (t since : ℕ) → t < periods → None ≡ run_until periods table unit since t
      → None ≡ switch_total periods table unit fix t true since
  stop-stuck t since l none =
      sym (total-before periods table unit fix t true since l
      ∙ ap (λ o. total_of o (runs_to_go periods table unit fix (periods - suc t) (suc t) false (suc t))) (either (may t since)))
    where
      either : (b : Bool) → (if b then run_until periods table unit since t else None) ≡ None
      either true = sym none
      either false = refl

  -- at the end of the horizon the run is paid for
  pub run-last : (since : ℕ) (cost : Option ℤ) → cost ≡ run_until periods table unit since periods
      → cost ≡ switch_total periods table unit fix periods true since
  run-last since cost is = is ∙ sym (cond-true (periods == periods) _ _ (eq-eqb periods periods refl))
