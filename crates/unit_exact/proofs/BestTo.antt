-- The best end of a state among those before a period, with the ways that go on from it, is the least way.
use Rattle.std.proofs.Common.{◌≡◌, ℕ, suc, ◌-◌, ◌<◌, ◌≤◌, ⊎_elim, Bool, false, ◌==◌, refl, sym, ap, subst, ◌∙◌, arith, ℤ, pos, IsTrue, Option, Some, None, IfSome, unwrap_or}
use Rattle.std.proofs.lemmas.Bool.{cases_lt, cond-true, eq-eqb}
use Rattle.dual_model.specs.Prelude.{lesser_of}
use Rattle.dual_model.proofs.BestChoices.{some-of}
use Rattle.unit_runs.specs.RunsToGo.{Fix, may_stay, runs_to_go}
use Rattle.unit_exact.specs.inside.Choices.{Choice, choice_cost, IsCostBelow, IsOneOf}
use Rattle.unit_exact.specs.inside.Problems.{Table, Thermal}
use Rattle.unit_exact.specs.inside.Switches.{IsBestTo, IsLeastSwitch, IsPlan, IsWithinSwitches, switch_total}
use Rattle.unit_exact.proofs.Steps.{lesser-below, some-below, behind, none_behind, goes_on, ends_here}

module _ (periods : ℕ) (table : Table) (unit : Thermal) (fix : Fix) where
  abbrev to_go : ℕ → Bool → ℕ → Option ℤ
  to_go t was since = runs_to_go periods table unit fix (periods - t) t was since

  pub nothing_known : (first : ℕ) (was : Bool) (since : ℕ) → IsBestTo periods table unit fix first was since first None
  nothing_known first was since = record {
    cost = refl;
    later = omega arith;
    stays = λ k low high. absurd (omega arith);
    plan = tt;
    size = tt;
  }

  -- the plan to switch in period t, or not at all
  plan_at : (first : ℕ) (was : Bool) (since t : ℕ) (at : Option ℕ) (best : Option Choice) (total : Option ℤ) (v : ℤ) → t ≡ unwrap_or at periods
      → IsBestTo periods table unit fix first was since t best → t ≤ periods
      → IsCostBelow (choice_cost best) (switch_total periods table unit fix t was since) total → total ≡ Some v
      → IsPlan periods table unit fix first was since (record { cost = v; at = at })
  plan_at first was since t at best total v end known l is e =
      let later = known.later in
      record {
        later = omega (arith, later, end);
        within = omega (arith, l, end);
        stays = λ k low high. known.stays k low (omega (arith, high, end));
        attained = ap (λ k. switch_total periods table unit fix k was since) (sym end) ∙ some-below (choice_cost best) _ total v is e;
      }

  -- a switch in period t more
  module _ (first : ℕ) (was : Bool) (since t : ℕ) (at : Option ℕ) (best result : Option Choice) (total : Option ℤ) (end : t ≡ unwrap_or at periods) (l : t ≤ periods)
      (known : IsBestTo periods table unit fix first was since t best) (is : IsCostBelow (choice_cost best) (switch_total periods table unit fix t was since) total)
      (sized : IfSome total (IsWithinSwitches (periods - t)))
      (cost : choice_cost result ≡ lesser_of (choice_cost best) total) (one : IsOneOf best total at result) where
    cost_by_total : choice_cost result ≡ lesser_of (choice_cost best) (switch_total periods table unit fix t was since)
    cost_by_total = cost ∙ lesser-below (choice_cost best) _ total is

    plan_more : IfSome result (IsPlan periods table unit fix first was since)
    plan_more =
        some-of (IsPlan periods table unit fix first was since) best result total at known.plan
        (λ v e. plan_at first was since t at best total v end known l is e) one

    size_more : IfSome result (λ choice. IsWithinSwitches (periods - first) choice.cost)
    size_more =
        some-of (λ choice. IsWithinSwitches (periods - first) choice.cost) best result total at known.size
        (λ v e.
        let own : IsWithinSwitches (periods - t) v = subst (λ o. IfSome o (IsWithinSwitches (periods - t))) e sized in
        let later = known.later in
        omega (arith, own, later)) one

    pub best-more : t < periods → IsTrue (may_stay unit fix t was) → IsBestTo periods table unit fix first was since (suc t) result
    best-more h may =
        record {
          cost = goes_on periods table unit fix t was since (choice_cost result) (to_go first was since) may
              (behind periods table unit fix t was since (choice_cost best) (choice_cost result) (to_go first was since) h known.cost cost_by_total);
          later = let later = known.later in omega (arith, later);
          stays = λ k low high. ⊎_elim
              (λ (less : k < t). known.stays k low less)
              (λ (last : t ≤ k). let same : t ≡ k = omega (arith, last, high) in subst (λ j. IsTrue (may_stay unit fix j was)) same may)
              (cases_lt k t);
          plan = plan_more;
          size = size_more;
        }

    pub best-last : t < periods → may_stay unit fix t was ≡ false → IsLeastSwitch periods table unit fix first was since result
    best-last h may =
        record {
          cost = ends_here periods table unit fix t was since (choice_cost result) (to_go first was since) may
              (behind periods table unit fix t was since (choice_cost best) (choice_cost result) (to_go first was since) h known.cost cost_by_total);
          plan = plan_more;
          size = size_more;
        }

    pub best-end : t ≡ periods → IsLeastSwitch periods table unit fix first was since result
    best-end last =
        record {
          cost = none_behind periods table unit fix t was since (choice_cost best) (choice_cost result) (to_go first was since) last known.cost cost_by_total;
          plan = plan_more;
          size = size_more;
        }

  -- a rest that lasts to the end costs nothing
  pub rest-total : (since t : ℕ) → t ≡ periods → Some (pos 0) ≡ switch_total periods table unit fix t false since
  rest-total since t end = sym (cond-true (t == periods) (Some (pos 0)) _ (eq-eqb t periods end))
