-- The least way of a unit that is on: of one that has just been switched on, and of one that has been on for long enough.
use Rattle.std.proofs.Common.{◌≡◌, ℕ, suc, ◌+◌, ◌-◌, ◌<◌, ◌≤◌, ◌⊎◌, ⊎_elim, true, false, refl, sym, ap, subst, ◌∙◌, arith, ℤ, pos, ◌+ℤ◌, Option, Some, None, IfSome, unwrap_or, ◌==◌}
use Rattle.std.proofs.lemmas.Bool.{cases_Bool, ne_eqb}
use Rattle.uc_model.specs.Prelude.{IsLawfulThermal, period_count, may_stop}
use Rattle.dual_model.specs.Prelude.{AreSizedTerms, hour_before, may_be_on, move, IsWithin, MAX_COST_TO_GO, lesser_of, total_of}
use Rattle.unit_path.specs.inside.Choices.{Fix, Terms, Thermal, Choice, choice_cost, ends_at, longer_of, stays, stop_cost, IsLeastStop, IsOneOf, IsStop, IsStopAtOnce}
use Rattle.unit_path.specs.inside.Hours.{leave_cost, IsOnward, IsStopIn}
use Rattle.dual_model.proofs.BestChoices.{some-of}
use Rattle.dual_model.proofs.Costs.{total-assoc, total-zero}
use Rattle.dual_model.proofs.Following.{lasting-split}
use Rattle.unit_path.proofs.Going.{on-step, stop_cost-end, to_go, to_go-end, to_go-fits}
use Rattle.unit_path.proofs.RunLaws.{run-least, stay-barred, stay-hour}
use Rattle.unit_path.proofs.Switched.{stop-total}

pub longer-cost : (cost : ℤ) (choice : Option Choice) → choice_cost (longer_of cost choice) ≡ total_of (Some cost) (choice_cost choice)
longer-cost cost None = refl
longer-cost cost (Some choice) = refl

-- ---- chosen stops
-- a stop in period t itself
pub stop-here : (terms : Terms) (unit : Thermal) (fix : Fix) (since t : ℕ) (at : Option ℕ) (cost : ℤ) → unwrap_or at (period_count terms) ≡ t → t ≤ period_count terms
    → stop_cost terms unit fix since t ≡ Some cost → IsStop terms unit fix since t (record { cost = cost; at = at })
stop-here terms unit fix since t at cost e h is = record {
  later = omega arith;
  within = omega arith;
  attained =
      (λ i. total_of (stays terms unit fix since t ((let none : unwrap_or at (period_count terms) - t ≡ 0 = omega arith in none) i)) (stop_cost terms unit fix since (e i)))
      ∙ total-zero (stop_cost terms unit fix since t) ∙ is;
}

-- a stop behind a run
pub stop-further : (terms : Terms) (unit : Thermal) (fix : Fix) (since t from : ℕ) (spent : ℤ) (choice : Choice) → t ≤ from
    → Some spent ≡ stays terms unit fix since t (from - t) → IsStop terms unit fix since from choice
    → IsStop terms unit fix since t (record { cost = spent +ℤ choice.cost; at = choice.at })
stop-further terms unit fix since t from spent choice h is stop =
    let later = stop.later in
    let to = ends_at choice (period_count terms) in
    let count : to - t ≡ (from - t) + (to - from) = omega (arith, later) in
    let at : t + (from - t) ≡ from = omega arith in
    record {
      later = omega (arith, later);
      within = stop.within;
      attained = grind (arith, lasting-split, total-assoc, terms, unit, fix, since, to, t, count, from, is, at, spent, stop);
    }

longer-stop : (terms : Terms) (unit : Thermal) (fix : Fix) (since t from : ℕ) (spent : ℤ) (choice : Option Choice) → t ≤ from
    → Some spent ≡ stays terms unit fix since t (from - t) → IfSome choice (IsStop terms unit fix since from)
    → IfSome (longer_of spent choice) (IsStop terms unit fix since t)
longer-stop terms unit fix since t from spent None h is stop = tt
longer-stop terms unit fix since t from spent (Some choice) h is stop = stop-further terms unit fix since t from spent choice h is stop

at_once-stop : (terms : Terms) (unit : Thermal) (fix : Fix) (since : ℕ) (known : Option Choice) → since ≤ period_count terms
    → choice_cost known ≡ stop_cost terms unit fix since since → IfSome known (λ choice. choice.at ≡ Some since)
    → IfSome known (IsStop terms unit fix since since)
at_once-stop terms unit fix since None h cost at = tt
at_once-stop terms unit fix since (Some known) h cost at = stop-here terms unit fix since since known.at known.cost (ap (λ o. unwrap_or o (period_count terms)) at) h (sym cost)

-- ---- a unit that has just been switched on
pub least-at_once : (terms : Terms) (unit : Thermal) (fix : Fix) → IsLawfulThermal unit → AreSizedTerms unit terms
    → (since : ℕ) (known : Option Choice) → since ≤ period_count terms → IsStopAtOnce terms unit fix since since known
    → to_go terms unit fix since true since ≡ stop_cost terms unit fix since since
    → IsLeastStop terms unit fix since since known
least-at_once terms unit fix lawful sized since known h at_once e = grind (arith, to_go, to_go-fits, at_once-stop, lawful, sized, h, at_once, e)

pub least-later : (terms : Terms) (unit : Thermal) (fix : Fix) → IsLawfulThermal unit → AreSizedTerms unit terms
    → (since from : ℕ) (known : Option Choice) (spent : ℤ) (later result : Option Choice) → since < from → from ≤ period_count terms
    → ((k : ℕ) → since < k → k < from → may_stop unit since k ≡ false)
    → IsStopAtOnce terms unit fix since since known → Some spent ≡ stays terms unit fix since since (from - since)
    → IsLeastStop terms unit fix since from later
    → choice_cost result ≡ lesser_of (choice_cost known) (choice_cost (longer_of spent later))
    → (result ≡ known) ⊎ (result ≡ longer_of spent later)
    → IsLeastStop terms unit fix since since result
least-later terms unit fix lawful sized since from known spent later result low high barred at_once is least chosen one =
    let cost : choice_cost result ≡ to_go terms unit fix since true since =
    chosen
    ∙ (λ i. lesser_of (at_once.cost i) (longer-cost spent later i))
    ∙ (λ i. lesser_of (stop_cost terms unit fix since since) (total_of (is i) (least.cost i)))
    ∙ sym (run-least terms unit fix since from low high barred) in
    record {
      cost = cost;
      size = subst (IsWithin MAX_COST_TO_GO) (sym cost) (to_go-fits unit terms fix lawful sized since (omega arith) true since);
      stop =
          ⊎_elim
          (λ (e : result ≡ known). subst (λ o. IfSome o (IsStop terms unit fix since since)) (sym e)
          (at_once-stop terms unit fix since known (omega arith) at_once.cost at_once.at))
          (λ (e : result ≡ longer_of spent later). subst (λ o. IfSome o (IsStop terms unit fix since since)) (sym e)
          (longer-stop terms unit fix since since from spent later (omega arith) is least.stop))
          one;
    }

-- ---- a unit that has been on for long enough
pub least-onward : (terms : Terms) (unit : Thermal) (fix : Fix) → IsLawfulThermal unit → AreSizedTerms unit terms
    → (t : ℕ) (stay : ℤ) (next later stop result : Option Choice) (exit : Option ℤ) → t < period_count terms
    → (may_be_on fix t ≡ true → later ≡ next) → (may_be_on fix t ≡ false → later ≡ None)
    → ((since : ℕ) → since < t → may_stop unit since t ≡ true → IsLeastStop terms unit fix since (suc t) next)
    → Some stay ≡ hour_before terms unit t false false
    → exit ≡ total_of (leave_cost terms unit fix t false) (choice_cost stop) → IsStopIn terms unit fix t stop
    → choice_cost result ≡ lesser_of (total_of (Some stay) (choice_cost later)) exit
    → IsOneOf (longer_of stay later) exit (Some t) result
    → IsOnward terms unit fix t result
least-onward terms unit fix lawful sized t stay next later stop result exit within on off least is leaves entry chosen one since h may =
    record {
      cost = cost;
      size = subst (IsWithin MAX_COST_TO_GO) (sym cost) (to_go-fits unit terms fix lawful sized t (omega arith) true since);
      stop = ⊎_elim known_stop new_stop one;
    }
  where
    behind : IsLeastStop terms unit fix since (suc t) next
    behind = least since h may

    stayed : total_of (Some stay) (choice_cost later) ≡ total_of (move terms unit fix t true since true) (to_go terms unit fix (suc t) true since)
    stayed =
        ⊎_elim
        (λ (b : may_be_on fix t ≡ true). λ i. total_of ((is ∙ sym (stay-hour terms unit fix since t h b)) i) ((ap choice_cost (on b) ∙ behind.cost) i))
        (λ (b : may_be_on fix t ≡ false). ap (λ o. total_of (Some stay) (choice_cost o)) (off b)
        ∙ sym (ap (λ x. total_of x (to_go terms unit fix (suc t) true since)) (stay-barred terms unit fix since t b)))
        (cases_Bool (may_be_on fix t))

    left : exit ≡ stop_cost terms unit fix since t
    left = leaves
        ∙ ap (λ b. total_of (leave_cost terms unit fix t b) (choice_cost stop)) (sym (ne_eqb since t (λ e. omega arith)))
        ∙ stop-total terms unit fix since t stop within may entry

    cost : choice_cost result ≡ to_go terms unit fix t true since
    cost = chosen ∙ (λ i. lesser_of (stayed i) (left i)) ∙ sym (on-step terms unit fix since t within)

    known_stop : result ≡ longer_of stay later → IfSome result (IsStop terms unit fix since t)
    known_stop e =
        ⊎_elim
        (λ (b : may_be_on fix t ≡ true).
        let count : suc t - t ≡ 1 = omega arith in
        let spent : Some stay ≡ stays terms unit fix since t (suc t - t) =
        is ∙ sym (stay-hour terms unit fix since t h b)
        ∙ sym (total-zero (move terms unit fix t true since true))
        ∙ (λ i. total_of (Some (pos 0)) (move terms unit fix ((let same : t ≡ t + 0 = omega arith in same) i) true since true))
        ∙ ap (stays terms unit fix since t) (sym count) in
        subst (λ o. IfSome o (IsStop terms unit fix since t)) (sym e)
        (longer-stop terms unit fix since t (suc t) stay later (omega arith) spent
        (subst (λ o. IfSome o (IsStop terms unit fix since (suc t))) (sym (on b)) behind.stop)))
        (λ (b : may_be_on fix t ≡ false). subst (λ o. IfSome o (IsStop terms unit fix since t)) (sym (e ∙ ap (longer_of stay) (off b))) tt)
        (cases_Bool (may_be_on fix t))

    new_stop : (v : ℤ) × (exit ≡ Some v) × (result ≡ Some (record { cost = v; at = Some t })) → IfSome result (IsStop terms unit fix since t)
    new_stop new =
        subst (λ o. IfSome o (IsStop terms unit fix since t)) (sym new.2)
        (stop-here terms unit fix since t (Some t) new.0 refl (omega arith) (sym left ∙ new.1))

-- ---- the stop at once, and the end of the horizon
pub at_once-from : (terms : Terms) (unit : Thermal) (fix : Fix) (since : ℕ) (known : Option Choice) (cost : Option ℤ)
    → cost ≡ stop_cost terms unit fix since since → choice_cost known ≡ cost → IsOneOf None cost (Some since) known
    → IsStopAtOnce terms unit fix since since known
at_once-from terms unit fix since known cost is chosen one = grind (arith, is, chosen, one)

pub least-end : (terms : Terms) (unit : Thermal) (fix : Fix) → IsLawfulThermal unit → AreSizedTerms unit terms
    → (since t : ℕ) (choice : Option Choice) (cost : Option ℤ) → t ≡ period_count terms
    → cost ≡ hour_before terms unit t (since == t) false → choice_cost choice ≡ cost → IsOneOf None cost None choice
    → IsLeastStop terms unit fix since t choice
least-end terms unit fix lawful sized since t choice cost end is chosen one =
    let whole : choice_cost choice ≡ to_go terms unit fix t true since = chosen ∙ is ∙ sym (to_go-end terms unit fix t end true since) in
    record {
      cost = whole;
      size = subst (IsWithin MAX_COST_TO_GO) (sym whole) (to_go-fits unit terms fix lawful sized t (omega arith) true since);
      stop =
          some-of (IsStop terms unit fix since t) None choice cost None tt
          (λ v new. stop-here terms unit fix since t None v (sym end) (omega arith) (stop_cost-end terms unit fix since t end ∙ sym is ∙ new)) one;
    }
