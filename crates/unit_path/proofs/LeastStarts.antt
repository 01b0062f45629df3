-- The least way of a unit that is off: of one that has just been switched off, and of one whose starts are cold.
use Rattle.std.proofs.Common.{◌≡◌, ℕ, suc, ◌+◌, ◌-◌, ◌<◌, ◌≤◌, ◌⊎◌, ⊎_elim, true, false, refl, sym, ap, subst, ◌∙◌, arith, ℤ, pos, ◌*ℤ◌, Option, Some, None, IfSome, unwrap_or}
use Rattle.std.proofs.lemmas.Bool.{cases_Bool}
use Rattle.uc_model.specs.Prelude.{IsLawfulThermal, sigma, period_count, may_start}
use Rattle.dual_model.specs.Prelude.{AreSizedTerms, may_be_off, stop_since, lesser_of, total_of}
use Rattle.unit_path.specs.inside.Choices.{Fix, Terms, Thermal, Choice, choice_cost, ends_at, rests, start_total, IsLeastStart, IsOneOf, IsStart}
use Rattle.unit_path.specs.inside.Hours.{IsCold, IsColdStart, IsStartIn}
use Rattle.dual_model.proofs.Costs.{lesser-assoc, lesser-comm, total-zero}
use Rattle.dual_model.proofs.Following.{lasting-split}
use Rattle.unit_path.proofs.Going.{start_total-end, to_go, to_go-end, to_go-fits}
use Rattle.unit_path.proofs.RestLaws.{lasted-later, off-barred, off-free, rest-until, rests-barred, rests-free}
use Rattle.unit_path.proofs.Switched.{start-total_of}

-- ---- chosen starts
pub start-further : (terms : Terms) (unit : Thermal) (fix : Fix) (since t from : ℕ) (choice : Option Choice) → t ≤ from
    → rests terms unit fix since t (from - t) ≡ Some (pos 0) → IfSome choice (IsStart terms unit fix since from) → IfSome choice (IsStart terms unit fix since t)
start-further terms unit fix since t from None h free start = tt
start-further terms unit fix since t from (Some choice) h free start =
    let later = start.later in
    let to = ends_at choice (period_count terms) in
    let count : to - t ≡ (from - t) + (to - from) = omega (arith, later) in
    let at : t + (from - t) ≡ from = omega arith in
    record {
      later = omega (arith, later);
      within = start.within;
      attained = grind (arith, lasting-split, total-zero, terms, unit, fix, since, to, t, count, from, free, at, start);
    }

-- a choice that is one of two, or a new one
pub start-of_one : (terms : Terms) (unit : Thermal) (fix : Fix) (since t : ℕ) (at : Option ℕ) (known result : Option Choice) (cost : Option ℤ)
    → t ≤ unwrap_or at (period_count terms) → unwrap_or at (period_count terms) ≤ period_count terms
    → rests terms unit fix since t (unwrap_or at (period_count terms) - t) ≡ Some (pos 0) → cost ≡ start_total terms unit fix since (unwrap_or at (period_count terms))
    → IfSome known (IsStart terms unit fix since t) → IsOneOf known cost at result → IfSome result (IsStart terms unit fix since t)
start-of_one terms unit fix since t at known result cost low high free is start one = grind (arith, low, high, free, is, start, one)

-- the least way by its cost and a start that attains it
pub least-start : (terms : Terms) (unit : Thermal) (fix : Fix) → IsLawfulThermal unit → AreSizedTerms unit terms
    → (since t : ℕ) (choice : Option Choice) → t ≤ period_count terms → choice_cost choice ≡ to_go terms unit fix t false since
    → IfSome choice (IsStart terms unit fix since t) → IsLeastStart terms unit fix since t choice
least-start terms unit fix lawful sized since t choice h cost start = grind (arith, to_go-fits, lawful, sized, h, cost, start)

-- ---- one start more
-- the least way from a rest in period t, from that of one period later
pub warmer : (terms : Terms) (unit : Thermal) (fix : Fix) (since t : ℕ) (best result : Option Choice) (cost whole : Option ℤ) → t < period_count terms
    → may_be_off unit fix t ≡ true → cost ≡ start_total terms unit fix since t
    → lesser_of (choice_cost best) (to_go terms unit fix t false since) ≡ whole
    → choice_cost result ≡ lesser_of (choice_cost best) cost
    → lesser_of (choice_cost result) (to_go terms unit fix (suc t) false since) ≡ whole
warmer terms unit fix since t best result cost whole h may is so_far chosen = grind (arith, to_go, lesser-assoc, off-free, h, may, is, so_far, chosen)

-- the best start in the periods from `from` to the one before t, with the way on from a rest to t
pub record IsBestTo (terms : Terms) (unit : Thermal) (fix : Fix) (since from t : ℕ) (best : Option Choice) : Type 0 where
  pub cost : lesser_of (choice_cost best) (to_go terms unit fix t false since) ≡ to_go terms unit fix from false since
  pub start : IfSome best (IsStart terms unit fix since from)

pub best-more : (terms : Terms) (unit : Thermal) (fix : Fix) (since from t : ℕ) (start best result : Option Choice) (cost : Option ℤ)
    → from ≤ t → t < period_count terms → may_start unit since from ≡ true → ((k : ℕ) → from ≤ k → k ≤ t → may_be_off unit fix k ≡ true)
    → IsStartIn terms unit fix t start → cost ≡ total_of (Some (terms.k *ℤ sigma unit (stop_since since) t)) (choice_cost start)
    → IsBestTo terms unit fix since from t best
    → choice_cost result ≡ lesser_of (choice_cost best) cost → IsOneOf best cost (Some t) result
    → IsBestTo terms unit fix since from (suc t) result
best-more terms unit fix since from t start best result cost low high may off entry is so_far chosen one =
    let started : cost ≡ start_total terms unit fix since t =
    is ∙ start-total_of terms unit fix since t start high (lasted-later (unit.dt - unit.dt0) unit.dt since from t low may) entry in
    record {
      cost = warmer terms unit fix since t best result cost _ high (off t low (omega arith)) started so_far.cost chosen;
      start = start-of_one terms unit fix since from (Some t) best result cost low (omega arith)
          (rests-free terms unit fix since from (t - from) (λ k a b. off k a (omega arith))) started so_far.start one;
    }

-- ---- a unit that has just been switched off
-- it rests until it may start
pub rest-free : (terms : Terms) (unit : Thermal) (fix : Fix) (since from : ℕ) → since ≤ from → from ≤ period_count terms
    → ((k : ℕ) → since ≤ k → k < from → may_start unit since k ≡ false) → ((k : ℕ) → since ≤ k → k < from → may_be_off unit fix k ≡ true)
    → to_go terms unit fix since false since ≡ to_go terms unit fix from false since
rest-free terms unit fix since from low high barred off =
    rest-until terms unit fix since from low high barred
    ∙ ap (λ x. total_of x (to_go terms unit fix from false since)) (rests-free terms unit fix since since (from - since) (λ k a b. off k a (omega arith)))
    ∙ total-zero (to_go terms unit fix from false since)

-- and if it may not rest for so long, there is no way
pub least-none : (terms : Terms) (unit : Thermal) (fix : Fix) → IsLawfulThermal unit → AreSizedTerms unit terms
    → (since from until : ℕ) → since ≤ until → until < from → from ≤ period_count terms
    → ((k : ℕ) → since ≤ k → k < from → may_start unit since k ≡ false) → may_be_off unit fix until ≡ false
    → IsLeastStart terms unit fix since since None
least-none terms unit fix lawful sized since from until low short high barred off =
    least-start terms unit fix lawful sized since since None (omega arith)
    (sym (
    rest-until terms unit fix since from (omega arith) high barred
    ∙ ap (λ x. total_of x (to_go terms unit fix from false since)) (rests-barred terms unit fix since since until (from - since) low (omega arith) off)
    )) tt

-- the best start before the last period in which it may rest, or the one there
pub least-to : (terms : Terms) (unit : Thermal) (fix : Fix) → IsLawfulThermal unit → AreSizedTerms unit terms
    → (since from until : ℕ) (start best result : Option Choice) (cost : Option ℤ) → since ≤ from → from ≤ until → until < period_count terms
    → ((k : ℕ) → since ≤ k → k < from → may_start unit since k ≡ false) → may_start unit since until ≡ true
    → ((k : ℕ) → since ≤ k → k < until → may_be_off unit fix k ≡ true) → may_be_off unit fix until ≡ false
    → IsStartIn terms unit fix until start → cost ≡ total_of (Some (terms.k *ℤ sigma unit (stop_since since) until)) (choice_cost start)
    → IsBestTo terms unit fix since from until best
    → choice_cost result ≡ lesser_of (choice_cost best) cost → IsOneOf best cost (Some until) result
    → IsLeastStart terms unit fix since since result
least-to terms unit fix lawful sized since from until start best result cost low order high barred may off last entry is so_far chosen one =
    let started : cost ≡ start_total terms unit fix since until = is ∙ start-total_of terms unit fix since until start high may entry in
    least-start terms unit fix lawful sized since since result (omega arith)
    (chosen ∙ ap (lesser_of (choice_cost best)) (started ∙ sym (off-barred terms unit fix since until high last))
    ∙ so_far.cost
    ∙ sym (rest-free terms unit fix since from low (omega arith) barred (λ k a b. off k a (omega arith))))
    (start-of_one terms unit fix since since (Some until) best result cost (omega arith) (omega arith)
    (rests-free terms unit fix since since (until - since) (λ k a b. off k a (omega arith))) started
    (start-further terms unit fix since since from best low (rests-free terms unit fix since since (from - since) (λ k a b. off k a (omega arith))) so_far.start)
    one)

-- the best start before the cold ones, or the best of these
pub least-from_cold : (terms : Terms) (unit : Thermal) (fix : Fix) → IsLawfulThermal unit → AreSizedTerms unit terms
    → (since from cold : ℕ) (start best result : Option Choice) → since ≤ from → from ≤ cold → cold ≤ period_count terms
    → ((k : ℕ) → since ≤ k → k < from → may_start unit since k ≡ false)
    → ((k : ℕ) → since ≤ k → k < cold → may_be_off unit fix k ≡ true)
    → IsLeastStart terms unit fix since cold start
    → IsBestTo terms unit fix since from cold best
    → choice_cost result ≡ lesser_of (choice_cost best) (choice_cost start) → (result ≡ best) ⊎ (result ≡ start)
    → IsLeastStart terms unit fix since since result
least-from_cold terms unit fix lawful sized since from cold start best result low order high barred off least so_far chosen one =
    least-start terms unit fix lawful sized since since result (omega arith)
    (chosen ∙ ap (lesser_of (choice_cost best)) least.cost
    ∙ so_far.cost
    ∙ sym (rest-free terms unit fix since from low (omega arith) barred (λ k a b. off k a (omega arith))))
    (⊎_elim
    (λ (e : result ≡ best). subst (λ o. IfSome o (IsStart terms unit fix since since)) (sym e)
    (start-further terms unit fix since since from best low (rests-free terms unit fix since since (from - since) (λ k a b. off k a (omega arith))) so_far.start))
    (λ (e : result ≡ start). subst (λ o. IfSome o (IsStart terms unit fix since since)) (sym e)
    (start-further terms unit fix since since cold start (omega arith) (rests-free terms unit fix since since (cold - since) (λ k a b. off k a (omega arith))) least.start))
    one)

-- at the end of the horizon there is nothing to pay
pub least-start_end : (terms : Terms) (unit : Thermal) (fix : Fix) → IsLawfulThermal unit → AreSizedTerms unit terms
    → (since t : ℕ) (choice : Option Choice) → t ≡ period_count terms
    → choice_cost choice ≡ Some (pos 0) → IsOneOf None (Some (pos 0)) None choice
    → IsLeastStart terms unit fix since t choice
least-start_end terms unit fix lawful sized since t choice end chosen one =
    least-start terms unit fix lawful sized since t choice (omega arith)
    (chosen ∙ sym (to_go-end terms unit fix t end false since))
    (start-of_one terms unit fix since t None None choice (Some (pos 0)) (omega arith) (omega arith)
    (ap (rests terms unit fix since t) (let none : period_count terms - t ≡ 0 = omega arith in none))
    (sym (start_total-end terms unit fix since (period_count terms) refl))
    tt one)

-- ---- cold starts
pub least-cold : (terms : Terms) (unit : Thermal) (fix : Fix) → IsLawfulThermal unit → AreSizedTerms unit terms
    → (t : ℕ) (start next later result : Option Choice) (cost : Option ℤ) → t < period_count terms
    → (may_be_off unit fix t ≡ true → later ≡ next) → (may_be_off unit fix t ≡ false → later ≡ None)
    → ((since : ℕ) → since ≤ t → may_start unit since t ≡ true → IsCold unit since t → IsLeastStart terms unit fix since (suc t) next)
    → IsStartIn terms unit fix t start
    → cost ≡ total_of (Some (terms.k *ℤ sigma unit None t)) (choice_cost start)
    → choice_cost result ≡ lesser_of (choice_cost later) cost
    → IsOneOf later cost (Some t) result
    → IsColdStart terms unit fix t result
least-cold terms unit fix lawful sized t start next later result cost within off on least entry is chosen one since h may cold =
    least-start terms unit fix lawful sized since t result (omega arith) whole
    (start-of_one terms unit fix since t (Some t) later result cost (omega arith) (omega arith) (ap (rests terms unit fix since t) none) started known one)
  where
    none : t - t ≡ 0
    none = omega arith

    behind : IsLeastStart terms unit fix since (suc t) next
    behind = least since h may cold

    started : cost ≡ start_total terms unit fix since t
    started = is
        ∙ ap (λ z. total_of (Some (terms.k *ℤ z)) (choice_cost start)) (sym (cold t (omega arith)))
        ∙ start-total_of terms unit fix since t start within may entry

    whole : choice_cost result ≡ to_go terms unit fix t false since
    whole =
        ⊎_elim
        (λ (b : may_be_off unit fix t ≡ true).
        chosen ∙ (λ i. lesser_of ((ap choice_cost (off b) ∙ behind.cost) i) (started i))
        ∙ lesser-comm (to_go terms unit fix (suc t) false since) (start_total terms unit fix since t)
        ∙ sym (off-free terms unit fix since t within b))
        (λ (b : may_be_off unit fix t ≡ false).
        chosen ∙ (λ i. lesser_of (choice_cost (on b i)) (started i)) ∙ sym (off-barred terms unit fix since t within b))
        (cases_Bool (may_be_off unit fix t))

    known : IfSome later (IsStart terms unit fix since t)
    known =
        ⊎_elim
        (λ (b : may_be_off unit fix t ≡ true).
        start-further terms unit fix since t (suc t) later (omega arith)
        (rests-free terms unit fix since t (suc t - t) (λ k low high. ap (may_be_off unit fix) (let e : k ≡ t = omega arith in e) ∙ b))
        (subst (λ o. IfSome o (IsStart terms unit fix since (suc t))) (sym (off b)) behind.start))
        (λ (b : may_be_off unit fix t ≡ false). subst (λ o. IfSome o (IsStart terms unit fix since t)) (sym (on b)) tt)
        (cases_Bool (may_be_off unit fix t))
