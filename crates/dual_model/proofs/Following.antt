-- The way that choices lead costs what the first one says, where each costs the least.
-- Cite from a crate above by `use Rattle.dual_model.proofs.Following.{followed, forced-to, lasting-split, may-enter_on}`.
use Rattle.std.proofs.Common.{◌≡◌, ◌≢◌, ℕ, zero, suc, ◌+◌, ◌-◌, ◌<◌, ◌≤◌, ⊎_elim, Bool, true, false, not, ◌==◌, refl, sym, ap, subst, ◌∙◌, arith, ℤ, Option, Some, None, IfSome, if◌then◌else◌}
use Rattle.std.proofs.lemmas.Bool.{and_parts, cases_lt, cond-true, cond-false, eq-eqb, ne_eqb}
use Rattle.uc_model.specs.Prelude.{Commitment, commitment_of, may_start}
use Rattle.dual_model.specs.Prelude.{EndCosts, MoveCosts, least_cost, lesser_of, since_after, total_of, way_cost, Choice, choice_cost, ends_at, next_after, Fix, Thermal, may_be_off, may_be_on, may_move, AreLeast, Choices, IsAttained, IsTraced, Stretch, Trace, lasting, stretch, stretch_behind}
use Rattle.dual_model.specs.Moves.{allowed}
use Rattle.dual_model.proofs.Costs.{lesser-none, total-assoc, total-zero}
use Rattle.dual_model.proofs.Optimum.{total_of-parts}
use Rattle.dual_model.proofs.Ways.{through}

-- ---- what a switch may enter
pub may-turn_on : (unit : Thermal) (fix : Fix) (t since : ℕ) → may_move unit fix t false since true ≡ true → may_be_on fix t ≡ true
may-turn_on unit fix t since may = (and_parts (may_be_on fix t) (may_start unit since t) may).0

pub may-turn_off : (unit : Thermal) (fix : Fix) (t since : ℕ) → may_move unit fix t true since false ≡ true → may_be_off unit fix t ≡ true
may-turn_off unit fix t since may = grind (arith, may)

pub may-enter_on : (unit : Thermal) (fix : Fix) (costs : MoveCosts) (t since : ℕ) (v : ℤ) → allowed unit fix costs t false since true ≡ Some v → may_be_on fix t ≡ true
may-enter_on unit fix costs t since v e = may-turn_on unit fix t since (through (may_move unit fix t false since true) (costs t false since true) v e).0

pub may-enter_off : (unit : Thermal) (fix : Fix) (costs : MoveCosts) (t since : ℕ) (v : ℤ) → allowed unit fix costs t true since false ≡ Some v
    → may_be_off unit fix t ≡ true
may-enter_off unit fix costs t since v e = grind (arith, e)

-- ---- one period more
pub stretch-kept : (choices : Choices) (end t until : ℕ) (on : Bool) → t ≢ until
    → record { on = on; until = until } ≡ stretch_behind choices end t (record { on = on; until = until })
stretch-kept choices end t until on h = sym (cond-false (t == until) _ _ (ne_eqb t until h))

pub stretch-turned : (choices : Choices) (end t until next : ℕ) (on : Bool) (start stop : Option Choice) → choices t true ≡ start → choices t false ≡ stop
    → t ≡ until → next ≡ next_after (if not on then start else stop) end
    → record { on = not on; until = next } ≡ stretch_behind choices end t (record { on = on; until = until })
stretch-turned choices end t until next on start stop a b h e = grind (arith, a, b, h, e)

pub traced-more : (choices : Choices) (on : Bool) (first : Choice) (t : ℕ) (old new : Trace) → new.end ≡ old.end
    → record { on = new.on; until = new.until } ≡ stretch_behind choices old.end t (record { on = old.on; until = old.until })
    → (commitment_of old.pattern t ≡ false → commitment_of new.pattern t ≡ new.on)
    → ((k : ℕ) → k ≢ t → commitment_of new.pattern k ≡ commitment_of old.pattern k)
    → IsTraced choices on first t old → IsTraced choices on first (suc t) new
traced-more choices on first t old new end is here others traced =
    let now : record { on = new.on; until = new.until } ≡ stretch choices new.end on first (suc t) =
    is ∙ ap (stretch_behind choices old.end t) traced.now ∙ ap (λ e. stretch choices e on first (suc t)) (sym end) in
    record {
      now = now;
      before = λ k high. ⊎_elim
          (λ (less : k < t). others k (λ e. omega (arith, e, less)) ∙ traced.before k less ∙ ap (λ e. (stretch choices e on first (suc k)).on) (sym end))
          (λ (last : t ≤ k).
          let same : t ≡ k = omega (arith, last, high) in
          subst (λ j. commitment_of new.pattern j ≡ (stretch choices new.end on first (suc j)).on) same
          (here (traced.after t (omega arith)) ∙ ap (λ (s : Stretch). s.on) now))
          (cases_lt k t);
      after = λ k low. others k (λ e. omega (arith, e, low)) ∙ traced.after k (omega (arith, low));
    }

-- ---- a state that lasts
pub lasting-split : (move : MoveCosts) (was : Bool) (since t m n : ℕ)
    → lasting move was since t (m + n) ≡ total_of (lasting move was since t m) (lasting move was since (t + m) n)
lasting-split move was since t m zero = grind arith
lasting-split move was since t m (suc n) =
    let count : m + suc n ≡ suc (m + n) = omega arith in
    let at : t + (m + n) ≡ (t + m) + n = omega arith in
    ap (lasting move was since t) count
    ∙ (λ i. total_of (lasting-split move was since t m n i) (move (at i) was since was))
    ∙ total-assoc (lasting move was since t m) (lasting move was since (t + m) n) (move ((t + m) + n) was since was)

module _ (move : MoveCosts) (end : EndCosts) (periods : ℕ) where
  abbrev to_go : ℕ → Bool → ℕ → Option ℤ
  to_go t was since = least_cost move end (periods - t) t was since

  -- one that may not be left
  forced : (was : Bool) (since t : ℕ) → t < periods → move t was since (not was) ≡ None
      → to_go t was since ≡ total_of (move t was since was) (to_go (suc t) was since)
  forced true since t h none =
      let left : periods - t ≡ suc (periods - suc t) = omega arith in
      let stay = total_of (move t true since true) (to_go (suc t) true since) in
      ap (λ n. least_cost move end n t true since) left
      ∙ ap (λ o. lesser_of stay (total_of o (to_go (suc t) false (suc t)))) none
      ∙ lesser-none stay
  forced false since t h none =
      let left : periods - t ≡ suc (periods - suc t) = omega arith in
      ap (λ n. least_cost move end n t false since) left
      ∙ ap (λ o. lesser_of (total_of o (to_go (suc t) true (suc t))) (total_of (move t false since false) (to_go (suc t) false since))) none

  forced-on : (was : Bool) (since t n : ℕ) → t + n ≤ periods → ((k : ℕ) → t ≤ k → k < t + n → move k was since (not was) ≡ None)
      → to_go t was since ≡ total_of (lasting move was since t n) (to_go (t + n) was since)
  forced-on was since t zero h none = ap (λ k. to_go k was since) (let e : t ≡ t + 0 = omega arith in e) ∙ sym (total-zero (to_go (t + 0) was since))
  forced-on was since t (suc n) h none =
      let next : suc (t + n) ≡ t + suc n = omega arith in
      forced-on was since t n (omega arith) (λ k a b. none k a (omega (arith, b)))
      ∙ ap (total_of (lasting move was since t n)) (forced was since (t + n) (omega arith) (none (t + n) (omega arith) (omega arith)))
      ∙ sym (total-assoc (lasting move was since t n) (move (t + n) was since was) (to_go (suc (t + n)) was since))
      ∙ ap (λ k. total_of (lasting move was since t (suc n)) (to_go k was since)) next

  pub forced-to : (was : Bool) (since t to : ℕ) → t ≤ to → to ≤ periods → ((k : ℕ) → t ≤ k → k < to → move k was since (not was) ≡ None)
      → to_go t was since ≡ total_of (lasting move was since t (to - t)) (to_go to was since)
  forced-to was since t to low high none =
      let there : t + (to - t) ≡ to = omega arith in
      forced-on was since t (to - t) (omega arith) (λ k a b. none k a (omega (arith, b)))
      ∙ ap (λ k. total_of (lasting move was since t (to - t)) (to_go k was since)) there

-- ---- a way along a state that lasts, and over the switch behind it
after-stay : (was : Bool) (since t : ℕ) → since_after was since was t ≡ since
after-stay true since t = refl
after-stay false since t = refl

after-switch : (was : Bool) (since t : ℕ) → since_after was since (not was) t ≡ suc t
after-switch true since t = refl
after-switch false since t = refl

module _ (move : MoveCosts) (end : EndCosts) (periods : ℕ) (bits : Commitment) where
  abbrev way : ℕ → Bool → ℕ → Option ℤ
  way t was since = way_cost move end bits (periods - t) t was since

  way-step : (t : ℕ) (was : Bool) (since : ℕ) (now : Bool) (next : ℕ) → t < periods → bits t ≡ now → since_after was since now t ≡ next
      → way t was since ≡ total_of (move t was since now) (way (suc t) now next)
  way-step t was since now next h e after =
      let left : periods - t ≡ suc (periods - suc t) = omega arith in
      ap (λ n. way_cost move end bits n t was since) left
      ∙ (λ i. total_of (move t was since (e i)) (way (suc t) (e i) (since_after was since (e i) t)))
      ∙ ap (λ s. total_of (move t was since now) (way (suc t) now s)) after

  way-lasts : (was : Bool) (since t n : ℕ) → t + n ≤ periods → ((k : ℕ) → t ≤ k → k < t + n → bits k ≡ was)
      → way t was since ≡ total_of (lasting move was since t n) (way (t + n) was since)
  way-lasts was since t zero h same =
      ap (λ k. way k was since) (let e : t ≡ t + 0 = omega arith in e) ∙ sym (total-zero (way (t + 0) was since))
  way-lasts was since t (suc n) h same =
      let next : suc (t + n) ≡ t + suc n = omega arith in
      way-lasts was since t n (omega arith) (λ k a b. same k a (omega (arith, b)))
      ∙ ap (total_of (lasting move was since t n))
      (way-step (t + n) was since was since (omega arith) (same (t + n) (omega arith) (omega arith)) (after-stay was since (t + n)))
      ∙ sym (total-assoc (lasting move was since t n) (move (t + n) was since was) (way (suc (t + n)) was since))
      ∙ ap (λ k. total_of (lasting move was since t (suc n)) (way k was since)) next

  way-to : (was : Bool) (since t to : ℕ) → t ≤ to → to ≤ periods → ((k : ℕ) → t ≤ k → k < to → bits k ≡ was)
      → way t was since ≡ total_of (lasting move was since t (to - t)) (way to was since)
  way-to was since t to low high same =
      let there : t + (to - t) ≡ to = omega arith in
      way-lasts was since t (to - t) (omega arith) (λ k a b. same k a (omega (arith, b)))
      ∙ ap (λ k. total_of (lasting move was since t (to - t)) (way k was since)) there

-- ---- from switch to switch
-- a choice that is there
record Chosen (P : Choice → Type 0) (choice : Option Choice) (cost : ℤ) : Type 0 where
  chosen : Choice
  is : choice ≡ Some chosen
  holds : P chosen
  same : chosen.cost ≡ cost

choice-there : (P : Choice → Type 0) (choice : Option Choice) (cost : ℤ) → choice_cost choice ≡ Some cost → IfSome choice P → Chosen P choice cost
choice-there P None cost e h = cc
choice-there P (Some choice) cost e h = record { chosen = choice; is = refl; holds = h; same = cc }

module _ (move : MoveCosts) (end : EndCosts) (periods : ℕ) (choices : Choices) (least : AreLeast move end periods choices) (on : Bool) (first : Choice)
    (bits : Commitment) (same : (k : ℕ) → k < periods → bits k ≡ (stretch choices periods on first (suc k)).on) where
  abbrev at : ℕ → Stretch
  at t = stretch choices periods on first t

  lasts : (was : Bool) (to t n : ℕ) → at t ≡ record { on = was; until = to } → t + n ≤ to → at (t + n) ≡ record { on = was; until = to }
  lasts was to t zero is h = ap at (let e : t + 0 ≡ t = omega arith in e) ∙ is
  lasts was to t (suc n) is h =
      ap at (let e : t + suc n ≡ suc (t + n) = omega arith in e)
      ∙ ap (stretch_behind choices periods (t + n)) (lasts was to t n is (omega arith))
      ∙ cond-false (t + n == to) _ _ (ne_eqb (t + n) to (λ e. omega (arith, e)))

  lasts-to : (was : Bool) (to t k : ℕ) → at t ≡ record { on = was; until = to } → t ≤ k → k ≤ to → at k ≡ record { on = was; until = to }
  lasts-to was to t k is low high = let e : t + (k - t) ≡ k = omega arith in ap at (sym e) ∙ lasts was to t (k - t) is (omega arith)

  run : (was : Bool) (to t k : ℕ) → at t ≡ record { on = was; until = to } → to ≤ periods → t ≤ k → k < to → bits k ≡ was
  run was to t k is within low high = same k (omega arith) ∙ ap (λ (s : Stretch). s.on) (lasts-to was to t (suc k) is (omega arith) (omega arith))

  turned : (was : Bool) (to t : ℕ) → at t ≡ record { on = was; until = to } → t ≤ to
      → at (suc to) ≡ record { on = not was; until = next_after (choices to (not was)) periods }
  turned was to t is low =
      ap (stretch_behind choices periods to) (lasts-to was to t to is low (omega arith)) ∙ cond-true (to == to) _ _ (eq-eqb to to refl)

  -- from a switch on, where the same holds from the next one on
  one_more : (t : ℕ) (was : Bool) (since : ℕ) (choice : Choice) → at t ≡ record { on = was; until = ends_at choice periods }
      → IsAttained move end periods t was since choice
      → ((next : Choice) → ends_at choice periods < periods
      → at (suc (ends_at choice periods)) ≡ record { on = not was; until = ends_at next periods }
      → IsAttained move end periods (suc (ends_at choice periods)) (not was) (suc (ends_at choice periods)) next
      → way move end periods bits (suc (ends_at choice periods)) (not was) (suc (ends_at choice periods)) ≡ Some next.cost)
      → way move end periods bits t was since ≡ Some choice.cost
  one_more t was since choice is plan onward = ⊎_elim switched ended (cases_lt to periods)
    where
      to : ℕ
      to = ends_at choice periods

      before : Option ℤ
      before = lasting move was since t (to - t)

      along : way move end periods bits t was since ≡ total_of before (way move end periods bits to was since)
      along = way-to move end periods bits was since t to plan.later plan.within (λ k a b. run was to t k is plan.within a b)

      ended : periods ≤ to → way move end periods bits t was since ≡ Some choice.cost
      ended past =
          let within = plan.within in
          let none : periods - to ≡ 0 = omega (arith, within, past) in
          let last : to ≡ periods = omega (arith, within, past) in
          along
          ∙ ap (λ m. total_of before (way_cost move end bits m to was since)) none
          ∙ ap (total_of before) (sym (cond-true (to == periods) (end to was since) _ (eq-eqb to periods last)))
          ∙ plan.attained

      moved : Option ℤ
      moved = move to was since (not was)

      behind : Option ℤ
      behind = least_cost move end (periods - suc to) (suc to) (not was) (suc to)

      switched : to < periods → way move end periods bits t was since ≡ Some choice.cost
      switched short =
          let total : total_of before (total_of moved behind) ≡ Some choice.cost =
          ap (total_of before) (sym (cond-false (to == periods) (end to was since) (total_of moved behind) (ne_eqb to periods (λ e. omega (arith, short, e)))))
          ∙ plan.attained in
          let whole = total_of-parts before (total_of moved behind) choice.cost total in
          let parts = total_of-parts moved behind whole.second whole.second_is in
          let best = least to was since parts.first short parts.first_is in
          let next = choice-there (IsAttained move end periods (suc to) (not was) (suc to)) (choices to (not was)) parts.second (best.cost ∙ parts.second_is) best.attained in
          let turn = turned was to t is plan.later in
          let rest = onward next.chosen short (turn ∙ ap (λ o. record { on = not was; until = next_after o periods }) next.is) next.holds in
          along
          ∙ ap (total_of before)
          (way-step move end periods bits to was since (not was) (suc to) short (same to short ∙ ap (λ (s : Stretch). s.on) turn) (after-switch was since to)
          ∙ ap (total_of moved) (rest ∙ ap Some next.same ∙ sym parts.second_is))
          ∙ total

  -- with at most n periods left
  from_switch : (n t : ℕ) (was : Bool) (since : ℕ) (choice : Choice) → periods - t ≤ n → at t ≡ record { on = was; until = ends_at choice periods }
      → IsAttained move end periods t was since choice → way move end periods bits t was since ≡ Some choice.cost
  from_switch zero t was since choice left is plan =
      one_more t was since choice is plan (λ next short turn holds. let low = plan.later in absurd (omega (arith, low, left, short)))
  from_switch (suc m) t was since choice left is plan =
      one_more t was since choice is plan
      (λ next short turn holds.
      from_switch m (suc (ends_at choice periods)) (not was) (suc (ends_at choice periods)) next (let low = plan.later in omega (arith, low, left, short)) turn holds)

  -- the whole way
  pub followed : IsAttained move end periods 0 on 0 first → way_cost move end bits periods 0 on 0 ≡ Some first.cost
  followed plan =
      let left : periods ≡ periods - 0 = omega arith in
      ap (λ n. way_cost move end bits n 0 on 0) left ∙ from_switch periods 0 on 0 first (omega arith) refl plan
