-- The way that a commitment takes from the initial state: in which case there is one, and that its cost is the pattern's value.
use Rattle.std.proofs.Common.{◌≡◌, ℕ, zero, suc, ◌+◌, ◌<◌, ◌≤◌, ⊎_elim, Bool, true, false, not, refl, sym, ap, subst, ◌∙◌, arith, ℤ, pos, ◌+ℤ◌, ◌*ℤ◌, IsTrue, Option, Some, None, unwrap_or, ◌==◌, if◌then◌else◌}
use Rattle.std.proofs.lemmas.Bool.{cond-true, cond-false, lt-ltb, le-ltb}
use Rattle.uc_model.specs.Prelude.{sum_below, Commitment, was_on, starts, last_stop, sigma, period_count, term_at, may_stop, may_start}
use Rattle.uc_model.proofs.Common.{linear, sum_below-first, sum_below-same}
use Rattle.dual_model.specs.Prelude.{Terms, Thermal, is_followed, pattern_value, MoveCosts, EndCosts, total_of, since_after, way_cost, Fix, may_be_on, may_be_off, may_move, holds_initially, hour_cost, hour_before, hour_and_start, end_cost, way}
use Rattle.dual_model.specs.PatternValue.{period_value}
use Rattle.dual_model.specs.Moves.{allowed}
use Rattle.dual_model.proofs.Optimum.{total_of-parts}
use Rattle.dual_model.proofs.Switches.{since, since-start, last_stop-since}

-- ---- the hour before a period
-- what the pattern's hour before period t costs without the start; nothing where it is off
abbrev pub hour : Terms → Thermal → Commitment → ℕ → Option ℤ
hour terms unit on zero = Some (pos 0)
hour terms unit on (suc t) =
    if on t then hour_cost terms unit t (term_at terms t (starts unit on t) (is_followed (period_count terms) unit on t)) else Some (pos 0)

-- the hour before, by whether a stop follows it
hour-last : (terms : Terms) (unit : Thermal) (on : Commitment) (t : ℕ) (followed : Bool) → was_on unit on (suc t) ≡ true
    → followed ≡ is_followed (period_count terms) unit on t
    → hour_cost terms unit t (term_at terms t (since unit.on0 on (suc t) == suc t) followed) ≡ hour terms unit on (suc t)
hour-last terms unit on t followed e same = grind (arith, linear, since-start, cond-true, e, same)

-- the same of a state that is on, before a period of the horizon and after the last one
pub hour-on : (terms : Terms) (unit : Thermal) (on : Commitment) (t : ℕ) → t < period_count terms → was_on unit on t ≡ true
    → hour_before terms unit t (since unit.on0 on t == t) (not (on t)) ≡ hour terms unit on t
hour-on terms unit on zero h e = refl
hour-on terms unit on (suc t) h e = grind (arith, linear, hour-last, lt-ltb, h, e)

pub hour-end : (terms : Terms) (unit : Thermal) (on : Commitment) (t : ℕ) → t ≡ period_count terms → was_on unit on t ≡ true
    → hour_before terms unit t (since unit.on0 on t == t) false ≡ hour terms unit on t
hour-end terms unit on zero h e = refl
hour-end terms unit on (suc t) h e = grind (arith, linear, hour-last, le-ltb, h, e)

pub hour-off : (terms : Terms) (unit : Thermal) (on : Commitment) (t : ℕ) → was_on unit on t ≡ false → hour terms unit on t ≡ Some (pos 0)
hour-off terms unit on zero e = refl
hour-off terms unit on (suc t) e = cond-false (on t) _ _ e

-- ---- one period
-- the start in period t
abbrev pub start_value : Terms → Thermal → Commitment → ℕ → ℤ
start_value terms unit on t = if starts unit on t then terms.k *ℤ sigma unit (last_stop unit on t) t else pos 0

-- each rule that decides in period t lets the commitment through
pub record IsRight (unit : Thermal) (fix : Fix) (on : Commitment) (t : ℕ) : Type 0 where
  pub on_may : on t ≡ true → IsTrue (may_be_on fix t)
  pub off_may : on t ≡ false → IsTrue (may_be_off unit fix t)
  pub initially : was_on unit on t ≡ true → IsTrue (holds_initially unit t (not (on t)))
  pub stop_may : was_on unit on t ≡ true → on t ≡ false → IsTrue (may_stop unit (since unit.on0 on t) t)
  pub start_may : was_on unit on t ≡ false → on t ≡ true → IsTrue (may_start unit (since unit.on0 on t) t)

-- a move that may be, and the rules of its period
pub right-from : (unit : Thermal) (fix : Fix) (on : Commitment) (t from : ℕ) (was now : Bool) → was_on unit on t ≡ was → since unit.on0 on t ≡ from → on t ≡ now
    → IsTrue (may_move unit fix t was from now) → IsRight unit fix on t
right-from unit fix on t from true true w s n may = grind (arith, linear, w, s, n, may)
right-from unit fix on t from true false w s n may = grind (arith, linear, w, s, n, may)
right-from unit fix on t from false true w s n may = grind (arith, linear, w, s, n, may)
right-from unit fix on t from false false w s n may = grind (arith, linear, w, s, n, may)

pub right-may : (unit : Thermal) (fix : Fix) (on : Commitment) (t from : ℕ) (was now : Bool) → was_on unit on t ≡ was → since unit.on0 on t ≡ from → on t ≡ now
    → IsRight unit fix on t → IsTrue (may_move unit fix t was from now)
right-may unit fix on t from true true w s n right = grind (arith, linear, w, s, n, right)
right-may unit fix on t from true false w s n right = grind (arith, linear, w, s, n, right)
right-may unit fix on t from false true w s n right = grind (arith, linear, w, s, n, right)
right-may unit fix on t from false false w s n right = right.off_may n

-- ---- one move of a way, at any costs of the moves that may be
-- what a test lets through is there, and passed it
pub through : (b : Bool) (o : Option ℤ) (x : ℤ) → (if b then o else None) ≡ Some x → IsTrue b × (o ≡ Some x)
through true o x e = (refl, e)
through false o x e = cc

module _ (unit : Thermal) (fix : Fix) (costs : MoveCosts) (end : EndCosts) where
  abbrev allowed_way : Commitment → ℕ → ℕ → Bool → ℕ → Option ℤ
  allowed_way on n t was since = way_cost (allowed unit fix costs) end on n t was since

  abbrev onward : Commitment → ℕ → ℕ → Bool → ℕ → Bool → Option ℤ
  onward on n t was since now = total_of (allowed unit fix costs t was since now) (allowed_way on n (suc t) now (since_after was since now t))

  -- what a way of this cost says of its first move
  pub record Moved (on : Commitment) (n t : ℕ) (was : Bool) (since : ℕ) (now : Bool) (v : ℤ) : Type 0 where
    pub may : IsTrue (may_move unit fix t was since now)
    pub paid : ℤ
    pub rest : ℤ
    pub paid_is : costs t was since now ≡ Some paid
    pub rest_is : allowed_way on n (suc t) now (since_after was since now t) ≡ Some rest
    pub total : v ≡ paid +ℤ rest

  pub moved : (on : Commitment) (n t : ℕ) (was : Bool) (since : ℕ) (now : Bool) (v : ℤ) → on t ≡ now → allowed_way on (suc n) t was since ≡ Some v
      → Moved on n t was since now v
  moved on n t was since now v bit e =
      let parts = total_of-parts (allowed unit fix costs t was since now) (allowed_way on n (suc t) now (since_after was since now t)) v (ap (onward on n t was since) (sym bit) ∙ e) in
      let found = through (may_move unit fix t was since now) (costs t was since now) parts.first parts.first_is in
      record { may = found.0; paid = parts.first; rest = parts.second; paid_is = found.1; rest_is = parts.second_is; total = parts.total }

  -- and the other way round
  pub way-moved : (on : Commitment) (n t : ℕ) (was : Bool) (since : ℕ) (now : Bool) (paid rest : ℤ) → on t ≡ now → IsTrue (may_move unit fix t was since now)
      → costs t was since now ≡ Some paid → allowed_way on n (suc t) now (since_after was since now t) ≡ Some rest
      → allowed_way on (suc n) t was since ≡ Some (paid +ℤ rest)
  way-moved on n t was since now paid rest bit may paid_is rest_is =
      ap (onward on n t was since) bit
      ∙ (λ i. total_of ((cond-true (may_move unit fix t was since now) (costs t was since now) None may ∙ paid_is) i) (rest_is i))

-- ---- the hour behind a move, and a start
abbrev pub IsThere : Option ℤ → Type 0
IsThere o = (x : ℤ) × (o ≡ Some x)

move-hour : (terms : Terms) (unit : Thermal) (on : Commitment) (t : ℕ) (was now : Bool) (x : ℤ) → t < period_count terms → was_on unit on t ≡ was → on t ≡ now
    → hour_and_start terms unit t was (since unit.on0 on t) now ≡ Some x → IsThere (hour terms unit on t)
move-hour terms unit on t true now x h w n e = grind (arith, linear, hour-on, since, h, w, n, e)
move-hour terms unit on t false now x h w n e = (pos 0, hour-off terms unit on t w)

hour-move : (terms : Terms) (unit : Thermal) (on : Commitment) (t : ℕ) (was now : Bool) (x : ℤ) → t < period_count terms → was_on unit on t ≡ was → on t ≡ now
    → hour terms unit on t ≡ Some x → hour_and_start terms unit t was (since unit.on0 on t) now ≡ Some (x +ℤ start_value terms unit on t)
hour-move terms unit on t true now x h w n there = grind (arith, linear, cond-false, since, hour-on, h, w, n, there)
hour-move terms unit on t false true x h w n there = grind (arith, linear, hour-off, since, cond-true, last_stop-since, h, w, n, there)
hour-move terms unit on t false false x h w n there = grind (arith, linear, h, w, n, there)

-- ---- the whole way
-- the way from the state that the commitment has before period t
abbrev pub own_way : Terms → Thermal → Fix → Commitment → ℕ → ℕ → Option ℤ
own_way terms unit fix on n t = way terms unit fix on n t (was_on unit on t) (since unit.on0 on t)

-- what the way's end says
end-right : (terms : Terms) (unit : Thermal) (fix : Fix) (on : Commitment) (t : ℕ) (v : ℤ) → t ≡ period_count terms
    → own_way terms unit fix on 0 t ≡ Some v → IsThere (hour terms unit on t)
end-right terms unit fix on t v h e = by_state (was_on unit on t) refl
  where
    by_state : (was : Bool) → was_on unit on t ≡ was → IsThere (hour terms unit on t)
    by_state true w = (v, sym (hour-end terms unit on t h w) ∙ (λ i. end_cost terms unit t (sym w i) (since unit.on0 on t)) ∙ e)
    by_state false w = (pos 0, hour-off terms unit on t w)

end-from : (terms : Terms) (unit : Thermal) (fix : Fix) (on : Commitment) (t : ℕ) (x : ℤ) → t ≡ period_count terms
    → hour terms unit on t ≡ Some x → own_way terms unit fix on 0 t ≡ Some x
end-from terms unit fix on t x h e = grind (arith, linear, since, hour-end, hour-off, h, e)

-- what a way from period t on says of each period
pub record AllRight (terms : Terms) (unit : Thermal) (fix : Fix) (on : Commitment) (t : ℕ) : Type 0 where
  pub right : (k : ℕ) → t ≤ k → k < period_count terms → IsRight unit fix on k
  pub there : (k : ℕ) → t ≤ k → k ≤ period_count terms → IsThere (hour terms unit on k)

pub own_way-right : (terms : Terms) (unit : Thermal) (fix : Fix) (on : Commitment) (n t : ℕ) (v : ℤ) → n + t ≡ period_count terms
    → own_way terms unit fix on n t ≡ Some v → AllRight terms unit fix on t
own_way-right terms unit fix on zero t v h e =
    let last : t ≡ period_count terms = omega arith in
    record {
      right = λ k a b. absurd (omega arith);
      there = λ k a b. let same : t ≡ k = omega arith in
          subst (λ i. IsThere (hour terms unit on i)) same (end-right terms unit fix on t v last e);
    }
own_way-right terms unit fix on (suc n) t v h e =
    let first = moved unit fix (hour_and_start terms unit) (end_cost terms unit) on n t (was_on unit on t) (since unit.on0 on t) (on t) v refl e in
    let right = right-from unit fix on t (since unit.on0 on t) (was_on unit on t) (on t) refl refl refl first.may in
    let there = move-hour terms unit on t (was_on unit on t) (on t) first.paid (omega arith) refl refl first.paid_is in
    let rest = own_way-right terms unit fix on n (suc t) first.rest (omega arith) first.rest_is in
    record {
      right = λ k a b. ⊎_elim
          (λ (now : t ≡ k). subst (λ i. IsRight unit fix on i) now right)
          (λ (later : suc t ≤ k). rest.right k later b)
          (grind arith);
      there = λ k a b. ⊎_elim
          (λ (now : t ≡ k). subst (λ i. IsThere (hour terms unit on i)) now there)
          (λ (later : suc t ≤ k). rest.there k later b)
          (grind arith);
    }

-- the value of the hour before a period
abbrev pub hour_value : Terms → Thermal → Commitment → ℕ → ℤ
hour_value terms unit on t = unwrap_or (hour terms unit on t) (pos 0)

hour_value-is : (terms : Terms) (unit : Thermal) (on : Commitment) (t : ℕ) → IsThere (hour terms unit on t)
    → hour terms unit on t ≡ Some (hour_value terms unit on t)
hour_value-is terms unit on t there = there.1 ∙ ap Some (sym (ap (λ o. unwrap_or o (pos 0)) there.1))

period_value-is : (terms : Terms) (unit : Thermal) (on : Commitment) (t : ℕ) → IsThere (hour terms unit on (suc t))
    → period_value terms unit on t ≡ hour_value terms unit on (suc t) +ℤ start_value terms unit on t
period_value-is terms unit on t there = grind (arith, linear, there)

pub own_way-from : (terms : Terms) (unit : Thermal) (fix : Fix) (on : Commitment) (n t : ℕ) → n + t ≡ period_count terms
    → AllRight terms unit fix on t
    → own_way terms unit fix on n t ≡ Some (hour_value terms unit on t +ℤ sum_below n (λ k. period_value terms unit on (k + t)))
own_way-from terms unit fix on zero t h all =
    let last : t ≡ period_count terms = omega arith in
    end-from terms unit fix on t _ last (hour_value-is terms unit on t (all.there t (omega arith) (omega arith)))
    ∙ ap Some (let e : hour_value terms unit on t ≡ hour_value terms unit on t +ℤ pos 0 = omega (arith, linear) in e)
own_way-from terms unit fix on (suc n) t h all =
    let here = hour_value-is terms unit on t (all.there t (omega arith) (omega arith)) in
    let may = right-may unit fix on t (since unit.on0 on t) (was_on unit on t) (on t) refl refl refl (all.right t (omega arith) (omega arith)) in
    let paid = hour-move terms unit on t (was_on unit on t) (on t) (hour_value terms unit on t) (omega arith) refl refl here in
    let rest = own_way-from terms unit fix on n (suc t) (omega arith)
    (record { right = λ k a b. all.right k (omega arith) b; there = λ k a b. all.there k (omega arith) b }) in
    let first = sum_below-first n (λ k. period_value terms unit on (k + t)) in
    let at : 0 + t ≡ t = omega arith in
    let this : period_value terms unit on (0 + t) ≡ hour_value terms unit on (suc t) +ℤ start_value terms unit on t =
    ap (λ i. period_value terms unit on i) at ∙ period_value-is terms unit on t (all.there (suc t) (omega arith) (omega arith)) in
    let later : sum_below n (λ k. period_value terms unit on (suc k + t)) ≡ sum_below n (λ k. period_value terms unit on (k + suc t)) =
    sum_below-same n _ _ (λ k l. let e : suc k + t ≡ k + suc t = omega arith in ap (λ i. period_value terms unit on i) e) in
    way-moved unit fix (hour_and_start terms unit) (end_cost terms unit) on n t (was_on unit on t) (since unit.on0 on t) (on t) _ _ refl may paid rest
    ∙ ap Some (omega (arith, linear))

-- from the beginning
pub whole_way-from : (terms : Terms) (unit : Thermal) (fix : Fix) (on : Commitment) → AllRight terms unit fix on 0
    → way terms unit fix on (period_count terms) 0 unit.on0 0 ≡ Some (pattern_value terms unit on)
whole_way-from terms unit fix on all =
    own_way-from terms unit fix on (period_count terms) 0 (omega arith) all
    ∙ ap Some (
    let start : hour_value terms unit on 0 ≡ pos 0 = refl in
    let same : sum_below (period_count terms) (λ k. period_value terms unit on (k + 0)) ≡ pattern_value terms unit on =
    sum_below-same (period_count terms) _ _ (λ k l. let e : k + 0 ≡ k = omega arith in ap (λ i. period_value terms unit on i) e) in
    omega (arith, linear)
    )
