-- Bellman's recursion gives the least cost of a way, at any costs of moves: each commitment's way costs at least that, and one attains it.
-- Cite from a crate above by `use Rattle.dual_model.proofs.Optimum.{way-at_most, attained}`.
use Rattle.std.proofs.Common.{◌≡◌, ℕ, zero, suc, ◌≤◌, ◌⊎◌, inl, inr, ⊎_elim, Bool, true, false, refl, sym, ap, ◌∙◌, arith, ℤ, ◌+ℤ◌, ◌≤ℤ◌, Option, Some, None, ◌==◌, if◌then◌else◌}
use Rattle.std.proofs.lemmas.Int.{ints}
use Rattle.std.proofs.lemmas.Bool.{cond-true, cond-false, eq-eqb, ne_eqb}
use Rattle.uc_model.specs.Prelude.{Commitment}
use Rattle.uc_model.proofs.Common.{linear}
use Rattle.dual_model.specs.Prelude.{MoveCosts, EndCosts, total_of, lesser_of, since_after, least_cost, way_cost}

-- ---- costs that may not be there
pub record Parts (a b : Option ℤ) (v : ℤ) : Type 0 where
  pub first : ℤ
  pub second : ℤ
  pub first_is : a ≡ Some first
  pub second_is : b ≡ Some second
  pub total : v ≡ first +ℤ second

pub total_of-parts : (a b : Option ℤ) (v : ℤ) → total_of a b ≡ Some v → Parts a b v
total_of-parts None b v e = cc
total_of-parts (Some a) None v e = cc
total_of-parts (Some a) (Some b) v e = record { first = a; second = b; first_is = refl; second_is = refl; total = cc }

-- a cost that is there and at most v
pub record AtMost (a : Option ℤ) (v : ℤ) : Type 0 where
  pub cost : ℤ
  pub is : a ≡ Some cost
  pub below : cost ≤ℤ v

pub lesser_left : (a b : Option ℤ) (v : ℤ) → AtMost a v → AtMost (lesser_of a b) v
lesser_left None b v h = absurd (let e = h.is in cc)
lesser_left (Some a) None v h = h
lesser_left (Some a) (Some b) v h = grind (arith, ints, h)

pub lesser_right : (a b : Option ℤ) (v : ℤ) → AtMost b v → AtMost (lesser_of a b) v
lesser_right None b v h = h
lesser_right (Some a) None v h = absurd (let e = h.is in cc)
lesser_right (Some a) (Some b) v h = grind (arith, ints, h)

pub lesser_one : (a b : Option ℤ) (v : ℤ) → lesser_of a b ≡ Some v → (a ≡ Some v) ⊎ (b ≡ Some v)
lesser_one None b v e = inr e
lesser_one (Some a) None v e = inl e
lesser_one (Some a) (Some b) v e = grind (arith, ints, e)

-- the commitment with another bit in period t
abbrev with_bit : Commitment → ℕ → Bool → Commitment
with_bit on t b k = if k == t then b else on k

module _ (move : MoveCosts) (end : EndCosts) where
  abbrev least : ℕ → ℕ → Bool → ℕ → Option ℤ
  least n t was since = least_cost move end n t was since

  abbrev way : Commitment → ℕ → ℕ → Bool → ℕ → Option ℤ
  way on n t was since = way_cost move end on n t was since

  -- ---- each way costs at least the recursion's
  pub way-at_most : (on : Commitment) (n t : ℕ) (was : Bool) (since : ℕ) (v : ℤ) → way on n t was since ≡ Some v → AtMost (least n t was since) v
  way-at_most on zero t was since v e = record { cost = v; is = e; below = omega (arith, linear) }
  way-at_most on (suc n) t was since v e =
      let parts = total_of-parts _ _ v e in
      let rest = way-at_most on n (suc t) (on t) (since_after was since (on t) t) parts.second parts.second_is in
      let total = parts.total in
      let below = rest.below in
      let here : AtMost (one (on t)) v =
      record {
        cost = parts.first +ℤ rest.cost;
        is = λ i. total_of (parts.first_is i) (rest.is i);
        below = omega (arith, linear);
      }
      in
      choose (on t) here
    where
      one : Bool → Option ℤ
      one now = total_of (move t was since now) (least n (suc t) now (since_after was since now t))

      choose : (now : Bool) → AtMost (one now) v → AtMost (lesser_of (one true) (one false)) v
      choose true h = lesser_left (one true) (one false) v h
      choose false h = lesser_right (one true) (one false) v h

  -- ---- and one attains it
  way-same : (on other : Commitment) (n t : ℕ) (was : Bool) (since : ℕ) → ((k : ℕ) → t ≤ k → on k ≡ other k)
      → way on n t was since ≡ way other n t was since
  way-same on other zero t was since same = refl
  way-same on other (suc n) t was since same =
      (λ i. total_of (move t was since (same t (omega arith) i)) (way on n (suc t) (same t (omega arith) i) (since_after was since (same t (omega arith) i) t)))
      ∙ ap (total_of (move t was since (other t)))
      (way-same on other n (suc t) (other t) (since_after was since (other t) t) (λ k h. same k (omega arith)))

  -- a way of this cost
  pub record WayOf (n t : ℕ) (was : Bool) (since : ℕ) (v : ℤ) : Type 0 where
    pub on : Commitment
    pub is : way on n t was since ≡ Some v

  -- a move in front of a way
  extended : (n t : ℕ) (was : Bool) (since : ℕ) (now : Bool) (v : ℤ)
      → (parts : Parts (move t was since now) (least n (suc t) now (since_after was since now t)) v)
      → WayOf n (suc t) now (since_after was since now t) parts.second → WayOf (suc n) t was since v
  extended n t was since now v parts rest =
      record { on = with_bit rest.on t now; is = whole }
    where
      here : with_bit rest.on t now t ≡ now
      here = cond-true _ now (rest.on t) (eq-eqb t t refl)

      later : (k : ℕ) → suc t ≤ k → with_bit rest.on t now k ≡ rest.on k
      later k h = cond-false _ now (rest.on k) (ne_eqb k t (λ e. omega arith))

      whole : way (with_bit rest.on t now) (suc n) t was since ≡ Some v
      whole =
          (λ i. total_of (move t was since (here i)) (way (with_bit rest.on t now) n (suc t) (here i) (since_after was since (here i) t)))
          ∙ (λ i. total_of (parts.first_is i) (way-same (with_bit rest.on t now) rest.on n (suc t) now (since_after was since now t) later i))
          ∙ ap (total_of (Some parts.first)) rest.is
          ∙ ap Some (sym parts.total)

  pub attained : (n t : ℕ) (was : Bool) (since : ℕ) (v : ℤ) → least n t was since ≡ Some v → WayOf n t was since v
  attained zero t was since v e = record { on = λ k. false; is = e }
  attained (suc n) t was since v e =
      ⊎_elim
      (λ (h : total_of (move t was since true) (least n (suc t) true (since_after was since true t)) ≡ Some v).
      let parts = total_of-parts _ _ v h in
      extended n t was since true v parts (attained n (suc t) true (since_after was since true t) parts.second parts.second_is))
      (λ (h : total_of (move t was since false) (least n (suc t) false (since_after was since false t)) ≡ Some v).
      let parts = total_of-parts _ _ v h in
      extended n t was since false v parts (attained n (suc t) false (since_after was since false t) parts.second parts.second_is))
      (lesser_one _ _ v e)
