-- Category s + 1 is the cheapest of those above s where it is allowed and no dearer than the cheapest of the
-- later ones, and else that one is.
use Rattle.std.proofs.Common.{◌≡◌, ℕ, suc, ◌<◌, ◌⊎◌, ⊎_elim, sym, ap, subst, ◌∙◌, arith, ℤ, ◌≤ℤ◌, ◌<ℤ◌, IsTrue, true≢false}
use Rattle.std.proofs.lemmas.Int.{ints, to_z-of_z}
use Rattle.uc_model.specs.Prelude.{Commitment, commitment_of, category_cost, is_category_allowed}
use Rattle.start_costs.specs.Cheapest.{Thermal, IsCheapestAbove}
use Rattle.start_costs.proofs.by_history.cheaper.Goals as goal
use Rattle.start_costs.proofs.by_history.cheaper.Goals.{else-is_allowed-via-then-is_allowed+else-own-least, else-is_allowed-via-else-is_allowed}

next_or_later : (s j : ℕ) → s < j → (j ≡ suc s) ⊎ (suc s < j)
next_or_later s j h = grind arith

with_next : (unit : Thermal) (on : Commitment) (t s : ℕ) (own least : ℕ × ℤ)
    → own.0 ≡ suc s → own.1 ≡ category_cost unit (suc s) → IsTrue (is_category_allowed unit on (suc s) t)
    → own.1 ≤ℤ least.1 → IsCheapestAbove unit on t (suc s) least → IsCheapestAbove unit on t s own
with_next unit on t s own least number cost allowed low later = record {
  above = omega (arith, number);
  allowed = subst (λ k. IsTrue (is_category_allowed unit on k t)) (sym number) allowed;
  cost = cost ∙ ap (λ k. category_cost unit k) (sym number);
  cheapest = λ j above h. ⊎_elim
      (λ (same : j ≡ suc s). omega (arith, ints, ap (λ k. category_cost unit k) (sym same)))
      (λ (beyond : suc s < j). omega (arith, ints, low, later.cheapest j beyond h))
      (next_or_later s j above);
  first = λ j above below h. absurd (omega (arith, number));
}

without_next : (unit : Thermal) (on : Commitment) (t s : ℕ) (least : ℕ × ℤ)
    → (IsTrue (is_category_allowed unit on (suc s) t) → least.1 <ℤ category_cost unit (suc s))
    → IsCheapestAbove unit on t (suc s) least → IsCheapestAbove unit on t s least
without_next unit on t s least dearer later = record {
  above = omega (arith, later.above);
  allowed = later.allowed;
  cost = later.cost;
  cheapest = λ j above h. ⊎_elim
      (λ (same : j ≡ suc s). omega (arith, ints, at_next j same h))
      (λ (beyond : suc s < j). later.cheapest j beyond h)
      (next_or_later s j above);
  first = λ j above below h. ⊎_elim
      (λ (same : j ≡ suc s). at_next j same h)
      (λ (beyond : suc s < j). later.first j beyond below h)
      (next_or_later s j above);
}
  where
    at_next : (j : ℕ) → j ≡ suc s → IsTrue (is_category_allowed unit on j t) → least.1 <ℤ category_cost unit j
    at_next j same h =
        omega (arith, ints, dearer (subst (λ k. IsTrue (is_category_allowed unit on k t)) same h), ap (λ k. category_cost unit k) (sym same))

pub returns-then-own-least : goal.returns-then-own-least
returns-then-own-least c =
    with_next c.args.unit.now (commitment_of c.args.pattern.now) c.args.t c.args.s c.category-own.result c.args.least
    c.category-own.ensures.number c.category-own.ensures.cost (sym c.is_allowed.ensures ∙ c.if-is_allowed.true)
    low c.requires.least
  where
    low : c.category-own.result.1 ≤ℤ c.args.least.1
    low = grind (arith, ints, to_z-of_z)

pub returns-else-is_allowed : goal.returns-else-is_allowed
returns-else-is_allowed c =
    without_next c.args.unit.now (commitment_of c.args.pattern.now) c.args.t c.args.s c.args.least dearer c.requires.least
  where
    dearer : IsTrue (is_category_allowed c.args.unit.now (commitment_of c.args.pattern.now) (suc c.args.s) c.args.t)
        → c.args.least.1 <ℤ category_cost c.args.unit.now (suc c.args.s)
    dearer h = elim c.else-is_allowed.branch [
      | else-is_allowed-via-then-is_allowed+else-own-least w ↦ let above : c.args.least.1 <ℤ c.category-own.result.1 = grind (arith, ints, to_z-of_z) in
          omega (arith, ints, c.category-own.ensures.cost)
      | else-is_allowed-via-else-is_allowed w ↦ absurd (true≢false (sym h ∙ sym c.is_allowed.ensures ∙ w.if-is_allowed.false))
    ]
