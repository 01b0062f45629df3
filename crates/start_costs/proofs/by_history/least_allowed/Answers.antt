-- At a start an allowed category costs no less than the least start cost by the last stop, and just that on regular rows.
use Rattle.std.proofs.Common.{ℕ, zero, suc, ◌<◌, arith, sym, subst, ◌∙◌, ◌≤ℤ◌, IsTrue, true≢false}
use Rattle.uc_model.specs.Prelude.{Commitment, commitment_of, category_cost, is_category_allowed, last_stop, sigma}
use Rattle.uc_model.proofs.Common.{sigma-le-allowed}
use Rattle.start_costs.specs.Cheapest.{Thermal}
use Rattle.start_costs.proofs.RegularStarts.{regular_cost}
use Rattle.start_costs.proofs.by_history.least_allowed.Goals as goal

pub returns-clause-last_stop : goal.returns-clause-last_stop
returns-clause-last_stop c start =
    let unit = c.args.unit.now in
    let on = commitment_of c.args.pattern.now in
    let least = c.loop-s.invariant in
    subst (λ z. sigma unit (last_stop unit on c.args.t) c.args.t ≤ℤ z) (sym least.cost)
    (sigma-le-allowed unit on c.loop-s.least.0 c.args.t start least.allowed)

some_category : (unit : Thermal) (on : Commitment) (s t : ℕ) → IsTrue (is_category_allowed unit on s t) → 0 < s
some_category unit on zero t h = absurd (true≢false (sym h))
some_category unit on (suc s) t h = omega arith

pub returns-clause-regular : goal.returns-clause-regular
returns-clause-regular c periods rows allowed within start =
    let unit = c.args.unit.now in
    let on = commitment_of c.args.pattern.now in
    let least = c.loop-s.invariant in
    least.cost
    ∙ regular_cost periods unit on c.args.t c.loop-s.least.0 c.requires.lawful rows allowed within start least.allowed
    (λ k h. subst (λ z. z ≤ℤ category_cost unit k) least.cost
    (least.cheapest k (omega (arith, some_category unit on k c.args.t h)) h))
