-- No hours before, or the bound of the run.
use Rattle.std.proofs.Common.{◌≡◌, ◌-◌, suc, ◌==◌, true, refl, sym, subst, ◌∙◌, arith, rules, ℤ, ◌≤ℤ◌, to_z, of_z}
use mir.Val.{SFits}
use Rattle.std.specs.Int.{w128}
use Rattle.std.specs.Int.Signed.{le_z}
use Rattle.std.proofs.lemmas.Int.{ints}
use Rattle.uc_model.specs.Prelude.{cell_cap}
use Rattle.hull_function.specs.Hours.{IsCostsOf}
use Rattle.unit_runs.specs.CostThrough.{cost_through}
use Rattle.unit_exact.proofs.RunBounds.{run-none-alive}
use Rattle.unit_exact.proofs.runs.Runs.costs_at_least.Goals as goal

pub returns-then-not-is_alive : goal.returns-then-not-is_alive
returns-then-not-is_alive c = λ yes v e.
    let p = c.args.problem.now in
    let f = c.args.self.now.living.function in
    let n = c.args.t - c.args.from in
    let none = sym c.is_alive.ensures ∙ c.if-not-is_alive.true in
    let costs = subst (λ b. IsCostsOf b f (cost_through p.periods p.table.now p.unit.now c.args.from (suc n) n)) none c.requires.running.costs in
    absurd
    (run-none-alive p.periods p.table.now p.unit.now c.args.from c.args.t (cell_cap p.periods p.unit.now c.args.t (c.args.t == c.args.from) true) f v
    c.requires.order refl costs e)

-- a limit that is at most a bound by its bits
within : (limit bound least : ℤ) → SFits w128 limit → SFits w128 bound → le_z (to_z w128 (of_z w128 limit)) (to_z w128 (of_z w128 bound)) ≡ true
    → bound ≤ℤ least → limit ≤ℤ least
within limit bound least fits small le low = grind (arith, ints, fits, small, le, low)

pub returns : goal.returns
returns c = λ yes v e.
    let small : SFits w128 c.bound_to.result = search rules in
    (c.args.limit, refl, within c.args.limit c.bound_to.result v c.ranges.limit small yes (c.bound_to.ensures v e))
