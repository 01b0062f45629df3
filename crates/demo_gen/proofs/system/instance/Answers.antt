-- The parts make the instance of the seed, which is lawful and may run throughout.
use Rattle.std.proofs.Common.{◌*◌, ◌/◌, [], ◌∷◌, sym, ap, subst, ◌∙◌, arith, map, replicate}
use Rattle.uc_model.specs.Prelude.{IsLawfulInstance}
use Rattle.demo_gen.specs.Demo.{MayAllRun, demand_at, demo_instance, millions, percents}
use Rattle.demo_gen.proofs.FirstUnits.{minimum-size, range-size}
use Rattle.demo_gen.proofs.Lawful.{demo_lawful, demo_runs}
use Rattle.demo_gen.proofs.system.instance.Goals as goal

pub demand-requires-clause-minimum : goal.demand-requires-clause-minimum
demand-requires-clause-minimum c = omega (arith, c.in_ok-units.ensures.minimum, minimum-size c.args.seed 40)

pub demand-requires-clause-range : goal.demand-requires-clause-range
demand-requires-clause-range c = omega (arith, c.in_ok-units.ensures.range, range-size c.args.seed 40)

pub overflow_mul-units : goal.overflow_mul-units
overflow_mul-units c = omega (arith, c.in_ok-units.ensures.range, range-size c.args.seed 40)

pub returns-clause-generated : goal.returns-clause-generated
unfolding demo_instance
returns-clause-generated c =
    let minimum = c.in_ok-units.ensures.minimum in
    let range = c.in_ok-units.ensures.range in
    let demand = c.from_vec.ensures ∙ c.in_ok-demand.ensures ∙ (λ i. map (demand_at (minimum i) (range i)) percents) in
    let reserves = c.from_vec-2.ensures ∙ c.in_ok-reserves.ensures ∙ (λ i. replicate 24 (millions (3 * range i / 100))) in
    let thermal = c.from_vec-3.ensures ∙ c.in_ok-units.ensures.thermal in
    let renewable = c.from_vec-4.ensures ∙ c.in_ok-renewables.ensures.items ∙ ap (λ unit. unit ∷ []) c.in_ok-renewable.ensures in
    λ i. record { periods = 24; demand = demand i; reserves = reserves i; thermal = thermal i; renewable = renewable i; a = 0; b = 0 }

pub returns-clause-lawful : goal.returns-clause-lawful
returns-clause-lawful c = subst IsLawfulInstance (sym (returns-clause-generated c)) (demo_lawful c.args.seed)

pub returns-clause-running : goal.returns-clause-running
returns-clause-running c = subst MayAllRun (sym (returns-clause-generated c)) (demo_runs c.args.seed)
