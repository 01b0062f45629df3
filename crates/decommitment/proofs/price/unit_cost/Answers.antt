-- What gives the same with the same pattern costs the same.
use Rattle.std.proofs.Common.{◌≡◌, ◌*◌, ◌^◌, ◌∙◌, arith, pos, subst, sym}
use Rattle.std.proofs.lemmas.List.{get_or_read}
use Rattle.uc_model.proofs.Sizes.{wide}
use Rattle.decommitment.specs.inside.Runs.{IsUnitCost, cost_at}
use Rattle.decommitment.proofs.RunCosts.{carried}
use Rattle.decommitment.proofs.price.unit_cost.Goals as goal

pub returns-then-is_same : goal.returns-then-is_same
returns-then-is_same c =
    let changed = c.args.changed.now in
    let instance = changed.instance.now in
    let origin = changed.origin.now in
    let same = c.requires.same c.if-is_same.true in
    let known = c.requires.changed.known in
    let all = c.requires.changed.dispatched.all in
    let stood = c.index.result.now in
    let is : stood ≡ cost_at origin.run.now.costs.items c.args.g =
    get_or_read origin.run.now.costs.items c.args.g stood (omega (arith, c.requires.unit, known.count)) c.index.ensures (pos 0) in
    let costs = carried instance changed.patterns.now origin.run.now.fills.items changed.fills.now origin.g c.args.g origin.stood (cost_at origin.run.now.costs.items c.args.g)
    c.if-g-changed.true all same (known.costs (same.count ∙ all) c.args.g c.requires.unit) in
    let here = subst (IsUnitCost instance changed.patterns.now changed.fills.now c.args.g) (sym is) costs in
    subst (IsUnitCost instance changed.patterns.now changed.fills.now c.args.g) (sym (wide stood (168 * 2 ^ 64) here.size (omega arith))) here
