-- What is known of costs changed, and no ticket.
use Rattle.std.proofs.lemmas.Int.{to_z-of_z}
use Rattle.search_machine.specs.declared.event.Event.TheVariants.{Publish}
use Rattle.search_core.specs.Fields.{view_of}
use Rattle.search_core.proofs.Kept.{kept_by}
use Rattle.search_core.proofs.state.State.publish.Goals as goal

pub invariant_of-self : goal.invariant_of-self
invariant_of-self c =
    let a = c.self.inside in
    let cost = c.ranges.cost in
    let least = simp to_z-of_z at c.least-self-inside.ensures in
    let seen = simp to_z-of_z at c.see_cost.ensures in
    kept_by a (record a { best = c.least-self-inside.result; desks = c.see_cost.new.desks }) c.args.self.now (Publish c.args.worker c.args.cost)
    c.self.view_is c.self.invariant c.requires
    (λ i. record (view_of a) { best = least i; desks = seen i }) c.self.invariant.count
