-- A ticket moved on one desk.
use Rattle.search_machine.specs.declared.event.Event.TheVariants.{Push}
use Rattle.search_core.specs.Fields.{view_of}
use Rattle.search_core.proofs.Kept.{kept_by}
use Rattle.search_core.proofs.state.State.push.Goals as goal

pub invariant_of-self-2 : goal.invariant_of-self-2
invariant_of-self-2 c =
    let a = c.self.inside in
    kept_by a (record a { desks = c.enqueue.new.desks }) c.args.self.now (Push c.args.worker c.args.node) c.self.view_is c.self.invariant
    c.requires (λ i. record (view_of a) { desks = c.in_ok-enqueue.ensures.moved i }) c.self.invariant.count
