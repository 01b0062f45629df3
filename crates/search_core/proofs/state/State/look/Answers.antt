-- One desk changed, and none of its tickets.
use Rattle.search_machine.specs.declared.event.Event.TheVariants.{Look}
use Rattle.search_core.specs.Fields.{view_of}
use Rattle.search_core.proofs.Kept.{kept_by}
use Rattle.search_core.proofs.state.State.look.Goals as goal

pub invariant_of-self : goal.invariant_of-self
invariant_of-self c =
    let a = c.self.inside in
    kept_by a (record a { desks = c.see.new.desks }) c.args.self.now (Look c.args.worker) c.self.view_is c.self.invariant c.requires
    (λ i. record (view_of a) { desks = c.see.ensures i }) c.self.invariant.count
