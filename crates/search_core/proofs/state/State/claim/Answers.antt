-- One claim more.
use Rattle.search_machine.specs.declared.event.Event.TheVariants.{Claim}
use Rattle.search_core.specs.Fields.{view_of}
use Rattle.search_core.proofs.Kept.{kept_by}
use Rattle.search_core.proofs.state.State.claim.Goals as goal

pub invariant_of-self-2 : goal.invariant_of-self-2
invariant_of-self-2 c =
    let a = c.self.inside in
    kept_by a (record a { claims = c.push.new.self }) c.args.self.now (Claim c.args.worker c.args.node) c.self.view_is c.self.invariant
    c.requires (λ i. record (view_of a) { claims = c.in_ok-push.ensures.items i }) c.self.invariant.count
