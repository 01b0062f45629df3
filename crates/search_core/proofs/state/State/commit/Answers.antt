-- The claim's node is open, and there is room for its children; each field is what the commit makes of it.
use Rattle.std.proofs.Common.{◌≡◌, ◌+◌, length, ap, sym, ◌∙◌, subst, arith, rules}
use Rattle.search_machine.specs.declared.event.Event.TheVariants.{Commit}
use Rattle.search_machine.specs.Prelude.{Machine, IsHolding, HasSeen, IsLegal, after}
use Rattle.search_core.specs.Fields.{view_of}
use Rattle.search_core.proofs.Kept.{commit_count, kept_by}
use Rattle.search_machine.proofs.Claims.{IsHoldable, holdable}
use Rattle.search_core.proofs.state.State.commit.Goals.{In-Some}
use Rattle.search_core.proofs.state.State.commit.Goals as goal

-- what the claim holds
held : (c : In-Some) → IsHoldable (view_of c.self.inside) c.args.worker c.args.unit c.in-Some.node
held c =
    holdable (view_of c.self.inside) c.args.worker c.args.unit c.in-Some.node c.self.invariant.orderly
    (subst (λ (m : Machine). IsHolding m c.args.worker c.args.unit c.in-Some.node) (sym c.self.view_is) c.in-Some.ensures.held)

pub make-requires-clause-live : goal.make-requires-clause-live
make-requires-clause-live c = (held (goal.at.make-requires-clause-live c).In-Some).live

pub make-requires-clause-room : goal.make-requires-clause-room
make-requires-clause-room c = (held (goal.at.make-requires-clause-room c).In-Some).room

pub end_claim-requires-clause-within : goal.end_claim-requires-clause-within
end_claim-requires-clause-within c =
    let own = held (goal.at.end_claim-requires-clause-within c).In-Some in
    omega (arith, own.unit_is, own.within, c.self.inside.claims.ok.0)

pub invariant_of-self-2 : goal.invariant_of-self-2
invariant_of-self-2 c =
    let a = c.self.inside in
    let m = view_of a in
    let worker = c.args.worker in
    let unit = c.args.unit in
    let node = c.in-Some.node in
    let outcome = c.args.outcome.now in
    let action = c.args.action.now in
    let exact = c.args.exact in
    let event = Commit worker unit c.args.table exact outcome action in
    let holds = subst (λ (x : Machine). IsHolding x worker unit node) (sym c.self.view_is) c.in-Some.ensures.held in
    let legal = subst (λ (x : Machine). IsLegal x event) (sym c.self.view_is) c.requires in
    let count = commit_count (HasSeen m worker) m worker unit node c.args.table exact outcome action c.kept-stored.result _ _ _ c.make.new.tree
    c.children-children.result.now c.self.invariant.orderly holds legal.1 c.make.ensures c.children-children.ensures in
    let b = record a { count = a.count + length c.children-children.result.now; tree = c.make.new.tree; tables = c.record.new.tables; log = c.record.new.log; claims = c.end_claim.new.claims; desks = c.record.new.desks } in
    let view : view_of b ≡ after c.args.self.now event = search rules in
    kept_by a b c.args.self.now event c.self.view_is c.self.invariant c.requires
    (view ∙ sym (ap (λ (x : Machine). after x event) c.self.view_is))
    (omega (arith, c.self.invariant.count, count))
