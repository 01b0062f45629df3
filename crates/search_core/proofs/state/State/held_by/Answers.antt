-- A node that is held is one of the tree.
use Rattle.std.proofs.Common.{◌≡◌, ◌<◌, ap, sym, ◌∙◌, subst, Some}
use Rattle.branch_tree.specs.Prelude.{node_count}
use Rattle.search_machine.specs.Prelude.{Machine, holder_in}
use Rattle.search_core.specs.Fields.{view_of}
use Rattle.search_machine.proofs.Claims.{holdable}
use Rattle.search_core.proofs.state.State.held_by.Goals as goal

pub returns-in-Some-clause-within : goal.returns-in-Some-clause-within
returns-in-Some-clause-within c =
    let a = c.self.inside in
    let holder = c.in-Some.holder in
    let holds : holder_in a.claims.items c.args.unit ≡ Some holder =
    ap (λ claims. holder_in claims c.args.unit) (sym c.as_slice.ensures.value) ∙ (sym c.holder_of.ensures ∙ c.in-Some.is) in
    subst (λ (m : Machine). holder.node < node_count m.tree.nodes) c.self.view_is
    (holdable (view_of a) holder.worker c.args.unit holder.node c.self.invariant.orderly holds).below
