-- The node is open by the tree and the claims.
use Rattle.std.proofs.Common.{sym, subst, arith}
use Rattle.branch_tree.specs.Prelude.{IsOpenAt}
use Rattle.search_machine.specs.Prelude.{Machine, IsHeldIn, IsClaimable}
use Rattle.search_core.proofs.state.State.is_claimable.Goals as goal

pub returns-then-len-self : goal.returns-then-len-self
returns-then-len-self c =
    let a = c.self.inside in
    let node = c.args.node in
    let claims = c.as_slice.ensures.value in (
      (λ h.
          let free = subst (λ cs. IsOpenAt a.tree.nodes node × (¬ IsHeldIn cs node)) claims (c.is_open.ensures.0 h) in
          subst (λ (m : Machine). IsClaimable m node) c.self.view_is (record {
            left = omega (arith, c.if-len-self.true, c.len.ensures, a.claims.ok.0);
            open_node = record { live = free.0; unheld = free.1 };
          })),
      (λ h.
          let own = subst (λ (m : Machine). IsClaimable m node) (sym c.self.view_is) h in
          c.is_open.ensures.1 (subst (λ cs. IsOpenAt a.tree.nodes node × (¬ IsHeldIn cs node)) (sym claims) (own.open_node.live, own.open_node.unheld))),
    )
