-- The node's number, what stands there, and whether it is held.
use Rattle.std.proofs.Common.{sym, subst, arith}
use Rattle.std.proofs.lemmas.Bool.{cases_Bool}
use Rattle.branch_tree.proofs.Grown.{open_below}
use Rattle.search_machine.specs.Prelude.{IsOpen}
use Rattle.book.specs.Prelude.{BookView, state_of}
use Rattle.book.proofs.Books.{live_open}
use Rattle.book.proofs.book.Book.is_open.Goals as goal

pub returns-then-node-self : goal.returns-then-node-self
returns-then-node-self g c = (
  (λ h. absurd (cc)),
  (λ open_node.
      let a = c.self.inside in
      let own = subst (λ (b : BookView). IsOpen (state_of b) c.args.node) (sym c.self.view_is) open_node in
      absurd (omega (
        arith,
        open_below a.tree.nodes c.args.node c.keeps_cover.ensures.numbered own.live,
        c.self.invariant.count,
        c.if-node-self.true,
      ))),
)

pub returns-then-not-is_live : goal.returns-then-not-is_live
returns-then-not-is_live g c = grind (arith, g, c)

pub returns : goal.returns
returns g c = grind (arith, live_open, cases_Bool, g, c)
