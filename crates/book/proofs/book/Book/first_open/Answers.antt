-- An open node's number is that of a node.
use Rattle.std.proofs.Common.{sym, subst, arith}
use Rattle.branch_tree.proofs.Grown.{open_below}
use Rattle.search_machine.specs.Prelude.{IsOpen}
use Rattle.book.specs.Prelude.{BookView, state_of}
use Rattle.book.proofs.book.Book.first_open.Goals as goal

pub returns-clause-none : goal.returns-clause-none
returns-clause-none g c = λ none node open_node.
    let a = c.self.inside in
    let own = subst (λ (b : BookView). IsOpen (state_of b) node) (sym c.self.view_is) open_node in
    c.loop-node.invariant node
    (omega (arith, open_below a.tree.nodes node c.keeps_cover.ensures.numbered own.live, c.self.invariant.count, c.loop-node-test.false))
    open_node
