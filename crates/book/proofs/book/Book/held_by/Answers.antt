-- What is held is a node.
use Rattle.std.proofs.Common.{◌<◌, subst}
use Rattle.std.specs.Vec.{vec_capacity}
use Rattle.book.specs.Prelude.{BookView, IsHeldBy}
use Rattle.book.specs.inside.Kept.{view_of, rooms_of}
use Rattle.branch_tree.specs.Prelude.{node_count}
use Rattle.std.specs.Option.{IfSome}
use Rattle.book.proofs.Books.{has_room, some_too}
use Rattle.book.proofs.book.Book.held_by.Goals as goal

pub returns-clause-within : goal.returns-clause-within
returns-clause-within g c =
    let a = c.self.inside in
    let book = view_of a.budget a.gap a.tree a.tables.items a.log a.claims in
    let rooms = rooms_of a.count (vec_capacity a.tables) a.log a.claims in
    subst (λ (b : BookView). IfSome c.node_of.result (λ node. node < node_count b.tree.nodes)) c.self.view_is
    (some_too c.node_of.result (λ node. IsHeldBy a.claims.claims c.args.worker c.args.unit node) (λ node. node < node_count a.tree.nodes)
    (λ node holds. (has_room c.tree_runs_hold.ensures g.C.Case.opening book rooms c.args.worker c.args.unit node c.self.invariant holds).below)
    c.node_of.ensures.held)
