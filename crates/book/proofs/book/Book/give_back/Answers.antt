-- The claim ended, and nothing else changed.
use Rattle.std.proofs.Common.{sym, subst}
use Rattle.std.specs.Vec.{vec_capacity}
use Rattle.search_machine.specs.Prelude.{IsHolding}
use Rattle.book.specs.Prelude.{BookView, state_of}
use Rattle.book.specs.inside.Kept.{ClaimsView, view_of, rooms_of, IsKept}
use Rattle.book.proofs.Books.{room_of, kept_given_back}
use Rattle.book.proofs.book.Book.give_back.Goals as goal

pub end-requires-clause-node : goal.end-requires-clause-node
end-requires-clause-node g c =
    (room_of c.tree_runs_hold.ensures g.C.Case.opening _ _ _ c.args.worker c.args.unit c.args.node c.self.view_is c.self.invariant c.requires).claims_node

pub invariant_of-self : goal.invariant_of-self
invariant_of-self g c =
    let a = c.self.inside in
    let book = view_of a.budget a.gap a.tree a.tables.items a.log a.claims in
    let rooms = rooms_of a.count (vec_capacity a.tables) a.log a.claims in
    let holds = subst (λ (b : BookView). IsHolding (state_of b) c.args.worker c.args.unit c.args.node) (sym c.self.view_is) c.requires in
    subst (λ (claims : ClaimsView). IsKept g.C.Case.opening (view_of a.budget a.gap a.tree a.tables.items a.log claims)
    (rooms_of a.count (vec_capacity a.tables) a.log claims)) (sym c.end.ensures)
    (kept_given_back g.C.Case.opening book rooms c.args.worker c.args.unit c.args.node c.self.invariant holds)
