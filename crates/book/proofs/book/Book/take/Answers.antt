-- One claim more, of an open node.
use Rattle.std.proofs.Common.{ℕ, ap, sym, subst, arith}
use Rattle.std.specs.Vec.{vec_capacity}
use Rattle.search_machine.specs.Prelude.{IsOpen}
use Rattle.book.specs.Prelude.{BookView, state_of, Held}
use Rattle.book.specs.inside.Kept.{ClaimsView, view_of, rooms_of, IsKept}
use Rattle.std.proofs.Common.{◌≢◌, ◌∙◌, length, ◌∷◌, ◌++◌, []}
use Rattle.branch_tree.proofs.Grown.{open_numbered}
use Rattle.book.proofs.Books.{run_holds, kept_claimed}
use Rattle.book.proofs.book.Book.take.Goals as goal

pub add-requires-clause-node : goal.add-requires-clause-node
add-requires-clause-node g c =
    let a = c.self.inside in
    let book = view_of a.budget a.gap a.tree a.tables.items a.log a.claims in
    let open_node = subst (λ (b : BookView). IsOpen (state_of b) c.args.node) (sym c.self.view_is) c.requires.open_node in
    let orderly = (run_holds c.tree_runs_hold.ensures g.C.Case.opening book c.self.invariant.begun c.self.invariant.replayed).1 in
    omega (arith, open_numbered a.tree.nodes c.args.node orderly.placed open_node.live, c.keeps_cover.ensures.within, c.self.invariant.claims_nodes)

pub invariant_of-self : goal.invariant_of-self
invariant_of-self g c =
    let a = c.self.inside in
    let book = view_of a.budget a.gap a.tree a.tables.items a.log a.claims in
    let rooms = rooms_of a.count (vec_capacity a.tables) a.log a.claims in
    let open_node = subst (λ (b : BookView). IsOpen (state_of b) c.args.node) (sym c.self.view_is) c.requires.open_node in
    let left = subst (λ (b : BookView). length b.claims ≢ b.budget) (sym c.self.view_is) c.requires.left in
    let next = λ (behind : ℕ). record a.claims {
      claims = a.claims.claims ++ (record { worker = c.args.worker; node = c.args.node; behind = behind; status = Held }) ∷ [];
    } in
    subst (λ (claims : ClaimsView). IsKept g.C.Case.opening (view_of a.budget a.gap a.tree a.tables.items a.log claims)
    (rooms_of a.count (vec_capacity a.tables) a.log claims)) (sym (c.add.ensures ∙ ap next c.len.ensures))
    (kept_claimed g.C.Case.opening book rooms c.args.worker c.args.node c.self.invariant (omega (arith, c.ranges.worker.fits)) left open_node)
