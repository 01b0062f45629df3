-- What is held is an open leaf, and there is room for its commit.
use Rattle.std.proofs.Common.{◌≡◌, ℕ, ℤ, ◌+◌, ◌<◌, suc, ◌∷◌, ◌++◌, [], length, ap, sym, ◌∙◌, subst, arith, to_z, of_z}
use Rattle.std.specs.Int.{w64}
use Rattle.std.proofs.lemmas.Int.{to_z-of_z}
use Rattle.std.specs.Vec.{vec_capacity}
use Rattle.branch_tree.specs.Prelude.{node_count}
use Rattle.search_machine.specs.Prelude.{IsHolding, kept, tree_after, tickets_of}
use Rattle.search_machine.proofs.OrderlySteps.{same_count}
use Rattle.book.specs.Prelude.{BookView, state_of, MayBe, committed}
use Rattle.book.specs.inside.Chains.{LogView, raised}
use Rattle.book.specs.inside.Kept.{IsKept, view_of, rooms_of}
use Rattle.book.proofs.Books.{room_of, run_holds, few_children, kept_committed}
use Rattle.book.proofs.book.Book.enter.Goals as goal

pub kept-kept-requires : goal.kept-kept-requires
kept-kept-requires g c =
    subst (λ (b : BookView). c.args.number < node_count b.tree.nodes) c.self.view_is
    (room_of c.tree_runs_hold.ensures g.C.Case.opening _ _ _ c.args.worker c.args.unit c.args.number c.self.view_is c.self.invariant c.requires.holds).below

pub make-requires-clause-placed : goal.make-requires-clause-placed
make-requires-clause-placed g c =
    (run_holds c.tree_runs_hold.ensures g.C.Case.opening _ c.self.invariant.begun c.self.invariant.replayed).1.placed

pub make-requires-clause-live : goal.make-requires-clause-live
make-requires-clause-live g c =
    (room_of c.tree_runs_hold.ensures g.C.Case.opening _ _ _ c.args.worker c.args.unit c.args.number c.self.view_is c.self.invariant c.requires.holds).live

pub make-requires-clause-room : goal.make-requires-clause-room
make-requires-clause-room g c =
    (room_of c.tree_runs_hold.ensures g.C.Case.opening _ _ _ c.args.worker c.args.unit c.args.number c.self.view_is c.self.invariant c.requires.holds).nodes

pub overflow_add-self : goal.overflow_add-self
overflow_add-self g c =
    let room = (room_of c.tree_runs_hold.ensures g.C.Case.opening _ _ _ c.args.worker c.args.unit c.args.number c.self.view_is c.self.invariant c.requires.holds) in
    record { fits = omega (arith, c.self.invariant.count, room.nodes, room.room, ap length c.children.ensures, few_children 0 0 c.args.action.now) }

pub push_reserved-requires : goal.push_reserved-requires
push_reserved-requires g c =
    let room = (room_of c.tree_runs_hold.ensures g.C.Case.opening _ _ _ c.args.worker c.args.unit c.args.number c.self.view_is c.self.invariant c.requires.holds) in
    omega (arith, room.tables, c.self.inside.tables.ok.0)

pub push-requires-clause-room : goal.push-requires-clause-room
push-requires-clause-room g c =
    (room_of c.tree_runs_hold.ensures g.C.Case.opening _ _ _ c.args.worker c.args.unit c.args.number c.self.view_is c.self.invariant c.requires.holds).log

pub push-requires-clause-node : goal.push-requires-clause-node
push-requires-clause-node g c =
    (room_of c.tree_runs_hold.ensures g.C.Case.opening _ _ _ c.args.worker c.args.unit c.args.number c.self.view_is c.self.invariant c.requires.holds).log_node

pub end-requires-clause-node : goal.end-requires-clause-node
end-requires-clause-node g c =
    (room_of c.tree_runs_hold.ensures g.C.Case.opening _ _ _ c.args.worker c.args.unit c.args.number c.self.view_is c.self.invariant c.requires.holds).claims_node

pub invariant_of-self : goal.invariant_of-self
invariant_of-self g c =
    let a = c.self.inside in
    let before = view_of a.budget a.gap a.tree a.tables.items a.log a.claims in
    let rooms = rooms_of a.count (vec_capacity a.tables) a.log a.claims in
    let holds = subst (λ (b : BookView). IsHolding (state_of b) c.args.worker c.args.unit c.args.number) (sym c.self.view_is) c.requires.holds in
    let number = c.args.number in
    let table = c.args.table in
    let exact = c.args.exact in
    let outcome = c.args.outcome.now in
    let action = c.args.action.now in
    let may = subst (λ (b : BookView). MayBe b number c.args.node.now table exact outcome action) (sym c.self.view_is) c.requires.may in
    let made = kept_committed c.tree_runs_hold.ensures g.C.Case.opening before rooms c.args.worker c.args.unit number c.args.node.now table exact outcome
    action c.self.invariant (omega (arith, c.ranges.worker.fits)) holds may c.requires.told in
    let place : c.len-place.result ≡ length a.tables.items = omega (arith, c.len-place.ensures, a.tables.ok.0) in
    let stored : c.kept-kept.result ≡ kept (state_of before) number table exact outcome =
    c.kept-kept.ensures ∙ ap (λ (b : BookView). kept (state_of b) number table exact outcome) (sym c.self.view_is) in
    let tree : c.make.new.tree ≡ tree_after a.tree number (kept (state_of before) number table exact outcome) (length a.tables.items) exact outcome action =
    c.make.ensures ∙ (λ i. tree_after a.tree number (stored i) (place i) exact outcome action) in
    let passed = to_z w64 (of_z w64 c.k-scale.result) in
    let scale : passed ≡ table.k = to_z-of_z w64 c.k-scale.result (record { sfits = c.k-scale.type_inv }) ∙ c.k-scale.ensures in
    let log_by : ℕ → ℤ → LogView =
    λ n k. record a.log {
      entries = a.log.entries ++ (record { unit = c.args.unit; worker = c.args.worker; node = number; table = n; exact = exact; outcome = outcome }) ∷ [];
      greatest = raised a.log.greatest number k;
    } in
    let log : c.push.new.self ≡ log_by (length a.tables.items) table.k = c.push.ensures ∙ (λ i. log_by (place i) (scale i)) in
    let claims = c.end.ensures in
    let count : length c.children.result.now ≡ length (tickets_of a.tree action) =
    ap length c.children.ensures ∙ same_count 0 0 (node_count a.tree.nodes) (suc (node_count a.tree.nodes)) action in
    let view : view_of a.budget a.gap c.make.new.tree c.push_reserved.new.self.items c.push.new.self c.end.new.self
    ≡ committed before c.args.worker c.args.unit number table exact outcome action = λ i. record {
      budget = a.budget;
      gap = a.gap;
      tree = tree i;
      tables = c.push_reserved.ensures.items i;
      log = (log i).entries;
      claims = (claims i).claims;
    } in
    let later : rooms_of (a.count + length c.children.result.now) (vec_capacity c.push_reserved.new.self) c.push.new.self c.end.new.self
    ≡ record rooms { count = a.count + length (tickets_of a.tree action); greatest = raised a.log.greatest number table.k } = λ i. record {
      count = a.count + count i;
      tables = c.push_reserved.ensures.capacity i;
      log = (log i).room;
      log_nodes = (log i).nodes;
      claims = (claims i).room;
      claims_nodes = (claims i).nodes;
      greatest = (log i).greatest;
    } in
    subst (λ (b : BookView). IsKept g.C.Case.opening b (rooms_of (a.count + length c.children.result.now) (vec_capacity c.push_reserved.new.self)
    c.push.new.self c.end.new.self)) (sym view)
    (subst (IsKept g.C.Case.opening (committed before c.args.worker c.args.unit number table exact outcome action)) (sym later) made)
