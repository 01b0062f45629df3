-- What is held is an open leaf, which stores a table that is there.
use Rattle.std.proofs.Common.{◌≡◌, ◌<◌, ap, sym, ◌∙◌, subst, arith, length, Some, slice_get, to_z, of_z, rules}
use Rattle.std.specs.Int.{w128}
use Rattle.std.specs.Vec.{vec_capacity}
use Rattle.std.proofs.lemmas.Option.{slice_get-get_or}
use Rattle.dual_model.specs.declared.table.Table.{Table}
use Rattle.search_machine.specs.Prelude.{stored_at}
use Rattle.search_machine.specs.declared.stored.Stored.{Stored}
use Rattle.book.specs.Prelude.{BookView, IsStoredAt}
use Rattle.book.specs.inside.Kept.{Rooms, view_of, rooms_of}
use Rattle.book.proofs.Books.{HasRoom, has_room, stored_within}
use Rattle.book.proofs.book.Book.holding.Given.{Over}
use Rattle.book.proofs.book.Book.holding.Goals.{In-Some}
use Rattle.book.proofs.book.Book.holding.Goals as goal

module _ (g : Over) (c : In-Some g) where
  abbrev book : BookView
  book = let a = c.self.inside in view_of a.budget a.gap a.tree a.tables.items a.log a.claims

  abbrev rooms : Rooms
  rooms = let a = c.self.inside in rooms_of a.count (vec_capacity a.tables) a.log a.claims

  room : HasRoom book rooms c.in-Some.node
  room = has_room c.tree_runs_hold.ensures g.C.Case.opening book rooms c.in-Some.field-0-0 c.args.unit c.in-Some.node c.self.invariant c.in-Some.ensures.held

  within : (stored_at book.tree c.in-Some.node).table < length book.tables
  within =
      stored_within c.tree_runs_hold.ensures g.C.Case.opening book rooms c.in-Some.field-0-0 c.args.unit c.in-Some.node c.self.invariant
      c.in-Some.ensures.held

pub stored_at-stored-requires : goal.stored_at-stored-requires
stored_at-stored-requires g c = (room g (goal.at.stored_at-stored-requires g c).In-Some).below

pub index-requires : goal.index-requires
index-requires g c =
    let there = within g (goal.at.index-requires g c).In-Some in
    omega (arith, there, ap (λ (s : Stored). s.table) c.stored_at-stored.ensures, c.self.inside.tables.ok.0)

pub fixings-requires : goal.fixings-requires
fixings-requires g c = (room g (goal.at.fixings-requires g c).In-Some).below

pub returns : goal.returns
returns g c =
    let a = c.self.inside in
    let node = c.in-Some.node in
    let stored = c.stored_at-stored.result in
    let table = c.in_ok-table.table in
    let stored_is : stored ≡ stored_at a.tree node = c.stored_at-stored.ensures in
    let below = within g (goal.at.returns g c).In-Some in
    let there : slice_get a.tables.items stored.table ≡ Some table =
    slice_get-get_or a.tables.items stored.table c.index.result.now (omega (arith, below, ap (λ (s : Stored). s.table) stored_is))
    ∙ ap (λ (t : Table). Some t) (sym c.index.ensures ∙ sym c.in_ok-table.ensures) in
    let value : to_z w128 (of_z w128 stored.value) ≡ (stored_at a.tree node).value = search rules in
    subst (λ (b : BookView). IsStoredAt b c.args.unit c.in_ok-fixings.field-0 table (to_z w128 (of_z w128 stored.value))) c.self.view_is (record {
      worker = c.in-Some.field-0-0;
      number = node;
      holds = c.in-Some.ensures.held;
      is_node = c.in_ok-fixings.ensures;
      is_table = ap (λ (s : Stored). slice_get a.tables.items s.table) (sym stored_is) ∙ there;
      is_value = value;
    })
