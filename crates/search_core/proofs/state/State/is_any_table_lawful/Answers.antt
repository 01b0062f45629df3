-- A node whose entries count to nothing has none, and what it stores is as the call tells.
use Rattle.std.proofs.Common.{◌≡◌, sym, ◌∙◌, subst, rules, length, slice_get}
use Rattle.std.proofs.lemmas.List.{nil_from_length}
use Rattle.search_machine.specs.Prelude.{Machine, entries_of, IsStoredTable}
use Rattle.search_core.proofs.state.State.is_any_table_lawful.Goals as goal

pub returns-clause-first : goal.returns-clause-first
returns-clause-first c = λ no.
    let node = c.args.node in
    let none : length (entries_of c.args.self.now.log node) ≡ 0 = search rules in (
      nil_from_length (entries_of c.args.self.now.log node) none,
      c.if-node-eq0.false,
      (λ stored.
          let own = subst (λ (m : Machine). IsStoredTable m node c.args.table.now) (sym c.self.view_is) stored in
          let here = (λ i. slice_get (c.as_slice.ensures i) (c.stored_at.ensures i).table) ∙ own in
          let yes_it_is = c.is_table.ensures.1 here in
          cc),
    )
