-- What holds of the node's entries holds of each entry of the log that is of it.
use Rattle.std.proofs.Common.{◌≡◌, All, List, sym, subst}
use Rattle.branch_tree.specs.declared.found.Entry.{Entry}
use Rattle.dual_model.specs.declared.table.Table.{Table}
use Rattle.search_machine.specs.Prelude.{Machine, entries_of, IsFresh, IsElsewhere}
use Rattle.search_machine.proofs.OwnSteps.{all_of_node, each_of_node}
use Rattle.search_core.proofs.state.State.is_fresh.Goals as goal

pub returns : goal.returns
returns c =
    let a = c.self.inside in
    let node = c.args.node in
    let table = c.args.table.now in
    let exact = c.args.exact in
    let log = c.as_slice.ensures in
    let tables = c.as_slice-2.ensures in
    let by_log = λ (entries : List Entry). All (λ entry. entry.node ≡ node → IsElsewhere c.as_slice-2.result.now table exact entry) entries in
    let by_tables = λ (ts : List Table). All (λ entry. entry.node ≡ node → IsElsewhere ts table exact entry) a.log in
    let fresh = λ (m : Machine). IsFresh m (entries_of m.log node) table exact in (
      (λ h.
          subst fresh c.self.view_is
          (each_of_node (IsElsewhere a.tables table exact) a.log node (subst by_tables tables (subst by_log log (c.is_fresh.ensures.0 h))))),
      (λ h.
          let own = all_of_node (IsElsewhere a.tables table exact) a.log node (subst fresh (sym c.self.view_is) h) in
          c.is_fresh.ensures.1 (subst by_log (sym log) (subst by_tables (sym tables) own))),
    )
