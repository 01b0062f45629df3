-- Each turn takes the tables of a node from those to come.
use Rattle.std.proofs.Common.{◌≡◌, ℕ, ◌+◌, [], ◌++◌, Bool, Vec, Global, drop, sym, ap, ◌∙◌, subst, arith}
use Rattle.std.specs.List.{flat_map}
use Rattle.std.proofs.lemmas.List.{length-replicate, get_or-replicate}
use Rattle.branch_tree.specs.TreeView.{tree_of}
use Rattle.branch_tree.specs.UsedTables.{stored_tables, spot_tables}
use Rattle.branch_tree.proofs.Preorder.{whole_part, numbers_within, IsUsedSoFar, tables_at, tables_listed, tables_next, used_begins, used_more, next_table}
use Rattle.branch_tree.proofs.layout.used.Goals as goal
use Rattle.branch_tree.proofs.layout.used.Goals.{in-Some+in_ok-note, in_default}

pub loop-node-init : goal.loop-node-init
loop-node-init c = grind (arith, tables_at, tables_listed, whole_part, used_begins, length-replicate, get_or-replicate, c)

pub node-requires : goal.node-requires
node-requires c = grind (arith, numbers_within, whole_part, c)

pub note-requires : goal.note-requires
note-requires c =
    let whole = c.args.tree.now.nodes in
    let later = flat_map (tables_at whole) (drop (c.loop-node.node-index + 1) c.args.nodes.now) in
    let next = tables_next whole c.args.nodes.now c.loop-node.node-index c.node.result c.loop-node-test.true c.node.ensures
    ∙ ap (λ xs. xs ++ later) (sym c.in-Some.ensures) in
    let so_far = subst (λ rest. IsUsedSoFar (stored_tables (tree_of c.args.tree.now)) rest c.loop-node.used.items c.loop-node.seen.items c.args.tables)
    next c.loop-node.invariant in
    let within = next_table (stored_tables (tree_of c.args.tree.now)) later c.loop-node.used.items c.loop-node.seen.items c.args.tables c.in-Some.table
    c.requires.within so_far in
    omega (arith, so_far.marks, c.loop-node.seen.ok.0)

pub loop-node-preserved : goal.loop-node-preserved
loop-node-preserved c =
    let whole = c.args.tree.now.nodes in
    let stored = stored_tables (tree_of c.args.tree.now) in
    let later = flat_map (tables_at whole) (drop (c.loop-node.node-index + 1) c.args.nodes.now) in
    let next = tables_next whole c.args.nodes.now c.loop-node.node-index c.node.result c.loop-node-test.true c.node.ensures in
    elim c.match-table_of.branch [
      | in-Some+in_ok-note w ↦
          let so_far = subst (λ rest. IsUsedSoFar stored rest c.loop-node.used.items c.loop-node.seen.items c.args.tables)
          (next ∙ ap (λ xs. xs ++ later) (sym w.in-Some.ensures)) c.loop-node.invariant in
          let within = next_table stored later c.loop-node.used.items c.loop-node.seen.items c.args.tables w.in-Some.table
          c.requires.within so_far in
          used_more stored later c.loop-node.used.items c.match-table_of.used.items c.loop-node.seen.items c.match-table_of.seen.items
          c.args.tables w.in-Some.table within so_far
          (ap (λ (v : Vec Bool Global). v.items) w.seen-is ∙ w.in_ok-note.ensures.seen)
          (ap (λ (v : Vec ℕ Global). v.items) w.used-is ∙ w.in_ok-note.ensures.used)
      | in_default w ↦
          let none : spot_tables c.node.result ≡ [] = sym w.in_default.ensures in
          let so_far = subst (λ rest. IsUsedSoFar stored rest c.loop-node.used.items c.loop-node.seen.items c.args.tables)
          (next ∙ ap (λ xs. xs ++ later) none) c.loop-node.invariant in
          rw (w.seen-is, w.used-is) so_far
    ]
