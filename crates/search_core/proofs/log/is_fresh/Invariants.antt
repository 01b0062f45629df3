-- No entry of the node so far is at this table with a value of this kind.
use Rattle.std.proofs.Common.{◌≡◌, ℕ, ◌<◌, get_or}
use Rattle.branch_tree.specs.declared.found.Entry.{Entry}
use Rattle.search_machine.specs.Prelude.{IsElsewhere}
use Rattle.search_core.proofs.log.is_fresh.Given as goal

abbrev pub invariant-loop-entry : goal.invariant-loop-entry
invariant-loop-entry l =
    (k : ℕ) (d : Entry) → k < l.entry-index → (get_or l.log k d).node ≡ l.node → IsElsewhere l.tables l.table l.exact (get_or l.log k d)
