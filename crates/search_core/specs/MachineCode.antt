-- By what a proof tells two states apart: each stands as the tuple of its parts.
use Rattle.std.specs.Prelude.{ℕ, List, ℤ, Option, refl}
use Rattle.std.specs.Coded.{Coded, code_by, coded_ℕ, coded_ℤ, coded_list, coded_option, coded×}
use Rattle.dual_model.specs.contracts.table.Table as table
use Rattle.branch_tree.specs.Prelude.{TreeView, tree_view_code}
use Rattle.branch_tree.specs.contracts.found.Entry as entry
use Rattle.branch_tree.specs.declared.found.Entry.{Entry}
use Rattle.dual_model.specs.declared.table.Table.{Table}
use Rattle.search_machine.specs.declared.holder.Holder.{Holder}
use Rattle.search_machine.specs.declared.desk.WorkerState.{WorkerState}
use Rattle.search_machine.specs.contracts.desk.WorkerState as desk
use Rattle.search_machine.specs.contracts.holder.Holder as holder
use Rattle.search_machine.specs.Prelude.{Machine}

abbrev pub MachineParts : Type 0
MachineParts = ℕ × (ℕ × (TreeView × (List Table × (List (Option Holder) × (List Entry × (Option ℤ × List WorkerState))))))

abbrev pub machine_parts_code : Coded MachineParts
machine_parts_code =
    coded× coded_ℕ (coded× coded_ℕ (coded× tree_view_code (coded× (coded_list table.the_row.coded)
    (coded× (coded_list (coded_option holder.the_row.coded)) (coded× (coded_list entry.the_row.coded)
    (coded× (coded_option coded_ℤ) (coded_list desk.the_row.coded)))))))

abbrev pub machine_code : Coded Machine
machine_code = code_by MachineParts machine_parts_code
    (λ m. (m.budget, (m.gap, (m.tree, (m.tables, (m.claims, (m.log, (m.best, m.desks))))))))
    (λ p. record { budget = p.0; gap = p.1.0; tree = p.1.1.0; tables = p.1.1.1.0; claims = p.1.1.1.1.0; log = p.1.1.1.1.1.0; best = p.1.1.1.1.1.1.0; desks = p.1.1.1.1.1.1.1 })
    (λ _. refl)
