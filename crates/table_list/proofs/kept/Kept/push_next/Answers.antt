-- The table is kept whole, or by its changes.
use Rattle.std.proofs.Common.{◌≡◌, length, refl, sym, ap, rules}
use Rattle.table_list.specs.Changes.{Table, table_changes}
use Rattle.table_list.proofs.Pushes.{both_on_ok, listed_whole, listed_told}
use Rattle.table_list.proofs.kept.Kept.push_next.Goals as goal

pub returns-then-is_due : goal.returns-then-is_due
returns-then-is_due c =
    let table = c.args.table.now in
    let begins : c.len-start.result ≡ length c.args.self.now.changes.items = search rules in
    let both = both_on_ok c.push_whole.result
    (listed_whole c.args.self.now _ c.push_whole.new.self (table_changes c.args.last.now table) table c.len-start.result c.requires.listed.all c.requires.formed begins
    refl refl c.in_ok-push_changes.ensures (λ some. ap (λ (other : Table). table_changes other table) (sym c.requires.listed.end.is)))
    c.push_whole.ensures in
    record { listed = both.0; tables = both.1 }

pub returns-else-is_due : goal.returns-else-is_due
returns-else-is_due c =
    let begins : c.len-start.result ≡ length c.args.self.now.changes.items = search rules in
    let both = both_on_ok c.push_told.result
    (listed_told c.args.self.now (record c.args.self.now { changes = c.push_changes.new.changes }) c.push_told.new.self c.args.last.now c.args.table.now _ c.len-start.result refl c.requires.listed c.requires.formed c.requires.alike begins
    refl refl refl c.in_ok-push_changes.ensures)
    c.push_told.ensures in
    record { listed = both.0; tables = both.1 }
