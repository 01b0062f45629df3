-- The tables so far, and behind them those that are still read. The draft has the numbers of the last one.
use Rattle.std.proofs.Common.{◌≡◌, ◌-◌, None, IfSome}
use Rattle.cert_text.specs.inside.Parts.{tables_part, sizes}
use Rattle.cert_text.specs.inside.Drafts.{IsDrafted}
use Rattle.table_list.specs.TableChanges.{last_table}
use Rattle.cert_text.proofs.Loops.{behind_parts}
use Rattle.cert_text.proofs.reader.table.take_tables.Given as goal

abbrev pub invariant-loop : goal.invariant-loop
invariant-loop l = record {
  read : behind_parts l.tables (tables_part (sizes l.size) (l.size.tables - l.counter) (last_table l.tables) l.rest) ≡ tables_part (sizes l.size) l.size.tables None l.bytes;
  drafted : IfSome (last_table l.tables) (IsDrafted (sizes l.size) l.draft);
}
