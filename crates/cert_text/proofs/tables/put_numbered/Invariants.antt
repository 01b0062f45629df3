-- What ends with the tables that are still to be put has all tables.
use Rattle.std.proofs.Common.{drop, map, None, option_copied}
use Rattle.branch_tree.specs.Prelude.{table_at}
use Rattle.cert_text.specs.inside.WrittenParts.{tables_part}
use Rattle.cert_text.proofs.tables.put_numbered.Given as goal

abbrev pub invariant-loop-number : goal.invariant-loop-number
invariant-loop-number g l = (end : _)
    → g.O.Out.emits (tables_part (option_copied l.before) (drop l.number-index (map (table_at l.tables) l.numbers))) l.out end
    → g.O.Out.emits (tables_part None (map (table_at l.tables) l.numbers)) l.initial.out end
