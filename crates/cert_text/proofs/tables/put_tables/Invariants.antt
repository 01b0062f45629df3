-- What ends with the tables that are still to be put, behind the first one, has all tables.
use Rattle.std.proofs.Common.{◌≤◌, ◌-◌, drop, slice_get, None}
use Rattle.cert_text.specs.inside.WrittenParts.{tables_part}
use Rattle.cert_text.proofs.tables.put_tables.Given as goal

abbrev pub invariant-loop-number : goal.invariant-loop-number
invariant-loop-number g l = record {
  behind : 1 ≤ l.number;
  puts : (end : _)
      → g.O.Out.emits (tables_part (slice_get l.tables (l.number - 1)) (drop l.number l.tables)) l.out end
      → g.O.Out.emits (tables_part None l.tables) l.fn.out end;
}
