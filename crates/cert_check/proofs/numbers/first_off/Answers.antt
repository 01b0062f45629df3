-- The table of each turn is the list's.
use Rattle.std.proofs.Common.{arith, sym, ap, Some, ◌∙◌, true≢false}
use Rattle.std.proofs.lemmas.Option.{slice_get-get_or}
use Rattle.cert_check.specs.inside.Numbers.{HasLawfulNumbers}
use Rattle.cert_check.proofs.Places.{each-next, each-all}
use Rattle.cert_check.proofs.numbers.first_off.Goals as goal

pub returns-then-not-is_lawful : goal.returns-then-not-is_lawful
returns-then-not-is_lawful c = record {
  table = c.in_ok-table.table;
  is_table = slice_get-get_or c.args.tables.now c.loop-i.i c.in_ok-table.table (omega arith) ∙ ap Some (sym (c.in_ok-table.ensures c.in_ok-table.table));
  off = λ lawful. true≢false (sym (c.is_lawful.ensures.1 lawful) ∙ c.if-not-is_lawful.true);
  before = c.loop-i.invariant;
}

pub loop-i-preserved : goal.loop-i-preserved
loop-i-preserved c =
    each-next HasLawfulNumbers c.args.tables.now c.loop-i.i c.in_ok-table.table (omega arith) (c.in_ok-table.ensures c.in_ok-table.table) c.loop-i.invariant
    (c.is_lawful.ensures.0 c.if-not-is_lawful.false)

pub returns : goal.returns
returns c = each-all HasLawfulNumbers c.args.tables.now c.loop-i.i (omega arith) c.loop-i.invariant
