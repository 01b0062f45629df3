-- What was kept is of the table of its number, and so is what is new.
use Rattle.std.proofs.Common.{arith, sym, ap, Some, ◌∙◌, refl}
use Rattle.std.proofs.lemmas.Option.{slice_get-get_or}
use Rattle.cert_check.proofs.leaf.loaded_of.Goals as goal

pub returns-then-loaded-number-clause-loaded : goal.returns-then-loaded-number-clause-loaded
returns-then-loaded-number-clause-loaded c = grind (arith, c)

pub returns-clause-loaded : goal.returns-clause-loaded
returns-clause-loaded c =
    let tables = c.args.tables.now in
    let table = c.in_ok-table.table in
    record {
      of_number = record {
        is = slice_get-get_or tables c.args.number table c.requires.number ∙ ap Some (sym (c.in_ok-table.ensures table));
        entries = c.in_ok-entries.ensures.entries;
      };
      number_is = refl;
    }
