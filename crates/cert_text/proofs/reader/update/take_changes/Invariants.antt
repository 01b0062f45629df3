-- The table so far, changed as is still read, is the whole one.
use Rattle.std.proofs.Common.{◌≡◌, ◌-◌, None}
use Rattle.std.specs.Option.{option_map}
use Rattle.cert_text.specs.inside.Parts.{changed_part, sizes}
use Rattle.cert_text.specs.inside.Drafts.{drafted, so_far, ArePriced, IsUnderway}
use Rattle.table_list.specs.TableChanges.{change_of}
use Rattle.cert_text.proofs.reader.update.take_changes.Given as goal

abbrev pub invariant-loop : goal.invariant-loop
invariant-loop l = record {
  read : changed_part (sizes l.size) (l.count - l.counter) (so_far l.draft l.left) (option_map change_of l.last) l.rest ≡ changed_part (sizes l.size) l.count (drafted l.fn.draft l.old) None l.bytes;
  priced : ArePriced l.size.periods l.draft;
  underway : IsUnderway l.draft l.left (option_map change_of l.last);
}
