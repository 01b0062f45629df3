-- The entry there is the only one of the column.
use Rattle.std.proofs.Common.{sym, refl, arith}
use Rattle.std.proofs.lemmas.List.{get_or_default}
use Rattle.pivot_run.proofs.EntryLists.{split_there, split_elsewhere}
use Rattle.pivot_run.proofs.entries.Entries.number.Goals as goal

pub returns-then-stands_in : goal.returns-then-stands_in
returns-then-stands_in c = grind (arith, get_or_default, split_there, c)

pub returns-else-stands_in : goal.returns-else-stands_in
returns-else-stands_in c = sym (split_elsewhere _ _ c.args.k c.args.c c.requires.entries c.requires.split (c.if-stands_in.ensures.elsewhere refl))
