-- The draft has the numbers of the table that the next one is told from.
use Rattle.std.proofs.Common.{arith, sym}
use Rattle.cert_text.specs.inside.Parts.{told_part}
use Rattle.cert_text.proofs.reader.table.take_told.Goals as goal

pub take_next-requires-clause-before : goal.take_next-requires-clause-before
take_next-requires-clause-before c = grind (arith, c)

pub returns-in-None-clause-read : goal.returns-in-None-clause-read
unfolding told_part
returns-in-None-clause-read c = rw (sym c.in-None.ensures) c.take_table.ensures.read

pub returns-in-Some-clause-read : goal.returns-in-Some-clause-read
unfolding told_part
returns-in-Some-clause-read c = rw (sym c.in-Some.ensures) c.take_next.ensures.read
