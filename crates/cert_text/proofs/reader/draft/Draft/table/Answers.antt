-- A scale of few digits is itself as a signed number.
use Rattle.std.proofs.Common.{arith}
use Rattle.std.proofs.lemmas.Int.{ints}
use Rattle.cert_text.proofs.reader.draft.Draft.table.Goals as goal

pub new-requires : goal.new-requires
new-requires c = grind (arith, ints, c)
