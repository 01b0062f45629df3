-- An amount rises by no more than is missing, and goes on where that isn't all.
use Rattle.std.proofs.Common.{arith}
use Rattle.std.proofs.lemmas.Int.{to_z-of_z}
use Rattle.uc_model.proofs.Common.{int_lt-true}
use Rattle.decommitment.proofs.Steps.{risen_by}
use Rattle.decommitment.proofs.level.risen.Goals as goal

pub returns : goal.returns
returns c = grind (arith, to_z-of_z, risen_by, int_lt-true, c)
