use Rattle.std.proofs.Common.{arith}
use Rattle.std.proofs.lemmas.Int.{ints, clamps}
use Rattle.decimal_json.proofs.number.held_exponent.Goals as goal

pub returns-then-down : goal.returns-then-down
returns-then-down c = λ w h. rw c.if-down.true (omega (arith, ints, clamps, c.min.ensures, c.limited.ensures, h))
