-- The numbers of the tables so far are lawful.
use Rattle.std.proofs.Common.{All, take}
use Rattle.cert_check.specs.inside.Numbers.{HasLawfulNumbers}
use Rattle.cert_check.proofs.numbers.first_off.Given as goal

abbrev pub invariant-loop-i : goal.invariant-loop-i
invariant-loop-i l = All HasLawfulNumbers (take l.i l.tables)
