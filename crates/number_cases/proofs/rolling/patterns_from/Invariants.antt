-- A pattern for each so far.
use Rattle.std.proofs.Common.{◌≡◌, length}
use Rattle.number_cases.proofs.rolling.patterns_from.Given as goal

abbrev pub invariant-loop-g : goal.invariant-loop-g
invariant-loop-g l = length l.own.items ≡ l.g
