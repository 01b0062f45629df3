-- The first desk, and so many others.
use Rattle.std.proofs.Common.{◌≡◌, ◌∷◌, replicate}
use Rattle.search_machine.specs.Prelude.{no_desk, first_desk}
use Rattle.search_core.proofs.start.desks.Given as goal

abbrev pub invariant-loop : goal.invariant-loop
invariant-loop l = l.desks.items ≡ first_desk ∷ replicate l.counter no_desk
