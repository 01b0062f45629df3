-- The rows so far are lawful.
use Rattle.prices.specs.inside.Moves.{AreLawfulRows}
use Rattle.prices.proofs.price_list.ramp_rows.Given as goal

abbrev pub invariant-loop-g : goal.invariant-loop-g
invariant-loop-g l = AreLawfulRows l.units l.periods l.rows.items

abbrev pub invariant-loop-t : goal.invariant-loop-t
invariant-loop-t l = AreLawfulRows l.units l.periods l.rows.items
