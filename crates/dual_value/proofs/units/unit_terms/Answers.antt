-- The rows are the unit's prices at the table.
use Rattle.std.proofs.Common.{arith, sym, ◌∙◌, rules}
use Rattle.std.specs.Int.{w64}
use Rattle.std.proofs.lemmas.Int.{to_z-of_z}
use Rattle.dual_value.proofs.units.unit_terms.Goals as goal

pub terms-requires-clause-scale : goal.terms-requires-clause-scale
terms-requires-clause-scale c = grind (arith, c)

pub returns-clause-at_table : goal.returns-clause-at_table
returns-clause-at_table c = λ instance same periods.
    c.terms.ensures.at_table instance c.args.table.now c.args.g same
    (to_z-of_z w64 c.k.result (search rules) ∙ c.k.ensures)
    (c.fill.ensures.rows instance (periods ∙ sym c.requires.place.prices))
