-- The terms are those at the unit's prices at the table.
use Rattle.std.proofs.Common.{sym, rules, ◌∙◌}
use Rattle.std.specs.Int.{w64}
use Rattle.std.proofs.lemmas.Int.{to_z-of_z}
use Rattle.leaf_values.proofs.loading.unit_terms.Goals as goal

pub returns-clause-terms : goal.returns-clause-terms
returns-clause-terms c =
    let instance = c.args.instance.now in
    let table = c.args.table.now in
    c.terms.ensures.at_table instance table c.args.g (sym c.unit_of-unit.ensures)
    (to_z-of_z w64 c.k.result (search rules) ∙ c.k.ensures)
    (c.fill.ensures.rows instance (sym c.requires.size.periods))
