-- The table's value is what the evaluation gave.
use Rattle.std.proofs.Common.{FitsSigned, rules}
use Rattle.std.specs.Int.{w128}
use Rattle.std.proofs.lemmas.Int.{to_z-of_z}
use Rattle.opening.proofs.root_tables.with_value.Goals as goal

pub returns-clause-priced : goal.returns-clause-priced
returns-clause-priced c =
    let fits : FitsSigned w128 c.in_ok-value.value = search rules in
    simp to_z-of_z (record {
      valued = record { lawful = c.requires.table; is_value = c.in_ok-value.ensures.value; size = c.in_ok-value.ensures.size };
      scale = c.requires.scale;
    })
