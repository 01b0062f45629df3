-- Each turn puts the changes of a table behind the one before it.
use Rattle.std.proofs.Common.{◌≡◌, get_or, w64, of_z, to_z, ◌∙◌, arith}
use Rattle.std.proofs.lemmas.Int.{to_z-of_z}
use Rattle.branch_tree.specs.Prelude.{no_table}
use Rattle.cert_text.proofs.Written.{next_told, last_table}
use Rattle.cert_text.proofs.tables.put_tables.Goals as goal

pub loop-number-init : goal.loop-number-init
loop-number-init g c = grind (arith, g, c)

pub loop-number-preserved : goal.loop-number-preserved
loop-number-preserved g c =
    let tables = c.args.tables.now in
    let i = c.loop-number.number in
    let scale : to_z w64 (of_z w64 c.scale.result) ≡ (get_or tables i no_table).k = to_z-of_z w64 c.scale.result (record { sfits = c.scale.type_inv }) ∙ c.scale.ensures no_table in
    record {
      behind = omega arith;
      puts = λ end rest. grind (arith, next_told, c, end, g, rest, tables, i, scale);
    }

pub returns : goal.returns
returns g c = grind (arith, last_table, g, c)
