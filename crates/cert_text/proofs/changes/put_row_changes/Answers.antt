-- Each turn puts what is told of the row that it passes.
use Rattle.std.proofs.Common.{sym, ap, arith}
use Rattle.std.specs.List.{flat_map}
use Rattle.cert_text.specs.inside.WrittenParts.{row_line}
use Rattle.cert_text.proofs.changes.put_row_changes.Goals as goal

pub loop-passed-init : goal.loop-passed-init
loop-passed-init g c = λ end rest. rest

pub loop-passed-smaller : goal.loop-passed-smaller
loop-passed-smaller g c = omega (arith, c.in-Some.ensures.fewer)

pub loop-passed-preserved : goal.loop-passed-preserved
loop-passed-preserved g c = grind (arith, g, c)

pub returns : goal.returns
returns g c = c.loop-passed.invariant _ (g.met.O.Out.emits_nothing _ _ (sym (ap (flat_map row_line) c.in_default.ensures)))
