-- What is told by the value of the kind is told of it.
use Rattle.std.proofs.Common.{Bool, false, List, ◌↔◌, IsTrue, sym, subst}
use Rattle.dual_model.specs.declared.node.Fix.{Fix}
use Rattle.leaf_values.specs.Paths.{AreFixesOf}
use Rattle.leaf_values.specs.Reached.{least_value}
use Rattle.cert_check.specs.inside.Leaves.{Reaches}
use Rattle.cert_check.proofs.LeafNumbers.{reaches-by-value}
use Rattle.cert_check.proofs.leaf.Leaves.reaches.Goals as goal

pub returns-then-exact-clause-reaches : goal.returns-then-exact-clause-reaches
returns-then-exact-clause-reaches c = λ place are.
    subst (λ (e : Bool). IsTrue c.exact_reaches.result ↔ Reaches e c.args.instance.now place c.args.table.now (least_value c.args.least.now)) (sym c.if-exact.true)
    (c.exact_reaches.ensures.reaches place
    (subst (λ (fixes : List Fix). AreFixesOf c.args.instance.now place fixes) (sym c.deref.ensures.value) are))

pub returns-else-exact-clause-reaches : goal.returns-else-exact-clause-reaches
returns-else-exact-clause-reaches c = λ place are.
    let instance = c.args.instance.now in
    let table = c.args.table.now in
    let least = least_value c.args.least.now in
    subst (λ (e : Bool). IsTrue c.is_enough.result ↔ Reaches e instance place table least) (sym c.if-exact.false)
    (reaches-by-value false instance place table least c.value-value.result c.is_enough.result
    (c.value-value.ensures.value table place c.requires.entries
    (subst (λ (fixes : List Fix). AreFixesOf instance place fixes) (sym c.deref-else-exact.ensures.value) are))
    c.is_enough.ensures)
