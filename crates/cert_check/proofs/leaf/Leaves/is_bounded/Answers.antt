-- What is told of the table says whether the leaf is sound.
use Rattle.std.proofs.Common.{◌↔◌, sym, subst, IsTrue, FitsSigned, rules}
use Rattle.std.specs.Int.{w128}
use Rattle.std.proofs.lemmas.Int.{to_z-of_z}
use Rattle.std.proofs.lemmas.Result.{IfOk-weaker}
use Rattle.dual_model.specs.Prelude.{Bound}
use Rattle.cert_text.specs.CertificateText.{LeafNode}
use Rattle.cert_check.specs.Visits.{IsSoundNode}
use Rattle.cert_check.specs.declared.leaf.Claim.TheVariants as claims
use Rattle.cert_check.specs.inside.Leaves.{IsHoldingAt}
use Rattle.cert_check.proofs.LeafNumbers.{bound-sound}
use Rattle.cert_check.proofs.leaf.Leaves.is_bounded.Goals as goal

pub returns-in-Some-clause-sound : goal.returns-in-Some-clause-sound
returns-in-Some-clause-sound c =
    let instance = c.args.instance.now in
    let tables = c.args.cert.now.tables in
    let exact = c.args.exact in
    let number = c.args.number in
    let bound = c.in-Some.bound in
    let fits : FitsSigned w128 bound = search rules in
    IfOk-weaker c.holds_at.result _ _
    (λ told at. λ place are.
    subst (λ claimed. IsTrue told ↔ IsSoundNode instance tables claimed place (LeafNode (Bound exact number))) (sym c.in-Some.is)
    (bound-sound exact instance tables place bound number told
    (subst (λ b. IsHoldingAt (record { exact = exact; claim = claims.Bound b }) instance tables place number told) (to_z-of_z w128 bound fits) (at place are))))
    c.holds_at.ensures.holds
