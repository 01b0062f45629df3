-- What is told of the table says whether the leaf is sound.
use Rattle.std.proofs.lemmas.Result.{IfOk-weaker}
use Rattle.cert_check.proofs.LeafNumbers.{ray-sound}
use Rattle.cert_check.proofs.leaf.Leaves.is_excluded.Goals as goal

pub returns-clause-sound : goal.returns-clause-sound
returns-clause-sound c =
    let instance = c.args.instance.now in
    let tables = c.args.cert.now.tables in
    IfOk-weaker c.holds_at.result _ _
    (λ told at. λ place are.
    ray-sound c.args.exact instance tables place c.args.cert.now.bound c.args.number told
    (at place are))
    c.holds_at.ensures.holds
