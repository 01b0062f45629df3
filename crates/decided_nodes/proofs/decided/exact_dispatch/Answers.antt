-- What is said of the patterns at the node is said of the node.
use Rattle.std.proofs.Common.{inr, subst, sym, MatchOption, Option, Some, None}
use Rattle.std.proofs.lemmas.Result.{IfOk-weaker}
use Rattle.decided_nodes.specs.Decided.{ArePatternsAt, Instance, IsDecided, IsUndispatched, IsWideAt, Node}
use Rattle.decided_nodes.specs.declared.decided.Decided.{Decided}
use Rattle.decided_nodes.proofs.decided.exact_dispatch.Goals as goal

none_if_wide : (instance : Instance) (node : Node) (found : Option Decided) → MatchOption found (IsWideAt instance node) (IsDecided instance node)
    → MatchOption found (IsUndispatched instance node) (IsDecided instance node)
none_if_wide instance node None wide = inr (inr wide)
none_if_wide instance node (Some told) is = is

pub returns-in-Ok : goal.returns-in-Ok
returns-in-Ok c =
    let instance = c.args.instance.now in
    let node = c.args.node.now in
    IfOk-weaker c.dispatched.result (λ found. MatchOption found (IsWideAt instance node) (IsDecided instance node))
    (λ found. MatchOption found (IsUndispatched instance node) (IsDecided instance node)) (none_if_wide instance node)
    (c.dispatched.ensures node (subst (ArePatternsAt instance node) (sym c.as_slice.ensures) c.in-Ok.ensures.patterns))
