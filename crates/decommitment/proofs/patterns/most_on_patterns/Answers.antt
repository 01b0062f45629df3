-- A unit without an allowed pattern has none at the root.
use Rattle.std.proofs.Common.{subst}
use Rattle.dispatch_repair.specs.Prelude.{IsMostFault, IsFirstWithoutPattern}
use Rattle.decommitment.proofs.patterns.most_on_patterns.Goals as goal

pub unreachable-requires : goal.unreachable-requires
unreachable-requires c =
    let instance = c.args.instance.now in
    let without : IsFirstWithoutPattern instance c.in-Err-Empty.field-0-0 =
    subst (IsMostFault instance) c.in-Err-Empty.field-0-is c.in-Err-Empty.ensures.fault in
    c.requires.patterns c.in-Err-Empty.field-0-0 without.within (λ on pattern. without.empty on pattern.allowed)
