-- No claim so far holds the node.
use Rattle.std.proofs.Common.{◌≡◌, ℕ, ◌<◌, Option, get_or}
use Rattle.std.specs.Prelude.{IsSomeAnd}
use Rattle.search_machine.specs.declared.holder.Holder.{Holder}
use Rattle.search_core.proofs.holder.is_held.Given as goal

abbrev pub invariant-loop-claim : goal.invariant-loop-claim
invariant-loop-claim l =
    (k : ℕ) (d : Option Holder) → k < l.claim-index → ¬ IsSomeAnd (get_or l.claims k d) (λ holder. holder.node ≡ l.node)
