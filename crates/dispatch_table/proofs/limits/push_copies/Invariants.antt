-- The limits so far.
use Rattle.std.proofs.Common.{◌≡◌, ◌++◌, ◌∷◌, [], map}
use Rattle.dispatch_rules.specs.Prelude.{limit_of, rule_of, limit, listed}
use Rattle.dispatch_table.proofs.limits.push_copies.Given as goal

abbrev pub invariant-loop-segment : goal.invariant-loop-segment
invariant-loop-segment l =
    map limit_of l.all.items ≡ map limit_of l.initial.all.items ++ listed l.segment (λ k. limit (rule_of l.rule) l.unit l.period k ∷ [])
