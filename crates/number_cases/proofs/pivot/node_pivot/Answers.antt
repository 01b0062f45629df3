-- The patterns of a value are allowed.
use Rattle.number_cases.proofs.pivot.node_pivot.Goals as goal

pub pivot_of-requires-clause-allowed : goal.pivot_of-requires-clause-allowed
pivot_of-requires-clause-allowed c =
    let value = c.in-Ok.ensures.value in
    record { count = value.patterns; allowed = λ g within. (value.part g within).best.pattern.allowed }
