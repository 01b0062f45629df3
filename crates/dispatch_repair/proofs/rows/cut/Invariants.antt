-- The rows so far are cut, and the others are as they were.
use Rattle.std.proofs.Common.{◌≡◌, ◌++◌, take, drop, vec_len, map}
use Rattle.dispatch_repair.specs.Prelude.{rows_of}
use Rattle.dispatch_repair.proofs.rows.cut.Given as goal

abbrev pub invariant-loop-i : goal.invariant-loop-i
invariant-loop-i g l =
    (vec_len l.rows ≡ l.i-end) × (vec_len l.initial.rows ≡ l.i-end)
    × (rows_of l.rows.items ≡ map (take l.periods) (take l.i (rows_of l.initial.rows.items)) ++ drop l.i (rows_of l.initial.rows.items))
