-- Each limit is the task's.
use Rattle.std.proofs.Common.{arith, map, ap, sym, ◌∙◌}
use Rattle.std.proofs.lemmas.List.{take_all}
use Rattle.std.proofs.lemmas.Int.{to_z-of_z}
use Rattle.std.proofs.lemmas.Simd.{map-map}
use Rattle.std.specs.Int.{w64}
use Rattle.dispatch_rules.specs.Prelude.{limit_of, right_of}
use Rattle.dispatch_rules.specs.declared.limit.LimitAt.{LimitAt}
use Rattle.dispatch_table.specs.Tasks.{task_of}
use Rattle.dispatch_table.proofs.ColumnLists.{push_taken}
use Rattle.dispatch_table.proofs.LimitReads.{read_limit}
use Rattle.dispatch_table.proofs.rights.rights.Goals as goal

pub right-requires-clause-limit : goal.right-requires-clause-limit
right-requires-clause-limit c = read_limit (task_of c.args.given.now) c.args.limits.now c.loop-limit.limit-index _ c.requires.limits c.loop-limit-test.true

pub loop-limit-preserved : goal.loop-limit-preserved
loop-limit-preserved c =
    push_taken (λ (limit : LimitAt). right_of (task_of c.args.given.now) (limit_of limit)) c.args.limits.now c.loop-limit.limit-index _ c.loop-limit.rights.items
    c.push.new.self.items _ c.loop-limit-test.true c.loop-limit.invariant c.in_ok-push.ensures.items
    (to_z-of_z w64 c.right.result (record { sfits = c.right.type_inv }) ∙ c.right.ensures)

pub returns : goal.returns
returns c =
    let right = right_of (task_of c.args.given.now) in
    c.loop-limit.invariant
    ∙ ap (map (λ (limit : LimitAt). right (limit_of limit))) (take_all c.loop-limit.limit-index c.args.limits.now (omega arith))
    ∙ sym (map-map right limit_of c.args.limits.now)
    ∙ ap (map right) c.requires.limits
