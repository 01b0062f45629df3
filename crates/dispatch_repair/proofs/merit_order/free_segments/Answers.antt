-- A renewable unit has one segment.
use Rattle.std.proofs.Common.{◌≡◌, ◌+◌, ◌<◌, ◌∷◌, [], ◌++◌, length, arith, sym, subst, ap, ◌∙◌}
use Rattle.dispatch_repair.specs.Prelude.{Segment, AreSegmentsOf, free_segment}
use Rattle.dispatch_repair.proofs.CurveSegments.{renewable_more}
use Rattle.dispatch_repair.proofs.merit_order.free_segments.Goals as goal

pub loop-w-preserved : goal.loop-w-preserved
loop-w-preserved c =
    let before = c.loop-w.invariant in
    let items : c.push.new.self.items ≡ c.loop-w.segments.items ++ c.free.result ∷ [] = c.in_ok-push.ensures.items in
    subst (AreSegmentsOf c.args.instance.now (c.loop-w.w + 1)) (sym (items ∙ ap (λ (s : Segment). c.loop-w.segments.items ++ s ∷ []) c.free.ensures))
    (subst (λ k. AreSegmentsOf c.args.instance.now k (c.loop-w.segments.items ++ free_segment c.loop-w.w ∷ [])) (omega arith)
    (renewable_more c.args.instance.now c.loop-w.w c.loop-w.segments.items (subst (λ xs. c.loop-w.w < length xs) c.as_slice-w-end.ensures c.loop-w-test.true) before))
