-- The segment between two corners covers the watts between them.
use Rattle.std.proofs.Common.{◌≡◌, suc, ◌+◌, ◌∷◌, [], ◌++◌, arith, sym, subst, ap, ◌∙◌}
use Rattle.uc_model.specs.Prelude.{renewable_count}
use Rattle.dispatch_repair.specs.Prelude.{Segment, AreSegmentsOf, corner_segment}
use Rattle.dispatch_repair.proofs.CurveSegments.{ArePushed, pushed_more, pushed_all}
use Rattle.dispatch_repair.proofs.merit_order.push_curve.Goals as goal

pub loop-i-preserved : goal.loop-i-preserved
loop-i-preserved c = λ instance g source hg whole are.
    let n = renewable_count instance + g in
    let i = c.loop-i.i in
    let before : ArePushed instance n c.args.corners.now i c.loop-i.segments.items =
    subst (λ m. ArePushed instance m c.args.corners.now i c.loop-i.segments.items) source (c.loop-i.invariant instance g source hg whole are) in
    let made : c.between.result ≡ corner_segment n c.args.corners.now i =
    c.between.ensures ∙ ap (λ m. corner_segment m c.args.corners.now i) source in
    let items : c.push.new.self.items ≡ c.loop-i.segments.items ++ c.between.result ∷ [] = c.in_ok-push.ensures.items in
    subst (λ m. ArePushed instance m c.args.corners.now (i + 1) c.push.new.self.items) (sym source)
    (subst (ArePushed instance n c.args.corners.now (i + 1)) (sym (items ∙ ap (λ (s : Segment). c.loop-i.segments.items ++ s ∷ []) made))
    (subst (λ k. ArePushed instance n c.args.corners.now k (c.loop-i.segments.items ++ corner_segment n c.args.corners.now i ∷ [])) (omega arith)
    (pushed_more instance g i c.args.corners.now c.loop-i.segments.items hg whole (omega (arith, c.loop-i-test.true, c.requires.corners.some)) before)))

pub returns : goal.returns
returns c = λ instance g source hg whole are.
    let n = renewable_count instance + g in
    subst (λ m. AreSegmentsOf instance (suc m) c.loop-i.segments.items) (sym source)
    (pushed_all instance g c.loop-i.i c.args.corners.now c.loop-i.segments.items whole (omega arith)
    (subst (λ m. ArePushed instance m c.args.corners.now c.loop-i.i c.loop-i.segments.items) source (c.loop-i.invariant instance g source hg whole are)))
