-- The next output.
use Rattle.std.proofs.Common.{List, ◌≡◌, ◌+◌, ℤ, pos, ◌+ℤ◌, ◌*ℤ◌, sym, subst, ◌∙◌, arith, to_z, of_z, w64}
use Rattle.std.proofs.lemmas.Int.{ints}
use Rattle.dispatch_schedule.specs.inside.Chosen.{AreNumbers, renewable_of}
use Rattle.dispatch_schedule.proofs.Rows.{numbers_more}
use Rattle.dispatch_schedule.proofs.printing.renewable_row.Goals as goal

pub loop-t-preserved : goal.loop-t-preserved
loop-t-preserved c =
    let made : to_z w64 (of_z w64 c.output.result) ≡ c.output.result = omega (arith, ints) in
    let more : to_z w64 (of_z w64 c.total-more.result) ≡ c.total-more.result = omega (arith, ints) in
    let low : to_z w64 (of_z w64 c.low-low.result) ≡ c.low-low.result = omega (arith, ints) in
    let d = c.args.denominator in
    subst (AreNumbers (renewable_of c.args.instance.now c.args.chosen.now c.args.denominator c.args.w) (c.loop-t.t + 1)) (sym {A = List ℤ} c.in_ok-push.ensures.items)
    (numbers_more (renewable_of c.args.instance.now c.args.chosen.now c.args.denominator c.args.w) c.loop-t.t c.loop-t.row.items _ c.loop-t.invariant
    (made ∙ c.output.ensures ∙ (λ i. (more ∙ c.total-more.ensures.value) i +ℤ pos c.args.denominator *ℤ (low ∙ c.low-low.ensures) i)))
