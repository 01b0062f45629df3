-- The next number.
use Rattle.std.proofs.Common.{List, ◌≡◌, ℕ, ◌+◌, ℤ, sym, subst, ◌∙◌, arith, to_z, of_z, w64}
use Rattle.std.proofs.lemmas.Int.{ints}
use Rattle.dispatch_schedule.specs.declared.power.Power.TheVariants.{Unserved}
use Rattle.dispatch_schedule.specs.inside.Chosen.{AreNumbers, total_of}
use Rattle.dispatch_schedule.proofs.Rows.{numbers_more}
use Rattle.dispatch_schedule.proofs.printing.unserved.Goals as goal

pub loop-t-preserved : goal.loop-t-preserved
loop-t-preserved c =
    let same : to_z w64 (of_z w64 c.total.result) ≡ c.total.result = omega (arith, ints) in
    let f : ℕ → ℤ = λ t. total_of c.args.chosen.now (Unserved t) in
    subst (AreNumbers f (c.loop-t.t + 1)) (sym {A = List ℤ} c.in_ok-push.ensures.items)
    (numbers_more f c.loop-t.t c.loop-t.row.items _ c.loop-t.invariant (same ∙ c.total.ensures.value))
