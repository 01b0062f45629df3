-- A schedule of the dispatch of the drop commitment is accepted.
use Rattle.std.proofs.Common.{arith, refl, subst, sym, ◌∙◌, w64}
use Rattle.std.proofs.lemmas.Int.{to_z-of_z}
use Rattle.dispatch_repair.specs.Prelude.{IsDispatchOf}
use Rattle.decommitment.proofs.Drops.{accepted}
use Rattle.decommitment.proofs.RunTurns.{dispatch_there, run_dropped}
use Rattle.decommitment.proofs.pass.ended.Goals as goal

pub whole-requires-clause-dispatched : goal.whole-requires-clause-dispatched
whole-requires-clause-dispatched c = (
  c.requires.passed.2.kept.printed,
  subst (λ p. IsDispatchOf c.args.instance.now p c.requires.passed.2.kept.printed) (sym c.deref.ensures.value)
      (dispatch_there c.args.instance.now _ c.args.pass.patterns.items c.args.pass.stand c.in-Dispatched.field-0 c.requires.passed.2.kept.printed
      c.requires.passed.2.kept.passed c.in-Dispatched.is).0,
)

pub cost-cost-requires-clause-shape : goal.cost-cost-requires-clause-shape
cost-cost-requires-clause-shape c = grind (arith, c)

pub cost-cost-requires-clause-obeys : goal.cost-cost-requires-clause-obeys
cost-cost-requires-clause-obeys c =
    (accepted c.args.instance.now c.args.pass.patterns.items c.in_ok-printed-in-Dispatched.printed _ c.requires.lawful
    (subst (λ p. IsDispatchOf c.args.instance.now p c.in_ok-printed-in-Dispatched.printed) c.deref.ensures.value c.in_ok-printed-in-Dispatched.ensures) refl).obeys

pub returns-in-Dispatched : goal.returns-in-Dispatched
returns-in-Dispatched c =
    run_dropped c.args.instance.now c.args.pass.patterns.items c.args.pass.stand c.in-Dispatched.field-0 c.requires.passed.2.kept.printed
    c.in_ok-printed-in-Dispatched.printed _ c.requires.lawful c.requires.passed.2.kept.passed c.in-Dispatched.is
    (subst (λ p. IsDispatchOf c.args.instance.now p c.in_ok-printed-in-Dispatched.printed) c.deref.ensures.value c.in_ok-printed-in-Dispatched.ensures)
    (to_z-of_z w64 c.cost-cost.result (record { sfits = c.cost-cost.type_inv }) ∙ c.cost-cost.ensures)
