-- A period more, and the end.
use Rattle.std.proofs.Common.{add-one, refl, sym, subst, ◌∙◌, arith}
use Rattle.dual_model.specs.Prelude.{IsTraced}
use Rattle.unit_exact.specs.inside.Switches.{choices_in}
use Rattle.unit_exact.proofs.Traced.{way-traced}
use Rattle.unit_exact.proofs.trace.pattern_of.Goals as goal

pub loop-t-init : goal.loop-t-init
loop-t-init c = record {
  end = c.begin-trace.ensures.end;
  traced = c.begin-trace.ensures.traced (choices_in c.args.entries.now);
}

pub loop-t-preserved : goal.loop-t-preserved
loop-t-preserved c = record {
  end = c.follow-trace.ensures.end ∙ c.loop-t.invariant.end;
  traced = subst (λ k. IsTraced (choices_in c.args.entries.now) c.args.problem.now.unit.now.on0 c.args.first.now k c.follow-trace.result) (sym (add-one c.loop-t.t))
      (c.follow-trace.ensures.traced (choices_in c.args.entries.now) c.args.problem.now.unit.now.on0 c.args.first.now refl refl c.loop-t.invariant.traced);
}

pub returns-clause-way : goal.returns-clause-way
returns-clause-way c =
    let p = c.args.problem.now in
    way-traced p.periods p.table.now p.unit.now p.fix.now c.args.entries.now c.args.first.now c.loop-t.t c.loop-t.trace (omega (arith, c.loop-t-test.false))
    c.loop-t.invariant.end c.requires.table c.requires.first c.loop-t.invariant.traced

pub returns-clause-after : goal.returns-clause-after
returns-clause-after c = λ k low. c.loop-t.invariant.traced.after k (omega (arith, low))
