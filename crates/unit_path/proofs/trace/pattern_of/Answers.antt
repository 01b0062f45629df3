-- A period more, and the end.
use Rattle.std.proofs.Common.{◌≡◌, ◌-◌, add-one, length, refl, sym, subst, ◌∙◌, arith}
use Rattle.uc_model.specs.Prelude.{period_count}
use Rattle.dual_model.specs.Prelude.{IsTraced}
use Rattle.unit_path.specs.inside.Hours.{choices_in}
use Rattle.unit_path.proofs.Traced.{way-traced}
use Rattle.unit_path.proofs.trace.pattern_of.Goals as goal

pub loop-t-init : goal.loop-t-init
loop-t-init c =
    let count : length c.args.hours.now - 1 ≡ period_count c.args.terms.now = omega (arith, c.requires.table.count) in
    record {
      end = c.begin-trace.ensures.end ∙ count;
      traced = c.begin-trace.ensures.traced (choices_in c.args.hours.now);
    }

pub loop-t-preserved : goal.loop-t-preserved
loop-t-preserved c = record {
  end = c.follow-trace.ensures.end ∙ c.loop-t.invariant.end;
  traced = subst (λ k. IsTraced (choices_in c.args.hours.now) c.args.unit.now.on0 c.args.first.now k c.follow-trace.result) (sym (add-one c.loop-t.t))
      (c.follow-trace.ensures.traced (choices_in c.args.hours.now) c.args.unit.now.on0 c.args.first.now refl refl c.loop-t.invariant.traced);
}

pub returns : goal.returns
returns c =
    way-traced c.args.terms.now c.args.unit.now c.args.fix.now c.args.hours.now c.args.first.now c.loop-t.t c.loop-t.trace
    (omega (arith, c.loop-t-test.false, c.requires.table.count)) c.loop-t.invariant.end c.requires.table c.requires.first c.loop-t.invariant.traced
