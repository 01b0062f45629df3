-- The runs that fall stand in front.
use Rattle.std.proofs.Common.{take, sym, subst, pos}
use Rattle.step_functions.specs.Runs.{steps_of}
use Rattle.step_functions.specs.inside.Edits.{AreBelow}
use Rattle.step_functions.specs.inside.Kept.{AreRising, HaveSteps}
use Rattle.step_functions.proofs.RisingRuns.{runs-below}
use Rattle.step_functions.proofs.edits.spread.Goals as goal

pub returns-clause-spread : goal.returns-clause-spread
returns-clause-spread c =
    let n = c.runs_below-falling.result in
    let same = c.deref.ensures.value in
    record {
      before = steps_of (take n c.args.runs.now.items);
      falling =
          subst (λ xs. AreBelow xs (pos 0) (steps_of (take n xs))) same
          (runs-below c.deref.result.now n (pos 0) (subst HaveSteps (sym same) c.requires.lengths) (subst AreRising (sym same) c.requires.rising)
          c.runs_below-falling.ensures.within c.runs_below-falling.ensures.below c.runs_below-falling.ensures.next);
      levelled = c.insert_level.ensures.level;
    }
