-- A row more that comes before is passed; where the first one left doesn't, all have been.
use Rattle.std.proofs.Common.{◌++◌, ◌∷◌, [], List, ap, sym, subst, ◌∙◌, append_assoc}
use Rattle.dual_model.specs.Prelude.{AreRising}
use Rattle.table_list.specs.Changes.{RampRow}
use Rattle.cert_text.specs.inside.Drafts.{LieBefore}
use Rattle.cert_text.proofs.RowSteps.{lie_before_more, rising_behind}
use Rattle.cert_text.proofs.reader.update.pass_before.Goals as goal

pub loop-first-preserved : goal.loop-first-preserved
loop-first-preserved c =
    let before = c.loop-first.invariant in
    let done = c.loop-first.done.items in
    let first = c.in-Some.first in
    let behind = c.in-Some.behind.now in
    let split = c.in-Some.ensures in
    let grown = c.in_ok-push.ensures.items in
    record {
      same = ap (λ (rows : List RampRow). rows ++ behind) grown ∙ append_assoc done (first ∷ []) behind ∙ ap (λ (rows : List RampRow). done ++ rows) (sym split.0) ∙ before.same;
      before = subst (λ (rows : List RampRow). LieBefore rows c.args.row.now) (sym grown) (lie_before_more done first c.args.row.now before.before split.1);
      rising = rising_behind first behind (subst AreRising split.0 before.rising);
    }
