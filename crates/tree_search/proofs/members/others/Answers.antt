-- Each worker is on the instance.
use Rattle.std.proofs.Common.{All, arith, subst, sym}
use Rattle.std.proofs.lemmas.List.Elements.{All-push}
use Rattle.tree_search.specs.inside.Searches.{IsOn}
use Rattle.tree_search.proofs.members.others.Goals as goal

pub loop-preserved : goal.loop-preserved
loop-preserved c =
    let here = IsOn c.args.values.instance.now in (
      omega (arith, c.loop.invariant.0, c.in_ok-push.ensures.len),
      subst (All here) (sym c.in_ok-push.ensures.items) (All-push here c.loop.workers.items c.in_ok-new.field-0 c.loop.invariant.1 c.in_ok-new.ensures),
    )
