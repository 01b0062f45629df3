use Rattle.std.proofs.Common.{rules, w64, Some, ap, ◌∙◌}
use Rattle.std.proofs.lemmas.Int.{to_z-of_z}
use Rattle.incumbent.proofs.Orders.{published_pass, published_known}
use Rattle.incumbent.proofs.Steps.{publishes}
use Rattle.incumbent.proofs.best.Best.publish.Goals as goal

pub fetch_min-found-requires : goal.fetch_min-found-requires
fetch_min-found-requires c = (search rules, search rules, publishes _ _ _ _ _ c.word_of-word.ensures.word c.pass.invariant.parts)

pub invariant_of-pass : goal.invariant_of-pass
invariant_of-pass c =
    let told = c.fetch_min-found.ensures.2 in published_pass _ _ _ _ c.pass.invariant c.word_of-word.ensures.word told.0 told.1

pub returns-clause-pass : goal.returns-clause-pass
returns-clause-pass c =
    let told = c.fetch_min-found.ensures.2 in
    published_known _ _ _ _ _ _ _ c.args.cost c.fetch_min-found.ensures.0 c.pass.view_is c.pass.invariant
    c.word_of-word.ensures.word (c.word_of-word.ensures.cost ∙ ap (λ z. Some z) (to_z-of_z w64 c.args.cost c.ranges.cost)) told.0 told.1
