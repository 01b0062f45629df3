-- The schedule that the workers begin with is the caller's.
use Rattle.std.proofs.Common.{◌∙◌, ap}
use Rattle.search_desk.specs.Passes.{OwnBestView}
use Rattle.tree_search.proofs.crowd.gathered.Goals as goal

pub returns-clause-schedule : goal.returns-clause-schedule
returns-clause-schedule g c =
    ap (λ value. value.1.schedule) c.in_ok-shared.ensures.value ∙ c.members-members.ensures.schedule
    ∙ ap (λ (o : OwnBestView). o.schedule) c.split-pass.ensures.left
