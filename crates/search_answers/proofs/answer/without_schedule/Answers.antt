-- The root's leaf is the ray's, which is the only table.
use Rattle.std.proofs.Common.{◌≡◌, subst}
use Rattle.branch_tree.specs.declared.tree.Leaf.{Leaf}
use Rattle.search_answers.specs.Answers.{lone_root}
use Rattle.search_answers.proofs.RootsExcluded.{ray_answer}
use Rattle.search_answers.proofs.answer.without_schedule.Goals as goal

pub returns : goal.returns
returns c = λ exact_dispatch budget gap stands dropped.
    rw (c.from_vec.ensures, c.in_ok-push.ensures.items, c.new-tables.ensures.items, c.in_ok-opening_ray.ensures.table, c.from_vec-2.ensures, c.new.ensures.items)
    (ray_answer c.args.exact exact_dispatch c.args.instance.now c.args.n budget gap stands c.in_ok-tree.tree c.in_ok-layout.layout c.requires.lawful c.requires.patterns
    c.requires.unblocked c.requires.ray dropped
    (subst (λ (l : Leaf). c.in_ok-tree.tree ≡ lone_root c.args.instance.now l) c.by_ray.ensures c.in_ok-tree.ensures.tree)
    c.in_ok-tree.ensures.whole c.in_ok-layout.ensures.layout)
