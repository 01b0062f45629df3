-- The root's leaf is the unit's, and no table is used.
use Rattle.std.proofs.Common.{◌≡◌, subst}
use Rattle.branch_tree.specs.declared.tree.Leaf.{Leaf}
use Rattle.search_answers.specs.Answers.{lone_root}
use Rattle.search_answers.proofs.RootsExcluded.{blocked_answer}
use Rattle.search_answers.proofs.answer.without_unit.Goals as goal

pub returns : goal.returns
returns c = λ asked exact_dispatch budget gap kind.
    rw (c.from_vec.ensures, c.new.ensures.items, c.from_vec-2.ensures, c.new-2.ensures.items)
    (blocked_answer c.args.exact asked exact_dispatch c.args.instance.now c.args.g budget gap c.in_ok-tree.tree c.in_ok-layout.layout kind c.requires.patterns
    (subst (λ (l : Leaf). c.in_ok-tree.tree ≡ lone_root c.args.instance.now l) c.by_unit.ensures c.in_ok-tree.ensures.tree)
    c.in_ok-tree.ensures.whole c.in_ok-layout.ensures.layout c.requires.blocked)
