-- What the closure keeps is what the filter keeps.
use Rattle.std.proofs.Common.{rules, ℕ, Bool, ap, ◌∙◌, not, ◌==◌, filter}
use Rattle.std.proofs.lemmas.Fn.{filter_same}
use Rattle.search_core.proofs.desk.without.Goals as goal

pub returns : goal.returns
returns c =
    let test : ℕ → Bool = λ ticket. not (ticket == c.args.node) in
    c.from_vec.ensures
    ∙ (filter_same _ test _ (λ x b q h. search rules) _ _ c.retain.ensures.filtered ∙ ap (filter test) c.take_items-items.ensures.items)
