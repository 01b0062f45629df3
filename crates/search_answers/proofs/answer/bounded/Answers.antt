-- The tree, the tables and the log are those that the search left, and the layout is the tree's.
use Rattle.std.proofs.Common.{◌<◌, All, length, ap, subst}
use Rattle.search_answers.proofs.Answered.{searched_answer}
use Rattle.search_answers.proofs.answer.bounded.Goals as goal

pub returns : goal.returns
returns c = λ exact exact_dispatch budget gap stands opening rays units dropped kept best opens priced is pivoted quiet.
    let grown = c.args.grown in
    let layout = c.in_ok-layout.layout in
    let within : All (λ i. i < length grown.tables) layout.tables =
    subst (λ count. All (λ i. i < count) layout.tables) (ap length c.as_slice.ensures) c.in_ok-layout.ensures.within in
    rw c.told-most_on.ensures
    (searched_answer exact exact_dispatch c.args.instance.now stands c.args.most_on opening grown layout budget gap c.requires.lawful c.requires.patterns
    units rays dropped kept best opens priced is pivoted quiet c.in_ok-layout.ensures.layout within)
