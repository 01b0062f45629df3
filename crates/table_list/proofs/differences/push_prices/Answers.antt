-- Each turn adds what is told of its period; past the shorter list there is nothing.
use Rattle.std.proofs.Common.{◌≡◌, ℕ, ◌+◌, ◌<◌, Bool, true, false, cond, List, [], ◌∷◌, length, drop, get_or, refl, ◌++◌, add-one, append-nil, append_assoc, drop-cons, arith, ℤ, pos}
use Rattle.std.proofs.lemmas.Int.{to_z-of_z}
use Rattle.table_list.specs.Changes.{Change, price_changes}
use Rattle.table_list.specs.inside.Steps.{told_price}
use Rattle.table_list.proofs.PriceChanges.{last_price}
use Rattle.table_list.proofs.differences.push_prices.Goals as goal

-- the change of period t, and those behind it
told-or-not : (same : Bool) (change : Change) (rest : List Change) → cond same [] (change ∷ []) ++ rest ≡ cond same rest (change ∷ rest)
told-or-not true change rest = refl
told-or-not false change rest = refl

next_price : (change : ℕ → ℤ → Change) (olds news : List ℤ) (t : ℕ) → t < length olds → t < length news
    → told_price change t (get_or olds t (pos 0)) (get_or news t (pos 0)) ++ price_changes change (t + 1) (drop (t + 1) olds) (drop (t + 1) news)
    ≡ price_changes change t (drop t olds) (drop t news)
next_price change olds news t in_olds in_news = grind (arith, add-one, drop-cons, told-or-not, in_olds, in_news)

pub loop-t-preserved : goal.loop-t-preserved
loop-t-preserved c = grind (arith, to_z-of_z, append_assoc, next_price, c)

pub returns : goal.returns
returns c = grind (arith, append-nil, last_price, c)
