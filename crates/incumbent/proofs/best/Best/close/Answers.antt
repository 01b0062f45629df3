use Rattle.std.proofs.Common.{◌≡◌, ◌≤◌, sym, ap, ◌∙◌, arith}
use Rattle.incumbent.specs.Words.{cost_of}
use Rattle.incumbent.specs.Passes.{Known, Incumbent}
use Rattle.incumbent.proofs.Steps.{ends}
use Rattle.incumbent.proofs.best.Best.close.Goals as goal

-- no slot was made
pub free-requires : goal.free-requires
free-requires c k below = absurd (omega (arith, c.close_with-closed.ensures.counts.1, c.self.invariant.1))

-- the word at the end is what the pass published
last_word : (c : goal.After-cost_of) → (c.word-word.result ≡ c.pass.inside.seat.me.0.mine) × (c.word-word.result ≤ c.pass.inside.seat.me.0.seen)
last_word c =
    let all = ap (λ (k : Known). k.parts) c.pass.view_is ∙ (c.requires.whole ∙ sym (ap (λ (b : Incumbent). b.parts) c.self.view_is)) in
    ends _ _ _ _ _ all c.pass.invariant.mine c.pass.invariant.parts c.close_with-closed.ensures.values.2 _ c.word-word.ensures

pub returns-clause-mine : goal.returns-clause-mine
returns-clause-mine c =
    c.cost_of.ensures ∙ (ap cost_of (last_word c).0 ∙ ap (λ (k : Known). k.mine) c.pass.view_is)
