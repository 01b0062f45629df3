-- One period more.
use Rattle.std.proofs.Common.{◌≡◌, ℕ, ◌+◌, ⊎_elim, sym, ap, ◌∙◌, arith}
use Rattle.std.proofs.lemmas.Bool.{cases_eq}
use Rattle.uc_model.specs.Prelude.{commitment_of, on_during}
use Rattle.uc_model.proofs.Common.{during-from}
use Rattle.dispatch_repair.proofs.extreme_patterns.pattern_on.Goals as goal

longer : (first t k : ℕ) → (k ≡ t → ⊥) → on_during first t k ≡ on_during first (t + 1) k
longer first t k apart = grind (arith, apart)

pub loop-t-init : goal.loop-t-init
loop-t-init c = grind (arith, c)

pub loop-t-preserved : goal.loop-t-preserved
loop-t-preserved c = λ k. ⊎_elim
    (λ (here : k ≡ c.loop-t.t).
    ap (commitment_of c.switch_on.new.self) here
    ∙ c.switch_on.ensures.switched
    ∙ sym (during-from c.args.first (c.loop-t.t + 1) c.loop-t.t c.loop-t.auto.t (omega arith))
    ∙ sym (ap (on_during c.args.first (c.loop-t.t + 1)) here))
    (λ (apart : k ≡ c.loop-t.t → ⊥). c.switch_on.ensures.others k apart ∙ c.loop-t.invariant k ∙ longer c.args.first c.loop-t.t k apart)
    (cases_eq k c.loop-t.t)

pub returns : goal.returns
returns c = grind (arith, c)
