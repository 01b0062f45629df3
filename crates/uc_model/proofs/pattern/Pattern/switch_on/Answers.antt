-- The word of the period has its bit set, and every other bit as it was.
use Rattle.std.proofs.Common.{◌≢◌, ◌<◌, ◌≤◌, ◌-◌, ⊎_elim, sym, ap, ◌∙◌, arith, ◌==◌}
use Rattle.std.specs.Int.{w64, w128}
use Rattle.std.proofs.lemmas.Bool.{cases_lt, eq-eqb}
use Rattle.std.proofs.lemmas.Nat.Bits.{bit_at_set_same, bit_at_set_other}
use Rattle.uc_model.proofs.PatternBits.{commitment-low, commitment-high}
use Rattle.uc_model.proofs.pattern.Pattern.switch_on.Goals as goal

pub returns-then-period-lt-LOW_PERIODS-clause-switched : goal.returns-then-period-lt-LOW_PERIODS-clause-switched
returns-then-period-lt-LOW_PERIODS-clause-switched c =
    commitment-low _ _ c.if-period-lt-LOW_PERIODS.true
    ∙ eq-eqb _ 1 (bit_at_set_same w128 c.args.self.now.low c.args.period c.if-period-lt-LOW_PERIODS.true)

pub returns-then-period-lt-LOW_PERIODS-clause-others : goal.returns-then-period-lt-LOW_PERIODS-clause-others
returns-then-period-lt-LOW_PERIODS-clause-others c = λ t apart.
    ⊎_elim
    (λ (low : t < 128).
    commitment-low _ t low
    ∙ ap (λ b. b == 1) (bit_at_set_other w128 c.args.self.now.low c.args.period c.if-period-lt-LOW_PERIODS.true t apart)
    ∙ sym (commitment-low _ t low))
    (λ (high : 128 ≤ t). commitment-high _ t high ∙ sym (commitment-high _ t high))
    (cases_lt t 128)

pub returns-else-period-lt-LOW_PERIODS-clause-switched : goal.returns-else-period-lt-LOW_PERIODS-clause-switched
returns-else-period-lt-LOW_PERIODS-clause-switched c =
    commitment-high _ _ c.if-period-lt-LOW_PERIODS.false
    ∙ eq-eqb _ 1 (bit_at_set_same w64 c.args.self.now.high (c.args.period - 128) (omega arith))

pub returns-else-period-lt-LOW_PERIODS-clause-others : goal.returns-else-period-lt-LOW_PERIODS-clause-others
returns-else-period-lt-LOW_PERIODS-clause-others c = λ t apart.
    ⊎_elim
    (λ (low : t < 128). commitment-low _ t low ∙ sym (commitment-low _ t low))
    (λ (high : 128 ≤ t).
    let elsewhere : t - 128 ≢ c.args.period - 128 = omega arith in
    commitment-high _ t high
    ∙ ap (λ b. b == 1) (bit_at_set_other w64 c.args.self.now.high (c.args.period - 128) (omega arith) (t - 128) elsewhere)
    ∙ sym (commitment-high _ t high))
    (cases_lt t 128)
