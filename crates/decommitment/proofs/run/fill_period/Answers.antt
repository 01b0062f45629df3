-- A period more is filled.
use Rattle.std.proofs.Common.{arith, ◌≡◌, ◌<◌, ◌++◌, ◌∷◌, [], List, length, subst, sym}
use Rattle.decommitment.specs.DropCommitment.{Pattern}
use Rattle.decommitment.specs.inside.Fills.{IsFill}
use Rattle.decommitment.specs.inside.Runs.{AreFills, Fill, Setting, instance_of, order_of, outputs_before}
use Rattle.decommitment.proofs.Runs.{pushed}
use Rattle.decommitment.proofs.run.fill_period.Goals as goal

-- the fills with one more, which was filled behind them as they were seen
one_more : (setting : Setting) (patterns : List Pattern) (fills seen longer : List Fill) (fill : Fill) → seen ≡ fills → longer ≡ fills ++ fill ∷ []
    → AreFills (instance_of setting) (order_of setting) patterns setting.start.now fills → length fills < (instance_of setting).periods
    → IsFill (instance_of setting) (order_of setting) patterns (length seen) (outputs_before setting.start.now seen (length seen)) fill
    → AreFills (instance_of setting) (order_of setting) patterns setting.start.now longer
one_more setting patterns fills seen longer fill same is are within new =
    subst (AreFills (instance_of setting) (order_of setting) patterns setting.start.now) (sym is)
    (pushed setting.start.now fills fill (instance_of setting) (order_of setting) patterns are within
    (subst (λ xs. IsFill (instance_of setting) (order_of setting) patterns (length xs) (outputs_before setting.start.now xs (length xs)) fill) same new))

pub returns-in_ok-push-in-Filled-clause-fills : goal.returns-in_ok-push-in-Filled-clause-fills
returns-in_ok-push-in-Filled-clause-fills c = grind (arith, one_more, c)

pub returns-in_ok-push-in-None-clause-fills : goal.returns-in_ok-push-in-None-clause-fills
returns-in_ok-push-in-None-clause-fills c = grind (arith, one_more, c)
