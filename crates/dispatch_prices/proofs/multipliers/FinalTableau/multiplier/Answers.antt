-- A rule that is no equality has a slack column.
use Rattle.std.proofs.Common.{ap, sym, ◌∙◌, not, arith}
use Rattle.dispatch_prices.specs.Readings.{rules_at}
use Rattle.dispatch_prices.proofs.Places.{slack_within}
use Rattle.dispatch_prices.proofs.multipliers.FinalTableau.multiplier.Goals as goal

pub number-requires-clause-column : goal.number-requires-clause-column
number-requires-clause-column c =
    let within = slack_within (rules_at c.args.self.now) c.args.i c.requires.rule (ap not (sym c.is_equality.ensures ∙ c.if-is_equality.false)) in
    omega (arith, within, c.requires.size.columns, c.requires.places.slack)
