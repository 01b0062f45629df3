-- An equality has an artificial column, before that of the sum.
use Rattle.std.proofs.Common.{arith}
use Rattle.std.proofs.lemmas.Bool.{or_left}
use Rattle.dispatch_program.specs.Prelude.{is_negated}
use Rattle.dispatch_prices.specs.Readings.{rules_at}
use Rattle.dispatch_prices.proofs.Places.{artificial_within}
use Rattle.dispatch_prices.proofs.multipliers.FinalTableau.demand_multiplier.Goals as goal

pub number-requires-clause-column : goal.number-requires-clause-column
number-requires-clause-column c =
    let p = rules_at c.args.self.now in
    let within = artificial_within (rules_at c.args.self.now) c.args.i c.requires.rule (or_left _ (is_negated (rules_at c.args.self.now) c.args.i) c.requires.equality) in
    omega (arith, within, c.requires.size.columns, c.requires.place)
