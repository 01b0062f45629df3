-- The columns of the next rule lie within the table.
use Rattle.std.proofs.Common.{ap, not, arith}
use Rattle.dispatch_program.specs.Prelude.{bump, is_limit, has_artificial}
use Rattle.dispatch_prices.specs.Readings.{rules_at}
use Rattle.dispatch_prices.proofs.Places.{counted_next}
use Rattle.dispatch_prices.proofs.multipliers.FinalTableau.next_places.Goals as goal

pub more-requires : goal.more-requires
more-requires c =
    let next = counted_next (is_limit (rules_at c.args.self.now)) c.args.i (rules_at c.args.self.now).rules c.requires.rule in
    let counts = ap (λ b. bump (not b)) c.is_equality-equality.ensures in
    omega (arith, next, counts, c.requires.places.slack, c.requires.size.columns, c.columns-columns.ensures)

pub more-requires-2 : goal.more-requires-2
more-requires-2 c =
    let next = counted_next (has_artificial (rules_at c.args.self.now)) c.args.i (rules_at c.args.self.now).rules c.requires.rule in
    let counts = ap bump c.has_artificial-artificial.ensures in
    omega (arith, next, counts, c.requires.places.artificial, c.requires.size.columns, c.columns-columns.ensures)
