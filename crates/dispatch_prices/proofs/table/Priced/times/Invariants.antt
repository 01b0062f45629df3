-- No limit before is the one that is sought.
use Rattle.std.proofs.Common.{◌≡◌, ℕ, ◌<◌, false}
use Rattle.dispatch_rules.specs.Prelude.{limit_of, rule_of, is_same, limit}
use Rattle.dispatch_prices.specs.ReadOff.{limit_in}
use Rattle.dispatch_prices.proofs.table.Priced.times.Given as goal

abbrev pub invariant-loop-i : goal.invariant-loop-i
invariant-loop-i l = (k : ℕ) → k < l.i → is_same (limit_of (limit_in l.self.limits.now k)) (limit (rule_of l.rule) l.unit l.period 0) ≡ false
