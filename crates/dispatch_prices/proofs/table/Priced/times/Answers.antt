-- The limit is found, or isn't there.
use Rattle.std.proofs.Common.{◌≤◌, pos, ◌∙◌, sym, ap, subst, slice_index_or, unsigned_abs, arith}
use Rattle.std.specs.Int.{w64}
use Rattle.std.proofs.lemmas.Int.{to_z-of_z, fits_signed_from_abs}
use Rattle.std.proofs.lemmas.List.{get_or_default}
use Rattle.dispatch_rules.specs.Prelude.{limit_of, rule_of, is_same, limit}
use Rattle.dispatch_rules.specs.declared.limit.LimitAt.{LimitAt}
use Rattle.dispatch_prices.proofs.TimesBy.{times_at, times_none}
use Rattle.dispatch_prices.proofs.table.Priced.times.Goals as goal

pub returns-then-is_at : goal.returns-then-is_at
returns-then-is_at c =
    let z = slice_index_or c.args.self.now.times.now c.loop-i.i (pos 0) in
    let size = c.requires.within c.loop-i.i in
    let same = to_z-of_z w64 (slice_index_or c.args.self.now.times.now c.loop-i.i (pos 0)) (fits_signed_from_abs w64 _ (omega (arith, size))) in
    record {
      size = subst (λ y. unsigned_abs y ≤ 100000000000000) (sym same) size;
      value = same ∙ sym (times_at c.args.self.now.limits.now (λ i. slice_index_or c.args.self.now.times.now i (pos 0)) (limit (rule_of c.args.rule) c.args.unit c.args.period 0)
          c.loop-i.i c.requires.once c.loop-i-test.true
          (ap (λ (x : LimitAt). is_same (limit_of x) (limit (rule_of c.args.rule) c.args.unit c.args.period 0)) (get_or_default c.args.self.now.limits.now c.loop-i.i _ _ c.loop-i-test.true) ∙ sym c.is_at.ensures ∙ c.if-is_at.true));
    }

pub returns-clause-value : goal.returns-clause-value
returns-clause-value c =
    sym (times_none c.args.self.now.limits.now (λ i. slice_index_or c.args.self.now.times.now i (pos 0)) (limit (rule_of c.args.rule) c.args.unit c.args.period 0)
    (λ k h. c.loop-i.invariant k (omega (arith, c.loop-i-test.false))))
