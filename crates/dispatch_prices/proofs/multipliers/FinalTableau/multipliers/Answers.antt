-- One rule more.
use Rattle.std.proofs.Common.{◌+◌, [], ◌∷◌, ◌++◌, below_more, sym, subst, arith}
use Rattle.std.specs.Int.{w64}
use Rattle.std.proofs.lemmas.Int.{to_z-of_z, fits_signed_from_abs}
use Rattle.pivot_run.specs.Prelude.{IsNarrow, row_at}
use Rattle.dispatch_prices.specs.ReadOff.{AreMultipliers, RuleForms}
use Rattle.dispatch_prices.specs.Readings.{rules_at}
use Rattle.dispatch_prices.proofs.MultiplierList.{multipliers_more}
use Rattle.dispatch_prices.proofs.multipliers.FinalTableau.multipliers.Goals as goal

pub loop-i-preserved : goal.loop-i-preserved
loop-i-preserved c =
    let end = c.args.self.now in
    let row = row_at c.args.self.now.table.now.rows c.args.o in
    record {
      times = subst (AreMultipliers (rules_at end) end.limits.now (row_at c.args.self.now.table.now.rows c.args.o) (c.loop-i.i + 1)) (sym c.in_ok-push.ensures.items)
          (subst (λ z. AreMultipliers (rules_at end) end.limits.now (row_at c.args.self.now.table.now.rows c.args.o) (c.loop-i.i + 1) (c.loop-i.times.items ++ z ∷ []))
          (sym (to_z-of_z w64 c.in_ok-time.time (fits_signed_from_abs w64 c.in_ok-time.time (omega (arith, c.in_ok-time.ensures.is.within)))))
          (multipliers_more (rules_at end) end.limits.now (row_at c.args.self.now.table.now.rows c.args.o) c.loop-i.i c.loop-i.times.items c.in_ok-time.time c.loop-i.invariant.times c.in_ok-time.ensures.is));
      narrow = below_more (λ k. IsNarrow (RuleForms (rules_at c.args.self.now) (row_at c.args.self.now.table.now.rows c.args.o) k)) c.loop-i.i c.loop-i.invariant.narrow c.in_ok-time.ensures.narrow;
      places = c.next_places-places.ensures;
    }

pub returns-clause-narrow : goal.returns-clause-narrow
returns-clause-narrow c = λ a b forms. c.loop-i.invariant.narrow forms.0 (omega (arith, forms.1.0, c.loop-i-test.false)) a b forms.1.1
