-- The prices of each period, and rows that rise.
use Rattle.std.proofs.Common.{◌≤ℤ◌, ◌∙◌, sym, ap, subst, pos, length, All}
use Rattle.std.specs.Int.{w64}
use Rattle.std.proofs.lemmas.Int.{to_z-of_z}
use Rattle.dual_model.specs.Prelude.{AreRising, IsRowWithin}
use Rattle.dispatch_prices.specs.PricedLimits.{up_price, down_price}
use Rattle.dispatch_prices.proofs.RampRows.{rows_within, rows_rising}
use Rattle.dispatch_prices.proofs.table.table_of.Goals as goal

pub new-requires : goal.new-requires
new-requires c =
    let up = up_price c.args.priced.now in
    let down = down_price c.args.priced.now in
    let rows = c.deref-3.ensures.value ∙ c.in_ok-ramps.ensures in
    let own = ap length c.deref.ensures.value ∙ c.in_ok-pi.ensures.count in
    let other = ap length c.deref-2.ensures.value ∙ c.in_ok-mu.ensures.count in
    record {
      scale = subst (λ z. pos 0 ≤ℤ z) (sym (to_z-of_z w64 c.args.k c.ranges.k)) c.requires.scale;
      lengths = other ∙ sym own;
      rows = subst (λ n. All (IsRowWithin c.args.units n) c.deref-3.result.now) (sym own)
          (subst (All (IsRowWithin c.args.units c.args.periods)) (sym rows) (rows_within (up_price c.args.priced.now) (down_price c.args.priced.now) c.args.periods c.args.units));
      rising = subst AreRising (sym rows) (rows_rising (up_price c.args.priced.now) (down_price c.args.priced.now) c.args.periods c.args.units);
    }
