-- Amounts of 0 add up to nothing.
use Rattle.std.proofs.Common.{◌≡◌, ◌∙◌, arith, length, refl, sym, subst, ap}
use Rattle.std.proofs.lemmas.List.{with_items_is}
use Rattle.decommitment.specs.inside.Fills.{AreGiven}
use Rattle.decommitment.proofs.Entries.{cleared}
use Rattle.decommitment.proofs.fill.clear.Goals as goal

pub returns : goal.returns
returns c =
    let is = with_items_is c.args.fill.now.amounts c.set_zero.new.amounts (omega (arith, c.set_zero.ensures.length, c.deref_mut.ensures.len)) in
    let count : length c.set_zero.new.amounts ≡ length c.args.fill.now.amounts.items = c.set_zero.ensures.length ∙ ap length c.deref_mut.ensures.value in
    record {
      given = subst (λ z. z) (λ i. AreGiven c.args.instance.now (sym is i) (sym c.no_given-fill.ensures i))
          (cleared c.args.instance.now c.set_zero.new.amounts (count ∙ c.requires.count) (λ n h. c.set_zero.ensures.zero n (omega (arith, h, c.set_zero.ensures.length))));
      level = refl;
      totals = c.no_totals-fill.ensures;
    }
