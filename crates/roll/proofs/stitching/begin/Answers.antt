-- Nothing is kept yet.
use Rattle.std.proofs.Common.{length, sym, subst, refl, ◌∙◌}
use Rattle.roll.specs.Prelude.{Printed}
use Rattle.roll.specs.inside.Joined.{AreEmpty}
use Rattle.roll.proofs.StitchedParts.{nothing_kept}
use Rattle.roll.proofs.stitching.begin.Goals as goal

pub returns : goal.returns
returns c =
    let own : Printed = record {
      thermal = c.from_vec.result;
      renewable = c.from_vec-2.result;
      shed = c.from_vec-3.result;
      short = c.from_vec-4.result;
      denominator = 1;
    } in
    nothing_kept c.args.instance.now own
    (subst (λ units. AreEmpty (length units) c.from_vec.result) c.as_slice.ensures
    (subst (AreEmpty (length c.as_slice.result.now)) (sym c.from_vec.ensures) c.in_ok-thermal.ensures))
    (subst (λ units. AreEmpty (length units) c.from_vec-2.result) c.as_slice-2.ensures
    (subst (AreEmpty (length c.as_slice-2.result.now)) (sym c.from_vec-2.ensures) c.in_ok-renewable.ensures))
    (c.from_vec-3.ensures ∙ c.new.ensures.items)
    (c.from_vec-4.ensures ∙ c.new-2.ensures.items)
    refl
