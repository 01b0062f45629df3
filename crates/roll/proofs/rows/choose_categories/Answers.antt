-- One more category; and at the end the pattern is that of the row.
use Rattle.std.proofs.Common.{◌≡◌, ◌≢◌, ℕ, ◌<◌, ◌≤◌, ⊎_elim, sym, subst, ◌∙◌, arith}
use Rattle.std.proofs.lemmas.Bool.{cases_lt}
use Rattle.uc_model.specs.Prelude.{Commitment, commitment_of}
use Rattle.schedule_check.specs.WholeWatts.{category, commitment}
use Rattle.start_costs.specs.Cheapest.{HasLeastCategory}
use Rattle.roll.proofs.rows.choose_categories.Goals as goal

pub loop-t-preserved : goal.loop-t-preserved
loop-t-preserved c = record {
  same = λ k. grind (arith, c, k);
  least = λ k h. ⊎_elim
      (λ (less : k < c.loop-t.t).
      let other : k ≢ c.loop-t.t = λ e. omega (arith, e) in
      subst (λ n. HasLeastCategory c.args.unit.now (commitment_of c.pattern_of-pattern.result) k n) (sym (c.set_category.ensures.others k other))
      (c.loop-t.invariant.least k less))
      (λ (last : c.loop-t.t ≤ k).
      let here : c.loop-t.t ≡ k = omega arith in
      subst (λ i. HasLeastCategory c.args.unit.now (commitment_of c.pattern_of-pattern.result) i (category c.set_category.new.row i)) here
      (subst (λ n. HasLeastCategory c.args.unit.now (commitment_of c.pattern_of-pattern.result) c.loop-t.t n) (sym c.set_category.ensures.own)
      c.start_category-category.ensures))
      (cases_lt k c.loop-t.t);
}

pub returns-clause-least : goal.returns-clause-least
returns-clause-least c = λ t h.
    let same : (k : ℕ) → commitment_of c.pattern_of-pattern.result k ≡ commitment c.loop-t.row k =
    λ k. c.pattern_of-pattern.ensures k ∙ sym (c.loop-t.invariant.same k).on in
    let patterns : commitment_of c.pattern_of-pattern.result ≡ commitment c.loop-t.row = λ i k. same k i in
    subst (λ (on : Commitment). HasLeastCategory c.args.unit.now on t (category c.loop-t.row t)) patterns
    (c.loop-t.invariant.least t (omega (arith, c.loop-t-test.false, h)))
