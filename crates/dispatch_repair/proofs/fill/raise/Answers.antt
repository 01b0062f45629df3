-- The source rises by what the function gives it, and nothing else changes.
use Rattle.std.proofs.Common.{◌≡◌, ℕ, ap, subst, ◌∙◌, ℤ, ◌+ℤ◌, ◌-ℤ◌, ◌≤ℤ◌, inl, inr, ⊎_elim, w64, to_z, of_z, nat_lt}
use Rattle.std.proofs.lemmas.Int.{to_z-of_z}
use Rattle.std.proofs.lemmas.Bool.{lt-ltb, le-ltb, cond-true, cond-false}
use Rattle.dispatch_repair.specs.Amounts.{amount_at}
use Rattle.dispatch_repair.specs.Prelude.{end_of}
use Rattle.dispatch_repair.proofs.Raising.{is_raise}
use Rattle.dispatch_repair.proofs.fill.raise.Goals as goal

pub returns : goal.returns
returns c =
    is_raise c.args.renewables c.args.ranges.now c.args.segment.now c.args.amounts.now c.args.left.now c.rest.result more _ c.requires.source
    (to_z-of_z w64 c.raised.result (record { sfits = c.raised.type_inv }) ∙ c.raised.ensures ∙ ap (λ z. old +ℤ z) fixed)
    (record {
      up = c.rise-more.ensures.up;
      within = λ up. subst (λ z. (old +ℤ more) ≤ℤ z) ends (c.rise-more.ensures.within up);
      done = ⊎_elim (λ full. inl (subst (λ z. z ≤ℤ (old +ℤ more)) ends full))
          (λ all. inr (all ∙ to_z-of_z w64 c.spare.result (record { sfits = c.spare.type_inv }) ∙ c.spare.ensures.value)) c.rise-more.ensures.done;
    })
    (record {
      need = c.rest.ensures.need ∙ ap (λ z. c.args.left.now.need -ℤ z) fixed;
      free = λ h. c.rest.ensures.room ∙ cond-true (nat_lt s c.args.renewables) _ _ (lt-ltb s c.args.renewables h);
      thermal = λ h. c.rest.ensures.room ∙ cond-false (nat_lt s c.args.renewables) _ _ (le-ltb s c.args.renewables h) ∙ ap (λ z. c.args.left.now.room -ℤ z) fixed;
      left = c.rest.ensures.left;
    })
  where
    s : ℕ
    s = c.args.segment.now.source

    more : ℤ
    more = c.rise-more.result

    old : ℤ
    old = amount_at c.args.amounts.now s

    fixed : to_z w64 (of_z w64 more) ≡ more
    fixed = to_z-of_z w64 more (record { sfits = c.rise-more.type_inv })

    ends : to_z w64 (of_z w64 c.end-end.result) ≡ end_of c.args.ranges.now c.args.segment.now
    ends = to_z-of_z w64 c.end-end.result (record { sfits = c.end-end.type_inv }) ∙ c.end-end.ensures
