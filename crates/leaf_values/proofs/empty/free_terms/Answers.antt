-- Prices of 0 are lawful.
use Rattle.std.proofs.Common.{◌≡◌, ℕ, ◌<◌, List, length, replicate, ◌∙◌, arith, rules, ℤ, pos}
use Rattle.std.proofs.lemmas.List.{get_or-replicate, length-replicate}
use Rattle.dual_model.specs.Prelude.{IsLawfulRow, row_at}
use Rattle.leaf_values.proofs.empty.free_terms.Goals as goal

free_rows : (n : ℕ) (rows : List (ℤ × ℤ × ℤ)) → rows ≡ replicate n (pos 0, pos 0, pos 0) → (t : ℕ) → t < length rows → IsLawfulRow (row_at rows t)
free_rows n rows zeros t h = grind (arith, length-replicate, get_or-replicate, zeros, h)

pub terms-requires-clause-rows : goal.terms-requires-clause-rows
terms-requires-clause-rows c =
    let zeros : c.in_ok-rows.rows.items ≡ replicate c.args.periods (pos 0, pos 0, pos 0) = search rules in
    free_rows c.args.periods c.deref.result.now (c.deref.ensures.value ∙ zeros)
