-- Each of the four terms, by the place that was found once.
use Rattle.std.proofs.Common.{arith, sym, subst, lit<, ℤ, List, to_z, of_z, slice_index_or, pos, ◌≤◌, Option, unsigned_abs}
use Rattle.std.specs.Int.{w64}
use Rattle.uc_model.specs.declared.instance.Point.{Point}
use Rattle.uc_model.proofs.Common.{narrow}
use Rattle.dual_model.specs.declared.limits.TheConstants.{MAX_CAP}
use Rattle.dual_model.specs.Prelude.{IsCellTerm}
use Rattle.cost_curves.specs.LowerHull.{IsLowerHull}
use Rattle.period_term.proofs.CornerNumbers.{passed-size}
use Rattle.period_term.proofs.FreedTerms.{freed_bits, of_freed, each_of_four}
use Rattle.period_term.proofs.cell.row_terms.Goals as goal

-- the term of a cap is that of what its bits say
of_cap : (points : List Point) (k a b cap : ℤ) (term : Option ℤ) → unsigned_abs cap ≤ MAX_CAP → IsCellTerm points k a b (to_z w64 (of_z w64 cap)) term
    → IsCellTerm points k a b cap term
of_cap points k a b cap term small = subst (λ z. IsCellTerm points k a b z term) (narrow cap MAX_CAP small (lit< tt))

pub cell_term-requires-clause-cap : goal.cell_term-requires-clause-cap
cell_term-requires-clause-cap c = passed-size (slice_index_or c.args.caps.now 0 (pos 0)) MAX_CAP (c.requires.caps 0 (lit< tt))

pub cell_term-requires-2-clause-cap : goal.cell_term-requires-2-clause-cap
cell_term-requires-2-clause-cap c = passed-size (slice_index_or c.args.caps.now 1 (pos 0)) MAX_CAP (c.requires.caps 1 (lit< tt))

pub cell_term-requires-3-clause-cap : goal.cell_term-requires-3-clause-cap
cell_term-requires-3-clause-cap c = passed-size (slice_index_or c.args.caps.now 2 (pos 0)) MAX_CAP (c.requires.caps 2 (lit< tt))

pub cell_term-requires-4-clause-cap : goal.cell_term-requires-4-clause-cap
cell_term-requires-4-clause-cap c = passed-size (slice_index_or c.args.caps.now 3 (pos 0)) MAX_CAP (c.requires.caps 3 (lit< tt))

pub returns-clause-term : goal.returns-clause-term
returns-clause-term c = λ points i hull inside.
    let prices = c.freed-prices.result in
    let freed = freed_bits c.args.k c.args.a c.args.b prices.k prices.a prices.b c.ranges.k c.ranges.a c.ranges.b c.freed-prices.ensures.freed in
    let whole = subst (λ xs. IsLowerHull points xs) (sym c.corners-corners.ensures.value) hull in
    each_of_four (λ cap term. IsCellTerm points c.args.k c.args.a c.args.b cap term) c.args.caps.now
    c.cell_term.result c.cell_term-2.result c.cell_term-3.result c.cell_term-4.result
    (of_freed points c.args.k c.args.a c.args.b (slice_index_or c.args.caps.now 0 (pos 0)) prices.k prices.a prices.b c.cell_term.result freed
    (λ x y own. of_cap points prices.k x y (slice_index_or c.args.caps.now 0 (pos 0)) c.cell_term.result (c.requires.caps 0 (lit< tt)) (c.cell_term.ensures.term points x y whole own)))
    (of_freed points c.args.k c.args.a c.args.b (slice_index_or c.args.caps.now 1 (pos 0)) prices.k prices.a prices.b c.cell_term-2.result freed
    (λ x y own. of_cap points prices.k x y (slice_index_or c.args.caps.now 1 (pos 0)) c.cell_term-2.result (c.requires.caps 1 (lit< tt)) (c.cell_term-2.ensures.term points x y whole own)))
    (of_freed points c.args.k c.args.a c.args.b (slice_index_or c.args.caps.now 2 (pos 0)) prices.k prices.a prices.b c.cell_term-3.result freed
    (λ x y own. of_cap points prices.k x y (slice_index_or c.args.caps.now 2 (pos 0)) c.cell_term-3.result (c.requires.caps 2 (lit< tt)) (c.cell_term-3.ensures.term points x y whole own)))
    (of_freed points c.args.k c.args.a c.args.b (slice_index_or c.args.caps.now 3 (pos 0)) prices.k prices.a prices.b c.cell_term-4.result freed
    (λ x y own. of_cap points prices.k x y (slice_index_or c.args.caps.now 3 (pos 0)) c.cell_term-4.result (c.requires.caps 3 (lit< tt)) (c.cell_term-4.ensures.term points x y whole own)))
    i inside

pub returns-clause-size : goal.returns-clause-size
returns-clause-size c = grind (arith, c)
