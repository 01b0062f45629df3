-- One period more.
use Rattle.std.proofs.Common.{◌≡◌, ℕ, ◌+◌, ◌<◌, ◌≢◌, ⊎_elim, Bool, List, [], length, arith, sym, subst, lit<, to_z, of_z, ℤ, get_or-set_other, get_or-set_same, None, slice_index_or, slice_set, Option}
use Rattle.std.specs.Int.{w64}
use Rattle.std.proofs.lemmas.Int.{to_z-of_z}
use Rattle.uc_model.specs.declared.instance.Thermal.{Thermal}
use Rattle.dual_model.specs.declared.limits.TheConstants.{MAX_UNIT_PRICE}
use Rattle.uc_model.specs.Prelude.{place}
use Rattle.dual_model.specs.Prelude.{row_at, ArePricesOf, AreTermsOfRows, IsTermOfRow}
use Rattle.uc_model.proofs.Sizes.{wide}
use Rattle.period_term.proofs.unit_terms.fill.Goals as goal

more_prices : (rows : List (ℤ × ℤ × ℤ)) (t : ℕ) (prices : List ℤ) (v : ℤ) → t < length prices → v ≡ (row_at rows t).2
    → ArePricesOf rows t prices → ArePricesOf rows (t + 1) (slice_set prices t v)
more_prices rows t prices v inside is before i h =
    grind (arith, get_or-set_other, slice_index_or, slice_set, get_or-set_same, inside, is, before, i, h)

more_terms : (unit : Thermal) (k : ℤ) (rows : List (ℤ × ℤ × ℤ)) (t : ℕ) (terms : List (List (Option ℤ))) (row : List (Option ℤ)) → t < length terms
    → ((start stop : Bool) → IsTermOfRow (length rows) unit k (row_at rows t) t start stop (slice_index_or row (place start stop) None))
    → AreTermsOfRows unit k rows t terms → AreTermsOfRows unit k rows (t + 1) (slice_set terms t row)
more_terms unit k rows t terms row inside is before i start stop h =
    ⊎_elim
    (λ (earlier : i < t). let other : i ≢ t = omega arith in rw get_or-set_other (before i start stop earlier))
    (λ (here : i ≡ t).
    subst (λ j. IsTermOfRow (length rows) unit k (row_at rows j) j start stop (slice_index_or (slice_index_or (slice_set terms t row) j []) (place start stop) None))
    (sym here) (rw get_or-set_same (is start stop)))
    (grind arith)

pub loop-t-preserved : goal.loop-t-preserved
loop-t-preserved c = (
  more_prices c.args.rows.now c.loop-t.t c.loop-t.pi _ (omega arith)
      (wide (row_at c.args.rows.now c.loop-t.t).2 MAX_UNIT_PRICE (c.requires.rows c.loop-t.t c.loop-t-test.true).demand (lit< tt))
      c.loop-t.invariant.0,
  more_terms c.args.unit.now (to_z w64 (of_z w64 c.args.k)) c.args.rows.now c.loop-t.t c.loop-t.terms c.period_terms.result (omega arith)
      c.period_terms.ensures c.loop-t.invariant.1,
)

pub returns-clause-terms : goal.returns-clause-terms
returns-clause-terms c = grind (arith, to_z-of_z, c)
