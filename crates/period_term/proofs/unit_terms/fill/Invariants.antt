-- The prices and the terms of the periods so far.
use Rattle.dual_model.specs.Prelude.{ArePricesOf, AreTermsOfRows}
use Rattle.period_term.proofs.unit_terms.fill.Given as goal

abbrev pub invariant-loop-t : goal.invariant-loop-t
invariant-loop-t l = ArePricesOf l.rows l.t l.pi × AreTermsOfRows l.unit l.k l.rows l.t l.terms
