-- The lists that were filled make the terms.
use Rattle.std.proofs.Common.{◌≡◌, sym, subst, to_z, of_z, length, arith}
use Rattle.std.specs.Int.{w64}
use Rattle.std.proofs.lemmas.Int.{to_z-of_z}
use Rattle.std.proofs.lemmas.Grind.{common_steps}
use Rattle.dual_model.specs.Prelude.{AreSizedTerms, AreTermsFor, AreTermsOfRows}
use Rattle.dual_model.proofs.TermLists.{made, terms_for, sized_for, terms_of}
use Rattle.period_term.proofs.unit_terms.terms.Goals as goal

prices_is : (c : goal.After-from_vec-2) → c.from_vec.result ≡ c.fill.new.pi
prices_is c = grind (arith, common_steps)

terms_is : (c : goal.After-from_vec-2) → c.from_vec-2.result ≡ c.fill.new.terms
terms_is c = grind (arith, common_steps)

-- the terms that are returned
made_is : (c : goal.After-from_vec-2)
    → made (to_z w64 (of_z w64 c.args.k)) c.from_vec.result c.from_vec-2.result ≡ made c.args.k c.fill.new.pi c.fill.new.terms
made_is c = λ i. made (to_z-of_z w64 c.args.k c.ranges.k i) (prices_is c i) (terms_is c i)

price_count : (c : goal.After-from_vec-2) → length c.fill.new.pi ≡ length c.args.rows.now
price_count c = omega (arith, c.in_ok-pi.ensures.len)

term_count : (c : goal.After-from_vec-2) → length c.fill.new.terms ≡ length c.args.rows.now
term_count c = omega (arith, c.in_ok-terms.ensures.len)

filled_terms : (c : goal.After-from_vec-2) → AreTermsOfRows c.args.unit.now c.args.k c.args.rows.now (length c.args.rows.now) c.fill.new.terms
filled_terms c = grind (arith, to_z-of_z)

pub returns-clause-terms : goal.returns-clause-terms
returns-clause-terms c =
    subst (λ terms. AreTermsFor c.args.unit.now c.args.k c.args.rows.now terms) (sym (made_is c))
    (terms_for c.args.unit.now c.args.k c.args.rows.now c.fill.new.pi c.fill.new.terms (price_count c) (term_count c) c.fill.ensures.prices (filled_terms c))

pub returns-clause-sized : goal.returns-clause-sized
returns-clause-sized c =
    subst (λ terms. AreSizedTerms c.args.unit.now terms) (sym (made_is c))
    (sized_for c.args.unit.now c.args.k c.args.rows.now c.fill.new.pi c.fill.new.terms c.requires.scale c.requires.periods c.requires.rows
    (price_count c) (term_count c) c.fill.ensures.prices (filled_terms c))

pub returns-clause-at_table : goal.returns-clause-at_table
returns-clause-at_table c = λ instance table g same scale rows_of.
    terms_of instance table g c.args.unit.now c.args.k c.args.rows.now _ same scale rows_of (returns-clause-terms c)
