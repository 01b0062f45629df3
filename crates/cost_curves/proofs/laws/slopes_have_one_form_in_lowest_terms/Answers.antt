use Rattle.cost_curves.proofs.LowestTerms.{lowest_exists, lowest_unique, denominator-dvd}
use Rattle.cost_curves.proofs.laws.slopes_have_one_form_in_lowest_terms.Goals as goal

pub returns : goal.returns
returns c = record { exists = lowest_exists; unique = lowest_unique; whole = denominator-dvd }
