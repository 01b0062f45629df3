use Rattle.uc_model.specs.Prelude.{printed_denominator}
use Rattle.uc_model.proofs.PrintedCosts.{cost-le-printed, printed_cost-fits, watts-factor}
use Rattle.uc_model.proofs.laws.printed_costs_are_upper_bounds.Goals as goal

pub returns : goal.returns
returns c = record {
  bound = cost-le-printed;
  fits = λ instance printed lawful obeys.
      let factor = watts-factor instance printed in
      printed_cost-fits instance printed (printed_denominator instance printed) factor.0 lawful factor.1 obeys;
}
