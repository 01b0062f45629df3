-- What a search begins with, and how it ends where the opening's schedule closes it.
use Rattle.std.proofs.Common.{◌≡◌, ◌∙◌, ℕ, ◌≤◌, Bool, true, false, arith, subst, sym, ℤ, pos, ◌<ℤ◌, Option, Some}
use Rattle.uc_model.specs.Prelude.{IsLawfulInstance}
use Rattle.uc_model.specs.declared.schedule.Printed.{Printed}
use Rattle.uc_model.specs.declared.tolerance.TheConstants.{WHOLE_GAP}
use Rattle.uc_model.proofs.Common.{IsFloor-int_div_euclid}
use Rattle.branch_tree.specs.Prelude.{is_schedule_within}
use Rattle.search_machine.specs.declared.limits.TheConstants.{MAX_BUDGET}
use Rattle.search_machine.specs.Prelude.{bound_of}
use Rattle.book.specs.Prelude.{BookView, Opening, IsTrueOpening}
use Rattle.book.specs.BookView.{opened}
use Rattle.opening.specs.RootTables.{IsPricedOf}
use Rattle.search_desk.specs.Best.{cost_of}
use Rattle.closing_pass.specs.Closings.{IsEnded}
use Rattle.uc_model.specs.declared.instance.Instance.{Instance}
use Rattle.opening.specs.declared.root_tables.Priced.{Priced}
use Rattle.tree_search.specs.inside.Searches.{opening_by}
use Rattle.search_desk.proofs.Scale.{million}
use Rattle.search_desk.proofs.Kept.{kept_opened}

-- the opening's table with its bound
pub true_opening : (instance : Instance) (priced : Priced) (budget gap : ℕ) → IsLawfulInstance instance → budget ≤ MAX_BUDGET
    → gap ≤ WHOLE_GAP → IsPricedOf instance priced → IsTrueOpening (opening_by instance priced budget gap)
true_opening instance priced budget gap lawful few whole is =
    let positive : pos 0 <ℤ priced.table.k = subst (λ k. pos 0 <ℤ k) (sym is.scale) million in
    record {
      instance = lawful;
      budget = few;
      gap = whole;
      table = is.valued.lawful;
      scale = positive;
      bound = record {
        value = priced.value;
        is_value = is.valued.is_value;
        quotient = IsFloor-int_div_euclid priced.value priced.table.k positive;
      };
    }

-- no claim is made where the schedule is within the gap
pub opened_ended : (exact : Bool) (opening : Opening) (best : Option (Printed × ℤ)) → IsTrueOpening opening
    → is_schedule_within best (Some opening.value) opening.gap ≡ true → IsEnded exact opening (opened opening) best
opened_ended exact opening best begun closed = record {
  limit = opening.budget;
  kept = kept_opened exact opening (cost_of best) begun opening.budget;
  spent = record {
    within = omega arith;
    spent = λ some unclosed. let differ : true ≡ false = sym closed ∙ unclosed in absurd (cc);
  };
}

-- the same by what the opening found
pub closed_ended : (exact : Bool) (opening : Opening) (book : BookView) (instance : Instance) (priced : Priced) (budget gap : ℕ) (best : Option (Printed × ℤ))
    → opening ≡ opening_by instance priced budget gap → IsLawfulInstance instance → budget ≤ MAX_BUDGET → gap ≤ WHOLE_GAP → IsPricedOf instance priced
    → book ≡ opened opening → is_schedule_within best (Some (bound_of priced.value priced.table.k)) gap ≡ true → IsEnded exact opening book best
closed_ended exact opening book instance priced budget gap best of lawful few whole is new closed =
    let own = opening_by instance priced budget gap in
    let ended = opened_ended exact own best (true_opening instance priced budget gap lawful few whole is) closed in
    subst (λ b. IsEnded exact opening b best) (sym new) (subst (λ o. IsEnded exact o (opened o) best) (sym of) ended)
