-- What a search answers claims truly, and its certificate has a text.
use Rattle.std.proofs.Common.{◌≡◌, ◌^◌, ◌-◌, ◌<◌, ◌≤◌, ℕ, Bool, false, arith, length, subst, Option, Some, None, ℤ, unsigned_abs, IfSome}
use Rattle.std.proofs.lemmas.List.Elements.{All-weaker}
use Rattle.uc_model.specs.Prelude.{IsLawfulInstance}
use Rattle.dual_model.specs.declared.table.Table.{Table}
use Rattle.dual_model.specs.Prelude.{IsClaimTrue}
use Rattle.dual_model.proofs.Covers.{certificates_claim_truly}
use Rattle.outside.specs.Prelude.{SlotState}
use Rattle.branch_tree.specs.Prelude.{tree_bound, certificate_of, written_tables}
use Rattle.cert_text.specs.TextConditions.{HasWrittenText, IsMoney}
use Rattle.cert_text.proofs.Parts.{found_has_text}
use Rattle.demo_gen.specs.Demo.{demo_instance}
use Rattle.roll.specs.Prelude.{IsNextWindow}
use Rattle.roll.specs.declared.rolled.Rolled.{Rolled}
use Rattle.roll.specs.declared.rolled.Rolled.TheVariants.{Whole, Stopped}
use Rattle.uc_model.proofs.Common.{cost-le-printed}
use Rattle.dual_value.specs.NodeAnswer.{MAX_VALUE}
use Rattle.search_answers.specs.Pivoted.{IsPivotedFound}
use Rattle.search_answers.specs.Writable.{HasFewRows, IsWritable}
use Rattle.workers.specs.Rolling.{IsRolled}
use Rattle.search_answers.specs.SearchResult.{IsSearchResult}
use Rattle.command_line.specs.Command.{Solve}
use Rattle.command_runs.specs.Prelude.{HasInstance}
use Rattle.uc_check.specs.Checking.{IsScheduleTrue}
use Rattle.uc_cli.specs.DemoRun.{Found, IsDemoAnswer}
use Rattle.uc_cli.specs.RollRun.{IsRolledTrue}
use Rattle.uc_cli.specs.Run.{Instance, solve_options, IsAnswer}
use Rattle.uc_cli.proofs.ScheduleTexts.{has_schedule_text}
use Rattle.uc_check.specs.Accepting.{most_rows}
use Rattle.uc_check.proofs.Accepting.{accepted_for}
use Rattle.uc_check.proofs.Verdicts.{schedule_true}
use Rattle.search_machine.specs.declared.limits.TheConstants.{MAX_BUDGET}
use Rattle.uc_cli.proofs.FoundSizes.{found_little}

-- a bound of this size has a text
bound_text : (bound : Option ℤ) → IfSome bound (λ b. unsigned_abs b ≤ MAX_VALUE) → IfSome bound IsMoney
bound_text None size = tt
bound_text (Some b) size = omega (arith, size)

-- so few rows can be counted
countable : (table : Table) → HasFewRows table → length table.ramps < 10 ^ 18
countable table few = omega (arith, few)

text_of : (exact over : Bool) (instance : Instance) (budget gap : ℕ) (found : Found) → IsLawfulInstance instance → IsSearchResult exact instance budget gap found
    → IsWritable over instance found → HasWrittenText (certificate_of instance found)
text_of exact over instance budget gap found lawful result writable =
    grind (arith, found_has_text, has_schedule_text, bound_text, All-weaker, countable, lawful, result, writable)

pub answered : (asked : Solve) (file : SlotState) (instance : Instance) (rounded : ℕ) (found : Found) → IsLawfulInstance instance
    → HasInstance (solve_options asked) file instance rounded → IsSearchResult asked.exact_units instance asked.units asked.gap found
    → IsWritable asked.pivot instance found → IsPivotedFound asked.pivot instance asked.units asked.gap found → asked.units ≤ MAX_BUDGET
    → IsAnswer asked file instance rounded found
answered asked file instance rounded found lawful read result writable pivoted small = record {
  read = read;
  search = result;
  schedule = schedule_true instance (certificate_of instance found) lawful result.truth.certificate;
  claim = certificates_claim_truly instance (certificate_of instance found) lawful result.truth.certificate;
  text = text_of asked.exact_units asked.pivot instance asked.units asked.gap found lawful result writable;
  accepted = λ version text.
      accepted_for (solve_options asked) file instance rounded (certificate_of instance found) version read result.truth.certificate text
      (found_little instance found (omega (arith, result.nodes, small))
      (All-weaker HasFewRows (λ (table : Table). length table.ramps ≤ most_rows) (λ table few. omega (arith, few)) (written_tables found) writable.tables));
  pivoted = pivoted;
}

pub demo_answered : (seed : ℕ) (instance : Instance) (found : Found) → instance ≡ demo_instance seed → IsLawfulInstance instance
    → IsSearchResult false instance 200 1000 found → IsDemoAnswer seed found
demo_answered seed instance found is lawful result = record {
  search = subst (λ i. IsSearchResult false i 200 1000 found) is result;
  schedule = λ written e.
      subst (λ i. IsScheduleTrue i written) is
      (schedule_true instance (certificate_of instance found) lawful result.truth.certificate written e);
  claim = subst (λ i. IsClaimTrue i (tree_bound found.tree)) is
      (certificates_claim_truly instance (certificate_of instance found) lawful result.truth.certificate);
}

-- ---- rolling windows
pub rolled_true : (exact : Bool) (instance : Instance) (budget gap window step : ℕ) (rolled : Rolled) → IsLawfulInstance instance
    → IsRolled exact instance budget gap window step rolled → IsRolledTrue instance rolled
rolled_true exact instance budget gap window step (Whole schedule cost windows) lawful is =
    grind (arith, cost-le-printed, schedule, cost, windows, lawful, is)
rolled_true exact instance budget gap window step (Stopped number from to kept found) lawful is = (
  is.ahead,
  subst (λ len. IsNextWindow instance kept (from - 1) len is.ahead) (omega (arith, is.is_from))
      (subst (λ start. IsNextWindow instance kept start (to - is.start) is.ahead) (omega (arith, is.is_from)) is.next),
  certificates_claim_truly is.ahead (certificate_of is.ahead found) is.lawful is.search.truth.certificate,
)
