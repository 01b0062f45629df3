-- What is answered after a search over the tree: what its leaves store, the best schedule, and what is told of the most-on commitment.
use Rattle.std.proofs.Common.{◌≡◌, ◌∙◌, ⊎_elim, Bool, ℕ, ◌<◌, All, List, [], length, refl, ap, sym, subst, arith, ℤ, pos, ◌≤ℤ◌, ◌<ℤ◌, Some, Option, None, IfSome, true, false}
use Rattle.std.proofs.lemmas.Bool.{false≢true}
use Rattle.std.proofs.lemmas.List.Elements.{All-weaker}
use Rattle.uc_model.specs.Prelude.{IsLawfulInstance}
use Rattle.uc_model.proofs.Common.{IsFloor-greatest, IsFloor-int_div_euclid, le_refl, le_trans, linear}
use Rattle.dual_model.specs.Prelude.{ReachesBoundOf, IsNodeValue, ZERO_SCALE, zero_table, IsLawfulTable, root, HasEachPattern}
use Rattle.branch_tree.specs.Prelude.{IsLayoutOf, written_tables, is_schedule_within, AtMost, tree_bound, tree_of, IsTrueFound, used_tables}
use Rattle.branch_tree.specs.declared.layout.Layout.{Layout}
use Rattle.pivot_closing.proofs.Closing.{closed_statuses, pivoted_searches_close}
use Rattle.search_machine.specs.declared.stored.Stored.{Stored}
use Rattle.search_machine.specs.Prelude.{bound_of}
use Rattle.branch_tree.specs.declared.found.Found.{Found}
use Rattle.uc_model.specs.declared.instance.Instance.{Instance}
use Rattle.dual_model.specs.declared.table.Table.{Table}
use Rattle.search_answers.specs.Writable.{HasFewRows}
use Rattle.decommitment.specs.DropCommitment.{Dispatched}
use Rattle.decommitment.specs.MostOnStuck.{TellsMostOn}
use Rattle.opening.specs.Blocked.{HasNoBlockedUnit}
use Rattle.opening.specs.Rays.{HasNoRay}
use Rattle.opening.specs.RootTables.{IsGreaterTable, IsPricedOf}
use Rattle.search_answers.specs.Opening.{IsRootTable}
use Rattle.uc_model.specs.declared.schedule.Printed.{Printed}
use Rattle.search_answers.specs.SearchResult.{IsBoundOpened, IsNoDearer}
use Rattle.decommitment.specs.declared.pass.Standing.TheVariants as standing
use Rattle.uc_model.specs.declared.stuck.Stuck.{Stuck}
use Rattle.search_answers.specs.Answers.{IsAnswerOf, IsQuiet, told_by}
use Rattle.search_desk.specs.declared.grown.Grown.{Grown}
use Rattle.branch_tree.specs.declared.found.Entry.{Entry}
use Rattle.opening.specs.declared.root_tables.Priced.{Priced}
use Rattle.search_desk.specs.Grown.{IsGrown, IsPivotedGrown}
use Rattle.search_answers.specs.Starts.{IsFirstBest}
use Rattle.decommitment.specs.Standings.{IsDropped, KeepsMostOn, ending_of}
use Rattle.decommitment.specs.declared.pass.Standing.{Standing}
use Rattle.search_answers.specs.Best.{IsBest, kept_stuck}
use Rattle.search_answers.proofs.FewRows.{few_rows}
use Rattle.search_answers.proofs.OwnValues.{bound_small, least_above, least_small}
use Rattle.opening.proofs.Blocked.{not_first}
use Rattle.search_desk.proofs.Scale.{million}
use Rattle.search_answers.proofs.WrittenTables.{certificate_holds, written_lawful}

-- ---- what is told of the most-on commitment
tells_most_on : (instance : Instance) (bound : Option ℤ) (stands : Standing) (best : Option (Printed × ℤ)) → KeepsMostOn instance stands
    → IsNoDearer best (ending_of stands) → TellsMostOn instance best bound (told_by bound best (kept_stuck stands))
tells_most_on instance None stands None kept no_dearer = refl
tells_most_on instance None stands (Some priced) kept no_dearer = refl
tells_most_on instance (Some bound) stands (Some priced) kept no_dearer = refl
tells_most_on instance (Some bound) (standing.Dispatched printed cost) None kept no_dearer = absurd no_dearer
tells_most_on instance (Some bound) (standing.Stuck period most_on) None kept no_dearer = kept

-- ---- the bound
-- a greater value at the same scale has a bound no less
bound_rises : (v w k : ℤ) → pos 0 <ℤ k → v ≤ℤ w → bound_of v k ≤ℤ bound_of w k
bound_rises v w k scale le =
    let low = IsFloor-int_div_euclid v k scale in
    IsFloor-greatest w k (bound_of w k) (bound_of v k) scale (IsFloor-int_div_euclid w k scale) (le_trans _ _ _ low.below le)

reaches : (instance : Instance) (table : Table) (v least bound : ℤ) → IsNodeValue instance root table v → pos 0 <ℤ table.k
    → bound_of v table.k ≤ℤ least → least ≤ℤ bound → ReachesBoundOf false instance root table bound
reaches instance table v least bound value scale first rest = record {
  bound = bound_of v table.k;
  is_bound = record { value = v; is_value = value; quotient = IsFloor-int_div_euclid v table.k scale };
  reached = le_trans _ _ _ first rest;
}

-- the opening's table reaches the bound of the table of no prices, and that of the marginal prices where there are any
reaches_both : (instance : Instance) (printed : Printed) (opening : Priced) (bound : ℤ) → IsGreaterTable instance printed opening.table opening.value
    → IsPricedOf instance opening → bound_of opening.value opening.table.k ≤ℤ bound → IsBoundOpened instance (Dispatched printed (pos 0)) bound
reaches_both instance printed opening bound greater priced above =
    let scale : opening.table.k ≡ ZERO_SCALE = priced.scale in
    let first : bound_of opening.value ZERO_SCALE ≤ℤ bound = subst (λ k. bound_of opening.value k ≤ℤ bound) scale above in
    let marginal_scale : greater.marginal.k ≡ ZERO_SCALE = greater.is_marginal.scale in
    let known : (greater.at_zero ≤ℤ opening.value) × (greater.at_marginal ≤ℤ opening.value) = ⊎_elim
    (λ more. (subst (λ v. greater.at_zero ≤ℤ v) (sym more.2) (omega (arith, linear, more.0)), subst (λ v. greater.at_marginal ≤ℤ v) (sym more.2) (le_refl greater.at_marginal)))
    (λ less. (subst (λ v. greater.at_zero ≤ℤ v) (sym less.2) (le_refl greater.at_zero), subst (λ v. greater.at_marginal ≤ℤ v) (sym less.2) less.0))
    greater.taken in
    record {
      unpriced = reaches instance (zero_table instance) greater.at_zero (bound_of opening.value ZERO_SCALE) bound greater.is_at_zero million
          (bound_rises greater.at_zero opening.value ZERO_SCALE million known.0) first;
      marginal = record {
        table = greater.marginal;
        is_marginal = greater.is_marginal;
        reached = reaches instance greater.marginal greater.at_marginal (bound_of opening.value ZERO_SCALE) bound greater.is_at_marginal
            (subst (λ k. pos 0 <ℤ k) (sym marginal_scale) million)
            (subst (λ k. bound_of greater.at_marginal k ≤ℤ bound_of opening.value ZERO_SCALE) (sym marginal_scale)
            (bound_rises greater.at_marginal opening.value ZERO_SCALE million known.1)) first;
      };
    }

reaches_opening : (instance : Instance) (stands : Standing) (opening : Priced) (bound : ℤ)
    → IsRootTable instance (ending_of stands) opening.table opening.value → IsPricedOf instance opening
    → bound_of opening.value opening.table.k ≤ℤ bound → IsBoundOpened instance (ending_of stands) bound
reaches_opening instance (standing.Dispatched printed cost) opening bound table priced above =
    let both = reaches_both instance printed opening bound table priced above in
    record { unpriced = both.unpriced; marginal = both.marginal }
reaches_opening instance (standing.Stuck period most_on) opening bound table priced above =
    grind (arith, linear, Stuck, period, most_on, priced, above)

-- ---- how often was evaluated
-- where the drop commitment's schedule is within the gap nothing is, since the search begins with it
pub opening_quiet : (stands : Standing) (best : Option (Printed × ℤ)) (opening : Priced) (gap : ℕ) (log : List Entry) → IsFirstBest stands best
    → (is_schedule_within best (Some (bound_of opening.value opening.table.k)) gap ≡ true → log ≡ [])
    → IsQuiet (ending_of stands) opening gap log
opening_quiet (standing.Dispatched printed cost) best opening gap log same quiet closed =
    quiet (ap (λ (b : Option (Printed × ℤ)). is_schedule_within b (Some (bound_of opening.value opening.table.k)) gap) same ∙ closed)
opening_quiet (standing.Stuck period most_on) best opening gap log same quiet closed = absurd (false≢true closed)

-- ---- the answer
-- what is answered, with this layout
abbrev pub searched_found : Grown → Option Stuck → Layout → Found
searched_found grown stuck layout = record {
  schedule = grown.best;
  tree = grown.tree;
  tables = grown.tables;
  log = grown.log;
  most_on = told_by (tree_bound grown.tree) grown.best stuck;
  layout = layout;
}

module _ (exact exact_dispatch : Bool) (instance : Instance) (stands : Standing) (opening : Priced) (grown : Grown) (layout : Layout) (budget gap : ℕ)
    (lawful : IsLawfulInstance instance) (dropped : IsDropped instance stands) (is_best : IsBest exact_dispatch instance (ending_of stands) grown.best)
    (opens : IsRootTable instance (ending_of stands) opening.table opening.value) (priced : IsPricedOf instance opening)
    (is : IsGrown exact instance opening budget gap grown) (pivoted : IsPivotedGrown exact_dispatch instance budget gap grown)
    (of_tree : IsLayoutOf grown.tree layout) (within : All (λ i. i < length grown.tables) layout.tables) where
  abbrev found : Found
  found = searched_found grown (kept_stuck stands) layout

  used_within : All (λ i. i < length grown.tables) (used_tables (tree_of grown.tree))
  used_within = subst (λ numbers. All (λ i. i < length grown.tables) numbers) of_tree.tables within

  searched_truth : IsTrueFound instance found
  searched_truth = record {
    layout = record { layout = of_tree; within = used_within };
    certificate = certificate_holds exact_dispatch instance found is_best.found is.tree.cover is.tree.lawful used_within is.tree.stored is.tree.bound;
    log = is.tree.logged;
  }

  -- the bound that the root begins with
  abbrev first : Stored
  first = record { table = 0; value = bound_of opening.value opening.table.k; exact = false }

  above_first : AtMost (Some first.value) (tree_bound grown.tree)
  above_first =
      least_above grown.tree.units grown.tree.periods grown.tables grown.log root first.value first grown.tree.nodes (le_refl first.value) is.tree.own

  bound_opened : (bound : Option ℤ) → AtMost (Some first.value) bound → IfSome bound (IsBoundOpened instance (ending_of stands))
  bound_opened None above = tt
  bound_opened (Some bound) above = reaches_opening instance stands opening bound opens priced above

  scale : pos 0 <ℤ opening.table.k
  scale = subst (λ k. pos 0 <ℤ k) (sym priced.scale) million

  searched_own : IsQuiet (ending_of stands) opening gap grown.log → HasEachPattern instance → HasNoBlockedUnit exact instance → HasNoRay exact instance
      → IsAnswerOf exact exact_dispatch instance budget gap found
  searched_own quiet each unblocked none = record {
    result = record {
      truth = searched_truth;
      plain = is.plain;
      of_kind = is.of_kind;
      within = is.spent.within;
      spent = is.spent.spent;
      nodes = is.nodes;
      most_on = tells_most_on instance (tree_bound grown.tree) stands grown.best dropped.most_on is_best.no_dearer;
      empty = λ g empty. absurd (not_first false instance g each empty);
      unscheduled = λ asked patterns g first. absurd (not_first true instance g (subst (λ kind. HasNoBlockedUnit kind instance) asked unblocked) first);
      ray = λ n ray. absurd (none n ray.within ray.positive);
      opened = λ patterns units. record {
        patterns = dropped.patterns;
        ending = ending_of stands;
        drop = dropped.drop;
        schedule = is_best.no_dearer;
        bound = bound_opened (tree_bound grown.tree) above_first;
        own = λ rays. record {
          table = opening.table;
          value = opening.value;
          opening = opens;
          is_first = is.tree.first;
          own = is.tree.own;
          closed = quiet;
        };
      };
      few = is.tree.few;
    };
    writable = record {
      tree = is.tree.whole;
      schedule = is_best.found;
      bound = least_small grown.tree.units grown.tree.periods grown.tables grown.log root first grown.tree.nodes
          (bound_small opening.value opening.table.k scale priced.valued.size) is.sized is.tree.own;
      tables = All-weaker (IsLawfulTable instance) HasFewRows (λ table. few_rows instance table lawful) (written_tables found)
          (written_lawful instance found is.tree.lawful used_within);
    };
    pivoted = record {
      told = pivoted.pivoted;
      closes = λ asked reach.
          closed_statuses grown.best (tree_bound grown.tree) gap
          (pivoted_searches_close instance budget gap grown.tree grown.tables grown.log grown.best lawful reach pivoted.size is.tree.whole is.tree.logged
          (pivoted.pivoted asked) is.spent.spent);
    };
  }

pub searched_answer : (exact exact_dispatch : Bool) (instance : Instance) (stands : Standing) (stuck : Option Stuck) (opening : Priced) (grown : Grown) (layout : Layout)
    (budget gap : ℕ) → IsLawfulInstance instance → HasEachPattern instance → HasNoBlockedUnit exact instance → HasNoRay exact instance → IsDropped instance stands
    → stuck ≡ kept_stuck stands → IsBest exact_dispatch instance (ending_of stands) grown.best → IsRootTable instance (ending_of stands) opening.table opening.value
    → IsPricedOf instance opening → IsGrown exact instance opening budget gap grown → IsPivotedGrown exact_dispatch instance budget gap grown
    → IsQuiet (ending_of stands) opening gap grown.log
    → IsLayoutOf grown.tree layout → All (λ i. i < length grown.tables) layout.tables
    → IsAnswerOf exact exact_dispatch instance budget gap (searched_found grown stuck layout)
searched_answer exact exact_dispatch instance stands stuck opening grown layout budget gap lawful each unblocked none dropped kept is_best opens priced is pivoted quiet of_tree within =
    subst (λ (s : Option Stuck). IsAnswerOf exact exact_dispatch instance budget gap (searched_found grown s layout)) (sym kept)
    (searched_own exact exact_dispatch instance stands opening grown layout budget gap lawful dropped is_best opens priced is pivoted of_tree within quiet each unblocked none)
