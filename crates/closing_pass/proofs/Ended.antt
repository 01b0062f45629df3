-- How the closing pass ends.
use Rattle.std.proofs.Common.{◌≡◌, ◌≢◌, ◌∙◌, ⊎_elim, ℕ, ◌≤◌, Bool, true, false, All, List, [], ◌∷◌, length, refl, ap, sym, arith, ℤ, Option, Some, None, slice_get, get_or}
use Rattle.std.specs.Prelude.{sum_by}
use Rattle.std.specs.Option.{option_map}
use Rattle.std.proofs.lemmas.List.Elements.{All-head, All-tail}
use Rattle.std.proofs.lemmas.List.Sums.{sum_by-cons}
use Rattle.std.proofs.lemmas.Option.{slice_get-map, slice_get-get_or}
use Rattle.uc_model.specs.declared.schedule.Printed.{Printed}
use Rattle.dual_model.specs.Prelude.{root}
use Rattle.branch_tree.specs.Prelude.{is_schedule_within, tree_bound, IsOpenAt, tree_of}
use Rattle.branch_tree.proofs.Grown.{all_closed}
use Rattle.search_machine.specs.Prelude.{IsHeld, IsOpen, IsBestWithin, TreeRunsHold}
use Rattle.search_machine.proofs.TrueSteps.{closed_within}
use Rattle.book.specs.Prelude.{BookView, state_of, holder_of, holders, stays_by, Opening, IsRunning}
use Rattle.book.specs.declared.claims.Claim.{Claim}
use Rattle.book.specs.declared.claims.Status.{Status}
use Rattle.book.specs.declared.claims.Status.TheVariants.{Held, Committed, GivenBack}
use Rattle.book.proofs.Books.{run_holds}
use Rattle.search_desk.specs.Best.{cost_of}
use Rattle.closing_pass.specs.Closings.{IsEnded, is_finished}
use Rattle.search_desk.specs.Desks.{IsKeptBy, IsKeptClaim, commits_of}

-- ---- how many claims were committed
commits_few : (claims : List Claim) → sum_by commits_of claims ≤ length claims
commits_few [] = omega arith
commits_few (claim ∷ claims) = omega (arith, sum_by-cons commits_of claim claims, one claim.status, commits_few claims)
  where
    one : (status : Status) → commits_of (record claim { status = status }) ≤ 1
    one Held = omega arith
    one (Committed action) = omega arith
    one GivenBack = omega arith

abbrev IsCommitted : Claim → Type 0
IsCommitted claim = commits_of claim ≡ 1

commits_all : (claims : List Claim) → All IsCommitted claims → sum_by commits_of claims ≡ length claims
commits_all [] each = refl
commits_all (claim ∷ claims) each =
    omega (
      arith,
      sum_by-cons commits_of claim claims,
      All-head IsCommitted claim claims each,
      commits_all claims (All-tail IsCommitted claim claims each),
    )

-- where none is held and none was given back, each was committed
each_committed : (book : BookView) → ((node : ℕ) → ¬ IsHeld (state_of book) node) → All IsKeptClaim book.claims → All IsCommitted book.claims
each_committed book none kept k d within = by_status claim.status refl
  where
    claim : Claim
    claim = get_or book.claims k d

    there : slice_get (holders book.claims) k ≡ Some (holder_of claim)
    there = slice_get-map holder_of book.claims k ∙ ap (option_map holder_of) (slice_get-get_or book.claims k d within)

    by_status : (status : Status) → claim.status ≡ status → commits_of claim ≡ 1
    by_status Held same = absurd (none claim.node (record {
      claim = k;
      worker = claim.worker;
      holds = there ∙ ap (λ (s : Status). Some (holder_of (record claim { status = s }))) same;
    }))
    by_status (Committed action) same = ap (λ (s : Status). commits_of (record claim { status = s })) same
    by_status GivenBack same =
        let lost : false ≡ true = sym (ap (λ (s : Status). stays_by s) same) ∙ kept k d within in absurd (cc)

-- ---- the ends
spent_within : (exact : Bool) (opening : Opening) (book : BookView) (seen : Option ℤ) (limit : ℕ) → IsRunning opening book → IsKeptBy exact opening book seen limit
    → length book.log ≤ opening.budget
spent_within exact opening book seen limit running kept =
    omega (arith, kept.counted, commits_few book.claims, running.few, running.budget)

-- the whole budget was spent
pub spent_whole : (exact : Bool) (opening : Opening) (book : BookView) (best : Option (Printed × ℤ)) (limit : ℕ) → IsRunning opening book
    → IsKeptBy exact opening book (cost_of best) limit → opening.budget ≤ length book.log → IsEnded exact opening book best
spent_whole exact opening book best limit running kept whole =
    let few = spent_within exact opening book (cost_of best) limit running kept in
    record { limit = limit; kept = kept; spent = record { within = few; spent = λ some open_gap. omega (arith, whole, few) } }

-- no claim is left, and none is held
pub spent_claims : (exact : Bool) (opening : Opening) (book : BookView) (best : Option (Printed × ℤ)) (limit : ℕ) → IsRunning opening book
    → IsKeptBy exact opening book (cost_of best) limit → All IsKeptClaim book.claims → ((node : ℕ) → ¬ IsHeld (state_of book) node)
    → length book.claims ≡ book.budget → IsEnded exact opening book best
spent_claims exact opening book best limit running kept complete none all =
    let count = commits_all book.claims (each_committed book none complete) in
    spent_whole exact opening book best limit running kept (omega (arith, count, kept.counted, all, running.budget))

-- the schedule closes the tree, or no leaf has a bound
pub spent_finished : (exact : Bool) (opening : Opening) (book : BookView) (best : Option (Printed × ℤ)) (limit : ℕ) → IsRunning opening book
    → IsKeptBy exact opening book (cost_of best) limit → is_finished best (tree_bound book.tree) opening.gap ≡ true → IsEnded exact opening book best
spent_finished exact opening book best limit running kept finished = record {
  limit = limit;
  kept = kept;
  spent = record {
    within = spent_within exact opening book (cost_of best) limit running kept;
    spent = λ some unclosed. let differ : true ≡ false = sym (by_bound (tree_bound book.tree) finished some) ∙ unclosed in absurd (cc);
  };
}
  where
    by_bound : (bound : Option ℤ) → is_finished best bound opening.gap ≡ true → bound ≢ None → is_schedule_within best bound opening.gap ≡ true
    by_bound None h some = absurd (some refl)
    by_bound (Some bound) h some = h

-- no node is open or held
best_closes : (best : Option (Printed × ℤ)) (gap : ℕ) (bound : Option ℤ) → IsBestWithin (cost_of best) gap bound → is_schedule_within best bound gap ≡ true
best_closes None gap bound h = absurd h
best_closes (Some priced) gap bound h = h

pub spent_settled : TreeRunsHold → (exact : Bool) (opening : Opening) (book : BookView) (best : Option (Printed × ℤ)) (limit : ℕ) → IsRunning opening book
    → IsKeptBy exact opening book (cost_of best) limit → ((node : ℕ) → ¬ IsOpen (state_of book) node) → ((node : ℕ) → ¬ IsHeld (state_of book) node)
    → IsEnded exact opening book best
spent_settled law exact opening book best limit running kept none_open none_held =
    let orderly = (run_holds law opening book kept.begun running.replays).1 in
    let none : (number : ℕ) → ¬ IsOpenAt book.tree.nodes number =
    λ number at. none_open number (record { live = at; unheld = none_held number }) in
    record {
      limit = limit;
      kept = kept;
      spent = record {
        within = spent_within exact opening book (cost_of best) limit running kept;
        spent = λ some unclosed. ⊎_elim
            (λ (e : tree_bound book.tree ≡ None). absurd (some e))
            (λ (h : IsBestWithin (cost_of best) opening.gap (tree_bound book.tree)).
            let differ : true ≡ false = sym (best_closes best opening.gap (tree_bound book.tree) h) ∙ unclosed in absurd (cc))
            (closed_within (cost_of best) opening.gap root (tree_of book.tree) (all_closed book.tree.nodes orderly.placed.are.numbered none) kept.pruned);
      };
    }
