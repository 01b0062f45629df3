-- What the calls of a book keep of what the desk and the closing pass rest on.
use Rattle.std.proofs.Common.{◌≡◌, ◌≢◌, ◌∙◌, Bool, ℕ, ◌+◌, ◌≤◌, true, false, All, List, [], ◌∷◌, ◌++◌, length, refl, ap, sym, subst, arith, ℤ, Option, Some, None, length-append}
use Rattle.std.proofs.lemmas.List.Sums.{sum_by-append, sum_by-cons}
use Rattle.std.proofs.lemmas.List.Elements.{All-cons, All-head, All-tail, All-push}
use Rattle.std.specs.Prelude.{sum_by}
use Rattle.uc_model.specs.declared.tolerance.TheConstants.{WHOLE_GAP}
use Rattle.dual_model.specs.declared.node.Node.{Node}
use Rattle.branch_tree.specs.Prelude.{IsOpenAt}
use Rattle.branch_tree.specs.declared.found.Outcome.{Outcome}
use Rattle.branch_tree.specs.declared.tree.Leaf.{Leaf}
use Rattle.branch_tree.specs.declared.tree.Leaf.TheVariants as leaf
use Rattle.branch_tree.proofs.Grown.{each_leaf_map}
use Rattle.incumbent.specs.Costs as incumbent
use Rattle.search_machine.specs.Prelude.{IsHolding, entries_of, IsMoveLegal, kept, unit_of, IsPrunedWithin, TreeRunsHold, committed_by}
use Rattle.search_machine.specs.declared.event.Move.{Move}
use Rattle.search_machine.specs.declared.event.Move.TheVariants.{Again, Split, Prune, Ray, Empty}
use Rattle.search_machine.proofs.Claims.{holdable}
use Rattle.search_machine.proofs.Growth.{HoldsOfNew, leaf_part, after_holds, of_ray, of_empty}
use Rattle.search_machine.proofs.OrderlySteps.{sound_of}
use Rattle.search_machine.proofs.Plain.{IsPlainState, plain_after}
use Rattle.search_machine.specs.declared.event.Event.TheVariants.{Commit}
use Rattle.search_machine.proofs.TrueSteps.{NeverDecreases, best_within}
use Rattle.book.specs.Prelude.{BookView, state_of, claimed, committed, given_back, MayBe, IsAbandonAnswer, IsClaimAnswer, IsCommitAnswer, ended, Opening, IsTrueOpening, number_of, replayed, IsRunning}
use Rattle.book.specs.BookView.{opened}
use Rattle.book.specs.declared.claims.Claimed.{Claimed}
use Rattle.book.specs.declared.claims.Claimed.TheVariants.{Spent, NotOpen, Mine}
use Rattle.book.specs.declared.claims.Claim.{Claim}
use Rattle.book.specs.declared.claims.Status.{Status}
use Rattle.book.specs.declared.claims.Status.TheVariants.{Held, Committed, GivenBack}
use Rattle.book.proofs.Books.{run_holds}
use Rattle.book.proofs.Steps.{held_still}
use Rattle.book.proofs.Units.{held_part, ended_part}
use Rattle.opening.specs.Outcomes.{IsSized}
use Rattle.search_desk.specs.Desks.{Entry, Table, IsKeptBy, IsKeptClaim, IsPrunedBy, IsScaledWithin, IsSizedEntry, commits_of}
use Rattle.search_desk.specs.Kinds.{IsOfKind}
use Rattle.search_desk.proofs.Later.{later_pushed}

-- ---- how many claims were committed
push_count : (claims : List Claim) (next : Claim) → sum_by commits_of (claims ++ next ∷ []) ≡ sum_by commits_of claims + commits_of next
push_count claims next = omega (arith, sum_by-append commits_of claims (next ∷ []), sum_by-cons commits_of next [])

part_count : (before : List Claim) (claim : Claim) (rest : List Claim)
    → sum_by commits_of (before ++ claim ∷ rest) ≡ sum_by commits_of before + (commits_of claim + sum_by commits_of rest)
part_count before claim rest = omega (arith, sum_by-append commits_of before (claim ∷ rest), sum_by-cons commits_of claim rest)

-- a claim that is held and ends so
pub record IsEndedCount (claims : List Claim) (unit : ℕ) (status : Status) : Type 0 where
  pub count : sum_by commits_of (ended claims unit status) ≡ sum_by commits_of claims + commits_of (record { worker = 0; node = 0; behind = 0; status = status })
  pub stay : All IsKeptClaim claims → (status ≡ GivenBack → ⊥) → All IsKeptClaim (ended claims unit status)

kept_status : (status : Status) → (status ≡ GivenBack → ⊥) → (claim : Claim) → IsKeptClaim (record claim { status = status })
kept_status Held other claim = refl
kept_status (Committed action) other claim = refl
kept_status GivenBack other claim = absurd (other refl)

-- all of a list are so where its parts are
all_parts : (before : List Claim) (claim new : Claim) (rest : List Claim) → All IsKeptClaim (before ++ claim ∷ rest) → IsKeptClaim new
    → All IsKeptClaim (before ++ new ∷ rest)
all_parts [] claim new rest each own = All-cons IsKeptClaim new rest own (All-tail IsKeptClaim claim rest each)
all_parts (first ∷ before) claim new rest each own =
    All-cons IsKeptClaim first (before ++ new ∷ rest) (All-head IsKeptClaim first (before ++ claim ∷ rest) each)
    (all_parts before claim new rest (All-tail IsKeptClaim first (before ++ claim ∷ rest) each) own)

pub ended_count : (claims : List Claim) (worker unit node : ℕ) (status : Status) → (book : BookView) → book.claims ≡ claims
    → IsHolding (state_of book) worker unit node → IsEndedCount claims unit status
ended_count claims worker unit node status book same holds =
    let part = held_part book.claims worker unit node holds in
    let list : claims ≡ part.before ++ part.claim ∷ part.after = sym same ∙ part.is in
    let new : Claim = record part.claim { status = status } in
    let more : ended claims unit status ≡ part.before ++ new ∷ part.after =
    (λ i. ended (list i) (part.unit_is i) status) ∙ ended_part part.before part.claim part.after status in
    let held : commits_of part.claim ≡ 0 = ap (λ (s : Status). commits_of (record part.claim { status = s })) part.status in
    record {
      count = grind (arith, part_count, more, list, part, new, held);
      stay = λ each other.
          subst (λ l. All IsKeptClaim l) (sym more)
          (all_parts part.before part.claim new part.after (subst (λ l. All IsKeptClaim l) list each) (kept_status status other part.claim));
    }

-- ---- pruned leaves
-- a lower cost is within the gap of what a greater one is
pub pruned_lower : NeverDecreases → (seen lower : Option ℤ) (gap : ℕ) → gap ≤ WHOLE_GAP → incumbent.AtMost lower seen → (l : Leaf)
    → IsPrunedWithin seen gap l → IsPrunedWithin lower gap l
pruned_lower law None lower gap whole below (leaf.Bound table value exact) h = absurd h
pruned_lower law (Some seen) None gap whole below (leaf.Bound table value exact) h = absurd below
pruned_lower law (Some seen) (Some lower) gap whole below (leaf.Bound table value exact) h = best_within law (Some lower) seen value gap whole below h
pruned_lower law seen lower gap whole below (leaf.Live table value exact) h = tt
pruned_lower law seen lower gap whole below (leaf.Ray table) h = tt
pruned_lower law seen lower gap whole below (leaf.Empty g) h = tt
pruned_lower law seen lower gap whole below (leaf.ExactRay table) h = tt
pruned_lower law seen lower gap whole below (leaf.ExactEmpty g) h = tt

-- what a move makes of the node that is held
pruned_new : (exact : Bool) (book : BookView) (node : ℕ) (here : Node) (table : Table) (outcome : Outcome) (action : Move) (seen : Option ℤ) (gap : ℕ)
    → book.gap ≡ gap → IsPrunedBy seen action → IsMoveLegal (λ cost. Unit {0}) (state_of book) node table exact outcome action
    → HoldsOfNew (λ n l. IsPrunedWithin seen gap l) here (kept (state_of book) node table exact outcome) (length book.tables) exact outcome action
pruned_new exact book node here table outcome Again seen gap same by legal = tt
pruned_new exact book node here table outcome (Split g t) seen gap same by legal = (tt, tt, tt)
pruned_new exact book node here table outcome (Prune cost) seen gap same by legal = grind (arith, same, by, legal)
pruned_new exact book node here table outcome Ray seen gap same by legal = of_ray (IsPrunedWithin seen gap) exact (length book.tables) tt tt
pruned_new exact book node here table outcome Empty seen gap same by legal = of_empty (IsPrunedWithin seen gap) exact (unit_of outcome) tt tt

-- ---- each call
pub kept_opened : (exact : Bool) (opening : Opening) (seen : Option ℤ) → IsTrueOpening opening → (limit : ℕ)
    → IsKeptBy exact opening (opened opening) seen limit
kept_opened exact opening seen begun limit = grind (arith, begun)

-- a lower cost was seen
pub kept_lower : NeverDecreases → (exact : Bool) (opening : Opening) (book : BookView) (seen lower : Option ℤ) (limit : ℕ) → incumbent.AtMost lower seen
    → IsKeptBy exact opening book seen limit → IsKeptBy exact opening book lower limit
kept_lower law exact opening book seen lower limit below is = grind (arith, each_leaf_map, pruned_lower, law, below, is)

-- a higher limit of the scales
pub kept_wider : (exact : Bool) (opening : Opening) (book : BookView) (seen : Option ℤ) (limit more : ℕ) → limit ≤ more → IsKeptBy exact opening book seen limit
    → IsKeptBy exact opening book seen more
kept_wider exact opening book seen limit more le is = grind (arith, le, is)

pub kept_claimed : (exact : Bool) (opening : Opening) (book : BookView) (seen : Option ℤ) (limit worker node : ℕ) → IsKeptBy exact opening book seen limit
    → IsKeptBy exact opening (claimed book worker node) seen limit
kept_claimed exact opening book seen limit worker node is = grind (arith, push_count, is)

pub stay_claimed : (book : BookView) (worker node : ℕ) → All IsKeptClaim book.claims → All IsKeptClaim (claimed book worker node).claims
stay_claimed book worker node each =
    All-push IsKeptClaim book.claims (record { worker = worker; node = node; behind = length book.log; status = Held }) each refl

pub kept_given_back : (exact : Bool) (opening : Opening) (book : BookView) (seen : Option ℤ) (limit worker unit node : ℕ)
    → IsHolding (state_of book) worker unit node → IsKeptBy exact opening book seen limit → IsKeptBy exact opening (given_back book unit) seen limit
kept_given_back exact opening book seen limit worker unit node holds is = grind (arith, ended_count, holds, is)

pub stay_committed : (exact : Bool) (book : BookView) (worker unit node : ℕ) (table : Table) (outcome : Outcome) (action : Move)
    → IsHolding (state_of book) worker unit node → All IsKeptClaim book.claims
    → All IsKeptClaim (committed book worker unit node table exact outcome action).claims
stay_committed exact book worker unit node table outcome action holds each =
    (ended_count book.claims worker unit node (Committed action) book refl holds).stay each (λ same. absurd (cc))

pub kept_committed : TreeRunsHold → (exact : Bool) (opening : Opening) (book : BookView) (seen : Option ℤ) (limit worker unit node : ℕ) (given : Node) (table : Table)
    (outcome : Outcome) (action : Move) → IsRunning opening book → IsHolding (state_of book) worker unit node
    → MayBe book node given table exact outcome action → IsSized outcome → (entries_of book.log node ≢ [] → IsScaledWithin limit table)
    → IsPrunedBy seen action → IsKeptBy exact opening book seen limit → IsKeptBy exact opening (committed book worker unit node table exact outcome action) seen limit
kept_committed law exact opening book seen limit worker unit node given table outcome action running holds may sized scaled by is =
    let m = replayed book running.replays.desks in
    let orderly = (run_holds law opening book is.begun running.replays).1 in
    let holding = held_still book unit (record { worker = worker; node = node }) holds in
    let at : IsOpenAt book.tree.nodes node = (holdable m worker (number_of book.claims unit) node orderly holding).live in
    let part = leaf_part book.tree node at in
    let entry : Entry =
    record { unit = unit; worker = worker; node = node; table = length book.tables; exact = exact; outcome = outcome } in
    let committed_plain = λ (plain : exact ≡ false).
    subst (λ h. IsPlainState (committed_by (state_of book) worker unit table exact outcome action h)) holds
    (plain_after (state_of book) (Commit worker unit table exact outcome action)
    (record { tree = is.plain plain; entries = subst (λ kind. All (IsOfKind kind) book.log) plain is.of_kind }) plain) in
    record {
      begun = is.begun;
      sized = All-push IsSizedEntry book.log entry is.sized sized;
      scaled = later_pushed limit book.tables table book.log entry refl
          (λ k d within. (running.replays.marked k d within).table) scaled is.scaled;
      plain = λ plain. (committed_plain plain).tree;
      of_kind = All-push (IsOfKind exact) book.log entry is.of_kind refl;
      pruned = after_holds (λ n l. IsPrunedWithin seen opening.gap l) (λ n l. IsPrunedWithin seen opening.gap l) (λ n l h. h)
          book.tree node at part (kept (state_of book) node table exact outcome) (length book.tables) exact outcome action (sound_of m orderly)
          is.pruned (pruned_new exact book node part.part.node table outcome action seen opening.gap running.gap by may.legal);
      counted = omega (
        arith,
        (ended_count book.claims worker unit node (Committed action) book refl holds).count,
        is.counted,
        length-append book.log (entry ∷ []),
      );
    }

-- ---- by what each call answers
-- what is kept of a book, whether or not a claim was given back
pub record IsSafe (exact : Bool) (opening : Opening) (book : BookView) (seen : Option ℤ) (limit : ℕ) (failed : Bool) : Type 0 where
  pub kept : IsKeptBy exact opening book seen limit
  pub complete : failed ≡ false → All IsKeptClaim book.claims

pub safe_claim : (exact : Bool) (opening : Opening) (book new : BookView) (seen : Option ℤ) (limit worker node : ℕ) (failed : Bool) (result : Claimed)
    → IsSafe exact opening book seen limit failed → IsClaimAnswer book worker node new result → IsSafe exact opening new seen limit failed
safe_claim exact opening book new seen limit worker node failed Spent is answer = subst (λ b. IsSafe exact opening b seen limit failed) (sym answer.1) is
safe_claim exact opening book new seen limit worker node failed NotOpen is answer = subst (λ b. IsSafe exact opening b seen limit failed) (sym answer.2) is
safe_claim exact opening book new seen limit worker node failed (Mine unit had) is answer =
    subst (λ b. IsSafe exact opening b seen limit failed) (sym answer.4) (record {
      kept = kept_claimed exact opening book seen limit worker node is.kept;
      complete = λ whole. stay_claimed book worker node (is.complete whole);
    })

pub safe_commit : TreeRunsHold → (exact : Bool) (opening : Opening) (book new : BookView) (seen : Option ℤ) (limit worker unit : ℕ) (failed : Bool) (given : Node)
    (table : Table) (outcome : Outcome) (action : Move) (result : Bool) → IsRunning opening book → IsSized outcome
    → ((node : ℕ) → IsHolding (state_of book) worker unit node → entries_of book.log node ≢ [] → IsScaledWithin limit table) → IsPrunedBy seen action → IsSafe exact opening book seen limit failed
    → IsCommitAnswer book worker unit given table exact outcome action new result → IsSafe exact opening new seen limit failed
safe_commit law exact opening book new seen limit worker unit failed given table outcome action false running sized scaled by is answer =
    subst (λ b. IsSafe exact opening b seen limit failed) (sym answer.1) is
safe_commit law exact opening book new seen limit worker unit failed given table outcome action true running sized scaled by is answer =
    let may = answer.may in
    subst (λ b. IsSafe exact opening b seen limit failed) (sym answer.is) (record {
      kept = kept_committed law exact opening book seen limit worker unit may.node given table outcome action running may.holds may.may sized (scaled may.node may.holds) by
          is.kept;
      complete = λ whole. stay_committed exact book worker unit may.node table outcome action may.holds (is.complete whole);
    })

pub safe_abandon : (exact : Bool) (opening : Opening) (book new : BookView) (seen : Option ℤ) (limit worker unit : ℕ) (result : Bool)
    → IsKeptBy exact opening book seen limit → IsAbandonAnswer book worker unit new result → IsKeptBy exact opening new seen limit
safe_abandon exact opening book new seen limit worker unit false is answer = subst (λ b. IsKeptBy exact opening b seen limit) (sym answer.1) is
safe_abandon exact opening book new seen limit worker unit true is answer =
    subst (λ b. IsKeptBy exact opening b seen limit) (sym answer.is) (kept_given_back exact opening book seen limit worker unit answer.node answer.holds is)
