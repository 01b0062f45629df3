-- The replay after each step of the book.
use Rattle.std.proofs.Common.{◌≡◌, ℕ, suc, ◌+◌, ◌-◌, ◌<◌, ◌≤◌, Bool, true, false, All, List, [], ◌∷◌, ◌++◌, length, map, set, refl, ap, sym, ◌∙◌, subst, arith, Option, Some, None, slice_get, slice_set, replicate, length-append, length-set, get_or}
use Rattle.std.proofs.Math.Seq.{set-append_seam}
use Rattle.std.proofs.lemmas.List.Sums.{sum_by-cons}
use Rattle.std.proofs.lemmas.List.{map-append, length-map, length-replicate, get_or_append_left}
use Rattle.std.proofs.lemmas.List.Elements.{All-nil, All-push}
use Rattle.std.proofs.lemmas.Simd.{map-map}
use Rattle.std.proofs.lemmas.Option.{get_or_from_slice_get}
use Rattle.branch_tree.specs.Prelude.{table_at, no_table}
use Rattle.search_machine.specs.Prelude.{Machine, no_desk, first_desk, IsOpen, IsHolding, tickets_of, IsTrueEvent, IsTrueRunBy, after_all, AnyCost, IsLegalBy, after, with_desk, with_tickets}
use Rattle.search_machine.specs.declared.holder.Holder.{Holder}
use Rattle.branch_tree.specs.declared.found.Outcome.{Outcome}
use Rattle.uc_model.specs.declared.instance.Instance.{Instance}
use Rattle.search_machine.specs.declared.event.Event.{Event}
use Rattle.search_machine.specs.declared.event.Event.TheVariants as event
use Rattle.search_machine.proofs.Claims.{get_push_last}
use Rattle.book.specs.Prelude.{BookView, Entry, Table, state_of, claimed, committed, given_back, Claim, Status, Move, Held, Committed, GivenBack, holder_by, holder_of, holders, stays, kept_claims, are_kept, unit_anew, move_of, ended, IsRising, Opening, start_by, with_unit, number_of, log_anew, claim_event, commit_event, woven, replay, replayed, IsMarked, IsReplayed}
use Rattle.book.specs.BookView.{opened}
use Rattle.book.proofs.LeftOut.{less_one, units_of, without, without_here, event_anew, run_anew, state_without, left_out, after_all-append, run_joined}
use Rattle.book.proofs.Likeness.{StillHolds, legal_renamed, true_renamed, after_commit, committed_renamed}
use Rattle.book.proofs.Units.{map_same, get_here, ended_part, anew_less, anew_push, kept_length, kept_flags, kept_with, kept_without, number_here, holders_with, holder_anew, kept_held, kept_fewer, marked_within, marked_push, push_move, marked_ended, same_move, here_move}
use Rattle.book.proofs.Weaving.{claim_weight, claims_in, rising_kept, rising_more, rising_push, rising_same, woven_claim, woven_commit, woven_same, woven_map, woven_less}

-- ---- one event at the end of a run
run_snoc : (instance : Instance) (start : Machine) (events : List Event) (last : Event) (m : Machine)
    → IsTrueRunBy AnyCost instance start events → after_all start events ≡ m → IsLegalBy AnyCost m last → IsTrueEvent instance m last
    → IsTrueRunBy AnyCost instance start (events ++ last ∷ [])
run_snoc instance start events last m run is legal told = grind (arith, run_joined, run, is, legal, told)

after_snoc : (start : Machine) (events : List Event) (last : Event) (m : Machine) → after_all start events ≡ m
    → after_all start (events ++ last ∷ []) ≡ after m last
after_snoc start events last m is = after_all-append start events (last ∷ []) ∙ ap (λ (x : Machine). after x last) is

-- as the state of the book, but for the numbers of units and the desks
pub held_still : (book : BookView) (unit : ℕ) → StillHolds (number_of book.claims) (holders (kept_claims book.claims)) (state_of book) unit
held_still book unit holder holds = holder_anew book.claims unit holder holds

-- ---- a claim
-- the commits of the log, and its units, whatever claim comes behind the others
same_unit : (claims : List Claim) (next : Claim) (tables : ℕ) (entry : Entry) → IsMarked claims tables entry
    → number_of (claims ++ next ∷ []) entry.unit ≡ number_of claims entry.unit
same_unit claims next tables entry mark =
    ap (unit_anew entry.unit) (map-append stays claims (next ∷ []))
    ∙ anew_push entry.unit (are_kept claims) (stays next) (omega (arith, marked_within claims tables entry mark, length-map claims stays))

same_commits : (claims : List Claim) (next : Claim) (tables : List Table) (log : List Entry) → All (IsMarked claims (length tables)) log
    → map (commit_event (claims ++ next ∷ []) tables) log ≡ map (commit_event claims tables) log
same_commits claims next tables log marked =
    map_same (commit_event (claims ++ next ∷ []) tables) (commit_event claims tables) (IsMarked claims (length tables)) log marked
    (λ entry mark. λ i. event.Commit entry.worker (same_unit claims next (length tables) entry mark i) (table_at tables entry.table) entry.exact
    entry.outcome
    (push_move claims next (length tables) entry mark i))

same_units : (claims : List Claim) (next : Claim) (tables : ℕ) (log : List Entry) → All (IsMarked claims tables) log
    → map (with_unit (number_of (claims ++ next ∷ []))) log ≡ map (with_unit (number_of claims)) log
same_units claims next tables log marked =
    map_same (with_unit (number_of (claims ++ next ∷ []))) (with_unit (number_of claims)) (IsMarked claims tables) log marked
    (λ entry mark. ap (λ unit. record entry { unit = unit }) (same_unit claims next tables entry mark))

pub claimed_replayed : (opening : Opening) (book : BookView) (worker node : ℕ) → IsReplayed opening book → worker < 256
    → length book.claims < book.budget → IsOpen (state_of book) node → IsReplayed opening (claimed book worker node)
claimed_replayed opening book worker node is small left open_node =
    let claims = book.claims in
    let next : Claim = record { worker = worker; node = node; behind = length book.log; status = Held } in
    let more = claims ++ next ∷ [] in
    let now = event.Claim worker node in
    let start = start_by opening in
    let m = replayed book is.desks in
    let commits = map (commit_event claims book.tables) book.log in
    let count : length commits ≡ length book.log = length-map book.log (commit_event claims book.tables) in
    let kept : kept_claims more ≡ kept_claims claims ++ next ∷ [] = kept_with claims next [] refl in
    let all_put : length book.log ≡ 0 + length commits = omega (arith, count) in
    let rising = subst (λ n. IsRising 0 n (kept_claims claims)) all_put (rising_kept 0 (length book.log) claims is.rising) in
    let same : replay (claimed book worker node) ≡ replay book ++ now ∷ [] =
    (λ i. woven 0 (kept i) (same_commits claims next book.tables book.log is.marked i))
    ∙ woven_claim 0 (kept_claims claims) next commits rising all_put in
    let legal : IsLegalBy AnyCost m now = (
      subst (λ n. worker < n) (sym is.workers) small,
      record {
        left = omega (arith, left, kept_fewer claims, length-map (kept_claims claims) holder_of);
        open_node = record { live = open_node.live; unheld = λ held. open_node.unheld (kept_held claims node held) };
      },
    ) in
    let holders_more : holders (kept_claims more) ≡ holders (kept_claims claims) ++ Some (record { worker = worker; node = node }) ∷ [] =
    ap holders kept ∙ map-append holder_of (kept_claims claims) (next ∷ []) in
    record {
      run = grind (arith, run_snoc, opening, start, same, book, now, m, is, legal);
      desks = is.desks;
      workers = is.workers;
      gives = ap (after_all start) same
          ∙ after_snoc start (replay book) now m is.gives
          ∙ (λ i. record m {
            claims = sym holders_more i;
            log = sym (same_units claims next (length book.tables) book.log is.marked) i;
          });
      rising = rising_push 0 (length book.log) claims next refl is.rising;
      marked = λ k d within. marked_push claims next (length book.tables) (get_or book.log k d) (is.marked k d within);
    }

-- ---- a claim that ends
map_units : (f g : ℕ → ℕ) (log : List Entry) → ((unit : ℕ) → f unit ≡ g unit) → map (with_unit f) log ≡ map (with_unit g) log
map_units f g [] same = refl
map_units f g (entry ∷ log) same = λ i. (record entry { unit = same entry.unit i }) ∷ map_units f g log same i

-- the move of an entry is what it was
move_stays : (claims more before : List Claim) (claim : Claim) (status : Status) (rest : List Claim) (tables : ℕ) (entry : Entry)
    → claims ≡ before ++ claim ∷ rest → more ≡ before ++ (record claim { status = status }) ∷ rest → claim.status ≡ Held
    → IsMarked claims tables entry → move_of more entry.unit ≡ move_of claims entry.unit
move_stays claims more before claim status rest tables entry list more_is held mark =
    ap (λ cs. move_of cs entry.unit) more_is
    ∙ same_move before claim status rest tables entry held (subst (λ cs. IsMarked cs tables entry) list mark)
    ∙ sym (ap (λ cs. move_of cs entry.unit) list)

-- the entries are marked by what the claims became
marks_stay : (claims more before : List Claim) (claim : Claim) (status : Status) (rest : List Claim) (tables later : ℕ) (log : List Entry)
    → claims ≡ before ++ claim ∷ rest → more ≡ before ++ (record claim { status = status }) ∷ rest → claim.status ≡ Held → tables ≤ later
    → All (IsMarked claims tables) log → All (IsMarked more later) log
marks_stay claims more before claim status rest tables later log list more_is held above each k d within =
    grind (arith, marked_ended, list, more_is, held, above, each, k, d, within)

-- who holds which nodes by the claims that are kept, where one of them ended
holders_ended : (claims more before : List Claim) (claim : Claim) (action : Move) (rest : List Claim) → claims ≡ before ++ claim ∷ rest
    → more ≡ before ++ (record claim { status = Committed action }) ∷ rest → stays claim ≡ true
    → slice_set (holders (kept_claims claims)) (number_of claims (suc (length before)) - 1) None ≡ holders (kept_claims more)
holders_ended claims more before claim action rest list more_is kept =
    let front = holders (kept_claims before) in
    let count : length front ≡ length (kept_claims before) = length-map (kept_claims before) holder_of in
    let place : number_of claims (suc (length before)) - 1 ≡ length front =
    omega (arith, number_here claims before claim rest list kept, count) in
    (λ i. set (holders_with claims before claim rest list kept i) (place i) None)
    ∙ set-append_seam front (holder_of claim) (holders (kept_claims rest)) None
    ∙ sym (holders_with more before (record claim { status = Committed action }) rest more_is refl)

-- ---- a commit
-- the table of the new entry, and those of the others
table_last : (tables : List Table) (table : Table) → table_at (tables ++ table ∷ []) (length tables) ≡ table
table_last tables table = get_or_from_slice_get (tables ++ table ∷ []) (length tables) table no_table (get_push_last tables table)

table_before : (tables : List Table) (table : Table) (number : ℕ) → number < length tables
    → table_at (tables ++ table ∷ []) number ≡ table_at tables number
table_before tables table number within = get_or_append_left tables (table ∷ []) no_table number within

pub committed_replayed : (opening : Opening) (book : BookView) (before rest : List Claim) (claim : Claim) (node : ℕ) (table : Table)
    (exact : Bool) (outcome : Outcome) (action : Move) → book.claims ≡ before ++ claim ∷ rest → claim.status ≡ Held → claim.node ≡ node
    → IsReplayed opening book
    → IsLegalBy AnyCost (state_of book) (event.Commit claim.worker (suc (length before)) table exact outcome action)
    → IsHolding (state_of book) claim.worker (suc (length before)) node
    → IsTrueEvent opening.instance (state_of book) (event.Commit claim.worker (suc (length before)) table exact outcome action)
    → IsReplayed opening (committed book claim.worker (suc (length before)) node table exact outcome action)
committed_replayed opening book before rest claim node table exact outcome action list held node_is is legal holds told =
    let unit = suc (length before) in
    let worker = claim.worker in
    let claims = book.claims in
    let new : Claim = record claim { status = Committed action } in
    let more = ended claims unit (Committed action) in
    let more_is : more ≡ before ++ new ∷ rest = ap (λ cs. ended cs unit (Committed action)) list ∙ ended_part before claim rest (Committed action) in
    let is_kept : stays claim ≡ true = ap (λ (s : Status). stays (record claim { status = s })) held in
    let flags : are_kept more ≡ are_kept claims =
    ap are_kept more_is ∙ kept_flags before new rest true refl ∙ sym (ap are_kept list ∙ kept_flags before claim rest true is_kept) in
    let f = number_of claims in
    let same_f : (u : ℕ) → number_of more u ≡ f u = λ u. ap (unit_anew u) flags in
    let later = book.tables ++ table ∷ [] in
    let entry : Entry =
    record { unit = unit; worker = worker; node = node; table = length book.tables; exact = exact; outcome = outcome } in
    let now = event.Commit worker (f unit) table exact outcome action in
    let start = start_by opening in
    let m = replayed book is.desks in
    let hs = holders (kept_claims claims) in
    let book2 = committed book worker unit node table exact outcome action in
    let tables_more = length-append book.tables (table ∷ []) in
    let log_more = length-append book.log (entry ∷ []) in
    -- the entries' marks
    let marked_old = marks_stay claims more before claim (Committed action) rest (length book.tables) (length later) book.log list more_is held
    (omega (arith, tables_more)) is.marked in
    let marked_new : IsMarked more (length later) entry = record {
      claim = new;
      place = length before;
      unit = refl;
      is = ap (λ cs. slice_get cs (length before)) more_is ∙ get_here before new rest;
      action = action;
      status = refl;
      worker = refl;
      node = node_is;
      table = omega (arith, tables_more);
    } in
    -- the commits
    let old_same : map (commit_event more later) book.log ≡ map (commit_event claims book.tables) book.log =
    map_same (commit_event more later) (commit_event claims book.tables) (IsMarked claims (length book.tables)) book.log is.marked
    (λ e was. λ i. event.Commit e.worker (same_f e.unit i) (table_before book.tables table e.table was.table i) e.exact e.outcome
    (move_stays claims more before claim (Committed action) rest (length book.tables) e list more_is held was i)) in
    let last_same : commit_event more later entry ≡ now =
    λ i. event.Commit worker (same_f unit i) (table_last book.tables table i) exact outcome
    ((ap (λ cs. move_of cs unit) more_is ∙ here_move before new rest) i) in
    let commits = map (commit_event claims book.tables) book.log in
    let count : length commits ≡ length book.log = length-map book.log (commit_event claims book.tables) in
    let all : map (commit_event more later) (book.log ++ entry ∷ []) ≡ commits ++ now ∷ [] =
    map-append (commit_event more later) book.log (entry ∷ []) ∙ (λ i. old_same i ++ last_same i ∷ []) in
    let kept_old : kept_claims claims ≡ kept_claims before ++ claim ∷ kept_claims rest = ap kept_claims list ∙ kept_with before claim rest is_kept in
    let kept_new : kept_claims more ≡ kept_claims before ++ new ∷ kept_claims rest = ap kept_claims more_is ∙ kept_with before new rest refl in
    let all_put : length book.log ≡ 0 + length commits = omega (arith, count) in
    let rising = subst (λ n. IsRising 0 n (kept_claims claims)) all_put (rising_kept 0 (length book.log) claims is.rising) in
    let same : replay book2 ≡ replay book ++ now ∷ [] =
    (λ i. woven 0 (kept_new i) (all i))
    ∙ woven_same 0 (kept_claims before) claim (Committed action) (kept_claims rest) (commits ++ now ∷ [])
    ∙ ap (λ cs. woven 0 cs (commits ++ now ∷ [])) (sym kept_old)
    ∙ woven_commit 0 (kept_claims claims) commits now rising in
    -- the step of the machine
    let size : length (state_of book).desks ≡ length is.desks = length-replicate 256 no_desk ∙ sym is.workers in
    let legal_here = legal_renamed f hs is.desks (state_of book) worker unit table exact outcome action size (held_still book unit) legal in
    let told_here = true_renamed opening.instance f hs is.desks (state_of book) worker unit table exact outcome action (held_still book unit) legal told in
    let holds_here : IsHolding m worker (f unit) node = held_still book unit (record { worker = worker; node = node }) holds in
    let hs_new : slice_set hs (f unit - 1) None ≡ holders (kept_claims more) =
    holders_ended claims more before claim action rest list more_is is_kept in
    let desks = with_desk is.desks worker (λ desk. with_tickets desk (tickets_of book.tree action)) in
    record {
      run = subst (IsTrueRunBy AnyCost opening.instance start) (sym same)
          (run_snoc opening.instance start (replay book) now m is.run is.gives legal_here told_here);
      desks = desks;
      workers = length-set is.desks worker _ ∙ is.workers;
      gives = ap (after_all start) same
          ∙ after_snoc start (replay book) now m is.gives
          ∙ after_commit m worker (f unit) node table exact outcome action holds_here
          ∙ committed_renamed f hs is.desks (state_of book) worker unit node table exact outcome action
          ∙ (λ i. record (replayed book2 desks) {
            claims = hs_new i;
            log = map_units (number_of claims) (number_of more) (book.log ++ entry ∷ []) (λ u. sym (same_f u)) i;
          });
      rising = grind (arith, rising_same, rising_more, book2, more_is, before, claim, action, rest, book, log_more, list, is);
      marked = All-push (IsMarked more (length later)) book.log entry marked_old marked_new;
    }

-- ---- a claim given back
no_claims : (claims : List Claim) (tables : List Table) (log : List Entry) → claims_in (map (commit_event claims tables) log) ≡ 0
no_claims claims tables [] = refl
no_claims claims tables (entry ∷ log) =
    omega (
      arith,
      sum_by-cons claim_weight (commit_event claims tables entry) (map (commit_event claims tables) log),
      no_claims claims tables log,
    )

pub abandoned_replayed : (opening : Opening) (book : BookView) (before rest : List Claim) (claim : Claim)
    → book.claims ≡ before ++ claim ∷ rest → claim.status ≡ Held → IsReplayed opening book
    → IsReplayed opening (given_back book (suc (length before)))
abandoned_replayed opening book before rest claim list held is =
    let unit = suc (length before) in
    let claims = book.claims in
    let new : Claim = record claim { status = GivenBack } in
    let more = ended claims unit GivenBack in
    let more_is : more ≡ before ++ new ∷ rest = ap (λ cs. ended cs unit GivenBack) list ∙ ended_part before claim rest GivenBack in
    let is_kept : stays claim ≡ true = ap (λ (s : Status). stays (record claim { status = s })) held in
    let old_flags = ap are_kept list ∙ kept_flags before claim rest true is_kept in
    let new_flags = ap are_kept more_is ∙ kept_flags before new rest false refl in
    let kb = kept_claims before in
    let ka = kept_claims rest in
    let place = length kb in
    let f = number_of claims in
    let same_f : (u : ℕ) → number_of more u ≡ units_of place (f u) = λ u.
    ap (unit_anew u) new_flags
    ∙ anew_less u (are_kept before) (are_kept rest)
    ∙ (λ i. less_one (unit_anew u (sym old_flags i)) (sym (kept_length before) i)) in
    let start = start_by opening in
    let m = replayed book is.desks in
    let book2 = given_back book unit in
    let commits = map (commit_event claims book.tables) book.log in
    let count : length commits ≡ length book.log = length-map book.log (commit_event claims book.tables) in
    let commits_new : map (commit_event more book.tables) book.log ≡ run_anew place commits =
    map_same (commit_event more book.tables) (λ e. event_anew (units_of place) (commit_event claims book.tables e))
    (IsMarked claims (length book.tables)) book.log is.marked
    (λ e was. λ i. event.Commit e.worker (same_f e.unit i) (table_at book.tables e.table) e.exact e.outcome
    (move_stays claims more before claim GivenBack rest (length book.tables) e list more_is held was i))
    ∙ sym (map-map (event_anew (units_of place)) (commit_event claims book.tables) book.log) in
    let kept_old : kept_claims claims ≡ kb ++ claim ∷ ka = ap kept_claims list ∙ kept_with before claim rest is_kept in
    let kept_new : kept_claims more ≡ kb ++ ka = ap kept_claims more_is ∙ kept_without before new rest refl in
    let rising = subst (IsRising 0 (length book.log)) kept_old (rising_kept 0 (length book.log) claims is.rising) in
    let part = woven_less 0 (length book.log) kb claim ka commits (no_claims claims book.tables book.log) rising in
    let whole : replay book ≡ part.before ++ claim_event claim ∷ part.after = ap (λ cs. woven 0 cs commits) kept_old ∙ part.all_is in
    let same : replay book2 ≡ run_anew place (part.before ++ part.after) =
    (λ i. woven 0 (kept_new i) (commits_new i))
    ∙ woven_map (event_anew (units_of place)) (λ c. refl) 0 (kb ++ ka) commits
    ∙ ap (run_anew place) part.less_is in
    let ends : after_all start (part.before ++ claim_event claim ∷ part.after) ≡ m = ap (after_all start) (sym whole) ∙ is.gives in
    let hs : holders (kept_claims claims) ≡ holders kb ++ holder_of claim ∷ holders ka = holders_with claims before claim rest list is_kept in
    let size : length (holders kb) ≡ place = length-map kb holder_of in
    let holder : Holder = record { worker = claim.worker; node = claim.node } in
    let own : holder_of claim ≡ Some holder = ap (λ (s : Status). holder_by s holder) held in
    let there : slice_get (holders (kept_claims claims)) place ≡ Some (Some holder) =
    (λ i. slice_get (hs i) (sym size i))
    ∙ get_here (holders kb) (holder_of claim) (holders ka)
    ∙ ap (λ (h : Option Holder). Some h) own in
    let law = left_out opening.instance place start part.before claim.worker claim.node part.after refl refl part.claims
    (subst (IsTrueRunBy AnyCost opening.instance start) whole is.run)
    (λ gone.
    let both : Some (Some holder) ≡ Some None =
    sym there ∙ sym (ap (λ (x : Machine). slice_get x.claims place) ends) ∙ gone in
    cc) in
    let claims_new : without (holders (kept_claims claims)) place ≡ holders (kept_claims more) =
    (λ i. without (hs i) (sym size i))
    ∙ without_here (holders kb) (holder_of claim) (holders ka)
    ∙ sym (ap holders kept_new ∙ map-append holder_of kb ka) in
    let log_new : map (with_unit (units_of place)) (log_anew book) ≡ log_anew book2 =
    map-map (with_unit (units_of place)) (with_unit f) book.log
    ∙ map_units (λ u. units_of place (f u)) (number_of more) book.log (λ u. sym (same_f u)) in
    record {
      run = subst (IsTrueRunBy AnyCost opening.instance start) (sym same) law.run;
      desks = is.desks;
      workers = is.workers;
      gives = grind (arith, state_without, start, same, law, place, ends, m, claims, claims_new, log_new);
      rising = grind (arith, rising_same, book, more_is, before, claim, rest, list, is);
      marked = marks_stay claims more before claim GivenBack rest (length book.tables) (length book.tables) book.log list more_is held
          (omega arith) is.marked;
    }

-- ---- the start
pub opened_replayed : (opening : Opening) → IsReplayed opening (opened opening)
opened_replayed opening = record {
  run = tt;
  desks = first_desk ∷ replicate 255 no_desk;
  workers = ap suc (length-replicate 255 no_desk);
  gives = refl;
  rising = omega arith;
  marked = All-nil (IsMarked [] 1);
}
