-- Claims and the numbers of their units: with one claim more, with one that ended otherwise, and with one given back.
use Rattle.std.proofs.Common.{◌≡◌, ◌≢◌, ℕ, zero, suc, ◌-◌, ◌≤◌, Bool, true, false, cond, All, List, [], ◌∷◌, ◌++◌, length, map, set, refl, ap, sym, ◌∙◌, arith, Option, Some, None, slice_get, get_or}
use Rattle.std.proofs.Math.Seq.{set-append_seam, get_or-append_seam}
use Rattle.std.proofs.lemmas.List.{map-append, map-set, length-map}
use Rattle.std.proofs.lemmas.List.Elements.{All-head, All-tail, filter-append}
use Rattle.std.proofs.lemmas.Option.{slice_get-map, get_or_from_slice_get, slice_get_within}
use Rattle.branch_tree.proofs.Changes.{from_some, get-append}
use Rattle.search_machine.specs.Prelude.{holder_in, IsHeldIn}
use Rattle.search_machine.specs.declared.holder.Holder.{Holder}
use Rattle.search_machine.proofs.Claims.{holder_place}
use Rattle.book.specs.Prelude.{Entry, Claim, Status, Held, Committed, GivenBack, holder_by, holder_of, holders, IsHeldBy, stays, kept_claims, are_kept, unit_anew, no_claim, ended, move_by, move_of, IsMarked}
use Rattle.book.proofs.LeftOut.{less_one}

-- ---- lists
pub map_same : {A B : Type 0} (f g : A → B) (P : A → Type 0) (xs : List A) → All P xs → ((x : A) → P x → f x ≡ g x) → map f xs ≡ map g xs
map_same f g P [] each same = refl
map_same f g P (x ∷ xs) each same = λ i. same x (All-head P x xs each) i ∷ map_same f g P xs (All-tail P x xs each) same i

pub get_here : {A : Type 0} (before : List A) (x : A) (after : List A) → slice_get (before ++ x ∷ after) (length before) ≡ Some x
get_here [] x after = refl
get_here (first ∷ before) x after = get_here before x after

pub get_apart : {A : Type 0} (before : List A) (x y : A) (after : List A) (place : ℕ) (z : A) → place ≢ length before
    → slice_get (before ++ x ∷ after) place ≡ Some z → slice_get (before ++ y ∷ after) place ≡ Some z
get_apart [] x y after zero z differ e = absurd (differ refl)
get_apart [] x y after (suc place) z differ e = e
get_apart (first ∷ before) x y after zero z differ e = e
get_apart (first ∷ before) x y after (suc place) z differ e = get_apart before x y after place z (λ h. differ (ap suc h)) e

record IsPart {A : Type 0} (xs : List A) (x : A) (place : ℕ) : Type 0 where
  pub before : List A
  pub after : List A
  pub is : xs ≡ before ++ x ∷ after
  pub size : place ≡ length before

get_part : {A : Type 0} (xs : List A) (place : ℕ) (x : A) → slice_get xs place ≡ Some x → IsPart xs x place
get_part [] place x e = absurd (cc)
get_part (y ∷ xs) zero x e =
    let same : y ≡ x = cc in record { before = []; after = xs; is = ap (λ z. z ∷ xs) same; size = refl }
get_part (y ∷ xs) (suc place) x e =
    let part = get_part xs place x e in
    record { before = y ∷ part.before; after = part.after; is = ap (λ l. y ∷ l) part.is; size = ap suc part.size }

-- ---- a claim that is held
pub record IsHeldPart (claims : List Claim) (worker unit node : ℕ) : Type 0 where
  pub claim : Claim
  pub status : claim.status ≡ Held
  pub worker_is : claim.worker ≡ worker
  pub node_is : claim.node ≡ node
  pub before : List Claim
  pub after : List Claim
  pub is : claims ≡ before ++ claim ∷ after
  pub unit_is : unit ≡ suc (length before)

-- only a held claim has a holder
record IsHolderBy (status : Status) (one other : Holder) : Type 0 where
  pub is_held : status ≡ Held
  pub same : one ≡ other

holder_from : (status : Status) (one other : Holder) → holder_by status one ≡ Some other → IsHolderBy status one other
holder_from Held one other e = record { is_held = refl; same = cc }
holder_from (Committed action) one other e = absurd (cc)
holder_from GivenBack one other e = absurd (cc)

pub held_part : (claims : List Claim) (worker unit node : ℕ) → IsHeldBy claims worker unit node → IsHeldPart claims worker unit node
held_part claims worker unit node holds =
    let own : Holder = record { worker = worker; node = node } in
    let at = holder_place (holders claims) unit own holds in
    let there = from_some holder_of (slice_get claims at.0) (Some own) (sym (slice_get-map holder_of claims at.0) ∙ at.2) in
    let claim = there.0 in
    let by = holder_from claim.status (record { worker = claim.worker; node = claim.node }) own there.2 in
    let part = get_part claims at.0 claim there.1 in
    record {
      claim = claim;
      status = by.is_held;
      worker_is = ap (λ (h : Holder). h.worker) by.same;
      node_is = ap (λ (h : Holder). h.node) by.same;
      before = part.before;
      after = part.after;
      is = part.is;
      unit_is = at.1 ∙ ap suc part.size;
    }

-- the claims with that one ended
pub ended_part : (before : List Claim) (claim : Claim) (after : List Claim) (status : Status)
    → ended (before ++ claim ∷ after) (suc (length before)) status ≡ before ++ (record claim { status = status }) ∷ after
ended_part before claim after status =
    let place : suc (length before) - 1 ≡ length before = omega arith in
    ap (λ i. set (before ++ claim ∷ after) i (record (get_or (before ++ claim ∷ after) i no_claim) { status = status })) place
    ∙ ap (λ (old : Claim). set (before ++ claim ∷ after) (length before) (record old { status = status }))
    (get_or-append_seam before claim after no_claim)
    ∙ set-append_seam before claim after (record claim { status = status })

-- who holds which nodes then, where the status is another than held
pub holders_after : (claims : List Claim) (unit : ℕ) (status : Status) → ((holder : Holder) → holder_by status holder ≡ None)
    → holders (ended claims unit status) ≡ set (holders claims) (unit - 1) None
holders_after claims unit status ends = grind (arith, map-set, ends)

-- ---- the numbers of units
-- how many are kept
abbrev pub kept_count : List Bool → ℕ
kept_count [] = 0
kept_count (first ∷ kept) = cond first (suc (kept_count kept)) (kept_count kept)

pub kept_length : (claims : List Claim) → length (kept_claims claims) ≡ kept_count (are_kept claims)
kept_length [] = refl
kept_length (claim ∷ claims) = one_more (stays claim) (kept_length claims)
  where
    one_more : (b : Bool) → length (kept_claims claims) ≡ kept_count (are_kept claims)
        → length (cond b (claim ∷ kept_claims claims) (kept_claims claims)) ≡ cond b (suc (kept_count (are_kept claims))) (kept_count (are_kept claims))
    one_more true e = ap suc e
    one_more false e = e

-- where one of them isn't kept any more
pub anew_less : (unit : ℕ) (before after : List Bool)
    → unit_anew unit (before ++ false ∷ after) ≡ less_one (unit_anew unit (before ++ true ∷ after)) (kept_count before)
anew_less zero before after = refl
anew_less (suc unit) [] after = refl
anew_less (suc unit) (true ∷ before) after = ap suc (anew_less unit before after)
anew_less (suc unit) (false ∷ before) after = anew_less unit before after

-- the number of one that is kept
pub anew_here : (before after : List Bool) → unit_anew (suc (length before)) (before ++ true ∷ after) ≡ suc (kept_count before)
anew_here [] after = refl
anew_here (true ∷ before) after = ap suc (anew_here before after)
anew_here (false ∷ before) after = anew_here before after

-- one more behind them is no matter
pub anew_push : (unit : ℕ) (kept : List Bool) (last : Bool) → unit ≤ length kept → unit_anew unit (kept ++ last ∷ []) ≡ unit_anew unit kept
anew_push zero kept last within = refl
anew_push (suc unit) [] last within = absurd (omega arith)
anew_push (suc unit) (first ∷ kept) last within = ap (λ n. cond first (suc n) n) (anew_push unit kept last (omega arith))

-- ---- which claims are kept
pub kept_flags : (before : List Claim) (claim : Claim) (after : List Claim) (kept : Bool) → stays claim ≡ kept
    → are_kept (before ++ claim ∷ after) ≡ are_kept before ++ kept ∷ are_kept after
kept_flags before claim after kept is = grind (arith, map-append, is)

pub kept_with : (before : List Claim) (claim : Claim) (after : List Claim) → stays claim ≡ true
    → kept_claims (before ++ claim ∷ after) ≡ kept_claims before ++ claim ∷ kept_claims after
kept_with before claim after is = grind (arith, filter-append, is)

pub kept_without : (before : List Claim) (claim : Claim) (after : List Claim) → stays claim ≡ false
    → kept_claims (before ++ claim ∷ after) ≡ kept_claims before ++ kept_claims after
kept_without before claim after is = grind (arith, filter-append, is)

-- the number of a claim that is kept
pub number_here : (claims before : List Claim) (claim : Claim) (after : List Claim) → claims ≡ before ++ claim ∷ after → stays claim ≡ true
    → unit_anew (suc (length before)) (are_kept claims) ≡ suc (length (kept_claims before))
number_here claims before claim after is kept = grind (arith, kept_flags, length-map, anew_here, kept_length, is, kept)

-- who holds which nodes by the claims that are kept
pub holders_with : (claims before : List Claim) (claim : Claim) (after : List Claim) → claims ≡ before ++ claim ∷ after → stays claim ≡ true
    → holders (kept_claims claims) ≡ holders (kept_claims before) ++ holder_of claim ∷ holders (kept_claims after)
holders_with claims before claim after is kept = grind (arith, kept_with, map-append, is, kept)

-- the holder of a held claim, among those that are kept, is that of its new number
pub holder_anew : (claims : List Claim) (unit : ℕ) (holder : Holder) → holder_in (holders claims) unit ≡ Some holder
    → holder_in (holders (kept_claims claims)) (unit_anew unit (are_kept claims)) ≡ Some holder
holder_anew claims unit holder holds =
    let part = held_part claims holder.worker unit holder.node holds in
    let claim = part.claim in
    let is_kept : stays claim ≡ true = ap (λ (s : Status). stays (record claim { status = s })) part.status in
    let own : holder_of claim ≡ Some holder =
    ap (λ (s : Status). holder_by s (record { worker = claim.worker; node = claim.node })) part.status
    ∙ (λ i. Some (record { worker = part.worker_is i; node = part.node_is i })) in
    let kept = holders (kept_claims part.before) in
    let count : length kept ≡ length (kept_claims part.before) = length-map (kept_claims part.before) holder_of in
    let number : unit_anew unit (are_kept claims) ≡ suc (length kept) =
    ap (λ u. unit_anew u (are_kept claims)) part.unit_is
    ∙ number_here claims part.before claim part.after part.is is_kept
    ∙ ap suc (sym count) in
    let list : holders (kept_claims claims) ≡ kept ++ Some holder ∷ holders (kept_claims part.after) =
    holders_with claims part.before claim part.after part.is is_kept
    ∙ ap (λ h. kept ++ h ∷ holders (kept_claims part.after)) own in
    (λ i. holder_in (list i) (number i))
    ∙ get_or-append_seam kept (Some holder) (holders (kept_claims part.after)) None

-- who is held among those that are kept is held
record IsThere {A : Type 0} (xs : List A) (x : A) : Type 0 where
  pub place : ℕ
  pub is : slice_get xs place ≡ Some x

kept_there : (claims : List Claim) (place : ℕ) (holder : Option Holder) → slice_get (holders (kept_claims claims)) place ≡ Some holder
    → IsThere (holders claims) holder
kept_there [] place holder e = record { place = place; is = e }
kept_there (claim ∷ claims) place holder e = by_kept (stays claim) place (kept_there claims) e
  where
    by_kept : (b : Bool) (place : ℕ)
        → ((place : ℕ) (holder : Option Holder) → slice_get (holders (kept_claims claims)) place ≡ Some holder → IsThere (holders claims) holder)
        → slice_get (holders (cond b (claim ∷ kept_claims claims) (kept_claims claims))) place ≡ Some holder
        → IsThere (holders (claim ∷ claims)) holder
    by_kept true zero others h = record { place = 0; is = h }
    by_kept true (suc place) others h = let there = others place holder h in record { place = suc there.place; is = there.is }
    by_kept false place others h = let there = others place holder h in record { place = suc there.place; is = there.is }

pub kept_held : (claims : List Claim) (node : ℕ) → IsHeldIn (holders (kept_claims claims)) node → IsHeldIn (holders claims) node
kept_held claims node held =
    let there = kept_there claims held.claim _ held.holds in record { claim = there.place; worker = held.worker; holds = there.is }

pub kept_fewer : (claims : List Claim) → length (kept_claims claims) ≤ length claims
kept_fewer [] = omega arith
kept_fewer (claim ∷ claims) = one_more (stays claim) (kept_fewer claims)
  where
    one_more : (b : Bool) → length (kept_claims claims) ≤ length claims
        → length (cond b (claim ∷ kept_claims claims) (kept_claims claims)) ≤ suc (length claims)
    one_more true few = omega arith
    one_more false few = omega arith

-- ---- marked entries
-- the move of an entry's commit
pub marked_move : (claims : List Claim) (tables : ℕ) (entry : Entry) (mark : IsMarked claims tables entry)
    → move_of claims entry.unit ≡ move_by mark.claim.status
marked_move claims tables entry mark = grind (arith, get_or_from_slice_get)

pub marked_within : (claims : List Claim) (tables : ℕ) (entry : Entry) → IsMarked claims tables entry → entry.unit ≤ length claims
marked_within claims tables entry mark = omega (arith, mark.unit, slice_get_within claims mark.place mark.claim mark.is)

-- with the same claim among other claims
pub marked_as : (claims more : List Claim) (tables later : ℕ) (entry : Entry) (mark : IsMarked claims tables entry) → tables ≤ later
    → slice_get more mark.place ≡ Some mark.claim → IsMarked more later entry
marked_as claims more tables later entry mark above there = grind (arith, above, there)

pub marked_push : (claims : List Claim) (next : Claim) (tables : ℕ) (entry : Entry) → IsMarked claims tables entry
    → IsMarked (claims ++ next ∷ []) tables entry
marked_push claims next tables entry mark = grind (arith, marked_as, get-append, mark)

-- its move stays
pub push_move : (claims : List Claim) (next : Claim) (tables : ℕ) (entry : Entry) → IsMarked claims tables entry
    → move_of (claims ++ next ∷ []) entry.unit ≡ move_of claims entry.unit
unfolding marked_push marked_as
push_move claims next tables entry mark =
    marked_move (claims ++ next ∷ []) tables entry (marked_push claims next tables entry mark) ∙ sym (marked_move claims tables entry mark)

-- a claim that is held is that of no entry
pub marked_apart : (before : List Claim) (claim : Claim) (after : List Claim) (tables : ℕ) (entry : Entry) → claim.status ≡ Held
    → (mark : IsMarked (before ++ claim ∷ after) tables entry) → mark.place ≢ length before
marked_apart before claim after tables entry held mark e = grind (arith, get_here, held, e)

pub marked_ended : (before : List Claim) (claim : Claim) (status : Status) (after : List Claim) (tables later : ℕ) (entry : Entry)
    → claim.status ≡ Held → tables ≤ later → IsMarked (before ++ claim ∷ after) tables entry
    → IsMarked (before ++ (record claim { status = status }) ∷ after) later entry
marked_ended before claim status after tables later entry held above mark =
    let new : Claim = record claim { status = status } in
    marked_as (before ++ claim ∷ after) (before ++ new ∷ after) tables later entry mark above
    (get_apart before claim new after mark.place mark.claim (marked_apart before claim after tables entry held mark) mark.is)

-- where a held claim ends, each other's move stays
pub same_move : (before : List Claim) (claim : Claim) (status : Status) (after : List Claim) (tables : ℕ) (entry : Entry) → claim.status ≡ Held
    → IsMarked (before ++ claim ∷ after) tables entry
    → move_of (before ++ (record claim { status = status }) ∷ after) entry.unit ≡ move_of (before ++ claim ∷ after) entry.unit
unfolding marked_ended marked_as
same_move before claim status after tables entry held mark =
    marked_move (before ++ (record claim { status = status }) ∷ after) tables entry
    (marked_ended before claim status after tables tables entry held (omega arith) mark)
    ∙ sym (marked_move (before ++ claim ∷ after) tables entry mark)

-- the move of the claim at a place
pub here_move : (before : List Claim) (claim : Claim) (after : List Claim)
    → move_of (before ++ claim ∷ after) (suc (length before)) ≡ move_by claim.status
here_move before claim after =
    let place : suc (length before) - 1 ≡ length before = omega arith in
    ap (λ i. move_by (get_or (before ++ claim ∷ after) i no_claim).status) place
    ∙ ap (λ (c : Claim). move_by c.status) (get_or-append_seam before claim after no_claim)
