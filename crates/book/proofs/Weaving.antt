-- The replay as a list of events: what it is with one claim or one commit more, with other units, and with one claim left out.
use Rattle.std.proofs.Common.{◌≡◌, ℕ, ◌+◌, ◌-◌, ◌≤◌, true, false, cond, List, [], ◌∷◌, ◌++◌, length, map, take, drop, refl, ap, sym, ◌∙◌, subst, arith, ⊎_elim, sum_by, append_assoc}
use Rattle.std.proofs.Math.Seq.{take-length, drop-length, take-add}
use Rattle.std.proofs.lemmas.Bool.{cases_Bool}
use Rattle.std.proofs.lemmas.List.{take-append-drop, take-append-le, drop-append-le, take-map, drop-map, drop-drop, length-drop, map-append}
use Rattle.std.proofs.lemmas.List.Sums.{sum_by-append, sum_by-cons, sum_by-take-drop}
use Rattle.search_machine.specs.declared.event.Event.{Event}
use Rattle.search_machine.specs.declared.event.Event.TheVariants as event
use Rattle.book.specs.Prelude.{Claim, Status, stays, kept_claims, IsRising, claim_event, woven}

-- ---- rising lists
pub rising_weak : (least less entries : ℕ) (claims : List Claim) → less ≤ least → IsRising least entries claims → IsRising less entries claims
rising_weak least less entries [] most rising = let it : least ≤ entries = rising in omega arith
rising_weak least less entries (claim ∷ claims) most rising = let it : least ≤ claim.behind = rising.0 in (omega arith, rising.1)

pub rising_kept : (least entries : ℕ) (claims : List Claim) → IsRising least entries claims → IsRising least entries (kept_claims claims)
rising_kept least entries [] rising = rising
rising_kept least entries (claim ∷ claims) rising =
    let later = rising_kept claim.behind entries claims rising.1 in
    ⊎_elim
    (λ (e : stays claim ≡ true).
    subst (λ b. IsRising least entries (cond b (claim ∷ kept_claims claims) (kept_claims claims))) (sym e) (rising.0, later))
    (λ (e : stays claim ≡ false).
    subst (λ b. IsRising least entries (cond b (claim ∷ kept_claims claims) (kept_claims claims))) (sym e)
    (rising_weak claim.behind least entries (kept_claims claims) rising.0 later))
    (cases_Bool (stays claim))

pub rising_end : (least entries : ℕ) (claims : List Claim) → IsRising least entries claims → least ≤ entries
rising_end least entries [] rising = rising
rising_end least entries (claim ∷ claims) rising =
    let first : least ≤ claim.behind = rising.0 in
    let later = rising_end claim.behind entries claims rising.1 in
    omega arith

pub rising_more : (least entries more : ℕ) (claims : List Claim) → entries ≤ more → IsRising least entries claims → IsRising least more claims
rising_more least entries more [] most rising = let it : least ≤ entries = rising in omega arith
rising_more least entries more (claim ∷ claims) most rising = (rising.0, rising_more claim.behind entries more claims most rising.1)

pub rising_push : (least entries : ℕ) (claims : List Claim) (next : Claim) → next.behind ≡ entries → IsRising least entries claims
    → IsRising least entries (claims ++ next ∷ [])
rising_push least entries [] next is rising = let it : least ≤ entries = rising in (omega arith, omega arith)
rising_push least entries (claim ∷ claims) next is rising = (rising.0, rising_push claim.behind entries claims next is rising.1)

-- another status is no matter
pub rising_same : (least entries : ℕ) (before : List Claim) (claim : Claim) (status : Status) (after : List Claim)
    → IsRising least entries (before ++ claim ∷ after) → IsRising least entries (before ++ (record claim { status = status }) ∷ after)
rising_same least entries [] claim status after rising = rising
rising_same least entries (first ∷ before) claim status after rising =
    (rising.0, rising_same first.behind entries before claim status after rising.1)

pub woven_same : (put : ℕ) (before : List Claim) (claim : Claim) (status : Status) (after : List Claim) (commits : List Event)
    → woven put (before ++ (record claim { status = status }) ∷ after) commits ≡ woven put (before ++ claim ∷ after) commits
woven_same put [] claim status after commits = refl
woven_same put (first ∷ before) claim status after commits =
    grind (arith, (woven_same first.behind before claim status after (drop (first.behind - put) commits)))

-- ---- one claim more, and one commit more
pub woven_claim : (put : ℕ) (claims : List Claim) (next : Claim) (commits : List Event) → IsRising put (put + length commits) claims
    → next.behind ≡ put + length commits → woven put (claims ++ next ∷ []) commits ≡ woven put claims commits ++ claim_event next ∷ []
woven_claim put [] next commits rising is =
    let all : next.behind - put ≡ length commits = omega arith in
    (λ i. take (all i) commits ++ claim_event next ∷ drop (all i) commits)
    ∙ (λ i. take-length commits i ++ claim_event next ∷ drop-length commits i)
woven_claim put (claim ∷ claims) next commits rising is =
    let first = take (claim.behind - put) commits in
    let rest = drop (claim.behind - put) commits in
    let size : length rest ≡ length commits - (claim.behind - put) = length-drop (claim.behind - put) commits in
    let low : put ≤ claim.behind = rising.0 in
    let high : claim.behind ≤ put + length commits = rising_end claim.behind (put + length commits) claims rising.1 in
    let total : put + length commits ≡ claim.behind + length rest = omega (arith, size) in
    let later = woven_claim claim.behind claims next rest (subst (λ n. IsRising claim.behind n claims) total rising.1) (is ∙ total) in
    ap (λ xs. first ++ claim_event claim ∷ xs) later
    ∙ sym (append_assoc first (claim_event claim ∷ woven claim.behind claims rest) (claim_event next ∷ []))

pub woven_commit : (put : ℕ) (claims : List Claim) (commits : List Event) (next : Event) → IsRising put (put + length commits) claims
    → woven put claims (commits ++ next ∷ []) ≡ woven put claims commits ++ next ∷ []
woven_commit put [] commits next rising = refl
woven_commit put (claim ∷ claims) commits next rising =
    let n = claim.behind - put in
    let first = take n commits in
    let rest = drop n commits in
    let size : length rest ≡ length commits - n = length-drop n commits in
    let low : put ≤ claim.behind = rising.0 in
    let high : claim.behind ≤ put + length commits = rising_end claim.behind (put + length commits) claims rising.1 in
    let total : put + length commits ≡ claim.behind + length rest = omega (arith, size) in
    let within : n ≤ length commits = omega arith in
    let later = woven_commit claim.behind claims rest next (subst (λ k. IsRising claim.behind k claims) total rising.1) in
    (λ i. take-append-le n commits (next ∷ []) within i
    ++ claim_event claim ∷ woven claim.behind claims (drop-append-le n commits (next ∷ []) within i))
    ∙ ap (λ xs. first ++ claim_event claim ∷ xs) later
    ∙ sym (append_assoc first (claim_event claim ∷ woven claim.behind claims rest) (next ∷ []))

-- ---- other units
pub woven_map : (f : Event → Event) → ((claim : Claim) → f (claim_event claim) ≡ claim_event claim) → (put : ℕ) (claims : List Claim)
    (commits : List Event) → woven put claims (map f commits) ≡ map f (woven put claims commits)
woven_map f fixed put [] commits = refl
woven_map f fixed put (claim ∷ claims) commits =
    let n = claim.behind - put in
    let rest = woven claim.behind claims (drop n commits) in
    (λ i. take-map f n commits i ++ claim_event claim ∷ woven claim.behind claims (drop-map f n commits i))
    ∙ ap (λ xs. map f (take n commits) ++ claim_event claim ∷ xs) (woven_map f fixed claim.behind claims (drop n commits))
    ∙ (λ i. map f (take n commits) ++ sym (fixed claim) i ∷ map f rest)
    ∙ sym (map-append f (take n commits) (claim_event claim ∷ rest))

-- ---- one claim left out
abbrev pub claim_weight : Event → ℕ
claim_weight (event.Claim worker node) = 1
claim_weight _ = 0

-- how many of the events are claims
abbrev pub claims_in : List Event → ℕ
claims_in events = sum_by claim_weight events

-- one list is another without a claim that so many claims stand before
pub record IsLeftOut (all less : List Event) (claim : Event) (count : ℕ) : Type 0 where
  pub before : List Event
  pub after : List Event
  pub all_is : all ≡ before ++ claim ∷ after
  pub less_is : less ≡ before ++ after
  pub claims : claims_in before ≡ count

woven_from : (put entries : ℕ) (claim : Claim) (claims : List Claim) (commits : List Event) → put ≤ claim.behind
    → IsRising claim.behind entries claims
    → woven put claims commits ≡ take (claim.behind - put) commits ++ woven claim.behind claims (drop (claim.behind - put) commits)
woven_from put entries claim [] commits low rising = sym (take-append-drop (claim.behind - put) commits)
woven_from put entries claim (next ∷ claims) commits low rising =
    let n = claim.behind - put in
    let k = next.behind - claim.behind in
    let above : claim.behind ≤ next.behind = rising.0 in
    let both : next.behind - put ≡ n + k = omega arith in
    let rest = woven next.behind claims (drop k (drop n commits)) in
    (λ i. take (both i) commits ++ claim_event next ∷ woven next.behind claims (drop (both i) commits))
    ∙ (λ i. take-add n k commits i ++ claim_event next ∷ woven next.behind claims (sym (drop-drop k n commits) i))
    ∙ append_assoc (take n commits) (take k (drop n commits)) (claim_event next ∷ rest)

pub woven_less : (put entries : ℕ) (before : List Claim) (claim : Claim) (after : List Claim) (commits : List Event) → claims_in commits ≡ 0
    → IsRising put entries (before ++ claim ∷ after)
    → IsLeftOut (woven put (before ++ claim ∷ after) commits) (woven put (before ++ after) commits) (claim_event claim) (length before)
woven_less put entries [] claim after commits none rising = grind (arith, woven_from, sum_by-take-drop, none, rising)
woven_less put entries (first ∷ before) claim after commits none rising =
    let n = first.behind - put in
    let parts = sum_by-take-drop claim_weight commits n in
    let later = woven_less first.behind entries before claim after (drop n commits) (omega (arith, parts, none)) rising.1 in
    let front = take n commits in
    let own = claim_event first in
    record {
      before = front ++ own ∷ later.before;
      after = later.after;
      all_is = ap (λ xs. front ++ own ∷ xs) later.all_is ∙ sym (append_assoc front (own ∷ later.before) (claim_event claim ∷ later.after));
      less_is = ap (λ xs. front ++ own ∷ xs) later.less_is ∙ sym (append_assoc front (own ∷ later.before) later.after);
      claims = omega (
        arith,
        sum_by-append claim_weight front (own ∷ later.before),
        sum_by-cons claim_weight own later.before,
        later.claims,
        parts,
        none,
      );
    }
