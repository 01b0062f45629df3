-- A run without one of its claims, which was never committed: it is a run again, once the later units are numbered anew, and gives the
-- same but for this claim.
use Rattle.std.proofs.Common.{◌≡◌, ◌≢◌, ℕ, zero, suc, ◌+◌, ◌-◌, ◌<◌, ◌≤◌, ◌⊎◌, inl, inr, ⊎_elim, Bool, List, [], ◌∷◌, ◌++◌, length, map, refl, ap, sym, ◌∙◌, subst, arith, Option, Some, None, slice_get, set, length-append, length-set, append-nil, slice_index_or}
use Rattle.std.proofs.lemmas.Bool.{cases_eq}
use Rattle.std.proofs.lemmas.List.{map-append}
use Rattle.std.proofs.lemmas.List.Sums.{sum_by-cons}
use Rattle.std.proofs.lemmas.Option.{slice_get_within}
use Rattle.branch_tree.proofs.Changes.{get-append, get-set_same, get-set_other}
use Rattle.search_machine.specs.Prelude.{Machine, holder_in, holder_of, IsHeldIn, IsHolding, IsTrueEvent, IsTrueRunBy, after_all, AnyCost, IsLegalBy, committed, committed_by, after}
use Rattle.search_machine.specs.declared.holder.Holder.{Holder}
use Rattle.search_machine.specs.declared.event.Move.{Move}
use Rattle.branch_tree.specs.declared.found.Outcome.{Outcome}
use Rattle.dual_model.specs.declared.table.Table.{Table}
use Rattle.uc_model.specs.declared.instance.Instance.{Instance}
use Rattle.search_machine.specs.declared.event.Event.{Event}
use Rattle.search_machine.specs.declared.event.Event.TheVariants as event
use Rattle.search_machine.proofs.Claims.{holder_place}
use Rattle.book.proofs.Likeness.{renamed, legal_renamed, true_renamed, after_commit, committed_renamed}
use Rattle.book.proofs.Weaving.{claim_weight, claims_in}

-- ---- an item left out of a list, and the numbers that count past it
abbrev pub without : {A : Type 0} → List A → ℕ → List A
without [] place = []
without (x ∷ xs) zero = xs
without (x ∷ xs) (suc place) = x ∷ without xs place

-- a unit's number without the claim at this place
abbrev pub less_one : ℕ → ℕ → ℕ
less_one zero place = 0
less_one (suc unit) zero = unit
less_one (suc unit) (suc place) = suc (less_one unit place)

pub without_here : {A : Type 0} (xs : List A) (y : A) (ys : List A) → without (xs ++ y ∷ ys) (length xs) ≡ xs ++ ys
without_here [] y ys = refl
without_here (x ∷ xs) y ys = ap (λ l. x ∷ l) (without_here xs y ys)

without_past : {A : Type 0} (xs : List A) (place : ℕ) → length xs ≤ place → without xs place ≡ xs
without_past [] place past = refl
without_past (x ∷ xs) zero past = absurd (omega arith)
without_past (x ∷ xs) (suc place) past = ap (λ l. x ∷ l) (without_past xs place (omega arith))

without_push : {A : Type 0} (xs : List A) (y : A) (place : ℕ) → length xs ≢ place → without (xs ++ y ∷ []) place ≡ without xs place ++ y ∷ []
without_push [] y zero differ = absurd (differ refl)
without_push [] y (suc place) differ = refl
without_push (x ∷ xs) y zero differ = refl
without_push (x ∷ xs) y (suc place) differ = ap (λ l. x ∷ l) (without_push xs y place (λ e. differ (ap suc e)))

other_number : (i place : ℕ) → i ≢ place → 0 < less_one (suc i) place
other_number zero zero differ = absurd (differ refl)
other_number (suc i) zero differ = omega arith
other_number zero (suc place) differ = omega arith
other_number (suc i) (suc place) differ = omega arith

without_set : {A : Type 0} (xs : List A) (i place k : ℕ) (y : A) → i ≢ place → less_one (suc i) place ≡ suc k
    → without (set xs i y) place ≡ set (without xs place) k y
without_set [] i place k y differ e = refl
without_set (x ∷ xs) zero zero k y differ e = absurd (differ refl)
without_set (x ∷ xs) zero (suc place) k y differ e = let is : 0 ≡ k = omega (arith, e) in ap (λ j. set (x ∷ without xs place) j y) is
without_set (x ∷ xs) (suc i) zero k y differ e = let is : i ≡ k = omega (arith, e) in ap (λ j. set xs j y) is
without_set (x ∷ xs) (suc i) (suc place) zero y differ e = absurd (omega (arith, e, other_number i place (λ h. differ (ap suc h))))
without_set (x ∷ xs) (suc i) (suc place) (suc k) y differ e =
    ap (λ l. x ∷ l) (without_set xs i place k y (λ h. differ (ap suc h)) (omega (arith, e)))

-- who holds another unit holds it by its new number
pub holder_without : (claims : List (Option Holder)) (place other : ℕ) (holder : Holder) → other ≢ place
    → slice_get claims other ≡ Some (Some holder) → holder_in (without claims place) (less_one (suc other) place) ≡ Some holder
holder_without [] place other holder differ e = absurd (cc)
holder_without (x ∷ claims) zero zero holder differ e = absurd (differ refl)
holder_without (x ∷ claims) zero (suc other) holder differ e = held claims other e
  where
    held : (xs : List (Option Holder)) (i : ℕ) → slice_get xs i ≡ Some (Some holder) → slice_index_or xs i None ≡ Some holder
    held [] i h = absurd (cc)
    held (y ∷ xs) zero h = cc
    held (y ∷ xs) (suc i) h = held xs i h
holder_without (x ∷ claims) (suc place) zero holder differ e = cc
holder_without (x ∷ claims) (suc place) (suc other) holder differ e =
    under x (without claims place) (less_one (suc other) place) (holder_without claims place other holder (λ h. differ (ap suc h)) e)
  where
    under : (y : Option Holder) (xs : List (Option Holder)) (unit : ℕ) → holder_in xs unit ≡ Some holder → holder_in (y ∷ xs) (suc unit) ≡ Some holder
    under y xs zero h = absurd (cc)
    under y xs (suc unit) h = h

-- what is held without the claim was held
record IsSomewhere {A : Type 0} (xs : List A) (y : A) : Type 0 where
  pub place : ℕ
  pub is : slice_get xs place ≡ Some y

get_without : {A : Type 0} (xs : List A) (place i : ℕ) (y : A) → slice_get (without xs place) i ≡ Some y → IsSomewhere xs y
get_without [] place i y e = record { place = i; is = e }
get_without (x ∷ xs) zero i y e = record { place = suc i; is = e }
get_without (x ∷ xs) (suc place) zero y e = record { place = 0; is = e }
get_without (x ∷ xs) (suc place) (suc i) y e =
    let later = get_without xs place i y e in record { place = suc later.place; is = later.is }

was_held : (claims : List (Option Holder)) (place node : ℕ) → IsHeldIn (without claims place) node → IsHeldIn claims node
was_held claims place node held =
    let at = get_without claims place held.claim _ held.holds in record { claim = at.place; worker = held.worker; holds = at.is }

fewer_without : {A : Type 0} (xs : List A) (place : ℕ) → length (without xs place) ≤ length xs
fewer_without [] place = omega arith
fewer_without (x ∷ xs) zero = omega arith
fewer_without (x ∷ xs) (suc place) = let later = fewer_without xs place in omega arith

-- ---- the claims along a run
weight_after : (m : Machine) (happens : Event) → length (after m happens).claims ≡ length m.claims + claim_weight happens
weight_after m (event.Claim worker node) = length-append m.claims (Some (record { worker = worker; node = node }) ∷ [])
weight_after m (event.Commit worker unit table exact outcome action) = by_holder (holder_of m unit)
  where
    by_holder : (holder : Option Holder) → length (committed_by m worker unit table exact outcome action holder).claims ≡ length m.claims + 0
    by_holder None = omega arith
    by_holder (Some holder) = omega (arith, length-set m.claims (unit - 1) None)
weight_after m _ = omega arith

pub weight_after_all : (m : Machine) (events : List Event) → length (after_all m events).claims ≡ length m.claims + claims_in events
weight_after_all m [] = omega arith
weight_after_all m (first ∷ events) =
    omega (arith, weight_after_all (after m first) events, weight_after m first, sum_by-cons claim_weight first events)

-- a claim that ended stays ended
stays_after : (m : Machine) (happens : Event) (place : ℕ) → slice_get m.claims place ≡ Some None → slice_get (after m happens).claims place ≡ Some None
stays_after m (event.Claim worker node) place e = get-append m.claims (Some (record { worker = worker; node = node }) ∷ []) place None e
stays_after m (event.Commit worker unit table exact outcome action) place e = by_holder (holder_of m unit)
  where
    by_holder : (holder : Option Holder) → slice_get (committed_by m worker unit table exact outcome action holder).claims place ≡ Some None
    by_holder None = e
    by_holder (Some holder) = ⊎_elim
        (λ (same : place ≡ unit - 1). subst (λ i. slice_get (set m.claims i None) place ≡ Some None) same (get-set_same m.claims place None None e))
        (λ (differ : place ≡ unit - 1 → ⊥). get-set_other m.claims (unit - 1) place None None differ e)
        (cases_eq place (unit - 1))
stays_after m _ place e = e

stays_after_all : (m : Machine) (events : List Event) (place : ℕ) → slice_get m.claims place ≡ Some None
    → slice_get (after_all m events).claims place ≡ Some None
stays_after_all m [] place e = e
stays_after_all m (first ∷ events) place e = stays_after_all (after m first) events place (stays_after m first place e)

-- ---- the run without the claim
abbrev pub units_of : ℕ → ℕ → ℕ
units_of place unit = less_one unit place

abbrev pub state_without : ℕ → Machine → Machine
state_without place m = renamed (units_of place) (without m.claims place) m.desks m

-- the event with other units
abbrev pub event_anew : (ℕ → ℕ) → Event → Event
event_anew f (event.Commit worker unit table exact outcome action) = event.Commit worker (f unit) table exact outcome action
event_anew f happens = happens

abbrev pub run_anew : ℕ → List Event → List Event
run_anew place events = map (event_anew (units_of place)) events

-- the run never claims at the place, or the claim there was made before and isn't committed in it
abbrev IsBeside : ℕ → Machine → List Event → Type 0
IsBeside place m events =
    (length (after_all m events).claims ≤ place) ⊎ ((place < length m.claims) × (slice_get (after_all m events).claims place ≢ Some None))

record IsSimulated (instance : Instance) (place : ℕ) (m : Machine) (events : List Event) : Type 0 where
  run : IsTrueRunBy AnyCost instance (state_without place m) (run_anew place events)
  ends : after_all (state_without place m) (run_anew place events) ≡ state_without place (after_all m events)

-- one event, and those after it
simulated_more : (instance : Instance) (place : ℕ) (m : Machine) (first : Event) (events : List Event)
    → IsLegalBy AnyCost (state_without place m) (event_anew (units_of place) first)
    → IsTrueEvent instance (state_without place m) (event_anew (units_of place) first)
    → after (state_without place m) (event_anew (units_of place) first) ≡ state_without place (after m first)
    → IsSimulated instance place (after m first) events → IsSimulated instance place m (first ∷ events)
simulated_more instance place m first events legal told step later = grind (arith, legal, told, step, later)

beside_more : (place : ℕ) (m : Machine) (first : Event) (events : List Event) → IsBeside place m (first ∷ events)
    → IsBeside place (after m first) events
beside_more place m first events beside = grind (arith, weight_after, beside)

-- a claim of the run is at another place
other_claim : (place : ℕ) (m : Machine) (worker node : ℕ) (events : List Event) → IsBeside place m (event.Claim worker node ∷ events)
    → length m.claims ≢ place
other_claim place m worker node events beside e = ⊎_elim
    (λ (l : length (after_all (after m (event.Claim worker node)) events).claims ≤ place).
    absurd (omega (arith, l, e, weight_after m (event.Claim worker node), weight_after_all (after m (event.Claim worker node)) events)))
    (λ (r : (place < length m.claims) × (slice_get (after_all (after m (event.Claim worker node)) events).claims place ≢ Some None)).
    absurd (omega (arith, r.0, e)))
    beside

-- so is one that the run commits
other_commit : (place : ℕ) (m : Machine) (worker unit node : ℕ) (table : Table) (exact : Bool) (outcome : Outcome) (action : Move)
    (events : List Event) (claim : ℕ) → IsHolding m worker unit node → unit ≡ suc claim
    → slice_get m.claims claim ≡ Some (Some (record { worker = worker; node = node }))
    → IsBeside place m (event.Commit worker unit table exact outcome action ∷ events) → claim ≢ place
other_commit place m worker unit node table exact outcome action events claim holds unit_is is beside e =
    let now = event.Commit worker unit table exact outcome action in
    let within = slice_get_within m.claims claim _ is in
    ⊎_elim
    (λ (l : length (after_all (after m now) events).claims ≤ place).
    absurd (omega (arith, l, e, within, weight_after m now, weight_after_all (after m now) events)))
    (λ (r : (place < length m.claims) × (slice_get (after_all (after m now) events).claims place ≢ Some None)).
    let here : unit - 1 ≡ place = omega (arith, unit_is, e) in
    let gone : slice_get (after m now).claims place ≡ Some None =
    ap (λ (x : Machine). slice_get x.claims place) (after_commit m worker unit node table exact outcome action holds)
    ∙ ap (λ k. slice_get (set m.claims k None) place) here
    ∙ get-set_same m.claims place None _ (subst (λ k. slice_get m.claims k ≡ Some (Some (record { worker = worker; node = node }))) e is) in
    r.1 (stays_after_all (after m now) events place gone))
    beside

simulated : (instance : Instance) (place : ℕ) (m : Machine) (events : List Event) → IsTrueRunBy AnyCost instance m events
    → IsBeside place m events → IsSimulated instance place m events
simulated instance place m [] run beside = record { run = tt; ends = refl }
simulated instance place m (event.Claim worker node ∷ events) run beside =
    let now = event.Claim worker node in
    let differ = other_claim place m worker node events beside in
    let legal = run.0 in
    let some = fewer_without m.claims place in
    simulated_more instance place m now events (
      legal.0,
      record {
        left = omega (arith, some, legal.1.left);
        open_node = record { live = legal.1.open_node.live; unheld = λ held. legal.1.open_node.unheld (was_held m.claims place node held) };
      },
    )
    tt
    (ap (λ claims. record (state_without place m) { claims = claims })
    (sym (without_push m.claims (Some (record { worker = worker; node = node })) place differ)))
    (simulated instance place (after m now) events run.2 (beside_more place m now events beside))
simulated instance place m (event.Commit worker unit table exact outcome action ∷ events) run beside =
    let now = event.Commit worker unit table exact outcome action in
    let legal = run.0 in
    let node = legal.1.node in
    let own : Holder = record { worker = worker; node = node } in
    let at = holder_place m.claims unit own legal.1.holds in
    let differ = other_commit place m worker unit node table exact outcome action events at.0 legal.1.holds at.1 at.2 beside in
    let f = units_of place in
    let claims = without m.claims place in
    let held = λ (holder : Holder) (is : holder_of m unit ≡ Some holder).
    let there = holder_place m.claims unit holder is in
    let same : there.0 ≡ at.0 = omega (arith, there.1, at.1) in
    subst (λ u. holder_in claims (less_one u place) ≡ Some holder) (sym there.1)
    (holder_without m.claims place there.0 holder (λ e. differ (sym same ∙ e)) there.2) in
    let here : at.0 ≡ unit - 1 = omega (arith, at.1) in
    let number : less_one (suc at.0) place ≡ suc (f unit - 1) =
    omega (arith, other_number at.0 place differ, ap (λ u. less_one u place) at.1) in
    let step : after (state_without place m) (event_anew f now) ≡ state_without place (after m now) =
    after_commit (state_without place m) worker (f unit) node table exact outcome action (held own legal.1.holds)
    ∙ committed_renamed f claims m.desks m worker unit node table exact outcome action
    ∙ ap (λ cs. renamed f cs (committed m worker unit node table exact outcome action).desks (committed m worker unit node table exact outcome action))
    (sym (without_set m.claims at.0 place (f unit - 1) None differ number)
    ∙ ap (λ k. without (set m.claims k None) place) here)
    ∙ ap (state_without place) (sym (after_commit m worker unit node table exact outcome action legal.1.holds)) in
    simulated_more instance place m now events
    (legal_renamed f claims m.desks m worker unit table exact outcome action refl held legal)
    (true_renamed instance f claims m.desks m worker unit table exact outcome action held legal run.1)
    step
    (simulated instance place (after m now) events run.2 (beside_more place m now events beside))
simulated instance place m (happens ∷ events) run beside =
    simulated_more instance place m happens events run.0 run.1 refl
    (simulated instance place (after m happens) events run.2 (beside_more place m happens events beside))

-- ---- runs one after another
pub after_all-append : (m : Machine) (first events : List Event) → after_all m (first ++ events) ≡ after_all (after_all m first) events
after_all-append m [] events = refl
after_all-append m (happens ∷ first) events = after_all-append (after m happens) first events

pub run_parts : (instance : Instance) (m : Machine) (first events : List Event) → IsTrueRunBy AnyCost instance m (first ++ events)
    → IsTrueRunBy AnyCost instance m first × IsTrueRunBy AnyCost instance (after_all m first) events
run_parts instance m [] events run = (tt, run)
run_parts instance m (happens ∷ first) events run =
    let later = run_parts instance (after m happens) first events run.2 in ((run.0, run.1, later.0), later.1)

pub run_joined : (instance : Instance) (m : Machine) (first events : List Event) → IsTrueRunBy AnyCost instance m first
    → IsTrueRunBy AnyCost instance (after_all m first) events → IsTrueRunBy AnyCost instance m (first ++ events)
run_joined instance m [] events run later = later
run_joined instance m (happens ∷ first) events run later =
    (run.0, run.1, run_joined instance (after m happens) first events run.2 later)

-- ---- the law: a claim that isn't committed may be left out
pub record IsRunWithout (instance : Instance) (place : ℕ) (start : Machine) (whole less : List Event) : Type 0 where
  pub run : IsTrueRunBy AnyCost instance start (run_anew place less)
  pub ends : after_all start (run_anew place less) ≡ state_without place (after_all start whole)

pub left_out : (instance : Instance) (place : ℕ) (start : Machine) (before : List Event) (worker node : ℕ) (later : List Event)
    → state_without place start ≡ start → length start.claims ≡ 0 → claims_in before ≡ place
    → IsTrueRunBy AnyCost instance start (before ++ event.Claim worker node ∷ later)
    → slice_get (after_all start (before ++ event.Claim worker node ∷ later)).claims place ≢ Some None
    → IsRunWithout instance place start (before ++ event.Claim worker node ∷ later) (before ++ later)
left_out instance place start before worker node later fixed none count run open_there =
    let now = event.Claim worker node in
    let parts = run_parts instance start before (now ∷ later) run in
    let first = after_all start before in
    let second = after first now in
    let joined = after_all-append start before (now ∷ later) in
    let size : length first.claims ≡ place = omega (arith, weight_after_all start before, none, count) in
    let grown = weight_after first now in
    let one = simulated instance place start before parts.0 (inl (omega (arith, size))) in
    let two = simulated instance place second later parts.1.2
    (inr (omega (arith, size, grown), subst (λ (x : Machine). slice_get x.claims place ≢ Some None) joined open_there)) in
    let holder : Option Holder = Some (record { worker = worker; node = node }) in
    let same : state_without place first ≡ state_without place second =
    ap (λ claims. renamed (units_of place) claims first.desks first)
    (without_past first.claims place (omega (arith, size))
    ∙ sym (append-nil first.claims)
    ∙ sym (without_here first.claims holder [])
    ∙ ap (without (first.claims ++ holder ∷ [])) size) in
    let middle : after_all start (run_anew place before) ≡ state_without place second =
    ap (λ x. after_all x (run_anew place before)) (sym fixed) ∙ one.ends ∙ same in
    let split = map-append (event_anew (units_of place)) before later in
    record {
      run = grind (arith, run_joined, instance, start, split, place, before, later, fixed, one, middle, two);
      ends = grind (arith, after_all-append, start, split, place, before, later, middle, two, joined);
    }
