-- The states of a unit behind one another: in the first m periods those of the front, and in the n behind them those of the back,
-- which begins with the state that the front leaves. A state that has to last is held over the border, since the back begins with the
-- time that it has lasted so far, or with less.
--
-- The state is that of being on, or that of being off.
use Rattle.std.proofs.Common.{◌≡◌, ℕ, zero, suc, ◌+◌, ◌-◌, ◌<◌, ◌≤◌, ⊎_elim, Bool, true, false, not, ◌&&◌, ◌==◌, refl, sym, ap, ◌∙◌, arith, IsTrue, if◌then◌else◌}
use Rattle.std.proofs.lemmas.Bool.{and_parts, cases_lt, not-true}
use Rattle.uc_model.specs.Prelude.{Commitment, state_before}
use Rattle.roll.specs.Prelude.{HasLasted}
use Rattle.roll.proofs.LastingChanges.{EachLasts}

-- a change to the state in period t
abbrev pub rises : Bool → Commitment → Commitment
rises initial state t = not (state_before initial state t) && state t

-- the states of the whole row, of its front and of its back; `required` is how long the state has to last, `earlier` how long it has
-- lasted initially, and `time` how long as the back begins, where it begins with it
pub record Joins (m n len required earlier time : ℕ) (initial held : Bool) (front back row : Commitment) : Type 0 where
  pub part : n ≤ len
  pub old : (t : ℕ) → t < m → row t ≡ front t
  pub new : (t : ℕ) → t < n → row (m + t) ≡ back t
  pub state : state_before initial row m ≡ held
  pub first : m ≡ 0 → time ≡ earlier
  pub lasted : 1 ≤ m → held ≡ true → (k : ℕ) × HasLasted front m k × (time ≤ k + (if (k == m) && initial then earlier else 0))

-- ---- the state in the periods before the back
pub before_old : (initial : Bool) (front row : Commitment) (m t : ℕ) → ((k : ℕ) → k < m → row k ≡ front k) → t < m
    → state_before initial row t ≡ state_before initial front t
before_old initial front row m zero old h = refl
before_old initial front row m (suc t) old h = old t (omega arith)

pub before_new : (initial held : Bool) (back row : Commitment) (m n t : ℕ) → ((k : ℕ) → k < n → row (m + k) ≡ back k)
    → state_before initial row m ≡ held → t < n → state_before initial row (m + t) ≡ state_before held back t
before_new initial held back row m n zero new state h = grind (arith, new, state, h)
before_new initial held back row m n (suc t) new state h = grind (arith, new, state, h)

-- the last state of the front
pub last_of : (initial : Bool) (row : Commitment) (m : ℕ) → 1 ≤ m → state_before initial row m ≡ row (m - 1)
last_of initial row zero h = absurd (omega arith)
last_of initial row (suc m) h = let same : m ≡ suc m - 1 = omega arith in ap row same

-- ---- a state that has lasted
-- where it stands in each period of the front since s, and not before, it has lasted since s and no longer
since : (m k s required earlier time : ℕ) (initial : Bool) (front : Commitment) → s < m → HasLasted front m k → front (m - 1) ≡ true
    → state_before initial front s ≡ false → time ≤ k + (if (k == m) && initial then earlier else 0) → time ≤ m - s
since m k zero required earlier time initial front h has on start most = grind (arith, h, has, on, start, most)
since m k (suc s) required earlier time initial front h has on start most = grind (arith, h, has, on, start, most)

-- where it stands in each period of the front, and did so before, it has lasted for m periods and the time before
from_start : (m k earlier time : ℕ) (initial : Bool) (front : Commitment) → HasLasted front m k → ((t : ℕ) → t < m → front t ≡ true)
    → time ≤ k + (if (k == m) && initial then earlier else 0) → time ≤ m + earlier
from_start m k earlier time initial front has all most = grind (arith, has, all, most)

-- ---- M2 or M3: the initial state lasts
abbrev pub HoldsInitially : ℕ → ℕ → Bool → Commitment → Type 0
HoldsInitially periods most initial state = (t : ℕ) → t < periods → initial ≡ true → t < most → state t ≡ true

pub initial_joined : (m n len required earlier time : ℕ) (initial held : Bool) (front back row : Commitment)
    → Joins m n len required earlier time initial held front back row
    → HoldsInitially m (required - earlier) initial front → HoldsInitially len (required - time) held back
    → HoldsInitially (m + n) (required - earlier) initial row
initial_joined m n len required earlier time initial held front back row joins old new t within first early = ⊎_elim
    (λ (before : t < m). joins.old t before ∙ old t before first early)
    (λ (behind : m ≤ t).
    let k = t - m in
    let place : m + k ≡ t = omega arith in
    let inside : k < n = omega arith in
    ap row (sym place) ∙ joins.new k inside ∙ later k behind place (omega (arith, joins.part)))
    (cases_lt t m)
  where
    later : (k : ℕ) → m ≤ t → m + k ≡ t → k < len → back k ≡ true
    later k behind place inside = ⊎_elim
        (λ (none : m < 1).
        let nought : m ≡ 0 = omega arith in
        let same = joins.first nought in
        let holds : held ≡ true = sym joins.state ∙ ap (state_before initial row) nought ∙ first in
        new k inside holds (omega arith))
        (λ (some : 1 ≤ m).
        let all = λ (i : ℕ) (h : i < m). old i h first (omega arith) in
        let holds : held ≡ true = sym joins.state ∙ last_of initial row m some ∙ joins.old (m - 1) (omega arith) ∙ all (m - 1) (omega arith) in
        let has = joins.lasted some holds in
        let most = from_start m has.0 earlier time initial front has.1 all has.2 in
        new k inside holds (omega arith))
        (cases_lt m 1)

-- ---- M4 or M5: each change to the state lasts
pub lasting_joined : (m n len required earlier time : ℕ) (initial held : Bool) (front back row : Commitment)
    → Joins m n len required earlier time initial held front back row
    → EachLasts m required (rises initial front) front → HoldsInitially len (required - time) held back
    → EachLasts len required (rises held back) back → EachLasts (m + n) required (rises initial row) row
lasting_joined m n len required earlier time initial held front back row joins old start new s t since_s within until change = ⊎_elim
    (λ (before : t < m). joins.old t before ∙ old s t since_s before until (old_change (omega arith)))
    (λ (behind : m ≤ t).
    let k = t - m in
    let place : m + k ≡ t = omega arith in
    let inside : k < n = omega arith in
    ap row (sym place) ∙ joins.new k inside ∙ ⊎_elim
    (λ (early : s < m). over k early place (omega (arith, joins.part)))
    (λ (late : m ≤ s). new (s - m) k (omega arith) (omega (arith, joins.part)) (omega arith) (new_change late (omega arith)))
    (cases_lt s m))
    (cases_lt t m)
  where
    old_change : s < m → IsTrue (rises initial front s)
    old_change h =
        let was = before_old initial front row m s joins.old h in
        let now = joins.old s h in
        sym (λ i. not (was i) && now i) ∙ change

    new_change : m ≤ s → s - m < n → IsTrue (rises held back (s - m))
    new_change h inside =
        let place : m + (s - m) ≡ s = omega arith in
        let was = before_new initial held back row m n (s - m) joins.new joins.state inside in
        let now = joins.new (s - m) inside in
        sym (λ i. not (was i) && now i) ∙ ap (rises initial row) place ∙ change

    -- the change in the front holds the state over the border
    over : (k : ℕ) → s < m → m + k ≡ t → k < len → back k ≡ true
    over k early place inside =
        let here = old_change early in
        let last = old s (m - 1) (omega arith) (omega arith) (omega arith) here in
        let holds : held ≡ true = sym joins.state ∙ last_of initial row m (omega arith) ∙ joins.old (m - 1) (omega arith) ∙ last in
        let has = joins.lasted (omega arith) holds in
        let was = not-true (state_before initial front s) (and_parts (not (state_before initial front s)) (front s) here).0 in
        let short = since m has.0 s required earlier time initial front early has.1 last was has.2 in
        start k inside holds (omega arith)
