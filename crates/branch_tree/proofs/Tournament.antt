-- A tournament of minima: where each entry is the lesser of its place's value and the entries just below, each is the least of the
-- values there and below, and the other way round; a place's entry made anew, a value written or added; the first entry.
use Rattle.std.proofs.Common.{◌≡◌, ℕ, zero, suc, ◌+◌, ◌-◌, ◌*◌, ◌/◌, ◌<◌, ◌≤◌, ◌⊎◌, List, [], ◌∷◌, ◌++◌, length, get_or, set, ℤ, Option, None, refl, ap, sym, ◌∙◌, subst, arith, inl, inr, ⊎_elim, length-append, length-set}
use Rattle.std.proofs.lemmas.Bool.{cases_lt, cases_eq}
use Rattle.std.proofs.lemmas.List.{get_or-set_same, get_or-set_other, get_or_past}
use Rattle.branch_tree.specs.StoredTree.{AtMost, lesser_bound}
use Rattle.branch_tree.specs.inside.Minima.{IsJustBelow, IsStepsBelow, IsBelow, IsLeastOf, IsTournament, lesser_at, IsMendedBut}
use Rattle.branch_tree.proofs.Lesser.{at_most_through, at_most_both, lesser_first, lesser_greatest}

-- the entry of a place is the lesser of its value and the entries just below it
abbrev IsLesserAt : List (Option ℤ) → List (Option ℤ) → ℕ → Type 0
IsLesserAt values entries k = get_or entries k None ≡ lesser_at values entries k

-- ---- an entry that is a lesser
lesser_own : (values entries : List (Option ℤ)) (k : ℕ) → AtMost (lesser_at values entries k) (get_or values k None)
lesser_own values entries k = lesser_first (get_or values k None) (lesser_bound (get_or entries (2 * k + 1) None) (get_or entries (2 * k + 2) None))

lesser_below : (values entries : List (Option ℤ)) (k next : ℕ) → IsJustBelow k next → AtMost (lesser_at values entries k) (get_or entries next None)
lesser_below values entries k next just = grind (arith, just)

-- ---- from lessers to the least
entry_below : (values entries : List (Option ℤ)) → ((k : ℕ) → IsLesserAt values entries k) → (steps top place : ℕ)
    → IsStepsBelow steps top place → AtMost (get_or entries top None) (get_or values place None)
entry_below values entries lessers zero top place way =
    subst (λ n. AtMost (get_or entries top None) (get_or values n None)) (sym way)
    (subst (λ entry. AtMost entry (get_or values top None)) (sym (lessers top)) (lesser_own values entries top))
entry_below values entries lessers (suc steps) top place way =
    at_most_through (get_or entries top None) (get_or entries way.0 None) (get_or values place None)
    (subst (λ entry. AtMost entry (get_or entries way.0 None)) (sym (lessers top)) (lesser_below values entries top way.0 way.1))
    (entry_below values entries lessers steps way.0 place way.2)

entry_greatest : (values entries : List (Option ℤ)) (bound : Option ℤ) → ((k : ℕ) → IsLesserAt values entries k) → (rest top : ℕ)
    → length entries ≤ top + rest → ((k : ℕ) → IsBelow top k → AtMost bound (get_or values k None)) → AtMost bound (get_or entries top None)
entry_greatest values entries bound lessers zero top past each = grind (arith, get_or_past, lessers, past, each)
entry_greatest values entries bound lessers (suc rest) top past each =
    let under : (next : ℕ) → IsJustBelow top next → length entries ≤ next + rest → AtMost bound (get_or entries next None) =
    λ next just near. entry_greatest values entries bound lessers rest next near (λ k b. each k (suc b.0, (next, just, b.1))) in
    subst (AtMost bound) (sym (lessers top))
    (lesser_greatest bound (get_or values top None) (lesser_bound (get_or entries (2 * top + 1) None) (get_or entries (2 * top + 2) None))
    (each top (0, refl))
    (lesser_greatest bound (get_or entries (2 * top + 1) None) (get_or entries (2 * top + 2) None)
    (under (2 * top + 1) (inl refl) (omega arith)) (under (2 * top + 2) (inr refl) (omega arith))))

pub tournament_of : (values entries : List (Option ℤ)) → length entries ≡ length values → ((k : ℕ) → IsLesserAt values entries k)
    → IsTournament values entries
tournament_of values entries count lessers = record {
  count = count;
  each = λ k. record {
    below = λ place b. entry_below values entries lessers b.0 k place b.1;
    greatest = λ bound each. entry_greatest values entries bound lessers (length entries) k (omega arith) each;
  };
}

-- ---- from the least to lessers
pub lesser_is : (values entries : List (Option ℤ)) (k : ℕ) → IsTournament values entries → IsLesserAt values entries k
lesser_is values entries k are =
    let here = get_or entries k None in
    let under : (next : ℕ) → IsJustBelow k next → AtMost here (get_or entries next None) =
    λ next just. (are.each next).greatest here (λ place b. (are.each k).below place (suc b.0, (next, just, b.1))) in
    at_most_both here (lesser_at values entries k)
    (lesser_greatest here (get_or values k None) (lesser_bound (get_or entries (2 * k + 1) None) (get_or entries (2 * k + 2) None))
    ((are.each k).below k (0, refl))
    (lesser_greatest here (get_or entries (2 * k + 1) None) (get_or entries (2 * k + 2) None)
    (under (2 * k + 1) (inl refl)) (under (2 * k + 2) (inr refl))))
    ((are.each k).greatest (lesser_at values entries k) (λ place b. reach place b.0 b.1))
  where
    reach : (place steps : ℕ) → IsStepsBelow steps k place → AtMost (lesser_at values entries k) (get_or values place None)
    reach place zero way =
        subst (λ n. AtMost (lesser_at values entries k) (get_or values n None)) (sym way) (lesser_own values entries k)
    reach place (suc steps) way =
        at_most_through (lesser_at values entries k) (get_or entries way.0 None) (get_or values place None)
        (lesser_below values entries k way.0 way.1) ((are.each way.0).below place (steps, way.2))

-- ---- a place's entry made anew
-- the lesser at a place reads that place's value and the two entries just below
same_lesser : (values entries news : List (Option ℤ)) (k : ℕ) → get_or news (2 * k + 1) None ≡ get_or entries (2 * k + 1) None
    → get_or news (2 * k + 2) None ≡ get_or entries (2 * k + 2) None → lesser_at values news k ≡ lesser_at values entries k
same_lesser values entries news k left right = λ i. lesser_bound (get_or values k None) (lesser_bound (left i) (right i))

renewed_at : (values entries : List (Option ℤ)) (reached k : ℕ) → reached < length entries → (2 * k + 1 ≡ reached → ⊥) → (2 * k + 2 ≡ reached → ⊥)
    → ((k ≡ reached → ⊥) → IsLesserAt values entries k) → IsLesserAt values (set entries reached (lesser_at values entries reached)) k
renewed_at values entries reached k within left right other =
    grind (arith, same_lesser, get_or-set_other, get_or-set_same, cases_eq, within, left, right, other)

-- then that of the place above may be wrong
pub mended_up : (values entries news : List (Option ℤ)) (reached : ℕ) → 0 < reached → IsMendedBut values entries reached
    → news ≡ set entries reached (lesser_at values entries reached) → IsMendedBut values news ((reached - 1) / 2)
mended_up values entries news reached positive but is =
    let renewed = set entries reached (lesser_at values entries reached) in
    let same = length-set entries reached (lesser_at values entries reached) in
    let count = but.count in
    let within = but.within in
    subst (λ list. IsMendedBut values list ((reached - 1) / 2)) (sym is) (record {
      count = omega arith;
      within = omega arith;
      others = λ k differ. renewed_at values entries reached k (omega arith)
          (λ e. differ (omega arith)) (λ e. differ (omega arith)) (λ d. but.others k d);
    })

-- and at the top all are right
pub mended_all : (values entries news : List (Option ℤ)) (reached : ℕ) → reached ≡ 0 → IsMendedBut values entries reached
    → news ≡ set entries 0 (lesser_at values entries 0) → IsTournament values news
mended_all values entries news reached top but is =
    let same = length-set entries 0 (lesser_at values entries 0) in
    let count = but.count in
    let within = but.within in
    subst (IsTournament values) (sym is)
    (tournament_of values (set entries 0 (lesser_at values entries 0)) (omega arith)
    (λ k. renewed_at values entries 0 k (omega arith) (λ e. omega arith) (λ e. omega arith) (λ d. but.others k (λ e. d (e ∙ top)))))

-- ---- none, one written, one added
pub value_written : (values entries news : List (Option ℤ)) (place : ℕ) (value : Option ℤ) → IsTournament values entries → place < length values
    → news ≡ set values place value → IsMendedBut news entries place
value_written values entries news place value are within is = grind (arith, length-set, lesser_is, get_or-set_other, are, within, is)

-- an item that stands for a missing one changes no reading
read_default : {A : Type 0} (xs : List A) (d : A) (k : ℕ) → get_or (xs ++ d ∷ []) k d ≡ get_or xs k d
read_default [] d zero = refl
read_default [] d (suc k) = refl
read_default (x ∷ xs) d zero = refl
read_default (x ∷ xs) d (suc k) = read_default xs d k

read_before : {A : Type 0} (xs : List A) (y d : A) (k : ℕ) → (k ≡ length xs → ⊥) → get_or (xs ++ y ∷ []) k d ≡ get_or xs k d
read_before [] y d zero differ = absurd (differ refl)
read_before [] y d (suc k) differ = refl
read_before (x ∷ xs) y d zero differ = refl
read_before (x ∷ xs) y d (suc k) differ = read_before xs y d k (λ e. differ (ap suc e))

pub value_added : (values entries more_values more_entries : List (Option ℤ)) (place : ℕ) (value : Option ℤ) → IsTournament values entries
    → more_values ≡ values ++ value ∷ [] → more_entries ≡ entries ++ None ∷ [] → place ≡ length values → IsMendedBut more_values more_entries place
value_added values entries more_values more_entries place value are value_is entry_is place_is =
    grind (arith, length-append, read_default, read_before, lesser_is, are, value_is, entry_is, place_is)

-- ---- the first entry is the least of all
half_of : (n : ℕ) → (half : ℕ) × ((n ≡ 2 * half) ⊎ (n ≡ 2 * half + 1))
half_of zero = (0, inl (omega arith))
half_of (suc n) =
    let half = half_of n in
    ⊎_elim
    (λ (e : n ≡ 2 * half.0). (half.0, inr (omega arith)))
    (λ (e : n ≡ 2 * half.0 + 1). (suc half.0, inl (omega arith)))
    half.1

step_more : (steps top place next : ℕ) → IsStepsBelow steps top place → IsJustBelow place next → IsStepsBelow (suc steps) top next
step_more zero top place next way just = (next, subst (λ n. IsJustBelow n next) way just, refl)
step_more (suc steps) top place next way just = (way.0, way.1, step_more steps way.0 place next way.2 just)

all_below : (most place : ℕ) → place ≤ most → IsBelow 0 place
all_below zero place within = (0, omega arith)
all_below (suc most) zero within = (0, refl)
all_below (suc most) (suc place) within =
    let half = half_of place in
    let near : half.0 ≤ most = ⊎_elim
    (λ (e : place ≡ 2 * half.0). omega arith)
    (λ (e : place ≡ 2 * half.0 + 1). omega arith)
    half.1 in
    let way = all_below most half.0 near in (
      suc way.0,
      step_more way.0 0 half.0 (suc place) way.1 (⊎_elim
          (λ (e : place ≡ 2 * half.0). inl (omega arith))
          (λ (e : place ≡ 2 * half.0 + 1). inr (omega arith))
          half.1),
    )

pub least_first : (values entries : List (Option ℤ)) → IsTournament values entries → IsLeastOf values (get_or entries 0 None)
least_first values entries are = record {
  below = λ k within. (are.each 0).below k (all_below k k (omega arith));
  greatest = λ bound each. (are.each 0).greatest bound (λ k b. ⊎_elim
      (λ (l : k < length values). each k l)
      (λ (l : length values ≤ k). subst (AtMost bound) (sym (get_or_past values k None l)) tt)
      (cases_lt k (length values)));
}
