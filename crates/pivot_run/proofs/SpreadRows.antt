-- What is found in the numbers of a row is found in the row.
-- Cite by `use Rattle.pivot_run.proofs.SpreadRows.{spread_reduced}`.
use Rattle.std.proofs.Common.{◌≡◌, ◌⊎◌, ⊎_elim, inl, inr, ℕ, ◌<◌, ◌≤◌, Bool, true, false, Option, None, Some, refl, sym, ap, subst, ◌∙◌, arith, List, length, map, take, position, ℤ, pos, ◌-ℤ◌, ◌*ℤ◌, int_div, nat_lt, unsigned_abs}
use Rattle.std.specs.Int.{◌∣◌}
use Rattle.std.proofs.lemmas.Nat.Gcd.{dvd-zero}
use Rattle.std.specs.List.{position_or_len}
use Rattle.std.proofs.lemmas.Grind.{common_steps}
use Rattle.std.proofs.lemmas.Bool.{cases_Bool, cases_lt, cond-true, cond-false}
use Rattle.std.proofs.lemmas.Int.{ints}
use Rattle.std.proofs.lemmas.List.{get_or-take, get_or_past, length-take}
use Rattle.std.proofs.lemmas.List.Sums.{fails_before_first, position_or_len_is}
use Rattle.std.proofs.lemmas.List.Quantifiers.{position-Some}
use Rattle.pivot_run.specs.Prelude.{IsLargest, IsSmall, entry, reduced, cleared, divisor_of, total_size, ClearingForms, IsNarrow}
use Rattle.pivot_run.specs.inside.Entries.{AreBelow, AreEntries, CombiningForms, IsCombined, Rise, column, column_within, number_at, spread}
use Rattle.pivot_run.proofs.EntryLists.{entry_spread, length_spread, map_spread, number_cases, number_of_entry, spread_is}
use Rattle.pivot_run.proofs.Clearing.{entry-combined, length-combined}
use Rattle.pivot_run.proofs.Divisors.{divisor_of-divides, divisor_of-greatest, divisor_of-positive, entry_size, no_size, only_zero, total_none}

-- ---- the greatest common divisor
-- each number of one list is 0 or stands in the other
abbrev pub AreIn : List ℤ → List ℤ → Type 0
AreIn row other = (k : ℕ) → k < length row → (entry row k ≡ pos 0) ⊎ ((c : ℕ) × (c < length other) × (entry row k ≡ entry other c))

-- what divides each number of the one divides each number of the other
divides_too : (row other : List ℤ) (d : ℕ) → AreIn row other → ((c : ℕ) → c < length other → d ∣ unsigned_abs (entry other c)) → (k : ℕ) → k < length row → d ∣ unsigned_abs (entry row k)
divides_too row other d are divides k h = ⊎_elim
    (λ zero. subst (λ x. d ∣ unsigned_abs x) (sym zero) (dvd-zero d))
    (λ same. subst (λ x. d ∣ unsigned_abs x) (sym same.2) (divides same.0 same.1))
    (are k h)

sizes_within : (row other : List ℤ) → AreIn row other → (k : ℕ) → k < length row → unsigned_abs (entry row k) ≤ total_size other
sizes_within row other are k h = grind (arith, ints, entry_size, are, h)

divisor_within : (row other : List ℤ) → AreIn row other → AreIn other row → divisor_of row ≤ divisor_of other
divisor_within row other are back = ⊎_elim
    (λ (less : total_size other < divisor_of row).
    let none : total_size row ≡ 0 = no_size row (λ k h. only_zero (divisor_of row) _ (divisor_of-divides row k h) (omega (arith, sizes_within row other are k h, less))) in
    omega (arith, total_none row none, divisor_of-positive other))
    (λ (within : divisor_of row ≤ total_size other).
    divisor_of-greatest other (divisor_of row) (divisor_of-positive row) within (divides_too other row (divisor_of row) back (divisor_of-divides row)))
    (cases_lt (total_size other) (divisor_of row))

pub same_divisor : (row other : List ℤ) → AreIn row other → AreIn other row → divisor_of row ≡ divisor_of other
same_divisor row other are back = let one = divisor_within row other are back in let two = divisor_within other row back are in omega (arith, one, two)

spread_in : (n : ℕ) (ks : List ℕ) (xs : List ℤ) → AreEntries ks xs → AreBelow ks n → AreIn (spread n ks xs) xs
spread_in n ks xs are below c h = grind (arith, ints, entry_spread, number_cases, are, below, c, h)

numbers_in : (n : ℕ) (ks : List ℕ) (xs : List ℤ) → AreEntries ks xs → AreBelow ks n → AreIn xs (spread n ks xs)
numbers_in n ks xs are below k h =
    let within : k < length ks = omega (arith, are.lengths) in
    let long = length_spread n ks xs in
    inr (column ks k, omega (arith, below k within, long), sym (entry_spread n ks xs (column ks k) are.lengths below ∙ number_of_entry ks xs k are.rise are.lengths within))

nought_over : (d : ℕ) → int_div (pos 0) (pos d) ≡ pos 0
nought_over d = omega (arith, ints)

pub spread_reduced : (n : ℕ) (ks : List ℕ) (xs : List ℤ) → AreEntries ks xs → AreBelow ks n → spread n ks (reduced xs) ≡ reduced (spread n ks xs)
spread_reduced n ks xs are below =
    let same = same_divisor xs (spread n ks xs) (numbers_in n ks xs are below) (spread_in n ks xs are below) in
    map_spread (λ x. int_div x (pos (divisor_of xs))) n ks xs (nought_over (divisor_of xs))
    ∙ ap (λ d. map (λ x. int_div x (pos d)) (spread n ks xs)) same

-- ---- the largest number
pub largest_of_all : (n : ℕ) (ks : List ℕ) (xs : List ℤ) (largest : ℕ) → AreEntries ks xs → AreBelow ks n → IsLargest xs largest
    → (c : ℕ) → unsigned_abs (entry (spread n ks xs) c) ≤ unsigned_abs (entry xs largest)
largest_of_all n ks xs largest are below is c = grind (arith, ints, entry_spread, number_cases, are, below, is)

pub largest_number : (n : ℕ) (ks : List ℕ) (xs : List ℤ) (largest : ℕ) (row : List ℤ) (number : ℤ) → AreEntries ks xs → AreBelow ks n → IsLargest xs largest
    → spread n ks xs ≡ row → number ≡ entry xs largest
    → ((k : ℕ) → unsigned_abs (entry row k) ≤ unsigned_abs number) × ((number ≡ pos 0) ⊎ ((c : ℕ) × (c < length row) × (number ≡ entry row c)))
largest_number n ks xs largest row number are below is view value = (
  λ k. subst (λ r. unsigned_abs (entry r k) ≤ unsigned_abs number) view
      (subst (λ z. unsigned_abs (entry (spread n ks xs) k) ≤ unsigned_abs z) (sym value) (largest_of_all n ks xs largest are below is k)),
  ⊎_elim
      (λ (inside : largest < length ks).
      let long = length_spread n ks xs in
      let there = entry_spread n ks xs (column ks largest) are.lengths below ∙ number_of_entry ks xs largest are.rise are.lengths inside in
      inr (column ks largest, omega (arith, below largest inside, long, ap length view), value ∙ sym there ∙ ap (λ r. entry r (column ks largest)) view))
      (λ (past : length ks ≤ largest). inl (value ∙ get_or_past xs largest (pos 0) (omega (arith, past, are.lengths))))
      (cases_lt largest (length ks)),
)

-- ---- the first number that passes a test
-- each number in an earlier column than that of an entry, where all before it fail, fails
fails_before : (test : ℤ → Bool) (n : ℕ) (ks : List ℕ) (xs : List ℤ) (m c : ℕ) → test (pos 0) ≡ false → AreEntries ks xs → AreBelow ks n
    → ((k : ℕ) → k < length xs → column ks k < m → test (entry xs k) ≡ false) → c < m → test (entry (spread n ks xs) c) ≡ false
fails_before test n ks xs m c zero are below fails h = grind (arith, ints, entry_spread, number_cases, are, below, fails, h)

-- no position where each of the first numbers, so many, fails
none_passes : (test : ℤ → Bool) (row : List ℤ) (count : ℕ) → ((c : ℕ) → c < count → test (entry row c) ≡ false) → position test (take count row) ≡ None
none_passes test row count fails =
    let all : position_or_len test (take count row) ≡ length (take count row) =
    position_or_len_is test (take count row) (length (take count row)) (pos 0) (omega arith)
    (λ k h. let less : k < count = omega (arith, h, length-take count row) in ap test (get_or-take count row k (pos 0) less) ∙ fails k less)
    (λ h. absurd (omega arith)) in
    grind (arith, common_steps)

passes_first : (test : ℤ → Bool) (row : List ℤ) (count c : ℕ) → c < count → c < length row → test (entry row c) ≡ true → ((k : ℕ) → k < c → test (entry row k) ≡ false)
    → position test (take count row) ≡ Some c
passes_first test row count c h l passes fails = grind (arith, ints, length-take, position_or_len_is, get_or-take, common_steps, h, l, passes, fails)

-- a number before the first that passes stands in an earlier column
earlier : (ks : List ℕ) (k i : ℕ) → Rise ks → i < length ks → k < length ks → column ks k < column ks i → k < i
earlier ks k i rise h l m = grind (arith, ints, rise, h, l, m)

first_none : (test : ℤ → Bool) (n : ℕ) (ks : List ℕ) (xs : List ℤ) (count : ℕ) → test (pos 0) ≡ false → AreEntries ks xs → AreBelow ks n
    → position test xs ≡ None → position test (take count (spread n ks xs)) ≡ None
first_none test n ks xs count zero are below e =
    let none : length xs ≤ position_or_len test xs = grind (arith, common_steps) in
    none_passes test (spread n ks xs) count
    (λ c h. fails_before test n ks xs count c zero are below (λ k l m. fails_before_first test xs k (pos 0) (omega arith)) h)

first_some : (test : ℤ → Bool) (n : ℕ) (ks : List ℕ) (xs : List ℤ) (count i : ℕ) → test (pos 0) ≡ false → AreEntries ks xs → AreBelow ks n
    → position test xs ≡ Some i → position test (take count (spread n ks xs)) ≡ column_within ks count (Some i)
first_some test n ks xs count i zero are below e =
    let fact = position-Some test xs i (pos 0) e in
    let within : i < length ks = omega (arith, fact.0, are.lengths) in
    let fails : (c : ℕ) → c < column ks i → test (entry (spread n ks xs) c) ≡ false =
    λ c h. fails_before test n ks xs (column ks i) c zero are below (λ k l m. fact.2 k (earlier ks k i are.rise within (omega (arith, are.lengths)) m)) h in
    ⊎_elim
    (λ (inside : nat_lt (column ks i) count ≡ true).
    let there = entry_spread n ks xs (column ks i) are.lengths below ∙ number_of_entry ks xs i are.rise are.lengths within in
    passes_first test (spread n ks xs) count (column ks i) (grind (arith, inside)) (omega (arith, below i within, length_spread n ks xs)) (ap test there ∙ fact.1) fails
    ∙ sym (cond-true (nat_lt (column ks i) count) (Some (column ks i)) None inside))
    (λ (outside : nat_lt (column ks i) count ≡ false).
    let past : count ≤ column ks i = grind (arith, outside) in
    none_passes test (spread n ks xs) count (λ c h. fails c (omega arith))
    ∙ sym (cond-false (nat_lt (column ks i) count) (Some (column ks i)) None outside))
    (cases_Bool (nat_lt (column ks i) count))

by_first : (test : ℤ → Bool) (n : ℕ) (ks : List ℕ) (xs : List ℤ) (count : ℕ) (found : Option ℕ) → test (pos 0) ≡ false → AreEntries ks xs → AreBelow ks n
    → position test xs ≡ found → position test (take count (spread n ks xs)) ≡ column_within ks count found
by_first test n ks xs count None zero are below e = first_none test n ks xs count zero are below e
by_first test n ks xs count (Some i) zero are below e = first_some test n ks xs count i zero are below e

pub first_spread : (test : ℤ → Bool) (n : ℕ) (ks : List ℕ) (xs : List ℤ) (count : ℕ) → test (pos 0) ≡ false → AreEntries ks xs → AreBelow ks n
    → position test (take count (spread n ks xs)) ≡ column_within ks count (position test xs)
first_spread test n ks xs count zero are below = by_first test n ks xs count (position test xs) zero are below refl

-- ---- a row that is cleared
pub spread_cleared : (n : ℕ) (ks : List ℕ) (xs : List ℤ) (ls : List ℕ) (ys : List ℤ) (j : ℕ) (p e : ℤ) (ms : List ℕ) (zs : List ℤ)
    → AreEntries ks xs → AreBelow ks n → AreEntries ls ys → AreBelow ls n
    → p ≡ entry (spread n ls ys) j → e ≡ entry (spread n ks xs) j
    → IsCombined (number_at ks xs) (number_at ls ys) p e ms zs n → spread n ms zs ≡ cleared (spread n ls ys) j (spread n ks xs)
spread_cleared n ks xs ls ys j p e ms zs own below are under pivot factor made =
    let row = spread n ks xs in
    let other = spread n ls ys in
    let long = length_spread n ks xs in
    let wide = length_spread n ls ys in
    spread_is (cleared other j row) n ms zs (length-combined (entry other j) (entry row j) row other ∙ long)
    (λ c h. made.values c h
    ∙ ap (λ x. x *ℤ p -ℤ e *ℤ number_at ls ys c) (sym (entry_spread n ks xs c own.lengths below))
    ∙ ap (λ y. entry row c *ℤ p -ℤ e *ℤ y) (sym (entry_spread n ls ys c are.lengths under))
    ∙ ap (λ x. entry row c *ℤ x -ℤ e *ℤ entry other c) pivot
    ∙ ap (λ x. entry row c *ℤ entry other j -ℤ x *ℤ entry other c) factor
    ∙ sym (entry-combined (entry other j) (entry row j) row other c (long ∙ sym wide)))

-- the products that clearing it forms are those of its columns
pub narrow_cleared : (n : ℕ) (ks : List ℕ) (xs : List ℤ) (ls : List ℕ) (ys : List ℤ) (j : ℕ) (p e : ℤ) (ms : List ℕ) (zs : List ℤ)
    → AreEntries ks xs → AreBelow ks n → AreEntries ls ys → AreBelow ls n
    → p ≡ entry (spread n ls ys) j → e ≡ entry (spread n ks xs) j
    → IsCombined (number_at ks xs) (number_at ls ys) p e ms zs n → IsNarrow (ClearingForms (spread n ls ys) j (spread n ks xs))
narrow_cleared n ks xs ls ys j p e ms zs own below are under pivot factor made a b forms =
    grind (arith, ints, length_spread, entry_spread, own, below, are, under, pivot, factor, made, a, b, forms)

pub wide_cleared : (n : ℕ) (ks : List ℕ) (xs : List ℤ) (ls : List ℕ) (ys : List ℤ) (j : ℕ) (p e a b : ℤ)
    → AreEntries ks xs → AreBelow ks n → AreEntries ls ys → AreBelow ls n
    → p ≡ entry (spread n ls ys) j → e ≡ entry (spread n ks xs) j
    → CombiningForms (number_at ks xs) (number_at ls ys) p e ks ls a b → ClearingForms (spread n ls ys) j (spread n ks xs) a b
wide_cleared n ks xs ls ys j p e a b own below are under pivot factor forms =
    grind (arith, ints, length_spread, entry_spread, own, below, are, under, pivot, factor, forms)

-- ---- a row with its entries
pub record Holds (row : List ℤ) (ks : List ℕ) (xs : List ℤ) : Type 0 where
  pub are : AreEntries ks xs
  pub below : AreBelow ks (length row)
  pub is : spread (length row) ks xs ≡ row

pub holds : (n : ℕ) (ks : List ℕ) (xs : List ℤ) (row : List ℤ) → AreEntries ks xs → AreBelow ks n → spread n ks xs ≡ row → Holds row ks xs
holds n ks xs row are below view = grind (arith, ints, length_spread, are, below, view)

-- the same beside a row of its length
beside : (row other : List ℤ) (ls : List ℕ) (ys : List ℤ) → Holds other ls ys → length other ≡ length row → AreBelow ls (length row) × (spread (length row) ls ys ≡ other)
beside row other ls ys held same = (subst (AreBelow ls) same held.below, subst (λ m. spread m ls ys ≡ other) same held.is)

pub cleared_entries : (row pivot : List ℤ) (ks : List ℕ) (xs : List ℤ) (ls : List ℕ) (ys : List ℤ) (j n : ℕ) (p e : ℤ) (ms : List ℕ) (zs : List ℤ)
    → Holds row ks xs → Holds pivot ls ys → length pivot ≡ length row → p ≡ entry pivot j → e ≡ entry row j → n ≡ length row
    → ((m : ℕ) → AreBelow ks m → AreBelow ls m → IsCombined (number_at ks xs) (number_at ls ys) p e ms zs m)
    → (spread n ms (reduced zs) ≡ reduced (cleared pivot j row)) × IsNarrow (ClearingForms pivot j row) × AreEntries ms zs × AreBelow ms n
cleared_entries row pivot ks xs ls ys j n p e ms zs own other same pivots factor long each =
    let m = length row in
    let by = beside row pivot ls ys other same in
    let made = each m own.below by.0 in
    let first : p ≡ entry (spread m ls ys) j = pivots ∙ ap (λ r. entry r j) (sym by.1) in
    let second : e ≡ entry (spread m ks xs) j = factor ∙ ap (λ r. entry r j) (sym own.is) in
    let cleared_is = spread_cleared m ks xs ls ys j p e ms zs own.are own.below other.are by.0 first second made in
    let narrow = narrow_cleared m ks xs ls ys j p e ms zs own.are own.below other.are by.0 first second made in
    let whole : spread m ms zs ≡ cleared pivot j row = cleared_is ∙ ap (λ r. cleared r j (spread m ks xs)) by.1 ∙ ap (λ r. cleared pivot j r) own.is in (
      subst (λ i. spread i ms (reduced zs) ≡ reduced (cleared pivot j row)) (sym long) (spread_reduced m ms zs made.entries made.below ∙ ap (λ r. reduced r) whole),
      subst (λ r. IsNarrow (ClearingForms r j row)) by.1 (subst (λ r. IsNarrow (ClearingForms (spread m ls ys) j r)) own.is narrow),
      made.entries,
      subst (AreBelow ms) (sym long) made.below,
    )

pub cleared_forms : (row pivot : List ℤ) (ks : List ℕ) (xs : List ℤ) (ls : List ℕ) (ys : List ℤ) (j : ℕ) (p e a b : ℤ)
    → Holds row ks xs → Holds pivot ls ys → length pivot ≡ length row → p ≡ entry pivot j → e ≡ entry row j
    → CombiningForms (number_at ks xs) (number_at ls ys) p e ks ls a b → ClearingForms pivot j row a b
cleared_forms row pivot ks xs ls ys j p e a b own other same pivots factor forms =
    let m = length row in
    let by = beside row pivot ls ys other same in
    let first : p ≡ entry (spread m ls ys) j = pivots ∙ ap (λ r. entry r j) (sym by.1) in
    let second : e ≡ entry (spread m ks xs) j = factor ∙ ap (λ r. entry r j) (sym own.is) in
    subst (λ r. ClearingForms r j row a b) by.1 (subst (λ r. ClearingForms (spread m ls ys) j r a b) own.is
    (wide_cleared m ks xs ls ys j p e a b own.are own.below other.are by.0 first second forms))

-- other numbers in the same columns
pub entries_changed : (ks : List ℕ) (xs ys : List ℤ) → AreEntries ks xs → length ys ≡ length xs → IsSmall ys → AreEntries ks ys
entries_changed ks xs ys are same small = record { lengths = are.lengths ∙ sym same; rise = are.rise; small = small }

-- ---- entries that are the same
pub view_of : (n : ℕ) (ks ls : List ℕ) (xs ys row : List ℤ) → ls ≡ ks → ys ≡ xs → spread n ks xs ≡ row → spread n ls ys ≡ row
view_of n ks ls xs ys row columns numbers view = ap (λ it. spread n it ys) columns ∙ ap (λ it. spread n ks it) numbers ∙ view

pub moved : (ks ls : List ℕ) (xs ys : List ℤ) (n : ℕ) → ls ≡ ks → ys ≡ xs → AreEntries ks xs → AreBelow ks n → AreEntries ls ys × AreBelow ls n
moved ks ls xs ys n columns numbers are below = grind (arith, ints, columns, numbers, are, below)

-- the same in another row of its length
pub copied : (n m : ℕ) (ks : List ℕ) (xs row : List ℤ) → AreEntries ks xs → AreBelow ks m → spread m ks xs ≡ row → n ≡ length row → AreBelow ks n × (spread n ks xs ≡ row)
copied n m ks xs row are below view long =
    let held = holds m ks xs row are below view in
    (subst (AreBelow ks) (sym long) held.below, subst (λ it. spread it ks xs ≡ row) (sym long) held.is)
