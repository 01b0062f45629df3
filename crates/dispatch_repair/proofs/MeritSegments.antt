-- The order of segments by merit is one, and sorting keeps the segments of each source.
use Rattle.std.proofs.Common.{◌≡◌, ℕ, zero, suc, ◌+◌, ◌-◌, ◌<◌, ◌≤◌, ⊎_elim, Bool, true, false, sym, subst, arith, List, length, ℤ, pos, ◌*ℤ◌, ◌≤ℤ◌, ◌<ℤ◌, int_lt, nat_lt, ◌&&◌, ◌||◌}
use Rattle.std.specs.Ordering.{int_eq}
use Rattle.std.specs.Cmp.{IsStrictWeakOrder}
use Rattle.std.specs.List.Sorted.{IsPermutation, IsSortedBy}
use Rattle.std.proofs.lemmas.Int.{ints}
use Rattle.std.proofs.lemmas.Bool.{ltb-true, or_cases, and_parts}
use Rattle.std.proofs.lemmas.List.Sorted.{All-permutation, Contains-permutation}
use Rattle.uc_model.proofs.Common.{linear, int_lt-true, int_eq-true}
use Rattle.cost_curves.proofs.Lines.{flatter_trans}
use Rattle.dispatch_repair.specs.Prelude.{Instance, Segment, width_of, comes_before, segment_at, no_segment, IsSegmentOf, AreSegmentsOf, AreInMeritOrder, source_count}

-- ---- the test of products and places
abbrev is_less : ℤ → ℤ → ℕ → ℕ → Bool
is_less x y m n = int_lt x y || (int_eq x y && nat_lt m n)

less_false-product : (x y : ℤ) (m n : ℕ) → is_less x y m n ≡ false → y ≤ℤ x
less_false-product x y m n h = grind (arith, ints, h)

less_false-place : (x y : ℤ) (m n : ℕ) → is_less x y m n ≡ false → x ≤ℤ y → n ≤ m
less_false-place x y m n h same = grind (arith, ints, h, same)

less_false : (x y : ℤ) (m n : ℕ) → y ≤ℤ x → (x ≤ℤ y → n ≤ m) → is_less x y m n ≡ false
less_false x y m n product place = grind (arith, ints, product, place)

-- ---- segments by merit
width_positive : (segment : Segment) → pos 0 <ℤ width_of segment.slope
width_positive segment = grind (arith, ints)

abbrev cross : Segment → Segment → ℤ
cross first second = first.slope.rise *ℤ width_of second.slope

-- a segment's slope is at most another's, and where they are equal its source comes no later
pub record IsUpTo (first second : Segment) : Type 0 where
  pub slope : cross first second ≤ℤ cross second first
  pub source : cross second first ≤ℤ cross first second → first.source ≤ second.source

pub up_to-from : (first second : Segment) → comes_before second first ≡ false → IsUpTo first second
up_to-from first second h = grind (arith, ints, less_false-product, less_false-place, h)

up_to : (first second : Segment) → IsUpTo first second → comes_before second first ≡ false
up_to first second h = less_false (cross second first) (cross first second) second.source first.source h.slope h.source

slope_trans : (a b c : Segment) → cross a b ≤ℤ cross b a → cross b c ≤ℤ cross c b → cross a c ≤ℤ cross c a
slope_trans a b c first second =
    (flatter_trans (width_of a.slope) a.slope.rise (width_of b.slope) b.slope.rise (width_of c.slope) c.slope.rise
    (omega (arith, linear, width_positive a)) (width_positive b) (omega (arith, linear, width_positive c))
    (record { products = first }) (record { products = second })).products

up_to_trans : (a b c : Segment) → IsUpTo a b → IsUpTo b c → IsUpTo a c
up_to_trans a b c first second = grind (arith, ints, slope_trans, first, second)

pub merit_is_order : IsStrictWeakOrder comes_before
merit_is_order = record {
  one_way = λ x y h. up_to x y (record {
    slope = weak (cross x y) (cross y x) (x.source) (y.source) h;
    source = λ back. early (cross x y) (cross y x) (x.source) (y.source) h back;
  });
  chain = λ x y z h k. up_to z x (up_to_trans z y x (up_to-from z y k) (up_to-from y x h));
}
  where
    weak : (p q : ℤ) (m n : ℕ) → is_less p q m n ≡ true → p ≤ℤ q
    weak p q m n h = ⊎_elim (λ less. omega (arith, linear, int_lt-true p q less)) (λ both. omega (arith, linear, int_eq-true p q (and_parts (int_eq p q) (nat_lt m n) both).0))
        (or_cases (int_lt p q) (int_eq p q && nat_lt m n) h)

    early : (p q : ℤ) (m n : ℕ) → is_less p q m n ≡ true → q ≤ℤ p → m ≤ n
    early p q m n h back = ⊎_elim (λ less. absurd (omega (arith, linear, int_lt-true p q less))) (λ both. omega (arith, ltb-true m n (and_parts (int_eq p q) (nat_lt m n) both).1))
        (or_cases (int_lt p q) (int_eq p q && nat_lt m n) h)

-- ---- sorted segments
-- neighbors in order are in order however far apart
sorted_by : (order : List Segment) → IsSortedBy comes_before order → (i more : ℕ) → i + more < length order
    → comes_before (segment_at order (i + more)) (segment_at order i) ≡ false
sorted_by order sorted i zero h = grind (arith, ints, sorted, zero, h)
sorted_by order sorted i (suc more) h =
    let next : comes_before (segment_at order ((i + more) + 1)) (segment_at order (i + more)) ≡ false = sorted (i + more) no_segment (omega arith) (omega arith) in
    let rest = sorted_by order sorted i more (omega arith) in
    subst (λ n. comes_before (segment_at order n) (segment_at order i) ≡ false) (omega arith) (merit_is_order.chain (segment_at order ((i + more) + 1)) (segment_at order (i + more)) (segment_at order i) next rest)

pub sorted_apart : (order : List Segment) → IsSortedBy comes_before order → (i j : ℕ) → i ≤ j → j < length order
    → comes_before (segment_at order j) (segment_at order i) ≡ false
sorted_apart order sorted i j h k =
    subst (λ n. comes_before (segment_at order n) (segment_at order i) ≡ false) (omega arith) (sorted_by order sorted i (j - i) (subst (λ n. n < length order) (sym (omega arith)) k))

-- the same segments in another order
pub segments_moved : (instance : Instance) (n : ℕ) (all order : List Segment) → IsPermutation all order → AreSegmentsOf instance n all → AreSegmentsOf instance n order
segments_moved instance n all order moved are = record {
  each = All-permutation (IsSegmentOf instance) all order moved are.each;
  covered = λ m h amount low high.
      let found = are.covered m h amount low high in
      (found.0, Contains-permutation all order found.0 moved found.1, found.2);
}

pub in_merit_order : (instance : Instance) (all order : List Segment) → AreSegmentsOf instance (source_count instance) all → IsPermutation all order
    → IsSortedBy comes_before order → AreInMeritOrder instance order
in_merit_order instance all order are moved sorted = record {
  segments = segments_moved instance (source_count instance) all order moved are;
  sorted = sorted_apart order sorted;
}
