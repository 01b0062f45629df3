-- The segments of the lower hull of points of rising output: one begins below each output above 0 and reaches it. It is
-- found as the pair of points, one below the output and one at or above it, whose line is lowest halfway to the output
-- before.
-- Cite from a crate above by `use Rattle.uc_model.proofs.HullSegments.{Steps, step_there}`.
use Rattle.std.proofs.Common.{◌≡◌, ℕ, zero, suc, ◌+◌, ◌-◌, ◌*◌, ◌/◌, ◌%◌, ◌<◌, ◌≤◌, ◌⊎◌, inl, inr, ⊎_elim, Bool, refl, sym, ap, subst, ◌∙◌, arith, List, length, ℤ, pos, ◌+ℤ◌, ◌-ℤ◌, ◌*ℤ◌, neg_ℤ, ◌≤ℤ◌, ◌<ℤ◌, IsTrue, Option, Some, None, int_le, int_lt, ◌==◌, ◌&&◌, ◌||◌, if◌then◌else◌}
use Rattle.std.proofs.lemmas.Bool.{and_parts, and_from, or_cases, or_left, or_right, cond-true, eqb-true, eq-eqb}
use Rattle.std.proofs.lemmas.Nat.{mul-add-lt, div-mul-add, mod-mul-add, div_below, mod_below}
use Rattle.std.proofs.lemmas.Option.{none-some, same_Some}
use Rattle.uc_model.specs.Prelude.{all_below, Point, point_of, output_of, run, rise, is_above_line, is_hull_segment, is_hull_point, segment_holds, or_else, first_below, Segment, segment_from, first_segment, segment_at}
use Rattle.uc_model.proofs.Ring.{linear, spread, le_or_lt, le_trans, mul_comm, mul_assoc, mul_left_comm, mul-le-mul_left, le_from_mul, one-mul}
use Rattle.uc_model.proofs.HullPoints.{Holds, segment_at-holds}
use Rattle.uc_model.proofs.Tests.{le-int_le, lt-int_lt, int_le-true, int_lt-true, all_below-from, all_below-at}

-- ---- a least one of numbers below n, by an order
-- `best` is the least of the numbers below n with the property
pub record IsLeastOf (n : ℕ) (has : ℕ → Type 0) (before : ℕ → ℕ → Type 0) (best : ℕ) : Type 0 where
  pub within : best < n
  pub one : has best
  pub least : (k : ℕ) → k < n → has k → before best k

-- the order is total on the numbers with the property, which is decided
pub record IsOrder (has : ℕ → Type 0) (before : ℕ → ℕ → Type 0) : Type 0 where
  pub decided : (k : ℕ) → has k ⊎ ¬ has k
  pub total : (i j : ℕ) → has i → has j → before i j ⊎ before j i
  pub trans : (i j k : ℕ) → has i → has j → has k → before i j → before j k → before i k

one_more : (n k : ℕ) → k < suc n → (k < n) ⊎ (n ≡ k)
one_more n k l = grind arith

module _ (has : ℕ → Type 0) (before : ℕ → ℕ → Type 0) (order : IsOrder has before) where
  same_before : (k : ℕ) → has k → before k k
  same_before k h = ⊎_elim (λ b. b) (λ b. b) (order.total k k h h)

  -- a number n more, of which the best so far is b
  kept : (n b : ℕ) → has n → IsLeastOf n has before b → before b n → IsLeastOf (suc n) has before b
  kept n b h is less = record {
    within = omega (arith, is.within);
    one = is.one;
    least = λ k l hk. ⊎_elim (λ earlier. is.least k earlier hk) (λ last. subst (λ i. before b i) last less)
        (one_more n k l);
  }

  passed : (n b : ℕ) → has n → IsLeastOf n has before b → before n b → IsLeastOf (suc n) has before n
  passed n b h is less = record {
    within = omega arith;
    one = h;
    least = λ k l hk. ⊎_elim
        (λ earlier. order.trans n b k h is.one hk less (is.least k earlier hk))
        (λ last. subst (λ i. before n i) last (same_before n h))
        (one_more n k l);
  }

  first : (n : ℕ) → has n → ((k : ℕ) → k < n → ¬ has k) → IsLeastOf (suc n) has before n
  first n h none = record {
    within = omega arith;
    one = h;
    least = λ k l hk. ⊎_elim
        (λ earlier. absurd (none k earlier hk))
        (λ last. subst (λ i. before n i) last (same_before n h))
        (one_more n k l);
  }

  without : (n : ℕ) → ¬ has n → ((k : ℕ) → k < n → ¬ has k) → (k : ℕ) → k < suc n → ¬ has k
  without n lacks none k l hk = ⊎_elim (λ earlier. none k earlier hk) (λ last. lacks (subst has (sym last) hk))
      (one_more n k l)

  not_it : (n b : ℕ) → ¬ has n → IsLeastOf n has before b → IsLeastOf (suc n) has before b
  not_it n b lacks is = record {
    within = omega (arith, is.within);
    one = is.one;
    least = λ k l hk. ⊎_elim (λ earlier. is.least k earlier hk) (λ last. absurd (lacks (subst has (sym last) hk)))
        (one_more n k l);
  }

  abbrev Found : ℕ → Type 0
  Found n = ((k : ℕ) → k < n → ¬ has k) ⊎ ((best : ℕ) × IsLeastOf n has before best)

  -- there is one, or no number below n has the property
  pub least_of : (n : ℕ) → Found n
  least_of zero = inl (λ k l h. absurd (omega (arith, l)))
  least_of (suc n) = ⊎_elim
      (λ (none : (k : ℕ) → k < n → ¬ has k).
      ⊎_elim (λ (h : has n). inr (n, first n h none)) (λ (lacks : ¬ has n). inl (without n lacks none))
      (order.decided n))
      (λ (found : (best : ℕ) × IsLeastOf n has before best).
      ⊎_elim
      (λ (h : has n).
      ⊎_elim
      (λ (less : before found.0 n). inr (found.0, kept n found.0 h found.1 less))
      (λ (less : before n found.0). inr (n, passed n found.0 h found.1 less))
      (order.total found.0 n found.1.one h))
      (λ (lacks : ¬ has n). inr (found.0, not_it n found.0 lacks found.1))
      (order.decided n))
      (least_of n)

  -- there is one where some number has it
  pub least_there : (n k : ℕ) → k < n → has k → (best : ℕ) × IsLeastOf n has before best
  least_there n k l h = ⊎_elim (λ none. absurd (none k l h)) (λ found. found) (least_of n)

-- ---- fractions of positive denominators, compared by products
-- a over b is at most c over d
pub record IsAtMost (a b c d : ℤ) : Type 0 where
  pub products : (a *ℤ d) ≤ℤ (c *ℤ b)

at_most_trans : (a b c d e f : ℤ) → pos 0 <ℤ b → pos 0 <ℤ d → pos 0 <ℤ f → IsAtMost a b c d → IsAtMost c d e f → IsAtMost a b e f
at_most_trans a b c d e f hb hd hf first second =
    let x = mul-le-mul_left f (a *ℤ d) (c *ℤ b) (omega (arith, linear)) first.products in
    let y = mul-le-mul_left b (c *ℤ f) (e *ℤ d) (omega (arith, linear)) second.products in
    let e1 : f *ℤ (a *ℤ d) ≡ d *ℤ (a *ℤ f) = mul_left_comm f a d ∙ ap (λ z. a *ℤ z) (mul_comm f d) ∙ mul_left_comm a d f in
    let e2 : f *ℤ (c *ℤ b) ≡ b *ℤ (c *ℤ f) = mul_left_comm f c b ∙ ap (λ z. c *ℤ z) (mul_comm f b) ∙ mul_left_comm c b f in
    let e3 : b *ℤ (e *ℤ d) ≡ d *ℤ (e *ℤ b) = mul_left_comm b e d ∙ ap (λ z. e *ℤ z) (mul_comm b d) ∙ mul_left_comm e d b in
    record { products = le_from_mul d _ _ hd (omega (arith, linear, x, y, e1, e2, e3)) }

at_most_total : (a b c d : ℤ) → IsAtMost a b c d ⊎ IsAtMost c d a b
at_most_total a b c d = grind (arith, linear)

-- ---- lines
-- two first factors change places
turn : (x y z : ℤ) → (x *ℤ y) *ℤ z ≡ y *ℤ (x *ℤ z)
turn x y z = mul_assoc x y z ∙ mul_left_comm x y z

-- the costs c, e and f at distances a and d on one side and b on the other: where the line from c to e passes no higher
-- in the middle than that from f to e, f lies on it or above it
divided : (c e f a b d : ℤ) → pos 0 <ℤ b → ((c *ℤ b +ℤ e *ℤ a) *ℤ (d +ℤ b)) ≤ℤ ((f *ℤ b +ℤ e *ℤ d) *ℤ (a +ℤ b))
    → (c *ℤ (d +ℤ b) +ℤ e *ℤ a) ≤ℤ (f *ℤ (a +ℤ b) +ℤ e *ℤ d)
divided c e f a b d positive given =
    let parts = simp spread at given in
    let order : (e *ℤ a) *ℤ d ≡ (e *ℤ d) *ℤ a = mul_assoc e a d ∙ ap (λ z. e *ℤ z) (mul_comm a d) ∙ sym (mul_assoc e d a) in
    let times : (b *ℤ (c *ℤ (d +ℤ b) +ℤ e *ℤ a)) ≤ℤ (b *ℤ (f *ℤ (a +ℤ b) +ℤ e *ℤ d)) =
    let first = turn c b d in
    let second = turn c b b in
    let third = turn f b a in
    let fourth = turn f b b in
    let left = mul_comm (e *ℤ a) b in
    let right = mul_comm (e *ℤ d) b in
    simp spread (omega (arith, linear, parts, order, first, second, third, fourth, left, right)) in
    le_from_mul b _ _ positive times

-- the same by costs and outputs, for a point f left of the middle of y - 1 and y, and for one right of it
left_of : (c e f oc oe of y : ℤ) → (c *ℤ ((y -ℤ of) +ℤ (y -ℤ of) -ℤ pos 1 +ℤ neg_ℤ ((y -ℤ oe) +ℤ (y -ℤ oe) -ℤ pos 1))
    +ℤ e *ℤ ((y -ℤ oc) +ℤ (y -ℤ oc) -ℤ pos 1))
    ≤ℤ (f *ℤ ((y -ℤ oc) +ℤ (y -ℤ oc) -ℤ pos 1 +ℤ neg_ℤ ((y -ℤ oe) +ℤ (y -ℤ oe) -ℤ pos 1))
    +ℤ e *ℤ ((y -ℤ of) +ℤ (y -ℤ of) -ℤ pos 1))
    → ((e -ℤ c) *ℤ (of -ℤ oc)) ≤ℤ ((f -ℤ c) *ℤ (oe -ℤ oc))
left_of c e f oc oe of y h = let parts = simp spread at h in simp spread (omega (arith, linear, parts))

right_of : (c e f oc oe of y : ℤ) → (e *ℤ (neg_ℤ ((y -ℤ of) +ℤ (y -ℤ of) -ℤ pos 1) +ℤ ((y -ℤ oc) +ℤ (y -ℤ oc) -ℤ pos 1))
    +ℤ c *ℤ neg_ℤ ((y -ℤ oe) +ℤ (y -ℤ oe) -ℤ pos 1))
    ≤ℤ (f *ℤ (neg_ℤ ((y -ℤ oe) +ℤ (y -ℤ oe) -ℤ pos 1) +ℤ ((y -ℤ oc) +ℤ (y -ℤ oc) -ℤ pos 1))
    +ℤ c *ℤ neg_ℤ ((y -ℤ of) +ℤ (y -ℤ of) -ℤ pos 1))
    → ((e -ℤ c) *ℤ (of -ℤ oc)) ≤ℤ ((f -ℤ c) *ℤ (oe -ℤ oc))
right_of c e f oc oe of y h = let parts = simp spread at h in simp spread (omega (arith, linear, parts))

-- the same product with its factors written otherwise
respelled : (a b c d a' b' c' d' : ℤ) → a ≡ a' → b ≡ b' → c ≡ c' → d ≡ d' → (a *ℤ b) ≤ℤ (c *ℤ d) → (a' *ℤ b') ≤ℤ (c' *ℤ d')
respelled a b c d a' b' c' d' ea eb ec ed h = grind (arith, linear, ea, eb, ec, ed, h)

-- ---- pairs of points around an output
module _ (points : List Point) (y : ℤ) where
  abbrev count : ℕ
  count = length points

  abbrev cost : ℕ → ℤ
  cost l = (point_of points l).cost

  abbrev out : ℕ → ℤ
  out = output_of points

  -- twice how far a point lies left of the middle
  abbrev ahead : ℕ → ℤ
  ahead l = (y -ℤ out l) +ℤ (y -ℤ out l) -ℤ pos 1

  -- the height of the line in the middle, a fraction
  abbrev above : ℕ → ℕ → ℤ
  above i j = cost i *ℤ neg_ℤ (ahead j) +ℤ cost j *ℤ ahead i

  abbrev below : ℕ → ℕ → ℤ
  below i j = ahead i +ℤ neg_ℤ (ahead j)

  -- the numbers below count * count stand for pairs
  pub record IsAround (k : ℕ) : Type 0 where
    pub left : out (k / count) <ℤ y
    pub right : y ≤ℤ out (k % count)

  abbrev IsLower : ℕ → ℕ → Type 0
  IsLower i j =
      IsAtMost (above (i / count) (i % count)) (below (i / count) (i % count)) (above (j / count) (j % count))
      (below (j / count) (j % count))

  around : (k : ℕ) → IsAround k ⊎ ¬ IsAround k
  around k = ⊎_elim
      (λ (other : y ≤ℤ out (k / count)).
      inr (λ (h : IsAround k). let is = h.left in absurd (omega (arith, linear, other, is))))
      (λ (left : out (k / count) <ℤ y).
      ⊎_elim
      (λ (right : y ≤ℤ out (k % count)). inl (record { left = left; right = right }))
      (λ (other : out (k % count) <ℤ y).
      inr (λ (h : IsAround k). let is = h.right in absurd (omega (arith, linear, other, is))))
      (le_or_lt y (out (k % count))))
      (le_or_lt y (out (k / count)))

  wide : (k : ℕ) → IsAround k → pos 0 <ℤ below (k / count) (k % count)
  wide k h = let left = h.left in let right = h.right in omega (arith, linear, left, right)

  order : IsOrder IsAround IsLower
  order = record {
    decided = around;
    total = λ i j hi hj. at_most_total _ _ _ _;
    trans = λ i j k hi hj hk first second.
        at_most_trans _ _ _ _ _ _ (wide i hi) (wide j hj) (wide k hk) first second;
  }

  -- the lowest pair
  pub record Lowest (i j : ℕ) : Type 0 where
    pub left_within : i < count
    pub right_within : j < count
    pub left : out i <ℤ y
    pub right : y ≤ℤ out j
    pub least : (l m : ℕ) → l < count → m < count → out l <ℤ y → y ≤ℤ out m → IsAtMost (above i j) (below i j) (above l m) (below l m)

  pub pair_there : (l m : ℕ) → l < count → m < count → out l <ℤ y → y ≤ℤ out m → (i : ℕ) × (j : ℕ) × Lowest i j
  pair_there l m hl hm left right =
      let some : 0 < count = omega (arith, hl) in
      let begin = coded l m hl hm left right in
      let found = least_there IsAround IsLower order (count * count) (l * count + m) begin.0 begin.1 in (
        found.0 / count,
        found.0 % count,
        record {
          left_within = div_below found.0 count count some found.1.within;
          right_within = mod_below found.0 count some;
          left = found.1.one.left;
          right = found.1.one.right;
          least = λ a b ha hb before after.
              let code = coded a b ha hb before after in
              subst (λ n. IsAtMost (above (found.0 / count) (found.0 % count))
              (below (found.0 / count) (found.0 % count)) (above n b) (below n b))
              (div-mul-add a count b hb)
              (subst (λ n. IsAtMost (above (found.0 / count) (found.0 % count))
              (below (found.0 / count) (found.0 % count))
              (above ((a * count + b) / count) n) (below ((a * count + b) / count) n))
              (mod-mul-add a count b hb) (found.1.least (a * count + b) code.0 code.1));
        },
      )
    where
      coded : (a b : ℕ) → a < count → b < count → out a <ℤ y → y ≤ℤ out b → (a * count + b < count * count) × IsAround (a * count + b)
      coded a b ha hb before after = (
        mul-add-lt a count b count ha hb,
        record {
          left = subst (λ n. out n <ℤ y) (sym (div-mul-add a count b hb)) before;
          right = subst (λ n. y ≤ℤ out n) (sym (mod-mul-add a count b hb)) after;
        },
      )

  -- no point lies below the lowest pair's line
  line_left : (i j l : ℕ) → Lowest i j → l < count → out l <ℤ y → (rise points i j *ℤ run points i l) ≤ℤ (rise points i l *ℤ run points i j)
  line_left i j l h hl left =
      let right = h.right in
      left_of (cost i) (cost j) (cost l) (out i) (out j) (out l) y
      (divided (cost i) (cost j) (cost l) (ahead i) (neg_ℤ (ahead j)) (ahead l) (omega (arith, linear, right))
      (h.least l j hl h.right_within left h.right).products)

  line_right : (i j l : ℕ) → Lowest i j → l < count → y ≤ℤ out l
      → (rise points i j *ℤ run points i l) ≤ℤ (rise points i l *ℤ run points i j)
  line_right i j l h hl right =
      let left = h.left in
      right_of (cost i) (cost j) (cost l) (out i) (out j) (out l) y
      (divided (cost j) (cost i) (cost l) (neg_ℤ (ahead j)) (ahead i) (neg_ℤ (ahead l)) (omega (arith, linear, left))
      (respelled (above i j) (below i l) (above i l) (below i j) (cost j *ℤ ahead i +ℤ cost i *ℤ neg_ℤ (ahead j))
      (neg_ℤ (ahead l) +ℤ ahead i)
      (cost l *ℤ ahead i +ℤ cost i *ℤ neg_ℤ (ahead l)) (neg_ℤ (ahead j) +ℤ ahead i)
      (omega (arith, linear)) (omega (arith, linear)) (omega (arith, linear)) (omega (arith, linear))
      (h.least i l h.left_within hl h.left right).products))

  line : (i j l : ℕ) → Lowest i j → l < count → (rise points i j *ℤ run points i l) ≤ℤ (rise points i l *ℤ run points i j)
  line i j l h hl = ⊎_elim
      (λ (right : y ≤ℤ out l). line_right i j l h hl right)
      (λ (left : out l <ℤ y). line_left i j l h hl left)
      (le_or_lt y (out l))

  -- it is a segment of the hull
  pub is_segment : (i j : ℕ) → Lowest i j → IsTrue (is_hull_segment points i j)
  is_segment i j h =
      let left = h.left in
      let right = h.right in
      and_from _ _
      (lt-int_lt (pos 0) (run points i j) (omega (arith, linear, left, right)))
      (all_below-from count (is_above_line points i j) (λ l hl. le-int_le _ _ (line i j l h hl)))

-- ---- the first segment that holds an output
-- the least number that passes a test is there where some number passes
first_below-there : (n : ℕ) (test : ℕ → Bool) (k : ℕ) → k < n → IsTrue (test k) → (j : ℕ) × (first_below n test ≡ Some j)
first_below-there zero test k h e = absurd (omega (arith, h))
first_below-there (suc n) test k h e = ⊎_elim
    (λ (less : k < n). let found = first_below-there n test k less e in
    (found.0, ap (λ o. or_else o (if test n then Some n else None)) found.1))
    (λ (last : n ≡ k). here (first_below n test) (cond-true (test n) (Some n) None
    (subst (λ i. IsTrue (test i)) (sym last) e)))
    (one_more n k h)
  where
    here : (o : Option ℕ) → (if test n then Some n else None) ≡ Some n → (j : ℕ) × (or_else o (if test n then Some n else None) ≡ Some j)
    here None is = (n, is)
    here (Some j) is = (j, refl)

-- the first segment among those with left ends below n
module _ (points : List Point) (d : ℕ) (p : ℤ) where
  abbrev among : ℕ → Option Segment
  among n = first_segment points d p n

  abbrev from : ℕ → Option Segment
  from n = segment_from n (first_below (length points) (segment_holds points d p n))

  from-left : (n : ℕ) (o : Option ℕ) (s : Segment) → segment_from n o ≡ Some s → s.left ≡ n
  from-left n None s e = absurd (none-some s e)
  from-left n (Some j) s e = ap (λ (x : Segment). x.left) (sym (same_Some _ s e))

  -- its left end is below n
  among-left : (n : ℕ) (s : Segment) → among n ≡ Some s → s.left < n
  among-left zero s e = absurd (none-some s e)
  among-left (suc n) s e = either (among n) refl e (among-left n)
    where
      either : (o : Option Segment) → among n ≡ o → or_else o (from n) ≡ Some s
          → ((other : Segment) → among n ≡ Some other → other.left < n) → s.left < suc n
      either None none is earlier = let left = from-left n _ s is in omega (arith, left)
      either (Some other) some is earlier =
          let before = earlier other some in
          subst (λ (x : Segment). x.left < suc n) (same_Some other s is) (omega (arith, before))

  -- where the segment from i to j holds p, there is a first one, which begins no later
  pub first-there : (n i j : ℕ) → i < n → j < length points → IsTrue (segment_holds points d p i j)
      → (s : Segment) × (among n ≡ Some s) × (s.left ≤ i)
  first-there zero i j h hj e = absurd (omega (arith, h))
  first-there (suc n) i j h hj e = ⊎_elim
      (λ (less : i < n). let found = first-there n i j less hj e in
      (found.0, ap (λ o. or_else o (from n)) found.1, found.2))
      (λ (last : n ≡ i).
      let found = first_below-there (length points) (segment_holds points d p n) j hj
      (subst (λ k. IsTrue (segment_holds points d p k j)) (sym last) e) in
      here (among n) refl found.0 (ap (λ o. segment_from n o) found.1) last)
      (one_more n i h)
    where
      here : (o : Option Segment) → among n ≡ o → (k : ℕ) → from n ≡ Some (record { left = n; right = k }) → n ≡ i
          → (s : Segment) × (or_else o (from n) ≡ Some s) × (s.left ≤ i)
      here None none k is last = (record { left = n; right = k }, is, omega (arith, last))
      here (Some s) some k is last = let left = among-left n s some in (s, refl, omega (arith, left, last))

-- ---- steps
-- the outputs rise
pub record Rises (points : List Point) : Type 0 where
  pub some : 0 < length points
  pub rising : (l : ℕ) → suc l < length points → (point_of points l).mw ≤ℤ (point_of points (suc l)).mw

-- a later point lies no further left
pub outputs_rise : (points : List Point) → Rises points → (i j : ℕ) → i ≤ j → j < length points → output_of points i ≤ℤ output_of points j
outputs_rise points rises i zero h l = grind (arith, linear, rises, h, l)
outputs_rise points rises i (suc j) h l = ⊎_elim
    (λ (less : i < suc j).
    let before = outputs_rise points rises i j (omega (arith, less)) (omega (arith, l)) in
    let next = rises.rising j l in
    omega (arith, linear, before, next))
    (λ (last : suc j ≡ i). omega (arith, linear, ap (output_of points) last))
    (one_more (suc j) i (omega (arith, h)))

-- no point lies below the line from the segment's left end to its right one
pub record IsUnder (points : List Point) (s : Segment) : Type 0 where
  pub left : s.left < length points
  pub right : s.right < length points
  pub wide : pos 0 <ℤ run points s.left s.right
  pub above : (l : ℕ) → l < length points
      → (rise points s.left s.right *ℤ run points s.left l) ≤ℤ (rise points s.left l *ℤ run points s.left s.right)

-- the first segment that holds x + 1 begins at x or before
pub record Steps (points : List Point) (x : ℕ) (s : Segment) : Type 0 where
  pub at : segment_at points 1 (pos (suc x)) ≡ Some s
  pub under : IsUnder points s
  pub begins : output_of points s.left ≤ℤ pos x
  pub reaches : pos (suc x) ≤ℤ output_of points s.right

-- a segment of the hull is one
pub under : (points : List Point) (s : Segment) → s.left < length points → s.right < length points
    → IsTrue (is_hull_segment points s.left s.right) → IsUnder points s
under points s left right segment =
    let parts = and_parts (int_lt (pos 0) (run points s.left s.right))
    (all_below (length points) (is_above_line points s.left s.right)) segment in
    record {
      left = left;
      right = right;
      wide = int_lt-true (pos 0) (run points s.left s.right) parts.0;
      above = λ l h. int_le-true _ _ (all_below-at (length points) (is_above_line points s.left s.right) parts.1 l h);
    }

-- what a segment that holds p says of its ends
pub record IsHeld (points : List Point) (p : ℤ) (s : Segment) : Type 0 where
  pub is : IsUnder points s ⊎ ((s.left ≡ s.right) × (s.left < length points) × IsTrue (is_hull_point points s.left))
  pub begins : output_of points s.left ≤ℤ p
  pub reaches : p ≤ℤ output_of points s.right

-- by the definition
pub is_held : (points : List Point) (p : ℤ) (s : Segment) → Holds points 1 p s → IsHeld points p s
is_held points p s holds = grind (arith, linear, int_le, and_parts, under, eqb-true, or_cases, one-mul, int_le-true, holds)

-- and back
pub holds_from : (points : List Point) (p : ℤ) (i j : ℕ) → IsTrue (is_hull_segment points i j || ((i == j) && is_hull_point points i))
    → output_of points i ≤ℤ p → p ≤ℤ output_of points j → IsTrue (segment_holds points 1 p i j)
holds_from points p i j is begins reaches = grind (arith, linear, and_from, le-int_le, one-mul, is, begins, reaches)

-- a segment from x or before to x + 1 or behind isn't one point
not_level : (points : List Point) (x : ℕ) (s : Segment) → output_of points s.left ≤ℤ pos x → pos (suc x) ≤ℤ output_of points s.right
    → IsUnder points s ⊎ ((s.left ≡ s.right) × (s.left < length points) × IsTrue (is_hull_point points s.left))
    → IsUnder points s
not_level points x s begins reaches (inl is) = is
not_level points x s begins reaches (inr point) = grind (arith, linear, begins, reaches, point)

-- there is such a segment for each step inside the points' width
pub step_there : (points : List Point) (x : ℕ) → Rises points → pos (suc x) ≤ℤ output_of points (length points - 1)
    → (s : Segment) × Steps points x s
step_there points x rises most =
    let y = pos (suc x) in
    let pair = pair_there points y 0 (length points - 1) rises.some (let some = rises.some in omega (arith, some))
    (omega (arith, linear)) most in
    let low = pair.2 in
    let before = low.left in
    let kind =
    or_left (is_hull_segment points pair.0 pair.1) ((pair.0 == pair.1) && is_hull_point points pair.0)
    (is_segment points y pair.0 pair.1 low) in
    let held = holds_from points y pair.0 pair.1 kind (omega (arith, linear, before)) low.right in
    let found = first-there points 1 y (length points) pair.0 pair.1 low.left_within low.right_within held in
    let s = found.0 in
    let held_by = is_held points y s (segment_at-holds points 1 y s found.1) in
    let reaches = held_by.reaches in
    let earlier = outputs_rise points rises s.left pair.0 found.2 low.left_within in
    let begins : output_of points s.left ≤ℤ pos x = omega (arith, linear, earlier, before) in (
      s,
      record {
        at = found.1;
        under = not_level points x s begins reaches held_by.is;
        begins = begins;
        reaches = reaches;
      },
    )

-- the first segment that holds 0 begins there, and no point of output 0 costs less than its left end
pub record Begins (points : List Point) (s : Segment) : Type 0 where
  pub at : segment_at points 1 (pos 0) ≡ Some s
  pub within : s.left < length points
  pub start : output_of points s.left ≡ pos 0
  pub is : IsUnder points s ⊎ ((l : ℕ) → l < length points → (point_of points s.left).cost ≤ℤ (point_of points l).cost)

-- the segment from i to j holds 0
begins_by : (points : List Point) (i j : ℕ) → Rises points → i < length points → j < length points
    → IsTrue (segment_holds points 1 (pos 0) i j)
    → (s : Segment) × Begins points s
begins_by points i j rises hi hj holds =
    let found = first-there points 1 (pos 0) (length points) i j hi hj holds in
    let s = found.0 in
    let own = segment_at-holds points 1 (pos 0) s found.1 in
    let held = is_held points (pos 0) s own in
    let begins = held.begins in
    let low = outputs_rise points rises 0 s.left (omega arith) own.left in (
      s,
      record {
        at = found.1;
        within = own.left;
        start = omega (arith, linear, begins, low);
        is = ⊎_elim
            (λ (segment : IsUnder points s). inl segment)
            (λ (point : (s.left ≡ s.right) × (s.left < length points) × IsTrue (is_hull_point points s.left)).
            let tests = and_parts (all_below (length points)
            (λ l. int_le (run points s.left l) (pos 0) && int_le (pos 0) (run points s.left l)))
            (all_below (length points) (λ l. int_le (pos 0) (rise points s.left l))) point.2 in
            inr (λ l h.
            let up = int_le-true (pos 0) (rise points s.left l)
            (all_below-at (length points) (λ l. int_le (pos 0) (rise points s.left l)) tests.1 l h) in
            omega (arith, linear, up)))
            held.is;
      },
    )

-- where no point has an output above 0, a cheapest one is the hull
cheapest : (points : List Point) → Rises points → output_of points (length points - 1) ≤ℤ pos 0 → (s : Segment) × Begins points s
cheapest points rises flat =
    let cost = λ (l : ℕ). (point_of points l).cost in
    let found = least_there (λ k. k < length points) (λ i j. cost i ≤ℤ cost j)
    (record {
      decided = λ k. grind arith;
      total = λ i j hi hj. ⊎_elim (λ (le : cost i ≤ℤ cost j). inl le)
          (λ (lt : cost j <ℤ cost i). inr (omega (arith, linear, lt))) (le_or_lt (cost i) (cost j));
      trans = λ i j k hi hj hk first second. le_trans (cost i) (cost j) (cost k) first second;
    })
    (length points) 0 rises.some rises.some in
    let i = found.0 in
    let within = found.1.within in
    let level = λ (l : ℕ) (h : l < length points). flat_at l h in
    let here = flat_at i within in
    begins_by points i i rises within within
    (holds_from points (pos 0) i i
    (or_right (is_hull_segment points i i) ((i == i) && is_hull_point points i)
    (and_from (i == i) (is_hull_point points i) (eq-eqb i i refl)
    (and_from _ _
    (all_below-from (length points) (λ l. int_le (run points i l) (pos 0) && int_le (pos 0) (run points i l)) (λ l h.
    let there = level l h in
    and_from (int_le (run points i l) (pos 0)) (int_le (pos 0) (run points i l))
    (le-int_le (run points i l) (pos 0) (omega (arith, linear, here, there)))
    (le-int_le (pos 0) (run points i l) (omega (arith, linear, here, there)))))
    (all_below-from (length points) (λ l. int_le (pos 0) (rise points i l)) (λ l h.
    let least = found.1.least l h h in
    le-int_le (pos 0) (rise points i l) (omega (arith, linear, least)))))))
    (omega (arith, linear, here)) (omega (arith, linear, here)))
  where
    flat_at : (l : ℕ) → l < length points → output_of points l ≡ pos 0
    flat_at l h =
        let low = outputs_rise points rises 0 l (omega arith) h in
        let high = outputs_rise points rises l (length points - 1) (omega (arith, h)) (omega (arith, h)) in
        omega (arith, linear, low, high, flat)

-- there is such a segment
pub begin_there : (points : List Point) → Rises points → (s : Segment) × Begins points s
begin_there points rises = ⊎_elim
    (λ (flat : output_of points (length points - 1) ≤ℤ pos 0). cheapest points rises flat)
    (λ (some : pos 0 <ℤ output_of points (length points - 1)).
    let step = step_there points 0 rises (omega (arith, linear, some)) in
    let s = step.0 in
    let own = segment_at-holds points 1 (pos 1) s step.1.at in
    let reaches = step.1.reaches in
    begins_by points s.left s.right rises own.left own.right
    (holds_from points (pos 0) s.left s.right (segment_or_point s own) step.1.begins (omega (arith, linear, reaches))))
    (le_or_lt (output_of points (length points - 1)) (pos 0))
  where
    segment_or_point : (s : Segment) → Holds points 1 (pos 1) s
        → IsTrue (is_hull_segment points s.left s.right || ((s.left == s.right) && is_hull_point points s.left))
    segment_or_point s own =
        let kind = is_hull_segment points s.left s.right || ((s.left == s.right) && is_hull_point points s.left) in
        let begins = int_le (pos 1 *ℤ output_of points s.left) (pos 1) in
        (and_parts kind begins (and_parts (kind && begins) (int_le (pos 1) (pos 1 *ℤ output_of points s.right))
        own.held).0).0
