-- In a period the order of merit leaves one choice: where two fillings differ, a watt of one could move.
use Rattle.std.proofs.Common.{◌≡◌, ◌≢◌, ◌⊎◌, inl, inr, ⊎_elim, ℕ, suc, zero, ◌<◌, ◌≤◌, arith, refl, sym, ap, subst, ℤ, pos, ◌+ℤ◌, ◌-ℤ◌, ◌*ℤ◌, ◌≤ℤ◌, ◌<ℤ◌}
use Rattle.std.proofs.lemmas.Bool.{cases_lt}
use Rattle.uc_model.specs.Prelude.{IsLawfulInstance, sum_below, thermal_count, thermal_unit, renewable_count}
use Rattle.uc_model.specs.declared.instance.Instance.{Instance}
use Rattle.uc_model.proofs.Common.{linear, le_or_lt, le_antisymm, zero-mul, below_or_last, sum_below-le}
use Rattle.cost_curves.specs.LowerHull.{width_of}
use Rattle.cost_curves.proofs.UnitPoints.{lawful_points}
use Rattle.dispatch_repair.specs.Prelude.{Period, Source, FromRenewable, FromThermal, IsSourceOf, low_of, high_of, thermal_sum, thermal_limit, Slope, ComesBefore, HasLastSlope, HasNextSlope, IsInMeritOrder, IsPreferred, thermal_part, IsAtMost}
use Rattle.dispatch_repair.proofs.Filled.{max_left}
use Rattle.dispatch_repair.proofs.Merit.{high-le-width}
use Rattle.dispatch_repair.proofs.SourceSlopes.{at_most_trans, left-there, next_of, right-there, right-le-left, source_run}

-- ---- sums of which each term is at most the other's
-- each term is at most the other's, or one is above it
none_above : (n : ℕ) (f g : ℕ → ℤ) → ((k : ℕ) → k < n → f k ≤ℤ g k) ⊎ ((k : ℕ) × (k < n) × (g k <ℤ f k))
none_above zero f g = inl (λ k h. absurd (omega (arith, h)))
none_above (suc n) f g = elim (none_above n f g) [
  | inr found ↦ inr (found.0, omega (arith, found.1), found.2)
  | inl all ↦ elim (le_or_lt (f n) (g n)) [
    | inr above ↦ inr (n, omega arith, above)
    | inl last ↦ inl (λ k h. ⊎_elim (λ early. all k early) (λ same. subst (λ j. f j ≤ℤ g j) (sym same) last) (below_or_last n k h))
  ]
]

-- a lesser sum has a lesser term
lesser_term : (n : ℕ) (f g : ℕ → ℤ) → sum_below n f <ℤ sum_below n g → (k : ℕ) × (k < n) × (f k <ℤ g k)
lesser_term n f g less = elim (none_above n g f) [
  | inr found ↦ found
  | inl all ↦ absurd (omega (arith, linear, less, sum_below-le n g f all))
]

-- terms that are at most the others are those where the sums are the same
same_terms : (n : ℕ) (f g : ℕ → ℤ) → ((k : ℕ) → k < n → f k ≤ℤ g k) → sum_below n f ≡ sum_below n g → (k : ℕ) → k < n → f k ≡ g k
same_terms zero f g all same k h = absurd (omega (arith, h))
same_terms (suc n) f g all same k h =
    let below = sum_below-le n f g (λ j hj. all j (omega (arith, hj))) in
    let last = all n (omega arith) in
    ⊎_elim
    (λ early. same_terms n f g (λ j hj. all j (omega (arith, hj))) (le_antisymm _ _ below (omega (arith, linear, same, last))) k early)
    (λ here. subst (λ j. f j ≡ g j) (sym here) (le_antisymm _ _ last (omega (arith, linear, same, below))))
    (below_or_last n k h)

-- ---- slopes
-- a source that isn't preferred costs as much or more, and where it costs as much it doesn't come before
not_preferred : (to from : Source) (next last : Slope) → ¬ IsPreferred to next from last → IsAtMost last next × (IsAtMost next last → ¬ ComesBefore to from)
not_preferred to from next last none = (
  elim (le_or_lt (last.rise *ℤ next.run) (next.rise *ℤ last.run)) [ inl up ↦ up | inr less ↦ absurd (none (inl less)) ],
  λ back before. none (inr (le_antisymm _ _ back (elim (le_or_lt (last.rise *ℤ next.run) (next.rise *ℤ last.run)) [ inl up ↦ up | inr less ↦ absurd (none (inl less)) ]), before)),
)

strict : (m n : ℕ) → n ≤ m → m ≢ n → n < m
strict m n h ne = omega (arith, h, ne)

-- of two sources one comes before the other
ordered : (a b : Source) → a ≢ b → ComesBefore a b ⊎ ComesBefore b a
ordered (FromRenewable v) (FromRenewable w) apart =
    ⊎_elim (λ (less : v < w). inl less) (λ (up : w ≤ v). inr (strict v w up (λ same. apart (ap FromRenewable same)))) (cases_lt v w)
ordered (FromRenewable v) (FromThermal g) apart = inl tt
ordered (FromThermal g) (FromRenewable w) apart = inr tt
ordered (FromThermal g) (FromThermal h) apart =
    ⊎_elim (λ (less : g < h). inl less) (λ (up : h ≤ g). inr (strict g h up (λ same. apart (ap FromThermal same)))) (cases_lt g h)

-- ---- two fillings of a period
record AreFillings (period : Period) (one other : Source → ℤ) : Type 0 where
  lawful : IsLawfulInstance period.instance
  first : IsInMeritOrder period one
  second : IsInMeritOrder period other

-- the same the other way round
turned : (period : Period) (one other : Source → ℤ) → AreFillings period one other → AreFillings period other one
turned period one other are = record { lawful = are.lawful; first = are.second; second = are.first }

module _ (period : Period) (lawful : IsLawfulInstance period.instance) (amount : Source → ℤ) (is : IsInMeritOrder period amount) where
  next-there : (s : Source) → IsSourceOf period.instance s → amount s <ℤ high_of period s → (slope : Slope) × HasNextSlope period.instance s (amount s) slope
  next-there (FromRenewable w) h less = (record { rise = pos 0; run = pos 1 }, (refl, omega (arith, linear)))
  next-there (FromThermal g) h less =
      let low = max_left (pos 0) (period.before g -ℤ (thermal_unit period.instance g).rd) in
      let within : high_of period (FromThermal g) ≤ℤ width_of (thermal_unit period.instance g).points = high-le-width period g in
      right-there (thermal_unit period.instance g).points (amount (FromThermal g)) (lawful_points _ (lawful.thermal g h))
      (omega (arith, linear, low, is.low (FromThermal g) h)) (omega (arith, linear, within, less))

  last-there : (s : Source) → IsSourceOf period.instance s → low_of period s <ℤ amount s → (slope : Slope) × HasLastSlope period.instance s (amount s) slope
  last-there (FromRenewable w) h less = (record { rise = pos 0; run = pos 1 }, (refl, omega (arith, linear)))
  last-there (FromThermal g) h less =
      let low = max_left (pos 0) (period.before g -ℤ (thermal_unit period.instance g).rd) in
      let within : high_of period (FromThermal g) ≤ℤ width_of (thermal_unit period.instance g).points = high-le-width period g in
      left-there (thermal_unit period.instance g).points (amount (FromThermal g)) (lawful_points _ (lawful.thermal g h))
      (omega (arith, linear, low, less)) (omega (arith, linear, within, is.high (FromThermal g) h))

-- the next watt costs at most what the last one of a greater output does
rises : (instance : Instance) (s : Source) (a b : ℤ) (next last : Slope) → a <ℤ b → HasNextSlope instance s a next → HasLastSlope instance s b last → IsAtMost next last
rises instance (FromRenewable w) a b next last less n l =
    subst (λ z. z) (λ i. (sym n.0 i *ℤ last.run) ≤ℤ (sym l.0 i *ℤ next.run)) (omega (arith, linear, zero-mul last.run, zero-mul next.run))
rises instance (FromThermal g) a b next last less n l = right-le-left (thermal_unit instance g).points a b next last less n l

-- one source gives more in the one filling, another in the other, and a watt may move either way
record Clash (period : Period) (one other : Source → ℤ) (s r : Source) : Type 0 where
  is_s : IsSourceOf period.instance s
  is_r : IsSourceOf period.instance r
  s_less : one s <ℤ other s
  r_less : other r <ℤ one r
  room_one : (thermal_sum period one +ℤ thermal_part s -ℤ thermal_part r) ≤ℤ thermal_limit period
  room_other : (thermal_sum period other +ℤ thermal_part r -ℤ thermal_part s) ≤ℤ thermal_limit period

no_clash : (period : Period) (one other : Source → ℤ) (s r : Source) → AreFillings period one other → ¬ Clash period one other s r
no_clash period one other s r are it =
    let n1 = next-there period are.lawful one are.first s it.is_s (omega (arith, linear, it.s_less, are.second.high s it.is_s)) in
    let l1 = last-there period are.lawful one are.first r it.is_r (omega (arith, linear, it.r_less, are.second.low r it.is_r)) in
    let n2 = next-there period are.lawful other are.second r it.is_r (omega (arith, linear, it.r_less, are.first.high r it.is_r)) in
    let l2 = last-there period are.lawful other are.second s it.is_s (omega (arith, linear, it.s_less, are.first.low s it.is_s)) in
    let one_way = not_preferred s r n1.0 l1.0 (are.first.merit r s l1.0 n1.0 (record {
      source = it.is_r;
      target = it.is_s;
      down = omega (arith, linear, it.r_less, are.second.low r it.is_r);
      up = omega (arith, linear, it.s_less, are.second.high s it.is_s);
      limit = it.room_one;
    }) l1.1 n1.1) in
    let other_way = not_preferred r s n2.0 l2.0 (are.second.merit s r l2.0 n2.0 (record {
      source = it.is_s;
      target = it.is_r;
      down = omega (arith, linear, it.s_less, are.first.low s it.is_s);
      up = omega (arith, linear, it.r_less, are.first.high r it.is_r);
      limit = it.room_other;
    }) l2.1 n2.1) in
    let rn1 = source_run period.instance s _ n1.0 n1.1 in
    let rl1 = source_run period.instance r _ l1.0 (next_of period.instance r _ l1.0 l1.1) in
    let rn2 = source_run period.instance r _ n2.0 n2.1 in
    let rl2 = source_run period.instance s _ l2.0 (next_of period.instance s _ l2.0 l2.1) in
    let up_s : IsAtMost n1.0 l2.0 = rises period.instance s _ _ n1.0 l2.0 it.s_less n1.1 l2.1 in
    let up_r : IsAtMost n2.0 l1.0 = rises period.instance r _ _ n2.0 l1.0 it.r_less n2.1 l1.1 in
    let back_one : IsAtMost n1.0 l1.0 = at_most_trans n1.0 l2.0 l1.0 rn1 rl2 rl1 up_s (at_most_trans l2.0 n2.0 l1.0 rl2 rn2 rl1 other_way.0 up_r) in
    let back_other : IsAtMost n2.0 l2.0 = at_most_trans n2.0 l1.0 l2.0 rn2 rl1 rl2 up_r (at_most_trans l1.0 n1.0 l2.0 rl1 rn1 rl2 one_way.0 up_s) in
    elim (ordered s r apart) [ inl before ↦ one_way.1 back_one before | inr before ↦ other_way.1 back_other before ]
  where
    apart : s ≢ r
    apart same = omega (arith, linear, it.s_less, subst (λ x. other x <ℤ one x) (sym same) it.r_less)

-- ---- one filling
-- as the sources of a kind give the same in all, each gives the same
module _ (period : Period) (one other : Source → ℤ) (are : AreFillings period one other) (n : ℕ) (source : ℕ → Source)
    (within : (k : ℕ) → k < n → IsSourceOf period.instance (source k)) (even : (j k : ℕ) → thermal_part (source j) ≡ thermal_part (source k))
    (sums : sum_below n (λ k. one (source k)) ≡ sum_below n (λ k. other (source k))) where
  kind-le : (k : ℕ) → k < n → one (source k) ≤ℤ other (source k)
  kind-le = elim (none_above n (λ k. one (source k)) (λ k. other (source k))) [
    | inl all ↦ all
    | inr more ↦ elim (none_above n (λ k. other (source k)) (λ k. one (source k))) [
      | inl all ↦ λ k h. absurd (omega (arith, linear, more.2, same_terms n (λ j. other (source j)) (λ j. one (source j)) all (sym sums) more.0 more.1))
      | inr less ↦ λ k h. absurd (no_clash period one other (source less.0) (source more.0) are (record {
        is_s = within less.0 less.1;
        is_r = within more.0 more.1;
        s_less = less.2;
        r_less = more.2;
        room_one = omega (arith, linear, are.first.limit, even less.0 more.0);
        room_other = omega (arith, linear, are.second.limit, even more.0 less.0);
      }))
    ]
  ]

  kind_same : (k : ℕ) → k < n → one (source k) ≡ other (source k)
  kind_same = same_terms n (λ k. one (source k)) (λ k. other (source k)) kind-le sums

-- as the thermal units give the same in all, each source gives the same
each_same : (period : Period) (one other : Source → ℤ) → AreFillings period one other → thermal_sum period one ≡ thermal_sum period other
    → (s : Source) → IsSourceOf period.instance s → one s ≡ other s
each_same period one other are same (FromRenewable w) h =
    kind_same period one other are (renewable_count period.instance) FromRenewable (λ k hk. hk) (λ j k. refl)
    (omega (arith, linear, same, are.first.demand, are.second.demand)) w h
each_same period one other are same (FromThermal g) h =
    kind_same period one other are (thermal_count period.instance) FromThermal (λ k hk. hk) (λ j k. refl) same g h

-- the thermal units don't give less in all
not_less : (period : Period) (one other : Source → ℤ) → AreFillings period one other → ¬ (thermal_sum period one <ℤ thermal_sum period other)
not_less period one other are less =
    let unit = lesser_term (thermal_count period.instance) (λ g. one (FromThermal g)) (λ g. other (FromThermal g)) less in
    let free = lesser_term (renewable_count period.instance) (λ w. other (FromRenewable w)) (λ w. one (FromRenewable w))
    (omega (arith, linear, less, are.first.demand, are.second.demand)) in
    no_clash period one other (FromThermal unit.0) (FromRenewable free.0) are (record {
      is_s = unit.1;
      is_r = free.1;
      s_less = unit.2;
      r_less = free.2;
      room_one = omega (arith, linear, less, are.second.limit);
      room_other = omega (arith, linear, are.second.limit);
    })

pub one_filling : (period : Period) (one other : Source → ℤ) → IsLawfulInstance period.instance → IsInMeritOrder period one → IsInMeritOrder period other
    → (s : Source) → IsSourceOf period.instance s → one s ≡ other s
one_filling period one other lawful first second s h = each_same period one other are same s h
  where
    are : AreFillings period one other
    are = record { lawful = lawful; first = first; second = second }

    same : thermal_sum period one ≡ thermal_sum period other
    same = le_antisymm _ _
        (elim (le_or_lt (thermal_sum period one) (thermal_sum period other)) [ inl up ↦ up | inr less ↦ absurd (not_less period other one (turned period one other are) less) ])
        (elim (le_or_lt (thermal_sum period other) (thermal_sum period one)) [ inl up ↦ up | inr less ↦ absurd (not_less period one other are less) ])
