-- The least amount at a level, by the places of a source's own segments.
-- Cite by `use Rattle.decommitment.proofs.Least.{least_more}`.
use Rattle.std.proofs.Common.{◌≡◌, ℕ, suc, ◌<◌, ◌≤◌, inl, inr, ⊎_elim, sym, subst, ◌∙◌, arith, List, length, ℤ, ◌≤ℤ◌, ◌<ℤ◌, nat_lt, if◌then◌else◌}
use Rattle.std.specs.Int.{int_min, int_max}
use Rattle.std.proofs.lemmas.Bool.{cases_lt, lt-ltb, le-ltb, cond-true, cond-false}
use Rattle.uc_model.proofs.Common.{linear, le_or_lt, le_trans, below_or_last, int_min_left, int_min_right}
use Rattle.dispatch_repair.specs.Prelude.{segment_at}
use Rattle.dispatch_repair.specs.declared.segment.Segment.{Segment}
use Rattle.dispatch_repair.proofs.Filled.{max_left, max_right}
use Rattle.dispatch_repair.proofs.Shortages.{max_le}
use Rattle.decommitment.specs.inside.Levels.{Range, ArePlacesOf, IsLeastAt, IsLeastOf, IsPlaceReached, place_at}

module _ (order : List Segment) (places : List ℕ) (level : ℕ) (range : Range) where
  abbrev end : ℕ → ℤ
  end k = int_min (segment_at order (place_at places k)).end range.high

  further : (n : ℕ) (least next : ℤ) → next ≤ℤ least → IsPlaceReached order places level n least → IsPlaceReached order places level (suc n) next
  further n least next down it = record {
    k = it.k;
    below = omega (arith, it.below);
    place = it.place;
    end = le_trans next least (segment_at order (place_at places it.k)).end down it.end;
  }

  -- the segment is before the level
  counted : (n : ℕ) (least : ℤ) → place_at places n < level → IsLeastOf order places level n range least
      → IsLeastOf order places level (suc n) range (int_max least (end n))
  counted n least before was = record {
    low = le_trans range.low least next was.low (max_left least (end n));
    high = max_le least (end n) range.high was.high (int_min_right (segment_at order (place_at places n)).end range.high);
    full = λ k h inside. ⊎_elim (λ early. le_trans (end k) least next (was.full k early inside) (max_left least (end n)))
        (λ (last : k ≡ n). subst (λ m. end m ≤ℤ next) (sym last) (max_right least (end n))) (below_or_last n k h);
    taken = ⊎_elim
        (λ (flat : end n ≤ℤ least).
        let down : next ≤ℤ least = max_le least (end n) least (omega (arith, linear)) flat in
        ⊎_elim (λ none. inl (le_trans next least range.low down none)) (λ it. inr (further n least next down it)) was.taken)
        (λ (rise : least <ℤ end n). inr (record {
          k = n;
          below = omega arith;
          place = before;
          end = le_trans next (end n) (segment_at order (place_at places n)).end (max_le least (end n) (end n) (omega (arith, linear, rise)) (omega (arith, linear)))
              (int_min_left (segment_at order (place_at places n)).end range.high);
        }))
        (le_or_lt (end n) least);
  }
    where
      next : ℤ
      next = int_max least (end n)

  -- it isn't
  spared : (n : ℕ) (least : ℤ) → level ≤ place_at places n → IsLeastOf order places level n range least → IsLeastOf order places level (suc n) range least
  spared n least past was = record {
    low = was.low;
    high = was.high;
    full = λ k h inside. ⊎_elim (λ early. was.full k early inside)
        (λ (last : k ≡ n). absurd (omega (arith, past, subst (λ m. place_at places m < level) last inside))) (below_or_last n k h);
    taken = ⊎_elim (λ none. inl none) (λ it. inr (further n least least (omega (arith, linear)) it)) was.taken;
  }

  pub least_more : (n : ℕ) (least next : ℤ)
      → next ≡ (if nat_lt (place_at places n) level then int_max least (int_min (segment_at order (place_at places n)).end range.high) else least)
      → IsLeastOf order places level n range least → IsLeastOf order places level (suc n) range next
  least_more n least next is was = ⊎_elim
      (λ (before : place_at places n < level). subst (IsLeastOf order places level (suc n) range)
      (sym (is ∙ cond-true _ _ _ (lt-ltb (place_at places n) level before))) (counted n least before was))
      (λ (past : level ≤ place_at places n). subst (IsLeastOf order places level (suc n) range)
      (sym (is ∙ cond-false _ _ _ (le-ltb (place_at places n) level past))) (spared n least past was))
      (cases_lt (place_at places n) level)

  pub least_none : range.low ≤ℤ range.high → IsLeastOf order places level 0 range range.low
  least_none some = record {
    low = omega (arith, linear);
    high = some;
    full = λ k h inside. absurd (omega (arith, h));
    taken = inl (omega (arith, linear));
  }

  pub least_all : (n : ℕ) (least : ℤ) → ArePlacesOf order n places → IsLeastOf order places level (length places) range least → IsLeastAt order n level range least
  least_all n least are was = record {
    low_end = was.low;
    high_end = was.high;
    full = λ j early inside its.
        let it = are.all j inside its in
        subst (λ i. int_min (segment_at order i).end range.high ≤ℤ least) it.is (was.full it.k it.below (subst (λ i. i < level) (sym it.is) early));
    taken = ⊎_elim (λ none. inl none)
        (λ it. let own = are.own it.k it.below in
        inr (record { j = place_at places it.k; below = own.below; place = it.place; source = own.source; end = it.end }))
        was.taken;
  }
