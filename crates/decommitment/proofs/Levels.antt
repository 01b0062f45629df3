-- Amounts at a level: a step up or down along the order keeps them there.
-- Cite by `use Rattle.decommitment.proofs.Levels.{climbed}`.
use Rattle.std.proofs.Common.{◌≡◌, ◌≢◌, ℕ, suc, ◌-◌, ◌<◌, ◌≤◌, ◌⊎◌, inl, inr, ⊎_elim, refl, sym, subst, ◌∙◌, arith, List, length, get_or, ℤ, pos, ◌≤ℤ◌, slice_set, get_or-set_same, get_or-set_other, if◌then◌else◌}
use Rattle.std.specs.Int.{int_min}
use Rattle.std.proofs.lemmas.Bool.{cases_lt, cases_eq, cond_both}
use Rattle.uc_model.proofs.Common.{linear, le_antisymm, le_or_lt, le_trans, int_min_left, int_min_right}
use Rattle.dispatch_repair.specs.Amounts.{amount_at}
use Rattle.dispatch_repair.specs.Prelude.{Period, low_of, high_of, segment_at, source_at, source_count}
use Rattle.dispatch_repair.specs.declared.segment.Segment.{Segment}
use Rattle.decommitment.specs.inside.Levels.{Step, AreAtLevel, IsAtLevel, IsReached, IsRisen, IsSunk}

-- what holds of each element and of a new one at i holds of each after it was set
pub set_each : {A : Type 0} (P : ℕ → A → Type 0) (xs : List A) (i : ℕ) (x d : A) → i < length xs → P i x
    → ((n : ℕ) → n ≢ i → P n (get_or xs n d)) → (n : ℕ) → P n (get_or (slice_set xs i x) n d)
set_each P xs i x d within here others n = grind (arith, linear, slice_set, get_or-set_same, get_or-set_other, cases_eq, within, here, others)

-- an amount that rose stands still or goes up to the end at most, and one that fell down to the least at most
pub risen_or : (amount end : ℤ) (step : Step) → IsRisen amount end step → (step.amount ≡ amount) ⊎ (step.amount ≤ℤ end)
risen_or amount end step rose = ⊎_elim (λ low. inl (le_antisymm step.amount amount low rose.up)) (λ more. inr (rose.within more)) (le_or_lt step.amount amount)

pub sunk_or : (amount least : ℤ) (step : Step) → IsSunk amount least step → (step.amount ≡ amount) ⊎ (least ≤ℤ step.amount)
sunk_or amount least step sank = ⊎_elim (λ high. inl (le_antisymm step.amount amount sank.down high)) (λ less. inr (sank.within less)) (le_or_lt amount step.amount)

-- ---- one source
module _ (order : List Segment) (n level bound : ℕ) (low high : ℤ) where
  -- what was reached before a bound was reached by less before a later one
  further : (amount less : ℤ) (more : ℕ) → less ≤ℤ amount → bound ≤ more → IsReached order n bound amount → IsReached order n more less
  further amount less more down far it = record {
    j = it.j;
    below = it.below;
    place = omega (arith, it.place, far);
    source = it.source;
    end = le_trans less amount (segment_at order it.j).end down it.end;
  }

  pub higher : (amount : ℤ) (more : ℕ) → bound ≤ more → IsAtLevel order n level bound low high amount → IsAtLevel order n level more low high amount
  higher amount more far was = record {
    low_end = was.low_end;
    high_end = was.high_end;
    full = was.full;
    taken = ⊎_elim (λ none. inl none) (λ it. inr (further amount amount more (omega (arith, linear)) far it)) was.taken;
  }

-- a source goes up or down at a place of the order, its own or another's
module _ (order : List Segment) (n level : ℕ) (low high : ℤ) where
  pub risen_stays : (amount : ℤ) (step : Step) → level < length order → (segment_at order level).source ≡ n
      → IsAtLevel order n level (suc level) low high amount → IsRisen amount (int_min (segment_at order level).end high) step
      → IsAtLevel order n level (suc level) low high step.amount
  risen_stays amount step within own was rose = record {
    low_end = le_trans low amount step.amount was.low_end rose.up;
    high_end = ⊎_elim
        (λ (same : step.amount ≡ amount). subst (λ z. z ≤ℤ high) (sym same) was.high_end)
        (λ (most : step.amount ≤ℤ int_min (segment_at order level).end high). le_trans _ _ _ most (int_min_right (segment_at order level).end high))
        (risen_or amount (int_min (segment_at order level).end high) step rose);
    full = λ j early inside its. le_trans _ _ _ (was.full j early inside its) rose.up;
    taken = ⊎_elim
        (λ (same : step.amount ≡ amount). subst (λ z. (z ≤ℤ low) ⊎ IsReached order n (suc level) z) (sym same) was.taken)
        (λ (most : step.amount ≤ℤ int_min (segment_at order level).end high). inr (record {
          j = level;
          below = within;
          place = omega arith;
          source = own;
          end = le_trans _ _ _ most (int_min_left (segment_at order level).end high);
        }))
        (risen_or amount (int_min (segment_at order level).end high) step rose);
  }

  -- what is full at the level too is at the next
  up : (amount : ℤ) → IsAtLevel order n level (suc level) low high amount
      → (level < length order → (segment_at order level).source ≡ n → int_min (segment_at order level).end high ≤ℤ amount)
      → IsAtLevel order n (suc level) (suc (suc level)) low high amount
  up amount was done = record {
    low_end = was.low_end;
    high_end = was.high_end;
    full = λ j early inside its. ⊎_elim
        (λ (before : j < level). was.full j before inside its)
        (λ (late : level ≤ j). let same : level ≡ j = omega (arith, early, late) in
        subst (λ i. int_min (segment_at order i).end high ≤ℤ amount) same
        (done (omega (arith, same, inside)) (subst (λ i. (segment_at order i).source ≡ n) (sym same) its)))
        (cases_lt j level);
    taken = (higher order n level (suc level) low high amount (suc (suc level)) (omega arith) was).taken;
  }

  pub risen_on : (amount : ℤ) → IsAtLevel order n level (suc level) low high amount → int_min (segment_at order level).end high ≤ℤ amount
      → IsAtLevel order n (suc level) (suc (suc level)) low high amount
  risen_on amount was done = up amount was (λ inside its. done)

  pub other_up : (amount : ℤ) → n ≢ (segment_at order level).source → IsAtLevel order n level (suc level) low high amount
      → IsAtLevel order n (suc level) (suc (suc level)) low high amount
  other_up amount other was = up amount was (λ inside its. absurd (other (sym its)))

  pub sunk_stays : (amount least : ℤ) (step : Step) → IsAtLevel order n level (suc level) low high amount
      → IsAtLevel order n level level low high least → IsSunk amount least step → IsAtLevel order n level (suc level) low high step.amount
  sunk_stays amount least step was bottom sank = record {
    low_end = above low was.low_end bottom.low_end;
    high_end = le_trans step.amount amount high sank.down was.high_end;
    full = λ j early inside its. above (int_min (segment_at order j).end high) (was.full j early inside its) (bottom.full j early inside its);
    taken = ⊎_elim
        (λ none. inl (le_trans step.amount amount low sank.down none))
        (λ it. inr (further order n level (suc level) low high amount step.amount (suc level) sank.down (omega arith) it))
        was.taken;
  }
    where
      above : (z : ℤ) → z ≤ℤ amount → z ≤ℤ least → z ≤ℤ step.amount
      above z first second = ⊎_elim
          (λ (same : step.amount ≡ amount). subst (λ y. z ≤ℤ y) (sym same) first)
          (λ (over : least ≤ℤ step.amount). le_trans z least step.amount second over)
          (sunk_or amount least step sank)

-- down from the level after a place
module _ (order : List Segment) (n level : ℕ) (low high : ℤ) where
  pub sunk_on : (amount least : ℤ) → IsAtLevel order n (suc level) (suc (suc level)) low high amount
      → IsAtLevel order n (suc level) (suc level) low high least → amount ≤ℤ least → IsAtLevel order n level (suc level) low high amount
  sunk_on amount least was bottom down = record {
    low_end = was.low_end;
    high_end = was.high_end;
    full = λ j early inside its. was.full j (omega arith) inside its;
    taken = ⊎_elim
        (λ none. inl (le_trans amount least low down none))
        (λ it. inr (further order n (suc level) (suc level) low high least amount (suc level) down (omega arith) it))
        bottom.taken;
  }

  pub other_down : (amount : ℤ) → n ≢ (segment_at order (suc level)).source → IsAtLevel order n (suc level) (suc (suc level)) low high amount
      → IsAtLevel order n level (suc level) low high amount
  other_down amount other was = record {
    low_end = was.low_end;
    high_end = was.high_end;
    full = λ j early inside its. was.full j (omega arith) inside its;
    taken = ⊎_elim (λ none. inl none) (λ it. inr (nearer it)) was.taken;
  }
    where
      nearer : IsReached order n (suc (suc level)) amount → IsReached order n (suc level) amount
      nearer it = record {
        j = it.j;
        below = it.below;
        place = ⊎_elim
            (λ (early : it.j < suc level). early)
            (λ (late : suc level ≤ it.j). absurd (other (sym (subst (λ i. (segment_at order i).source ≡ n) (omega (arith, late, it.place)) it.source))))
            (cases_lt it.j (suc level));
        source = it.source;
        end = it.end;
      }

-- ---- all sources
module _ (period : Period) (order : List Segment) (level : ℕ) (amounts : List ℤ) (step : Step) (count : length amounts ≡ source_count period.instance)
    (was : AreAtLevel period order level amounts) where
  abbrev s : ℕ
  s = (segment_at order level).source

  abbrev low : ℕ → ℤ
  low n = low_of period (source_at period.instance n)

  abbrev high : ℕ → ℤ
  high n = high_of period (source_at period.instance n)

  -- all are at a level where the new amount is, and the others' amounts are
  at_level : (l : ℕ) → s < source_count period.instance → IsAtLevel order s l (suc l) (low s) (high s) step.amount
      → ((n : ℕ) → n ≢ s → n < source_count period.instance → IsAtLevel order n l (suc l) (low n) (high n) (amount_at amounts n))
      → AreAtLevel period order l (slice_set amounts s step.amount)
  at_level l inside here others =
      set_each (λ n z. n < source_count period.instance → IsAtLevel order n l (suc l) (low n) (high n) z) amounts s step.amount (pos 0) (omega (arith, inside, count))
      (λ h. here) others

  -- the owner of the segment at the level goes up
  pub climbed : level < length order → s < source_count period.instance → IsRisen (amount_at amounts s) (int_min (segment_at order level).end (high s)) step
      → AreAtLevel period order (if step.goes_on then suc level else level) (slice_set amounts s step.amount)
  climbed within inside rose =
      let stays = risen_stays order s level (low s) (high s) (amount_at amounts s) step within refl (was s inside) rose in
      cond_both step.goes_on (suc level) level (λ l. AreAtLevel period order l (slice_set amounts s step.amount))
      (λ on. at_level (suc level) inside (risen_on order s level (low s) (high s) step.amount stays (rose.done on))
      (λ n other h. other_up order n level (low n) (high n) (amount_at amounts n) other (was n h)))
      (λ off. at_level level inside stays (λ n other h. was n h))

  -- and down
  pub descended : (least : ℤ) → s < source_count period.instance → IsAtLevel order s level level (low s) (high s) least → IsSunk (amount_at amounts s) least step
      → AreAtLevel period order (if step.goes_on then level - 1 else level) (slice_set amounts s step.amount)
  descended least inside bottom sank =
      cond_both step.goes_on (level - 1) level (λ l. AreAtLevel period order l (slice_set amounts s step.amount))
      (λ on. ⊎_elim
      (λ (more : 0 < level). down (level - 1) (omega (arith, more)) (sank.done on))
      (λ (none : level ≤ 0). let still : level ≡ level - 1 = omega (arith, none) in
      subst (λ l. AreAtLevel period order l (slice_set amounts s step.amount)) still same)
      (cases_lt 0 level))
      (λ off. same)
    where
      stays : IsAtLevel order s level (suc level) (low s) (high s) step.amount
      stays = sunk_stays order s level (low s) (high s) (amount_at amounts s) least step (was s inside) bottom sank

      same : AreAtLevel period order level (slice_set amounts s step.amount)
      same = at_level level inside stays (λ n other h. was n h)

      down : (before : ℕ) → level ≡ suc before → step.amount ≤ℤ least → AreAtLevel period order before (slice_set amounts s step.amount)
      down before is done =
          at_level before inside
          (sunk_on order s before (low s) (high s) step.amount least
          (subst (λ l. IsAtLevel order s l (suc l) (low s) (high s) step.amount) is stays)
          (subst (λ l. IsAtLevel order s l l (low s) (high s) least) is bottom) done)
          (λ n other h. other_down order n before (low n) (high n) (amount_at amounts n)
          (λ e. other (e ∙ (λ i. (segment_at order (sym is i)).source)))
          (subst (λ l. IsAtLevel order n l (suc l) (low n) (high n) (amount_at amounts n)) is (was n h)))

-- amounts at a level are at one before, down to the last segment
pub lowered : (period : Period) (order : List Segment) (level lower : ℕ) (amounts : List ℤ) → lower ≤ level
    → ((j : ℕ) → j < length order → j < suc level → j < suc lower) → AreAtLevel period order level amounts → AreAtLevel period order lower amounts
lowered period order level lower amounts down last was n h =
    let its = was n h in
    record {
      low_end = its.low_end;
      high_end = its.high_end;
      full = λ j early inside own. its.full j (omega (arith, early, down)) inside own;
      taken = ⊎_elim (λ none. inl none) (λ it. inr (record { j = it.j; below = it.below; place = last it.j it.below it.place; source = it.source; end = it.end })) its.taken;
    }
