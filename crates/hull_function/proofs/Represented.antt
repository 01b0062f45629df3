-- Costs by output as functions: what a cut, a ramp and a cost more make of them.
use Rattle.std.proofs.Common.{◌≡◌, ℕ, ◌≤◌, ◌↔◌, Bool, true, false, true≢false, refl, sym, ap, subst, ◌∙◌, arith, ℤ, pos, ◌+ℤ◌, ◌-ℤ◌, ◌*ℤ◌, ◌≤ℤ◌, IsTrue, unsigned_abs, Option, Some, None, if◌then◌else◌}
use Rattle.std.specs.Int.{int_max, int_min}
use Rattle.std.proofs.lemmas.Int.{ints, clamps}
use Rattle.std.proofs.lemmas.Bool.{cond-true, and_from}
use Rattle.uc_model.proofs.Common.{linear, le_antisymm, le-int_le, int_min_left, int_min_right}
use Rattle.dual_model.specs.Prelude.{greatest_output, total_of}
use Rattle.dual_model.proofs.Optimum.{AtMost, total_of-parts}
use Rattle.step_functions.specs.Functions.{Steps, IsLeastBetween, IsPlace, last_place, value_at}
use Rattle.hull_function.specs.Hulls.{IsBounded, IsHull}
use Rattle.unit_runs.specs.CostThrough.{is_output, least_between, output_cost}
use Rattle.unit_runs.proofs.Costs.{least_between-at_most, least_between-reached}
use Rattle.hull_function.specs.Hours.{Hour, IsCostsOf, IsHourAt, with_output}
use Rattle.hull_function.specs.Problems.{Table, Thermal}

-- ---- tests
pub through : (b : Bool) (o : Option ℤ) (v : ℤ) → (if b then o else None) ≡ Some v → IsTrue b × (o ≡ Some v)
through true o v e = (refl, e)
through false o v e = cc

pub le_min : (z a b : ℤ) → z ≤ℤ a → z ≤ℤ b → z ≤ℤ int_min a b
le_min z a b h k = grind (arith, ints)

-- an output that an hour may have lies from 0 to the lesser of its cap and the width
pub output-there : (unit : Thermal) (cap p : ℤ) → pos 0 ≤ℤ p → p ≤ℤ int_min cap (greatest_output unit.points) → IsTrue (is_output unit cap p)
output-there unit cap p low high = and_from _ _ (le-int_le (pos 0) p low) (le-int_le p _ high)

pub output-within : (unit : Thermal) (cap p : ℤ) → IsTrue (is_output unit cap p) → (pos 0 ≤ℤ p) × (p ≤ℤ int_min cap (greatest_output unit.points))
output-within unit cap p is = grind (arith, ints, is)

-- ---- places
-- two functions have the same places
pub record SamePlaces (f g : Steps) : Type 0 where
  pub first : g.first ≡ f.first
  pub last : last_place g ≡ last_place f

pub place_from : (f g : Steps) (p : ℤ) → SamePlaces f g → IsPlace g p → IsPlace f p
place_from f g p same is = grind (arith, ints, same, is)

place_to : (f g : Steps) (p : ℤ) → SamePlaces f g → IsPlace f p → IsPlace g p
place_to f g p same = place_from g f p (record { first = sym same.first; last = sym same.last })

-- ---- a cost more
pub with-more : (f g : Steps) (cost : ℤ → Option ℤ) (more : ℤ → ℤ) → IsCostsOf true f cost → SamePlaces f g
    → ((p : ℤ) → IsPlace g p → value_at g p ≡ value_at f p +ℤ more p) → IsCostsOf true g (λ p. total_of (cost p) (Some (more p)))
with-more f g cost more is same value = grind (arith, ints, is, same, value)

-- ---- the least of them
pub least-is : (f : Steps) (cost : ℤ → Option ℤ) (low high m : ℤ) → IsCostsOf true f cost → IsLeastBetween f low high m
    → least_between low high cost ≡ Some m
least-is f cost low high m is least =
    let there : AtMost (cost least.place) m = record {
      cost = value_at f least.place;
      is = is.inside refl least.place least.is_place;
      below = let reached = least.reached in omega (arith, linear, reached);
    }
    in
    let most = least_between-at_most low high cost least.place m least.after least.before there in
    let found = least_between-reached low high cost most.cost most.is in
    let place = (is.outside found.at most.cost found.is).1 in
    let own = is.inside refl found.at place in
    let same : most.cost ≡ value_at f found.at = (let first = found.is in cc) in
    let bound = least.least found.at place found.from found.to in
    let below = most.below in
    most.is ∙ ap Some (le_antisymm most.cost m below (omega (arith, linear, same, bound)))

-- two costs are the same where each is at most the other
pub same-least : (x y : Option ℤ) → ((v : ℤ) → x ≡ Some v → AtMost y v) → ((v : ℤ) → y ≡ Some v → AtMost x v) → x ≡ y
same-least None None f g = refl
same-least None (Some w) f g = absurd (let there = (g w refl).is in cc)
same-least (Some v) None f g = absurd (let there = (f v refl).is in cc)
same-least (Some v) (Some w) f g =
    let first = f v refl in
    let second = g w refl in
    let w_is : w ≡ first.cost = (let is = first.is in cc) in
    let v_is : v ≡ second.cost = (let is = second.is in cc) in
    let below = first.below in
    let above = second.below in
    ap Some (le_antisymm v w (omega (arith, linear, v_is, above)) (omega (arith, linear, w_is, below)))

-- where none lies there is none
pub least-none : (low high : ℤ) (cost : ℤ → Option ℤ) → ((p v : ℤ) → low ≤ℤ p → p ≤ℤ high → ¬ (cost p ≡ Some v)) → least_between low high cost ≡ None
least-none low high cost none = by (least_between low high cost) refl
  where
    by : (o : Option ℤ) → least_between low high cost ≡ o → o ≡ None
    by None e = refl
    by (Some v) e =
        let found = least_between-reached low high cost v e in
        absurd (none found.at v found.from found.to found.is)

-- ---- within a ramp
pub ramped : (f g : Steps) (cost : ℤ → Option ℤ) (up down : ℤ) → IsCostsOf true f cost → g.first ≡ f.first -ℤ down
    → last_place g ≡ last_place f +ℤ up → ((p : ℤ) → IsPlace g p → IsLeastBetween f (p -ℤ up) (p +ℤ down) (value_at g p))
    → IsCostsOf true g (λ p. least_between (p -ℤ up) (p +ℤ down) cost)
ramped f g cost up down is first last least = record {
  inside = λ live p place. least-is f cost (p -ℤ up) (p +ℤ down) (value_at g p) is (least p place);
  outside = λ p v e.
      let found = least_between-reached (p -ℤ up) (p +ℤ down) cost v e in
      let place = (is.outside found.at v found.is).1 in
      let low = place.low in
      let high = place.high in
      let from = found.from in
      let to = found.to in
      (refl, record { low = omega (arith, linear, first, low, to); high = omega (arith, linear, last, high, from) });
}

-- ---- cut
-- what a cut leaves
pub record IsCut (f g : Steps) (low high : ℤ) (some : Bool) : Type 0 where
  pub there : IsTrue some ↔ ((low ≤ℤ high) × (f.first ≤ℤ high) × (low ≤ℤ last_place f))
  pub first : IsTrue some → g.first ≡ int_max f.first low
  pub last : IsTrue some → last_place g ≡ int_min (last_place f) high
  pub value : IsTrue some → (p : ℤ) → IsPlace g p → value_at g p ≡ value_at f p

module _ (f g : Steps) (low high : ℤ) (some : Bool) (cut : IsCut f g low high some) where
  pub cut-place : (p : ℤ) → IsPlace f p → low ≤ℤ p → p ≤ℤ high → IsTrue some × IsPlace g p
  cut-place p place from to =
      let begins = place.low in
      let ends = place.high in
      let live = cut.there.1 (omega (arith, linear, from, to), omega (arith, linear, begins, to), omega (arith, linear, ends, from)) in (
        live,
        record {
          low = subst (λ z. z ≤ℤ p) (sym (cut.first live)) (max_le f.first low p begins from);
          high = subst (λ z. p ≤ℤ z) (sym (cut.last live)) (le_min p (last_place f) high ends to);
        },
      )
    where
      max_le : (a b z : ℤ) → a ≤ℤ z → b ≤ℤ z → int_max a b ≤ℤ z
      max_le a b z h k = omega (arith, ints, clamps)

  -- a place that is left is one of the function's own, between both ends
  pub record IsLeft (p : ℤ) : Type 0 where
    pub place : IsPlace f p
    pub from : low ≤ℤ p
    pub to : p ≤ℤ high

  pub uncut-place : (p : ℤ) → IsTrue some → IsPlace g p → IsLeft p
  uncut-place p live place =
      let first = cut.first live in
      let last = cut.last live in
      let begins = place.low in
      let ends = place.high in
      let begins_there : int_max f.first low ≤ℤ p = omega (arith, linear, first, begins) in
      let ends_there : p ≤ℤ int_min (last_place f) high = omega (arith, linear, last, ends) in
      let left = int_min_left (last_place f) high in
      let right = int_min_right (last_place f) high in
      record {
        place = record { low = omega (arith, linear, begins_there, max_left f.first low); high = omega (arith, linear, ends_there, left) };
        from = omega (arith, linear, begins_there, max_right f.first low);
        to = omega (arith, linear, ends_there, right);
      }
    where
      max_left : (a b : ℤ) → a ≤ℤ int_max a b
      max_left a b = omega (arith, ints, clamps)

      max_right : (a b : ℤ) → b ≤ℤ int_max a b
      max_right a b = omega (arith, ints, clamps)

  -- the least value that is left is the least between both ends
  pub least-left : (place v : ℤ) → IsTrue some → IsPlace g place → value_at g place ≡ v → ((p : ℤ) → IsPlace g p → v ≤ℤ value_at g p)
      → IsLeastBetween f low high v
  least-left place v live at is least =
      let own = uncut-place place live at in
      record {
        place = place;
        is_place = own.place;
        after = own.from;
        before = own.to;
        reached = sym is ∙ cut.value live place at;
        least = λ p there from to.
            let left = (cut-place p there from to).1 in
            let below = least p left in
            let same = cut.value live p left in
            omega (arith, linear, below, same);
      }

-- between ends that are written otherwise
pub cut-between : (f g : Steps) (a b low high : ℤ) (some : Bool) → a ≡ low → b ≡ high → IsCut f g a b some → IsCut f g low high some
cut-between f g a b low high some e d cut = subst (λ z. IsCut f g z high some) e (subst (λ z. IsCut f g a z some) d cut)

-- ---- a copy in its own room
room-value : (f : Steps) (room : ℕ) (p : ℤ) → value_at (record f { room = room }) p ≡ value_at f p
unfolding value_at
room-value f room p = refl

module _ (f g : Steps) (room : ℕ) (e : g ≡ record f { room = room }) where
  pub copied : (alive : Bool) (cost : ℤ → Option ℤ) → IsCostsOf alive f cost → IsCostsOf alive g cost
  copied alive cost is =
      subst (λ (h : Steps). IsCostsOf alive h cost) (sym e) (record {
        inside = λ live p place. is.inside live p (record { low = place.low; high = place.high }) ∙ ap Some (sym (room-value f room p));
        outside = λ p v given.
            let own = is.outside p v given in
            let place = own.1 in
            (own.0, record { low = place.low; high = place.high });
      })

  pub copy-bounded : (size : ℕ) → IsBounded f size → IsBounded g size
  copy-bounded size small =
      subst (λ (h : Steps). IsBounded h size) (sym e)
      (λ p place. subst (λ z. unsigned_abs z ≤ size) (sym (room-value f room p)) (small p (record { low = place.low; high = place.high })))

-- ---- an hour's output
-- what an output costs by the hull's function and an hour's prices
pub output-is : (table : Table) (unit : Thermal) (t : ℕ) (hull : Steps) (hour : Hour) (p : ℤ) → IsHull unit.points table.k hull
    → IsHourAt table unit t hour → pos 0 ≤ℤ p → p ≤ℤ greatest_output unit.points
    → value_at hull p +ℤ hour.price *ℤ p +ℤ hour.fixed ≡ output_cost table unit t p
output-is table unit t hull hour p is at low high = grind (arith, ints, is, at, low, high)

module _ (table : Table) (unit : Thermal) (t : ℕ) where
  -- the output of a cost is one that the hour may have, at which the others have a cost
  pub record HasOutput (cap : ℤ) (others : ℤ → Option ℤ) (p v : ℤ) : Type 0 where
    pub low : pos 0 ≤ℤ p
    pub high : p ≤ℤ int_min cap (greatest_output unit.points)
    pub other : ℤ
    pub is : others p ≡ Some other
    pub total : v ≡ output_cost table unit t p +ℤ other

  pub output-of : (cap : ℤ) (others : ℤ → Option ℤ) (p v : ℤ) → with_output table unit t cap others p ≡ Some v → HasOutput cap others p v
  output-of cap others p v e =
      let found = through (is_output unit cap p) (total_of (Some (output_cost table unit t p)) (others p)) v e in
      let within = output-within unit cap p found.0 in
      let parts = total_of-parts (Some (output_cost table unit t p)) (others p) v found.1 in
      let own : parts.first ≡ output_cost table unit t p = (let is = parts.first_is in cc) in
      record { low = within.0; high = within.1; other = parts.second; is = parts.second_is; total = parts.total ∙ ap (λ z. z +ℤ parts.second) own }

  -- where there are no costs there are none with an output
  pub none-with-output : (cap : ℤ) (f g : Steps) (others : ℤ → Option ℤ) → IsCostsOf false f others → IsCostsOf false g (with_output table unit t cap others)
  none-with-output cap f g others is = record {
    inside = λ live. absurd (true≢false (sym live));
    outside = λ p v e.
        let own = output-of cap others p v e in
        absurd (true≢false (sym (is.outside p own.other own.is).0));
  }

  -- where there are some, those that are left are cut to outputs
  module _ (hull : Steps) (hour : Hour) (is_hull : IsHull unit.points table.k hull) (at : IsHourAt table unit t hour) (f cut : Steps) (some : Bool)
      (others : ℤ → Option ℤ) (is : IsCostsOf true f others) (outputs : IsCut f cut (pos 0) (int_min hour.cap (last_place hull)) some) where
    limit : int_min hour.cap (last_place hull) ≡ int_min hour.cap (greatest_output unit.points)
    limit = ap (int_min hour.cap) is_hull.last

    output-place : (p v : ℤ) → with_output table unit t hour.cap others p ≡ Some v → IsTrue some × IsPlace cut p
    output-place p v e =
        let own = output-of hour.cap others p v e in
        cut-place f cut (pos 0) (int_min hour.cap (last_place hull)) some outputs p (is.outside p own.other own.is).1 own.low
        (subst (λ z. p ≤ℤ z) (sym limit) own.high)

    pub none-left : some ≡ false → (g : Steps) → IsCostsOf false g (with_output table unit t hour.cap others)
    none-left dead g = record {
      inside = λ live. absurd (true≢false (sym live));
      outside = λ p v e. absurd (true≢false (sym (output-place p v e).0 ∙ dead));
    }

    pub outputs-left : some ≡ true → (g : Steps) → SamePlaces cut g
        → ((p : ℤ) → IsPlace g p → value_at g p ≡ value_at cut p +ℤ value_at hull p +ℤ hour.price *ℤ p +ℤ hour.fixed)
        → IsCostsOf true g (with_output table unit t hour.cap others)
    outputs-left live g same value = record {
      inside = λ alive p place.
          let there = place_from cut g p same place in
          let left = uncut-place f cut (pos 0) (int_min hour.cap (last_place hull)) some outputs p live there in
          let high : p ≤ℤ int_min hour.cap (greatest_output unit.points) = subst (λ z. p ≤ℤ z) limit left.to in
          let wide = int_min_right hour.cap (greatest_output unit.points) in
          let own = is.inside refl p left.place ∙ ap Some (sym (outputs.value live p there)) in
          let output = output-is table unit t hull hour p is_hull at left.from (omega (arith, linear, high, wide)) in
          let sum = value p place in
          cond-true (is_output unit hour.cap p) _ None (output-there unit hour.cap p left.from high)
          ∙ ap (total_of (Some (output_cost table unit t p))) own
          ∙ ap Some (omega (arith, linear, output, sum));
      outside = λ p v e. (refl, place_to cut g p same (output-place p v e).1);
    }
