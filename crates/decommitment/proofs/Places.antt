-- The places of each source's own segments, place by place.
-- Cite by `use Rattle.decommitment.proofs.Places.{pushed}`.
use Rattle.std.proofs.Common.{◌≡◌, ℕ, suc, ◌<◌, ◌≤◌, ⊎_elim, refl, sym, subst, ◌∙◌, arith, List, [], ◌∷◌, ◌++◌, length, length-set, slice_set, slice_index_or}
use Rattle.std.specs.declared.alloc.Global.{Global}
use Rattle.std.specs.declared.vec.Vec.{Vec}
use Rattle.std.proofs.lemmas.Bool.{cases_lt}
use Rattle.std.proofs.lemmas.List.{get_or_append_left, get_or_push, length_push, map-set}
use Rattle.dispatch_repair.specs.Prelude.{rows_of, segment_at}
use Rattle.uc_model.proofs.Common.{below_or_last}
use Rattle.dispatch_repair.specs.declared.segment.Segment.{Segment}
use Rattle.dispatch_repair.proofs.RowsEdits.{row_read}
use Rattle.decommitment.specs.inside.Levels.{AreOwnPlaces, ArePlacesOf, IsAmong, IsOwnPlace, IsPlacePushed, place_at, places_at}
use Rattle.decommitment.proofs.Levels.{set_each}

-- a push into the list of one source
pub pushed_place : (rows : List (Vec ℕ Global)) (n j : ℕ) (row new : Vec ℕ Global) → n < length rows → row ≡ slice_index_or rows n row
    → new.items ≡ row.items ++ j ∷ [] → IsPlacePushed n j (rows_of rows) (rows_of (slice_set rows n new))
pushed_place rows n j row new within is items = grind (arith, map-set, slice_set, row_read, within, is)

-- the places of one source
pub places_of : (order : List Segment) (sources n : ℕ) (rows : List (List ℕ)) → AreOwnPlaces order sources (length order) rows
    → ArePlacesOf order n (places_at rows n)
places_of order sources n rows are = grind (arith, are)

-- none before the first segment
pub none : (order : List Segment) (sources : ℕ) (rows : List (List ℕ)) → length rows ≡ sources → ((n : ℕ) → places_at rows n ≡ [])
    → AreOwnPlaces order sources 0 rows
none order sources rows count empty = grind (arith, count, empty)

-- a segment more
module _ (order : List Segment) (sources j : ℕ) (old new : List (List ℕ)) (was : AreOwnPlaces order sources j old)
    (push : IsPlacePushed (segment_at order j).source j old new) (inside : (segment_at order j).source < sources) where
  abbrev s : ℕ
  s = (segment_at order j).source

  abbrev more : List ℕ
  more = places_at old s ++ j ∷ []

  within : s < length old
  within = subst (λ k. s < k) (sym was.count) inside

  old_place : (k : ℕ) → k < length (places_at old s) → place_at more k ≡ place_at (places_at old s) k
  old_place k h = get_or_append_left (places_at old s) (j ∷ []) 0 k h

  new_place : (k : ℕ) → length (places_at old s) ≡ k → place_at more k ≡ j
  new_place k h = get_or_push (places_at old s) j 0 k h

  later : (n i : ℕ) → IsOwnPlace order n j i → IsOwnPlace order n (suc j) i
  later n i its = record { below = omega (arith, its.below); source = its.source }

  own_more : (k : ℕ) → k < length more → IsOwnPlace order s (suc j) (place_at more k)
  own_more k h = ⊎_elim
      (λ (early : k < length (places_at old s)). subst (IsOwnPlace order s (suc j)) (sym (old_place k early)) (later s _ (was.own s k early)))
      (λ (late : length (places_at old s) ≤ k).
      subst (IsOwnPlace order s (suc j)) (sym (new_place k (omega (arith, h, late, length_push (places_at old s) j)))) (record { below = omega arith; source = refl }))
      (cases_lt k (length (places_at old s)))

  among_more : (i : ℕ) → IsAmong (places_at old s) i → IsAmong more i
  among_more i it = record {
    k = it.k;
    below = omega (arith, it.below, length_push (places_at old s) j);
    is = old_place it.k it.below ∙ it.is;
  }

  last : IsAmong more j
  last = record { k = length (places_at old s); below = omega (arith, length_push (places_at old s) j); is = new_place (length (places_at old s)) refl }

  own_set : (n : ℕ) (k : ℕ) → k < length (places_at (slice_set old s more) n) → IsOwnPlace order n (suc j) (place_at (places_at (slice_set old s more) n) k)
  own_set = set_each (λ n (row : List ℕ). (k : ℕ) → k < length row → IsOwnPlace order n (suc j) (place_at row k)) old s more [] within
      own_more (λ n other k h. later n _ (was.own n k h))

  all_set : (i n : ℕ) → IsAmong (places_at old n) i → IsAmong (places_at (slice_set old s more) n) i
  all_set i = set_each (λ n (row : List ℕ). IsAmong (places_at old n) i → IsAmong row i) old s more [] within (among_more i) (λ n other it. it)

  last_set : IsAmong (places_at (slice_set old s more) s) j
  last_set = set_each (λ n (row : List ℕ). n ≡ s → IsAmong row j) old s more [] within (λ e. last) (λ n other e. absurd (other e)) s refl

  pub pushed : AreOwnPlaces order sources (suc j) new
  pushed = subst (AreOwnPlaces order sources (suc j)) (sym push.are) (record {
    count = length-set old s more ∙ was.count;
    own = own_set;
    all = λ i h. ⊎_elim
        (λ (early : i < j). all_set i (segment_at order i).source (was.all i early))
        (λ (same : i ≡ j). subst (λ m. IsAmong (places_at (slice_set old s more) (segment_at order m).source) m) (sym same) last_set)
        (below_or_last j i h);
  })
