-- Amounts in order of merit up to a level, a place in the order up to which the segments are full. Source: the merit order of
-- incremental costs in economic dispatch; that places are kept is this project's own.
use Rattle.std.specs.Prelude.{◌≡◌, ℕ, suc, ◌<◌, ◌⊎◌, List, [], ◌++◌, ◌∷◌, ℤ, ◌≤ℤ◌, ◌<ℤ◌, IsTrue, length, slice_index_or, slice_set}
use Rattle.std.specs.Int.{int_min}
use Rattle.dispatch_repair.specs.Amounts.{amount_at}
use Rattle.dispatch_repair.specs.Prelude.{Period, low_of, high_of, rows_of, AreInMeritOrder, segment_at, source_at, source_count}
use Rattle.dispatch_repair.specs.Segments.{Instance}
use Rattle.dispatch_repair.specs.declared.segment.Segment.{Segment}
pub use Rattle.dispatch_repair.specs.declared.range.Range.{Range}
pub use Rattle.decommitment.specs.declared.merit.Merit.{Merit}
pub use Rattle.decommitment.specs.declared.level.Step.{Step}

-- ---- places
-- the places of source n, and the one at k
abbrev pub places_at : List (List ℕ) → ℕ → List ℕ
places_at rows n = slice_index_or rows n []

abbrev pub place_at : List ℕ → ℕ → ℕ
place_at places k = slice_index_or places k 0

-- a place among others
pub record IsAmong (places : List ℕ) (j : ℕ) : Type 0 where
  pub k : ℕ
  pub below : k < length places
  pub is : place_at places k ≡ j

-- a place before a bound, of a segment of source n
pub record IsOwnPlace (order : List Segment) (n bound j : ℕ) : Type 0 where
  pub below : j < bound
  pub source : (segment_at order j).source ≡ n

-- of each source the places of its own among the first segments
pub record AreOwnPlaces (order : List Segment) (sources bound : ℕ) (rows : List (List ℕ)) : Type 0 where
  pub count : length rows ≡ sources
  pub own : (n k : ℕ) → k < length (places_at rows n) → IsOwnPlace order n bound (place_at (places_at rows n) k)
  pub all : (j : ℕ) → j < bound → IsAmong (places_at rows (segment_at order j).source) j

-- a place was added to those of source n
pub record IsPlacePushed (n j : ℕ) (old new : List (List ℕ)) : Type 0 where
  pub are : new ≡ slice_set old n (places_at old n ++ j ∷ [])

-- all places of source n
pub record ArePlacesOf (order : List Segment) (n : ℕ) (places : List ℕ) : Type 0 where
  pub own : (k : ℕ) → k < length places → IsOwnPlace order n (length order) (place_at places k)
  pub all : (j : ℕ) → j < length order → (segment_at order j).source ≡ n → IsAmong places j

-- the order of merit of an instance, with the places of each source
pub record IsMeritOf (instance : Instance) (merit : Merit) : Type 0 where
  pub order : AreInMeritOrder instance merit.order.items
  pub own : AreOwnPlaces merit.order.items (source_count instance) (length merit.order.items) (rows_of merit.own.items)

-- ---- levels
-- an amount goes at most to the end of a segment of source n before a bound
pub record IsReached (order : List Segment) (n bound : ℕ) (amount : ℤ) : Type 0 where
  pub j : ℕ
  pub below : j < length order
  pub place : j < bound
  pub source : (segment_at order j).source ≡ n
  pub end : amount ≤ℤ (segment_at order j).end

-- an amount of source n within its range: its own segments before the level are full, and nothing is taken of those from the bound on
pub record IsAtLevel (order : List Segment) (n level bound : ℕ) (low high amount : ℤ) : Type 0 where
  pub low_end : low ≤ℤ amount
  pub high_end : amount ≤ℤ high
  pub full : (j : ℕ) → j < level → j < length order → (segment_at order j).source ≡ n → int_min (segment_at order j).end high ≤ℤ amount
  pub taken : (amount ≤ℤ low) ⊎ IsReached order n bound amount

-- the least amount at the level: nothing is taken of the segment at the level
abbrev pub IsLeastAt : List Segment → ℕ → ℕ → Range → ℤ → Type 0
IsLeastAt order n level range amount = IsAtLevel order n level level range.low range.high amount

-- a least amount goes at most to the end of a segment among the first n places, before the level
pub record IsPlaceReached (order : List Segment) (places : List ℕ) (level n : ℕ) (least : ℤ) : Type 0 where
  pub k : ℕ
  pub below : k < n
  pub place : place_at places k < level
  pub end : least ≤ℤ (segment_at order (place_at places k)).end

-- the least amount by the first n places
pub record IsLeastOf (order : List Segment) (places : List ℕ) (level n : ℕ) (range : Range) (least : ℤ) : Type 0 where
  pub low : range.low ≤ℤ least
  pub high : least ≤ℤ range.high
  pub full : (k : ℕ) → k < n → place_at places k < level → int_min (segment_at order (place_at places k)).end range.high ≤ℤ least
  pub taken : (least ≤ℤ range.low) ⊎ IsPlaceReached order places level n least

-- each source's amount is at the level, in the period's ranges
abbrev pub AreAtLevel : Period → List Segment → ℕ → List ℤ → Type 0
AreAtLevel period order level amounts =
    (n : ℕ) → n < source_count period.instance
    → IsAtLevel order n level (suc level) (low_of period (source_at period.instance n)) (high_of period (source_at period.instance n)) (amount_at amounts n)

-- ---- steps
-- an amount rose, up to an end; and where the walk goes on, as far as that
pub record IsRisen (amount end : ℤ) (step : Step) : Type 0 where
  pub up : amount ≤ℤ step.amount
  pub within : amount <ℤ step.amount → step.amount ≤ℤ end
  pub done : IsTrue step.goes_on → end ≤ℤ step.amount

-- an amount fell, down to a least one; and where the walk goes on, as far as that
pub record IsSunk (amount least : ℤ) (step : Step) : Type 0 where
  pub down : step.amount ≤ℤ amount
  pub within : step.amount <ℤ amount → least ≤ℤ step.amount
  pub done : IsTrue step.goes_on → step.amount ≤ℤ least
