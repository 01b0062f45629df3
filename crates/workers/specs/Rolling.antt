-- What a roll answers, where each window is searched by values of the kind, with this budget and at this gap. This project's own statement.
use Rattle.std.specs.Prelude.{ℕ, Bool}
use Rattle.roll.specs.Prelude.{IsRolledBy}
pub use Rattle.roll.specs.declared.rolled.Rolled.{Rolled}
use Rattle.uc_model.specs.declared.instance.Instance.{Instance}
use Rattle.search_answers.specs.SearchResult.{IsSearchResult}

-- the schedule of all periods is stitched of what the searches of the windows found; or the search of a window found none
abbrev pub IsRolled : Bool → Instance → ℕ → ℕ → ℕ → ℕ → Rolled → Type 0
IsRolled exact instance budget gap window step rolled =
    IsRolledBy (λ ahead found. IsSearchResult exact ahead budget gap found) instance window step rolled
