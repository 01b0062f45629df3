-- One row more.
use Rattle.std.proofs.Common.{◌≡◌, ℕ, ◌+◌, arith, List, [], ◌∷◌, ◌++◌}
use Rattle.std.proofs.lemmas.Bool.{cases_lt}
use Rattle.std.proofs.lemmas.List.{get_or_append_left, get_or_push, length_push}
use Rattle.roll.specs.inside.Joined.{AreEmpty}
use Rattle.roll.proofs.stitching.empty_rows.Goals as goal

empty-more : {X : Type 0} (n : ℕ) (rows new : List (List X)) (row : List X) → AreEmpty n rows → new ≡ rows ++ row ∷ [] → row ≡ [] → AreEmpty (n + 1) new
empty-more n rows new row are made none = grind (arith, length_push, get_or_append_left, get_or_push, cases_lt, are, made, none)

pub loop-preserved : goal.loop-preserved
loop-preserved g c = grind (arith, empty-more, g, c)
