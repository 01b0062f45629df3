-- What a search over the tree begins with.
use Rattle.std.specs.Prelude.{◌≡◌, ℕ, None}
use Rattle.atomic_table.specs.Seated.{TableId}
use Rattle.uc_model.specs.declared.instance.Instance.{Instance}
use Rattle.incumbent.specs.Passes.{Incumbent, Known}
use Rattle.search_machine.specs.Prelude.{bound_of}
use Rattle.book.specs.Prelude.{Opening}
use Rattle.opening.specs.declared.root_tables.Priced.{Priced}

-- the worker is on the instance
abbrev pub IsOn : Instance → Instance → Type 0
IsOn instance worker = worker ≡ instance

-- of which run the book is: a root that stores the opening's table with its bound
abbrev pub opening_by : Instance → Priced → ℕ → ℕ → Opening
opening_by instance opening budget gap =
    record { instance = instance; budget = budget; gap = gap; table = opening.table; value = bound_of opening.value opening.table.k }

-- the incumbent is this one, in so many parts, and the pass has all of them and has seen and published nothing
pub record IsWholeOf (object : TableId) (count : ℕ) (best : Incumbent) (pass : Known) : Type 0 where
  pub of : best.object ≡ object
  pub parts : best.parts ≡ count
  pub pass_of : pass.object ≡ object
  pub pass_parts : pass.parts ≡ count
  pub mine : pass.mine ≡ None
