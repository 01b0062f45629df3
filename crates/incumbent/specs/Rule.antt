-- The rule of the incumbent's word, and what its steps tell. This project's own form.
use Rattle.std.specs.Prelude.{◌≡◌, ℕ, ◌+◌, ◌-◌, ◌<◌, ◌≤◌, List, [], ◌∷◌, min, sum_by}
use mathlib.Core.Option.{some}
use lib.ListN.{get_elem?}
use Rattle.atomic_table.specs.Table.{State, Me, Step}
use Rattle.atomic_table.specs.Seated.{TableId}
use Rattle.incumbent.specs.Words.{NOTHING, IsCostWord, cost_of}
use Rattle.incumbent.specs.Passes.{Known}
pub use Rattle.incumbent.specs.declared.rule.View.{View}

abbrev pub view : ℕ → ℕ → ℕ → ℕ → View
view seen mine found parts = record { seen = seen; mine = mine; found = found; parts = parts }

-- the pass of a view that has parts has seen and published nothing below the word
abbrev pub IsAbove : ℕ → View → Type 0
IsAbove word v = 0 < v.parts → (word ≤ v.seen) × (word ≤ v.mine)

-- the pass of a view that has parts published the word
abbrev pub IsSource : ℕ → View → Type 0
IsSource word v = (0 < v.parts) × (v.mine ≡ word)

-- the word is at most all that was seen or published, stands for nothing or was published, and the parts are all there
pub record IsKept (parts word : ℕ) (views : List View) : Type 0 where
  pub cost : IsCostWord word
  pub below : (i : ℕ) (v : View) → get_elem? views i ≡ some v → IsAbove word v
  pub source : word < NOTHING → (i : ℕ) × (v : View) × (get_elem? views i ≡ some v) × IsSource word v
  pub whole : sum_by (λ v. v.parts) views ≡ parts

-- there is one word, under the rule
abbrev pub Holds : ℕ → List ℕ → List View → Type 0
Holds parts [] views = ⊥
Holds parts (word ∷ []) views = IsKept parts word views
Holds parts (word ∷ (next ∷ words)) views = ⊥

abbrev pub holds : ℕ → State (Unit {0}) View → Type 0
holds parts state = Holds parts state.words state.views

-- a pass that has seen and published nothing
abbrev pub fresh : ℕ → View
fresh parts = view NOTHING NOTHING NOTHING parts

abbrev pub Told : Type 1
Told = Step (Unit {0}) → Me (Unit {0}) View → ℕ → Me (Unit {0}) View → Type 0

-- what was found is at most what the pass had seen and published
pub record IsFound (v : View) (found : ℕ) : Type 0 where
  pub cost : IsCostWord found
  pub seen : found ≤ v.seen
  pub mine : found ≤ v.mine

-- a look: what was found is what the pass has seen now
abbrev pub looked : Told
looked step me found after = IsFound me.0 found × (after ≡ (view found me.0.mine found me.0.parts, me.1))

-- a publication of the word that the step names
abbrev pub published : Told
published step me found after = IsFound me.0 found
    × (after ≡ (view (min found step.first) (min me.0.mine step.first) found me.0.parts, me.1))

-- what is left of a view from which that many parts are taken
abbrev pub rest_of : ℕ → View → View
rest_of parts v = view v.seen v.mine v.found (v.parts - parts)

-- a view that has seen what the other has, with that many parts
abbrev pub part_of : ℕ → View → View
part_of parts v = view v.seen NOTHING v.found parts

abbrev pub joined : View → View → View
joined v w = view (min v.seen w.seen) (min v.mine w.mine) v.found (v.parts + w.parts)

-- what contracts see of a pass of the object
abbrev pub known : TableId → Me (Unit {0}) View → Known
known object me = record {
  object = object;
  seen = cost_of me.0.seen;
  mine = cost_of me.0.mine;
  found = cost_of me.0.found;
  parts = me.0.parts;
}

-- a pass holds no slot, and its view has parts and costs
pub record IsPass (me : Me (Unit {0}) View) : Type 0 where
  pub slots : me.1 ≡ []
  pub parts : 0 < me.0.parts
  pub seen : IsCostWord me.0.seen
  pub mine : IsCostWord me.0.mine
  pub found : IsCostWord me.0.found
