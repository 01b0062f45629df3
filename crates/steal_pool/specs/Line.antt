-- The rule of one worker's deque, as a line of nodes. Source: a queue, of which the list taken is a prefix of the list put; that
-- each place is taken once is said by counting. This project's own form.
use Rattle.std.specs.Prelude.{◌≡◌, ℕ, ◌<◌, ◌==◌, nat_lt, Bool, true, if◌then◌else◌, List, [], ◌∷◌, ◌++◌, length, sum_by, count_by, slice_get, Some, All}
use mathlib.Core.Option.{some}
use lib.ListN.{get_elem?}
pub use Rattle.steal_pool.specs.declared.rule.Take.{Take}
pub use Rattle.steal_pool.specs.declared.rule.Log.{Log}

abbrev pub log : Bool → List ℕ → List Take → Log
log owns put took = record { owns = owns; put = put; took = took }

abbrev pub take_of : ℕ → ℕ → Take
take_of place node = record { place = place; node = node }

-- how often a place was taken
abbrev pub times_taken : ℕ → List Take → ℕ
times_taken place took = count_by (λ take. take.place == place) took

-- 1 for a place below n, and 0 for another
abbrev pub once_below : ℕ → ℕ → ℕ
once_below place n = if nat_lt place n then 1 else 0

-- what a pass knows of a deque of which `got` was taken and `items` is left: the worker's pass, which is the first, has all
-- that was put, and each take has the node that was put at its place
pub record IsLogOf (got items : List ℕ) (port : ℕ) (v : Log) : Type 0 where
  pub owner : v.owns ≡ true → (port ≡ 0) × (v.put ≡ got ++ items)
  pub takes : All (λ take. slice_get got take.place ≡ Some take.node) v.took

-- of the list put `got` was taken, each place by one take of one pass, and `items` is left
pub record IsInLine (got items : List ℕ) (views : List Log) : Type 0 where
  pub logs : (port : ℕ) (v : Log) → get_elem? views port ≡ some v → IsLogOf got items port v
  pub once : (place : ℕ) → sum_by (λ v. times_taken place v.took) views ≡ once_below place (length got)

abbrev pub InLine : List ℕ → List Log → Type 0
InLine items views = (got : List ℕ) × IsInLine got items views

-- at one moment the deque held nothing, and the pass knew what v says
abbrev pub WasEmpty : Log → Type 0
WasEmpty v = (got : List ℕ) × (views : List Log) × (port : ℕ) × IsInLine got [] views × (get_elem? views port ≡ some v)

-- at one moment the deque held the node in front, in the place that came next, and the pass knew what v says
abbrev pub WasNext : Log → ℕ → ℕ → Type 0
WasNext v place node = (got : List ℕ) × (items : List ℕ) × (views : List Log) × (port : ℕ) × IsInLine got (node ∷ items) views
    × (get_elem? views port ≡ some v) × (place ≡ length got)

-- the place came next, behind all that the pass had taken, and the node was put there
pub record IsNext (v : Log) (place node : ℕ) : Type 0 where
  pub moment : WasNext v place node
  pub behind : All (λ take. take.place < place) v.took
  pub put : v.owns ≡ true → slice_get v.put place ≡ Some node

-- what a push tells
abbrev pub puts : Log → List ℕ → Log → Type 0
puts v nodes w = w ≡ log v.owns (v.put ++ nodes) v.took

-- what a take tells: one node was taken, from the place that came next
abbrev pub takes : Log → List ℕ → Log → Type 0
takes v [] w = ⊥
takes v (node ∷ []) w = (place : ℕ) × (w ≡ log v.owns v.put (v.took ++ take_of place node ∷ [])) × IsNext v place node
takes v (node ∷ (next ∷ nodes)) w = ⊥
