-- A list by what stands at each place.
use Rattle.std.proofs.Common.{◌≡◌, ◌≢◌, ℕ, ◌+◌, ◌<◌, ◌≤◌, arith, List, below_more, get_or, get_or-set_other, get_or-set_same, length, length-set, set, sym, ◌∙◌}
use Rattle.std.proofs.lemmas.List.Edits.{fill_by_more}
use Rattle.std.proofs.lemmas.List.FromFn.{fill_by_all, length-map-range_with_len, get_or-map-range_with_len}
use Rattle.dispatch_repair.specs.inside.Rows.{list_of}

pub listed : {X : Type 0} (n : ℕ) (f : ℕ → X) (i : ℕ) (d : X) → i < n → get_or (list_of n f) i d ≡ f i
listed n f i d h = get_or-map-range_with_len f 0 n i i d h (omega arith)

pub listed_length : {X : Type 0} (n : ℕ) (f : ℕ → X) → length (list_of n f) ≡ n
listed_length n f = length-map-range_with_len f 0 n

-- ---- entry by entry
-- the first n entries are these, and the others as they were
pub record IsListedTo {X : Type 0} (d : X) (f : ℕ → X) (n : ℕ) (old new : List X) : Type 0 where
  pub count : length new ≡ length old
  pub done : (k : ℕ) → k < n → get_or new k d ≡ f k
  pub rest : (k : ℕ) → n ≤ k → get_or new k d ≡ get_or old k d

pub listed_more : {X : Type 0} (d : X) (f : ℕ → X) (n : ℕ) (old new : List X) → n < length new → IsListedTo d f n old new → IsListedTo d f (n + 1) old (set new n (f n))
listed_more d f n old new inside was = grind (arith, length-set, fill_by_more, get_or-set_other, inside, was)

pub listed_all : {X : Type 0} (d : X) (f : ℕ → X) (n : ℕ) (old new : List X) → n ≡ length old → IsListedTo d f n old new → new ≡ list_of n f
listed_all d f n old new whole was = fill_by_all f new n d (was.count ∙ sym whole) was.done

-- lists with the same entries
pub listed_same : {X : Type 0} (d : X) (n : ℕ) (f g : ℕ → X) → ((k : ℕ) → k < n → f k ≡ g k) → list_of n f ≡ list_of n g
listed_same d n f g same = fill_by_all g (list_of n f) n d (listed_length n f) (λ k h. listed n f k d h ∙ same k h)

-- ---- what holds of each entry
-- an entry more
pub below_set : {A : Type 0} (P : ℕ → A → Type 0) (xs : List A) (i : ℕ) (x d : A) → i < length xs
    → ((k : ℕ) → k < i → P k (get_or xs k d)) → P i x → (k : ℕ) → k < i + 1 → P k (get_or (set xs i x) k d)
below_set P xs i x d within each last = grind (arith, below_more, get_or-set_other, get_or-set_same, within, each, last)

-- the same behind m others
pub below_set_after : {A : Type 0} (P : ℕ → A → Type 0) (xs : List A) (m i : ℕ) (x d : A) → m + i < length xs
    → ((k : ℕ) → k < i → P k (get_or xs (m + k) d)) → P i x → (k : ℕ) → k < i + 1 → P k (get_or (set xs (m + i) x) (m + k) d)
below_set_after P xs m i x d within each last = grind (arith, below_more, get_or-set_other, get_or-set_same, within, each, last)

-- those others stay
pub set_after : {A : Type 0} (xs : List A) (m i k : ℕ) (x d : A) → k < m → get_or (set xs (m + i) x) k d ≡ get_or xs k d
set_after xs m i k x d h = let other : k ≢ m + i = omega arith in get_or-set_other xs (m + i) k x d other
