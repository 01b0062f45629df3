-- Rows by their numbers that aren't 0.
use Rattle.std.specs.Prelude.{◌≡◌, ◌==◌, ◌⊎◌, ◌++◌, ℕ, ◌*◌, ◌^◌, ◌<◌, ◌≤◌, Option, None, Some, if◌then◌else◌, List, [], ◌∷◌, length, map, slice_index_or, ℤ, pos, ◌-ℤ◌, ◌*ℤ◌, unsigned_abs, nat_lt}
use Rattle.std.specs.List.{range_with_len}
use Rattle.std.specs.Ordering.{int_eq}
use Rattle.pivot_run.specs.Rows.{IsSmall, entry}

abbrev pub column : List ℕ → ℕ → ℕ
column ks i = slice_index_or ks i 0

-- the number in column c, where the numbers xs stand in the columns ks: 0 where none does
abbrev pub number_at : List ℕ → List ℤ → ℕ → ℤ
number_at [] xs c = pos 0
number_at (k ∷ ks) [] c = pos 0
number_at (k ∷ ks) (x ∷ xs) c = if k == c then x else number_at ks xs c

-- the row of so many numbers
abbrev pub spread : ℕ → List ℕ → List ℤ → List ℤ
spread n ks xs = map (number_at ks xs) (range_with_len 0 n)

-- the columns with one more, and the numbers, where the number isn't 0
abbrev pub with_column : ℕ → ℤ → List ℕ → List ℕ
with_column c x ks = if int_eq x (pos 0) then ks else ks ++ c ∷ []

abbrev pub with_number : ℤ → List ℤ → List ℤ
with_number x xs = if int_eq x (pos 0) then xs else xs ++ x ∷ []

-- the columns rise
abbrev pub Rise : List ℕ → Type 0
Rise ks = (i j : ℕ) → i < j → j < length ks → column ks i < column ks j

-- the columns are those of a row of so many numbers
abbrev pub AreBelow : List ℕ → ℕ → Type 0
AreBelow ks n = (i : ℕ) → i < length ks → column ks i < n

-- small numbers in columns that rise, one each
pub record AreEntries (ks : List ℕ) (xs : List ℤ) : Type 0 where
  pub lengths : length ks ≡ length xs
  pub rise : Rise ks
  pub small : IsSmall xs

-- the columns before the k-th are those before c
pub record IsSplit (ks : List ℕ) (k c : ℕ) : Type 0 where
  pub within : k ≤ length ks
  pub before : (i : ℕ) → i < k → column ks i < c
  pub after : (i : ℕ) → k ≤ i → i < length ks → c ≤ column ks i

-- the column of an entry, where it is one of the first, so many
abbrev pub column_within : List ℕ → ℕ → Option ℕ → Option ℕ
column_within ks count None = None
column_within ks count (Some k) = if nat_lt (column ks k) count then Some (column ks k) else None

-- the entries before column c are p times the numbers f less e times the numbers g, of small products
pub record IsCombined (f g : ℕ → ℤ) (p e : ℤ) (ks : List ℕ) (xs : List ℤ) (c : ℕ) : Type 0 where
  pub entries : AreEntries ks xs
  pub below : AreBelow ks c
  pub values : (k : ℕ) → k < c → number_at ks xs k ≡ f k *ℤ p -ℤ e *ℤ g k
  pub first : (k : ℕ) → k < c → unsigned_abs (f k) * unsigned_abs p < 2 ^ 126
  pub second : (k : ℕ) → k < c → unsigned_abs e * unsigned_abs (g k) < 2 ^ 126

-- the entries before column c are those of the row
pub record AreEntriesOf (row : List ℤ) (ks : List ℕ) (xs : List ℤ) (c : ℕ) : Type 0 where
  pub entries : AreEntries ks xs
  pub below : AreBelow ks c
  pub values : (k : ℕ) → k < c → number_at ks xs k ≡ entry row k

-- the least column of those from the a-th of one list and the b-th of another on
pub record IsNext (ks : List ℕ) (a : ℕ) (ls : List ℕ) (b c : ℕ) : Type 0 where
  pub one : a < length ks → c ≤ column ks a
  pub other : b < length ls → c ≤ column ls b
  pub is : ((a < length ks) × (column ks a ≡ c)) ⊎ ((b < length ls) × (column ls b ≡ c))

-- combining the numbers f and g forms it, in a column that a row with all these has
abbrev pub CombiningForms : (ℕ → ℤ) → (ℕ → ℤ) → ℤ → ℤ → List ℕ → List ℕ → ℤ → ℤ → Type 0
CombiningForms f g p e ks ls size other =
    (c : ℕ) × ((n : ℕ) → AreBelow ks n → AreBelow ls n → c < n) × (((size ≡ f c) × (other ≡ p)) ⊎ ((size ≡ e) × (other ≡ g c)))
