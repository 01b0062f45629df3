-- The table of a ray has the numbers that the ray names.
use Rattle.std.proofs.Common.{◌≡◌, ◌≢◌, ℕ, zero, suc, ◌*◌, ◌/◌, ◌<◌, ◌≤◌, ⊎_elim, Bool, true, false, List, [], ◌∷◌, ◌++◌, get_or-set_other, get_or-set_same, refl, sym, ap, ◌∙◌, arith, ◌==◌, ℤ, pos, ◌&&◌, nat_lt, slice_index_or, All, if◌then◌else◌}
use Rattle.std.proofs.lemmas.Bool.{cases_lt, true≢false, eq-eqb, eqb-true, ltb-true, ne_eqb}
use Rattle.std.proofs.lemmas.List.{get_or-replicate, length-replicate}
use Rattle.std.proofs.lemmas.List.Elements.{All-head, All-tail, All-weaker}
use Rattle.uc_model.specs.Prelude.{bit, IsLawfulInstance, thermal_unit}
use Rattle.uc_model.specs.declared.instance.Instance.{Instance}
use Rattle.uc_model.specs.declared.instance.Thermal.{Thermal}
use Rattle.dual_model.specs.Prelude.{HasRayNumbers, first_row, first_rows, price_in, ray_period, ray_table, row_of}
use Rattle.dual_model.specs.declared.table.RampRow.{RampRow}
use Rattle.opening_tables.proofs.RayTables.{IsFirstRow, rows_within}

-- ---- the prices
same_test : (s t : ℕ) (b : Bool) → (s == t) ≡ b → (b ≡ true → s ≡ t) × (b ≡ false → s ≢ t)
same_test s t b e = (λ h. eqb-true s t (e ∙ h), λ h same. true≢false (sym (eq-eqb s t same) ∙ e ∙ h))

price_by : (periods t s : ℕ) (price : ℤ) (b : Bool) → t < periods → s < periods → (s == t) ≡ b
    → slice_index_or (price_in periods t price) s (pos 0) ≡ (if b then price else pos 0)
price_by periods t s price true ht hs e = grind (arith, eqb-true, length-replicate, slice_index_or, get_or-set_same, ht, hs, e)
price_by periods t s price false ht hs e = grind (arith, same_test, get_or-set_other, get_or-replicate, ht, hs, e)

price_at : (periods t s : ℕ) (price : ℤ) → t < periods → s < periods
    → slice_index_or (price_in periods t price) s (pos 0) ≡ (if s == t then price else pos 0)
price_at periods t s price ht hs = price_by periods t s price (s == t) ht hs refl

period_by : (periods n : ℕ) (b : Bool) → 1 ≤ periods → nat_lt n (4 * periods) ≡ b → (if b then n / 4 else 0) < periods
period_by periods n true some e = let h : n < 4 * periods = ltb-true n (4 * periods) e in omega (arith, h)
period_by periods n false some e = omega (arith, some)

period_within : (periods n : ℕ) → 1 ≤ periods → ray_period periods n < periods
period_within periods n some = period_by periods n (nat_lt n (4 * periods)) some refl

-- ---- the rows
-- a row of another unit
other_unit : (row : RampRow) (rest : RampRow) (g t : ℕ) → row.g ≢ g → (if (row.g == g) && (row.t == t) then row else rest) ≡ rest
other_unit row rest g t other = ap (λ b. if b && (row.t == t) then row else rest) (ne_eqb row.g g other)

row_of-skip : (xs ys : List RampRow) (g t : ℕ) → All (λ row. row.g ≢ g) xs → row_of (xs ++ ys) g t ≡ row_of ys g t
row_of-skip [] ys g t others = refl
row_of-skip (row ∷ xs) ys g t others =
    other_unit row (row_of (xs ++ ys) g t) g t (All-head (λ r. r.g ≢ g) row xs others)
    ∙ row_of-skip xs ys g t (All-tail (λ r. r.g ≢ g) row xs others)

row_of-front : (xs ys : List RampRow) (g t : ℕ) → row_of ys g t ≡ row_of [] g t → row_of (xs ++ ys) g t ≡ row_of xs g t
row_of-front [] ys g t none = none
row_of-front (row ∷ xs) ys g t none = ap (λ rest. if (row.g == g) && (row.t == t) then row else rest) (row_of-front xs ys g t none)

-- the row of unit n
up_by : (c : Bool) (row rest : RampRow) → (if c then row else rest).up ≡ (if c then row.up else rest.up)
up_by true row rest = refl
up_by false row rest = refl

down_by : (c : Bool) (row rest : RampRow) → (if c then row else rest).down ≡ (if c then row.down else rest.down)
down_by true row rest = refl
down_by false row rest = refl

first_test : (n t : ℕ) → ((n == n) && (0 == t)) ≡ (t == 0)
first_test n zero = ap (λ b. b && (0 == 0)) (eq-eqb n n refl)
first_test n (suc t) = grind arith

idle_by : (b : Bool) → pos 0 ≡ (if b then pos 0 else pos 0)
idle_by true = refl
idle_by false = refl

own_up : (n t : ℕ) (up down : Bool) → (row_of (first_row n up down) n t).up ≡ (if t == 0 then bit up else pos 0)
own_up n t true true = up_by ((n == n) && (0 == t)) _ _ ∙ ap (λ b. if b then pos 1 else pos 0) (first_test n t)
own_up n t true false = up_by ((n == n) && (0 == t)) _ _ ∙ ap (λ b. if b then pos 1 else pos 0) (first_test n t)
own_up n t false true = up_by ((n == n) && (0 == t)) _ _ ∙ ap (λ b. if b then pos 0 else pos 0) (first_test n t)
own_up n t false false = idle_by (t == 0)

own_down : (n t : ℕ) (up down : Bool) → (row_of (first_row n up down) n t).down ≡ (if t == 0 then bit down else pos 0)
own_down n t true true = down_by ((n == n) && (0 == t)) _ _ ∙ ap (λ b. if b then pos 1 else pos 0) (first_test n t)
own_down n t true false = down_by ((n == n) && (0 == t)) _ _ ∙ ap (λ b. if b then pos 0 else pos 0) (first_test n t)
own_down n t false true = down_by ((n == n) && (0 == t)) _ _ ∙ ap (λ b. if b then pos 1 else pos 0) (first_test n t)
own_down n t false false = idle_by (t == 0)

others_none : (n g t : ℕ) (up down : Bool) → n ≢ g → row_of (first_row n up down) g t ≡ row_of [] g t
others_none n g t false false other = refl
others_none n g t _ _ other = other_unit _ _ g t other

-- the row of unit g is its own
row_of-first : (instance : Instance) (up down : Thermal → Bool) (n g t : ℕ) → g < n
    → row_of (first_rows instance up down n) g t ≡ row_of (first_row g (up (thermal_unit instance g)) (down (thermal_unit instance g))) g t
row_of-first instance up down zero g t h = absurd (omega (arith, h))
row_of-first instance up down (suc n) g t h =
    let own = λ (k : ℕ). first_row k (up (thermal_unit instance k)) (down (thermal_unit instance k)) in
    ⊎_elim
    (λ (earlier : g < n).
    let other : n ≢ g = omega (arith, earlier) in
    row_of-front (first_rows instance up down n) (own n) g t (others_none n g t (up (thermal_unit instance n)) (down (thermal_unit instance n)) other)
    ∙ row_of-first instance up down n g t earlier)
    (λ (last : n ≤ g).
    let same : n ≡ g = omega (arith, h, last) in
    row_of-skip (first_rows instance up down n) (own n) g t
    (All-weaker (IsFirstRow n) (λ row. row.g ≢ g) (λ row is. omega (arith, is.unit, same)) (first_rows instance up down n) (rows_within instance up down n))
    ∙ ap (λ k. row_of (own k) g t) same)
    (cases_lt g n)

pub ray_numbers : (instance : Instance) (n : ℕ) → IsLawfulInstance instance → HasRayNumbers instance n (ray_table instance n)
ray_numbers instance n lawful = grind (arith, period_within, price_at, row_of-first, own_up, own_down, lawful)
