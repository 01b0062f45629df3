-- Each amount of a commitment is there once.
-- Cite by `use Rattle.dispatch_schedule.proofs.Apart.{AreApart, amounts_apart}`.
use Rattle.std.proofs.Common.{◌≡◌, ◌≢◌, ℕ, zero, suc, ◌+◌, ◌-◌, ◌<◌, ◌≤◌, nat_lt, Bool, ⊎_elim, refl, sym, ap, subst, ◌∙◌, arith, List, [], ◌∷◌, ◌++◌, length, slice_index_or}
use Rattle.std.proofs.lemmas.Bool.{cases_lt, cond_both}
use Rattle.std.proofs.lemmas.List.{length-append, get_or_append_left, get_or-append-add}
use Rattle.uc_model.specs.Prelude.{thermal_count, renewable_count}
use Rattle.dispatch_rules.specs.declared.amount.Amount.{Amount}
use Rattle.dispatch_rules.specs.declared.amount.Amount.TheVariants.{Length, Held, Given, Shed, Short}
use Rattle.dispatch_rules.specs.Prelude.{segments, Task, amounts, amounts_in, listed, unit_amounts, where_true}
use Rattle.dispatch_rules.proofs.Listed.{Each, each_none, each_one, each_append, each_listed}

module _ {A : Type 0} (d : A) where
  -- the list has nothing twice
  abbrev pub AreApart : List A → Type 0
  AreApart xs = (i j : ℕ) → i < j → j < length xs → slice_index_or xs i d ≢ slice_index_or xs j d

  apart_none : AreApart []
  apart_none i j h l = absurd (omega arith)

  apart_one : (x : A) → AreApart (x ∷ [])
  apart_one x i j h l = absurd (omega arith)

  apart_append : (P Q : A → Type 0) (xs ys : List A) → AreApart xs → AreApart ys → Each P xs → Each Q ys → ((x : A) → P x → Q x → ⊥) → AreApart (xs ++ ys)
  apart_append P Q xs ys first second left right differ i j h l = ⊎_elim
      (λ (less : j < length xs). λ e.
      first i j h less (sym (get_or_append_left xs ys d i (omega arith)) ∙ e ∙ get_or_append_left xs ys d j less))
      (λ (most : length xs ≤ j). ⊎_elim
      (λ (less : i < length xs). λ e.
      differ (slice_index_or xs i d) (left i d less)
      (subst Q (sym (sym (get_or_append_left xs ys d i less) ∙ e ∙ second_at j most)) (right (j - length xs) d (let both = length-append xs ys in omega arith))))
      (λ (late : length xs ≤ i). λ e.
      second (i - length xs) (j - length xs) (omega arith) (let both = length-append xs ys in omega arith) (sym (second_at i late) ∙ e ∙ second_at j most))
      (cases_lt i (length xs)))
      (cases_lt j (length xs))
    where
      second_at : (k : ℕ) → length xs ≤ k → slice_index_or (xs ++ ys) k d ≡ slice_index_or ys (k - length xs) d
      second_at k most =
          let at : k ≡ length xs + (k - length xs) = omega arith in
          ap (λ n. slice_index_or (xs ++ ys) n d) at ∙ get_or-append-add xs ys (k - length xs) d

  each_as : (P Q : A → Type 0) (xs : List A) → Each P xs → ((x : A) → P x → Q x) → Each Q xs
  each_as P Q xs each weaker i e h = weaker (slice_index_or xs i e) (each i e h)

  -- in order, by a number that tells them apart
  apart_listed : (label : A → ℕ) (n : ℕ) (f : ℕ → List A) → ((j : ℕ) → j < n → AreApart (f j)) → ((j : ℕ) → j < n → Each (λ x. label x ≡ j) (f j)) → AreApart (listed n f)
  apart_listed label zero f apart each = apart_none
  apart_listed label (suc n) f apart each =
      apart_append (λ x. label x < n) (λ x. label x ≡ n) (listed n f) (f n)
      (apart_listed label n f (λ j h. apart j (omega arith)) (λ j h. each j (omega arith)))
      (apart n (omega arith))
      (each_listed (λ x. label x < n) n f (λ j h. each_as (λ x. label x ≡ j) (λ x. label x < n) (f j) (each j (omega arith)) (λ x e. omega arith)))
      (each n (omega arith))
      (λ x less same. absurd (omega arith))

  apart_where : (b : Bool) (xs : List A) → AreApart xs → AreApart (where_true b xs)
  apart_where b xs apart = cond_both b xs [] AreApart (λ e. apart) (λ e. apart_none)

  each_where : (P : A → Type 0) (b : Bool) (xs : List A) → Each P xs → Each P (where_true b xs)
  each_where P b xs each = cond_both b xs [] (Each P) (λ e. each) (λ e. each_none P)

-- ---- the numbers that tell amounts apart
period_of : Amount → ℕ
period_of (Length g t k) = t
period_of (Held g t) = t
period_of (Given w t) = t
period_of (Shed t) = t
period_of (Short t) = t

kind_of : Amount → ℕ
kind_of (Length g t k) = 0
kind_of (Held g t) = 0
kind_of (Given w t) = 1
kind_of (Shed t) = 2
kind_of (Short t) = 3

unit_of : Amount → ℕ
unit_of (Length g t k) = g
unit_of (Held g t) = g
unit_of (Given w t) = w
unit_of (Shed t) = 0
unit_of (Short t) = 0

place_of : Amount → ℕ
place_of (Length g t k) = k
place_of _ = 0

part_of : Amount → ℕ
part_of (Length g t k) = 1
part_of _ = 0

module _ (task : Task) (t : ℕ) where
  abbrev none : Amount
  none = Shed 0

  abbrev lengths : ℕ → List Amount
  lengths g = listed (segments (task.corners g)) (λ k. Length g t k ∷ [])

  abbrev cell : ℕ → List Amount
  cell g = lengths g ++ (Held g t ∷ [])

  -- a property that the amounts of a cell have
  each_cell : (P : Amount → Type 0) (g : ℕ) → ((k : ℕ) → P (Length g t k)) → P (Held g t) → Each P (unit_amounts task t g)
  each_cell P g length held =
      each_where none P (task.on g t) (cell g)
      (each_append P (lengths g) (Held g t ∷ []) (each_listed P (segments (task.corners g)) (λ k. Length g t k ∷ []) (λ k h. each_one P (Length g t k) (length k))) (each_one P (Held g t) held))

  cell_apart : (g : ℕ) → AreApart none (unit_amounts task t g)
  unfolding place_of part_of
  cell_apart g =
      apart_where none (task.on g t) (cell g)
      (apart_append none (λ x. part_of x ≡ 1) (λ x. part_of x ≡ 0) (lengths g) (Held g t ∷ [])
      (apart_listed none place_of (segments (task.corners g)) (λ k. Length g t k ∷ []) (λ k h. apart_one none (Length g t k)) (λ k h. each_one (λ x. place_of x ≡ k) (Length g t k) refl))
      (apart_one none (Held g t))
      (each_listed (λ x. part_of x ≡ 1) (segments (task.corners g)) (λ k. Length g t k ∷ []) (λ k h. each_one (λ x. part_of x ≡ 1) (Length g t k) refl))
      (each_one (λ x. part_of x ≡ 0) (Held g t) refl)
      (λ x one zero_is. absurd (omega arith)))

  abbrev cells : List Amount
  cells = listed (thermal_count task.instance) (unit_amounts task t)

  abbrev given : List Amount
  given = listed (renewable_count task.instance) (λ w. Given w t ∷ [])

  abbrev shed : List Amount
  shed = where_true (nat_lt 0 task.instance.a) (Shed t ∷ [])

  abbrev short : List Amount
  short = where_true (nat_lt 0 task.instance.b) (Short t ∷ [])

  each_period : (P : Amount → Type 0) → ((g k : ℕ) → P (Length g t k)) → ((g : ℕ) → P (Held g t)) → ((w : ℕ) → P (Given w t)) → P (Shed t) → P (Short t)
      → Each P (amounts_in task t)
  each_period P length held own_given own_shed own_short =
      each_append P cells (given ++ (shed ++ short)) (each_listed P (thermal_count task.instance) (unit_amounts task t) (λ g h. each_cell P g (length g) (held g)))
      (each_append P given (shed ++ short) (each_listed P (renewable_count task.instance) (λ w. Given w t ∷ []) (λ w h. each_one P (Given w t) (own_given w)))
      (each_append P shed short (each_where none P (nat_lt 0 task.instance.a) (Shed t ∷ []) (each_one P (Shed t) own_shed))
      (each_where none P (nat_lt 0 task.instance.b) (Short t ∷ []) (each_one P (Short t) own_short))))

  period_apart : AreApart none (amounts_in task t)
  unfolding unit_of kind_of
  period_apart =
      apart_append none (λ x. kind_of x ≡ 0) (λ x. 1 ≤ kind_of x) cells (given ++ (shed ++ short))
      (apart_listed none unit_of (thermal_count task.instance) (unit_amounts task t) (λ g h. cell_apart g) (λ g h. each_cell (λ x. unit_of x ≡ g) g (λ k. refl) refl))
      (apart_append none (λ x. kind_of x ≡ 1) (λ x. 2 ≤ kind_of x) given (shed ++ short)
      (apart_listed none unit_of (renewable_count task.instance) (λ w. Given w t ∷ []) (λ w h. apart_one none (Given w t)) (λ w h. each_one (λ x. unit_of x ≡ w) (Given w t) refl))
      (apart_append none (λ x. kind_of x ≡ 2) (λ x. kind_of x ≡ 3) shed short
      (apart_where none (nat_lt 0 task.instance.a) (Shed t ∷ []) (apart_one none (Shed t)))
      (apart_where none (nat_lt 0 task.instance.b) (Short t ∷ []) (apart_one none (Short t)))
      (each_where none (λ x. kind_of x ≡ 2) (nat_lt 0 task.instance.a) (Shed t ∷ []) (each_one (λ x. kind_of x ≡ 2) (Shed t) refl))
      (each_where none (λ x. kind_of x ≡ 3) (nat_lt 0 task.instance.b) (Short t ∷ []) (each_one (λ x. kind_of x ≡ 3) (Short t) refl))
      (λ x two three. absurd (omega arith)))
      (each_listed (λ x. kind_of x ≡ 1) (renewable_count task.instance) (λ w. Given w t ∷ []) (λ w h. each_one (λ x. kind_of x ≡ 1) (Given w t) refl))
      (each_append (λ x. 2 ≤ kind_of x) shed short
      (each_where none (λ x. 2 ≤ kind_of x) (nat_lt 0 task.instance.a) (Shed t ∷ []) (each_one (λ x. 2 ≤ kind_of x) (Shed t) (omega arith)))
      (each_where none (λ x. 2 ≤ kind_of x) (nat_lt 0 task.instance.b) (Short t ∷ []) (each_one (λ x. 2 ≤ kind_of x) (Short t) (omega arith))))
      (λ x one more. absurd (omega arith)))
      (each_listed (λ x. kind_of x ≡ 0) (thermal_count task.instance) (unit_amounts task t) (λ g h. each_cell (λ x. kind_of x ≡ 0) g (λ k. refl) refl))
      (each_append (λ x. 1 ≤ kind_of x) given (shed ++ short)
      (each_listed (λ x. 1 ≤ kind_of x) (renewable_count task.instance) (λ w. Given w t ∷ []) (λ w h. each_one (λ x. 1 ≤ kind_of x) (Given w t) (omega arith)))
      (each_append (λ x. 1 ≤ kind_of x) shed short
      (each_where none (λ x. 1 ≤ kind_of x) (nat_lt 0 task.instance.a) (Shed t ∷ []) (each_one (λ x. 1 ≤ kind_of x) (Shed t) (omega arith)))
      (each_where none (λ x. 1 ≤ kind_of x) (nat_lt 0 task.instance.b) (Short t ∷ []) (each_one (λ x. 1 ≤ kind_of x) (Short t) (omega arith)))))
      (λ x zero_is more. absurd (omega arith))

pub amounts_apart : (task : Task) → AreApart (Shed 0) (amounts task)
unfolding period_of
amounts_apart task =
    apart_listed (Shed 0) period_of task.instance.periods (amounts_in task) (λ t h. period_apart task t)
    (λ t h. each_period task t (λ x. period_of x ≡ t) (λ g k. refl) (λ g. refl) (λ w. refl) refl refl)
