-- How entries change as their values are reckoned for other decisions, and what they add up to. This project's own form.
use Rattle.std.specs.Prelude.{◌≡◌, ℕ, ◌<◌, List, ℤ, pos, ◌+ℤ◌, length, Option, Some, None, MatchOption, unwrap_or}
use Rattle.uc_model.specs.Prelude.{sum_below, thermal_unit}
use Rattle.leaf_values.specs.Entries.{TableEntries, Thermal, UnitEntry, IsReckoned, entry_at, entry_in}
use Rattle.uc_model.specs.declared.instance.Instance.{Instance}
use Rattle.leaf_values.specs.Paths.{Fix, fix_at}

-- the entry was reckoned for the fix, and is otherwise as before
pub record IsReckonedFor (horizon : ℕ) (unit : Thermal) (wanted : Fix) (old new : UnitEntry) : Type 0 where
  pub reckoned : IsReckoned horizon unit new
  pub fix : new.fix ≡ wanted
  pub terms : new.terms ≡ old.terms
  pub constant : new.constant ≡ old.constant

-- those of the first n units were
pub record AreReckonedFor (instance : Instance) (fixes : List Fix) (n : ℕ) (old new : List UnitEntry) : Type 0 where
  pub count : length new ≡ length old
  pub unit : (g : ℕ) → g < n →
      IsReckonedFor instance.periods (thermal_unit instance g) (fix_at fixes g) (entry_in old g) (entry_in new g)

-- the value of a unit that has one, and what the unit adds
abbrev pub value_of : UnitEntry → ℤ
value_of entry = unwrap_or entry.value (pos 0)

abbrev pub part_of : UnitEntry → ℤ
part_of entry = value_of entry +ℤ entry.constant

-- what a unit adds, or nothing where it has no value
abbrev pub IsPart : UnitEntry → Option ℤ → Type 0
IsPart entry part = MatchOption part (entry.value ≡ None) (λ p. (entry.value ≡ Some (value_of entry)) × (p ≡ part_of entry))

-- each of the first n units has a value, and this is what they add to what doesn't hang on them
pub record IsTotal (entries : TableEntries) (n : ℕ) (v : ℤ) : Type 0 where
  pub each : (g : ℕ) → g < n → (entry_at entries g).value ≡ Some (value_of (entry_at entries g))
  pub total : v ≡ entries.rest +ℤ sum_below n (λ g. part_of (entry_at entries g))

-- one of the first n units has no value
pub record HasNoValue (entries : TableEntries) (n : ℕ) : Type 0 where
  pub unit : ℕ
  pub within : unit < n
  pub none : (entry_at entries unit).value ≡ None
