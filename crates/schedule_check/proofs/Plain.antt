-- Plain numbers are of a size, and stand everywhere where each of the schedule's own numbers is plain.
-- Cite by `use Rattle.schedule_check.proofs.Plain.{power_below, sized, plain}`.
use Rattle.std.proofs.Common.{ℕ, ◌<◌, List, [], length, get_or, ℤ, pos, ◌≤ℤ◌, arith, false}
use Rattle.std.proofs.lemmas.Bool.{cases_lt}
use Rattle.std.proofs.lemmas.List.{get_or_past}
use Rattle.uc_model.specs.Prelude.{IsLimit, IsPower}
use Rattle.uc_model.proofs.Common.{linear}
use Rattle.schedule_check.specs.SizedNumbers.{Cell, Printed, HasSizedNumbers}
use Rattle.schedule_check.specs.PlainNumbers.{HasPlainNumbers, IsPlainCell}

-- a number that isn't below 0 is a power if it is at most one
pub power_below : (z most : ℤ) → pos 0 ≤ℤ z → z ≤ℤ most → IsPower most → IsPower z
power_below z most low high power = grind (arith, linear, low, high, power)

-- plain numbers have at most 15 digits
pub sized : (printed : Printed) → HasPlainNumbers printed → HasSizedNumbers printed
sized printed numbers = grind (arith, linear, numbers)

-- ---- past the schedule
abbrev no_cell : Cell
no_cell = record { on = false; p = pos 0; r = pos 0; category = 0 }

no_cell-plain : IsPlainCell no_cell
no_cell-plain = grind (arith, linear)

no_output-plain : IsLimit (pos 0)
no_output-plain = record { low = omega (arith, linear); power = omega arith }

-- what holds of each entry of all rows, and of what stands for one past them, holds everywhere
abbrev pub OfEach : {X : Type 0} → (X → Type 0) → X → List (List X) → Type 0
OfEach P past rows = (i j : ℕ) → i < length rows → j < length (get_or rows i []) → P (get_or (get_or rows i []) j past)

everywhere : {X : Type 0} (P : X → Type 0) (rows : List (List X)) (past : X) → OfEach P past rows → P past → (i j : ℕ) → P (get_or (get_or rows i []) j past)
everywhere P rows past each none i j = grind (arith, linear, get_or_past, cases_lt, each, none)

-- likewise of one list
abbrev pub AreLimits : List ℤ → Type 0
AreLimits numbers = (t : ℕ) → t < length numbers → IsLimit (get_or numbers t (pos 0))

limits_everywhere : (numbers : List ℤ) → AreLimits numbers → (t : ℕ) → IsLimit (get_or numbers t (pos 0))
limits_everywhere numbers each t = grind (arith, linear, get_or_past, no_output-plain, cases_lt, each)

-- a schedule has plain numbers where each of its own is plain
pub plain : (printed : Printed) → OfEach IsPlainCell no_cell printed.thermal → OfEach IsLimit (pos 0) printed.renewable
    → AreLimits printed.shed → AreLimits printed.short → HasPlainNumbers printed
plain printed cells outputs shed short = record {
  cells = everywhere IsPlainCell printed.thermal no_cell cells no_cell-plain;
  outputs = everywhere IsLimit printed.renewable (pos 0) outputs no_output-plain;
  shed = limits_everywhere printed.shed shed;
  short = limits_everywhere printed.short short;
}
