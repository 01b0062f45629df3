-- The numbers of a schedule that has a text have so few digits, those past its rows too.
use Rattle.std.proofs.Common.{ℕ, Bool, false, List, [], get_or, All, ⊎_elim, arith, ℤ, pos}
use Rattle.std.proofs.lemmas.Bool.{cases_lt}
use Rattle.std.proofs.lemmas.List.{get_or_past}
use Rattle.std.proofs.lemmas.List.Elements.{All-nil}
use Rattle.dual_model.specs.Prelude.{WrittenSchedule}
use Rattle.schedule_check.specs.SizedNumbers.{Cell, HasSizedNumbers, IsSized, IsSizedCell}
use Rattle.cert_text.specs.declared.cert.Version.{Version}
use Rattle.cert_text.specs.TextConditions.{HasDigits, IsCellText, IsScheduleText}

-- what holds of each element, and past the end, holds everywhere
in_list : {X : Type 0} (P : X → Type 0) (xs : List X) (past : X) → All P xs → P past → (i : ℕ) → P (get_or xs i past)
in_list P xs past all none i = grind (arith, ⊎_elim, get_or_past, cases_lt, all, none)

in_rows : {X : Type 0} (P : X → Type 0) (rows : List (List X)) (past : X) → All (λ row. All P row) rows → P past
    → (i j : ℕ) → P (get_or (get_or rows i []) j past)
in_rows P rows past all none i j =
    in_list P (get_or rows i []) past (in_list (λ row. All P row) rows [] all (All-nil P) i) none j

sized_nought : IsSized (pos 0)
sized_nought = omega arith

sized_power : (z : ℤ) → HasDigits 15 z → IsSized z
sized_power z digits = omega (arith, digits)

sized_cell : (cell : Cell) → IsCellText cell → IsSizedCell cell
sized_cell cell text = grind (arith, text)

-- where a schedule has no cell
abbrev no_cell : Cell
no_cell = record { on = false; p = pos 0; r = pos 0; category = 0 }

pub sized_text : (version : Version) (priced : Bool) (periods thermal renewable : ℕ) (written : WrittenSchedule)
    → IsScheduleText version priced periods thermal renewable written → HasSizedNumbers written.printed
sized_text version priced periods thermal renewable written text = record {
  thermal = in_rows IsSizedCell written.printed.thermal no_cell
      (λ g d within. λ t e cell. sized_cell (get_or (get_or written.printed.thermal g d) t e) ((text.cells g d within).written t e cell))
      (record { output = sized_nought; reserve = sized_nought });
  renewable = in_rows IsSized written.printed.renewable (pos 0)
      (λ w d within. λ t e power. sized_power (get_or (get_or written.printed.renewable w d) t e) ((text.outputs w d within).written t e power))
      sized_nought;
}
