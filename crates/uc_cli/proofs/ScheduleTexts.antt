-- A schedule that a search lets out has a text of the certificate's grammar, in the third version.
use Rattle.std.proofs.Common.{◌≡◌, ℕ, zero, suc, ◌<◌, ◌*◌, ◌≤◌, Bool, true, false, List, [], ◌∷◌, get_or, length, replicate, refl, arith, ℤ, pos, ◌*ℤ◌, ◌/◌, Some, None, Option, IfSome}
use Rattle.std.proofs.lemmas.List.{get_or_default}
use Rattle.uc_model.specs.Prelude.{thermal_count, renewable_count, shed_at, short_at, printed_denominator, printed_schedule}
use Rattle.uc_model.proofs.Common.{linear, watts-factor, share_is, shed_parts, short_parts}
use Rattle.uc_model.specs.declared.instance.Instance.{Instance}
use Rattle.uc_model.specs.declared.schedule.Cell.{Cell}
use Rattle.uc_model.specs.declared.schedule.Printed.{Printed}
use Rattle.schedule_check.specs.SizedNumbers.{HasSizedNumbers, IsSized, IsSizedCell}
use Rattle.branch_tree.specs.Prelude.{written_of}
use Rattle.cert_text.specs.CertificateText.{has_price}
use Rattle.cert_text.specs.TextConditions.{AreShortagesText, HasNoShortage, IsCellText, IsThermalRow, IsPowerRow, IsScheduleText}
use Rattle.cert_text.specs.declared.cert.Version.TheVariants.{Third}
use Rattle.cert_text.proofs.PlanLaws.{no_prices}
use Rattle.found_schedule.specs.Found.{HasFoundNumbers, IsFound, IsFoundCell, IsFoundIfAny}

-- ---- the text
-- where a schedule has no cell
abbrev no_cell : Cell
no_cell = record { on = false; p = pos 0; r = pos 0; category = 0 }

cell_text : (cell : Cell) → IsFoundCell cell → IsSizedCell cell → IsCellText cell
cell_text cell plain small = grind (arith, linear, plain, small)

thermal_row : (periods : ℕ) (printed : Printed) (g : ℕ) (row : List Cell) → HasFoundNumbers printed → row ≡ get_or printed.thermal g []
    → length row ≡ periods → IsThermalRow periods row
thermal_row periods printed g row numbers is count = grind (arith, linear, get_or_default, cell_text, numbers, is, count)

renewable_row : (periods : ℕ) (printed : Printed) (w : ℕ) (row : List ℤ) → HasSizedNumbers printed
    → row ≡ get_or printed.renewable w [] → length row ≡ periods → IsPowerRow periods row
renewable_row periods printed w row small is count = grind (arith, linear, get_or_default, small, is, count)

power_row : (periods : ℕ) (row : List ℤ) → length row ≡ periods → ((t : ℕ) → IsSized (get_or row t (pos 0))) → IsPowerRow periods row
power_row periods row count small = grind (arith, linear, get_or_default, count, small)

-- ---- without a price nothing is missing
zero_over : (q : ℕ) (missing : ℤ) → 1 ≤ q → pos q *ℤ missing ≡ pos 0 → missing ≡ pos 0
zero_over q missing some e = grind (arith, linear, some, e)

no_powers : (n : ℕ) (powers : List ℤ) → length powers ≡ n → ((t : ℕ) → t < n → get_or powers t (pos 0) ≡ pos 0)
    → powers ≡ replicate n (pos 0)
no_powers zero [] count none = refl
no_powers zero (z ∷ powers) count none = absurd (omega (arith, count))
no_powers (suc n) [] count none = absurd (omega (arith, count))
no_powers (suc n) (z ∷ powers) count none = λ i.
    none 0 (omega arith) i ∷ no_powers n powers (omega (arith, count)) (λ t below. none (suc t) (omega (arith, below))) i

-- a share of the schedule's denominator is at least 1
share_zero : (q c d : ℕ) (missing : ℤ) → 0 < d → q ≡ c * d → 1 ≤ q → pos (q / d) *ℤ missing ≡ pos 0 → missing ≡ pos 0
share_zero q zero d missing some e positive h = absurd (omega (arith, e, positive))
share_zero q (suc c) d missing some e positive h = grind (arith, linear, zero_over, share_is, some, e, positive, h)

lacks_nothing : (over : Bool) (instance : Instance) (printed : Printed) (cost : ℤ) → IsFound over instance printed cost
    → (instance.a ≡ 0) × (instance.b ≡ 0) → HasNoShortage instance.periods printed
lacks_nothing over instance printed cost found free =
    let q = printed_denominator instance printed in
    let x = printed_schedule instance printed q in
    let some = found.obeys.denominator in
    let least = found.numbers.least in
    let share = watts-factor instance printed in
    record {
      shed = no_powers instance.periods printed.shed found.shape.shed (λ t below.
          share_zero q share.0 printed.denominator (shed_at printed t) (omega (arith, least)) share.1 some
          ((shed_parts instance q x t found.obeys below).priced free.0));
      short = no_powers instance.periods printed.short found.shape.short (λ t below.
          share_zero q share.0 printed.denominator (short_at printed t) (omega (arith, least)) share.1 some
          ((short_parts instance q x t found.obeys below).priced free.1));
    }

shortages_text : (over : Bool) (instance : Instance) (printed : Printed) (cost : ℤ) (priced : Bool) → IsFound over instance printed cost
    → has_price instance.a instance.b ≡ priced → AreShortagesText priced instance.periods printed
shortages_text over instance printed cost false found none =
    lacks_nothing over instance printed cost found (no_prices instance.a instance.b none)
shortages_text over instance printed cost true found some = grind (arith, linear, power_row, found, some)

schedule_text : (over : Bool) (instance : Instance) (printed : Printed) (cost : ℤ) → IsFound over instance printed cost
    → IsScheduleText Third (has_price instance.a instance.b) instance.periods (thermal_count instance) (renewable_count instance)
    (record { printed = printed; cost = cost })
schedule_text over instance printed cost found = record {
  cost = omega (arith, found.size);
  thermal_rows = found.shape.thermal;
  cells = λ g d within.
      thermal_row instance.periods printed g _ found.numbers (get_or_default printed.thermal g d [] within) (found.shape.cells g d within);
  renewable_rows = found.shape.renewable;
  outputs = λ w d within.
      renewable_row instance.periods printed w _ found.numbers.sized (get_or_default printed.renewable w d [] within) (found.shape.outputs w d within);
  shortages = shortages_text over instance printed cost (has_price instance.a instance.b) found refl;
  denominator = record { least = found.numbers.least; most = found.numbers.most; divided = λ other. refl };
}

pub has_schedule_text : (over : Bool) (instance : Instance) (schedule : Option (Printed × ℤ)) → IsFoundIfAny over instance schedule
    → IfSome (written_of schedule)
    (IsScheduleText Third (has_price instance.a instance.b) instance.periods (thermal_count instance) (renewable_count instance))
has_schedule_text over instance None found = tt
has_schedule_text over instance (Some pair) found = schedule_text over instance pair.0 pair.1 found
