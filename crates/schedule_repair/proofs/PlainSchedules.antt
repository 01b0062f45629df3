-- A schedule has plain numbers where each of its rows has, and what is missing is within the limits.
use Rattle.std.specs.Prelude.{All}
use Rattle.std.proofs.lemmas.List.Elements.{All-get_or}
use Rattle.uc_model.specs.Prelude.{IsLimit}
use Rattle.uc_model.specs.declared.schedule.Printed.{Printed}
use Rattle.schedule_check.specs.PlainNumbers.{IsPlainCell, HasPlainNumbers}
use Rattle.schedule_check.proofs.Plain.{plain}

pub plain_rows : (printed : Printed) → All (All IsPlainCell) printed.thermal → All (All IsLimit) printed.renewable
    → All IsLimit printed.shed → All IsLimit printed.short → HasPlainNumbers printed
plain_rows printed cells outputs shed short =
    plain printed
    (λ g t row place. All-get_or IsPlainCell _ t _ place (All-get_or (All IsPlainCell) printed.thermal g _ row cells))
    (λ w t row place. All-get_or IsLimit _ t _ place (All-get_or (All IsLimit) printed.renewable w _ row outputs))
    (λ t place. All-get_or IsLimit printed.shed t _ place shed)
    (λ t place. All-get_or IsLimit printed.short t _ place short)
