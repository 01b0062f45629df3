-- Rows that are put one behind the other stay lawful.
use Rattle.std.proofs.Common.{◌≡◌, ℕ, suc, ◌+◌, ◌<◌, ◌≤◌, ⊎_elim, List, [], ◌∷◌, ◌++◌, length, get_or, sym, subst, arith}
use Rattle.std.proofs.lemmas.Bool.{cases_lt}
use Rattle.std.proofs.lemmas.List.{get_or_append_left, get_or_push, length_push}
use Rattle.std.proofs.lemmas.List.Elements.{All-push}
use Rattle.dual_model.specs.Prelude.{IsRowBefore, IsRowPriced, IsRowSigned, IsRowWithin}
use Rattle.prices.specs.inside.Moves.{RampRow, AreLawfulRows, IsBehind, IsMultiplier}

rising_more : (rows : List RampRow) (row : RampRow) (i : ℕ) (d : RampRow)
    → ((k : ℕ) (e : RampRow) → suc k < length rows → IsRowBefore (get_or rows k e) (get_or rows (suc k) e)) → IsBehind rows row
    → suc i < length (rows ++ row ∷ []) → IsRowBefore (get_or (rows ++ row ∷ []) i d) (get_or (rows ++ row ∷ []) (suc i) d)
rising_more rows row i d rises behind h = ⊎_elim
    (λ (inside : suc i < length rows).
    let earlier : i < length rows = omega arith in
    subst (λ (a : RampRow). IsRowBefore a (get_or (rows ++ row ∷ []) (suc i) d)) (sym (get_or_append_left rows (row ∷ []) d i earlier))
    (subst (IsRowBefore (get_or rows i d)) (sym (get_or_append_left rows (row ∷ []) d (suc i) inside)) (rises i d inside)))
    (λ (past : length rows ≤ suc i).
    let size : length (rows ++ row ∷ []) ≡ length rows + 1 = length_push rows row in
    let end : length rows ≡ suc i = omega arith in
    let next : i + 1 ≡ length rows = omega arith in
    let earlier : i < length rows = omega arith in
    subst (λ (a : RampRow). IsRowBefore a (get_or (rows ++ row ∷ []) (suc i) d)) (sym (get_or_append_left rows (row ∷ []) d i earlier))
    (subst (IsRowBefore (get_or rows i d)) (sym (get_or_push rows row d (suc i) end)) (behind i d next)))
    (cases_lt (suc i) (length rows))

pub rows_more : (units periods : ℕ) (rows : List RampRow) (row : RampRow) → AreLawfulRows units periods rows
    → IsRowWithin units periods row → IsBehind rows row → IsMultiplier row.up → IsMultiplier row.down
    → AreLawfulRows units periods (rows ++ row ∷ [])
rows_more units periods rows row lawful within behind up down = record {
  within = All-push (IsRowWithin units periods) rows row lawful.within within;
  rising = λ i d h. rising_more rows row i d lawful.rising behind h;
  signed = All-push IsRowSigned rows row lawful.signed (record { up = up.low; down = down.low });
  priced = All-push IsRowPriced rows row lawful.priced (record { up = up.size; down = down.size });
}
