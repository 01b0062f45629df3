-- The table from its end on, entry by entry.
use Rattle.std.proofs.Common.{◌≡◌, ℕ, suc, ◌<◌, ◌≤◌, ⊎_elim, List, length, sym, subst, ◌∙◌, arith, slice_set, None, length-set, get_or-set_same, get_or-set_other}
use Rattle.std.proofs.lemmas.Bool.{cases_lt}
use Rattle.unit_runs.specs.RunsToGo.{Fix}
use Rattle.unit_exact.specs.inside.Problems.{Table, Thermal}
use Rattle.unit_exact.specs.inside.Switches.{AreSwitches, IsTableFrom, Switches, entry_in}

module _ (periods : ℕ) (table : Table) (unit : Thermal) (fix : Fix) where
  pub table-none : (entries : List Switches) (from : ℕ) → length entries ≡ periods → periods ≤ from → IsTableFrom periods table unit fix from entries
  table-none entries from count past = record { count = count; entry = λ t low high. absurd (omega (arith, low, high, past)) }

  pub table-more : (entries : List Switches) (entry : Switches) (t : ℕ) → t < periods → IsTableFrom periods table unit fix (suc t) entries
      → AreSwitches periods table unit fix t entry → IsTableFrom periods table unit fix t (slice_set entries t entry)
  table-more entries entry t l later is =
      let count = later.count in
      record {
        count = length-set entries t entry ∙ count;
        entry = λ k low high. ⊎_elim
            (λ (here : k < suc t).
            let same : t ≡ k = omega (arith, low, here) in
            subst (λ j. AreSwitches periods table unit fix j (entry_in (slice_set entries t entry) j)) same
            (subst (λ x. AreSwitches periods table unit fix t x) (sym (get_or-set_same entries t entry (record { start = None; stop = None }) (omega (arith, l, count)))) is))
            (λ (after : suc t ≤ k).
            subst (λ x. AreSwitches periods table unit fix k x)
            (sym (get_or-set_other entries t k entry (record { start = None; stop = None }) (λ same. omega (arith, after, same)))) (later.entry k after high))
            (cases_lt k (suc t));
      }
