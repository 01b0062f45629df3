-- Changes of a table that are read and made one after the other, and tables that are read behind each other.
use Rattle.std.proofs.Common.{◌≡◌, ℕ, zero, suc, ◌+◌, ◌-◌, ◌<◌, ◌≤◌, Bool, true, false, cond, ◌&&◌, List, [], ◌∷◌, ◌++◌, length, Option, Some, None, Result, Ok, Err, refl, sym, ap, ◌∙◌, arith, pos, append-nil}
use Rattle.std.specs.Option.{option_and_then}
use Rattle.std.specs.List.{slice_get}
use Rattle.std.proofs.lemmas.List.{length-set, length_push}
use Rattle.table_list.specs.Changes.{Table, RampRow, Change, OfDemand, OfReserve, OfRamps, changed, all_changed}
use Rattle.cert_text.specs.CertificateText.{told_from}
use Rattle.cert_text.specs.Grammar.{Sizes, rescaled}
use Rattle.cert_text.specs.inside.Forms.{Form, passing, written_change_at, is_within, comes_behind, is_other, change_at, next_at}
use Rattle.cert_text.specs.inside.Parts.{Stop, ◌>>=◌, StopsAs, line_of, told, changes_part, changed_part, next_part, table_of, numbers_part, table_part, told_part, tables_part}
use Rattle.cert_text.specs.inside.Drafts.{drafted, so_far, ArePriced}
use Rattle.table_list.specs.TableChanges.{last_table}
use Rattle.cert_text.specs.declared.reader.draft.Draft.{Draft}
use Rattle.cert_text.specs.declared.reader.stop.Stop.TheVariants as stops
use Rattle.cert_text.proofs.Loops.{one_left, none_left, behind_parts, regroup_parts}
use Rattle.cert_text.proofs.PartSteps.{ok_of, told_then}

-- ---- the line of a change
-- one test and then another
passing_both : {A : Type 0} (form : Form A) (first second : A → Bool) (bytes : List ℕ)
    → passing (λ a. first a && second a) form bytes ≡ option_and_then (λ (x : A × List ℕ). cond (second x.0) (Some x) None) (passing first form bytes)
passing_both {A} form first second bytes = grind arith

change_read : (size : Sizes) (table : Table) (last : Option Change) (bytes rest : List ℕ) (change : Change)
    → passing (is_within size) written_change_at bytes ≡ Some (change, rest)
    → change_at size table last bytes ≡ cond (comes_behind last change && is_other table change) (Some (change, rest)) None
unfolding change_at
change_read size table last bytes rest change e =
    passing_both written_change_at (is_within size) (λ change. comes_behind last change && is_other table change) bytes
    ∙ ap (option_and_then (λ (x : Change × List ℕ). cond (comes_behind last x.0 && is_other table x.0) (Some x) None)) e

pub change_stands : (size : Sizes) (table : Table) (last : Option Change) (bytes rest : List ℕ) (change : Change)
    → passing (is_within size) written_change_at bytes ≡ Some (change, rest) → (comes_behind last change && is_other table change) ≡ true
    → line_of (change_at size table last) bytes ≡ Ok (change, rest)
change_stands size table last bytes rest change e stands = rw (change_read size table last bytes rest change e, stands) refl

pub change_barred : (size : Sizes) (table : Table) (last : Option Change) (bytes rest : List ℕ) (change : Change)
    → passing (is_within size) written_change_at bytes ≡ Some (change, rest) → (comes_behind last change && is_other table change) ≡ false
    → line_of (change_at size table last) bytes ≡ Err bytes
change_barred size table last bytes rest change e barred = rw (change_read size table last bytes rest change e, barred) refl

pub no_change : (size : Sizes) (table : Table) (last : Option Change) (bytes : List ℕ) → passing (is_within size) written_change_at bytes ≡ None
    → line_of (change_at size table last) bytes ≡ Err bytes
unfolding change_at
no_change size table last bytes e =
    let none : change_at size table last bytes ≡ None =
    passing_both written_change_at (is_within size) (λ change. comes_behind last change && is_other table change) bytes
    ∙ ap (option_and_then (λ (x : Change × List ℕ). cond (comes_behind last x.0 && is_other table x.0) (Some x) None)) e in
    rw none refl

-- ---- making changes one after the other
-- there are as many prices as before
as_many_demand : (table : Table) (change : Change) → length (changed table change).pi ≡ length table.pi
as_many_demand table (OfDemand t price) = length-set table.pi t price
as_many_demand table (OfReserve t price) = refl
as_many_demand table (OfRamps row) = refl

as_many_reserve : (table : Table) (change : Change) → length (changed table change).mu ≡ length table.mu
as_many_reserve table (OfDemand t price) = refl
as_many_reserve table (OfReserve t price) = length-set table.mu t price
as_many_reserve table (OfRamps row) = refl

pub still_priced : (periods : ℕ) (draft now : Draft) (left rest : List RampRow) (change : Change) → ArePriced periods draft → so_far now rest ≡ changed (so_far draft left) change
    → ArePriced periods now
still_priced periods draft now left rest change priced made = record {
  demand = ap (λ (table : Table). length table.pi) made ∙ as_many_demand (so_far draft left) change ∙ priced.demand;
  reserve = ap (λ (table : Table). length table.mu) made ∙ as_many_reserve (so_far draft left) change ∙ priced.reserve;
}

-- ---- changes, as a loop goes
pub change_more : (size : Sizes) (count i : ℕ) (table next : Table) (last : Option Change) (bytes rest : List ℕ) (change : Change) (total : Result (Table × List ℕ) (List ℕ))
    → i < count → line_of (change_at size table last) bytes ≡ Ok (change, rest) → next ≡ changed table change
    → changed_part size (count - i) table last bytes ≡ total → changed_part size (count - (i + 1)) next (Some change) rest ≡ total
unfolding changed_part
change_more size count i table next last bytes rest change total lt e made before = rw made (rw (one_left count i lt, e) at before)

pub change_stops_as : (size : Sizes) (count i : ℕ) (table : Table) (last : Option Change) (bytes : List ℕ) (stop : Stop) (total : Result (Table × List ℕ) (List ℕ))
    → i < count → StopsAs stop (line_of (change_at size table last) bytes) → changed_part size (count - i) table last bytes ≡ total → StopsAs stop total
unfolding changed_part
change_stops_as size count i table last bytes stops.NoMemory total lt e before = tt
change_stops_as size count i table last bytes (stops.At rest) total lt e before = sym (rw (one_left count i lt, e) at before)

pub changes_done : (size : Sizes) (count i : ℕ) (table : Table) (last : Option Change) (bytes : List ℕ) (total : Result (Table × List ℕ) (List ℕ))
    → count ≤ i → changed_part size (count - i) table last bytes ≡ total → total ≡ Ok (table, bytes)
unfolding changed_part
changes_done size count i table last bytes total le before = sym (rw (none_left count i le) at before)

-- the same as reading all and then making them
changed_is : (size : Sizes) (n : ℕ) (table : Table) (last : Option Change) (bytes : List ℕ)
    → changed_part size n table last bytes ≡ told (all_changed table) (changes_part size table n last) bytes
unfolding changed_part changes_part
changed_is size zero table last bytes = refl
changed_is size (suc n) table last bytes =
    by_line (λ x. changed_is size n (changed table x.0) (Some x.0) x.1) (line_of (change_at size table last) bytes)
  where
    by_changes : (x : Change × List ℕ) (r : Result (List Change × List ℕ) (List ℕ)) → (r >>= λ y. ok_of Table (all_changed (changed table x.0) y.0) y.1)
        ≡ ((r >>= λ xs. ok_of (List Change) (x.0 ∷ xs.0) xs.1) >>= λ y. ok_of Table (all_changed table y.0) y.1)
    by_changes x (Ok y) = refl
    by_changes x (Err rest) = refl

    by_line : ((x : Change × List ℕ) → changed_part size n (changed table x.0) (Some x.0) x.1 ≡ told (all_changed (changed table x.0)) (changes_part size (changed table x.0) n (Some x.0)) x.1)
        → (r : Result (Change × List ℕ) (List ℕ)) → (r >>= λ x. changed_part size n (changed table x.0) (Some x.0) x.1)
        ≡ ((r >>= λ x. changes_part size (changed table x.0) n (Some x.0) x.1 >>= λ xs. ok_of (List Change) (x.0 ∷ xs.0) xs.1) >>= λ y. ok_of Table (all_changed table y.0) y.1)
    by_line step (Ok x) = step x ∙ by_changes x (changes_part size (changed table x.0) n (Some x.0) x.1)
    by_line step (Err rest) = refl

pub next_told : (size : Sizes) (before : Table) (k n : ℕ) (bytes rest : List ℕ) → next_at bytes ≡ Some ((k, n), rest)
    → next_part size before bytes ≡ changed_part size n (rescaled before k) None rest
unfolding next_part
next_told size before k n bytes rest e =
    told_then (λ (p : (ℕ × ℕ) × List Change). all_changed (rescaled before p.0.0) p.1) (line_of next_at) (λ p. changes_part size (rescaled before p.0) p.1 None) bytes
    ∙ rw e (sym (changed_is size n (rescaled before k) None rest))

pub no_next : (size : Sizes) (before : Table) (bytes : List ℕ) → next_at bytes ≡ None → next_part size before bytes ≡ Err bytes
unfolding next_part
no_next size before bytes e = rw e refl

-- ---- a draft of the table before
drafted_rescaled : (draft : Draft) (before : Table) (k : ℕ) (rows : List RampRow) → before ≡ drafted draft draft.ramps.items → rows ≡ before.ramps
    → ◌≡◌ {A = Table} (record { units = draft.units; k = pos k; pi = draft.pi.items; mu = draft.mu.items; ramps = rows }) (rescaled before k)
drafted_rescaled draft before k rows e f = λ i. record { units = (sym e i).units; k = pos k; pi = (sym e i).pi; mu = (sym e i).mu; ramps = f i }

-- so its changes are read behind its first line
pub next_drafted : (size : Sizes) (draft : Draft) (before : Table) (k n : ℕ) (rows : List RampRow) (bytes rest : List ℕ)
    → before ≡ drafted draft draft.ramps.items → rows ≡ before.ramps → next_at bytes ≡ Some ((k, n), rest)
    → next_part size before bytes ≡ changed_part size n (record { units = draft.units; k = pos k; pi = draft.pi.items; mu = draft.mu.items; ramps = rows }) None rest
next_drafted size draft before k n rows bytes rest e f read =
    next_told size before k n bytes rest read ∙ ap (λ (table : Table). changed_part size n table None rest) (sym (drafted_rescaled draft before k rows e f))

-- ---- a draft of a table that is told whole
pub whole_drafted : (size : Sizes) (draft : Draft) (bytes rest : List ℕ) → draft.units ≡ size.thermal
    → numbers_part size bytes ≡ Ok ((draft.k, (draft.pi.items, (draft.mu.items, draft.ramps.items))), rest)
    → table_part size bytes ≡ Ok (drafted draft draft.ramps.items, rest)
unfolding table_part
whole_drafted size draft bytes rest e read =
    let told_as : table_part size bytes ≡ Ok (table_of size (draft.k, (draft.pi.items, (draft.mu.items, draft.ramps.items))), rest) = rw read refl in
    told_as ∙ (λ i. ok_of Table (record { units = sym e i; k = pos draft.k; pi = draft.pi.items; mu = draft.mu.items; ramps = draft.ramps.items }) rest)

pub whole_stops_as : (size : Sizes) (bytes : List ℕ) (stop : Stop) → StopsAs stop (numbers_part size bytes) → StopsAs stop (table_part size bytes)
unfolding table_part
whole_stops_as size bytes stops.NoMemory e = tt
whole_stops_as size bytes (stops.At rest) e = rw e refl

-- ---- tables, as a loop goes
last_at : (tables : List Table) (table : Table) → slice_get (tables ++ table ∷ []) (length tables) ≡ Some table
last_at [] table = refl
last_at (first ∷ tables) table = last_at tables table

pub last_more : (tables : List Table) (table : Table) → last_table (tables ++ table ∷ []) ≡ Some table
last_more tables table =
    let place : length (tables ++ table ∷ []) - 1 ≡ length tables = omega (arith, length_push tables table) in
    ap (slice_get (tables ++ table ∷ [])) place ∙ last_at tables table

pub table_more : (size : Sizes) (front grown : List Table) (count i : ℕ) (bytes rest : List ℕ) (table : Table) (total : Result (List Table × List ℕ) (List ℕ))
    → i < count → told_part size (told_from size.version (last_table front)) bytes ≡ Ok (table, rest) → grown ≡ front ++ table ∷ []
    → behind_parts front (tables_part size (count - i) (last_table front) bytes) ≡ total
    → behind_parts grown (tables_part size (count - (i + 1)) (last_table grown) rest) ≡ total
unfolding tables_part
table_more size front grown count i bytes rest table total lt e grows before =
    rw (grows, last_more front table)
    (sym (regroup_parts front table (tables_part size (count - (i + 1)) (Some table) rest)) ∙ (rw (one_left count i lt, e) at before))

pub table_stops_as : (size : Sizes) (front : List Table) (count i : ℕ) (bytes : List ℕ) (stop : Stop) (total : Result (List Table × List ℕ) (List ℕ))
    → i < count → StopsAs stop (told_part size (told_from size.version (last_table front)) bytes)
    → behind_parts front (tables_part size (count - i) (last_table front) bytes) ≡ total → StopsAs stop total
unfolding tables_part
table_stops_as size front count i bytes stops.NoMemory total lt e before = tt
table_stops_as size front count i bytes (stops.At rest) total lt e before = sym (rw (one_left count i lt, e) at before)

pub tables_done : (size : Sizes) (front : List Table) (count i : ℕ) (bytes : List ℕ) (total : Result (List Table × List ℕ) (List ℕ))
    → count ≤ i → behind_parts front (tables_part size (count - i) (last_table front) bytes) ≡ total → total ≡ Ok (front, bytes)
unfolding tables_part
tables_done size front count i bytes total le before =
    sym (rw (none_left count i le) at before) ∙ ap (λ (tables : List Table). Ok (tables, bytes)) (append-nil front)
