-- Ramp rows that are gone along: what is looked up or set among rising rows lies behind those that come before it.
use Rattle.std.proofs.Common.{◌≡◌, suc, ◌<◌, Bool, true, false, ◌&&◌, ◌==◌, List, [], ◌∷◌, ◌++◌, length, get_or, take, drop, ◌-◌, refl, sym, ap, subst, ◌∙◌, append_assoc, append-nil, arith}
use Rattle.std.proofs.lemmas.List.{take_rest}
use Rattle.dual_model.specs.Prelude.{AreRising, IsRowBefore, row_of}
use Rattle.table_list.specs.Changes.{RampRow, is_before, no_row, placed, with_row}
use Rattle.table_list.proofs.RowChanges.{before_decides}
use Rattle.cert_text.specs.inside.Drafts.{LieBefore, differs, IsPassed, IsRowSet}

-- ---- the order of rows
pub before_through : (first second third : RampRow) → is_before first second ≡ true → is_before second third ≡ true → is_before first third ≡ true
before_through first second third e f = grind (arith, e, f)

pub before_from : (first second : RampRow) → IsRowBefore first second → is_before first second ≡ true
before_from first second h = (before_decides first second).1 h

-- a row that comes before another is of another unit or period
abbrev are_one : RampRow → RampRow → Bool
are_one first second = (first.g == second.g) && (first.t == second.t)

other_before : (first second : RampRow) → is_before first second ≡ true → are_one first second ≡ false
other_before first second e = grind (arith, e)

other_behind : (first second : RampRow) → is_before second first ≡ true → are_one first second ≡ false
other_behind first second e = grind (arith, e)

-- ---- lists of rows
pub rising_behind : (first : RampRow) (rows : List RampRow) → AreRising (first ∷ rows) → AreRising rows
rising_behind first rows rising i d lt = rising (suc i) d (omega arith)

pub lie_before_more : (rows : List RampRow) (last row : RampRow) → LieBefore rows row → is_before last row ≡ true → LieBefore (rows ++ last ∷ []) row
lie_before_more [] last row h e = (e, tt)
lie_before_more (first ∷ rows) last row h e = (h.0, lie_before_more rows last row h.1 e)

lie_before_later : (rows : List RampRow) (row later : RampRow) → LieBefore rows row → is_before row later ≡ true → LieBefore rows later
lie_before_later [] row later h e = tt
lie_before_later (first ∷ rows) row later h e = (before_through first row later h.0 e, lie_before_later rows row later h.1 e)

-- ---- what lies behind rows that come before
row_behind : (done rest : List RampRow) (row : RampRow) → LieBefore done row → row_of (done ++ rest) row.g row.t ≡ row_of rest row.g row.t
row_behind [] rest row h = refl
row_behind (first ∷ done) rest row h = rw (other_before first row h.0) (row_behind done rest row h.1)

with_behind : (done rest : List RampRow) (row : RampRow) → LieBefore done row → with_row (done ++ rest) row ≡ done ++ with_row rest row
with_behind [] rest row h = refl
with_behind (first ∷ done) rest row h = rw h.0 (ap (λ rows. first ∷ rows) (with_behind done rest row h.1))

-- ---- the row at the front of rising rows none of which comes before it
-- it comes before all of them, so it isn't there
absent : (first : RampRow) (rows : List RampRow) (row : RampRow) → AreRising (first ∷ rows) → is_before row first ≡ true → row_of (first ∷ rows) row.g row.t ≡ no_row row
absent first [] row rising e = rw (other_behind first row e) refl
absent first (next ∷ rows) row rising e =
    let rises = before_from first next (rising 0 first (omega arith)) in
    rw (other_behind first row e) (absent next rows row (rising_behind first (next ∷ rows) rising) (before_through row first next e rises))

pub no_cell : (rows : List RampRow) (row d : RampRow) → AreRising rows → 0 < length rows → is_before row (get_or rows 0 d) ≡ true → no_row row ≡ row_of rows row.g row.t
no_cell [] row d rising some e = absurd (omega arith)
no_cell (first ∷ rows) row d rising some e = sym (absent first rows row rising e)

pub rising_rest : (rows : List RampRow) → AreRising rows → AreRising (take (length rows - 1) (drop 1 rows))
rising_rest rows rising = subst AreRising (sym (take_rest rows 1)) (by_first rows rising)
  where
    by_first : (rows : List RampRow) → AreRising rows → AreRising (drop 1 rows)
    by_first [] rising = λ i d lt. absurd (omega arith)
    by_first (first ∷ rows) rising = rising_behind first rows rising

-- ---- setting a row
placed_before : (row : RampRow) (rows : List RampRow) → placed row rows ≡ placed row [] ++ rows
placed_before row rows = grind arith

placed_later : (row later : RampRow) (rows : List RampRow) → LieBefore rows later → is_before row later ≡ true → LieBefore (rows ++ placed row []) later
placed_later row later rows h e = grind (arith, append-nil, lie_before_more, h, e)

-- a look-up after rows were passed
pub found_behind : (done left now rest : List RampRow) (row : RampRow) → IsPassed done left row now rest → row_of (done ++ left) row.g row.t ≡ row_of rest row.g row.t
found_behind done left now rest row h = ap (λ rows. row_of rows row.g row.t) (sym h.same) ∙ row_behind now rest row h.before

pub row_set : (done left now rest grown behind : List RampRow) (row : RampRow) → IsPassed done left row now rest → differs (row_of rest row.g row.t) row ≡ true
    → with_row rest row ≡ placed row behind → AreRising behind → grown ≡ now ++ placed row [] → IsRowSet done left row grown behind
row_set done left now rest grown behind row h other set rising grows =
    grind (arith, with_behind, placed_before, append_assoc, found_behind, placed_later, lie_before_later, h, other, set, rising, grows)
