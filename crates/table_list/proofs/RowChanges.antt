-- Ramp rows and their changes: the changes that are written make the new rows of the old ones, and of changed rows these changes are
-- written and no others.
use Rattle.std.proofs.Common.{◌≡◌, ℕ, zero, suc, ◌+◌, ◌*◌, ◌<◌, ◌≤◌, ◌≢◌, ◌⊎◌, inl, inr, ⊎_elim, Bool, false, ◌&&◌, ◌==◌, List, [], ◌∷◌, ◌++◌, length, pos, refl, sym, ap, subst, ◌∙◌, arith}
use Rattle.std.specs.List.{AllByRecursion as Each}
use Rattle.std.specs.Bool.{Decides}
use Rattle.std.specs.Ordering.{int_eq}
use Rattle.std.proofs.lemmas.Bool.{cond-true, cond-false, cond_both, false_from_ne_true, and_left, and_right, ne_eqb, and_from, eq-eqb}
use Rattle.std.proofs.lemmas.Bool.Decides.{Decides-int_eq, Decides-and}
use Rattle.dual_model.specs.Prelude.{AreRising, IsRowBefore, row_of}
use Rattle.table_list.specs.Changes.{RampRow, is_before, is_none, placed, with_row, no_row, new_row, rows_from, row_changes}

-- ---- the order of rows
-- a row comes before another one, or behind it, or is of the same unit and period
data Order (first second : RampRow) : Type 0 where
  Before : IsRowBefore first second → Order first second
  Behind : IsRowBefore second first → Order first second
  Same : first.g ≡ second.g → first.t ≡ second.t → Order first second

order : (first second : RampRow) → Order first second
order first second = grind arith

numbers_rise : (g t h u i v : ℕ) → (g < h) ⊎ ((g ≡ h) × (t < u)) → (h < i) ⊎ ((h ≡ i) × (u < v)) → (g < i) ⊎ ((g ≡ i) × (t < v))
numbers_rise g t h u i v a b = grind arith

numbers_part : (g t h u : ℕ) → (g < h) ⊎ ((g ≡ h) × (t < u)) → (h < g) ⊎ ((h ≡ g) × (u < t)) → ⊥
numbers_part g t h u a b = grind arith

pub before_trans : (first second third : RampRow) → IsRowBefore first second → IsRowBefore second third → IsRowBefore first third
before_trans first second third h k = record { before = numbers_rise first.g first.t second.g second.t third.g third.t h.before k.before }

pub before_decides : (first second : RampRow) → Decides (is_before first second) (IsRowBefore first second)
before_decides first second = grind arith

is_behind : (first second : RampRow) → IsRowBefore second first → is_before first second ≡ false
is_behind first second h = false_from_ne_true (is_before first second) (λ e. numbers_part first.g first.t second.g second.t ((before_decides first second).0 e).before h.before)

-- a row is behind those before one of its unit and period, and before those behind it
same_before : (first second row : RampRow) → first.g ≡ second.g → first.t ≡ second.t → IsRowBefore second row → IsRowBefore first row
same_before first second row g t h = grind (arith, h)

pub is_beside : (first second : RampRow) → first.g ≡ second.g → first.t ≡ second.t → is_before first second ≡ false
is_beside first second g t = grind arith

pub each_as : (P Q : RampRow → Type 0) → ((row : RampRow) → P row → Q row) → (rows : List RampRow) → Each P rows → Each Q rows
each_as P Q f [] each = tt
each_as P Q f (row ∷ rows) each = (f row each.0, each_as P Q f rows each.1)

pub each_behind : (first second : RampRow) (rows : List RampRow) → IsRowBefore first second → Each (IsRowBefore second) rows → Each (IsRowBefore first) rows
each_behind first second rows h each = each_as (IsRowBefore second) (IsRowBefore first) (λ row k. before_trans first second row h k) rows each

each_beside : (first second : RampRow) (rows : List RampRow) → first.g ≡ second.g → first.t ≡ second.t → Each (IsRowBefore second) rows → Each (IsRowBefore first) rows
each_beside first second rows g t each = each_as (IsRowBefore second) (IsRowBefore first) (λ row k. same_before first second row g t k) rows each

-- each row comes before all those behind it
abbrev pub Rise : List RampRow → Type 0
Rise [] = Unit {0}
Rise (row ∷ rows) = Each (IsRowBefore row) rows × Rise rows

pub rise_from : (rows : List RampRow) → AreRising rows → Rise rows
rise_from [] rising = tt
rise_from (row ∷ rows) rising = (behind row rows rising, rise_from rows (λ i d lt. rising (suc i) d (omega arith)))
  where
    behind : (row : RampRow) (rows : List RampRow) → AreRising (row ∷ rows) → Each (IsRowBefore row) rows
    behind row [] rising = tt
    behind row (next ∷ rows) rising =
        let first : IsRowBefore row next = rising 0 row (omega arith) in
        (first, each_behind row next rows first (behind next rows (λ i d lt. rising (suc i) d (omega arith))))

pub rising_from : (rows : List RampRow) → Rise rows → AreRising rows
rising_from (row ∷ next ∷ rows) rise zero d lt = rise.0.0
rising_from (row ∷ next ∷ rows) rise (suc i) d lt = rising_from (next ∷ rows) rise.1 i d (omega arith)
rising_from _ rise i d lt = absurd (omega arith)

-- rows of few units and periods are few
abbrev IsIn : ℕ → ℕ → RampRow → Type 0
IsIn units periods row = (row.g < units) × (row.t < periods)

behind_few : (units periods : ℕ) → units ≤ 4096 → periods ≤ 168 → (row : RampRow) (rows : List RampRow) → IsIn units periods row → Each (IsIn units periods) rows
    → Each (IsRowBefore row) rows → Rise rows → 168 * row.g + row.t + suc (length rows) ≤ 688128
behind_few units periods some few row [] here within each rise = omega (arith, here.0, here.1)
behind_few units periods some few row (next ∷ rows) here within each rise =
    let more = behind_few units periods some few next rows within.0 within.1 rise.0 rise.1 in
    by_number each.0.before more
  where
    by_number : (row.g < next.g) ⊎ ((row.g ≡ next.g) × (row.t < next.t)) → 168 * next.g + next.t + suc (length rows) ≤ 688128
        → 168 * row.g + row.t + suc (suc (length rows)) ≤ 688128
    by_number (inl earlier) more = omega (arith, here.1)
    by_number (inr (same, earlier)) more = omega arith

pub rows_few : (units periods : ℕ) → units ≤ 4096 → periods ≤ 168 → (rows : List RampRow) → Each (IsIn units periods) rows → Rise rows → length rows ≤ 688128
rows_few units periods some few [] within rise = omega arith
rows_few units periods some few (row ∷ rows) within rise = omega (arith, behind_few units periods some few row rows within.0 within.1 rise.0 rise.1)

-- ---- the numbers of rows
abbrev pub Differs : RampRow → RampRow → Type 0
Differs old new = (old.up ≢ new.up) ⊎ (old.down ≢ new.down)

abbrev pub IsPresent : RampRow → Type 0
IsPresent row = Differs row (no_row row)

abbrev are_alike : RampRow → RampRow → Bool
are_alike old new = int_eq old.up new.up && int_eq old.down new.down

alike_decides : (old new : RampRow) → Decides (are_alike old new) ((old.up ≡ new.up) × (old.down ≡ new.down))
alike_decides old new = Decides-and _ _ (Decides-int_eq old.up new.up) (Decides-int_eq old.down new.down)

not_alike : (old new : RampRow) → Differs old new → are_alike old new ≡ false
not_alike old new differ = grind (arith, differ)

alike_or : (old new : RampRow) → ((old.up ≡ new.up) × (old.down ≡ new.down)) ⊎ Differs old new
alike_or old new = grind arith

differs_too : (old new : RampRow) → Differs old new → Differs new old
differs_too old new (inl up) = inl (λ same. up (sym same))
differs_too old new (inr down) = inr (λ same. down (sym same))

placed_some : (row : RampRow) (rows : List RampRow) → IsPresent row → placed row rows ≡ row ∷ rows
placed_some row rows present = cond-false _ _ _ (not_alike row (no_row row) present)

placed_none : (row : RampRow) (rows : List RampRow) → row.up ≡ pos 0 → row.down ≡ pos 0 → placed row rows ≡ rows
placed_none row rows up down = cond-true _ _ _ ((alike_decides row (no_row row)).1 (up, down))

-- ---- the row of a unit and a period
row_of_here : (row : RampRow) (rows : List RampRow) (g t : ℕ) → row.g ≡ g → row.t ≡ t → row_of (row ∷ rows) g t ≡ row
row_of_here row rows g t same at_t = cond-true _ _ _ (and_from _ _ (eq-eqb row.g g same) (eq-eqb row.t t at_t))

-- it is behind a row that comes before it
row_of_behind : (row other : RampRow) (rows : List RampRow) → IsRowBefore row other → row_of (row ∷ rows) other.g other.t ≡ row_of rows other.g other.t
row_of_behind row other rows h = grind (arith, h)

-- and none where all rows are behind it
row_of_none : (row : RampRow) (rows : List RampRow) → Each (IsRowBefore row) rows → row_of rows row.g row.t ≡ no_row row
row_of_none row [] each = refl
row_of_none row (next ∷ rows) each = cond-false _ _ _ (by_number each.0.before) ∙ row_of_none row rows each.1
  where
    by_number : (row.g < next.g) ⊎ ((row.g ≡ next.g) × (row.t < next.t)) → ((next.g == row.g) && (next.t == row.t)) ≡ false
    by_number (inl earlier) = and_left _ _ (ne_eqb next.g row.g (λ e. omega arith))
    by_number (inr (same, earlier)) = and_right _ _ (ne_eqb next.t row.t (λ e. omega arith))

-- ---- rows with a change
with_front : (first row : RampRow) (rows : List RampRow) → IsRowBefore first row → with_row (first ∷ rows) row ≡ first ∷ with_row rows row
with_front first row rows h = cond-true _ _ _ ((before_decides first row).1 h)

with_same : (first row : RampRow) (rows : List RampRow) → first.g ≡ row.g → first.t ≡ row.t → with_row (first ∷ rows) row ≡ placed row rows
with_same first row rows g t = cond-false _ _ _ (is_beside first row g t) ∙ cond-false _ _ _ (is_beside row first (sym g) (sym t))

with_new : (row : RampRow) (rows : List RampRow) → Each (IsRowBefore row) rows → with_row rows row ≡ placed row rows
with_new row [] each = refl
with_new row (first ∷ rows) each = cond-false _ _ _ (is_behind first row each.0) ∙ cond-true _ _ _ ((before_decides row first).1 each.0)

-- what holds of each row and of the change holds of each row then
each_with : (P : RampRow → Type 0) → (rows : List RampRow) (row : RampRow) → Each P rows → (IsPresent row → P row) → Each P (with_row rows row)
each_with P rows row each here = in_rows rows each
  where
    in_place : (rows : List RampRow) → Each P rows → Each P (placed row rows)
    in_place rows each = ⊎_elim
        (λ (none : (row.up ≡ pos 0) × (row.down ≡ pos 0)). subst (Each P) (sym (placed_none row rows none.0 none.1)) each)
        (λ (present : IsPresent row). subst (Each P) (sym (placed_some row rows present)) (here present, each))
        (alike_or row (no_row row))

    in_rows : (rows : List RampRow) → Each P rows → Each P (with_row rows row)
    in_rows [] each = in_place [] tt
    in_rows (first ∷ rows) each =
        cond_both (is_before first row) (first ∷ with_row rows row) _ (Each P) (λ e. (each.0, in_rows rows each.1))
        (λ e. cond_both (is_before row first) (placed row (first ∷ rows)) (placed row rows) (Each P) (λ f. in_place (first ∷ rows) each) (λ f. in_place rows each.1))

pub rise_with : (rows : List RampRow) (row : RampRow) → Rise rows → Rise (with_row rows row)
rise_with rows row rise = in_rows rows rise
  where
    in_place : (rows : List RampRow) → Each (IsRowBefore row) rows → Rise rows → Rise (placed row rows)
    in_place rows each rise = cond_both (is_none row) rows (row ∷ rows) Rise (λ e. rise) (λ e. (each, rise))

    by_order : (first : RampRow) (rows : List RampRow) → Order first row → Rise (first ∷ rows) → Rise (with_row rows row) → Rise (with_row (first ∷ rows) row)
    by_order first rows (Before h) rise more =
        subst Rise (sym (with_front first row rows h)) (each_with (IsRowBefore first) rows row rise.0 (λ present. h), more)
    by_order first rows (Behind h) rise more =
        let each : Each (IsRowBefore row) (first ∷ rows) = (h, each_behind row first rows h rise.0) in
        subst Rise (sym (with_new row (first ∷ rows) each)) (in_place (first ∷ rows) each rise)
    by_order first rows (Same g t) rise more =
        subst Rise (sym (with_same first row rows g t)) (in_place rows (each_beside row first rows (sym g) (sym t) rise.0) rise.1)

    in_rows : (rows : List RampRow) → Rise rows → Rise (with_row rows row)
    in_rows [] rise = in_place [] tt tt
    in_rows (first ∷ rows) rise = by_order first rows (order first row) rise (in_rows rows rise.1)

-- ---- and with several
abbrev pub with_rows : List RampRow → List RampRow → List RampRow
with_rows rows [] = rows
with_rows rows (row ∷ told) = with_rows (with_row rows row) told

-- each says another row than there is
abbrev pub AreOthers : List RampRow → List RampRow → Type 0
AreOthers rows [] = Unit {0}
AreOthers rows (row ∷ told) = Differs (row_of rows row.g row.t) row × AreOthers (with_row rows row) told

pub each_with_rows : (P : RampRow → Type 0) → (rows told : List RampRow) → Each P rows → Each (λ row. IsPresent row → P row) told → Each P (with_rows rows told)
each_with_rows P rows [] each here = each
each_with_rows P rows (row ∷ told) each here = each_with_rows P (with_row rows row) told (each_with P rows row each here.0) here.1

pub rise_with_rows : (rows told : List RampRow) → Rise rows → Rise (with_rows rows told)
rise_with_rows rows [] rise = rise
rise_with_rows rows (row ∷ told) rise = rise_with_rows (with_row rows row) told (rise_with rows row rise)

-- a row before all of the changes stays in front
stays : (first : RampRow) (rows told : List RampRow) → Each (IsRowBefore first) told → with_rows (first ∷ rows) told ≡ first ∷ with_rows rows told
stays first rows [] each = refl
stays first rows (row ∷ told) each = ap (λ rows. with_rows rows told) (with_front first row rows each.0) ∙ stays first (with_row rows row) told each.1

others_behind : (first : RampRow) (rows told : List RampRow) → Each (IsRowBefore first) told → AreOthers (first ∷ rows) told → AreOthers rows told
others_behind first rows [] each others = tt
others_behind first rows (row ∷ told) each others = (
  subst (λ (found : RampRow). Differs found row) (row_of_behind first row rows each.0) others.0,
  others_behind first (with_row rows row) told each.1 (subst (λ (rows : List RampRow). AreOthers rows told) (with_front first row rows each.0) others.1),
)

others_before : (first : RampRow) (rows told : List RampRow) → Each (IsRowBefore first) told → AreOthers rows told → AreOthers (first ∷ rows) told
others_before first rows [] each others = tt
others_before first rows (row ∷ told) each others = (
  subst (λ (found : RampRow). Differs found row) (sym (row_of_behind first row rows each.0)) others.0,
  subst (λ (rows : List RampRow). AreOthers rows told) (sym (with_front first row rows each.0)) (others_before first (with_row rows row) told each.1 others.1),
)

-- ---- the changes that are written of the rows behind an old one
from_new : (old new : RampRow) (behind : List RampRow → List RampRow) (news : List RampRow) → IsRowBefore new old → rows_from old behind (new ∷ news) ≡ new ∷ rows_from old behind news
from_new old new behind news h = cond-true _ _ _ ((before_decides new old).1 h)

from_gone : (old : RampRow) (behind : List RampRow → List RampRow) (news : List RampRow) → Each (IsRowBefore old) news → rows_from old behind news ≡ no_row old ∷ behind news
from_gone old behind [] each = refl
from_gone old behind (new ∷ news) each = cond-false _ _ _ (is_behind new old each.0) ∙ cond-true _ _ _ ((before_decides old new).1 each.0)

from_same : (old new : RampRow) (behind : List RampRow → List RampRow) (news : List RampRow) → old.g ≡ new.g → old.t ≡ new.t → rows_from old behind (new ∷ news) ≡ new_row old new ++ behind news
from_same old new behind news g t = cond-false _ _ _ (is_beside new old (sym g) (sym t)) ∙ cond-false _ _ _ (is_beside old new g t)

new_none : (old new : RampRow) → old.up ≡ new.up → old.down ≡ new.down → new_row old new ≡ []
new_none old new up down = cond-true _ _ _ ((alike_decides old new).1 (up, down))

new_some : (old new : RampRow) → Differs old new → new_row old new ≡ new ∷ []
new_some old new differ = cond-false _ _ _ (not_alike old new differ)

from_kept : (old new : RampRow) (behind : List RampRow → List RampRow) (news : List RampRow) → old.g ≡ new.g → old.t ≡ new.t → old.up ≡ new.up → old.down ≡ new.down
    → rows_from old behind (new ∷ news) ≡ behind news
from_kept old new behind news g t up down = from_same old new behind news g t ∙ ap (λ front. front ++ behind news) (new_none old new up down)

from_other : (old new : RampRow) (behind : List RampRow → List RampRow) (news : List RampRow) → old.g ≡ new.g → old.t ≡ new.t → Differs old new
    → rows_from old behind (new ∷ news) ≡ new ∷ behind news
from_other old new behind news g t differ = from_same old new behind news g t ∙ ap (λ front. front ++ behind news) (new_some old new differ)

-- what holds of each new row, and of a row of nothing in place of each old one, holds of each change
each_from : (P : RampRow → Type 0) → (old : RampRow) (behind : List RampRow → List RampRow) → ((news : List RampRow) → Each P news → Each P (behind news)) → P (no_row old) → (news : List RampRow)
    → Each P news → Each P (rows_from old behind news)
each_from P old behind more gone [] each = (gone, more [] tt)
each_from P old behind more gone (new ∷ news) each =
    cond_both (is_before new old) (new ∷ rows_from old behind news) _ (Each P) (λ e. (each.0, each_from P old behind more gone news each.1))
    (λ e. cond_both (is_before old new) (no_row old ∷ behind (new ∷ news)) (new_row old new ++ behind news) (Each P) (λ f. (gone, more (new ∷ news) each))
    (λ f. cond_both (are_alike old new) [] (new ∷ []) (λ front. Each P (front ++ behind news)) (λ h. more news each.1) (λ h. (each.0, more news each.1))))

pub each_change : (P : RampRow → Type 0) → (olds news : List RampRow) → Each (λ row. P (no_row row)) olds → Each P news → Each P (row_changes olds news)
each_change P [] news gone each = each
each_change P (old ∷ olds) news gone each = each_from P old (row_changes olds) (λ news each. each_change P olds news gone.1 each) gone.0 news each

before_changes : (first : RampRow) (olds news : List RampRow) → Each (IsRowBefore first) olds → Each (IsRowBefore first) news → Each (IsRowBefore first) (row_changes olds news)
before_changes first olds news each new = each_change (IsRowBefore first) olds news (each_as (IsRowBefore first) (λ row. IsRowBefore first (no_row row)) (λ row h. record { before = h.before }) olds each) new

-- ---- Of changed rows the changes are written.
abbrev AreFound : List RampRow → Type 0
AreFound olds = (told : List RampRow) → Rise told → AreOthers olds told → row_changes olds (with_rows olds told) ≡ told

-- an old row before all of them stays
found_behind : (old : RampRow) (olds told : List RampRow) → AreFound olds → Each (IsRowBefore old) told → Rise told → AreOthers (old ∷ olds) told
    → row_changes (old ∷ olds) (with_rows (old ∷ olds) told) ≡ told
found_behind old olds told found each rise others = grind (arith, stays, from_kept, others_behind, found, each, rise, others)

-- a new row comes before the old ones
put_new : (row : RampRow) (rows : List RampRow) → Each (IsRowBefore row) rows → IsPresent row → with_row rows row ≡ row ∷ rows
put_new row rows each present = with_new row rows each ∙ placed_some row rows present

present_if_other : (row : RampRow) (rows : List RampRow) → Each (IsRowBefore row) rows → Differs (row_of rows row.g row.t) row → IsPresent row
present_if_other row rows each differ = differs_too (no_row row) row (subst (λ (found : RampRow). Differs found row) (row_of_none row rows each) differ)

-- what is found behind a new row, where the rest is
abbrev IsFoundFrom : List RampRow → List RampRow → Type 0
IsFoundFrom rows told = row_changes rows (with_rows rows told) ≡ told

put_first : (row : RampRow) (rows told : List RampRow) → Each (IsRowBefore row) rows → Each (IsRowBefore row) told → IsPresent row
    → with_rows rows (row ∷ told) ≡ row ∷ with_rows rows told
put_first row rows told each later present = ap (λ rows. with_rows rows told) (put_new row rows each present) ∙ stays row rows told later

found_new : (old : RampRow) (olds : List RampRow) (row : RampRow) (told : List RampRow) → Each (IsRowBefore row) (old ∷ olds) → Each (IsRowBefore row) told → IsPresent row
    → IsFoundFrom (old ∷ olds) told → IsFoundFrom (old ∷ olds) (row ∷ told)
found_new old olds row told each later present more =
    ap (row_changes (old ∷ olds)) (put_first row (old ∷ olds) told each later present)
    ∙ from_new old row (row_changes olds) (with_rows (old ∷ olds) told) each.0 ∙ ap (λ told. row ∷ told) more

-- a row of the same unit and period takes the old one's place
found_gone : (old : RampRow) (olds : List RampRow) (row : RampRow) (told : List RampRow) → AreFound olds → Each (IsRowBefore old) olds → Each (IsRowBefore old) told → Rise told
    → old.g ≡ row.g → old.t ≡ row.t → row.up ≡ pos 0 → row.down ≡ pos 0 → AreOthers (with_row (old ∷ olds) row) told → IsFoundFrom (old ∷ olds) (row ∷ told)
found_gone old olds row told found behind later rise g t up down others =
    grind (arith, with_same, placed_none, each_with_rows, each_as, from_gone, found, behind, later, rise, others)

found_other : (old : RampRow) (olds : List RampRow) (row : RampRow) (told : List RampRow) → AreFound olds → Each (IsRowBefore row) told → Rise told
    → old.g ≡ row.g → old.t ≡ row.t → IsPresent row → Differs old row → AreOthers (with_row (old ∷ olds) row) told → IsFoundFrom (old ∷ olds) (row ∷ told)
found_other old olds row told found later rise g t present differ others =
    let put : with_row (old ∷ olds) row ≡ row ∷ olds = with_same old row olds g t ∙ placed_some row olds present in
    let more : row_changes olds (with_rows olds told) ≡ told =
    found told rise (others_behind row olds told later (subst (λ (rows : List RampRow). AreOthers rows told) put others)) in
    ap (λ rows. row_changes (old ∷ olds) (with_rows rows told)) put ∙ ap (row_changes (old ∷ olds)) (stays row olds told later)
    ∙ from_other old row (row_changes olds) (with_rows olds told) g t differ ∙ ap (λ told. row ∷ told) more

found_from : (old : RampRow) (olds : List RampRow) → AreFound olds → Each (IsRowBefore old) olds → AreFound (old ∷ olds)
found_from old olds found behind [] rise others = found_behind old olds [] found tt tt tt
found_from old olds found behind (row ∷ told) rise others = by_order (order old row) (found_from old olds found behind told rise.1)
  where
    same : old.g ≡ row.g → old.t ≡ row.t → IsFoundFrom (old ∷ olds) (row ∷ told)
    same g t = ⊎_elim
        (λ (none : (row.up ≡ pos 0) × (row.down ≡ pos 0)).
        found_gone old olds row told found behind (each_beside old row told g t rise.0) rise.1 g t none.0 none.1 others.1)
        (λ (present : IsPresent row).
        let differ : Differs old row = subst (λ (found : RampRow). Differs found row) (row_of_here old olds row.g row.t g t) others.0 in
        found_other old olds row told found rise.0 rise.1 g t present differ others.1)
        (alike_or row (no_row row))

    by_order : Order old row → (AreOthers (old ∷ olds) told → IsFoundFrom (old ∷ olds) told) → IsFoundFrom (old ∷ olds) (row ∷ told)
    by_order (Before h) more = found_behind old olds (row ∷ told) found (h, each_behind old row told h rise.0) rise others
    by_order (Behind h) more =
        let each : Each (IsRowBefore row) (old ∷ olds) = (h, each_behind row old olds h behind) in
        let present = present_if_other row (old ∷ olds) each others.0 in
        let rest : AreOthers (row ∷ old ∷ olds) told = subst (λ (rows : List RampRow). AreOthers rows told) (put_new row (old ∷ olds) each present) others.1 in
        found_new old olds row told each rise.0 present (more (others_behind row (old ∷ olds) told rise.0 rest))
    by_order (Same g t) more = same g t

found_none : (told : List RampRow) → Rise told → AreOthers [] told → with_rows [] told ≡ told
found_none [] rise others = refl
found_none (row ∷ told) rise others =
    let present = present_if_other row [] tt others.0 in
    let rest : AreOthers (row ∷ []) told = subst (λ (rows : List RampRow). AreOthers rows told) (put_new row [] tt present) others.1 in
    put_first row [] told tt rise.0 present ∙ ap (λ told. row ∷ told) (found_none told rise.1 (others_behind row [] told rise.0 rest))

-- changes that rise, each of which says another row than there is, are those that are written of the rows with them
pub rows_found : (rows told : List RampRow) → Rise rows → Rise told → AreOthers rows told → row_changes rows (with_rows rows told) ≡ told
rows_found [] told sorted rise others = found_none told rise others
rows_found (old ∷ olds) told sorted rise others = found_from old olds (λ told rise others. rows_found olds told sorted.1 rise others) sorted.0 told rise others

-- ---- The changes that are written make the new rows.
pub record AreChangesTo (olds news told : List RampRow) : Type 0 where
  pub rise : Rise told
  pub others : AreOthers olds told
  pub make : with_rows olds told ≡ news

made_kept : (old : RampRow) (olds news told : List RampRow) → Each (IsRowBefore old) told → AreChangesTo olds news told → AreChangesTo (old ∷ olds) (old ∷ news) told
made_kept old olds news told each h = grind (arith, others_before, stays, each, h)

made_new : (rows news : List RampRow) (row : RampRow) (told : List RampRow) → Each (IsRowBefore row) rows → Each (IsRowBefore row) told → IsPresent row → AreChangesTo rows news told
    → AreChangesTo rows (row ∷ news) (row ∷ told)
made_new rows news row told each later present h = grind (arith, row_of_none, differs_too, put_new, others_before, put_first, each, later, present, h)

made_gone : (old : RampRow) (olds news told : List RampRow) → Each (IsRowBefore old) told → IsPresent old → AreChangesTo olds news told → AreChangesTo (old ∷ olds) news (no_row old ∷ told)
made_gone old olds news told later present h = grind (arith, with_same, placed_none, each_as, row_of_here, later, present, h)

made_other : (old : RampRow) (olds news : List RampRow) (row : RampRow) (told : List RampRow) → old.g ≡ row.g → old.t ≡ row.t → Each (IsRowBefore row) told → IsPresent row → Differs old row
    → AreChangesTo olds news told → AreChangesTo (old ∷ olds) (row ∷ news) (row ∷ told)
made_other old olds news row told g t later present differ h =
    let put : with_row (old ∷ olds) row ≡ row ∷ olds = with_same old row olds g t ∙ placed_some row olds present in
    record {
      rise = (later, h.rise);
      others = grind (arith, row_of_here, others_before, row, old, olds, g, t, differ, told, put, later, h);
      make = ap (λ rows. with_rows rows told) put ∙ stays row olds told later ∙ ap (λ rows. row ∷ rows) h.make;
    }

abbrev AreMade : List RampRow → Type 0
AreMade olds = (news : List RampRow) → Rise news → Each IsPresent news → AreChangesTo olds news (row_changes olds news)

made_from : (old : RampRow) (olds : List RampRow) → AreMade olds → Each (IsRowBefore old) olds → IsPresent old → AreMade (old ∷ olds)
made_from old olds made behind here [] rise present = made_gone old olds [] (row_changes olds []) (before_changes old olds [] behind tt) here (made [] tt tt)
made_from old olds made behind here (new ∷ news) rise present = by_order (order old new) (made_from old olds made behind here news rise.1 present.1)
  where
    same : old.g ≡ new.g → old.t ≡ new.t → AreChangesTo (old ∷ olds) (new ∷ news) (row_changes (old ∷ olds) (new ∷ news))
    same g t =
        let each : Each (IsRowBefore old) news = each_beside old new news g t rise.0 in
        let later : Each (IsRowBefore old) (row_changes olds news) = before_changes old olds news behind each in
        let rest = made news rise.1 present.1 in
        ⊎_elim
        (λ (alike : (old.up ≡ new.up) × (old.down ≡ new.down)).
        let is : old ≡ new = λ i. record { g = g i; t = t i; up = alike.0 i; down = alike.1 i } in
        subst (AreChangesTo (old ∷ olds) (new ∷ news)) (sym (from_kept old new (row_changes olds) news g t alike.0 alike.1))
        (subst (λ (row : RampRow). AreChangesTo (old ∷ olds) (row ∷ news) (row_changes olds news)) is (made_kept old olds news (row_changes olds news) later rest)))
        (λ (differ : Differs old new).
        subst (AreChangesTo (old ∷ olds) (new ∷ news)) (sym (from_other old new (row_changes olds) news g t differ))
        (made_other old olds news new (row_changes olds news) g t (each_beside new old (row_changes olds news) (sym g) (sym t) later) present.0 differ rest))
        (alike_or old new)

    by_order : Order old new → AreChangesTo (old ∷ olds) news (row_changes (old ∷ olds) news) → AreChangesTo (old ∷ olds) (new ∷ news) (row_changes (old ∷ olds) (new ∷ news))
    by_order (Before h) rest =
        let each : Each (IsRowBefore old) (new ∷ news) = (h, each_behind old new news h rise.0) in
        subst (AreChangesTo (old ∷ olds) (new ∷ news)) (sym (from_gone old (row_changes olds) (new ∷ news) each))
        (made_gone old olds (new ∷ news) (row_changes olds (new ∷ news)) (before_changes old olds (new ∷ news) behind each) here (made (new ∷ news) rise present))
    by_order (Behind h) rest =
        let each : Each (IsRowBefore new) (old ∷ olds) = (h, each_behind new old olds h behind) in
        subst (AreChangesTo (old ∷ olds) (new ∷ news)) (sym (from_new old new (row_changes olds) news h))
        (made_new (old ∷ olds) news new (row_changes (old ∷ olds) news) each (before_changes new (old ∷ olds) news each rise.0) present.0 rest)
    by_order (Same g t) rest = same g t

made_none : AreMade []
made_none [] rise present = record { rise = tt; others = tt; make = refl }
made_none (new ∷ news) rise present = made_new [] news new news tt rise.0 present.0 (made_none news rise.1 present.1)

-- what is written of two lists of rows rises, says other rows than there are, and makes the new ones of the old ones
pub rows_made : (olds news : List RampRow) → Rise olds → Rise news → Each IsPresent olds → Each IsPresent news → AreChangesTo olds news (row_changes olds news)
rows_made [] news sorted rise old new = made_none news rise new
rows_made (row ∷ olds) news sorted rise old new = made_from row olds (λ news rise new. rows_made olds news sorted.1 rise old.1 new) sorted.0 old.0 news rise new
