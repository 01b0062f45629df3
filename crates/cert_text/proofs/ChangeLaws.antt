-- A table that is told by its difference to the one before it: the changes that are written make it of that one, and of a table that
-- changes make these are written and no others.
use Rattle.std.proofs.Common.{◌≡◌, ℕ, suc, ◌+◌, ◌*◌, ◌^◌, ◌<◌, ◌≤◌, List, [], ◌∷◌, ◌++◌, length, map, ℤ, pos, negsuc, ◌≤ℤ◌, unsigned_abs, refl, sym, ap, subst, ◌∙◌, arith, All, Option, Some, None, IfSome}
use Rattle.std.specs.List.{AllByRecursion as Each}
use Rattle.std.proofs.lemmas.List.Elements.{recursion_from_All, All-from_recursion}
use Rattle.std.proofs.lemmas.Int.{ints}
use Rattle.dual_model.specs.Prelude.{IsRowBefore, IsRowWithin}
use Rattle.table_list.specs.Changes.{Table, RampRow, Change, OfDemand, OfReserve, OfRamps, no_row, changed, all_changed, row_changes, table_changes}
use Rattle.cert_text.specs.TextConditions.{HasDigits, IsRampText, IsTableText}
use Rattle.cert_text.specs.Grammar.{Sizes, AreSizes, rescaled, ComesBefore, IsChangeWithin, IsChangeAfter}
use Rattle.cert_text.specs.inside.Parts.{AreChanges}
use Rattle.table_list.proofs.RowChanges.{Rise, IsPresent, AreOthers, with_rows, each_as, each_behind, each_change, each_with_rows, rise_from, rising_from, rise_with_rows, rows_few, rows_found, rows_made}
use Rattle.table_list.proofs.PriceChanges.{prices_told, with_prices, as_pairs}
use Rattle.table_list.proofs.TableChanges.{demand_change, reserve_change, told_changes, told_table, told_change}
use Rattle.cert_text.proofs.PriceChanges.{ArePriceChanges, none_past, length_prices, digits_prices, prices_found, prices_made}

-- ---- Changes that may stand are some of demand, of reserve and of ramps.
-- the first period whose price may change behind that change, where there is one; and the last row before
abbrev demand_from : ℕ → Option Change → ℕ
demand_from periods None = 0
demand_from periods (Some (OfDemand t price)) = suc t
demand_from periods (Some (OfReserve t price)) = periods
demand_from periods (Some (OfRamps row)) = periods

abbrev reserve_from : ℕ → Option Change → ℕ
reserve_from periods None = 0
reserve_from periods (Some (OfDemand t price)) = 0
reserve_from periods (Some (OfReserve t price)) = suc t
reserve_from periods (Some (OfRamps row)) = periods

abbrev last_row : Option Change → Option RampRow
last_row None = None
last_row (Some (OfDemand t price)) = None
last_row (Some (OfReserve t price)) = None
last_row (Some (OfRamps row)) = Some row

abbrev IsRowChange : Sizes → RampRow → Type 0
IsRowChange size row = IsChangeWithin size (OfRamps row)

record IsTold (size : Sizes) (table : Table) (last : Option Change) (changes : List Change) : Type 0 where
  demand : List (ℕ × ℤ)
  reserve : List (ℕ × ℤ)
  rows : List RampRow
  whole : changes ≡ told_changes demand reserve rows
  demand_may : ArePriceChanges size.periods (demand_from size.periods last) table.pi demand
  reserve_may : ArePriceChanges size.periods (reserve_from size.periods last) table.mu reserve
  within : Each (IsRowChange size) rows
  rise : Rise rows
  others : AreOthers table.ramps rows
  behind : IfSome (last_row last) (λ earlier. Each (IsRowBefore earlier) rows)

-- what stands before a change of demand, of reserve and of ramps
before_demand : (periods : ℕ) (last : Option Change) (t : ℕ) (price : ℤ) → IfSome last (λ earlier. ComesBefore earlier (OfDemand t price))
    → (demand_from periods last ≤ t) × (reserve_from periods last ≡ 0) × (last_row last ≡ None)
before_demand periods None t price rises = (omega arith, refl, refl)
before_demand periods (Some (OfDemand u other)) t price rises = (rises, refl, refl)
before_demand periods (Some (OfReserve u other)) t price rises = absurd rises
before_demand periods (Some (OfRamps row)) t price rises = absurd rises

before_reserve : (periods : ℕ) (last : Option Change) (t : ℕ) (price : ℤ) → IfSome last (λ earlier. ComesBefore earlier (OfReserve t price))
    → (reserve_from periods last ≤ t) × (last_row last ≡ None)
before_reserve periods None t price rises = (omega arith, refl)
before_reserve periods (Some (OfDemand u other)) t price rises = (omega arith, refl)
before_reserve periods (Some (OfReserve u other)) t price rises = (rises, refl)
before_reserve periods (Some (OfRamps row)) t price rises = absurd rises

before_ramps : (last : Option Change) (row : RampRow) (rows : List RampRow) → IfSome last (λ earlier. ComesBefore earlier (OfRamps row)) → Each (IsRowBefore row) rows
    → IfSome (last_row last) (λ earlier. Each (IsRowBefore earlier) (row ∷ rows))
before_ramps None row rows rises each = tt
before_ramps (Some (OfDemand u other)) row rows rises each = tt
before_ramps (Some (OfReserve u other)) row rows rises each = tt
before_ramps (Some (OfRamps earlier)) row rows rises each = (rises, each_behind earlier row rows rises each)

no_rows : (before : Option RampRow) → IfSome before (λ earlier. Each (IsRowBefore earlier) [])
no_rows None = tt
no_rows (Some row) = tt

-- no row is before any
none_before : (before : Option RampRow) (rows : List RampRow) → before ≡ None → IfSome before (λ earlier. Each (IsRowBefore earlier) rows)
none_before before rows e = subst (λ (before : Option RampRow). IfSome before (λ earlier. Each (IsRowBefore earlier) rows)) (sym e) tt

demand_told : (size : Sizes) (table : Table) (last : Option Change) (t : ℕ) (price : ℤ) (changes : List Change) → IsChangeAfter size table last (OfDemand t price)
    → IsTold size (changed table (OfDemand t price)) (Some (OfDemand t price)) changes → IsTold size table last (OfDemand t price ∷ changes)
demand_told size table last t price changes h more =
    let before = before_demand size.periods last t price h.rises in
    record {
      demand = (t, price) ∷ more.demand;
      reserve = more.reserve;
      rows = more.rows;
      whole = ap (λ (changes : List Change). OfDemand t price ∷ changes) more.whole;
      demand_may = (record { within = h.within.0; written = h.within.1; rises = before.0; changes = h.changes }, more.demand_may);
      reserve_may = subst (λ (from : ℕ). ArePriceChanges size.periods from table.mu more.reserve) (sym before.1) more.reserve_may;
      within = more.within;
      rise = more.rise;
      others = more.others;
      behind = none_before (last_row last) more.rows before.2;
    }

reserve_told : (size : Sizes) (table : Table) (last : Option Change) (t : ℕ) (price : ℤ) (changes : List Change) → IsChangeAfter size table last (OfReserve t price)
    → IsTold size (changed table (OfReserve t price)) (Some (OfReserve t price)) changes → IsTold size table last (OfReserve t price ∷ changes)
reserve_told size table last t price changes h more =
    let before = before_reserve size.periods last t price h.rises in
    let none : more.demand ≡ [] = none_past size.periods table.pi more.demand more.demand_may in
    record {
      demand = [];
      reserve = (t, price) ∷ more.reserve;
      rows = more.rows;
      whole = ap (λ (changes : List Change). OfReserve t price ∷ changes) (more.whole ∙ ap (λ (demand : List (ℕ × ℤ)). told_changes demand more.reserve more.rows) none);
      demand_may = tt;
      reserve_may = (record { within = h.within.0; written = h.within.1; rises = before.0; changes = h.changes }, more.reserve_may);
      within = more.within;
      rise = more.rise;
      others = more.others;
      behind = none_before (last_row last) more.rows before.1;
    }

ramps_told : (size : Sizes) (table : Table) (last : Option Change) (row : RampRow) (changes : List Change) → IsChangeAfter size table last (OfRamps row)
    → IsTold size (changed table (OfRamps row)) (Some (OfRamps row)) changes → IsTold size table last (OfRamps row ∷ changes)
ramps_told size table last row changes h more =
    let no_demand : more.demand ≡ [] = none_past size.periods table.pi more.demand more.demand_may in
    let no_reserve : more.reserve ≡ [] = none_past size.periods table.mu more.reserve more.reserve_may in
    record {
      demand = [];
      reserve = [];
      rows = row ∷ more.rows;
      whole = ap (λ (changes : List Change). OfRamps row ∷ changes) (more.whole ∙ (λ i. told_changes (no_demand i) (no_reserve i) more.rows));
      demand_may = tt;
      reserve_may = tt;
      within = (h.within, more.within);
      rise = (more.behind, more.rise);
      others = (h.changes, more.others);
      behind = before_ramps last row more.rows h.rises more.behind;
    }

told : (size : Sizes) (table : Table) (last : Option Change) (changes : List Change) → AreChanges size table last changes → IsTold size table last changes
told size table last [] h = record {
  demand = [];
  reserve = [];
  rows = [];
  whole = refl;
  demand_may = tt;
  reserve_may = tt;
  within = tt;
  rise = tt;
  others = tt;
  behind = no_rows (last_row last);
}
told size table last (OfDemand t price ∷ changes) h = demand_told size table last t price changes h.0 (told size (changed table (OfDemand t price)) (Some (OfDemand t price)) changes h.1)
told size table last (OfReserve t price ∷ changes) h = reserve_told size table last t price changes h.0 (told size (changed table (OfReserve t price)) (Some (OfReserve t price)) changes h.1)
told size table last (OfRamps row ∷ changes) h = ramps_told size table last row changes h.0 (told size (changed table (OfRamps row)) (Some (OfRamps row)) changes h.1)

-- ---- And such ones may stand.
-- a change of ramps may stand behind each of these
abbrev IsBeforeRows : Option Change → RampRow → Type 0
IsBeforeRows last row = IfSome last (λ earlier. ComesBefore earlier (OfRamps row))

rows_stand : (size : Sizes) (table : Table) (last : Option Change) (rows : List RampRow) → Each (IsBeforeRows last) rows → Each (IsRowChange size) rows → Rise rows → AreOthers table.ramps rows
    → AreChanges size table last (map OfRamps rows)
rows_stand size table last [] first within rise others = tt
rows_stand size table last (row ∷ rows) first within rise others = (
  record { within = within.0; rises = first.0; changes = others.0 },
  rows_stand size (changed table (OfRamps row)) (Some (OfRamps row)) rows
      (each_as (IsRowBefore row) (IsBeforeRows (Some (OfRamps row))) (λ next h. h) rows rise.0) within.1 rise.1 others.1,
)

-- a change of a price, or none
abbrev IsPrice : Option Change → Type 0
IsPrice None = Unit {0}
IsPrice (Some (OfDemand t price)) = Unit {0}
IsPrice (Some (OfReserve t price)) = Unit {0}
IsPrice (Some (OfRamps row)) = ⊥

before_rows : (last : Option Change) (rows : List RampRow) → IsPrice last → Each (IsBeforeRows last) rows
before_rows last [] h = tt
before_rows last (row ∷ rows) h = (first last h, before_rows last rows h)
  where
    first : (last : Option Change) → IsPrice last → IsBeforeRows last row
    first None h = tt
    first (Some (OfDemand t price)) h = tt
    first (Some (OfReserve t price)) h = tt
    first (Some (OfRamps earlier)) h = absurd h

-- a change of reserve from that period on may stand behind it
abbrev IsBeforeReserve : Option Change → ℕ → Type 0
IsBeforeReserve last from = (t : ℕ) (price : ℤ) → from ≤ t → IfSome last (λ earlier. ComesBefore earlier (OfReserve t price))

reserve_stands : (size : Sizes) (table : Table) (last : Option Change) (from : ℕ) (reserve : List (ℕ × ℤ)) (others : List Change) → IsPrice last → IsBeforeReserve last from
    → ArePriceChanges size.periods from table.mu reserve → ((last : Option Change) → IsPrice last → AreChanges size (told_table table [] reserve []) last others)
    → AreChanges size table last (map reserve_change reserve ++ others)
reserve_stands size table last from [] others price first may behind = behind last price
reserve_stands size table last from (p ∷ reserve) others price first may behind = (
  record { within = (may.0.within, may.0.written); rises = first p.0 p.1 may.0.rises; changes = may.0.changes },
  reserve_stands size (changed table (reserve_change p)) (Some (reserve_change p)) (suc p.0) reserve others tt (λ t price h. h) may.1 behind,
)

-- a change of demand, or none
abbrev IsDemand : Option Change → Type 0
IsDemand None = Unit {0}
IsDemand (Some (OfDemand t price)) = Unit {0}
IsDemand (Some (OfReserve t price)) = ⊥
IsDemand (Some (OfRamps row)) = ⊥

demand_is_price : (last : Option Change) → IsDemand last → IsPrice last
demand_is_price None h = tt
demand_is_price (Some (OfDemand t price)) h = tt
demand_is_price (Some (OfReserve t price)) h = absurd h
demand_is_price (Some (OfRamps row)) h = absurd h

reserve_behind : (last : Option Change) → IsDemand last → IsBeforeReserve last 0
reserve_behind None h t price from = tt
reserve_behind (Some (OfDemand u other)) h t price from = tt
reserve_behind (Some (OfReserve u other)) h t price from = absurd h
reserve_behind (Some (OfRamps row)) h t price from = absurd h

demand_stands : (size : Sizes) (table : Table) (last : Option Change) (from : ℕ) (demand : List (ℕ × ℤ)) (others : List Change) → IsDemand last
    → ((t : ℕ) (price : ℤ) → from ≤ t → IfSome last (λ earlier. ComesBefore earlier (OfDemand t price)))
    → ArePriceChanges size.periods from table.pi demand → ((last : Option Change) → IsDemand last → AreChanges size (told_table table demand [] []) last others)
    → AreChanges size table last (map demand_change demand ++ others)
demand_stands size table last from [] others is_demand first may behind = behind last is_demand
demand_stands size table last from (p ∷ demand) others is_demand first may behind = (
  record { within = (may.0.within, may.0.written); rises = first p.0 p.1 may.0.rises; changes = may.0.changes },
  demand_stands size (changed table (demand_change p)) (Some (demand_change p)) (suc p.0) demand others tt (λ t price h. h) may.1 behind,
)

told_stands : (size : Sizes) (table : Table) (demand reserve : List (ℕ × ℤ)) (rows : List RampRow) → ArePriceChanges size.periods 0 table.pi demand → ArePriceChanges size.periods 0 table.mu reserve
    → Each (IsRowChange size) rows → Rise rows → AreOthers table.ramps rows → AreChanges size table None (told_changes demand reserve rows)
told_stands size table demand reserve rows demand_may reserve_may within rise others =
    demand_stands size table None 0 demand (map reserve_change reserve ++ map OfRamps rows) tt (λ t price h. tt) demand_may
    (λ last is_demand. reserve_stands size (told_table table demand [] []) last 0 reserve (map OfRamps rows) (demand_is_price last is_demand) (reserve_behind last is_demand) reserve_may
    (λ last price. rows_stand size (told_table table demand reserve []) last rows (before_rows last rows price) within rise others))

-- ---- Of a table that changes make, these are written.
pub changes_found : (size : Sizes) (before : Table) (k : ℕ) (changes : List Change) → IsTableText size.periods size.thermal before → AreChanges size (rescaled before k) None changes
    → table_changes before (all_changed (rescaled before k) changes) ≡ changes
changes_found size before k changes text h =
    grind (arith, ints, told, as_pairs, with_prices, demand_change, prices_found, reserve_change, rows_found, rise_from, told_change, text, h)

-- ---- What is written of two tables may stand, and makes the second of the first.
natural : (k : ℤ) → pos 0 ≤ℤ k → pos (unsigned_abs k) ≡ k
natural (pos n) h = refl
natural (negsuc n) h = absurd (omega (arith, ints))

record IsTableRow (size : Sizes) (row : RampRow) : Type 0 where
  within : IsRowChange size row
  present : IsPresent row

table_rows : (size : Sizes) (table : Table) → IsTableText size.periods size.thermal table → Each (IsTableRow size) table.ramps
table_rows size table text = grind (arith, ints, recursion_from_All, text)

pub changes_make : (size : Sizes) (before after : Table) → IsTableText size.periods size.thermal before → IsTableText size.periods size.thermal after
    → AreChanges size (rescaled before (unsigned_abs after.k)) None (table_changes before after)
    × (all_changed (rescaled before (unsigned_abs after.k)) (table_changes before after) ≡ after)
changes_make size before after b a =
    let table = rescaled before (unsigned_abs after.k) in
    let demand = prices_told 0 before.pi after.pi in
    let reserve = prices_told 0 before.mu after.mu in
    let rows = row_changes before.ramps after.ramps in
    let whole : table_changes before after ≡ told_changes demand reserve rows =
    λ i. as_pairs OfDemand 0 before.pi after.pi i ++ (as_pairs OfReserve 0 before.mu after.mu i ++ map OfRamps rows) in
    let b_long : length before.mu ≡ size.periods = b.form.lengths ∙ b.periods_priced in
    let a_long : length after.mu ≡ size.periods = a.form.lengths ∙ a.periods_priced in
    let pi = prices_made before.pi after.pi (a.periods_priced ∙ sym b.periods_priced) (recursion_from_All (HasDigits 18) after.pi a.pi) in
    let mu = prices_made before.mu after.mu (a_long ∙ sym b_long) (recursion_from_All (HasDigits 18) after.mu a.mu) in
    let b_rows = table_rows size before b in
    let a_rows = table_rows size after a in
    let made = rows_made before.ramps after.ramps (rise_from before.ramps b.form.rising) (rise_from after.ramps a.form.rising)
    (each_as (IsTableRow size) IsPresent (λ row h. h.present) before.ramps b_rows) (each_as (IsTableRow size) IsPresent (λ row h. h.present) after.ramps a_rows) in
    let gone : Each (λ row. IsRowChange size (no_row row)) before.ramps =
    each_as (IsTableRow size) (λ row. IsRowChange size (no_row row)) (λ row h. (h.within.0, h.within.1, record { up = omega arith; down = omega arith })) before.ramps b_rows in
    let within = each_change (IsRowChange size) before.ramps after.ramps gone (each_as (IsTableRow size) (IsRowChange size) (λ row h. h.within) after.ramps a_rows) in
    let pi_may = subst (λ (n : ℕ). ArePriceChanges n 0 before.pi demand) b.periods_priced pi.may in
    let mu_may = subst (λ (n : ℕ). ArePriceChanges n 0 before.mu reserve) b_long mu.may in
    let scale = natural after.k a.form.scale in
    let units : before.units ≡ after.units = b.units ∙ sym a.units in (
      subst (AreChanges size table None) (sym whole) (told_stands size table demand reserve rows pi_may mu_may within made.rise made.others),
      ap (all_changed table) whole ∙ told_change table demand reserve rows ∙ (λ i. record { units = units i; k = scale i; pi = pi.make i; mu = mu.make i; ramps = made.make i }),
    )

-- ---- A table that changes make has a text where the one before it has.
told_text : (size : Sizes) → AreSizes size → (before : Table) (k : ℕ) (demand reserve : List (ℕ × ℤ)) (rows : List RampRow) → IsTableText size.periods size.thermal before → k < 10 ^ 18
    → ArePriceChanges size.periods 0 before.pi demand → ArePriceChanges size.periods 0 before.mu reserve → Each (IsRowChange size) rows
    → IsTableText size.periods size.thermal (told_table (rescaled before k) demand reserve rows)
told_text size lawful before k demand reserve rows text small demand_may reserve_may within =
    let news = with_rows before.ramps rows in
    let each : Each (IsTableRow size) news = each_with_rows (IsTableRow size) before.ramps rows (table_rows size before text)
    (each_as (IsRowChange size) (λ row. IsPresent row → IsTableRow size row) (λ row h present. record { within = h; present = present }) rows within) in
    let rise : Rise news = rise_with_rows before.ramps rows (rise_from before.ramps text.form.rising) in
    let few = rows_few size.thermal size.periods lawful.thermal lawful.periods news
    (each_as (IsTableRow size) (λ row. (row.g < size.thermal) × (row.t < size.periods)) (λ row h. (h.within.0, h.within.1)) news each) rise in
    let long : length (with_prices before.pi demand) ≡ size.periods = length_prices before.pi demand ∙ text.periods_priced in
    let inside : All (IsRowWithin size.thermal size.periods) news =
    All-from_recursion (IsRowWithin size.thermal size.periods) news
    (each_as (IsTableRow size) (IsRowWithin size.thermal size.periods) (λ row h. record { unit = h.within.0; period = h.within.1; present = h.present }) news each) in
    let priced : All (IsRowWithin size.thermal (length (with_prices before.pi demand))) news =
    subst (λ (n : ℕ). All (IsRowWithin size.thermal n) news) (sym long) inside in
    record {
      form = grind (arith, ints, length_prices, with_prices, rising_from, before, reserve, text, demand, rows, news, priced, rise);
      units = text.units;
      periods_priced = long;
      scale = small;
      pi = digits_prices size.periods 0 before.pi demand text.pi demand_may;
      mu = digits_prices size.periods 0 before.mu reserve text.mu reserve_may;
      rows = omega (arith, few);
      ramps = All-from_recursion IsRampText news (each_as (IsTableRow size) IsRampText (λ row h. h.within.2) news each);
    }

pub changed_is_text : (size : Sizes) → AreSizes size → (before : Table) (k : ℕ) (changes : List Change) → IsTableText size.periods size.thermal before → k < 10 ^ 18
    → AreChanges size (rescaled before k) None changes
    → IsTableText size.periods size.thermal (all_changed (rescaled before k) changes) × ((all_changed (rescaled before k) changes).k ≡ pos k)
changed_is_text size lawful before k changes text small h =
    let is = told size (rescaled before k) None changes h in
    let whole : all_changed (rescaled before k) changes ≡ told_table (rescaled before k) is.demand is.reserve is.rows =
    ap (all_changed (rescaled before k)) is.whole ∙ told_change (rescaled before k) is.demand is.reserve is.rows in (
      subst (IsTableText size.periods size.thermal) (sym whole) (told_text size lawful before k is.demand is.reserve is.rows text small is.demand_may is.reserve_may is.within),
      ap (λ (table : Table). table.k) whole,
    )

-- ---- Changes of a table are few.
-- the place of a change among all that there could be
abbrev place : Change → ℕ
place (OfDemand t price) = t
place (OfReserve t price) = 168 + t
place (OfRamps row) = 336 + (168 * row.g + row.t)

place_rises : (size : Sizes) → AreSizes size → (first second : Change) → IsChangeWithin size first → ComesBefore first second → place first < place second
place_rises size lawful (OfDemand t price) (OfDemand u other) within before = before
place_rises size lawful (OfDemand t price) (OfReserve u other) within before = omega (arith, within.0, lawful.periods)
place_rises size lawful (OfDemand t price) (OfRamps row) within before = omega (arith, within.0, lawful.periods)
place_rises size lawful (OfReserve t price) (OfDemand u other) within before = absurd before
place_rises size lawful (OfReserve t price) (OfReserve u other) within before = omega (arith, before)
place_rises size lawful (OfReserve t price) (OfRamps row) within before = omega (arith, within.0, lawful.periods)
place_rises size lawful (OfRamps row) (OfDemand u other) within before = absurd before
place_rises size lawful (OfRamps row) (OfReserve u other) within before = absurd before
place_rises size lawful (OfRamps row) (OfRamps later) within before = grind (arith, ints, lawful, row, later, within, before)

place_within : (size : Sizes) → AreSizes size → (change : Change) → IsChangeWithin size change → place change < 688464
place_within size lawful (OfDemand t price) within = omega (arith, within.0, lawful.periods)
place_within size lawful (OfReserve t price) within = omega (arith, within.0, lawful.periods)
place_within size lawful (OfRamps row) within = omega (arith, within.0, within.1, lawful.periods, lawful.thermal)

few_behind : (size : Sizes) → AreSizes size → (table : Table) (last : Change) (changes : List Change) → IsChangeWithin size last → AreChanges size table (Some last) changes
    → place last + suc (length changes) ≤ 688464
few_behind size lawful table last [] within h = omega (arith, place_within size lawful last within)
few_behind size lawful table last (change ∷ changes) within h =
    omega (arith, few_behind size lawful (changed table change) change changes h.0.within h.1, place_rises size lawful last change within h.0.rises)

pub changes_few : (size : Sizes) → AreSizes size → (table : Table) (last : Option Change) (changes : List Change) → AreChanges size table last changes → length changes < 10 ^ 18
changes_few size lawful table last [] h = omega arith
changes_few size lawful table last (change ∷ changes) h = omega (arith, few_behind size lawful (changed table change) change changes h.0.within h.1)
