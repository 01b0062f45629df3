-- How long the text of a certificate is at most, by how many tables and nodes it has. Each table but the first may be told by its difference
-- to the one before it, which names a row of either at most once.
use Rattle.std.proofs.Common.{◌≡◌, ◌∙◌, ℕ, suc, ◌+◌, ◌*◌, ◌/◌, ◌^◌, ◌<◌, ◌≤◌, Bool, true, false, All, List, [], ◌∷◌, ◌++◌, codes, length, map, refl, ap, arith, ℤ, pos, negsuc, unsigned_abs, Option, Some, None, IfSome, cond}
use Rattle.std.specs.Prelude.{sum_by}
use Rattle.std.proofs.Math.Nat.{suc-mul}
use Rattle.std.proofs.lemmas.List.{length-append}
use Rattle.std.proofs.lemmas.List.Elements.{All-nil, All-head, All-tail}
use Rattle.std.proofs.lemmas.List.Sums.{sum_by-cons}
use Rattle.uc_model.specs.Decimal.{minus_text, signed_text, whole_text}
use Rattle.uc_model.specs.Money.{money_text}
use Rattle.uc_model.proofs.DecimalText.{length-whole_text-le}
use Rattle.uc_model.proofs.MoneyText.{length-money_text}
use Rattle.dual_model.specs.Prelude.{Certificate, WrittenSchedule, Bound, Ray, Empty, IsRowWithin}
use Rattle.outside.specs.Lines.{joined, spaced, line, words_of, list_line}
use Rattle.table_list.specs.Changes.{Change, OfDemand, OfReserve, OfRamps, is_before, no_row, price_changes, row_changes, rows_from, table_changes}
use Rattle.cert_text.specs.declared.cert.Version.{Version}
use Rattle.cert_text.specs.declared.cert.Version.TheVariants.{First, Second, Third}
use Rattle.cert_text.specs.CertificateText.{Cell, Printed, Table, RampRow, TreeNode, LeafNode, SplitNode, Listing, certificate_lines, certificate_text, cell_text, change_line, claim_line, cost_line, end_line, has_price, listing_of, next_line, next_lines, node_line, over_words, penalty_line, plan_lines, prices_line, ramp_line, ramps_line, renewable_line, scale_line, schedule_lines, shed_line, short_line, shortage_lines, size_line, table_lines, tables_lines, thermal_line, told_from, told_lines, version_line}
use Rattle.command_runs.specs.Prelude.{most_certificate_bytes}
use Rattle.uc_check.specs.Accepting.{most_rows, IsLittle}
use Rattle.cert_text.specs.TextConditions.{AreShortagesText, HasDigits, HasText, IsCellText, IsMoney, IsNodeText, IsPowerRow, IsRampText, IsScheduleText, IsTableText, IsThermalRow}

-- ---- texts in their order
abbrev size : List (List ℕ) → ℕ
size texts = sum_by length texts

size-cons : (text : List ℕ) (texts : List (List ℕ)) → size (text ∷ texts) ≡ length text + size texts
size-cons text texts = sum_by-cons length text texts

size-append : (first second : List (List ℕ)) → size (first ++ second) ≡ size first + size second
size-append [] second = omega arith
size-append (text ∷ first) second =
    omega (arith, size-cons text (first ++ second), size-cons text first, size-append first second)

length-joined : (texts : List (List ℕ)) → length (joined texts) ≡ size texts
length-joined [] = refl
length-joined (text ∷ []) = omega (arith, size-cons text [])
length-joined (text ∷ (next ∷ texts)) =
    omega (arith, length-append text (joined (next ∷ texts)), size-cons text (next ∷ texts), length-joined (next ∷ texts))

-- where each text has at most so many bytes
size-map : {X : Type 0} (text : X → List ℕ) (P : X → Type 0) (most : ℕ) → ((x : X) → P x → length (text x) ≤ most) → (xs : List X) → All P xs
    → size (map text xs) ≤ length xs * most
size-map text P most each [] all = omega arith
size-map text P most each (x ∷ xs) all =
    omega (
      arith,
      size-cons (text x) (map text xs),
      each x (All-head P x xs all),
      size-map text P most each xs (All-tail P x xs all),
      suc-mul (length xs) most,
    )

length-words : {X : Type 0} (word : X → List ℕ) (P : X → Type 0) (most : ℕ) → ((x : X) → P x → length (word x) ≤ most) → (xs : List X) → All P xs
    → length (words_of word xs) ≤ length xs * suc most
length-words word P most each [] all = omega arith
length-words word P most each (x ∷ xs) all =
    omega (
      arith,
      length-append (32 ∷ word x) (words_of word xs),
      each x (All-head P x xs all),
      length-words word P most each xs (All-tail P x xs all),
      suc-mul (length xs) (suc most),
    )

-- a line of such words, of which there are at most so many
length-list_line : {X : Type 0} (first : List ℕ) (word : X → List ℕ) (P : X → Type 0) (most : ℕ) → ((x : X) → P x → length (word x) ≤ most)
    → (xs : List X) → All P xs → length (list_line first word xs) ≤ length first + length xs * suc most + 1
unfolding list_line
length-list_line first word P most each xs all =
    omega (
      arith,
      length-append first (words_of word xs ++ 10 ∷ []),
      length-append (words_of word xs) (10 ∷ []),
      length-words word P most each xs all,
    )

length-spaced : (words : List (List ℕ)) (rest : List ℕ) → length (spaced words rest) ≡ length words + size words + length rest
length-spaced [] rest = omega arith
length-spaced (word ∷ words) rest =
    omega (arith, length-append word (spaced words rest), size-cons word words, length-spaced words rest)

length-line : (first : List ℕ) (words : List (List ℕ)) → length (line first words) ≡ length first + length words + size words + 1
unfolding line
length-line first words = omega (arith, length-append first (spaced words (10 ∷ [])), length-spaced words (10 ∷ []))

-- lines of one word and of more
one_word : (first word : List ℕ) → length (line first (word ∷ [])) ≡ length first + length word + 2
one_word first word = omega (arith, length-line first (word ∷ []), size-cons word [])

two_words : (first word next : List ℕ) → length (line first (word ∷ next ∷ [])) ≡ length first + length word + length next + 3
two_words first word next = omega (arith, length-line first (word ∷ next ∷ []), size-cons word (next ∷ []), size-cons next [])

four_words : (first a b c d : List ℕ) → length (line first (a ∷ b ∷ c ∷ d ∷ [])) ≡ length first + length a + length b + length c + length d + 5
four_words first a b c d = grind (arith, length-line, size-cons)

-- ---- numbers
length-minus_text : (z : ℤ) → length (minus_text z) ≤ 1
length-minus_text (pos n) = omega arith
length-minus_text (negsuc n) = omega arith

length-signed_text : (digits : ℕ) (z : ℤ) → 0 < digits → HasDigits digits z → length (signed_text z) ≤ suc digits
unfolding signed_text
length-signed_text digits z some small =
    omega (
      arith,
      length-append (minus_text z) (whole_text (unsigned_abs z)),
      length-minus_text z,
      length-whole_text-le digits (unsigned_abs z) some small,
    )

length-cost : (z : ℤ) → IsMoney z → length (money_text z) ≤ 40
length-cost z small =
    let dollars : unsigned_abs z / 1000000 < 10 ^ 32 = omega (arith, small) in
    omega (arith, length-money_text z, length-minus_text z, length-whole_text-le 32 (unsigned_abs z / 1000000) (omega arith) dollars)

-- ---- the schedule
length-cell_text : (cell : Cell) → IsCellText cell → length (cell_text cell) ≤ 40
length-cell_text cell text = by_on cell.on refl
  where
    on_text : (output reserve category : List ℕ) → length output ≤ 16 → length reserve ≤ 16 → length category ≤ 3
        → length (joined (output ∷ codes ":" ∷ reserve ∷ codes ":" ∷ category ∷ [])) ≤ 40
    on_text output reserve category a b c =
        omega (
          arith,
          length-joined (output ∷ codes ":" ∷ reserve ∷ codes ":" ∷ category ∷ []),
          size-cons output (codes ":" ∷ reserve ∷ codes ":" ∷ category ∷ []),
          size-cons (codes ":") (reserve ∷ codes ":" ∷ category ∷ []),
          size-cons reserve (codes ":" ∷ category ∷ []),
          size-cons (codes ":") (category ∷ []),
          size-cons category [],
          a,
          b,
          c,
        )

    by_on : (on : Bool) → cell.on ≡ on → length (cell_text cell) ≤ 40
    by_on true e =
        let is = text.on e in
        rw e (on_text (signed_text cell.p) (signed_text cell.r) (whole_text cell.category) (length-signed_text 15 cell.p (omega arith) is.output)
        (length-signed_text 15 cell.r (omega arith) is.reserve) (length-whole_text-le 3 cell.category (omega arith) (omega (arith, is.category))))
    by_on false e = rw e (omega arith)

length-thermal_line : (periods : ℕ) → periods ≤ 168 → (row : List Cell) → IsThermalRow periods row → length (thermal_line row) ≤ 8000
length-thermal_line periods few row is =
    omega (arith, length-list_line (codes "t") cell_text IsCellText 40 length-cell_text row is.written, is.cells, few)

length-powers : (first : List ℕ) (periods : ℕ) → length first ≤ 1 → periods ≤ 168 → (row : List ℤ) → IsPowerRow periods row
    → length (list_line first signed_text row) ≤ 8000
length-powers first periods short few row is =
    omega (
      arith,
      length-list_line first signed_text (HasDigits 15) 16 (λ z small. length-signed_text 15 z (omega arith) small) row is.written,
      is.powers,
      few,
      short,
    )

size-shortages : (priced : Bool) (periods : ℕ) (printed : Printed) → periods ≤ 168 → AreShortagesText priced periods printed
    → size (shortage_lines priced printed) ≤ 16000
size-shortages false periods printed few is = omega arith
size-shortages true periods printed few is =
    omega (
      arith,
      size-cons (shed_line printed.shed) (short_line printed.short ∷ []),
      size-cons (short_line printed.short) [],
      length-powers (codes "d") periods (omega arith) few printed.shed is.shed,
      length-powers (codes "e") periods (omega arith) few printed.short is.short,
    )

length-cost_line : (cost : ℤ) (denominator : ℕ) → IsMoney cost → denominator ≤ 99 → length (cost_line cost denominator) ≤ 60
length-cost_line cost denominator money few =
    omega (
      arith,
      length-line (codes "schedule") (money_text cost ∷ over_words denominator),
      size-cons (money_text cost) (over_words denominator),
      length-cost cost money,
      over denominator few,
    )
  where
    words_few : (b : Bool) (text : List ℕ) → length text ≤ 2
        → length (cond b [] (codes "over" ∷ text ∷ [])) + size (cond b [] (codes "over" ∷ text ∷ [])) ≤ 8
    words_few true text short = omega arith
    words_few false text short = omega (arith, size-cons (codes "over") (text ∷ []), size-cons text [], short)

    over : (denominator : ℕ) → denominator ≤ 99 → length (over_words denominator) + size (over_words denominator) ≤ 8
    over denominator few = words_few _ (whole_text denominator) (length-whole_text-le 2 denominator (omega arith) (omega (arith, few)))

size-schedule : (version : Version) (priced : Bool) (periods thermal renewable : ℕ) (schedule : Option WrittenSchedule) → periods ≤ 168 → thermal ≤ 4096
    → renewable ≤ 4096 → IfSome schedule (IsScheduleText version priced periods thermal renewable) → size (schedule_lines priced schedule) ≤ 66000000
size-schedule version priced periods thermal renewable None few few_thermal few_renewable is =
    omega (arith, size-cons (line (codes "schedule none") []) [], length-line (codes "schedule none") [])
size-schedule version priced periods thermal renewable (Some written) few few_thermal few_renewable is =
    let printed = written.printed in
    let rows = map thermal_line printed.thermal in
    let others = map renewable_line printed.renewable in
    let missing = shortage_lines priced printed in
    omega (
      arith,
      size-cons (cost_line written.cost printed.denominator) (rows ++ (others ++ missing)),
      size-append rows (others ++ missing),
      size-append others missing,
      length-cost_line written.cost printed.denominator is.cost is.denominator.most,
      size-map thermal_line (IsThermalRow periods) 8000 (length-thermal_line periods few) printed.thermal is.cells,
      size-map renewable_line (IsPowerRow periods) 8000 (length-powers (codes "w") periods (omega arith) few) printed.renewable is.outputs,
      size-shortages priced periods printed few is.shortages,
      is.thermal_rows,
      is.renewable_rows,
      few_thermal,
      few_renewable,
    )

size-plan : (version : Version) (c : Listing) → HasText version c → size (plan_lines c.a c.b c.schedule) ≤ 66000100
size-plan version c h = by_price (has_price c.a c.b) refl
  where
    penalty : length (penalty_line c.a c.b) ≤ 100
    penalty =
        omega (
          arith,
          two_words (codes "penalty") (whole_text c.a) (whole_text c.b),
          length-whole_text-le 7 c.a (omega arith) (omega (arith, h.penalties.shed)),
          length-whole_text-le 7 c.b (omega arith) (omega (arith, h.penalties.short)),
        )

    few : size (schedule_lines (has_price c.a c.b) c.schedule) ≤ 66000000
    few = size-schedule version (has_price c.a c.b) c.periods c.thermal c.renewable c.schedule h.periods h.thermal h.renewable h.schedule

    by_price : (priced : Bool) → has_price c.a c.b ≡ priced → size (plan_lines c.a c.b c.schedule) ≤ 66000100
    by_price true e = rw e (omega (arith, size-cons (penalty_line c.a c.b) (schedule_lines true c.schedule), penalty, rw e at few))
    by_price false e = rw e (omega (arith, rw e at few))

-- ---- a table that is told whole
-- a row of a table of this size
record IsSized (thermal periods : ℕ) (row : RampRow) : Type 0 where
  within : IsRowWithin thermal periods row
  text : IsRampText row

-- how long a line of its numbers is
row_words : (thermal periods : ℕ) → thermal ≤ 4096 → periods ≤ 168 → (row : RampRow) → row.g < thermal → row.t < periods → IsRampText row
    → length (whole_text (suc row.g)) + length (whole_text (suc row.t)) + length (signed_text row.up) + length (signed_text row.down) ≤ 45
row_words thermal periods few_thermal few row unit period text =
    omega (
      arith,
      length-whole_text-le 4 (suc row.g) (omega arith) (omega (arith, few_thermal, unit)),
      length-whole_text-le 3 (suc row.t) (omega arith) (omega (arith, few, period)),
      length-signed_text 18 row.up (omega arith) text.up,
      length-signed_text 18 row.down (omega arith) text.down,
    )

length-prices_line : (first : List ℕ) (periods : ℕ) → length first ≤ 2 → periods ≤ 168 → (prices : List ℤ) → length prices ≡ periods
    → All (HasDigits 18) prices → length (prices_line first prices) ≤ 4000
length-prices_line first periods short few prices count digits =
    omega (
      arith,
      length-list_line first signed_text (HasDigits 18) 19 (λ z small. length-signed_text 18 z (omega arith) small) prices digits,
      count,
      few,
      short,
    )

-- a table of a text, with so few rows
record IsFew (periods thermal : ℕ) (table : Table) : Type 0 where
  text : IsTableText periods thermal table
  rows : length table.ramps ≤ most_rows

each_sized : (periods thermal : ℕ) (table : Table) → IsTableText periods thermal table → All (IsSized thermal periods) table.ramps
each_sized periods thermal table is k d within = grind (arith, is, k, d, within)

-- the most bytes of a table, however it is told
abbrev most_of_table : ℕ
most_of_table = 70206500

size-table : (periods thermal : ℕ) → periods ≤ 168 → thermal ≤ 4096 → (table : Table) → IsFew periods thermal table → size (table_lines table) ≤ most_of_table
size-table periods thermal few few_thermal table is =
    let rows = map ramp_line table.ramps in
    let mu = prices_line (codes "mu") table.mu in
    let pi = prices_line (codes "pi") table.pi in
    omega (
      arith,
      size-cons (scale_line table.k) (pi ∷ mu ∷ ramps_line table.ramps ∷ rows),
      size-cons pi (mu ∷ ramps_line table.ramps ∷ rows),
      size-cons mu (ramps_line table.ramps ∷ rows),
      size-cons (ramps_line table.ramps) rows,
      one_word (codes "table") (signed_text table.k),
      length-signed_text 18 table.k (omega arith) is.text.scale,
      length-prices_line (codes "pi") periods (omega arith) few table.pi is.text.periods_priced is.text.pi,
      length-prices_line (codes "mu") periods (omega arith) few table.mu (is.text.form.lengths ∙ is.text.periods_priced) is.text.mu,
      one_word (codes "ramps") (whole_text (length table.ramps)),
      length-whole_text-le 18 (length table.ramps) (omega arith) is.text.rows,
      size-map ramp_line (IsSized thermal periods) 54 row_line table.ramps (each_sized periods thermal table is.text),
      is.rows,
    )
  where
    row_line : (row : RampRow) → IsSized thermal periods row → length (ramp_line row) ≤ 54
    row_line row sized =
        omega (
          arith,
          four_words (codes "ramp") (whole_text (suc row.g)) (whole_text (suc row.t)) (signed_text row.up) (signed_text row.down),
          row_words thermal periods few_thermal few row sized.within.unit sized.within.period sized.text,
        )

-- ---- a table that is told by its changes
-- the change names a cell, or a period, and a number of so many digits
abbrev IsSmall : ℕ → ℕ → Change → Type 0
IsSmall thermal periods (OfDemand t price) = (t < periods) × HasDigits 18 price
IsSmall thermal periods (OfReserve t price) = (t < periods) × HasDigits 18 price
IsSmall thermal periods (OfRamps row) = (row.g < thermal) × (row.t < periods) × IsRampText row

length-price_line : (letter : List ℕ) (periods t : ℕ) (price : ℤ) → length letter ≡ 1 → periods ≤ 168 → (t < periods) × HasDigits 18 price
    → length (line letter (whole_text (suc t) ∷ signed_text price ∷ [])) ≤ 51
length-price_line letter periods t price one few small =
    omega (
      arith,
      one,
      two_words letter (whole_text (suc t)) (signed_text price),
      length-whole_text-le 3 (suc t) (omega arith) (omega (arith, few, small.0)),
      length-signed_text 18 price (omega arith) small.1,
    )

length-change_line : (thermal periods : ℕ) → thermal ≤ 4096 → periods ≤ 168 → (change : Change) → IsSmall thermal periods change
    → length (change_line change) ≤ 51
length-change_line thermal periods few_thermal few (OfDemand t price) small = length-price_line (codes "p") periods t price (omega arith) few small
length-change_line thermal periods few_thermal few (OfReserve t price) small = length-price_line (codes "m") periods t price (omega arith) few small
length-change_line thermal periods few_thermal few (OfRamps row) small = grind (arith, four_words, row_words, few_thermal, few, row, small)

-- at most so many changes, each a small one
record AreSmall (thermal periods most : ℕ) (changes : List Change) : Type 0 where
  few : length changes ≤ most
  each : All (IsSmall thermal periods) changes

small_none : (thermal periods most : ℕ) → AreSmall thermal periods most []
small_none thermal periods most = record { few = omega arith; each = All-nil (IsSmall thermal periods) }

small_more : (thermal periods most : ℕ) (change : Change) (changes : List Change) → IsSmall thermal periods change
    → AreSmall thermal periods most changes → AreSmall thermal periods (suc most) (change ∷ changes)
small_more thermal periods most change changes small are = grind (arith, small, are)

small_within : (thermal periods most more : ℕ) (changes : List Change) → most ≤ more → AreSmall thermal periods most changes
    → AreSmall thermal periods more changes
small_within thermal periods most more changes le are = record { few = omega (arith, are.few, le); each = are.each }

small_either : (thermal periods most : ℕ) (b : Bool) (one other : List Change) → AreSmall thermal periods most one → AreSmall thermal periods most other
    → AreSmall thermal periods most (cond b one other)
small_either thermal periods most true one other a b = a
small_either thermal periods most false one other a b = b

small_prices : (thermal periods : ℕ) (change : ℕ → ℤ → Change) → ((t : ℕ) (price : ℤ) → t < periods → HasDigits 18 price → IsSmall thermal periods (change t price))
    → (t : ℕ) (olds news : List ℤ) → t + length news ≤ periods → All (HasDigits 18) news
    → AreSmall thermal periods (length news) (price_changes change t olds news)
small_prices thermal periods change each t [] news within digits = small_none thermal periods (length news)
small_prices thermal periods change each t (old ∷ olds) [] within digits = small_none thermal periods 0
small_prices thermal periods change each t (old ∷ olds) (new ∷ news) within digits =
    let rest = small_prices thermal periods change each (suc t) olds news (omega (arith, within)) (All-tail (HasDigits 18) new news digits) in
    small_either thermal periods (suc (length news)) _ _ _
    (small_within thermal periods (length news) (suc (length news)) _ (omega arith) rest)
    (small_more thermal periods (length news) (change t new) _ (each t new (omega (arith, within)) (All-head (HasDigits 18) new news digits)) rest)

-- the rows as changes
abbrev AreSmallRows : ℕ → ℕ → ℕ → List RampRow → Type 0
AreSmallRows thermal periods most rows = AreSmall thermal periods most (map OfRamps rows)

rows_either : (thermal periods most : ℕ) (b : Bool) (one other : List RampRow) → AreSmallRows thermal periods most one → AreSmallRows thermal periods most other
    → AreSmallRows thermal periods most (cond b one other)
rows_either thermal periods most true one other a b = a
rows_either thermal periods most false one other a b = b

-- a row, and the one that is all 0 in its place
small_row : (thermal periods : ℕ) (row : RampRow) → IsSized thermal periods row → IsSmall thermal periods (OfRamps row)
small_row thermal periods row sized = (sized.within.unit, sized.within.period, sized.text)

small_no_row : (thermal periods : ℕ) (row : RampRow) → IsSized thermal periods row → IsSmall thermal periods (OfRamps (no_row row))
small_no_row thermal periods row sized = (sized.within.unit, sized.within.period, record { up = omega arith; down = omega arith })

small_rows_from : (thermal periods count : ℕ) (old : RampRow) (behind : List RampRow → List RampRow) → IsSized thermal periods old
    → ((news : List RampRow) → All (IsSized thermal periods) news → AreSmallRows thermal periods (count + length news) (behind news))
    → (news : List RampRow) → All (IsSized thermal periods) news → AreSmallRows thermal periods (suc count + length news) (rows_from old behind news)
small_rows_from thermal periods count old behind sized each [] all = grind (arith, sized, each, all)
small_rows_from thermal periods count old behind sized each (new ∷ news) all =
    let here = All-head (IsSized thermal periods) new news all in
    let others = All-tail (IsSized thermal periods) new news all in
    let most = suc count + length (new ∷ news) in
    rows_either thermal periods most (is_before new old) _ _
    (small_within thermal periods (suc (suc count + length news)) most _ (omega arith)
    (small_more thermal periods (suc count + length news) (OfRamps new) (map OfRamps (rows_from old behind news)) (small_row thermal periods new here)
    (small_rows_from thermal periods count old behind sized each news others)))
    (rows_either thermal periods most (is_before old new) _ _
    (small_within thermal periods (suc (count + length (new ∷ news))) most _ (omega arith)
    (small_more thermal periods (count + length (new ∷ news)) (OfRamps (no_row old)) (map OfRamps (behind (new ∷ news))) (small_no_row thermal periods old sized) (each (new ∷ news) all)))
    (replaced_row _ (each news others)))
  where
    most_here : ℕ
    most_here = suc count + length (new ∷ news)

    replaced_row : (b : Bool) → AreSmallRows thermal periods (count + length news) (behind news)
        → AreSmallRows thermal periods most_here (cond b [] (new ∷ []) ++ behind news)
    replaced_row true are = small_within thermal periods (count + length news) most_here _ (omega arith) are
    replaced_row false are =
        small_within thermal periods (suc (count + length news)) most_here _ (omega arith)
        (small_more thermal periods (count + length news) (OfRamps new) (map OfRamps (behind news))
        (small_row thermal periods new (All-head (IsSized thermal periods) new news all)) are)

small_rows : (thermal periods : ℕ) (olds news : List RampRow) → All (IsSized thermal periods) olds → All (IsSized thermal periods) news
    → AreSmallRows thermal periods (length olds + length news) (row_changes olds news)
small_rows thermal periods [] news sized all = small_within thermal periods (length news) (0 + length news) _ (omega arith) (small_each news all)
  where
    small_each : (news : List RampRow) → All (IsSized thermal periods) news → AreSmallRows thermal periods (length news) news
    small_each [] all = small_none thermal periods 0
    small_each (new ∷ news) all =
        small_more thermal periods (length news) (OfRamps new) (map OfRamps news)
        (small_row thermal periods new (All-head (IsSized thermal periods) new news all)) (small_each news (All-tail (IsSized thermal periods) new news all))
small_rows thermal periods (old ∷ olds) news sized all =
    small_rows_from thermal periods (length olds) old (row_changes olds) (All-head (IsSized thermal periods) old olds sized)
    (λ news all. small_rows thermal periods olds news (All-tail (IsSized thermal periods) old olds sized) all) news all

-- changes one after another
size-changes : (thermal periods most : ℕ) → thermal ≤ 4096 → periods ≤ 168 → (changes : List Change) → AreSmall thermal periods most changes
    → size (map change_line changes) ≤ most * 51
size-changes thermal periods most few_thermal few changes are =
    omega (arith, size-map change_line (IsSmall thermal periods) 51 (length-change_line thermal periods few_thermal few) changes are.each, are.few)

map-append : {X Y : Type 0} (f : X → Y) (xs ys : List X) → map f (xs ++ ys) ≡ map f xs ++ map f ys
map-append f [] ys = refl
map-append f (x ∷ xs) ys = ap (λ rest. f x ∷ rest) (map-append f xs ys)

size-next : (periods thermal : ℕ) → periods ≤ 168 → thermal ≤ 4096 → (before table : Table) → IsFew periods thermal before → IsFew periods thermal table
    → size (next_lines table.k (table_changes before table)) ≤ most_of_table
size-next periods thermal few few_thermal before table was is =
    let demand = price_changes OfDemand 0 before.pi table.pi in
    let reserve = price_changes OfReserve 0 before.mu table.mu in
    let rows = map OfRamps (row_changes before.ramps table.ramps) in
    let changes = table_changes before table in
    let mu_count = is.text.form.lengths ∙ is.text.periods_priced in
    let demands = small_prices thermal periods OfDemand (λ t price lt small. (lt, small)) 0 before.pi table.pi (omega (arith, is.text.periods_priced)) is.text.pi in
    let reserves = small_prices thermal periods OfReserve (λ t price lt small. (lt, small)) 0 before.mu table.mu (omega (arith, mu_count)) is.text.mu in
    let ramps = small_rows thermal periods before.ramps table.ramps (each_sized periods thermal before was.text) (each_sized periods thermal table is.text) in
    let count : length changes ≤ 1376592 =
    omega (
      arith,
      length-append demand (reserve ++ rows),
      length-append reserve rows,
      demands.few,
      reserves.few,
      ramps.few,
      is.text.periods_priced,
      mu_count,
      was.rows,
      is.rows,
      few,
    ) in
    omega (
      arith,
      size-cons (next_line table.k (length changes)) (map change_line changes),
      two_words (codes "next") (signed_text table.k) (whole_text (length changes)),
      length-signed_text 18 table.k (omega arith) is.text.scale,
      length-whole_text-le 7 (length changes) (omega arith) (omega (arith, count)),
      ap size (map-append change_line demand (reserve ++ rows)),
      size-append (map change_line demand) (map change_line (reserve ++ rows)),
      ap size (map-append change_line reserve rows),
      size-append (map change_line reserve) (map change_line rows),
      size-changes thermal periods (length table.pi) few_thermal few demand demands,
      size-changes thermal periods (length table.mu) few_thermal few reserve reserves,
      size-changes thermal periods (length before.ramps + length table.ramps) few_thermal few rows ramps,
      is.text.periods_priced,
      mu_count,
      was.rows,
      is.rows,
      few,
    )

-- ---- all tables
size-told : (periods thermal : ℕ) → periods ≤ 168 → thermal ≤ 4096 → (before : Option Table) (table : Table) → IfSome before (IsFew periods thermal)
    → IsFew periods thermal table → size (told_lines before table) ≤ most_of_table
size-told periods thermal few few_thermal None table was is = size-table periods thermal few few_thermal table is
size-told periods thermal few few_thermal (Some before) table was is = size-next periods thermal few few_thermal before table was is

told_from-few : (periods thermal : ℕ) (version : Version) (before : Option Table) → IfSome before (IsFew periods thermal)
    → IfSome (told_from version before) (IsFew periods thermal)
told_from-few periods thermal First before was = tt
told_from-few periods thermal Second before was = was
told_from-few periods thermal Third before was = was

size-tables : (periods thermal : ℕ) → periods ≤ 168 → thermal ≤ 4096 → (version : Version) (before : Option Table) (tables : List Table)
    → IfSome before (IsFew periods thermal) → All (IsFew periods thermal) tables → size (tables_lines version before tables) ≤ length tables * most_of_table
size-tables periods thermal few few_thermal version before [] was all = omega arith
size-tables periods thermal few few_thermal version before (table ∷ tables) was all =
    let here = All-head (IsFew periods thermal) table tables all in
    omega (
      arith,
      size-append (told_lines (told_from version before) table) (tables_lines version (Some table) tables),
      size-told periods thermal few few_thermal (told_from version before) table (told_from-few periods thermal version before was) here,
      size-tables periods thermal few few_thermal version (Some table) tables here (All-tail (IsFew periods thermal) table tables all),
    )

-- ---- the tree
length-leaf_line : (word number : List ℕ) → length word ≤ 11 → length number ≤ 10 → length (line word (number ∷ [])) ≤ 32
length-leaf_line word number short few = omega (arith, one_word word number, short, few)

number_few : (n most : ℕ) → n < most → most < 2 ^ 32 → length (whole_text (suc n)) ≤ 10
number_few n most within small = length-whole_text-le 10 (suc n) (omega arith) (omega (arith, within, small))

length-node_line : (version : Version) (periods thermal tables : ℕ) → periods ≤ 168 → thermal ≤ 4096 → tables < 2 ^ 32 → (node : TreeNode)
    → IsNodeText version periods thermal tables node → length (node_line node) ≤ 32
length-node_line version periods thermal tables few few_thermal few_tables (LeafNode (Bound false n)) is =
    length-leaf_line (codes "bound") (whole_text (suc n)) (omega arith) (number_few n tables is.within few_tables)
length-node_line version periods thermal tables few few_thermal few_tables (LeafNode (Bound true n)) is =
    length-leaf_line (codes "exact") (whole_text (suc n)) (omega arith) (number_few n tables is.within few_tables)
length-node_line version periods thermal tables few few_thermal few_tables (LeafNode (Ray false n)) is =
    length-leaf_line (codes "ray") (whole_text (suc n)) (omega arith) (number_few n tables is.within few_tables)
length-node_line version periods thermal tables few few_thermal few_tables (LeafNode (Ray true n)) is =
    length-leaf_line (codes "exact-ray") (whole_text (suc n)) (omega arith) (number_few n tables is.within few_tables)
length-node_line version periods thermal tables few few_thermal few_tables (LeafNode (Empty false g)) is =
    length-leaf_line (codes "empty") (whole_text (suc g)) (omega arith) (number_few g thermal is.within (omega (arith, few_thermal)))
length-node_line version periods thermal tables few few_thermal few_tables (LeafNode (Empty true g)) is =
    length-leaf_line (codes "exact-empty") (whole_text (suc g)) (omega arith) (number_few g thermal is.within (omega (arith, few_thermal)))
length-node_line version periods thermal tables few few_thermal few_tables (SplitNode g t) is =
    omega (
      arith,
      two_words (codes "split") (whole_text (suc g)) (whole_text (suc t)),
      length-whole_text-le 4 (suc g) (omega arith) (omega (arith, few_thermal, is.within.0)),
      length-whole_text-le 3 (suc t) (omega arith) (omega (arith, few, is.within.1)),
    )

-- ---- the whole text
length-version_line : (version : Version) → length (version_line version) ≤ 100
length-version_line First = omega (arith, one_word (codes "uc-certificate") (whole_text 1), length-whole_text-le 1 1 (omega arith) (omega arith))
length-version_line Second = omega (arith, one_word (codes "uc-certificate") (whole_text 2), length-whole_text-le 1 2 (omega arith) (omega arith))
length-version_line Third = omega (arith, one_word (codes "uc-certificate") (whole_text 3), length-whole_text-le 1 3 (omega arith) (omega arith))

length-claim_line : (bound : Option ℤ) → IfSome bound IsMoney → length (claim_line bound) ≤ 100
length-claim_line None money = omega (arith, length-line (codes "claim infeasible") [])
length-claim_line (Some bound) money = omega (arith, one_word (codes "claim bound") (money_text bound), length-cost bound money)

size-lines : (version : Version) (c : Listing) → HasText version c → IsLittle c → size (certificate_lines version c) ≤ most_certificate_bytes
unfolding certificate_lines
size-lines version c h little =
    let nodes = map node_line c.nodes in
    let tables = tables_lines version None c.tables in
    let plan = plan_lines c.a c.b c.schedule in
    let heading = size_line c.periods c.thermal c.renewable (length c.tables) in
    let each : All (IsFew c.periods c.thermal) c.tables = λ k d within. record { text = h.tables k d within; rows = little.rows k d within } in
    omega (
      arith,
      size-cons (version_line version) (heading ∷ claim_line c.bound ∷ (plan ++ (tables ++ (nodes ++ end_line ∷ [])))),
      size-cons heading (claim_line c.bound ∷ (plan ++ (tables ++ (nodes ++ end_line ∷ [])))),
      size-cons (claim_line c.bound) (plan ++ (tables ++ (nodes ++ end_line ∷ []))),
      size-append plan (tables ++ (nodes ++ end_line ∷ [])),
      size-append tables (nodes ++ end_line ∷ []),
      size-append nodes (end_line ∷ []),
      size-cons end_line [],
      length-line (codes "end") [],
      length-version_line version,
      four_words (codes "size") (whole_text c.periods) (whole_text c.thermal) (whole_text c.renewable) (whole_text (length c.tables)),
      length-whole_text-le 3 c.periods (omega arith) (omega (arith, h.periods)),
      length-whole_text-le 4 c.thermal (omega arith) (omega (arith, h.thermal)),
      length-whole_text-le 4 c.renewable (omega arith) (omega (arith, h.renewable)),
      length-whole_text-le 10 (length c.tables) (omega arith) (omega (arith, h.table_count)),
      length-claim_line c.bound h.bound,
      size-plan version c h,
      size-tables c.periods c.thermal h.periods h.thermal version None c.tables tt each,
      little.tables,
      size-map node_line (IsNodeText version c.periods c.thermal (length c.tables)) 32
          (length-node_line version c.periods c.thermal (length c.tables) h.periods h.thermal h.table_count) c.nodes h.nodes,
      little.nodes,
    )

pub text_short : (version : Version) (c : Certificate) → HasText version (listing_of c) → IsLittle (listing_of c) → length (certificate_text version c) ≤ most_certificate_bytes
unfolding certificate_text
text_short version c h little =
    omega (arith, length-joined (certificate_lines version (listing_of c)), size-lines version (listing_of c) h little)
