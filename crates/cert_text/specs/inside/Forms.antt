-- Reading from the front of bytes: a form is a thing that may stand there, and reading it gives its value and the bytes
-- behind it. Long forms are made of short ones.
use Rattle.std.specs.Prelude.{◌≡◌, ℕ, zero, suc, ◌+◌, ◌-◌, ◌*◌, Bool, false, ◌&&◌, ◌||◌, ◌==◌, nat_lt, nat_le, List, [], ◌∷◌, length, drop, take, Option, Some, None, option_and_then, ℤ, pos, negsuc, nat_eq, not, codes, if◌then◌else◌, true}
use Rattle.std.specs.List.{starts_with, prefix_len}
use Rattle.std.specs.Str.Parse.{digits_value}
use Rattle.std.specs.Char.{digit_value}
use Rattle.std.specs.Ordering.{int_eq}
use Rattle.dual_model.specs.Prelude.{Leaf, Bound, Ray, Empty, pi_at, mu_at, up_at, down_at}
use Rattle.table_list.specs.Changes.{Table, Change, OfDemand, OfReserve, OfRamps, is_before}
use Rattle.cert_text.specs.CertificateText.{Version, First, Second, Third, TreeNode, LeafNode, SplitNode, has_price}
use Rattle.cert_text.specs.Grammar.{Cell, RampRow, Sizes, ScheduleHead, PlanLine, Priced, Unpriced}

infixl 10 ◌>>=◌
abbrev pub ◌>>=◌ : {A B : Type 0} → Option A → (A → Option B) → Option B
o >>= f = option_and_then f o

-- a value and the bytes behind it, where the form stands at the front
abbrev pub Form : Type 0 → Type 0
Form A = List ℕ → Option (A × List ℕ)

-- what a function returned, seen by view, is what reading gives
abbrev pub Gives : {X Y : Type 0} → (X → Y) → Option X → Option Y → Type 0
Gives view (Some x) read = read ≡ Some (view x)
Gives view None read = read ≡ None

-- ---- forms made of forms
-- the bytes behind a fixed text
unfoldable pub text_at : List ℕ → List ℕ → Option (List ℕ)
text_at text bytes = if starts_with nat_eq bytes text then Some (drop (length text) bytes) else None

abbrev pub after : {A : Type 0} → List ℕ → Form A → Form A
after text form bytes = text_at text bytes >>= form

abbrev pub ended : {A : Type 0} → Form A → List ℕ → Form A
ended form text bytes = form bytes >>= λ x. text_at text x.1 >>= λ rest. Some (x.0, rest)

abbrev pub both : {A B : Type 0} → Form A → Form B → Form (A × B)
both first second bytes = first bytes >>= λ x. second x.1 >>= λ y. Some ((x.0, y.0), y.1)

abbrev pub mapped : {A B : Type 0} → (A → B) → Form A → Form B
mapped f form bytes = form bytes >>= λ x. Some (f x.0, x.1)

abbrev pub passing : {A : Type 0} → (A → Bool) → Form A → Form A
passing test form bytes = form bytes >>= λ x. if test x.0 then Some x else None

-- the form behind a text that stands at the front, or else what another reading gave
abbrev pub when : {A : Type 0} → Option (List ℕ) → Form A → Option (A × List ℕ) → Option (A × List ℕ)
when None form other = other
when (Some rest) form other = form rest

-- a text that stands for one value
abbrev pub fixed : {A : Type 0} → List ℕ → A → Form A
fixed text value bytes = text_at text bytes >>= λ rest. Some (value, rest)

-- the first form, or else the second
abbrev pub or_else : {A : Type 0} → Option A → Option A → Option A
or_else None other = other
or_else (Some x) other = Some x

-- the form so many times
unfoldable pub times : {A : Type 0} → ℕ → Form A → Form (List A)
times zero form bytes = Some ([], bytes)
times (suc n) form bytes = form bytes >>= λ x. times n form x.1 >>= λ xs. Some (x.0 ∷ xs.0, xs.1)

-- ---- numbers
abbrev pub is_digit : ℕ → Bool
is_digit c = nat_lt (digit_value c) 10

-- how many digits stand at the front, and their number
abbrev pub run : List ℕ → ℕ
run bytes = prefix_len is_digit bytes

abbrev pub run_value : List ℕ → ℕ
run_value bytes = digits_value 10 (take (run bytes) bytes)

abbrev pub begins_with : ℕ → List ℕ → Bool
begins_with c [] = false
begins_with c (b ∷ bytes) = b == c

-- at least one digit and at most so many, and no zero before another digit
abbrev pub is_whole : ℕ → List ℕ → Bool
is_whole digits bytes = (nat_lt 0 (run bytes) && nat_le (run bytes) digits) && (not (begins_with 48 bytes) || (run bytes == 1))

unfoldable pub whole_at : ℕ → Form ℕ
whole_at digits bytes = if is_whole digits bytes then Some (run_value bytes, drop (run bytes) bytes) else None

-- six digits
unfoldable pub decimals_at : Form ℕ
decimals_at bytes = if run bytes == 6 then Some (run_value bytes, drop (run bytes) bytes) else None

-- a minus stands before no zero
abbrev pub negative : ℕ → Option ℤ
negative zero = None
negative (suc n) = Some (negsuc n)

-- the form, with a minus before it or not
abbrev pub with_sign : Form ℕ → Form ℤ
with_sign form bytes =
    if begins_with 45 bytes then (form (drop 1 bytes) >>= λ x. negative x.0 >>= λ z. Some (z, x.1)) else (form bytes >>= λ x. Some (pos x.0, x.1))

unfoldable pub signed_at : ℕ → Form ℤ
signed_at digits = with_sign (whole_at digits)

abbrev pub millionths : ℕ × ℕ → ℕ
millionths parts = parts.0 * 1000000 + parts.1

unfoldable pub millionths_at : Form ℕ
millionths_at = mapped millionths (both (ended (whole_at 32) (codes ".")) decimals_at)

unfoldable pub money_at : Form ℤ
money_at = with_sign millionths_at

-- a number from 1 on, that counts from 0 here
unfoldable pub ordinal_at : Form ℕ
ordinal_at = mapped (λ n. n - 1) (passing (λ n. nat_lt 0 n) (whole_at 18))

-- ---- Reading one line of a certificate.
-- ---- the heading
unfoldable pub version_at : Form Version
version_at bytes =
    when (text_at (codes "uc-certificate 1\n") bytes) (λ rest. Some (First, rest))
    (when (text_at (codes "uc-certificate 2\n") bytes) (λ rest. Some (Second, rest)) (fixed (codes "uc-certificate 3\n") Third bytes))

abbrev pub sizes_of : Version → ℕ × (ℕ × (ℕ × ℕ)) → Sizes
sizes_of version p = record { version = version; periods = p.0; thermal = p.1.0; renewable = p.1.1.0; tables = p.1.1.1 }

abbrev pub are_sizes : Sizes → Bool
are_sizes size =
    nat_le 1 size.periods && (nat_le size.periods 168 && (nat_le size.thermal 4096 && (nat_le size.renewable 4096 && nat_lt size.tables 4294967296)))

unfoldable pub size_at : Version → Form Sizes
size_at version =
    passing are_sizes (mapped (sizes_of version) (after (codes "size ")
    (both (ended (whole_at 18) (codes " ")) (both (ended (whole_at 18) (codes " ")) (both (ended (whole_at 18) (codes " ")) (ended (whole_at 18) (codes "\n")))))))

unfoldable pub claim_at : Form (Option ℤ)
claim_at bytes =
    when (text_at (codes "claim bound ") bytes) (mapped Some (ended money_at (codes "\n"))) (fixed (codes "claim infeasible\n") None bytes)

-- ---- what stands in the third version alone
abbrev pub tells_exact : Version → Bool
tells_exact First = false
tells_exact Second = false
tells_exact Third = true

-- ---- prices and the schedule
abbrev pub is_penalty : ℕ × ℕ → Bool
is_penalty p = (nat_le p.0 1000000 && nat_le p.1 1000000) && has_price p.0 p.1

-- the prices behind their line's first word
unfoldable pub penalty_at : Form (ℕ × ℕ)
penalty_at = passing is_penalty (both (ended (whole_at 18) (codes " ")) (ended (whole_at 18) (codes "\n")))

-- a denominator that stands in that version
abbrev pub is_over : Version → ℕ → Bool
is_over version denominator = tells_exact version && (nat_le 2 denominator && nat_le denominator 99)

-- the denominator of a schedule's powers, up to the end of its line: 1 where none is told
unfoldable pub denominator_at : Version → Form ℕ
denominator_at version bytes =
    when (text_at (codes "\n") bytes) (λ rest. Some (1, rest)) (after (codes " over ") (passing (is_over version) (ended (whole_at 18) (codes "\n"))) bytes)

abbrev pub head_from : ℤ × ℕ → ScheduleHead
head_from p = record { cost = p.0; denominator = p.1 }

unfoldable pub head_at : Version → Form ScheduleHead
head_at version = mapped head_from (both money_at (denominator_at version))

unfoldable pub schedule_at : Version → Form (Option ScheduleHead)
schedule_at version bytes =
    when (text_at (codes "schedule none\n") bytes) (λ rest. Some (None, rest)) (after (codes "schedule ") (mapped Some (head_at version)) bytes)

unfoldable pub plan_at : Version → Form PlanLine
plan_at version bytes = when (text_at (codes "penalty ") bytes) (mapped (λ p. Priced p.0 p.1) penalty_at) (mapped Unpriced (schedule_at version) bytes)

abbrev pub on_cell : ℤ × (ℤ × ℕ) → Cell
on_cell p = record { on = true; p = p.0; r = p.1.0; category = p.1.1 }

abbrev pub off_cell : Cell
off_cell = record { on = false; p = pos 0; r = pos 0; category = 0 }

unfoldable pub on_cell_at : Form Cell
on_cell_at =
    mapped on_cell (both (ended (signed_at 15) (codes ":")) (both (ended (signed_at 15) (codes ":")) (passing (λ n. nat_le n 255) (whole_at 18))))

unfoldable pub cell_at : Form Cell
cell_at bytes = or_else (on_cell_at bytes) (fixed (codes "-") off_cell bytes)

-- so many words, each behind a space
abbrev pub words_at : {A : Type 0} → ℕ → Form A → Form (List A)
words_at count word = times count (after (codes " ") word)

-- a line of so many words behind its first one
abbrev pub row_at : {A : Type 0} → List ℕ → ℕ → Form A → Form (List A)
row_at first count word = after first (ended (words_at count word) (codes "\n"))

-- ---- tables
unfoldable pub scale_at : Form ℕ
scale_at = after (codes "table ") (ended (whole_at 18) (codes "\n"))

unfoldable pub ramp_count_at : Form ℕ
ramp_count_at = after (codes "ramps ") (ended (whole_at 18) (codes "\n"))

-- the numbers of a row behind its first word
abbrev pub row_numbers_at : Form (ℕ × (ℕ × (ℤ × ℤ)))
row_numbers_at =
    both (ended ordinal_at (codes " ")) (both (ended ordinal_at (codes " ")) (both (ended (signed_at 18) (codes " ")) (ended (signed_at 18) (codes "\n"))))

abbrev pub ramp_row : ℕ × (ℕ × (ℤ × ℤ)) → RampRow
ramp_row p = record { g = p.0; t = p.1.0; up = p.1.1.0; down = p.1.1.1 }

-- a row comes behind another, or is the first
abbrev pub rises : Option RampRow → RampRow → Bool
rises None row = true
rises (Some before) row = is_before before row

abbrev pub is_ramp : Sizes → Option RampRow → RampRow → Bool
is_ramp size before row =
    nat_lt row.g size.thermal && (nat_lt row.t size.periods && ((not (int_eq row.up (pos 0)) || not (int_eq row.down (pos 0))) && rises before row))

unfoldable pub ramp_at : Sizes → Option RampRow → Form RampRow
ramp_at size before =
    passing (is_ramp size before) (mapped ramp_row (after (codes "ramp ") row_numbers_at))

-- ---- tables told by their difference to another
-- the scale, and how many changes follow
unfoldable pub next_at : Form (ℕ × ℕ)
next_at = after (codes "next ") (both (ended (whole_at 18) (codes " ")) (ended (whole_at 18) (codes "\n")))

abbrev pub price_at : Form (ℕ × ℤ)
price_at = both (ended ordinal_at (codes " ")) (ended (signed_at 18) (codes "\n"))

unfoldable pub written_change_at : Form Change
written_change_at bytes =
    when (text_at (codes "p ") bytes) (mapped (λ p. OfDemand p.0 p.1) price_at)
    (when (text_at (codes "m ") bytes) (mapped (λ p. OfReserve p.0 p.1) price_at)
    (mapped (λ p. OfRamps (ramp_row p)) (after (codes "r ") row_numbers_at) bytes))

-- within the sizes
abbrev pub is_within : Sizes → Change → Bool
is_within size (OfDemand t price) = nat_lt t size.periods
is_within size (OfReserve t price) = nat_lt t size.periods
is_within size (OfRamps row) = nat_lt row.g size.thermal && nat_lt row.t size.periods

-- behind another change, or the first
abbrev pub comes_before : Change → Change → Bool
comes_before (OfDemand t price) (OfDemand u other) = nat_lt t u
comes_before (OfDemand t price) (OfReserve u other) = true
comes_before (OfDemand t price) (OfRamps row) = true
comes_before (OfReserve t price) (OfDemand u other) = false
comes_before (OfReserve t price) (OfReserve u other) = nat_lt t u
comes_before (OfReserve t price) (OfRamps row) = true
comes_before (OfRamps row) (OfDemand u other) = false
comes_before (OfRamps row) (OfReserve u other) = false
comes_before (OfRamps row) (OfRamps later) = is_before row later

abbrev pub comes_behind : Option Change → Change → Bool
comes_behind None change = true
comes_behind (Some last) change = comes_before last change

-- another number than the table's
abbrev pub is_other : Table → Change → Bool
is_other table (OfDemand t price) = not (int_eq (pi_at table t) price)
is_other table (OfReserve t price) = not (int_eq (mu_at table t) price)
is_other table (OfRamps row) = not (int_eq (up_at table row.g row.t) row.up) || not (int_eq (down_at table row.g row.t) row.down)

abbrev pub is_change : Sizes → Table → Option Change → Change → Bool
is_change size table last change = is_within size change && (comes_behind last change && is_other table change)

unfoldable pub change_at : Sizes → Table → Option Change → Form Change
change_at size table last = passing (is_change size table last) written_change_at

-- ---- the tree
-- the number in a leaf's line, from 0 and below the count
unfoldable pub named_at : ℕ → Form ℕ
named_at count = passing (λ n. nat_lt n count) (ended ordinal_at (codes "\n"))

unfoldable pub split_at : Sizes → Form (ℕ × ℕ)
split_at size =
    passing (λ p. nat_lt p.0 size.thermal && nat_lt p.1 size.periods) (both (ended ordinal_at (codes " ")) (ended ordinal_at (codes "\n")))

-- one of them behind its first word, `exact`
abbrev pub exact_leaf_at : Sizes → Form Leaf
exact_leaf_at size bytes =
    when (text_at (codes " ") bytes) (mapped (λ n. Bound true n) (named_at size.tables))
    (when (text_at (codes "-ray ") bytes) (mapped (λ n. Ray true n) (named_at size.tables))
    (mapped (λ n. Empty true n) (after (codes "-empty ") (named_at size.thermal)) bytes))

unfoldable pub exact_at : Sizes → Form Leaf
exact_at size = passing (λ leaf. tells_exact size.version) (exact_leaf_at size)

unfoldable pub node_at : Sizes → Form TreeNode
node_at size bytes =
    when (text_at (codes "exact") bytes) (mapped (λ leaf. LeafNode leaf) (exact_at size))
    (when (text_at (codes "bound ") bytes) (mapped (λ n. LeafNode (Bound false n)) (named_at size.tables))
    (when (text_at (codes "ray ") bytes) (mapped (λ n. LeafNode (Ray false n)) (named_at size.tables))
    (when (text_at (codes "empty ") bytes) (mapped (λ n. LeafNode (Empty false n)) (named_at size.thermal))
    (mapped (λ p. SplitNode p.0 p.1) (after (codes "split ") (split_at size)) bytes))))

unfoldable pub end_at : Form (Unit {0})
end_at = fixed (codes "end\n") tt
