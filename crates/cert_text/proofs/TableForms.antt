-- The forms of ramp rows, of changes of tables and of nodes read their lines, and nothing else.
use Rattle.std.proofs.Common.{ap, ℕ, ℤ, ◌^◌, ◌<◌, ◌≤◌, arith, ◌≡◌, ◌∙◌, sym, suc, true, false, List, [], ◌∷◌, ◌++◌, Option, Some, None, refl, subst, append_assoc, inl, inr, ◌⊎◌, pos, not, ◌&&◌, ◌||◌, nat_lt, ◌≢◌, IfSome, codes}
use Rattle.uc_model.specs.Decimal.{whole_text, signed_text}
use Rattle.std.proofs.lemmas.Bool.Decides.{Decides-int_eq, Decides-and, Decides-or, Decides-not, Decides-ltb, Decides-like}
use Rattle.std.proofs.lemmas.Bool.{ltb-true, lt-ltb, and_parts, false≢true, and_from}
use Rattle.std.specs.Ordering.{int_eq}
use Rattle.std.specs.Bool.{Decides}
use Rattle.outside.specs.Lines.{line}
use Rattle.dual_model.specs.Prelude.{Leaf, Bound, Ray, Empty, IsRowBefore, IsRowWithin, pi_at, mu_at}
use Rattle.cert_text.specs.TextConditions.{RampRow, HasDigits, IsRampText, IsNodeText}
use Rattle.table_list.specs.Changes.{Table, Change, OfDemand, OfReserve, OfRamps}
use Rattle.cert_text.specs.CertificateText.{Third, ramp_line, next_line, change_line, TreeNode, LeafNode, SplitNode, node_line, is_exact_leaf, is_exact_node, IsLeafWithin, IsNodeWithin}
use Rattle.cert_text.specs.Grammar.{Sizes, AreSizes, ComesBefore, IsChangeWithin, Changes, IsChangeAfter, IsRampAfter}
use Rattle.cert_text.specs.inside.Forms.{is_digit, ended, mapped, after, text_at, ordinal_at, row_numbers_at, ramp_row, rises, is_ramp, ramp_at, next_at, price_at, written_change_at, is_within, comes_before, comes_behind, is_other, is_change, change_at, named_at, split_at, tells_exact, exact_leaf_at, exact_at, node_at}
use Rattle.table_list.proofs.RowChanges.{before_decides}
use Rattle.cert_text.proofs.PlanForms.{is_third}
use Rattle.cert_text.proofs.FormLaws.{IsForm, Anything, after-form, ended-form, both-form, form-as, image-form, mapped-form, passing-form, choice-form, ordinal-form, last_whole, spaced_whole, spaced_signed}

-- ---- The forms of ramp rows and of nodes read their lines.
spaced_ordinal : (end : ℕ) → is_digit end ≡ false → IsForm (ended ordinal_at (end ∷ [])) (λ n. suc n < 10 ^ 18) (λ n. whole_text (suc n) ++ end ∷ []) Anything
spaced_ordinal end none = ended-form ordinal-form (end ∷ []) (λ rest. rw none refl)

-- ---- ramp rows
present_decides : (up down : ℤ) → Decides (not (int_eq up (pos 0)) || not (int_eq down (pos 0))) ((up ≢ pos 0) ⊎ (down ≢ pos 0))
present_decides up down = Decides-or _ _ (Decides-not _ (Decides-int_eq up (pos 0))) (Decides-not _ (Decides-int_eq down (pos 0)))

rises_decide : (before : Option RampRow) (row : RampRow) → Decides (rises before row) (IfSome before (λ earlier. IsRowBefore earlier row))
rises_decide None row = ((λ e. tt), (λ h. refl))
rises_decide (Some earlier) row = before_decides earlier row

-- a row as it is written, before it is tested
record IsRowText (row : RampRow) : Type 0 where
  g : suc row.g < 10 ^ 18
  t : suc row.t < 10 ^ 18
  numbers : IsRampText row

ramp_decides : (size : Sizes) (before : Option RampRow) (row : RampRow)
    → Decides (is_ramp size before row) (IsRowWithin size.thermal size.periods row × IfSome before (λ earlier. IsRowBefore earlier row))
ramp_decides size before row = grind (arith, Decides-like, Decides-and, Decides-ltb, present_decides, rises_decide)

row_numbers-form : IsForm row_numbers_at (λ p. (suc p.0 < 10 ^ 18) × ((suc p.1.0 < 10 ^ 18) × (HasDigits 18 p.1.1.0 × HasDigits 18 p.1.1.1)))
    (λ p. (whole_text (suc p.0) ++ codes " ") ++ ((whole_text (suc p.1.0) ++ codes " ") ++ ((signed_text p.1.1.0 ++ codes " ") ++ (signed_text p.1.1.1 ++ codes "\n")))) Anything
row_numbers-form =
    both-form (spaced_ordinal 32 refl) (both-form (spaced_ordinal 32 refl) (both-form (spaced_signed 18 (omega arith) 32 refl) (spaced_signed 18 (omega arith) 10 refl)
    (λ b rest v f. tt)) (λ b rest v f. tt)) (λ b rest v f. tt)

pub ramp-form : (size : Sizes) → AreSizes size → (before : Option RampRow) → IsForm (ramp_at size before) (IsRampAfter size before) ramp_line Anything
unfolding ramp_at line
ramp-form size lawful before =
    passing-form (mapped-form (after-form row_numbers-form (codes "ramp "))
    ramp_row (λ row. (row.g, (row.t, (row.up, row.down)))) IsRowText ramp_line (record {
      there = λ p v. (record { g = v.0; t = v.1.0; numbers = record { up = v.1.1.0; down = v.1.1.1 } }, simp append_assoc);
      back = λ row w. ((w.g, (w.t, (w.numbers.up, w.numbers.down))), refl);
    }))
    (is_ramp size before) (IsRampAfter size before)
    (λ row h e. let test = (ramp_decides size before row).0 e in record { within = test.0; written = h.numbers; rises = test.1 })
    (λ row w. (record { g = omega (arith, w.within.unit, lawful.thermal); t = omega (arith, w.within.period, lawful.periods); numbers = w.written }, (ramp_decides size before row).1 (w.within, w.rises)))

-- ---- tables told by their difference to another
pub next-form : IsForm next_at (λ p. (p.0 < 10 ^ 18) × (p.1 < 10 ^ 18)) (λ p. next_line (pos p.0) p.1) Anything
unfolding next_at line signed_text whole_text
next-form =
    form-as (after-form (both-form spaced_whole last_whole (λ b rest v f. tt)) (codes "next ")) (λ p. (p.0 < 10 ^ 18) × (p.1 < 10 ^ 18)) (λ p. next_line (pos p.0) p.1)
    (λ p v. (v.0, v.1)) (λ p w. (w.0, w.1)) (λ p v. ap (λ rest. codes "next " ++ rest) (append_assoc (whole_text p.0) (codes " ") (whole_text p.1 ++ codes "\n")))

-- a change as it is written, before it is tested
abbrev IsPriceText : ℕ → ℤ → Type 0
IsPriceText t price = (suc t < 10 ^ 18) × HasDigits 18 price

abbrev IsChangeText : Change → Type 0
IsChangeText (OfDemand t price) = IsPriceText t price
IsChangeText (OfReserve t price) = IsPriceText t price
IsChangeText (OfRamps row) = IsRowText row

price-form : IsForm price_at (λ p. IsPriceText p.0 p.1) (λ p. (whole_text (suc p.0) ++ codes " ") ++ (signed_text p.1 ++ codes "\n")) Anything
price-form = both-form (spaced_ordinal 32 refl) (spaced_signed 18 (omega arith) 10 refl) (λ b rest v f. tt)

abbrev IsPriceChange : (ℕ → ℤ → Change) → Change → Type 0
IsPriceChange make change = (p : ℕ × ℤ) × IsPriceText p.0 p.1 × (make p.0 p.1 ≡ change)

abbrev IsRowChange : Change → Type 0
IsRowChange change = (row : RampRow) × IsRowText row × (OfRamps row ≡ change)

written_change-form : IsForm written_change_at IsChangeText change_line Anything
unfolding written_change_at line text_at
written_change-form =
    let reserve = choice-form price-form (λ p. OfReserve p.0 p.1) rows (codes "m ") (λ p v. simp append_assoc) no_reserve in
    form-as (choice-form price-form (λ p. OfDemand p.0 p.1) reserve (codes "p ") (λ p v. simp append_assoc) no_demand) IsChangeText change_line there back (λ change v. refl)
  where
    rows : IsForm (mapped (λ p. OfRamps (ramp_row p)) (after (codes "r ") row_numbers_at)) IsRowChange change_line Anything
    rows =
        form-as (image-form (after-form row_numbers-form (codes "r ")) (λ p. OfRamps (ramp_row p)) change_line (λ p v. simp append_assoc)) IsRowChange change_line
        (λ change v. (ramp_row v.0, record { g = v.1.0; t = v.1.1.0; numbers = record { up = v.1.1.1.0; down = v.1.1.1.1 } }, v.2))
        (λ change w. ((w.0.g, (w.0.t, (w.0.up, w.0.down))), (w.1.g, (w.1.t, (w.1.numbers.up, w.1.numbers.down))), w.2))
        (λ change v. refl)

    no_reserve : (change : Change) (rest : List ℕ) → IsRowChange change → text_at (codes "m ") (change_line change ++ rest) ≡ None
    no_reserve change rest v = subst (λ (change : Change). text_at (codes "m ") (change_line change ++ rest) ≡ None) v.2 refl

    no_demand : (change : Change) (rest : List ℕ) → IsPriceChange OfReserve change ⊎ IsRowChange change → text_at (codes "p ") (change_line change ++ rest) ≡ None
    no_demand change rest (inl v) = subst (λ (change : Change). text_at (codes "p ") (change_line change ++ rest) ≡ None) v.2 refl
    no_demand change rest (inr v) = subst (λ (change : Change). text_at (codes "p ") (change_line change ++ rest) ≡ None) v.2 refl

    there : (change : Change) → IsPriceChange OfDemand change ⊎ (IsPriceChange OfReserve change ⊎ IsRowChange change) → IsChangeText change
    there change (inl v) = subst IsChangeText v.2 v.1
    there change (inr (inl v)) = subst IsChangeText v.2 v.1
    there change (inr (inr v)) = subst IsChangeText v.2 v.1

    back : (change : Change) → IsChangeText change → IsPriceChange OfDemand change ⊎ (IsPriceChange OfReserve change ⊎ IsRowChange change)
    back (OfDemand t price) w = inl ((t, price), w, refl)
    back (OfReserve t price) w = inr (inl ((t, price), w, refl))
    back (OfRamps row) w = inr (inr (row, w, refl))

-- ---- the tests of a change
comes_decides : (first second : Change) → Decides (comes_before first second) (ComesBefore first second)
comes_decides (OfDemand t price) (OfDemand u other) = Decides-ltb t u
comes_decides (OfDemand t price) (OfReserve u other) = ((λ e. tt), (λ h. refl))
comes_decides (OfDemand t price) (OfRamps row) = ((λ e. tt), (λ h. refl))
comes_decides (OfReserve t price) (OfDemand u other) = ((λ e. false≢true e), (λ h. absurd h))
comes_decides (OfReserve t price) (OfReserve u other) = Decides-ltb t u
comes_decides (OfReserve t price) (OfRamps row) = ((λ e. tt), (λ h. refl))
comes_decides (OfRamps row) (OfDemand u other) = ((λ e. false≢true e), (λ h. absurd h))
comes_decides (OfRamps row) (OfReserve u other) = ((λ e. false≢true e), (λ h. absurd h))
comes_decides (OfRamps row) (OfRamps later) = before_decides row later

behind_decides : (last : Option Change) (change : Change) → Decides (comes_behind last change) (IfSome last (λ earlier. ComesBefore earlier change))
behind_decides None change = ((λ e. tt), (λ h. refl))
behind_decides (Some earlier) change = comes_decides earlier change

other_decides : (table : Table) (change : Change) → Decides (is_other table change) (Changes table change)
other_decides table (OfDemand t price) = Decides-not _ (Decides-int_eq (pi_at table t) price)
other_decides table (OfReserve t price) = Decides-not _ (Decides-int_eq (mu_at table t) price)
other_decides table (OfRamps row) = grind (arith, row)

-- a written change is within the sizes where the test says so, and one within them is of few digits
within_from : (size : Sizes) (change : Change) → IsChangeText change → is_within size change ≡ true → IsChangeWithin size change
within_from size (OfDemand t price) v e = (ltb-true t size.periods e, v.1)
within_from size (OfReserve t price) v e = (ltb-true t size.periods e, v.1)
within_from size (OfRamps row) v e = grind (arith, row, v, e)

within_back : (size : Sizes) → AreSizes size → (change : Change) → IsChangeWithin size change → IsChangeText change × (is_within size change ≡ true)
within_back size lawful (OfDemand t price) w = ((omega (arith, w.0, lawful.periods), w.1), lt-ltb t size.periods w.0)
within_back size lawful (OfReserve t price) w = ((omega (arith, w.0, lawful.periods), w.1), lt-ltb t size.periods w.0)
within_back size lawful (OfRamps row) w = grind (arith, lawful, row, w)

pub change-form : (size : Sizes) → AreSizes size → (table : Table) (last : Option Change) → IsForm (change_at size table last) (IsChangeAfter size table last) change_line Anything
unfolding change_at
change-form size lawful table last =
    passing-form written_change-form (is_change size table last) (IsChangeAfter size table last)
    (λ change v e.
    let parts = and_parts (is_within size change) (comes_behind last change && is_other table change) e in
    let rest = and_parts (comes_behind last change) (is_other table change) parts.1 in
    record { within = within_from size change v parts.0; rises = (behind_decides last change).0 rest.0; changes = (other_decides table change).0 rest.1 })
    (λ change w.
    let within = within_back size lawful change w.within in (
      within.0,
      and_from (is_within size change) (comes_behind last change && is_other table change) within.1
          (and_from (comes_behind last change) (is_other table change) ((behind_decides last change).1 w.rises) ((other_decides table change).1 w.changes)),
    ))

-- ---- nodes
named-form : (count : ℕ) → count ≤ 4294967296 → IsForm (named_at count) (λ n. n < count) (λ n. whole_text (suc n) ++ codes "\n") Anything
unfolding named_at
named-form count few =
    passing-form (spaced_ordinal 10 refl) (λ n. nat_lt n count) (λ n. n < count) (λ n v e. ltb-true n count e) (λ n w. (omega arith, lt-ltb n count w))

split-form : (size : Sizes) → AreSizes size → IsForm (split_at size) (λ p. (p.0 < size.thermal) × (p.1 < size.periods)) (λ p. (whole_text (suc p.0) ++ codes " ") ++ (whole_text (suc p.1) ++ codes "\n")) Anything
unfolding split_at
split-form size lawful =
    passing-form (both-form (spaced_ordinal 32 refl) (spaced_ordinal 10 refl) (λ b rest v f. tt)) (λ p. nat_lt p.0 size.thermal && nat_lt p.1 size.periods)
    (λ p. (p.0 < size.thermal) × (p.1 < size.periods))
    (λ p v e. let both = and_parts (nat_lt p.0 size.thermal) (nat_lt p.1 size.periods) e in (ltb-true p.0 size.thermal both.0, ltb-true p.1 size.periods both.1))
    (λ p w. ((omega (arith, lawful.thermal), omega (arith, lawful.periods)), and_from (nat_lt p.0 size.thermal) (nat_lt p.1 size.periods) (lt-ltb p.0 size.thermal w.0) (lt-ltb p.1 size.periods w.1)))

-- ---- leaves by exact values
-- made of a number that is small enough
abbrev IsMadeOf : {A : Type 0} → (ℕ → A) → ℕ → A → Type 0
IsMadeOf make count a = (n : ℕ) × (n < count) × (make n ≡ a)

-- what stands behind their first word
abbrev exact_tail : Leaf → List ℕ
exact_tail (Bound exact n) = codes " " ++ (whole_text (suc n) ++ codes "\n")
exact_tail (Ray exact n) = codes "-ray " ++ (whole_text (suc n) ++ codes "\n")
exact_tail (Empty exact g) = codes "-empty " ++ (whole_text (suc g) ++ codes "\n")

abbrev IsExactWithin : Sizes → Leaf → Type 0
IsExactWithin size leaf = (is_exact_leaf leaf ≡ true) × IsLeafWithin size.thermal size.tables leaf

abbrev IsExactRayOrEmpty : Sizes → Leaf → Type 0
IsExactRayOrEmpty size leaf = IsMadeOf (λ n. Ray true n) size.tables leaf ⊎ IsMadeOf (λ n. Empty true n) size.thermal leaf

exact_leaf-form : (size : Sizes) → AreSizes size → IsForm (exact_leaf_at size) (IsExactWithin size) exact_tail Anything
unfolding text_at
exact_leaf-form size lawful =
    let table = named-form size.tables (omega (arith, lawful.tables)) in
    let unit = named-form size.thermal (omega (arith, lawful.thermal)) in
    let empty = image-form (after-form unit (codes "-empty ")) (λ n. Empty true n) exact_tail (λ n v. refl) in
    let ray = choice-form table (λ n. Ray true n) empty (codes "-ray ") (λ n v. refl) no_ray in
    form-as (choice-form table (λ n. Bound true n) ray (codes " ") (λ n v. refl) no_bound) (IsExactWithin size) exact_tail within made (λ leaf v. refl)
  where
    no_ray : (leaf : Leaf) (rest : List ℕ) → IsMadeOf (λ n. Empty true n) size.thermal leaf → text_at (codes "-ray ") (exact_tail leaf ++ rest) ≡ None
    no_ray leaf rest v = subst (λ (leaf : Leaf). text_at (codes "-ray ") (exact_tail leaf ++ rest) ≡ None) v.2 refl

    no_bound : (leaf : Leaf) (rest : List ℕ) → IsExactRayOrEmpty size leaf → text_at (codes " ") (exact_tail leaf ++ rest) ≡ None
    no_bound leaf rest (inl v) = subst (λ (leaf : Leaf). text_at (codes " ") (exact_tail leaf ++ rest) ≡ None) v.2 refl
    no_bound leaf rest (inr v) = subst (λ (leaf : Leaf). text_at (codes " ") (exact_tail leaf ++ rest) ≡ None) v.2 refl

    within : (leaf : Leaf) → IsMadeOf (λ n. Bound true n) size.tables leaf ⊎ IsExactRayOrEmpty size leaf → IsExactWithin size leaf
    within leaf (inl v) = subst (IsExactWithin size) v.2 (refl, v.1)
    within leaf (inr (inl v)) = subst (IsExactWithin size) v.2 (refl, v.1)
    within leaf (inr (inr v)) = subst (IsExactWithin size) v.2 (refl, v.1)

    made : (leaf : Leaf) → IsExactWithin size leaf → IsMadeOf (λ n. Bound true n) size.tables leaf ⊎ IsExactRayOrEmpty size leaf
    made (Bound true n) w = inl (n, w.1, refl)
    made (Ray true n) w = inr (inl (n, w.1, refl))
    made (Empty true g) w = inr (inr (g, w.1, refl))
    made (Bound false n) w = absurd (false≢true w.0)
    made (Ray false n) w = absurd (false≢true w.0)
    made (Empty false g) w = absurd (false≢true w.0)

-- in the third version
abbrev IsExactText : Sizes → Leaf → Type 0
IsExactText size leaf = IsExactWithin size leaf × (size.version ≡ Third)

exact-form : (size : Sizes) → AreSizes size → IsForm (exact_at size) (IsExactText size) exact_tail Anything
unfolding exact_at
exact-form size lawful =
    passing-form (exact_leaf-form size lawful) (λ leaf. tells_exact size.version) (IsExactText size)
    (λ leaf v e. (v, is_third size.version e)) (λ leaf w. (w.0, ap tells_exact w.1))

-- ---- all nodes
abbrev IsSplit : Sizes → TreeNode → Type 0
IsSplit size node = (p : ℕ × ℕ) × ((p.0 < size.thermal) × (p.1 < size.periods)) × (SplitNode p.0 p.1 ≡ node)

abbrev IsEmptyOrSplit : Sizes → TreeNode → Type 0
IsEmptyOrSplit size node = IsMadeOf (λ n. LeafNode (Empty false n)) size.thermal node ⊎ IsSplit size node

abbrev IsNoBound : Sizes → TreeNode → Type 0
IsNoBound size node = IsMadeOf (λ n. LeafNode (Ray false n)) size.tables node ⊎ IsEmptyOrSplit size node

abbrev IsNotExact : Sizes → TreeNode → Type 0
IsNotExact size node = IsMadeOf (λ n. LeafNode (Bound false n)) size.tables node ⊎ IsNoBound size node

abbrev IsExactNode : Sizes → TreeNode → Type 0
IsExactNode size node = (leaf : Leaf) × IsExactText size leaf × (LeafNode leaf ≡ node)

abbrev IsNode : Sizes → TreeNode → Type 0
IsNode size node = IsNodeText size.version size.periods size.thermal size.tables node

pub node-form : (size : Sizes) → AreSizes size → IsForm (node_at size) (IsNode size) node_line Anything
unfolding node_at line text_at
node-form size lawful =
    let table = named-form size.tables (omega (arith, lawful.tables)) in
    let unit = named-form size.thermal (omega (arith, lawful.thermal)) in
    let split = image-form (after-form (split-form size lawful) (codes "split ")) (λ p. SplitNode p.0 p.1) node_line (λ p v. simp append_assoc) in
    let empty = choice-form unit (λ n. LeafNode (Empty false n)) split (codes "empty ") (λ n v. refl) no_empty in
    let ray = choice-form table (λ n. LeafNode (Ray false n)) empty (codes "ray ") (λ n v. refl) no_ray in
    let plain = choice-form table (λ n. LeafNode (Bound false n)) ray (codes "bound ") (λ n v. refl) no_bound in
    form-as (choice-form (exact-form size lawful) (λ leaf. LeafNode leaf) plain (codes "exact") exact_line no_exact) (IsNode size) node_line within made (λ node v. refl)
  where
    no_empty : (node : TreeNode) (rest : List ℕ) → IsSplit size node → text_at (codes "empty ") (node_line node ++ rest) ≡ None
    no_empty node rest v = subst (λ (node : TreeNode). text_at (codes "empty ") (node_line node ++ rest) ≡ None) v.2 refl

    no_ray : (node : TreeNode) (rest : List ℕ) → IsEmptyOrSplit size node → text_at (codes "ray ") (node_line node ++ rest) ≡ None
    no_ray node rest (inl v) = subst (λ (node : TreeNode). text_at (codes "ray ") (node_line node ++ rest) ≡ None) v.2 refl
    no_ray node rest (inr v) = subst (λ (node : TreeNode). text_at (codes "ray ") (node_line node ++ rest) ≡ None) v.2 refl

    no_bound : (node : TreeNode) (rest : List ℕ) → IsNoBound size node → text_at (codes "bound ") (node_line node ++ rest) ≡ None
    no_bound node rest (inl v) = subst (λ (node : TreeNode). text_at (codes "bound ") (node_line node ++ rest) ≡ None) v.2 refl
    no_bound node rest (inr (inl v)) = subst (λ (node : TreeNode). text_at (codes "bound ") (node_line node ++ rest) ≡ None) v.2 refl
    no_bound node rest (inr (inr v)) = subst (λ (node : TreeNode). text_at (codes "bound ") (node_line node ++ rest) ≡ None) v.2 refl

    no_exact : (node : TreeNode) (rest : List ℕ) → IsNotExact size node → text_at (codes "exact") (node_line node ++ rest) ≡ None
    no_exact node rest (inl v) = subst (λ (node : TreeNode). text_at (codes "exact") (node_line node ++ rest) ≡ None) v.2 refl
    no_exact node rest (inr (inl v)) = subst (λ (node : TreeNode). text_at (codes "exact") (node_line node ++ rest) ≡ None) v.2 refl
    no_exact node rest (inr (inr (inl v))) = subst (λ (node : TreeNode). text_at (codes "exact") (node_line node ++ rest) ≡ None) v.2 refl
    no_exact node rest (inr (inr (inr v))) = subst (λ (node : TreeNode). text_at (codes "exact") (node_line node ++ rest) ≡ None) v.2 refl

    exact_line : (leaf : Leaf) → IsExactText size leaf → codes "exact" ++ exact_tail leaf ≡ node_line (LeafNode leaf)
    exact_line (Bound true n) v = refl
    exact_line (Ray true n) v = refl
    exact_line (Empty true g) v = refl
    exact_line (Bound false n) v = absurd (false≢true v.0.0)
    exact_line (Ray false n) v = absurd (false≢true v.0.0)
    exact_line (Empty false g) v = absurd (false≢true v.0.0)

    plain_text : (node : TreeNode) → is_exact_node node ≡ false → IsNodeWithin size.periods size.thermal size.tables node → IsNode size node
    plain_text node plain w = record { within = w; exact = λ e. absurd (false≢true (sym plain ∙ e)) }

    within : (node : TreeNode) → IsExactNode size node ⊎ IsNotExact size node → IsNode size node
    within node (inl v) = subst (IsNode size) v.2 (record { within = v.1.0.1; exact = λ e. v.1.1 })
    within node (inr (inl v)) = subst (IsNode size) v.2 (plain_text (LeafNode (Bound false v.0)) refl v.1)
    within node (inr (inr (inl v))) = subst (IsNode size) v.2 (plain_text (LeafNode (Ray false v.0)) refl v.1)
    within node (inr (inr (inr (inl v)))) = subst (IsNode size) v.2 (plain_text (LeafNode (Empty false v.0)) refl v.1)
    within node (inr (inr (inr (inr v)))) = subst (IsNode size) v.2 (plain_text (SplitNode v.0.0 v.0.1) refl v.1)

    made : (node : TreeNode) → IsNode size node → IsExactNode size node ⊎ IsNotExact size node
    made (LeafNode (Bound true n)) w = inl (Bound true n, ((refl, w.within), w.exact refl), refl)
    made (LeafNode (Ray true n)) w = inl (Ray true n, ((refl, w.within), w.exact refl), refl)
    made (LeafNode (Empty true g)) w = inl (Empty true g, ((refl, w.within), w.exact refl), refl)
    made (LeafNode (Bound false n)) w = inr (inl (n, w.within, refl))
    made (LeafNode (Ray false n)) w = inr (inr (inl (n, w.within, refl)))
    made (LeafNode (Empty false g)) w = inr (inr (inr (inl (g, w.within, refl))))
    made (SplitNode g t) w = inr (inr (inr (inr ((g, t), w.within, refl))))
