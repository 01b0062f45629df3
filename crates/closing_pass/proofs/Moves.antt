-- The move by which a claim is ended may be made.
use Rattle.std.proofs.Common.{◌≡◌, ◌∙◌, ℕ, Bool, true, false, cond, ◌&&◌, refl, sym, subst, ap, arith, ℤ, pos, ◌<ℤ◌, int_lt, Option, Some, None, MatchOption}
use Rattle.std.proofs.lemmas.Int.{ints}
use Rattle.std.specs.Ordering.{int_eq}
use Rattle.branch_tree.specs.Prelude.{is_within_gap, IsFreeAt}
use Rattle.branch_tree.specs.declared.found.Outcome.{Outcome}
use Rattle.branch_tree.specs.declared.found.Outcome.TheVariants as outcome
use Rattle.search_machine.specs.Prelude.{stored_at, IsMoveLegal, MayGoOn, bound_of, kept, kept_after}
use Rattle.search_machine.specs.declared.event.Move.{Move}
use Rattle.search_machine.specs.declared.stored.Stored.{Stored}
use Rattle.book.specs.Prelude.{BookView, state_of}
use Rattle.book.specs.BookView.{Table}
use Rattle.search_desk.specs.Commits.{bound_after, move_of, open_move, value_move}

-- ---- what the node stores then
pub kept_bound : (stored : Stored) (number : ℕ) (k : ℤ) (exact : Bool) (result : Outcome)
    → (kept_after stored number k exact result).value ≡ bound_after stored.value k result
kept_bound stored number k exact (outcome.Empty g) = refl
kept_bound stored number k exact (outcome.Value v) = by_test (int_lt (pos 0) k && int_lt stored.value (bound_of v k))
  where
    by_test : (greater : Bool)
        → (cond {A = Stored} greater (record { table = number; value = bound_of v k; exact = exact }) stored).value
        ≡ (cond {A = Stored} greater (record { table = 0; value = bound_of v k; exact = false }) (record { table = 0; value = stored.value; exact = false })).value
    by_test true = refl
    by_test false = refl

-- ---- the move
abbrev AnyCost : ℤ → Type 0
AnyCost cost = Unit {0}

module _ (book : BookView) (node : ℕ) (table : Table) (exact : Bool) (gap : ℕ) (bound : ℤ) (same : gap ≡ book.gap)
    (stored : bound ≡ (stored_at book.tree node).value) where
  abbrev Legal : Outcome → Move → Type 0
  Legal result move = IsMoveLegal AnyCost (state_of book) node table exact result move

  pub open_legal : (v : ℤ) (cell : Option (ℕ × ℕ))
      → MatchOption cell (MayGoOn (state_of book) node) (λ cell. IsFreeAt book.tree node cell.0 cell.1) → Legal (outcome.Value v) (open_move cell)
  open_legal v None may = (tt, may)
  open_legal v (Some cell) free = (tt, free)

  kept_is : (result : Outcome) → (kept (state_of book) node table exact result).value ≡ bound_after bound table.k result
  kept_is result =
      kept_bound (stored_at book.tree node) _ table.k exact result ∙ ap (λ b. bound_after b table.k result) (sym stored)

  value_legal : (seen : Option ℤ) (v : ℤ) (cell : Option (ℕ × ℕ))
      → MatchOption cell (MayGoOn (state_of book) node) (λ cell. IsFreeAt book.tree node cell.0 cell.1)
      → Legal (outcome.Value v) (value_move seen (bound_after bound table.k (outcome.Value v)) gap cell)
  value_legal None v cell may = open_legal v cell may
  value_legal (Some cost) v cell may = by_gap (is_within_gap cost (Some (bound_after bound table.k (outcome.Value v))) gap) refl
    where
      by_gap : (within : Bool) → is_within_gap cost (Some (bound_after bound table.k (outcome.Value v))) gap ≡ within
          → Legal (outcome.Value v) (value_move (Some cost) (bound_after bound table.k (outcome.Value v)) gap cell)
      by_gap false is = rw is (open_legal v cell may)
      by_gap true is = rw is (
        tt,
        record {
          looked = tt;
          within = subst (λ g. is_within_gap cost (Some (kept (state_of book) node table exact (outcome.Value v)).value) g ≡ true) same
              (subst (λ b. is_within_gap cost (Some b) gap ≡ true) (sym (kept_is (outcome.Value v))) is);
        },
      )

  pub move_legal : (seen : Option ℤ) (cell : Option (ℕ × ℕ)) (result : Outcome)
      → MatchOption cell (MayGoOn (state_of book) node) (λ cell. IsFreeAt book.tree node cell.0 cell.1)
      → Legal result (move_of seen (bound_after bound table.k result) gap table.k cell result)
  move_legal seen cell (outcome.Empty g) may = tt
  move_legal seen cell (outcome.Value v) may = by_ray (int_eq table.k (pos 0) && int_lt (pos 0) v) refl
    where
      zero_scale : (k v : ℤ) → (int_eq k (pos 0) && int_lt (pos 0) v) ≡ true → k ≡ pos 0
      zero_scale k v h = grind (arith, ints)

      above : (k v : ℤ) → (int_eq k (pos 0) && int_lt (pos 0) v) ≡ true → pos 0 <ℤ v
      above k v h = grind (arith, ints)

      by_ray : (ray : Bool) → (int_eq table.k (pos 0) && int_lt (pos 0) v) ≡ ray
          → Legal (outcome.Value v) (move_of seen (bound_after bound table.k (outcome.Value v)) gap table.k cell (outcome.Value v))
      by_ray true is = rw is (zero_scale table.k v is, above table.k v is)
      by_ray false is = rw is (value_legal seen v cell may)
