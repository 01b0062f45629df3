-- The least way by its first switch: what is known of the earlier ones, the next one, and those behind it.
use Rattle.std.proofs.Common.{◌≡◌, ℕ, suc, ◌-◌, ◌<◌, Bool, false, not, ◌==◌, sym, ap, ◌∙◌, arith, ℤ, IsTrue, Option, Some, None, if◌then◌else◌}
use Rattle.std.proofs.lemmas.Int.{ints}
use Rattle.std.proofs.lemmas.Bool.{cond-true, cond-false, eq-eqb, ne_eqb}
use Rattle.dual_model.specs.Prelude.{lesser_of, total_of}
use Rattle.dual_model.proofs.Costs.{lesser-assoc, lesser-none}
use Rattle.unit_runs.specs.RunsToGo.{Fix, may_stay, runs_to_go, switch_cost}
use Rattle.unit_runs.proofs.Changes.{by_change}
use Rattle.unit_exact.specs.inside.Choices.{IsCostBelow}
use Rattle.unit_exact.specs.inside.Problems.{Table, Thermal}
use Rattle.unit_exact.specs.inside.Switches.{switch_total}

-- ---- the lesser of several
-- what is found below what is known is as good as the cost
pub lesser-below : (known cost found : Option ℤ) → IsCostBelow known cost found → lesser_of known found ≡ lesser_of known cost
lesser-below known cost found is = grind (arith, ints, is)

pub some-below : (known cost found : Option ℤ) (v : ℤ) → IsCostBelow known cost found → found ≡ Some v → cost ≡ Some v
some-below known cost found v is e = grind (arith, ints, is, e)

-- with one more way known
pub next-cost : (known total rest whole new : Option ℤ) → lesser_of known (lesser_of total rest) ≡ whole → new ≡ lesser_of known total
    → lesser_of new rest ≡ whole
next-cost known total rest whole new e is = ap (λ o. lesser_of o rest) is ∙ lesser-assoc known total rest ∙ e

-- ---- a period of the recursion
module _ (periods : ℕ) (table : Table) (unit : Thermal) (fix : Fix) where
  abbrev to_go : ℕ → Bool → ℕ → Option ℤ
  to_go t was since = runs_to_go periods table unit fix (periods - t) t was since

  -- the state goes on in period t
  abbrev pub kept : ℕ → Bool → ℕ → Option ℤ
  kept t was since = if may_stay unit fix t was then runs_to_go periods table unit fix (periods - suc t) (suc t) was since else None

  -- what a switch in a period of the horizon costs with all that follows
  pub total-before : (t : ℕ) (was : Bool) (since : ℕ) → t < periods
      → switch_total periods table unit fix t was since
      ≡ total_of (switch_cost periods table unit fix t was since) (runs_to_go periods table unit fix (periods - suc t) (suc t) (not was) (suc t))
  total-before t was since l = cond-false (t == periods) _ _ (ne_eqb t periods (λ e. omega (arith, l, e)))

  pub by_switch : (t : ℕ) (was : Bool) (since : ℕ) → t < periods
      → to_go t was since ≡ lesser_of (switch_total periods table unit fix t was since) (kept t was since)
  by_switch t was since l =
      let left : periods - t ≡ suc (periods - suc t) = omega arith in
      ap (λ n. runs_to_go periods table unit fix n t was since) left
      ∙ by_change periods table unit fix (periods - suc t) t was since
      ∙ ap (λ o. lesser_of o (kept t was since)) (sym (total-before t was since l))

  pub at_end : (t : ℕ) (was : Bool) (since : ℕ) → t ≡ periods → to_go t was since ≡ switch_total periods table unit fix t was since
  at_end t was since e =
      let left : periods - t ≡ 0 = omega arith in
      ap (λ n. runs_to_go periods table unit fix n t was since) left ∙ sym (cond-true (t == periods) _ _ (eq-eqb t periods e))

  -- ---- the ways from period t on with what is known before
  pub behind : (t : ℕ) (was : Bool) (since : ℕ) (known new whole : Option ℤ) → t < periods
      → lesser_of known (to_go t was since) ≡ whole → new ≡ lesser_of known (switch_total periods table unit fix t was since)
      → lesser_of new (kept t was since) ≡ whole
  behind t was since known new whole l e is =
      next-cost known (switch_total periods table unit fix t was since) (kept t was since) whole new
      (ap (lesser_of known) (sym (by_switch t was since l)) ∙ e) is

  pub none_behind : (t : ℕ) (was : Bool) (since : ℕ) (known new whole : Option ℤ) → t ≡ periods
      → lesser_of known (to_go t was since) ≡ whole → new ≡ lesser_of known (switch_total periods table unit fix t was since) → new ≡ whole
  none_behind t was since known new whole end e is = is ∙ ap (lesser_of known) (sym (at_end t was since end)) ∙ e

  pub goes_on : (t : ℕ) (was : Bool) (since : ℕ) (new whole : Option ℤ) → IsTrue (may_stay unit fix t was)
      → lesser_of new (kept t was since) ≡ whole → lesser_of new (to_go (suc t) was since) ≡ whole
  goes_on t was since new whole may e =
      ap (lesser_of new) (sym (cond-true (may_stay unit fix t was) (to_go (suc t) was since) None may)) ∙ e

  pub ends_here : (t : ℕ) (was : Bool) (since : ℕ) (new whole : Option ℤ) → may_stay unit fix t was ≡ false
      → lesser_of new (kept t was since) ≡ whole → new ≡ whole
  ends_here t was since new whole may e =
      sym (lesser-none new) ∙ ap (lesser_of new) (sym (cond-false (may_stay unit fix t was) (to_go (suc t) was since) None may)) ∙ e
