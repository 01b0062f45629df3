-- Marks are kept by units that have the same amount in two rows.
-- Cite by `use Rattle.decommitment.proofs.Stretches.{kept_more}`.
use Rattle.std.proofs.Common.{ℕ, ◌+◌, ◌<◌, ◌≤◌, List, ℤ, Bool, IsTrue, length, length-set, set, get_or-set_other, get_or-set_same, arith}
use Rattle.std.proofs.lemmas.Bool.{cases_eq}
use Rattle.decommitment.specs.inside.Stretches.{HaveKept, IsMarked, IsSameAt}

-- the units of a stretch have kept their marks where all are the same
pub kept_where_same : (renewables : ℕ) (first second : List ℤ) (from to : ℕ) (marks : List Bool)
    → ((g : ℕ) → from ≤ g → g < to → IsSameAt renewables first second g) → HaveKept renewables first second from to marks marks
kept_where_same renewables first second from to marks all = grind (arith, all)

-- at first each has
pub all_kept : (renewables : ℕ) (first second : List ℤ) (from : ℕ) (marks : List Bool) → HaveKept renewables first second from from marks marks
all_kept renewables first second from marks = kept_where_same renewables first second from from marks (λ g low high. absurd (omega (arith, low, high)))

-- a unit more: its mark stays only where it had one and is the same
pub kept_more : (renewables : ℕ) (first second : List ℤ) (from g : ℕ) (old middle : List Bool) (mark : Bool) → g < length old
    → HaveKept renewables first second from g old middle → (IsTrue mark → IsMarked middle g) → (IsTrue mark → IsSameAt renewables first second g)
    → HaveKept renewables first second from (g + 1) old (set middle g mark)
kept_more renewables first second from g old middle mark inside was had is =
    grind (arith, length-set, cases_eq, get_or-set_same, get_or-set_other, inside, was, had, is)
