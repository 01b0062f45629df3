-- The two kinds of value that a table has at a node, V and, with `exact`, the exact value VE; and what leaves a node
-- without one. Source: as those of NodeValue and ExactValue.
--
-- Units count from 0 here.
use Rattle.std.specs.Prelude.{ℕ, Bool, true, false, ℤ}
use Rattle.dual_model.specs.Fixings.{Instance, Node, HasNoPattern, HasEmptyUnit, IsFirstEmpty}
use Rattle.dual_model.specs.NodeValue.{Table, IsNodeValue}
use Rattle.dual_model.specs.ExactValue.{HasNoUnitSchedule, HasUnscheduledUnit, IsFirstUnscheduled, IsExactNodeValue}

-- v is the value of this kind
abbrev pub IsValueOf : Bool → Instance → Node → Table → ℤ → Type 0
IsValueOf false instance node table v = IsNodeValue instance node table v
IsValueOf true instance node table v = IsExactNodeValue instance node table v

-- unit g is blocked at the node: it has no pattern there, or no schedule of its own
abbrev pub IsBlocked : Bool → Instance → Node → ℕ → Type 0
IsBlocked false instance node g = HasNoPattern instance node g
IsBlocked true instance node g = HasNoUnitSchedule instance node g

-- some unit of the instance is
abbrev pub HasBlockedUnit : Bool → Instance → Node → Type 0
HasBlockedUnit false instance node = HasEmptyUnit instance node
HasBlockedUnit true instance node = HasUnscheduledUnit instance node

-- and unit g is the first one
abbrev pub IsFirstBlocked : Bool → Instance → Node → ℕ → Type 0
IsFirstBlocked false instance node g = IsFirstEmpty instance node g
IsFirstBlocked true instance node g = IsFirstUnscheduled instance node g
