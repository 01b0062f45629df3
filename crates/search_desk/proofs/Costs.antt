-- Costs that may be missing, and the lesser of two.
use Rattle.std.proofs.Common.{ℤ, Option, Some, None, arith}
use Rattle.std.proofs.lemmas.Int.{ints, int_min_is}
use Rattle.uc_model.proofs.Common.{le_refl, le_trans}
use Rattle.incumbent.specs.Costs.{AtMost, least}

pub at_most_itself : (a : Option ℤ) → AtMost a a
at_most_itself None = tt
at_most_itself (Some a) = le_refl a

pub at_most_through : (a b c : Option ℤ) → AtMost a b → AtMost b c → AtMost a c
at_most_through a b None first second = tt
at_most_through a None (Some c) first second = absurd second
at_most_through None (Some b) (Some c) first second = absurd first
at_most_through (Some a) (Some b) (Some c) first second = le_trans a b c first second

-- the lesser of two costs is at most each of them
pub least_first : (a b : Option ℤ) → AtMost (least a b) a
least_first None b = tt
least_first (Some a) None = le_refl a
least_first (Some a) (Some b) = omega (arith, ints, int_min_is a b)

pub least_second : (a b : Option ℤ) → AtMost (least a b) b
least_second None b = at_most_itself b
least_second (Some a) None = tt
least_second (Some a) (Some b) = omega (arith, ints, int_min_is a b)

-- what is at most each of two costs is at most the lesser one
pub least_of : (c a b : Option ℤ) → AtMost c a → AtMost c b → AtMost c (least a b)
least_of c None b first second = second
least_of c (Some a) None first second = first
least_of None (Some a) (Some b) first second = absurd first
least_of (Some c) (Some a) (Some b) first second = omega (arith, ints, int_min_is a b, first, second)

-- of two pairs of costs
pub least_both : (a b c d : Option ℤ) → AtMost a c → AtMost b d → AtMost (least a b) (least c d)
least_both a b c d first second = grind (arith, ints, first, second)
