-- The order of bounds that may be missing, and the lesser of two.
use Rattle.std.proofs.Common.{◌≡◌, refl, ap, arith, ℤ, Option, Some, None}
use Rattle.std.proofs.lemmas.Int.{ints, int_min_is}
use Rattle.branch_tree.specs.StoredTree.{AtMost, lesser_bound}

pub at_most_itself : (a : Option ℤ) → AtMost a a
at_most_itself None = tt
at_most_itself (Some a) = omega (arith, ints)

pub at_most_through : (a b c : Option ℤ) → AtMost a b → AtMost b c → AtMost a c
at_most_through a b None x y = tt
at_most_through a None (Some c) x y = absurd y
at_most_through None (Some b) (Some c) x y = absurd x
at_most_through (Some a) (Some b) (Some c) x y = omega (arith, ints)

pub at_most_both : (a b : Option ℤ) → AtMost a b → AtMost b a → a ≡ b
at_most_both None None x y = refl
at_most_both None (Some b) x y = absurd x
at_most_both (Some a) None x y = absurd y
at_most_both (Some a) (Some b) x y = let e : a ≡ b = omega (arith, ints) in ap Some e

pub lesser_first : (a b : Option ℤ) → AtMost (lesser_bound a b) a
lesser_first None b = tt
lesser_first (Some a) None = omega (arith, ints)
lesser_first (Some a) (Some b) = omega (arith, ints, int_min_is a b)

pub lesser_second : (a b : Option ℤ) → AtMost (lesser_bound a b) b
lesser_second None b = at_most_itself b
lesser_second (Some a) None = tt
lesser_second (Some a) (Some b) = omega (arith, ints, int_min_is a b)

pub lesser_greatest : (c a b : Option ℤ) → AtMost c a → AtMost c b → AtMost c (lesser_bound a b)
lesser_greatest c None b x y = y
lesser_greatest c (Some a) None x y = x
lesser_greatest None (Some a) (Some b) x y = absurd x
lesser_greatest (Some c) (Some a) (Some b) x y = omega (arith, ints, int_min_is a b)
