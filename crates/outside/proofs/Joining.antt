-- How texts one after another come apart.
use Rattle.std.proofs.Common.{◌≡◌, ℕ, List, [], ◌∷◌, ◌++◌, map, refl, sym, ap, ◌∙◌, append_assoc, append-nil}
use Rattle.std.specs.List.{flat_map}
use Rattle.outside.specs.Lines.{joined}

-- the first, and the others
pub joined-cons : (text : List ℕ) (texts : List (List ℕ)) → joined (text ∷ texts) ≡ text ++ joined texts
joined-cons text [] = sym (append-nil text)
joined-cons text (next ∷ texts) = refl

pub joined-append : (xs ys : List (List ℕ)) → joined (xs ++ ys) ≡ joined xs ++ joined ys
joined-append [] ys = refl
joined-append (text ∷ texts) ys =
    joined-cons text (texts ++ ys) ∙ ap (λ rest. text ++ rest) (joined-append texts ys)
    ∙ sym (append_assoc text (joined texts) (joined ys)) ∙ ap (λ front. front ++ joined ys) (sym (joined-cons text texts))

-- one for each element
pub joined-map : {X : Type 0} (f : X → List ℕ) (xs : List X) → joined (map f xs) ≡ flat_map f xs
joined-map f [] = refl
joined-map f (x ∷ xs) = joined-cons (f x) (map f xs) ∙ ap (λ rest. f x ++ rest) (joined-map f xs)
