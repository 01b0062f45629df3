-- Texts in their order, and lines of words. This project's own form.
use Rattle.std.specs.Prelude.{ℕ, List, [], ◌∷◌, ◌++◌, flat_map}

-- texts one after another
abbrev pub joined : List (List ℕ) → List ℕ
joined [] = []
joined (text ∷ []) = text
joined (text ∷ (next ∷ texts)) = text ++ joined (next ∷ texts)

-- each word after a space, and then what follows
abbrev pub spaced : List (List ℕ) → List ℕ → List ℕ
spaced [] rest = rest
spaced (word ∷ words) rest = 32 ∷ (word ++ spaced words rest)

-- a line: its first word, the others, each after a space, and the line feed
unfoldable pub line : List ℕ → List (List ℕ) → List ℕ
line first words = first ++ spaced words (10 ∷ [])

-- a word for each element, each after a space
abbrev pub words_of : {X : Type 0} → (X → List ℕ) → List X → List ℕ
words_of word xs = flat_map (λ x. 32 ∷ word x) xs

-- a line of a word for each element, after its first word
unfoldable pub list_line : {X : Type 0} → List ℕ → (X → List ℕ) → List X → List ℕ
list_line first word xs = first ++ (words_of word xs ++ 10 ∷ [])
