-- How bytes that reads take add up.
use Rattle.std.proofs.Common.{◌≡◌, ℕ, ◌+◌, ◌-◌, List, length, take, drop, ◌++◌, Option, None, Some, refl, ap, sym, ◌∙◌, append_assoc}
use Rattle.std.proofs.lemmas.List.{take_rest, take-append-drop, drop-drop}
use Rattle.std.specs.Option.{option_map}
use Rattle.outside.specs.Prelude.{SlotState, unread, Reads}

-- bytes that were taken one after another
unread-bytes : (xs ys : List ℕ) (left : Option (List ℕ)) → option_map (λ rest. xs ++ rest) (option_map (λ rest. ys ++ rest) left) ≡ option_map (λ rest. (xs ++ ys) ++ rest) left
unread-bytes xs ys None = refl
unread-bytes xs ys (Some rest) = ap Some (sym (append_assoc xs ys rest))

-- one read after others
pub reads-more : (name xs ys : List ℕ) (a b c : SlotState) → Reads name xs a b → b ≡ unread ys c → Reads name (xs ++ ys) a c
reads-more name xs ys a b c h k = h ∙ ap (unread xs) k ∙ ap (λ left. record c { left = left }) (unread-bytes xs ys c.left)

-- what is left from i on is the next n bytes and then what is left from i + n on
pub next-then-rest : (xs source taken : List ℕ) (i n : ℕ) → source ≡ take (length xs - i) (drop i xs) → taken ≡ take n source → drop i xs ≡ taken ++ drop (i + n) xs
next-then-rest xs source taken i n e h = rw (h, e, take_rest, ← drop-drop n i xs) (sym (take-append-drop n (drop i xs)))
