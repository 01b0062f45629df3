-- How the texts of the pairs of two lists add up.
use Rattle.std.proofs.Common.{◌≡◌, ℕ, ◌+◌, ◌<◌, ◌≤◌, List, [], ◌∷◌, ◌++◌, length, take, min, get_or, ◌∙◌, ap, sym, append-nil, arith}
use Rattle.std.specs.List.{flat_map, zip}
use Rattle.std.proofs.lemmas.List.{take_more, take_all}
use Rattle.std.proofs.lemmas.List.Concat.{flat_map-append}
use Rattle.std.proofs.lemmas.Slice.Zip.{length-zip, get_or-zip}

-- the texts of the first i pairs, and then that of the next one
pub next-pair : {A B : Type 0} (f : A × B → List ℕ) (ks : List A) (vs : List B) (i : ℕ) (k : A) (v : B)
    → i < length ks → i < length vs → k ≡ get_or ks i k → v ≡ get_or vs i v
    → flat_map f (take i (zip ks vs)) ++ f (k, v) ≡ flat_map f (take (i + 1) (zip ks vs))
next-pair f ks vs i k v within_ks within_vs at_k at_v =
    let pairs = zip ks vs in
    let within : i < length pairs = omega (arith, length-zip ks vs) in
    let next : get_or pairs i (k, v) ≡ (k, v) = get_or-zip ks vs i (k, v) within_ks within_vs ∙ cc in
    sym (ap (flat_map f) (take_more pairs i (k, v) within) ∙ flat_map-append f (take i pairs) (get_or pairs i (k, v) ∷ [])
    ∙ ap (λ pair. flat_map f (take i pairs) ++ (f pair ++ [])) next
    ∙ ap (λ text. flat_map f (take i pairs) ++ text) (append-nil (f (k, v))))

-- all pairs are as many as the shorter list has elements
pub all-pairs : {A B : Type 0} (ks : List A) (vs : List B) (i : ℕ) → min (length ks) (length vs) ≤ i → take i (zip ks vs) ≡ zip ks vs
all-pairs ks vs i within = take_all i (zip ks vs) (omega (arith, length-zip ks vs))
