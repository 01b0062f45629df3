-- The seats of a new pool, one after another.
use Rattle.std.proofs.Common.{◌≡◌, ◌⊎◌, ℕ, zero, suc, ◌+◌, ◌-◌, ◌<◌, ◌≤◌, add-one, List, [], ◌∷◌, ◌++◌, map, length, get_or, take, drop, Some, append_assoc, sym, refl, ap, ◌∙◌, subst, inl, inr, ⊎_elim, arith, length-append, length-drop, slice_get, remove}
use Rattle.std.proofs.Math.Seq.{take-length}
use Rattle.std.proofs.lemmas.List.{take_more, take-map, drop-map, map-append, length-map, length-take}
use Rattle.steal_pool.specs.Seats.{DequeId, TheftOf, SeatOf, what_taken, untouched, IsFresh}
use Rattle.steal_pool.specs.Ends.{Own, Victim, own_id, victim_id}
use Rattle.steal_pool.specs.Pools.{AreFresh}

module _ {A : Type 0} where
  -- the first of what is left behind the first n
  pub drop_next : (xs : List A) (n : ℕ) (x : A) (rest : List A) → drop n xs ≡ x ∷ rest → (n < length xs) × (drop (n + 1) xs ≡ rest)
  drop_next [] zero x rest e = (cc)
  drop_next [] (suc n) x rest e = (cc)
  drop_next (y ∷ xs) zero x rest e = (omega arith, (cc))
  drop_next (y ∷ xs) (suc n) x rest e = let more = drop_next xs n x rest e in
      let same : suc n + 1 ≡ suc (n + 1) = omega arith in (omega arith, ap (λ k. drop k (y ∷ xs)) same ∙ more.1)

  -- the last ones of a list, by their number
  pub take-drop : (xs : List A) (n : ℕ) → take (length xs - n) (drop n xs) ≡ drop n xs
  take-drop xs n = ap (λ k. take k (drop n xs)) (sym (length-drop n xs)) ∙ take-length (drop n xs)

  -- what stands in a list with one more stood there, or is that one
  get_snoc : (xs : List A) (y : A) (i : ℕ) (z : A) → slice_get (xs ++ y ∷ []) i ≡ Some z → (slice_get xs i ≡ Some z) ⊎ ((i ≡ length xs) × (y ≡ z))
  get_snoc [] y zero z e = inr (refl, (cc))
  get_snoc [] y (suc i) z e = (cc)
  get_snoc (x ∷ xs) y zero z e = inl e
  get_snoc (x ∷ xs) y (suc i) z e = ⊎_elim (λ h. inl h) (λ (h : (i ≡ length xs) × (y ≡ z)). inr (ap suc h.0, h.1)) (get_snoc xs y i z e)

-- one more is made of the next of the items
pub made_more : {A B C : Type 0} (f : A → C) (g : B → C) (front : List C) (made more : List A) (items : List B) (i : ℕ) (a : A) (b : B)
    → map f made ≡ front ++ map g (take i items) → more ≡ made ++ a ∷ [] → i < length items → b ≡ get_or items i b → f a ≡ g b
    → map f more ≡ front ++ map g (take (i + 1) items)
made_more {A} {B} {C} f g front made more items i a b so_far added within is same =
    let next : map g (take (i + 1) items) ≡ map g (take i items) ++ g b ∷ [] =
    ap (map g) (take_more items i b within ∙ ap (λ (y : B). take i items ++ y ∷ []) (sym is)) ∙ map-append g (take i items) (b ∷ []) in
    ap (map f) added ∙ (map-append f made (a ∷ []) ∙ ((λ j. so_far j ++ same j ∷ [])
    ∙ (append_assoc front (map g (take i items)) (g b ∷ []) ∙ ap (λ (cs : List C). front ++ cs) (sym next))))

-- the identity of the deque at the front of what is left
pub id_next : (owns : List Own) (n : ℕ) (own : Own) (rest : List Own) → drop n owns ≡ own ∷ rest → own_id own ≡ get_or (map own_id owns) n (0, 0)
id_next [] zero own rest e = (cc)
id_next [] (suc n) own rest e = (cc)
id_next (o ∷ owns) zero own rest e = let same : o ≡ own = (cc) in ap own_id (sym same)
id_next (o ∷ owns) (suc n) own rest e = id_next owns n own rest e

-- the deques before one and those behind it are all but that one
pub all_but : (victims : List Victim) (me : ℕ) → map untouched (map victim_id (take me victims)) ++ map untouched (map victim_id (drop (me + 1) victims))
    ≡ map untouched (remove (map victim_id victims) me)
all_but victims me = simp (add-one, take-map, drop-map, map-append)

-- each worker has a way to each other
pub others_count : (others : List TheftOf) (ids : List DequeId) (me : ℕ) → me < length ids → map what_taken others ≡ map untouched (remove ids me)
    → length others + 1 ≡ length ids
others_count others ids me within same = grind (arith, length-map, length-append, length-take, length-drop, within, same)

pub fresh_more : (ids : List DequeId) (room : ℕ) (seats : List SeatOf) (seat : SeatOf) → AreFresh ids room seats → IsFresh ids room (length seats) seat
    → AreFresh ids room (seats ++ seat ∷ [])
fresh_more ids room seats seat fresh new i s at = ⊎_elim
    (λ (h : slice_get seats i ≡ Some s). fresh i s h)
    (λ (h : (i ≡ length seats) × (seat ≡ s)).
    let P : ℕ × SeatOf → Type 0 = λ x. IsFresh ids room x.0 x.1 in subst P (λ k. (sym h.0 k, h.1 k)) new)
    (get_snoc seats seat i s at)

-- one more worker has its seat
pub seats_more : (owns : List Own) (room me next : ℕ) (seats seats' : List SeatOf) (own : Own) (rest rest' : List Own) (seat : SeatOf)
    (others : List TheftOf) (ids : List DequeId) → drop me owns ≡ rest → rest ≡ own ∷ rest' → AreFresh (map own_id owns) room seats
    → length seats ≡ me → seats' ≡ seats ++ seat ∷ [] → next ≡ me + 1 → ids ≡ map own_id owns
    → map what_taken others ≡ map untouched (remove ids me)
    → seat ≡ record { me = me; deque = own_id own; room = room; put = []; took = []; others = others }
    → (drop next owns ≡ rest') × (next ≤ length owns) × AreFresh (map own_id owns) room seats'
seats_more owns room me next seats seats' own rest rest' seat others ids left front fresh count more one_more same_ids same is =
    let behind = drop_next owns me own rest' (left ∙ front) in
    let ids_count : length ids ≡ length owns = ap length same_ids ∙ length-map owns own_id in
    let others_are = others_count others ids me (omega (arith, behind.0)) same in
    let new : IsFresh (map own_id owns) room (length seats) seat = record {
      me = ap (λ (s : SeatOf). s.me) is ∙ sym count;
      deque = ap (λ (s : SeatOf). s.deque) is ∙ (id_next owns me own rest' (left ∙ front) ∙ ap (λ n. get_or (map own_id owns) n (0, 0)) (sym count));
      room = ap (λ (s : SeatOf). s.room) is;
      put = ap (λ (s : SeatOf). s.put) is;
      took = ap (λ (s : SeatOf). s.took) is;
      others = grind (arith, is, same, me, same_ids, owns, count);
      count = ap (λ (s : SeatOf). length s.others + 1) is ∙ (others_are ∙ ap length same_ids);
    } in (
      ap (λ n. drop n owns) one_more ∙ behind.1,
      omega arith,
      subst (AreFresh (map own_id owns) room) (sym more) (fresh_more (map own_id owns) room seats seat fresh new),
    )
