-- A walk's path goes on as one: below a split on a cell that it hasn't decided, and where its last decision is left or
-- turned.
use Rattle.std.proofs.Common.{◌≡◌, ◌<◌, Bool, not, List, [], ◌∷◌, ◌++◌, length, take, get_or, subst, ◌∙◌, arith, IsTrue}
use Rattle.std.proofs.Math.Seq.{get_or-append_seam}
use Rattle.std.proofs.lemmas.List.{get_or_append_left, length-append, take-append-le, take_all}
use Rattle.dual_model.specs.Prelude.{IsCell, is_decided}
use Rattle.leaf_values.proofs.PathsOfNodes.{decides_once-more, decides_once-take}
use Rattle.cert_check.specs.inside.Walks.{Fixing, Instance, IsPath}
use Rattle.cert_check.proofs.Places.{each-push}

-- one decision more
pub path-more : (instance : Instance) (path : List Fixing) (last : Fixing) → IsPath instance path → IsCell instance last.g last.t
    → IsTrue (not (is_decided (record { fixings = path }) last.g last.t)) → IsPath instance (path ++ last ∷ [])
path-more instance path last is cell free = record {
  cells = each-push (λ fixing. IsCell instance fixing.g fixing.t) path last is.cells cell;
  once = decides_once-more path last is.once free;
}

-- one less
pub path-less : (instance : Instance) (front : List Fixing) (last : Fixing) → IsPath instance (front ++ last ∷ []) → IsPath instance front
path-less instance front last is = grind (arith, take-append-le, take_all, get_or_append_left, length-append, decides_once-take, is)

-- and the last one decided the other way
pub path-turned : (instance : Instance) (front : List Fixing) (last : Fixing) (on : Bool) → IsPath instance (front ++ last ∷ [])
    → IsPath instance (front ++ (record { g = last.g; t = last.t; on = on }) ∷ [])
path-turned instance front last on is =
    let whole = front ++ last ∷ [] in
    let within : length front < length whole = omega (arith, length-append front (last ∷ [])) in
    let is_last : get_or whole (length front) last ≡ last = get_or-append_seam front last [] last in
    let cut : take (length front) whole ≡ front =
    take-append-le (length front) front (last ∷ []) (omega arith) ∙ take_all (length front) front (omega arith) in
    path-more instance front (record { g = last.g; t = last.t; on = on }) (path-less instance front last is)
    (subst (λ (fixing : Fixing). IsCell instance fixing.g fixing.t) is_last (is.cells (length front) last within))
    (subst (λ (path : List Fixing). IsTrue (not (is_decided (record { fixings = path }) last.g last.t))) cut
    (subst (λ (fixing : Fixing). IsTrue (not (is_decided (record { fixings = take (length front) whole }) fixing.g fixing.t))) is_last
    (is.once.fresh (length front) last within)))
