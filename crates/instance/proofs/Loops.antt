-- What a loop over the entries of an array, or over the members of an object, has done up to a place.
use Rattle.std.proofs.Common.{◌≡◌, ℕ, ◌+◌, ◌*◌, ◌<◌, ◌≤◌, List, [], ◌∷◌, ◌++◌, drop, take, map, length, get_or, Bool, Result, Ok, sum_by, ap, sym, ◌∙◌, arith, ◌-◌, pos, neg_ℤ}
use Rattle.std.proofs.lemmas.Grind.{common_steps}
use Rattle.std.proofs.lemmas.List.{drop_more, length-append}
use Rattle.std.proofs.Math.Seq.{get_or-append_seam}
use Rattle.instance.specs.FirstFault.{MAX_POWER, each_at, last_output}
use Rattle.uc_model.specs.declared.instance.Point.{Point}
use Rattle.instance.specs.inside.Parts.{Reader, Counts}

-- So many of the items were read, and their rounded numbers counted, at most so many in each.
pub record HasRead {A J V E : Type 0} (view : J → V) (reads : List A → V → Result A E) (rounds : V → ℕ) (each : ℕ) (old new : Reader) (done : List A) (items : List J) (index : ℕ) : Type 0 where
  pub read : each_at reads done (map view (drop index items)) ≡ each_at reads [] (map view items)
  pub count : length done ≡ index
  pub exact : new.exact ≡ old.exact
  pub rounded : new.rounded ≡ old.rounded + sum_by rounds (map view (take index items))
  pub few : sum_by rounds (map view (take index items)) ≤ each * index

-- One item more.
pub read_more : {A J V E : Type 0} (view : J → V) (reads : Bool → List A → V → Result A E) (rounds : V → ℕ) (each : ℕ) (old mid new : Reader) (done grown : List A) (items : List J) (index : ℕ) (item : J) (x : A)
    → HasRead view (reads old.exact) rounds each old mid done items index → index < length items → item ≡ get_or items index item → reads mid.exact done (view item) ≡ Ok x
    → Counts mid new (rounds (view item)) each → grown ≡ done ++ x ∷ [] → HasRead view (reads old.exact) rounds each old new grown items (index + 1)
unfolding each_at
read_more view reads rounds each old mid new done grown items index item x h lt is e k g =
    let next : drop index items ≡ item ∷ drop (index + 1) items = drop_more items index item lt ∙ ap (λ (j : _). j ∷ drop (index + 1) items) (sym is) in
    let this : reads old.exact done (view item) ≡ Ok x = ap (λ (exact : Bool). reads exact done (view item)) (sym h.exact) ∙ e in
    record {
      read = rw g (rw (next, this) at h.read);
      count = grind (arith, common_steps);
      exact = k.exact ∙ h.exact;
      rounded = grind (arith, common_steps);
      few = grind (arith, common_steps);
    }

-- a point at the end of a list
pub last_of : (front : List Point) (p : Point) → last_output (front ++ p ∷ []) ≡ p.mw
last_of front p =
    let d : Point = record { mw = neg_ℤ (pos MAX_POWER); cost = pos 0 } in
    let at_end : length (front ++ p ∷ []) - 1 ≡ length front = omega (arith, length-append front (p ∷ [])) in
    ap (λ (k : ℕ). (get_or (front ++ p ∷ []) k d).mw) at_end ∙ ap (λ (q : Point). q.mw) (get_or-append_seam front p [] d)
