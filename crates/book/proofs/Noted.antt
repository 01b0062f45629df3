-- Which nodes are held, after one claim more and after one that ended.
use Rattle.std.proofs.Common.{◌≡◌, ℕ, ◌<◌, Bool, true, false, List, [], ◌∷◌, ◌++◌, length, set, ap, sym, ◌∙◌, subst, arith, ⊎_elim, Option, Some, None, slice_get, slice_index_or, get_or-set_same, get_or-set_other, length-set}
use Rattle.std.proofs.lemmas.Bool.{cases_eq}
use Rattle.std.proofs.lemmas.List.{map-append}
use Rattle.search_machine.specs.Prelude.{IsHeldIn}
use Rattle.search_machine.specs.declared.holder.Holder.{Holder}
use Rattle.search_machine.proofs.Claims.{get_push_cases, get_set_cases, held_more, held_new, held_before, still_held, was_held}
use Rattle.book.specs.Prelude.{Claim, Held, holder_by, holder_of, holders, IsHeldOnce}
use Rattle.book.specs.inside.Kept.{AreNoted}

-- ---- one node is held once
pub once_none : IsHeldOnce []
once_none one other first second e f same = absurd (cc)

pub once_push : (claims : List (Option Holder)) (holder : Holder) → IsHeldOnce claims → ¬ IsHeldIn claims holder.node
    → IsHeldOnce (claims ++ Some holder ∷ [])
once_push claims holder once unheld one other first second e f same =
    grind (arith, get_push_cases, once, unheld, one, other, first, second, e, f, same)

pub once_ended : (claims : List (Option Holder)) (place : ℕ) → IsHeldOnce claims → IsHeldOnce (set claims place None)
once_ended claims place once one other first second e f same = grind (arith, get_set_cases, once, one, other, first, second, e, f, same)

-- nobody holds the node of the claim that ended
unheld_ended : (claims : List (Option Holder)) (place : ℕ) (holder : Holder) → IsHeldOnce claims → slice_get claims place ≡ Some (Some holder)
    → ¬ IsHeldIn (set claims place None) holder.node
unheld_ended claims place holder once e held = grind (arith, get_set_cases, once, e, held)

-- ---- what is noted
-- the holders of claims with one more
pub holders_push : (claims : List Claim) (next : Claim) → holders (claims ++ next ∷ []) ≡ holders claims ++ holder_of next ∷ []
holders_push claims next = map-append holder_of claims (next ∷ [])

pub noted_push : (claims : List Claim) (held : List Bool) (next : Claim) → next.status ≡ Held → AreNoted claims held → next.node < length held
    → ¬ IsHeldIn (holders claims) next.node → AreNoted (claims ++ next ∷ []) (set held next.node true)
noted_push claims held next is noted inside unheld =
    let holder : Holder = record { worker = next.worker; node = next.node } in
    let own : holder_of next ≡ Some holder = ap (λ s. holder_by s holder) is in
    let more : holders (claims ++ next ∷ []) ≡ holders claims ++ Some holder ∷ [] =
    holders_push claims next ∙ ap (λ h. holders claims ++ h ∷ []) own in
    let size = length-set held next.node true in
    record {
      once = subst IsHeldOnce (sym more) (once_push (holders claims) holder noted.once unheld);
      held = λ node within e. grind (arith, held_new, held_more, get_or-set_other, cases_eq, more, claims, holder, noted, within, size, held, e);
      unheld = λ node within e there. ⊎_elim
          (λ (same : node ≡ next.node).
          let here : slice_index_or (set held next.node true) node false ≡ true =
          ap (λ n. slice_index_or (set held next.node true) n false) same ∙ get_or-set_same held next.node true false inside in
          let both : true ≡ false = sym here ∙ e in
          absurd (cc))
          (λ (differ : node ≡ next.node → ⊥).
          noted.unheld node (omega (arith, within, size)) (sym (get_or-set_other held next.node node true false differ) ∙ e)
          (held_before (holders claims) holder node differ (subst (λ hs. IsHeldIn hs node) more there)))
          (cases_eq node next.node);
    }

pub noted_ended : (claims later : List Claim) (held : List Bool) (place : ℕ) (holder : Holder) → AreNoted claims held
    → slice_get (holders claims) place ≡ Some (Some holder) → holders later ≡ set (holders claims) place None → holder.node < length held
    → AreNoted later (set held holder.node false)
noted_ended claims later held place holder noted at is inside =
    let size = length-set held holder.node false in
    record {
      once = subst IsHeldOnce (sym is) (once_ended (holders claims) place noted.once);
      held = λ node within e. ⊎_elim
          (λ (same : node ≡ holder.node).
          let here : slice_index_or (set held holder.node false) node false ≡ false =
          ap (λ n. slice_index_or (set held holder.node false) n false) same ∙ get_or-set_same held holder.node false false inside in
          let both : false ≡ true = sym here ∙ e in
          absurd (cc))
          (λ (differ : node ≡ holder.node → ⊥).
          subst (λ hs. IsHeldIn hs node) (sym is)
          (still_held (holders claims) place holder node at differ
          (noted.held node (omega (arith, within, size)) (sym (get_or-set_other held holder.node node false false differ) ∙ e))))
          (cases_eq node holder.node);
      unheld = λ node within e there. ⊎_elim
          (λ (same : node ≡ holder.node).
          unheld_ended (holders claims) place holder noted.once at
          (subst (IsHeldIn (set (holders claims) place None)) same (subst (λ hs. IsHeldIn hs node) is there)))
          (λ (differ : node ≡ holder.node → ⊥).
          noted.unheld node (omega (arith, within, size)) (sym (get_or-set_other held holder.node node false false differ) ∙ e)
          (was_held (holders claims) place node (subst (λ hs. IsHeldIn hs node) is there)))
          (cases_eq node holder.node);
    }
