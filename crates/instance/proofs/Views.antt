-- What a `Json` of each kind that an instance has is seen as.
use Rattle.std.proofs.Common.{◌≡◌, map, ℕ, List, [], ◌∷◌, refl, sym, ap, ◌∙◌}
use Rattle.std.specs.Global.{Vec}
use Rattle.decimal_json.specs.Value.{Value, number, array, object, items_of, members_of}
use Rattle.decimal_json.specs.View.{view, pair_view, decimal_of, view_step, pair_step}
use Rattle.decimal_json.specs.declared.types.Number.{Number}
use Rattle.decimal_json.specs.declared.types.Json.{Json}
use Rattle.decimal_json.specs.declared.types.Json.TheOpen.{Json-F}
use Rattle.decimal_json.specs.declared.types.Json.TheVariants as json
use Rattle.decimal_json.specs.declared.types.Json.TheFolds.{fold-roll-Json}
use Rattle.decimal_json.specs.declared.types.Pair.{Pair}
use Rattle.instance.specs.Fields.{entries_of, pairs_of}

pub view_array : (js : Vec Json) → view (json.Array js) ≡ array (items_of (map view js.items))
view_array js = ap view (sym (json.rolls-Array js)) ∙ fold-roll-Json Value (List ℕ × Value) view_step pair_step (Json-F.Array js)

pub view_object : (ps : Vec Pair) → view (json.Object ps) ≡ object (members_of (map pair_view ps.items))
view_object ps = ap view (sym (json.rolls-Object ps)) ∙ fold-roll-Json Value (List ℕ × Value) view_step pair_step (Json-F.Object ps)

pub entries_again : (vs : List Value) → entries_of (items_of vs) ≡ vs
entries_again [] = refl
entries_again (v ∷ vs) = ap (λ (ws : List Value). v ∷ ws) (entries_again vs)

pub pairs_again : (ms : List (List ℕ × Value)) → pairs_of (members_of ms) ≡ ms
pairs_again [] = refl
pairs_again (m ∷ ms) = ap (λ (ns : List (List ℕ × Value)). m ∷ ns) (pairs_again ms)

pub view_number : (n : Number) → view (json.Number n) ≡ number (decimal_of n)
view_number n = ap view (sym (json.rolls-Number n)) ∙ fold-roll-Json Value (List ℕ × Value) view_step pair_step (Json-F.Number n)
