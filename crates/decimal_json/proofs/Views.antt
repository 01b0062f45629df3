-- What `view` gives at each variant.
use Rattle.std.proofs.Common.{◌≡◌, Bool, rules, map, String, Vec, Global}
use Rattle.std.specs.String.{string_bytes}
use Rattle.decimal_json.specs.declared.types.Json.TheViews.{roll-Pair}
use Rattle.decimal_json.specs.declared.types.Json.{Json, the_lemmas}
use Rattle.decimal_json.specs.declared.types.Json.TheVariants as json
use Rattle.decimal_json.specs.Value.{null, boolean, number, text, array, object, items_of, members_of}
use Rattle.decimal_json.specs.View.{Number, Pair, view, pair_view, decimal_of}

pub view-null : view json.Null ≡ null
view-null = search (rules, the_lemmas)

pub view-bool : (b : Bool) → view (json.Bool b) ≡ boolean b
view-bool b = search (rules, the_lemmas)

pub view-number : (n : Number) → view (json.Number n) ≡ number (decimal_of n)
view-number n = search (rules, the_lemmas)

pub view-text : (t : String Global) → view (json.Text t) ≡ text (string_bytes t)
view-text t = search (rules, the_lemmas)

pub view-array : (vs : Vec Json Global) → view (json.Array vs) ≡ array (items_of (map view vs.items))
view-array vs = search (rules, the_lemmas)

pub view-object : (ps : Vec Pair Global) → view (json.Object ps) ≡ object (members_of (map pair_view ps.items))
view-object ps = search (rules, the_lemmas)

pub view-pair : (k : String Global) (v : Json) → pair_view (roll-Pair (record { key = k; value = v })) ≡ (string_bytes k, view v)
view-pair k v = search (rules, the_lemmas)
