-- The keys of a map.
use Rattle.std.proofs.Common.{◌≡◌, ℕ, Bool, true, false, cond, ◌||◌, List, [], Option, Some, None, refl, ap, ◌∙◌, String, Global, is_some}
use Rattle.std.specs.Str.{bytes_eq}
use Rattle.std.specs.String.{string_bytes, string_eq}
use Rattle.std.specs.HashMap.{HashMap, UpdatesBy, IsEmpty}
use Rattle.std.specs.Map.{lookup}
use Rattle.std.proofs.lemmas.Map.Text.{hash_map_updates_text}
use Rattle.decimal_json.specs.inside.Scan.{knows, AddsKey, HasKeys}

either : {X : Type 0} (b : Bool) (v : X) (o : Option X) → is_some (cond b (Some v) o) ≡ (is_some o || b)
either true v None = refl
either true v (Some x) = refl
either false v None = refl
either false v (Some x) = refl

pub adds_key : {X S : Type 0} (m n : HashMap (String Global) X S) (key : List ℕ) (v : X) → UpdatesBy string_eq (λ k. bytes_eq key (string_bytes k)) m n (Some v) → AddsKey (knows m) (knows n) key
adds_key m n key v u = λ k. ap is_some (hash_map_updates_text key m n (Some v) u k) ∙ either (bytes_eq key k) v _

-- a map with no entry
pub knows_nothing : {X S : Type 0} (m : HashMap (String Global) X S) → IsEmpty m → HasKeys (knows m) []
knows_nothing m e = λ k. ap (λ es. is_some (lookup (λ j. bytes_eq k (string_bytes j)) es)) e
