-- Each place holds its cell's term.
use Rattle.std.proofs.Common.{arith, ◌≡◌, ℕ, ◌<◌, ◌≤◌, Bool, ℤ, pos, lit<, Option, None, IfSome, List, slice_index_or, unsigned_abs}
use Rattle.std.specs.Int.{w64}
use Rattle.std.proofs.lemmas.Int.{to_z-of_z}
use Rattle.uc_model.specs.declared.instance.Thermal.{Thermal}
use Rattle.uc_model.specs.declared.instance.Point.{Point}
use Rattle.uc_model.proofs.Sizes.{wide}
use Rattle.uc_model.specs.declared.limits.TheConstants.{MAX_TERM}
use Rattle.dual_model.specs.declared.limits.TheConstants.{MAX_UNIT_PRICE}
use Rattle.uc_model.specs.Prelude.{place, cell_cap}
use Rattle.dual_model.specs.Prelude.{IsCellTerm, IsTermOfRow}
use Rattle.period_term.proofs.unit_terms.period_terms.Goals as goal

-- the terms of four caps, of which each is that of its cell
in_places : (periods : ℕ) (unit : Thermal) (k : ℤ) (row : ℤ × ℤ × ℤ) (t : ℕ) (caps : List ℤ) (terms : List (Option ℤ))
    → ((s e : Bool) → slice_index_or caps (place s e) (pos 0) ≡ cell_cap periods unit t s e)
    → ((i : ℕ) → i < 4 → IsCellTerm unit.points k row.0 row.1 (slice_index_or caps i (pos 0)) (slice_index_or terms i None))
    → ((i : ℕ) → i < 4 → IfSome (slice_index_or terms i None) (λ m. unsigned_abs m ≤ MAX_TERM))
    → (s e : Bool) → IsTermOfRow periods unit k row t s e (slice_index_or terms (place s e) None)
in_places periods unit k row t caps terms same are sizes s e = grind (arith, same, are, sizes)

-- the same at equal numbers
along : (points : List Point) (caps : List ℤ) (terms : List (Option ℤ)) (k m a c b d : ℤ) → k ≡ m → a ≡ c → b ≡ d
    → ((i : ℕ) → i < 4 → IsCellTerm points k a b (slice_index_or caps i (pos 0)) (slice_index_or terms i None))
    → (i : ℕ) → i < 4 → IsCellTerm points m c d (slice_index_or caps i (pos 0)) (slice_index_or terms i None)
along points caps terms k m a c b d e f g are i h = grind (arith, e, f, g, are, h)

pub returns : goal.returns
returns c =
    let scale = to_z-of_z w64 c.args.k c.ranges.k in
    let output = wide c.args.row.now.0 MAX_UNIT_PRICE c.requires.row.output (lit< tt) in
    let reserve = wide c.args.row.now.1 MAX_UNIT_PRICE c.requires.row.reserve (lit< tt) in
    in_places c.args.periods c.args.unit.now c.args.k c.args.row.now c.args.t c.cell_caps-caps.result c.row_terms.result
    c.cell_caps-caps.ensures.value
    (along c.args.unit.now.points c.cell_caps-caps.result c.row_terms.result _ c.args.k _ c.args.row.now.0 _ c.args.row.now.1 scale output reserve
    (λ i within. c.row_terms.ensures.term c.args.unit.now.points i c.requires.curve within))
    c.row_terms.ensures.size
