-- A decision on one unit leaves the patterns, the best ones and the parts of each other unit.
use Rattle.std.proofs.Common.{arith, ◌≡◌, ◌≢◌, ℕ, Bool, ℤ}
use Rattle.std.proofs.lemmas.Bool.{ne_eqb}
use Rattle.std.proofs.lemmas.List.Folds.{list_all-append}
use Rattle.uc_model.specs.Prelude.{Commitment, commitment_of}
use Rattle.uc_model.specs.declared.pattern.Pattern.{Pattern}
use Rattle.dual_model.specs.Prelude.{IsPatternAt, unit_agrees, child, IsBestPattern}
use Rattle.dual_model.specs.declared.node.Node.{Node}
use Rattle.dual_model.specs.declared.table.Table.{Table}
use Rattle.dual_value.specs.NodeAnswer.{Instance, IsPartOf}

-- the commitments of unit k that agree
pub agrees-other : (parent : Node) (g t : ℕ) (on : Bool) (k : ℕ) (commitment : Commitment) → k ≢ g
    → unit_agrees (child parent g t on) k commitment ≡ unit_agrees parent k commitment
agrees-other parent g t on k commitment other = grind (arith, ne_eqb, list_all-append, other)

pub pattern-other : (instance : Instance) (parent : Node) (g t : ℕ) (on : Bool) (k : ℕ) (commitment : Commitment) → k ≢ g
    → IsPatternAt instance parent k commitment → IsPatternAt instance (child parent g t on) k commitment
pattern-other instance parent g t on k commitment other pattern = grind (arith, agrees-other, other, pattern)

pattern-before : (instance : Instance) (parent : Node) (g t : ℕ) (on : Bool) (k : ℕ) (commitment : Commitment) → k ≢ g
    → IsPatternAt instance (child parent g t on) k commitment → IsPatternAt instance parent k commitment
pattern-before instance parent g t on k commitment other pattern = grind (arith, agrees-other, other, pattern)

pub best-other : (instance : Instance) (parent : Node) (table : Table) (g t : ℕ) (on : Bool) (k : ℕ) (commitment : Commitment) (value : ℤ) → k ≢ g
    → IsBestPattern instance parent table k commitment value → IsBestPattern instance (child parent g t on) table k commitment value
best-other instance parent table g t on k commitment value other best = record {
  pattern = pattern-other instance parent g t on k commitment other best.pattern;
  value = best.value;
  least = λ another w pattern is. best.least another w (pattern-before instance parent g t on k another other pattern) is;
}

pub part-other : (instance : Instance) (parent : Node) (table : Table) (g t : ℕ) (on : Bool) (k : ℕ) (part : ℤ) (pattern : Pattern) → k ≢ g
    → IsPartOf instance parent table k part pattern → IsPartOf instance (child parent g t on) table k part pattern
part-other instance parent table g t on k part pattern other of = record {
  value = of.value;
  best = best-other instance parent table g t on k (commitment_of pattern) of.value other of.best;
  is = of.is;
}
