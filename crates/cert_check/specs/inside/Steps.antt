-- What a certificate meets once its text is read and some steps of the check have passed. This project's own.
use Rattle.std.specs.Prelude.{◌≡◌, Bool, true, false, ℤ, Option, Some, None, IsTrue}
use Rattle.std.specs.List.{list_any}
use Rattle.uc_model.specs.Prelude.{thermal_count, renewable_count}
use Rattle.uc_model.specs.declared.instance.Instance.{Instance}
use Rattle.branch_tree.specs.Prelude.{written_of}
pub use Rattle.cert_text.specs.declared.cert.Cert.{Cert}
pub use Rattle.cert_text.specs.declared.cert.CertNode.{CertNode}
use Rattle.cert_text.specs.declared.cert.CertNode.TheVariants as nodes

-- the size read is the instance's
pub record FitsInstance (instance : Instance) (cert : Cert) : Type 0 where
  pub periods : cert.periods ≡ instance.periods
  pub thermal : cert.thermal ≡ thermal_count instance
  pub renewable : cert.renewable ≡ renewable_count instance

-- and the prices read are
pub record ReadsPrices (instance : Instance) (cert : Cert) : Type 0 where
  pub shed : cert.a ≡ instance.a
  pub short : cert.b ≡ instance.b

-- a node that is a leaf with a bound
abbrev pub is_bound_leaf : CertNode → Bool
is_bound_leaf (nodes.Split g t) = false
is_bound_leaf (nodes.Bound table) = true
is_bound_leaf (nodes.Ray table) = false
is_bound_leaf (nodes.Empty g) = false
is_bound_leaf (nodes.Exact table) = true
is_bound_leaf (nodes.ExactRay table) = false
is_bound_leaf (nodes.ExactEmpty g) = false

-- the claim that was read fits the schedule and the leaves
abbrev pub ReadClaimFits : Cert → Option ℤ → Type 0
ReadClaimFits cert (Some b) = IsTrue (list_any is_bound_leaf cert.tree)
ReadClaimFits cert None = (written_of cert.schedule ≡ None) × (list_any is_bound_leaf cert.tree ≡ false)
