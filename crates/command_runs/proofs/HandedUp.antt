-- What `?` hands up.
use Rattle.std.proofs.Common.{◌≡◌, sym, subst, Result, Ok, Err, IfErr, IsErrAnd}

-- what `?` hands up is what it was handed
pub handed_up : {T E : Type 0} (result : Result T E) (e : E) (P : E → Type 0) → IsErrAnd result (λ f. f ≡ e) → P e → IfErr result P
handed_up (Ok x) e P is p = tt
handed_up (Err f) e P is p = subst P (sym is) p
