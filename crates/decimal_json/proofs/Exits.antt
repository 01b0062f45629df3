-- Facts of a `Result`, joined and carried on.
use Rattle.std.proofs.Common.{◌≡◌, Result, Ok, Err, Option, Some, None, sym, subst}
use Rattle.std.specs.Option.{IfSome, IfNone}
use Rattle.std.specs.Result.{IfOk, IfErr, IsErrAnd}

-- what a `?` hands on is what the callee answered
pub passed_on : {T E : Type 0} (r : Result T E) (e : E) (Q : E → Type 0) → IsErrAnd r (λ d. d ≡ e) → Q e → IfErr r Q
passed_on (Ok x) e Q h q = absurd h
passed_on (Err d) e Q h q = subst Q (sym h) q

pub ok_from_two : {T E : Type 0} (r : Result T E) (P Q R : T → Type 0) → IfOk r P → IfOk r Q → ((x : T) → P x → Q x → R x) → IfOk r R
ok_from_two (Ok x) P Q R p q f = f x p q
ok_from_two (Err e) P Q R p q f = tt

-- what a clause on an option says, where its variant is known
pub some_of : {T : Type 0} (o : Option T) (P : T → Type 0) (x : T) → o ≡ Some x → IfSome o P → P x
some_of {T} o P x e h = subst (λ (o : Option T). IfSome o P) e h

pub none_of : {T : Type 0} (o : Option T) (Q : Type 0) → o ≡ None → IfNone o Q → Q
none_of {T} o Q e h = subst (λ (o : Option T). IfNone o Q) e h
