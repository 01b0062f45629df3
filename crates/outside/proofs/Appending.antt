-- How appended bytes add up, here and for what writes by these calls.
use Rattle.std.proofs.Common.{◌≡◌, ℕ, ◌+◌, List, [], ◌++◌, take, drop, subst, sym, ◌∙◌, ap, append-nil, Option, None, Some, Result, Ok, Err, OnErr, take-append-drop}
use Rattle.std.proofs.Math.Seq.{take-add}
use Rattle.outside.specs.Prelude.{HasRisen, Tells, Appends, AppendsFront, WriterState, WriterWrites, WriterCountsFault, WritesFront}
use Rattle.outside.specs.Emitting.{appends-more}

-- the first i bytes of a piece, and then n of the rest
pub writes-more : (piece rest : List ℕ) (i n : ℕ) (a b c : WriterState) → rest ≡ drop i piece → WriterWrites (take i piece) a b → WriterWrites (take n rest) b c → WriterWrites (take (i + n) piece) a c
writes-more piece rest i n a b c e h k = record {
  same = k.same ∙ h.same;
  grown = rw take-add (appends-more (take i piece) (take n (drop i piece)) a.written b.written c.written h.grown (rw (← e) k.grown));
}

-- the first i bytes of a piece, and then a fault
pub fault-after : (piece : List ℕ) (i : ℕ) (a b c : WriterState) → WriterWrites (take i piece) a b → WriterCountsFault b c → WritesFront piece a c
fault-after piece i a b c h k = record {
  rose = subst (λ n. HasRisen n c.faults) h.same k.rose;
  grown = record { front = take i piece; rest = drop i piece; parts = sym (take-append-drop i piece); grown = rw k.same h.grown };
}

-- what holds, holds at an error
pub at_error : {T E P : Type 0} (result : Result T E) → P → OnErr result P
at_error (Ok x) p = tt
at_error (Err e) p = p

-- all of the bytes are a front of them
pub all-appended : (bytes : List ℕ) (old new : Option (List ℕ)) → Appends bytes old new → AppendsFront bytes old new
all-appended bytes old new h = record { front = bytes; rest = []; parts = sym (append-nil bytes); grown = h }

-- where no byte was told before, an append is one to nothing
pub appended-since-nothing : (bytes : List ℕ) (old new : Option (List ℕ)) → Tells old [] → Appends bytes old new → Appends bytes (Some []) new
appended-since-nothing bytes old None h k = tt
appended-since-nothing bytes None (Some new) h k = absurd k
appended-since-nothing bytes (Some old) (Some new) h k = k ∙ ap (λ told. told ++ bytes) h
