-- What is put into a writer whose first fault is kept: the whole text while none came, a front of it where the first one
-- came in it, and nothing after that.
use Rattle.std.specs.Prelude.{◌≡◌, ℕ, Bool, true, false, List}
use Rattle.outside.specs.Sinks.{WriterState, WriterWrites, WritesFront}

-- the writer by whether a fault came before the text and whether one has come after it
abbrev pub Puts : List ℕ → Bool → Bool → WriterState → WriterState → Type 0
Puts text false false old new = WriterWrites text old new
Puts text false true old new = WritesFront text old new
Puts text true false old new = ⊥
Puts text true true old new = new ≡ old

-- the same of any writer, of which nothing else changed
pub record Emits {W : Type 0} (state : W → WriterState) (same_else : W → W → Type 0) (text : List ℕ) (was is : Bool) (old new : W) : Type 0 where
  pub puts : Puts text was is (state old) (state new)
  pub rest : same_else old new
