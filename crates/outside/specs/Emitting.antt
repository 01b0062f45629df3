-- How the texts that are written one after another, or put into a latch, add up.
use Rattle.std.proofs.Common.{sym, subst, ap, ◌∙◌, append_assoc, append-nil, ◌≡◌, ℕ, Bool, true, false, List, [], ◌++◌, Option, Some, None, refl}
use Rattle.outside.specs.Counts.{HasRisen}
use Rattle.outside.specs.ToldBytes.{Appends}
use Rattle.outside.specs.Sinks.{WriterState, WriterWrites, WritesFront}
use Rattle.outside.specs.Latching.{Puts, Emits}

-- nothing was appended
pub appends-nothing : (known : Option (List ℕ)) → Appends [] known known
appends-nothing None = tt
appends-nothing (Some told) = sym (append-nil told)

-- one append after another
pub appends-more : (xs ys : List ℕ) (old middle new : Option (List ℕ)) → Appends xs old middle → Appends ys middle new → Appends (xs ++ ys) old new
appends-more xs ys old middle None h k = tt
appends-more xs ys old None (Some new) h k = absurd k
appends-more xs ys None (Some middle) (Some new) h k = absurd h
appends-more xs ys (Some old) (Some middle) (Some new) h k = k ∙ ap (λ told. told ++ ys) h ∙ append_assoc old xs ys

-- one text after another
pub writes-then : (first second : List ℕ) (a b c : WriterState) → WriterWrites first a b → WriterWrites second b c → WriterWrites (first ++ second) a c
writes-then first second a b c h k = record {
  same = k.same ∙ h.same;
  grown = appends-more first second a.written b.written c.written h.grown k.grown;
}

-- one text, and then a front of another
pub front-then : (first second : List ℕ) (a b c : WriterState) → WriterWrites first a b → WritesFront second b c → WritesFront (first ++ second) a c
front-then first second a b c h k = record {
  rose = subst (λ n. HasRisen n c.faults) h.same k.rose;
  grown = record {
    front = first ++ k.grown.front;
    rest = k.grown.rest;
    parts = ap (λ xs. first ++ xs) k.grown.parts ∙ sym (append_assoc first k.grown.front k.grown.rest);
    grown = appends-more first k.grown.front a.written b.written c.written h.grown k.grown.grown;
  };
}

-- a front of a text, before another one
pub front-before : (first second : List ℕ) (a b : WriterState) → WritesFront first a b → WritesFront (first ++ second) a b
front-before first second a b h = record {
  rose = h.rose;
  grown = record {
    front = h.grown.front;
    rest = h.grown.rest ++ second;
    parts = ap (λ bytes. bytes ++ second) h.grown.parts ∙ append_assoc h.grown.front h.grown.rest second;
    grown = h.grown.grown;
  };
}

puts-nothing : (f : Bool) (a : WriterState) → Puts [] f f a a
puts-nothing false a = record { same = refl; grown = appends-nothing a.written }
puts-nothing true a = refl

-- one text after another, by whether a fault had come before, between and after them
puts-then : (p q : List ℕ) (f g h : Bool) (a b c : WriterState) → Puts p f g a b → Puts q g h b c → Puts (p ++ q) f h a c
puts-then p q false false false a b c x y = writes-then p q a b c x y
puts-then p q false false true a b c x y = front-then p q a b c x y
puts-then p q false true false a b c x y = absurd y
puts-then p q false true true a b c x y = subst (λ end. WritesFront (p ++ q) a end) (sym y) (front-before p q a b x)
puts-then p q true false h a b c x y = absurd x
puts-then p q true true false a b c x y = absurd y
puts-then p q true true true a b c x y = y ∙ x

pub emits-nothing : {W : Type 0} (state : W → WriterState) (same_else : W → W → Type 0) → ((a : W) → same_else a a)
    → (text : List ℕ) (f : Bool) (a : W) → [] ≡ text → Emits state same_else text f f a a
emits-nothing state same_else itself text f a is =
    subst (λ t. Emits state same_else t f f a a) is (record { puts = puts-nothing f (state a); rest = itself a })

pub emits-two : {W : Type 0} (state : W → WriterState) (same_else : W → W → Type 0)
    → ((a b c : W) → same_else a b → same_else b c → same_else a c)
    → (text p q : List ℕ) (f g h : Bool) (a b c : W)
    → Emits state same_else p f g a b → Emits state same_else q g h b c → p ++ q ≡ text → Emits state same_else text f h a c
emits-two state same_else through text p q f g h a b c x y is =
    subst (λ t. Emits state same_else t f h a c) is (record {
      puts = puts-then p q f g h (state a) (state b) (state c) x.puts y.puts;
      rest = through a b c x.rest y.rest;
    })
