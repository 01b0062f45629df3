-- A step that reads something, and what it reads: laws of steps from those of the steps that they are made of.
use Rattle.std.proofs.Common.{arith, ◌≡◌, ℕ, Bool, true, false, List, Option, Some, None, Result, Ok, Err, refl, ap}
use Rattle.std.specs.Option.{IsSomeAnd}
use Rattle.instance.specs.FirstFault.{Refusal, ◌>>=◌, wanted, refused_if, in_unit}
use Rattle.instance.specs.declared.fault.Place.{Place}

-- A step gives a value exactly where this holds of the value.
pub record Exactly {A E : Type 0} (r : Result A E) (P : A → Type 0) : Type 0 where
  pub is : (x : A) → r ≡ Ok x → P x
  pub again : (x : A) → P x → r ≡ Ok x

abbrev done : {A E : Type 0} → A → Result A E
done x = Ok x

pub ok_is : {A E : Type 0} (x y : A) → done {E = E} x ≡ done y → x ≡ y
ok_is x y e = cc

pub bind_ok : {A B E : Type 0} (r : Result A E) (f : A → Result B E) (y : B) → (r >>= f) ≡ Ok y → (x : A) × (r ≡ Ok x) × (f x ≡ Ok y)
bind_ok (Ok x) f y e = (x, refl, e)
bind_ok (Err d) f y e = absurd cc

-- the same in other words
pub told : {A E : Type 0} {r : Result A E} {P : A → Type 0} → Exactly r P → (Q : A → Type 0) → ((x : A) → P x → Q x) → ((x : A) → Q x → P x) → Exactly r Q
told h Q there back = record { is = λ x e. there x (h.is x e); again = λ x q. h.again x (back x q) }

-- ---- a value that is wanted, and one that passes a test

pub some_map : {A : Type 0} (P Q : A → Type 0) (o : Option A) → ((x : A) → P x → Q x) → IsSomeAnd o P → IsSomeAnd o Q
some_map P Q (Some x) f h = f x h
some_map P Q None f h = h

pub some_is : {A : Type 0} (P : A → Type 0) (o : Option A) → IsSomeAnd o P → (x : A) × (o ≡ Some x) × P x
some_is P (Some x) h = (x, refl, h)
some_is P None h = absurd h

pub some_split : {A Q : Type 0} (P : A → Type 0) (o : Option A) → IsSomeAnd o (λ x. P x × Q) → IsSomeAnd o P × Q
some_split P (Some x) h = h
some_split P None h = absurd h

pub some_pull : {A Y : Type 0} (P : Y → A → Type 0) (o : Option A) → IsSomeAnd o (λ x. (y : Y) × P y x) → (y : Y) × IsSomeAnd o (P y)
some_pull P (Some x) h = h
some_pull P None h = absurd h

pub wanted-exactly : {A B : Type 0} (code : ℕ) (place : Place) (o : Option A) (read : A → Result B Refusal) (P : A → B → Type 0)
    → ((x : A) → Exactly (read x) (P x)) → Exactly (wanted code place o >>= read) (λ y. IsSomeAnd o (λ x. P x y))
wanted-exactly code place (Some x) read P h = h x
wanted-exactly code place None read P h = record { is = λ y e. absurd cc; again = λ y w. absurd w }

pub refused-exactly : {A : Type 0} (test : Bool) (code : ℕ) (place : Place) (x : A) → Exactly (refused_if test code place x) (λ y. (test ≡ false) × (x ≡ y))
refused-exactly true code place x = record { is = λ y e. absurd cc; again = λ y w. absurd cc }
refused-exactly false code place x = record { is = λ y e. (refl, ok_is x y e); again = λ y w. ap (λ (z : _). Ok z) w.1 }

-- a test before another step
pub guarded : {A B : Type 0} (test : Bool) (code : ℕ) (place : Place) (x : A) (read : A → Result B Refusal) (P : B → Type 0) → (test ≡ false → Exactly (read x) P)
    → Exactly (refused_if test code place x >>= read) (λ y. (test ≡ false) × P y)
guarded true code place x read P h = record { is = λ y e. absurd cc; again = λ y w. absurd cc }
guarded false code place x read P h = record { is = λ y e. (refl, (h refl).is y e); again = λ y w. (h refl).again y w.1 }

-- a test behind another step
pub tested : {A : Type 0} {r : Result A Refusal} {P : A → Type 0} → Exactly r P → (test : A → Bool) (code : ℕ) (place : Place)
    → Exactly (r >>= λ x. refused_if (test x) code place x) (λ x. P x × (test x ≡ false))
tested {A} {r} {P} h test code place = grind (arith, h)

-- ---- several steps that make a value

pub two-exactly : {A B X E : Type 0} {r : Result A E} {s : A → Result B E} {P : A → Type 0} {Q : A → B → Type 0} → Exactly r P → ((a : A) → P a → Exactly (s a) (Q a)) → (mk : A → B → X)
    → Exactly (r >>= λ a. s a >>= λ b. Ok (mk a b)) (λ x. (a : A) × (b : B) × P a × Q a b × (mk a b ≡ x))
two-exactly {A} {B} {X} {E} {r} {s} h k mk = grind (arith, h, k)

-- one more step before others
pub more-exactly : {A X E : Type 0} {r : Result A E} {P : A → Type 0} → Exactly r P → (k : A → Result X E) (Q : A → X → Type 0) → ((a : A) → P a → Exactly (k a) (Q a))
    → Exactly (r >>= k) (λ x. (a : A) × P a × Q a x)
more-exactly {A} {X} {E} {r} h k Q f = grind (arith, h, f)

pub three-exactly : {A B C X E : Type 0} {r : Result A E} {s : A → Result B E} {t : A → B → Result C E} {P : A → Type 0} {Q : A → B → Type 0} {R : A → B → C → Type 0}
    → Exactly r P → ((a : A) → P a → Exactly (s a) (Q a)) → ((a : A) (b : B) → P a → Exactly (t a b) (R a b)) → (mk : A → B → C → X)
    → Exactly (r >>= λ a. s a >>= λ b. t a b >>= λ c. Ok (mk a b c)) (λ x. (a : A) × P a × ((b : B) × (c : C) × Q a b × R a b c × (mk a b c ≡ x)))
three-exactly {A} {B} {C} {X} {E} {r} {s} {t} {P} {Q} {R} h i j mk = grind (arith, h, i, j)

pub four-exactly : {A B C D X E : Type 0} {r : Result A E} {s : Result B E} {t : Result C E} {u : Result D E} {P : A → Type 0} {Q : B → Type 0} {R : C → Type 0} {S : D → Type 0}
    → Exactly r P → Exactly s Q → Exactly t R → Exactly u S → (mk : A → B → C → D → X)
    → Exactly (r >>= λ a. s >>= λ b. t >>= λ c. u >>= λ d. Ok (mk a b c d)) (λ x. (a : A) × P a × ((b : B) × Q b × ((c : C) × (d : D) × R c × S d × (mk a b c d ≡ x))))
four-exactly {A} {B} {C} {D} {X} {E} {r} {s} {t} {u} {P} {Q} {R} {S} h i j k mk = grind (arith, h, i, j, k)

-- ---- a fault with its unit

pub in_unit-exactly : {A : Type 0} (kind : ℕ) (unit : List ℕ) (r : Result A Refusal) (P : A → Type 0) → Exactly r P → Exactly (in_unit kind unit r) P
in_unit-exactly kind unit (Ok y) P h = record { is = λ x e. h.is x (ap (λ (z : _). done {E = Refusal} z) (ok_is y x e)); again = λ x p. ap (in_unit kind unit) (h.again x p) }
in_unit-exactly kind unit (Err d) P h = record { is = λ x e. absurd cc; again = λ x p. absurd (let e = h.again x p in cc) }
