-- What holds of each part of a list in order holds of the whole list.
-- Cite by `use Rattle.dispatch_prices.proofs.Listing.{all_listed}`.
use Rattle.std.proofs.Common.{ℕ, zero, suc, ◌<◌, arith, List}
use Rattle.std.specs.List.{All}
use Rattle.std.proofs.lemmas.List.Elements.{All-nil, All-append}
use Rattle.dispatch_rules.specs.Prelude.{listed}

pub all_listed : {A : Type 0} (P : A → Type 0) (n : ℕ) (f : ℕ → List A) → ((k : ℕ) → k < n → All P (f k)) → All P (listed n f)
all_listed P zero f each = All-nil P
all_listed P (suc n) f each = All-append P (listed n f) (f n) (all_listed P n f (λ k h. each k (omega arith))) (each n (omega arith))
