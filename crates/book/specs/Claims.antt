-- What a book keeps of its claims: of each unit its worker and its node, how many entries the log had at the claim, and how the
-- claim stands. This project's own form. Units count from 1, places in the list from 0.
use Rattle.std.specs.Prelude.{◌≡◌, ℕ, zero, suc, ◌-◌, ◌≤◌, Bool, true, false, List, [], ◌∷◌, Option, Some, None, filter, map, slice_set, slice_index_or, if◌then◌else◌}
pub use Rattle.search_machine.specs.declared.holder.Holder.{Holder}
pub use Rattle.search_machine.specs.declared.event.Move.{Move}
use Rattle.search_machine.specs.Prelude.{holder_in}
use Rattle.search_machine.specs.declared.event.Move.TheVariants.{Again}
pub use Rattle.book.specs.declared.claims.Claim.{Claim}
pub use Rattle.book.specs.declared.claims.Status.{Status}
pub use Rattle.book.specs.declared.claims.Status.TheVariants.{Held, Committed, GivenBack}

-- ---- who holds what
abbrev pub holder_by : Status → Holder → Option Holder
holder_by Held holder = Some holder
holder_by (Committed action) holder = None
holder_by GivenBack holder = None

abbrev pub holder_of : Claim → Option Holder
holder_of claim = holder_by claim.status (record { worker = claim.worker; node = claim.node })

-- of each claim who holds which node by it
abbrev pub holders : List Claim → List (Option Holder)
holders claims = map holder_of claims

-- the worker holds the unit, and by it the node
abbrev pub IsHeldBy : List Claim → ℕ → ℕ → ℕ → Type 0
IsHeldBy claims worker unit node = holder_in (holders claims) unit ≡ Some (record { worker = worker; node = node })

-- ---- those that were given back
abbrev pub stays_by : Status → Bool
stays_by Held = true
stays_by (Committed action) = true
stays_by GivenBack = false

abbrev pub stays : Claim → Bool
stays claim = stays_by claim.status

-- the claims that weren't given back
abbrev pub kept_claims : List Claim → List Claim
kept_claims claims = filter stays claims

-- which of the claims weren't given back
abbrev pub are_kept : List Claim → List Bool
are_kept claims = map stays claims

-- the number of a unit where only those that are kept are numbered
abbrev pub unit_anew : ℕ → List Bool → ℕ
unit_anew zero kept = 0
unit_anew (suc unit) [] = 0
unit_anew (suc unit) (first ∷ kept) = if first then suc (unit_anew unit kept) else unit_anew unit kept

-- ---- how a claim ends
abbrev pub no_claim : Claim
no_claim = record { worker = 0; node = 0; behind = 0; status = GivenBack }

-- the claim of the unit
abbrev pub claim_of : List Claim → ℕ → Claim
claim_of claims unit = slice_index_or claims (unit - 1) no_claim

-- the unit's claim stands so
abbrev pub ended : List Claim → ℕ → Status → List Claim
ended claims unit status = slice_set claims (unit - 1) (record (claim_of claims unit) { status = status })

-- the move by which a claim was committed
abbrev pub move_by : Status → Move
move_by Held = Again
move_by (Committed action) = action
move_by GivenBack = Again

abbrev pub move_of : List Claim → ℕ → Move
move_of claims unit = move_by (claim_of claims unit).status

-- from one claim to the next the log doesn't get shorter, and it has so many entries now
abbrev pub IsRising : ℕ → ℕ → List Claim → Type 0
IsRising least entries [] = least ≤ entries
IsRising least entries (claim ∷ claims) = (least ≤ claim.behind) × IsRising claim.behind entries claims
