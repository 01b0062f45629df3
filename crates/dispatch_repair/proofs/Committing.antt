-- Each commitment has cells: a start takes the cheapest category that the history allows.
use Rattle.std.proofs.Common.{◌≡◌, ℕ, zero, suc, ◌+◌, ◌-◌, ◌<◌, ◌≤◌, ◌⊎◌, inl, inr, refl, sym, ap, subst, ◌∙◌, arith, List, [], length, pos, ◌≤ℤ◌, ◌<ℤ◌, IsTrue, ◌==◌, nat_lt, replicate}
use Rattle.std.proofs.lemmas.Bool.{both_ways, cases_Bool, cases_lt, or_cases, or_left, and_parts, eq-eqb, eqb-true, ltb-true}
use Rattle.std.proofs.lemmas.List.{length-replicate}
use Rattle.std.proofs.lemmas.List.Elements.{All-from_get_or}
use Rattle.uc_model.specs.Prelude.{Commitment, starts, IsLawfulInstance, cell_at, thermal_unit, thermal_count, renewable_count, category_cost, category_count, is_category_allowed}
use Rattle.uc_model.proofs.Common.{linear, le_or_lt}
use Rattle.start_costs.specs.Cheapest.{Thermal, IsCheapestAbove}
use Rattle.dispatch_repair.specs.Prelude.{Instance, Pattern, Printed, commitment_at, Cell, IsCommittedCell, AreCommitted}
use Rattle.dispatch_repair.specs.inside.Rows.{cell_of, list_of}
use Rattle.dispatch_repair.proofs.Listed.{listed, listed_length}

-- ---- the cheapest category
allowed-le : (unit : Thermal) (on : Commitment) (s t : ℕ) → IsTrue (is_category_allowed unit on s t) → s ≤ category_count unit
allowed-le unit on zero t h = omega arith
allowed-le unit on (suc s) t h = elim (or_cases (suc s == category_count unit) _ h) [
  | inl last ↦ omega (arith, eqb-true (suc s) (category_count unit) last)
  | inr both ↦ omega (arith, ltb-true (suc s) (category_count unit) (and_parts (nat_lt (suc s) (category_count unit)) _ both).0)
]

-- with a category and its cost
record HasCheapest (unit : Thermal) (on : Commitment) (t n : ℕ) : Type 0 where
  s : ℕ
  is : IsCheapestAbove unit on t n (s, category_cost unit s)

next_or_later : (n j : ℕ) → n < j → (j ≡ suc n) ⊎ (suc n < j)
next_or_later n j h = grind arith

module _ (unit : Thermal) (on : Commitment) (t n : ℕ) where
  -- the last category is always allowed
  last_one : suc n ≡ category_count unit → HasCheapest unit on t n
  last_one e = record {
    s = suc n;
    is = record {
      above = omega arith;
      allowed = or_left (suc n == category_count unit) _ (eq-eqb (suc n) (category_count unit) e);
      cost = refl;
      cheapest = λ j above h.
          let same : j ≡ suc n = omega (arith, allowed-le unit on j t h, e, above) in
          omega (arith, linear, ap (λ k. category_cost unit k) same);
      first = λ j above below h. absurd (omega (arith, above, below));
    };
  }

  -- the next category, where it is allowed and no dearer than the cheapest of the later ones
  next_one : (later : HasCheapest unit on t (suc n)) → IsTrue (is_category_allowed unit on (suc n) t)
      → category_cost unit (suc n) ≤ℤ category_cost unit later.s → HasCheapest unit on t n
  next_one later allowed low = record {
    s = suc n;
    is = record {
      above = omega arith;
      allowed = allowed;
      cost = refl;
      cheapest = λ j above h. elim (next_or_later n j above) [
        | inl same ↦ omega (arith, linear, ap (λ k. category_cost unit k) same)
        | inr beyond ↦ omega (arith, linear, low, later.is.cheapest j beyond h)
      ];
      first = λ j above below h. absurd (omega (arith, above, below));
    };
  }

  later_one : (later : HasCheapest unit on t (suc n)) → (IsTrue (is_category_allowed unit on (suc n) t) → category_cost unit later.s <ℤ category_cost unit (suc n))
      → HasCheapest unit on t n
  later_one later dearer = record {
    s = later.s;
    is = record {
      above = omega (arith, later.is.above);
      allowed = later.is.allowed;
      cost = refl;
      cheapest = λ j above h. elim (next_or_later n j above) [
        | inl same ↦ omega (arith, linear, at_next j same h, ap (λ k. category_cost unit k) same)
        | inr beyond ↦ later.is.cheapest j beyond h
      ];
      first = λ j above below h. elim (next_or_later n j above) [
        | inl same ↦ omega (arith, linear, at_next j same h, ap (λ k. category_cost unit k) same)
        | inr beyond ↦ later.is.first j beyond below h
      ];
    };
  }
    where
      at_next : (j : ℕ) → j ≡ suc n → IsTrue (is_category_allowed unit on j t) → category_cost unit later.s <ℤ category_cost unit (suc n)
      at_next j same h = dearer (subst (λ k. IsTrue (is_category_allowed unit on k t)) same h)

  or_next : HasCheapest unit on t (suc n) → HasCheapest unit on t n
  or_next later = elim (cases_Bool (is_category_allowed unit on (suc n) t)) [
    | inl allowed ↦ elim (le_or_lt (category_cost unit (suc n)) (category_cost unit later.s)) [
      | inl low ↦ next_one later allowed low
      | inr high ↦ later_one later (λ h. high)
    ]
    | inr barred ↦ later_one later (λ h. absurd (both_ways _ barred h))
  ]

cheapest : (unit : Thermal) (on : Commitment) (t d n : ℕ) → n + suc d ≡ category_count unit → HasCheapest unit on t n
cheapest unit on t zero n e = last_one unit on t n (omega (arith, e))
cheapest unit on t (suc d) n e = or_next unit on t n (cheapest unit on t d (suc n) (omega (arith, e)))

-- ---- cells
pub record HasCell (instance : Instance) (patterns : List Pattern) (g t : ℕ) : Type 0 where
  pub cell : Cell
  pub is : g < thermal_count instance → IsCommittedCell instance patterns g t cell

module _ (instance : Instance) (patterns : List Pattern) (lawful : IsLawfulInstance instance) where
  abbrev with_category : ℕ → ℕ → ℕ → Cell
  with_category g t s = record { on = commitment_at patterns g t; p = pos 0; r = pos 0; category = s }

  pub cell : (g t : ℕ) → HasCell instance patterns g t
  cell g t = elim (cases_lt g (thermal_count instance)) [
    | inl h ↦ elim (cases_Bool (starts (thermal_unit instance g) (commitment_at patterns g) t)) [
      | inl begins ↦ starting h begins
      | inr stays ↦ record {
        cell = with_category g t 0;
        is = λ k. record { on = refl; start = λ begins. absurd (both_ways _ stays begins); none = λ e. refl };
      }
    ]
    | inr past ↦ record { cell = with_category g t 0; is = λ h. absurd (omega (arith, h, past)) }
  ]
    where
      starting : g < thermal_count instance → IsTrue (starts (thermal_unit instance g) (commitment_at patterns g) t) → HasCell instance patterns g t
      starting h begins =
          let unit = thermal_unit instance g in
          let some = (lawful.thermal g h).categories.0 in
          let least = cheapest unit (commitment_at patterns g) t (category_count unit - 1) 0 (omega (arith, some)) in
          record {
            cell = with_category g t least.s;
            is = λ k. record { on = refl; start = λ is. least.is; none = λ e. absurd (both_ways _ e begins) };
          }

  abbrev row : ℕ → List Cell
  row g = list_of instance.periods (λ t. (cell g t).cell)

  -- a schedule of the commitment that gives nothing
  abbrev pub idle : Printed
  idle = record {
    thermal = list_of (thermal_count instance) row;
    renewable = list_of (renewable_count instance) (λ w. replicate instance.periods (pos 0));
    shed = replicate instance.periods (pos 0);
    short = replicate instance.periods (pos 0);
    denominator = 1;
  }

  pub idle_committed : AreCommitted instance patterns idle
  idle_committed = record {
    shape = record {
      thermal = listed_length (thermal_count instance) row;
      cells = All-from_get_or (λ cells. length cells ≡ instance.periods) (list_of (thermal_count instance) row) [] (λ g h.
          let within : g < thermal_count instance = subst (λ n. g < n) (listed_length (thermal_count instance) row) h in
          ap length (listed (thermal_count instance) row g [] within) ∙ listed_length instance.periods (λ t. (cell g t).cell));
      renewable = listed_length (renewable_count instance) _;
      outputs = All-from_get_or (λ outputs. length outputs ≡ instance.periods)
          (list_of (renewable_count instance) (λ w. replicate instance.periods (pos 0))) [] (λ w h.
          let within : w < renewable_count instance = subst (λ n. w < n) (listed_length (renewable_count instance) _) h in
          ap length (listed (renewable_count instance) (λ w. replicate instance.periods (pos 0)) w [] within) ∙ length-replicate instance.periods (pos 0));
      shed = length-replicate instance.periods (pos 0);
      short = length-replicate instance.periods (pos 0);
      whole = refl;
    };
    cells = λ g t hg ht.
        let is : cell_at idle g t ≡ (cell g t).cell =
        ap (λ (cells : List Cell). cell_of cells t) (listed (thermal_count instance) row g [] hg) ∙ listed instance.periods (λ k. (cell g k).cell) t _ ht in
        subst (IsCommittedCell instance patterns g t) (sym is) ((cell g t).is hg);
  }
