-- A small unit whose runs are computed by hand: of 10 to 50 W, at 100 micro-dollars an hour for 10 W and 500 for 50.
use Rattle.std.specs.Prelude.{false, [], ◌∷◌, ℤ, pos}
use Rattle.uc_model.specs.Prelude.{base_unit}
use Rattle.unit_runs.specs.Runs.{Thermal, Table}

-- it was on before, at 20 W, and can fall by 5 W
abbrev pub sinking : Thermal
sinking = record base_unit {
  pmin = pos 10;
  pmax = pos 50;
  ru = pos 20;
  rd = pos 5;
  su = pos 50;
  sd = pos 50;
  p0 = pos 20;
  points = (record { mw = pos 10; cost = pos 100 }) ∷ (record { mw = pos 50; cost = pos 500 }) ∷ [];
}

-- the same, off before
abbrev pub resting : Thermal
resting = record sinking { on0 = false; p0 = pos 0; ut0 = 0; dt0 = 1 }

-- prices of demand and reserve for two hours, at a scale of 1
abbrev pub prices : ℤ → ℤ → Table
prices pi mu = record { units = 1; k = pos 1; pi = pi ∷ pi ∷ []; mu = mu ∷ mu ∷ []; ramps = [] }
