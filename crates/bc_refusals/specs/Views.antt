-- What the code's values are as the definitions'.
use Rattle.std.specs.Prelude.{◌≡◌, ℕ, ◌<◌, Bool, true, false, List, get_or, Some}
use Rattle.bc_flow.specs.bc_shapes.Views.{at_of}
use Rattle.bc_flow.specs.Code.{Code}
use Rattle.bc_certificates.specs.Rows.{Rows, carried}
use Rattle.bc_refusals.specs.declared.arriving.Carried.{Carried}
use Rattle.bc_refusals.specs.Stages.{IsSet}

-- the shape is what holds at its position, if there is one
abbrev pub IsCarried : Code → Rows → Carried → Type 0
IsCarried code rows c = c.here ≡ true → carried code rows c.position ≡ Some (at_of c.shape)

-- no position in front waits for its first visit
abbrev pub Passed : List Bool → List Bool → ℕ → Type 0
Passed came gone n = (p : ℕ) → p < n → IsSet came p → get_or gone p false ≡ false → ⊥
