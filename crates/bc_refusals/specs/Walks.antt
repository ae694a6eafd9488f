-- What the walk in the order of first visits knows.
use Rattle.std.specs.Prelude.{◌≡◌, ℕ, None, length, nat_lt, suc, true}
use Rattle.bc_flow.specs.Action.{Action}
use Rattle.bc_flow.specs.Code.{Code}
use Rattle.bc_flow.specs.Edges.{falls}
use Rattle.bc_flow.specs.Verified.{FirstFault}
use Rattle.bc_certificates.specs.Rows.{Rows, carried, row}
use Rattle.bc_refusals.specs.declared.walk.Turn.{Turn}
use Rattle.bc_refusals.specs.declared.walk.Turn.TheVariants as turns
use Rattle.bc_refusals.specs.declared.walk.Walk.{Walk}
use Rattle.bc_refusals.specs.Stages.{Staged}
use Rattle.bc_refusals.specs.Views.{IsCarried, Passed}

-- the flow's walk comes to a table whose positions were visited as here
pub record Follows (code : Code) (rows : Rows) (w : Walk) : Type 0 where
  pub staged : Staged code (carried code rows) w.came.items w.gone.items
  pub wide : length w.gone.items ≡ length w.came.items
  pub passed : Passed w.came.items w.gone.items w.from
  pub known : IsCarried code rows w.carried

-- what a visit of a position tells
abbrev pub After : Code → Rows → ℕ → Walk → Turn → Type 0
After code rows p w turns.GoesOn = Follows code rows w
After code rows p w turns.Unknown = Unit {0}
After code rows p w (turns.Broken rule) = FirstFault code rule p

-- the flow goes on to the next position, which has no row
pub record IsInner (code : Code) (rows : Rows) (i : Action) (p : ℕ) : Type 0 where
  pub goes : falls i ≡ true
  pub there : nat_lt (suc p) (length code.actions) ≡ true
  pub no_row : row rows (suc p) ≡ None
