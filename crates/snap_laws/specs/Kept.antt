-- Facts of a run's states that every step keeps, and that a reader of a saved state asks.
use Rattle.std.specs.Prelude.{◌≡◌, ℕ, suc, ◌<◌, List, [], ◌∷◌, Option, Some}
use Rattle.std.specs.Option.{option_map}
use Rattle.bc_machine.specs.bc_ops.declared.instr.Op.TheVariants as ops
use Rattle.bc_machine.specs.bc_ops.declared.instr.Instr.TheVariants as instrs
use Rattle.bc_machine.specs.Library.{Name, Item, Plain, Names, Line, Library, code_at}
use Rattle.bc_machine.specs.State.{Role, Main, Called, Imported, Frame, State, Running, Halted, Stuck}
use Rattle.bc_machine.specs.Step.{line_at, step}

-- the instruction at which a frame stands, if there is one
abbrev pub item_at : Library → Frame → Option Item
item_at library frame = option_map (λ (l : Line). l.item) (line_at (code_at library frame.module_name frame.code) frame.position)

-- a call of a function or of a method
pub data IsCall : Option Item → Type 0 where
  function : {n : ℕ} → IsCall (Some (Plain (instrs.Num ops.CallFunction n)))
  method : {n : ℕ} → IsCall (Some (Plain (instrs.Num ops.CallMethod n)))

-- an import of a module
pub data IsImport : Option Item → Type 0 where
  import : {name : Name} → IsImport (Some (Names ops.ImportName name))

-- the frames below one of this role: a caller stands at its call, an importing frame at its import, and the main module's
-- frame is the lowest
abbrev pub WaitBelow : Library → Role → List Frame → Type 0
WaitBelow library Main [] = Unit {0}
WaitBelow library Main (frame ∷ frames) = ⊥
WaitBelow library Called [] = ⊥
WaitBelow library Called (frame ∷ frames) = IsCall (item_at library frame) × WaitBelow library frame.role frames
WaitBelow library (Imported name m) [] = ⊥
WaitBelow library (Imported name m) (frame ∷ frames) = IsImport (item_at library frame) × WaitBelow library frame.role frames

-- each waiting frame of a state stands at a call or at an import, as the frame above it began
abbrev pub WaitsWell : Library → State → Type 0
WaitsWell library (Running paid frame frames w) = WaitBelow library frame.role frames
WaitsWell library (Halted end w) = Unit {0}
WaitsWell library (Stuck w) = Unit {0}

-- no more steps are paid than the running instruction takes before it acts: each of them did nothing but be paid
abbrev pub IsPaid : Library → State → Type 0
IsPaid library (Running paid frame frames w) = (k : ℕ) → k < paid → step library (Running k frame frames w) ≡ Running (suc k) frame frames w
IsPaid library (Halted end w) = Unit {0}
IsPaid library (Stuck w) = Unit {0}
