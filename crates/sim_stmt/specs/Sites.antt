-- Where code runs: the same text on both sides, and what its handler entries leave alone.
use Rattle.std.specs.Prelude.{◌≡◌, ℕ, zero, suc, ◌+◌, ◌≤◌, List, [], ◌∷◌, length, map, Bool, true, false, Some, slice_get}
use Rattle.bc_scheme.specs.mpy_base.Val.{PlainWorld}
use Rattle.bc_scheme.specs.py_effects.Names.{Locals}
use Rattle.bc_scheme.specs.py_meaning.Frames as meanings
use Rattle.bc_scheme.specs.bc_machine.Library.{Code, Module, Library, entry_in, module_in, code_at}
use Rattle.bc_scheme.specs.bc_machine.State.{Slot, Entry, Frame, State, Running, remark}
use Rattle.bc_scheme.specs.bc_machine.Operations.{kept_of}
use Rattle.bc_scheme.specs.Context.{Context}
use Rattle.bc_scheme.specs.Statements.{Around}

-- sites
-- =====

-- what stays the same while a code runs: the meaning's frame; what the patterns of the code stand in; the machine's frame, of
-- which only the module, the code, the entries, the names and the role count; the frames that wait; the library's module and
-- code
pub record Site : Type 0 where
  pub meant : meanings.Frame
  pub context : Context
  pub frame : Frame
  pub waiting : List Frame
  pub holder : Module
  pub code : Code

-- the machine's frame at a position, with these locals and slots
abbrev pub at : Frame → ℕ → Locals → List Slot → Frame
at frame p env slots = record frame { position = p; locals = env; slots = slots }

-- the machine at a position of the site, in a world
abbrev pub standing : Site → ℕ → Locals → List Slot → PlainWorld → State
standing site p env slots w = Running 0 (at site.frame p env slots) site.waiting w

-- a code whose children have numbers that are greater by `shift`
abbrev pub shifted : ℕ → Code → Code
shifted shift code = record code { children = map (λ n. shift + n) code.children }

-- both sides run the same text
pub record Sited (library : Library) (site : Site) : Type 0 where
  -- the frame's module and code are these of the library, with the instructions of the context
  pub of_module : module_in (entry_in library site.frame.module_name) ≡ Some site.holder
  pub of_code : code_at library site.frame.module_name site.frame.code ≡ Some site.code
  pub lines : site.code.lines ≡ site.context.lines
  -- the meaning has their file, name, level, locals, names and module
  pub file : site.holder.file ≡ site.meant.file
  pub name : site.code.name ≡ site.meant.name
  pub level : site.context.level ≡ site.meant.level
  pub locals : site.context.locals ≡ site.meant.locals
  pub names : site.frame.names ≡ site.meant.names
  pub module_name : site.frame.module_name ≡ site.meant.module_name
  -- and counts as many calls as there are frames
  pub depth : site.meant.depth ≡ suc (length site.waiting)
  -- the codes of the context stand in the module behind `shift` others
  pub shift : ℕ
  pub children : (i number : ℕ) → slice_get site.context.children i ≡ Some number → slice_get site.code.children i ≡ Some (shift + number)
  pub base : site.meant.base ≡ shift + site.context.base
  pub codes : (number : ℕ) (code : Code) → slice_get site.context.codes number ≡ Some code
      → slice_get site.holder.codes (shift + number) ≡ Some (shifted shift code)
  -- the code has a slot for each local
  pub rooms : length site.context.locals ≤ site.code.locals

-- entries and slots
-- =================

-- from one position to another no entry's mark changes
abbrev pub Quiet : List Entry → (low high : ℕ) → Type 0
Quiet entries low high = (p : ℕ) → low ≤ p → p ≤ high → map (remark p) entries ≡ entries

-- no entry's height is above `n` slots
abbrev pub Fits : List Entry → ℕ → Type 0
Fits [] n = Unit {0}
Fits (e ∷ entries) n = (e.height ≤ n) × Fits entries n

-- a break out of an iterating loop's own body finds the four slots of the iterator
abbrev pub Iterates : (count : ℕ) → (iterator : Bool) → List Slot → Type 0
Iterates zero true slots = 4 ≤ length slots
Iterates zero false slots = Unit {0}
Iterates (suc n) iterator slots = Unit {0}

-- below a statement that stands from `low` to `high`: no entry's mark changes there, none is higher than the slots, they keep
-- the exceptions that are handled, and the loop around has its iterator
pub record Below (site : Site) (around : Around) (slots : List Slot) (handled : List ℕ) (low high : ℕ) : Type 0 where
  pub quiet : Quiet site.frame.entries low high
  pub fits : Fits site.frame.entries (length slots)
  pub kept : kept_of site.frame.entries ≡ handled
  pub iter : Iterates around.count around.iterator slots
