-- The machine follows the meaning: expressions, statements, calls and imports of a program, in a library of its modules.
use Rattle.std.specs.Prelude.{◌≡◌, ℕ, suc, ◌+◌, ◌-◌, ◌*◌, ◌≤◌, ◌<◌, pos, List, [], ◌∷◌, length, false}
use Rattle.bc_scheme.specs.mpy_base.Val.{Val, Int, PlainWorld}
use Rattle.bc_scheme.specs.bc_ops.declared.instr.Op.TheVariants as ops
use Rattle.bc_scheme.specs.py_effects.Names.{Locals, Looked}
use Rattle.bc_scheme.specs.py_effects.Calling.{Keys}
use Rattle.bc_scheme.specs.py_effects.Modules.{module_named}
use Rattle.bc_scheme.specs.py_meaning.Tree.{Name, Expr, Stmt, Block}
use Rattle.bc_scheme.specs.py_meaning.Program.{Program, Text}
use Rattle.bc_scheme.specs.py_meaning.Outcomes.{Out, SOut, block_of}
use Rattle.bc_scheme.specs.py_meaning.Bounds.{left_e, left_s}
use Rattle.bc_scheme.specs.py_meaning.Frames.{place_at}
use Rattle.bc_scheme.specs.py_meaning.Expressions.{apply, apply_looked}
use Rattle.bc_scheme.specs.py_meaning.Imports.{import_name}
use Rattle.bc_scheme.specs.py_meaning.Meaning.{sem}
use Rattle.bc_scheme.specs.bc_machine.Library.{Names, Library}
use Rattle.bc_scheme.specs.bc_machine.State.{Slot, Value, Role, Frame, State}
use Rattle.bc_scheme.specs.bc_machine.Parts.{looked_on, new_frame}
use Rattle.bc_scheme.specs.Context.{Has, number}
use Rattle.bc_scheme.specs.Expressions.{StandsE}
use Rattle.bc_scheme.specs.Statements.{Around, StandsS, StandsB}
use Rattle.sim_stmt.specs.Sites.{Site, standing, Sited, Quiet, Fits, Below}
use Rattle.sim_stmt.specs.Order.{InOrder}
use Rattle.sim_stmt.specs.Lands.{Goes, Lands, valued, LandsS}

-- from s, with t turns, the machine goes where an evaluation lands, by 16 steps at most for each turn that it took, and `more`
abbrev pub GoesTo : {A : Type 0} → Library → (A → PlainWorld → State) → Site → Locals → List Slot → State → (t more : ℕ) → Out A → Type 0
GoesTo library v site env slots s t more r = Goes library (Lands v site env slots r) s (t - left_e r) more

-- and where a statement or a block lands, by 16 steps at most for each turn that it took
abbrev pub GoesBehind : Library → Site → Around → (end : ℕ) → List Slot → State → (t : ℕ) → SOut → Type 0
GoesBehind library site around end slots s t r = Goes library (LandsS site around end slots r) s (t - left_s r) 0

-- values put onto the slots, the first first
abbrev pub pushed : List Val → List Slot → List Slot
pushed [] slots = slots
pushed (v ∷ vs) slots = pushed vs (Value v ∷ slots)

-- keyword arguments as they lie on the slots, each name below its value
abbrev pub laid : List (Val × Val) → List Val
laid [] = []
laid (key ∷ keys) = key.0 ∷ key.1 ∷ laid keys

-- arguments, and above them keyword arguments
abbrev pub given_on : List Val → Keys → List Slot → List Slot
given_on args keys slots = pushed (laid keys) (pushed args slots)

module _ (program : Program) (library : Library) where
  -- each expression, from where its code begins to its end, with its value on the slots. The meaning is taken to any depth of
  -- nested evaluations from its turns on
  abbrev pub FollowsExpressions : Type 0
  FollowsExpressions =
      (site : Site) (line p q : ℕ) (e : Expr) (env : Locals) (slots : List Slot) (depth t : ℕ) (w : PlainWorld)
      → Sited library site → StandsE site.context line p e q → Quiet site.frame.entries p q → Fits site.frame.entries (length slots) → t ≤ depth
      → InOrder library (standing site p env slots w)
      → GoesTo library (valued site q env slots) site env slots (standing site p env slots w) t 0 ((sem program depth).eval site.meant env line e t w)

  -- each statement, with each of the five completions
  abbrev pub FollowsStatements : Type 0
  FollowsStatements =
      (site : Site) (around : Around) (line p q : ℕ) (s : Stmt) (handled : List ℕ) (env : Locals) (slots : List Slot) (depth t : ℕ) (w : PlainWorld)
      → Sited library site → StandsS site.context around line p s q → Below site around slots handled p q → t ≤ depth
      → InOrder library (standing site p env slots w)
      → GoesBehind library site around q slots (standing site p env slots w) t ((sem program depth).exec site.meant handled line s env t w)

  -- each block of statements
  abbrev pub FollowsBlocks : Type 0
  FollowsBlocks =
      (site : Site) (around : Around) (p q : ℕ) (b : Block) (handled : List ℕ) (env : Locals) (slots : List Slot) (depth t : ℕ) (w : PlainWorld)
      → Sited library site → StandsB site.context around p b q → Below site around slots handled p q → t ≤ depth
      → InOrder library (standing site p env slots w)
      → GoesBehind library site around q slots (standing site p env slots w) t (block_of ((sem program depth).exec site.meant handled) b env t w)

  -- each call of a value: what it gives is on the slots in place of the callee and the arguments. The turn of the call's expression
  -- pays for the three steps more
  abbrev pub FollowsCalls : Type 0
  FollowsCalls =
      (site : Site) (line p : ℕ) (callee : Val) (args : List Val) (keys : Keys) (env : Locals) (slots : List Slot) (depth t : ℕ) (w : PlainWorld)
      → Sited library site → Has site.context line p (number ops.CallFunction (length args + 256 * length keys)) → length args < 256
      → Quiet site.frame.entries (suc p) (suc p) → Fits site.frame.entries (length slots) → t ≤ depth
      → InOrder library (standing site p env (given_on args keys (Value callee ∷ slots)) w)
      → GoesTo library (valued site (suc p) env slots) site env slots (standing site p env (given_on args keys (Value callee ∷ slots)) w) t 3
      (apply program (sem program depth).eval (sem program depth).exec (place_at site.meant line) site.meant callee args keys t w)

  -- each call of what a method look-up left
  abbrev pub FollowsMethods : Type 0
  FollowsMethods =
      (site : Site) (line p : ℕ) (looked : Looked) (args : List Val) (keys : Keys) (env : Locals) (slots : List Slot) (depth t : ℕ) (w : PlainWorld)
      → Sited library site → Has site.context line p (number ops.CallMethod (length args + 256 * length keys)) → length args < 256
      → Quiet site.frame.entries (suc p) (suc p) → Fits site.frame.entries (length slots) → t ≤ depth
      → InOrder library (standing site p env (given_on args keys (looked_on looked slots)) w)
      → GoesTo library (valued site (suc p) env slots) site env slots (standing site p env (given_on args keys (looked_on looked slots)) w) t 3
      (apply_looked program (sem program depth).eval (sem program depth).exec (place_at site.meant line) site.meant looked args keys t w)

  -- each import of the modules of a dotted name, with these names asked of the last one: the target is on the slots in their place. The
  -- turn of the import pays for the five steps more
  abbrev pub FollowsImports : (names : Val) → (target : Name → Name) → Type 0
  FollowsImports names target =
      (site : Site) (line p : ℕ) (name : Name) (env : Locals) (slots : List Slot) (depth t : ℕ) (w : PlainWorld)
      → Sited library site → Has site.context line p (Names ops.ImportName name) → Quiet site.frame.entries (suc p) (suc p)
      → Fits site.frame.entries (length slots) → t ≤ depth
      → InOrder library (standing site p env (Value names ∷ Value (Int (pos 0)) ∷ slots) w)
      → GoesTo library (λ done w1. standing site (suc p) env (Value (module_named w1 (target name)) ∷ slots) w1) site env slots
      (standing site p env (Value names ∷ Value (Int (pos 0))
      ∷ slots) w) t 5 (import_name program (sem program depth).exec site.meant (place_at site.meant line) name t w)

-- no loop is around the body of a text
abbrev pub outside : (last : ℕ) → Around
outside last = record { brk = last; cont = last; count = 0; iterator = false }

-- the library's code of a text, in a frame that begins: both sides run the text, and its body stands from the code's start up to
-- `last`, over no slots and entries
pub record HasSite (library : Library) (name : Name) (number : ℕ) (text : Text) (names : ℕ) (role : Role) (waiting : List Frame) : Type 0 where
  pub site : Site
  pub sited : Sited library site
  pub meant :
      site.meant
      ≡ record {
        file = text.file;
        name = text.name;
        level = text.level;
        module_name = name;
        names = names;
        base = text.base;
        locals = text.locals;
        depth = suc (length waiting);
      }
  pub frame : site.frame ≡ new_frame name number site.code [] names role
  pub waits : site.waiting ≡ waiting
  pub last : ℕ
  pub body : StandsB site.context (outside last) 0 text.body last
  pub below : Below site (outside last) [] [] 0 last
