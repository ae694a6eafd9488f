-- The locals that instructions name.
use Rattle.std.specs.Prelude.{◌≡◌, ℕ, max, ◌≤◌, ◌<◌, Bool, true, List, [], ◌∷◌, length, Some, position, bytes_eq}
use Rattle.std.specs.List.{list_all}
use Rattle.py_tree.specs.declared.stmt.Alias.{Alias}
use Rattle.bc_scheme.specs.py_scopes.Names.{has}
use Rattle.bc_scheme.specs.py_meaning.Tree.{Name, Stmt, Do, Assign, AugName, AugAttr, AugIndex, Delete, Pass, Break, Continue}
use Rattle.bc_scheme.specs.py_meaning.Tree.{ReturnNone, Return, Reraise, Raise, Assert, AssertWith, Import, From, If, While, For}
use Rattle.bc_scheme.specs.py_meaning.Tree.{Try, Finally, TryFinally, Def, Block, End, Next, Branches, Else, Case, Handlers}
use Rattle.bc_scheme.specs.py_meaning.Tree.{NoHandler, Any, On, OnAs}
use Rattle.bc_scheme.specs.py_meaning.Program.{Text}
use Rattle.bc_scheme.specs.py_meaning.Imported.{is_undotted}
use Rattle.bc_scheme.specs.py_meaning.Locals.{bound_in}
use Rattle.bc_scheme.specs.mpy_tree.Resolved as trees
use Rattle.bc_scheme.specs.bc_machine.Library.{Item, Plain, Names, Loads, Jumps, Unwinds, Line, local_of}

-- one more than the local that an instruction names
abbrev pub local_in : Item → ℕ
local_in (Plain instr) = local_of (trees.plain instr)
local_in (Names op text) = 0
local_in (Loads value) = 0
local_in (Jumps op position) = 0
local_in (Unwinds position byte) = 0

-- one more than the greatest local that one of these names, and no less than the given number
abbrev pub locals_in : ℕ → List Line → ℕ
locals_in least [] = least
locals_in least (line ∷ lines) = max (local_in line.item) (locals_in least lines)

-- a text's locals are its parameters, and behind them names that it binds itself, each in its first slot
pub record HasOwnLocals (text : Text) : Type 0 where
  pub params : length text.params ≤ length text.locals
  pub others : (slot : ℕ) → length text.params ≤ slot → slot < length text.locals
      → (name : Name) × (has name (bound_in text.body) ≡ true) × (position (bytes_eq name) text.locals ≡ Some slot)

-- of each text: its locals are its parameters, and behind them names that it binds itself, each in its first slot
abbrev pub AllHaveOwnLocals : List Text → Type 0
AllHaveOwnLocals [] = Unit {0}
AllHaveOwnLocals (text ∷ texts) = HasOwnLocals text × AllHaveOwnLocals texts

-- no name that a text itself takes from a module has a dot, as no name that a source spells has
abbrev pub are_undotted : List Alias → Bool
are_undotted names = list_all (λ (alias : Alias). is_undotted alias.name) names

abbrev mutual
  pub TakesUndotted : Block → Type 0
  TakesUndotted End = Unit {0}
  TakesUndotted (Next line s b) = StmtTakesUndotted s × TakesUndotted b

  pub StmtTakesUndotted : Stmt → Type 0
  StmtTakesUndotted (Do value) = Unit {0}
  StmtTakesUndotted (Assign targets value) = Unit {0}
  StmtTakesUndotted (AugName name op value) = Unit {0}
  StmtTakesUndotted (AugAttr object name op value) = Unit {0}
  StmtTakesUndotted (AugIndex object index op value) = Unit {0}
  StmtTakesUndotted (Delete targets) = Unit {0}
  StmtTakesUndotted Pass = Unit {0}
  StmtTakesUndotted Break = Unit {0}
  StmtTakesUndotted Continue = Unit {0}
  StmtTakesUndotted ReturnNone = Unit {0}
  StmtTakesUndotted (Return value) = Unit {0}
  StmtTakesUndotted Reraise = Unit {0}
  StmtTakesUndotted (Raise value) = Unit {0}
  StmtTakesUndotted (Assert test) = Unit {0}
  StmtTakesUndotted (AssertWith test message) = Unit {0}
  StmtTakesUndotted (Import names) = Unit {0}
  StmtTakesUndotted (From path names) = are_undotted names ≡ true
  StmtTakesUndotted (If branches) = BranchesTakeUndotted branches
  StmtTakesUndotted (While test body rest) = TakesUndotted body × TakesUndotted rest
  StmtTakesUndotted (For target over body rest) = TakesUndotted body × TakesUndotted rest
  StmtTakesUndotted (Try body handlers rest) = TakesUndotted body × HandlersTakeUndotted handlers × TakesUndotted rest
  StmtTakesUndotted (Finally body last) = TakesUndotted body × TakesUndotted last
  StmtTakesUndotted (TryFinally body handlers rest last) = TakesUndotted body × HandlersTakeUndotted handlers × TakesUndotted rest × TakesUndotted last
  -- the text of the function is its own
  StmtTakesUndotted (Def number name params defaults body) = Unit {0}

  pub BranchesTakeUndotted : Branches → Type 0
  BranchesTakeUndotted (Else body) = TakesUndotted body
  BranchesTakeUndotted (Case line test body branches) = TakesUndotted body × BranchesTakeUndotted branches

  pub HandlersTakeUndotted : Handlers → Type 0
  HandlersTakeUndotted NoHandler = Unit {0}
  HandlersTakeUndotted (Any line body) = TakesUndotted body
  HandlersTakeUndotted (On line test body handlers) = TakesUndotted body × HandlersTakeUndotted handlers
  HandlersTakeUndotted (OnAs line test name body handlers) = TakesUndotted body × HandlersTakeUndotted handlers
