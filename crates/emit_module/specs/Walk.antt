-- The codes of the functions in a text.
use Rattle.std.specs.Prelude.{◌≡◌, ℕ, suc, ◌+◌, max, Bool, false, List, [], ◌∷◌, ◌++◌, length, map, Result, Ok, Err, slice_get}
use Rattle.mpy_base.specs.declared.source.SourceFault.{SourceFault}
use Rattle.mpy_base.specs.declared.refused.Refused.{Refused}
use Rattle.mpy_base.specs.declared.refused.Refused.TheVariants.{Fault, NoMemory}
use Rattle.mpy_writer.specs.mpy_tree.declared.module.Code.{Code, out-Code}
use Rattle.mpy_writer.specs.mpy_tree.declared.module.ModuleCode.{ModuleCode}
use Rattle.py_tree.specs.declared.stmt.Branch.{Branch}
use Rattle.py_tree.specs.declared.stmt.Param.{Param}
use Rattle.py_tree.specs.declared.stmt.Stmt as stmts
use Rattle.tr_source.specs.py_meaning.Tree.{Name, count, Function, Stmt, If, While, For, Try, Finally, TryFinally, Def, Block}
use Rattle.tr_source.specs.py_meaning.Tree.{End, Next, Branches, Else, Case, Handlers, NoHandler, Any, On, OnAs}
use Rattle.tr_source.specs.py_meaning.Plain.{Part, chain, defaults_of}
use Rattle.tr_source.specs.py_meaning.Program.{Source, Text, or_none, module_name, function_text}
use Rattle.emit_measures.specs.bc_scheme.Heights.{tall_block, held_in}
use Rattle.emit_stmt.specs.emit_draft.declared.draft.Draft.{Draft}
use Rattle.emit_stmt.specs.emit_draft.declared.scope.Scope.{Scope}
use Rattle.emit_stmt.specs.emit_draft.declared.codes.CodeHead.{CodeHead}
use Rattle.emit_stmt.specs.emit_draft.declared.codes.CodeLines.{CodeLines}
use Rattle.emit_stmt.specs.emit_draft.Finished.{IsFinished, IsCodeOf}
use Rattle.emit_stmt.specs.Parts.{plain_block, plain_branch}
use Rattle.emit_stmt.specs.Text.{EmitsText}
use Rattle.emit_module.specs.declared.own.Place.{Place}
use Rattle.emit_module.specs.declared.own.OwnCode.{OwnCode}
use Rattle.emit_module.specs.declared.walk.Children.{Children}
use Rattle.emit_module.specs.Own.{IsTextOf, IsWritten}
use Rattle.emit_module.specs.Counted.{IsFine, IsBroken}
use Rattle.emit_module.specs.First.{Site}

-- ---- functions

-- the functions in a text: each with those in it
pub data Forest : Type 0 where
  bare : Forest
  grow : (line : ℕ) → Function → (inner others : Forest) → Forest

-- the functions of two parts of a text, one behind the other
abbrev pub beside : Forest → Forest → Forest
beside bare g = g
beside (grow line f inner others) g = grow line f inner (beside others g)

-- how many functions these are, with those in them
abbrev pub size : Forest → ℕ
size bare = 0
size (grow line f inner others) = suc (size inner + size others)

-- the lines of their `def`s
abbrev pub def_lines : Forest → List ℕ
def_lines bare = []
def_lines (grow line f inner others) = line ∷ (def_lines inner ++ def_lines others)

abbrev mutual
  pub planted : Block → Forest
  planted End = bare
  planted (Next line s b) = beside (planted_in line s) (planted b)

  pub planted_in : (line : ℕ) → Stmt → Forest
  planted_in line (If branches) = planted_of branches
  planted_in line (While test body rest) = beside (planted body) (planted rest)
  planted_in line (For target over body rest) = beside (planted body) (planted rest)
  planted_in line (Try body handlers rest) = beside (beside (planted body) (planted_by handlers)) (planted rest)
  planted_in line (Finally body last) = beside (planted body) (planted last)
  planted_in line (TryFinally body handlers rest last) = beside (beside (beside (planted body) (planted_by handlers)) (planted rest)) (planted last)
  planted_in line (Def number name params defaults body) =
      grow line (record { name = name; params = params; given = count defaults; body = body }) (planted body) bare
  planted_in line _ = bare

  pub planted_of : Branches → Forest
  planted_of (Else b) = planted b
  planted_of (Case line test b branches) = beside (planted b) (planted_of branches)

  pub planted_by : Handlers → Forest
  planted_by NoHandler = bare
  planted_by (Any line b) = planted b
  planted_by (On line test b handlers) = beside (planted b) (planted_by handlers)
  planted_by (OnAs line test name b handlers) = beside (planted b) (planted_by handlers)

-- ---- a text

-- the finished code of a text without a fault
pub record IsTextCode (place : Place) (own : Bool) (body : List stmts.Stmt) (text : Text) (code : OwnCode) : Type 0 where
  pub draft : Draft
  pub scope : Scope
  pub is_module : scope.is_module ≡ own
  pub is_text : IsTextOf place scope body text
  pub emitted : EmitsText draft place.level scope (plain_block body)
  pub roomy : draft.crowded ≡ false
  pub finished : IsFinished draft code.lines
  pub n_state : code.n_state ≡ length text.locals + max 1 (tall_block text.level text.body)
  pub n_exc : code.n_exc ≡ held_in text.body
  pub within : IsFine (record { line = place.line; depth = place.depth }) text

-- the text's fault, or want of memory
abbrev pub IsTextRefused : Site → Text → Refused SourceFault → Type 0
IsTextRefused site text (Fault fault) = IsBroken site text fault
IsTextRefused site text NoMemory = Unit {0}

-- a code is that of the text, with any children
pub record IsMadeCode (own : Bool) (site : Site) (text : Text) (code : Code) : Type 0 where
  pub draft : Draft
  pub scope : Scope
  pub head : CodeHead
  pub lines : CodeLines
  pub is_module : scope.is_module ≡ own
  pub written : IsWritten text draft scope head lines
  pub code_is : IsCodeOf head lines (out-Code code).children code
  pub n_state : head.n_state ≡ length text.locals + max 1 (tall_block text.level text.body)
  pub n_exc : head.n_exc ≡ held_in text.body
  pub within : IsFine site text

-- ---- the functions in a text, of which the first one is the source's function of this number, from 0 on

-- the text of a function that has the number in the source
abbrev pub text_at : Source → ℕ → Function → Text
text_at source number f = function_text source.file source 0 (or_none (slice_get source.locals number)) f

-- the codes of the functions in a text
pub data Grows (source : Source) : (depth number : ℕ) → Forest → List Code → Type 0 where
  no_code : {depth number : ℕ} → Grows source depth number bare []
  with_code : {depth number line : ℕ} {f : Function} {inner others : Forest} {first : Code} {codes : List Code}
      → IsMadeCode false (record { line = line; depth = suc depth }) (text_at source number f) first → inner ≡ planted f.body
      → Grows source (suc depth) (suc number) inner (out-Code first).children → Grows source depth (suc (number + size inner)) others codes
      → Grows source depth number (grow line f inner others) (first ∷ codes)

-- none of them passes a limit
abbrev pub AreFine : Source → (depth number : ℕ) → Forest → Type 0
AreFine source depth number bare = Unit {0}
AreFine source depth number (grow line f inner others) =
    IsFine (record { line = line; depth = suc depth }) (text_at source number f) × AreFine source (suc depth) (suc number) inner
    × AreFine source depth (suc (number + size inner)) others

-- the fault of the first of them that passes one
pub data Breaks (source : Source) : (depth number : ℕ) → Forest → SourceFault → Type 0 where
  here : {depth number line : ℕ} {f : Function} {inner others : Forest} {fault : SourceFault}
      → IsBroken (record { line = line; depth = suc depth }) (text_at source number f) fault → Breaks source depth number (grow line f inner others) fault
  inside : {depth number line : ℕ} {f : Function} {inner others : Forest} {fault : SourceFault}
      → IsFine (record { line = line; depth = suc depth }) (text_at source number f) → Breaks source (suc depth) (suc number) inner fault
      → Breaks source depth number (grow line f inner others) fault
  behind : {depth number line : ℕ} {f : Function} {inner others : Forest} {fault : SourceFault}
      → IsFine (record { line = line; depth = suc depth }) (text_at source number f) → AreFine source (suc depth) (suc number) inner
      → Breaks source depth (suc (number + size inner)) others fault → Breaks source depth number (grow line f inner others) fault

-- ---- a walk over the functions in a text

-- the codes of the functions in a text were added
pub record IsWalked (source : Source) (forest : Forest) (a b : Children) : Type 0 where
  pub level : b.level ≡ a.level
  pub depth : b.depth ≡ a.depth
  pub more : List Code
  pub codes : b.codes ≡ a.codes ++ more
  pub next : b.next ≡ a.next + size forest
  pub lines : b.lines ≡ a.lines ++ def_lines forest
  pub grows : Grows source a.depth a.next forest more

-- or the first of them that passes a limit has this fault, or memory wasn't found
abbrev pub Walks : {A : Type 0} → Source → Forest → (a b : Children) → Result A (Refused SourceFault) → Type 0
Walks source forest a b (Ok x) = IsWalked source forest a b
Walks source forest a b (Err (Fault fault)) = Breaks source a.depth a.next forest fault
Walks source forest a b (Err NoMemory) = Unit {0}

-- so it is in each source of the level with these slots, whatever numbers the functions have in its plain tree
pub record WalksAll {A : Type 0} (slots : List (List Name)) (forest : ℕ → Forest) (a b : Children) (r : Result A (Refused SourceFault)) : Type 0 where
  pub by : (source : Source) → source.level ≡ a.level → source.locals ≡ slots → (n : ℕ) → Walks source (forest n) a b r

-- as a front of what stands in a row, with anything behind it
pub record IsFront {A : Type 0} (source : Source) (a b : Children) (r : Result A (Refused SourceFault)) (whole : Forest) (behind : ℕ → Forest) : Type 0 where
  pub front : Forest
  pub at : ℕ
  pub is : whole ≡ beside front (behind at)
  pub walks : Walks source front a b r

-- a walk over these branches, in front of others
pub record WalksFront {A : Type 0} (slots : List (List Name)) (branches : List Branch) (a b : Children) (r : Result A (Refused SourceFault)) : Type 0 where
  pub by : (source : Source) → source.level ≡ a.level → source.locals ≡ slots → (rest : Part Branches) (n : ℕ)
      → IsFront source a b r (planted_of ((chain (map plain_branch branches) rest).make n)) (λ m. planted_of (rest.make m))

-- how many functions stand in branches
abbrev pub front_defs : List Branch → ℕ
front_defs [] = 0
front_defs (branch ∷ branches) = (plain_branch branch).defs + front_defs branches

-- ---- a function

-- where the codes of the functions in the next one begin
abbrev pub begun : Children → Children
begun around = record { level = around.level; depth = around.depth + 1; next = around.next + 1; codes = []; lines = [] }

-- what a walk over a function's body comes to
abbrev pub BodyWalks : Source → Forest → (around : Children) → Result Children (Refused SourceFault) → Type 0
BodyWalks source forest around (Ok inner) = IsWalked source forest (begun around) inner
BodyWalks source forest around (Err (Fault fault)) = Breaks source (begun around).depth (begun around).next forest fault
BodyWalks source forest around (Err NoMemory) = Unit {0}

-- what a walk over a function's body comes to, of a part of a source, whatever the source
pub record WalksBody (slots : List (List Name)) (part : Part Block) (around : Children) (r : Result Children (Refused SourceFault)) : Type 0 where
  pub by : (source : Source) → source.level ≡ around.level → source.locals ≡ slots → (n : ℕ) → BodyWalks source (planted (part.make n)) around r

-- the place of a function inside others
abbrev pub place_of : (around : Children) (line : ℕ) → List Param → Place
place_of around line params = record { level = around.level; line = line; depth = around.depth + 1; params = length params }

-- it has these parameters and statements
pub record IsFunctionOf (params : List Param) (body : List stmts.Stmt) (f : Function) : Type 0 where
  pub names : f.params ≡ map (λ (param : Param). param.name) params
  pub number : ℕ
  pub made : f.body ≡ (plain_block body).make number

-- what making the code of a text comes to
abbrev pub CodesText : (place : Place) (own : Bool) → List stmts.Stmt → Text → Result OwnCode (Refused SourceFault) → Type 0
CodesText place own body text (Ok code) = IsTextCode place own body text code
CodesText place own body text (Err refusal) = IsTextRefused (record { line = place.line; depth = place.depth }) text refusal

-- what the next function of a source is made of its own statements
pub record CodesFunction (slots : List (List Name)) (around : Children) (line : ℕ) (params : List Param) (body : List stmts.Stmt)
    (r : Result OwnCode (Refused SourceFault)) : Type 0 where
  pub by : (source : Source) → source.level ≡ around.level → source.locals ≡ slots → (f : Function) → IsFunctionOf params body f
      → CodesText (place_of around line params) false body (text_at source around.next f) r

-- the head of a code
pub record IsHeadOf (name : Name) (params : List Param) (n_state n_exc : ℕ) (head : CodeHead) : Type 0 where
  pub is_named : head.name ≡ name
  pub takes : head.args ≡ map (λ (param : Param). param.name) params
  pub given : head.defaults ≡ count (defaults_of params)
  pub slots : head.n_state ≡ n_state
  pub entries : head.n_exc ≡ n_exc

-- the code of the next function, in that line, stands behind the others, with the codes of those in it
pub record IsPut (a b : Children) (line : ℕ) (name : Name) (params : List Param) (own : OwnCode) (inner : Children) : Type 0 where
  pub level : b.level ≡ a.level
  pub depth : b.depth ≡ a.depth
  pub next : b.next ≡ inner.next
  pub code : Code
  pub codes : b.codes ≡ a.codes ++ code ∷ []
  pub lines : b.lines ≡ a.lines ++ line ∷ inner.lines
  pub head : CodeHead
  pub head_is : IsHeadOf name params own.n_state own.n_exc head
  pub code_is : IsCodeOf head own.lines inner.codes code

-- ---- a source

-- where the walk over a source begins
abbrev pub top : (level : ℕ) → Children
top level = record { level = level; depth = 0; next = 0; codes = []; lines = [] }

-- what a walk over a source comes to
abbrev pub TopWalks : (level : ℕ) → Source → Forest → Result Children (Refused SourceFault) → Type 0
TopWalks level source forest (Ok children) = IsWalked source forest (top level) children
TopWalks level source forest (Err (Fault fault)) = Breaks source 0 0 forest fault
TopWalks level source forest (Err NoMemory) = Unit {0}

-- what a walk over a source comes to, of a part that is the whole of a source
pub record WalksTop (level : ℕ) (slots : List (List Name)) (part : Part Block) (r : Result Children (Refused SourceFault)) : Type 0 where
  pub by : (source : Source) → source.level ≡ level → source.locals ≡ slots → (n : ℕ) → TopWalks level source (planted (part.make n)) r

-- the module of these parts
pub record IsModuleOf (file : Name) (own : OwnCode) (children : Children) (whole : ModuleCode) : Type 0 where
  pub source : whole.source ≡ file
  pub head : CodeHead
  pub name : head.name ≡ module_name
  pub args : head.args ≡ []
  pub defaults : head.defaults ≡ 0
  pub n_state : head.n_state ≡ own.n_state
  pub n_exc : head.n_exc ≡ own.n_exc
  pub code : IsCodeOf head own.lines children.codes whole.code
