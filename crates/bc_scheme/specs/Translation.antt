-- The translation of a source into a module.
use Rattle.std.specs.Prelude.{◌≡◌, ℕ, suc, ◌+◌, max, List, [], ◌∷◌, ◌++◌, length, map, Bool, true, false, slice_get, Some}
use Rattle.bc_machine.specs.bc_ops.declared.instr.Op.TheVariants as ops
use Rattle.bc_machine.specs.mpy_tree.Resolved.{Body, Tree, node, Trees, no_more, more, ResolvedModule}
use Rattle.bc_machine.specs.Library.{Code, codes_from}
use Rattle.py_meaning.specs.Tree.{Stmt, If, While, For, Try, Finally, TryFinally, Def, Block, End, Next, Branches, Else, Case}
use Rattle.py_meaning.specs.Tree.{Handlers, NoHandler, Any, On, OnAs}
use Rattle.py_meaning.specs.Program.{Source, Text, source_texts}
use Rattle.bc_scheme.specs.Context.{line_before, plain}
use Rattle.bc_scheme.specs.Statements.{StandsB}
use Rattle.bc_scheme.specs.Heights.{tall_block, held_in}

-- the numbers of the functions that are defined in a text itself, in text order
abbrev mutual
  pub own : Block → List ℕ
  own End = []
  own (Next line s b) = own_in s ++ own b

  pub own_in : Stmt → List ℕ
  own_in (If branches) = own_of branches
  own_in (While e body rest) = own body ++ own rest
  own_in (For t e body rest) = own body ++ own rest
  own_in (Try body handlers rest) = own body ++ own_by handlers ++ own rest
  own_in (Finally body last) = own body ++ own last
  own_in (TryFinally body handlers rest last) = own body ++ own_by handlers ++ own rest ++ own last
  own_in (Def number name params defaults body) = number ∷ []
  own_in _ = []

  pub own_of : Branches → List ℕ
  own_of (Else b) = own b
  own_of (Case line e b branches) = own b ++ own_of branches

  pub own_by : Handlers → List ℕ
  own_by NoHandler = []
  own_by (Any line b) = own b
  own_by (On line e b handlers) = own b ++ own_by handlers
  own_by (OnAs line e name b handlers) = own b ++ own_by handlers

-- the text of a module or of a function is this code. No break stands outside a loop: its place there is the code's end
pub record StandsCode (codes : List Code) (is_module : Bool) (text : Text) (code : Code) : Type 0 where
  pub name : code.name ≡ text.name
  pub params : code.params ≡ text.params
  pub given : code.given ≡ text.given
  -- the instructions name all locals
  pub locals : code.locals ≡ length text.locals
  pub children : code.children ≡ map (λ n. text.base + n) (own text.body)
  pub last : ℕ
  pub length : length code.lines ≡ suc (suc last)
  pub body :
      StandsB (record {
        lines = code.lines;
        level = text.level;
        is_module = is_module;
        locals = text.locals;
        children = code.children;
        base = text.base;
        codes = codes;
      })
      (record { brk = last; cont = last; count = 0; iterator = false }) 0 text.body last
  pub none : slice_get code.lines last ≡ Some (record { item = plain ops.LoadConstNone; line = line_before code.lines last })
  pub return : slice_get code.lines (suc last) ≡ Some (record { item = plain ops.ReturnValue; line = line_before code.lines (suc last) })

abbrev mutual
  pub bodies : Tree → List Body
  bodies (node body trees) = body ∷ bodies_of trees

  pub bodies_of : Trees → List Body
  bodies_of no_more = []
  bodies_of (more tree trees) = bodies tree ++ bodies_of trees

-- the slots are the locals and the greatest height, of which the end of a code asks one, and the entries are those held
pub record HasState (text : Text) (body : Body) : Type 0 where
  pub n_state : body.n_state ≡ length text.locals + max 1 (tall_block text.level text.body)
  pub n_exc : body.n_exc ≡ held_in text.body

-- each text of the source, in preorder, is the code of the same number, and the first one is the module's own
abbrev pub StandAll : List Code → Bool → List Text → List Code → Type 0
StandAll all is_module [] codes = codes ≡ []
StandAll all is_module (text ∷ texts) codes =
    (code : Code) × (others : List Code) × (codes ≡ code ∷ others) × StandsCode all is_module text code × StandAll all false texts others

-- each text's code has as many slots and entries as the text asks for
abbrev pub HaveStates : List Text → List Body → Type 0
HaveStates [] bs = bs ≡ []
HaveStates (text ∷ texts) bs = (body : Body) × (others : List Body) × (bs ≡ body ∷ others) × HasState text body × HaveStates texts others

-- the module is the translation of the source
pub record Translates (source : Source) (m : ResolvedModule) : Type 0 where
  pub file : m.source ≡ source.file
  pub codes : StandAll (codes_from 0 m.code) true (source_texts source.file source 0) (codes_from 0 m.code)
  pub states : HaveStates (source_texts source.file source 0) (bodies m.code)
