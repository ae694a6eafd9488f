-- Plain trees whose names and strs are ASCII, whose numbers are small, and whose lines never fall.
use Rattle.std.specs.Prelude.{ℕ, ◌≤◌, ◌<◌, ◌^◌, ℤ, pos, negsuc, List, [], ◌∷◌, length, Option, Some, None, All}
use Rattle.bc_resolved.specs.mpy_base.Val.{Val, Nil, Truth, Int, Str, Fixed, Empty, Built, At}
use Rattle.py_meaning.specs.py_tree.declared.stmt.Alias.{Alias}
use Rattle.emit_measures.specs.bc_scheme.py_meaning.Tree.{Name, Expr, Constant, Named, Unary, Not, Binary, And, Or, Compare, Cond}
use Rattle.emit_measures.specs.bc_scheme.py_meaning.Tree.{TupleOf, ListOf, DictOf, Attr, Index, Call, Method, Exprs, NoExpr, More}
use Rattle.emit_measures.specs.bc_scheme.py_meaning.Tree.{Links, Last, Link, Pairs, NoPair, Pair, Keys, NoKey, Key, count, Target}
use Rattle.emit_measures.specs.bc_scheme.py_meaning.Tree.{ToName, ToAttr, ToIndex, ToEach, Targets, Only, Then, Stmt, Do, Assign}
use Rattle.emit_measures.specs.bc_scheme.py_meaning.Tree.{AugName, AugAttr, AugIndex, Delete, Pass, Break, Continue, ReturnNone}
use Rattle.emit_measures.specs.bc_scheme.py_meaning.Tree.{Return, Reraise, Raise, Assert, AssertWith, Import, From, If, While}
use Rattle.emit_measures.specs.bc_scheme.py_meaning.Tree.{For, Try, Finally, TryFinally, Def, Block, End, Next, Branches, Else}
use Rattle.emit_measures.specs.bc_scheme.py_meaning.Tree.{Case, Handlers, NoHandler, Any, On, OnAs, Function}

-- ---- names and expressions

-- each byte is below 128
abbrev pub IsAscii : List ℕ → Type 0
IsAscii text = All (λ byte. byte < 128) text

-- a number has no sign, and 30 bits at most
abbrev pub IsNumber : ℤ → Type 0
IsNumber (pos n) = n < 2 ^ 30
IsNumber (negsuc n) = ⊥

-- a constant that a source spells
abbrev pub IsLiteral : Val → Type 0
IsLiteral Nil = Unit {0}
IsLiteral (Truth b) = Unit {0}
IsLiteral (Int z) = IsNumber z
IsLiteral (Str text) = IsAscii text
IsLiteral (Fixed items) = ⊥
IsLiteral Empty = ⊥
IsLiteral (Built builtin) = ⊥
IsLiteral (At n) = ⊥

abbrev mutual
  pub IsSpelled : Expr → Type 0
  IsSpelled (Constant v) = IsLiteral v
  IsSpelled (Named name) = IsAscii name
  IsSpelled (Unary op e) = IsSpelled e
  IsSpelled (Not e) = IsSpelled e
  IsSpelled (Binary op a b) = IsSpelled a × IsSpelled b
  IsSpelled (And e es) = IsSpelled e × AreSpelled es
  IsSpelled (Or e es) = IsSpelled e × AreSpelled es
  IsSpelled (Compare e links) = IsSpelled e × LinksSpelled links
  IsSpelled (Cond test a b) = IsSpelled test × IsSpelled a × IsSpelled b
  IsSpelled (TupleOf es) = AreSpelled es
  IsSpelled (ListOf es) = AreSpelled es
  IsSpelled (DictOf pairs) = PairsSpelled pairs
  IsSpelled (Attr e name) = IsSpelled e × IsAscii name
  IsSpelled (Index a b) = IsSpelled a × IsSpelled b
  IsSpelled (Call f args keys) = IsSpelled f × AreSpelled args × KeysSpelled keys
  IsSpelled (Method e name args keys) = IsSpelled e × IsAscii name × AreSpelled args × KeysSpelled keys

  pub AreSpelled : Exprs → Type 0
  AreSpelled NoExpr = Unit {0}
  AreSpelled (More e es) = IsSpelled e × AreSpelled es

  pub LinksSpelled : Links → Type 0
  LinksSpelled (Last op e) = IsSpelled e
  LinksSpelled (Link op e links) = IsSpelled e × LinksSpelled links

  pub PairsSpelled : Pairs → Type 0
  PairsSpelled NoPair = Unit {0}
  PairsSpelled (Pair key value pairs) = IsSpelled key × IsSpelled value × PairsSpelled pairs

  pub KeysSpelled : Keys → Type 0
  KeysSpelled NoKey = Unit {0}
  KeysSpelled (Key name e keys) = IsAscii name × IsSpelled e × KeysSpelled keys

-- ---- targets and names of imports

abbrev mutual
  pub TargetSpelled : Target → Type 0
  TargetSpelled (ToName name) = IsAscii name
  TargetSpelled (ToAttr e name) = IsSpelled e × IsAscii name
  TargetSpelled (ToIndex a b) = IsSpelled a × IsSpelled b
  TargetSpelled (ToEach ts) = TargetsSpelled ts

  pub TargetsSpelled : Targets → Type 0
  TargetsSpelled (Only t) = TargetSpelled t
  TargetsSpelled (Then t ts) = TargetSpelled t × TargetsSpelled ts

-- a name that may be missing is ASCII
abbrev pub IsAsciiOption : Option Name → Type 0
IsAsciiOption None = Unit {0}
IsAsciiOption (Some name) = IsAscii name

-- what is imported, and the names that it is bound to, are ASCII
abbrev pub AliasesSpelled : List Alias → Type 0
AliasesSpelled [] = Unit {0}
AliasesSpelled (alias ∷ aliases) = (IsAscii alias.name × IsAsciiOption alias.bound) × AliasesSpelled aliases

-- each name is ASCII
abbrev pub AllAscii : List Name → Type 0
AllAscii [] = Unit {0}
AllAscii (name ∷ names) = IsAscii name × AllAscii names

-- ---- statements

-- from one line to another in text order: no line is below the first, above the last, or below one in front of it
abbrev mutual
  pub BlockSpelled : (first last : ℕ) → Block → Type 0
  BlockSpelled first last End = first ≤ last
  BlockSpelled first last (Next line s b) = (first ≤ line) × ((next : ℕ) × StmtSpelled line next s × BlockSpelled next last b)

  pub StmtSpelled : (line last : ℕ) → Stmt → Type 0
  StmtSpelled line last (Do e) = IsSpelled e × (line ≤ last)
  StmtSpelled line last (Assign ts e) = TargetsSpelled ts × IsSpelled e × (line ≤ last)
  StmtSpelled line last (AugName name op e) = IsAscii name × IsSpelled e × (line ≤ last)
  StmtSpelled line last (AugAttr a name op e) = IsSpelled a × IsAscii name × IsSpelled e × (line ≤ last)
  StmtSpelled line last (AugIndex a b op e) = IsSpelled a × IsSpelled b × IsSpelled e × (line ≤ last)
  StmtSpelled line last (Delete ts) = TargetsSpelled ts × (line ≤ last)
  StmtSpelled line last Pass = line ≤ last
  StmtSpelled line last Break = line ≤ last
  StmtSpelled line last Continue = line ≤ last
  StmtSpelled line last ReturnNone = line ≤ last
  StmtSpelled line last (Return e) = IsSpelled e × (line ≤ last)
  StmtSpelled line last Reraise = line ≤ last
  StmtSpelled line last (Raise e) = IsSpelled e × (line ≤ last)
  StmtSpelled line last (Assert e) = IsSpelled e × (line ≤ last)
  StmtSpelled line last (AssertWith e message) = IsSpelled e × IsSpelled message × (line ≤ last)
  StmtSpelled line last (Import aliases) = AliasesSpelled aliases × (line ≤ last)
  StmtSpelled line last (From path aliases) = IsAscii path × AliasesSpelled aliases × (line ≤ last)
  StmtSpelled line last (If branches) = BranchesSpelled line last branches
  StmtSpelled line last (While e body rest) = IsSpelled e × ((next : ℕ) × BlockSpelled line next body × BlockSpelled next last rest)
  StmtSpelled line last (For t e body rest) = TargetSpelled t × IsSpelled e × ((next : ℕ) × BlockSpelled line next body × BlockSpelled next last rest)
  StmtSpelled line last (Try body handlers rest) = (next behind : ℕ) × BlockSpelled line next body × HandlersSpelled next behind handlers
      × BlockSpelled behind last rest
  StmtSpelled line last (Finally body end) = (next : ℕ) × BlockSpelled line next body × BlockSpelled next last end
  StmtSpelled line last (TryFinally body handlers rest end) =
      (next behind further : ℕ) × BlockSpelled line next body × HandlersSpelled next behind handlers × BlockSpelled behind further rest
      × BlockSpelled further last end
  StmtSpelled line last (Def number name params defaults body) =
      IsAscii name × AllAscii params × (count defaults ≤ length params) × AreSpelled defaults × BlockSpelled line last body

  pub BranchesSpelled : (first last : ℕ) → Branches → Type 0
  BranchesSpelled first last (Else b) = BlockSpelled first last b
  BranchesSpelled first last (Case line e b branches) = (first ≤ line) × IsSpelled e
      × ((next : ℕ) × BlockSpelled line next b × BranchesSpelled next last branches)

  pub HandlersSpelled : (first last : ℕ) → Handlers → Type 0
  HandlersSpelled first last NoHandler = first ≤ last
  HandlersSpelled first last (Any line b) = (first ≤ line) × BlockSpelled line last b
  HandlersSpelled first last (On line e b handlers) = (first ≤ line) × IsSpelled e
      × ((next : ℕ) × BlockSpelled line next b × HandlersSpelled next last handlers)
  HandlersSpelled first last (OnAs line e name b handlers) = (first ≤ line) × IsSpelled e × IsAscii name
      × ((next : ℕ) × BlockSpelled line next b × HandlersSpelled next last handlers)

-- ---- functions

-- a function: its name, its parameters and its body
pub record FunctionSpelled (f : Function) : Type 0 where
  pub name : IsAscii f.name
  pub params : AllAscii f.params
  pub defaults : f.given ≤ length f.params
  pub first : ℕ
  pub last : ℕ
  pub from_one : 1 ≤ first
  pub body : BlockSpelled first last f.body

-- each function: its name, its parameters and its body
abbrev pub FunctionsSpelled : List Function → Type 0
FunctionsSpelled [] = Unit {0}
FunctionsSpelled (f ∷ fs) = FunctionSpelled f × FunctionsSpelled fs

-- a tree and its functions, from line 1 on
pub record TreeSpelled (body : Block) (functions : List Function) : Type 0 where
  pub last : ℕ
  pub own : BlockSpelled 1 last body
  pub each : FunctionsSpelled functions
