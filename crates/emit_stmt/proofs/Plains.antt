-- The plain trees of targets and of statements without a body.
use Rattle.std.proofs.Common.{◌≡◌, ◌⊎◌, inl, inr, ℕ, true, List, [], ◌∷◌, map, Option, Some, None, refl, sym, ap, ◌∙◌}
use Rattle.py_tree.specs.declared.expr.BinaryOp.{BinaryOp}
use Rattle.py_tree.specs.declared.expr.Expr as trees
use Rattle.py_tree.specs.declared.stmt.Branch.{Branch}
use Rattle.py_tree.specs.declared.stmt.Handler.{Handler}
use Rattle.py_tree.specs.declared.stmt.Param.{Param}
use Rattle.py_tree.specs.declared.stmt.Stmt as stmts
use Rattle.py_tree.specs.declared.stmt.StmtKind.{StmtKind, map-StmtKind, roll-StmtKind, out-StmtKind, roll-out-StmtKind}
use Rattle.py_tree.specs.declared.stmt.StmtKind.TheVariants as s
use Rattle.py_tree.specs.declared.stmt.StmtKind.TheOpen.{StmtKind-F}
use Rattle.py_tree.specs.declared.stmt.StmtKind.TheFolds.{fold-Branch, fold-Handler, fold-roll-StmtKind}
use Rattle.py_tree.specs.declared.stmt.Target as aims
use Rattle.py_tree.specs.declared.stmt.Target.TheVariants as aim
use Rattle.py_tree.specs.declared.stmt.Target.TheOpen.{Target-F}
use Rattle.py_tree.specs.declared.stmt.Target.TheFolds.{fold-roll-Target}
use Rattle.emit_expr.specs.py_meaning.Tree.{Expr, Target, ToName, ToAttr, ToIndex, ToEach, Targets, Stmt, Assign, Delete, Pass, ReturnNone, Return, Reraise, Raise, Assert, AssertWith, Block, Branches}
use Rattle.emit_expr.specs.py_meaning.Plain.{plain_expr, target_step, plain_target, targets, from_targets, augmented, on_option, Part, Clause, kind_step, branch_step, handler_step, stmt_step, plain_stmt}
use Rattle.emit_expr.specs.bc_scheme.Translation.{own_in}
use Rattle.emit_stmt.specs.Plain.{plain_kind, is_simple_layer, is_simple}

-- ---- targets

pub plain_ToName : (text : List ℕ) → plain_target (aim.Name text) ≡ ToName text
plain_ToName text = ap plain_target (sym (aim.rolls-Name text)) ∙ fold-roll-Target Target target_step (Target-F.Name text)

pub plain_ToAttr : (x : trees.Expr) (text : List ℕ) → plain_target (aim.Attr x text) ≡ ToAttr (plain_expr x) text
plain_ToAttr x text = ap plain_target (sym (aim.rolls-Attr x text)) ∙ fold-roll-Target Target target_step (Target-F.Attr x text)

pub plain_ToIndex : (x y : trees.Expr) → plain_target (aim.Index x y) ≡ ToIndex (plain_expr x) (plain_expr y)
plain_ToIndex x y = ap plain_target (sym (aim.rolls-Index x y)) ∙ fold-roll-Target Target target_step (Target-F.Index x y)

pub plain_ToEach : (ts : List aims.Target) → plain_target (aim.Unpack ts) ≡ from_targets (ToName []) ToEach (map plain_target ts)
plain_ToEach ts = ap plain_target (sym (aim.rolls-Unpack ts)) ∙ fold-roll-Target Target target_step (Target-F.Unpack ts)

-- ---- statements

abbrev pub Layer : Type 0
Layer = StmtKind-F StmtKind Branch Handler stmts.Stmt

abbrev pub plain_branch : Branch → Part (Branches → Branches)
plain_branch = fold-Branch (Part Stmt) (Part (Branches → Branches)) Clause (Part (Block → Block)) kind_step branch_step handler_step stmt_step

abbrev pub plain_handler : Handler → Clause
plain_handler = fold-Handler (Part Stmt) (Part (Branches → Branches)) Clause (Part (Block → Block)) kind_step branch_step handler_step stmt_step

-- what one layer is read as
abbrev pub layer_part : Layer → Part Stmt
layer_part layer =
    kind_step (map-StmtKind StmtKind Branch Handler stmts.Stmt (Part Stmt) (Part (Branches → Branches)) Clause (Part (Block → Block)) plain_kind plain_branch plain_handler plain_stmt layer)

pub plain_is : (kind : StmtKind) (layer : Layer) → roll-StmtKind layer ≡ kind → plain_kind kind ≡ layer_part layer
plain_is kind layer is = ap plain_kind (sym is) ∙ fold-roll-StmtKind (Part Stmt) (Part (Branches → Branches)) Clause (Part (Block → Block)) kind_step branch_step handler_step stmt_step layer

pub layer_is : (kind : StmtKind) → plain_kind kind ≡ layer_part (out-StmtKind kind)
layer_is kind = plain_is kind (out-StmtKind kind) (roll-out-StmtKind kind)

pub made : (kind : StmtKind) (layer : Layer) (n : ℕ) → kind ≡ roll-StmtKind layer → (plain_kind kind).make n ≡ (layer_part layer).make n
made kind layer n is = ap (λ (p : Part Stmt). p.make n) (plain_is kind layer (sym is))

-- a global declaration is read as `pass`
pub no_code : (kind : StmtKind) (n : ℕ) → (kind ≡ s.Pass) ⊎ ((names : List (List ℕ)) × (kind ≡ s.Global names)) → (plain_kind kind).make n ≡ Pass
no_code kind n (inl is) = made kind StmtKind-F.Pass n (is ∙ sym s.rolls-Pass)
no_code kind n (inr g) = made kind (StmtKind-F.Global g.0) n (g.1 ∙ sym (s.rolls-Global g.0))

-- ---- what holds no function

defs_layer : (layer : Layer) → is_simple_layer layer ≡ true → (layer_part layer).defs ≡ 0
defs_layer (StmtKind-F.Expr x) e = refl
defs_layer (StmtKind-F.Assign ts x) e = refl
defs_layer (StmtKind-F.Aug t op x) e = refl
defs_layer (StmtKind-F.Del ts) e = refl
defs_layer StmtKind-F.Pass e = refl
defs_layer StmtKind-F.Break e = refl
defs_layer StmtKind-F.Continue e = refl
defs_layer (StmtKind-F.Return x) e = refl
defs_layer (StmtKind-F.Raise x) e = refl
defs_layer (StmtKind-F.Global names) e = refl
defs_layer (StmtKind-F.Import names) e = refl
defs_layer (StmtKind-F.From path names) e = refl
defs_layer (StmtKind-F.Assert test message) e = refl
defs_layer (StmtKind-F.If branches rest) e = cc
defs_layer (StmtKind-F.While test inner rest) e = cc
defs_layer (StmtKind-F.For target over inner rest) e = cc
defs_layer (StmtKind-F.Try inner handlers rest last) e = cc
defs_layer (StmtKind-F.Def name params inner) e = cc

pub no_defs : (kind : StmtKind) → is_simple kind ≡ true → (plain_kind kind).defs ≡ 0
no_defs kind e = ap (λ (p : Part Stmt). p.defs) (layer_is kind) ∙ defs_layer (out-StmtKind kind) e

own_from : (make : Targets → Stmt) (ts : List Target) → ((us : Targets) → own_in (make us) ≡ []) → own_in (from_targets Pass make ts) ≡ []
own_from make [] h = refl
own_from make (t ∷ ts) h = h (targets t ts)

own_augmented : (t : Target) (op : BinaryOp) (e : Expr) → own_in (augmented t op e) ≡ []
own_augmented (ToName name) op e = refl
own_augmented (ToAttr x name) op e = refl
own_augmented (ToIndex x y) op e = refl
own_augmented (ToEach ts) op e = refl

own_option : (none : Stmt) (some : Expr → Stmt) (x : Option trees.Expr) → own_in none ≡ [] → ((e : Expr) → own_in (some e) ≡ []) → own_in (on_option none some x) ≡ []
own_option none some None h k = h
own_option none some (Some x) h k = k (plain_expr x)

own_layer : (layer : Layer) (n : ℕ) → is_simple_layer layer ≡ true → own_in ((layer_part layer).make n) ≡ []
own_layer (StmtKind-F.Expr x) n e = refl
own_layer (StmtKind-F.Assign ts x) n e = own_from (λ us. Assign us (plain_expr x)) (map plain_target ts) (λ us. refl)
own_layer (StmtKind-F.Aug t op x) n e = own_augmented (plain_target t) op (plain_expr x)
own_layer (StmtKind-F.Del ts) n e = own_from Delete (map plain_target ts) (λ us. refl)
own_layer StmtKind-F.Pass n e = refl
own_layer StmtKind-F.Break n e = refl
own_layer StmtKind-F.Continue n e = refl
own_layer (StmtKind-F.Return x) n e = own_option ReturnNone Return x refl (λ v. refl)
own_layer (StmtKind-F.Raise x) n e = own_option Reraise Raise x refl (λ v. refl)
own_layer (StmtKind-F.Global names) n e = refl
own_layer (StmtKind-F.Import names) n e = refl
own_layer (StmtKind-F.From path names) n e = refl
own_layer (StmtKind-F.Assert test message) n e = own_option (Assert (plain_expr test)) (AssertWith (plain_expr test)) message refl (λ v. refl)
own_layer (StmtKind-F.If branches rest) n e = cc
own_layer (StmtKind-F.While test inner rest) n e = cc
own_layer (StmtKind-F.For target over inner rest) n e = cc
own_layer (StmtKind-F.Try inner handlers rest last) n e = cc
own_layer (StmtKind-F.Def name params inner) n e = cc

pub no_own : (kind : StmtKind) (n : ℕ) → is_simple kind ≡ true → own_in ((plain_kind kind).make n) ≡ []
no_own kind n e = ap (λ (p : Part Stmt). own_in (p.make n)) (layer_is kind) ∙ own_layer (out-StmtKind kind) n e

-- ---- what has no body

simple_layer : (kind : StmtKind) (layer : Layer) → kind ≡ roll-StmtKind layer → ((branches : List Branch) (rest : List stmts.Stmt) → kind ≡ s.If branches rest → ⊥)
    → ((test : trees.Expr) (body rest : List stmts.Stmt) → kind ≡ s.While test body rest → ⊥) → ((target : aims.Target) (over : trees.Expr) (body rest : List stmts.Stmt) → kind ≡ s.For target over body rest → ⊥)
    → ((body : List stmts.Stmt) (handlers : List Handler) (rest : List stmts.Stmt) (last : Option (List stmts.Stmt)) → kind ≡ s.Try body handlers rest last → ⊥)
    → ((name : List ℕ) (params : List Param) (body : List stmts.Stmt) → kind ≡ s.Def name params body → ⊥) → is_simple_layer layer ≡ true
simple_layer kind (StmtKind-F.Expr x) is no_if no_while no_for no_try no_def = refl
simple_layer kind (StmtKind-F.Assign ts x) is no_if no_while no_for no_try no_def = refl
simple_layer kind (StmtKind-F.Aug t op x) is no_if no_while no_for no_try no_def = refl
simple_layer kind (StmtKind-F.Del ts) is no_if no_while no_for no_try no_def = refl
simple_layer kind StmtKind-F.Pass is no_if no_while no_for no_try no_def = refl
simple_layer kind StmtKind-F.Break is no_if no_while no_for no_try no_def = refl
simple_layer kind StmtKind-F.Continue is no_if no_while no_for no_try no_def = refl
simple_layer kind (StmtKind-F.Return x) is no_if no_while no_for no_try no_def = refl
simple_layer kind (StmtKind-F.Raise x) is no_if no_while no_for no_try no_def = refl
simple_layer kind (StmtKind-F.Global names) is no_if no_while no_for no_try no_def = refl
simple_layer kind (StmtKind-F.Import names) is no_if no_while no_for no_try no_def = refl
simple_layer kind (StmtKind-F.From path names) is no_if no_while no_for no_try no_def = refl
simple_layer kind (StmtKind-F.Assert test message) is no_if no_while no_for no_try no_def = refl
simple_layer kind (StmtKind-F.If branches rest) is no_if no_while no_for no_try no_def = absurd (no_if branches rest (is ∙ s.rolls-If branches rest))
simple_layer kind (StmtKind-F.While test body rest) is no_if no_while no_for no_try no_def = absurd (no_while test body rest (is ∙ s.rolls-While test body rest))
simple_layer kind (StmtKind-F.For target over body rest) is no_if no_while no_for no_try no_def = absurd (no_for target over body rest (is ∙ s.rolls-For target over body rest))
simple_layer kind (StmtKind-F.Try body handlers rest last) is no_if no_while no_for no_try no_def = absurd (no_try body handlers rest last (is ∙ s.rolls-Try body handlers rest last))
simple_layer kind (StmtKind-F.Def name params body) is no_if no_while no_for no_try no_def = absurd (no_def name params body (is ∙ s.rolls-Def name params body))

pub simple_by : (kind : StmtKind) → ((branches : List Branch) (rest : List stmts.Stmt) → kind ≡ s.If branches rest → ⊥)
    → ((test : trees.Expr) (body rest : List stmts.Stmt) → kind ≡ s.While test body rest → ⊥) → ((target : aims.Target) (over : trees.Expr) (body rest : List stmts.Stmt) → kind ≡ s.For target over body rest → ⊥)
    → ((body : List stmts.Stmt) (handlers : List Handler) (rest : List stmts.Stmt) (last : Option (List stmts.Stmt)) → kind ≡ s.Try body handlers rest last → ⊥)
    → ((name : List ℕ) (params : List Param) (body : List stmts.Stmt) → kind ≡ s.Def name params body → ⊥) → is_simple kind ≡ true
simple_by kind no_if no_while no_for no_try no_def = simple_layer kind (out-StmtKind kind) (sym (roll-out-StmtKind kind)) no_if no_while no_for no_try no_def
