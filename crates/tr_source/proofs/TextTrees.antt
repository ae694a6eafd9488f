-- The texts of a tree take what the tree takes: by induction, from layer to layer.
use Rattle.std.proofs.Common.{◌≡◌, ℕ, suc, ◌+◌, true, ◌&&◌, List, [], ◌∷◌, ◌++◌, map, Option, Some, None, refl, sym, ap, subst, ◌∙◌}
use Rattle.std.specs.Prelude.{option_map}
use Rattle.std.proofs.lemmas.List.Folds.{list_all-map}
use Rattle.py_meaning.specs.py_tree.declared.expr.BinaryOp.{BinaryOp}
use Rattle.py_meaning.specs.py_tree.declared.expr.Expr.{Expr}
use Rattle.py_meaning.specs.py_tree.declared.stmt.Module.{Module}
use Rattle.py_meaning.specs.py_tree.declared.stmt.Stmt.{Stmt, map-Stmt, roll-Stmt}
use Rattle.py_meaning.specs.py_tree.declared.stmt.Branch.{Branch, map-Branch, roll-Branch}
use Rattle.py_meaning.specs.py_tree.declared.stmt.Handler.{Handler, map-Handler, roll-Handler}
use Rattle.py_meaning.specs.py_tree.declared.stmt.StmtKind.{StmtKind, map-StmtKind, roll-StmtKind}
use Rattle.py_meaning.specs.py_tree.declared.stmt.StmtKind.TheOpen.{StmtKind-F, Stmt-F, Branch-F, Handler-F}
use Rattle.py_meaning.specs.py_tree.declared.stmt.StmtKind.TheFolds.{fold-StmtKind, fold-Branch, fold-Handler, fold-roll-StmtKind, fold-roll-Branch, fold-roll-Handler, fold-roll-Stmt, ind-Stmt}
use Rattle.emit_measures.specs.bc_scheme.py_meaning.Tree as tree
use Rattle.emit_measures.specs.bc_scheme.py_meaning.Tree.{Name, Function, functions, functions_in, functions_of, functions_by}
use Rattle.emit_measures.specs.bc_scheme.py_meaning.Plain as plain
use Rattle.emit_measures.specs.bc_scheme.py_meaning.Program.{Source, function_texts, source_texts}
use Rattle.emit_measures.proofs.bc_scheme_lemmas.py_meaning_lemmas.Acts.{and_left, and_right}
use Rattle.tr_source.specs.Names as names
use Rattle.emit_measures.specs.Named.{TakesUndotted, StmtTakesUndotted, BranchesTakeUndotted, HandlersTakeUndotted}
use Rattle.tr_source.specs.Texts.{AllTakeUndotted}

abbrev P : Type 0
P = plain.Part tree.Stmt

abbrev Q : Type 0
Q = plain.Part (tree.Branches → tree.Branches)

abbrev R : Type 0
R = plain.Part (tree.Block → tree.Block)

abbrev plain_kind : StmtKind → P
plain_kind = fold-StmtKind P Q plain.Clause R plain.kind_step plain.branch_step plain.handler_step plain.stmt_step

abbrev plain_branch : Branch → Q
plain_branch = fold-Branch P Q plain.Clause R plain.kind_step plain.branch_step plain.handler_step plain.stmt_step

abbrev plain_handler : Handler → plain.Clause
plain_handler = fold-Handler P Q plain.Clause R plain.kind_step plain.branch_step plain.handler_step plain.stmt_step

-- ---- one layer

abbrev plain_of_kind : StmtKind-F StmtKind Branch Handler Stmt → P
plain_of_kind x = plain.kind_step (map-StmtKind StmtKind Branch Handler Stmt P Q plain.Clause R plain_kind plain_branch plain_handler plain.plain_stmt x)

abbrev plain_of_branch : Branch-F StmtKind Branch Handler Stmt → Q
plain_of_branch x = plain.branch_step (map-Branch StmtKind Branch Handler Stmt P Q plain.Clause R plain_kind plain_branch plain_handler plain.plain_stmt x)

abbrev plain_of_handler : Handler-F StmtKind Branch Handler Stmt → plain.Clause
plain_of_handler x = plain.handler_step (map-Handler StmtKind Branch Handler Stmt P Q plain.Clause R plain_kind plain_branch plain_handler plain.plain_stmt x)

abbrev plain_of_stmt : Stmt-F StmtKind Branch Handler Stmt → R
plain_of_stmt x = plain.stmt_step (map-Stmt StmtKind Branch Handler Stmt P Q plain.Clause R plain_kind plain_branch plain_handler plain.plain_stmt x)

abbrev undotted_kind : StmtKind-F StmtKind Branch Handler Stmt → Type 0
undotted_kind x = names.kind_step (map-StmtKind StmtKind Branch Handler Stmt _ _ _ _ names.kind_undotted names.branch_undotted names.handler_undotted names.stmt_undotted x) ≡ true

abbrev undotted_branch : Branch-F StmtKind Branch Handler Stmt → Type 0
undotted_branch x = names.branch_step (map-Branch StmtKind Branch Handler Stmt _ _ _ _ names.kind_undotted names.branch_undotted names.handler_undotted names.stmt_undotted x) ≡ true

abbrev undotted_handler : Handler-F StmtKind Branch Handler Stmt → Type 0
undotted_handler x = names.handler_step (map-Handler StmtKind Branch Handler Stmt _ _ _ _ names.kind_undotted names.branch_undotted names.handler_undotted names.stmt_undotted x) ≡ true

abbrev undotted_stmt : Stmt-F StmtKind Branch Handler Stmt → Type 0
undotted_stmt x = names.stmt_step (map-Stmt StmtKind Branch Handler Stmt _ _ _ _ names.kind_undotted names.branch_undotted names.handler_undotted names.stmt_undotted x) ≡ true

-- ---- a part and the functions in it

abbrev Each : List Function → Type 0
Each [] = Unit {0}
Each (f ∷ fs) = TakesUndotted f.body × Each fs

joined : (fs gs : List Function) → Each fs → Each gs → Each (fs ++ gs)
joined [] gs h k = k
joined (f ∷ fs) gs h k = (h.0, joined fs gs h.1 k)

abbrev Whole : tree.Block → Type 0
Whole b = TakesUndotted b × Each (functions b)

abbrev WholeStmt : tree.Stmt → Type 0
WholeStmt s = StmtTakesUndotted s × Each (functions_in s)

abbrev WholeBranches : tree.Branches → Type 0
WholeBranches bs = BranchesTakeUndotted bs × Each (functions_of bs)

abbrev WholeHandlers : tree.Handlers → Type 0
WholeHandlers hs = HandlersTakeUndotted hs × Each (functions_by hs)

abbrev KindGood : P → Type 0
KindGood p = (n : ℕ) → WholeStmt (p.make n)

abbrev StmtGood : R → Type 0
StmtGood p = (n : ℕ) (rest : tree.Block) → Whole rest → Whole (p.make n rest)

abbrev BranchGood : Q → Type 0
BranchGood p = (n : ℕ) (rest : tree.Branches) → WholeBranches rest → WholeBranches (p.make n rest)

abbrev ClauseGood : plain.Clause → Type 0
ClauseGood p = (n : ℕ) (rest : tree.Handlers) → WholeHandlers rest → WholeHandlers (p.make n rest)

abbrev BlockGood : plain.Part tree.Block → Type 0
BlockGood p = (n : ℕ) → Whole (p.make n)

abbrev BranchesGood : plain.Part tree.Branches → Type 0
BranchesGood p = (n : ℕ) → WholeBranches (p.make n)

abbrev HandlersGood : plain.Part tree.Handlers → Type 0
HandlersGood p = (n : ℕ) → WholeHandlers (p.make n)

abbrev Kind : StmtKind → Type 0
Kind k = names.kind_undotted k ≡ true → KindGood (plain_kind k)

abbrev Of_branch : Branch → Type 0
Of_branch b = names.branch_undotted b ≡ true → BranchGood (plain_branch b)

abbrev Of_handler : Handler → Type 0
Of_handler h = names.handler_undotted h ≡ true → ClauseGood (plain_handler h)

abbrev Of_stmt : Stmt → Type 0
Of_stmt s = names.stmt_undotted s ≡ true → StmtGood (plain.plain_stmt s)

-- ---- rows

module _ {S : Type 0} (f : S → Stmt) (h : (s : S) → Of_stmt (f s)) where
  block_good : (ss : List S) → names.all_hold (map names.stmt_undotted (map f ss)) ≡ true → BlockGood (plain.block (map plain.plain_stmt (map f ss)))
  block_good [] e n = (tt, tt)
  block_good (s ∷ ss) e n =
      let p = plain.plain_stmt (f s) in
      let rest = plain.block (map plain.plain_stmt (map f ss)) in
      h s (and_left _ _ e) n (rest.make (n + p.defs)) (block_good ss (and_right _ _ e) (n + p.defs))

module _ {S : Type 0} (f : S → Branch) (h : (s : S) → Of_branch (f s)) (last : plain.Part tree.Branches) (k : BranchesGood last) where
  branches_good : (ss : List S) → names.all_hold (map names.branch_undotted (map f ss)) ≡ true → BranchesGood (plain.chain (map plain_branch (map f ss)) last)
  branches_good [] e n = k n
  branches_good (s ∷ ss) e n =
      let p = plain_branch (f s) in
      let rest = plain.chain (map plain_branch (map f ss)) last in
      h s (and_left _ _ e) n (rest.make (n + p.defs)) (branches_good ss (and_right _ _ e) (n + p.defs))

module _ {S : Type 0} (f : S → Handler) (h : (s : S) → Of_handler (f s)) where
  handlers_good : (ss : List S) → names.all_hold (map names.handler_undotted (map f ss)) ≡ true → HandlersGood (plain.chain (map plain_handler (map f ss)) (plain.part tree.NoHandler))
  handlers_good [] e n = (tt, tt)
  handlers_good (s ∷ ss) e n =
      let p = plain_handler (f s) in
      let rest = plain.chain (map plain_handler (map f ss)) (plain.part tree.NoHandler) in
      h s (and_left _ _ e) n (rest.make (n + p.defs)) (handlers_good ss (and_right _ _ e) (n + p.defs))

-- ---- statements

from_good : (make : tree.Targets → tree.Stmt) (ts : List tree.Target) → ((us : tree.Targets) → WholeStmt (make us)) → WholeStmt (plain.from_targets tree.Pass make ts)
from_good make [] h = (tt, tt)
from_good make (t ∷ ts) h = h (plain.targets t ts)

augmented_good : (t : tree.Target) (op : BinaryOp) (e : tree.Expr) → WholeStmt (plain.augmented t op e)
augmented_good (tree.ToName name) op e = (tt, tt)
augmented_good (tree.ToAttr object name) op e = (tt, tt)
augmented_good (tree.ToIndex object index) op e = (tt, tt)
augmented_good (tree.ToEach ts) op e = (tt, tt)

option_good : (none : tree.Stmt) (some : tree.Expr → tree.Stmt) (value : Option Expr) → WholeStmt none → ((e : tree.Expr) → WholeStmt (some e)) → WholeStmt (plain.on_option none some value)
option_good none some None h k = h
option_good none some (Some e) h k = k (plain.plain_expr e)

try_good : (b : tree.Block) (hs : tree.Handlers) (rest : tree.Block) → Whole b → WholeHandlers hs → Whole rest → WholeStmt (tree.Try b hs rest)
try_good b hs rest h k r = ((h.0, k.0, r.0), joined (functions b ++ functions_by hs) (functions rest) (joined (functions b) (functions_by hs) h.1 k.1) r.1)

last_good : (b : tree.Block) (hs : tree.Handlers) (rest last : tree.Block) → Whole b → WholeHandlers hs → Whole rest → Whole last → WholeStmt (tree.TryFinally b hs rest last)
last_good b hs rest last h k r l =
    ((h.0, k.0, r.0, l.0), joined (functions b ++ functions_by hs ++ functions rest) (functions last) (joined (functions b ++ functions_by hs) (functions rest) (joined (functions b) (functions_by hs) h.1 k.1) r.1) l.1)

clause_good : (line : ℕ) (test : Option Expr) (name : Option Name) (b : tree.Block) (others : tree.Handlers) → Whole b → WholeHandlers others → WholeHandlers (plain.handler_of line test name b others)
clause_good line None name b others h k = h
clause_good line (Some test) None b others h k = ((h.0, k.0), joined (functions b) (functions_by others) h.1 k.1)
clause_good line (Some test) (Some name) b others h k = ((h.0, k.0), joined (functions b) (functions_by others) h.1 k.1)

-- ---- the layers

module _ {K B H S : Type 0} (fk : K → StmtKind) (fb : B → Branch) (fh : H → Handler) (fs : S → Stmt) (hk : (k : K) → Kind (fk k)) (hb : (b : B) → Of_branch (fb b)) (hh : (h : H) → Of_handler (fh h)) (hs : (s : S) → Of_stmt (fs s)) where
  abbrev kind_at : StmtKind-F K B H S → StmtKind-F StmtKind Branch Handler Stmt
  kind_at = map-StmtKind K B H S StmtKind Branch Handler Stmt fk fb fh fs

  abbrev branch_at : Branch-F K B H S → Branch-F StmtKind Branch Handler Stmt
  branch_at = map-Branch K B H S StmtKind Branch Handler Stmt fk fb fh fs

  abbrev handler_at : Handler-F K B H S → Handler-F StmtKind Branch Handler Stmt
  handler_at = map-Handler K B H S StmtKind Branch Handler Stmt fk fb fh fs

  abbrev stmt_at : Stmt-F K B H S → Stmt-F StmtKind Branch Handler Stmt
  stmt_at = map-Stmt K B H S StmtKind Branch Handler Stmt fk fb fh fs

  abbrev block_of : List S → plain.Part tree.Block
  block_of ss = plain.block (map plain.plain_stmt (map fs ss))

  abbrev clauses_of : List H → plain.Part tree.Handlers
  clauses_of handlers = plain.chain (map plain_handler (map fh handlers)) (plain.part tree.NoHandler)

  abbrev Held : List S → Type 0
  Held ss = names.all_hold (map names.stmt_undotted (map fs ss)) ≡ true

  abbrev HeldBy : List H → Type 0
  HeldBy handlers = names.all_hold (map names.handler_undotted (map fh handlers)) ≡ true

  good : (ss : List S) → Held ss → BlockGood (block_of ss)
  good = block_good fs hs

  two_good : (b c : tree.Block) → Whole b → Whole c → (TakesUndotted b × TakesUndotted c) × Each (functions b ++ functions c)
  two_good b c h k = ((h.0, k.0), joined (functions b) (functions c) h.1 k.1)

  loop_good : (inner rest : List S) → Held inner → Held rest → (n m : ℕ)
      → (TakesUndotted ((block_of inner).make n) × TakesUndotted ((block_of rest).make m)) × Each (functions ((block_of inner).make n) ++ functions ((block_of rest).make m))
  loop_good inner rest h k n m = two_good ((block_of inner).make n) ((block_of rest).make m) (good inner h n) (good rest k m)

  tried : (inner : List S) (handlers : List H) (rest : List S) (last : Option (List S)) → Held inner → HeldBy handlers → Held rest → names.optional_hold (option_map (λ ss. map names.stmt_undotted (map fs ss)) last) ≡ true
      → KindGood (plain.try_of (block_of inner) (map plain_handler (map fh handlers)) (block_of rest) (option_map (λ ss. map plain.plain_stmt (map fs ss)) last))
  tried inner handlers rest None h k r l n = try_good _ _ _ (good inner h _) (handlers_good fh hh handlers k _) (good rest r _)
  tried inner [] rest (Some last) h k r l n = loop_good inner last h l _ _
  tried inner (c ∷ cs) rest (Some last) h k r l n = last_good _ _ _ _ (good inner h _) (handlers_good fh hh (c ∷ cs) k _) (good rest r _) (good last l _)

  kind_layer : (y : StmtKind-F K B H S) → undotted_kind (kind_at y) → KindGood (plain_of_kind (kind_at y))
  kind_layer (StmtKind-F.Expr value) e n = (tt, tt)
  kind_layer (StmtKind-F.Assign targets value) e n = from_good (λ us. tree.Assign us (plain.plain_expr value)) (map plain.plain_target targets) (λ us. (tt, tt))
  kind_layer (StmtKind-F.Aug target how value) e n = augmented_good (plain.plain_target target) how (plain.plain_expr value)
  kind_layer (StmtKind-F.Del targets) e n = from_good tree.Delete (map plain.plain_target targets) (λ us. (tt, tt))
  kind_layer StmtKind-F.Pass e n = (tt, tt)
  kind_layer StmtKind-F.Break e n = (tt, tt)
  kind_layer StmtKind-F.Continue e n = (tt, tt)
  kind_layer (StmtKind-F.Return value) e n = option_good tree.ReturnNone tree.Return value (tt, tt) (λ v. (tt, tt))
  kind_layer (StmtKind-F.Raise value) e n = option_good tree.Reraise tree.Raise value (tt, tt) (λ v. (tt, tt))
  kind_layer (StmtKind-F.Global names) e n = (tt, tt)
  kind_layer (StmtKind-F.Import names) e n = (tt, tt)
  kind_layer (StmtKind-F.From path names) e n = (e, tt)
  kind_layer (StmtKind-F.Assert test message) e n = option_good (tree.Assert (plain.plain_expr test)) (tree.AssertWith (plain.plain_expr test)) message (tt, tt) (λ v. (tt, tt))
  kind_layer (StmtKind-F.If branches rest) e n =
      branches_good fb hb (plain.also (plain.part tree.Else) (block_of rest)) (λ m. good rest (and_right _ _ e) (m + 0)) branches (and_left _ _ e) (n + 0)
  kind_layer (StmtKind-F.While test inner rest) e n = loop_good inner rest (and_left _ _ e) (and_right _ _ e) _ _
  kind_layer (StmtKind-F.For target over inner rest) e n = loop_good inner rest (and_left _ _ e) (and_right _ _ e) _ _
  kind_layer (StmtKind-F.Try inner handlers rest None) e n =
      tried inner handlers rest None (and_left _ _ e) (and_left _ _ (and_right _ _ e)) (and_left _ _ (and_right _ _ (and_right _ _ e))) refl n
  kind_layer (StmtKind-F.Try inner handlers rest (Some last)) e n =
      let b = names.all_hold (map names.stmt_undotted (map fs inner)) in
      let h = names.all_hold (map names.handler_undotted (map fh handlers)) in
      let r = names.all_hold (map names.stmt_undotted (map fs rest)) in
      let l = names.all_hold (map names.stmt_undotted (map fs last)) in
      let behind = and_right b (h && (r && l)) e in
      tried inner handlers rest (Some last) (and_left b (h && (r && l)) e) (and_left h (r && l) behind) (and_left r l (and_right h (r && l) behind)) (and_right r l (and_right h (r && l) behind)) n
  kind_layer (StmtKind-F.Def name params inner) e n = (tt, good inner e (suc n))

  branch_layer : (y : Branch-F K B H S) → undotted_branch (branch_at y) → BranchGood (plain_of_branch (branch_at y))
  branch_layer y e n rest x =
      let b = (block_of y.body).make (n + 0) in
      let h = good y.body e (n + 0) in
      ((h.0, x.0), joined (functions b) (functions_of rest) h.1 x.1)

  handler_layer : (y : Handler-F K B H S) → undotted_handler (handler_at y) → ClauseGood (plain_of_handler (handler_at y))
  handler_layer y e n rest x = clause_good y.line y.test y.name ((block_of y.body).make (n + 0)) rest (good y.body e (n + 0)) x

  stmt_layer : (y : Stmt-F K B H S) → undotted_stmt (stmt_at y) → StmtGood (plain_of_stmt (stmt_at y))
  stmt_layer y e n rest x =
      let s = (plain_kind (fk y.kind)).make (n + 0) in
      let h = hk y.kind e (n + 0) in
      ((h.0, x.0), joined (functions_in s) (functions rest) h.1 x.1)

-- ---- whole trees

kind_rolled : (x : StmtKind-F StmtKind Branch Handler Stmt) → (undotted_kind x → KindGood (plain_of_kind x)) → Kind (roll-StmtKind x)
kind_rolled x h e =
    subst KindGood (sym (fold-roll-StmtKind P Q plain.Clause R plain.kind_step plain.branch_step plain.handler_step plain.stmt_step x))
    (h (sym (fold-roll-StmtKind _ _ _ _ names.kind_step names.branch_step names.handler_step names.stmt_step x) ∙ e))

branch_rolled : (x : Branch-F StmtKind Branch Handler Stmt) → (undotted_branch x → BranchGood (plain_of_branch x)) → Of_branch (roll-Branch x)
branch_rolled x h e =
    subst BranchGood (sym (fold-roll-Branch P Q plain.Clause R plain.kind_step plain.branch_step plain.handler_step plain.stmt_step x))
    (h (sym (fold-roll-Branch _ _ _ _ names.kind_step names.branch_step names.handler_step names.stmt_step x) ∙ e))

handler_rolled : (x : Handler-F StmtKind Branch Handler Stmt) → (undotted_handler x → ClauseGood (plain_of_handler x)) → Of_handler (roll-Handler x)
handler_rolled x h e =
    subst ClauseGood (sym (fold-roll-Handler P Q plain.Clause R plain.kind_step plain.branch_step plain.handler_step plain.stmt_step x))
    (h (sym (fold-roll-Handler _ _ _ _ names.kind_step names.branch_step names.handler_step names.stmt_step x) ∙ e))

stmt_rolled : (x : Stmt-F StmtKind Branch Handler Stmt) → (undotted_stmt x → StmtGood (plain_of_stmt x)) → Of_stmt (roll-Stmt x)
stmt_rolled x h e =
    subst StmtGood (sym (fold-roll-Stmt P Q plain.Clause R plain.kind_step plain.branch_step plain.handler_step plain.stmt_step x))
    (h (sym (fold-roll-Stmt _ _ _ _ names.kind_step names.branch_step names.handler_step names.stmt_step x) ∙ e))

stmt_good : (s : Stmt) → Of_stmt s
stmt_good = ind-Stmt Kind Of_branch Of_handler Of_stmt
    (λ x y is. subst (λ z. Kind (roll-StmtKind z)) is (kind_rolled _ (kind_layer (λ k. k.0) (λ b. b.0) (λ h. h.0) (λ s. s.0) (λ k. k.1) (λ b. b.1) (λ h. h.1) (λ s. s.1) y)))
    (λ x y is. subst (λ z. Of_branch (roll-Branch z)) is (branch_rolled _ (branch_layer (λ k. k.0) (λ b. b.0) (λ h. h.0) (λ s. s.0) (λ k. k.1) (λ b. b.1) (λ h. h.1) (λ s. s.1) y)))
    (λ x y is. subst (λ z. Of_handler (roll-Handler z)) is (handler_rolled _ (handler_layer (λ k. k.0) (λ b. b.0) (λ h. h.0) (λ s. s.0) (λ k. k.1) (λ b. b.1) (λ h. h.1) (λ s. s.1) y)))
    (λ x y is. subst (λ z. Of_stmt (roll-Stmt z)) is (stmt_rolled _ (stmt_layer (λ k. k.0) (λ b. b.0) (λ h. h.0) (λ s. s.0) (λ k. k.1) (λ b. b.1) (λ h. h.1) (λ s. s.1) y)))

map_same : (ss : List Stmt) → map (λ (s : Stmt). s) ss ≡ ss
map_same [] = refl
map_same (s ∷ ss) = ap (λ (more : List Stmt). s ∷ more) (map_same ss)

body_good : (ss : List Stmt) → names.all_hold (map names.stmt_undotted ss) ≡ true → BlockGood (plain.block (map plain.plain_stmt ss))
body_good ss =
    let G : List Stmt → Type 0 = λ z. names.all_hold (map names.stmt_undotted z) ≡ true → BlockGood (plain.block (map plain.plain_stmt z)) in
    subst G (map_same ss) (block_good (λ (s : Stmt). s) stmt_good ss)

tree_good : (module' : Module) → names.TakesUndotted module' → Whole (plain.plain_tree module')
tree_good module' h = body_good module'.body (list_all-map (λ b. b) names.stmt_undotted module'.body ∙ h) 1

-- ---- texts

functions_undotted : (file : Name) (source : Source) (base : ℕ) (fs : List Function) (tables : List (List Name)) → Each fs → AllTakeUndotted (function_texts file source base fs tables)
functions_undotted file source base [] tables h = tt
functions_undotted file source base (f ∷ fs) [] h = (h.0, functions_undotted file source base fs [] h.1)
functions_undotted file source base (f ∷ fs) (locals ∷ tables) h = (h.0, functions_undotted file source base fs tables h.1)

pub texts_undotted : (module' : Module) → names.TakesUndotted module' → (source : Source) (base : ℕ) → source.body ≡ plain.plain_tree module' → AllTakeUndotted (source_texts source.file source base)
texts_undotted module' h source base body =
    let whole : Whole source.body = subst Whole (sym body) (tree_good module' h) in
    (whole.0, functions_undotted source.file source base (functions source.body) source.locals whole.1)
