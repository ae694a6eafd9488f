-- The plain trees of statements with bodies, by those of their parts.
use Rattle.std.proofs.Common.{◌≡◌, ℕ, ◌+◌, Bool, true, false, List, [], ◌∷◌, length, map, Option, Some, None, refl, sym, ap, ◌∙◌, subst, arith}
use Rattle.std.specs.Prelude.{◌↔◌, IsTrue}
use Rattle.py_tree.specs.declared.expr.Expr as trees
use Rattle.py_tree.specs.declared.stmt.Branch.{Branch, out-Branch, roll-out-Branch}
use Rattle.py_tree.specs.declared.stmt.Handler.{Handler, out-Handler, roll-out-Handler}
use Rattle.py_tree.specs.declared.stmt.Param.{Param}
use Rattle.py_tree.specs.declared.stmt.Target as aims
use Rattle.py_tree.specs.declared.stmt.Stmt as stmts
use Rattle.py_tree.specs.declared.stmt.Stmt.{out-Stmt, roll-out-Stmt}
use Rattle.py_tree.specs.declared.stmt.StmtKind.{StmtKind, out-StmtKind}
use Rattle.py_tree.specs.declared.stmt.StmtKind.TheVariants as s
use Rattle.py_tree.specs.declared.stmt.StmtKind.TheOpen.{StmtKind-F}
use Rattle.py_tree.specs.declared.stmt.StmtKind.TheFolds.{fold-roll-Branch, fold-roll-Handler, fold-roll-Stmt}
use Rattle.emit_expr.specs.py_meaning.Tree.{Name, Expr, Target, Targets, Stmt, If, Pass, ReturnNone, Return, Reraise, Raise, Assert, AssertWith, Finally, TryFinally, Block, End, Next, Branches, Else, Case, Handlers}
use Rattle.emit_expr.specs.py_meaning.Plain.{Part, Clause, part, also, plain_expr, plain_target, plain_stmt, targets, from_targets, augmented, on_option, numbered, handler_of, kind_step, branch_step, handler_step, stmt_step}
use Rattle.emit_expr.specs.bc_scheme.Statements.{is_over}
use Rattle.emit_stmt.specs.SimpleCrowded.{crowded_simple}
use Rattle.emit_stmt.specs.Plain.{plain_kind, is_simple_layer, is_simple}
use Rattle.emit_stmt.proofs.Plains.{Layer, layer_part, plain_is, layer_is}
use Rattle.emit_stmt.specs.Parts.{plain_block, plain_branch, plain_handler, plain_branches, plain_handlers, if_part, while_part, for_part, try_part, finally_part}
use Rattle.emit_stmt.specs.Children.{made_in}
use Rattle.emit_stmt.specs.Crowded.{crowded_stmt}

-- ---- one statement, branch or handler

pub stmt_is : (x : stmts.Stmt) → plain_stmt x ≡ also (part (Next (out-Stmt x).line)) (plain_kind (out-Stmt x).kind)
stmt_is x = ap plain_stmt (sym (roll-out-Stmt x)) ∙ fold-roll-Stmt (Part Stmt) (Part (Branches → Branches)) Clause (Part (Block → Block)) kind_step branch_step handler_step stmt_step (out-Stmt x)

pub branch_is : (x : Branch) → plain_branch x ≡ also (part (Case (out-Branch x).line (plain_expr (out-Branch x).test))) (plain_block (out-Branch x).body)
branch_is x = ap plain_branch (sym (roll-out-Branch x)) ∙ fold-roll-Branch (Part Stmt) (Part (Branches → Branches)) Clause (Part (Block → Block)) kind_step branch_step handler_step stmt_step (out-Branch x)

pub handler_is : (x : Handler) → plain_handler x ≡ also (part (handler_of (out-Handler x).line (out-Handler x).test (out-Handler x).name)) (plain_block (out-Handler x).body)
handler_is x = ap plain_handler (sym (roll-out-Handler x)) ∙ fold-roll-Handler (Part Stmt) (Part (Branches → Branches)) Clause (Part (Block → Block)) kind_step branch_step handler_step stmt_step (out-Handler x)

-- ---- statements with bodies

pub if_is : (branches : List Branch) (rest : List stmts.Stmt) → plain_kind (s.If branches rest) ≡ if_part branches rest
if_is branches rest = plain_is (s.If branches rest) (StmtKind-F.If branches rest) (s.rolls-If branches rest)

pub while_is : (test : trees.Expr) (body rest : List stmts.Stmt) → plain_kind (s.While test body rest) ≡ while_part test body rest
while_is test body rest = plain_is (s.While test body rest) (StmtKind-F.While test body rest) (s.rolls-While test body rest)

pub for_is : (target : aims.Target) (over : trees.Expr) (body rest : List stmts.Stmt) → plain_kind (s.For target over body rest) ≡ for_part target over body rest
for_is target over body rest = plain_is (s.For target over body rest) (StmtKind-F.For target over body rest) (s.rolls-For target over body rest)

pub try_is : (body : List stmts.Stmt) (handlers : List Handler) (rest : List stmts.Stmt) → plain_kind (s.Try body handlers rest None) ≡ try_part body handlers rest
try_is body handlers rest = plain_is (s.Try body handlers rest None) (StmtKind-F.Try body handlers rest None) (s.rolls-Try body handlers rest None)

pub finally_is : (body : List stmts.Stmt) (handlers : List Handler) (rest last : List stmts.Stmt) → plain_kind (s.Try body handlers rest (Some last)) ≡ finally_part body handlers rest last
finally_is body handlers rest last = plain_is (s.Try body handlers rest (Some last)) (StmtKind-F.Try body handlers rest (Some last)) (s.rolls-Try body handlers rest (Some last))

pub def_is : (name : Name) (params : List Param) (body : List stmts.Stmt) → plain_kind (s.Def name params body) ≡ numbered name params (plain_block body)
def_is name params body = plain_is (s.Def name params body) (StmtKind-F.Def name params body) (s.rolls-Def name params body)

-- a `finally` without clauses, and with some
pub bare_is : (body : List stmts.Stmt) (handlers : List Handler) (rest last : List stmts.Stmt) → handlers ≡ []
    → finally_part body handlers rest last ≡ also (also (part Finally) (plain_block body)) (plain_block last)
bare_is body [] rest last e = refl
bare_is body (h ∷ hs) rest last e = cc

pub handled_is : (body : List stmts.Stmt) (handlers : List Handler) (rest last : List stmts.Stmt) → (handlers ≡ [] → ⊥)
    → finally_part body handlers rest last ≡ also (also (also (also (part TryFinally) (plain_block body)) (plain_handlers handlers)) (plain_block rest)) (plain_block last)
handled_is body [] rest last e = absurd (e refl)
handled_is body (h ∷ hs) rest last e = refl

-- ---- what is left behind a branch

is_filled : (p : Part (Branches → Branches)) (line : ℕ) (test : Expr) (body : Part Block) (last : Part Branches) (n : ℕ) → p ≡ also (part (Case line test)) body → is_over ((also p last).make n) ≡ false
is_filled p line test body last n e = ap (λ (z : Part (Branches → Branches)). is_over ((also z last).make n)) e

is_going : (p : Part (Block → Block)) (line : ℕ) (kind : Part Stmt) (last : Part Block) (n : ℕ) → p ≡ also (part (Next line)) kind → is_over (Else ((also p last).make n)) ≡ false
is_going p line kind last n e = ap (λ (z : Part (Block → Block)). is_over (Else ((also z last).make n))) e

not_true : (b : Bool) → (b ≡ true → ⊥) → b ≡ false
not_true true h = absurd (h refl)
not_true false h = refl

pub over_is : (bs : List Branch) (rest : List stmts.Stmt) (over : Bool) → (IsTrue over ↔ ((length bs ≡ 0) × (length rest ≡ 0))) → (n : ℕ) → is_over ((plain_branches bs rest).make n) ≡ over
over_is [] [] over h n = sym (h.1 (refl, refl))
over_is [] (x ∷ xs) over h n =
    is_going (plain_stmt x) (out-Stmt x).line (plain_kind (out-Stmt x).kind) (plain_block xs) (n + 0) (stmt_is x) ∙ sym (not_true over (λ e. let len : length (x ∷ xs) ≡ 0 = (h.0 e).1 in omega arith))
over_is (b ∷ bs) rest over h n =
    is_filled (plain_branch b) (out-Branch b).line (plain_expr (out-Branch b).test) (plain_block (out-Branch b).body) (plain_branches bs rest) n (branch_is b) ∙ sym (not_true over (λ e. let len : length (b ∷ bs) ≡ 0 = (h.0 e).0 in omega arith))

-- ---- statements without a body

-- it defines no function, and nothing in it is crowded but what its own instructions are
pub record IsPlain (stmt : Stmt) : Type 0 where
  pub none : made_in stmt ≡ []
  pub same : (level entries : ℕ) → crowded_stmt level entries stmt ≡ crowded_simple level entries stmt

plain_from : (make : Targets → Stmt) (ts : List Target) → ((us : Targets) → IsPlain (make us)) → IsPlain (from_targets Pass make ts)
plain_from make [] h = record { none = refl; same = λ level entries. refl }
plain_from make (t ∷ ts) h = h (targets t ts)

plain_augmented : (t : Target) (op : _) (e : Expr) → IsPlain (augmented t op e)
plain_augmented (Rattle.emit_expr.specs.py_meaning.Tree.ToName name) op e = record { none = refl; same = λ level entries. refl }
plain_augmented (Rattle.emit_expr.specs.py_meaning.Tree.ToAttr x name) op e = record { none = refl; same = λ level entries. refl }
plain_augmented (Rattle.emit_expr.specs.py_meaning.Tree.ToIndex x y) op e = record { none = refl; same = λ level entries. refl }
plain_augmented (Rattle.emit_expr.specs.py_meaning.Tree.ToEach ts) op e = record { none = refl; same = λ level entries. refl }

plain_option : (none : Stmt) (some : Expr → Stmt) (x : Option trees.Expr) → IsPlain none → ((e : Expr) → IsPlain (some e)) → IsPlain (on_option none some x)
plain_option none some None h k = h
plain_option none some (Some x) h k = k (plain_expr x)

plain_layer : (layer : Layer) (n : ℕ) → is_simple_layer layer ≡ true → IsPlain ((layer_part layer).make n)
plain_layer (StmtKind-F.Expr x) n e = record { none = refl; same = λ level entries. refl }
plain_layer (StmtKind-F.Assign ts x) n e = plain_from (λ us. Rattle.emit_expr.specs.py_meaning.Tree.Assign us (plain_expr x)) (map plain_target ts) (λ us. record { none = refl; same = λ level entries. refl })
plain_layer (StmtKind-F.Aug t op x) n e = plain_augmented (plain_target t) op (plain_expr x)
plain_layer (StmtKind-F.Del ts) n e = plain_from Rattle.emit_expr.specs.py_meaning.Tree.Delete (map plain_target ts) (λ us. record { none = refl; same = λ level entries. refl })
plain_layer StmtKind-F.Pass n e = record { none = refl; same = λ level entries. refl }
plain_layer StmtKind-F.Break n e = record { none = refl; same = λ level entries. refl }
plain_layer StmtKind-F.Continue n e = record { none = refl; same = λ level entries. refl }
plain_layer (StmtKind-F.Return x) n e = plain_option ReturnNone Return x (record { none = refl; same = λ level entries. refl }) (λ v. record { none = refl; same = λ level entries. refl })
plain_layer (StmtKind-F.Raise x) n e = plain_option Reraise Raise x (record { none = refl; same = λ level entries. refl }) (λ v. record { none = refl; same = λ level entries. refl })
plain_layer (StmtKind-F.Global names) n e = record { none = refl; same = λ level entries. refl }
plain_layer (StmtKind-F.Import names) n e = record { none = refl; same = λ level entries. refl }
plain_layer (StmtKind-F.From path names) n e = record { none = refl; same = λ level entries. refl }
plain_layer (StmtKind-F.Assert test message) n e = plain_option (Assert (plain_expr test)) (AssertWith (plain_expr test)) message (record { none = refl; same = λ level entries. refl }) (λ v. record { none = refl; same = λ level entries. refl })
plain_layer (StmtKind-F.If branches rest) n e = cc
plain_layer (StmtKind-F.While test inner rest) n e = cc
plain_layer (StmtKind-F.For target over inner rest) n e = cc
plain_layer (StmtKind-F.Try inner handlers rest last) n e = cc
plain_layer (StmtKind-F.Def name params inner) n e = cc

pub simple_plain : (kind : StmtKind) (n : ℕ) → is_simple kind ≡ true → IsPlain ((plain_kind kind).make n)
simple_plain kind n e = subst (λ (z : Part Stmt). IsPlain (z.make n)) (sym (layer_is kind)) (plain_layer (out-StmtKind kind) n e)
