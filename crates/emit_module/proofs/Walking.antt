-- The functions in statements, by those in their parts.
use Rattle.std.proofs.Common.{◌≡◌, ◌≤◌, ◌<◌, ℕ, suc, ◌+◌, Bool, true, false, List, [], ◌∷◌, length, map, drop, Option, Some, None, get_or, refl, sym, ap, ◌∙◌, subst, arith}
use Rattle.std.specs.Prelude.{Result, Ok, Err, OnOk, is_some, not}
use Rattle.mpy_base.specs.declared.source.SourceFault.{SourceFault}
use Rattle.mpy_base.specs.declared.refused.Refused.{Refused}
use Rattle.py_tree.specs.declared.expr.BinaryOp.{BinaryOp}
use Rattle.py_tree.specs.declared.expr.Expr as trees
use Rattle.py_tree.specs.declared.stmt.Branch.{Branch, out-Branch}
use Rattle.py_tree.specs.declared.stmt.Handler.{Handler, out-Handler}
use Rattle.py_tree.specs.declared.stmt.Param.{Param}
use Rattle.py_tree.specs.declared.stmt.Stmt as stmts
use Rattle.py_tree.specs.declared.stmt.Stmt.{out-Stmt}
use Rattle.py_tree.specs.declared.stmt.StmtKind.{StmtKind, out-StmtKind}
use Rattle.py_tree.specs.declared.stmt.StmtKind.TheVariants as s
use Rattle.py_tree.specs.declared.stmt.StmtKind.TheOpen.{StmtKind-F}
use Rattle.py_tree.specs.declared.stmt.Target as aims
use Rattle.tr_source.specs.py_meaning.Tree.{Name, Expr, Target, ToName, ToAttr, ToIndex, ToEach, Targets, Stmt, Assign, Delete, Pass, ReturnNone, Return, Reraise, Raise, Assert, AssertWith, Finally, TryFinally, Block, Branches, Else, Handlers}
use Rattle.tr_source.specs.py_meaning.Plain.{Part, Clause, part, also, chain, plain_expr, plain_target, targets, from_targets, augmented, on_option, numbered, handler_of}
use Rattle.emit_stmt.specs.Plain.{plain_kind, is_simple_layer, is_simple}
use Rattle.emit_stmt.proofs.Plains.{Layer, layer_part, layer_is}
use Rattle.emit_stmt.specs.Parts.{plain_block, plain_branch, plain_handlers, if_part, while_part, for_part, try_part}
use Rattle.emit_stmt.proofs.Layers.{stmt_is, branch_is, handler_is, if_is, while_is, for_is, try_is, finally_is, def_is, bare_is, handled_is}
use Rattle.emit_module.specs.declared.walk.Children.{Children}
use Rattle.emit_module.specs.Walk.{Forest, bare, beside, planted, planted_in, planted_of, planted_by, WalksAll, WalksFront, front_defs}
use Rattle.emit_stmt.proofs.emit_expr_lemmas.Rows.{drop_item}
use Rattle.emit_module.proofs.Forests.{beside_bare, beside_assoc, walked_none, walks_then, walks_left, walks_as, all_as, Splits, Begins, begins_by, IsFirst, IsBegun, SoFar, front_taken}

-- ---- the first of a row

abbrev pub blocks : List stmts.Stmt → ℕ → Forest
blocks ss n = planted ((plain_block ss).make n)

abbrev pub stmt_own : stmts.Stmt → ℕ → Forest
stmt_own x n = planted_in (out-Stmt x).line ((plain_kind (out-Stmt x).kind).make n)

pub block_first : (x : stmts.Stmt) (xs : List stmts.Stmt) → IsFirst blocks (stmt_own x) x xs
block_first x xs = record { by = λ n. (n + 0, n + (0 + (plain_kind (out-Stmt x).kind).defs), ap (λ (p : Part (Block → Block)). planted ((also p (plain_block xs)).make n)) (stmt_is x)) }

pub block_defs : (x : stmts.Stmt) (xs : List stmts.Stmt) → (plain_block (x ∷ xs)).defs ≡ (plain_kind (out-Stmt x).kind).defs + (plain_block xs).defs
block_defs x xs = let e = ap (λ (p : Part (Block → Block)). p.defs + (plain_block xs).defs) (stmt_is x) in omega (arith, e)

abbrev pub fronts : Part Branches → List Branch → ℕ → Forest
fronts rest bs n = planted_of ((chain (map plain_branch bs) rest).make n)

abbrev pub branch_own : Branch → ℕ → Forest
branch_own x n = planted ((plain_block (out-Branch x).body).make n)

pub branches_first : (rest : Part Branches) (x : Branch) (xs : List Branch) → IsFirst (fronts rest) (branch_own x) x xs
branches_first rest x xs = record { by = λ n. (n + 0, n + (0 + (plain_block (out-Branch x).body).defs), ap (λ (p : Part (Branches → Branches)). planted_of ((also p (chain (map plain_branch xs) rest)).make n)) (branch_is x)) }

pub branch_defs : (x : Branch) → (plain_branch x).defs ≡ (plain_block (out-Branch x).body).defs
branch_defs x = let e = ap (λ (p : Part (Branches → Branches)). p.defs) (branch_is x) in omega (arith, e)

abbrev pub clauses : List Handler → ℕ → Forest
clauses hs n = planted_by ((plain_handlers hs).make n)

abbrev pub handler_own : Handler → ℕ → Forest
handler_own x n = planted ((plain_block (out-Handler x).body).make n)

handler_split : (x : Handler) (xs : List Handler) (n : ℕ)
    → clauses (x ∷ xs) n ≡ planted_by (handler_of (out-Handler x).line (out-Handler x).test (out-Handler x).name ((plain_block (out-Handler x).body).make (n + 0)) ((plain_handlers xs).make (n + (0 + (plain_block (out-Handler x).body).defs))))
handler_split x xs n = ap (λ (p : Clause). planted_by ((also p (plain_handlers xs)).make n)) (handler_is x)

tested : (line : ℕ) (test : trees.Expr) (name : Option Name) (body : Block) (others : Handlers) → planted_by (handler_of line (Some test) name body others) ≡ beside (planted body) (planted_by others)
tested line test None body others = refl
tested line test (Some name) body others = refl

first_clause : (x : Handler) (xs : List Handler) (o : Option trees.Expr) → (out-Handler x).test ≡ o → ((out-Handler x).test ≡ None → ⊥) → (n : ℕ) → (i j : ℕ) × (clauses (x ∷ xs) n ≡ beside (handler_own x i) (clauses xs j))
first_clause x xs None e some n = absurd (some e)
first_clause x xs (Some test) e some n = (
  n + 0,
  n + (0 + (plain_block (out-Handler x).body).defs),
  handler_split x xs n ∙ ap (λ o. planted_by (handler_of (out-Handler x).line o (out-Handler x).name ((plain_block (out-Handler x).body).make (n + 0)) ((plain_handlers xs).make (n + (0 + (plain_block (out-Handler x).body).defs))))) e
      ∙ tested (out-Handler x).line test (out-Handler x).name _ _,
)

pub handlers_first : (x : Handler) (xs : List Handler) → ((out-Handler x).test ≡ None → ⊥) → IsFirst clauses (handler_own x) x xs
handlers_first x xs some = record { by = first_clause x xs (out-Handler x).test refl some }

pub handlers_last : (x : Handler) (xs : List Handler) → (out-Handler x).test ≡ None → (n : ℕ) → (k : ℕ) × (clauses (x ∷ xs) n ≡ handler_own x k)
handlers_last x xs e n = (
  n + 0,
  handler_split x xs n ∙ ap (λ o. planted_by (handler_of (out-Handler x).line o (out-Handler x).name ((plain_block (out-Handler x).body).make (n + 0)) ((plain_handlers xs).make (n + (0 + (plain_block (out-Handler x).body).defs))))) e,
)

handlers_begun_by : (x : Handler) (xs : List Handler) (o : Option trees.Expr) → (out-Handler x).test ≡ o → (n : ℕ) → (i : ℕ) × (g : Forest) × (clauses (x ∷ xs) n ≡ beside (handler_own x i) g)
handlers_begun_by x xs None e n = let k = handlers_last x xs e n in (k.0, bare, k.1 ∙ sym (beside_bare (handler_own x k.0)))
handlers_begun_by x xs (Some test) e n = let first = handlers_first x xs (λ none. cc) in let k = first.by n in (k.0, clauses xs k.1, k.2)

pub handlers_begun : (x : Handler) (xs : List Handler) → IsBegun clauses (handler_own x) x xs
handlers_begun x xs = record { by = handlers_begun_by x xs (out-Handler x).test refl }

pub handlers_defs : (x : Handler) (xs : List Handler) → (plain_handlers (x ∷ xs)).defs ≡ (plain_block (out-Handler x).body).defs + (plain_handlers xs).defs
handlers_defs x xs = let e = ap (λ (p : Clause). p.defs + (plain_handlers xs).defs) (handler_is x) in omega (arith, e)

-- ---- statements with bodies

abbrev pub kinds : (line : ℕ) → StmtKind → ℕ → Forest
kinds line kind n = planted_in line ((plain_kind kind).make n)

kind_is : (line : ℕ) (kind : StmtKind) (p : Part Stmt) (n : ℕ) → plain_kind kind ≡ p → kinds line kind n ≡ planted_in line (p.make n)
kind_is line kind p n e = ap (λ (z : Part Stmt). planted_in line (z.make n)) e

pub if_fails : {A B : Type 0} {slots : List (List Name)} {a b c : Children} (line : ℕ) (kind : StmtKind) (bs : List Branch) (rest : List stmts.Stmt) (e : Refused SourceFault) → kind ≡ s.If bs rest
    → WalksFront {A = A} slots bs a b (Err e) → WalksAll {A = B} slots (kinds line kind) a c (Err e)
if_fails {A = A} {B = B} {a = a} {b = b} {c = c} line kind bs rest e is front = record {
  by = λ source l t n.
      let k = front.by source l t (also (part Else) (plain_block rest)) (n + 0) in
      walks_as {A = B} source (beside k.front (blocks rest (k.at + 0))) (kinds line kind n) a c (Err e) (walks_left A B source k.front (blocks rest (k.at + 0)) a b c e k.walks)
      (kind_is line kind (if_part bs rest) n (ap plain_kind is ∙ if_is bs rest) ∙ k.is);
}

pub if_walks : {A B : Type 0} {slots : List (List Name)} {a b c : Children} {r : Result B (Refused SourceFault)} (line : ℕ) (kind : StmtKind) (bs : List Branch) (rest : List stmts.Stmt) (v : A) → kind ≡ s.If bs rest
    → WalksFront slots bs a b (Ok v) → WalksAll slots (blocks rest) b c r → WalksAll slots (kinds line kind) a c r
if_walks {a = a} {b = b} {c = c} {r = r} line kind bs rest v is front block = record {
  by = λ source l t n.
      let k = front.by source l t (also (part Else) (plain_block rest)) (n + 0) in
      walks_as source (beside k.front (blocks rest (k.at + 0))) (kinds line kind n) a c r
      (walks_then source k.front (blocks rest (k.at + 0)) a b c r k.walks (block.by source (l ∙ sym k.walks.level) t (k.at + 0)))
      (kind_is line kind (if_part bs rest) n (ap plain_kind is ∙ if_is bs rest) ∙ k.is);
}

pub while_row : (line : ℕ) (kind : StmtKind) (test : trees.Expr) (body rest : List stmts.Stmt) → kind ≡ s.While test body rest → Splits (kinds line kind) (blocks body) (blocks rest)
while_row line kind test body rest is = record { by = λ n. (n + 0, n + (0 + (plain_block body).defs), kind_is line kind (while_part test body rest) n (ap plain_kind is ∙ while_is test body rest)) }

pub for_row : (line : ℕ) (kind : StmtKind) (target : aims.Target) (over : trees.Expr) (body rest : List stmts.Stmt) → kind ≡ s.For target over body rest → Splits (kinds line kind) (blocks body) (blocks rest)
for_row line kind target over body rest is = record { by = λ n. (n + 0, n + (0 + (plain_block body).defs), kind_is line kind (for_part target over body rest) n (ap plain_kind is ∙ for_is target over body rest)) }

-- ---- try

abbrev pub tried : (body : List stmts.Stmt) → List Handler → ℕ → Forest
tried body hs n = beside (blocks body (n + 0)) (clauses hs (n + (0 + (plain_block body).defs)))

abbrev pub tried_rest : (body : List stmts.Stmt) → List Handler → (rest : List stmts.Stmt) → ℕ → Forest
tried_rest body hs rest n = beside (tried body hs n) (blocks rest (n + (0 + (plain_block body).defs + (plain_handlers hs).defs)))

pub tried_row : (body : List stmts.Stmt) (hs : List Handler) → Splits (tried body hs) (blocks body) (clauses hs)
tried_row body hs = record { by = λ n. (n + 0, n + (0 + (plain_block body).defs), refl) }

pub tried_rest_row : (body : List stmts.Stmt) (hs : List Handler) (rest : List stmts.Stmt) → Splits (tried_rest body hs rest) (tried body hs) (blocks rest)
tried_rest_row body hs rest = record { by = λ n. (n, n + (0 + (plain_block body).defs + (plain_handlers hs).defs), refl) }

pub try_row : (line : ℕ) (kind : StmtKind) (body : List stmts.Stmt) (hs : List Handler) (rest : List stmts.Stmt) → kind ≡ s.Try body hs rest None → Splits (kinds line kind) (tried body hs) (blocks rest)
try_row line kind body hs rest is = record { by = λ n. (n, n + (0 + (plain_block body).defs + (plain_handlers hs).defs), kind_is line kind (try_part body hs rest) n (ap plain_kind is ∙ try_is body hs rest)) }

pub finally_row : (line : ℕ) (kind : StmtKind) (body : List stmts.Stmt) (hs : List Handler) (rest last : List stmts.Stmt) → kind ≡ s.Try body hs rest (Some last) → hs ≡ [] → Splits (kinds line kind) (tried body hs) (blocks last)
finally_row line kind body hs rest last is none = record {
  by = λ n. (
    n,
    n + (0 + (plain_block body).defs),
    kind_is line kind (also (also (part Finally) (plain_block body)) (plain_block last)) n (ap plain_kind is ∙ finally_is body hs rest last ∙ bare_is body hs rest last none)
        ∙ ap (λ z. beside z (blocks last (n + (0 + (plain_block body).defs)))) (sym (beside_bare (blocks body (n + 0))) ∙ ap (λ z. beside (blocks body (n + 0)) (clauses z (n + (0 + (plain_block body).defs)))) (sym none)),
  );
}

pub both_row : (line : ℕ) (kind : StmtKind) (body : List stmts.Stmt) (hs : List Handler) (rest last : List stmts.Stmt) → kind ≡ s.Try body hs rest (Some last) → (hs ≡ [] → ⊥) → Splits (kinds line kind) (tried_rest body hs rest) (blocks last)
both_row line kind body hs rest last is some = record {
  by = λ n. (
    n,
    n + (0 + (plain_block body).defs + (plain_handlers hs).defs + (plain_block rest).defs),
    kind_is line kind (also (also (also (also (part TryFinally) (plain_block body)) (plain_handlers hs)) (plain_block rest)) (plain_block last)) n
        (ap plain_kind is ∙ finally_is body hs rest last ∙ handled_is body hs rest last some),
  );
}

on_first : {whole first front : ℕ → Forest} → Begins whole first → Begins first front → Begins whole front
on_first h k = record {
  by = λ n.
      let a = h.by n in
      let b = k.by a.0 in
      (b.0, beside b.1 a.1, a.2 ∙ ap (λ z. beside z a.1) b.2 ∙ beside_assoc _ b.1 a.1);
}

pub try_begins : (line : ℕ) (kind : StmtKind) (body : List stmts.Stmt) (hs : List Handler) (rest : List stmts.Stmt) (last : Option (List stmts.Stmt)) → kind ≡ s.Try body hs rest last → Begins (kinds line kind) (tried body hs)
try_begins line kind body hs rest None is = begins_by (try_row line kind body hs rest is)
try_begins line kind body [] rest (Some last) is = begins_by (finally_row line kind body [] rest last is refl)
try_begins line kind body (h ∷ hs) rest (Some last) is =
    on_first (begins_by (both_row line kind body (h ∷ hs) rest last is (λ e. cc))) (begins_by (tried_rest_row body (h ∷ hs) rest))

pub body_begins : (line : ℕ) (kind : StmtKind) (body : List stmts.Stmt) (hs : List Handler) (rest : List stmts.Stmt) (last : Option (List stmts.Stmt)) → kind ≡ s.Try body hs rest last → Begins (kinds line kind) (blocks body)
body_begins line kind body hs rest last is = on_first (try_begins line kind body hs rest last is) (begins_by (tried_row body hs))

-- ---- how many functions they have

chained_defs : (bs : List Branch) (rest : Part Branches) → (chain (map plain_branch bs) rest).defs ≡ front_defs bs + rest.defs
chained_defs [] rest = omega arith
chained_defs (b ∷ bs) rest = let e = chained_defs bs rest in omega (arith, e)

kind_defs : (kind : StmtKind) (p : Part Stmt) → plain_kind kind ≡ p → (plain_kind kind).defs ≡ p.defs
kind_defs kind p e = ap (λ (z : Part Stmt). z.defs) e

pub if_defs : (kind : StmtKind) (bs : List Branch) (rest : List stmts.Stmt) → kind ≡ s.If bs rest → (plain_kind kind).defs ≡ front_defs bs + (plain_block rest).defs
if_defs kind bs rest is =
    let e = kind_defs kind (if_part bs rest) (ap plain_kind is ∙ if_is bs rest) in
    let k = chained_defs bs (also (part Else) (plain_block rest)) in
    omega (arith, e, k)

pub while_defs : (kind : StmtKind) (test : trees.Expr) (body rest : List stmts.Stmt) → kind ≡ s.While test body rest → (plain_kind kind).defs ≡ (plain_block body).defs + (plain_block rest).defs
while_defs kind test body rest is = kind_defs kind (while_part test body rest) (ap plain_kind is ∙ while_is test body rest) ∙ omega arith

pub for_defs : (kind : StmtKind) (target : aims.Target) (over : trees.Expr) (body rest : List stmts.Stmt) → kind ≡ s.For target over body rest → (plain_kind kind).defs ≡ (plain_block body).defs + (plain_block rest).defs
for_defs kind target over body rest is = kind_defs kind (for_part target over body rest) (ap plain_kind is ∙ for_is target over body rest) ∙ omega arith

pub try_defs : (kind : StmtKind) (body : List stmts.Stmt) (hs : List Handler) (rest : List stmts.Stmt) → kind ≡ s.Try body hs rest None → (plain_kind kind).defs ≡ (plain_block body).defs + (plain_handlers hs).defs + (plain_block rest).defs
try_defs kind body hs rest is = kind_defs kind (try_part body hs rest) (ap plain_kind is ∙ try_is body hs rest) ∙ omega arith

pub finally_defs : (kind : StmtKind) (body : List stmts.Stmt) (hs : List Handler) (rest last : List stmts.Stmt) → kind ≡ s.Try body hs rest (Some last) → hs ≡ []
    → (plain_kind kind).defs ≡ (plain_block body).defs + (plain_handlers hs).defs + (plain_block last).defs
finally_defs kind body hs rest last is none =
    let e = kind_defs kind (also (also (part Finally) (plain_block body)) (plain_block last)) (ap plain_kind is ∙ finally_is body hs rest last ∙ bare_is body hs rest last none) in
    let k : (plain_handlers hs).defs ≡ 0 = ap (λ z. (plain_handlers z).defs) none in
    omega (arith, e, k)

pub both_defs : (kind : StmtKind) (body : List stmts.Stmt) (hs : List Handler) (rest last : List stmts.Stmt) → kind ≡ s.Try body hs rest (Some last) → (hs ≡ [] → ⊥)
    → (plain_kind kind).defs ≡ (plain_block body).defs + (plain_handlers hs).defs + (plain_block rest).defs + (plain_block last).defs
both_defs kind body hs rest last is some =
    kind_defs kind (also (also (also (also (part TryFinally) (plain_block body)) (plain_handlers hs)) (plain_block rest)) (plain_block last)) (ap plain_kind is ∙ finally_is body hs rest last ∙ handled_is body hs rest last some) ∙ omega arith

-- a `try` has at least the functions of its body and clauses
pub try_within : (kind : StmtKind) (body : List stmts.Stmt) (hs : List Handler) (rest : List stmts.Stmt) (last : Option (List stmts.Stmt)) → kind ≡ s.Try body hs rest last
    → (plain_block body).defs + (plain_handlers hs).defs ≤ (plain_kind kind).defs
try_within kind body hs rest None is = let e = try_defs kind body hs rest is in omega (arith, e)
try_within kind body [] rest (Some last) is = let e = finally_defs kind body [] rest last is refl in omega (arith, e)
try_within kind body (h ∷ hs) rest (Some last) is = let e = both_defs kind body (h ∷ hs) rest last is (λ e. cc) in omega (arith, e)

-- ---- statements without a body

bare_from : (line : ℕ) (make : Targets → Stmt) (ts : List Target) → ((us : Targets) → planted_in line (make us) ≡ bare) → planted_in line (from_targets Pass make ts) ≡ bare
bare_from line make [] h = refl
bare_from line make (t ∷ ts) h = h (targets t ts)

bare_augmented : (line : ℕ) (t : Target) (op : BinaryOp) (e : Expr) → planted_in line (augmented t op e) ≡ bare
bare_augmented line (ToName name) op e = refl
bare_augmented line (ToAttr x name) op e = refl
bare_augmented line (ToIndex x y) op e = refl
bare_augmented line (ToEach ts) op e = refl

bare_option : (line : ℕ) (none : Stmt) (some : Expr → Stmt) (x : Option trees.Expr) → planted_in line none ≡ bare → ((e : Expr) → planted_in line (some e) ≡ bare) → planted_in line (on_option none some x) ≡ bare
bare_option line none some None h k = h
bare_option line none some (Some x) h k = k (plain_expr x)

bare_layer : (line : ℕ) (layer : Layer) (n : ℕ) → is_simple_layer layer ≡ true → planted_in line ((layer_part layer).make n) ≡ bare
bare_layer line (StmtKind-F.Expr x) n e = refl
bare_layer line (StmtKind-F.Assign ts x) n e = bare_from line (λ us. Assign us (plain_expr x)) (map plain_target ts) (λ us. refl)
bare_layer line (StmtKind-F.Aug t op x) n e = bare_augmented line (plain_target t) op (plain_expr x)
bare_layer line (StmtKind-F.Del ts) n e = bare_from line Delete (map plain_target ts) (λ us. refl)
bare_layer line StmtKind-F.Pass n e = refl
bare_layer line StmtKind-F.Break n e = refl
bare_layer line StmtKind-F.Continue n e = refl
bare_layer line (StmtKind-F.Return x) n e = bare_option line ReturnNone Return x refl (λ v. refl)
bare_layer line (StmtKind-F.Raise x) n e = bare_option line Reraise Raise x refl (λ v. refl)
bare_layer line (StmtKind-F.Global names) n e = refl
bare_layer line (StmtKind-F.Import names) n e = refl
bare_layer line (StmtKind-F.From path names) n e = refl
bare_layer line (StmtKind-F.Assert test message) n e = bare_option line (Assert (plain_expr test)) (AssertWith (plain_expr test)) message refl (λ v. refl)
bare_layer line (StmtKind-F.If branches rest) n e = cc
bare_layer line (StmtKind-F.While test inner rest) n e = cc
bare_layer line (StmtKind-F.For target over inner rest) n e = cc
bare_layer line (StmtKind-F.Try inner handlers rest last) n e = cc
bare_layer line (StmtKind-F.Def name params inner) n e = cc

pub simple_walks : {A : Type 0} (slots : List (List Name)) (a : Children) (line : ℕ) (kind : StmtKind) (v : A) → is_simple kind ≡ true → WalksAll slots (kinds line kind) a a (Ok v)
simple_walks slots a line kind v is = record {
  by = λ source l t n.
      walks_as source bare (kinds line kind n) a a (Ok v) (walked_none source a) (kind_is line kind (layer_part (out-StmtKind kind)) n (layer_is kind) ∙ bare_layer line (out-StmtKind kind) n is);
}

-- ---- branches

front_split : (rest : Part Branches) (bs : List Branch) (n : ℕ) → (front : Forest) × (m : ℕ) × (fronts rest bs n ≡ beside front (planted_of (rest.make m)))
front_split rest [] n = (bare, n, refl)
front_split rest (b ∷ bs) n =
    let row = branches_first rest b bs in
    let k = row.by n in
    let h = front_split rest bs k.1 in
    (beside (branch_own b k.0) h.0, h.1, k.2 ∙ ap (beside (branch_own b k.0)) h.2 ∙ sym (beside_assoc (branch_own b k.0) h.0 (planted_of (rest.make h.1))))

pub front_fails : {A B : Type 0} {slots : List (List Name)} {all : List Branch} {a b c d : Children} (bs : List Branch) (i : ℕ) (x : Branch) (e : Refused SourceFault)
    → ((rest : Part Branches) → SoFar slots (fronts rest) all (drop i bs) a b) → i < length bs → x ≡ get_or bs i x → WalksAll {A = A} slots (branch_own x) b c (Err e) → WalksFront {A = B} slots all a d (Err e)
front_fails {A = A} {B = B} {all = all} {a = a} {b = b} {c = c} {d = d} bs i x e so lt is walks = record {
  by = λ source l t rest n.
      let taken = (so rest).by source l t n in
      let row = branches_first rest x (drop (i + 1) bs) in
      let k = row.by taken.at in
      let h = front_split rest (drop (i + 1) bs) k.1 in
      let done = taken.done in
      let own = branch_own x k.0 in
      let last = planted_of (rest.make h.1) in
      let first = walks.by source (l ∙ sym taken.walked.level) t k.0 in
      record {
        front = beside done (beside own h.0);
        at = h.1;
        is = taken.is ∙ ap (λ z. beside done (fronts rest z taken.at)) (drop_item bs i x lt is) ∙ ap (beside done) (k.2 ∙ ap (beside own) h.2 ∙ sym (beside_assoc own h.0 last)) ∙ sym (beside_assoc done (beside own h.0) last);
        walks = walks_then {A = B} source done (beside own h.0) a b d (Err e) taken.walked (walks_left A B source own h.0 b c d e first);
      };
}

pub front_walks : {A : Type 0} {slots : List (List Name)} {all : List Branch} {a b : Children} (bs : List Branch) (i : ℕ) (v : A)
    → ((rest : Part Branches) → SoFar slots (fronts rest) all (drop i bs) a b) → length bs ≤ i → WalksFront slots all a b (Ok v)
front_walks bs i v so h = record { by = λ source l t rest n. front_taken bs i v (λ m. planted_of (rest.make m)) ((so rest).by source l t n) h (λ m. refl) }

-- ---- room for what is left

pub block_room : (xs : List stmts.Stmt) (i : ℕ) (x : stmts.Stmt) (before all : ℕ) → before + (plain_block (drop i xs)).defs ≤ all → i < length xs → x ≡ get_or xs i x
    → before + ((plain_kind (out-Stmt x).kind).defs + (plain_block (drop (i + 1) xs)).defs) ≤ all
block_room xs i x before all few lt is =
    let d = ap (λ z. (plain_block z).defs) (drop_item xs i x lt is) in
    let e = block_defs x (drop (i + 1) xs) in
    omega (arith, few, d, e)

pub branches_room : (xs : List Branch) (i : ℕ) (x : Branch) (before all : ℕ) → before + front_defs (drop i xs) ≤ all → i < length xs → x ≡ get_or xs i x
    → before + ((plain_block (out-Branch x).body).defs + front_defs (drop (i + 1) xs)) ≤ all
branches_room xs i x before all few lt is =
    let d : front_defs (drop i xs) ≡ (plain_branch x).defs + front_defs (drop (i + 1) xs) = ap front_defs (drop_item xs i x lt is) in
    let e = branch_defs x in
    omega (arith, few, d, e)

pub handlers_room : (xs : List Handler) (i : ℕ) (x : Handler) (before all : ℕ) → before + (plain_handlers (drop i xs)).defs ≤ all → i < length xs → x ≡ get_or xs i x
    → before + ((plain_block (out-Handler x).body).defs + (plain_handlers (drop (i + 1) xs)).defs) ≤ all
handlers_room xs i x before all few lt is =
    let d = ap (λ z. (plain_handlers z).defs) (drop_item xs i x lt is) in
    let e = handlers_defs x (drop (i + 1) xs) in
    omega (arith, few, d, e)

pub same_defs : (xs ys : List stmts.Stmt) → xs ≡ ys → (plain_block xs).defs ≡ (plain_block ys).defs
same_defs xs ys e = ap (λ z. (plain_block z).defs) e

pub on_slice : {A : Type 0} {slots : List (List Name)} {a b : Children} {r : Result A (Refused SourceFault)} (xs ys : List stmts.Stmt) → xs ≡ ys → WalksAll slots (blocks xs) a b r → WalksAll slots (blocks ys) a b r
on_slice {slots = slots} {a = a} {b = b} {r = r} xs ys e h = subst (λ z. WalksAll slots (blocks z) a b r) e h

-- ---- whether a clause has a test

pub untested : (o : Option trees.Expr) (b : Bool) → is_some o ≡ not b → b ≡ true → o ≡ None
untested None b e t = refl
untested (Some x) b e t = let k : true ≡ false = e ∙ ap not t in cc

pub with_test : (o : Option trees.Expr) (b : Bool) → is_some o ≡ not b → b ≡ false → o ≡ None → ⊥
with_test None b e f h = let k : false ≡ true = e ∙ ap not f in cc
with_test (Some x) b e f h = cc

-- ---- the same by another name

pub on_front : {A : Type 0} {slots : List (List Name)} {a b : Children} {r : Result A (Refused SourceFault)} (xs ys : List Branch) → xs ≡ ys → WalksFront slots xs a b r → WalksFront slots ys a b r
on_front {slots = slots} {a = a} {b = b} {r = r} xs ys e h = subst (λ z. WalksFront slots z a b r) e h

pub on_clauses : {A : Type 0} {slots : List (List Name)} {a b : Children} {r : Result A (Refused SourceFault)} (xs ys : List Handler) → xs ≡ ys → WalksAll slots (clauses xs) a b r → WalksAll slots (clauses ys) a b r
on_clauses {slots = slots} {a = a} {b = b} {r = r} xs ys e h = subst (λ z. WalksAll slots (clauses z) a b r) e h

pub same_front : (xs ys : List Branch) → xs ≡ ys → front_defs xs ≡ front_defs ys
same_front xs ys e = ap front_defs e

pub same_clauses : (xs ys : List Handler) → xs ≡ ys → (plain_handlers xs).defs ≡ (plain_handlers ys).defs
same_clauses xs ys e = ap (λ z. (plain_handlers z).defs) e

def_same : (line : ℕ) (name other : Name) (params others : List Param) (body inner : List stmts.Stmt) (n : ℕ) → other ≡ name → others ≡ params → inner ≡ body
    → planted_in line ((numbered name params (plain_block body)).make n) ≡ planted_in line ((numbered other others (plain_block inner)).make n)
def_same line name other params others body inner n a b d =
    ap (λ z. planted_in line ((numbered z params (plain_block body)).make n)) (sym a) ∙ ap (λ z. planted_in line ((numbered other z (plain_block body)).make n)) (sym b)
    ∙ ap (λ z. planted_in line ((numbered other others (plain_block z)).make n)) (sym d)

pub def_walks : {A : Type 0} {slots : List (List Name)} {a b : Children} {r : Result A (Refused SourceFault)} (line : ℕ) (kind : StmtKind) (name other : Name) (params others : List Param) (body inner : List stmts.Stmt) → kind ≡ s.Def name params body
    → other ≡ name → others ≡ params → inner ≡ body → WalksAll slots (λ n. planted_in line ((numbered other others (plain_block inner)).make n)) a b r → WalksAll slots (kinds line kind) a b r
def_walks line kind name other params others body inner is a b d h =
    all_as h (λ n. kind_is line kind (numbered name params (plain_block body)) n (ap plain_kind is ∙ def_is name params body) ∙ def_same line name other params others body inner n a b d)

pub def_defs : (kind : StmtKind) (name : Name) (params : List Param) (body inner : List stmts.Stmt) → kind ≡ s.Def name params body → inner ≡ body → (plain_kind kind).defs ≡ suc (plain_block inner).defs
def_defs kind name params body inner is d = kind_defs kind (numbered name params (plain_block body)) (ap plain_kind is ∙ def_is name params body) ∙ ap (λ z. suc (plain_block z).defs) (sym d)

pub on_ok : {A E P Q : Type 0} (r : Result A E) → OnOk r P → (P → Q) → OnOk r Q
on_ok (Ok x) h f = f h
on_ok (Err e) h f = tt
