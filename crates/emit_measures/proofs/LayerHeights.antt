-- Statements, by those of their parts.
use Rattle.std.proofs.Common.{◌≡◌, ◌⊎◌, inl, inr, ℕ, zero, suc, ◌+◌, ◌≤◌, ◌<◌, List, [], ◌∷◌, length, map, Option, Some, None, refl, sym, ap, ◌∙◌, arith}
use Rattle.std.specs.Prelude.{max, Bool, true, false, IsTrue, ◌↔◌, get_or, drop, min}
use Rattle.py_tree.specs.declared.expr.BinaryOp.{BinaryOp}
use Rattle.py_tree.specs.declared.expr.Expr as trees
use Rattle.py_tree.specs.declared.stmt.Alias.{Alias}
use Rattle.py_tree.specs.declared.stmt.Branch.{Branch, out-Branch, roll-out-Branch}
use Rattle.py_tree.specs.declared.stmt.Handler.{Handler, out-Handler, roll-out-Handler}
use Rattle.py_tree.specs.declared.stmt.Param.{Param}
use Rattle.py_tree.specs.declared.stmt.Stmt as stmts
use Rattle.py_tree.specs.declared.stmt.Stmt.{roll-Stmt, out-Stmt, roll-out-Stmt}
use Rattle.py_tree.specs.declared.stmt.StmtKind.{StmtKind, map-StmtKind, roll-StmtKind, out-StmtKind, roll-out-StmtKind}
use Rattle.py_tree.specs.declared.stmt.StmtKind.TheVariants as s
use Rattle.py_tree.specs.declared.stmt.StmtKind.TheOpen.{StmtKind-F}
use Rattle.py_tree.specs.declared.stmt.StmtKind.TheFolds.{fold-roll-StmtKind, fold-roll-Branch, fold-roll-Handler, fold-roll-Stmt}
use Rattle.py_tree.specs.declared.stmt.Target as aims
use Rattle.bc_scheme.specs.py_meaning.Tree.{Name, Target, ToName, ToAttr, ToIndex, ToEach, Targets, Expr, Exprs, NoExpr, More, count, Stmt, Do, Assign, Delete, Pass, Break, Continue, ReturnNone, Return, Reraise, Raise, Assert, AssertWith, Import, From, If, While, For, Block, Next, Branches, Else, Case, Handlers, NoHandler}
use Rattle.bc_scheme.specs.py_meaning.Plain.{plain_expr, plain_target, targets, from_targets, augmented, on_option, Part, part, also, chain, block, defaults_of, numbered, Clause, handler_of, kind_step, branch_step, handler_step, stmt_step, plain_stmt}
use Rattle.bc_scheme.specs.Heights.{tall, tall_above, tall_defaults, tall_import, tall_stmt, tall_block, tall_branches, tall_handlers, held, held_in, held_by, held_of}
use Rattle.emit_measures.specs.Limits.{saturated, plain_kind, plain_branch, plain_handler, plain_try, named}
use Rattle.std.proofs.lemmas.List.{drop_all}
use Rattle.emit_measures.proofs.Numbers.{join, closed, two, plus}
use Rattle.emit_measures.proofs.Rows.{top, IsRow, drop_item}

-- ---- one layer

abbrev Layer : Type 0
Layer = StmtKind-F StmtKind Branch Handler stmts.Stmt

layer : (kind : StmtKind) (x : Layer) → roll-StmtKind x ≡ kind
    → plain_kind kind ≡ kind_step (map-StmtKind StmtKind Branch Handler stmts.Stmt (Part Stmt) (Part (Branches → Branches)) Clause (Part (Block → Block)) plain_kind plain_branch plain_handler plain_stmt x)
layer kind x is = ap plain_kind (sym is) ∙ fold-roll-StmtKind (Part Stmt) (Part (Branches → Branches)) Clause (Part (Block → Block)) kind_step branch_step handler_step stmt_step x

pub plain_Expr : (e : trees.Expr) → plain_kind (s.Expr e) ≡ part (Do (plain_expr e))
plain_Expr e = layer (s.Expr e) (StmtKind-F.Expr e) (s.rolls-Expr e)

pub plain_Assign : (ts : List aims.Target) (e : trees.Expr) → plain_kind (s.Assign ts e) ≡ part (from_targets Pass (λ us. Assign us (plain_expr e)) (map plain_target ts))
plain_Assign ts e = layer (s.Assign ts e) (StmtKind-F.Assign ts e) (s.rolls-Assign ts e)

pub plain_Aug : (t : aims.Target) (op : BinaryOp) (e : trees.Expr) → plain_kind (s.Aug t op e) ≡ part (augmented (plain_target t) op (plain_expr e))
plain_Aug t op e = layer (s.Aug t op e) (StmtKind-F.Aug t op e) (s.rolls-Aug t op e)

pub plain_Del : (ts : List aims.Target) → plain_kind (s.Del ts) ≡ part (from_targets Pass Delete (map plain_target ts))
plain_Del ts = layer (s.Del ts) (StmtKind-F.Del ts) (s.rolls-Del ts)

pub plain_Pass : plain_kind s.Pass ≡ part Pass
plain_Pass = layer s.Pass StmtKind-F.Pass s.rolls-Pass

pub plain_Break : plain_kind s.Break ≡ part Break
plain_Break = layer s.Break StmtKind-F.Break s.rolls-Break

pub plain_Continue : plain_kind s.Continue ≡ part Continue
plain_Continue = layer s.Continue StmtKind-F.Continue s.rolls-Continue

pub plain_Return : (value : Option trees.Expr) → plain_kind (s.Return value) ≡ part (on_option ReturnNone Return value)
plain_Return value = layer (s.Return value) (StmtKind-F.Return value) (s.rolls-Return value)

pub plain_Raise : (value : Option trees.Expr) → plain_kind (s.Raise value) ≡ part (on_option Reraise Raise value)
plain_Raise value = layer (s.Raise value) (StmtKind-F.Raise value) (s.rolls-Raise value)

pub plain_Global : (names : List Name) → plain_kind (s.Global names) ≡ part Pass
plain_Global names = layer (s.Global names) (StmtKind-F.Global names) (s.rolls-Global names)

pub plain_Import : (names : List Alias) → plain_kind (s.Import names) ≡ part (Import names)
plain_Import names = layer (s.Import names) (StmtKind-F.Import names) (s.rolls-Import names)

pub plain_From : (path : Name) (names : List Alias) → plain_kind (s.From path names) ≡ part (From path names)
plain_From path names = layer (s.From path names) (StmtKind-F.From path names) (s.rolls-From path names)

pub plain_Assert : (test : trees.Expr) (message : Option trees.Expr) → plain_kind (s.Assert test message) ≡ part (on_option (Assert (plain_expr test)) (AssertWith (plain_expr test)) message)
plain_Assert test message = layer (s.Assert test message) (StmtKind-F.Assert test message) (s.rolls-Assert test message)

pub plain_If : (bs : List Branch) (rest : List stmts.Stmt) → plain_kind (s.If bs rest) ≡ also (part If) (chain (map plain_branch bs) (also (part Else) (block (map plain_stmt rest))))
plain_If bs rest = layer (s.If bs rest) (StmtKind-F.If bs rest) (s.rolls-If bs rest)

pub plain_While : (test : trees.Expr) (body rest : List stmts.Stmt) → plain_kind (s.While test body rest) ≡ also (also (part (While (plain_expr test))) (block (map plain_stmt body))) (block (map plain_stmt rest))
plain_While test body rest = layer (s.While test body rest) (StmtKind-F.While test body rest) (s.rolls-While test body rest)

pub plain_For : (t : aims.Target) (over : trees.Expr) (body rest : List stmts.Stmt) → plain_kind (s.For t over body rest) ≡ also (also (part (For (plain_target t) (plain_expr over))) (block (map plain_stmt body))) (block (map plain_stmt rest))
plain_For t over body rest = layer (s.For t over body rest) (StmtKind-F.For t over body rest) (s.rolls-For t over body rest)

pub plain_Try : (body : List stmts.Stmt) (hs : List Handler) (rest : List stmts.Stmt) (last : Option (List stmts.Stmt)) → plain_kind (s.Try body hs rest last) ≡ plain_try body hs rest last
plain_Try body hs rest None = layer (s.Try body hs rest None) (StmtKind-F.Try body hs rest None) (s.rolls-Try body hs rest None)
plain_Try body hs rest (Some last) = layer (s.Try body hs rest (Some last)) (StmtKind-F.Try body hs rest (Some last)) (s.rolls-Try body hs rest (Some last))

pub plain_Def : (name : Name) (params : List Param) (body : List stmts.Stmt) → plain_kind (s.Def name params body) ≡ numbered name params (block (map plain_stmt body))
plain_Def name params body = layer (s.Def name params body) (StmtKind-F.Def name params body) (s.rolls-Def name params body)

pub stmt_is : (x : stmts.Stmt) → plain_stmt x ≡ also (part (Next (out-Stmt x).line)) (plain_kind (out-Stmt x).kind)
stmt_is x = ap plain_stmt (sym (roll-out-Stmt x)) ∙ fold-roll-Stmt (Part Stmt) (Part (Branches → Branches)) Clause (Part (Block → Block)) kind_step branch_step handler_step stmt_step (out-Stmt x)

pub branch_is : (x : Branch) → plain_branch x ≡ also (part (Case (out-Branch x).line (plain_expr (out-Branch x).test))) (block (map plain_stmt (out-Branch x).body))
branch_is x = ap plain_branch (sym (roll-out-Branch x)) ∙ fold-roll-Branch (Part Stmt) (Part (Branches → Branches)) Clause (Part (Block → Block)) kind_step branch_step handler_step stmt_step (out-Branch x)

pub handler_is : (x : Handler) → plain_handler x ≡ also (part (handler_of (out-Handler x).line (out-Handler x).test (out-Handler x).name)) (block (map plain_stmt (out-Handler x).body))
handler_is x = ap plain_handler (sym (roll-out-Handler x)) ∙ fold-roll-Handler (Part Stmt) (Part (Branches → Branches)) Clause (Part (Block → Block)) kind_step branch_step handler_step stmt_step (out-Handler x)

-- ---- small statements

no_height : (kind : StmtKind) (x : Stmt) → plain_kind kind ≡ part x → (level : ℕ) → tall_stmt level x ≡ 0 → (n : ℕ) → 0 ≡ saturated (tall_stmt level ((plain_kind kind).make n))
no_height kind x is level h n = sym (ap (λ (p : Part Stmt). saturated (tall_stmt level (p.make n))) is ∙ ap saturated h)

pub passed : (level : ℕ) (kind : StmtKind) → (kind ≡ s.Pass) ⊎ ((kind ≡ s.Break) ⊎ ((kind ≡ s.Continue) ⊎ ((names : List Name) × (kind ≡ s.Global names))))
    → (n : ℕ) → 0 ≡ saturated (tall_stmt level ((plain_kind kind).make n))
passed level kind (inl is) = no_height kind Pass (ap plain_kind is ∙ plain_Pass) level refl
passed level kind (inr (inl is)) = no_height kind Break (ap plain_kind is ∙ plain_Break) level refl
passed level kind (inr (inr (inl is))) = no_height kind Continue (ap plain_kind is ∙ plain_Continue) level refl
passed level kind (inr (inr (inr is))) = no_height kind Pass (ap plain_kind is.1 ∙ plain_Global is.0) level refl

caught_last : (level : ℕ) (body rest last : List stmts.Stmt) (hs : List Handler) → (hs ≡ [] → ⊥) → (n : ℕ)
    → tall_stmt level ((plain_try body hs rest (Some last)).make n)
    ≡ max (max (tall_block level ((block (map plain_stmt body)).make (n + 0)))
    (max (tall_handlers level ((chain (map plain_handler hs) (part NoHandler)).make (n + (0 + (block (map plain_stmt body)).defs))))
    (tall_block level ((block (map plain_stmt rest)).make (n + (0 + (block (map plain_stmt body)).defs + (chain (map plain_handler hs) (part NoHandler)).defs))))))
    (1 + tall_block level ((block (map plain_stmt last)).make (n + (0 + (block (map plain_stmt body)).defs + (chain (map plain_handler hs) (part NoHandler)).defs + (block (map plain_stmt rest)).defs))))
caught_last level body rest last [] h n = absurd (h refl)
caught_last level body rest last (x ∷ hs) h n = refl

not_empty : {X : Type 0} (hs : List X) → (hs ≡ [] → false ≡ true) → hs ≡ [] → ⊥
not_empty hs h e = let clash : false ≡ true = h e in cc

-- a `finally`, with the cause below its suite
pub try_last : (level : ℕ) (body rest last : List stmts.Stmt) (hs : List Handler) (bare : Bool) → (IsTrue bare ↔ (hs ≡ [])) → (tried caught behind ended covered : ℕ)
    → ((n : ℕ) → tried ≡ saturated (tall_block level ((block (map plain_stmt body)).make n)))
    → ((n : ℕ) → caught ≡ saturated (tall_handlers level ((chain (map plain_handler hs) (part NoHandler)).make n)))
    → ((n : ℕ) → behind ≡ saturated (tall_block level ((block (map plain_stmt rest)).make n)))
    → ((n : ℕ) → ended ≡ saturated (1 + tall_block level ((block (map plain_stmt last)).make n)))
    → (bare ≡ true → covered ≡ tried) → (bare ≡ false → covered ≡ max tried (max caught behind))
    → (n : ℕ) → max covered ended ≡ saturated (tall_stmt level ((plain_try body hs rest (Some last)).make n))
try_last level body rest last hs true is tried caught behind ended covered t h r e alone all n =
    let none : hs ≡ [] = is.0 refl in
    two top _ _ covered ended (alone refl ∙ t (n + 0)) (e (n + (0 + (block (map plain_stmt body)).defs))) ∙ ap (λ z. saturated (tall_stmt level ((plain_try body z rest (Some last)).make n))) (sym none)
try_last level body rest last hs false is tried caught behind ended covered t h r e alone all n =
    let m = n + (0 + (block (map plain_stmt body)).defs) in
    let k = n + (0 + (block (map plain_stmt body)).defs + (chain (map plain_handler hs) (part NoHandler)).defs) in
    let l = n + (0 + (block (map plain_stmt body)).defs + (chain (map plain_handler hs) (part NoHandler)).defs + (block (map plain_stmt rest)).defs) in
    two top _ _ covered ended (all refl ∙ two top _ _ tried (max caught behind) (t (n + 0)) (two top _ _ caught behind (h m) (r k))) (e l)
    ∙ ap saturated (sym (caught_last level body rest last hs (not_empty hs is.1) n))

pub returned : (level : ℕ) (value : Option trees.Expr) → tall_stmt level (on_option ReturnNone Return value) ≡ on_option 1 tall value
returned level None = refl
returned level (Some e) = refl

pub raised : (level : ℕ) (value : Option trees.Expr) → tall_stmt level (on_option Reraise Raise value) ≡ on_option 0 tall value
raised level None = refl
raised level (Some e) = refl

pub no_import : (names : List Alias) → names ≡ [] → tall_import names ≡ 0
no_import [] h = refl
no_import (a ∷ names) h = cc

pub some_import : (names : List Alias) → (names ≡ [] → ⊥) → tall_import names ≡ 2
some_import [] h = absurd (h refl)
some_import (a ∷ names) h = refl

pub no_code : (level : ℕ) (test : Expr) (message : Option trees.Expr) → 0 < level → tall_stmt level (on_option (Assert test) (AssertWith test) message) ≡ 0
no_code zero test message h = absurd (omega arith)
no_code (suc level) test None h = refl
no_code (suc level) test (Some e) h = refl

pub all_code : (level : ℕ) (test : Expr) → level ≤ 0 → tall_stmt level (Assert test) ≡ tall test
all_code zero test h = refl
all_code (suc level) test h = absurd (omega arith)

pub with_code : (level : ℕ) (test message : Expr) → level ≤ 0 → tall_stmt level (AssertWith test message) ≡ max (tall test) (1 + tall message)
with_code zero test message h = refl
with_code (suc level) test message h = absurd (omega arith)

-- ---- defaults

abbrev pub defaults_in : ℕ → List Param → ℕ
defaults_in n ps = tall_above n (defaults_of ps)

none_more : (n : ℕ) (f : ℕ → ℕ) → f n ≡ max 0 (f (0 + n))
none_more n f = let e : n ≡ 0 + n = omega arith in let z : f n ≡ f (0 + n) = ap f e in omega (arith, z)

more_by : (ps : List Param) (n : ℕ) (d : Option trees.Expr) → tall_above n (on_option (defaults_of ps) (λ e. More e (defaults_of ps)) d) ≡ max (on_option 0 (λ e. n + tall e) d) (defaults_in (on_option 0 (λ e. 1) d + n) ps)
more_by ps n None = none_more n (λ m. defaults_in m ps)
more_by ps n (Some e) = let next : suc n ≡ 1 + n = omega arith in ap (λ m. max (n + tall (plain_expr e)) (defaults_in m ps)) next

pub default_more : (p : Param) (ps : List Param) (n : ℕ) → defaults_in n (p ∷ ps) ≡ max (on_option 0 (λ e. n + tall e) p.default) (defaults_in (on_option 0 (λ e. 1) p.default + n) ps)
default_more p ps n = more_by ps n p.default

counted_by : (ps : List Param) (d : Option trees.Expr) → count (on_option (defaults_of ps) (λ e. More e (defaults_of ps)) d) ≡ on_option 0 (λ e. 1) d + count (defaults_of ps)
counted_by ps None = omega arith
counted_by ps (Some e) = omega arith

pub default_counted : (p : Param) (ps : List Param) → count (defaults_of (p ∷ ps)) ≡ on_option 0 (λ e. 1) p.default + count (defaults_of ps)
default_counted p ps = counted_by ps p.default

-- how far a walk over the parameters has come
pub record Given (all rest : List Param) (slots h : ℕ) : Type 0 where
  pub below : ℕ
  pub is : slots ≡ saturated below
  pub so_far : saturated (defaults_in 0 all) ≡ max h (saturated (defaults_in below rest))
  pub counted : count (defaults_of all) ≡ below + count (defaults_of rest)

pub one_given : {all : List Param} {slots h : ℕ} (ps : List Param) (i : ℕ) (p : Param) (r k next leaves : ℕ) → Given all (drop i ps) slots h → i < length ps → p ≡ get_or ps i p
    → leaves ≡ on_option 0 (λ e. 1) p.default → ((n : ℕ) → slots ≡ saturated n → r ≡ saturated (on_option 0 (λ e. n + tall e) p.default)) → k ≡ max h r → next ≡ min (slots + leaves) top
    → Given all (drop (i + 1) ps) next k
one_given {all = all} {slots = slots} {h = h} ps i p r k next leaves g l is counts own e n =
    let rest = drop (i + 1) ps in
    let here = drop_item ps i p l is in
    let a = on_option 0 (λ e. g.below + tall e) p.default in
    let pieces : saturated (defaults_in 0 all) ≡ max h (saturated (max a (defaults_in (leaves + g.below) rest))) =
    g.so_far ∙ ap (λ z. max h (saturated (defaults_in g.below z))) here ∙ ap (λ z. max h (saturated z)) (default_more p rest g.below)
    ∙ ap (λ m. max h (saturated (max a (defaults_in (m + g.below) rest)))) (sym counts) in
    let c : count (defaults_of all) ≡ g.below + (leaves + count (defaults_of rest)) =
    g.counted ∙ ap (λ z. g.below + count (defaults_of z)) here ∙ ap (λ m. g.below + m) (default_counted p rest) ∙ ap (λ m. g.below + (m + count (defaults_of rest))) (sym counts) in
    record {
      below = leaves + g.below;
      is = let s = g.is in omega arith;
      so_far = join top (saturated (defaults_in 0 all)) h k r a (defaults_in (leaves + g.below) rest) pieces (own g.below g.is) e;
      counted = omega (arith, c);
    }

pub no_default : (es : Exprs) → count es ≡ 0 → tall_defaults es ≡ 1
no_default NoExpr h = refl
no_default (More e es) h = absurd (omega arith)

pub some_default : (es : Exprs) → 0 < count es → tall_defaults es ≡ max (tall_above 0 es) 2
some_default NoExpr h = absurd (omega arith)
some_default (More e es) h = omega arith

-- ---- rows

module _ (level : ℕ) where
  abbrev pub block_in : List stmts.Stmt → ℕ → ℕ
  block_in ss n = tall_block level ((block (map plain_stmt ss)).make n)

  pub block_row : IsRow block_in (λ x ss n. tall_stmt level ((plain_kind (out-Stmt x).kind).make (n + 0)))
  block_row = record {
    more = λ x ss n.
        let rest = block (map plain_stmt ss) in
        (n + (0 + (plain_kind (out-Stmt x).kind).defs), ap (λ (p : Part (Block → Block)). tall_block level (p.make n (rest.make (n + p.defs)))) (stmt_is x));
  }

  abbrev pub branches_in : Part Branches → List Branch → ℕ → ℕ
  branches_in rest bs n = tall_branches level ((chain (map plain_branch bs) rest).make n)

  grouped : (a b d : ℕ) → max a (max b d) ≡ max (max a b) d
  grouped a b d = omega arith

  pub branches_row : (rest : Part Branches) → IsRow (branches_in rest) (λ x bs n. max (tall (plain_expr (out-Branch x).test)) (block_in (out-Branch x).body (n + 0)))
  branches_row rest = record {
    more = λ x bs n.
        let others = chain (map plain_branch bs) rest in
        let m = n + (0 + (block (map plain_stmt (out-Branch x).body)).defs) in (
          m,
          ap (λ (p : Part (Branches → Branches)). tall_branches level (p.make n (others.make (n + p.defs)))) (branch_is x)
              ∙ grouped (tall (plain_expr (out-Branch x).test)) (block_in (out-Branch x).body (n + 0)) (tall_branches level (others.make m)),
        );
  }

  abbrev pub handlers_in : List Handler → ℕ → ℕ
  handlers_in hs n = tall_handlers level ((chain (map plain_handler hs) (part NoHandler)).make n)

  exchanged : (a b d : ℕ) → max (2 + a) (max b d) ≡ max (max b (2 + a)) d
  exchanged a b d = omega arith

  handled : (line : ℕ) (test : Option trees.Expr) (name : Option Name) (e : trees.Expr) (b : Block) (hs : Handlers) → test ≡ Some e
      → tall_handlers level (handler_of line test name b hs) ≡ max (max (tall_block level b) (2 + tall (plain_expr e))) (tall_handlers level hs)
  handled line test None e b hs is = ap (λ t. tall_handlers level (handler_of line t None b hs)) is ∙ exchanged (tall (plain_expr e)) (tall_block level b) (tall_handlers level hs)
  handled line test (Some name) e b hs is = ap (λ t. tall_handlers level (handler_of line t (Some name) b hs)) is ∙ exchanged (tall (plain_expr e)) (tall_block level b) (tall_handlers level hs)

  pub tested : (x : Handler) (e : trees.Expr) → (out-Handler x).test ≡ Some e → (hs : List Handler) (n : ℕ)
      → (m : ℕ) × (handlers_in (x ∷ hs) n ≡ max (max (block_in (out-Handler x).body (n + 0)) (2 + tall (plain_expr e))) (handlers_in hs m))
  tested x e is hs n =
      let others = chain (map plain_handler hs) (part NoHandler) in
      let m = n + (0 + (block (map plain_stmt (out-Handler x).body)).defs) in (
        m,
        ap (λ (p : Clause). tall_handlers level (p.make n (others.make (n + p.defs)))) (handler_is x)
            ∙ handled (out-Handler x).line (out-Handler x).test (out-Handler x).name e ((block (map plain_stmt (out-Handler x).body)).make (n + 0)) (others.make m) is,
      )

  caught : (line : ℕ) (test : Option trees.Expr) (name : Option Name) (b : Block) (hs : Handlers) → test ≡ None → tall_handlers level (handler_of line test name b hs) ≡ max (tall_block level b) 1
  caught line test name b hs is = ap (λ t. tall_handlers level (handler_of line t name b hs)) is ∙ (let t = tall_block level b in omega arith)

  pub untested : (x : Handler) → (out-Handler x).test ≡ None → (hs : List Handler) (n : ℕ) → handlers_in (x ∷ hs) n ≡ max (block_in (out-Handler x).body (n + 0)) 1
  untested x is hs n =
      let others = chain (map plain_handler hs) (part NoHandler) in
      ap (λ (p : Clause). tall_handlers level (p.make n (others.make (n + p.defs)))) (handler_is x)
      ∙ caught (out-Handler x).line (out-Handler x).test (out-Handler x).name ((block (map plain_stmt (out-Handler x).body)).make (n + 0)) (others.make (n + (0 + (block (map plain_stmt (out-Handler x).body)).defs))) is

-- ---- entries

abbrev pub block_held : List stmts.Stmt → ℕ → ℕ
block_held ss n = held_in ((block (map plain_stmt ss)).make n)

pub held_row : IsRow block_held (λ x ss n. held ((plain_kind (out-Stmt x).kind).make (n + 0)))
held_row = record {
  more = λ x ss n.
      let rest = block (map plain_stmt ss) in
      (n + (0 + (plain_kind (out-Stmt x).kind).defs), ap (λ (p : Part (Block → Block)). held_in (p.make n (rest.make (n + p.defs)))) (stmt_is x));
}

abbrev pub branches_held : Part Branches → List Branch → ℕ → ℕ
branches_held rest bs n = held_by ((chain (map plain_branch bs) rest).make n)

pub branches_held_row : (rest : Part Branches) → IsRow (branches_held rest) (λ x bs n. block_held (out-Branch x).body (n + 0))
branches_held_row rest = record {
  more = λ x bs n.
      let others = chain (map plain_branch bs) rest in
      (n + (0 + (block (map plain_stmt (out-Branch x).body)).defs), ap (λ (p : Part (Branches → Branches)). held_by (p.make n (others.make (n + p.defs)))) (branch_is x));
}

abbrev pub handlers_held : List Handler → ℕ → ℕ
handlers_held hs n = held_of ((chain (map plain_handler hs) (part NoHandler)).make n)

held_tested : (line : ℕ) (test : Option trees.Expr) (name : Option Name) (e : trees.Expr) (b : Block) (hs : Handlers) → test ≡ Some e
    → held_of (handler_of line test name b hs) ≡ max (held_in b + named name) (held_of hs)
held_tested line test None e b hs is = ap (λ t. held_of (handler_of line t None b hs)) is ∙ (let h = held_in b in let z : h ≡ h + 0 = omega arith in ap (λ n. max n (held_of hs)) z)
held_tested line test (Some name) e b hs is = ap (λ t. held_of (handler_of line t (Some name) b hs)) is ∙ (let h = held_in b in let z : 1 + h ≡ h + 1 = omega arith in ap (λ n. max n (held_of hs)) z)

pub tested_held : (x : Handler) (e : trees.Expr) → (out-Handler x).test ≡ Some e → (hs : List Handler) (n : ℕ)
    → (m : ℕ) × (handlers_held (x ∷ hs) n ≡ max (block_held (out-Handler x).body (n + 0) + named (out-Handler x).name) (handlers_held hs m))
tested_held x e is hs n =
    let others = chain (map plain_handler hs) (part NoHandler) in
    let m = n + (0 + (block (map plain_stmt (out-Handler x).body)).defs) in (
      m,
      ap (λ (p : Clause). held_of (p.make n (others.make (n + p.defs)))) (handler_is x)
          ∙ held_tested (out-Handler x).line (out-Handler x).test (out-Handler x).name e ((block (map plain_stmt (out-Handler x).body)).make (n + 0)) (others.make m) is,
    )

held_caught : (line : ℕ) (test : Option trees.Expr) (name : Option Name) (b : Block) (hs : Handlers) → test ≡ None → held_of (handler_of line test name b hs) ≡ held_in b
held_caught line test name b hs is = ap (λ t. held_of (handler_of line t name b hs)) is

pub untested_held : (x : Handler) → (out-Handler x).test ≡ None → (hs : List Handler) (n : ℕ) → handlers_held (x ∷ hs) n ≡ block_held (out-Handler x).body (n + 0)
untested_held x is hs n =
    let others = chain (map plain_handler hs) (part NoHandler) in
    ap (λ (p : Clause). held_of (p.make n (others.make (n + p.defs)))) (handler_is x)
    ∙ held_caught (out-Handler x).line (out-Handler x).test (out-Handler x).name ((block (map plain_stmt (out-Handler x).body)).make (n + 0)) (others.make (n + (0 + (block (map plain_stmt (out-Handler x).body)).defs))) is

-- ---- at the end of the parameters

pub all_counted : {all : List Param} {slots h : ℕ} (ps : List Param) (i : ℕ) → (g : Given all (drop i ps) slots h) → length ps ≤ i → count (defaults_of all) ≡ g.below
all_counted ps i g l = let e = g.counted ∙ ap (λ z. g.below + count (defaults_of z)) (drop_all i ps l) in omega (arith, e)

pub all_given : {all : List Param} {slots h : ℕ} (ps : List Param) (i : ℕ) → Given all (drop i ps) slots h → length ps ≤ i → h ≡ saturated (tall_above 0 (defaults_of all))
all_given {all = all} {h = h} ps i g l = closed top (saturated (defaults_in 0 all)) h (defaults_in g.below []) (g.so_far ∙ ap (λ z. max h (saturated (defaults_in g.below z))) (drop_all i ps l)) refl

-- ---- entries of statements

pub named_few : (name : Option Name) → named name ≤ 1
named_few None = omega arith
named_few (Some name) = omega arith

held_last : (body rest last : List stmts.Stmt) (hs : List Handler) → (hs ≡ [] → ⊥) → (n : ℕ)
    → held ((plain_try body hs rest (Some last)).make n)
    ≡ 1 + max (max (1 + max (held_in ((block (map plain_stmt body)).make (n + 0))) (held_of ((chain (map plain_handler hs) (part NoHandler)).make (n + (0 + (block (map plain_stmt body)).defs)))))
    (held_in ((block (map plain_stmt rest)).make (n + (0 + (block (map plain_stmt body)).defs + (chain (map plain_handler hs) (part NoHandler)).defs)))))
    (held_in ((block (map plain_stmt last)).make (n + (0 + (block (map plain_stmt body)).defs + (chain (map plain_handler hs) (part NoHandler)).defs + (block (map plain_stmt rest)).defs))))
held_last body rest last [] h n = absurd (h refl)
held_last body rest last (x ∷ hs) h n = refl

-- a `finally`
pub held_try : (body rest last : List stmts.Stmt) (hs : List Handler) (bare : Bool) → (IsTrue bare ↔ (hs ≡ [])) → (tried clauses kept behind ended covered result : ℕ)
    → ((n : ℕ) → tried ≡ saturated (held_in ((block (map plain_stmt body)).make n)))
    → ((n : ℕ) → clauses ≡ saturated (held_of ((chain (map plain_handler hs) (part NoHandler)).make n)))
    → kept ≡ min (max tried clauses + 1) top
    → ((n : ℕ) → behind ≡ saturated (held_in ((block (map plain_stmt rest)).make n)))
    → ((n : ℕ) → ended ≡ saturated (held_in ((block (map plain_stmt last)).make n)))
    → (bare ≡ true → covered ≡ tried) → (bare ≡ false → covered ≡ max kept behind) → result ≡ min (max covered ended + 1) top
    → (n : ℕ) → result ≡ saturated (held ((plain_try body hs rest (Some last)).make n))
held_try body rest last hs true is tried clauses kept behind ended covered result t h a r e alone all w n =
    let none : hs ≡ [] = is.0 refl in
    w ∙ plus top 1 _ (max covered ended) (two top _ _ covered ended (alone refl ∙ t (n + 0)) (e (n + (0 + (block (map plain_stmt body)).defs)))) ∙ ap (λ z. saturated (held ((plain_try body z rest (Some last)).make n))) (sym none)
held_try body rest last hs false is tried clauses kept behind ended covered result t h a r e alone all w n =
    let m = n + (0 + (block (map plain_stmt body)).defs) in
    let k = n + (0 + (block (map plain_stmt body)).defs + (chain (map plain_handler hs) (part NoHandler)).defs) in
    let l = n + (0 + (block (map plain_stmt body)).defs + (chain (map plain_handler hs) (part NoHandler)).defs + (block (map plain_stmt rest)).defs) in
    let before = all refl ∙ two top _ _ kept behind (a ∙ plus top 1 _ (max tried clauses) (two top _ _ tried clauses (t (n + 0)) (h m))) (r k) in
    w ∙ plus top 1 _ (max covered ended) (two top _ _ covered ended before (e l)) ∙ ap saturated (sym (held_last body rest last hs (not_empty hs is.1) n))

held_from : (make : Targets → Stmt) (ts : List Target) → ((us : Targets) → held (make us) ≡ 0) → held (from_targets Pass make ts) ≡ 0
held_from make [] h = refl
held_from make (t ∷ ts) h = h (targets t ts)

held_augmented : (t : Target) (op : BinaryOp) (e : Expr) → held (augmented t op e) ≡ 0
held_augmented (ToName name) op e = refl
held_augmented (ToAttr x name) op e = refl
held_augmented (ToIndex x y) op e = refl
held_augmented (ToEach ts) op e = refl

held_option : (none : Stmt) (some : Expr → Stmt) (x : Option trees.Expr) → held none ≡ 0 → ((e : Expr) → held (some e) ≡ 0) → held (on_option none some x) ≡ 0
held_option none some None h k = h
held_option none some (Some x) h k = k (plain_expr x)

module _ (kind : StmtKind) where
  no_entry : (x : Layer) → roll-StmtKind x ≡ kind
      → ((n : ℕ) → held ((kind_step (map-StmtKind StmtKind Branch Handler stmts.Stmt (Part Stmt) (Part (Branches → Branches)) Clause (Part (Block → Block)) plain_kind plain_branch plain_handler plain_stmt x)).make n) ≡ 0)
      → (n : ℕ) → 0 ≡ saturated (held ((plain_kind kind).make n))
  no_entry x is h n = sym (ap (λ (p : Part Stmt). saturated (held (p.make n))) (layer kind x is) ∙ ap saturated (h n))

  held_by_layer : (x : Layer) → roll-StmtKind x ≡ kind
      → ((bs : List Branch) (rest : List stmts.Stmt) → kind ≡ s.If bs rest → ⊥) → ((test : trees.Expr) (body rest : List stmts.Stmt) → kind ≡ s.While test body rest → ⊥)
      → ((t : aims.Target) (over : trees.Expr) (body rest : List stmts.Stmt) → kind ≡ s.For t over body rest → ⊥)
      → ((body : List stmts.Stmt) (hs : List Handler) (rest : List stmts.Stmt) (last : Option (List stmts.Stmt)) → kind ≡ s.Try body hs rest last → ⊥)
      → (n : ℕ) → 0 ≡ saturated (held ((plain_kind kind).make n))
  held_by_layer (StmtKind-F.Expr e) is a b d f = no_entry (StmtKind-F.Expr e) is (λ n. refl)
  held_by_layer (StmtKind-F.Assign ts e) is a b d f = no_entry (StmtKind-F.Assign ts e) is (λ n. held_from (λ us. Assign us (plain_expr e)) (map plain_target ts) (λ us. refl))
  held_by_layer (StmtKind-F.Aug t op e) is a b d f = no_entry (StmtKind-F.Aug t op e) is (λ n. held_augmented (plain_target t) op (plain_expr e))
  held_by_layer (StmtKind-F.Del ts) is a b d f = no_entry (StmtKind-F.Del ts) is (λ n. held_from Delete (map plain_target ts) (λ us. refl))
  held_by_layer StmtKind-F.Pass is a b d f = no_entry StmtKind-F.Pass is (λ n. refl)
  held_by_layer StmtKind-F.Break is a b d f = no_entry StmtKind-F.Break is (λ n. refl)
  held_by_layer StmtKind-F.Continue is a b d f = no_entry StmtKind-F.Continue is (λ n. refl)
  held_by_layer (StmtKind-F.Return x) is a b d f = no_entry (StmtKind-F.Return x) is (λ n. held_option ReturnNone Return x refl (λ v. refl))
  held_by_layer (StmtKind-F.Raise x) is a b d f = no_entry (StmtKind-F.Raise x) is (λ n. held_option Reraise Raise x refl (λ v. refl))
  held_by_layer (StmtKind-F.Global names) is a b d f = no_entry (StmtKind-F.Global names) is (λ n. refl)
  held_by_layer (StmtKind-F.Import names) is a b d f = no_entry (StmtKind-F.Import names) is (λ n. refl)
  held_by_layer (StmtKind-F.From path names) is a b d f = no_entry (StmtKind-F.From path names) is (λ n. refl)
  held_by_layer (StmtKind-F.Assert test message) is a b d f = no_entry (StmtKind-F.Assert test message) is (λ n. held_option (Assert (plain_expr test)) (AssertWith (plain_expr test)) message refl (λ v. refl))
  held_by_layer (StmtKind-F.If bs rest) is a b d f = absurd (a bs rest (sym is ∙ s.rolls-If bs rest))
  held_by_layer (StmtKind-F.While test body rest) is a b d f = absurd (b test body rest (sym is ∙ s.rolls-While test body rest))
  held_by_layer (StmtKind-F.For t over body rest) is a b d f = absurd (d t over body rest (sym is ∙ s.rolls-For t over body rest))
  held_by_layer (StmtKind-F.Try body hs rest last) is a b d f = absurd (f body hs rest last (sym is ∙ s.rolls-Try body hs rest last))
  held_by_layer (StmtKind-F.Def name params body) is a b d f = no_entry (StmtKind-F.Def name params body) is (λ n. refl)

  -- statements that hold no entry
  pub held_others : ((bs : List Branch) (rest : List stmts.Stmt) → kind ≡ s.If bs rest → ⊥) → ((test : trees.Expr) (body rest : List stmts.Stmt) → kind ≡ s.While test body rest → ⊥)
      → ((t : aims.Target) (over : trees.Expr) (body rest : List stmts.Stmt) → kind ≡ s.For t over body rest → ⊥)
      → ((body : List stmts.Stmt) (hs : List Handler) (rest : List stmts.Stmt) (last : Option (List stmts.Stmt)) → kind ≡ s.Try body hs rest last → ⊥)
      → (n : ℕ) → 0 ≡ saturated (held ((plain_kind kind).make n))
  held_others a b d f = held_by_layer (out-StmtKind kind) (roll-out-StmtKind kind) a b d f
