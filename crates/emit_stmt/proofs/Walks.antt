-- One more statement, branch or clause of a list, and the last of them.
use Rattle.std.proofs.Common.{◌≡◌, ℕ, ◌+◌, ◌≤◌, Bool, true, List, [], ◌∷◌, length, drop, Option, Some, None, refl, sym, ap, ◌∙◌, subst, arith, length-drop}
use Rattle.std.specs.Prelude.{◌↔◌, IsTrue, slice_get, Result, Ok, Err, IfOk}
use Rattle.std.proofs.lemmas.List.{drop_all}
use Rattle.emit_expr.specs.bc_machine.bc_ops.declared.instr.Op.TheVariants as ops
use Rattle.emit_expr.specs.bc_machine.bc_ops.declared.instr.Instr.TheVariants as instrs
use Rattle.py_tree.specs.declared.expr.Expr as trees
use Rattle.py_tree.specs.declared.stmt.Branch.{Branch, out-Branch}
use Rattle.py_tree.specs.declared.stmt.Handler.{Handler, out-Handler}
use Rattle.py_tree.specs.declared.stmt.Param.{Param}
use Rattle.py_tree.specs.declared.stmt.Stmt as stmts
use Rattle.py_tree.specs.declared.stmt.Stmt.{out-Stmt}
use Rattle.py_tree.specs.declared.stmt.StmtKind.{StmtKind}
use Rattle.emit_expr.specs.py_meaning.Tree.{Name, Exprs, count, Stmt, Block, Next, Branches, Else, Case, Handlers}
use Rattle.emit_expr.specs.py_meaning.Plain.{Part, Clause, part, also, plain_expr, numbered, defaults_of, handler_of}
use Rattle.emit_expr.specs.bc_scheme.Context.{Context, IsChild}
use Rattle.emit_expr.specs.bc_scheme.Statements.{StandsS}
use Rattle.emit_expr.specs.emit_draft.declared.draft.Draft.{Draft}
use Rattle.emit_expr.specs.emit_draft.declared.draft.DraftItem.TheVariants as drafts
use Rattle.emit_expr.specs.emit_draft.declared.scope.Scope.{Scope}
use Rattle.emit_expr.specs.emit_draft.Draft.{Puts}
use Rattle.emit_expr.proofs.emit_draft_lemmas.Emits.{as_emits, size_emits}
use Rattle.emit_stmt.specs.declared.jumps.Loop.{Loop}
use Rattle.emit_stmt.specs.Plain.{plain_kind, is_simple}
use Rattle.emit_stmt.specs.SimpleEmits.{around_of, EmitsS, EmitsDef}
use Rattle.emit_stmt.specs.Parts.{plain_block, plain_branches, plain_handlers}
use Rattle.emit_stmt.specs.Children.{made_in, AreChildren, child}
use Rattle.emit_stmt.specs.Steps.{PutsBehind, EmitsGone}
use Rattle.emit_stmt.specs.Emits.{EmitsB, EmitsP, EmitsCase, EmitsH, EmitsClause, EmitsMatched}
use Rattle.emit_stmt.proofs.Layers.{stmt_is, branch_is, handler_is, over_is, simple_plain}
use Rattle.emit_stmt.proofs.Rows.{BuildsB, block_more, block_ended, BuildsI, branches_more, BuildsH, handlers_more, handlers_ended, any_ended}

-- ---- the same by another name

pub on_if_ok : {T E : Type 0} {P Q : T → Type 0} (r : Result T E) → IfOk r P → ((x : T) → P x → Q x) → IfOk r Q
on_if_ok (Ok x) h f = f x h
on_if_ok (Err e) h f = h

pub as_part : {a b : Draft} {s : Scope} {around : Loop} {line from after : ℕ} {x y : Part Stmt} → EmitsP a b s around line from after x → y ≡ x → EmitsP a b s around line from after y
as_part {a = a} {b = b} {s = s} {around = around} {line = line} {from = from} {after = after} g e = subst (EmitsP a b s around line from after) (sym e) g

pub as_block : {a b : Draft} {s : Scope} {around : Loop} {from after : ℕ} (x y : List stmts.Stmt) → EmitsB a b s around from after (plain_block x) → x ≡ y → EmitsB a b s around from after (plain_block y)
as_block {a = a} {b = b} {s = s} {around = around} {from = from} {after = after} x y g e = subst (λ z. EmitsB a b s around from after (plain_block z)) e g

pub as_clause : {a b : Draft} {s : Scope} {around : Loop} {end from after line : ℕ} {test : trees.Expr} {name : Option Name} (x y : List stmts.Stmt) → EmitsClause a b s around end from after line test name (plain_block x) → x ≡ y
    → EmitsClause a b s around end from after line test name (plain_block y)
as_clause {a = a} {b = b} {s = s} {around = around} {end = end} {from = from} {after = after} {line = line} {test = test} {name = name} x y g e =
    subst (λ z. EmitsClause a b s around end from after line test name (plain_block z)) e g

pub as_matched : {a b : Draft} {s : Scope} {around : Loop} {line from after : ℕ} {x y : Option Name} {body : Part Block} → EmitsMatched a b s around line from after x body → y ≡ x
    → EmitsMatched a b s around line from after y body
as_matched {a = a} {b = b} {s = s} {around = around} {line = line} {from = from} {after = after} {body = body} g e = subst (λ z. EmitsMatched a b s around line from after z body) (sym e) g

pub as_gone : {a b : Draft} {s : Scope} {x y : Name} → EmitsGone a b s x → y ≡ x → EmitsGone a b s y
as_gone {a = a} {b = b} {s = s} g e = subst (EmitsGone a b s) (sym e) g

pub none_of : {X : Type 0} (o : Option X) → ((x : X) → o ≡ Some x → ⊥) → o ≡ None
none_of None h = refl
none_of (Some x) h = absurd (h x refl)

pub same_defs : {X : Type 0} {x y : Part X} → x ≡ y → x.defs ≡ y.defs
same_defs {X = X} e = ap (λ (p : Part X). p.defs) e

-- ---- statements

block_split : (xs : List stmts.Stmt) (x : stmts.Stmt) (ys : List stmts.Stmt) → xs ≡ x ∷ ys → plain_block xs ≡ also (also (part (Next (out-Stmt x).line)) (plain_kind (out-Stmt x).kind)) (plain_block ys)
block_split xs x ys e = ap plain_block e ∙ ap (λ (p : Part (Block → Block)). also p (plain_block ys)) (stmt_is x)

pub block_room : {a b : Draft} {s : Scope} {around : Loop} {from at : ℕ} {all : Part Block} (xs : List stmts.Stmt) (i : ℕ) (x : stmts.Stmt) → BuildsB a b s around from at (plain_block (drop i xs)) all
    → drop i xs ≡ x ∷ drop (i + 1) xs → at + (plain_kind (out-Stmt x).kind).defs ≤ from + all.defs
block_room xs i x g e = omega (arith, g.few, ap (λ (p : Part Block). p.defs) (block_split (drop i xs) x (drop (i + 1) xs) e))

pub block_step : {a b d : Draft} {s : Scope} {around : Loop} {from at after : ℕ} {all : Part Block} (xs : List stmts.Stmt) (i : ℕ) (x : stmts.Stmt)
    → BuildsB a b s around from at (plain_block (drop i xs)) all → EmitsP b d s around (out-Stmt x).line at after (plain_kind (out-Stmt x).kind) → drop i xs ≡ x ∷ drop (i + 1) xs
    → BuildsB a d s around from after (plain_block (drop (i + 1) xs)) all
block_step {a = a} {b = b} {s = s} {around = around} {from = from} {at = at} {all = all} xs i x g ep e =
    block_more (subst (λ (z : Part Block). BuildsB a b s around from at z all) (block_split (drop i xs) x (drop (i + 1) xs) e) g) ep

pub block_done : {a b : Draft} {s : Scope} {around : Loop} {from at : ℕ} {all : Part Block} (xs : List stmts.Stmt) (i : ℕ) → BuildsB a b s around from at (plain_block (drop i xs)) all → length xs ≤ i
    → EmitsB a b s around from at all
block_done {a = a} {b = b} {s = s} {around = around} {from = from} {at = at} {all = all} xs i g h =
    block_ended (subst (λ z. BuildsB a b s around from at (plain_block z) all) (drop_all i xs h) g)

-- ---- branches

branches_split : (rest : List stmts.Stmt) (xs : List Branch) (x : Branch) (ys : List Branch) → xs ≡ x ∷ ys
    → plain_branches xs rest ≡ also (also (part (Case (out-Branch x).line (plain_expr (out-Branch x).test))) (plain_block (out-Branch x).body)) (plain_branches ys rest)
branches_split rest xs x ys e = ap (λ z. plain_branches z rest) e ∙ ap (λ (p : Part (Branches → Branches)). also p (plain_branches ys rest)) (branch_is x)

pub branches_room : {a b : Draft} {s : Scope} {around : Loop} {end from at : ℕ} {all : Part Branches} (rest : List stmts.Stmt) (xs : List Branch) (i : ℕ) (x : Branch)
    → BuildsI a b s around end from at (plain_branches (drop i xs) rest) all → drop i xs ≡ x ∷ drop (i + 1) xs → at + (plain_block (out-Branch x).body).defs ≤ from + all.defs
branches_room rest xs i x g e = omega (arith, g.few, ap (λ (p : Part Branches). p.defs) (branches_split rest (drop i xs) x (drop (i + 1) xs) e))

left_is : (over : Bool) (xs : List Branch) (rest : List stmts.Stmt) (i k r : ℕ) → k + 1 + i ≡ length xs → r ≡ length rest → (IsTrue over ↔ ((k ≡ 0) × (r ≡ 0)))
    → IsTrue over ↔ ((length (drop (i + 1) xs) ≡ 0) × (length rest ≡ 0))
left_is over xs rest i k r k_is r_is is =
    let len : length (drop (i + 1) xs) ≡ k = omega (arith, length-drop (i + 1) xs) in
    (λ e. (omega (arith, (is.0 e).0), omega (arith, (is.0 e).1)), λ e. is.1 (omega (arith, e.0), omega (arith, e.1)))

pub branches_step : {a b d : Draft} {s : Scope} {around : Loop} {end from at after : ℕ} {all : Part Branches} (over : Bool) (rest : List stmts.Stmt) (xs : List Branch) (i k r : ℕ) (x : Branch)
    → BuildsI a b s around end from at (plain_branches (drop i xs) rest) all
    → EmitsCase b d s around end at after over (out-Branch x).line (plain_expr (out-Branch x).test) (plain_block (out-Branch x).body) → drop i xs ≡ x ∷ drop (i + 1) xs
    → k + 1 + i ≡ length xs → r ≡ length rest → (IsTrue over ↔ ((k ≡ 0) × (r ≡ 0)))
    → BuildsI a d s around end from after (plain_branches (drop (i + 1) xs) rest) all
branches_step {a = a} {b = b} {s = s} {around = around} {end = end} {from = from} {at = at} {all = all} over rest xs i k r x g ec e k_is r_is is =
    branches_more (over_is (drop (i + 1) xs) rest over (left_is over xs rest i k r k_is r_is is))
    (subst (λ (z : Part Branches). BuildsI a b s around end from at z all) (branches_split rest (drop i xs) x (drop (i + 1) xs) e) g) ec

pub branches_all : {a b : Draft} {s : Scope} {around : Loop} {end from at : ℕ} {all : Part Branches} (rest : List stmts.Stmt) (xs : List Branch) (i : ℕ)
    → BuildsI a b s around end from at (plain_branches (drop i xs) rest) all → length xs ≤ i → BuildsI a b s around end from at (also (part Else) (plain_block rest)) all
branches_all {a = a} {b = b} {s = s} {around = around} {end = end} {from = from} {at = at} {all = all} rest xs i g h =
    subst (λ z. BuildsI a b s around end from at (plain_branches z rest) all) (drop_all i xs h) g

-- ---- clauses

handlers_split : (xs : List Handler) (x : Handler) (ys : List Handler) → xs ≡ x ∷ ys
    → plain_handlers xs ≡ also (also (part (handler_of (out-Handler x).line (out-Handler x).test (out-Handler x).name)) (plain_block (out-Handler x).body)) (plain_handlers ys)
handlers_split xs x ys e = ap plain_handlers e ∙ ap (λ (p : Clause). also p (plain_handlers ys)) (handler_is x)

pub handlers_room : {a b : Draft} {s : Scope} {around : Loop} {end from at : ℕ} {all : Part Handlers} (xs : List Handler) (i : ℕ) (x : Handler)
    → BuildsH a b s around end from at (plain_handlers (drop i xs)) all → drop i xs ≡ x ∷ drop (i + 1) xs → at + (plain_block (out-Handler x).body).defs ≤ from + all.defs
handlers_room xs i x g e = omega (arith, g.few, ap (λ (p : Part Handlers). p.defs) (handlers_split (drop i xs) x (drop (i + 1) xs) e))

tested : (line : ℕ) (test o : Option trees.Expr) (name : Option Name) (body : Part Block) (ys : Part Handlers) → test ≡ o
    → also (also (part (handler_of line test name)) body) ys ≡ also (also (part (handler_of line o name)) body) ys
tested line test o name body ys e = ap (λ z. also (also (part (handler_of line z name)) body) ys) e

pub handlers_step : {a b d : Draft} {s : Scope} {around : Loop} {end from at after : ℕ} {all : Part Handlers} (xs : List Handler) (i : ℕ) (x : Handler) (test : trees.Expr)
    → BuildsH a b s around end from at (plain_handlers (drop i xs)) all
    → EmitsClause b d s around end at after (out-Handler x).line test (out-Handler x).name (plain_block (out-Handler x).body) → drop i xs ≡ x ∷ drop (i + 1) xs → (out-Handler x).test ≡ Some test
    → BuildsH a d s around end from after (plain_handlers (drop (i + 1) xs)) all
handlers_step {a = a} {b = b} {s = s} {around = around} {end = end} {from = from} {at = at} {all = all} xs i x test g ec e is =
    handlers_more (out-Handler x).line test (out-Handler x).name
    (subst (λ (z : Part Handlers). BuildsH a b s around end from at z all)
    (handlers_split (drop i xs) x (drop (i + 1) xs) e ∙ tested _ _ (Some test) _ (plain_block (out-Handler x).body) (plain_handlers (drop (i + 1) xs)) is) g) ec

pub handlers_done : {a b : Draft} {s : Scope} {around : Loop} {end from at : ℕ} {all : Part Handlers} (xs : List Handler) (i : ℕ)
    → BuildsH a b s around end from at (plain_handlers (drop i xs)) all → length xs ≤ i → EmitsH a b s around end from at all
handlers_done {a = a} {b = b} {s = s} {around = around} {end = end} {from = from} {at = at} {all = all} xs i g h =
    handlers_ended (subst (λ z. BuildsH a b s around end from at (plain_handlers z) all) (drop_all i xs h) g)

pub handlers_any : {a b d f g : Draft} {s : Scope} {around : Loop} {end from at after : ℕ} {all : Part Handlers} (xs : List Handler) (i : ℕ) (x : Handler)
    → BuildsH a b s around end from at (plain_handlers (drop i xs)) all → drop i xs ≡ x ∷ drop (i + 1) xs → (out-Handler x).test ≡ None
    → Puts b d (out-Handler x).line (drafts.Plain (instrs.Plain ops.PopTop)) → EmitsB d f s around at after (plain_block (out-Handler x).body) → PutsBehind f g (drafts.Jump ops.PopExceptJump end)
    → EmitsH a g s around end from after all
handlers_any {a = a} {b = b} {s = s} {around = around} {end = end} {from = from} {at = at} {all = all} xs i x g e is p eb pb =
    any_ended (out-Handler x).name (plain_handlers (drop (i + 1) xs))
    (subst (λ (z : Part Handlers). BuildsH a b s around end from at z all)
    (handlers_split (drop i xs) x (drop (i + 1) xs) e ∙ tested _ _ None _ (plain_block (out-Handler x).body) (plain_handlers (drop (i + 1) xs)) is) g) p eb pb

-- ---- statements without a body, and functions

pub simple_emits : {a b : Draft} {s : Scope} {around : Loop} {line : ℕ} (from : ℕ) (kind : StmtKind) → is_simple kind ≡ true → ((n : ℕ) → EmitsS a b s around line ((plain_kind kind).make n))
    → EmitsP a b s around line from from (plain_kind kind)
simple_emits {a = a} {around = around} {line = line} from kind is es = record {
  few = omega arith;
  is = λ n. omega (arith, ap length (simple_plain kind n is).none);
  by = λ n. size_emits (sym ((simple_plain kind n is).same a.level around.entries))
      (as_emits (λ c labels p q. AreChildren c from (made_in ((plain_kind kind).make n)) → StandsS c (around_of labels around) line p ((plain_kind kind).make n) q) (λ c labels p q k kids. k) (es n).by);
}

def_row : {c : Context} {i n : ℕ} {name : Name} {X : Type 0} (ds : Exprs) → AreChildren c i (record { number = n; name = name; given = count ds } ∷ [])
    → (slice_get c.children i ≡ Some (c.base + n) → IsChild c (c.base + n) name (count ds) → X) → X
def_row ds (child at is others) k = k at is

pub def_emits : {a b : Draft} {s : Scope} {around : Loop} {line : ℕ} (from : ℕ) (name : Name) (params : List Param) (body : Part Block) → ((n : ℕ) → EmitsDef a b s line from n name (defaults_of params))
    → EmitsP a b s around line from (from + 1) (numbered name params body)
def_emits {around = around} {line = line} from name params body ed = record {
  few = omega arith;
  is = λ n. refl;
  by = λ n. as_emits (λ c labels p q. AreChildren c from (made_in ((numbered name params body).make n)) → StandsS c (around_of labels around) line p ((numbered name params body).make n) q)
      (λ c labels p q k kids. def_row (defaults_of params) kids (λ at is. k at is (around_of labels around) _ _)) (ed n).by;
}
