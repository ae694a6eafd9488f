-- Statements, by those of their parts.
use Rattle.std.proofs.Common.{◌≡◌, ◌⊎◌, inl, inr, ℕ, zero, suc, ◌+◌, ◌≤◌, ◌<◌, Bool, true, false, ◌&&◌, List, [], ◌∷◌, length, map, Option, Some, None, refl, sym, ap, ◌∙◌, arith}
use Rattle.std.specs.Prelude.{nat_eq, IsTrue, ◌↔◌, ◌||◌, is_some}
use Rattle.std.specs.List.{list_any}
use Rattle.std.proofs.lemmas.Bool.Decides.{eqb_tells}
use Rattle.py_tree.specs.declared.expr.Expr as trees
use Rattle.py_tree.specs.declared.stmt.Branch.{Branch, out-Branch}
use Rattle.py_tree.specs.declared.stmt.Handler.{Handler, out-Handler}
use Rattle.py_tree.specs.declared.stmt.Param.{Param}
use Rattle.py_tree.specs.declared.stmt.Stmt as stmts
use Rattle.py_tree.specs.declared.stmt.Stmt.{out-Stmt}
use Rattle.py_tree.specs.declared.stmt.StmtKind.{StmtKind}
use Rattle.py_tree.specs.declared.stmt.StmtKind.TheVariants as s
use Rattle.bc_scheme.specs.py_meaning.Tree.{Name, Expr, NoExpr, More, Stmt, ReturnNone, Return, Reraise, Raise, Assert, AssertWith, Else, Block, Branches, Handlers, NoHandler}
use Rattle.bc_scheme.specs.py_meaning.Plain.{plain_expr, on_option, Part, part, also, chain, block, defaults_of, Clause, handler_of, plain_stmt}
use Rattle.bc_scheme.specs.Statements.{is_over}
use Rattle.emit_measures.specs.Limits.{saturated, plain_kind, plain_branch, plain_handler, plain_try}
use Rattle.emit_measures.proofs.LayerHeights.{plain_Pass, plain_Global, stmt_is, branch_is, handler_is}
use Rattle.emit_measures.specs.Lengths.{exit_length, behind_length, name_length, expr_length, exprs_length, defaults_length, stmt_length, block_length, branches_length, handlers_length}
use Rattle.emit_measures.specs.Rows.{behind_wide, clause_wide}
use Rattle.emit_measures.proofs.Sums.{IsSum}

-- ---- numbers that are told as they are

pub no_more : (a b : ℕ) → saturated (a + b + 0) ≡ saturated (a + b)
no_more a b = let e : a + b + 0 ≡ a + b = omega arith in ap saturated e

pub clause_last : (a b : ℕ) → saturated (a + b + 4) ≡ saturated (a + (b + 4))
clause_last a b = let e : a + b + 4 ≡ a + (b + 4) = omega arith in ap saturated e

pub loop_last : (a b d e : ℕ) → saturated (a + b + 7 + d + e + 0) ≡ saturated (a + b + d + e + 7)
loop_last a b d e = let s : a + b + 7 + d + e + 0 ≡ a + b + d + e + 7 = omega arith in ap saturated s

exit_told : (held iterator : Bool) → exit_length held iterator ≡ saturated (exit_length held iterator)
exit_told true iterator = refl
exit_told false true = refl
exit_told false false = refl

pub unsaturated : (held iterator : Bool) (n : ℕ) → n ≡ exit_length held iterator → n ≡ saturated (exit_length held iterator)
unsaturated held iterator n e = e ∙ exit_told held iterator

module _ (locals : List Name) (level : ℕ) where
  -- ---- small statements

  pub passed : (held iterator : Bool) (kind : StmtKind) → (kind ≡ s.Pass) ⊎ ((names : List Name) × (kind ≡ s.Global names)) → (n : ℕ) → 0 ≡ saturated (stmt_length locals level held iterator ((plain_kind kind).make n))
  passed held iterator kind (inl is) n = sym (ap (λ (p : Part Stmt). saturated (stmt_length locals level held iterator (p.make n))) (ap plain_kind is ∙ plain_Pass))
  passed held iterator kind (inr is) n = sym (ap (λ (p : Part Stmt). saturated (stmt_length locals level held iterator (p.make n))) (ap plain_kind is.1 ∙ plain_Global is.0))

  pub returned : (held iterator : Bool) (value : Option trees.Expr) → stmt_length locals level held iterator (on_option ReturnNone Return value) ≡ on_option 2 (λ e. expr_length locals e + 1) value
  returned held iterator None = refl
  returned held iterator (Some e) = refl

  pub raised : (held iterator : Bool) (value : Option trees.Expr) → stmt_length locals level held iterator (on_option Reraise Raise value) ≡ on_option 1 (λ e. expr_length locals e + 1) value
  raised held iterator None = refl
  raised held iterator (Some e) = refl

  -- ---- rows

  module _ (held iterator : Bool) where
    abbrev pub block_in : List stmts.Stmt → ℕ → ℕ
    block_in ss n = block_length locals level held iterator ((block (map plain_stmt ss)).make n)

    pub block_sum : IsSum block_in (λ x ss n. stmt_length locals level held iterator ((plain_kind (out-Stmt x).kind).make (n + 0)))
    block_sum = record {
      more = λ x ss n.
          let rest = block (map plain_stmt ss) in
          (n + (0 + (plain_kind (out-Stmt x).kind).defs), ap (λ (p : Part (Block → Block)). block_length locals level held iterator (p.make n (rest.make (n + p.defs)))) (stmt_is x));
    }

    abbrev pub branches_in : Part Branches → List Branch → ℕ → ℕ
    branches_in rest bs n = branches_length locals level held iterator ((chain (map plain_branch bs) rest).make n)

    -- how many branches are left, and whether the `else` is bare, tell whether one is over
    no_zero : (n : ℕ) → nat_eq (suc n) 0 ≡ false
    no_zero n = elim (eqb_tells (suc n) 0) [ inl p ↦ (let e = p.1 in absurd (omega (arith, e))) | inr q ↦ q.0 ]

    over_is : (rest : Part Branches) (bare : Bool) → ((m : ℕ) → is_over (rest.make m) ≡ bare) → (bs : List Branch) (m : ℕ) → is_over ((chain (map plain_branch bs) rest).make m) ≡ (nat_eq (length bs) 0 && bare)
    over_is rest bare h [] m = h m
    over_is rest bare h (b ∷ bs) m =
        let others = chain (map plain_branch bs) rest in
        ap (λ (p : Part (Branches → Branches)). is_over (p.make m (others.make (m + p.defs)))) (branch_is b) ∙ sym (ap (λ z. z && bare) (no_zero (length bs)))

    grouped : (a b j d over : ℕ) → j ≡ over → a + b + j + 3 + d ≡ a + b + 3 + over + d
    grouped a b j d over e = omega arith

    pub branches_sum : (rest : Part Branches) (bare : Bool) → ((m : ℕ) → is_over (rest.make m) ≡ bare)
        → IsSum (branches_in rest) (λ x bs n. expr_length locals (plain_expr (out-Branch x).test) + block_in (out-Branch x).body (n + 0) + 3 + behind_wide (length bs) bare)
    branches_sum rest bare h = record {
      more = λ x bs n.
          let others = chain (map plain_branch bs) rest in
          let m = n + (0 + (block (map plain_stmt (out-Branch x).body)).defs) in (
            m,
            ap (λ (p : Part (Branches → Branches)). branches_length locals level held iterator (p.make n (others.make (n + p.defs)))) (branch_is x)
                ∙ grouped (expr_length locals (plain_expr (out-Branch x).test)) (block_in (out-Branch x).body (n + 0)) (behind_length (is_over (others.make m))) (branches_in rest bs m) (behind_wide (length bs) bare)
                (ap behind_length (over_is rest bare h bs m)),
          );
    }

  -- an `else` is bare where it has no statement
  pub bare_is : (rest : List stmts.Stmt) (bare : Bool) → (IsTrue bare ↔ (rest ≡ [])) → (m : ℕ) → is_over ((also (part Else) (block (map plain_stmt rest))).make m) ≡ bare
  bare_is [] bare is m = sym (is.1 refl)
  bare_is (x ∷ rest) true is m = let none : x ∷ rest ≡ [] = is.0 refl in cc
  bare_is (x ∷ rest) false is m =
      let others = block (map plain_stmt rest) in
      ap (λ (p : Part (Block → Block)). is_over (Else (p.make (m + 0) (others.make (m + 0 + p.defs))))) (stmt_is x)

  -- ---- clauses

  module _ (iterator : Bool) where
    abbrev pub handlers_in : List Handler → ℕ → ℕ
    handlers_in hs n = handlers_length locals level true iterator ((chain (map plain_handler hs) (part NoHandler)).make n)

    handled : (line : ℕ) (test : Option trees.Expr) (name : Option Name) (e : trees.Expr) (b : Block) (hs : Handlers) → test ≡ Some e
        → handlers_length locals level true iterator (handler_of line test name b hs) ≡ expr_length locals (plain_expr e) + block_length locals level true iterator b + clause_wide locals name + handlers_length locals level true iterator hs
    handled line test None e b hs is = ap (λ t. handlers_length locals level true iterator (handler_of line t None b hs)) is
    handled line test (Some name) e b hs is =
        ap (λ t. handlers_length locals level true iterator (handler_of line t (Some name) b hs)) is
        ∙ (let n = name_length locals name in let x = expr_length locals (plain_expr e) in let y = block_length locals level true iterator b in let z = handlers_length locals level true iterator hs in omega arith)

    pub tested : (x : Handler) (e : trees.Expr) → (out-Handler x).test ≡ Some e → (hs : List Handler) (n : ℕ)
        → (m : ℕ) × (handlers_in (x ∷ hs) n ≡ expr_length locals (plain_expr e) + block_in true iterator (out-Handler x).body (n + 0) + clause_wide locals (out-Handler x).name + handlers_in hs m)
    tested x e is hs n =
        let others = chain (map plain_handler hs) (part NoHandler) in
        let m = n + (0 + (block (map plain_stmt (out-Handler x).body)).defs) in (
          m,
          ap (λ (p : Clause). handlers_length locals level true iterator (p.make n (others.make (n + p.defs)))) (handler_is x)
              ∙ handled (out-Handler x).line (out-Handler x).test (out-Handler x).name e ((block (map plain_stmt (out-Handler x).body)).make (n + 0)) (others.make m) is,
        )

    pub untested : (x : Handler) → (out-Handler x).test ≡ None → (hs : List Handler) (n : ℕ) → handlers_in (x ∷ hs) n ≡ block_in true iterator (out-Handler x).body (n + 0) + 4
    untested x is hs n =
        let others = chain (map plain_handler hs) (part NoHandler) in
        ap (λ (p : Clause). handlers_length locals level true iterator (p.make n (others.make (n + p.defs)))) (handler_is x)
        ∙ ap (λ t. handlers_length locals level true iterator (handler_of (out-Handler x).line t (out-Handler x).name ((block (map plain_stmt (out-Handler x).body)).make (n + 0)) (others.make (n + (0 + (block (map plain_stmt (out-Handler x).body)).defs))))) is

    -- ---- `finally`

    pub finally_alone : (held : Bool) (body rest last : List stmts.Stmt) (hs : List Handler) → hs ≡ [] → (n : ℕ)
        → stmt_length locals level held iterator ((plain_try body hs rest (Some last)).make n) ≡ block_in true iterator body (n + 0) + block_in true iterator last (n + (0 + (block (map plain_stmt body)).defs)) + 5
    finally_alone held body rest last [] e n = refl
    finally_alone held body rest last (x ∷ hs) e n = cc

    sum : (a b c d : ℕ) → a + b + c + d + 12 ≡ (a + b + c + 7) + d + 5
    sum a b c d = omega arith

    pub finally_caught : (held : Bool) (body rest last : List stmts.Stmt) (hs : List Handler) → (hs ≡ [] → ⊥) → (n : ℕ)
        → (m : ℕ) × (stmt_length locals level held iterator ((plain_try body hs rest (Some last)).make n) ≡ stmt_length locals level true iterator ((plain_try body hs rest None).make n) + block_in true iterator last m + 5)
    finally_caught held body rest last [] e n = absurd (e refl)
    finally_caught held body rest last (x ∷ hs) e n =
        let m = n + (0 + (block (map plain_stmt body)).defs + (chain (map plain_handler (x ∷ hs)) (part NoHandler)).defs + (block (map plain_stmt rest)).defs) in
        (m, sum (block_in true iterator body (n + 0)) (handlers_in (x ∷ hs) (n + (0 + (block (map plain_stmt body)).defs))) (block_in true iterator rest (n + (0 + (block (map plain_stmt body)).defs + (chain (map plain_handler (x ∷ hs)) (part NoHandler)).defs))) (block_in true iterator last m))

module _ (locals : List Name) (level : ℕ) (iterator : Bool) where
  not_empty : (hs : List Handler) → (hs ≡ [] → false ≡ true) → hs ≡ [] → ⊥
  not_empty hs h e = let clash : false ≡ true = h e in cc

  pub try_last : (held : Bool) (body rest last : List stmts.Stmt) (hs : List Handler) (bare : Bool) → (IsTrue bare ↔ (hs ≡ [])) → (tried whole ended covered : ℕ)
      → ((n : ℕ) → tried ≡ saturated (block_in locals level true iterator body n))
      → ((n : ℕ) → whole ≡ saturated (stmt_length locals level true iterator ((plain_try body hs rest None).make n)))
      → ((n : ℕ) → ended ≡ saturated (block_in locals level true iterator last n))
      → (bare ≡ true → covered ≡ tried) → (bare ≡ false → covered ≡ whole)
      → (r : ℕ) → ((a b : ℕ) → covered ≡ saturated a → ended ≡ saturated b → r ≡ saturated (a + b + 5))
      → (n : ℕ) → r ≡ saturated (stmt_length locals level held iterator ((plain_try body hs rest (Some last)).make n))
  try_last held body rest last hs true is tried whole ended covered t w e alone all r sum n =
      sum _ _ (alone refl ∙ t (n + 0)) (e (n + (0 + (block (map plain_stmt body)).defs))) ∙ ap saturated (sym (finally_alone locals level iterator held body rest last hs (is.0 refl) n))
  try_last held body rest last hs false is tried whole ended covered t w e alone all r sum n =
      let it = finally_caught locals level iterator held body rest last hs (not_empty hs is.1) n in
      sum _ _ (all refl ∙ w n) (e it.0) ∙ ap saturated (sym it.1)

-- ---- assertions

module _ (locals : List Name) (held iterator : Bool) where
  pub no_code : (level : ℕ) (test : Expr) (message : Option trees.Expr) → 0 < level → stmt_length locals level held iterator (on_option (Assert test) (AssertWith test) message) ≡ 0
  no_code zero test message h = absurd (omega (arith, h))
  no_code (suc level) test None h = refl
  no_code (suc level) test (Some e) h = refl

  pub all_code : (level : ℕ) (test : Expr) → level ≤ 0 → stmt_length locals level held iterator (Assert test) ≡ expr_length locals test + 8
  all_code zero test h = refl
  all_code (suc level) test h = absurd (omega (arith, h))

  pub with_code : (level : ℕ) (test message : Expr) → level ≤ 0 → stmt_length locals level held iterator (AssertWith test message) ≡ expr_length locals test + expr_length locals message + 12
  with_code zero test message h = refl
  with_code (suc level) test message h = absurd (omega (arith, h))

-- ---- defaults

module _ (locals : List Name) where
  abbrev pub defaults_in : List Param → ℕ → ℕ
  defaults_in ps n = exprs_length locals (defaults_of ps)

  more_by : (ps : List Param) (d : Option trees.Expr) → exprs_length locals (on_option (defaults_of ps) (λ e. More e (defaults_of ps)) d) ≡ on_option 0 (expr_length locals) d + exprs_length locals (defaults_of ps)
  more_by ps None = let n = exprs_length locals (defaults_of ps) in omega arith
  more_by ps (Some e) = refl

  pub defaults_sum : IsSum defaults_in (λ p ps n. on_option 0 (expr_length locals) p.default)
  defaults_sum = record { more = λ p ps n. (n, more_by ps p.default) }

  abbrev any_default : List Param → Bool
  any_default ps = list_any (λ (p : Param). is_some p.default) ps

  none_by : (ps : List Param) (d : Option trees.Expr) → (is_some d || any_default ps) ≡ false → defaults_of ps ≡ NoExpr → on_option (defaults_of ps) (λ e. More e (defaults_of ps)) d ≡ NoExpr
  none_by ps None e h = h
  none_by ps (Some x) e h = cc

  none_right : (a b : Bool) → (a || b) ≡ false → b ≡ false
  none_right true b e = cc
  none_right false b e = e

  pub no_default : (ps : List Param) → any_default ps ≡ false → defaults_of ps ≡ NoExpr
  no_default [] e = refl
  no_default (p ∷ ps) e = none_by ps p.default e (no_default ps (none_right (is_some p.default) (any_default ps) e))

  some_by : (ps : List Param) (d : Option trees.Expr) → (is_some d || any_default ps) ≡ true → (any_default ps ≡ true → defaults_length locals (defaults_of ps) ≡ exprs_length locals (defaults_of ps) + 9)
      → defaults_length locals (on_option (defaults_of ps) (λ e. More e (defaults_of ps)) d) ≡ exprs_length locals (on_option (defaults_of ps) (λ e. More e (defaults_of ps)) d) + 9
  some_by ps None e h = h e
  some_by ps (Some x) e h = refl

  pub some_default : (ps : List Param) → any_default ps ≡ true → defaults_length locals (defaults_of ps) ≡ exprs_length locals (defaults_of ps) + 9
  some_default [] e = cc
  some_default (p ∷ ps) e = some_by ps p.default e (some_default ps)
