-- Each part of a formed tree counts its functions: by induction, from layer to layer.
use Rattle.std.proofs.Common.{◌≡◌, ℕ, suc, ◌+◌, Bool, true, false, ◌||◌, not, List, [], ◌∷◌, map, Option, Some, None, is_some, refl, sym, ap, subst, ◌∙◌, ◌⊎◌, inl, inr, arith}
use Rattle.std.specs.Prelude.{◌&&◌, option_map}
use Rattle.std.specs.List.{list_all}
use Rattle.std.proofs.lemmas.List.Folds.{list_all-map}
use Rattle.py_tree.specs.declared.expr.Expr.{Expr}
use Rattle.py_tree.specs.declared.stmt.Param.{Param}
use Rattle.py_tree.specs.declared.stmt.Module.{Module}
use Rattle.py_tree.specs.declared.stmt.Stmt.{Stmt, map-Stmt, roll-Stmt}
use Rattle.py_tree.specs.declared.stmt.Branch.{Branch, map-Branch, roll-Branch}
use Rattle.py_tree.specs.declared.stmt.Handler.{Handler, map-Handler, roll-Handler}
use Rattle.py_tree.specs.declared.stmt.StmtKind.{StmtKind, map-StmtKind, roll-StmtKind}
use Rattle.py_tree.specs.declared.stmt.StmtKind.TheOpen.{StmtKind-F, Stmt-F, Branch-F, Handler-F}
use Rattle.py_tree.specs.declared.stmt.StmtKind.TheFolds.{fold-StmtKind, fold-Branch, fold-Handler, fold-roll-StmtKind, fold-roll-Branch, fold-roll-Handler, fold-roll-Stmt, ind-Stmt}
use Rattle.py_tree.specs.Formed as formed
use Rattle.py_tree.specs.declared.expr.BinaryOp.{BinaryOp}
use Rattle.emit_measures.specs.bc_scheme.py_meaning.Tree as tree
use Rattle.emit_measures.specs.bc_scheme.py_meaning.Tree.{Name, Function, functions, functions_in}
use Rattle.emit_measures.specs.bc_scheme.py_meaning.Plain as plain
use Rattle.emit_measures.specs.bc_scheme.Translation.{own, own_in}
use Rattle.emit_draft.specs.Children.{starts, sizes, sizes_in, AllCount}
use Rattle.emit_draft.proofs.Counting.{Counts, empty, joined, moved, recast, defined, StmtIs, BlockCounts, KindCounts, StmtCounts, BranchesCount, BranchCounts, HandlersCount, ClauseCounts, two_blocks, tried, tried_last}

abbrev P : Type 0
P = plain.Part tree.Stmt

abbrev Q : Type 0
Q = plain.Part (tree.Branches → tree.Branches)

abbrev R : Type 0
R = plain.Part (tree.Block → tree.Block)

abbrev plain_kind : StmtKind → P
plain_kind = fold-StmtKind P Q plain.Clause R plain.kind_step plain.branch_step plain.handler_step plain.stmt_step

abbrev plain_branch : Branch → Q
plain_branch = fold-Branch P Q plain.Clause R plain.kind_step plain.branch_step plain.handler_step plain.stmt_step

abbrev plain_handler : Handler → plain.Clause
plain_handler = fold-Handler P Q plain.Clause R plain.kind_step plain.branch_step plain.handler_step plain.stmt_step

abbrev plain_of_kind : StmtKind-F StmtKind Branch Handler Stmt → P
plain_of_kind x = plain.kind_step (map-StmtKind StmtKind Branch Handler Stmt P Q plain.Clause R plain_kind plain_branch plain_handler plain.plain_stmt x)

abbrev plain_of_branch : Branch-F StmtKind Branch Handler Stmt → Q
plain_of_branch x = plain.branch_step (map-Branch StmtKind Branch Handler Stmt P Q plain.Clause R plain_kind plain_branch plain_handler plain.plain_stmt x)

abbrev plain_of_handler : Handler-F StmtKind Branch Handler Stmt → plain.Clause
plain_of_handler x = plain.handler_step (map-Handler StmtKind Branch Handler Stmt P Q plain.Clause R plain_kind plain_branch plain_handler plain.plain_stmt x)

abbrev plain_of_stmt : Stmt-F StmtKind Branch Handler Stmt → R
plain_of_stmt x = plain.stmt_step (map-Stmt StmtKind Branch Handler Stmt P Q plain.Clause R plain_kind plain_branch plain_handler plain.plain_stmt x)

abbrev formed_of_kind : StmtKind-F StmtKind Branch Handler Stmt → Bool
formed_of_kind x = formed.kind_step (map-StmtKind StmtKind Branch Handler Stmt Bool Bool formed.Handled Bool formed.kind_formed formed.branch_formed formed.handled formed.stmt_formed x)

abbrev formed_of_branch : Branch-F StmtKind Branch Handler Stmt → Bool
formed_of_branch x = formed.branch_step (map-Branch StmtKind Branch Handler Stmt Bool Bool formed.Handled Bool formed.kind_formed formed.branch_formed formed.handled formed.stmt_formed x)

abbrev formed_of_handler : Handler-F StmtKind Branch Handler Stmt → formed.Handled
formed_of_handler x = formed.handler_step (map-Handler StmtKind Branch Handler Stmt Bool Bool formed.Handled Bool formed.kind_formed formed.branch_formed formed.handled formed.stmt_formed x)

abbrev formed_of_stmt : Stmt-F StmtKind Branch Handler Stmt → Bool
formed_of_stmt x = formed.stmt_step (map-Stmt StmtKind Branch Handler Stmt Bool Bool formed.Handled Bool formed.kind_formed formed.branch_formed formed.handled formed.stmt_formed x)

abbrev Kind : StmtKind → Type 0
Kind k = formed.kind_formed k ≡ true → KindCounts (plain_kind k)

abbrev Of_branch : Branch → Type 0
Of_branch b = formed.branch_formed b ≡ true → BranchCounts (plain_branch b)

abbrev Of_handler : Handler → Type 0
Of_handler h = (formed.handled h).1 ≡ true → ClauseCounts (plain_handler h) (formed.handled h).0

abbrev Of_stmt : Stmt → Type 0
Of_stmt s = formed.stmt_formed s ≡ true → StmtCounts (plain.plain_stmt s)

and_left : (a b : Bool) → (a && b) ≡ true → a ≡ true
and_left true b e = refl
and_left false b e = e

and_right : (a b : Bool) → (a && b) ≡ true → b ≡ true
and_right true b e = e
and_right false b e = let clash : false ≡ true = e in cc

-- ---- rows

module _ {S : Type 0} (f : S → Stmt) (h : (s : S) → Of_stmt (f s)) where
  block_counts : (ss : List S) → list_all (λ stmt. stmt) (map formed.stmt_formed (map f ss)) ≡ true → BlockCounts (plain.block (map plain.plain_stmt (map f ss)))
  block_counts [] e n = empty n (n + 0) (omega arith)
  block_counts (s ∷ ss) e n =
      let p = plain.plain_stmt (f s) in
      let rest = plain.block (map plain.plain_stmt (map f ss)) in
      h s (and_left _ _ e) n (n + (p.defs + rest.defs)) (rest.make (n + p.defs))
      (moved refl (let a : (n + p.defs) + rest.defs ≡ n + (p.defs + rest.defs) = omega arith in a) (block_counts ss (and_right _ _ e) (n + p.defs)))

module _ {S : Type 0} (f : S → Branch) (h : (s : S) → Of_branch (f s)) (last : plain.Part tree.Branches) (k : BranchesCount last) where
  branches_count : (ss : List S) → list_all (λ branch. branch) (map formed.branch_formed (map f ss)) ≡ true → BranchesCount (plain.chain (map plain_branch (map f ss)) last)
  branches_count [] e n = k n
  branches_count (s ∷ ss) e n =
      let p = plain_branch (f s) in
      let rest = plain.chain (map plain_branch (map f ss)) last in
      h s (and_left _ _ e) n (n + (p.defs + rest.defs)) (rest.make (n + p.defs))
      (moved refl (let a : (n + p.defs) + rest.defs ≡ n + (p.defs + rest.defs) = omega arith in a) (branches_count ss (and_right _ _ e) (n + p.defs)))

bool_is : (b : Bool) → (b ≡ true) ⊎ (b ≡ false)
bool_is true = inl refl
bool_is false = inr refl

or_false : (b : Bool) → (b || false) ≡ true → b ≡ true
or_false true e = refl
or_false false e = e

module _ {S : Type 0} (f : S → Handler) (h : (s : S) → Of_handler (f s)) where
  abbrev chained : List S → plain.Part tree.Handlers
  chained ss = plain.chain (map plain_handler (map f ss)) (plain.part tree.NoHandler)

  before_others : (s : S) (rest : plain.Part tree.Handlers) (tested : Bool) → tested ≡ true → ClauseCounts (plain_handler (f s)) tested → HandlersCount rest → HandlersCount (plain.also (plain_handler (f s)) rest)
  before_others s rest tested e x k n =
      let p = plain_handler (f s) in
      x.before e n (n + (p.defs + rest.defs)) (rest.make (n + p.defs)) (moved refl (let a : (n + p.defs) + rest.defs ≡ n + (p.defs + rest.defs) = omega arith in a) (k (n + p.defs)))

  behind_others : (s : S) (tested : Bool) → tested ≡ false → ClauseCounts (plain_handler (f s)) tested → HandlersCount (chained (s ∷ []))
  behind_others s tested e x n =
      let p = plain_handler (f s) in
      moved refl (let a : n + p.defs ≡ n + (p.defs + 0) = omega arith in a) (x.alone e n tree.NoHandler)

  handlers_count : (ss : List S) → formed.tests_first (map formed.handled (map f ss)) ≡ true → list_all (λ handler. handler.1) (map formed.handled (map f ss)) ≡ true → HandlersCount (chained ss)
  handlers_count [] t e = λ n. empty n (n + 0) (omega arith)
  handlers_count (s ∷ []) t e =
      elim (bool_is (formed.handled (f s)).0) [
        | inl is ↦ before_others s (chained []) (formed.handled (f s)).0 is (h s (and_left _ _ e)) (handlers_count [] refl refl)
        | inr is ↦ behind_others s (formed.handled (f s)).0 is (h s (and_left _ _ e))
      ]
  handlers_count (s ∷ (r ∷ rs)) t e =
      before_others s (chained (r ∷ rs)) (formed.handled (f s)).0 (or_false (formed.handled (f s)).0 (and_left _ _ t)) (h s (and_left _ _ e)) (handlers_count (r ∷ rs) (and_right _ _ t) (and_right _ _ e))

-- ---- what no function stands in

none_in : (n : ℕ) (s : tree.Stmt) → own_in s ≡ [] → sizes_in s ≡ [] → functions_in s ≡ [] → StmtIs n (n + 0) s
none_in n s a b d = recast (sym a) (sym b) (sym d) (empty n (n + 0) (omega arith))

from_counts : (n : ℕ) (make : tree.Targets → tree.Stmt) (ts : List tree.Target) → ((us : tree.Targets) → StmtIs n (n + 0) (make us)) → StmtIs n (n + 0) (plain.from_targets tree.Pass make ts)
from_counts n make [] h = none_in n tree.Pass refl refl refl
from_counts n make (t ∷ ts) h = h (plain.targets t ts)

augmented_counts : (n : ℕ) (t : tree.Target) (op : BinaryOp) (e : tree.Expr) → StmtIs n (n + 0) (plain.augmented t op e)
augmented_counts n (tree.ToName name) op e = none_in n (tree.AugName name op e) refl refl refl
augmented_counts n (tree.ToAttr x name) op e = none_in n (tree.AugAttr x name op e) refl refl refl
augmented_counts n (tree.ToIndex x y) op e = none_in n (tree.AugIndex x y op e) refl refl refl
augmented_counts n (tree.ToEach ts) op e = none_in n tree.Pass refl refl refl

option_counts : (n : ℕ) (none : tree.Stmt) (some : tree.Expr → tree.Stmt) (x : Option Expr) → StmtIs n (n + 0) none → ((e : tree.Expr) → StmtIs n (n + 0) (some e)) → StmtIs n (n + 0) (plain.on_option none some x)
option_counts n none some None h k = h
option_counts n none some (Some x) h k = k (plain.plain_expr x)

-- ---- what a formed `try` has

pub record TryFormed (body : List Bool) (handlers : List formed.Handled) (rest : List Bool) (last : Option (List Bool)) : Type 0 where
  pub inner : formed.body_formed body ≡ true
  pub handled : (formed.has_one handlers || not (formed.has_one rest)) ≡ true
  pub tests : formed.tests_first handlers ≡ true
  pub each : list_all (λ handler. handler.1) handlers ≡ true
  pub others : list_all (λ stmt. stmt) rest ≡ true
  pub ends : formed.last_formed last ≡ true

try_formed : (body : List Bool) (handlers : List formed.Handled) (rest : List Bool) (last : Option (List Bool)) → formed.kind_step (StmtKind-F.Try body handlers rest last) ≡ true → TryFormed body handlers rest last
try_formed body handlers rest last e =
    let a = and_right (formed.body_formed body) _ e in
    let b = and_right (formed.has_one handlers || is_some last) _ a in
    let c = and_right (formed.has_one handlers || not (formed.has_one rest)) _ b in
    let d = and_right (formed.tests_first handlers) _ c in
    let f = and_right (list_all (λ handler. handler.1) handlers) _ d in
    record {
      inner = and_left (formed.body_formed body) _ e;
      handled = and_left (formed.has_one handlers || not (formed.has_one rest)) _ b;
      tests = and_left (formed.tests_first handlers) _ c;
      each = and_left (list_all (λ handler. handler.1) handlers) _ d;
      others = and_left (list_all (λ stmt. stmt) rest) _ f;
      ends = and_right (list_all (λ stmt. stmt) rest) _ f;
    }

-- ---- the layers

module _ {K B H S : Type 0} (fk : K → StmtKind) (fb : B → Branch) (fh : H → Handler) (fs : S → Stmt) (hk : (k : K) → Kind (fk k)) (hb : (b : B) → Of_branch (fb b)) (hh : (h : H) → Of_handler (fh h)) (hs : (s : S) → Of_stmt (fs s)) where
  abbrev kind_at : StmtKind-F K B H S → StmtKind-F StmtKind Branch Handler Stmt
  kind_at = map-StmtKind K B H S StmtKind Branch Handler Stmt fk fb fh fs

  abbrev branch_at : Branch-F K B H S → Branch-F StmtKind Branch Handler Stmt
  branch_at = map-Branch K B H S StmtKind Branch Handler Stmt fk fb fh fs

  abbrev handler_at : Handler-F K B H S → Handler-F StmtKind Branch Handler Stmt
  handler_at = map-Handler K B H S StmtKind Branch Handler Stmt fk fb fh fs

  abbrev stmt_at : Stmt-F K B H S → Stmt-F StmtKind Branch Handler Stmt
  stmt_at = map-Stmt K B H S StmtKind Branch Handler Stmt fk fb fh fs

  abbrev block_of : List S → plain.Part tree.Block
  block_of ss = plain.block (map plain.plain_stmt (map fs ss))

  abbrev each_formed : List S → List Bool
  each_formed ss = map formed.stmt_formed (map fs ss)

  abbrev each_handled : List H → List formed.Handled
  each_handled hs = map formed.handled (map fh hs)

  abbrev clauses_of : List H → plain.Part tree.Handlers
  clauses_of handlers = plain.chain (map plain_handler (map fh handlers)) (plain.part tree.NoHandler)

  body_counts : (ss : List S) → formed.body_formed (each_formed ss) ≡ true → BlockCounts (block_of ss)
  body_counts ss e = block_counts fs hs ss (and_right _ _ e)

  else_counts : (ss : List S) → list_all (λ stmt. stmt) (each_formed ss) ≡ true → BranchesCount (plain.also (plain.part tree.Else) (block_of ss))
  else_counts ss e n =
      moved (let a : n + 0 ≡ n = omega arith in a) (let a : n + 0 + (block_of ss).defs ≡ n + (0 + (block_of ss).defs) = omega arith in a) (block_counts fs hs ss e (n + 0))

  if_counts : (bs : List B) (ss : List S) → list_all (λ branch. branch) (map formed.branch_formed (map fb bs)) ≡ true → list_all (λ stmt. stmt) (each_formed ss) ≡ true
      → KindCounts (plain.kind_step (StmtKind-F.If (map plain_branch (map fb bs)) (map plain.plain_stmt (map fs ss))))
  if_counts bs ss e f n =
      let parts = plain.chain (map plain_branch (map fb bs)) (plain.also (plain.part tree.Else) (block_of ss)) in
      moved (let a : n + 0 ≡ n = omega arith in a) (let a : n + 0 + parts.defs ≡ n + (0 + parts.defs) = omega arith in a)
      (branches_count fb hb (plain.also (plain.part tree.Else) (block_of ss)) (else_counts ss f) bs e (n + 0))

  try_counts : (inner : List S) (handlers : List H) (rest : List S) (last : Option (List S)) → TryFormed (each_formed inner) (each_handled handlers) (each_formed rest) (option_map each_formed last)
      → KindCounts (plain.try_of (block_of inner) (map plain_handler (map fh handlers)) (block_of rest) (option_map (λ ss. map plain.plain_stmt (map fs ss)) last))
  try_counts inner handlers rest None t n = tried (block_of inner) (block_of rest) (clauses_of handlers) (body_counts inner t.inner) (handlers_count fh hh handlers t.tests t.each) (block_counts fs hs rest t.others) n
  try_counts inner [] [] (Some last) t n = two_blocks (block_of inner) (block_of last) (body_counts inner t.inner) (body_counts last t.ends) n
  try_counts inner [] (s ∷ rest) (Some last) t n = let e : false ≡ true = t.handled in absurd cc
  try_counts inner (c ∷ cs) rest (Some last) t n =
      tried_last (block_of inner) (block_of rest) (clauses_of (c ∷ cs)) (body_counts inner t.inner) (handlers_count fh hh (c ∷ cs) t.tests t.each) (block_counts fs hs rest t.others) (block_of last) n (body_counts last t.ends)

  def_counts : (name : Name) (params : List Param) (ss : List S) → formed.body_formed (each_formed ss) ≡ true → KindCounts (plain.numbered name params (block_of ss))
  def_counts name params ss e n =
      let body = block_of ss in
      defined n (n + suc body.defs) (record { name = name; params = map (λ (param : Param). param.name) params; given = tree.count (plain.defaults_of params); body = body.make (suc n) })
      (moved refl (let a : suc n + body.defs ≡ n + suc body.defs = omega arith in a) (body_counts ss e (suc n)))

  kind_layer : (y : StmtKind-F K B H S) → formed_of_kind (kind_at y) ≡ true → KindCounts (plain_of_kind (kind_at y))
  kind_layer (StmtKind-F.Expr value) e n = none_in n (tree.Do (plain.plain_expr value)) refl refl refl
  kind_layer (StmtKind-F.Assign targets value) e n = from_counts n (λ us. tree.Assign us (plain.plain_expr value)) (map plain.plain_target targets) (λ us. none_in n (tree.Assign us (plain.plain_expr value)) refl refl refl)
  kind_layer (StmtKind-F.Aug target how value) e n = augmented_counts n (plain.plain_target target) how (plain.plain_expr value)
  kind_layer (StmtKind-F.Del targets) e n = from_counts n tree.Delete (map plain.plain_target targets) (λ us. none_in n (tree.Delete us) refl refl refl)
  kind_layer StmtKind-F.Pass e n = none_in n tree.Pass refl refl refl
  kind_layer StmtKind-F.Break e n = none_in n tree.Break refl refl refl
  kind_layer StmtKind-F.Continue e n = none_in n tree.Continue refl refl refl
  kind_layer (StmtKind-F.Return value) e n = option_counts n tree.ReturnNone tree.Return value (none_in n tree.ReturnNone refl refl refl) (λ v. none_in n (tree.Return v) refl refl refl)
  kind_layer (StmtKind-F.Raise value) e n = option_counts n tree.Reraise tree.Raise value (none_in n tree.Reraise refl refl refl) (λ v. none_in n (tree.Raise v) refl refl refl)
  kind_layer (StmtKind-F.Global names) e n = none_in n tree.Pass refl refl refl
  kind_layer (StmtKind-F.Import names) e n = none_in n (tree.Import names) refl refl refl
  kind_layer (StmtKind-F.From path names) e n = none_in n (tree.From path names) refl refl refl
  kind_layer (StmtKind-F.Assert test message) e n =
      option_counts n (tree.Assert (plain.plain_expr test)) (tree.AssertWith (plain.plain_expr test)) message (none_in n (tree.Assert (plain.plain_expr test)) refl refl refl) (λ v. none_in n (tree.AssertWith (plain.plain_expr test) v) refl refl refl)
  kind_layer (StmtKind-F.If branches rest) e n = if_counts branches rest (and_left _ _ (and_right _ _ e)) (and_right _ _ (and_right _ _ e)) n
  kind_layer (StmtKind-F.While test inner rest) e n =
      two_blocks (block_of inner) (block_of rest) (body_counts inner (and_left (formed.body_formed (each_formed inner)) _ (and_right (formed.expr_formed test) _ e)))
      (block_counts fs hs rest (and_right (formed.body_formed (each_formed inner)) _ (and_right (formed.expr_formed test) _ e))) n
  kind_layer (StmtKind-F.For target over inner rest) e n =
      let blocks = and_right (formed.expr_formed over) _ (and_right (formed.target_formed target) _ e) in
      two_blocks (block_of inner) (block_of rest) (body_counts inner (and_left (formed.body_formed (each_formed inner)) _ blocks)) (block_counts fs hs rest (and_right (formed.body_formed (each_formed inner)) _ blocks)) n
  kind_layer (StmtKind-F.Try inner handlers rest None) e n = try_counts inner handlers rest None (try_formed _ _ _ None e) n
  kind_layer (StmtKind-F.Try inner handlers rest (Some last)) e n = try_counts inner handlers rest (Some last) (try_formed _ _ _ (Some (each_formed last)) e) n
  kind_layer (StmtKind-F.Def name params inner) e n = def_counts name params inner (and_right _ _ (and_right _ _ e)) n

  branch_layer : (y : Branch-F K B H S) → formed_of_branch (branch_at y) ≡ true → BranchCounts (plain_of_branch (branch_at y))
  branch_layer y e n past rest x =
      let body = block_of y.body in
      joined (moved (let a : n + 0 ≡ n = omega arith in a) (let a : n + 0 + body.defs ≡ n + (0 + body.defs) = omega arith in a) (body_counts y.body (and_right (formed.expr_formed y.test) _ e) (n + 0))) x

  stmt_layer : (y : Stmt-F K B H S) → formed_of_stmt (stmt_at y) ≡ true → StmtCounts (plain_of_stmt (stmt_at y))
  stmt_layer y e n past rest x =
      let kind = plain_kind (fk y.kind) in
      joined (moved (let a : n + 0 ≡ n = omega arith in a) (let a : n + 0 + kind.defs ≡ n + (0 + kind.defs) = omega arith in a) (hk y.kind e (n + 0))) x

  clause_counts : (line : ℕ) (test : Option Expr) (name : Option Name) (body : List S) → (formed.handler_step (record { line = line; test = test; name = name; body = each_formed body })).1 ≡ true
      → ClauseCounts (plain.also (plain.part (plain.handler_of line test name)) (block_of body)) (is_some test)
  clause_counts line None None body e = record {
    before = λ t. let clash : false ≡ true = t in cc;
    alone = λ t n rest. moved (let a : n + 0 ≡ n = omega arith in a) (let a : n + 0 + (block_of body).defs ≡ n + (0 + (block_of body).defs) = omega arith in a) (body_counts body e (n + 0));
  }
  clause_counts line None (Some name) body e = let k : false ≡ true = e in absurd cc
  clause_counts line (Some test) None body e = record {
    before = λ t n past rest x.
        joined (moved (let a : n + 0 ≡ n = omega arith in a) (let a : n + 0 + (block_of body).defs ≡ n + (0 + (block_of body).defs) = omega arith in a) (body_counts body (and_right (formed.expr_formed test) _ e) (n + 0))) x;
    alone = λ t. let clash : true ≡ false = t in cc;
  }
  clause_counts line (Some test) (Some name) body e = record {
    before = λ t n past rest x.
        joined (moved (let a : n + 0 ≡ n = omega arith in a) (let a : n + 0 + (block_of body).defs ≡ n + (0 + (block_of body).defs) = omega arith in a) (body_counts body (and_right _ _ (and_right _ _ e)) (n + 0))) x;
    alone = λ t. let clash : true ≡ false = t in cc;
  }

  handler_layer : (y : Handler-F K B H S) → (formed_of_handler (handler_at y)).1 ≡ true → ClauseCounts (plain_of_handler (handler_at y)) (formed_of_handler (handler_at y)).0
  handler_layer y e = clause_counts y.line y.test y.name y.body e

-- ---- whole trees

kind_rolled : (x : StmtKind-F StmtKind Branch Handler Stmt) → (formed_of_kind x ≡ true → KindCounts (plain_of_kind x)) → Kind (roll-StmtKind x)
kind_rolled x h e =
    subst KindCounts (sym (fold-roll-StmtKind P Q plain.Clause R plain.kind_step plain.branch_step plain.handler_step plain.stmt_step x))
    (h (sym (fold-roll-StmtKind Bool Bool formed.Handled Bool formed.kind_step formed.branch_step formed.handler_step formed.stmt_step x) ∙ e))

branch_rolled : (x : Branch-F StmtKind Branch Handler Stmt) → (formed_of_branch x ≡ true → BranchCounts (plain_of_branch x)) → Of_branch (roll-Branch x)
branch_rolled x h e =
    subst BranchCounts (sym (fold-roll-Branch P Q plain.Clause R plain.kind_step plain.branch_step plain.handler_step plain.stmt_step x))
    (h (sym (fold-roll-Branch Bool Bool formed.Handled Bool formed.kind_step formed.branch_step formed.handler_step formed.stmt_step x) ∙ e))

stmt_rolled : (x : Stmt-F StmtKind Branch Handler Stmt) → (formed_of_stmt x ≡ true → StmtCounts (plain_of_stmt x)) → Of_stmt (roll-Stmt x)
stmt_rolled x h e =
    subst StmtCounts (sym (fold-roll-Stmt P Q plain.Clause R plain.kind_step plain.branch_step plain.handler_step plain.stmt_step x))
    (h (sym (fold-roll-Stmt Bool Bool formed.Handled Bool formed.kind_step formed.branch_step formed.handler_step formed.stmt_step x) ∙ e))

handler_rolled : (x : Handler-F StmtKind Branch Handler Stmt) → ((formed_of_handler x).1 ≡ true → ClauseCounts (plain_of_handler x) (formed_of_handler x).0) → Of_handler (roll-Handler x)
handler_rolled x h e =
    let same = fold-roll-Handler Bool Bool formed.Handled Bool formed.kind_step formed.branch_step formed.handler_step formed.stmt_step x in
    subst (λ (p : plain.Clause). ClauseCounts p (formed.handled (roll-Handler x)).0) (sym (fold-roll-Handler P Q plain.Clause R plain.kind_step plain.branch_step plain.handler_step plain.stmt_step x))
    (subst (λ (b : formed.Handled). ClauseCounts (plain_of_handler x) b.0) (sym same) (h (sym (ap (λ (b : formed.Handled). b.1) same) ∙ e)))

stmt_counts : (s : Stmt) → Of_stmt s
stmt_counts = ind-Stmt Kind Of_branch Of_handler Of_stmt
    (λ x y is. subst (λ z. Kind (roll-StmtKind z)) is (kind_rolled _ (kind_layer (λ k. k.0) (λ b. b.0) (λ h. h.0) (λ s. s.0) (λ k. k.1) (λ b. b.1) (λ h. h.1) (λ s. s.1) y)))
    (λ x y is. subst (λ z. Of_branch (roll-Branch z)) is (branch_rolled _ (branch_layer (λ k. k.0) (λ b. b.0) (λ h. h.0) (λ s. s.0) (λ k. k.1) (λ b. b.1) (λ h. h.1) (λ s. s.1) y)))
    (λ x y is. subst (λ z. Of_handler (roll-Handler z)) is (handler_rolled _ (handler_layer (λ k. k.0) (λ b. b.0) (λ h. h.0) (λ s. s.0) (λ k. k.1) (λ b. b.1) (λ h. h.1) (λ s. s.1) y)))
    (λ x y is. subst (λ z. Of_stmt (roll-Stmt z)) is (stmt_rolled _ (stmt_layer (λ k. k.0) (λ b. b.0) (λ h. h.0) (λ s. s.0) (λ k. k.1) (λ b. b.1) (λ h. h.1) (λ s. s.1) y)))

map_same : (ss : List Stmt) → map (λ (s : Stmt). s) ss ≡ ss
map_same [] = refl
map_same (s ∷ ss) = ap (λ (more : List Stmt). s ∷ more) (map_same ss)

body_counted : (ss : List Stmt) → list_all (λ stmt. stmt) (map formed.stmt_formed ss) ≡ true → BlockCounts (plain.block (map plain.plain_stmt ss))
body_counted ss =
    let G : List Stmt → Type 0 = λ z. list_all (λ stmt. stmt) (map formed.stmt_formed z) ≡ true → BlockCounts (plain.block (map plain.plain_stmt z)) in
    subst G (map_same ss) (block_counts (λ (s : Stmt). s) stmt_counts ss)

pub tree_counts : (tree : Module) → formed.IsFormed tree → Counts 1 (1 + (plain.block (map plain.plain_stmt tree.body)).defs) (own (plain.plain_tree tree)) (sizes (plain.plain_tree tree)) (functions (plain.plain_tree tree))
tree_counts tree h = body_counted tree.body (list_all-map (λ b. b) formed.stmt_formed tree.body ∙ h.parts) 1

pub tree_numbered : (tree : Module) → formed.IsFormed tree → own (plain.plain_tree tree) ≡ starts 1 (sizes (plain.plain_tree tree))
tree_numbered tree h = (tree_counts tree h).begin

pub tree_functions : (tree : Module) → formed.IsFormed tree → AllCount 1 (functions (plain.plain_tree tree))
tree_functions tree h = (tree_counts tree h).inner
