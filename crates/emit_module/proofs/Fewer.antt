-- A plain tree has no more functions than its parser's tree: by induction, from layer to layer.
use Rattle.std.proofs.Common.{◌≡◌, ◌≤◌, ◌<◌, ◌^◌, ℕ, ◌+◌, List, [], ◌∷◌, map, Option, Some, None, refl, ap, subst, arith}
use Rattle.std.specs.Prelude.{option_map}
use Rattle.std.specs.List.{sum}
use Rattle.py_tree.specs.declared.stmt.Module.{Module}
use Rattle.py_tree.specs.declared.stmt.Stmt.{Stmt, map-Stmt, roll-Stmt}
use Rattle.py_tree.specs.declared.stmt.Branch.{Branch, map-Branch, roll-Branch}
use Rattle.py_tree.specs.declared.stmt.Handler.{Handler, map-Handler, roll-Handler}
use Rattle.py_tree.specs.declared.stmt.StmtKind.{StmtKind, map-StmtKind, roll-StmtKind}
use Rattle.py_tree.specs.declared.stmt.StmtKind.TheOpen.{StmtKind-F, Stmt-F, Branch-F, Handler-F}
use Rattle.py_tree.specs.declared.stmt.StmtKind.TheFolds.{fold-StmtKind, fold-Branch, fold-Handler, fold-roll-StmtKind, fold-roll-Branch, fold-roll-Handler, fold-roll-Stmt, ind-Stmt}
use Rattle.py_tree.specs.Formed as formed
use Rattle.py_tree.proofs.Defs.{sum_cons}
use Rattle.tr_source.specs.py_meaning.Tree as tree
use Rattle.tr_source.specs.py_meaning.Plain as plain

abbrev P : Type 0
P = plain.Part tree.Stmt

abbrev Q : Type 0
Q = plain.Part (tree.Branches → tree.Branches)

abbrev R : Type 0
R = plain.Part (tree.Block → tree.Block)

abbrev plain_kind : StmtKind → P
plain_kind = fold-StmtKind P Q plain.Clause R plain.kind_step plain.branch_step plain.handler_step plain.stmt_step

abbrev plain_branch : Branch → Q
plain_branch = fold-Branch P Q plain.Clause R plain.kind_step plain.branch_step plain.handler_step plain.stmt_step

abbrev plain_handler : Handler → plain.Clause
plain_handler = fold-Handler P Q plain.Clause R plain.kind_step plain.branch_step plain.handler_step plain.stmt_step

-- ---- one layer

abbrev plain_of_kind : StmtKind-F StmtKind Branch Handler Stmt → P
plain_of_kind x = plain.kind_step (map-StmtKind StmtKind Branch Handler Stmt P Q plain.Clause R plain_kind plain_branch plain_handler plain.plain_stmt x)

abbrev plain_of_branch : Branch-F StmtKind Branch Handler Stmt → Q
plain_of_branch x = plain.branch_step (map-Branch StmtKind Branch Handler Stmt P Q plain.Clause R plain_kind plain_branch plain_handler plain.plain_stmt x)

abbrev plain_of_handler : Handler-F StmtKind Branch Handler Stmt → plain.Clause
plain_of_handler x = plain.handler_step (map-Handler StmtKind Branch Handler Stmt P Q plain.Clause R plain_kind plain_branch plain_handler plain.plain_stmt x)

abbrev plain_of_stmt : Stmt-F StmtKind Branch Handler Stmt → R
plain_of_stmt x = plain.stmt_step (map-Stmt StmtKind Branch Handler Stmt P Q plain.Clause R plain_kind plain_branch plain_handler plain.plain_stmt x)

abbrev count_of_kind : StmtKind-F StmtKind Branch Handler Stmt → ℕ
count_of_kind x = formed.kind_defs (map-StmtKind StmtKind Branch Handler Stmt ℕ ℕ ℕ ℕ formed.kind_count formed.branch_count formed.handler_count formed.stmt_defs x)

abbrev count_of_branch : Branch-F StmtKind Branch Handler Stmt → ℕ
count_of_branch x = formed.branch_defs (map-Branch StmtKind Branch Handler Stmt ℕ ℕ ℕ ℕ formed.kind_count formed.branch_count formed.handler_count formed.stmt_defs x)

abbrev count_of_handler : Handler-F StmtKind Branch Handler Stmt → ℕ
count_of_handler x = formed.handler_defs (map-Handler StmtKind Branch Handler Stmt ℕ ℕ ℕ ℕ formed.kind_count formed.branch_count formed.handler_count formed.stmt_defs x)

abbrev count_of_stmt : Stmt-F StmtKind Branch Handler Stmt → ℕ
count_of_stmt x = formed.own_defs (map-Stmt StmtKind Branch Handler Stmt ℕ ℕ ℕ ℕ formed.kind_count formed.branch_count formed.handler_count formed.stmt_defs x)

abbrev Kind : StmtKind → Type 0
Kind k = (plain_kind k).defs ≤ formed.kind_count k

abbrev Of_branch : Branch → Type 0
Of_branch b = (plain_branch b).defs ≤ formed.branch_count b

abbrev Of_handler : Handler → Type 0
Of_handler h = (plain_handler h).defs ≤ formed.handler_count h

abbrev Of_stmt : Stmt → Type 0
Of_stmt s = (plain.plain_stmt s).defs ≤ formed.stmt_defs s

-- ---- rows

module _ {S : Type 0} (f : S → Stmt) (h : (s : S) → Of_stmt (f s)) where
  block_few : (ss : List S) → (plain.block (map plain.plain_stmt (map f ss))).defs ≤ sum (map formed.stmt_defs (map f ss))
  block_few [] = omega arith
  block_few (s ∷ ss) = omega (arith, h s, block_few ss, sum_cons formed.stmt_defs (f s) (map f ss))

module _ {S : Type 0} (f : S → Branch) (h : (s : S) → Of_branch (f s)) (last : plain.Part tree.Branches) where
  branches_few : (ss : List S) → (plain.chain (map plain_branch (map f ss)) last).defs ≤ sum (map formed.branch_count (map f ss)) + last.defs
  branches_few [] = omega arith
  branches_few (s ∷ ss) = omega (arith, h s, branches_few ss, sum_cons formed.branch_count (f s) (map f ss))

module _ {S : Type 0} (f : S → Handler) (h : (s : S) → Of_handler (f s)) where
  handlers_few : (ss : List S) → (plain.chain (map plain_handler (map f ss)) (plain.part tree.NoHandler)).defs ≤ sum (map formed.handler_count (map f ss))
  handlers_few [] = omega arith
  handlers_few (s ∷ ss) = omega (arith, h s, handlers_few ss, sum_cons formed.handler_count (f s) (map f ss))

-- ---- the layers

module _ {K B H S : Type 0} (fk : K → StmtKind) (fb : B → Branch) (fh : H → Handler) (fs : S → Stmt) (hk : (k : K) → Kind (fk k)) (hb : (b : B) → Of_branch (fb b)) (hh : (h : H) → Of_handler (fh h)) (hs : (s : S) → Of_stmt (fs s)) where
  abbrev kind_at : StmtKind-F K B H S → StmtKind-F StmtKind Branch Handler Stmt
  kind_at = map-StmtKind K B H S StmtKind Branch Handler Stmt fk fb fh fs

  abbrev branch_at : Branch-F K B H S → Branch-F StmtKind Branch Handler Stmt
  branch_at = map-Branch K B H S StmtKind Branch Handler Stmt fk fb fh fs

  abbrev handler_at : Handler-F K B H S → Handler-F StmtKind Branch Handler Stmt
  handler_at = map-Handler K B H S StmtKind Branch Handler Stmt fk fb fh fs

  abbrev stmt_at : Stmt-F K B H S → Stmt-F StmtKind Branch Handler Stmt
  stmt_at = map-Stmt K B H S StmtKind Branch Handler Stmt fk fb fh fs

  few : (ss : List S) → (plain.block (map plain.plain_stmt (map fs ss))).defs ≤ sum (map formed.stmt_defs (map fs ss))
  few = block_few fs hs

  try_few : (inner : List S) (handlers : List H) (rest : List S) (last : Option (List S))
      → (plain.try_of (plain.block (map plain.plain_stmt (map fs inner))) (map plain_handler (map fh handlers)) (plain.block (map plain.plain_stmt (map fs rest))) (option_map (λ ss. map plain.plain_stmt (map fs ss)) last)).defs
      ≤ sum (map formed.stmt_defs (map fs inner)) + (sum (map formed.handler_count (map fh handlers)) + (sum (map formed.stmt_defs (map fs rest)) + formed.optional_defs (option_map (λ ss. map formed.stmt_defs (map fs ss)) last)))
  try_few inner handlers rest None = omega (arith, few inner, handlers_few fh hh handlers, few rest)
  try_few inner [] rest (Some last) = omega (arith, few inner, few last)
  try_few inner (h ∷ handlers) rest (Some last) = omega (arith, few inner, handlers_few fh hh (h ∷ handlers), few rest, few last)

  kind_layer : (y : StmtKind-F K B H S) → (plain_of_kind (kind_at y)).defs ≤ count_of_kind (kind_at y)
  kind_layer (StmtKind-F.Expr value) = omega arith
  kind_layer (StmtKind-F.Assign targets value) = omega arith
  kind_layer (StmtKind-F.Aug target how value) = omega arith
  kind_layer (StmtKind-F.Del targets) = omega arith
  kind_layer StmtKind-F.Pass = omega arith
  kind_layer StmtKind-F.Break = omega arith
  kind_layer StmtKind-F.Continue = omega arith
  kind_layer (StmtKind-F.Return value) = omega arith
  kind_layer (StmtKind-F.Raise value) = omega arith
  kind_layer (StmtKind-F.Global names) = omega arith
  kind_layer (StmtKind-F.Import names) = omega arith
  kind_layer (StmtKind-F.From path names) = omega arith
  kind_layer (StmtKind-F.Assert test message) = omega arith
  kind_layer (StmtKind-F.If branches rest) =
      omega (arith, branches_few fb hb (plain.also (plain.part tree.Else) (plain.block (map plain.plain_stmt (map fs rest)))) branches, few rest)
  kind_layer (StmtKind-F.While test inner rest) = omega (arith, few inner, few rest)
  kind_layer (StmtKind-F.For target over inner rest) = omega (arith, few inner, few rest)
  kind_layer (StmtKind-F.Try inner handlers rest None) = try_few inner handlers rest None
  kind_layer (StmtKind-F.Try inner handlers rest (Some last)) = try_few inner handlers rest (Some last)
  kind_layer (StmtKind-F.Def name params inner) = omega (arith, few inner)

  branch_layer : (y : Branch-F K B H S) → (plain_of_branch (branch_at y)).defs ≤ count_of_branch (branch_at y)
  branch_layer y = omega (arith, few y.body)

  handler_layer : (y : Handler-F K B H S) → (plain_of_handler (handler_at y)).defs ≤ count_of_handler (handler_at y)
  handler_layer y = omega (arith, few y.body)

  stmt_layer : (y : Stmt-F K B H S) → (plain_of_stmt (stmt_at y)).defs ≤ count_of_stmt (stmt_at y)
  stmt_layer y = omega (arith, hk y.kind)

-- ---- whole trees

kind_rolled : (x : StmtKind-F StmtKind Branch Handler Stmt) → (plain_of_kind x).defs ≤ count_of_kind x → Kind (roll-StmtKind x)
kind_rolled x h =
    let a = ap (λ (p : P). p.defs) (fold-roll-StmtKind P Q plain.Clause R plain.kind_step plain.branch_step plain.handler_step plain.stmt_step x) in
    let b = fold-roll-StmtKind ℕ ℕ ℕ ℕ formed.kind_defs formed.branch_defs formed.handler_defs formed.own_defs x in
    omega (arith, a, b, h)

branch_rolled : (x : Branch-F StmtKind Branch Handler Stmt) → (plain_of_branch x).defs ≤ count_of_branch x → Of_branch (roll-Branch x)
branch_rolled x h =
    let a = ap (λ (p : Q). p.defs) (fold-roll-Branch P Q plain.Clause R plain.kind_step plain.branch_step plain.handler_step plain.stmt_step x) in
    let b = fold-roll-Branch ℕ ℕ ℕ ℕ formed.kind_defs formed.branch_defs formed.handler_defs formed.own_defs x in
    omega (arith, a, b, h)

handler_rolled : (x : Handler-F StmtKind Branch Handler Stmt) → (plain_of_handler x).defs ≤ count_of_handler x → Of_handler (roll-Handler x)
handler_rolled x h =
    let a = ap (λ (p : plain.Clause). p.defs) (fold-roll-Handler P Q plain.Clause R plain.kind_step plain.branch_step plain.handler_step plain.stmt_step x) in
    let b = fold-roll-Handler ℕ ℕ ℕ ℕ formed.kind_defs formed.branch_defs formed.handler_defs formed.own_defs x in
    omega (arith, a, b, h)

stmt_rolled : (x : Stmt-F StmtKind Branch Handler Stmt) → (plain_of_stmt x).defs ≤ count_of_stmt x → Of_stmt (roll-Stmt x)
stmt_rolled x h =
    let a = ap (λ (p : R). p.defs) (fold-roll-Stmt P Q plain.Clause R plain.kind_step plain.branch_step plain.handler_step plain.stmt_step x) in
    let b = fold-roll-Stmt ℕ ℕ ℕ ℕ formed.kind_defs formed.branch_defs formed.handler_defs formed.own_defs x in
    omega (arith, a, b, h)

stmt_few : (s : Stmt) → Of_stmt s
stmt_few = ind-Stmt Kind Of_branch Of_handler Of_stmt
    (λ x y is. subst (λ z. Kind (roll-StmtKind z)) is (kind_rolled _ (kind_layer (λ k. k.0) (λ b. b.0) (λ h. h.0) (λ s. s.0) (λ k. k.1) (λ b. b.1) (λ h. h.1) (λ s. s.1) y)))
    (λ x y is. subst (λ z. Of_branch (roll-Branch z)) is (branch_rolled _ (branch_layer (λ k. k.0) (λ b. b.0) (λ h. h.0) (λ s. s.0) (λ k. k.1) (λ b. b.1) (λ h. h.1) (λ s. s.1) y)))
    (λ x y is. subst (λ z. Of_handler (roll-Handler z)) is (handler_rolled _ (handler_layer (λ k. k.0) (λ b. b.0) (λ h. h.0) (λ s. s.0) (λ k. k.1) (λ b. b.1) (λ h. h.1) (λ s. s.1) y)))
    (λ x y is. subst (λ z. Of_stmt (roll-Stmt z)) is (stmt_rolled _ (stmt_layer (λ k. k.0) (λ b. b.0) (λ h. h.0) (λ s. s.0) (λ k. k.1) (λ b. b.1) (λ h. h.1) (λ s. s.1) y)))

map_same : (ss : List Stmt) → map (λ (s : Stmt). s) ss ≡ ss
map_same [] = refl
map_same (s ∷ ss) = ap (λ (more : List Stmt). s ∷ more) (map_same ss)

pub tree_few : (tree : Module) → formed.IsFormed tree → (plain.block (map plain.plain_stmt tree.body)).defs < 2 ^ 32
tree_few tree h =
    let F : List Stmt → Type 0 = λ z. (plain.block (map plain.plain_stmt z)).defs ≤ sum (map formed.stmt_defs z) in
    let all : F tree.body = subst F (map_same tree.body) (block_few (λ (s : Stmt). s) stmt_few tree.body) in
    omega (arith, all, h.defs)
