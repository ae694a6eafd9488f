-- The plain tree of formed statements is spelled: by induction, from layer to layer.
use Rattle.std.proofs.Common.{◌≡◌, ℕ, suc, ◌+◌, ◌≤◌, Bool, true, false, not, ◌&&◌, ◌||◌, List, [], ◌∷◌, ◌++◌, map, Option, Some, None, is_some, refl, sym, ap, subst, ◌∙◌}
use Rattle.std.specs.Prelude.{option_map}
use Rattle.std.specs.List.{list_all, flat_map, concat}
use Rattle.std.proofs.lemmas.List.Folds.{list_all-map}
use Rattle.py_meaning.specs.py_tree.declared.expr.BinaryOp.{BinaryOp}
use Rattle.py_meaning.specs.py_tree.declared.expr.Expr.{Expr}
use Rattle.py_meaning.specs.py_tree.declared.stmt.Module.{Module}
use Rattle.py_meaning.specs.py_tree.declared.stmt.Target.{Target}
use Rattle.py_meaning.specs.py_tree.declared.stmt.Stmt.{Stmt, map-Stmt, roll-Stmt}
use Rattle.py_meaning.specs.py_tree.declared.stmt.Branch.{Branch, map-Branch, roll-Branch}
use Rattle.py_meaning.specs.py_tree.declared.stmt.Handler.{Handler, map-Handler, roll-Handler}
use Rattle.py_meaning.specs.py_tree.declared.stmt.StmtKind.{StmtKind, map-StmtKind, roll-StmtKind}
use Rattle.py_meaning.specs.py_tree.declared.stmt.StmtKind.TheOpen.{StmtKind-F, Stmt-F, Branch-F, Handler-F}
use Rattle.py_meaning.specs.py_tree.declared.stmt.StmtKind.TheFolds.{fold-roll-StmtKind, fold-roll-Branch, fold-roll-Handler, fold-roll-Stmt, ind-Stmt}
use Rattle.py_meaning.specs.py_tree.Formed as formed
use Rattle.py_meaning.specs.py_tree.Formed.{Lines, IsFormed}
use Rattle.emit_measures.specs.bc_scheme.py_meaning.Tree as tree
use Rattle.emit_measures.specs.bc_scheme.py_meaning.Tree.{Name}
use Rattle.emit_measures.specs.bc_scheme.py_meaning.Plain as plain
use Rattle.tr_source.proofs.SpelledSteps.{and_left, and_right, plain_kind, plain_branch, plain_handler, plain_of_kind, formed_of_kind, lines_of_kind, plain_of_branch, formed_of_branch, lines_of_branch, plain_of_handler, formed_of_handler, lines_of_handler, plain_of_stmt, formed_of_stmt, lines_of_stmt}
use Rattle.tr_source.specs.Spelled.{IsSpelled, TargetSpelled, BlockSpelled, StmtSpelled, BranchesSpelled, HandlersSpelled}
use Rattle.tr_source.proofs.Texts.{ascii, aliases}
use Rattle.tr_source.proofs.SpelledExprs.{spelled, aimed, aimed_row, names_ascii, defaults_spelled, fewer_defaults}
use Rattle.tr_source.proofs.Lines.{end_of, Climb, climbs, end_above, parted, topped, handlers_up, block_from, climb_on}

-- ---- parts

abbrev KindGood : plain.Part tree.Stmt → Lines → Type 0
KindGood p ls = (n line last : ℕ) → Climb line last ls → StmtSpelled line last (p.make n)

abbrev StmtGood : plain.Part (tree.Block → tree.Block) → Lines → Type 0
StmtGood p ls = (n first next last : ℕ) (rest : tree.Block) → Climb first next ls → BlockSpelled next last rest → BlockSpelled first last (p.make n rest)

abbrev BranchGood : plain.Part (tree.Branches → tree.Branches) → Lines → Type 0
BranchGood p ls = (n first next last : ℕ) (rest : tree.Branches) → Climb first next ls → BranchesSpelled next last rest → BranchesSpelled first last (p.make n rest)

abbrev ClauseGood : plain.Clause → Lines → Type 0
ClauseGood p ls = (n first next last : ℕ) (rest : tree.Handlers) → Climb first next ls → HandlersSpelled next last rest → HandlersSpelled first last (p.make n rest)

abbrev BlockGood : plain.Part tree.Block → Lines → Type 0
BlockGood p ls = (n first last : ℕ) → Climb first last ls → BlockSpelled first last (p.make n)

abbrev BranchesGood : plain.Part tree.Branches → Lines → Type 0
BranchesGood p ls = (n first last : ℕ) → Climb first last ls → BranchesSpelled first last (p.make n)

abbrev HandlersGood : plain.Part tree.Handlers → Lines → Type 0
HandlersGood p ls = (n first last : ℕ) → Climb first last ls → HandlersSpelled first last (p.make n)

abbrev Kind : StmtKind → Type 0
Kind k = formed.kind_formed k ≡ true → KindGood (plain_kind k) (formed.kind_rows k)

abbrev Of_branch : Branch → Type 0
Of_branch b = formed.branch_formed b ≡ true → BranchGood (plain_branch b) (formed.branch_rows b)

abbrev Of_handler : Handler → Type 0
Of_handler h = (formed.handled h).1 ≡ true → ClauseGood (plain_handler h) (formed.handler_rows h)

abbrev Of_stmt : Stmt → Type 0
Of_stmt s = formed.stmt_formed s ≡ true → StmtGood (plain.plain_stmt s) (formed.stmt_lines s)

-- ---- rows

module _ {S : Type 0} (f : S → Stmt) (h : (s : S) → Of_stmt (f s)) where
  block_good : (ss : List S) → list_all (λ stmt. stmt) (map formed.stmt_formed (map f ss)) ≡ true → BlockGood (plain.block (map plain.plain_stmt (map f ss))) (concat (map formed.stmt_lines (map f ss)))
  block_good [] e n first last c = c.below
  block_good (s ∷ ss) e n first last c =
      let p = plain.plain_stmt (f s) in
      let own = formed.stmt_lines (f s) in
      let rest = plain.block (map plain.plain_stmt (map f ss)) in
      let parts = parted first last own (concat (map formed.stmt_lines (map f ss))) c in
      h s (and_left _ _ e) n first (end_of first own) last (rest.make (n + p.defs)) parts.front (block_good ss (and_right (formed.stmt_formed (f s)) _ e) (n + p.defs) (end_of first own) last parts.behind)

module _ {S : Type 0} (f : S → Branch) (h : (s : S) → Of_branch (f s)) (end : plain.Part tree.Branches) (ends : Lines) (k : BranchesGood end ends) where
  branches_good : (ss : List S) → list_all (λ branch. branch) (map formed.branch_formed (map f ss)) ≡ true → BranchesGood (plain.chain (map plain_branch (map f ss)) end) (concat (map formed.branch_rows (map f ss)) ++ ends)
  branches_good [] e n first last c = k n first last c
  branches_good (s ∷ ss) e n first last c =
      let p = plain_branch (f s) in
      let own = formed.branch_rows (f s) in
      let rest = plain.chain (map plain_branch (map f ss)) end in
      let more = concat (map formed.branch_rows (map f ss)) in
      let parts = parted first last own (more ++ ends) (subst (Climb first last) (grouped own more ends) c) in
      h s (and_left _ _ e) n first (end_of first own) last (rest.make (n + p.defs)) parts.front (branches_good ss (and_right (formed.branch_formed (f s)) _ e) (n + p.defs) (end_of first own) last parts.behind)
    where
      grouped : (xs ys zs : List ℕ) → (xs ++ ys) ++ zs ≡ xs ++ (ys ++ zs)
      grouped [] ys zs = refl
      grouped (x ∷ xs) ys zs = ap (λ (z : List ℕ). x ∷ z) (grouped xs ys zs)

module _ {S : Type 0} (f : S → Handler) (h : (s : S) → Of_handler (f s)) where
  handlers_good : (ss : List S) → list_all (λ (handler : formed.Handled). handler.1) (map formed.handled (map f ss)) ≡ true → HandlersGood (plain.chain (map plain_handler (map f ss)) (plain.part tree.NoHandler)) (concat (map formed.handler_rows (map f ss)))
  handlers_good [] e n first last c = c.below
  handlers_good (s ∷ ss) e n first last c =
      let p = plain_handler (f s) in
      let own = formed.handler_rows (f s) in
      let rest = plain.chain (map plain_handler (map f ss)) (plain.part tree.NoHandler) in
      let parts = parted first last own (concat (map formed.handler_rows (map f ss))) c in
      h s (and_left _ _ e) n first (end_of first own) last (rest.make (n + p.defs)) parts.front (handlers_good ss (and_right (formed.handled (f s)).1 _ e) (n + p.defs) (end_of first own) last parts.behind)

-- ---- statements

-- a statement of no lines inside
up : {line last : ℕ} → Climb line last [] → line ≤ last
up c = c.below

assign_good : (ts : List Target) (value : Expr) → list_all formed.target_formed ts ≡ true → formed.expr_formed value ≡ true → (line last : ℕ) → line ≤ last
    → StmtSpelled line last (plain.from_targets tree.Pass (λ us. tree.Assign us (plain.plain_expr value)) (map plain.plain_target ts))
assign_good [] value e f line last le = le
assign_good (t ∷ ts) value e f line last le = (aimed_row t ts e, spelled value f, le)

gone_formed : (ts : List Target) (gone : Target → Bool) → list_all (λ target. gone target && formed.target_formed target) ts ≡ true → list_all formed.target_formed ts ≡ true
gone_formed [] gone e = refl
gone_formed (t ∷ ts) gone e =
    both (formed.target_formed t) (list_all formed.target_formed ts) (and_right (gone t) _ (and_left (gone t && formed.target_formed t) _ e)) (gone_formed ts gone (and_right (gone t && formed.target_formed t) _ e))
  where
    both : (a b : Bool) → a ≡ true → b ≡ true → (a && b) ≡ true
    both true b e f = f
    both false b e f = e

delete_good : (ts : List Target) → list_all formed.target_formed ts ≡ true → (line last : ℕ) → line ≤ last → StmtSpelled line last (plain.from_targets tree.Pass tree.Delete (map plain.plain_target ts))
delete_good [] e line last le = le
delete_good (t ∷ ts) e line last le = (aimed_row t ts e, le)

augmented_good : (t : tree.Target) (op : BinaryOp) (e : tree.Expr) → TargetSpelled t → IsSpelled e → (line last : ℕ) → line ≤ last → StmtSpelled line last (plain.augmented t op e)
augmented_good (tree.ToName name) op e h k line last le = (h, k, le)
augmented_good (tree.ToAttr object name) op e h k line last le = (h.0, h.1, k, le)
augmented_good (tree.ToIndex object index) op e h k line last le = (h.0, h.1, k, le)
augmented_good (tree.ToEach ts) op e h k line last le = le

option_good : (none : tree.Stmt) (some : tree.Expr → tree.Stmt) (value : Option Expr) → formed.option_formed value ≡ true → (line last : ℕ) → StmtSpelled line last none → ((e : tree.Expr) → IsSpelled e → StmtSpelled line last (some e))
    → StmtSpelled line last (plain.on_option none some value)
option_good none some None e line last h k = h
option_good none some (Some x) e line last h k = k (plain.plain_expr x) (spelled x e)

clause_good : (line : ℕ) (test : Option Expr) (name : Option Name) (b : tree.Block) (others : tree.Handlers) (ls : Lines) → formed.option_formed test ≡ true → formed.option_ascii name ≡ true
    → ((first last : ℕ) → Climb first last ls → BlockSpelled first last b) → (first next last : ℕ) → Climb first next (line ∷ ls) → HandlersSpelled next last others → HandlersSpelled first last (plain.handler_of line test name b others)
clause_good line None name b others ls e f h first next last c k =
    let t = topped first next line ls c in
    (t.here, h line last (climb_on last (handlers_up next last others k) t.behind))
clause_good line (Some test) None b others ls e f h first next last c k =
    let t = topped first next line ls c in
    (t.here, spelled test e, (next, h line next t.behind, k))
clause_good line (Some test) (Some name) b others ls e f h first next last c k =
    let t = topped first next line ls c in
    (t.here, spelled test e, ascii name f, (next, h line next t.behind, k))

-- what a formed `try` has
record TryFormed (body : List Bool) (handlers : List formed.Handled) (rest : List Bool) (last : Option (List Bool)) : Type 0 where
  inner : list_all (λ stmt. stmt) body ≡ true
  each : list_all (λ (handler : formed.Handled). handler.1) handlers ≡ true
  others : list_all (λ stmt. stmt) rest ≡ true
  ends : formed.last_formed last ≡ true

abbrev is_try : List Bool → List formed.Handled → List Bool → Option (List Bool) → Bool
is_try body handlers rest last =
    formed.body_formed body && ((formed.has_one handlers || is_some last) && ((formed.has_one handlers || not (formed.has_one rest))
    && (formed.tests_first handlers && (list_all (λ (handler : formed.Handled). handler.1) handlers && (list_all (λ stmt. stmt) rest && formed.last_formed last)))))

try_formed : (body : List Bool) (handlers : List formed.Handled) (rest : List Bool) (last : Option (List Bool)) → is_try body handlers rest last ≡ true → TryFormed body handlers rest last
try_formed body handlers rest last e =
    let a = and_right (formed.body_formed body) _ e in
    let b = and_right (formed.has_one handlers || is_some last) _ a in
    let c = and_right (formed.has_one handlers || not (formed.has_one rest)) _ b in
    let d = and_right (formed.tests_first handlers) _ c in
    let f = and_right (list_all (λ (handler : formed.Handled). handler.1) handlers) _ d in
    record {
      inner = and_right (formed.has_one body) _ (and_left (formed.body_formed body) _ e);
      each = and_left (list_all (λ (handler : formed.Handled). handler.1) handlers) _ d;
      others = and_left (list_all (λ stmt. stmt) rest) _ f;
      ends = and_right (list_all (λ stmt. stmt) rest) _ f;
    }

-- ---- the layers

module _ {K B H S : Type 0} (fk : K → StmtKind) (fb : B → Branch) (fh : H → Handler) (fs : S → Stmt) (hk : (k : K) → Kind (fk k)) (hb : (b : B) → Of_branch (fb b)) (hh : (h : H) → Of_handler (fh h)) (hs : (s : S) → Of_stmt (fs s)) where
  abbrev kind_at : StmtKind-F K B H S → StmtKind-F StmtKind Branch Handler Stmt
  kind_at = map-StmtKind K B H S StmtKind Branch Handler Stmt fk fb fh fs

  abbrev branch_at : Branch-F K B H S → Branch-F StmtKind Branch Handler Stmt
  branch_at = map-Branch K B H S StmtKind Branch Handler Stmt fk fb fh fs

  abbrev handler_at : Handler-F K B H S → Handler-F StmtKind Branch Handler Stmt
  handler_at = map-Handler K B H S StmtKind Branch Handler Stmt fk fb fh fs

  abbrev stmt_at : Stmt-F K B H S → Stmt-F StmtKind Branch Handler Stmt
  stmt_at = map-Stmt K B H S StmtKind Branch Handler Stmt fk fb fh fs

  abbrev block_of : List S → plain.Part tree.Block
  block_of ss = plain.block (map plain.plain_stmt (map fs ss))

  abbrev rows : List S → Lines
  rows ss = concat (map formed.stmt_lines (map fs ss))

  abbrev told : List S → List Bool
  told ss = map formed.stmt_formed (map fs ss)

  abbrev Held : List S → Type 0
  Held ss = list_all (λ stmt. stmt) (told ss) ≡ true

  abbrev clauses_of : List H → plain.Part tree.Handlers
  clauses_of hs = plain.chain (map plain_handler (map fh hs)) (plain.part tree.NoHandler)

  good : (ss : List S) → Held ss → BlockGood (block_of ss) (rows ss)
  good = block_good fs hs

  -- a loop's blocks, or two others
  two_good : (inner rest : List S) → Held inner → Held rest → (n m first last : ℕ) → Climb first last (rows inner ++ rows rest)
      → (next : ℕ) × BlockSpelled first next ((block_of inner).make n) × BlockSpelled next last ((block_of rest).make m)
  two_good inner rest h k n m first last c =
      let parts = parted first last (rows inner) (rows rest) c in
      let next = end_of first (rows inner) in
      (next, good inner h n first next parts.front, good rest k m next last parts.behind)

  tried : (inner : List S) (handlers : List H) (rest : List S) (last : Option (List S)) → TryFormed (told inner) (map formed.handled (map fh handlers)) (told rest) (option_map (λ ss. map formed.stmt_formed (map fs ss)) last)
      → KindGood (plain.try_of (block_of inner) (map plain_handler (map fh handlers)) (block_of rest) (option_map (λ ss. map plain.plain_stmt (map fs ss)) last))
      (rows inner ++ (concat (map formed.handler_rows (map fh handlers)) ++ (rows rest ++ formed.optional_lines (option_map (λ ss. map formed.stmt_lines (map fs ss)) last))))
  tried inner handlers rest None t n line end c =
      let caught = concat (map formed.handler_rows (map fh handlers)) in
      let a = parted line end (rows inner) (caught ++ (rows rest ++ [])) c in
      let next = end_of line (rows inner) in
      let b = parted next end caught (rows rest ++ []) a.behind in
      let behind = end_of next caught in
      let d = parted behind end (rows rest) [] b.behind in
      (next, behind, good inner t.inner _ line next a.front, handlers_good fh hh handlers t.each _ next behind b.front, good rest t.others _ behind end (climb_on end d.behind.below d.front))
  tried inner [] rest (Some last) t n line end c =
      let a = parted line end (rows inner) (rows rest ++ rows last) c in
      let next = end_of line (rows inner) in
      let b = parted next end (rows rest) (rows last) a.behind in
      let held = and_right (formed.has_one (told last)) _ t.ends in
      (next, good inner t.inner _ line next a.front, block_from (end_of next (rows rest)) next end _ (end_above next (rows rest) b.front.rise) (good last held _ (end_of next (rows rest)) end b.behind))
  tried inner (h ∷ hs) rest (Some last) t n line end c =
      let caught = concat (map formed.handler_rows (map fh (h ∷ hs))) in
      let a = parted line end (rows inner) (caught ++ (rows rest ++ rows last)) c in
      let next = end_of line (rows inner) in
      let b = parted next end caught (rows rest ++ rows last) a.behind in
      let behind = end_of next caught in
      let d = parted behind end (rows rest) (rows last) b.behind in
      let further = end_of behind (rows rest) in
      let held = and_right (formed.has_one (told last)) _ t.ends in
      (next, behind, further, good inner t.inner _ line next a.front, handlers_good fh hh (h ∷ hs) t.each _ next behind b.front, good rest t.others _ behind further d.front, good last held _ further end d.behind)

  kind_layer : (y : StmtKind-F K B H S) → formed_of_kind (kind_at y) ≡ true → KindGood (plain_of_kind (kind_at y)) (lines_of_kind (kind_at y))
  kind_layer (StmtKind-F.Expr value) e n line last c = (spelled value e, c.below)
  kind_layer (StmtKind-F.Assign targets value) e n line last c =
      let f = and_right (formed.has_one targets) _ e in
      assign_good targets value (and_left _ _ f) (and_right (list_all formed.target_formed targets) _ f) line last c.below
  kind_layer (StmtKind-F.Aug target how value) e n line last c =
      let f = and_right (formed.is_single _) _ e in
      augmented_good (plain.plain_target target) how (plain.plain_expr value) (aimed target (and_left _ _ f)) (spelled value (and_right (formed.target_formed target) _ f)) line last c.below
  kind_layer (StmtKind-F.Del targets) e n line last c = delete_good targets (gone_formed targets _ (and_right (formed.has_one targets) _ e)) line last c.below
  kind_layer StmtKind-F.Pass e n line last c = c.below
  kind_layer StmtKind-F.Break e n line last c = c.below
  kind_layer StmtKind-F.Continue e n line last c = c.below
  kind_layer (StmtKind-F.Return value) e n line last c = option_good tree.ReturnNone tree.Return value e line last c.below (λ x h. (h, c.below))
  kind_layer (StmtKind-F.Raise value) e n line last c = option_good tree.Reraise tree.Raise value e line last c.below (λ x h. (h, c.below))
  kind_layer (StmtKind-F.Global names) e n line last c = c.below
  kind_layer (StmtKind-F.Import names) e n line last c = (aliases names (and_right (formed.has_one names) _ e), c.below)
  kind_layer (StmtKind-F.From path names) e n line last c =
      let f = and_right (formed.is_ascii path) _ e in
      (ascii path (and_left _ _ e), aliases names (and_right (formed.has_one names) _ f), c.below)
  kind_layer (StmtKind-F.Assert test message) e n line last c =
      let t = spelled test (and_left _ _ e) in
      option_good (tree.Assert (plain.plain_expr test)) (tree.AssertWith (plain.plain_expr test)) message (and_right (formed.expr_formed test) _ e) line last (t, c.below) (λ x h. (t, h, c.below))
  kind_layer (StmtKind-F.If branches rest) e n line last c =
      let f = and_right (formed.has_one _) _ e in
      branches_good fb hb (plain.also (plain.part tree.Else) (block_of rest)) (rows rest) (λ m first end k. good rest (and_right _ _ f) (m + 0) first end k) branches (and_left _ _ f) (n + 0) line last c
  kind_layer (StmtKind-F.While test inner rest) e n line last c =
      let f = and_right (formed.expr_formed test) _ e in
      (spelled test (and_left _ _ e), two_good inner rest (and_right _ _ (and_left (formed.body_formed (told inner)) _ f)) (and_right (formed.body_formed (told inner)) _ f) _ _ line last c)
  kind_layer (StmtKind-F.For target over inner rest) e n line last c =
      let f = and_right (formed.target_formed target) _ e in
      let g = and_right (formed.expr_formed over) _ f in
      (aimed target (and_left _ _ e), spelled over (and_left _ _ f), two_good inner rest (and_right _ _ (and_left (formed.body_formed (told inner)) _ g)) (and_right (formed.body_formed (told inner)) _ g) _ _ line last c)
  kind_layer (StmtKind-F.Try inner handlers rest None) e n line last c =
      tried inner handlers rest None (try_formed (told inner) (map formed.handled (map fh handlers)) (told rest) None e) n line last c
  kind_layer (StmtKind-F.Try inner handlers rest (Some behind)) e n line last c =
      tried inner handlers rest (Some behind) (try_formed (told inner) (map formed.handled (map fh handlers)) (told rest) (Some (told behind)) e) n line last c
  kind_layer (StmtKind-F.Def name params inner) e n line last c =
      let f = and_right (formed.is_ascii name) _ e in
      let given = and_left _ _ (and_left (formed.params_formed params) _ f) in
      let body = and_right _ _ (and_right (formed.params_formed params) _ f) in
      (ascii name (and_left _ _ e), names_ascii params given, fewer_defaults params, defaults_spelled params given, good inner body (suc n) line last c)

  branch_layer : (y : Branch-F K B H S) → formed_of_branch (branch_at y) ≡ true → BranchGood (plain_of_branch (branch_at y)) (lines_of_branch (branch_at y))
  branch_layer y e n first next last rest c k =
      let t = topped first next y.line (rows y.body) c in
      (t.here, spelled y.test (and_left _ _ e), (next, good y.body (and_right _ _ (and_right (formed.expr_formed y.test) _ e)) (n + 0) y.line next t.behind, k))

  handler_layer : (y : Handler-F K B H S) → (formed_of_handler (handler_at y)).1 ≡ true → ClauseGood (plain_of_handler (handler_at y)) (lines_of_handler (handler_at y))
  handler_layer y e n first next last rest c k =
      let f = and_right (is_some y.test || not (is_some y.name)) _ e in
      let g = and_right (formed.option_formed y.test) _ f in
      clause_good y.line y.test y.name ((block_of y.body).make (n + 0)) rest (rows y.body) (and_left _ _ f) (and_left _ _ g)
      (λ a b d. good y.body (and_right _ _ (and_right (formed.option_ascii y.name) _ g)) (n + 0) a b d) first next last c k

  stmt_layer : (y : Stmt-F K B H S) → formed_of_stmt (stmt_at y) ≡ true → StmtGood (plain_of_stmt (stmt_at y)) (lines_of_stmt (stmt_at y))
  stmt_layer y e n first next last rest c k =
      let t = topped first next y.line (formed.kind_rows (fk y.kind)) c in
      (t.here, (next, hk y.kind e (n + 0) y.line next t.behind, k))

-- ---- whole trees

kind_rolled : (x : StmtKind-F StmtKind Branch Handler Stmt) → (formed_of_kind x ≡ true → KindGood (plain_of_kind x) (lines_of_kind x)) → Kind (roll-StmtKind x)
kind_rolled x h e =
    subst (λ ls. KindGood (plain_kind (roll-StmtKind x)) ls) (sym (fold-roll-StmtKind Lines Lines Lines Lines formed.kind_lines formed.branch_lines formed.handler_lines formed.own_lines x))
    (subst (λ p. KindGood p (lines_of_kind x)) (sym (fold-roll-StmtKind _ _ _ _ plain.kind_step plain.branch_step plain.handler_step plain.stmt_step x))
    (h (sym (fold-roll-StmtKind _ _ _ _ formed.kind_step formed.branch_step formed.handler_step formed.stmt_step x) ∙ e)))

branch_rolled : (x : Branch-F StmtKind Branch Handler Stmt) → (formed_of_branch x ≡ true → BranchGood (plain_of_branch x) (lines_of_branch x)) → Of_branch (roll-Branch x)
branch_rolled x h e =
    subst (λ ls. BranchGood (plain_branch (roll-Branch x)) ls) (sym (fold-roll-Branch Lines Lines Lines Lines formed.kind_lines formed.branch_lines formed.handler_lines formed.own_lines x))
    (subst (λ p. BranchGood p (lines_of_branch x)) (sym (fold-roll-Branch _ _ _ _ plain.kind_step plain.branch_step plain.handler_step plain.stmt_step x))
    (h (sym (fold-roll-Branch _ _ _ _ formed.kind_step formed.branch_step formed.handler_step formed.stmt_step x) ∙ e)))

handler_rolled : (x : Handler-F StmtKind Branch Handler Stmt) → ((formed_of_handler x).1 ≡ true → ClauseGood (plain_of_handler x) (lines_of_handler x)) → Of_handler (roll-Handler x)
handler_rolled x h e =
    subst (λ ls. ClauseGood (plain_handler (roll-Handler x)) ls) (sym (fold-roll-Handler Lines Lines Lines Lines formed.kind_lines formed.branch_lines formed.handler_lines formed.own_lines x))
    (subst (λ p. ClauseGood p (lines_of_handler x)) (sym (fold-roll-Handler _ _ _ _ plain.kind_step plain.branch_step plain.handler_step plain.stmt_step x))
    (h (ap (λ (z : formed.Handled). z.1) (sym (fold-roll-Handler _ _ _ _ formed.kind_step formed.branch_step formed.handler_step formed.stmt_step x)) ∙ e)))

stmt_rolled : (x : Stmt-F StmtKind Branch Handler Stmt) → (formed_of_stmt x ≡ true → StmtGood (plain_of_stmt x) (lines_of_stmt x)) → Of_stmt (roll-Stmt x)
stmt_rolled x h e =
    subst (λ ls. StmtGood (plain.plain_stmt (roll-Stmt x)) ls) (sym (fold-roll-Stmt Lines Lines Lines Lines formed.kind_lines formed.branch_lines formed.handler_lines formed.own_lines x))
    (subst (λ p. StmtGood p (lines_of_stmt x)) (sym (fold-roll-Stmt _ _ _ _ plain.kind_step plain.branch_step plain.handler_step plain.stmt_step x))
    (h (sym (fold-roll-Stmt _ _ _ _ formed.kind_step formed.branch_step formed.handler_step formed.stmt_step x) ∙ e)))

stmt_good : (s : Stmt) → Of_stmt s
stmt_good = ind-Stmt Kind Of_branch Of_handler Of_stmt
    (λ x y is. subst (λ z. Kind (roll-StmtKind z)) is (kind_rolled _ (kind_layer (λ k. k.0) (λ b. b.0) (λ h. h.0) (λ s. s.0) (λ k. k.1) (λ b. b.1) (λ h. h.1) (λ s. s.1) y)))
    (λ x y is. subst (λ z. Of_branch (roll-Branch z)) is (branch_rolled _ (branch_layer (λ k. k.0) (λ b. b.0) (λ h. h.0) (λ s. s.0) (λ k. k.1) (λ b. b.1) (λ h. h.1) (λ s. s.1) y)))
    (λ x y is. subst (λ z. Of_handler (roll-Handler z)) is (handler_rolled _ (handler_layer (λ k. k.0) (λ b. b.0) (λ h. h.0) (λ s. s.0) (λ k. k.1) (λ b. b.1) (λ h. h.1) (λ s. s.1) y)))
    (λ x y is. subst (λ z. Of_stmt (roll-Stmt z)) is (stmt_rolled _ (stmt_layer (λ k. k.0) (λ b. b.0) (λ h. h.0) (λ s. s.0) (λ k. k.1) (λ b. b.1) (λ h. h.1) (λ s. s.1) y)))

map_same : (ss : List Stmt) → map (λ (s : Stmt). s) ss ≡ ss
map_same [] = refl
map_same (s ∷ ss) = ap (λ (more : List Stmt). s ∷ more) (map_same ss)

body_good : (ss : List Stmt) → list_all (λ stmt. stmt) (map formed.stmt_formed ss) ≡ true → BlockGood (plain.block (map plain.plain_stmt ss)) (concat (map formed.stmt_lines ss))
body_good ss =
    let G : List Stmt → Type 0 = λ z. list_all (λ stmt. stmt) (map formed.stmt_formed z) ≡ true → BlockGood (plain.block (map plain.plain_stmt z)) (concat (map formed.stmt_lines z)) in
    subst G (map_same ss) (block_good (λ (s : Stmt). s) stmt_good ss)

rows_same : (ss : List Stmt) → flat_map formed.stmt_lines ss ≡ concat (map formed.stmt_lines ss)
rows_same [] = refl
rows_same (s ∷ ss) = ap (λ (z : Lines). formed.stmt_lines s ++ z) (rows_same ss)

-- the tree of a source, up to the line of its last part
pub own_spelled : (module' : Module) → IsFormed module' → BlockSpelled 1 (end_of 1 (concat (map formed.stmt_lines module'.body))) (plain.plain_tree module')
own_spelled module' h =
    let lines = concat (map formed.stmt_lines module'.body) in
    body_good module'.body (list_all-map (λ b. b) formed.stmt_formed module'.body ∙ h.parts) 1 1 (end_of 1 lines) (climbs 1 lines (ap (formed.never_fall 1) (sym (rows_same module'.body)) ∙ h.lines))
