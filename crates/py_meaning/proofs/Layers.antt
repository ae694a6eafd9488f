-- Each statement of a formed tree fits its events.
use Rattle.std.proofs.Common.{◌≡◌, ℕ, suc, ◌+◌, Bool, true, false, not, ◌&&◌, ◌||◌, List, [], ◌∷◌, ◌++◌, append_assoc, map, Option, Some, None, is_some, refl, sym, ap, arith}
use Rattle.std.specs.List.{list_all}
use Rattle.std.proofs.lemmas.List.{append-nil}
use Rattle.py_scopes.specs.py_tree.declared.expr.Expr.{Expr}
use Rattle.py_scopes.specs.py_tree.declared.stmt.Stmt.{Stmt, map-Stmt}
use Rattle.py_scopes.specs.py_tree.declared.stmt.Branch.{Branch, map-Branch}
use Rattle.py_scopes.specs.py_tree.declared.stmt.Handler.{Handler, map-Handler}
use Rattle.py_scopes.specs.py_tree.declared.stmt.StmtKind.{StmtKind, map-StmtKind}
use Rattle.py_scopes.specs.py_tree.declared.stmt.StmtKind.TheOpen.{StmtKind-F, Stmt-F, Branch-F, Handler-F}
use Rattle.py_scopes.specs.py_tree.Formed as formed
use Rattle.py_scopes.specs.declared.event.Act.{Act}
use Rattle.py_scopes.specs.declared.event.Event.{Event}
use Rattle.py_scopes.specs.Events as events
use Rattle.py_meaning.specs.Tree as tree
use Rattle.py_meaning.specs.Tree.{Name, Function}
use Rattle.py_meaning.specs.Plain as plain
use Rattle.py_meaning.specs.Locals.{bound_in, names_to}
use Rattle.py_meaning.specs.Numbers.{numbers_in, numbers_from}
use Rattle.py_meaning.specs.Words.{WellPlaced}
use Rattle.py_meaning.specs.Globals.{Globals, none, and_then, all}
use Rattle.py_meaning.specs.Globals as globals
use Rattle.py_meaning.proofs.Acts.{Says, nothing, said, bound_once, quiet, named, single, and_left, and_right}
use Rattle.py_meaning.proofs.Fits.{Fits, FitsStmt, FitsBlock, empty_fits, acts_fit, fits_on, recast, moved, def_fits}
use Rattle.py_meaning.proofs.Steps.{plain_kind, plain_branch, plain_handler, branch_globals, handler_globals, plain_of_kind, events_of_kind, globals_of_kind, formed_of_kind, plain_of_branch, events_of_branch, globals_of_branch, formed_of_branch, plain_of_handler, events_of_handler, globals_of_handler, formed_of_handler, plain_of_stmt, events_of_stmt, globals_of_stmt, formed_of_stmt}
use Rattle.py_meaning.proofs.Parts.{Events, KindFits, StmtFits, BranchFits, HandlerFits, BlockFits, BranchesFit, HandlersFit, Kind, Of_branch, Of_handler, Of_stmt, none_behind, block_fits, branches_fit, handlers_fit}
use Rattle.py_meaning.proofs.Small.{params_differ, quiet_fits, named_fits, behind, assign_fits, delete_fits, augmented_fits, jump_fits, return_fits, raise_fits, assert_fits, imports_say, declarations_say, defaults_quiet}

-- ---- made of blocks

-- a loop: a line, and two blocks
module _ (line : ℕ) (acts : List Act) (bound : List Name) (says : Says acts bound []) (inner rest : plain.Part tree.Block) (es fs : Events) (g h : Globals) (x : BlockFits inner es g) (y : BlockFits rest fs h) where
  loop_fits : (n : ℕ) (looped : Bool) →
      Fits n (n + ((0 + inner.defs) + rest.defs)) (events.at line acts ++ (es true ++ fs looped)) (bound ++ (bound_in (inner.make (n + 0)) ++ bound_in (rest.make (n + (0 + inner.defs)))))
      (tree.functions (inner.make (n + 0)) ++ tree.functions (rest.make (n + (0 + inner.defs)))) (numbers_in (inner.make (n + 0)) ++ numbers_in (rest.make (n + (0 + inner.defs))))
      (λ inside. WellPlaced inside true (inner.make (n + 0)) × WellPlaced inside looped (rest.make (n + (0 + inner.defs)))) (and_then g h)
  loop_fits n looped =
      let end : (n + 0 + inner.defs) + rest.defs ≡ n + ((0 + inner.defs) + rest.defs) = omega arith in
      let start : n + (0 + inner.defs) ≡ n + 0 + inner.defs = omega arith in
      recast refl end refl refl refl refl (λ inside w. w.1) refl
      (fits_on (named_fits n line acts bound says) (fits_on (x (n + 0) true) (moved start (let e : (n + (0 + inner.defs)) + rest.defs ≡ (n + 0 + inner.defs) + rest.defs = omega arith in e) (y (n + (0 + inner.defs)) looped))))

regroup : {A : Type 0} (a b c d : List A) → a ++ (b ++ (c ++ d)) ≡ ((a ++ b) ++ c) ++ d
regroup a b c d = simp append_assoc

module _ (body rest : plain.Part tree.Block) (handlers : plain.Part tree.Handlers) (es fs hs : Events) (g h k : Globals) (x : BlockFits body es g) (y : HandlersFit handlers hs k) (z : BlockFits rest fs h) where
  -- a `try` without a `finally`
  try_fits : (n : ℕ) (looped : Bool) → FitsStmt n (n + ((0 + body.defs + handlers.defs) + rest.defs)) looped (es looped ++ (hs looped ++ (fs looped ++ [])))
      (tree.Try (body.make (n + 0)) (handlers.make (n + (0 + body.defs))) (rest.make (n + (0 + body.defs + handlers.defs)))) (and_then g (and_then k (and_then h none)))
  try_fits n looped =
      let b = body.make (n + 0) in
      let hd = handlers.make (n + (0 + body.defs)) in
      let r = rest.make (n + (0 + body.defs + handlers.defs)) in
      let second : n + (0 + body.defs) ≡ n + 0 + body.defs = omega arith in
      let second_past : n + (0 + body.defs) + handlers.defs ≡ n + 0 + body.defs + handlers.defs = omega arith in
      let third : n + (0 + body.defs + handlers.defs) ≡ n + 0 + body.defs + handlers.defs = omega arith in
      let third_past : n + (0 + body.defs + handlers.defs) + rest.defs ≡ n + 0 + body.defs + handlers.defs + rest.defs = omega arith in
      let end : n + 0 + body.defs + handlers.defs + rest.defs ≡ n + ((0 + body.defs + handlers.defs) + rest.defs) = omega arith in
      recast (let e : n + 0 ≡ n = omega arith in e) end (ap (λ (q : List Event). es looped ++ (hs looped ++ q)) (sym (append-nil (fs looped)))) refl
      (sym (append_assoc (tree.functions b) (tree.functions_by hd) (tree.functions r))) (sym (append_assoc (numbers_in b) (numbers_from hd) (numbers_in r)))
      (λ inside w. (w.0, w.1.0, w.1.1)) (ap (λ (q : Globals). and_then g (and_then k q)) (sym (none_behind h)))
      (fits_on (x (n + 0) looped) (fits_on (moved second second_past (y (n + (0 + body.defs)) looped)) (moved third third_past (z (n + (0 + body.defs + handlers.defs)) looped))))

  -- with one
  try_finally_fits : (last : plain.Part tree.Block) (ls : List Event) (l : Globals) (n : ℕ) (looped : Bool) (start : ℕ) → start ≡ n + (0 + body.defs + handlers.defs + rest.defs)
      → FitsBlock start (start + last.defs) looped ls (last.make start) l
      → FitsStmt n (n + ((0 + body.defs + handlers.defs + rest.defs) + last.defs)) looped (es looped ++ (hs looped ++ (fs looped ++ ls)))
      (tree.TryFinally (body.make (n + 0)) (handlers.make (n + (0 + body.defs))) (rest.make (n + (0 + body.defs + handlers.defs))) (last.make start)) (and_then g (and_then k (and_then h l)))
  try_finally_fits last ls l n looped start at_start v =
      let b = body.make (n + 0) in
      let hd = handlers.make (n + (0 + body.defs)) in
      let r = rest.make (n + (0 + body.defs + handlers.defs)) in
      let second : n + (0 + body.defs) ≡ n + 0 + body.defs = omega arith in
      let second_past : n + (0 + body.defs) + handlers.defs ≡ n + 0 + body.defs + handlers.defs = omega arith in
      let third : n + (0 + body.defs + handlers.defs) ≡ n + 0 + body.defs + handlers.defs = omega arith in
      let third_past : n + (0 + body.defs + handlers.defs) + rest.defs ≡ n + 0 + body.defs + handlers.defs + rest.defs = omega arith in
      let fourth : start ≡ n + 0 + body.defs + handlers.defs + rest.defs = omega arith in
      let fourth_past : start + last.defs ≡ n + 0 + body.defs + handlers.defs + rest.defs + last.defs = omega arith in
      let end : n + 0 + body.defs + handlers.defs + rest.defs + last.defs ≡ n + ((0 + body.defs + handlers.defs + rest.defs) + last.defs) = omega arith in
      recast (let e : n + 0 ≡ n = omega arith in e) end refl refl
      (regroup (tree.functions b) (tree.functions_by hd) (tree.functions r) (tree.functions (last.make start))) (regroup (numbers_in b) (numbers_from hd) (numbers_in r) (numbers_in (last.make start))) (λ inside w. (w.0, w.1.0, w.1.1.0, w.1.1.1)) refl
      (fits_on (x (n + 0) looped) (fits_on (moved second second_past (y (n + (0 + body.defs)) looped)) (fits_on (moved third third_past (z (n + (0 + body.defs + handlers.defs)) looped)) (moved fourth fourth_past v))))

-- without handlers
module _ (body last : plain.Part tree.Block) (es ls : Events) (g l : Globals) (x : BlockFits body es g) (y : BlockFits last ls l) where
  finally_fits : (n : ℕ) (looped : Bool) → FitsStmt n (n + ((0 + body.defs) + last.defs)) looped (es looped ++ ls looped) (tree.Finally (body.make (n + 0)) (last.make (n + (0 + body.defs)))) (and_then g l)
  finally_fits n looped =
      let second : n + (0 + body.defs) ≡ n + 0 + body.defs = omega arith in
      let second_past : n + (0 + body.defs) + last.defs ≡ n + 0 + body.defs + last.defs = omega arith in
      recast (let e : n + 0 ≡ n = omega arith in e) (let e : n + 0 + body.defs + last.defs ≡ n + ((0 + body.defs) + last.defs) = omega arith in e) refl refl refl refl (λ inside w. w) refl
      (fits_on (x (n + 0) looped) (moved second second_past (y (n + (0 + body.defs)) looped)))

-- what a formed `try` has
pub record TryFormed (body : List Bool) (handlers : List formed.Handled) (rest : List Bool) (last : Option (List Bool)) : Type 0 where
  pub inner : formed.body_formed body ≡ true
  pub handled : (formed.has_one handlers || not (formed.has_one rest)) ≡ true
  pub tests : formed.tests_first handlers ≡ true
  pub each : list_all (λ handler. handler.1) handlers ≡ true
  pub others : list_all (λ stmt. stmt) rest ≡ true
  pub ends : formed.last_formed last ≡ true

abbrev is_try : List Bool → List formed.Handled → List Bool → Option (List Bool) → Bool
is_try body handlers rest last =
    formed.body_formed body && ((formed.has_one handlers || is_some last) && ((formed.has_one handlers || not (formed.has_one rest))
    && (formed.tests_first handlers && (list_all (λ handler. handler.1) handlers && (list_all (λ stmt. stmt) rest && formed.last_formed last)))))

try_formed : (body : List Bool) (handlers : List formed.Handled) (rest : List Bool) (last : Option (List Bool)) → is_try body handlers rest last ≡ true → TryFormed body handlers rest last
try_formed body handlers rest last e =
    let a = and_right (formed.body_formed body) _ e in
    let b = and_right (formed.has_one handlers || is_some last) _ a in
    let c = and_right (formed.has_one handlers || not (formed.has_one rest)) _ b in
    let d = and_right (formed.tests_first handlers) _ c in
    let f = and_right (list_all (λ handler. handler.1) handlers) _ d in
    record {
      inner = and_left (formed.body_formed body) _ e;
      handled = and_left (formed.has_one handlers || not (formed.has_one rest)) _ b;
      tests = and_left (formed.tests_first handlers) _ c;
      each = and_left (list_all (λ handler. handler.1) handlers) _ d;
      others = and_left (list_all (λ stmt. stmt) rest) _ f;
      ends = and_right (list_all (λ stmt. stmt) rest) _ f;
    }

-- ---- the layers

module _ {K B H S : Type 0} (fk : K → StmtKind) (fb : B → Branch) (fh : H → Handler) (fs : S → Stmt) (hk : (k : K) → Kind (fk k)) (hb : (b : B) → Of_branch (fb b)) (hh : (h : H) → Of_handler (fh h)) (hs : (s : S) → Of_stmt (fs s)) where
  abbrev pub kind_at : StmtKind-F K B H S → StmtKind-F StmtKind Branch Handler Stmt
  kind_at = map-StmtKind K B H S StmtKind Branch Handler Stmt fk fb fh fs

  abbrev pub branch_at : Branch-F K B H S → Branch-F StmtKind Branch Handler Stmt
  branch_at = map-Branch K B H S StmtKind Branch Handler Stmt fk fb fh fs

  abbrev pub handler_at : Handler-F K B H S → Handler-F StmtKind Branch Handler Stmt
  handler_at = map-Handler K B H S StmtKind Branch Handler Stmt fk fb fh fs

  abbrev pub stmt_at : Stmt-F K B H S → Stmt-F StmtKind Branch Handler Stmt
  stmt_at = map-Stmt K B H S StmtKind Branch Handler Stmt fk fb fh fs

  abbrev block_of : List S → plain.Part tree.Block
  block_of ss = plain.block (map plain.plain_stmt (map fs ss))

  abbrev told : List S → Events
  told ss looped = events.body looped (map events.stmt_events (map fs ss))

  abbrev declared : List S → Globals
  declared ss = all (map globals.stmt_globals (map fs ss))

  abbrev AreFormed : List S → Type 0
  AreFormed ss = list_all (λ stmt. stmt) (map formed.stmt_formed (map fs ss)) ≡ true

  body_fits : (ss : List S) → formed.body_formed (map formed.stmt_formed (map fs ss)) ≡ true → BlockFits (block_of ss) (told ss) (declared ss)
  body_fits ss e = block_fits fs hs ss (and_right _ _ e)

  else_fits : (ss : List S) → AreFormed ss → BranchesFit (plain.also (plain.part tree.Else) (block_of ss)) (told ss) (declared ss)
  else_fits ss e n looped =
      moved (let a : n + 0 ≡ n = omega arith in a) (let a : n + 0 + (block_of ss).defs ≡ n + (0 + (block_of ss).defs) = omega arith in a) (block_fits fs hs ss e (n + 0) looped)

  if_fits : (bs : List B) (ss : List S) → list_all (λ branch. branch) (map formed.branch_formed (map fb bs)) ≡ true → AreFormed ss
      → KindFits (plain.kind_step (StmtKind-F.If (map plain_branch (map fb bs)) (map plain.plain_stmt (map fs ss)))) (events.kind_step (StmtKind-F.If (map events.branch_events (map fb bs)) (map events.stmt_events (map fs ss))))
      (globals.kind_step (StmtKind-F.If (map branch_globals (map fb bs)) (map globals.stmt_globals (map fs ss))))
  if_fits bs ss e f n line looped =
      let parts = plain.chain (map plain_branch (map fb bs)) (plain.also (plain.part tree.Else) (block_of ss)) in
      moved (let a : n + 0 ≡ n = omega arith in a) (let a : n + 0 + parts.defs ≡ n + (0 + parts.defs) = omega arith in a)
      (branches_fit fb hb (plain.also (plain.part tree.Else) (block_of ss)) (told ss) (declared ss) (else_fits ss f) bs e (n + 0) looped)

  abbrev formed_each : List S → List Bool
  formed_each ss = map formed.stmt_formed (map fs ss)

  abbrev handled_each : List H → List formed.Handled
  handled_each hs = map formed.handled (map fh hs)

  abbrev clauses_of : List H → plain.Part tree.Handlers
  clauses_of handlers = plain.chain (map plain_handler (map fh handlers)) (plain.part tree.NoHandler)

  abbrev clauses_told : List H → Events
  clauses_told handlers looped = events.body looped (map events.handler_events (map fh handlers))

  abbrev clauses_declared : List H → Globals
  clauses_declared handlers = all (map handler_globals (map fh handlers))

  -- a `try` goes on with a handler or a `finally`
  try_alone : (inner : List S) (handlers : List H) (rest : List S) → TryFormed (formed_each inner) (handled_each handlers) (formed_each rest) None → (n : ℕ) (looped : Bool)
      → FitsStmt n (n + ((0 + (block_of inner).defs + (clauses_of handlers).defs) + (block_of rest).defs)) looped (told inner looped ++ (clauses_told handlers looped ++ (told rest looped ++ [])))
      (tree.Try ((block_of inner).make (n + 0)) ((clauses_of handlers).make (n + (0 + (block_of inner).defs))) ((block_of rest).make (n + (0 + (block_of inner).defs + (clauses_of handlers).defs))))
      (and_then (declared inner) (and_then (clauses_declared handlers) (and_then (declared rest) none)))
  try_alone inner handlers rest t n looped =
      try_fits (block_of inner) (block_of rest) (clauses_of handlers) (told inner) (told rest) (clauses_told handlers) (declared inner) (declared rest) (clauses_declared handlers)
      (body_fits inner t.inner) (handlers_fit fh hh handlers t.tests t.each) (block_fits fs hs rest t.others) n looped

  try_last : (inner : List S) (handlers : List H) (rest last : List S) → TryFormed (formed_each inner) (handled_each handlers) (formed_each rest) (Some (formed_each last)) → (n line : ℕ) (looped : Bool)
      → FitsStmt n (n + (plain.try_of (block_of inner) (map plain_handler (map fh handlers)) (block_of rest) (Some (map plain.plain_stmt (map fs last)))).defs) looped (told inner looped ++ (clauses_told handlers looped ++ (told rest looped ++ told last looped)))
      ((plain.try_of (block_of inner) (map plain_handler (map fh handlers)) (block_of rest) (Some (map plain.plain_stmt (map fs last)))).make n)
      (and_then (declared inner) (and_then (clauses_declared handlers) (and_then (declared rest) (declared last))))
  try_last inner [] [] last t n line looped =
      finally_fits (block_of inner) (block_of last) (told inner) (told last) (declared inner) (declared last) (body_fits inner t.inner) (body_fits last t.ends) n looped
  try_last inner [] (s ∷ rest) last t n line looped = let e : false ≡ true = t.handled in absurd cc
  try_last inner (c ∷ cs) rest last t n line looped =
      try_finally_fits (block_of inner) (block_of rest) (clauses_of (c ∷ cs)) (told inner) (told rest) (clauses_told (c ∷ cs)) (declared inner) (declared rest) (clauses_declared (c ∷ cs))
      (body_fits inner t.inner) (handlers_fit fh hh (c ∷ cs) t.tests t.each) (block_fits fs hs rest t.others) (block_of last) (told last looped) (declared last) n looped _ refl
      (body_fits last t.ends _ looped)

  pub kind_layer : (y : StmtKind-F K B H S) → formed_of_kind (kind_at y) ≡ true → KindFits (plain_of_kind (kind_at y)) (events_of_kind (kind_at y)) (globals_of_kind (kind_at y))
  kind_layer (StmtKind-F.Expr value) e n line looped = quiet_fits n line _ (quiet value)
  kind_layer (StmtKind-F.Assign targets value) e n line looped = assign_fits targets value e n line looped
  kind_layer (StmtKind-F.Aug target how value) e n line looped =
      augmented_fits (plain.plain_target target) how (plain.plain_expr value) n line looped _ (single target (and_left _ _ e)) (behind (named target (and_left _ _ (and_right _ _ e))) (quiet value))
  kind_layer (StmtKind-F.Del targets) e n line looped = delete_fits targets e n line looped
  kind_layer StmtKind-F.Pass e n line looped = empty_fits n (n + 0) (omega arith)
  kind_layer StmtKind-F.Break e n line looped = jump_fits n line looped
  kind_layer StmtKind-F.Continue e n line looped = jump_fits n line looped
  kind_layer (StmtKind-F.Return None) e n line looped = return_fits n line None looped
  kind_layer (StmtKind-F.Return (Some value)) e n line looped = return_fits n line (Some value) looped
  kind_layer (StmtKind-F.Raise None) e n line looped = raise_fits n line None looped
  kind_layer (StmtKind-F.Raise (Some value)) e n line looped = raise_fits n line (Some value) looped
  kind_layer (StmtKind-F.Global names) e n line looped = acts_fit n (n + 0) line _ [] names (omega arith) (declarations_say names)
  kind_layer (StmtKind-F.Import names) e n line looped = named_fits n line _ _ (imports_say names)
  kind_layer (StmtKind-F.From path names) e n line looped = named_fits n line _ _ (imports_say names)
  kind_layer (StmtKind-F.Assert test None) e n line looped = assert_fits n line test None looped
  kind_layer (StmtKind-F.Assert test (Some message)) e n line looped = assert_fits n line test (Some message) looped
  kind_layer (StmtKind-F.If branches rest) e n line looped = if_fits branches rest (and_left _ _ (and_right _ _ e)) (and_right _ _ (and_right _ _ e)) n line looped
  kind_layer (StmtKind-F.While test inner rest) e n line looped =
      loop_fits line (events.acts_of test) [] (quiet test) (block_of inner) (block_of rest) (told inner) (told rest) (declared inner) (declared rest) (body_fits inner (and_left _ _ (and_right _ _ e))) (block_fits fs hs rest (and_right _ _ (and_right _ _ e))) n looped
  kind_layer (StmtKind-F.For target over inner rest) e n line looped =
      let behind_target = and_right (formed.target_formed target) _ e in
      let blocks = and_right (formed.expr_formed over) _ behind_target in
      loop_fits line _ (names_to (plain.plain_target target)) (behind (named target (and_left (formed.target_formed target) _ e)) (quiet over)) (block_of inner) (block_of rest) (told inner) (told rest) (declared inner) (declared rest)
      (body_fits inner (and_left (formed.body_formed (formed_each inner)) _ blocks)) (block_fits fs hs rest (and_right (formed.body_formed (formed_each inner)) _ blocks)) n looped
  kind_layer (StmtKind-F.Try inner handlers rest None) e n line looped = try_alone inner handlers rest (try_formed _ _ _ None e) n looped
  kind_layer (StmtKind-F.Try inner handlers rest (Some last)) e n line looped = try_last inner handlers rest last (try_formed _ _ _ (Some (formed_each last)) e) n line looped
  kind_layer (StmtKind-F.Def name params inner) e n line looped =
      let body = block_of inner in
      def_fits n (n + suc body.defs) line name params (tree.count (plain.defaults_of params)) _ (defaults_quiet params) (params_differ params (and_left (formed.names_differ params) _ (and_right (list_all formed.param_formed params) _ (and_left (formed.params_formed params) _ (and_right (formed.is_ascii name) _ e))))) (body.make (suc n))
      (moved refl (let a : suc n + body.defs ≡ n + suc body.defs = omega arith in a) (body_fits inner (and_right _ _ (and_right _ _ e)) (suc n) false))

  pub branch_layer : (y : Branch-F K B H S) → formed_of_branch (branch_at y) ≡ true → BranchFits (plain_of_branch (branch_at y)) (events_of_branch (branch_at y)) (globals_of_branch (branch_at y))
  branch_layer y e n past looped rest behind_it more x =
      let body = block_of y.body in
      let inside = body_fits y.body (and_right (formed.expr_formed y.test) _ e) in
      let front = fits_on (quiet_fits n y.line (events.acts_of y.test) (quiet y.test)) (inside (n + 0) looped) in
      recast refl refl refl refl refl refl (λ around w. (w.0.1, w.1)) refl
      (fits_on front (moved (let a : n + (0 + body.defs) ≡ n + 0 + body.defs = omega arith in a) refl x))

  pub stmt_layer : (y : Stmt-F K B H S) → formed_of_stmt (stmt_at y) ≡ true → StmtFits (plain_of_stmt (stmt_at y)) (events_of_stmt (stmt_at y)) (globals_of_stmt (stmt_at y))
  stmt_layer y e n past looped rest behind_it more x =
      let kind = plain_kind (fk y.kind) in
      fits_on (moved (let a : n + 0 ≡ n = omega arith in a) refl (hk y.kind e (n + 0) y.line looped)) (moved (let a : n + (0 + kind.defs) ≡ n + 0 + kind.defs = omega arith in a) refl x)

  -- a handler's line, its test and its name, and its body
  handler_fits : (line : ℕ) (test : Option Expr) (name : Option Name) (body : List S) → (formed.handler_step (record { line = line; test = test; name = name; body = formed_each body })).1 ≡ true
      → HandlerFits (plain.also (plain.part (plain.handler_of line test name)) (block_of body)) (λ looped. events.at line (events.acts_of_option test ++ events.optional_name name) ++ told body looped) (declared body) (is_some test)
  handler_fits line None None body e = record {
    before = λ t. cc;
    alone = λ t n looped rest.
        moved (let a : n + 0 ≡ n = omega arith in a) (let a : n + 0 + (block_of body).defs ≡ n + (0 + (block_of body).defs) = omega arith in a) (body_fits body e (n + 0) looped);
  }
  handler_fits line None (Some name) body e = let k : false ≡ true = e in absurd cc
  handler_fits line (Some test) None body e = record {
    before = λ t n past looped rest behind_it more x.
        recast refl refl refl refl refl refl (λ around w. (w.0.1, w.1)) refl
        (fits_on (fits_on (quiet_fits n line _ (said (quiet test) nothing)) (body_fits body (and_right (formed.expr_formed test) _ e) (n + 0) looped))
        (moved (let a : n + (0 + (block_of body).defs) ≡ n + 0 + (block_of body).defs = omega arith in a) refl x));
    alone = λ t. cc;
  }
  handler_fits line (Some test) (Some name) body e = record {
    before = λ t n past looped rest behind_it more x.
        recast refl refl refl refl refl refl (λ around w. (w.0.1, w.1)) refl
        (fits_on (fits_on (named_fits n line _ (name ∷ []) (said (quiet test) (bound_once name))) (body_fits body (and_right _ _ (and_right _ _ e)) (n + 0) looped))
        (moved (let a : n + (0 + (block_of body).defs) ≡ n + 0 + (block_of body).defs = omega arith in a) refl x));
    alone = λ t. cc;
  }

  pub handler_layer : (y : Handler-F K B H S) → (formed_of_handler (handler_at y)).1 ≡ true → HandlerFits (plain_of_handler (handler_at y)) (events_of_handler (handler_at y)) (globals_of_handler (handler_at y)) (formed_of_handler (handler_at y)).0
  handler_layer y e = handler_fits y.line y.test y.name y.body e
