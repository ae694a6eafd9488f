-- Rows of parts: blocks, branches and handlers.
use Rattle.std.proofs.Common.{◌≡◌, ℕ, ◌+◌, Bool, true, false, ◌||◌, List, [], ◌∷◌, ◌++◌, append_assoc, map, refl, sym, ap₂, ◌⊎◌, inl, inr, arith}
use Rattle.std.specs.List.{list_all}
use Rattle.std.proofs.lemmas.List.{append-nil}
use Rattle.py_scopes.specs.py_tree.declared.stmt.Stmt.{Stmt}
use Rattle.py_scopes.specs.py_tree.declared.stmt.Branch.{Branch}
use Rattle.py_scopes.specs.py_tree.declared.stmt.Handler.{Handler}
use Rattle.py_scopes.specs.py_tree.declared.stmt.StmtKind.{StmtKind}
use Rattle.py_scopes.specs.py_tree.Formed as formed
use Rattle.py_scopes.specs.declared.event.Event.{Event}
use Rattle.py_scopes.specs.Events as events
use Rattle.py_meaning.specs.Tree as tree
use Rattle.py_meaning.specs.Tree.{Name, Function}
use Rattle.py_meaning.specs.Plain as plain
use Rattle.py_meaning.specs.Globals.{Globals, none, and_then, all}
use Rattle.py_meaning.specs.Globals as globals
use Rattle.py_meaning.proofs.Steps.{plain_kind, plain_branch, plain_handler, kind_events, kind_globals, branch_globals, handler_globals}
use Rattle.py_meaning.proofs.Acts.{and_left, and_right}
use Rattle.py_meaning.proofs.Fits.{FitsStmt, FitsBlock, FitsBranches, FitsHandlers, empty_fits, recast, moved}

-- ---- what is said of a part

abbrev pub Events : Type 0
Events = Bool → List Event

-- a statement's kind
abbrev pub KindFits : plain.Part tree.Stmt → (ℕ → Events) → Globals → Type 0
KindFits p es g = (n line : ℕ) (looped : Bool) → FitsStmt n (n + p.defs) looped (es line looped) (p.make n) g

-- a statement, in front of others
abbrev pub StmtFits : plain.Part (tree.Block → tree.Block) → Events → Globals → Type 0
StmtFits p es g = (n past : ℕ) (looped : Bool) (rest : tree.Block) (behind : List Event) (more : Globals)
    → FitsBlock (n + p.defs) past looped behind rest more → FitsBlock n past looped (es looped ++ behind) (p.make n rest) (and_then g more)

abbrev pub BranchFits : plain.Part (tree.Branches → tree.Branches) → Events → Globals → Type 0
BranchFits p es g = (n past : ℕ) (looped : Bool) (rest : tree.Branches) (behind : List Event) (more : Globals)
    → FitsBranches (n + p.defs) past looped behind rest more → FitsBranches n past looped (es looped ++ behind) (p.make n rest) (and_then g more)

-- a handler with a test stands in front of others, and one without stands alone
pub record HandlerFits (p : plain.Clause) (es : Events) (g : Globals) (tested : Bool) : Type 0 where
  pub before : tested ≡ true → (n past : ℕ) (looped : Bool) (rest : tree.Handlers) (behind : List Event) (more : Globals)
      → FitsHandlers (n + p.defs) past looped behind rest more → FitsHandlers n past looped (es looped ++ behind) (p.make n rest) (and_then g more)
  pub alone : tested ≡ false → (n : ℕ) (looped : Bool) (rest : tree.Handlers) → FitsHandlers n (n + p.defs) looped (es looped) (p.make n rest) g

abbrev pub BlockFits : plain.Part tree.Block → Events → Globals → Type 0
BlockFits p es g = (n : ℕ) (looped : Bool) → FitsBlock n (n + p.defs) looped (es looped) (p.make n) g

abbrev pub BranchesFit : plain.Part tree.Branches → Events → Globals → Type 0
BranchesFit p es g = (n : ℕ) (looped : Bool) → FitsBranches n (n + p.defs) looped (es looped) (p.make n) g

abbrev pub HandlersFit : plain.Part tree.Handlers → Events → Globals → Type 0
HandlersFit p es g = (n : ℕ) (looped : Bool) → FitsHandlers n (n + p.defs) looped (es looped) (p.make n) g

-- ---- what holds of each

abbrev pub Kind : StmtKind → Type 0
Kind k = formed.kind_formed k ≡ true → KindFits (plain_kind k) (kind_events k) (kind_globals k)

abbrev pub Of_branch : Branch → Type 0
Of_branch b = formed.branch_formed b ≡ true → BranchFits (plain_branch b) (events.branch_events b) (branch_globals b)

abbrev pub Of_handler : Handler → Type 0
Of_handler h = (formed.handled h).1 ≡ true → HandlerFits (plain_handler h) (events.handler_events h) (handler_globals h) (formed.handled h).0

abbrev pub Of_stmt : Stmt → Type 0
Of_stmt s = formed.stmt_formed s ≡ true → StmtFits (plain.plain_stmt s) (events.stmt_events s) (globals.stmt_globals s)

-- ---- nothing behind

pub none_behind : (g : Globals) → and_then g none ≡ g
none_behind g = ap₂ (λ (own : List Name) (inner : List (List Name)). record { own = own; inner = inner }) (append-nil g.own) (append-nil g.inner)

pub grouped : (f g h : Globals) → and_then (and_then f g) h ≡ and_then f (and_then g h)
grouped f g h = ap₂ (λ (own : List Name) (inner : List (List Name)). record { own = own; inner = inner }) (append_assoc f.own g.own h.own) (append_assoc f.inner g.inner h.inner)

-- ---- rows

module _ {S : Type 0} (f : S → Stmt) (h : (s : S) → Of_stmt (f s)) where
  -- statements
  pub block_fits : (ss : List S) → list_all (λ stmt. stmt) (map formed.stmt_formed (map f ss)) ≡ true
      → BlockFits (plain.block (map plain.plain_stmt (map f ss))) (λ looped. events.body looped (map events.stmt_events (map f ss))) (all (map globals.stmt_globals (map f ss)))
  block_fits [] e n looped = empty_fits n (n + 0) (omega arith)
  block_fits (s ∷ ss) e n looped =
      let p = plain.plain_stmt (f s) in
      let rest = plain.block (map plain.plain_stmt (map f ss)) in
      h s (and_left _ _ e) n (n + (p.defs + rest.defs)) looped (rest.make (n + p.defs)) _ _
      (moved refl (let a : (n + p.defs) + rest.defs ≡ n + (p.defs + rest.defs) = omega arith in a) (block_fits ss (and_right _ _ e) (n + p.defs) looped))

module _ {S : Type 0} (f : S → Branch) (h : (s : S) → Of_branch (f s)) (last : plain.Part tree.Branches) (es : Events) (g : Globals) (k : BranchesFit last es g) where
  -- branches in front of the last one
  pub branches_fit : (ss : List S) → list_all (λ branch. branch) (map formed.branch_formed (map f ss)) ≡ true
      → BranchesFit (plain.chain (map plain_branch (map f ss)) last) (λ looped. events.body looped (map events.branch_events (map f ss)) ++ es looped) (and_then (all (map branch_globals (map f ss))) g)
  branches_fit [] e n looped = k n looped
  branches_fit (s ∷ ss) e n looped =
      let p = plain_branch (f s) in
      let rest = plain.chain (map plain_branch (map f ss)) last in
      recast refl refl (sym (append_assoc (events.branch_events (f s) looped) (events.body looped (map events.branch_events (map f ss))) (es looped))) refl refl refl (λ inside w. w)
      (sym (grouped (branch_globals (f s)) (all (map branch_globals (map f ss))) g))
      (h s (and_left _ _ e) n (n + (p.defs + rest.defs)) looped (rest.make (n + p.defs)) _ _
      (moved refl (let a : (n + p.defs) + rest.defs ≡ n + (p.defs + rest.defs) = omega arith in a) (branches_fit ss (and_right _ _ e) (n + p.defs) looped)))

bool_is : (b : Bool) → (b ≡ true) ⊎ (b ≡ false)
bool_is true = inl refl
bool_is false = inr refl

or_false : (b : Bool) → (b || false) ≡ true → b ≡ true
or_false true e = refl
or_false false e = e

module _ {S : Type 0} (f : S → Handler) (h : (s : S) → Of_handler (f s)) where
  abbrev chained : List S → plain.Part tree.Handlers
  chained ss = plain.chain (map plain_handler (map f ss)) (plain.part tree.NoHandler)

  abbrev told : List S → Events
  told ss looped = events.body looped (map events.handler_events (map f ss))

  abbrev declared : List S → Globals
  declared ss = all (map handler_globals (map f ss))

  -- one in front of others
  before_others : (s : S) (ss : List S) (rest : plain.Part tree.Handlers) (tested : Bool) → tested ≡ true → HandlerFits (plain_handler (f s)) (events.handler_events (f s)) (handler_globals (f s)) tested
      → HandlersFit rest (told ss) (declared ss) → HandlersFit (plain.also (plain_handler (f s)) rest) (told (s ∷ ss)) (declared (s ∷ ss))
  before_others s ss rest tested e x k n looped =
      let p = plain_handler (f s) in
      x.before e n (n + (p.defs + rest.defs)) looped (rest.make (n + p.defs)) _ _
      (moved refl (let a : (n + p.defs) + rest.defs ≡ n + (p.defs + rest.defs) = omega arith in a) (k (n + p.defs) looped))

  -- the last one
  behind_others : (s : S) (tested : Bool) → tested ≡ false → HandlerFits (plain_handler (f s)) (events.handler_events (f s)) (handler_globals (f s)) tested
      → HandlersFit (chained (s ∷ [])) (told (s ∷ [])) (declared (s ∷ []))
  behind_others s tested e x n looped =
      let p = plain_handler (f s) in
      recast refl (let a : n + p.defs ≡ n + (p.defs + 0) = omega arith in a) (sym (append-nil (events.handler_events (f s) looped))) refl refl refl (λ inside w. w) (sym (none_behind (handler_globals (f s))))
      (x.alone e n looped tree.NoHandler)

  -- all handlers of a `try`
  pub handlers_fit : (ss : List S) → formed.tests_first (map formed.handled (map f ss)) ≡ true → list_all (λ handler. handler.1) (map formed.handled (map f ss)) ≡ true → HandlersFit (chained ss) (told ss) (declared ss)
  handlers_fit [] t e = λ n looped. empty_fits n (n + 0) (omega arith)
  handlers_fit (s ∷ []) t e =
      elim (bool_is (formed.handled (f s)).0) [
        | inl yes_tested ↦ before_others s [] (chained []) (formed.handled (f s)).0 yes_tested (h s (and_left _ _ e)) (handlers_fit [] refl refl)
        | inr not_tested ↦ behind_others s (formed.handled (f s)).0 not_tested (h s (and_left _ _ e))
      ]
  handlers_fit (s ∷ (r ∷ rs)) t e =
      before_others s (r ∷ rs) (chained (r ∷ rs)) (formed.handled (f s)).0 (or_false (formed.handled (f s)).0 (and_left _ _ t)) (h s (and_left _ _ e)) (handlers_fit (r ∷ rs) (and_right _ _ t) (and_right _ _ e))
