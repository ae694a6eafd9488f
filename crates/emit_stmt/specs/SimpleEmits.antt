-- Which code of a statement stands between the ends of two drafts.
use Rattle.std.specs.Prelude.{◌≡◌, ℕ, ◌+◌, Bool, false, List, ◌∷◌, length, Some, slice_get}
use Rattle.py_tree.specs.declared.stmt.Alias.{Alias}
use Rattle.emit_expr.specs.bc_machine.Library.{Name}
use Rattle.emit_expr.specs.py_meaning.Tree.{Target, Stmt, Def, Exprs, Block, count}
use Rattle.emit_expr.specs.bc_scheme.Context.{IsChild}
use Rattle.emit_expr.specs.bc_scheme.Statements.{Around, StandsT, StandsG, StandsR, StandsM, StandsN, StandsF, StandsJ, StandsDef, StandsS}
use Rattle.emit_expr.specs.emit_draft.declared.draft.Draft.{Draft}
use Rattle.emit_expr.specs.emit_draft.declared.scope.Scope.{Scope}
use Rattle.emit_expr.specs.emit_draft.Draft.{Labels}
use Rattle.emit_expr.specs.emit_draft.Emits.{label_at, Emits}
use Rattle.emit_stmt.specs.declared.jumps.Loop.{Loop}
use Rattle.emit_stmt.specs.SimpleCrowded.{crowded_target, crowded_gone, passes_entries, crowded_defaults, crowded_simple}

-- the loop around, in finished code
abbrev pub around_of : Labels → Loop → Around
around_of labels l = record { brk = label_at labels l.end; cont = label_at labels l.next; count = l.entries; iterator = l.iterator }

-- ---- whatever the finished code is, this stands in it

-- a store
pub record EmitsT (a b : Draft) (s : Scope) (line : ℕ) (target : Target) : Type 0 where
  pub by : Emits (length a.labels.items) a b s false (crowded_target target) (λ c labels p q. StandsT c line p target q)

-- a deletion
pub record EmitsG (a b : Draft) (s : Scope) (line : ℕ) (target : Target) : Type 0 where
  pub by : Emits (length a.labels.items) a b s false (crowded_gone target) (λ c labels p q. StandsG c line p target q)

-- a jump out of a loop
pub record EmitsJ (a b : Draft) (s : Scope) (line target entries : ℕ) (iterator : Bool) : Type 0 where
  pub by : Emits (length a.labels.items) a b s false (passes_entries entries) (λ c labels p q. StandsJ c line (label_at labels target) entries iterator p q)

-- ---- imports

-- attributes that are read one behind the other
pub record EmitsR (a b : Draft) (s : Scope) (line : ℕ) (names : List Name) : Type 0 where
  pub by : Emits (length a.labels.items) a b s false false (λ c labels p q. StandsR c line p names q)

-- one name, in front of others
pub record EmitsM (a b : Draft) (s : Scope) (line : ℕ) (alias : Alias) : Type 0 where
  pub by :
      Emits (length a.labels.items) a b s false false
      (λ c labels p q. (aliases : List Alias) (r : ℕ) → StandsM c line q aliases r → StandsM c line p (alias ∷ aliases) r)

-- names as texts, and names that are taken from a module
pub record EmitsN (a b : Draft) (s : Scope) (line : ℕ) (aliases : List Alias) : Type 0 where
  pub by : Emits (length a.labels.items) a b s false false (λ c labels p q. StandsN c line p aliases q)

-- names that are taken from the module on top
pub record EmitsF (a b : Draft) (s : Scope) (line : ℕ) (aliases : List Alias) : Type 0 where
  pub by : Emits (length a.labels.items) a b s false false (λ c labels p q. StandsF c line p aliases q)

-- ---- statements

-- a statement that has no statements in it
pub record EmitsS (a b : Draft) (s : Scope) (around : Loop) (line : ℕ) (stmt : Stmt) : Type 0 where
  pub by : Emits (length a.labels.items) a b s false (crowded_simple a.level around.entries stmt)
      (λ c labels p q. StandsS c (around_of labels around) line p stmt q)

-- what stands in front of a function's store, where the child of this index among the code's own is its code
pub record EmitsMaking (a b : Draft) (s : Scope) (line child : ℕ) (defaults : Exprs) : Type 0 where
  pub by :
      Emits (length a.labels.items) a b s false (crowded_defaults defaults)
      (λ c labels p q. (number_of : ℕ) → slice_get c.children child ≡ Some number_of → StandsDef c line number_of p defaults q)

-- a function, where the child of this index among the code's own is its code
pub record EmitsDef (a b : Draft) (s : Scope) (line child number : ℕ) (name : Name) (defaults : Exprs) : Type 0 where
  pub by :
      Emits (length a.labels.items) a b s false (crowded_defaults defaults)
      (λ c labels p q. slice_get c.children child ≡ Some (c.base + number) → IsChild c (c.base + number) name (count defaults)
      → (around : Around) (params : List Name) (body : Block) → StandsS c around line p (Def number name params defaults body) q)
