-- Which code of statements stands between the ends of two drafts. A part of a source has its functions' numbers from any
-- first one on, and the code's children from an index up to another are its own functions.
use Rattle.std.specs.Prelude.{◌≡◌, ◌≤◌, ℕ, suc, ◌+◌, Bool, false, ◌||◌, length, Option, Some, None}
use Rattle.py_tree.specs.declared.expr.Expr as trees
use Rattle.emit_expr.specs.py_meaning.Tree.{Name, Expr, Stmt, Block, Branches, Case, Handlers}
use Rattle.emit_expr.specs.py_meaning.Plain.{Part, plain_expr, handler_of}
use Rattle.emit_expr.specs.bc_scheme.Statements.{StandsS, StandsB, StandsI, StandsH, is_over}
use Rattle.emit_expr.specs.emit_draft.declared.draft.Draft.{Draft}
use Rattle.emit_expr.specs.emit_draft.declared.scope.Scope.{Scope}
use Rattle.emit_expr.specs.emit_draft.Emits.{label_at, Emits}
use Rattle.emit_expr.specs.Crowded.{crowded}
use Rattle.emit_stmt.specs.declared.jumps.Loop.{Loop}
use Rattle.emit_stmt.specs.SimpleCrowded.{passes_entries}
use Rattle.emit_stmt.specs.SimpleEmits.{around_of}
use Rattle.emit_stmt.specs.Children.{made, made_in, made_by, AreChildren}
use Rattle.emit_stmt.specs.Crowded.{crowded_block, crowded_stmt, crowded_handlers}
use Rattle.emit_stmt.specs.Steps.{StandsMatched, StandsLast}

-- a block
pub record EmitsB (a b : Draft) (s : Scope) (around : Loop) (child after : ℕ) (part : Part Block) : Type 0 where
  pub few : after ≤ child + part.defs
  pub is : (n : ℕ) → after ≡ child + length (made (part.make n))
  pub by :
      (n : ℕ) → Emits (length a.labels.items) a b s false (crowded_block a.level around.entries (part.make n))
      (λ c labels p q. AreChildren c child (made (part.make n)) → StandsB c (around_of labels around) p (part.make n) q)

-- a statement
pub record EmitsP (a b : Draft) (s : Scope) (around : Loop) (line child after : ℕ) (part : Part Stmt) : Type 0 where
  pub few : after ≤ child + part.defs
  pub is : (n : ℕ) → after ≡ child + length (made_in (part.make n))
  pub by :
      (n : ℕ) → Emits (length a.labels.items) a b s false (crowded_stmt a.level around.entries (part.make n))
      (λ c labels p q. AreChildren c child (made_in (part.make n)) → StandsS c (around_of labels around) line p (part.make n) q)

-- a branch in front of others
pub record EmitsCase (a b : Draft) (s : Scope) (around : Loop) (end child after : ℕ) (over : Bool) (line : ℕ) (test : Expr) (body : Part Block) : Type 0 where
  pub few : after ≤ child + body.defs
  pub is : (n : ℕ) → after ≡ child + length (made (body.make n))
  pub by :
      (n : ℕ) → Emits (length a.labels.items) a b s false (crowded test || crowded_block a.level around.entries (body.make n))
      (λ c labels p q. AreChildren c child (made (body.make n)) → (others : Branches) (r : ℕ) → is_over others ≡ over
      → StandsI c (around_of labels around) (label_at labels end) q others r
      → StandsI c (around_of labels around) (label_at labels end) p (Case line test (body.make n) others) r)

-- clauses
pub record EmitsH (a b : Draft) (s : Scope) (around : Loop) (end child after : ℕ) (part : Part Handlers) : Type 0 where
  pub few : after ≤ child + part.defs
  pub is : (n : ℕ) → after ≡ child + length (made_by (part.make n))
  pub by :
      (n : ℕ) → Emits (length a.labels.items) a b s false (crowded_handlers a.level around.entries (part.make n))
      (λ c labels p q. AreChildren c child (made_by (part.make n)) → StandsH c (around_of labels around) (label_at labels end) p (part.make n) q)

-- a body of a clause, for which one entry more is held where the clause has a name
abbrev pub crowded_matched : (level entries : ℕ) → Option Name → Block → Bool
crowded_matched level entries None b = crowded_block level entries b
crowded_matched level entries (Some name) b = passes_entries (suc entries) || crowded_block level (suc entries) b

-- the code of such a body, with its functions' numbers from `child` up to `after`
pub record EmitsMatched (a b : Draft) (s : Scope) (around : Loop) (line child after : ℕ) (name : Option Name) (body : Part Block) : Type 0 where
  pub few : after ≤ child + body.defs
  pub is : (n : ℕ) → after ≡ child + length (made (body.make n))
  pub by :
      (n : ℕ) → Emits (length a.labels.items) a b s false (crowded_matched a.level around.entries name (body.make n))
      (λ c labels p q. AreChildren c child (made (body.make n)) → StandsMatched c (around_of labels around) line name p (body.make n) q)

-- a clause with a test in front of others
pub record EmitsClause (a b : Draft) (s : Scope) (around : Loop) (end child after line : ℕ) (test : trees.Expr) (name : Option Name)
    (body : Part Block) : Type 0 where
  pub few : after ≤ child + body.defs
  pub is : (n : ℕ) → after ≡ child + length (made (body.make n))
  pub by :
      (n : ℕ) → Emits (length a.labels.items) a b s false (crowded (plain_expr test) || crowded_matched a.level around.entries name (body.make n))
      (λ c labels p q. AreChildren c child (made (body.make n)) → (others : Handlers) (r : ℕ)
      → StandsH c (around_of labels around) (label_at labels end) q others r
      → StandsH c (around_of labels around) (label_at labels end) p (handler_of line (Some test) name (body.make n) others) r)

-- the end of a `try`, whose body stands at a label that was made before
pub record EmitsLast (a b : Draft) (s : Scope) (around : Loop) (behind child after : ℕ) (part : Part Block) : Type 0 where
  pub few : after ≤ child + part.defs
  pub is : (n : ℕ) → after ≡ child + length (made (part.make n))
  pub by :
      (k n : ℕ) → k ≤ behind → Emits k a b s false (crowded_block a.level around.entries (part.make n))
      (λ c labels p q. AreChildren c child (made (part.make n)) → StandsLast c (around_of labels around) p (part.make n) q × (label_at labels behind ≡ suc p))
