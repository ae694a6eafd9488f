-- What stands behind a body, in clauses, and one entry more in a loop.
use Rattle.std.specs.Prelude.{◌≡◌, ℕ, suc, false, ◌||◌, List, [], ◌∷◌, ◌++◌, Option, Some, None, length}
use Rattle.emit_expr.specs.bc_machine.bc_ops.declared.instr.Op.TheVariants as ops
use Rattle.emit_expr.specs.bc_machine.Library.{Name, Item, Jumps}
use Rattle.emit_expr.specs.py_meaning.Tree.{Expr, Block}
use Rattle.emit_expr.specs.bc_scheme.Context.{Context, Has, Behind, plain, stores, deletes, matching}
use Rattle.emit_expr.specs.bc_scheme.Expressions.{StandsE}
use Rattle.emit_expr.specs.bc_scheme.Statements.{Around, deeper, StandsB}
use Rattle.emit_expr.specs.emit_draft.declared.draft.Draft.{Draft}
use Rattle.emit_expr.specs.emit_draft.declared.draft.DraftItem.{DraftItem}
use Rattle.emit_expr.specs.emit_draft.declared.draft.DraftLine.{DraftLine}
use Rattle.emit_expr.specs.emit_draft.declared.scope.Scope.{Scope}
use Rattle.emit_expr.specs.emit_draft.Emits.{label_at, Emits}
use Rattle.emit_expr.specs.Crowded.{crowded}
use Rattle.emit_stmt.specs.declared.jumps.Loop.{Loop}
use Rattle.emit_stmt.specs.SimpleCrowded.{passes_entries}

-- ---- steps of a draft

-- the line of the last instruction; the given one where there is none
abbrev pub last_line : ℕ → List DraftLine → ℕ
last_line line [] = line
last_line line (x ∷ xs) = last_line x.line xs

-- the instruction stands at the end with the line of the one before it, and nothing else has changed
pub record PutsBehind (a b : Draft) (item : DraftItem) : Type 0 where
  pub lines : b.lines ≡ a.lines ++ record { item = item; line = last_line 1 a.lines } ∷ []
  pub labels : b.labels.items ≡ a.labels.items
  pub level : b.level ≡ a.level
  pub crowded : b.crowded ≡ a.crowded

-- the loop around with one entry more
abbrev pub deeper_loop : Loop → Loop
deeper_loop l = record l { entries = suc l.entries }

-- the loop with one held entry more, or the draft is crowded
pub record Deepens (a b : Draft) (around inner : Loop) : Type 0 where
  pub within : passes_entries (suc around.entries) ≡ false → inner ≡ deeper_loop around
  pub lines : b.lines ≡ a.lines
  pub labels : b.labels.items ≡ a.labels.items
  pub level : b.level ≡ a.level
  pub crowded : b.crowded ≡ (a.crowded || passes_entries (suc around.entries))

-- ---- parts of patterns

-- an instruction with the line of the one before it
pub data IsBehind (c : Context) (p : ℕ) (item : Item) : (q : ℕ) → Type 0 where
  behind : Behind c p item → IsBehind c p item (suc p)

-- the test of a clause, which goes on elsewhere where it doesn't match
pub data IsMatch (c : Context) (line : ℕ) (p : ℕ) (test : Expr) (other : ℕ) : (q : ℕ) → Type 0 where
  match : {m : ℕ} → Has c line p (plain ops.DupTop) → StandsE c line (suc p) test m → Has c line m matching
      → Has c line (suc m) (Jumps ops.PopJumpIfFalse other)
      → IsMatch c line p test other (suc (suc m))

-- the end of the name of a clause
pub data IsGone (c : Context) (p : ℕ) (name : Name) : (q : ℕ) → Type 0 where
  gone : Behind c p (plain ops.LoadConstNone) → Behind c (suc p) (stores c name) → Behind c (suc (suc p)) (deletes c name)
      → Behind c (suc (suc (suc p))) (plain ops.EndFinally) → IsGone c p name (suc (suc (suc (suc p))))

-- the body of a clause that matches
pub data StandsMatched (c : Context) (a : Around) (line : ℕ) : Option Name → (p : ℕ) → Block → (q : ℕ) → Type 0 where
  unnamed : {p q : ℕ} {b : Block} → Has c line p (plain ops.PopTop) → StandsB c a (suc p) b q → StandsMatched c a line None p b q
  named : {p j q : ℕ} {x : Name} {b : Block} → Has c line p (stores c x) → Has c line (suc p) (Jumps ops.SetupFinally (suc j))
      → StandsB c (deeper a) (suc (suc p)) b j
      → Behind c j (plain ops.LoadConstNone) → IsGone c (suc j) x q → StandsMatched c a line (Some x) p b q

-- the end of a `try`
pub data StandsLast (c : Context) (a : Around) (p : ℕ) (last : Block) : (q : ℕ) → Type 0 where
  stands_last : {k : ℕ} → Behind c p (plain ops.LoadConstNone) → StandsB c a (suc p) last k → Behind c k (plain ops.EndFinally) → StandsLast c a p last (suc k)

-- ---- whatever the finished code is, this stands in it

-- the test of an except clause, which jumps to the label `other` where it fails
pub record EmitsMatch (a b : Draft) (s : Scope) (line : ℕ) (test : Expr) (other : ℕ) : Type 0 where
  pub by : Emits (length a.labels.items) a b s false (crowded test) (λ c labels p q. IsMatch c line p test (label_at labels other) q)

-- the end of the name of an except clause
pub record EmitsGone (a b : Draft) (s : Scope) (name : Name) : Type 0 where
  pub by : Emits (length a.labels.items) a b s false false (λ c labels p q. IsGone c p name q)
