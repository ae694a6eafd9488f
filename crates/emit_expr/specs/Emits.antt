-- Which code stands between the ends of two drafts.
use Rattle.std.specs.Prelude.{◌≡◌, ℕ, suc, ◌+◌, ◌*◌, true, false, List, length, map, nat_lt}
use Rattle.emit_draft.specs.bc_scheme.bc_ops.declared.instr.Op.{Op}
use Rattle.emit_draft.specs.bc_scheme.bc_ops.declared.instr.Op.TheVariants as ops
use Rattle.emit_draft.specs.bc_scheme.bc_machine.Library.{Item}
use Rattle.py_tree.specs.declared.expr.CompareOp.{CompareOp}
use Rattle.py_tree.specs.declared.expr.Expr as trees
use Rattle.emit_draft.specs.bc_scheme.py_meaning.Tree.{Name, Expr, And, Or, Exprs, Pairs, Keys, count, key_count}
use Rattle.emit_draft.specs.bc_scheme.py_meaning.Plain.{plain_expr, compares, call_of}
use Rattle.emit_draft.specs.bc_scheme.Context.{Context, Has, number}
use Rattle.emit_draft.specs.bc_scheme.Expressions.{StandsE, StandsEs, StandsC, StandsD, StandsK}
use Rattle.emit_draft.specs.declared.draft.Draft.{Draft}
use Rattle.emit_draft.specs.declared.scope.Scope.{Scope}
use Rattle.emit_draft.specs.Emits.{Emits, IsPut}
use Rattle.emit_expr.specs.declared.expr.Connective.{Connective}
use Rattle.emit_expr.specs.declared.expr.Connective.TheVariants as connectives
use Rattle.emit_expr.specs.Crowded.{crowded, crowded_all, crowded_in, crowded_pairs, crowded_keys}

-- ---- plain trees of lists

-- operands of `and` or of `or`
abbrev pub joins : Connective → Expr → Exprs → Expr
joins connectives.And = And
joins connectives.Or = Or

-- the jump behind an operand that isn't the last
abbrev pub jump_of : Connective → Op
jump_of connectives.And = ops.JumpIfFalseOrPop
jump_of connectives.Or = ops.JumpIfTrueOrPop

-- the links of a comparison
abbrev pub plain_links : List (CompareOp × trees.Expr) → List (CompareOp × Expr)
plain_links links = map (λ (link : CompareOp × trees.Expr). (link.0, plain_expr link.1)) links

-- the pairs of a dict display
abbrev pub plain_pairs : List (trees.Expr × trees.Expr) → List (Expr × Expr)
plain_pairs pairs = map (λ (pair : trees.Expr × trees.Expr). (plain_expr pair.0, plain_expr pair.1)) pairs

-- keyword arguments
abbrev pub plain_keys : List (Name × trees.Expr) → List (Name × Expr)
plain_keys keys = map (λ (key : Name × trees.Expr). (key.0, plain_expr key.1)) keys

-- ---- whatever the finished code is, this stands in it

-- one instruction, by the finished code
pub record PutsAs (a b : Draft) (s : Scope) (line : ℕ) (of : Context → Item) : Type 0 where
  pub by : Emits (length a.labels.items) a b s false false (λ c labels p q. IsPut c line p (of c) q)

-- a comparison
pub record EmitsC (a b : Draft) (s : Scope) (line : ℕ) (op : CompareOp) : Type 0 where
  pub by : Emits (length a.labels.items) a b s false false (λ c labels p q. StandsC c line p op q)

-- an expression
pub record EmitsE (a b : Draft) (s : Scope) (line : ℕ) (e : Expr) : Type 0 where
  pub by : Emits (length a.labels.items) a b s false (crowded e) (λ c labels p q. StandsE c line p e q)

-- expressions one behind the other
pub record EmitsEs (a b : Draft) (s : Scope) (line : ℕ) (es : Exprs) : Type 0 where
  pub by : Emits (length a.labels.items) a b s false (crowded_all es) (λ c labels p q. StandsEs c line p es q)

-- the pairs of a dict display
pub record EmitsD (a b : Draft) (s : Scope) (line : ℕ) (pairs : Pairs) : Type 0 where
  pub by : Emits (length a.labels.items) a b s false (crowded_pairs pairs) (λ c labels p q. StandsD c line p pairs q)

-- keyword arguments
pub record EmitsK (a b : Draft) (s : Scope) (line : ℕ) (keys : Keys) : Type 0 where
  pub by : Emits (length a.labels.items) a b s false (crowded_keys keys) (λ c labels p q. StandsK c line p keys q)

-- links behind the first operand make a comparison of it
pub record EmitsLinks (a b : Draft) (s : Scope) (line : ℕ) (links : List (CompareOp × Expr)) : Type 0 where
  pub by :
      Emits (length a.labels.items) a b s false (crowded_in links)
      (λ c labels p q. (e : Expr) (from : ℕ) → StandsE c line from e p → StandsE c line from (compares e links) q)

-- a callee in front of its arguments makes a call of it, by this operation
pub record EmitsCallee (a b : Draft) (s : Scope) (line : ℕ) (callee : Expr) (op : Op) : Type 0 where
  pub by :
      Emits (length a.labels.items) a b s false (crowded callee)
      (λ c labels p q. (args : Exprs) (keys : Keys) (m n : ℕ) → nat_lt (count args) 256 ≡ true → StandsEs c line q args m → StandsK c line m keys n
      → Has c line n (number op (count args + 256 * key_count keys)) → StandsE c line p (call_of callee args keys) (suc n))
