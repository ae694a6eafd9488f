-- What has more members than its instruction can name, in statements with bodies.
use Rattle.std.specs.Prelude.{ℕ, suc, Bool, false, ◌||◌}
use Rattle.emit_expr.specs.py_meaning.Tree.{Stmt, If, While, For, Try, Finally, TryFinally, Block, End, Next, Branches, Else}
use Rattle.emit_expr.specs.py_meaning.Tree.{Case, Handlers, NoHandler, Any, On, OnAs}
use Rattle.emit_expr.specs.Crowded.{crowded}
use Rattle.emit_stmt.specs.SimpleCrowded.{crowded_target, crowded_simple, passes_entries}

-- entries are those held in the loop around. Where a body holds one more, a jump must be able to name them all
abbrev mutual
  pub crowded_block : (level entries : ℕ) → Block → Bool
  crowded_block level entries End = false
  crowded_block level entries (Next line s b) = crowded_stmt level entries s || crowded_block level entries b

  pub crowded_stmt : (level entries : ℕ) → Stmt → Bool
  crowded_stmt level entries (If branches) = crowded_branches level entries branches
  crowded_stmt level entries (While e body rest) = (crowded e || crowded_block level 0 body) || crowded_block level entries rest
  crowded_stmt level entries (For t e body rest) = ((crowded e || crowded_target t) || crowded_block level 0 body) || crowded_block level entries rest
  crowded_stmt level entries (Try body handlers rest) =
      ((passes_entries (suc entries) || crowded_block level (suc entries) body) || crowded_handlers level (suc entries) handlers)
      || crowded_block level entries rest
  crowded_stmt level entries (Finally body last) =
      (passes_entries (suc entries) || crowded_block level (suc entries) body) || crowded_block level (suc entries) last
  crowded_stmt level entries (TryFinally body handlers rest last) =
      (passes_entries (suc entries)
      || (((passes_entries (suc (suc entries)) || crowded_block level (suc (suc entries)) body)
      || crowded_handlers level (suc (suc entries)) handlers) || crowded_block level (suc entries) rest))
      || crowded_block level (suc entries) last
  crowded_stmt level entries stmt = crowded_simple level entries stmt

  pub crowded_branches : (level entries : ℕ) → Branches → Bool
  crowded_branches level entries (Else b) = crowded_block level entries b
  crowded_branches level entries (Case line e b branches) = (crowded e || crowded_block level entries b) || crowded_branches level entries branches

  pub crowded_handlers : (level entries : ℕ) → Handlers → Bool
  crowded_handlers level entries NoHandler = false
  crowded_handlers level entries (Any line b) = crowded_block level entries b
  crowded_handlers level entries (On line e b handlers) = (crowded e || crowded_block level entries b) || crowded_handlers level entries handlers
  crowded_handlers level entries (OnAs line e name b handlers) =
      (crowded e || (passes_entries (suc entries) || crowded_block level (suc entries) b)) || crowded_handlers level entries handlers
