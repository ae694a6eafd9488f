-- The functions in a spelled tree are spelled.
use Rattle.std.proofs.Common.{ℕ, ◌≤◌, List, [], ◌∷◌, ◌++◌, map, arith}
use Rattle.std.specs.List.{concat}
use Rattle.py_meaning.specs.py_tree.declared.stmt.Module.{Module}
use Rattle.py_meaning.specs.py_tree.Formed.{stmt_lines, IsFormed}
use Rattle.emit_measures.specs.bc_scheme.py_meaning.Tree as tree
use Rattle.emit_measures.specs.bc_scheme.py_meaning.Tree.{Function, functions, functions_in, functions_of, functions_by}
use Rattle.emit_measures.specs.bc_scheme.py_meaning.Plain.{plain_tree}
use Rattle.tr_source.specs.Spelled.{BlockSpelled, StmtSpelled, BranchesSpelled, HandlersSpelled, FunctionsSpelled, TreeSpelled}
use Rattle.tr_source.proofs.Lines.{end_of, block_up, stmt_up, handlers_up}
use Rattle.tr_source.proofs.SpelledTrees.{own_spelled}

joined : (fs gs : List Function) → FunctionsSpelled fs → FunctionsSpelled gs → FunctionsSpelled (fs ++ gs)
joined [] gs h k = k
joined (f ∷ fs) gs h k = (h.0, joined fs gs h.1 k)

on : (a b c : ℕ) → a ≤ b → b ≤ c → a ≤ c
on a b c h k = omega (arith, h, k)

mutual
  in_block : (first last : ℕ) (b : tree.Block) → 1 ≤ first → BlockSpelled first last b → FunctionsSpelled (functions b)
  in_block first last tree.End one h = tt
  in_block first last (tree.Next line s b) one h =
      let here = on 1 first line one h.0 in
      joined (functions_in s) (functions b) (in_stmt line h.1.0 s here h.1.1) (in_block h.1.0 last b (on 1 line h.1.0 here (stmt_up line h.1.0 s h.1.1)) h.1.2)

  in_stmt : (line last : ℕ) (s : tree.Stmt) → 1 ≤ line → StmtSpelled line last s → FunctionsSpelled (functions_in s)
  in_stmt line last (tree.Do e) one h = tt
  in_stmt line last (tree.Assign ts e) one h = tt
  in_stmt line last (tree.AugName name op e) one h = tt
  in_stmt line last (tree.AugAttr a name op e) one h = tt
  in_stmt line last (tree.AugIndex a b op e) one h = tt
  in_stmt line last (tree.Delete ts) one h = tt
  in_stmt line last tree.Pass one h = tt
  in_stmt line last tree.Break one h = tt
  in_stmt line last tree.Continue one h = tt
  in_stmt line last tree.ReturnNone one h = tt
  in_stmt line last (tree.Return e) one h = tt
  in_stmt line last tree.Reraise one h = tt
  in_stmt line last (tree.Raise e) one h = tt
  in_stmt line last (tree.Assert e) one h = tt
  in_stmt line last (tree.AssertWith e message) one h = tt
  in_stmt line last (tree.Import aliases) one h = tt
  in_stmt line last (tree.From path aliases) one h = tt
  in_stmt line last (tree.If branches) one h = in_branches line last branches one h
  in_stmt line last (tree.While e body rest) one h = joined (functions body) (functions rest) (in_block line h.1.0 body one h.1.1) (in_block h.1.0 last rest (on 1 line h.1.0 one (block_up line h.1.0 body h.1.1)) h.1.2)
  in_stmt line last (tree.For t e body rest) one h = joined (functions body) (functions rest) (in_block line h.2.0 body one h.2.1) (in_block h.2.0 last rest (on 1 line h.2.0 one (block_up line h.2.0 body h.2.1)) h.2.2)
  in_stmt line last (tree.Try body handlers rest) one h =
      let next = on 1 line h.0 one (block_up line h.0 body h.2) in
      let behind = on 1 h.0 h.1 next (handlers_up h.0 h.1 handlers h.3) in
      joined (functions body ++ functions_by handlers) (functions rest) (joined (functions body) (functions_by handlers) (in_block line h.0 body one h.2) (in_handlers h.0 h.1 handlers next h.3)) (in_block h.1 last rest behind h.4)
  in_stmt line last (tree.Finally body end) one h = joined (functions body) (functions end) (in_block line h.0 body one h.1) (in_block h.0 last end (on 1 line h.0 one (block_up line h.0 body h.1)) h.2)
  in_stmt line last (tree.TryFinally body handlers rest end) one h =
      let next = on 1 line h.0 one (block_up line h.0 body h.3) in
      let behind = on 1 h.0 h.1 next (handlers_up h.0 h.1 handlers h.4) in
      let further = on 1 h.1 h.2 behind (block_up h.1 h.2 rest h.5) in
      joined (functions body ++ functions_by handlers ++ functions rest) (functions end)
      (joined (functions body ++ functions_by handlers) (functions rest) (joined (functions body) (functions_by handlers) (in_block line h.0 body one h.3) (in_handlers h.0 h.1 handlers next h.4)) (in_block h.1 h.2 rest behind h.5))
      (in_block h.2 last end further h.6)
  in_stmt line last (tree.Def number name params defaults body) one h =
      (record { name = h.0; params = h.1; defaults = h.2; first = line; last = last; from_one = one; body = h.4 }, in_block line last body one h.4)

  in_branches : (first last : ℕ) (bs : tree.Branches) → 1 ≤ first → BranchesSpelled first last bs → FunctionsSpelled (functions_of bs)
  in_branches first last (tree.Else b) one h = in_block first last b one h
  in_branches first last (tree.Case line e b bs) one h =
      let here = on 1 first line one h.0 in
      joined (functions b) (functions_of bs) (in_block line h.2.0 b here h.2.1) (in_branches h.2.0 last bs (on 1 line h.2.0 here (block_up line h.2.0 b h.2.1)) h.2.2)

  in_handlers : (first last : ℕ) (hs : tree.Handlers) → 1 ≤ first → HandlersSpelled first last hs → FunctionsSpelled (functions_by hs)
  in_handlers first last tree.NoHandler one h = tt
  in_handlers first last (tree.Any line b) one h = in_block line last b (on 1 first line one h.0) h.1
  in_handlers first last (tree.On line e b hs) one h =
      let here = on 1 first line one h.0 in
      joined (functions b) (functions_by hs) (in_block line h.2.0 b here h.2.1) (in_handlers h.2.0 last hs (on 1 line h.2.0 here (block_up line h.2.0 b h.2.1)) h.2.2)
  in_handlers first last (tree.OnAs line e name b hs) one h =
      let here = on 1 first line one h.0 in
      joined (functions b) (functions_by hs) (in_block line h.3.0 b here h.3.1) (in_handlers h.3.0 last hs (on 1 line h.3.0 here (block_up line h.3.0 b h.3.1)) h.3.2)

pub tree_spelled : (module' : Module) → IsFormed module' → TreeSpelled (plain_tree module') (functions (plain_tree module'))
tree_spelled module' h =
    let own = own_spelled module' h in
    let last = end_of 1 (concat (map stmt_lines module'.body)) in
    record { last = last; own = own; each = in_block 1 last (plain_tree module') (omega arith) own }
