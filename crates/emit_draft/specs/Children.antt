-- The numbers of the functions of a text, by how many codes each has.
use Rattle.std.specs.Prelude.{◌≡◌, ℕ, suc, ◌+◌, List, [], ◌∷◌, ◌++◌, length}
use Rattle.emit_measures.specs.bc_scheme.py_meaning.Tree.{Stmt, If, While, For, Try, Finally, TryFinally, Def, Block, End, Next}
use Rattle.emit_measures.specs.bc_scheme.py_meaning.Tree.{Branches, Else, Case, Handlers, NoHandler, Any, On, OnAs, Function}
use Rattle.emit_measures.specs.bc_scheme.py_meaning.Tree.{functions}
use Rattle.emit_measures.specs.bc_scheme.mpy_tree.Resolved.{Trees, no_more, more}
use Rattle.emit_measures.specs.bc_scheme.bc_machine.Library.{size_of}
use Rattle.emit_measures.specs.bc_scheme.Translation.{own}

-- where parts of these sizes start, one behind another
abbrev pub starts : ℕ → List ℕ → List ℕ
starts n [] = []
starts n (size ∷ sizes) = n ∷ starts (n + size) sizes

-- how many codes each function has that is defined in a text itself: its own, and those of the functions in it
abbrev mutual
  pub sizes : Block → List ℕ
  sizes End = []
  sizes (Next line s b) = sizes_in s ++ sizes b

  pub sizes_in : Stmt → List ℕ
  sizes_in (If branches) = sizes_of branches
  sizes_in (While e body rest) = sizes body ++ sizes rest
  sizes_in (For t e body rest) = sizes body ++ sizes rest
  sizes_in (Try body handlers rest) = sizes body ++ sizes_by handlers ++ sizes rest
  sizes_in (Finally body last) = sizes body ++ sizes last
  sizes_in (TryFinally body handlers rest last) = sizes body ++ sizes_by handlers ++ sizes rest ++ sizes last
  sizes_in (Def number name params defaults body) = suc (length (functions body)) ∷ []
  sizes_in _ = []

  pub sizes_of : Branches → List ℕ
  sizes_of (Else b) = sizes b
  sizes_of (Case line e b branches) = sizes b ++ sizes_of branches

  pub sizes_by : Handlers → List ℕ
  sizes_by NoHandler = []
  sizes_by (Any line b) = sizes b
  sizes_by (On line e b handlers) = sizes b ++ sizes_by handlers
  sizes_by (OnAs line e name b handlers) = sizes b ++ sizes_by handlers

-- the functions in a row have the numbers from this one on, and those of each begin behind its own
abbrev pub AllCount : ℕ → List Function → Type 0
AllCount n [] = Unit {0}
AllCount n (f ∷ fs) = (own f.body ≡ starts (suc n) (sizes f.body)) × AllCount (suc n) fs

-- how many codes each of these trees has
abbrev pub tree_sizes : Trees → List ℕ
tree_sizes no_more = []
tree_sizes (more tree trees) = size_of tree ∷ tree_sizes trees
