-- Links of a comparison in a row.
use Rattle.std.specs.Prelude.{ℕ, ◌+◌, ◌*◌, List, [], ◌∷◌, length, nat_eq, if◌then◌else◌, Bool, ◌&&◌, Option, Some, None}
use Rattle.py_tree.specs.declared.expr.CompareOp.{CompareOp}
use Rattle.py_tree.specs.declared.expr.Expr as trees
use Rattle.py_tree.specs.declared.stmt.Target as aims
use Rattle.py_tree.specs.declared.stmt.Alias.{Alias}
use Rattle.bc_scheme.specs.py_effects.Modules.{parts_of}
use Rattle.bc_scheme.specs.py_meaning.Tree.{Name}
use Rattle.bc_scheme.specs.py_meaning.Statements.{bound_name, read_parts}
use Rattle.bc_scheme.specs.py_meaning.Plain.{plain_expr, plain_target}
use Rattle.emit_measures.specs.Lengths.{behind_length, name_length, comparison_length, expr_length, store_length}

-- the operands with their comparisons, and `beside` bytes beside each
abbrev pub links_with : ℕ → List Name → List (CompareOp × trees.Expr) → ℕ
links_with beside locals [] = 0
links_with beside locals (link ∷ links) = expr_length locals (plain_expr link.1) + beside + comparison_length link.0 + links_with beside locals links

-- one link alone has none beside it
abbrev pub links_wide : List Name → List (CompareOp × trees.Expr) → ℕ
links_wide locals [] = 0
links_wide locals (link ∷ []) = links_with 0 locals (link ∷ [])
links_wide locals (link ∷ (next ∷ links)) = links_with 5 locals (link ∷ (next ∷ links))

-- stores of one value into each, which is doubled in front
abbrev pub doubled_wide : List Name → List aims.Target → ℕ
doubled_wide locals [] = 0
doubled_wide locals (target ∷ targets) = store_length locals (plain_target target) + 1 + doubled_wide locals targets

-- each part of a name behind a dot is read as an attribute
abbrev pub dot_wide : ℕ → ℕ
dot_wide byte = if nat_eq byte 46 then 4 else 0

-- the bytes of these reads
abbrev pub reads_wide : Name → ℕ
reads_wide [] = 0
reads_wide (byte ∷ bytes) = dot_wide byte + reads_wide bytes

-- one name of an import
abbrev pub alias_wide : List Name → Alias → ℕ
alias_wide locals alias = 4 * length (read_parts (parts_of alias.name) alias.bound) + name_length locals (bound_name alias.name alias.bound) + 6

-- ---- parts of statements

-- the bytes behind a branch that has `left` others behind it
abbrev pub behind_wide : (left : ℕ) (bare : Bool) → ℕ
behind_wide left bare = behind_length (nat_eq left 0 && bare)

-- what stands in a clause beside its test and its body
abbrev pub clause_wide : List Name → Option Name → ℕ
clause_wide locals None = 9
clause_wide locals (Some name) = 2 * name_length locals name + 18
