-- The limits that are counted on the tree of a text.
use Rattle.std.specs.Prelude.{ℕ, ◌+◌, ◌≤◌, max, List, [], ◌∷◌, length}
use Rattle.bc_resolved.specs.mpy_base.declared.limits.TheConstants.{MAX_STATE, MAX_ARGUMENTS, MAX_ITEMS}
use Rattle.emit_measures.specs.bc_scheme.py_meaning.Tree.{Block, count, pair_count, key_count}
use Rattle.emit_measures.specs.bc_scheme.py_meaning.Program.{Text}
use Rattle.emit_measures.specs.bc_scheme.Heights.{held_in, tall_block}
use Rattle.tr_source.specs.Greatest.{greatest_block}

-- the most positional arguments of a call, or keyword arguments
abbrev pub most_arguments : (level : ℕ) → Block → ℕ
most_arguments = greatest_block (λ args keys. max (count args) (key_count keys)) (λ pairs. 0)

-- the most pairs of a dict display
abbrev pub most_pairs : (level : ℕ) → Block → ℕ
most_pairs = greatest_block (λ args keys. 0) pair_count

-- the locals, and the greatest height above them, of which the end of a code asks one
abbrev pub slots_in : Text → ℕ
slots_in text = length text.locals + max 1 (tall_block text.level text.body)

-- a text keeps the limits that are counted on its tree
pub record IsWithin (text : Text) : Type 0 where
  pub slots : slots_in text ≤ MAX_STATE
  pub entries : held_in text.body ≤ 100
  pub params : length text.params ≤ MAX_ARGUMENTS
  pub arguments : most_arguments text.level text.body ≤ MAX_ARGUMENTS
  pub pairs : most_pairs text.level text.body ≤ MAX_ITEMS

-- each text keeps the limits that are counted on its tree
abbrev pub AllWithin : List Text → Type 0
AllWithin [] = Unit {0}
AllWithin (text ∷ texts) = IsWithin text × AllWithin texts
