-- How many positional arguments the calls of a text have at most, and how many pairs past 3,841 its dict displays: one bound of
-- 255 keeps both limits.
use Rattle.std.specs.Prelude.{ℕ, ◌-◌}
use Rattle.emit_measures.specs.bc_scheme.py_meaning.Tree.{Expr, Exprs, Links, Pairs, Keys, count, pair_count, Target, Targets, Stmt, Block, Branches, Handlers}
use Rattle.tr_source.specs.Greatest as greatest

-- what a call counts
abbrev pub of_call : Exprs → Keys → ℕ
of_call args keys = count args

-- what a dict display counts
abbrev pub of_dict : Pairs → ℕ
of_dict pairs = pair_count pairs - 3841

-- the greatest of these in an expression
abbrev pub widest : Expr → ℕ
widest = greatest.greatest of_call of_dict

-- the greatest in expressions
abbrev pub widest_of : Exprs → ℕ
widest_of = greatest.greatest_of of_call of_dict

-- the greatest in the links of a comparison
abbrev pub widest_links : Links → ℕ
widest_links = greatest.greatest_links of_call of_dict

-- the greatest in the pairs of a dict display
abbrev pub widest_pairs : Pairs → ℕ
widest_pairs = greatest.greatest_pairs of_call of_dict

-- the greatest in keyword arguments
abbrev pub widest_keys : Keys → ℕ
widest_keys = greatest.greatest_keys of_call of_dict

-- the greatest in a target
abbrev pub widest_store : Target → ℕ
widest_store = greatest.greatest_store of_call of_dict

-- the greatest in targets
abbrev pub widest_stores : Targets → ℕ
widest_stores = greatest.greatest_stores of_call of_dict

-- the greatest in a statement, at a level of optimization: an assertion may have no code
abbrev pub widest_stmt : (level : ℕ) → Stmt → ℕ
widest_stmt = greatest.greatest_stmt of_call of_dict

-- the greatest in a block
abbrev pub widest_block : (level : ℕ) → Block → ℕ
widest_block = greatest.greatest_block of_call of_dict

-- the greatest in branches
abbrev pub widest_branches : (level : ℕ) → Branches → ℕ
widest_branches = greatest.greatest_branches of_call of_dict

-- the greatest in except clauses
abbrev pub widest_handlers : (level : ℕ) → Handlers → ℕ
widest_handlers = greatest.greatest_handlers of_call of_dict
