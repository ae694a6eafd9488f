-- What has more members than its instruction can name, or no instruction at all.
use Rattle.std.specs.Prelude.{ℕ, zero, suc, Bool, true, false, ◌||◌, length, nat_lt}
use Rattle.emit_expr.specs.py_meaning.Tree.{Exprs, NoExpr, More, count, Target, ToName, ToAttr, ToIndex, ToEach, Targets, Only}
use Rattle.emit_expr.specs.py_meaning.Tree.{Then, target_count, Stmt, Do, Assign, AugName, AugAttr, AugIndex, Delete, Break}
use Rattle.emit_expr.specs.py_meaning.Tree.{Continue, Return, Raise, Assert, AssertWith, From, Def}
use Rattle.emit_expr.specs.emit_draft.Draft.{passes_items}
use Rattle.emit_expr.specs.Crowded.{crowded, crowded_all}

abbrev mutual
  pub crowded_target : Target → Bool
  crowded_target (ToName name) = false
  crowded_target (ToAttr e name) = crowded e
  crowded_target (ToIndex a b) = crowded a || crowded b
  crowded_target (ToEach ts) = passes_items (target_count ts) || crowded_targets ts

  pub crowded_targets : Targets → Bool
  crowded_targets (Only t) = crowded_target t
  crowded_targets (Then t ts) = crowded_target t || crowded_targets ts

-- whether a target of `del` is crowded, or none that can be deleted: names and indexes alone are
abbrev pub crowded_gone : Target → Bool
crowded_gone (ToName name) = false
crowded_gone (ToIndex a b) = crowded a || crowded b
crowded_gone _ = true

-- whether one of the targets of `del` is crowded, or none that can be deleted
abbrev pub crowded_gones : Targets → Bool
crowded_gones (Only t) = crowded_gone t
crowded_gones (Then t ts) = crowded_gone t || crowded_gones ts

-- more held entries than a jump out of a loop can name
abbrev pub passes_entries : ℕ → Bool
passes_entries count = nat_lt 127 count

-- defaults: their tuple has more items than its instruction can name
abbrev pub crowded_defaults : Exprs → Bool
crowded_defaults NoExpr = false
crowded_defaults (More e es) = crowded_all (More e es) || passes_items (count (More e es))

-- from level 1 on an assertion has no code
abbrev pub at_level : ℕ → Bool → Bool
at_level zero crowds = crowds
at_level (suc level) crowds = false

-- a statement of itself, without its bodies; entries are those held in the loop around
abbrev pub crowded_simple : (level entries : ℕ) → Stmt → Bool
crowded_simple level entries (Do e) = crowded e
crowded_simple level entries (Assign ts e) = crowded e || crowded_targets ts
crowded_simple level entries (AugName name op e) = crowded e
crowded_simple level entries (AugAttr a name op e) = crowded a || crowded e
crowded_simple level entries (AugIndex a b op e) = (crowded a || crowded b) || crowded e
crowded_simple level entries (Delete ts) = crowded_gones ts
crowded_simple level entries Break = passes_entries entries
crowded_simple level entries Continue = passes_entries entries
crowded_simple level entries (Return e) = crowded e
crowded_simple level entries (Raise e) = crowded e
crowded_simple level entries (Assert e) = at_level level (crowded e)
crowded_simple level entries (AssertWith e message) = at_level level (crowded e || crowded message)
crowded_simple level entries (From name aliases) = passes_items (length aliases)
crowded_simple level entries (Def number name params defaults body) = crowded_defaults defaults
crowded_simple level entries _ = false
