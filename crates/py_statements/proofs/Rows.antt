-- The lines of a line's statements. None of them is a function.
use Rattle.std.proofs.Common.{◌≡◌, ℕ, ◌+◌, List, [], ◌∷◌, ◌++◌, map, refl, ap, ◌∙◌, arith}
use Rattle.std.specs.List.{flat_map, sum}
use Rattle.std.specs.Option.{option_map}
use Rattle.py_tree.specs.Formed.{kind_rows, stmt_lines, kind_count, stmt_defs}
use Rattle.py_tree.proofs.Lines as lines
use Rattle.py_tree.proofs.Defs as defs
use Rattle.py_expressions.specs.Grammar as e
use Rattle.py_expressions.specs.Targets as t
use Rattle.py_statements.specs.Reading.{line_at}
use Rattle.py_statements.specs.Grammar.{Small, Line, last_semicolon, semicolon, name_tree, dotted_tree, renamed_tree, series_list, assigned_targets, assigned_value, imported_list, message_tree, small_text, small_tree, line_tree, statement_tree}

-- the line that a small statement begins in
abbrev pub own_line : Small → ℕ
own_line one = line_at (small_text one [])

small_rows : (one : Small) → kind_rows (small_tree one) ≡ []
small_rows (Small.tests m) = lines.lines_Expr (e.members_tree m)
small_rows (Small.assigned a) = lines.lines_Assign (assigned_targets a) (assigned_value a)
small_rows (Small.augmented o l kind how is m) = lines.lines_Aug (t.one_tree o) how (e.members_tree m)
small_rows (Small.del l gs) = lines.lines_Del (series_list t.gone_tree gs)
small_rows (Small.pass l) = lines.lines_Pass
small_rows (Small.break l) = lines.lines_Break
small_rows (Small.continue l) = lines.lines_Continue
small_rows (Small.return l m) = lines.lines_Return (option_map e.members_tree m)
small_rows (Small.raise l x) = lines.lines_Raise (option_map e.test_tree x)
small_rows (Small.global l ns) = lines.lines_Global (series_list name_tree ns)
small_rows (Small.assert l x m) = lines.lines_Assert (e.test_tree x) (option_map message_tree m)
small_rows (Small.import l ns) = lines.lines_Import (series_list (renamed_tree dotted_tree) ns)
small_rows (Small.from l d r ns) = lines.lines_From (dotted_tree d) (imported_list ns)

small_count : (one : Small) → kind_count (small_tree one) ≡ 0
small_count (Small.tests m) = defs.defs_Expr (e.members_tree m)
small_count (Small.assigned a) = defs.defs_Assign (assigned_targets a) (assigned_value a)
small_count (Small.augmented o l kind how is m) = defs.defs_Aug (t.one_tree o) how (e.members_tree m)
small_count (Small.del l gs) = defs.defs_Del (series_list t.gone_tree gs)
small_count (Small.pass l) = defs.defs_Pass
small_count (Small.break l) = defs.defs_Break
small_count (Small.continue l) = defs.defs_Continue
small_count (Small.return l m) = defs.defs_Return (option_map e.members_tree m)
small_count (Small.raise l x) = defs.defs_Raise (option_map e.test_tree x)
small_count (Small.global l ns) = defs.defs_Global (series_list name_tree ns)
small_count (Small.assert l x m) = defs.defs_Assert (e.test_tree x) (option_map message_tree m)
small_count (Small.import l ns) = defs.defs_Import (series_list (renamed_tree dotted_tree) ns)
small_count (Small.from l d r ns) = defs.defs_From (dotted_tree d) (imported_list ns)

statement_rows : (one : Small) → stmt_lines (statement_tree one) ≡ own_line one ∷ []
statement_rows one = lines.lines_stmt (own_line one) (small_tree one) ∙ ap (λ q. own_line one ∷ q) (small_rows one)

statement_count : (one : Small) → stmt_defs (statement_tree one) ≡ 0
statement_count one = defs.defs_stmt (own_line one) (small_tree one) ∙ small_count one

abbrev pub line_rows : Line → List ℕ
line_rows (Line.last one n) = own_line one ∷ []
line_rows (last_semicolon one l n) = own_line one ∷ []
line_rows (semicolon one l others) = own_line one ∷ line_rows others

pub rows_line : (one : Line) → flat_map stmt_lines (line_tree one) ≡ line_rows one
rows_line (Line.last one n) = ap (λ q. q ++ []) (statement_rows one)
rows_line (last_semicolon one l n) = ap (λ q. q ++ []) (statement_rows one)
rows_line (semicolon one l others) = ap (λ q. q ++ flat_map stmt_lines (line_tree others)) (statement_rows one) ∙ ap (λ q. own_line one ∷ q) (rows_line others)

pub line_count : (one : Line) → sum (map stmt_defs (line_tree one)) ≡ 0
line_count (Line.last one n) = defs.sum_cons stmt_defs (statement_tree one) [] ∙ ap (λ q. q + 0) (statement_count one)
line_count (last_semicolon one l n) = defs.sum_cons stmt_defs (statement_tree one) [] ∙ ap (λ q. q + 0) (statement_count one)
line_count (semicolon one l others) =
    let c = defs.sum_cons stmt_defs (statement_tree one) (line_tree others) in
    let e = statement_count one in
    let r = line_count others in
    omega arith
