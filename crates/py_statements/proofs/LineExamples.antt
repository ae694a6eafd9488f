-- Lines computed from their definitions.
use Rattle.std.proofs.Common.{◌≡◌, ℕ, List, [], ◌∷◌, Some, None, Err, codes, refl}
use Rattle.py_tokens.specs.declared.token.Tok.TheVariants as tok
use Rattle.py_tokens.specs.declared.word.Word.TheVariants as word
use Rattle.py_tokens.specs.declared.operator.Op.TheVariants as op
use Rattle.py_tree.specs.declared.stmt.StmtKind.TheVariants as s
use Rattle.py_expressions.specs.Input.{Place, at, name, expect, after, sees}
use Rattle.py_expressions.specs.Laws.{input}
use Rattle.py_statements.specs.Grammar as g
use Rattle.py_statements.specs.Grammar.{Name, Dotted, Series, Line, line_tree}
use Rattle.py_statements.specs.Reading.{one_line, statements, statement, small, imports, imports_from, imported, series, series_from, alias, dotted, all_dotted, dotted_from, stmt_of, alias_of}

-- a place in this line
abbrev spot : ℕ → Place
spot line = record { at = 0; end = 0; line = line }

abbrev named : ℕ → List ℕ → Name
named line text = record { place = spot line; text = text }

-- `import a . b as c; pass`
abbrev renamed_import : Line
renamed_import =
    g.semicolon (g.import (spot 1) (Series.last (g.renamed (g.dotted (named 1 (codes "a")) (spot 1) (Dotted.last (named 1 (codes "b")))) (spot 1) (named 1 (codes "c"))))) (spot 1)
    (Line.last (g.pass (spot 1)) (spot 1))

renamed_import_tree : line_tree renamed_import ≡ stmt_of 1 (s.Import (alias_of (codes "a.b") (Some (codes "c")) ∷ [])) ∷ stmt_of 1 s.Pass ∷ []
renamed_import_tree = refl

-- `from a import (b,` and in the next line `c,); pass`
abbrev two_lines : Line
two_lines =
    g.semicolon (g.from (spot 1) (Dotted.last (named 1 (codes "a"))) (spot 1) (g.round (spot 1) (g.comma (g.same (named 1 (codes "b"))) (spot 1) (g.last_comma (g.same (named 2 (codes "c"))) (spot 2))) (spot 2))) (spot 2)
    (Line.last (g.pass (spot 2)) (spot 2))

two_lines_tree : line_tree two_lines ≡ stmt_of 1 (s.From (codes "a") (alias_of (codes "b") None ∷ alias_of (codes "c") None ∷ [])) ∷ stmt_of 2 s.Pass ∷ []
two_lines_tree = refl

-- `import a as b.c` is refused
dotted_renaming : one_line (input (at (spot 1) (tok.Word word.Import) ∷ at (spot 1) (tok.Name (codes "a")) ∷ at (spot 1) (tok.Word word.As) ∷ at (spot 1) (tok.Name (codes "b")) ∷ at (spot 1) (tok.Op op.Dot) ∷ at (spot 1) (tok.Name (codes "c")) ∷ at (spot 1) tok.Newline ∷ []) 9) ≡ Err 9
unfolding one_line statements statement small imports series series_from alias dotted all_dotted dotted_from name expect after sees
dotted_renaming = refl

-- and so is `from a import b,`
bare_comma : one_line (input (at (spot 1) (tok.Word word.From) ∷ at (spot 1) (tok.Name (codes "a")) ∷ at (spot 1) (tok.Word word.Import) ∷ at (spot 1) (tok.Name (codes "b")) ∷ at (spot 1) (tok.Op op.Comma) ∷ at (spot 1) tok.Newline ∷ []) 9) ≡ Err 9
unfolding one_line statements statement small imports_from imported series series_from alias dotted all_dotted dotted_from name expect after sees
bare_comma = refl
