-- The lines of a report.
use Rattle.std.specs.Prelude.{ℕ, List, ◌++◌, codes}
use Rattle.std.specs.Fmt.{decimal}

-- the first two lines, by the place where the exception was raised
abbrev pub first_lines : (file : List ℕ) (line : ℕ) (name : List ℕ) → List ℕ
first_lines file line name =
    codes "Traceback (most recent call last):\n  File \"" ++ file ++ codes "\", line " ++ decimal line ++ codes ", in " ++ name ++ codes "\n"
