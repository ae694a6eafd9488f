-- What small sources import, and the programs of small folders.
use Rattle.std.proofs.Common.{◌≡◌, ℕ, List, [], ◌∷◌, codes, refl}
use Rattle.std.specs.Prelude.{Some, None, if◌then◌else◌}
use Rattle.std.specs.Str.{bytes_eq}
use Rattle.meant_runs.specs.mpy_io.Files.{FileOf}
use Rattle.tr_source.specs.bc_scheme.py_meaning.Tree.{Name, Import, From, If, Def, NoExpr, Block, End, Next, Case, Else, Constant}
use Rattle.meant_runs.specs.mpy_base.Val.{Nil}
use Rattle.tr_source.specs.bc_scheme.py_meaning.Program.{Source, Single, Entry, Runs}
use Rattle.frozen_files.specs.source_files.Sources.{stored}
use Rattle.meant_files.specs.Readings.{IsReading}
use Rattle.meant_files.specs.Imported.{source_imports}
use Rattle.meant_files.specs.Sources.{LoadsSources, ends, next, known, taken}

-- `import` of a name, in front of other statements
abbrev importing : Name → Block → Block
importing name others = Next 1 (Import (record { name = name; bound = None } ∷ [])) others

abbrev source_with : Block → Source
source_with body = record { file = codes "m.py"; level = 0; body = body; locals = [] ∷ [] }

nothing : source_imports (source_with End) ≡ []
nothing = refl

-- the module's own statements come before those of its functions, of which the first stands in front of them
in_functions : source_imports (source_with (Next 1 (Def 1 (codes "f") [] NoExpr (importing (codes "b") End)) (importing (codes "a") End))) ≡ codes "a" ∷ codes "b" ∷ []
in_functions = refl

-- a name that is imported twice stands twice, and of `from` it is the module's
in_branches : source_imports (source_with (Next 1 (If (Case 1 (Constant Nil) (importing (codes "p.q") End) (Else (Next 2 (From (codes "p") (record { name = codes "q"; bound = None } ∷ [])) (importing (codes "p.q") End))))) End))
    ≡ codes "p.q" ∷ codes "p" ∷ codes "p.q" ∷ []
in_branches = refl

-- small folders
-- =============

no_files : FileOf
no_files name = None

-- a name without a source isn't in the program
absent : LoadsSources no_files [] 0 [] [] (codes "a" ∷ []) [] []
unfolding no_files
absent = next [] (codes "a" ∷ []) [] (codes "a") [] [] refl (taken [] (codes "a") [] [] [] None [] refl refl (ends []))

-- a.py imports c, and p/__init__.py nothing; there is p.py too
module _ (of_a of_p of_c other : List ℕ) where
  files : FileOf
  files name =
      if bytes_eq name (codes "a.py") then Some of_a else if bytes_eq name (codes "p/__init__.py") then Some of_p else if bytes_eq name (codes "p.py") then Some other
      else if bytes_eq name (codes "c.py") then Some of_c else None

  abbrev a : Source
  a = source_with (importing (codes "c") End)

  abbrev without : Source
  without = source_with End

  abbrev entry : Source → Entry
  entry source = Runs (Single source)

  module _ (is_a : IsReading 0 of_a (stored (codes "a.py")) a) (is_p : IsReading 0 of_p (stored (codes "p/__init__.py")) without) (is_c : IsReading 0 of_c (stored (codes "c.py")) without) where
    -- depth first: what a imports stands before the next import of the main source. A package's own source comes first, and a name
    -- that is imported again is there
    depth_first : LoadsSources files [] 0 [] [] (codes "a" ∷ codes "p" ∷ codes "c" ∷ []) []
        ((codes "a", entry a) ∷ (codes "c", entry without) ∷ (codes "p", entry without) ∷ [])
    unfolding files
    depth_first =
        let one : List (Name × Entry) = (codes "a", entry a) ∷ [] in
        let two : List (Name × Entry) = (codes "a", entry a) ∷ (codes "c", entry without) ∷ [] in
        let all : List (Name × Entry) = (codes "a", entry a) ∷ (codes "c", entry without) ∷ (codes "p", entry without) ∷ [] in
        let left : List Name = codes "p" ∷ codes "c" ∷ [] in
        next [] (codes "a" ∷ left) [] (codes "a") left all refl
        (taken [] (codes "a") [] [] left (Some a) all refl ((codes "a.py", of_a), refl, is_a)
        (next one (codes "c" ∷ []) left (codes "c") left all refl
        (taken one (codes "c") [] [] left (Some without) all refl ((codes "c.py", of_c), refl, is_c)
        (next two [] left (codes "p") (codes "c" ∷ []) all refl
        (taken two (codes "p") [] [] (codes "c" ∷ []) (Some without) all refl ((codes "p/__init__.py", of_p), refl, is_p)
        (next all [] (codes "c" ∷ []) (codes "c") [] all refl
        (known all (codes "c") [] [] [] all refl
        (ends all))))))))
