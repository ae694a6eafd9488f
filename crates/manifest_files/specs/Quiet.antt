-- Manifests that say nothing, whichever are open, and those that include one another.
use Rattle.std.specs.Prelude.{◌≡◌, ◌⊎◌, ℕ, zero, suc, true, List, [], ◌∷◌, ◌++◌, All, Contains, Some, Vec}
use Rattle.std.specs.declared.alloc.Global.{Global}
use Rattle.mpy_io.specs.Files.{FileOf}
use Rattle.manifest_lines.specs.declared.manifest.Line.{Line}
use Rattle.manifest_files.specs.Entries.{Saying, Itself, Another, AreLines, line_saying, is_open}

-- nothing is said, where `quiet` tells of which manifests nothing comes
abbrev pub IsNothing : (quiet : List ℕ → Type 0) → Saying → Type 0
IsNothing quiet (Itself said) = said ≡ []
IsNothing quiet (Another inner) = quiet inner

-- The manifest is there, and each of its lines says nothing or includes such a manifest, at most `left` one within another.
abbrev pub IsQuiet : FileOf → (left : ℕ) → (name : List ℕ) → Type 0
IsQuiet files zero name = ⊥
IsQuiet files (suc left) name =
    (bytes : List ℕ) × (lines : List Line) × (files name ≡ Some bytes) × AreLines bytes lines
    × All (λ line. IsNothing (IsQuiet files left) (line_saying [] name line)) lines

-- a line of the outer manifest includes the inner one
abbrev pub Includes : FileOf → (outer inner : List ℕ) → Type 0
Includes files outer inner =
    (bytes : List ℕ) × (lines : List Line) × (line : Line) × (files outer ≡ Some bytes) × AreLines bytes lines × Contains lines line
    × (line_saying [] outer line ≡ Another inner)

-- so, with that many manifests between
abbrev pub IncludesOver : FileOf → (between : ℕ) → (outer inner : List ℕ) → Type 0
IncludesOver files zero outer inner = Includes files outer inner
IncludesOver files (suc between) outer inner = (middle : List ℕ) × IncludesOver files between outer middle × Includes files middle inner

-- each manifest that is open includes that of the name, straight or over others
abbrev pub AllInclude : FileOf → (opened : List (List ℕ)) → (name : List ℕ) → Type 0
AllInclude files opened name = (other : List ℕ) → is_open opened other ≡ true → (between : ℕ) × IncludesOver files between other name

-- the other manifest is that of the name, or one that it includes, straight or over others
abbrev pub IsOfTree : FileOf → (name other : List ℕ) → Type 0
IsOfTree files name other = (other ≡ name) ⊎ ((between : ℕ) × IncludesOver files between name other)

-- it is that of the name, which is opened behind these, or each of these and it include it
abbrev pub IsReadIn : FileOf → (opened : List (List ℕ)) → (name other : List ℕ) → Type 0
IsReadIn files opened name other = (other ≡ name) ⊎ AllInclude files (opened ++ name ∷ []) other

-- so it is with the manifest that a line includes, if it does
abbrev pub LeadsOn : FileOf → (opened : List (List ℕ)) → (name : List ℕ) → Line → Type 0
LeadsOn files opened name line = (inner : List ℕ) → line_saying opened name line ≡ Another inner → AllInclude files opened inner

-- each of these names is that of a quiet manifest, where as many may be opened as stands beside it
abbrev pub AreQuiet : FileOf → List (Vec ℕ Global × ℕ) → Type 0
AreQuiet files [] = Unit {0}
AreQuiet files (kept ∷ others) = IsQuiet files kept.1 kept.0.items × AreQuiet files others
