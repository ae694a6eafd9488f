-- What is written for the codes of a module.
use Rattle.std.specs.Prelude.{◌≡◌, ℕ, List, [], ◌∷◌, ◌++◌, length, All, codes, decimal, slice_index}
use Rattle.std.specs.List.{flat_map}
use Rattle.mpy_tree.specs.bc_ops.Listing.{Piece, IsPiece, joined}
use Rattle.mpy_tree.specs.bc_prelude.declared.prelude.Prelude.{Prelude}
use Rattle.mpy_tree.specs.bc_prelude.Prelude.{Begins}
use Rattle.mpy_tree.specs.declared.raw.RawCode.{RawCode}
use Rattle.mpy_tree.specs.Codes.{Placed, codes_to}
use Rattle.mpy_tree.specs.Raw.{Module}
use Rattle.mpy_tree.specs.File.{Many}
use Rattle.mpy_dump.specs.declared.path.Path.{Path, fold-Path}
use Rattle.mpy_dump.specs.declared.path.Path.TheOpen.{Path-F}
use Rattle.mpy_dump.specs.Instructions.{name_text_at, instr_lines}

-- how a code is reached from the outermost one: the places among the children
abbrev pub path_step : Path-F (List ℕ) → List ℕ
path_step Path-F.Outermost = []
path_step (Path-F.Child above place) = above.now ++ place ∷ []

-- the places on the way from the outermost code to one, the first of them first
abbrev pub places : Path → List ℕ
places = fold-Path (List ℕ) path_step

-- the outermost code is 0, and a dot stands in front of each place
abbrev pub path_text : List ℕ → List ℕ
path_text path = codes "0" ++ flat_map (λ place. codes "." ++ decimal place) path

-- the numbers of a code's prelude, and how many bytes it has
abbrev pub numbers_text : Prelude → ℕ → List ℕ
numbers_text prelude size =
    codes " args " ++ (decimal prelude.args ++ (codes " defaults " ++ (decimal prelude.defaults
    ++ (codes " state " ++ (decimal prelude.n_state ++ (codes " handlers " ++ (decimal prelude.n_exc
    ++ (codes " bytes " ++ (decimal size ++ codes "\n")))))))))

-- the line of a code
abbrev pub code_line : Module → List ℕ → ℕ → Prelude → ℕ → List ℕ
code_line m path name prelude size =
    codes "code " ++ (path_text path ++ (codes " " ++ (name_text_at m name ++ numbers_text prelude size)))

-- what is written for a code without its children: its line, and those of its instructions
pub record IsCodeText (m : Module) (text : List ℕ) (code : Placed) : Type 0 where
  pub prelude : Prelude
  pub begins : Begins code.bytes prelude
  pub pieces : List Piece
  pub spelled : All IsPiece pieces
  pub instructions : begins.instructions ≡ joined pieces
  pub text_is : text ≡ code_line m code.path (slice_index begins.indexes 0) prelude (length code.bytes)
      ++ instr_lines m begins.lines 0 pieces

-- what is written for own bytes with the path of their code, whatever the numbers of its children
abbrev pub IsOwnText : Module → List ℕ → List ℕ → List ℕ → Type 0
IsOwnText m path bytes text =
    (children : List ℕ) → IsCodeText m text (record { path = path; bytes = bytes; children = children })

-- what is written for a code with this path and for those in it, to that number of levels, whatever the number of the code
abbrev pub AreCodesText : Module → ℕ → List ℕ → RawCode → List ℕ → Type 0
AreCodesText m levels path code text = (number : ℕ) → Many (IsCodeText m) text (codes_to levels path number code)
