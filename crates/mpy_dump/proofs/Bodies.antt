-- What a code's own bytes say.
use Rattle.std.proofs.Common.{◌≡◌, ℕ, List, ◌++◌, length, drop, get_or, refl, sym, ap, ◌∙◌}
use Rattle.std.specs.Prelude.{All}
use Rattle.mpy_tree.specs.bc_ops.Listing.{Piece, IsPiece, joined}
use Rattle.mpy_tree.specs.bc_prelude.declared.prelude.Prelude.{Prelude}
use Rattle.mpy_tree.specs.bc_prelude.Prelude.{Begins}
use Rattle.mpy_tree.proofs.bc_prelude_lemmas.Pieces.{instructions_at}
use Rattle.mpy_tree.proofs.bc_prelude_lemmas.Preludes.{same_prelude}
use Rattle.mpy_tree.specs.File.{IsOwnCode}
use Rattle.mpy_tree.specs.Raw.{Module}
use Rattle.mpy_dump.specs.Codes.{IsOwnText, code_line}
use Rattle.mpy_dump.specs.Instructions.{instr_lines}

-- the instructions of a code decode
pub record Decodes (instructions : List ℕ) : Type 0 where
  pub pieces : List Piece
  pub spelled : All IsPiece pieces
  pub is : instructions ≡ joined pieces

pub decodes : {texts : ℕ} (bytes : List ℕ) (prelude : Prelude) (b : Begins bytes prelude) → IsOwnCode texts bytes → Decodes b.instructions
decodes bytes prelude b own =
    let same = same_prelude bytes prelude own.prelude b own.begins in
    let there : b.instructions ≡ own.begins.instructions =
    sym (instructions_at bytes prelude b) ∙ (ap (λ (p : Prelude). drop p.code_at bytes) same ∙ instructions_at bytes own.prelude own.begins) in
    record { pieces = own.listed.pieces; spelled = own.listed.spelled; is = there ∙ own.listed.bytes_are }

pub own_text : {texts : ℕ} (m : Module) (path bytes : List ℕ) → IsOwnCode texts bytes → (text : List ℕ) × IsOwnText m path bytes text
own_text m path bytes own = (
  code_line m path (get_or own.begins.indexes 0 0) own.prelude (length bytes) ++ instr_lines m own.begins.lines 0 own.listed.pieces,
  λ children. record {
    prelude = own.prelude;
    begins = own.begins;
    pieces = own.listed.pieces;
    spelled = own.listed.spelled;
    instructions = own.listed.bytes_are;
    text_is = refl;
  },
)
