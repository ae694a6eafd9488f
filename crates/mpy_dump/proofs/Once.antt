-- A module has one listing.
use Rattle.std.proofs.Common.{◌≡◌, ℕ, ◌+◌, List, [], ◌∷◌, ◌++◌, length, drop, take, get_or, refl, sym, ap, ◌∙◌, arith, length-append, append_assoc}
use Rattle.std.specs.List.{AllByRecursion}
use Rattle.std.proofs.lemmas.List.{append_cancel_left, drop_at}
use Rattle.std.proofs.lemmas.List.Elements.{recursion_from_All}
use Rattle.mpy_tree.specs.bc_ops.declared.instr.Instr.{Instr}
use Rattle.mpy_tree.specs.bc_ops.Listing.{Piece, IsPiece, joined}
use Rattle.mpy_tree.proofs.bc_ops_lemmas.Law.{one_instruction}
use Rattle.mpy_tree.specs.bc_prelude.declared.prelude.Prelude.{Prelude}
use Rattle.mpy_tree.specs.bc_prelude.Prelude.{Begins}
use Rattle.mpy_tree.specs.bc_prelude.Lines.{line_of}
use Rattle.mpy_tree.proofs.bc_prelude_lemmas.Pieces.{instructions_at, lines_at}
use Rattle.mpy_tree.proofs.bc_prelude_lemmas.Preludes.{same_prelude}
use Rattle.mpy_tree.proofs.bc_prelude_lemmas.Indexes.{same_indexes}
use Rattle.mpy_tree.specs.Codes.{Placed, codes_of}
use Rattle.mpy_tree.specs.Raw.{Module}
use Rattle.mpy_tree.specs.File.{Many, IsModule}
use Rattle.mpy_dump.specs.Numbered.{numbered}
use Rattle.mpy_dump.specs.Instructions.{instr_line, instr_lines}
use Rattle.mpy_dump.specs.Codes.{code_line, IsCodeText}
use Rattle.mpy_dump.specs.Listing.{head_line, qstr_line, object_line, IsListing}
use Rattle.mpy_dump.proofs.Trees.{module_exists}

some_text : {A : Type 0} (piece : Piece) (bytes : List ℕ) → IsPiece piece → [] ≡ piece.text ++ bytes → A
some_text piece bytes s e = absurd (omega (arith, ap length s.parts, ap length e, length-append piece.text bytes))

one_lines : (m : Module) (table : List ℕ) (at : ℕ) (ps qs : List Piece) → AllByRecursion IsPiece ps → AllByRecursion IsPiece qs → joined ps ≡ joined qs → instr_lines m table at ps ≡ instr_lines m table at qs
one_lines m table at [] [] s t e = refl
one_lines m table at [] (q ∷ qs) s t e = some_text q (joined qs) t.0 e
one_lines m table at (p ∷ ps) [] s t e = some_text p (joined ps) s.0 (sym e)
one_lines m table at (p ∷ ps) (q ∷ qs) s t e =
    let same = one_instruction p.text q.text (joined ps) (joined qs) p.instr q.instr s.0 t.0 e in
    let others : joined ps ≡ joined qs = append_cancel_left q.text (joined ps) (joined qs) (ap (λ (z : List ℕ). z ++ joined ps) (sym same.0) ∙ e) in
    let end = at + length q.text in
    ap (λ (z : List ℕ). instr_line m at (line_of table at) (at + length z) p.instr ++ instr_lines m table (at + length z) ps) same.0
    ∙ (ap (λ (i : Instr). instr_line m at (line_of table at) end i ++ instr_lines m table end ps) same.1
    ∙ ap (λ (z : List ℕ). instr_line m at (line_of table at) end q.instr ++ z) (one_lines m table end ps qs s.1 t.1 others))

-- the indexes of a prelude's names
info_is : (bytes : List ℕ) (prelude : Prelude) (b : Begins bytes prelude) → drop prelude.info_at bytes ≡ b.names ++ (b.lines ++ b.instructions)
info_is bytes prelude b =
    let behind = b.names ++ (b.lines ++ b.instructions) in
    ap (drop prelude.info_at) (b.code_is ∙ sym (append_assoc b.signature b.size behind))
    ∙ drop_at (b.signature ++ b.size) behind prelude.info_at (omega (arith, b.info_at, length-append b.signature b.size))

one_index : (bytes : List ℕ) (p q : Prelude) (b : Begins bytes p) (c : Begins bytes q) → p ≡ q → b.indexes ≡ c.indexes
one_index bytes p q b c e =
    let counts : length b.indexes ≡ length c.indexes = b.count ∙ (ap (λ (z : Prelude). 1 + z.args) e ∙ sym c.count) in
    let names = sym (info_is bytes p b) ∙ (ap (λ (z : Prelude). drop z.info_at bytes) e ∙ info_is bytes q c) in
    same_indexes b.indexes c.indexes b.names c.names (b.lines ++ b.instructions) (c.lines ++ c.instructions) b.are_names c.are_names counts names

one_code : (m : Module) (code : Placed) (x y : List ℕ) → IsCodeText m x code → IsCodeText m y code → x ≡ y
one_code m code x y a b =
    let bytes = code.bytes in
    let same : a.prelude ≡ b.prelude = same_prelude bytes a.prelude b.prelude a.begins b.begins in
    let table : a.begins.lines ≡ b.begins.lines =
    sym (lines_at bytes a.prelude a.begins) ∙ (ap (λ (z : Prelude). drop z.lines_at (take z.code_at bytes)) same ∙ lines_at bytes b.prelude b.begins) in
    let code_is : a.begins.instructions ≡ b.begins.instructions =
    sym (instructions_at bytes a.prelude a.begins) ∙ (ap (λ (z : Prelude). drop z.code_at bytes) same ∙ instructions_at bytes b.prelude b.begins) in
    let lines : instr_lines m a.begins.lines 0 a.pieces ≡ instr_lines m b.begins.lines 0 b.pieces =
    ap (λ (z : List ℕ). instr_lines m z 0 a.pieces) table
    ∙ one_lines m b.begins.lines 0 a.pieces b.pieces (recursion_from_All IsPiece a.pieces a.spelled) (recursion_from_All IsPiece b.pieces b.spelled) (sym a.instructions ∙ (code_is ∙ b.instructions)) in
    let head : code_line m code.path (get_or a.begins.indexes 0 0) a.prelude (length bytes) ≡ code_line m code.path (get_or b.begins.indexes 0 0) b.prelude (length bytes) =
    ap (λ (z : List ℕ). code_line m code.path (get_or z 0 0) a.prelude (length bytes)) (one_index bytes a.prelude b.prelude a.begins b.begins same)
    ∙ ap (λ (z : Prelude). code_line m code.path (get_or b.begins.indexes 0 0) z (length bytes)) same in
    a.text_is ∙ (ap (λ (z : List ℕ). z ++ instr_lines m a.begins.lines 0 a.pieces) head
    ∙ (ap (λ (z : List ℕ). code_line m code.path (get_or b.begins.indexes 0 0) b.prelude (length bytes) ++ z) lines ∙ sym b.text_is))

one_text : (m : Module) (codes : List Placed) (x y : List ℕ) → Many (IsCodeText m) x codes → Many (IsCodeText m) y codes → x ≡ y
one_text m [] x y a b = a ∙ sym b
one_text m (code ∷ codes) x y a b =
    a.3 ∙ (ap (λ (z : List ℕ). z ++ a.1) (one_code m code a.0 b.0 a.2 b.2) ∙ (ap (λ (z : List ℕ). b.0 ++ z) (one_text m codes a.1 b.1 a.4 b.4) ∙ sym b.3))

pub one_listing : (m : Module) (x y : List ℕ) → IsListing m x → IsListing m y → x ≡ y
one_listing m x y a b =
    a.text_is ∙ (ap (λ (z : List ℕ). head_line m ++ (numbered qstr_line 0 m.qstrs ++ (numbered object_line 0 m.objects ++ z))) (one_text m (codes_of m) a.codes_text b.codes_text a.are_codes b.are_codes) ∙ sym b.text_is)

pub some_listing : (m : Module) → IsModule m → (text : List ℕ) × IsListing m text
some_listing m is =
    let codes = module_exists m is in
    (_, record { codes_text = codes.0; are_codes = codes.1; text_is = refl })
