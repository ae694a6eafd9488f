-- Instructions one behind the other, as a loop reads them.
use Rattle.std.proofs.Common.{◌≡◌, ℕ, ◌+◌, ◌<◌, ◌≤◌, List, [], ◌∷◌, ◌++◌, length, drop, refl, sym, ap, ◌∙◌, append_assoc, arith, length-append, length-drop}
use Rattle.std.specs.Prelude.{All}
use Rattle.std.specs.List.{AllByRecursion}
use Rattle.std.proofs.lemmas.List.{append-nil, append_cancel_left, drop-drop, nil_from_length}
use Rattle.std.proofs.Math.Seq.{drop-append_seam}
use Rattle.std.proofs.lemmas.List.Elements.{recursion_from_All, All-nil, All-push}
use Rattle.mpy_tree.specs.bc_ops.declared.instr.Instr.{Instr}
use Rattle.mpy_tree.specs.bc_ops.declared.listing.Item.{Item}
use Rattle.mpy_tree.specs.bc_ops.Code.{Spells}
use Rattle.mpy_tree.specs.bc_ops.Listing.{Piece, IsPiece, joined, starts, items_at, IsListOf}
use Rattle.mpy_tree.proofs.bc_ops_lemmas.Law.{one_instruction}

-- the bytes up to a place are instructions
pub record Listed (bytes : List ℕ) (at : ℕ) : Type 0 where
  pub pieces : List Piece
  pub spelled : All IsPiece pieces
  pub parts : bytes ≡ joined pieces ++ drop at bytes
  pub within : at ≤ length bytes

pub listed_none : (bytes : List ℕ) → Listed bytes 0
listed_none bytes = record { pieces = []; spelled = All-nil IsPiece; parts = refl; within = omega arith }

joined-push : (ps : List Piece) (p : Piece) → joined (ps ++ p ∷ []) ≡ joined ps ++ p.text
joined-push [] p = append-nil p.text
joined-push (q ∷ ps) p = ap (λ z. q.text ++ z) (joined-push ps p) ∙ sym (append_assoc q.text (joined ps) p.text)

abbrev piece_of : List ℕ → Instr → Piece
piece_of text instr = record { text = text; instr = instr }

some_text : (text : List ℕ) (instr : Instr) → Spells text instr → 0 < length text
some_text text instr s = let e : length text ≡ length (s.first ∷ s.behind) = ap length s.parts in omega (arith, e)

-- one more instruction
pub listed_more : (bytes text rest : List ℕ) (instr : Instr) (at next : ℕ) → Listed bytes at → Spells text instr → drop at bytes ≡ text ++ rest → next ≡ at + length text → Listed bytes next
listed_more bytes text rest instr at next so_far s e place =
    let behind : drop next bytes ≡ rest = ap (λ (n : ℕ). drop n bytes) place ∙ (sym (drop-drop (length text) at bytes) ∙ (ap (drop (length text)) e ∙ drop-append_seam text rest)) in
    let lengths : length (drop at bytes) ≡ length text + length rest = ap length e ∙ length-append text rest in
    let within = so_far.within in
    record {
      pieces = so_far.pieces ++ piece_of text instr ∷ [];
      spelled = All-push IsPiece so_far.pieces (piece_of text instr) so_far.spelled s;
      parts = so_far.parts ∙ (ap (λ (z : List ℕ). joined so_far.pieces ++ z) (e ∙ ap (λ (z : List ℕ). text ++ z) (sym behind))
          ∙ (sym (append_assoc (joined so_far.pieces) text (drop next bytes)) ∙ ap (λ (z : List ℕ). z ++ drop next bytes) (sym (joined-push so_far.pieces (piece_of text instr)))));
      within = omega (arith, place, lengths, length-drop at bytes, within);
    }

pub moves_on : (text : List ℕ) (instr : Instr) (at next : ℕ) → Spells text instr → next ≡ at + length text → at < next
moves_on text instr at next s place = omega (arith, some_text text instr s, place)

pub listed_all : (bytes : List ℕ) (at : ℕ) → length bytes ≤ at → Listed bytes at → (items : List Item) × IsListOf bytes items
listed_all bytes at le so_far =
    let none : drop at bytes ≡ [] = nil_from_length (drop at bytes) (omega (arith, length-drop at bytes)) in (
      items_at (starts 0 so_far.pieces) 0 so_far.pieces,
      record {
        pieces = so_far.pieces;
        spelled = so_far.spelled;
        bytes_are = so_far.parts ∙ (ap (λ (z : List ℕ). joined so_far.pieces ++ z) none ∙ append-nil (joined so_far.pieces));
        items_are = refl;
      },
    )

-- what stands behind some of the instructions begins with the next one
pub record Begins (bytes : List ℕ) : Type 0 where
  pub text : List ℕ
  pub rest : List ℕ
  pub instr : Instr
  pub spells : Spells text instr
  pub bytes_are : bytes ≡ text ++ rest

next_piece : (ps qs : List Piece) (rest : List ℕ) → AllByRecursion IsPiece ps → AllByRecursion IsPiece qs → joined ps ++ rest ≡ joined qs → 0 < length rest → Begins rest
next_piece [] [] rest s t e some = absurd (omega (arith, some, ap length e))
next_piece [] (q ∷ qs) rest s t e some = record { text = q.text; rest = joined qs; instr = q.instr; spells = t.0; bytes_are = e }
next_piece (p ∷ ps) [] rest s t e some =
    let lengths : length ((p.text ++ joined ps) ++ rest) ≡ 0 = ap length e in
    absurd (omega (arith, some, lengths, length-append (p.text ++ joined ps) rest))
next_piece (p ∷ ps) (q ∷ qs) rest s t e some =
    let whole : p.text ++ (joined ps ++ rest) ≡ q.text ++ joined qs = sym (append_assoc p.text (joined ps) rest) ∙ e in
    let same = one_instruction p.text q.text (joined ps ++ rest) (joined qs) p.instr q.instr s.0 t.0 whole in
    next_piece ps qs rest s.1 t.1 (append_cancel_left q.text (joined ps ++ rest) (joined qs) (ap (λ (z : List ℕ). z ++ (joined ps ++ rest)) (sym same.0) ∙ whole)) some

pub unlisted : (bytes : List ℕ) (at : ℕ) → at < length bytes → Listed bytes at → (Begins (drop at bytes) → ⊥) → (items : List Item) → IsListOf bytes items → ⊥
unlisted bytes at lt so_far nothing items whole =
    nothing (next_piece so_far.pieces whole.pieces (drop at bytes) (recursion_from_All IsPiece so_far.pieces so_far.spelled) (recursion_from_All IsPiece whole.pieces whole.spelled) (sym so_far.parts ∙ whole.bytes_are) (omega (arith, length-drop at bytes)))
