-- A code parts into instructions in one way at most, so it has one list at most.
use Rattle.std.proofs.Common.{◌≡◌, ℕ, List, [], ◌∷◌, ◌++◌, refl, ap, sym, ◌∙◌}
use Rattle.std.specs.List.{AllByRecursion}
use Rattle.std.proofs.lemmas.List.{append_cancel_left}
use Rattle.std.proofs.lemmas.List.Elements.{recursion_from_All}
use Rattle.bc_ops.specs.declared.instr.Instr.{Instr}
use Rattle.bc_ops.specs.declared.listing.Item.{Item}
use Rattle.bc_ops.specs.Listing.{Piece, IsPiece, joined, starts, items_at, IsListOf, Lists}
use Rattle.bc_ops.proofs.Law.{one_instruction}

some_text : (piece : Piece) (bytes : List ℕ) → IsPiece piece → [] ≡ piece.text ++ bytes → ⊥
some_text piece bytes s e =
    let none : [] ≡ s.first ∷ (s.behind ++ bytes) = e ∙ ap (λ (z : List ℕ). z ++ bytes) s.parts in
    cc

abbrev piece_of : List ℕ → Instr → Piece
piece_of text instr = record { text = text; instr = instr }

one_parting : (ps qs : List Piece) → AllByRecursion IsPiece ps → AllByRecursion IsPiece qs → joined ps ≡ joined qs → ps ≡ qs
one_parting [] [] s t e = refl
one_parting [] (q ∷ qs) s t e = absurd (some_text q (joined qs) t.0 e)
one_parting (p ∷ ps) [] s t e = absurd (some_text p (joined ps) s.0 (sym e))
one_parting (p ∷ ps) (q ∷ qs) s t e =
    let same = one_instruction p.text q.text (joined ps) (joined qs) p.instr q.instr s.0 t.0 e in
    let others : joined ps ≡ joined qs = append_cancel_left q.text (joined ps) (joined qs) (ap (λ (z : List ℕ). z ++ joined ps) (sym same.0) ∙ e) in
    let heads : p ≡ q = ap (λ (z : List ℕ). piece_of z p.instr) same.0 ∙ ap (piece_of q.text) same.1 in
    let tails : ps ≡ qs = one_parting ps qs s.1 t.1 others in
    cc

same_pieces : (bytes : List ℕ) (a b : List Item) (s : IsListOf bytes a) (t : IsListOf bytes b) → s.pieces ≡ t.pieces
same_pieces bytes a b s t = one_parting s.pieces t.pieces (recursion_from_All IsPiece s.pieces s.spelled) (recursion_from_All IsPiece t.pieces t.spelled) (sym s.bytes_are ∙ t.bytes_are)

pub one_list : (bytes : List ℕ) (a b : List Item) → IsListOf bytes a → IsListOf bytes b → a ≡ b
one_list bytes a b s t =
    s.items_are ∙ (ap (λ (pieces : List Piece). items_at (starts 0 pieces) 0 pieces) (same_pieces bytes a b s t) ∙ sym t.items_are)

pub one_listing : (bytes : List ℕ) (a b : List Item) (m n : List ℕ) → Lists bytes a m → Lists bytes b n → (a ≡ b) × (m ≡ n)
one_listing bytes a b m n s t = (
  one_list bytes a b s.is_list t.is_list,
  s.offsets_are ∙ (ap (starts 0) (same_pieces bytes a b s.is_list t.is_list) ∙ sym t.offsets_are),
)
