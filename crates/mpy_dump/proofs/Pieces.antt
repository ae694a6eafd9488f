-- The instructions of a code, as a walk through its bytes meets them.
use Rattle.std.proofs.Common.{◌≡◌, ℕ, ◌+◌, ◌<◌, ◌≤◌, List, [], ◌∷◌, ◌++◌, length, drop, Option, refl, sym, ap, ◌∙◌, arith, append_assoc, length-append}
use Rattle.std.specs.Prelude.{All}
use Rattle.std.specs.List.{AllByRecursion}
use Rattle.std.proofs.lemmas.List.{append-nil, length-drop, drop-drop, drop_all}
use Rattle.std.proofs.Math.Seq.{drop-append_seam}
use Rattle.std.proofs.lemmas.List.Elements.{recursion_from_All}
use Rattle.mpy_tree.specs.bc_ops.declared.instr.Instr.{Instr}
use Rattle.mpy_tree.specs.bc_ops.Listing.{Piece, IsPiece, joined}
use Rattle.mpy_tree.proofs.bc_ops_lemmas.Law.{one_instruction}
use Rattle.mpy_tree.specs.bc_prelude.Lines.{line_of}
use Rattle.mpy_tree.specs.Raw.{Module}
use Rattle.mpy_dump.specs.Instructions.{head_text, instr_tail, instr_line, instr_lines}
use Rattle.mpy_dump.specs.Reads.{Stands, IsRead}
use Rattle.mpy_dump.proofs.Putting.{Partway, begin, rest_is}

-- what is left of the code from a place on, and that the lines in front of it were put or are held
pub record Walk {S : Type 0} (told : S → Option (List ℕ)) (count : S → ℕ) (old now : S) (held : List ℕ) (m : Module) (table code : List ℕ) (at : ℕ) : Type 0 where
  pub pieces : List Piece
  pub spelled : All IsPiece pieces
  pub code_is : code ≡ joined pieces
  pub left : List Piece
  pub left_spelled : AllByRecursion IsPiece left
  pub left_is : drop at code ≡ joined left
  pub partway : Partway told count old now (instr_lines m table 0 pieces) (held ++ instr_lines m table at left)

pub walk_begins : {S : Type 0} (told : S → Option (List ℕ)) (count : S → ℕ) (s : S) (held : List ℕ) (m : Module) (table code : List ℕ) (pieces : List Piece) → held ≡ [] → All IsPiece pieces → code ≡ joined pieces → Walk told count s s held m table code 0
walk_begins told count s held m table code pieces none spelled e = record {
  pieces = pieces;
  spelled = spelled;
  code_is = e;
  left = pieces;
  left_spelled = recursion_from_All IsPiece pieces spelled;
  left_is = e;
  partway = rest_is (ap (λ (z : List ℕ). z ++ instr_lines m table 0 pieces) (sym none)) (begin told count s (instr_lines m table 0 pieces));
}

-- what stands at a place in front of the end
none_left : {A : Type 0} (code : List ℕ) (at : ℕ) → drop at code ≡ [] → at < length code → A
none_left code at e within = absurd (omega (arith, within, length-drop at code, ap length e))

pub stands : (code : List ℕ) (at : ℕ) (left : List Piece) → AllByRecursion IsPiece left → drop at code ≡ joined left → at < length code → Stands code at
stands code at [] s e within = none_left code at e within
stands code at (piece ∷ pieces) s e within = record { piece = piece; behind = joined pieces; spelled = s.0; is = e }

-- the line of the instruction that is read there comes next, and then those of what follows it
pub record Next (m : Module) (table code : List ℕ) (at end : ℕ) (instr : Instr) (left : List Piece) : Type 0 where
  pub others : List Piece
  pub spelled : AllByRecursion IsPiece others
  pub is : drop end code ≡ joined others
  pub lines : instr_lines m table at left ≡ instr_line m at (line_of table at) end instr ++ instr_lines m table end others

pub next : (m : Module) (table code : List ℕ) (at end : ℕ) (instr : Instr) (left : List Piece) → AllByRecursion IsPiece left → drop at code ≡ joined left → at < length code → IsRead code at end instr → Next m table code at end instr left
next m table code at end instr [] s e within r = none_left code at e within
next m table code at end instr (piece ∷ pieces) s e within r =
    let same = one_instruction piece.text r.text (joined pieces) r.behind piece.instr instr s.0 r.spells (sym e ∙ r.is) in
    let ends : at + length piece.text ≡ end = ap (λ (z : List ℕ). at + length z) same.0 ∙ sym r.ends in
    record {
      others = pieces;
      spelled = s.1;
      is = ap (λ (n : ℕ). drop n code) (sym ends) ∙ (sym (drop-drop (length piece.text) at code)
          ∙ (ap (drop (length piece.text)) e ∙ drop-append_seam piece.text (joined pieces)));
      lines = ap (λ (n : ℕ). instr_line m at (line_of table at) n piece.instr ++ instr_lines m table n pieces) ends
          ∙ ap (λ (i : Instr). instr_line m at (line_of table at) end i ++ instr_lines m table end pieces) same.1;
    }

nothing_left : (left : List Piece) → AllByRecursion IsPiece left → joined left ≡ [] → left ≡ []
nothing_left [] s e = refl
nothing_left (piece ∷ pieces) s e = absurd (omega (arith, ap length s.0.parts, ap length e, length-append piece.text (joined pieces)))

pub walk_ends : {S : Type 0} {told : S → Option (List ℕ)} {count : S → ℕ} {old now : S} {held : List ℕ} {m : Module} {table code : List ℕ} {at : ℕ} (w : Walk told count old now held m table code at) → length code ≤ at → Partway told count old now (instr_lines m table 0 w.pieces) held
walk_ends {S} {told} {count} {old} {now} {held} {m} {table} {code} {at} w past =
    rest_is (ap (λ (z : List Piece). held ++ instr_lines m table at z) (nothing_left w.left w.left_spelled (sym w.left_is ∙ drop_all at code past)) ∙ append-nil held) w.partway

-- the instruction that stands at a place is read there
pub read_there : (code : List ℕ) (at : ℕ) (s : Stands code at) → IsRead code at (at + length s.piece.text) s.piece.instr
read_there code at s = record { text = s.piece.text; behind = s.behind; spells = s.spelled; is = s.is; ends = refl }

pub stands_within : (code : List ℕ) (at : ℕ) → Stands code at → at < length code
stands_within code at s = omega (arith, length-drop at code, ap length s.is, length-append s.piece.text s.behind, ap length s.spelled.parts)

-- it has some bytes, which end in the code
pub record Inside (code : List ℕ) (at end : ℕ) : Type 0 where
  pub forward : at < end
  pub within : end ≤ length code

pub inside : (code : List ℕ) (at end : ℕ) (instr : Instr) → IsRead code at end instr → at ≤ length code → Inside code at end
inside code at end instr r within = record {
  forward = omega (arith, r.ends, ap length r.spells.parts);
  within = omega (arith, r.ends, length-drop at code, ap length r.is, length-append r.text r.behind, within);
}

-- what begins and what ends a line
pub line_is : (m : Module) (start line end : ℕ) (instr : Instr) → head_text start line ++ instr_tail m end instr ≡ instr_line m start line end instr
line_is m start line end instr = simp append_assoc
