-- The piece of a code that stands at a position.
use Rattle.std.proofs.Common.{◌≡◌, ℕ, zero, suc, ◌+◌, ◌<◌, ◌≤◌, Bool, true, false, List, [], ◌∷◌, ◌++◌, length, drop, Some, refl, sym, ap, ◌∙◌, subst, arith, if◌then◌else◌, eq-eqb, length-append, length-drop}
use Rattle.std.proofs.lemmas.Bool.{eqb-true}
use Rattle.std.specs.Prelude.{nat_eq, slice_get, Result, Ok}
use Rattle.std.specs.List.{AllByRecursion}
use Rattle.std.proofs.lemmas.List.Elements.{recursion_from_All}
use Rattle.bc_ops.specs.declared.instr.Instr.{Instr}
use Rattle.bc_ops.specs.declared.listing.Item.{Item}
use Rattle.bc_ops.specs.declared.decoding.CodeFault.{CodeFault}
use Rattle.bc_ops.specs.Code.{Spells}
use Rattle.bc_ops.specs.Listing.{Piece, IsPiece, joined, starts, items_at, item}
use Rattle.bc_ops.proofs.Law.{encodable}
use Rattle.bc_labels.specs.Positions.{CodeList, Listed, position_in, Starts, Stands, Reads}

pub some_is : {A : Type 0} → (x y : A) → Some x ≡ Some y → x ≡ y
some_is x y e = cc

pub some_text : (piece : Piece) → IsPiece piece → 0 < length piece.text
some_text piece s = subst (λ t. 0 < length t) (sym s.parts) (omega arith)

-- every start lies at or behind the first, and the first is found first
pub later : (at : ℕ) (ps : List Piece) → (p o : ℕ) → slice_get (starts at ps) p ≡ Some o → at ≤ o
later at [] p o e = cc
later at (q ∷ ps) zero o e = let h = some_is at o e in omega (arith, h)
later at (q ∷ ps) (suc p) o e = let h = later (at + length q.text) ps p o e in omega (arith, h)

bool_false : (b : Bool) → (b ≡ true → ⊥) → b ≡ false
bool_false true h = absurd (h refl)
bool_false false h = refl

eq_false : (a b : ℕ) → (a ≡ b → ⊥) → nat_eq a b ≡ false
eq_false a b h = bool_false (nat_eq a b) (λ e. h (eqb-true a b e))

position_from : (at : ℕ) (ps : List Piece) → AllByRecursion IsPiece ps → (p o : ℕ) → slice_get (starts at ps) p ≡ Some o → position_in (starts at ps) o ≡ p
position_from at [] s p o e = cc
position_from at (q ∷ ps) s zero o e =
    let h : at ≡ o = some_is at o e in
    ap (λ b. if b then 0 else suc (position_in (starts (at + length q.text) ps) o)) (subst (λ z. nat_eq at z ≡ true) h (eq-eqb at at refl))
position_from at (q ∷ ps) s (suc p) o e =
    let l = later (at + length q.text) ps p o e in
    let t = some_text q s.0 in
    ap (λ b. if b then 0 else suc (position_in (starts (at + length q.text) ps) o)) (eq_false at o (λ h. omega (arith, l, t, h)))
    ∙ ap suc (position_from (at + length q.text) ps s.1 p o e)

drop_past : (xs ys : List ℕ) (k : ℕ) → drop (length xs + k) (xs ++ ys) ≡ drop k ys
drop_past [] ys k = let e : 0 + k ≡ k = omega arith in ap (λ n. drop n ys) e
drop_past (x ∷ xs) ys k = let e : suc (length xs) + k ≡ suc (length xs + k) = omega arith in ap (λ n. drop n (x ∷ (xs ++ ys))) e ∙ drop_past xs ys k

-- the piece at a position
record Lies (ss : List ℕ) (at : ℕ) (ps : List Piece) (p o : ℕ) : Type 0 where
  pub piece : Piece
  pub rest : List ℕ
  pub skip : ℕ
  pub spelled : IsPiece piece
  pub offset : o ≡ at + skip
  pub bytes : drop skip (joined ps) ≡ piece.text ++ rest
  pub listed : slice_get (items_at ss at ps) p ≡ Some (item ss (o + length piece.text) piece.instr)
  pub next : suc p < length (items_at ss at ps) → slice_get (starts at ps) (suc p) ≡ Some (o + length piece.text)
  pub last : suc p ≡ length (items_at ss at ps) → o + length piece.text ≡ at + length (joined ps)

next_start : (at : ℕ) (ss : List ℕ) (ps : List Piece) → 0 < length (items_at ss at ps) → slice_get (starts at ps) 0 ≡ Some at
next_start at ss [] h = absurd (omega (arith, h))
next_start at ss (q ∷ ps) h = refl

none_behind : (at : ℕ) (ss : List ℕ) (ps : List Piece) → 0 ≡ length (items_at ss at ps) → joined ps ≡ []
none_behind at ss [] h = refl
none_behind at ss (q ∷ ps) h = absurd (omega (arith, h))

lies : (ss : List ℕ) (at : ℕ) (ps : List Piece) → AllByRecursion IsPiece ps → (p o : ℕ) → slice_get (starts at ps) p ≡ Some o → Lies ss at ps p o
lies ss at [] s p o e = cc
lies ss at (q ∷ ps) s zero o e =
    let h : at ≡ o = some_is at o e in
    let E : ℕ → Type 0 = λ z. slice_get (items_at ss at (q ∷ ps)) 0 ≡ Some (item ss (z + length q.text) q.instr) in
    let N : ℕ → Type 0 = λ z. 1 < length (items_at ss at (q ∷ ps)) → slice_get (starts at (q ∷ ps)) 1 ≡ Some (z + length q.text) in
    record {
      piece = q;
      rest = joined ps;
      skip = 0;
      spelled = s.0;
      offset = omega (arith, h);
      bytes = refl;
      listed = subst E h refl;
      next = subst N h (λ k. next_start (at + length q.text) ss ps (omega (arith, k)));
      last = λ k.
          (let n = ap length (none_behind (at + length q.text) ss ps (omega (arith, k))) in
          let a = length-append q.text (joined ps) in
          omega (arith, h, n, a));
    }
lies ss at (q ∷ ps) s (suc p) o e =
    let r = lies ss (at + length q.text) ps s.1 p o e in
    record {
      piece = r.piece;
      rest = r.rest;
      skip = length q.text + r.skip;
      spelled = r.spelled;
      offset = omega (arith, r.offset);
      bytes = drop_past q.text (joined ps) r.skip ∙ r.bytes;
      listed = r.listed;
      next = λ k. r.next (omega (arith, k));
      last = λ k. (let l = r.last (omega (arith, k)) in let a = length-append q.text (joined ps) in omega (arith, l, a));
    }

-- the starts of a list, as those of its pieces
pub at_piece : (bytes : List ℕ) (l : CodeList) (ls : Listed bytes l) (p o : ℕ) → slice_get l.offsets p ≡ Some o → slice_get (starts 0 ls.is_list.pieces) p ≡ Some o
at_piece bytes l ls p o e = subst (λ z. slice_get z p ≡ Some o) ls.offsets_are e

pub all_spelled : (bytes : List ℕ) (l : CodeList) (ls : Listed bytes l) → AllByRecursion IsPiece ls.is_list.pieces
all_spelled bytes l ls = recursion_from_All IsPiece ls.is_list.pieces ls.is_list.spelled

pub one : (bytes : List ℕ) (l : CodeList) (p o : ℕ) → Listed bytes l → slice_get l.offsets p ≡ Some o → position_in l.offsets o ≡ p
one bytes l p o ls e =
    ap (λ z. position_in z o) ls.offsets_are ∙ position_from 0 ls.is_list.pieces (all_spelled bytes l ls) p o (at_piece bytes l ls p o e)

pub stands : (bytes : List ℕ) (l : CodeList) (p at : ℕ) → Listed bytes l → slice_get l.offsets p ≡ Some at → Stands bytes l p at
stands bytes l p at ls e =
    let ps = ls.is_list.pieces in
    let r = lies (starts 0 ps) 0 ps (all_spelled bytes l ls) p at (at_piece bytes l ls p at e) in
    let k : at ≡ r.skip = omega (arith, r.offset) in
    let items : l.items ≡ items_at (starts 0 ps) 0 ps = ls.is_list.items_are in
    let end : ℕ = at + length r.piece.text in
    record {
      text = r.piece.text;
      rest = r.rest;
      instr = r.piece.instr;
      spells = r.spelled;
      bytes_are = ap (λ (z : ℕ). drop z bytes) k ∙ (ap (drop r.skip) ls.is_list.bytes_are ∙ r.bytes);
      item_is = ap (λ (z : List Item). slice_get z p) items ∙ (r.listed ∙ ap (λ (z : List ℕ). Some (item z end r.piece.instr)) (sym ls.offsets_are));
      next = λ lt. ap (λ (z : List ℕ). slice_get z (suc p)) ls.offsets_are ∙ r.next (subst (λ (z : List Item). suc p < length z) items lt);
      last = λ eq. r.last (eq ∙ ap length items) ∙ (omega arith ∙ ap length (sym ls.is_list.bytes_are));
    }

pub within : (bytes : List ℕ) (l : CodeList) (at : ℕ) → Listed bytes l → Starts l.offsets at → at < length bytes
within bytes l at ls st =
    let r = stands bytes l (position_in l.offsets at) at ls st in
    let t : 0 < length r.text = subst (λ z. 0 < length z) (sym r.spells.parts) (omega arith) in
    let a = length-append r.text r.rest in
    let b = ap length r.bytes_are in
    let c = length-drop at bytes in
    omega (arith, t, a, b, c)

-- what the reader finds at the start of an instruction is what the list has
pub reads : (bytes : List ℕ) (l : CodeList) (at : ℕ) (result : Result (Instr × ℕ) CodeFault) → Listed bytes l → Starts l.offsets at
    → ((text rest : List ℕ) (instr : Instr) → Spells text instr → drop at bytes ≡ text ++ rest → result ≡ Ok (instr, at + length text))
    → (instr : Instr) × (end : ℕ) × (result ≡ Ok (instr, end)) × Reads l at instr end × (end ≤ length bytes)
reads bytes l at result ls st only =
    let p = position_in l.offsets at in
    let r = stands bytes l p at ls st in
    let end : ℕ = at + length r.text in
    let next : suc p < length l.items → Starts l.offsets end × (position_in l.offsets end ≡ suc p) = λ lt.
    (let n = r.next lt in
    let q = one bytes l (suc p) end ls n in
    (ap (slice_get l.offsets) q ∙ n, q)) in
    let inside : end ≤ length bytes = (let a = length-append r.text r.rest in let b = ap length r.bytes_are in let c = length-drop at bytes in let w = within bytes l at ls st in omega (arith, a, b, c, w)) in
    (r.instr, end, only r.text r.rest r.instr r.spells r.bytes_are, record { is = r.item_is; next = next; encodable = encodable r.text r.instr r.spells }, inside)

abbrev ok_of : Instr × ℕ → Result (Instr × ℕ) CodeFault
ok_of x = Ok x

ok_is : (x y : Instr × ℕ) → ok_of x ≡ ok_of y → x ≡ y
ok_is x y e = cc

pub found : (bytes : List ℕ) (l : CodeList) (at : ℕ) (result : Result (Instr × ℕ) CodeFault) (instr : Instr) (end : ℕ) → Listed bytes l → Starts l.offsets at
    → ((text rest : List ℕ) (i : Instr) → Spells text i → drop at bytes ≡ text ++ rest → result ≡ Ok (i, at + length text))
    → result ≡ Ok (instr, end) → Reads l at instr end × (end ≤ length bytes)
found bytes l at result instr end ls st only is =
    let r = reads bytes l at result ls st only in
    let e : (r.0, r.1) ≡ (instr, end) = ok_is (r.0, r.1) (instr, end) (sym r.2 ∙ is) in
    subst (λ (z : Instr × ℕ). Reads l at z.0 z.1 × (z.1 ≤ length bytes)) e (r.3, r.4)
