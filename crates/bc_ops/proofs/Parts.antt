-- Bytes parted into instructions, one behind the other.
use Rattle.std.proofs.Common.{◌≡◌, ℕ, zero, suc, ◌+◌, ◌-◌, ◌<◌, ◌≤◌, List, [], ◌∷◌, ◌++◌, length, get_or, take, drop, map, refl, sym, ap, ap₂, subst, ◌∙◌, append_assoc, arith, add-one, zero-add, length-append, length-drop}
use Rattle.std.specs.Prelude.{All, ℤ, pos, Bool, true, false, if◌then◌else◌}
use Rattle.std.specs.Ordering.{int_eq}
use Rattle.std.specs.List.{AllByRecursion}
use Rattle.std.proofs.lemmas.Bool.Decides.{Decides-int_eq}
use Rattle.std.proofs.lemmas.Int.{ints}
use Rattle.std.specs.List.Sorted.{IsStrictlyIncreasing}
use Rattle.std.proofs.lemmas.List.{append-nil, append_cancel_left, take_more, take_more_set, take_all, drop_all, drop-set-lt, length-map, map-append}
use Rattle.std.proofs.Math.ListN.{set}
use Rattle.std.proofs.Math.Seq.{drop-append_seam, drop-cons}
use Rattle.std.proofs.lemmas.List.Elements.{recursion_from_All, All-from_recursion}
use Rattle.bc_ops.specs.declared.instr.Instr.{Instr}
use Rattle.bc_ops.specs.declared.instr.Instr.TheVariants as instrs
use Rattle.bc_ops.specs.declared.listing.Item.{Item}
use Rattle.bc_ops.specs.declared.listing.Target.TheVariants.{Position, Offset}
use Rattle.bc_ops.specs.Code.{Spells}
use Rattle.bc_ops.specs.Listing.{Piece, IsPiece, joined, starts, target, item, items_at, IsListOf, Lists}
use Rattle.bc_ops.proofs.Law.{one_instruction}
use Rattle.bc_ops.specs.Parting.{IsParted, placed}

-- where a target lies
-- ==================

pub never_falls : (xs : List ℕ) → IsStrictlyIncreasing xs → (i d : ℕ) → i + d < length xs → get_or xs i 0 ≤ get_or xs (i + d) 0
never_falls xs rises i zero lt = let e : i + 0 ≡ i = omega arith in rw e (omega arith)
never_falls xs rises i (suc d) lt =
    let e : i + suc d ≡ i + d + 1 = omega arith in
    let so_far : get_or xs i 0 ≤ get_or xs (i + d) 0 = never_falls xs rises i d (omega arith) in
    let next : get_or xs (i + d) 0 < get_or xs (i + d + 1) 0 = rises (i + d) (omega arith) in
    subst (λ n. get_or xs i 0 ≤ get_or xs n 0) (sym e) (omega (arith, so_far, next))

pub in_order : (xs : List ℕ) → IsStrictlyIncreasing xs → (i j : ℕ) → i ≤ j → j < length xs → get_or xs i 0 ≤ get_or xs j 0
in_order xs rises i j le lt =
    let e : i + (j - i) ≡ j = omega arith in
    subst (λ n. get_or xs i 0 ≤ get_or xs n 0) e (never_falls xs rises i (j - i) (omega arith))

bool_false : (b : Bool) → (b ≡ true → ⊥) → b ≡ false
bool_false true unequal = absurd (unequal refl)
bool_false false unequal = refl

-- the tail of a list that rises
tail_rises : (x : ℕ) (xs : List ℕ) → IsStrictlyIncreasing (x ∷ xs) → IsStrictlyIncreasing xs
tail_rises x xs rises k lt =
    let e : suc k + 1 ≡ suc (k + 1) = omega arith in
    let P : ℕ → Type 0 = λ n. get_or xs k 0 < get_or (x ∷ xs) n 0 in
    subst P e (rises (suc k) (omega arith))

int_apart : (y z : ℤ) → (y ≡ z → ⊥) → int_eq y z ≡ false
int_apart y z apart = bool_false (int_eq y z) (λ same. apart ((Decides-int_eq y z).0 same))

pub missing : (xs : List ℕ) (k : ℕ) (z : ℤ) → ((i : ℕ) → i < length xs → z ≡ pos (get_or xs i 0) → ⊥) → target xs k z ≡ Offset z
missing [] k z none = refl
missing (x ∷ xs) k z none =
    let apart : int_eq z (pos x) ≡ false = int_apart z (pos x) (none 0 (omega arith)) in
    ap (λ b. if b then Position k else target xs (k + 1) z) apart ∙ missing xs (k + 1) z (λ i lt. none (suc i) (omega arith))

pub found : (xs : List ℕ) (k i : ℕ) (z : ℤ) → IsStrictlyIncreasing xs → i < length xs → z ≡ pos (get_or xs i 0) → target xs k z ≡ Position (k + i)
found [] k i z rises lt e = absurd (omega arith)
found (x ∷ xs) k zero z rises lt e =
    ap (λ b. if b then Position k else target xs (k + 1) z) ((Decides-int_eq z (pos x)).1 e) ∙ ap Position (omega arith)
found (x ∷ xs) k (suc i) z rises lt e =
    let first : x < get_or xs 0 0 = rises 0 (omega arith) in
    let later : get_or xs 0 0 ≤ get_or xs i 0 = in_order xs (tail_rises x xs rises) 0 i (omega arith) (omega arith) in
    let apart : int_eq z (pos x) ≡ false = int_apart z (pos x) (λ same. omega (arith, ints, same, e, first, later)) in
    ap (λ b. if b then Position k else target xs (k + 1) z) apart ∙ (found xs (k + 1) i z (tail_rises x xs rises) (omega arith) e ∙ ap Position (omega arith))

abbrev piece_of : List ℕ → Instr → Piece
piece_of text instr = record { text = text; instr = instr }

-- the loop
-- ========

-- the bytes in front of a place are parted, and those behind it are instructions
pub record IsPartedTo (bytes offsets : List ℕ) (items : List Item) (at : ℕ) : Type 0 where
  pub done : List Piece
  pub left : List Piece
  pub spelled_done : AllByRecursion IsPiece done
  pub spelled_left : AllByRecursion IsPiece left
  pub bytes_are : bytes ≡ joined done ++ joined left
  pub at_is : at ≡ length (joined done)
  pub offsets_are : offsets ≡ starts 0 done
  pub items_are : items ≡ items_at [] 0 done

pub parted_none : (bytes : List ℕ) (items : List Item) → IsListOf bytes items → IsPartedTo bytes [] [] 0
parted_none bytes items w = record {
  done = [];
  left = w.pieces;
  spelled_done = tt;
  spelled_left = recursion_from_All IsPiece w.pieces w.spelled;
  bytes_are = w.bytes_are;
  at_is = refl;
  offsets_are = refl;
  items_are = refl;
}

some_text : (piece : Piece) → IsPiece piece → 0 < length piece.text
some_text piece s = let e : length piece.text ≡ length (s.first ∷ s.behind) = ap length s.parts in omega (arith, e)

joined-push : (ps : List Piece) (p : Piece) → joined (ps ++ p ∷ []) ≡ joined ps ++ p.text
joined-push [] p = append-nil p.text
joined-push (q ∷ ps) p = ap (λ z. q.text ++ z) (joined-push ps p) ∙ sym (append_assoc q.text (joined ps) p.text)

starts-push : (at : ℕ) (ps : List Piece) (p : Piece) → starts at (ps ++ p ∷ []) ≡ starts at ps ++ (at + length (joined ps)) ∷ []
starts-push at [] p = ap (λ n. n ∷ []) (omega arith)
starts-push at (q ∷ ps) p =
    let e : (at + length q.text) + length (joined ps) ≡ at + length (q.text ++ joined ps) = omega (arith, length-append q.text (joined ps)) in
    ap (λ z. at ∷ z) (starts-push (at + length q.text) ps p ∙ ap (λ n. starts (at + length q.text) ps ++ n ∷ []) e)

items-push : (at : ℕ) (ps : List Piece) (p : Piece) → items_at [] at (ps ++ p ∷ []) ≡ items_at [] at ps ++ item [] (at + length (joined ps) + length p.text) p.instr ∷ []
items-push at [] p = ap (λ n. item [] n p.instr ∷ []) (omega arith)
items-push at (q ∷ ps) p =
    let e : (at + length q.text) + length (joined ps) + length p.text ≡ at + length (q.text ++ joined ps) + length p.text = omega (arith, length-append q.text (joined ps)) in
    ap (λ z. item [] (at + length q.text) q.instr ∷ z) (items-push (at + length q.text) ps p ∙ ap (λ n. items_at [] (at + length q.text) ps ++ item [] n p.instr ∷ []) e)

spelled-push : (ps : List Piece) (p : Piece) → AllByRecursion IsPiece ps → IsPiece p → AllByRecursion IsPiece (ps ++ p ∷ [])
spelled-push [] p s t = (t, tt)
spelled-push (q ∷ ps) p s t = (s.0, spelled-push ps p s.1 t)

-- what stands at the place while bytes are left
pub record Stands (bytes : List ℕ) (at : ℕ) : Type 0 where
  pub piece : Piece
  pub behind : List ℕ
  pub spelled : IsPiece piece
  pub bytes_are : drop at bytes ≡ piece.text ++ behind

stands_in : (bytes front : List ℕ) (at : ℕ) (left : List Piece) → AllByRecursion IsPiece left → bytes ≡ front ++ joined left → at ≡ length front → at < length bytes → Stands bytes at
stands_in bytes front at [] s e place lt = absurd (omega (arith, lt, place, ap length e, length-append front []))
stands_in bytes front at (p ∷ ps) s e place lt = record {
  piece = p;
  behind = joined ps;
  spelled = s.0;
  bytes_are = ap (λ n. drop n bytes) place ∙ (ap (drop (length front)) e ∙ drop-append_seam front (p.text ++ joined ps));
}

pub stands : (bytes offsets : List ℕ) (items : List Item) (at : ℕ) → IsPartedTo bytes offsets items at → at < length bytes → Stands bytes at
stands bytes offsets items at w lt = stands_in bytes (joined w.done) at w.left w.spelled_left w.bytes_are w.at_is lt

-- what is left behind the instruction that stands there
from_left : (left : List Piece) (text rest : List ℕ) (instr : Instr) → AllByRecursion IsPiece left → joined left ≡ text ++ rest → Spells text instr → (qs : List Piece) × AllByRecursion IsPiece qs × (rest ≡ joined qs)
from_left [] text rest instr s e t =
    let some = some_text (piece_of text instr) t in
    absurd (omega (arith, some, ap length e, length-append text rest))
from_left (q ∷ qs) text rest instr s e t =
    let same = one_instruction q.text text (joined qs) rest q.instr instr s.0 t e in
    (qs, s.1, append_cancel_left text rest (joined qs) (sym e ∙ ap (λ (z : List ℕ). z ++ joined qs) same.0))

-- an instruction ends inside the bytes
pub ends_within : (bytes text rest : List ℕ) (at end most : ℕ) → drop at bytes ≡ text ++ rest → end ≡ at + length text → at < length bytes → length bytes ≤ most → end ≤ most
ends_within bytes text rest at end most e place lt short = omega (arith, place, lt, short, length-drop at bytes, length-append text rest, ap length e)

pub one_more : (bytes offsets : List ℕ) (items : List Item) (at end : ℕ) (instr : Instr) → IsPartedTo bytes offsets items at → (text rest : List ℕ) → Spells text instr → drop at bytes ≡ text ++ rest → end ≡ at + length text → IsPartedTo bytes (offsets ++ at ∷ []) (items ++ item [] end instr ∷ []) end
one_more bytes offsets items at end instr w text rest s e place =
    let behind : drop at bytes ≡ joined w.left = ap (λ n. drop n bytes) w.at_is ∙ (ap (drop (length (joined w.done))) w.bytes_are ∙ drop-append_seam (joined w.done) (joined w.left)) in
    let next = from_left w.left text rest instr w.spelled_left (sym behind ∙ e) s in
    let p = piece_of text instr in
    record {
      done = w.done ++ p ∷ [];
      left = next.0;
      spelled_done = spelled-push w.done p w.spelled_done s;
      spelled_left = next.1;
      bytes_are = w.bytes_are ∙ (ap (λ z. joined w.done ++ z) (sym behind ∙ (e ∙ ap (λ z. text ++ z) next.2))
          ∙ (sym (append_assoc (joined w.done) text (joined next.0)) ∙ ap (λ z. z ++ joined next.0) (sym (joined-push w.done p))));
      at_is = place ∙ (ap (λ n. n + length text) w.at_is ∙ (sym (length-append (joined w.done) text) ∙ ap length (sym (joined-push w.done p))));
      offsets_are = ap (λ z. z ++ at ∷ []) w.offsets_are ∙ (ap (λ n. starts 0 w.done ++ n ∷ []) (w.at_is ∙ sym (zero-add (length (joined w.done)))) ∙ sym (starts-push 0 w.done p));
      items_are = ap (λ z. z ++ item [] end instr ∷ []) w.items_are ∙ (ap (λ n. items_at [] 0 w.done ++ item [] n instr ∷ []) (place ∙ ap (λ n. n + length text) (w.at_is ∙ sym (zero-add (length (joined w.done))))) ∙ sym (items-push 0 w.done p));
    }

none_left : (left : List Piece) → AllByRecursion IsPiece left → length (joined left) ≡ 0 → left ≡ []
none_left [] s e = refl
none_left (p ∷ ps) s e = absurd (omega (arith, some_text p s.0, e, length-append p.text (joined ps)))

all_pieces : (ps : List Piece) → AllByRecursion IsPiece ps → All IsPiece ps
all_pieces ps s = All-from_recursion IsPiece ps s

pub all_parted : (bytes offsets : List ℕ) (items : List Item) (at : ℕ) → length bytes ≤ at → IsPartedTo bytes offsets items at → IsParted bytes offsets items
all_parted bytes offsets items at le w =
    let lengths : length bytes ≡ length (joined w.done) + length (joined w.left) = ap length w.bytes_are ∙ length-append (joined w.done) (joined w.left) in
    let none : w.left ≡ [] = none_left w.left w.spelled_left (omega (arith, le, w.at_is, lengths)) in
    record {
      pieces = w.done;
      spelled = all_pieces w.done w.spelled_done;
      bytes_are = w.bytes_are ∙ (ap (λ ps. joined w.done ++ joined ps) none ∙ append-nil (joined w.done));
      offsets_are = w.offsets_are;
      items_are = w.items_are;
    }

-- the items
-- =========

rises_from : (at : ℕ) (ps : List Piece) → AllByRecursion IsPiece ps → (k : ℕ) → k + 1 < length (starts at ps) → get_or (starts at ps) k 0 < get_or (starts at ps) (k + 1) 0
rises_from at [] s k lt = absurd (omega arith)
rises_from at (p ∷ []) s k lt = absurd (omega arith)
rises_from at (p ∷ q ∷ ps) s zero lt = omega (arith, some_text p s.0)
rises_from at (p ∷ q ∷ ps) s (suc k) lt =
    let e : suc k + 1 ≡ suc (k + 1) = omega arith in
    let P : ℕ → Type 0 = λ n. get_or (starts at (p ∷ q ∷ ps)) (suc k) 0 < get_or (starts at (p ∷ q ∷ ps)) n 0 in
    subst P (sym e) (rises_from (at + length p.text) (q ∷ ps) s.1 k (omega arith))

pub rises : (bytes offsets : List ℕ) (items : List Item) → IsParted bytes offsets items → IsStrictlyIncreasing offsets
rises bytes offsets items w =
    subst IsStrictlyIncreasing (sym w.offsets_are) (rises_from 0 w.pieces (recursion_from_All IsPiece w.pieces w.spelled))

placed_item : (ss : List ℕ) (end : ℕ) (instr : Instr) → placed ss (item [] end instr) ≡ item ss end instr
placed_item ss end (instrs.Jump op offset wide) = refl
placed_item ss end (instrs.Unwind offset wide byte) = refl
placed_item ss end instr = refl

placed_items : (ss : List ℕ) (at : ℕ) (ps : List Piece) → map (placed ss) (items_at [] at ps) ≡ items_at ss at ps
placed_items ss at [] = refl
placed_items ss at (p ∷ ps) = ap₂ (λ x xs. x ∷ xs) (placed_item ss (at + length p.text) p.instr) (placed_items ss (at + length p.text) ps)

pub all_listed : (bytes offsets : List ℕ) (parted items : List Item) → IsParted bytes offsets parted → items ≡ map (placed offsets) parted → Lists bytes items offsets
all_listed bytes offsets parted items w e = record {
  is_list = record {
    pieces = w.pieces;
    spelled = w.spelled;
    bytes_are = w.bytes_are;
    items_are = e ∙ (ap (map (placed offsets)) w.items_are ∙ (ap (λ ss. map (placed ss) (items_at [] 0 w.pieces)) w.offsets_are ∙ placed_items (starts 0 w.pieces) 0 w.pieces));
  };
  offsets_are = w.offsets_are;
}

-- the items that a loop has placed, and those that it hasn't reached
pub record IsPlacedTo (ss : List ℕ) (old items : List Item) (i : ℕ) : Type 0 where
  pub done : take i items ≡ map (placed ss) (take i old)
  pub left : drop i items ≡ drop i old

pub placed_none : (ss : List ℕ) (old : List Item) → IsPlacedTo ss old old 0
placed_none ss old = record { done = refl; left = refl }

pub placed_more : (ss : List ℕ) (old items : List Item) (i : ℕ) (d y : Item) → i < length items → length items ≡ length old → IsPlacedTo ss old items i → y ≡ placed ss (get_or items i d) → IsPlacedTo ss old (set items i y) (i + 1)
placed_more ss old items i d y lt same w is =
    let cons : drop i items ≡ get_or items i d ∷ drop (suc i) items = drop-cons items i d lt in
    let cons_old : drop i old ≡ get_or old i d ∷ drop (suc i) old = drop-cons old i d (omega (arith, lt, same)) in
    let both : get_or items i d ∷ drop (suc i) items ≡ get_or old i d ∷ drop (suc i) old = sym cons ∙ (w.left ∙ cons_old) in
    let heads : get_or items i d ≡ get_or old i d = cc in
    let tails : drop (suc i) items ≡ drop (suc i) old = cc in
    record {
      done = take_more_set items i y lt ∙ (ap₂ (λ xs z. xs ++ z ∷ []) w.done (is ∙ ap (placed ss) heads) ∙ (sym (map-append (placed ss) (take i old) (get_or old i d ∷ []))
          ∙ ap (map (placed ss)) (sym (take_more old i d (omega (arith, lt, same))))));
      left = ap (λ n. drop n (set items i y)) (add-one i) ∙ (drop-set-lt (suc i) items i y (omega arith) ∙ (tails ∙ ap (λ n. drop n old) (sym (add-one i))));
    }

pub placed_all : (ss : List ℕ) (old items : List Item) (i : ℕ) → length items ≤ i → length items ≡ length old → IsPlacedTo ss old items i → items ≡ map (placed ss) old
placed_all ss old items i le same w =
    sym (take_all i items le) ∙ (w.done ∙ ap (map (placed ss)) (take_all i old (omega (arith, le, same))))

-- what is written back into the front of a list
pub written_back : (f : Item → Item) (old new : List Item) (n : ℕ) → n ≡ length old → new ≡ map f old → take n (new ++ drop (length new) old) ≡ map f old
written_back f old new n size is =
    let count : length new ≡ length old = ap length is ∙ length-map old f in
    ap (λ z. take n (new ++ z)) (drop_all (length new) old (omega (arith, count))) ∙ (ap (take n) (append-nil new) ∙ (take_all n new (omega (arith, size, count)) ∙ is))
