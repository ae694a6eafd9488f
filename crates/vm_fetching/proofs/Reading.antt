-- The instruction that is read ends where the next one starts, or where the code ends.
use Rattle.std.proofs.Common.{◌≡◌, ℕ, zero, suc, ◌+◌, ◌<◌, Bool, true, false, List, [], ◌∷◌, ◌++◌, length, drop, Some, Result, Ok, refl, sym, ap, ◌∙◌, subst, arith, if◌then◌else◌}
use Rattle.std.proofs.lemmas.Bool.{eqb-true, ltb-true, ltb-false}
use Rattle.std.specs.Prelude.{nat_eq, nat_lt, slice_get}
use Rattle.frame_moves.specs.bc_ops.declared.instr.Instr.{Instr}
use Rattle.frame_moves.specs.bc_ops.declared.decoding.CodeFault.{CodeFault}
use Rattle.frame_moves.specs.bc_ops.Code.{Spells}
use Rattle.frame_moves.specs.bc_labels.Positions.{CodeList, Listed, position_in, Starts, Stands}
use Rattle.frame_moves.proofs.bc_labels_lemmas.Order.{each}
use Rattle.frame_moves.proofs.bc_labels_lemmas.Pieces.{one, stands, within}

bool_false : (b : Bool) → (b ≡ true → ⊥) → b ≡ false
bool_false true h = absurd (h refl)
bool_false false h = refl

position_past : (ss : List ℕ) (o : ℕ) → ((p a : ℕ) → slice_get ss p ≡ Some a → a < o) → position_in ss o ≡ length ss
position_past [] o h = refl
position_past (x ∷ ss) o h =
    let lt = h 0 x refl in
    ap (λ b. if b then 0 else suc (position_in ss o)) (bool_false (nat_eq x o) (λ e. (let q = eqb-true x o e in absurd (omega (arith, q, lt)))))
    ∙ ap suc (position_past ss o (λ p a e. h (suc p) a e))

get_within : {A : Type 0} (xs : List A) (p : ℕ) (x : A) → slice_get xs p ≡ Some x → p < length xs
get_within [] p x e = cc
get_within (y ∷ xs) zero x e = omega arith
get_within (y ∷ xs) (suc p) x e = let h = get_within xs p x e in omega (arith, h)

abbrev pair_of : Instr → ℕ → Instr × ℕ
pair_of instr end = (instr, end)

abbrev ok_of : Instr × ℕ → Result (Instr × ℕ) CodeFault
ok_of x = Ok x

ok_is : (x y : Instr × ℕ) → ok_of x ≡ ok_of y → x ≡ y
ok_is x y e = cc

pub next_at : (bytes : List ℕ) (l : CodeList) (at : ℕ) (result : Result (Instr × ℕ) CodeFault) (instr : Instr) (end : ℕ) → Listed bytes l → Starts l.offsets at
    → ((text rest : List ℕ) (i : Instr) → Spells text i → drop at bytes ≡ text ++ rest → result ≡ Ok (i, at + length text))
    → result ≡ Ok (instr, end) → (position_in l.offsets end ≡ suc (position_in l.offsets at)) × (at < end)
next_at bytes l at result instr end ls st only is =
    let p = position_in l.offsets at in
    let r = stands bytes l p at ls st in
    let last : ℕ = at + length r.text in
    let pair : pair_of r.instr last ≡ pair_of instr end = ok_is (r.instr, last) (instr, end) (sym (only r.text r.rest r.instr r.spells r.bytes_are) ∙ is) in
    let same : last ≡ end = ap (λ (z : Instr × ℕ). z.1) pair in
    let some : 0 < length r.text = subst (λ z. 0 < length z) (sym r.spells.parts) (omega arith) in
    (subst (λ z. position_in l.offsets z ≡ suc p) same (by (nat_lt (suc p) (length l.items)) refl r), omega (arith, some, same))
  where
    by : (b : Bool) → nat_lt (suc (position_in l.offsets at)) (length l.items) ≡ b → (r : Stands bytes l (position_in l.offsets at) at) → position_in l.offsets (at + length r.text) ≡ suc (position_in l.offsets at)
    by true t r = one bytes l (suc (position_in l.offsets at)) (at + length r.text) ls (r.next (ltb-true _ _ t))
    by false t r =
        let p = position_in l.offsets at in
        let lt = get_within l.items p _ r.item_is in
        let past = ltb-false (suc p) (length l.items) t in
        let whole : suc p ≡ length l.items = omega (arith, lt, past) in
        let end = r.last whole in
        ap (position_in l.offsets) end
        ∙ (position_past l.offsets (length bytes) (λ q a e. within bytes l a ls (ap (slice_get l.offsets) (one bytes l q a ls e) ∙ e))
        ∙ (each bytes l ls ∙ sym whole))
