-- The shapes of a code have their room, and what a finally keeps lies on the height of an entry.
use Rattle.std.proofs.Common.{◌≡◌, ℕ, zero, suc, ◌-◌, true, false, List, [], ◌∷◌, ◌++◌, length, map, drop, replicate, Some, refl, sym, ap, subst}
use Rattle.std.specs.Prelude.{Bool, slice_get}
use Rattle.std.proofs.lemmas.Bool.{true≢false}
use Rattle.bc_library.specs.mpy_tree.bc_ops.declared.instr.Op.{Op}
use Rattle.bc_library.specs.mpy_tree.bc_ops.declared.instr.Op.TheVariants as ops
use Rattle.bc_library.specs.mpy_tree.bc_ops.declared.instr.Instr.{Instr}
use Rattle.bc_library.specs.mpy_tree.bc_ops.declared.instr.Instr.TheVariants as instrs
use Rattle.bc_library.specs.mpy_tree.bc_ops.declared.listing.Item.{Item}
use Rattle.bc_library.specs.mpy_tree.bc_ops.declared.listing.Item.TheVariants as items
use Rattle.bc_flow.specs.bc_shapes.declared.kinds.Kind.{Kind}
use Rattle.bc_flow.specs.bc_shapes.declared.kinds.Kind.TheVariants as kinds
use Rattle.bc_flow.specs.bc_shapes.declared.kinds.Give.{Give}
use Rattle.bc_flow.specs.bc_shapes.declared.kinds.Give.TheVariants.{New}
use Rattle.bc_flow.specs.bc_shapes.declared.shape.Entry.{Entry}
use Rattle.bc_flow.specs.bc_shapes.Shape.{At, after}
use Rattle.bc_flow.specs.declared.code.Code.{Code as RustCode}
use Rattle.bc_flow.specs.Action.{Action, Straight, op_action, jump_action, instr_action, action}
use Rattle.bc_flow.specs.Code.{Code, code_of}
use Rattle.bc_flow.specs.Edges.{takes, gives}
use Rattle.bc_flow.specs.Machine.{Stack, KeptJump, Run, cut, give_slot, given}
use Rattle.bc_flow.specs.Verified.{Assigned, Holds, IsLeastOf, Reached, Table, at}
use Rattle.bc_flow.proofs.Going.{Plains, all_fine, gives_plain}
use Rattle.bc_flow.proofs.Never.{Good}
use Rattle.bc_flow.proofs.Rows.{code_fine}
use Rattle.bc_flow.proofs.Sound.{Fits, Stands, empty, is_kept, stands-length, stands_given}
use Rattle.bc_library.specs.bc_verify.Body.{flow_of}
use Rattle.bc_library.specs.Shelf.{Shelf}
use Rattle.snap_laws.specs.Jumps.{JumpsLeadOn}
use Rattle.snap_states.specs.declared.shapes.Shapes.{Shapes}
use Rattle.snap_states.specs.Shapes.{IsOrderly, StandsAt}
use Rattle.snap_states.specs.Frames.{AreShapes}
use Rattle.snap_states.proofs.Causing.{all_none, gives_none, causes_lie}
use Rattle.snap_states.proofs.Shaping.{same_stand}

-- no instruction makes a cause
-- ============================

new_none : (n : ℕ) → all_none (replicate n (New kinds.Value) ++ []) ≡ true
new_none zero = refl
new_none (suc n) = new_none n

op_none : (op : Op) (n : ℕ) → gives_none (op_action op n) ≡ true
unfolding op_action
op_none ops.UnpackSequence n = new_none n
op_none _ n = refl

jump_none : (op : Op) (to : ℕ) → gives_none (jump_action op to) ≡ true
unfolding jump_action
jump_none ops.Jump to = refl
jump_none ops.PopJumpIfTrue to = refl
jump_none ops.PopJumpIfFalse to = refl
jump_none ops.JumpIfTrueOrPop to = refl
jump_none ops.JumpIfFalseOrPop to = refl
jump_none ops.SetupExcept to = refl
jump_none ops.SetupFinally to = refl
jump_none ops.PopExceptJump to = refl
jump_none ops.ForIter to = refl
jump_none _ to = refl

instr_none : (instr : Instr) → gives_none (instr_action instr) ≡ true
unfolding instr_action
instr_none (instrs.Plain op) = op_none op 0
instr_none (instrs.Name op n) = op_none op n
instr_none (instrs.Num op n) = op_none op n
instr_none (instrs.Int z) = refl
instr_none (instrs.Jump op offset wide) = refl
instr_none (instrs.Unwind offset wide byte) = refl
instr_none (instrs.Unary op) = refl
instr_none (instrs.Binary op) = refl

item_none : (size : ℕ) (item : Item) → gives_none (action size item) ≡ true
unfolding action
item_none size (items.Plain instr) = instr_none instr
item_none size (items.Jump op to) = jump_none op _
item_none size (items.Unwind to byte) = refl

list_none : (size : ℕ) (xs : List Item) (p : ℕ) (a : Action) → slice_get (map (action size) xs) p ≡ Some a → gives_none a ≡ true
list_none size [] p a e = cc
list_none size (item ∷ xs) zero a e = subst (λ z. gives_none z ≡ true) (some_is (action size item) a e) (item_none size item)
  where
    some_is : (x y : Action) → Some x ≡ Some y → x ≡ y
    some_is x y e = cc
list_none size (item ∷ xs) (suc p) a e = list_none size xs p a e

-- new slots of the kinds of a shape
-- =================================

abbrev news : List Kind → List Give
news ks = map (λ k. New k) ks

abbrev stack : List Kind → Stack
stack ks = given (news ks) 0 []

news_after : (ks : List Kind) → after (news ks) 0 [] ≡ ks
news_after [] = refl
news_after (k ∷ ks) = ap (λ zs. k ∷ zs) (news_after ks)

stack_stands : (ks : List Kind) → Stands (stack ks) ks
stack_stands ks = subst (Stands (stack ks)) (news_after ks) (stands_given (news ks) 0 [] [] empty)

news_fine : (ks : List Kind) → all_fine [] (news ks) ≡ true
news_fine [] = refl
news_fine (k ∷ ks) = news_fine ks

news_plain : (ks : List Kind) → Plains (map (give_slot []) (news ks))
unfolding takes gives
news_plain ks = gives_plain (Straight [] (news ks)) [] (news_fine ks) refl

plain_end : (st : Stack) → Plains st → Plains (st ++ drop 0 [])
plain_end [] p = tt
plain_end (s ∷ st) p = (p.0, plain_end st p.1)

plain_drop : (n : ℕ) (st : Stack) → Plains st → Plains (drop n st)
plain_drop zero st p = p
plain_drop (suc n) [] p = tt
plain_drop (suc n) (s ∷ st) p = plain_drop n st p.1

-- they keep no jump
none_kept : (st above rest : Stack) (t d : ℕ) (it : Bool) → Plains st → st ≡ above ++ KeptJump t d it ∷ rest → ⊥
none_kept [] [] rest t d it p e = cc
none_kept [] (b ∷ above) rest t d it p e = cc
none_kept (s ∷ st) [] rest t d it p e = let first : s ≡ KeptJump t d it = cc in true≢false (subst (λ z. is_kept z ≡ false) first p.0)
none_kept (s ∷ st) (b ∷ above) rest t d it p e = let others : st ≡ above ++ KeptJump t d it ∷ rest = cc in none_kept st above rest t d it p.1 others

no_jumps : (a : Assigned) (es : List Entry) (st : Stack) → Plains st → JumpsLeadOn a es st
no_jumps a [] st p = tt
no_jumps a (e ∷ es) st p =
    ((λ above rest t d it parts height. absurd (none_kept st above rest t d it p parts)), no_jumps a es (cut e.height st) (plain_drop (length st - e.height) st p))

-- shapes
-- ======

-- what the law of the lower crate says
abbrev pub Law : Type 0
Law = (code : Code) (a b : Assigned) (p : ℕ) (x : At) (st : Stack) → IsLeastOf code a → Holds code b → a p ≡ Some x → Stands st x.slots → JumpsLeadOn a x.entries st
    → Good code b (Run p st x.entries)

module _ (law : Law) (c : RustCode) (t : Table) (reached : Reached (code_of c) t) (h : Holds (code_of c) (at t)) (least : IsLeastOf (code_of c) (at t)) where
  good : (p : ℕ) (x : At) → at t p ≡ Some x → Good (code_of c) (at t) (Run p (stack x.slots) x.entries)
  good p x e =
      law (code_of c) (at t) (at t) p x (stack x.slots) least h e (stack_stands x.slots)
      (no_jumps (at t) x.entries (stack x.slots) (plain_end (map (give_slot []) (news x.slots)) (news_plain x.slots)))

  fits : (p : ℕ) (x : At) → at t p ≡ Some x → Fits x.entries (length x.slots)
  fits p x e = subst (λ n. Fits x.entries n) (stands-length (stack x.slots) x.slots (stack_stands x.slots)) (good p x e).runs.fits

  is_orderly : (p : ℕ) (x : At) → at t p ≡ Some x → IsOrderly (code_of c) x
  is_orderly p x e = record {
    heights = fits p x e;
    few = (good p x e).few;
    causes = causes_lie (code_of c) (at t) h fits (code_fine c) (list_none (length c.items.items) c.items.items) t reached p x e;
  }

pub stand_orderly : Law → (shelf : Shelf) (m k offset : ℕ) (x : Shapes) → AreShapes shelf m k x → (s : StandsAt shelf m k offset) → IsOrderly (flow_of s.body) s.shape
stand_orderly law shelf m k offset x are s =
    let one = same_stand shelf m k offset x are s in
    subst (λ b. IsOrderly (flow_of b) s.shape) (sym one.body)
    (is_orderly law x.code _ are.reached are.holds are.least s.position s.shape (one.on s.position s.shape s.is))
