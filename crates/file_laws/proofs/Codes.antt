-- A tree is that of one module.
use Rattle.std.proofs.Common.{◌≡◌, ℕ, List, [], ◌∷◌, map, refl, sym, ap, ap₂, ◌∙◌}
use Rattle.image_open.specs.mpy_base.Val.{Val}
use Rattle.mpy_tree.specs.bc_ops.declared.instr.Op.{Op}
use Rattle.mpy_tree.specs.bc_ops.declared.instr.Instr.{Instr}
use Rattle.mpy_tree.specs.bc_ops.declared.listing.Target.TheVariants.{Position}
use Rattle.mpy_writer.specs.mpy_tree.declared.module.Item.{Item}
use Rattle.mpy_writer.specs.mpy_tree.declared.module.Item.TheVariants as items
use Rattle.mpy_writer.specs.mpy_tree.declared.module.Code.{Code, out-Code, roll-Code, roll-out-Code}
use Rattle.mpy_writer.specs.mpy_tree.declared.module.Code.TheOpen.{Code-F}
use Rattle.mpy_writer.specs.mpy_tree.Resolved.{plain, named, object, jump, unwind, Body, Tree, node, Trees, no_more, more, resolved_item, IsBodyOf, IsTreeOf, AreTreesOf}
use Rattle.mpy_writer.specs.mpy_tree.Values.{value_of}
use Rattle.mpy_writer.proofs.mpy_tree_lemmas.Values.{one_object}

one_plain : (i j : Instr) → plain i ≡ plain j → items.Plain i ≡ items.Plain j
one_plain i j e = let same : i ≡ j = cc in ap items.Plain same

one_named : (o p : Op) (t u : List ℕ) → named o t ≡ named p u → items.Named o t ≡ items.Named p u
one_named o p t u e =
    let ops : o ≡ p = cc in
    let texts : t ≡ u = cc in
    ap₂ items.Named ops texts

one_value : (v w : Val) → object v ≡ object w → v ≡ w
one_value v w e = cc

one_jump : (o p : Op) (n m : ℕ) → jump o (Position n) ≡ jump p (Position m) → items.Jump o n ≡ items.Jump p m
one_jump o p n m e =
    let ops : o ≡ p = cc in
    let positions : n ≡ m = cc in
    ap₂ items.Jump ops positions

one_unwind : (n m b c : ℕ) → unwind (Position n) b ≡ unwind (Position m) c → items.Unwind n b ≡ items.Unwind m c
one_unwind n m b c e =
    let positions : n ≡ m = cc in
    let bytes : b ≡ c = cc in
    ap₂ items.Unwind positions bytes

one_item : (x y : Item) → resolved_item x ≡ resolved_item y → x ≡ y
one_item (items.Plain i) (items.Plain j) e = one_plain i j e
one_item (items.Plain i) y e = cc
one_item (items.Named o t) (items.Named p u) e = one_named o p t u e
one_item (items.Named o t) y e = cc
one_item (items.Object c) (items.Object d) e = ap items.Object (one_object c d (one_value (value_of c) (value_of d) e))
one_item (items.Object c) y e = cc
one_item (items.Jump o n) (items.Jump p m) e = one_jump o p n m e
one_item (items.Jump o n) y e = cc
one_item (items.Unwind n b) (items.Unwind m c) e = one_unwind n m b c e
one_item (items.Unwind n b) y e = cc

front_is : {A : Type 0} (x y : A) (xs ys : List A) → x ∷ xs ≡ y ∷ ys → x ≡ y
front_is x y xs ys e = cc

behind_is : {A : Type 0} (x y : A) (xs ys : List A) → x ∷ xs ≡ y ∷ ys → xs ≡ ys
behind_is x y xs ys e = cc

one_list : (xs ys : List Item) → map resolved_item xs ≡ map resolved_item ys → xs ≡ ys
one_list [] [] e = refl
one_list [] (y ∷ ys) e = cc
one_list (x ∷ xs) [] e = cc
one_list (x ∷ xs) (y ∷ ys) e =
    ap₂ (λ (a : Item) (b : List Item). a ∷ b) (one_item x y (front_is (resolved_item x) (resolved_item y) (map resolved_item xs) (map resolved_item ys) e))
    (one_list xs ys (behind_is (resolved_item x) (resolved_item y) (map resolved_item xs) (map resolved_item ys) e))

-- a code from its parts
made : List ℕ → List (List ℕ) → ℕ → ℕ → ℕ → List Item → List ℕ → List Code → Code-F Code
made name args defaults n_state n_exc instrs lines children = record {
  name = name;
  args = args;
  defaults = defaults;
  n_state = n_state;
  n_exc = n_exc;
  instrs = instrs;
  lines = lines;
  children = children;
}

one_layer : (x y : Code-F Code) → x.name ≡ y.name → x.args ≡ y.args → x.defaults ≡ y.defaults → x.n_state ≡ y.n_state → x.n_exc ≡ y.n_exc → x.instrs ≡ y.instrs → x.lines ≡ y.lines → x.children ≡ y.children → x ≡ y
unfolding made
one_layer x y a b c d e f g h =
    ap (λ z. made z x.args x.defaults x.n_state x.n_exc x.instrs x.lines x.children) a
    ∙ ap (λ z. made y.name z x.defaults x.n_state x.n_exc x.instrs x.lines x.children) b
    ∙ ap (λ z. made y.name y.args z x.n_state x.n_exc x.instrs x.lines x.children) c
    ∙ ap (λ z. made y.name y.args y.defaults z x.n_exc x.instrs x.lines x.children) d
    ∙ ap (λ z. made y.name y.args y.defaults y.n_state z x.instrs x.lines x.children) e
    ∙ ap (λ z. made y.name y.args y.defaults y.n_state y.n_exc z x.lines x.children) f
    ∙ ap (λ z. made y.name y.args y.defaults y.n_state y.n_exc y.instrs z x.children) g
    ∙ ap (λ z. made y.name y.args y.defaults y.n_state y.n_exc y.instrs y.lines z) h

same_body : (a b : Code) (body : Body) → IsBodyOf a body → IsBodyOf b body → (out-Code a).children ≡ (out-Code b).children → a ≡ b
same_body a b body h k inner =
    sym (roll-out-Code a)
    ∙ ap roll-Code (one_layer (out-Code a) (out-Code b) (sym h.name ∙ k.name) (sym h.args ∙ k.args) (sym h.defaults ∙ k.defaults) (sym h.n_state ∙ k.n_state) (sym h.n_exc ∙ k.n_exc)
    (one_list (out-Code a).instrs (out-Code b).instrs (sym h.instrs ∙ k.instrs)) (sym h.lines ∙ k.lines) inner)
    ∙ roll-out-Code b

mutual
  pub one_code : (tree : Tree) (a b : Code) → IsTreeOf tree a → IsTreeOf tree b → a ≡ b
  one_code (node body trees) a b h k = same_body a b body h.0 k.0 (one_row trees (out-Code a).children (out-Code b).children h.1 k.1)

  one_row : (trees : Trees) (xs ys : List Code) → AreTreesOf trees xs → AreTreesOf trees ys → xs ≡ ys
  one_row no_more xs ys h k = h ∙ sym k
  one_row (more tree trees) xs ys h k =
      h.2 ∙ ap₂ (λ (a : Code) (b : List Code). a ∷ b) (one_code tree h.0 k.0 h.3 k.3) (one_row trees h.1 k.1 h.4 k.4) ∙ sym k.2
