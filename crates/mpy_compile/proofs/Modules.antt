-- A source has one module at most.
use Rattle.std.proofs.Common.{◌≡◌, ℕ, List, [], ◌∷◌, map, refl, sym, ap, ap₂, subst, ◌∙◌}
use Rattle.mpy_base.specs.Val.{Val}
use Rattle.emit_module.specs.bc_machine.bc_ops.declared.instr.Op.{Op}
use Rattle.emit_module.specs.bc_machine.bc_ops.declared.instr.Instr.{Instr}
use Rattle.emit_module.specs.bc_machine.bc_ops.declared.listing.Target.TheVariants.{Position}
use Rattle.mpy_writer.specs.mpy_tree.declared.module.Item.{Item}
use Rattle.mpy_writer.specs.mpy_tree.declared.module.Item.TheVariants as items
use Rattle.mpy_writer.specs.mpy_tree.declared.module.Code.{Code, out-Code, roll-Code, roll-out-Code}
use Rattle.mpy_writer.specs.mpy_tree.declared.module.Code.TheOpen.{Code-F}
use Rattle.mpy_writer.specs.mpy_tree.declared.module.ModuleCode.{ModuleCode}
use Rattle.mpy_writer.specs.mpy_tree.Resolved.{Resolved, plain, named, object, jump, unwind, Body, Tree, node, Trees, no_more, more, ResolvedModule, resolved_item, IsBodyOf, IsTreeOf, AreTreesOf}
use Rattle.mpy_writer.specs.mpy_tree.Values.{value_of}
use Rattle.mpy_writer.proofs.mpy_tree_lemmas.Values.{one_object}
use Rattle.emit_module.specs.py_meaning.Program.{Source}
use Rattle.emit_module.specs.Module.{IsTranslated}

-- ---- instructions

inner_plain : (i j : Instr) → plain i ≡ plain j → i ≡ j
inner_plain i j e = cc

first_named : (o p : Op) (t u : List ℕ) → named o t ≡ named p u → o ≡ p
first_named o p t u e = cc

second_named : (o p : Op) (t u : List ℕ) → named o t ≡ named p u → t ≡ u
second_named o p t u e = cc

inner_object : (v w : Val) → object v ≡ object w → v ≡ w
inner_object v w e = cc

first_jump : (o p : Op) (n m : ℕ) → jump o (Position n) ≡ jump p (Position m) → o ≡ p
first_jump o p n m e = cc

second_jump : (o p : Op) (n m : ℕ) → jump o (Position n) ≡ jump p (Position m) → n ≡ m
second_jump o p n m e = cc

first_unwind : (n m b c : ℕ) → unwind (Position n) b ≡ unwind (Position m) c → n ≡ m
first_unwind n m b c e = cc

second_unwind : (n m b c : ℕ) → unwind (Position n) b ≡ unwind (Position m) c → b ≡ c
second_unwind n m b c e = cc

one_item : (x y : Item) → resolved_item x ≡ resolved_item y → x ≡ y
one_item (items.Plain i1) (items.Plain i2) e = ap items.Plain (inner_plain i1 i2 e)
one_item (items.Plain i1) (items.Named o2 t2) e = cc
one_item (items.Plain i1) (items.Object c2) e = cc
one_item (items.Plain i1) (items.Jump o2 p2) e = cc
one_item (items.Plain i1) (items.Unwind p2 b2) e = cc
one_item (items.Named o1 t1) (items.Plain i2) e = cc
one_item (items.Named o1 t1) (items.Named o2 t2) e = ap₂ items.Named (first_named o1 o2 t1 t2 e) (second_named o1 o2 t1 t2 e)
one_item (items.Named o1 t1) (items.Object c2) e = cc
one_item (items.Named o1 t1) (items.Jump o2 p2) e = cc
one_item (items.Named o1 t1) (items.Unwind p2 b2) e = cc
one_item (items.Object c1) (items.Plain i2) e = cc
one_item (items.Object c1) (items.Named o2 t2) e = cc
one_item (items.Object c1) (items.Object c2) e = ap items.Object (one_object c1 c2 (inner_object (value_of c1) (value_of c2) e))
one_item (items.Object c1) (items.Jump o2 p2) e = cc
one_item (items.Object c1) (items.Unwind p2 b2) e = cc
one_item (items.Jump o1 p1) (items.Plain i2) e = cc
one_item (items.Jump o1 p1) (items.Named o2 t2) e = cc
one_item (items.Jump o1 p1) (items.Object c2) e = cc
one_item (items.Jump o1 p1) (items.Jump o2 p2) e = ap₂ items.Jump (first_jump o1 o2 p1 p2 e) (second_jump o1 o2 p1 p2 e)
one_item (items.Jump o1 p1) (items.Unwind p2 b2) e = cc
one_item (items.Unwind p1 b1) (items.Plain i2) e = cc
one_item (items.Unwind p1 b1) (items.Named o2 t2) e = cc
one_item (items.Unwind p1 b1) (items.Object c2) e = cc
one_item (items.Unwind p1 b1) (items.Jump o2 p2) e = cc
one_item (items.Unwind p1 b1) (items.Unwind p2 b2) e = ap₂ items.Unwind (first_unwind p1 p2 b1 b2 e) (second_unwind p1 p2 b1 b2 e)

first_of : (x y : Resolved) (xs ys : List Resolved) → x ∷ xs ≡ y ∷ ys → x ≡ y
first_of x y xs ys e = cc

others_of : (x y : Resolved) (xs ys : List Resolved) → x ∷ xs ≡ y ∷ ys → xs ≡ ys
others_of x y xs ys e = cc

one_list : (xs ys : List Item) → map resolved_item xs ≡ map resolved_item ys → xs ≡ ys
one_list [] [] e = refl
one_list [] (y ∷ ys) e = cc
one_list (x ∷ xs) [] e = cc
one_list (x ∷ xs) (y ∷ ys) e =
    ap₂ (λ (a : Item) (b : List Item). a ∷ b) (one_item x y (first_of (resolved_item x) (resolved_item y) (map resolved_item xs) (map resolved_item ys) e))
    (one_list xs ys (others_of (resolved_item x) (resolved_item y) (map resolved_item xs) (map resolved_item ys) e))

-- ---- codes

layers : (x y : Code-F Code) → x.name ≡ y.name → x.args ≡ y.args → x.defaults ≡ y.defaults → x.n_state ≡ y.n_state → x.n_exc ≡ y.n_exc → x.instrs ≡ y.instrs → x.lines ≡ y.lines → x.children ≡ y.children → x ≡ y
layers x y a b c d e f g h =
    let to_name : List ℕ → Code-F Code = λ z. record { name = z; args = x.args; defaults = x.defaults; n_state = x.n_state; n_exc = x.n_exc; instrs = x.instrs; lines = x.lines; children = x.children } in
    let to_args : List (List ℕ) → Code-F Code = λ z. record { name = y.name; args = z; defaults = x.defaults; n_state = x.n_state; n_exc = x.n_exc; instrs = x.instrs; lines = x.lines; children = x.children } in
    let to_defaults : ℕ → Code-F Code = λ z. record { name = y.name; args = y.args; defaults = z; n_state = x.n_state; n_exc = x.n_exc; instrs = x.instrs; lines = x.lines; children = x.children } in
    let to_n_state : ℕ → Code-F Code = λ z. record { name = y.name; args = y.args; defaults = y.defaults; n_state = z; n_exc = x.n_exc; instrs = x.instrs; lines = x.lines; children = x.children } in
    let to_n_exc : ℕ → Code-F Code = λ z. record { name = y.name; args = y.args; defaults = y.defaults; n_state = y.n_state; n_exc = z; instrs = x.instrs; lines = x.lines; children = x.children } in
    let to_instrs : List Item → Code-F Code = λ z. record { name = y.name; args = y.args; defaults = y.defaults; n_state = y.n_state; n_exc = y.n_exc; instrs = z; lines = x.lines; children = x.children } in
    let to_lines : List ℕ → Code-F Code = λ z. record { name = y.name; args = y.args; defaults = y.defaults; n_state = y.n_state; n_exc = y.n_exc; instrs = y.instrs; lines = z; children = x.children } in
    let to_children : List Code → Code-F Code = λ z. record { name = y.name; args = y.args; defaults = y.defaults; n_state = y.n_state; n_exc = y.n_exc; instrs = y.instrs; lines = y.lines; children = z } in
    ap to_name a ∙ ap to_args b ∙ ap to_defaults c ∙ ap to_n_state d ∙ ap to_n_exc e ∙ ap to_instrs f ∙ ap to_lines g ∙ ap to_children h

same_body : (a b : Code) (body : Body) → IsBodyOf a body → IsBodyOf b body → (out-Code a).children ≡ (out-Code b).children → a ≡ b
same_body a b body h k inner =
    sym (roll-out-Code a)
    ∙ ap roll-Code (layers (out-Code a) (out-Code b) (sym h.name ∙ k.name) (sym h.args ∙ k.args) (sym h.defaults ∙ k.defaults) (sym h.n_state ∙ k.n_state) (sym h.n_exc ∙ k.n_exc)
    (one_list (out-Code a).instrs (out-Code b).instrs (sym h.instrs ∙ k.instrs)) (sym h.lines ∙ k.lines) inner)
    ∙ roll-out-Code b

mutual
  one_code : (tree : Tree) (a b : Code) → IsTreeOf tree a → IsTreeOf tree b → a ≡ b
  one_code (node body trees) a b h k = same_body a b body h.0 k.0 (one_row trees (out-Code a).children (out-Code b).children h.1 k.1)

  one_row : (trees : Trees) (xs ys : List Code) → AreTreesOf trees xs → AreTreesOf trees ys → xs ≡ ys
  one_row no_more xs ys h k = h ∙ sym k
  one_row (more tree trees) xs ys h k =
      h.2 ∙ ap₂ (λ (a : Code) (b : List Code). a ∷ b) (one_code tree h.0 k.0 h.3 k.3) (one_row trees h.1 k.1 h.4 k.4) ∙ sym k.2

-- ---- modules

pub one_module : (source : Source) (m n : ModuleCode) → (a : IsTranslated source m) → (b : IsTranslated source n) → a.resolved ≡ b.resolved → m ≡ n
one_module source m n a b same =
    let code = one_code b.resolved.code m.code n.code (subst (λ (r : ResolvedModule). IsTreeOf r.code m.code) same a.is.code) b.is.code in
    let file : m.source ≡ n.source = sym a.is.source ∙ ap (λ (r : ResolvedModule). r.source) same ∙ b.is.source in
    ap₂ (λ (s : List ℕ) (c : Code). record { source = s; code = c }) file code
