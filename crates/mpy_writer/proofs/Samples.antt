-- Modules of tests.
use Rattle.std.proofs.Common.{◌≡◌, ℕ, zero, suc, ◌<◌, Bool, true, false, ltb, ◌&&◌, List, [], ◌∷◌, ◌++◌, length, All, pos, refl, sym, ap, subst, ◌∙◌, arith}
use Rattle.std.specs.List.{flat_map, list_all, AllByRecursion}
use Rattle.std.proofs.lemmas.Bool.{ltb-true}
use Rattle.std.proofs.lemmas.List.Elements.{All-from_recursion, All-nil}
use Rattle.std.proofs.lemmas.Int.{ints}
use Rattle.mpy_tree.specs.bc_ops.declared.form.Form.TheVariants as forms
use Rattle.mpy_tree.specs.bc_ops.declared.instr.Op.{Op}
use Rattle.mpy_tree.specs.bc_ops.declared.instr.Op.TheVariants as ops
use Rattle.mpy_tree.specs.bc_ops.declared.instr.Instr.TheVariants as instrs
use Rattle.mpy_tree.specs.bc_ops.Table.{code_of, form_of, name_form, number_form, plain_form}
use Rattle.mpy_tree.specs.declared.module.Constant.TheVariants as constants
use Rattle.mpy_tree.specs.declared.module.Item.{Item}
use Rattle.mpy_tree.specs.declared.module.Item.TheVariants as items
use Rattle.mpy_tree.specs.declared.module.Code.{Code, Code-F, out-Code}
use Rattle.mpy_tree.specs.declared.module.ModuleCode.{ModuleCode}
use Rattle.mpy_tree.specs.File.{IsSmall}
use Rattle.mpy_writer.specs.Codes.{codes_in, codes}
use Rattle.mpy_writer.specs.Writable.{IsText, IsAtomBy, IsFineBy, IsFine, IsSoundItem, NeverFall, IsSoundCode, IsShallow, IsWritable}
use Rattle.mpy_writer.proofs.Objects.{int_is, true_is, tuple_is}

-- a text by a test of its bytes
ascii : (xs : List ℕ) → list_all (λ byte. ltb byte 128) xs ≡ true → AllByRecursion (λ byte. byte < 128) xs
ascii [] e = tt
ascii (x ∷ xs) e = by_test (ltb x 128) refl e (ascii xs) where
  by_test : (b : Bool) → ltb x 128 ≡ b → (b && list_all (λ byte. ltb byte 128) xs) ≡ true → (list_all (λ byte. ltb byte 128) xs ≡ true → AllByRecursion (λ byte. byte < 128) xs) → AllByRecursion (λ byte. byte < 128) (x ∷ xs)
  by_test true is all rest = (ltb-true x 128 is, rest all)
  by_test false is all rest = absurd cc

pub text_by : (xs : List ℕ) → list_all (λ byte. ltb byte 128) xs ≡ true → length xs < 128 → IsText xs
text_by xs e short = record { ascii = All-from_recursion (λ byte. byte < 128) xs (ascii xs e); short = omega (arith, short) }

-- a module of one code
pub record IsLone (r : Code-F Code) : Type 0 where
  pub name : IsText r.name
  pub args : r.args ≡ []
  pub defaults : r.defaults ≡ 0
  pub some_state : 0 < r.n_state
  pub few_state : r.n_state < 128
  pub handlers : r.n_exc ≡ 0
  pub instrs : All (IsSoundItem (length r.instrs)) r.instrs
  pub a_line_each : length r.lines ≡ length r.instrs
  pub lines : NeverFall 1 r.lines
  pub children : r.children ≡ []

lone_code : (code : Code) → IsLone (out-Code code) → IsSoundCode code
lone_code code h =
    let args = ap length h.args in
    let children = ap length h.children in
    let defaults = h.defaults in
    let some = h.some_state in
    let few = h.few_state in
    let handlers = h.handlers in
    record {
      name = h.name;
      args = subst (All IsText) (sym h.args) (All-nil IsText);
      few_args = omega (arith, args);
      defaults = omega (arith, defaults);
      some_state = omega (arith, some);
      few_state = omega (arith, few);
      few_handlers = omega (arith, handlers);
      instrs = h.instrs;
      a_line_each = h.a_line_each;
      lines = h.lines;
      few_children = omega (arith, children);
    }

pub lone : (m : ModuleCode) (r : Code-F Code) → out-Code m.code ≡ r → IsLone r → IsText m.source → IsWritable m
unfolding IsShallow codes_in
lone m r is h source =
    let one = subst IsLone (sym is) h in
    let kids : (out-Code m.code).children ≡ [] = one.children in
    let only : codes m ≡ m.code ∷ [] = ap (λ (cs : List Code). m.code ∷ flat_map (codes_in 31) cs) kids in
    record {
      source = source;
      shallow = subst (All (IsShallow 31)) (sym kids) (All-nil (IsShallow 31));
      sound = subst (All IsSoundCode) (sym only) (All-from_recursion IsSoundCode (m.code ∷ []) (lone_code m.code one, tt));
    }

-- instructions
pub plain : (count : ℕ) (op : Op) → form_of (code_of op) ≡ forms.Whole (instrs.Plain op) → IsSoundItem count (items.Plain (instrs.Plain op))
plain count op e = (tt, e)

pub loads_none : form_of (code_of ops.LoadConstNone) ≡ forms.Whole (instrs.Plain ops.LoadConstNone)
unfolding form_of plain_form
loads_none = refl

pub returns_value : form_of (code_of ops.ReturnValue) ≡ forms.Whole (instrs.Plain ops.ReturnValue)
unfolding form_of plain_form
returns_value = refl

pub pops : form_of (code_of ops.PopTop) ≡ forms.Whole (instrs.Plain ops.PopTop)
unfolding form_of plain_form
pops = refl

pub loads_name : form_of (code_of ops.LoadName) ≡ forms.Name ops.LoadName
unfolding form_of name_form
loads_name = refl

pub stores_name : form_of (code_of ops.StoreName) ≡ forms.Name ops.StoreName
unfolding form_of name_form
stores_name = refl

pub loads_string : form_of (code_of ops.LoadConstString) ≡ forms.Name ops.LoadConstString
unfolding form_of name_form
loads_string = refl

pub calls : (count : ℕ) → IsSoundItem count (items.Plain (instrs.Num ops.CallFunction 1))
unfolding form_of number_form
calls count = (tt, (refl, omega arith))

pub number : (count : ℕ) → IsSoundItem count (items.Plain (instrs.Int (pos 1)))
number count = (tt, omega arith)

-- objects
small_one : IsSmall (pos 1)
small_one = record { least = omega (arith, ints); below = omega (arith, ints) }

one_fine : (levels : ℕ) → IsFine levels (constants.Int (pos 1))
unfolding IsFine
one_fine zero = subst IsAtomBy (sym (int_is (pos 1))) small_one
one_fine (suc levels) = subst (IsFineBy (IsFine levels)) (sym (int_is (pos 1))) small_one

truth_fine : (levels : ℕ) → IsFine levels constants.True
unfolding IsFine
truth_fine zero = subst IsAtomBy (sym true_is) tt
truth_fine (suc levels) = subst (IsFineBy (IsFine levels)) (sym true_is) tt

tuple_fine : (levels : ℕ) → IsFine (suc levels) (constants.Tuple (constants.Int (pos 1) ∷ []))
unfolding IsFine
tuple_fine levels = subst (IsFineBy (IsFine levels)) (sym (tuple_is (constants.Int (pos 1) ∷ []))) (omega arith, All-from_recursion (IsFine levels) (constants.Int (pos 1) ∷ []) (one_fine levels, tt))

pub one : (count : ℕ) → IsSoundItem count (items.Object (constants.Int (pos 1)))
one count = one_fine 32

pub truth : (count : ℕ) → IsSoundItem count (items.Object constants.True)
truth count = truth_fine 32

pub tuple_of_one : (count : ℕ) → IsSoundItem count (items.Object (constants.Tuple (constants.Int (pos 1) ∷ [])))
tuple_of_one count = tuple_fine 31

-- a list of items that were pushed
pub pushed : (old new whole : List Item) (x : Item) → new ≡ old ++ x ∷ [] → old ≡ whole → new ≡ whole ++ x ∷ []
pushed old new whole x e same = e ∙ ap (λ (z : List Item). z ++ x ∷ []) same

pub all_sound : (xs : List Item) → AllByRecursion (IsSoundItem (length xs)) xs → (ys : List Item) → ys ≡ xs → All (IsSoundItem (length ys)) ys
all_sound xs h ys e = subst (λ (z : List Item). All (IsSoundItem (length z)) z) (sym e) (All-from_recursion (IsSoundItem (length xs)) xs h)
