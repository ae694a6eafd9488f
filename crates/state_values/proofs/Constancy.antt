-- The constants of a program's modules are known.
use Rattle.std.proofs.Common.{◌≡◌, ℕ, zero, suc, ℤ, pos, negsuc, List, [], ◌∷◌, ◌++◌, drop, Option, Some, None, refl, sym, ap, subst, ◌∙◌, arith}
use Rattle.std.specs.Prelude.{slice_get, option_and_then, is_some}
use Rattle.std.specs.List.{flat_map}
use Rattle.std.proofs.lemmas.Int.{ints}
use Rattle.vm_states.specs.mpy_base.World.{Objects}
use Rattle.vm_states.specs.mpy_base.declared.limits.TheConstants.{MAX_DEPTH}
use Rattle.vm_states.specs.prim_names.arena_heap.declared.value.Value.{Value}
use Rattle.vm_states.specs.prim_names.arena_heap.declared.value.Value.TheVariants as values
use Rattle.vm_states.specs.prim_names.arena_heap.declared.value.StrNo.{StrNo}
use Rattle.vm_states.specs.prim_names.arena_heap.declared.value.ConstNo.{ConstNo}
use Rattle.vm_states.specs.prim_names.arena_heap.Values.{IsSmall}
use Rattle.vm_states.specs.bc_ops.Signed as signed
use Rattle.vm_states.specs.mpy_tree.declared.module.Constant.{Constant, out-Constant}
use Rattle.vm_states.specs.mpy_tree.declared.module.Constant.TheOpen.{Constant-F}
use Rattle.vm_states.specs.mpy_tree.Raw.{Module}
use Rattle.vm_states.specs.mpy_tree.File.{IsModule}
use Rattle.vm_states.specs.bc_library.Constants.{constants_of, items_in, bytes_in, preorder, numbered, value_by, values_from, constant_at, items_at, text_at, object_value}
use Rattle.vm_states.specs.bc_library.Fine.{FineBy, AreFew, Fine}
use Rattle.vm_states.specs.bc_library.Shelf.{Shelf, Named, module_at}
use Rattle.vm_states.proofs.bc_library_lemmas.Files.{fine_objects}
use Rattle.vm_states.proofs.bc_library_lemmas.Preorders.{leaf, opened}
use Rattle.vm_states.proofs.bc_library_lemmas.Told.{value_at, told_items}
use Rattle.vm_states.specs.prim_names.prim_faults.Faults.{IsKnown}
use Rattle.vm_states.specs.Means.{Program, Means}

first_dropped : (all behind : List Constant) (p : ℕ) (x : Constant) → drop p all ≡ x ∷ behind → slice_get all p ≡ Some x
first_dropped [] behind zero x e = absurd cc
first_dropped [] behind (suc p) x e = absurd cc
first_dropped (y ∷ all) behind zero x e = let same : y ≡ x = cc in ap Some same
first_dropped (y ∷ all) behind (suc p) x e = first_dropped all behind p x e

fine_by : (l : ℕ) (y : Constant) → Fine l y → (P : List Constant → Type 0) × FineBy P (out-Constant y)
unfolding Fine
fine_by zero y fine = (λ items. ⊥, fine)
fine_by (suc l) y fine = (AreFew (Fine l), fine)

module _ (objects : Objects Value ℕ) (shelf : Shelf) (m : Module) (i place : ℕ) (y : Constant) (behind : List Constant) (there : module_at shelf i ≡ Some m) (at : drop place (constants_of m) ≡ preorder y ++ behind) (fine : Fine MAX_DEPTH y) where
  constant_is : (t : List Constant) → preorder y ≡ y ∷ t → constant_at shelf (numbered i place) ≡ Some y
  constant_is t e =
      ap (option_and_then (λ z. slice_get (constants_of z) place)) there
      ∙ first_dropped (constants_of m) (t ++ behind) place y (at ∙ ap (λ z. z ++ behind) e)

  abbrev Known : Value → Type 0
  Known v = IsKnown (text_at shelf) (items_at shelf) objects v

  known_by : (P : List Constant → Type 0) (o : Constant-F Constant) → out-Constant y ≡ o → FineBy P o → Known (value_by (numbered i place) o)
  known_by P Constant-F.None is f = record { leads = record { meets = tt; small = tt }; told = tt }
  known_by P Constant-F.False is f = record { leads = record { meets = tt; small = tt }; told = tt }
  known_by P Constant-F.True is f = record { leads = record { meets = tt; small = tt }; told = tt }
  known_by P (Constant-F.Str text) is f =
      let here = constant_is [] (leaf y (ap items_in is)) in
      record { leads = record { meets = tt; small = tt }; told = ap is_some (ap (option_and_then (λ object. bytes_in (out-Constant object))) here ∙ ap bytes_in is) }
  known_by P (Constant-F.Int n) is f = record { leads = record { meets = tt; small = f }; told = tt }
  known_by P (Constant-F.Tuple []) is f = record { leads = record { meets = tt; small = tt }; told = tt }
  known_by P (Constant-F.Tuple (z ∷ zs)) is f =
      let here = constant_is (flat_map preorder (z ∷ zs)) (opened MAX_DEPTH y (z ∷ zs) (omega arith) fine (ap items_in is)) in
      record { leads = record { meets = tt; small = tt }; told = ap is_some (told_items shelf (numbered i place) y (z ∷ zs) here (ap items_in is)) }

append_none : (xs : List Constant) → xs ++ [] ≡ xs
append_none [] = refl
append_none (y ∷ ys) = ap (λ z. y ∷ z) (append_none ys)

known_object : (objects : Objects Value ℕ) (shelf : Shelf) (m : Module) (i n : ℕ) (v : Value) → module_at shelf i ≡ Some m → IsModule m → object_value shelf i n ≡ Some v → IsKnown (text_at shelf) (items_at shelf) objects v
known_object objects shelf m i n v there is e =
    let found : slice_get (values_from i 0 m.objects) n ≡ Some v = sym (ap (option_and_then (λ z. slice_get (values_from i 0 z.objects) n)) there) ∙ e in
    let w = value_at i (constants_of m) m.objects 0 [] (sym (append_none (constants_of m))) n v found in
    let fine = fine_objects m is n w.x w.is in
    let f = fine_by MAX_DEPTH w.x fine in
    subst (IsKnown (text_at shelf) (items_at shelf) objects) (sym w.value)
    (known_by objects shelf m i w.place w.x w.behind there w.at fine f.0 (out-Constant w.x) refl f.1)

then_some : {A B : Type 0} (o : Option A) (f : A → Option B) (y : B) → option_and_then f o ≡ Some y → (x : A) × (o ≡ Some x) × (f x ≡ Some y)
then_some None f y e = absurd cc
then_some (Some x) f y e = (x, refl, e)

pub object_known : (p : Program) (objects : Objects Value ℕ) (i n : ℕ) (v : Value) → Means p → object_value p.shelf i n ≡ Some v → IsKnown p.tables.texts p.tables.tuples objects v
object_known p objects i n v means e =
    let of_module = then_some (module_at p.shelf i) (λ m. slice_get (values_from i 0 m.objects) n) v e in
    let held = then_some (slice_get p.shelf.modules i) (λ (k : Named). Some k.held) of_module.0 of_module.1 in
    let there : module_at p.shelf i ≡ Some held.0.held = ap (option_and_then (λ (k : Named). Some k.held)) held.1 in
    let known = known_object objects p.shelf held.0.held i n v there (means.modules i held.0 held.1).is_module e in
    subst (λ (t : StrNo → Option (List ℕ)). IsKnown t p.tables.tuples objects v) (sym means.constants.texts)
    (subst (λ (u : ConstNo → Option (List Value)). IsKnown (text_at p.shelf) u objects v) (sym means.constants.tuples) known)

small : (z : ℤ) → signed.IsSmall z → IsSmall z
small (pos n) h = (omega (arith, ints, h), omega (arith, ints, h))
small (negsuc n) h = (omega (arith, ints, h), omega (arith, ints, h))

pub int_known : (texts : StrNo → Option (List ℕ)) (tuples : ConstNo → Option (List Value)) (objects : Objects Value ℕ) (z : ℤ) → signed.IsSmall z → IsKnown texts tuples objects (values.Int z)
int_known texts tuples objects z h = record { leads = record { meets = tt; small = small z h }; told = tt }
