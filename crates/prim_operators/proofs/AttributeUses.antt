-- Attributes of an arena's values, as the meaning has them.
use Rattle.std.proofs.Common.{◌≡◌, ℕ, List, [], ◌∷◌, map, Option, Some, None, refl, sym, ap, ◌∙◌, subst}
use Rattle.std.specs.Prelude.{bytes_eq, codes, if◌then◌else◌}
use Rattle.std.specs.Option.{option_map}
use Rattle.prim_faults.specs.arena_heap.declared.value.Value.{Value}
use Rattle.prim_faults.specs.arena_heap.declared.value.Value.TheVariants as values
use Rattle.prim_faults.specs.arena_heap.declared.value.StrNo.{StrNo}
use Rattle.prim_faults.specs.arena_heap.declared.value.ConstNo.{ConstNo}
use Rattle.prim_faults.specs.arena_heap.declared.value.DictNo.{DictNo}
use Rattle.prim_faults.specs.mpy_base.declared.kind.Kind.{Kind}
use Rattle.prim_faults.specs.mpy_base.World.{ListObject, TupleObject, DictObject, TextObject, FunctionObject, ExceptionObject, MethodObject, RangeObject, ModuleObject, Heap, ObjectKind, AList, ATuple, ADict, AText, AFunction, AMethod, ARange, IsA, object, kind_of, pairs_at}
use Rattle.prim_faults.specs.mpy_base.Val.{Val, Str, At}
use Rattle.prim_faults.specs.arena_heap.Values.{ArenaObject, Leads, IsStr, IsList, IsDict}
use Rattle.prim_faults.specs.arena_objects.Iterables.{or_nothing}
use Rattle.prim_faults.specs.py_values.Shown.{PlainHeap}
use Rattle.prim_faults.specs.py_values.Keys.{value_of_key}
use Rattle.prim_faults.specs.py_primitives.Builtins.{named, list_methods, dict_methods, str_methods}
use Rattle.prim_faults.specs.py_primitives.Uses.{Found, Absent, found_value, found_method, object_attribute, attribute}
use Rattle.prim_faults.specs.prim_walks.Plain.{plain, plain_by, plain_pair, plain_object, plain_heap, fixed_of, fixed_within}
use Rattle.prim_faults.proofs.prim_walks_lemmas.PlainValues.{object_plain, within_step}
use Rattle.prim_faults.proofs.Heaps.{pairs_of_plain}

fixed_absent : (heap : PlainHeap) (name : List ℕ) (items : List Val) → attribute heap (fixed_of items) name ≡ Absent
fixed_absent heap name [] = refl
fixed_absent heap name (v ∷ vs) = refl

-- a module by its namespace, or by having none
pub by_namespace : (h : Heap Value ℕ) (n own_name : ℕ) (read known : Option DictNo) → object h.objects n ≡ Some (ModuleObject own_name (option_map (λ (d : DictNo). d.cell) read)) → read ≡ known
    → object h.objects n ≡ Some (ModuleObject own_name (option_map (λ (d : DictNo). d.cell) known))
by_namespace h n own_name read known parts is = parts ∙ ap (λ (o : Option DictNo). Some (ModuleObject own_name (option_map (λ (d : DictNo). d.cell) o))) is

abbrev HasNone : Option ObjectKind → Type 0
HasNone (Some ATuple) = Unit {0}
HasNone (Some ARange) = Unit {0}
HasNone (Some AFunction) = Unit {0}
HasNone (Some AMethod) = Unit {0}
HasNone _ = ⊥

module _ (texts : StrNo → Option (List ℕ)) (tuples : ConstNo → Option (List Value)) (h : Heap Value ℕ) (name : List ℕ) where
  here : (n : ℕ) → attribute (plain_heap texts tuples h) (At n) name ≡ object_attribute (plain_heap texts tuples h) name (plain_object texts tuples (object h.objects n))
  here n = ap (object_attribute (plain_heap texts tuples h) name) (object_plain texts tuples h.objects n)

  of_text : (o : Option ArenaObject) → kind_of o ≡ Some AText → object_attribute (plain_heap texts tuples h) name (plain_object texts tuples o) ≡ found_method (named str_methods name)
  of_text (Some (TextObject bytes)) is = refl
  of_text _ is = absurd cc

  of_list : (o : Option ArenaObject) → kind_of o ≡ Some AList → object_attribute (plain_heap texts tuples h) name (plain_object texts tuples o) ≡ found_method (named list_methods name)
  of_list (Some (ListObject items room)) is = refl
  of_list _ is = absurd cc

  of_dict : (o : Option ArenaObject) → kind_of o ≡ Some ADict → object_attribute (plain_heap texts tuples h) name (plain_object texts tuples o) ≡ found_method (named dict_methods name)
  of_dict (Some (DictObject pairs room)) is = refl
  of_dict _ is = absurd cc

  of_none : (o : Option ArenaObject) → HasNone (kind_of o) → object_attribute (plain_heap texts tuples h) name (plain_object texts tuples o) ≡ Absent
  of_none (Some (TupleObject items)) has = refl
  of_none (Some (RangeObject start stop step)) has = refl
  of_none (Some (FunctionObject own_name module_name code names defaults)) has = refl
  of_none (Some (MethodObject v method)) has = refl
  of_none _ has = absurd has

  pub nothing_here : (v w : Value) (n : ℕ) (kind : ObjectKind) → v ≡ w → plain texts tuples w ≡ At n → IsA h.objects kind n → HasNone (Some kind)
      → Absent ≡ attribute (plain_heap texts tuples h) (plain texts tuples v) name
  nothing_here v w n kind is at is_kind has =
      sym (ap (λ (x : Value). attribute (plain_heap texts tuples h) (plain texts tuples x) name) is
      ∙ (ap (λ (x : Val). attribute (plain_heap texts tuples h) x name) at ∙ (here n ∙ of_none (object h.objects n) (subst HasNone (sym is_kind) has))))

  pub has_str_methods : (v : Value) → IsStr v → Leads h.objects v → attribute (plain_heap texts tuples h) (plain texts tuples v) name ≡ found_method (named str_methods name)
  has_str_methods (values.Str s) str leads = refl
  has_str_methods (values.Text t) str leads = here t.cell ∙ of_text (object h.objects t.cell) leads.meets
  has_str_methods _ str leads = absurd str

  pub has_list_methods : (v : Value) → IsList v → Leads h.objects v → attribute (plain_heap texts tuples h) (plain texts tuples v) name ≡ found_method (named list_methods name)
  has_list_methods (values.List l) list leads = here l.cell ∙ of_list (object h.objects l.cell) leads.meets
  has_list_methods _ list leads = absurd list

  pub has_dict_methods : (v : Value) → IsDict v → Leads h.objects v → attribute (plain_heap texts tuples h) (plain texts tuples v) name ≡ found_method (named dict_methods name)
  has_dict_methods (values.Dict d) dict leads = here d.cell ∙ of_dict (object h.objects d.cell) leads.meets
  has_dict_methods _ dict leads = absurd dict

  pub has_args : (n : ℕ) (kind : Kind) (args : Value) (file line own_name : ℕ) → object h.objects n ≡ Some (ExceptionObject kind args file line own_name)
      → attribute (plain_heap texts tuples h) (At n) name ≡ (if bytes_eq name (codes "args") then Found (plain texts tuples args) else Absent)
  has_args n kind args file line own_name parts = here n ∙ ap (λ (o : Option ArenaObject). object_attribute (plain_heap texts tuples h) name (plain_object texts tuples o)) parts

  pub has_names : (n own_name names : ℕ) → object h.objects n ≡ Some (ModuleObject own_name (Some names))
      → attribute (plain_heap texts tuples h) (At n) name ≡ found_value (value_of_key (plain_heap texts tuples h) (map (plain_pair texts tuples) (pairs_at h names)) (Str name))
  has_names n own_name names parts =
      here n ∙ (ap (λ (o : Option ArenaObject). object_attribute (plain_heap texts tuples h) name (plain_object texts tuples o)) parts
      ∙ ap (λ (pairs : List (Val × Val)). found_value (value_of_key (plain_heap texts tuples h) pairs (Str name))) (pairs_of_plain texts tuples h names))

  pub has_no_names : (n own_name : ℕ) → object h.objects n ≡ Some (ModuleObject own_name None) → attribute (plain_heap texts tuples h) (At n) name ≡ Absent
  has_no_names n own_name parts = here n ∙ ap (λ (o : Option ArenaObject). object_attribute (plain_heap texts tuples h) name (plain_object texts tuples o)) parts

  pub has_none : (v : Value) (c : ConstNo) → v ≡ values.Fixed c → attribute (plain_heap texts tuples h) (plain texts tuples v) name ≡ Absent
  has_none v c is =
      ap (λ (w : Value). attribute (plain_heap texts tuples h) (plain texts tuples w) name) is
      ∙ (ap (λ (w : Val). attribute (plain_heap texts tuples h) w name) (within_step texts tuples 31 c)
      ∙ fixed_absent (plain_heap texts tuples h) name (map (plain_by texts (fixed_within texts tuples 31)) (or_nothing (tuples c))))
