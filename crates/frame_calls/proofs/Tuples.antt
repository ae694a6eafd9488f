-- Values that are shown as tuples, and functions whose defaults are judged.
use Rattle.std.proofs.Common.{◌≡◌, ℕ, List, Bool, true, false, Option, Some, None, refl, sym, ap, ◌∙◌}
use Rattle.std.specs.Prelude.{if◌then◌else◌, Result, Err}
use Rattle.mpy_base.specs.World.{ListObject, TupleObject, TextObject, DictObject, FunctionObject, ExceptionObject, MethodObject, RangeObject, ModuleObject, Heap, ObjectKind, AList, ATuple, AText, ADict, AFunction, AnException, AMethod, ARange, AModule, object, kind_of}
use Rattle.mpy_base.specs.Val.{Val, PlainWorld, At}
use Rattle.frame_moves.specs.arena_heap.declared.value.Value.{Value}
use Rattle.frame_moves.specs.arena_heap.declared.value.Value.TheVariants as values
use Rattle.frame_moves.specs.arena_heap.declared.value.StrNo.{StrNo}
use Rattle.frame_moves.specs.arena_heap.declared.value.ConstNo.{ConstNo}
use Rattle.frame_moves.specs.arena_heap.Values.{ArenaObject, Leads, IsTuple}
use Rattle.frame_moves.specs.py_values.Shown.{Tuple, shown, shown_object}
use Rattle.frame_moves.specs.py_primitives.Faults.{BadDefaults}
use Rattle.frame_moves.specs.py_effects.Effect.{Effect, faults}
use Rattle.frame_moves.specs.py_effects.Modules.{has_items, make_function}
use Rattle.frame_moves.specs.prim_walks.Plain.{plain, plain_object, plain_heap}
use Rattle.frame_moves.proofs.prim_walks_lemmas.PlainValues.{object_plain}
use Rattle.frame_moves.specs.prim_faults.declared.stop.Stop.{Stop}
use Rattle.frame_moves.specs.prim_faults.declared.stop.Stop.TheVariants as stops
use Rattle.frame_moves.specs.prim_faults.declared.fault.Fault.TheVariants as fault_names
use Rattle.frame_moves.specs.prim_faults.Outcomes.{plain_answer}
use Rattle.frame_moves.specs.prim_faults.Sights.{world_over}
use Rattle.prim_modules.specs.Effects.{IsEffect}
use Rattle.frame_calls.specs.Children.{judged}

module _ (texts : StrNo → Option (List ℕ)) (tuples : ConstNo → Option (List Value)) where
  tuple_kind : (o : Option ArenaObject) (items : List Val) → shown_object (plain_object texts tuples o) ≡ Tuple items → kind_of o ≡ Some ATuple
  tuple_kind None items e = absurd cc
  tuple_kind (Some (ListObject xs room)) items e = absurd cc
  tuple_kind (Some (TupleObject xs)) items e = refl
  tuple_kind (Some (TextObject bytes)) items e = absurd cc
  tuple_kind (Some (DictObject pairs room)) items e = absurd cc
  tuple_kind (Some (FunctionObject name module_name code names defaults)) items e = absurd cc
  tuple_kind (Some (ExceptionObject kind args file line name)) items e = absurd cc
  tuple_kind (Some (MethodObject v method)) items e = absurd cc
  tuple_kind (Some (RangeObject start stop step)) items e = absurd cc
  tuple_kind (Some (ModuleObject name names)) items e = absurd cc

  module _ (heap : Heap Value ℕ) (items : List Val) where
    no_other : (n : ℕ) (kind : ObjectKind) → kind_of (object heap.objects n) ≡ Some kind → shown (plain_heap texts tuples heap) (At n) ≡ Tuple items → Some kind ≡ Some ATuple
    no_other n kind is e =
        sym is ∙ tuple_kind (object heap.objects n) items (ap shown_object (sym (object_plain texts tuples heap.objects n)) ∙ e)

    -- what is shown as a tuple is one
    pub tuple_of : (v : Value) → Leads heap.objects v → shown (plain_heap texts tuples heap) (plain texts tuples v) ≡ Tuple items → IsTuple v
    tuple_of values.None leads e = absurd cc
    tuple_of (values.Bool b) leads e = absurd cc
    tuple_of (values.Int z) leads e = absurd cc
    tuple_of (values.Str s) leads e = absurd cc
    tuple_of (values.Fixed c) leads e = tt
    tuple_of values.Empty leads e = tt
    tuple_of (values.List l) leads e = absurd (let k = no_other l.cell AList leads.meets e in cc)
    tuple_of (values.Dict d) leads e = absurd (let k = no_other d.cell ADict leads.meets e in cc)
    tuple_of (values.Tuple t) leads e = tt
    tuple_of (values.Text t) leads e = absurd (let k = no_other t.cell AText leads.meets e in cc)
    tuple_of (values.Fun f) leads e = absurd (let k = no_other f.cell AFunction leads.meets e in cc)
    tuple_of (values.Exc x) leads e = absurd (let k = no_other x.cell AnException leads.meets e in cc)
    tuple_of (values.Method m) leads e = absurd (let k = no_other m.cell AMethod leads.meets e in cc)
    tuple_of (values.Range r) leads e = absurd (let k = no_other r.cell ARange leads.meets e in cc)
    tuple_of (values.Module m) leads e = absurd (let k = no_other m.cell AModule leads.meets e in cc)
    tuple_of (values.Built b) leads e = absurd cc

  module _ (old : Heap Value ℕ) (given : ℕ) (name module_name : List ℕ) (code names : ℕ) (defaults : Val) where
    abbrev Judged : PlainWorld → Effect Val
    Judged w = judged w given name module_name code names defaults

    abbrev Made : PlainWorld → Effect Val
    Made w = make_function w name module_name code names defaults

    abbrev Either : PlainWorld → Bool → Effect Val
    Either w fits = if fits then Made w else faults BadDefaults w

    -- as many items as the code takes
    pub judged_well : (new : Heap Value ℕ) (result : Result Value Stop) → true ≡ has_items given (shown (plain_heap texts tuples old) defaults) → IsEffect texts tuples old new result (λ w. Made w) → IsEffect texts tuples old new result (λ w. Judged w)
    judged_well new result fits is = record {
      answer = λ w. is.answer w ∙ ap (λ (b : Bool). (Either (world_over texts tuples w old) b).answer) fits;
      world = λ w. is.world w ∙ ap (λ (b : Bool). (Either (world_over texts tuples w old) b).world) fits;
      visits = λ w. sym (ap (λ (b : Bool). (Either (world_over texts tuples w old) b).visits) fits) ∙ is.visits w;
    }

    -- or not
    pub judged_ill : (result : Result Value Stop) → result ≡ Err (stops.Raises fault_names.BadDefaults) → false ≡ has_items given (shown (plain_heap texts tuples old) defaults) → IsEffect texts tuples old old result (λ w. Judged w)
    judged_ill result is fits = record {
      answer = λ w. ap (λ (r : Result Value Stop). plain_answer texts tuples old r) is ∙ ap (λ (b : Bool). (Either (world_over texts tuples w old) b).answer) fits;
      world = λ w. ap (λ (b : Bool). (Either (world_over texts tuples w old) b).world) fits;
      visits = λ w. sym (ap (λ (b : Bool). (Either (world_over texts tuples w old) b).visits) fits);
    }
