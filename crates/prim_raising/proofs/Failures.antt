-- Exceptions that were made and get their places.
use Rattle.std.proofs.Common.{◌≡◌, ℕ, List, Option, Some, None, Result, Ok, Err, set, refl, sym, ap, ap₂, ◌∙◌, subst}
use Rattle.std.proofs.lemmas.List.{map-set}
use Rattle.std.specs.List.{All}
use Rattle.mpy_base.specs.declared.room.NoRoom.{NoRoom}
use Rattle.mpy_base.specs.declared.kind.Kind.{Kind}
use Rattle.mpy_base.specs.World.{Object, ListObject, TupleObject, TextObject, DictObject, FunctionObject, ExceptionObject, MethodObject, RangeObject, ModuleObject, Heap, AnException, IsA, Later, object, kind_of, placed, with_place}
use Rattle.mpy_base.specs.Val.{Val, At, PlainWorld}
use Rattle.mpy_base.proofs.Worlds.{later_later}
use Rattle.prim_types.specs.arena_heap.declared.value.Value.{Value}
use Rattle.prim_types.specs.arena_heap.declared.value.Value.TheVariants as values
use Rattle.prim_types.specs.arena_heap.declared.value.StrNo.{StrNo}
use Rattle.prim_types.specs.arena_heap.declared.value.ConstNo.{ConstNo}
use Rattle.prim_types.specs.arena_heap.declared.value.ExcNo.{ExcNo}
use Rattle.prim_types.specs.arena_heap.Values.{ArenaObject, held}
use Rattle.prim_types.specs.arena_heap.Constants.{IsTold}
use Rattle.prim_types.specs.arena_objects.Keys.{AllTold}
use Rattle.prim_types.specs.py_values.Shown.{PlainHeap}
use Rattle.prim_types.specs.py_primitives.Outcome as primitives
use Rattle.prim_types.specs.py_primitives.Outcome.{Outcome}
use Rattle.py_effects.specs.Effect as effects
use Rattle.py_effects.specs.Effect.{Fails, Thrown, raised_new, raise_made, fault_at, failed, given_answer}
use Rattle.py_effects.specs.Names.{raise_by, raise_value}
use Rattle.prim_types.specs.py_primitives.Faults.{NotAnException}
use Rattle.prim_types.specs.py_primitives.Operators.{raised_kind, exception_kind}
use Rattle.prim_types.specs.prim_walks.Plain.{plain_name, plain_object, plain_heap}
use Rattle.prim_types.specs.prim_faults.declared.stop.Stop.TheVariants.{Full}
use Rattle.prim_types.specs.prim_faults.Outcomes.{IsOutcome}
use Rattle.prim_types.proofs.prim_faults_lemmas.Heaps.{object_of}
use Rattle.prim_types.proofs.prim_operators_lemmas.ItemFills.{told_put}
use Rattle.prim_raising.specs.declared.place.Place.{Place}
use Rattle.prim_raising.specs.Places.{plain_place, stopped_at}
use Rattle.prim_types.specs.prim_faults.Sights.{Sight, sight_of as sight, world_over}
use Rattle.prim_raising.specs.Worlds.{HasFailed}

module _ (texts : StrNo → Option (List ℕ)) (tuples : ConstNo → Option (List Value)) where
  placed_plain : (o : Option ArenaObject) (file line name : ℕ)
      → plain_object texts tuples (placed o file line name) ≡ placed (plain_object texts tuples o) (plain_name texts tuples file) line (plain_name texts tuples name)
  placed_plain None file line name = refl
  placed_plain (Some (ListObject items room)) file line name = refl
  placed_plain (Some (TupleObject items)) file line name = refl
  placed_plain (Some (TextObject bytes)) file line name = refl
  placed_plain (Some (DictObject pairs room)) file line name = refl
  placed_plain (Some (FunctionObject own module_name code names defaults)) file line name = refl
  placed_plain (Some (ExceptionObject kind args old_file old_line old_name)) file line name = refl
  placed_plain (Some (MethodObject v method)) file line name = refl
  placed_plain (Some (RangeObject start stop step)) file line name = refl
  placed_plain (Some (ModuleObject own names)) file line name = refl

  -- the place of an exception, as the meaning has it
  pub place_plain : (h : Heap Value ℕ) (n file line name : ℕ)
      → plain_heap texts tuples (with_place h n file line name) ≡ with_place (plain_heap texts tuples h) n (plain_name texts tuples file) line (plain_name texts tuples name)
  place_plain h n file line name =
      ap (λ (os : List (Option (Object Val (List ℕ)))). record (plain_heap texts tuples h) { objects = os })
      (map-set (plain_object texts tuples) h.objects n (placed (object h.objects n) file line name)
      ∙ ap (λ (o : Option (Object Val (List ℕ))). set (plain_heap texts tuples h).objects n o)
      (placed_plain (object h.objects n) file line name
      ∙ ap (λ (o : Option (Object Val (List ℕ))). placed o (plain_name texts tuples file) line (plain_name texts tuples name)) (sym (object_of texts tuples h n))))

  with_placed : (h : Heap Value ℕ) (n file line name : ℕ) (o : Option ArenaObject) → object h.objects n ≡ o → kind_of o ≡ Some AnException → AllTold texts tuples h.objects
      → AllTold texts tuples (with_place h n file line name).objects
  with_placed h n file line name (Some (ExceptionObject kind args old_file old_line old_name)) e is all =
      let new : ArenaObject = ExceptionObject kind args file line name in
      let told : held (object h.objects n) ≡ held (Some new) = ap held e in
      subst (λ (x : Option ArenaObject). AllTold texts tuples (record h { objects = set h.objects n x }).objects)
      (ap (λ (x : Option ArenaObject). placed x file line name) (sym e))
      (told_put texts tuples h n AnException (ap kind_of e ∙ is) all new (subst (λ (vs : List Value). All (IsTold texts tuples) vs) told (all.told n)))
  with_placed h n file line name _ e is all = absurd cc

  -- an outcome whose exception is raised
  module _ (old mid : Heap Value ℕ) (place : Place) (outcome : Outcome Val) (fails : PlainWorld → Sight → Fails)
      (is : (w : PlainWorld) → fails (world_over texts tuples w old) (sight texts tuples) ≡ raise_made (plain_place (sight texts tuples) place) (world_over texts tuples w old) outcome) where
    pub thrown : (new : Heap Value ℕ) (x : ExcNo) → IsOutcome texts tuples old mid (Ok (values.Exc x)) outcome → new ≡ with_place mid x.cell place.file place.line place.name → Later mid.objects new.objects
        → HasFailed texts tuples old new (Ok x) fails
    thrown new x made put later = record {
      failure = λ w. sym (is w
          ∙ (ap₂ (λ (h : PlainHeap) (r : Result Val primitives.Stop). raised_new (plain_place (sight texts tuples) place) (record w { heap = h }) r) (sym made.heap) (sym made.answer)
          ∙ ap (λ (h : PlainHeap). Thrown x.cell (record w { heap = h }))
          (sym (place_plain mid x.cell place.file place.line place.name) ∙ sym (ap (plain_heap texts tuples) put))));
      exception = later.keeps AnException x.cell made.known.leads.meets;
      later = later_later made.later later;
      all_told = subst (λ (h : Heap Value ℕ). AllTold texts tuples h.objects) (sym put)
          (with_placed mid x.cell place.file place.line place.name (object mid.objects x.cell) refl made.known.leads.meets made.all_told);
    }

    pub filled : (room : NoRoom) → IsOutcome texts tuples old mid (Err (Full room)) outcome → HasFailed texts tuples old mid (Err room) fails
    filled room made = record {
      failure = λ w. sym (is w
          ∙ ap₂ (λ (h : PlainHeap) (r : Result Val primitives.Stop). raised_new (plain_place (sight texts tuples) place) (record w { heap = h }) r) (sym made.heap) (sym made.answer));
      exception = tt;
      later = made.later;
      all_told = made.all_told;
    }

  -- what fails as something else does
  pub alike : (old new : Heap Value ℕ) (result : Result ExcNo NoRoom) (known fails : PlainWorld → Sight → Fails)
      → ((w : PlainWorld) → fails (world_over texts tuples w old) (sight texts tuples) ≡ known (world_over texts tuples w old) (sight texts tuples))
      → HasFailed texts tuples old new result known → HasFailed texts tuples old new result fails
  alike old new result known fails same failed = record {
    failure = λ w. failed.failure w ∙ sym (same w);
    exception = failed.exception;
    later = failed.later;
    all_told = failed.all_told;
  }

  has_kind : (o : Option ArenaObject) → kind_of o ≡ Some AnException → (kind : Kind) × (raised_kind (plain_object texts tuples o) ≡ Some kind)
  has_kind (Some (ExceptionObject kind args file line name)) is = (kind, refl)
  has_kind _ is = absurd cc

  -- an exception that is raised again gets the place
  pub replaced : (old new : Heap Value ℕ) (place : Place) (x : ExcNo) → IsA old.objects AnException x.cell → AllTold texts tuples old.objects → new ≡ with_place old x.cell place.file place.line place.name → Later old.objects new.objects
      → HasFailed texts tuples old new (Ok x) (λ w see. raise_value (plain_place see place) w (see.value (values.Exc x)))
  replaced old new place x is all put later =
      let has = has_kind (object old.objects x.cell) is in
      let kind : exception_kind (plain_heap texts tuples old) (At x.cell) ≡ Some has.0 = ap raised_kind (object_of texts tuples old x.cell) ∙ has.1 in
      record {
        failure = λ w. sym (
            ap (λ (k : Option Kind). raise_by (plain_place (sight texts tuples) place) (world_over texts tuples w old) (At x.cell) None k) kind
            ∙ ap (λ (h : PlainHeap). Thrown x.cell (record w { heap = h }))
            (sym (place_plain old x.cell place.file place.line place.name) ∙ sym (ap (plain_heap texts tuples) put)));
        exception = later.keeps AnException x.cell is;
        later = later;
        all_told = subst (λ (h : Heap Value ℕ). AllTold texts tuples h.objects) (sym put)
            (with_placed old x.cell place.file place.line place.name (object old.objects x.cell) refl is all);
      }

-- what an effect gives that stopped
pub given_stop : {A : Type 0} (place : effects.Place) (w : PlainWorld) (stop : primitives.Stop) → given_answer {A = A} place w (Err stop) ≡ failed (stopped_at place w stop)
given_stop place w (primitives.Raises fault) = refl
given_stop place w (primitives.Full e) = refl

-- a value that names no kind and is no exception
pub nothing_raised : (place : effects.Place) (w : PlainWorld) (v : Val) → raise_by place w v None None ≡ fault_at place w NotAnException
nothing_raised place w (At n) = refl
nothing_raised place w _ = refl
