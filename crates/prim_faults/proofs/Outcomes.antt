-- Answers of calls that are a primitive's.
use Rattle.std.proofs.Common.{◌≡◌, ℕ, suc, List, Bool, true, false, cond, Option, Some, Ok, Err, refl, sym, ap, ap₂, ◌∙◌, subst, arith}
use Rattle.std.specs.List.{All}
use Rattle.prim_walks.specs.arena_heap.declared.value.Value.{Value}
use Rattle.prim_walks.specs.arena_heap.declared.value.StrNo.{StrNo}
use Rattle.prim_walks.specs.arena_heap.declared.value.ConstNo.{ConstNo}
use Rattle.prim_walks.specs.mpy_base.declared.room.NoRoom.{NoRoom}
use Rattle.prim_walks.specs.mpy_base.World.{Object, Heap, Later}
use Rattle.prim_walks.specs.mpy_base.Weights.{used, does_fit, Fits, Made, Refused, cells_of, bytes_of, with_made}
use Rattle.prim_walks.specs.mpy_base.Val.{Val, At}
use Rattle.prim_walks.proofs.mpy_base_lemmas.Worlds.{later_made, later_same}
use Rattle.prim_walks.specs.arena_heap.Values.{ArenaObject, Leads, held}
use Rattle.prim_walks.specs.arena_heap.Constants.{IsTold}
use Rattle.prim_walks.specs.arena_objects.Keys.{AllTold}
use Rattle.prim_walks.proofs.arena_objects_lemmas.Tolds.{told_made}
use Rattle.prim_walks.specs.py_values.Shown.{PlainHeap}
use Rattle.prim_walks.specs.py_primitives.Outcome as primitives
use Rattle.prim_walks.specs.py_primitives.Outcome.{Outcome, gives, raises, is_full, making}
use Rattle.prim_walks.specs.Plain.{plain, plain_heap}
use Rattle.prim_faults.specs.declared.fault.Fault.{Fault}
use Rattle.prim_faults.specs.declared.stop.Stop.TheVariants.{Raises, Full}
use Rattle.prim_faults.specs.Faults.{plain_fault, IsKnownFault}
use Rattle.prim_faults.specs.Outcomes.{IsOutcome}
use Rattle.prim_faults.proofs.Heaps.{plain_made, cells_plain, bytes_plain, used_plain, fit_plain, no_room_plain, made_plain}

-- what fits, as a test says it
pub fits_true : {V N : Type 0} (h : Heap V N) (cells bytes : ℕ) → Fits h cells bytes → does_fit h cells bytes ≡ true
fits_true h cells bytes f = let p = f.cells_fit in let q = f.bytes_fit in grind arith

fits_by : {V N : Type 0} (h : Heap V N) (cells bytes : ℕ) → does_fit h cells bytes ≡ true → Fits h cells bytes
fits_by h cells bytes e = record { cells_fit = grind arith; bytes_fit = grind arith }

fits_not : {V N : Type 0} (h : Heap V N) (cells bytes : ℕ) → (Fits h cells bytes → ⊥) → (b : Bool) → does_fit h cells bytes ≡ b → b ≡ false
fits_not h cells bytes unfit true e = absurd (unfit (fits_by h cells bytes e))
fits_not h cells bytes unfit false e = refl

pub fits_false : {V N : Type 0} (h : Heap V N) (cells bytes : ℕ) → (Fits h cells bytes → ⊥) → does_fit h cells bytes ≡ false
fits_false h cells bytes unfit = fits_not h cells bytes unfit (does_fit h cells bytes) refl

pub fitted : (heap : PlainHeap) (o : Object Val (List ℕ)) → does_fit heap (cells_of o) (bytes_of o) ≡ true → making heap o ≡ gives (At (used heap)) (with_made heap o)
fitted heap o e = ap (λ (b : Bool). cond b (gives (At (used heap)) (with_made heap o)) (is_full heap (cells_of o) (bytes_of o))) e

pub unfitted : (heap : PlainHeap) (o : Object Val (List ℕ)) → does_fit heap (cells_of o) (bytes_of o) ≡ false → making heap o ≡ is_full heap (cells_of o) (bytes_of o)
unfitted heap o e = ap (λ (b : Bool). cond b (gives (At (used heap)) (with_made heap o)) (is_full heap (cells_of o) (bytes_of o))) e

module _ (texts : StrNo → Option (List ℕ)) (tuples : ConstNo → Option (List Value)) where
  -- a value
  pub answered : (old new : Heap Value ℕ) (v : Value) (outcome : Outcome Val) → Later old.objects new.objects → AllTold texts tuples new.objects → Leads new.objects v → IsTold texts tuples v
      → outcome ≡ gives (plain texts tuples v) (plain_heap texts tuples new) → IsOutcome texts tuples old new (Ok v) outcome
  answered old new v outcome later all leads told e = record {
    answer = sym (ap (λ (o : Outcome Val). o.answer) e);
    heap = sym (ap (λ (o : Outcome Val). o.heap) e);
    known = record { leads = leads; told = told };
    later = later;
    all_told = all;
  }

  -- a value, and nothing changed
  pub gives_outcome : (h : Heap Value ℕ) (v : Value) (outcome : Outcome Val) → AllTold texts tuples h.objects → Leads h.objects v → IsTold texts tuples v
      → outcome ≡ gives (plain texts tuples v) (plain_heap texts tuples h) → IsOutcome texts tuples h h (Ok v) outcome
  gives_outcome h v outcome all leads told e = answered h h v outcome (later_same h.objects) all leads told e

  -- a fault, which changes nothing
  pub raises_outcome : (h : Heap Value ℕ) (fault : Fault) (outcome : Outcome Val) → AllTold texts tuples h.objects → IsKnownFault texts tuples h.objects fault
      → outcome ≡ raises (plain_fault texts tuples h fault) (plain_heap texts tuples h) → IsOutcome texts tuples h h (Err (Raises fault)) outcome
  raises_outcome h fault outcome all known e = record {
    answer = sym (ap (λ (o : Outcome Val). o.answer) e);
    heap = sym (ap (λ (o : Outcome Val). o.heap) e);
    known = known;
    later = later_same h.objects;
    all_told = all;
  }

  -- a refusal that changes nothing
  pub full_outcome : (old new : Heap Value ℕ) (e : NoRoom) (cells bytes : ℕ) (outcome : Outcome Val) → Refused old new e cells bytes → AllTold texts tuples old.objects
      → outcome ≡ is_full (plain_heap texts tuples old) cells bytes → IsOutcome texts tuples old new (Err (Full e)) outcome
  full_outcome old new e cells bytes outcome r all is = record {
    answer = ap (λ (x : NoRoom). Err (primitives.Full x)) (r.told ∙ sym (no_room_plain texts tuples old cells bytes)) ∙ sym (ap (λ (o : Outcome Val). o.answer) is);
    heap = ap (plain_heap texts tuples) r.unchanged ∙ sym (ap (λ (o : Outcome Val). o.heap) is);
    known = tt;
    later = subst (λ (h : Heap Value ℕ). Later old.objects h.objects) (sym r.unchanged) (later_same old.objects);
    all_told = subst (λ (h : Heap Value ℕ). AllTold texts tuples h.objects) (sym r.unchanged) all;
  }

  -- makings
  module _ (old new : Heap Value ℕ) (o : ArenaObject) (all : AllTold texts tuples old.objects) (outcome : Outcome Val) (is : outcome ≡ making (plain_heap texts tuples old) (plain_made texts tuples o)) where
    fit_same : does_fit (plain_heap texts tuples old) (cells_of (plain_made texts tuples o)) (bytes_of (plain_made texts tuples o)) ≡ does_fit old (cells_of o) (bytes_of o)
    fit_same =
        ap₂ (λ (c b : ℕ). does_fit (plain_heap texts tuples old) (suc c) b) (cells_plain texts tuples o) (bytes_plain texts tuples o)
        ∙ fit_plain texts tuples old (cells_of o) (bytes_of o)

    -- one that fitted
    pub made_outcome : (n : ℕ) (v : Value) → Made old new n o → plain texts tuples v ≡ At n → Leads new.objects v → IsTold texts tuples v → All (IsTold texts tuples) (held (Some o))
        → IsOutcome texts tuples old new (Ok v) outcome
    made_outcome n v m at leads told t =
        let fits = fitted (plain_heap texts tuples old) (plain_made texts tuples o) (fit_same ∙ fits_true old (cells_of o) (bytes_of o) m.fits) in
        let number : At (used (plain_heap texts tuples old)) ≡ plain texts tuples v = ap At (used_plain texts tuples old ∙ sym m.number) ∙ sym at in
        let world : with_made (plain_heap texts tuples old) (plain_made texts tuples o) ≡ plain_heap texts tuples new = sym (ap (plain_heap texts tuples) m.world ∙ made_plain texts tuples old o) in
        answered old new v outcome (later_made m) (told_made texts tuples m all t) leads told (is ∙ (fits ∙ ap₂ (λ (w : Val) (h : PlainHeap). gives w h) number world))

    -- and one that didn't
    pub refused_outcome : (e : NoRoom) → Refused old new e (cells_of o) (bytes_of o) → IsOutcome texts tuples old new (Err (Full e)) outcome
    refused_outcome e r =
        let unfit = unfitted (plain_heap texts tuples old) (plain_made texts tuples o) (fit_same ∙ fits_false old (cells_of o) (bytes_of o) r.too_much) in
        let weights = ap₂ (λ (c b : ℕ). is_full {A = Val} (plain_heap texts tuples old) (suc c) b) (cells_plain texts tuples o) (bytes_plain texts tuples o) in
        full_outcome old new e (cells_of o) (bytes_of o) outcome r all (is ∙ (unfit ∙ weights))
