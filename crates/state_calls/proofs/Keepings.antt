-- Rooms and look-ups of calls that stay.
use Rattle.std.proofs.Common.{◌≡◌, ℕ, zero, suc, ◌+◌, List, [], ◌∷◌, drop, Option, Some, Result, Ok, Err, All, refl, sym, ap, subst, ◌∙◌, arith}
use Rattle.std.specs.Prelude.{slice_get}
use Rattle.std.proofs.lemmas.List.Elements.{All-cons, All-head, All-tail}
use Rattle.std.proofs.lemmas.Option.{none-some}
use Rattle.vm_states.specs.mpy_base.World.{Objects}
use Rattle.frame_calls.specs.arena_heap.declared.value.Value.{Value}
use Rattle.frame_calls.specs.arena_heap.declared.value.StrNo.{StrNo}
use Rattle.frame_calls.specs.arena_heap.declared.value.ConstNo.{ConstNo}
use Rattle.frame_calls.specs.prim_faults.declared.stop.Stop.{Stop}
use Rattle.vm_states.specs.vm_frames.declared.slot.Slot.{Slot}
use Rattle.vm_states.specs.vm_frames.declared.slot.Slot.TheVariants as slots
use Rattle.vm_states.specs.vm_frames.Calls.{Call, Calls, change_first, on_running}
use Rattle.frame_calls.specs.prim_calls.declared.callees.Function.{Function}
use Rattle.frame_calls.specs.Entering.{begun, Enters}
use Rattle.frame_calls.specs.Putting.{with_value, Puts}
use Rattle.state_calls.specs.Taken.{HasMethods, Keeps}

no_slot : {A : Type 0} (n : ℕ) (x : A) → slice_get [] n ≡ Some x → ⊥
no_slot zero x e = none-some x e
no_slot (suc n) x e = none-some x e

get_drop : {A : Type 0} (k : ℕ) (xs : List A) (j n : ℕ) (x : A) → n ≡ k + j → slice_get (drop k xs) j ≡ Some x → slice_get xs n ≡ Some x
get_drop zero xs j n x e h = let same : n ≡ j = omega (arith, e) in subst (λ (z : ℕ). slice_get xs z ≡ Some x) (sym same) h
get_drop (suc k) [] j n x e h = absurd (no_slot j x h)
get_drop (suc k) (y ∷ xs) j zero x e h = absurd (omega (arith, e))
get_drop (suc k) (y ∷ xs) j (suc n) x e h = get_drop k xs j n x (omega (arith, e)) h

cut_methods : (taken : ℕ) (st : List Slot) → HasMethods st → HasMethods (drop taken st)
cut_methods taken st h i object method upper lower =
    h (taken + i) object method (get_drop taken st i (taken + i) _ refl upper) (get_drop taken st (suc i) (suc (taken + i)) _ (omega arith) lower)

put_methods : (taken : ℕ) (v : Value) (st : List Slot) → HasMethods st → HasMethods (slots.Value v ∷ drop taken st)
put_methods taken v st h zero object method upper lower = absurd (let wrong : slots.Value v ≡ slots.Object (Some object) = cc in cc)
put_methods taken v st h (suc i) object method upper lower = cut_methods taken st h i object method upper lower

abbrev Looked : Call → Type 0
Looked c = HasMethods c.slots

changed : (change : Call → Call) → ((c : Call) → Looked c → Looked (change c)) → (cs : List Call) → All Looked cs → All Looked (change_first change cs)
changed change f [] h = h
changed change f (c ∷ cs) h = All-cons Looked (change c) cs (f c (All-head Looked c cs h)) (All-tail Looked c cs h)

-- calls that get a value
pub value_keeps : (end taken : ℕ) (v : Value) (old new : Calls) → new ≡ on_running (with_value end taken v) old → Keeps old new
value_keeps end taken v old new e = record {
  rooms = e ∙ ap (λ (z : List Call). record old { calls = z }) (sym (ap (λ (z : Calls). z.calls) e));
  methods = λ h. subst (All Looked) (sym (ap (λ (z : Calls). z.calls) e)) (changed (with_value end taken v) (λ c k. put_methods taken v c.slots k) old.calls h);
}

pub same_keeps : (old new : Calls) → new ≡ old → Keeps old new
same_keeps old new e = record {
  rooms = e ∙ ap (λ (z : List Call). record old { calls = z }) (sym (ap (λ (z : Calls). z.calls) e));
  methods = λ h. subst (λ (z : Calls). All Looked z.calls) (sym e) h;
}

pub put_keeps : {E : Type 0} (texts : StrNo → Option (List ℕ)) (tuples : ConstNo → Option (List Value)) (objects : Objects Value ℕ) (end taken : ℕ) (old new : Calls) (result : Result (Unit {0}) E)
    → Puts texts tuples objects end taken old new result → Keeps old new
put_keeps texts tuples objects end taken old new (Ok done) h = value_keeps end taken h.0 old new h.2
put_keeps texts tuples objects end taken old new (Err stop) h = same_keeps old new h

-- calls that enter a function
pub enters_keeps : (texts : StrNo → Option (List ℕ)) (tuples : ConstNo → Option (List Value)) (objects : Objects Value ℕ) (f : Function) (i locals taken : ℕ) (old new : Calls) (result : Result (Unit {0}) Stop)
    → Enters texts tuples objects f i locals taken old new result → Keeps old new
enters_keeps texts tuples objects f i locals taken old new (Ok done) h =
    let call = begun f i locals h.0 in
    let e = h.2 in
    record {
      rooms = e ∙ ap (λ (z : List Call). record old { calls = z }) (sym (ap (λ (z : Calls). z.calls) e));
      methods = λ all. subst (All Looked) (sym (ap (λ (z : Calls). z.calls) e))
          (All-cons Looked call (change_first (λ c. record c { slots = drop taken c.slots }) old.calls) (λ n object method upper lower. absurd (no_slot n _ upper))
          (changed (λ c. record c { slots = drop taken c.slots }) (λ c k. cut_methods taken c.slots k) old.calls all));
    }
enters_keeps texts tuples objects f i locals taken old new (Err stop) h = same_keeps old new h
