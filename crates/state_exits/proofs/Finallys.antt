-- The ends of finallys, where a run comes to.
use Rattle.std.proofs.Common.{◌≡◌, ◌<◌, ℕ, List, [], ◌∷◌, length, drop, Some, slice_get, refl, sym, ap, ◌∙◌, subst, arith}
use Rattle.std.proofs.lemmas.Option.{same_Some}
use Rattle.vm_states.specs.mpy_base.Val.{PlainWorld}
use Rattle.prim_faults.specs.arena_heap.declared.value.Value.{Value}
use Rattle.vm_states.specs.bc_labels.Positions.{Starts}
use Rattle.vm_states.specs.bc_machine.State.{State}
use Rattle.vm_states.specs.bc_machine.Growth as growth
use Rattle.vm_states.specs.vm_frames.declared.slot.Slot.{Slot}
use Rattle.vm_states.specs.vm_frames.declared.slot.Entry.{Entry}
use Rattle.vm_states.specs.vm_frames.Calls.{Call}
use Rattle.vm_states.specs.vm_frames.Views.{View, starts_of, position_of}
use Rattle.vm_states.specs.frame_moves.Shown.{Tables}
use Rattle.vm_states.specs.frame_exits.declared.causes.Cause.{Cause}
use Rattle.vm_states.specs.frame_exits.declared.causes.Cause.TheVariants as causes
use Rattle.vm_states.specs.frame_exits.declared.ends.After.{After}
use Rattle.vm_states.specs.frame_exits.declared.ends.After.TheVariants as afters
use Rattle.vm_states.specs.frame_exits.Causes.{cause_slot, FitsEntries, GoesOn, unkept}
use Rattle.vm_states.specs.frame_exits.Left.{receiving_of, after_of}
use Rattle.vm_states.specs.Tops.{IsCause, jump, Ending}
use Rattle.vm_states.specs.Means.{Program}
use Rattle.state_exits.specs.Own.{AreOwn}
use Rattle.state_exits.specs.Modules.{registered_names}
use Rattle.state_exits.specs.Keeping.{TargetStarts}
use Rattle.state_exits.proofs.Sounds.{running_world}

receiving_world : (t : Tables) (v : Value) (cs : List Call) (w : PlainWorld) → growth.world_of (receiving_of t v cs w) ≡ w
receiving_world t v [] w = refl
receiving_world t v (c ∷ cs) w = refl

after_world : (t : Tables) (after : After) (cs : List Call) (w : PlainWorld) → growth.world_of (after_of t after cs w) ≡ w
after_world t afters.Runs cs w = running_world t 0 cs w
after_world t (afters.Gives v) cs w = receiving_world t v cs w
after_world t (afters.Ends end) cs w = refl

pub own_after : (p : Program) (after : After) (cs : List Call) (w : PlainWorld) (x : State) → x ≡ after_of p.tables after cs w → AreOwn (registered_names p) (growth.world_of x).modules → AreOwn (registered_names p) w.modules
own_after p after cs w x e h =
    subst (λ (z : PlainWorld). AreOwn (registered_names p) z.modules) (after_world p.tables after cs w)
    (subst (λ (z : State). AreOwn (registered_names p) (growth.world_of z).modules) e h)

-- a jump leaves no more entries than lie below
fits_by : (view : View) (n : ℕ) (cause : Cause) (c : Call) → n ≡ length c.entries → IsCause view n (cause_slot cause) → FitsEntries cause c
fits_by view n causes.Nothing c e is = tt
fits_by view n (causes.Exception x) c e is = tt
fits_by view n (causes.Return v) c e is = tt
fits_by view n (causes.Jump target count it) c e (jump t k i le) = omega (arith, le, e)

pub fits_here : (view : View) (c : Call) (cause : Cause) → (ending : Ending view (starts_of view c) (position_of view c) c.slots c.entries) → slice_get c.slots 0 ≡ Some (cause_slot cause) → FitsEntries cause (unkept c)
fits_here view c cause ending top =
    let same : ending.cause ≡ cause_slot cause = same_Some ending.cause (cause_slot cause) (sym (ap (λ (z : List Slot). slice_get z 0) ending.slots_are) ∙ top) in
    fits_by view (length ending.others) cause (unkept c) (sym (ap (λ (z : List Entry). length (drop 1 z)) ending.entries_are)) (subst (IsCause view (length ending.others)) same ending.is)

pub some_entry : (view : View) (c : Call) → Ending view (starts_of view c) (position_of view c) c.slots c.entries → 0 < length c.entries
some_entry view c ending = let n = ap (λ (z : List Entry). length z) ending.entries_are in omega (arith, n)

-- where it goes on
pub goes_on_here : (view : View) (end : ℕ) (cause : Cause) (c : Call) → Starts (starts_of view c) end → TargetStarts view cause c → GoesOn view end cause c
goes_on_here view end causes.Nothing c begins target = begins
goes_on_here view end (causes.Exception x) c begins target = tt
goes_on_here view end (causes.Return v) c begins target = tt
goes_on_here view end (causes.Jump target_at count it) c begins target = target
