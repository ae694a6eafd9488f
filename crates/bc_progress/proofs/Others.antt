-- What fits some facts fits others that follow from them.
use Rattle.std.proofs.Common.{◌≡◌, ℕ, List, [], ◌∷◌, drop, length, Option, Some, None, refl, sym, subst}
use Rattle.std.specs.Prelude.{IfSome}
use Rattle.std.proofs.lemmas.List.Elements.{All-nil, All-cons, All-head, All-tail}
use Rattle.bc_machine.specs.mpy_base.declared.builtin.Builtin.{Builtin}
use Rattle.bc_machine.specs.mpy_base.World.{ObjectKind, AnException, Objects, object, kind_of, IsA}
use Rattle.bc_machine.specs.mpy_base.Val.{Val, Nil, Truth, Int, Str, Fixed, Empty, Built, At}
use Rattle.bc_flow.specs.Machine as flow
use Rattle.bc_flow.specs.Machine.{Stack}
use Rattle.bc_machine.specs.Library.{Library}
use Rattle.bc_machine.specs.State.{Slot, Role, Main, Called, Imported, Entry, Frame, State, Running, Halted, Stuck}
use Rattle.bc_progress.specs.Slots.{Facts, anything, ShowsIn, value, nothing, exception, null, kept_return, kept_jump, iterator1, iterator2, iterator3, iterator4, ShowsAllIn, none, more, bound, free, KeepIn}
use Rattle.bc_progress.specs.Plans.{Plans}
use Rattle.bc_progress.specs.Fits.{StandsIn, WaitsIn, BelowIn, FitsIn}
use Rattle.bc_progress.specs.Known.{KindHas, HasMethod, facts_of}

pub record Gives (facts other : Facts) : Type 0 where
  pub exception : (x : ℕ) → facts.exception x → other.exception x
  pub method : (object : Val) (method : Builtin) → facts.method object method → other.method object method

pub all_given : (facts : Facts) → Gives facts anything
all_given facts = record { exception = λ x is. tt; method = λ object method is. tt }

module _ (facts other : Facts) (gives : Gives facts other) where
  one_more : (s : Slot) (t : flow.Slot) → ShowsIn facts s t → ShowsIn other s t
  one_more s t value = value
  one_more s t nothing = nothing
  one_more s t (exception {x = x} is) = exception (gives.exception x is)
  one_more s t null = null
  one_more s t kept_return = kept_return
  one_more s t kept_jump = kept_jump
  one_more s t iterator1 = iterator1
  one_more s t iterator2 = iterator2
  one_more s t iterator3 = iterator3
  one_more s t iterator4 = iterator4

  pub shows_more : (slots : List Slot) (stack : Stack) → ShowsAllIn facts slots stack → ShowsAllIn other slots stack
  shows_more slots stack none = none
  shows_more slots stack (more {s = s} {t = t} {slots = rest} {stack = ss} h r) = more (one_more s t h) (shows_more rest ss r)
  shows_more slots stack (bound {object = o} {method = m} {slots = rest} {stack = ss} is r) = bound (gives.method o m is) (shows_more rest ss r)
  shows_more slots stack (free {slots = rest} {stack = ss} r) = free (shows_more rest ss r)

  kept_one : (o : Option ℕ) → IfSome o facts.exception → IfSome o other.exception
  kept_one None k = tt
  kept_one (Some x) k = gives.exception x k

  pub keeps_more : (es : List Entry) → KeepIn facts es → KeepIn other es
  keeps_more [] k = All-nil (λ (e : Entry). IfSome e.kept other.exception)
  keeps_more (e ∷ es) k =
      let K : Entry → Type 0 = λ e. IfSome e.kept facts.exception in
      All-cons (λ (e : Entry). IfSome e.kept other.exception) e es (kept_one e.kept (All-head K e es k)) (keeps_more es (All-tail K e es k))

  module _ (plans : Plans) (library : Library) where
    abbrev pub stands_more : (frame : Frame) → StandsIn facts plans library frame → StandsIn other plans library frame
    stands_more frame s = record { code = s.code; code_is = s.code_is; locals = s.locals; stack = s.stack; shows = shows_more frame.slots s.stack s.shows; kept = keeps_more frame.entries s.kept; planned = s.planned }

    waits_more : (frame : Frame) → WaitsIn facts plans library frame → WaitsIn other plans library frame
    waits_more frame s = record {
      code = s.code;
      code_is = s.code_is;
      locals = s.locals;
      stack = s.stack;
      wants = s.wants;
      call = s.call;
      shows = shows_more frame.slots (drop (length s.wants) s.stack) s.shows;
      kept = keeps_more frame.entries s.kept;
      planned = s.planned;
    }

    pub below_more : (role : Role) (frames : List Frame) → BelowIn facts plans library role frames → BelowIn other plans library role frames
    below_more Main [] b = tt
    below_more Main (frame ∷ frames) b = absurd b
    below_more Called [] b = absurd b
    below_more Called (frame ∷ frames) b = (waits_more frame b.0, below_more frame.role frames b.1)
    below_more (Imported name m) [] b = absurd b
    below_more (Imported name m) (frame ∷ frames) b = (stands_more frame b.0, below_more frame.role frames b.1)

    pub fits_more : (s : State) → FitsIn facts plans library s → FitsIn other plans library s
    fits_more (Running paid frame frames w) f = (stands_more frame f.0, below_more frame.role frames f.1)
    fits_more (Halted end w) f = tt
    fits_more (Stuck w) f = absurd f

-- objects that keep their kinds
-- =============================

module _ {V N X M : Type 0} (old : Objects V N) (new : Objects X M) (keeps : (kind : ObjectKind) (n : ℕ) → IsA old kind n → IsA new kind n) where
  kind_more : (n : ℕ) (method : Builtin) (o : Option ObjectKind) → kind_of (object old n) ≡ o → KindHas o method → KindHas (kind_of (object new n)) method
  kind_more n method None e h = absurd h
  kind_more n method (Some kind) e h = subst (λ o. KindHas o method) (sym (keeps kind n e)) h

  method_more : (object : Val) (method : Builtin) → HasMethod old object method → HasMethod new object method
  method_more (Str bytes) method h = h
  method_more (At n) method h = kind_more n method (kind_of (object old n)) refl h
  method_more Nil method h = absurd h
  method_more (Truth b) method h = absurd h
  method_more (Int z) method h = absurd h
  method_more (Fixed items) method h = absurd h
  method_more Empty method h = absurd h
  method_more (Built b) method h = absurd h

  pub objects_more : Gives (facts_of old) (facts_of new)
  objects_more = record { exception = λ x is. keeps AnException x is; method = method_more }
