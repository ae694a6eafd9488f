-- Throws through calls, as the machine's through its frames.
use Rattle.std.proofs.Common.{◌≡◌, ℕ, ◌<◌, ◌≤◌, List, [], ◌∷◌, map, drop, length, Option, Some, None, Result, Ok, Err, All, refl, sym, ap, ◌∙◌, subst, arith}
use Rattle.std.proofs.lemmas.List.Elements.{All-head, All-drop}
use Rattle.std.proofs.lemmas.Option.{none-some, same_Some}
use Rattle.mpy_base.specs.declared.room.NoRoom.{NoRoom}
use Rattle.mpy_base.specs.Val.{PlainWorld}
use Rattle.frame_moves.specs.arena_heap.declared.value.Value.{Value}
use Rattle.frame_moves.specs.arena_heap.declared.value.StrNo.{StrNo}
use Rattle.frame_moves.specs.arena_heap.declared.value.ConstNo.{ConstNo}
use Rattle.frame_moves.specs.arena_heap.declared.value.ExcNo.{ExcNo}
use Rattle.frame_moves.specs.bc_machine.State as states
use Rattle.frame_moves.specs.bc_machine.State.{State, Running, Halted, abandoned, throw_in, throw_out}
use Rattle.frame_moves.specs.prim_raising.Worlds.{failure}
use Rattle.frame_moves.specs.vm_frames.declared.slot.Role.{Role}
use Rattle.frame_moves.specs.vm_frames.Calls.{Call, Calls, OfRunning, change_first, on_running}
use Rattle.frame_moves.specs.vm_frames.Moves.{raised}
use Rattle.prim_modules.specs.Registry.{Registry}
use Rattle.frame_moves.specs.vm_frames.Views as views
use Rattle.frame_moves.specs.vm_frames.Views.{View, role_of, frame_of, behind}
use Rattle.frame_moves.specs.vm_frames.Placed.{IsPlaced}
use Rattle.frame_moves.specs.Shown.{Tables, view_of, running_of}
use Rattle.frame_moves.specs.Outcomes.{failing_of}
use Rattle.frame_exits.specs.declared.names.ModuleName.{ModuleName}
use Rattle.frame_exits.specs.declared.ends.End.{End}
use Rattle.frame_exits.specs.declared.ends.End.TheVariants as ends
use Rattle.frame_exits.specs.Names.{AreTablesOf, Forgets}
use Rattle.frame_exits.specs.Ends.{with_modules, state_of}
use Rattle.frame_exits.specs.Thrown.{throwing_of, entered_or, thrown, thrown_out}

-- what holds of all calls holds of the running one
pub of_running : (P : Call → Type 0) (cs : List Call) → 0 < length cs → All P cs → OfRunning P cs
of_running P [] some h = absurd (omega (arith, some))
of_running P (c ∷ cs) some h = All-head P c cs h

pub some_run : (P : Call → Type 0) (cs : List Call) → OfRunning P cs → 0 < length cs
some_run P [] h = absurd h
some_run P (c ∷ cs) h = omega arith

pub is_none : (cs : List Call) → length cs ≤ 0 → cs ≡ []
is_none [] le = refl
is_none (c ∷ cs) le = absurd (omega (arith, le))

one_fewer : (cs : List Call) → 0 < length cs → length (drop 1 cs) < length cs
one_fewer [] some = absurd (omega (arith, some))
one_fewer (c ∷ cs) some = omega arith

-- a change of the running call leaves the others
pub others : (change : Call → Call) (cs : List Call) → drop 1 (change_first change cs) ≡ drop 1 cs
others change [] = refl
others change (c ∷ cs) = refl

pub left_over : (change : Call → Call) (old mid new : Calls) → mid ≡ on_running change old → new ≡ record mid { calls = drop 1 mid.calls } → new ≡ record old { calls = drop 1 old.calls }
left_over change old mid new e f =
    f ∙ ap (λ (z : Calls). record z { calls = drop 1 z.calls }) e ∙ ap (λ (z : List Call). record old { calls = z }) (others change old.calls)

-- into a handler
-- ==============

-- a raise in a frame is the machine's
abbrev pub RaisesLaw : Type 0
RaisesLaw =
    (view : View) (x : ExcNo) (c : Call) (frames : List states.Frame) (w : PlainWorld) (outside : State) → IsPlaced view c
    → throw_in x.cell (frame_of view c).entries (frame_of view c) frames w outside ≡ behind view (raised x c) frames w outside

module _ (x : ExcNo) (r : Option ℕ) where
  abbrev Handles : Call → Type 0
  Handles c = r ≡ (raised x c).handler

  pub thrown_here : (cs : List Call) (h : ℕ) → r ≡ Some h → OfRunning Handles cs → thrown x cs ≡ change_first (λ c. (raised x c).call) cs
  thrown_here [] h is e = absurd e
  thrown_here (c ∷ cs) h is e = ap (λ (z : Option ℕ). entered_or z ((raised x c).call ∷ cs) (thrown x cs)) (sym e ∙ is)

  pub caught : (cs : List Call) → OfRunning Handles cs → thrown_out x (change_first (λ c. (raised x c).call) cs) ≡ None
  caught [] e = absurd e
  caught (c ∷ cs) e = refl

  pub state_here : RaisesLaw → (t : Tables) (w : PlainWorld) (cs : List Call) (h : ℕ) → r ≡ Some h → OfRunning Handles cs → OfRunning (IsPlaced (view_of t)) cs
      → throwing_of t x cs w ≡ running_of t 0 (change_first (λ c. (raised x c).call) cs) w
  state_here raises t w [] h is e p = absurd e
  state_here raises t w (c ∷ cs) h is e p =
      let view = view_of t in
      let frames = map (frame_of view) cs in
      let outside = throw_out x.cell frames (abandoned (frame_of view c).role w) in
      raises view x c frames w outside p
      ∙ ap (λ (z : Option ℕ). views.entered_or view z (Running 0 (frame_of view (raised x c).call) frames w) outside) (sym e ∙ is)

  -- out of the call
  pub thrown_on : (cs : List Call) → r ≡ None → OfRunning Handles cs → thrown x cs ≡ thrown x (drop 1 cs)
  thrown_on [] is e = absurd e
  thrown_on (c ∷ cs) is e = ap (λ (z : Option ℕ). entered_or z ((raised x c).call ∷ cs) (thrown x cs)) (sym e ∙ is)

  pub state_on : RaisesLaw → (t : Tables) (w w1 : PlainWorld) (cs : List Call) (n : ℕ) (role : Role) → r ≡ None → OfRunning Handles cs → OfRunning (IsPlaced (view_of t)) cs
      → OfRunning (λ c. n ≡ c.module_number) cs → OfRunning (λ c. role ≡ c.role) cs → w1 ≡ abandoned (role_of (view_of t) (t.module_name n) role) w
      → throwing_of t x cs w ≡ throwing_of t x (drop 1 cs) w1
  state_on raises t w w1 [] n role is e p number_is role_is left = absurd e
  state_on raises t w w1 (c ∷ cs) n role is e p number_is role_is left =
      let view = view_of t in
      let frames = map (frame_of view) cs in
      let out : PlainWorld → State = λ (z : PlainWorld). throw_out x.cell frames z in
      let outside = out (abandoned (frame_of view c).role w) in
      raises view x c frames w outside p
      ∙ ap (λ (z : Option ℕ). views.entered_or view z (Running 0 (frame_of view (raised x c).call) frames w) outside) (sym e ∙ is)
      ∙ ap (λ (m : ℕ). out (abandoned (role_of view (t.module_name m) c.role) w)) (sym number_is)
      ∙ ap (λ (z : Role). out (abandoned (role_of view (t.module_name n) z) w)) (sym role_is)
      ∙ ap out (sym left)

-- through the calls
-- =================

pub forgets_on : (old mid new : Registry) → Forgets old mid → Forgets mid new → Forgets old new
forgets_on old mid new f g = record { room = g.room ∙ f.room; fewer = omega (arith, f.fewer, g.fewer) }

-- what a throw has come to
pub record Through (texts : StrNo → Option (List ℕ)) (tuples : ConstNo → Option (List Value)) (names : List ModuleName) (x : ExcNo) (old new : Calls) (before after : Registry) : Type 0 where
  pub state : (tables : Tables) (w : PlainWorld) → AreTablesOf texts tuples names tables → All (IsPlaced (view_of tables)) old.calls
      → throwing_of tables x old.calls (with_modules tables w before) ≡ throwing_of tables x new.calls (with_modules tables w after)
  pub named : All (λ c. c.module_number < length names) new.calls
  pub placed : (view : View) → All (IsPlaced view) old.calls → All (IsPlaced view) new.calls
  pub rooms : new ≡ record old { calls = new.calls }
  pub thrown_is : thrown x old.calls ≡ thrown x new.calls
  pub forgets : Forgets before after

module _ (texts : StrNo → Option (List ℕ)) (tuples : ConstNo → Option (List Value)) (names : List ModuleName) (x : ExcNo) (old : Calls) (before : Registry) where
  pub at_first : All (λ c. c.module_number < length names) old.calls → Through texts tuples names x old old before before
  at_first named = record {
    state = λ t w are placed. refl;
    named = named;
    placed = λ view h. h;
    rooms = refl;
    thrown_is = refl;
    forgets = record { room = refl; fewer = omega arith };
  }

  module _ (mid new : Calls) (between after : Registry) (is : Through texts tuples names x old mid before between) (some : 0 < length mid.calls)
      (state : (tables : Tables) (w : PlainWorld) → AreTablesOf texts tuples names tables → OfRunning (IsPlaced (view_of tables)) mid.calls
      → throwing_of tables x mid.calls (with_modules tables w between) ≡ throwing_of tables x new.calls (with_modules tables w after))
      (left : new ≡ record mid { calls = drop 1 mid.calls }) (on : thrown x mid.calls ≡ thrown x new.calls) (forgets : Forgets between after) where
    calls_are : new.calls ≡ drop 1 mid.calls
    calls_are = ap (λ (z : Calls). z.calls) left

    rest : (P : Call → Type 0) → All P mid.calls → All P new.calls
    rest P h = subst (All P) (sym calls_are) (All-drop P 1 mid.calls h)

    pub one_on : Through texts tuples names x old new before after
    one_on = record {
      state = λ t w are placed. is.state t w are placed ∙ state t w are (of_running (IsPlaced (view_of t)) mid.calls some (is.placed (view_of t) placed));
      named = rest (λ c. c.module_number < length names) is.named;
      placed = λ view h. rest (IsPlaced view) (is.placed view h);
      rooms = left ∙ ap (λ (z : Calls). record z { calls = drop 1 mid.calls }) is.rooms ∙ ap (λ (z : List Call). record old { calls = z }) (sym calls_are);
      thrown_is = is.thrown_is ∙ on;
      forgets = forgets_on before between after is.forgets forgets;
    }

    pub fewer_calls : length new.calls < length mid.calls
    fewer_calls = subst (λ (z : List Call). length z < length mid.calls) (sym calls_are) (one_fewer mid.calls some)

-- failures
-- ========

-- an exception is thrown
pub failing_thrown : (t : Tables) (x : ExcNo) (w : PlainWorld) (r : Result ExcNo NoRoom) (cs : List Call) → 0 < length cs → r ≡ Ok x
    → failing_of t cs (failure w r) ≡ throwing_of t x cs w
failing_thrown t x w r [] some is = absurd (omega (arith, some))
failing_thrown t x w r (c ∷ cs) some is = ap (λ (z : Result ExcNo NoRoom). failing_of t (c ∷ cs) (failure w z)) is

-- the run ends
pub failing_filled : (t : Tables) (room : NoRoom) (w : PlainWorld) (r : Result ExcNo NoRoom) (cs : List Call) → 0 < length cs → r ≡ Err room
    → failing_of t cs (failure w r) ≡ state_of t (Some (ends.Memory room)) cs w
failing_filled t room w r [] some is = absurd (omega (arith, some))
failing_filled t room w r (c ∷ cs) some is = ap (λ (z : Result ExcNo NoRoom). failing_of t (c ∷ cs) (failure w z)) is

-- the run ends with the exception alone
pub ends_with : (x : ExcNo) (end : End) (cs : List Call) → Some end ≡ thrown_out x cs → end ≡ ends.Raised x
ends_with x end [] is = same_Some end (ends.Raised x) is
ends_with x end (c ∷ cs) is = absurd (none-some end (sym is))
