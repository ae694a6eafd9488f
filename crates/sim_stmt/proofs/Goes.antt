-- A run of the machine that lands where a meaning says, with its counts.
use Rattle.std.proofs.Common.{◌≡◌, ℕ, suc, ◌+◌, ◌*◌, ◌≤◌, List, [], ◌∷◌, sym, ap, ◌∙◌, subst, arith}
use Rattle.bc_scheme.specs.mpy_base.World.{PortState}
use Rattle.bc_scheme.specs.mpy_base.Val.{PlainWorld}
use Rattle.bc_scheme.specs.py_effects.Ends.{new_world}
use Rattle.bc_scheme.specs.bc_machine.Library.{Name, Library}
use Rattle.bc_scheme.specs.bc_machine.State.{Frame, State, Running, Halted, Stuck}
use Rattle.bc_scheme.specs.bc_machine.Step.{step}
use Rattle.bc_scheme.specs.bc_machine.Machine.{steps, start}
use Rattle.bc_scheme.specs.bc_machine.Growth.{FramesHold, StateHolds, Within}
use Rattle.bc_scheme.proofs.bc_machine_lemmas.Runs.{runs}
use Rattle.bc_scheme.proofs.bc_machine_lemmas.Laws.{step_fits, steps_fit, run_fits, machine_names, StateNames, step_names, steps_names, start_names}
use Rattle.sim_stmt.specs.Order.{MainStands, InOrder}
use Rattle.sim_stmt.proofs.Rooms.{step_room, steps_room, start_room}

-- ---- states in order

-- what the machine's laws say of the main module, in the words of the definition, and back
names_frames : (frames : List Frame) (w : PlainWorld) → FramesHold (Within machine_names) frames w → FramesHold MainStands frames w
names_frames [] w h = tt
names_frames (f ∷ frames) w h = (record { main = h.0.names; other = h.0.role }, names_frames frames w h.1)

frames_names : (frames : List Frame) (w : PlainWorld) → FramesHold MainStands frames w → FramesHold (Within machine_names) frames w
frames_names [] w h = tt
frames_names (f ∷ frames) w h = (record { names = h.0.main; role = h.0.other }, frames_names frames w h.1)

pub main_stands : (s : State) → StateNames s → StateHolds MainStands s
main_stands (Running paid f frames w) h = names_frames (f ∷ frames) w h
main_stands (Halted end w) h = tt
main_stands (Stuck w) h = tt

names_stand : (s : State) → StateHolds MainStands s → StateNames s
names_stand (Running paid f frames w) h = frames_names (f ∷ frames) w h
names_stand (Halted end w) h = tt
names_stand (Stuck w) h = tt

pub step_order : (library : Library) (s : State) → InOrder library s → InOrder library (step library s)
step_order library s o = record {
  names = step_fits library s o.names;
  rooms = step_room library s o.rooms;
  registered = main_stands (step library s) (step_names library s (names_stand s o.registered));
}

pub steps_order : (library : Library) (n : ℕ) (s : State) → InOrder library s → InOrder library (steps library n s)
steps_order library n s o = record {
  names = steps_fit library n s o.names;
  rooms = steps_room library n s o.rooms;
  registered = main_stands (steps library n s) (steps_names library n s (names_stand s o.registered));
}

-- a run begins so
pub start_order : (library : Library) (name : Name) (cells bytes : ℕ) (ports : List PortState) → InOrder library (start library name (new_world cells bytes ports))
start_order library name cells bytes ports =
    let w = new_world cells bytes ports in
    record { names = run_fits library name cells bytes ports 0; rooms = start_room library name w; registered = main_stands (start library name w) (start_names library name w) }

-- ---- runs with their counts

-- from s the machine comes, by `by` steps, to a state in L. Of 16 steps for each turn and `extra` more, `spare` are not
-- used; and the turns and `owed` more are at most K for each step, and `size`
pub record Reaches (library : Library) (K : ℕ) (L : State → Type 0) (s : State) (t left spare owed extra size : ℕ) : Type 0 where
  pub by : ℕ
  pub few : by + 16 * left + spare ≤ 16 * t + extra
  pub many : t + owed ≤ left + K * by + size
  pub falls : left ≤ t
  pub lands : L (steps library by s)

-- it does so where s is in order
pub record GoesIn (library : Library) (K : ℕ) (L : State → Type 0) (s : State) (t left spare owed extra size : ℕ) : Type 0 where
  pub from : InOrder library s → Reaches library K L s t left spare owed extra size

module _ (library : Library) (K : ℕ) where
  pub g_here : (L : State → Type 0) (s : State) (t : ℕ) → L s → GoesIn library K L s t t 0 0 0 0
  g_here L s t l = record { from = λ o. record { by = 0; few = omega arith; many = omega arith; falls = omega arith; lands = l } }

  -- no turns are left
  pub g_open : (L : State → Type 0) (s : State) (size : ℕ) (t : ℕ) → t ≤ 0 → L s → GoesIn library K L s t 0 0 0 0 size
  g_open L s size t le l = record { from = λ o. record { by = 0; few = omega arith; many = omega arith; falls = omega arith; lands = l } }

  pub g_wide : (L : State → Type 0) (s : State) (t left spare spare1 owed owed1 x x1 size size1 : ℕ) → x + spare1 ≤ x1 + spare → size + owed1 ≤ size1 + owed
      → GoesIn library K L s t left spare owed x size → GoesIn library K L s t left spare1 owed1 x1 size1
  g_wide L s t left spare spare1 owed owed1 x x1 size size1 xs ss g =
      record { from = λ o. let a = g.from o in record { by = a.by; few = omega (arith, a.few, xs); many = omega (arith, a.many, ss); falls = a.falls; lands = a.lands } }

  pub g_turn : (L : State → Type 0) (s : State) (t left spare owed x size : ℕ) → GoesIn library K L s t left spare owed (16 + x) size → GoesIn library K L s (suc t) left spare owed x (suc size)
  g_turn L s t left spare owed x size g =
      record { from = λ o. let a = g.from o in record { by = a.by; few = omega (arith, a.few); many = omega (arith, a.many); falls = omega (arith, a.falls); lands = a.lands } }

  -- a run from the state behind a step
  stepped_from : (L : State → Type 0) (s s1 : State) (t left spare owed x size : ℕ) → step library s ≡ s1 → GoesIn library K L s1 t left spare owed x size → InOrder library s
      → Reaches library K (λ u. L u) s1 t left spare owed x size
  stepped_from L s s1 t left spare owed x size e g o = g.from (subst (InOrder library) e (step_order library s o))

  -- a step, which can pay for what is at most K
  pub g_pay : (L : State → Type 0) (s s1 : State) (t left spare owed x size more : ℕ) → more ≤ K → step library s ≡ s1 → GoesIn library K L s1 t left spare owed x (size + more)
      → GoesIn library K L s t left spare owed (suc x) size
  g_pay L s s1 t left spare owed x size more le e g = record {
    from = λ o.
        let a = stepped_from L s s1 t left spare owed x (size + more) e g o in
        record { by = suc a.by; few = omega (arith, a.few); many = omega (arith, a.many, le); falls = a.falls; lands = subst (λ u. L (steps library a.by u)) (sym e) a.lands };
  }

  pub g_step : (L : State → Type 0) (s s1 : State) (t left spare owed x size : ℕ) → step library s ≡ s1 → GoesIn library K L s1 t left spare owed x size
      → GoesIn library K L s t left spare owed (suc x) size
  g_step L s s1 t left spare owed x size e g = record {
    from = λ o.
        let a = stepped_from L s s1 t left spare owed x size e g o in
        record { by = suc a.by; few = omega (arith, a.few); many = omega (arith, a.many); falls = a.falls; lands = subst (λ u. L (steps library a.by u)) (sym e) a.lands };
  }

  -- a turn paid by a step
  pub g_visit : (L : State → Type 0) (s s1 : State) (t left spare owed x size : ℕ) → 1 ≤ K → step library s ≡ s1 → GoesIn library K L s1 t left spare owed x size
      → GoesIn library K L s (suc t) left spare owed x size
  g_visit L s s1 t left spare owed x size le e g = record {
    from = λ o.
        let a = stepped_from L s s1 t left spare owed x size e g o in
        record { by = suc a.by; few = omega (arith, a.few); many = omega (arith, a.many, le); falls = omega (arith, a.falls); lands = subst (λ u. L (steps library a.by u)) (sym e) a.lands };
  }

  pub g_map : (L M : State → Type 0) (s : State) (t left spare owed x size : ℕ) → ((u : State) → L u → M u) → GoesIn library K L s t left spare owed x size → GoesIn library K M s t left spare owed x size
  g_map L M s t left spare owed x size f g = record { from = λ o. let a = g.from o in record { by = a.by; few = a.few; many = a.many; falls = a.falls; lands = f (steps library a.by s) a.lands } }

  -- what lands nowhere
  pub g_never : (L M : State → Type 0) (s : State) (t left left1 spare spare1 owed owed1 x x1 size size1 : ℕ) → ((u : State) → L u → ⊥) → GoesIn library K L s t left spare owed x size
      → GoesIn library K M s t left1 spare1 owed1 x1 size1
  g_never L M s t left left1 spare spare1 owed owed1 x x1 size size1 f g = record { from = λ o. let a = g.from o in absurd (f (steps library a.by s) a.lands) }

  -- what is known of a state in order is at hand
  pub g_order : (L : State → Type 0) (s : State) (t left spare owed x size : ℕ) → (InOrder library s → GoesIn library K L s t left spare owed x size) → GoesIn library K L s t left spare owed x size
  g_order L s t left spare owed x size f = record { from = λ o. (f o).from o }

  -- a run, and one from where it lands, with no more turns
  pub g_then : (L : State → Type 0) (s s1 : State) (t t1 left spare1 spare owed1 owed x1 x2 x size1 size2 size : ℕ) → x1 + x2 ≤ x + spare1 → size1 + size2 ≤ size + owed1
      → GoesIn library K (λ u. u ≡ s1) s t t1 spare1 owed1 x1 size1 → (t1 ≤ t → GoesIn library K L s1 t1 left spare owed x2 size2) → GoesIn library K L s t left spare owed x size
  g_then L s s1 t t1 left spare1 spare owed1 owed x1 x2 x size1 size2 size xs ss g h = record {
    from = λ o.
        let a = g.from o in
        let b = (h a.falls).from (subst (InOrder library) a.lands (steps_order library a.by s o)) in
        record {
          by = a.by + b.by;
          few = omega (arith, a.few, b.few, xs);
          many = omega (arith, a.many, b.many, ss);
          falls = omega (arith, a.falls, b.falls);
          lands = subst L (ap (steps library b.by) (sym a.lands) ∙ runs library a.by b.by s) b.lands;
        };
  }

  pub g_bind : (L : State → Type 0) (s s1 : State) (t t1 left spare1 spare owed1 owed x1 x2 x size1 size2 size : ℕ) → x1 + x2 ≤ x + spare1 → size1 + size2 ≤ size + owed1
      → GoesIn library K (λ u. u ≡ s1) s t t1 spare1 owed1 x1 size1 → GoesIn library K L s1 t1 left spare owed x2 size2 → GoesIn library K L s t left spare owed x size
  g_bind L s s1 t t1 left spare1 spare owed1 owed x1 x2 x size1 size2 size xs ss a b = g_then L s s1 t t1 left spare1 spare owed1 owed x1 x2 x size1 size2 size xs ss a (λ le. b)
