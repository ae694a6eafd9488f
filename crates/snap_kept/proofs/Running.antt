-- A step of a verified library keeps it, and so does a run.
use Rattle.std.proofs.Common.{◌≡◌, inl, ℕ, zero, suc, ◌+◌, List, [], ◌∷◌, map, Option, Some, None, refl, sym, ap, ◌∙◌, subst, arith}
use Rattle.std.specs.Prelude.{slice_get, codes}
use Rattle.std.specs.List.{AllByRecursion as Each}
use Rattle.bc_progress.specs.mpy_base.World.{PortState, Later, Object, object}
use Rattle.bc_progress.specs.mpy_base.Val.{Val, PlainWorld}
use Rattle.bc_progress.specs.py_effects.Effect.{Place, Given, Gives, Throws, Fills, given}
use Rattle.bc_progress.specs.py_effects.Modules.{Made, make_module}
use Rattle.bc_progress.specs.py_effects.Ends.{new_world}
use Rattle.bc_progress.specs.bc_machine.Library.{Name, Line, Code, Module, Holds, Refused, Entry, Library, entry_in, module_in, code_at}
use Rattle.bc_progress.specs.bc_machine.State.{Main, Frame, State, Running, Halted, Stuck}
use Rattle.bc_progress.specs.bc_machine.Step.{run_line, line_at, step}
use Rattle.bc_progress.specs.bc_machine.Machine.{steps, begun, opened, start, run_of}
use Rattle.bc_progress.specs.bc_machine.Growth.{world_of}
use Rattle.bc_machine.proofs.Laws.{run_follows}
use Rattle.bc_machine.proofs.Runs.{runs}
use Rattle.bc_progress.specs.Plans.{action_of, Plans, Follows}
use Rattle.bc_progress.specs.Fits.{StandsIn}
use Rattle.bc_progress.specs.Known.{facts_of, objects_of, FitsKnown}
use Rattle.bc_progress.proofs.Knowing.{own_covered}
use Rattle.bc_progress.proofs.Others.{fits_more, objects_more}
use Rattle.bc_progress.proofs.Whole.{step_fits, start_fits}
use Rattle.snap_kept.specs.Texts.{IsName, HasConstants}
use Rattle.snap_kept.specs.Effects.{IsSound}
use Rattle.snap_kept.specs.Frames.{IsFrame, IsKept}
use Rattle.snap_kept.proofs.Acting.{IsPlace, GivenIn, given_in}
use Rattle.snap_kept.proofs.Moduling.{MadeIn, module_in as made_module_in}
use Rattle.snap_kept.proofs.Framing.{new_in}
use Rattle.snap_kept.proofs.Stepping.{instruction_in}

some_line : (x y : Line) → Some x ≡ Some y → x ≡ y
some_line x y e = cc

some_code : (x y : Code) → Some x ≡ Some y → x ≡ y
some_code x y e = cc

line_action : (lines : List Line) (p : ℕ) (l : Line) → slice_get lines p ≡ Some l → slice_get (map (λ (l : Line). action_of l.item) lines) p ≡ Some (action_of l.item)
line_action [] p l e = absurd cc
line_action (x ∷ lines) zero l e = ap (λ (z : Line). Some (action_of z.item)) (some_line x l e)
line_action (x ∷ lines) (suc p) l e = line_action lines p l e

held_is : (o : Option Entry) (m : Module) → module_in o ≡ Some m → o ≡ Some (Holds m)
held_is None m e = absurd cc
held_is (Some (Holds x)) m e = let same : x ≡ m = cc in ap (λ z. Some (Holds z)) same
held_is (Some Refused) m e = absurd cc

module _ (library : Library) (constants : HasConstants library) (plans : Plans) (follows : Follows plans library) where
  line_by : (paid : ℕ) (frame : Frame) (frames : List Frame) (w : PlainWorld) → StandsIn (facts_of w.heap.objects) plans library frame → IsSound library w → IsFrame library w.heap frame → Each (IsFrame library w.heap) frames
      → (m : Option Module) (c : Option Code) (l : Option Line) → module_in (entry_in library frame.module_name) ≡ m → code_at library frame.module_name frame.code ≡ c → line_at c frame.position ≡ l → IsKept library (run_line library paid frame frames w m c l)
  line_by paid frame frames w s sound fr fs (Some m) (Some code) (Some l) em ec el =
      let same : s.code ≡ code = some_code s.code code (sym s.code_is ∙ ec) in
      let line : line_at (code_at library frame.module_name frame.code) frame.position ≡ Some l = ap (λ z. line_at z frame.position) ec ∙ el in
      let there : slice_get s.code.lines frame.position ≡ Some l = ap (λ (z : Code). slice_get z.lines frame.position) same ∙ el in
      let at : IsPlace library (record { file = m.file; line = l.line; name = code.name }) = record {
        file = IsName.source frame.module_name m (held_is (entry_in library frame.module_name) m em);
        name = IsName.of_code frame.module_name frame.code code ec;
      } in
      instruction_in library plans follows (record { file = m.file; line = l.line; name = code.name }) paid frame frames w s sound fr fs at l.item (line_action s.code.lines frame.position l there)
      (λ op text q. IsName.named frame.module_name frame.code frame.position l op text line q) (λ v q. constants.constants frame.module_name frame.code frame.position l v line q)
  line_by paid frame frames w s sound fr fs _ _ _ em ec el = tt

  pub step_kept : (s : State) → FitsKnown plans library s → IsKept library s → IsKept library (step library s)
  step_kept (Running paid frame frames w) f k =
      let code = code_at library frame.module_name frame.code in
      line_by paid frame frames w (f.0) (k.0) ((k.1).0) ((k.1).1) (module_in (entry_in library frame.module_name)) code (line_at code frame.position) refl refl refl
  step_kept (Halted end w) f k = tt
  step_kept (Stuck w) f k = tt

module _ (library : Library) where
  begun_kept : (name : Name) (w : PlainWorld) (o : Option Code) (made : Made) (u : PlainWorld) → IsSound library u → MadeIn library u.heap made → IsKept library (begun name o made u)
  begun_kept name w (Some code) made u s x = (s, (new_in library u.heap name 0 code [] made.names Main (x.1) tt tt, tt))
  begun_kept name w None made u s x = tt

  opened_kept : (name : Name) (w : PlainWorld) (g : Given Made) → GivenIn library (MadeIn library) w g → IsKept library (opened library name g)
  opened_kept name w (Gives made u) p = begun_kept name w (code_at library name 0) made u (p.0).sound (p.1)
  opened_kept name w (Throws x u) p = tt
  opened_kept name w (Fills e u) p = tt

  pub start_kept : (name : Name) (w : PlainWorld) → IsSound library w → IsKept library (start library name w)
  start_kept name w s =
      let place : Place = record { file = []; line = 0; name = [] } in
      opened_kept name w (given place (make_module w (codes "__main__")))
      (given_in library place (record { file = IsName.nameless; name = IsName.nameless }) (MadeIn library) w (make_module w (codes "__main__")) (made_module_in library w s (codes "__main__") (inl refl) (inl IsName.main_name)))

  pub new_sound : (cells bytes : ℕ) (ports : List PortState) → IsSound library (new_world cells bytes ports)
  new_sound cells bytes ports = record { heap = record { cells = omega arith; fine = λ n o e. absurd (none_there n o e) }; titles = tt }
    where
      none_there : (n : ℕ) (o : Object Val (List ℕ)) → object [] n ≡ Some o → ⊥
      none_there n o e = cc

-- along a run
module _ (library : Library) (constants : HasConstants library) (plans : Plans) (follows : Follows plans library) (name : Name) (m : Module) (held : entry_in library name ≡ Some (Holds m)) (cells bytes : ℕ) (ports : List PortState) where
  abbrev at : ℕ → State
  at n = steps library n (start library name (new_world cells bytes ports))

  world_is : (s : State) → (run_of s).world ≡ world_of s
  world_is (Running paid frame frames w) = refl
  world_is (Halted end w) = refl
  world_is (Stuck w) = refl

  next_at : (n : ℕ) → at (suc n) ≡ step library (at n)
  next_at n = ap at (let e : suc n ≡ n + 1 = omega arith in e) ∙ sym (runs library n 1 (start library name (new_world cells bytes ports)))

  later_at : (n : ℕ) → Later (objects_of (at n)) (objects_of (step library (at n)))
  later_at n =
      let f = run_follows library name cells bytes ports n (suc n) (omega arith) in
      subst (λ z. Later (objects_of (at n)) (objects_of z)) (next_at n)
      (subst (λ (z : PlainWorld). Later (objects_of (at n)) z.heap.objects) (world_is (at (suc n)))
      (subst (λ (z : PlainWorld). Later z.heap.objects (run_of (at (suc n))).world.heap.objects) (world_is (at n)) f.heap.kinds))

  pub fits_at : (n : ℕ) → FitsKnown plans library (at n)
  fits_at zero = start_fits (facts_of (objects_of (at 0))) plans library follows name m (new_world cells bytes ports) held
  fits_at (suc n) =
      let s = at n in
      let objects = objects_of (step library s) in
      subst (FitsKnown plans library) (sym (next_at n))
      (step_fits (facts_of objects) plans library follows s (fits_more (facts_of (objects_of s)) (facts_of objects) (objects_more (objects_of s) objects (later_at n).keeps) plans library s (fits_at n)) (own_covered objects))

  pub run_kept : (n : ℕ) → IsKept library (at n)
  run_kept zero = start_kept library name (new_world cells bytes ports) (new_sound library cells bytes ports)
  run_kept (suc n) = subst (IsKept library) (sym (next_at n)) (step_kept library constants plans follows (at n) (fits_at n) (run_kept n))
