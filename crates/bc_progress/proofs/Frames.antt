-- Raises and values that go through frames.
use Rattle.std.proofs.Common.{◌≡◌, ℕ, suc, ◌+◌, ◌-◌, ◌≤◌, List, [], ◌∷◌, map, drop, length, Option, Some, None, refl, ap, ◌∙◌, subst, arith, length-drop}
use Rattle.std.specs.Prelude.{slice_get}
use Rattle.std.proofs.lemmas.List.{drop-drop}
use Rattle.bc_machine.specs.mpy_base.Val.{Val, PlainWorld}
use Rattle.bc_flow.specs.bc_shapes.declared.kinds.Kind.TheVariants as kinds
use Rattle.bc_flow.specs.bc_shapes.declared.kinds.Give.TheVariants.{New}
use Rattle.bc_flow.specs.Action.{Straight}
use Rattle.bc_flow.specs.Edges.{change, takes}
use Rattle.bc_flow.specs.Verified.{Holds as Meets}
use Rattle.bc_flow.specs.Machine as flow
use Rattle.bc_flow.specs.Machine.{Stack}
use Rattle.bc_flow.proofs.Runs.{fits_floor}
use Rattle.bc_flow.proofs.Sound.{Fits as Heights}
use Rattle.bc_machine.specs.py_effects.Effect.{Place, Given, Gives, Throws, Fills, Fails, Thrown, Filled, given}
use Rattle.bc_machine.specs.py_effects.Modules.{store_module}
use Rattle.bc_machine.specs.Library.{Name, Code, Module, Holds, Entry, Library, entry_in, module_in, code_in, code_at}
use Rattle.bc_machine.specs.State.{Value, Role, Main, Called, Imported, Frame, State, Running, cut, abandoned, throw_in, throw_out, throw, fail, on_given, give}
use Rattle.bc_progress.specs.Slots.{Facts, value, ShowsAllIn, more, flow_entry}
use Rattle.bc_progress.specs.Plans.{flow_of, IsVerifiedCode, Plans, Follows}
use Rattle.bc_progress.specs.Fits.{StandsIn, WaitsIn, BelowIn, FitsIn}
use Rattle.bc_progress.proofs.Flowing.{raises, straight_on, stands, low}
use Rattle.bc_progress.proofs.Showing.{shows_cut}
use Rattle.bc_progress.proofs.Knowing.{FitsBehind, Covers, ThrowsKnown, GivesKnown, given_known, throw_heap}
use Rattle.bc_progress.proofs.Moves.{Agree, agree_all, lands, caught}
use Rattle.bc_progress.proofs.Items.{fine}

-- the module of a code that is there
pub held : (o : Option Entry) (number : ℕ) (code : Code) → code_in (module_in o) number ≡ Some code → (m : Module) × (o ≡ Some (Holds m)) × (slice_get m.codes number ≡ Some code)
held None number code e = cc
held (Some (Holds m)) number code e = (m, refl, e)
held (Some Rattle.bc_machine.specs.Library.Refused) number code e = cc

module _ (plans : Plans) (library : Library) (follows : Follows plans library) where
  pub verified : (name : Name) (number : ℕ) (code : Code) → code_at library name number ≡ Some code
      → (m : Module) × (entry_in library name ≡ Some (Holds m)) × (slice_get m.codes number ≡ Some code) × IsVerifiedCode (length m.codes) (plans name number) code
  verified name number code e = let h = held (entry_in library name) number code e in (h.0, h.1, h.2, (follows name h.0 h.1).codes number code h.2)

  pub meets : (name : Name) (number : ℕ) (code : Code) → code_at library name number ≡ Some code → Meets (flow_of (plans name number) code) (plans name number).assigned
  meets name number code e = (verified name number code e).3.meets

module _ (facts : Facts) (plans : Plans) (library : Library) (follows : Follows plans library) where
  -- a raise of an exception that is known, in a frame that stands at an instruction
  stands_out : (x : ℕ) → facts.exception x → (frame : Frame) (frames : List Frame) (s : StandsIn facts plans library frame) → BelowIn facts plans library frame.role frames → (w : PlainWorld) (out : State) → FitsIn facts plans library out → FitsIn facts plans library (throw_in x frame.entries frame frames w out)
  stands_out x is frame frames s below w out o =
      let plan = plans frame.module_name frame.code in
      let es = map flow_entry frame.entries in
      let m = meets plans library follows frame.module_name frame.code s.code s.code_is in
      let i = stands (flow_of plan s.code) plan.assigned (fine plan s.code) m frame.position s.stack es s.planned in
      caught facts plans library frame s.code s.code_is s.locals frames below x is w out o frame.entries s.stack (length s.stack) s.kept (agree_all facts (length s.stack) frame.slots s.stack s.shows) s.planned.runs.fits
      (raises (flow_of plan s.code) plan.assigned (fine plan s.code) m i.0 frame.position s.stack es s.planned i.1)

  -- and in one that waits
  waits_agree : (frame : Frame) (w : WaitsIn facts plans library frame) → Agree facts (length w.stack - length w.wants) frame.slots w.stack × Heights (map flow_entry frame.entries) (length w.stack - length w.wants)
  unfolding change takes
  waits_agree frame w =
      let plan = plans frame.module_name frame.code in
      let es = map flow_entry frame.entries in
      let m = meets plans library follows frame.module_name frame.code w.code w.code_is in
      let l = low (flow_of plan w.code) plan.assigned (fine plan w.code) m (Straight w.wants (New kinds.Value ∷ [])) frame.position w.stack es refl w.planned w.call in (
        (λ h le.
            let k = length w.stack - h in
            let n : length w.wants ≤ length w.stack = l.0 in
            let q = length-drop (length w.wants) w.stack in
            let c : drop (length (drop (length w.wants) w.stack) - h) (drop (length w.wants) w.stack) ≡ drop k w.stack =
            drop-drop (length (drop (length w.wants) w.stack) - h) (length w.wants) w.stack ∙ ap (λ z. drop z w.stack) (let e : length w.wants + (length (drop (length w.wants) w.stack) - h) ≡ k = omega (arith, q, n, le) in e) in
            subst (ShowsAllIn facts (cut h frame.slots)) c (shows_cut h frame.slots (drop (length w.wants) w.stack) w.shows)),
        fits_floor es (length w.stack) (length w.stack - length w.wants) w.planned.runs.fits l.1,
      )

  waits_out : (x : ℕ) → facts.exception x → (frame : Frame) (frames : List Frame) (s : WaitsIn facts plans library frame) → BelowIn facts plans library frame.role frames → (w : PlainWorld) (out : State) → FitsIn facts plans library out → FitsIn facts plans library (throw_in x frame.entries frame frames w out)
  waits_out x is frame frames s below w out o =
      let plan = plans frame.module_name frame.code in
      let m = meets plans library follows frame.module_name frame.code s.code s.code_is in
      let a = waits_agree frame s in
      caught facts plans library frame s.code s.code_is s.locals frames below x is w out o frame.entries s.stack (length s.stack - length s.wants) s.kept a.0 a.1
      (raises (flow_of plan s.code) plan.assigned (fine plan s.code) m (Straight s.wants (New kinds.Value ∷ [])) frame.position s.stack (map flow_entry frame.entries) s.planned s.call)

  pub out_fits : (x : ℕ) → facts.exception x → (role : Role) (frames : List Frame) → BelowIn facts plans library role frames → (w : PlainWorld) → FitsIn facts plans library (throw_out x frames w)
  out_fits x is role [] below w = tt
  out_fits x is Main (frame ∷ frames) below w = absurd below
  out_fits x is Called (frame ∷ frames) below w = waits_out x is frame frames below.0 below.1 w _ (out_fits x is frame.role frames below.1 (abandoned frame.role w))
  out_fits x is (Imported name m) (frame ∷ frames) below w = stands_out x is frame frames below.0 below.1 w _ (out_fits x is frame.role frames below.1 (abandoned frame.role w))

  throws : (x : ℕ) (frame : Frame) (frames : List Frame) → StandsIn facts plans library frame → BelowIn facts plans library frame.role frames → (w : PlainWorld) → (Covers facts w.heap.objects → facts.exception x) → FitsBehind facts plans library (throw x frame frames w)
  throws x frame frames s below w known = λ covers.
      let is = known (subst (Covers facts) (throw_heap x frame frames w) covers) in
      stands_out x is frame frames s below w _ (out_fits x is frame.role frames below (abandoned frame.role w))

  pub fails_fit : (f : Fails) → ThrowsKnown facts f → (frame : Frame) (frames : List Frame) → StandsIn facts plans library frame → BelowIn facts plans library frame.role frames → FitsBehind facts plans library (fail f frame frames)
  fails_fit (Thrown x w) known frame frames s below = throws x frame frames s below w known
  fails_fit (Filled e w) known frame frames s below = λ covers. tt

  pub given_fits : {A : Type 0} (g : Given A) → GivesKnown facts g → (frame : Frame) (frames : List Frame) (next : A → PlainWorld → State) → StandsIn facts plans library frame → BelowIn facts plans library frame.role frames
      → ((a : A) (w : PlainWorld) → g ≡ Gives a w → FitsBehind facts plans library (next a w)) → FitsBehind facts plans library (on_given g frame frames next)
  given_fits (Gives a w) known frame frames next s below k = k a w refl
  given_fits (Throws x w) known frame frames next s below k = throws x frame frames s below w known
  given_fits (Fills e w) known frame frames next s below k = λ covers. tt

  -- a value that goes to the frame below
  pub gives_fit : (v : Val) (role : Role) (frames : List Frame) → BelowIn facts plans library role frames → (w : PlainWorld) → FitsBehind facts plans library (give v role frames w)
  gives_fit v Main [] below w = λ covers. tt
  gives_fit v Main (frame ∷ frames) below w = absurd below
  gives_fit v Called [] below w = absurd below
  gives_fit v (Imported name m) [] below w = absurd below
  gives_fit v (Imported name m) (frame ∷ frames) below w =
      let place : Place = record { file = []; line = 0; name = [] } in
      given_fits (given place (store_module w name m)) (given_known facts place (store_module w name m)) frame frames (λ stored. Running 0 frame frames) below.0 below.1 (λ a w1 e. λ covers. below)
  gives_fit v Called (frame ∷ frames) below w =
      let s = below.0 in
      let plan = plans frame.module_name frame.code in
      let m = meets plans library follows frame.module_name frame.code s.code s.code_is in
      let es = map flow_entry frame.entries in
      let g = (straight_on (flow_of plan s.code) plan.assigned (fine plan s.code) m s.wants (New kinds.Value ∷ []) frame.position s.stack es s.planned s.call).1 in
      λ covers. lands facts plans library frame s.code s.code_is s.locals frames below.1 (suc frame.position) (Value v ∷ frame.slots) frame.entries (flow.Value ∷ drop (length s.wants) s.stack) w (more value s.shows) s.kept g
