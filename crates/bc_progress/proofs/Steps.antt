-- What the words of a step come to.
use Rattle.std.proofs.Common.{◌≡◌, ℕ, zero, suc, ◌-◌, ◌<◌, ◌≤◌, List, [], ◌∷◌, map, length, replicate, Bool, true, false, Option, Some, None, refl, ap, ◌∙◌, arith, if◌then◌else◌, length-append}
use Rattle.std.specs.Prelude.{slice_get, nat_lt}
use Rattle.std.proofs.lemmas.List.{length-replicate}
use Rattle.std.proofs.lemmas.List.Elements.{All-nil}
use Rattle.bc_machine.specs.mpy_base.Val.{Val, Nil, PlainWorld}
use Rattle.bc_flow.specs.bc_shapes.declared.kinds.Kind.TheVariants as kinds
use Rattle.bc_flow.specs.bc_shapes.declared.kinds.Want.{Want}
use Rattle.bc_flow.specs.bc_shapes.declared.kinds.Want.TheVariants as wants
use Rattle.bc_flow.specs.bc_shapes.declared.kinds.Give.{Give}
use Rattle.bc_flow.specs.bc_shapes.declared.kinds.Give.TheVariants.{New}
use Rattle.bc_flow.specs.bc_shapes.declared.shape.Entry.{Entry as FlowEntry}
use Rattle.bc_flow.specs.Action.{Action, Straight, Branch}
use Rattle.bc_flow.specs.Code as flows
use Rattle.bc_flow.specs.Verified.{Assigned, Holds as Meets}
use Rattle.bc_flow.specs.Machine as flow
use Rattle.bc_flow.specs.Machine.{Stack, all_wanted, given}
use Rattle.bc_flow.proofs.Never.{Good, start_good}
use Rattle.bc_machine.specs.py_primitives.Faults.{Fault, TooDeep}
use Rattle.bc_machine.specs.py_effects.Effect as effects
use Rattle.bc_machine.specs.py_effects.Effect.{Effect, Place, Given, Gives, Fails, fault_at}
use Rattle.bc_machine.specs.py_effects.Names.{Locals}
use Rattle.bc_machine.specs.py_effects.Calling.{Keys, Function, Callee, Runs, Acts, bind}
use Rattle.bc_machine.specs.Library.{Name, Code, Module, Holds, Entry, Library, entry_in, module_in, code_in, code_at}
use Rattle.bc_machine.specs.State.{Slot, Value, Role, Called, Frame, State, go, fail}
use Rattle.bc_machine.specs.Parts.{new_frame, has_depth}
use Rattle.bc_machine.specs.Step as machine
use Rattle.bc_progress.specs.Slots.{Facts, ShowsIn, value, ShowsAllIn, none, more, flow_entry}
use Rattle.bc_progress.specs.Plans.{flow_of, Plans, Follows}
use Rattle.bc_progress.specs.Fits.{StandsIn, WaitsIn, BelowIn}
use Rattle.bc_progress.proofs.Flowing.{acts, straight_on, branch_on}
use Rattle.bc_progress.proofs.Showing.{one_value, two_values}
use Rattle.bc_progress.proofs.Knowing.{K, FitsBehind, ThrowsKnown, fault_known, given_known}
use Rattle.bc_progress.proofs.Moves.{lands}
use Rattle.bc_progress.proofs.Items.{fine}
use Rattle.bc_progress.proofs.Frames.{verified, meets, fails_fit, given_fits}
use Rattle.bc_progress.proofs.Binding.{bind_count}

pub get_there : {A : Type 0} (xs : List A) (n : ℕ) → n < length xs → (x : A) × (slice_get xs n ≡ Some x)
get_there [] n lt = absurd (omega (arith, lt))
get_there (x ∷ xs) zero lt = (x, refl)
get_there (x ∷ xs) (suc n) lt = get_there xs n (omega (arith, lt))

pub code_is_there : (library : Library) (name : Name) (m : Module) (number : ℕ) → entry_in library name ≡ Some (Holds m) → code_at library name number ≡ slice_get m.codes number
code_is_there library name m number e = ap (λ (o : Option Entry). code_in (module_in o) number) e

module _ (facts : Facts) (plans : Plans) (library : Library) (follows : Follows plans library) where
  -- a new frame stands at the first instruction of its code
  pub new_stands : (name : Name) (number : ℕ) (code : Code) (slots : Locals) (names : ℕ) (role : Role) → code_at library name number ≡ Some code → length slots ≤ code.locals → StandsIn facts plans library (new_frame name number code slots names role)
  new_stands name number code slots names role e le = record {
    code = code;
    code_is = e;
    locals =
        let a = length-append slots (replicate (code.locals - length slots) None) in
        let b = length-replicate {A = Option Val} (code.locals - length slots) None in
        omega (arith, a, b, le);
    stack = [];
    shows = none;
    kept = All-nil (K facts);
    planned = start_good (flow_of (plans name number) code) (plans name number).assigned (meets plans library follows name number code e);
  }

  module _ (place : Place) (paid : ℕ) (frame : Frame) (frames : List Frame) (w : PlainWorld) (s : StandsIn facts plans library frame) (below : BelowIn facts plans library frame.role frames) where
    abbrev pub F : flows.Code
    F = flow_of (plans frame.module_name frame.code) s.code

    abbrev pub A : Assigned
    A = (plans frame.module_name frame.code).assigned

    abbrev es : List FlowEntry
    es = map flow_entry frame.entries

    abbrev pub Does : Action → Type 0
    Does i = slice_get F.actions frame.position ≡ Some i

    abbrev pub Comes : ℕ → Stack → Type 0
    Comes q stack = Good F A (flow.go q stack es)

    abbrev pub Ok : State → Type 0
    Ok state = FitsBehind facts plans library state

    pub its_meets : Meets F A
    its_meets = meets plans library follows frame.module_name frame.code s.code s.code_is

    pub act : (i : Action) (b : Bool) → Does i → Good F A (flow.act i b frame.position s.stack es)
    act i b a = acts F A (fine (plans frame.module_name frame.code) s.code) its_meets i b frame.position s.stack es s.planned a

    pub goes : (q : ℕ) (slots : List Slot) (stack : Stack) (w1 : PlainWorld) → ShowsAllIn facts slots stack → Comes q stack → Ok (go q slots frame.entries frame frames w1)
    goes q slots stack w1 r g = λ covers. lands facts plans library frame s.code s.code_is s.locals frames below q slots frame.entries stack w1 r s.kept g

    -- other locals, as many
    pub stores : (locals : Locals) (slots : List Slot) (stack : Stack) (w1 : PlainWorld) → length locals ≡ length frame.locals → ShowsAllIn facts slots stack → Comes (suc frame.position) stack → Ok (machine.with_locals library place paid frame frames w locals slots w1)
    stores locals slots stack w1 e r g = λ covers. lands facts plans library (record frame { locals = locals }) s.code s.code_is (e ∙ s.locals) frames below (suc frame.position) slots frame.entries stack w1 r s.kept g

    pub nexts : (slots : List Slot) (stack : Stack) (w1 : PlainWorld) → ShowsAllIn facts slots stack → Comes (suc frame.position) stack → Ok (machine.next library place paid frame frames w slots w1)
    nexts slots stack w1 r g = goes (suc frame.position) slots stack w1 r g

    pub fails : (f : Fails) → ThrowsKnown facts f → Ok (fail f frame frames)
    fails f known = fails_fit facts plans library follows f known frame frames s below

    pub faults : (w1 : PlainWorld) (fault : Fault) → Ok (fail (fault_at place w1 fault) frame frames)
    faults w1 fault = fails (fault_at place w1 fault) (fault_known facts place w1 fault)

    paying : {A : Type 0} (b : Bool) (effect : Effect A) (behind : A → PlainWorld → State) → ((a : A) (w1 : PlainWorld) → effects.given place effect ≡ Gives a w1 → Ok (behind a w1)) → Ok (machine.paying library place paid frame frames w b effect behind)
    paying true effect behind k = λ covers. (s, below)
    paying false effect behind k = given_fits facts plans library follows (effects.given place effect) (given_known facts place effect) frame frames behind s below k

    pub does : {A : Type 0} (effect : Effect A) (behind : A → PlainWorld → State) → ((a : A) (w1 : PlainWorld) → effects.given place effect ≡ Gives a w1 → Ok (behind a w1)) → Ok (machine.does library place paid frame frames w effect behind)
    does effect behind k = paying (nat_lt paid effect.visits) effect behind k

    pub gives : (slots : List Slot) (stack : Stack) (effect : Effect Val) → ShowsAllIn facts slots stack → Comes (suc frame.position) (flow.Value ∷ stack) → Ok (machine.gives library place paid frame frames w slots effect)
    gives slots stack effect r g = does effect _ (λ v w1 e. nexts (Value v ∷ slots) (flow.Value ∷ stack) w1 (more value r) g)

    pub puts : (slots : List Slot) (stack : Stack) (effect : Effect Val) → ShowsAllIn facts slots stack → Comes (suc frame.position) stack → Ok (machine.puts library place paid frame frames w slots effect)
    puts slots stack effect r g = does effect _ (λ v w1 e. nexts slots stack w1 r g)

    pub either : (b : Bool) (x y : State) → Ok x → Ok y → Ok (if b then x else y)
    either true x y p q = p
    either false x y p q = q

    -- instructions that go on
    pub straight : (ws : List Want) (gs : List Give) → Does (Straight ws gs) → (all_wanted ws s.stack ≡ true) × Comes (suc frame.position) (given gs (length ws) s.stack)
    straight ws gs a = straight_on F A (fine (plans frame.module_name frame.code) s.code) its_meets ws gs frame.position s.stack es s.planned a

    pub branch : (ws : List Want) (gs there : List Give) (to : ℕ) → Does (Branch ws gs there to)
        → (all_wanted ws s.stack ≡ true) × Comes (suc frame.position) (given gs (length ws) s.stack) × Comes to (given there (length ws) s.stack)
    branch ws gs there to a = branch_on F A (fine (plans frame.module_name frame.code) s.code) its_meets ws gs there to frame.position s.stack es s.planned a

    -- a value that is new
    pub push : (v : Val) → Does (Straight [] (New kinds.Value ∷ [])) → Ok (machine.next library place paid frame frames w (Value v ∷ frame.slots) w)
    push v a = nexts (Value v ∷ frame.slots) (flow.Value ∷ s.stack) w (more value s.shows) (straight [] (New kinds.Value ∷ []) a).1

    pub pushes : (effect : Effect Val) → Does (Straight [] (New kinds.Value ∷ [])) → Ok (machine.gives library place paid frame frames w frame.slots effect)
    pushes effect a = gives frame.slots s.stack effect s.shows (straight [] (New kinds.Value ∷ []) a).1

    -- values that are taken
    pub pop : (gs : List Give) (Q : List Slot → State) → Does (Straight (wants.Value ∷ []) gs)
        → ((v : Val) (t : flow.Slot) (rest : List Slot) (stack : Stack) → ShowsIn facts (Value v) t → ShowsAllIn facts rest stack → Comes (suc frame.position) (given gs 1 (t ∷ stack)) → Ok (Q (Value v ∷ rest))) → Ok (Q frame.slots)
    pop gs Q a k =
        let g = straight (wants.Value ∷ []) gs a in
        one_value [] (λ st ss. Comes (suc frame.position) (given gs 1 ss) → Ok (Q st)) (λ v t rest stack h r x c. k v t rest stack h r c) frame.slots s.stack s.shows g.0 g.1

    pub pop_two : (gs : List Give) (Q : List Slot → State) → Does (Straight (wants.Value ∷ wants.Value ∷ []) gs)
        → ((u v : Val) (t1 t2 : flow.Slot) (rest : List Slot) (stack : Stack) → ShowsIn facts (Value u) t1 → ShowsIn facts (Value v) t2 → ShowsAllIn facts rest stack → Comes (suc frame.position) (given gs 2 (t1 ∷ t2 ∷ stack)) → Ok (Q (Value u ∷ Value v ∷ rest)))
        → Ok (Q frame.slots)
    pop_two gs Q a k =
        let g = straight (wants.Value ∷ wants.Value ∷ []) gs a in
        two_values [] (λ st ss. Comes (suc frame.position) (given gs 2 ss) → Ok (Q st)) (λ u v t1 t2 rest stack h1 h2 r x c. k u v t1 t2 rest stack h1 h2 r c) frame.slots s.stack s.shows g.0 g.1

    pub pop_branch : (gs there : List Give) (to : ℕ) (Q : List Slot → State) → Does (Branch (wants.Value ∷ []) gs there to)
        → ((v : Val) (t : flow.Slot) (rest : List Slot) (stack : Stack) → ShowsIn facts (Value v) t → ShowsAllIn facts rest stack → Comes (suc frame.position) (given gs 1 (t ∷ stack)) → Comes to (given there 1 (t ∷ stack)) → Ok (Q (Value v ∷ rest))) → Ok (Q frame.slots)
    pop_branch gs there to Q a k =
        let g = branch (wants.Value ∷ []) gs there to a in
        one_value [] (λ st ss. Comes (suc frame.position) (given gs 1 ss) → Comes to (given there 1 ss) → Ok (Q st)) (λ v t rest stack h r x c d. k v t rest stack h r c d) frame.slots s.stack s.shows g.0 g.1 g.2

    -- calls: the slots below what a call takes
    pub record Calls (rest : List Slot) (stack : Stack) : Type 0 where
      pub shows : ShowsAllIn facts rest stack
      pub comes : Comes (suc frame.position) (flow.Value ∷ stack)
      pub waits : WaitsIn facts plans library (record frame { slots = rest })

    enters : (rest : List Slot) (stack : Stack) (f : Function) (code : Code) (slots : Locals) (b : Bool) (w1 : PlainWorld) → Calls rest stack → code_at library f.module_name f.code ≡ Some code → length slots ≤ code.locals
        → Ok (machine.entered library place paid frame frames w rest f code slots b w1)
    enters rest stack f code slots true w1 c e le = λ covers. (new_stands f.module_name f.code code slots f.names Called e le, (c.waits, below))
    enters rest stack f code slots false w1 c e le = faults w1 TooDeep

    runs_code : (rest : List Slot) (stack : Stack) (f : Function) (o : Option Code) (args : List Val) (keys : Keys) → Calls rest stack → code_at library f.module_name f.code ≡ o → Ok (machine.run_code library place paid frame frames w rest f o args keys)
    runs_code rest stack f None args keys c e = nexts (Value Nil ∷ rest) (flow.Value ∷ stack) w (more value c.shows) c.comes
    runs_code rest stack f (Some code) args keys c e =
        let v = verified plans library follows f.module_name f.code code e in
        does (bind w code.params code.given f.defaults args keys) _ (λ slots w1 q.
        enters rest stack f code slots (has_depth frames) w1 c e (let n = bind_count place w w1 code.params code.given f.defaults args keys slots q in let le = v.3.params in omega (arith, n, le)))

    pub runs : (rest : List Slot) (stack : Stack) (callee : Callee) (args : List Val) (keys : Keys) → Calls rest stack → Ok (machine.run_callee library place paid frame frames w rest callee args keys)
    runs rest stack (Acts act) args keys c = gives rest stack (act args keys) c.shows c.comes
    runs rest stack (Runs f) args keys c = runs_code rest stack f (code_at library f.module_name f.code) args keys c refl
