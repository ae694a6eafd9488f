-- A step keeps what fits, and so does a run.
use Rattle.std.proofs.Common.{◌≡◌, ℕ, zero, suc, ◌<◌, List, [], ◌∷◌, length, length-drop, map, drop, Option, Some, None, refl, sym, ap, ◌∙◌, subst, arith}
use Rattle.std.specs.Prelude.{codes}
use Rattle.bc_machine.specs.mpy_base.Val.{Val, Int, PlainWorld}
use Rattle.bc_machine.specs.bc_ops.declared.instr.Op.TheVariants as ops
use Rattle.bc_machine.specs.bc_ops.declared.instr.Instr.{Instr}
use Rattle.bc_machine.specs.bc_ops.declared.instr.Instr.TheVariants as instrs
use Rattle.bc_flow.specs.bc_shapes.declared.kinds.Kind.TheVariants as kinds
use Rattle.bc_flow.specs.bc_shapes.declared.kinds.Give.TheVariants.{New}
use Rattle.bc_flow.specs.Action.{Action, op_action, instr_action}
use Rattle.bc_machine.specs.py_effects.Effect.{on_heap, Place, Given, Gives, Throws, Fills, given}
use Rattle.bc_machine.specs.py_effects.Modules.{Made, make_module}
use Rattle.bc_machine.specs.Library.{Name, Item, Plain, Names, Loads, Jumps, Unwinds, Line, Code, Module, Holds, Refused, Entry, Library, entry_in, module_in, code_at}
use Rattle.bc_machine.specs.State.{Value, Main, Frame, State, Running, Halted, Stuck}
use Rattle.bc_machine.specs.Operations.{unary_at, operator_at}
use Rattle.bc_machine.specs.Step as machine
use Rattle.bc_machine.specs.Step.{run_line, line_at, run_frame, step}
use Rattle.bc_machine.specs.Machine.{steps, opened, start, begun}
use Rattle.std.proofs.lemmas.List.{length-map}
use Rattle.bc_progress.specs.Slots.{Facts, anything, flow_entry}
use Rattle.bc_progress.specs.Plans.{Plan, action_of, flow_of, IsKnown, MakesChild, IsVerifiedModule, Plans, Follows, AreVerified, IsVerifiedLibrary}
use Rattle.bc_progress.specs.Fits.{StandsIn, WaitsIn, IsWithin, BelowIn, FitsIn, Fits}
use Rattle.bc_progress.proofs.Flowing.{stands, roomy}
use Rattle.bc_progress.specs.Known.{objects_of}
use Rattle.bc_progress.proofs.Showing.{shows-length}
use Rattle.bc_progress.proofs.Knowing.{FitsBehind, all_covered}
use Rattle.bc_progress.proofs.Items.{fine, line_of}
use Rattle.bc_progress.proofs.Operators.{unary_is, operator_is}
use Rattle.bc_progress.proofs.Frames.{verified, meets}
use Rattle.bc_progress.proofs.Steps.{Does, get_there, code_is_there, new_stands, gives, push, pop, pop_two}
use Rattle.bc_progress.proofs.Instructions.{M, name_fits, number_fits}
use Rattle.bc_progress.proofs.Plains.{plain_fits, jump_fits, unwind_fits}

module _ (facts : Facts) (plans : Plans) (library : Library) (follows : Follows plans library) (place : Place) (paid : ℕ) (frame : Frame) (frames : List Frame) (w : PlainWorld) (s : StandsIn facts plans library frame) (below : BelowIn facts plans library frame.role frames) where
  abbrev D : Action → Type 0
  D i = Does facts plans library follows place paid frame frames w s below i

  abbrev P : State → Type 0
  P state = FitsBehind facts plans library state

  unary_fits : (n : ℕ) → n < 4 → D (instr_action (instrs.Unary n)) → P (machine.one_step library place paid frame frames w frame.slots (unary_at n))
  unfolding instr_action
  unary_fits n lt a =
      let o = unary_is n lt in
      subst (λ z. P (machine.one_step library place paid frame frames w frame.slots z)) (sym o.1)
      (pop facts plans library follows place paid frame frames w s below (New kinds.Value ∷ []) (λ st. machine.one_step library place paid frame frames w st (Some o.0)) a
      (λ v t rest stack h r c. gives facts plans library follows place paid frame frames w s below rest stack (on_heap w (o.0 w.heap v)) r c))

  binary_fits : (n : ℕ) → IsKnown (Plain (instrs.Binary n)) → D (instr_action (instrs.Binary n)) → P (machine.two_step library place paid frame frames w frame.slots (operator_at n))
  unfolding instr_action
  binary_fits n k a =
      let o = operator_is n k.0 k.1 in
      subst (λ z. P (machine.two_step library place paid frame frames w frame.slots z)) (sym o.1)
      (pop_two facts plans library follows place paid frame frames w s below (New kinds.Value ∷ []) (λ st. machine.two_step library place paid frame frames w st (Some o.0)) a
      (λ v u t1 t2 rest stack h1 h2 r c. gives facts plans library follows place paid frame frames w s below rest stack (on_heap w (o.0 w.heap u v)) r c))

  instr_fits : (instr : Instr) → IsKnown (Plain instr) → MakesChild (M facts plans library follows place paid frame frames w s below) s.code.children (Plain instr) → D (instr_action instr) → P (machine.instr_step library place paid frame frames w instr frame.slots)
  unfolding instr_action
  instr_fits (instrs.Plain op) k m a = plain_fits facts plans library follows place paid frame frames w s below op k a
  instr_fits (instrs.Num op n) k m a = number_fits facts plans library follows place paid frame frames w s below op n k m a
  instr_fits (instrs.Int z) k m a = push facts plans library follows place paid frame frames w s below (Int z) a
  instr_fits (instrs.Unary n) k m a = unary_fits n k a
  instr_fits (instrs.Binary n) k m a = binary_fits n k a
  instr_fits (instrs.Name op n) k m a = absurd k
  instr_fits (instrs.Jump op offset wide) k m a = absurd k
  instr_fits (instrs.Unwind offset wide byte) k m a = absurd k

  loads_fits : (v : Val) → D (op_action ops.LoadConstObj 0) → P (machine.next library place paid frame frames w (Value v ∷ frame.slots) w)
  unfolding op_action
  loads_fits v a = push facts plans library follows place paid frame frames w s below v a

  pub item_fits : (item : Item) → IsKnown item → MakesChild (M facts plans library follows place paid frame frames w s below) s.code.children item → D (action_of item) → P (machine.item_step library place paid frame frames w item)
  item_fits (Plain instr) k m a = instr_fits instr k m a
  item_fits (Names op name) k m a = name_fits facts plans library follows place paid frame frames w s below op name k a
  item_fits (Loads v) k m a = loads_fits v a
  item_fits (Jumps op to) k m a = jump_fits facts plans library follows place paid frame frames w s below op to k.0 k.1 a
  item_fits (Unwinds to byte) k m a = unwind_fits facts plans library follows place paid frame frames w s below to byte a

module _ (facts : Facts) (plans : Plans) (library : Library) (follows : Follows plans library) where
  frame_fits : (paid : ℕ) (frame : Frame) (frames : List Frame) (w : PlainWorld) → StandsIn facts plans library frame → BelowIn facts plans library frame.role frames → FitsBehind facts plans library (run_frame library paid frame frames w)
  frame_fits paid frame frames w s below =
      let plan = plans frame.module_name frame.code in
      let v = verified plans library follows frame.module_name frame.code s.code s.code_is in
      let i = stands (flow_of plan s.code) plan.assigned (fine plan s.code) (meets plans library follows frame.module_name frame.code s.code s.code_is) frame.position s.stack _ s.planned in
      let l = line_of s.code.lines frame.position i.0 i.1 in
      let place : Place = record { file = v.0.file; line = l.0.line; name = s.code.name } in
      let done = item_fits facts plans library follows place paid frame frames w s below l.0.item (v.3.known frame.position l.0 l.1) (v.3.children frame.position l.0 l.1) (i.1 ∙ ap Some (sym l.2)) in
      subst (λ (o : Option Entry). FitsBehind facts plans library (run_line library paid frame frames w (module_in o) (code_at library frame.module_name frame.code) (line_at (code_at library frame.module_name frame.code) frame.position))) (sym v.1)
      (subst (λ (o : Option Code). FitsBehind facts plans library (run_line library paid frame frames w (Some v.0) o (line_at o frame.position))) (sym s.code_is)
      (subst (λ (o : Option Line). FitsBehind facts plans library (run_line library paid frame frames w (Some v.0) (Some s.code) o)) (sym l.1) done))

  pub step_fits : (state : State) → FitsIn facts plans library state → FitsBehind facts plans library (step library state)
  step_fits (Running paid frame frames w) f = frame_fits paid frame frames w f.0 f.1
  step_fits (Halted end w) f = λ covers. tt
  step_fits (Stuck w) f = absurd f

  pub start_fits : (name : Name) (m : Module) (w : PlainWorld) → entry_in library name ≡ Some (Holds m) → FitsIn facts plans library (start library name w)
  start_fits name m w e = by (given (record { file = []; line = 0; name = [] }) (make_module w (codes "__main__")))
    where
      by : (g : Given Made) → FitsIn facts plans library (opened library name g)
      by (Throws x w1) = tt
      by (Fills x w1) = tt
      by (Gives made w1) =
          let c = get_there m.codes 0 (follows name m e).begins in
          let is = code_is_there library name m 0 e ∙ c.1 in
          subst (λ (o : Option Code). FitsIn facts plans library (begun name o made w1)) (sym is) (new_stands facts plans library follows name 0 c.0 [] made.names Main is (omega arith), tt)

  -- slots and entries are within their rooms
  pub stands_room : (frame : Frame) (s : StandsIn facts plans library frame) → IsWithin (plans frame.module_name frame.code) s.code frame
  stands_room frame s =
      let plan = plans frame.module_name frame.code in
      let r = roomy (flow_of plan s.code) plan.assigned (fine plan s.code) (meets plans library follows frame.module_name frame.code s.code s.code_is) frame.position s.stack (map flow_entry frame.entries) s.planned in
      let n = shows-length frame.slots s.stack s.shows in
      let m = length-map frame.entries flow_entry in
      record { slots = omega (arith, r.0, n); entries = omega (arith, r.1, m) }

  pub waits_room : (frame : Frame) (s : WaitsIn facts plans library frame) → IsWithin (plans frame.module_name frame.code) s.code frame
  waits_room frame s =
      let plan = plans frame.module_name frame.code in
      let r = roomy (flow_of plan s.code) plan.assigned (fine plan s.code) (meets plans library follows frame.module_name frame.code s.code s.code_is) frame.position s.stack (map flow_entry frame.entries) s.planned in
      let n = shows-length frame.slots (drop (length s.wants) s.stack) s.shows in
      let d = length-drop (length s.wants) s.stack in
      let m = length-map frame.entries flow_entry in
      record { slots = omega (arith, r.0, n, d); entries = omega (arith, r.1, m) }

-- whatever exceptions and methods there are
pub steps_fit : (plans : Plans) (library : Library) (follows : Follows plans library) (n : ℕ) (state : State) → Fits plans library state → Fits plans library (steps library n state)
steps_fit plans library follows zero state f = f
steps_fit plans library follows (suc n) state f = steps_fit plans library follows n (step library state) (step_fits anything plans library follows state f (all_covered (objects_of (step library state))))

-- a plan for each module that is verified gives one for the library
module _ (library : Library) (each : AreVerified library) where
  plan_in : (name : Name) (o : Option Entry) → entry_in library name ≡ o → ℕ → Plan
  plan_in name None e number = record { n_state = 0; n_exc = 0; assigned = λ p. None }
  plan_in name (Some Refused) e number = record { n_state = 0; n_exc = 0; assigned = λ p. None }
  plan_in name (Some (Holds m)) e number = (each name m e).0 number

  held_is : (m n : Module) → (let a : Option Entry = Some (Holds m) in let b : Option Entry = Some (Holds n) in a ≡ b) → m ≡ n
  held_is m n e = cc

  follows_in : (name : Name) (o : Option Entry) (e : entry_in library name ≡ o) (m : Module) → o ≡ Some (Holds m) → IsVerifiedModule (plan_in name o e) m
  unfolding plan_in
  follows_in name None e m q = cc
  follows_in name (Some Refused) e m q = cc
  follows_in name (Some (Holds n)) e m q = subst (IsVerifiedModule (λ number. (each name n e).0 number)) (held_is n m q) (each name n e).1

  pub library_verified : IsVerifiedLibrary library
  library_verified = ((λ name number. plan_in name (entry_in library name) refl number), (λ name m e. follows_in name (entry_in library name) refl m e))

pub never : (plans : Plans) (library : Library) (state : State) (w : PlainWorld) → Fits plans library state → state ≡ Stuck w → ⊥
never plans library state w f e = subst (Fits plans library) e f
