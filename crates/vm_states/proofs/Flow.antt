-- What the flow of a code says of a frame that stands in it.
use Rattle.std.proofs.Common.{◌≡◌, ℕ, suc, ◌+◌, ◌-◌, ◌<◌, ◌≤◌, List, map, drop, length, Bool, true, false, not, ◌||◌, Some, sym, ◌∙◌, subst, arith, length-append, length-drop}
use Rattle.std.specs.Prelude.{slice_get, nat_lt}
use Rattle.std.proofs.lemmas.Bool.{ltb-true, false≢true}
use Rattle.std.proofs.lemmas.List.{length-map}
use Rattle.frame_exits.specs.bc_shapes.declared.kinds.Want.{Want}
use Rattle.frame_exits.specs.bc_shapes.declared.kinds.Give.{Give}
use Rattle.frame_exits.specs.bc_shapes.declared.shape.Entry.{Entry as FlowEntry}
use Rattle.bc_progress.specs.bc_flow.Action.{Action, Straight, Branch}
use Rattle.bc_progress.specs.bc_flow.Code as flows
use Rattle.bc_progress.specs.bc_flow.Edges.{asks, change, falls, stays}
use Rattle.bc_progress.specs.bc_flow.Verified.{Assigned, Holds as Meets}
use Rattle.bc_progress.specs.bc_flow.Machine as flow
use Rattle.bc_progress.specs.bc_flow.Machine.{Stack, St, Run, all_wanted, given, give_slot}
use Rattle.bc_progress.proofs.bc_flow_lemmas.Never.{Good}
use Rattle.bc_progress.proofs.bc_flow_lemmas.Going.{Here, asks_part}
use Rattle.bc_progress.specs.bc_machine.Library.{Code, Library}
use Rattle.bc_progress.specs.bc_machine.State.{Frame}
use Rattle.bc_progress.specs.Slots.{flow_entry}
use Rattle.bc_progress.specs.Plans.{flow_of, Plans, Follows}
use Rattle.bc_progress.specs.Fits.{Stands}
use Rattle.bc_progress.proofs.Flowing.{acts, straight_on, branch_on, raises, roomy, stands}
use Rattle.bc_progress.proofs.Frames.{meets}
use Rattle.bc_progress.proofs.Items.{fine}
use Rattle.bc_progress.proofs.Showing.{shows-length}

pub length-given : (gs : List Give) (n : ℕ) (st : Stack) → length (given gs n st) ≡ length st - n + length gs
length-given gs n st =
    let a = length-append (map (give_slot st) gs) (drop n st) in
    let b = length-map gs (give_slot st) in
    let c = length-drop n st in
    omega (arith, a, b, c)

stays_on : (code : flows.Code) (i : Action) (p : ℕ) → falls i ≡ true → stays code i p ≡ true → suc p < length code.actions
unfolding stays
stays_on code i p f e = ltb-true _ _ (by (falls i) f e)
  where
    by : (b : Bool) → b ≡ true → (not b || nat_lt (suc p) (length code.actions)) ≡ true → nat_lt (suc p) (length code.actions) ≡ true
    by true f e = e
    by false f e = absurd (false≢true f)

some_is : {A : Type 0} (x y : A) → Some x ≡ Some y → x ≡ y
some_is x y e = cc

module _ (plans : Plans) (library : Library) (follows : Follows plans library) (frame : Frame) (s : Stands plans library frame) where
  abbrev pub F : flows.Code
  F = flow_of (plans frame.module_name frame.code) s.code

  abbrev pub A : Assigned
  A = (plans frame.module_name frame.code).assigned

  abbrev pub es : List FlowEntry
  es = map flow_entry frame.entries

  abbrev pub G : St → Type 0
  G st = Good F A st

  abbrev pub Does : Action → Type 0
  Does i = slice_get F.actions frame.position ≡ Some i

  pub its_meets : Meets F A
  its_meets = meets plans library follows frame.module_name frame.code s.code s.code_is

  pub act : (i : Action) (b : Bool) → Does i → G (flow.act i b frame.position s.stack es)
  act i b a = acts F A (fine (plans frame.module_name frame.code) s.code) its_meets i b frame.position s.stack es s.planned a

  pub straight : (ws : List Want) (gs : List Give) → Does (Straight ws gs) → (all_wanted ws s.stack ≡ true) × G (flow.go (suc frame.position) (given gs (length ws) s.stack) es)
  straight ws gs a = straight_on F A (fine (plans frame.module_name frame.code) s.code) its_meets ws gs frame.position s.stack es s.planned a

  pub branch : (ws : List Want) (gs there : List Give) (to : ℕ) → Does (Branch ws gs there to)
      → (all_wanted ws s.stack ≡ true) × G (flow.go (suc frame.position) (given gs (length ws) s.stack) es) × G (flow.go to (given there (length ws) s.stack) es)
  branch ws gs there to a = branch_on F A (fine (plans frame.module_name frame.code) s.code) its_meets ws gs there to frame.position s.stack es s.planned a

  -- room at a state that the flow comes to
  pub room_at : (p : ℕ) (st : Stack) (entries : List FlowEntry) → G (Run p st entries) → (F.locals + length st ≤ F.n_state) × (length entries ≤ F.n_exc)
  room_at p st entries g = roomy F A (fine (plans frame.module_name frame.code) s.code) its_meets p st entries g

  abbrev pub Room : ℕ → ℕ → Type 0
  Room taken put = s.code.locals + (length frame.slots - taken + put) ≤ (plans frame.module_name frame.code).n_state

  given_room : (ws : List Want) (gs : List Give) (p : ℕ) (entries : List FlowEntry) → G (Run p (given gs (length ws) s.stack) entries) → Room (length ws) (length gs)
  given_room ws gs p entries g =
      let r = (room_at p (given gs (length ws) s.stack) entries g).0 in
      let n = shows-length frame.slots s.stack s.shows in
      let k = length-given gs (length ws) s.stack in
      omega (arith, r, n, k)

  pub straight_room : (ws : List Want) (gs : List Give) → Does (Straight ws gs) → Room (length ws) (length gs)
  straight_room ws gs a = given_room ws gs (suc frame.position) (map (flow.remark (suc frame.position)) es) (straight ws gs a).1

  pub branch_room : (ws : List Want) (gs there : List Give) (to : ℕ) → Does (Branch ws gs there to) → Room (length ws) (length gs)
  branch_room ws gs there to a = given_room ws gs (suc frame.position) (map (flow.remark (suc frame.position)) es) (branch ws gs there to a).1

  -- what the rules say of the running instruction
  pub here : (i : Action) → Does i → Here F A i frame.position s.planned.runs.at.slots es s.planned.runs.bound s.stack
  here i a =
      let r = s.planned.runs in
      let f = its_meets.closed frame.position r.at r.is in
      let is : f.action ≡ i = some_is f.action i (sym f.is ∙ a) in
      let first : Here F A f.action frame.position r.at.slots r.at.entries r.bound s.stack = record {
        handlers = f.handlers;
        height = f.height;
        falls_on = f.falls;
        along = f.along;
        stands = r.slots;
        fits_in = subst (λ z. Rattle.bc_progress.proofs.bc_flow_lemmas.Sound.Fits z (length s.stack)) (sym r.entries) r.fits;
        sound = subst (λ z. Rattle.bc_progress.proofs.bc_flow_lemmas.Sound.Sound A r.bound z s.stack) (sym r.entries) r.sound;
      } in
      subst (λ z. Here F A z frame.position r.at.slots es r.bound s.stack) is
      (subst (λ z. Here F A f.action frame.position r.at.slots z r.bound s.stack) r.entries first)

  -- an instruction that the flow leaves to the next one isn't the last
  pub falls_on : (i : Action) → Does i → falls i ≡ true → suc frame.position < length s.code.lines
  falls_on i a f =
      let lt = stays_on F i frame.position f (here i a).falls_on in
      let n = length-map s.code.lines (λ (l : Rattle.bc_progress.specs.bc_machine.Library.Line). Rattle.bc_progress.specs.Plans.action_of l.item) in
      omega (arith, lt, n)

  pub asked : (i : Action) → Does i → asks (change i) es ≡ true
  asked i a = asks_part F A i frame.position s.planned.runs.at.slots es s.planned.runs.bound s.stack (here i a)

  pub there : (i : Action) × Does i
  there = stands F A (fine (plans frame.module_name frame.code) s.code) its_meets frame.position s.stack es s.planned

  -- a raise from a state that the flow comes to
  pub raising : (p : ℕ) (st : Stack) (entries : List FlowEntry) → G (Run p st entries) → G (flow.throw entries st)
  raising p st entries g =
      let i = stands F A (fine (plans frame.module_name frame.code) s.code) its_meets p st entries g in
      raises F A (fine (plans frame.module_name frame.code) s.code) its_meets i.0 p st entries g i.1
