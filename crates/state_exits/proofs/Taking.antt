-- A call that waits goes on behind its instruction, which is fetched again.
use Rattle.std.proofs.Common.{◌≡◌, ℕ, zero, suc, ◌<◌, List, [], ◌∷◌, length, map, Option, Some, All, refl, sym, ap, subst, ◌∙◌, arith}
use Rattle.std.specs.Prelude.{IsSome, slice_get, option_and_then}
use Rattle.std.proofs.lemmas.Option.{none-some, same_Some}
use Rattle.std.proofs.lemmas.List.Elements.{All-head}
use Rattle.vm_states.specs.mpy_base.Val.{PlainWorld}
use Rattle.vm_states.specs.mpy_tree.File.{IsModule}
use Rattle.vm_states.specs.mpy_tree.Raw as raw
use Rattle.vm_states.specs.mpy_tree.Resolved.{ResolvedModule, Resolves}
use Rattle.vm_states.specs.mpy_tree.Codes.{codes_of}
use Rattle.vm_states.specs.bc_labels.Positions.{CodeList, Listed, Starts, position_in}
use Rattle.vm_states.specs.bc_library.Shelf.{Shelf, Named, module_at}
use Rattle.vm_states.specs.bc_machine.Library.{Code, Line, Module, Holds, Library, entry_in, module_in, code_in, module_of}
use Rattle.vm_states.specs.bc_machine.State as states
use Rattle.vm_states.specs.bc_machine.State.{Frame, remark}
use Rattle.vm_states.specs.bc_progress.Plans.{Plans, Follows}
use Rattle.vm_states.specs.bc_progress.Fits.{Stands, IsWithin, Fits}
use Rattle.vm_states.specs.bc_rows.declared.row.Row.{Row}
use Rattle.vm_states.specs.bc_rows.Codes.{code_numbered}
use Rattle.vm_states.specs.bc_rows.Rows.{IsRow}
use Rattle.vm_states.specs.bc_rows.Runs.{RunsAs}
use Rattle.prim_faults.specs.arena_heap.declared.value.Value.{Value}
use Rattle.vm_states.specs.vm_frames.Calls.{Call, Calls, OfRunning}
use Rattle.vm_states.specs.vm_frames.Placed.{IsPlaced}
use Rattle.vm_states.specs.vm_frames.Views.{starts_of, position_of, frame_of}
use Rattle.vm_states.specs.frame_moves.Shown.{Tables, IsNext, value_of, view_of}
use Rattle.vm_states.specs.frame_exits.Left.{receiving_of}
use Rattle.vm_states.specs.vm_fetching.declared.instruction.Fetched.{Fetched}
use Rattle.vm_states.specs.vm_fetching.Fetches.{IsVerifiedRow, Fetches}
use Rattle.vm_states.specs.Means.{Program, IsMeant, Means}
use Rattle.vm_states.specs.Ready.{IsFetched}
use Rattle.vm_states.specs.Running.{IsOfModule}
use Rattle.state_exits.specs.Waiting.{IsWaiting}

at_least : {A : Type 0} (xs : List A) (i : ℕ) → i < length xs → (x : A) × (slice_get xs i ≡ Some x)
at_least [] i h = absurd (omega (arith, h))
at_least (x ∷ xs) zero h = (x, refl)
at_least (x ∷ xs) (suc i) h = at_least xs i (omega (arith, h))

below : {A : Type 0} (xs : List A) (i : ℕ) (x : A) → slice_get xs i ≡ Some x → i < length xs
below [] i x e = absurd (none-some x e)
below (y ∷ ys) zero x e = omega arith
below (y ∷ ys) (suc i) x e = let h = below ys i x e in omega (arith, h)

-- some call waits
pub record First (p : Program) (v : Value) (s : Calls) : Type 0 where
  pub first : Call
  pub others : List Call
  pub are : s.calls ≡ first ∷ others

first_by : (p : Program) (v : Value) (cs : List Call) (w : PlainWorld) → Fits p.plans p.library (receiving_of p.tables v cs w) → (c : Call) × (others : List Call) × (cs ≡ c ∷ others)
first_by p v [] w h = absurd h
first_by p v (c ∷ cs) w h = (c, cs, refl)

pub first_of : (p : Program) (v : Value) (s : Calls) → IsWaiting p v s → First p v s
first_of p v s h = let f = first_by p v s.calls h.world h.fits in record { first = f.0; others = f.1; are = f.2 }

pub some_waits : (p : Program) (v : Value) (s : Calls) → IsWaiting p v s → 0 < length s.calls
some_waits p v s h = let n = ap (λ (z : List Call). length z) (first_of p v s h).are in omega (arith, n)

module _ (p : Program) (means : Means p) (v : Value) (s : Calls) (h : IsWaiting p v s) where
  abbrev f : First p v s
  f = first_of p v s h

  abbrev c : Call
  c = f.first

  abbrev cs : List Call
  cs = f.others

  -- the frame as it goes on
  abbrev frame : Frame
  frame =
      let g = frame_of (view_of p.tables) c in
      record g { position = suc g.position; slots = states.Value (value_of p.tables v) ∷ g.slots; entries = map (remark (suc g.position)) g.entries }

  stands : Stands p.plans p.library frame
  stands = let k : Fits p.plans p.library (receiving_of p.tables v (c ∷ cs) h.world) = subst (λ (z : List Call). Fits p.plans p.library (receiving_of p.tables v z h.world)) f.are h.fits in k.0

  of_module : c.module_number < length p.shelf.modules
  of_module = All-head (IsOfModule p) c cs (subst (All (IsOfModule p)) f.are h.of_modules)

  placed : IsPlaced (view_of p.tables) c
  placed = All-head (IsPlaced (view_of p.tables)) c cs (subst (All (IsPlaced (view_of p.tables))) f.are h.placed)

  -- the call's module, and its code in it
  record Of : Type 0 where
    pub n : Named
    pub meant : IsMeant p c.module_number n
    pub there : module_at p.shelf c.module_number ≡ Some n.held
    pub code_there : slice_get (module_of meant.tree).codes c.code ≡ Some stands.code

  of : Of
  of =
      let n = at_least p.shelf.modules c.module_number of_module in
      let meant = means.modules c.module_number n.0 n.1 in
      let held : entry_in p.library (p.tables.module_name c.module_number) ≡ Some (Holds (module_of meant.tree)) = ap (entry_in p.library) meant.name_is ∙ meant.held in
      let machine_there : module_in (entry_in p.library (p.tables.module_name c.module_number)) ≡ Some (module_of meant.tree) = ap module_in held in
      record {
        n = n.0;
        meant = meant;
        there = ap (λ (o : Option Named). option_and_then (λ (m : Named). Some m.held) o) n.1;
        code_there = sym (ap (λ (o : Option Module). code_in o c.code) machine_there) ∙ stands.code_is;
      }

  pub row_there : ((m : raw.Module) (tree : ResolvedModule) → IsModule m → Resolves m tree → length (module_of tree).codes ≡ length (codes_of m)) → IsSome (code_numbered p.shelf c.module_number c.code)
  row_there as_many =
      let count = as_many of.n.held of.meant.tree of.meant.is_module of.meant.resolves in
      let few = below (module_of of.meant.tree).codes c.code stands.code of.code_there in
      let found = at_least (codes_of of.n.held) c.code (subst (λ k. c.code < k) count few) in
      let is : code_numbered p.shelf c.module_number c.code ≡ Some found.0 = ap (λ (o : Option raw.Module). option_and_then (λ (m : raw.Module). slice_get (codes_of m) c.code) o) of.there ∙ found.1 in
      subst IsSome (sym is) refl

  -- room for the value
  pub room : ((plans : Plans) (library : Library) (g : Frame) → Follows plans library → (k : Stands plans library g) → IsWithin (plans g.module_name g.code) k.code g)
      → ((t : Tables) (d : Call) → length (frame_of (view_of t) d).slots ≡ length d.slots) → OfRunning (λ d. length d.slots < s.slot_room) s.calls
  room rooms count =
      let within = rooms p.plans p.library frame means.follows stands in
      let slots = within.slots in
      let same = count p.tables c in
      let planned = h.rooms.slots (p.tables.module_name c.module_number) c.code stands.code stands.code_is in
      subst (OfRunning (λ d. length d.slots < s.slot_room)) (sym f.are) (omega (arith, slots, same, planned))

  module _ (row : Row) (is : IsRow p.shelf c.module_number c.code row) where
    pub verified_row : IsVerifiedRow p.shelf c.module_number row
    verified_row = record { m = of.n.held; there = of.there; is_module = of.meant.is_module; is_verified = of.meant.is_verified; number = c.code; is_row = is }

    abbrev L : CodeList
    L = is.is_row.list

    starts_are : p.tables.starts c.module_number c.code ≡ L.offsets
    starts_are = of.meant.starts_are c.code row L is is.is_row.listed

    here : Starts L.offsets c.at
    here = subst (λ (o : List ℕ). Starts o c.at) (sym placed.starts_are ∙ starts_are) placed.here

    pub starts_at : (l : CodeList) × Listed row.instructions.now l × Starts l.offsets c.at
    starts_at = (L, is.is_row.listed, here)

    module _ (fetched : Fetched) (fetches : IsFetched p.shelf c.module_number row c.at fetched)
        (runs : (shelf : Shelf) (i k : ℕ) (m : raw.Module) (tree : ResolvedModule) (r : Row) → IsModule m → module_at shelf i ≡ Some m
        → Resolves m tree → IsRow shelf i k r → (code : Code) × (slice_get (module_of tree).codes k ≡ Some code) × RunsAs shelf m r code) where
      here_fetched : Fetches p.shelf p.tables row L stands.code c.at fetched
      here_fetched =
          let found = runs p.shelf c.module_number c.code of.n.held of.meant.tree row of.meant.is_module of.there of.meant.resolves is in
          let same : found.0 ≡ stands.code = same_Some found.0 stands.code (sym found.1 ∙ of.code_there) in
          fetches p.tables of.n.held stands.code L means.constants of.there (subst (RunsAs p.shelf of.n.held row) same found.2) is.is_row.listed here

      -- the next instruction starts where it ends
      pub next_is : ((names : Tables) (shelf : Shelf) (r : Row) (l : CodeList) (code : Code) (g : Fetched) (d : Call) (ds : List Call)
          → names.starts d.module_number d.code ≡ l.offsets → Fetches shelf names r l code d.at g → IsNext names g.end (d ∷ ds)) → IsNext p.tables fetched.end s.calls
      next_is law = subst (IsNext p.tables fetched.end) (sym f.are) (law p.tables p.shelf row L stands.code fetched c cs starts_are here_fetched)

      pub begins : ((plans : Plans) (library : Library) (g : Frame) → Follows plans library → (k : Stands plans library g) → (line : Line) × (slice_get k.code.lines g.position ≡ Some line))
          → OfRunning (λ d. Starts (starts_of (view_of p.tables) d) fetched.end) s.calls
      begins there =
          let line = there p.plans p.library frame means.follows stands in
          let less : suc (position_of (view_of p.tables) c) < length stands.code.lines = below stands.code.lines (suc (position_of (view_of p.tables) c)) line.0 line.1 in
          let starts : Starts L.offsets fetched.end = here_fetched.begins (subst (λ (o : List ℕ). suc (position_in o c.at) < length stands.code.lines) starts_are less) in
          subst (OfRunning (λ d. Starts (starts_of (view_of p.tables) d) fetched.end)) (sym f.are) (subst (λ (o : List ℕ). Starts o fetched.end) (sym starts_are) starts)
