-- What is fetched at a call that runs is ready.
use Rattle.std.proofs.Common.{◌≡◌, ℕ, zero, suc, ◌<◌, List, [], ◌∷◌, length, Option, Some, All, refl, sym, ap, subst, ◌∙◌, arith}
use Rattle.std.specs.Prelude.{IsSome, slice_get, option_and_then}
use Rattle.std.proofs.lemmas.List.Elements.{All-head}
use Rattle.frame_exits.specs.mpy_base.Val.{PlainWorld}
use Rattle.vm_fetching.specs.mpy_tree.File.{IsModule}
use Rattle.vm_fetching.specs.mpy_tree.Raw as raw
use Rattle.vm_fetching.specs.mpy_tree.Resolved.{ResolvedModule, Resolves}
use Rattle.vm_fetching.specs.mpy_tree.Codes.{codes_of}
use Rattle.frame_exits.specs.bc_prelude.Lines as lines
use Rattle.frame_exits.specs.bc_labels.Positions.{CodeList, Listed, Starts, position_in}
use Rattle.frame_exits.proofs.bc_labels_lemmas.Order.{each}
use Rattle.frame_exits.specs.bc_library.Shelf.{Shelf, Named, module_at}
use Rattle.frame_exits.specs.bc_library.Texts.{text_numbered}
use Rattle.bc_progress.specs.py_effects.Effect.{Place}
use Rattle.bc_progress.specs.bc_machine.Library.{Code, Line, Module, Holds, Library, entry_in, module_in, code_in, module_of}
use Rattle.bc_progress.specs.bc_machine.State.{Frame}
use Rattle.bc_progress.specs.bc_machine.Step.{step}
use Rattle.bc_progress.specs.Plans.{Plans, Follows}
use Rattle.bc_progress.specs.Fits.{Stands, IsWithin}
use Rattle.vm_fetching.specs.bc_rows.declared.row.Row.{Row}
use Rattle.vm_fetching.specs.bc_rows.Codes.{code_numbered}
use Rattle.vm_fetching.specs.bc_rows.Rows.{IsRow}
use Rattle.vm_fetching.specs.bc_rows.Runs.{RunsAs}
use Rattle.frame_exits.specs.vm_frames.Calls.{Call, Calls}
use Rattle.frame_exits.specs.vm_frames.Placed.{IsPlaced}
use Rattle.frame_exits.specs.vm_frames.Views.{frame_of}
use Rattle.vm_fetching.specs.frame_moves.Shown.{Tables, IsNext, view_of, running_of, step_of}
use Rattle.vm_fetching.specs.declared.instruction.Fetched.{Fetched}
use Rattle.vm_fetching.specs.Fetches.{IsVerifiedRow, Fetches}
use Rattle.vm_fetching.specs.Shows.{item_of_fetched, TargetStarts, LocalIsWithin}
use Rattle.vm_states.specs.Finds.{Finds, GoesOn}
use Rattle.vm_states.specs.Means.{Program, IsMeant, Means}
use Rattle.vm_states.specs.Ready.{IsFetched, item_at, IsReady}
use Rattle.vm_states.specs.Running.{FitCalls, IsOfModule, IsRunning}

at_least : {A : Type 0} (xs : List A) (i : ℕ) → i < length xs → (x : A) × (slice_get xs i ≡ Some x)
at_least [] i h = absurd (omega (arith, h))
at_least (x ∷ xs) zero h = (x, refl)
at_least (x ∷ xs) (suc i) h = at_least xs i (omega (arith, h))

below : {A : Type 0} (xs : List A) (i : ℕ) (x : A) → slice_get xs i ≡ Some x → i < length xs
below [] i x e = cc
below (y ∷ xs) zero x e = omega arith
below (y ∷ xs) (suc i) x e = let h = below xs i x e in omega (arith, h)

some_is : {A : Type 0} (x y : A) → Some x ≡ Some y → x ≡ y
some_is x y e = cc

module _ (p : Program) (s : Calls) (c : Call) (cs : List Call) (means : Means p) (run : IsRunning p s) (are : s.calls ≡ c ∷ cs) where
  abbrev frame : Frame
  frame = frame_of (view_of p.tables) c

  stands : Stands p.plans p.library frame
  stands = let h : FitCalls p (c ∷ cs) = subst (FitCalls p) are run.fits in h.0

  of_module : c.module_number < length p.shelf.modules
  of_module = All-head (IsOfModule p) c cs (subst (All (IsOfModule p)) are run.of_modules)

  placed : IsPlaced (view_of p.tables) c
  placed = All-head (IsPlaced (view_of p.tables)) c cs (subst (All (IsPlaced (view_of p.tables))) are run.placed)

  -- the call's module, and its code in it
  record Of : Type 0 where
    pub n : Named
    pub meant : IsMeant p c.module_number n
    pub there : module_at p.shelf c.module_number ≡ Some n.held
    pub machine_there : module_in (entry_in p.library (p.tables.module_name c.module_number)) ≡ Some (module_of meant.tree)
    pub code_there : slice_get (module_of meant.tree).codes c.code ≡ Some stands.code

  of : Of
  of =
      let n = at_least p.shelf.modules c.module_number of_module in
      let meant = means.modules c.module_number n.0 n.1 in
      let held : entry_in p.library (p.tables.module_name c.module_number) ≡ Some (Holds (module_of meant.tree)) = ap (entry_in p.library) meant.name_is ∙ meant.held in
      let machine_there = ap module_in held in
      let code_there : slice_get (module_of meant.tree).codes c.code ≡ Some stands.code = sym (ap (λ (o : Option Module). code_in o c.code) machine_there) ∙ stands.code_is in
      record {
        n = n.0;
        meant = meant;
        there = ap (λ (o : Option Named). option_and_then (λ (m : Named). Some m.held) o) n.1;
        machine_there = machine_there;
        code_there = code_there;
      }

  pub verified_row : (row : Row) → IsRow p.shelf c.module_number c.code row → IsVerifiedRow p.shelf c.module_number row
  verified_row row is = record { m = of.n.held; there = of.there; is_module = of.meant.is_module; is_verified = of.meant.is_verified; number = c.code; is_row = is }

  starts_are : (row : Row) (is : IsRow p.shelf c.module_number c.code row) → p.tables.starts c.module_number c.code ≡ is.is_row.list.offsets
  starts_are row is = of.meant.starts_are c.code row is.is_row.list is is.is_row.listed

  here : (row : Row) (is : IsRow p.shelf c.module_number c.code row) → Starts is.is_row.list.offsets c.at
  here row is = subst (λ (o : List ℕ). Starts o c.at) (sym placed.starts_are ∙ starts_are row is) placed.here

  pub starts_at : (row : Row) → IsRow p.shelf c.module_number c.code row → (l : CodeList) × Listed row.instructions.now l × Starts l.offsets c.at
  starts_at row is = (is.is_row.list, is.is_row.listed, here row is)

  module _ (as_many : (m : raw.Module) (tree : ResolvedModule) → IsModule m → Resolves m tree → length (module_of tree).codes ≡ length (codes_of m)) where
    pub row_there : IsSome (code_numbered p.shelf c.module_number c.code)
    row_there =
        let count = as_many of.n.held of.meant.tree of.meant.is_module of.meant.resolves in
        let few = below (module_of of.meant.tree).codes c.code stands.code of.code_there in
        let found = at_least (codes_of of.n.held) c.code (subst (λ k. c.code < k) count few) in
        let is : code_numbered p.shelf c.module_number c.code ≡ Some found.0 = ap (λ (o : Option raw.Module). option_and_then (λ (m : raw.Module). slice_get (codes_of m) c.code) o) of.there ∙ found.1 in
        subst IsSome (sym is) refl

  module _ (row : Row) (is : IsRow p.shelf c.module_number c.code row) (fetched : Fetched) (fetches : IsFetched p.shelf c.module_number row c.at fetched) where
    abbrev S : List ℕ
    S = p.tables.starts c.module_number c.code

    abbrev L : CodeList
    L = is.is_row.list

    abbrev line_with : List ℕ → Line
    line_with starts = record { item = item_of_fetched p.tables starts fetched.instruction; line = lines.line_of row.line_table.now c.at }

    back : (P : List ℕ → Type 0) → P L.offsets → P S
    back P h = subst P (sym (starts_are row is)) h

    module _ (runs_as : RunsAs p.shelf of.n.held row stands.code) where
      f : Fetches p.shelf p.tables row L stands.code c.at fetched
      f = fetches p.tables of.n.held stands.code L means.constants of.there runs_as is.is_row.listed (here row is)

      line_is : slice_get stands.code.lines frame.position ≡ Some (line_with S)
      line_is = back (λ (o : List ℕ). slice_get stands.code.lines (position_in o c.at) ≡ Some (line_with o)) f.line

-- the laws that are used
pub record Laws : Type 0 where
  pub runs : (shelf : Shelf) (i k : ℕ) (m : raw.Module) (tree : ResolvedModule) (row : Row) → IsModule m → module_at shelf i ≡ Some m
      → Resolves m tree → IsRow shelf i k row → (code : Code) × (slice_get (module_of tree).codes k ≡ Some code) × RunsAs shelf m row code
  pub file : (shelf : Shelf) (i k : ℕ) (m : raw.Module) (tree : ResolvedModule) (row : Row) → module_at shelf i ≡ Some m
      → Resolves m tree → IsRow shelf i k row → text_numbered shelf.pool row.source ≡ Some (module_of tree).file
  pub finds : (plans : Plans) (library : Library) (frame : Frame) (line : Line) → Follows plans library → (s : Stands plans library frame)
      → slice_get s.code.lines frame.position ≡ Some line → Finds (plans frame.module_name frame.code) library s.code frame line.item
  pub goes_on : (plans : Plans) (library : Library) (frame : Frame) (line : Line) → Follows plans library → (s : Stands plans library frame)
      → slice_get s.code.lines frame.position ≡ Some line → GoesOn line.item → suc frame.position < length s.code.lines
  pub rooms : (plans : Plans) (library : Library) (frame : Frame) → Follows plans library
      → (s : Stands plans library frame) → IsWithin (plans frame.module_name frame.code) s.code frame
  pub step : (names : Tables) (library : Library) (shelf : Shelf) (row : Row) (l : CodeList) (m : Module) (code : Code) (fetched : Fetched) (c : Call) (cs : List Call) (paid : ℕ) (w : PlainWorld)
      → module_in (entry_in library (names.module_name c.module_number)) ≡ Some m → slice_get m.codes c.code ≡ Some code
      → names.starts c.module_number c.code ≡ l.offsets → Fetches shelf names row l code c.at fetched
      → step library (running_of names paid (c ∷ cs) w)
      ≡ step_of names library (record { file = m.file; line = lines.line_of row.line_table.now c.at; name = code.name }) paid (c ∷ cs) w (item_of_fetched names l.offsets fetched.instruction)
  pub next : (names : Tables) (shelf : Shelf) (row : Row) (l : CodeList) (code : Code) (fetched : Fetched) (c : Call) (cs : List Call)
      → names.starts c.module_number c.code ≡ l.offsets → Fetches shelf names row l code c.at fetched → IsNext names fetched.end (c ∷ cs)
  pub slots : (t : Tables) (c : Call) → length (frame_of (view_of t) c).slots ≡ length c.slots
  pub entries : (t : Tables) (c : Call) → length (frame_of (view_of t) c).entries ≡ length c.entries
  pub locals : (t : Tables) (c : Call) → length (frame_of (view_of t) c).locals ≡ length c.locals

pub ready : (laws : Laws) (p : Program) (s : Calls) (c : Call) (cs : List Call) (means : Means p) (run : IsRunning p s) (are : s.calls ≡ c ∷ cs)
    (row : Row) (is : IsRow p.shelf c.module_number c.code row) (fetched : Fetched) (fetches : IsFetched p.shelf c.module_number row c.at fetched) → IsReady p s row fetched
ready laws p s c cs means run are row is fetched fetches =
    let here = of p s c cs means run are in
    let there : Stands p.plans p.library (frame_of (view_of p.tables) c) = stands p s c cs means run are in
    let tree = here.meant.tree in
    let machine : Module = module_of tree in
    let found = laws.runs p.shelf c.module_number c.code here.n.held tree row here.meant.is_module here.there here.meant.resolves is in
    let same : found.0 ≡ there.code = some_is found.0 there.code (sym found.1 ∙ here.code_there) in
    let runs_as : RunsAs p.shelf here.n.held row there.code = subst (RunsAs p.shelf here.n.held row) same found.2 in
    let fs = f p s c cs means run are row is fetched fetches runs_as in
    let line = line_is p s c cs means run are row is fetched fetches runs_as in
    let starts : p.tables.starts c.module_number c.code ≡ is.is_row.list.offsets = starts_are p s c cs means run are row is in
    let at : List ℕ = p.tables.starts c.module_number c.code in
    let the_line : Line = record { item = item_of_fetched p.tables at fetched.instruction; line = lines.line_of row.line_table.now c.at } in
    let place : Place = record { file = machine.file; line = lines.line_of row.line_table.now c.at; name = there.code.name } in
    let within : IsWithin (p.plans (p.tables.module_name c.module_number) c.code) there.code (frame_of (view_of p.tables) c) = laws.rooms p.plans p.library (frame_of (view_of p.tables) c) means.follows there in
    let within_slots = within.slots in
    let within_entries = within.entries in
    let slots_are = laws.slots p.tables c in
    let entries_are = laws.entries p.tables c in
    let locals_are : row.locals ≡ length c.locals = runs_as.locals ∙ sym there.locals ∙ laws.locals p.tables c in
    let room = run.rooms.slots (p.tables.module_name c.module_number) c.code there.code there.code_is in
    let entry_room = run.rooms.entries (p.tables.module_name c.module_number) c.code there.code there.code_is in
    record {
      first = c;
      others = cs;
      are = are;
      place = place;
      place_is = record {
        file = laws.file p.shelf c.module_number c.code here.n.held tree row here.there here.meant.resolves is;
        line = refl;
        name = runs_as.name;
      };
      steps = λ paid w.
          subst (λ (z : List Call). step p.library (running_of p.tables paid z w) ≡ step_of p.tables p.library place paid z w (item_at p c fetched)) (sym are)
          (subst (λ (o : List ℕ). step p.library (running_of p.tables paid (c ∷ cs) w) ≡ step_of p.tables p.library place paid (c ∷ cs) w (item_of_fetched p.tables o fetched.instruction)) (sym starts)
          (laws.step p.tables p.library p.shelf row is.is_row.list machine there.code fetched c cs paid w here.machine_there here.code_there starts fs));
      next = subst (IsNext p.tables fetched.end) (sym are) (laws.next p.tables p.shelf row is.is_row.list there.code fetched c cs starts fs);
      begins = λ on.
          let more : suc (position_in at c.at) < length there.code.lines = laws.goes_on p.plans p.library (frame_of (view_of p.tables) c) the_line means.follows there line on in
          subst (λ (o : List ℕ). Starts o fetched.end) (sym starts) (fs.begins (subst (λ (o : List ℕ). suc (position_in o c.at) < length there.code.lines) starts more));
      target = subst (λ (o : List ℕ). TargetStarts o fetched.instruction) (sym starts) fs.target;
      code = there.code;
      code_is = there.code_is;
      line = the_line;
      line_is = line;
      item_is = refl;
      as_many = runs_as.as_many is.is_row.list is.is_row.listed ∙ (sym (each row.instructions.now is.is_row.list is.is_row.listed) ∙ ap length (sym starts));
      finds = laws.finds p.plans p.library (frame_of (view_of p.tables) c) the_line means.follows there line;
      local = subst (λ (n : ℕ). LocalIsWithin n fetched.instruction) locals_are fs.local;
      text = fs.text;
      constant = fs.constant;
      slots = omega (arith, within_slots, slots_are, room);
      entries = omega (arith, within_entries, entries_are, entry_room);
    }
