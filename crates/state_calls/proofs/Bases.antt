-- Children of the running code, and the codes of functions, in a program of a library.
use Rattle.std.proofs.Common.{◌≡◌, ℕ, ◌<◌, List, [], ◌∷◌, length, map, Option, Some, None, All, refl, sym, ap, ap₂, subst, ◌∙◌, arith, position, option_map}
use Rattle.std.specs.Prelude.{Bool, true, false, slice_get, option_and_then}
use Rattle.std.specs.List.{list_any}
use Rattle.std.specs.Str.{bytes_eq}
use Rattle.std.proofs.lemmas.Option.{same_Some, slice_get_within, slice_get-map}
use Rattle.std.proofs.lemmas.List.{length-map}
use Rattle.std.proofs.lemmas.List.Elements.{All-head}
use Rattle.vm_states.specs.mpy_base.World.{Objects}
use Rattle.frame_calls.specs.arena_heap.declared.value.Value.{Value}
use Rattle.frame_calls.specs.arena_heap.declared.value.StrNo.{StrNo}
use Rattle.frame_calls.specs.arena_heap.declared.value.StrNo.TheVariants as strs
use Rattle.frame_calls.specs.arena_objects.Iterables.{or_nothing}
use Rattle.vm_states.specs.mpy_tree.qstr_pool.Pool.{Texts}
use Rattle.vm_states.proofs.mpy_tree_lemmas.qstr_pool_lemmas.Places.{found}
use Rattle.vm_states.specs.bc_library.declared.fault.Member.TheVariants as members
use Rattle.vm_states.specs.bc_library.Constants.{items_at, text_at}
use Rattle.vm_states.specs.bc_library.Shelf.{Shelf, Named, names, member_by, member_of}
use Rattle.vm_states.specs.bc_library.Texts.{text_numbered}
use Rattle.frame_calls.specs.bc_labels.Positions.{CodeList, Listed, Starts}
use Rattle.frame_calls.proofs.bc_labels_lemmas.Order.{each}
use Rattle.frame_calls.proofs.bc_labels_lemmas.Pieces.{one, within}
use Rattle.frame_calls.specs.bc_machine.Library.{Name, Code, Line, Entry, module_in, code_in, code_at}
use Rattle.vm_states.specs.bc_progress.Plans.{Plan, flow_of, action_of}
use Rattle.vm_states.proofs.bc_progress_lemmas.Frames.{meets}
use Rattle.vm_states.proofs.bc_progress_lemmas.Steps.{get_there}
use Rattle.vm_states.specs.bc_rows.declared.row.Row.{Row}
use Rattle.vm_states.specs.bc_rows.Codes.{code_numbered}
use Rattle.vm_states.specs.bc_rows.Rows.{IsRow}
use Rattle.frame_calls.specs.prim_walks.Plain.{plain_name}
use Rattle.frame_calls.specs.prim_calls.declared.callees.Function.{Function}
use Rattle.vm_states.specs.vm_frames.Calls.{Call, Calls, OfRunning}
use Rattle.vm_states.specs.vm_frames.Views.{frame_of}
use Rattle.vm_states.specs.frame_moves.Shown.{text_of, view_of}
use Rattle.vm_states.specs.Finds.{HasChild}
use Rattle.vm_states.specs.frame_exits.declared.names.ModuleName.{ModuleName}
use Rattle.frame_calls.specs.declared.binding.FunctionCode.{FunctionCode}
use Rattle.frame_calls.specs.declared.making.Child.{Child}
use Rattle.frame_calls.specs.Children.{IsChild}
use Rattle.frame_calls.specs.Entering.{IsCodeOf}
use Rattle.vm_states.specs.vm_fetching.declared.instruction.Fetched.{Fetched}
use Rattle.vm_states.specs.Means.{Program, Means}
use Rattle.vm_states.specs.Ready.{IsReady}
use Rattle.vm_states.specs.Running.{IsOfModule, IsRunning}
use Rattle.vm_states.specs.State.{IsKnownCall, IsState}
use Rattle.state_calls.specs.Children.{HasChildIn, IsChildIn}
use Rattle.state_calls.specs.Codes.{module_of_name, LacksCode}
use Rattle.state_calls.specs.Names.{AreNames}
use Rattle.state_calls.proofs.Places.{Laws, here, row_there, code_absent, running, runs_as}

module _ (p : Program) (means : Means p) where
  -- the text of a number
  pub text_is : (number : ℕ) → plain_name p.tables.texts p.tables.tuples number ≡ or_nothing (text_numbered p.shelf.pool number)
  text_is number = ap (λ (t : StrNo → Option (List ℕ)). or_nothing (t (strs.Pool number))) means.constants.texts

  name_is : (number : ℕ) → plain_name p.tables.texts p.tables.tuples number ≡ plain_name (text_at p.shelf) (items_at p.shelf) number
  name_is number = text_is number

  module _ (laws : Laws) (names : List ModuleName) (are : AreNames p.shelf names) (c : Call) (inside : c.module_number < length p.shelf.modules) (code : Code)
      (code_is : code_at p.library (p.tables.module_name c.module_number) c.code ≡ Some code) (n : ℕ) where
    -- the child that the running code has, by its row
    pub child_there : (plan : Plan) → HasChild plan p.library code (frame_of (view_of p.tables) c) n → HasChildIn p.shelf names c.module_number c.code n
    child_there plan h = record {
      there = row_there p means c.module_number inside laws c.code code code_is;
      child = λ row is.
          let r = runs_as p means c.module_number inside laws c.code row code is code_is in
          (h.number, subst (λ (z : List ℕ). slice_get z n ≡ Some h.number) (sym r.children) h.number_is, row_there p means c.module_number inside laws h.number h.child h.child_is);
      within = let many = are.many in omega (arith, many, inside);
    }

    pub child_is : (child : Child) → IsChildIn p.shelf names c.module_number c.code n child → IsChild p.tables p.library n child c
    child_is child is =
        let i = c.module_number in
        let r = runs_as p means i inside laws c.code is.parent code is.parent_is code_is in
        let own = running p means i inside laws child.code is.row is.row_is in
        let at = here p means i inside in
        record {
          parent = code;
          code = own.code;
          runs = code_is;
          numbered = subst (λ (z : List ℕ). slice_get z n ≡ Some child.code) r.children is.numbered;
          there = own.code_is;
          module_is = at.meant.name_is ∙ (sym (are.named i is.number at.n is.number_is at.is) ∙ (sym (name_is is.number.name) ∙ ap (plain_name p.tables.texts p.tables.tuples) (sym is.module_is)));
          name_is = sym (ap (plain_name p.tables.texts p.tables.tuples) is.name_is ∙ (text_is is.row.name ∙ ap or_nothing own.runs.name));
          given_is = sym (is.given_is ∙ own.runs.given);
        }

-- the child that the running code has, in the library
module _ (laws : Laws) (p : Program) (row : Row) (means : Means p) (s : Calls) (fetched : Fetched) (run : IsRunning p s) (r : IsReady p s row fetched) (shelf : Shelf) (shelf_is : p.shelf ≡ shelf) (names : List ModuleName) (are : AreNames shelf names)
    (n i k : ℕ) (i_is : i ≡ r.first.module_number) (k_is : k ≡ r.first.code) where
  inside : r.first.module_number < length p.shelf.modules
  inside = All-head (IsOfModule p) r.first r.others (subst (All (IsOfModule p)) r.are run.of_modules)

  its_names : AreNames p.shelf names
  its_names = subst (λ (z : Shelf). AreNames z names) (sym shelf_is) are

  pub child_found : (plan : Plan) → HasChild plan p.library r.code (frame_of (view_of p.tables) r.first) n → HasChildIn shelf names i k n
  child_found plan h =
      subst (λ (z : ℕ). HasChildIn shelf names z k n) (sym i_is) (subst (λ (z : ℕ). HasChildIn shelf names r.first.module_number z n) (sym k_is)
      (subst (λ (z : Shelf). HasChildIn z names r.first.module_number r.first.code n) shelf_is (child_there p means laws names its_names r.first inside r.code r.code_is n plan h)))

  pub child_stands : (child : Child) → IsChildIn shelf names i k n child → OfRunning (IsChild p.tables p.library n child) s.calls
  child_stands child h =
      let own = subst (λ (z : Shelf). IsChildIn z names r.first.module_number r.first.code n child) (sym shelf_is)
      (subst (λ (z : ℕ). IsChildIn shelf names r.first.module_number z n child) k_is (subst (λ (z : ℕ). IsChildIn shelf names z k n child) i_is h)) in
      subst (OfRunning (IsChild p.tables p.library n child)) (sym r.are) (child_is p means laws names its_names r.first inside r.code r.code_is n child own)

pub of_running : (P : Call → Type 0) (calls : List Call) (c : Call) (cs : List Call) → calls ≡ c ∷ cs → P c → OfRunning P calls
of_running P calls c cs are h = subst (OfRunning P) (sym are) h

pub first_known : (p : Program) (objects : Objects Value ℕ) (s : Calls) (c : Call) (cs : List Call) → s.calls ≡ c ∷ cs → IsState p objects s → IsKnownCall p objects c
first_known p objects s c cs are state = All-head (IsKnownCall p objects) c cs (subst (All (IsKnownCall p objects)) are state.known)

-- functions
-- =========

told_texts : (pool : Texts) (numbers : List ℕ) (texts : List Name) → map (text_numbered pool) numbers ≡ map Some texts → map (λ n. or_nothing (text_numbered pool n)) numbers ≡ texts
told_texts pool [] [] e = refl
told_texts pool [] (text ∷ texts) e = cc
told_texts pool (n ∷ numbers) [] e = cc
told_texts pool (n ∷ numbers) (text ∷ texts) e =
    let first : text_numbered pool n ≡ Some text = cc in
    let others : map (text_numbered pool) numbers ≡ map Some texts = cc in
    ap₂ (λ a b. a ∷ b) (ap or_nothing first) (told_texts pool numbers texts others)

-- the module of a name
pub record IsAt (p : Program) (i : ℕ) (name : Name) : Type 0 where
  pub inside : i < length p.shelf.modules
  pub name_is : (n : Named) → slice_get p.shelf.modules i ≡ Some n → n.name ≡ name

pub named_at : (p : Program) (name : Name) (i : ℕ) → position (bytes_eq name) (names p.shelf) ≡ Some i → IsAt p i name
named_at p name i e =
    let text = found (names p.shelf) name i e in
    let few = slice_get_within (names p.shelf) i name text in
    let many : length (names p.shelf) ≡ length p.shelf.modules = length-map p.shelf.modules (λ (n : Named). n.name) in
    record {
      inside = omega (arith, few, many);
      name_is = λ n is. same_Some n.name name (sym (slice_get-map (λ (z : Named). z.name) p.shelf.modules i ∙ ap (option_map (λ (z : Named). z.name)) is) ∙ text);
    }

-- a code of the machine has an instruction
lines_there : (p : Program) → Means p → (name : Name) (k : ℕ) (code : Code) → code_at p.library name k ≡ Some code → 0 < length code.lines
lines_there p means name k code e =
    let plan : Plan = p.plans name k in
    let m = meets p.plans p.library means.follows name k code e in
    let f = m.closed 0 m.start.at m.start.is in
    let few = slice_get_within (flow_of plan code).actions 0 f.action f.is in
    let many : length (flow_of plan code).actions ≡ length code.lines = length-map code.lines (λ (l : Line). action_of l.item) in
    omega (arith, few, many)

bytes_there : (bytes : List ℕ) (l : CodeList) → Listed bytes l → 0 < length l.items → 0 < length bytes
bytes_there bytes l listed some =
    let many = each bytes l listed in
    let o = get_there l.offsets 0 (omega (arith, some, many)) in
    let first : Starts l.offsets o.0 = subst (λ (z : ℕ). slice_get l.offsets z ≡ Some o.0) (sym (one bytes l 0 o.0 listed o.1)) o.1 in
    let few = within bytes l o.0 listed first in
    omega (arith, few)

module _ (p : Program) (means : Means p) (laws : Laws) (f : Function) where
  named_here : module_of_name p.shelf f.module_name ≡ position (bytes_eq (plain_name p.tables.texts p.tables.tuples f.module_name)) (names p.shelf)
  named_here = ap (λ (name : Name). position (bytes_eq name) (names p.shelf)) (sym (name_is p means f.module_name))

  module _ (i : ℕ) (named : module_of_name p.shelf f.module_name ≡ Some i) where
    pub at : IsAt p i (plain_name p.tables.texts p.tables.tuples f.module_name)
    at = named_at p (plain_name p.tables.texts p.tables.tuples f.module_name) i (sym named_here ∙ named)

    module_is : p.tables.module_name i ≡ plain_name p.tables.texts p.tables.tuples f.module_name
    module_is = let h = here p means i at.inside in h.meant.name_is ∙ at.name_is h.n h.is

    -- the function's code is the one of the row
    pub code_is : (row : Row) → IsRow p.shelf i f.code row → (code : FunctionCode) → code.params.now ≡ row.params → code.given ≡ row.given → code.locals ≡ row.locals → IsCodeOf p.tables p.library f i code
    code_is row is code params given locals =
        let r = running p means i at.inside laws f.code row is in
        let l = is.is_row.list in
        let lines = lines_there p means (p.tables.module_name i) f.code r.code r.code_is in
        let many = r.runs.as_many l is.is_row.listed in
        record {
          found = r.code;
          there = subst (λ (name : Name). code_at p.library name f.code ≡ Some r.code) module_is r.code_is;
          module_is = module_is;
          params = ap (λ (ns : List ℕ). map (λ (n : ℕ). text_of p.tables (strs.Pool n)) ns) params
              ∙ (ap (λ (t : StrNo → Option (List ℕ)). map (λ (n : ℕ). or_nothing (t (strs.Pool n))) row.params) means.constants.texts
              ∙ told_texts p.shelf.pool row.params r.code.params r.runs.params);
          given = given ∙ r.runs.given;
          locals = locals ∙ r.runs.locals;
          bytes = row.instructions.now;
          list = l;
          listed = is.is_row.listed;
          starts_are = (here p means i at.inside).meant.starts_are f.code row l is is.is_row.listed;
          some = bytes_there row.instructions.now l is.is_row.listed (omega (arith, lines, many));
        }

    code_missing : code_numbered p.shelf i f.code ≡ None → code_at p.library (plain_name p.tables.texts p.tables.tuples f.module_name) f.code ≡ None
    code_missing e = subst (λ (name : Name). code_at p.library name f.code ≡ None) module_is (code_absent p means i at.inside laws f.code e)

  -- a name that leads to no module has no code
  nameless : (name : Name) (b : Bool) → position (bytes_eq name) (names p.shelf) ≡ None → list_any (bytes_eq name) p.shelf.refused ≡ b → code_at p.library name f.code ≡ None
  nameless name true e r =
      let member : member_of p.shelf name ≡ Some members.Refused = ap₂ member_by e r in
      ap (λ (o : Option Entry). code_in (module_in o) f.code) (means.refused name member)
  nameless name false e r =
      let member : member_of p.shelf name ≡ None = ap₂ member_by e r in
      ap (λ (o : Option Entry). code_in (module_in o) f.code) (means.others name member)

  -- the library lacks the function's code, and so does the machine's
  pub code_lacks : LacksCode p.shelf f → code_at p.library (plain_name p.tables.texts p.tables.tuples f.module_name) f.code ≡ None
  code_lacks lacks = by (module_of_name p.shelf f.module_name) refl lacks
    where
      by : (o : Option ℕ) → module_of_name p.shelf f.module_name ≡ o → option_and_then (λ i. code_numbered p.shelf i f.code) o ≡ None
          → code_at p.library (plain_name p.tables.texts p.tables.tuples f.module_name) f.code ≡ None
      by None e h = nameless (plain_name p.tables.texts p.tables.tuples f.module_name) (list_any (bytes_eq (plain_name p.tables.texts p.tables.tuples f.module_name)) p.shelf.refused) (sym named_here ∙ e) refl
      by (Some i) e h = code_missing i e h
