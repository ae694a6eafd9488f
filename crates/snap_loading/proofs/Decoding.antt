-- What a snapshot stands for, as the machine has it, by the snapshot's parts.
use Rattle.std.proofs.Common.{◌≡◌, ℕ, zero, suc, ◌<◌, Bool, true, false, List, [], ◌∷◌, ◌++◌, length, map, drop, reverse, Option, Some, None, slice_get, refl, sym, ap, ap₂, ◌∙◌, subst, arith, All}
use Rattle.std.specs.Prelude.{nat_le, option_and_then, unwrap_or}
use Rattle.std.specs.List.{AllByRecursion as Each}
use Rattle.std.specs.Option.{option_map}
use Rattle.std.proofs.lemmas.List.{length-map, map-append, reverse-reverse}
use Rattle.std.proofs.lemmas.List.Elements.{All-head, All-tail}
use Rattle.mpy_base.specs.declared.builtin.Builtin.TheVariants as builtins
use Rattle.mpy_base.specs.declared.kind.Kind.TheVariants as raised
use Rattle.mpy_base.specs.World.{Object, ListObject, TupleObject, DictObject, FunctionObject, ExceptionObject, MethodObject, ModuleObject, AnException}
use Rattle.mpy_base.specs.Val.{Val, Str, At}
use Rattle.arena_heap.specs.declared.value.Value.{Value}
use Rattle.arena_heap.specs.declared.value.Value.TheVariants as values
use Rattle.arena_heap.specs.declared.value.StrNo.{StrNo}
use Rattle.arena_heap.specs.declared.value.StrNo.TheVariants as strs
use Rattle.arena_heap.specs.declared.value.ExcNo.{ExcNo}
use Rattle.bc_flow.specs.bc_shapes.declared.kinds.Kind.{Kind as SlotKind}
use Rattle.bc_flow.specs.bc_shapes.declared.kinds.Kind.TheVariants as kinds
use Rattle.bc_flow.specs.Machine.{Stack}
use Rattle.bc_labels.specs.Positions.{position_in}
use Rattle.bc_library.specs.mpy_tree.Codes.{Placed}
use Rattle.bc_library.specs.mpy_tree.Raw.{Module}
use Rattle.bc_library.specs.Constants.{text_at}
use Rattle.bc_library.specs.Shelf.{Shelf, Named, names, module_at}
use Rattle.bc_library.specs.Texts.{text_numbered}
use Rattle.bc_machine.specs.Library.{Name, Code, code_at}
use Rattle.bc_machine.specs.State as states
use Rattle.vm_starting.specs.frame_calls.arena_objects.Iterables.{or_nothing}
use Rattle.vm_starting.specs.vm_states.bc_rows.declared.row.Row.{Row}
use Rattle.vm_starting.specs.vm_states.bc_rows.Codes.{code_numbered}
use Rattle.vm_starting.specs.vm_states.bc_rows.Rows.{IsRow}
use Rattle.vm_starting.specs.vm_states.frame_moves.Shown.{view_of}
use Rattle.vm_starting.specs.vm_states.vm_frames.declared.slot.Slot.{Slot}
use Rattle.vm_starting.specs.vm_states.vm_frames.declared.slot.Slot.TheVariants as stacked
use Rattle.vm_starting.specs.vm_states.vm_frames.Views.{View, slot_of, slots_of, locals_of, entry_of, entries_of, frame_of}
use Rattle.vm_starting.specs.vm_states.vm_frames.Views as views
use Rattle.vm_starting.specs.vm_states.Means.{Program, Means}
use Rattle.vm_starting.specs.Codes.{IsCodeOf}
use Rattle.vm_machine.specs.prim_walks.Plain.{plain, plain_pair, plain_name, plain_object}
use Rattle.snap_grammar.specs.declared.parts.ValuePart.{ValuePart}
use Rattle.snap_grammar.specs.declared.parts.ValuePart.TheVariants as parts
use Rattle.snap_grammar.specs.declared.parts.PairPart.{PairPart}
use Rattle.snap_grammar.specs.declared.parts.ObjectPart.{ObjectPart}
use Rattle.snap_grammar.specs.declared.parts.ObjectPart.TheVariants as objects
use Rattle.snap_grammar.specs.declared.parts.SlotPart.{SlotPart}
use Rattle.snap_grammar.specs.declared.parts.SlotPart.TheVariants as slots
use Rattle.snap_grammar.specs.declared.parts.EntryPart.{EntryPart}
use Rattle.snap_grammar.specs.declared.parts.RolePart.{RolePart}
use Rattle.snap_grammar.specs.declared.parts.RolePart.TheVariants as roles
use Rattle.snap_grammar.specs.declared.parts.FramePart.{FramePart}
use Rattle.snap_grammar.specs.declared.parts.Snapshot.{Snapshot}
use Rattle.snap_states.specs.Parts.{cell_of}
use Rattle.snap_states.specs.States.{IsName, IsAt, IsPlain, IsFinePair, IsFineObject, IsFineLocal, IsBound, ShowsParts}
use Rattle.snap_states.specs.Decoded as decoded
use Rattle.snap_states.specs.Decoded.{AreTitles, name_number, module_title, reference, value_of, pair_of, object_of, local_of, handler_of, stack_of, call_of}
use Rattle.snap_loading.specs.Given.{IsLibrary, HasCodeRows}
use Rattle.snap_loading.proofs.Bridging.{get_there}
use Rattle.snap_loading.proofs.Finding.{str_found, name_found}
use Rattle.snap_loading.proofs.Reframing.{is_upper, marks, first, drop_map, filled, vacant, lowest, slots_in, stack_in, local_in, entry_in, role_in, frame_in}
use Rattle.snap_loading.proofs.Registering.{name_known}
use Rattle.snap_loading.proofs.Saming.{title_in, name_in, value_in, pair_in, object_in}
use Rattle.snap_loading.proofs.Valuing.{at_within}

-- what a lower crate says of a code by its row
abbrev pub CodeLaw : Type 0
CodeLaw = (p : Program) (i k : ℕ) (row : Row) → Means p → IsRow p.shelf i k row → IsCodeOf p i k row

slice_map : {A B : Type 0} (f : A → B) (xs : List A) (i : ℕ) (x : A) → slice_get xs i ≡ Some x → slice_get (map f xs) i ≡ Some (f x)
slice_map f [] i x e = absurd cc
slice_map f (y ∷ xs) zero x e = ap (option_map f) e
slice_map f (y ∷ xs) (suc i) x e = slice_map f xs i x e

named_at : (shelf : Shelf) (m : ℕ) (held : Module) → module_at shelf m ≡ Some held → (n : Named) × (slice_get shelf.modules m ≡ Some n)
named_at shelf m held e = by (slice_get shelf.modules m) refl e
  where
    by : (o : Option Named) → slice_get shelf.modules m ≡ o → option_and_then (λ (n : Named). Some n.held) o ≡ Some held → (n : Named) × (slice_get shelf.modules m ≡ Some n)
    by (Some n) f g = (n, f)
    by None f g = absurd cc

module _ (code_law : CodeLaw) (p : Program) (means : Means p) (s : Snapshot) (is : IsLibrary p.shelf) (rows : HasCodeRows p.shelf) where
  abbrev pub seen : ValuePart → Val
  seen v = value_in p.shelf p.library p.tables.texts p.tables.tuples (cell_of s.objects) v

  abbrev part_object : ObjectPart → Object Val (List ℕ)
  part_object o = object_in p.shelf p.library p.tables.texts p.tables.tuples (cell_of s.objects) o

  abbrev own : Value → Val
  own v = plain p.tables.texts p.tables.tuples v

  -- texts
  -- =====

  told : (c : StrNo) (text : List ℕ) → text_at p.shelf c ≡ Some text → or_nothing (p.tables.texts c) ≡ text
  told c text e = ap (λ (t : StrNo → Option (List ℕ)). or_nothing (t c)) means.constants.texts ∙ ap or_nothing e

  pub named : (text : List ℕ) → IsName p.shelf text → plain_name p.tables.texts p.tables.tuples (name_number p.shelf text) ≡ text
  named text h = told (strs.Pool (name_number p.shelf text)) text (name_found p.shelf text h.0 is.first h.1)

  -- values
  -- ======

  leads_to : (o : ObjectPart) (cell : ℕ) → own (reference (Some o) cell) ≡ At cell
  leads_to (objects.List room items) cell = refl
  leads_to (objects.Dict room pairs) cell = refl
  leads_to (objects.Tuple items) cell = refl
  leads_to (objects.Text bytes) cell = refl
  leads_to (objects.Function m code names defaults) cell = refl
  leads_to (objects.Exception kind args file line name) cell = refl
  leads_to (objects.Method o method) cell = refl
  leads_to (objects.Range start stop step) cell = refl
  leads_to (objects.Module name names) cell = refl

  object_value_as : (n : ℕ) → n < length s.objects → own (value_of p.shelf s (parts.Object n)) ≡ At (cell_of s.objects n)
  object_value_as n lt =
      let o = get_there s.objects n lt in
      ap (λ z. own (reference z (cell_of s.objects n))) o.1 ∙ leads_to o.0 (cell_of s.objects n)

  pub value_as : (v : ValuePart) → IsPlain p.shelf s v → own (value_of p.shelf s v) ≡ seen v
  value_as parts.None h = refl
  value_as parts.False h = refl
  value_as parts.True h = refl
  value_as (parts.Int z) h = refl
  value_as (parts.Object n) h = object_value_as n h.there
  value_as (parts.Str text) h = ap (λ z. Str z) (told (decoded.str_of p.shelf text) text (str_found p.shelf text is.first h.0 h.1))
  value_as (parts.Fixed m n) h = refl
  value_as parts.Empty h = refl
  value_as (parts.Named name) h = refl

  values_as : (vs : List ValuePart) → All (IsPlain p.shelf s) vs → map own (map (value_of p.shelf s) vs) ≡ map seen vs
  values_as [] h = refl
  values_as (v ∷ vs) h = ap₂ (λ a b. a ∷ b) (value_as v (All-head (IsPlain p.shelf s) v vs h)) (values_as vs (All-tail (IsPlain p.shelf s) v vs h))

  pairs_as : (qs : List PairPart) → All (IsFinePair p.shelf s) qs
      → map (plain_pair p.tables.texts p.tables.tuples) (map (pair_of p.shelf s) qs) ≡ map (pair_in p.shelf p.library p.tables.texts p.tables.tuples (cell_of s.objects)) qs
  pairs_as [] h = refl
  pairs_as (q ∷ qs) h =
      let f = All-head (IsFinePair p.shelf s) q qs h in
      ap₂ (λ a b. a ∷ b) (ap₂ (λ a b. (a, b)) (value_as q.key f.key) (value_as q.value f.value)) (pairs_as qs (All-tail (IsFinePair p.shelf s) q qs h))

  -- codes
  -- =====

  -- a code of a module by its numbers: the module's name, and the machine's code
  record IsCodeAt (m code : ℕ) : Type 0 where
    module_is : Named
    there : slice_get p.shelf.modules m ≡ Some module_is
    its : Code
    found : code_at p.library module_is.name code ≡ Some its
    titled : (title : ℕ → ℕ → ℕ) → AreTitles p.shelf title → text_numbered p.shelf.pool (title m code) ≡ Some its.name

  code_of : (m code : ℕ) (placed : Placed) → code_numbered p.shelf m code ≡ Some placed → IsCodeAt m code
  code_of m code placed e =
      let row = rows.rows m code placed e in
      let c = code_law p m code row.0 means row.1 in
      let n = named_at p.shelf m c.m c.held in
      record {
        module_is = n.0;
        there = n.1;
        its = c.code;
        found = ap (λ z. code_at p.library z code) (sym (means.modules m n.0 n.1).name_is) ∙ c.there;
        titled = λ title titles. titles m code row.0 row.1 ∙ c.runs.name;
      }

  title_is : (m : ℕ) (n : Named) → slice_get p.shelf.modules m ≡ Some n → title_in p.shelf m ≡ n.name
  title_is m n e = ap (λ z. unwrap_or z []) (slice_map (λ (z : Named). z.name) p.shelf.modules m n e)

  module_as : (m : ℕ) (n : Named) → slice_get p.shelf.modules m ≡ Some n → plain_name p.tables.texts p.tables.tuples (module_title p.shelf m) ≡ n.name
  module_as m n e =
      ap (λ z. plain_name p.tables.texts p.tables.tuples (unwrap_or (option_map (λ (q : Named). name_number p.shelf q.name) z) 0)) e ∙ named n.name (is.titled m n e)

  -- objects
  -- =======

  function_as : (title : ℕ → ℕ → ℕ) → AreTitles p.shelf title → (m code names : ℕ) (defaults : ValuePart) (placed : Placed) → code_numbered p.shelf m code ≡ Some placed → IsPlain p.shelf s defaults
      → plain_object p.tables.texts p.tables.tuples (Some (object_of p.shelf s title (objects.Function m code names defaults))) ≡ Some (part_object (objects.Function m code names defaults))
  function_as title titles m code names defaults placed there plain_is =
      let c = code_of m code placed there in
      let t = title_is m c.module_is c.there in
      let module_same : plain_name p.tables.texts p.tables.tuples (module_title p.shelf m) ≡ title_in p.shelf m = module_as m c.module_is c.there ∙ sym t in
      let code_same : plain_name p.tables.texts p.tables.tuples (title m code) ≡ name_in (code_at p.library (title_in p.shelf m) code) =
      told (strs.Pool (title m code)) c.its.name (c.titled title titles) ∙ sym (ap (λ z. name_in (code_at p.library z code)) t ∙ ap name_in c.found) in
      ap₂ (λ a b. Some (FunctionObject a b code (cell_of s.objects names) (own (value_of p.shelf s defaults)))) code_same module_same
      ∙ ap (λ z. Some (FunctionObject (name_in (code_at p.library (title_in p.shelf m) code)) (title_in p.shelf m) code (cell_of s.objects names) z)) (value_as defaults plain_is)

  pub object_as : (title : ℕ → ℕ → ℕ) → AreTitles p.shelf title → (n : ℕ) (o : ObjectPart) → IsFineObject p.shelf s n o
      → plain_object p.tables.texts p.tables.tuples (Some (object_of p.shelf s title o)) ≡ Some (part_object o)
  object_as title titles n (objects.List room items) h = ap (λ z. Some (ListObject z room)) (values_as items h.1)
  object_as title titles n (objects.Dict room pairs) h = ap (λ z. Some (DictObject z room)) (pairs_as pairs h.fine)
  object_as title titles n (objects.Tuple items) h = ap (λ z. Some (TupleObject z)) (values_as items h.1)
  object_as title titles n (objects.Text bytes) h = refl
  object_as title titles n (objects.Function m code names defaults) h = function_as title titles m code names defaults h.has.placed h.has.there h.plain
  object_as title titles n (objects.Exception kind args file line name) h =
      ap (λ z. Some (ExceptionObject (unwrap_or (decoded.kind_called kind) raised.Exception) z (plain_name p.tables.texts p.tables.tuples (name_number p.shelf file)) line (plain_name p.tables.texts p.tables.tuples (name_number p.shelf name)))) (value_as args h.plain)
      ∙ ap₂ (λ a b. Some (ExceptionObject (unwrap_or (decoded.kind_called kind) raised.Exception) (seen args) a line b)) (named file h.file_is) (named name h.name_is)
  object_as title titles n (objects.Method v method) h = ap (λ z. Some (MethodObject z (unwrap_or (decoded.builtin_called method) builtins.Print))) (value_as v h.plain)
  object_as title titles n (objects.Range start stop step) h = refl
  object_as title titles n (objects.Module name names) h = ap (λ z. Some (ModuleObject z (Some (cell_of s.objects names)))) (named name (name_known p.shelf is name h.known))

  -- frames
  -- ======

  abbrev view : View
  view = view_of p.tables

  -- the value of a part is seen as it is
  abbrev Same : ValuePart → Type 0
  Same v = own (value_of p.shelf s v) ≡ seen v

  abbrev Seen : SlotPart → Type 0
  Seen (slots.Value v) = Same v
  Seen slots.Empty = Unit {0}
  Seen (slots.Iterator over place) = Same over
  Seen (slots.Left count over place) = Same over
  Seen (slots.Return v) = Same v
  Seen (slots.Jump target entries iterator) = Unit {0}

  seen_parts : (offsets : List ℕ) (ps : List SlotPart) (st : Stack) → ShowsParts p.shelf s offsets ps st → Each Seen ps
  seen_parts offsets ps st ShowsParts.none = tt
  seen_parts offsets ps st (ShowsParts.value {v = v} {ps = qs} {st = su} h r) = (value_as v h, seen_parts offsets qs su r)
  seen_parts offsets ps st (ShowsParts.nothing {ps = qs} {st = su} r) = (refl, seen_parts offsets qs su r)
  seen_parts offsets ps st (ShowsParts.exception {n = n} {ps = qs} {st = su} e r) = (object_value_as n (at_within s AnException n e), seen_parts offsets qs su r)
  seen_parts offsets ps st (ShowsParts.null {ps = qs} {st = su} r) = (tt, seen_parts offsets qs su r)
  seen_parts offsets ps st (ShowsParts.bound {v = v} {name = name} {ps = qs} {st = su} b r) = (value_as v b.plain, (refl, seen_parts offsets qs su r))
  seen_parts offsets ps st (ShowsParts.free {v = v} {ps = qs} {st = su} h r) = (tt, (value_as v h, seen_parts offsets qs su r))
  seen_parts offsets ps st (ShowsParts.kept_return {v = v} {ps = qs} {st = su} h r) = (value_as v h, seen_parts offsets qs su r)
  seen_parts offsets ps st (ShowsParts.kept_jump {ps = qs} {st = su} e r) = (tt, seen_parts offsets qs su r)
  seen_parts offsets ps st (ShowsParts.whole {over = v} {ps = qs} {st = su} h r) = (value_as v h.0, seen_parts offsets qs su r)
  seen_parts offsets ps st (ShowsParts.three {over = v} {ps = qs} {st = su} h r) = (value_as v h.0, seen_parts offsets qs su r)
  seen_parts offsets ps st (ShowsParts.two {over = v} {ps = qs} {st = su} h r) = (value_as v h.0, seen_parts offsets qs su r)
  seen_parts offsets ps st (ShowsParts.one {over = v} {ps = qs} {st = su} h r) = (value_as v h.0, seen_parts offsets qs su r)

  filled_as : (starts : List ℕ) (k : SlotKind) (v : Value) → slot_of view starts (decoded.filled (Some k) v) ≡ filled (is_upper k) (own v)
  filled_as starts kinds.Value v = refl
  filled_as starts kinds.Cause v = refl
  filled_as starts kinds.Either v = refl
  filled_as starts kinds.Iter1 v = refl
  filled_as starts kinds.Iter2 v = refl
  filled_as starts kinds.Iter3 v = refl
  filled_as starts kinds.Iter4 v = refl
  filled_as starts kinds.Null v = refl
  filled_as starts kinds.Method v = refl

  vacant_as : (starts : List ℕ) (k : SlotKind) → slot_of view starts (decoded.vacant (Some k)) ≡ vacant (is_upper k)
  vacant_as starts kinds.Value = refl
  vacant_as starts kinds.Cause = refl
  vacant_as starts kinds.Either = refl
  vacant_as starts kinds.Iter1 = refl
  vacant_as starts kinds.Iter2 = refl
  vacant_as starts kinds.Iter3 = refl
  vacant_as starts kinds.Iter4 = refl
  vacant_as starts kinds.Null = refl
  vacant_as starts kinds.Method = refl

  value_slot : (starts : List ℕ) (ks : List SlotKind) (v : Value) → slot_of view starts (decoded.filled (slice_get ks 0) v) ≡ filled (first (marks ks)) (own v)
  value_slot starts [] v = refl
  value_slot starts (k ∷ ks) v = filled_as starts k v

  empty_slot : (starts : List ℕ) (ks : List SlotKind) → slot_of view starts (decoded.vacant (slice_get ks 0)) ≡ vacant (first (marks ks))
  empty_slot starts [] = refl
  empty_slot starts (k ∷ ks) = vacant_as starts k

  iterator_as : (starts : List ℕ) (count : ℕ) (over : Value) (place : ℕ) → map (slot_of view starts) (decoded.iterator_of count over place) ≡ lowest count (own over) place
  iterator_as starts zero over place = refl
  iterator_as starts (suc count) over place = ap (λ z. states.Iter (own over) place count ∷ z) (iterator_as starts count over place)

  part_as : (starts : List ℕ) (ks : List SlotKind) (q : SlotPart) → Seen q
      → map (slot_of view starts) (decoded.slots_of p.shelf s (slice_get ks 0) q) ≡ slots_in seen (cell_of s.objects) starts (first (marks ks)) q
  part_as starts ks (slots.Value v) h = ap (λ z. z ∷ []) (value_slot starts ks (value_of p.shelf s v) ∙ ap (filled (first (marks ks))) h)
  part_as starts ks slots.Empty h = ap (λ z. z ∷ []) (empty_slot starts ks)
  part_as starts ks (slots.Iterator over place) h = iterator_as starts 4 (value_of p.shelf s over) place ∙ ap (λ z. lowest 4 z place) h
  part_as starts ks (slots.Left count over place) h = iterator_as starts count (value_of p.shelf s over) place ∙ ap (λ z. lowest count z place) h
  part_as starts ks (slots.Return v) h = ap (λ z. states.KeptReturn z ∷ []) h
  part_as starts ks (slots.Jump target entries iterator) h = refl

  stack_as : (starts : List ℕ) (ks : List SlotKind) (ps : List SlotPart) → Each Seen ps → map (slot_of view starts) (stack_of p.shelf s ks ps) ≡ stack_in seen (cell_of s.objects) starts (marks ks) ps
  stack_as starts ks [] h = refl
  stack_as starts ks (q ∷ ps) h =
      let front = decoded.slots_of p.shelf s (slice_get ks 0) q in
      let parts_are = slots_in seen (cell_of s.objects) starts (first (marks ks)) q in
      let one = part_as starts ks q h.0 in
      let long : length front ≡ length parts_are = sym (length-map front (slot_of view starts)) ∙ ap (λ z. length z) one in
      map-append (slot_of view starts) front (stack_of p.shelf s (drop (length front) ks) ps)
      ∙ (ap₂ (λ a b. a ++ b) one (stack_as starts (drop (length front) ks) ps h.1)
      ∙ ap (λ z. parts_are ++ stack_in seen (cell_of s.objects) starts z ps) (drop_map is_upper (length front) ks ∙ ap (λ n. drop n (marks ks)) long))

  local_as : (l : SlotPart) → IsFineLocal p.shelf s l → option_map own (local_of p.shelf s l) ≡ local_in seen (cell_of s.objects) l
  local_as (slots.Value v) h = ap (λ z. Some z) (value_as v h)
  local_as slots.Empty h = refl
  local_as (slots.Iterator over place) h = absurd h
  local_as (slots.Left count over place) h = absurd h
  local_as (slots.Return v) h = absurd h
  local_as (slots.Jump target entries iterator) h = absurd h

  locals_are : (ls : List SlotPart) → All (IsFineLocal p.shelf s) ls → locals_of view (map (local_of p.shelf s) ls) ≡ map (local_in seen (cell_of s.objects)) ls
  locals_are [] h = refl
  locals_are (l ∷ ls) h = ap₂ (λ a b. a ∷ b) (local_as l (All-head (IsFineLocal p.shelf s) l ls h)) (locals_are ls (All-tail (IsFineLocal p.shelf s) l ls h))

  entries_are : (starts : List ℕ) (position : ℕ) (es : List EntryPart)
      → entries_of starts position (map (handler_of p.shelf s) es) ≡ map (entry_in seen (cell_of s.objects) starts position) es
  entries_are starts position [] = refl
  entries_are starts position (e ∷ es) = ap₂ (λ a b. a ∷ b) (ap make (by e.kept)) (entries_are starts position es)
    where
      make : Option ℕ → states.Entry
      make kept = record {
        handler = position_in starts e.handler;
        is_finally = e.is_finally;
        height = e.height;
        active = nat_le (position_in starts e.handler) position;
        kept = kept;
      }

      by : (o : Option ℕ) → option_map (λ (x : ExcNo). x.cell) (option_map (λ number. let x : ExcNo = record { cell = cell_of s.objects number } in x) o) ≡ option_map (cell_of s.objects) o
      by None = refl
      by (Some n) = refl

  role_as : (name : Name) (r : RolePart) → views.role_of view name (decoded.role_of p.shelf s r) ≡ role_in seen (cell_of s.objects) name r
  role_as name roles.Main = refl
  role_as name roles.Call = refl
  role_as name (roles.Import m) = refl

  -- the frame of the call that a frame's part stands for
  pub frame_is : (ks : List SlotKind) (offsets : List ℕ) (st : Stack) (f : FramePart) → ShowsParts p.shelf s offsets (reverse f.slots) st → All (IsFineLocal p.shelf s) f.locals
      → frame_of view (call_of p.shelf s ks f) ≡ frame_in seen (cell_of s.objects) p.tables (marks ks) f
  frame_is ks offsets st f shows fine =
      let starts = p.tables.starts f.module_number f.code in
      let position = position_in starts f.at in
      let make : List (Option Val) → List states.Slot → List states.Entry → states.Role → states.Frame = λ locals slots entries role.
      record { module_name = p.tables.module_name f.module_number; code = f.code; position = position; locals = locals; slots = slots; entries = entries; names = cell_of s.objects f.names; role = role } in
      let a = frame_of view (call_of p.shelf s ks f) in
      let b = frame_in seen (cell_of s.objects) p.tables (marks ks) f in
      ap (λ z. make z a.slots a.entries a.role) (locals_are f.locals fine)
      ∙ (ap (λ z. make b.locals z a.entries a.role) (stack_as starts ks (reverse f.slots) (seen_parts offsets (reverse f.slots) st shows))
      ∙ ap₂ (λ x y. make b.locals b.slots x y) (entries_are starts position (reverse f.entries)) (role_as (p.tables.module_name f.module_number) f.role))
