-- The slots and entries of a frame of a snapshot, as its flow has them.
use Rattle.std.proofs.Common.{◌≡◌, ℕ, suc, Bool, List, [], ◌∷◌, length, map, drop, Option, Some, None, slice_get, refl, sym, ap, ap₂, ◌∙◌, subst, All}
use Rattle.std.specs.Prelude.{codes, nat_le, unwrap_or, IfSome}
use Rattle.std.specs.List.{AllByRecursion}
use Rattle.std.specs.Option.{option_map}
use Rattle.std.proofs.lemmas.List.Elements.{All-nil, All-cons, All-head, All-tail}
use Rattle.mpy_base.specs.declared.builtin.Builtin.{Builtin}
use Rattle.mpy_base.specs.declared.builtin.Builtin.TheVariants as builtins
use Rattle.mpy_base.specs.World.{ObjectKind, ATuple, AText, AnException, object, kind_of, IsA}
use Rattle.mpy_base.specs.Val.{Val}
use Rattle.arena_heap.specs.declared.value.Value.{Value}
use Rattle.arena_heap.specs.declared.value.Value.TheVariants as values
use Rattle.arena_heap.specs.declared.value.ExcNo.{ExcNo}
use Rattle.bc_flow.specs.bc_shapes.declared.kinds.Kind.{Kind as SlotKind}
use Rattle.bc_flow.specs.bc_shapes.declared.shape.Entry.{Entry as FlowEntry}
use Rattle.bc_flow.specs.Machine as flow
use Rattle.bc_flow.specs.Machine.{Stack, remark}
use Rattle.bc_flow.proofs.Sound.{val, none_v, none_c, none_b, ret, jump, p1, p2, p3, p4, null, method, Stands, empty, more}
use Rattle.bc_labels.specs.Positions.{position_in}
use Rattle.bc_library.specs.Constants.{items_at, text_at}
use Rattle.bc_library.specs.Shelf.{Shelf}
use Rattle.vm_starting.specs.vm_states.bc_machine.State as states
use Rattle.vm_starting.specs.vm_states.bc_progress.Slots.{Facts, ShowsIn, ShowsAllIn, flow_entry}
use Rattle.vm_starting.specs.vm_states.bc_progress.Known.{KindHas, HasMethod}
use Rattle.vm_starting.specs.vm_states.frame_exits.Known.{IsKnownSlot, KeepsException}
use Rattle.vm_starting.specs.vm_states.frame_moves.Shown.{Tables, view_of}
use Rattle.vm_starting.specs.vm_states.frame_moves.Shown as shown
use Rattle.vm_starting.specs.vm_states.vm_frames.declared.slot.Slot.{Slot}
use Rattle.vm_starting.specs.vm_states.vm_frames.Views.{View, slot_of, entry_of, entries_of}
use Rattle.vm_starting.specs.frame_calls.prim_faults.Faults.{IsKnown}
use Rattle.snap_grammar.specs.declared.parts.ValuePart.{ValuePart}
use Rattle.snap_grammar.specs.declared.parts.ValuePart.TheVariants as parts
use Rattle.snap_grammar.specs.declared.parts.ObjectPart.{ObjectPart}
use Rattle.snap_grammar.specs.declared.parts.ObjectPart.TheVariants as objects
use Rattle.snap_grammar.specs.declared.parts.SlotPart.{SlotPart}
use Rattle.snap_grammar.specs.declared.parts.EntryPart.{EntryPart}
use Rattle.snap_grammar.specs.declared.parts.Snapshot.{Snapshot}
use Rattle.snap_grammar.specs.Spelling.{IsValue, IsSlot}
use Rattle.snap_states.specs.Parts.{part_kind, cell_of, method_of}
use Rattle.snap_states.specs.States.{IsAt, kind_of_part, IsPlain, IsBound, IsEntryAt, AreEntriesAt, KeepsFine, ShowsParts}
use Rattle.snap_states.specs.Decoded.{builtin_called, value_of, reference, stack_of, handler_of}
use Rattle.snap_loading.specs.Given.{IsLibrary}
use Rattle.snap_loading.proofs.Finding.{builtin_found}
use Rattle.snap_loading.proofs.Lying.{objects_in, is_at}
use Rattle.snap_loading.proofs.Knowing.{value_known}

some_is : {A : Type 0} (x y : A) → Some x ≡ Some y → x ≡ y
some_is x y e = cc

-- methods
-- =======

-- a method of a kind is found among those of that kind
kind_has : (b : Builtin) (kind : ObjectKind) → method_of b ≡ Some kind → KindHas (Some kind) b
kind_has builtins.ListAppend kind e = subst (λ z. KindHas z builtins.ListAppend) e (codes "append", refl)
kind_has builtins.ListPop kind e = subst (λ z. KindHas z builtins.ListPop) e (codes "pop", refl)
kind_has builtins.ListInsert kind e = subst (λ z. KindHas z builtins.ListInsert) e (codes "insert", refl)
kind_has builtins.ListExtend kind e = subst (λ z. KindHas z builtins.ListExtend) e (codes "extend", refl)
kind_has builtins.DictGet kind e = subst (λ z. KindHas z builtins.DictGet) e (codes "get", refl)
kind_has builtins.DictKeys kind e = subst (λ z. KindHas z builtins.DictKeys) e (codes "keys", refl)
kind_has builtins.DictValues kind e = subst (λ z. KindHas z builtins.DictValues) e (codes "values", refl)
kind_has builtins.DictItems kind e = subst (λ z. KindHas z builtins.DictItems) e (codes "items", refl)
kind_has builtins.DictPop kind e = subst (λ z. KindHas z builtins.DictPop) e (codes "pop", refl)
kind_has builtins.StrJoin kind e = subst (λ z. KindHas z builtins.StrJoin) e (codes "join", refl)
kind_has builtins.StrFind kind e = subst (λ z. KindHas z builtins.StrFind) e (codes "find", refl)
kind_has builtins.StrStartsWith kind e = subst (λ z. KindHas z builtins.StrStartsWith) e (codes "startswith", refl)
kind_has builtins.StrSplit kind e = subst (λ z. KindHas z builtins.StrSplit) e (codes "split", refl)
kind_has _ kind e = absurd cc

not_tuple : (b : Builtin) → method_of b ≡ Some ATuple → ⊥
not_tuple b e = kind_has b ATuple e

module _ (p : Tables) (shelf : Shelf) (s : Snapshot) (title : ℕ → ℕ → ℕ) where
  abbrev view : View
  view = view_of p

  abbrev plain_of : ValuePart → Val
  plain_of v = shown.value_of p (value_of shelf s v)

  -- an object of a snapshot is seen at its cell
  object_seen : (kind : ObjectKind) (n : ℕ) (b : Builtin) → IsAt s kind n → KindHas (Some kind) b → HasMethod (objects_in shelf s title) (shown.value_of p (reference (slice_get s.objects n) (cell_of s.objects n))) b
  object_seen kind n b e h = by (slice_get s.objects n) refl e
    where
      there : KindHas (kind_of (object (objects_in shelf s title) (cell_of s.objects n))) b
      there = subst (λ z. KindHas z b) (sym (is_at shelf s title kind n e)) h

      by : (r : Option ObjectPart) → slice_get s.objects n ≡ r → option_map part_kind r ≡ Some kind → HasMethod (objects_in shelf s title) (shown.value_of p (reference r (cell_of s.objects n))) b
      by None f g = absurd cc
      by (Some (objects.List room items)) f g = there
      by (Some (objects.Dict room pairs)) f g = there
      by (Some (objects.Tuple items)) f g = there
      by (Some (objects.Text bytes)) f g = there
      by (Some (objects.Function m code names defaults)) f g = there
      by (Some (objects.Exception k args file line name)) f g = there
      by (Some (objects.Method o m)) f g = there
      by (Some (objects.Range start stop step)) f g = there
      by (Some (objects.Module name names)) f g = there

  method_seen : (v : ValuePart) (b : Builtin) (kind : ObjectKind) → method_of b ≡ Some kind → kind_of_part s v ≡ Some kind → HasMethod (objects_in shelf s title) (plain_of v) b
  method_seen (parts.Object n) b kind e f = object_seen kind n b f (kind_has b kind e)
  method_seen (parts.Str text) b kind e f = kind_has b AText (e ∙ sym f)
  method_seen (parts.Fixed m n) b kind e f = absurd (not_tuple b (e ∙ sym f))
  method_seen parts.Empty b kind e f = absurd (not_tuple b (e ∙ sym f))
  method_seen parts.None b kind e f = absurd cc
  method_seen parts.False b kind e f = absurd cc
  method_seen parts.True b kind e f = absurd cc
  method_seen (parts.Int z) b kind e f = absurd cc
  method_seen (parts.Named name) b kind e f = absurd cc

  -- an exception is one
  exception_is : (n : ℕ) → IsAt s AnException n → reference (slice_get s.objects n) (cell_of s.objects n) ≡ values.Exc (record { cell = cell_of s.objects n })
  exception_is n e = by (slice_get s.objects n) e
    where
      by : (r : Option ObjectPart) → option_map part_kind r ≡ Some AnException → reference r (cell_of s.objects n) ≡ values.Exc (record { cell = cell_of s.objects n })
      by (Some (objects.Exception k args file line name)) g = refl
      by None g = absurd cc
      by (Some (objects.List room items)) g = absurd cc
      by (Some (objects.Dict room pairs)) g = absurd cc
      by (Some (objects.Tuple items)) g = absurd cc
      by (Some (objects.Text bytes)) g = absurd cc
      by (Some (objects.Function m code names defaults)) g = absurd cc
      by (Some (objects.Method o m)) g = absurd cc
      by (Some (objects.Range start stop step)) g = absurd cc
      by (Some (objects.Module name names)) g = absurd cc

  -- slots
  -- =====

  -- exceptions and methods of the snapshot's heap are among the facts
  pub record HasFacts (facts : Facts) : Type 0 where
    pub exceptions : (x : ℕ) → IsA (objects_in shelf s title) AnException x → facts.exception x
    pub methods : (v : Val) (b : Builtin) → HasMethod (objects_in shelf s title) v b → facts.method v b

  bound_slot : (facts : Facts) → HasFacts facts → (starts : List ℕ) (v : ValuePart) (name : List ℕ) → IsBound shelf s name v → (sl : List states.Slot) (st : Stack) → ShowsAllIn facts sl st
      → ShowsAllIn facts (states.Object (Some (plain_of v)) ∷ states.Value (shown.value_of p (value_of shelf s (parts.Named name))) ∷ sl) (flow.Method ∷ flow.Value ∷ st)
  bound_slot facts h starts v name b sl st rest =
      let found : builtin_called name ≡ Some b.method = subst (λ z. builtin_called z ≡ Some b.method) b.named (builtin_found b.method) in
      let seen = h.methods (plain_of v) b.method (method_seen v b.method b.kind b.method_is b.value_is) in
      subst (λ z. ShowsAllIn facts (states.Object (Some (plain_of v)) ∷ states.Value (shown.value_of p (values.Built (unwrap_or z builtins.Print))) ∷ sl) (flow.Method ∷ flow.Value ∷ st)) (sym found)
      (ShowsAllIn.bound seen rest)

  module _ (facts : Facts) (h : HasFacts facts) (starts offsets : List ℕ) (one : (t target : ℕ) → slice_get offsets t ≡ Some target → position_in starts target ≡ t) where
    raised : (n : ℕ) → IsAt s AnException n → (sl : List states.Slot) (st : Stack) → ShowsAllIn facts sl st
        → ShowsAllIn facts (states.Value (shown.value_of p (reference (slice_get s.objects n) (cell_of s.objects n))) ∷ sl) (flow.NoneOrException ∷ st)
    raised n is sl st rest =
        subst (λ z. ShowsAllIn facts (states.Value (shown.value_of p z) ∷ sl) (flow.NoneOrException ∷ st)) (sym (exception_is n is))
        (ShowsAllIn.more (ShowsIn.exception (h.exceptions (cell_of s.objects n) (is_at shelf s title AnException n is))) rest)

    pub shows_slots : (ps : List SlotPart) (st : Stack) (ks : List SlotKind) → ShowsParts shelf s offsets ps st → Stands st ks → ShowsAllIn facts (map (slot_of view starts) (stack_of shelf s ks ps)) st
    shows_slots ps st ks ShowsParts.none empty = ShowsAllIn.none
    shows_slots ps st ks (ShowsParts.value {ps = qs} {st = su} plain r) (more {ks = ls} val q) = ShowsAllIn.more ShowsIn.value (shows_slots qs su ls r q)
    shows_slots ps st ks (ShowsParts.nothing {ps = qs} {st = su} r) (more {ks = ls} none_v q) = ShowsAllIn.more ShowsIn.nothing (shows_slots qs su ls r q)
    shows_slots ps st ks (ShowsParts.nothing {ps = qs} {st = su} r) (more {ks = ls} none_c q) = ShowsAllIn.more ShowsIn.nothing (shows_slots qs su ls r q)
    shows_slots ps st ks (ShowsParts.nothing {ps = qs} {st = su} r) (more {ks = ls} none_b q) = ShowsAllIn.more ShowsIn.nothing (shows_slots qs su ls r q)
    shows_slots ps st ks (ShowsParts.exception {n = n} {ps = qs} {st = su} is r) (more {ks = ls} none_v q) = raised n is (map (slot_of view starts) (stack_of shelf s ls qs)) su (shows_slots qs su ls r q)
    shows_slots ps st ks (ShowsParts.exception {n = n} {ps = qs} {st = su} is r) (more {ks = ls} none_c q) = raised n is (map (slot_of view starts) (stack_of shelf s ls qs)) su (shows_slots qs su ls r q)
    shows_slots ps st ks (ShowsParts.exception {n = n} {ps = qs} {st = su} is r) (more {ks = ls} none_b q) = raised n is (map (slot_of view starts) (stack_of shelf s ls qs)) su (shows_slots qs su ls r q)
    shows_slots ps st ks (ShowsParts.null {ps = qs} {st = su} r) (more {ks = ls} null q) = ShowsAllIn.more ShowsIn.null (shows_slots qs su ls r q)
    shows_slots ps st ks (ShowsParts.bound {v = v} {name = name} {ps = qs} {st = su} b r) (more method (more {ks = ls} val q)) =
        bound_slot facts h starts v name b (map (slot_of view starts) (stack_of shelf s ls qs)) su (shows_slots qs su ls r q)
    shows_slots ps st ks (ShowsParts.free {ps = qs} {st = su} plain r) (more method (more {ks = ls} val q)) = ShowsAllIn.free (shows_slots qs su ls r q)
    shows_slots ps st ks (ShowsParts.kept_return {ps = qs} {st = su} plain r) (more {ks = ls} ret q) = ShowsAllIn.more ShowsIn.kept_return (shows_slots qs su ls r q)
    shows_slots ps st ks (ShowsParts.kept_jump {target = target} {t = t} {d = d} {it = it} {ps = qs} {st = su} is r) (more {ks = ls} jump q) =
        subst (λ z. ShowsAllIn facts (states.KeptJump z d it ∷ map (slot_of view starts) (stack_of shelf s ls qs)) (flow.KeptJump t d it ∷ su)) (sym (one t target is))
        (ShowsAllIn.more ShowsIn.kept_jump (shows_slots qs su ls r q))
    shows_slots ps st ks (ShowsParts.whole {ps = qs} {st = su} over r) (more p4 (more p3 (more p2 (more {ks = ls} p1 q)))) =
        ShowsAllIn.more ShowsIn.iterator4 (ShowsAllIn.more ShowsIn.iterator3 (ShowsAllIn.more ShowsIn.iterator2 (ShowsAllIn.more ShowsIn.iterator1 (shows_slots qs su ls r q))))
    shows_slots ps st ks (ShowsParts.three {ps = qs} {st = su} over r) (more p3 (more p2 (more {ks = ls} p1 q))) =
        ShowsAllIn.more ShowsIn.iterator3 (ShowsAllIn.more ShowsIn.iterator2 (ShowsAllIn.more ShowsIn.iterator1 (shows_slots qs su ls r q)))
    shows_slots ps st ks (ShowsParts.two {ps = qs} {st = su} over r) (more p2 (more {ks = ls} p1 q)) = ShowsAllIn.more ShowsIn.iterator2 (ShowsAllIn.more ShowsIn.iterator1 (shows_slots qs su ls r q))
    shows_slots ps st ks (ShowsParts.one {ps = qs} {st = su} over r) (more {ks = ls} p1 q) = ShowsAllIn.more ShowsIn.iterator1 (shows_slots qs su ls r q)

  -- known slots
  -- ===========

  module _ (is : IsLibrary shelf) where
    abbrev Known : Value → Type 0
    Known v = IsKnown (text_at shelf) (items_at shelf) (objects_in shelf s title) v

    abbrev KnownSlot : Slot → Type 0
    KnownSlot slot = IsKnownSlot (text_at shelf) (items_at shelf) (objects_in shelf s title) slot

    pub part_known : (v : ValuePart) → IsPlain shelf s v → IsValue v → Known (value_of shelf s v)
    part_known v plain small = value_known shelf s title is.first v plain small

    raised_known : (n : ℕ) → IsAt s AnException n → Known (reference (slice_get s.objects n) (cell_of s.objects n))
    raised_known n e = subst Known (sym (exception_is n e)) (record { leads = record { meets = is_at shelf s title AnException n e; small = tt }; told = tt })

    nothing_known : Known values.None
    nothing_known = record { leads = record { meets = tt; small = tt }; told = tt }

    built_known : (b : Builtin) → Known (values.Built b)
    built_known b = record { leads = record { meets = tt; small = tt }; told = tt }

    pub known_slots : (offsets : List ℕ) (ps : List SlotPart) (st : Stack) (ks : List SlotKind) → ShowsParts shelf s offsets ps st → Stands st ks → AllByRecursion IsSlot ps → AllByRecursion KnownSlot (stack_of shelf s ks ps)
    known_slots offsets ps st ks ShowsParts.none empty a = tt
    known_slots offsets ps st ks (ShowsParts.value {v = v} {ps = qs} {st = su} plain r) (more {ks = ls} val q) a = (part_known v plain a.0, known_slots offsets qs su ls r q a.1)
    known_slots offsets ps st ks (ShowsParts.nothing {ps = qs} {st = su} r) (more {ks = ls} none_v q) a = (nothing_known, known_slots offsets qs su ls r q a.1)
    known_slots offsets ps st ks (ShowsParts.nothing {ps = qs} {st = su} r) (more {ks = ls} none_c q) a = (nothing_known, known_slots offsets qs su ls r q a.1)
    known_slots offsets ps st ks (ShowsParts.nothing {ps = qs} {st = su} r) (more {ks = ls} none_b q) a = (nothing_known, known_slots offsets qs su ls r q a.1)
    known_slots offsets ps st ks (ShowsParts.exception {n = n} {ps = qs} {st = su} e r) (more {ks = ls} none_v q) a = (raised_known n e, known_slots offsets qs su ls r q a.1)
    known_slots offsets ps st ks (ShowsParts.exception {n = n} {ps = qs} {st = su} e r) (more {ks = ls} none_c q) a = (raised_known n e, known_slots offsets qs su ls r q a.1)
    known_slots offsets ps st ks (ShowsParts.exception {n = n} {ps = qs} {st = su} e r) (more {ks = ls} none_b q) a = (raised_known n e, known_slots offsets qs su ls r q a.1)
    known_slots offsets ps st ks (ShowsParts.null {ps = qs} {st = su} r) (more {ks = ls} null q) a = (tt, known_slots offsets qs su ls r q a.1)
    known_slots offsets ps st ks (ShowsParts.bound {v = v} {name = name} {ps = qs} {st = su} b r) (more method (more {ks = ls} val q)) a = (part_known v b.plain a.0, (built_known (unwrap_or (builtin_called name) builtins.Print), known_slots offsets qs su ls r q a.1.1))
    known_slots offsets ps st ks (ShowsParts.free {v = v} {ps = qs} {st = su} plain r) (more method (more {ks = ls} val q)) a = (tt, (part_known v plain a.1.0, known_slots offsets qs su ls r q a.1.1))
    known_slots offsets ps st ks (ShowsParts.kept_return {v = v} {ps = qs} {st = su} plain r) (more {ks = ls} ret q) a = (part_known v plain a.0, known_slots offsets qs su ls r q a.1)
    known_slots offsets ps st ks (ShowsParts.kept_jump {ps = qs} {st = su} e r) (more {ks = ls} jump q) a = (tt, known_slots offsets qs su ls r q a.1)
    known_slots offsets ps st ks (ShowsParts.whole {over = v} {ps = qs} {st = su} over r) (more p4 (more p3 (more p2 (more {ks = ls} p1 q)))) a =
        let k = part_known v over.0 a.0.0 in
        (k, (k, (k, (k, known_slots offsets qs su ls r q a.1))))
    known_slots offsets ps st ks (ShowsParts.three {over = v} {ps = qs} {st = su} over r) (more p3 (more p2 (more {ks = ls} p1 q))) a =
        let k = part_known v over.0 a.0.2 in
        (k, (k, (k, known_slots offsets qs su ls r q a.1)))
    known_slots offsets ps st ks (ShowsParts.two {over = v} {ps = qs} {st = su} over r) (more p2 (more {ks = ls} p1 q)) a =
        let k = part_known v over.0 a.0.2 in
        (k, (k, known_slots offsets qs su ls r q a.1))
    known_slots offsets ps st ks (ShowsParts.one {over = v} {ps = qs} {st = su} over r) (more {ks = ls} p1 q) a = (part_known v over.0 a.0.2, known_slots offsets qs su ls r q a.1)

  -- as many slots of the machine as the stack has
  pub stack_long : (offsets : List ℕ) (ps : List SlotPart) (st : Stack) (ks : List SlotKind) → ShowsParts shelf s offsets ps st → length (stack_of shelf s ks ps) ≡ length st
  stack_long offsets ps st ks ShowsParts.none = refl
  stack_long offsets ps st ks (ShowsParts.value {ps = qs} {st = su} plain r) = ap suc (stack_long offsets qs su (drop 1 ks) r)
  stack_long offsets ps st ks (ShowsParts.nothing {ps = qs} {st = su} r) = ap suc (stack_long offsets qs su (drop 1 ks) r)
  stack_long offsets ps st ks (ShowsParts.exception {ps = qs} {st = su} e r) = ap suc (stack_long offsets qs su (drop 1 ks) r)
  stack_long offsets ps st ks (ShowsParts.null {ps = qs} {st = su} r) = ap suc (stack_long offsets qs su (drop 1 ks) r)
  stack_long offsets ps st ks (ShowsParts.bound {ps = qs} {st = su} b r) = ap (λ n. suc (suc n)) (stack_long offsets qs su (drop 1 (drop 1 ks)) r)
  stack_long offsets ps st ks (ShowsParts.free {ps = qs} {st = su} plain r) = ap (λ n. suc (suc n)) (stack_long offsets qs su (drop 1 (drop 1 ks)) r)
  stack_long offsets ps st ks (ShowsParts.kept_return {ps = qs} {st = su} plain r) = ap suc (stack_long offsets qs su (drop 1 ks) r)
  stack_long offsets ps st ks (ShowsParts.kept_jump {ps = qs} {st = su} e r) = ap suc (stack_long offsets qs su (drop 1 ks) r)
  stack_long offsets ps st ks (ShowsParts.whole {ps = qs} {st = su} over r) = ap (λ n. suc (suc (suc (suc n)))) (stack_long offsets qs su (drop 4 ks) r)
  stack_long offsets ps st ks (ShowsParts.three {ps = qs} {st = su} over r) = ap (λ n. suc (suc (suc n))) (stack_long offsets qs su (drop 3 ks) r)
  stack_long offsets ps st ks (ShowsParts.two {ps = qs} {st = su} over r) = ap (λ n. suc (suc n)) (stack_long offsets qs su (drop 2 ks) r)
  stack_long offsets ps st ks (ShowsParts.one {ps = qs} {st = su} over r) = ap suc (stack_long offsets qs su (drop 1 ks) r)

  -- entries
  -- =======

  module _ (starts offsets : List ℕ) (one : (t target : ℕ) → slice_get offsets t ≡ Some target → position_in starts target ≡ t) (position : ℕ) where
    entry_seen : (e : EntryPart) (x : FlowEntry) → IsEntryAt offsets e x → flow_entry (entry_of starts position (handler_of shelf s e)) ≡ remark position x
    entry_seen e x h =
        let handler = one x.handler e.handler h.handler in
        let make : ℕ → Bool → ℕ → FlowEntry = λ at f n. record { handler = at; is_finally = f; active = nat_le at position; height = n } in
        ap (λ z. make z e.is_finally e.height) handler ∙ (ap (λ z. make x.handler z e.height) h.is_finally ∙ ap (λ z. make x.handler x.is_finally z) h.height)

    pub entries_seen : (es : List EntryPart) (xs : List FlowEntry) → AreEntriesAt offsets es xs → map flow_entry (entries_of starts position (map (handler_of shelf s) es)) ≡ map (remark position) xs
    entries_seen [] [] h = refl
    entries_seen [] (x ∷ xs) h = absurd h
    entries_seen (e ∷ es) [] h = absurd h
    entries_seen (e ∷ es) (x ∷ xs) h = ap₂ (λ a zs. a ∷ zs) (entry_seen e x h.0) (entries_seen es xs h.1)

    kept_facts : (facts : Facts) → HasFacts facts → (e : EntryPart) → KeepsFine s e → IfSome (entry_of starts position (handler_of shelf s e)).kept facts.exception
    kept_facts facts h e k = by e.kept k.exception
      where
        by : (o : Option ℕ) → IfSome o (IsAt s AnException) → IfSome (option_map (λ (x : ExcNo). x.cell) (option_map (λ number. let x : ExcNo = record { cell = cell_of s.objects number } in x) o)) facts.exception
        by None i = tt
        by (Some n) i = h.exceptions (cell_of s.objects n) (is_at shelf s title AnException n i)

    pub entries_keep : (facts : Facts) → HasFacts facts → (es : List EntryPart) → All (KeepsFine s) es → All (λ (e : states.Entry). IfSome e.kept facts.exception) (entries_of starts position (map (handler_of shelf s) es))
    entries_keep facts h [] k = All-nil (λ (e : states.Entry). IfSome e.kept facts.exception)
    entries_keep facts h (e ∷ es) k =
        All-cons (λ (z : states.Entry). IfSome z.kept facts.exception) (entry_of starts position (handler_of shelf s e)) (entries_of starts position (map (handler_of shelf s) es)) (kept_facts facts h e (All-head (KeepsFine s) e es k)) (entries_keep facts h es (All-tail (KeepsFine s) e es k))

  kept_known : (e : EntryPart) → KeepsFine s e → KeepsException (objects_in shelf s title) (handler_of shelf s e)
  kept_known e k = by e.kept k.exception
    where
      by : (o : Option ℕ) → IfSome o (IsAt s AnException) → IfSome (option_map (λ number. let x : ExcNo = record { cell = cell_of s.objects number } in x) o) (λ x. IsA (objects_in shelf s title) AnException x.cell)
      by None i = tt
      by (Some n) i = is_at shelf s title AnException n i

  pub entries_known : (es : List EntryPart) → All (KeepsFine s) es → All (KeepsException (objects_in shelf s title)) (map (handler_of shelf s) es)
  entries_known [] k = All-nil (KeepsException (objects_in shelf s title))
  entries_known (e ∷ es) k = All-cons (KeepsException (objects_in shelf s title)) (handler_of shelf s e) (map (handler_of shelf s) es) (kept_known e (All-head (KeepsFine s) e es k)) (entries_known es (All-tail (KeepsFine s) e es k))
