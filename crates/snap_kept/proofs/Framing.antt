-- Slots and entries while a frame's slots change.
use Rattle.std.proofs.Common.{◌≡◌, ℕ, suc, ◌+◌, ◌-◌, ◌≤◌, List, [], ◌∷◌, ◌++◌, map, length, drop, replicate, Bool, true, false, cond, ◌&&◌, inl, inr, Option, Some, None, refl, sym, ap, ◌∙◌, subst, arith, length-append}
use Rattle.std.specs.Prelude.{IsSome, is_some, nat_eq}
use Rattle.std.proofs.lemmas.Bool.{cases_lt, and_parts, false≢true, eq-eqb, ne_eqb}
use Rattle.std.proofs.lemmas.List.{drop-map}
use Rattle.std.specs.List.{AllByRecursion as Each}
use Rattle.bc_progress.specs.mpy_base.World.{ListObject, TupleObject, TextObject, DictObject, FunctionObject, ExceptionObject, MethodObject, RangeObject, ModuleObject, AModule}
use Rattle.bc_progress.specs.mpy_base.Val.{Val, Nil, Truth, Int, Str, Fixed, Empty, Built, At, PlainWorld}
use Rattle.bc_progress.specs.py_values.Shown.{PlainHeap, shown_object}
use Rattle.bc_progress.specs.py_primitives.Iterables.{shown_items, items_in}
use Rattle.bc_progress.specs.py_effects.Names.{Locals}
use Rattle.bc_progress.specs.bc_machine.Library.{Name, Code, Library}
use Rattle.bc_progress.specs.bc_machine.State.{Slot, Value, Null, Object, Iter, KeptReturn, KeptJump, Entry, Role, Main, Called, Imported, Frame, cut, remark, go}
use Rattle.bc_progress.specs.bc_machine.Parts.{new_frame}
use Rattle.bc_progress.specs.bc_flow.Machine.{cut as flow_cut}
use Rattle.bc_progress.proofs.bc_flow_lemmas.Sound.{cut_cut, cut_all, cut-length}
use Rattle.snap_kept.specs.Values.{IsNamespace, IsPlain}
use Rattle.snap_kept.specs.Effects.{IsLocal, AreLocals, IsSound}
use Rattle.snap_kept.specs.Frames.{AreHeld, on_height, LeadsHeld, AreSlots, AreEntries, IsRole, IsFrame, IsKept}
use Rattle.snap_kept.proofs.Marking.{held_marked, all_marks}
use Rattle.snap_kept.proofs.Onward.{Obj, core, Onward, kind_on, namespace_on, plain_on, method_on, shown_on}
use Rattle.snap_kept.proofs.Lists.{each_append, each_replicate}

iter_core : (o : Obj) → is_some (shown_items (shown_object (core o))) ≡ is_some (shown_items (shown_object o))
iter_core None = refl
iter_core (Some (ListObject items room)) = refl
iter_core (Some (TupleObject items)) = refl
iter_core (Some (TextObject bytes)) = refl
iter_core (Some (DictObject pairs room)) = refl
iter_core (Some (FunctionObject name module_name code names defaults)) = refl
iter_core (Some (ExceptionObject kind args file line name)) = refl
iter_core (Some (MethodObject v method)) = refl
iter_core (Some (RangeObject start stop step)) = refl
iter_core (Some (ModuleObject name names)) = refl

-- cuts
-- ====

drop_more : {A : Type 0} (xs ys : List A) (k : ℕ) → drop (length xs + k) (xs ++ ys) ≡ drop k ys
drop_more [] ys k = ap (λ n. drop n ys) (let e : 0 + k ≡ k = omega arith in e)
drop_more (x ∷ xs) ys k = ap (λ n. drop n (x ∷ (xs ++ ys))) (let e : suc (length xs) + k ≡ suc (length xs + k) = omega arith in e) ∙ drop_more xs ys k

pub cut_more : {A : Type 0} (h : ℕ) (xs ys : List A) → h ≤ length ys → flow_cut h (xs ++ ys) ≡ flow_cut h ys
cut_more h xs ys le =
    ap (λ n. drop n (xs ++ ys)) (let n = length-append xs ys in let e : length (xs ++ ys) - h ≡ length xs + (length ys - h) = omega (arith, n, le) in e) ∙ drop_more xs ys (length ys - h)

-- the height of the topmost entry
abbrev pub top_height : List Entry → ℕ
top_height [] = 0
top_height (e ∷ entries) = e.height

-- the slot on a height
-- ====================

abbrev pub no_jump : Slot → Bool
no_jump (KeptJump target count it) = false
no_jump (Value v) = true
no_jump Null = true
no_jump (Object o) = true
no_jump (Iter over at part) = true
no_jump (KeptReturn v) = true

abbrev pub no_jumps : List Slot → Bool
no_jumps [] = true
no_jumps (s ∷ slots) = no_jump s && no_jumps slots

-- what the topmost entry keeps leads to where the others are held
abbrev pub LeadsTop : List Entry → List Slot → Type 0
LeadsTop [] slots = Unit {0}
LeadsTop (e ∷ entries) slots = LeadsHeld entries (on_height e.height slots)

pub on_top : (height : ℕ) (s : Slot) (slots : List Slot) → length slots ≡ height → on_height height (s ∷ slots) ≡ Some s
on_top height s slots e = ap (λ b. cond b (Some s) (on_height height slots)) (eq-eqb (length slots) height e)

on_lower : (height : ℕ) (s : Slot) (slots : List Slot) → (length slots ≡ height → ⊥) → on_height height (s ∷ slots) ≡ on_height height slots
on_lower height s slots ne = ap (λ b. cond b (Some s) (on_height height slots)) (ne_eqb (length slots) height ne)

pub on_none : (height : ℕ) (slots : List Slot) → length slots ≤ height → on_height height slots ≡ None
on_none height [] le = refl
on_none height (s ∷ slots) le = on_lower height s slots (λ e. absurd (omega (arith, e, le))) ∙ on_none height slots (omega (arith, le))

on_rest : (height : ℕ) (xs rest : List Slot) → suc height ≤ length rest → on_height height (xs ++ rest) ≡ on_height height rest
on_rest height [] rest le = refl
on_rest height (x ∷ xs) rest le = on_lower height x (xs ++ rest) (λ e. let n = length-append xs rest in absurd (omega (arith, e, n, le))) ∙ on_rest height xs rest le

no_lead : (entries : List Entry) (s : Slot) → no_jump s ≡ true → LeadsHeld entries (Some s)
no_lead entries (Value v) e = tt
no_lead entries Null e = tt
no_lead entries (Object o) e = tt
no_lead entries (Iter over at part) e = tt
no_lead entries (KeptReturn v) e = tt
no_lead entries (KeptJump target count it) e = absurd (false≢true e)

on_bottom : (entries : List Entry) (height : ℕ) (xs rest : List Slot) → length rest ≤ height → no_jumps xs ≡ true → LeadsHeld entries (on_height height (xs ++ rest))
on_bottom entries height [] rest le none = subst (LeadsHeld entries) (sym (on_none height rest le)) tt
on_bottom entries height (x ∷ xs) rest le none =
    let both = and_parts (no_jump x) (no_jumps xs) none in
    by (nat_eq (length (xs ++ rest)) height) (no_lead entries x (both.0)) (on_bottom entries height xs rest le (both.1))
  where
    by : (b : Bool) → LeadsHeld entries (Some x) → LeadsHeld entries (on_height height (xs ++ rest)) → LeadsHeld entries (cond b (Some x) (on_height height (xs ++ rest)))
    by true p q = p
    by false p q = q

pub leads_swap : (xs ys rest : List Slot) (entries : List Entry) → top_height entries ≤ length rest → no_jumps xs ≡ true → LeadsTop entries (ys ++ rest) → LeadsTop entries (xs ++ rest)
leads_swap xs ys rest [] le none p = tt
leads_swap xs ys rest (e ∷ entries) le none p = elim (cases_lt e.height (length rest)) [
  | inl lt ↦ subst (LeadsHeld entries) (on_rest e.height ys rest lt ∙ sym (on_rest e.height xs rest lt)) p
  | inr ge ↦ on_bottom entries e.height xs rest ge none
]

pub leads_marked : (q : ℕ) (entries : List Entry) (o : Option Slot) → LeadsHeld entries o → LeadsHeld (map (remark q) entries) o
leads_marked q entries None p = tt
leads_marked q entries (Some (Value v)) p = tt
leads_marked q entries (Some Null) p = tt
leads_marked q entries (Some (Object o)) p = tt
leads_marked q entries (Some (Iter over at part)) p = tt
leads_marked q entries (Some (KeptReturn v)) p = tt
leads_marked q entries (Some (KeptJump target count it)) p = subst (AreHeld target) (sym (drop-map (remark q) count entries)) (held_marked target q (drop count entries) p)

module _ (library : Library) where
  -- the entries below one that is dropped, while its slots lie there still
  abbrev pub AreBelow : PlainHeap → List Slot → List Entry → Type 0
  AreBelow heap slots [] = Unit {0}
  AreBelow heap slots (e ∷ entries) =
      (e.height ≤ length slots) × AreSlots library heap (cut e.height slots) × AreEntries library heap (cut e.height slots) entries × AreHeld e.handler entries

  -- a heap that goes on
  module _ (h k : PlainHeap) (on : Onward h k) where
    iter_on : (v : Val) → IsPlain library h v → IsSome (items_in h v) → IsSome (items_in k v)
    iter_on (At n) p some = shown_on h k on n Bool (λ o. is_some (shown_items (shown_object o))) iter_core (p.0) ∙ some
    iter_on Nil p some = some
    iter_on (Truth b) p some = some
    iter_on (Int z) p some = some
    iter_on (Str bytes) p some = some
    iter_on (Fixed items) p some = some
    iter_on Empty p some = some
    iter_on (Built b) p some = some

    pub slots_on : (slots : List Slot) → AreSlots library h slots → AreSlots library k slots
    slots_on [] p = tt
    slots_on (Value v ∷ slots) p = (plain_on h k on library v (p.0), slots_on slots (p.1))
    slots_on (Null ∷ slots) p = slots_on slots p
    slots_on (Object None ∷ slots) p = slots_on slots p
    slots_on (Object (Some o) ∷ Value (Built method) ∷ slots) p = ((plain_on h k on library o ((p.0).0), method_on h k on library o method ((p.0).0) ((p.0).1)), slots_on slots (p.1))
    slots_on (Object (Some o) ∷ _) p = absurd p
    slots_on (Iter over at part ∷ slots) p = ((plain_on h k on library over ((p.0).0), iter_on over ((p.0).0) ((p.0).1), (p.0).2), slots_on slots (p.1))
    slots_on (KeptReturn v ∷ slots) p = (plain_on h k on library v (p.0), slots_on slots (p.1))
    slots_on (KeptJump target count iterator ∷ slots) p = slots_on slots p

    pub entries_on : (slots : List Slot) (entries : List Entry) → AreEntries library h slots entries → AreEntries library k slots entries
    entries_on slots [] p = tt
    entries_on slots (e ∷ entries) p = (p.0, slots_on (cut e.height slots) (p.1), entries_on (cut e.height slots) entries (p.2), p.3, p.4)

    pub locals_on : (locals : Locals) → AreLocals library h locals → AreLocals library k locals
    locals_on [] p = tt
    locals_on (Some v ∷ locals) p = (plain_on h k on library v (p.0), locals_on locals (p.1))
    locals_on (None ∷ locals) p = (tt, locals_on locals (p.1))

    pub role_on : (role : Role) → IsRole library h role → IsRole library k role
    role_on Main p = tt
    role_on Called p = tt
    role_on (Imported name m) p = (p.0, kind_on h k on m AModule (p.1))

    pub frame_on : (frame : Frame) → IsFrame library h frame → IsFrame library k frame
    frame_on frame f = record {
      names = namespace_on h k on frame.names f.names;
      locals = locals_on frame.locals f.locals;
      role = role_on frame.role f.role;
      slots = slots_on frame.slots f.slots;
      entries = entries_on frame.slots frame.entries f.entries;
      held = f.held;
      marked = f.marked;
    }

    pub frames_on : (frames : List Frame) → Each (IsFrame library h) frames → Each (IsFrame library k) frames
    frames_on [] p = tt
    frames_on (frame ∷ frames) p = (frame_on frame (p.0), frames_on frames (p.1))

  module _ (h : PlainHeap) where
    -- other slots that are the same down from the topmost entry's height
    pub entries_move : (a b : List Slot) (entries : List Entry) → AreEntries library h a entries → top_height entries ≤ length b → cut (top_height entries) b ≡ cut (top_height entries) a → LeadsTop entries b → AreEntries library h b entries
    entries_move a b [] p le e lead = tt
    entries_move a b (x ∷ entries) p le e lead = (le, subst (AreSlots library h) (sym e) (p.1), subst (λ z. AreEntries library h z entries) (sym e) (p.2), p.3, lead)

    pub top_leads : (a : List Slot) (entries : List Entry) → AreEntries library h a entries → LeadsTop entries a
    top_leads a [] p = tt
    top_leads a (e ∷ entries) p = p.4

    -- other slots in the place of some that lie on the rest
    pub entries_swap : (xs ys rest : List Slot) (entries : List Entry) → AreEntries library h (ys ++ rest) entries → top_height entries ≤ length rest → no_jumps xs ≡ true → AreEntries library h (xs ++ rest) entries
    entries_swap xs ys rest entries p le none =
        entries_move (ys ++ rest) (xs ++ rest) entries p
        (let n = length-append xs rest in omega (arith, n, le))
        (cut_more (top_height entries) xs rest le ∙ sym (cut_more (top_height entries) ys rest le))
        (leads_swap xs ys rest entries le none (top_leads (ys ++ rest) entries p))

    pub below_of : (slots : List Slot) (entries : List Entry) → AreEntries library h slots entries → AreBelow h slots entries
    below_of slots [] p = tt
    below_of slots (e ∷ entries) p = (p.0, p.1, p.2, p.3)

    -- the entries below one that is dropped
    pub entries_up : (height : ℕ) (slots : List Slot) (entries : List Entry) → height ≤ length slots → AreEntries library h (cut height slots) entries → AreBelow h slots entries
    entries_up height slots [] le p = tt
    entries_up height slots (e ∷ entries) le p =
        let n = cut-length height slots le in
        let low : e.height ≤ height = omega (arith, n, p.0) in
        let same : cut e.height (cut height slots) ≡ cut e.height slots = cut_cut e.height height slots low in
        (omega (arith, low, le), subst (AreSlots library h) same (p.1), subst (λ z. AreEntries library h z entries) same (p.2), p.3)

    -- a slot on the height of an entry
    pub entries_enter : (e : Entry) (entries : List Entry) (s : Slot) (slots : List Slot) → AreBelow h slots (e ∷ entries) → LeadsHeld entries (Some s) → AreEntries library h (s ∷ cut e.height slots) (e ∷ entries)
    entries_enter e entries s slots p lead =
        let n = cut-length e.height slots (p.0) in
        let same : cut e.height (s ∷ cut e.height slots) ≡ cut e.height slots = cut_more e.height (s ∷ []) (cut e.height slots) (omega (arith, n)) ∙ cut_cut e.height e.height slots (omega arith) in
        (omega (arith, n), subst (AreSlots library h) (sym same) (p.1), subst (λ z. AreEntries library h z entries) (sym same) (p.2), p.3, subst (LeadsHeld entries) (sym (on_top e.height s (cut e.height slots) n)) lead)

    pub entries_marked : (q : ℕ) (slots : List Slot) (entries : List Entry) → AreEntries library h slots entries → AreEntries library h slots (map (remark q) entries)
    entries_marked q slots [] p = tt
    entries_marked q slots (e ∷ entries) p = (p.0, p.1, entries_marked q (cut e.height slots) entries (p.2), held_marked e.handler q entries (p.3), leads_marked q entries (on_height e.height slots) (p.4))

    -- a new entry
    pub entries_new : (e : Entry) (slots : List Slot) (entries : List Entry) → e.height ≡ length slots → AreSlots library h slots → AreEntries library h slots entries → AreHeld e.handler entries → AreEntries library h slots (e ∷ entries)
    entries_new e slots entries q s p held =
        let all : cut e.height slots ≡ slots = cut_all e.height slots (omega (arith, q)) in
        (omega (arith, q), subst (AreSlots library h) (sym all) s, subst (λ z. AreEntries library h z entries) (sym all) p, held, subst (LeadsHeld entries) (sym (on_none e.height slots (omega (arith, q)))) tt)

    -- a frame that begins
    pub new_in : (name : Name) (number : ℕ) (code : Code) (locals : Locals) (names : ℕ) (role : Role) → IsNamespace h names → AreLocals library h locals → IsRole library h role → IsFrame library h (new_frame name number code locals names role)
    new_in name number code locals names role space p r = record {
      names = space;
      locals = each_append (IsLocal library h) locals (replicate (code.locals - length locals) None) p (each_replicate (IsLocal library h) (code.locals - length locals) None tt);
      role = r;
      slots = tt;
      entries = tt;
      held = tt;
      marked = tt;
    }

  -- on at a position
  pub goes_in : (q : ℕ) (slots : List Slot) (entries : List Entry) (frame : Frame) (frames : List Frame) (w : PlainWorld) → IsSound library w → IsNamespace w.heap frame.names → AreLocals library w.heap frame.locals → IsRole library w.heap frame.role
      → AreSlots library w.heap slots → AreEntries library w.heap slots entries → AreHeld q entries → Each (IsFrame library w.heap) frames → IsKept library (go q slots entries frame frames w)
  goes_in q slots entries frame frames w s names locals role p e held fs =
      (s, (record { names = names; locals = locals; role = role; slots = p; entries = entries_marked w.heap q slots entries e; held = held_marked q q entries held; marked = all_marks q entries }, fs))
