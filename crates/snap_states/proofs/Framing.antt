-- Frames in parts, and one after another.
use Rattle.std.proofs.Common.{◌≡◌, ◌↔◌, ℕ, zero, suc, ◌+◌, ◌-◌, ◌<◌, ◌≤◌, Bool, true, false, List, [], ◌∷◌, length, map, get_or, reverse, drop, Option, Some, None, refl, sym, ap, subst, ◌∙◌, arith}
use Rattle.std.specs.Prelude.{slice_get}
use Rattle.std.proofs.lemmas.List.{length-reverse, get_or-reverse, drop_all}
use Rattle.bc_library.specs.mpy_tree.bc_ops.declared.instr.Op.{Op}
use Rattle.bc_library.specs.mpy_tree.bc_ops.declared.instr.Op.TheVariants as ops
use Rattle.bc_library.specs.mpy_tree.bc_ops.declared.instr.Instr.TheVariants as instrs
use Rattle.bc_library.specs.mpy_tree.bc_ops.declared.listing.Item.{Item}
use Rattle.bc_library.specs.mpy_tree.bc_ops.declared.listing.Item.TheVariants as items
use Rattle.bc_library.specs.bc_shapes.declared.kinds.Kind.{Kind}
use Rattle.bc_library.specs.bc_shapes.declared.shape.Entry.{Entry}
use Rattle.bc_library.specs.bc_shapes.Shape.{At}
use Rattle.std.proofs.lemmas.Bool.{false≢true, true≢false}
use Rattle.bc_library.specs.bc_flow.Action.{Action, action}
use Rattle.bc_library.specs.bc_flow.Edges.{takes}
use Rattle.bc_library.specs.bc_verify.Body.{Body, body_of, flow_of}
use Rattle.bc_library.specs.Shelf.{Shelf}
use Rattle.bc_shapes.proofs.Loops.{drop_uncons}
use Rattle.snap_grammar.specs.declared.parts.EntryPart.{EntryPart}
use Rattle.snap_grammar.specs.declared.parts.SlotPart.{SlotPart}
use Rattle.snap_grammar.specs.declared.parts.RolePart.{RolePart}
use Rattle.snap_grammar.specs.declared.parts.RolePart.TheVariants as roles
use Rattle.snap_grammar.specs.declared.parts.FramePart.{FramePart}
use Rattle.snap_grammar.specs.declared.parts.Snapshot.{Snapshot}
use Rattle.snap_states.specs.declared.shapes.Shapes.{Shapes}
use Rattle.snap_states.specs.Shapes.{StandsAt}
use Rattle.snap_states.specs.Frames.{AreShapes, FitsShape, HasStack, StandsIn, assigned, is_call, is_call_op, is_import, is_import_op}
use Rattle.snap_states.specs.States.{Waits, IsEntryAt, AreEntriesAt, ShowsParts, IsFineFrame, AreFineFrames}
use Rattle.bc_library.specs.bc_flow.Machine.{Stack}
use Rattle.bc_library.specs.bc_flow.Verified.{Assigned}
use Rattle.snap_states.specs.Stacks.{jumps_lead_on}
use Rattle.snap_states.specs.Fronts.{Lies, IsLowest, AreNone, StartOnce}
use Rattle.snap_states.proofs.Told.{jumps_from, jumps_to, jumps_covers}
use Rattle.snap_states.proofs.Shaping.{same_stand, jumps_on}

-- items and actions
-- =================

map_get : {A B : Type 0} → (f : A → B) (xs : List A) (p : ℕ) (x : A) → slice_get xs p ≡ Some x → slice_get (map f xs) p ≡ Some (f x)
map_get f [] p x e = absurd cc
map_get f (y ∷ xs) zero x e = let is : y ≡ x = cc in ap (λ z. Some (f z)) is
map_get f (y ∷ xs) (suc p) x e = map_get f xs p x e

action_is : (size : ℕ) (items : List Item) (p : ℕ) (item : Item) (a : Action) → slice_get items p ≡ Some item → slice_get (map (action size) items) p ≡ Some a → a ≡ action size item
action_is size items p item a e g = let q : Some a ≡ Some (action size item) = sym g ∙ map_get (action size) items p item e in cc

call_op_waits : (op : Op) (k n : ℕ) (a : Action) → is_call_op op ≡ true → n ≡ length (takes a) → Waits (Some roles.Call) (items.Plain (instrs.Num op k)) a n
call_op_waits ops.CallFunction k n a e h = h
call_op_waits ops.CallMethod k n a e h = h
call_op_waits _ k n a e h = absurd (false≢true e)

pub call_waits : (item : Item) (a : Action) (n : ℕ) → is_call item ≡ true → n ≡ length (takes a) → Waits (Some roles.Call) item a n
call_waits (items.Plain (instrs.Num op k)) a n e h = call_op_waits op k n a e h
call_waits _ a n e h = absurd (false≢true e)

no_call_op : (op : Op) (k n : ℕ) (a : Action) → is_call_op op ≡ false → Waits (Some roles.Call) (items.Plain (instrs.Num op k)) a n → ⊥
no_call_op ops.CallFunction k n a e h = true≢false e
no_call_op ops.CallMethod k n a e h = true≢false e
no_call_op _ k n a e h = absurd h

pub no_call : (item : Item) (a : Action) (n : ℕ) → is_call item ≡ false → Waits (Some roles.Call) item a n → ⊥
no_call (items.Plain (instrs.Num op k)) a n e h = no_call_op op k n a e h
no_call _ a n e h = absurd h

import_op_waits : (m : ℕ) (op : Op) (k : ℕ) (a : Action) → is_import_op op ≡ true → Waits (Some (roles.Import m)) (items.Plain (instrs.Name op k)) a 0
import_op_waits m ops.ImportName k a e = refl
import_op_waits m _ k a e = absurd (false≢true e)

pub import_waits : (m : ℕ) (item : Item) (a : Action) → is_import item ≡ true → Waits (Some (roles.Import m)) item a 0
import_waits m (items.Plain (instrs.Name op k)) a e = import_op_waits m op k a e
import_waits m _ a e = absurd (false≢true e)

no_import_op : (m : ℕ) (op : Op) (k n : ℕ) (a : Action) → is_import_op op ≡ false → Waits (Some (roles.Import m)) (items.Plain (instrs.Name op k)) a n → ⊥
no_import_op m ops.ImportName k n a e h = true≢false e
no_import_op m _ k n a e h = absurd h

pub no_import : (m : ℕ) (item : Item) (a : Action) (n : ℕ) → is_import item ≡ false → Waits (Some (roles.Import m)) item a n → ⊥
no_import m (items.Plain (instrs.Name op k)) a n e h = no_import_op m op k n a e h
no_import m _ a n e h = absurd h

-- what is taken is one number
pub one_wait : (above : Option RolePart) (item : Item) (a : Action) (m n : ℕ) → Waits above item a m → Waits above item a n → m ≡ n
one_wait None item a m n h k = h ∙ sym k
one_wait (Some roles.Main) item a m n h k = absurd h
one_wait (Some roles.Call) (items.Plain (instrs.Num ops.CallFunction c)) a m n h k = h ∙ sym k
one_wait (Some roles.Call) (items.Plain (instrs.Num ops.CallMethod c)) a m n h k = h ∙ sym k
one_wait (Some roles.Call) _ a m n h k = absurd h
one_wait (Some (roles.Import i)) (items.Plain (instrs.Name ops.ImportName c)) a m n h k = h ∙ sym k
one_wait (Some (roles.Import i)) _ a m n h k = absurd h

-- a frame
-- =======

module _ (shelf : Shelf) (s : Snapshot) (above : Option RolePart) (f : FramePart) (x : Shapes) (are : AreShapes shelf f.module_number f.code x) where
  stand : StandsIn shelf s above f x → StandsAt shelf f.module_number f.code f.at
  stand t = record {
    placed = are.placed;
    there = are.there;
    body = body_of x.code;
    offsets = x.offsets.items;
    says = are.says;
    a = assigned x;
    holds = are.holds;
    least = are.least;
    position = t.position;
    here = t.here;
    shape = t.shape;
    is = t.is;
  }

  pub to_fine : StandsIn shelf s above f x → IsFineFrame shelf s above f
  unfolding stand
  to_fine t = record {
    stands = stand t;
    names = t.fits.parts.names;
    role = t.fits.parts.role;
    as_many_locals = t.fits.parts.as_many_locals;
    locals = t.fits.parts.fine_locals;
    item = t.fits.stack.item;
    item_is = t.fits.stack.item_is;
    action = action (length x.code.items.items) t.fits.stack.item;
    action_is = map_get (action (length x.code.items.items)) x.code.items.items t.position t.fits.stack.item t.fits.stack.item_is;
    taken = t.fits.stack.taken;
    waits = t.fits.stack.waits;
    stack = t.fits.stack.stack;
    shows = t.fits.stack.lies.shows;
    slots = t.fits.stack.lies.stands;
    entries = t.fits.parts.entries_at;
    kept = t.fits.parts.kept;
    jumps = t.fits.stack.jumps;
  }

  pub from_fine : IsFineFrame shelf s above f → StandsIn shelf s above f x
  from_fine h =
      let same = same_stand shelf f.module_number f.code f.at x are h.stands in
      let p = h.stands.position in
      let item_is : slice_get x.code.items.items p ≡ Some h.item = subst (λ (b : Body). slice_get b.items p ≡ Some h.item) same.body h.item_is in
      let action_there : slice_get (map (action (length x.code.items.items)) x.code.items.items) p ≡ Some h.action = subst (λ (b : Body). slice_get (flow_of b).actions p ≡ Some h.action) same.body h.action_is in
      record {
        position = p;
        here = subst (λ z. slice_get z p ≡ Some f.at) same.offsets h.stands.here;
        shape = h.stands.shape;
        is = same.on p h.stands.shape h.stands.is;
        fits = record {
          parts = record {
            names = h.names;
            role = h.role;
            as_many_locals = subst (λ (b : Body). length f.locals ≡ (flow_of b).locals) same.body h.as_many_locals;
            fine_locals = h.locals;
            entries_at = subst (λ z. AreEntriesAt z (reverse f.entries) h.stands.shape.entries) same.offsets h.entries;
            kept = h.kept;
          };
          stack = record {
            item = h.item;
            item_is = item_is;
            taken = h.taken;
            waits = subst (λ a. Waits above h.item a h.taken) (action_is (length x.code.items.items) x.code.items.items p h.item h.action item_is action_there) h.waits;
            stack = h.stack;
            lies = record { shows = subst (λ z. ShowsParts shelf s z (reverse f.slots) h.stack) same.offsets h.shows; stands = h.slots };
            jumps = jumps_on h.stands.a (assigned x) same.on h.stands.shape.entries h.stack h.jumps;
          };
        };
      }

-- its slots
-- =========

pub get_there : {A : Type 0} → (xs : List A) (i : ℕ) (x : A) → i < length xs → x ≡ get_or xs i x → slice_get xs i ≡ Some x
get_there [] i x lt e = absurd (omega (arith, lt))
get_there (y ∷ xs) zero x lt e = ap Some (sym e)
get_there (y ∷ xs) (suc i) x lt e = get_there xs i x (omega (arith, lt)) e

within_items : {A : Type 0} → (xs : List A) (i : ℕ) (x : A) → slice_get xs i ≡ Some x → i < length xs
within_items [] i x e = absurd cc
within_items (y ∷ xs) zero x e = omega arith
within_items (y ∷ xs) (suc i) x e = let lt = within_items xs i x e in omega (arith, lt)

module _ (shelf : Shelf) (s : Snapshot) (above : Option RolePart) (f : FramePart) (items : List Item) (offsets : List ℕ) (a : Assigned) (position : ℕ) (shape : At) where
  abbrev Has : Type 0
  Has = HasStack shelf s above f items offsets a position shape

  pub item_none : length items ≤ position → Has → ⊥
  item_none le h = let lt = within_items items position h.item h.item_is in omega (arith, le, lt)

  module _ (item : Item) (item_is : slice_get items position ≡ Some item) where
    same_item : (h : Has) → h.item ≡ item
    same_item h = let q : Some h.item ≡ Some item = sym h.item_is ∙ item_is in cc

    waits_so : (h : Has) → Waits above item (action (length items) item) h.taken
    waits_so h = subst (λ i. Waits above i (action (length items) i) h.taken) (same_item h) h.waits

    pub wait_none : ((n : ℕ) → Waits above item (action (length items) item) n → ⊥) → Has → ⊥
    wait_none n h = n h.taken (waits_so h)

    module _ (taken : ℕ) (waits : Waits above item (action (length items) item) taken) where
      lies_so : (h : Has) → Lies shelf s offsets (reverse f.slots) (drop taken shape.slots) h.stack
      lies_so h = subst (λ n. Lies shelf s offsets (reverse f.slots) (drop n shape.slots) h.stack) (one_wait above item (action (length items) item) h.taken taken (waits_so h) waits) h.lies

      pub stack_none : AreNone shelf s offsets (reverse f.slots) (drop taken shape.slots) → Has → ⊥
      stack_none n h = n.none h.stack (lies_so h)

      pub stack_there : (st : Stack) → IsLowest shelf s offsets (reverse f.slots) (drop taken shape.slots) st → jumps_lead_on a shape.entries st ≡ true → Has
      stack_there st l e = record { item = item; item_is = item_is; taken = taken; waits = waits; stack = st; lies = l.lies; jumps = jumps_from a shape.entries st e }

      pub stack_only : (st : Stack) → IsLowest shelf s offsets (reverse f.slots) (drop taken shape.slots) st → Has → jumps_lead_on a shape.entries st ≡ true
      stack_only st l h = jumps_to a shape.entries st (jumps_covers a shape.entries st h.stack (l.covers h.stack (lies_so h)) h.jumps)

      pub stack_decides : (ps : List SlotPart) (ks : List Kind) (os : List ℕ) (st : Stack) (b : Bool) → os ≡ offsets → ps ≡ f.slots → ks ≡ drop taken shape.slots → IsLowest shelf s os (reverse ps) ks st → b ≡ jumps_lead_on a shape.entries st → (b ≡ true) ↔ Has
      stack_decides ps ks os st b oe pe ke l e =
          let low = subst (λ z. IsLowest shelf s offsets (reverse f.slots) z st) ke (subst (λ z. IsLowest shelf s offsets (reverse z) ks st) pe (subst (λ z. IsLowest shelf s z (reverse ps) ks st) oe l)) in
          (λ t. stack_there st low (sym e ∙ t), λ h. e ∙ stack_only st low h)

-- the parts and the slots of a frame that stands at a known position
module _ (shelf : Shelf) (s : Snapshot) (above : Option RolePart) (f : FramePart) (x : Shapes) (once : StartOnce x.offsets.items) (position : ℕ) (here : slice_get x.offsets.items position ≡ Some f.at) where
  pub no_shape : None ≡ assigned x position → StandsIn shelf s above f x → ⊥
  no_shape e h =
      let same : h.position ≡ position = once h.position position f.at h.here here in
      let there : assigned x position ≡ Some h.shape = subst (λ p. assigned x p ≡ Some h.shape) same h.is in
      let q : None ≡ Some h.shape = e ∙ there in
      cc

  module _ (shape : At) (is : Some shape ≡ assigned x position) where
    same_shape : (h : StandsIn shelf s above f x) → h.shape ≡ shape
    same_shape h =
        let same : h.position ≡ position = once h.position position f.at h.here here in
        let there : assigned x position ≡ Some h.shape = subst (λ p. assigned x p ≡ Some h.shape) same h.is in
        let q : Some h.shape ≡ Some shape = sym there ∙ sym is in
        cc

    pub fits_so : StandsIn shelf s above f x → FitsShape shelf s above f x position shape
    fits_so h =
        subst (FitsShape shelf s above f x position) (same_shape h)
        (subst (λ p. FitsShape shelf s above f x p h.shape) (once h.position position f.at h.here here) h.fits)

    pub stands_so : FitsShape shelf s above f x position shape → StandsIn shelf s above f x
    stands_so h = record { position = position; here = here; shape = shape; is = sym is; fits = h }

-- one after another
-- =================

-- the next from behind
pub drop_reverse : {A : Type 0} → (xs : List A) (i : ℕ) (x : A) → i < length xs → x ≡ get_or xs (length xs - 1 - i) x → drop i (reverse xs) ≡ x ∷ drop (i + 1) (reverse xs)
drop_reverse xs i x lt is =
    let long = length-reverse xs in
    drop_uncons (reverse xs) i x (omega (arith, long, lt)) (is ∙ sym (get_or-reverse xs i x lt))

pub entries_more : (offsets : List ℕ) (parts : List EntryPart) (entries : List Entry) (i : ℕ) (p : EntryPart) (e : Entry) → i < length parts → i < length entries → p ≡ get_or parts (length parts - 1 - i) p → e ≡ get_or entries i e
    → AreEntriesAt offsets (drop i (reverse parts)) (drop i entries) ↔ (IsEntryAt offsets p e × AreEntriesAt offsets (drop (i + 1) (reverse parts)) (drop (i + 1) entries))
entries_more offsets parts entries i p e lt le is at =
    let front = drop_reverse parts i p lt is in
    let entry = drop_uncons entries i e le at in (
      λ h. subst (λ z. AreEntriesAt offsets z (e ∷ drop (i + 1) entries)) front (subst (AreEntriesAt offsets (drop i (reverse parts))) entry h),
      λ h. subst (AreEntriesAt offsets (drop i (reverse parts))) (sym entry) (subst (λ z. AreEntriesAt offsets z (e ∷ drop (i + 1) entries)) (sym front) h),
    )

same_at : {A : Type 0} → (xs : List A) (i : ℕ) (d : A) → i < length xs → get_or xs i d ≡ get_or xs i (get_or xs i d)
same_at [] i d lt = absurd (omega (arith, lt))
same_at (x ∷ xs) zero d lt = refl
same_at {A = A} (x ∷ xs) (suc i) d lt = same_at xs i d (omega (arith, lt)) ∙ within_any xs i d (get_or xs i d) (get_or (x ∷ xs) (suc i) d) (omega (arith, lt))
  where
    within_any : (ys : List A) (k : ℕ) (e f g : A) → k < length ys → get_or ys k f ≡ get_or ys k g
    within_any [] k e f g less = absurd (omega (arith, less))
    within_any (y ∷ ys) zero e f g less = refl
    within_any (y ∷ ys) (suc k) e f g less = within_any ys k e f g (omega (arith, less))

pub entries_next : (offsets : List ℕ) (parts : List EntryPart) (entries : List Entry) (i : ℕ) (p : EntryPart) (e : Entry) → i < length parts → i < length entries
    → AreEntriesAt offsets (drop i (reverse parts)) (drop i entries) ↔ (IsEntryAt offsets (get_or parts (length parts - 1 - i) p) (get_or entries i e) × AreEntriesAt offsets (drop (i + 1) (reverse parts)) (drop (i + 1) entries))
entries_next offsets parts entries i p e lt le =
    entries_more offsets parts entries i (get_or parts (length parts - 1 - i) p) (get_or entries i e) lt le (same_at parts (length parts - 1 - i) p (omega (arith, lt))) (same_at entries i e le)

pub entries_end : (offsets : List ℕ) (parts : List EntryPart) (entries : List Entry) (i : ℕ) → length parts ≤ i → length entries ≤ i → AreEntriesAt offsets (drop i (reverse parts)) (drop i entries)
entries_end offsets parts entries i lp le =
    let long = length-reverse parts in
    subst (AreEntriesAt offsets (drop i (reverse parts))) (sym (drop_all i entries le)) (subst (λ z. AreEntriesAt offsets z []) (sym (drop_all i (reverse parts) (omega (arith, long, lp)))) tt)

entries-length : (offsets : List ℕ) (ps : List EntryPart) (es : List Entry) → AreEntriesAt offsets ps es → length ps ≡ length es
entries-length offsets [] [] h = refl
entries-length offsets [] (e ∷ es) h = absurd h
entries-length offsets (p ∷ ps) [] h = absurd h
entries-length offsets (p ∷ ps) (e ∷ es) h = ap suc (entries-length offsets ps es h.1)

pub entries_apart : (offsets : List ℕ) (parts : List EntryPart) (entries : List Entry) → (length parts ≡ length entries → ⊥) → AreEntriesAt offsets (reverse parts) entries → ⊥
entries_apart offsets parts entries n h = n (sym (length-reverse parts) ∙ entries-length offsets (reverse parts) entries h)

module _ (shelf : Shelf) (s : Snapshot) where
  pub frames_more : (above : Option RolePart) (f : FramePart) (fs : List FramePart) → (above ≡ Some roles.Main → ⊥) → AreFineFrames shelf s above (f ∷ fs) ↔ (IsFineFrame shelf s above f × AreFineFrames shelf s (Some f.role) fs)
  frames_more None f fs n = (λ h. h, λ h. h)
  frames_more (Some roles.Main) f fs n = absurd (n refl)
  frames_more (Some roles.Call) f fs n = (λ h. h, λ h. h)
  frames_more (Some (roles.Import m)) f fs n = (λ h. h, λ h. h)

  pub frames_main : (above : Option RolePart) (f : FramePart) (fs : List FramePart) → above ≡ Some roles.Main → AreFineFrames shelf s above (f ∷ fs) → ⊥
  frames_main None f fs e h = absurd cc
  frames_main (Some roles.Main) f fs e h = h
  frames_main (Some roles.Call) f fs e h = absurd cc
  frames_main (Some (roles.Import m)) f fs e h = absurd cc

  pub frames_at : (above : Option RolePart) (fs gs : List FramePart) → fs ≡ gs → AreFineFrames shelf s above fs ↔ AreFineFrames shelf s above gs
  frames_at above fs gs e = (λ h. subst (AreFineFrames shelf s above) e h, λ h. subst (AreFineFrames shelf s above) (sym e) h)
