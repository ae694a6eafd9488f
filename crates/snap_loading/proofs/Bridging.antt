-- A code of the library by its module and number: the machine's code, and its flow as the verifier has it.
use Rattle.std.proofs.Common.{◌≡◌, ℕ, zero, suc, ◌+◌, ◌<◌, List, [], ◌∷◌, length, map, Option, Some, None, refl, sym, ap, ap₂, ◌∙◌, subst, arith, slice_get, option_map, option_and_then, unwrap_or}
use Rattle.std.proofs.lemmas.List.{length-map}
use Rattle.std.proofs.lemmas.Option.{slice_get_within}
use Rattle.bc_ops.specs.declared.instr.Op.{Op}
use Rattle.bc_ops.specs.declared.instr.Op.TheVariants as ops
use Rattle.bc_ops.specs.declared.instr.Instr.TheVariants as instrs
use Rattle.bc_ops.specs.declared.listing.Target.TheVariants.{Position, Offset}
use Rattle.bc_ops.specs.declared.listing.Item as listings
use Rattle.bc_ops.specs.declared.listing.Item.TheVariants as listed
use Rattle.bc_ops.specs.Listing.{Lists, item}
use Rattle.bc_ops.proofs.Law.{encodable}
use Rattle.bc_ops.proofs.Lists.{one_listing}
use Rattle.bc_flow.specs.Action.{action, instr_action, op_action}
use Rattle.bc_flow.specs.Code as flow
use Rattle.bc_flow.specs.Code.{locals}
use Rattle.bc_flow.specs.Verified.{Holds as Meets}
use Rattle.bc_labels.specs.Positions.{CodeList, Listed, Starts, Reads, position_in}
use Rattle.bc_labels.proofs.Order.{each}
use Rattle.bc_labels.proofs.Pieces.{one, stands}
use Rattle.bc_library.specs.mpy_tree.declared.module.Constant.{Constant}
use Rattle.bc_library.specs.mpy_tree.Raw.{Module}
use Rattle.bc_library.specs.mpy_tree.Codes.{Placed}
use Rattle.bc_library.specs.mpy_tree.Resolved as trees
use Rattle.bc_library.specs.mpy_tree.Resolved.{Resolved, name_at, resolved}
use Rattle.bc_library.specs.mpy_tree.Values.{value_of}
use Rattle.bc_library.specs.mpy_tree.bc_prelude.declared.prelude.Prelude.{Prelude}
use Rattle.bc_library.specs.bc_verify.Body as verify
use Rattle.bc_library.specs.bc_verify.Body.{Body, Says}
use Rattle.bc_library.proofs.bc_verify_lemmas.Bodies.{same_instructions}
use Rattle.bc_library.proofs.bc_verify_lemmas.bc_prelude_lemmas.Preludes.{same_prelude}
use Rattle.bc_library.specs.Shelf.{Shelf, Named, module_at}
use Rattle.bc_resolved.specs.bc_machine.Library as machine
use Rattle.bc_resolved.specs.bc_machine.Library.{Line, Code, Entry, Holds, Refused, entry_in, code_at, code_in, module_in, item_of}
use Rattle.bc_resolved.proofs.InBytes.{IsRegular}
use Rattle.bc_resolved.proofs.Regular.{list_regular}
use Rattle.vm_starting.specs.vm_states.bc_progress.Plans.{flow_of, action_of}
use Rattle.vm_starting.specs.vm_states.bc_rows.declared.row.Row.{Row}
use Rattle.vm_starting.specs.vm_states.bc_rows.Codes.{code_numbered}
use Rattle.vm_starting.specs.vm_states.bc_rows.Rows.{IsRowOf, IsRow}
use Rattle.vm_starting.specs.vm_states.bc_rows.Runs.{RunsAs, line_at}
use Rattle.vm_starting.specs.vm_states.Means.{Program, Means}
use Rattle.vm_starting.specs.Codes.{IsCodeOf}

pub some_is : {A : Type 0} (x y : A) → Some x ≡ Some y → x ≡ y
some_is x y e = cc

-- one instruction
-- ===============

named_action : (size : ℕ) (op : Op) (n : ℕ) (o : Option (List ℕ)) → op_action op n ≡ op_action op 0 → op_action op n ≡ action_of (item_of size (unwrap_or (option_map (trees.named op) o) (trees.plain (instrs.Name op n))))
unfolding instr_action
named_action size op n None h = refl
named_action size op n (Some text) h = h

abbrev made : Constant → Resolved
made c = trees.object (value_of c)

object_action : (size n : ℕ) (o : Option Constant) → op_action ops.LoadConstObj n ≡ action_of (item_of size (unwrap_or (option_map made o) (trees.plain (instrs.Num ops.LoadConstObj n))))
unfolding instr_action op_action
object_action size n None = refl
object_action size n (Some c) = refl

action_same : (m : Module) (size : ℕ) (i : listings.Item) → IsRegular i → action size i ≡ action_of (item_of size (resolved m i))
unfolding action instr_action
action_same m size (listed.Plain (instrs.Name op n)) h = named_action size op n (name_at m n) h
action_same m size (listed.Plain (instrs.Num ops.LoadConstObj n)) h = object_action size n (slice_get m.objects n)
action_same m size (listed.Plain instr) h = refl
action_same m size (listed.Jump op (Position p)) h = refl
action_same m size (listed.Jump op (Offset z)) h = refl
action_same m size (listed.Unwind (Position p) b) h = refl
action_same m size (listed.Unwind (Offset z) b) h = refl

-- lists
-- =====

pub get_map : {A B : Type 0} (f : A → B) (xs : List A) (p : ℕ) (y : B) → slice_get (map f xs) p ≡ Some y → (x : A) × (slice_get xs p ≡ Some x) × (f x ≡ y)
get_map f [] p y e = cc
get_map f (x ∷ xs) zero y e = (x, refl, some_is (f x) y e)
get_map f (x ∷ xs) (suc p) y e = get_map f xs p y e

pub get_there : {A : Type 0} (xs : List A) (n : ℕ) → n < length xs → (x : A) × (slice_get xs n ≡ Some x)
get_there [] n lt = absurd (omega (arith, lt))
get_there (x ∷ xs) zero lt = (x, refl)
get_there (x ∷ xs) (suc n) lt = get_there xs n (omega (arith, lt))

same_lists : {A : Type 0} (xs ys : List A) → length xs ≡ length ys → ((p : ℕ) (x y : A) → slice_get xs p ≡ Some x → slice_get ys p ≡ Some y → x ≡ y) → xs ≡ ys
same_lists [] [] n h = refl
same_lists [] (y ∷ ys) n h = absurd (omega (arith, n))
same_lists (x ∷ xs) [] n h = absurd (omega (arith, n))
same_lists (x ∷ xs) (y ∷ ys) n h = ap₂ (λ a zs. a ∷ zs) (h 0 x y refl refl) (same_lists xs ys (omega (arith, n)) (λ p a b e f. h (suc p) a b e f))

-- a code
-- ======

module _ (shelf : Shelf) (m : Module) (row : Row) (code : Code) (runs : RunsAs shelf m row code) (l : CodeList) (is : Listed row.instructions.now l) where
  -- the machine's line of a position has the file's instruction
  pub line_item : (q : ℕ) (i : listings.Item) (line : Line) → slice_get l.items q ≡ Some i → slice_get code.lines q ≡ Some line → line.item ≡ item_of (length l.items) (resolved m i)
  line_item q i line e f =
      let bytes = row.instructions.now in
      let many = each bytes l is in
      let within = slice_get_within l.items q i e in
      let o = get_there l.offsets q (omega (arith, many, within)) in
      let at = o.0 in
      let s = stands bytes l q at is o.1 in
      let end : ℕ = at + length s.text in
      let here : position_in l.offsets at ≡ q = one bytes l q at is o.1 in
      let starts : Starts l.offsets at = ap (λ z. slice_get l.offsets z) here ∙ o.1 in
      let reads : Reads l at s.instr end = record {
        is = ap (λ z. slice_get l.items z) here ∙ s.item_is;
        next = λ lt.
            let n = s.next (subst (λ z. suc z < length l.items) here lt) in
            let there : position_in l.offsets end ≡ suc q = one bytes l (suc q) end is n in
            (ap (λ z. slice_get l.offsets z) there ∙ n, there ∙ ap suc (sym here));
        encodable = encodable s.text s.instr s.spells;
      } in
      let own : slice_get code.lines q ≡ Some (line_at m (length l.items) row.line_table.now at (item l.offsets end s.instr)) =
      ap (λ z. slice_get code.lines z) (sym here) ∙ runs.line l at s.instr end is starts reads in
      let same : line ≡ line_at m (length l.items) row.line_table.now at (item l.offsets end s.instr) = some_is _ _ (sym f ∙ own) in
      let item_same : i ≡ item l.offsets end s.instr = some_is _ _ (sym e ∙ s.item_is) in
      ap (λ (z : Line). z.item) same ∙ ap (λ z. item_of (length l.items) (resolved m z)) (sym item_same)

  line_is : (q : ℕ) (i : listings.Item) (line : Line) → slice_get l.items q ≡ Some i → slice_get code.lines q ≡ Some line → action (length l.items) i ≡ action_of line.item
  line_is q i line e f = action_same m (length l.items) i (list_regular row.instructions.now l.items is.is_list q i e) ∙ ap action_of (sym (line_item q i line e f))

  actions_are : map (λ (z : Line). action_of z.item) code.lines ≡ map (action (length l.items)) l.items
  actions_are =
      same_lists (map (λ (z : Line). action_of z.item) code.lines) (map (action (length l.items)) l.items)
      (length-map code.lines (λ (z : Line). action_of z.item) ∙ (runs.as_many l is ∙ sym (length-map l.items (action (length l.items)))))
      (λ q x y e f.
      let a = get_map (λ (z : Line). action_of z.item) code.lines q x e in
      let b = get_map (action (length l.items)) l.items q y f in
      sym a.2 ∙ (sym (line_is q b.0 a.0 b.1 a.1) ∙ b.2))

-- the machine's code of these numbers has this flow, with the rooms of its plan, and its instructions start at these offsets
pub record IsFlow (p : Program) (m k : ℕ) (body : Body) (offsets : List ℕ) : Type 0 where
  pub code : Code
  pub code_is : code_at p.library (p.tables.module_name m) k ≡ Some code
  pub of_module : m < length p.shelf.modules
  pub starts_are : p.tables.starts m k ≡ offsets
  pub bytes : List ℕ
  pub is_list : Listed bytes (record { items = body.items; offsets = offsets })
  pub locals_are : code.locals ≡ locals body.arguments body.items
  pub flow_is : flow_of (p.plans (p.tables.module_name m) k) code
      ≡ record (verify.flow_of body) { n_state = (p.plans (p.tables.module_name m) k).n_state; n_exc = (p.plans (p.tables.module_name m) k).n_exc }
  pub meets : Meets (flow_of (p.plans (p.tables.module_name m) k) code) (p.plans (p.tables.module_name m) k).assigned
  -- its lines have the file's instructions
  pub file : Module
  pub lines_are : (q : ℕ) (i : listings.Item) (line : Line) → slice_get body.items q ≡ Some i → slice_get code.lines q ≡ Some line → line.item ≡ item_of (length body.items) (resolved file i)

pub held_by : (o : Option Entry) (k : ℕ) (code : Code) → code_in (module_in o) k ≡ Some code → (mm : machine.Module) × (o ≡ Some (Holds mm)) × (slice_get mm.codes k ≡ Some code)
held_by None k code e = absurd cc
held_by (Some Refused) k code e = absurd cc
held_by (Some (Holds mm)) k code e = (mm, refl, e)

counted : (shelf : Shelf) (i : ℕ) (m : Module) → module_at shelf i ≡ Some m → i < length shelf.modules
counted shelf i m e = by (slice_get shelf.modules i) refl e
  where
    by : (o : Option Named) → slice_get shelf.modules i ≡ o → option_and_then (λ (n : Named). Some n.held) o ≡ Some m → i < length shelf.modules
    by None f g = absurd cc
    by (Some n) f g = slice_get_within shelf.modules i n f

pub is_flow : (p : Program) (m k : ℕ) (row : Row) (placed : Placed) (body : Body) (offsets : List ℕ) → Means p → (is_row : IsRow p.shelf m k row) → IsCodeOf p m k row
    → code_numbered p.shelf m k ≡ Some placed → Says placed.bytes body offsets → IsFlow p m k body offsets
is_flow p m k row placed body offsets means is_row is there says =
    let same : is_row.code ≡ placed = some_is _ _ (sym is_row.there ∙ there) in
    let r : IsRowOf p.shelf m placed row = subst (λ z. IsRowOf p.shelf m z row) same is_row.is_row in
    let prelude : r.prelude ≡ says.prelude = same_prelude placed.bytes r.prelude says.prelude r.begins says.begins in
    let instructions : row.instructions.now ≡ says.begins.instructions = r.instructions ∙ same_instructions placed.bytes r.prelude says.prelude r.begins says.begins prelude in
    let own : Lists row.instructions.now body.items offsets = subst (λ z. Lists z body.items offsets) (sym instructions) says.lists in
    let l : CodeList = record { items = body.items; offsets = offsets } in
    let both = one_listing row.instructions.now is.list.items body.items is.list.offsets offsets is.listed own in
    let of_row = one_listing row.instructions.now r.list.items body.items r.list.offsets offsets r.listed own in
    let actions = actions_are p.shelf is.m row is.code is.runs l own in
    let args : r.prelude.args ≡ body.arguments = ap (λ (z : Prelude). z.args) prelude ∙ sym says.arguments in
    let locals_same : is.code.locals ≡ locals body.arguments body.items = sym is.runs.locals ∙ (r.locals ∙ ap₂ locals args of_row.0) in
    let plan = p.plans (p.tables.module_name m) k in
    let h = held_by (entry_in p.library (p.tables.module_name m)) k is.code is.there in
    let verified = (means.follows (p.tables.module_name m) h.0 h.1).codes k is.code h.2 in
    record {
      code = is.code;
      code_is = is.there;
      of_module = counted p.shelf m is.m is.held;
      starts_are = is.starts_are ∙ both.1;
      bytes = row.instructions.now;
      is_list = own;
      locals_are = locals_same;
      flow_is =
          ap (λ z. let c : flow.Code = record { actions = z; n_state = plan.n_state; n_exc = plan.n_exc; locals = is.code.locals } in c) actions
          ∙ ap (λ z. let c : flow.Code = record { actions = map (action (length body.items)) body.items; n_state = plan.n_state; n_exc = plan.n_exc; locals = z } in c) locals_same;
      meets = verified.meets;
      file = is.m;
      lines_are = line_item p.shelf is.m row is.code is.runs l own;
    }
