-- The codes of a module, as a walk through them meets them.
use Rattle.std.proofs.Common.{◌≡◌, ℕ, zero, suc, ◌+◌, ◌-◌, ◌<◌, ◌≤◌, Bool, true, false, ltb, List, [], ◌∷◌, ◌++◌, length, get_or, take, Some, refl, sym, ap, subst, ◌∙◌, append_assoc, arith}
use Rattle.std.specs.Prelude.{slice_get, option_and_then}
use Rattle.std.specs.List.{flat_map, AllZip, AllByRecursion}
use Rattle.std.proofs.lemmas.Bool.Decides.{nat_tests}
use Rattle.std.proofs.lemmas.List.{take_more, take_all, append-nil}
use Rattle.std.proofs.lemmas.List.Concat.{flat_map-append}
use Rattle.std.proofs.lemmas.List.Elements.{All-from_recursion}
use Rattle.mpy_base.specs.Vuint.{vuint}
use Rattle.mpy_base.specs.declared.limits.TheConstants.{MAX_CODE_BYTES, MAX_TABLE}
use Rattle.bc_scheme.specs.bc_ops.declared.instr.Op.{Op}
use Rattle.bc_scheme.specs.bc_ops.declared.instr.Op.TheVariants as ops
use Rattle.bc_scheme.specs.bc_ops.declared.instr.Instr.TheVariants as instrs
use Rattle.bc_scheme.specs.bc_ops.declared.listing.Target.{Target}
use Rattle.bc_scheme.specs.bc_ops.declared.listing.Target.TheVariants.{Position, Offset}
use Rattle.bc_scheme.specs.bc_ops.declared.listing.Item.{Item}
use Rattle.bc_scheme.specs.bc_ops.declared.listing.Item.TheVariants as listed
use Rattle.bc_scheme.specs.bc_ops.Listing.{starts}
use Rattle.bc_verify.specs.bc_flow.Code.{IsOutside}
use Rattle.mpy_writer.specs.mpy_tree.declared.raw.RawCode.{RawCode, RawCode-F, out-RawCode, roll-RawCode, out-roll-RawCode}
use Rattle.mpy_writer.specs.mpy_tree.File.{header_of}
use Rattle.mpy_writer.specs.mpy_tree.Raw.{Module}
use Rattle.mpy_writer.specs.mpy_tree.Canonical.{has_some, children_bytes, code_bytes}
use Rattle.bc_verify.specs.declared.fault.Rule.{Rule}
use Rattle.bc_verify.specs.declared.fault.Rule.TheVariants as rules
use Rattle.bc_verify.specs.Body.{Body, Says}
use Rattle.mpy_writer.specs.mpy_tree.Codes.{code_at}
use Rattle.mpy_writer.proofs.mpy_tree_lemmas.Codes.{children, Nests, whole, get_at}
use Rattle.bc_verify.specs.Rules.{Breaks}
use Rattle.bc_verify.specs.Verified.{IsVerifiedCode, AreVerified}
use Rattle.bc_verify.proofs.Bodies.{one_body}
use Rattle.mpy_writer.specs.declared.tables.Tables.{Tables}
use Rattle.mpy_merge.specs.Far.{IsFarOwn, HasFarCode}
use Rattle.mpy_merge.specs.Heads.{head_of}
use Rattle.mpy_merge.specs.Kept.{NamesThere, GoesTo, IsKept, IsKeptCode}
use Rattle.mpy_merge.specs.Moved.{IsMovedOwn, IsMovedTree}

-- a verified code is kept
-- =======================

module _ (m : Module) (inner : ℕ) (body : Body) where
  Safe : Item → Type 0
  Safe item = (rule : Rule) → Breaks m inner body rule item → ⊥

  there : (n size : ℕ) → (size ≤ n → ⊥) → n < size
  there n size h = by (ltb n size) refl where
    by : (b : Bool) → ltb n size ≡ b → n < size
    by true e = grind (arith, nat_tests)
    by false e = absurd (h (grind (arith, nat_tests)))

  goes : (target : Target) → (IsOutside (length body.items) target → ⊥) → GoesTo (length body.items) target
  goes (Position p) h = record { position = p; target_is = refl; within = there p (length body.items) h }
  goes (Offset z) h = absurd (h tt)

  keep_number : (op : Op) (n : ℕ) → Safe (listed.Plain (instrs.Num op n)) → NamesThere m (instrs.Num op n)
  unfolding Safe
  keep_number ops.LoadConstObj n h = there n (length m.objects) (λ le. h rules.Names le)
  keep_number op n h = tt

  keep : (item : Item) → Safe item → IsKept m (length body.items) item
  unfolding Safe
  keep (listed.Plain (instrs.Name op n)) h = there n (length m.qstrs) (λ le. h rules.Names le)
  keep (listed.Plain (instrs.Num op n)) h = keep_number op n h
  keep (listed.Plain (instrs.Plain op)) h = tt
  keep (listed.Plain (instrs.Int z)) h = tt
  keep (listed.Plain (instrs.Jump op offset wide)) h = tt
  keep (listed.Plain (instrs.Unwind offset wide byte)) h = tt
  keep (listed.Plain (instrs.Unary n)) h = tt
  keep (listed.Plain (instrs.Binary n)) h = tt
  keep (listed.Jump op target) h = goes target (λ outside. h rules.Jump outside)
  keep (listed.Unwind target byte) h = goes target (λ outside. h rules.Jump outside)

  keep_all : (xs : List Item) → ((p : ℕ) (item : Item) → slice_get xs p ≡ Some item → Safe item) → AllByRecursion (IsKept m (length body.items)) xs
  keep_all [] h = tt
  keep_all (x ∷ xs) h = (keep x (h 0 x refl), keep_all xs (λ p item e. h (suc p) item e))

pub kept_code : (m : Module) (levels : ℕ) (code : RawCode) → Nests (length m.qstrs) levels code → IsVerifiedCode m code → IsKeptCode m (out-RawCode code).bytes
unfolding Safe
kept_code m levels code nests v =
    let w = whole (length m.qstrs) levels code nests in
    let bytes = (out-RawCode code).bytes in
    let body : Body = record { items = w.own.items; n_state = w.own.prelude.n_state; n_exc = w.own.prelude.n_exc; arguments = w.own.prelude.args } in
    let said : Says bytes body (starts 0 w.own.listed.pieces) = record {
      prelude = w.own.prelude;
      begins = w.own.begins;
      lists = record { is_list = w.own.listed; offsets_are = refl };
      n_state = refl;
      n_exc = refl;
      arguments = refl;
    } in
    let same : v.body ≡ body = (one_body bytes v.body body v.offsets (starts 0 w.own.listed.pieces) v.says said).0 in
    let items : v.body.items ≡ w.own.items = ap (λ (b : Body). b.items) same in
    let inner = length (children code) in
    let all = keep_all m inner v.body v.body.items (λ p item e rule. v.instructions p item rule e) in
    record {
      prelude = w.own.prelude;
      begins = w.own.begins;
      defaults = w.own.defaults;
      names = w.own.names;
      items = w.own.items;
      is_list = w.own.listed;
      kept = All-from_recursion (IsKept m (length w.own.items)) w.own.items (subst (λ (z : List Item). AllByRecursion (IsKept m (length z)) z) items all);
      short = w.short;
    }

-- the codes in a code
-- ===================

below : (path : List ℕ) (n : ℕ) (code child found : RawCode) → slice_get (children code) n ≡ Some child → code_at path child ≡ Some found → code_at (n ∷ path) code ≡ Some found
below path n code child found at is = ap (option_and_then (code_at path)) at ∙ is

pub verified_child : (m : Module) (code child : RawCode) (n : ℕ) → AreVerified m code → slice_get (children code) n ≡ Some child → AreVerified m child
verified_child m code child n all at path found is = all (n ∷ path) found (below path n code child found at is)

pub far_child : (tables : Tables) (base : ℕ) (m : Module) (code child : RawCode) (n : ℕ) → slice_get (children code) n ≡ Some child → HasFarCode tables base m child → HasFarCode tables base m code
far_child tables base m code child n at far =
    record { path = n ∷ far.path; raw = far.raw; is = below far.path n code child far.raw at far.is; far = far.far }

pub far_here : (tables : Tables) (base : ℕ) (m : Module) (code : RawCode) → IsFarOwn tables base m (out-RawCode code).bytes → HasFarCode tables base m code
far_here tables base m code far = record { path = []; raw = code; is = refl; far = far }

-- what is written of them
-- =======================

pub zip_push : {A B : Type 0} (R : A → B → Type 0) (xs : List A) (ys : List B) (x : A) (y : B) → AllZip R xs ys → R x y → AllZip R (xs ++ x ∷ []) (ys ++ y ∷ [])
zip_push R [] [] x y h r = (r, tt)
zip_push R [] (z ∷ ys) x y h r = absurd h
zip_push R (z ∷ xs) [] x y h r = absurd h
zip_push R (z ∷ xs) (w ∷ ys) x y h r = (h.0, zip_push R xs ys x y h.1 r)

-- the front of the list of codes is written behind the start
abbrev pub Reached : ℕ → Tables → ℕ → Module → List RawCode → ℕ → List ℕ → List ℕ → Type 0
Reached levels tables base m raws n start now =
    (moved : List RawCode) × AllZip (IsMovedTree levels tables base m) (take n raws) moved × (now ≡ start ++ flat_map (code_bytes levels) moved)

pub reached_none : (levels : ℕ) (tables : Tables) (base : ℕ) (m : Module) (raws : List RawCode) (start : List ℕ) → Reached levels tables base m raws 0 start start
reached_none levels tables base m raws start = ([], tt, sym (append-nil start))

pub reached_more : (levels : ℕ) (tables : Tables) (base : ℕ) (m : Module) (raws : List RawCode) (n : ℕ) (start now next : List ℕ) (raw : RawCode) → n < length raws → raw ≡ get_or raws n raw → Reached levels tables base m raws n start now
    → (moved : RawCode) × IsMovedTree levels tables base m raw moved × (next ≡ now ++ code_bytes levels moved) → Reached levels tables base m raws (n + 1) start next
reached_more levels tables base m raws n start now next raw lt is so_far one = (
  so_far.0 ++ one.0 ∷ [],
  subst (λ (z : List RawCode). AllZip (IsMovedTree levels tables base m) z (so_far.0 ++ one.0 ∷ [])) (sym (take_more raws n raw lt ∙ ap (λ (z : RawCode). take n raws ++ z ∷ []) (sym is)))
      (zip_push (IsMovedTree levels tables base m) (take n raws) so_far.0 raw one.0 so_far.1 one.1),
  one.2 ∙ (ap (λ (z : List ℕ). z ++ code_bytes levels one.0) so_far.2
      ∙ (append_assoc start (flat_map (code_bytes levels) so_far.0) (code_bytes levels one.0)
      ∙ ap (λ (z : List ℕ). start ++ z) (ap (λ (z : List ℕ). flat_map (code_bytes levels) so_far.0 ++ z) (sym (append-nil (code_bytes levels one.0)))
      ∙ sym (flat_map-append (code_bytes levels) so_far.0 (one.0 ∷ []))))),
)

-- a code with its head and those behind it
abbrev code_by : ℕ → RawCode-F RawCode → List ℕ
code_by levels r = vuint (header_of (length r.bytes) (has_some r.children)) ++ (r.bytes ++ children_bytes (code_bytes levels) r.children)

pub head_is : (levels : ℕ) (own : List ℕ) (raws : List RawCode) → code_bytes (suc levels) (roll-RawCode (record { bytes = own; children = raws })) ≡ head_of own (length raws) ++ flat_map (code_bytes levels) raws
unfolding code_bytes
head_is levels own raws =
    let r : RawCode-F RawCode = record { bytes = own; children = raws } in
    ap (code_by levels) (out-roll-RawCode r) ∙ by raws where
      by : (raws : List RawCode) → code_by levels (record { bytes = own; children = raws }) ≡ head_of own (length raws) ++ flat_map (code_bytes levels) raws
      by [] = ap (λ (z : List ℕ). vuint (header_of (length own) false) ++ z) (append-nil own) ∙ sym (append-nil (vuint (header_of (length own) false) ++ own))
      by (raw ∷ raws) =
          let header = vuint (header_of (length own) true) in
          let count = vuint (length (raw ∷ raws)) in
          let inside = flat_map (code_bytes levels) (raw ∷ raws) in
          sym (append_assoc header (own ++ count) inside ∙ ap (λ (z : List ℕ). header ++ z) (append_assoc own count inside))

pub moved_tree : (levels : ℕ) (tables : Tables) (base : ℕ) (m : Module) (code : RawCode) (own : List ℕ) (raws : List RawCode) → IsMovedOwn tables base m (out-RawCode code).bytes own → AllZip (IsMovedTree levels tables base m) (children code) raws
    → IsMovedTree (suc levels) tables base m code (roll-RawCode (record { bytes = own; children = raws }))
unfolding IsMovedTree
moved_tree levels tables base m code own raws is all =
    let r : RawCode-F RawCode = record { bytes = own; children = raws } in
    subst (λ (z : RawCode-F RawCode). IsMovedOwn tables base m (out-RawCode code).bytes z.bytes × AllZip (IsMovedTree levels tables base m) (children code) z.children) (sym (out-roll-RawCode r)) (is, all)

zip_length : {A B : Type 0} (R : A → B → Type 0) (xs : List A) (ys : List B) → AllZip R xs ys → length xs ≡ length ys
zip_length R [] [] h = refl
zip_length R [] (y ∷ ys) h = absurd h
zip_length R (x ∷ xs) [] h = absurd h
zip_length R (x ∷ xs) (y ∷ ys) h = ap suc (zip_length R xs ys h.1)

-- the whole, behind its head
pub all_written : (levels inner : ℕ) (tables : Tables) (base : ℕ) (m : Module) (code : RawCode) (own start headed now : List ℕ) (n : ℕ) → levels ≡ suc inner → IsMovedOwn tables base m (out-RawCode code).bytes own
    → headed ≡ start ++ head_of own (length (children code)) → length (children code) ≤ n → Reached inner tables base m (children code) n headed now
    → (moved : RawCode) × IsMovedTree levels tables base m code moved × (now ≡ start ++ code_bytes levels moved)
all_written levels inner tables base m code own start headed now n is moved head past reached =
    let raws = reached.0 in
    let all : AllZip (IsMovedTree inner tables base m) (children code) raws = subst (λ (z : List RawCode). AllZip (IsMovedTree inner tables base m) z raws) (take_all n (children code) past) reached.1 in
    let made : RawCode = roll-RawCode (record { bytes = own; children = raws }) in
    let inside = flat_map (code_bytes inner) raws in
    let bytes : now ≡ start ++ code_bytes (suc inner) made =
    reached.2 ∙ (ap (λ (z : List ℕ). z ++ inside) (head ∙ ap (λ (k : ℕ). start ++ head_of own k) (zip_length (IsMovedTree inner tables base m) (children code) raws all))
    ∙ (append_assoc start (head_of own (length raws)) inside ∙ ap (λ (z : List ℕ). start ++ z) (sym (head_is inner own raws)))) in
    subst (λ (k : ℕ). (moved : RawCode) × IsMovedTree k tables base m code moved × (now ≡ start ++ code_bytes k moved)) (sym is) (made, moved_tree inner tables base m code own raws moved all, bytes)
