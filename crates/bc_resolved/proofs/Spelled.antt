-- A file's tree has the instructions that files have.
use Rattle.std.proofs.Common.{◌≡◌, ℕ, zero, suc, ◌+◌, ◌-◌, ◌<◌, ◌≤◌, Bool, List, [], ◌∷◌, length, Option, Some, None, refl, sym, ap, ◌∙◌, subst, All, slice_get, option_map, option_and_then, unwrap_or, arith}
use Rattle.std.specs.Prelude.{if◌then◌else◌}
use Rattle.std.proofs.lemmas.Bool.{le-ltb}
use Rattle.std.proofs.lemmas.Option.{slice_get-map}
use Rattle.bc_progress.specs.bc_ops.declared.form.Form.{Form}
use Rattle.bc_progress.specs.bc_ops.declared.form.Form.TheVariants as forms
use Rattle.bc_progress.specs.bc_ops.declared.instr.Op.{Op}
use Rattle.bc_progress.specs.bc_ops.declared.instr.Op.TheVariants as ops
use Rattle.bc_progress.specs.bc_ops.declared.instr.Instr.{Instr}
use Rattle.bc_progress.specs.bc_ops.declared.instr.Instr.TheVariants as instrs
use Rattle.bc_progress.specs.bc_ops.declared.listing.Item as listings
use Rattle.bc_progress.specs.bc_ops.declared.listing.Item.TheVariants as listed
use Rattle.bc_progress.specs.bc_ops.Table.{code_of, form_of}
use Rattle.bc_progress.specs.bc_ops.Code.{IsEncodable, TakesOffset}
use Rattle.bc_progress.specs.bc_ops.Listing.{Piece, IsPiece, item, items_at, IsListOf, starts}
use Rattle.bc_progress.proofs.bc_ops_lemmas.Law.{encodable}
use Rattle.bc_verify.specs.qstr_pool.Static.{static_texts, static_text_of}
use Rattle.bc_verify.specs.qstr_pool.declared.table.TheConstants.{STATIC_COUNT}
use Rattle.bc_verify.specs.mpy_tree.declared.module.Constant.{Constant}
use Rattle.bc_verify.specs.mpy_tree.declared.raw.Qstr.{Qstr}
use Rattle.bc_verify.specs.mpy_tree.declared.raw.Qstr.TheVariants.{Static, Own}
use Rattle.bc_verify.specs.mpy_tree.declared.raw.RawCode.{RawCode, out-RawCode}
use Rattle.bc_verify.specs.mpy_tree.File.{Many, IsQstr, IsModule}
use Rattle.bc_verify.specs.mpy_tree.Raw.{Module, text_of}
use Rattle.bc_verify.specs.mpy_tree.Resolved as trees
use Rattle.bc_verify.specs.mpy_tree.Resolved.{Resolved, Body, instrs_of, Tree, node, Trees, no_more, more, ResolvedModule, IsBody, name_at, resolved, ResolvesCode, ResolveCodes, Resolves}
use Rattle.bc_verify.specs.mpy_tree.Values.{value_of}
use Rattle.bc_progress.specs.bc_machine.Library.{item_of}
use Rattle.bc_progress.specs.Plans.{IsKnown}
use Rattle.bc_progress.proofs.Steps.{get_there}
use Rattle.bc_resolved.specs.Operands.{IsThere}
use Rattle.bc_resolved.specs.Verified.{IsVerifiedBody, count_of, AreVerifiedIn, AreVerifiedAll, IsVerifiedTree}
use Rattle.bc_resolved.specs.Known.{IsKnownBody, AreKnownIn, AreKnownAll, IsKnownTree, HasTexts}

-- instructions of a list
-- ======================

abbrev IsSpelled : listings.Item → Type 0
IsSpelled (listed.Plain (instrs.Jump op offset wide)) = ⊥
IsSpelled (listed.Plain (instrs.Unwind offset wide byte)) = ⊥
IsSpelled (listed.Plain instr) = IsEncodable instr
IsSpelled (listed.Jump op to) = (signed : Bool) × (form_of (code_of op) ≡ forms.Offset op signed)
IsSpelled (listed.Unwind to byte) = Unit {0}

has_offset : (form : Form) (op : Op) (wide : Bool) (z : _) → TakesOffset form op wide z → (signed : Bool) × (form ≡ forms.Offset op signed)
has_offset (forms.Offset o signed) op wide z h = (signed, ap (λ p. forms.Offset p signed) h.0)
has_offset (forms.Whole i) op wide z h = absurd h
has_offset (forms.Name o) op wide z h = absurd h
has_offset (forms.Number o) op wide z h = absurd h
has_offset (forms.Call o) op wide z h = absurd h
has_offset forms.Signed op wide z h = absurd h
has_offset forms.Unwind op wide z h = absurd h
has_offset forms.Outside op wide z h = absurd h
has_offset forms.Unknown op wide z h = absurd h

item_spelled : (starts : List ℕ) (end : ℕ) (instr : Instr) → IsEncodable instr → IsSpelled (item starts end instr)
item_spelled starts end (instrs.Jump op offset wide) h = has_offset (form_of (code_of op)) op wide offset h
item_spelled starts end (instrs.Unwind offset wide byte) h = tt
item_spelled starts end (instrs.Plain op) h = h
item_spelled starts end (instrs.Name op n) h = h
item_spelled starts end (instrs.Num op n) h = h
item_spelled starts end (instrs.Int z) h = h
item_spelled starts end (instrs.Unary n) h = h
item_spelled starts end (instrs.Binary n) h = h

abbrev AllSpelled : List listings.Item → Type 0
AllSpelled items = (p : ℕ) (x : listings.Item) → slice_get items p ≡ Some x → IsSpelled x

pieces_spelled : (starts : List ℕ) (at : ℕ) (pieces : List Piece) → All IsPiece pieces → AllSpelled (items_at starts at pieces)
pieces_spelled starts at [] a p x e = absurd (cc e)
pieces_spelled starts at (piece ∷ pieces) a zero x e =
    subst IsSpelled (ap (λ o. unwrap_or o x) e) (item_spelled starts (at + length piece.text) piece.instr (encodable piece.text piece.instr (a 0 piece (omega arith))))
pieces_spelled starts at (piece ∷ pieces) a (suc p) x e = pieces_spelled starts (at + length piece.text) pieces (λ k d h. a (suc k) d (omega (arith, h))) p x e

list_spelled : (bytes : List ℕ) (items : List listings.Item) → IsListOf bytes items → AllSpelled items
list_spelled bytes items l = subst AllSpelled (sym l.items_are) (pieces_spelled _ _ l.pieces l.spelled)

-- with their texts and objects
-- ============================

named_known : (size children : ℕ) (op : Op) (n : ℕ) (o : Option (List ℕ)) → form_of (code_of op) ≡ forms.Name op
    → IsThere children (item_of size (unwrap_or (option_map (trees.named op) o) (trees.plain (instrs.Name op n)))) → IsKnown (item_of size (unwrap_or (option_map (trees.named op) o) (trees.plain (instrs.Name op n))))
named_known size children op n None s h = absurd h
named_known size children op n (Some text) s h = s

object_known : (size children n : ℕ) (o : Option Constant) → IsThere children (item_of size (unwrap_or (option_map (λ c. trees.object (value_of c)) o) (trees.plain (instrs.Num ops.LoadConstObj n))))
    → IsKnown (item_of size (unwrap_or (option_map (λ c. trees.object (value_of c)) o) (trees.plain (instrs.Num ops.LoadConstObj n))))
object_known size children n None h = absurd h
object_known size children n (Some c) h = tt

number_known : (m : Module) (size children : ℕ) (op : Op) (n : ℕ) → IsEncodable (instrs.Num op n) → IsThere children (item_of size (resolved m (listed.Plain (instrs.Num op n)))) → IsKnown (item_of size (resolved m (listed.Plain (instrs.Num op n))))
number_known m size children ops.LoadConstObj n s h = object_known size children n (slice_get m.objects n) h
number_known m size children op n s h = s

item_known : (m : Module) (size children : ℕ) (x : listings.Item) → IsSpelled x → IsThere children (item_of size (resolved m x)) → IsKnown (item_of size (resolved m x))
item_known m size children (listed.Plain (instrs.Name op n)) s h = named_known size children op n (name_at m n) s.0 h
item_known m size children (listed.Plain (instrs.Num op n)) s h = number_known m size children op n s h
item_known m size children (listed.Plain (instrs.Jump op offset wide)) s h = absurd s
item_known m size children (listed.Plain (instrs.Unwind offset wide byte)) s h = absurd s
item_known m size children (listed.Plain (instrs.Plain op)) s h = s
item_known m size children (listed.Plain (instrs.Int z)) s h = s
item_known m size children (listed.Plain (instrs.Unary n)) s h = s
item_known m size children (listed.Plain (instrs.Binary n)) s h = s
item_known m size children (listed.Jump op to) s h = s
item_known m size children (listed.Unwind to byte) s h = tt

body_known : (m : Module) (code : RawCode) (children : ℕ) (body : Body) → IsBody m (out-RawCode code).bytes body → IsVerifiedBody children body → IsKnownBody body
body_known m code children body b v p r e = by (slice_get b.items p) refl (sym (slice_get-map (resolved m) b.items p) ∙ (ap (λ z. slice_get z p) (sym b.instrs) ∙ e))
  where
    by : (o : Option listings.Item) → slice_get b.items p ≡ o → option_map (resolved m) o ≡ Some r → IsKnown (item_of (length body.lines) r)
    by None q h = absurd (cc h)
    by (Some x) q h =
        let same : resolved m x ≡ r = ap (λ o. unwrap_or o r) h in
        let there = (v.instructions p r e).there in
        subst (λ z. IsKnown (item_of (length body.lines) z)) same
        (item_known m (length body.lines) children x (list_spelled b.begins.instructions b.items b.is_list p x q) (subst (λ z. IsThere children (item_of (length body.lines) z)) (sym same) there))

mutual
  tree_known : (m : Module) (tree : Tree) (code : RawCode) → ResolvesCode m tree code → AreVerifiedIn tree → AreKnownIn tree
  tree_known m (node body trees) code r v = (body_known m code (count_of trees) body r.0 v.0, trees_known m trees (out-RawCode code).children r.1 v.1)

  trees_known : (m : Module) (trees : Trees) (codes : List RawCode) → ResolveCodes m trees codes → AreVerifiedAll trees → AreKnownAll trees
  trees_known m no_more codes r v = tt
  trees_known m (more tree trees) codes r v = (tree_known m tree r.0 r.3 v.0, trees_known m trees r.1 r.4 v.1)

pub file_known : (m : Module) (tree : ResolvedModule) → Resolves m tree → IsVerifiedTree tree → IsKnownTree tree
file_known m tree r v = tree_known m tree.code m.code r.code v

-- texts
-- =====

static_there : (n : ℕ) → 1 ≤ n → n ≤ STATIC_COUNT → (t : List ℕ) × (static_text_of n ≡ Some t)
static_there n le most =
    let long : length static_texts ≡ STATIC_COUNT = refl in
    let t = get_there static_texts (n - 1) (omega (arith, le, most, long)) in
    (t.0, ap (λ (b : Bool). if b then None else slice_get static_texts (n - 1)) (le-ltb n 1 le) ∙ t.1)

qstr_there : (text : List ℕ) (q : Qstr) → IsQstr text q → (t : List ℕ) × (text_of q ≡ Some t)
qstr_there text (Static number) h = static_there number h.from_one h.known
qstr_there text (Own own) h = (own, refl)

texts_there : (text : List ℕ) (qs : List Qstr) → Many IsQstr text qs → (n : ℕ) → n < length qs → (t : List ℕ) × (option_and_then text_of (slice_get qs n) ≡ Some t)
texts_there text [] h n lt = absurd (omega (arith, lt))
texts_there text (q ∷ qs) h zero lt = qstr_there h.0 q h.2
texts_there text (q ∷ qs) h (suc n) lt = texts_there h.1 qs h.4 n (omega (arith, lt))

pub module_texts : (m : Module) → IsModule m → HasTexts m
module_texts m h n lt = texts_there h.1.qstrs m.qstrs h.1.are_qstrs n lt
