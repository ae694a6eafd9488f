-- The shapes of a code, once.
use Rattle.std.proofs.Common.{◌≡◌, ℕ, zero, suc, ◌≤◌, Bool, List, [], ◌∷◌, length, drop, Option, Some, None, refl, sym, ap, subst, ◌∙◌, arith}
use Rattle.std.specs.Prelude.{slice_get, option_and_then}
use Rattle.std.proofs.lemmas.List.{length-map}
use Rattle.mpy_base.specs.declared.limits.TheConstants.{MAX_CODE_BYTES}
use Rattle.bc_library.specs.mpy_tree.bc_ops.declared.listing.Item.{Item}
use Rattle.bc_library.specs.mpy_tree.bc_ops.Listing.{Lists}
use Rattle.bc_library.specs.mpy_tree.Raw.{Module}
use Rattle.bc_library.specs.mpy_tree.File.{IsModule}
use Rattle.bc_library.specs.mpy_tree.Codes.{Placed, codes_of}
use Rattle.bc_library.specs.bc_shapes.declared.kinds.Kind.{Kind}
use Rattle.bc_library.specs.bc_shapes.declared.shape.Entry.{Entry}
use Rattle.bc_library.specs.bc_shapes.Shape.{At, Below, same, value, cause, Belows, none, also, Under}
use Rattle.bc_library.specs.bc_flow.Edges.{iterator_if}
use Rattle.bc_library.specs.bc_flow.Machine.{Stack, KeptJump, cut}
use Rattle.bc_library.specs.bc_flow.Verified as verified
use Rattle.bc_library.specs.bc_flow.Verified.{Assigned, Holds, IsLeastOf, Grows}
use Rattle.bc_library.specs.bc_verify.Body.{Body, Says, body_of, flow_of}
use Rattle.bc_library.specs.bc_verify.Verified.{IsVerified}
use Rattle.bc_library.specs.Shelf.{Shelf, module_at, table_text}
use Rattle.bc_library.specs.Texts.{text_numbered}
use Rattle.bc_library.proofs.bc_verify_lemmas.Bodies.{one_body, instructions_short}
use Rattle.bc_library.proofs.bc_verify_lemmas.Trees.{short_codes}
use Rattle.bc_library.proofs.bc_verify_lemmas.mpy_tree_lemmas.Codes.{module_placed}
use Rattle.bc_rows.specs.Codes.{code_numbered}
use Rattle.bc_rows.specs.declared.row.Row.{Row}
use Rattle.bc_rows.specs.Rows.{IsRow}
use Rattle.bc_labels.specs.Positions.{CodeList}
use Rattle.bc_labels.proofs.Pieces.{one}
use Rattle.snap_states.specs.declared.shapes.Shapes.{Shapes}
use Rattle.snap_states.specs.Shapes.{StandsAt, IsShapeAt, LeadsOn, JumpsLeadOn}
use Rattle.snap_states.specs.Frames.{AreShapes, HasKinds, assigned}
use Rattle.snap_states.specs.Fronts.{StartOnce}

-- codes of a library
-- ==================

-- what a code of the library keeps
record Keeps (n : Placed) : Type 0 where
  short : length n.bytes ≤ MAX_CODE_BYTES
  flows : (body : Body) (offsets : List ℕ) → Says n.bytes body offsets → verified.Verified (flow_of body)

module _ (shelf : Shelf) (files : (i : ℕ) (m : Module) → module_at shelf i ≡ Some m → IsModule m) (are_verified : (i : ℕ) (m : Module) → module_at shelf i ≡ Some m → IsVerified m) where
  code_keeps : (i k : ℕ) (n : Placed) → code_numbered shelf i k ≡ Some n → Keeps n
  code_keeps i k n e = by (module_at shelf i) refl e
    where
      by : (o : Option Module) → module_at shelf i ≡ o → option_and_then (λ (m : Module). slice_get (codes_of m) k) o ≡ Some n → Keeps n
      by None f g = absurd cc
      by (Some m) f g =
          let p = module_placed m k n g in
          let v = are_verified i m f n.path p.code p.there in
          record {
            short = subst (λ z. length z ≤ MAX_CODE_BYTES) (sym p.bytes) (short_codes m n.path p.code (files i m f) p.there);
            flows = λ body offsets says.
                let same_body = (one_body n.bytes v.body body v.offsets offsets (subst (λ z. Says z v.body v.offsets) (sym p.bytes) v.says) says).0 in
                subst (λ b. verified.Verified (flow_of b)) same_body v.flow;
          }

  pub row_short : (i k : ℕ) (row : Row) (is : IsRow shelf i k row) → length row.instructions.now ≤ MAX_CODE_BYTES
  row_short i k row is =
      let keeps = code_keeps i k is.code is.there in
      let short = instructions_short is.code.bytes is.is_row.prelude is.is_row.begins in
      let whole = keeps.short in
      subst (λ z. length z ≤ MAX_CODE_BYTES) (sym is.is_row.instructions) (omega (arith, short, whole))

  pub row_verified : (i k : ℕ) (row : Row) (is : IsRow shelf i k row) (body : Body) (offsets : List ℕ) → Says is.code.bytes body offsets → verified.Verified (flow_of body)
  row_verified i k row is body offsets says = (code_keeps i k is.code is.there).flows body offsets says

abbrev pub body_in : Row → List Item → ℕ → Body
body_in row items arguments = record { items = items; n_state = row.n_state; n_exc = row.n_exc; arguments = arguments }

pub row_says : (shelf : Shelf) (i k : ℕ) (row : Row) (is : IsRow shelf i k row) (items : List Item) (offsets : List ℕ) (arguments : ℕ) → arguments ≡ length row.params → Lists row.instructions.now items offsets → Says is.code.bytes (body_in row items arguments) offsets
row_says shelf i k row is items offsets arguments e l = record {
  prelude = is.is_row.prelude;
  begins = is.is_row.begins;
  lists = subst (λ z. Lists z items offsets) is.is_row.instructions l;
  n_state = is.is_row.n_state;
  n_exc = is.is_row.n_exc;
  arguments =
      let long = ap length is.is_row.names in
      let count = is.is_row.begins.count in
      let one_more = length-map (row.name ∷ row.params) (text_numbered shelf.pool) in
      let others = length-map is.is_row.begins.indexes (table_text shelf i) in
      omega (arith, long, count, one_more, others, e);
}

-- two rows of one place are of one code
pub rows_code : (shelf : Shelf) (i k : ℕ) (row : Row) (is : IsRow shelf i k row) (n : Placed) → code_numbered shelf i k ≡ Some n → is.code ≡ n
rows_code shelf i k row is n e = let q : Some is.code ≡ Some n = sym is.there ∙ e in cc

-- the least is one
-- ================

below_same : (k l : Kind) → Below k l → Below l k → k ≡ l
below_same k l same b = refl
below_same k l value b = elim b [ ]
below_same k l cause b = elim b [ ]

belows_same : (ks ls : List Kind) → Belows ks ls → Belows ls ks → ks ≡ ls
belows_same ks ls none b = refl
belows_same ks ls (also {k = k} {l = l} {ks = xs} {ls = ys} a below) (also b above) =
    let heads = below_same k l a b in
    let tails = belows_same xs ys below above in
    cc

abbrev at_with : List Kind → List Entry → At
at_with slots entries = record { slots = slots; entries = entries }

under_same : (x y : At) → Under x y → Under y x → x ≡ y
under_same x y a b =
    ap (λ z. at_with z x.entries) (belows_same x.slots y.slots a.slots b.slots) ∙ ap (at_with y.slots) a.entries

pub least_same : (a b : Assigned) → Grows a b → Grows b a → (p : ℕ) (x : At) → a p ≡ Some x → b p ≡ Some x
least_same a b up down p x e =
    let l = up.each p x e in
    let m = down.each p l.at l.is in
    let again : Some m.at ≡ Some x = sym m.is ∙ e in
    let is : m.at ≡ x = cc in
    let one_shape : x ≡ l.at = under_same x l.at l.under (subst (λ z. Under l.at z) is m.under) in
    l.is ∙ ap Some (sym one_shape)

-- what stands by one assignment does by one with the same shapes
module _ (a b : Assigned) (on : (p : ℕ) (x : At) → a p ≡ Some x → b p ≡ Some x) where
  shape_on : (p : ℕ) (st : Stack) (es : List Entry) → IsShapeAt a p st es → IsShapeAt b p st es
  shape_on p st es h = record { shape = h.shape; is = on p h.shape h.is; entries = h.entries; slots = h.slots }

  leads_on : (t : ℕ) (it : Bool) (d : ℕ) (es : List Entry) (st : Stack) → LeadsOn a t it d es st → LeadsOn b t it d es st
  leads_on t it zero es st h = (h.0, shape_on t (drop (length (iterator_if it)) st) es h.1)
  leads_on t it (suc d) [] st h = h
  leads_on t it (suc d) (e ∷ es) st h =
      (λ run. shape_on e.handler (KeptJump t d it ∷ cut e.height st) (e ∷ es) (h.0 run), leads_on t it d es (cut e.height st) h.1)

  pub jumps_on : (es : List Entry) (st : Stack) → JumpsLeadOn a es st → JumpsLeadOn b es st
  jumps_on [] st h = tt
  jumps_on (e ∷ es) st h = (λ above rest t d it parts long. leads_on t it d es rest (h.0 above rest t d it parts long), jumps_on es (cut e.height st) h.1)

-- shapes and a stand
-- ==================

abbrev list_of : List Item → List ℕ → CodeList
list_of items offsets = record { items = items; offsets = offsets }

pub starts_once : (bytes : List ℕ) (body : Body) (offsets : List ℕ) → Says bytes body offsets → StartOnce offsets
starts_once bytes body offsets says p q o e f =
    sym (one says.begins.instructions (list_of body.items offsets) p o says.lists e) ∙ one says.begins.instructions (list_of body.items offsets) q o says.lists f

pub shapes_once : (shelf : Shelf) (m k : ℕ) (x : Shapes) → AreShapes shelf m k x → StartOnce x.offsets.items
shapes_once shelf m k x a = starts_once a.placed.bytes (body_of x.code) x.offsets.items a.says

-- a stand is one in the shapes of its code
pub record Same (shelf : Shelf) (m k at : ℕ) (x : Shapes) (s : StandsAt shelf m k at) : Type 0 where
  pub body : s.body ≡ body_of x.code
  pub offsets : s.offsets ≡ x.offsets.items
  pub on : (p : ℕ) (y : At) → s.a p ≡ Some y → assigned x p ≡ Some y

pub same_stand : (shelf : Shelf) (m k at : ℕ) (x : Shapes) → AreShapes shelf m k x → (s : StandsAt shelf m k at) → Same shelf m k at x s
same_stand shelf m k at x a s =
    let q : Some s.placed ≡ Some a.placed = sym s.there ∙ a.there in
    let placed : s.placed ≡ a.placed = cc in
    let both = one_body a.placed.bytes s.body (body_of x.code) s.offsets x.offsets.items (subst (λ (z : Placed). Says z.bytes s.body s.offsets) placed s.says) a.says in
    let holds = subst (λ b. Holds (flow_of b) s.a) both.0 s.holds in
    let least = subst (λ b. IsLeastOf (flow_of b) s.a) both.0 s.least in
    record { body = both.0; offsets = both.1; on = least_same s.a (assigned x) (least (assigned x) a.holds) (a.least s.a holds) }

-- the kinds at an offset
-- ======================

pub kinds_stand : (shelf : Shelf) (m k at : ℕ) (x : Shapes) (kinds : List Kind) → AreShapes shelf m k x → HasKinds x at kinds → (s : StandsAt shelf m k at) × (s.shape.slots ≡ kinds)
kinds_stand shelf m k at x kinds a h = (
  record {
    placed = a.placed;
    there = a.there;
    body = body_of x.code;
    offsets = x.offsets.items;
    says = a.says;
    a = assigned x;
    holds = a.holds;
    least = a.least;
    position = h.position;
    here = h.here;
    shape = h.shape;
    is = h.is;
  },
  h.slots,
)

pub stand_kinds : (shelf : Shelf) (m k at : ℕ) (x : Shapes) → AreShapes shelf m k x → (s : StandsAt shelf m k at) → HasKinds x at s.shape.slots
stand_kinds shelf m k at x a s =
    let one = same_stand shelf m k at x a s in
    record { position = s.position; here = subst (λ z. slice_get z s.position ≡ Some at) one.offsets s.here; shape = s.shape; is = one.on s.position s.shape s.is; slots = refl }
