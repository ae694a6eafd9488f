-- What the makings leave in the cells.
use Rattle.std.proofs.Common.{ℕ, zero, suc, add-one, ◌+◌, ◌-◌, ◌*◌, ◌≤◌, ◌<◌, ◌≡◌, List, [], ◌∷◌, ◌++◌, length, Option, Some, None, get_or, set, take, map, replicate, refl, sym, ◌∙◌, ap, subst, inl, inr, arith, length-append, ℤ}
use Rattle.std.proofs.lemmas.List.{get_or_append_left, get_or-append_right, get_or_past, set_at, length-replicate, get_or-replicate, drop_at, take_all, append_assoc, append-nil, length_push}
use Rattle.std.proofs.lemmas.List.FromFn.{length-map-range_with_len}
use Rattle.std.proofs.lemmas.Bool.{cases_lt}
use Rattle.qstr_pool.specs.mpy_base.declared.kind.Kind.{Kind}
use Rattle.qstr_pool.specs.mpy_base.declared.builtin.Builtin.{Builtin}
use Rattle.arena_heap.specs.declared.value.Value.{Value}
use Rattle.arena_heap.specs.declared.value.Value.TheVariants as values
use Rattle.arena_heap.specs.declared.value.DictNo.{DictNo}
use Rattle.arena_heap.specs.declared.cells.Cell.{Cell}
use Rattle.arena_heap.specs.declared.cells.Cell.TheVariants as variants
use Rattle.qstr_pool.specs.mpy_base.World.{ListObject, TupleObject, TextObject, DictObject, FunctionObject, ExceptionObject, MethodObject, RangeObject, ModuleObject}
use Rattle.qstr_pool.specs.mpy_base.Weights.{more_cells, IsRoom}
use Rattle.arena_heap.specs.Values.{ArenaObject}
use Rattle.arena_heap.specs.Cells.{blank, cell_of, value_of, head_of, heads, first, size, byte_first, byte_size, Full, part, decode, read, In, first_link, pair_in, AreLinked, Links, Linked, AreAllLinked, texts_in, Holds}
use Rattle.arena_heap.proofs.Chains.{chained_none}
use Rattle.arena_heap.proofs.Regions.{get_or-part}
use Rattle.arena_heap.proofs.CellValues.{head_of-cell_of, value_of-cell_of}
use Rattle.arena_heap.proofs.Frame.{Placed, holds_used, holds_head, holds_more_bytes, length_held, heads_past}

pub blanks : (m k : ℕ) → heads (replicate m blank) k ≡ blank
blanks m k = elim (cases_lt k m) [
  | inl h ↦ ap head_of (get_or-replicate m k blank blank h)
  | inr h ↦ heads_past (replicate m blank) k (omega (arith, length-replicate m blank))
]

-- a cell more in front of cells with no head
pub plain_cons : (c : Cell) (ps : List Cell) → head_of c ≡ blank → ((k : ℕ) → heads ps k ≡ blank) → (k : ℕ) → heads (c ∷ ps) k ≡ blank
plain_cons c ps e plain zero = e
plain_cons c ps e plain (suc k) = plain k

-- the keys that are texts lie below the cells that are used
few_linked : (cells : List Cell) (bytes : List ℕ) (keys : Option ℕ) (below : ℕ) → keys ≡ Some below → AreAllLinked keys cells bytes → below ≤ length cells
few_linked cells bytes keys below q all =
    let linked : Linked below cells bytes = subst (λ (k : Option ℕ). AreAllLinked k cells bytes) q all in linked.few

-- a head, then cells that may be its region, and new bytes that may be its bytes
pub holds_made : {cells : List Cell} {bytes : List ℕ} {obs : List (Option ArenaObject)} {keys : Option ℕ} → Holds keys cells bytes obs → (bs : List ℕ) (c : Cell) (ps : List Cell) (o : ArenaObject)
    → ((k : ℕ) → heads ps k ≡ blank) → length ps ≡ more_cells o → head_of c ≡ c → Full c
    → first (length cells) c + size c ≤ length cells + suc (length ps) → ((x : ℕ) → In (first (length cells) c) (size c) x → length cells < x)
    → byte_first (length cells) c + byte_size c ≤ length (bytes ++ bs) → ((x : ℕ) → In (byte_first (length cells) c) (byte_size c) x → length bytes ≤ x)
    → read (length cells) c (cells ++ blank ∷ ps) (bytes ++ bs) ≡ Some o → ((texts : ℕ → List ℕ) (below : ℕ) → Links texts below c (cells ++ blank ∷ ps))
    → Holds keys (cells ++ c ∷ ps) (bytes ++ bs) (obs ++ Some o ∷ replicate (more_cells o) None)
holds_made {cells} {bytes} {obs} {keys} h bs c ps o plain more head full inside above byte_inside byte_above reads links =
    let n : ℕ = length cells in
    let qs : List Cell = blank ∷ ps in
    let none : Option ArenaObject = None in
    let was : List Cell = cells ++ qs in
    let l : length was ≡ n + suc (length ps) = length-append cells qs in
    let blanked : (k : ℕ) → heads qs k ≡ blank = plain_cons blank ps refl plain in
    let h2 : Holds keys was (bytes ++ bs) (obs ++ none ∷ replicate (more_cells o) none) =
    subst (λ (j : ℕ). Holds keys was (bytes ++ bs) (obs ++ none ∷ replicate j none)) more (holds_used (holds_more_bytes h bs) qs blanked) in
    let same : (m : ℕ) → heads was m ≡ heads cells m = λ m. elim (cases_lt m n) [
      | inl low ↦ ap head_of (get_or_append_left cells qs blank m low)
      | inr high ↦ ap head_of (get_or-append_right cells qs n m blank refl high) ∙ (blanked (m - n) ∙ sym (heads_past cells m high))
    ] in
    let below : (m x : ℕ) → In (first m (heads was m)) (size (heads was m)) x → x < n =
    λ m x i. let j : In (first m (heads cells m)) (size (heads cells m)) x = subst (λ (d : Cell). In (first m d) (size d) x) (same m) i in omega (arith, h.kept.cells_apart.inside m, j.high) in
    let byte_below : (m x : ℕ) → In (byte_first m (heads was m)) (byte_size (heads was m)) x → x < length bytes =
    λ m x i. let j : In (byte_first m (heads cells m)) (byte_size (heads cells m)) x = subst (λ (d : Cell). In (byte_first m d) (byte_size d) x) (same m) i in omega (arith, h.kept.bytes_apart.inside m, j.high) in
    let p : Placed (heads was) (length was) (length (bytes ++ bs)) n c = record {
      head = head;
      inside = omega arith;
      byte_inside = byte_inside;
      free = λ m x i j. absurd (omega (arith, above x i, below m x j));
      byte_free = λ m x i j. absurd (omega (arith, byte_above x i, byte_below m x j));
      mine = λ m i. omega (arith, below m n i);
      outside = λ i. omega (arith, above n i);
      plain = λ x i. same x ∙ heads_past cells x (omega (arith, above x i));
      full = full;
    } in
    let r : Holds keys (set was n c) (bytes ++ bs) (set (obs ++ none ∷ replicate (more_cells o) none) n (read n c was (bytes ++ bs))) = holds_head h2 n c (omega arith) p (record { links = λ b q. links (texts_in was (bytes ++ bs)) b; text = λ b q lt. absurd (omega (arith, few_linked cells bytes keys b q h.linked, lt)) }) in
    subst (λ (x : List (Option ArenaObject)). Holds keys (cells ++ c ∷ ps) (bytes ++ bs) x) (set_at obs none (replicate (more_cells o) none) (Some o) n (length_held h))
    (subst (λ (x : Option ArenaObject). Holds keys (cells ++ c ∷ ps) (bytes ++ bs) (set (obs ++ none ∷ replicate (more_cells o) none) n x)) reads
    (subst (λ (x : List Cell). Holds keys x (bytes ++ bs) (set (obs ++ none ∷ replicate (more_cells o) none) n (read n c was (bytes ++ bs)))) (set_at cells blank ps c n refl) r))

pub map-replicate : (n : ℕ) → map value_of (replicate n blank) ≡ replicate n values.None
map-replicate zero = refl
map-replicate (suc n) = ap (λ vs. values.None ∷ vs) (map-replicate n)

-- the cells right behind the first new one
pub part_behind : (cells ps : List Cell) (n : ℕ) → part (cells ++ blank ∷ ps) (suc (length cells)) n ≡ take n ps
part_behind cells ps n =
    ap (λ x. part x (suc (length cells)) n) (sym (append_assoc cells (blank ∷ []) ps))
    ∙ ap (take n) (drop_at (cells ++ blank ∷ []) ps (suc (length cells)) (length_push cells blank ∙ add-one (length cells)))

-- the same for an object with no bytes
pub holds_made_cells : {cells : List Cell} {bytes : List ℕ} {obs : List (Option ArenaObject)} {keys : Option ℕ} → Holds keys cells bytes obs → (c : Cell) (ps : List Cell) (o : ArenaObject)
    → ((k : ℕ) → heads ps k ≡ blank) → length ps ≡ more_cells o → head_of c ≡ c → Full c → byte_first (length cells) c + byte_size c ≡ 0
    → first (length cells) c + size c ≤ length cells + suc (length ps) → ((x : ℕ) → In (first (length cells) c) (size c) x → length cells < x)
    → read (length cells) c (cells ++ blank ∷ ps) bytes ≡ Some o → ((texts : ℕ → List ℕ) (below : ℕ) → Links texts below c (cells ++ blank ∷ ps))
    → Holds keys (cells ++ c ∷ ps) bytes (obs ++ Some o ∷ replicate (more_cells o) None)
holds_made_cells {cells} {bytes} {obs} {keys} h c ps o plain more head full nobytes inside above reads links =
    let e : bytes ++ [] ≡ bytes = append-nil bytes in
    subst (λ (x : List ℕ). Holds keys (cells ++ c ∷ ps) x (obs ++ Some o ∷ replicate (more_cells o) None)) e
    (holds_made h [] c ps o plain more head full inside above (omega arith) (λ x i. omega (arith, i.low, i.high))
    (subst (λ (x : List ℕ). read (length cells) c (cells ++ blank ∷ ps) x ≡ Some o) (sym e) reads) links)

-- blank cells are links that lead nowhere
new_links : (cells : List Cell) (room : ℕ) (texts : ℕ → List ℕ) (below : ℕ) → Links texts below (variants.DictHead (record { start = length cells + 3; len = 0; room = room })) (cells ++ blank ∷ replicate (2 + 3 * room) blank)
new_links cells room texts below r q =
    let start : r.start ≡ length cells + 3 = cc in
    let len : r.len ≡ 0 = cc in
    let all : List Cell = cells ++ blank ∷ replicate (2 + 3 * room) blank in
    let l : length all ≡ length cells + suc (2 + 3 * room) = length-append cells (blank ∷ replicate (2 + 3 * room) blank) ∙ ap (λ k. length cells + suc k) (length-replicate (2 + 3 * room) blank) in (
      subst (AreLinked texts (part all r.start (3 * r.room)) r.room) (sym len)
          (chained_none _ _ _ r.room (λ b lt.
          let k : r.room ≡ room = cc in
          ap first_link (get_or-part all r.start (3 * r.room) (3 * b + 2) blank (omega arith)
          ∙ (get_or-append_right cells (blank ∷ replicate (2 + 3 * room) blank) (length cells) (r.start + (3 * b + 2)) blank refl (omega arith)
          ∙ blank_at (2 + 3 * room) (r.start + (3 * b + 2) - length cells))))),
      λ at d lt. absurd (omega (arith, length-map-range_with_len (pair_in (part all r.start (3 * r.room))) 0 r.len)),
    )
  where
    blank_at : (m k : ℕ) → get_or (blank ∷ replicate m blank) k blank ≡ blank
    blank_at m zero = refl
    blank_at m (suc k) = elim (cases_lt k m) [
      | inl h ↦ get_or-replicate m k blank blank h
      | inr h ↦ get_or_past (replicate m blank) k blank (omega (arith, length-replicate m blank))
    ]

module _ {cells : List Cell} {bytes : List ℕ} {obs : List (Option ArenaObject)} {keys : Option ℕ} (h : Holds keys cells bytes obs) where
  pub list_made : (room : ℕ) → IsRoom room
      → Holds keys (cells ++ variants.ListHead (record { start = length cells + 3; len = 0; room = room }) ∷ replicate (2 + room) blank) bytes (obs ++ Some (ListObject [] room) ∷ replicate (2 + room) None)
  list_made room is_room =
      let c : Cell = variants.ListHead (record { start = length cells + 3; len = 0; room = room }) in
      let l : length (replicate (2 + room) blank) ≡ 2 + room = length-replicate (2 + room) blank in
      holds_made_cells h c (replicate (2 + room) blank) (ListObject [] room) (blanks (2 + room)) l refl (omega arith, is_room) refl (omega arith) (λ x i. omega (arith, i.low)) refl (λ texts below r q. absurd cc)

  pub dict_made : (room : ℕ) → IsRoom room
      → Holds keys (cells ++ variants.DictHead (record { start = length cells + 3; len = 0; room = room }) ∷ replicate (2 + 3 * room) blank) bytes (obs ++ Some (DictObject [] room) ∷ replicate (2 + 3 * room) None)
  dict_made room is_room =
      let c : Cell = variants.DictHead (record { start = length cells + 3; len = 0; room = room }) in
      let l : length (replicate (2 + 3 * room) blank) ≡ 2 + 3 * room = length-replicate (2 + 3 * room) blank in
      holds_made_cells h c (replicate (2 + 3 * room) blank) (DictObject [] room) (blanks (2 + 3 * room)) l refl (omega arith, is_room) refl (omega arith) (λ x i. omega (arith, i.low)) refl (new_links cells room)

  pub tuple_made : (count : ℕ)
      → Holds keys (cells ++ variants.TupleHead count ∷ replicate count blank) bytes (obs ++ Some (TupleObject (replicate count values.None)) ∷ replicate (length (replicate count values.None)) None)
  tuple_made count =
      let l : length (replicate count blank) ≡ count = length-replicate count blank in
      holds_made_cells h (variants.TupleHead count) (replicate count blank) (TupleObject (replicate count values.None)) (blanks count) (l ∙ sym (length-replicate count values.None)) refl tt refl (omega arith) (λ x i. omega (arith, i.low))
      (ap (λ (ps : List Cell). Some (TupleObject (map value_of ps))) (part_behind cells (replicate count blank) count ∙ take_all count (replicate count blank) (omega arith))
      ∙ ap (λ vs. Some (TupleObject vs)) (map-replicate count))
      (λ texts below r q. absurd cc)

  pub text_made : (bs : List ℕ)
      → Holds keys (cells ++ variants.TextHead (record { start = length bytes; len = length bs }) ∷ replicate 1 blank) (bytes ++ bs) (obs ++ Some (TextObject bs) ∷ replicate 1 None)
  text_made bs =
      holds_made h bs (variants.TextHead (record { start = length bytes; len = length bs })) (replicate 1 blank) (TextObject bs) (blanks 1) refl refl tt (omega arith) (λ x i. omega (arith, i.low, i.high))
      (omega (arith, length-append bytes bs)) (λ x i. i.low)
      (ap (λ x. Some (TextObject (take (length bs) x))) (drop_at bytes bs (length bytes) refl) ∙ ap (λ x. Some (TextObject x)) (take_all (length bs) bs (omega arith)))
      (λ texts below r q. absurd cc)

  pub function_made : (name module_no code : ℕ) (names : DictNo) (defaults : Value)
      → Holds keys (cells ++ variants.FunHead name module_no code ∷ variants.Dict names ∷ cell_of defaults ∷ replicate 1 blank) bytes (obs ++ Some (FunctionObject name module_no code names.cell defaults) ∷ replicate 3 None)
  function_made name module_no code names defaults =
      let ps : List Cell = variants.Dict names ∷ cell_of defaults ∷ replicate 1 blank in
      holds_made_cells h (variants.FunHead name module_no code) ps (FunctionObject name module_no code names.cell defaults)
      (plain_cons (variants.Dict names) (cell_of defaults ∷ replicate 1 blank) refl (plain_cons (cell_of defaults) (replicate 1 blank) (head_of-cell_of defaults) (blanks 1))) refl refl tt refl (omega arith) (λ x i. omega (arith, i.low))
      (ap (λ (qs : List Cell). decode (variants.FunHead name module_no code) qs (part bytes 0 0)) (part_behind cells ps 2) ∙ ap (λ v. Some (FunctionObject name module_no code names.cell v)) (value_of-cell_of defaults))
      (λ texts below r q. absurd cc)

  pub exception_made : (kind : Kind) (args : Value)
      → Holds keys (cells ++ variants.ExcHead kind ∷ cell_of args ∷ variants.Place 1 0 1 ∷ replicate 3 blank) bytes (obs ++ Some (ExceptionObject kind args 1 0 1) ∷ replicate 5 None)
  exception_made kind args =
      let ps : List Cell = cell_of args ∷ variants.Place 1 0 1 ∷ replicate 3 blank in
      holds_made_cells h (variants.ExcHead kind) ps (ExceptionObject kind args 1 0 1)
      (plain_cons (cell_of args) (variants.Place 1 0 1 ∷ replicate 3 blank) (head_of-cell_of args) (plain_cons (variants.Place 1 0 1) (replicate 3 blank) refl (blanks 3))) refl refl tt refl (omega arith) (λ x i. omega (arith, i.low))
      (ap (λ (qs : List Cell). decode (variants.ExcHead kind) qs (part bytes 0 0)) (part_behind cells ps 2) ∙ ap (λ v. Some (ExceptionObject kind v 1 0 1)) (value_of-cell_of args))
      (λ texts below r q. absurd cc)

  pub method_made : (v : Value) (method : Builtin)
      → Holds keys (cells ++ variants.MethodHead method ∷ cell_of v ∷ replicate 1 blank) bytes (obs ++ Some (MethodObject v method) ∷ replicate 2 None)
  method_made v method =
      let ps : List Cell = cell_of v ∷ replicate 1 blank in
      holds_made_cells h (variants.MethodHead method) ps (MethodObject v method)
      (plain_cons (cell_of v) (replicate 1 blank) (head_of-cell_of v) (blanks 1)) refl refl tt refl (omega arith) (λ x i. omega (arith, i.low))
      (ap (λ (qs : List Cell). decode (variants.MethodHead method) qs (part bytes 0 0)) (part_behind cells ps 1) ∙ ap (λ v. Some (MethodObject v method)) (value_of-cell_of v))
      (λ texts below r q. absurd cc)

  pub range_made : (start stop step : ℤ)
      → Holds keys (cells ++ variants.RangeHead start stop step ∷ replicate 3 blank) bytes (obs ++ Some (RangeObject start stop step) ∷ replicate 3 None)
  range_made start stop step =
      holds_made_cells h (variants.RangeHead start stop step) (replicate 3 blank) (RangeObject start stop step) (blanks 3) refl refl tt refl (omega arith) (λ x i. omega (arith, i.low, i.high)) refl
      (λ texts below r q. absurd cc)

  pub module_made : (name : ℕ)
      → Holds keys (cells ++ variants.ModuleHead name ∷ replicate 3 blank) bytes (obs ++ Some (ModuleObject name None) ∷ replicate 3 None)
  module_made name =
      holds_made_cells h (variants.ModuleHead name) (replicate 3 blank) (ModuleObject name None) (blanks 3) refl refl tt refl (omega arith) (λ x i. omega (arith, i.low))
      (ap (λ (qs : List Cell). decode (variants.ModuleHead name) qs (part bytes 0 0)) (part_behind cells (replicate 3 blank) 1))
      (λ texts below r q. absurd cc)
