-- What the calls on lists do to the cells.
use Rattle.std.proofs.Common.{ℕ, ◌+◌, ◌-◌, ◌≤◌, ◌<◌, ◌≡◌, ◌≢◌, List, ◌++◌, length, Option, Some, None, get_or, set, take, drop, map, replicate, refl, sym, ◌∙◌, ap, subst, inl, inr, arith, length-append, length-set, get_or-set_same, get_or-set_other}
use Rattle.std.proofs.Math.Path.{fun_ext}
use Rattle.std.proofs.Math.Seq.{take-set-lt}
use Rattle.std.proofs.lemmas.List.{get_or_append_left, get_or-append_right, length-replicate, drop_at, take_all, take_at, set-set, drop-set-add, take-take, map-set, length-map, length-take-le, get_or-map, get_or-take, same_lists}
use Rattle.std.proofs.lemmas.List.Edits.{length-remove, get_or-remove_below, get_or-remove_above, length-insert, get_or-insert_at, get_or-insert_below, get_or-insert_above}
use Rattle.std.proofs.lemmas.Bool.{cases_eq, cases_lt}
use Rattle.std.specs.List.{insert, remove}
use Rattle.arena_heap.specs.declared.value.Value.{Value}
use Rattle.arena_heap.specs.declared.cells.Cell.{Cell}
use Rattle.arena_heap.specs.declared.cells.Region.{Region}
use Rattle.arena_heap.specs.declared.cells.Cell.TheVariants.{ListHead, DictHead}
use Rattle.qstr_pool.specs.mpy_base.World.{ListObject}
use Rattle.qstr_pool.specs.mpy_base.Weights.{IsRoom}
use Rattle.arena_heap.specs.Values.{ArenaObject}
use Rattle.arena_heap.specs.Cells.{blank, value_of, head_of, heads, first, byte_size, byte_first, size, Full, part, cell_of, read, In, Kept, Holds}
use Rattle.arena_heap.proofs.Regions.{length-part, get_or-part}
use Rattle.arena_heap.proofs.Frame.{holds_head, holds_item, holds_written}
use Rattle.arena_heap.proofs.Moves.{holds_moved}
use Rattle.arena_heap.proofs.NewObjects.{blanks}
use Rattle.arena_heap.proofs.CellValues.{value_of-cell_of, head_of-cell_of}

-- the items of the list with this header
abbrev pub items_in : List Cell → Region → List Value
items_in cells r = map value_of (take r.len (part cells r.start r.room))

-- the room bounds the items
pub full_list : (cells : List Cell) {a b : ℕ} → Kept (heads cells) a b → (n : ℕ) (r : Region) → heads cells n ≡ ListHead r → r.len ≤ r.room
full_list cells k n r e = (subst Full e (k.full n)).0

pub some_room : (cells : List Cell) {a b : ℕ} → Kept (heads cells) a b → (n : ℕ) (r : Region) → heads cells n ≡ ListHead r → IsRoom r.room
some_room cells k n r e = (subst Full e (k.full n)).1

pub inside_list : (cells : List Cell) {a b : ℕ} → Kept (heads cells) a b → (n : ℕ) (r : Region) → heads cells n ≡ ListHead r → r.start + r.room ≤ a
inside_list cells {a} k n r e = subst (λ (h : Cell). first n h + size h ≤ a) e (k.cells_apart.inside n)

pub in_list : (cells : List Cell) (n : ℕ) (r : Region) → heads cells n ≡ ListHead r → (c : ℕ) → In r.start r.room c → In (first n (heads cells n)) (size (heads cells n)) c
in_list cells n r e c i = subst (λ (h : Cell). In (first n h) (size h) c) (sym e) i

pub length-items : (cells : List Cell) (r : Region) → r.len ≤ r.room → r.start + r.room ≤ length cells → length (items_in cells r) ≡ r.len
length-items cells r f i =
    length-map (take r.len (part cells r.start r.room)) value_of
    ∙ length-take-le r.len (part cells r.start r.room) (omega (arith, length-part cells r.start r.room i))

pub get_or-items : (cells : List Cell) (r : Region) (i : ℕ) (d : Value) → r.len ≤ r.room → r.start + r.room ≤ length cells → i < r.len
    → get_or (items_in cells r) i d ≡ value_of (get_or cells (r.start + i) blank)
get_or-items cells r i d f low h =
    let p : List Cell = part cells r.start r.room in
    get_or-map value_of (take r.len p) i blank d (omega (arith, length-take-le r.len p (omega (arith, length-part cells r.start r.room low))))
    ∙ ap value_of (get_or-take r.len p i blank h ∙ get_or-part cells r.start r.room i blank (omega arith))

-- the region after a write
pub part-set : (cells : List Cell) (s z i : ℕ) (x : Cell) → i < z → part (set cells (s + i) x) s z ≡ set (part cells s z) i x
part-set cells s z i x h = ap (take z) (drop-set-add s cells i x) ∙ take-set-lt z (drop s cells) i x h

pub list_stored : {cells : List Cell} {bytes : List ℕ} {obs : List (Option ArenaObject)} {keys : Option ℕ} → Holds keys cells bytes obs → (n i : ℕ) (r : Region) (v : Value) → n < length cells
    → heads cells n ≡ ListHead r → i < r.len → Holds keys (set cells (r.start + i) (cell_of v)) bytes (set obs n (Some (ListObject (set (items_in cells r) i v) r.room)))
list_stored {cells} {bytes} {obs} {keys} h n i r v low e lt =
    let f = full_list cells h.kept n r e in
    let cells1 : List Cell = set cells (r.start + i) (cell_of v) in
    let items : map value_of (take r.len (part cells1 r.start r.room)) ≡ set (items_in cells r) i v =
    ap (λ (ps : List Cell). map value_of (take r.len ps)) (part-set cells r.start r.room i (cell_of v) (omega arith))
    ∙ (ap (map value_of) (take-set-lt r.len (part cells r.start r.room) i (cell_of v) lt) ∙ (map-set value_of (take r.len (part cells r.start r.room)) i (cell_of v) ∙ ap (set (items_in cells r) i) (value_of-cell_of v))) in
    subst (λ (o : Option ArenaObject). Holds keys cells1 bytes (set obs n o))
    (ap (λ (c : Cell). read n c cells1 bytes) e ∙ ap (λ vs. Some (ListObject vs r.room)) items)
    (holds_item h n (r.start + i) v low (in_list cells n r e (r.start + i) (record { low = omega arith; high = omega arith }))
    (λ below k r2 q. let q2 : ListHead r ≡ DictHead r2 = sym e ∙ q in absurd cc))

-- a header is written anew, of the same region
pub list_again : {cells : List Cell} {bytes : List ℕ} {obs : List (Option ArenaObject)} {keys : Option ℕ} → Holds keys cells bytes obs → (n len : ℕ) (r : Region) → n < length cells
    → heads cells n ≡ ListHead r → len ≤ r.room
    → Holds keys (set cells n (ListHead (record r { len = len }))) bytes (set obs n (Some (ListObject (items_in cells (record r { len = len })) r.room)))
list_again {cells} {bytes} {obs} {keys} h n len r low e full =
    holds_head h n (ListHead (record r { len = len })) low (record {
      head = refl;
      inside = inside_list cells h.kept n r e;
      byte_inside = omega arith;
      free = λ m x i j. h.kept.cells_apart.apart m n x j (in_list cells n r e x i);
      byte_free = λ m x i j. absurd (omega (arith, i.low, i.high));
      mine = λ m i. let q : heads cells n ≡ blank = h.kept.plain m n i in let q2 : ListHead r ≡ blank = sym e ∙ q in cc;
      outside = λ i. let q : heads cells n ≡ blank = h.kept.plain n n (in_list cells n r e n i) in let q2 : ListHead r ≡ blank = sym e ∙ q in cc;
      plain = λ x i. h.kept.plain n x (in_list cells n r e x i);
      full = (full, some_room cells h.kept n r e);
    }) (record { links = λ below k r2 q. absurd cc; text = λ below k lt. sym (ap (λ (x : Cell). part bytes (byte_first n x) (byte_size x)) e) })

-- an item is taken out, and those behind it close up
pub list_removed : {cells : List Cell} {bytes : List ℕ} {obs : List (Option ArenaObject)} {keys : Option ℕ} → Holds keys cells bytes obs → (n i : ℕ) (r : Region) (cells1 : List Cell) → n < length cells
    → heads cells n ≡ ListHead r → i < r.len → length cells1 ≡ length cells
    → ((k : ℕ) (d : Cell) → r.start + i ≤ k → k + 1 < r.start + r.len → get_or cells1 k d ≡ get_or cells (k + 1) d)
    → ((k : ℕ) (d : Cell) → k < r.start + i → get_or cells1 k d ≡ get_or cells k d)
    → ((k : ℕ) (d : Cell) → r.start + r.len ≤ k + 1 → get_or cells1 k d ≡ get_or cells k d)
    → Holds keys (set cells1 n (ListHead (record r { len = r.len - 1 }))) bytes (set obs n (Some (ListObject (remove (items_in cells r) i) r.room)))
list_removed {cells} {bytes} {obs} {keys} h n i r cells1 low e lt l moved before behind =
    let full = full_list cells h.kept n r e in
    let ins = inside_list cells h.kept n r e in
    let plain : (c : ℕ) → r.start ≤ c → c < r.start + r.room → heads cells c ≡ blank = λ c a b. h.kept.plain n c (in_list cells n r e c (record { low = a; high = b })) in
    let same : heads cells1 ≡ heads cells = fun_ext (λ k. elim (cases_lt k (r.start + i)) [
      | inl a ↦ ap head_of (before k blank a)
      | inr a ↦ elim (cases_lt (k + 1) (r.start + r.len)) [
        | inl b ↦ ap head_of (moved k blank a b) ∙ (plain (k + 1) (omega arith) (omega arith) ∙ sym (plain k (omega arith) (omega arith)))
        | inr b ↦ ap head_of (behind k blank b)
      ]
    ]) in
    let out : (c : ℕ) (d : Cell) → (In (first n (heads cells n)) (size (heads cells n)) c → ⊥) → get_or cells1 c d ≡ get_or cells c d = λ c d no. elim (cases_lt c (r.start + i)) [
      | inl a ↦ before c d a
      | inr a ↦ elim (cases_lt (c + 1) (r.start + r.len)) [
        | inl b ↦ absurd (no (in_list cells n r e c (record { low = omega arith; high = omega arith })))
        | inr b ↦ behind c d b
      ]
    ] in
    let o1 : Option ArenaObject = read n (heads cells n) cells1 bytes in
    let h1 : Holds keys cells1 bytes (set obs n o1) = holds_written h n cells1 low l same out (λ below k r2 q. let q2 : ListHead r ≡ DictHead r2 = sym e ∙ q in absurd cc) in
    let e1 : heads cells1 n ≡ ListHead r = ap (λ (f : ℕ → Cell). f n) same ∙ e in
    let r1 : Region = record r { len = r.len - 1 } in
    let li = length-items cells r full ins in
    let li1 : length (items_in cells1 r1) ≡ r.len - 1 = length-items cells1 r1 (omega arith) (omega arith) in
    let items : items_in cells1 r1 ≡ remove (items_in cells r) i =
    same_lists _ _ (omega (arith, length-remove (items_in cells r) i (omega arith)))
    (λ k d b. let kb : k < r.len - 1 = omega arith in
    get_or-items cells1 r1 k d (omega arith) (omega arith) kb
    ∙ elim (cases_lt k i) [
      | inl a ↦ ap value_of (before (r.start + k) blank (omega arith)) ∙ (sym (get_or-items cells r k d full ins (omega arith)) ∙ sym (get_or-remove_below (items_in cells r) i d k a (omega arith)))
      | inr a ↦ ap value_of (moved (r.start + k) blank (omega arith) (omega arith) ∙ ap (λ j. get_or cells j blank) (omega arith))
          ∙ (sym (get_or-items cells r (k + 1) d full ins (omega arith)) ∙ sym (get_or-remove_above (items_in cells r) i d k a (omega arith)))
    ]) in
    subst (λ (x : List (Option ArenaObject)). Holds keys (set cells1 n (ListHead r1)) bytes x)
    (ap (λ vs. set (set obs n o1) n (Some (ListObject vs r.room))) items ∙ set-set obs n o1 (Some (ListObject (remove (items_in cells r) i) r.room)))
    (list_again h1 n (r.len - 1) r (omega arith) e1 (omega arith))

-- a list moves behind all cells, and has its items there
pub list_moved : {cells : List Cell} {bytes : List ℕ} {obs : List (Option ArenaObject)} {keys : Option ℕ} → Holds keys cells bytes obs → (n start rest : ℕ) (r : Region) (cells1 : List Cell) → n < length cells
    → heads cells n ≡ ListHead r → IsRoom (r.len + rest) → start ≡ length cells → cells1 ≡ cells ++ (part cells r.start r.len ++ replicate rest blank)
    → Holds keys (set cells1 n (ListHead (record { start = start; len = r.len; room = r.len + rest }))) bytes
    (set (obs ++ replicate (r.len + rest) None) n (Some (ListObject (items_in cells r) (r.len + rest))))
list_moved {cells} {bytes} {obs} {keys} h n start rest r cells1 low e is_room es ec =
    let full = full_list cells h.kept n r e in
    let ins = inside_list cells h.kept n r e in
    let ps : List Cell = part cells r.start r.len in
    let lp : length ps ≡ r.len = length-part cells r.start r.len (omega arith) in
    let qs : List Cell = ps ++ replicate rest blank in
    let lq : length qs ≡ r.len + rest = length-append ps (replicate rest blank) ∙ omega (arith, lp, length-replicate rest blank) in
    let plain : (k : ℕ) → heads qs k ≡ blank = λ k. elim (cases_lt k r.len) [
      | inl lt ↦ ap head_of (get_or_append_left ps (replicate rest blank) blank k (omega arith) ∙ get_or-part cells r.start r.len k blank lt)
          ∙ h.kept.plain n (r.start + k) (in_list cells n r e (r.start + k) (record { low = omega arith; high = omega arith }))
      | inr ge ↦ ap head_of (get_or-append_right ps (replicate rest blank) r.len k blank lp ge) ∙ blanks rest (k - r.len)
    ] in
    let r1 : Region = record { start = length cells; len = r.len; room = r.len + rest } in
    let items : items_in (cells ++ qs) r1 ≡ items_in cells r =
    ap (λ (x : List Cell). map value_of (take r.len (take (r.len + rest) x))) (drop_at cells qs (length cells) refl)
    ∙ (ap (λ (x : List Cell). map value_of (take r.len x)) (take_all (r.len + rest) qs (omega arith))
    ∙ (ap (map value_of) (take_at ps (replicate rest blank) r.len lp)
    ∙ ap (map value_of) (sym (take-take r.len r.room (drop r.start cells) full)))) in
    let moved = holds_moved h n (ListHead (record { start = length cells; len = r.len; room = length qs })) qs low
    (λ q. let q2 : ListHead r ≡ blank = sym e ∙ q in cc) plain refl (omega arith, subst IsRoom (sym lq) is_room) (omega arith) refl refl (λ below k r2 q. absurd cc) (sym (ap (λ (x : Cell). part bytes (byte_first n x) (byte_size x)) e)) in
    subst (λ (x : List Cell). Holds keys (set x n (ListHead (record { start = start; len = r.len; room = r.len + rest }))) bytes (set (obs ++ replicate (r.len + rest) None) n (Some (ListObject (items_in cells r) (r.len + rest))))) (sym ec)
    (subst (λ (j : ℕ). Holds keys (set (cells ++ qs) n (ListHead (record { start = j; len = r.len; room = r.len + rest }))) bytes (set (obs ++ replicate (r.len + rest) None) n (Some (ListObject (items_in cells r) (r.len + rest))))) (sym es)
    (subst (λ vs. Holds keys (set (cells ++ qs) n (ListHead r1)) bytes (set (obs ++ replicate (r.len + rest) None) n (Some (ListObject vs (r.len + rest))))) items
    (subst (λ (m : ℕ). Holds keys (set (cells ++ qs) n (ListHead (record { start = length cells; len = r.len; room = m }))) bytes
    (set (obs ++ replicate m None) n (Some (ListObject (items_in (cells ++ qs) (record { start = length cells; len = r.len; room = m })) m)))) lq moved)))

-- an item is put in front of place i, and those from there on make room
pub list_inserted : {cells : List Cell} {bytes : List ℕ} {obs : List (Option ArenaObject)} {keys : Option ℕ} → Holds keys cells bytes obs → (n i : ℕ) (r : Region) (v : Value) (cells1 : List Cell) → n < length cells
    → heads cells n ≡ ListHead r → i ≤ r.len → r.len < r.room → length cells1 ≡ length cells
    → ((k : ℕ) (d : Cell) → r.start + i < k → k ≤ r.start + r.len → get_or cells1 k d ≡ get_or cells (k - 1) d)
    → get_or cells1 (r.start + i) blank ≡ cell_of v
    → ((k : ℕ) (d : Cell) → k < r.start + i → get_or cells1 k d ≡ get_or cells k d)
    → ((k : ℕ) (d : Cell) → r.start + r.len < k → get_or cells1 k d ≡ get_or cells k d)
    → Holds keys (set cells1 n (ListHead (record r { len = r.len + 1 }))) bytes (set obs n (Some (ListObject (insert (items_in cells r) i v) r.room)))
list_inserted {cells} {bytes} {obs} {keys} h n i r v cells1 low e le lt l moved here before behind =
    let full = full_list cells h.kept n r e in
    let ins = inside_list cells h.kept n r e in
    let plain : (c : ℕ) → r.start ≤ c → c < r.start + r.room → heads cells c ≡ blank = λ c a b. h.kept.plain n c (in_list cells n r e c (record { low = a; high = b })) in
    let same : heads cells1 ≡ heads cells = fun_ext (λ k. elim (cases_lt k (r.start + i)) [
      | inl a ↦ ap head_of (before k blank a)
      | inr a ↦ elim (cases_lt (r.start + r.len) k) [
        | inl b ↦ ap head_of (behind k blank b)
        | inr b ↦ elim (cases_eq k (r.start + i)) [
          | inl q ↦ subst (λ (j : ℕ). heads cells1 j ≡ heads cells j) (sym q) (ap head_of here ∙ (head_of-cell_of v ∙ sym (plain (r.start + i) (omega arith) (omega arith))))
          | inr ne ↦ ap head_of (moved k blank (omega (arith, ne)) b) ∙ (plain (k - 1) (omega (arith, ne)) (omega arith) ∙ sym (plain k (omega arith) (omega arith)))
        ]
      ]
    ]) in
    let out : (c : ℕ) (d : Cell) → (In (first n (heads cells n)) (size (heads cells n)) c → ⊥) → get_or cells1 c d ≡ get_or cells c d = λ c d no. elim (cases_lt c (r.start + i)) [
      | inl a ↦ before c d a
      | inr a ↦ elim (cases_lt (r.start + r.len) c) [
        | inl b ↦ behind c d b
        | inr b ↦ absurd (no (in_list cells n r e c (record { low = omega arith; high = omega arith })))
      ]
    ] in
    let o1 : Option ArenaObject = read n (heads cells n) cells1 bytes in
    let h1 : Holds keys cells1 bytes (set obs n o1) = holds_written h n cells1 low l same out (λ below k r2 q. let q2 : ListHead r ≡ DictHead r2 = sym e ∙ q in absurd cc) in
    let e1 : heads cells1 n ≡ ListHead r = ap (λ (f : ℕ → Cell). f n) same ∙ e in
    let r1 : Region = record r { len = r.len + 1 } in
    let vs : List Value = items_in cells r in
    let li = length-items cells r full ins in
    let li1 : length (items_in cells1 r1) ≡ r.len + 1 = length-items cells1 r1 (omega arith) (omega arith) in
    let items : items_in cells1 r1 ≡ insert vs i v =
    same_lists _ _ (omega (arith, length-insert vs i v (omega arith)))
    (λ k d b. let kb : k < r.len + 1 = omega arith in
    get_or-items cells1 r1 k d (omega arith) (omega arith) kb
    ∙ elim (cases_lt k i) [
      | inl a ↦ ap value_of (before (r.start + k) blank (omega arith)) ∙ (sym (get_or-items cells r k d full ins (omega arith)) ∙ sym (get_or-insert_below vs i v d k a (omega arith)))
      | inr a ↦ elim (cases_eq k i) [
        | inl q ↦ subst (λ (j : ℕ). value_of (get_or cells1 (r.start + j) blank) ≡ get_or (insert vs i v) j d) (sym q)
            (ap value_of here ∙ (value_of-cell_of v ∙ sym (get_or-insert_at vs i v d (omega arith))))
        | inr ne ↦
            let kk : k ≡ k - 1 + 1 = omega (arith, ne) in
            let ks : r.start + k - 1 ≡ r.start + (k - 1) = omega (arith, ne) in
            ap value_of (moved (r.start + k) blank (omega (arith, ne)) (omega arith) ∙ ap (λ j. get_or cells j blank) ks)
            ∙ (sym (get_or-items cells r (k - 1) d full ins (omega (arith, ne))) ∙ sym (ap (λ j. get_or (insert vs i v) j d) kk ∙ get_or-insert_above vs i v d (k - 1) (omega (arith, ne)) (omega arith)))
      ]
    ]) in
    subst (λ (x : List (Option ArenaObject)). Holds keys (set cells1 n (ListHead r1)) bytes x)
    (ap (λ ws. set (set obs n o1) n (Some (ListObject ws r.room))) items ∙ set-set obs n o1 (Some (ListObject (insert vs i v) r.room)))
    (list_again h1 n (r.len + 1) r (omega arith) e1 (omega arith))

-- the same where the cells were copied upwards, and then one was written
pub list_put : {cells : List Cell} {bytes : List ℕ} {obs : List (Option ArenaObject)} {keys : Option ℕ} → Holds keys cells bytes obs → (n i : ℕ) (r : Region) (v : Value) (x : Cell) (copied : List Cell) → n < length cells
    → heads cells n ≡ ListHead r → i ≤ r.len → r.len < r.room → x ≡ cell_of v → length copied ≡ length cells
    → ((k : ℕ) (d : Cell) → r.start + i + 1 ≤ k → k ≤ r.start + r.len → get_or copied k d ≡ get_or cells (k - 1) d)
    → ((k : ℕ) (d : Cell) → k < r.start + i + 1 → get_or copied k d ≡ get_or cells k d)
    → ((k : ℕ) (d : Cell) → r.start + r.len < k → get_or copied k d ≡ get_or cells k d)
    → Holds keys (set (set copied (r.start + i) x) n (ListHead (record r { len = r.len + 1 }))) bytes (set obs n (Some (ListObject (insert (items_in cells r) i v) r.room)))
list_put {cells} {bytes} {obs} {keys} h n i r v x copied low e le lt ex l moved before behind =
    let ins = inside_list cells h.kept n r e in
    let at : ℕ = r.start + i in
    let other : (k : ℕ) (d : Cell) → k ≢ at → get_or (set copied at x) k d ≡ get_or copied k d = λ k d ne. get_or-set_other copied at k x d ne in
    list_inserted h n i r v (set copied at x) low e le lt (length-set copied at x ∙ l)
    (λ k d a b. other k d (λ q. omega arith) ∙ moved k d (omega arith) b)
    (get_or-set_same copied at x blank (omega arith) ∙ ex)
    (λ k d a. other k d (λ q. omega arith) ∙ before k d (omega arith))
    (λ k d a. other k d (λ q. omega arith) ∙ behind k d a)
