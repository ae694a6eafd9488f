-- What the calls on dicts do to the cells.
use Rattle.std.proofs.Common.{ℕ, suc, max, ◌+◌, ◌-◌, ◌*◌, ◌≤◌, ◌<◌, ◌≡◌, ◌≢◌, List, [], ◌∷◌, ◌++◌, length, Option, Some, None, get_or, set, take, drop, replicate, refl, sym, ◌∙◌, ap, subst, inl, inr, arith, length-append, length-set, length-drop, get_or-set_same, get_or-set_other}
use Rattle.std.proofs.Math.Path.{fun_ext, ap₂}
use Rattle.std.proofs.lemmas.List.{set-set, same_lists, get_or_append_left, get_or-append_right, length-replicate, length-take-le, get_or-take, get_or-drop, take-append-drop}
use Rattle.std.proofs.lemmas.List.Edits.{length-remove, get_or-remove_below, get_or-remove_above}
use Rattle.std.proofs.lemmas.List.FromFn.{length-map-range_with_len, get_or-map-range_with_len, map-range_with_len_more}
use Rattle.std.proofs.lemmas.Bool.{cases_eq, cases_lt}
use Rattle.std.specs.List.{remove, All}
use Rattle.arena_heap.specs.declared.value.Value.{Value}
use Rattle.arena_heap.specs.declared.cells.Cell.{Cell}
use Rattle.arena_heap.specs.declared.cells.Region.{Region}
use Rattle.arena_heap.specs.declared.cells.Cell.TheVariants.{DictHead}
use Rattle.qstr_pool.specs.mpy_base.World.{DictObject}
use Rattle.qstr_pool.specs.mpy_base.Weights.{IsRoom}
use Rattle.arena_heap.specs.Values.{ArenaObject}
use Rattle.arena_heap.specs.Dicts.{with_value}
use Rattle.arena_heap.specs.Cells.{blank, cell_of, value_of, head_of, heads, first, size, byte_first, byte_size, Full, part, pair_in, pairs_in, read, In, Kept, IsBelow, AreLinked, Links, Linked, AreAllLinked, texts_in, Relinked, Holds}
use Rattle.arena_heap.proofs.Regions.{length-part, get_or-part}
use Rattle.arena_heap.proofs.Frame.{Bare, bare, bare_head, bare_written, holds_item, heads_past, heads_set_same, heads_set_other, heads_set_plain, region_same, links_kept, all_linked}
use Rattle.arena_heap.proofs.KeyTexts.{texts_same}
use Rattle.arena_heap.specs.Links.{text_end, with_key}
use Rattle.std.proofs.lemmas.List.Elements.{All-append, All-take, All-drop, All-set, All-push}
use Rattle.arena_heap.proofs.LinkCells.{linked_stored, linked_keyed}
use Rattle.arena_heap.proofs.ListCells.{part-set}
use Rattle.arena_heap.proofs.Moves.{holds_moved}
use Rattle.arena_heap.proofs.NewObjects.{blanks}
use Rattle.arena_heap.proofs.CellValues.{value_of-cell_of, head_of-cell_of}

-- the pairs of the dict with this header
abbrev pub region_pairs : List Cell → Region → List (Value × Value)
region_pairs cells r = pairs_in (part cells r.start (3 * r.room)) r.len

pub full_dict : (cells : List Cell) {a b : ℕ} → Kept (heads cells) a b → (n : ℕ) (r : Region) → heads cells n ≡ DictHead r → r.len ≤ r.room
full_dict cells k n r e = (subst Full e (k.full n)).0

pub inside_dict : (cells : List Cell) {a b : ℕ} → Kept (heads cells) a b → (n : ℕ) (r : Region) → heads cells n ≡ DictHead r → r.start + 3 * r.room ≤ a
inside_dict cells {a} k n r e = subst (λ (h : Cell). first n h + size h ≤ a) e (k.cells_apart.inside n)

pub in_dict : (cells : List Cell) (n : ℕ) (r : Region) → heads cells n ≡ DictHead r → (c : ℕ) → In r.start (3 * r.room) c → In (first n (heads cells n)) (size (heads cells n)) c
in_dict cells n r e c i = subst (λ (h : Cell). In (first n h) (size h) c) (sym e) i

pub length-pairs : (ps : List Cell) (n : ℕ) → length (pairs_in ps n) ≡ n
length-pairs ps n = length-map-range_with_len (pair_in ps) 0 n

pub get_or-pairs : (ps : List Cell) (n i : ℕ) (d : Value × Value) → i < n → get_or (pairs_in ps n) i d ≡ pair_in ps i
get_or-pairs ps n i d h = get_or-map-range_with_len (pair_in ps) 0 n i i d h (omega arith)

pub pairs_are : (ps : List Cell) (n : ℕ) (xs : List (Value × Value)) → length xs ≡ n → ((i : ℕ) (d : Value × Value) → i < n → pair_in ps i ≡ get_or xs i d) → pairs_in ps n ≡ xs
pairs_are ps n xs l each = let lp = length-pairs ps n in same_lists _ _ (lp ∙ sym l) (λ k d h. get_or-pairs ps n k d (omega arith) ∙ each k d (omega arith))

not_item : (n : ℕ) (r : Region) (cells : List Cell) (c : ℕ) (a b : ℕ) → Kept (heads cells) a b → heads cells n ≡ DictHead r → In r.start (3 * r.room) c → n ≢ c
not_item n r cells c a b k e i q =
    let p : heads cells c ≡ blank = k.plain n c (in_dict cells n r e c i) in
    let p2 : DictHead r ≡ blank = sym e ∙ (ap (heads cells) q ∙ p) in cc

-- a header is written anew, of the same region
bare_again : {cells : List Cell} {bytes : List ℕ} {obs : List (Option ArenaObject)} → Bare cells bytes obs → (n len : ℕ) (r : Region) → n < length cells
    → heads cells n ≡ DictHead r → len ≤ r.room
    → Bare (set cells n (DictHead (record r { len = len }))) bytes (set obs n (Some (DictObject (region_pairs cells (record r { len = len })) r.room)))
bare_again {cells} {bytes} {obs} h n len r low e full =
    bare_head h n (DictHead (record r { len = len })) low (record {
      head = refl;
      inside = inside_dict cells h.kept n r e;
      byte_inside = omega arith;
      free = λ m x i j. h.kept.cells_apart.apart m n x j (in_dict cells n r e x i);
      byte_free = λ m x i j. absurd (omega (arith, i.low, i.high));
      mine = λ m i. let q : heads cells n ≡ blank = h.kept.plain m n i in let q2 : DictHead r ≡ blank = sym e ∙ q in cc;
      outside = λ i. let q : heads cells n ≡ blank = h.kept.plain n n (in_dict cells n r e n i) in let q2 : DictHead r ≡ blank = sym e ∙ q in cc;
      plain = λ x i. h.kept.plain n x (in_dict cells n r e x i);
      full = (full, (subst Full e (h.kept.full n)).1);
    })

abbrev region_in : Region → Cell → Region
region_in r (DictHead of_dict) = of_dict
region_in r _ = r

-- what the links of a dict are, where dicts are linked
pub linked_now : {cells : List Cell} {bytes : List ℕ} {obs : List (Option ArenaObject)} {keys : Option ℕ} → Holds keys cells bytes obs → (n : ℕ) (r : Region)
    → heads cells n ≡ DictHead r → (below : ℕ) → keys ≡ Some below → AreLinked (texts_in cells bytes) (part cells r.start (3 * r.room)) r.room r.len × All (IsBelow below) (region_pairs cells r)
linked_now {cells} {bytes} {obs} {keys} h n r e below q =
    let now : Linked below cells bytes = subst (λ (k : Option ℕ). AreAllLinked k cells bytes) q h.linked in now.each n r e

-- the cells of a dict and its head are written
pub dict_written : {cells : List Cell} {bytes : List ℕ} {obs : List (Option ArenaObject)} {keys : Option ℕ} → Holds keys cells bytes obs → (n len : ℕ) (r : Region) (cells1 : List Cell) (pairs : List (Value × Value)) → n < length cells
    → heads cells n ≡ DictHead r → length cells1 ≡ length cells → heads cells1 ≡ heads cells
    → ((c : ℕ) (d : Cell) → (In r.start (3 * r.room) c → ⊥) → get_or cells1 c d ≡ get_or cells c d)
    → len ≤ r.room → region_pairs cells1 (record r { len = len }) ≡ pairs
    → ((below : ℕ) → keys ≡ Some below → AreLinked (texts_in cells bytes) (part cells1 r.start (3 * r.room)) r.room len × All (IsBelow below) pairs)
    → Holds keys (set cells1 n (DictHead (record r { len = len }))) bytes (set obs n (Some (DictObject pairs r.room)))
dict_written {cells} {bytes} {obs} {keys} h n len r cells1 pairs low e l same out full is linked =
    let r1 : Region = record r { len = len } in
    let head : Cell = DictHead r1 in
    let cells2 : List Cell = set cells1 n head in
    let l2 : length cells2 ≡ length cells1 = length-set cells1 n head in
    let ins = inside_dict cells h.kept n r e in
    let o1 : Option ArenaObject = read n (heads cells n) cells1 bytes in
    let b1 : Bare cells1 bytes (set obs n o1) = bare_written (bare h) n cells1 low l same (λ c d no. out c d (λ i. no (in_dict cells n r e c i))) in
    let e1 : heads cells1 n ≡ DictHead r = ap (λ (f : ℕ → Cell). f n) same ∙ e in
    let b2 : Bare cells2 bytes (set obs n (Some (DictObject pairs r.room))) =
    subst (λ (x : List (Option ArenaObject)). Bare cells2 bytes x)
    (ap (λ xs. set (set obs n o1) n (Some (DictObject xs r.room))) is ∙ set-set obs n o1 (Some (DictObject pairs r.room)))
    (bare_again b1 n len r (omega arith) e1 full) in
    let here : heads cells2 n ≡ head = heads_set_same cells1 n head (omega arith) refl in
    let other : (m : ℕ) → m ≢ n → heads cells2 m ≡ heads cells m = λ m ne. heads_set_other cells1 n m head ne ∙ ap (λ (f : ℕ → Cell). f m) same in
    let texts : texts_in cells2 bytes ≡ texts_in cells bytes = fun_ext (λ t. elim (cases_eq t n) [
      | inl q ↦ subst (λ (y : ℕ). texts_in cells2 bytes y ≡ texts_in cells bytes y) (sym q)
          (ap (λ (x : Cell). part bytes (byte_first n x) (byte_size x)) here ∙ sym (ap (λ (x : Cell). part bytes (byte_first n x) (byte_size x)) e))
      | inr ne ↦ ap (λ (x : Cell). part bytes (byte_first t x) (byte_size x)) (other t ne)
    ]) in
    record {
      kept = b2.kept;
      linked = all_linked keys cells cells2 bytes bytes (λ below q now. record {
        few = omega (arith, now.few);
        each = λ m. subst (λ (t : ℕ → List ℕ). Links t below (heads cells2 m) cells2) (sym texts) (elim (cases_eq m n) [
          | inl q1 ↦ subst (λ (y : ℕ). Links (texts_in cells bytes) below (heads cells2 y) cells2) (sym q1) (λ r2 q2.
              let mine = linked below q in
              subst (λ (x : Region). AreLinked (texts_in cells bytes) (part cells2 x.start (3 * x.room)) x.room x.len × All (IsBelow below) (pairs_in (part cells2 x.start (3 * x.room)) x.len)) (ap (region_in r1) (sym here ∙ q2))
              (region_same (λ (ps : List Cell). AreLinked (texts_in cells bytes) ps r.room len × All (IsBelow below) (pairs_in ps len)) cells1 cells2 r.start r.room (omega arith) (omega arith)
              (λ c d i. get_or-set_other cells1 n c head d (λ y. not_item n r cells c (length cells) (length bytes) h.kept e i (sym y)))
              (mine.0, subst (All (IsBelow below)) (sym is) mine.1)))
          | inr ne ↦ links_kept (texts_in cells bytes) below cells cells2 m h.kept refl (omega arith) (other m ne)
              (λ c d i. get_or-set_other cells1 n c head d (λ y.
              let p : heads cells n ≡ blank = h.kept.plain m n (subst (λ (z : ℕ). In (first m (heads cells m)) (size (heads cells m)) z) y i) in
              let p2 : DictHead r ≡ blank = sym e ∙ p in cc)
              ∙ out c d (λ j. ne (h.kept.cells_apart.apart m n c i (in_dict cells n r e c j)))) (now.each m)
        ]);
      }) h.linked;
      objects = b2.objects;
    }

-- pairs whose cells were written at links alone
relinked_pairs : (cells cells1 : List Cell) (r : Region) → Relinked r.start r.room cells cells1 → r.len ≤ r.room → region_pairs cells1 r ≡ region_pairs cells r
relinked_pairs cells cells1 r relinked full =
    pairs_are (part cells1 r.start (3 * r.room)) r.len (region_pairs cells r) (length-pairs (part cells r.start (3 * r.room)) r.len)
    (λ i d lt. relinked.pairs i (omega arith) ∙ sym (get_or-pairs (part cells r.start (3 * r.room)) r.len i d lt))

-- a value is put in a pair that is there
pub dict_stored : {cells : List Cell} {bytes : List ℕ} {obs : List (Option ArenaObject)} {keys : Option ℕ} → Holds keys cells bytes obs → (n i : ℕ) (r : Region) (v : Value) → n < length cells
    → heads cells n ≡ DictHead r → i < r.len
    → Holds keys (set cells (r.start + (3 * i + 1)) (cell_of v)) bytes (set obs n (Some (DictObject (with_value (region_pairs cells r) i v) r.room)))
dict_stored {cells} {bytes} {obs} {keys} h n i r v low e lt =
    let f = full_dict cells h.kept n r e in
    let ins = inside_dict cells h.kept n r e in
    let ps : List Cell = part cells r.start (3 * r.room) in
    let lp : length ps ≡ 3 * r.room = length-part cells r.start (3 * r.room) ins in
    let c : ℕ = 3 * i + 1 in
    let cells1 : List Cell = set cells (r.start + c) (cell_of v) in
    let old : List (Value × Value) = pairs_in ps r.len in
    let pair : Value × Value = ((get_or old i (v, v)).0, v) in
    let key : (pair_in ps i).0 ≡ pair.0 = ap (λ (p : Value × Value). p.0) (sym (get_or-pairs ps r.len i (v, v) lt)) in
    let each : (j : ℕ) (d : Value × Value) → j < r.len → pair_in (set ps c (cell_of v)) j ≡ get_or (set old i pair) j d = λ j d hj. elim (cases_eq j i) [
      | inl q ↦ subst (λ (y : ℕ). pair_in (set ps c (cell_of v)) y ≡ get_or (set old i pair) y d) (sym q)
          (ap₂ (λ (x y : Value). (x, y)) (ap value_of (get_or-set_other ps c (3 * i) (cell_of v) blank (omega arith)) ∙ key)
          (ap value_of (get_or-set_same ps c (cell_of v) blank (omega arith)) ∙ value_of-cell_of v)
          ∙ sym (get_or-set_same old i pair d (omega (arith, length-pairs ps r.len))))
      | inr ne ↦ ap₂ (λ (x y : Value). (x, y)) (ap value_of (get_or-set_other ps c (3 * j) (cell_of v) blank (omega arith))) (ap value_of (get_or-set_other ps c (3 * j + 1) (cell_of v) blank (λ q. ne (omega arith))))
          ∙ (sym (get_or-pairs ps r.len j d hj) ∙ sym (get_or-set_other old i j pair d ne))
    ] in
    let pairs : region_pairs cells1 r ≡ with_value (region_pairs cells r) i v =
    ap (λ (x : List Cell). pairs_in x r.len) (part-set cells r.start (3 * r.room) c (cell_of v) (omega arith))
    ∙ pairs_are (set ps c (cell_of v)) r.len (set old i pair) (length-set old i pair ∙ length-pairs ps r.len) each in
    subst (λ (o : Option ArenaObject). Holds keys cells1 bytes (set obs n o))
    (ap (λ (x : Cell). read n x cells1 bytes) e ∙ ap (λ xs. Some (DictObject xs r.room)) pairs)
    (holds_item h n (r.start + c) v low (in_dict cells n r e (r.start + c) (record { low = omega arith; high = omega arith }))
    (λ below k r2 q.
    let was = linked_now h n r e below k in
    subst (λ (x : Region). AreLinked (texts_in cells bytes) (part cells1 x.start (3 * x.room)) x.room x.len × All (IsBelow below) (pairs_in (part cells1 x.start (3 * x.room)) x.len)) (ap (region_in r) (sym e ∙ q)) (
      subst (λ (qs : List Cell). AreLinked (texts_in cells bytes) qs r.room r.len) (sym (part-set cells r.start (3 * r.room) c (cell_of v) (omega arith))) (linked_stored (texts_in cells bytes) ps r.room r.len i (cell_of v) was.0),
      subst (All (IsBelow below)) (sym pairs) (All-set (IsBelow below) old i pair (was.1 i (v, v) (omega (arith, length-pairs ps r.len))) was.1),
    )))

-- a pair is taken out, and those behind it close up
module _ {cells : List Cell} {bytes : List ℕ} {obs : List (Option ArenaObject)} {keys : Option ℕ} (h : Holds keys cells bytes obs) (n i : ℕ) (r : Region) (cells1 : List Cell) (low : n < length cells)
    (e : heads cells n ≡ DictHead r) (lt : i < r.len) (l : length cells1 ≡ length cells)
    (moved : (k : ℕ) (d : Cell) → r.start + 3 * i ≤ k → k + 3 < r.start + 3 * r.len → get_or cells1 k d ≡ get_or cells (k + 3) d)
    (before : (k : ℕ) (d : Cell) → k < r.start + 3 * i → get_or cells1 k d ≡ get_or cells k d)
    (behind : (k : ℕ) (d : Cell) → r.start + 3 * r.len ≤ k + 3 → get_or cells1 k d ≡ get_or cells k d)
  where
    plain : (c : ℕ) → r.start ≤ c → c < r.start + 3 * r.room → heads cells c ≡ blank
    plain c a b = h.kept.plain n c (in_dict cells n r e c (record { low = a; high = b }))

    pub removed_heads : (k : ℕ) → heads cells1 k ≡ heads cells k
    removed_heads k =
        let full = full_dict cells h.kept n r e in
        elim (cases_lt k (r.start + 3 * i)) [
          | inl a ↦ ap head_of (before k blank a)
          | inr a ↦ elim (cases_lt (k + 3) (r.start + 3 * r.len)) [
            | inl b ↦ ap head_of (moved k blank a b) ∙ (plain (k + 3) (omega arith) (omega arith) ∙ sym (plain k (omega arith) (omega arith)))
            | inr b ↦ ap head_of (behind k blank b)
          ]
        ]

    pub removed_plain : (c : ℕ) → In r.start (3 * r.room) c → heads cells1 c ≡ blank
    removed_plain c p = removed_heads c ∙ plain c p.low p.high

    removed_out : (c : ℕ) (d : Cell) → (In r.start (3 * r.room) c → ⊥) → get_or cells1 c d ≡ get_or cells c d
    removed_out c d away =
        let full = full_dict cells h.kept n r e in
        elim (cases_lt c (r.start + 3 * i)) [
          | inl a ↦ before c d a
          | inr a ↦ elim (cases_lt (c + 3) (r.start + 3 * r.len)) [
            | inl b ↦ absurd (away (record { low = omega arith; high = omega arith }))
            | inr b ↦ behind c d b
          ]
        ]

    removed_pairs : region_pairs cells1 (record r { len = r.len - 1 }) ≡ remove (region_pairs cells r) i
    removed_pairs =
        let full = full_dict cells h.kept n r e in
        let ins = inside_dict cells h.kept n r e in
        let ps : List Cell = part cells r.start (3 * r.room) in
        let ps1 : List Cell = part cells1 r.start (3 * r.room) in
        let lq = length-pairs ps r.len in
        let at1 : (k : ℕ) → k < 3 * r.room → get_or ps1 k blank ≡ get_or cells1 (r.start + k) blank = λ k hk. get_or-part cells1 r.start (3 * r.room) k blank hk in
        let at0 : (k : ℕ) → k < 3 * r.room → get_or cells (r.start + k) blank ≡ get_or ps k blank = λ k hk. sym (get_or-part cells r.start (3 * r.room) k blank hk) in
        let low_same : (k : ℕ) → k < 3 * i → get_or ps1 k blank ≡ get_or ps k blank = λ k hk. at1 k (omega arith) ∙ (before (r.start + k) blank (omega arith) ∙ at0 k (omega arith)) in
        let high_same : (k j : ℕ) → j ≡ k + 3 → 3 * i ≤ k → j < 3 * r.len → get_or ps1 k blank ≡ get_or ps j blank =
        λ k j q lo hi. at1 k (omega arith) ∙ (moved (r.start + k) blank (omega arith) (omega arith) ∙ (ap (λ y. get_or cells y blank) (omega arith) ∙ at0 j (omega arith))) in
        pairs_are ps1 (r.len - 1) (remove (pairs_in ps r.len) i) (omega (arith, length-remove (pairs_in ps r.len) i (omega arith)))
        (λ k d b. elim (cases_lt k i) [
          | inl a ↦ ap₂ (λ (x y : Cell). (value_of x, value_of y)) (low_same (3 * k) (omega arith)) (low_same (3 * k + 1) (omega arith))
              ∙ (sym (get_or-pairs ps r.len k d (omega arith)) ∙ sym (get_or-remove_below (pairs_in ps r.len) i d k a (omega arith)))
          | inr a ↦ ap₂ (λ (x y : Cell). (value_of x, value_of y)) (high_same (3 * k) (3 * (k + 1)) (omega arith) (omega arith) (omega arith)) (high_same (3 * k + 1) (3 * (k + 1) + 1) (omega arith) (omega arith) (omega arith))
              ∙ (sym (get_or-pairs ps r.len (k + 1) d (omega arith)) ∙ sym (get_or-remove_above (pairs_in ps r.len) i d k a (omega arith)))
        ])

    pub dict_removed : (cells2 : List Cell) → Relinked r.start r.room cells1 cells2 → AreLinked (texts_in cells1 bytes) (part cells2 r.start (3 * r.room)) r.room (r.len - 1)
        → Holds keys (set cells2 n (DictHead (record r { len = r.len - 1 }))) bytes (set obs n (Some (DictObject (remove (region_pairs cells r) i) r.room)))
    dict_removed cells2 relinked linked =
        let full = full_dict cells h.kept n r e in
        let old : List (Value × Value) = region_pairs cells r in
        dict_written h n (r.len - 1) r cells2 (remove old i) low e (relinked.same_length ∙ l)
        (fun_ext (λ c. relinked.same_heads c ∙ removed_heads c)) (λ c d no. relinked.outside c d no ∙ removed_out c d no) (omega arith)
        (relinked_pairs cells1 cells2 (record r { len = r.len - 1 }) relinked (omega arith) ∙ removed_pairs)
        (λ below q.
        let was = linked_now h n r e below q in (
          subst (λ (texts : ℕ → List ℕ). AreLinked texts (part cells2 r.start (3 * r.room)) r.room (r.len - 1)) (texts_same cells cells1 bytes removed_heads) linked,
          All-append (IsBelow below) (take i old) (drop (suc i) old) (All-take (IsBelow below) i old was.1) (All-drop (IsBelow below) (suc i) old was.1),
        ))

raised_links : (cells : List Cell) (bytes : List ℕ) (key : Value) → text_end key ≤ length cells → (k : Option ℕ) → AreAllLinked k cells bytes → AreAllLinked (with_key k key) cells bytes
raised_links cells bytes key le None now = tt
raised_links cells bytes key le (Some below) now =
    let few = now.few in
    record { few = omega arith; each = λ n r is. let was = now.each n r is in (was.0, λ at d lt t q. omega (arith, was.1 at d lt t q)) }

-- a key is to be put in a dict
raised : {cells : List Cell} {bytes : List ℕ} {obs : List (Option ArenaObject)} {keys : Option ℕ} → Holds keys cells bytes obs → (key : Value) → text_end key ≤ length cells
    → Holds (with_key keys key) cells bytes obs
raised {cells} {bytes} {obs} {keys} h key le = record { kept = h.kept; linked = raised_links cells bytes key le keys h.linked; objects = h.objects }

key_fits : (keys : Option ℕ) (key : Value) (below : ℕ) → with_key keys key ≡ Some below → text_end key ≤ below
key_fits None key below q = absurd cc
key_fits (Some low) key below q = let e : max low (text_end key) ≡ below = cc in omega arith

-- a pair more, where there is room
module _ {cells : List Cell} {bytes : List ℕ} {obs : List (Option ArenaObject)} {keys : Option ℕ} (h : Holds keys cells bytes obs) (n : ℕ) (r : Region) (k v : Value) (x y : Cell) (low : n < length cells)
    (e : heads cells n ≡ DictHead r) (lt : r.len < r.room) (ex : x ≡ cell_of k) (ey : y ≡ cell_of v)
  where
    abbrev pub with_pair : List Cell
    with_pair = set (set cells (r.start + 3 * r.len) x) (r.start + 3 * r.len + 1) y

    abbrev ps : List Cell
    ps = part cells r.start (3 * r.room)

    pushed_part : part with_pair r.start (3 * r.room) ≡ set (set ps (3 * r.len) x) (3 * r.len + 1) y
    pushed_part =
        let place : r.start + 3 * r.len + 1 ≡ r.start + (3 * r.len + 1) = omega arith in
        ap (λ j. part (set (set cells (r.start + 3 * r.len) x) j y) r.start (3 * r.room)) place
        ∙ (part-set (set cells (r.start + 3 * r.len) x) r.start (3 * r.room) (3 * r.len + 1) y (omega arith)
        ∙ ap (λ (qs : List Cell). set qs (3 * r.len + 1) y) (part-set cells r.start (3 * r.room) (3 * r.len) x (omega arith)))

    pub pushed_heads : heads with_pair ≡ heads cells
    pushed_heads =
        let cells1 : List Cell = set cells (r.start + 3 * r.len) x in
        let plain : (c : ℕ) → In r.start (3 * r.room) c → heads cells c ≡ blank = λ c i. h.kept.plain n c (in_dict cells n r e c i) in
        let one : heads cells1 ≡ heads cells = heads_set_plain cells (r.start + 3 * r.len) x (ap head_of ex ∙ head_of-cell_of k) (plain _ (record { low = omega arith; high = omega arith })) in
        heads_set_plain cells1 (r.start + 3 * r.len + 1) y (ap head_of ey ∙ head_of-cell_of v)
        (ap (λ (f : ℕ → Cell). f (r.start + 3 * r.len + 1)) one ∙ plain _ (record { low = omega arith; high = omega arith })) ∙ one

    pub pushed_plain : (c : ℕ) → In r.start (3 * r.room) c → heads with_pair c ≡ blank
    pushed_plain c i = ap (λ (f : ℕ → Cell). f c) pushed_heads ∙ h.kept.plain n c (in_dict cells n r e c i)

    pub pushed_linked : (texts : ℕ → List ℕ) → AreLinked texts ps r.room r.len → AreLinked texts (part with_pair r.start (3 * r.room)) r.room r.len
    pushed_linked texts linked =
        subst (λ (qs : List Cell). AreLinked texts qs r.room r.len) (sym pushed_part)
        (linked_stored texts (set ps (3 * r.len) x) r.room r.len r.len y (linked_keyed texts ps r.room r.len x linked))

    pushed_length : length with_pair ≡ length cells
    pushed_length = length-set (set cells (r.start + 3 * r.len) x) (r.start + 3 * r.len + 1) y ∙ length-set cells (r.start + 3 * r.len) x

    pushed_out : (c : ℕ) (d : Cell) → (In r.start (3 * r.room) c → ⊥) → get_or with_pair c d ≡ get_or cells c d
    pushed_out c d away =
        get_or-set_other (set cells (r.start + 3 * r.len) x) (r.start + 3 * r.len + 1) c y d (λ q. away (record { low = omega arith; high = omega arith }))
        ∙ get_or-set_other cells (r.start + 3 * r.len) c x d (λ q. away (record { low = omega arith; high = omega arith }))

    pushed_cells : region_pairs with_pair (record r { len = r.len + 1 }) ≡ region_pairs cells r ++ (k, v) ∷ []
    pushed_cells =
        let c : ℕ = 3 * r.len in
        let lp : length ps ≡ 3 * r.room = length-part cells r.start (3 * r.room) (inside_dict cells h.kept n r e) in
        let ps1 : List Cell = set ps c x in
        let ps2 : List Cell = set ps1 (c + 1) y in
        let ls : length ps1 ≡ length ps = length-set ps c x in
        let old : pairs_in ps2 r.len ≡ pairs_in ps r.len = pairs_are ps2 r.len (pairs_in ps r.len) (length-pairs ps r.len)
        (λ i d hx. ap₂ (λ (a b : Cell). (value_of a, value_of b))
        (get_or-set_other ps1 (c + 1) (3 * i) y blank (omega arith) ∙ get_or-set_other ps c (3 * i) x blank (omega arith))
        (get_or-set_other ps1 (c + 1) (3 * i + 1) y blank (omega arith) ∙ get_or-set_other ps c (3 * i + 1) x blank (omega arith))
        ∙ sym (get_or-pairs ps r.len i d hx)) in
        let new : pair_in ps2 r.len ≡ (k, v) = ap₂ (λ (a b : Cell). (value_of a, value_of b))
        (get_or-set_other ps1 (c + 1) c y blank (omega arith) ∙ (get_or-set_same ps c x blank (omega arith) ∙ ex))
        (get_or-set_same ps1 (c + 1) y blank (omega arith) ∙ ey)
        ∙ ap₂ (λ (a b : Value). (a, b)) (value_of-cell_of k) (value_of-cell_of v) in
        ap (λ (qs : List Cell). pairs_in qs (r.len + 1)) pushed_part
        ∙ (map-range_with_len_more (pair_in ps2) 0 r.len r.len (omega arith)
        ∙ ap₂ (λ (xs : List (Value × Value)) (p : Value × Value). xs ++ p ∷ []) old new)

    pub dict_pushed : (cells2 : List Cell) → text_end k ≤ length cells → Relinked r.start r.room with_pair cells2
        → (AreLinked (texts_in with_pair bytes) (part with_pair r.start (3 * r.room)) r.room r.len → AreLinked (texts_in with_pair bytes) (part cells2 r.start (3 * r.room)) r.room (r.len + 1))
        → Holds (with_key keys k) (set cells2 n (DictHead (record r { len = r.len + 1 }))) bytes (set obs n (Some (DictObject (region_pairs cells r ++ (k, v) ∷ []) r.room)))
    dict_pushed cells2 fits relinked linking =
        let h2 : Holds (with_key keys k) cells bytes obs = raised h k fits in
        let same : texts_in with_pair bytes ≡ texts_in cells bytes = texts_same cells with_pair bytes (λ m. ap (λ (f : ℕ → Cell). f m) pushed_heads) in
        dict_written h2 n (r.len + 1) r cells2 (region_pairs cells r ++ (k, v) ∷ []) low e (relinked.same_length ∙ pushed_length)
        (fun_ext (λ c. relinked.same_heads c) ∙ pushed_heads) (λ c d no. relinked.outside c d no ∙ pushed_out c d no) (omega arith)
        (relinked_pairs with_pair cells2 (record r { len = r.len + 1 }) relinked (omega arith) ∙ pushed_cells)
        (λ below q.
        let was = linked_now h2 n r e below q in
        let fit = key_fits keys k below q in (
          subst (λ (texts : ℕ → List ℕ). AreLinked texts (part cells2 r.start (3 * r.room)) r.room (r.len + 1)) same
              (linking (subst (λ (texts : ℕ → List ℕ). AreLinked texts (part with_pair r.start (3 * r.room)) r.room r.len) (sym same) (pushed_linked (texts_in cells bytes) was.0))),
          All-push (IsBelow below) (region_pairs cells r) (k, v) was.1 (λ t is. let end = ap text_end is in omega arith),
        ))

-- a dict moves behind all cells, and has its pairs there
module _ {cells : List Cell} {bytes : List ℕ} {obs : List (Option ArenaObject)} {keys : Option ℕ} (h : Holds keys cells bytes obs) (n start rest room : ℕ) (r : Region) (cells1 : List Cell) (low : n < length cells)
    (e : heads cells n ≡ DictHead r) (is_room : IsRoom room) (sum : 3 * r.len + rest ≡ 3 * room) (es : start ≡ length cells)
    (ec : cells1 ≡ cells ++ (part cells r.start (3 * r.len) ++ replicate rest blank))
  where
    abbrev moved_from : List Cell
    moved_from = part cells r.start (3 * r.len)

    moved_length : length cells1 ≡ length cells + 3 * room
    moved_length =
        let full = full_dict cells h.kept n r e in
        let ins = inside_dict cells h.kept n r e in
        let lp : length moved_from ≡ 3 * r.len = length-part cells r.start (3 * r.len) (omega arith) in
        let lq : length (moved_from ++ replicate rest blank) ≡ 3 * room = length-append moved_from (replicate rest blank) ∙ omega (arith, lp, length-replicate rest blank) in
        ap length ec ∙ (length-append cells (moved_from ++ replicate rest blank) ∙ ap (λ j. length cells + j) lq)

    pub moved_inside : start + 3 * room ≤ length cells1
    moved_inside = omega (arith, moved_length)

    moved_at : (j : ℕ) → get_or cells1 (start + j) blank ≡ get_or (moved_from ++ replicate rest blank) j blank
    moved_at j =
        let qs : List Cell = moved_from ++ replicate rest blank in
        let back : start + j - length cells ≡ j = omega arith in
        ap (λ (xs : List Cell). get_or xs (start + j) blank) ec
        ∙ (get_or-append_right cells qs (length cells) (start + j) blank refl (omega arith) ∙ ap (λ i. get_or qs i blank) back)

    moved_below : (j : ℕ) → j < 3 * r.len → get_or cells1 (start + j) blank ≡ get_or cells (r.start + j) blank
    moved_below j lt =
        let full = full_dict cells h.kept n r e in
        let ins = inside_dict cells h.kept n r e in
        let lp : length moved_from ≡ 3 * r.len = length-part cells r.start (3 * r.len) (omega arith) in
        moved_at j ∙ (get_or_append_left moved_from (replicate rest blank) blank j (omega arith) ∙ get_or-part cells r.start (3 * r.len) j blank lt)

    pub moved_plain : (c : ℕ) → In start (3 * room) c → heads cells1 c ≡ blank
    moved_plain c i =
        let full = full_dict cells h.kept n r e in
        let ins = inside_dict cells h.kept n r e in
        let lp : length moved_from ≡ 3 * r.len = length-part cells r.start (3 * r.len) (omega arith) in
        let back : start + (c - start) ≡ c = omega (arith, i.low) in
        ap (heads cells1) (sym back)
        ∙ elim (cases_lt (c - start) (3 * r.len)) [
          | inl lt ↦ ap head_of (moved_below (c - start) lt) ∙ h.kept.plain n (r.start + (c - start)) (in_dict cells n r e (r.start + (c - start)) (record { low = omega arith; high = omega arith }))
          | inr ge ↦ ap head_of (moved_at (c - start) ∙ get_or-append_right moved_from (replicate rest blank) (3 * r.len) (c - start) blank lp ge) ∙ blanks rest (c - start - 3 * r.len)
        ]

    pub moved_heads : (m : ℕ) → heads cells1 m ≡ heads cells m
    moved_heads m = elim (cases_lt m (length cells)) [
      | inl lt ↦ ap head_of (ap (λ (xs : List Cell). get_or xs m blank) ec ∙ get_or_append_left cells (moved_from ++ replicate rest blank) blank m lt)
      | inr ge ↦ elim (cases_lt m (start + 3 * room)) [
        | inl lt ↦ moved_plain m (record { low = omega arith; high = lt }) ∙ sym (heads_past cells m ge)
        | inr past ↦ heads_past cells1 m (omega (arith, moved_length)) ∙ sym (heads_past cells m ge)
      ]
    ]

    moved_pairs : (i : ℕ) → i < r.len → pair_in (part cells1 start (3 * room)) i ≡ pair_in (part cells r.start (3 * r.room)) i
    moved_pairs i lt =
        let full = full_dict cells h.kept n r e in
        let one : (j : ℕ) → j < 3 * r.len → get_or (part cells1 start (3 * room)) j blank ≡ get_or (part cells r.start (3 * r.room)) j blank =
        λ j hj. get_or-part cells1 start (3 * room) j blank (omega arith) ∙ (moved_below j hj ∙ sym (get_or-part cells r.start (3 * r.room) j blank (omega arith))) in
        ap₂ (λ (a b : Cell). (value_of a, value_of b)) (one (3 * i) (omega arith)) (one (3 * i + 1) (omega arith))

    pub dict_moved : (cells2 : List Cell) → Relinked start room cells1 cells2 → AreLinked (texts_in cells1 bytes) (part cells2 start (3 * room)) room r.len
        → Holds keys (set cells2 n (DictHead (record { start = start; len = r.len; room = room }))) bytes (set (obs ++ replicate (3 * room) None) n (Some (DictObject (region_pairs cells r) room)))
    dict_moved cells2 relinked linked =
        let full = full_dict cells h.kept n r e in
        let head : Cell = DictHead (record { start = start; len = r.len; room = room }) in
        let whole : List Cell = part cells r.start (3 * r.room) in
        let l2 : length cells2 ≡ length cells + 3 * room = relinked.same_length ∙ moved_length in
        let qs : List Cell = drop (length cells) cells2 in
        let lq : length qs ≡ 3 * room = length-drop (length cells) cells2 ∙ omega arith in
        let front : take (length cells) cells2 ≡ cells =
        same_lists _ _ (length-take-le (length cells) cells2 (omega arith))
        (λ j d hj.
        let jl : j < length cells = omega (arith, length-take-le (length cells) cells2 (omega arith)) in
        get_or-take (length cells) cells2 j d jl
        ∙ (relinked.outside j d (λ i. omega (arith, i.low))
        ∙ (ap (λ (xs : List Cell). get_or xs j d) ec ∙ get_or_append_left cells (moved_from ++ replicate rest blank) d j jl))) in
        let split : cells ++ qs ≡ cells2 = ap (λ (xs : List Cell). xs ++ qs) (sym front) ∙ take-append-drop (length cells) cells2 in
        let plain : (k : ℕ) → heads qs k ≡ blank = λ k. elim (cases_lt k (3 * room)) [
          | inl lt ↦ ap head_of (get_or-drop (length cells) cells2 k blank)
              ∙ (ap (λ j. heads cells2 (j + k)) (sym es)
              ∙ (relinked.same_heads (start + k) ∙ moved_plain (start + k) (record { low = omega arith; high = omega arith })))
          | inr ge ↦ heads_past qs k (omega arith)
        ] in
        let pairs : region_pairs cells2 (record { start = start; len = r.len; room = room }) ≡ region_pairs cells r =
        pairs_are (part cells2 start (3 * room)) r.len (pairs_in whole r.len) (length-pairs whole r.len)
        (λ i d lt. relinked.pairs i (omega arith) ∙ (moved_pairs i lt ∙ sym (get_or-pairs whole r.len i d lt))) in
        let moved = holds_moved h n head qs low
        (λ q. let q2 : DictHead r ≡ blank = sym e ∙ q in cc) plain refl (omega arith, is_room) refl es (sym lq)
        (λ below k r2 q.
        let was = linked_now h n r e below k in
        subst (λ (x : Region). AreLinked (texts_in cells bytes) (part (cells ++ qs) x.start (3 * x.room)) x.room x.len × All (IsBelow below) (pairs_in (part (cells ++ qs) x.start (3 * x.room)) x.len)) (ap (region_in r) q)
        (subst (λ (xs : List Cell). AreLinked (texts_in cells bytes) (part xs start (3 * room)) room r.len × All (IsBelow below) (pairs_in (part xs start (3 * room)) r.len)) (sym split) (
          subst (λ (texts : ℕ → List ℕ). AreLinked texts (part cells2 start (3 * room)) room r.len) (texts_same cells cells1 bytes moved_heads) linked,
          subst (All (IsBelow below)) (sym pairs) was.1,
        )))
        (sym (ap (λ (x : Cell). part bytes (byte_first n x) (byte_size x)) e)) in
        subst (λ xs. Holds keys (set cells2 n head) bytes (set (obs ++ replicate (3 * room) None) n (Some (DictObject xs room)))) pairs
        (subst (λ (xs : List Cell). Holds keys (set xs n head) bytes (set (obs ++ replicate (3 * room) None) n (Some (DictObject (region_pairs xs (record { start = start; len = r.len; room = room })) room)))) split
        (subst (λ (m : ℕ). Holds keys (set (cells ++ qs) n head) bytes (set (obs ++ replicate m None) n (Some (DictObject (region_pairs (cells ++ qs) (record { start = start; len = r.len; room = room })) room)))) lq moved))
