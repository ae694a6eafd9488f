-- The three changes that every call is made of: cells are taken, a head is written, a region is written.
use Rattle.std.proofs.Common.{ℕ, ◌+◌, ◌-◌, ◌*◌, ◌≤◌, ◌<◌, ◌≡◌, ◌≢◌, List, [], ◌++◌, length, Option, Some, None, nat_le, get_or, set, replicate, refl, sym, ◌∙◌, ap, subst, inl, inr, arith, length-append, length-set, get_or-set_same, get_or-set_other}
use Rattle.std.proofs.Math.Path.{fun_ext, ap₂}
use Rattle.std.proofs.lemmas.List.{ext_get_or, get_or_past, get_or_append_left, get_or-append_right, length-replicate, set_past}
use Rattle.std.proofs.lemmas.List.FromFn.{length-map-range_with_len, get_or-map-range_with_len}
use Rattle.std.proofs.lemmas.Bool.{cases_eq, cases_lt, cond-true, cond-false, le-leb, lt-leb}
use Rattle.arena_heap.specs.declared.value.Value.{Value}
use Rattle.arena_heap.specs.declared.cells.Cell.{Cell}
use Rattle.qstr_pool.specs.mpy_base.World.{object}
use Rattle.arena_heap.specs.Values.{ArenaObject}
use Rattle.arena_heap.specs.declared.cells.Cell.TheVariants.{DictHead}
use Rattle.arena_heap.specs.Cells.{blank, cell_of, head_of, heads, first, size, byte_first, byte_size, Full, part, decode, read, object_at, objects_of, In, Apart, Kept, AreLinked, IsBelow, pairs_in, Links, texts_in, Linked, AreAllLinked, Holds}
use Rattle.qstr_pool.proofs.mpy_base_lemmas.Worlds.{object_nones}
use Rattle.arena_heap.specs.Links.{without_text}
use Rattle.arena_heap.proofs.CellValues.{head_of-cell_of}
use Rattle.std.specs.List.{All}
use Rattle.arena_heap.proofs.KeyTexts.{texts_same, links_texts}
use Rattle.arena_heap.proofs.Regions.{part_same, apart_set, apart_more, in_same}

pub heads_past : (cells : List Cell) (n : ℕ) → length cells ≤ n → heads cells n ≡ blank
heads_past cells n h = ap head_of (get_or_past cells n blank h)

pub object_past : (cells : List Cell) (bytes : List ℕ) (n : ℕ) → length cells ≤ n → object_at cells bytes n ≡ None
object_past cells bytes n h = ap (λ c. read n c cells bytes) (heads_past cells n h)

pub length-objects : (cells : List Cell) (bytes : List ℕ) → length (objects_of cells bytes) ≡ length cells
length-objects cells bytes = length-map-range_with_len (object_at cells bytes) 0 (length cells)

-- the object of a number is what stands at its cell
pub object_is : (cells : List Cell) (bytes : List ℕ) (n : ℕ) → object (objects_of cells bytes) n ≡ object_at cells bytes n
object_is cells bytes n =
    elim (cases_lt n (length cells)) [
      | inl h ↦ get_or-map-range_with_len (object_at cells bytes) 0 (length cells) n n None h (omega arith)
      | inr h ↦ get_or_past (objects_of cells bytes) n None (omega (arith, length-objects cells bytes)) ∙ sym (object_past cells bytes n h)
    ]

-- the same as Holds, of dicts whose links may lead anywhere
pub record Bare (cells : List Cell) (bytes : List ℕ) (obs : List (Option ArenaObject)) : Type 0 where
  pub kept : Kept (heads cells) (length cells) (length bytes)
  pub objects : objects_of cells bytes ≡ obs

pub bare : {cells : List Cell} {bytes : List ℕ} {obs : List (Option ArenaObject)} {keys : Option ℕ} → Holds keys cells bytes obs → Bare cells bytes obs
bare h = record { kept = h.kept; objects = h.objects }

pub object_bare : {cells : List Cell} {bytes : List ℕ} {obs : List (Option ArenaObject)} → Bare cells bytes obs → (n : ℕ) → object obs n ≡ object_at cells bytes n
object_bare {cells} {bytes} {obs} h n = ap (λ os. object os n) (sym h.objects) ∙ object_is cells bytes n

pub length_bare : {cells : List Cell} {bytes : List ℕ} {obs : List (Option ArenaObject)} → Bare cells bytes obs → length obs ≡ length cells
length_bare {cells} {bytes} h = ap length (sym h.objects) ∙ length-objects cells bytes

-- the objects are these where each is
pub objects_are : (cells : List Cell) (bytes : List ℕ) (obs : List (Option ArenaObject)) → length obs ≡ length cells
    → ((n : ℕ) → n < length cells → object_at cells bytes n ≡ object obs n) → objects_of cells bytes ≡ obs
objects_are cells bytes obs e each =
    let l = length-objects cells bytes in
    ext_get_or None (objects_of cells bytes) obs (l ∙ sym e) (λ n h. object_is cells bytes n ∙ each n (omega arith))

-- an object whose head and regions nobody wrote
pub object_same : (cells cells' : List Cell) (bytes bytes' : List ℕ) (n : ℕ) → Kept (heads cells) (length cells) (length bytes)
    → length cells ≤ length cells' → length bytes ≤ length bytes' → heads cells' n ≡ heads cells n
    → ((c : ℕ) (d : Cell) → In (first n (heads cells n)) (size (heads cells n)) c → get_or cells' c d ≡ get_or cells c d)
    → ((c : ℕ) (d : ℕ) → In (byte_first n (heads cells n)) (byte_size (heads cells n)) c → get_or bytes' c d ≡ get_or bytes c d)
    → object_at cells' bytes' n ≡ object_at cells bytes n
object_same cells cells' bytes bytes' n k lc lb e sc sb =
    let h = heads cells n in
    ap (λ (x : Cell). read n x cells' bytes') e
    ∙ (ap (λ (ps : List Cell). decode h ps (part bytes' (byte_first n h) (byte_size h)))
    (part_same cells cells' (first n h) (size h) (k.cells_apart.inside n) (omega (arith, k.cells_apart.inside n)) sc)
    ∙ ap (λ (bs : List ℕ). decode h (part cells (first n h) (size h)) bs)
    (part_same bytes bytes' (byte_first n h) (byte_size h) (k.bytes_apart.inside n) (omega (arith, k.bytes_apart.inside n)) sb))

pub heads_used : (cells ps : List Cell) → ((k : ℕ) → heads ps k ≡ blank) → heads (cells ++ ps) ≡ heads cells
heads_used cells ps plain = fun_ext (λ n. elim (cases_lt n (length cells)) [
  | inl h ↦ ap head_of (get_or_append_left cells ps blank n h)
  | inr h ↦ ap head_of (get_or-append_right cells ps (length cells) n blank refl h) ∙ (plain (n - length cells) ∙ sym (heads_past cells n h))
])

pub kept_more : {h : ℕ → Cell} {m n m' n' : ℕ} → Kept h m n → m ≤ m' → n ≤ n' → Kept h m' n'
kept_more k a b = record { cells_apart = apart_more _ _ _ _ k.cells_apart a; bytes_apart = apart_more _ _ _ _ k.bytes_apart b; plain = k.plain; full = k.full }

-- 1. Cells are taken. They hold values, and belong to nobody yet
pub bare_used : {cells : List Cell} {bytes : List ℕ} {obs : List (Option ArenaObject)} → Bare cells bytes obs → (ps : List Cell)
    → ((k : ℕ) → heads ps k ≡ blank) → Bare (cells ++ ps) bytes (obs ++ replicate (length ps) None)
bare_used {cells} {bytes} {obs} h ps plain =
    let l : length (cells ++ ps) ≡ length cells + length ps = length-append cells ps in
    let same : heads (cells ++ ps) ≡ heads cells = heads_used cells ps plain in
    let k : Kept (heads cells) (length (cells ++ ps)) (length bytes) = kept_more h.kept (omega arith) (omega arith) in
    record {
      kept = subst (λ (x : ℕ → Cell). Kept x (length (cells ++ ps)) (length bytes)) (sym same) k;
      objects = objects_are (cells ++ ps) bytes (obs ++ replicate (length ps) None)
          (length-append obs (replicate (length ps) None) ∙ ap₂ (λ (a b : ℕ). a + b) (length_bare h) (length-replicate (length ps) None) ∙ sym l)
          (λ n _. elim (cases_lt n (length cells)) [
            | inl low ↦ object_same cells (cells ++ ps) bytes bytes n h.kept (omega arith) (omega arith) (ap (λ (x : ℕ → Cell). x n) same)
                (λ c d i. get_or_append_left cells ps d c (omega (arith, h.kept.cells_apart.inside n, i.high))) (λ c d i. refl)
                ∙ (sym (object_bare h n) ∙ sym (get_or_append_left obs (replicate (length ps) None) None n (omega (arith, length_bare h))))
            | inr high ↦ ap (λ (x : Cell). read n x (cells ++ ps) bytes) (ap (λ (x : ℕ → Cell). x n) same ∙ heads_past cells n high)
                ∙ sym (get_or-append_right obs (replicate (length ps) None) (length cells) n None (length_bare h) high ∙ object_nones (length ps) (n - length cells))
          ]);
    }

-- 2. A head is written, at a cell that is in nobody's region; its region is free or its own
pub record Placed (h : ℕ → Cell) (cells bytes n : ℕ) (c : Cell) : Type 0 where
  pub head : head_of c ≡ c
  pub inside : first n c + size c ≤ cells
  pub byte_inside : byte_first n c + byte_size c ≤ bytes
  pub free : (m x : ℕ) → In (first n c) (size c) x → In (first m (h m)) (size (h m)) x → m ≡ n
  pub byte_free : (m x : ℕ) → In (byte_first n c) (byte_size c) x → In (byte_first m (h m)) (byte_size (h m)) x → m ≡ n
  pub mine : (m : ℕ) → In (first m (h m)) (size (h m)) n → ⊥
  pub outside : In (first n c) (size c) n → ⊥
  pub plain : (x : ℕ) → In (first n c) (size c) x → h x ≡ blank
  pub full : Full c

pub kept_head : {h h' : ℕ → Cell} {cells bytes n : ℕ} {c : Cell} → Kept h cells bytes → Placed h cells bytes n c → h' n ≡ c → ((k : ℕ) → k ≢ n → h' k ≡ h k) → Kept h' cells bytes
kept_head {h} {h'} {cells} {bytes} {n} {c} k p here there =
    record {
      cells_apart = apart_set (λ m. first m (h m)) (λ m. size (h m)) (λ m. first m (h' m)) (λ m. size (h' m)) cells n (first n c) (size c) k.cells_apart
          (ap (λ (x : Cell). first n x) here) (ap size here) (λ m ne. (ap (λ (x : Cell). first m x) (there m ne), ap size (there m ne))) p.inside p.free;
      bytes_apart = apart_set (λ m. byte_first m (h m)) (λ m. byte_size (h m)) (λ m. byte_first m (h' m)) (λ m. byte_size (h' m)) bytes n (byte_first n c) (byte_size c) k.bytes_apart
          (ap (λ (x : Cell). byte_first n x) here) (ap byte_size here) (λ m ne. (ap (λ (x : Cell). byte_first m x) (there m ne), ap byte_size (there m ne))) p.byte_inside p.byte_free;
      plain = λ m x i. elim (cases_eq m n) [
        | inl e ↦
            let j : In (first n c) (size c) x = in_same (subst (λ (y : ℕ). first y (h' y) ≡ first n c) (sym e) (ap (λ (x : Cell). first n x) here)) (subst (λ (y : ℕ). size (h' y) ≡ size c) (sym e) (ap size here)) i in
            there x (λ q. p.outside (subst (λ (y : ℕ). In (first n c) (size c) y) q j)) ∙ p.plain x j
        | inr ne ↦
            let j : In (first m (h m)) (size (h m)) x = in_same (ap (λ (x : Cell). first m x) (there m ne)) (ap size (there m ne)) i in
            there x (λ q. p.mine m (subst (λ (y : ℕ). In (first m (h m)) (size (h m)) y) q j)) ∙ k.plain m x j
      ];
      full = λ m. elim (cases_eq m n) [
        | inl e ↦ subst (λ (y : ℕ). Full (h' y)) (sym e) (subst Full (sym here) p.full)
        | inr ne ↦ subst Full (sym (there m ne)) (k.full m)
      ];
    }

pub heads_set_same : (cells : List Cell) (n : ℕ) (c : Cell) → n < length cells → head_of c ≡ c → heads (set cells n c) n ≡ c
heads_set_same cells n c h e = ap head_of (get_or-set_same cells n c blank h) ∙ e

pub heads_set_other : (cells : List Cell) (n k : ℕ) (c : Cell) → k ≢ n → heads (set cells n c) k ≡ heads cells k
heads_set_other cells n k c ne = ap head_of (get_or-set_other cells n k c blank ne)

pub bare_head : {cells : List Cell} {bytes : List ℕ} {obs : List (Option ArenaObject)} → Bare cells bytes obs → (n : ℕ) (c : Cell) → n < length cells
    → Placed (heads cells) (length cells) (length bytes) n c → Bare (set cells n c) bytes (set obs n (read n c cells bytes))
bare_head {cells} {bytes} {obs} h n c low p =
    let l : length (set cells n c) ≡ length cells = length-set cells n c in
    let here : heads (set cells n c) n ≡ c = heads_set_same cells n c low p.head in
    let k : Kept (heads (set cells n c)) (length cells) (length bytes) = kept_head h.kept p here (λ k ne. heads_set_other cells n k c ne) in
    record {
      kept = kept_more k (omega arith) (omega arith);
      objects = objects_are (set cells n c) bytes (set obs n (read n c cells bytes)) (length-set obs n (read n c cells bytes) ∙ (length_bare h ∙ sym l))
          (λ m _. elim (cases_eq m n) [
            | inl e ↦ subst (λ (y : ℕ). object_at (set cells n c) bytes y ≡ object (set obs n (read n c cells bytes)) y) (sym e)
                (ap (λ (x : Cell). read n x (set cells n c) bytes) here
                ∙ (ap (λ (ps : List Cell). decode c ps (part bytes (byte_first n c) (byte_size c)))
                (part_same cells (set cells n c) (first n c) (size c) p.inside (omega (arith, p.inside, l))
                (λ x d i. get_or-set_other cells n x c d (λ q. p.outside (subst (λ (y : ℕ). In (first n c) (size c) y) q i))))
                ∙ sym (get_or-set_same obs n (read n c cells bytes) None (omega (arith, length_bare h)))))
            | inr ne ↦ object_same cells (set cells n c) bytes bytes m h.kept (omega arith) (omega arith) (heads_set_other cells n m c ne)
                (λ x d i. get_or-set_other cells n x c d (λ q. p.mine m (subst (λ (y : ℕ). In (first m (heads cells m)) (size (heads cells m)) y) q i))) (λ x d i. refl)
                ∙ (sym (object_bare h m) ∙ sym (get_or-set_other obs n m (read n c cells bytes) None ne))
          ]);
    }

-- 3. A region of cells is written, with values
pub bare_written : {cells : List Cell} {bytes : List ℕ} {obs : List (Option ArenaObject)} → Bare cells bytes obs → (n : ℕ) (cells' : List Cell) → n < length cells → length cells' ≡ length cells
    → heads cells' ≡ heads cells → ((c : ℕ) (d : Cell) → (In (first n (heads cells n)) (size (heads cells n)) c → ⊥) → get_or cells' c d ≡ get_or cells c d)
    → Bare cells' bytes (set obs n (read n (heads cells n) cells' bytes))
bare_written {cells} {bytes} {obs} h n cells' low l same out =
    let o : Option ArenaObject = read n (heads cells n) cells' bytes in
    record {
      kept = subst (λ (x : ℕ → Cell). Kept x (length cells') (length bytes)) (sym same) (kept_more h.kept (omega arith) (omega arith));
      objects = objects_are cells' bytes (set obs n o) (length-set obs n o ∙ (length_bare h ∙ sym l))
          (λ m _. elim (cases_eq m n) [
            | inl e ↦ subst (λ (y : ℕ). object_at cells' bytes y ≡ object (set obs n o) y) (sym e)
                (ap (λ (x : ℕ → Cell). read n (x n) cells' bytes) same ∙ sym (get_or-set_same obs n o None (omega (arith, length_bare h))))
            | inr ne ↦ object_same cells cells' bytes bytes m h.kept (omega arith) (omega arith) (ap (λ (x : ℕ → Cell). x m) same)
                (λ x d i. out x d (λ j. ne (h.kept.cells_apart.apart m n x i j))) (λ x d i. refl)
                ∙ (sym (object_bare h m) ∙ sym (get_or-set_other obs n m o None ne))
          ]);
    }

pub heads_set_plain : (cells : List Cell) (c : ℕ) (x : Cell) → head_of x ≡ blank → heads cells c ≡ blank → heads (set cells c x) ≡ heads cells
heads_set_plain cells c x plain e = fun_ext (λ k. elim (cases_eq k c) [
  | inl q ↦ subst (λ (y : ℕ). heads (set cells c x) y ≡ heads cells y) (sym q)
      (elim (cases_lt c (length cells)) [
        | inl low ↦ ap head_of (get_or-set_same cells c x blank low) ∙ (plain ∙ sym e)
        | inr high ↦ ap (λ (y : List Cell). heads y c) (set_past cells c x high)
      ])
  | inr ne ↦ heads_set_other cells c k x ne
])

-- 4. Bytes are taken; a byte of a region is written
pub bare_more_bytes : {cells : List Cell} {bytes : List ℕ} {obs : List (Option ArenaObject)} → Bare cells bytes obs → (bs : List ℕ) → Bare cells (bytes ++ bs) obs
bare_more_bytes {cells} {bytes} {obs} h bs =
    let l : length (bytes ++ bs) ≡ length bytes + length bs = length-append bytes bs in
    record {
      kept = kept_more h.kept (omega arith) (omega arith);
      objects = objects_are cells (bytes ++ bs) obs (length_bare h)
          (λ n _. object_same cells cells bytes (bytes ++ bs) n h.kept (omega arith) (omega arith) refl (λ c d i. refl)
          (λ c d i. get_or_append_left bytes bs d c (omega (arith, h.kept.bytes_apart.inside n, i.high))) ∙ sym (object_bare h n));
    }

pub bare_byte : {cells : List Cell} {bytes : List ℕ} {obs : List (Option ArenaObject)} → Bare cells bytes obs → (n c b : ℕ) → n < length cells
    → In (byte_first n (heads cells n)) (byte_size (heads cells n)) c → Bare cells (set bytes c b) (set obs n (read n (heads cells n) cells (set bytes c b)))
bare_byte {cells} {bytes} {obs} h n c b low i =
    let l : length (set bytes c b) ≡ length bytes = length-set bytes c b in
    let o : Option ArenaObject = read n (heads cells n) cells (set bytes c b) in
    record {
      kept = kept_more h.kept (omega arith) (omega arith);
      objects = objects_are cells (set bytes c b) (set obs n o) (length-set obs n o ∙ length_bare h)
          (λ m _. elim (cases_eq m n) [
            | inl e ↦ subst (λ (y : ℕ). object_at cells (set bytes c b) y ≡ object (set obs n o) y) (sym e) (sym (get_or-set_same obs n o None (omega (arith, length_bare h))))
            | inr ne ↦ object_same cells cells bytes (set bytes c b) m h.kept (omega arith) (omega arith) refl (λ x d j. refl)
                (λ x d j. get_or-set_other bytes c x b d (λ q. ne (h.kept.bytes_apart.apart m n c (subst (λ (y : ℕ). In (byte_first m (heads cells m)) (byte_size (heads cells m)) y) q j) i)))
                ∙ (sym (object_bare h m) ∙ sym (get_or-set_other obs n m o None ne))
          ]);
    }

pub length_held : {cells : List Cell} {bytes : List ℕ} {obs : List (Option ArenaObject)} {keys : Option ℕ} → Holds keys cells bytes obs → length obs ≡ length cells
length_held h = length_bare (bare h)

-- what holds of the cells of a region that reads the same
pub region_same : (P : List Cell → Type 0) (cells cells' : List Cell) (start room : ℕ) → start + 3 * room ≤ length cells → length cells ≤ length cells'
    → ((c : ℕ) (d : Cell) → In start (3 * room) c → get_or cells' c d ≡ get_or cells c d)
    → P (part cells start (3 * room)) → P (part cells' start (3 * room))
region_same P cells cells' start room inside longer same p = subst P (sym (part_same cells cells' start (3 * room) inside (omega arith) same)) p

-- an object whose head and region nobody wrote
pub links_kept : (texts : ℕ → List ℕ) (below : ℕ) (cells cells' : List Cell) {limit bytes : ℕ} (n : ℕ) → Kept (heads cells) limit bytes → limit ≡ length cells → length cells ≤ length cells' → heads cells' n ≡ heads cells n
    → ((c : ℕ) (d : Cell) → In (first n (heads cells n)) (size (heads cells n)) c → get_or cells' c d ≡ get_or cells c d)
    → Links texts below (heads cells n) cells → Links texts below (heads cells' n) cells'
links_kept texts below cells cells' {limit} n k el longer e same linked r is =
    let head : heads cells n ≡ DictHead r = sym e ∙ is in
    region_same (λ (ps : List Cell). AreLinked texts ps r.room r.len × All (IsBelow below) (pairs_in ps r.len)) cells cells' r.start r.room (omega (arith, subst (λ (h : Cell). first n h + size h ≤ limit) head (k.cells_apart.inside n))) longer
    (λ c d i. same c d (subst (λ (h : Cell). In (first n h) (size h) c) (sym head) i)) (linked r head)

-- all dicts are linked, unless none has to be
pub all_linked : (keys : Option ℕ) (cells cells' : List Cell) (bytes bytes' : List ℕ) → ((below : ℕ) → keys ≡ Some below → Linked below cells bytes → Linked below cells' bytes') → AreAllLinked keys cells bytes → AreAllLinked keys cells' bytes'
all_linked None cells cells' bytes bytes' f l = tt
all_linked (Some below) cells cells' bytes bytes' f l = f below refl l

-- the same four changes, where dicts are linked
pub holds_used : {cells : List Cell} {bytes : List ℕ} {obs : List (Option ArenaObject)} {keys : Option ℕ} → Holds keys cells bytes obs → (ps : List Cell)
    → ((k : ℕ) → heads ps k ≡ blank) → Holds keys (cells ++ ps) bytes (obs ++ replicate (length ps) None)
holds_used {cells} {bytes} {obs} {keys} h ps plain =
    let l : length (cells ++ ps) ≡ length cells + length ps = length-append cells ps in
    let same : heads (cells ++ ps) ≡ heads cells = heads_used cells ps plain in
    let texts : texts_in (cells ++ ps) bytes ≡ texts_in cells bytes = texts_same cells (cells ++ ps) bytes (λ n. ap (λ (x : ℕ → Cell). x n) same) in
    let b = bare_used (bare h) ps plain in
    record {
      kept = b.kept;
      linked = all_linked keys cells (cells ++ ps) bytes bytes (λ below q now. record {
        few = omega (arith, now.few);
        each = λ n. subst (λ (t : ℕ → List ℕ). Links t below (heads (cells ++ ps) n) (cells ++ ps)) (sym texts)
            (links_kept (texts_in cells bytes) below cells (cells ++ ps) n h.kept refl (omega arith) (ap (λ (x : ℕ → Cell). x n) same)
            (λ c d i. get_or_append_left cells ps d c (omega (arith, h.kept.cells_apart.inside n, i.high))) (now.each n));
      }) h.linked;
      objects = b.objects;
    }

-- what a new head is to keep: its links, and the bytes of a text that may be a key
pub record Fitting (keys : Option ℕ) (n : ℕ) (c : Cell) (cells : List Cell) (bytes : List ℕ) : Type 0 where
  pub links : (below : ℕ) → keys ≡ Some below → Links (texts_in cells bytes) below c cells
  pub text : (below : ℕ) → keys ≡ Some below → n < below → part bytes (byte_first n c) (byte_size c) ≡ texts_in cells bytes n

pub holds_head : {cells : List Cell} {bytes : List ℕ} {obs : List (Option ArenaObject)} {keys : Option ℕ} → Holds keys cells bytes obs → (n : ℕ) (c : Cell) → n < length cells
    → Placed (heads cells) (length cells) (length bytes) n c → Fitting keys n c cells bytes → Holds keys (set cells n c) bytes (set obs n (read n c cells bytes))
holds_head {cells} {bytes} {obs} {keys} h n c low p fitting =
    let l : length (set cells n c) ≡ length cells = length-set cells n c in
    let here : heads (set cells n c) n ≡ c = heads_set_same cells n c low p.head in
    let b = bare_head (bare h) n c low p in
    record {
      kept = b.kept;
      linked = all_linked keys cells (set cells n c) bytes bytes (λ below q now. record {
        few = omega (arith, now.few);
        each = λ m. links_texts (texts_in cells bytes) (texts_in (set cells n c) bytes) below (heads (set cells n c) m) (set cells n c)
            (λ t lt. elim (cases_eq t n) [
              | inl e ↦ subst (λ (y : ℕ). texts_in (set cells n c) bytes y ≡ texts_in cells bytes y) (sym e)
                  (ap (λ (x : Cell). part bytes (byte_first n x) (byte_size x)) here ∙ fitting.text below q (subst (λ (y : ℕ). y < below) e lt))
              | inr ne ↦ ap (λ (x : Cell). part bytes (byte_first t x) (byte_size x)) (heads_set_other cells n t c ne)
            ])
            (elim (cases_eq m n) [
              | inl e ↦ subst (λ (y : ℕ). Links (texts_in cells bytes) below (heads (set cells n c) y) (set cells n c)) (sym e) (λ r is.
                  let head : c ≡ DictHead r = sym here ∙ is in
                  region_same (λ (ps : List Cell). AreLinked (texts_in cells bytes) ps r.room r.len × All (IsBelow below) (pairs_in ps r.len)) cells (set cells n c) r.start r.room (subst (λ (x : Cell). first n x + size x ≤ length cells) head p.inside) (omega arith)
                  (λ x d i. get_or-set_other cells n x c d (λ q2. p.outside (subst (λ (y : ℕ). In (first n c) (size c) y) q2 (subst (λ (y : Cell). In (first n y) (size y) x) (sym head) i))))
                  (fitting.links below q r head))
              | inr ne ↦ links_kept (texts_in cells bytes) below cells (set cells n c) m h.kept refl (omega arith) (heads_set_other cells n m c ne)
                  (λ x d i. get_or-set_other cells n x c d (λ q2. p.mine m (subst (λ (y : ℕ). In (first m (heads cells m)) (size (heads cells m)) y) q2 i))) (now.each m)
            ]);
      }) h.linked;
      objects = b.objects;
    }

pub holds_written : {cells : List Cell} {bytes : List ℕ} {obs : List (Option ArenaObject)} {keys : Option ℕ} → Holds keys cells bytes obs → (n : ℕ) (cells' : List Cell) → n < length cells → length cells' ≡ length cells
    → heads cells' ≡ heads cells → ((c : ℕ) (d : Cell) → (In (first n (heads cells n)) (size (heads cells n)) c → ⊥) → get_or cells' c d ≡ get_or cells c d)
    → ((below : ℕ) → keys ≡ Some below → Links (texts_in cells bytes) below (heads cells n) cells') → Holds keys cells' bytes (set obs n (read n (heads cells n) cells' bytes))
holds_written {cells} {bytes} {obs} {keys} h n cells' low l same out links =
    let b = bare_written (bare h) n cells' low l same out in
    let texts : texts_in cells' bytes ≡ texts_in cells bytes = texts_same cells cells' bytes (λ m. ap (λ (x : ℕ → Cell). x m) same) in
    record {
      kept = b.kept;
      linked = all_linked keys cells cells' bytes bytes (λ below q now. record {
        few = omega (arith, now.few);
        each = λ m. subst (λ (t : ℕ → List ℕ). Links t below (heads cells' m) cells') (sym texts) (elim (cases_eq m n) [
          | inl e ↦ subst (λ (y : ℕ). Links (texts_in cells bytes) below (heads cells' y) cells') (sym e) (subst (λ (c : Cell). Links (texts_in cells bytes) below c cells') (sym (ap (λ (x : ℕ → Cell). x n) same)) (links below q))
          | inr ne ↦ links_kept (texts_in cells bytes) below cells cells' m h.kept refl (omega arith) (ap (λ (x : ℕ → Cell). x m) same)
              (λ x d i. out x d (λ j. ne (h.kept.cells_apart.apart m n x i j))) (now.each m)
        ]);
      }) h.linked;
      objects = b.objects;
    }

pub holds_plain : {cells : List Cell} {bytes : List ℕ} {obs : List (Option ArenaObject)} {keys : Option ℕ} → Holds keys cells bytes obs → (n c : ℕ) (x : Cell) → head_of x ≡ blank → n < length cells
    → In (first n (heads cells n)) (size (heads cells n)) c → ((below : ℕ) → keys ≡ Some below → Links (texts_in cells bytes) below (heads cells n) (set cells c x)) → Holds keys (set cells c x) bytes (set obs n (read n (heads cells n) (set cells c x) bytes))
holds_plain {cells} h n c x plain low i links =
    holds_written h n (set cells c x) low (length-set cells c x) (heads_set_plain cells c x plain (h.kept.plain n c i))
    (λ y d ni. get_or-set_other cells c y x d (λ q. ni (subst (λ (z : ℕ). In (first n (heads cells n)) (size (heads cells n)) z) (sym q) i))) links

pub holds_item : {cells : List Cell} {bytes : List ℕ} {obs : List (Option ArenaObject)} {keys : Option ℕ} → Holds keys cells bytes obs → (n c : ℕ) (v : Value) → n < length cells
    → In (first n (heads cells n)) (size (heads cells n)) c → ((below : ℕ) → keys ≡ Some below → Links (texts_in cells bytes) below (heads cells n) (set cells c (cell_of v))) → Holds keys (set cells c (cell_of v)) bytes (set obs n (read n (heads cells n) (set cells c (cell_of v)) bytes))
holds_item h n c v low i links = holds_plain h n c (cell_of v) (head_of-cell_of v) low i links

pub holds_more_bytes : {cells : List Cell} {bytes : List ℕ} {obs : List (Option ArenaObject)} {keys : Option ℕ} → Holds keys cells bytes obs → (bs : List ℕ) → Holds keys cells (bytes ++ bs) obs
holds_more_bytes {cells} {bytes} {obs} {keys} h bs =
    let b = bare_more_bytes (bare h) bs in
    let l : length (bytes ++ bs) ≡ length bytes + length bs = length-append bytes bs in
    record {
      kept = b.kept;
      linked = all_linked keys cells cells bytes (bytes ++ bs) (λ below q now. record {
        few = now.few;
        each = λ m. links_texts (texts_in cells bytes) (texts_in cells (bytes ++ bs)) below (heads cells m) cells
            (λ t lt. part_same bytes (bytes ++ bs) (byte_first t (heads cells t)) (byte_size (heads cells t)) (h.kept.bytes_apart.inside t) (omega (arith, h.kept.bytes_apart.inside t))
            (λ c d i. get_or_append_left bytes bs d c (omega (arith, h.kept.bytes_apart.inside t, i.high)))) (now.each m);
      }) h.linked;
      objects = b.objects;
    }

-- a text is written: dicts stay linked where it can be no key
module _ {cells : List Cell} {bytes : List ℕ} {obs : List (Option ArenaObject)} {keys : Option ℕ} (h : Holds keys cells bytes obs) (n c b : ℕ)
    (i : In (byte_first n (heads cells n)) (byte_size (heads cells n)) c)
  where
    still_linked : (below : ℕ) → below ≤ n → Linked below cells bytes → Linked below cells (set bytes c b)
    still_linked below le now =
        let l : length (set bytes c b) ≡ length bytes = length-set bytes c b in
        record {
          few = now.few;
          each = λ m. links_texts (texts_in cells bytes) (texts_in cells (set bytes c b)) below (heads cells m) cells
              (λ t lt. part_same bytes (set bytes c b) (byte_first t (heads cells t)) (byte_size (heads cells t)) (h.kept.bytes_apart.inside t) (omega (arith, l, h.kept.bytes_apart.inside t))
              (λ x d j. get_or-set_other bytes c x b d (λ q.
              let same : t ≡ n = h.kept.bytes_apart.apart t n c (subst (λ (y : ℕ). In (byte_first t (heads cells t)) (byte_size (heads cells t)) y) q j) i in
              absurd (omega arith)))) (now.each m);
        }

    filled : (k : Option ℕ) → AreAllLinked k cells bytes → AreAllLinked (without_text k n) cells (set bytes c b)
    filled None now = tt
    filled (Some below) now =
        let none : Option ℕ = None in
        elim (cases_lt n below) [
          | inl lt ↦ subst (λ (k : Option ℕ). AreAllLinked k cells (set bytes c b)) (sym (cond-false (nat_le below n) (Some below) none (lt-leb below n lt))) tt
          | inr le ↦ subst (λ (k : Option ℕ). AreAllLinked k cells (set bytes c b)) (sym (cond-true (nat_le below n) (Some below) none (le-leb below n le))) (still_linked below le now)
        ]

    pub holds_byte : n < length cells → Holds (without_text keys n) cells (set bytes c b) (set obs n (read n (heads cells n) cells (set bytes c b)))
    holds_byte low = let bare_now = bare_byte (bare h) n c b low i in record { kept = bare_now.kept; linked = filled keys h.linked; objects = bare_now.objects }

-- nothing yet
pub holds_nothing : Holds (Some 0) [] [] []
holds_nothing =
    let none : (h : ℕ → ℕ) → Apart (λ n. 0) (λ n. 0) 0 = λ h. record { inside = λ n. omega arith; apart = λ n m c i j. absurd (omega (arith, i.low, i.high)) } in
    record {
      kept = record {
        cells_apart = none (λ n. n);
        bytes_apart = none (λ n. n);
        plain = λ n c i. refl;
        full = λ n. tt;
      };
      linked = record { few = omega arith; each = λ n r is. absurd cc };
      objects = refl;
    }
