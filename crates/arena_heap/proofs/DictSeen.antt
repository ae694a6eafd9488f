-- From the head of a dict to what contracts see of it.
use Rattle.std.proofs.Common.{ℕ, suc, ◌+◌, ◌-◌, ◌*◌, ◌<◌, ◌≤◌, ◌≡◌, List, [], ◌∷◌, ◌++◌, length, Option, Some, None, get_or, set, map, take, drop, nat_le, replicate, inl, inr, refl, le_refl, sym, ◌∙◌, ap, subst, arith, ◌^◌}
use Rattle.std.proofs.Math.Path.{fun_ext, ap₂}
use Rattle.std.specs.List.{All, remove}
use Rattle.std.specs.Vec.{vec_capacity}
use Rattle.std.proofs.lemmas.List.{get_or_default, append-nil, set-get_or, take_at, drop_at, length-map, get_or-map, set-set, length_push}
use Rattle.std.proofs.lemmas.List.Elements.{All-append, All-take, All-drop, All-map, All-set, All-push}
use Rattle.std.proofs.lemmas.Bool.{cond-true, cond-false, le-leb, lt-leb, cases_lt}
use Rattle.arena_heap.specs.declared.arena.Arena.TheInside.{Inside}
use Rattle.arena_heap.specs.declared.value.Value.{Value}
use Rattle.arena_heap.specs.declared.value.Value.TheVariants as values
use Rattle.arena_heap.specs.declared.cells.Cell.{Cell}
use Rattle.arena_heap.specs.declared.cells.Cell.TheVariants.{DictHead}
use Rattle.arena_heap.specs.declared.cells.Cell.TheVariants as variants
use Rattle.arena_heap.specs.declared.cells.Region.{Region}
use Rattle.qstr_pool.specs.mpy_base.World.{Heap, DictObject, ADict, AText, IsA, object, text_of, text_at, kind_of, pairs_of, room_of, pairs_at, room_at, with_object, with_dict, Later}
use Rattle.qstr_pool.specs.mpy_base.Weights.{Fits, with_used, dict_growth, grown_room, room_for, with_dict_room, with_pairs}
use Rattle.qstr_pool.proofs.mpy_base_lemmas.Worlds.{is_within, object_grown, later_grown}
use Rattle.qstr_pool.proofs.mpy_base_lemmas.Rooms.{room_is, room_positive}
use Rattle.arena_heap.specs.Values.{ArenaObject, Leads, IsKey, held, IsFormed}
use Rattle.arena_heap.specs.Dicts.{with_value}
use Rattle.arena_heap.specs.Links.{IsLast, bucket_of, buckets_at, text_end, with_key}
use Rattle.arena_heap.specs.Cells.{blank, cell_of, value_of, heads, part, first_link, next_link, bucket_in, byte_first, byte_size, texts_in, read, AreLinked, Relinked, heap_of, Full, Holds, IsArena}
use Rattle.arena_heap.proofs.Chains.{last_same, last_moved}
use Rattle.arena_heap.proofs.Views.{fits_is}
use Rattle.arena_heap.proofs.Regions.{get_or-part}
use Rattle.arena_heap.proofs.DictCells.{region_pairs, full_dict, inside_dict, length-pairs, get_or-pairs, dict_pushed, dict_removed, linked_now}
use Rattle.arena_heap.proofs.Frame.{length-objects}
use Rattle.arena_heap.proofs.Seen.{seen, objects, Invariant, holds_now, seen_object, seen_sound, seen_within, replaced_again, replaced_seen}

-- a pair that a dict may hold
pub record IsPair (objects : List (Option ArenaObject)) (p : Value × Value) : Type 0 where
  pub key : IsKey p.0
  pub key_leads : Leads objects p.0
  pub leads : Leads objects p.1

module _ (a : Inside) {h : Heap Value ℕ} (e : seen a ≡ h) (n : ℕ) {r : Region} (head : heads a.cells.items n ≡ DictHead r) where
  pub dict_seen : object h.objects n ≡ Some (DictObject (region_pairs a.cells.items r) r.room)
  dict_seen = seen_object a e n head

  pub seen_pairs : region_pairs a.cells.items r ≡ pairs_at h n
  seen_pairs = sym (ap pairs_of dict_seen)

  pub seen_dict_room : r.room ≡ room_at h n
  seen_dict_room = sym (ap room_of dict_seen)

  pub seen_dict_len : r.len ≡ length (pairs_at h n)
  seen_dict_len = sym (length-pairs (part a.cells.items r.start (3 * r.room)) r.len) ∙ ap length seen_pairs

  -- the pair in two cells that were read
  pub seen_pair : Invariant a → (at i j : ℕ) → at < r.len → i ≡ r.start + 3 * at → j ≡ r.start + (3 * at + 1) → (x y : Cell) (k v : Value)
      → x ≡ get_or a.cells.items i x → k ≡ value_of x → y ≡ get_or a.cells.items j y → v ≡ value_of y → (d : Value × Value) → (k, v) ≡ get_or (pairs_at h n) at d
  seen_pair inv at i j lt ei ej x y k v ex ek ey ev d =
      let full = full_dict a.cells.items inv.kept n r head in
      let inside = inside_dict a.cells.items inv.kept n r head in
      let ps : List Cell = part a.cells.items r.start (3 * r.room) in
      let key : k ≡ value_of (get_or ps (3 * at) blank) =
      ek ∙ ap value_of (ex ∙ (ap (λ m. get_or a.cells.items m x) ei ∙ (get_or_default a.cells.items (r.start + 3 * at) x blank (omega arith) ∙ sym (get_or-part a.cells.items r.start (3 * r.room) (3 * at) blank (omega arith))))) in
      let value : v ≡ value_of (get_or ps (3 * at + 1) blank) =
      ev ∙ ap value_of (ey ∙ (ap (λ m. get_or a.cells.items m y) ej ∙ (get_or_default a.cells.items (r.start + (3 * at + 1)) y blank (omega arith) ∙ sym (get_or-part a.cells.items r.start (3 * r.room) (3 * at + 1) blank (omega arith))))) in
      ap₂ (λ (x y : Value). (x, y)) key value
      ∙ (sym (get_or-pairs ps r.len at d lt) ∙ ap (λ (xs : List (Value × Value)). get_or xs at d) seen_pairs)

pub all_unmap : {X Y : Type 0} (P : Y → Type 0) (f : X → Y) (xs : List X) → All P (map f xs) → All (λ x. P (f x)) xs
all_unmap P f xs all k d h = let l = length-map xs f in subst P (get_or-map f xs k d (f d) h) (all k (f d) (omega arith))

-- what the object of a dict is to keep, pair by pair
pub pairs_held : (objects : List (Option ArenaObject)) (pairs : List (Value × Value)) (room : ℕ) → All (IsPair objects) pairs → All (Leads objects) (held (Some (DictObject pairs room)))
pairs_held objects pairs room all =
    All-append (Leads objects) (map (λ (p : Value × Value). p.0) pairs) (map (λ (p : Value × Value). p.1) pairs)
    (All-map (Leads objects) (λ (p : Value × Value). p.0) pairs (λ k d h. (all k d h).key_leads))
    (All-map (Leads objects) (λ (p : Value × Value). p.1) pairs (λ k d h. (all k d h).leads))

pub pairs_formed : (objects : List (Option ArenaObject)) (pairs : List (Value × Value)) → All (IsPair objects) pairs → All IsKey (map (λ (p : Value × Value). p.0) pairs)
pairs_formed objects pairs all = All-map IsKey (λ (p : Value × Value). p.0) pairs (λ k d h. (all k d h).key)

held_pairs : (objects : List (Option ArenaObject)) (o : Option ArenaObject) → kind_of o ≡ Some ADict → All (Leads objects) (held o) → IsFormed o → All (IsPair objects) (pairs_of o)
held_pairs objects (Some (DictObject pairs room)) q all formed =
    let ks : List Value = map (λ (p : Value × Value). p.0) pairs in
    let vs : List Value = map (λ (p : Value × Value). p.1) pairs in
    let key_leads = all_unmap (Leads objects) (λ (p : Value × Value). p.0) pairs (subst (All (Leads objects)) (take_at ks vs (length ks) refl) (All-take (Leads objects) (length ks) (ks ++ vs) all)) in
    let leads = all_unmap (Leads objects) (λ (p : Value × Value). p.1) pairs (subst (All (Leads objects)) (drop_at ks vs (length ks) refl) (All-drop (Leads objects) (length ks) (ks ++ vs) all)) in
    let key = all_unmap IsKey (λ (p : Value × Value). p.0) pairs formed in
    λ k d h. record { key = key k d h; key_leads = key_leads k d h; leads = leads k d h }
held_pairs objects _ q all formed = absurd cc

pub dict_pairs : (a : Inside) {h : Heap Value ℕ} → Invariant a → seen a ≡ h → (n : ℕ) → IsA h.objects ADict n → All (IsPair h.objects) (pairs_at h n)
dict_pairs a {h} i e n is = let s = seen_sound a i e in held_pairs h.objects (object h.objects n) is (s.leads n) (s.formed n)

-- a room that holds the pairs already stays
pub dict_reserved_nothing : (h : Heap Value ℕ) (n pairs : ℕ) → IsA h.objects ADict n → pairs ≤ room_at h n → h ≡ with_dict_room h n pairs
dict_reserved_nothing h n pairs is le =
    let fits = le-leb pairs (room_at h n) le in
    let no_growth : dict_growth h n pairs ≡ 0 = cond-true _ _ _ fits in
    let same_room : grown_room h n pairs ≡ room_at h n = cond-true _ _ _ fits in
    sym (ap (λ (k : ℕ). with_object (with_used h k) n (DictObject (pairs_at h n) (grown_room h n pairs))) no_growth
    ∙ (ap (λ (k : ℕ). with_object (with_used h 0) n (DictObject (pairs_at h n) k)) same_room
    ∙ (ap (λ (os : List (Option ArenaObject)). record h { objects = set os n (Some (DictObject (pairs_at h n) (room_at h n))) }) (append-nil h.objects)
    ∙ ap (λ (os : List (Option ArenaObject)). record h { objects = os }) (ap (λ (o : Option ArenaObject). set h.objects n o) (dict_itself (object h.objects n) is) ∙ set-get_or h.objects n None))))
  where
    dict_itself : (o : Option ArenaObject) → kind_of o ≡ Some ADict → Some (DictObject (pairs_of o) (room_of o)) ≡ o
    dict_itself (Some (DictObject pairs room)) q = refl
    dict_itself _ q = absurd cc

-- where the pairs of a dict lie
pub record Lies (cells : List Cell) (r : Region) : Type 0 where
  pub full : r.len ≤ r.room
  pub inside : r.start + 3 * r.room ≤ length cells
  pub few : length cells < 2 ^ 32

pub dict_lies : (a : Inside) → Invariant a → (n : ℕ) {r : Region} → heads a.cells.items n ≡ DictHead r → Lies a.cells.items r
dict_lies a i n {r} head =
    record { full = full_dict a.cells.items i.kept n r head; inside = inside_dict a.cells.items i.kept n r head; few = omega (arith, i.cells_fit, i.cells_few) }

-- pairs that a dict may hold, after a change
pub with_value_pairs : (objects : List (Option ArenaObject)) (pairs : List (Value × Value)) (at : ℕ) (v : Value) → at < length pairs → Leads objects v → All (IsPair objects) pairs → All (IsPair objects) (with_value pairs at v)
with_value_pairs objects pairs at v lt leads all =
    let p = all at (v, v) lt in
    All-set (IsPair objects) pairs at ((get_or pairs at (v, v)).0, v) (record { key = p.key; key_leads = p.key_leads; leads = leads }) all

pub removed_pairs : (objects : List (Option ArenaObject)) (pairs : List (Value × Value)) (at : ℕ) → All (IsPair objects) pairs → All (IsPair objects) (remove pairs at)
removed_pairs objects pairs at all =
    All-append (IsPair objects) (take at pairs) (drop (suc at) pairs) (All-take (IsPair objects) at pairs all) (All-drop (IsPair objects) (suc at) pairs all)

module _ (a : Inside) {h : Heap Value ℕ} (e : seen a ≡ h) (n : ℕ) {r : Region} (head : heads a.cells.items n ≡ DictHead r) where
  -- other pairs in the place of those of the dict
  pub dict_holds : {keys : Option ℕ} (F : List (Value × Value) → List (Value × Value)) (cells : List Cell) → Holds keys cells a.bytes.items (set (objects a) n (Some (DictObject (F (region_pairs a.cells.items r)) r.room)))
      → Holds keys cells a.bytes.items (set (objects a) n (Some (DictObject (F (pairs_at h n)) (room_at h n))))
  dict_holds {keys} F cells held1 =
      subst (λ (o : ArenaObject). Holds keys cells a.bytes.items (set (objects a) n (Some o)))
      (ap₂ (λ (ps : List (Value × Value)) (room : ℕ). DictObject (F ps) room) (seen_pairs a e n head) (seen_dict_room a e n head)) held1

module _ (a : Inside) {h : Heap Value ℕ} (i : Invariant a) (e : seen a ≡ h) (n : ℕ) (is : IsA h.objects ADict n) where
  -- the invariant after a change of the pairs
  pub dict_again_seen : {keys : Option ℕ} (pairs : List (Value × Value)) (cells : List Cell) (cell_capacity : ℕ) → Holds keys cells a.bytes.items (set (objects a) n (Some (DictObject pairs (room_at h n))))
      → vec_capacity a.cells ≤ cell_capacity → All (IsPair h.objects) pairs → IsArena keys cells a.bytes.items a.room.cells a.room.bytes cell_capacity (vec_capacity a.bytes)
  dict_again_seen pairs cells cell_capacity held1 cc all =
      replaced_again a i e ADict n is (DictObject pairs (room_at h n)) refl cells a.bytes.items cell_capacity (vec_capacity a.bytes) held1 refl cc (le_refl _)
      (pairs_held h.objects pairs (room_at h n) all) (pairs_formed h.objects pairs all)

pub fits_nothing : (a : Inside) {h : Heap Value ℕ} → Invariant a → seen a ≡ h → Fits h 0 0
fits_nothing a i e =
    subst (λ (h : Heap Value ℕ). Fits h 0 0) e (fits_is a.cells.items a.bytes.items a.room.cells a.room.bytes 0 0 (omega (arith, i.cells_fit)) (omega (arith, i.bytes_fit)))

-- what a dict asks for, and its room then
module _ (h : Heap Value ℕ) (n pairs : ℕ) where
  pub small_growth : pairs ≤ room_at h n → dict_growth h n pairs ≡ 0
  small_growth le = cond-true _ _ _ (le-leb pairs (room_at h n) le)

  pub large_growth : room_at h n < pairs → dict_growth h n pairs ≡ 3 * room_for pairs
  large_growth lt = cond-false _ _ _ (lt-leb pairs (room_at h n) lt)

  pub large_room : room_at h n < pairs → grown_room h n pairs ≡ room_for pairs
  large_room lt = cond-false _ _ _ (lt-leb pairs (room_at h n) lt)

  pub grown_holds : pairs ≤ grown_room h n pairs
  grown_holds = elim (cases_lt (room_at h n) pairs) [
    | inl lt ↦ omega (arith, large_room lt, (room_is pairs).holds)
    | inr le ↦ omega (arith, le, cond-true (nat_le pairs (room_at h n)) (room_at h n) (room_for pairs) (le-leb pairs (room_at h n) le))
  ]

module _ (h : Heap Value ℕ) (n : ℕ) (is : IsA h.objects ADict n) where
  pub reserved_object : (pairs : ℕ) → object (with_dict_room h n pairs).objects n ≡ Some (DictObject (pairs_at h n) (grown_room h n pairs))
  reserved_object pairs = object_grown h n (dict_growth h n pairs) _ (is_within h.objects ADict n is)

  pub reserved_later : (pairs : ℕ) → Later h.objects (with_dict_room h n pairs).objects
  reserved_later pairs = later_grown h n (dict_growth h n pairs) _ (λ kind q. sym is ∙ q) ADict is

  -- a pair behind the others of a dict that was given room for it
  pub pushed_pairs : (pair : Value × Value) → let g = with_dict_room h n (length (pairs_at h n) + 1) in
      with_dict g n (pairs_at g n ++ pair ∷ []) ≡ with_pairs h n (pairs_at h n ++ pair ∷ [])
  pushed_pairs pair =
      let old : List (Value × Value) = pairs_at h n in
      let new : List (Value × Value) = old ++ pair ∷ [] in
      let k : ℕ = length old + 1 in
      let was : Option ArenaObject = Some (DictObject old (grown_room h n k)) in
      let now : Option ArenaObject = Some (DictObject new (grown_room h n k)) in
      ap (λ (o : Option ArenaObject). with_object (with_dict_room h n k) n (DictObject (pairs_of o ++ pair ∷ []) (room_of o))) (reserved_object k)
      ∙ (ap (λ (os : List (Option ArenaObject)). record h { objects = os }) (set-set (h.objects ++ replicate (dict_growth h n k) None) n was now)
      ∙ ap (λ (j : ℕ). with_object (with_used h (dict_growth h n j)) n (DictObject new (grown_room h n j))) (sym (length_push old pair)))

-- the bytes of a text, as the cells have it and as contracts see it
text_read : (n : ℕ) (head : Cell) (cells : List Cell) (bytes : List ℕ) → text_of (read n head cells bytes) ≡ part bytes (byte_first n head) (byte_size head)
text_read n variants.None cells bytes = refl
text_read n (variants.Bool b) cells bytes = refl
text_read n (variants.Int z) cells bytes = refl
text_read n (variants.Pool n2) cells bytes = refl
text_read n (variants.Object c) cells bytes = refl
text_read n (variants.Fixed c) cells bytes = refl
text_read n variants.Empty cells bytes = refl
text_read n (variants.List l) cells bytes = refl
text_read n (variants.Dict d) cells bytes = refl
text_read n (variants.Tuple t) cells bytes = refl
text_read n (variants.Text t) cells bytes = refl
text_read n (variants.Fun f) cells bytes = refl
text_read n (variants.Exc x) cells bytes = refl
text_read n (variants.Method m) cells bytes = refl
text_read n (variants.Range r) cells bytes = refl
text_read n (variants.Module m) cells bytes = refl
text_read n (variants.Built b) cells bytes = refl
text_read n (variants.ListHead r) cells bytes = refl
text_read n (variants.DictHead r) cells bytes = refl
text_read n (variants.TupleHead k) cells bytes = refl
text_read n (variants.TextHead t) cells bytes = refl
text_read n (variants.FunHead name module_no code) cells bytes = refl
text_read n (variants.ExcHead kind) cells bytes = refl
text_read n (variants.MethodHead method) cells bytes = refl
text_read n (variants.RangeHead start stop step) cells bytes = refl
text_read n (variants.ModuleHead name) cells bytes = refl
text_read n (variants.Place file line name) cells bytes = refl
text_read n (variants.Links first next) cells bytes = refl

pub texts_seen : (a : Inside) {h : Heap Value ℕ} → seen a ≡ h → text_at h ≡ texts_in a.cells.items a.bytes.items
texts_seen a e = fun_ext (λ t. ap text_of (seen_object a e t refl) ∙ text_read t (heads a.cells.items t) a.cells.items a.bytes.items)

-- a text that is led to lies among the cells that are used
pub text_end_fits : (objects : List (Option ArenaObject)) (v : Value) → Leads objects v → text_end v ≤ length objects
text_end_fits objects (values.Text t) leads = let within = is_within objects AText t.cell leads.meets in omega arith
text_end_fits objects values.None leads = omega arith
text_end_fits objects (values.Bool b) leads = omega arith
text_end_fits objects (values.Int z) leads = omega arith
text_end_fits objects (values.Str s) leads = omega arith
text_end_fits objects (values.Fixed c) leads = omega arith
text_end_fits objects values.Empty leads = omega arith
text_end_fits objects (values.List l) leads = omega arith
text_end_fits objects (values.Dict d) leads = omega arith
text_end_fits objects (values.Tuple t) leads = omega arith
text_end_fits objects (values.Fun f) leads = omega arith
text_end_fits objects (values.Exc e) leads = omega arith
text_end_fits objects (values.Method m) leads = omega arith
text_end_fits objects (values.Range r) leads = omega arith
text_end_fits objects (values.Module m) leads = omega arith
text_end_fits objects (values.Built b) leads = omega arith

-- the links of a dict that were read
module _ (a : Inside) {h : Heap Value ℕ} (i : Invariant a) (e : seen a ≡ h) (n : ℕ) {r : Region} (head : heads a.cells.items n ≡ DictHead r) where
  pub some_buckets : 0 < r.room
  some_buckets = omega (arith, room_positive r.room (subst Full head (i.kept.full n)).1)

  buckets_are : (at : ℕ) → at < r.len → buckets_at h n at ≡ bucket_in (texts_in a.cells.items a.bytes.items) (part a.cells.items r.start (3 * r.room)) r.room at
  buckets_are at lt =
      let none : Value × Value = (values.None, values.None) in
      ap (λ (texts : ℕ → List ℕ). bucket_of texts (room_at h n) (get_or (pairs_at h n) at none).0) (texts_seen a e)
      ∙ ap₂ (λ (room : ℕ) (p : Value × Value). bucket_of (texts_in a.cells.items a.bytes.items) room p.0) (sym (seen_dict_room a e n head))
      (ap (λ (xs : List (Value × Value)). get_or xs at none) (sym (seen_pairs a e n head)) ∙ get_or-pairs (part a.cells.items r.start (3 * r.room)) r.len at none lt)

  read_link : (at j : ℕ) (x : Cell) → at < r.room → j ≡ r.start + 3 * at + 2 → x ≡ get_or a.cells.items j x → x ≡ get_or (part a.cells.items r.start (3 * r.room)) (3 * at + 2) blank
  read_link at j x lt ej ex =
      let inside = inside_dict a.cells.items i.kept n r head in
      let place : j ≡ r.start + (3 * at + 2) = omega arith in
      ex ∙ (get_or_default a.cells.items j x blank (omega arith)
      ∙ (ap (λ m. get_or a.cells.items m blank) place ∙ sym (get_or-part a.cells.items r.start (3 * r.room) (3 * at + 2) blank (omega arith))))

  -- where dicts are linked
  module _ {below : ℕ} (k : a.keys ≡ Some below) where
    pub seen_first : (bucket j found : ℕ) (x : Cell) → bucket < r.room → j ≡ r.start + 3 * bucket + 2 → x ≡ get_or a.cells.items j x → found ≡ first_link x
        → IsLast (buckets_at h n) bucket (length (pairs_at h n)) found
    seen_first bucket j found x lt ej ex ef =
        let linked = (linked_now (holds_now a i) n r head below k).0 in
        subst (λ limit. IsLast (buckets_at h n) bucket limit found) (seen_dict_len a e n head)
        (last_moved (last_same (linked.firsts_lead bucket lt) buckets_are) refl (sym (ef ∙ ap first_link (read_link bucket j x lt ej ex))))

    pub seen_next : (at j found : ℕ) (x : Cell) → at < r.len → j ≡ r.start + 3 * at + 2 → x ≡ get_or a.cells.items j x → found ≡ next_link x
        → IsLast (buckets_at h n) (buckets_at h n at) at found
    seen_next at j found x lt ej ex ef =
        let full = full_dict a.cells.items i.kept n r head in
        let linked = (linked_now (holds_now a i) n r head below k).0 in
        last_moved (last_same (linked.nexts_lead at lt) (λ k hk. buckets_are k (omega arith))) (sym (buckets_are at lt)) (sym (ef ∙ ap next_link (read_link at j x (omega arith) ej ex)))

module _ (a : Inside) {h : Heap Value ℕ} (i : Invariant a) (e : seen a ≡ h) (n : ℕ) {r : Region} (head : heads a.cells.items n ≡ DictHead r) (is : IsA h.objects ADict n) where
  -- after a pair was put behind the others, and linked
  pub pushed_seen : (k v : Value) (x y : Cell) (cells : List Cell) (capacity : ℕ) → length (pairs_at h n) < room_at h n → x ≡ cell_of k → y ≡ cell_of v
      → Relinked r.start r.room (set (set a.cells.items (r.start + 3 * r.len) x) (r.start + 3 * r.len + 1) y) cells
      → (let was : List Cell = set (set a.cells.items (r.start + 3 * r.len) x) (r.start + 3 * r.len + 1) y in
      AreLinked (texts_in was a.bytes.items) (part was r.start (3 * r.room)) r.room r.len → AreLinked (texts_in was a.bytes.items) (part cells r.start (3 * r.room)) r.room (r.len + 1))
      → vec_capacity a.cells ≤ capacity → IsKey k → Leads h.objects k → Leads h.objects v
      → IsArena (with_key a.keys k) (set cells n (DictHead (record r { len = r.len + 1 }))) a.bytes.items a.room.cells a.room.bytes capacity (vec_capacity a.bytes)
      × (heap_of (set cells n (DictHead (record r { len = r.len + 1 }))) a.bytes.items a.room.cells a.room.bytes ≡ with_dict h n (pairs_at h n ++ (k, v) ∷ []))
  pushed_seen k v x y cells capacity lt ex ey relinked linked cc key key_leads leads =
      let len = seen_dict_len a e n head in
      let room = seen_dict_room a e n head in
      let held1 = dict_holds a e n head (λ (ps : List (Value × Value)). ps ++ (k, v) ∷ []) _
      (dict_pushed (holds_now a i) n r k v x y (seen_within a e ADict n is) head (omega arith) ex ey cells
      (omega (arith, text_end_fits h.objects k key_leads, ap (λ (w : Heap Value ℕ). length w.objects) e, length-objects a.cells.items a.bytes.items)) relinked linked) in (
        dict_again_seen a i e n is (pairs_at h n ++ (k, v) ∷ []) _ capacity held1 cc
            (All-push (IsPair h.objects) (pairs_at h n) (k, v) (dict_pairs a i e n is) (record { key = key; key_leads = key_leads; leads = leads })),
        replaced_seen a e n _ _ a.bytes.items held1 refl,
      )

  -- after a pair was taken out, the others closed up, and all were linked anew
  pub removed_seen : (at : ℕ) (cells1 cells : List Cell) (capacity : ℕ) → at < length (pairs_at h n) → length cells1 ≡ length a.cells.items
      → ((k : ℕ) (d : Cell) → r.start + 3 * at ≤ k → k + 3 < r.start + 3 * r.len → get_or cells1 k d ≡ get_or a.cells.items (k + 3) d)
      → ((k : ℕ) (d : Cell) → k < r.start + 3 * at → get_or cells1 k d ≡ get_or a.cells.items k d)
      → ((k : ℕ) (d : Cell) → r.start + 3 * r.len ≤ k + 3 → get_or cells1 k d ≡ get_or a.cells.items k d)
      → Relinked r.start r.room cells1 cells → AreLinked (texts_in cells1 a.bytes.items) (part cells r.start (3 * r.room)) r.room (r.len - 1) → vec_capacity a.cells ≤ capacity
      → IsArena a.keys (set cells n (DictHead (record r { len = r.len - 1 }))) a.bytes.items a.room.cells a.room.bytes capacity (vec_capacity a.bytes)
      × (heap_of (set cells n (DictHead (record r { len = r.len - 1 }))) a.bytes.items a.room.cells a.room.bytes ≡ with_dict h n (remove (pairs_at h n) at))
  removed_seen at cells1 cells capacity lt l moved before behind relinked linked cc =
      let len = seen_dict_len a e n head in
      let held1 = dict_holds a e n head (λ (ps : List (Value × Value)). remove ps at) _
      (dict_removed (holds_now a i) n at r cells1 (seen_within a e ADict n is) head (omega arith) l moved before behind cells relinked linked) in (
        dict_again_seen a i e n is (remove (pairs_at h n) at) _ capacity held1 cc (removed_pairs h.objects (pairs_at h n) at (dict_pairs a i e n is)),
        replaced_seen a e n _ _ a.bytes.items held1 refl,
      )
