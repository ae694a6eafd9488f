-- The list of a layout: each jump names the position of its label.
use Rattle.std.proofs.Common.{◌≡◌, ℕ, zero, suc, ◌+◌, ◌-◌, ◌<◌, ◌≤◌, Bool, true, false, cond, ltb, List, [], ◌∷◌, ◌++◌, length, take, map, All, ℤ, pos, ◌+ℤ◌, ◌-ℤ◌, refl, ap, sym, subst, ◌∙◌, add-one, add-suc, add-zero, append_assoc, arith}
use Rattle.std.specs.List.{flat_map, count_by, AllByRecursion}
use Rattle.std.specs.Ordering.{int_eq}
use Rattle.std.proofs.lemmas.Bool.{lt-ltb, le-ltb}
use Rattle.std.proofs.lemmas.Bool.Decides.{Decides-int_eq}
use Rattle.std.proofs.lemmas.Int.{ints}
use Rattle.std.proofs.lemmas.List.{append-nil, length-append, length-map, map-append, take_all, take_more}
use Rattle.std.proofs.lemmas.List.Concat.{flat_map-append}
use Rattle.std.proofs.lemmas.List.Elements.{recursion_from_All, All-from_recursion}
use Rattle.std.proofs.lemmas.List.Sums.{sum_by_more}
use Rattle.bc_ops.specs.declared.instr.Op.{Op}
use Rattle.bc_ops.specs.declared.instr.Instr.{Instr}
use Rattle.bc_ops.specs.declared.instr.Instr.TheVariants as instrs
use Rattle.bc_ops.specs.declared.listing.Target.{Target}
use Rattle.bc_ops.specs.declared.listing.Target.TheVariants.{Position, Offset}
use Rattle.bc_ops.specs.declared.listing.Item.{Item}
use Rattle.bc_ops.specs.declared.listing.Item.TheVariants as listing
use Rattle.bc_ops.specs.Code.{spelling, IsEncodable}
use Rattle.bc_ops.specs.Listing.{Piece, IsPiece, joined, starts, target, item, items_at, IsListOf}
use Rattle.bc_ops.proofs.Law.{spelled}
use Rattle.bc_labels.specs.declared.labelled.Labelled.{Labelled}
use Rattle.bc_labels.specs.declared.labelled.Labelled.TheVariants.{At, Plain, Jump, Unwind}
use Rattle.bc_labels.specs.Labels.{IsSound, HasNoOffset, StandsOnce, label_item, target_of}
use Rattle.bc_labels.specs.Places.{item_at, width_at, offset_size, place, offset}
use Rattle.bc_labels.specs.Listed.{is_instr, label_position, label_target, listed_item, listed}
use Rattle.bc_labels.specs.Choice.{IsLayout, instr_of, instrs_of, instrs_to}
use Rattle.bc_labels.proofs.Reading.{encodable_to, length-instrs}
use Rattle.bc_labels.proofs.Sizes.{sound_at}
use Rattle.bc_labels.proofs.Standing.{label_within}

-- instructions with what is written for them
abbrev piece_of : Instr → Piece
piece_of instr = record { text = spelling instr; instr = instr }

spelled_pieces : (xs : List Instr) → AllByRecursion IsEncodable xs → AllByRecursion IsPiece (map piece_of xs)
spelled_pieces [] h = h
spelled_pieces (x ∷ xs) h = (spelled x h.0, spelled_pieces xs h.1)

joined-pieces : (xs : List Instr) → joined (map piece_of xs) ≡ flat_map spelling xs
joined-pieces [] = refl
joined-pieces (x ∷ xs) = ap (λ (ys : List ℕ). spelling x ++ ys) (joined-pieces xs)

-- the starts and the items of pieces behind others
starts-append : (at : ℕ) (ps qs : List Piece) → starts at (ps ++ qs) ≡ starts at ps ++ starts (at + length (joined ps)) qs
starts-append at [] qs = ap (λ (n : ℕ). starts n qs) (sym (add-zero at))
starts-append at (p ∷ ps) qs =
    let end : at + length p.text + length (joined ps) ≡ at + length (p.text ++ joined ps) = omega (arith, length-append p.text (joined ps)) in
    ap (λ (xs : List ℕ). at ∷ xs) (starts-append (at + length p.text) ps qs ∙ ap (λ (n : ℕ). starts (at + length p.text) ps ++ starts n qs) end)

items_at-append : (from : List ℕ) (at : ℕ) (ps qs : List Piece) → items_at from at (ps ++ qs) ≡ items_at from at ps ++ items_at from (at + length (joined ps)) qs
items_at-append from at [] qs = ap (λ (n : ℕ). items_at from n qs) (sym (add-zero at))
items_at-append from at (p ∷ ps) qs =
    let end : at + length p.text + length (joined ps) ≡ at + length (p.text ++ joined ps) = omega (arith, length-append p.text (joined ps)) in
    ap (λ (xs : List Item). item from (at + length p.text) p.instr ∷ xs)
    (items_at-append from (at + length p.text) ps qs ∙ ap (λ (n : ℕ). items_at from (at + length p.text) ps ++ items_at from n qs) end)

-- a place behind pieces is no start of theirs
other_start : (t : Bool) (position : ℕ) (there : Target) → (t ≡ true → ⊥) → cond t (Position position) there ≡ there
other_start true position there apart = absurd (apart refl)
other_start false position there apart = refl

passed_over : (at position end : ℕ) (ps : List Piece) (behind : List ℕ) → AllByRecursion IsPiece ps → end ≡ at + length (joined ps) → target (starts at ps ++ behind) position (pos end) ≡ target behind (position + length ps) (pos end)
passed_over at position end [] behind s e = ap (λ (n : ℕ). target behind n (pos end)) (sym (add-zero position))
passed_over at position end (p ∷ ps) behind s e =
    let size : length (p.text ++ joined ps) ≡ length p.text + length (joined ps) = length-append p.text (joined ps) in
    let some : length p.text ≡ suc (length s.0.behind) = ap length s.0.parts in
    let apart : int_eq (pos end) (pos at) ≡ true → ⊥ = λ same. let equal : pos end ≡ pos at = (Decides-int_eq (pos end) (pos at)).0 same in omega (arith, ints, equal, size, some, e) in
    let next : position + 1 + length ps ≡ position + suc (length ps) = omega arith in
    other_start (int_eq (pos end) (pos at)) position _ apart
    ∙ (passed_over (at + length p.text) (position + 1) end ps behind s.1 (omega (arith, size, e)) ∙ ap (λ (n : ℕ). target behind n (pos end)) next)

-- the start of the piece behind them is, or the end
found_at : (ps : List Piece) (end position count len : ℕ) → count ≡ position + length ps → len ≡ end + length (joined ps) → target (starts end ps) position (pos end) ≡ cond (ltb position count) (Position position) (Offset (pos len))
found_at [] end position count len e f =
    let last : len ≡ end = omega (arith, f) in
    rw (le-ltb position count (omega (arith, e))) (ap (λ (n : ℕ). Offset (pos n)) (sym last))
found_at (p ∷ ps) end position count len e f =
    rw (lt-ltb position count (omega (arith, e)), (Decides-int_eq (pos end) (pos end)).1 refl) refl

joined-append : (ps qs : List Piece) → joined (ps ++ qs) ≡ joined ps ++ joined qs
joined-append [] qs = refl
joined-append (p ∷ ps) qs = ap (λ (xs : List ℕ). p.text ++ xs) (joined-append ps qs) ∙ sym (append_assoc p.text (joined ps) (joined qs))

behind_pieces : (ps qs : List Piece) (end len : ℕ) → AllByRecursion IsPiece ps → end ≡ length (joined ps) → len ≡ length (joined (ps ++ qs)) → target (starts 0 (ps ++ qs)) 0 (pos end) ≡ cond (ltb (length ps) (length (ps ++ qs))) (Position (length ps)) (Offset (pos len))
behind_pieces ps qs end len s e f =
    let split : starts 0 (ps ++ qs) ≡ starts 0 ps ++ starts end qs = starts-append 0 ps qs ∙ ap (λ (n : ℕ). starts 0 ps ++ starts n qs) (omega (arith, e)) in
    let rest : len ≡ end + length (joined qs) = omega (arith, e, f, ap length (joined-append ps qs), length-append (joined ps) (joined qs)) in
    ap (λ (from : List ℕ). target from 0 (pos end)) split
    ∙ (passed_over 0 0 end ps (starts end qs) s (omega (arith, e))
    ∙ (ap (λ (n : ℕ). target (starts end qs) n (pos end)) (omega arith) ∙ found_at qs end (length ps) (length (ps ++ qs)) len (length-append ps qs) rest))

-- an item that is an instruction has one, and a label has none
length-instr_of : (it : Labelled) (z : ℤ) (wide : Bool) → length (instr_of it z wide) ≡ cond (is_instr it) 1 0
length-instr_of (At label) z wide = refl
length-instr_of (Plain instr) z wide = refl
length-instr_of (Jump op label) z wide = refl
length-instr_of (Unwind label byte) z wide = refl

length-instrs_to : (items : List Labelled) (widths : List Bool) (i : ℕ) → i ≤ length items → length (instrs_to items widths i) ≡ count_by is_instr (take i items)
length-instrs_to items widths zero within = refl
length-instrs_to items widths (suc i) within =
    let here = instr_of (item_at items i) (offset items widths i) (width_at widths i) in
    rw (← add-one i)
    (omega (arith, length-append (instrs_to items widths i) here, length-instrs_to items widths i (omega arith), length-instr_of (item_at items i) (offset items widths i) (width_at widths i), sum_by_more (λ (it : Labelled). cond (is_instr it) 1 0) items i (At 0) (omega arith)))

-- the instructions of the first `i` items stand in front of those of `i + k`
more_behind : (items : List Labelled) (widths : List Bool) (i k : ℕ) → (behind : List Instr) × (instrs_to items widths (i + k) ≡ instrs_to items widths i ++ behind)
more_behind items widths i zero = ([], ap (instrs_to items widths) (add-zero i) ∙ sym (append-nil (instrs_to items widths i)))
more_behind items widths i (suc k) =
    let front = more_behind items widths i k in
    let last = instr_of (item_at items (i + k)) (offset items widths (i + k)) (width_at widths (i + k)) in
    (front.0 ++ last, ap (instrs_to items widths) (add-suc i k) ∙ (ap (λ (xs : List Instr). xs ++ last) front.1 ∙ append_assoc (instrs_to items widths i) front.0 last))

all_behind : (items : List Labelled) (widths : List Bool) (i : ℕ) → i ≤ length items → (behind : List Instr) × (instrs_of items widths ≡ instrs_to items widths i ++ behind)
all_behind items widths i within =
    let there : i + (length items - i) ≡ length items = omega arith in
    subst (λ (n : ℕ). (behind : List Instr) × (instrs_to items widths n ≡ instrs_to items widths i ++ behind)) there (more_behind items widths i (length items - i))

pieces_behind : (xs ys zs : List Instr) → zs ≡ xs ++ ys → map piece_of zs ≡ map piece_of xs ++ map piece_of ys
pieces_behind xs ys zs e = ap (map piece_of) e ∙ map-append piece_of xs ys

-- the bytes of the pieces of the first `i` items are as many as the next item's place
length-joined : (items : List Labelled) (widths : List Bool) (i : ℕ) → length (joined (map piece_of (instrs_to items widths i))) ≡ place items widths i
length-joined items widths i = ap length (joined-pieces (instrs_to items widths i)) ∙ length-instrs items widths i

-- where a jump to the label goes
label_found : (items : List Labelled) (widths : List Bool) (label : ℕ) → AllByRecursion IsEncodable (instrs_to items widths (label_item items label)) → StandsOnce items label → target (starts 0 (map piece_of (instrs_of items widths))) 0 (pos (place items widths (label_item items label))) ≡ label_target items (place items widths (length items)) label
label_found items widths label encodable once =
    let within : label_item items label < length items = label_within items label once in
    let front = instrs_to items widths (label_item items label) in
    let end = place items widths (label_item items label) in
    let len = place items widths (length items) in
    let behind = all_behind items widths (label_item items label) (omega arith) in
    let ps : List Piece = map piece_of front in
    let qs : List Piece = map piece_of behind.0 in
    let whole : map piece_of (instrs_of items widths) ≡ ps ++ qs = pieces_behind front behind.0 (instrs_of items widths) behind.1 in
    let position : length ps ≡ label_position items label = length-map front piece_of ∙ length-instrs_to items widths (label_item items label) (omega arith) in
    let count : length (ps ++ qs) ≡ count_by is_instr items =
    ap length (sym whole) ∙ (length-map (instrs_of items widths) piece_of ∙ (length-instrs_to items widths (length items) (omega arith) ∙ ap (count_by is_instr) (take_all (length items) items (omega arith)))) in
    let size : len ≡ length (joined (ps ++ qs)) = sym (length-joined items widths (length items)) ∙ ap (λ (xs : List Piece). length (joined xs)) whole in
    ap (λ (xs : List Piece). target (starts 0 xs) 0 (pos end)) whole
    ∙ (behind_pieces ps qs end len (spelled_pieces front encodable) (sym (length-joined items widths (label_item items label))) size
    ∙ (ap (λ (n : ℕ). cond (ltb n (length (ps ++ qs))) (Position n) (Offset (pos len))) position
    ∙ ap (λ (n : ℕ). cond (ltb (label_position items label) n) (Position (label_position items label)) (Offset (pos len))) count))

-- what is read of an item whose jump is laid out
plain_item : (from : List ℕ) (end : ℕ) (instr : Instr) → HasNoOffset instr → item from end instr ≡ listing.Plain instr
plain_item from end (instrs.Jump op offset wide) none = absurd none
plain_item from end (instrs.Unwind offset wide byte) none = absurd none
plain_item from end instr none = refl

length-jump : (op : Op) (z : ℤ) (wide : Bool) → length (spelling (instrs.Jump op z wide)) ≡ 1 + offset_size wide
length-jump op z true = refl
length-jump op z false = refl

length-unwind : (z : ℤ) (wide : Bool) (byte : ℕ) → length (spelling (instrs.Unwind z wide byte)) ≡ 1 + offset_size wide + 1
length-unwind z true byte = refl
length-unwind z false byte = refl

reached : (end from there : ℕ) → end ≡ from → pos end +ℤ (pos there -ℤ pos from) ≡ pos there
reached end from there e = omega (arith, ints, e)

-- each label is found at its place
abbrev LabelsAt : List Labelled → List Bool → List ℕ → ℕ → Type 0
LabelsAt items widths from len =
    (label : ℕ) → StandsOnce items label → target from 0 (pos (place items widths (label_item items label))) ≡ label_target items len label

listed_one : (items : List Labelled) (widths : List Bool) (from : List ℕ) (at len : ℕ) (it : Labelled) (wide : Bool) → LabelsAt items widths from len → IsSound items it → items_at from at (map piece_of (instr_of it (pos (place items widths (target_of items it)) -ℤ pos (at + 1 + offset_size wide)) wide)) ≡ listed_item items len it
listed_one items widths from at len (At label) wide found sound = refl
listed_one items widths from at len (Plain instr) wide found sound = ap (λ (x : Item). x ∷ []) (plain_item from (at + length (spelling instr)) instr sound.1)
listed_one items widths from at len (Jump op label) wide found sound =
    let there = place items widths (label_item items label) in
    let z = pos there -ℤ pos (at + 1 + offset_size wide) in
    let offset_is = reached (at + length (spelling (instrs.Jump op z wide))) (at + 1 + offset_size wide) there (omega (arith, length-jump op z wide)) in
    ap (λ (x : Target). listing.Jump op x ∷ []) (ap (target from 0) offset_is ∙ found label sound.1)
listed_one items widths from at len (Unwind label byte) wide found sound =
    let there = place items widths (label_item items label) in
    let z = pos there -ℤ pos (at + 1 + offset_size wide) in
    let offset_is = reached (at + length (spelling (instrs.Unwind z wide byte)) - 1) (at + 1 + offset_size wide) there (omega (arith, length-unwind z wide byte)) in
    ap (λ (x : Target). listing.Unwind x byte ∷ []) (ap (target from 0) offset_is ∙ found label sound)

listed_to : (items : List Labelled) (widths : List Bool) (from : List ℕ) (len i : ℕ) → LabelsAt items widths from len → All (IsSound items) items → i ≤ length items → items_at from 0 (map piece_of (instrs_to items widths i)) ≡ flat_map (listed_item items len) (take i items)
listed_to items widths from len zero found sound within = refl
listed_to items widths from len (suc i) found sound within =
    let front = instrs_to items widths i in
    let it = item_at items i in
    let here = instr_of it (offset items widths i) (width_at widths i) in
    let more : take (suc i) items ≡ take i items ++ it ∷ [] = ap (λ (n : ℕ). take n items) (sym (add-one i)) ∙ take_more items i (At 0) (omega arith) in
    let at : 0 + length (joined (map piece_of front)) ≡ place items widths i = omega (arith, length-joined items widths i) in
    let one = listed_one items widths from (place items widths i) len it (width_at widths i) found (sound_at items i sound (omega arith)) in
    ap (items_at from 0) (map-append piece_of front here)
    ∙ (items_at-append from 0 (map piece_of front) (map piece_of here)
    ∙ (ap (λ (n : ℕ). items_at from 0 (map piece_of front) ++ items_at from n (map piece_of here)) at
    ∙ (ap (λ (xs : List Item). items_at from 0 (map piece_of front) ++ xs) (one ∙ sym (append-nil (listed_item items len it)))
    ∙ (ap (λ (xs : List Item). xs ++ flat_map (listed_item items len) (it ∷ [])) (listed_to items widths from len i found sound (omega arith))
    ∙ sym (ap (flat_map (listed_item items len)) more ∙ flat_map-append (listed_item items len) (take i items) (it ∷ []))))))

pub is_list : (items : List Labelled) (bytes : List ℕ) → All (IsSound items) items → IsLayout items bytes → IsListOf bytes (listed items (length bytes))
is_list items bytes sound f =
    let all = instrs_of items f.widths in
    let size : place items f.widths (length items) ≡ length bytes = sym (ap length f.bytes_are ∙ length-instrs items f.widths (length items)) in
    let encodable = λ (i : ℕ) (within : i ≤ length items). recursion_from_All IsEncodable (instrs_to items f.widths i) (encodable_to items f.widths i sound f.fewest.short_fit f.wide_fit within) in
    let found : LabelsAt items f.widths (starts 0 (map piece_of all)) (length bytes) = λ label once.
    let within : label_item items label < length items = label_within items label once in
    label_found items f.widths label (encodable (label_item items label) (omega arith)) once ∙ ap (λ (n : ℕ). label_target items n label) size in
    record {
      pieces = map piece_of all;
      spelled = All-from_recursion IsPiece (map piece_of all) (spelled_pieces all (encodable (length items) (omega arith)));
      bytes_are = f.bytes_are ∙ sym (joined-pieces all);
      items_are = sym (listed_to items f.widths (starts 0 (map piece_of all)) (length bytes) (length items) found sound (omega arith)
          ∙ ap (flat_map (listed_item items (length bytes))) (take_all (length items) items (omega arith)));
    }
