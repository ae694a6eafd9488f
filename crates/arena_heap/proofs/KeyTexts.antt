-- Links where the bytes of texts that are keys stay.
use Rattle.std.proofs.Common.{ℕ, ◌+◌, ◌*◌, ◌%◌, ◌<◌, ◌≤◌, ◌≡◌, List, length, true, false, get_or, refl, sym, ap, subst, arith}
use Rattle.std.proofs.Math.Path.{fun_ext}
use Rattle.std.specs.List.{All}
use Rattle.std.proofs.lemmas.List.FromFn.{length-map-range_with_len, get_or-map-range_with_len}
use Rattle.arena_heap.specs.declared.value.Value.{Value}
use Rattle.arena_heap.specs.declared.value.Value.TheVariants as values
use Rattle.arena_heap.specs.declared.value.StrNo.TheVariants as strs
use Rattle.arena_heap.specs.declared.value.TextNo.{TextNo}
use Rattle.arena_heap.specs.declared.cells.Cell.{Cell}
use Rattle.arena_heap.specs.Links.{text_code, code_of}
use Rattle.arena_heap.specs.Cells.{blank, value_of, heads, part, byte_first, byte_size, first_in, next_in, bucket_in, texts_in, HaveBytes, AreLinked, IsBelow, pair_in, pairs_in, Links}
use Rattle.arena_heap.proofs.Chains.{chained_same}

-- the bytes of texts where the heads are the same
pub texts_same : (cells cells' : List Cell) (bytes : List ℕ) → ((n : ℕ) → heads cells' n ≡ heads cells n) → texts_in cells' bytes ≡ texts_in cells bytes
texts_same cells cells' bytes same = fun_ext (λ n. ap (λ (h : Cell). part bytes (byte_first n h) (byte_size h)) (same n))

pub bytes_same : (cells cells' : List Cell) (bytes : List ℕ) → ((n : ℕ) → heads cells' n ≡ heads cells n) → HaveBytes cells bytes → HaveBytes cells' bytes
bytes_same cells cells' bytes same inside = λ n. subst (λ (h : Cell). byte_first n h + byte_size h ≤ length bytes) (sym (same n)) (inside n)

-- a key has the same code where the texts below a cell are the same, which it lies below
pub code_same : (texts texts' : ℕ → List ℕ) (below : ℕ) → ((t : ℕ) → t < below → texts' t ≡ texts t)
    → (v : Value) → ((t : TextNo) → v ≡ values.Text t → t.cell < below) → code_of texts' v ≡ code_of texts v
code_same texts texts' below same (values.Text t) low = ap text_code (same t.cell (low t refl))
code_same texts texts' below same (values.Bool true) low = refl
code_same texts texts' below same (values.Bool false) low = refl
code_same texts texts' below same (values.Int z) low = refl
code_same texts texts' below same (values.Str (strs.Pool n)) low = refl
code_same texts texts' below same (values.Str (strs.Object c)) low = refl
code_same texts texts' below same values.None low = refl
code_same texts texts' below same (values.Fixed c) low = refl
code_same texts texts' below same values.Empty low = refl
code_same texts texts' below same (values.List l) low = refl
code_same texts texts' below same (values.Dict d) low = refl
code_same texts texts' below same (values.Tuple t) low = refl
code_same texts texts' below same (values.Fun f) low = refl
code_same texts texts' below same (values.Exc e) low = refl
code_same texts texts' below same (values.Method m) low = refl
code_same texts texts' below same (values.Range r) low = refl
code_same texts texts' below same (values.Module m) low = refl
code_same texts texts' below same (values.Built b) low = refl

key_below : (below : ℕ) (ps : List Cell) (len : ℕ) → All (IsBelow below) (pairs_in ps len) → (at : ℕ) → at < len → IsBelow below (pair_in ps at)
key_below below ps len low at lt =
    let none : Value × Value = (values.None, values.None) in
    subst (IsBelow below) (get_or-map-range_with_len (pair_in ps) 0 len at at none lt (omega arith)) (low at none (omega (arith, length-map-range_with_len (pair_in ps) 0 len)))

-- links where the texts below a cell are the same
pub linked_texts : (texts texts' : ℕ → List ℕ) (below : ℕ) (ps : List Cell) (room len : ℕ) → ((t : ℕ) → t < below → texts' t ≡ texts t) → All (IsBelow below) (pairs_in ps len)
    → AreLinked texts ps room len → AreLinked texts' ps room len
linked_texts texts texts' below ps room len same low linked =
    chained_same (bucket_in texts ps room) (first_in ps) (next_in ps) (bucket_in texts' ps room) (first_in ps) (next_in ps) room len linked
    (λ at lt. ap (λ code. code % room) (code_same texts texts' below same (value_of (get_or ps (3 * at) blank)) (key_below below ps len low at lt)))
    (λ at lt. refl) (λ at lt. refl)

pub links_texts : (texts texts' : ℕ → List ℕ) (below : ℕ) (head : Cell) (whole : List Cell) → ((t : ℕ) → t < below → texts' t ≡ texts t)
    → Links texts below head whole → Links texts' below head whole
links_texts texts texts' below head whole same links r is =
    let both = links r is in
    (linked_texts texts texts' below (part whole r.start (3 * r.room)) r.room r.len same both.1 both.0, both.1)
