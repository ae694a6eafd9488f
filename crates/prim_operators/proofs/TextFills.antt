-- Texts that are filled byte by byte.
use Rattle.std.proofs.Common.{◌≡◌, ℕ, suc, ◌+◌, ◌-◌, ◌^◌, ◌<◌, ◌≤◌, min, List, [], ◌∷◌, ◌++◌, length, take, drop, get_or, set, replicate, append_assoc, Option, Some, None, refl, sym, ap, ap₂, ◌∙◌, subst, arith, length-append, get_or-set_same, get_or-set_other}
use Rattle.std.specs.Prelude.{if◌then◌else◌, nat_le, true, false}
use Rattle.std.specs.List.{repeat}
use Rattle.std.proofs.Math.Seq.{take-suc, drop-cons}
use Rattle.std.proofs.lemmas.List.{set_at, set-set, set-get_or, length-take-le, length-drop, take_all, drop_all, append-nil, length-replicate}
use Rattle.prim_faults.specs.arena_heap.declared.value.Value.{Value}
use Rattle.prim_faults.specs.arena_heap.declared.value.Value.TheVariants as values
use Rattle.prim_faults.specs.arena_heap.declared.value.StrNo.{StrNo}
use Rattle.prim_faults.specs.arena_heap.declared.value.ConstNo.{ConstNo}
use Rattle.prim_faults.specs.mpy_base.declared.room.NoRoom.{NoRoom}
use Rattle.prim_faults.specs.mpy_base.World.{TextObject, Heap, AText, IsA, Later, object, kind_of, text_of, text_at, with_text}
use Rattle.prim_faults.specs.mpy_base.Weights.{used, Fits, Made, Refused}
use Rattle.prim_faults.specs.mpy_base.Val.{Str}
use Rattle.prim_faults.proofs.mpy_base_lemmas.Worlds.{is_within, object_before, object_made, used_made}
use Rattle.prim_faults.specs.arena_heap.Values.{ArenaObject}
use Rattle.prim_faults.proofs.arena_heap_lemmas.Sounds.{leads_later}
use Rattle.prim_faults.specs.arena_objects.Iterables.{given, spelled}
use Rattle.prim_faults.proofs.arena_objects_lemmas.Gifts.{Keeps, spelled_kept}
use Rattle.prim_faults.specs.py_values.Shown.{PlainHeap}
use Rattle.prim_faults.specs.py_primitives.Outcome.{gives, making, making_text}
use Rattle.prim_faults.specs.Faults.{IsKnownStr}
use Rattle.prim_operators.specs.declared.sources.Source.{Source}
use Rattle.prim_operators.specs.declared.sources.Source.TheVariants as sources
use Rattle.prim_operators.specs.Sources.{source_bytes, AreStrs, IsOtherThan, IsApart}

-- the first k places are of one list, and the others of another
abbrev pub partly : {X : Type 0} → List X → List X → ℕ → List X
partly target start k = take k target ++ drop k start

pub partly_more : {X : Type 0} (target start : List X) (k : ℕ) (d : X) → k < length target → k < length start
    → set (partly target start k) k (get_or target k d) ≡ partly target start (k + 1)
partly_more target start k d lt lt' =
    let one : suc k ≡ k + 1 = omega arith in
    let front : length (take k target) ≡ k = length-take-le k target (omega arith) in
    ap (λ ys. set (take k target ++ ys) k (get_or target k d)) (drop-cons start k d lt')
    ∙ (set_at (take k target) (get_or start k d) (drop (suc k) start) (get_or target k d) k front
    ∙ (sym (append_assoc (take k target) (get_or target k d ∷ []) (drop (suc k) start))
    ∙ (ap (λ xs. xs ++ drop (suc k) start) (sym (take-suc target k d lt)) ∙ ap (partly target start) one)))

pub partly_all : {X : Type 0} (target start : List X) (k : ℕ) → length target ≡ k → length start ≡ k → partly target start k ≡ target
partly_all {X} target start k e e' =
    ap₂ (λ (xs ys : List X). xs ++ ys) (take_all k target (omega arith)) (drop_all k start (omega arith)) ∙ append-nil target

module _ (texts : StrNo → Option (List ℕ)) (h : Heap Value ℕ) (t : ℕ) where
  -- strs of other numbers keep their bytes
  spelled_apart : (bytes : List ℕ) (v : Value) → IsOtherThan t v → spelled texts (with_text h t bytes) v ≡ spelled texts h v
  spelled_apart bytes (values.Text m) other = ap text_of (get_or-set_other h.objects t m.cell (Some (TextObject bytes)) None other)
  spelled_apart bytes _ other = refl

  pub source_apart : (bytes : List ℕ) (source : Source) → IsApart t source → source_bytes texts (with_text h t bytes) source ≡ source_bytes texts h source
  source_apart bytes (sources.Joined left right) apart = ap₂ (λ (xs ys : List ℕ). xs ++ ys) (spelled_apart bytes left apart.0) (spelled_apart bytes right apart.1)
  source_apart bytes (sources.Repeated times of) apart = ap (λ (xs : List ℕ). repeat times xs) (spelled_apart bytes of apart)

  pub text_there : IsA h.objects AText t → (bytes : List ℕ) → text_at (with_text h t bytes) t ≡ bytes
  text_there is bytes = ap text_of (get_or-set_same h.objects t (Some (TextObject bytes)) None (is_within h.objects AText t is))

  pub put_again : (bytes more : List ℕ) → with_text (with_text h t bytes) t more ≡ with_text h t more
  put_again bytes more = ap (λ (os : List (Option ArenaObject)). record h { objects = os }) (set-set h.objects t (Some (TextObject bytes)) (Some (TextObject more)))

pub partly_length : {X : Type 0} (target start : List X) (k count : ℕ) → length target ≡ count → length start ≡ count → k ≤ count → length (partly target start k) ≡ count
partly_length target start k count e e' le =
    omega (arith, length-append (take k target) (drop k start), length-take-le k target (omega arith), length-drop k start)

text_kept : (o : Option ArenaObject) → kind_of o ≡ Some AText → Some (TextObject (text_of o)) ≡ o
text_kept (Some (TextObject bytes)) is = refl
text_kept _ is = absurd cc

-- a text that is filled by the bytes of strs
module _ (texts : StrNo → Option (List ℕ)) (h : Heap Value ℕ) (t : ℕ) (is : IsA h.objects AText t) (source : Source) (apart : IsApart t source) (count : ℕ)
    (bytes : length (source_bytes texts h source) ≡ count) (room : length (text_at h t) ≡ count) where
  -- the bytes below k are filled
  abbrev pub filled : ℕ → Heap Value ℕ
  filled k = with_text h t (partly (source_bytes texts h source) (text_at h t) k)

  pub begins : h ≡ filled 0
  begins =
      sym (ap (λ (o : Option ArenaObject). record h { objects = set h.objects t o }) (text_kept (object h.objects t) is)
      ∙ ap (λ (os : List (Option ArenaObject)). record h { objects = os }) (set-get_or h.objects t None))

  pub source_there : (a : Heap Value ℕ) (k : ℕ) → a ≡ filled k → source_bytes texts a source ≡ source_bytes texts h source
  source_there a k e = ap (λ (w : Heap Value ℕ). source_bytes texts w source) e ∙ source_apart texts h t (partly (source_bytes texts h source) (text_at h t) k) source apart

  pub text_partly : (a : Heap Value ℕ) (k : ℕ) → a ≡ filled k → text_at a t ≡ partly (source_bytes texts h source) (text_at h t) k
  text_partly a k e = ap (λ (w : Heap Value ℕ). text_at w t) e ∙ text_there texts h t is (partly (source_bytes texts h source) (text_at h t) k)

  pub text_length : (a : Heap Value ℕ) (k : ℕ) → a ≡ filled k → k ≤ count → length (text_at a t) ≡ count
  text_length a k e le = ap (λ (xs : List ℕ). length xs) (text_partly a k e) ∙ partly_length (source_bytes texts h source) (text_at h t) k count bytes room le

  pub step : (a b : Heap Value ℕ) (k byte : ℕ) → a ≡ filled k → k < count → byte ≡ get_or (source_bytes texts a source) k 0 → b ≡ with_text a t (set (text_at a t) k byte) → b ≡ filled (k + 1)
  step a b k byte e lt read put =
      let target = source_bytes texts h source in
      let start = text_at h t in
      let now : byte ≡ get_or target k 0 = read ∙ ap (λ (xs : List ℕ). get_or xs k 0) (source_there a k e) in
      put ∙ (ap₂ (λ (xs : List ℕ) (x : ℕ). with_text a t (set xs k x)) (text_partly a k e) now
      ∙ (ap (λ (w : Heap Value ℕ). with_text w t (set (partly target start k) k (get_or target k 0))) e
      ∙ (put_again texts h t (partly target start k) (set (partly target start k) k (get_or target k 0))
      ∙ ap (λ (xs : List ℕ). with_text h t xs) (partly_more target start k 0 (omega arith) (omega arith)))))

  pub ends : (a : Heap Value ℕ) → a ≡ filled count → a ≡ with_text h t (source_bytes texts h source)
  ends a e = e ∙ ap (λ (xs : List ℕ). with_text h t xs) (partly_all (source_bytes texts h source) (text_at h t) count bytes room)

strs_later : (texts : StrNo → Option (List ℕ)) (tuples : ConstNo → Option (List Value)) {old new : List (Option ArenaObject)} → Later old new → (v : Value) → IsKnownStr texts tuples old v → IsKnownStr texts tuples new v
strs_later texts tuples later v k = record { str = k.str; leads = leads_later later v k.leads; told = k.told }

pub sources_later : (texts : StrNo → Option (List ℕ)) (tuples : ConstNo → Option (List Value)) {old new : List (Option ArenaObject)} → Later old new → (source : Source) → AreStrs texts tuples old source → AreStrs texts tuples new source
sources_later texts tuples later (sources.Joined left right) are = (strs_later texts tuples later left are.0, strs_later texts tuples later right are.1)
sources_later texts tuples later (sources.Repeated times of) are = strs_later texts tuples later of are

-- a text that was made, and then filled
module _ (texts : StrNo → Option (List ℕ)) (tuples : ConstNo → Option (List Value)) {old made : Heap Value ℕ} {t : ℕ} (bytes : List ℕ) (m : Made old made t (TextObject bytes)) where
  keeps_made : Keeps old made
  keeps_made =
      let same : (n : ℕ) → n < length old.objects → object made.objects n ≡ object old.objects n = λ n lt. object_before m n lt in
      record { gives = λ n lt. ap given (same n lt); spells = λ n lt. ap text_of (same n lt); longer = λ n lt. omega (arith, lt, used_made m) }

  pub source_made : (source : Source) → AreStrs texts tuples old.objects source → source_bytes texts made source ≡ source_bytes texts old source
  source_made (sources.Joined left right) are = ap₂ (λ (xs ys : List ℕ). xs ++ ys) (spelled_kept tuples texts keeps_made left are.0.leads) (spelled_kept tuples texts keeps_made right are.1.leads)
  source_made (sources.Repeated times of) are = ap (λ (xs : List ℕ). repeat times xs) (spelled_kept tuples texts keeps_made of are.leads)

  other_than : (v : Value) → IsKnownStr texts tuples old.objects v → IsOtherThan t v
  other_than (values.Text n) k = let low = is_within old.objects AText n.cell k.leads.meets in let number = m.number in λ e. omega arith
  other_than _ k = tt

  pub apart_made : (source : Source) → AreStrs texts tuples old.objects source → IsApart t source
  apart_made (sources.Joined left right) are = (other_than left are.0, other_than right are.1)
  apart_made (sources.Repeated times of) are = other_than of are

  pub filled_made : (new : Heap Value ℕ) (target : List ℕ) → length bytes ≡ length target → new ≡ with_text made t target → Made old new t (TextObject target)
  filled_made new target len e = record {
    fits = subst (λ (n : ℕ). Fits old 2 n) len m.fits;
    number = m.number;
    world = e ∙ (ap (λ (w : Heap Value ℕ). with_text w t target) m.world
        ∙ ap₂ (λ (os : List (Option ArenaObject)) (n : ℕ). record old { objects = os; bytes = old.bytes + n })
        (set_at old.objects (Some (TextObject bytes)) (replicate 1 None) (Some (TextObject target)) t (sym m.number)) len);
  }

-- what a making of `len` bytes leaves
pub bytes_made : {old made : Heap Value ℕ} {t : ℕ} (len : ℕ) → Made old made t (TextObject (replicate len 0)) → made.bytes ≡ old.bytes + len
bytes_made {old} {made} {t} len m = ap (λ (w : Heap Value ℕ). w.bytes) m.world ∙ ap (λ (n : ℕ). old.bytes + n) (length-replicate len 0)

pub zeros_made : {old made : Heap Value ℕ} {t : ℕ} (len : ℕ) → Made old made t (TextObject (replicate len 0)) → length (text_at made t) ≡ len
zeros_made {old} {made} {t} len m = ap (λ (o : Option ArenaObject). length (text_of o)) (object_made m) ∙ length-replicate len 0

-- 2^64 - 1 bytes at most are asked for, and told
pub refused_all : {old new : Heap Value ℕ} {e : NoRoom} (len all : ℕ) → len ≡ min all 18446744073709551615 → Refused old new e 2 len → Refused old new e 2 all
refused_all {old} {new} {e} len all is r =
    let same : min len (2 ^ 64 - 1) ≡ min all (2 ^ 64 - 1) = omega arith in
    record {
      too_much = λ fits. r.too_much (record { cells_fit = fits.cells_fit; bytes_fit = let f = fits.bytes_fit in omega arith });
      told = r.told ∙ ap (λ (n : ℕ). if nat_le (used old + 2) old.cell_size then record { asked = n; used = old.bytes; size = old.byte_size; bytes = true }
          else record { asked = min 2 (2 ^ 64 - 1); used = used old; size = old.cell_size; bytes = false }) same;
      unchanged = r.unchanged;
    }

-- no bytes are a constant
pub nothing_making : (heap : PlainHeap) (bytes : List ℕ) → length bytes ≡ 0 → making_text heap bytes ≡ gives (Str []) heap
nothing_making heap [] e = refl
nothing_making heap (byte ∷ bytes) e = absurd (omega arith)

-- a text with bytes is made
pub text_making : (heap : PlainHeap) (bytes : List ℕ) → 0 < length bytes → making_text heap bytes ≡ making heap (TextObject bytes)
text_making heap [] some = absurd (omega arith)
text_making heap (byte ∷ bytes) some = refl
