-- Texts that are written part by part.
use Rattle.std.proofs.Common.{◌≡◌, ℕ, suc, ◌+◌, ◌<◌, ◌≤◌, List, [], ◌∷◌, ◌++◌, length, take, drop, get_or, set, append_assoc, Option, Some, None, refl, sym, ap, ap₂, ◌∙◌, subst, arith, length-append, get_or-set_same, get_or-set_other}
use Rattle.std.proofs.Math.Seq.{take-suc, drop-cons}
use Rattle.std.proofs.lemmas.List.{set_at, take_at, drop_at, set-set, set-get_or, length-take-le, length-drop, drop-drop, take-append-drop, append-nil}
use Rattle.prim_builtins.specs.arena_heap.declared.value.Value.{Value}
use Rattle.prim_builtins.specs.arena_heap.declared.value.Value.TheVariants as values
use Rattle.prim_builtins.specs.arena_heap.declared.value.StrNo.{StrNo}
use Rattle.prim_builtins.specs.arena_heap.declared.value.ConstNo.{ConstNo}
use Rattle.mpy_base.specs.World.{TextObject, Heap, AText, IsA, Later, object, kind_of, text_of, text_at, with_text}
use Rattle.mpy_base.proofs.Worlds.{is_within, later_text}
use Rattle.prim_builtins.specs.arena_heap.Values.{ArenaObject}
use Rattle.prim_builtins.proofs.arena_heap_lemmas.Sounds.{leads_later}
use Rattle.prim_builtins.specs.arena_objects.Iterables.{spelled}
use Rattle.prim_builtins.specs.prim_faults.Faults.{IsKnownStr}
use Rattle.prim_builtins.specs.prim_operators.Sources.{IsOtherThan}
use Rattle.prim_str_methods.specs.declared.cuts.Cut.{Cut}
use Rattle.prim_str_methods.specs.Parts.{cut_bytes, IsCut, written}

pub written_none : (start : List ℕ) (from : ℕ) → written start from [] ≡ start
written_none start from =
    let same : from + 0 ≡ from = omega arith in
    ap (λ (n : ℕ). take from start ++ drop n start) same ∙ take-append-drop from start

pub written_length : (start : List ℕ) (from : ℕ) (ys : List ℕ) → from + length ys ≤ length start → length (written start from ys) ≡ length start
written_length start from ys le =
    omega (arith, length-append (take from start) (ys ++ drop (from + length ys) start), length-append ys (drop (from + length ys) start), length-take-le from start (omega arith), length-drop (from + length ys) start)

-- one byte more
pub written_more : (start : List ℕ) (from : ℕ) (ys : List ℕ) (k : ℕ) → k < length ys → from + length ys ≤ length start
    → set (written start from (take k ys)) (from + k) (get_or ys k 0) ≡ written start from (take (k + 1) ys)
written_more start from ys k lt le =
    let one : suc k ≡ k + 1 = omega arith in
    let xs = take from start in
    let zs = take k ys in
    let x = get_or ys k 0 in
    let m = from + k in
    let lz : length zs ≡ k = length-take-le k ys (omega arith) in
    let lx : length xs ≡ from = length-take-le from start (omega arith) in
    let front : length (xs ++ zs) ≡ m = omega (arith, length-append xs zs, lz, lx) in
    let rest : drop (from + length zs) start ≡ get_or start m 0 ∷ drop (suc m) start = ap (λ (n : ℕ). drop (from + n) start) lz ∙ drop-cons start m 0 (omega arith) in
    let more : zs ++ x ∷ [] ≡ take (k + 1) ys = sym (take-suc ys k 0 lt) ∙ ap (λ (j : ℕ). take j ys) one in
    let end : suc m ≡ from + length (take (k + 1) ys) = omega (arith, length-take-le (k + 1) ys (omega arith)) in
    ap (λ (rs : List ℕ). set (xs ++ (zs ++ rs)) m x) rest
    ∙ (ap (λ (l : List ℕ). set l m x) (sym (append_assoc xs zs (get_or start m 0 ∷ drop (suc m) start)))
    ∙ (set_at (xs ++ zs) (get_or start m 0) (drop (suc m) start) x m front
    ∙ (append_assoc xs zs (x ∷ drop (suc m) start)
    ∙ (ap (λ (l : List ℕ). xs ++ l) (sym (append_assoc zs (x ∷ []) (drop (suc m) start)))
    ∙ ap₂ (λ (l : List ℕ) (n : ℕ). xs ++ (l ++ drop n start)) more end))))

-- what is written behind the first bytes
pub written_on : (start xs ys : List ℕ) (from : ℕ) → length xs ≡ from → from + length ys ≤ length start
    → written (written start 0 xs) from ys ≡ written start 0 (xs ++ ys)
written_on start xs ys from e le =
    let rest = drop (0 + length xs) start in
    let front : take from (xs ++ rest) ≡ xs = take_at xs rest from e in
    let back : drop (from + length ys) (xs ++ rest) ≡ drop (0 + length (xs ++ ys)) start =
    sym (drop-drop (length ys) from (xs ++ rest)) ∙ (ap (λ (l : List ℕ). drop (length ys) l) (drop_at xs rest from e)
    ∙ (drop-drop (length ys) (0 + length xs) start ∙ ap (λ (n : ℕ). drop n start) (omega (arith, length-append xs ys)))) in
    ap₂ (λ (l r : List ℕ). l ++ (ys ++ r)) front back ∙ sym (append_assoc xs ys (drop (0 + length (xs ++ ys)) start))

-- bytes that are written behind others
pub written_both : (start : List ℕ) (from : ℕ) (xs ys : List ℕ) (place : ℕ) → place ≡ from + length xs → place + length ys ≤ length start
    → written (written start from xs) place ys ≡ written start from (xs ++ ys)
written_both start from xs ys place e le =
    let front = take from start in
    let rest = drop (from + length xs) start in
    let lf : length front ≡ from = length-take-le from start (omega arith) in
    let whole : written start from xs ≡ (front ++ xs) ++ rest = sym (append_assoc front xs rest) in
    let count : length (front ++ xs) ≡ place = omega (arith, length-append front xs, lf) in
    let before : take place (written start from xs) ≡ front ++ xs = ap (λ (l : List ℕ). take place l) whole ∙ take_at (front ++ xs) rest place count in
    let back : drop (place + length ys) (written start from xs) ≡ drop (from + length (xs ++ ys)) start =
    ap (λ (l : List ℕ). drop (place + length ys) l) whole ∙ (sym (drop-drop (length ys) place ((front ++ xs) ++ rest))
    ∙ (ap (λ (l : List ℕ). drop (length ys) l) (drop_at (front ++ xs) rest place count)
    ∙ (drop-drop (length ys) (from + length xs) start ∙ ap (λ (n : ℕ). drop n start) (omega (arith, length-append xs ys))))) in
    ap₂ (λ (l r : List ℕ). l ++ (ys ++ r)) before back
    ∙ (append_assoc front xs (ys ++ drop (from + length (xs ++ ys)) start) ∙ ap (λ (l : List ℕ). front ++ l) (sym (append_assoc xs ys (drop (from + length (xs ++ ys)) start))))

-- a text whose bytes were all written
pub written_all : (start xs : List ℕ) → length xs ≡ length start → written start 0 xs ≡ xs
written_all start xs e = ap (λ (l : List ℕ). xs ++ l) (nothing (drop (0 + length xs) start) (omega (arith, length-drop (0 + length xs) start))) ∙ append-nil xs
  where
    nothing : (l : List ℕ) → length l ≡ 0 → l ≡ []
    nothing [] e = refl
    nothing (x ∷ l) e = absurd (omega arith)

text_kept : (o : Option ArenaObject) → kind_of o ≡ Some AText → Some (TextObject (text_of o)) ≡ o
text_kept (Some (TextObject bytes)) is = refl
text_kept _ is = absurd cc

module _ (texts : StrNo → Option (List ℕ)) (tuples : ConstNo → Option (List Value)) (h : Heap Value ℕ) (t : ℕ) (is : IsA h.objects AText t) where
  pub same_text : (bytes : List ℕ) → bytes ≡ text_at h t → h ≡ with_text h t bytes
  same_text bytes e =
      sym (ap (λ (bs : List ℕ). with_text h t bs) e
      ∙ (ap (λ (o : Option ArenaObject). record h { objects = set h.objects t o }) (text_kept (object h.objects t) is)
      ∙ ap (λ (os : List (Option ArenaObject)). record h { objects = os }) (set-get_or h.objects t None)))

  pub text_now : (a : Heap Value ℕ) (bytes : List ℕ) → a ≡ with_text h t bytes → text_at a t ≡ bytes
  text_now a bytes e = ap (λ (w : Heap Value ℕ). text_at w t) e ∙ ap text_of (get_or-set_same h.objects t (Some (TextObject bytes)) None (is_within h.objects AText t is))

  pub later_now : (a : Heap Value ℕ) (bytes : List ℕ) → a ≡ with_text h t bytes → Later h.objects a.objects
  later_now a bytes e = subst (λ (w : Heap Value ℕ). Later h.objects w.objects) (sym e) (later_text h t bytes is)

  pub put_again : (a b : Heap Value ℕ) (bytes more : List ℕ) → a ≡ with_text h t bytes → b ≡ with_text a t more → b ≡ with_text h t more
  put_again a b bytes more e f =
      f ∙ (ap (λ (w : Heap Value ℕ). with_text w t more) e
      ∙ ap (λ (os : List (Option ArenaObject)). record h { objects = os }) (set-set h.objects t (Some (TextObject bytes)) (Some (TextObject more))))

  -- strs of other numbers keep their bytes
  pub spelled_apart : (a : Heap Value ℕ) (bytes : List ℕ) (v : Value) → IsOtherThan t v → a ≡ with_text h t bytes → spelled texts a v ≡ spelled texts h v
  spelled_apart a bytes v other e = ap (λ (w : Heap Value ℕ). spelled texts w v) e ∙ apart v other
    where
      apart : (v : Value) → IsOtherThan t v → spelled texts (with_text h t bytes) v ≡ spelled texts h v
      apart (values.Text m) other = ap text_of (get_or-set_other h.objects t m.cell (Some (TextObject bytes)) None other)
      apart _ other = refl

pub known_later : (texts : StrNo → Option (List ℕ)) (tuples : ConstNo → Option (List Value)) {old new : List (Option ArenaObject)} → Later old new → (v : Value) → IsKnownStr texts tuples old v → IsKnownStr texts tuples new v
known_later texts tuples later v k = record { str = k.str; leads = leads_later later v k.leads; told = k.told }

pub cut_length : (texts : StrNo → Option (List ℕ)) (tuples : ConstNo → Option (List Value)) (h : Heap Value ℕ) (cut : Cut) → IsCut texts tuples h cut → length (cut_bytes texts h cut) ≡ cut.len
cut_length texts tuples h cut is =
    let within = is.within in
    omega (arith, length-take-le cut.len (drop cut.start (spelled texts h cut.of)) (omega (arith, length-drop cut.start (spelled texts h cut.of))))
