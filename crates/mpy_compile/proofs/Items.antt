-- The instructions and lines of one code, from what is known of those of its body.
use Rattle.std.proofs.Common.{◌≡◌, ℕ, zero, suc, ◌<◌, ◌≤◌, ◌^◌, Bool, true, false, ◌&&◌, List, [], ◌∷◌, length, map, Option, Some, None, refl, ap, subst, arith, slice_get}
use Rattle.std.specs.List.{list_all, AllByRecursion}
use Rattle.std.proofs.lemmas.Bool.{leb-true}
use Rattle.mpy_base.specs.declared.limits.TheConstants.{MAX_FILE_BYTES}
use Rattle.mpy_base.specs.Val.{Val}
use Rattle.mpy_writer.specs.mpy_tree.declared.module.Constant.{Constant, out-Constant, map-Constant}
use Rattle.mpy_writer.specs.mpy_tree.declared.module.Constant.TheOpen.{Constant-F}
use Rattle.mpy_writer.specs.mpy_tree.declared.module.Constant.TheFolds.{fold_out-Constant}
use Rattle.mpy_writer.specs.mpy_tree.declared.module.Item.{Item}
use Rattle.mpy_writer.specs.mpy_tree.declared.module.Item.TheVariants as items
use Rattle.mpy_writer.specs.mpy_tree.Resolved.{Resolved, ResolvedLine, resolved_item}
use Rattle.mpy_writer.specs.mpy_tree.Values.{value_of, constant_step, tuple_value}
use Rattle.mpy_writer.specs.Writable.{IsText, IsFine, IsFineBy, IsSoundItem, NeverFall}
use Rattle.emit_module.specs.bc_machine.Library.{Line, item_of, line_of}
use Rattle.emit_module.specs.bc_scheme.Context.{line_in, line_before}
use Rattle.emit_module.specs.bc_resolved.Operands.{IsInside}
use Rattle.emit_module.specs.tr_source.Spelled.{IsAscii}
use Rattle.mpy_compile.specs.Texts.{text_fits, object_fits, item_fits}
use Rattle.mpy_compile.proofs.Wells.{IsStr, IsWell}

pub and_left : (a b : Bool) → (a && b) ≡ true → a ≡ true
and_left true b e = refl
and_left false b e = e

pub and_right : (a b : Bool) → (a && b) ≡ true → b ≡ true
and_right true b e = e
and_right false b e = cc

-- ---- texts and objects

pub text_is : (text : List ℕ) → IsAscii text → text_fits text ≡ true → IsText text
text_is text a e = let few = leb-true (length text) MAX_FILE_BYTES e in record { ascii = a; short = omega (arith, few) }

no_tuple : {P : Type 0} (vs : List Val) → IsStr (tuple_value vs) → P
no_tuple [] h = absurd h
no_tuple (v ∷ vs) h = absurd h

layer_fine : (levels : ℕ) (o : Constant-F Constant) → IsStr (constant_step (map-Constant Constant Val value_of o)) → object_fits o ≡ true → IsFineBy (IsFine levels) o
layer_fine levels Constant-F.None h e = absurd h
layer_fine levels Constant-F.False h e = absurd h
layer_fine levels Constant-F.True h e = absurd h
layer_fine levels (Constant-F.Str text) h e = text_is text h e
layer_fine levels (Constant-F.Int n) h e = absurd h
layer_fine levels (Constant-F.Tuple items) h e = no_tuple _ h

fine_of : (levels : ℕ) (object : Constant) → IsFineBy (IsFine levels) (out-Constant object) → IsFine (suc levels) object
unfolding IsFine
fine_of levels object h = h

object_fine : (object : Constant) → IsStr (value_of object) → object_fits (out-Constant object) ≡ true → IsFine 32 object
object_fine object h e = fine_of 31 object (layer_fine 31 (out-Constant object) (subst IsStr (fold_out-Constant Val constant_step object) h) e)

-- ---- instructions

item_sound : (size : ℕ) → size < 2 ^ 32 → (item : Item) → IsWell (item_of size (resolved_item item)) → IsInside size (item_of size (resolved_item item)) → item_fits item ≡ true → IsSoundItem size item
item_sound size few (items.Plain instr) w i e = w
item_sound size few (items.Named op text) w i e = (w.0, text_is text w.1 e)
item_sound size few (items.Object object) w i e = object_fine object w e
item_sound size few (items.Jump op position) w i e = (w, record { within = i; small = omega (arith, i, few) })
item_sound size few (items.Unwind position byte) w i e = record { within = i; small = omega (arith, i, few) }

pub head_is : (x y : Resolved) (xs ys : List Resolved) → x ∷ xs ≡ y ∷ ys → x ≡ y
head_is x y xs ys e = cc

pub tail_is : (x y : Resolved) (xs ys : List Resolved) → x ∷ xs ≡ y ∷ ys → xs ≡ ys
tail_is x y xs ys e = cc

abbrev pub item_in : ResolvedLine → Resolved
item_in l = l.item

pub items_sound : (size : ℕ) → size < 2 ^ 32 → (found : List ResolvedLine) (made : List Item) → map item_in found ≡ map resolved_item made
    → ((i : ℕ) (x : ResolvedLine) → slice_get found i ≡ Some x → IsWell (item_of size x.item) × IsInside size (item_of size x.item)) → list_all item_fits made ≡ true → AllByRecursion (IsSoundItem size) made
items_sound size few [] [] e good fits = tt
items_sound size few [] (y ∷ ys) e good fits = cc
items_sound size few (x ∷ xs) [] e good fits = cc
items_sound size few (x ∷ xs) (y ∷ ys) e good fits =
    let same = head_is x.item (resolved_item y) (map item_in xs) (map resolved_item ys) e in
    let g = good 0 x refl in (
      item_sound size few y (subst (λ r. IsWell (item_of size r)) same g.0) (subst (λ r. IsInside size (item_of size r)) same g.1) (and_left (item_fits y) _ fits),
      items_sound size few xs ys (tail_is x.item (resolved_item y) (map item_in xs) (map resolved_item ys) e) (λ i z f. good (suc i) z f) (and_right (item_fits y) _ fits),
    )

-- ---- lines

abbrev pub line_at : ResolvedLine → ℕ
line_at l = l.line

abbrev pub line_of_option : Option ResolvedLine → ℕ
line_of_option (Some l) = l.line
line_of_option None = 1

-- the line in front of a position, where this one stands in front of all
abbrev pub front : ℕ → List ResolvedLine → ℕ → ℕ
front line found zero = line
front line found (suc i) = line_of_option (slice_get found i)

next_front : (line : ℕ) (x : ResolvedLine) (xs : List ResolvedLine) (i : ℕ) → front line (x ∷ xs) (suc i) ≡ front x.line xs i
next_front line x xs zero = refl
next_front line x xs (suc i) = refl

pub lines_rise : (line : ℕ) (found : List ResolvedLine) → ((i : ℕ) (x : ResolvedLine) → slice_get found i ≡ Some x → front line found i ≤ x.line) → NeverFall line (map line_at found)
lines_rise line [] h = tt
lines_rise line (x ∷ xs) h = (h 0 x refl, lines_rise x.line xs (λ i y f. subst (λ n. n ≤ y.line) (next_front line x xs i) (h (suc i) y f)))

-- the same among a machine's lines
before_is : (size : ℕ) (o : List ResolvedLine) (i : ℕ) → line_in (slice_get (map (line_of size) o) i) ≡ line_of_option (slice_get o i)
before_is size [] i = refl
before_is size (x ∷ xs) zero = refl
before_is size (x ∷ xs) (suc i) = before_is size xs i

pub front_is : (size : ℕ) (found : List ResolvedLine) (i : ℕ) → line_before (map (line_of size) found) i ≡ front 1 found i
front_is size found zero = refl
front_is size found (suc i) = before_is size found i

pub found_line : (size : ℕ) (found : List ResolvedLine) (i : ℕ) (x : ResolvedLine) → slice_get found i ≡ Some x → slice_get (map (line_of size) found) i ≡ Some (line_of size x)
found_line size [] i x e = cc
found_line size (y ∷ ys) zero x e = ap (λ (z : ResolvedLine). Some (line_of size z)) (got y x e) where
  got : {A : Type 0} → (a b : A) → Some a ≡ Some b → a ≡ b
  got a b e = cc
found_line size (y ∷ ys) (suc i) x e = found_line size ys i x e

-- and back
pub record FoundIn (size : ℕ) (found : List ResolvedLine) (i : ℕ) (l : Line) : Type 0 where
  pub line : ResolvedLine
  pub is : line_of size line ≡ l
  pub here : slice_get (map item_in found) i ≡ Some line.item

pub line_found : (size : ℕ) (found : List ResolvedLine) (i : ℕ) (l : Line) → slice_get (map (line_of size) found) i ≡ Some l → FoundIn size found i l
line_found size [] i l e = cc
line_found size (y ∷ ys) zero l e = record { line = y; is = got (line_of size y) l e; here = refl } where
  got : {A : Type 0} → (a b : A) → Some a ≡ Some b → a ≡ b
  got a b e = cc
line_found size (y ∷ ys) (suc i) l e = let h = line_found size ys i l e in record { line = h.line; is = h.is; here = h.here }

pub within_found : (found : List ResolvedLine) (i : ℕ) (x : ResolvedLine) → slice_get found i ≡ Some x → i < length found
within_found [] i x e = cc
within_found (y ∷ ys) zero x e = omega arith
within_found (y ∷ ys) (suc i) x e = let h = within_found ys i x e in omega (arith, h)
