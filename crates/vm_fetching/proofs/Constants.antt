-- The value of an object of a library is the machine's.
use Rattle.std.proofs.Common.{◌≡◌, ℕ, zero, suc, ◌+◌, ◌<◌, ◌≤◌, List, [], ◌∷◌, ◌++◌, length, drop, map, Option, Some, None, refl, sym, ap, ap₂, subst, ◌∙◌, append_assoc, arith}
use Rattle.std.specs.Prelude.{slice_get, option_and_then, IsSome, is_some}
use Rattle.std.specs.List.{flat_map}
use Rattle.std.proofs.lemmas.List.{append-nil}
use Rattle.frame_moves.specs.mpy_base.declared.limits.TheConstants.{MAX_DEPTH}
use Rattle.frame_moves.specs.mpy_base.Val.{Val, Vals, Then, Fixed}
use Rattle.frame_moves.specs.arena_heap.declared.value.Value.{Value}
use Rattle.frame_moves.specs.arena_heap.declared.value.StrNo.TheVariants as strs
use Rattle.frame_moves.specs.arena_objects.Iterables.{or_nothing}
use Rattle.bc_rows.specs.mpy_tree.declared.module.Constant.{Constant, out-Constant, roll-Constant, roll-out-Constant}
use Rattle.bc_rows.specs.mpy_tree.declared.module.Constant.TheOpen.{Constant-F}
use Rattle.bc_rows.specs.mpy_tree.declared.module.Constant.TheFolds.{fold-roll-Constant}
use Rattle.bc_rows.specs.mpy_tree.Raw.{Module}
use Rattle.bc_rows.specs.mpy_tree.File.{IsModule}
use Rattle.bc_rows.specs.mpy_tree.Values.{value_of, constant_step, tuple_value, vals_of}
use Rattle.bc_rows.specs.bc_library.Constants.{constants_of, items_in, bytes_in, preorder, numbered, value_by, values_from, constant_at, items_at, text_at, object_value}
use Rattle.bc_rows.specs.bc_library.Fine.{Each, Fine}
use Rattle.bc_rows.specs.bc_library.Shelf.{Shelf, module_at}
use Rattle.bc_rows.proofs.bc_library_lemmas.Files.{fine_objects}
use Rattle.bc_rows.proofs.bc_library_lemmas.Preorders.{below, leaf, opened}
use Rattle.bc_rows.proofs.bc_library_lemmas.Told.{told_items, value_at}
use Rattle.frame_moves.specs.prim_walks.Plain.{vals_from, fixed_of, plain_by, fixed_within, plain}

drop_further : (all front behind : List Constant) (p : ℕ) → drop p all ≡ front ++ behind → drop (p + length front) all ≡ behind
drop_further all [] behind p e = ap (λ n. drop n all) (omega arith) ∙ e
drop_further [] (x ∷ front) behind zero e = absurd cc
drop_further [] (x ∷ front) behind (suc p) e = absurd cc
drop_further (y ∷ all) (x ∷ front) behind zero e =
    let rest : all ≡ front ++ behind = cc in
    let next : 0 + length (x ∷ front) ≡ suc (length front) = omega arith in
    ap (λ n. drop n (y ∷ all)) next ∙ (ap (λ n. drop n all) (omega arith) ∙ drop_further all front behind 0 rest)
drop_further (y ∷ all) (x ∷ front) behind (suc p) e =
    let next : suc p + length (x ∷ front) ≡ suc (p + length (x ∷ front)) = omega arith in
    ap (λ n. drop n (y ∷ all)) next ∙ drop_further all (x ∷ front) behind p e

drop_head : (all behind : List Constant) (p : ℕ) (x : Constant) → drop p all ≡ x ∷ behind → slice_get all p ≡ Some x
drop_head [] behind zero x e = absurd cc
drop_head [] behind (suc p) x e = absurd cc
drop_head (y ∷ all) behind zero x e = let same : y ≡ x = cc in ap Some same
drop_head (y ∷ all) behind (suc p) x e = drop_head all behind p x e

-- tuples of values in both words
same_vals : (v : Val) (vs : List Val) → vals_from v vs ≡ vals_of v vs
same_vals v [] = refl
same_vals v (w ∷ vs) = ap (Then v) (same_vals w vs)

same_tuple : (vs : List Val) → fixed_of vs ≡ tuple_value vs
same_tuple [] = refl
same_tuple (v ∷ vs) = ap Fixed (same_vals v vs)

rolled : (x : Constant) (o : Constant-F Constant) → out-Constant x ≡ o → value_of x ≡ value_of (roll-Constant o)
rolled x o e = ap value_of (sym (roll-out-Constant x) ∙ ap roll-Constant e)

module _ (shelf : Shelf) (i : ℕ) (m : Module) (there : module_at shelf i ≡ Some m) where
  -- a value, where constant tuples have this depth
  abbrev P : ℕ → Value → Val
  P level v = plain_by (text_at shelf) (fixed_within (text_at shelf) (items_at shelf) level) v

  -- the object stands at the place
  abbrev Lies : ℕ → Constant → Type 0
  Lies place x = (behind : List Constant) × (drop place (constants_of m) ≡ preorder x ++ behind)

  abbrev IsPlainAt : ℕ → Type 0
  IsPlainAt level = (place : ℕ) (x : Constant) → Fine level x → Lies place x → P level (value_by (numbered i place) (out-Constant x)) ≡ value_of x

  constant_there : (place : ℕ) (x : Constant) (front : List Constant) → preorder x ≡ x ∷ front → Lies place x → constant_at shelf (numbered i place) ≡ Some x
  constant_there place x front e l =
      ap (option_and_then (λ (z : Module). slice_get (constants_of z) place)) there
      ∙ drop_head (constants_of m) (front ++ l.0) place x (l.1 ∙ ap (λ z. z ++ l.0) e)

  all_plain : (level : ℕ) → IsPlainAt level → (xs : List Constant) (n : ℕ) (behind : List Constant) → drop n (constants_of m) ≡ flat_map preorder xs ++ behind → Each (Fine level) xs
      → map (P level) (values_from i n xs) ≡ map value_of xs
  all_plain level h [] n behind at each = refl
  all_plain level h (x ∷ xs) n behind at each =
      let here = at ∙ append_assoc (preorder x) (flat_map preorder xs) behind in
      let further = drop_further (constants_of m) (preorder x) (flat_map preorder xs ++ behind) n here in
      ap₂ (λ v vs. v ∷ vs) (h n x (each 0 x refl) (flat_map preorder xs ++ behind, here))
      (all_plain level h xs (n + length (preorder x)) behind further (λ k y e. each (suc k) y e))

  -- by what the object is, where its items are so
  Items : ℕ → List Constant → ℕ → Type 0
  Items level items place = fixed_within (text_at shelf) (items_at shelf) level (numbered i place) ≡ tuple_value (map value_of items)

  by_layer : (level place : ℕ) (x : Constant) (o : Constant-F Constant) → out-Constant x ≡ o
      → ((text : List ℕ) → o ≡ Constant-F.Str text → text_at shelf (strs.Object (numbered i place)) ≡ Some text)
      → ((items : List Constant) → o ≡ Constant-F.Tuple items → Items level items place)
      → P level (value_by (numbered i place) o) ≡ value_of x
  unfolding Items
  by_layer level place x Constant-F.None e s t = sym (rolled x Constant-F.None e ∙ fold-roll-Constant Val constant_step Constant-F.None)
  by_layer level place x Constant-F.False e s t = sym (rolled x Constant-F.False e ∙ fold-roll-Constant Val constant_step Constant-F.False)
  by_layer level place x Constant-F.True e s t = sym (rolled x Constant-F.True e ∙ fold-roll-Constant Val constant_step Constant-F.True)
  by_layer level place x (Constant-F.Str text) e s t =
      ap (λ o. Rattle.frame_moves.specs.mpy_base.Val.Str (or_nothing o)) (s text refl) ∙ sym (rolled x (Constant-F.Str text) e ∙ fold-roll-Constant Val constant_step (Constant-F.Str text))
  by_layer level place x (Constant-F.Int z) e s t = sym (rolled x (Constant-F.Int z) e ∙ fold-roll-Constant Val constant_step (Constant-F.Int z))
  by_layer level place x (Constant-F.Tuple []) e s t = sym (rolled x (Constant-F.Tuple []) e ∙ fold-roll-Constant Val constant_step (Constant-F.Tuple []))
  by_layer level place x (Constant-F.Tuple (y ∷ ys)) e s t = t (y ∷ ys) refl ∙ sym (rolled x (Constant-F.Tuple (y ∷ ys)) e ∙ fold-roll-Constant Val constant_step (Constant-F.Tuple (y ∷ ys)))

  str_there : (place : ℕ) (x : Constant) (text : List ℕ) → out-Constant x ≡ Constant-F.Str text → Lies place x → text_at shelf (strs.Object (numbered i place)) ≡ Some text
  str_there place x text e l =
      ap (option_and_then (λ object. bytes_in (out-Constant object))) (constant_there place x [] (leaf x (ap items_in e)) l) ∙ ap bytes_in e

  tuple_there : (level place : ℕ) (x : Constant) (items : List Constant) → IsPlainAt level → suc level ≤ MAX_DEPTH → Fine (suc level) x → out-Constant x ≡ Constant-F.Tuple items → Lies place x → Items (suc level) items place
  unfolding Items fixed_within
  tuple_there level place x items h le fine e l =
      let some = ap items_in e in
      let inner = opened (suc level) x items le fine some in
      let at = constant_there place x (flat_map preorder items) inner l in
      let b = below (suc level) x items fine some in
      let same : b.levels ≡ level = omega (arith, b.levels_are) in
      let each = subst (λ n. Each (Fine n) items) same b.few.each in
      let inside = drop_further (constants_of m) (x ∷ []) (flat_map preorder items ++ l.0) place (l.1 ∙ ap (λ z. z ++ l.0) inner) in
      ap (λ o. fixed_of (map (P level) (or_nothing o))) (told_items shelf (numbered i place) x items at some)
      ∙ (ap fixed_of (all_plain level h items (place + 1) l.0 inside each) ∙ same_tuple (map value_of items))

  plain_to : (level : ℕ) → level ≤ MAX_DEPTH → IsPlainAt level
  plain_to zero le place x fine l =
      by_layer 0 place x (out-Constant x) refl (λ text e. str_there place x text e l)
      (λ items e. absurd (let b = below 0 x items fine (ap items_in e) in let no : 0 ≡ suc b.levels = b.levels_are in cc))
  plain_to (suc level) le place x fine l =
      by_layer (suc level) place x (out-Constant x) refl (λ text e. str_there place x text e l)
      (λ items e. tuple_there level place x items (plain_to level (omega (arith, le))) le fine e l)

  pub plain_object : (n : ℕ) (x : Constant) (v : Value) → IsModule m → slice_get m.objects n ≡ Some x → object_value shelf i n ≡ Some v → plain (text_at shelf) (items_at shelf) v ≡ value_of x
  plain_object n x v is at e =
      let found : slice_get (values_from i 0 m.objects) n ≡ Some v = sym (ap (option_and_then (λ (z : Module). slice_get (values_from i 0 z.objects) n)) there) ∙ e in
      let w = value_at i (constants_of m) m.objects 0 [] (sym (append-nil (constants_of m))) n v found in
      let both : Some w.x ≡ Some x = sym w.is ∙ at in
      let same : w.x ≡ x = cc in
      ap (P MAX_DEPTH) w.value ∙ (plain_to MAX_DEPTH (omega arith) w.place w.x (fine_objects m is n w.x w.is) (w.behind, w.at) ∙ ap value_of same)

values-length : (i n : ℕ) (xs : List Constant) → length (values_from i n xs) ≡ length xs
values-length i n [] = refl
values-length i n (x ∷ xs) = ap suc (values-length i (n + length (preorder x)) xs)

some_there : {A : Type 0} (xs : List A) (n : ℕ) → n < length xs → is_some (slice_get xs n) ≡ Rattle.std.proofs.Common.true
some_there [] n lt = absurd (omega (arith, lt))
some_there (x ∷ xs) zero lt = refl
some_there (x ∷ xs) (suc n) lt = some_there xs n (omega (arith, lt))

pub object_there : (shelf : Shelf) (i : ℕ) (m : Module) (n : ℕ) → module_at shelf i ≡ Some m → n < length m.objects → IsSome (object_value shelf i n)
object_there shelf i m n there lt =
    ap (λ o. is_some (option_and_then (λ (z : Module). slice_get (values_from i 0 z.objects) n) o)) there
    ∙ some_there (values_from i 0 m.objects) n (let k = values-length i 0 m.objects in omega (arith, k, lt))

pub at_index : {A : Type 0} (xs : List A) (n : ℕ) → n < length xs → (x : A) × (slice_get xs n ≡ Some x)
at_index [] n lt = absurd (omega (arith, lt))
at_index (x ∷ xs) zero lt = (x, refl)
at_index (x ∷ xs) (suc n) lt = at_index xs n (omega (arith, lt))
