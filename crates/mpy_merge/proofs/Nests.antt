-- How deep codes nest.
use Rattle.std.proofs.Common.{◌≡◌, ℕ, zero, suc, ◌-◌, ◌+◌, ◌<◌, ◌≤◌, List, [], ◌∷◌, ◌++◌, length, get_or, take, All, Some, slice_get, refl, sym, ap, ap₂, subst, ◌∙◌, arith}
use Rattle.std.specs.List.{flat_map, AllZip, AllByRecursion}
use Rattle.std.proofs.lemmas.List.{take_more, take_all}
use Rattle.std.proofs.lemmas.List.Elements.{All-get_or, All-from_recursion, recursion_from_All}
use Rattle.mpy_base.specs.Vuint.{vuint}
use Rattle.mpy_writer.specs.mpy_tree.declared.raw.RawCode.{RawCode, out-RawCode}
use Rattle.mpy_writer.specs.mpy_tree.File.{header_of}
use Rattle.mpy_writer.specs.mpy_tree.Raw.{Module}
use Rattle.mpy_writer.specs.mpy_tree.Canonical.{has_some, children_bytes, code_bytes}
use Rattle.mpy_writer.proofs.mpy_tree_lemmas.Codes.{children}
use Rattle.mpy_writer.specs.declared.tables.Tables.{Tables}
use Rattle.mpy_merge.specs.Moved.{IsMovedTree}
use Rattle.mpy_merge.specs.Merged.{AreMoved, NestsWithin}

pub none_nests : (levels : ℕ) (code : RawCode) → levels ≡ 0 → NestsWithin levels code → ⊥
unfolding NestsWithin
none_nests zero code e h = h
none_nests (suc levels) code e h = cc

pub nests_by : (levels : ℕ) (code : RawCode) → 0 < levels → All (NestsWithin (levels - 1)) (children code) → NestsWithin levels code
unfolding NestsWithin
nests_by zero code some all = absurd (omega (arith, some))
nests_by (suc levels) code some all = let same : suc levels - 1 ≡ levels = omega arith in subst (λ (n : ℕ). All (NestsWithin n) (children code)) same all

pub nest_in : (levels : ℕ) (code : RawCode) → NestsWithin levels code → All (NestsWithin (levels - 1)) (children code)
unfolding NestsWithin
nest_in zero code h = absurd h
nest_in (suc levels) code h = let same : levels ≡ suc levels - 1 = omega arith in subst (λ (n : ℕ). All (NestsWithin n) (children code)) same h

pub all_taken : {A : Type 0} (P : A → Type 0) (xs : List A) (n : ℕ) → length xs ≤ n → All P (take n xs) → All P xs
all_taken P xs n le h = subst (All P) (take_all n xs le) h

pub taken_more : {A : Type 0} (P : A → Type 0) (xs : List A) (n : ℕ) (x : A) → n < length xs → x ≡ get_or xs n x → All P (take n xs) → P x → All P (take (n + 1) xs)
taken_more {A} P xs n x lt is h p =
    subst (All P) (sym (take_more xs n x lt ∙ ap (λ (z : A). take n xs ++ z ∷ []) (sym is)))
    (All-from_recursion P (take n xs ++ x ∷ []) (push (take n xs) (recursion_from_All P (take n xs) h))) where
      push : (ys : List A) → AllByRecursion P ys → AllByRecursion P (ys ++ x ∷ [])
      push [] all = (p, tt)
      push (y ∷ ys) all = (all.0, push ys all.1)

-- codes with their numbers moved nest as they did
-- ===============================================

zip_with : {A B : Type 0} (R S : A → B → Type 0) (P : A → Type 0) → ((x : A) (y : B) → R x y → P x → S x y) → (xs : List A) (ys : List B) → AllZip R xs ys → AllByRecursion P xs → AllZip S xs ys
zip_with R S P step [] [] h all = tt
zip_with R S P step [] (y ∷ ys) h all = absurd h
zip_with R S P step (x ∷ xs) [] h all = absurd h
zip_with R S P step (x ∷ xs) (y ∷ ys) h all = (step x y h.0 all.0, zip_with R S P step xs ys h.1 all.1)

left_of : {A B : Type 0} (R : A → B → Type 0) (P : A → Type 0) → ((x : A) (y : B) → R x y → P x) → (xs : List A) (ys : List B) → AllZip R xs ys → AllByRecursion P xs
left_of R P step [] [] h = tt
left_of R P step [] (y ∷ ys) h = absurd h
left_of R P step (x ∷ xs) [] h = absurd h
left_of R P step (x ∷ xs) (y ∷ ys) h = (step x y h.0, left_of R P step xs ys h.1)

module _ (tables : Tables) (base : ℕ) (m : Module) where
  pub lower_tree : (levels : ℕ) (raw moved : RawCode) → IsMovedTree (suc levels) tables base m raw moved → NestsWithin levels raw → IsMovedTree levels tables base m raw moved
  unfolding IsMovedTree NestsWithin
  lower_tree zero raw moved h n = absurd n
  lower_tree (suc levels) raw moved h n =
      (h.0, zip_with (IsMovedTree (suc levels) tables base m) (IsMovedTree levels tables base m) (NestsWithin levels) (lower_tree levels) (children raw) (children moved) h.1 (recursion_from_All (NestsWithin levels) (children raw) n))

  pub tree_nests : (levels : ℕ) (raw moved : RawCode) → IsMovedTree levels tables base m raw moved → NestsWithin levels raw
  unfolding IsMovedTree NestsWithin
  tree_nests zero raw moved h = absurd h
  tree_nests (suc levels) raw moved h = All-from_recursion (NestsWithin levels) (children raw) (left_of (IsMovedTree levels tables base m) (NestsWithin levels) (tree_nests levels) (children raw) (children moved) h.1)

  inside_same : (f g : RawCode → List ℕ) (R : RawCode → RawCode → Type 0) → ((r c : RawCode) → R r c → f c ≡ g c) → (rs cs : List RawCode) → AllZip R rs cs → flat_map f cs ≡ flat_map g cs
  inside_same f g R step [] [] h = refl
  inside_same f g R step [] (c ∷ cs) h = absurd h
  inside_same f g R step (r ∷ rs) [] h = absurd h
  inside_same f g R step (r ∷ rs) (c ∷ cs) h = ap₂ (λ (x y : List ℕ). x ++ y) (step r c h.0) (inside_same f g R step rs cs h.1)

  children_same : (f g : RawCode → List ℕ) (cs : List RawCode) → flat_map f cs ≡ flat_map g cs → children_bytes f cs ≡ children_bytes g cs
  children_same f g [] e = refl
  children_same f g (c ∷ cs) e = ap (λ (z : List ℕ). vuint (length (c ∷ cs)) ++ z) e

  pub bytes_same : (levels : ℕ) (raw moved : RawCode) → IsMovedTree levels tables base m raw moved → code_bytes (suc levels) moved ≡ code_bytes levels moved
  unfolding IsMovedTree code_bytes
  bytes_same zero raw moved h = absurd h
  bytes_same (suc levels) raw moved h =
      let own = (out-RawCode moved).bytes in
      let inside = children_same (code_bytes (suc levels)) (code_bytes levels) (children moved)
      (inside_same (code_bytes (suc levels)) (code_bytes levels) (IsMovedTree levels tables base m) (bytes_same levels) (children raw) (children moved) h.1) in
      ap (λ (z : List ℕ). vuint (header_of (length own) (has_some (children moved))) ++ (own ++ z)) inside

-- of several modules
pub lower_parts : (levels : ℕ) (tables : Tables) (base : ℕ) (ms : List Module) (parts : List RawCode) → AreMoved (suc levels) tables base ms parts → AllByRecursion (λ m. NestsWithin levels m.code) ms → AreMoved levels tables base ms parts
lower_parts levels tables base [] parts h n = h
lower_parts levels tables base (m ∷ ms) parts h n =
    (h.0, h.1, h.2, lower_tree tables base m levels m.code h.0 h.3 n.0, lower_parts levels tables (base + length m.objects) ms h.1 h.4 n.1)

pub parts_same : (levels : ℕ) (tables : Tables) (base : ℕ) (ms : List Module) (parts : List RawCode) → AreMoved levels tables base ms parts → flat_map (code_bytes (suc levels)) parts ≡ flat_map (code_bytes levels) parts
parts_same levels tables base [] parts h = ap (flat_map (code_bytes (suc levels))) h ∙ sym (ap (flat_map (code_bytes levels)) h)
parts_same levels tables base (m ∷ ms) parts h =
    ap (flat_map (code_bytes (suc levels))) h.2
    ∙ (ap₂ (λ (x y : List ℕ). x ++ y) (bytes_same tables base m levels m.code h.0 h.3) (parts_same levels tables (base + length m.objects) ms h.1 h.4)
    ∙ sym (ap (flat_map (code_bytes levels)) h.2))

pub parts_nest : (levels : ℕ) (tables : Tables) (base : ℕ) (ms : List Module) (parts : List RawCode) → AreMoved levels tables base ms parts → AllByRecursion (λ m. NestsWithin levels m.code) ms
parts_nest levels tables base [] parts h = tt
parts_nest levels tables base (m ∷ ms) parts h = (tree_nests tables base m levels m.code h.0 h.3, parts_nest levels tables (base + length m.objects) ms h.1 h.4)

-- a module among them
pub at_place : {A : Type 0} (P : A → Type 0) (xs : List A) (n : ℕ) (x : A) → AllByRecursion P xs → slice_get xs n ≡ Some x → P x
at_place P [] n x h e = absurd cc
at_place P (y ∷ ys) zero x h e = let same : y ≡ x = cc in subst P same h.0
at_place P (y ∷ ys) (suc n) x h e = at_place P ys n x h.1 e

pub nests_at : (levels : ℕ) (code : RawCode) (n : ℕ) (child : RawCode) → n < length (children code) → child ≡ get_or (children code) n child → NestsWithin levels code → NestsWithin (levels - 1) child
nests_at levels code n child lt is h = subst (NestsWithin (levels - 1)) (sym is) (All-get_or (NestsWithin (levels - 1)) (children code) n child lt (nest_in levels code h))
