-- The objects of the modules, as loops go over them.
use Rattle.std.proofs.Common.{◌≡◌, ℕ, zero, suc, ◌+◌, ◌<◌, ◌≤◌, List, [], ◌∷◌, ◌++◌, length, get_or, take, drop, All, sym, ap, subst, ◌∙◌, append_assoc, arith, length-append}
use Rattle.std.specs.List.{flat_map, AllByRecursion}
use Rattle.std.proofs.lemmas.List.{append-nil, at_drop_more, take_all}
use Rattle.std.proofs.lemmas.List.Concat.{flat_map-append}
use Rattle.std.proofs.lemmas.List.Elements.{All-from_recursion, recursion_from_All}
use Rattle.mpy_writer.specs.mpy_tree.declared.module.Constant.{Constant}
use Rattle.mpy_writer.specs.mpy_tree.Raw.{Module}
use Rattle.mpy_writer.specs.Tables.{spelled}
use Rattle.mpy_writer.proofs.Lists.{together, parted}
use Rattle.mpy_merge.specs.Merged.{all_objects}
use Rattle.mpy_merge.proofs.Parts.{taken_one}

objects_taken : (modules : List Module) (n : ℕ) (m : Module) → n < length modules → m ≡ get_or modules n m → all_objects (take (n + 1) modules) ≡ all_objects (take n modules) ++ m.objects
objects_taken modules n m lt is =
    ap (λ z. all_objects z) (taken_one modules n m lt is)
    ∙ (flat_map-append (λ (x : Module). x.objects) (take n modules) (m ∷ []) ∙ ap (λ (z : List Constant). all_objects (take n modules) ++ z) (append-nil m.objects))

-- what holds of each of them
pub objects_hold : (P : Constant → Type 0) (modules : List Module) (n : ℕ) (m : Module) → n < length modules → m ≡ get_or modules n m → All P (all_objects (take n modules)) → All P m.objects → All P (all_objects (take (n + 1) modules))
objects_hold P modules n m lt is all here =
    subst (All P) (sym (objects_taken modules n m lt is))
    (All-from_recursion P (all_objects (take n modules) ++ m.objects) (together P (all_objects (take n modules)) m.objects (recursion_from_All P (all_objects (take n modules)) all) (recursion_from_All P m.objects here)))

pub objects_all : (P : Constant → Type 0) (modules : List Module) (n : ℕ) → length modules ≤ n → All P (all_objects (take n modules)) → All P (all_objects modules)
objects_all P modules n le all = subst (λ z. All P (all_objects z)) (take_all n modules le) all

-- how many bytes
pub objects_long : (modules : List Module) (n : ℕ) (m : Module) → n < length modules → m ≡ get_or modules n m → length (flat_map spelled m.objects) ≤ length (flat_map spelled (all_objects modules))
objects_long [] n m lt is = absurd (omega (arith, lt))
objects_long (x ∷ xs) zero m lt is =
    let same = ap (λ (z : Module). length (flat_map spelled z.objects)) is in
    omega (arith, same, ap length (flat_map-append spelled x.objects (all_objects xs)), length-append (flat_map spelled x.objects) (flat_map spelled (all_objects xs)))
objects_long (x ∷ xs) (suc n) m lt is =
    let rest = objects_long xs n m (omega (arith, lt)) is in
    omega (arith, rest, ap length (flat_map-append spelled x.objects (all_objects xs)), length-append (flat_map spelled x.objects) (flat_map spelled (all_objects xs)))

-- what is left to write
abbrev written_of : List Module → List ℕ
written_of modules = flat_map spelled (all_objects modules)

pub objects_next : (modules : List Module) (n : ℕ) (m : Module) (out next whole : List ℕ) → n < length modules → m ≡ get_or modules n m → next ≡ out ++ flat_map spelled m.objects → out ++ flat_map spelled (all_objects (drop n modules)) ≡ whole
    → next ++ flat_map spelled (all_objects (drop (n + 1) modules)) ≡ whole
objects_next modules n m out next whole lt is e so_far =
    let rest = drop (n + 1) modules in
    ap (λ (z : List ℕ). z ++ written_of rest) e
    ∙ (append_assoc out (flat_map spelled m.objects) (written_of rest)
    ∙ (ap (λ (z : List ℕ). out ++ z) (sym (at_drop_more written_of modules n m lt ∙ (ap (λ (x : Module). written_of (x ∷ rest)) (sym is) ∙ flat_map-append spelled m.objects (all_objects rest)))) ∙ so_far))

pub objects_in : (P : Constant → Type 0) (modules : List Module) (n : ℕ) (m : Module) → n < length modules → m ≡ get_or modules n m → All P (all_objects modules) → All P m.objects
objects_in P modules n m lt is all = All-from_recursion P m.objects (by modules n lt is (recursion_from_All P (all_objects modules) all)) where
  by : (modules : List Module) (n : ℕ) → n < length modules → m ≡ get_or modules n m → AllByRecursion P (all_objects modules) → AllByRecursion P m.objects
  by [] n lt is all = absurd (omega (arith, lt))
  by (x ∷ xs) zero lt is all = subst (λ (z : Module). AllByRecursion P z.objects) (sym is) (parted P x.objects (all_objects xs) all).0
  by (x ∷ xs) (suc n) lt is all = by xs n (omega (arith, lt)) is (parted P x.objects (all_objects xs) all).1
