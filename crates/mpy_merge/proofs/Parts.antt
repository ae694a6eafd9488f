-- The codes of the modules, one after another.
use Rattle.std.proofs.Common.{◌≡◌, ℕ, zero, suc, ◌+◌, ◌<◌, ◌≤◌, List, [], ◌∷◌, ◌++◌, length, get_or, take, Some, refl, sym, ap, subst, ◌∙◌, append_assoc, arith, length-append, below_more}
use Rattle.std.specs.List.{flat_map}
use Rattle.std.proofs.lemmas.List.{append-nil, take_more, take_all}
use Rattle.std.proofs.lemmas.List.Concat.{flat_map-append}
use Rattle.mpy_base.specs.declared.limits.TheConstants.{MAX_TABLE}
use Rattle.mpy_writer.specs.mpy_tree.declared.module.Constant.{Constant}
use Rattle.mpy_writer.specs.mpy_tree.declared.raw.RawCode.{RawCode}
use Rattle.mpy_writer.specs.mpy_tree.Raw.{Module}
use Rattle.mpy_writer.specs.mpy_tree.Canonical.{code_bytes}
use Rattle.mpy_writer.specs.declared.tables.Tables.{Tables}
use Rattle.mpy_merge.specs.Far.{HasFarCode}
use Rattle.mpy_merge.specs.Moved.{IsMovedTree}
use Rattle.mpy_writer.proofs.mpy_tree_lemmas.Codes.{get_at}
use Rattle.mpy_merge.specs.Faults.{IsFarAt, IsFirstFarIn}
use Rattle.mpy_merge.specs.Merged.{all_objects, AreMoved}
use Rattle.mpy_merge.proofs.Once.{near_tree}

-- the objects in front of a module
-- ================================

pub taken_one : (modules : List Module) (n : ℕ) (m : Module) → n < length modules → m ≡ get_or modules n m → take (n + 1) modules ≡ take n modules ++ m ∷ []
taken_one modules n m lt is = take_more modules n m lt ∙ ap (λ (z : Module). take n modules ++ z ∷ []) (sym is)

pub objects_more : (modules : List Module) (n : ℕ) (m : Module) → n < length modules → m ≡ get_or modules n m → length (all_objects (take (n + 1) modules)) ≡ length (all_objects (take n modules)) + length m.objects
objects_more modules n m lt is =
    let parts = flat_map-append (λ (x : Module). x.objects) (take n modules) (m ∷ []) in
    ap (λ z. length (all_objects z)) (taken_one modules n m lt is)
    ∙ (ap length parts ∙ (length-append (all_objects (take n modules)) (m.objects ++ []) ∙ ap (λ (z : List Constant). length (all_objects (take n modules)) + length z) (append-nil m.objects)))

pub front_few : (modules : List Module) (n : ℕ) → length (all_objects (take n modules)) ≤ length (all_objects modules)
front_few [] zero = omega arith
front_few [] (suc n) = omega arith
front_few (m ∷ ms) zero = omega arith
front_few (m ∷ ms) (suc n) = omega (arith, front_few ms n, length-append m.objects (all_objects (take n ms)), length-append m.objects (all_objects ms))

pub few_more : (modules : List Module) (n : ℕ) (m : Module) (objects : List Constant) (count : ℕ) → n < length modules → m ≡ get_or modules n m → objects ≡ m.objects → count ≡ length (all_objects (take n modules)) → length (all_objects modules) ≤ MAX_TABLE
    → count + length objects ≤ MAX_TABLE
few_more modules n m objects count lt is same so_far few = omega (arith, objects_more modules n m lt is, front_few modules (n + 1), ap length same, so_far, few)

-- what is written
-- ===============

push_part : (levels : ℕ) (tables : Tables) (base : ℕ) (ms : List Module) (parts : List RawCode) (m : Module) (part : RawCode) → AreMoved levels tables base ms parts → IsMovedTree levels tables (base + length (all_objects ms)) m m.code part
    → AreMoved levels tables base (ms ++ m ∷ []) (parts ++ part ∷ [])
push_part levels tables base [] parts m part are tree =
    let none : base + 0 ≡ base = omega arith in
    (part, [], ap (λ (z : List RawCode). z ++ part ∷ []) are, subst (λ (k : ℕ). IsMovedTree levels tables k m m.code part) none tree, refl)
push_part levels tables base (x ∷ ms) parts m part are tree =
    let front : base + length (all_objects (x ∷ ms)) ≡ base + length x.objects + length (all_objects ms) = omega (arith, length-append x.objects (all_objects ms)) in (
      are.0,
      are.1 ++ part ∷ [],
      ap (λ (z : List RawCode). z ++ part ∷ []) are.2,
      are.3,
      push_part levels tables (base + length x.objects) ms are.1 m part are.4 (subst (λ (k : ℕ). IsMovedTree levels tables k m m.code part) front tree),
    )

pub record Written (levels : ℕ) (tables : Tables) (modules : List Module) (n : ℕ) (start now : List ℕ) : Type 0 where
  pub parts : List RawCode
  pub are : AreMoved levels tables 0 (take n modules) parts
  pub bytes_are : now ≡ start ++ flat_map (code_bytes levels) parts
  pub near : (earlier : ℕ) → earlier < n → IsFarAt tables modules earlier → ⊥

pub written_none : (levels : ℕ) (tables : Tables) (modules : List Module) (start : List ℕ) → Written levels tables modules 0 start start
written_none levels tables modules start =
    record { parts = []; are = none modules; bytes_are = sym (append-nil start); near = λ earlier lt far. omega (arith, lt) } where
      none : (ms : List Module) → AreMoved levels tables 0 (take 0 ms) []
      none [] = refl
      none (m ∷ ms) = refl

abbrev pub AddsOne : ℕ → Tables → ℕ → Module → List ℕ → List ℕ → Type 0
AddsOne levels tables base m now next = (moved : RawCode) × IsMovedTree levels tables base m m.code moved × (next ≡ now ++ code_bytes levels moved)

near_here : (levels : ℕ) (tables : Tables) (modules : List Module) (n : ℕ) (m : Module) (moved : RawCode) → n < length modules → m ≡ get_or modules n m → IsMovedTree levels tables (length (all_objects (take n modules))) m m.code moved → IsFarAt tables modules n → ⊥
near_here levels tables modules n m moved lt is tree far =
    let there : Some far.m ≡ Some m = sym far.is ∙ get_at modules n m lt is in
    let same : far.m ≡ m = cc in
    near_tree tables (length (all_objects (take n modules))) m levels m.code moved tree (subst (λ (x : Module). HasFarCode tables (length (all_objects (take n modules))) x x.code) same far.far)

pub written_more : (levels : ℕ) (tables : Tables) (modules : List Module) (n base : ℕ) (m : Module) (start now next : List ℕ) → n < length modules → m ≡ get_or modules n m → base ≡ length (all_objects (take n modules))
    → Written levels tables modules n start now → AddsOne levels tables base m now next → Written levels tables modules (n + 1) start next
written_more levels tables modules n base m start now next lt is front w one =
    let tree : IsMovedTree levels tables (length (all_objects (take n modules))) m m.code one.0 = subst (λ (k : ℕ). IsMovedTree levels tables k m m.code one.0) front one.1 in
    let none : length (all_objects (take n modules)) ≡ 0 + length (all_objects (take n modules)) = omega arith in
    record {
      parts = w.parts ++ one.0 ∷ [];
      are = subst (λ (z : List Module). AreMoved levels tables 0 z (w.parts ++ one.0 ∷ [])) (sym (taken_one modules n m lt is)) (push_part levels tables 0 (take n modules) w.parts m one.0 w.are (subst (λ (k : ℕ). IsMovedTree levels tables k m m.code one.0) none tree));
      bytes_are = one.2 ∙ (ap (λ (z : List ℕ). z ++ code_bytes levels one.0) w.bytes_are
          ∙ (append_assoc start (flat_map (code_bytes levels) w.parts) (code_bytes levels one.0)
          ∙ ap (λ (z : List ℕ). start ++ z) (ap (λ (z : List ℕ). flat_map (code_bytes levels) w.parts ++ z) (sym (append-nil (code_bytes levels one.0))) ∙ sym (flat_map-append (code_bytes levels) w.parts (one.0 ∷ [])))));
      near = below_more (λ (k : ℕ). IsFarAt tables modules k → ⊥) n w.near (near_here levels tables modules n m one.0 lt is tree);
    }

pub first_far : (levels : ℕ) (tables : Tables) (modules : List Module) (n base : ℕ) (m : Module) (start now : List ℕ) → n < length modules → m ≡ get_or modules n m → base ≡ length (all_objects (take n modules))
    → Written levels tables modules n start now → HasFarCode tables base m m.code → IsFirstFarIn tables modules n
first_far levels tables modules n base m start now lt is front w far =
    record { far = record { m = m; is = get_at modules n m lt is; far = subst (λ (k : ℕ). HasFarCode tables k m m.code) front far }; before = w.near }

-- all of them
pub written_all : (levels : ℕ) (tables : Tables) (modules : List Module) (n : ℕ) (start now : List ℕ) → length modules ≤ n → Written levels tables modules n start now
    → (parts : List RawCode) × AreMoved levels tables 0 modules parts × (now ≡ start ++ flat_map (code_bytes levels) parts)
written_all levels tables modules n start now le w = (w.parts, subst (λ (z : List Module). AreMoved levels tables 0 z w.parts) (take_all n modules le) w.are, w.bytes_are)
