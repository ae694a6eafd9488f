-- Modules have one merged file at most, or one first fault.
use Rattle.std.proofs.Common.{◌≡◌, ◌⊎◌, ℕ, zero, suc, ◌+◌, ◌<◌, ◌≤◌, List, [], ◌∷◌, length, take, Some, slice_get, Result, Ok, Err, refl, sym, ap, ap₂, subst, ◌∙◌, inl, inr, arith, length-append}
use Rattle.std.proofs.lemmas.Bool.{cases_order}
use Rattle.mpy_base.specs.declared.refused.Refused.{Refused}
use Rattle.mpy_base.specs.declared.refused.Refused.TheVariants as refusals
use Rattle.mpy_base.specs.declared.limits.TheConstants.{MAX_TABLE}
use Rattle.mpy_writer.specs.qstr_pool.Pool.{Texts}
use Rattle.mpy_writer.specs.mpy_tree.declared.raw.RawCode.{RawCode}
use Rattle.mpy_writer.specs.mpy_tree.Raw.{Module}
use Rattle.mpy_writer.specs.mpy_tree.Canonical.{file_bytes}
use Rattle.mpy_writer.specs.declared.tables.Tables.{Tables}
use Rattle.mpy_writer.specs.File.{IsOwn}
use Rattle.mpy_writer.specs.Tables.{IsTable, TablesFit}
use Rattle.mpy_writer.proofs.Faults.{same_own}
use Rattle.mpy_writer.proofs.Uses.{one_table}
use Rattle.mpy_merge.specs.Far.{HasFarCode}
use Rattle.mpy_merge.specs.Moved.{IsMovedTree}
use Rattle.mpy_merge.specs.declared.fault.MergeFault.{MergeFault}
use Rattle.mpy_merge.specs.declared.fault.MergeFault.TheVariants.{Empty, TooManyNames, TooMany, TooFar, TooBig}
use Rattle.mpy_merge.specs.Merged.{AreTables, texts_used, all_objects, outer_code, AreMoved, NestsWithin, IsMerged, merged_module}
use Rattle.mpy_merge.specs.Faults.{IsFarAt, IsFirstFarIn, IsFirstFar, HasManyNames, IsDeep, FirstFault}
use Rattle.mpy_merge.specs.Ends.{IsMergedFile, Ends}
use Rattle.mpy_merge.proofs.Nests.{parts_nest, at_place}
use Rattle.mpy_merge.proofs.Once.{one_tree, near_tree}

-- one of each
-- ===========

same_table : (used : List (List ℕ)) (a b : Texts) → IsTable used a → IsTable used b → a ≡ b
same_table used a b h k = ap₂ (λ (n : ℕ) (ts : List (List ℕ)). record { first = n; texts = ts }) (h.first ∙ sym k.first) (one_table [] used a.texts b.texts h.texts k.texts)

pub same_tables : (modules : List Module) (a b : Tables) → AreTables modules a → AreTables modules b → a ≡ b
same_tables modules a b h k = ap₂ (λ (t o : Texts). record { texts = t; objects = o }) (same_table (texts_used modules) a.texts b.texts h.texts k.texts) (h.objects ∙ sym k.objects)

same_parts : (levels : ℕ) (tables : Tables) (base : ℕ) (ms : List Module) (a b : List RawCode) → AreMoved levels tables base ms a → AreMoved levels tables base ms b → a ≡ b
same_parts levels tables base [] a b h k = h ∙ sym k
same_parts levels tables base (m ∷ ms) a b h k =
    h.2 ∙ (ap₂ (λ (p : RawCode) (ps : List RawCode). p ∷ ps) (one_tree tables base m levels m.code h.0 k.0 h.3 k.3) (same_parts levels tables (base + length m.objects) ms h.1 k.1 h.4 k.4) ∙ sym k.2)

pub count_parts : (levels : ℕ) (tables : Tables) (base : ℕ) (ms : List Module) (parts : List RawCode) → AreMoved levels tables base ms parts → length parts ≡ length ms
count_parts levels tables base [] parts h = ap length h
count_parts levels tables base (m ∷ ms) parts h = ap length h.2 ∙ ap suc (count_parts levels tables (base + length m.objects) ms h.1 h.4)

abbrev bytes_with : List Module → Tables → List ℕ → List RawCode → List ℕ
bytes_with modules tables own parts = file_bytes (merged_module tables (all_objects modules) own parts)

pub same_bytes : (modules : List Module) (a b : List ℕ) → IsMerged modules a → IsMerged modules b → a ≡ b
same_bytes modules a b h k =
    let tables = same_tables modules h.tables k.tables h.are_tables k.are_tables in
    let own = same_own k.tables (outer_code (length modules)) h.own k.own (subst (λ (t : Tables). IsOwn t (outer_code (length modules)) h.own) tables h.is_own) k.is_own in
    let parts = same_parts 31 k.tables 0 modules h.parts k.parts (subst (λ (t : Tables). AreMoved 31 t 0 modules h.parts) tables h.are_moved) k.are_moved in
    h.bytes_are ∙ (ap (λ (t : Tables). bytes_with modules t h.own h.parts) tables ∙ (ap₂ (bytes_with modules k.tables) own parts ∙ sym k.bytes_are))

-- which faults there are not
-- ==========================

pub not_many : (modules : List Module) (tables : Tables) → AreTables modules tables → TablesFit tables → length (all_objects modules) ≤ MAX_TABLE → HasManyNames modules → ⊥
not_many modules tables are fit few many =
    let same = same_tables modules many.tables tables many.are_tables are in
    let few_texts = fit.texts.few in
    elim many.many [
      | inl past ↦ omega (arith, past, few_texts, ap (λ (t : Tables). length t.texts.texts) same)
      | inr past ↦ omega (arith, past, few)
    ]

near_from : (levels : ℕ) (tables : Tables) (base : ℕ) (ms : List Module) (parts : List RawCode) (n : ℕ) (m : Module) → AreMoved levels tables base ms parts → slice_get ms n ≡ Some m → HasFarCode tables (base + length (all_objects (take n ms))) m m.code → ⊥
near_from levels tables base [] parts n m are e far = absurd cc
near_from levels tables base (x ∷ ms) parts zero m are e far =
    let same : x ≡ m = cc in
    let none : base + 0 ≡ base = omega arith in
    near_tree tables base m levels m.code are.0 (subst (λ (y : Module). IsMovedTree levels tables base y y.code are.0) same are.3) (subst (λ (k : ℕ). HasFarCode tables k m m.code) none far)
near_from levels tables base (x ∷ ms) parts (suc n) m are e far =
    let front : base + length (all_objects (take (suc n) (x ∷ ms))) ≡ base + length x.objects + length (all_objects (take n ms)) = omega (arith, length-append x.objects (all_objects (take n ms))) in
    near_from levels tables (base + length x.objects) ms are.1 n m are.4 e (subst (λ (k : ℕ). HasFarCode tables k m m.code) front far)

pub not_far : (levels : ℕ) (modules : List Module) (tables : Tables) (parts : List RawCode) → AreTables modules tables → AreMoved levels tables 0 modules parts → (place : ℕ) → IsFirstFar modules place → ⊥
not_far levels modules tables parts are moved place far =
    let same = same_tables modules far.tables tables far.are_tables are in
    let at = subst (λ (t : Tables). IsFarAt t modules place) same far.first.far in
    let none : length (all_objects (take place modules)) ≡ 0 + length (all_objects (take place modules)) = omega arith in
    near_from levels tables 0 modules parts place at.m moved at.is (subst (λ (k : ℕ). HasFarCode tables k at.m at.m.code) none at.far)

same_place : (modules : List Module) (p q : ℕ) → IsFirstFar modules p → IsFirstFar modules q → p ≡ q
same_place modules p q h k =
    let same = same_tables modules h.tables k.tables h.are_tables k.are_tables in
    let first = subst (λ (t : Tables). IsFirstFarIn t modules p) same h.first in
    elim (cases_order p q) [
      | inl e ↦ e
      | inr (inl lt) ↦ absurd (k.first.before p lt first.far)
      | inr (inr lt) ↦ absurd (first.before q lt k.first.far)
    ]

not_deep : (modules : List Module) (tables : Tables) (parts : List RawCode) → AreMoved 31 tables 0 modules parts → IsDeep modules → ⊥
not_deep modules tables parts moved deep = deep.deep (at_place (λ m. NestsWithin 31 m.code) modules deep.place deep.m (parts_nest 31 tables 0 modules parts moved) deep.is)

-- one fault, and never a file
-- ===========================

none_of : (modules : List Module) → 0 < length modules → modules ≡ [] → ⊥
none_of modules some e = let none = ap length e in omega (arith, some, none)

pub one_fault : (modules : List Module) (f g : MergeFault) → FirstFault modules f → FirstFault modules g → f ≡ g
one_fault modules Empty Empty h k = refl
one_fault modules Empty TooMany h k = absurd (omega (arith, ap length h, k))
one_fault modules Empty TooManyNames h k = absurd (none_of modules k.0 h)
one_fault modules Empty (TooFar q) h k = absurd (none_of modules k.0 h)
one_fault modules Empty TooBig h k = absurd (none_of modules k.0 h)
one_fault modules TooMany Empty h k = absurd (omega (arith, ap length k, h))
one_fault modules TooMany TooMany h k = refl
one_fault modules TooMany TooManyNames h k = let few = k.1 in absurd (omega (arith, h, few))
one_fault modules TooMany (TooFar q) h k = let few = k.1 in absurd (omega (arith, h, few))
one_fault modules TooMany TooBig h k = let few = k.1 in absurd (omega (arith, h, few))
one_fault modules TooManyNames Empty h k = absurd (none_of modules h.0 k)
one_fault modules TooManyNames TooMany h k = let few = h.1 in absurd (omega (arith, k, few))
one_fault modules TooManyNames TooManyNames h k = refl
one_fault modules TooManyNames (TooFar q) h k = absurd (k.2 h.2)
one_fault modules TooManyNames TooBig h k = absurd (k.2 h.2)
one_fault modules (TooFar p) Empty h k = absurd (none_of modules h.0 k)
one_fault modules (TooFar p) TooMany h k = let few = h.1 in absurd (omega (arith, k, few))
one_fault modules (TooFar p) TooManyNames h k = absurd (h.2 k.2)
one_fault modules (TooFar p) (TooFar q) h k = ap TooFar (same_place modules p q h.3 k.3)
one_fault modules (TooFar p) TooBig h k = absurd (k.3 p h.3)
one_fault modules TooBig Empty h k = absurd (none_of modules h.0 k)
one_fault modules TooBig TooMany h k = let few = h.1 in absurd (omega (arith, k, few))
one_fault modules TooBig TooManyNames h k = absurd (h.2 k.2)
one_fault modules TooBig (TooFar q) h k = absurd (h.3 q k.3)
one_fault modules TooBig TooBig h k = refl

pub never : (modules : List Module) (bytes : List ℕ) (f : MergeFault) → IsMergedFile modules bytes → FirstFault modules f → ⊥
never modules bytes Empty file h = none_of modules file.some h
never modules bytes TooMany file h = let few = file.few in omega (arith, h, few)
never modules bytes TooManyNames file h = not_many modules file.merged.tables file.merged.are_tables file.fit file.few_objects h.2
never modules bytes (TooFar place) file h = not_far 31 modules file.merged.tables file.merged.parts file.merged.are_tables file.merged.are_moved place h.3
never modules bytes TooBig file h =
    elim h.4 [
      | inl deep ↦ not_deep modules file.merged.tables file.merged.parts file.merged.are_moved deep
      | inr long ↦
          let same = same_bytes modules long.bytes bytes long.merged file.merged in
          let past = long.long in
          let short = file.short in
          omega (arith, past, short, ap length same)
    ]

-- so a call that ends as it should answers each first fault
pub answered : {A : Type 0} (modules : List Module) (bytes_of : A → List ℕ) (r : Result A (Refused MergeFault)) → Ends modules bytes_of r → (f : MergeFault) → FirstFault modules f → (r ≡ Err (refusals.Fault f)) ⊎ (r ≡ Err refusals.NoMemory)
answered modules bytes_of (Ok x) ends f h = absurd (never modules (bytes_of x) f ends h)
answered modules bytes_of (Err refusals.NoMemory) ends f h = inr refl
answered {A} modules bytes_of (Err (refusals.Fault g)) ends f h =
    let failed = λ (z : MergeFault). let r : Result A (Refused MergeFault) = Err (refusals.Fault z) in r in
    inl (ap failed (one_fault modules g f ends h))
