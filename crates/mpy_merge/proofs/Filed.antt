-- The merged file from its parts, and the faults on the way to it.
use Rattle.std.proofs.Common.{◌≡◌, ℕ, ◌+◌, ◌<◌, ◌≤◌, List, ◌∷◌, ◌++◌, length, map, All, Result, Err, refl, sym, ap, ap₂, subst, ◌∙◌, inl, inr, append_assoc, arith, length-append}
use Rattle.std.specs.List.{flat_map}
use Rattle.std.proofs.lemmas.List.{length-map}
use Rattle.std.proofs.lemmas.List.Elements.{recursion_from_All}
use Rattle.mpy_base.specs.Vuint.{vuint}
use Rattle.mpy_base.specs.declared.refused.Refused.{Refused}
use Rattle.mpy_base.specs.declared.refused.Refused.TheVariants as refusals
use Rattle.mpy_base.specs.declared.limits.TheConstants.{MAX_TABLE, MAX_DEPTH, MAX_FILE_BYTES}
use Rattle.mpy_writer.specs.mpy_tree.declared.raw.RawCode.{roll-RawCode}
use Rattle.mpy_writer.specs.mpy_tree.Raw.{Module}
use Rattle.mpy_writer.specs.mpy_tree.Canonical.{qstr_bytes, code_bytes, file_bytes}
use Rattle.mpy_writer.specs.declared.tables.Tables.{Tables}
use Rattle.mpy_writer.specs.File.{qstr_of}
use Rattle.mpy_writer.specs.Tables.{TablesFit, spelled}
use Rattle.mpy_writer.specs.Writable.{IsFine}
use Rattle.mpy_merge.specs.Heads.{head_of}
use Rattle.mpy_merge.proofs.Trees.{head_is}
use Rattle.mpy_merge.specs.declared.fault.MergeFault.{MergeFault}
use Rattle.mpy_merge.specs.declared.fault.MergeFault.TheVariants.{TooManyNames, TooFar, TooBig}
use Rattle.mpy_merge.specs.declared.fault.TheConstants.{MAX_PARTS}
use Rattle.mpy_merge.specs.Ends.{FaultIs, IfFault, IsMergedFile, Ends}
use Rattle.mpy_merge.specs.Faults.{IsFirstFarIn, HasManyNames, IsDeep, FirstFault}
use Rattle.mpy_merge.specs.Merged.{AreTables, all_objects, AreMoved, NestsWithin, merged_module, IsMerged}
use Rattle.mpy_merge.specs.Written.{front_of, AreCodes}
use Rattle.mpy_merge.proofs.Ended.{not_many, not_far, count_parts}
use Rattle.mpy_merge.proofs.Nests.{lower_parts, parts_same}

-- how calls end, one after another
-- ================================

-- a fault of which more is known
pub failed : (P Q : MergeFault → Type 0) (e : Refused MergeFault) → FaultIs e P → ((f : MergeFault) → P f → Q f) → FaultIs e Q
failed P Q (refusals.Fault fault) h more = more fault h
failed P Q refusals.NoMemory h more = tt

-- the exit of a call that has a fault
pub exit : {X : Type 0} (P Q : MergeFault → Type 0) (r : Result X (Refused MergeFault)) (y e : Refused MergeFault) → r ≡ Err y → y ≡ e → FaultIs e P → ((f : MergeFault) → P f → Q f) → IfFault r Q
exit {X} P Q r y e is same h more =
    let made : Result X (Refused MergeFault) = Err e in
    let whole : r ≡ made = is ∙ ap (λ z. Err z) same in
    let F : Result X (Refused MergeFault) → Type 0 = λ z. IfFault z Q in
    subst F (sym whole) (failed P Q e h more)

pub exit_ends : {A : Type 0} (modules : List Module) (bytes_of : A → List ℕ) (P : MergeFault → Type 0) (r : Result A (Refused MergeFault)) (y e : Refused MergeFault) → r ≡ Err y → y ≡ e → FaultIs e P → ((f : MergeFault) → P f → FirstFault modules f) → Ends modules bytes_of r
exit_ends {A} modules bytes_of P r y e is same h more =
    let made : Result A (Refused MergeFault) = Err e in
    let whole : r ≡ made = is ∙ ap (λ z. Err z) same in
    let F : Result A (Refused MergeFault) → Type 0 = λ z. Ends modules bytes_of z in
    subst F (sym whole) (failed P (FirstFault modules) e h more)

-- the faults of the tables
-- ========================

pub names_first : (modules : List Module) → 0 < length modules → length modules ≤ MAX_PARTS → (f : MergeFault) → (f ≡ TooManyNames) × HasManyNames modules → FirstFault modules f
names_first modules some few f h = subst (FirstFault modules) (sym h.0) (some, omega (arith, few), h.1)

module _ (modules : List Module) (tables : Tables) (some : 0 < length modules) (few : length modules ≤ MAX_PARTS) (are : AreTables modules tables) (fit : TablesFit tables) (few_objects : length (all_objects modules) ≤ MAX_TABLE) where
  no_more_than : length modules < MAX_PARTS + 1
  no_more_than = omega (arith, few)

  pub far_first : (f : MergeFault) → (place : ℕ) × (f ≡ TooFar place) × IsFirstFarIn tables modules place → FirstFault modules f
  far_first f h = subst (FirstFault modules) (sym h.1) (some, no_more_than, not_many modules tables are fit few_objects, record { tables = tables; are_tables = are; first = h.2 })

  module _ (code : List ℕ) (codes : AreCodes tables modules code) where
    pub deep_first : IsDeep modules → FirstFault modules TooBig
    deep_first deep = (some, no_more_than, not_many modules tables are fit few_objects, not_far MAX_DEPTH modules tables codes.parts are codes.are_moved, inl deep)

    abbrev bytes : List ℕ
    bytes = file_bytes (merged_module tables (all_objects modules) codes.own codes.parts)

    module _ (nest : All (λ m. NestsWithin 31 m.code) modules) where
      moved : AreMoved 31 tables 0 modules codes.parts
      moved = lower_parts 31 tables 0 modules codes.parts codes.are_moved (recursion_from_All (λ m. NestsWithin 31 m.code) modules nest)

      abbrev merged : IsMerged modules bytes
      merged = record {
        tables = tables;
        are_tables = are;
        own = codes.own;
        is_own = codes.is_own;
        short = codes.short;
        parts = codes.parts;
        are_moved = moved;
        bytes_are = refl;
      }

      code_is : code ≡ code_bytes 32 (roll-RawCode (record { bytes = codes.own; children = codes.parts }))
      code_is =
          codes.bytes_are
          ∙ (ap₂ (λ (n : ℕ) (z : List ℕ). head_of codes.own n ++ z) (sym (count_parts 32 tables 0 modules codes.parts codes.are_moved)) (parts_same 31 tables 0 modules codes.parts moved)
          ∙ sym (head_is 31 codes.own codes.parts))

      out_is : (front out : List ℕ) → front ≡ front_of tables.texts.texts (all_objects modules) → out ≡ front ++ code → out ≡ bytes
      out_is front out is e =
          let texts = tables.texts.texts in
          let objects = all_objects modules in
          let entries = flat_map qstr_bytes (map qstr_of texts) in
          let spells = flat_map spelled objects in
          e ∙ (ap₂ (λ (x y : List ℕ). x ++ y) is code_is
          ∙ (ap (λ (z : List ℕ). 0x4d ∷ 6 ∷ 0 ∷ 31 ∷ z)
          (append_assoc (vuint (length texts)) (vuint (length objects) ++ (entries ++ spells)) _
          ∙ ap (λ (z : List ℕ). vuint (length texts) ++ z) (append_assoc (vuint (length objects)) (entries ++ spells) _
          ∙ ap (λ (z : List ℕ). vuint (length objects) ++ z) (append_assoc entries spells _)))
          ∙ ap (λ (n : ℕ). 0x4d ∷ 6 ∷ 0 ∷ 31 ∷ (vuint n ++ (vuint (length objects) ++ (entries ++ (spells ++ code_bytes 32 (roll-RawCode (record { bytes = codes.own; children = codes.parts }))))))) (sym (length-map texts qstr_of))))

      long_first : MAX_FILE_BYTES < length bytes → FirstFault modules TooBig
      long_first past = (some, no_more_than, not_many modules tables are fit few_objects, not_far MAX_DEPTH modules tables codes.parts are codes.are_moved, inr (record { bytes = bytes; merged = merged; long = past }))

      -- objects that are longer than a file alone
      pub objects_first : MAX_FILE_BYTES < length (flat_map spelled (all_objects modules)) → FirstFault modules TooBig
      objects_first past =
          let texts = map qstr_of tables.texts.texts in
          let objects = all_objects modules in
          let entries = flat_map qstr_bytes texts in
          let spells = flat_map spelled objects in
          let code = code_bytes 32 (roll-RawCode (record { bytes = codes.own; children = codes.parts })) in
          long_first (omega (arith, past, length-append (vuint (length texts)) (vuint (length objects) ++ (entries ++ (spells ++ code))), length-append (vuint (length objects)) (entries ++ (spells ++ code)), length-append entries (spells ++ code), length-append spells code))

      pub file_first : (front out : List ℕ) → front ≡ front_of tables.texts.texts (all_objects modules) → out ≡ front ++ code → MAX_FILE_BYTES < length out → FirstFault modules TooBig
      file_first front out is e past = long_first (subst (λ (z : List ℕ). MAX_FILE_BYTES < length z) (out_is front out is e) past)

      pub a_file : (front out : List ℕ) → front ≡ front_of tables.texts.texts (all_objects modules) → out ≡ front ++ code → All (IsFine MAX_DEPTH) (all_objects modules) → length out ≤ MAX_FILE_BYTES → IsMergedFile modules out
      a_file front out is e fine short =
          let same = out_is front out is e in
          subst (IsMergedFile modules) (sym same)
          (record { some = some; few = few; merged = merged; fit = fit; few_objects = few_objects; fine = fine; short = subst (λ (z : List ℕ). length z ≤ MAX_FILE_BYTES) same short })
