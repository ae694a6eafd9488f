-- What is written of modules, one part after another.
use Rattle.std.proofs.Common.{◌≡◌, ℕ, ◌<◌, ◌≤◌, List, [], ◌∷◌, ◌++◌, length, map, Option, Some, None, refl, sym, ap, ap₂, subst, ◌∙◌, append_assoc, arith}
use Rattle.std.specs.Prelude.{unwrap_or}
use Rattle.std.specs.Option.{option_or}
use Rattle.std.specs.List.{flat_map}
use Rattle.std.proofs.lemmas.List.{length-map}
use Rattle.mpy_base.specs.declared.limits.TheConstants.{MAX_DEPTH}
use Rattle.mpy_base.specs.Vuint.{vuint}
use Rattle.qstr_pool.specs.Pool.{Texts, number_of}
use Rattle.qstr_pool.specs.Static.{static_number_of}
use Rattle.mpy_writer.specs.mpy_tree.declared.module.Constant.{Constant}
use Rattle.mpy_writer.specs.mpy_tree.declared.raw.RawCode.{RawCode}
use Rattle.mpy_writer.specs.mpy_tree.declared.raw.Qstr.{Qstr}
use Rattle.mpy_writer.specs.mpy_tree.declared.raw.Qstr.TheVariants.{Static, Own}
use Rattle.mpy_writer.specs.mpy_tree.Raw.{Module}
use Rattle.mpy_writer.specs.mpy_tree.Canonical.{code_bytes, object_bytes}
use Rattle.mpy_writer.specs.File.{entry_of as qstr_by}
use Rattle.image_open.specs.image_grammar.Opening.{entry_of}
use Rattle.image_freeze.specs.declared.named.Named.{Named}
use Rattle.image_freeze.specs.Frozen.{entries_of, entry_bytes, body_bytes, frozen, frozen_qstr, number_bytes, own_bytes, parts_of, qstr_number, text_number}

-- parts behind others
-- ===================

regrouped : (out a b c d : List ℕ) → (((out ++ a) ++ b) ++ c) ++ d ≡ out ++ (a ++ (b ++ (c ++ d)))
regrouped out a b c d = simp append_assoc

four : (out a b c d o1 o2 o3 o4 : List ℕ) → o1 ≡ out ++ a → o2 ≡ o1 ++ b → o3 ≡ o2 ++ c → o4 ≡ o3 ++ d → o4 ≡ out ++ (a ++ (b ++ (c ++ d)))
four out a b c d o1 o2 o3 o4 h1 h2 h3 h4 =
    h4 ∙ (ap (λ (z : List ℕ). z ++ d) (h3 ∙ ap (λ (z : List ℕ). z ++ c) (h2 ∙ ap (λ (z : List ℕ). z ++ b) h1)) ∙ regrouped out a b c d)

-- a module
-- ========

frozen_number : (pool : Texts) (q : Qstr) → number_bytes pool (frozen_qstr q) ≡ number_bytes pool q
frozen_number pool (Static n) = refl
frozen_number pool (Own text) = ap vuint (by (static_number_of text) refl)
  where
    by : (o : Option ℕ) → static_number_of text ≡ o → qstr_number pool (qstr_by text o) ≡ text_number pool text
    by (Some n) e = ap (λ (o : Option ℕ). unwrap_or (option_or o (number_of pool text)) 0) (sym e)
    by None e = refl

frozen_numbers : (pool : Texts) (qstrs : List Qstr) → flat_map (number_bytes pool) (map frozen_qstr qstrs) ≡ flat_map (number_bytes pool) qstrs
frozen_numbers pool [] = refl
frozen_numbers pool (q ∷ qstrs) = ap₂ (λ (xs ys : List ℕ). xs ++ ys) (frozen_number pool q) (frozen_numbers pool qstrs)

abbrev pub named_bytes : Texts → Named → List ℕ
named_bytes pool m = entry_bytes pool (entry_of m.name (frozen m.held))

pub two : (out a b o1 o2 : List ℕ) → o1 ≡ out ++ a → o2 ≡ o1 ++ b → o2 ≡ out ++ (a ++ b)
two out a b o1 o2 h1 h2 = h2 ∙ (ap (λ (z : List ℕ). z ++ b) h1 ∙ append_assoc out a b)

pub body_written : (m : Module) (out o1 o2 : List ℕ) (objects : List Constant) (code : RawCode) → objects ≡ m.objects → code ≡ m.code → o1 ≡ out ++ (vuint (length objects) ++ flat_map (object_bytes MAX_DEPTH) objects) → o2 ≡ o1 ++ code_bytes MAX_DEPTH code → o2 ≡ out ++ body_bytes m
body_written m out o1 o2 objects code e f h1 h2 =
    let i1 = h1 ∙ ap (λ (z : List Constant). out ++ (vuint (length z) ++ flat_map (object_bytes MAX_DEPTH) z)) e in
    let i2 = h2 ∙ ap (λ (z : RawCode). o1 ++ code_bytes MAX_DEPTH z) f in
    two out (vuint (length m.objects) ++ flat_map (object_bytes MAX_DEPTH) m.objects) (code_bytes MAX_DEPTH m.code) o1 o2 i1 i2
    ∙ ap (λ (z : List ℕ). out ++ z) (append_assoc (vuint (length m.objects)) (flat_map (object_bytes MAX_DEPTH) m.objects) (code_bytes MAX_DEPTH m.code))

pub module_written : (pool : Texts) (m : Named) (out o1 o2 o3 : List ℕ) (number : ℕ) (qstrs : List Qstr) → number ≡ text_number pool m.name → qstrs ≡ m.held.qstrs
    → o1 ≡ out ++ vuint number → o2 ≡ o1 ++ (vuint (length qstrs) ++ flat_map (number_bytes pool) qstrs) → o3 ≡ o2 ++ body_bytes m.held → o3 ≡ out ++ named_bytes pool m
module_written pool m out o1 o2 o3 number qstrs e f h1 h2 h3 =
    let name = vuint (text_number pool m.name) in
    let count = vuint (length (frozen m.held).qstrs) in
    let numbers = flat_map (number_bytes pool) (frozen m.held).qstrs in
    let i1 : o1 ≡ out ++ name = h1 ∙ ap (λ (n : ℕ). out ++ vuint n) e in
    let table : vuint (length m.held.qstrs) ++ flat_map (number_bytes pool) m.held.qstrs ≡ count ++ numbers =
    ap₂ (λ (n : ℕ) (z : List ℕ). vuint n ++ z) (sym (length-map m.held.qstrs frozen_qstr)) (sym (frozen_numbers pool m.held.qstrs)) in
    let i2 : o2 ≡ o1 ++ (count ++ numbers) = h2 ∙ (ap (λ (z : List Qstr). o1 ++ (vuint (length z) ++ flat_map (number_bytes pool) z)) f ∙ ap (λ (z : List ℕ). o1 ++ z) table) in
    two out (name ++ (count ++ numbers)) (body_bytes m.held) o2 o3 (two out name (count ++ numbers) o1 o2 i1 i2) h3
    ∙ ap (λ (z : List ℕ). out ++ z) (append_assoc name (count ++ numbers) (body_bytes m.held) ∙ ap (λ (z : List ℕ). name ++ z) (append_assoc count numbers (body_bytes m.held)))

pub all_named : (pool : Texts) (modules : List Named) → flat_map (named_bytes pool) modules ≡ flat_map (entry_bytes pool) (entries_of modules)
all_named pool [] = refl
all_named pool (m ∷ ms) = ap (λ (z : List ℕ). named_bytes pool m ++ z) (all_named pool ms)

-- what stands behind the front of an image
-- ========================================

pub parts_written : (pool : Texts) (own : List (List ℕ)) (modules : List Named) (out o1 o2 o3 o4 : List ℕ) (texts count : ℕ) → texts ≡ length own → count ≡ length modules
    → o1 ≡ out ++ vuint texts → o2 ≡ o1 ++ flat_map own_bytes own → o3 ≡ o2 ++ vuint count → o4 ≡ o3 ++ flat_map (entry_bytes pool) (entries_of modules) → o4 ≡ out ++ parts_of pool own (entries_of modules)
parts_written pool own modules out o1 o2 o3 o4 texts count f g h1 h2 h3 h4 =
    let entries = entries_of modules in
    let counts : count ≡ length entries = g ∙ sym (length-map modules (λ (m : Named). entry_of m.name (frozen m.held))) in
    let i1 : o1 ≡ out ++ vuint (length own) = h1 ∙ ap (λ (n : ℕ). out ++ vuint n) f in
    let i3 : o3 ≡ o2 ++ vuint (length entries) = h3 ∙ ap (λ (n : ℕ). o2 ++ vuint n) counts in
    four out (vuint (length own)) (flat_map own_bytes own) (vuint (length entries)) (flat_map (entry_bytes pool) entries) o1 o2 o3 o4 i1 h2 i3 h4
