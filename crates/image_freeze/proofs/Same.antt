-- The modules of an image are frozen as they are.
use Rattle.std.proofs.Common.{◌≡◌, ℕ, ◌+◌, ◌-◌, ◌<◌, ◌≤◌, List, [], ◌∷◌, ◌++◌, length, get_or, take, map, All, None, refl, sym, ap, ap₂, subst, ◌∙◌, arith}
use Rattle.std.specs.Prelude.{nat_lt}
use Rattle.std.specs.List.{AllByRecursion}
use Rattle.std.proofs.lemmas.List.{map-append, take_all, take_more}
use Rattle.std.proofs.lemmas.List.Elements.{All-from_recursion, recursion_from_All}
use Rattle.mpy_writer.specs.mpy_tree.File.{IsAscii, Many}
use Rattle.mpy_writer.specs.mpy_tree.Raw.{Module}
use Rattle.mpy_writer.specs.mpy_tree.declared.raw.Qstr.{Qstr}
use Rattle.mpy_writer.specs.mpy_tree.declared.raw.Qstr.TheVariants.{Static, Own}
use Rattle.mpy_writer.specs.File.{entry_of as qstr_by}
use Rattle.qstr_pool.specs.declared.table.TheConstants.{FIRST_OWN}
use Rattle.qstr_pool.specs.Pool.{Texts, text_of}
use Rattle.qstr_pool.specs.Static.{static_number_of}
use Rattle.image_open.specs.bc_library.Texts.{IsPlain}
use Rattle.image_open.proofs.bc_library_lemmas.Pools.{from_first_own}
use Rattle.image_open.specs.image_grammar.declared.entry.Entry.{Entry}
use Rattle.image_open.specs.image_grammar.Image.{IsEntry, IsImage, IsNamed}
use Rattle.image_open.specs.image_grammar.Opening.{entry_of, nothing_below}
use Rattle.image_open.proofs.Taken.{from_by}
use Rattle.image_open.proofs.Uses.{IsProper, place_of}
use Rattle.image_open.proofs.Whole.{nothing_proper}
use Rattle.image_open.proofs.Written.{image_proper}
use Rattle.image_freeze.specs.declared.named.Named.{Named}
use Rattle.image_freeze.specs.Frozen.{entries_of, frozen, frozen_qstr}

-- a text of the pool is none that every file may name
own_is : (pool : Texts) (spelled : List ℕ) (text : List ℕ) → IsProper pool → IsEntry pool spelled (Own text) → static_number_of text ≡ None
own_is pool spelled text proper s =
    let n = s.0 in
    let from = from_by n pool.first text _ (nat_lt n pool.first) refl s.2 in
    let first = proper.own.first in
    let le : FIRST_OWN ≤ n = omega (arith, from, first) in
    (proper.own.each (n - FIRST_OWN) text (place_of pool n text proper.own le (sym (from_first_own pool n le) ∙ s.2))).own

same_qstr : (pool : Texts) (spelled : List ℕ) (q : Qstr) → IsProper pool → IsEntry pool spelled q → frozen_qstr q ≡ q
same_qstr pool spelled (Static n) proper s = refl
same_qstr pool spelled (Own text) proper s = ap (qstr_by text) (own_is pool spelled text proper s)

same_qstrs : (pool : Texts) (text : List ℕ) (qstrs : List Qstr) → IsProper pool → Many (IsEntry pool) text qstrs → map frozen_qstr qstrs ≡ qstrs
same_qstrs pool text [] proper m = refl
same_qstrs pool text (q ∷ qs) proper m = ap₂ (λ (x : Qstr) (xs : List Qstr). x ∷ xs) (same_qstr pool m.0 q proper m.2) (same_qstrs pool m.1 qs proper m.4)

same_module : (pool : Texts) (text : List ℕ) (e : Entry) → IsProper pool → IsNamed pool text e → frozen e.held ≡ e.held
same_module pool text e proper s =
    ap₂ (λ (n : ℕ) (qs : List Qstr). record { bits = n; qstrs = qs; objects = e.held.objects; code = e.held.code }) (sym s.bits) (same_qstrs pool s.numbers e.held.qstrs proper s.are_qstrs)

same_modules : (pool : Texts) (text : List ℕ) (entries : List Entry) → IsProper pool → Many (IsNamed pool) text entries → AllByRecursion (λ (e : Entry). frozen e.held ≡ e.held) entries
same_modules pool text [] proper m = tt
same_modules pool text (e ∷ es) proper m = (same_module pool m.0 e proper m.2, same_modules pool m.1 es proper m.4)

pub image_same : (bytes : List ℕ) (entries : List Entry) → IsImage nothing_below entries bytes → All (λ (e : Entry). frozen e.held ≡ e.held) entries
image_same bytes entries s =
    All-from_recursion (λ (e : Entry). frozen e.held ≡ e.held) entries (same_modules s.pool s.named entries (image_proper nothing_below bytes entries nothing_proper s) s.are_named)

-- copies of the modules
abbrev pub copied : Named → Entry
copied m = entry_of m.name m.held

frozen_again : (modules : List Named) (entries : List Entry) → map copied modules ≡ entries → AllByRecursion (λ (e : Entry). frozen e.held ≡ e.held) entries → entries_of modules ≡ entries
frozen_again modules entries same all = by modules (subst (AllByRecursion (λ (e : Entry). frozen e.held ≡ e.held)) (sym same) all) ∙ same
  where
    by : (ms : List Named) → AllByRecursion (λ (e : Entry). frozen e.held ≡ e.held) (map copied ms) → entries_of ms ≡ map copied ms
    by [] all = refl
    by (m ∷ ms) all = ap₂ (λ (x : Module) (xs : List Entry). entry_of m.name x ∷ xs) all.0 (by ms all.1)

pub entries_again : (modules : List Named) (entries : List Entry) → map copied modules ≡ entries → All (λ (e : Entry). frozen e.held ≡ e.held) entries → entries_of modules ≡ entries
entries_again modules entries same all = frozen_again modules entries same (recursion_from_All (λ (e : Entry). frozen e.held ≡ e.held) entries all)

pub next_copied : (all : List Entry) (copies new : List Named) (i : ℕ) (x : Entry) (copy : Named) → i < length all → x ≡ get_or all i x → copied copy ≡ x → new ≡ copies ++ copy ∷ [] → map copied copies ≡ take i all → map copied new ≡ take (i + 1) all
next_copied all copies new i x copy lt is same push so_far =
    ap (map copied) push ∙ (map-append copied copies (copy ∷ []) ∙ (ap (λ (z : List Entry). z ++ copied copy ∷ []) so_far ∙ (ap (λ (z : Entry). take i all ++ z ∷ []) (same ∙ is) ∙ sym (take_more all i x lt))))

pub all_copied : (all : List Entry) (copies : List Named) (i : ℕ) → length all ≤ i → map copied copies ≡ take i all → map copied copies ≡ all
all_copied all copies i le so_far = so_far ∙ take_all i all le

ascii_by : (modules : List Named) → AllByRecursion (λ (e : Entry). IsPlain e.name) (map copied modules) → AllByRecursion (λ (m : Named). IsAscii m.name) modules
ascii_by [] all = tt
ascii_by (m ∷ ms) all = (all.0.ascii, ascii_by ms all.1)

pub names_ascii : (modules : List Named) (entries : List Entry) → map copied modules ≡ entries → All (λ (e : Entry). IsPlain e.name) entries → All (λ (m : Named). IsAscii m.name) modules
names_ascii modules entries same plain =
    All-from_recursion (λ (m : Named). IsAscii m.name) modules (ascii_by modules (subst (AllByRecursion (λ (e : Entry). IsPlain e.name)) (sym same) (recursion_from_All (λ (e : Entry). IsPlain e.name) entries plain)))
