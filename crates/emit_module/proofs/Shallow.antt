-- The codes of functions that pass no limit nest no deeper than a file's codes do.
use Rattle.std.proofs.Common.{◌≡◌, ℕ, zero, suc, ◌+◌, ◌≤◌, Bool, true, false, List, All, Some, None, refl, sym, subst, ◌∙◌, arith}
use Rattle.std.specs.Prelude.{max, ◌||◌, nat_lt, nat_le, if◌then◌else◌}
use Rattle.std.proofs.lemmas.Bool.Decides.{nat_tests}
use Rattle.std.proofs.lemmas.List.Elements.{All-nil, All-cons}
use Rattle.mpy_base.specs.declared.source.SourceCode.{SourceCode}
use Rattle.mpy_base.specs.declared.source.SourceCode.TheVariants.{TooLong, StateTooBig}
use Rattle.mpy_writer.specs.mpy_tree.declared.module.Code.{Code, out-Code}
use Rattle.mpy_writer.specs.mpy_tree.declared.module.ModuleCode.{ModuleCode}
use Rattle.mpy_writer.specs.Writable.{IsShallow}
use Rattle.tr_source.specs.py_meaning.Program.{Source, Text}
use Rattle.emit_measures.specs.declared.faults.Measures.{Measures}
use Rattle.emit_measures.specs.Faults.{is_big_state, fault_of}
use Rattle.emit_module.specs.First.{Site}
use Rattle.emit_module.specs.Counted.{IsFine}
use Rattle.emit_module.specs.declared.own.OwnCode.{OwnCode}
use Rattle.emit_module.specs.declared.walk.Children.{Children}
use Rattle.emit_module.specs.Walk.{Forest, planted, Grows, no_code, with_code, IsModuleOf, IsWalked, top}

abbrev state_of : Measures → Bool
state_of m = (nat_lt 255 m.params || nat_lt 100 m.entries) || nat_lt 4096 (m.locals + max 1 m.height)

left_false : (a b : Bool) → (a || b) ≡ false → a ≡ false
left_false true b e = e
left_false false b e = refl

right_false : (a b : Bool) → (a || b) ≡ false → b ≡ false
right_false true b e = cc
right_false false b e = e

no_fault : (a b : Bool) (x y : SourceCode) → (if a then Some x else (if b then Some y else None)) ≡ None → b ≡ false
no_fault true b x y e = cc
no_fault false true x y e = cc
no_fault false false x y e = refl

-- neither crowded nor deep
pub first_limits : (m : Measures) → fault_of m ≡ None → (m.crowded || nat_le 32 m.depth) ≡ false
first_limits m e = left_false (m.crowded || nat_le 32 m.depth) (state_of m) (no_fault (nat_lt 16000 m.length) (is_big_state m) TooLong StateTooBig e)

not_deep : (depth : ℕ) → nat_le 32 depth ≡ false → depth ≤ 31
not_deep depth e = grind (arith, nat_tests)

pub few_around : (m : Measures) → fault_of m ≡ None → m.depth ≤ 31
few_around m e = not_deep m.depth (right_false m.crowded (nat_le 32 m.depth) (first_limits m e))

pub roomy_text : (m : Measures) → fault_of m ≡ None → m.crowded ≡ false
roomy_text m e = left_false m.crowded (nat_le 32 m.depth) (first_limits m e)

site_few : (site : Site) (text : Text) → IsFine site text → site.depth ≤ 31
site_few site text h = let few = few_around h.counts h.none in let same = h.are_counts.depth in omega (arith, few, same)

pub one_level : (levels : ℕ) (code : Code) → All (IsShallow levels) (out-Code code).children → IsShallow (suc levels) code
unfolding IsShallow
one_level levels code h = h

pub all_shallow : {source : Source} {depth n : ℕ} {f : Forest} {cs : List Code} (levels : ℕ) → levels + depth ≡ 31 → Grows source depth n f cs → All (IsShallow levels) cs
all_shallow levels e no_code = All-nil (IsShallow levels)
all_shallow {depth = depth} zero e (with_code mine is i o) = let few = site_few _ _ mine.within in absurd (omega (arith, few, e))
all_shallow {depth = depth} (suc levels) e (with_code {first = first} {codes = codes} mine is i o) =
    let below : levels + suc depth ≡ 31 = omega (arith, e) in
    All-cons (IsShallow (suc levels)) first codes (one_level levels first (all_shallow levels below i)) (all_shallow (suc levels) e o)

pub whole_shallow : {source : Source} (own : OwnCode) (children : Children) (whole : ModuleCode) → IsModuleOf source.file own children whole → IsWalked source (planted source.body) (top source.level) children → IsShallow 32 whole.code
whole_shallow own children whole m walked =
    one_level 31 whole.code (subst (All (IsShallow 31)) (sym (m.code.children ∙ walked.codes)) (all_shallow 31 (omega arith) walked.grows))
