-- A code that is written with the bytes that it has.
use Rattle.std.proofs.Common.{◌≡◌, ℕ, zero, suc, ◌-◌, ◌<◌, ◌≤◌, ◌^◌, Bool, true, false, List, [], ◌∷◌, ◌++◌, length, get_or, Some, refl, sym, ap, subst, ◌∙◌, append_assoc, arith}
use Rattle.std.specs.Prelude.{slice_get}
use Rattle.std.specs.List.{flat_map, AllByRecursion}
use Rattle.mpy_base.specs.Vuint.{vuint}
use Rattle.mpy_base.specs.declared.limits.TheConstants.{MAX_CODE_BYTES, MAX_TABLE}
use Rattle.mpy_base.proofs.Groups.{vuint_spells}
use Rattle.mpy_writer.specs.mpy_tree.declared.raw.RawCode.{RawCode, out-RawCode, roll-RawCode, roll-out-RawCode}
use Rattle.mpy_writer.specs.mpy_tree.File.{header_of, AreChildren, IsCode}
use Rattle.mpy_writer.specs.mpy_tree.Canonical.{has_some, children_bytes, code_bytes}
use Rattle.mpy_writer.proofs.Spelled.{many_spelled}
use Rattle.mpy_merge.specs.Heads.{head_of}
use Rattle.mpy_writer.proofs.mpy_tree_lemmas.Codes.{Nests, children, whole, get_at}
use Rattle.mpy_merge.proofs.Trees.{head_is}
use Rattle.image_freeze.proofs.Loops.{each_of, added_all}

-- it is spelled so
-- ================

header_small : (len : ℕ) (b : Bool) → len ≤ MAX_CODE_BYTES → header_of len b < 2 ^ 31
header_small len true le = omega (arith, le)
header_small len false le = omega (arith, le)

are_children : (levels texts : ℕ) (raws : List RawCode) → length raws ≤ MAX_TABLE → AllByRecursion (λ r. IsCode levels texts (code_bytes levels r) r) raws → AreChildren (IsCode levels texts) (has_some raws) (children_bytes (code_bytes levels) raws) raws
are_children levels texts [] few all = (refl, refl)
are_children levels texts (r ∷ rs) few all =
    (vuint (length (r ∷ rs)), flat_map (code_bytes levels) (r ∷ rs), vuint_spells (length (r ∷ rs)) (omega (arith, few)), few, refl, many_spelled (IsCode levels texts) (code_bytes levels) (r ∷ rs) all)

pub tree_spelled : (levels texts : ℕ) (text : List ℕ) (code : RawCode) → IsCode levels texts text code → IsCode levels texts (code_bytes levels code) code
unfolding IsCode code_bytes
tree_spelled zero texts text code h = absurd h
tree_spelled (suc levels) texts text code h =
    let w = whole texts (suc levels) code (text, h) in
    let below : w.below ≡ levels = omega (arith, w.levels_are) in
    let all = each_of (λ (r : RawCode). IsCode levels texts (code_bytes levels r) r) (children code) (λ n child at.
    let inside = subst (λ (k : ℕ). Nests texts k child) below (w.each n child at) in
    tree_spelled levels texts inside.0 child inside.1) in
    record {
      header = vuint (header_of (length (out-RawCode code).bytes) (has_some (children code)));
      own = (out-RawCode code).bytes;
      behind = children_bytes (code_bytes levels) (children code);
      has_children = has_some (children code);
      children = children code;
      text_is = refl;
      spells = vuint_spells _ (header_small (length (out-RawCode code).bytes) (has_some (children code)) w.short);
      short = w.short;
      is_own = w.own;
      are_children = are_children levels texts (children code) w.few all;
      code_is = sym (roll-out-RawCode code);
    }

-- it is written so
-- ================

-- the bytes of a code are its head and those of the codes in it
tree_is : (levels : ℕ) (code : RawCode) → code_bytes (suc levels) code ≡ head_of (out-RawCode code).bytes (length (children code)) ++ flat_map (code_bytes levels) (children code)
tree_is levels code =
    ap (code_bytes (suc levels)) (sym (roll-out-RawCode code)) ∙ head_is levels (out-RawCode code).bytes (children code)

pub tree_written : (levels inner n : ℕ) (code : RawCode) (raws : List RawCode) (own start headed now : List ℕ) (count : ℕ) → levels ≡ suc inner → own ≡ (out-RawCode code).bytes → raws ≡ children code → count ≡ length (children code)
    → headed ≡ start ++ head_of own count → now ≡ headed ++ flat_map (code_bytes inner) raws → now ≡ start ++ code_bytes levels code
tree_written levels inner n code raws own start headed now count is owns are counts head whole =
    let bytes = (out-RawCode code).bytes in
    let inside = flat_map (code_bytes inner) (children code) in
    let heads : headed ≡ start ++ head_of bytes (length (children code)) = head ∙ (ap (λ (z : List ℕ). start ++ head_of z count) owns ∙ ap (λ (k : ℕ). start ++ head_of bytes k) counts) in
    let all : now ≡ start ++ code_bytes (suc inner) code =
    whole ∙ (ap (λ (z : List RawCode). headed ++ flat_map (code_bytes inner) z) are ∙ (ap (λ (z : List ℕ). z ++ inside) heads
    ∙ (append_assoc start (head_of bytes (length (children code))) inside ∙ ap (λ (z : List ℕ). start ++ z) (sym (tree_is inner code))))) in
    subst (λ (k : ℕ). now ≡ start ++ code_bytes k code) (sym is) all
