-- Codes in one another.
use Rattle.std.proofs.Common.{◌≡◌, ℕ, zero, suc, ◌-◌, ◌≤◌, List, [], ◌∷◌, ◌++◌, length, drop, map, All, sym, ap, subst, ◌∙◌, append_assoc, arith}
use Rattle.std.proofs.lemmas.List.{append-nil, map-append, at_drop_all}
use Rattle.std.specs.List.{flat_map}
use Rattle.mpy_tree.specs.declared.module.Code.{Code, out-Code}
use Rattle.mpy_writer.specs.Codes.{codes_in}
use Rattle.mpy_writer.specs.Writable.{IsShallow}

pub some_level : (levels : ℕ) (code : Code) → IsShallow levels code → 1 ≤ levels
unfolding IsShallow
some_level zero code h = absurd h
some_level (suc levels) code h = omega arith

-- the codes of one that may be deep, and of those in it
pub codes_more : (levels below : ℕ) (code : Code) → IsShallow levels code → below ≡ levels - 1 → codes_in levels code ≡ code ∷ flat_map (codes_in below) (out-Code code).children
unfolding IsShallow codes_in
codes_more zero below code h e = absurd h
codes_more (suc levels) below code h e = let same : levels ≡ below = omega (arith, e) in ap (λ (n : ℕ). code ∷ flat_map (codes_in n) (out-Code code).children) same

pub shallow_below : (levels below : ℕ) (code : Code) → IsShallow levels code → below ≡ levels - 1 → All (IsShallow below) (out-Code code).children
unfolding IsShallow
shallow_below zero below code h e = absurd h
shallow_below (suc levels) below code h e = let same : levels ≡ below = omega (arith, e) in subst (λ (n : ℕ). All (IsShallow n) (out-Code code).children) same h

-- the codes in a code behind those before
pub collected : {B : Type 0} (see : B → Code) (old pushed last : List B) (b : B) (levels below : ℕ) (code : Code) (kids : List Code) (i : ℕ) → pushed ≡ old ++ b ∷ [] → see b ≡ code → kids ≡ (out-Code code).children → codes_in levels code ≡ code ∷ flat_map (codes_in below) (out-Code code).children
    → length kids ≤ i → map see last ++ flat_map (codes_in below) (drop i kids) ≡ map see pushed ++ flat_map (codes_in below) kids → map see last ≡ map see old ++ codes_in levels code
collected see old pushed last b levels below code kids i e same inside more le h =
    let rest = flat_map (codes_in below) in
    sym (append-nil (map see last)) ∙ (ap (λ (z : List Code). map see last ++ z) (sym (at_drop_all rest kids i le)) ∙ (h
    ∙ (ap (λ (z : List Code). z ++ rest kids) (ap (map see) e ∙ (map-append see old (b ∷ []) ∙ ap (λ (c : Code). map see old ++ c ∷ []) same))
    ∙ (append_assoc (map see old) (code ∷ []) (rest kids)
    ∙ ap (λ (z : List Code). map see old ++ z) (ap (λ (z : List Code). code ∷ rest z) inside ∙ sym more)))))
