-- One first fault at most, and none where a module is verified.
use Rattle.std.proofs.Common.{◌≡◌, ℕ, zero, suc, ◌<◌, List, [], ◌∷◌, length, Some, inl, inr, refl, sym, ap, subst, ◌∙◌, arith}
use Rattle.std.specs.Prelude.{slice_get, slice_index, ◌⊎◌}
use Rattle.bc_refusals.specs.bc_flow.Code.{Code}
use Rattle.bc_refusals.specs.bc_flow.declared.code.Rule.{Rule as FlowRule}
use Rattle.bc_refusals.specs.bc_flow.Verified as flow
use Rattle.bc_refusals.specs.bc_flow.Verified.{FirstFault}
use Rattle.bc_refusals.proofs.bc_flow_lemmas.Decides.{holds_in, no_means, comes_reached}
use Rattle.bc_refusals.proofs.bc_flow_lemmas.Unique as unique
use Rattle.mpy_tree.specs.declared.raw.RawCode.{RawCode, out-RawCode}
use Rattle.mpy_tree.specs.Raw.{Module}
use Rattle.bc_verify.specs.declared.fault.Rule.{Rule}
use Rattle.bc_verify.specs.declared.fault.VerifyFault.{VerifyFault}
use Rattle.bc_verify.specs.Body.{Body, flow_of}
use Rattle.mpy_tree.specs.Codes.{code_at, IsBefore}
use Rattle.bc_verify.specs.Rule.{of_flow}
use Rattle.bc_verify.specs.Rules.{Breaks, KeepsAll, IsFirstBroken}
use Rattle.bc_verify.specs.Verified.{children_of, IsVerifiedCode, AreVerified, IsVerified, IsFirstIn, IsCodeFault, IsTreeFault, IsFirstFault}
use Rattle.bc_verify.proofs.Bodies.{one_body}
use Rattle.bc_verify.proofs.Breaking.{one_rule}

-- where the flow has a fault, nothing can be assigned
pub flow_apart : (code : Code) (r : FlowRule) (p : ℕ) → FirstFault code r p → flow.Verified code → ⊥
flow_apart code r p (FirstFault.empty e) v =
    let lt = holds_in code v.0 v.1 0 v.1.start.at v.1.start.is in
    omega (arith, lt, ap length e)
flow_apart code r p (FirstFault.broken {t = t} {x = x} c l e) v = no_means code t p x r (comes_reached code t c) l.pending e v

-- a code
-- ======

first_apart : (m : Module) (children : ℕ) (body : Body) (r : Rule) (p : ℕ) → IsFirstIn m children body r p → KeepsAll m children body → flow.Verified (flow_of body) → ⊥
first_apart m children body r p (inl b) keeps v = keeps p b.item r b.is b.breaks
first_apart m children body r p (inr b) keeps v = flow_apart (flow_of body) b.1.broken p b.1.first v

pub code_apart : (m : Module) (code : RawCode) (r : Rule) (offset : ℕ) → IsCodeFault m code r offset → IsVerifiedCode m code → ⊥
code_apart m code r offset f v =
    let same : f.body ≡ v.body = (one_body (out-RawCode code).bytes f.body v.body f.offsets v.offsets f.says v.says).0 in
    first_apart m (children_of code) v.body r f.position (subst (λ b. IsFirstIn m (children_of code) b r f.position) same f.first) v.instructions v.flow

compare : (p q : ℕ) → (p < q) ⊎ (p ≡ q) ⊎ (q < p)
compare zero zero = inr (inl refl)
compare zero (suc q) = inl (omega arith)
compare (suc p) zero = inr (inr (omega arith))
compare (suc p) (suc q) =
    elim (compare p q) [
      | inl lt ↦ inl (omega (arith, lt))
      | inr other ↦ elim other [ inl e ↦ inr (inl (ap suc e)) | inr lt ↦ inr (inr (omega (arith, lt))) ]
    ]

one_broken : (m : Module) (children : ℕ) (body : Body) (r s : Rule) (p q : ℕ) → IsFirstBroken m children body r p → IsFirstBroken m children body s q → (r ≡ s) × (p ≡ q)
one_broken m children body r s p q b d =
    elim (compare p q) [
      | inl lt ↦ absurd (d.before p b.item r lt b.is b.breaks)
      | inr other ↦ elim other [
        | inl e ↦
            let at : slice_get body.items q ≡ Some b.item = subst (λ i. slice_get body.items i ≡ Some b.item) e b.is in
            let one : Some b.item ≡ Some d.item = sym at ∙ d.is in
            let is : b.item ≡ d.item = cc in
            (one_rule m children body r s d.item (subst (Breaks m children body r) is b.breaks) d.breaks, e)
        | inr lt ↦ absurd (b.before q d.item s lt d.is d.breaks)
      ]
    ]

one_first : (m : Module) (children : ℕ) (body : Body) (r s : Rule) (p q : ℕ) → IsFirstIn m children body r p → IsFirstIn m children body s q → (r ≡ s) × (p ≡ q)
one_first m children body r s p q (inl b) (inl d) = one_broken m children body r s p q b d
one_first m children body r s p q (inl b) (inr d) = absurd (d.0 p b.item r b.is b.breaks)
one_first m children body r s p q (inr b) (inl d) = absurd (b.0 q d.item s d.is d.breaks)
one_first m children body r s p q (inr b) (inr d) =
    let same = unique.one_fault (flow_of body) b.1.broken d.1.broken p q b.1.first d.1.first in
    (b.1.rule_is ∙ (ap of_flow same.0 ∙ sym d.1.rule_is), same.1)

one_code_fault : (m : Module) (code : RawCode) (r s : Rule) (i j : ℕ) → IsCodeFault m code r i → IsCodeFault m code s j → (r ≡ s) × (i ≡ j)
one_code_fault m code r s i j f g =
    let bodies = one_body (out-RawCode code).bytes f.body g.body f.offsets g.offsets f.says g.says in
    let same = one_first m (children_of code) g.body r s f.position g.position (subst (λ b. IsFirstIn m (children_of code) b r f.position) bodies.0 f.first) g.first in
    (same.0, f.offset_is ∙ (ap (λ z. slice_index z f.position) bodies.1 ∙ (ap (slice_index g.offsets) same.1 ∙ sym g.offset_is)))

-- a tree
-- ======

compare_paths : (p q : List ℕ) → IsBefore p q ⊎ (p ≡ q) ⊎ IsBefore q p
compare_paths [] [] = inr (inl refl)
compare_paths [] (n ∷ q) = inl tt
compare_paths (m ∷ p) [] = inr (inr tt)
compare_paths (m ∷ p) (n ∷ q) =
    elim (compare m n) [
      | inl lt ↦ inl (inl lt)
      | inr other ↦ elim other [
        | inl e ↦ elim (compare_paths p q) [
          | inl b ↦ inl (inr (e, b))
          | inr another ↦ elim another [ inl same ↦ inr (inl (cons_same e same)) | inr b ↦ inr (inr (inr (sym e, b))) ]
        ]
        | inr lt ↦ inr (inr (inl lt))
      ]
    ]
  where
    cons_same : {a b : ℕ} {x y : List ℕ} → a ≡ b → x ≡ y → (a ∷ x) ≡ (b ∷ y)
    cons_same d e = cc

pub tree_apart : (m : Module) (root : RawCode) (r : Rule) (path : List ℕ) (offset : ℕ) → IsTreeFault m root r path offset → AreVerified m root → ⊥
tree_apart m root r path offset f v = code_apart m f.code r offset f.fault (v path f.code f.is)

one_tree_fault : (m : Module) (root : RawCode) (r s : Rule) (p q : List ℕ) (i j : ℕ) → IsTreeFault m root r p i → IsTreeFault m root s q j → (r ≡ s) × (p ≡ q) × (i ≡ j)
one_tree_fault m root r s p q i j f g =
    elim (compare_paths p q) [
      | inl b ↦ absurd (code_apart m f.code r i f.fault (g.before p f.code b f.is))
      | inr other ↦ elim other [
        | inl e ↦
            let at : code_at q root ≡ Some f.code = subst (λ z. code_at z root ≡ Some f.code) e f.is in
            let one : Some f.code ≡ Some g.code = sym at ∙ g.is in
            let is : f.code ≡ g.code = cc in
            let same = one_code_fault m g.code r s i j (subst (λ z. IsCodeFault m z r i) is f.fault) g.fault in
            (same.0, e, same.1)
        | inr b ↦ absurd (code_apart m g.code s j g.fault (f.before q g.code b g.is))
      ]
    ]

abbrev make_fault : Rule → List ℕ → ℕ → VerifyFault
make_fault rule path offset = record { rule = rule; path = path; offset = offset }

pub one_fault : (m : Module) (f g : VerifyFault) → IsFirstFault m f → IsFirstFault m g → f ≡ g
one_fault m f g a b =
    let same = one_tree_fault m m.code f.rule g.rule a.path b.path f.offset g.offset a.first b.first in
    let rules : f.rule ≡ g.rule = same.0 in
    let paths : f.path ≡ g.path = a.path_is ∙ (ap (λ z. 0 ∷ z) same.1 ∙ sym b.path_is) in
    let offsets : f.offset ≡ g.offset = same.2 in
    let faults : make_fault f.rule f.path f.offset ≡ make_fault g.rule g.path g.offset = cc in
    faults

pub fault_apart : (m : Module) (f : VerifyFault) → IsFirstFault m f → IsVerified m → ⊥
fault_apart m f a v = tree_apart m m.code f.rule a.path f.offset a.first v
