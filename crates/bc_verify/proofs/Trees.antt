-- The codes of a tree, as a walk through it meets them.
use Rattle.std.proofs.Common.{◌≡◌, ℕ, suc, ◌+◌, ◌-◌, ◌<◌, ◌≤◌, List, [], ◌∷◌, length, take, below_more, Option, Some, None, inl, inr, refl, sym, ap, subst, ◌∙◌, arith}
use Rattle.std.specs.Prelude.{slice_get, option_and_then, IfSome, IfNone, min, sum_by}
use Rattle.std.proofs.lemmas.List.{take_all}
use Rattle.mpy_base.specs.declared.limits.TheConstants.{MAX_CODE_BYTES, MAX_DEPTH}
use Rattle.mpy_tree.specs.declared.raw.RawCode.{RawCode, out-RawCode}
use Rattle.mpy_tree.specs.Raw.{Module}
use Rattle.mpy_tree.specs.File.{IsModule}
use Rattle.mpy_tree.specs.Codes.{code_at, IsBefore, codes_to}
use Rattle.mpy_tree.proofs.Codes.{children, Nests, whole, module_nests, and_then_some, get_within, count_to, count_more}
use Rattle.bc_verify.specs.declared.fault.Rule.{Rule}
use Rattle.bc_verify.specs.Verified.{IsVerifiedCode, AreVerified, IsCodeFault, IsTreeFault}

-- what holds of a tree
-- ====================

pub some_of : {A : Type 0} (o : Option A) (P : A → Type 0) (x : A) → o ≡ Some x → IfSome o P → P x
some_of o P x e h = subst (λ z. IfSome z P) e h

pub none_of : {A : Type 0} (o : Option A) (P : Type 0) → ((x : A) → o ≡ Some x → ⊥) → IfNone o P → P
none_of None P unlike h = h
none_of (Some x) P unlike h = absurd (unlike x refl)

-- a code in another has no more levels, and no more bytes than a code may have
short_in : (texts levels : ℕ) (root : RawCode) (path : List ℕ) (code : RawCode) → Nests texts levels root → code_at path root ≡ Some code → length (out-RawCode code).bytes ≤ MAX_CODE_BYTES
short_in texts levels root [] code w e = let is : root ≡ code = cc in subst (λ z. length (out-RawCode z).bytes ≤ MAX_CODE_BYTES) is (whole texts levels root w).short
short_in texts levels root (n ∷ path) code w e =
    let s = and_then_some (slice_get (children root) n) (code_at path) code e in
    let inside = whole texts levels root w in
    short_in texts inside.below s.0 path code (inside.each n s.0 s.1) s.2

pub short_codes : (m : Module) (path : List ℕ) (code : RawCode) → IsModule m → code_at path m.code ≡ Some code → length (out-RawCode code).bytes ≤ MAX_CODE_BYTES
short_codes m path code w e = short_in (length m.qstrs) MAX_DEPTH m.code path code (module_nests m w) e

-- the first `n` children are verified, with what is in them
abbrev pub Done : Module → RawCode → ℕ → Type 0
Done m root n = (k : ℕ) (child : RawCode) → k < n → slice_get (children root) k ≡ Some child → AreVerified m child

pub none_done : (m : Module) (root : RawCode) → Done m root 0
none_done m root k child lt e = absurd (omega (arith, lt))

pub one_done : (m : Module) (root child : RawCode) (n : ℕ) → slice_get (children root) n ≡ Some child → AreVerified m child → Done m root n → Done m root (n + 1)
one_done m root child n here verified done k other lt e =
    below_more (λ (i : ℕ). (c : RawCode) → slice_get (children root) i ≡ Some c → AreVerified m c) n (λ i less c at. done i c less at) (λ c at. same_verified c at) k lt other e
  where
    same_verified : (c : RawCode) → slice_get (children root) n ≡ Some c → AreVerified m c
    same_verified c at =
        let one : Some child ≡ Some c = sym here ∙ at in
        let is : child ≡ c = cc in
        subst (AreVerified m) is verified

pub all_done : (m : Module) (root : RawCode) (n : ℕ) → length (children root) ≤ n → IsVerifiedCode m root → Done m root n → AreVerified m root
all_done m root n le verified done [] code e = let is : root ≡ code = cc in subst (IsVerifiedCode m) is verified
all_done m root n le verified done (k ∷ path) code e =
    let s = and_then_some (slice_get (children root) k) (code_at path) code e in
    let lt = get_within (children root) k s.0 s.1 in
    done k s.0 (omega (arith, lt, le)) s.1 path code s.2

none_before : (path : List ℕ) → IsBefore path [] → ⊥
none_before [] b = b
none_before (n ∷ path) b = b

pub fault_here : (m : Module) (root : RawCode) (rule : Rule) (offset : ℕ) → IsCodeFault m root rule offset → IsTreeFault m root rule [] offset
fault_here m root rule offset fault = record {
  code = root;
  is = refl;
  fault = fault;
  before = λ other earlier b e. absurd (none_before other b);
}

before_below : (m : Module) (root child : RawCode) (n : ℕ) (rule : Rule) (path : List ℕ) (offset : ℕ) → IsVerifiedCode m root → slice_get (children root) n ≡ Some child → Done m root n → IsTreeFault m child rule path offset → (other : List ℕ) (earlier : RawCode) → IsBefore other (n ∷ path) → code_at other root ≡ Some earlier → IsVerifiedCode m earlier
before_below m root child n rule path offset verified here done f [] earlier b e = let is : root ≡ earlier = cc in subst (IsVerifiedCode m) is verified
before_below m root child n rule path offset verified here done f (k ∷ other) earlier (inl lt) e =
    let s = and_then_some (slice_get (children root) k) (code_at other) earlier e in
    done k s.0 lt s.1 other earlier s.2
before_below m root child n rule path offset verified here done f (k ∷ other) earlier (inr b) e =
    let s = and_then_some (slice_get (children root) k) (code_at other) earlier e in
    let at : slice_get (children root) n ≡ Some s.0 = subst (λ i. slice_get (children root) i ≡ Some s.0) b.0 s.1 in
    let one : Some s.0 ≡ Some child = sym at ∙ here in
    let is : s.0 ≡ child = cc in
    f.before other earlier b.1 (subst (λ z. code_at other z ≡ Some earlier) is s.2)

pub fault_below : (m : Module) (root child : RawCode) (n : ℕ) (rule : Rule) (path : List ℕ) (offset : ℕ) → IsVerifiedCode m root → slice_get (children root) n ≡ Some child → Done m root n → IsTreeFault m child rule path offset → IsTreeFault m root rule (n ∷ path) offset
fault_below m root child n rule path offset verified here done f = record {
  code = f.code;
  is = ap (option_and_then (code_at path)) here ∙ f.is;
  fault = f.fault;
  before = before_below m root child n rule path offset verified here done f;
}

-- the count
-- =========

pub count_none : (most levels : ℕ) (code : RawCode) → levels ≡ 0 → 0 ≡ min (count_to levels code) most
unfolding codes_to
count_none most levels code e = subst (λ n. 0 ≡ min (count_to n code) most) (sym e) (omega arith)

pub count_all : (most levels index codes : ℕ) (code : RawCode) → 0 < levels → length (children code) ≤ index → codes ≡ min (1 + sum_by (count_to (levels - 1)) (take index (children code))) most → codes ≡ min (count_to levels code) most
count_all most levels index codes code some le e =
    let more = count_more levels (levels - 1) code (omega arith) in
    let all : 1 + sum_by (count_to (levels - 1)) (take index (children code)) ≡ suc (sum_by (count_to (levels - 1)) (children code)) =
    ap (λ xs. 1 + sum_by (count_to (levels - 1)) xs) (take_all index (children code) le) ∙ omega arith in
    e ∙ ap (λ n. min n most) (all ∙ sym more)
