-- The codes of a tree, as a walk through it meets them.
use Rattle.std.proofs.Common.{◌≡◌, ℕ, zero, suc, ◌+◌, ◌-◌, ◌<◌, ◌≤◌, List, [], ◌∷◌, ◌++◌, length, drop, get_or, Option, Result, Ok, Err, IsErr, refl, sym, ap, subst, ◌∙◌, append_assoc, arith}
use Rattle.std.proofs.lemmas.List.{drop_more, drop_all}
use Rattle.mpy_io.specs.declared.fault.Failed.{Failed}
use Rattle.mpy_base.specs.declared.limits.TheConstants.{MAX_DEPTH}
use Rattle.mpy_tree.specs.declared.raw.RawCode.{RawCode, out-RawCode}
use Rattle.mpy_tree.specs.Codes.{Placed, codes_by, codes_to, codes_of}
use Rattle.mpy_tree.specs.Raw.{Module}
use Rattle.mpy_tree.specs.File.{Many, IsCode, IsModule}
use Rattle.mpy_tree.proofs.Codes.{children, Nests, EachNests, Whole, whole, module_nests, get_at, own_place, codes_open}
use Rattle.mpy_dump.specs.Codes.{IsCodeText, IsOwnText, AreCodesText}
use Rattle.mpy_dump.specs.Puts.{Puts}
use Rattle.mpy_dump.proofs.Putting.{Partway, begin, step, stop, done}
use Rattle.mpy_dump.proofs.Bodies.{own_text}

-- what is there
-- =============

abbrev pub bytes_of : RawCode → List ℕ
bytes_of code = (out-RawCode code).bytes

-- a code of `levels` levels at most
abbrev pub Fits : ℕ → RawCode → Type 0
Fits levels code = (texts : ℕ) × (text : List ℕ) × IsCode levels texts text code

pub whole_of : (levels : ℕ) (code : RawCode) (fits : Fits levels code) → Whole fits.0 levels code
whole_of levels code fits = whole fits.0 levels code (fits.1, fits.2)

some_levels : (levels : ℕ) (code : RawCode) → Fits levels code → levels ≡ suc (levels - 1)
some_levels levels code fits = let w = whole_of levels code fits in omega (arith, w.levels_are)

each_below : (levels : ℕ) (code : RawCode) (fits : Fits levels code) → EachNests fits.0 (levels - 1) (children code)
each_below levels code fits =
    let w = whole_of levels code fits in
    let below : w.below ≡ levels - 1 = omega (arith, w.levels_are) in
    subst (λ l. EachNests fits.0 l (children code)) below w.each

pub child_fits : (levels : ℕ) (code child : RawCode) (place : ℕ) → Fits levels code → place < length (children code) → child ≡ get_or (children code) place child → Fits (levels - 1) child
child_fits levels code child place fits within read =
    let inside = each_below levels code fits place child (get_at (children code) place child within read) in
    (fits.0, inside.0, inside.1)

-- the outermost code of a module
pub module_fits : (m : Module) → IsModule m → Fits MAX_DEPTH m.code
module_fits m is = (length m.qstrs, is.1.code, is.1.is_code)

-- codes one after another
-- =======================

-- what is written for codes, of which the first has the place, whatever its number
abbrev pub AreIn : Module → ℕ → List ℕ → ℕ → List RawCode → List ℕ → Type 0
AreIn m levels path place codes text =
    (number : ℕ) → Many (IsCodeText m) text (codes_by (codes_to levels) path place number codes)

many_append : (m : Module) (a b : List ℕ) (xs ys : List Placed) → Many (IsCodeText m) a xs → Many (IsCodeText m) b ys → Many (IsCodeText m) (a ++ b) (xs ++ ys)
many_append m a b [] ys s t = subst (λ (z : List ℕ). Many (IsCodeText m) (z ++ b) ys) (sym s) t
many_append m a b (x ∷ xs) ys s t =
    (s.0, s.1 ++ b, s.2, ap (λ (z : List ℕ). z ++ b) s.3 ∙ append_assoc s.0 s.1 b, many_append m s.1 b xs ys s.4 t)

-- the first of them, and those behind it
in_front : (m : Module) (levels : ℕ) (path : List ℕ) (place : ℕ) (code : RawCode) (codes : List RawCode) (a b : List ℕ) → AreCodesText m levels (path ++ place ∷ []) code a → AreIn m levels path (suc place) codes b → AreIn m levels path place (code ∷ codes) (a ++ b)
in_front m levels path place code codes a b first others number =
    let own = codes_to levels (path ++ place ∷ []) number code in
    let behind = number + length own in
    many_append m a b own (codes_by (codes_to levels) path (suc place) behind codes) (first number) (others behind)

-- its own text, and those of its children
with_inside : (m : Module) (levels below : ℕ) (path : List ℕ) (code : RawCode) (a b : List ℕ) → levels ≡ suc below → IsOwnText m path (bytes_of code) a → AreIn m below path 0 (children code) b → AreCodesText m levels path code (a ++ b)
with_inside m levels below path code a b e own inside number =
    let here = own_place below path number code in
    subst (Many (IsCodeText m) (a ++ b)) (sym (codes_open levels below path number code e)) (a, b, own here.children, refl, inside (suc number))

-- there is something to write
-- ===========================

exist : (m : Module) (levels texts : ℕ) → ((code : RawCode) → Nests texts levels code → (path : List ℕ) → (text : List ℕ) × AreCodesText m levels path code text) → (codes : List RawCode) → EachNests texts levels codes → (path : List ℕ) (place : ℕ) → (text : List ℕ) × AreIn m levels path place codes text
exist m levels texts one [] each path place = ([], λ number. refl)
exist m levels texts one (code ∷ codes) each path place =
    let first = one code (each 0 code refl) (path ++ place ∷ []) in
    let others = exist m levels texts one codes (λ n c at. each (suc n) c at) path (suc place) in
    (first.0 ++ others.0, in_front m levels path place code codes first.0 others.0 first.1 others.1)

code_exists : (levels : ℕ) (m : Module) (texts : ℕ) (code : RawCode) → Nests texts levels code → (path : List ℕ) → (text : List ℕ) × AreCodesText m levels path code text
unfolding IsCode
code_exists zero m texts code n path = absurd n.1
code_exists (suc levels) m texts code n path =
    let w = whole texts (suc levels) code n in
    let own = own_text m path (bytes_of code) w.own in
    let below : w.below ≡ levels = omega (arith, w.levels_are) in
    let each = subst (λ l. EachNests texts l (children code)) below w.each in
    let inside = exist m levels texts (λ c k p. code_exists levels m texts c k p) (children code) each path 0 in
    (own.0 ++ inside.0, with_inside m (suc levels) levels path code own.0 inside.0 refl own.1 inside.1)

pub module_exists : (m : Module) → IsModule m → (text : List ℕ) × Many (IsCodeText m) text (codes_of m)
module_exists m is =
    let all = code_exists MAX_DEPTH m (length m.qstrs) m.code (module_nests m is) [] in
    (all.0, all.1 0)

each_drop : (texts levels k : ℕ) (codes : List RawCode) → EachNests texts levels codes → EachNests texts levels (drop k codes)
each_drop texts levels zero codes each = each
each_drop texts levels (suc k) [] each = each
each_drop texts levels (suc k) (code ∷ codes) each = each_drop texts levels k codes (λ n c at. each (suc n) c at)

-- the children from a place on
exist_from : (m : Module) (levels : ℕ) (path : List ℕ) (code : RawCode) (place : ℕ) → Fits levels code → (text : List ℕ) × AreIn m (levels - 1) path place (drop place (children code)) text
exist_from m levels path code place fits =
    let texts = fits.0 in
    let each = each_drop texts (levels - 1) place (children code) (each_below levels code fits) in
    exist m (levels - 1) texts (λ c k p. code_exists (levels - 1) m texts c k p) (drop place (children code)) each path place

-- the walk
-- ========

-- the first `place` children were put: with the texts of the others, the text is one of the code and of those in it
abbrev pub Reached : {S : Type 0} → (S → Option (List ℕ)) → (S → ℕ) → S → S → Module → ℕ → List ℕ → RawCode → ℕ → Type 0
Reached told count old now m levels path code place =
    (rest : List ℕ) → AreIn m (levels - 1) path place (drop place (children code)) rest
    → (text : List ℕ) × AreCodesText m levels path code text × Partway told count old now text rest

pub reached_none : {S : Type 0} {told : S → Option (List ℕ)} {count : S → ℕ} {old now : S} (m : Module) (levels : ℕ) (path : List ℕ) (code : RawCode) (bytes : List ℕ) {u : Unit {0}} → Fits levels code → bytes ≡ bytes_of code → (text : List ℕ) × IsOwnText m path bytes text × Puts told count old now text (Ok u) → Reached told count old now m levels path code 0
reached_none {S} {told} {count} {old} {now} m levels path code bytes fits same p = λ rest are. (
  p.0 ++ rest,
  with_inside m levels (levels - 1) path code p.0 rest (some_levels levels code fits) (subst (λ (z : List ℕ). IsOwnText m path z p.0) same p.1) are,
  step rest (begin told count old (p.0 ++ rest)) p.2,
)

pub stopped_first : {S : Type 0} {told : S → Option (List ℕ)} {count : S → ℕ} {old now : S} (m : Module) (levels : ℕ) (path : List ℕ) (code : RawCode) (bytes : List ℕ) (r : Result (Unit {0}) Failed) {e : Failed} → IsErr r → Fits levels code → bytes ≡ bytes_of code → (text : List ℕ) × IsOwnText m path bytes text × Puts told count old now text (Err e) → (text : List ℕ) × AreCodesText m levels path code text × Puts told count old now text r
stopped_first {S} {told} {count} {old} {now} m levels path code bytes r is fits same p =
    let others = exist_from m levels path code 0 fits in (
      p.0 ++ others.0,
      with_inside m levels (levels - 1) path code p.0 others.0 (some_levels levels code fits) (subst (λ (z : List ℕ). IsOwnText m path z p.0) same p.1) others.1,
      stop others.0 r is (begin told count old (p.0 ++ others.0)) p.2,
    )

-- the text of a child and of those in it, in front of the texts of later children
with_child : (m : Module) (levels : ℕ) (path : List ℕ) (codes : List RawCode) (place : ℕ) (child : RawCode) → place < length codes → child ≡ get_or codes place child → (text rest : List ℕ) → AreCodesText m levels (path ++ place ∷ []) child text → AreIn m levels path (place + 1) (drop (place + 1) codes) rest → AreIn m levels path place (drop place codes) (text ++ rest)
with_child m levels path codes place child within read text rest are others =
    let next : place + 1 ≡ suc place = omega arith in
    let there : drop place codes ≡ child ∷ drop (place + 1) codes = drop_more codes place child within ∙ ap (λ z. z ∷ drop (place + 1) codes) (sym read) in
    let behind = subst (λ n. AreIn m levels path n (drop (place + 1) codes) rest) next others in
    subst (λ z. AreIn m levels path place z (text ++ rest)) (sym there) (in_front m levels path place child (drop (place + 1) codes) text rest are behind)

pub reached_more : {S : Type 0} {told : S → Option (List ℕ)} {count : S → ℕ} {old now next : S} (m : Module) (levels : ℕ) (path : List ℕ) (code : RawCode) (place : ℕ) (child : RawCode) {u : Unit {0}} → place < length (children code) → child ≡ get_or (children code) place child → Reached told count old now m levels path code place → (text : List ℕ) × AreCodesText m (levels - 1) (path ++ place ∷ []) child text × Puts told count now next text (Ok u) → Reached told count old next m levels path code (place + 1)
reached_more {S} {told} {count} {old} {now} {next} m levels path code place child within read reached p = λ rest are.
    let all = reached (p.0 ++ rest) (with_child m (levels - 1) path (children code) place child within read p.0 rest p.1 are) in
    (all.0, all.1, step rest all.2 p.2)

pub stopped : {S : Type 0} {told : S → Option (List ℕ)} {count : S → ℕ} {old now next : S} (m : Module) (levels : ℕ) (path : List ℕ) (code : RawCode) (place : ℕ) (child : RawCode) (r : Result (Unit {0}) Failed) {e : Failed} → IsErr r → Fits levels code → place < length (children code) → child ≡ get_or (children code) place child → Reached told count old now m levels path code place → (text : List ℕ) × AreCodesText m (levels - 1) (path ++ place ∷ []) child text × Puts told count now next text (Err e) → (text : List ℕ) × AreCodesText m levels path code text × Puts told count old next text r
stopped {S} {told} {count} {old} {now} {next} m levels path code place child r is fits within read reached p =
    let others = exist_from m levels path code (place + 1) fits in
    let all = reached (p.0 ++ others.0) (with_child m (levels - 1) path (children code) place child within read p.0 others.0 p.1 others.1) in
    (all.0, all.1, stop others.0 r is all.2 p.2)

pub reached_all : {S : Type 0} {told : S → Option (List ℕ)} {count : S → ℕ} {old now : S} (m : Module) (levels : ℕ) (path : List ℕ) (code : RawCode) (place : ℕ) (u : Unit {0}) → length (children code) ≤ place → Reached told count old now m levels path code place → (text : List ℕ) × AreCodesText m levels path code text × Puts told count old now text (Ok u)
reached_all {S} {told} {count} {old} {now} m levels path code place u past reached =
    let none : drop place (children code) ≡ [] = drop_all place (children code) past in
    let all = reached [] (subst (λ z. AreIn m (levels - 1) path place z []) (sym none) (λ number. refl)) in
    (all.0, all.1, done u all.2)
