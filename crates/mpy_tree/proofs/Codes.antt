-- The codes of a module: the parts of each, and their places in the list.
use Rattle.std.proofs.Common.{◌≡◌, ◌⊎◌, inl, inr, ℕ, zero, suc, ◌+◌, ◌<◌, ◌≤◌, Bool, true, false, List, [], ◌∷◌, ◌++◌, length, get_or, Option, Some, None, refl, sym, ap, ap₂, subst, ◌∙◌, append_assoc, length-append, arith}
use Rattle.std.specs.Prelude.{slice_get, option_and_then, sum_by}
use Rattle.std.proofs.lemmas.List.{append-nil}
use Rattle.std.proofs.lemmas.List.Sums.{sum_by-cons}
use Rattle.qstr_pool.specs.mpy_base.declared.limits.TheConstants.{MAX_CODE_BYTES, MAX_DEPTH, MAX_TABLE}
use Rattle.mpy_tree.specs.declared.raw.RawCode.{RawCode, out-RawCode, out-roll-RawCode}
use Rattle.mpy_tree.specs.Codes.{code_at, IsBefore, Placed, Within, codes_by, numbers_by, codes_to, codes_of, IsPlaced}
use Rattle.mpy_tree.specs.File.{Many, AreChildren, IsCode, IsOwnCode, IsModule}
use Rattle.mpy_tree.specs.Raw.{Module}

-- the parts of a code of a file
-- =============================

abbrev pub children : RawCode → List RawCode
children code = (out-RawCode code).children

-- a code of `levels` levels at most, whose names stand in a table of `texts` texts
abbrev pub Nests : ℕ → ℕ → RawCode → Type 0
Nests texts levels code = (text : List ℕ) × IsCode levels texts text code

abbrev pub EachNests : ℕ → ℕ → List RawCode → Type 0
EachNests texts levels codes = (n : ℕ) (code : RawCode) → slice_get codes n ≡ Some code → Nests texts levels code

pub nth : (Inner : List ℕ → RawCode → Type 0) (text : List ℕ) (xs : List RawCode) (n : ℕ) (x : RawCode) → Many Inner text xs → slice_get xs n ≡ Some x → (front : List ℕ) × Inner front x
nth Inner text [] n x many e = absurd cc
nth Inner text (y ∷ ys) zero x many e = let same : y ≡ x = cc in (many.0, subst (Inner many.0) same many.2)
nth Inner text (y ∷ ys) (suc n) x many e = nth Inner many.1 ys n x many.4 e

pub nth_child : (Inner : List ℕ → RawCode → Type 0) (has : Bool) (text : List ℕ) (xs : List RawCode) (n : ℕ) (x : RawCode) → AreChildren Inner has text xs → slice_get xs n ≡ Some x → (front : List ℕ) × Inner front x
nth_child Inner false text xs n x are e =
    let none : slice_get [] n ≡ Some x = subst (λ z. slice_get z n ≡ Some x) are.1 e in
    absurd cc
nth_child Inner true text xs n x are e = nth Inner are.1 xs n x are.5 e

few_children : (Inner : List ℕ → RawCode → Type 0) (has : Bool) (text : List ℕ) (xs : List RawCode) → AreChildren Inner has text xs → length xs ≤ MAX_TABLE
few_children Inner false text xs are = omega (arith, ap length are.1)
few_children Inner true text xs are = are.3

pub record Whole (texts levels : ℕ) (code : RawCode) : Type 0 where
  pub below : ℕ
  pub levels_are : levels ≡ suc below
  pub own : IsOwnCode texts (out-RawCode code).bytes
  pub short : length (out-RawCode code).bytes ≤ MAX_CODE_BYTES
  pub few : length (children code) ≤ MAX_TABLE
  pub each : EachNests texts below (children code)

pub whole : (texts levels : ℕ) (code : RawCode) → Nests texts levels code → Whole texts levels code
unfolding IsCode
whole texts zero code w = absurd w.1
whole texts (suc below) code w =
    let e = w.1 in
    let parts = ap out-RawCode e.code_is ∙ out-roll-RawCode (record { bytes = e.own; children = e.children }) in
    let bytes : e.own ≡ (out-RawCode code).bytes = sym (ap (λ z. z.bytes) parts) in
    let inside : e.children ≡ children code = sym (ap (λ z. z.children) parts) in
    record {
      below = below;
      levels_are = refl;
      own = subst (IsOwnCode texts) bytes e.is_own;
      short = subst (λ z. length z ≤ MAX_CODE_BYTES) bytes e.short;
      few = subst (λ z. length z ≤ MAX_TABLE) inside (few_children (IsCode below texts) e.has_children e.behind e.children e.are_children);
      each = λ n child at. nth_child (IsCode below texts) e.has_children e.behind e.children n child e.are_children (subst (λ z. slice_get z n ≡ Some child) (sym inside) at);
    }

-- the outermost code of a module
pub module_nests : (m : Module) → IsModule m → Nests (length m.qstrs) MAX_DEPTH m.code
module_nests m is = (is.1.code, is.1.is_code)

-- places of lists
-- ===============

pub some_is : {A : Type 0} (x y : A) → Some x ≡ Some y → x ≡ y
some_is x y e = cc

pub and_then_some : {A B : Type 0} (o : Option A) (f : A → Option B) (y : B) → option_and_then f o ≡ Some y → (x : A) × (o ≡ Some x) × (f x ≡ Some y)
and_then_some None f y e = absurd cc
and_then_some (Some x) f y e = (x, refl, e)

pub get_some : {A : Type 0} → (xs : List A) (n : ℕ) → n < length xs → (x : A) × (slice_get xs n ≡ Some x)
get_some [] n lt = absurd (omega (arith, lt))
get_some (x ∷ xs) zero lt = (x, refl)
get_some (x ∷ xs) (suc n) lt = get_some xs n (omega (arith, lt))

pub get_at : {A : Type 0} → (xs : List A) (n : ℕ) (x : A) → n < length xs → x ≡ get_or xs n x → slice_get xs n ≡ Some x
get_at [] n x lt e = absurd (omega (arith, lt))
get_at (y ∷ xs) zero x lt e = ap Some (sym e)
get_at (y ∷ xs) (suc n) x lt e = get_at xs n x (omega (arith, lt)) e

pub get_within : {A : Type 0} → (xs : List A) (n : ℕ) (x : A) → slice_get xs n ≡ Some x → n < length xs
get_within [] n x e = absurd cc
get_within (y ∷ xs) zero x e = omega arith
get_within (y ∷ xs) (suc n) x e = let lt = get_within xs n x e in omega (arith, lt)

pub get_front : {A : Type 0} → (front behind : List A) (k : ℕ) (x : A) → slice_get front k ≡ Some x → slice_get (front ++ behind) k ≡ Some x
get_front [] behind k x e = absurd cc
get_front (y ∷ front) behind zero x e = e
get_front (y ∷ front) behind (suc k) x e = get_front front behind k x e

pub get_behind : {A : Type 0} → (front behind : List A) (j k : ℕ) → k ≡ length front + j → slice_get (front ++ behind) k ≡ slice_get behind j
get_behind [] behind j k e = let same : k ≡ j = omega (arith, e) in ap (slice_get behind) same
get_behind (x ∷ front) behind j zero e = absurd (omega (arith, e))
get_behind (x ∷ front) behind j (suc k) e = get_behind front behind j k (omega (arith, e))

pub parted : {A : Type 0} → (front behind : List A) (k : ℕ) (x : A) → slice_get (front ++ behind) k ≡ Some x → ((k < length front) × (slice_get front k ≡ Some x)) ⊎ ((j : ℕ) × (k ≡ length front + j) × (slice_get behind j ≡ Some x))
parted [] behind k x e = inr (k, omega arith, e)
parted (y ∷ front) behind zero x e = inl (omega arith, e)
parted (y ∷ front) behind (suc k) x e = elim (parted front behind k x e) [
  | inl f ↦ inl (let lt = f.0 in omega (arith, lt), f.1)
  | inr f ↦ inr (f.0, let is = f.1 in omega (arith, is), f.2)
]

-- preorder of paths
-- =================

-- a front that both have tells nothing
pub before_under : (front a b : List ℕ) → IsBefore a b → IsBefore (front ++ a) (front ++ b)
before_under [] a b h = h
before_under (n ∷ front) a b h = inr (refl, before_under front a b h)

pub before_more : (path inner : List ℕ) (n : ℕ) → IsBefore path (path ++ n ∷ inner)
before_more path inner n = subst (λ z. IsBefore z (path ++ n ∷ inner)) (append-nil path) (before_under path [] (n ∷ inner) tt)

-- from a place in the list to a path
-- ==================================

-- a place of a code that has a path: its path in that code, and what is there
pub record PlacedAt (path : List ℕ) (root : RawCode) (place : Placed) : Type 0 where
  pub inner : List ℕ
  pub code : RawCode
  pub path_is : place.path ≡ path ++ inner
  pub there : code_at inner root ≡ Some code
  pub bytes : place.bytes ≡ (out-RawCode code).bytes
  pub count : length place.children ≡ length (children code)

-- a place of children, of which the first has the place
pub record PlacedIn (path : List ℕ) (first : ℕ) (codes : List RawCode) (place : Placed) : Type 0 where
  pub index : ℕ
  pub child : RawCode
  pub is_child : slice_get codes index ≡ Some child
  pub at : PlacedAt (path ++ (first + index) ∷ []) child place

abbrev EachPlaced : Within → Type 0
EachPlaced within = (path : List ℕ) (number : ℕ) (code : RawCode) (k : ℕ) (place : Placed) → slice_get (within path number code) k ≡ Some place → PlacedAt path code place

here_in : (path : List ℕ) (first : ℕ) (code : RawCode) (codes : List RawCode) (place : Placed) → PlacedAt (path ++ first ∷ []) code place → PlacedIn path first (code ∷ codes) place
here_in path first code codes place at =
    let same : first ≡ first + 0 = omega arith in
    record { index = 0; child = code; is_child = refl; at = subst (λ n. PlacedAt (path ++ n ∷ []) code place) same at }

later_in : (path : List ℕ) (first : ℕ) (code : RawCode) (codes : List RawCode) (place : Placed) → PlacedIn path (suc first) codes place → PlacedIn path first (code ∷ codes) place
later_in path first code codes place p =
    let same : suc first + p.index ≡ first + suc p.index = omega arith in
    record { index = suc p.index; child = p.child; is_child = p.is_child; at = subst (λ n. PlacedAt (path ++ n ∷ []) p.child place) same p.at }

placed_in : (within : Within) → EachPlaced within → (path : List ℕ) (first number : ℕ) (codes : List RawCode) (k : ℕ) (place : Placed) → slice_get (codes_by within path first number codes) k ≡ Some place → PlacedIn path first codes place
placed_in within each path first number [] k place e = absurd cc
placed_in within each path first number (code ∷ codes) k place e =
    let own = within (path ++ first ∷ []) number code in
    elim (parted own (codes_by within path (suc first) (number + length own) codes) k place e) [
      | inl f ↦ here_in path first code codes place (each (path ++ first ∷ []) number code k place f.1)
      | inr f ↦ later_in path first code codes place (placed_in within each path (suc first) (number + length own) codes f.0 place f.2)
    ]

pub numbers_count : (within : Within) (path : List ℕ) (first number : ℕ) (codes : List RawCode) → length (numbers_by within path first number codes) ≡ length codes
numbers_count within path first number [] = refl
numbers_count within path first number (code ∷ codes) = ap suc (numbers_count within path (suc first) (number + length (within (path ++ first ∷ []) number code)) codes)

-- the code itself, in front of those in it
abbrev pub own_place : ℕ → List ℕ → ℕ → RawCode → Placed
own_place below path number code = record {
  path = path;
  bytes = (out-RawCode code).bytes;
  children = numbers_by (codes_to below) path 0 (suc number) (children code);
}

pub codes_open : (levels below : ℕ) (path : List ℕ) (number : ℕ) (code : RawCode) → levels ≡ suc below → codes_to levels path number code ≡ own_place below path number code ∷ codes_by (codes_to below) path 0 (suc number) (children code)
unfolding codes_to
codes_open levels below path number code e = ap (λ l. codes_to l path number code) e

placed_here : (below : ℕ) (path : List ℕ) (number : ℕ) (code : RawCode) (place : Placed) → own_place below path number code ≡ place → PlacedAt path code place
placed_here below path number code place e = subst (PlacedAt path code) e (record {
  inner = [];
  code = code;
  path_is = sym (append-nil path);
  there = refl;
  bytes = refl;
  count = numbers_count (codes_to below) path 0 (suc number) (children code);
})

placed_inside : (path : List ℕ) (code : RawCode) (place : Placed) → PlacedIn path 0 (children code) place → PlacedAt path code place
placed_inside path code place p =
    let at = p.at in
    let same : 0 + p.index ≡ p.index = omega arith in
    record {
      inner = p.index ∷ at.inner;
      code = at.code;
      path_is = at.path_is ∙ (ap (λ n. (path ++ n ∷ []) ++ at.inner) same ∙ append_assoc path (p.index ∷ []) at.inner);
      there = ap (option_and_then (code_at at.inner)) p.is_child ∙ at.there;
      bytes = at.bytes;
      count = at.count;
    }

pub placed_at : (levels : ℕ) → EachPlaced (codes_to levels)
unfolding codes_to
placed_at zero path number code k place e = absurd cc
placed_at (suc below) path number code zero place e = placed_here below path number code place (some_is (own_place below path number code) place e)
placed_at (suc below) path number code (suc k) place e = placed_inside path code place (placed_in (codes_to below) (placed_at below) path 0 (suc number) (children code) k place e)

pub module_placed : (m : Module) (k : ℕ) (place : Placed) → slice_get (codes_of m) k ≡ Some place → IsPlaced m place
module_placed m k place e =
    let p = placed_at MAX_DEPTH [] 0 m.code k place e in
    record { code = p.code; there = subst (λ z. code_at z m.code ≡ Some p.code) (sym p.path_is) p.there; bytes = p.bytes; children = p.count }

-- from a path to a place in the list
-- ==================================

-- a child's codes in those of the children: its number is how many are in front, from the first number on
pub record Child (within : Within) (path : List ℕ) (first number : ℕ) (codes : List RawCode) (n : ℕ) (child : RawCode) : Type 0 where
  pub before : List Placed
  pub behind : List Placed
  pub list_is : codes_by within path first number codes ≡ before ++ (within (path ++ (first + n) ∷ []) (number + length before) child ++ behind)
  pub number_is : slice_get (numbers_by within path first number codes) n ≡ Some (number + length before)

same_codes : (within : Within) (path : List ℕ) (m n i j : ℕ) (code : RawCode) → m ≡ n → i ≡ j → within (path ++ m ∷ []) i code ≡ within (path ++ n ∷ []) j code
same_codes within path m n i j code e f = ap₂ (λ x y. within (path ++ x ∷ []) y code) e f

pub child_there : (within : Within) (path : List ℕ) (first number : ℕ) (codes : List RawCode) (n : ℕ) (child : RawCode) → slice_get codes n ≡ Some child → Child within path first number codes n child
child_there within path first number [] n child e = absurd cc
child_there within path first number (code ∷ codes) zero child e =
    let same : code ≡ child = some_is code child e in
    let own = within (path ++ first ∷ []) number code in
    let others = codes_by within path (suc first) (number + length own) codes in
    subst (Child within path first number (code ∷ codes) 0) same (record {
      before = [];
      behind = others;
      list_is = ap (λ z. z ++ others) (same_codes within path first (first + 0) number (number + 0) code (omega arith) (omega arith));
      number_is = ap Some (let here : number ≡ number + 0 = omega arith in here);
    })
child_there within path first number (code ∷ codes) (suc n) child e =
    let own = within (path ++ first ∷ []) number code in
    let c = child_there within path (suc first) (number + length own) codes n child e in
    let place : suc first + n ≡ first + suc n = omega arith in
    let place_number : number + length own + length c.before ≡ number + length (own ++ c.before) = omega (arith, length-append own c.before) in
    record {
      before = own ++ c.before;
      behind = c.behind;
      list_is = ap (λ z. own ++ z) (c.list_is ∙ ap (λ z. c.before ++ (z ++ c.behind)) (same_codes within path (suc first + n) (first + suc n) (number + length own + length c.before) (number + length (own ++ c.before)) child place place_number))
          ∙ sym (append_assoc own c.before (within (path ++ (first + suc n) ∷ []) (number + length (own ++ c.before)) child ++ c.behind));
      number_is = c.number_is ∙ ap Some place_number;
    }

-- a place of a child, counted from the front of its codes
in_child : (within : Within) (path : List ℕ) (first number : ℕ) (codes : List RawCode) (n : ℕ) (child : RawCode) (c : Child within path first number codes n child) (k : ℕ) (place : Placed) → slice_get (within (path ++ (first + n) ∷ []) (number + length c.before) child) k ≡ Some place → slice_get (codes_by within path first number codes) (length c.before + k) ≡ Some place
in_child within path first number codes n child c k place e =
    let own = within (path ++ (first + n) ∷ []) (number + length c.before) child in
    ap (λ z. slice_get z (length c.before + k)) c.list_is
    ∙ (get_behind c.before (own ++ c.behind) k (length c.before + k) refl ∙ get_front own c.behind k place e)

-- the code of a path has a place
pub record PlaceOf (levels : ℕ) (path : List ℕ) (number : ℕ) (root : RawCode) (inner : List ℕ) : Type 0 where
  pub k : ℕ
  pub place : Placed
  pub there : slice_get (codes_to levels path number root) k ≡ Some place
  pub path_is : place.path ≡ path ++ inner

get_open : (levels below : ℕ) (path : List ℕ) (number : ℕ) (code : RawCode) (k : ℕ) (place : Placed) → levels ≡ suc below → slice_get (own_place below path number code ∷ codes_by (codes_to below) path 0 (suc number) (children code)) k ≡ Some place → slice_get (codes_to levels path number code) k ≡ Some place
get_open levels below path number code k place e f = ap (λ z. slice_get z k) (codes_open levels below path number code e) ∙ f

pub place_of : (texts levels : ℕ) (path : List ℕ) (number : ℕ) (root : RawCode) (inner : List ℕ) (code : RawCode) → Nests texts levels root → code_at inner root ≡ Some code → PlaceOf levels path number root inner
place_of texts levels path number root [] code nests e =
    let w = whole texts levels root nests in
    record {
      k = 0;
      place = own_place w.below path number root;
      there = get_open levels w.below path number root 0 (own_place w.below path number root) w.levels_are refl;
      path_is = sym (append-nil path);
    }
place_of texts levels path number root (n ∷ inner) code nests e =
    let w = whole texts levels root nests in
    let s = and_then_some (slice_get (children root) n) (code_at inner) code e in
    let within = codes_to w.below in
    let c = child_there within path 0 (suc number) (children root) n s.0 s.1 in
    let p = place_of texts w.below (path ++ (0 + n) ∷ []) (suc number + length c.before) s.0 inner code (w.each n s.0 s.1) s.2 in
    let same : 0 + n ≡ n = omega arith in
    record {
      k = suc (length c.before + p.k);
      place = p.place;
      there = get_open levels w.below path number root (suc (length c.before + p.k)) p.place w.levels_are (in_child within path 0 (suc number) (children root) n s.0 c p.k p.place p.there);
      path_is = p.path_is ∙ (ap (λ i. (path ++ i ∷ []) ++ inner) same ∙ append_assoc path (n ∷ []) inner);
    }

pub module_has : (m : Module) (path : List ℕ) (code : RawCode) → IsModule m → code_at path m.code ≡ Some code → (k : ℕ) × (place : Placed) × (slice_get (codes_of m) k ≡ Some place) × (place.path ≡ path)
module_has m path code is e =
    let p = place_of (length m.qstrs) MAX_DEPTH [] 0 m.code path code (module_nests m is) e in
    (p.k, p.place, p.there, p.path_is)

-- places keep preorder
-- ====================

abbrev EachOrdered : Within → Type 0
EachOrdered within = (path : List ℕ) (number : ℕ) (code : RawCode) (j k : ℕ) (a b : Placed) → slice_get (within path number code) j ≡ Some a → slice_get (within path number code) k ≡ Some b → j < k → IsBefore a.path b.path

-- those in a child are in front of those in a later one
front_first : (path : List ℕ) (first : ℕ) (code : RawCode) (codes : List RawCode) (a b : Placed) → PlacedAt (path ++ first ∷ []) code a → PlacedIn path (suc first) codes b → IsBefore a.path b.path
front_first path first code codes a b p q =
    let later = suc first + q.index in
    let lt : first < later = omega arith in
    let one : a.path ≡ path ++ first ∷ p.inner = p.path_is ∙ append_assoc path (first ∷ []) p.inner in
    let other : b.path ≡ path ++ later ∷ q.at.inner = q.at.path_is ∙ append_assoc path (later ∷ []) q.at.inner in
    subst (λ z. IsBefore z b.path) (sym one) (subst (λ z. IsBefore (path ++ first ∷ p.inner) z) (sym other) (before_under path (first ∷ p.inner) (later ∷ q.at.inner) (inl lt)))

ordered_in : (within : Within) → EachPlaced within → EachOrdered within → (path : List ℕ) (first number : ℕ) (codes : List RawCode) (j k : ℕ) (a b : Placed) → slice_get (codes_by within path first number codes) j ≡ Some a → slice_get (codes_by within path first number codes) k ≡ Some b → j < k → IsBefore a.path b.path
ordered_in within each order path first number [] j k a b e f lt = absurd cc
ordered_in within each order path first number (code ∷ codes) j k a b e f lt =
    let own = within (path ++ first ∷ []) number code in
    let others = codes_by within path (suc first) (number + length own) codes in
    elim (parted own others j a e) [
      | inl p ↦ elim (parted own others k b f) [
        | inl q ↦ order (path ++ first ∷ []) number code j k a b p.1 q.1 lt
        | inr q ↦ front_first path first code codes a b (each (path ++ first ∷ []) number code j a p.1) (placed_in within each path (suc first) (number + length own) codes q.0 b q.2)
      ]
      | inr p ↦ elim (parted own others k b f) [
        | inl q ↦ absurd (let less = q.0 in let is = p.1 in omega (arith, less, is, lt))
        | inr q ↦ ordered_in within each order path (suc first) (number + length own) codes p.0 q.0 a b p.2 q.2 (let is = p.1 in let so = q.1 in omega (arith, is, so, lt))
      ]
    ]

-- a code is in front of those in it
own_first : (below : ℕ) (path : List ℕ) (number : ℕ) (code : RawCode) (a b : Placed) → own_place below path number code ≡ a → PlacedIn path 0 (children code) b → IsBefore a.path b.path
own_first below path number code a b e q =
    let one : path ≡ a.path = ap (λ (z : Placed). z.path) e in
    let other : b.path ≡ path ++ (0 + q.index) ∷ q.at.inner = q.at.path_is ∙ append_assoc path ((0 + q.index) ∷ []) q.at.inner in
    subst (λ z. IsBefore z b.path) one (subst (λ z. IsBefore path z) (sym other) (before_more path q.at.inner (0 + q.index)))

pub ordered : (levels : ℕ) → EachOrdered (codes_to levels)
unfolding codes_to
ordered zero path number code j k a b e f lt = absurd cc
ordered (suc below) path number code zero zero a b e f lt = absurd (omega (arith, lt))
ordered (suc below) path number code zero (suc k) a b e f lt =
    own_first below path number code a b (some_is (own_place below path number code) a e) (placed_in (codes_to below) (placed_at below) path 0 (suc number) (children code) k b f)
ordered (suc below) path number code (suc j) zero a b e f lt = absurd (omega (arith, lt))
ordered (suc below) path number code (suc j) (suc k) a b e f lt =
    ordered_in (codes_to below) (placed_at below) (ordered below) path 0 (suc number) (children code) j k a b e f (omega (arith, lt))

pub module_ordered : (m : Module) (j k : ℕ) (a b : Placed) → slice_get (codes_of m) j ≡ Some a → slice_get (codes_of m) k ≡ Some b → j < k → IsBefore a.path b.path
module_ordered m j k a b e f lt = ordered MAX_DEPTH [] 0 m.code j k a b e f lt

-- numbers are places
-- ==================

-- the child that a place numbers `j` has that place in the list, counted from the list's first number
pub record NumberedChild (list : List Placed) (number : ℕ) (place : Placed) (n j : ℕ) : Type 0 where
  pub k : ℕ
  pub child : Placed
  pub number_is : j ≡ number + k
  pub there : slice_get list k ≡ Some child
  pub path_is : child.path ≡ place.path ++ n ∷ []

abbrev EachNumbered : ℕ → ℕ → Within → Type 0
EachNumbered texts levels within = (path : List ℕ) (number : ℕ) (code : RawCode) (k n j : ℕ) (place : Placed) → Nests texts levels code → slice_get (within path number code) k ≡ Some place → slice_get place.children n ≡ Some j → NumberedChild (within path number code) number place n j

in_front : (front behind : List Placed) (number : ℕ) (place : Placed) (n j : ℕ) → NumberedChild front number place n j → NumberedChild (front ++ behind) number place n j
in_front front behind number place n j c = record { k = c.k; child = c.child; number_is = c.number_is; there = get_front front behind c.k c.child c.there; path_is = c.path_is }

further : (front behind : List Placed) (number : ℕ) (place : Placed) (n j : ℕ) → NumberedChild behind (number + length front) place n j → NumberedChild (front ++ behind) number place n j
further front behind number place n j c =
    let is = c.number_is in
    record { k = length front + c.k; child = c.child; number_is = omega (arith, is); there = get_behind front behind c.k (length front + c.k) refl ∙ c.there; path_is = c.path_is }

numbered_in : (texts levels : ℕ) (within : Within) → EachNumbered texts levels within → (path : List ℕ) (first number : ℕ) (codes : List RawCode) (k n j : ℕ) (place : Placed) → EachNests texts levels codes → slice_get (codes_by within path first number codes) k ≡ Some place → slice_get place.children n ≡ Some j → NumberedChild (codes_by within path first number codes) number place n j
numbered_in texts levels within each path first number [] k n j place nest e f = absurd cc
numbered_in texts levels within each path first number (code ∷ codes) k n j place nest e f =
    let own = within (path ++ first ∷ []) number code in
    let others = codes_by within path (suc first) (number + length own) codes in
    elim (parted own others k place e) [
      | inl p ↦ in_front own others number place n j (each (path ++ first ∷ []) number code k n j place (nest 0 code refl) p.1 f)
      | inr p ↦ further own others number place n j (numbered_in texts levels within each path (suc first) (number + length own) codes p.0 n j place (λ i c at. nest (suc i) c at) p.2 f)
    ]

-- the own place of a code that nests
first_place : (texts levels : ℕ) (path : List ℕ) (number : ℕ) (code : RawCode) → Nests texts levels code → (place : Placed) × (slice_get (codes_to levels path number code) 0 ≡ Some place) × (place.path ≡ path)
first_place texts levels path number code nests =
    let w = whole texts levels code nests in
    (own_place w.below path number code, get_open levels w.below path number code 0 (own_place w.below path number code) w.levels_are refl, refl)

own_numbers : (texts below : ℕ) (path : List ℕ) (number : ℕ) (code : RawCode) (n j : ℕ) → EachNests texts below (children code) → slice_get (numbers_by (codes_to below) path 0 (suc number) (children code)) n ≡ Some j
    → NumberedChild (own_place below path number code ∷ codes_by (codes_to below) path 0 (suc number) (children code)) number (own_place below path number code) n j
own_numbers texts below path number code n j nest e =
    let within = codes_to below in
    let count = numbers_count within path 0 (suc number) (children code) in
    let lt = get_within (numbers_by within path 0 (suc number) (children code)) n j e in
    let s = get_some (children code) n (omega (arith, count, lt)) in
    let c = child_there within path 0 (suc number) (children code) n s.0 s.1 in
    let is : suc number + length c.before ≡ j = some_is (suc number + length c.before) j (sym c.number_is ∙ e) in
    let one = first_place texts below (path ++ (0 + n) ∷ []) (suc number + length c.before) s.0 (nest n s.0 s.1) in
    let place : 0 + n ≡ n = omega arith in
    let here : length c.before + 0 ≡ length c.before = omega arith in
    record {
      k = suc (length c.before);
      child = one.0;
      number_is = omega (arith, is);
      there = ap (slice_get (codes_by within path 0 (suc number) (children code))) (sym here) ∙ in_child within path 0 (suc number) (children code) n s.0 c 0 one.0 one.1;
      path_is = one.2 ∙ ap (λ z. path ++ z ∷ []) place;
    }

under : (first : Placed) (list : List Placed) (number : ℕ) (place : Placed) (n j : ℕ) → NumberedChild list (suc number) place n j → NumberedChild (first ∷ list) number place n j
under first list number place n j c =
    let is = c.number_is in
    record { k = suc c.k; child = c.child; number_is = omega (arith, is); there = c.there; path_is = c.path_is }

pub numbered : (texts levels : ℕ) → EachNumbered texts levels (codes_to levels)
unfolding codes_to
numbered texts zero path number code k n j place nests e f = absurd cc
numbered texts (suc below) path number code zero n j place nests e f =
    let w = whole texts (suc below) code nests in
    let same : w.below ≡ below = let is = w.levels_are in omega (arith, is) in
    let own = own_place below path number code in
    let is : own ≡ place = some_is own place e in
    subst (λ z. NumberedChild (codes_to (suc below) path number code) number z n j) is
    (own_numbers texts below path number code n j (subst (λ z. EachNests texts z (children code)) same w.each) (subst (λ (z : Placed). slice_get z.children n ≡ Some j) (sym is) f))
numbered texts (suc below) path number code (suc k) n j place nests e f =
    let w = whole texts (suc below) code nests in
    let same : w.below ≡ below = let is = w.levels_are in omega (arith, is) in
    under (own_place below path number code) (codes_by (codes_to below) path 0 (suc number) (children code)) number place n j
    (numbered_in texts below (codes_to below) (numbered texts below) path 0 (suc number) (children code) k n j place (subst (λ z. EachNests texts z (children code)) same w.each) e f)

pub module_numbered : (m : Module) (k n j : ℕ) (place : Placed) → IsModule m → slice_get (codes_of m) k ≡ Some place → slice_get place.children n ≡ Some j → (child : Placed) × (slice_get (codes_of m) j ≡ Some child) × (child.path ≡ place.path ++ n ∷ [])
module_numbered m k n j place is e f =
    let c = numbered (length m.qstrs) MAX_DEPTH [] 0 m.code k n j place (module_nests m is) e f in
    let same : c.k ≡ j = let number = c.number_is in omega (arith, number) in
    (c.child, ap (slice_get (codes_of m)) (sym same) ∙ c.there, c.path_is)

-- how many there are
-- ==================

-- how many codes there are in that number of levels, the code itself the first
abbrev pub count_to : ℕ → RawCode → ℕ
count_to levels code = length (codes_to levels [] 0 code)

counted_by : (within : Within) (count : RawCode → ℕ) → ((path : List ℕ) (number : ℕ) (code : RawCode) → length (within path number code) ≡ count code) → (path : List ℕ) (first number : ℕ) (codes : List RawCode) → length (codes_by within path first number codes) ≡ sum_by count codes
counted_by within count each path first number [] = refl
counted_by within count each path first number (code ∷ codes) =
    let own = within (path ++ first ∷ []) number code in
    length-append own (codes_by within path (suc first) (number + length own) codes)
    ∙ (ap₂ (λ a b. a + b) (each (path ++ first ∷ []) number code) (counted_by within count each path (suc first) (number + length own) codes) ∙ sym (sum_by-cons count code codes))

-- neither path nor number changes it
pub counted : (levels : ℕ) (path : List ℕ) (number : ℕ) (code : RawCode) → length (codes_to levels path number code) ≡ count_to levels code
unfolding codes_to
counted zero path number code = refl
counted (suc below) path number code =
    let each = counted below in
    ap suc (counted_by (codes_to below) (count_to below) each path 0 (suc number) (children code) ∙ sym (counted_by (codes_to below) (count_to below) each [] 0 1 (children code)))

pub count_more : (levels below : ℕ) (code : RawCode) → levels ≡ suc below → count_to levels code ≡ suc (sum_by (count_to below) (children code))
count_more levels below code e = ap length (codes_open levels below [] 0 code e) ∙ ap suc (counted_by (codes_to below) (count_to below) (counted below) [] 0 1 (children code))
