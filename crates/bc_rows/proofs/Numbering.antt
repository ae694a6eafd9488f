-- Codes by their numbers, and the rows of them.
use Rattle.std.proofs.Common.{◌≡◌, ℕ, zero, suc, ◌+◌, ◌-◌, ◌<◌, ◌≤◌, List, [], ◌∷◌, ◌++◌, length, get_or, take, Some, refl, sym, ap, ap₂, subst, ◌∙◌, append_assoc, length-append, arith}
use Rattle.std.specs.Prelude.{slice_get, slice_set}
use Rattle.std.proofs.lemmas.List.{append-nil, take_more, take_all, length-take-le}
use Rattle.mpy_base.specs.declared.limits.TheConstants.{MAX_DEPTH}
use Rattle.bc_machine.specs.mpy_tree.declared.raw.RawCode.{RawCode, out-RawCode}
use Rattle.bc_machine.specs.mpy_tree.Raw.{Module}
use Rattle.bc_machine.specs.mpy_tree.Codes.{Placed, Within, codes_by, numbers_by, codes_to, codes_of}
use Rattle.bc_machine.proofs.mpy_tree_lemmas.Codes.{children, Nests, whole, codes_open}
use Rattle.bc_library.specs.Shelf.{Shelf}
use Rattle.bc_rows.specs.declared.row.Row.{Row}
use Rattle.bc_rows.specs.Made.{IsCodeIn, AreRows, Adds, with_children}
use Rattle.bc_rows.specs.Rows.{IsRowOf}

-- the next child, one level below
pub child_of : (shelf : Shelf) (i levels : ℕ) (code child : RawCode) (n : ℕ) → IsCodeIn shelf i levels code → slice_get (children code) n ≡ Some child → IsCodeIn shelf i (levels - 1) child
child_of shelf i levels code child n is at =
    let w = whole (length is.0.qstrs) levels code (is.2, is.3) in
    let below : w.below ≡ levels - 1 = omega (arith, w.levels_are) in
    let inner = subst (λ l. Nests (length is.0.qstrs) l child) below (w.each n child at) in
    (is.0, is.1, inner.0, inner.1)

-- codes one after another
-- =======================

codes_push : (within : Within) (path : List ℕ) (place number : ℕ) (xs : List RawCode) (y : RawCode) → codes_by within path place number (xs ++ y ∷ [])
    ≡ codes_by within path place number xs ++ within (path ++ (place + length xs) ∷ []) (number + length (codes_by within path place number xs)) y
codes_push within path place number [] y =
    let first : place ≡ place + 0 = omega arith in
    let here : number ≡ number + 0 = omega arith in
    append-nil (within (path ++ place ∷ []) number y) ∙ ap₂ (λ i n. within (path ++ i ∷ []) n y) first here
codes_push within path place number (x ∷ xs) y =
    let first = within (path ++ place ∷ []) number x in
    let behind = codes_by within path (suc place) (number + length first) xs in
    let at : suc place + length xs ≡ place + length (x ∷ xs) = omega arith in
    let here : number + length first + length behind ≡ number + length (first ++ behind) = omega (arith, length-append first behind) in
    ap (λ z. first ++ z) (codes_push within path (suc place) (number + length first) xs y ∙ ap₂ (λ i n. behind ++ within (path ++ i ∷ []) n y) at here)
    ∙ sym (append_assoc first behind (within (path ++ (place + length (x ∷ xs)) ∷ []) (number + length (first ++ behind)) y))

numbers_push : (within : Within) (path : List ℕ) (place number : ℕ) (xs : List RawCode) (y : RawCode) → numbers_by within path place number (xs ++ y ∷ [])
    ≡ numbers_by within path place number xs ++ (number + length (codes_by within path place number xs)) ∷ []
numbers_push within path place number [] y = let here : number ≡ number + 0 = omega arith in ap (λ n. n ∷ []) here
numbers_push within path place number (x ∷ xs) y =
    let first = within (path ++ place ∷ []) number x in
    let behind = codes_by within path (suc place) (number + length first) xs in
    let here : number + length first + length behind ≡ number + length (first ++ behind) = omega (arith, length-append first behind) in
    ap (λ z. number ∷ z) (numbers_push within path (suc place) (number + length first) xs y ∙ ap (λ n. numbers_by within path (suc place) (number + length first) xs ++ n ∷ []) here)

-- rows of codes
-- =============

pub rows_append : (shelf : Shelf) (i : ℕ) (a b : List Placed) (x y : List Row) → AreRows shelf i a x → AreRows shelf i b y → AreRows shelf i (a ++ b) (x ++ y)
rows_append shelf i [] b [] y h k = k
rows_append shelf i [] b (r ∷ x) y h k = absurd h
rows_append shelf i (c ∷ a) b [] y h k = absurd h
rows_append shelf i (c ∷ a) b (r ∷ x) y h k = (h.0, rows_append shelf i a b x y h.1 k)

pub rows_count : (shelf : Shelf) (i : ℕ) (a : List Placed) (x : List Row) → AreRows shelf i a x → length x ≡ length a
rows_count shelf i [] [] h = refl
rows_count shelf i [] (r ∷ x) h = absurd h
rows_count shelf i (c ∷ a) [] h = absurd h
rows_count shelf i (c ∷ a) (r ∷ x) h = ap suc (rows_count shelf i a x h.1)

abbrev pub own_of : List ℕ → List ℕ → List ℕ → Placed
own_of path bytes numbers = record { path = path; bytes = bytes; children = numbers }

-- a code's own row, and those of the codes in its first children
pub record Added (shelf : Shelf) (i below : ℕ) (path : List ℕ) (before : List Row) (code : RawCode) (codes : List RawCode) (now : List Row) (numbers : List ℕ) : Type 0 where
  pub row : Row
  pub added : List Row
  pub now_is : now ≡ before ++ row ∷ added
  pub is_row : IsRowOf shelf i (own_of [] (out-RawCode code).bytes []) row
  pub are_rows : AreRows shelf i (codes_by (codes_to below) path 0 (suc (length before)) codes) added
  pub numbers_are : numbers ≡ numbers_by (codes_to below) path 0 (suc (length before)) codes

pub none_added : (shelf : Shelf) (i below : ℕ) (before : List Row) (code : RawCode) (row : Row) (now : List Row) (numbers : List ℕ) → now ≡ before ++ row ∷ [] → IsRowOf shelf i (own_of [] (out-RawCode code).bytes []) row → numbers ≡ [] → (path : List ℕ) → Added shelf i below path before code [] now numbers
none_added shelf i below before code row now numbers e is none path = record { row = row; added = []; now_is = e; is_row = is; are_rows = tt; numbers_are = none }

pub one_more : (shelf : Shelf) (i below : ℕ) (path : List ℕ) (before : List Row) (code : RawCode) (all : List RawCode) (k : ℕ) (child : RawCode) (now next : List Row) (numbers more : List ℕ) → k < length all → child ≡ get_or all k child → Added shelf i below path before code (take k all) now numbers → Adds shelf i (codes_to below (path ++ k ∷ []) (length now) child) now next → more ≡ numbers ++ length now ∷ [] → Added shelf i below path before code (take (k + 1) all) next more
one_more shelf i below path before code all k child now next numbers more lt is a adds e =
    let within = codes_to below in
    let start = suc (length before) in
    let front = take k all in
    let inside : List Placed = codes_by within path 0 start front in
    let further : take (k + 1) all ≡ front ++ child ∷ [] = take_more all k child lt ∙ ap (λ z. front ++ z ∷ []) (sym is) in
    let many : 0 + length front ≡ k = omega (arith, length-take-le k all (omega (arith, lt))) in
    let count = rows_count shelf i inside a.added a.are_rows in
    let place : length now ≡ start + length inside = omega (arith, ap length a.now_is, length-append before (a.row ∷ a.added), count) in
    let codes : codes_by within path 0 start (front ++ child ∷ []) ≡ inside ++ within (path ++ k ∷ []) (length now) child =
    codes_push within path 0 start front child ∙ ap₂ (λ j n. inside ++ within (path ++ j ∷ []) n child) many (sym place) in
    let rows = rows_append shelf i inside (within (path ++ k ∷ []) (length now) child) a.added adds.0 a.are_rows adds.2 in
    let done : Added shelf i below path before code (front ++ child ∷ []) next more = record {
      row = a.row;
      added = a.added ++ adds.0;
      now_is = adds.1 ∙ (ap (λ z. z ++ adds.0) a.now_is ∙ append_assoc before (a.row ∷ a.added) adds.0);
      is_row = a.is_row;
      are_rows = subst (λ z. AreRows shelf i z (a.added ++ adds.0)) (sym codes) rows;
      numbers_are = e ∙ (ap₂ (λ z n. z ++ n ∷ []) a.numbers_are place ∙ sym (numbers_push within path 0 start front child));
    } in
    subst (λ z. Added shelf i below path before code z next more) (sym further) done

-- a row with children, which a code has at any path
row_with : (shelf : Shelf) (i : ℕ) (path bytes numbers : List ℕ) (row : Row) → IsRowOf shelf i (own_of [] bytes []) row → IsRowOf shelf i (own_of path bytes numbers) (with_children row numbers)
row_with shelf i path bytes numbers row r = record {
  prelude = r.prelude;
  begins = r.begins;
  instructions = r.instructions;
  line_table = r.line_table;
  names = r.names;
  source = r.source;
  given = r.given;
  n_state = r.n_state;
  n_exc = r.n_exc;
  children = refl;
  list = r.list;
  listed = r.listed;
  short = r.short;
  locals = r.locals;
}

set_behind : (before behind : List Row) (x y : Row) → slice_set (before ++ x ∷ behind) (length before) y ≡ before ++ y ∷ behind
set_behind [] behind x y = refl
set_behind (z ∷ before) behind x y = ap (λ w. z ∷ w) (set_behind before behind x y)

get_behind : (before behind : List Row) (x : Row) → slice_get (before ++ x ∷ behind) (length before) ≡ Some x
get_behind [] behind x = refl
get_behind (z ∷ before) behind x = get_behind before behind x

pub row_at : (shelf : Shelf) (i below : ℕ) (path : List ℕ) (before : List Row) (code : RawCode) (codes : List RawCode) (place : ℕ) (now : List Row) (numbers : List ℕ) (a : Added shelf i below path before code codes now numbers) → place ≡ length before → slice_get now place ≡ Some a.row
row_at shelf i below path before code codes place now numbers a p = ap₂ (λ z n. slice_get z n) a.now_is p ∙ get_behind before a.added a.row

pub place_in : (shelf : Shelf) (i below : ℕ) (path : List ℕ) (before : List Row) (code : RawCode) (codes : List RawCode) (place : ℕ) (now : List Row) (numbers : List ℕ) → Added shelf i below path before code codes now numbers → place ≡ length before → place < length now
place_in shelf i below path before code codes place now numbers a p = omega (arith, p, ap length a.now_is, length-append before (a.row ∷ a.added))

-- all children are there, and their numbers are put into the code's row
pub all_added : (shelf : Shelf) (i levels below : ℕ) (path : List ℕ) (before : List Row) (code : RawCode) (k place : ℕ) (now next : List Row) (numbers : List ℕ) → levels ≡ suc below → length (children code) ≤ k → place ≡ length before → (a : Added shelf i below path before code (take k (children code)) now numbers) → next ≡ slice_set now place (with_children a.row numbers) → Adds shelf i (codes_to levels path (length before) code) before next
all_added shelf i levels below path before code k place now next numbers some le p a e =
    let all : take k (children code) ≡ children code = take_all k (children code) le in
    let within = codes_to below in
    let start = suc (length before) in
    let given = numbers_by within path 0 start (children code) in
    let bytes = (out-RawCode code).bytes in
    let are = subst (λ z. AreRows shelf i (codes_by within path 0 start z) a.added) all a.are_rows in
    let told : numbers ≡ given = a.numbers_are ∙ ap (numbers_by within path 0 start) all in (
      with_children a.row given ∷ a.added,
      e ∙ (ap (λ n. slice_set now place (with_children a.row n)) told
          ∙ (ap₂ (λ z n. slice_set z n (with_children a.row given)) a.now_is p ∙ set_behind before a.added a.row (with_children a.row given))),
      subst (λ z. AreRows shelf i z (with_children a.row given ∷ a.added)) (sym (codes_open levels below path (length before) code some)) (row_with shelf i path bytes given a.row a.is_row, are),
    )

-- the rows of a module, behind none
pub all_rows : (shelf : Shelf) (i : ℕ) (m : Module) (code : RawCode) (before rows : List Row) → before ≡ [] → code ≡ m.code → Adds shelf i (codes_to MAX_DEPTH [] (length before) code) before rows → AreRows shelf i (codes_of m) rows
all_rows shelf i m code before rows none is adds =
    let there : rows ≡ adds.0 = adds.1 ∙ ap (λ z. z ++ adds.0) none in
    let codes : codes_to MAX_DEPTH [] (length before) code ≡ codes_of m = ap₂ (λ (z : List Row) (c : RawCode). codes_to MAX_DEPTH [] (length z) c) none is in
    subst (λ z. AreRows shelf i (codes_of m) z) (sym there) (subst (λ z. AreRows shelf i z adds.0) codes adds.2)

pub front_is : (new behind : List Row) (len : ℕ) → len ≡ length new → take len (new ++ behind) ≡ new
front_is [] behind zero e = refl
front_is [] behind (suc len) e = absurd (omega (arith, e))
front_is (x ∷ new) behind zero e = absurd (omega (arith, e))
front_is (x ∷ new) behind (suc len) e = ap (λ z. x ∷ z) (front_is new behind len (omega (arith, e)))
