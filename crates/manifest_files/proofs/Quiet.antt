-- Quiet manifests: they say nothing, and none includes itself.
use Rattle.std.proofs.Common.{◌≡◌, ◌⊎◌, ℕ, zero, suc, ◌+◌, ◌<◌, ◌≤◌, Bool, true, false, cond, ◌||◌, nat_lt, nat_le, List, [], ◌∷◌, ◌++◌, map, length, get_or, All, Option, Some, None, Ok, Err, Vec, if◌then◌else◌, inl, inr, refl, ap, sym, ◌∙◌, subst, arith}
use Rattle.std.specs.List.{list_all}
use Rattle.std.specs.Map.{lookup}
use Rattle.std.specs.Str.{bytes_eq}
use Rattle.std.specs.declared.alloc.Global.{Global}
use Rattle.std.proofs.lemmas.Bool.{leb-true}
use Rattle.std.proofs.lemmas.List.{length_push}
use Rattle.std.proofs.lemmas.List.Elements.{All-nil, All-cons, All-head, All-tail, All-contains, Contains-get_or}
use Rattle.std.proofs.lemmas.Slice.Eq.{bytes_eq-Decides}
use Rattle.indexmap.specs.IndexMap.{insert_entry}
use Rattle.mpy_base.specs.declared.limits.TheConstants.{MAX_MODULES}
use Rattle.mpy_io.specs.Files.{FileOf}
use Rattle.manifest_lines.specs.declared.entry.Entry.{Entry}
use Rattle.manifest_lines.specs.declared.manifest.Line.{Line}
use Rattle.manifest_lines.specs.declared.order.Order.{Order}
use Rattle.manifest_lines.specs.declared.order.Order.TheVariants.{Include, Freeze, Nothing, Require}
use Rattle.manifest_files.specs.declared.fault.ManifestFault.TheVariants.{BadCall, Loop, Twice, TooMany}
use Rattle.manifest_files.specs.Entries.{AreLines, Said, Saying, Itself, Another, faulty, said_entry, folder_of, is_ascii, is_plain, is_open, order_saying, line_saying, IsSaid, AreSaid, FileSays, Says, LineSays, has_module, and_then, entries_after}
use Rattle.manifest_files.specs.Quiet.{IsNothing, IsQuiet, Includes, IncludesOver, AllInclude, LeadsOn, AreQuiet}
use Rattle.manifest_files.proofs.Said.{one_reading}

-- ---- depth

nothing_more : (P Q : List ℕ → Type 0) (saying : Saying) → ((inner : List ℕ) → P inner → Q inner) → IsNothing P saying → IsNothing Q saying
nothing_more P Q (Itself said) each n = n
nothing_more P Q (Another inner) each n = each inner n

more_quiet : (files : FileOf) (less left : ℕ) (name : List ℕ) → less ≤ left → IsQuiet files less name → IsQuiet files left name
more_quiet files zero left name l q = absurd q
more_quiet files (suc less) zero name l q = absurd (omega (arith, l))
more_quiet files (suc less) (suc left) name l q =
    (q.0, q.1, q.2, q.3, λ k d lt. nothing_more (IsQuiet files less) (IsQuiet files left) (line_saying [] name (get_or q.1 k d)) (λ inner h. more_quiet files less left inner (omega (arith, l)) h) (q.4 k d lt))

-- ---- no quiet manifest includes itself

inner_quiet : (files : FileOf) (left : ℕ) (outer inner : List ℕ) → IsQuiet files (suc left) outer → Includes files outer inner → IsQuiet files left inner
inner_quiet files left outer inner q i =
    let bytes : Some q.0 ≡ Some i.0 = sym q.2 ∙ i.3 in
    let same_bytes : q.0 ≡ i.0 = cc in
    let same : q.1 ≡ i.1 = one_reading i.0 q.1 i.1 (subst (λ (z : List ℕ). AreLines z q.1) same_bytes q.3) i.4 in
    let P : Line → Type 0 = λ line. IsNothing (IsQuiet files left) (line_saying [] outer line) in
    subst (IsNothing (IsQuiet files left)) i.6 (All-contains P i.1 i.2 (subst (All P) same q.4) i.5)

lower_one : (files : FileOf) (left : ℕ) (outer inner : List ℕ) → IsQuiet files left outer → Includes files outer inner → (less : ℕ) × (less < left) × IsQuiet files less inner
lower_one files zero outer inner q i = absurd q
lower_one files (suc left) outer inner q i = (left, omega arith, inner_quiet files left outer inner q i)

lower : (files : FileOf) (between left : ℕ) (outer inner : List ℕ) → IsQuiet files left outer → IncludesOver files between outer inner → (less : ℕ) × (less < left) × IsQuiet files less inner
lower files zero left outer inner q i = lower_one files left outer inner q i
lower files (suc between) left outer inner q i =
    let first = lower files between left outer i.0 q i.1 in
    let second = lower_one files first.0 i.0 inner first.2 i.2 in
    (second.0, omega (arith, first.1, second.1), second.2)

no_circle : (files : FileOf) (bound left between : ℕ) (name : List ℕ) → left ≤ bound → IsQuiet files left name → IncludesOver files between name name → ⊥
no_circle files zero left between name l q i = let less = lower files between left name name q i in absurd (omega (arith, l, less.1))
no_circle files (suc bound) left between name l q i =
    let less = lower files between left name name q i in
    no_circle files bound less.0 between name (omega (arith, l, less.1)) less.2 i

-- ---- what says nothing is quiet

nothing_of : (says : List ℕ → List Said → Type 0) (quiet : List ℕ → Type 0) → ((inner : List ℕ) → says inner [] → quiet inner) → (saying : Saying) → IsSaid says saying [] → IsNothing quiet saying
nothing_of says quiet each (Itself own) s = sym s
nothing_of says quiet each (Another inner) s = each inner s

-- what says nothing includes none that is open
none_open : (says : List ℕ → List Said → Type 0) (opened : List (List ℕ)) (name : List ℕ) (number : ℕ) (order : Option Order) → IsSaid says (order_saying opened name number order) [] → IsSaid says (order_saying [] name number order) []
none_open says opened name number None s = s
none_open says opened name number (Some (Include path)) s = by (is_ascii path) (is_open opened (folder_of name ++ path)) s
  where
    by : (a b : Bool)
        → IsSaid says (if a then (if b then faulty (Loop (folder_of name ++ path)) else Another (folder_of name ++ path)) else faulty (BadCall name number)) []
        → IsSaid says (if a then Another (folder_of name ++ path) else faulty (BadCall name number)) []
    by true true e = absurd cc
    by true false e = e
    by false b e = e
none_open says opened name number (Some (Freeze entries)) s = s
none_open says opened name number (Some Nothing) s = s
none_open says opened name number (Some (Require wanted)) s = s

all_nothing : (one : Line → List Said → Type 0) (P : Line → Type 0) → ((line : Line) → one line [] → P line) → (lines : List Line) → AreSaid one lines [] → All P lines
all_nothing one P each [] s = All-nil P
all_nothing one P each (line ∷ lines) s = by s.0 s.1 s.4 s.2 s.3 (all_nothing one P each lines)
  where
    by : (first others : List Said) → [] ≡ first ++ others → one line first → AreSaid one lines others → (AreSaid one lines [] → All P lines) → All P (line ∷ lines)
    by [] others e a b more = All-cons P line lines (each line a) (more (subst (AreSaid one lines) (sym e) b))
    by (x ∷ first) others e a b more = absurd cc

says_nothing : (files : FileOf) (left : ℕ) (opened : List (List ℕ)) (name : List ℕ) → Says files left opened name [] → IsQuiet files left name
says_nothing files zero opened name s = absurd cc
says_nothing files (suc left) opened name s =
    by (files name) refl s (λ inner h. says_nothing files left (opened ++ name ∷ []) inner h)
  where
    by : (file : Option (List ℕ)) → files name ≡ file → FileSays (AreSaid (LineSays files left (opened ++ name ∷ []) name)) name file []
        → ((inner : List ℕ) → Says files left (opened ++ name ∷ []) inner [] → IsQuiet files left inner) → IsQuiet files (suc left) name
    by None e f each = absurd cc
    by (Some bytes) e f each = (
      bytes,
      f.0,
      e,
      f.1,
      all_nothing (LineSays files left (opened ++ name ∷ []) name) (λ line. IsNothing (IsQuiet files left) (line_saying [] name line))
          (λ line h. nothing_of (Says files left (opened ++ name ∷ [])) (IsQuiet files left) each (line_saying [] name line) (none_open (Says files left (opened ++ name ∷ [])) (opened ++ name ∷ []) name line.number line.order h)) f.0 f.2,
    )

-- ---- what is open

or_no : (b : Bool) → (b || false) ≡ true → b ≡ true
or_no true e = e
or_no false e = e

open_cases : (opened : List (List ℕ)) (name other : List ℕ) → is_open (opened ++ name ∷ []) other ≡ true → (is_open opened other ≡ true) ⊎ (name ≡ other)
open_cases [] name other e = inr ((bytes_eq-Decides name other).0 (or_no (bytes_eq name other) e))
open_cases (x ∷ opened) name other e = by (bytes_eq x other) e (open_cases opened name other)
  where
    by : (b : Bool) → (b || is_open (opened ++ name ∷ []) other) ≡ true → (is_open (opened ++ name ∷ []) other ≡ true → (is_open opened other ≡ true) ⊎ (name ≡ other))
        → ((b || is_open opened other) ≡ true) ⊎ (name ≡ other)
    by true f more = inl f
    by false f more = more f

one_further : (files : FileOf) (name inner other : List ℕ) → Includes files name inner → (between : ℕ) × IncludesOver files between other name → (between : ℕ) × IncludesOver files between other inner
one_further files name inner other i r = (suc r.0, (name, r.1, i))

all_further : (files : FileOf) (opened : List (List ℕ)) (name inner : List ℕ) → AllInclude files opened name → Includes files name inner → AllInclude files (opened ++ name ∷ []) inner
all_further files opened name inner over i = λ other is. by other (open_cases opened name other is)
  where
    by : (other : List ℕ) → (is_open opened other ≡ true) ⊎ (name ≡ other) → (between : ℕ) × IncludesOver files between other inner
    by other (inl is) = one_further files name inner other i (over other is)
    by other (inr is) = (0, subst (λ (z : List ℕ). Includes files z inner) is i)

-- what a line includes doesn't turn on what is open, if nothing is
none_aside : (opened : List (List ℕ)) (name inner : List ℕ) (number : ℕ) (order : Option Order) → order_saying opened name number order ≡ Another inner → order_saying [] name number order ≡ Another inner
none_aside opened name inner number None e = e
none_aside opened name inner number (Some (Include path)) e = by (is_ascii path) (is_open opened (folder_of name ++ path)) e
  where
    by : (a b : Bool)
        → (if a then (if b then faulty (Loop (folder_of name ++ path)) else Another (folder_of name ++ path)) else faulty (BadCall name number)) ≡ Another inner
        → (if a then Another (folder_of name ++ path) else faulty (BadCall name number)) ≡ Another inner
    by true true f = absurd cc
    by true false f = f
    by false b f = f
none_aside opened name inner number (Some (Freeze entries)) e = e
none_aside opened name inner number (Some Nothing) e = e
none_aside opened name inner number (Some (Require wanted)) e = e

pub lead_on : (files : FileOf) (opened : List (List ℕ)) (name bytes : List ℕ) (lines : List Line) → files name ≡ Some bytes → AreLines bytes lines → AllInclude files opened name → All (LeadsOn files (opened ++ name ∷ []) name) lines
lead_on files opened name bytes lines file are over = λ k d lt inner e.
    let line = get_or lines k d in
    all_further files opened name inner over
    (bytes, lines, line, file, are, Contains-get_or lines k d lt, none_aside (opened ++ name ∷ []) name inner line.number line.order e)

-- ---- what is quiet says nothing

order_says : (files : FileOf) (left : ℕ) (opened : List (List ℕ)) (name : List ℕ) (number : ℕ) (order : Option Order)
    → ((inner : List ℕ) → IsQuiet files left inner → AllInclude files opened inner → Says files left opened inner [])
    → ((inner : List ℕ) → order_saying [] name number order ≡ Another inner → AllInclude files opened inner)
    → IsNothing (IsQuiet files left) (order_saying [] name number order) → IsSaid (Says files left opened) (order_saying opened name number order) []
order_says files left opened name number None each over n = sym n
order_says files left opened name number (Some (Include path)) each over n = by (folder_of name ++ path) (is_ascii path) (is_open opened (folder_of name ++ path)) refl over n
  where
    by : (inner : List ℕ) (a b : Bool) → is_open opened inner ≡ b
        → ((other : List ℕ) → (if a then Another inner else faulty (BadCall name number)) ≡ Another other → AllInclude files opened other)
        → IsNothing (IsQuiet files left) (if a then Another inner else faulty (BadCall name number))
        → IsSaid (Says files left opened) (if a then (if b then faulty (Loop inner) else Another inner) else faulty (BadCall name number)) []
    by inner true true is reach h = let itself = reach inner refl inner is in absurd (no_circle files left left itself.0 inner (omega arith) h itself.1)
    by inner true false is reach h = each inner h (reach inner refl)
    by inner false b is reach h = sym h
order_says files left opened name number (Some (Freeze entries)) each over n = by (list_all is_plain entries) n
  where
    by : (a : Bool) → IsNothing (IsQuiet files left) (if a then Itself (map (said_entry (folder_of name)) entries) else faulty (BadCall name number))
        → IsSaid (Says files left opened) (if a then Itself (map (said_entry (folder_of name)) entries) else faulty (BadCall name number)) []
    by true h = sym h
    by false h = sym h
order_says files left opened name number (Some Nothing) each over n = sym n
order_says files left opened name number (Some (Require wanted)) each over n = sym n

all_silent : (one : Line → List Said → Type 0) (lines : List Line) → All (λ line. one line []) lines → AreSaid one lines []
all_silent one [] h = refl
all_silent one (line ∷ lines) h =
    ([], [], All-head (λ line. one line []) line lines h, all_silent one lines (All-tail (λ line. one line []) line lines h), refl)

pub quiet_says : (files : FileOf) (left : ℕ) (opened : List (List ℕ)) (name : List ℕ) → IsQuiet files left name → AllInclude files opened name → Says files left opened name []
quiet_says files zero opened name q over = absurd q
quiet_says files (suc left) opened name q over =
    let now = opened ++ name ∷ [] in
    subst (λ (z : Option (List ℕ)). FileSays (AreSaid (LineSays files left now name)) name z []) (sym q.2) (
      q.1,
      q.3,
      all_silent (LineSays files left now name) q.1 (λ k d lt.
          let line = get_or q.1 k d in
          order_says files left now name line.number line.order (λ inner h its. quiet_says files left now inner h its)
          (λ inner e. all_further files opened name inner over (q.0, q.1, line, q.2, q.3, Contains-get_or q.1 k d lt, e)) (q.4 k d lt)),
    )

-- ---- what adds nothing

grown : (said : List Said) (before after : List Entry) → entries_after before said ≡ Ok after → length after ≡ length before + length said
grown [] before after e = let same : before ≡ after = cc in let l : length before ≡ length after = ap length same in omega (arith, l)
grown (Err fault ∷ said) before after e = absurd cc
grown (Ok entry ∷ said) before after e =
    by (has_module before entry.«module») (nat_lt (length before) MAX_MODULES) e (grown said (before ++ entry ∷ []) after)
  where
    by : (b c : Bool)
        → and_then (if b then Err (Twice entry.«module») else (if c then Ok (before ++ entry ∷ []) else Err TooMany)) (λ more. entries_after more said) ≡ Ok after
        → (entries_after (before ++ entry ∷ []) said ≡ Ok after → length after ≡ length (before ++ entry ∷ []) + length said)
        → length after ≡ length before + suc (length said)
    by true c f more = absurd cc
    by false true f more = let l = more f in let p = length_push before entry in omega (arith, l, p)
    by false false f more = absurd cc

none_added : (said : List Said) (before after : List Entry) → entries_after before said ≡ Ok after → length after ≡ length before → said ≡ []
none_added [] before after e l = refl
none_added (x ∷ said) before after e l = let g = grown (x ∷ said) before after e in absurd (omega (arith, g, l))

pub quiet_now : (files : FileOf) (left : ℕ) (opened : List (List ℕ)) (name : List ℕ) (said : List Said) (before after : List Entry)
    → Says files left opened name said → entries_after before said ≡ Ok after → length after ≡ length before → IsQuiet files left name
quiet_now files left opened name said before after s e l =
    says_nothing files left opened name (subst (Says files left opened name) (none_added said before after e l) s)

-- ---- what is kept

abbrev Kept : Type 0
Kept = List (Vec ℕ Global × ℕ)

known : (files : FileOf) (name : List ℕ) (left : ℕ) (kept : Kept) → lookup (λ key. bytes_eq name key.items) kept ≡ Some left → AreQuiet files kept → IsQuiet files left name
known files name left [] e h = absurd cc
known files name left (one ∷ kept) e h = by (bytes_eq name one.0.items) refl e (λ f. known files name left kept f h.1)
  where
    by : (b : Bool) → bytes_eq name one.0.items ≡ b → cond b (Some one.1) (lookup (λ key. bytes_eq name key.items) kept) ≡ Some left
        → (lookup (λ key. bytes_eq name key.items) kept ≡ Some left → IsQuiet files left name) → IsQuiet files left name
    by true is f more =
        let same : name ≡ one.0.items = (bytes_eq-Decides name one.0.items).0 is in
        let number : one.1 ≡ left = cc in
        subst (λ (z : ℕ). IsQuiet files z name) number (subst (IsQuiet files one.1) (sym same) h.0)
    by false is f more = more f

pub known_less : (files : FileOf) (name : List ℕ) (left less : ℕ) (kept : Kept) → Some less ≡ lookup (λ key. bytes_eq name key.items) kept → AreQuiet files kept → nat_le less left ≡ true → IsQuiet files left name
known_less files name left less kept e h is = more_quiet files less left name (leb-true less left is) (known files name less kept (sym e) h)

pub keep_one : (files : FileOf) (key : Vec ℕ Global) (left : ℕ) (kept : Kept) → IsQuiet files left key.items → AreQuiet files kept → AreQuiet files (insert_entry (λ x y. bytes_eq x.items y.items) kept key left)
keep_one files key left [] q h = (q, tt)
keep_one files key left (one ∷ kept) q h = by (bytes_eq key.items one.0.items) refl (keep_one files key left kept q h.1)
  where
    by : (b : Bool) → bytes_eq key.items one.0.items ≡ b → AreQuiet files (insert_entry (λ x y. bytes_eq x.items y.items) kept key left)
        → AreQuiet files (if b then (one.0, left) ∷ kept else one ∷ insert_entry (λ x y. bytes_eq x.items y.items) kept key left)
    by true is more = (subst (IsQuiet files left) ((bytes_eq-Decides key.items one.0.items).0 is) q, h.1)
    by false is more = (h.0, more)
