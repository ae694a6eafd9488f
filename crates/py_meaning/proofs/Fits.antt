-- A part of a plain tree fits the events of the part of the parser's tree that it was made of.
use Rattle.std.proofs.Common.{◌≡◌, ℕ, suc, ◌+◌, ◌≤◌, Bool, true, false, List, [], ◌∷◌, ◌++◌, length, length-append, append_assoc, map, refl, sym, ap, subst, ◌∙◌, arith}
use Rattle.std.specs.List.{filter_map}
use Rattle.std.proofs.lemmas.List.{length-map, map-append}
use Rattle.py_scopes.specs.py_tree.declared.stmt.Param.{Param}
use Rattle.py_scopes.specs.declared.event.Act.{Act}
use Rattle.py_scopes.specs.declared.event.Act.TheVariants.{Bind, Enter, Leave}
use Rattle.py_scopes.specs.declared.event.Event.{Event}
use Rattle.py_scopes.specs.declared.names.Tells.TheVariants.{Bound, Declared, Occurring}
use Rattle.py_scopes.specs.Events.{at}
use Rattle.py_scopes.specs.Scopes.{Mark, mark, marks_from, told, told_of}
use Rattle.py_scopes.specs.Names.{has, firsts}
use Rattle.py_meaning.specs.Tree.{Name, Function, Stmt, Block, Branches, Handlers, functions, functions_in, functions_of, functions_by}
use Rattle.py_meaning.specs.Locals.{bound_names, bound_in, bound_by_stmt, bound_by_branches, bound_by_handlers}
use Rattle.py_meaning.specs.Globals.{Globals, none, and_then, function}
use Rattle.py_meaning.specs.Numbers.{Rises, numbers_in, numbers_by, numbers_of, numbers_from}
use Rattle.py_meaning.specs.Words.{WellPlaced, IsPlaced, ArePlaced, HandlersPlaced}
use Rattle.py_meaning.proofs.Weaves.{Weaves, event, empty, joined, acts, function as woven}
use Rattle.py_meaning.proofs.Marks.{is_inside, AllRight, right_first, right_second, Timely, timely_first, timely_second, not_right, not_true, occurs_on, declared_new}
use Rattle.py_meaning.proofs.Acts.{Says, Quiet, nothing, said, bound_once}

-- ---- parameters

-- no parameter is declared global
abbrev pub Kept : List Name → List Name → Type 0
Kept params globals = (name : Name) → has name params ≡ true → has name globals ≡ false

abbrev pub AllKept : List Function → List (List Name) → Type 0
AllKept [] globals = Unit {0}
AllKept (f ∷ fs) [] = AllKept fs []
AllKept (f ∷ fs) (names ∷ globals) = Kept f.params names × AllKept fs globals

abbrev pub AllDistinct : List Function → Type 0
AllDistinct [] = Unit {0}
AllDistinct (f ∷ fs) = (firsts f.params ≡ f.params) × AllDistinct fs

all_kept : (fs gs : List Function) (first second : List (List Name)) → length fs ≡ length first → AllKept fs first → AllKept gs second → AllKept (fs ++ gs) (first ++ second)
all_kept [] gs [] second e h k = k
all_kept [] gs (names ∷ first) second e h k = absurd (omega arith)
all_kept (f ∷ fs) gs [] second e h k = absurd (omega arith)
all_kept (f ∷ fs) gs (names ∷ first) second e h k = (h.0, all_kept fs gs first second (omega arith) h.1 k)

all_distinct : (fs gs : List Function) → AllDistinct fs → AllDistinct gs → AllDistinct (fs ++ gs)
all_distinct [] gs h k = k
all_distinct (f ∷ fs) gs h k = (h.0, all_distinct fs gs h.1 k)

-- ---- numbers that rise

abbrev pub Rising : List ℕ → Type 0
Rising ns = (least : ℕ) × (past : ℕ) × Rises least ns past

abbrev pub AllRise : List Function → Type 0
AllRise [] = Unit {0}
AllRise (f ∷ fs) = Rising (numbers_in f.body) × AllRise fs

pub rises_on : (a : ℕ) (xs : List ℕ) (b : ℕ) (ys : List ℕ) (c : ℕ) → Rises a xs b → Rises b ys c → Rises a (xs ++ ys) c
rises_on a [] b [] c h k = let x : a ≤ b = h in let y : b ≤ c = k in let z : a ≤ c = omega arith in z
rises_on a [] b (y ∷ ys) c h k = ((let p : a ≤ b = h in let q : b ≤ y = k.0 in omega arith), k.1)
rises_on a (x ∷ xs) b ys c h k = (h.0, rises_on (suc x) xs b ys c h.1 k)

all_rise : (fs gs : List Function) → AllRise fs → AllRise gs → AllRise (fs ++ gs)
all_rise [] gs h k = k
all_rise (f ∷ fs) gs h k = (h.0, all_rise fs gs h.1 k)

-- ---- a part

-- its functions have the numbers from the first one on, below the past one
pub record Fits (first past : ℕ) (events : List Event) (bound : List Name) (fs : List Function) (numbers : List ℕ) (placed : Bool → Type 0) (globals : Globals) : Type 0 where
  pub binds : Weaves Bound events bound (map bound_names fs)
  pub declares : Weaves Declared events globals.own globals.inner
  pub count : first + length fs ≡ past
  pub rises : Rises first numbers past
  pub inner : AllRise fs
  pub distinct : AllDistinct fs
  pub kept : (front : List Mark) (n : ℕ) (around : List ℕ) → Timely front (marks_from n around events) → AllKept fs globals.inner
  pub words : (n : ℕ) (around : List ℕ) → AllRight (marks_from n around events) → placed (is_inside around)

abbrev pub FitsStmt : (first past : ℕ) → Bool → List Event → Stmt → Globals → Type 0
FitsStmt first past looped events s g = Fits first past events (bound_by_stmt s) (functions_in s) (numbers_by s) (λ inside. IsPlaced inside looped s) g

abbrev pub FitsBlock : (first past : ℕ) → Bool → List Event → Block → Globals → Type 0
FitsBlock first past looped events b g = Fits first past events (bound_in b) (functions b) (numbers_in b) (λ inside. WellPlaced inside looped b) g

abbrev pub FitsBranches : (first past : ℕ) → Bool → List Event → Branches → Globals → Type 0
FitsBranches first past looped events b g = Fits first past events (bound_by_branches b) (functions_of b) (numbers_of b) (λ inside. ArePlaced inside looped b) g

abbrev pub FitsHandlers : (first past : ℕ) → Bool → List Event → Handlers → Globals → Type 0
FitsHandlers first past looped events b g = Fits first past events (bound_by_handlers b) (functions_by b) (numbers_from b) (λ inside. HandlersPlaced inside looped b) g

abbrev pub Nothing : Bool → Type 0
Nothing inside = Unit {0}

pub empty_fits : (n past : ℕ) → n ≡ past → Fits n past [] [] [] [] Nothing none
empty_fits n past e = record {
  binds = empty Bound;
  declares = empty Declared;
  count = omega arith;
  rises = (let h : n ≤ past = omega arith in h);
  inner = tt;
  distinct = tt;
  kept = λ front m around h. tt;
  words = λ m around right. tt;
}

-- acts of one line
pub acts_fit : (n past line : ℕ) (all : List Act) (bound declared : List Name) → n ≡ past → Says all bound declared → Fits n past (at line all) bound [] [] Nothing (record { own = declared; inner = [] })
acts_fit n past line all bound declared e s = record {
  binds = subst (λ names. Weaves Bound (at line all) names []) s.binds (acts Bound line all s.stays);
  declares = subst (λ names. Weaves Declared (at line all) names []) s.declares (acts Declared line all s.stays);
  count = omega arith;
  rises = (let h : n ≤ past = omega arith in h);
  inner = tt;
  distinct = tt;
  kept = λ front m around h. tt;
  words = λ m around right. tt;
}

module _ {a b c : ℕ} {es fs_events : List Event} {bound more : List Name} {fs gs : List Function} {ns ms : List ℕ} {placed also : Bool → Type 0} {g h : Globals} where
  pub fits_on : Fits a b es bound fs ns placed g → Fits b c fs_events more gs ms also h
      → Fits a c (es ++ fs_events) (bound ++ more) (fs ++ gs) (ns ++ ms) (λ inside. placed inside × also inside) (and_then g h)
  fits_on x y = record {
    binds = subst (λ inner. Weaves Bound (es ++ fs_events) (bound ++ more) inner) (sym (map-append bound_names fs gs)) (joined x.binds y.binds);
    declares = joined x.declares y.declares;
    count = (let p = x.count in let q = y.count in let r = length-append fs gs in omega arith);
    rises = rises_on a ns b ms c x.rises y.rises;
    inner = all_rise fs gs x.inner y.inner;
    distinct = all_distinct fs gs x.distinct y.distinct;
    kept = λ front n around timely.
        let parts = subst (Timely front) (x.binds.goes_on n around fs_events) timely in
        all_kept fs gs g.inner h.inner (sym (length-map fs bound_names) ∙ sym x.binds.count ∙ x.declares.count) (x.kept front n around (timely_first front (marks_from n around es) _ parts))
        (y.kept (front ++ marks_from n around es) (n + length (map bound_names fs)) around (timely_second front (marks_from n around es) _ parts));
    words = λ n around right.
        let parts = subst AllRight (x.binds.goes_on n around fs_events) right in
        (x.words n around (right_first (marks_from n around es) _ parts), y.words (n + length (map bound_names fs)) around (right_second (marks_from n around es) _ parts));
  }

-- the same with other words for it
module _ {a b p q : ℕ} {es ds : List Event} {bound more : List Name} {fs gs : List Function} {ns ms : List ℕ} {placed also : Bool → Type 0} {g h : Globals} where
  pub recast : a ≡ p → b ≡ q → es ≡ ds → bound ≡ more → fs ≡ gs → ns ≡ ms → ((inside : Bool) → placed inside → also inside) → g ≡ h → Fits a b es bound fs ns placed g → Fits p q ds more gs ms also h
  recast ap_first ap_past e_events e_bound e_fs e_ns to e_g x = record {
    binds = subst (λ z. Weaves Bound z more (map bound_names gs)) e_events (subst (λ z. Weaves Bound es z (map bound_names gs)) e_bound (subst (λ z. Weaves Bound es bound (map bound_names z)) e_fs x.binds));
    declares = subst (λ z. Weaves Declared z h.own h.inner) e_events (subst (λ (z : Globals). Weaves Declared es z.own z.inner) e_g x.declares);
    count = (let c = x.count in let l = ap length e_fs in omega arith);
    rises = subst (λ z. Rises z ms q) ap_first (subst (λ z. Rises a ms z) ap_past (subst (λ z. Rises a z b) e_ns x.rises));
    inner = subst AllRise e_fs x.inner;
    distinct = subst AllDistinct e_fs x.distinct;
    kept = λ front n around timely.
        subst (λ (z : Globals). AllKept gs z.inner) e_g (subst (λ z. AllKept z g.inner) e_fs (x.kept front n around (subst (λ z. Timely front (marks_from n around z)) (sym e_events) timely)));
    words = λ n around right. to (is_inside around) (x.words n around (subst (λ z. AllRight (marks_from n around z)) (sym e_events) right));
  }

-- the same in front of another number
pub moved : {a b p q : ℕ} {es : List Event} {bound : List Name} {fs : List Function} {ns : List ℕ} {placed : Bool → Type 0} {g : Globals}
    → a ≡ p → b ≡ q → Fits a b es bound fs ns placed g → Fits p q es bound fs ns placed g
moved e f x = recast e f refl refl refl refl (λ inside h. h) refl x

-- with what the marks of its words tell
pub with_words : {a b : ℕ} {es : List Event} {bound : List Name} {fs : List Function} {ns : List ℕ} {placed also : Bool → Type 0} {g : Globals}
    → Fits a b es bound fs ns placed g → ((n : ℕ) (around : List ℕ) → AllRight (marks_from n around es) → also (is_inside around)) → Fits a b es bound fs ns also g
with_words x to = record { binds = x.binds; declares = x.declares; count = x.count; rises = x.rises; inner = x.inner; distinct = x.distinct; kept = x.kept; words = to }

-- ---- a function

abbrev pub binds_of : List Param → List Act
binds_of params = map (λ (param : Param). Bind param.name) params

abbrev pub param_names : List Param → List Name
param_names params = map (λ (param : Param). param.name) params

params_say : (params : List Param) → Says (binds_of params) (param_names params) []
params_say [] = nothing
params_say (param ∷ params) = said (bound_once param.name) (params_say params)

params_occur : (params : List Param) → filter_map (told Occurring) (binds_of params) ≡ param_names params
params_occur [] = refl
params_occur (param ∷ params) = ap (λ (names : List Name). param.name ∷ names) (params_occur params)

module _ (n past line : ℕ) (name : Name) (params : List Param) (given : ℕ) (defaults : List Act) (quiet : Quiet defaults) (differ : firsts (param_names params) ≡ param_names params) {events : List Event} (b : Block) {g : Globals} (x : FitsBlock (suc n) past false events b g) where
  abbrev inside : List Event
  inside = at line (binds_of params) ++ events

  bound_inside : Weaves Bound inside (param_names params ++ bound_in b) (map bound_names (functions b))
  bound_inside = joined (subst (λ names. Weaves Bound (at line (binds_of params)) names []) (params_say params).binds (acts Bound line (binds_of params) (params_say params).stays)) x.binds

  declared_inside : Weaves Declared inside g.own g.inner
  declared_inside = joined (subst (λ names. Weaves Declared (at line (binds_of params)) names []) (params_say params).declares (acts Declared line (binds_of params) (params_say params).stays)) x.declares

  abbrev text : List Event
  text = at line (Enter ∷ binds_of params) ++ (events ++ at line (Leave ∷ []))

  text_is : event line Enter ∷ (inside ++ event line Leave ∷ []) ≡ text
  text_is = ap (λ (es : List Event). event line Enter ∷ es) (append_assoc (at line (binds_of params)) events (event line Leave ∷ []))

  front : Says (Bind name ∷ defaults) (name ∷ []) []
  front = said (bound_once name) quiet

  front_fits : Fits n n (at line (Bind name ∷ defaults)) (name ∷ []) [] [] Nothing none
  front_fits = acts_fit n n line (Bind name ∷ defaults) (name ∷ []) [] refl front

  words_inside : (m : ℕ) (around : List ℕ) → AllRight (marks_from m around text) → WellPlaced true false b
  words_inside m around right =
      let whole = subst (λ es. AllRight (marks_from m around es)) (sym text_is) right in
      let inner = right_first (marks_from (suc m) (m ∷ around) inside) _ (subst AllRight (bound_inside.goes_on (suc m) (m ∷ around) (event line Leave ∷ [])) whole.1) in
      let start = acts Bound line (binds_of params) (params_say params).stays in
      let body = right_second (marks_from (suc m) (m ∷ around) (at line (binds_of params))) _ (subst AllRight (start.goes_on (suc m) (m ∷ around) events) inner) in
      x.words (suc m + 0) (m ∷ around) body

  abbrev made : Function
  made = record { name = name; params = param_names params; given = given; body = b }

  -- none of the names that the body declares is a parameter
  kept_inside : (front : List Mark) (m : ℕ) (around : List ℕ) → Timely front (marks_from m around text) → AllKept (made ∷ functions b) (g.own ∷ g.inner)
  kept_inside front m around timely =
      let whole = subst (λ es. Timely front (marks_from m around es)) (sym text_is) timely in
      let start_mark = mark (event line Enter) around in
      let inner = timely_first (front ++ start_mark ∷ []) (marks_from (suc m) (m ∷ around) inside) _ (subst (Timely (front ++ start_mark ∷ [])) (bound_inside.goes_on (suc m) (m ∷ around) (event line Leave ∷ [])) whole.1) in
      let start = acts Occurring line (binds_of params) (params_say params).stays in
      let bind_marks = marks_from (suc m) (m ∷ around) (at line (binds_of params)) in
      let before = (front ++ start_mark ∷ []) ++ bind_marks in
      let behind = marks_from (suc m + 0) (m ∷ around) events in
      let body = timely_second (front ++ start_mark ∷ []) bind_marks behind (subst (Timely (front ++ start_mark ∷ [])) (start.goes_on (suc m) (m ∷ around) events) inner) in
      let declared_here : filter_map (told_of Declared m) behind ≡ g.own = x.declares.here (suc m + 0) m around (omega arith) in
      let bound_here : filter_map (told_of Occurring m) bind_marks ≡ param_names params = start.here (suc m) m around (omega arith) ∙ params_occur params in (
        λ name is_param.
            not_true (has name g.own) (λ is_global.
            let new = declared_new before behind m name body (ap (has name) declared_here ∙ is_global) in
            let apart = not_right (has name (filter_map (told_of Occurring m) (front ++ start_mark ∷ []))) _ (sym (occurs_on m name (front ++ start_mark ∷ []) bind_marks) ∙ new) in
            let not_param : has name (param_names params) ≡ false = ap (has name) (sym bound_here) ∙ apart in
            absurd cc),
        x.kept before (suc m + 0) (m ∷ around) body,
      )

  text_fits : Fits n past text [] (made ∷ functions b) (n ∷ []) (λ around. WellPlaced true false b) (function g)
  text_fits = record {
    binds = subst (λ es. Weaves Bound es [] (map bound_names (made ∷ functions b))) text_is (woven line bound_inside);
    declares = subst (λ es. Weaves Declared es [] (g.own ∷ g.inner)) text_is (woven line declared_inside);
    count = (let c = x.count in omega arith);
    rises = ((let h : n ≤ n = omega arith in h), (let c = x.count in let h : suc n ≤ past = omega arith in h));
    inner = ((suc n, past, x.rises), x.inner);
    distinct = (differ, x.distinct);
    kept = kept_inside;
    words = words_inside;
  }

  pub def_fits : Fits n past (at line (Bind name ∷ defaults) ++ text) (name ∷ []) (made ∷ functions b) (n ∷ []) (λ around. WellPlaced true false b) (function g)
  def_fits = recast refl refl refl refl refl refl (λ around h. h.1) refl (fits_on front_fits text_fits)
