-- The trees of codes, and that they stand for their texts.
use Rattle.std.proofs.Common.{◌≡◌, ℕ, zero, suc, ◌+◌, Bool, false, List, [], ◌∷◌, ◌++◌, length, map, Some, refl, sym, ap, ◌∙◌, subst, arith}
use Rattle.std.specs.Prelude.{slice_get}
use Rattle.mpy_writer.specs.mpy_tree.declared.module.Code as codes
use Rattle.mpy_writer.specs.mpy_tree.declared.module.Code.{out-Code}
use Rattle.mpy_writer.specs.mpy_tree.Resolved.{Trees, node, no_more, more, IsTreeOf, AreTreesOf}
use Rattle.tr_source.specs.py_meaning.Tree.{Block, Function, functions}
use Rattle.tr_source.specs.py_meaning.Program.{Source, Text}
use Rattle.tr_source.specs.bc_machine.Library.{Code, code_of, size_of, sizes_of, numbers_from, codes_of}
use Rattle.emit_measures.specs.bc_scheme.Translation.{own, StandsCode, StandAll, bodies_of, HaveStates}
use Rattle.emit_measures.specs.Named.{HasOwnLocals, AllHaveOwnLocals, TakesUndotted}
use Rattle.emit_stmt.specs.emit_draft.declared.draft.Draft.{Draft}
use Rattle.emit_stmt.specs.emit_draft.declared.scope.Scope.{Scope}
use Rattle.emit_stmt.specs.emit_draft.declared.codes.CodeHead.{CodeHead}
use Rattle.emit_stmt.specs.emit_draft.declared.codes.CodeLines.{CodeLines}
use Rattle.emit_stmt.specs.emit_draft.Finished.{IsFinished, IsCodeOf, body_of}
use Rattle.emit_stmt.specs.emit_draft.Children.{starts, sizes, AllCount, tree_sizes}
use Rattle.emit_stmt.specs.Children.{Made, made}
use Rattle.emit_module.specs.Found.{IsDefined}
use Rattle.emit_module.specs.Own.{IsWritten, IsJoined}
use Rattle.emit_module.specs.Joined.{HasChildren}
use Rattle.tr_source.specs.Texts.{AllTakeUndotted}
use Rattle.emit_module.specs.Walk.{Forest, size, text_at, Grows, no_code, with_code}
use Rattle.emit_module.proofs.Plants.{flat, tops, texts_at, length_flat, lists}

-- ---- what the laws of the crates below say

abbrev pub TreeLaw : Type 0
TreeLaw = (draft : Draft) (head : CodeHead) (made : CodeLines) (inner : List codes.Code) (code : codes.Code) (trees : Trees) → IsFinished draft made → IsCodeOf head made inner code
    → AreTreesOf trees inner → IsTreeOf (node (body_of head made) trees) code

abbrev pub NumbersLaw : Type 0
NumbersLaw = (n : ℕ) (b : Block) (trees : Trees) → own b ≡ starts (suc n) (sizes b) → tree_sizes trees ≡ sizes b → numbers_from (suc n) trees ≡ map (λ m. 0 + m) (own b)

abbrev pub StandsLaw : Type 0
StandsLaw = (all : List Code) (text : Text) (draft : Draft) (scope : Scope) (head : CodeHead) (lines : CodeLines) (children : List ℕ) → IsWritten text draft scope head lines
    → IsJoined all text (code_of (body_of head lines) children) → StandsCode all scope.is_module text (code_of (body_of head lines) children)

abbrev pub DefinedLaw : Type 0
DefinedLaw = (n : ℕ) (text : Block) → own text ≡ starts n (sizes text) → (i : ℕ) (function : Made) → slice_get (made text) i ≡ Some function → IsDefined (functions text) n function

abbrev pub JoinedLaw : Type 0
JoinedLaw = (all : List Code) (text : Text) (draft : Draft) (scope : Scope) (head : CodeHead) (lines : CodeLines) (children : List ℕ) → IsWritten text draft scope head lines
    → HasOwnLocals text → TakesUndotted text.body → HasChildren all text (code_of (body_of head lines) children) → IsJoined all text (code_of (body_of head lines) children)

pub record Laws : Type 0 where
  pub tree : TreeLaw
  pub numbers : NumbersLaw
  pub stands : StandsLaw
  pub defined : DefinedLaw
  pub joined : JoinedLaw

-- the instructions of a text name all of its locals
abbrev pub NamesLocals : Text → Type 0
NamesLocals text = HasOwnLocals text × TakesUndotted text.body

abbrev pub AllNamed : List Text → Type 0
AllNamed [] = Unit {0}
AllNamed (text ∷ texts) = NamesLocals text × AllNamed texts

pub all_named : (texts : List Text) → AllHaveOwnLocals texts → AllTakeUndotted texts → AllNamed texts
all_named [] a b = tt
all_named (text ∷ texts) a b = ((a.0, b.0), all_named texts a.1 b.1)

-- ---- trees

abbrev pub trees_of : {source : Source} {depth n : ℕ} {f : Forest} {cs : List codes.Code} → Grows source depth n f cs → Trees
trees_of no_code = no_more
trees_of (with_code mine is i o) = more (node (body_of mine.head mine.lines) (trees_of i)) (trees_of o)

pub are_trees : TreeLaw → {source : Source} {depth n : ℕ} {f : Forest} {cs : List codes.Code} (g : Grows source depth n f cs) → AreTreesOf (trees_of g) cs
are_trees law no_code = refl
are_trees law (with_code {first = first} {codes = codes} mine is i o) =
    (first, codes, refl, law mine.draft mine.head mine.lines (out-Code first).children first (trees_of i) mine.written.finished mine.code_is (are_trees law i), are_trees law o)

pub size_trees : {source : Source} {depth n : ℕ} {f : Forest} {cs : List codes.Code} (g : Grows source depth n f cs) → sizes_of (trees_of g) ≡ size f
size_trees no_code = refl
size_trees (with_code mine is i o) = let a = size_trees i in let b = size_trees o in omega (arith, a, b)

pub tree_tops : {source : Source} {depth n : ℕ} {f : Forest} {cs : List codes.Code} (g : Grows source depth n f cs) → tree_sizes (trees_of g) ≡ tops f
tree_tops no_code = refl
tree_tops (with_code {inner = inner} mine is i o) = ap (λ z. suc z ∷ tree_sizes (trees_of o)) (size_trees i) ∙ ap (λ z. suc (size inner) ∷ z) (tree_tops o)

-- ---- codes by their functions

-- a code of the function stands there
pub record IsAt (all : List Code) (number : ℕ) (f : Function) : Type 0 where
  pub code : Code
  pub found : slice_get all number ≡ Some code
  pub name : code.name ≡ f.name
  pub given : code.given ≡ f.given

pub data Named : List Function → List Code → Type 0 where
  no_name : Named [] []
  name : {f : Function} {c : Code} {fs : List Function} {cs : List Code} → c.name ≡ f.name → c.given ≡ f.given → Named fs cs → Named (f ∷ fs) (c ∷ cs)

named_on : {fs gs : List Function} {cs ds : List Code} → Named fs cs → Named gs ds → Named (fs ++ gs) (cs ++ ds)
named_on no_name k = k
named_on (name a b h) k = name a b (named_on h k)

pub named_of : {source : Source} {depth n : ℕ} {f : Forest} {cs : List codes.Code} (m : ℕ) (g : Grows source depth n f cs) → Named (flat f) (codes_of m (trees_of g))
named_of m no_code = no_name
named_of m (with_code mine is i o) = name mine.written.name mine.written.given (named_on (named_of (suc m) i) (named_of (m + size_of (node (body_of mine.head mine.lines) (trees_of i))) o))

pub looked : {fs : List Function} {cs : List Code} → Named fs cs → (p : ℕ) (f : Function) → slice_get fs p ≡ Some f → IsAt cs p f
looked no_name zero f e = cc
looked no_name (suc p) f e = cc
looked (name {c = c} a b h) zero f e = record { code = c; found = refl; name = a ∙ cc; given = b ∙ cc }
looked (name a b h) (suc p) f e = let k = looked h p f e in record { code = k.code; found = k.found; name = k.name; given = k.given }

near : {X : Type 0} (xs ys : List X) (p : ℕ) (x : X) → slice_get xs p ≡ Some x → slice_get (xs ++ ys) p ≡ Some x
near [] ys zero x e = cc
near [] ys (suc p) x e = cc
near (y ∷ xs) ys zero x e = e
near (y ∷ xs) ys (suc p) x e = near xs ys p x e

far : {X : Type 0} (xs ys : List X) (p : ℕ) → slice_get (xs ++ ys) (length xs + p) ≡ slice_get ys p
far [] ys p = let e : 0 + p ≡ p = omega arith in ap (slice_get ys) e
far (x ∷ xs) ys p = let e : suc (length xs) + p ≡ suc (length xs + p) = omega arith in ap (slice_get (x ∷ (xs ++ ys))) e ∙ far xs ys p

-- ---- one text

pub joined : Laws → (all : List Code) (text : Text) (draft : Draft) (scope : Scope) (head : CodeHead) (lines : CodeLines) (trees : Trees) (number : ℕ) → text.base ≡ 0 → NamesLocals text
    → IsWritten text draft scope head lines → own text.body ≡ starts (suc number) (sizes text.body) → tree_sizes trees ≡ sizes text.body
    → ((p : ℕ) (f : Function) → slice_get (functions text.body) p ≡ Some f → IsAt all (suc number + p) f)
    → IsJoined all text (code_of (body_of head lines) (numbers_from (suc number) trees))
joined laws all text draft scope head lines trees number base named written starts_are sizes_are at =
    let children_are : HasChildren all text (code_of (body_of head lines) (numbers_from (suc number) trees)) = record {
      children = laws.numbers number text.body trees starts_are sizes_are ∙ ap (λ z. map (λ n. z + n) (own text.body)) (sym base);
      functions = λ i m is.
          let d = laws.defined (suc number) text.body starts_are i m is in
          let a = at d.place d.function d.found in
          let e : text.base + m.number ≡ suc number + d.place = let k = d.number in omega (arith, base, k) in
          record { code = a.code; found = ap (slice_get all) e ∙ a.found; name = a.name ∙ d.name; given = a.given ∙ d.given };
    } in
    laws.joined all text draft scope head lines (numbers_from (suc number) trees) written named.0 named.1 children_are

pub stands_at : Laws → (all : List Code) (text : Text) (draft : Draft) (scope : Scope) (head : CodeHead) (lines : CodeLines) (trees : Trees) (number : ℕ) (is_module : Bool) → scope.is_module ≡ is_module → text.base ≡ 0 → NamesLocals text
    → IsWritten text draft scope head lines → own text.body ≡ starts (suc number) (sizes text.body) → tree_sizes trees ≡ sizes text.body
    → ((p : ℕ) (f : Function) → slice_get (functions text.body) p ≡ Some f → IsAt all (suc number + p) f)
    → StandsCode all is_module text (code_of (body_of head lines) (numbers_from (suc number) trees))
stands_at laws all text draft scope head lines trees number is_module e base named written starts_are sizes_are at =
    subst (λ b. StandsCode all b text (code_of (body_of head lines) (numbers_from (suc number) trees))) e
    (laws.stands all text draft scope head lines (numbers_from (suc number) trees) written (joined laws all text draft scope head lines trees number base named written starts_are sizes_are at))

-- ---- all texts

stand_on : (all : List Code) (ts us : List Text) (cs ds : List Code) → StandAll all false ts cs → StandAll all false us ds → StandAll all false (ts ++ us) (cs ++ ds)
stand_on all [] us cs ds h k = subst (λ z. StandAll all false us (z ++ ds)) (sym h) k
stand_on all (t ∷ ts) us cs ds h k = (h.0, h.1 ++ ds, ap (λ z. z ++ ds) h.2, h.3, stand_on all ts us h.1 ds h.4 k)

named_left : (ts us : List Text) → AllNamed (ts ++ us) → AllNamed ts
named_left [] us h = tt
named_left (t ∷ ts) us h = (h.0, named_left ts us h.1)

named_right : (ts us : List Text) → AllNamed (ts ++ us) → AllNamed us
named_right [] us h = h
named_right (t ∷ ts) us h = named_right ts us h.1

pub count_left : (n : ℕ) (fs gs : List Function) → AllCount n (fs ++ gs) → AllCount n fs
count_left n [] gs h = tt
count_left n (f ∷ fs) gs h = (h.0, count_left (suc n) fs gs h.1)

pub count_right : (n : ℕ) (fs gs : List Function) → AllCount n (fs ++ gs) → AllCount (n + length fs) gs
count_right n [] gs h = let e : n ≡ n + 0 = omega arith in subst (λ z. AllCount z gs) e h
count_right n (f ∷ fs) gs h = let e : suc n + length fs ≡ n + suc (length fs) = omega arith in subst (λ z. AllCount z gs) e (count_right (suc n) fs gs h.1)

pub stand_all : Laws → (all : List Code) {source : Source} {depth n : ℕ} {f : Forest} {cs : List codes.Code} (g : Grows source depth n f cs) → AllNamed (texts_at source n f) → AllCount (suc n) (flat f)
    → ((p : ℕ) (h : Function) → slice_get (flat f) p ≡ Some h → IsAt all (suc n + p) h) → StandAll all false (texts_at source n f) (codes_of (suc n) (trees_of g))
stand_all laws all no_code named counts at = refl
stand_all laws all {source = source} {n = n} (with_code {f = f} {inner = inner} {others = others} mine is i o) named counts at =
    let text : Text = text_at source n f in
    let ts = texts_at source (suc n) inner in
    let us = texts_at source (suc (n + size inner)) others in
    let l = lists f.body in
    let within : (p : ℕ) (h : Function) → slice_get (flat inner) p ≡ Some h → IsAt all (suc (suc n) + p) h =
    λ p h e. let k : suc n + suc p ≡ suc (suc n) + p = omega arith in subst (λ z. IsAt all z h) k (at (suc p) h (near (flat inner) (flat others) p h e)) in
    let behind : (p : ℕ) (h : Function) → slice_get (flat others) p ≡ Some h → IsAt all (suc (suc (n + size inner)) + p) h =
    λ p h e.
    let len = length_flat inner in
    let k : suc n + suc (length (flat inner) + p) ≡ suc (suc (n + size inner)) + p = omega (arith, len) in
    subst (λ z. IsAt all z h) k (at (suc (length (flat inner) + p)) h (far (flat inner) (flat others) p ∙ e)) in
    let own_functions : (p : ℕ) (h : Function) → slice_get (functions f.body) p ≡ Some h → IsAt all (suc (suc n) + p) h =
    λ p h e. within p h (ap (λ z. slice_get (flat z) p) is ∙ ap (λ z. slice_get z p) l.functions ∙ e) in
    let stands : StandsCode all false text (code_of (body_of mine.head mine.lines) (numbers_from (suc (suc n)) (trees_of i))) =
    stands_at laws all text mine.draft mine.scope mine.head mine.lines (trees_of i) (suc n) false mine.is_module refl named.0 mine.written counts.0 (tree_tops i ∙ ap tops is ∙ l.sizes) own_functions in
    let here : StandAll all false ts (codes_of (suc (suc n)) (trees_of i)) = stand_all laws all i (named_left ts us named.1) (count_left (suc (suc n)) (flat inner) (flat others) counts.1) within in
    let len = length_flat inner in
    let number : suc (suc n) + length (flat inner) ≡ suc (suc (n + size inner)) = omega (arith, len) in
    let rest : StandAll all false us (codes_of (suc (suc (n + size inner))) (trees_of o)) =
    stand_all laws all o (named_right ts us named.1) (subst (λ z. AllCount z (flat others)) number (count_right (suc (suc n)) (flat inner) (flat others) counts.1)) behind in
    let size_is = size_trees i in
    let next : suc (suc (n + size inner)) ≡ suc n + suc (sizes_of (trees_of i)) = omega (arith, size_is) in
    let later : StandAll all false us (codes_of (suc n + suc (sizes_of (trees_of i))) (trees_of o)) = subst (λ z. StandAll all false us (codes_of z (trees_of o))) next rest in
    (code_of (body_of mine.head mine.lines) (numbers_from (suc (suc n)) (trees_of i)), codes_of (suc (suc n)) (trees_of i) ++ codes_of (suc n + suc (sizes_of (trees_of i))) (trees_of o), refl, stands, stand_on all ts us (codes_of (suc (suc n)) (trees_of i)) (codes_of (suc n + suc (sizes_of (trees_of i))) (trees_of o)) here later)

-- ---- states

states_on : (ts us : List Text) (bs cs : List _) → HaveStates ts bs → HaveStates us cs → HaveStates (ts ++ us) (bs ++ cs)
states_on [] us bs cs h k = subst (λ z. HaveStates us (z ++ cs)) (sym h) k
states_on (t ∷ ts) us bs cs h k = (h.0, h.1 ++ cs, ap (λ z. z ++ cs) h.2, h.3, states_on ts us h.1 cs h.4 k)

pub have_states : {source : Source} {depth n : ℕ} {f : Forest} {cs : List codes.Code} (g : Grows source depth n f cs) → HaveStates (texts_at source n f) (bodies_of (trees_of g))
have_states no_code = refl
have_states {source = source} {n = n} (with_code {inner = inner} {others = others} mine is i o) = (
  body_of mine.head mine.lines,
  _,
  refl,
  record { n_state = mine.n_state; n_exc = mine.n_exc },
  states_on (texts_at source (suc n) inner) (texts_at source (suc (n + size inner)) others) (bodies_of (trees_of i)) (bodies_of (trees_of o)) (have_states i) (have_states o),
)
