-- A function's locals are its parameters and what it binds.
use Rattle.std.proofs.Common.{◌≡◌, ℕ, zero, suc, ◌<◌, ◌≤◌, Bool, true, false, not, cond, ◌&&◌, ◌||◌, List, [], ◌∷◌, ◌++◌, length, filter, Some, refl, sym, ap, ◌∙◌, subst, arith, length-append}
use Rattle.std.specs.Prelude.{bytes_eq, position, slice_get}
use Rattle.std.specs.List.{position_or_len}
use Rattle.std.proofs.lemmas.Bool.{lt-ltb}
use Rattle.std.proofs.lemmas.List.Folds.{list_any-append}
use Rattle.std.proofs.lemmas.Option.{slice_get_within, cond_some}
use Rattle.std.proofs.lemmas.Slice.Eq.{bytes_eq-Decides}
use Rattle.py_tree.specs.declared.stmt.Module.{Module}
use Rattle.bc_scheme.specs.py_scopes.Names.{has, firsts}
use Rattle.bc_scheme.specs.py_scopes.Scopes.{slots_of}
use Rattle.bc_scheme.proofs.py_scopes_lemmas.Tables.{has-kept}
use Rattle.bc_scheme.specs.py_meaning.Tree.{Name, Function, functions}
use Rattle.bc_scheme.specs.py_meaning.Plain.{plain_tree}
use Rattle.bc_scheme.specs.py_meaning.Program.{Source, function_texts, source_texts}
use Rattle.bc_scheme.specs.py_meaning.Globals.{globals_of}
use Rattle.bc_scheme.specs.py_meaning.Locals.{bound_in, own_locals, locals_of}
use Rattle.bc_scheme.specs.py_meaning.Params.{AllBeginWithParams}
use Rattle.bc_scheme.proofs.py_meaning_lemmas.Slots.{has_firsts}
use Rattle.emit_measures.specs.Named.{AllHaveOwnLocals}

-- ---- names that stand once

abbrev Once : List Name → Type 0
Once [] = Unit {0}
Once (x ∷ xs) = (has x xs ≡ false) × Once xs

once_cond : (b : Bool) (x : Name) (xs : List Name) → has x xs ≡ false → Once xs → Once (cond b (x ∷ xs) xs)
once_cond true x xs h o = (h, o)
once_cond false x xs h o = o

once_filter : (p : Name → Bool) (xs : List Name) → Once xs → Once (filter p xs)
once_filter p [] o = tt
once_filter p (x ∷ xs) o = once_cond (p x) x (filter p xs) (has-kept p x xs ∙ ap (λ b. b && p x) o.0) (once_filter p xs o.1)

and_false : (b : Bool) → (b && false) ≡ false
and_false true = refl
and_false false = refl

itself : (x : Name) → bytes_eq x x ≡ true
itself x = (bytes_eq-Decides x x).1 refl

once_firsts : (xs : List Name) → Once (firsts xs)
once_firsts [] = tt
once_firsts (x ∷ xs) =
    let p : Name → Bool = λ other. not (bytes_eq x other) in
    (has-kept p x (firsts xs) ∙ ap (λ b. has x (firsts xs) && not b) (itself x) ∙ and_false (has x (firsts xs)), once_filter p (firsts xs) (once_firsts xs))

got : (x y : Name) → Some x ≡ Some y → x ≡ y
got x y e = cc

or_true : (b : Bool) → (b || true) ≡ true
or_true true = refl
or_true false = refl

get_has : (xs : List Name) (i : ℕ) (name : Name) → slice_get xs i ≡ Some name → has name xs ≡ true
get_has [] i name e = cc
get_has (x ∷ xs) zero name e = ap (λ b. b || has name xs) ((bytes_eq-Decides name x).1 (sym (got x name e)))
get_has (x ∷ xs) (suc i) name e = ap (λ b. bytes_eq name x || b) (get_has xs i name e) ∙ or_true (bytes_eq name x)

differs : (b : Bool) (name x : Name) (xs : List Name) → bytes_eq name x ≡ b → has name xs ≡ true → has x xs ≡ false → b ≡ false
differs false name x xs e h n = refl
differs true name x xs e h n = let clash : true ≡ false = sym h ∙ ap (λ z. has z xs) ((bytes_eq-Decides name x).0 e) ∙ n in cc

-- a name that stands once has its place
first_place : (xs : List Name) (i : ℕ) (name : Name) → Once xs → slice_get xs i ≡ Some name → position_or_len (bytes_eq name) xs ≡ i
first_place [] i name o e = cc
first_place (x ∷ xs) zero name o e = rw ((bytes_eq-Decides name x).1 (sym (got x name e))) refl
first_place (x ∷ xs) (suc i) name o e = rw (differs (bytes_eq name x) name x xs refl (get_has xs i name e) o.0) (let h = first_place xs i name o.1 e in omega (arith, h))

place : (xs : List Name) (i : ℕ) (name : Name) → Once xs → slice_get xs i ≡ Some name → position (bytes_eq name) xs ≡ Some i
place xs i name o e =
    let first = first_place xs i name o e in
    let within : i < length xs = slice_get_within xs i name e in
    rw (first, lt-ltb i (length xs) within) refl

-- ---- parameters in front

front_step : (b : Bool) (x : Name) (params others : List Name) (name : Name) → bytes_eq name x ≡ b → (b || has name params) ≡ true
    → (has name params ≡ true → position_or_len (bytes_eq name) (params ++ others) < length params) → position_or_len (bytes_eq name) ((x ∷ params) ++ others) < suc (length params)
front_step true x params others name e h more = rw e (omega arith)
front_step false x params others name e h more = let l = more h in rw e (omega (arith, l))

front_len : (params others : List Name) (name : Name) → has name params ≡ true → position_or_len (bytes_eq name) (params ++ others) < length params
front_len [] others name h = cc
front_len (x ∷ params) others name h = front_step (bytes_eq name x) x params others name refl h (front_len params others name)

front : (params others : List Name) (name : Name) (slot : ℕ) → has name params ≡ true → position (bytes_eq name) (params ++ others) ≡ Some slot → slot < length params
front params others name slot h e =
    let at : position_or_len (bytes_eq name) (params ++ others) ≡ slot = (cond_some _ _ slot e).1 in
    let l = front_len params others name h in
    omega (arith, at, l)

-- the element at a place
at_place : (xs : List Name) (i : ℕ) → i < length xs → (name : Name) × (slice_get xs i ≡ Some name)
at_place [] i h = absurd (omega arith)
at_place (x ∷ xs) zero h = (x, refl)
at_place (x ∷ xs) (suc i) h = at_place xs i (omega arith)

left_of : (a b : Bool) → (a && b) ≡ true → a ≡ true
left_of true b e = refl
left_of false b e = cc

right_of : (a b : Bool) → (a || b) ≡ true → (a ≡ true → ⊥) → b ≡ true
right_of true b e h = absurd (h refl)
right_of false b e h = e

own_at : (f : Function) (globals others : List Name) (slot : ℕ) → own_locals f globals ≡ f.params ++ others → length f.params ≤ slot → slot < length (own_locals f globals)
    → (name : Name) × (has name (bound_in f.body) ≡ true) × (position (bytes_eq name) (own_locals f globals) ≡ Some slot)
own_at f globals others slot begins past within =
    let all : List Name = f.params ++ bound_in f.body in
    let keep : Name → Bool = λ name. not (has name globals) in
    let here = at_place (own_locals f globals) slot within in
    let name : Name = here.0 in
    let placed : position (bytes_eq name) (own_locals f globals) ≡ Some slot = place (own_locals f globals) slot name (once_filter keep (firsts all) (once_firsts all)) here.1 in
    let kept : (has name (firsts all) && keep name) ≡ true = sym (has-kept keep name (firsts all)) ∙ get_has (own_locals f globals) slot name here.1 in
    let bound : has name all ≡ true = sym (has_firsts name all) ∙ left_of (has name (firsts all)) (keep name) kept in
    let either : (has name f.params || has name (bound_in f.body)) ≡ true = sym (list_any-append (bytes_eq name) f.params (bound_in f.body)) ∙ bound in
    (name, right_of (has name f.params) (has name (bound_in f.body)) either (λ h. let l = front f.params others name slot h (ap (position (bytes_eq name)) (sym begins) ∙ placed) in absurd (omega (arith, l, past))), placed)

functions_own : (file : Name) (source : Source) (base : ℕ) (fs : List Function) (globals : List (List Name)) → length globals ≡ length fs → AllBeginWithParams (function_texts file source base fs (locals_of fs globals))
    → AllHaveOwnLocals (function_texts file source base fs (locals_of fs globals))
functions_own file source base [] globals e b = tt
functions_own file source base (f ∷ fs) [] e b = absurd (omega arith)
functions_own file source base (f ∷ fs) (names ∷ globals) e b =
    let begins = b.0.1 in
    let count = ap length begins in
    let sum = length-append f.params b.0.0 in
    (record { params = omega (arith, count, sum); others = λ slot past within. own_at f names b.0.0 slot begins past within }, functions_own file source base fs globals (omega (arith, e)) b.1)

pub all_own : (tree : Module) (source : Source) (base : ℕ) → source.body ≡ plain_tree tree → slots_of tree ≡ locals_of (functions (plain_tree tree)) (globals_of tree) → length (globals_of tree) ≡ length (functions (plain_tree tree))
    → source.locals ≡ slots_of tree → AllBeginWithParams (source_texts source.file source base) → AllHaveOwnLocals (source_texts source.file source base)
all_own tree source base body slots count locals begins =
    let own : AllBeginWithParams (function_texts source.file source base (functions (plain_tree tree)) (locals_of (functions (plain_tree tree)) (globals_of tree))) =
    subst (λ tables. AllBeginWithParams (function_texts source.file source base (functions (plain_tree tree)) tables)) (locals ∙ slots)
    (subst (λ b. AllBeginWithParams (function_texts source.file source base (functions b) source.locals)) body begins.1) in (
      record { params = omega arith; others = λ slot past within. absurd (omega (arith, within)) },
      subst (λ b. AllHaveOwnLocals (function_texts source.file source base (functions b) source.locals)) (sym body)
          (subst (λ tables. AllHaveOwnLocals (function_texts source.file source base (functions (plain_tree tree)) tables)) (sym (locals ∙ slots))
          (functions_own source.file source base (functions (plain_tree tree)) (globals_of tree) count own)),
    )
