-- A function's locals begin with its parameters.
use Rattle.std.proofs.Common.{◌≡◌, ℕ, Bool, true, false, not, ◌||◌, List, [], ◌∷◌, ◌++◌, length, length-append, filter, refl, ap, ◌∙◌, arith}
use Rattle.std.specs.Str.{bytes_eq}
use Rattle.std.proofs.lemmas.List.Elements.{filter-append}
use Rattle.std.proofs.lemmas.Slice.Eq.{bytes_eq-Decides}
use Rattle.py_scopes.specs.Names.{has, firsts}
use Rattle.py_meaning.specs.Tree.{Name, Function}
use Rattle.py_meaning.specs.Program.{Source, Text, function_texts, module_text}
use Rattle.py_meaning.specs.Locals.{bound_in, own_locals, locals_of}
use Rattle.py_meaning.specs.Params.{AllBeginWithParams, AllHaveSlots}
use Rattle.py_meaning.proofs.Fits.{Kept, AllKept, AllDistinct}

-- what a list of names with more behind it gives
firsts_on : (xs ys : List Name) → (rest : List Name) × (firsts (xs ++ ys) ≡ firsts xs ++ rest)
firsts_on [] ys = (firsts ys, refl)
firsts_on (x ∷ xs) ys =
    let p : Name → Bool = λ other. not (bytes_eq x other) in
    let more = firsts_on xs ys in
    (filter p more.0, ap (λ (names : List Name). x ∷ names) (ap (filter p) more.1 ∙ filter-append p (firsts xs) more.0))

first_kept : (p : Name → Bool) (name : Name) (names : List Name) → p name ≡ true → filter p (name ∷ names) ≡ name ∷ filter p names
first_kept p name names e = rw e

itself : (name : Name) (names : List Name) → has name (name ∷ names) ≡ true
itself name names = ap (λ (b : Bool). b || has name names) ((bytes_eq-Decides name name).1 refl)

or_true : (b : Bool) → (b || true) ≡ true
or_true true = refl
or_true false = refl

-- names of which none is declared global stay
all_stay : (params globals : List Name) → Kept params globals → filter (λ name. not (has name globals)) params ≡ params
all_stay [] globals h = refl
all_stay (name ∷ params) globals h =
    first_kept _ name params (ap not (h name (itself name params)))
    ∙ ap (λ (names : List Name). name ∷ names) (all_stay params globals (λ other is. h other (ap (λ (b : Bool). bytes_eq other name || b) is ∙ or_true (bytes_eq other name))))

pub begins : (f : Function) (globals : List Name) → firsts f.params ≡ f.params → Kept f.params globals → (others : List Name) × (own_locals f globals ≡ f.params ++ others)
begins f globals distinct kept =
    let p : Name → Bool = λ name. not (has name globals) in
    let more = firsts_on f.params (bound_in f.body) in
    (filter p more.0, ap (filter p) (more.1 ∙ ap (λ (names : List Name). names ++ more.0) distinct) ∙ filter-append p f.params more.0 ∙ ap (λ (names : List Name). names ++ filter p more.0) (all_stay f.params globals kept))

functions_begin : (file : Name) (source : Source) (base : ℕ) (fs : List Function) (globals : List (List Name)) → AllDistinct fs → AllKept fs globals → length globals ≡ length fs
    → AllBeginWithParams (function_texts file source base fs (locals_of fs globals))
functions_begin file source base [] globals d k e = tt
functions_begin file source base (f ∷ fs) [] d k e = absurd (omega arith)
functions_begin file source base (f ∷ fs) (names ∷ globals) d k e = (begins f names d.0 k.0, functions_begin file source base fs globals d.1 k.1 (omega arith))

pub texts_begin : (file : Name) (source : Source) (base : ℕ) (fs : List Function) (globals : List (List Name)) → AllDistinct fs → AllKept fs globals → length globals ≡ length fs
    → AllBeginWithParams (module_text file source base ∷ function_texts file source base fs (locals_of fs globals))
texts_begin file source base fs globals d k e = (([], refl), functions_begin file source base fs globals d k e)

pub have_slots : (texts : List Text) → AllBeginWithParams texts → AllHaveSlots texts
have_slots [] h = tt
have_slots (text ∷ texts) h = ((let e = ap length h.0.1 in let l = length-append text.params h.0.0 in omega arith), have_slots texts h.1)
