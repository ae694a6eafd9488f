-- Numbers that rise stand once each.
use Rattle.std.proofs.Common.{◌≡◌, ℕ, zero, suc, ◌+◌, ◌≤◌, List, [], ◌∷◌, map, Some, refl, ap, arith}
use Rattle.std.specs.Prelude.{slice_get}
use Rattle.py_meaning.specs.Tree.{Name, Function}
use Rattle.py_meaning.specs.Program.{Source, module_text, function_texts}
use Rattle.py_meaning.specs.Numbers.{Rises, NoneTwice, AllNumbered, numbers_in}
use Rattle.py_meaning.proofs.Fits.{AllRise}

-- behind the first one each is greater
above : (least : ℕ) (ns : List ℕ) (past base i n : ℕ) → Rises least ns past → slice_get (map (λ m. base + m) ns) i ≡ Some n → base + least ≤ n
above least [] past base i n h e = cc
above least (x ∷ ns) past base zero n h e = let same : base + x ≡ n = cc in let le : least ≤ x = h.0 in omega arith
above least (x ∷ ns) past base (suc i) n h e = let le : least ≤ x = h.0 in let more = above (suc x) ns past base i n h.1 e in omega arith

pub none_twice : (least : ℕ) (ns : List ℕ) (past base : ℕ) → Rises least ns past → NoneTwice (map (λ m. base + m) ns)
none_twice least [] past base h i j n e f = cc
none_twice least (x ∷ ns) past base h zero zero n e f = refl
none_twice least (x ∷ ns) past base h zero (suc j) n e f = let same : base + x ≡ n = cc in let more = above (suc x) ns past base j n h.1 f in absurd (omega arith)
none_twice least (x ∷ ns) past base h (suc i) zero n e f = let same : base + x ≡ n = cc in let more = above (suc x) ns past base i n h.1 e in absurd (omega arith)
none_twice least (x ∷ ns) past base h (suc i) (suc j) n e f = ap suc (none_twice (suc x) ns past base h.1 i j n e f)

functions_numbered : (file : Name) (source : Source) (base : ℕ) (fs : List Function) (tables : List (List Name)) → AllRise fs → AllNumbered (function_texts file source base fs tables)
functions_numbered file source base [] tables h = tt
functions_numbered file source base (f ∷ fs) [] h = (none_twice _ (numbers_in f.body) _ base h.0.2, functions_numbered file source base fs [] h.1)
functions_numbered file source base (f ∷ fs) (locals ∷ tables) h = (none_twice _ (numbers_in f.body) _ base h.0.2, functions_numbered file source base fs tables h.1)

pub source_numbered : (file : Name) (source : Source) (base least past : ℕ) (fs : List Function) → Rises least (numbers_in source.body) past → AllRise fs
    → AllNumbered (module_text file source base ∷ function_texts file source base fs source.locals)
source_numbered file source base least past fs h k = (none_twice least (numbers_in source.body) past base h, functions_numbered file source base fs source.locals k)
