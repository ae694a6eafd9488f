-- The functions that a text defines itself, among all of its functions.
use Rattle.std.proofs.Common.{◌≡◌, ℕ, zero, suc, ◌+◌, List, [], ◌∷◌, ◌++◌, length, map, Some, refl, sym, ap, ◌∙◌, subst, arith, append_assoc, append-nil}
use Rattle.std.specs.Prelude.{slice_get}
use Rattle.tr_source.specs.py_meaning.Tree.{Stmt, If, While, For, Try, Finally, TryFinally, Def, Block, End, Next, Branches, Else, Case, Handlers, NoHandler, Any, On, OnAs, Function, functions, functions_in, functions_of, functions_by, count}
use Rattle.emit_measures.specs.bc_scheme.Translation.{own}
use Rattle.emit_stmt.specs.emit_draft.Children.{starts, sizes, sizes_in, sizes_of, sizes_by}
use Rattle.emit_stmt.specs.Children.{Made, number_of, made, made_in, made_of, made_by}
use Rattle.emit_module.specs.Found.{IsDefined, AllBegin}

-- each function in front of those in it
data Heads : List Made → List ℕ → List Function → Type 0 where
  no_head : Heads [] [] []
  head : {m : Made} {ms : List Made} {ss : List ℕ} {fs : List Function} (f : Function) (inner : List Function) → f.name ≡ m.name → f.given ≡ m.given → Heads ms ss fs
      → Heads (m ∷ ms) (suc (length inner) ∷ ss) (f ∷ (inner ++ fs))

joined : {xs ys : List Made} {ss ts : List ℕ} {fs gs : List Function} → Heads xs ss fs → Heads ys ts gs → Heads (xs ++ ys) (ss ++ ts) (fs ++ gs)
joined no_head k = k
joined {ys = ys} {ts = ts} {gs = gs} (head {m = m} {ms = ms} {ss = ss} {fs = fs} f inner a b h) k =
    subst (λ z. Heads (m ∷ (ms ++ ys)) (suc (length inner) ∷ (ss ++ ts)) (f ∷ z)) (sym (append_assoc inner fs gs)) (head f inner a b (joined h k))

mutual
  heads : (b : Block) → Heads (made b) (sizes b) (functions b)
  heads End = no_head
  heads (Next line s b) = joined (heads_in s) (heads b)

  heads_in : (s : Stmt) → Heads (made_in s) (sizes_in s) (functions_in s)
  heads_in (If branches) = heads_of branches
  heads_in (While e body rest) = joined (heads body) (heads rest)
  heads_in (For t e body rest) = joined (heads body) (heads rest)
  heads_in (Try body handlers rest) = joined (joined (heads body) (heads_by handlers)) (heads rest)
  heads_in (Finally body last) = joined (heads body) (heads last)
  heads_in (TryFinally body handlers rest last) = joined (joined (joined (heads body) (heads_by handlers)) (heads rest)) (heads last)
  heads_in (Def number name params defaults body) =
      let f : Function = record { name = name; params = params; given = count defaults; body = body } in
      let m : Made = record { number = number; name = name; given = count defaults } in
      subst (λ z. Heads (m ∷ []) (suc (length (functions body)) ∷ []) (f ∷ z)) (append-nil (functions body)) (head {m = m} f (functions body) refl refl no_head)
  heads_in _ = no_head

  heads_of : (branches : Branches) → Heads (made_of branches) (sizes_of branches) (functions_of branches)
  heads_of (Else b) = heads b
  heads_of (Case line e b branches) = joined (heads b) (heads_of branches)

  heads_by : (handlers : Handlers) → Heads (made_by handlers) (sizes_by handlers) (functions_by handlers)
  heads_by NoHandler = no_head
  heads_by (Any line b) = heads b
  heads_by (On line e b handlers) = joined (heads b) (heads_by handlers)
  heads_by (OnAs line e name b handlers) = joined (heads b) (heads_by handlers)

far : (xs ys : List Function) (k : ℕ) → slice_get (xs ++ ys) (length xs + k) ≡ slice_get ys k
far [] ys k = let e : 0 + k ≡ k = omega arith in ap (slice_get ys) e
far (x ∷ xs) ys k = let e : suc (length xs) + k ≡ suc (length xs + k) = omega arith in ap (slice_get (x ∷ (xs ++ ys))) e ∙ far xs ys k

placed : {ms : List Made} {ss : List ℕ} {fs : List Function} (n : ℕ) → Heads ms ss fs → map number_of ms ≡ starts n ss → (i : ℕ) (m : Made) → slice_get ms i ≡ Some m → IsDefined fs n m
placed n no_head e zero m is = cc
placed n no_head e (suc i) m is = cc
placed n (head {m = o} {ms = ms} {ss = ss} {fs = fs} f inner a b h) e zero m is =
    let same : o ≡ m = cc in
    let first : o.number ≡ n = cc in
    let at : o.number ≡ n + 0 = omega (arith, first) in
    let here : IsDefined (f ∷ (inner ++ fs)) n o = record { place = 0; function = f; number = at; found = refl; name = a; given = b } in
    subst (IsDefined (f ∷ (inner ++ fs)) n) same here
placed n (head {m = o} {ms = ms} {ss = ss} {fs = fs} f inner a b h) e (suc i) m is =
    let rest : map number_of ms ≡ starts (n + suc (length inner)) ss = cc in
    let d : IsDefined fs (n + suc (length inner)) m = placed (n + suc (length inner)) h rest i m is in
    let at : m.number ≡ n + (suc (length inner) + d.place) = let k = d.number in omega (arith, k) in
    record { place = suc (length inner) + d.place; function = d.function; number = at; found = far (f ∷ inner) fs d.place ∙ d.found; name = d.name; given = d.given }

pub defined : ((block : Block) → own block ≡ map number_of (made block))
    → (n : ℕ) (b : Block) → own b ≡ starts n (sizes b) → (i : ℕ) (m : Made) → slice_get (made b) i ≡ Some m → IsDefined (functions b) n m
defined numbers n b e = placed n (heads b) (sym (numbers b) ∙ e)

all_on : (xs ys : List Function) → AllBegin xs → AllBegin ys → AllBegin (xs ++ ys)
all_on [] ys h k = k
all_on (x ∷ xs) ys h k = (h.0 ++ ys, ap (λ z. z ++ ys) h.1 ∙ append_assoc (functions x.body) h.0 ys, all_on xs ys h.2 k)

mutual
  pub begins : (b : Block) → AllBegin (functions b)
  begins End = tt
  begins (Next line s b) = all_on (functions_in s) (functions b) (begins_in s) (begins b)

  begins_in : (s : Stmt) → AllBegin (functions_in s)
  begins_in (If branches) = begins_of branches
  begins_in (While e body rest) = all_on (functions body) (functions rest) (begins body) (begins rest)
  begins_in (For t e body rest) = all_on (functions body) (functions rest) (begins body) (begins rest)
  begins_in (Try body handlers rest) =
      all_on (functions body ++ functions_by handlers) (functions rest) (all_on (functions body) (functions_by handlers) (begins body) (begins_by handlers)) (begins rest)
  begins_in (Finally body last) = all_on (functions body) (functions last) (begins body) (begins last)
  begins_in (TryFinally body handlers rest last) =
      all_on (functions body ++ functions_by handlers ++ functions rest) (functions last)
      (all_on (functions body ++ functions_by handlers) (functions rest) (all_on (functions body) (functions_by handlers) (begins body) (begins_by handlers)) (begins rest)) (begins last)
  begins_in (Def number name params defaults body) = ([], sym (append-nil (functions body)), begins body)
  begins_in _ = tt

  begins_of : (branches : Branches) → AllBegin (functions_of branches)
  begins_of (Else b) = begins b
  begins_of (Case line e b branches) = all_on (functions b) (functions_of branches) (begins b) (begins_of branches)

  begins_by : (handlers : Handlers) → AllBegin (functions_by handlers)
  begins_by NoHandler = tt
  begins_by (Any line b) = begins b
  begins_by (On line e b handlers) = all_on (functions b) (functions_by handlers) (begins b) (begins_by handlers)
  begins_by (OnAs line e name b handlers) = all_on (functions b) (functions_by handlers) (begins b) (begins_by handlers)
