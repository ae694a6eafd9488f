-- The numbers of a text's functions, in the words of both sides.
use Rattle.std.proofs.Common.{◌≡◌, ℕ, ◌+◌, List, ◌++◌, map, refl, sym, ap, ◌∙◌, subst}
use Rattle.emit_measures.specs.bc_scheme.py_meaning.Tree.{Stmt, Do, Assign, AugName, AugAttr, AugIndex, Delete, Pass, Break, Continue, ReturnNone, Return, Reraise, Raise, Assert, AssertWith, Import, From, If, While, For, Try, Finally, TryFinally, Def, Block, End, Next, Branches, Else, Case, Handlers, NoHandler, Any, On, OnAs}
use Rattle.emit_measures.specs.bc_scheme.py_meaning.Program.{Text}
use Rattle.emit_measures.specs.bc_scheme.py_meaning.Numbers.{numbers_in, numbers_by, numbers_of, numbers_from, NoneTwice, IsNumbered}
use Rattle.emit_measures.specs.bc_scheme.Translation.{own, own_in, own_of, own_by}

both : (xs ys us vs : List ℕ) → xs ≡ ys → us ≡ vs → xs ++ us ≡ ys ++ vs
both xs ys us vs e f = ap (λ z. z ++ us) e ∙ ap (λ z. ys ++ z) f

mutual
  pub own_is : (body : Block) → own body ≡ numbers_in body
  own_is End = refl
  own_is (Next line s b) = both (own_in s) (numbers_by s) (own b) (numbers_in b) (own_by_stmt s) (own_is b)

  own_by_stmt : (s : Stmt) → own_in s ≡ numbers_by s
  own_by_stmt (Do value) = refl
  own_by_stmt (Assign targets value) = refl
  own_by_stmt (AugName name op value) = refl
  own_by_stmt (AugAttr object name op value) = refl
  own_by_stmt (AugIndex object index op value) = refl
  own_by_stmt (Delete targets) = refl
  own_by_stmt Pass = refl
  own_by_stmt Break = refl
  own_by_stmt Continue = refl
  own_by_stmt ReturnNone = refl
  own_by_stmt (Return value) = refl
  own_by_stmt Reraise = refl
  own_by_stmt (Raise value) = refl
  own_by_stmt (Assert test) = refl
  own_by_stmt (AssertWith test message) = refl
  own_by_stmt (Import names) = refl
  own_by_stmt (From path names) = refl
  own_by_stmt (If branches) = own_of_branches branches
  own_by_stmt (While test body rest) = both (own body) (numbers_in body) (own rest) (numbers_in rest) (own_is body) (own_is rest)
  own_by_stmt (For target over body rest) = both (own body) (numbers_in body) (own rest) (numbers_in rest) (own_is body) (own_is rest)
  own_by_stmt (Try body handlers rest) =
      both (own body ++ own_by handlers) (numbers_in body ++ numbers_from handlers) (own rest) (numbers_in rest)
      (both (own body) (numbers_in body) (own_by handlers) (numbers_from handlers) (own_is body) (own_from handlers)) (own_is rest)
  own_by_stmt (Finally body last) = both (own body) (numbers_in body) (own last) (numbers_in last) (own_is body) (own_is last)
  own_by_stmt (TryFinally body handlers rest last) =
      both (own body ++ own_by handlers ++ own rest) (numbers_in body ++ numbers_from handlers ++ numbers_in rest) (own last) (numbers_in last)
      (both (own body ++ own_by handlers) (numbers_in body ++ numbers_from handlers) (own rest) (numbers_in rest)
      (both (own body) (numbers_in body) (own_by handlers) (numbers_from handlers) (own_is body) (own_from handlers)) (own_is rest))
      (own_is last)
  own_by_stmt (Def number name params defaults body) = refl

  own_of_branches : (branches : Branches) → own_of branches ≡ numbers_of branches
  own_of_branches (Else body) = own_is body
  own_of_branches (Case line test body branches) = both (own body) (numbers_in body) (own_of branches) (numbers_of branches) (own_is body) (own_of_branches branches)

  own_from : (handlers : Handlers) → own_by handlers ≡ numbers_from handlers
  own_from NoHandler = refl
  own_from (Any line body) = own_is body
  own_from (On line test body handlers) = both (own body) (numbers_in body) (own_by handlers) (numbers_from handlers) (own_is body) (own_from handlers)
  own_from (OnAs line test name body handlers) = both (own body) (numbers_in body) (own_by handlers) (numbers_from handlers) (own_is body) (own_from handlers)

-- so what is numbered once in the words of one is in those of the other
pub own_once : (text : Text) → IsNumbered text → NoneTwice (map (λ m. text.base + m) (own text.body))
own_once text h = subst (λ ns. NoneTwice (map (λ m. text.base + m) ns)) (sym (own_is text.body)) h
