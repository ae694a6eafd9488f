-- The functions of a text, by their numbers and as children.
use Rattle.std.proofs.Common.{◌≡◌, ℕ, suc, ◌+◌, List, [], ◌∷◌, ◌++◌, length, map, Some, refl, sym, ap, ◌∙◌, subst, arith, append_assoc, length-append}
use Rattle.std.specs.Prelude.{slice_get}
use Rattle.std.proofs.lemmas.List.{map-append}
use Rattle.emit_expr.specs.py_meaning.Tree.{Stmt, If, While, For, Try, Finally, TryFinally, Def, Block, End, Next, Branches, Else, Case, Handlers, NoHandler, Any, On, OnAs}
use Rattle.emit_expr.specs.bc_scheme.Context.{Context, IsChild}
use Rattle.emit_expr.specs.bc_scheme.Translation.{own, own_in, own_of, own_by}
use Rattle.emit_stmt.specs.Children.{Made, number_of, made, made_in, made_of, made_by, AreChildren, no_child, child}

joined : (xs ys : List Made) (ms ns : List ℕ) → ms ≡ map number_of xs → ns ≡ map number_of ys → ms ++ ns ≡ map number_of (xs ++ ys)
joined xs ys ms ns e f = ap (λ z. z ++ ns) e ∙ ap (λ z. map number_of xs ++ z) f ∙ sym (map-append number_of xs ys)

mutual
  pub own_is : (b : Block) → own b ≡ map number_of (made b)
  own_is End = refl
  own_is (Next line s b) = joined (made_in s) (made b) (own_in s) (own b) (own_in_is s) (own_is b)

  own_in_is : (s : Stmt) → own_in s ≡ map number_of (made_in s)
  own_in_is (If branches) = own_of_is branches
  own_in_is (While e body rest) = joined (made body) (made rest) (own body) (own rest) (own_is body) (own_is rest)
  own_in_is (For t e body rest) = joined (made body) (made rest) (own body) (own rest) (own_is body) (own_is rest)
  own_in_is (Try body handlers rest) =
      joined (made body ++ made_by handlers) (made rest) (own body ++ own_by handlers) (own rest) (joined (made body) (made_by handlers) (own body) (own_by handlers) (own_is body) (own_by_is handlers)) (own_is rest)
  own_in_is (Finally body last) = joined (made body) (made last) (own body) (own last) (own_is body) (own_is last)
  own_in_is (TryFinally body handlers rest last) =
      joined (made body ++ made_by handlers ++ made rest) (made last) (own body ++ own_by handlers ++ own rest) (own last)
      (joined (made body ++ made_by handlers) (made rest) (own body ++ own_by handlers) (own rest) (joined (made body) (made_by handlers) (own body) (own_by handlers) (own_is body) (own_by_is handlers)) (own_is rest)) (own_is last)
  own_in_is (Def number name params defaults body) = refl
  own_in_is _ = refl

  own_of_is : (branches : Branches) → own_of branches ≡ map number_of (made_of branches)
  own_of_is (Else b) = own_is b
  own_of_is (Case line e b branches) = joined (made b) (made_of branches) (own b) (own_of branches) (own_is b) (own_of_is branches)

  own_by_is : (handlers : Handlers) → own_by handlers ≡ map number_of (made_by handlers)
  own_by_is NoHandler = refl
  own_by_is (Any line b) = own_is b
  own_by_is (On line e b handlers) = joined (made b) (made_by handlers) (own b) (own_by handlers) (own_is b) (own_by_is handlers)
  own_by_is (OnAs line e name b handlers) = joined (made b) (made_by handlers) (own b) (own_by handlers) (own_is b) (own_by_is handlers)

get_behind : (xs ys : List ℕ) (x : ℕ) → slice_get (xs ++ x ∷ ys) (length xs) ≡ Some x
get_behind [] ys x = refl
get_behind (z ∷ zs) ys x = get_behind zs ys x

are_from : (c : Context) (front : List ℕ) (ms : List Made) → c.children ≡ front ++ map (λ (m : Made). c.base + m.number) ms
    → ((i : ℕ) (m : Made) → slice_get ms i ≡ Some m → IsChild c (c.base + m.number) m.name m.given) → AreChildren c (length front) ms
are_from c front [] is each = no_child
are_from c front (m ∷ ms) is each =
    let x : ℕ = c.base + m.number in
    let longer : length (front ++ x ∷ []) ≡ suc (length front) = omega (arith, length-append front (x ∷ [])) in
    child (ap (λ z. slice_get z (length front)) is ∙ get_behind front (map (λ (o : Made). c.base + o.number) ms) x) (each 0 m refl)
    (subst (λ z. AreChildren c z ms) longer
    (are_from c (front ++ x ∷ []) ms (is ∙ sym (append_assoc front (x ∷ []) (map (λ (o : Made). c.base + o.number) ms))) (λ i o e. each (suc i) o e)))

pub are_children : (c : Context) (ms : List Made) → c.children ≡ map (λ (m : Made). c.base + m.number) ms → ((i : ℕ) (m : Made) → slice_get ms i ≡ Some m → IsChild c (c.base + m.number) m.name m.given) → AreChildren c 0 ms
are_children c ms is each = are_from c [] ms is each
