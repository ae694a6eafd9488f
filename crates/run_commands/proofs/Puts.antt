-- One piece more of the source, and what is left of it.
use Rattle.std.proofs.Common.{ℕ, suc, ◌+◌, ◌-◌, ◌*◌, ◌<◌, ◌≤◌, ◌≡◌, min, List, ◌++◌, codes, sym, ◌∙◌, ap, subst, arith}
use Rattle.std.proofs.lemmas.List.{append_assoc, append-nil}
use Rattle.std.specs.Fmt.{decimal}
use Rattle.run_commands.specs.Draws.{next, after}
use Rattle.run_commands.specs.Source.{assignment, assignments, function, functions, call, calls}

-- what is put moves from what is to come to what is there
step : (was now piece rest whole : List ℕ) → now ≡ was ++ piece → was ++ (piece ++ rest) ≡ whole → now ++ rest ≡ whole
step was now piece rest whole put e = ap (λ xs. xs ++ rest) put ∙ (append_assoc was piece rest ∙ e)

less : (count k : ℕ) → k < count → count - k ≡ suc (count - (k + 1))
less count k lt = omega arith

pub assignments_step : (was now whole : List ℕ) (state count k : ℕ) → k < count → was ++ assignments state (count - k) ≡ whole
    → now ≡ was ++ assignment state → now ++ assignments (next (next state)) (count - (k + 1)) ≡ whole
assignments_step was now whole state count k lt e put =
    step was now (assignment state) (assignments (next (next state)) (count - (k + 1))) whole put
    (subst (λ n. was ++ assignments state n ≡ whole) (less count k lt) e)

pub after_step : (state count k : ℕ) → k < count → after state (2 * (count - k)) ≡ after (next (next state)) (2 * (count - (k + 1)))
after_step state count k lt =
    let two : 2 * (count - k) ≡ suc (suc (2 * (count - (k + 1)))) = omega arith in
    ap (after state) two

pub calls_step : (was now whole : List ℕ) (many k : ℕ) → k < many → was ++ calls (many - k) k ≡ whole
    → now ≡ was ++ call k → now ++ calls (many - (k + 1)) (k + 1) ≡ whole
calls_step was now whole many k lt e put =
    let next_number : suc k ≡ k + 1 = omega arith in
    subst (λ j. now ++ calls (many - (k + 1)) j ≡ whole) next_number
    (step was now (call k) (calls (many - (k + 1)) (suc k)) whole put
    (subst (λ n. was ++ calls n k ≡ whole) (less many k lt) e))

pub functions_step : (was now whole : List ℕ) (many state state1 number left here left1 : ℕ) → number < many
    → was ++ functions (many - number) state number left ≡ whole → here ≡ min left 500
    → now ≡ was ++ function state number here → state1 ≡ after state (2 * here) → left1 ≡ left - here
    → now ++ functions (many - (number + 1)) state1 (number + 1) left1 ≡ whole
functions_step was now whole many state state1 number left here left1 lt e eh put es el =
    let rest : ℕ = many - (number + 1) in
    let next_number : suc number ≡ number + 1 = omega arith in
    let least : ℕ = min left 500 in
    let one : was ++ (function state number least ++ functions rest (after state (2 * least)) (suc number) (left - least)) ≡ whole =
    subst (λ n. was ++ functions n state number left ≡ whole) (less many number lt) e in
    let two : was ++ (function state number here ++ functions rest (after state (2 * here)) (suc number) (left - here)) ≡ whole =
    subst (λ h. was ++ (function state number h ++ functions rest (after state (2 * h)) (suc number) (left - h)) ≡ whole) (sym eh) one in
    subst (λ j. now ++ functions rest state1 j left1 ≡ whole) next_number
    (subst (λ l. now ++ functions rest state1 (suc number) l ≡ whole) (sym el)
    (subst (λ s. now ++ functions rest s (suc number) (left - here) ≡ whole) (sym es)
    (step was now (function state number here) (functions rest (after state (2 * here)) (suc number) (left - here)) whole put two)))

-- nothing is left
pub assignments_end : (text whole : List ℕ) (state count k : ℕ) → count ≤ k → text ++ assignments state (count - k) ≡ whole → text ≡ whole
assignments_end text whole state count k le e =
    let none : 0 ≡ count - k = omega arith in
    sym (append-nil text) ∙ (ap (λ n. text ++ assignments state n) none ∙ e)

pub after_end : (state final count k : ℕ) → count ≤ k → after state (2 * (count - k)) ≡ final → state ≡ final
after_end state final count k le e =
    let none : 0 ≡ 2 * (count - k) = omega arith in
    ap (after state) none ∙ e

pub calls_end : (text whole : List ℕ) (many k number : ℕ) → many ≤ k → text ++ calls (many - k) number ≡ whole → text ≡ whole
calls_end text whole many k number le e =
    let none : 0 ≡ many - k = omega arith in
    sym (append-nil text) ∙ (ap (λ n. text ++ calls n number) none ∙ e)

pub functions_end : (text whole : List ℕ) (many k state number left : ℕ) → many ≤ k → text ++ functions (many - k) state number left ≡ whole → text ≡ whole
functions_end text whole many k state number left le e =
    let none : 0 ≡ many - k = omega arith in
    sym (append-nil text) ∙ (ap (λ n. text ++ functions n state number left) none ∙ e)

-- a function is put in two pieces
pub function_put : (was now1 now2 : List ℕ) (state number here : ℕ) → now1 ≡ was ++ (codes "def f" ++ (decimal number ++ codes "(d):\n")) → now2 ≡ now1 ++ assignments state here
    → now2 ≡ was ++ function state number here
function_put was now1 now2 state number here one two =
    let head : List ℕ = codes "def f" in
    let digits : List ℕ = decimal number in
    let tail : List ℕ = codes "(d):\n" in
    let body : List ℕ = assignments state here in
    two ∙ (ap (λ xs. xs ++ body) one
    ∙ (append_assoc was (head ++ (digits ++ tail)) body
    ∙ ap (λ xs. was ++ xs) (append_assoc head (digits ++ tail) body ∙ ap (λ xs. head ++ xs) (append_assoc digits tail body))))

-- all pieces, one behind another
pub whole_put : (first second third last was now1 now2 now3 : List ℕ) → was ≡ first → now1 ≡ was ++ second → now2 ≡ now1 ++ third → now3 ≡ now2 ++ last
    → now3 ≡ first ++ (second ++ (third ++ last))
whole_put first second third last was now1 now2 now3 a b c d =
    d ∙ (ap (λ xs. xs ++ last) (c ∙ ap (λ xs. xs ++ third) (b ∙ ap (λ xs. xs ++ second) a))
    ∙ (append_assoc (first ++ second) third last ∙ append_assoc first second (third ++ last)))
