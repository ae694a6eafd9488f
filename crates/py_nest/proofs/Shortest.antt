-- The shortest front that nests too deep.
use Rattle.std.proofs.Common.{◌≡◌, ℕ, suc, ◌+◌, ◌<◌, ◌≤◌, inl, inr, List, [], ◌∷◌, ◌++◌, length, take, drop, get_or, refl, sym, ap, subst, ◌∙◌, arith, drop-cons}
use Rattle.std.proofs.lemmas.Bool.{cases_lt}
use Rattle.std.proofs.lemmas.List.{take_more, take-append-le, take-append-drop, length-take-le, take_all}
use Rattle.std.proofs.lemmas.List.Sums.{fold-append}
use Rattle.std.proofs.Math.Seq.{take-append-add, get_or-append_seam}
use Rattle.py_tokens.specs.declared.token.Token.{Token}
use Rattle.py_nest.specs.Nest.{base, after, levels_of, nest, Nests, IsTooDeep}
use Rattle.py_nest.specs.declared.nest.TheConstants.{MAX_NEST}

-- the levels one token further
pub levels_more : (tokens : List Token) (i : ℕ) (token : Token) → i < length tokens → token ≡ get_or tokens i token
    → levels_of (take (i + 1) tokens) ≡ after (levels_of (take i tokens)) token
levels_more tokens i token lt is =
    ap levels_of (take_more tokens i token lt) ∙ fold-append after base (take i tokens) (get_or tokens i token ∷ []) ∙ ap (after (levels_of (take i tokens))) (sym is)

pub nests_more : (tokens : List Token) (i : ℕ) → ((count : ℕ) → count ≤ i → nest (take count tokens) ≤ MAX_NEST)
    → nest (take (i + 1) tokens) ≤ MAX_NEST → (count : ℕ) → count ≤ i + 1 → nest (take count tokens) ≤ MAX_NEST
nests_more tokens i below here count le =
    elim (cases_lt i count) [ inl w ↦ (let is : count ≡ i + 1 = omega arith in rw is here) | inr w ↦ below count w ]

-- all fronts up to the whole
pub nests_all : (tokens : List Token) → ((count : ℕ) → count ≤ length tokens → nest (take count tokens) ≤ MAX_NEST) → Nests tokens
nests_all tokens below count =
    let le : length tokens ≤ length tokens = omega arith in
    elim (cases_lt (length tokens) count) [
      | inl w ↦ rw (take_all count tokens (omega arith) ∙ sym (take_all (length tokens) tokens le)) (below (length tokens) le)
      | inr w ↦ below count w
    ]

-- a front of a front that nests
nests_within : (front rest : List Token) → Nests front → (count : ℕ) → count ≤ length front → nest (take count (front ++ rest)) ≤ MAX_NEST
nests_within front rest nests count le = rw (take-append-le count front rest le) (nests count)

-- where a front nests too deep
passes_at : (tokens : List Token) (line : ℕ) (deep : IsTooDeep tokens line) → MAX_NEST < nest (take (length deep.front + 1) tokens)
passes_at tokens line deep =
    subst (λ (q : List Token). MAX_NEST < nest q)
    (sym (ap (take (length deep.front + 1)) deep.splits ∙ take-append-add deep.front (deep.last ∷ deep.rest) 1)) deep.passes

no_longer : (tokens : List Token) (a b : ℕ) (x : IsTooDeep tokens a) (y : IsTooDeep tokens b) → length y.front ≤ length x.front
no_longer tokens a b x y =
    elim (cases_lt (length x.front) (length y.front)) [
      | inr w ↦ w
      | inl w ↦
          let up = passes_at tokens a x in
          let down : nest (take (length x.front + 1) tokens) ≤ MAX_NEST =
          subst (λ (q : List Token). nest (take (length x.front + 1) q) ≤ MAX_NEST) (sym y.splits)
          (nests_within y.front (y.last ∷ y.rest) y.nests (length x.front + 1) (omega arith)) in
          absurd (omega arith)
    ]

last_at : (tokens : List Token) (line : ℕ) (deep : IsTooDeep tokens line) (other : Token) → get_or tokens (length deep.front) other ≡ deep.last
last_at tokens line deep other =
    ap (λ q. get_or q (length deep.front) other) deep.splits ∙ get_or-append_seam deep.front deep.last deep.rest other

pub one_line : (tokens : List Token) (first second : ℕ) → IsTooDeep tokens first → IsTooDeep tokens second → first ≡ second
one_line tokens a b x y =
    let le = no_longer tokens a b x y in
    let ge = no_longer tokens b a y x in
    let same : length x.front ≡ length y.front = omega arith in
    let last : x.last ≡ y.last = sym (last_at tokens a x x.last) ∙ ap (λ n. get_or tokens n x.last) same ∙ last_at tokens b y x.last in
    x.stands ∙ ap (λ (token : Token). token.line) last ∙ sym y.stands

pub not_too_deep : (tokens : List Token) (line : ℕ) → Nests tokens → IsTooDeep tokens line → ⊥
not_too_deep tokens line nests deep =
    let up = passes_at tokens line deep in
    let down = nests (length deep.front + 1) in
    omega arith

-- the first token that takes them past it
pub too_deep : (tokens : List Token) (i : ℕ) (token : Token) → i < length tokens → token ≡ get_or tokens i token
    → ((count : ℕ) → count ≤ i → nest (take count tokens) ≤ MAX_NEST) → MAX_NEST < nest (take (i + 1) tokens) → IsTooDeep tokens token.line
too_deep tokens i token lt is below here =
    let len = length-take-le i tokens (omega arith) in
    let taken : take (i + 1) tokens ≡ take i tokens ++ token ∷ [] =
    take_more tokens i token lt ∙ ap (λ (q : Token). take i tokens ++ q ∷ []) (sym is) in
    let splits : tokens ≡ take i tokens ++ token ∷ drop (suc i) tokens =
    sym (take-append-drop i tokens) ∙ ap (λ q. take i tokens ++ q) (drop-cons tokens i token lt ∙ ap (λ (q : Token). q ∷ drop (suc i) tokens) (sym is)) in
    record {
      front = take i tokens;
      last = token;
      rest = drop (suc i) tokens;
      splits = splits;
      nests = nests_all (take i tokens) (λ count le.
          let part : nest (take count (take i tokens ++ drop i tokens)) ≤ MAX_NEST =
          rw (take-append-drop i tokens) (below count (omega arith)) in
          subst (λ (q : List Token). nest q ≤ MAX_NEST) (take-append-le count (take i tokens) (drop i tokens) le) part);
      passes = subst (λ (q : List Token). MAX_NEST < nest q) taken here;
      stands = refl;
    }
