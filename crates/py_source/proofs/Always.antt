-- Each source is accepted or has a first fault: tokens have a tree or a fault, and a tree is faultless or has one.
use Rattle.std.proofs.Common.{◌≡◌, ◌⊎◌, ℕ, zero, suc, ◌+◌, ◌-◌, ◌<◌, ◌≤◌, List, [], ◌∷◌, length, drop, take, get_or, Option, Some, None, Ok, Err, below_more, inl, inr, refl, arith}
use Rattle.std.proofs.lemmas.Bool.{cases_lt}
use Rattle.std.proofs.lemmas.Option.{slice_get_past}
use Rattle.mpy_base.specs.declared.source.SourceCode.TheVariants.{Syntax, TooDeep}
use Rattle.mpy_base.specs.declared.source.SourceFault.{SourceFault}
use Rattle.py_tokens.specs.declared.token.Token.{Token}
use Rattle.py_tree.specs.declared.stmt.Module.{Module}
use Rattle.py_tree.specs.declared.stmt.Stmt.{Stmt}
use Rattle.py_parser.specs.py_nest.Nest.{nest, Nests, IsTooDeep}
use Rattle.py_parser.specs.py_nest.declared.nest.TheConstants.{MAX_NEST}
use Rattle.py_parser.proofs.py_nest_lemmas.Shortest.{nests_more, nests_all, too_deep}
use Rattle.py_parser.specs.py_expressions.Input.{Outcome}
use Rattle.py_parser.specs.py_statements.Reading.{line_at}
use Rattle.py_parser.specs.Grammar.{IsTree}
use Rattle.py_parser.specs.Reading.{file}
use Rattle.py_parser.specs.Parsed.{fault_of, IsFault}
use Rattle.py_parser.proofs.Whole.{read_tree}
use Rattle.py_parser.proofs.Parses.{syntax_owed}
use Rattle.py_tokens.specs.Tokens.{IsTokens}
use Rattle.py_tokens.proofs.Always.{always}
use Rattle.py_source.specs.declared.source.Accepted.{Accepted}
use Rattle.py_source.specs.Source as spec
use Rattle.py_source.specs.Source.{IsAccepted}
use Rattle.py_scopes.specs.Scopes.{slots_of, Mark, fault_at, IsFirst, AreFaultless, IsFirstFault, IsFaultless, marks_of}

-- nesting
-- =======

-- no front of at most `i` tokens nests too deep
abbrev NestsWithin : List Token → ℕ → Type 0
NestsWithin tokens i = (count : ℕ) → count ≤ i → nest (take count tokens) ≤ MAX_NEST

abbrev Deep : List Token → Type 0
Deep tokens = (line : ℕ) × IsTooDeep tokens line

token_at : (tokens : List Token) (i : ℕ) → i < length tokens → (token : Token) × (token ≡ get_or tokens i token)
token_at [] i h = absurd (omega arith)
token_at (t ∷ ts) zero h = (t, refl)
token_at (t ∷ ts) (suc i) h = token_at ts i (omega arith)

none_taken : (tokens : List Token) (count : ℕ) → count ≤ 0 → nest (take count tokens) ≤ MAX_NEST
none_taken tokens zero h = omega arith
none_taken tokens (suc count) h = absurd (omega arith)

one_further : (tokens : List Token) (i : ℕ) → i < length tokens → NestsWithin tokens i → NestsWithin tokens (i + 1) ⊎ Deep tokens
one_further tokens i h below = elim (cases_lt MAX_NEST (nest (take (i + 1) tokens))) [
  | inl passes ↦ (let t = token_at tokens i h in inr (t.0.line, too_deep tokens i t.0 h t.1 below passes))
  | inr fits ↦ inl (nests_more tokens i below fits)
]

nests_within : (tokens : List Token) (i : ℕ) → i ≤ length tokens → NestsWithin tokens i ⊎ Deep tokens
nests_within tokens zero h = inl (none_taken tokens)
nests_within tokens (suc i) h = elim (nests_within tokens i (omega arith)) [
  | inr deep ↦ inr deep
  | inl below ↦ elim (one_further tokens i (omega arith) below) [
    | inr deep ↦ inr deep
    | inl further ↦ inl (λ count le. further count (omega arith))
  ]
]

nests_or_not : (tokens : List Token) → Nests tokens ⊎ Deep tokens
nests_or_not tokens = elim (nests_within tokens (length tokens) (omega arith)) [
  | inl below ↦ inl (nests_all tokens below)
  | inr deep ↦ inr deep
]

-- trees
-- =====

abbrev pub Parsed : List Token → Type 0
Parsed tokens = ((tree : Module) × Nests tokens × IsTree tokens tree) ⊎ ((fault : SourceFault) × IsFault tokens fault)

reads : (tokens : List Token) → Nests tokens → (o : Outcome (List Stmt)) → file tokens ≡ o → Parsed tokens
reads tokens nests (Ok found) e = inl (record { body = found.0 }, nests, read_tree tokens found.0 found.1 e)
reads tokens nests (Err left) e =
    let fault : SourceFault = fault_of Syntax (line_at (drop (length tokens - left) tokens)) in
    inr (fault, (syntax_owed tokens (record { left = left }) fault nests e refl).fault fault refl)

-- tokens have a tree or a fault
pub parsed : (tokens : List Token) → Parsed tokens
parsed tokens = elim (nests_or_not tokens) [
  | inl nests ↦ reads tokens nests (file tokens) refl
  | inr deep ↦ inr (fault_of TooDeep deep.0, inl (record { line = deep.0; deep = deep.1; is = refl }))
]

-- names
-- =====

abbrev NoneBelow : List Mark → ℕ → Type 0
NoneBelow ms n = (k : ℕ) → k < n → fault_at ms k ≡ None

abbrev Faulty : List Mark → Type 0
Faulty ms = (fault : SourceFault) × IsFirst ms fault

at_place : (ms : List Mark) (n : ℕ) → NoneBelow ms n → (o : Option SourceFault) → fault_at ms n ≡ o → NoneBelow ms (n + 1) ⊎ Faulty ms
at_place ms n none (Some fault) e = inr (fault, record { place = n; here = e; none_before = none })
at_place ms n none None e = inl (λ k h. below_more (λ k. fault_at ms k ≡ None) n none e k h)

faultless_below : (ms : List Mark) (n : ℕ) → NoneBelow ms n ⊎ Faulty ms
faultless_below ms zero = inl (λ k h. absurd (omega arith))
faultless_below ms (suc n) = elim (faultless_below ms n) [
  | inr fault ↦ inr fault
  | inl none ↦ elim (at_place ms n none (fault_at ms n) refl) [
    | inr fault ↦ inr fault
    | inl more ↦ inl (λ k h. more k (omega arith))
  ]
]

past : (ms : List Mark) (n : ℕ) → length ms ≤ n → fault_at ms n ≡ None
past ms n h = rw (slice_get_past ms n h) refl

all_none : (ms : List Mark) → NoneBelow ms (length ms) → AreFaultless ms
all_none ms below n = elim (cases_lt n (length ms)) [ inl h ↦ below n h | inr h ↦ past ms n h ]

abbrev pub Judged : Module → Type 0
Judged tree = IsFaultless tree ⊎ ((fault : SourceFault) × IsFirstFault tree fault)

-- a tree is faultless or has a first fault
pub judged : (tree : Module) → Judged tree
judged tree = elim (faultless_below (marks_of tree) (length (marks_of tree))) [
  | inl below ↦ inl (all_none (marks_of tree) below)
  | inr fault ↦ inr fault
]

-- sources
-- =======

abbrev pub Read : ℕ → List ℕ → Type 0
Read level source = ((accepted : Accepted) × IsAccepted level source accepted) ⊎ ((fault : SourceFault) × spec.IsFirstFault level source fault)

named : (level : ℕ) (source : List ℕ) (list : List Token) (tree : Module) → IsTokens level source list → Nests list → IsTree list tree → Judged tree → Read level source
named level source list tree are nests is_tree (inl faultless) =
    inl (
      record { tree = tree; slots = slots_of tree },
      record {
        is_source = record { list = list; are_tokens = are; nests = nests; is_tree = is_tree; faultless = faultless };
        slots_are = refl;
      },
    )
named level source list tree are nests is_tree (inr fault) =
    inr (fault.0, inr (inr (record { list = list; are_tokens = are; nests = nests; tree = tree; is_tree = is_tree; is = fault.1 })))

tokened : (level : ℕ) (source : List ℕ) (list : List Token) → IsTokens level source list → Parsed list → Read level source
tokened level source list are (inl found) = named level source list found.0 are found.1 found.2 (judged found.0)
tokened level source list are (inr fault) = inr (fault.0, inr (inl (record { list = list; are_tokens = are; is = fault.1 })))

-- a source that has tokens is accepted or has a first fault
pub read_from : (level : ℕ) (source : List ℕ) (list : List Token) → IsTokens level source list → Read level source
read_from level source list are = tokened level source list are (parsed list)

-- a source is accepted or has a first fault
pub read : (level : ℕ) (source : List ℕ) → Read level source
read level source = elim (always level source) [
  | inl found ↦ read_from level source found.0 found.1
  | inr fault ↦ inr (fault.0, inl fault.1)
]
