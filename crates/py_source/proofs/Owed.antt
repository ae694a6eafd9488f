-- What is owed at an answer.
use Rattle.std.proofs.Common.{◌≡◌, ◌⊎◌, ℕ, List, Result, Ok, Err, refl, ap, subst, inl, inr}
use Rattle.std.specs.Prelude.{IfOk, MatchResult}
use Rattle.mpy_base.specs.declared.source.SourceFault.{SourceFault}
use Rattle.mpy_base.specs.declared.refused.Refused.{Refused}
use Rattle.mpy_base.specs.declared.refused.Refused.TheVariants as refused
use Rattle.py_tokens.specs.declared.token.Token.{Token}
use Rattle.py_tokens.specs.Tokens as tokens
use Rattle.py_tree.specs.declared.stmt.Module.{Module}
use Rattle.py_parser.specs.py_nest.Nest.{Nests}
use Rattle.py_parser.specs.Grammar.{IsTree}
use Rattle.py_parser.specs.Parsed as parsed
use Rattle.py_scopes.specs.Scopes as names
use Rattle.py_source.specs.declared.source.Accepted.{Accepted}
use Rattle.py_source.specs.Source.{IsAccepted, IsFirstFault}
use Rattle.py_source.proofs.Once.{one_accepted, one_fault, not_both}

abbrev Answer : Type 0
Answer = Result Accepted (Refused SourceFault)

pub record Owed (level : ℕ) (source : List ℕ) (r : Answer) : Type 0 where
  pub found : IfOk r (λ accepted. IsAccepted level source accepted)
  pub only : (accepted : Accepted) → IsAccepted level source accepted → MatchResult r (λ found. found ≡ accepted) (λ error. error ≡ refused.NoMemory)
  pub fault : (f : SourceFault) → r ≡ Err (refused.Fault f) → IsFirstFault level source f
  pub fault_only : (f : SourceFault) → IsFirstFault level source f → (r ≡ Err (refused.Fault f)) ⊎ (r ≡ Err refused.NoMemory)

pub accepted_owed : (level : ℕ) (source : List ℕ) (a : Accepted) → IsAccepted level source a → Owed level source (Ok a)
accepted_owed level source a is = record {
  found = is;
  only = λ b its. one_accepted level source a b is its;
  fault = λ f e. absurd cc;
  fault_only = λ f its. absurd (not_both level source a f is its);
}

same_fault : (f g : SourceFault) → (let r : Answer = Err (refused.Fault f) in r ≡ Err (refused.Fault g)) → f ≡ g
same_fault f g e = cc

fault_owed : (level : ℕ) (source : List ℕ) (f : SourceFault) → IsFirstFault level source f → Owed level source (Err (refused.Fault f))
fault_owed level source f is = record {
  found = tt;
  only = λ a its. absurd (not_both level source a f its is);
  fault = λ g e. subst (λ (q : SourceFault). IsFirstFault level source q) (same_fault f g e) is;
  fault_only = λ g its. inl (ap (λ (q : SourceFault). Err (refused.Fault q)) (one_fault level source f g is its));
}

memory_owed : (level : ℕ) (source : List ℕ) → Owed level source (Err refused.NoMemory)
memory_owed level source = record { found = tt; only = λ a its. refl; fault = λ f e. absurd cc; fault_only = λ f its. inr refl }

refused_owed : (level : ℕ) (source : List ℕ) (r : Refused SourceFault) → ((f : SourceFault) → r ≡ refused.Fault f → IsFirstFault level source f) → Owed level source (Err r)
refused_owed level source (refused.Fault f) is = fault_owed level source f (is f refl)
refused_owed level source refused.NoMemory is = memory_owed level source

-- a source without tokens
pub tokens_owed : (level : ℕ) (source : List ℕ) (r : Refused SourceFault) → ((f : SourceFault) → r ≡ refused.Fault f → tokens.IsFirstFault level source f) → Owed level source (Err r)
tokens_owed level source r is = refused_owed level source r (λ f e. inl (is f e))

-- tokens without a tree
pub tree_owed : (level : ℕ) (source : List ℕ) (list : List Token) → tokens.IsTokens level source list
    → (r : Refused SourceFault) → ((f : SourceFault) → r ≡ refused.Fault f → parsed.IsFault list f) → Owed level source (Err r)
tree_owed level source list are r is = refused_owed level source r (λ f e. inr (inl (record { list = list; are_tokens = are; is = is f e })))

-- a tree that misuses a name
pub names_owed : (level : ℕ) (source : List ℕ) (list : List Token) (tree : Module) → tokens.IsTokens level source list → Nests list → IsTree list tree
    → (r : Refused SourceFault) → ((f : SourceFault) → r ≡ refused.Fault f → names.IsFirstFault tree f) → Owed level source (Err r)
names_owed level source list tree are nests is_tree r is =
    refused_owed level source r (λ f e. inr (inr (record { list = list; are_tokens = are; nests = nests; tree = tree; is_tree = is_tree; is = is f e })))
