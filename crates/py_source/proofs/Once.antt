-- A source has one tree or one first fault.
use Rattle.std.proofs.Common.{◌≡◌, ℕ, List, ap, sym, subst, ◌∙◌, inl, inr}
use Rattle.mpy_base.specs.declared.source.SourceFault.{SourceFault}
use Rattle.py_tokens.specs.declared.token.Token.{Token}
use Rattle.py_tokens.proofs.Readings as tokens
use Rattle.py_tree.specs.declared.stmt.Module.{Module}
use Rattle.py_parser.specs.Grammar.{IsTree}
use Rattle.py_parser.specs.Parsed as parsed
use Rattle.py_parser.proofs.Whole.{one_tree}
use Rattle.py_parser.proofs.Parses as parser
use Rattle.py_scopes.specs.Scopes as names
use Rattle.py_scopes.proofs.Once as scopes
use Rattle.py_source.specs.declared.source.Accepted.{Accepted}
use Rattle.py_source.specs.Source.{IsSourceOf, IsAccepted, IsFirstFault}

pub same_tree : (level : ℕ) (source : List ℕ) (a b : Module) → IsSourceOf level source a → IsSourceOf level source b → a ≡ b
same_tree level source a b p q =
    let lists : p.list ≡ q.list = tokens.one_list level source p.list q.list p.are_tokens q.are_tokens in
    one_tree q.list a b (subst (λ (ts : List Token). IsTree ts a) lists p.is_tree) q.is_tree

pub no_fault : (level : ℕ) (source : List ℕ) (tree : Module) (f : SourceFault) → IsSourceOf level source tree → IsFirstFault level source f → ⊥
no_fault level source tree f s (inl p) = tokens.apart level source s.list f s.are_tokens p
no_fault level source tree f s (inr (inl p)) =
    let lists : p.list ≡ s.list = tokens.one_list level source p.list s.list p.are_tokens s.are_tokens in
    parser.not_both s.list tree f s.nests s.is_tree (subst (λ (ts : List Token). parsed.IsFault ts f) lists p.is)
no_fault level source tree f s (inr (inr p)) =
    let lists : p.list ≡ s.list = tokens.one_list level source p.list s.list p.are_tokens s.are_tokens in
    let trees : p.tree ≡ tree = one_tree s.list p.tree tree (subst (λ (ts : List Token). IsTree ts p.tree) lists p.is_tree) s.is_tree in
    scopes.fault_apart tree f (subst (λ (t : Module). names.IsFirstFault t f) trees p.is) s.faultless

pub one_fault : (level : ℕ) (source : List ℕ) (f g : SourceFault) → IsFirstFault level source f → IsFirstFault level source g → f ≡ g
one_fault level source f g (inl p) (inl q) = tokens.one_fault level source f g p q
one_fault level source f g (inl p) (inr (inl q)) = absurd (tokens.apart level source q.list f q.are_tokens p)
one_fault level source f g (inl p) (inr (inr q)) = absurd (tokens.apart level source q.list f q.are_tokens p)
one_fault level source f g (inr (inl p)) (inl q) = absurd (tokens.apart level source p.list g p.are_tokens q)
one_fault level source f g (inr (inr p)) (inl q) = absurd (tokens.apart level source p.list g p.are_tokens q)
one_fault level source f g (inr (inl p)) (inr (inl q)) =
    let lists : p.list ≡ q.list = tokens.one_list level source p.list q.list p.are_tokens q.are_tokens in
    parser.one_fault q.list f g (subst (λ (ts : List Token). parsed.IsFault ts f) lists p.is) q.is
one_fault level source f g (inr (inl p)) (inr (inr q)) =
    let lists : p.list ≡ q.list = tokens.one_list level source p.list q.list p.are_tokens q.are_tokens in
    absurd (parser.not_both q.list q.tree f q.nests q.is_tree (subst (λ (ts : List Token). parsed.IsFault ts f) lists p.is))
one_fault level source f g (inr (inr p)) (inr (inl q)) =
    let lists : q.list ≡ p.list = tokens.one_list level source q.list p.list q.are_tokens p.are_tokens in
    absurd (parser.not_both p.list p.tree g p.nests p.is_tree (subst (λ (ts : List Token). parsed.IsFault ts g) lists q.is))
one_fault level source f g (inr (inr p)) (inr (inr q)) =
    let lists : p.list ≡ q.list = tokens.one_list level source p.list q.list p.are_tokens q.are_tokens in
    let trees : p.tree ≡ q.tree = one_tree q.list p.tree q.tree (subst (λ (ts : List Token). IsTree ts p.tree) lists p.is_tree) q.is_tree in
    scopes.one_fault q.tree f g (subst (λ (t : Module). names.IsFirstFault t f) trees p.is) q.is

abbrev accepted_of : Module → List (List (List ℕ)) → Accepted
accepted_of tree slots = record { tree = tree; slots = slots }

pub one_accepted : (level : ℕ) (source : List ℕ) (a b : Accepted) → IsAccepted level source a → IsAccepted level source b → a ≡ b
one_accepted level source a b p q =
    let trees : a.tree ≡ b.tree = same_tree level source a.tree b.tree p.is_source q.is_source in
    let slots : a.slots ≡ b.slots = p.slots_are ∙ (ap (λ (t : Module). names.slots_of t) trees ∙ sym q.slots_are) in
    ap (λ (t : Module). accepted_of t a.slots) trees ∙ ap (λ (s : List (List (List ℕ))). accepted_of b.tree s) slots

pub not_both : (level : ℕ) (source : List ℕ) (a : Accepted) (f : SourceFault) → IsAccepted level source a → IsFirstFault level source f → ⊥
not_both level source a f p q = no_fault level source a.tree f p.is_source q
