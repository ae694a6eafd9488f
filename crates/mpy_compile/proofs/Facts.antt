-- What is known of the texts of a source is known of the codes of its translation.
use Rattle.std.proofs.Common.{◌≡◌, ℕ, suc, ◌+◌, Bool, true, false, List, [], ◌∷◌, ◌++◌, length, refl, sym, ap, subst, append_assoc}
use Rattle.mpy_writer.specs.mpy_tree.Resolved.{Body, Tree, node, Trees, no_more, more}
use Rattle.emit_module.specs.py_meaning.Program.{Text}
use Rattle.emit_module.specs.bc_machine.Library.{Code, code_of, size_of, numbers_from, codes_from, codes_of}
use Rattle.emit_module.specs.bc_scheme.Translation.{StandAll, StandsCode, HasState, HaveStates, bodies, bodies_of}
use Rattle.emit_module.specs.bc_resolved.Verified.{count_of}
use Rattle.mpy_compile.proofs.Codes.{Known, BodyFact}

abbrev pub AllKnown : List Text → Type 0
AllKnown [] = Unit {0}
AllKnown (text ∷ texts) = Known text × AllKnown texts

module _ (all : List Code) where
  abbrev mutual
    pub TreeFacts : ℕ → Tree → Type 0
    TreeFacts number (node body trees) = BodyFact all body (numbers_from (suc number) trees) × TreesFacts (suc number) trees

    pub TreesFacts : ℕ → Trees → Type 0
    TreesFacts number no_more = Unit {0}
    TreesFacts number (more tree trees) = TreeFacts number tree × TreesFacts (number + size_of tree) trees

  -- texts that are left, with their codes
  record Left (codes : List Code) (others : List Body) : Type 0 where
    texts : List Text
    known : AllKnown texts
    stand : StandAll all false texts codes
    states : HaveStates texts others

  first_code : (x y : Code) (xs ys : List Code) → x ∷ xs ≡ y ∷ ys → x ≡ y
  first_code x y xs ys e = cc

  more_codes : (x y : Code) (xs ys : List Code) → x ∷ xs ≡ y ∷ ys → xs ≡ ys
  more_codes x y xs ys e = cc

  first_body : (x y : Body) (xs ys : List Body) → x ∷ xs ≡ y ∷ ys → x ≡ y
  first_body x y xs ys e = cc

  more_bodies : (x y : Body) (xs ys : List Body) → x ∷ xs ≡ y ∷ ys → xs ≡ ys
  more_bodies x y xs ys e = cc

  -- the first code and what is left
  record Next (own : Bool) (code : Code) (body : Body) (codes : List Code) (others : List Body) : Type 0 where
    text : Text
    known : Known text
    stands : StandsCode all own text code
    state : HasState text body
    left : Left codes others

  next : (own : Bool) (texts : List Text) (code : Code) (body : Body) (codes : List Code) (others : List Body) → AllKnown texts → StandAll all own texts (code ∷ codes) → HaveStates texts (body ∷ others) → Next own code body codes others
  next own [] code body codes others k s h = cc
  next own (text ∷ texts) code body codes others k s h = record {
    text = text;
    known = k.0;
    stands = subst (StandsCode all own text) (sym (first_code code s.0 codes s.1 s.2)) s.3;
    state = subst (HasState text) (sym (first_body body h.0 others h.1 h.2)) h.3;
    left = record {
      texts = texts;
      known = k.1;
      stand = subst (StandAll all false texts) (sym (more_codes code s.0 codes s.1 s.2)) s.4;
      states = subst (HaveStates texts) (sym (more_bodies body h.0 others h.1 h.2)) h.4;
    };
  }

  mutual
    tree_facts : (tree : Tree) (own : Bool) (number : ℕ) (texts : List Text) (codes : List Code) (others : List Body) → AllKnown texts → StandAll all own texts (codes_from number tree ++ codes) → HaveStates texts (bodies tree ++ others)
        → TreeFacts number tree × Left codes others
    tree_facts (node body trees) own number texts codes others k s h =
        let n = next own texts (code_of body (numbers_from (suc number) trees)) body (codes_of (suc number) trees ++ codes) (bodies_of trees ++ others) k s h in
        let behind = trees_facts trees (suc number) n.left.texts codes others n.left.known n.left.stand n.left.states in
        ((record { text = n.text; known = n.known; is_module = own; stands = n.stands; state = n.state }, behind.0), behind.1)

    trees_facts : (trees : Trees) (number : ℕ) (texts : List Text) (codes : List Code) (others : List Body) → AllKnown texts → StandAll all false texts (codes_of number trees ++ codes) → HaveStates texts (bodies_of trees ++ others)
        → TreesFacts number trees × Left codes others
    trees_facts no_more number texts codes others k s h = (tt, record { texts = texts; known = k; stand = s; states = h })
    trees_facts (more tree trees) number texts codes others k s h =
        let own = codes_from number tree in
        let rest = codes_of (number + size_of tree) trees in
        let first = tree_facts tree false number texts (rest ++ codes) (bodies_of trees ++ others) k (subst (StandAll all false texts) (append_assoc own rest codes) s) (subst (HaveStates texts) (append_assoc (bodies tree) (bodies_of trees) others) h) in
        let left = first.1 in
        let behind = trees_facts trees (number + size_of tree) left.texts codes others left.known left.stand left.states in
        ((first.0, behind.0), behind.1)

  append_none : {A : Type 0} (xs : List A) → xs ≡ xs ++ []
  append_none [] = refl
  append_none (x ∷ xs) = ap (λ (z : List _). x ∷ z) (append_none xs)

  pub whole_facts : (tree : Tree) (texts : List Text) → AllKnown texts → StandAll all true texts (codes_from 0 tree) → HaveStates texts (bodies tree) → TreeFacts 0 tree
  whole_facts tree texts k s h = (tree_facts tree true 0 texts [] [] k (subst (StandAll all true texts) (append_none (codes_from 0 tree)) s) (subst (HaveStates texts) (append_none (bodies tree)) h)).0

pub count_is : (number : ℕ) (trees : Trees) → length (numbers_from number trees) ≡ count_of trees
count_is number no_more = refl
count_is number (more tree trees) = ap suc (count_is (number + size_of tree) trees)
