-- The walk over the imports of codes.
use Rattle.std.proofs.Common.{◌≡◌, ℕ, ◌+◌, ◌<◌, ◌≤◌, List, [], ◌∷◌, ◌++◌, length, map, drop, get_or, Option, Some, None, refl, sym, ap, subst, ◌∙◌, append_assoc}
use Rattle.std.specs.List.{filter_map, cons_option}
use Rattle.std.proofs.lemmas.List.{append-nil, drop_more, drop_all}
use Rattle.bc_ops.specs.declared.listing.Item.{Item}
use Rattle.bc_ops.specs.Listing.{Lists}
use Rattle.bc_ops.proofs.Lists.{one_list}
use Rattle.bc_prelude.specs.declared.prelude.Prelude.{Prelude}
use Rattle.bc_prelude.specs.Prelude.{Begins}
use Rattle.bc_library.proofs.bc_verify_lemmas.Bodies.{same_instructions}
use Rattle.bc_prelude.proofs.Preludes.{same_prelude}
use Rattle.mpy_reader.specs.mpy_tree.declared.raw.RawCode.{RawCode, out-RawCode}
use Rattle.mpy_reader.specs.mpy_tree.Raw.{Module}
use Rattle.mpy_reader.specs.mpy_tree.Resolved.{Body, Tree, node, Trees, no_more, more, resolved, IsBody, ResolvesCode, ResolveCodes}
use Rattle.library_files.specs.Imports.{import_of, own_imports, imports_of, imports_of_all}

abbrev pub import_at : Module → Item → Option (List ℕ)
import_at m item = import_of (resolved m item)

abbrev pub item_imports : Module → List Item → List (List ℕ)
item_imports m items = filter_map (import_at m) items

-- instructions
-- ============

-- the names so far, and those of what is left
abbrev pub Walked : Module → (all : List Item) → (before : List (List ℕ)) → (place : ℕ) → (names : List (List ℕ)) → Type 0
Walked m all before place names = names ++ item_imports m (drop place all) ≡ before ++ item_imports m all

pub no_name : (m : Module) (all : List Item) (before : List (List ℕ)) (place : ℕ) (names : List (List ℕ)) (item : Item) → place < length all → item ≡ get_or all place item
    → None ≡ import_at m item → Walked m all before place names → Walked m all before (place + 1) names
no_name m all before place names item lt is none walked =
    let left : item_imports m (drop place all) ≡ filter_map (import_at m) (item ∷ drop (place + 1) all) =
    ap (item_imports m) (drop_more all place item lt ∙ ap (λ i. i ∷ drop (place + 1) all) (sym is)) in
    let behind : item_imports m (drop place all) ≡ item_imports m (drop (place + 1) all) = cc in
    ap (λ z. names ++ z) (sym behind) ∙ walked

pub one_name : (m : Module) (all : List Item) (before : List (List ℕ)) (place : ℕ) (names : List (List ℕ)) (item : Item) (name : List ℕ) → place < length all → item ≡ get_or all place item
    → Some name ≡ import_at m item → Walked m all before place names → Walked m all before (place + 1) (names ++ name ∷ [])
one_name m all before place names item name lt is some walked =
    let left : item_imports m (drop place all) ≡ filter_map (import_at m) (item ∷ drop (place + 1) all) =
    ap (item_imports m) (drop_more all place item lt ∙ ap (λ i. i ∷ drop (place + 1) all) (sym is)) in
    let behind : item_imports m (drop place all) ≡ name ∷ item_imports m (drop (place + 1) all) = cc in
    append_assoc names (name ∷ []) (item_imports m (drop (place + 1) all)) ∙ (ap (λ z. names ++ z) (sym behind) ∙ walked)

mapped : (m : Module) (items : List Item) → filter_map import_of (map (resolved m) items) ≡ item_imports m items
mapped m [] = refl
mapped m (item ∷ items) = ap (cons_option (import_at m item)) (mapped m items)

-- what the code's instructions import is what its body does
pub body_imports : (m : Module) (bytes : List ℕ) (body : Body) (prelude : Prelude) (begins : Begins bytes prelude) (items : List Item) (offsets : List ℕ)
    → Lists begins.instructions items offsets → IsBody m bytes body → item_imports m items ≡ own_imports body
body_imports m bytes body prelude begins items offsets lists is =
    let same = same_prelude bytes prelude is.prelude begins is.begins in
    let rest = same_instructions bytes prelude is.prelude begins is.begins same in
    let items_are : items ≡ is.items = one_list is.begins.instructions items is.items (subst (λ z. Lists z items offsets) rest lists).is_list is.is_list in
    ap (item_imports m) items_are ∙ (sym (mapped m is.items) ∙ ap (filter_map import_of) (sym is.instrs))

-- codes
-- =====

abbrev pub children : RawCode → List RawCode
children code = (out-RawCode code).children

-- the trees of the codes that are left: the names so far, and theirs
pub record LeftTrees (m : Module) (all names : List (List ℕ)) (codes : List RawCode) : Type 0 where
  pub trees : Trees
  pub resolve : ResolveCodes m trees codes
  pub names_are : names ++ imports_of_all trees ≡ all

abbrev pub Reached : Module → RawCode → (before names : List (List ℕ)) → ℕ → Type 0
Reached m code before names place = (tree : Tree) → ResolvesCode m tree code → LeftTrees m (before ++ imports_of tree) names (drop place (children code))

pub body_there : (m : Module) (code : RawCode) → (tree : Tree) × ResolvesCode m tree code → (body : Body) × IsBody m (out-RawCode code).bytes body
body_there m code (node body trees, is) = (body, is.0)

pub own_reached : (m : Module) (code : RawCode) (before names : List (List ℕ)) → ((body : Body) → IsBody m (out-RawCode code).bytes body → names ≡ before ++ own_imports body)
    → Reached m code before names 0
own_reached m code before names own (node body trees) is = record {
  trees = trees;
  resolve = is.1;
  names_are = ap (λ z. z ++ imports_of_all trees) (own body is.0) ∙ append_assoc before (own_imports body) (imports_of_all trees);
}

-- the first of the trees that are left
pub first_left : (m : Module) (trees : Trees) (codes : List RawCode) (child : RawCode) (others : List RawCode) → codes ≡ child ∷ others → ResolveCodes m trees codes
    → (first : Tree) × (rest : Trees) × (trees ≡ more first rest) × ResolvesCode m first child × ResolveCodes m rest others
first_left m no_more codes child others e is = absurd (let wrong : [] ≡ child ∷ others = sym is ∙ e in cc)
first_left m (more first rest) codes child others e is =
    let same : is.0 ∷ is.1 ≡ child ∷ others = sym is.2 ∙ e in
    let heads : is.0 ≡ child = cc in
    let tails : is.1 ≡ others = cc in
    (first, rest, refl, subst (λ z. ResolvesCode m first z) heads is.3, subst (λ z. ResolveCodes m rest z) tails is.4)

left_is : (code child : RawCode) (place : ℕ) → place < length (children code) → child ≡ get_or (children code) place child → drop place (children code) ≡ child ∷ drop (place + 1) (children code)
left_is code child place lt is = drop_more (children code) place child lt ∙ ap (λ z. z ∷ drop (place + 1) (children code)) (sym is)

pub child_there : (m : Module) (code child : RawCode) (before names : List (List ℕ)) (place : ℕ) → place < length (children code) → child ≡ get_or (children code) place child
    → (tree : Tree) × ResolvesCode m tree code → Reached m code before names place → (tree : Tree) × ResolvesCode m tree child
child_there m code child before names place lt is tree reached =
    let left = reached tree.0 tree.1 in
    let first = first_left m left.trees (drop place (children code)) child (drop (place + 1) (children code)) (left_is code child place lt is) left.resolve in
    (first.0, first.3)

pub child_reached : (m : Module) (code child : RawCode) (before names longer : List (List ℕ)) (place : ℕ) → place < length (children code) → child ≡ get_or (children code) place child
    → ((tree : Tree) → ResolvesCode m tree child → longer ≡ names ++ imports_of tree) → Reached m code before names place → Reached m code before longer (place + 1)
child_reached m code child before names longer place lt is names_are reached tree resolves =
    let left = reached tree resolves in
    let first = first_left m left.trees (drop place (children code)) child (drop (place + 1) (children code)) (left_is code child place lt is) left.resolve in
    record {
      trees = first.1;
      resolve = first.4;
      names_are = ap (λ z. z ++ imports_of_all first.1) (names_are first.0 first.3)
          ∙ (append_assoc names (imports_of first.0) (imports_of_all first.1) ∙ (ap (λ z. names ++ imports_of_all z) (sym first.2) ∙ left.names_are));
    }

none_left : (m : Module) (trees : Trees) (codes : List RawCode) → codes ≡ [] → ResolveCodes m trees codes → imports_of_all trees ≡ []
none_left m no_more codes e is = refl
none_left m (more first rest) codes e is = absurd (let wrong : is.0 ∷ is.1 ≡ [] = sym is.2 ∙ e in cc)

pub all_reached : (m : Module) (code : RawCode) (before names : List (List ℕ)) (place : ℕ) → length (children code) ≤ place → Reached m code before names place
    → (tree : Tree) → ResolvesCode m tree code → names ≡ before ++ imports_of tree
all_reached m code before names place le reached tree resolves =
    let left = reached tree resolves in
    let none = none_left m left.trees (drop place (children code)) (drop_all place (children code) le) left.resolve in
    sym (append-nil names) ∙ (ap (λ z. names ++ z) (sym none) ∙ left.names_are)
