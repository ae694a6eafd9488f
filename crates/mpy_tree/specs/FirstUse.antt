-- Tables in the order of first use.
use Rattle.std.specs.Prelude.{◌≡◌, ◌⊎◌, ℕ, List, [], ◌∷◌, ◌++◌, map, Some, Contains}
use Rattle.std.specs.List.{flat_map}
use Rattle.qstr_pool.specs.mpy_base.Val.{Val}
use Rattle.mpy_tree.specs.Raw.{Module, text_of}
use Rattle.mpy_tree.specs.File.{IsFile}
use Rattle.mpy_tree.specs.Resolved.{Resolved, named, object, Body, instrs_of, Tree, node, Trees, no_more, more, ResolvedModule, Resolves}
use Rattle.mpy_tree.specs.Values.{value_of}

-- the texts and objects that instructions name
abbrev pub text_in : Resolved → List (List ℕ)
text_in (named op text) = text ∷ []
text_in instr = []

-- the object that an instruction names, if it names one
abbrev pub object_in : Resolved → List Val
object_in (object value) = value ∷ []
object_in instr = []

-- the texts that a code without its children names: its name, its arguments, and those of its instructions in their order
abbrev pub body_texts : Body → List (List ℕ)
body_texts body = body.name ∷ (body.args ++ flat_map text_in (instrs_of body))

-- the objects that a code without its children names, in the order of its instructions
abbrev pub body_objects : Body → List Val
body_objects body = flat_map object_in (instrs_of body)

-- what `of_body` gives of a code and then of its children, one after another
abbrev mutual
  pub in_tree : {A : Type 0} → (Body → List A) → Tree → List A
  in_tree of_body (node body children) = of_body body ++ in_trees of_body children

  pub in_trees : {A : Type 0} → (Body → List A) → Trees → List A
  in_trees of_body no_more = []
  in_trees of_body (more tree trees) = in_tree of_body tree ++ in_trees of_body trees

-- the texts that a module uses, in their order, as often as they are used: the name of its source, and those of its codes
abbrev pub texts_used : ResolvedModule → List (List ℕ)
texts_used tree = tree.source ∷ in_tree body_texts tree.code

-- the objects that a module uses, in their order, as often as they are used
abbrev pub objects_used : ResolvedModule → List Val
objects_used tree = in_tree body_objects tree.code

-- the list has each of those that are used behind the ones before, once, in the order of their first use
abbrev pub FirstUsed : {A : Type 0} → List A → List A → List A → Type 0
FirstUsed before [] table = table ≡ []
FirstUsed before (used ∷ others) table =
    (Contains before used × FirstUsed before others table)
    ⊎ ((Contains before used → ⊥) × (rest : _) × (table ≡ used ∷ rest) × FirstUsed (before ++ used ∷ []) others rest)

-- the texts and the objects of the file are those that are used, each once, in the order of first use
pub record InFirstUse (bytes : List ℕ) : Type 0 where
  pub m : Module
  pub tree : ResolvedModule
  pub is_file : IsFile bytes m
  pub resolves : Resolves m tree
  pub texts : List (List ℕ)
  pub texts_are : map text_of m.qstrs ≡ map Some texts
  pub texts_used_first : FirstUsed [] (texts_used tree) texts
  pub objects_used_first : FirstUsed [] (objects_used tree) (map value_of m.objects)
