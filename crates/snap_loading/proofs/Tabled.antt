-- The names that the machine's library has are texts of the library of files.
use Rattle.std.proofs.Common.{◌≡◌, ℕ, zero, suc, ◌+◌, Bool, true, false, List, [], ◌∷◌, ◌++◌, map, Option, Some, None, slice_get, position, refl, sym, ap, ap₂, ◌∙◌, subst}
use Rattle.std.specs.Prelude.{codes, unwrap_or, option_and_then}
use Rattle.std.specs.List.{list_any}
use Rattle.std.specs.Option.{option_map}
use Rattle.std.specs.Str.{bytes_eq}
use Rattle.bc_machine.specs.bc_ops.declared.instr.Op.{Op}
use Rattle.bc_machine.specs.bc_ops.declared.instr.Op.TheVariants as ops
use Rattle.bc_machine.specs.bc_ops.declared.instr.Instr.TheVariants as instrs
use Rattle.bc_machine.specs.bc_ops.declared.listing.Item as listings
use Rattle.bc_machine.specs.bc_ops.declared.listing.Item.TheVariants as listed
use Rattle.bc_machine.specs.mpy_tree.declared.module.Constant.{Constant}
use Rattle.bc_machine.specs.mpy_tree.declared.raw.RawCode.{RawCode, out-RawCode}
use Rattle.bc_machine.specs.mpy_tree.Values.{value_of}
use Rattle.bc_machine.specs.mpy_tree.Raw as raw
use Rattle.bc_machine.specs.mpy_tree.Resolved.{Resolved, plain, named, object, ResolvedLine, ResolvedModule, Resolves, Tree, node, Trees, no_more, more, name_at, resolved, ResolvesCode, ResolveCodes}
use Rattle.bc_machine.specs.py_effects.Modules.{last_part}
use Rattle.bc_machine.specs.Library.{Name, Item, Names, Line, Code, Module, Entry, Holds, Refused, Library, entry_in, module_in, code_in, code_at, item_of, line_of, codes_from, codes_of, size_of, module_of}
use Rattle.bc_machine.specs.Step.{line_at}
use Rattle.bc_library.specs.Shelf.{Shelf, Named, names, member_by, module_at, table_text}
use Rattle.bc_library.specs.Texts.{text_numbered}
use Rattle.bc_library.proofs.bc_verify_lemmas.qstr_pool_lemmas.Places.{found}
use Rattle.vm_starting.specs.Programs.{FindsAll}
use Rattle.snap_kept.specs.Texts.{IsName}
use Rattle.snap_states.specs.States.{IsName as IsText}
use Rattle.snap_loading.proofs.Bridging.{get_map}

some_is : {A : Type 0} (x y : A) → Some x ≡ Some y → x ≡ y
some_is x y e = cc

-- the texts of a module's table
-- =============================

module _ (m : raw.Module) where
  abbrev pub InTable : List ℕ → Type 0
  InTable text = (q : ℕ) × (name_at m q ≡ Some text)

  -- what an instruction names
  abbrev Says : Item → Type 0
  Says (Names op text) = InTable text
  Says _ = Unit {0}

  abbrev AllSay : List Resolved → Type 0
  AllSay [] = Unit {0}
  AllSay (x ∷ xs) = ((size : ℕ) → Says (item_of size x)) × AllSay xs

  named_says : (size : ℕ) (op : Op) (n : ℕ) (o : Option (List ℕ)) → name_at m n ≡ o → Says (item_of size (unwrap_or (option_map (named op) o) (plain (instrs.Name op n))))
  named_says size op n None e = tt
  named_says size op n (Some text) e = (n, e)

  object_says : (size n : ℕ) (o : Option Constant) → Says (item_of size (unwrap_or (option_map (λ constant. object (value_of constant)) o) (plain (instrs.Num ops.LoadConstObj n))))
  object_says size n None = tt
  object_says size n (Some c) = tt

  item_says : (x : listings.Item) (size : ℕ) → Says (item_of size (resolved m x))
  item_says (listed.Plain (instrs.Name op n)) size = named_says size op n (name_at m n) refl
  item_says (listed.Plain (instrs.Num ops.LoadConstObj n)) size = object_says size n (slice_get m.objects n)
  item_says (listed.Plain instr) size = tt
  item_says (listed.Jump op to) size = tt
  item_says (listed.Unwind to byte) size = tt

  items_say : (items : List listings.Item) → AllSay (map (resolved m) items)
  items_say [] = tt
  items_say (x ∷ items) = ((λ size. item_says x size), items_say items)

  -- codes
  abbrev LinesSay : List Line → Type 0
  LinesSay [] = Unit {0}
  LinesSay (l ∷ lines) = Says l.item × LinesSay lines

  abbrev CodesSay : List Code → Type 0
  CodesSay [] = Unit {0}
  CodesSay (c ∷ codes) = InTable c.name × LinesSay c.lines × CodesSay codes

  lines_say : (size : ℕ) (ls : List ResolvedLine) → AllSay (map (λ (l : ResolvedLine). l.item) ls) → LinesSay (map (line_of size) ls)
  lines_say size [] p = tt
  lines_say size (l ∷ ls) p = (p.0 size, lines_say size ls p.1)

  codes_both : (xs ys : List Code) → CodesSay xs → CodesSay ys → CodesSay (xs ++ ys)
  codes_both [] ys p q = q
  codes_both (c ∷ xs) ys p q = (p.0, p.1, codes_both xs ys p.2 q)

  first_name : (xs : List ℕ) (y : List ℕ) (ys : List (List ℕ)) → map (name_at m) xs ≡ map (λ (z : List ℕ). Some z) (y ∷ ys) → InTable y
  first_name [] y ys e = absurd (let no = ap (λ (z : List (Option (List ℕ))). slice_get z 0) e in cc)
  first_name (x ∷ xs) y ys e = (x, some_is _ _ (ap (λ (z : List (Option (List ℕ))). slice_get z 0) e))

  mutual
    tree_says : (number : ℕ) (tree : Tree) (code : RawCode) → ResolvesCode m tree code → CodesSay (codes_from number tree)
    tree_says number (node body trees) code p = (
      first_name p.0.begins.indexes body.name body.args p.0.names,
      lines_say _ body.lines (subst AllSay (sym p.0.instrs) (items_say p.0.items)),
      trees_say (suc number) trees (out-RawCode code).children p.1,
    )

    trees_say : (number : ℕ) (trees : Trees) (codes : List RawCode) → ResolveCodes m trees codes → CodesSay (codes_of number trees)
    trees_say number no_more codes p = tt
    trees_say number (more tree trees) codes p =
        codes_both (codes_from number tree) (codes_of (number + size_of tree) trees) (tree_says number tree p.0 p.3) (trees_say (number + size_of tree) trees p.1 p.4)

  line_found : (lines : List Line) → LinesSay lines → (position : ℕ) (l : Line) → slice_get lines position ≡ Some l → Says l.item
  line_found [] p position l e = absurd (cc e)
  line_found (x ∷ lines) p zero l e = subst (λ (z : Line). Says z.item) (some_is x l e) p.0
  line_found (x ∷ lines) p (suc position) l e = line_found lines p.1 position l e

  code_found : (codes : List Code) → CodesSay codes → (number : ℕ) (c : Code) → slice_get codes number ≡ Some c → InTable c.name × LinesSay c.lines
  code_found [] p number c e = absurd (cc e)
  code_found (x ∷ codes) p zero c e = subst (λ (z : Code). InTable z.name × LinesSay z.lines) (some_is x c e) (p.0, p.1)
  code_found (x ∷ codes) p (suc number) c e = code_found codes p.2 number c e

  text_says : (item : Item) (op : Op) (text : Name) → item ≡ Names op text → Says item → InTable text
  text_says item op text e p = subst Says e p

-- modules of the machine's library
-- ================================

-- the module of a name is the one of a file
pub record IsHeld (shelf : Shelf) (name : Name) (m : Module) : Type 0 where
  pub i : ℕ
  pub n : Named
  pub there : slice_get shelf.modules i ≡ Some n
  pub name_is : n.name ≡ name
  pub place : position (bytes_eq name) (names shelf) ≡ Some i
  pub tree : ResolvedModule
  pub resolves : Resolves n.held tree
  pub is : m ≡ module_of tree

module _ (shelf : Shelf) (library : Library) (finds : FindsAll shelf library) where
  pub held : (name : Name) (m : Module) → entry_in library name ≡ Some (Holds m) → IsHeld shelf name m
  held name m e = by (position (bytes_eq name) (names shelf)) refl
    where
      of_module : {A : Type 0} → module_in (entry_in library name) ≡ None → A
      of_module f = absurd (let no : None ≡ Some m = sym f ∙ ap module_in e in cc)

      refused : (b : Bool) → position (bytes_eq name) (names shelf) ≡ None → list_any (bytes_eq name) shelf.refused ≡ b → IsHeld shelf name m
      refused true f g = of_module (ap module_in (finds.refused name (ap₂ (λ a b. member_by a b) f g)))
      refused false f g = of_module (ap module_in (finds.others name (ap₂ (λ a b. member_by a b) f g)))

      by : (o : Option ℕ) → position (bytes_eq name) (names shelf) ≡ o → IsHeld shelf name m
      by None f = refused (list_any (bytes_eq name) shelf.refused) f refl
      by (Some i) f =
          let n = get_map (λ (z : Named). z.name) shelf.modules i name (found (names shelf) name i f) in
          let at : module_at shelf i ≡ Some n.0.held = ap (option_and_then (λ (z : Named). Some z.held)) n.1 in
          let t = finds.modules name i n.0.held (ap (λ z. member_by z (list_any (bytes_eq name) shelf.refused)) f) at in
          record {
            i = i;
            n = n.0;
            there = n.1;
            name_is = n.2;
            place = f;
            tree = t.0;
            resolves = t.1;
            is = some_is m (module_of t.0) (ap module_in (sym e ∙ t.2));
          }

  -- a code that is there is one of such a module
  pub code_held : (name : Name) (number : ℕ) (c : Code) → code_at library name number ≡ Some c → (m : Module) × (entry_in library name ≡ Some (Holds m)) × (slice_get m.codes number ≡ Some c)
  code_held name number c e = by (entry_in library name) refl e
    where
      by : (o : Option Entry) → entry_in library name ≡ o → code_in (module_in o) number ≡ Some c → (m : Module) × (entry_in library name ≡ Some (Holds m)) × (slice_get m.codes number ≡ Some c)
      by None f g = absurd cc
      by (Some Refused) f g = absurd cc
      by (Some (Holds m)) f g = (m, f, g)

-- names
-- =====

pub empty_text : (shelf : Shelf) → text_numbered shelf.pool 1 ≡ Some []
unfolding text_numbered
empty_text shelf = refl

own_text : (shelf : Shelf) → text_numbered shelf.pool 23 ≡ Some (codes "__name__")
unfolding text_numbered
own_text shelf = refl

main_text : (shelf : Shelf) → text_numbered shelf.pool 21 ≡ Some (codes "__main__")
unfolding text_numbered
main_text shelf = refl

-- each text of a module's table has a number, and so have a module's name and its last part
pub record HasNumbers (shelf : Shelf) : Type 0 where
  pub texts : (i q : ℕ) (text : List ℕ) → table_text shelf i q ≡ Some text → (n : ℕ) × (text_numbered shelf.pool n ≡ Some text)
  pub titles : (i : ℕ) (n : Named) → slice_get shelf.modules i ≡ Some n → (t : ℕ) × (text_numbered shelf.pool t ≡ Some n.name)
  pub lasts : (i : ℕ) (n : Named) → slice_get shelf.modules i ≡ Some n → (t : ℕ) × (text_numbered shelf.pool t ≡ Some (last_part n.name))

module _ (shelf : Shelf) (library : Library) (finds : FindsAll shelf library) (numbers : HasNumbers shelf) where
  in_table : (i : ℕ) (n : Named) (text : List ℕ) → slice_get shelf.modules i ≡ Some n → InTable n.held text → IsText shelf text
  in_table i n text e t =
      let at : table_text shelf i t.0 ≡ Some text = ap (λ o. option_and_then raw.text_of (option_and_then (λ (m : raw.Module). slice_get m.qstrs t.0) (option_and_then (λ (z : Named). Some z.held) o))) e ∙ t.1 in
      numbers.texts i t.0 text at

  -- what a code of a module says
  code_says : (name : Name) (number : ℕ) (c : Code) (m : Module) → entry_in library name ≡ Some (Holds m) → slice_get m.codes number ≡ Some c
      → (h : IsHeld shelf name m) → InTable h.n.held c.name × LinesSay h.n.held c.lines
  code_says name number c m e at h =
      code_found h.n.held m.codes (subst (λ (z : Module). CodesSay h.n.held z.codes) (sym h.is) (tree_says h.n.held 0 h.tree.code h.n.held.code h.resolves.code)) number c at

  lines_at : (o : Option Code) (position : ℕ) (l : Line) → line_at o position ≡ Some l → (c : Code) × (o ≡ Some c) × (slice_get c.lines position ≡ Some l)
  lines_at None position l e = absurd cc
  lines_at (Some c) position l e = (c, refl, e)

  named_known : (name : Name) (number position : ℕ) (l : Line) (op : Op) (text : Name) → line_at (code_at library name number) position ≡ Some l → l.item ≡ Names op text → IsText shelf text
  named_known name number position l op text e is =
      let c = lines_at (code_at library name number) position l e in
      let m = code_held shelf library finds name number c.0 c.1 in
      let h = held shelf library finds name m.0 m.1 in
      let says = code_says name number c.0 m.0 m.1 m.2 h in
      in_table h.i h.n text h.there (text_says h.n.held l.item op text is (line_found h.n.held c.0.lines says.1 position l c.2))

  source_known : (name : Name) (m : Module) → entry_in library name ≡ Some (Holds m) → IsText shelf m.file
  source_known name m e =
      let h = held shelf library finds name m e in
      subst (λ (z : Module). IsText shelf z.file) (sym h.is) (in_table h.i h.n h.tree.source h.there (0, h.resolves.source))

  of_code_known : (name : Name) (number : ℕ) (c : Code) → code_at library name number ≡ Some c → IsText shelf c.name
  of_code_known name number c e =
      let m = code_held shelf library finds name number c e in
      let h = held shelf library finds name m.0 m.1 in
      in_table h.i h.n c.name h.there (code_says name number c m.0 m.1 m.2 h).0

  of_module_known : (name : Name) (m : Module) → entry_in library name ≡ Some (Holds m) → IsText shelf name
  of_module_known name m e =
      let h = held shelf library finds name m e in
      subst (IsText shelf) h.name_is (numbers.titles h.i h.n h.there)

  part_known : (name : Name) (m : Module) → entry_in library name ≡ Some (Holds m) → IsText shelf (last_part name)
  part_known name m e =
      let h = held shelf library finds name m e in
      subst (λ (z : Name). IsText shelf (last_part z)) h.name_is (numbers.lasts h.i h.n h.there)

  pub name_known : (text : Name) → IsName library text → IsText shelf text
  name_known text IsName.nameless = (1, empty_text shelf)
  name_known text IsName.own_name = (23, own_text shelf)
  name_known text IsName.main_name = (21, main_text shelf)
  name_known text (IsName.named name number position l op t e is) = named_known name number position l op text e is
  name_known text (IsName.source name m e) = source_known name m e
  name_known text (IsName.of_code name number code e) = of_code_known name number code e
  name_known text (IsName.of_module name m e) = of_module_known name m e
  name_known text (IsName.part name m e) = part_known name m e
