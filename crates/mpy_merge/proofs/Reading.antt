-- What is written for a code with its numbers moved is read as the same tree.
use Rattle.std.proofs.Common.{◌≡◌, ℕ, zero, suc, ◌+◌, ◌<◌, ◌≤◌, ◌^◌, List, [], ◌∷◌, ◌++◌, length, map, take, drop, Option, Some, None, option_map, slice_get, refl, sym, ap, ap₂, subst, ◌∙◌, arith}
use Rattle.std.specs.Prelude.{Contains, unwrap_or}
use Rattle.std.specs.List.{AllZip, AllByRecursion}
use Rattle.std.proofs.lemmas.List.{length-map}
use Rattle.std.proofs.lemmas.List.Elements.{All-from_recursion, recursion_from_All}
use Rattle.mpy_base.specs.declared.limits.TheConstants.{MAX_TABLE}
use Rattle.bc_scheme.specs.bc_ops.declared.instr.Op.{Op}
use Rattle.bc_scheme.specs.bc_ops.declared.instr.Op.TheVariants as ops
use Rattle.bc_scheme.specs.bc_ops.declared.instr.Instr.{Instr}
use Rattle.bc_scheme.specs.bc_ops.declared.instr.Instr.TheVariants as instrs
use Rattle.bc_scheme.specs.bc_ops.declared.listing.Target.{Target}
use Rattle.bc_scheme.specs.bc_ops.declared.listing.Item as listings
use Rattle.bc_scheme.specs.bc_ops.declared.listing.Item.TheVariants as listed
use Rattle.bc_scheme.specs.bc_ops.Listing.{starts, Lists}
use Rattle.bc_scheme.proofs.bc_ops_lemmas.Lists.{one_listing}
use Rattle.bc_verify.specs.bc_prelude.declared.prelude.Prelude.{Prelude}
use Rattle.bc_verify.specs.bc_prelude.Prelude.{Begins}
use Rattle.bc_verify.specs.bc_prelude.Lines.{Rises, table_of, line_of, line_among}
use Rattle.bc_verify.specs.bc_prelude.Signature as signatures
use Rattle.bc_verify.specs.bc_prelude.Size as sizes
use Rattle.bc_verify.specs.bc_prelude.Names as names
use Rattle.bc_verify.proofs.bc_prelude_lemmas.Written.{signature_spells, size_spells}
use Rattle.bc_verify.proofs.bc_prelude_lemmas.Preludes.{same_prelude}
use Rattle.bc_verify.proofs.bc_prelude_lemmas.Indexes.{same_indexes, names_spelled}
use Rattle.mpy_writer.specs.bc_labels.Choice.{instrs_of}
use Rattle.mpy_writer.specs.mpy_tree.declared.module.Constant.{Constant}
use Rattle.mpy_writer.specs.mpy_tree.declared.module.Item.{Item}
use Rattle.mpy_writer.specs.mpy_tree.declared.module.Code.{Code, out-Code}
use Rattle.mpy_writer.specs.mpy_tree.declared.raw.RawCode.{RawCode, out-RawCode}
use Rattle.mpy_writer.specs.mpy_tree.File.{IsModule}
use Rattle.mpy_writer.specs.mpy_tree.Raw.{Module}
use Rattle.mpy_writer.specs.mpy_tree.Resolved as trees
use Rattle.mpy_writer.specs.mpy_tree.Resolved.{Body, Tree, node, Trees, no_more, more, plain, named, object, name_at, object_at, resolved, IsBody, ResolvesCode, ResolveCodes}
use Rattle.mpy_writer.specs.mpy_tree.Values.{value_of}
use Rattle.mpy_writer.specs.declared.tables.Tables.{Tables}
use Rattle.mpy_writer.specs.Tables.{TablesFit, text_number}
use Rattle.mpy_writer.specs.Writable.{IsText, IsNumberedCode}
use Rattle.mpy_writer.specs.File.{labelled, signature_of, indexes_of, lines_of}
use Rattle.mpy_writer.proofs.Numbers.{number_small}
use Rattle.mpy_writer.proofs.Labelled.{list_item}
use Rattle.mpy_writer.proofs.Bodies.{instructions, prelude_of, writable, name_there, names_there, lines_read}
use Rattle.bc_verify.specs.Verified.{AreVerified}
use Rattle.mpy_merge.specs.Joined.{IsJoined}
use Rattle.mpy_merge.specs.Kept.{NamesThere, IsKept, IsKeptCode}
use Rattle.mpy_merge.specs.Moved.{text_at, moved_instr, IsMovedItem, IsMovedOwn, IsMovedTree}
use Rattle.bc_verify.proofs.bc_prelude_lemmas.Pieces.{instructions_at, lines_at, names_at}
use Rattle.mpy_merge.proofs.Made.{items_kept}
use Rattle.mpy_merge.proofs.Sound.{numbered}
use Rattle.mpy_merge.proofs.Texts.{text_fine, text_known}
use Rattle.mpy_writer.proofs.mpy_tree_lemmas.Codes.{Nests, children, whole}
use Rattle.mpy_merge.proofs.Trees.{kept_code, verified_child}

-- what a code's bytes say, twice
record Same (bytes : List ℕ) (p q : Prelude) (a : Begins bytes p) (b : Begins bytes q) : Type 0 where
  pub prelude : p ≡ q
  pub indexes : a.indexes ≡ b.indexes
  pub lines : a.lines ≡ b.lines
  pub instructions : a.instructions ≡ b.instructions

same : (bytes : List ℕ) (p q : Prelude) (a : Begins bytes p) (b : Begins bytes q) → Same bytes p q a b
same bytes p q a b =
    let e : p ≡ q = same_prelude bytes p q a b in
    let args : p.args ≡ q.args = ap (λ (z : Prelude). z.args) e in
    let names : a.names ≡ b.names = sym (names_at bytes p a) ∙ (ap (λ (z : Prelude). drop z.info_at (take z.lines_at (take z.code_at bytes))) e ∙ names_at bytes q b) in
    record {
      prelude = e;
      indexes = same_indexes a.indexes b.indexes a.names b.names [] [] a.are_names b.are_names (omega (arith, a.count, b.count, args)) (ap (λ (z : List ℕ). z ++ []) names);
      lines = sym (lines_at bytes p a) ∙ (ap (λ (z : Prelude). drop z.lines_at (take z.code_at bytes)) e ∙ lines_at bytes q b);
      instructions = sym (instructions_at bytes p a) ∙ (ap (λ (z : Prelude). drop z.code_at bytes) e ∙ instructions_at bytes q b);
    }

texts_told : (m : Module) (ns : List ℕ) (ts : List (List ℕ)) → map (name_at m) ns ≡ map Some ts → map (text_at m) ns ≡ ts
texts_told m [] [] e = refl
texts_told m [] (t ∷ ts) e = absurd cc
texts_told m (n ∷ ns) [] e = absurd cc
texts_told m (n ∷ ns) (t ∷ ts) e =
    let first : name_at m n ≡ Some t = cc in
    let others : map (name_at m) ns ≡ map Some ts = cc in
    ap₂ (λ (x : List ℕ) (xs : List (List ℕ)). x ∷ xs) (ap (λ (o : Option (List ℕ)). unwrap_or o []) first) (texts_told m ns ts others)

module _ (tables : Tables) (fit : TablesFit tables) (base : ℕ) (m merged : Module) (is : IsModule m) (few : base + length m.objects ≤ MAX_TABLE) (joined : IsJoined tables base m merged)
    (lines_law : (pairs : List (ℕ × ℕ)) (offset : ℕ) → Rises pairs → line_of (table_of pairs) offset ≡ line_among 1 pairs offset) where
  none_there : (os : List Constant) (n : ℕ) → n < length os → slice_get os n ≡ None → ⊥
  none_there [] n lt e = omega (arith, lt)
  none_there (o ∷ os) zero lt e = cc
  none_there (o ∷ os) (suc n) lt e = none_there os n (omega (arith, lt)) e

  -- an instruction names the same text and object
  module _ (bytes own : List ℕ) (k : IsKeptCode m bytes) (o : IsMovedOwn tables base m bytes own) where
    abbrev code : Code
    code = o.code

    sound : IsNumberedCode code
    sound = numbered tables fit base m few is bytes k code o.moved

    number_is : (n : ℕ) → n < length m.qstrs → name_at merged (text_number tables (text_at m n)) ≡ name_at m n
    number_is n lt = name_there tables code own o.is_own fit sound merged joined.qstrs_are (text_at m n) (text_fine m is n) (joined.texts_there n lt) ∙ sym (text_known m is n lt)

    named_is : (op : Op) (n : ℕ) → n < length m.qstrs → trees.named_at merged op (text_number tables (text_at m n)) ≡ trees.named_at m op n
    named_is op n lt =
        let number = text_number tables (text_at m n) in
        ap (λ (r : Option (List ℕ)). unwrap_or (option_map (named op) r) (plain (instrs.Name op number))) (number_is n lt ∙ text_known m is n lt)
        ∙ sym (ap (λ (r : Option (List ℕ)). unwrap_or (option_map (named op) r) (plain (instrs.Name op n))) (text_known m is n lt))

    object_is : (n : ℕ) → n < length m.objects → object_at merged (base + n) ≡ object_at m n
    object_is n lt = by (slice_get m.objects n) refl where
      by : (r : Option Constant) → slice_get m.objects n ≡ r → object_at merged (base + n) ≡ object_at m n
      by None e = absurd (none_there m.objects n lt e)
      by (Some c) e =
          ap (λ (r : Option Constant). unwrap_or (option_map (λ z. object (value_of z)) r) (plain (instrs.Num ops.LoadConstObj (base + n)))) (joined.objects_there n c e)
          ∙ sym (ap (λ (r : Option Constant). unwrap_or (option_map (λ z. object (value_of z)) r) (plain (instrs.Num ops.LoadConstObj n))) e)

    num_is : (op : Op) (n : ℕ) → NamesThere m (instrs.Num op n) → trees.resolved_instr merged (moved_instr tables base m (instrs.Num op n)) ≡ trees.resolved_instr m (instrs.Num op n)
    num_is ops.LoadConstObj n there = object_is n there
    num_is op n there = refl

    instr_is : (instr : Instr) → NamesThere m instr → trees.resolved_instr merged (moved_instr tables base m instr) ≡ trees.resolved_instr m instr
    instr_is (instrs.Name op n) there = named_is op n there
    instr_is (instrs.Num op n) there = num_is op n there
    instr_is (instrs.Plain op) there = refl
    instr_is (instrs.Int z) there = refl
    instr_is (instrs.Jump op offset wide) there = refl
    instr_is (instrs.Unwind offset wide byte) there = refl
    instr_is (instrs.Unary n) there = refl
    instr_is (instrs.Binary n) there = refl

    item_is : (count : ℕ) (x : listings.Item) (y : Item) → IsKept m count x → IsMovedItem tables base m x y → resolved merged (list_item tables y) ≡ resolved m x
    item_is count (listed.Plain instr) y kept h = ap (λ (z : Item). resolved merged (list_item tables z)) h ∙ instr_is instr kept
    item_is count (listed.Jump op target) y kept h = ap (λ (z : Item). resolved merged (list_item tables z)) h.2 ∙ ap (λ (t : Target). trees.jump op t) (sym h.1)
    item_is count (listed.Unwind target byte) y kept h = ap (λ (z : Item). resolved merged (list_item tables z)) h.2 ∙ ap (λ (t : Target). trees.unwind t byte) (sym h.1)

    items_are : (count : ℕ) (xs : List listings.Item) (ys : List Item) → AllByRecursion (IsKept m count) xs → AllZip (IsMovedItem tables base m) xs ys → map (resolved merged) (map (list_item tables) ys) ≡ map (resolved m) xs
    items_are count [] [] kept h = refl
    items_are count [] (y ∷ ys) kept h = absurd h
    items_are count (x ∷ xs) [] kept h = absurd h
    items_are count (x ∷ xs) (y ∷ ys) kept h = ap₂ (λ (r : trees.Resolved) (rs : List trees.Resolved). r ∷ rs) (item_is count x y kept.0 h.0) (items_are count xs ys kept.1 h.1)

    names_kept : (ns : List ℕ) → AllByRecursion (λ n. n < length m.qstrs) ns → AllByRecursion (Contains tables.texts.texts) (map (text_at m) ns)
    names_kept [] h = tt
    names_kept (n ∷ ns) h = (joined.texts_there n h.0, names_kept ns h.1)

    names_fine : (ns : List ℕ) → AllByRecursion IsText (map (text_at m) ns)
    names_fine [] = tt
    names_fine (n ∷ ns) = (text_fine m is n, names_fine ns)

    abbrev made : List Instr
    made = instrs_of (labelled tables code) o.is_own.layout.widths

    abbrev info : List ℕ
    info = names.spelling (indexes_of tables code)

    abbrev lines : List ℕ
    lines = lines_of made (out-Code code).lines

    small : (texts : List (List ℕ)) → AllByRecursion (λ index. index < 2 ^ 31) (map (text_number tables) texts)
    small [] = tt
    small (x ∷ xs) = let le = number_small tables.texts x fit.texts in (omega (arith, le), small xs)

    abbrev begins : Begins own (prelude_of code info lines)
    begins = record {
      signature = signatures.spelling (signature_of code);
      size = sizes.spelling (length info + length lines);
      names = info;
      lines = lines;
      instructions = o.is_own.instructions;
      indexes = indexes_of tables code;
      code_is = o.is_own.own_is;
      is_signature = signature_spells (signature_of code) (writable code sound);
      is_size = size_spells (length info + length lines);
      are_names = names_spelled (indexes_of tables code) (All-from_recursion (λ index. index < 2 ^ 31) (indexes_of tables code) (small ((out-Code code).name ∷ (out-Code code).args)));
      count = omega (arith, length-map (out-Code code).args (text_number tables));
      no_cells = refl;
      info_at = refl;
      lines_at = refl;
      code_at = refl;
    }

    pub body_moved : (body : Body) → IsBody m bytes body → IsBody merged own body
    body_moved body b =
        let c = o.moved in
        let s = same bytes c.prelude b.prelude c.begins b.begins in
        let t = same bytes k.prelude b.prelude k.begins b.begins in
        let facts = instructions tables code o.is_own.instructions o.is_own.layout fit sound in
        let texts = (out-Code code).name ∷ (out-Code code).args in
        let told : map (text_at m) c.begins.indexes ≡ body.name ∷ body.args = ap (map (text_at m)) s.indexes ∙ texts_told m b.begins.indexes (body.name ∷ body.args) b.names in
        let within : AllByRecursion (λ (n : ℕ). n < length m.qstrs) c.begins.indexes =
        subst (AllByRecursion (λ (n : ℕ). n < length m.qstrs)) (t.indexes ∙ sym s.indexes) (recursion_from_All (λ (n : ℕ). n < length m.qstrs) k.begins.indexes k.names) in
        let fine : AllByRecursion IsText texts = subst (AllByRecursion IsText) (sym c.names) (names_fine c.begins.indexes) in
        let there : AllByRecursion (Contains tables.texts.texts) texts = subst (AllByRecursion (Contains tables.texts.texts)) (sym c.names) (names_kept c.begins.indexes within) in
        let mine : Lists b.begins.instructions c.items c.offsets = subst (λ (z : List ℕ). Lists z c.items c.offsets) s.instructions c.lists in
        let theirs : Lists b.begins.instructions b.items (starts 0 b.is_list.pieces) = record { is_list = b.is_list; offsets_are = refl } in
        let lists = one_listing b.begins.instructions c.items b.items c.offsets (starts 0 b.is_list.pieces) mine theirs in
        let found : c.items ≡ k.items = items_kept m bytes k c.prelude c.begins c.begins.instructions c.items c.offsets refl c.lists in
        let kept : AllByRecursion (IsKept m (length k.items)) c.items = subst (AllByRecursion (IsKept m (length k.items))) (sym found) (recursion_from_All (IsKept m (length k.items)) k.items k.kept) in
        record {
          prelude = prelude_of code info lines;
          begins = begins;
          names = names_there tables code own o.is_own fit sound merged joined.qstrs_are texts fine there ∙ ap (map Some) (c.names ∙ told);
          defaults = b.defaults ∙ (ap (λ (z : Prelude). z.defaults) (sym s.prelude) ∙ sym c.defaults);
          n_state = b.n_state ∙ (ap (λ (z : Prelude). z.n_state) (sym s.prelude) ∙ sym c.n_state);
          n_exc = b.n_exc ∙ (ap (λ (z : Prelude). z.n_exc) (sym s.prelude) ∙ sym c.n_exc);
          items = map (list_item tables) (out-Code code).instrs;
          is_list = facts.list;
          instrs = b.instrs ∙ (ap (map (resolved m)) (sym lists.0) ∙ sym (items_are (length k.items) c.items (out-Code code).instrs kept c.instrs));
          lines = b.lines ∙ (ap₂ (λ (z : List ℕ) (os : List ℕ). map (line_of z) os) (sym s.lines) (sym lists.1) ∙ (sym c.lines ∙ sym (lines_read tables code own o.is_own fit sound lines_law)));
        }

  -- the codes in it
  trees_moved : (levels : ℕ) (ts : Trees) (raws moved : List RawCode) → AllByRecursion (λ raw. Nests (length m.qstrs) levels raw × AreVerified m raw) raws
      → ((t : Tree) (r s : RawCode) → Nests (length m.qstrs) levels r → AreVerified m r → IsMovedTree levels tables base m r s → ResolvesCode m t r → ResolvesCode merged t s)
      → AllZip (IsMovedTree levels tables base m) raws moved → ResolveCodes m ts raws → ResolveCodes merged ts moved
  trees_moved levels no_more [] [] all step zip h = refl
  trees_moved levels no_more [] (s ∷ ss) all step zip h = absurd zip
  trees_moved levels no_more (r ∷ rs) moved all step zip h = absurd cc
  trees_moved levels (more t ts) [] moved all step zip h = absurd (let e : [] ≡ h.0 ∷ h.1 = h.2 in cc)
  trees_moved levels (more t ts) (r ∷ rs) [] all step zip h = absurd zip
  trees_moved levels (more t ts) (r ∷ rs) (s ∷ ss) all step zip h =
      let e : r ∷ rs ≡ h.0 ∷ h.1 = h.2 in
      let first : h.0 ≡ r = cc in
      let others : h.1 ≡ rs = cc in
      (s, ss, refl, step t r s all.0.0 all.0.1 zip.0 (subst (ResolvesCode m t) first h.3), trees_moved levels ts rs ss all.1 step zip.1 (subst (ResolveCodes m ts) others h.4))

  each_there : (P : RawCode → Type 0) (raws : List RawCode) → ((n : ℕ) (raw : RawCode) → slice_get raws n ≡ Some raw → P raw) → AllByRecursion P raws
  each_there P [] h = tt
  each_there P (r ∷ rs) h = (h 0 r refl, each_there P rs (λ n raw e. h (suc n) raw e))

  pub tree_moved : (levels : ℕ) (t : Tree) (raw moved : RawCode) → Nests (length m.qstrs) levels raw → AreVerified m raw → IsMovedTree levels tables base m raw moved → ResolvesCode m t raw → ResolvesCode merged t moved
  unfolding IsMovedTree
  tree_moved zero t raw moved nests verified h r = absurd h
  tree_moved (suc levels) (node body ts) raw moved nests verified h r =
      let w = whole (length m.qstrs) (suc levels) raw nests in
      let below : w.below ≡ levels = omega (arith, w.levels_are) in
      let k = kept_code m (suc levels) raw nests (verified [] raw refl) in
      let all = each_there (λ c. Nests (length m.qstrs) levels c × AreVerified m c) (children raw) (λ n c at. (subst (λ l. Nests (length m.qstrs) l c) below (w.each n c at), verified_child m raw c n verified at)) in
      (body_moved (out-RawCode raw).bytes (out-RawCode moved).bytes k h.0 body r.0, trees_moved levels ts (children raw) (children moved) all (tree_moved levels) h.1 r.1)
