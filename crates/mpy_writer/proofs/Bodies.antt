-- A code's own bytes as they are written: what they begin with, their list, their lines, and what they resolve to.
use Rattle.std.proofs.Common.{◌≡◌, ℕ, zero, suc, ◌+◌, ◌-◌, ◌<◌, ◌^◌, List, [], ◌∷◌, ◌++◌, length, map, Option, Some, None, option_map, slice_get, refl, sym, ap, subst, ◌∙◌, append_assoc, arith}
use Rattle.std.specs.Prelude.{Contains, option_and_then, unwrap_or}
use Rattle.std.specs.List.{flat_map, zip, AllByRecursion}
use Rattle.std.proofs.lemmas.List.{length-append, length-map, get_or-map}
use Rattle.std.proofs.lemmas.List.Elements.{All-from_recursion, recursion_from_All}
use Rattle.std.proofs.lemmas.Option.{slice_get-map, slice_get_within}
use Rattle.mpy_base.specs.declared.limits.TheConstants.{MAX_DEPTH}
use Rattle.mpy_tree.specs.bc_ops.declared.instr.Op.TheVariants.{LoadConstObj}
use Rattle.mpy_tree.specs.bc_ops.declared.instr.Instr.{Instr}
use Rattle.mpy_tree.specs.bc_ops.declared.instr.Instr.TheVariants as instrs
use Rattle.mpy_tree.specs.bc_ops.Code.{spelling, IsEncodable}
use Rattle.mpy_tree.specs.bc_ops.Listing.{Piece, IsPiece, joined, starts, items_at, IsListOf, Lists}
use Rattle.mpy_tree.proofs.bc_ops_lemmas.Law as laws
use Rattle.mpy_tree.proofs.bc_ops_lemmas.Lists.{one_listing}
use Rattle.bc_labels.specs.Choice.{IsLayout, instrs_of}
use Rattle.bc_labels.proofs.Reading.{encodable_to}
use Rattle.bc_labels.proofs.Positions.{is_list}
use Rattle.mpy_tree.specs.bc_prelude.declared.prelude.Prelude.{Prelude}
use Rattle.mpy_tree.specs.bc_prelude.Signature as signatures
use Rattle.mpy_tree.specs.bc_prelude.Size as sizes
use Rattle.mpy_tree.specs.bc_prelude.Names as names
use Rattle.mpy_tree.specs.bc_prelude.Prelude.{Begins, front_of}
use Rattle.mpy_tree.specs.bc_prelude.Lines.{Rises, table_of, line_of, line_among}
use Rattle.mpy_tree.proofs.bc_prelude_lemmas.Written.{signature_spells, size_spells}
use Rattle.mpy_tree.proofs.bc_prelude_lemmas.Indexes.{names_spelled}
use Rattle.mpy_tree.specs.declared.module.Constant.{Constant}
use Rattle.mpy_tree.specs.declared.module.Item.{Item}
use Rattle.mpy_tree.specs.declared.module.Item.TheVariants as items
use Rattle.mpy_tree.specs.declared.module.Code.{Code, out-Code}
use Rattle.mpy_tree.specs.Raw.{Module, text_of}
use Rattle.mpy_tree.specs.File.{IsOwnCode}
use Rattle.mpy_tree.specs.Canonical.{changes, offsets, IsCanonicalCode}
use Rattle.mpy_tree.specs.Resolved as trees
use Rattle.mpy_tree.specs.Resolved.{plain, named, object, Body, line_numbers, name_at, object_at, resolved_instr, resolved, resolved_item, IsBody}
use Rattle.mpy_tree.specs.Values.{value_of}
use Rattle.mpy_tree.proofs.Lines.{items_in, numbers_in}
use Rattle.mpy_writer.specs.declared.tables.Tables.{Tables}
use Rattle.mpy_writer.specs.Codes.{text_in, object_in, texts_in, objects_in}
use Rattle.mpy_writer.specs.Tables.{TablesFit, text_number, object_number, spelled}
use Rattle.mpy_writer.specs.Writable.{IsText, IsPlain, IsSoundItem, IsSoundCode, IsNumberedItem, IsNumberedCode, IsFine}
use Rattle.mpy_writer.specs.File.{labelled, signature_of, indexes_of, lines_of, IsOwn, qstr_of}
use Rattle.mpy_writer.proofs.Labelled.{list_item, listed_is, sound_labels}
use Rattle.mpy_writer.proofs.LineTables.{IsSome, rises_from, rises_changes, lines_among}
use Rattle.mpy_writer.proofs.Lists.{parted}
use Rattle.mpy_writer.proofs.Numbers.{number_small, number_leads}
use Rattle.mpy_writer.proofs.Spelled.{one_object}
use Rattle.mpy_writer.proofs.Texts.{entry_is}

-- instructions with what is written for them
abbrev piece_of : Instr → Piece
piece_of instr = record { text = spelling instr; instr = instr }

spelled_pieces : (xs : List Instr) → AllByRecursion IsEncodable xs → AllByRecursion IsPiece (map piece_of xs)
spelled_pieces [] h = h
spelled_pieces (x ∷ xs) h = (laws.spelled x h.0, spelled_pieces xs h.1)

joined-pieces : (xs : List Instr) → joined (map piece_of xs) ≡ flat_map spelling xs
joined-pieces [] = refl
joined-pieces (x ∷ xs) = ap (λ (ys : List ℕ). spelling x ++ ys) (joined-pieces xs)

starts-pieces : (at : ℕ) (xs : List Instr) → starts at (map piece_of xs) ≡ offsets at xs
starts-pieces at [] = refl
starts-pieces at (x ∷ xs) = ap (λ (ns : List ℕ). at ∷ ns) (starts-pieces (at + length (spelling x)) xs)

length-items_at : (from : List ℕ) (at : ℕ) (ps : List Piece) → length (items_at from at ps) ≡ length ps
length-items_at from at [] = refl
length-items_at from at (p ∷ ps) = ap suc (length-items_at from (at + length p.text) ps)

some_spelled : (xs : List Instr) → AllByRecursion IsEncodable xs → AllByRecursion IsSome xs
some_spelled [] h = tt
some_spelled (x ∷ xs) h =
    let s = laws.spelled x h.0 in
    let size : length (spelling x) ≡ suc (length s.behind) = ap length s.parts in
    (omega (arith, size), some_spelled xs h.1)

-- the instructions of a code that is written
pub record Instructions (tables : Tables) (code : Code) (bytes : List ℕ) (layout : IsLayout (labelled tables code) bytes) : Type 0 where
  pub list : IsListOf bytes (map (list_item tables) (out-Code code).instrs)
  pub starts_are : starts 0 list.pieces ≡ offsets 0 (instrs_of (labelled tables code) layout.widths)
  pub count : length (instrs_of (labelled tables code) layout.widths) ≡ length (out-Code code).instrs
  pub some : AllByRecursion IsSome (instrs_of (labelled tables code) layout.widths)

pub instructions : (tables : Tables) (code : Code) (bytes : List ℕ) (layout : IsLayout (labelled tables code) bytes) → TablesFit tables → IsNumberedCode code → Instructions tables code bytes layout
instructions tables code bytes layout fit sound =
    let all = labelled tables code in
    let xs = (out-Code code).instrs in
    let made = instrs_of all layout.widths in
    let labels = sound_labels tables code fit sound in
    let encodable = recursion_from_All IsEncodable made (encodable_to all layout.widths (length all) labels layout.fewest.short_fit layout.wide_fit (omega arith)) in
    let list : IsListOf bytes (map (list_item tables) xs) =
    subst (IsListOf bytes) (listed_is tables xs (length bytes) (recursion_from_All (IsNumberedItem (length xs)) xs sound.instrs)) (is_list all bytes labels layout) in
    let ps = map piece_of made in
    let mine : IsListOf bytes (items_at (starts 0 ps) 0 ps) = record {
      pieces = ps;
      spelled = All-from_recursion IsPiece ps (spelled_pieces made encodable);
      bytes_are = layout.bytes_are ∙ sym (joined-pieces made);
      items_are = refl;
    } in
    let a : Lists bytes (map (list_item tables) xs) (starts 0 list.pieces) = record { is_list = list; offsets_are = refl } in
    let b : Lists bytes (items_at (starts 0 ps) 0 ps) (starts 0 ps) = record { is_list = mine; offsets_are = refl } in
    let same = one_listing bytes (map (list_item tables) xs) (items_at (starts 0 ps) 0 ps) (starts 0 list.pieces) (starts 0 ps) a b in
    record {
      list = list;
      starts_are = same.1 ∙ starts-pieces 0 made;
      count = sym (length-map made piece_of) ∙ (sym (length-items_at (starts 0 ps) 0 ps) ∙ (sym (ap length same.0) ∙ length-map xs (list_item tables)));
      some = some_spelled made encodable;
    }

-- what the code begins with
abbrev pub prelude_of : Code → List ℕ → List ℕ → Prelude
prelude_of code info lines =
    let head = length (signatures.spelling (signature_of code)) + length (sizes.spelling (length info + length lines)) in
    record {
      n_state = (out-Code code).n_state;
      n_exc = (out-Code code).n_exc;
      flags = 0;
      args = length (out-Code code).args;
      kwonly = 0;
      defaults = (out-Code code).defaults;
      cells = 0;
      info_at = head;
      lines_at = head + length info;
      code_at = head + length info + length lines;
    }

pub writable : (code : Code) → IsNumberedCode code → signatures.IsWritable (signature_of code)
writable code sound =
    let some = sound.some_state in
    let state = sound.few_state in
    let handlers = sound.few_handlers in
    let args = sound.few_args in
    let defaults = sound.defaults in
    record {
      some = omega (arith, some);
      slots = omega (arith, state);
      handlers = omega (arith, handlers);
      arguments = omega (arith, args);
      no_flags = refl;
      no_kwonly = refl;
      defaults = omega (arith, defaults, args);
    }

small_numbers : (tables : Tables) → TablesFit tables → (texts : List (List ℕ)) → AllByRecursion (λ index. index < 2 ^ 31) (map (text_number tables) texts)
small_numbers tables fit [] = tt
small_numbers tables fit (x ∷ xs) = let small = number_small tables.texts x fit.texts in (omega (arith, small), small_numbers tables fit xs)

same_map : (f g : ℕ → ℕ) → ((x : ℕ) → f x ≡ g x) → (ns : List ℕ) → map f ns ≡ map g ns
same_map f g same [] = refl
same_map f g same (n ∷ ns) = ap (λ (y : ℕ). y ∷ map f ns) (same n) ∙ ap (λ (ys : List ℕ). g n ∷ ys) (same_map f g same ns)

-- what it is read as
abbrev pub body_of : Code → Body
body_of code = record {
  name = (out-Code code).name;
  args = (out-Code code).args;
  defaults = (out-Code code).defaults;
  n_state = (out-Code code).n_state;
  n_exc = (out-Code code).n_exc;
  lines = trees.lines_of (map resolved_item (out-Code code).instrs) (out-Code code).lines;
}

module _ (code : Code) (sound : IsSoundCode code) where
  a_line_each : length (out-Code code).lines ≡ length (map resolved_item (out-Code code).instrs)
  a_line_each = sound.a_line_each ∙ sym (length-map (out-Code code).instrs resolved_item)

  pub body_instrs : trees.instrs_of (body_of code) ≡ map resolved_item (out-Code code).instrs
  body_instrs = items_in (map resolved_item (out-Code code).instrs) (out-Code code).lines a_line_each

  pub body_lines : line_numbers (body_of code) ≡ (out-Code code).lines
  body_lines = numbers_in (map resolved_item (out-Code code).instrs) (out-Code code).lines a_line_each

module _ (tables : Tables) (code : Code) (own : List ℕ) (is : IsOwn tables code own) (fit : TablesFit tables) (sound : IsNumberedCode code) where
  abbrev xs : List Item
  xs = (out-Code code).instrs

  abbrev made : List Instr
  made = instrs_of (labelled tables code) is.layout.widths

  abbrev info : List ℕ
  info = names.spelling (indexes_of tables code)

  abbrev lines : List ℕ
  lines = lines_of made (out-Code code).lines

  abbrev prelude : Prelude
  prelude = prelude_of code info lines

  abbrev head : ℕ
  head = length (signatures.spelling (signature_of code)) + length (sizes.spelling (length info + length lines))

  pub begins : Begins own prelude
  begins = record {
    signature = signatures.spelling (signature_of code);
    size = sizes.spelling (length info + length lines);
    names = info;
    lines = lines;
    instructions = is.instructions;
    indexes = indexes_of tables code;
    code_is = is.own_is;
    is_signature = signature_spells (signature_of code) (writable code sound);
    is_size = size_spells (length info + length lines);
    are_names = names_spelled (indexes_of tables code) (All-from_recursion (λ index. index < 2 ^ 31) (indexes_of tables code) (small_numbers tables fit ((out-Code code).name ∷ (out-Code code).args)));
    count = omega (arith, length-map (out-Code code).args (text_number tables));
    no_cells = refl;
    info_at = refl;
    lines_at = refl;
    code_at = refl;
  }

  front_is : front_of prelude ≡ signatures.spelling (signature_of code) ++ sizes.spelling (length info + length lines)
  front_is = let size : head + length info + length lines - head ≡ length info + length lines = omega arith in ap (λ (n : ℕ). signatures.spelling (signature_of code) ++ sizes.spelling n) size

  pub canonical : IsCanonicalCode own
  canonical =
      let facts = instructions tables code is.instructions is.layout fit sound in
      record {
        prelude = prelude;
        indexes = indexes_of tables code;
        instrs = made;
        lines = (out-Code code).lines;
        a_line_each = sound.a_line_each ∙ sym facts.count;
        rises = rises_from 0 0 1 made (out-Code code).lines (omega arith) sound.lines;
        code_is = is.own_is
            ∙ (sym (append_assoc (signatures.spelling (signature_of code)) (sizes.spelling (length info + length lines)) (info ++ (lines ++ is.instructions)))
            ∙ (ap (λ (z : List ℕ). z ++ (info ++ (lines ++ is.instructions))) (sym front_is) ∙ ap (λ (z : List ℕ). front_of prelude ++ (info ++ (lines ++ z))) is.layout.bytes_are));
        info_at = sym (length-append (signatures.spelling (signature_of code)) (sizes.spelling (length info + length lines))) ∙ ap length (sym front_is);
        code_at = refl;
      }

  -- the lines that the table gives at the starts of the instructions
  pub lines_read : ((pairs : List (ℕ × ℕ)) (offset : ℕ) → Rises pairs → line_of (table_of pairs) offset ≡ line_among 1 pairs offset)
      → map (line_of lines) (starts 0 (instructions tables code is.instructions is.layout fit sound).list.pieces) ≡ (out-Code code).lines
  lines_read lines_law =
      let facts = instructions tables code is.instructions is.layout fit sound in
      let pairs = changes 1 (zip (offsets 0 made) (out-Code code).lines) in
      let rises = rises_changes 0 1 (zip (offsets 0 made) (out-Code code).lines) (rises_from 0 0 1 made (out-Code code).lines (omega arith) sound.lines) in
      ap (map (line_of lines)) facts.starts_are
      ∙ (same_map (line_of lines) (line_among 1 pairs) (λ o. lines_law pairs o rises) (offsets 0 made)
      ∙ lines_among 1 0 made (out-Code code).lines facts.some (sound.a_line_each ∙ sym facts.count))

  -- what the code resolves to in such a module
  module _ (m : Module) (qstrs_are : m.qstrs ≡ map qstr_of tables.texts.texts) where
    pub number_there : (text : List ℕ) → Contains tables.texts.texts text → slice_get tables.texts.texts (text_number tables text) ≡ Some text
    number_there text there = number_leads tables.texts text fit.texts.first there

    pub name_there : (text : List ℕ) → IsText text → Contains tables.texts.texts text → name_at m (text_number tables text) ≡ Some text
    name_there text one there =
        ap (λ qs. option_and_then text_of (slice_get qs (text_number tables text))) qstrs_are
        ∙ (ap (option_and_then text_of) (slice_get-map qstr_of tables.texts.texts (text_number tables text) ∙ ap (option_map qstr_of) (number_there text there)) ∙ (entry_is text one).text_is)

    pub names_there : (texts : List (List ℕ)) → AllByRecursion IsText texts → AllByRecursion (Contains tables.texts.texts) texts → map (name_at m) (map (text_number tables) texts) ≡ map Some texts
    names_there [] one there = refl
    names_there (x ∷ xs) one there =
        ap (λ o. o ∷ map (name_at m) (map (text_number tables) xs)) (name_there x one.0 there.0) ∙ ap (λ os. Some x ∷ os) (names_there xs one.1 there.1)

    pub indexes_within : (texts : List (List ℕ)) → AllByRecursion (Contains tables.texts.texts) texts → AllByRecursion (λ index. index < length m.qstrs) (map (text_number tables) texts)
    indexes_within [] there = tt
    indexes_within (x ∷ xs) there =
        let lt = slice_get_within tables.texts.texts (text_number tables x) x (number_there x there.0) in
        let size = ap length qstrs_are ∙ length-map tables.texts.texts qstr_of in
        (omega (arith, lt, size), indexes_within xs there.1)

    module _ (whole : IsSoundCode code) (objects_are : map spelled m.objects ≡ tables.objects.texts)
        (fine : AllByRecursion (IsFine MAX_DEPTH) m.objects) (texts_there : AllByRecursion (Contains tables.texts.texts) (texts_in code)) (objects_there : AllByRecursion (Contains m.objects) (objects_in code))
        (lines_law : (pairs : List (ℕ × ℕ)) (offset : ℕ) → Rises pairs → line_of (table_of pairs) offset ≡ line_among 1 pairs offset) where
      Contains-seen : (os : List Constant) (o : Constant) → Contains os o → Contains (map spelled os) (spelled o)
      Contains-seen os o h = let lt = h.1 in (h.0, omega (arith, lt, length-map os spelled), get_or-map spelled os h.0 o (spelled o) h.1 ∙ ap spelled h.2)

      fine_get : (os : List Constant) (i : ℕ) (p : Constant) → AllByRecursion (IsFine MAX_DEPTH) os → slice_get os i ≡ Some p → IsFine MAX_DEPTH p
      fine_get [] i p all e = absurd cc
      fine_get (o ∷ os) zero p all e = let same : o ≡ p = cc in subst (IsFine MAX_DEPTH) same all.0
      fine_get (o ∷ os) (suc i) p all e = fine_get os i p all.1 e

      object_there : (o : Constant) → IsFine MAX_DEPTH o → Contains m.objects o → object_at m (object_number tables o) ≡ object (value_of o)
      object_there o one there =
          let seen = number_leads tables.objects (spelled o) fit.objects.first (subst (λ (ts : List (List ℕ)). Contains ts (spelled o)) objects_are (Contains-seen m.objects o there)) in
          let at = sym (slice_get-map spelled m.objects (object_number tables o)) ∙ (ap (λ ts. slice_get ts (object_number tables o)) objects_are ∙ seen) in
          by_object (slice_get m.objects (object_number tables o)) refl at where
            by_object : (r : Option Constant) → slice_get m.objects (object_number tables o) ≡ r → option_map spelled r ≡ Some (spelled o) → unwrap_or (option_map (λ c. object (value_of c)) r) (plain (instrs.Num LoadConstObj (object_number tables o))) ≡ object (value_of o)
            by_object None e k = absurd cc
            by_object (Some p) e k =
                let same : spelled p ≡ spelled o = cc in
                ap (λ c. object (value_of c)) (one_object MAX_DEPTH p o (fine_get m.objects (object_number tables o) p fine e) one same)

      plain_item : (instr : Instr) → IsPlain instr → resolved_instr m instr ≡ plain instr
      plain_item (instrs.Name op n) h = absurd h
      plain_item (instrs.Num LoadConstObj n) h = absurd h
      plain_item (instrs.Jump op offset wide) h = absurd h
      plain_item (instrs.Unwind offset wide byte) h = absurd h
      plain_item instr h = refl

      item_there : (count : ℕ) (x : Item) → IsSoundItem count x → AllByRecursion (Contains tables.texts.texts) (text_in x) → AllByRecursion (Contains m.objects) (object_in x) → resolved m (list_item tables x) ≡ resolved_item x
      item_there count (items.Plain instr) sound t o = plain_item instr sound.0
      item_there count (items.Named op text) sound t o = ap (λ r. unwrap_or (option_map (named op) r) (plain (instrs.Name op (text_number tables text)))) (name_there text sound.1 t.0)
      item_there count (items.Object constant) sound t o = object_there constant sound o.0
      item_there count (items.Jump op position) sound t o = refl
      item_there count (items.Unwind position byte) sound t o = refl

      items_there : (count : ℕ) (ys : List Item) → AllByRecursion (IsSoundItem count) ys → AllByRecursion (Contains tables.texts.texts) (flat_map text_in ys) → AllByRecursion (Contains m.objects) (flat_map object_in ys)
          → map (resolved m) (map (list_item tables) ys) ≡ map resolved_item ys
      items_there count [] sound t o = refl
      items_there count (y ∷ ys) sound t o =
          let texts = parted (Contains tables.texts.texts) (text_in y) (flat_map text_in ys) t in
          let objects = parted (Contains m.objects) (object_in y) (flat_map object_in ys) o in
          ap (λ r. r ∷ map (resolved m) (map (list_item tables) ys)) (item_there count y sound.0 texts.0 objects.0) ∙ ap (λ rs. resolved_item y ∷ rs) (items_there count ys sound.1 texts.1 objects.1)

      pub own_code : IsOwnCode (length m.qstrs) own
      unfolding begins
      own_code =
          let facts = instructions tables code is.instructions is.layout fit sound in
          let named = parted (Contains tables.texts.texts) ((out-Code code).name ∷ (out-Code code).args) (flat_map text_in xs) texts_there in
          record {
            prelude = prelude;
            begins = begins;
            defaults = sound.defaults;
            names = All-from_recursion (λ index. index < length m.qstrs) (indexes_of tables code) (indexes_within ((out-Code code).name ∷ (out-Code code).args) named.0);
            items = map (list_item tables) xs;
            listed = facts.list;
          }

      pub body : IsBody m own (body_of code)
      unfolding begins
      body =
          let facts = instructions tables code is.instructions is.layout fit sound in
          let named = parted (Contains tables.texts.texts) ((out-Code code).name ∷ (out-Code code).args) (flat_map text_in xs) texts_there in
          record {
            prelude = prelude;
            begins = begins;
            names = names_there ((out-Code code).name ∷ (out-Code code).args) (sound.name, recursion_from_All IsText (out-Code code).args sound.args) named.0;
            defaults = refl;
            n_state = refl;
            n_exc = refl;
            items = map (list_item tables) xs;
            is_list = facts.list;
            instrs = body_instrs code whole ∙ sym (items_there (length xs) xs (recursion_from_All (IsSoundItem (length xs)) xs whole.instrs) named.1 objects_there);
            lines = body_lines code whole ∙ sym (lines_read lines_law);
          }
