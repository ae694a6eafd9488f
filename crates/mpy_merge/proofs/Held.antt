-- A code by its numbers, in a module whose texts are those of the tables.
use Rattle.std.proofs.Common.{◌≡◌, ℕ, zero, suc, ◌+◌, ◌<◌, ◌≤◌, ◌^◌, Bool, true, false, List, [], ◌∷◌, length, map, Some, slice_get, refl, sym, ap, subst, ◌∙◌, arith}
use Rattle.std.specs.Prelude.{Contains}
use Rattle.std.specs.List.{flat_map, AllByRecursion}
use Rattle.std.proofs.lemmas.List.{length-map}
use Rattle.std.proofs.lemmas.List.Elements.{All-from_recursion, recursion_from_All}
use Rattle.mpy_base.specs.Vuint.{vuint}
use Rattle.mpy_base.specs.declared.limits.TheConstants.{MAX_TABLE, MAX_CODE_BYTES}
use Rattle.mpy_base.proofs.Groups.{vuint_spells}
use Rattle.bc_scheme.specs.bc_ops.declared.instr.Instr.{Instr}
use Rattle.mpy_writer.specs.bc_labels.Choice.{instrs_of}
use Rattle.bc_verify.specs.bc_prelude.Lines.{Rises, table_of, line_of, line_among}
use Rattle.bc_verify.specs.bc_prelude.Prelude.{Begins}
use Rattle.bc_verify.specs.bc_prelude.Signature as signatures
use Rattle.bc_verify.specs.bc_prelude.Size as sizes
use Rattle.bc_verify.specs.bc_prelude.Names as names
use Rattle.bc_verify.proofs.bc_prelude_lemmas.Written.{signature_spells, size_spells}
use Rattle.bc_verify.proofs.bc_prelude_lemmas.Indexes.{names_spelled}
use Rattle.mpy_writer.specs.mpy_tree.declared.module.Code.{Code, out-Code}
use Rattle.mpy_writer.specs.mpy_tree.declared.raw.RawCode.{RawCode, RawCode-F, out-RawCode, out-roll-RawCode, roll-out-RawCode}
use Rattle.mpy_writer.specs.mpy_tree.File.{header_of, Many, AreChildren, IsOwnCode, IsCode, IsModule}
use Rattle.mpy_writer.specs.mpy_tree.Raw.{Module}
use Rattle.mpy_writer.specs.mpy_tree.Canonical.{has_some, children_bytes, code_bytes, IsCanonicalCode, AllCodes}
use Rattle.mpy_writer.specs.mpy_tree.Resolved as trees
use Rattle.mpy_writer.specs.mpy_tree.Resolved.{Body, line_numbers, resolved, IsBody}
use Rattle.bc_verify.specs.Verified.{AreVerified}
use Rattle.mpy_writer.specs.declared.tables.Tables.{Tables}
use Rattle.mpy_writer.specs.Tables.{TablesFit, text_number}
use Rattle.mpy_writer.specs.Writable.{IsText, IsNumberedCode}
use Rattle.mpy_writer.specs.File.{labelled, signature_of, indexes_of, lines_of, IsOwn, qstr_of}
use Rattle.mpy_writer.proofs.Numbers.{number_small}
use Rattle.mpy_writer.proofs.Labelled.{list_item}
use Rattle.mpy_writer.proofs.Bodies.{instructions, prelude_of, writable, canonical, names_there, indexes_within, lines_read}
use Rattle.mpy_writer.proofs.Lists.{zip_all, zip_length}
use Rattle.mpy_writer.proofs.Spelled.{many_spelled}
use Rattle.mpy_merge.specs.Joined.{IsJoined}
use Rattle.mpy_merge.specs.Moved.{text_at, IsMovedTree}
use Rattle.mpy_merge.proofs.Sound.{numbered}
use Rattle.mpy_writer.proofs.mpy_tree_lemmas.Codes.{Nests, children, whole}
use Rattle.mpy_merge.proofs.Trees.{kept_code, verified_child}
use Rattle.mpy_merge.specs.Merged.{NestsWithin}
use Rattle.mpy_merge.proofs.Once.{same}

abbrev pub LinesLaw : Type 0
LinesLaw = (pairs : List (ℕ × ℕ)) (offset : ℕ) → Rises pairs → line_of (table_of pairs) offset ≡ line_among 1 pairs offset

module _ (tables : Tables) (fit : TablesFit tables) (code : Code) (own : List ℕ) (is : IsOwn tables code own) (sound : IsNumberedCode code) (merged : Module) (qstrs_are : merged.qstrs ≡ map qstr_of tables.texts.texts) where
  abbrev made : List Instr
  made = instrs_of (labelled tables code) is.layout.widths

  abbrev info : List ℕ
  info = names.spelling (indexes_of tables code)

  abbrev lines : List ℕ
  lines = lines_of made (out-Code code).lines

  abbrev texts : List (List ℕ)
  texts = (out-Code code).name ∷ (out-Code code).args

  small : (ts : List (List ℕ)) → AllByRecursion (λ index. index < 2 ^ 31) (map (text_number tables) ts)
  small [] = tt
  small (x ∷ xs) = let le = number_small tables.texts x fit.texts in (omega (arith, le), small xs)

  abbrev begins : Begins own (prelude_of code info lines)
  begins = record {
    signature = signatures.spelling (signature_of code);
    size = sizes.spelling (length info + length lines);
    names = info;
    lines = lines;
    instructions = is.instructions;
    indexes = indexes_of tables code;
    code_is = is.own_is;
    is_signature = signature_spells (signature_of code) (writable code sound);
    is_size = size_spells (length info + length lines);
    are_names = names_spelled (indexes_of tables code) (All-from_recursion (λ index. index < 2 ^ 31) (indexes_of tables code) (small texts));
    count = omega (arith, length-map (out-Code code).args (text_number tables));
    no_cells = refl;
    info_at = refl;
    lines_at = refl;
    code_at = refl;
  }

  pub own_code : AllByRecursion (Contains tables.texts.texts) texts → IsOwnCode (length merged.qstrs) own
  own_code there =
      let facts = instructions tables code is.instructions is.layout fit sound in
      record {
        prelude = prelude_of code info lines;
        begins = begins;
        defaults = sound.defaults;
        names = All-from_recursion (λ index. index < length merged.qstrs) (indexes_of tables code) (indexes_within tables code own is fit sound merged qstrs_are texts there);
        items = map (list_item tables) (out-Code code).instrs;
        listed = facts.list;
      }

  pub own_body : LinesLaw → (body : Body) → AllByRecursion IsText texts → AllByRecursion (Contains tables.texts.texts) texts → texts ≡ body.name ∷ body.args → body.defaults ≡ (out-Code code).defaults → body.n_state ≡ (out-Code code).n_state → body.n_exc ≡ (out-Code code).n_exc
      → trees.instrs_of body ≡ map (resolved merged) (map (list_item tables) (out-Code code).instrs) → line_numbers body ≡ (out-Code code).lines → IsBody merged own body
  own_body lines_law body fine there named defaults n_state n_exc items numbers =
      let facts = instructions tables code is.instructions is.layout fit sound in
      record {
        prelude = prelude_of code info lines;
        begins = begins;
        names = names_there tables code own is fit sound merged qstrs_are texts fine there ∙ ap (map Some) named;
        defaults = defaults;
        n_state = n_state;
        n_exc = n_exc;
        items = map (list_item tables) (out-Code code).instrs;
        is_list = facts.list;
        instrs = items;
        lines = numbers ∙ sym (lines_read tables code own is fit sound lines_law);
      }

-- a code in a file
-- ================

header_small : (len : ℕ) (b : Bool) → len ≤ MAX_CODE_BYTES → header_of len b < 2 ^ 31
header_small len true le = omega (arith, le)
header_small len false le = omega (arith, le)

module _ (levels texts : ℕ) where
  are_children : (raws : List RawCode) → length raws ≤ MAX_TABLE → AllByRecursion (λ r. IsCode levels texts (code_bytes levels r) r) raws → AreChildren (IsCode levels texts) (has_some raws) (children_bytes (code_bytes levels) raws) raws
  are_children [] few all = (refl, refl)
  are_children (r ∷ rs) few all =
      (vuint (length (r ∷ rs)), flat_map (code_bytes levels) (r ∷ rs), vuint_spells (length (r ∷ rs)) (omega (arith, few)), few, refl, many_spelled (IsCode levels texts) (code_bytes levels) (r ∷ rs) all)

  pub code_there : (raw : RawCode) → length (out-RawCode raw).bytes ≤ MAX_CODE_BYTES → IsOwnCode texts (out-RawCode raw).bytes → length (children raw) ≤ MAX_TABLE → AllByRecursion (λ r. IsCode levels texts (code_bytes levels r) r) (children raw)
      → IsCode (suc levels) texts (code_bytes (suc levels) raw) raw
  unfolding IsCode code_bytes
  code_there raw short own few all = record {
    header = vuint (header_of (length (out-RawCode raw).bytes) (has_some (children raw)));
    own = (out-RawCode raw).bytes;
    behind = children_bytes (code_bytes levels) (children raw);
    has_children = has_some (children raw);
    children = children raw;
    text_is = refl;
    spells = vuint_spells _ (header_small (length (out-RawCode raw).bytes) (has_some (children raw)) short);
    short = short;
    is_own = own;
    are_children = are_children (children raw) few all;
    code_is = sym (roll-out-RawCode raw);
  }

-- fewer levels
many_lower : (Inner Outer : List ℕ → RawCode → Type 0) (P : RawCode → Type 0) → ((text : List ℕ) (r : RawCode) → Outer text r → P r → Inner text r) → (text : List ℕ) (xs : List RawCode) → Many Outer text xs → AllByRecursion P xs → Many Inner text xs
many_lower Inner Outer P step text [] h all = h
many_lower Inner Outer P step text (x ∷ xs) h all = (h.0, h.1, step h.0 x h.2 all.0, h.3, many_lower Inner Outer P step h.1 xs h.4 all.1)

children_lower : (Inner Outer : List ℕ → RawCode → Type 0) (P : RawCode → Type 0) → ((text : List ℕ) (r : RawCode) → Outer text r → P r → Inner text r) → (has : Bool) (text : List ℕ) (xs : List RawCode) → AreChildren Outer has text xs → AllByRecursion P xs → AreChildren Inner has text xs
children_lower Inner Outer P step false text xs h all = h
children_lower Inner Outer P step true text xs h all = (h.0, h.1, h.2, h.3, h.4, many_lower Inner Outer P step h.1 xs h.5 all)

pub lower_code : (levels count : ℕ) (text : List ℕ) (code : RawCode) → IsCode (suc levels) count text code → NestsWithin levels code → IsCode levels count text code
unfolding IsCode NestsWithin
lower_code zero count text code e n = absurd n
lower_code (suc levels) count text code e n =
    let parts = ap out-RawCode e.code_is ∙ out-roll-RawCode (record { bytes = e.own; children = e.children }) in
    let inside : e.children ≡ children code = sym (ap (λ (z : RawCode-F RawCode). z.children) parts) in
    let all : AllByRecursion (NestsWithin levels) e.children = subst (AllByRecursion (NestsWithin levels)) (sym inside) (recursion_from_All (NestsWithin levels) (children code) n) in
    record {
      header = e.header;
      own = e.own;
      behind = e.behind;
      has_children = e.has_children;
      children = e.children;
      text_is = e.text_is;
      spells = e.spells;
      short = e.short;
      is_own = e.is_own;
      are_children = children_lower (IsCode levels count) (IsCode (suc levels) count) (NestsWithin levels) (lower_code levels count) e.has_children e.behind e.children e.are_children all;
      code_is = e.code_is;
    }

-- a module's codes with their numbers moved
-- =========================================

each_there : (P : RawCode → Type 0) (raws : List RawCode) → ((n : ℕ) (raw : RawCode) → slice_get raws n ≡ Some raw → P raw) → AllByRecursion P raws
each_there P [] h = tt
each_there P (r ∷ rs) h = (h 0 r refl, each_there P rs (λ n raw e. h (suc n) raw e))

-- a code is canonical, and a file holds it
pub record Kept (texts levels : ℕ) (moved : RawCode) : Type 0 where
  pub canonical : AllCodes IsCanonicalCode levels moved
  pub spelled : IsCode levels texts (code_bytes levels moved) moved

pub all_canonical : (texts levels : ℕ) (moved : RawCode) → IsCanonicalCode (out-RawCode moved).bytes → AllByRecursion (Kept texts levels) (children moved) → AllCodes IsCanonicalCode (suc levels) moved
unfolding AllCodes
all_canonical texts levels moved own all = (own, All-from_recursion (AllCodes IsCanonicalCode levels) (children moved) (inside (children moved) all)) where
  inside : (raws : List RawCode) → AllByRecursion (Kept texts levels) raws → AllByRecursion (AllCodes IsCanonicalCode levels) raws
  inside [] h = tt
  inside (r ∷ rs) h = (h.0.canonical, inside rs h.1)

pub all_spelled : (count levels : ℕ) (raws : List RawCode) → AllByRecursion (Kept count levels) raws → AllByRecursion (λ r. IsCode levels count (code_bytes levels r) r) raws
all_spelled count levels [] h = tt
all_spelled count levels (r ∷ rs) h = (h.0.spelled, all_spelled count levels rs h.1)

module _ (tables : Tables) (fit : TablesFit tables) (base : ℕ) (m merged : Module) (is : IsModule m) (few : base + length m.objects ≤ MAX_TABLE) (joined : IsJoined tables base m merged) where
  names_kept : (ns : List ℕ) → AllByRecursion (λ n. n < length m.qstrs) ns → AllByRecursion (Contains tables.texts.texts) (map (text_at m) ns)
  names_kept [] h = tt
  names_kept (n ∷ ns) h = (joined.texts_there n h.0, names_kept ns h.1)

  pub part_kept : (levels : ℕ) (raw moved : RawCode) → Nests (length m.qstrs) levels raw → AreVerified m raw → IsMovedTree levels tables base m raw moved → Kept (length merged.qstrs) levels moved
  unfolding IsMovedTree
  part_kept zero raw moved nests verified h = absurd h
  part_kept (suc levels) raw moved nests verified h =
      let w = whole (length m.qstrs) (suc levels) raw nests in
      let below : w.below ≡ levels = omega (arith, w.levels_are) in
      let k = kept_code m (suc levels) raw nests (verified [] raw refl) in
      let o = h.0 in
      let c = o.moved in
      let sound = numbered tables fit base m few is (out-RawCode raw).bytes k o.code c in
      let s = same (out-RawCode raw).bytes k.prelude c.prelude k.begins c.begins in
      let within : AllByRecursion (λ (n : ℕ). n < length m.qstrs) c.begins.indexes = subst (AllByRecursion (λ (n : ℕ). n < length m.qstrs)) s.indexes (recursion_from_All (λ (n : ℕ). n < length m.qstrs) k.begins.indexes k.names) in
      let there : AllByRecursion (Contains tables.texts.texts) ((out-Code o.code).name ∷ (out-Code o.code).args) = subst (AllByRecursion (Contains tables.texts.texts)) (sym c.names) (names_kept c.begins.indexes within) in
      let all = each_there (λ r. Nests (length m.qstrs) levels r × AreVerified m r) (children raw) (λ n r at. (subst (λ l. Nests (length m.qstrs) l r) below (w.each n r at), verified_child m raw r n verified at)) in
      let inside = zip_all (IsMovedTree levels tables base m) (λ r. Nests (length m.qstrs) levels r × AreVerified m r) (Kept (length merged.qstrs) levels) (λ x y tree p. part_kept levels x y p.0 p.1 tree) (children raw) (children moved) h.1 all in
      let own = own_code tables fit o.code (out-RawCode moved).bytes o.is_own sound merged joined.qstrs_are there in
      let size = zip_length (IsMovedTree levels tables base m) (children raw) (children moved) h.1 in
      let few_children = w.few in
      record {
        canonical = all_canonical (length merged.qstrs) levels moved (canonical tables o.code (out-RawCode moved).bytes o.is_own fit sound) inside;
        spelled = code_there levels (length merged.qstrs) moved o.short own (omega (arith, size, few_children)) (all_spelled (length merged.qstrs) levels (children moved) inside);
      }
