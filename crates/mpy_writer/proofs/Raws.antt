-- Codes in one another, as a file holds them.
use Rattle.std.proofs.Common.{◌≡◌, ℕ, zero, suc, ◌<◌, ◌≤◌, ◌^◌, Bool, true, false, List, [], ◌∷◌, ◌++◌, length, map, refl, sym, ap, ap₂, subst, ◌∙◌, append_assoc, arith}
use Rattle.std.specs.Prelude.{Contains}
use Rattle.std.specs.List.{flat_map, AllByRecursion, AllZip}
use Rattle.std.proofs.lemmas.List.{append-nil}
use Rattle.std.proofs.lemmas.List.Concat.{flat_map-append}
use Rattle.std.proofs.lemmas.List.Elements.{All-from_recursion, recursion_from_All}
use Rattle.mpy_base.specs.Vuint.{vuint}
use Rattle.mpy_base.specs.declared.limits.TheConstants.{MAX_CODE_BYTES, MAX_DEPTH}
use Rattle.mpy_base.specs.Val.{Val}
use Rattle.mpy_base.proofs.Groups.{vuint_spells}
use Rattle.mpy_tree.specs.bc_prelude.Lines.{Rises, table_of, line_of, line_among}
use Rattle.mpy_tree.specs.declared.module.Item.{Item}
use Rattle.mpy_tree.specs.declared.module.Item.TheVariants as items
use Rattle.mpy_tree.specs.declared.module.Code.{Code, out-Code}
use Rattle.mpy_tree.specs.declared.raw.RawCode.{RawCode, RawCode-F, out-RawCode, roll-RawCode, out-roll-RawCode, roll-out-RawCode}
use Rattle.mpy_tree.specs.Raw.{Module}
use Rattle.mpy_tree.specs.File.{header_of, AreChildren, IsCode}
use Rattle.mpy_tree.specs.Canonical as canon
use Rattle.mpy_tree.specs.Canonical.{children_bytes, code_bytes, IsCanonicalCode, AllCodes}
use Rattle.mpy_tree.specs.FirstUse as uses
use Rattle.mpy_tree.specs.FirstUse.{in_tree, in_trees}
use Rattle.mpy_tree.specs.Resolved.{resolved_item, Body, Tree, node, Trees, no_more, more, ResolvesCode, ResolveCodes, IsBodyOf, IsTreeOf, AreTreesOf}
use Rattle.mpy_tree.specs.Values.{value_of}
use Rattle.mpy_writer.specs.declared.tables.Tables.{Tables}
use Rattle.mpy_writer.specs.Codes.{codes_in, text_in, object_in, texts_in, objects_in}
use Rattle.mpy_writer.specs.Tables.{TablesFit, spelled}
use Rattle.mpy_writer.specs.Writable.{IsFine, IsSoundCode, IsShallow}
use Rattle.mpy_writer.specs.File.{IsOwn, has_some, count_bytes, head_bytes, heads, qstr_of}
use Rattle.mpy_writer.proofs.Bodies.{body_of, body_instrs, body_lines, canonical, own_code, body}
use Rattle.mpy_writer.proofs.Numbered.{numbered_code}
use Rattle.mpy_writer.proofs.Lists.{parted, parted_all, split_zip, zip_length, zip_all}
use Rattle.mpy_writer.proofs.Spelled.{many_spelled}

abbrev children : Code → List Code
children code = (out-Code code).children

abbrev IsShort : List ℕ → Type 0
IsShort own = length own ≤ MAX_CODE_BYTES

-- each code with its own bytes
unfoldable pub IsRaw : Tables → ℕ → Code → RawCode → Type 0
IsRaw tables zero code raw = ⊥
IsRaw tables (suc levels) code raw =
    IsOwn tables code (out-RawCode raw).bytes × IsShort (out-RawCode raw).bytes × AllZip (IsRaw tables levels) (children code) (out-RawCode raw).children

pub record Grown (tables : Tables) (levels : ℕ) (code : Code) (owns : List (List ℕ)) : Type 0 where
  pub raw : RawCode
  pub is_raw : IsRaw tables levels code raw
  pub heads_are : heads (codes_in levels code) owns ≡ code_bytes levels raw

record AllGrown (tables : Tables) (levels : ℕ) (codes : List Code) (owns : List (List ℕ)) : Type 0 where
  pub raws : List RawCode
  pub are_raw : AllZip (IsRaw tables levels) codes raws
  pub heads_are : heads (flat_map (codes_in levels) codes) owns ≡ flat_map (code_bytes levels) raws

heads-append : (R : Code → List ℕ → Type 0) (xs ys : List Code) (os ps : List (List ℕ)) → AllZip R xs os → heads (xs ++ ys) (os ++ ps) ≡ heads xs os ++ heads ys ps
heads-append R [] ys [] ps h = refl
heads-append R [] ys (o ∷ os) ps h = absurd h
heads-append R (x ∷ xs) ys [] ps h = absurd h
heads-append R (x ∷ xs) ys (o ∷ os) ps h = ap (λ (z : List ℕ). head_bytes x o ++ z) (heads-append R xs ys os ps h.1) ∙ sym (append_assoc (head_bytes x o) (heads xs os) (heads ys ps))

pub heads_more : (R : Code → List ℕ → Type 0) (xs : List Code) (os : List (List ℕ)) (x : Code) (own : List ℕ) → AllZip R xs os → heads (xs ++ x ∷ []) (os ++ own ∷ []) ≡ heads xs os ++ head_bytes x own
heads_more R xs os x own h = heads-append R xs (x ∷ []) os (own ∷ []) h ∙ ap (λ (z : List ℕ). heads xs os ++ z) (append-nil (head_bytes x own))

abbrev Grows : Tables → ℕ → Type 0
Grows tables levels = (code : Code) → IsShallow levels code → (owns : List (List ℕ)) → AllZip (IsOwn tables) (codes_in levels code) owns → AllByRecursion IsShort owns → Grown tables levels code owns

all_grown : (tables : Tables) (levels : ℕ) → Grows tables levels → (codes : List Code) → AllByRecursion (IsShallow levels) codes → (owns : List (List ℕ)) → AllZip (IsOwn tables) (flat_map (codes_in levels) codes) owns → AllByRecursion IsShort owns → AllGrown tables levels codes owns
all_grown tables levels grow [] shallow [] zip short = record { raws = []; are_raw = tt; heads_are = refl }
all_grown tables levels grow [] shallow (o ∷ os) zip short = absurd zip
all_grown tables levels grow (c ∷ cs) shallow owns zip short =
    let split = split_zip (IsOwn tables) (codes_in levels c) (flat_map (codes_in levels) cs) owns zip in
    let shorts = parted IsShort split.0 split.1 (subst (AllByRecursion IsShort) split.2 short) in
    let first = grow c shallow.0 split.0 split.3 shorts.0 in
    let rest = all_grown tables levels grow cs shallow.1 split.1 split.4 shorts.1 in
    record {
      raws = first.raw ∷ rest.raws;
      are_raw = (first.is_raw, rest.are_raw);
      heads_are = ap (heads (codes_in levels c ++ flat_map (codes_in levels) cs)) split.2
          ∙ (heads-append (IsOwn tables) (codes_in levels c) (flat_map (codes_in levels) cs) split.0 split.1 split.3
          ∙ ap₂ (λ (x y : List ℕ). x ++ y) first.heads_are rest.heads_are);
    }

-- a head with the codes behind it
joined_head : (R : Code → RawCode → Type 0) (inner : RawCode → List ℕ) (own : List ℕ) (codes : List Code) (raws : List RawCode) → AllZip R codes raws
    → (vuint (header_of (length own) (has_some codes)) ++ (own ++ count_bytes codes)) ++ flat_map inner raws ≡ vuint (header_of (length own) (canon.has_some raws)) ++ (own ++ children_bytes inner raws)
joined_head R inner own [] [] h = append-nil _
joined_head R inner own [] (r ∷ rs) h = absurd h
joined_head R inner own (c ∷ cs) [] h = absurd h
joined_head R inner own (c ∷ cs) (r ∷ rs) h =
    let header = vuint (header_of (length own) true) in
    let size : length (c ∷ cs) ≡ length (r ∷ rs) = zip_length R (c ∷ cs) (r ∷ rs) h in
    append_assoc header (own ++ vuint (length (c ∷ cs))) (flat_map inner (r ∷ rs))
    ∙ (ap (λ (z : List ℕ). header ++ z) (append_assoc own (vuint (length (c ∷ cs))) (flat_map inner (r ∷ rs)))
    ∙ ap (λ (n : ℕ). header ++ (own ++ (vuint n ++ flat_map inner (r ∷ rs)))) size)

abbrev written : ℕ → RawCode-F RawCode → List ℕ
written levels r = vuint (header_of (length r.bytes) (canon.has_some r.children)) ++ (r.bytes ++ children_bytes (code_bytes levels) r.children)

abbrev Rawly : Tables → ℕ → Code → RawCode-F RawCode → Type 0
Rawly tables levels code r = IsOwn tables code r.bytes × IsShort r.bytes × AllZip (IsRaw tables levels) (children code) r.children

grown_from : (tables : Tables) (levels : ℕ) (code : Code) (own : List ℕ) (others : List (List ℕ)) → IsOwn tables code own → IsShort own → AllGrown tables levels (children code) others → Grown tables (suc levels) code (own ∷ others)
unfolding IsRaw codes_in code_bytes
grown_from tables levels code own others is short all =
    let r : RawCode-F RawCode = record { bytes = own; children = all.raws } in
    let opened : out-RawCode (roll-RawCode r) ≡ r = out-roll-RawCode r in
    record {
      raw = roll-RawCode r;
      is_raw = subst (Rawly tables levels code) (sym opened) (is, short, all.are_raw);
      heads_are = ap (λ (z : List ℕ). head_bytes code own ++ z) all.heads_are
          ∙ (joined_head (IsRaw tables levels) (code_bytes levels) own (children code) all.raws all.are_raw ∙ ap (written levels) (sym opened));
    }

pub grown : (tables : Tables) (levels : ℕ) → Grows tables levels
unfolding IsShallow codes_in
grown tables zero code shallow owns zip short = absurd shallow
grown tables (suc levels) code shallow [] zip short = absurd zip
grown tables (suc levels) code shallow (own ∷ others) zip short =
    grown_from tables levels code own others zip.0 short.0
    (all_grown tables levels (grown tables levels) (children code) (recursion_from_All (IsShallow levels) (children code) shallow) others zip.1 short.1)

-- the tree that the codes are read as
abbrev pub trees_from : List Tree → Trees
trees_from [] = no_more
trees_from (t ∷ ts) = more t (trees_from ts)

unfoldable pub tree_of : ℕ → Code → Tree
tree_of zero code = node (body_of code) no_more
tree_of (suc levels) code = node (body_of code) (trees_from (map (tree_of levels) (children code)))

are_trees : (levels : ℕ) (codes : List Code) → AllByRecursion (λ c. IsTreeOf (tree_of levels c) c) codes → AreTreesOf (trees_from (map (tree_of levels) codes)) codes
are_trees levels [] all = refl
are_trees levels (c ∷ cs) all = (c, cs, refl, all.0, are_trees levels cs all.1)

-- a code that is shallow and sound, with those in it
pub record IsGood (levels : ℕ) (code : Code) : Type 0 where
  pub shallow : IsShallow levels code
  pub sound : AllByRecursion IsSoundCode (codes_in levels code)

inner_good : (levels : ℕ) (Q : Code → Type 0) → ((c : Code) → IsGood levels c → Q c) → (codes : List Code) → AllByRecursion (IsShallow levels) codes → AllByRecursion (λ c. AllByRecursion IsSoundCode (codes_in levels c)) codes → AllByRecursion Q codes
inner_good levels Q step [] shallow sound = tt
inner_good levels Q step (c ∷ cs) shallow sound = (step c (record { shallow = shallow.0; sound = sound.0 }), inner_good levels Q step cs shallow.1 sound.1)

all_good : (levels : ℕ) (Q : Code → Type 0) → ((c : Code) → IsGood levels c → Q c) → (code : Code) → IsGood (suc levels) code → IsSoundCode code × AllByRecursion Q (children code)
unfolding IsShallow codes_in
all_good levels Q step code good = (
  good.sound.0,
  inner_good levels Q step (children code) (recursion_from_All (IsShallow levels) (children code) good.shallow) (parted_all IsSoundCode (codes_in levels) (children code) good.sound.1),
)

not_shallow : (code : Code) → IsGood zero code → ⊥
unfolding IsShallow
not_shallow code good = good.shallow

pub is_tree : (levels : ℕ) (code : Code) → IsGood levels code → IsTreeOf (tree_of levels code) code
unfolding tree_of
is_tree zero code good = absurd (not_shallow code good)
is_tree (suc levels) code good =
    let all = all_good levels (λ c. IsTreeOf (tree_of levels c) c) (is_tree levels) code good in
    let own : IsBodyOf code (body_of code) = record { name = refl; args = refl; defaults = refl; n_state = refl; n_exc = refl; instrs = body_instrs code all.0; lines = body_lines code all.0 } in
    (own, are_trees levels (children code) all.1)

-- what is used in it
module _ {A : Type 0} (of_body : Body → List A) (of_code : Code → List A) (same : (code : Code) → IsSoundCode code → of_body (body_of code) ≡ of_code code) where
  in_all : (levels : ℕ) (codes : List Code) → AllByRecursion (λ c. in_tree of_body (tree_of levels c) ≡ flat_map of_code (codes_in levels c)) codes → in_trees of_body (trees_from (map (tree_of levels) codes)) ≡ flat_map of_code (flat_map (codes_in levels) codes)
  in_all levels [] all = refl
  in_all levels (c ∷ cs) all =
      ap₂ (λ (x y : List A). x ++ y) all.0 (in_all levels cs all.1) ∙ sym (flat_map-append of_code (codes_in levels c) (flat_map (codes_in levels) cs))

  pub used_in : (levels : ℕ) (code : Code) → IsGood levels code → in_tree of_body (tree_of levels code) ≡ flat_map of_code (codes_in levels code)
  unfolding tree_of codes_in
  used_in zero code good = absurd (not_shallow code good)
  used_in (suc levels) code good =
      let all = all_good levels (λ c. in_tree of_body (tree_of levels c) ≡ flat_map of_code (codes_in levels c)) (used_in levels) code good in
      ap₂ (λ (x y : List A). x ++ y) (same code all.0) (in_all levels (children code) all.1)

texts_seen : (xs : List Item) → flat_map uses.text_in (map resolved_item xs) ≡ flat_map text_in xs
texts_seen [] = refl
texts_seen (items.Plain instr ∷ xs) = texts_seen xs
texts_seen (items.Named op text ∷ xs) = ap (λ (z : List (List ℕ)). text ∷ z) (texts_seen xs)
texts_seen (items.Object constant ∷ xs) = texts_seen xs
texts_seen (items.Jump op position ∷ xs) = texts_seen xs
texts_seen (items.Unwind position byte ∷ xs) = texts_seen xs

objects_seen : (xs : List Item) → flat_map uses.object_in (map resolved_item xs) ≡ map value_of (flat_map object_in xs)
objects_seen [] = refl
objects_seen (items.Plain instr ∷ xs) = objects_seen xs
objects_seen (items.Named op text ∷ xs) = objects_seen xs
objects_seen (items.Object constant ∷ xs) = ap (λ (z : List Val). value_of constant ∷ z) (objects_seen xs)
objects_seen (items.Jump op position ∷ xs) = objects_seen xs
objects_seen (items.Unwind position byte ∷ xs) = objects_seen xs

pub texts_of_body : (code : Code) → IsSoundCode code → uses.body_texts (body_of code) ≡ texts_in code
texts_of_body code sound =
    ap (λ (z : List (List ℕ)). (out-Code code).name ∷ ((out-Code code).args ++ z)) (ap (flat_map uses.text_in) (body_instrs code sound) ∙ texts_seen (out-Code code).instrs)

pub objects_of_body : (code : Code) → IsSoundCode code → uses.body_objects (body_of code) ≡ map value_of (objects_in code)
objects_of_body code sound = ap (flat_map uses.object_in) (body_instrs code sound) ∙ objects_seen (out-Code code).instrs

-- what is read of it
header_small : (len : ℕ) (b : Bool) → len ≤ MAX_CODE_BYTES → header_of len b < 2 ^ 31
header_small len true le = omega (arith, le)
header_small len false le = omega (arith, le)

module _ (tables : Tables) (fit : TablesFit tables) (m : Module) (qstrs_are : m.qstrs ≡ map qstr_of tables.texts.texts) (objects_are : map spelled m.objects ≡ tables.objects.texts)
    (fine : AllByRecursion (IsFine MAX_DEPTH) m.objects) (lines_law : (pairs : List (ℕ × ℕ)) (offset : ℕ) → Rises pairs → line_of (table_of pairs) offset ≡ line_among 1 pairs offset) where
  -- a code whose texts and objects stand in the tables
  pub record Good (code : Code) : Type 0 where
    pub sound : IsSoundCode code
    pub texts : AllByRecursion (Contains tables.texts.texts) (texts_in code)
    pub objects : AllByRecursion (Contains m.objects) (objects_in code)

  abbrev AllGood : ℕ → Code → Type 0
  AllGood levels code = AllByRecursion Good (codes_in levels code)

  are_children : (levels : ℕ) (raws : List RawCode) → length raws ≤ 65535 → AllByRecursion (λ r. IsCode levels (length m.qstrs) (code_bytes levels r) r) raws
      → AreChildren (IsCode levels (length m.qstrs)) (canon.has_some raws) (children_bytes (code_bytes levels) raws) raws
  are_children levels [] few all = (refl, refl)
  are_children levels (r ∷ rs) few all =
      (vuint (length (r ∷ rs)), flat_map (code_bytes levels) (r ∷ rs), vuint_spells (length (r ∷ rs)) (omega (arith, few)), few, refl, many_spelled (IsCode levels (length m.qstrs)) (code_bytes levels) (r ∷ rs) all)

  pub code_spelled : (levels : ℕ) (code : Code) (raw : RawCode) → IsRaw tables levels code raw → AllGood levels code → IsCode levels (length m.qstrs) (code_bytes levels raw) raw
  unfolding IsRaw IsCode code_bytes codes_in
  code_spelled zero code raw is good = absurd is
  code_spelled (suc levels) code raw is good =
      let raws = (out-RawCode raw).children in
      let few = good.0.sound.few_children in
      let size = zip_length (IsRaw tables levels) (children code) raws is.2 in
      let inside = zip_all (IsRaw tables levels) (AllGood levels) (λ r. IsCode levels (length m.qstrs) (code_bytes levels r) r) (code_spelled levels) (children code) raws is.2 (parted_all Good (codes_in levels) (children code) good.1) in
      record {
        header = vuint (header_of (length (out-RawCode raw).bytes) (canon.has_some raws));
        own = (out-RawCode raw).bytes;
        behind = children_bytes (code_bytes levels) raws;
        has_children = canon.has_some raws;
        children = raws;
        text_is = refl;
        spells = vuint_spells _ (header_small (length (out-RawCode raw).bytes) (canon.has_some raws) is.1);
        short = is.1;
        is_own = own_code tables code (out-RawCode raw).bytes is.0 fit (numbered_code code good.0.sound) m qstrs_are good.0.sound objects_are fine good.0.texts good.0.objects lines_law;
        are_children = are_children levels raws (omega (arith, few, size)) inside;
        code_is = sym (roll-out-RawCode raw);
      }

  pub all_canonical : (levels : ℕ) (code : Code) (raw : RawCode) → IsRaw tables levels code raw → AllGood levels code → AllCodes IsCanonicalCode levels raw
  unfolding IsRaw AllCodes codes_in
  all_canonical zero code raw is good = absurd is
  all_canonical (suc levels) code raw is good =
      let raws = (out-RawCode raw).children in (
        canonical tables code (out-RawCode raw).bytes is.0 fit (numbered_code code good.0.sound),
        All-from_recursion (AllCodes IsCanonicalCode levels) raws
            (zip_all (IsRaw tables levels) (AllGood levels) (AllCodes IsCanonicalCode levels) (all_canonical levels) (children code) raws is.2 (parted_all Good (codes_in levels) (children code) good.1)),
      )

  resolve_all : (levels : ℕ) (codes : List Code) (raws : List RawCode) → AllZip (IsRaw tables levels) codes raws → AllByRecursion (AllGood levels) codes
      → ((c : Code) (r : RawCode) → IsRaw tables levels c r → AllGood levels c → ResolvesCode m (tree_of levels c) r) → ResolveCodes m (trees_from (map (tree_of levels) codes)) raws
  resolve_all levels [] [] zip good step = refl
  resolve_all levels [] (r ∷ rs) zip good step = absurd zip
  resolve_all levels (c ∷ cs) [] zip good step = absurd zip
  resolve_all levels (c ∷ cs) (r ∷ rs) zip good step = (r, rs, refl, step c r zip.0 good.0, resolve_all levels cs rs zip.1 good.1 step)

  pub resolves : (levels : ℕ) (code : Code) (raw : RawCode) → IsRaw tables levels code raw → AllGood levels code → ResolvesCode m (tree_of levels code) raw
  unfolding IsRaw tree_of codes_in
  resolves zero code raw is good = absurd is
  resolves (suc levels) code raw is good = (
    body tables code (out-RawCode raw).bytes is.0 fit (numbered_code code good.0.sound) m qstrs_are good.0.sound objects_are fine good.0.texts good.0.objects lines_law,
    resolve_all levels (children code) (out-RawCode raw).children is.2 (parted_all Good (codes_in levels) (children code) good.1) (resolves levels),
  )
