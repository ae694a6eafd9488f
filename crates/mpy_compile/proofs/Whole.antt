-- The module of a source may be written, no jump of it is too far, and it has a code for each text.
use Rattle.std.proofs.Common.{◌≡◌, ℕ, zero, suc, ◌+◌, ◌<◌, ◌≤◌, Bool, true, false, List, [], ◌∷◌, ◌++◌, length, get_or, refl, sym, ap, subst, ◌∙◌, arith, All}
use Rattle.std.specs.Prelude.{min, nat_lt}
use Rattle.std.specs.List.{list_all, flat_map, AllByRecursion}
use Rattle.std.proofs.lemmas.List.{length-append}
use Rattle.std.proofs.lemmas.List.Elements.{All-from_recursion, recursion_from_All}
use Rattle.std.proofs.lemmas.Bool.{ltb-false}
use Rattle.mpy_base.specs.declared.source.SourceCode.TheVariants.{TooLong, StateTooBig}
use Rattle.mpy_writer.specs.mpy_tree.declared.module.Code.{Code as Made, out-Code}
use Rattle.mpy_writer.specs.mpy_tree.declared.module.ModuleCode.{ModuleCode}
use Rattle.mpy_writer.specs.mpy_tree.Resolved.{Body, IsBodyOf, Tree, node, Trees, no_more, more, IsTreeOf, AreTreesOf}
use Rattle.mpy_writer.specs.Codes.{codes_in, codes}
use Rattle.mpy_writer.specs.bc_labels.Choice.{IsTooFar}
use Rattle.mpy_writer.specs.declared.tables.Tables.{Tables}
use Rattle.mpy_writer.specs.File.{labelled, SomeFar}
use Rattle.mpy_writer.specs.Tables.{TablesFit}
use Rattle.mpy_writer.specs.Writable.{IsSoundCode, IsShallow, IsWritable}
use Rattle.emit_module.specs.py_meaning.Tree.{Name, Function, functions}
use Rattle.emit_module.specs.py_meaning.Program.{Source, Text, module_name, function_texts, source_texts}
use Rattle.emit_module.specs.bc_machine.Library.{Code, size_of, numbers_from, codes_from, codes_of}
use Rattle.emit_module.specs.bc_scheme.Translation.{StandAll}
use Rattle.emit_module.specs.bc_resolved.Verified.{IsVerifiedBody, AreVerifiedIn, AreVerifiedAll, count_of}
use Rattle.emit_module.specs.tr_source.Within as limits
use Rattle.emit_module.specs.emit_measures.Lengths.{text_length}
use Rattle.emit_module.specs.emit_measures.Faults.{is_big_state}
use Rattle.emit_module.specs.First.{Site, source_sites, IsWithin, AllWithin, no_text, one_within, AreWithin}
use Rattle.emit_module.specs.Module.{IsTranslated}
use Rattle.emit_module.proofs.Few.{not_long}
use Rattle.emit_module.specs.tr_source.Spelled.{IsAscii, FunctionsSpelled, TreeSpelled}
use Rattle.mpy_compile.specs.Texts.{text_fits, code_fits, TextsFit}
use Rattle.mpy_compile.proofs.Items.{and_left, and_right, text_is}
use Rattle.mpy_compile.proofs.Codes.{LengthsLaw, BodyFact, code_sound, code_near}
use Rattle.mpy_compile.proofs.Facts.{AllKnown, TreeFacts, TreesFacts, whole_facts, count_is}

-- ---- texts

below : (top wide told : ℕ) → told ≡ min wide top → told ≤ 16000 → 16001 ≤ top → wide ≤ 16000
below top wide told e l h = omega arith

short_text : (site : Site) (text : Text) → IsWithin site text → text_length text.locals text.level text.body ≤ 16000
short_text site text h =
    let short = ltb-false 16000 h.counts.length (not_long (nat_lt 16000 h.counts.length) (is_big_state h.counts) TooLong StateTooBig h.none) in
    below 18446744073709551615 (text_length text.locals text.level text.body) h.counts.length h.are_counts.length short (omega arith)

abbrev pub AllShort : List Text → Type 0
AllShort [] = Unit {0}
AllShort (text ∷ texts) = (text_length text.locals text.level text.body ≤ 16000) × AllShort texts

pub all_short : {sites : List Site} {texts : List Text} → AllWithin sites texts → AllShort texts
all_short no_text = tt
all_short (one_within {site = site} {text = text} h rest) = (short_text site text h, all_short rest)

module_ascii : IsAscii module_name
module_ascii = All-from_recursion (λ byte. byte < 128) module_name (omega arith, (omega arith, (omega arith, (omega arith, (omega arith, (omega arith, (omega arith, (omega arith, tt))))))))

module _ (file : Name) (source : Source) (base : ℕ) where
  functions_known : (fs : List Function) (tables : List (List Name)) → FunctionsSpelled fs → limits.AllWithin (function_texts file source base fs tables) → AllShort (function_texts file source base fs tables) → AllKnown (function_texts file source base fs tables)
  functions_known [] tables s w h = tt
  functions_known (f ∷ fs) [] s w h =
      (record { name = s.0.name; params = s.0.params; given = s.0.defaults; first = s.0.first; last = s.0.last; from_one = s.0.from_one; body = s.0.body; within = w.0; short = h.0 }, functions_known fs [] s.1 w.1 h.1)
  functions_known (f ∷ fs) (locals ∷ tables) s w h =
      (record { name = s.0.name; params = s.0.params; given = s.0.defaults; first = s.0.first; last = s.0.last; from_one = s.0.from_one; body = s.0.body; within = w.0; short = h.0 }, functions_known fs tables s.1 w.1 h.1)

  texts_known : TreeSpelled source.body (functions source.body) → limits.AllWithin (source_texts file source base) → AllShort (source_texts file source base) → AllKnown (source_texts file source base)
  texts_known s w h =
      (record { name = module_ascii; params = tt; given = omega arith; first = 1; last = s.last; from_one = omega arith; body = s.own; within = w.0; short = h.0 }, functions_known (functions source.body) source.locals s.each w.1 h.1)

-- ---- codes

row_count : (trees : Trees) (made : List Made) → AreTreesOf trees made → length made ≡ count_of trees
row_count no_more made h = ap length h
row_count (more tree trees) made h = ap length h.2 ∙ ap suc (row_count trees h.1 h.4)

all_join : {A : Type 0} (P : A → Type 0) (xs ys : List A) → AllByRecursion P xs → AllByRecursion P ys → AllByRecursion P (xs ++ ys)
all_join P [] ys h k = k
all_join P (x ∷ xs) ys h k = (h.0, all_join P xs ys h.1 k)

none_deep : {P : Type 0} (code : Made) → IsShallow zero code → P
unfolding IsShallow
none_deep code h = absurd h

inner_levels : (levels : ℕ) (code : Made) → IsShallow (suc levels) code → All (IsShallow levels) (out-Code code).children
unfolding IsShallow
inner_levels levels code h = h

codes_are : (levels : ℕ) (code : Made) → codes_in (suc levels) code ≡ code ∷ flat_map (codes_in levels) (out-Code code).children
unfolding codes_in
codes_are levels code = refl

-- what holds of a made code by what is known of its body
abbrev EachHas : List Code → (Made → Type 0) → Type 0
EachHas all P =
    (body : Body) (numbers : List ℕ) → BodyFact all body numbers → (count : ℕ) → length numbers ≡ count → IsVerifiedBody count body → (made : Made) → IsBodyOf made body → length (out-Code made).children ≡ count → P made

module _ (all : List Code) (P : Made → Type 0) (step : EachHas all P) where
  mutual
    -- holds of each code
    tree_each : (tree : Tree) (levels number : ℕ) (made : Made) → IsTreeOf tree made → TreeFacts all number tree → AreVerifiedIn tree → IsShallow levels made → AllByRecursion P (codes_in levels made)
    tree_each (node body trees) zero number made is f v s = none_deep made s
    tree_each (node body trees) (suc levels) number made is f v s =
        let inner = (out-Code made).children in
        subst (AllByRecursion P) (sym (codes_are levels made)) (
          step body (numbers_from (suc number) trees) f.0 (count_of trees) (count_is (suc number) trees) v.0 made is.0 (row_count trees inner is.1),
          trees_each trees levels (suc number) inner is.1 f.1 v.1 (recursion_from_All (IsShallow levels) inner (inner_levels levels made s)),
        )

    trees_each : (trees : Trees) (levels number : ℕ) (made : List Made) → AreTreesOf trees made → TreesFacts all number trees → AreVerifiedAll trees → AllByRecursion (IsShallow levels) made → AllByRecursion P (flat_map (codes_in levels) made)
    trees_each no_more levels number made is f v s = subst (λ z. AllByRecursion P (flat_map (codes_in levels) z)) (sym is) tt
    trees_each (more tree trees) levels number made is f v s =
        let shallow : AllByRecursion (IsShallow levels) (is.0 ∷ is.1) = subst (AllByRecursion (IsShallow levels)) is.2 s in
        subst (λ z. AllByRecursion P (flat_map (codes_in levels) z)) (sym is.2)
        (all_join P (codes_in levels is.0) (flat_map (codes_in levels) is.1) (tree_each tree levels number is.0 is.3 f.0 v.0 shallow.0) (trees_each trees levels (number + size_of tree) is.1 is.4 f.1 v.1 shallow.1))

-- of codes whose texts fit
all_fit : (codes_of : List Made) → AllByRecursion (λ made. code_fits made ≡ true → IsSoundCode made) codes_of → list_all code_fits codes_of ≡ true → AllByRecursion IsSoundCode codes_of
all_fit [] h e = tt
all_fit (x ∷ xs) h e = (h.0 (and_left (code_fits x) _ e), all_fit xs h.1 (and_right (code_fits x) _ e))

module _ (law : LengthsLaw) (source : Source) (whole : ModuleCode) (is : IsTranslated source whole) (v : AreVerifiedIn is.resolved.code) (spelled : TreeSpelled source.body (functions source.body)) (w : limits.AllWithin (source_texts source.file source 0))
    (short : AllShort (source_texts source.file source 0)) (shallow : IsShallow 32 whole.code) where
  abbrev all : List Code
  all = codes_from 0 is.resolved.code

  each_code : (P : Made → Type 0) → EachHas all P → AllByRecursion P (codes whole)
  each_code P step =
      let m = is.resolved in
      let facts = whole_facts all m.code (source_texts source.file source 0) (texts_known source.file source 0 spelled w short) is.translates.codes is.translates.states in
      tree_each all P step m.code 32 0 whole.code is.is.code facts v shallow

  pub written : IsAscii source.file → TextsFit whole → IsWritable whole
  written ascii fits =
      let file : whole.source ≡ source.file = sym is.is.source ∙ is.translates.file in
      record {
        source = text_is whole.source (subst IsAscii (sym file) ascii) (and_left (text_fits whole.source) _ fits);
        shallow = shallow;
        sound = All-from_recursion IsSoundCode (codes whole)
            (all_fit (codes whole) (each_code (λ made. code_fits made ≡ true → IsSoundCode made)
            (λ body numbers f count counted verified made of children fit. code_sound law all body numbers f count counted verified made of fit children)) (and_right (text_fits whole.source) _ fits));
      }

  at_place : (P : Made → Type 0) (xs : List Made) (k : ℕ) (x : Made) → AllByRecursion P xs → k < length xs → get_or xs k x ≡ x → P x
  at_place P [] k x h lt e = absurd (omega (arith, lt))
  at_place P (y ∷ ys) zero x h lt e = subst P e h.0
  at_place P (y ∷ ys) (suc k) x h lt e = at_place P ys k x h.1 (omega (arith, lt)) e

  pub near : (tables : Tables) → TablesFit tables → SomeFar tables (codes whole) → ⊥
  near tables fit far =
      let there = far.1 in
      at_place (λ made. IsTooFar (labelled tables made) → ⊥) (codes whole) there.0 far.0
      (each_code (λ made. IsTooFar (labelled tables made) → ⊥) (λ body numbers f count counted verified made of children. code_near law all body numbers f count counted verified tables fit made of)) there.1 there.2 far.2

-- ---- how many codes

mutual
  tree_count : (tree : Tree) (levels number : ℕ) (made : Made) → IsTreeOf tree made → IsShallow levels made → length (codes_in levels made) ≡ length (codes_from number tree)
  tree_count (node body trees) zero number made is s = none_deep made s
  tree_count (node body trees) (suc levels) number made is s =
      let inner = (out-Code made).children in
      ap length (codes_are levels made) ∙ ap suc (trees_count trees levels (suc number) inner is.1 (recursion_from_All (IsShallow levels) inner (inner_levels levels made s)))

  trees_count : (trees : Trees) (levels number : ℕ) (made : List Made) → AreTreesOf trees made → AllByRecursion (IsShallow levels) made → length (flat_map (codes_in levels) made) ≡ length (codes_of number trees)
  trees_count no_more levels number made is s = ap (λ (z : List Made). length (flat_map (codes_in levels) z)) is
  trees_count (more tree trees) levels number made is s =
      let shallow : AllByRecursion (IsShallow levels) (is.0 ∷ is.1) = subst (AllByRecursion (IsShallow levels)) is.2 s in
      let same = ap (λ (z : List Made). length (flat_map (codes_in levels) z)) is.2 in
      let first = tree_count tree levels number is.0 is.3 shallow.0 in
      let rest = trees_count trees levels (number + size_of tree) is.1 is.4 shallow.1 in
      omega (arith, same, first, rest, length-append (codes_in levels is.0) (flat_map (codes_in levels) is.1), length-append (codes_from number tree) (codes_of (number + size_of tree) trees))

within_count : {sites : List Site} {texts : List Text} → AllWithin sites texts → length sites ≡ length texts
within_count no_text = refl
within_count (one_within h rest) = ap suc (within_count rest)

stand_count : (all : List Code) (own : Bool) (texts : List Text) (made : List Code) → StandAll all own texts made → length texts ≡ length made
stand_count all own [] made h = sym (ap length h)
stand_count all own (text ∷ texts) made h = let rest = stand_count all false texts h.1 h.4 in let same = ap length h.2 in omega (arith, rest, same)

-- a module has a code for each text of its source
pub as_many : (source : Source) (whole : ModuleCode) → IsTranslated source whole → AreWithin source → IsShallow 32 whole.code → length (codes whole) ≡ length (source_sites source)
as_many source whole is within shallow =
    let m = is.resolved in
    tree_count m.code 32 0 whole.code is.is.code shallow
    ∙ (sym (stand_count (codes_from 0 m.code) true (source_texts source.file source 0) (codes_from 0 m.code) is.translates.codes) ∙ sym (within_count within))
