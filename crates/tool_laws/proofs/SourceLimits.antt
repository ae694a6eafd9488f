-- Sources of few modules, texts and bytes keep the limits of a library.
use Rattle.std.proofs.Common.{◌≡◌, ◌⊎◌, inl, inr, ℕ, suc, ◌+◌, ◌<◌, ◌≤◌, Bool, true, false, ◌||◌, cond, nat_lt, List, [], ◌∷◌, ◌++◌, length, length-append, All, Contains, Option, Some, None, IsSome, if◌then◌else◌, refl, sym, ap, subst, ◌∙◌, arith}
use Rattle.std.specs.Prelude.{⊤, Ok, Err}
use Rattle.std.specs.List.{AllByRecursion, list_any}
use Rattle.std.specs.Str.{bytes_eq}
use Rattle.std.proofs.lemmas.Bool.Decides.{nat_tests}
use Rattle.std.proofs.lemmas.List.Elements.{recursion_from_All}
use Rattle.std.proofs.lemmas.List.Folds.{list_any-append}
use Rattle.mpy_base.specs.declared.limits.TheConstants.{MAX_MODULES, MAX_TABLE}
use Rattle.mpy_io.specs.Files.{FileOf}
use Rattle.mpy_tree.specs.Raw.{Module}
use Rattle.qstr_pool.specs.Pool.{Texts, interned}
use Rattle.qstr_pool.specs.Static.{static_number_of}
use Rattle.bc_library.specs.Shelf.{Named, Shelf, member_of, no_entries, with_module}
use Rattle.bc_library.specs.Texts.{texts_of, with_text, with_texts}
use Rattle.bc_library.proofs.Pools.{with_own, with_static}
use Rattle.py_meaning.specs.Tree.{Name}
use Rattle.py_meaning.specs.Program.{Source, Single}
use Rattle.library_files.specs.declared.entry.Entry.TheVariants as entries
use Rattle.library_files.specs.declared.limit.Limit.{Limit}
use Rattle.library_files.specs.declared.limit.Limit.TheVariants.{Names, TooMany}
use Rattle.library_files.specs.declared.limit.TheConstants.{MAX_LIBRARY_BYTES}
use Rattle.library_files.specs.pkg_paths.Finds.{NamedFile}
use Rattle.library_files.specs.Asked.{asked_for}
use Rattle.library_files.specs.Loads.{Loading, Loaded, Past, Unaccepted, Loads, LoadsBy, ends, next, known, unaccepted, past, taken, has_place, limit_of, limit_within, main_name, with_entry}
use Rattle.source_files.specs.Sources.{ComesToSource, IsModuleOf, stored}
use Rattle.meant_files.specs.Readings.{IsReading}
use Rattle.meant_files.specs.Sources.{source_file}
use Rattle.meant_commands.specs.run_commands.Base.{base_of}
use Rattle.meant_commands.specs.run_commands.Go.{SourceLoadsOf}
use Rattle.tool_laws.specs.AskedFor.{unit_imports}
use Rattle.tool_laws.specs.Faultless.{IsSourceAsked, SourcesKeepLimits, main_asks}
use Rattle.tool_laws.specs.Small.{AreSmall, BringsOnly, all_bytes}
use Rattle.tool_laws.proofs.Loading.{Asks, OfImport, both}
use Rattle.tool_laws.proofs.ManifestNames.{behind_in, front_in, in_cases, none_in}
use Rattle.tool_laws.proofs.Members.{eq_self, has, here, module_grows, no_member, or_true, still}
use Rattle.tool_laws.proofs.SourcesLoad.{Asked, ReadingLaw, asked_by, held_source, imports_asked, module_imports, never_refused_source, other_source}
use Rattle.tool_laws.proofs.UnitImports.{Below}

-- one is taken out of a list
-- ==========================

record Without (xs : List (List ℕ)) (x : List ℕ) : Type 0 where
  rest : List (List ℕ)
  long : length xs ≡ suc (length rest)
  each : (y : List ℕ) → Contains xs y → (y ≡ x) ⊎ Contains rest y
  bytes : (size_of : Name → ℕ) → all_bytes size_of xs ≡ size_of x + all_bytes size_of rest

swapped : (a b all rest : ℕ) → all ≡ b + rest → a + all ≡ b + (a + rest)
swapped a b all rest e = omega (arith, e)

without : (xs : List (List ℕ)) (x : List ℕ) → Contains xs x → Without xs x
without [] x c = absurd (none_in x c)
without (first ∷ xs) x c = by (in_cases first xs x c) (without xs x)
  where
    by : (first ≡ x) ⊎ Contains xs x → (Contains xs x → Without xs x) → Without (first ∷ xs) x
    by (inl same) go = record {
      rest = xs;
      long = refl;
      each = λ y d. elim (in_cases first xs y d) [ inl e ↦ inl (sym e ∙ same) | inr h ↦ inr h ];
      bytes = λ size_of. ap (λ (z : List ℕ). size_of z + all_bytes size_of xs) same;
    }
    by (inr d) go =
        let out = go d in
        record {
          rest = first ∷ out.rest;
          long = ap suc out.long;
          each = λ y f. elim (in_cases first xs y f) [
            | inl e ↦ inr (subst (λ (z : List ℕ). Contains (first ∷ out.rest) z) e (front_in first out.rest))
            | inr h ↦ elim (out.each y h) [ inl same ↦ inl same | inr g ↦ inr (behind_in first out.rest y g) ]
          ];
          bytes = λ size_of. swapped (size_of first) (size_of x) (all_bytes size_of xs) (all_bytes size_of out.rest) (out.bytes size_of);
        }

-- texts
-- =====

module _ (texts : List (List ℕ)) where
  -- each of the texts is in the pool, or one of the spare ones, for which there is room
  record Spare (pool : Texts) : Type 0 where
    spare : List (List ℕ)
    each : (text : List ℕ) → Contains texts text → (list_any (bytes_eq text) pool.texts ≡ true) ⊎ Contains spare text
    few : length pool.texts + length spare ≤ MAX_TABLE

  last_there : (pool : Texts) (text : List ℕ) → list_any (bytes_eq text) (pool.texts ++ text ∷ []) ≡ true
  last_there pool text =
      list_any-append (bytes_eq text) pool.texts (text ∷ [])
      ∙ (ap (λ (b : Bool). list_any (bytes_eq text) pool.texts || (b || false)) (eq_self text) ∙ or_true (list_any (bytes_eq text) pool.texts))

  still_there : (pool : Texts) (text more : List ℕ) → list_any (bytes_eq text) pool.texts ≡ true → list_any (bytes_eq text) (pool.texts ++ more ∷ []) ≡ true
  still_there pool text more e =
      list_any-append (bytes_eq text) pool.texts (more ∷ []) ∙ ap (λ (b : Bool). b || list_any (bytes_eq text) (more ∷ [])) e

  pushed : (pool : Texts) (text : List ℕ) → list_any (bytes_eq text) pool.texts ≡ false → Contains texts text → Spare pool
      → Spare (record { first = pool.first; texts = pool.texts ++ text ∷ [] })
  pushed pool text new among s =
      let there : Contains s.spare text = elim (s.each text among) [ inl was ↦ absurd (let wrong : true ≡ false = sym was ∙ new in cc) | inr c ↦ c ] in
      let out = without s.spare text there in
      let long : length (pool.texts ++ text ∷ []) ≡ length pool.texts + 1 = length-append pool.texts (text ∷ []) in
      let left = out.long in
      let few = s.few in
      record {
        spare = out.rest;
        each = λ other c. elim (s.each other c) [
          | inl was ↦ inl (still_there pool other text was)
          | inr d ↦ elim (out.each other d) [
            | inl same ↦ inl (subst (λ (z : List ℕ). list_any (bytes_eq z) (pool.texts ++ text ∷ []) ≡ true) (sym same) (last_there pool text))
            | inr g ↦ inr g
          ]
        ];
        few = omega (arith, long, left, few);
      }

  interned_spare : (pool : Texts) (text : List ℕ) → Contains texts text → Spare pool → Spare (interned pool text)
  interned_spare pool text among s = by (list_any (bytes_eq text) pool.texts) refl
    where
      by : (b : Bool) → list_any (bytes_eq text) pool.texts ≡ b → Spare (cond b pool (record { first = pool.first; texts = pool.texts ++ text ∷ [] }))
      by true e = s
      by false e = pushed pool text e among s

  used_spare : (pool : Texts) (text : List ℕ) → IsSome (static_number_of text) ⊎ Contains texts text → Spare pool → Spare (with_text pool text)
  used_spare pool text among s = by (static_number_of text) refl among
    where
      by : (o : Option ℕ) → static_number_of text ≡ o → IsSome o ⊎ Contains texts text → Spare (with_text pool text)
      by (Some n) e h = subst Spare (with_static pool text n e) s
      by None e (inl none) = absurd (let wrong : false ≡ true = none in cc)
      by None e (inr c) = subst Spare (with_own pool text e) (interned_spare pool text c s)

  all_spare : (pool : Texts) (used : List (List ℕ)) → AllByRecursion (λ text. IsSome (static_number_of text) ⊎ Contains texts text) used → Spare pool
      → Spare (with_texts pool used)
  all_spare pool [] h s = s
  all_spare pool (text ∷ used) h s = all_spare (with_text pool text) used h.1 (used_spare pool text h.0 s)

-- limits
-- ======

abbrev limit_by : (place long big : Bool) → Option Limit
limit_by place long big = if place then (if long then Some Names else if big then Some TooMany else None) else Some TooMany

is_less : (a b : ℕ) → a < b → nat_lt a b ≡ true
is_less a b less = by (nat_lt a b) refl
  where
    by : (c : Bool) → nat_lt a b ≡ c → nat_lt a b ≡ true
    by true e = e
    by false e = let no : b ≤ a = grind (arith, nat_tests) in absurd (omega (arith, no, less))

not_less : (a b : ℕ) → b ≤ a → nat_lt a b ≡ false
not_less a b more = by (nat_lt a b) refl
  where
    by : (c : Bool) → nat_lt a b ≡ c → nat_lt a b ≡ false
    by false e = e
    by true e = let yes : a < b = grind (arith, nat_tests) in absurd (omega (arith, yes, more))

no_limit : (shelf : Shelf) (size : ℕ) (name : Name) (m : Module) (more : ℕ) → length shelf.modules + length shelf.refused < MAX_MODULES
    → length (with_module shelf name m).pool.texts ≤ MAX_TABLE → size + more ≤ MAX_LIBRARY_BYTES → limit_of shelf size name (entries.Held m more) ≡ None
no_limit shelf size name m more place texts bytes =
    let long = nat_lt MAX_TABLE (length (with_module shelf name m).pool.texts) in
    let big = nat_lt MAX_LIBRARY_BYTES (size + more) in
    ap (λ (b : Bool). limit_by b long big) (is_less (length shelf.modules + length shelf.refused) MAX_MODULES place)
    ∙ (ap (λ (b : Bool). limit_by true b big) (not_less MAX_TABLE (length (with_module shelf name m).pool.texts) texts)
    ∙ ap (λ (b : Bool). limit_by true false b) (not_less MAX_LIBRARY_BYTES (size + more) bytes))

-- no limit is passed
abbrev KeepsEnd : Loading → Type 0
KeepsEnd (Loaded shelf) = ⊤
KeepsEnd (Past limit) = ⊥
KeepsEnd (Unaccepted source) = ⊤

module _ (b : Below) (reads : ReadingLaw) (level : ℕ) (files : FileOf) (base : List ℕ) (main : Source) (names : List Name) (texts : List (List ℕ)) (size_of : Name → ℕ)
    (small : (asked : Name) → IsSourceAsked level files base main asked → (file : NamedFile) → source_file files base asked ≡ Some file
    → (m : Module) (size : ℕ) → IsModuleOf level file.0 file.1 m size → Contains names asked × (size ≤ size_of asked) × BringsOnly texts asked m) where
  -- each of the names is in the library, or one of the others, for which there is room
  record Room (shelf : Shelf) (size : ℕ) : Type 0 where
    others : List Name
    each : (x : Name) → Contains names x → (has shelf x ≡ true) ⊎ Contains others x
    few : length shelf.modules + length shelf.refused + length others ≤ MAX_MODULES
    bytes : size + all_bytes size_of others ≤ MAX_LIBRARY_BYTES
    pool : Spare texts shelf.pool

  -- a further module
  record Further (shelf : Shelf) (size : ℕ) (name : Name) (m : Module) (more : ℕ) : Type 0 where
    unlimited : limit_of shelf size name (entries.Held m more) ≡ None
    room : Room (with_module shelf name m) (size + more)

  further : (shelf : Shelf) (size : ℕ) (name : Name) (m : Module) (more : ℕ) → Room shelf size → member_of shelf name ≡ None
      → Contains names name → more ≤ size_of name → BringsOnly texts name m → Further shelf size name m more
  further shelf size name m more r none among short only =
      let there : Contains r.others name = elim (r.each name among) [ inl was ↦ absurd (no_member shelf name none was) | inr c ↦ c ] in
      let out = without r.others name there in
      let left = out.long in
      let few = r.few in
      let sum = out.bytes size_of in
      let bytes = r.bytes in
      let spare = all_spare texts shelf.pool (texts_of name m) (recursion_from_All _ (texts_of name m) only) r.pool in
      let pool_few = spare.few in
      let many : length (shelf.modules ++ record { name = name; held = m } ∷ []) ≡ length shelf.modules + 1 = length-append shelf.modules (record { name = name; held = m } ∷ []) in
      let grows = module_grows shelf name m in
      record {
        unlimited = no_limit shelf size name m more (omega (arith, left, few)) (omega (arith, pool_few)) (omega (arith, sum, bytes, short));
        room = record {
          others = out.rest;
          each = λ x c. elim (r.each x c) [
            | inl was ↦ inl (still shelf (with_module shelf name m) name x grows was)
            | inr d ↦ elim (out.each x d) [
              | inl same ↦ inl (subst (λ (z : Name). has (with_module shelf name m) z ≡ true) (sym same) (here shelf (with_module shelf name m) name grows))
              | inr g ↦ inr g
            ]
          ];
          few = omega (arith, many, left, few);
          bytes = omega (arith, sum, bytes, short);
          pool = spare;
        };
      }

  -- a source that is asked for
  asked_further : (shelf : Shelf) (size : ℕ) (name : Name) (m : Module) (more : ℕ) → Room shelf size → member_of shelf name ≡ None
      → IsSourceAsked level files base main name → ComesToSource level files base name (Ok (entries.Held m more)) → Further shelf size name m more
  asked_further shelf size name m more r none asked comes =
      let held = held_source b reads level files base name m more comes in
      let is = small name asked held.0 held.1 m more held.2 in
      further shelf size name m more r none is.0 is.1 is.2

  abbrev AskedHere : Name → Type 0
  AskedHere x = Asked b reads level files base main x

  kept_end : (shelf : Shelf) (size : ℕ) (together found behind : List Name) (end : Loading)
      → Loads (ComesToSource level files base) shelf size together found behind end → has shelf main_name ≡ true
      → AllByRecursion AskedHere together → Asks AskedHere found → Asks AskedHere behind → Room shelf size → KeepsEnd end
  kept_end shelf size [] [] [] end (ends _ _) there t f r room = tt
  kept_end shelf size [] found behind end (next _ _ _ _ name names _ e h) there t f r room =
      let left : Asks AskedHere (name ∷ names) = subst (Asks AskedHere) e (both (OfImport AskedHere) found behind f r) in
      kept_end shelf size (asked_for name) [] names end h there left.0 tt left.1 room
  kept_end shelf size (name ∷ together) found behind end (known _ _ _ _ _ _ _ some h) there t f r room =
      kept_end shelf size together found behind end h there t.1 f r room
  kept_end shelf size (name ∷ together) found behind end (unaccepted _ _ _ _ _ _ source none comes) there t f r room = tt
  kept_end shelf size (name ∷ together) found behind end (past _ _ _ _ _ _ entries.Absent limit none comes is) there t f r room =
      let wrong : None ≡ Some limit = is in cc
  kept_end shelf size (name ∷ together) found behind end (past _ _ _ _ _ _ entries.Refused limit none comes is) there t f r room =
      never_refused_source b reads level files base name comes
  kept_end shelf size (name ∷ together) found behind end (past _ _ _ _ _ _ (entries.Held m more) limit none comes is) there t f r room =
      let asked = other_source b reads level files base main shelf name there none t.0 in
      let wrong : None ≡ Some limit = sym (asked_further shelf size name m more room none asked comes).unlimited ∙ is in cc
  kept_end shelf size (name ∷ together) found behind end (taken _ _ _ _ _ _ entries.Absent imports _ none comes within inner h) there t f r room =
      kept_end shelf size together (found ++ imports) behind end h there t.1 (both (OfImport AskedHere) found imports f (subst (Asks AskedHere) (sym inner) tt)) r room
  kept_end shelf size (name ∷ together) found behind end (taken _ _ _ _ _ _ entries.Refused imports _ none comes within inner h) there t f r room =
      absurd (never_refused_source b reads level files base name comes)
  kept_end shelf size (name ∷ together) found behind end (taken _ _ _ _ _ _ (entries.Held m more) imports _ none comes within inner h) there t f r room =
      let asked = other_source b reads level files base main shelf name there none t.0 in
      kept_end (with_module shelf name m) (size + more) together (found ++ imports) behind end h
      (still shelf (with_module shelf name m) name main_name (module_grows shelf name m) there) t.1
      (both (OfImport AskedHere) found imports f (imports_asked b reads level files base main name m more imports asked comes inner)) r
      (asked_further shelf size name m more room none asked comes).room

-- from the main source on
-- =======================

module _ (b : Below) (reads : ReadingLaw) (level : ℕ) (files : FileOf) (name : List ℕ) (are : AreSmall level files name) where
  start : Spare are.texts no_entries.pool
  start = let few = are.few_texts in record { spare = are.texts; each = λ text c. inr c; few = omega (arith, few) }

  pub keep_limits : SourcesKeepLimits level files name
  keep_limits limit h = by (limit_of no_entries 0 main_name (entries.Held h.main h.size)) refl h.loads
    where
      source : List ℕ
      source = h.holds.source

      read : (its : Source) × IsReading level source (stored name) its
      read = reads level source (stored name) h.holds.is.bytes h.holds.is.compiles

      main_is : (h.size + all_bytes are.size_of are.names ≤ MAX_LIBRARY_BYTES) × BringsOnly are.texts main_name h.main
      main_is = are.main source h.main h.size h.holds.holds h.holds.is

      spare : Spare are.texts (with_module no_entries main_name h.main).pool
      spare = all_spare are.texts no_entries.pool (texts_of main_name h.main) (recursion_from_All _ (texts_of main_name h.main) main_is.1) start

      unlimited : limit_of no_entries 0 main_name (entries.Held h.main h.size) ≡ None
      unlimited =
          let few = spare.few in
          let names = are.few_names in
          let bytes = main_is.0 in
          no_limit no_entries 0 main_name h.main h.size (omega (arith, names)) (omega (arith, few)) (omega (arith, bytes))

      first : Shelf
      first = with_module no_entries main_name h.main

      room : Room b reads level files (base_of name) read.0 are.names are.texts are.size_of (are.others source read.0 h.holds.holds read.1) first h.size
      room =
          let names = are.few_names in
          record { others = are.names; each = λ x c. inr c; few = omega (arith, names); bytes = main_is.0; pool = spare }

      by : (o : Option Limit) → limit_of no_entries 0 main_name (entries.Held h.main h.size) ≡ o
          → LoadsBy o (ComesToSource level files (base_of name)) h.main h.size (Past limit) → ⊥
      by (Some other) e k = let wrong : None ≡ Some other = sym unlimited ∙ e in cc
      by None e k =
          let same = module_imports b reads level files (base_of name) name source h.main h.size k.0 read.0 h.holds.is read.1 k.1 in
          kept_end b reads level files (base_of name) read.0 are.names are.texts are.size_of (are.others source read.0 h.holds.holds read.1)
          first h.size [] k.0 [] (Past limit) k.2 (here no_entries first main_name (module_grows no_entries main_name h.main)) tt
          (subst (Asks (Asked b reads level files (base_of name) read.0)) (sym same)
          (asked_by b reads level files (base_of name) read.0 read.0 (λ x a. main_asks x a))) tt room
