-- The modules of a library once more, and others behind them.
use Rattle.std.proofs.Common.{◌≡◌, ℕ, zero, suc, ◌+◌, ◌<◌, ◌≤◌, List, [], ◌∷◌, ◌++◌, length, length-append, get_or, take, map, All, Option, Some, None, refl, sym, ap, ap₂, subst, ◌∙◌, append_assoc, arith}
use Rattle.std.specs.Prelude.{Contains, option_and_then, slice_get}
use Rattle.std.specs.List.{flat_map}
use Rattle.std.proofs.lemmas.Grind.{flat_map-append}
use Rattle.std.proofs.lemmas.List.{append-nil, length-map, map-append, take_more}
use Rattle.std.proofs.lemmas.List.Elements.{All-append, All-push}
use Rattle.std.proofs.lemmas.Option.{slice_get_within, get_or_from_slice_get}
use Rattle.mpy_base.specs.declared.limits.TheConstants.{MAX_MODULES, MAX_TABLE}
use Rattle.image_grammar.specs.mpy_tree.Raw.{Module}
use Rattle.qstr_pool.specs.Pool.{Texts}
use Rattle.image_grammar.specs.bc_library.Shelf.{Named, Shelf, module_at, names, no_entries}
use Rattle.image_grammar.specs.bc_library.Texts.{IsPlain, texts_of, with_texts}
use Rattle.image_grammar.specs.declared.entry.Entry.{Entry}
use Rattle.image_grammar.specs.Image.{Differ, texts_used}
use Rattle.image_grammar.specs.Opening.{names_of}
use Rattle.image_grammar.specs.Base.{IsOpened}
use Rattle.image_open.specs.Opens.{named, shelf_of, with_entries}
use Rattle.image_open.proofs.Base.{texts_in, used_is, with_more}

-- one module after another
-- ========================

pub record Copied (modules : List Named) (i : ℕ) (entries : List Entry) : Type 0 where
  pub same : map named entries ≡ take i modules
  pub plain : All (λ (e : Entry). IsPlain e.name) entries

pub next_copied : (modules : List Named) (i : ℕ) (entries new : List Entry) (e : Entry) → new ≡ entries ++ e ∷ [] → slice_get modules i ≡ Some (named e) → IsPlain e.name → Copied modules i entries → Copied modules (i + 1) new
next_copied modules i entries new e is at plain c =
    let lt = slice_get_within modules i (named e) at in
    let there : get_or modules i (named e) ≡ named e = get_or_from_slice_get modules i (named e) (named e) at in
    let more : take (i + 1) modules ≡ take i modules ++ named e ∷ [] = take_more modules i (named e) lt ∙ ap (λ (z : Named). take i modules ++ z ∷ []) there in
    record {
      same = ap (map named) is ∙ (map-append named entries (e ∷ []) ∙ (ap (λ (z : List Named). z ++ named e ∷ []) c.same ∙ sym more));
      plain = subst (All (λ (z : Entry). IsPlain z.name)) (sym is) (All-push (λ (z : Entry). IsPlain z.name) entries e c.plain plain);
    }

-- a module and its name
entry_by : (o : Option Named) (name : List ℕ) (m : Module) → Some m ≡ option_and_then (λ (n : Named). Some n.held) o → Some name ≡ option_and_then (λ (n : Named). Some n.name) o → o ≡ Some (record { name = name; held = m })
entry_by None name m e f = absurd cc
entry_by (Some n) name m e f =
    let held : n.held ≡ m = cc in
    let given : n.name ≡ name = cc in
    ap₂ (λ (x : List ℕ) (y : Module). Some (record { name = x; held = y })) given held

pub module_there : (shelf : Shelf) (i : ℕ) (name : List ℕ) (m : Module) (e : Entry) → Some m ≡ module_at shelf i → Some name ≡ option_and_then (λ (n : Named). Some n.name) (slice_get shelf.modules i) → e ≡ record { name = name; held = m } → slice_get shelf.modules i ≡ Some (named e)
module_there shelf i name m e held given is = entry_by (slice_get shelf.modules i) name m held given ∙ sym (ap (λ (z : Entry). Some (named z)) is)

-- behind others
-- =============

pub next_appended : (start more rest others : List Entry) (now new : List Entry) (e : Entry) → rest ≡ e ∷ others → new ≡ now ++ e ∷ [] → now ++ rest ≡ start ++ more → new ++ others ≡ start ++ more
next_appended start more rest others now new e is push so_far =
    ap (λ (z : List Entry). z ++ others) push ∙ (append_assoc now (e ∷ []) others ∙ (ap (λ (z : List Entry). now ++ z) (sym is) ∙ so_far))

-- names that differ
-- =================

pub differ_join : (before xs ys : List (List ℕ)) → Differ before xs → Differ (before ++ xs) ys → Differ before (xs ++ ys)
differ_join before [] ys d more = subst (λ (z : List (List ℕ)). Differ z ys) (append-nil before) more
differ_join before (x ∷ xs) ys d more = (d.0, differ_join (before ++ x ∷ []) xs ys d.1 (subst (λ (z : List (List ℕ)). Differ z ys) (sym (append_assoc before (x ∷ []) xs)) more))

-- each name has one place
abbrev pub HaveOnePlace : List Named → Type 0
HaveOnePlace modules = (i k : ℕ) (a b : Named) → slice_get modules i ≡ Some a → slice_get modules k ≡ Some b → a.name ≡ b.name → i ≡ k

named_at : (modules : List Named) (i : ℕ) (name : List ℕ) → i < length (map (λ (n : Named). n.name) modules) → get_or (map (λ (n : Named). n.name) modules) i name ≡ name → (n : Named) × (slice_get modules i ≡ Some n) × (n.name ≡ name)
named_at [] i name lt is = absurd (omega (arith, lt))
named_at (m ∷ ms) zero name lt is = (m, refl, is)
named_at (m ∷ ms) (suc i) name lt is = named_at ms i name (omega (arith, lt)) is

in_front : (before ms : List Named) (i : ℕ) (n : Named) → slice_get before i ≡ Some n → slice_get (before ++ ms) i ≡ Some n
in_front [] ms i n e = absurd cc
in_front (x ∷ xs) ms zero n e = e
in_front (x ∷ xs) ms (suc i) n e = in_front xs ms i n e

middle : (before ms : List Named) (m : Named) → slice_get (before ++ m ∷ ms) (length before) ≡ Some m
middle [] ms m = refl
middle (x ∷ xs) ms m = middle xs ms m

differ_from : (before ms : List Named) → HaveOnePlace (before ++ ms) → Differ (map (λ (n : Named). n.name) before) (map (λ (n : Named). n.name) ms)
differ_from before [] one = tt
differ_from before (m ∷ ms) one =
    let new : Contains (map (λ (n : Named). n.name) before) m.name → ⊥ = λ has.
    let at = named_at before has.0 m.name has.1 has.2 in
    let within = slice_get_within before has.0 at.0 at.1 in
    let same = one has.0 (length before) at.0 m (in_front before (m ∷ ms) has.0 at.0 at.1) (middle before ms m) at.2 in
    omega (arith, within, same) in
    let together : (before ++ m ∷ []) ++ ms ≡ before ++ m ∷ ms = append_assoc before (m ∷ []) ms in
    let names_are : map (λ (n : Named). n.name) (before ++ m ∷ []) ≡ map (λ (n : Named). n.name) before ++ m.name ∷ [] = map-append (λ (n : Named). n.name) before (m ∷ []) in
    (new, subst (λ (z : List (List ℕ)). Differ z (map (λ (n : Named). n.name) ms)) names_are (differ_from (before ++ m ∷ []) ms (subst HaveOnePlace (sym together) one)))

pub names_differ : (shelf : Shelf) → HaveOnePlace shelf.modules → Differ [] (names shelf)
names_differ shelf one = differ_from [] shelf.modules one

-- copies of the modules below, and the entries behind them
-- ========================================================

copied_names : (copies : List Entry) (modules : List Named) → map named copies ≡ modules → names_of copies ≡ map (λ (n : Named). n.name) modules
copied_names copies modules same = by copies ∙ ap (map (λ (n : Named). n.name)) same
  where
    by : (es : List Entry) → names_of es ≡ map (λ (n : Named). n.name) (map named es)
    by [] = refl
    by (e ∷ es) = ap (λ (z : List (List ℕ)). e.name ∷ z) (by es)

module _ (below : Shelf) (copies entries all : List Entry) (same : map named copies ≡ below.modules) (is : all ≡ copies ++ entries) where
  pub all_differ : HaveOnePlace below.modules → Differ (names below) (names_of entries) → Differ [] (names_of all)
  all_differ one d =
      let names_are : names_of all ≡ names below ++ names_of entries = ap names_of is ∙ (map-append (λ (e : Entry). e.name) copies entries ∙ ap (λ (z : List (List ℕ)). z ++ names_of entries) (copied_names copies below.modules same)) in
      subst (Differ []) (sym names_are) (differ_join [] (names below) (names_of entries) (names_differ below one) d)

  pub all_few : length (names below) + length entries ≤ MAX_MODULES → length all ≤ MAX_MODULES
  all_few few =
      let count : length copies ≡ length (names below) = sym (length-map copies named) ∙ (ap length same ∙ sym (length-map below.modules (λ (n : Named). n.name))) in
      omega (arith, few, count, ap length is ∙ length-append copies entries)

  pub all_named : map named all ≡ below.modules ++ map named entries
  all_named = ap (map named) is ∙ (map-append named copies entries ∙ ap (λ (z : List Named). z ++ map named entries) same)

  pub all_used : IsOpened below → with_texts no_entries.pool (texts_used all) ≡ with_texts below.pool (texts_used entries)
  all_used opened =
      ap (with_texts no_entries.pool) (sym (used_is all)) ∙ (ap (λ (z : List Named). with_texts no_entries.pool (texts_in z)) all_named
      ∙ (with_more below.modules entries ∙ ap (λ (z : Texts). with_texts z (texts_used entries)) (sym opened.first_use)))

  pub all_fit : IsOpened below → length (with_entries below entries).pool.texts ≤ MAX_TABLE → length (with_texts no_entries.pool (texts_used all)).texts ≤ MAX_TABLE
  all_fit opened fit = omega (arith, fit, ap (λ (z : Texts). length z.texts) (all_used opened))

  pub all_plain : All (λ (e : Entry). IsPlain e.name) copies → All (λ (e : Entry). IsPlain e.name) entries → All (λ (e : Entry). IsPlain e.name) all
  all_plain first others = subst (All (λ (e : Entry). IsPlain e.name)) (sym is) (All-append (λ (e : Entry). IsPlain e.name) copies entries first others)

  pub shelf_is : IsOpened below → shelf_of all ≡ with_entries below entries
  shelf_is opened =
      ap₂ (λ (ms : List Named) (pool : Texts). record { modules = ms; refused = []; pool = pool }) all_named (all_used opened)
      ∙ ap (λ (rs : List (List ℕ)). record { modules = below.modules ++ map named entries; refused = rs; pool = with_texts below.pool (texts_used entries) }) (sym opened.alone)
