-- Loading ends in one way.
use Rattle.std.proofs.Common.{◌≡◌, ℕ, List, [], ◌∷◌, ◌++◌, Option, Some, None, Result, Ok, Err, refl, sym, ap, subst, ◌∙◌}
use Rattle.std.specs.Prelude.{IsSome}
use Rattle.mpy_base.specs.declared.source.SourceFault.{SourceFault}
use Rattle.mpy_io.specs.Files.{FileOf}
use Rattle.mpy_reader.specs.mpy_tree.Raw.{Module}
use Rattle.mpy_reader.specs.mpy_tree.File.{IsFile}
use Rattle.pkg_paths.specs.Finds.{NamedFile, first_there}
use Rattle.pkg_paths.specs.Paths.{candidates}
use Rattle.bc_library.specs.declared.fault.Member.{Member}
use Rattle.bc_library.specs.Shelf.{Shelf, no_entries, with_module, member_of}
use Rattle.library_files.specs.declared.entry.Entry.{Entry}
use Rattle.library_files.specs.declared.entry.Entry.TheVariants as entries
use Rattle.library_files.specs.declared.limit.Limit.{Limit}
use Rattle.library_files.specs.Imports.{Imports}
use Rattle.library_files.specs.declared.limit.UnacceptedSource.{UnacceptedSource}
use Rattle.library_files.specs.Comes.{OfNames, BytesComeTo, ModuleFiles, FileComesTo, ComesTo, ending}
use Rattle.library_files.specs.Asked.{asked_for}
use Rattle.library_files.specs.Loads.{Loading, with_entry, size_with, limit_of, EntryImports, Loads, ends, next, known, unaccepted, past, taken, main_name, LoadsBy, LoadsWith}

not_both : (o : Option Member) → IsSome o → o ≡ None → ⊥
not_both None some none = absurd cc
not_both (Some member) some none = absurd (let wrong : Some member ≡ None = none in cc)

no_limit : (o : Option Limit) (limit : Limit) → o ≡ Some limit → o ≡ None → ⊥
no_limit o limit some none = let wrong : Some limit ≡ None = sym some ∙ none in cc

module _ (Comes : OfNames) (comes_once : (name : List ℕ) (a b : Result Entry UnacceptedSource) → Comes name a → Comes name b → a ≡ b)
    (one_list : (m : Module) (some others : List (List ℕ)) → Imports m some → Imports m others → some ≡ others) where
  entry_once : (name : List ℕ) (a b : Entry) → Comes name (Ok a) → Comes name (Ok b) → a ≡ b
  entry_once name a b h k = let both : Ok a ≡ Ok b = comes_once name (Ok a) (Ok b) h k in cc

  not_refused : (name : List ℕ) (entry : Entry) (source : UnacceptedSource) → Comes name (Ok entry) → Comes name (Err source) → ⊥
  not_refused name entry source h k = let wrong : Ok entry ≡ Err source = comes_once name (Ok entry) (Err source) h k in cc

  imports_once : (entry : Entry) (some others : List (List ℕ)) → EntryImports entry some → EntryImports entry others → some ≡ others
  imports_once entries.Absent some others h k = h ∙ sym k
  imports_once entries.Refused some others h k = h ∙ sym k
  imports_once (entries.Held m size) some others h k = one_list m some others h k

  loads_once : (shelf : Shelf) (size : ℕ) (together found behind : List (List ℕ)) (some other : Loading)
      → Loads Comes shelf size together found behind some → Loads Comes shelf size together found behind other → some ≡ other
  loads_once shelf size [] [] [] some other (ends _ _) (ends _ _) = refl
  loads_once shelf size [] [] [] some other (ends _ _) (next _ _ _ _ name names _ e k) = absurd (let wrong : [] ≡ name ∷ names = e in cc)
  loads_once shelf size [] [] [] some other (next _ _ _ _ name names _ e h) (ends _ _) = absurd (let wrong : [] ≡ name ∷ names = e in cc)
  loads_once shelf size [] found behind some other (next _ _ _ _ name names _ e h) (next _ _ _ _ name' names' _ f k) =
      let same : name ∷ names ≡ name' ∷ names' = sym e ∙ f in
      let heads : name' ≡ name = cc in
      let tails : names' ≡ names = cc in
      loads_once shelf size (asked_for name) [] names some other h
      (subst (λ z. Loads Comes shelf size (asked_for name) [] z other) tails (subst (λ z. Loads Comes shelf size (asked_for z) [] names' other) heads k))
  loads_once shelf size (name ∷ together) found behind some other (known _ _ _ _ _ _ _ there h) (known _ _ _ _ _ _ _ also k) =
      loads_once shelf size together found behind some other h k
  loads_once shelf size (name ∷ together) found behind some other (known _ _ _ _ _ _ _ there h) (past _ _ _ _ _ _ entry limit none comes is) =
      absurd (not_both (member_of shelf name) there none)
  loads_once shelf size (name ∷ together) found behind some other (known _ _ _ _ _ _ _ there h) (taken _ _ _ _ _ _ entry imports _ none comes is inner k) =
      absurd (not_both (member_of shelf name) there none)
  loads_once shelf size (name ∷ together) found behind some other (known _ _ _ _ _ _ _ there h) (unaccepted _ _ _ _ _ _ source none comes) =
      absurd (not_both (member_of shelf name) there none)
  loads_once shelf size (name ∷ together) found behind some other (unaccepted _ _ _ _ _ _ source none comes) (known _ _ _ _ _ _ _ there k) =
      absurd (not_both (member_of shelf name) there none)
  loads_once shelf size (name ∷ together) found behind some other (unaccepted _ _ _ _ _ _ source none comes) (unaccepted _ _ _ _ _ _ source' none' comes') =
      let both : Err source ≡ Err source' = comes_once name (Err source) (Err source') comes comes' in
      cc
  loads_once shelf size (name ∷ together) found behind some other (unaccepted _ _ _ _ _ _ source none comes) (past _ _ _ _ _ _ entry limit none' comes' is) =
      absurd (not_refused name entry source comes' comes)
  loads_once shelf size (name ∷ together) found behind some other (unaccepted _ _ _ _ _ _ source none comes) (taken _ _ _ _ _ _ entry imports _ none' comes' is inner k) =
      absurd (not_refused name entry source comes' comes)
  loads_once shelf size (name ∷ together) found behind some other (past _ _ _ _ _ _ entry limit none comes is) (unaccepted _ _ _ _ _ _ source none' comes') =
      absurd (not_refused name entry source comes comes')
  loads_once shelf size (name ∷ together) found behind some other (taken _ _ _ _ _ _ entry imports _ none comes is inner h) (unaccepted _ _ _ _ _ _ source none' comes') =
      absurd (not_refused name entry source comes comes')
  loads_once shelf size (name ∷ together) found behind some other (past _ _ _ _ _ _ entry limit none comes is) (known _ _ _ _ _ _ _ there k) =
      absurd (not_both (member_of shelf name) there none)
  loads_once shelf size (name ∷ together) found behind some other (past _ _ _ _ _ _ entry limit none comes is) (past _ _ _ _ _ _ entry' limit' none' comes' is') =
      let same : entry ≡ entry' = entry_once name entry entry' comes comes' in
      let limits : Some limit ≡ Some limit' = sym is ∙ (ap (limit_of shelf size name) same ∙ is') in
      cc
  loads_once shelf size (name ∷ together) found behind some other (past _ _ _ _ _ _ entry limit none comes is) (taken _ _ _ _ _ _ entry' imports _ none' comes' is' inner k) =
      let same : entry ≡ entry' = entry_once name entry entry' comes comes' in
      absurd (no_limit (limit_of shelf size name entry') limit (sym (ap (limit_of shelf size name) same) ∙ is) is')
  loads_once shelf size (name ∷ together) found behind some other (taken _ _ _ _ _ _ entry imports _ none comes is inner h) (known _ _ _ _ _ _ _ there k) =
      absurd (not_both (member_of shelf name) there none)
  loads_once shelf size (name ∷ together) found behind some other (taken _ _ _ _ _ _ entry imports _ none comes is inner h) (past _ _ _ _ _ _ entry' limit none' comes' is') =
      let same : entry ≡ entry' = entry_once name entry entry' comes comes' in
      absurd (no_limit (limit_of shelf size name entry') limit is' (sym (ap (limit_of shelf size name) same) ∙ is))
  loads_once shelf size (name ∷ together) found behind some other (taken _ _ _ _ _ _ entry imports _ none comes is inner h) (taken _ _ _ _ _ _ entry' imports' _ none' comes' is' inner' k) =
      let same : entry' ≡ entry = entry_once name entry' entry comes' comes in
      let lists : imports' ≡ imports = imports_once entry imports' imports (subst (λ z. EntryImports z imports') same inner') inner in
      loads_once (with_entry shelf name entry) (size_with size entry) together (found ++ imports) behind some other h
      (subst (λ z. Loads Comes (with_entry shelf name entry) (size_with size entry) together (found ++ z) behind other) lists
      (subst (λ z. Loads Comes (with_entry shelf name z) (size_with size z) together (found ++ imports') behind other) same k))

  by_limit : (limit : Option Limit) (main : Module) (size : ℕ) (some other : Loading) → LoadsBy limit Comes main size some → LoadsBy limit Comes main size other → some ≡ other
  by_limit (Some limit) main size some other h k = h ∙ sym k
  by_limit None main size some other h k =
      let lists : k.0 ≡ h.0 = one_list main k.0 h.0 k.1 h.1 in
      loads_once (with_module no_entries main_name main) size [] h.0 [] some other h.2
      (subst (λ z. Loads Comes (with_module no_entries main_name main) size [] z [] other) lists k.2)

  pub with_once : (main : Module) (size : ℕ) (some other : Loading) → LoadsWith Comes main size some → LoadsWith Comes main size other → some ≡ other
  with_once main size some other h k = by_limit (limit_of no_entries 0 main_name (entries.Held main size)) main size some other h k

-- files of modules
-- ================

module _ (one_module : (bytes : List ℕ) (m n : Module) → IsFile bytes m → IsFile bytes n → m ≡ n) where
  same_bytes : (bytes : List ℕ) (a b : Result Entry SourceFault) → BytesComeTo bytes a → BytesComeTo bytes b → a ≡ b
  same_bytes bytes (Ok (entries.Held m s)) (Ok (entries.Held n t)) h k =
      let modules : m ≡ n = one_module bytes m n h.0.file k.0.file in
      let sizes : s ≡ t = h.1 ∙ sym k.1 in
      cc
  same_bytes bytes (Ok (entries.Held m s)) (Ok entries.Refused) h k = absurd (k m h.0)
  same_bytes bytes (Ok (entries.Held m s)) (Ok entries.Absent) h k = absurd k
  same_bytes bytes (Ok (entries.Held m s)) (Err fault) h k = absurd k
  same_bytes bytes (Ok entries.Refused) (Ok (entries.Held n t)) h k = absurd (h n k.0)
  same_bytes bytes (Ok entries.Refused) (Ok entries.Refused) h k = refl
  same_bytes bytes (Ok entries.Refused) (Ok entries.Absent) h k = absurd k
  same_bytes bytes (Ok entries.Refused) (Err fault) h k = absurd k
  same_bytes bytes (Ok entries.Absent) b h k = absurd h
  same_bytes bytes (Err fault) b h k = absurd h

  ok_once : (file : NamedFile) (a b : Entry) → BytesComeTo file.1 (Ok a) → BytesComeTo file.1 (Ok b) → a ≡ b
  ok_once file a b h k = let both : Ok a ≡ Ok b = same_bytes file.1 (Ok a) (Ok b) h k in cc

  same_answer : (file : Option NamedFile) (a b : Result Entry UnacceptedSource) → FileComesTo ModuleFiles file a → FileComesTo ModuleFiles file b → a ≡ b
  same_answer None (Ok a) (Ok b) h k = ap Ok (h ∙ sym k)
  same_answer None (Ok a) (Err source) h k = absurd k
  same_answer None (Err source) b h k = absurd h
  same_answer (Some file) (Ok a) (Ok b) h k = ap Ok (ok_once file a b h k)
  same_answer (Some file) (Ok a) (Err source) h k = absurd k.1
  same_answer (Some file) (Err source) b h k = absurd h.1

  pub comes_once : (files : FileOf) (base name : List ℕ) (a b : Result Entry UnacceptedSource) → ComesTo files base name a → ComesTo files base name b → a ≡ b
  comes_once files base name a b h k = same_answer (first_there files (candidates base name ending)) a b h k
