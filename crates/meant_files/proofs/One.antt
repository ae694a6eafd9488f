-- Of the sources in a folder there is one program at most.
use Rattle.std.proofs.Common.{◌≡◌, ℕ, List, [], ◌∷◌, ◌++◌, Option, Some, None, codes, refl, sym, ap, ◌∙◌, subst}
use Rattle.std.specs.Prelude.{IsSome}
use Rattle.meant_runs.specs.mpy_io.Files.{FileOf}
use Rattle.frozen_files.specs.pkg_paths.Finds.{NamedFile}
use Rattle.py_source.specs.declared.source.Accepted.{Accepted}
use Rattle.py_source.specs.Source.{IsAccepted}
use Rattle.tr_source.specs.bc_scheme.py_meaning.Tree.{Name}
use Rattle.tr_source.specs.bc_scheme.py_meaning.Program.{Source, Unit, Single, Entry, Runs, entry_in, Program}
use Rattle.tr_source.specs.bc_scheme.py_meaning.Meaning.{source_of}
use Rattle.frozen_files.specs.library_files.Asked.{asked_for}
use Rattle.meant_files.specs.Readings.{IsReading}
use Rattle.meant_files.specs.Imported.{source_imports}
use Rattle.frozen_files.specs.source_files.Sources.{stored}
use Rattle.meant_files.specs.Sources.{HoldsSource, imports_with, with_source, LoadsSources, ends, next, known, taken, IsProgramOfSources}

some_is : {A : Type 0} (a b : A) → Some a ≡ Some b → a ≡ b
some_is a b e = cc

head_is : {A : Type 0} (a b : A) (xs ys : List A) → a ∷ xs ≡ b ∷ ys → a ≡ b
head_is a b xs ys e = cc

tail_is : {A : Type 0} (a b : A) (xs ys : List A) → a ∷ xs ≡ b ∷ ys → xs ≡ ys
tail_is a b xs ys e = cc

none_some : {A : Type 0} (o : Option A) → IsSome o → o ≡ None → ⊥
none_some None some none = absurd cc
none_some (Some a) some none = absurd (let wrong : Some a ≡ None = none in cc)

module _ (one_accepted : (level : ℕ) (source : List ℕ) (a b : Accepted) → IsAccepted level source a → IsAccepted level source b → a ≡ b) where
  one_reading : (level : ℕ) (text name : List ℕ) (a b : Source) → IsReading level text name a → IsReading level text name b → a ≡ b
  one_reading level text name a b h k =
      h.source_is ∙ ap (λ (read : Accepted). source_of name level read.tree) (one_accepted level text h.accepted k.accepted h.is_accepted k.is_accepted) ∙ sym k.source_is

  module _ (files : FileOf) (base : List ℕ) (level : ℕ) where
    one_source : (name : Name) (a b : Option Source) → HoldsSource files base level name a → HoldsSource files base level name b → a ≡ b
    one_source name None None h k = refl
    one_source name None (Some b) h k = let wrong : None ≡ Some k.0 = sym h ∙ k.1 in absurd cc
    one_source name (Some a) None h k = let wrong : None ≡ Some h.0 = sym k ∙ h.1 in absurd cc
    one_source name (Some a) (Some b) h k =
        let same : h.0 ≡ k.0 = some_is h.0 k.0 (sym h.1 ∙ k.1) in
        let reading : IsReading level (k.0.1) (stored (k.0.0)) a = subst (λ (file : NamedFile). IsReading level file.1 (stored file.0) a) same h.2 in
        ap (λ (source : Source). Some source) (one_reading level (k.0.1) (stored (k.0.0)) a b reading k.2)

    -- all entries are these
    abbrev Only : List (Name × Entry) → (together found behind : List Name) → List (Name × Entry) → Type 0
    Only entries together found behind all = (others : List (Name × Entry)) → LoadsSources files base level entries together found behind others → all ≡ others

    only_ends : (entries : List (Name × Entry)) → Only entries [] [] [] entries
    only_ends entries others (ends _) = refl
    only_ends entries others (next _ _ _ name names _ e h) = absurd cc

    only_next : (entries : List (Name × Entry)) (found behind : List Name) (name : Name) (names : List Name) (all : List (Name × Entry)) → found ++ behind ≡ name ∷ names
        → Only entries (asked_for name) [] names all → Only entries [] found behind all
    only_next entries [] [] name names all e more others (ends _) = absurd cc
    only_next entries found behind name names all e more others (next _ _ _ head tail _ f h) =
        let both : head ∷ tail ≡ name ∷ names = sym f ∙ e in
        let by_name : LoadsSources files base level entries (asked_for name) [] tail others =
        subst (λ (n : Name). LoadsSources files base level entries (asked_for n) [] tail others) (head_is head name tail names both) h in
        more others (subst (λ (ns : List Name). LoadsSources files base level entries (asked_for name) [] ns others) (tail_is head name tail names both) by_name)

    only_known : (entries : List (Name × Entry)) (name : Name) (together found behind : List Name) (all : List (Name × Entry)) → IsSome (entry_in entries name)
        → Only entries together found behind all → Only entries (name ∷ together) found behind all
    only_known entries name together found behind all some more others (known _ _ _ _ _ _ again h) = more others h
    only_known entries name together found behind all some more others (taken _ _ _ _ _ source _ none comes h) = absurd (none_some (entry_in entries name) some none)

    only_taken : (entries : List (Name × Entry)) (name : Name) (together found behind : List Name) (source : Option Source) (all : List (Name × Entry)) → entry_in entries name ≡ None
        → HoldsSource files base level name source → Only (with_source entries name source) together (found ++ imports_with source) behind all → Only entries (name ∷ together) found behind all
    only_taken entries name together found behind source all none comes more others (known _ _ _ _ _ _ some h) = absurd (none_some (entry_in entries name) some none)
    only_taken entries name together found behind source all none comes more others (taken _ _ _ _ _ other _ again k h) =
        more others (subst (λ (s : Option Source). LoadsSources files base level (with_source entries name s) together (found ++ imports_with s) behind others) (one_source name other source k comes) h)

    only : (entries : List (Name × Entry)) (together found behind : List Name) (all : List (Name × Entry)) → LoadsSources files base level entries together found behind all → Only entries together found behind all
    only entries [] [] [] all (ends _) = only_ends entries
    only entries [] found behind all (next _ _ _ name names _ e h) = only_next entries found behind name names all e (only entries (asked_for name) [] names all h)
    only entries (name ∷ together) found behind all (known _ _ _ _ _ _ some h) = only_known entries name together found behind all some (only entries together found behind all h)
    only entries (name ∷ together) found behind all (taken _ _ _ _ _ source _ none comes h) =
        only_taken entries name together found behind source all none comes (only (with_source entries name source) together (found ++ imports_with source) behind all h)

    pub one_program : (path : List ℕ) (first second : Program) → IsProgramOfSources files base path level first → IsProgramOfSources files base path level second → first ≡ second
    one_program path first second h k =
        let text : h.text ≡ k.text = some_is h.text k.text (sym h.there ∙ k.there) in
        let main : h.main ≡ k.main =
        one_reading level k.text (stored path) h.main k.main (subst (λ (t : List ℕ). IsReading level t (stored path) h.main) text h.is_reading) k.is_reading in
        let loads : LoadsSources files base level ((codes "__main__", Runs (Single k.main)) ∷ []) [] (source_imports k.main) [] first.entries =
        subst (λ (m : Source). LoadsSources files base level ((codes "__main__", Runs (Single m)) ∷ []) [] (source_imports m) [] first.entries) main h.loads in
        let entries : first.entries ≡ second.entries = only ((codes "__main__", Runs (Single k.main)) ∷ []) [] (source_imports k.main) [] first.entries loads second.entries k.loads in
        let unit : first.main ≡ second.main = h.main_is ∙ ap (λ (m : Source). Single m) main ∙ sym k.main_is in
        let name : first.main_name ≡ second.main_name = h.main_name_is ∙ sym k.main_name_is in
        ap (λ (u : Unit). record { main = u; main_name = first.main_name; entries = first.entries }) unit
        ∙ ap (λ (n : Name). record { main = second.main; main_name = n; entries = first.entries }) name
        ∙ ap (λ (all : List (Name × Entry)). record { main = second.main; main_name = second.main_name; entries = all }) entries
