-- The place of a name among the files that are held.
use Rattle.std.proofs.Common.{◌≡◌, ◌≢◌, ℕ, zero, suc, ◌<◌, ◌≤◌, nat_lt, position, Bool, true, false, cond, List, [], ◌∷◌, ◌++◌, length, get_or, set, Option, Some, None, String, Vec, string_bytes, bytes_eq, option_map, Bor, refl, sym, ap, subst, ◌∙◌, arith}
use Rattle.std.proofs.lemmas.Slice.Eq.{bytes_eq-Decides}
use Rattle.std.proofs.lemmas.List.{map-set, set-get_or}
use Rattle.std.proofs.lemmas.List.Quantifiers.{position-Some}
use Rattle.std.proofs.lemmas.List.Sums.{fails_before_first}
use Rattle.std.proofs.lemmas.Bool.Decides.{nat_tests}
use Rattle.std.specs.List.{position_or_len}
use Rattle.std.specs.declared.alloc.Global.{Global}
use Rattle.mpy_io.specs.Files.{Sets, appended}
use Rattle.mpy_io.specs.Memory.{file_of, entry_of, entries_of}

abbrev pub Held : Type 0
Held = String Global × Vec ℕ Global

-- the test by which a file is found
abbrev pub is_named : List ℕ → Held → Bool
is_named name file = bytes_eq (string_bytes file.0) name

pub file_of-first : (name : List ℕ) (files : List Held) (i : ℕ) (d : Held) → i < length files → is_named name (get_or files i d) ≡ true → ((k : ℕ) → k < i → is_named name (get_or files k d) ≡ false) → file_of (entries_of files) name ≡ Some (get_or files i d).1.items
file_of-first name [] i d within same before = absurd (omega arith)
file_of-first name (file ∷ files) zero d within same before = rw same refl
file_of-first name (file ∷ files) (suc i) d within same before =
    let other : is_named name file ≡ false = before 0 (omega arith) in
    rw other (file_of-first name files i d (omega arith) same (λ k below. before (suc k) (omega arith)))

pub file_of-none : (name : List ℕ) (files : List Held) → ((k : ℕ) (d : Held) → k < length files → is_named name (get_or files k d) ≡ false) → file_of (entries_of files) name ≡ None
file_of-none name [] fails = refl
file_of-none name (file ∷ files) fails =
    let first : is_named name file ≡ false = fails 0 file (omega arith) in
    rw first (file_of-none name files (λ k d below. fails (suc k) d (omega arith)))

pub file_of-set : (name : List ℕ) (files : List Held) (i : ℕ) (d new : Held) → i < length files → is_named name (get_or files i d) ≡ true → ((k : ℕ) → k < i → is_named name (get_or files k d) ≡ false) → string_bytes new.0 ≡ string_bytes (get_or files i d).0 → file_of (entries_of (set files i new)) name ≡ Some new.1.items
file_of-set name [] i d new within same before named = absurd (omega arith)
file_of-set name (file ∷ files) zero d new within same before named =
    let here : is_named name new ≡ true = ap (λ (bytes : List ℕ). bytes_eq bytes name) named ∙ same in
    rw here refl
file_of-set name (file ∷ files) (suc i) d new within same before named =
    let other : is_named name file ≡ false = before 0 (omega arith) in
    rw other (file_of-set name files i d new (omega arith) same (λ k below. before (suc k) (omega arith)) named)

different : (name other : List ℕ) (file : Held) → is_named name file ≡ true → other ≢ name → is_named other file ≡ false
different name other file same apart =
    let P : Bool → Type 0 = λ b. is_named other file ≡ b → b ≡ false in
    elim (is_named other file) as P [
      | true ↦ λ e. absurd (apart (sym ((bytes_eq-Decides (string_bytes file.0) other).0 e) ∙ (bytes_eq-Decides (string_bytes file.0) name).0 same))
      | false ↦ λ _. refl
    ] refl

file_of-set_other : (name other : List ℕ) (files : List Held) (i : ℕ) (d new : Held) → i < length files → is_named name (get_or files i d) ≡ true → string_bytes new.0 ≡ string_bytes (get_or files i d).0 → other ≢ name → file_of (entries_of (set files i new)) other ≡ file_of (entries_of files) other
file_of-set_other name other [] i d new within same named apart = refl
file_of-set_other name other (file ∷ files) zero d new within same named apart =
    let old : is_named other file ≡ false = different name other file same apart in
    let here : is_named other new ≡ false = ap (λ (bytes : List ℕ). bytes_eq bytes other) named ∙ old in
    rw here (rw old refl)
file_of-set_other name other (file ∷ files) (suc i) d new within same named apart =
    ap (λ (o : Option (List ℕ)). cond (is_named other file) (Some file.1.items) o) (file_of-set_other name other files i d new (omega arith) same named apart)

pub sets_at : (name : List ℕ) (files : List Held) (i : ℕ) (d new : Held) → i < length files → is_named name (get_or files i d) ≡ true → ((k : ℕ) → k < i → is_named name (get_or files k d) ≡ false) → string_bytes new.0 ≡ string_bytes (get_or files i d).0 → Sets (file_of (entries_of files)) (file_of (entries_of (set files i new))) name new.1.items
sets_at name files i d new within same before named = record {
  here = file_of-set name files i d new within same before named;
  others = λ other apart. file_of-set_other name other files i d new within same named apart;
}

file_of-push : (name : List ℕ) (files : List Held) (new : Held) → string_bytes new.0 ≡ name → file_of (entries_of files) name ≡ None → file_of (entries_of (files ++ new ∷ [])) name ≡ Some new.1.items
file_of-push name [] new named absent = rw ((bytes_eq-Decides (string_bytes new.0) name).1 named) refl
file_of-push name (file ∷ files) new named absent =
    let P : Bool → Type 0 = λ b. cond b (Some file.1.items) (file_of (entries_of files) name) ≡ None → cond b (Some file.1.items) (file_of (entries_of (files ++ new ∷ [])) name) ≡ Some new.1.items in
    elim (is_named name file) as P [
      | true ↦ λ none. cc
      | false ↦ λ none. file_of-push name files new named none
    ] absent

file_of-push_other : (name other : List ℕ) (files : List Held) (new : Held) → string_bytes new.0 ≡ name → other ≢ name → file_of (entries_of (files ++ new ∷ [])) other ≡ file_of (entries_of files) other
file_of-push_other name other [] new named apart =
    rw (different name other new ((bytes_eq-Decides (string_bytes new.0) name).1 named) apart) refl
file_of-push_other name other (file ∷ files) new named apart =
    ap (λ (o : Option (List ℕ)). cond (is_named other file) (Some file.1.items) o) (file_of-push_other name other files new named apart)

pub sets_pushed : (name : List ℕ) (files : List Held) (new : Held) → string_bytes new.0 ≡ name → file_of (entries_of files) name ≡ None → Sets (file_of (entries_of files)) (file_of (entries_of (files ++ new ∷ []))) name new.1.items
sets_pushed name files new named absent = record {
  here = file_of-push name files new named absent;
  others = λ other apart. file_of-push_other name other files new named apart;
}

past_end : (p n : ℕ) → cond (nat_lt p n) (Some p) None ≡ None → n ≤ p
past_end p n e = grind (arith, nat_tests)

pub file_of-absent : (name : List ℕ) (files : List Held) → position (is_named name) files ≡ None → file_of (entries_of files) name ≡ None
file_of-absent name files none =
    let past = past_end (position_or_len (is_named name) files) (length files) none in
    file_of-none name files (λ k d below. fails_before_first (is_named name) files k d (omega arith))

pub file_of-found : (name : List ℕ) (files : List Held) (i : ℕ) (d : Held) → position (is_named name) files ≡ Some i → d ≡ get_or files i d → file_of (entries_of files) name ≡ Some d.1.items
file_of-found name files i d found same =
    let place = position-Some (is_named name) files i d found in
    file_of-first name files i d place.0 place.1 place.2 ∙ ap (λ (file : Held). Some file.1.items) (sym same)

pub sets_found : (name bytes : List ℕ) (files : List Held) (i : ℕ) (d new : Held) → position (is_named name) files ≡ Some i → d ≡ get_or files i d → string_bytes new.0 ≡ string_bytes d.0 → new.1.items ≡ bytes → Sets (file_of (entries_of files)) (file_of (entries_of (set files i new))) name bytes
sets_found name bytes files i d new found same named e =
    let place = position-Some (is_named name) files i d found in
    subst (λ (b : List ℕ). Sets (file_of (entries_of files)) (file_of (entries_of (set files i new))) name b) e (sets_at name files i d new place.0 place.1 place.2 (named ∙ ap (λ (file : Held). string_bytes file.0) same))

pub extends_found : (name bytes : List ℕ) (files : List Held) (i : ℕ) (d new : Held) → position (is_named name) files ≡ Some i → d ≡ get_or files i d → string_bytes new.0 ≡ string_bytes d.0 → new.1.items ≡ d.1.items ++ bytes → Sets (file_of (entries_of files)) (file_of (entries_of (set files i new))) name (appended (file_of (entries_of files) name) bytes)
extends_found name bytes files i d new found same named e =
    sets_found name _ files i d new found same named (e ∙ ap (λ (file : Option (List ℕ)). appended file bytes) (sym (file_of-found name files i d found same)))

pub sets_absent : (name bytes : List ℕ) (files later : List Held) (new : Held) → position (is_named name) files ≡ None → later ≡ files ++ new ∷ [] → string_bytes new.0 ≡ name → new.1.items ≡ bytes → Sets (file_of (entries_of files)) (file_of (entries_of later)) name bytes
sets_absent name bytes files later new absent e named same =
    let sets = sets_pushed name files new named (file_of-absent name files absent) in
    let here = subst (λ (b : List ℕ). Sets (file_of (entries_of files)) (file_of (entries_of (files ++ new ∷ []))) name b) same sets in
    subst (λ (all : List Held). Sets (file_of (entries_of files)) (file_of (entries_of all)) name bytes) (sym e) here

pub extends_absent : (name bytes : List ℕ) (files : List Held) (later : List Held) → position (is_named name) files ≡ None → Sets (file_of (entries_of files)) (file_of (entries_of later)) name bytes → Sets (file_of (entries_of files)) (file_of (entries_of later)) name (appended (file_of (entries_of files) name) bytes)
extends_absent name bytes files later absent sets =
    subst (λ (file : Option (List ℕ)). Sets (file_of (entries_of files)) (file_of (entries_of later)) name (appended file bytes)) (sym (file_of-absent name files absent)) sets

pub entries_kept : (files : List Held) (i : ℕ) (d new : Held) → d ≡ get_or files i d → string_bytes new.0 ≡ string_bytes d.0 → new.1.items ≡ d.1.items → entries_of (set files i new) ≡ entries_of files
entries_kept files i d new same named e =
    let entry : entry_of new ≡ entry_of (get_or files i d) = ap (λ (bytes : List ℕ). (bytes, new.1.items)) named ∙ (ap (λ (bytes : List ℕ). (string_bytes d.0, bytes)) e ∙ ap entry_of same) in
    map-set entry_of files i new ∙ (ap (set (entries_of files) i) entry ∙ (sym (map-set entry_of files i (get_or files i d)) ∙ ap entries_of (set-get_or files i d)))

pub got_none : (o : Option (Bor (List ℕ))) (name : List ℕ) (files held : List Held) (entries : List (List ℕ × List ℕ)) → o ≡ None → position (is_named name) files ≡ None → files ≡ held → entries_of held ≡ entries → option_map (λ (bytes : Bor (List ℕ)). bytes.now) o ≡ file_of entries name
got_none o name files held entries none absent same view =
    ap (option_map (λ (bytes : Bor (List ℕ)). bytes.now)) none ∙ (sym (file_of-absent name files absent) ∙ ap (λ (all : List (List ℕ × List ℕ)). file_of all name) (ap entries_of same ∙ view))

pub got_some : (bytes name : List ℕ) (files held : List Held) (i : ℕ) (d : Held) (entries : List (List ℕ × List ℕ)) → position (is_named name) files ≡ Some i → d ≡ get_or held i d → bytes ≡ d.1.items → files ≡ held → entries_of held ≡ entries → Some bytes ≡ file_of entries name
got_some bytes name files held i d entries found at is same view =
    ap (λ (b : List ℕ). Some b) is ∙ (sym (file_of-found name held i d (ap (position (is_named name)) (sym same) ∙ found) at) ∙ ap (λ (all : List (List ℕ × List ℕ)). file_of all name) view)
