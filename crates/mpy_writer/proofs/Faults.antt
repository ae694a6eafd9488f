-- A module has one file at most, or one first fault.
use Rattle.std.proofs.Common.{◌≡◌, ◌⊎◌, ℕ, zero, suc, get_or, All, ◌<◌, ◌≤◌, List, [], ◌∷◌, ◌++◌, length, map, Result, Ok, Err, refl, sym, ap, ap₂, subst, ◌∙◌, inl, inr, arith}
use Rattle.std.specs.Prelude.{Contains}
use Rattle.std.specs.List.{flat_map, AllZip, AllByRecursion}
use Rattle.std.proofs.lemmas.List.Elements.{recursion_from_All}
use Rattle.mpy_base.specs.declared.refused.Refused.{Refused}
use Rattle.mpy_base.specs.declared.refused.Refused.TheVariants as refusals
use Rattle.mpy_base.specs.declared.limits.TheConstants.{MAX_CODE_BYTES, MAX_FILE_BYTES}
use Rattle.mpy_tree.specs.qstr_pool.Pool.{Texts}
use Rattle.bc_labels.specs.Choice.{instrs_of, laid_out}
use Rattle.bc_labels.proofs.Fewest.{one_choice, never_both}
use Rattle.mpy_tree.specs.FirstUse.{FirstUsed}
use Rattle.mpy_tree.specs.declared.module.Code.{Code, out-Code}
use Rattle.mpy_tree.specs.declared.module.ModuleCode.{ModuleCode}
use Rattle.mpy_writer.specs.declared.layout.Layout.{Layout}
use Rattle.mpy_writer.specs.declared.tables.Tables.{Tables}
use Rattle.mpy_writer.specs.declared.fault.WriteFault.{WriteFault}
use Rattle.mpy_writer.specs.declared.fault.WriteFault.TheVariants.{TooManyNames, TooFar, TooBig}
use Rattle.mpy_writer.specs.Codes.{codes}
use Rattle.mpy_writer.specs.Tables.{IsTable, AreTables, TablesFit, spelled}
use Rattle.mpy_writer.specs.File.{labelled, indexes_of, signature_of, lines_of, own_bytes, IsOwn, IsWritten, front_bytes, heads, SomeFar, SomeBig, HasManyNames, HasFarJump, HasBigCode, IsBigFile, FirstFault}
use Rattle.mpy_writer.specs.Layouts.{IsLaidOut}
use Rattle.mpy_writer.specs.Ends.{IsFile, Ends}
use Rattle.mpy_writer.specs.Outcome.{FaultIs, no_texts, all_interned, PassesTable}
use Rattle.mpy_writer.specs.Codes as used
use Rattle.mpy_writer.proofs.Steps.{failed}
use Rattle.mpy_writer.proofs.Uses.{one_table, made}
use Rattle.mpy_tree.specs.bc_prelude.Names as names

same_table : (used : List (List ℕ)) (a b : Texts) → IsTable used a → IsTable used b → a ≡ b
same_table used a b h k = ap₂ (λ (n : ℕ) (ts : List (List ℕ)). record { first = n; texts = ts }) (h.first ∙ sym k.first) (one_table [] used a.texts b.texts h.texts k.texts)

pub same_tables : (m : ModuleCode) (a b : Tables) → AreTables m a → AreTables m b → a ≡ b
same_tables m a b h k = ap₂ (λ (t o : Texts). record { texts = t; objects = o }) (same_table _ a.texts b.texts h.texts k.texts) (same_table _ a.objects b.objects h.objects k.objects)

pub same_own : (tables : Tables) (code : Code) (a b : List ℕ) → IsOwn tables code a → IsOwn tables code b → a ≡ b
same_own tables code a b h k =
    let items = labelled tables code in
    let widths = one_choice items h.layout.widths k.layout.widths h.layout.fewest k.layout.fewest in
    let bytes : h.instructions ≡ k.instructions = h.layout.bytes_are ∙ (ap (laid_out items) widths ∙ sym k.layout.bytes_are) in
    h.own_is ∙ (ap₂ (λ w (z : List ℕ). own_bytes (signature_of code) (names.spelling (indexes_of tables code)) (lines_of (instrs_of items w) (out-Code code).lines) z) widths bytes ∙ sym k.own_is)

same_zip : {A B : Type 0} (R : A → B → Type 0) → ((x : A) (y z : B) → R x y → R x z → y ≡ z) → (xs : List A) (ys zs : List B) → AllZip R xs ys → AllZip R xs zs → ys ≡ zs
same_zip R one [] [] [] h k = refl
same_zip R one [] (y ∷ ys) zs h k = absurd h
same_zip R one [] [] (z ∷ zs) h k = absurd k
same_zip R one (x ∷ xs) [] zs h k = absurd h
same_zip R one (x ∷ xs) (y ∷ ys) [] h k = absurd k
same_zip {B = B} R one (x ∷ xs) (y ∷ ys) (z ∷ zs) h k = ap₂ (λ (v : B) (vs : List B). v ∷ vs) (one x y z h.0 k.0) (same_zip R one xs ys zs h.1 k.1)

pub one_file : (m : ModuleCode) (a b : List ℕ) → IsWritten m a → IsWritten m b → a ≡ b
one_file m a b h k =
    let tables = same_tables m h.tables k.tables h.are_tables k.are_tables in
    let owns = same_zip (IsOwn k.tables) (same_own k.tables) (codes m) h.owns k.owns (subst (λ (t : Tables). AllZip (IsOwn t) (codes m) h.owns) tables h.are_own) k.are_own in
    h.bytes_are ∙ (ap₂ (λ (t : Tables) (os : List (List ℕ)). front_bytes t ++ heads (codes m) os) tables owns ∙ sym k.bytes_are)

-- what stands beside an element
zip_at : {A B : Type 0} (R : A → B → Type 0) (P : B → Type 0) (xs : List A) (ys : List B) (k : ℕ) (x : A) → AllZip R xs ys → AllByRecursion P ys → k < length xs → (y : B) × R (get_or xs k x) y × P y
zip_at R P [] ys k x zip all lt = absurd (omega (arith, lt))
zip_at R P (a ∷ xs) [] k x zip all lt = absurd zip
zip_at R P (a ∷ xs) (b ∷ ys) zero x zip all lt = (b, zip.0, all.0)
zip_at R P (a ∷ xs) (b ∷ ys) (suc k) x zip all lt = zip_at R P xs ys k x zip.1 all.1 (omega (arith, lt))

beside : {A B : Type 0} (R : A → B → Type 0) (P : B → Type 0) (xs : List A) (ys : List B) (x : A) → AllZip R xs ys → AllByRecursion P ys → Contains xs x → (y : B) × R x y × P y
beside {B = B} R P xs ys x zip all there =
    let at = zip_at R P xs ys there.0 x zip all there.1 in
    (at.0, subst (λ z. R z at.0) there.2 at.1, at.2)

anything : {B : Type 0} (ys : List B) → AllByRecursion (λ _. Unit {0}) ys
anything [] = tt
anything (y ∷ ys) = (tt, anything ys)

-- the tables of a module
pub table_made : (used : List (List ℕ)) → IsTable used (all_interned no_texts used)
table_made used =
    let m = made no_texts used in
    let texts : (all_interned no_texts used).texts ≡ m.0 = ap (λ (t : Texts). t.texts) m.2 in
    record { first = ap (λ (t : Texts). t.first) m.2; texts = subst (FirstUsed [] used) (sym texts) m.1 }

pub tables_made : (m : ModuleCode) (tables : Tables) → tables.texts ≡ all_interned no_texts (used.texts_used m) → tables.objects ≡ all_interned no_texts (map spelled (used.objects_used m)) → AreTables m tables
tables_made m tables texts objects = record {
  texts = subst (IsTable (used.texts_used m)) (sym texts) (table_made (used.texts_used m));
  objects = subst (IsTable (map spelled (used.objects_used m))) (sym objects) (table_made (map spelled (used.objects_used m)));
}

abbrev pub all_used : ModuleCode → Tables
all_used m = record { texts = all_interned no_texts (used.texts_used m); objects = all_interned no_texts (map spelled (used.objects_used m)) }

pub many_names : (m : ModuleCode) (f : WriteFault) → PassesTable no_texts (used.texts_used m) f ⊎ PassesTable no_texts (map spelled (used.objects_used m)) f → FirstFault m f
many_names m f (inl h) =
    let many : HasManyNames m = record { tables = all_used m; are_tables = tables_made m (all_used m) refl refl; many = inl h.1 } in
    subst (FirstFault m) (sym h.0) many
many_names m f (inr h) =
    let many : HasManyNames m = record { tables = all_used m; are_tables = tables_made m (all_used m) refl refl; many = inr h.1 } in
    subst (FirstFault m) (sym h.0) many

-- a module whose tables fit, whose codes are laid out
pub not_many : (m : ModuleCode) (tables : Tables) → AreTables m tables → TablesFit tables → HasManyNames m → ⊥
not_many m tables are fit many =
    let same = same_tables m many.tables tables many.are_tables are in
    let few_texts = fit.texts.few in
    let few_objects = fit.objects.few in
    elim many.many [
      | inl past ↦ omega (arith, past, few_texts, ap (λ (t : Tables). length t.texts.texts) same)
      | inr past ↦ omega (arith, past, few_objects, ap (λ (t : Tables). length t.objects.texts) same)
    ]

pub not_far : (m : ModuleCode) (tables : Tables) (layouts : List Layout) → AreTables m tables → AllZip (λ code layout. IsLaidOut (labelled tables code) layout) (codes m) layouts → HasFarJump m → ⊥
not_far m tables layouts are zip jump =
    let same = same_tables m jump.tables tables jump.are_tables are in
    let far = subst (λ (t : Tables). SomeFar t (codes m)) same jump.far in
    let at = beside (λ code layout. IsLaidOut (labelled tables code) layout) (λ _. Unit {0}) (codes m) layouts far.0 zip (anything layouts) far.1 in
    never_both (labelled tables far.0) at.0.bytes.items at.1.bytes far.2

pub far_jump : (m : ModuleCode) (tables : Tables) (f : WriteFault) → AreTables m tables → TablesFit tables → (f ≡ TooFar) × SomeFar tables (codes m) → FirstFault m f
far_jump m tables f are fit h =
    let far : HasFarJump m = record { tables = tables; are_tables = are; far = h.1 } in
    subst (FirstFault m) (sym h.0) (not_many m tables are fit, far)

pub big_code : (m : ModuleCode) (tables : Tables) (layouts : List Layout) (f : WriteFault) → AreTables m tables → TablesFit tables → AllZip (λ code layout. IsLaidOut (labelled tables code) layout) (codes m) layouts
    → (f ≡ TooBig) × SomeBig tables (codes m) → FirstFault m f
big_code m tables layouts f are fit zip h =
    let big : HasBigCode m = record { tables = tables; are_tables = are; big = h.1 } in
    subst (FirstFault m) (sym h.0) (not_many m tables are fit, not_far m tables layouts are zip, inl big)

pub big_file : (m : ModuleCode) (tables : Tables) (layouts : List Layout) (bytes : List ℕ) → AreTables m tables → TablesFit tables → AllZip (λ code layout. IsLaidOut (labelled tables code) layout) (codes m) layouts
    → IsWritten m bytes → MAX_FILE_BYTES < length bytes → FirstFault m TooBig
big_file m tables layouts bytes are fit zip written past =
    let big : IsBigFile m = record { bytes = bytes; is_written = written; big = past } in
    (not_many m tables are fit, not_far m tables layouts are zip, inr big)

-- one fault, and never a file
pub one_fault : (m : ModuleCode) (f g : WriteFault) → FirstFault m f → FirstFault m g → f ≡ g
one_fault m TooManyNames TooManyNames h k = refl
one_fault m TooManyNames TooFar h k = absurd (k.0 h)
one_fault m TooManyNames TooBig h k = absurd (k.0 h)
one_fault m TooFar TooManyNames h k = absurd (h.0 k)
one_fault m TooFar TooFar h k = refl
one_fault m TooFar TooBig h k = absurd (k.1 h.1)
one_fault m TooBig TooManyNames h k = absurd (h.0 k)
one_fault m TooBig TooFar h k = absurd (h.1 k.1)
one_fault m TooBig TooBig h k = refl

has_layout : (m : ModuleCode) (bytes : List ℕ) → IsFile m bytes → HasFarJump m → ⊥
has_layout m bytes file jump =
    let written = file.written in
    let same = same_tables m jump.tables written.tables jump.are_tables written.are_tables in
    let far = subst (λ (t : Tables). SomeFar t (codes m)) same jump.far in
    let at = beside (IsOwn written.tables) (λ _. Unit {0}) (codes m) written.owns far.0 written.are_own (anything written.owns) far.1 in
    never_both (labelled written.tables far.0) at.1.instructions at.1.layout far.2

is_short : (m : ModuleCode) (bytes : List ℕ) → IsFile m bytes → HasBigCode m → ⊥
is_short m bytes file code =
    let written = file.written in
    let same = same_tables m code.tables written.tables code.are_tables written.are_tables in
    let big = subst (λ (t : Tables). SomeBig t (codes m)) same code.big in
    let short = recursion_from_All (λ (own : List ℕ). length own ≤ MAX_CODE_BYTES) written.owns file.short_codes in
    let at = beside (IsOwn written.tables) (λ own. length own ≤ MAX_CODE_BYTES) (codes m) written.owns big.0 written.are_own short big.1 in
    let own = same_own written.tables big.0 big.2.0 at.0 big.2.1 at.1 in
    let past = big.2.2 in
    let few = at.2 in
    omega (arith, past, few, ap length own)

pub never : (m : ModuleCode) (bytes : List ℕ) (f : WriteFault) → IsFile m bytes → FirstFault m f → ⊥
never m bytes TooManyNames file h = not_many m file.written.tables file.written.are_tables file.fit h
never m bytes TooFar file h = has_layout m bytes file h.1
never m bytes TooBig file h =
    elim h.2 [
      | inl code ↦ is_short m bytes file code
      | inr big ↦
          let same = one_file m big.bytes bytes big.is_written file.written in
          let past = big.big in
          let few = file.short in
          omega (arith, past, few, ap length same)
    ]

-- so a call that ends as it should answers each first fault
pub answered : {A : Type 0} (m : ModuleCode) (bytes_of : A → List ℕ) (r : Result A (Refused WriteFault)) → Ends m bytes_of r → (f : WriteFault) → FirstFault m f → (r ≡ Err (refusals.Fault f)) ⊎ (r ≡ Err refusals.NoMemory)
answered m bytes_of (Ok x) ends f h = absurd (never m (bytes_of x) f ends h)
answered m bytes_of (Err refusals.NoMemory) ends f h = inr refl
answered {A} m bytes_of (Err (refusals.Fault g)) ends f h =
    let failed = λ (z : WriteFault). let r : Result A (Refused WriteFault) = Err (refusals.Fault z) in r in
    inl (ap failed (one_fault m g f ends h))

-- the exits of the whole
ends_by : {A : Type 0} (m : ModuleCode) (bytes_of : A → List ℕ) (e : Refused WriteFault) → FaultIs e (FirstFault m) → Ends {A = A} m bytes_of (Err e)
ends_by m bytes_of (refusals.Fault f) h = h
ends_by m bytes_of refusals.NoMemory h = tt

exit_ends : {A : Type 0} (m : ModuleCode) (bytes_of : A → List ℕ) (P : WriteFault → Type 0) (r : Result A (Refused WriteFault)) (y e : Refused WriteFault) → r ≡ Err y → y ≡ e → FaultIs e P → ((f : WriteFault) → P f → FirstFault m f) → Ends m bytes_of r
exit_ends {A} m bytes_of P r y e is same h more =
    let made : Result A (Refused WriteFault) = Err e in
    let whole : r ≡ made = is ∙ ap (λ z. Err z) same in
    let F : Result A (Refused WriteFault) → Type 0 = λ z. Ends m bytes_of z in
    subst F (sym whole) (ends_by m bytes_of e (failed P (FirstFault m) e h more))

pub codes_are : {B : Type 0} (see : B → Code) (start new view : List B) (cs : List Code) → map see new ≡ map see start ++ cs → start ≡ [] → view ≡ new → map see view ≡ cs
codes_are see start new view cs e none same = ap (map see) same ∙ (e ∙ ap (λ bs. map see bs ++ cs) none)

pub tables_fault : {A : Type 0} (m : ModuleCode) (bytes_of : A → List ℕ) (cs : List Code) (r : Result A (Refused WriteFault)) (y e : Refused WriteFault) → cs ≡ codes m → r ≡ Err y → y ≡ e
    → FaultIs e (λ f. PassesTable no_texts (m.source ∷ flat_map used.texts_in cs) f ⊎ PassesTable no_texts (map spelled (flat_map used.objects_in cs)) f) → Ends m bytes_of r
tables_fault m bytes_of cs r y e are is same h =
    let P = λ (ds : List Code) (f : WriteFault). PassesTable no_texts (m.source ∷ flat_map used.texts_in ds) f ⊎ PassesTable no_texts (map spelled (flat_map used.objects_in ds)) f in
    exit_ends m bytes_of (P (codes m)) r y e is same (subst (λ ds. FaultIs e (P ds)) are h) (many_names m)

pub far_fault : {A : Type 0} (m : ModuleCode) (bytes_of : A → List ℕ) (tables : Tables) (cs : List Code) (r : Result A (Refused WriteFault)) (y e : Refused WriteFault) → cs ≡ codes m → AreTables m tables → TablesFit tables → r ≡ Err y → y ≡ e
    → FaultIs e (λ f. (f ≡ TooFar) × SomeFar tables cs) → Ends m bytes_of r
far_fault m bytes_of tables cs r y e are tables_are fit is same h =
    exit_ends m bytes_of (λ f. (f ≡ TooFar) × SomeFar tables (codes m)) r y e is same (subst (λ ds. FaultIs e (λ f. (f ≡ TooFar) × SomeFar tables ds)) are h) (λ f k. far_jump m tables f tables_are fit k)

abbrev pub AreLaidOut : Tables → List Code → List Layout → Type 0
AreLaidOut tables cs layouts = AllZip (λ code layout. IsLaidOut (labelled tables code) layout) cs layouts

pub big_fault : {A : Type 0} (m : ModuleCode) (bytes_of : A → List ℕ) (tables : Tables) (cs ds : List Code) (layouts : List Layout) (r : Result A (Refused WriteFault)) (y e : Refused WriteFault) → cs ≡ codes m → ds ≡ codes m → AreTables m tables → TablesFit tables → AreLaidOut tables ds layouts
    → r ≡ Err y → y ≡ e → FaultIs e (λ f. (f ≡ TooBig) × SomeBig tables cs) → Ends m bytes_of r
big_fault m bytes_of tables cs ds layouts r y e are also tables_are fit laid is same h =
    let all = subst (λ xs. AreLaidOut tables xs layouts) also laid in
    exit_ends m bytes_of (λ f. (f ≡ TooBig) × SomeBig tables (codes m)) r y e is same (subst (λ xs. FaultIs e (λ f. (f ≡ TooBig) × SomeBig tables xs)) are h) (λ f k. big_code m tables layouts f tables_are fit all k)

abbrev pub AreWritten : Tables → List Code → List ℕ → List ℕ → Type 0
AreWritten tables cs start out = (owns : List (List ℕ)) × AllZip (IsOwn tables) cs owns × All (λ own. length own ≤ MAX_CODE_BYTES) owns × (out ≡ start ++ heads cs owns)

is_written : (m : ModuleCode) (tables : Tables) (start out : List ℕ) → AreTables m tables → start ≡ front_bytes tables → AreWritten tables (codes m) start out → IsWritten m out
is_written m tables start out are front w = record {
  tables = tables;
  are_tables = are;
  owns = w.0;
  are_own = w.1;
  bytes_are = w.3 ∙ ap (λ (z : List ℕ). z ++ heads (codes m) w.0) front;
}

pub a_file : (m : ModuleCode) (tables : Tables) (cs : List Code) (start out : List ℕ) → cs ≡ codes m → AreTables m tables → TablesFit tables → start ≡ front_bytes tables → AreWritten tables cs start out → length out ≤ MAX_FILE_BYTES → IsFile m out
unfolding is_written
a_file m tables cs start out are tables_are fit front w short =
    let all = subst (λ ds. AreWritten tables ds start out) are w in
    record { written = is_written m tables start out tables_are front all; fit = fit; short_codes = all.2; short = short }

pub a_big_file : (m : ModuleCode) (tables : Tables) (cs ds : List Code) (layouts : List Layout) (start out : List ℕ) → cs ≡ codes m → ds ≡ codes m → AreTables m tables → TablesFit tables → AreLaidOut tables ds layouts → start ≡ front_bytes tables → AreWritten tables cs start out → MAX_FILE_BYTES < length out
    → FirstFault m TooBig
a_big_file m tables cs ds layouts start out are also tables_are fit laid front w past =
    big_file m tables layouts out tables_are fit (subst (λ xs. AreLaidOut tables xs layouts) also laid) (is_written m tables start out tables_are front (subst (λ xs. AreWritten tables xs start out) are w)) past

pub these_tables : (m : ModuleCode) (tables : Tables) (cs : List Code) → cs ≡ codes m → tables.texts ≡ all_interned no_texts (m.source ∷ flat_map used.texts_in cs) → tables.objects ≡ all_interned no_texts (map spelled (flat_map used.objects_in cs)) → AreTables m tables
these_tables m tables cs are texts objects =
    tables_made m tables (texts ∙ ap (λ (ds : List Code). all_interned no_texts (m.source ∷ flat_map used.texts_in ds)) are) (objects ∙ ap (λ (ds : List Code). all_interned no_texts (map spelled (flat_map used.objects_in ds))) are)
