-- What uses of texts make of a pool.
use Rattle.std.proofs.Common.{◌≡◌, ℕ, ◌+◌, ◌<◌, ◌≤◌, Bool, true, false, List, [], ◌∷◌, ◌++◌, length, drop, get_or, Option, Some, None, Result, Err, refl, sym, ap, subst, ◌∙◌, arith}
use Rattle.std.specs.Option.{option_to_list}
use Rattle.std.specs.List.{cons_option, filter_map}
use Rattle.std.proofs.lemmas.List.{at_drop_more}
use Rattle.mpy_base.specs.declared.refused.Refused.{Refused}
use Rattle.mpy_base.specs.declared.limits.TheConstants.{MAX_TABLE}
use Rattle.qstr_pool.specs.Pool.{Texts}
use Rattle.mpy_writer.specs.mpy_tree.declared.raw.Qstr.{Qstr}
use Rattle.mpy_writer.specs.mpy_tree.Raw as raws
use Rattle.image_open.specs.bc_library.Texts.{last_part, with_text, with_texts}
use Rattle.image_open.proofs.bc_library_lemmas.Pools.{longer, with_append}
use Rattle.image_open.specs.image_grammar.declared.fault.ImageFault.{ImageFault}
use Rattle.image_freeze.specs.Uses.{FaultIs, IfFault, PassesTable}
use Rattle.image_freeze.proofs.Exits.{exit}

-- texts one after another
-- =======================

-- what is left makes the same of the pool
pub goes_on : (start now next : Texts) (whole rest front behind : List (List ℕ)) → with_texts now rest ≡ with_texts start whole → rest ≡ front ++ behind → next ≡ with_texts now front → with_texts next behind ≡ with_texts start whole
goes_on start now next whole rest front behind so_far parts is =
    ap (λ (z : Texts). with_texts z behind) is ∙ (sym (with_append now front behind) ∙ (ap (with_texts now) (sym parts) ∙ so_far))

pub passes : (start now : Texts) (whole rest front behind : List (List ℕ)) → with_texts now rest ≡ with_texts start whole → rest ≡ front ++ behind → (f : ImageFault) → PassesTable now front f → PassesTable start whole f
passes start now whole rest front behind so_far parts f h =
    let all : with_texts (with_texts now front) behind ≡ with_texts start whole = goes_on start now (with_texts now front) whole rest front behind so_far parts refl in
    let many = longer (with_texts now front) behind in
    let past = h.1 in
    (h.0, omega (arith, past, many, ap (λ (z : Texts). length z.texts) all))

-- so a use that is one too many is one too many of all
pub exit_passing : {X : Type 0} (start now : Texts) (whole rest front behind : List (List ℕ)) (r : Result X (Refused ImageFault)) (y e : Refused ImageFault) → r ≡ Err y → y ≡ e → FaultIs e (PassesTable now front) → with_texts now rest ≡ with_texts start whole → rest ≡ front ++ behind → IfFault r (PassesTable start whole)
exit_passing start now whole rest front behind r y e is same h so_far parts =
    exit (PassesTable now front) (PassesTable start whole) r y e is same h (passes start now whole rest front behind so_far parts)

-- a table
-- =======

cons_is : (o : Option (List ℕ)) (rest : List (List ℕ)) → cons_option o rest ≡ option_to_list o ++ rest
cons_is None rest = refl
cons_is (Some text) rest = refl

pub next_entry : (qstrs : List Qstr) (i : ℕ) (q : Qstr) (o : Option (List ℕ)) → i < length qstrs → q ≡ get_or qstrs i q → o ≡ raws.text_of q → filter_map raws.text_of (drop i qstrs) ≡ option_to_list o ++ filter_map raws.text_of (drop (i + 1) qstrs)
next_entry qstrs i q o lt is same =
    let rest = filter_map raws.text_of (drop (i + 1) qstrs) in
    at_drop_more (filter_map raws.text_of) qstrs i q lt ∙ (ap (λ (z : Qstr). cons_option (raws.text_of z) rest) (sym is) ∙ (ap (λ (z : Option (List ℕ)). cons_option z rest) (sym same) ∙ cons_is o rest))

-- a module
-- ========

-- the texts of a module are used one after another: a name, its last part, and a table
pub record ModuleUsed (start : Texts) (name : List ℕ) (qstrs : List Qstr) : Type 0 where
  pub given : List ℕ
  pub part : Option (List ℕ)
  pub table : List Qstr
  pub given_is : given ≡ name
  pub part_is : part ≡ last_part given
  pub table_is : table ≡ qstrs

abbrev pub all_of : List ℕ → List Qstr → List (List ℕ)
all_of name qstrs = name ∷ (option_to_list (last_part name) ++ filter_map raws.text_of qstrs)

whole_is : (start : Texts) (name : List ℕ) (qstrs : List Qstr) (m : ModuleUsed start name qstrs) → m.given ∷ (option_to_list m.part ++ filter_map raws.text_of m.table) ≡ all_of name qstrs
whole_is start name qstrs m =
    ap (λ (o : Option (List ℕ)). m.given ∷ (option_to_list o ++ filter_map raws.text_of m.table)) m.part_is
    ∙ (ap (λ (z : List ℕ). z ∷ (option_to_list (last_part z) ++ filter_map raws.text_of m.table)) m.given_is
    ∙ ap (λ (z : List Qstr). all_of name z) m.table_is)

pub name_passes : (start : Texts) (name : List ℕ) (qstrs : List Qstr) (m : ModuleUsed start name qstrs) (f : ImageFault) → PassesTable start (m.given ∷ []) f → PassesTable start (all_of name qstrs) f
name_passes start name qstrs m f h =
    passes start start (all_of name qstrs) (all_of name qstrs) (m.given ∷ []) (option_to_list m.part ++ filter_map raws.text_of m.table) refl (sym (whole_is start name qstrs m)) f h

after_name : (start one : Texts) (name : List ℕ) (qstrs : List Qstr) (m : ModuleUsed start name qstrs) → one ≡ with_text start m.given → with_texts one (option_to_list m.part ++ filter_map raws.text_of m.table) ≡ with_texts start (all_of name qstrs)
after_name start one name qstrs m e =
    goes_on start start one (all_of name qstrs) (all_of name qstrs) (m.given ∷ []) (option_to_list m.part ++ filter_map raws.text_of m.table) refl (sym (whole_is start name qstrs m)) e

pub part_passes : (start one : Texts) (name : List ℕ) (qstrs : List Qstr) (m : ModuleUsed start name qstrs) → one ≡ with_text start m.given → (f : ImageFault) → PassesTable one (option_to_list m.part) f → PassesTable start (all_of name qstrs) f
part_passes start one name qstrs m e f h =
    passes start one (all_of name qstrs) (option_to_list m.part ++ filter_map raws.text_of m.table) (option_to_list m.part) (filter_map raws.text_of m.table) (after_name start one name qstrs m e) refl f h

after_part : (start one two : Texts) (name : List ℕ) (qstrs : List Qstr) (m : ModuleUsed start name qstrs) → one ≡ with_text start m.given → two ≡ with_texts one (option_to_list m.part) → with_texts two (filter_map raws.text_of m.table) ≡ with_texts start (all_of name qstrs)
after_part start one two name qstrs m e f =
    goes_on start one two (all_of name qstrs) (option_to_list m.part ++ filter_map raws.text_of m.table) (option_to_list m.part) (filter_map raws.text_of m.table) (after_name start one name qstrs m e) refl f

pub table_passes : (start one two : Texts) (name : List ℕ) (qstrs : List Qstr) (m : ModuleUsed start name qstrs) → one ≡ with_text start m.given → two ≡ with_texts one (option_to_list m.part) → (f : ImageFault) → PassesTable two (filter_map raws.text_of m.table) f → PassesTable start (all_of name qstrs) f
table_passes start one two name qstrs m e f g h = (h.0, subst (λ (z : Texts). MAX_TABLE < length z.texts) (after_part start one two name qstrs m e f) h.1)

pub table_used : (start one two new : Texts) (name : List ℕ) (qstrs : List Qstr) (m : ModuleUsed start name qstrs) → one ≡ with_text start m.given → two ≡ with_texts one (option_to_list m.part) → new ≡ with_texts two (filter_map raws.text_of m.table) → new ≡ with_texts start (all_of name qstrs)
table_used start one two new name qstrs m e f g = g ∙ after_part start one two name qstrs m e f
