-- The joined tables of modules.
use Rattle.std.proofs.Common.{◌≡◌, ℕ, ◌+◌, ◌<◌, ◌≤◌, List, [], ◌∷◌, ◌++◌, length, get_or, drop, map, All, refl, sym, ap, subst, ◌∙◌, inl, inr, arith, codes}
use Rattle.std.specs.List.{flat_map}
use Rattle.std.proofs.lemmas.List.{get_or-map, length-map}
use Rattle.std.proofs.lemmas.List.Elements.{All-from_recursion, recursion_from_All}
use Rattle.mpy_base.specs.declared.limits.TheConstants.{MAX_TABLE}
use Rattle.mpy_writer.specs.qstr_pool.Pool.{Texts}
use Rattle.mpy_writer.specs.mpy_tree.File.{IsModule}
use Rattle.mpy_writer.specs.mpy_tree.Raw.{Module}
use Rattle.mpy_writer.specs.declared.tables.Tables.{Tables}
use Rattle.mpy_writer.specs.Outcome.{all_interned, no_texts}
use Rattle.mpy_writer.specs.Tables.{IsTable, TablesFit}
use Rattle.mpy_writer.specs.Writable.{IsText}
use Rattle.mpy_writer.proofs.Faults.{table_made}
use Rattle.mpy_writer.proofs.Lists.{next}
use Rattle.mpy_writer.proofs.Whole.{entries}
use Rattle.mpy_merge.specs.Moved.{text_at}
use Rattle.mpy_merge.specs.Faults.{HasManyNames}
use Rattle.mpy_merge.specs.Merged.{texts_of, texts_used, all_objects, AreTables}
use Rattle.mpy_merge.proofs.Right.{used_fine}

pub next_mapped : {A B : Type 0} (f : A → B) (xs : List A) (i : ℕ) (x : A) (y : B) → i < length xs → x ≡ get_or xs i x → y ≡ f x → drop i (map f xs) ≡ (y ∷ []) ++ drop (i + 1) (map f xs)
next_mapped f xs i x y lt is same =
    next (map f xs) i (f x) y (omega (arith, lt, length-map xs f)) (sym (get_or-map f xs i x (f x) lt ∙ ap f (sym is))) same

pub used_is : (modules : List Module) (first : Module) → 0 < length modules → first ≡ get_or modules 0 first → texts_used modules ≡ text_at first 0 ∷ codes "<module>" ∷ flat_map texts_of modules
used_is [] first some is = absurd (omega (arith, some))
used_is (m ∷ ms) first some is = ap (λ (x : Module). text_at x 0 ∷ codes "<module>" ∷ flat_map texts_of (m ∷ ms)) (sym is)

-- a table of what is used
-- =======================

pub tables_are : (modules : List Module) (texts objects : Texts) → texts ≡ all_interned no_texts (texts_used modules) → objects ≡ no_texts → AreTables modules (record { texts = texts; objects = objects })
tables_are modules texts objects e none = record { texts = subst (IsTable (texts_used modules)) (sym e) (table_made (texts_used modules)); objects = none }

pub tables_fit : (modules : List Module) (texts objects : Texts) → texts ≡ all_interned no_texts (texts_used modules) → objects ≡ no_texts → length texts.texts ≤ MAX_TABLE → TablesFit (record { texts = texts; objects = objects })
tables_fit modules texts objects e none few =
    let empty : length objects.texts ≡ 0 = ap (λ (t : Texts). length t.texts) none in
    record {
      texts = record { first = ap (λ (t : Texts). t.first) e ∙ (table_made (texts_used modules)).first; few = few };
      objects = record { first = ap (λ (t : Texts). t.first) none; few = omega (arith, empty) };
    }

pub tables_fine : (modules : List Module) (texts : Texts) → All IsModule modules → texts ≡ all_interned no_texts (texts_used modules) → All IsText texts.texts
tables_fine modules texts read e =
    let table = subst (IsTable (texts_used modules)) (sym e) (table_made (texts_used modules)) in
    All-from_recursion IsText texts.texts (entries IsText [] (texts_used modules) texts.texts table.texts (used_fine modules (recursion_from_All IsModule modules read)))

abbrev all_of : List Module → Tables
all_of modules = record { texts = all_interned no_texts (texts_used modules); objects = no_texts }

pub many_texts : (modules : List Module) → MAX_TABLE < length (all_interned no_texts (texts_used modules)).texts → HasManyNames modules
many_texts modules past = record { tables = all_of modules; are_tables = tables_are modules (all_interned no_texts (texts_used modules)) no_texts refl refl; many = inl past }

pub many_objects : (modules : List Module) → MAX_TABLE < length (all_objects modules) → HasManyNames modules
many_objects modules past = record { tables = all_of modules; are_tables = tables_are modules (all_interned no_texts (texts_used modules)) no_texts refl refl; many = inr past }
