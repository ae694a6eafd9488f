-- What is known of the library below.
use Rattle.std.proofs.Common.{◌≡◌, ℕ, suc, ◌<◌, ◌≤◌, Bool, true, false, eqb, List, [], ◌∷◌, length, All, Some, refl, sym, ap, subst, ◌∙◌, arith}
use Rattle.std.specs.Prelude.{◌↔◌, IsTrue, slice_get}
use Rattle.std.proofs.lemmas.Bool.{eqb-true, eqb-false}
use Rattle.std.proofs.lemmas.List.{length-map, nil_from_length}
use Rattle.std.proofs.lemmas.List.Elements.{All-from_recursion, All-nil, recursion_from_All}
use Rattle.std.specs.List.{AllByRecursion}
use Rattle.mpy_base.specs.declared.limits.TheConstants.{MAX_IMAGE_BYTES}
use Rattle.qstr_pool.specs.declared.table.TheConstants.{FIRST_OWN}
use Rattle.qstr_pool.specs.Pool.{Texts}
use Rattle.image_grammar.specs.bc_library.Own.{IsOwnPool}
use Rattle.image_grammar.specs.bc_library.Shelf.{Named, Shelf, names, no_entries}
use Rattle.image_grammar.specs.Fine.{IsFinePool, IsFineText}
use Rattle.image_grammar.specs.Opening.{Base, pool_below}
use Rattle.image_grammar.specs.Base.{IsOpened, base_of}
use Rattle.image_open.specs.Counts.{AreCounts}

pub names_count : (below : Shelf) (count : ℕ) → count ≡ length below.modules → count ≡ length (names below)
names_count below count e = e ∙ sym (length-map below.modules (λ (n : Named). n.name))

-- the numbers of its texts and modules
pub same_counts : (below : Shelf) (texts_below count texts modules : ℕ) → texts_below ≡ length below.pool.texts → count ≡ length below.modules → texts ≡ texts_below → IsTrue (eqb modules count) ↔ AreCounts (base_of below) texts modules
same_counts below texts_below count texts modules e f g = by (eqb modules count) refl
  where
    by : (b : Bool) → eqb modules count ≡ b → IsTrue b ↔ AreCounts (base_of below) texts modules
    by true h = (λ _. (g ∙ e, eqb-true _ _ h ∙ names_count below count f), λ _. refl)
    by false h = (λ is. let never : false ≡ true = is in absurd cc, λ are. absurd (eqb-false _ _ h (are.1 ∙ sym (names_count below count f))))

pub other_counts : (below : Shelf) (texts_below texts modules : ℕ) → texts_below ≡ length below.pool.texts → (texts ≡ texts_below → ⊥) → IsTrue (eqb texts texts_below) ↔ AreCounts (base_of below) texts modules
other_counts below texts_below texts modules e other = (λ is. absurd (other (eqb-true _ _ is)), λ are. absurd (other (are.0 ∙ sym e)))

pub none_counts : (below : Base) → below.texts ≡ [] → below.names ≡ [] → AreCounts below 0 0
none_counts below e f = (sym (ap length e), sym (ap length f))

pub counts_none : (below : Base) → AreCounts below 0 0 → (below.texts ≡ []) × (below.names ≡ [])
counts_none below are = (nil_from_length below.texts (sym are.0), nil_from_length below.names (sym are.1))

-- a pool of its texts
pub below_is : (pool : Texts) (below : Shelf) → pool ≡ below.pool → IsOwnPool pool → pool ≡ pool_below (base_of below)
below_is pool below e own =
    ap (λ (n : ℕ). record { first = n; texts = pool.texts }) own.first ∙ ap (λ (z : Texts). record { first = FIRST_OWN; texts = z.texts }) e

fine_by : (texts : List (List ℕ)) → ((k : ℕ) (text : List ℕ) → slice_get texts k ≡ Some text → All (λ (byte : ℕ). byte < 128) text) → AllByRecursion (λ (text : List ℕ). length text ≤ MAX_IMAGE_BYTES) texts → AllByRecursion IsFineText texts
fine_by [] ascii short = tt
fine_by (x ∷ xs) ascii short = (record { ascii = ascii 0 x refl; short = short.0 }, fine_by xs (λ k t e. ascii (suc k) t e) short.1)

pub fine_pool : (pool : Texts) (below : Shelf) → pool ≡ below.pool → IsOwnPool pool → IsOpened below → IsFinePool pool
fine_pool pool below e own opened =
    let short = subst (λ (z : Texts). All (λ (text : List ℕ). length text ≤ MAX_IMAGE_BYTES) z.texts) (sym e) opened.short_texts in
    record {
      first = own.first;
      fine = All-from_recursion IsFineText pool.texts (fine_by pool.texts (λ k text at. (own.each k text at).plain.ascii) (recursion_from_All (λ (text : List ℕ). length text ≤ MAX_IMAGE_BYTES) pool.texts short));
    }

pub nothing_opened : IsOpened no_entries
nothing_opened = record { alone = refl; first_use = refl; few_texts = omega arith; short_texts = All-nil (λ (t : List ℕ). length t ≤ MAX_IMAGE_BYTES) }
