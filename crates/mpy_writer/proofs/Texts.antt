-- The entries of a table of texts.
use Rattle.std.proofs.Common.{◌≡◌, ℕ, ◌+◌, ◌-◌, ◌*◌, ◌≤◌, cond, List, length, Option, Some, None, option_map, position, slice_get, refl, ap, ◌∙◌, arith}
use Rattle.std.specs.Str.{bytes_eq}
use Rattle.std.proofs.lemmas.Bool.{le-ltb}
use Rattle.std.proofs.lemmas.Option.{slice_get_within}
use Rattle.mpy_base.specs.Vuint.{vuint}
use Rattle.mpy_base.proofs.Groups.{vuint_spells}
use Rattle.mpy_tree.specs.qstr_pool.Pool.{Texts, number_of, text_of}
use Rattle.mpy_tree.specs.qstr_pool.Static.{static_pool, static_number_of}
use Rattle.mpy_tree.proofs.qstr_pool_lemmas.Places.{found}
use Rattle.mpy_tree.specs.declared.raw.Qstr.{Qstr}
use Rattle.mpy_tree.specs.Raw as raws
use Rattle.mpy_tree.specs.File.{IsQstr}
use Rattle.mpy_tree.specs.Canonical.{qstr_bytes, IsNamed}
use Rattle.mpy_writer.specs.Writable.{IsText}
use Rattle.mpy_writer.specs.File.{entry_of, qstr_of}

-- a number from 1 on leads to its text
record Leads (table : Texts) (text : List ℕ) (n : ℕ) : Type 0 where
  pub leads : text_of table n ≡ Some text
  pub some : 1 ≤ n
  pub within : n ≤ length table.texts

leads : (table : Texts) (text : List ℕ) (n : ℕ) → table.first ≡ 1 → number_of table text ≡ Some n → Leads table text n
leads table text n first e = by_place (position (bytes_eq text) table.texts) refl e where
  by_place : (r : Option ℕ) → position (bytes_eq text) table.texts ≡ r → option_map (λ place. table.first + place) r ≡ Some n → Leads table text n
  by_place None is k = absurd cc
  by_place (Some i) is k =
      let number : table.first + i ≡ n = cc in
      let at = found table.texts text i is in
      let lt = slice_get_within table.texts i text at in
      record {
        leads = ap (λ b. cond b None (slice_get table.texts (n - table.first))) (le-ltb n table.first (omega (arith, number)))
            ∙ (ap (slice_get table.texts) (omega (arith, number)) ∙ at);
        some = omega (arith, first, number);
        within = omega (arith, first, number, lt);
      }

pub record IsEntry (text : List ℕ) (entry : Qstr) : Type 0 where
  pub text_is : raws.text_of entry ≡ Some text
  pub named : IsNamed entry
  pub spelled : IsQstr (qstr_bytes entry) entry

entry : (text : List ℕ) → IsText text → (r : Option ℕ) → static_number_of text ≡ r → length static_pool.texts ≤ 165 → IsEntry text (entry_of text r)
entry text fine None e count =
    let short = fine.short in
    record {
      text_is = refl;
      named = e;
      spelled = record { front = vuint (2 * length text); text_is = refl; spells = vuint_spells (2 * length text) (omega (arith, short)); ascii = fine.ascii };
    }
entry text fine (Some n) e count =
    let l = leads static_pool text n refl e in
    let some = l.some in
    let within = l.within in
    record {
      text_is = l.leads;
      named = tt;
      spelled = record { spells = vuint_spells (2 * n + 1) (omega (arith, within, count)); from_one = l.some; known = omega (arith, within, count) };
    }

static_count : length static_pool.texts ≤ 165
static_count = let e : length static_pool.texts ≡ 165 = refl in omega (arith, e)

pub entry_is : (text : List ℕ) → IsText text → IsEntry text (qstr_of text)
entry_is text fine = entry text fine (static_number_of text) refl static_count
