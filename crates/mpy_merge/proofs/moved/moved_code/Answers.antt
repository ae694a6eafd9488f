use Rattle.std.proofs.Common.{◌≡◌, ◌≤◌, ◌∷◌, ℕ, List, length, map, All, refl, sym, ap, ap₂, subst, ◌∙◌, arith}
use Rattle.std.specs.List.{AllZip}
use Rattle.std.specs.List.Sorted.{IsStrictlyIncreasing}
use Rattle.mpy_base.specs.declared.limits.TheConstants.{MAX_CODE_BYTES}
use Rattle.bc_scheme.specs.bc_ops.declared.listing.Item as listings
use Rattle.bc_scheme.specs.bc_ops.Listing.{IsListOf, Lists}
use Rattle.bc_verify.specs.bc_prelude.Names.{AreNames}
use Rattle.bc_verify.specs.bc_prelude.Lines.{line_of}
use Rattle.mpy_writer.specs.mpy_tree.declared.module.Code.{Code, Code-F, out-roll-Code}
use Rattle.mpy_merge.specs.Kept.{IsKept}
use Rattle.mpy_merge.specs.Moved.{text_at, IsMovedItem}
use Rattle.bc_verify.proofs.bc_prelude_lemmas.Pieces.{parts_short}
use Rattle.mpy_merge.proofs.Sound.{offsets_rise, offsets_within}
use Rattle.mpy_merge.proofs.Made.{list_there, items_kept, few_kept, moved_by}
use Rattle.mpy_merge.proofs.moved.moved_code.Goals as goal

pub items_of-requires-clause-decodes : goal.items_of-requires-clause-decodes
items_of-requires-clause-decodes c =
    let parts = c.parts_of-parts.ensures in
    let k = c.requires.kept in
    (k.items, subst (λ (z : List ℕ). IsListOf z k.items) (sym parts.instructions_are) (list_there c.args.module.now c.args.bytes.now k c.parts_of-parts.result.prelude parts.begins))

pub moved_items-requires-clause-kept : goal.moved_items-requires-clause-kept
moved_items-requires-clause-kept c =
    let parts = c.parts_of-parts.ensures in
    let k = c.requires.kept in
    let m = c.args.module.now in
    let same = items_kept m c.args.bytes.now k c.parts_of-parts.result.prelude parts.begins c.parts_of-parts.result.instructions.now c.in_ok-listed.listed.items.items c.in_ok-listed.listed.offsets.items parts.instructions_are c.in_ok-listed.ensures in
    subst (λ (z : List listings.Item). All (IsKept m (length z)) z) (sym (c.deref-2.ensures.value ∙ same)) k.kept

pub moved_items-requires-clause-short : goal.moved_items-requires-clause-short
moved_items-requires-clause-short c =
    let parts = c.parts_of-parts.ensures in
    let k = c.requires.kept in
    let m = c.args.module.now in
    let same = items_kept m c.args.bytes.now k c.parts_of-parts.result.prelude parts.begins c.parts_of-parts.result.instructions.now c.in_ok-listed.listed.items.items c.in_ok-listed.listed.offsets.items parts.instructions_are c.in_ok-listed.ensures in
    subst (λ (z : List listings.Item). length z ≤ MAX_CODE_BYTES) (sym (c.deref-2.ensures.value ∙ same)) (few_kept m c.args.bytes.now k)

pub lines_at-requires-clause-rising : goal.lines_at-requires-clause-rising
lines_at-requires-clause-rising c =
    subst IsStrictlyIncreasing (sym c.deref-3.ensures.value) (offsets_rise c.parts_of-parts.result.instructions.now c.in_ok-listed.listed.items.items c.in_ok-listed.listed.offsets.items c.in_ok-listed.ensures)

pub lines_at-requires-clause-within : goal.lines_at-requires-clause-within
lines_at-requires-clause-within c =
    let parts = c.parts_of-parts.ensures in
    let short = parts_short c.args.bytes.now c.parts_of-parts.result.prelude parts.begins in
    let few = c.requires.kept.short in
    subst (All (λ (offset : ℕ). offset ≤ MAX_CODE_BYTES)) (sym c.deref-3.ensures.value)
    (offsets_within c.parts_of-parts.result.instructions.now c.in_ok-listed.listed.items.items c.in_ok-listed.listed.offsets.items MAX_CODE_BYTES c.in_ok-listed.ensures (omega (arith, ap length parts.instructions_are, short, few)))

pub returns : goal.returns
returns c =
    let parts = c.parts_of-parts.ensures in
    let m = c.args.module.now in
    let prelude = c.parts_of-parts.result.prelude in
    let indexes = parts.begins.indexes in
    let numbers = c.in_ok-numbers.ensures indexes (subst (AreNames indexes) (sym parts.names_are) parts.begins.are_names) in
    let all : c.in-Some.first.now ∷ c.in-Some.others.now ≡ indexes = sym c.in-Some.ensures.cases.0 ∙ (c.deref.ensures.value ∙ numbers) in
    let r : Code-F Code = record {
      name = c.in_ok-name.name;
      args = c.from_vec.result;
      defaults = prelude.defaults;
      n_state = prelude.n_state;
      n_exc = prelude.n_exc;
      instrs = c.from_vec-2.result;
      lines = c.from_vec-3.result;
      children = c.new-2.result;
    } in
    moved_by c.args.tables.now c.args.base m c.args.bytes.now _ r (out-roll-Code r) (record {
      prelude = prelude;
      begins = parts.begins;
      names = ap₂ (λ (x : List ℕ) (xs : List (List ℕ)). x ∷ xs) (c.in_ok-name.ensures ∙ c.text_at.ensures) (c.from_vec.ensures ∙ c.in_ok-args.ensures) ∙ ap (map (text_at m)) all;
      defaults = refl;
      n_state = refl;
      n_exc = refl;
      items = c.in_ok-listed.listed.items.items;
      offsets = c.in_ok-listed.listed.offsets.items;
      lists = subst (λ (z : List ℕ). Lists z c.in_ok-listed.listed.items.items c.in_ok-listed.listed.offsets.items) parts.instructions_are c.in_ok-listed.ensures;
      instrs = subst (AllZip (IsMovedItem c.args.tables.now c.args.base m) c.in_ok-listed.listed.items.items) (sym c.from_vec-2.ensures)
          (subst (λ (z : List listings.Item). AllZip (IsMovedItem c.args.tables.now c.args.base m) z c.in_ok-instrs.instrs.items) c.deref-2.ensures.value c.in_ok-instrs.ensures);
      lines = c.from_vec-3.ensures ∙ (c.in_ok-lines.ensures ∙ ap₂ (λ (t : List ℕ) (os : List ℕ). map (line_of t) os) parts.lines_are c.deref-3.ensures.value);
      alone = c.new-2.ensures;
    })
