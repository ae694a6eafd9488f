use Rattle.std.proofs.Common.{◌≡◌, ℕ, ◌+◌, ◌<◌, ◌≤◌, true, false, suc, List, [], ◌++◌, length, drop, Vec, Global, refl, sym, ap, subst, ◌∙◌, inl, inr, w64, to_z, of_z, arith}
use Rattle.std.proofs.lemmas.List.Elements.{All-get_or}
use Rattle.bc_labels.specs.Labels as labels
use Rattle.bc_labels.specs.Places.{item_at, width_at}
use Rattle.bc_labels.specs.Choice.{FitsAt}
use Rattle.bc_labels.proofs.Standing.{last_or_before}
use Rattle.bc_labels.proofs.Widening.{passed}
use Rattle.mpy_writer.specs.File.{labelled_from}
use Rattle.mpy_writer.specs.Positions.{numbered, position_of, drafted_to, spread, short_size}
use Rattle.mpy_writer.specs.Writable.{IsNumberedItem}
use Rattle.mpy_writer.proofs.Positions.{double, as_many, named, seen_item, offset_is, start_is, starts_near, length-drafted, item_is, drafted_grows}
use Rattle.mpy_writer.proofs.Rounds.{jumps_same, position_same, no_size, few_sizes, size_is, encodable, fits_here, far_here, passed_over, jumped, front_is, size_next, start_within, filled, layout_is, laid_to}
use Rattle.mpy_writer.proofs.layout.fill.Goals as goal
use Rattle.mpy_writer.proofs.layout.fill.Goals.{then-size-gt0+else-not-fits+in_ok-add_jump, else-size-gt0}

pub offset-offset-requires-clause-from : goal.offset-offset-requires-clause-from
offset-offset-requires-clause-from c =
    let lt = c.loop-i-test.true in
    omega (arith, lt, as_many c.args.tables.now c.args.items.now c.args.widths.now c.args.starts.now c.requires.starts)

pub offset-offset-requires-clause-to : goal.offset-offset-requires-clause-to
offset-offset-requires-clause-to c =
    let tables = c.args.tables.now in
    let items = c.args.items.now in
    let i = c.loop-i.i in
    let item = c.index-items-i.result in
    let lt = c.loop-i-test.true in
    let is = ap position_of (seen_item tables items i item lt c.index-items-i.is) ∙ position_same tables item in
    omega (arith, is, c.position_of.ensures, named tables items c.requires.fit c.requires.sound i lt, as_many tables items c.args.widths.now c.args.starts.now c.requires.starts)

pub offset-offset-requires-clause-near : goal.offset-offset-requires-clause-near
offset-offset-requires-clause-near c =
    starts_near c.args.tables.now c.args.items.now c.requires.fit c.requires.sound c.args.widths.now c.args.starts.now c.requires.starts

pub returns-then-not-fits-clause-fault : goal.returns-then-not-fits-clause-fault
returns-then-not-fits-clause-fault c =
    let tables = c.args.tables.now in
    let items = c.args.items.now in
    let ws = c.args.widths.now in
    let i = c.loop-i.i in
    let item = c.index-items-i.result in
    let lt = c.loop-i-test.true in
    let is = seen_item tables items i item lt c.index-items-i.is in
    let to_is = c.position_of.ensures ∙ sym (ap position_of is ∙ position_same tables item) in
    let reads = offset_is tables items c.requires.fit c.requires.sound ws c.args.starts.now i c.position_of.result (width_at ws i) c.requires.starts lt to_is refl in
    (refl, far_here tables items ws i item (width_at ws i) (to_z w64 (of_z w64 c.offset-offset.result)) refl lt is (passed c.offset-offset.result c.offset-offset.type_inv ∙ (c.offset-offset.ensures ∙ reads)) c.requires.fewest c.if-not-fits.ensures.1)

pub bounds-short-i : goal.bounds-short-i
bounds-short-i c =
    let lt = c.loop-i-test.true in
    let size = as_many c.args.tables.now c.args.items.now [] c.as_slice-short.result.now (c.as_slice-short.ensures.value ∙ c.requires.short) in
    omega (arith, lt, size)

pub part-front-requires-clause-order : goal.part-front-requires-clause-order
part-front-requires-clause-order c =
    let tables = c.args.tables.now in
    let items = c.args.items.now in
    let i = c.loop-i.i in
    let start = start_is tables items c.requires.fit c.requires.sound [] c.as_slice-short.result.now i 0 (c.as_slice-short.ensures.value ∙ c.requires.short) c.loop-i-test.true in
    let within = c.loop-i.invariant.within in
    omega (arith, start, within, length-drafted (numbered tables items) i)

pub part-front-requires-clause-within : goal.part-front-requires-clause-within
part-front-requires-clause-within c =
    let tables = c.args.tables.now in
    let items = c.args.items.now in
    let i = c.loop-i.i in
    let lt = c.loop-i-test.true in
    let start = start_is tables items c.requires.fit c.requires.sound [] c.as_slice-short.result.now i 0 (c.as_slice-short.ensures.value ∙ c.requires.short) lt in
    start_within tables items c.as_slice-text.result.now i _ (c.as_slice-text.ensures.value ∙ c.requires.text) (omega (arith, lt)) start

pub overflow_add-from : goal.overflow_add-from
overflow_add-from c =
    let tables = c.args.tables.now in
    let items = c.args.items.now in
    let i = c.loop-i.i in
    let lt = c.loop-i-test.true in
    let start = start_is tables items c.requires.fit c.requires.sound [] c.as_slice-short.result.now i 0 (c.as_slice-short.ensures.value ∙ c.requires.short) lt in
    let within = start_within tables items c.as_slice-text.result.now i _ (c.as_slice-text.ensures.value ∙ c.requires.text) (omega (arith, lt)) start in
    omega (arith, within, few_sizes c.index-items-i.result, c.short_size-size.ensures)

pub add_jump-requires : goal.add_jump-requires
add_jump-requires c =
    let items = c.args.items.now in
    let i = c.loop-i.i in
    let item = c.index-items-i.result in
    let sound : IsNumberedItem (length items) item =
    subst (IsNumberedItem (length items)) (sym c.index-items-i.is) (All-get_or (IsNumberedItem (length items)) items i item c.loop-i-test.true c.requires.sound) in
    encodable (length items) item (to_z w64 (of_z w64 c.offset-offset.result)) (width_at c.args.widths.now i) sound (c.if-not-fits.ensures.0 refl)

pub loop-i-preserved : goal.loop-i-preserved
loop-i-preserved c =
    let tables = c.args.tables.now in
    let items = c.args.items.now in
    let ws = c.args.widths.now in
    let xs = numbered tables items in
    let all = labelled_from tables 0 items in
    let i = c.loop-i.i in
    let item = c.index-items-i.result in
    let lt = c.loop-i-test.true in
    let inv = c.loop-i.invariant in
    let is = seen_item tables items i item lt c.index-items-i.is in
    let size = c.short_size-size.ensures in
    elim c.if-size-gt0.branch [
      | then-size-gt0+else-not-fits+in_ok-add_jump w ↦
          let taken = w.if-size-gt0.true in
          let some : 0 < short_size item = omega (arith, taken, size) in
          let short_are = c.as_slice-short.ensures.value ∙ c.requires.short in
          let start = start_is tables items c.requires.fit c.requires.sound [] c.as_slice-short.result.now i 0 short_are lt in
          let to_is = w.position_of.ensures ∙ sym (ap position_of is ∙ position_same tables item) in
          let reads = offset_is tables items c.requires.fit c.requires.sound ws c.args.starts.now i w.position_of.result (width_at ws i) c.requires.starts lt to_is refl in
          let z = to_z w64 (of_z w64 w.offset-offset.result) in
          let z_is = passed w.offset-offset.result w.offset-offset.type_inv ∙ (w.offset-offset.ensures ∙ reads) in
          let front = w.part-front.ensures ∙ front_is tables items c.as_slice-text.result.now i c.loop-i.from _ (c.as_slice-text.ensures.value ∙ c.requires.text) (omega (arith, lt)) start in
          let from_is = w.from-is in
          let next = size_next tables items i item is some in
          record {
            within = omega (arith, from_is, next, start, size);
            bytes = jumped tables items ws i c.loop-i.from c.if-size-gt0.from item z (width_at ws i) c.loop-i.out.items c.if-size-gt0.out.items w.part-front.result.now lt is (size_is tables item some).0 z_is refl front inv.bytes
                (ap (λ (v : Vec ℕ Global). v.items) w.out-is ∙ w.in_ok-add_jump.ensures) (omega (arith, from_is, next, start, size));
            fit = λ k h. elim (last_or_before k i h) [
              | inl before ↦ inv.fit k before
              | inr last ↦ subst (λ (n : ℕ). labels.is_jump (item_at all (suc (double n))) ≡ true → FitsAt all (spread ws) (suc (double n)) (width_at ws n)) (sym last)
                  (fits_here tables items ws i item (width_at ws i) z lt is z_is (w.if-not-fits.ensures.0 refl))
            ];
          }
      | else-size-gt0 w ↦
          let left = w.if-size-gt0.false in
          let flat : labels.is_jump (item_at xs i) ≡ false = ap labels.is_jump is ∙ (jumps_same tables item ∙ no_size item (omega (arith, left, size))) in
          let none : labels.is_jump (item_at all (suc (double i))) ≡ true → ⊥ = λ jumps. absurd (let there = item_is tables items i lt in let flat_there : labels.is_jump (item_at all (suc (double i))) ≡ false = ap labels.is_jump there ∙ flat in cc) in
          let before = passed_over tables items ws i c.loop-i.from c.loop-i.out.items lt flat inv.within inv.bytes in
          let from_is = w.from-is in
          let out_is = ap (λ (v : Vec ℕ Global). v.items) w.out-is in
          let so_far = inv.within in
          let longer : length (drafted_to xs i) ≤ length (drafted_to xs (i + 1)) = drafted_grows xs i in
          record {
            within = omega (arith, from_is, so_far, longer);
            bytes = subst (λ (n : ℕ). c.if-size-gt0.out.items ++ drop n (drafted_to xs (i + 1)) ≡ laid_to tables items ws (i + 1)) (sym from_is)
                (subst (λ (bytes : List ℕ). bytes ++ drop c.loop-i.from (drafted_to xs (i + 1)) ≡ laid_to tables items ws (i + 1)) (sym out_is) before);
            fit = λ k h. elim (last_or_before k i h) [
              | inl earlier ↦ inv.fit k earlier
              | inr last ↦ subst (λ (n : ℕ). labels.is_jump (item_at all (suc (double n))) ≡ true → FitsAt all (spread ws) (suc (double n)) (width_at ws n)) (sym last) (λ jumps. absurd (none jumps))
            ];
          }
    ]

pub rest-requires : goal.rest-requires
rest-requires c =
    let tables = c.args.tables.now in
    let items = c.args.items.now in
    let past = c.loop-i-test.false in
    let end = c.loop-i.auto.i-end in
    let same : c.loop-i.i ≡ length items = omega (arith, past, end) in
    let within = c.loop-i.invariant.within in
    let size : length c.as_slice-text.result.now ≡ length (drafted_to (numbered tables items) c.loop-i.i) =
    ap length (c.as_slice-text.ensures.value ∙ (c.requires.text ∙ ap (drafted_to (numbered tables items)) (sym same))) in
    omega (arith, within, size)

pub returns-clause-ok : goal.returns-clause-ok
returns-clause-ok c =
    let tables = c.args.tables.now in
    let items = c.args.items.now in
    let ws = c.args.widths.now in
    let all = labelled_from tables 0 items in
    let past = c.loop-i-test.false in
    layout_is tables items ws c.extend_from_slice.new.self.items c.requires.fewest
    (λ p lt jumps wide. subst (FitsAt all (spread ws) (suc (double p))) wide (c.loop-i.invariant.fit p (omega (arith, lt, past)) jumps))
    (filled tables items ws c.loop-i.i c.loop-i.from c.loop-i.out.items c.extend_from_slice.new.self.items c.rest.result.now c.as_slice-text.result.now past c.loop-i.auto.i-end (c.as_slice-text.ensures.value ∙ c.requires.text) c.rest.ensures c.loop-i.invariant.bytes
    c.in_ok-extend_from_slice.ensures.items)
