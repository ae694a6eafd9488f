use Rattle.std.proofs.Common.{◌≡◌, ℕ, ◌+◌, ◌<◌, Bool, true, false, List, length, ap, arith, ◌∙◌, sym, subst, refl, w64, to_z, of_z}
use Rattle.std.proofs.lemmas.Bool.{both_ways}
use Rattle.bc_labels.specs.Places.{item_at, width_at}
use Rattle.bc_labels.proofs.Widening.{IsWidened, unwidened, passed}
use Rattle.mpy_writer.specs.File.{labelled_from}
use Rattle.mpy_writer.specs.Positions.{numbered, position_of, spread}
use Rattle.mpy_writer.proofs.Positions.{double, double_is, as_many, named, seen_item, offset_is, starts_near, length-spread, spread-same, width_item, whole}
use Rattle.mpy_writer.proofs.Rounds.{position_same, fits_here, unfit_here, kept_next, widened_next, width_now}
use Rattle.mpy_writer.proofs.widths.widen.Goals as goal
use Rattle.mpy_writer.proofs.widths.widen.Goals.{then-not-widths-i+then-not-fits, else-not-widths-i, else-not-widths-i-via-then-not-widths-i+else-not-fits, else-not-widths-i-via-else-not-widths-i}

pub loop-i-init : goal.loop-i-init
loop-i-init c = unwidened (labelled_from c.args.tables.now 0 c.args.items.now) (spread c.args.widths.now)

pub offset-requires-clause-from : goal.offset-requires-clause-from
offset-requires-clause-from c =
    let lt = c.loop-i-test.true in
    omega (arith, lt, as_many c.args.tables.now c.args.items.now c.args.widths.now c.args.starts.now c.requires.starts)

pub offset-requires-clause-to : goal.offset-requires-clause-to
offset-requires-clause-to c =
    let tables = c.args.tables.now in
    let items = c.args.items.now in
    let i = c.loop-i.i in
    let item = c.index-items-i.result in
    let lt = c.loop-i-test.true in
    let is = ap position_of (seen_item tables items i item lt c.index-items-i.is) ∙ position_same tables item in
    omega (arith, is, c.position_of.ensures, named tables items c.requires.fit c.requires.sound i lt, as_many tables items c.args.widths.now c.args.starts.now c.requires.starts)

pub offset-requires-clause-near : goal.offset-requires-clause-near
offset-requires-clause-near c =
    starts_near c.args.tables.now c.args.items.now c.requires.fit c.requires.sound c.args.widths.now c.args.starts.now c.requires.starts

pub loop-i-preserved : goal.loop-i-preserved
loop-i-preserved c =
    let l = c.loop-i in
    let tables = c.args.tables.now in
    let items = c.args.items.now in
    let old = c.args.widths.now in
    let i = l.i in
    let lt : i < length items = c.loop-i-test.true in
    let item = c.index-items-i.result in
    let is = seen_item tables items i item lt c.index-items-i.is in
    let named_is = ap position_of is ∙ position_same tables item in
    let reads = λ (to : ℕ) (to_is : to ≡ position_of (item_at (numbered tables items) i)) (short : width_at old i ≡ false).
    offset_is tables items c.requires.fit c.requires.sound old c.args.starts.now i to false c.requires.starts lt to_is short in
    let now_is = width_now tables items old l.widths l.wider i l.invariant in
    elim c.if-not-widths-i.branch [
      | then-not-widths-i+then-not-fits w ↦
          let short : width_at old i ≡ false = sym now_is ∙ w.if-not-widths-i.true in
          let z_is = passed w.offset.result w.offset.type_inv ∙ (w.offset.ensures ∙ reads w.position_of.result (w.position_of.ensures ∙ sym named_is) short) in
          let grown = widened_next tables items old l.widths l.wider i lt (omega (arith, lt, length-spread l.widths, length-spread old, double_is (length l.widths), double_is (length old), l.invariant.sized, c.requires.sized)) l.invariant
          (unfit_here tables items old i item (to_z w64 (of_z w64 w.offset.result)) lt is z_is short w.if-not-fits.ensures.1) in
          subst (λ (p : Bool). IsWidened (labelled_from tables 0 items) (spread old) (spread c.if-not-widths-i.widths) p (double (i + 1))) (sym w.wider-is)
          (subst (λ (p : List Bool). IsWidened (labelled_from tables 0 items) (spread old) (spread p) true (double (i + 1))) (sym w.widths-is) grown)
      | else-not-widths-i w ↦
          let same : IsWidened (labelled_from tables 0 items) (spread old) (spread l.widths) l.wider (double (i + 1)) =
          elim w.else-not-widths-i.branch [
            | else-not-widths-i-via-then-not-widths-i+else-not-fits w' ↦
                let short : width_at old i ≡ false = sym now_is ∙ w'.if-not-widths-i.true in
                let z_is = passed w'.offset.result w'.offset.type_inv ∙ (w'.offset.ensures ∙ reads w'.position_of.result (w'.position_of.ensures ∙ sym named_is) short) in
                kept_next tables items old l.widths l.wider i lt l.invariant
                (λ jumps _. fits_here tables items old i item false (to_z w64 (of_z w64 w'.offset.result)) lt is z_is (w'.if-not-fits.ensures.0 refl) jumps)
            | else-not-widths-i-via-else-not-widths-i w' ↦
                let wide : width_at old i ≡ true = sym now_is ∙ w'.if-not-widths-i.false in
                kept_next tables items old l.widths l.wider i lt l.invariant (λ jumps short. absurd (both_ways (width_at old i) (sym (width_item old i) ∙ short) wide))
          ] in
          subst (λ (p : Bool). IsWidened (labelled_from tables 0 items) (spread old) (spread c.if-not-widths-i.widths) p (double (i + 1))) (sym w.wider-is)
          (subst (λ (p : List Bool). IsWidened (labelled_from tables 0 items) (spread old) (spread p) l.wider (double (i + 1))) (sym w.widths-is) same)
    ]

pub returns-clause-same : goal.returns-clause-same
returns-clause-same c e = spread-same _ _ (c.loop-i.invariant.same e)

pub returns-clause-done : goal.returns-clause-done
returns-clause-done c e k inside jumps short =
    let past = c.loop-i-test.false in
    c.loop-i.invariant.fit e k (omega (arith, past, inside, whole c.args.tables.now c.args.items.now, double_is (length c.args.items.now), double_is c.loop-i.i)) jumps short

pub returns-clause-sized : goal.returns-clause-sized
returns-clause-sized c =
    let old = c.args.widths.now in
    let new = c.loop-i.widths in
    omega (arith, length-spread old, length-spread new, double_is (length old), double_is (length new), c.loop-i.invariant.sized)

pub returns-clause-round : goal.returns-clause-round
returns-clause-round c = c.loop-i.invariant.round
