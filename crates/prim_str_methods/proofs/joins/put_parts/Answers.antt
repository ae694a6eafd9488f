use Rattle.std.proofs.Common.{◌≡◌, ℕ, ◌+◌, ◌<◌, List, [], ◌++◌, length, take, get_or, sym, ap, ◌∙◌, arith, length-append}
use Rattle.mpy_base.specs.World.{text_at, with_text}
use Rattle.prim_builtins.specs.py_primitives.Texts.{joined}
use Rattle.prim_str_methods.specs.Parts.{parts_in, cut_bytes, written, in_front}
use Rattle.prim_str_methods.proofs.Joinings.{next_part, next_fits, cut_now, parts_now, can_join_now}
use Rattle.prim_str_methods.proofs.Writings.{written_on, written_length, text_now, put_again}
use Rattle.prim_str_methods.proofs.joins.put_parts.Goals as goal

pub put_part-from-requires-clause-join : goal.put_part-from-requires-clause-join
put_part-from-requires-clause-join g c =
    let texts = g.C.Constants.text_of c.args.consts.now in
    let tuples = g.C.Constants.items_of c.args.consts.now in
    let h = c.args.arena.now in
    let t = c.args.t.cell in
    let can = c.requires.join in
    let separator = c.args.separator in
    let over = c.args.over in
    let sep = cut_bytes texts h separator in
    let parts = parts_in texts h tuples over in
    let start = text_at h t in
    let at = c.loop-at.at in
    let a = c.loop-at.arena in
    let from = c.loop-at.from in
    let front = joined sep (take at parts) in
    let here = written start 0 front in
    let e = c.loop-at.invariant.0 in
    let place : from ≡ length front = c.loop-at.invariant.1 in
    can_join_now texts tuples h t separator over can a here e

pub put_part-from-requires-clause-within : goal.put_part-from-requires-clause-within
put_part-from-requires-clause-within g c =
    let texts = g.C.Constants.text_of c.args.consts.now in
    let tuples = g.C.Constants.items_of c.args.consts.now in
    let h = c.args.arena.now in
    let t = c.args.t.cell in
    let can = c.requires.join in
    let separator = c.args.separator in
    let over = c.args.over in
    let sep = cut_bytes texts h separator in
    let parts = parts_in texts h tuples over in
    let start = text_at h t in
    let at = c.loop-at.at in
    let a = c.loop-at.arena in
    let from = c.loop-at.from in
    let front = joined sep (take at parts) in
    let here = written start 0 front in
    let e = c.loop-at.invariant.0 in
    let place : from ≡ length front = c.loop-at.invariant.1 in
    let lt : at < length parts = omega (arith, c.loop-at-test.true, c.requires.count) in
    let piece = in_front at sep ++ get_or parts at [] in
    let fits = next_fits sep parts at lt in
    let sep_same : cut_bytes texts a separator ≡ sep = cut_now texts tuples h t separator over can a here e separator can.other_separator in
    let parts_same : parts_in texts a tuples over ≡ parts = parts_now texts tuples h t separator over can a here e in
    let now : text_at a t ≡ here = text_now texts tuples h t can.text a here e in
    let kept : length here ≡ length start = written_length start 0 front (omega (arith, fits, c.requires.room)) in
    let piece_same : in_front at (cut_bytes texts a separator) ++ get_or (parts_in texts a tuples over) at [] ≡ piece =
    ap (λ (bs : List ℕ). in_front at bs ++ get_or (parts_in texts a tuples over) at []) sep_same ∙ ap (λ (ps : List (List ℕ)). in_front at sep ++ get_or ps at []) parts_same in
    omega (arith, lt, ap (λ (ps : List (List ℕ)). length ps) parts_same)

pub put_part-from-requires-clause-room : goal.put_part-from-requires-clause-room
put_part-from-requires-clause-room g c =
    let texts = g.C.Constants.text_of c.args.consts.now in
    let tuples = g.C.Constants.items_of c.args.consts.now in
    let h = c.args.arena.now in
    let t = c.args.t.cell in
    let can = c.requires.join in
    let separator = c.args.separator in
    let over = c.args.over in
    let sep = cut_bytes texts h separator in
    let parts = parts_in texts h tuples over in
    let start = text_at h t in
    let at = c.loop-at.at in
    let a = c.loop-at.arena in
    let from = c.loop-at.from in
    let front = joined sep (take at parts) in
    let here = written start 0 front in
    let e = c.loop-at.invariant.0 in
    let place : from ≡ length front = c.loop-at.invariant.1 in
    let lt : at < length parts = omega (arith, c.loop-at-test.true, c.requires.count) in
    let piece = in_front at sep ++ get_or parts at [] in
    let fits = next_fits sep parts at lt in
    let sep_same : cut_bytes texts a separator ≡ sep = cut_now texts tuples h t separator over can a here e separator can.other_separator in
    let parts_same : parts_in texts a tuples over ≡ parts = parts_now texts tuples h t separator over can a here e in
    let now : text_at a t ≡ here = text_now texts tuples h t can.text a here e in
    let kept : length here ≡ length start = written_length start 0 front (omega (arith, fits, c.requires.room)) in
    let piece_same : in_front at (cut_bytes texts a separator) ++ get_or (parts_in texts a tuples over) at [] ≡ piece =
    ap (λ (bs : List ℕ). in_front at bs ++ get_or (parts_in texts a tuples over) at []) sep_same ∙ ap (λ (ps : List (List ℕ)). in_front at sep ++ get_or ps at []) parts_same in
    omega (arith, fits, place, c.requires.room, kept, ap (λ (bs : List ℕ). length bs) now, ap (λ (bs : List ℕ). length bs) piece_same)

pub put_part-from-requires-clause-few : goal.put_part-from-requires-clause-few
put_part-from-requires-clause-few g c =
    let texts = g.C.Constants.text_of c.args.consts.now in
    let tuples = g.C.Constants.items_of c.args.consts.now in
    let h = c.args.arena.now in
    let t = c.args.t.cell in
    let can = c.requires.join in
    let separator = c.args.separator in
    let over = c.args.over in
    let sep = cut_bytes texts h separator in
    let parts = parts_in texts h tuples over in
    let start = text_at h t in
    let at = c.loop-at.at in
    let a = c.loop-at.arena in
    let from = c.loop-at.from in
    let front = joined sep (take at parts) in
    let here = written start 0 front in
    let e = c.loop-at.invariant.0 in
    let place : from ≡ length front = c.loop-at.invariant.1 in
    let lt : at < length parts = omega (arith, c.loop-at-test.true, c.requires.count) in
    let piece = in_front at sep ++ get_or parts at [] in
    let fits = next_fits sep parts at lt in
    let sep_same : cut_bytes texts a separator ≡ sep = cut_now texts tuples h t separator over can a here e separator can.other_separator in
    let parts_same : parts_in texts a tuples over ≡ parts = parts_now texts tuples h t separator over can a here e in
    let now : text_at a t ≡ here = text_now texts tuples h t can.text a here e in
    let kept : length here ≡ length start = written_length start 0 front (omega (arith, fits, c.requires.room)) in
    let piece_same : in_front at (cut_bytes texts a separator) ++ get_or (parts_in texts a tuples over) at [] ≡ piece =
    ap (λ (bs : List ℕ). in_front at bs ++ get_or (parts_in texts a tuples over) at []) sep_same ∙ ap (λ (ps : List (List ℕ)). in_front at sep ++ get_or ps at []) parts_same in
    omega (arith, c.requires.few, kept, ap (λ (bs : List ℕ). length bs) now)

pub loop-at-preserved : goal.loop-at-preserved
loop-at-preserved g c =
    let texts = g.C.Constants.text_of c.args.consts.now in
    let tuples = g.C.Constants.items_of c.args.consts.now in
    let h = c.args.arena.now in
    let t = c.args.t.cell in
    let can = c.requires.join in
    let separator = c.args.separator in
    let over = c.args.over in
    let sep = cut_bytes texts h separator in
    let parts = parts_in texts h tuples over in
    let start = text_at h t in
    let at = c.loop-at.at in
    let a = c.loop-at.arena in
    let from = c.loop-at.from in
    let front = joined sep (take at parts) in
    let here = written start 0 front in
    let e = c.loop-at.invariant.0 in
    let place : from ≡ length front = c.loop-at.invariant.1 in
    let lt : at < length parts = omega (arith, c.loop-at-test.true, c.requires.count) in
    let piece = in_front at sep ++ get_or parts at [] in
    let fits = next_fits sep parts at lt in
    let sep_same : cut_bytes texts a separator ≡ sep = cut_now texts tuples h t separator over can a here e separator can.other_separator in
    let parts_same : parts_in texts a tuples over ≡ parts = parts_now texts tuples h t separator over can a here e in
    let now : text_at a t ≡ here = text_now texts tuples h t can.text a here e in
    let kept : length here ≡ length start = written_length start 0 front (omega (arith, fits, c.requires.room)) in
    let piece_same : in_front at (cut_bytes texts a separator) ++ get_or (parts_in texts a tuples over) at [] ≡ piece =
    ap (λ (bs : List ℕ). in_front at bs ++ get_or (parts_in texts a tuples over) at []) sep_same ∙ ap (λ (ps : List (List ℕ)). in_front at sep ++ get_or ps at []) parts_same in
    let more : front ++ piece ≡ joined sep (take (at + 1) parts) = sym (next_part sep parts at lt) in (
      put_again texts tuples h t can.text a c.put_part-from.new.arena here (written start 0 (joined sep (take (at + 1) parts))) e
          (c.put_part-from.ensures.put ∙ ap (λ (bs : List ℕ). with_text a t bs)
          (ap (λ (bs : List ℕ). written bs from (in_front at (cut_bytes texts a separator) ++ get_or (parts_in texts a tuples over) at [])) now
          ∙ (ap (λ (bs : List ℕ). written here from bs) piece_same
          ∙ (written_on start front piece from (sym place) (omega (arith, fits, place, c.requires.room)) ∙ ap (λ (bs : List ℕ). written start 0 bs) more)))),
      omega (arith, c.put_part-from.ensures.place, place, ap (λ (bs : List ℕ). length bs) piece_same, ap (λ (bs : List ℕ). length bs) more, length-append front piece),
    )
