use Rattle.std.proofs.Common.{◌<◌, length, ◌∙◌, arith}
use Rattle.prim_str_methods.proofs.PieceSteps.{spaces_passed, no_words, word_passed, word_goes_on}
use Rattle.prim_str_methods.proofs.pieces.next_word.Goals as goal

pub returns-then-start-bytes-clause-none : goal.returns-then-start-bytes-clause-none
returns-then-start-bytes-clause-none c =
    let bytes = c.args.bytes.now in
    let start = c.skip-start.result in
    let s = c.skip-start.ensures in
    spaces_passed bytes c.args.from start s.further s.within s.passed ∙ no_words bytes start (omega (arith, c.if-start-bytes.true))

pub returns-clause-some : goal.returns-clause-some
returns-clause-some c =
    let bytes = c.args.bytes.now in
    let start = c.skip-start.result in
    let end = c.skip-end.result in
    let s = c.skip-start.ensures in
    let e = c.skip-end.ensures in
    let further = s.further in
    let within = e.within in
    let inside : start < length bytes = let low = s.within in omega (arith, low, c.if-start-bytes.false) in
    let lt : start < end = word_goes_on bytes start end (s.stops inside) e.further inside e.stops in
    record {
      first = spaces_passed bytes c.args.from start further s.within s.passed ∙ word_passed bytes start end lt within e.passed e.stops;
      start = omega (arith, lt);
      end = within;
      further = omega (arith, lt, further);
      few = omega (arith, within);
    }
