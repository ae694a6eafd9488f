use Rattle.std.proofs.Common.{◌+◌, ◌<◌, ◌++◌, ℕ, List, Vec, Global, length, get_or, drop, refl, ap, ap₂, ◌∙◌, arith}
use Rattle.std.specs.List.{zip}
use Rattle.mpy_tree.specs.Canonical.{changes}
use Rattle.mpy_writer.proofs.Own.{line_kept, line_changed, lines_end}
use Rattle.mpy_writer.proofs.code.line_changes.Goals as goal
use Rattle.mpy_writer.proofs.code.line_changes.Goals.{then-line-last+in_ok-push, else-line-last}

pub loop-i-init : goal.loop-i-init
loop-i-init c = ap (λ (ps : List (ℕ × ℕ)). ps ++ changes 1 (zip c.args.starts.now c.args.lines.now)) c.new-pairs.ensures.items

pub overflow_cast-starts : goal.overflow_cast-starts
overflow_cast-starts c =
    let many = c.requires.a_line_each in
    let lt = c.loop-i-test.true in
    let short = c.requires.short c.loop-i.i 0 (omega (arith, many, lt)) in
    omega (arith, short)

pub loop-i-preserved : goal.loop-i-preserved
loop-i-preserved c =
    let starts = c.args.starts.now in
    let lines = c.args.lines.now in
    let i = c.loop-i.i in
    let many = c.requires.a_line_each in
    let lt : i < length lines = c.loop-i-test.true in
    let within : i < length starts = omega (arith, lt, many) in
    let whole = changes 1 (zip starts lines) in
    let rest = zip (drop (i + 1) starts) (drop (i + 1) lines) in
    elim c.if-line-last.branch [
      | then-line-last+in_ok-push w ↦
          let more = ap (λ (v : Vec (ℕ × ℕ) Global). v.items) w.pairs-is ∙ w.in_ok-push.ensures.items in
          ap (λ (n : ℕ). c.if-line-last.pairs.items ++ changes n rest) w.last-is
          ∙ line_changed c.loop-i.pairs.items c.if-line-last.pairs.items c.loop-i.last (get_or lines i 0) (get_or starts i 0) starts lines i whole within lt refl refl w.if-line-last.true more c.loop-i.invariant
      | else-line-last w ↦
          ap₂ (λ (v : Vec (ℕ × ℕ) Global) (n : ℕ). v.items ++ changes n rest) w.pairs-is w.last-is
          ∙ line_kept c.loop-i.pairs.items c.loop-i.last starts lines i whole within lt w.if-line-last.false c.loop-i.invariant
    ]

pub returns : goal.returns
returns c =
    lines_end c.loop-i.pairs.items c.loop-i.last c.args.starts.now c.args.lines.now c.loop-i.i (changes 1 (zip c.args.starts.now c.args.lines.now)) c.loop-i-test.false c.requires.a_line_each c.loop-i.invariant
