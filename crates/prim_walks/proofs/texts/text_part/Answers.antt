use Rattle.std.proofs.Common.{ℕ, List, Some, take, drop, sym, ap, ◌∙◌}
use Rattle.std.specs.Option.{option_map}
use Rattle.prim_walks.specs.declared.parts.Cutter.{Cutter}
use Rattle.prim_walks.proofs.TextParts.{few_taken, wrote_kept}
use Rattle.prim_walks.proofs.texts.text_part.Goals as goal

pub returns-in-Some-clause-part : goal.returns-in-Some-clause-part
returns-in-Some-clause-part g c =
    let w = c.in-Some.ensures.text in
    let kept : Cutter → List ℕ = λ r. take r.part.count r.part.bytes in
    ap (λ (ys : List ℕ). Some ys) (wrote_kept _ (λ (r : Cutter). r.skip) kept 4096 (λ r. few_taken r.part.count r.part.bytes 4096 r.within) (λ old piece new h. h.0) (λ old piece new h. h.1) w.text _ _ w.wrote)
    ∙ sym (ap (option_map (λ (text : List ℕ). take 4096 (drop c.args.from text))) w.is)
