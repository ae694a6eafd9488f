use Rattle.std.proofs.Common.{ℕ, List, Some, length, min, ◌-◌, ◌^◌, refl, sym, ap, ◌∙◌}
use Rattle.std.specs.Option.{option_map}
use Rattle.prim_walks.specs.declared.ruler.Ruler.{Ruler}
use Rattle.prim_walks.proofs.WholeTexts.{wrote_counts}
use Rattle.prim_walks.proofs.texts.text_len.Goals as goal

pub returns-in-Some : goal.returns-in-Some
returns-in-Some g c =
    let w = c.in-Some.ensures.text in
    ap (λ (n : ℕ). Some n) (wrote_counts _ (λ (r : Ruler). r.bytes) (λ old piece new h. h) w.text _ _ refl w.wrote)
    ∙ sym (ap (option_map (λ (text : List ℕ). min (length text) (2 ^ 64 - 1))) w.is)
