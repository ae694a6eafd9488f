use Rattle.std.proofs.Common.{◌≡◌, ℕ, ◌*◌, min, length, sym, ap, ◌∙◌}
use Rattle.std.proofs.Math.Nat.{mul_comm}
use Rattle.prim_faults.specs.arena_objects.Iterables.{spelled}
use Rattle.prim_operators.specs.declared.sources.Source.{Source}
use Rattle.prim_operators.specs.Sources.{source_bytes}
use Rattle.prim_operators.proofs.Repeats.{length_repeat}
use Rattle.prim_operators.proofs.sources.bytes_len.Goals as goal

pub returns-in-Repeated : goal.returns-in-Repeated
returns-in-Repeated g c =
    let texts = g.C.Constants.text_of c.args.consts.now in
    let h = c.args.arena.now in
    let bytes = spelled texts h c.in-Repeated.of in
    let times = c.in-Repeated.times in
    let same : c.str_len-in-Repeated.result * times ≡ length (source_bytes texts h c.args.source) =
    ap (λ (n : ℕ). n * times) c.str_len-in-Repeated.ensures.bytes
    ∙ (mul_comm (length bytes) times ∙ (sym (length_repeat bytes times) ∙ sym (ap (λ (s : Source). length (source_bytes texts h s)) c.in-Repeated.is))) in
    c.saturating_mul.ensures ∙ ap (λ (n : ℕ). min n 18446744073709551615) same
