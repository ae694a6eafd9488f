use Rattle.std.proofs.Common.{◌≡◌, ℕ, ◌<◌, ◌%◌, length, get_or, sym, ap, ◌∙◌, subst, arith}
use Rattle.std.specs.List.{repeat}
use Rattle.std.proofs.lemmas.Nat.{mod_below}
use Rattle.prim_faults.specs.arena_objects.Iterables.{spelled}
use Rattle.prim_operators.specs.declared.sources.Source.{Source}
use Rattle.prim_operators.specs.Sources.{source_bytes}
use Rattle.prim_operators.proofs.Repeats.{repeat_at}
use Rattle.prim_operators.proofs.sources.byte_at.Goals as goal

pub nonzero_rem-at : goal.nonzero_rem-at
nonzero_rem-at g c =
    let texts = g.C.Constants.text_of c.args.consts.now in
    let h = c.args.arena.now in
    let bytes = spelled texts h c.in-Repeated.of in
    let within : c.args.at < length (repeat c.in-Repeated.field-0 bytes) = subst (λ (s : Source). c.args.at < length (source_bytes texts h s)) c.in-Repeated.is c.requires.within in
    let read = repeat_at bytes c.in-Repeated.field-0 c.args.at 0 within in
    let len : c.str_len-len-in-Repeated.result ≡ length bytes = c.str_len-len-in-Repeated.ensures.bytes in
    omega (arith, read.0, len)

pub str_byte-requires-in-Repeated-clause-within : goal.str_byte-requires-in-Repeated-clause-within
str_byte-requires-in-Repeated-clause-within g c =
    let texts = g.C.Constants.text_of c.args.consts.now in
    let h = c.args.arena.now in
    let bytes = spelled texts h c.in-Repeated.of in
    let within : c.args.at < length (repeat c.in-Repeated.field-0 bytes) = subst (λ (s : Source). c.args.at < length (source_bytes texts h s)) c.in-Repeated.is c.requires.within in
    let read = repeat_at bytes c.in-Repeated.field-0 c.args.at 0 within in
    let len : c.str_len-len-in-Repeated.result ≡ length bytes = c.str_len-len-in-Repeated.ensures.bytes in
    let some : 0 < c.str_len-len-in-Repeated.result = omega (arith, read.0, len) in
    omega (arith, len, mod_below c.args.at c.str_len-len-in-Repeated.result some)

pub returns-in-Repeated-clause-byte : goal.returns-in-Repeated-clause-byte
returns-in-Repeated-clause-byte g c =
    let texts = g.C.Constants.text_of c.args.consts.now in
    let h = c.args.arena.now in
    let bytes = spelled texts h c.in-Repeated.of in
    let within : c.args.at < length (repeat c.in-Repeated.field-0 bytes) = subst (λ (s : Source). c.args.at < length (source_bytes texts h s)) c.in-Repeated.is c.requires.within in
    let read = repeat_at bytes c.in-Repeated.field-0 c.args.at 0 within in
    let len : c.str_len-len-in-Repeated.result ≡ length bytes = c.str_len-len-in-Repeated.ensures.bytes in
    c.str_byte-in-Repeated.ensures.byte
    ∙ (ap (λ (n : ℕ). get_or bytes (c.args.at % n) 0) len ∙ (sym read.1 ∙ sym (ap (λ (s : Source). get_or (source_bytes texts h s) c.args.at 0) c.in-Repeated.is)))
