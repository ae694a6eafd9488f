use Rattle.std.proofs.Common.{◌+◌, List, ℕ, drop, ap, sym, ◌∙◌, subst}
use Rattle.std.proofs.lemmas.Result.{err_from_is_err_and}
use Rattle.bc_prelude.proofs.Signatures.{SignatureResult, signature_refused}
use Rattle.bc_prelude.proofs.Sizes.{SizeResult, size_refused}
use Rattle.bc_prelude.proofs.Indexes.{NamesResult, names_read, names_refused}
use Rattle.bc_prelude.proofs.Preludes.{prelude_no_signature, prelude_no_size, prelude_no_names, prelude_found, prelude_begins, fronted, behind_text, information_is}
use Rattle.bc_prelude.proofs.prelude.read_prelude.Goals as goal

pub returns-in_err-signature : goal.returns-in_err-signature
returns-in_err-signature c =
    let p = err_from_is_err_and c.from_residual.result c.from_residual.ensures.1 in
    let h = c.in_err-signature.ensures in
    let s : SignatureResult c.args.code.now (signature_refused c.in_err-signature.field-0.0) = record { only = h.only; truncated = h.truncated; too_big = h.too_big; outside = h.outside } in
    let r = prelude_no_signature c.args.code.now c.in_err-signature.field-0.0 s in
    rw (p.1, p.2) (record { found = tt; only = r.only; truncated = r.truncated; too_big = r.too_big; outside = r.outside })

pub returns-in_err-size : goal.returns-in_err-size
returns-in_err-size c =
    let p = err_from_is_err_and c.from_residual-in_err-size.result c.from_residual-in_err-size.ensures.1 in
    let f = c.in_ok-signature.ensures.found in
    let rest_is = behind_text c.args.code.now f.0 f.1 c.in_ok-signature.size_at f.3 f.4 in
    let h = c.in_err-size.ensures in
    let s : SizeResult (drop c.in_ok-signature.size_at c.args.code.now) c.in_ok-signature.size_at (size_refused c.in_err-size.field-0.0) = record { only = h.only; truncated = h.truncated; outside = h.outside } in
    let t = subst (λ (z : List ℕ). SizeResult z c.in_ok-signature.size_at (size_refused c.in_err-size.field-0.0)) rest_is s in
    let r = prelude_no_size c.args.code.now f.0 f.1 c.in_ok-signature.signature c.in_ok-signature.size_at c.in_err-size.field-0.0 f.2 f.3 t (λ e. h.any_size (ap size_refused e)) in
    rw (p.1, p.2) (record { found = tt; only = r.only; truncated = r.truncated; too_big = r.too_big; outside = r.outside })

pub returns-in_err-lines_at : goal.returns-in_err-lines_at
returns-in_err-lines_at c =
    let p = err_from_is_err_and c.from_residual-in_err-lines_at.result c.from_residual-in_err-lines_at.ensures.1 in
    let f = c.in_ok-signature.ensures.found in
    let g = c.in_ok-size.ensures.found in
    let w = fronted c.args.code.now f.0 f.1 g.0 g.1 c.in_ok-signature.signature c.in_ok-size.size c.in_ok-signature.size_at c.in_ok-size.info_at f.2 f.3 f.4 g.2 g.3 g.4 g.5 in
    let h = c.in_err-lines_at.ensures in
    let s : NamesResult _ c.in_ok-size.info_at (1 + c.in_ok-signature.signature.args) (names_refused c.in_err-lines_at.field-0.0) = record { only = h.only; truncated = h.truncated; too_big = h.too_big } in
    let t = subst (λ (z : List ℕ). NamesResult z c.in_ok-size.info_at (1 + c.in_ok-signature.signature.args) (names_refused c.in_err-lines_at.field-0.0)) (information_is c.args.code.now c.in_ok-signature.signature c.in_ok-size.size c.in_ok-size.info_at w) s in
    let r = prelude_no_names c.args.code.now c.in_ok-signature.signature c.in_ok-size.size c.in_ok-size.info_at c.in_ok-size.info_at c.in_err-lines_at.field-0.0 w t (λ e. h.inside (ap names_refused e)) in
    rw (p.1, p.2) (record { found = tt; only = r.only; truncated = r.truncated; too_big = r.too_big; outside = r.outside })

pub returns : goal.returns
returns c =
    let f = c.in_ok-signature.ensures.found in
    let g = c.in_ok-size.ensures.found in
    let w = fronted c.args.code.now f.0 f.1 g.0 g.1 c.in_ok-signature.signature c.in_ok-size.size c.in_ok-signature.size_at c.in_ok-size.info_at f.2 f.3 f.4 g.2 g.3 g.4 g.5 in
    let h = c.in_ok-lines_at.ensures in
    let n = h.found in
    let information = information_is c.args.code.now c.in_ok-signature.signature c.in_ok-size.size c.in_ok-size.info_at w in
    let s : NamesResult _ c.in_ok-size.info_at (1 + c.in_ok-signature.signature.args) (names_read c.in_ok-lines_at.lines_at) = record { only = h.only; truncated = h.truncated; too_big = h.too_big } in
    let t = subst (λ (z : List ℕ). NamesResult z c.in_ok-size.info_at (1 + c.in_ok-signature.signature.args) (names_read c.in_ok-lines_at.lines_at)) information s in
    let begins = prelude_begins c.args.code.now c.in_ok-signature.signature c.in_ok-size.size c.in_ok-size.info_at c.in_ok-lines_at.lines_at w n.0 n.1 n.2 n.3 n.4 (sym information ∙ n.5) n.6 in
    let r = prelude_found c.args.code.now c.in_ok-signature.signature c.in_ok-size.size c.in_ok-size.info_at c.in_ok-lines_at.lines_at c.in_ok-size.info_at w t begins in
    record { found = begins; only = r.only; truncated = r.truncated; too_big = r.too_big; outside = r.outside }
