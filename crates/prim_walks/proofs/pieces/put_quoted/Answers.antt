use Rattle.std.proofs.Common.{◌≡◌, ℕ, List, [], ◌∷◌, ◌++◌, get_or, take, take_all, sym, ap, ◌∙◌, arith}
use Rattle.std.specs.List.{flat_map}
use Rattle.py_primitives.specs.Texts.{quote_of, escaped}
use Rattle.prim_walks.proofs.PenSteps.{wrote_then, wrote_as, flat_more}
use Rattle.prim_walks.proofs.pieces.put_quoted.Goals as goal

pub loop-byte-preserved : goal.loop-byte-preserved
loop-byte-preserved g c =
    let bytes = c.args.bytes.now in
    let q = quote_of bytes in
    let i = c.loop-byte.byte-index in
    let b = get_or bytes i 0 in
    let front = flat_map (escaped q) (take i bytes) in
    wrote_as (wrote_then c.loop-byte.invariant c.put_escaped.ensures)
    (ap (λ (n : ℕ). (q ∷ front) ++ escaped n b) c.quote_of-quote.ensures.quote ∙ ap (λ (ys : List ℕ). q ∷ ys) (sym (flat_more (escaped q) bytes i 0 c.loop-byte-test.true)))

pub returns : goal.returns
returns g c =
    let bytes = c.args.bytes.now in
    let q = quote_of bytes in
    let i = c.loop-byte.byte-index in
    let whole : take i bytes ≡ bytes = take_all i bytes (omega (arith, c.loop-byte-test.false)) in
    wrote_as (wrote_then c.loop-byte.invariant c.put-2.ensures)
    (ap (λ (ys : List ℕ). (q ∷ flat_map (escaped q) ys) ++ c.quote_of-quote.result ∷ []) whole ∙ ap (λ (n : ℕ). (q ∷ flat_map (escaped q) bytes) ++ n ∷ []) c.quote_of-quote.ensures.quote)
