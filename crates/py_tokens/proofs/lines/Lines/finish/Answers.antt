use Rattle.std.proofs.Common.{◌≡◌, ◌++◌, ◌∷◌, [], List, ℕ, ◌-◌, inl, inr, length, ap, ◌∙◌, arith}
use Rattle.std.specs.Prelude.{replicate}
use Rattle.py_tokens.specs.declared.token.Token.{Token}
use Rattle.py_tokens.specs.declared.token.Tok.TheVariants as toks
use Rattle.py_tokens.specs.Lines.{Place, empty_token}
use Rattle.py_tokens.specs.Going.{known_level}
use Rattle.py_tokens.proofs.Going.{finishes}
use Rattle.py_tokens.proofs.lines.Lines.finish.Goals.{then-is_open+in_ok-push, else-is_open}
use Rattle.py_tokens.proofs.lines.Lines.finish.Goals as goal

pub returns : goal.returns
returns c =
    let here = c.args.self in
    let place : Place = record { at = here.at; line = here.line } in
    let len : c.len.result ≡ length here.levels.items = omega (arith, here.levels.ok.0, c.len.ensures) in
    let before = c.if-is_open.tokens.items in
    let all = c.in_ok-push-2.ensures.items
    ∙ (ap (λ (z : List Token). z ++ c.empty_token-2.result ∷ []) (c.in_ok-push_dedents.ensures.ok ∙ ap (λ (n : ℕ). before ++ replicate (n - 1) (empty_token toks.Dedent place)) len)
    ∙ ap (λ (z : Token). (before ++ replicate (length here.levels.items - 1) (empty_token toks.Dedent place)) ++ z ∷ []) c.empty_token-2.ensures) in
    finishes here.tokens.items before c.push-2.new.self.items here.levels.items here.brackets (known_level here.is_new here.level here.level_line) here.is_open place
    (elim c.if-is_open.branch [
      | then-is_open+in_ok-push w ↦ inl (w.if-is_open.true, ap (λ z. z.items) w.tokens-is ∙ (w.in_ok-push.ensures.items ∙ ap (λ (z : Token). here.tokens.items ++ z ∷ []) w.empty_token.ensures))
      | else-is_open w ↦ inr (w.if-is_open.false, ap (λ z. z.items) w.tokens-is)
    ]) all
