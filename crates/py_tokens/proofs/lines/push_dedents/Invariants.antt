use Rattle.std.proofs.Common.{◌≡◌, ◌++◌, ◌≤◌, vec_len}
use Rattle.std.specs.Prelude.{replicate}
use Rattle.py_tokens.specs.declared.token.Tok.TheVariants as toks
use Rattle.py_tokens.specs.Lines.{empty_token}
use Rattle.py_tokens.proofs.lines.push_dedents.Given as goal

abbrev pub invariant-loop-dedent : goal.invariant-loop-dedent
invariant-loop-dedent l = record {
  items : l.tokens.items ≡ l.initial.tokens.items ++ replicate l._dedent (empty_token toks.Dedent (record { at = l.at; line = l.line }));
  longer : vec_len l.initial.tokens ≤ vec_len l.tokens;
}
