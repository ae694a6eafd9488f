-- Names made of letters, digits and underscores have no dot.
use Rattle.std.proofs.Common.{◌≡◌, inl, inr, ℕ, ◌≤◌, Bool, true, false, not, eqb, ◌&&◌, List, [], ◌∷◌, refl, ap, arith}
use Rattle.std.specs.List.{All}
use Rattle.std.proofs.lemmas.List.Elements.{All-head, All-tail}
use Rattle.std.proofs.lemmas.Bool.Decides.{eqb_tells}
use Rattle.py_source.specs.py_tokens.declared.token.Tok.{Tok}
use Rattle.py_source.specs.py_tokens.declared.token.Tok.TheVariants as toks
use Rattle.py_source.specs.py_tokens.declared.token.Token.{Token}
use Rattle.py_source.specs.py_tokens.Name.{IsNamePart}
use Rattle.py_source.proofs.py_tokens_lemmas.Named.{TokNamed, AllNamed}
use Rattle.emit_measures.proofs.py_tree_lemmas.Formed.{both}
use Rattle.tr_source.specs.Names.{is_undotted, token_undotted, tokens_undotted}

pub second_is : (a b : Bool) → (a && b) ≡ true → b ≡ true
second_is true b e = e
second_is false true e = refl
second_is false false e = e

no_dot : (byte : ℕ) → 47 ≤ byte → not (eqb byte 46) ≡ true
no_dot byte h = elim (eqb_tells byte 46) [ inl p ↦ absurd (let e : byte ≡ 46 = p.1 in omega arith) | inr q ↦ ap not q.0 ]

part_undotted : (byte : ℕ) → IsNamePart byte → not (eqb byte 46) ≡ true
part_undotted byte (inl (inl (inl h))) = let u : 65 ≤ byte = h.0 in no_dot byte (omega arith)
part_undotted byte (inl (inl (inr h))) = let u : 97 ≤ byte = h.0 in no_dot byte (omega arith)
part_undotted byte (inl (inr e)) = let u : byte ≡ 95 = e in no_dot byte (omega arith)
part_undotted byte (inr h) = let u : 48 ≤ byte = h.0 in no_dot byte (omega arith)

name_undotted : (text : List ℕ) → All IsNamePart text → is_undotted text ≡ true
name_undotted [] all = refl
name_undotted (x ∷ xs) all = both (not (eqb x 46)) (is_undotted xs) (part_undotted x (All-head IsNamePart x xs all)) (name_undotted xs (All-tail IsNamePart x xs all))

tok_undotted : (tok : Tok) → TokNamed tok → token_undotted tok ≡ true
tok_undotted (toks.Name text) h = name_undotted text h
tok_undotted (toks.Int n) h = refl
tok_undotted (toks.Str text) h = refl
tok_undotted (toks.Word word) h = refl
tok_undotted (toks.Op op) h = refl
tok_undotted toks.Newline h = refl
tok_undotted toks.Indent h = refl
tok_undotted toks.Dedent h = refl
tok_undotted toks.End h = refl

pub named_undotted : (list : List Token) → AllNamed list → tokens_undotted list ≡ true
named_undotted [] h = refl
named_undotted (t ∷ ts) h = both (token_undotted t.kind) (tokens_undotted ts) (tok_undotted t.kind h.0) (named_undotted ts h.1)
