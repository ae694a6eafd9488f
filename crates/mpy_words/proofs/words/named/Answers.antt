use Rattle.std.proofs.Common.{◌≡◌, ◌<◌, ◌+◌, ◌-◌, ◌∷◌, ℕ, List, true, None, Err, String, length, map, drop, get_or, string_bytes, ap, sym, subst, ◌∙◌}
use Rattle.std.specs.declared.alloc.Global.{Global}
use Rattle.std.proofs.lemmas.List.{drop_more, length-map}
use Rattle.mpy_words.specs.declared.order.Named.{Named}
use Rattle.mpy_words.specs.declared.order.Named.TheVariants.{Source}
use Rattle.mpy_words.specs.declared.order.WordFault.TheVariants.{Unknown}
use Rattle.mpy_words.specs.Command.{names_of, setting_of}
use Rattle.mpy_words.specs.Words.{begins_with_dash, named}
use Rattle.mpy_words.proofs.Steps.{unknown_name}
use Rattle.mpy_words.proofs.words.named.Goals as goal

pub returns-in-None-clause-order : goal.returns-in-None-clause-order
returns-in-None-clause-order c =
    let count = c.args.count in
    let cmd = c.args.command in
    let given = c.loop-wanted.given in
    let i = c.loop-wanted.wanted-index in
    let names = names_of cmd in
    let bytes = map (string_bytes {Z = Global}) in
    let rest = c.loop-wanted.rest.now in
    let word = string_bytes c.in-Some.word.now in
    let behind = bytes c.in-Some.behind.now in
    let words : bytes rest ≡ word ∷ behind = ap bytes c.in-Some.ensures.cases.0 in
    let dash : begins_with_dash word ≡ true = ap begins_with_dash (sym c.as_str.ensures.value) ∙ (sym c.begins_with_dash.ensures ∙ c.if-begins_with_dash.true) in
    let none : None ≡ setting_of cmd word = c.in-None.ensures ∙ ap (setting_of cmd) c.as_str-then-begins_with_dash.ensures.value in
    let less : i < length names = subst (λ (ns : List Named). i < length ns) c.names-wanted-items.ensures c.loop-wanted-test.true in
    let left : drop i names ≡ get_or names i Source ∷ drop (i + 1) names = drop_more names i Source less in
    let many : length rest ≡ length (word ∷ behind) = sym (length-map rest (string_bytes {Z = Global})) ∙ ap length words in
    ap (λ (n : ℕ). Err (Unknown (count - n))) many
    ∙ sym (c.loop-wanted.invariant.0
    ∙ (ap (λ (ns : List Named). named count cmd given ns (bytes rest)) left
    ∙ (ap (λ (ws : List (List ℕ)). named count cmd given (get_or names i Source ∷ drop (i + 1) names) ws) words
    ∙ unknown_name count cmd given (get_or names i Source) (drop (i + 1) names) word behind dash none)))
