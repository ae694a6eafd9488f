use Rattle.std.proofs.Common.{◌≡◌, ◌∷◌, ◌-◌, ℕ, List, false, String, length, map, string_bytes, Some, ap, ◌∙◌, sym, arith}
use Rattle.std.specs.declared.alloc.Global.{Global}
use Rattle.std.proofs.lemmas.List.{length-map}
use Rattle.mpy_words.specs.Command.{setting_of}
use Rattle.mpy_words.specs.Given.{is_given, with_option}
use Rattle.mpy_words.specs.Words.{settings, place, names_none}
use Rattle.mpy_words.proofs.Steps.{one_option}
use Rattle.mpy_words.proofs.words.settings.Goals as goal

pub more-preserved : goal.more-preserved
more-preserved c =
    let count = c.args.count in
    let cmd = c.args.command in
    let bytes = map (string_bytes {Z = Global}) in
    let word = string_bytes c.in-Some.word.now in
    let value = string_bytes c.in-Some-split_first.value.now in
    let more = c.in-Some-split_first.more.now in
    let behind : c.in-Some.behind.now ≡ c.in-Some-split_first.value.now ∷ more = c.in-Some-split_first.ensures.cases.0 in
    let rest : c.more.rest.now ≡ c.in-Some.word.now ∷ (c.in-Some-split_first.value.now ∷ more) =
    c.in-Some.ensures.cases.0 ∙ ap (λ (ws : List (String Global)). c.in-Some.word.now ∷ ws) behind in
    let set : Some c.in-Some-setting.setting ≡ setting_of cmd word = c.in-Some-setting.ensures ∙ ap (setting_of cmd) c.as_str.ensures.value in
    let none : is_given c.more.given c.in-Some-setting.setting ≡ false = sym c.has.ensures ∙ c.if-has.false in
    let file : names_none c.in-Some-setting.setting value ≡ false =
    ap (names_none c.in-Some-setting.setting) (sym c.as_str-in-Some.ensures.value) ∙ sym c.names_none.ensures ∙ c.if-names_none.false in
    let at : count - length c.in-Some.behind.now ≡ place count (bytes (c.in-Some-split_first.value.now ∷ more)) =
    ap (λ (ws : List (String Global)). count - length ws) behind ∙ ap (λ (n : ℕ). count - n) (sym (length-map (c.in-Some-split_first.value.now ∷ more) (string_bytes {Z = Global}))) in
    let with : Some c.in-Some-with.with ≡ with_option c.more.given c.in-Some-setting.setting (place count (bytes (c.in-Some-split_first.value.now ∷ more))) value =
    c.in-Some-with.ensures.options ∙ (ap (λ (n : ℕ). with_option c.more.given c.in-Some-setting.setting n c.as_bytes.result.now) at
    ∙ ap (with_option c.more.given c.in-Some-setting.setting (place count (bytes (c.in-Some-split_first.value.now ∷ more)))) c.as_bytes.ensures.value) in
    let one = one_option count cmd c.more.given c.in-Some-with.with word value (bytes more) c.in-Some-setting.setting none file set with in (
      c.more.invariant.0 ∙ (ap (λ (ws : List (String Global)). settings count cmd c.more.given (bytes ws)) rest ∙ one),
      omega (arith, c.more.invariant.1, c.in-Some.ensures.cases.1, c.in-Some-split_first.ensures.cases.1),
      c.in-Some-with.ensures.bounded count c.more.invariant.2 (omega (arith, c.more.invariant.1, c.in-Some.ensures.cases.1, c.in-Some-split_first.ensures.cases.1)),
    )
