use Rattle.std.proofs.Common.{refl, ◌∙◌}
use Rattle.prim_faults.proofs.Wordings.{by_fault}
use Rattle.prim_faults.proofs.wording.wording.Goals as goal

pub returns-in-Unsupported-clause-text : goal.returns-in-Unsupported-clause-text
returns-in-Unsupported-clause-text c = by_fault _ _ c.unsupported.result _ c.in-Unsupported.is c.unsupported.ensures.text (λ texts tuples heap. refl)

pub returns-in-UnsupportedOne-clause-text : goal.returns-in-UnsupportedOne-clause-text
returns-in-UnsupportedOne-clause-text c = by_fault _ _ c.unsupported_one.result _ c.in-UnsupportedOne.is c.unsupported_one.ensures.text (λ texts tuples heap. refl)

pub returns-in-UnsupportedMatch-clause-text : goal.returns-in-UnsupportedMatch-clause-text
returns-in-UnsupportedMatch-clause-text c = by_fault _ _ c.plain.result _ c.in-UnsupportedMatch.is c.plain.ensures.text (λ texts tuples heap. refl)

pub returns-in-NotAnException-clause-text : goal.returns-in-NotAnException-clause-text
returns-in-NotAnException-clause-text c = by_fault _ _ c.plain-in-NotAnException.result _ c.in-NotAnException.is c.plain-in-NotAnException.ensures.text (λ texts tuples heap. refl)

pub returns-in-Arithmetic-clause-text : goal.returns-in-Arithmetic-clause-text
returns-in-Arithmetic-clause-text c = by_fault _ _ c.plain-in-Arithmetic.result _ c.in-Arithmetic.is (λ name. c.plain-in-Arithmetic.ensures.text name ∙ c.number_text.ensures.text) (λ texts tuples heap. refl)

pub returns-in-NotCallable-clause-text : goal.returns-in-NotCallable-clause-text
returns-in-NotCallable-clause-text c = by_fault _ _ c.object_does.result _ c.in-NotCallable.is c.object_does.ensures.text (λ texts tuples heap. refl)

pub returns-in-NotIterable-clause-text : goal.returns-in-NotIterable-clause-text
returns-in-NotIterable-clause-text c = by_fault _ _ c.object_does-in-NotIterable.result _ c.in-NotIterable.is c.object_does-in-NotIterable.ensures.text (λ texts tuples heap. refl)

pub returns-in-NotSubscriptable-clause-text : goal.returns-in-NotSubscriptable-clause-text
returns-in-NotSubscriptable-clause-text c = by_fault _ _ c.object_does-in-NotSubscriptable.result _ c.in-NotSubscriptable.is c.object_does-in-NotSubscriptable.ensures.text (λ texts tuples heap. refl)

pub returns-in-NotAssignable-clause-text : goal.returns-in-NotAssignable-clause-text
returns-in-NotAssignable-clause-text c = by_fault _ _ c.object_does-in-NotAssignable.result _ c.in-NotAssignable.is c.object_does-in-NotAssignable.ensures.text (λ texts tuples heap. refl)

pub returns-in-NotDeletable-clause-text : goal.returns-in-NotDeletable-clause-text
returns-in-NotDeletable-clause-text c = by_fault _ _ c.object_does-in-NotDeletable.result _ c.in-NotDeletable.is c.object_does-in-NotDeletable.ensures.text (λ texts tuples heap. refl)

pub returns-in-NoLength-clause-text : goal.returns-in-NoLength-clause-text
returns-in-NoLength-clause-text c = by_fault _ _ c.no_length.result _ c.in-NoLength.is c.no_length.ensures.text (λ texts tuples heap. refl)

pub returns-in-NotANumber-clause-text : goal.returns-in-NotANumber-clause-text
returns-in-NotANumber-clause-text c = by_fault _ _ c.typed.result _ c.in-NotANumber.is c.typed.ensures.text (λ texts tuples heap. refl)

pub returns-in-NotAnIndex-clause-text : goal.returns-in-NotAnIndex-clause-text
returns-in-NotAnIndex-clause-text c = by_fault _ _ c.not_an_index.result _ c.in-NotAnIndex.is c.not_an_index.ensures.text (λ texts tuples heap. refl)

pub returns-in-OutOfRange-clause-text : goal.returns-in-OutOfRange-clause-text
returns-in-OutOfRange-clause-text c = by_fault _ _ c.typed-in-OutOfRange.result _ c.in-OutOfRange.is c.typed-in-OutOfRange.ensures.text (λ texts tuples heap. refl)

pub returns-in-EmptyList-clause-text : goal.returns-in-EmptyList-clause-text
returns-in-EmptyList-clause-text c = by_fault _ _ c.plain-in-EmptyList.result _ c.in-EmptyList.is c.plain-in-EmptyList.ensures.text (λ texts tuples heap. refl)

pub returns-in-NoKey-clause-text : goal.returns-in-NoKey-clause-text
returns-in-NoKey-clause-text c = by_fault _ _ c.plain-in-NoKey.result _ c.in-NoKey.is c.plain-in-NoKey.ensures.text (λ texts tuples heap. refl)

pub returns-in-NoAttribute-clause-text : goal.returns-in-NoAttribute-clause-text
returns-in-NoAttribute-clause-text c = by_fault _ _ c.no_attribute.result _ c.in-NoAttribute.is c.no_attribute.ensures.text (λ texts tuples heap. refl)

pub returns-in-WrongCount-clause-text : goal.returns-in-WrongCount-clause-text
returns-in-WrongCount-clause-text c = by_fault _ _ c.given_counts.result _ c.in-WrongCount.is c.given_counts.ensures.text (λ texts tuples heap. refl)

pub returns-in-Missing-clause-text : goal.returns-in-Missing-clause-text
returns-in-Missing-clause-text c = by_fault _ _ c.counted.result _ c.in-Missing.is c.counted.ensures.text (λ texts tuples heap. refl)

pub returns-in-TooFew-clause-text : goal.returns-in-TooFew-clause-text
returns-in-TooFew-clause-text c = by_fault _ _ c.given_counts-in-TooFew.result _ c.in-TooFew.is c.given_counts-in-TooFew.ensures.text (λ texts tuples heap. refl)

pub returns-in-TooMany-clause-text : goal.returns-in-TooMany-clause-text
returns-in-TooMany-clause-text c = by_fault _ _ c.given_counts-in-TooMany.result _ c.in-TooMany.is c.given_counts-in-TooMany.ensures.text (λ texts tuples heap. refl)

pub returns-in-NoKeywords-clause-text : goal.returns-in-NoKeywords-clause-text
returns-in-NoKeywords-clause-text c = by_fault _ _ c.plain-in-NoKeywords.result _ c.in-NoKeywords.is c.plain-in-NoKeywords.ensures.text (λ texts tuples heap. refl)

pub returns-in-KeywordNotAStr-clause-text : goal.returns-in-KeywordNotAStr-clause-text
returns-in-KeywordNotAStr-clause-text c = by_fault _ _ c.plain-in-KeywordNotAStr.result _ c.in-KeywordNotAStr.is c.plain-in-KeywordNotAStr.ensures.text (λ texts tuples heap. refl)

pub returns-in-UnknownKeyword-clause-text : goal.returns-in-UnknownKeyword-clause-text
returns-in-UnknownKeyword-clause-text c = by_fault _ _ c.named.result _ c.in-UnknownKeyword.is c.named.ensures.text (λ texts tuples heap. refl)

pub returns-in-RepeatedKeyword-clause-text : goal.returns-in-RepeatedKeyword-clause-text
returns-in-RepeatedKeyword-clause-text c = by_fault _ _ c.named-in-RepeatedKeyword.result _ c.in-RepeatedKeyword.is c.named-in-RepeatedKeyword.ensures.text (λ texts tuples heap. refl)

pub returns-in-NotAStr-clause-text : goal.returns-in-NotAStr-clause-text
returns-in-NotAStr-clause-text c = by_fault _ _ c.not_a_str.result _ c.in-NotAStr.is c.not_a_str.ensures.text (λ texts tuples heap. refl)

pub returns-in-ZeroStep-clause-text : goal.returns-in-ZeroStep-clause-text
returns-in-ZeroStep-clause-text c = by_fault _ _ c.plain-in-ZeroStep.result _ c.in-ZeroStep.is c.plain-in-ZeroStep.ensures.text (λ texts tuples heap. refl)

pub returns-in-NothingToCompare-clause-text : goal.returns-in-NothingToCompare-clause-text
returns-in-NothingToCompare-clause-text c = by_fault _ _ c.plain-in-NothingToCompare.result _ c.in-NothingToCompare.is c.plain-in-NothingToCompare.ensures.text (λ texts tuples heap. refl)

pub returns-in-NoNumeral-clause-text : goal.returns-in-NoNumeral-clause-text
returns-in-NoNumeral-clause-text c = by_fault _ _ c.plain-in-NoNumeral.result _ c.in-NoNumeral.is c.plain-in-NoNumeral.ensures.text (λ texts tuples heap. refl)

pub returns-in-NoCharacter-clause-text : goal.returns-in-NoCharacter-clause-text
returns-in-NoCharacter-clause-text c = by_fault _ _ c.plain-in-NoCharacter.result _ c.in-NoCharacter.is c.plain-in-NoCharacter.ensures.text (λ texts tuples heap. refl)

pub returns-in-NoCode-clause-text : goal.returns-in-NoCode-clause-text
returns-in-NoCode-clause-text c = by_fault _ _ c.plain-in-NoCode.result _ c.in-NoCode.is c.plain-in-NoCode.ensures.text (λ texts tuples heap. refl)

pub returns-in-NotTypes-clause-text : goal.returns-in-NotTypes-clause-text
returns-in-NotTypes-clause-text c = by_fault _ _ c.plain-in-NotTypes.result _ c.in-NotTypes.is c.plain-in-NotTypes.ensures.text (λ texts tuples heap. refl)

pub returns-in-JoinsNoStr-clause-text : goal.returns-in-JoinsNoStr-clause-text
returns-in-JoinsNoStr-clause-text c = by_fault _ _ c.plain-in-JoinsNoStr.result _ c.in-JoinsNoStr.is c.plain-in-JoinsNoStr.ensures.text (λ texts tuples heap. refl)

pub returns-in-EmptySeparator-clause-text : goal.returns-in-EmptySeparator-clause-text
returns-in-EmptySeparator-clause-text c = by_fault _ _ c.plain-in-EmptySeparator.result _ c.in-EmptySeparator.is c.plain-in-EmptySeparator.ensures.text (λ texts tuples heap. refl)

pub returns-in-NoSuchPort-clause-text : goal.returns-in-NoSuchPort-clause-text
returns-in-NoSuchPort-clause-text c = by_fault _ _ c.plain-in-NoSuchPort.result _ c.in-NoSuchPort.is c.plain-in-NoSuchPort.ensures.text (λ texts tuples heap. refl)

pub returns-in-PortFailed-clause-text : goal.returns-in-PortFailed-clause-text
returns-in-PortFailed-clause-text c = by_fault _ _ c.plain-in-PortFailed.result _ c.in-PortFailed.is c.plain-in-PortFailed.ensures.text (λ texts tuples heap. refl)

pub returns-in-NoSuchName-clause-text : goal.returns-in-NoSuchName-clause-text
returns-in-NoSuchName-clause-text c = by_fault _ _ c.no_such_name.result _ c.in-NoSuchName.is c.no_such_name.ensures.text (λ texts tuples heap. refl)

pub returns-in-Unassigned-clause-text : goal.returns-in-Unassigned-clause-text
returns-in-Unassigned-clause-text c = by_fault _ _ c.plain-in-Unassigned.result _ c.in-Unassigned.is c.plain-in-Unassigned.ensures.text (λ texts tuples heap. refl)

pub returns-in-NotImported-clause-text : goal.returns-in-NotImported-clause-text
returns-in-NotImported-clause-text c = by_fault _ _ c.named-in-NotImported.result _ c.in-NotImported.is c.named-in-NotImported.ensures.text (λ texts tuples heap. refl)

pub returns-in-UnpacksMore-clause-text : goal.returns-in-UnpacksMore-clause-text
returns-in-UnpacksMore-clause-text c = by_fault _ _ c.counted-in-UnpacksMore.result _ c.in-UnpacksMore.is c.counted-in-UnpacksMore.ensures.text (λ texts tuples heap. refl)

pub returns-in-UnpacksFewer-clause-text : goal.returns-in-UnpacksFewer-clause-text
returns-in-UnpacksFewer-clause-text c = by_fault _ _ c.counted-in-UnpacksFewer.result _ c.in-UnpacksFewer.is c.counted-in-UnpacksFewer.ensures.text (λ texts tuples heap. refl)

pub returns-in-NothingToRaise-clause-text : goal.returns-in-NothingToRaise-clause-text
returns-in-NothingToRaise-clause-text c = by_fault _ _ c.plain-in-NothingToRaise.result _ c.in-NothingToRaise.is c.plain-in-NothingToRaise.ensures.text (λ texts tuples heap. refl)

pub returns-in-TooDeep-clause-text : goal.returns-in-TooDeep-clause-text
returns-in-TooDeep-clause-text c = by_fault _ _ c.plain-in-TooDeep.result _ c.in-TooDeep.is c.plain-in-TooDeep.ensures.text (λ texts tuples heap. refl)

pub returns-in-NoModule-clause-text : goal.returns-in-NoModule-clause-text
returns-in-NoModule-clause-text c = by_fault _ _ c.named-in-NoModule.result _ c.in-NoModule.is c.named-in-NoModule.ensures.text (λ texts tuples heap. refl)

pub returns-in-RelativeImport-clause-text : goal.returns-in-RelativeImport-clause-text
returns-in-RelativeImport-clause-text c = by_fault _ _ c.plain-in-RelativeImport.result _ c.in-RelativeImport.is c.plain-in-RelativeImport.ensures.text (λ texts tuples heap. refl)

pub returns-in-IncompatibleFile-clause-text : goal.returns-in-IncompatibleFile-clause-text
returns-in-IncompatibleFile-clause-text c = by_fault _ _ c.plain-in-IncompatibleFile.result _ c.in-IncompatibleFile.is c.plain-in-IncompatibleFile.ensures.text (λ texts tuples heap. refl)

pub returns-in-BadDefaults-clause-text : goal.returns-in-BadDefaults-clause-text
returns-in-BadDefaults-clause-text c = by_fault _ _ c.plain-in-BadDefaults.result _ c.in-BadDefaults.is c.plain-in-BadDefaults.ensures.text (λ texts tuples heap. refl)
