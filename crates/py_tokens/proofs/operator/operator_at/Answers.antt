use Rattle.std.proofs.Common.{take, refl, arith}
use Rattle.py_tokens.proofs.Operators.{IsFront, longest, length_front, only, some_stands}
use Rattle.py_tokens.proofs.operator.operator_at.Goals as goal

pub returns-in-Some-clause-found : goal.returns-in-Some-clause-found
returns-in-Some-clause-found c =
    let bytes = c.args.bytes.now in
    let front : IsFront 3 bytes c.in-Some.operator = (c.in-Some.ensures c.in-Some.operator).0 refl in
    let this = longest 3 bytes c.in-Some.operator (omega arith) (omega arith) front (λ h. absurd (omega arith)) (λ h. absurd (omega arith)) in
    (take 3 bytes, this, length_front 3 bytes c.in-Some.operator front)

pub returns-in-Some-clause-only : goal.returns-in-Some-clause-only
returns-in-Some-clause-only c =
    let bytes = c.args.bytes.now in
    let front : IsFront 3 bytes c.in-Some.operator = (c.in-Some.ensures c.in-Some.operator).0 refl in
    only 3 bytes c.in-Some.operator front (longest 3 bytes c.in-Some.operator (omega arith) (omega arith) front (λ h. absurd (omega arith)) (λ h. absurd (omega arith)))

pub returns-in-Some-clause-none : goal.returns-in-Some-clause-none
returns-in-Some-clause-none c =
    let bytes = c.args.bytes.now in
    let front : IsFront 3 bytes c.in-Some.operator = (c.in-Some.ensures c.in-Some.operator).0 refl in
    (λ e. absurd cc, λ none. absurd (some_stands 3 bytes c.in-Some.operator front none))

pub returns-in-Some-operator_of_front-clause-found : goal.returns-in-Some-operator_of_front-clause-found
returns-in-Some-operator_of_front-clause-found c =
    let bytes = c.args.bytes.now in
    let front : IsFront 2 bytes c.in-Some-operator_of_front.operator = (c.in-Some-operator_of_front.ensures c.in-Some-operator_of_front.operator).0 refl in
    let this = longest 2 bytes c.in-Some-operator_of_front.operator (omega arith) (omega arith) front (λ h. absurd (omega arith)) (λ _ other front. c.in_default.not-Some other ((c.operator_of_front.ensures other).1 front)) in
    (take 2 bytes, this, length_front 2 bytes c.in-Some-operator_of_front.operator front)

pub returns-in-Some-operator_of_front-clause-only : goal.returns-in-Some-operator_of_front-clause-only
returns-in-Some-operator_of_front-clause-only c =
    let bytes = c.args.bytes.now in
    let front : IsFront 2 bytes c.in-Some-operator_of_front.operator = (c.in-Some-operator_of_front.ensures c.in-Some-operator_of_front.operator).0 refl in
    only 2 bytes c.in-Some-operator_of_front.operator front (longest 2 bytes c.in-Some-operator_of_front.operator (omega arith) (omega arith) front (λ h. absurd (omega arith)) (λ _ other front. c.in_default.not-Some other ((c.operator_of_front.ensures other).1 front)))

pub returns-in-Some-operator_of_front-clause-none : goal.returns-in-Some-operator_of_front-clause-none
returns-in-Some-operator_of_front-clause-none c =
    let bytes = c.args.bytes.now in
    let front : IsFront 2 bytes c.in-Some-operator_of_front.operator = (c.in-Some-operator_of_front.ensures c.in-Some-operator_of_front.operator).0 refl in
    (λ e. absurd cc, λ none. absurd (some_stands 2 bytes c.in-Some-operator_of_front.operator front none))

pub returns-clause-found : goal.returns-clause-found
returns-clause-found c =
    let bytes = c.args.bytes.now in
    let front : IsFront 1 bytes c.in_ok-operator.operator = (c.in_ok-operator.ensures c.in_ok-operator.operator).0 refl in
    let this = longest 1 bytes c.in_ok-operator.operator (omega arith) (omega arith) front (λ _ other front. c.in_default-operator_of_front.not-Some other ((c.operator_of_front-2.ensures other).1 front)) (λ _ other front. c.in_default.not-Some other ((c.operator_of_front.ensures other).1 front)) in
    (take 1 bytes, this, length_front 1 bytes c.in_ok-operator.operator front)

pub returns-clause-only : goal.returns-clause-only
returns-clause-only c =
    let bytes = c.args.bytes.now in
    let front : IsFront 1 bytes c.in_ok-operator.operator = (c.in_ok-operator.ensures c.in_ok-operator.operator).0 refl in
    only 1 bytes c.in_ok-operator.operator front (longest 1 bytes c.in_ok-operator.operator (omega arith) (omega arith) front (λ _ other front. c.in_default-operator_of_front.not-Some other ((c.operator_of_front-2.ensures other).1 front)) (λ _ other front. c.in_default.not-Some other ((c.operator_of_front.ensures other).1 front)))

pub returns-clause-none : goal.returns-clause-none
returns-clause-none c =
    let bytes = c.args.bytes.now in
    let front : IsFront 1 bytes c.in_ok-operator.operator = (c.in_ok-operator.ensures c.in_ok-operator.operator).0 refl in
    (λ e. absurd cc, λ none. absurd (some_stands 1 bytes c.in_ok-operator.operator front none))
