use Rattle.std.proofs.Common.{◌≡◌, min, take}
use Rattle.py_tokens.specs.Digits.{value_of}
use Rattle.py_tokens.specs.declared.digits.TheConstants.{TOO_BIG}
use Rattle.py_tokens.proofs.Values.{IsLeft}
use Rattle.py_tokens.proofs.digits.value_of_digits.Given as goal

-- whether the text is digits depends on what is left of it
abbrev pub invariant-loop-byte : goal.invariant-loop-byte
invariant-loop-byte l = record {
  left : IsLeft l.base l.text l.after_digit l.byte-index;
  value : l.value ≡ min (value_of l.base (take l.byte-index l.text)) TOO_BIG;
}
