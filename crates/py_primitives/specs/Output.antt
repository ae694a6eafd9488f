-- Calls that write to the output, and those of ports.
use Rattle.std.specs.Prelude.{ℕ, ◌+◌, ◌-◌, ◌^◌, min, ℤ, pos, negsuc, List, [], ◌∷◌, ◌++◌, length, Bool, Option, Some, None}
use Rattle.std.specs.Prelude.{Result, Ok, Err, nat_eq, bytes_eq, slice_get, slice_set, unwrap_or, codes, if◌then◌else◌}
use Rattle.std.specs.List.{list_any}
use Rattle.py_values.specs.mpy_base.declared.builtin.Builtin.{Builtin}
use Rattle.py_values.specs.mpy_base.declared.builtin.Builtin.TheVariants as builtins
use Rattle.py_values.specs.mpy_base.World.{PortState}
use Rattle.py_values.specs.mpy_base.Val.{Val, Nil, Int}
use Rattle.py_values.specs.declared.small_int.NumFault.TheVariants.{Overflow}
use Rattle.py_values.specs.Range.{is_small}
use Rattle.py_values.specs.Shown.{PlainHeap, Shown, Number, Text, shown}
use Rattle.py_values.specs.Names.{type_name}
use Rattle.py_primitives.specs.Walks.{walk_all}
use Rattle.py_primitives.specs.Texts.{str_of, joined}
use Rattle.py_primitives.specs.Calls.{counts_of, count_fault}
use Rattle.py_primitives.specs.Faults.{Fault, NoKeywords, KeywordNotAStr, UnknownKeyword, RepeatedKeyword, NotAStr, NotANumber}
use Rattle.py_primitives.specs.Faults.{NoSuchPort, PortFailed, Arithmetic}
use Rattle.py_primitives.specs.Outcome.{Outcome, Stop, Raises, gives, raises, after_walk}

-- print
-- =====

-- what stands between the texts and behind them, where it is given
pub record Ends : Type 0 where
  pub sep : Option (List ℕ)
  pub last : Option (List ℕ)

-- what a keyword gives, unless it was given before; it must be a str
abbrev pub if_new : List ℕ → Option (List ℕ) → Shown → (List ℕ → Ends) → Result Ends Fault
if_new name (Some old) v given = Err (RepeatedKeyword name)
if_new name None (Text bytes) given = Ok (given bytes)
if_new name None _ given = Err (NotAStr name)

-- what the keyword of this name gives: `sep` or `end`
abbrev pub named_end : Ends → List ℕ → Shown → Result Ends Fault
named_end ends name v =
    if bytes_eq name (codes "sep") then if_new name ends.sep v (λ bytes. record ends { sep = Some bytes })
    else (if bytes_eq name (codes "end") then if_new name ends.last v (λ bytes. record ends { last = Some bytes })
    else Err (UnknownKeyword name))

-- what one keyword argument gives; its name must be a str
abbrev pub one_end : Ends → Shown → Shown → Result Ends Fault
one_end ends (Text name) v = named_end ends name v
one_end ends _ v = Err KeywordNotAStr

-- the keyword arguments from left to right, up to the first that is refused
abbrev pub ends_from : PlainHeap → Result Ends Fault → List (Val × Val) → Result Ends Fault
ends_from heap (Ok ends) (key ∷ keys) = ends_from heap (one_end ends (shown heap (key.0)) (shown heap (key.1))) keys
ends_from heap found _ = found

-- the bytes that are printed
abbrev pub printed_with : PlainHeap → List Val → Result Ends Fault → Outcome (List ℕ)
printed_with heap args (Ok ends) =
    after_walk heap (walk_all (str_of heap) args) (λ texts.
    gives (joined (unwrap_or ends.sep (codes " ")) texts ++ unwrap_or ends.last (codes "\n")) heap)
printed_with heap args (Err fault) = raises fault heap

-- nothing is printed where a walk goes too deep
abbrev pub printed : PlainHeap → List Val → List (Val × Val) → Outcome (List ℕ)
printed heap args keys = printed_with heap args (ends_from heap (Ok (record { sep = None; last = None })) keys)

-- ports
-- =====

-- what there is behind a call of a port
pub record PortOutcome : Type 0 where
  pub answer : Result Val Stop
  pub ports : List PortState

-- a put or a get that is made, whether it fails or not. The count of calls stands still at its type's end
abbrev pub with_call : PortState → PortState
with_call port = record port { calls = min (port.calls + 1) (2 ^ 64 - 1) }

-- does the next call of the port fail?
abbrev pub call_fails : PortState → Bool
call_fails port = list_any (nat_eq port.calls) port.failing

-- this fault, with these ports behind it
abbrev pub refused : Fault → List PortState → PortOutcome
refused fault ports = record { answer = Err (Raises fault); ports = ports }

-- a put to a port, if there is one
abbrev pub put_to : List PortState → ℕ → ℤ → Option PortState → PortOutcome
put_to ports at n (Some port) =
    if call_fails port then refused PortFailed (slice_set ports at (with_call port))
    else record { answer = Ok Nil; ports = slice_set ports at (record (with_call port) { written = port.written ++ n ∷ [] }) }
put_to ports at n None = refused NoSuchPort ports

-- a number, where it is a small integer
abbrev pub number_answer : ℤ → Result Val Stop
number_answer n = if is_small n then Ok (Int n) else Err (Raises (Arithmetic Overflow))

-- what a get gives: None where no answer is pending
abbrev pub taken : List ℤ → Result Val Stop
taken [] = Ok Nil
taken (n ∷ _) = number_answer n

-- the answers behind the first one
abbrev pub others : List ℤ → List ℤ
others [] = []
others (_ ∷ ns) = ns

-- an answer that is no small integer is taken, too
abbrev pub get_from : List PortState → ℕ → Option PortState → PortOutcome
get_from ports at (Some port) =
    if call_fails port then refused PortFailed (slice_set ports at (with_call port))
    else record { answer = taken port.pending; ports = slice_set ports at (record (with_call port) { pending = others port.pending }) }
get_from ports at None = refused NoSuchPort ports

-- the fault of an argument that is no number
abbrev pub not_a_number : PlainHeap → Val → List PortState → PortOutcome
not_a_number heap v ports = refused (NotANumber (type_name heap v)) ports

-- a put, by what a program can see of its arguments
abbrev pub put_shown : PlainHeap → List PortState → Val → Val → Shown → Shown → PortOutcome
put_shown heap ports i n (Number (pos at)) (Number z) = put_to ports at z (slice_get ports at)
put_shown heap ports i n (Number (negsuc _)) (Number z) = refused NoSuchPort ports
put_shown heap ports i n (Number _) _ = not_a_number heap n ports
put_shown heap ports i n _ _ = not_a_number heap i ports

-- `port.put`
abbrev pub call_port_put : PlainHeap → List PortState → Val → Val → PortOutcome
call_port_put heap ports i n = put_shown heap ports i n (shown heap i) (shown heap n)

-- a get, by what a program can see of its argument
abbrev pub get_shown : PlainHeap → List PortState → Val → Shown → PortOutcome
get_shown heap ports i (Number (pos at)) = get_from ports at (slice_get ports at)
get_shown heap ports i (Number (negsuc _)) = refused NoSuchPort ports
get_shown heap ports i _ = not_a_number heap i ports

-- `port.get`
abbrev pub call_port_get : PlainHeap → List PortState → Val → PortOutcome
call_port_get heap ports i = get_shown heap ports i (shown heap i)

-- `port.count`
abbrev pub call_port_count : List PortState → PortOutcome
call_port_count ports = record { answer = number_answer (pos (length ports)); ports = ports }

-- with as many arguments as it takes. Other built-ins call no port
abbrev pub port_called : PlainHeap → List PortState → Builtin → List Val → PortOutcome
port_called heap ports builtins.PortPut (i ∷ n ∷ _) = call_port_put heap ports i n
port_called heap ports builtins.PortGet (i ∷ _) = call_port_get heap ports i
port_called heap ports builtins.PortCount _ = call_port_count ports
port_called heap ports _ _ = record { answer = Ok Nil; ports = ports }

-- the fault, if there is one, and else what follows
abbrev pub port_unless_fault : List PortState → Option Fault → PortOutcome → PortOutcome
port_unless_fault ports None next = next
port_unless_fault ports (Some fault) next = refused fault ports

-- keyword arguments are refused first, and then the count is judged
abbrev pub call_port : PlainHeap → List PortState → Builtin → List Val → List (Val × Val) → PortOutcome
call_port heap ports b args [] = port_unless_fault ports (count_fault (counts_of b) (length args)) (port_called heap ports b args)
call_port heap ports b args (_ ∷ _) = refused NoKeywords ports
