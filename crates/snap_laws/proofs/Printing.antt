-- What is printed is the same, and what ports are told.
use Rattle.std.proofs.Common.{◌≡◌, ℕ, Bool, true, false, cond, List, [], ◌∷◌, ◌++◌, length, map, Option, Some, None, Result, Ok, Err, refl, sym, ap, subst, ◌∙◌}
use Rattle.std.specs.Prelude.{ℤ, pos, negsuc, bytes_eq, slice_get, slice_set, unwrap_or, codes}
use Rattle.std.proofs.lemmas.List.{length-map}
use Rattle.bc_machine.specs.mpy_base.declared.builtin.Builtin.{Builtin}
use Rattle.bc_machine.specs.mpy_base.declared.builtin.Builtin.TheVariants as builtins
use Rattle.bc_machine.specs.mpy_base.World.{PortState}
use Rattle.bc_machine.specs.mpy_base.Val.{Val, Nil, Int}
use Rattle.bc_machine.specs.py_values.declared.small_int.NumFault.TheVariants.{Overflow}
use Rattle.bc_machine.specs.py_values.Range.{is_small}
use Rattle.bc_machine.specs.py_values.Shown.{PlainHeap, Shown, Nothing, Number, Text, Tuple, Items, Pairs, Range, Other, shown}
use Rattle.bc_machine.specs.py_primitives.Walks.{walk_all}
use Rattle.bc_machine.specs.py_primitives.Texts.{str_of, joined}
use Rattle.bc_machine.specs.py_primitives.Calls.{counts_of, count_fault}
use Rattle.bc_machine.specs.py_primitives.Faults.{Fault, NoKeywords, UnknownKeyword, NotANumber, NoSuchPort, PortFailed, Arithmetic}
use Rattle.bc_machine.specs.py_primitives.Outcome.{Raises, gives}
use Rattle.bc_machine.specs.py_primitives.Output.{Ends, if_new, named_end, one_end, ends_from, printed_with, printed, PortOutcome, with_call, call_fails, refused, put_to, number_answer, taken, others, get_from, not_a_number, put_shown, call_port_put, get_shown, call_port_get, port_called, port_unless_fault, call_port}
use Rattle.snap_laws.specs.Renamed.{Renaming, value, pair, shown_as, IsRenamed}
use Rattle.snap_laws.specs.Outcomes.{IsOutcome, IsPortOutcome, fault_as, answer_as}
use Rattle.snap_laws.proofs.Seen.{seen}
use Rattle.snap_laws.proofs.Combining.{given, raised, walked_same, type_as}
use Rattle.snap_laws.proofs.Writing.{walk_all_as, str_as}
use Rattle.snap_laws.proofs.BuiltinCalls.{Plain, count_plain}

module _ (r : Renaming) where
  -- keywords
  new_as : (name : List ℕ) (o : Option (List ℕ)) (s : Shown) (given : List ℕ → Ends)
      → if_new name o (shown_as r s) given ≡ if_new name o s given
  new_as name (Some old) s given = refl
  new_as name None (Text bytes) given = refl
  new_as name None Nothing given = refl
  new_as name None (Number z) given = refl
  new_as name None (Tuple items) given = refl
  new_as name None (Items items) given = refl
  new_as name None (Pairs pairs) given = refl
  new_as name None (Range start stop step) given = refl
  new_as name None Other given = refl

  named_as : (ends : Ends) (name : List ℕ) (s : Shown) → named_end ends name (shown_as r s) ≡ named_end ends name s
  named_as ends name s =
      ap (λ z. cond (bytes_eq name (codes "sep")) z (cond (bytes_eq name (codes "end"))
      (if_new name ends.last (shown_as r s) (λ bytes. record ends { last = Some bytes }))
      (Err (UnknownKeyword name)))) (new_as name ends.sep s (λ bytes. record ends { sep = Some bytes }))
      ∙ ap (λ z. cond (bytes_eq name (codes "sep")) (if_new name ends.sep s
      (λ bytes. record ends { sep = Some bytes }))
      (cond (bytes_eq name (codes "end")) z (Err (UnknownKeyword name))))
      (new_as name ends.last s (λ bytes. record ends { last = Some bytes }))

  end_as : (ends : Ends) (s t : Shown) → one_end ends (shown_as r s) (shown_as r t) ≡ one_end ends s t
  end_as ends (Text name) t = named_as ends name t
  end_as ends Nothing t = refl
  end_as ends (Number z) t = refl
  end_as ends (Tuple items) t = refl
  end_as ends (Items items) t = refl
  end_as ends (Pairs pairs) t = refl
  end_as ends (Range start stop step) t = refl
  end_as ends Other t = refl

  -- their faults tell no value
  abbrev PlainEnds : Result Ends Fault → Type 0
  PlainEnds (Ok ends) = Unit {0}
  PlainEnds (Err fault) = fault ≡ fault_as r fault

  new_plain : (name : List ℕ) (o : Option (List ℕ)) (s : Shown) (given : List ℕ → Ends)
      → PlainEnds (if_new name o s given)
  new_plain name (Some old) s given = refl
  new_plain name None (Text bytes) given = tt
  new_plain name None _ given = refl

  plain_if : (b : Bool) (x y : Result Ends Fault) → PlainEnds x → PlainEnds y → PlainEnds (cond b x y)
  plain_if true x y p q = p
  plain_if false x y p q = q

  end_plain : (ends : Ends) (s t : Shown) → PlainEnds (one_end ends s t)
  end_plain ends (Text name) t =
      plain_if (bytes_eq name (codes "sep")) (if_new name ends.sep t (λ bytes. record ends { sep = Some bytes }))
      (cond (bytes_eq name (codes "end")) (if_new name ends.last t (λ bytes. record ends { last = Some bytes }))
      (Err (UnknownKeyword name)))
      (new_plain name ends.sep t (λ bytes. record ends { sep = Some bytes }))
      (plain_if (bytes_eq name (codes "end")) (if_new name ends.last t (λ bytes. record ends { last = Some bytes }))
      (Err (UnknownKeyword name)) (new_plain name ends.last t (λ bytes. record ends { last = Some bytes })) refl)
  end_plain ends _ t = refl

  ends_plain : (h : PlainHeap) (x : Result Ends Fault) (keys : List (Val × Val)) → PlainEnds x
      → PlainEnds (ends_from h x keys)
  ends_plain h (Ok ends) [] p = p
  ends_plain h (Ok ends) (key ∷ keys) p =
      ends_plain h (one_end ends (shown h key.0) (shown h key.1)) keys
      (end_plain ends (shown h key.0) (shown h key.1))
  ends_plain h (Err fault) keys p = p

  -- numbers that ports are told and tell
  ports_same : (o : PortOutcome) → o.answer ≡ answer_as r (value r) o.answer → IsPortOutcome r o o
  ports_same o e = record { answer = e; ports = refl }

  refused_same : (fault : Fault) (ports : List PortState) → fault ≡ fault_as r fault
      → IsPortOutcome r (refused fault ports) (refused fault ports)
  refused_same fault ports e = record { answer = ap (λ z. Err (Raises z)) e; ports = refl }

  port_if : (b : Bool) (x y : PortOutcome) → IsPortOutcome r x x → IsPortOutcome r y y
      → IsPortOutcome r (cond b x y) (cond b x y)
  port_if true x y p q = p
  port_if false x y p q = q

  put_told : (ports : List PortState) (at : ℕ) (n : ℤ) (o : Option PortState)
      → IsPortOutcome r (put_to ports at n o) (put_to ports at n o)
  put_told ports at n (Some port) =
      port_if (call_fails port) (refused PortFailed (slice_set ports at (with_call port)))
      (record {
        answer = Ok Nil;
        ports = slice_set ports at
            (record (with_call port) { written = port.written ++ n ∷ [] });
      })
      (refused_same PortFailed (slice_set ports at (with_call port)) refl) (record { answer = refl; ports = refl })
  put_told ports at n None = refused_same NoSuchPort ports refl

  number_if : (b : Bool) (n : ℤ) → cond b (Ok (Int n)) (Err (Raises (Arithmetic Overflow))) ≡ answer_as r (value r)
      (cond b (Ok (Int n)) (Err (Raises (Arithmetic Overflow))))
  number_if true n = refl
  number_if false n = refl

  number_told : (n : ℤ) → number_answer n ≡ answer_as r (value r) (number_answer n)
  number_told n = number_if (is_small n) n

  taken_told : (ns : List ℤ) → taken ns ≡ answer_as r (value r) (taken ns)
  taken_told [] = refl
  taken_told (n ∷ ns) = number_told n

  get_told : (ports : List PortState) (at : ℕ) (o : Option PortState)
      → IsPortOutcome r (get_from ports at o) (get_from ports at o)
  get_told ports at (Some port) =
      port_if (call_fails port) (refused PortFailed (slice_set ports at (with_call port)))
      (record {
        answer = taken port.pending;
        ports = slice_set ports at
            (record (with_call port) { pending = others port.pending });
      })
      (refused_same PortFailed (slice_set ports at (with_call port)) refl)
      (record { answer = taken_told port.pending; ports = refl })
  get_told ports at None = refused_same NoSuchPort ports refl

  module _ (h k : PlainHeap) (is : IsRenamed r h k) where
    ends_as : (x : Result Ends Fault) (keys : List (Val × Val))
        → ends_from k x (map (pair r) keys) ≡ ends_from h x keys
    ends_as (Ok ends) [] = refl
    ends_as (Ok ends) (key ∷ keys) =
        ap (λ z. ends_from k z (map (pair r) keys))
        (ap (λ s. one_end ends s (shown k (value r key.1))) (seen r h k is key.0) ∙ ap
        (λ t. one_end ends (shown_as r (shown h key.0)) t) (seen r h k is key.1) ∙ end_as ends (shown h key.0)
        (shown h key.1))
        ∙ ends_as (one_end ends (shown h key.0) (shown h key.1)) keys
    ends_as (Err fault) [] = refl
    ends_as (Err fault) (key ∷ keys) = refl

    printed_told : (args : List Val) (x : Result Ends Fault) → PlainEnds x
        → IsOutcome r (λ bytes. bytes) (printed_with h args x) (printed_with k (map (value r) args) x)
    printed_told args (Ok ends) p =
        walked_same r (λ bytes. bytes) h k is (walk_all (str_of h) args) (walk_all (str_of k) (map (value r) args))
        (λ texts. gives (joined (unwrap_or ends.sep (codes " ")) texts ++ unwrap_or ends.last (codes "\n")) h)
        (λ texts. gives (joined (unwrap_or ends.sep (codes " ")) texts ++ unwrap_or ends.last (codes "\n")) k)
        (walk_all_as (value r) (str_of h) (str_of k) (str_as r h k is) args)
        (λ texts. given r (λ bytes. bytes) h k is (joined (unwrap_or ends.sep (codes " ")) texts ++ unwrap_or
        ends.last (codes "\n")) (joined (unwrap_or ends.sep (codes " ")) texts ++ unwrap_or ends.last
        (codes "\n")) refl)
    printed_told args (Err fault) p = raised r (λ bytes. bytes) h k is fault fault p

    pub printed_as : (args : List Val) (keys : List (Val × Val))
        → IsOutcome r (λ bytes. bytes) (printed h args keys) (printed k (map (value r) args) (map (pair r) keys))
    printed_as args keys =
        let start : Result Ends Fault = Ok (record { sep = None; last = None }) in
        subst (λ z. IsOutcome r (λ bytes. bytes) (printed h args keys) (printed_with k (map (value r) args) z))
        (sym (ends_as start keys))
        (printed_told args (ends_from h start keys) (ends_plain h start keys tt))

    -- ports
    no_number : (v : Val) (ports : List PortState)
        → IsPortOutcome r (not_a_number h v ports) (not_a_number k (value r v) ports)
    no_number v ports = record { answer = ap (λ z. Err (Raises (NotANumber z))) (type_as r h k is v); ports = refl }

    put_as : (ports : List PortState) (i n : Val) (s t : Shown)
        → IsPortOutcome r (put_shown h ports i n s t) (put_shown k ports (value r i) (value r n) (shown_as r s)
        (shown_as r t))
    put_as ports i n (Number (pos at)) (Number z) = put_told ports at z (slice_get ports at)
    put_as ports i n (Number (negsuc _)) (Number z) = refused_same NoSuchPort ports refl
    put_as ports i n (Number (pos at)) _ = no_number n ports
    put_as ports i n (Number (negsuc at)) _ = no_number n ports
    put_as ports i n _ _ = no_number i ports

    get_as : (ports : List PortState) (i : Val) (s : Shown)
        → IsPortOutcome r (get_shown h ports i s) (get_shown k ports (value r i) (shown_as r s))
    get_as ports i (Number (pos at)) = get_told ports at (slice_get ports at)
    get_as ports i (Number (negsuc _)) = refused_same NoSuchPort ports refl
    get_as ports i _ = no_number i ports

    put_called : (ports : List PortState) (i n : Val)
        → IsPortOutcome r (call_port_put h ports i n) (call_port_put k ports (value r i) (value r n))
    put_called ports i n =
        subst (λ s. IsPortOutcome r (call_port_put h ports i n)
        (put_shown k ports (value r i) (value r n) s (shown k (value r n)))) (sym (seen r h k is i))
        (subst (λ t. IsPortOutcome r (call_port_put h ports i n)
        (put_shown k ports (value r i) (value r n) (shown_as r (shown h i)) t)) (sym (seen r h k is n))
        (put_as ports i n (shown h i) (shown h n)))

    get_called : (ports : List PortState) (i : Val)
        → IsPortOutcome r (call_port_get h ports i) (call_port_get k ports (value r i))
    get_called ports i =
        subst (λ s. IsPortOutcome r (call_port_get h ports i) (get_shown k ports (value r i) s))
        (sym (seen r h k is i)) (get_as ports i (shown h i))

    port_called_as : (ports : List PortState) (b : Builtin) (args : List Val)
        → IsPortOutcome r (port_called h ports b args) (port_called k ports b (map (value r) args))
    port_called_as ports builtins.PortPut (i ∷ n ∷ _) = put_called ports i n
    port_called_as ports builtins.PortGet (i ∷ _) = get_called ports i
    port_called_as ports builtins.PortCount _ = record { answer = number_told (pos (length ports)); ports = refl }
    port_called_as ports builtins.PortPut [] = record { answer = refl; ports = refl }
    port_called_as ports builtins.PortPut (i ∷ []) = record { answer = refl; ports = refl }
    port_called_as ports builtins.PortGet [] = record { answer = refl; ports = refl }
    port_called_as ports _ _ = record { answer = refl; ports = refl }

    unless_told : (ports : List PortState) (o : Option Fault) → Plain r o → (x y : PortOutcome) → IsPortOutcome r x y
        → IsPortOutcome r (port_unless_fault ports o x) (port_unless_fault ports o y)
    unless_told ports None p x y on = on
    unless_told ports (Some fault) p x y on = refused_same fault ports p

    pub port_as : (ports : List PortState) (b : Builtin) (args : List Val) (keys : List (Val × Val))
        → IsPortOutcome r (call_port h ports b args keys)
        (call_port k ports b (map (value r) args) (map (pair r) keys))
    port_as ports b args [] =
        subst (λ n. IsPortOutcome r (call_port h ports b args [])
        (port_unless_fault ports (count_fault (counts_of b) n) (port_called k ports b (map (value r) args))))
        (sym (length-map args (value r)))
        (unless_told ports (count_fault (counts_of b) (length args)) (count_plain r (counts_of b) (length args))
        (port_called h ports b args) (port_called k ports b (map (value r) args)) (port_called_as ports b args))
    port_as ports b args (_ ∷ _) = refused_same NoKeywords ports refl
