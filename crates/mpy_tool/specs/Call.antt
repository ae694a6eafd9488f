-- A call of the tool: its words, and what the outside tells before and behind it.
use Rattle.std.specs.Prelude.{◌≡◌, ◌≢◌, ℕ, List, map, String, string_bytes, IfOk}
use Rattle.std.specs.declared.alloc.Global.{Global}
use Rattle.mpy_io.specs.Ports.{PortView}
use Rattle.mpy_io.specs.declared.folder.Folder as folders
use Rattle.mpy_io.specs.declared.port.Port as ports
use Rattle.mpy_io.specs.declared.sink.Sink as sinks
use Rattle.mpy_words.specs.declared.order.Command.{Command}
use Rattle.mpy_words.specs.declared.order.Order.{Order}
use Rattle.mpy_words.specs.Words.{order_of, first_name, second_name}
use Rattle.board_command.specs.command_files.Outside.{Outside as Told, seen}
use Rattle.mpy_tool.specs.declared.outside.Outside.{Outside}

-- the words, what the folder, the sinks and the ports tell before the call and behind it, and the exit status
pub record Call : Type 0 where
  pub words : List (List ℕ)
  pub old : Told
  pub new : Told
  pub ports_old : List PortView
  pub ports_new : List PortView
  pub status : ℕ

-- the bytes of each word
abbrev pub texts : List (String Global) → List (List ℕ)
texts words = map string_bytes words

-- In a clause `F.Folder`, `S.Sink`, `P.Port` and `E.Sink` say what a folder, the sink of the output, a port and the sink of the lines tell.
module _ {F S P E : Type 0} (folder : folders.Ghosts F) (out : sinks.Ghosts S) (port : ports.Ghosts P) (say : sinks.Ghosts E) where
  -- what the folder and the sinks of an outside tell
  abbrev pub told : Outside F S P E → Told
  told outside = seen folder.files folder.count out.told out.count say.told say.count outside.folder outside.out outside.say

  abbrev pub call_of : (words : List (String Global)) → (old new : Outside F S P E) → (status : ℕ) → Call
  call_of words old new status = record {
    words = texts words;
    old = told old;
    new = told new;
    ports_old = map port.seen old.ports;
    ports_new = map port.seen new.ports;
    status = status;
  }

module _ (call : Call) where
  -- if the words order this command, it went so with their order
  abbrev pub Orders : Command → (Order → Type 0) → Type 0
  Orders command Went = IfOk (order_of call.words) (λ order. order.command ≡ command → Went order)

  -- and so with the first name behind the command, as in `check FILE`
  abbrev pub OrdersOne : Command → (Order → (name : List ℕ) → Type 0) → Type 0
  OrdersOne command Went = Orders command (λ order. Went order (first_name call.words))

  -- and so with the first two, as in `migrate IN OUT`
  abbrev pub OrdersTwo : Command → (Order → (first second : List ℕ) → Type 0) → Type 0
  OrdersTwo command Went = Orders command (λ order. Went order (first_name call.words) (second_name call.words))

  -- what the folder and the sinks tell, and the status, are related so
  abbrev pub Shows : ((old new : Told) → (status : ℕ) → Type 0) → Type 0
  Shows Relates = Relates call.old call.new call.status

  -- and so with what the ports tell
  abbrev pub ShowsPorts : ((old new : Told) → (ports_old ports_new : List PortView) → (status : ℕ) → Type 0) → Type 0
  ShowsPorts Relates = Relates call.old call.new call.ports_old call.ports_new call.status

  -- with a status other than 7 and 8 neither the folder's count of faults nor that of the output's sink rose
  abbrev pub LeavesCounts : Type 0
  LeavesCounts =
      call.status ≢ 7 → call.status ≢ 8 → (call.new.folder_faults ≡ call.old.folder_faults) × (call.new.out_faults ≡ call.old.out_faults)
