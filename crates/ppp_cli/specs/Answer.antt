-- How faults and want of memory may bend a reply.
use Rattle.std.specs.Prelude.{◌≡◌, ℕ, List, [], ◌⊎◌, Option, Some, None, ⊤}
use Rattle.ppp_io.specs.Account.{PutsOn}
use Rattle.ppp_cli.specs.Reply.{Reply, IsReplyToText, IsUsage, read_fault_line}
use Rattle.ppp_cli.specs.Output.{PutsFront}
use Rattle.ppp_cli.specs.declared.command.Command.{Command}
use Rattle.ppp_cli.specs.declared.status.Status.{Status}
use Rattle.ppp_cli.specs.declared.status.Status.TheVariants.{ReadFault, WriteFault, Memory}

-- a reply is answered and written whole
abbrev pub Replies : (IsReply : Reply → Type 0) → Option (List ℕ) → Option (List ℕ) → Status → Type 0
Replies IsReply old new status =
    (reply : Reply) × IsReply reply × (status ≡ reply.status) × PutsOn old new reply.octets

-- a front of a reply is written
abbrev pub RepliesFront : (IsReply : Reply → Type 0) → Option (List ℕ) → Option (List ℕ) → Type 0
RepliesFront IsReply old new = (reply : Reply) × IsReply reply × PutsFront old new reply.octets

-- The answer to what is replied so, between what the sink held and holds. A fault of reading comes in the place of the
-- reply, with its own line. A fault of writing leaves a front of what was to be written, and want of memory nothing.
abbrev pub AnswersBy : (ReadFailed : Type 0) → (IsReply : Reply → Type 0) → Option (List ℕ) → Option (List ℕ) → Status → Type 0
AnswersBy ReadFailed IsReply old new ReadFault = ReadFailed × PutsOn old new read_fault_line
AnswersBy ReadFailed IsReply old new WriteFault =
    RepliesFront IsReply old new ⊎ (ReadFailed × PutsFront old new read_fault_line)
AnswersBy ReadFailed IsReply old new Memory = PutsOn old new []
AnswersBy ReadFailed IsReply old new status = Replies IsReply old new status

-- The answer to words and to the input's octets. Where a source that doesn't tell them decides the reply, nothing is said
-- of it.
abbrev pub Answers : (ReadFailed : Type 0) → Option Command → Option (List ℕ) → Option (List ℕ) → Option (List ℕ) → Status → Type 0
Answers ReadFailed None told old new status = AnswersBy ReadFailed IsUsage old new status
Answers ReadFailed (Some command) None old new status = ⊤
Answers ReadFailed (Some command) (Some text) old new status =
    AnswersBy ReadFailed (IsReplyToText command text) old new status

-- the line of a failed read is written, where that is the status
abbrev pub SaysIfReadFault : Status → Option (List ℕ) → Option (List ℕ) → Type 0
SaysIfReadFault status old new = status ≡ ReadFault → PutsOn old new read_fault_line

abbrev pub RepliesUnlessMemory : (IsReply : Reply → Type 0) → Status → Option (List ℕ) → Option (List ℕ) → Type 0
RepliesUnlessMemory IsReply status old new = (status ≡ Memory) ⊎ Replies IsReply old new status

-- The whole reply to words and to an input's octets is answered and written, but for want of memory.
abbrev pub RepliesWhole : Option Command → List ℕ → Status → Option (List ℕ) → Option (List ℕ) → Type 0
RepliesWhole None text status old new = RepliesUnlessMemory IsUsage status old new
RepliesWhole (Some command) text status old new = RepliesUnlessMemory (IsReplyToText command text) status old new
