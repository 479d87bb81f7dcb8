-- What is answered to a reply.
use Rattle.std.proofs.Common.{◌≡◌, ℕ, ◌+◌, ◌≤◌, true, false, List, [], ◌++◌, length, inl, inr, refl, sym, ap, ◌∙◌, arith, append-nil, length-append, subst}
use Rattle.std.specs.Prelude.{Option, Some, None, ⊤, nat_lt}
use Rattle.std.proofs.lemmas.Bool.{le-ltb, lt-ltb}
use Rattle.ppp_io.specs.Account.{IsDrained, PutsOn, TakesOff}
use Rattle.ppp_cli.specs.Answer.{Answers, AnswersBy, Replies}
use Rattle.ppp_cli.specs.Input.{TakesTooMany}
use Rattle.ppp_cli.specs.Output.{Finishes}
use Rattle.ppp_cli.specs.Reply.{Reply, IsReplyIfShort, IsReplyToCommand, IsReplyToText, read_fault_line, says, too_long_line}
use Rattle.ppp_cli.specs.Status.{IsOfText}
use Rattle.ppp_cli.specs.declared.command.Command.{Command}
use Rattle.ppp_cli.specs.declared.input.TheConstants.{MOST_OCTETS}
use Rattle.ppp_cli.specs.declared.status.Status.{Status}
use Rattle.ppp_cli.specs.declared.status.Status.TheVariants.{Ok as Fine, BadWords, ReadFault, TooLong, BadConfig, BadLine, Outstanding, WriteFault, Memory}

-- ---- want of memory, before anything is written, answers whatever is replied

puts_none : (held : Option (List ℕ)) → PutsOn held held []
puts_none None = tt
puts_none (Some octets) = sym (append-nil octets)

pub answers_memory : (ReadFailed : Type 0) (command : Option Command) (told held : Option (List ℕ)) → Answers ReadFailed command told held held Memory
answers_memory ReadFailed None told held = puts_none held
answers_memory ReadFailed (Some command) None held = tt
answers_memory ReadFailed (Some command) (Some text) held = puts_none held

-- ---- a reply that is written whole, or up to a fault

-- a status that a reply may have
abbrev IsReplied : Status → Type 0
IsReplied Fine = ⊤
IsReplied BadWords = ⊤
IsReplied ReadFault = ⊥
IsReplied TooLong = ⊤
IsReplied BadConfig = ⊤
IsReplied (BadLine line) = ⊤
IsReplied (Outstanding step) = ⊤
IsReplied WriteFault = ⊥
IsReplied Memory = ⊥

of_text : (status : Status) → IsOfText status → IsReplied status
of_text Fine is = tt
of_text BadWords is = tt
of_text ReadFault is = is
of_text TooLong is = tt
of_text BadConfig is = tt
of_text (BadLine line) is = tt
of_text (Outstanding step) is = tt
of_text WriteFault is = is
of_text Memory is = is

by_status : (ReadFailed : Type 0) (IsReply : Reply → Type 0) (old new : Option (List ℕ)) (status : Status) → IsReplied status → Replies IsReply old new status → AnswersBy ReadFailed IsReply old new status
by_status ReadFailed IsReply old new Fine is replies = replies
by_status ReadFailed IsReply old new BadWords is replies = replies
by_status ReadFailed IsReply old new ReadFault is replies = absurd is
by_status ReadFailed IsReply old new TooLong is replies = replies
by_status ReadFailed IsReply old new BadConfig is replies = replies
by_status ReadFailed IsReply old new (BadLine line) is replies = replies
by_status ReadFailed IsReply old new (Outstanding step) is replies = replies
by_status ReadFailed IsReply old new WriteFault is replies = absurd is
by_status ReadFailed IsReply old new Memory is replies = absurd is

finished : (ReadFailed : Type 0) (IsReply : Reply → Type 0) (reply : Reply) (old new : Option (List ℕ)) (before now : ℕ) (result : Status) → IsReply reply → IsReplied reply.status →
    Finishes old new before now reply.status reply.octets result → AnswersBy ReadFailed IsReply old new result
finished ReadFailed IsReply reply old new before now result is replied (inl whole) =
    subst (AnswersBy ReadFailed IsReply old new) (sym whole.0) (by_status ReadFailed IsReply old new reply.status replied (reply, is, refl, whole.1))
finished ReadFailed IsReply reply old new before now result is replied (inr failed) =
    subst (AnswersBy ReadFailed IsReply old new) (sym failed.0) (inl (reply, is, failed.1))

-- ---- the text that was read

within_size : (command : Command) (text : List ℕ) (reply : Reply) → length text ≤ MOST_OCTETS → IsReplyToCommand command text reply → IsReplyToText command text reply
within_size command text reply few is =
    let short : nat_lt MOST_OCTETS (length text) ≡ false = le-ltb MOST_OCTETS (length text) few in
    subst (λ long. IsReplyIfShort long command text reply) (sym short) is

drained : (xs text : List ℕ) (left : Option (List ℕ)) → TakesOff (Some xs) left text → IsDrained left → xs ≡ text
drained xs text None takes is = absurd takes
drained xs text (Some ys) takes is = takes ∙ ap (λ rest. text ++ rest) is ∙ append-nil text

pub answers_text : (ReadFailed : Type 0) (command : Command) (left left' : Option (List ℕ)) (text : List ℕ) (reply : Reply) (old new : Option (List ℕ)) (before now : ℕ) (result : Status) →
    TakesOff left left' text → IsDrained left' → length text ≤ MOST_OCTETS → IsReplyToCommand command text reply → IsOfText reply.status →
    Finishes old new before now reply.status reply.octets result → Answers ReadFailed (Some command) left old new result
answers_text ReadFailed command None left' text reply old new before now result takes all few is status done = tt
answers_text ReadFailed command (Some xs) left' text reply old new before now result takes all few is status done =
    let same = drained xs text left' takes all in
    subst (λ read. AnswersBy ReadFailed (IsReplyToText command read) old new result) (sym same)
    (finished ReadFailed (IsReplyToText command text) reply old new before now result (within_size command text reply few is) (of_text reply.status status) done)

too_many : (xs : List ℕ) (left : Option (List ℕ)) → TakesTooMany (Some xs) left → MOST_OCTETS + 1 ≤ length xs
too_many xs None many = absurd many.1
too_many xs (Some ys) many = omega (arith, ap length many.1, length-append many.0 ys, many.2)

pub answers_long : (ReadFailed : Type 0) (command : Command) (left left' : Option (List ℕ)) (old new : Option (List ℕ)) (before now : ℕ) (result : Status) →
    TakesTooMany left left' → Finishes old new before now TooLong too_long_line result → Answers ReadFailed (Some command) left old new result
answers_long ReadFailed command None left' old new before now result many done = tt
answers_long ReadFailed command (Some xs) left' old new before now result many done =
    let long : nat_lt MOST_OCTETS (length xs) ≡ true = lt-ltb MOST_OCTETS (length xs) (omega (arith, too_many xs left' many)) in
    let reply : Reply = says TooLong too_long_line in
    finished ReadFailed (IsReplyToText command xs) reply old new before now result (subst (λ is_long. IsReplyIfShort is_long command xs reply) (sym long) refl) tt done

-- ---- a failed read

pub answers_failed : (ReadFailed : Type 0) (command : Command) (left : Option (List ℕ)) (old new : Option (List ℕ)) (before now : ℕ) (result : Status) → ReadFailed →
    Finishes old new before now ReadFault read_fault_line result → Answers ReadFailed (Some command) left old new result
answers_failed ReadFailed command None old new before now result failed done = tt
answers_failed ReadFailed command (Some xs) old new before now result failed (inl whole) =
    subst (AnswersBy ReadFailed (IsReplyToText command xs) old new) (sym whole.0) (failed, whole.1)
answers_failed ReadFailed command (Some xs) old new before now result failed (inr other) =
    subst (AnswersBy ReadFailed (IsReplyToText command xs) old new) (sym other.0) (inr (failed, other.1))
