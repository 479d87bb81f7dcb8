-- How a Configure-Request is answered (RFC 1661 sections 5.2 to 5.4), against the own list.
use Rattle.std.specs.Prelude.{ℕ, ◌+◌, ◌-◌, Bool, true, false, ◌&&◌, ◌||◌, ◌==◌, nat_lt, nat_le, if◌then◌else◌, List, [], ◌∷◌, ◌++◌, length}
use Rattle.std.specs.List.{flat_map, list_any}
use Rattle.std.specs.Option.{option_to_list}
use Rattle.std.specs.Str.{bytes_eq}
use Rattle.ppp_packet.specs.ConfigOption.{ConfigOption}
use Rattle.ppp_auto.specs.declared.verdict.Verdict.{Verdict}
use Rattle.ppp_auto.specs.declared.verdict.Verdict.TheVariants.{Good, Bad, Unknown}
use Rattle.ppp_auto.specs.declared.input.Input.{Input}
use Rattle.ppp_auto.specs.declared.input.Input.TheVariants.{ReceiveConfigureRequestGood, ReceiveConfigureRequestBad}
use Rattle.ppp_auto.specs.declared.outbox.TheConstants.{MOST_REST}
use Rattle.ppp_auto.specs.declared.reply.Reply.{Reply as Kept}
use Rattle.ppp_auto.specs.declared.reply.TheConstants.{MAX_FAILURE}
use Rattle.ppp_auto.specs.Packet.{Packet, Ack, Nak, Reject}
use Rattle.ppp_auto.specs.OptionTable.{Table}

-- whether two options are the same
abbrev pub same_option : ConfigOption → ConfigOption → Bool
same_option a b = (a.kind == b.kind) && bytes_eq a.body b.body

-- whether the list has an option of that kind
abbrev pub has_kind : ℕ → List ConfigOption → Bool
has_kind kind list = list_any (λ o. o.kind == kind) list

-- Whether an option is one to reject: it is unknown, or bad with nothing better to suggest.
abbrev pub is_refused : ConfigOption → Verdict → Bool
is_refused o Good = false
is_refused o (Bad better) = same_option better o
is_refused o Unknown = true

-- The options to reject, in order: those, and those whose kind stood earlier in the list.
abbrev pub rejected : (ConfigOption → Verdict) → List ConfigOption → List ConfigOption → List ConfigOption
rejected judge earlier [] = []
rejected judge earlier (o ∷ os) =
    if has_kind o.kind earlier || is_refused o (judge o)
    then o ∷ rejected judge (earlier ++ o ∷ []) os
    else rejected judge (earlier ++ o ∷ []) os

-- what is suggested in the place of an option, and the option itself where something is
abbrev pub better_of : Verdict → List ConfigOption
better_of (Bad better) = better ∷ []
better_of verdict = []

abbrev pub bad_of : ConfigOption → Verdict → List ConfigOption
bad_of o (Bad better) = o ∷ []
bad_of o verdict = []

-- the suggestions for the bad options, in order
abbrev pub suggested : (ConfigOption → Verdict) → List ConfigOption → List ConfigOption
suggested judge list = flat_map (λ o. better_of (judge o)) list

-- the bad options as they came, in order
abbrev pub unacceptable : (ConfigOption → Verdict) → List ConfigOption → List ConfigOption
unacceptable judge list = flat_map (λ o. bad_of o (judge o)) list

-- the longest front of the options that has at most that many octets
abbrev pub fitting : ℕ → List ConfigOption → List ConfigOption
fitting room [] = []
fitting room (o ∷ os) = if nat_lt room (2 + length o.body) then [] else o ∷ fitting (room - (2 + length o.body)) os

-- as many of the options as a packet can carry
abbrev pub fitted : List ConfigOption → List ConfigOption
fitted list = fitting MOST_REST list

pub record Reply : Type 0 where
  pub input : Input
  pub answer : Packet

-- the reply that the code keeps
abbrev pub reply_seen : Kept → Reply
reply_seen r = record { input = r.input; answer = r.answer }

-- whether Configure-Naks are spent
abbrev pub is_spent : ℕ → Bool
is_spent naks = nat_le MAX_FAILURE naks

abbrev pub refusing : Packet → Reply
refusing answer = record { input = ReceiveConfigureRequestBad; answer = answer }

-- What is answered where nothing is rejected: the list is acknowledged where nothing is bad or missing. Else the
-- suggestions go into a Configure-Nak; after Max-Failure of these the bad options are rejected.
abbrev pub reply_to_known : ℕ → ℕ → List ConfigOption → List ConfigOption → List ConfigOption → List ConfigOption → Reply
reply_to_known naks id theirs [] [] bad = record { input = ReceiveConfigureRequestGood; answer = Ack id theirs }
reply_to_known naks id theirs [] (o ∷ missing) bad = refusing (Nak id (o ∷ missing))
reply_to_known naks id theirs (o ∷ better) missing bad =
    if is_spent naks
    then refusing (Reject id (fitted bad))
    else refusing (Nak id ((o ∷ better) ++ missing))

-- What is rejected comes first.
abbrev pub reply_with : ℕ → ℕ → List ConfigOption → List ConfigOption → List ConfigOption → List ConfigOption → List ConfigOption → Reply
reply_with naks id theirs [] better missing bad = reply_to_known naks id theirs better missing bad
reply_with naks id theirs (o ∷ refused) better missing bad = refusing (Reject id (fitted (o ∷ refused)))

-- The answer to a request of these options, after that many Naks, judged against the own list.
abbrev pub reply_to : Table → List ConfigOption → ℕ → ℕ → ℕ → List ConfigOption → Reply
reply_to t own naks word id theirs =
    let judge : ConfigOption → Verdict = λ o. t.judge own o word in
    reply_with naks id theirs (rejected judge [] theirs) (suggested judge theirs) (option_to_list (t.missing own theirs word)) (unacceptable judge theirs)

-- whether the first list is a sublist of the second: the same options, in order, and others may be left out
abbrev pub is_sublist : List ConfigOption → List ConfigOption → Bool
is_sublist [] list = true
is_sublist (o ∷ os) [] = false
is_sublist (o ∷ os) (x ∷ xs) = if same_option o x then is_sublist os xs else is_sublist (o ∷ os) xs

-- whether two lists are the same
abbrev pub same_list : List ConfigOption → List ConfigOption → Bool
same_list [] [] = true
same_list (a ∷ as') (b ∷ bs) = same_option a b && same_list as' bs
same_list as' bs = false

abbrev pub has_options : List ConfigOption → Bool
has_options [] = false
has_options (o ∷ os) = true

-- a list without its first option, where that is this one
abbrev pub after_one : List ConfigOption → ConfigOption → List ConfigOption
after_one [] o = []
after_one (x ∷ xs) o = if same_option x o then xs else x ∷ xs
