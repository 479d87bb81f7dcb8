-- What is kept of every list that LCP's automaton acknowledged.
use Rattle.std.proofs.Common.{◌≡◌, ℕ, ◌≤◌, Bool, true, false, ◌&&◌, List, [], ◌∷◌, ◌++◌, length, Option, Some, None, refl, sym, subst, arith}
use Rattle.std.specs.Prelude.{if◌then◌else◌, ◌==◌}
use Rattle.std.specs.Option.{option_map, unwrap_or}
use Rattle.std.proofs.lemmas.Bool.Decides.{nat_tests}
use Rattle.ppp_packet.specs.ConfigOption.{ConfigOption}
use Rattle.ppp_auto.specs.Auto.{Auto}
use Rattle.ppp_auto.specs.Automaton.{take_read, does_row, acts_on}
use Rattle.ppp_auto.specs.EventTable.{cell_of, acks}
use Rattle.ppp_auto.specs.Lawful.{Passes}
use Rattle.ppp_auto.specs.OptionTable.{Table}
use Rattle.ppp_auto.specs.Packet.{Packet, packet_of}
use Rattle.ppp_auto.specs.Taken.{Taken, input_of, judging, kind, taken_as}
use Rattle.ppp_auto.specs.declared.input.Input.{Input}
use Rattle.ppp_auto.specs.declared.input.Input.TheVariants.{ReceiveConfigureRequestGood}
use Rattle.ppp_duet.proofs.EventTableLemmas.{acks_good}
use Rattle.ppp_duet.proofs.Queues.{options_in}
use Rattle.ppp_duet.proofs.TakenLemmas.{command_asks_nothing, good_is_request, good_passes, theirs_are}
use Rattle.ppp_auto.specs.declared.auto.TheConstants.{LEAST_CAP}
use Rattle.ppp_lcp.specs.declared.lcp_table.TheConstants.{DEFAULT_MRU}
use Rattle.ppp_options.specs.Number.{number, body_of}
use Rattle.ppp_options.specs.Rules.{table_by, all_fine, is_fine, is_fine_by, rule_of, has_required}
use Rattle.ppp_options.specs.RuleLaw.{and-both, allows_is}
use Rattle.ppp_lcp.specs.LcpSettings.{LcpSettings}
use Rattle.ppp_lcp.specs.LcpTable.{lcp_rules, magic_of}
use Rattle.ppp_link.specs.Automata.{mru_of}
use Rattle.ppp_link.specs.Steps.{Given, Event, Packet as Octets, auto_given}

-- a property of a list that is kept where the table passes it stays one of the list that was acknowledged last
module _ (t : Table) (P : List ConfigOption → Type 0) (passed : (own theirs : List ConfigOption) (word : ℕ) → Passes t own theirs word → P theirs) where
  peer-by : (b : Bool) (theirs peer : List ConfigOption) → (b ≡ true → P theirs) → P peer → P (if b then theirs else peer)
  peer-by true theirs peer new old = new refl
  peer-by false theirs peer new old = old

  peer-row : (a : Auto) (input : Input) (taken : Taken) (word : ℕ) → (Some input ≡ Some ReceiveConfigureRequestGood → P taken.theirs) → P a.peer →
      P (does_row t a input taken word).auto.peer
  unfolding does_row
  peer-row a input taken word good old =
      peer-by (acks (cell_of input a.state).actions) taken.theirs a.peer (λ h. good (acks_good input a.state h).0) old

  peer-on : (a : Auto) (taken : Taken) (input : Option Input) (word : ℕ) → (input ≡ Some ReceiveConfigureRequestGood → P taken.theirs) → P a.peer →
      P (acts_on t a taken input word).auto.peer
  peer-on a taken None word good old = old
  peer-on a taken (Some input) word good old = peer-row a input taken word good old

  peer-read : (a : Auto) (p : Option Packet) (word : ℕ) → P a.peer → P (take_read t a p word).auto.peer
  peer-read a None word old = old
  peer-read a (Some packet) word old =
      peer-on a (kind t a packet word) (kind t a packet word).input word
      (λ is. subst P (sym (theirs_are t a packet word)) (passed (judging t a word) (options_in packet) word (good_passes t a packet word is))) old

  pub peer-kept : (a : Auto) (given : Given) (word : ℕ) → P a.peer → P (auto_given t given word a).peer
  peer-kept a (Event e) word old =
      peer-row a (input_of a e) (taken_as a (Some (input_of a e)) 0) word (λ is. absurd (good_is_request (Some (input_of a e)) (command_asks_nothing a e) is)) old
  peer-kept a (Octets octets) word old = peer-read a (packet_of octets) word old

-- LCP takes no Maximum-Receive-Unit below 128
mru-at : (s : LcpSettings) (own : List ConfigOption) (o : ConfigOption) → (o.kind == 1) && (length o.body == 2) ≡ true → is_fine (lcp_rules s) own o ≡ true → LEAST_CAP ≤ number o.body
mru-at s own o here fine =
    let kind : o.kind ≡ 1 = grind (arith, nat_tests) in
    let at : is_fine_by (rule_of 1 (lcp_rules s)) own o.body ≡ true = rw kind at fine in
    grind (arith, nat_tests)

mru-head : (b : Bool) (body : List ℕ) (rest : Option (List ℕ)) → (b ≡ true → LEAST_CAP ≤ number body) → LEAST_CAP ≤ unwrap_or (option_map number rest) DEFAULT_MRU →
    LEAST_CAP ≤ unwrap_or (option_map number (if b then Some body else rest)) DEFAULT_MRU
mru-head true body rest here later = here refl
mru-head false body rest here later = later

mru-fine : (s : LcpSettings) (own earlier theirs : List ConfigOption) → all_fine (lcp_rules s) own earlier theirs ≡ true → LEAST_CAP ≤ mru_of theirs
mru-fine s own earlier [] h = omega arith
mru-fine s own earlier (o ∷ os) h =
    let one = and-both _ _ h in let two = and-both _ _ one.0 in
    mru-head ((o.kind == 1) && (length o.body == 2)) o.body (body_of 1 2 os) (λ here. mru-at s own o here two.0) (mru-fine s own (earlier ++ o ∷ []) os one.1)

mru-passed : (s : LcpSettings) (own theirs : List ConfigOption) (word : ℕ) → Passes (table_by true (lcp_rules s) magic_of) own theirs word → LEAST_CAP ≤ mru_of theirs
mru-passed s own theirs word passes =
    mru-fine s own [] theirs (and-both (all_fine (lcp_rules s) own [] theirs) (has_required (lcp_rules s) theirs) ((allows_is true (lcp_rules s) magic_of own theirs word).1 passes)).0

-- so the list that was acknowledged last has none
pub mru-kept : (s : LcpSettings) (a : Auto) (given : Given) (word : ℕ) → LEAST_CAP ≤ mru_of a.peer →
    LEAST_CAP ≤ mru_of (auto_given (table_by true (lcp_rules s) magic_of) given word a).peer
mru-kept s a given word = peer-kept (table_by true (lcp_rules s) magic_of) (λ list. LEAST_CAP ≤ mru_of list) (mru-passed s) a given word
