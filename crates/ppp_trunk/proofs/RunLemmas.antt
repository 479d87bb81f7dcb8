-- Control protocols that go Down send nothing.
use Rattle.std.proofs.Common.{◌≡◌, ℕ, Bool, false, List, [], ◌∷◌, ◌++◌, refl, ap, ◌∙◌, map}
use Rattle.std.specs.Prelude.{Option, Some, None}
use Rattle.std.proofs.lemmas.Grind.{flat_map-append}
use Rattle.ppp_auto.specs.Auto.{Auto}
use Rattle.ppp_auto.specs.Automaton.{after, does_row, effects}
use Rattle.ppp_auto.specs.EventTable.{cell_of}
use Rattle.ppp_auto.specs.OptionTable.{Table}
use Rattle.ppp_auto.specs.Outbox.{entry_of}
use Rattle.ppp_auto.specs.Taken.{Taken, input_of, taken_as}
use Rattle.ppp_auto.specs.declared.auto_event.AutoEvent.TheVariants.{Down}
use Rattle.ppp_auto.specs.declared.auto_state.AutoState.{AutoState}
use Rattle.ppp_auto.specs.declared.auto_state.AutoState.TheVariants.{Initial, Starting, Closed, Stopped, Closing, Stopping, ReqSent, AckRcvd, AckSent, Opened}
use Rattle.ppp_auto.specs.declared.input.Input.TheVariants as on
use Rattle.ppp_auto.specs.declared.layer_signal.LayerSignal.{LayerSignal}
use Rattle.ppp_auto.specs.declared.layer_signal.LayerSignal.TheVariants as signal
use Rattle.ppp_frame.specs.declared.form.Form.{Form}
use Rattle.ppp_packet.specs.declared.proto.Proto.{Proto}
use Rattle.ppp_packet.specs.declared.proto.Proto.TheVariants.{Lcp, Ip, Ipv6, Osi, Mpls, Bacp}
use Rattle.ppp_link.specs.Automata.{auto_at, form_for}
use Rattle.ppp_link.specs.Link.{Link, run_did}
use Rattle.ppp_link.specs.LinkTables.{LinkTables, table_of}
use Rattle.ppp_link.specs.Steps.{Did, Event, after as link_after, begins, does, each_does, lcp_told, net_told, runs, signal_told, told_all, told_by, told_if}
use Rattle.ppp_trunk.specs.Steps.{all_plain, plain}

-- ---- one automaton

lcp-quiet : (l : ℕ) (told : LayerSignal) → all_plain l (lcp_told told) ≡ []
lcp-quiet l signal.Up = refl
lcp-quiet l signal.Down = refl
lcp-quiet l signal.Started = refl
lcp-quiet l signal.Finished = refl
lcp-quiet l (signal.ProtocolRejected n) = refl

net-quiet : (l : ℕ) (p : Proto) (told : LayerSignal) → all_plain l (net_told p told) ≡ []
net-quiet l p signal.Up = refl
net-quiet l p signal.Down = refl
net-quiet l p signal.Started = refl
net-quiet l p signal.Finished = refl
net-quiet l p (signal.ProtocolRejected n) = refl

signal-quiet : (l : ℕ) (p : Proto) (told : LayerSignal) → all_plain l (signal_told p told) ≡ []
signal-quiet l Lcp told = lcp-quiet l told
signal-quiet l Ip told = net-quiet l Ip told
signal-quiet l Ipv6 told = net-quiet l Ipv6 told
signal-quiet l Osi told = net-quiet l Osi told
signal-quiet l Mpls told = net-quiet l Mpls told
signal-quiet l Bacp told = net-quiet l Bacp told

alone-quiet : (l : ℕ) (p : Proto) (told : LayerSignal) → all_plain l (signal_told p told ++ []) ≡ []
alone-quiet l p told = flat_map-append (plain l) (signal_told p told) [] ∙ ap (λ xs. xs ++ []) (signal-quiet l p told)

-- the row Down has no packet
row-quiet : (form : Form) (p : Proto) (l : ℕ) (old new : Auto) (taken : Taken) (s : AutoState) →
    all_plain l (told_all form p (map entry_of (effects old new taken (cell_of on.Down s).actions))) ≡ []
row-quiet form p l old new taken Initial = refl
row-quiet form p l old new taken Starting = refl
row-quiet form p l old new taken Closed = refl
row-quiet form p l old new taken Stopped = alone-quiet l p signal.Started
row-quiet form p l old new taken Closing = refl
row-quiet form p l old new taken Stopping = refl
row-quiet form p l old new taken ReqSent = refl
row-quiet form p l old new taken AckRcvd = refl
row-quiet form p l old new taken AckSent = refl
row-quiet form p l old new taken Opened = alone-quiet l p signal.Down

if-quiet : (form : Form) (p : Proto) (l : ℕ) (t : Table) (o : Option Auto) (word : ℕ) → all_plain l (told_all form p (told_if t o (Event Down) word)) ≡ []
unfolding does_row
if-quiet form p l t None word = refl
if-quiet form p l t (Some a) word =
    let input = input_of a Down in
    let taken = taken_as a (Some input) 0 in
    row-quiet form p l a (after t a input (cell_of input a.state) taken word) taken a.state

-- ---- those that go Down together

each-quiet : (l : ℕ) (t : LinkTables) (ps : List Proto) (word : ℕ) (did : Did) → all_plain l did.out ≡ [] → all_plain l (each_does t ps Down word did).out ≡ []
unfolding each_does does
each-quiet l t [] word did none = none
each-quiet l t (p ∷ ps) word did none =
    let k = did.automata in
    let told = told_all (form_for (link_after t p (Event Down) word k).lcp p) p (told_by t p (Event Down) word k) in
    each-quiet l t ps word (does t p (Event Down) word did) (
    flat_map-append (plain l) did.out told
    ∙ (λ i. none i ++ if-quiet (form_for (link_after t p (Event Down) word k).lcp p) p l (table_of t p) (auto_at k p) word i)
    )

pub run-down-quiet : (k : Link) (bacp : Bool) (word : ℕ) (l : ℕ) → all_plain l (run_did k false bacp word).out ≡ []
run-down-quiet k bacp word l = each-quiet l k.tables (runs bacp) word (begins k.automata) refl
