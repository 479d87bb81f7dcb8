-- What a row of the event table comes to, put together from the steps of the code.
use Rattle.std.proofs.Common.{◌≡◌, ℕ, ◌+◌, ◌%◌, ◌≤◌, true, false, if◌then◌else◌, List, [], ◌∷◌, length, map, Option, Some, None, refl, ap, sym, ◌∙◌, arith}
use Rattle.ppp_packet.specs.ConfigOption.{ConfigOption}
use Rattle.ppp_auto.specs.declared.action.Action.{Action}
use Rattle.ppp_auto.specs.declared.action.Action.TheVariants.{ThisLayerUp, ThisLayerDown, ThisLayerStarted, ThisLayerFinished, InitializeRestartCount, ZeroRestartCount, SendConfigureRequest, RepeatConfigureRequest, SendConfigureAck, SendConfigureNak, SendTerminateRequest, SendTerminateAck, SendCodeReject, SendEchoReply}
use Rattle.ppp_auto.specs.declared.auto_state.AutoState.{AutoState}
use Rattle.ppp_auto.specs.declared.input.Input.{Input}
use Rattle.ppp_auto.specs.declared.input.Input.TheVariants.{ReceiveConfigureRequestGood}
use Rattle.ppp_auto.specs.declared.taken.Taken.{Taken as Kept}
use Rattle.ppp_auto.specs.Auto.{Auto, is_off}
use Rattle.ppp_auto.specs.Automaton.{Acted, acts_as, after, counts_anew, does_row, effect_of, effects, entries_of, take_read}
use Rattle.ppp_auto.specs.EventTable.{Cell, acks, cell_of, draws, stays}
use Rattle.ppp_auto.specs.OptionTable.{Table}
use Rattle.ppp_auto.specs.Outbox.{entry_of}
use Rattle.ppp_auto.specs.Packet.{Packet}
use Rattle.ppp_auto.specs.Taken.{Taken, kind, taken_seen}
use Rattle.ppp_auto.proofs.TakenLemmas.{Comes, comes_in_packet}

pub cell_few : (i : Input) (s : AutoState) → length (cell_of i s).actions ≤ 4
cell_few i s = grind arith

-- a Configure-Ack is sent for an acceptable request alone
pub acked_good : (i : Input) (s : AutoState) → acks (cell_of i s).actions ≡ true → i ≡ ReceiveConfigureRequestGood
acked_good i s h = grind arith

-- the automaton after a row, but for the Identifier of the next Terminate-Request or Code-Reject
abbrev pub middle : Table → Auto → Input → Cell → Taken → ℕ → Auto
middle t a input cell taken word = record (after t a input cell taken word) { second = a.second }

pub row_auto : (t : Table) (a mid : Auto) (input : Input) (cell : Cell) (taken : Taken) (word second : ℕ) → mid ≡ middle t a input cell taken word → cell ≡ cell_of input a.state →
    second ≡ (if draws cell.actions then (mid.second + 1) % 256 else mid.second) → record mid { second = second } ≡ (does_row t a input taken word).auto
unfolding does_row
row_auto t a mid input cell taken word second e c s =
    let s' : second ≡ (if draws cell.actions then (a.second + 1) % 256 else a.second) = s ∙ ap (λ (m : Auto). if draws cell.actions then (m.second + 1) % 256 else m.second) e in
    ap (λ (m : Auto). record m { second = second }) e ∙ (ap (λ (n : ℕ). record (after t a input cell taken word) { second = n }) s' ∙ ap (λ (c' : Cell). after t a input c' taken word) c)

effect_middle : (t : Table) (a : Auto) (input : Input) (cell : Cell) (taken : Kept) (word : ℕ) (own : List ConfigOption) (x : Action) →
    let mid = middle t a input cell (taken_seen a.own taken) word in
    effect_of mid mid (taken_seen own taken) x ≡ effect_of a (after t a input cell (taken_seen a.own taken) word) (taken_seen a.own taken) x
effect_middle t a input cell taken word own ThisLayerUp = refl
effect_middle t a input cell taken word own ThisLayerDown = refl
effect_middle t a input cell taken word own ThisLayerStarted = refl
effect_middle t a input cell taken word own ThisLayerFinished = refl
effect_middle t a input cell taken word own InitializeRestartCount = refl
effect_middle t a input cell taken word own ZeroRestartCount = refl
effect_middle t a input cell taken word own SendConfigureRequest = refl
effect_middle t a input cell taken word own RepeatConfigureRequest = refl
effect_middle t a input cell taken word own SendConfigureAck = refl
effect_middle t a input cell taken word own SendConfigureNak = refl
effect_middle t a input cell taken word own SendTerminateRequest = refl
effect_middle t a input cell taken word own SendTerminateAck = refl
effect_middle t a input cell taken word own SendCodeReject = refl
effect_middle t a input cell taken word own SendEchoReply = refl

effects_middle : (t : Table) (a : Auto) (input : Input) (cell : Cell) (taken : Kept) (word : ℕ) (own : List ConfigOption) (xs : List Action) →
    let mid = middle t a input cell (taken_seen a.own taken) word in
    effects mid mid (taken_seen own taken) xs ≡ effects a (after t a input cell (taken_seen a.own taken) word) (taken_seen a.own taken) xs
effects_middle t a input cell taken word own [] = refl
effects_middle t a input cell taken word own (x ∷ xs) =
    let one = effect_middle t a input cell taken word own x in
    let rest = effects_middle t a input cell taken word own xs in
    cc

pub row_entries : (t : Table) (a mid : Auto) (input : Input) (cell : Cell) (taken : Kept) (word : ℕ) (own : List ConfigOption) → mid ≡ middle t a input cell (taken_seen a.own taken) word → cell ≡ cell_of input a.state →
    map entry_of (effects mid mid (taken_seen own taken) cell.actions) ≡ entries_of (does_row t a input (taken_seen a.own taken) word)
unfolding does_row
row_entries t a mid input cell taken word own e c =
    ap (λ (m : Auto). map entry_of (effects m m (taken_seen own taken) cell.actions)) e
    ∙ (ap (map entry_of) (effects_middle t a input cell taken word own cell.actions)
    ∙ ap (λ (c' : Cell). map entry_of (effects a (after t a input c' (taken_seen a.own taken) word) (taken_seen a.own taken) c'.actions)) c)

-- in Initial and Starting no packet does anything
still : (a : Auto) → Acted
still a = record { auto = a; effects = [] }

off_cell : (i : Input) (s : AutoState) → comes_in_packet i ≡ true → is_off s ≡ true → cell_of i s ≡ stays s
off_cell i s h k = grind arith

off_count : (i : Input) (s : AutoState) → comes_in_packet i ≡ true → counts_anew i s ≡ false
off_count i s h = grind arith

row_still : (t : Table) (a : Auto) (input : Input) (taken : Taken) (word : ℕ) → cell_of input a.state ≡ stays a.state → counts_anew input a.state ≡ false → does_row t a input taken word ≡ still a
unfolding does_row still
row_still t a input taken word c n = rw (c, n) refl

acts_still : (t : Table) (sendable : List ConfigOption → Type 0) (a : Auto) (taken : Taken) (input : Option Input) (word : ℕ) → input ≡ taken.input → Comes sendable a taken → is_off a.state ≡ true →
    acts_as t a taken word ≡ still a
unfolding still does_row
acts_still t sendable a taken None word e h off = rw (← e, h.silent off) refl
acts_still t sendable a taken (Some input) word e h off =
    let comes = h.packet input (sym e) in
    rw (← e) (row_still t a input taken word (off_cell input a.state comes off) (off_count input a.state comes))

pub off_still : (t : Table) (sendable : List ConfigOption → Type 0) (a : Auto) (packet : Option Packet) (word : ℕ) → ((p : Packet) → Comes sendable a (kind t a p word)) → is_off a.state ≡ true → take_read t a packet word ≡ record { auto = a; effects = [] }
unfolding still
off_still t sendable a None word h off = refl
off_still t sendable a (Some p) word h off = acts_still t sendable a (kind t a p word) _ word refl (h p) off
