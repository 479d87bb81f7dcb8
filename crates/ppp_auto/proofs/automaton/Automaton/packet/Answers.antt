use Rattle.std.proofs.Common.{◌≡◌, ◌∙◌, [], ap, sym}
use Rattle.ppp_auto.specs.Auto.{auto_seen}
use Rattle.ppp_auto.specs.Automaton.{Acted, entries_of, take_octets}
use Rattle.ppp_auto.specs.Packet.{packet_of}
use Rattle.ppp_auto.proofs.AutomatonLemmas.{off_still}
use Rattle.ppp_auto.proofs.TakenLemmas.{kind_comes}
use Rattle.ppp_auto.proofs.automaton.Automaton.packet.Goals as goal
use Rattle.ppp_auto.proofs.automaton.Automaton.packet.Goals.{Then-is_off}

pub returns-then-is_off-clause-auto : goal.returns-then-is_off-clause-auto
returns-then-is_off-clause-auto g c =
    let still : take_octets (g.T.OptionTable.table c.self.inside.table) (auto_seen c.self.inside.auto) c.args.bytes.now c.args.word ≡ record { auto = auto_seen c.self.inside.auto; effects = [] } =
    off_still (g.T.OptionTable.table c.self.inside.table) (g.T.OptionTable.sendable c.self.inside.table) (auto_seen c.self.inside.auto) (packet_of c.args.bytes.now) c.args.word
    (λ p. kind_comes _ _ _ _ _ (g.met.T.OptionTable.lawful c.self.inside.table) (auto_seen c.self.inside.auto) c.self.invariant.sends p c.args.word) (sym c.is_off.ensures ∙ c.if-is_off.true) in
    sym (ap (λ v. v.1) c.self.view_is)
    ∙ (sym (ap (λ (acted : Acted). acted.auto) still) ∙ ap (λ v. (take_octets (g.T.OptionTable.table v.0) v.1 c.args.bytes.now c.args.word).auto) c.self.view_is)

pub returns-then-is_off-clause-out : goal.returns-then-is_off-clause-out
returns-then-is_off-clause-out g c =
    let still : take_octets (g.T.OptionTable.table c.self.inside.table) (auto_seen c.self.inside.auto) c.args.bytes.now c.args.word ≡ record { auto = auto_seen c.self.inside.auto; effects = [] } =
    off_still (g.T.OptionTable.table c.self.inside.table) (g.T.OptionTable.sendable c.self.inside.table) (auto_seen c.self.inside.auto) (packet_of c.args.bytes.now) c.args.word
    (λ p. kind_comes _ _ _ _ _ (g.met.T.OptionTable.lawful c.self.inside.table) (auto_seen c.self.inside.auto) c.self.invariant.sends p c.args.word) (sym c.is_off.ensures ∙ c.if-is_off.true) in
    c.clear.ensures ∙ (sym (ap entries_of still) ∙ ap (λ v. entries_of (take_octets (g.T.OptionTable.table v.0) v.1 c.args.bytes.now c.args.word)) c.self.view_is)
