-- What holds of two ends in every state of a run.
use Rattle.std.proofs.Common.{◌≡◌, ℕ, ◌+◌, ◌%◌, ◌≤◌, ◌⊎◌, true, List, Some}
use Rattle.std.specs.List.{AllByRecursion}
use Rattle.ppp_auto.specs.Auto.{is_heard, has_acked}
use Rattle.ppp_duet.specs.Duet.{End, Marked, Duet}
use Rattle.ppp_duet.specs.Span.{requests, answers}
use Rattle.ppp_duet.specs.Terms.{Terms}
use Rattle.ppp_duet.proofs.Identifiers.{id_of}
use Rattle.ppp_duet.proofs.Queues.{request_id, ack_id, options_in, Rising}

-- A request under way has the Identifier of its ordinal, and the newest has the own list.
abbrev pub Asked : Terms → End → Marked → Type 0
Asked t e m =
    (id : ℕ) → request_id m.packet ≡ Some id →
    (id ≡ id_of t.setup.first m.mark) × (m.mark ≤ e.n) × (m.mark ≡ e.n → options_in m.packet ≡ e.auto.own) × t.keeps (options_in m.packet)

-- An Ack under way has the Identifier of the request that it answers.
abbrev pub Acked : Terms → Marked → Type 0
Acked t m = (id : ℕ) → ack_id m.packet ≡ Some id → id ≡ id_of t.setup.first m.mark

-- Of the requests of the end `e`, where `f` is the other end, and `out` and `back` are the queues from `e` and to it.
pub record Half (te tf : Terms) (e f : End) (out back : List Marked) : Type 0 where
  pub ids : e.auto.next_id % 256 ≡ (te.setup.first + e.n) % 256
  pub asked : AllByRecursion (Asked te e) out
  pub acked : AllByRecursion (Acked te) back
  -- in a queue the marks of requests never fall, nor do those of answers
  pub rising : Rising f.got e.n (requests out)
  pub answered : Rising 0 f.got (answers back)
  pub heard : is_heard e.auto.state ≡ true → f.got ≡ e.n
  pub keeps_own : te.keeps e.auto.own
  pub allowed : has_acked f.auto.state ≡ true → tf.allows f.against f.auto.peer
  pub knows : has_acked f.auto.state ≡ true → f.got ≡ e.n → f.auto.peer ≡ e.auto.own
  pub keeps_peer : has_acked f.auto.state ≡ true → te.keeps f.auto.peer

-- Where each end acknowledged the other's last request, one of them judged it against its own last list.
abbrev pub Judged : End → End → Type 0
Judged a b =
    has_acked a.auto.state ≡ true → has_acked b.auto.state ≡ true → a.got ≡ b.n → b.got ≡ a.n →
    (a.against ≡ a.auto.own) ⊎ (b.against ≡ b.auto.own)

pub record Holds (ta tb : Terms) (d : Duet) : Type 0 where
  pub of_a : Half ta tb d.a d.b d.to_b d.to_a
  pub of_b : Half tb ta d.b d.a d.to_a d.to_b
  pub judged : Judged d.a d.b
