-- What two ends with LCP's table say of an option that their settings decide.
use Rattle.std.proofs.Common.{◌≡◌, ℕ, true, List, refl}
use Rattle.ppp_packet.specs.ConfigOption.{ConfigOption}
use Rattle.ppp_packet.specs.Options.{find_kind}
use Rattle.ppp_auto.specs.OptionTable.{Table}
use Rattle.ppp_auto.specs.Packet.{Packet, Request, Ack, Nak, Reject, Other}
use Rattle.ppp_duet.specs.Duet.{Duet, Event, Setup, run, start}
use Rattle.ppp_duet.specs.Reached.{Reached}
use Rattle.ppp_duet.specs.Said.{Speech, IsSaid, Said, Says}
use Rattle.ppp_duet.proofs.SaidLemmas.{said_run, said_at}
use Rattle.ppp_lcp.specs.Decided.{knows, body_granted}
use Rattle.ppp_lcp.specs.DecidedLaw.{lcp_row, lcp_steady}
use Rattle.ppp_lcp.specs.LcpKind.{kind_number}
use Rattle.ppp_lcp.specs.LcpLaw.{lcp_is_table}
use Rattle.ppp_lcp.specs.LcpSettings.{LcpSettings, IsRanged}
use Rattle.ppp_lcp.specs.LcpTable.{lcp_rule, lcp_rules, magic_of}
use Rattle.ppp_lcp.specs.declared.lcp_kind.LcpKind.{LcpKind}
use Rattle.ppp_lcp.specs.declared.lcp_kind.LcpKind.TheVariants.{Magic}
use Rattle.ppp_options.specs.Free.{IsFree, LeavesAlone}
use Rattle.ppp_options.specs.FreeLaw.{reply-asks-nothing}
use Rattle.ppp_options.specs.Rules.{table_by}
use Rattle.ppp_options.specs.Steady.{AsksSteadily}
use Rattle.ppp_options.specs.SteadyLaw.{first-steady, nak-steady, reject-steady, answer-steady, ack-steady}
use Rattle.ppp_world.specs.Decided.{AreDecided}

-- LCP's table, of what it is set to
abbrev table_set : LcpSettings → Table
table_set s = table_by true (lcp_rules s) magic_of

-- an end with settings s whose peer has t
abbrev speech : LcpKind → LcpSettings → LcpSettings → Speech
speech kind s t = record {
  asks = AsksSteadily (lcp_rules s) (kind_number kind) (lcp_rule s kind) (lcp_rule t kind);
  acks = λ list. find_kind (kind_number kind) list ≡ body_granted kind t s;
  naks = λ list. knows kind s ≡ true → IsFree (kind_number kind) list;
  rejects = λ list. knows kind s ≡ true → IsFree (kind_number kind) list;
}

said_by : (kind : LcpKind) (s t : LcpSettings) (p : Packet) → ((id : ℕ) (options : List ConfigOption) → p ≡ Request id options → ⊥) →
    (knows kind s ≡ true → LeavesAlone (kind_number kind) p) →
    ((id : ℕ) (options : List ConfigOption) → p ≡ Ack id options → find_kind (kind_number kind) options ≡ body_granted kind t s) → IsSaid (speech kind s t) p
said_by kind s t (Request id options) asks leaves acks = absurd (asks id options refl)
said_by kind s t (Ack id options) asks leaves acks = acks id options refl
said_by kind s t (Nak id options) asks leaves acks = leaves
said_by kind s t (Reject id options) asks leaves acks = leaves
said_by kind s t (Other code id octets) asks leaves acks = tt

says : (kind : LcpKind) → (kind ≡ Magic → ⊥) → (s t : LcpSettings) → IsRanged s → IsRanged t → Says (table_set s) (speech kind s t) (speech kind t s)
says kind other s t ranged ranged_t =
    let k = kind_number kind in
    let rs = lcp_rules s in
    let ts = lcp_rules t in
    let mine = lcp_rule s kind in
    let theirs = lcp_rule t kind in
    let table = lcp_is_table s ranged in
    let asked = lcp_steady s t kind other in
    record {
      first = first-steady rs ts k mine theirs table (lcp_row s kind) (lcp_row t kind) asked;
      after_nak = nak-steady rs ts k mine theirs table (lcp_row s kind) (lcp_row t kind) asked;
      after_reject = reject-steady rs ts k mine theirs table (lcp_row s kind) (lcp_row t kind) asked;
      answers = λ own list naks word id _ asks.
          said_by kind s t _ (reply-asks-nothing (table_set s) own naks word id list)
          (answer-steady ts rs k theirs mine (lcp_is_table t ranged_t) (lcp_row t kind) (lcp_row s kind) (lcp_steady t s kind other) true magic_of own list naks word id refl asks)
          (ack-steady ts rs k theirs mine (lcp_is_table t ranged_t) (lcp_row t kind) (lcp_row s kind) (lcp_steady t s kind other) true magic_of own list naks word id asks);
    }

abbrev pub lcp_setup : LcpSettings → ℕ → Setup
lcp_setup s first = record { table = table_set s; first = first }

decided : (kind : LcpKind) (s t : LcpSettings) (d : Duet) → Said (speech kind s t) (speech kind t s) d → AreDecided kind s t d
decided kind s t d h = record {
  of_a = record { own = h.by_a.own.steady; acknowledged = h.by_b.acknowledged };
  of_b = record { own = h.by_b.own.steady; acknowledged = h.by_a.acknowledged };
}

module _ (kind : LcpKind) (other : kind ≡ Magic → ⊥) (s t : LcpSettings) (ranged_s : IsRanged s) (ranged_t : IsRanged t) (first_a first_b : ℕ) where
  -- in every state that is reached, and in every run
  pub decided_at : (d : Duet) → Reached (lcp_setup s first_a) (lcp_setup t first_b) d → AreDecided kind s t d
  decided_at d r = decided kind s t d
      (said_at (lcp_setup s first_a) (lcp_setup t first_b) (speech kind s t) (speech kind t s) (says kind other s t ranged_s ranged_t) (says kind other t s ranged_t ranged_s) d r)

  pub decided_run : (es : List Event) → AreDecided kind s t (run (lcp_setup s first_a) (lcp_setup t first_b) es (start (lcp_setup s first_a) (lcp_setup t first_b)))
  decided_run es = decided kind s t _
      (said_run (lcp_setup s first_a) (lcp_setup t first_b) (speech kind s t) (speech kind t s) (says kind other s t ranged_s ranged_t) (says kind other t s ranged_t ranged_s) es)
