-- What a peer answers to an end leaves a steady option as the end's settings have it.
use Rattle.std.proofs.Common.{◌≡◌, ℕ, ◌≤◌, Bool, true, false, List, [], ◌∷◌, refl, ◌∙◌, arith}
use Rattle.std.specs.Prelude.{◌==◌, nat_lt, if◌then◌else◌, Option, Some, None}
use Rattle.std.specs.List.{AllByRecursion, cons_option, list_all}
use Rattle.std.specs.Option.{option_map}
use Rattle.std.proofs.lemmas.Bool.Decides.{nat_tests}
use Rattle.ppp_packet.specs.ConfigOption.{ConfigOption}
use Rattle.ppp_packet.specs.Options.{option_with, find_kind}
use Rattle.ppp_auto.specs.Packet.{Ack}
use Rattle.ppp_auto.specs.Reply.{reply_to}
use Rattle.ppp_auto.specs.declared.verdict.Verdict.TheVariants.{Good}
use Rattle.ppp_options.specs.Free.{IsFree, LeavesAlone}
use Rattle.ppp_options.specs.FreeLaw.{free-nak, free-reject, free-answer, acks-answer, unknown-answer}
use Rattle.ppp_options.specs.Rule.{Rule}
use Rattle.ppp_options.specs.Rules.{rule_of, initial, judge, verdict_by, is_sent, adapt_nak, adapt_reject, requires_any, table_by, are_ascending, IsTable}
use Rattle.ppp_options.specs.RuleLaw.{and-both, first_sent, after_nak_sent, after_reject_sent, parts-of, rises-once}
use Rattle.ppp_options.specs.Steady.{IsSteady, AsksSteadily, granted_body}

free-find : (kind : ℕ) (list : List ConfigOption) → IsFree kind list → find_kind kind list ≡ None
free-find kind [] free = refl
free-find kind (o ∷ os) free = let rest = free-find kind os in grind (arith, nat_tests)

-- the option that a row asks for first
abbrev first_at : Option Rule → ℕ → Option (List ℕ)
first_at None word = None
first_at (Some r) word = r.first word

find-cons : (kind at : ℕ) (body : Option (List ℕ)) (list : List ConfigOption) → (at == kind) ≡ false →
    find_kind kind (cons_option (option_map (λ b. option_with at b) body) list) ≡ find_kind kind list
find-cons kind at None list other = refl
find-cons kind at (Some b) list other = rw other refl

find-first : (kind at : ℕ) (body : Option (List ℕ)) (list : List ConfigOption) → (at == kind) ≡ true → find_kind kind list ≡ None →
    find_kind kind (cons_option (option_map (λ b. option_with at b) body) list) ≡ body
find-first kind at None list same none = none
find-first kind at (Some b) list same none = rw same refl

above-other : (kind low at : ℕ) → kind ≤ low → nat_lt low at ≡ true → (at == kind) ≡ false
above-other kind low at below above = grind (arith, nat_tests)

above-later : (kind low at : ℕ) → kind ≤ low → nat_lt low at ≡ true → kind ≤ at
above-later kind low at below above = grind (arith, nat_tests)

find-none : (kind low : ℕ) (rs : List Rule) (word : ℕ) → are_ascending low rs ≡ true → kind ≤ low → find_kind kind (initial rs word) ≡ None
find-none kind low [] word up below = refl
find-none kind low (r ∷ rs) word up below =
    let both = and-both (nat_lt low r.kind) (are_ascending r.kind rs) up in
    find-cons kind r.kind (r.first word) (initial rs word) (above-other kind low r.kind below both.0)
    ∙ find-none kind r.kind rs word both.1 (above-later kind low r.kind below both.0)

same-below : (kind at : ℕ) → (at == kind) ≡ true → kind ≤ at
same-below kind at same = grind (arith, nat_tests)

find-by : (b : Bool) (kind : ℕ) (r : Rule) (rs : List Rule) (word : ℕ) → (r.kind == kind) ≡ b → are_ascending r.kind rs ≡ true →
    find_kind kind (initial rs word) ≡ first_at (rule_of kind rs) word →
    find_kind kind (initial (r ∷ rs) word) ≡ first_at (if b then Some r else rule_of kind rs) word
find-by true kind r rs word is up later =
    find-first kind r.kind (r.first word) (initial rs word) is (find-none kind r.kind rs word up (same-below kind r.kind is))
find-by false kind r rs word is up later = find-cons kind r.kind (r.first word) (initial rs word) is ∙ later

find-initial : (kind low : ℕ) (rs : List Rule) (word : ℕ) → are_ascending low rs ≡ true →
    find_kind kind (initial rs word) ≡ first_at (rule_of kind rs) word
find-initial kind low [] word up = refl
find-initial kind low (r ∷ rs) word up =
    let both = and-both (nat_lt low r.kind) (are_ascending r.kind rs) up in
    find-by (r.kind == kind) kind r rs word refl both.1 (find-initial kind r.kind rs word both.1)

known-good : (found : Option Rule) (theirs : Rule) (own : List ConfigOption) (body : List ℕ) (word : ℕ) → found ≡ Some theirs →
    theirs.is_known body ≡ true → theirs.is_good own body ≡ true → verdict_by found own body word ≡ Good
known-good found theirs own body word is known good = rw (is, known, good) refl

-- `mine` is the row of the Type in an end's table, and `theirs` the one in its peer's, which requires nothing.
module _ (rs ts : List Rule) (kind : ℕ) (mine theirs : Rule) (table : IsTable rs) (is_mine : rule_of kind rs ≡ Some mine) (is_theirs : rule_of kind ts ≡ Some theirs)
    (steady : IsSteady mine theirs) where
  abbrev Asks : List ConfigOption → Type 0
  Asks = AsksSteadily rs kind mine theirs

  pub first-steady : (word : ℕ) → Asks (initial rs word)
  first-steady word = record {
    sendable = first_sent rs table word;
    steady = λ known. let same = find-initial kind 0 rs word table.ascending in rw is_mine at same ∙ steady.one_body word;
  }

  pub nak-steady : (last nak : List ConfigOption) (word : ℕ) → Asks last → (theirs.is_known [] ≡ true → IsFree kind nak) → Asks (adapt_nak rs last nak word)
  nak-steady last nak word asks free = record {
    sendable = after_nak_sent rs table last nak word asks.sendable;
    steady = λ known. free-nak rs kind last nak word (free-find kind nak (free known)) ∙ asks.steady known;
  }

  pub reject-steady : (last reject : List ConfigOption) (word : ℕ) → Asks last → (theirs.is_known [] ≡ true → IsFree kind reject) →
      Asks (adapt_reject rs last reject word)
  reject-steady last reject word asks free = record {
    sendable = after_reject_sent rs last reject word asks.sendable;
    steady = λ known. free-reject rs kind last reject word (free known) ∙ asks.steady known;
  }

  good-option : (own : List ConfigOption) (word : ℕ) (o : ConfigOption) → theirs.is_known [] ≡ true → is_sent rs o ≡ true → o.kind ≡ kind → judge ts own o word ≡ Good
  good-option own word o known sent same =
      let is_sent_mine : mine.is_sent o.body ≡ true = rw (same, is_mine) at sent in
      known-good (rule_of o.kind ts) theirs own o.body word (rw same is_theirs) (steady.by_type o.body ∙ known) (steady.good own o.body is_sent_mine)

  good-options : (own : List ConfigOption) (word : ℕ) (list : List ConfigOption) → theirs.is_known [] ≡ true → list_all (is_sent rs) list ≡ true →
      AllByRecursion (λ o. o.kind ≡ kind → judge ts own o word ≡ Good) list
  good-options own word [] known all = tt
  good-options own word (o ∷ os) known all =
      let both = and-both (is_sent rs o) (list_all (is_sent rs) os) all in
      ((λ same. good-option own word o known both.0 same), good-options own word os known both.1)

  -- the peer's answer to such a list
  pub answer-steady : (extended : Bool) (magic : List ConfigOption → ℕ) (own list : List ConfigOption) (naks word id : ℕ) → requires_any ts ≡ false → Asks list →
      theirs.is_known [] ≡ true → LeavesAlone kind (reply_to (table_by extended ts magic) own naks word id list).answer
  answer-steady extended magic own list naks word id none asks known =
      let parts = parts-of rs list asks.sendable in
      free-answer extended ts magic kind own naks word id list none (rises-once 0 [] list refl parts.0) (good-options own word list known parts.1)

  granted-by : (b : Bool) (list : List ConfigOption) → theirs.is_known [] ≡ b → Asks list → (b ≡ false → IsFree kind list) →
      find_kind kind list ≡ (if b then mine.first 0 else None)
  granted-by true list known asks free = asks.steady known
  granted-by false list known asks free = free-find kind list (free refl)

  pub ack-steady : (extended : Bool) (magic : List ConfigOption → ℕ) (own list : List ConfigOption) (naks word id : ℕ) → Asks list →
      (named : ℕ) (options : List ConfigOption) → (reply_to (table_by extended ts magic) own naks word id list).answer ≡ Ack named options →
      find_kind kind options ≡ granted_body mine theirs
  ack-steady extended magic own list naks word id asks named options is =
      let same : options ≡ list = rw is at (acks-answer (table_by extended ts magic) own naks word id list) in
      rw same (granted-by (theirs.is_known []) list refl asks (λ unknown.
      let none = unknown-answer extended ts magic kind own naks word id list (λ body. rw is_theirs (steady.by_type body ∙ unknown)) in
      let free : IsFree kind options = rw is at none in
      rw same at free))
