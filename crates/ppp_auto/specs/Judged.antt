-- What was found in a request's options, on the way to its answer.
use Rattle.std.specs.Prelude.{◌≡◌, ℕ, Bool, true, false, ◌||◌, if◌then◌else◌, List, [], ◌∷◌, ◌++◌}
use Rattle.std.specs.Option.{option_to_list}
use Rattle.ppp_packet.specs.ConfigOption.{ConfigOption}
use Rattle.ppp_auto.specs.declared.judged.Judged.{Judged}
use Rattle.ppp_auto.specs.declared.verdict.Verdict.{Verdict}
use Rattle.ppp_auto.specs.Front.{IsFront}
use Rattle.ppp_auto.specs.OptionTable.{Table}
use Rattle.ppp_auto.specs.Reply.{better_of, bad_of, has_options, is_refused, rejected, suggested, unacceptable}

-- what a table thinks of an option, against an own list
abbrev pub judging_by : Table → List ConfigOption → ℕ → ConfigOption → Verdict
judging_by t own word = λ o. t.judge own o word

-- What is kept: what is rejected, else the bad options where Configure-Naks are spent, else the suggestions.
abbrev pub collected : Bool → List ConfigOption → List ConfigOption → List ConfigOption → List ConfigOption
collected spent (o ∷ refused) better bad = o ∷ refused
collected true [] better bad = bad
collected false [] better bad = better

pub record IsJudged (spent : Bool) (refused better bad : List ConfigOption) (j : Judged) : Type 0 where
  pub spends : j.spent ≡ spent
  pub refuses : j.refused ≡ has_options refused
  pub suggests : refused ≡ [] → j.bad ≡ has_options better
  pub alike : better ≡ [] → bad ≡ []
  pub kept : IsFront (collected spent refused better bad) j.front

-- these options were judged
abbrev pub AreJudged : (ConfigOption → Verdict) → Bool → List ConfigOption → Judged → Type 0
AreJudged judge spent list j = IsJudged spent (rejected judge [] list) (suggested judge list) (unacceptable judge list) j

-- an option is judged behind those that were judged before, whose kind stood among them or didn't
abbrev pub JudgesOne : Judged → Judged → Bool → ConfigOption → Verdict → Type 0
JudgesOne old new twice o v =
    (spent : Bool) (refused better bad : List ConfigOption) → IsJudged spent refused better bad old →
    IsJudged spent (refused ++ (if twice || is_refused o v then o ∷ [] else [])) (better ++ better_of v) (bad ++ bad_of o v) new

-- an option is rejected, whatever is bad
abbrev pub RefusesOne : Judged → Judged → ConfigOption → Type 0
RefusesOne old new o =
    (spent : Bool) (refused better bad more worse : List ConfigOption) → IsJudged spent refused better bad old → (more ≡ [] → worse ≡ []) →
    IsJudged spent (refused ++ o ∷ []) more worse new

-- an option is bad, and another would do
abbrev pub CorrectsOne : Judged → Judged → ConfigOption → ConfigOption → Type 0
CorrectsOne old new o other =
    (spent : Bool) (refused better bad : List ConfigOption) → IsJudged spent refused better bad old →
    IsJudged spent refused (better ++ other ∷ []) (bad ++ o ∷ []) new

-- What goes into the answer, if it isn't an Ack.
abbrev pub gathered : Bool → List ConfigOption → List ConfigOption → List ConfigOption → List ConfigOption → List ConfigOption
gathered spent (o ∷ refused) better missing bad = o ∷ refused
gathered true [] (o ∷ better) missing bad = bad
gathered spent [] better missing bad = better ++ missing

pub record IsSettled (spent : Bool) (refused better missing bad : List ConfigOption) (j : Judged) : Type 0 where
  pub spends : j.spent ≡ spent
  pub refuses : j.refused ≡ has_options refused
  pub suggests : refused ≡ [] → j.bad ≡ has_options better
  pub kept : IsFront (gathered spent refused better missing bad) j.front

-- the options of a request were judged against the own list, and what is missing among them
abbrev pub AreSettled : Table → List ConfigOption → Bool → ℕ → List ConfigOption → Judged → Type 0
AreSettled t own spent word theirs j =
    let judge : ConfigOption → Verdict = judging_by t own word in
    IsSettled spent (rejected judge [] theirs) (suggested judge theirs) (option_to_list (t.missing own theirs word)) (unacceptable judge theirs) j

-- the same of the options alone
abbrev pub AreJudgedBy : Table → List ConfigOption → Bool → ℕ → List ConfigOption → Judged → Type 0
AreJudgedBy t own spent word theirs j = AreJudged (judging_by t own word) spent theirs j
