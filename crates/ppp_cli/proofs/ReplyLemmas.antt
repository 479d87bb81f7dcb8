-- What is replied to an input of settings and lines, part by part.
use Rattle.std.proofs.Common.{◌≡◌, ℕ, List, sym, subst}
use Rattle.std.specs.Prelude.{Result, Ok, Err, IfOk}
use Rattle.ppp_cli.specs.Reply.{Reply, Declines, IsReplyIfSet, IsReplyToInput, IsReplyToLines}
use Rattle.ppp_conf.specs.Config.{Settings as Config, config_of}
use Rattle.ppp_conf.specs.Refusal.{Refusal as ConfRefusal}
use Rattle.ppp_script.specs.Line.{Form}
use Rattle.ppp_text.specs.Parts.{settings_in, script_in}

pub if_ok_map : {X E : Type 0} {P Q : X → Type 0} (r : Result X E) → IfOk r P → ((x : X) → P x → Q x) → IfOk r Q
if_ok_map (Ok x) p map = map x p
if_ok_map (Err e) p map = tt

module _ {E : Type 0} (form : Form E) (IsReplyTo : Config → List E → Reply → Type 0) where
  -- the input has these parts
  of_parts : (text settings lines : List ℕ) (reply : Reply) → settings ≡ settings_in text → lines ≡ script_in text →
      IsReplyIfSet form IsReplyTo (config_of settings) lines reply → IsReplyToInput form IsReplyTo text reply
  of_parts text settings lines reply settings_is lines_is is =
      subst (λ ls. IsReplyIfSet form IsReplyTo (config_of (settings_in text)) ls reply) lines_is
      (subst (λ s. IsReplyIfSet form IsReplyTo (config_of s) lines reply) settings_is is)

  -- its settings are read
  pub read_reply : (text settings lines : List ℕ) (c : Config) (reply : Reply) → settings ≡ settings_in text → lines ≡ script_in text → config_of settings ≡ Ok c →
      IsReplyToLines form IsReplyTo c lines reply → IsReplyToInput form IsReplyTo text reply
  read_reply text settings lines c reply settings_is lines_is read is =
      of_parts text settings lines reply settings_is lines_is (subst (λ r. IsReplyIfSet form IsReplyTo r lines reply) (sym read) is)

  -- they are refused
  pub declined_reply : (text settings lines : List ℕ) (reply : Reply) → settings ≡ settings_in text → lines ≡ script_in text → Declines (config_of settings) reply → IsReplyToInput form IsReplyTo text reply
  declined_reply text settings lines reply settings_is lines_is declines =
      of_parts text settings lines reply settings_is lines_is (by_read (config_of settings) declines) where
        by_read : (read : Result Config ConfRefusal) → Declines read reply → IsReplyIfSet form IsReplyTo read lines reply
        by_read (Ok c) is = absurd is
        by_read (Err refused) is = is
