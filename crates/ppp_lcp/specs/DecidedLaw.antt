-- A peer has nothing to say to any of LCP's options but the Magic-Number: it knows an option by its Type, and what may
-- be asked for is good.
use Rattle.std.proofs.Common.{◌≡◌, ℕ, true, ◌&&◌, List, length, refl, arith}
use Rattle.std.specs.Prelude.{◌==◌, nat_le, Some}
use Rattle.std.proofs.lemmas.Bool.Decides.{nat_tests}
use Rattle.ppp_options.specs.Number.{number, is_within}
use Rattle.ppp_options.specs.Rules.{rule_of}
use Rattle.ppp_options.specs.Steady.{IsSteady}
use Rattle.ppp_lcp.specs.LcpKind.{kind_number}
use Rattle.ppp_lcp.specs.LcpSettings.{LcpSettings}
use Rattle.ppp_lcp.specs.LcpTable.{lcp_rule, lcp_rules}
use Rattle.ppp_lcp.specs.declared.lcp_kind.LcpKind.{LcpKind}
use Rattle.ppp_lcp.specs.declared.lcp_kind.LcpKind.TheVariants.{Mru, Accm, Magic, Pfc, Acfc, Mrru, Short, Disc, LinkDisc, Classes}

-- the row of a Type
pub lcp_row : (s : LcpSettings) (kind : LcpKind) → rule_of (kind_number kind) (lcp_rules s) ≡ Some (lcp_rule s kind)
lcp_row s Mru = refl
lcp_row s Accm = refl
lcp_row s Magic = refl
lcp_row s Pfc = refl
lcp_row s Acfc = refl
lcp_row s Mrru = refl
lcp_row s Short = refl
lcp_row s Disc = refl
lcp_row s LinkDisc = refl
lcp_row s Classes = refl

within-good : (least most : ℕ) (body : List ℕ) → is_within 2 least most body ≡ true → ((length body == 2) && nat_le least (number body)) ≡ true
within-good least most body sent = grind (arith, nat_tests)

pub lcp_steady : (s t : LcpSettings) (kind : LcpKind) → (kind ≡ Magic → ⊥) → IsSteady (lcp_rule s kind) (lcp_rule t kind)
lcp_steady s t Magic other = absurd (other refl)
lcp_steady s t Mru other = record { one_body = λ word. refl; by_type = λ body. refl; good = λ own body sent. within-good 128 8192 body sent }
lcp_steady s t Accm other = record { one_body = λ word. refl; by_type = λ body. refl; good = λ own body sent. sent }
lcp_steady s t Pfc other = record { one_body = λ word. refl; by_type = λ body. refl; good = λ own body sent. sent }
lcp_steady s t Acfc other = record { one_body = λ word. refl; by_type = λ body. refl; good = λ own body sent. sent }
lcp_steady s t Mrru other = record { one_body = λ word. refl; by_type = λ body. refl; good = λ own body sent. within-good 1500 8192 body sent }
lcp_steady s t Short other = record { one_body = λ word. refl; by_type = λ body. refl; good = λ own body sent. sent }
lcp_steady s t Disc other = record { one_body = λ word. refl; by_type = λ body. refl; good = λ own body sent. sent }
lcp_steady s t LinkDisc other = record { one_body = λ word. refl; by_type = λ body. refl; good = λ own body sent. sent }
lcp_steady s t Classes other = record { one_body = λ word. refl; by_type = λ body. refl; good = λ own body sent. sent }
