-- What is used of the terms of two ends.
use Rattle.std.proofs.Common.{ℕ, List}
use Rattle.ppp_packet.specs.ConfigOption.{ConfigOption}
use Rattle.ppp_auto.specs.Lawful.{Passes}
use Rattle.ppp_duet.specs.Duet.{Setup}
use Rattle.ppp_duet.specs.Terms.{Terms, AreLawful, KeptBy}

-- The table keeps the property, and against a list of which those lists are allowed that pass and those fit that are
-- allowed.
pub record Used (compat : List ConfigOption → List ConfigOption → Type 0) (t : Terms) : Type 0 where
  pub kept : KeptBy t.setup.table t.keeps
  pub allowed : (own theirs : List ConfigOption) (word : ℕ) → t.keeps own → Passes t.setup.table own theirs word → t.allows own theirs
  pub fits : (own theirs : List ConfigOption) → t.keeps own → t.allows own theirs → compat own theirs
  pub fits_both : (one other : List ConfigOption) → compat one other → compat other one

-- the terms with one more property
abbrev pub with_kept : Terms → (List ConfigOption → Type 0) → Terms
with_kept t keeps = record { setup = t.setup; keeps = λ list. t.keeps list × keeps list; unknown = t.unknown; allows = t.allows }

pub used_with : (compat : List ConfigOption → List ConfigOption → Type 0) (t : Terms) (keeps : List ConfigOption → Type 0) → AreLawful compat t →
    KeptBy t.setup.table keeps → Used compat (with_kept t keeps)
used_with compat t keeps l k = record {
  kept = record {
    first_kept = λ word. (l.first_sent word, k.first_kept word);
    after_nak_kept = λ last nak word h. (l.after_nak_sent last nak word h.0, k.after_nak_kept last nak word h.1);
    after_reject_kept = λ last reject word h. (l.after_reject_sent last reject word h.0, k.after_reject_kept last reject word h.1);
  };
  allowed = λ own theirs word h passes. (l.allows_is own theirs word h.0).1 passes;
  fits = λ own theirs h. l.allowed_fits own theirs h.0;
  fits_both = l.fits_both_ways;
}

-- that a list may be sent is such a property
pub used : (compat : List ConfigOption → List ConfigOption → Type 0) (t : Terms) → AreLawful compat t → Used compat t
used compat t l = record {
  kept = record { first_kept = l.first_sent; after_nak_kept = l.after_nak_sent; after_reject_kept = l.after_reject_sent };
  allowed = λ own theirs word sent passes. (l.allows_is own theirs word sent).1 passes;
  fits = l.allowed_fits;
  fits_both = l.fits_both_ways;
}

-- terms that every table keeps
abbrev pub plain_terms : Setup → Terms
plain_terms s = record { setup = s; keeps = λ _. Unit {0}; unknown = λ _. Unit {0}; allows = λ _ _. Unit {0} }

pub plain_used : (s : Setup) → Used (λ _ _. Unit {0}) (plain_terms s)
plain_used s = record {
  kept = record { first_kept = λ _. tt; after_nak_kept = λ _ _ _ _. tt; after_reject_kept = λ _ _ _ _. tt };
  allowed = λ _ _ _ _ _. tt;
  fits = λ _ _ _ _. tt;
  fits_both = λ _ _ _. tt;
}
