-- Lists of options that are the same, and sublists.
use Rattle.std.proofs.Common.{◌≡◌, ℕ, Bool, true, false, ◌&&◌, ◌==◌, if◌then◌else◌, List, [], ◌∷◌, refl, ap, sym, ◌∙◌}
use Rattle.std.specs.Prelude.{IsTrue, ◌↔◌}
use Rattle.std.specs.Bool.{Decides}
use Rattle.std.specs.Str.{bytes_eq}
use Rattle.std.proofs.lemmas.Bool.Decides.{Decides-and, Decides-eqb, Decides-like, same_from_decides}
use Rattle.std.proofs.lemmas.Slice.Eq.{bytes_eq-Decides}
use Rattle.ppp_packet.specs.ConfigOption.{ConfigOption}
use Rattle.ppp_packet.specs.Options.{option_with}
use Rattle.ppp_auto.specs.Reply.{same_option, same_list, is_sublist, after_one}

with-same : (k l : ℕ) (x y : List ℕ) → k ≡ l → x ≡ y → option_with k x ≡ option_with l y
with-same k l x y e f = cc

same_option-Decides : (a b : ConfigOption) → Decides (same_option a b) (a ≡ b)
same_option-Decides a b =
    Decides-like (same_option a b) (λ p. with-same a.kind b.kind a.body b.body p.0 p.1) (λ e. (ap (λ (o : ConfigOption). o.kind) e, ap (λ (o : ConfigOption). o.body) e))
    (Decides-and (a.kind == b.kind) (bytes_eq a.body b.body) (Decides-eqb a.kind b.kind) (bytes_eq-Decides a.body b.body))

same_list-Decides : (xs ys : List ConfigOption) → Decides (same_list xs ys) (xs ≡ ys)
same_list-Decides [] [] = (λ h. refl, λ e. refl)
same_list-Decides [] (y ∷ ys) = (λ h. cc, λ e. cc)
same_list-Decides (x ∷ xs) [] = (λ h. cc, λ e. cc)
same_list-Decides (x ∷ xs) (y ∷ ys) =
    Decides-like (same_option x y && same_list xs ys) (λ p. let e = p.0 in let f = p.1 in cc) (λ e. (cc, cc))
    (Decides-and (same_option x y) (same_list xs ys) (same_option-Decides x y) (same_list-Decides xs ys))

pub same_list_is : (r : Bool) (own options : List ConfigOption) → IsTrue r ↔ (own ≡ options) → r ≡ same_list options own
same_list_is r own options h =
    let d : Decides r (options ≡ own) = (λ t. sym (h.0 t), λ e. h.1 (sym e)) in
    same_from_decides r (same_list options own) d (same_list-Decides options own)

sublist-if : (b : Bool) (x : ConfigOption) (xs behind : List ConfigOption) →
    (if b then is_sublist xs behind else is_sublist (x ∷ xs) behind) ≡ is_sublist (if b then xs else x ∷ xs) behind
sublist-if true x xs behind = refl
sublist-if false x xs behind = refl

pub sublist_step : (whole : Bool) (wanted left behind : List ConfigOption) (o : ConfigOption) → left ≡ o ∷ behind → whole ≡ is_sublist wanted left → whole ≡ is_sublist (after_one wanted o) behind
sublist_step whole [] left behind o e h = h
sublist_step whole (x ∷ xs) left behind o e h = h ∙ (ap (is_sublist (x ∷ xs)) e ∙ sublist-if (same_option x o) x xs behind)

pub sublist_end : (whole empty : Bool) (wanted left : List ConfigOption) → left ≡ [] → whole ≡ is_sublist wanted left → IsTrue empty ↔ (wanted ≡ []) → empty ≡ whole
sublist_end whole empty [] left e h t = t.1 refl ∙ sym h
sublist_end whole true (x ∷ xs) left e h t = let no : x ∷ xs ≡ [] = t.0 refl in cc
sublist_end whole false (x ∷ xs) left e h t = sym (h ∙ ap (is_sublist (x ∷ xs)) e)
