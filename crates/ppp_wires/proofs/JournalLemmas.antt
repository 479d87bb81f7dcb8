-- Calls that are kept stay what they are when further octets come behind all.
use Rattle.std.proofs.Common.{◌≡◌, ℕ, suc, ◌+◌, ◌-◌, ◌<◌, ◌≤◌, List, [], ◌∷◌, ◌++◌, length, map, take, drop, refl, ap, ◌∙◌, arith, length-drop}
use Rattle.std.specs.Prelude.{All}
use Rattle.std.proofs.lemmas.List.{take-append-le, drop-append-le, drop_at, take_all, map-append}
use Rattle.ppp_wires.specs.declared.journal.Entry.{Entry}
use Rattle.ppp_wires.specs.declared.journal.Kept.{Kept}
use Rattle.ppp_wires.specs.Journal.{made_of, made_in, IsInside}

made-more : (octets more : List ℕ) (kept : Kept) → IsInside octets kept → made_in (octets ++ more) kept ≡ made_in octets kept
made-more octets more kept inside =
    let fits : kept.end - kept.start ≤ length (drop kept.start octets) = let l = length-drop kept.start octets in omega arith in
    let start : kept.start ≤ length octets = omega arith in
    rw (drop-append-le kept.start octets more start, take-append-le (kept.end - kept.start) (drop kept.start octets) more fits) refl

map-more : (octets more : List ℕ) (calls : List Kept) → All (IsInside octets) calls → map (made_in (octets ++ more)) calls ≡ map (made_in octets) calls
map-more octets more [] inside = refl
map-more octets more (kept ∷ calls) inside = rw (made-more octets more kept (inside 0 kept (omega arith)), map-more octets more calls (λ k d below. inside (suc k) d (omega arith))) refl

made-last : (octets more : List ℕ) (entry : Entry) → made_in (octets ++ more) (record { entry = entry; start = length octets; end = length octets + length more }) ≡ made_of entry more
made-last octets more entry =
    let count : length octets + length more - length octets ≡ length more = omega arith in
    rw (count, drop_at octets more (length octets) refl, take_all (length more) more (omega arith)) refl

pub made-append : (octets more : List ℕ) (calls : List Kept) (entry : Entry) (start : ℕ) → start ≡ length octets → All (IsInside octets) calls → map (made_in (octets ++ more)) (calls ++ record { entry = entry; start = start; end = start + length more } ∷ []) ≡ map (made_in octets) calls ++ made_of entry more ∷ []
made-append octets more calls entry start is inside = rw (is, map-append (made_in (octets ++ more)) calls (record { entry = entry; start = length octets; end = length octets + length more } ∷ []), map-more octets more calls inside, made-last octets more entry) refl
