-- What a class delivers begins as some fragment did.
use Rattle.std.proofs.Common.{◌≡◌, ℕ, zero, suc, ◌+◌, Bool, true, false, not, if◌then◌else◌, ◌==◌, List, [], ◌∷◌, ◌++◌, length, map, refl}
use Rattle.std.specs.Prelude.{IsTrue, nat_le, nat_lt}
use Rattle.std.specs.List.{AllByRecursion}
use Rattle.ppp_mp.specs.Begins.{AllBeginSo, BeginsSo, IsOfFronts, TookSo}
use Rattle.ppp_mp.specs.Class.{Class, Shape, ahead, discarded, has_room, held_as, is_discarded, lowered, next_at, put, received, room_of, row_with, turned_as, turns_of}
use Rattle.ppp_mp.specs.Fragments.{Fragment, Numbered}
use Rattle.ppp_mp.specs.Settlement.{Move, Row, Run, Settled, at_first, by_run, given, least_held, move, moved, past_missing, run_from, settle}
use Rattle.ppp_mp.specs.Settlement.Run.{Whole, Again, Gap}
use Rattle.ppp_mp.specs.Settlement.Move.{Still, To}

module _ (starts : List ℕ → Bool) (fronts : IsOfFronts starts) where
  abbrev pub AllStart : List (List ℕ) → Type 0
  AllStart out = AllByRecursion (λ packet. IsTrue (starts packet)) out

  abbrev pub RunSo : Run → Type 0
  RunSo (Whole past packet rest) = IsTrue (starts packet) × AllBeginSo starts rest
  RunSo (Again at rest) = AllBeginSo starts rest
  RunSo (Gap at rest) = AllBeginSo starts rest

  abbrev pub MoveSo : Move → Type 0
  MoveSo Still = Unit {0}
  MoveSo (To r out) = AllBeginSo starts r.held × AllStart out

  abbrev pub SettledSo : Settled → Type 0
  SettledSo s = AllBeginSo starts s.row.held × AllStart s.out

  run-so : (held : List Numbered) (n : ℕ) (begun : List ℕ) → IsTrue (starts begun) → AllBeginSo starts held → RunSo (run_from n begun held)
  run-so [] n begun first all = tt
  run-so (h ∷ hs) n begun first all =
      go (h.number == n) h.fragment.begins h.fragment.ends (run-so hs (n + 1) (begun ++ h.fragment.payload) (fronts begun h.fragment.payload first) all.1)
    where
      go : (same b e : Bool) → RunSo (run_from (n + 1) (begun ++ h.fragment.payload) hs) →
          RunSo (if same then (if b then Again n (h ∷ hs) else if e then Whole (n + 1) (begun ++ h.fragment.payload) hs else run_from (n + 1) (begun ++ h.fragment.payload) hs) else Gap n (h ∷ hs))
      go false b e rest = all
      go true true e rest = all
      go true false true rest = (fronts begun h.fragment.payload first, all.1)
      go true false false rest = rest

  given-so : (most : ℕ) (packet : List ℕ) → IsTrue (starts packet) → AllStart (given most packet)
  given-so most packet first = go (nat_le (length packet) most)
    where
      go : (b : Bool) → AllStart (if b then packet ∷ [] else [])
      go true = (first, tt)
      go false = tt

  by_run-so : (limit most : ℕ) (r : Run) → RunSo r → MoveSo (by_run limit most r)
  by_run-so limit most (Whole past packet rest) h = (h.1, given-so most packet h.0)
  by_run-so limit most (Again at rest) h = (h, tt)
  by_run-so limit most (Gap at rest) h = go (nat_lt at limit)
    where
      go : (b : Bool) → MoveSo (if b then To (record { next = at; held = rest }) [] else Still)
      go true = (h, tt)
      go false = tt

  at_first-so : (limit most n : ℕ) (h : Numbered) (hs : List Numbered) → AllBeginSo starts (h ∷ hs) → MoveSo (at_first limit most n h hs)
  at_first-so limit most n h hs all = go h.fragment.begins refl h.fragment.ends
    where
      go : (b : Bool) → h.fragment.begins ≡ b → (e : Bool) →
          MoveSo (if not b then To (record { next = n + 1; held = hs }) [] else by_run limit most (if e then Whole (n + 1) h.fragment.payload hs else run_from (n + 1) h.fragment.payload hs))
      go false is e = (all.1, tt)
      go true is true = (all.1, given-so most h.fragment.payload (all.0 is))
      go true is false = by_run-so limit most (run_from (n + 1) h.fragment.payload hs) (run-so hs (n + 1) h.fragment.payload (all.0 is) all.1)

  past_missing-so : (limit n : ℕ) (held : List Numbered) → AllBeginSo starts held → MoveSo (past_missing limit n held)
  past_missing-so limit n held all = go (nat_lt n limit)
    where
      go : (b : Bool) → MoveSo (if b then To (record { next = least_held limit held; held = held }) [] else Still)
      go true = (all, tt)
      go false = tt

  move-so : (limit most n : ℕ) (held : List Numbered) → AllBeginSo starts held → MoveSo (move limit most n held)
  move-so limit most n [] all = past_missing-so limit n [] all
  move-so limit most n (h ∷ hs) all = go (h.number == n)
    where
      go : (b : Bool) → MoveSo (if b then at_first limit most n h hs else past_missing limit n (h ∷ hs))
      go true = at_first-so limit most n h hs all
      go false = past_missing-so limit n (h ∷ hs) all

  start-both : (one two : List (List ℕ)) → AllStart one → AllStart two → AllStart (one ++ two)
  start-both [] two a b = b
  start-both (x ∷ one) two a b = (a.0, start-both one two a.1 b)

  moved-so : (more : Row → Settled) (r : Row) (m : Move) → AllBeginSo starts r.held → MoveSo m → ((s : Row) → AllBeginSo starts s.held → SettledSo (more s)) → SettledSo (moved more r m)
  moved-so more r Still all h rest = (all, tt)
  moved-so more r (To s out) all h rest = ((rest s h.0).0, start-both out (more s).out h.1 (rest s h.0).1)

  settle-so : (points limit most : ℕ) (r : Row) → AllBeginSo starts r.held → SettledSo (settle points limit most r)
  settle-so zero limit most r all = (all, tt)
  settle-so (suc points) limit most r all =
      moved-so (settle points limit most) r (move limit most r.next r.held) all (move-so limit most r.next r.held all) (λ s h. settle-so points limit most s h)

  put-so : (h : Numbered) (held : List Numbered) → BeginsSo starts h.fragment → AllBeginSo starts held → AllBeginSo starts (put h held)
  put-so h [] own all = (own, tt)
  put-so h (x ∷ xs) own all = go (nat_lt h.number x.number) (put-so h xs own all.1)
    where
      go : (b : Bool) → AllBeginSo starts (put h xs) → AllBeginSo starts (if b then h ∷ x ∷ xs else x ∷ put h xs)
      go true rest = (own, all)
      go false rest = (all.0, rest)

  abbrev pub RowSo : Row → Type 0
  RowSo r = AllBeginSo starts r.held

  row-so : (room next : ℕ) (held : List Numbered) (h : Numbered) → BeginsSo starts h.fragment → AllBeginSo starts held → RowSo (row_with room next held h)
  row-so room next held h own all = go (has_room room held h.fragment)
    where
      go : (b : Bool) → RowSo (if b then record { next = next; held = put h held } else record { next = h.number; held = h ∷ [] })
      go true = put-so h held own all
      go false = (own, tt)

  lowered-so : (turns : ℕ) (held : List Numbered) → AllBeginSo starts held → AllBeginSo starts (map (lowered turns) held)
  lowered-so turns [] all = tt
  lowered-so turns (h ∷ hs) all = (all.0, lowered-so turns hs all.1)

  turned-so : (space : ℕ) (r : Settled) (heard : List ℕ) → SettledSo r → TookSo starts (turned_as space r heard)
  turned-so space r heard h = record { held = lowered-so (turns_of space r.row.next) r.row.held h.0; out = h.1 }

  received-so : (s : Shape) (joined : List Bool) (k : Class) (link wire : ℕ) (f : Fragment) → BeginsSo starts f → AllBeginSo starts k.held → TookSo starts (received s joined k link wire f)
  received-so s joined k link wire f own all = go (is_discarded s k wire f)
    where
      next : ℕ
      next = next_at k.next wire

      go : (b : Bool) → TookSo starts (if b then discarded k else held_as s joined k link (next_at k.next wire) (record { number = next_at k.next wire + ahead s.space (next_at k.next wire) wire; fragment = f }))
      go true = record { held = all; out = tt }
      go false = turned-so s.space _ _ (settle-so _ _ s.most _ (row-so (room_of s) (next_at k.next wire) k.held (record { number = next_at k.next wire + ahead s.space (next_at k.next wire) wire; fragment = f }) own all))

-- what a class delivers begins as some fragment did that begins a packet
pub received-begins : (starts : List ℕ → Bool) → IsOfFronts starts → (s : Shape) (joined : List Bool) (k : Class) (link wire : ℕ) (f : Fragment) → BeginsSo starts f → AllBeginSo starts k.held → TookSo starts (received s joined k link wire f)
received-begins starts fronts = received-so starts fronts
