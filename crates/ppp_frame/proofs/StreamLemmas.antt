-- Streams that are cut at their flags, part by part.
use Rattle.std.proofs.Common.{◌≡◌, ℕ, Bool, true, false, if◌then◌else◌, List, [], ◌∷◌, ◌++◌, take, refl, ap, sym, ◌∙◌, append_assoc, append-nil, one-add}
use Rattle.std.specs.List.{prefix_len, position_or_len}
use Rattle.std.specs.List.{AllByRecursion}
use Rattle.std.proofs.lemmas.Bool.{eqb-false}
use Rattle.ppp_frame.specs.Escapes.{HasNoFlag}
use Rattle.ppp_frame.specs.Stream.{is_flag, ended, run_after, pieces_from, unfinished_from}

pub pieces-append : (run xs ys : List ℕ) → pieces_from run (xs ++ ys) ≡ pieces_from run xs ++ pieces_from (unfinished_from run xs) ys
pieces-append run [] ys = refl
pieces-append run (x ∷ xs) ys =
    let first = if is_flag x then ended run else [] in
    ap (λ ps. first ++ ps) (pieces-append (run_after run x) xs ys)
    ∙ sym (append_assoc first (pieces_from (run_after run x) xs) (pieces_from (unfinished_from (run_after run x) xs) ys))

pub unfinished-append : (run xs ys : List ℕ) → unfinished_from run (xs ++ ys) ≡ unfinished_from (unfinished_from run xs) ys
unfinished-append run [] ys = refl
unfinished-append run (x ∷ xs) ys = unfinished-append (run_after run x) xs ys

-- ---- flags with nothing before them end nothing

pub idle_pieces : (xs : List ℕ) → pieces_from [] (take (prefix_len is_flag xs) xs) ≡ []
idle_pieces [] = refl
idle_pieces (x ∷ xs) = go (idle_pieces xs) (is_flag x) refl
  where
    go : pieces_from [] (take (prefix_len is_flag xs) xs) ≡ [] → (b : Bool) → is_flag x ≡ b → pieces_from [] (take (prefix_len is_flag (x ∷ xs)) (x ∷ xs)) ≡ []
    go more true e = rw (e, one-add, e) more
    go more false e = rw e

pub idle_unfinished : (xs : List ℕ) → unfinished_from [] (take (prefix_len is_flag xs) xs) ≡ []
idle_unfinished [] = refl
idle_unfinished (x ∷ xs) = go (idle_unfinished xs) (is_flag x) refl
  where
    go : unfinished_from [] (take (prefix_len is_flag xs) xs) ≡ [] → (b : Bool) → is_flag x ≡ b → unfinished_from [] (take (prefix_len is_flag (x ∷ xs)) (x ∷ xs)) ≡ []
    go more true e =
        let gone : run_after [] x ≡ [] = rw e in
        rw (e, one-add) (ap (λ r. unfinished_from r (take (prefix_len is_flag xs) xs)) gone ∙ more)
    go more false e = rw e

-- ---- octets up to a flag end nothing

pub run_pieces : (run xs : List ℕ) → pieces_from run (take (position_or_len is_flag xs) xs) ≡ []
run_pieces run [] = refl
run_pieces run (x ∷ xs) = go (run_pieces (run ++ x ∷ []) xs) (is_flag x) refl
  where
    go : pieces_from (run ++ x ∷ []) (take (position_or_len is_flag xs) xs) ≡ [] → (b : Bool) → is_flag x ≡ b → pieces_from run (take (position_or_len is_flag (x ∷ xs)) (x ∷ xs)) ≡ []
    go more true e = rw e
    go more false e = rw (e, one-add, e) more

pub run_unfinished : (run xs : List ℕ) → unfinished_from run (take (position_or_len is_flag xs) xs) ≡ run ++ take (position_or_len is_flag xs) xs
run_unfinished run [] = sym (append-nil run)
run_unfinished run (x ∷ xs) = go (run_unfinished (run ++ x ∷ []) xs) (is_flag x) refl
  where
    go : unfinished_from (run ++ x ∷ []) (take (position_or_len is_flag xs) xs) ≡ (run ++ x ∷ []) ++ take (position_or_len is_flag xs) xs → (b : Bool) → is_flag x ≡ b → unfinished_from run (take (position_or_len is_flag (x ∷ xs)) (x ∷ xs)) ≡ run ++ take (position_or_len is_flag (x ∷ xs)) (x ∷ xs)
    go more true e = rw e (sym (append-nil run))
    go more false e =
        let rest = take (position_or_len is_flag xs) xs in
        let on : run_after run x ≡ run ++ x ∷ [] = rw e in
        rw (e, one-add) (ap (λ r. unfinished_from r rest) on ∙ more ∙ append_assoc run (x ∷ []) rest)

-- ---- a flag ends what stands before it

pub ended_some : (run : List ℕ) → (run ≡ [] → ⊥) → ended run ≡ run ∷ []
ended_some [] some = absurd (some refl)
ended_some (x ∷ xs) some = refl

pub flag_pieces : (run : List ℕ) (x : ℕ) → is_flag x ≡ true → (run ≡ [] → ⊥) → pieces_from run (x ∷ []) ≡ run ∷ []
flag_pieces run x flag some = rw flag (append-nil (ended run) ∙ ended_some run some)

pub flag_unfinished : (run : List ℕ) (x : ℕ) → is_flag x ≡ true → unfinished_from run (x ∷ []) ≡ []
flag_unfinished run x flag = rw flag

-- ---- pieces have no flag

flagless-push : (run : List ℕ) (x : ℕ) → HasNoFlag run → (x ≡ 0x7e → ⊥) → HasNoFlag (run ++ x ∷ [])
flagless-push [] x none other = (other, tt)
flagless-push (y ∷ run) x none other = (none.0, flagless-push run x none.1 other)

pub pieces_flagless : (run stream : List ℕ) → HasNoFlag run → AllByRecursion HasNoFlag (pieces_from run stream)
pieces_flagless run [] none = tt
pieces_flagless run (x ∷ stream) none = go (is_flag x) refl (pieces_flagless [] stream tt) (λ next. pieces_flagless (run ++ x ∷ []) stream next)
  where
    go : (b : Bool) → is_flag x ≡ b → AllByRecursion HasNoFlag (pieces_from [] stream) → (HasNoFlag (run ++ x ∷ []) → AllByRecursion HasNoFlag (pieces_from (run ++ x ∷ []) stream)) → AllByRecursion HasNoFlag (pieces_from run (x ∷ stream))
    go true e fresh more = rw e (some run none)
      where
        some : (r : List ℕ) → HasNoFlag r → AllByRecursion HasNoFlag (ended r ++ pieces_from [] stream)
        some [] n = fresh
        some (y ∷ r) n = (n, fresh)
    go false e fresh more = rw e (more (flagless-push run x none (eqb-false x 0x7e e)))
