-- How far the ends of a world have counted after a step.
use Rattle.std.proofs.Common.{◌≡◌, ℕ, ◌+◌, ◌-◌, ◌≤◌, List, [], ◌∷◌, sym, subst, ap, arith}
use Rattle.std.specs.Prelude.{Bool, Option, Some, None, Result, Ok, Err, OnOk, slice_get}
use Rattle.ppp_bap.specs.declared.bap_ask.BapAsk.{BapAsk}
use Rattle.ppp_bap.specs.declared.call_ask.CallAsk.{CallAsk}
use Rattle.ppp_party.specs.Counted.{AllCounted, AreCounted}
use Rattle.ppp_party.specs.Frame.{Frame}
use Rattle.ppp_party.specs.Ledger.{Ledgers}
use Rattle.ppp_party.specs.Party.{Delivered, Ends, Party, asks, delivers, happens, loses, taking_front, tells, tries, turned}
use Rattle.ppp_trunk.specs.Steps.{Happening}
use Rattle.ppp_world.specs.Counts.{Counts}
use Rattle.ppp_world.specs.World.{most_a_step}

-- ---- results

pub ok-map : {A E : Type 0} (r : Result A E) {P Q : Type 0} → OnOk r P → (P → Q) → OnOk r Q
ok-map (Ok done) p to = to p
ok-map (Err why) p to = tt

pub ok-both : {A E : Type 0} (r : Result A E) {P Q R : Type 0} → OnOk r P → OnOk r Q → (P → Q → R) → OnOk r R
ok-both (Ok done) p q to = to p q
ok-both (Err why) p q to = tt

-- what is so in any case
pub ok-always : {A E : Type 0} (r : Result A E) {P : Type 0} → P → OnOk r P
ok-always (Ok done) p = p
ok-always (Err why) p = tt

-- ---- more

all-above : (most more : ℕ) (gss : List Ledgers) → most ≤ more → AllCounted most gss → AllCounted more gss
all-above most more [] less all = tt
all-above most more (gs ∷ gss) less all = ((λ p. let one = all.0 p in omega (arith, one, less)), all-above most more gss less all.1)

pub counted-above : (most more : ℕ) (p : Party) → most ≤ more → AreCounted most p → AreCounted more p
counted-above most more p less all = record {
  ledgers = all-above most more p.ledgers less all.ledgers;
  calls = let drawn = all.calls in omega (arith, drawn, less);
}

still-counted : (n : ℕ) (p : Party) → AreCounted n p → AreCounted (n + most_a_step) p
still-counted n p counted = counted-above n (n + most_a_step) p (omega arith) counted

-- what is counted of an event is less than of a step
own-counted : {A E : Type 0} (r : Result A E) (more : ℕ) (old new : Party) → more ≤ most_a_step → ((n : ℕ) → AreCounted n old → OnOk r (AreCounted (n + more) new)) →
    OnOk r ((n : ℕ) → AreCounted n old → AreCounted (n + most_a_step) new)
own-counted (Ok done) more old new less counted = λ n all. counted-above (n + more) (n + most_a_step) new (omega (arith, less)) (counted n all)
own-counted (Err why) more old new less counted = tt

-- ---- what an end counts stays where the other does something

-- another counts no further
abbrev pub Stays : Party → Party → Type 0
Stays old new = (n : ℕ) → AreCounted n old → AreCounted n new

pub happens-stays : (what : Happening) (l word : ℕ) (e : Ends) → Stays e.other (happens what l word e).other
unfolding happens
happens-stays what l word e n all = record { ledgers = all.ledgers; calls = all.calls }

pub asks-stays : (l : ℕ) (what : BapAsk) (word : ℕ) (e : Ends) → Stays e.other (asks l what word e).other
unfolding asks
asks-stays l what word e n all = record { ledgers = all.ledgers; calls = all.calls }

pub tells-stays : (l status word : ℕ) (e : Ends) → Stays e.other (tells l status word e).other
unfolding tells
tells-stays l status word e n all = record { ledgers = all.ledgers; calls = all.calls }

pub tries-stays : (l word : ℕ) (e : Ends) → Stays e.other (tries l word e).other
unfolding tries
tries-stays l word e n all = record { ledgers = all.ledgers; calls = all.calls }

front-stays : (says : CallAsk → Bool) (l word : ℕ) (o : Option (List Frame)) (e : Ends) → Stays e.other (taking_front says l word o e).other
front-stays says l word None e n all = all
front-stays says l word (Some []) e n all = all
front-stays says l word (Some (f ∷ rest)) e n all = record { ledgers = all.ledgers; calls = all.calls }

pub delivers-stays : (says : CallAsk → Bool) (l word : ℕ) (e : Ends) → Stays e.other (delivers says l word e).other
unfolding delivers
delivers-stays says l word e n all = front-stays says l word (slice_get e.own.incoming (l - 1)) e n all

loses-own : (l place : ℕ) (e : Ends) → Stays e.own (loses l place e).own
unfolding loses
loses-own l place e n all = record { ledgers = all.ledgers; calls = all.calls }

-- ---- a step's counts, of the end at which it is and of the other

-- where the other's are those after a step that leaves them
pub stays-by : {A E : Type 0} (r : Result A E) (old own other : Party) (after : Ends) → OnOk r (record { own = own; other = other } ≡ after) → Stays old after.other → OnOk r (Stays old other)
stays-by r old own other after done stays =
    ok-map r done (λ (is : record { own = own; other = other } ≡ after) n few. subst (AreCounted n) (sym (ap (λ (x : Ends). x.other) is)) (stays n few))

pub stays-delivered : {A E : Type 0} (r : Result A E) (may : CallAsk → Bool → Type 0) (l word : ℕ) (old : Ends) (own other : Party) →
    OnOk r (Delivered may l word old (record { own = own; other = other })) → OnOk r (Stays old.other other)
stays-delivered r may l word old own other done =
    ok-map r done (λ (d : Delivered may l word old (record { own = own; other = other })) n few.
    subst (AreCounted n) (sym (ap (λ (x : Ends). x.other) d.is)) (delivers-stays (λ question. d.allowed) l word old n few))

pub counts-own : {A E : Type 0} (r : Result A E) (more : ℕ) (old : Ends) (own other : Party) → more ≤ most_a_step →
    OnOk r (Stays old.other other) → ((n : ℕ) → AreCounted n old.own → OnOk r (AreCounted (n + more) own)) →
    OnOk r (Counts old (record { own = own; other = other }))
counts-own r more old own other less stays counted =
    ok-both r stays (own-counted r more old.own own less counted) (λ (still : Stays old.other other) all. record {
      a = all;
      b = λ n few. still-counted n other (still n few);
    })

pub counts-other : {A E : Type 0} (r : Result A E) (more : ℕ) (old : Ends) (own other : Party) → more ≤ most_a_step →
    OnOk r (Stays old.own other) → ((n : ℕ) → AreCounted n old.other → OnOk r (AreCounted (n + more) own)) →
    OnOk r (Counts old (record { own = other; other = own }))
counts-other r more old own other less stays counted =
    ok-both r stays (own-counted r more old.other own less counted) (λ (still : Stays old.own other) all. record {
      a = λ n few. still-counted n other (still n few);
      b = all;
    })

pub counts-anew : {A E : Type 0} (r : Result A E) (more : ℕ) (old : Ends) (own other : Party) → more ≤ most_a_step →
    OnOk r (AreCounted 0 own) → ((n : ℕ) → AreCounted n old.other → OnOk r (AreCounted (n + more) other)) → OnOk r (Counts old (record { own = own; other = other }))
counts-anew r more old own other less anew counted =
    ok-both r anew (own-counted r more old.other other less counted) (λ (none : AreCounted 0 own) all. record {
      a = λ n few. counted-above 0 (n + most_a_step) own (omega arith) none;
      b = all;
    })

pub counts-anew-other : {A E : Type 0} (r : Result A E) (more : ℕ) (old : Ends) (own other : Party) → more ≤ most_a_step →
    OnOk r (AreCounted 0 own) → ((n : ℕ) → AreCounted n old.own → OnOk r (AreCounted (n + more) other)) → OnOk r (Counts old (record { own = other; other = own }))
counts-anew-other r more old own other less anew counted =
    ok-both r anew (own-counted r more old.own other less counted) (λ (none : AreCounted 0 own) all. record {
      a = all;
      b = λ n few. counted-above 0 (n + most_a_step) own (omega arith) none;
    })

pub counts-lost : (l place : ℕ) (old : Ends) (own : Party) → record { own = own; other = old.other } ≡ loses l place old → Counts old (record { own = own; other = old.other })
counts-lost l place old own is = record {
  a = λ n few. still-counted n own (subst (AreCounted n) (sym (ap (λ (x : Ends). x.own) is)) (loses-own l place old n few));
  b = λ n few. still-counted n old.other few;
}

pub counts-lost-other : (l place : ℕ) (old : Ends) (own : Party) → record { own = own; other = old.own } ≡ loses l place (turned old) → Counts old (record { own = old.own; other = own })
counts-lost-other l place old own is = record {
  a = λ n few. still-counted n old.own few;
  b = λ n few. still-counted n own (subst (AreCounted n) (sym (ap (λ (x : Ends). x.own) is)) (loses-own l place (turned old) n few));
}

pub counts-still : (e : Ends) → Counts e e
counts-still e = record { a = λ n few. still-counted n e.own few; b = λ n few. still-counted n e.other few }

-- of a result's counts, those of each end
pub counts-of-a : {A E : Type 0} (r : Result A E) (old new : Ends) → OnOk r (Counts old new) → (n : ℕ) → AreCounted n old.own → OnOk r (AreCounted (n + most_a_step) new.own)
counts-of-a r old new counts n few = ok-map r counts (λ (both : Counts old new). both.a n few)

pub counts-of-b : {A E : Type 0} (r : Result A E) (old new : Ends) → OnOk r (Counts old new) → (n : ℕ) → AreCounted n old.other → OnOk r (AreCounted (n + most_a_step) new.other)
counts-of-b r old new counts n few = ok-map r counts (λ (both : Counts old new). both.b n few)
