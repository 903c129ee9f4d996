-- The pages of the manager's machine are those that are seen and those that wait.
use Rattle.std.proofs.Common.{◌≡◌, ◌≢◌, ◌==◌, ℕ, zero, suc, ◌+◌, ◌-◌, ◌≤◌, Bool, true, false, List, [], ◌∷◌, length, map, Option, Some, None, refl, sym, ap, ◌∙◌, arith}
use Rattle.std.specs.Prelude.{◌||◌, nat_le, nat_lt, option_and_then, slice_get, sum_by}
use Rattle.std.specs.List.{list_any}
use Rattle.std.specs.Option.{option_map_or}
use Rattle.std.proofs.lemmas.Bool.Decides.{nat_tests}
use Rattle.std.proofs.lemmas.List.Sums.{sum_by-cons}
use Rattle.vm_model.proofs.Parts.ListParts.{at_some}
use Rattle.vm_model.proofs.Parts.Lists.{numbered_place}
use Rattle.std.proofs.lemmas.Bool.{eqb-true}
use Rattle.interface_callers.proofs.Words.{Cache, LIVE_PAGES, Machine, MOST_MADE, cache_of, live_pages, numbered, pages_in}
use Rattle.transit_ipc.specs.Answering.{lacks_room}
use Rattle.transit_ipc.specs.PortMachine.{pages_at, waiting_pages}
use Rattle.transit_ipc.specs.Seen.{but_for, memory_seen, message_seen, port_seen, ports_seen}
use Rattle.transit_ipc.specs.Transit.{is_transit}
use Rattle.transit_ipc.specs.Tying.{AreTied, Waits}
use Rattle.transit_ipc.specs.declared.port.Message.{Message}
use Rattle.transit_ipc.specs.declared.port.Port.{Port}
use Rattle.transit_ipc.proofs.Seeing.Seen.{length_seen, shown}
use Rattle.transit_ipc.proofs.Seeing.Messages.{any_found, has_number, hidden_waits}

abbrev Caches : Type 0
Caches = List (Option Cache)

abbrev pages_of : Caches → ℕ
pages_of xs = sum_by pages_in xs

abbrev at : Caches → ℕ → Option Cache
at xs i = option_and_then (λ (c : Option Cache). c) (slice_get xs i)

-- One more is hidden

same_behind : (g h : ℕ → Bool) (k : ℕ) (xs : Caches) → ((j : ℕ) → k ≤ j → g j ≡ h j) → but_for g k xs ≡ but_for h k xs
same_behind g h k [] same = refl
same_behind g h k (x ∷ xs) same = λ i. shown (same k (omega arith) i) x ∷ same_behind g h (k + 1) xs (λ j past. same j (omega (arith, past))) i

cons_pages : (x : Option Cache) (xs : Caches) → pages_of (x ∷ xs) ≡ pages_in x + pages_of xs
cons_pages x xs = sum_by-cons pages_in x xs

one_hidden : (g h : ℕ → Bool) (k : ℕ) (xs : Caches) (i : ℕ) → g (k + i) ≡ true → h (k + i) ≡ false → ((j : ℕ) → j ≢ k + i → g j ≡ h j) → pages_of (but_for g k xs) + pages_in (at xs i) ≡ pages_of (but_for h k xs)
one_hidden g h k [] i is isnt same = refl
one_hidden g h k (x ∷ xs) zero is isnt same =
    let here : k + 0 ≡ k = omega arith in
    let gone : shown (g k) x ≡ None = ap (λ (b : Bool). shown b x) (ap g (sym here) ∙ is) in
    let there : shown (h k) x ≡ x = ap (λ (b : Bool). shown b x) (ap h (sym here) ∙ isnt) in
    omega (
      arith,
      cons_pages (shown (g k) x) (but_for g (k + 1) xs),
      cons_pages (shown (h k) x) (but_for h (k + 1) xs),
      ap pages_in gone,
      ap pages_in there,
      ap pages_of (same_behind g h (k + 1) xs (λ j past. same j (λ e. absurd (omega (arith, e, past))))),
    )
one_hidden g h k (x ∷ xs) (suc i) is isnt same =
    let next : k + 1 + i ≡ k + suc i = omega arith in
    let first : shown (g k) x ≡ shown (h k) x = ap (λ (b : Bool). shown b x) (same k (λ e. absurd (omega (arith, e)))) in
    omega (
      arith,
      cons_pages (shown (g k) x) (but_for g (k + 1) xs),
      cons_pages (shown (h k) x) (but_for h (k + 1) xs),
      ap pages_in first,
      one_hidden g h (k + 1) xs i (ap g next ∙ is) (ap h next ∙ isnt) (λ j other. same j (λ e. other (e ∙ sym next))),
    )

number_hidden : (g h : ℕ → Bool) (xs : Caches) (n : ℕ) → 1 ≤ n → g n ≡ true → h n ≡ false → ((j : ℕ) → j ≢ n → g j ≡ h j) → pages_of (but_for g 1 xs) + pages_in (numbered xs n) ≡ pages_of (but_for h 1 xs)
number_hidden g h xs (suc i) some is isnt same =
    let next : 1 + i ≡ suc i = omega arith in
    omega (
      arith,
      ap pages_in (at_some xs (suc i) some),
      ap (λ (k : ℕ). pages_in (at xs k)) (let s : suc i - 1 ≡ i = omega arith in s),
      one_hidden g h 1 xs i (ap g next ∙ is) (ap h next ∙ isnt) (λ j other. same j (λ e. other (e ∙ sym next))),
    )
number_hidden g h xs zero some is isnt same = absurd (omega (arith, some))

none_hidden : (k : ℕ) (xs : Caches) → but_for (λ n. false) k xs ≡ xs
none_hidden k [] = refl
none_hidden k (x ∷ xs) = ap (λ (ys : Caches). x ∷ ys) (none_hidden (k + 1) xs)

-- Those of a port are hidden

abbrev with_messages : List Message → (ℕ → Bool) → ℕ → Bool
with_messages ms h n = list_any (has_number n) ms || h n

abbrev pages_waiting : Caches → List Message → ℕ
pages_waiting xs ms = sum_by (λ (x : Message). pages_in (numbered xs x.cache.0)) ms

-- These messages wait in caches of their own, none of which is hidden yet.
pub record AreOwn (xs : Caches) (h : ℕ → Bool) (ms : List Message) : Type 0 where
  pub some : (j : ℕ) (x : Message) → slice_get ms j ≡ Some x → 1 ≤ x.cache.0
  pub seen : (j : ℕ) (x : Message) → slice_get ms j ≡ Some x → h x.cache.0 ≡ false
  pub apart : (j l : ℕ) (x y : Message) → slice_get ms j ≡ Some x → slice_get ms l ≡ Some y → x.cache.0 ≡ y.cache.0 → j ≡ l

own_rest : (xs : Caches) (h : ℕ → Bool) (x : Message) (ms : List Message) → AreOwn xs h (x ∷ ms) → AreOwn xs h ms
own_rest xs h x ms own = record {
  some = λ j y e. own.some (suc j) y e;
  seen = λ j y e. own.seen (suc j) y e;
  apart = λ j l y z e f same. (let s : suc j ≡ suc l = own.apart (suc j) (suc l) y z e f same in omega (arith, s));
}

first_apart : (xs : Caches) (h : ℕ → Bool) (x : Message) (ms : List Message) → AreOwn xs h (x ∷ ms) → (b : Bool) → list_any (has_number x.cache.0) ms ≡ b → b ≡ false
first_apart xs h x ms own false e = refl
first_apart xs h x ms own true e =
    let f = any_found (has_number x.cache.0) ms e in
    let wrong : suc f.place ≡ 0 = own.apart (suc f.place) 0 f.it x f.there refl (eqb-true f.it.cache.0 x.cache.0 f.passes) in
    absurd (omega (arith, wrong))

or_same : (a b c d : Bool) → a ≡ false → (a || b) || c ≡ (b || c)
or_same true b c d e = absurd (cc e)
or_same false b c d e = refl

pub other_number : (n k : ℕ) → k ≢ n → (n == k) ≡ false
other_number n k apart = grind (arith, nat_tests)

messages_hidden : (xs : Caches) (h : ℕ → Bool) (ms : List Message) → AreOwn xs h ms → pages_of (but_for (with_messages ms h) 1 xs) + pages_waiting xs ms ≡ pages_of (but_for h 1 xs)
messages_hidden xs h [] own = omega arith
messages_hidden xs h (x ∷ ms) own =
    let rest = messages_hidden xs h ms (own_rest xs h x ms own) in
    let mine : with_messages (x ∷ ms) h x.cache.0 ≡ true = ap (λ (b : Bool). (b || list_any (has_number x.cache.0) ms) || h x.cache.0) (let s : (x.cache.0 == x.cache.0) ≡ true = grind (arith, nat_tests) in s) in
    let before : with_messages ms h x.cache.0 ≡ false = (λ i. first_apart xs h x ms own _ refl i || h x.cache.0) ∙ own.seen 0 x refl in
    omega (
      arith,
      rest,
      sum_by-cons (λ (x : Message). pages_in (numbered xs x.cache.0)) x ms,
      number_hidden (with_messages (x ∷ ms) h) (with_messages ms h) xs x.cache.0 (own.some 0 x refl) mine before
          (λ j other. or_same (x.cache.0 == j) (list_any (has_number j) ms) (h j) false (other_number x.cache.0 j other)),
    )

-- Those of all ports are hidden

abbrev pages_in_ports : Caches → List Port → ℕ
pages_in_ports xs [] = 0
pages_in_ports xs (p ∷ ps) = pages_waiting xs p.messages.items + pages_in_ports xs ps

-- All messages wait in caches of their own.
pub record AllOwn (ports : List Port) : Type 0 where
  pub some : (i j : ℕ) (x : Message) → Waits ports i j x → 1 ≤ x.cache.0
  pub apart : (i j k l : ℕ) (x y : Message) → Waits ports i j x → Waits ports k l y → x.cache.0 ≡ y.cache.0 → (i ≡ k) × (j ≡ l)

behind : (p : Port) (ports : List Port) (i j : ℕ) (x : Message) → Waits ports i j x → Waits (p ∷ ports) (suc i) j x
behind p ports i j x w = record { port = w.port; there = w.there; has = w.has }

here : (p : Port) (ports : List Port) (j : ℕ) (x : Message) → slice_get p.messages.items j ≡ Some x → Waits (p ∷ ports) 0 j x
here p ports j x e = record { port = p; there = refl; has = e }

all_rest : (p : Port) (ports : List Port) → AllOwn (p ∷ ports) → AllOwn ports
all_rest p ports own = record {
  some = λ i j x w. own.some (suc i) j x (behind p ports i j x w);
  apart = λ i j k l x y v w same. (let r = own.apart (suc i) j (suc k) l x y (behind p ports i j x v) (behind p ports k l y w) same in (omega (arith, r.0), r.1));
}

not_behind : (p : Port) (ports : List Port) → AllOwn (p ∷ ports) → (j : ℕ) (x : Message) → slice_get p.messages.items j ≡ Some x → (b : Bool) → is_transit ports x.cache.0 ≡ b → b ≡ false
not_behind p ports own j x e false is = refl
not_behind p ports own j x e true is =
    let w = hidden_waits ports x.cache.0 is in
    let wrong = (own.apart 0 j (suc w.place) w.turn x w.message (here p ports j x e) (behind p ports w.place w.turn w.message w.waits) (sym w.number)).0 in
    absurd (omega (arith, wrong))

own_here : (xs : Caches) (p : Port) (ports : List Port) → AllOwn (p ∷ ports) → AreOwn xs (is_transit ports) p.messages.items
own_here xs p ports own = record {
  some = λ j x e. own.some 0 j x (here p ports j x e);
  seen = λ j x e. not_behind p ports own j x e _ refl;
  apart = λ j l x y e f same. (own.apart 0 j 0 l x y (here p ports j x e) (here p ports l y f) same).1;
}

ports_hidden : (xs : Caches) (ports : List Port) → AllOwn ports → pages_of (but_for (is_transit ports) 1 xs) + pages_in_ports xs ports ≡ pages_of xs
ports_hidden xs [] own = omega (arith, ap pages_of (none_hidden 1 xs))
ports_hidden xs (p ∷ ports) own = omega (arith, messages_hidden xs (is_transit ports) p.messages.items (own_here xs p ports own), ports_hidden xs ports (all_rest p ports own))

-- As they are seen

message_length : (o : Option Cache) → length (option_map_or (λ (c : Cache). c.pages) o []) ≡ pages_in o
message_length None = refl
message_length (Some c) = refl

port_pages : (m : Machine) (ms : List Message) → sum_by length (map (message_seen m) ms) ≡ pages_waiting m.caches ms
port_pages m [] = refl
port_pages m (x ∷ ms) = omega (arith, sum_by-cons length (message_seen m x) (map (message_seen m) ms), sum_by-cons (λ (x : Message). pages_in (numbered m.caches x.cache.0)) x ms, message_length (cache_of m x.cache.0), port_pages m ms)

all_pages : (m : Machine) (ports : List Port) → sum_by pages_at (map (port_seen m) ports) ≡ pages_in_ports m.caches ports
all_pages m [] = refl
all_pages m (p ∷ ports) = omega (arith, sum_by-cons pages_at (port_seen m p) (map (port_seen m) ports), port_pages m p.messages.items, all_pages m ports)

pub all_own : (m : Machine) (ports : List Port) → AreTied m ports → AllOwn ports
all_own m ports tied = record {
  some = λ i j x w. (let is = tied.messages i j x w in (numbered_place m.caches x.cache.0 is.cache is.there).0);
  apart = tied.apart;
}

-- all live pages are seen, or wait
pub live_seen : (m : Machine) (ports : List Port) → AreTied m ports → live_pages (memory_seen m ports) + waiting_pages (ports_seen m ports) ≡ live_pages m
live_seen m ports tied = omega (arith, ports_hidden m.caches ports (all_own m ports tied), all_pages m ports)

-- There is no room for a cache exactly where the manager has none.
pub lacks_same : (m : Machine) (ports : List Port) → AreTied m ports → (pages : ℕ) → lacks_room (ports_seen m ports) pages ≡ (nat_le MOST_MADE (length m.caches) || nat_lt LIVE_PAGES (live_pages m + pages))
lacks_same m ports tied pages = λ i.
    nat_le MOST_MADE (length_seen (is_transit ports) 1 m.caches i) || nat_lt LIVE_PAGES (live_seen m ports tied i + pages)
