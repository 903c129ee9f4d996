-- A cache is appended to those of a machine, and a message to those of a port.
use Rattle.std.proofs.Common.{◌≡◌, ◌≢◌, ◌⊎◌, inl, inr, ℕ, zero, suc, ◌+◌, ◌-◌, ◌<◌, ◌≤◌, Bool, true, false, cond, List, [], ◌∷◌, ◌++◌, length, set, map, Option, Some, None, refl, sym, ap, subst, ◌∙◌, arith}
use Rattle.std.specs.Prelude.{◌||◌, ◌==◌, IsSome, slice_get}
use Rattle.std.specs.List.{list_any}
use Rattle.std.specs.Option.{option_map_or}
use Rattle.std.specs.VecDeque.{deque_capacity}
use Rattle.std.proofs.lemmas.Bool.{cases_eq}
use Rattle.std.proofs.lemmas.Bool.Decides.{nat_tests}
use Rattle.std.proofs.lemmas.List.{length-append, length-set, map-append, map-set}
use Rattle.std.proofs.lemmas.List.Folds.{list_any-append}
use Rattle.vm_model.proofs.Parts.ListParts.{numbered_past, numbered_push, numbered_pushed}
use Rattle.vm_model.proofs.Parts.Lists.{is_there}
use Rattle.interface_callers.proofs.Words.{Cache, Machine, cache_of}
use Rattle.interface_callers.proofs.Alike.{AllTemporary}
use Rattle.interface_callers.proofs.Lists.{map_same, or_false}
use Rattle.transit_ipc.specs.Answering.{put_last}
use Rattle.transit_ipc.specs.PortMachine.{PortMachine, put_port, take_number}
use Rattle.transit_ipc.specs.Seen.{but_for, memory_seen, message_seen, port_seen, ports_seen}
use Rattle.transit_ipc.specs.Transit.{is_transit, waits_in}
use Rattle.transit_ipc.specs.Tying.{AreTied, IsMessage, Waits}
use Rattle.transit_ipc.specs.declared.port.Message.{Message}
use Rattle.transit_ipc.specs.declared.port.Port.{Port}
use Rattle.transit_ipc.proofs.Seeing.Seen.{push_seen}
use Rattle.transit_ipc.proofs.Seeing.Messages.{ports_same}
use Rattle.transit_ipc.proofs.Seeing.OnePort.{hidden_as, hidden_by, port_or, replaced, same_hidden, waits_or}

abbrev pub appended : Machine → Option Cache → Machine
appended m o = record m { caches = m.caches ++ o ∷ [] }

-- the number of the next cache
abbrev pub next_of : Machine → ℕ
next_of m = length m.caches + 1

-- What there is then

pub other_number : (m : Machine) (k : ℕ) (c : Cache) → cache_of m k ≡ Some c → k ≢ next_of m
other_number m k c there e = let wrong : Some c ≡ None = sym there ∙ numbered_past m.caches k e in absurd (cc wrong)

pub still_there : (m : Machine) (o : Option Cache) (k : ℕ) (c : Cache) → cache_of m k ≡ Some c → cache_of (appended m o) k ≡ Some c
still_there m o k c there = numbered_push m.caches o k (other_number m k c there) ∙ there

pub at_last : (m : Machine) (o : Option Cache) (k : ℕ) → k ≡ next_of m → cache_of (appended m o) k ≡ o
at_last m o k e = numbered_pushed m.caches o k e

was_or_last : (m : Machine) (o : Option Cache) (k : ℕ) (c : Cache) → cache_of (appended m o) k ≡ Some c → (cache_of m k ≡ Some c) ⊎ (o ≡ Some c)
was_or_last m o k c e = elim (cases_eq k (next_of m)) [
  | inl new ↦ inr (sym (numbered_pushed m.caches o k new) ∙ e)
  | inr old ↦ inl (sym (numbered_push m.caches o k old) ∙ e)
]

pub temporary_appended : (m : Machine) (o : Option Cache) → AllTemporary m → ((c : Cache) → o ≡ Some c → c.segment ≡ None) → AllTemporary (appended m o)
temporary_appended m o all last k c e = elim (was_or_last m o k c e) [ inl was ↦ all k c was | inr new ↦ last c new ]

last_set : {A : Type 0} (xs : List A) (x y : A) → set (xs ++ x ∷ []) (length xs) y ≡ xs ++ y ∷ []
last_set [] x y = refl
last_set (z ∷ xs) x y = ap (λ zs. z ∷ zs) (last_set xs x y)

-- the last one is replaced
pub last_replaced : (m : Machine) (o x : Option Cache) (k : ℕ) → k ≡ next_of m → record m { caches = set (m.caches ++ o ∷ []) (k - 1) x } ≡ appended m x
last_replaced m o x k e =
    ap (λ (i : ℕ). record m { caches = set (m.caches ++ o ∷ []) i x }) (let s : k - 1 ≡ length m.caches = omega (arith, e) in s)
    ∙ (λ i. record m { caches = last_set m.caches o x i })

-- The number is taken

hidden_none : (b : Bool) → cond b None (let none : Option Cache = None in none) ≡ None
hidden_none true = refl
hidden_none false = refl

module _ (m : Machine) (ports : List Port) (t : AreTied m ports) where
  -- the same messages are seen beside one cache more
  alike : (o : Option Cache) → map (port_seen (appended m o)) ports ≡ map (port_seen m) ports
  alike o = ports_same m (appended m o) ports (λ i j x w. numbered_push m.caches o x.cache.0 (let h = t.messages i j x w in other_number m x.cache.0 h.cache h.there))

  pub seen_taken : ports_seen (appended m None) ports ≡ take_number (ports_seen m ports)
  seen_taken = λ i. record {
    memory = record m { caches = (push_seen (is_transit ports) 1 m.caches None ∙ ap (λ (o : Option Cache). but_for (is_transit ports) 1 m.caches ++ o ∷ []) (hidden_none (is_transit ports (1 + length m.caches)))) i };
    ports = alike None i;
  }

  still_seen : (k : ℕ) → IsSome (cache_of (memory_seen m ports) k) → IsSome (cache_of (appended (memory_seen m ports) None) k)
  still_seen k h =
      let c = is_there (cache_of (memory_seen m ports) k) h in
      subst (λ (o : Option Cache). IsSome o) (sym (still_there (memory_seen m ports) None k c.0 c.1)) refl

  message_still : (o : Option Cache) (x : Message) → IsMessage m x → IsMessage (appended m o) x
  message_still o x h = record { cache = h.cache; there = still_there m o x.cache.0 h.cache h.there; some = h.some; many = h.many }

  pub tied_taken : AreTied (appended m None) ports
  tied_taken = record {
    messages = λ i j x w. message_still None x (t.messages i j x w);
    apart = t.apart;
    mapped = λ k is. subst (λ (y : PortMachine). IsSome (cache_of y.memory k)) (sym seen_taken) (still_seen k (t.mapped k is));
    temporary = temporary_appended m None t.temporary (λ c e. absurd (cc e));
    deep = t.deep;
    roomy = t.roomy;
    few = t.few;
  }

  -- A message waits in the cache

  module _ (place : ℕ) (p q : Port) (there : slice_get ports place ≡ Some p) (depth : q.depth ≡ p.depth) (room : deque_capacity q.messages ≡ deque_capacity p.messages) (x : Message) (pushed : q.messages.items ≡ p.messages.items ++ x ∷ [])
      (new : x.cache.0 ≡ next_of m) where
    abbrev now : List Port
    now = replaced ports place p q there

    waits_now : (n : ℕ) → waits_in n q ≡ (waits_in n p || ((x.cache.0 == n) || false))
    waits_now n = ap (λ (xs : List Message). list_any (λ (y : Message). y.cache.0 == n) xs) pushed ∙ list_any-append (λ (y : Message). y.cache.0 == n) p.messages.items (x ∷ [])

    hides : is_transit now (1 + length m.caches) ≡ true
    hides =
        hidden_by ports place p q there (1 + length m.caches)
        (waits_now (1 + length m.caches) ∙ ap (λ (b : Bool). waits_in (1 + length m.caches) p || (b || false)) (let e : (x.cache.0 == 1 + length m.caches) ≡ true = grind (arith, nat_tests) in e) ∙ last (waits_in (1 + length m.caches) p))
      where
        last : (b : Bool) → (b || (true || false)) ≡ true
        last true = refl
        last false = refl

    others : (n : ℕ) → 1 ≤ n → n < 1 + length m.caches → is_transit now n ≡ is_transit ports n
    others n some less =
        hidden_as ports place p q there n
        (waits_now n ∙ ap (λ (b : Bool). waits_in n p || (b || false)) (let e : (x.cache.0 == n) ≡ false = grind (arith, nat_tests) in e) ∙ or_false (waits_in n p) (false || false) refl)

    module _ (c : Cache) where
      memory_sent : memory_seen (appended m (Some c)) now ≡ appended (memory_seen m ports) None
      memory_sent = λ i. record m {
        caches = (push_seen (is_transit now) 1 m.caches (Some c)
            ∙ (λ j. same_hidden (is_transit ports) (is_transit now) 1 m.caches others j ++ cond (hides j) None (Some c) ∷ [])) i;
      }

      port_sent : port_seen (appended m (Some c)) q ≡ put_last c.pages (port_seen m p)
      port_sent = λ i. record {
        depth = depth i;
        messages = (ap (map (message_seen (appended m (Some c)))) pushed ∙ map-append (message_seen (appended m (Some c))) p.messages.items (x ∷ [])
            ∙ (λ j. map_same (message_seen (appended m (Some c))) (message_seen m) p.messages.items old j ++ option_map_or (λ (y : Cache). y.pages) (at_last m (Some c) x.cache.0 new j) [] ∷ [])) i;
      }
        where
          old : (i : ℕ) (y : Message) → slice_get p.messages.items i ≡ Some y → message_seen (appended m (Some c)) y ≡ message_seen m y
          old i y has =
              let h = t.messages place i y (record { port = p; there = there; has = has }) in
              ap (λ (o : Option Cache). option_map_or (λ (z : Cache). z.pages) o []) (numbered_push m.caches (Some c) y.cache.0 (other_number m y.cache.0 h.cache h.there))

      pub seen_sent : (number : ℕ) → number ≡ suc place → ports_seen (appended m (Some c)) now ≡ put_port (take_number (ports_seen m ports)) number (put_last c.pages (port_seen m p))
      seen_sent number at =
          (λ i. record { memory = memory_sent i; ports = (map-set (port_seen (appended m (Some c))) ports place q ∙ (λ j. set (alike (Some c) j) place (port_sent j))) i })
          ∙ ap (λ (k : ℕ). put_port (take_number (ports_seen m ports)) k (put_last c.pages (port_seen m p))) (sym at)

      module _ (temporary : c.segment ≡ None) (some : 1 ≤ x.pages) (many : length c.pages ≡ x.pages) where
        -- the message is the last one of the port, or one that waited before
        last_or : (j : ℕ) (y : Message) → slice_get q.messages.items j ≡ Some y → (y ≡ x) × (j ≡ length p.messages.items) ⊎ (slice_get p.messages.items j ≡ Some y)
        last_or j y e = by p.messages.items j (sym (ap (λ (xs : List Message). slice_get xs j) pushed) ∙ e)
          where
            by : (xs : List Message) (j : ℕ) → slice_get (xs ++ x ∷ []) j ≡ Some y → (y ≡ x) × (j ≡ length xs) ⊎ (slice_get xs j ≡ Some y)
            by [] zero e = inl ((let s : x ≡ y = cc e in sym s), refl)
            by [] (suc j) e = absurd (cc e)
            by (z ∷ xs) zero e = inr e
            by (z ∷ xs) (suc j) e = elim (by xs j e) [ inl f ↦ inl (f.0, ap suc f.1) | inr f ↦ inr f ]

        abbrev IsLast : ℕ → ℕ → Message → Type 0
        IsLast i j y = (i ≡ place) × (y ≡ x) × (j ≡ length p.messages.items)

        sent_or : (i j : ℕ) (y : Message) → Waits now i j y → IsLast i j y ⊎ Waits ports i j y
        sent_or i j y w = elim (waits_or ports place p q there i j y w) [
          | inl e ↦ elim (last_or j y e.1) [
            | inl f ↦ inl (e.0, f.0, f.1)
            | inr f ↦ inr (record { port = p; there = ap (slice_get ports) e.0 ∙ there; has = f })
          ]
          | inr e ↦ inr e.1
        ]

        is_message : (i j : ℕ) (y : Message) → Waits now i j y → IsMessage (appended m (Some c)) y
        is_message i j y w = elim (sent_or i j y w) [
          | inl e ↦ subst (IsMessage (appended m (Some c))) (sym e.1) (record { cache = c; there = at_last m (Some c) x.cache.0 new; some = some; many = many })
          | inr v ↦ message_still (Some c) y (t.messages i j y v)
        ]

        not_new : (i j : ℕ) (y : Message) → Waits ports i j y → y.cache.0 ≢ x.cache.0
        not_new i j y w e = let h = t.messages i j y w in other_number m y.cache.0 h.cache h.there (e ∙ new)

        apart_sent : (i j k l : ℕ) (y z : Message) → Waits now i j y → Waits now k l z → y.cache.0 ≡ z.cache.0 → (i ≡ k) × (j ≡ l)
        apart_sent i j k l y z v w e = elim (sent_or i j y v) [
          | inl f ↦ elim (sent_or k l z w) [
            | inl g ↦ (f.0 ∙ sym g.0, f.2 ∙ sym g.2)
            | inr g ↦ absurd (not_new k l z g (sym e ∙ ap (λ (a : Message). a.cache.0) f.1))
          ]
          | inr f ↦ elim (sent_or k l z w) [
            | inl g ↦ absurd (not_new i j y f (e ∙ ap (λ (a : Message). a.cache.0) g.1))
            | inr g ↦ t.apart i j k l y z f g e
          ]
        ]

        pub tied_sent : length p.messages.items < p.depth → AreTied (appended m (Some c)) now
        tied_sent free = record {
          messages = is_message;
          apart = apart_sent;
          mapped = λ k is. subst (λ (y : Machine). IsSome (cache_of y k)) (sym memory_sent) (still_seen k (t.mapped k is));
          temporary = temporary_appended m (Some c) t.temporary (λ d e. let same : c ≡ d = cc e in ap (λ (y : Cache). y.segment) (sym same) ∙ temporary);
          deep = λ i r e. elim (port_or ports place p q there i r e) [
            | inl f ↦ subst (λ (a : Port). length a.messages.items ≤ a.depth) (sym f) (omega (arith, ap (λ (xs : List Message). length xs) pushed, length-append p.messages.items (x ∷ []), depth, free))
            | inr f ↦ t.deep i r f
          ];
          roomy = λ i r e. elim (port_or ports place p q there i r e) [
            | inl f ↦ subst (λ (a : Port). a.depth ≤ deque_capacity a.messages) (sym f) (omega (arith, depth, room, t.roomy place p there))
            | inr f ↦ t.roomy i r f
          ];
          few = omega (arith, t.few, length-set ports place q);
        }
