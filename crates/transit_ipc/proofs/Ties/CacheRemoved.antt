-- A message is received: its cache is gone, and another that is seen has its pages.
use Rattle.std.proofs.Common.{◌≡◌, ◌≢◌, inl, inr, ℕ, suc, ◌+◌, ◌-◌, ◌≤◌, false, List, length, map, set, drop, Some, None, refl, sym, ap, subst, ◌∙◌, arith, Option}
use Rattle.std.specs.Prelude.{IsSome, slice_get}
use Rattle.std.specs.VecDeque.{deque_capacity}
use Rattle.std.proofs.lemmas.Bool.{cases_eq}
use Rattle.std.proofs.lemmas.List.{drop-map, length-drop, length-set, map-set}
use Rattle.vm_model.proofs.Parts.ListParts.{numbered_set, numbered_set_other}
use Rattle.vm_model.proofs.Parts.Lists.{numbered_place}
use Rattle.interface_callers.proofs.Words.{Cache, Machine, cache_of, put_cache}
use Rattle.interface_callers.proofs.Blanks.{without}
use Rattle.interface_callers.proofs.Hiding.{put_seen}
use Rattle.transit_ipc.specs.Answering.{without_first}
use Rattle.transit_ipc.specs.PortMachine.{put_port}
use Rattle.transit_ipc.specs.Seen.{memory_seen, message_seen, port_seen, ports_seen}
use Rattle.transit_ipc.specs.Transit.{is_transit}
use Rattle.transit_ipc.specs.Tying.{AreTied, IsMessage, Waits}
use Rattle.transit_ipc.specs.declared.port.Message.{Message}
use Rattle.transit_ipc.specs.declared.port.Port.{Port}
use Rattle.transit_ipc.proofs.Seeing.Seen.{seen_cache}
use Rattle.transit_ipc.proofs.Seeing.View.{view}
use Rattle.transit_ipc.proofs.Seeing.Messages.{ports_same, seen_apart, waiting_hides}
use Rattle.transit_ipc.proofs.Seeing.OnePort.{gone_hidden, port_or}
use Rattle.transit_ipc.proofs.Seeing.FirstTaken.{Left, another, hidden_still, left}

module _ (m : Machine) (ports : List Port) (t : AreTied m ports) (place : ℕ) (p q : Port) (there : slice_get ports place ≡ Some p)
    (depth : q.depth ≡ p.depth) (room : deque_capacity q.messages ≡ deque_capacity p.messages) (x : Message)
    (first : slice_get p.messages.items 0 ≡ Some x) (rest : q.messages.items ≡ drop 1 p.messages.items)
    (k : ℕ) (c d : Cache) (found : cache_of m k ≡ Some c) (visible : is_transit ports k ≡ false) (segment : d.segment ≡ None) where
  abbrev e : ℕ
  e = x.cache.0

  abbrev later : List Port
  later = set ports place q

  abbrev n : Machine
  n = without (put_cache m k d) e

  waits : Waits ports place 0 x
  waits = record { port = p; there = there; has = first }

  is : IsMessage m x
  is = t.messages place 0 x waits

  apart : e ≢ k
  apart = seen_apart ports place 0 k x waits visible

  some_k : 1 ≤ k
  some_k = (numbered_place m.caches k c found).0

  some_e : 1 ≤ e
  some_e = (numbered_place m.caches e is.cache is.there).0

  -- The caches

  other_cache : (l : ℕ) → l ≢ e → cache_of n l ≡ cache_of (put_cache m k d) l
  other_cache l a = numbered_set_other (set m.caches (k - 1) (Some d)) e l None some_e a

  kept_cache : (l : ℕ) → l ≢ e → l ≢ k → cache_of n l ≡ cache_of m l
  kept_cache l a b = other_cache l a ∙ numbered_set_other m.caches k l (Some d) some_k b

  gone_cache : cache_of n e ≡ None
  gone_cache = numbered_set (set m.caches (k - 1) (Some d)) e is.cache None (numbered_set_other m.caches k e (Some d) some_k apart ∙ is.there)

  put_there : cache_of n k ≡ Some d
  put_there = other_cache k (λ s. apart (sym s)) ∙ numbered_set m.caches k c (Some d) found

  -- The messages that are left

  had_cache : (i j : ℕ) (y : Message) → Left ports place p q there x first rest i j y → (y.cache.0 ≢ k) × IsMessage m y
  had_cache i j y (inl h) = (seen_apart ports place (suc j) k y h.1 visible, t.messages place (suc j) y h.1)
  had_cache i j y (inr h) = (seen_apart ports i j k y h.1 visible, t.messages i j y h.1)

  message_kept : (i j : ℕ) (y : Message) → Waits later i j y → cache_of n y.cache.0 ≡ cache_of m y.cache.0
  message_kept i j y w = kept_cache y.cache.0 (another ports place p q there x first rest t.apart i j y (left ports place p q there x first rest i j y w)) (had_cache i j y (left ports place p q there x first rest i j y w)).0

  same_turn : (i j f l : ℕ) (y z : Message) → Left ports place p q there x first rest i j y → Left ports place p q there x first rest f l z → y.cache.0 ≡ z.cache.0 → (i ≡ f) × (j ≡ l)
  same_turn i j f l y z (inl v) (inl w) same = (v.0 ∙ sym w.0, (let s : suc j ≡ suc l = (t.apart place (suc j) place (suc l) y z v.1 w.1 same).1 in omega (arith, s)))
  same_turn i j f l y z (inl v) (inr w) same = absurd (w.0 (sym (t.apart place (suc j) f l y z v.1 w.1 same).0))
  same_turn i j f l y z (inr v) (inl w) same = absurd (v.0 (t.apart i j place (suc l) y z v.1 w.1 same).0)
  same_turn i j f l y z (inr v) (inr w) same = t.apart i j f l y z v.1 w.1 same

  -- What is seen

  pub memory_received : memory_seen n later ≡ put_cache (memory_seen m ports) k d
  memory_received =
      let at : 1 + (e - 1) ≡ e = omega (arith, some_e) in
      ap (λ (caches : List (Option Cache)). record m { caches = caches })
      (gone_hidden (is_transit ports) (is_transit later) 1 (e - 1) (set m.caches (k - 1) (Some d)) (ap (is_transit ports) at ∙ waiting_hides ports place 0 x waits) (λ l a. hidden_still ports place p q there x first rest l (λ s. a (s ∙ sym at))))
      ∙ put_seen (view ports) m k c d found (segment ∙ sym (t.temporary k c found)) visible

  first_gone : port_seen m q ≡ without_first (port_seen m p)
  first_gone = λ i. record { depth = depth i; messages = (ap (map (message_seen m)) rest ∙ sym (drop-map (message_seen m) 1 p.messages.items)) i }

  ports_received : map (port_seen n) later ≡ set (map (port_seen m) ports) place (without_first (port_seen m p))
  ports_received = ports_same m n later message_kept ∙ map-set (port_seen m) ports place q ∙ ap (set (map (port_seen m) ports) place) first_gone

  pub seen_received : (number : ℕ) → number ≡ suc place → ports_seen n later ≡ put_port (record (ports_seen m ports) { memory = put_cache (memory_seen m ports) k d }) number (without_first (port_seen m p))
  seen_received number is =
      (λ i. record { memory = memory_received i; ports = ports_received i })
      ∙ ap (λ (l : ℕ). put_port (record (ports_seen m ports) { memory = put_cache (memory_seen m ports) k d }) l (without_first (port_seen m p))) (sym is)

  -- The ties

  still_seen : (l : ℕ) → IsSome (cache_of (memory_seen m ports) l) → IsSome (cache_of (memory_seen n later) l)
  still_seen l h = subst (λ (s : Machine). IsSome (cache_of s l)) (sym memory_received) (elim (cases_eq l k) [
    | inl same ↦ subst IsSome (sym (ap (cache_of (put_cache (memory_seen m ports) k d)) same ∙ numbered_set (memory_seen m ports).caches k c (Some d) (seen_cache m ports k visible ∙ found))) refl
    | inr other ↦ subst IsSome (sym (numbered_set_other (memory_seen m ports).caches k l (Some d) some_k other)) h
  ])

  no_segment : (l : ℕ) (f : Cache) → cache_of n l ≡ Some f → f.segment ≡ None
  no_segment l f at = elim (cases_eq l e) [
    | inl same ↦ (let wrong : None ≡ Some f = sym gone_cache ∙ ap (cache_of n) (sym same) ∙ at in absurd (cc wrong))
    | inr a ↦ elim (cases_eq l k) [
      | inl same ↦ (let both : Some d ≡ Some f = sym put_there ∙ ap (cache_of n) (sym same) ∙ at in let put : d ≡ f = cc both in ap (λ (c : Cache). c.segment) (sym put) ∙ segment)
      | inr b ↦ t.temporary l f (sym (kept_cache l a b) ∙ at)
    ]
  ]

  fewer : length q.messages.items ≤ p.depth
  fewer = omega (arith, ap (λ (ms : List Message). length ms) rest, length-drop 1 p.messages.items, t.deep place p there)

  pub tied_received : AreTied n later
  tied_received = record {
    messages = λ i j y w. (let was = (had_cache i j y (left ports place p q there x first rest i j y w)).1 in record { cache = was.cache; there = message_kept i j y w ∙ was.there; some = was.some; many = was.many });
    apart = λ i j f l y z v w same. same_turn i j f l y z (left ports place p q there x first rest i j y v) (left ports place p q there x first rest f l z w) same;
    mapped = λ l is. still_seen l (t.mapped l is);
    temporary = no_segment;
    deep = λ i r at. elim (port_or ports place p q there i r at) [
      | inl same ↦ omega (arith, ap (λ (s : Port). s.depth) same, ap (λ (s : Port). length s.messages.items) same, fewer, depth)
      | inr at ↦ t.deep i r at
    ];
    roomy = λ i r at. elim (port_or ports place p q there i r at) [
      | inl same ↦ omega (arith, ap (λ (s : Port). s.depth) same, ap (λ (s : Port). deque_capacity s.messages) same, depth, room, t.roomy place p there)
      | inr at ↦ t.roomy i r at
    ];
    few = omega (arith, length-set ports place q, t.few);
  }
