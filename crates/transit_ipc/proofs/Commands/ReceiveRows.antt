-- What a receive comes to: from the move of the first message's pages on.
use Rattle.std.proofs.Common.{◌≡◌, ◌⊎◌, inl, inr, ℕ, suc, ◌<◌, Bool, true, false, cond, List, [], ◌∷◌, length, map, take, drop, Option, Some, None, refl, sym, ap, subst, ◌∙◌, arith}
use Rattle.std.specs.Prelude.{Ok, Err, Result, option_map, slice_get}
use Rattle.std.specs.Option.{option_map_or}
use Rattle.std.proofs.lemmas.List.{take_all}
use Rattle.std.proofs.lemmas.Option.{slice_get-map}
use Rattle.vm_ids.specs.declared.command.PortCommand.{PortCommand}
use Rattle.vm_ids.specs.declared.command.PortCommand.TheVariants as commands
use Rattle.vm_ids.specs.declared.refusal.Refusal.TheVariants as refusals
use Rattle.vm_ids.specs.declared.reply.Reply.TheVariants as replies
use Rattle.vm_ids.specs.declared.reply.Trouble.TheVariants as troubles
use Rattle.vm_model.specs.Answering as plain
use Rattle.interface_callers.proofs.Words.{Cache, CacheId, IsNotRefused, Machine, MapperCounts, Page, PageNo, PortId, Refusal, Segments, Span, Trouble, cache_of, done_by, is_any_denied, is_any_locked, passes_end, put_cache, put_pages, put_span}
use Rattle.interface_callers.proofs.Alike.{AllTemporary}
use Rattle.interface_callers.proofs.Blanks.{without}
use Rattle.interface_callers.proofs.Rows.{RowIs}
use Rattle.interface_callers.proofs.Copies.{undenied}
use Rattle.interface_callers.proofs.Temporary.{unnamed}
use Rattle.transit_ipc.specs.Answering.{Answered, receive_of, reply, span_to, unless, with_some, without_first}
use Rattle.transit_ipc.specs.Inner.{received_span, shown}
use Rattle.transit_ipc.specs.Outcome.{Outcome}
use Rattle.transit_ipc.specs.PortMachine as model
use Rattle.transit_ipc.specs.PortMachine.{PortMachine, port_of, put_port}
use Rattle.transit_ipc.specs.Seen.{memory_seen, message_seen, port_seen, ports_seen}
use Rattle.transit_ipc.specs.Transit.{is_transit}
use Rattle.transit_ipc.specs.Tying.{AreTied, IsMessage, Waits}
use Rattle.transit_ipc.specs.declared.port.Message.{Message}
use Rattle.transit_ipc.specs.declared.port.Port.{Port}
use Rattle.transit_ipc.proofs.Seeing.Seen.{hidden_cache, seen_cache}
use Rattle.transit_ipc.proofs.Seeing.Messages.{seen_apart, shown_visible, waiting_hides}
use Rattle.transit_ipc.proofs.Commands.MoveOut.{MayMove, moved, received_row}
use Rattle.transit_ipc.proofs.Commands.SendRows.{no_port, port_there, unlocked}

-- no cache that is seen is named
temporary_seen : (m : Machine) (ports : List Port) → AllTemporary m → AllTemporary (memory_seen m ports)
temporary_seen m ports all k c there = by (is_transit ports k) refl
  where
    by : (b : Bool) → is_transit ports k ≡ b → c.segment ≡ None
    by true e = let wrong : Some c ≡ None = sym there ∙ hidden_cache m ports k e in absurd (cc wrong)
    by false e = all k c (sym (seen_cache m ports k e) ∙ there)

module _ (m : Machine) (ports : List Port) (t : AreTied m ports) (port : PortId) (cache : CacheId) (page : PageNo) where
  abbrev M : PortMachine
  M = ports_seen m ports

  abbrev command : PortCommand
  command = commands.Receive port cache page

  -- a refusal in this row
  abbrev Refuses : Refusal → Type 0
  Refuses r = (h : Segments) → receive_of M port.0 cache page h ≡ record { answer = Err (troubles.Refused r); next = M }

  abbrev third_part : Segments → model.Port → model.Message → Cache → Answered
  third_part h p message c =
      unless (passes_end c page.0 (length message)) refusals.OutOfCache M
      (unless (is_any_locked M.memory cache page.0 (length message)) refusals.Locked M
      (unless (is_any_denied M.memory h (span_to cache page (length message))) refusals.WriteDenied M
      (reply replies.Done
      (put_port (record M { memory = put_cache M.memory cache.0 (put_pages page.0 message c) }) port.0 (without_first p)))))

  abbrev second_part : Segments → model.Port → model.Message → Option Cache → Answered
  second_part h p message o = with_some o refusals.NoCache M (third_part h p message)

  abbrev first_part : Segments → model.Port → Option model.Message → Answered
  first_part h p o = with_some o refusals.PortEmpty M (λ message. second_part h p message (cache_of M.memory cache.0))

  receive_row : (h : Segments) → receive_of M port.0 cache page h ≡ with_some (port_of M port.0) refusals.NoPort M (λ p. first_part h p (slice_get p.messages 0))
  unfolding receive_of with_some
  receive_row h = refl

  pub nobody : (port.0 ≡ 0) ⊎ (length ports < port.0) → Refuses refusals.NoPort
  unfolding with_some
  nobody none h = receive_row h ∙ ap (λ (o : Option model.Port). with_some o refusals.NoPort M (λ p. first_part h p (slice_get p.messages 0))) (no_port m ports port.0 none)

  module _ (place : ℕ) (p : Port) (there : slice_get ports place ≡ Some p) (at : port.0 ≡ suc place) where
    of_port : (h : Segments) → receive_of M port.0 cache page h ≡ first_part h (port_seen m p) (slice_get (port_seen m p).messages 0)
    unfolding with_some
    of_port h = receive_row h ∙ ap (λ (o : Option model.Port). with_some o refusals.NoPort M (λ p. first_part h p (slice_get p.messages 0))) (port_there m ports place p port.0 there at)

    pub empty : p.messages.items ≡ [] → Refuses refusals.PortEmpty
    unfolding with_some
    empty none h = of_port h ∙ ap (λ (xs : List Message). first_part h (port_seen m p) (slice_get (map (message_seen m) xs) 0)) none

    module _ (x : Message) (first : slice_get p.messages.items 0 ≡ Some x) where
      pub waits : Waits ports place 0 x
      waits = record { port = p; there = there; has = first }

      pub is_message : IsMessage m x
      is_message = t.messages place 0 x waits

      abbrev pub source : Cache
      source = is_message.cache

      abbrev pub span : Span
      span = received_span ports x cache page

      abbrev message : model.Message
      message = message_seen m x

      message_is : message ≡ source.pages
      message_is = ap (λ (o : Option Cache). option_map_or (λ (c : Cache). c.pages) o []) is_message.there

      many : length message ≡ x.pages
      many = ap length message_is ∙ is_message.many

      of_message : (h : Segments) → receive_of M port.0 cache page h ≡ second_part h (port_seen m p) message (cache_of M.memory cache.0)
      unfolding with_some
      of_message h = of_port h ∙ ap (first_part h (port_seen m p)) (slice_get-map (message_seen m) p.messages.items 0 ∙ ap (option_map (message_seen m)) first)

      hidden : is_transit ports x.cache.0 ≡ true
      hidden = waiting_hides ports place 0 x waits

      pub unseen : cache_of (memory_seen m ports) x.cache.0 ≡ None
      unseen = hidden_cache m ports x.cache.0 hidden

      pub may : MayMove m span source
      may = record {
        from = is_message.there;
        all = t.temporary;
        inside = omega (arith, is_message.many);
        apart = seen_apart ports place 0 (shown ports cache).0 x waits (shown_visible m ports t cache);
        unlocked = unlocked m ports t x.cache.0 unseen;
      }

      -- what is found is what is seen
      found_same : cache_of m span.to.0 ≡ cache_of (memory_seen m ports) cache.0
      found_same = by (is_transit ports cache.0) refl
        where
          by : (b : Bool) → is_transit ports cache.0 ≡ b → cache_of m (let k : CacheId = cond b (record { 0 = 0 }) cache in k.0) ≡ cache_of (memory_seen m ports) cache.0
          by true e = sym (hidden_cache m ports cache.0 e)
          by false e = sym (seen_cache m ports cache.0 e)

      pub visible : (d : Cache) → cache_of (memory_seen m ports) cache.0 ≡ Some d → is_transit ports cache.0 ≡ false
      visible d found = by (is_transit ports cache.0) refl
        where
          by : (b : Bool) → is_transit ports cache.0 ≡ b → b ≡ false
          by true e = let wrong : Some d ≡ None = sym found ∙ hidden_cache m ports cache.0 e in absurd (cc wrong)
          by false e = refl

      shown_is : (d : Cache) → cache_of (memory_seen m ports) cache.0 ≡ Some d → shown ports cache ≡ cache
      shown_is d found = ap (λ (b : Bool). cond b (let none : CacheId = record { 0 = 0 } in none) cache) (visible d found)

      taken : take x.pages (drop 0 source.pages) ≡ source.pages
      taken = take_all x.pages (drop 0 source.pages) (omega (arith, is_message.many)) ∙ whole source.pages
        where
          whole : (xs : List Page) → drop 0 xs ≡ xs
          whole [] = refl
          whole (x ∷ xs) = refl

      -- the destination with the pages of the message
      abbrev pub received : Cache → Cache
      received d = put_pages page.0 source.pages d

      -- The message was received: its cache is gone, and the destination has its pages.
      pub record HasReceived (n : Machine) : Type 0 where
        pub cache_to : Cache
        pub found : cache_of m cache.0 ≡ Some cache_to
        pub visible_to : is_transit ports cache.0 ≡ false
        pub is : n ≡ without (put_cache m cache.0 (received cache_to)) x.cache.0
        pub outcome : (h : Segments) (rises : MapperCounts) → Outcome M command h (Ok replies.Done) (put_port (record M { memory = put_cache M.memory cache.0 (received cache_to) }) port.0 (without_first (port_seen m p))) rises

      -- the machine after the move, and after the cache of the message was destroyed
      abbrev pub Ends : Result (Unit {0}) Trouble → Machine → Type 0
      Ends (Ok u) n = HasReceived (without n x.cache.0)
      Ends (Err trouble) n = (n ≡ m) × ((h : Segments) (rises : MapperCounts) → Outcome M command h (Err trouble) M rises)

      abbrev pub ended : Result (Unit {0}) Trouble → Machine → Machine
      ended (Ok u) n = without n x.cache.0
      ended (Err trouble) n = n

      refused_ends : (r : Refusal) → Refuses r → (result : Result (Unit {0}) Trouble) (n : Machine) → RowIs (plain.refuse m r) m (done_by result) (ended result n) → Ends result n
      refused_ends r row (Ok u) n (inl f) = absurd (let wrong : Err (troubles.Refused r) ≡ Ok replies.Done = ap (λ (a : plain.Answered). a.answer) f in cc wrong)
      refused_ends r row (Err trouble) n (inl f) =
          let both : Err (troubles.Refused r) ≡ Err trouble = ap (λ (a : plain.Answered). a.answer) f in
          let same : troubles.Refused r ≡ trouble = cc both in
          (sym (ap (λ (a : plain.Answered). a.next) f), λ h rises. subst (λ (y : Trouble). Outcome M command h (Err y) M rises) same (row h))
      refused_ends r row result n (inr l) = absurd l.on

      abbrev done_row : Cache → Answered
      done_row d = reply replies.Done (put_port (record M { memory = put_cache M.memory cache.0 (received d) }) port.0 (without_first (port_seen m p)))

      goes_ends : (d : Cache) → cache_of (memory_seen m ports) cache.0 ≡ Some d → ((h : Segments) → receive_of M port.0 cache page h ≡ done_row d)
          → (result : Result (Unit {0}) Trouble) (n : Machine) → RowIs (plain.reply replies.Done (without (put_span m span source d) x.cache.0)) m (done_by result) (ended result n) → Ends result n
      goes_ends d found row (Ok u) n (inl f) = record {
        cache_to = d;
        found = sym (seen_cache m ports cache.0 (visible d found)) ∙ found;
        visible_to = visible d found;
        is = sym (ap (λ (a : plain.Answered). a.next) f)
            ∙ (λ i. without (put_cache m (let k : CacheId = shown_is d found i in k.0) (put_pages page.0 (taken i) d)) x.cache.0);
        outcome = λ h rises. row h;
      }
      goes_ends d found row (Err trouble) n (inl f) = absurd (let wrong : Ok replies.Done ≡ Err trouble = ap (λ (a : plain.Answered). a.answer) f in cc wrong)
      goes_ends d found row (Ok u) n (inr l) = absurd (let wrong : Ok replies.Done ≡ Err troubles.Memory = l.is in cc wrong)
      goes_ends d found row (Err trouble) n (inr l) =
          let both : Err trouble ≡ Err troubles.Memory = l.is in
          let same : trouble ≡ troubles.Memory = cc both in
          (l.same, λ h rises. subst (λ (y : Trouble). Outcome M command h (Err y) M rises) (sym same) (refl, tt, subst (λ (a : Answered). IsNotRefused a.answer) (sym (row h)) tt))

      -- the last rows, which are the same here and there
      abbrev rows : Segments → Cache → Bool → Bool → Answered
      rows h d a b = unless a refusals.OutOfCache M (unless b refusals.Locked M (done_row d))

      seen_rows : (d : Cache) → cache_of (memory_seen m ports) cache.0 ≡ Some d → (h : Segments) → receive_of M port.0 cache page h ≡ rows h d (passes_end d page.0 x.pages) (is_any_locked m cache page.0 x.pages)
      unfolding with_some unless
      seen_rows d found h =
          of_message h
          ∙ ap (second_part h (port_seen m p) message) found
          ∙ (λ i. unless (passes_end d page.0 (many i)) refusals.OutOfCache M
          (unless (is_any_locked M.memory cache page.0 (many i)) refusals.Locked M
          (unless (undenied M.memory h (span_to cache page (length message)) (unnamed M.memory (temporary_seen m ports t.temporary) cache.0) i) refusals.WriteDenied M
          (reply replies.Done (put_port (record M { memory = put_cache M.memory cache.0 (put_pages page.0 (message_is i) d) }) port.0 (without_first (port_seen m p)))))))

      by_rows : (d : Cache) → cache_of (memory_seen m ports) cache.0 ≡ Some d → (a b : Bool) → ((h : Segments) → receive_of M port.0 cache page h ≡ rows h d a b)
          → (result : Result (Unit {0}) Trouble) (n : Machine) → RowIs (plain.unless a refusals.OutOfCache m (plain.unless b refusals.Locked m (plain.reply replies.Done (without (put_span m span source d) x.cache.0)))) m (done_by result) (ended result n) → Ends result n
      unfolding unless plain.unless
      by_rows d found true b row result n f = refused_ends refusals.OutOfCache row result n f
      by_rows d found false true row result n f = refused_ends refusals.Locked row result n f
      by_rows d found false false row result n f = goes_ends d found row result n f

      by_cache : (o : Option Cache) → cache_of (memory_seen m ports) cache.0 ≡ o → (result : Result (Unit {0}) Trouble) (n : Machine) → RowIs (moved m span (λ d. without (put_span m span source d) span.from.0) o) m (done_by result) (ended result n) → Ends result n
      unfolding with_some plain.with_some
      by_cache None none result n f = refused_ends refusals.NoCache (λ h. of_message h ∙ ap (second_part h (port_seen m p) message) none) result n f
      by_cache (Some d) found result n f =
          by_rows d found (passes_end d page.0 x.pages) (is_any_locked m cache page.0 x.pages) (seen_rows d found) result n
          (subst (λ (k : CacheId). RowIs (plain.unless (passes_end d page.0 x.pages) refusals.OutOfCache m (plain.unless (is_any_locked m k page.0 x.pages) refusals.Locked m (plain.reply replies.Done (without (put_span m span source d) x.cache.0)))) m (done_by result) (ended result n)) (shown_is d found) f)

      -- what the move came to
      pub ends : (result : Result (Unit {0}) Trouble) (n : Machine) → RowIs (received_row m span source) m (done_by result) (ended result n) → Ends result n
      ends result n f = by_cache (cache_of (memory_seen m ports) cache.0) refl result n (subst (λ (o : Option Cache). RowIs (moved m span (λ d. without (put_span m span source d) span.from.0) o) m (done_by result) (ended result n)) found_same f)
