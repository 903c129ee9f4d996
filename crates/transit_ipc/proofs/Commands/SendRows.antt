-- What a send comes to: from the cache that is made for the message on.
use Rattle.std.proofs.Common.{◌≡◌, ◌≢◌, ◌⊎◌, inl, inr, ◌==◌, ℕ, zero, suc, ◌+◌, ◌<◌, ◌≤◌, Bool, true, false, cond, List, length, map, take, drop, Option, Some, None, refl, sym, ap, subst, ◌∙◌, arith}
use Rattle.std.specs.Prelude.{◌&&◌, IsSome, Ok, Err, Result, nat_le, nat_lt, option_map, slice_get}
use Rattle.std.proofs.lemmas.Bool.Decides.{nat_tests}
use Rattle.std.proofs.lemmas.List.{length-drop, length-map, length-take-le}
use Rattle.std.proofs.lemmas.Option.{slice_get-map, slice_get_past}
use Rattle.vm_ids.specs.declared.command.PortCommand.{PortCommand}
use Rattle.vm_ids.specs.declared.command.PortCommand.TheVariants as commands
use Rattle.vm_ids.specs.declared.refusal.Refusal.TheVariants as refusals
use Rattle.vm_ids.specs.declared.reply.Reply.TheVariants as replies
use Rattle.vm_ids.specs.declared.reply.Trouble.TheVariants as troubles
use Rattle.vm_model.specs.Answering as plain
use Rattle.vm_model.proofs.Parts.ListParts.{numbered_past, numbered_push}
use Rattle.interface_callers.proofs.Words.{Actor, Cache, CacheId, Extent, Machine, MapperCounts, Page, PortId, Refusal, Region, Segments, Span, Trouble, cache_of, done_by, is_locked_page, is_mapped, locks, locks_any, maps_in, passes_end, put_pages, put_span}
use Rattle.interface_callers.proofs.Copies.{MayCopy, copied, copy_row}
use Rattle.interface_callers.proofs.Rows.{RowIs}
use Rattle.interface_callers.proofs.Lists.{any_at, none_any, overwritten}
use Rattle.std.proofs.lemmas.Bool.{eqb-true}
use Rattle.transit_ipc.specs.Answering.{Answered, lacks_room, pages_of, put_last, reply, send_of, unless, with_some}
use Rattle.transit_ipc.specs.Inner.{sent_span}
use Rattle.transit_ipc.specs.Outcome.{GoesOn, Outcome}
use Rattle.transit_ipc.specs.PortMachine as model
use Rattle.transit_ipc.specs.PortMachine.{PortMachine, port_in, port_of, put_port, take_number}
use Rattle.transit_ipc.specs.Seen.{memory_seen, message_seen, port_seen, ports_seen}
use Rattle.transit_ipc.specs.Transit.{is_transit}
use Rattle.transit_ipc.specs.Tying.{AreTied}
use Rattle.transit_ipc.specs.declared.port.Message.{Message}
use Rattle.transit_ipc.specs.declared.port.Port.{Port}
use Rattle.transit_ipc.proofs.Ties.CacheAppended.{appended, at_last, last_replaced, next_of}
use Rattle.transit_ipc.proofs.Seeing.PageCounts.{lacks_same}
use Rattle.transit_ipc.proofs.Ties.NewCache.{has_no_room}
use Rattle.transit_ipc.proofs.Seeing.Seen.{hidden_cache, length_seen, seen_cache}
use Rattle.transit_ipc.proofs.Definition.Rows.{goes_where, refused_where}

-- What isn't seen isn't mapped

module _ (m : Machine) (ports : List Port) (t : AreTied m ports) (k : ℕ) (unseen : cache_of (memory_seen m ports) k ≡ None) where
  never_mapped : is_mapped m k ≡ true → ⊥
  never_mapped e =
      let some : IsSome (cache_of (memory_seen m ports) k) = t.mapped k e in
      let wrong : IsSome (let none : Option Cache = None in none) = subst (λ (o : Option Cache). IsSome o) unseen some in
      absurd (cc wrong)

  pub unmapped : is_mapped m k ≡ false
  unmapped = by (is_mapped m k) refl
    where
      by : (b : Bool) → is_mapped m k ≡ b → b ≡ false
      by true e = absurd (never_mapped e)
      by false e = refl

  pub unlocked : (page : ℕ) → is_locked_page m k page ≡ false
  unlocked page = none_any (locks_any k page) m.actors by
    where
      off : (a b c : Bool) → (a && false && b && c) ≡ false
      off true b c = refl
      off false b c = refl

      at : (i : ℕ) (rs : Actor) → slice_get m.actors i ≡ Some (Some rs) → (j : ℕ) (r : Region) → slice_get rs j ≡ Some r → (b : Bool) → (r.cache == k) ≡ b → locks k page r ≡ false
      at i rs there j r has true e = absurd (never_mapped (any_at (maps_in k) m.actors i (Some rs) there (any_at (λ (x : Region). x.cache == k) rs j r has e)))
      at i rs there j r has false e = ap (λ (b : Bool). r.locked && b && nat_le r.offset page && nat_lt page (r.offset + r.pages)) e ∙ off r.locked (nat_le r.offset page) (nat_lt page (r.offset + r.pages))

      by : (i : ℕ) (o : Option Actor) → slice_get m.actors i ≡ Some o → locks_any k page o ≡ false
      by i None e = refl
      by i (Some rs) e = none_any (locks k page) rs (λ j r has. at i rs e j r has (r.cache == k) refl)

-- The port

pub no_port : (m : Machine) (ports : List Port) (n : ℕ) → (n ≡ 0) ⊎ (length ports < n) → port_of (ports_seen m ports) n ≡ None
no_port m ports zero h = refl
no_port m ports (suc i) (inl e) = absurd (omega (arith, e))
no_port m ports (suc i) (inr h) = slice_get_past (map (port_seen m) ports) i (omega (arith, h, length-map ports (port_seen m)))

pub port_there : (m : Machine) (ports : List Port) (place : ℕ) (p : Port) (n : ℕ) → slice_get ports place ≡ Some p → n ≡ suc place → port_of (ports_seen m ports) n ≡ Some (port_seen m p)
port_there m ports place p n there at = ap (port_in (map (port_seen m) ports)) at ∙ slice_get-map (port_seen m) ports place ∙ ap (option_map (port_seen m)) there

abbrev nowhere : CacheId
nowhere = record { 0 = 0 }

module _ (m : Machine) (ports : List Port) (t : AreTied m ports) (port : PortId) (e : Extent) where
  abbrev M : PortMachine
  M = ports_seen m ports

  abbrev command : PortCommand
  command = commands.Send port e

  -- a refusal in this row
  abbrev Refuses : Refusal → PortMachine → Type 0
  Refuses r next = send_of M port.0 e ≡ record { answer = Err (troubles.Refused r); next = next }

  pub nobody : (port.0 ≡ 0) ⊎ (length ports < port.0) → Refuses refusals.NoPort M
  unfolding send_of with_some
  nobody h = ap (λ (o : Option model.Port). with_some o refusals.NoPort M (λ p.
      unless (length p.messages == p.depth) refusals.PortFull M
      (unless (lacks_room M e.pages) refusals.TooMany M
      (with_some (cache_of M.memory e.cache.0) refusals.NoCache (take_number M) (λ c.
      unless (passes_end c e.first.0 e.pages) refusals.OutOfCache (take_number M)
      (reply replies.Done (put_port (take_number M) port.0 (put_last (pages_of c e) p)))))))) (no_port m ports port.0 h)

  module _ (place : ℕ) (p : Port) (there : slice_get ports place ≡ Some p) (at : port.0 ≡ suc place) where
    abbrev last_part : Option Cache → Answered
    last_part o = with_some o refusals.NoCache (take_number M) (λ c.
        unless (passes_end c e.first.0 e.pages) refusals.OutOfCache (take_number M)
        (reply replies.Done (put_port (take_number M) port.0 (put_last (pages_of c e) (port_seen m p)))))

    abbrev second_part : Answered
    second_part = unless (lacks_room M e.pages) refusals.TooMany M (last_part (cache_of M.memory e.cache.0))

    send_row : send_of M port.0 e ≡ unless (length p.messages.items == p.depth) refusals.PortFull M second_part
    unfolding send_of with_some
    send_row = ap (λ (o : Option model.Port). with_some o refusals.NoPort M (λ p.
        unless (length p.messages == p.depth) refusals.PortFull M
        (unless (lacks_room M e.pages) refusals.TooMany M
        (with_some (cache_of M.memory e.cache.0) refusals.NoCache (take_number M) (λ c.
        unless (passes_end c e.first.0 e.pages) refusals.OutOfCache (take_number M)
        (reply replies.Done (put_port (take_number M) port.0 (put_last (pages_of c e) p)))))))) (port_there m ports place p port.0 there at)
        ∙ ap (λ (n : ℕ). unless (n == p.depth) refusals.PortFull M second_part) (length-map p.messages.items (message_seen m))

    pub full : (length p.messages.items == p.depth) ≡ true → Refuses refusals.PortFull M
    full e = send_row ∙ refused_where (length p.messages.items == p.depth) refusals.PortFull M second_part e

    module _ (free : (length p.messages.items == p.depth) ≡ false) where
      second : send_of M port.0 e ≡ second_part
      second = send_row ∙ goes_where (length p.messages.items == p.depth) refusals.PortFull M second_part free

      pub many : has_no_room m e.pages ≡ true → Refuses refusals.TooMany M
      many none = second ∙ refused_where (lacks_room M e.pages) refusals.TooMany M (last_part (cache_of M.memory e.cache.0)) (lacks_same m ports t e.pages ∙ none)

      module _ (room : has_no_room m e.pages ≡ false) where
        last : send_of M port.0 e ≡ last_part (cache_of M.memory e.cache.0)
        last = second ∙ goes_where (lacks_room M e.pages) refusals.TooMany M (last_part (cache_of M.memory e.cache.0)) (lacks_same m ports t e.pages ∙ room)

        goes_on : (o : Option Cache) → GoesOn command (last_part o).answer
        unfolding with_some unless
        goes_on None = tt
        goes_on (Some c) = by (passes_end c e.first.0 e.pages)
          where
            by : (b : Bool) → GoesOn command (unless b refusals.OutOfCache (take_number M) (reply replies.Done (put_port (take_number M) port.0 (put_last (pages_of c e) (port_seen m p))))).answer
            by true = tt
            by false = tt

        -- no memory for the cache of the message
        pub no_memory : (h : Segments) (rises : MapperCounts) → Outcome M command h (Err troubles.Memory) M rises
        no_memory h rises = (inl refl, tt, subst (λ (a : Answered). GoesOn command a.answer) (sym last) (goes_on (cache_of M.memory e.cache.0)))

        module _ (x : Message) (new : x.cache.0 ≡ next_of m) (d : Cache) (temporary : d.segment ≡ None) (long : length d.pages ≡ e.pages) where
          abbrev pub with_message : Machine
          with_message = appended m (Some d)

          abbrev pub span : Span
          span = sent_span ports x e

          unseen : cache_of (memory_seen m ports) x.cache.0 ≡ None
          unseen = numbered_past (memory_seen m ports).caches x.cache.0 (omega (arith, new, length_seen (is_transit ports) 1 m.caches))

          source_same : cache_of with_message span.from.0 ≡ cache_of (memory_seen m ports) e.cache.0
          source_same = by (e.cache.0 == x.cache.0) (is_transit ports e.cache.0) refl refl
            where
              by : (b c : Bool) → (e.cache.0 == x.cache.0) ≡ b → is_transit ports e.cache.0 ≡ c → cache_of with_message (let k : CacheId = cond b nowhere (cond c nowhere e.cache) in k.0) ≡ cache_of (memory_seen m ports) e.cache.0
              by true c is hidden = sym (ap (cache_of (memory_seen m ports)) (eqb-true e.cache.0 x.cache.0 is) ∙ unseen)
              by false true is hidden = sym (hidden_cache m ports e.cache.0 hidden)
              by false false is hidden = numbered_push m.caches (Some d) e.cache.0 (let other : e.cache.0 ≢ x.cache.0 = grind (arith, nat_tests) in λ same. other (same ∙ sym new)) ∙ sym (seen_cache m ports e.cache.0 hidden)

          source_apart : span.from.0 ≢ x.cache.0
          source_apart = by (e.cache.0 == x.cache.0) (is_transit ports e.cache.0) refl
            where
              by : (b c : Bool) → (e.cache.0 == x.cache.0) ≡ b → (let k : CacheId = cond b nowhere (cond c nowhere e.cache) in k.0) ≢ x.cache.0
              by true c is same = let wrong : 0 ≡ x.cache.0 = same in absurd (omega (arith, wrong, new))
              by false true is same = let wrong : 0 ≡ x.cache.0 = same in absurd (omega (arith, wrong, new))
              by false false is same = let other : e.cache.0 ≢ x.cache.0 = grind (arith, nat_tests) in other same

          pub may : MayCopy with_message span d
          may = record {
            to = at_last m (Some d) x.cache.0 new;
            temporary = temporary;
            fits = omega (arith, long);
            apart = source_apart;
            unlocked = unlocked m ports t x.cache.0 unseen;
          }

          -- The message was sent: its cache is the last one.
          pub record HasSent (n : Machine) : Type 0 where
            pub cache : Cache
            pub is : n ≡ appended m (Some cache)
            pub segment : cache.segment ≡ None
            pub pages : length cache.pages ≡ e.pages
            pub outcome : (h : Segments) (rises : MapperCounts) → Outcome M command h (Ok replies.Done) (put_port (take_number M) port.0 (put_last cache.pages (port_seen m p))) rises

          abbrev pub Ends : Result (Unit {0}) Trouble → Machine → Type 0
          Ends (Ok u) n = HasSent n
          Ends (Err trouble) n = (n ≡ with_message) × ((h : Segments) (rises : MapperCounts) → Outcome M command h (Err trouble) (take_number M) rises)

          refused_ends : (r : Refusal) → Refuses r (take_number M) → (result : Result (Unit {0}) Trouble) (n : Machine) → RowIs (plain.refuse with_message r) with_message (done_by result) n → Ends result n
          refused_ends r row (Ok u) n (inl f) = absurd (let wrong : Err (troubles.Refused r) ≡ Ok replies.Done = ap (λ (a : plain.Answered). a.answer) f in cc wrong)
          refused_ends r row (Err trouble) n (inl f) =
              let both : Err (troubles.Refused r) ≡ Err trouble = ap (λ (a : plain.Answered). a.answer) f in
              let same : troubles.Refused r ≡ trouble = cc both in
              (sym (ap (λ (a : plain.Answered). a.next) f), λ h rises. subst (λ (y : Trouble). Outcome M command h (Err y) (take_number M) rises) same row)
          refused_ends r row result n (inr l) = absurd l.on

          goes_ends : (c : Cache) → passes_end c e.first.0 e.pages ≡ false → send_of M port.0 e ≡ reply replies.Done (put_port (take_number M) port.0 (put_last (pages_of c e) (port_seen m p)))
              → (result : Result (Unit {0}) Trouble) (n : Machine) → RowIs (plain.reply replies.Done (put_span with_message span c d)) with_message (done_by result) n → Ends result n
          goes_ends c fits row (Ok u) n (inl f) =
              let taken : List Page = take e.pages (drop e.first.0 c.pages) in
              let within : e.first.0 + e.pages ≤ length c.pages = grind (arith, nat_tests) in
              let count : length taken ≡ e.pages = length-take-le e.pages (drop e.first.0 c.pages) (omega (arith, within, length-drop e.first.0 c.pages)) in
              let all : (put_pages 0 taken d).pages ≡ taken = overwritten taken d.pages (long ∙ sym count) in
              record {
                cache = put_pages 0 taken d;
                is = sym (ap (λ (a : plain.Answered). a.next) f) ∙ last_replaced m (Some d) (Some (put_pages 0 taken d)) x.cache.0 new;
                segment = temporary;
                pages = ap length all ∙ count;
                outcome = λ h rises. row ∙ ap (λ (pages : List Page). reply replies.Done (put_port (take_number M) port.0 (put_last pages (port_seen m p)))) (sym all);
              }
          goes_ends c fits row (Err trouble) n (inl f) = absurd (let wrong : Ok replies.Done ≡ Err trouble = ap (λ (a : plain.Answered). a.answer) f in cc wrong)
          goes_ends c fits row (Ok u) n (inr l) = absurd (let wrong : Ok replies.Done ≡ Err troubles.Memory = l.is in cc wrong)
          goes_ends c fits row (Err trouble) n (inr l) =
              let both : Err trouble ≡ Err troubles.Memory = l.is in
              let same : trouble ≡ troubles.Memory = cc both in
              (l.same, λ h rises. subst (λ (y : Trouble). Outcome M command h (Err y) (take_number M) rises) (sym same) (inr refl, tt, subst (λ (a : Answered). GoesOn command a.answer) (sym row) tt))

          by_pages : (c : Cache) (b : Bool) → passes_end c e.first.0 e.pages ≡ b → send_of M port.0 e ≡ unless b refusals.OutOfCache (take_number M) (reply replies.Done (put_port (take_number M) port.0 (put_last (pages_of c e) (port_seen m p))))
              → (result : Result (Unit {0}) Trouble) (n : Machine) → RowIs (plain.unless b refusals.OutOfCache with_message (plain.reply replies.Done (put_span with_message span c d))) with_message (done_by result) n → Ends result n
          unfolding unless plain.unless
          by_pages c true is row result n o = refused_ends refusals.OutOfCache row result n o
          by_pages c false is row result n o = goes_ends c is row result n o

          by_cache : (o : Option Cache) → send_of M port.0 e ≡ last_part o → (result : Result (Unit {0}) Trouble) (n : Machine) → RowIs (copied with_message span d o) with_message (done_by result) n → Ends result n
          unfolding with_some plain.with_some
          by_cache None row result n f = refused_ends refusals.NoCache row result n f
          by_cache (Some c) row result n f = by_pages c (passes_end c e.first.0 e.pages) refl row result n f

          -- what the copy came to
          pub ends : (result : Result (Unit {0}) Trouble) (n : Machine) → RowIs (copy_row with_message span d) with_message (done_by result) n → Ends result n
          ends result n f = by_cache (cache_of M.memory e.cache.0) last result n (subst (λ (o : Option Cache). RowIs (copied with_message span d o) with_message (done_by result) n) source_same f)
