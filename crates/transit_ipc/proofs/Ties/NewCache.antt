-- A temporary cache is made: it is seen, and no message is in it.
use Rattle.std.proofs.Common.{◌≡◌, ◌⊎◌, inl, inr, ℕ, ◌+◌, Bool, true, false, List, [], ◌∷◌, ◌++◌, length, Option, Some, sym, ap, ◌∙◌, arith}
use Rattle.std.specs.Prelude.{◌||◌, nat_le, nat_lt}
use Rattle.std.proofs.lemmas.Bool.Decides.{nat_tests}
use Rattle.vm_ids.specs.declared.command.Command.TheVariants.{MakeTemp}
use Rattle.vm_ids.specs.declared.refusal.Refusal.TheVariants.{TooMany}
use Rattle.vm_ids.specs.declared.reply.Reply.TheVariants as replies
use Rattle.vm_model.specs.Answering as plain
use Rattle.vm_model.proofs.Parts.ListParts.{numbered_push}
use Rattle.interface_callers.proofs.Words.{Cache, LIVE_PAGES, Machine, MOST_MADE, Segments, cache_of, live_pages}
use Rattle.interface_callers.proofs.Lists.{either}
use Rattle.interface_callers.proofs.Rows.{plain_goes, plain_refused}
use Rattle.transit_ipc.specs.Answering.{Answered, lacks_room, plain_of, reply, within}
use Rattle.transit_ipc.specs.PortMachine.{PortMachine}
use Rattle.transit_ipc.specs.Seen.{but_for, memory_seen, ports_seen}
use Rattle.transit_ipc.specs.Transit.{is_transit}
use Rattle.transit_ipc.specs.Tying.{AreTied, Waits}
use Rattle.transit_ipc.specs.declared.port.Message.{Message}
use Rattle.transit_ipc.specs.declared.port.Port.{Port}
use Rattle.transit_ipc.proofs.Seeing.PageCounts.{lacks_same}
use Rattle.transit_ipc.proofs.Seeing.Seen.{length_seen, push_seen, shown}
use Rattle.transit_ipc.proofs.Seeing.Messages.{next_seen, ports_same, waiting_past}
use Rattle.transit_ipc.proofs.Definition.Rows.{goes_where, refused_where}

-- the answer of the manager's machine, with the ports as they are seen then
abbrev pub answer_seen : List Port → plain.Answered → Answered
answer_seen ports a = record { answer = a.answer; next = ports_seen a.next ports }

abbrev pub with_cache : Machine → ℕ → Machine
with_cache m pages = record m { caches = m.caches ++ Some (plain.temporary m.page_bytes pages) ∷ [] }

abbrev made : Machine → ℕ → plain.Answered
made m pages = plain.reply (replies.Cache (record { 0 = length m.caches + 1 })) (with_cache m pages)

-- no room for the cache on this machine
abbrev pub has_no_room : Machine → ℕ → Bool
has_no_room m pages = nat_le MOST_MADE (length m.caches) || nat_lt LIVE_PAGES (live_pages m + pages)

pub temp_refused : (m : Machine) (pages : ℕ) → has_no_room m pages ≡ true → plain.make_temp_of m pages ≡ plain.refuse m TooMany
unfolding plain.make_temp_of
temp_refused m pages e = plain_refused (has_no_room m pages) TooMany m (made m pages) e

pub temp_made : (m : Machine) (pages : ℕ) → has_no_room m pages ≡ false → plain.make_temp_of m pages ≡ made m pages
unfolding plain.make_temp_of
temp_made m pages e = plain_goes (has_no_room m pages) TooMany m (made m pages) e

module _ (m : Machine) (ports : List Port) (tied : AreTied m ports) (pages : ℕ) where
  -- the cache is seen
  pub seen_with_cache : memory_seen (with_cache m pages) ports ≡ with_cache (memory_seen m ports) pages
  seen_with_cache =
      let fresh : Option Cache = Some (plain.temporary m.page_bytes pages) in
      ap (λ (caches : List (Option Cache)). record m { caches = caches })
      (push_seen (is_transit ports) 1 m.caches fresh
      ∙ ap (λ (b : Bool). but_for (is_transit ports) 1 m.caches ++ shown b fresh ∷ [])
      (ap (is_transit ports) (let s : 1 + length m.caches ≡ length m.caches + 1 = omega arith in s) ∙ next_seen m ports tied))

  -- the messages are as before
  pub messages_with_cache : (i j : ℕ) (x : Message) → Waits ports i j x → cache_of (with_cache m pages) x.cache.0 ≡ cache_of m x.cache.0
  messages_with_cache i j x w = numbered_push m.caches (Some (plain.temporary m.page_bytes pages)) x.cache.0 (waiting_past m ports tied i j x w)

  abbrev seen : PortMachine
  seen = ports_seen m ports

  less_room : (a : Bool) (live waiting : ℕ) → (a || nat_lt LIVE_PAGES (live + waiting + pages)) ≡ false → (a || nat_lt LIVE_PAGES (live + pages)) ≡ false
  less_room true live waiting e = e
  less_room false live waiting e = grind (arith, nat_tests)

  temp_at : (h : Segments) → (lacks_room seen pages ≡ true) ⊎ (lacks_room seen pages ≡ false) → answer_seen ports (plain.make_temp_of m pages) ≡ plain_of seen (MakeTemp pages) h
  unfolding plain_of
  temp_at h (inl e) =
      ap (answer_seen ports) (temp_refused m pages (sym (lacks_same m ports tied pages) ∙ e))
      ∙ sym (refused_where (lacks_room seen pages) TooMany seen (within seen (plain.make_temp_of seen.memory pages)) e)
  temp_at h (inr e) =
      ap (answer_seen ports) (temp_made m pages (sym (lacks_same m ports tied pages) ∙ e))
      ∙ (λ i. reply (replies.Cache (record { 0 = sym (length_seen (is_transit ports) 1 m.caches) i + 1 })) (record { memory = seen_with_cache i; ports = ports_same m (with_cache m pages) ports messages_with_cache i }))
      ∙ sym (ap (within seen) (temp_made seen.memory pages (less_room (nat_le MOST_MADE (length seen.memory.caches)) (live_pages seen.memory) _ e)))
      ∙ sym (goes_where (lacks_room seen pages) TooMany seen (within seen (plain.make_temp_of seen.memory pages)) e)

  -- The manager's answer to `temp` is that of the machine of ports.
  pub temp_lifts : (h : Segments) → answer_seen ports (plain.make_temp_of m pages) ≡ plain_of seen (MakeTemp pages) h
  temp_lifts h = temp_at h (either (lacks_room seen pages))
