-- What a map of a part comes to: its region, or nothing and a reason for it.
use Rattle.std.proofs.Common.{◌≡◌, ◌⊎◌, inl, inr, ◌==◌, ℕ, ◌+◌, ◌*◌, ◌%◌, ◌^◌, ◌≤◌, Bool, true, false, List, length, Option, Some, None, refl, sym, ap, subst, ◌∙◌, arith}
use Rattle.std.specs.Prelude.{Ok, Err, not, nat_le, nat_lt}
use Rattle.std.specs.List.{list_any}
use Rattle.std.proofs.lemmas.Bool.Decides.{nat_tests}
use Rattle.vm_ids.specs.declared.command.Command.TheVariants as vm_commands
use Rattle.vm_ids.specs.declared.refusal.Refusal.TheVariants as refusals
use Rattle.vm_ids.specs.declared.reply.Reply.TheVariants as replies
use Rattle.vm_ids.specs.declared.reply.Trouble.TheVariants as troubles
use Rattle.vm_model.specs.Answering as vm
use Rattle.interface_callers.proofs.Words.{Actor, Answer, Cache, IsAlike, Machine, MapperCounts, Mapping, MOST_MADE, Outcome, OutcomeAt, PageForest, Segments, add_region, blank, cache_of, numbered, overlaps, passes_end}
use Rattle.interface_callers.proofs.Alike.{HasShape, whole_shape}
use Rattle.interface_callers.proofs.Answers.{still_err}
use Rattle.mix_process.specs.ProcessMachine.{area_start}
use Rattle.mix_process.specs.Seen.{mapping_behind, pages_in}
use Rattle.mix_process.specs.Tying.{IsPart, IsRun}
use Rattle.mix_process.specs.declared.area.Area.{Area}
use Rattle.mix_process.specs.declared.area.Area.TheVariants.{Data, Stack, Text}
use Rattle.mix_process.specs.declared.process.Part.{Part}
use Rattle.mix_process.specs.declared.process.Process.{Process}
use Rattle.mix_process.specs.Adding.{most_of}
use Rattle.mix_process.proofs.Ties.PartMapping.{none_overlaps}
use Rattle.mix_process.proofs.Ties.Alike.{part_like, run_like}

-- It is mapped.
pub record IsRegionMade (m : Machine) (actor : ℕ) (regions : Actor) (mapping : Mapping) (answer : Answer) (next : Machine) : Type 0 where
  pub answer_is : answer ≡ Ok (replies.Region (record { 0 = m.regions_made + 1 }))
  pub next_is : next ≡ add_region m actor regions mapping

-- All stays, for want of memory or since as many regions were made as may be.
pub record IsUnmade (m : Machine) (answer : Answer) (next : Machine) : Type 0 where
  pub next_is : next ≡ m
  pub why : (answer ≡ Err troubles.Memory) ⊎ ((answer ≡ Err (troubles.Refused refusals.TooMany)) × (nat_le MOST_MADE m.regions_made ≡ true))

abbrev pub Maps : Machine → ℕ → Actor → Mapping → Answer → Machine → Type 0
Maps m actor regions mapping answer next = IsRegionMade m actor regions mapping answer next ⊎ IsUnmade m answer next

-- The addresses of a part

aligned : (a : Area) (k : ℕ) → ((area_start a + 4096 * k) % 4096 == 0) ≡ true
aligned Text k = let e : (0x40_0000 + 4096 * k) % 4096 ≡ 0 = omega arith in grind (arith, nat_tests)
aligned Data k = let e : (0x1000_0000 + 4096 * k) % 4096 ≡ 0 = omega arith in grind (arith, nat_tests)
aligned Stack k = let e : (0x4000_0000 + 4096 * k) % 4096 ≡ 0 = omega arith in grind (arith, nat_tests)

low : (a : Area) (k pages : ℕ) → k + pages ≤ most_of a → area_start a + 4096 * k + 4096 * pages ≤ 0x8000_0000
low Text k pages few = omega (arith, few)
low Data k pages few = omega (arith, few)
low Stack k pages few = omega (arith, few)

not_past : (x : ℕ) → x ≤ 0x8000_0000 → nat_lt (2 ^ 48) x ≡ false
not_past x h = grind (arith, nat_tests)

enough_by : (m : Machine) (a : Area) (p : Part) → IsPart m a p → (c : Cache) × (cache_of m p.cache.0 ≡ Some c) × (p.pages ≤ length c.pages)
enough_by m Text p h = (h.cache, h.there, h.many)
enough_by m Data p h = (h.cache, h.there, omega (arith, h.many))
enough_by m Stack p h = (h.cache, h.there, omega (arith, h.many))

inside : (n pages : ℕ) → pages ≤ n → nat_lt n (0 + pages) ≡ false
inside n pages h = grind (arith, nat_tests)

-- The row

module _ (m : Machine) (page : m.page_bytes ≡ 4096) (p : Process) (run : IsRun m p) (part : Part) (is_part : IsPart m part.area part) (few : pages_in part.area p.parts.items + part.pages ≤ most_of part.area) where
  abbrev mapping : Mapping
  mapping = mapping_behind p.parts.items part

  abbrev ending : vm.Answered
  ending = vm.unless (nat_le MOST_MADE m.regions_made) refusals.TooMany m (vm.reply (replies.Region (record { 0 = m.regions_made + 1 })) (add_region m p.actor.0 run.regions mapping))

  abbrev overlapping : Bool → vm.Answered
  overlapping b = vm.unless b refusals.Overlap m ending

  abbrev passing : Bool → Bool → vm.Answered
  passing b c = vm.unless b refusals.OutOfCache m (overlapping c)

  abbrev high : Bool → Bool → Bool → vm.Answered
  high a b c = vm.unless a refusals.BadAddress m (passing b c)

  abbrev crooked : Bool → Bool → Bool → Bool → vm.Answered
  crooked z a b c = vm.unless (not z) refusals.Unaligned m (high a b c)

  straight : crooked true false false false ≡ ending
  unfolding vm.unless
  straight = refl

  map_row : vm.map_of m p.actor.0 mapping ≡ ending
  unfolding vm.map_of vm.with_some
  map_row =
      let c = enough_by m part.area part is_part in
      let address : ℕ = area_start part.area + 4096 * pages_in part.area p.parts.items in
      let apart : list_any (overlaps m.page_bytes address part.pages) run.regions ≡ false = ap (λ (b : ℕ). list_any (overlaps b address part.pages) run.regions) page ∙ none_overlaps p.parts.items run.regions run.mapped run.small part few in
      let even : (address % m.page_bytes == 0) ≡ true = ap (λ (b : ℕ). address % b == 0) page ∙ aligned part.area (pages_in part.area p.parts.items) in
      let below : nat_lt (2 ^ 48) (address + m.page_bytes * part.pages) ≡ false = ap (λ (b : ℕ). nat_lt (2 ^ 48) (address + b * part.pages)) page ∙ not_past (address + 4096 * part.pages) (low part.area (pages_in part.area p.parts.items) part.pages few) in
      let within : passes_end c.0 0 part.pages ≡ false = inside (length c.0.pages) part.pages c.2 in
      (λ i. vm.with_some (run.there i) refusals.NoActor m (λ regions. vm.with_some (cache_of m part.cache.0) refusals.NoCache m (λ cache.
      vm.unless (not (address % m.page_bytes == 0)) refusals.Unaligned m (vm.unless (nat_lt (2 ^ 48) (address + m.page_bytes * part.pages)) refusals.BadAddress m
      (vm.unless (passes_end cache 0 part.pages) refusals.OutOfCache m (vm.unless (list_any (overlaps m.page_bytes address part.pages) regions) refusals.Overlap m
      (vm.unless (nat_le MOST_MADE m.regions_made) refusals.TooMany m (vm.reply (replies.Region (record { 0 = m.regions_made + 1 })) (add_region m p.actor.0 regions mapping)))))))))
      ∙ (λ i. vm.with_some (c.1 i) refusals.NoCache m (λ cache.
      vm.unless (not (address % m.page_bytes == 0)) refusals.Unaligned m (vm.unless (nat_lt (2 ^ 48) (address + m.page_bytes * part.pages)) refusals.BadAddress m
      (vm.unless (passes_end cache 0 part.pages) refusals.OutOfCache m (overlapping (list_any (overlaps m.page_bytes address part.pages) run.regions))))))
      ∙ (λ i. crooked (even i) (below i) (within i) (apart i))
      ∙ straight

  by_room : (a : Answer) (next : Machine) (full : Bool) → nat_le MOST_MADE m.regions_made ≡ full → vm.unless full refusals.TooMany m (vm.reply (replies.Region (record { 0 = m.regions_made + 1 })) (add_region m p.actor.0 run.regions mapping)) ≡ record { answer = a; next = next } → Maps m p.actor.0 run.regions mapping a next
  unfolding vm.unless
  by_room a next true full e = inr (record { next_is = sym (ap (λ (x : vm.Answered). x.next) e); why = inr (sym (ap (λ (x : vm.Answered). x.answer) e), full) })
  by_room a next false full e = inl (record { answer_is = sym (ap (λ (x : vm.Answered). x.answer) e); next_is = sym (ap (λ (x : vm.Answered). x.next) e) })

  pub mapped : (f : Option PageForest) (h : Segments) (a : Answer) (next : Machine) (rises : MapperCounts) → Outcome m f (vm_commands.Map p.actor mapping) h a next rises → Maps m p.actor.0 run.regions mapping a next
  mapped f h (Ok r) next rises o = by_room (Ok r) next (nat_le MOST_MADE m.regions_made) refl (sym map_row ∙ o)
  mapped f h (Err (troubles.Refused r)) next rises o = by_room (Err (troubles.Refused r)) next (nat_le MOST_MADE m.regions_made) refl (sym map_row ∙ o)
  mapped f h (Err (troubles.Mapper at)) next rises o = absurd o.2
  mapped f h (Err troubles.Memory) next rises o = inr (record { next_is = o.0; why = inl refl })

-- Where the segments are told and where they aren't

made_alike : (number : ℕ) (b : Answer) → IsAlike (Ok (replies.Region (record { 0 = number }))) b → b ≡ Ok (replies.Region (record { 0 = number }))
made_alike number b h = sym h

regions_whole : (m w : Machine) → m ≡ blank w → w.regions_made ≡ m.regions_made
regions_whole m w is = sym (ap (λ (x : Machine). x.regions_made) is)

mapped_blank : (m w next wn : Machine) (actor : ℕ) (regions : Actor) (at : Mapping) (a b : Answer) → m ≡ blank w → next ≡ blank wn → IsAlike a b → Maps w actor regions at a wn → Maps m actor regions at b next
mapped_blank m w next wn actor regions at a b is is_next alike (inl r) = inl (record {
  answer_is = made_alike (w.regions_made + 1) b (subst (λ (x : Answer). IsAlike x b) r.answer_is alike) ∙ ap (λ (n : ℕ). let x : Answer = Ok (replies.Region (record { 0 = n + 1 })) in x) (regions_whole m w is);
  next_is = is_next ∙ ap blank r.next_is ∙ ap (λ (x : Machine). add_region x actor regions at) (sym is);
})
mapped_blank m w next wn actor regions at a b is is_next alike (inr u) = inr (record {
  next_is = is_next ∙ ap blank u.next_is ∙ sym is;
  why = elim u.why [
    | inl e ↦ inl (still_err troubles.Memory a b e alike)
    | inr e ↦ inr (still_err (troubles.Refused refusals.TooMany) a b e.0 alike, ap (nat_le MOST_MADE) (sym (regions_whole m w is)) ∙ e.1)
  ];
})

-- what a map of a part comes to
pub mapped_at : (told : Option Segments) (m : Machine) (page : m.page_bytes ≡ 4096) (p : Process) (run : IsRun m p) (part : Part) (is_part : IsPart m part.area part) (few : pages_in part.area p.parts.items + part.pages ≤ most_of part.area)
    (f : Option PageForest) (a : Answer) (next : Machine) (rises : MapperCounts) → OutcomeAt told m f (vm_commands.Map p.actor (mapping_behind p.parts.items part)) a next rises → Maps m p.actor.0 run.regions (mapping_behind p.parts.items part) a next
mapped_at (Some h) m page p run part is_part few f a next rises o = mapped m page p run part is_part few f h a next rises o
mapped_at None m page p run part is_part few f a next rises o =
    let w : Machine = o.whole in
    let shape : HasShape m w = whole_shape m w o.is in
    let run_w : IsRun w p = run_like m w shape p run in
    let regions : run_w.regions ≡ run.regions = (let both : Some run_w.regions ≡ Some run.regions = sym run_w.there ∙ ap (λ (actors : List (Option Actor)). numbered actors p.actor.0) shape.actors ∙ run.there in cc both) in
    mapped_blank m w next o.whole_next p.actor.0 run.regions (mapping_behind p.parts.items part) o.whole_answer a o.is o.is_next o.alike
    (subst (λ (rs : Actor). Maps w p.actor.0 rs (mapping_behind p.parts.items part) o.whole_answer o.whole_next) regions
    (mapped w (shape.page ∙ page) p run_w part (part_like m w shape part.area part is_part) few f o.segments o.whole_answer o.whole_next rises o.outcome))
