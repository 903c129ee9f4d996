-- What each row reads of the segments, and which caches it leaves to their segments.
use Rattle.std.proofs.Common.{◌≡◌, ◌⊎◌, inl, inr, ℕ, ◌-◌, Bool, true, false, List, [], ◌∷◌, ◌++◌, set, Option, Some, None, refl, sym, ap, ◌∙◌}
use Rattle.std.specs.Prelude.{is_some, Result, Ok, OnErr, option_and_then}
use Rattle.std.specs.FinMap.{get}
use Rattle.std.specs.Option.{option_map_or}
use Rattle.std.proofs.lemmas.Bool.{cases_eq}
use Rattle.vm_ids.specs.Held.{Segments}
use Rattle.vm_ids.specs.declared.command.Command.{Command}
use Rattle.vm_ids.specs.declared.command.Command.TheVariants as commands
use Rattle.vm_ids.specs.declared.command.Span.{Span}
use Rattle.vm_ids.specs.declared.refusal.Refusal.{Refusal}
use Rattle.vm_ids.specs.declared.refusal.Refusal.TheVariants as refusals
use Rattle.vm_ids.specs.declared.reply.Reply.{Reply}
use Rattle.vm_model.specs.Machine.{Cache, Machine, Page, cache_named, cache_of, numbered, segment_of}
use Rattle.vm_model.specs.PageForest.{PageForest}
use Rattle.vm_model.specs.Answering.{Answer, Answered, answer_of, chain_answer, copy_of, destroy_of, exit_actor_of, find_of, flush_of, invalidate_of, load_of, lock_of, make_actor_of, make_temp_of, map_of, move_of, open_of, protect_of, put_cache, put_span, refuse, reply, split_of, status_of, store_of, sync_of, unless, unlock_of, unmap_of, with_ok, with_some}
use Rattle.vm_model.proofs.Parts.Lists.{numbered-set, numbered_place}
use Rattle.vm_model.proofs.Parts.ListParts.{numbered_set_other}
use Rattle.vm_model.proofs.Parts.Naming.{segment_cache}
use Rattle.vm_model.proofs.Machines.Sound.{numbered-push}
use Rattle.vm_model.proofs.Outcomes.Rows.{each_ok, each_some, each_unless}
use Rattle.flat_mm.specs.TwoManagers.{asks_manager}

-- What is read of the segments

-- the same is denied, and what no live cache names is the same
pub record SameElsewhere (m : Machine) (h g : Segments) : Type 0 where
  pub denied : g.denied ≡ h.denied
  pub others : (seg : ℕ) → is_some (cache_named m.caches seg) ≡ false → get g.pages seg ≡ get h.pages seg

module _ (m : Machine) (h g : Segments) (S : SameElsewhere m h g) where
  in_use : (seg : ℕ) (held : Option (List Page)) → is_some (cache_named m.caches seg) ≡ true → open_of m seg held ≡ refuse m refusals.SegmentInUse
  unfolding open_of
  in_use seg held used = each_unless (λ a. a ≡ refuse m refusals.SegmentInUse) (is_some (cache_named m.caches seg)) _ m _ refl (λ free. absurd (cc (used, free)))

  same_open : (seg : ℕ) → open_of m seg (get g.pages seg) ≡ open_of m seg (get h.pages seg)
  same_open seg = by (is_some (cache_named m.caches seg)) refl
    where
      by : (b : Bool) → is_some (cache_named m.caches seg) ≡ b → open_of m seg (get g.pages seg) ≡ open_of m seg (get h.pages seg)
      by true used = in_use seg (get g.pages seg) used ∙ sym (in_use seg (get h.pages seg) used)
      by false free = ap (open_of m seg) (S.others seg free)

  same_copy : (s : Span) → copy_of m s g ≡ copy_of m s h
  unfolding copy_of
  same_copy s = ap (λ (d : List (ℕ × ℕ)). copy_of m s (record { pages = h.pages; denied = d })) S.denied

  same_move : (s : Span) → move_of m s g ≡ move_of m s h
  unfolding move_of
  same_move s = ap (λ (d : List (ℕ × ℕ)). move_of m s (record { pages = h.pages; denied = d })) S.denied

  same_store : (actor address : ℕ) (bytes : List ℕ) → store_of m actor address bytes g ≡ store_of m actor address bytes h
  unfolding store_of
  same_store actor address bytes = ap (λ (d : List (ℕ × ℕ)). store_of m actor address bytes (record { pages = h.pages; denied = d })) S.denied

  -- The machine's answer is the same by either segments, and by whatever forests.
  pub same_row : (f k : PageForest) (command : Command) → asks_manager (Ok command) ≡ false → answer_of m k command g ≡ answer_of m f command h
  same_row f k (commands.OpenSegment seg) plain = same_open seg.0
  same_row f k (commands.Copy span) plain = same_copy span
  same_row f k (commands.Move span) plain = same_move span
  same_row f k (commands.Store actor address piece) plain = same_store actor.0 address piece
  same_row f k (commands.Invalidate extent) plain = absurd (cc plain)
  same_row f k (commands.Chain cache page) plain = absurd (cc plain)
  same_row f k commands.Stat plain = absurd (cc plain)
  same_row f k command plain = refl

-- Which caches stay with their segments

-- the command took this cache away
abbrev pub TakesAway : Command → Answer → ℕ → Type 0
TakesAway (commands.Destroy cache) (Ok r) number = number ≡ cache.0
TakesAway command answer number = ⊥

-- A cache that a segment names is still there, or was taken away; frames stay as many; where the
-- command is refused all stays.
pub record RowIs (m : Machine) (command : Command) (a : Answered) : Type 0 where
  pub named : (number seg : ℕ) → segment_of m number ≡ Some seg
      → (segment_of a.next number ≡ Some seg) ⊎ TakesAway command a.answer number
  pub frames : a.next.frames ≡ m.frames
  pub refused : OnErr a.answer (a.next ≡ m)

module _ (m : Machine) where
  -- refused, and carried out
  no_row : (command : Command) (r : Refusal) → RowIs m command (refuse m r)
  no_row command r = record { named = λ n seg e. inl e; frames = refl; refused = refl }

  row : (command : Command) (r : Reply) (next : Machine) → next.frames ≡ m.frames → ((number seg : ℕ) → segment_of m number ≡ Some seg → segment_of next number ≡ Some seg) → RowIs m command (reply r next)
  row command r next frames named = record { named = λ n seg e. inl (named n seg e); frames = frames; refused = tt }

  -- a cache is changed, but not its segment
  put_stays : (n : ℕ) (c d : Cache) → cache_of m n ≡ Some c → d.segment ≡ c.segment → (number seg : ℕ) → segment_of m number ≡ Some seg → segment_of (put_cache m n d) number ≡ Some seg
  put_stays n c d there kept number seg e =
      let x = segment_cache m number seg e in
      elim (numbered-set m.caches n number c d x.0 there x.1) [
        | inl same ↦ ap (option_and_then (λ (c : Cache). c.segment)) same ∙ x.2
        | inr new ↦ ap (option_and_then (λ (c : Cache). c.segment)) new.1 ∙ kept ∙ ap (λ (c : Cache). c.segment) (sym new.0) ∙ x.2
      ]

  -- the same where it may not be there
  changed_stays : (n : ℕ) (change : Cache → Cache) → ((c : Cache) → (change c).segment ≡ c.segment) → (number seg : ℕ) → segment_of m number ≡ Some seg → (o : Option Cache) → cache_of m n ≡ o → segment_of (option_map_or (λ c. put_cache m n (change c)) o m) number ≡ Some seg
  changed_stays n change kept number seg e None there = e
  changed_stays n change kept number seg e (Some c) there = put_stays n c (change c) there (kept c) number seg e

  changed_frames : (n : ℕ) (change : Cache → Cache) (o : Option Cache) → (option_map_or (λ c. put_cache m n (change c)) o m).frames ≡ m.frames
  changed_frames n change None = refl
  changed_frames n change (Some c) = refl

  -- a cache is added
  more_stays : (c : Cache) (number seg : ℕ) → segment_of m number ≡ Some seg → segment_of (record m { caches = m.caches ++ Some c ∷ [] }) number ≡ Some seg
  more_stays c number seg e =
      let x = segment_cache m number seg e in
      ap (option_and_then (λ (c : Cache). c.segment)) (numbered-push m.caches (Some c) number x.0 x.1) ∙ x.2

  -- a cache goes
  gone_stays : (n : ℕ) (c : Cache) → cache_of m n ≡ Some c → (number seg : ℕ) → segment_of m number ≡ Some seg → (segment_of (record m { caches = set m.caches (n - 1) None }) number ≡ Some seg) ⊎ (number ≡ n)
  gone_stays n c there number seg e = elim (cases_eq number n) [
    | inl same ↦ inr same
    | inr other ↦ inl (ap (option_and_then (λ (c : Cache). c.segment)) (numbered_set_other m.caches n number None (numbered_place m.caches n c there).0 other) ∙ e)
  ]

module _ (m : Machine) where
  -- each refusal of a row
  unless_row : {command : Command} {bad : Bool} (r : Refusal) {go : Answered} → (bad ≡ false → RowIs m command go) → RowIs m command (unless bad r m go)
  unless_row {command} {bad} r {go} goes = each_unless (RowIs m command) bad r m go (no_row m command r) goes

  some_row : {A : Type 0} {command : Command} {o : Option A} (r : Refusal) {go : A → Answered} → ((x : A) → o ≡ Some x → RowIs m command (go x)) → RowIs m command (with_some o r m go)
  some_row {A} {command} {o} r {go} goes = each_some (RowIs m command) o r m go (no_row m command r) goes

  ok_row : {A : Type 0} {command : Command} {o : Result A Refusal} {go : A → Answered} → ((x : A) → o ≡ Ok x → RowIs m command (go x)) → RowIs m command (with_ok o m go)
  ok_row {A} {command} {o} {go} goes = each_ok (RowIs m command) o m go (no_row m command) goes

  -- the caches stay
  still : {command : Command} {r : Reply} {next : Machine} → next.caches ≡ m.caches → next.frames ≡ m.frames → RowIs m command (reply r next)
  still {command} {r} {next} same frames = row m command r next frames (λ n seg e. ap (λ (cs : List (Option Cache)). option_and_then (λ (c : Cache). c.segment) (numbered cs n)) same ∙ e)

  -- Every row, whatever the segments hold.
  pub each_row : (f : PageForest) (command : Command) (h : Segments) → RowIs m command (answer_of m f command h)
  unfolding make_actor_of exit_actor_of make_temp_of open_of destroy_of copy_of move_of map_of split_of protect_of lock_of unlock_of unmap_of status_of find_of load_of store_of sync_of flush_of invalidate_of chain_answer
  each_row f commands.MakeActor h = unless_row _ (λ fewer. still refl refl)
  each_row f (commands.ExitActor actor) h = some_row _ (λ regions here. still refl refl)
  each_row f (commands.MakeTemp pages) h = unless_row _ (λ fewer. row m _ _ _ refl (more_stays m _))
  each_row f (commands.OpenSegment seg) h = unless_row _ (λ free. unless_row _ (λ fewer. some_row _ (λ pages holds. unless_row _ (λ room. row m _ _ _ refl (more_stays m _)))))
  each_row f (commands.Destroy cache) h = some_row _ (λ c there. unless_row _ (λ free. record { named = gone_stays m cache.0 c there; frames = refl; refused = tt }))
  each_row f (commands.Copy span) h =
      some_row _ (λ source from. some_row _ (λ destination to. unless_row _ (λ inside. unless_row _ (λ apart. unless_row _ (λ unlocked. unless_row _ (λ allowed.
      row m _ _ _ refl (put_stays m span.to.0 destination _ to refl)))))))
  each_row f (commands.Move span) h =
      some_row _ (λ source from. some_row _ (λ destination to. unless_row _ (λ inside. unless_row _ (λ temporary. unless_row _ (λ apart. unless_row _ (λ unlocked. unless_row _ (λ allowed.
      let next = put_span m span source destination in
      row m _ _ _ (changed_frames next span.from.0 _ (cache_of next span.from.0)) (λ n seg e. changed_stays next span.from.0 _ (λ c. refl) n seg (put_stays m span.to.0 destination _ to refl n seg e) (cache_of next span.from.0) refl))))))))
  each_row f (commands.Map actor mapping) h =
      some_row _ (λ regions here. some_row _ (λ cache there. unless_row _ (λ aligned. unless_row _ (λ below. unless_row _ (λ inside. unless_row _ (λ apart. unless_row _ (λ fewer. still refl refl)))))))
  each_row f (commands.Split region pages) h = some_row _ (λ r there. unless_row _ (λ inside. unless_row _ (λ fewer. still refl refl)))
  each_row f (commands.Protect region prot) h = some_row _ (λ r there. still refl refl)
  each_row f (commands.Lock region) h = some_row _ (λ r there. unless_row _ (λ unlocked. unless_row _ (λ few. still refl refl)))
  each_row f (commands.Unlock region) h = some_row _ (λ r there. unless_row _ (λ locked. still refl refl))
  each_row f (commands.Unmap region) h = some_row _ (λ r there. unless_row _ (λ unlocked. still refl refl))
  each_row f (commands.Status region) h = some_row _ (λ status there. still refl refl)
  each_row f (commands.Find actor address) h = some_row _ (λ regions here. some_row _ (λ r there. still refl refl))
  each_row f (commands.Load actor address length) h = ok_row (λ at found. still refl refl)
  each_row f (commands.Store actor address piece) h =
      ok_row (λ at found. unless_row _ (λ writes. unless_row _ (λ allowed.
      row m _ _ _ (changed_frames m at.region.cache _ (cache_of m at.region.cache)) (λ n seg e. changed_stays m at.region.cache _ (λ c. refl) n seg e (cache_of m at.region.cache) refl))))
  each_row f (commands.Sync extent) h = some_row _ (λ c there. some_row _ (λ seg named. unless_row _ (λ inside. still refl refl)))
  each_row f (commands.Flush extent) h = some_row _ (λ c there. some_row _ (λ seg named. unless_row _ (λ inside. unless_row _ (λ unlocked. still refl refl))))
  each_row f (commands.Invalidate extent) h =
      some_row _ (λ c there. some_row _ (λ seg named. unless_row _ (λ inside. unless_row _ (λ unlocked. row m _ _ _ refl (put_stays m extent.cache.0 c _ there refl)))))
  each_row f (commands.PageOut count) h = still refl refl
  each_row f (commands.Chain cache page) h = some_row _ (λ c there. unless_row _ (λ within. still refl refl))
  each_row f commands.Stat h = still refl refl
