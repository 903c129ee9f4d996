-- What it comes to that caches which are kept are destroyed, the least recently used first.
use Rattle.std.specs.Prelude.{◌≡◌, ◌≤◌, ◌<◌, ◌⊎◌, [], ◌∷◌, ℕ, ◌+◌, ◌*◌, List, Bool, false, drop, length, take, option_map, Option, Result, Ok, Err}
use Rattle.std.specs.List.{AllByRecursion}
use Rattle.vm_ids.specs.Counting.{MapperCounts, Rise}
use Rattle.vm_ids.specs.Held.{Segments, segments_of}
use Rattle.vm_ids.specs.declared.reply.FaultAt.{FaultAt}
use Rattle.vm_ids.specs.declared.reply.Trouble.{Trouble}
use Rattle.vm_ids.specs.declared.command.Command.{Command}
use Rattle.vm_ids.specs.declared.command.Command.TheVariants.{Destroy}
use Rattle.vm_ids.specs.declared.numbers.CacheId.{CacheId}
use Rattle.vm_ids.specs.declared.refusal.Refusal.TheVariants.{TooMany}
use Rattle.vm_ids.specs.declared.reply.Reply.TheVariants.{Cache}
use Rattle.vm_ids.specs.declared.reply.Trouble.TheVariants as troubles
use Rattle.vm_ids.specs.declared.reply.Trouble.TheVariants.{Refused}
use Rattle.vm_model.specs.Answering.{Answer}
use Rattle.vm_model.specs.Outcome.{OutcomeAt}
use Rattle.gmi_calls.specs.Calling.{MapperCall}
use Rattle.gmi_calls.specs.Managing.{meanings_of}
use Rattle.vm_model.specs.Machine.{Machine, live_pages}
use Rattle.vm_model.specs.Pushing.{PushRule}
use Rattle.vm_model.specs.declared.limits.TheConstants.{LIVE_PAGES}
use Rattle.vm_port.specs.declared.traits.mapper.Mapper.{Ghosts as GhostsOfMapper}
use Rattle.gmi_calls.specs.declared.gmi.Gmi.{Ghosts as GhostsOfGmi}
use Rattle.seg_manager.specs.Calling.{HasNoRoomWithout}
use Rattle.seg_manager.specs.Keeping.{AreLast, without}
use Rattle.seg_manager.specs.ReferenceMachine.{ReferenceMachine}
use Rattle.seg_manager.specs.Seen.{kept_segments, references_seen}
use Rattle.seg_manager.specs.Tying.{CanCall}
use Rattle.seg_manager.specs.declared.manager.SegManager.{SegManager}
use Rattle.seg_manager.specs.declared.tables.Kept.{Kept}
use Rattle.seg_manager.specs.declared.tables.Named.{Named}

module _ {Manager Mapper Chooser : Type 0} (M : GhostsOfMapper Mapper)
    (G : GhostsOfGmi Manager Mapper Chooser) where
  -- the machine below
  abbrev pub machine_at : SegManager Manager → Mapper → Machine
  machine_at manager mapper = G.machine manager.gmi (M.held mapper)

  -- what is seen of it
  abbrev pub seen_with : SegManager Manager → Mapper → ReferenceMachine
  seen_with manager mapper =
      references_seen (machine_at manager mapper) (segments_of (M.held mapper)) manager.caches.items

  abbrev pub denied_by : Mapper → Option (List (ℕ × ℕ))
  denied_by mapper = option_map (λ (h : Segments). h.denied) (segments_of (M.held mapper))

  -- the number that bounds the counters of the manager below, and by how much the caches that are
  -- kept may raise it as they go
  abbrev pub credit : SegManager Manager → Mapper → ℕ
  credit manager mapper =
      G.made manager.gmi + 8 * live_pages (machine_at manager mapper)
      + 8 * length manager.kept.items

  -- What was pushed meanwhile: pages of the machine below, as it was before.
  pub record Pushes (before : Mapper) (old : SegManager Manager) (after : Mapper)
      (rises : MapperCounts) : Type 0 where
    pub pushes : List (ℕ × ℕ)
    pub few : length pushes ≤ rises.pushes
    pub rule : PushRule (machine_at old before) (segments_of (M.held before)) pushes
        (segments_of (M.held after))

  -- Some of the least recently used were destroyed. What is seen is as before.
  pub record Thins (before : Mapper) (old : SegManager Manager) (after : Mapper)
      (new : SegManager Manager) : Type 0 where
    pub can : CanCall G new (M.held after) (M.page_bytes after)
    pub seen : seen_with new after ≡ seen_with old before
    pub denied : denied_by after ≡ denied_by before
    pub limit : new.limit ≡ old.limit
    pub regions : new.regions ≡ old.regions
    pub gone : ℕ
    pub gone_few : gone ≤ length old.kept.items
    pub kept : new.kept.items ≡ drop gone old.kept.items
    pub machine : machine_at new after
        ≡ without (take gone (kept_segments old.kept.items)) (machine_at old before)
    pub among : (test : Named → Bool) → AllByRecursion (λ c. test c ≡ false) old.caches.items
        → AllByRecursion (λ c. test c ≡ false) new.caches.items
    pub few : length new.caches.items ≤ length old.caches.items
    pub spare : old.caches.spare ≤ new.caches.spare
    pub fits : new.kept.room ≡ old.kept.room
    pub credit : credit new after ≤ credit old before
    pub rises : MapperCounts
    pub rose : Rise (M.counts before) (M.counts after) rises
    pub pushed : Pushes before old after rises

  -- The least recently used couldn't be destroyed: that call of the manager below failed at this
  -- fault, and all is as before.
  pub record Fails (before : Mapper) (old : SegManager Manager) (trouble : Trouble)
      (after : Mapper) (new : SegManager Manager) : Type 0 where
    pub can : CanCall G new (M.held after) (M.page_bytes after)
    pub seen : seen_with new after ≡ seen_with old before
    pub denied : denied_by after ≡ denied_by before
    pub same : new ≡ record old { gmi = new.gmi }
    pub caches : length (machine_at new after).caches ≡ length (machine_at old before).caches
    pub made : G.made new.gmi ≤ G.made old.gmi + 32 * LIVE_PAGES + 8
    pub rises : MapperCounts
    pub rose : Rise (M.counts before) (M.counts after) rises
    pub pushed : Pushes before old after rises
    pub failed : 0 < rises.faults
    pub first : Kept
    pub rest : List Kept
    pub kept : old.kept.items ≡ first ∷ rest
    pub at : FaultAt
    pub is : trouble ≡ troubles.Mapper at
    pub fault : OutcomeAt (segments_of (M.held after)) (machine_at old before)
        (G.forest old.gmi (M.held before)) (Destroy first.cache) (Err (troubles.Mapper at))
        (machine_at new after) rises
    pub call : MapperCall M (meanings_of G) before old.gmi (Destroy first.cache)
        (Err (troubles.Mapper at)) after new.gmi

  -- The least recently used was destroyed, or couldn't be.
  abbrev pub IsDestroyed : Mapper → SegManager Manager → Result (Unit {0}) Trouble → Mapper
      → SegManager Manager → Type 0
  IsDestroyed before old (Ok u) after new =
      Thins before old after new × (new.kept.items ≡ drop 1 old.kept.items)
  IsDestroyed before old (Err trouble) after new = Fails before old trouble after new

  -- Of the caches that are kept the last ones stay, as many as may be; or more, where the mapper
  -- failed. What is seen is as before.
  pub record Trims (before : Mapper) (old : SegManager Manager) (after : Mapper)
      (new : SegManager Manager) : Type 0 where
    pub can : CanCall G new (M.held after) (M.page_bytes after)
    pub seen : seen_with new after ≡ seen_with old before
    pub denied : denied_by after ≡ denied_by before
    pub limit : new.limit ≡ old.limit
    pub regions : new.regions ≡ old.regions
    pub kept : AreLast old.limit (M.counts before).faults (M.counts after).faults
        (kept_segments old.kept.items) (kept_segments new.kept.items)
    pub made : G.made new.gmi ≤ credit old before + 32 * LIVE_PAGES + 8
    pub rises : MapperCounts
    pub rose : Rise (M.counts before) (M.counts after) rises
    pub pushed : Pushes before old after rises

  -- What there is before each try: some of the least recently used were destroyed, or none; each
  -- where the manager below had no room, as it was at first but for those before it.
  pub record Trying (c : Command) (before : Mapper) (old : SegManager Manager) (now : Mapper)
      (new : SegManager Manager) : Type 0 where
    pub thins : Thins before old now new
    pub cause : (i : ℕ) → i < thins.gone
        → HasNoRoomWithout G old.gmi (M.held before) c (take i (kept_segments old.kept.items))

  -- The manager below was asked once some of the least recently used caches were destroyed, and
  -- answered so.
  pub record Tries (c : Command) (before : Mapper) (old : SegManager Manager) (answer : Answer)
      (after : Mapper) (new : SegManager Manager) : Type 0 where
    pub middle : Mapper
    pub by : SegManager Manager
    pub trying : Trying c before old middle by
    pub call : MapperCall M (meanings_of G) middle by.gmi c answer after new.gmi
    pub same : new ≡ record by { gmi = new.gmi }

  -- It had no room, and the next cache couldn't be destroyed.
  pub record TriesInVain (c : Command) (before : Mapper) (old : SegManager Manager)
      (trouble : Trouble) (after : Mapper) (new : SegManager Manager) : Type 0 where
    pub middle : Mapper
    pub by : SegManager Manager
    pub tries : Tries c before old (Err (Refused TooMany)) middle by
    pub fails : Fails middle by trouble after new

  -- What a command that makes a cache comes to. It is refused as too many only where no cache is
  -- kept any more.
  abbrev pub IsTried : Command → Mapper → SegManager Manager → Result CacheId Trouble → Mapper
      → SegManager Manager → Type 0
  IsTried c before old (Ok cache) after new = Tries c before old (Ok (Cache cache)) after new
  IsTried c before old (Err trouble) after new =
      (Tries c before old (Err trouble) after new
      × (trouble ≡ Refused TooMany → new.kept.items ≡ []))
      ⊎ TriesInVain c before old trouble after new

  -- A cache was destroyed where the manager below had no room for another.
  pub record MakesRoom (trouble : Trouble) (before : Mapper) (old : SegManager Manager)
      (after : Mapper) (new : SegManager Manager) : Type 0 where
    pub wanted : trouble ≡ Refused TooMany
    pub thins : Thins before old after new
    pub one : new.kept.items ≡ drop 1 old.kept.items
    pub less : length new.kept.items < length old.kept.items

  -- There is no room to make, or it couldn't be made.
  pub record MakesNoRoom (trouble : Trouble) (before : Mapper) (old : SegManager Manager)
      (answer : Trouble) (after : Mapper) (new : SegManager Manager) : Type 0 where
    pub mapper : after ≡ before
    pub same : new ≡ old
    pub is : answer ≡ trouble
    pub none : trouble ≡ Refused TooMany → old.kept.items ≡ []

  pub record CannotMakeRoom (trouble : Trouble) (before : Mapper) (old : SegManager Manager)
      (answer : Trouble) (after : Mapper) (new : SegManager Manager) : Type 0 where
    pub wanted : trouble ≡ Refused TooMany
    pub fails : Fails before old answer after new

  abbrev pub IsRoomMade : Trouble → Mapper → SegManager Manager → Result (Unit {0}) Trouble
      → Mapper → SegManager Manager → Type 0
  IsRoomMade trouble before old (Ok u) after new = MakesRoom trouble before old after new
  IsRoomMade trouble before old (Err answer) after new =
      MakesNoRoom trouble before old answer after new
      ⊎ CannotMakeRoom trouble before old answer after new
