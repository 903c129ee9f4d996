-- A cache is taken away.
use Rattle.std.proofs.Common.{◌≡◌, ◌≢◌, ℕ, ◌+◌, ◌-◌, ◌≤◌, true, false, List, [], length, map, set, Option, Some, None, refl, sym, ap, subst, ◌∙◌, arith, inl, inr}
use Rattle.std.specs.Prelude.{IfSome, Result, Ok, Err, option_map}
use Rattle.std.specs.List.{list_any}
use Rattle.std.proofs.lemmas.Bool.{cases_eq}
use Rattle.std.proofs.lemmas.List.{length-set, map-set}
use Rattle.std.proofs.lemmas.List.Elements.{All-nil}
use Rattle.vm_ids.specs.Held.{Held, Segments, segments_in, segments_of}
use Rattle.vm_ids.specs.declared.command.Command.{Command}
use Rattle.vm_ids.specs.declared.command.Command.TheVariants as commands
use Rattle.vm_ids.specs.declared.numbers.CacheId.{CacheId}
use Rattle.vm_ids.specs.declared.numbers.PageNo.{PageNo}
use Rattle.vm_ids.specs.declared.refusal.Refusal.TheVariants as refusals
use Rattle.vm_ids.specs.declared.reply.FaultAt.TheVariants as faults
use Rattle.vm_ids.specs.declared.reply.Reply.TheVariants as replies
use Rattle.vm_ids.specs.declared.reply.Trouble.TheVariants as troubles
use Rattle.vm_model.specs.Answering.{Answer, Answered, destroy_of, is_mapped, maps_in, refuse, reply, unless, with_some}
use Rattle.vm_model.specs.Machine as model
use Rattle.vm_model.specs.Machine.{Machine, cache_of, live_pages, numbered, pages_in, segment_of}
use Rattle.vm_model.specs.Outcome.{IsNamed, IsNotRefused, IsPageOf, PlainOutcome}
use Rattle.vm_model.specs.Synchronised.{ArePushed}
use Rattle.vm_model.proofs.Parts.Lists.{at_number, numbered_place, sum_by_less}
use Rattle.vm_model.proofs.Parts.ListParts.{numbered_set, numbered_set_other}
use Rattle.vm_port.specs.declared.traits.mapper.Mapper.{Ghosts as GhostsOfMapper}
use Rattle.contexts.specs.Actors.{Actors, machine_with}
use Rattle.gmi_calls.specs.Backing.{IsReady, eager}
use Rattle.gmi_calls.specs.Calling.{MapperCall}
use Rattle.gmi_calls.proofs.Called.{call_is, eager_call, fault_for, plain_for, ready_plain}
use Rattle.flat_mm.specs.Extents.{IsPushed}
use Rattle.flat_mm.specs.Manager.{AreKept, IsManagerSound, IsValid, Manager, caches_in, flat, machine_in, plain, sizes_in}
use Rattle.flat_mm.specs.Store.{AreWhole, Cache, IsWhole, Store}
use Rattle.flat_mm.proofs.Acting.{fits_less, whole_machine}
use Rattle.flat_mm.proofs.Calls.{flat_call}
use Rattle.contexts.proofs.Placing.{placed_actors}

-- The rows

module _ (m : Machine) (n : ℕ) where
  pub destroy_none : cache_of m n ≡ None → destroy_of m n ≡ refuse m refusals.NoCache
  unfolding destroy_of with_some
  destroy_none e = rw e refl

  pub destroy_used : (c : model.Cache) → cache_of m n ≡ Some c → is_mapped m n ≡ true → destroy_of m n ≡ refuse m refusals.InUse
  unfolding destroy_of with_some unless
  destroy_used c e used = rw (e, used) refl

  abbrev pub without : Machine
  without = record m { caches = set m.caches (n - 1) None }

  pub destroy_row : (c : model.Cache) → cache_of m n ≡ Some c → is_mapped m n ≡ false → destroy_of m n ≡ reply replies.Done without
  unfolding destroy_of with_some unless
  destroy_row c e used = rw (e, used) refl

  pub fewer_live : (c : model.Cache) → cache_of m n ≡ Some c → live_pages without ≤ live_pages m
  fewer_live c e = sum_by_less pages_in m.caches (n - 1) (Some c) None (at_number m.caches n c e) (omega arith)

-- The manager without it

abbrev pub left : Store → ℕ → List (Option Cache)
left s n = set s.caches (n - 1) None

module _ (s : Store) (n : ℕ) (c : Cache) (alive : numbered s.caches n ≡ Some c) where
  gone : numbered (left s n) n ≡ None
  gone = numbered_set s.caches n c None alive

  others : (j : ℕ) → j ≢ n → numbered (left s n) j ≡ numbered s.caches j
  others j other = numbered_set_other s.caches n j None (numbered_place s.caches n c alive).0 other

  pub left_machine : map (option_map plain) (left s n) ≡ set (caches_in s) (n - 1) None
  left_machine = map-set (option_map plain) s.caches (n - 1) None

  pub left_sound : (t : Actors) (k : ℕ) (u : Store) → IsManagerSound s t k → list_any (maps_in n) t.actors ≡ false → AreWhole u → u.loose ≡ [] → u.page_bytes ≡ s.page_bytes → u.caches ≡ left s n → IsManagerSound u t k
  left_sound t k u S unused whole settled page is = record {
    whole = whole;
    settled = settled;
    page = S.page ∙ sym page;
    made = omega (arith, S.made, ap length is, length-set s.caches (n - 1) None);
    counted = S.counted;
    placed = record {
      some = S.placed.some;
      placed = placed_actors n (sizes_in s) (sizes_in u) (λ j other. ap (option_map (λ (x : Cache). length x.pages)) (ap (λ (cs : List (Option Cache)). numbered cs j) is ∙ others j other)) t.actors unused S.placed.placed;
      aligned = S.placed.aligned;
    };
  }

  pub left_kept : (h : Segments) → AreKept h s.caches → AreKept h (left s n)
  left_kept h kept = λ number page d seg p there named at. elim (cases_eq number n) [
    | inl same ↦ absurd (let no : None ≡ Some d = sym gone ∙ ap (numbered (left s n)) (sym same) ∙ there in cc no)
    | inr other ↦ kept number page d seg p (sym (others number other) ∙ there) named at
  ]

  pub told_left : (told : Option Held) → IfSome told (λ h. AreKept (segments_in h) s.caches) → IfSome told (λ h. AreKept (segments_in h) (left s n))
  told_left None kept = tt
  told_left (Some h) kept = left_kept (segments_in h) kept

-- the store's cache, of which the machine's is told
pub plain_alive : (o : Option Cache) (x : model.Cache) → option_map plain o ≡ Some x → (c : Cache) × (o ≡ Some c)
plain_alive None x e = absurd (cc e)
plain_alive (Some c) x e = (c, refl)

-- pages that were loose are given up
pub dropped_whole : (s u : Store) → AreWhole s → u ≡ record s { free = s.free + length s.loose; loose = [] } → AreWhole u
dropped_whole s u w is = subst AreWhole (sym is) (record { caches = w.caches; loose = All-nil (IsWhole s.page_bytes) })

-- where no segment names it, nothing is to be pushed
pub none_named : (m : Machine) (h : Option Segments) (n past : ℕ) → segment_of m n ≡ None → ArePushed m h n 0 past
none_named m None n past none = tt
none_named m (Some h) n past none = λ seg page e from below. absurd (let no : None ≡ Some seg = sym none ∙ e in cc no)

-- The call

module _ {X : Type 0} (M : GhostsOfMapper X) (before after : X) (p q : Manager) (cache : CacheId) (valid : IsValid p (M.held before)) (c : model.Cache) (there : cache_of (machine_in p) cache.0 ≡ Some c) (unused : is_mapped (machine_in p) cache.0 ≡ false) where
  command : Command
  command = commands.Destroy cache

  row : PlainOutcome (machine_in p) (commands.Destroy cache) (Ok replies.Done) (without (machine_in p) cache.0)
  row h = destroy_row (machine_in p) cache.0 c there unused

  still : {T E : Type 0} (r : Result T E) → IsPushed M before p after q r → IsReady (machine_in p) (M.held after)
  still r P = subst (λ (x : Machine). IsReady x (M.held after)) P.machine P.valid.ready

  pub destroyed_call : {T E : Type 0} (r : Result T E) → IsPushed M before p after q r → ArePushed (machine_in p) (segments_of (M.held after)) cache.0 0 (pages_in (cache_of (machine_in p) cache.0))
      → (u : Store) → caches_in u ≡ set (caches_in q.store) (cache.0 - 1) None → u.frames ≡ q.store.frames → (count : ℕ) → IsManagerSound u q.actors count → IfSome (M.held after) (λ h. AreKept (segments_in h) u.caches)
      → MapperCall M flat before p (commands.Destroy cache) (Ok replies.Done) after (record { store = u; actors = q.actors })
  destroyed_call r P pushed u caches frames count sound kept =
      let new : Manager = record { store = u; actors = q.actors } in
      let m = machine_in p in
      let next = without m cache.0 in
      let is : machine_in new ≡ next = (λ i. machine_with (caches i) (frames i) q.actors) ∙ ap (λ (x : Machine). without x cache.0) P.machine in
      let whole = whole_machine u q.actors sound.page sound.whole in
      let outcome : PlainOutcome m (commands.Destroy cache) (Ok replies.Done) (machine_in new) = λ h. row h ∙ ap (reply replies.Done) (sym is) in
      let fewer : live_pages (machine_in new) ≤ live_pages m = omega (arith, ap live_pages is, fewer_live m cache.0 c there) in
      flat_call M before after p new (commands.Destroy cache) (Ok replies.Done) (fits_less p new (commands.Destroy cache) (Ok replies.Done) (λ m next. refl) fewer) kept
      (eager_call M before after m (machine_in new) (commands.Destroy cache) (Ok replies.Done) (ready_plain (M.held after) m (machine_in new) (commands.Destroy cache) (Ok replies.Done) outcome whole (still r P))
      (call_is (M.held before) (M.held after) _ _ m (machine_in new) (commands.Destroy cache) (Ok replies.Done) r P.pushed valid.ready.whole whole tt (plain_for (M.held after) m (machine_in new) (commands.Destroy cache) (Ok replies.Done) P.pushed.rises outcome) pushed)
      tt P.page)

  pub destroy_failed : {T E : Type 0} (x : E) (P : IsPushed M before p after q (let r : Result T E = Err x in r)) (page : PageNo) → ArePushed (machine_in p) (segments_of (M.held after)) cache.0 0 page.0 → IsNamed (machine_in p) cache.0 × IsPageOf (machine_in p) cache.0 page.0
      → MapperCall M flat before p (commands.Destroy cache) (Err (troubles.Mapper (faults.Page page))) after q
  destroy_failed x P page pushed at =
      let m = machine_in p in
      let a : Answer = Err (troubles.Mapper (faults.Page page)) in
      flat_call M before after p q (commands.Destroy cache) a (λ told now. tt) P.valid.kept
      (subst (λ (y : Machine). MapperCall M eager before m (commands.Destroy cache) a after y) (sym P.machine)
      (eager_call M before after m m (commands.Destroy cache) a (still (Err x) P)
      (call_is (M.held before) (M.held after) _ _ m m (commands.Destroy cache) a (Err x) P.pushed valid.ready.whole valid.ready.whole tt
      (fault_for (M.held after) m (commands.Destroy cache) (faults.Page page) P.pushed.rises P.pushed.failed (λ s. at) (λ s. subst (λ (y : Answered). IsNotRefused y.answer) (sym (row s)) tt))
      pushed) tt P.page))
