-- The processes can go on calling the manager after a call of it.
use Rattle.std.proofs.Common.{◌≡◌, ◌≢◌, inl, inr, ℕ, ◌-◌, ◌≤◌, true, List, length, set, Option, Some, None, refl, sym, ap, ◌∙◌}
use Rattle.std.specs.Prelude.{slice_get}
use Rattle.std.proofs.lemmas.Bool.{cases_eq}
use Rattle.std.proofs.lemmas.Option.{slice_get_within}
use Rattle.vm_model.specs.Run.{CallIs}
use Rattle.vm_model.specs.Run as vm_run
use Rattle.vm_model.proofs.Outcomes.Kept.{IsKept}
use Rattle.vm_model.proofs.Parts.Lists.{get_set_same, numbered_place}
use Rattle.vm_model.proofs.Parts.ListParts.{numbered_set_other}
use Rattle.gmi_calls.proofs.Living.{stays_few}
use Rattle.interface_callers.proofs.Words.{Answer, Cache, Command, GhostsOfGmi, GhostsOfMapper, Held, Machine, MapperCall, MOST_MADE, Page, actor_of, cache_of, meanings_of, segments_of}
use Rattle.interface_callers.proofs.Lists.{all_at, number_at}
use Rattle.interface_callers.proofs.Calls as calls
use Rattle.mix_process.specs.Inner.{AreApart, AreOwn, spare_of}
use Rattle.mix_process.specs.ProcessMachine.{may_write}
use Rattle.mix_process.specs.Seen.{cache_pages}
use Rattle.mix_process.specs.Tying.{AreAble, AreSynchronised, AreTied, IsOwnCache, IsPart, IsRun, Owns, none_spare}
use Rattle.mix_process.specs.declared.mix.Image.{Image}
use Rattle.mix_process.specs.declared.process.Part.{Part}
use Rattle.mix_process.specs.declared.process.Process.{Process}
use Rattle.mix_process.proofs.Ties.Clearing.{run_kept}
use Rattle.mix_process.proofs.Ties.Pushes.{segments_stay, still_synchronised}
use Rattle.mix_process.proofs.Reading.Storing.{own_cache}

pub sync_alike : (m n : Machine) (images : List Image) (told : Option Held) → ((i : ℕ) (image : Image) → slice_get images i ≡ Some image → cache_pages n image.cache.0 ≡ cache_pages m image.cache.0) → AreSynchronised m images told → AreSynchronised n images told
sync_alike m n images None alike sync = tt
sync_alike m n images (Some h) alike sync = λ i image e. sync i image e ∙ ap (λ (pages : List Page). Some pages) (sym (alike i image e))

module _ {Manager X Chooser : Type 0} (M : GhostsOfMapper X) (G : GhostsOfGmi Manager X Chooser) (old gmi : Manager) (before after : X) (c : Command) (a : Answer) (images : List Image) (made : ℕ)
    (processes : ℕ → Option Process) (spare : ℕ → Type 0) (can : AreAble G old images (M.held before) (M.page_bytes before) made processes spare) (call : MapperCall M (meanings_of G) before old c a after gmi) where
  abbrev pub is_call : CallIs (M.counts before) (M.counts after) (vm_run.state_of G.machine G.forest old (M.held before)) c a (vm_run.state_of G.machine G.forest gmi (M.held after))
  is_call = calls.call_is M G old gmi before after c a can.unlimited call

  pub keeps_sizes : IsKept (G.machine old (M.held before)) c a (G.machine gmi (M.held after))
  keeps_sizes = calls.keeps M G old gmi before after c a can.unlimited call

  -- the images are as the segments hold them
  pub sync_after : ((i : ℕ) (image : Image) → slice_get images i ≡ Some image → cache_pages (G.machine gmi (M.held after)) image.cache.0 ≡ cache_pages (G.machine old (M.held before)) image.cache.0)
      → AreSynchronised (G.machine gmi (M.held after)) images (M.held after)
  sync_after alike = sync_alike (G.machine old (M.held before)) (G.machine gmi (M.held after)) images (M.held after) alike (still_synchronised (G.machine old (M.held before)) processes spare images can.tied (M.held before) (M.held after) is_call.pushes is_call.is.pushed can.synchronised)

  -- no segment changes
  pub segments_after : segments_of (M.held after) ≡ segments_of (M.held before)
  segments_after = segments_stay (G.machine old (M.held before)) processes spare images can.tied (M.held before) (segments_of (M.held after)) is_call.pushes is_call.is.pushed can.synchronised

  pub able_after : (images' : List Image) (made' : ℕ) (processes' : ℕ → Option Process) (spare' : ℕ → Type 0) → made' ≤ length (G.machine gmi (M.held after)).actors → length (G.machine gmi (M.held after)).actors ≤ MOST_MADE
      → AreTied (G.machine gmi (M.held after)) processes' spare' images' → AreSynchronised (G.machine gmi (M.held after)) images' (M.held after)
      → AreAble G gmi images' (M.held after) (M.page_bytes after) made' processes' spare'
  able_after images' made' processes' spare' few most tied sync = record {
    valid = call.valid;
    unlimited = calls.unlimited_after M G old gmi before after c a can.unlimited call;
    fits = calls.fits_after M G old gmi before after c a can.unlimited call can.fits;
    live = keeps_sizes.live can.live;
    living = stays_few (segments_of (M.held after)) (G.machine old (M.held before)) (G.machine gmi (M.held after)) (G.forest old (M.held before)) c a is_call.rises is_call.is.outcome can.living;
    few = few;
    most = most;
    tied = tied;
    synchronised = sync;
    blank = calls.blank_then M G old gmi before after c a can.unlimited call;
  }

-- The same processes under other numbers
pub record AreRenamed (processes others : ℕ → Option Process) : Type 0 where
  pub to : ℕ → ℕ
  pub is : (n : ℕ) (p : Process) → others n ≡ Some p → processes (to n) ≡ Some p
  pub apart : (n k : ℕ) (p q : Process) → others n ≡ Some p → others k ≡ Some q → to n ≡ to k → n ≡ k
  pub back : (n : ℕ) (p : Process) → processes n ≡ Some p → (k : ℕ) × (others k ≡ Some p) × (to k ≡ n)

module _ (processes others : ℕ → Option Process) (r : AreRenamed processes others) where
  owned_as : (n i cache : ℕ) → Owns others n i cache → Owns processes (r.to n) i cache
  owned_as n i cache o = record { process = o.process; part = o.part; there = r.is n o.process o.there; has = o.has; own = o.own; is = o.is }

  pub tied_renamed : (m : Machine) (spare : ℕ → Type 0) (images : List Image) → AreTied m processes spare images → AreTied m others spare images
  tied_renamed m spare images t = record {
    page = t.page;
    run = λ n p e. t.run (r.to n) p (r.is n p e);
    actors_apart = λ n k p q e f same. r.apart n k p q e f (t.actors_apart (r.to n) (r.to k) p q (r.is n p e) (r.is k q f) same);
    caches_apart = λ n k i j cache o x. (let both = t.caches_apart (r.to n) (r.to k) i j cache (owned_as n i cache o) (owned_as k j cache x) in (r.apart n k o.process x.process o.there x.there both.0, both.1));
    spares = t.spares;
    spares_free = λ n i cache s o. t.spares_free (r.to n) i cache s (owned_as n i cache o);
    no_more_actors = λ actor regions e. (let f = t.no_more_actors actor regions e in let g = r.back f.0 f.1 f.2 in (g.0, f.1, g.1, f.3));
    no_more_caches = λ cache c e temporary. elim (t.no_more_caches cache c e temporary) [
      | inl s ↦ inl s
      | inr f ↦ (let g = r.back f.0 f.2.process f.2.there in inr (g.0, f.1, record { process = f.2.process; part = f.2.part; there = g.1; has = f.2.has; own = f.2.own; is = f.2.is }))
    ];
    images_there = t.images_there;
    images_apart = t.images_apart;
    no_more_images = t.no_more_images;
  }

-- An actor ends

abbrev pub ended : Machine → ℕ → Machine
ended m actor = record m { actors = set m.actors (actor - 1) None }

some_none : {A : Type 0} (o : Option A) (x : A) → o ≡ Some x → o ≡ None → ⊥
some_none o x e f = let wrong : Some x ≡ None = sym e ∙ f in absurd (cc wrong)

module _ (m : Machine) (processes others : ℕ → Option Process) (images : List Image) (t : AreTied m processes none_spare images) (n0 : ℕ) (p : Process) (alive : processes n0 ≡ Some p)
    (same : (n : ℕ) → n ≢ n0 → others n ≡ processes n) (gone : others n0 ≡ None) where
  run : IsRun m p
  run = t.run n0 p alive

  another : (n : ℕ) (q : Process) → others n ≡ Some q → n ≢ n0
  another n q e is = some_none (others n0) q (ap others (sym is) ∙ e) gone

  was : (n : ℕ) (q : Process) → others n ≡ Some q → processes n ≡ Some q
  was n q e = sym (same n (another n q e)) ∙ e

  was_owned : (n i cache : ℕ) → Owns others n i cache → Owns processes n i cache
  was_owned n i cache o = record { process = o.process; part = o.part; there = was n o.process o.there; has = o.has; own = o.own; is = o.is }

  at : (1 ≤ p.actor.0) × (slice_get m.actors (p.actor.0 - 1) ≡ Some (Some run.regions))
  at = numbered_place m.actors p.actor.0 run.regions run.there

  actor_gone : actor_of (ended m p.actor.0) p.actor.0 ≡ None
  actor_gone = number_at (set m.actors (p.actor.0 - 1) None) p.actor.0 None at.0 (get_set_same m.actors (p.actor.0 - 1) None (slice_get_within m.actors (p.actor.0 - 1) (Some run.regions) at.1))

  actor_kept : (k : ℕ) → k ≢ p.actor.0 → actor_of (ended m p.actor.0) k ≡ actor_of m k
  actor_kept k other = numbered_set_other m.actors p.actor.0 k None at.0 other

  owner : (j : ℕ) (part : Part) (cache : ℕ) → slice_get p.parts.items j ≡ Some part → may_write part.area ≡ true → part.cache.0 ≡ cache → Owns processes n0 j cache
  owner j part cache found own is = record { process = p; part = part; there = alive; has = found; own = own; is = is }

  pub own_caches : AreOwn m p.parts.items
  own_caches j part found own = own_cache m part.area part own (all_at (λ (part : Part). IsPart m part.area part) p.parts.items j part run.parts found)

  pub parts_apart : AreApart p.parts.items
  parts_apart i j a b e f own_a own_b cache = (t.caches_apart n0 n0 i j a.cache.0 (owner i a a.cache.0 e own_a refl) (owner j b a.cache.0 f own_b (sym cache))).1

  of_spare : (cache : ℕ) → spare_of p.parts.items cache → (c : Cache) × (cache_of m cache ≡ Some c) × (c.segment ≡ None)
  of_spare cache s = let own : IsOwnCache m s.1 = own_caches s.0 s.1 s.2 s.3 in (own.cache, ap (cache_of m) (sym s.4) ∙ own.there, own.temporary)

  pub tied_ended : AreTied (ended m p.actor.0) others (spare_of p.parts.items) images
  tied_ended = record {
    page = t.page;
    run = λ n q e. run_kept m (ended m p.actor.0) q (actor_kept q.actor.0 (λ f. another n q e (t.actors_apart n n0 q p (was n q e) alive f))) (λ j part f. refl) (t.run n q (was n q e));
    actors_apart = λ n k q r e f. t.actors_apart n k q r (was n q e) (was k r f);
    caches_apart = λ n k i j cache o x. t.caches_apart n k i j cache (was_owned n i cache o) (was_owned k j cache x);
    spares = of_spare;
    spares_free = λ n i cache s o. another n o.process o.there (t.caches_apart n n0 i s.0 cache (was_owned n i cache o) (owner s.0 s.1 cache s.2 s.3 s.4)).0;
    no_more_actors = λ actor regions e. (let other : actor ≢ p.actor.0 = λ f. some_none (actor_of (ended m p.actor.0) p.actor.0) regions (ap (actor_of (ended m p.actor.0)) (sym f) ∙ e) actor_gone in
        let g = t.no_more_actors actor regions (sym (actor_kept actor other) ∙ e) in
        (g.0, g.1, same g.0 (λ q. other (sym g.3 ∙ (let who : Some g.1 ≡ Some p = sym g.2 ∙ ap processes q ∙ alive in ap (λ (x : Process). x.actor.0) (let it : g.1 ≡ p = cc in it)))) ∙ g.2, g.3));
    no_more_caches = λ cache c e temporary. elim (t.no_more_caches cache c e temporary) [
      | inl s ↦ absurd s
      | inr f ↦ elim (cases_eq f.0 n0) [
        | inl is ↦ (let who : Some f.2.process ≡ Some p = sym f.2.there ∙ ap processes is ∙ alive in let it : f.2.process ≡ p = cc in
            inl (f.1, f.2.part, ap (λ (x : Process). slice_get x.parts.items f.1) (sym it) ∙ f.2.has, f.2.own, f.2.is))
        | inr other ↦ inr (f.0, f.1, record { process = f.2.process; part = f.2.part; there = same f.0 other ∙ f.2.there; has = f.2.has; own = f.2.own; is = f.2.is })
      ]
    ];
    images_there = t.images_there;
    images_apart = t.images_apart;
    no_more_images = t.no_more_images;
  }

-- The same caches are spare, in other words

pub tied_respared : (m : Machine) (processes : ℕ → Option Process) (spare others : ℕ → Type 0) (images : List Image) → AreTied m processes spare images → ((k : ℕ) → spare k → others k) → ((k : ℕ) → others k → spare k) → AreTied m processes others images
tied_respared m processes spare others images t to from = record {
  page = t.page;
  run = t.run;
  actors_apart = t.actors_apart;
  caches_apart = t.caches_apart;
  spares = λ k s. t.spares k (from k s);
  spares_free = λ n i k s o. t.spares_free n i k (from k s) o;
  no_more_actors = t.no_more_actors;
  no_more_caches = λ k c e temporary. elim (t.no_more_caches k c e temporary) [ inl s ↦ inl (to k s) | inr o ↦ inr o ];
  images_there = t.images_there;
  images_apart = t.images_apart;
  no_more_images = t.no_more_images;
}

pub respared : {Manager X Chooser : Type 0} {G : GhostsOfGmi Manager X Chooser} {gmi : Manager} {images : List Image} {told : Option Held} {page : Option ℕ} {made : ℕ} (processes : ℕ → Option Process) (spare others : ℕ → Type 0)
    → AreAble G gmi images told page made processes spare → ((k : ℕ) → spare k → others k) → ((k : ℕ) → others k → spare k) → AreAble G gmi images told page made processes others
respared {Manager} {X} {Chooser} {G} {gmi} {images} {told} {page} {made} processes spare others can to from = record {
  valid = can.valid;
  unlimited = can.unlimited;
  fits = can.fits;
  live = can.live;
  living = can.living;
  few = can.few;
  most = can.most;
  tied = tied_respared (G.machine gmi told) processes spare others images can.tied to from;
  synchronised = can.synchronised;
  blank = can.blank;
}
