-- What becomes of the processes where one gets pages of its own.
use Rattle.std.proofs.Common.{◌≡◌, ◌≢◌, inl, inr, ℕ, zero, suc, ◌+◌, ◌-◌, ◌*◌, ◌^◌, ◌≤◌, Bool, true, false, cond, List, [], ◌∷◌, ◌++◌, length, take, drop, Option, Some, None, refl, sym, ap, subst, ◌∙◌, arith, replicate}
use Rattle.std.specs.Prelude.{◌||◌, Ok, Err, nat_le, nat_lt, slice_get}
use Rattle.std.proofs.lemmas.Bool.Decides.{nat_tests}
use Rattle.std.proofs.lemmas.List.{append-nil, length-append, length-replicate}
use Rattle.std.proofs.lemmas.List.Sums.{sum_by_push}
use Rattle.vm_ids.specs.declared.command.Command.TheVariants as vm_commands
use Rattle.vm_ids.specs.declared.refusal.Refusal.TheVariants as refusals
use Rattle.vm_ids.specs.declared.reply.Reply.TheVariants as replies
use Rattle.vm_ids.specs.declared.reply.Trouble.TheVariants as troubles
use Rattle.vm_model.specs.Machine as vm_machine
use Rattle.vm_model.specs.Run.{CallIs}
use Rattle.vm_model.specs.Run as vm_run
use Rattle.vm_model.proofs.Parts.Lists.{numbered_place, sum_by_less}
use Rattle.gmi_calls.proofs.Rising.{rise_then}
use Rattle.gmi_calls.proofs.Still.{without_mapper}
use Rattle.interface_callers.proofs.Words.{Answer, Cache, CacheId, CallDone, GhostsOfGmi, GhostsOfMapper, LIVE_PAGES, LIVING_ACTORS, Machine, MapperCall, MOST_MADE, Page, RaisesMade, Trouble, cache_of, counts_sum, live_pages, living_actors, meanings_of, numbered, segments_of}
use Rattle.interface_callers.proofs.Rows.{IsDone}
use Rattle.interface_callers.proofs.Temporary.{destroy_done}
use Rattle.interface_callers.proofs.Lists.{put_back}
use Rattle.interface_callers.proofs.Blanks.{without}
use Rattle.interface_callers.proofs.Making.{IsMade, Makes, fresh_cache, makes_at}
use Rattle.mix_process.specs.Adding.{AreKept, FillsAndMaps, HasSource, HasSpare, IsAdded, IsSourceOf, MayAdd, MayFill, Source, filled, pages_from, put_at, source_pages, usage_to_map, with_more}
use Rattle.mix_process.specs.Inner.{AreApart, AreCleared, AreOwn, spare_of}
use Rattle.mix_process.specs.Outcome.{usage_of, usage_to_grow}
use Rattle.mix_process.specs.ProcessMachine.{may_write}
use Rattle.mix_process.specs.Seen.{cache_pages, process_seen, processes_seen}
use Rattle.mix_process.specs.Tying.{AreAble, AreTied, CanCall, IsOwnCache, none_spare}
use Rattle.mix_process.specs.Use.{IsLack}
use Rattle.mix_process.specs.declared.area.Area.{Area}
use Rattle.mix_process.specs.declared.mix.Image.{Image}
use Rattle.mix_process.specs.declared.mix.Mix.{Mix}
use Rattle.mix_process.specs.declared.process.Part.{Part}
use Rattle.mix_process.specs.declared.process.Process.{Process}
use Rattle.mix_process.proofs.Calling.CallAgain.{able_after, is_call, respared, sync_after, tied_respared}
use Rattle.mix_process.proofs.Ties.Clearing.{kept_other, not_mapped}
use Rattle.mix_process.proofs.Adding.OwnDestroyed.{cleared_none, cleared_one}
use Rattle.mix_process.proofs.Adding.FilledAndMapped.{most_few, source_few}
use Rattle.mix_process.proofs.Ties.OneMorePart.{all_seen, one_same}
use Rattle.mix_process.proofs.Adding.PartMapped.{spare_only}
use Rattle.mix_process.proofs.Reading.Seeing.{pages_there}
use Rattle.mix_process.proofs.Ties.NewCache.{fresh_numbered, fresh_same, still_numbered, tied_with, used}
use Rattle.mix_process.proofs.Calling.Using.{lack_still}

-- as many caches were made, or pages are live, as may be
full_passes : (living actors caches regions live pages : ℕ) → (nat_le MOST_MADE caches || nat_lt LIVE_PAGES (live + pages)) ≡ true
    → (nat_lt LIVING_ACTORS (living + 0) || nat_lt MOST_MADE (actors + 0) || nat_lt MOST_MADE (caches + 1) || nat_lt MOST_MADE (regions + 1) || nat_lt LIVE_PAGES (live + pages)) ≡ true
full_passes living actors caches regions live pages e = grind (arith, nat_tests)

rises_for_temp : (m n : Machine) (pages : ℕ) (a : Answer) (before now : ℕ) → live_pages n ≤ live_pages m + pages → RaisesMade m (vm_commands.MakeTemp pages) a n before now → now ≤ before + (8 * pages + 8)
rises_for_temp m n pages (Ok r) before now live made = omega (arith, live, made)
rises_for_temp m n pages (Err (troubles.Refused r)) before now live made = omega (arith, made)
rises_for_temp m n pages (Err (troubles.Mapper at)) before now live made = omega (arith, live, made)
rises_for_temp m n pages (Err troubles.Memory) before now live made = omega (arith, live, made)

abbrev failed : Trouble → Answer
failed t = Err t

same_trouble : (x y : Trouble) → failed x ≡ failed y → x ≡ y
same_trouble x y e = cc e

abbrev number_in : Answer → ℕ
number_in (Ok (replies.Cache c)) = c.0
number_in a = 0

at_most : (b : Bool) (n : ℕ) → cond b n 0 ≤ n
at_most true n = omega arith
at_most false n = omega arith

module _ {Manager X Chooser : Type 0} (M : GhostsOfMapper X) (G : GhostsOfGmi Manager X Chooser) (before : X) (old : Mix Manager) (can : CanCall G old (M.held before) (M.page_bytes before)) (place : ℕ) (p : Process) (area : Area) (pages : ℕ) (source : Option Source)
    (may : MayAdd (G.machine old.gmi (M.held before)) old.processes.items place p area pages source) where
  abbrev m : Machine
  m = G.machine old.gmi (M.held before)

  abbrev table : List (Option Process)
  table = old.processes.items

  abbrev images : List Image
  images = old.images.items

  module _ (gmi : Manager) (a : Answer) (called : CallDone (meanings_of G) old.gmi (vm_commands.MakeTemp pages) a gmi) where
    abbrev held : Mix Manager
    held = record old { gmi = gmi }

    abbrev n : Machine
    n = G.machine gmi (M.held before)

    abbrev call : MapperCall M (meanings_of G) before old.gmi (vm_commands.MakeTemp pages) a before gmi
    call = without_mapper M (meanings_of G) before old.gmi can.valid (vm_commands.MakeTemp pages) a gmi called

    abbrev it : CallIs (M.counts before) (M.counts before) (vm_run.state_of G.machine G.forest old.gmi (M.held before)) (vm_commands.MakeTemp pages) a (vm_run.state_of G.machine G.forest gmi (M.held before))
    it = is_call M G old.gmi gmi before before (vm_commands.MakeTemp pages) a images (length table) (numbered table) none_spare can call

    takes : Makes (segments_of (M.held before)) m pages a n
    takes = makes_at (segments_of (M.held before)) m (G.forest old.gmi (M.held before)) pages a n it.rises it.is.outcome

    -- there is no cache to be had
    pub not_taken : (t : Trouble) → a ≡ Err t → IsAdded M G before old place p area pages source (Err t) before (record old { gmi = gmi })
    not_taken t is = elim takes [
      | inl k ↦ absurd (let wrong : Err t ≡ Ok (replies.Cache (record { 0 = length m.caches + 1 })) = sym is ∙ k.answer in cc wrong)
      | inr l ↦ record {
        can = able_after M G old.gmi gmi before before (vm_commands.MakeTemp pages) a images (length table) (numbered table) none_spare can call images (length table) (numbered table) none_spare
            (omega (arith, can.few, ap (λ (x : Machine). length x.actors) l.next)) (omega (arith, can.most, ap (λ (x : Machine). length x.actors) l.next))
            (subst (λ (x : Machine). AreTied x (numbered table) none_spare images) (sym l.next) can.tied)
            (sync_after M G old.gmi gmi before before (vm_commands.MakeTemp pages) a images (length table) (numbered table) none_spare can call
            (λ i image e. ap (λ (x : Machine). cache_pages x image.cache.0) l.next));
        adds = record {
          put = record { now = p; processes = sym (put_back table place (Some p) may.room.there); images = refl; actor = refl; parts_now = sym (append-nil p.parts.items) };
          seen = ap (λ (x : Machine). processes_seen x table images) l.next;
          lack = elim l.why [
            | inl e ↦ subst (λ (x : Trouble). IsLack (usage_of m) (usage_to_grow pages) x) (same_trouble troubles.Memory t (sym e.0 ∙ is)) tt
            | inr e ↦ subst (λ (x : Trouble). IsLack (usage_of m) (usage_to_grow pages) x) (same_trouble (troubles.Refused refusals.TooMany) t (sym e.0 ∙ is)) (full_passes (living_actors m) (length m.actors) (length m.caches) m.regions_made (live_pages m) pages e.1)
          ];
        };
        kept = λ k c e. ap (λ (x : Machine). cache_of x k) l.next ∙ e;
        used = record {
          living = omega (arith, ap living_actors l.next);
          actors = omega (arith, ap (λ (x : Machine). length x.actors) l.next);
          caches = omega (arith, ap (λ (x : Machine). length x.caches) l.next);
          regions = omega (arith, ap (λ (x : Machine). x.regions_made) l.next);
          pages = omega (arith, ap live_pages l.next);
        };
        made = omega (arith, rises_for_temp m n pages a (G.made old.gmi) (G.made gmi) (omega (arith, ap live_pages l.next)) call.made, may.room.some);
        rises = it.rises;
        rose = it.rose;
        segments = refl;
      }
    ]

    module _ (cache : CacheId) (is : a ≡ Ok (replies.Cache cache)) where
      abbrev pub part : Part
      part = record { area = area; cache = cache; pages = pages }

      abbrev spare : ℕ → Type 0
      spare = spare_of (part ∷ [])

      abbrev fresh : Cache
      fresh = fresh_cache (segments_of (M.held before)) m.page_bytes pages

      taken : IsMade (segments_of (M.held before)) m pages a n
      taken = elim takes [
        | inl k ↦ k
        | inr l ↦ absurd (elim l.why [
          | inl e ↦ (let wrong : Ok (replies.Cache cache) ≡ Err troubles.Memory = sym is ∙ e.0 in cc wrong)
          | inr e ↦ (let wrong : Ok (replies.Cache cache) ≡ Err (troubles.Refused refusals.TooMany) = sym is ∙ e.0 in cc wrong)
        ])
      ]

      number : cache.0 ≡ length m.caches + 1
      number = let both : Ok (replies.Cache cache) ≡ Ok (replies.Cache (record { 0 = length m.caches + 1 })) = sym is ∙ taken.answer in ap number_in both

      many : length fresh.pages ≡ pages
      many = length-replicate pages _

      tied : AreTied n (numbered table) spare images
      tied = subst (λ (x : Machine). AreTied x (numbered table) spare images) (sym taken.next)
          (tied_respared _ (numbered table) (λ k. k ≡ length m.caches + 1) spare images (tied_with m (numbered table) images can.tied fresh refl)
          (λ k s. (0, part, refl, may.own, number ∙ sym s))
          (λ k s. (spare_only part k s).1 ∙ number))

      kept_n : AreKept m n
      kept_n k c e = ap (λ (x : Machine). cache_of x k) taken.next ∙ still_numbered m.caches (Some fresh) k c e

      pages_kept : (k : ℕ) (c : Cache) → cache_of m k ≡ Some c → cache_pages n k ≡ cache_pages m k
      pages_kept k c e = pages_there n k c (kept_n k c e) ∙ sym (pages_there m k c e)

      another : (k : ℕ) (c : Cache) → cache_of m k ≡ Some c → k ≢ cache.0
      another k c e same = used m.caches k c e (same ∙ number)

      there_n : cache_of n cache.0 ≡ Some fresh
      there_n = ap (λ (x : Machine). cache_of x cache.0) taken.next ∙ ap (numbered (m.caches ++ Some fresh ∷ [])) number ∙ fresh_numbered m.caches (Some fresh)

      own_n : IsOwnCache n part
      own_n = record {
        cache = fresh;
        there = there_n;
        temporary = refl;
        some = may.room.some;
        many = many;
      }

      actors_same : length n.actors ≡ length m.actors
      actors_same = ap (λ (x : Machine). length x.actors) taken.next

      seen_n : processes_seen n table images ≡ processes_seen m table images
      seen_n = all_seen m n table none_spare images can.tied (ap (λ (x : Machine). x.page_bytes) taken.next) (λ k c free e. pages_kept k c e)

      has : HasSpare M G before held part
      has = record {
        able = able_after M G old.gmi gmi before before (vm_commands.MakeTemp pages) a images (length table) (numbered table) none_spare can call images (length table) (numbered table) spare
            (omega (arith, can.few, actors_same)) (omega (arith, can.most, actors_same)) tied
            (sync_after M G old.gmi gmi before before (vm_commands.MakeTemp pages) a images (length table) (numbered table) none_spare can call
            (λ i image e. (let d = can.tied.images_there i image e in pages_kept image.cache.0 d.0 d.1)));
        own = may.own;
        cache = own_n;
      }

      has_source : (s : Option Source) → HasSource m s pages → IsSourceOf n part s
      has_source None there = (tt, tt)
      has_source (Some s) there = ((there.0, kept_n s.0.0 there.0 there.1, there.2), another s.0.0 there.0 there.1)

      -- then it may be filled and mapped
      pub may_fill : MayFill M G before (record old { gmi = gmi }) place p part source
      may_fill = record { spare = has; room = may.room; source_there = has_source source may.source_there }

      live_n : live_pages n ≡ live_pages m + pages
      live_n = ap live_pages taken.next ∙ (let e = sum_by_push vm_machine.pages_in m.caches (Some fresh) in omega (arith, e, many))

      caches_n : length n.caches ≡ length m.caches + 1
      caches_n = ap (λ (x : Machine). length x.caches) taken.next ∙ length-append m.caches (Some fresh ∷ [])

      raised_n : G.made gmi ≤ G.made old.gmi + (8 * pages + 8)
      raised_n = rises_for_temp m n pages a (G.made old.gmi) (G.made gmi) (omega (arith, live_n)) call.made

      pub made_few : G.made old.gmi ≤ 2 ^ 61 + 2 ^ 30 → G.made gmi ≤ 2 ^ 61 + 2 ^ 31
      made_few few = omega (arith, few, raised_n, may.room.few, most_few area)

      source_same : (s : Option Source) → HasSource m s pages → source_pages n s ≡ source_pages m s
      source_same None there = refl
      source_same (Some s) there = ap length (pages_kept s.0.0 there.0 there.1)

      filled_is : (s : Option Source) → HasSource m s pages → filled n part s ≡ pages_from (segments_of (M.held before)) m s pages
      filled_is None there = pages_there n cache.0 fresh there_n ∙ ap (replicate pages) (fresh_same (segments_of (M.held before)) m.page_bytes)
      filled_is (Some s) there = ap (λ (xs : List Page). take pages (drop s.1.0 xs)) (pages_kept s.0.0 there.0 there.1)

      process_n : process_seen n p ≡ process_seen m p
      process_n = one_same m n table images place p may.room.there seen_n

      -- the process has the pages
      pub added : (u : Unit {0}) (after : X) (new : Mix Manager) → FillsAndMaps M G before (record old { gmi = gmi }) place p part source (Ok u) after new → IsAdded M G before old place p area pages source (Ok u) after new
      added u after new f = record {
        can = f.maps.can;
        adds = record {
          part = part;
          area_is = refl;
          pages_is = refl;
          put = record { now = f.maps.put.now; processes = f.maps.put.processes; images = f.maps.put.images; actor = f.maps.put.actor; parts_now = f.maps.put.parts_now };
          has = f.maps.has ∙ filled_is source may.source_there;
          seen = f.maps.seen ∙ (λ j. put_at (seen_n j) place (with_more area (filled_is source may.source_there j) (process_n j)));
        };
        kept = λ k c e. f.kept k c (another k c e) (kept_n k c e);
        used = record {
          living = omega (arith, f.maps.used.living, ap living_actors taken.next);
          actors = omega (arith, f.maps.used.actors, actors_same);
          caches = omega (arith, f.maps.used.caches, caches_n);
          regions = omega (arith, f.maps.used.regions, ap (λ (x : Machine). x.regions_made) taken.next);
          pages = omega (arith, f.maps.used.pages, live_n);
        };
        made = omega (arith, f.made, raised_n, source_same source may.source_there, may.room.some);
        rises = f.rises;
        rose = f.rose;
        segments = f.segments;
      }

      -- It is left as it was: its cache can be destroyed.
      module _ (t : Trouble) (now : X) (mix : Mix Manager) (f : FillsAndMaps M G before (record old { gmi = gmi }) place p part source (Err t) now mix) where
        abbrev o : Machine
        o = G.machine mix.gmi (M.held now)

        pub made_then : G.made old.gmi ≤ 2 ^ 61 + 2 ^ 30 → G.made mix.gmi ≤ 2 ^ 62
        made_then few = omega (arith, few, raised_n, f.made, source_same source may.source_there, source_few m source pages may.source_there can.live, may.room.few, most_few area)

        apart : AreApart (part ∷ [])
        apart i j x y e g own_x own_y same = first i x e ∙ sym (first j y g)
          where
            first : (i : ℕ) (x : Part) → slice_get (part ∷ []) i ≡ Some x → i ≡ 0
            first zero x e = refl
            first (suc i) x e = absurd (cc e)

        own_o : AreOwn o (part ∷ [])
        own_o zero x e own = let it : part ≡ x = cc in subst (IsOwnCache o) it f.maps.spare.cache
        own_o (suc j) x e own = absurd (cc e)

        module _ (b : Answer) (after : X) (gmi' : Manager) (destroyed : MapperCall M (meanings_of G) now mix.gmi (vm_commands.Destroy cache) b after gmi') where
          abbrev r : Machine
          r = G.machine gmi' (M.held after)

          abbrev able : AreAble G mix.gmi mix.images.items (M.held now) (M.page_bytes now) (length mix.processes.items) (numbered mix.processes.items) spare
          able = f.maps.spare.able

          abbrev own : IsOwnCache o part
          own = f.maps.spare.cache

          spared : spare cache.0
          spared = (0, part, refl, may.own, refl)

          cleared : AreCleared M G now mix (part ∷ []) [] after (record mix { gmi = gmi' })
          cleared = cleared_one M G now mix (part ∷ []) [] part now mix (cleared_none M G now mix (part ∷ []) able apart own_o) may.own b gmi' after destroyed

          done : IsDone b r (without o cache.0)
          done =
              let gone = is_call M G mix.gmi gmi' now after (vm_commands.Destroy cache) b mix.images.items (length mix.processes.items) (numbered mix.processes.items) spare able destroyed in
              destroy_done (segments_of (M.held after)) o (G.forest mix.gmi (M.held now)) cache own.cache own.there own.temporary (not_mapped o (numbered mix.processes.items) spare mix.images.items able.tied cache.0 spared) b r gone.rises gone.is.outcome

          less : live_pages (without o cache.0) ≤ live_pages o
          less = sum_by_less vm_machine.pages_in o.caches (cache.0 - 1) (Some own.cache) None (numbered_place o.caches cache.0 own.cache own.there).1 (omega arith)

          pub not_added : IsAdded M G before old place p area pages source (Err t) after (record mix { gmi = gmi' })
          not_added = record {
            can = respared (numbered mix.processes.items) (spare_of []) none_spare cleared.able (λ k s. absurd (cc s.2)) (λ k s. absurd s);
            adds = record {
              put = record { now = f.maps.put.now; processes = f.maps.put.processes; images = f.maps.put.images; actor = f.maps.put.actor; parts_now = f.maps.put.parts_now };
              seen = cleared.seen ∙ f.maps.seen ∙ seen_n;
              lack = lack_still (usage_of m) (usage_to_grow pages) (usage_of n) usage_to_map (record {
                living = omega (arith, ap living_actors taken.next);
                actors = omega (arith, actors_same);
                caches = omega (arith, caches_n);
                regions = omega (arith, ap (λ (x : Machine). x.regions_made) taken.next);
                pages = omega (arith, live_n);
              }) t f.maps.lack;
            };
            kept = λ k c e. ap (λ (x : Machine). cache_of x k) done.next ∙ kept_other o cache.0 own.cache own.there k (another k c e) ∙ f.kept k c (another k c e) (kept_n k c e);
            used = record {
              living = omega (arith, f.maps.used.living, ap living_actors taken.next, ap living_actors done.next);
              actors = omega (arith, f.maps.used.actors, actors_same, cleared.alike.actors);
              caches = omega (arith, f.maps.used.caches, caches_n, cleared.alike.caches);
              regions = omega (arith, f.maps.used.regions, ap (λ (x : Machine). x.regions_made) taken.next, cleared.alike.regions);
              pages = omega (arith, f.maps.used.pages, live_n, ap live_pages done.next, less);
            };
            made = omega (arith, f.made, raised_n, source_same source may.source_there, may.room.some, cleared.made, at_most (may_write area) pages);
            rises = counts_sum f.rises cleared.rises;
            rose = rise_then (M.counts before) (M.counts now) (M.counts after) f.rises cleared.rises f.rose cleared.rose;
            segments = cleared.segments ∙ f.segments;
          }
