-- What becomes of the processes where a part is filled and mapped.
use Rattle.std.proofs.Common.{◌≡◌, ℕ, ◌+◌, ◌-◌, ◌^◌, ◌≤◌, true, List, length, set, Option, Some, None, refl, sym, ap, subst, ◌∙◌, arith}
use Rattle.std.specs.Prelude.{Ok, Err, Result, IsErrAnd}
use Rattle.std.proofs.lemmas.List.{append-nil, take_all}
use Rattle.vm_model.specs.Machine as vm_machine
use Rattle.vm_model.proofs.Parts.Lists.{numbered_place, sum_by_part}
use Rattle.interface_callers.proofs.Words.{Cache, GhostsOfGmi, GhostsOfMapper, LIVE_PAGES, Machine, Trouble, cache_of, live_pages}
use Rattle.interface_callers.proofs.Lists.{put_back}
use Rattle.mix_process.specs.Adding.{FillsAndMaps, HasRoom, HasSource, IsFilled, MapsPart, MayFill, MayMap, Source, filled, most_of, put_at, source_pages, usage_to_map, with_more}
use Rattle.mix_process.specs.Outcome.{usage_of}
use Rattle.mix_process.specs.ProcessMachine.{may_write}
use Rattle.mix_process.specs.Seen.{cache_pages, part_seen, process_seen, processes_seen}
use Rattle.mix_process.specs.Tying.{IsOwnCache, IsPart}
use Rattle.mix_process.specs.Use.{IsLack, IsWithin}
use Rattle.mix_process.specs.declared.area.Area.{Area}
use Rattle.mix_process.specs.declared.area.Area.TheVariants.{Data, Stack, Text}
use Rattle.mix_process.specs.declared.mix.Mix.{Mix}
use Rattle.mix_process.specs.declared.process.Part.{Part}
use Rattle.mix_process.specs.declared.process.Process.{Process}
use Rattle.mix_process.proofs.Ties.OneMorePart.{one_same}
use Rattle.mix_process.proofs.Reading.Seeing.{pages_there}
use Rattle.mix_process.proofs.Calling.Using.{lack_still}

-- Numbers

pub most_few : (a : Area) → most_of a ≤ 65536
most_few Text = omega arith
most_few Data = omega arith
most_few Stack = omega arith

-- a cache has no more pages than there are
pub cache_few : (m : Machine) (k : ℕ) (c : Cache) → cache_of m k ≡ Some c → live_pages m ≤ LIVE_PAGES → length (cache_pages m k) ≤ LIVE_PAGES
cache_few m k c there live = omega (arith, live, ap length (pages_there m k c there), sum_by_part vm_machine.pages_in m.caches (k - 1) (Some c) (numbered_place m.caches k c there).1)

pub source_few : (m : Machine) (source : Option Source) (pages : ℕ) → HasSource m source pages → live_pages m ≤ LIVE_PAGES → source_pages m source ≤ LIVE_PAGES
source_few m None pages there live = omega arith
source_few m (Some s) pages there live = cache_few m s.0.0 there.0 there.1 live

pub own_part : (m : Machine) (a : Area) (p : Part) → may_write a ≡ true → IsOwnCache m p → IsPart m a p
own_part m Text p own h = absurd (cc own)
own_part m Data p own h = h
own_part m Stack p own h = h

module _ {Manager X Chooser : Type 0} (M : GhostsOfMapper X) (G : GhostsOfGmi Manager X Chooser) (before : X) (old : Mix Manager) (place : ℕ) (p : Process) (part : Part) (source : Option Source) (may : MayFill M G before old place p part source) where
  abbrev m : Machine
  m = G.machine old.gmi (M.held before)

  -- the cache couldn't be filled
  pub unfilled : (t : Trouble) (after : X) (new : Mix Manager) → IsFilled M G before old part source (Err t) after new → FillsAndMaps M G before old place p part source (Err t) after new
  unfilled t after new f = record {
    maps = record {
      spare = f.has;
      put = record {
        now = p;
        processes = ap (λ (x : Mix Manager). x.processes.items) f.same ∙ sym (put_back old.processes.items place (Some p) may.room.there);
        images = ap (λ (x : Mix Manager). x.images) f.same;
        actor = refl;
        parts_now = sym (append-nil p.parts.items);
      };
      seen = ap (λ (x : Mix Manager). processes_seen (G.machine new.gmi (M.held after)) x.processes.items x.images.items) f.same ∙ f.seen;
      used = f.used;
      lack = subst (λ (x : Trouble). IsLack (usage_of m) usage_to_map x) (sym f.lack) tt;
    };
    kept = f.kept;
    made = omega (arith, f.made);
    rises = f.rises;
    rose = f.rose;
    segments = f.segments;
  }

  module _ (u : Unit {0}) (after : X) (between : Mix Manager) (f : IsFilled M G before old part source (Ok u) after between) where
    abbrev between_is : Machine
    between_is = G.machine between.gmi (M.held after)

    table_same : between.processes.items ≡ old.processes.items
    table_same = ap (λ (x : Mix Manager). x.processes.items) f.same

    images_same : between.images ≡ old.images
    images_same = ap (λ (x : Mix Manager). x.images) f.same

    -- then it may be mapped
    pub may_map : MayMap G (M.held after) (M.page_bytes after) between place p part
    may_map = record {
      able = f.has.able;
      room = subst (λ (xs : List (Option Process)). HasRoom xs place p part.area part.pages) (sym table_same) may.room;
      is_part = own_part between_is part.area part f.has.own f.has.cache;
    }

    pub made_few : G.made old.gmi ≤ 2 ^ 61 + 2 ^ 31 → G.made between.gmi ≤ 2 ^ 62
    made_few few = omega (arith, few, f.made, may.room.few, most_few part.area, source_few m source part.pages may.source_there.0 may.spare.able.live)

    seen_before : processes_seen between_is between.processes.items between.images.items ≡ processes_seen m old.processes.items old.images.items
    seen_before = ap (λ (x : Mix Manager). processes_seen between_is x.processes.items x.images.items) f.same ∙ f.seen

    process_before : process_seen between_is p ≡ process_seen m p
    process_before = one_same m between_is old.processes.items old.images.items place p may.room.there f.seen

    pages_before : length (cache_pages between_is part.cache.0) ≡ part.pages
    pages_before = ap length (pages_there between_is part.cache.0 f.has.cache.cache f.has.cache.there) ∙ f.has.cache.many

    part_before : part_seen between_is part ≡ filled m part source
    part_before = take_all part.pages (cache_pages between_is part.cache.0) (omega (arith, pages_before)) ∙ f.pages

    pub fitted : (result : Result (Unit {0}) Trouble) (new : Mix Manager) → MapsPart G (M.held after) (M.page_bytes after) between place p part result new → FillsAndMaps M G before old place p part source result after new
    fitted (Ok v) new i = record {
      maps = record {
        can = i.can;
        put = record {
          now = i.put.now;
          processes = i.put.processes ∙ ap (λ (xs : List (Option Process)). set xs place (Some i.put.now)) table_same;
          images = i.put.images ∙ images_same;
          actor = i.put.actor;
          parts_now = i.put.parts_now;
        };
        has = pages_there (G.machine new.gmi (M.held after)) part.cache.0 f.has.cache.cache (i.kept part.cache.0 f.has.cache.cache f.has.cache.there)
            ∙ sym (pages_there between_is part.cache.0 f.has.cache.cache f.has.cache.there)
            ∙ f.pages;
        seen = i.seen ∙ (λ j. put_at (seen_before j) place (with_more part.area (part_before j) (process_before j)));
        used = record {
          living = omega (arith, i.used.living, f.used.living);
          actors = omega (arith, i.used.actors, f.used.actors);
          caches = omega (arith, i.used.caches, f.used.caches);
          regions = omega (arith, i.used.regions, f.used.regions);
          pages = omega (arith, i.used.pages, f.used.pages);
        };
      };
      kept = λ k c other e. i.kept k c (f.kept k c other e);
      made = omega (arith, i.made, f.made, pages_before);
      rises = f.rises;
      rose = f.rose;
      segments = f.segments;
    }
    fitted (Err t) new i = record {
      maps = record {
        spare = record {
          able = i.able;
          own = f.has.own;
          cache = subst (λ (x : Machine). IsOwnCache x part) (sym i.machine) f.has.cache;
        };
        put = record {
          now = i.put.now;
          processes = i.put.processes ∙ ap (λ (xs : List (Option Process)). set xs place (Some i.put.now)) table_same;
          images = i.put.images ∙ images_same;
          actor = i.put.actor;
          parts_now = i.put.parts_now;
        };
        seen = i.seen ∙ seen_before;
        used = subst (λ (x : Machine). IsWithin (usage_of x) (usage_of m)) (sym i.machine) f.used;
        lack = lack_still (usage_of m) usage_to_map (usage_of between_is) usage_to_map (record {
          living = omega (arith, f.used.living);
          actors = omega (arith, f.used.actors);
          caches = omega (arith, f.used.caches);
          regions = omega (arith, f.used.regions);
          pages = omega (arith, f.used.pages);
        }) t i.lack;
      };
      kept = λ k c other e. ap (λ (x : Machine). cache_of x k) i.machine ∙ f.kept k c other e;
      made = omega (arith, i.made, f.made, pages_before);
      rises = f.rises;
      rose = f.rose;
      segments = f.segments;
    }

-- an error that is handed on
pub handed_on : (P : Result (Unit {0}) Trouble → Type 0) (result : Result (Unit {0}) Trouble) (t : Trouble) → IsErrAnd result (λ e. e ≡ t) → P (Err t) → P result
handed_on P (Ok u) t h p = absurd h
handed_on P (Err e) t h p = subst (λ (x : Trouble). P (Err x)) (sym h) p
