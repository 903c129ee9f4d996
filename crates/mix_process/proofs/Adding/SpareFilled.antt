-- What becomes of the processes where a spare cache is filled.
use Rattle.std.proofs.Common.{◌≡◌, ◌≢◌, inl, inr, ℕ, ◌+◌, ◌-◌, ◌*◌, ◌≤◌, List, [], ◌∷◌, length, take, drop, Option, Some, None, refl, sym, ap, subst, ◌∙◌, arith}
use Rattle.std.specs.Prelude.{Ok, Err, Result, IfErr, OnOk, count_by, is_some}
use Rattle.std.specs.Option.{option_map_or}
use Rattle.std.proofs.lemmas.List.{length-drop, length-set, length-take-le}
use Rattle.vm_ids.specs.declared.command.Command.TheVariants as vm_commands
use Rattle.vm_ids.specs.declared.reply.Reply.TheVariants as replies
use Rattle.vm_ids.specs.declared.reply.Trouble.TheVariants as troubles
use Rattle.vm_model.specs.Machine as vm_machine
use Rattle.vm_model.specs.Run.{CallIs}
use Rattle.vm_model.specs.Run as vm_run
use Rattle.vm_model.proofs.Parts.Lists.{numbered_place, sum_by_same}
use Rattle.gmi_calls.proofs.Rising.{rise_none}
use Rattle.interface_callers.proofs.Words.{Actor, Answer, Cache, GhostsOfGmi, GhostsOfMapper, Machine, MapperCall, Page, RaisesMade, Span, Trouble, cache_of, done_by, live_pages, meanings_of, no_counts, numbered, put_pages, put_span, segments_of}
use Rattle.interface_callers.proofs.Lists.{overwritten}
use Rattle.interface_callers.proofs.Alike.{HasShape, IsLike, shape_put, shape_self}
use Rattle.interface_callers.proofs.Copies.{Copies, MayCopy, copied_at, copies_there}
use Rattle.mix_process.specs.Adding.{HasSpare, IsFilled, IsSourceOf, Source, filled}
use Rattle.mix_process.specs.Inner.{spare_of}
use Rattle.mix_process.specs.Outcome.{Usage, usage_of}
use Rattle.mix_process.specs.Seen.{cache_pages}
use Rattle.mix_process.specs.Tying.{IsOwnCache}
use Rattle.mix_process.specs.Use.{IsWithin}
use Rattle.mix_process.specs.declared.mix.Mix.{Mix}
use Rattle.mix_process.specs.declared.process.Part.{Part}
use Rattle.mix_process.proofs.Calling.CallAgain.{able_after, is_call, segments_after, sync_after}
use Rattle.mix_process.proofs.Ties.Clearing.{image_kept}
use Rattle.mix_process.proofs.Adding.NeverLocked.{never_locked}
use Rattle.mix_process.proofs.Ties.OneMorePart.{all_seen}
use Rattle.mix_process.proofs.Adding.PartMapped.{pages_of_cache}
use Rattle.mix_process.proofs.Reading.PagePut.{became, stayed}
use Rattle.mix_process.proofs.Reading.Seeing.{pages_there}
use Rattle.mix_process.proofs.Ties.Alike.{tied_like}

pub within_same : (u : Usage) → IsWithin u u
within_same u = record { living = omega arith; actors = omega arith; caches = omega arith; regions = omega arith; pages = omega arith }

-- What a result says of its call

done_ok : {P : Type 0} (result : Result (Unit {0}) Trouble) → P → OnOk result P
done_ok (Ok u) p = p
done_ok (Err t) p = tt

done_no_lack : (result : Result (Unit {0}) Trouble) → done_by result ≡ Ok replies.Done → IfErr result (λ t. t ≡ troubles.Memory)
done_no_lack (Ok u) e = tt
done_no_lack (Err t) e = absurd (cc e)

lacks_not_ok : (P : Type 0) (result : Result (Unit {0}) Trouble) → done_by result ≡ Err troubles.Memory → OnOk result P
lacks_not_ok P (Ok u) e = absurd (cc e)
lacks_not_ok P (Err t) e = tt

lacks_memory : (result : Result (Unit {0}) Trouble) → done_by result ≡ Err troubles.Memory → IfErr result (λ t. t ≡ troubles.Memory)
lacks_memory (Ok u) e = tt
lacks_memory (Err t) e = cc e

rises_for_copy : (m n : Machine) (s : Span) (a : Answer) (before now : ℕ) → live_pages n ≡ live_pages m → RaisesMade m (vm_commands.Copy s) a n before now
    → now ≤ before + (8 * (s.pages + length (cache_pages m s.from.0) + length (cache_pages m s.to.0)) + 8)
rises_for_copy m n s (Ok r) before now live made = omega (arith, live, made, pages_of_cache (cache_of m s.from.0), pages_of_cache (cache_of m s.to.0))
rises_for_copy m n s (Err (troubles.Refused r)) before now live made = omega (arith, made)
rises_for_copy m n s (Err (troubles.Mapper at)) before now live made = omega (arith, live, made, pages_of_cache (cache_of m s.from.0), pages_of_cache (cache_of m s.to.0))
rises_for_copy m n s (Err troubles.Memory) before now live made = omega (arith, live, made, pages_of_cache (cache_of m s.from.0), pages_of_cache (cache_of m s.to.0))

-- The machine is as it was but for the bytes of the part's cache.
record Keeps (m n : Machine) (part : Part) : Type 0 where
  pub shape : HasShape m n
  pub others : (k : ℕ) → k ≢ part.cache.0 → cache_of n k ≡ cache_of m k
  pub caches : length n.caches ≡ length m.caches
  pub regions : n.regions_made ≡ m.regions_made
  pub live : live_pages n ≡ live_pages m
  pub own : IsOwnCache n part

abbrev pages_in_cache : Option Cache → List Page
pages_in_cache o = option_map_or (λ (c : Cache). c.pages) o []

module _ {Manager X Chooser : Type 0} (M : GhostsOfMapper X) (G : GhostsOfGmi Manager X Chooser) (before : X) (old : Mix Manager) (part : Part) (has : HasSpare M G before old part) where
  abbrev m : Machine
  m = G.machine old.gmi (M.held before)

  abbrev spare : ℕ → Type 0
  spare = spare_of (part ∷ [])

  pub fill_none : IsFilled M G before old part None (Ok tt) before old
  fill_none = record {
    has = has;
    same = refl;
    pages = refl;
    kept = λ k c other e. e;
    seen = refl;
    used = within_same (usage_of m);
    lack = tt;
    made = omega arith;
    rises = no_counts;
    rose = rise_none (M.counts before);
    segments = refl;
  }

  module _ (source : Source) (there : IsSourceOf m part (Some source)) where
    abbrev pub span : Span
    span = record { from = source.0; from_page = source.1; to = part.cache; to_page = record { 0 = 0 }; pages = part.pages }

    module _ (after : X) (gmi : Manager) (result : Result (Unit {0}) Trouble) (call : MapperCall M (meanings_of G) before old.gmi (vm_commands.Copy span) (done_by result) after gmi) where
      abbrev n : Machine
      n = G.machine gmi (M.held after)

      abbrev c : Cache
      c = there.0.0

      abbrev d : Cache
      d = has.cache.cache

      abbrev pages : List Page
      pages = take part.pages (drop source.1.0 c.pages)

      abbrev new_cache : Cache
      new_cache = put_pages 0 pages d

      abbrev it : CallIs (M.counts before) (M.counts after) (vm_run.state_of G.machine G.forest old.gmi (M.held before)) (vm_commands.Copy span) (done_by result) (vm_run.state_of G.machine G.forest gmi (M.held after))
      it = is_call M G old.gmi gmi before after (vm_commands.Copy span) (done_by result) old.images.items (length old.processes.items) (numbered old.processes.items) spare has.able call

      may : MayCopy m span d
      may = record {
        to = has.cache.there;
        temporary = has.cache.temporary;
        fits = omega (arith, has.cache.many);
        apart = there.1;
        unlocked = λ page. never_locked m (numbered old.processes.items) spare old.images.items has.able.tied part.cache.0 page;
      }

      copies : Copies m span c d (done_by result) n
      copies = copies_there m span c d there.0.1 there.0.2 (done_by result) n (copied_at (segments_of (M.held after)) m span d may (G.forest old.gmi (M.held before)) result n it.rises it.is.outcome)

      many : length pages ≡ part.pages
      many = length-take-le part.pages (drop source.1.0 c.pages) (omega (arith, there.0.2, length-drop source.1.0 c.pages))

      pages_new : new_cache.pages ≡ pages
      pages_new = overwritten pages d.pages (has.cache.many ∙ sym many)

      like : IsLike d new_cache
      like = record { segment = refl; many = ap length pages_new ∙ many ∙ sym has.cache.many }

      put : n ≡ put_span m span c d → Keeps m n part
      put is = record {
        shape = subst (λ (x : Machine). HasShape m x) (sym is) (shape_put m part.cache.0 d new_cache has.cache.there like);
        others = λ k other. ap (λ (x : Machine). cache_of x k) is ∙ stayed m part.cache.0 d new_cache has.cache.there like k other;
        caches = ap (λ (x : Machine). length x.caches) is ∙ length-set m.caches (part.cache.0 - 1) (Some new_cache);
        regions = ap (λ (x : Machine). x.regions_made) is;
        live = ap live_pages is ∙ sum_by_same vm_machine.pages_in m.caches (part.cache.0 - 1) (Some d) (Some new_cache) (numbered_place m.caches part.cache.0 d has.cache.there).1 like.many;
        own = record {
          cache = new_cache;
          there = ap (λ (x : Machine). cache_of x part.cache.0) is ∙ became m part.cache.0 d new_cache has.cache.there like;
          temporary = has.cache.temporary;
          some = has.cache.some;
          many = like.many ∙ has.cache.many;
        };
      }

      put_pages_are : n ≡ put_span m span c d → cache_pages n part.cache.0 ≡ filled m part (Some source)
      unfolding put
      put_pages_are is =
          pages_there n part.cache.0 new_cache (put is).own.there
          ∙ pages_new
          ∙ ap (λ (xs : List Page). take part.pages (drop source.1.0 xs)) (sym (pages_there m source.0.0 c there.0.1))

      left : n ≡ m → Keeps m n part
      left is = subst (λ (x : Machine). Keeps m x part) (sym is) (record {
        shape = shape_self m;
        others = λ k other. refl;
        caches = refl;
        regions = refl;
        live = refl;
        own = has.cache;
      })

      spared : spare part.cache.0
      spared = (0, part, refl, has.own, refl)

      done_with : Keeps m n part → OnOk result (cache_pages n part.cache.0 ≡ filled m part (Some source)) → IfErr result (λ t. t ≡ troubles.Memory) → IsFilled M G before old part (Some source) result after (record old { gmi = gmi })
      done_with k pages_are lack =
          let not_spare = λ (x : ℕ) (free : spare x → ⊥) (same : x ≡ part.cache.0). free (subst spare (sym same) spared) in
          record {
            has = record {
              able = able_after M G old.gmi gmi before after (vm_commands.Copy span) (done_by result) old.images.items (length old.processes.items) (numbered old.processes.items) spare has.able call
                  old.images.items (length old.processes.items) (numbered old.processes.items) spare
                  (omega (arith, has.able.few, ap length k.shape.actors)) (omega (arith, has.able.most, ap length k.shape.actors))
                  (tied_like m n k.shape (numbered old.processes.items) spare old.images.items has.able.tied)
                  (sync_after M G old.gmi gmi before after (vm_commands.Copy span) (done_by result) old.images.items (length old.processes.items) (numbered old.processes.items) spare has.able call
                  (λ i image e. ap pages_in_cache (k.others image.cache.0 (image_kept m (numbered old.processes.items) spare old.images.items has.able.tied i image part.cache.0 e spared))));
              own = has.own;
              cache = k.own;
            };
            same = refl;
            pages = pages_are;
            kept = λ x y other e. k.others x other ∙ e;
            seen = all_seen m n old.processes.items spare old.images.items has.able.tied k.shape.page (λ x y free e. ap pages_in_cache (k.others x (not_spare x free)));
            used = record {
              living = omega (arith, ap (λ (actors : List (Option Actor)). count_by is_some actors) k.shape.actors);
              actors = omega (arith, ap length k.shape.actors);
              caches = omega (arith, k.caches);
              regions = omega (arith, k.regions);
              pages = omega (arith, k.live);
            };
            lack = lack;
            made = omega (arith, rises_for_copy m n span (done_by result) (G.made old.gmi) (G.made gmi) k.live call.made, ap length (pages_there m part.cache.0 d has.cache.there), has.cache.many);
            rises = it.rises;
            rose = it.rose;
            segments = segments_after M G old.gmi gmi before after (vm_commands.Copy span) (done_by result) old.images.items (length old.processes.items) (numbered old.processes.items) spare has.able call;
          }

      pub fill_some : IsFilled M G before old part (Some source) result after (record old { gmi = gmi })
      fill_some = elim copies [
        | inl e ↦ done_with (put e.1) (done_ok result (put_pages_are e.1)) (done_no_lack result e.0)
        | inr e ↦ done_with (left e.1) (lacks_not_ok _ result e.0) (lacks_memory result e.0)
      ]
