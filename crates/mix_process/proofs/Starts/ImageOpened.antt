-- What the processes have after an image was looked for.
use Rattle.std.proofs.Common.{◌≡◌, inl, inr, ◌==◌, ℕ, suc, ◌+◌, ◌-◌, ◌*◌, ◌≤◌, Bool, true, false, cond, List, [], ◌∷◌, ◌++◌, length, map, Option, Some, None, Vec, Global, refl, sym, ap, subst, ◌∙◌, arith}
use Rattle.std.specs.Prelude.{Ok, Err, is_some, option_map, slice_get}
use Rattle.std.specs.FinMap.{get}
use Rattle.std.specs.Option.{option_map_or}
use Rattle.std.proofs.lemmas.List.{length-append}
use Rattle.std.proofs.lemmas.List.Sums.{sum_by_push}
use Rattle.vm_ids.specs.declared.command.Command.TheVariants as vm_commands
use Rattle.vm_ids.specs.declared.reply.Reply.TheVariants as replies
use Rattle.vm_ids.specs.declared.reply.Trouble.TheVariants as troubles
use Rattle.vm_model.specs.Run as vm_run
use Rattle.vm_model.specs.Run.{CallIs}
use Rattle.vm_model.proofs.Outcomes.Kept.{IsKept}
use Rattle.gmi_calls.proofs.Rising.{rise_none}
use Rattle.interface_callers.proofs.Words.{Answer, Cache, CacheId, GhostsOfGmi, GhostsOfMapper, Held, LIVE_PAGES, Machine, MapperCall, Page, RaisesMade, SegId, Segments, Trouble, cache_named, cache_of, live_pages, meanings_of, no_counts, numbered, pages_in, segments_of}
use Rattle.interface_callers.proofs.Lists.{get_snoc}
use Rattle.interface_callers.proofs.Naming.{named_by}
use Rattle.mix_process.specs.Adding.{AreKept}
use Rattle.mix_process.specs.Answering.{imaged, with_image}
use Rattle.mix_process.specs.Outcome.{usage_of}
use Rattle.mix_process.specs.Seen.{cache_pages, image_seen, process_seen, processes_seen}
use Rattle.mix_process.specs.Starting.{HasImage, HoldsIn, IsOpened, LacksImage, image_for, open_budget, usage_to_open}
use Rattle.mix_process.specs.Tying.{AreAble, AreSynchronised, AreTied, CanCall, none_spare}
use Rattle.mix_process.specs.Use.{IsWithin, usage_sum}
use Rattle.mix_process.specs.declared.mix.Image.{Image}
use Rattle.mix_process.specs.declared.mix.Mix.{Mix}
use Rattle.mix_process.proofs.Calling.CallAgain.{able_after, is_call, keeps_sizes, segments_after, sync_after}
use Rattle.mix_process.proofs.Starts.ImageCalls.{HasNotOpened, HasOpened, Opening, image_last, image_none, image_seen_for, map_snoc, opening}
use Rattle.mix_process.proofs.Ties.Keeping.{image_pages_kept, images_kept, numbered_at, processes_kept}
use Rattle.mix_process.proofs.Reading.Seeing.{pages_there}
use Rattle.mix_process.proofs.Ties.ActorOrImage.{tied_opened}
use Rattle.mix_process.proofs.Ties.NewCache.{fresh_numbered, still_numbered}

image_of_found : (images : List Image) (seg : ℕ) (cache : CacheId) (o : Option Image) → image_for images seg ≡ o → Some cache ≡ option_map (λ (i : Image). i.cache) o → (image : Image) × (image_for images seg ≡ Some image) × (image.cache ≡ cache)
image_of_found images seg cache None f e = absurd (cc e)
image_of_found images seg cache (Some image) f e = (image, f, (let same : cache ≡ image.cache = cc e in sym same))

no_image : (o : Option Image) → None ≡ option_map (λ (i : Image). i.cache) o → o ≡ None
no_image None e = refl
no_image (Some image) e = absurd (cc e)

pub is_none : (images : List Image) (seg : ℕ) → None ≡ option_map (λ (i : Image). i.cache) (image_for images seg) → image_for images seg ≡ None
is_none images seg e = no_image (image_for images seg) e

-- a segment of no cache names none
named_none : (seg : ℕ) (cs : List (Option Cache)) → ((k : ℕ) (c : Cache) → slice_get cs k ≡ Some (Some c) → c.segment ≡ Some seg → ⊥) → is_some (cache_named cs seg) ≡ false
named_none seg [] h = refl
named_none seg (None ∷ cs) h = named_none seg cs (λ k c e named. h (suc k) c e named)
named_none seg (Some c ∷ cs) h = by (option_map_or (λ s. s == seg) c.segment false) (named_none seg cs (λ k c e named. h (suc k) c e named)) refl
  where
    by : (b : Bool) → is_some (cache_named cs seg) ≡ false → option_map_or (λ s. s == seg) c.segment false ≡ b → is_some (cond b (Some c) (cache_named cs seg)) ≡ false
    by true rest e = absurd (h 0 c refl (named_by c.segment seg e))
    by false rest e = rest

-- the images are as the segments hold them, with one more
sync_more : (n : Machine) (images : List Image) (image : Image) (told : Option Held) → AreSynchronised n images told → HoldsIn (segments_of told) image.seg.0 (Some (cache_pages n image.cache.0)) → AreSynchronised n (images ++ image ∷ []) told
sync_more n images image None s h = tt
sync_more n images image (Some x) s h = λ i other e. elim (get_snoc images image i other e) [
  | inl f ↦ s i other f
  | inr f ↦ subst (λ (y : Image). get x.segments y.seg.0 ≡ Some (cache_pages n y.cache.0)) (sym f.1) h
]

used_open : (m : Machine) (c : Cache) → IsWithin (usage_of (record m { caches = m.caches ++ Some c ∷ [] })) (usage_sum (usage_of m) (usage_to_open (Some c.pages)))
used_open m c = record {
  living = omega arith;
  actors = omega arith;
  caches = omega (arith, length-append m.caches (Some c ∷ []));
  regions = omega arith;
  pages = omega (arith, sum_by_push pages_in m.caches (Some c));
}

raised_lack : (m n : Machine) (seg : SegId) (t : Trouble) (before now : ℕ) → n ≡ m → RaisesMade m (vm_commands.OpenSegment seg) (Err t) n before now → now ≤ before + open_budget
raised_lack m n seg (troubles.Refused r) before now same made = omega (arith, made)
raised_lack m n seg (troubles.Mapper at) before now same made = omega (arith, made, ap live_pages same)
raised_lack m n seg troubles.Memory before now same made = omega (arith, made, ap live_pages same)

raised_open : (live live' before now : ℕ) → live' ≤ LIVE_PAGES → now ≤ before + 8 * (0 + (live' - live)) + 8 → now ≤ before + open_budget
raised_open live live' before now few made = omega (arith, few, made)

module _ {Manager X Chooser : Type 0} (M : GhostsOfMapper X) (G : GhostsOfGmi Manager X Chooser) (old : Mix Manager) (before : X) (can : CanCall G old (M.held before) (M.page_bytes before)) (seg : SegId) where
  abbrev m : Machine
  m = G.machine old.gmi (M.held before)

  -- it is there
  pub found : (cache : CacheId) → Some cache ≡ option_map (λ (i : Image). i.cache) (image_for old.images.items seg.0) → IsOpened M G before old seg (Ok cache) before old
  found cache e =
      let image = image_of_found old.images.items seg.0 cache (image_for old.images.items seg.0) refl e in
      let s = processes_seen m old.processes.items old.images.items in
      record {
        can = can;
        processes = refl;
        made = omega arith;
        segments = refl;
        rises = no_counts;
        rose = rise_none (M.counts before);
        opens = record {
          image = image.0;
          found = image.1;
          is = image.2;
          seen = sym (ap (λ (o : Option (List Page)). imaged s seg.0 o (Some (cache_pages m cache.0))) (image_seen_for m old.images.items seg.0 ∙ ap (option_map (λ (i : Image). cache_pages m i.cache.0)) image.1));
          used = record { living = omega arith; actors = omega arith; caches = omega arith; regions = omega arith; pages = omega arith };
        };
      }

  -- no memory for its entry
  pub no_entry : image_for old.images.items seg.0 ≡ None → (images : Vec Image Global) → images.items ≡ old.images.items → IsOpened M G before old seg (Err troubles.Memory) before (record old { images = images })
  no_entry none images same = record {
    can = subst (λ (xs : List Image). AreAble G old.gmi xs (M.held before) (M.page_bytes before) (length old.processes.items) (numbered old.processes.items) none_spare) (sym same) can;
    processes = refl;
    made = omega arith;
    segments = refl;
    rises = no_counts;
    rose = rise_none (M.counts before);
    opens = record { none = none; machine = refl; images = same; why = tt };
  }

  -- its segment is opened
  module _ (a : Answer) (gmi : Manager) (after : X) (call : MapperCall M (meanings_of G) before old.gmi (vm_commands.OpenSegment seg) a after gmi) (none : image_for old.images.items seg.0 ≡ None) where
    abbrev n : Machine
    n = G.machine gmi (M.held after)

    abbrev told : Option Segments
    told = segments_of (M.held after)

    t : AreTied m (numbered old.processes.items) none_spare old.images.items
    t = can.tied

    no_other : (k : ℕ) (c : Cache) → cache_of m k ≡ Some c → c.segment ≡ Some seg.0 → ⊥
    no_other k c there named =
        let i = t.no_more_images k seg.0 c there named in
        let d = t.images_there i.0 i.1 i.2 in
        let same : Some d.0 ≡ Some c = sym d.1 ∙ ap (cache_of m) i.3 ∙ there in
        let is : d.0 ≡ c = cc same in
        let segs : Some i.1.seg.0 ≡ Some seg.0 = sym d.2 ∙ ap (λ (c : Cache). c.segment) is ∙ named in
        image_none old.images.items seg.0 none i.0 i.1 i.2 (cc segs)

    unnamed : is_some (cache_named m.caches seg.0) ≡ false
    unnamed = named_none seg.0 m.caches (λ k c there named. no_other (k + 1) c (numbered_at m.caches k c there) named)

    abbrev it : CallIs (M.counts before) (M.counts after) (vm_run.state_of G.machine G.forest old.gmi (M.held before)) (vm_commands.OpenSegment seg) a (vm_run.state_of G.machine G.forest gmi (M.held after))
    it = is_call M G old.gmi gmi before after (vm_commands.OpenSegment seg) a old.images.items (length old.processes.items) (numbered old.processes.items) none_spare can call

    row : Opening told m seg.0 it.rises a n
    row = opening told m (G.forest old.gmi (M.held before)) seg unnamed a n it.rises it.is.outcome

    made_less : (answer : Answer) → a ≡ answer → RaisesMade m (vm_commands.OpenSegment seg) answer n (G.made old.gmi) (G.made gmi)
    made_less answer e = subst (λ (x : Answer). RaisesMade m (vm_commands.OpenSegment seg) x n (G.made old.gmi) (G.made gmi)) e call.made

    kept_sizes : IsKept m (vm_commands.OpenSegment seg) a n
    kept_sizes = keeps_sizes M G old.gmi gmi before after (vm_commands.OpenSegment seg) a old.images.items (length old.processes.items) (numbered old.processes.items) none_spare can call

    same_segments : segments_of (M.held after) ≡ segments_of (M.held before)
    same_segments = segments_after M G old.gmi gmi before after (vm_commands.OpenSegment seg) a old.images.items (length old.processes.items) (numbered old.processes.items) none_spare can call

    synced : ((i : ℕ) (image : Image) → slice_get old.images.items i ≡ Some image → cache_pages n image.cache.0 ≡ cache_pages m image.cache.0) → AreSynchronised n old.images.items (M.held after)
    synced alike = sync_after M G old.gmi gmi before after (vm_commands.OpenSegment seg) a old.images.items (length old.processes.items) (numbered old.processes.items) none_spare can call alike

    able : (images : List Image) → length n.actors ≡ length m.actors → AreTied n (numbered old.processes.items) none_spare images → AreSynchronised n images (M.held after)
        → AreAble G gmi images (M.held after) (M.page_bytes after) (length old.processes.items) (numbered old.processes.items) none_spare
    able images many tied sync = able_after M G old.gmi gmi before after (vm_commands.OpenSegment seg) a old.images.items (length old.processes.items) (numbered old.processes.items) none_spare can call
        images (length old.processes.items) (numbered old.processes.items) none_spare (omega (arith, can.few, many)) (omega (arith, can.most, many)) tied sync

    abbrev with_images : Vec Image Global → Mix Manager
    with_images images = record old { gmi = gmi; images = images }

    -- it couldn't be
    module _ (trouble : Trouble) (a_is : a ≡ Err trouble) (images : Vec Image Global) (same : images.items ≡ old.images.items) where
      lacking : Opening told m seg.0 it.rises a n → HasNotOpened told m seg.0 it.rises a n
      lacking (inl h) = absurd (let wrong : Err trouble ≡ Ok (replies.Cache (record { 0 = length m.caches + 1 })) = sym a_is ∙ h.answer_is in cc wrong)
      lacking (inr h) = h

      trouble_is : (h : HasNotOpened told m seg.0 it.rises a n) → h.trouble ≡ trouble
      trouble_is h = let both : Err h.trouble ≡ Err trouble = sym h.answer_is ∙ a_is in cc both

      pub not_opened : IsOpened M G before old seg (Err trouble) after (with_images images)
      not_opened = let h = lacking row in record {
        can = subst (λ (xs : List Image). AreAble G gmi xs (M.held after) (M.page_bytes after) (length old.processes.items) (numbered old.processes.items) none_spare) (sym same)
            (able old.images.items (ap (λ (x : Machine). length x.actors) h.next_is) (subst (λ (x : Machine). AreTied x (numbered old.processes.items) none_spare old.images.items) (sym h.next_is) t)
            (synced (λ i image e. ap (λ (x : Machine). cache_pages x image.cache.0) h.next_is)));
        processes = refl;
        made = raised_lack m n seg trouble (G.made old.gmi) (G.made gmi) h.next_is (made_less (Err trouble) a_is);
        segments = same_segments;
        rises = it.rises;
        rose = it.rose;
        opens = record { none = none; machine = h.next_is; images = same; why = subst (λ (x : Trouble). LacksImage m told seg.0 it.rises x) (trouble_is h) h.why };
      }

    -- it was
    module _ (cache : CacheId) (a_is : a ≡ Ok (replies.Cache cache)) (images : Vec Image Global) (longer : images.items ≡ old.images.items ++ (record { seg = seg; cache = cache }) ∷ []) where
      having : Opening told m seg.0 it.rises a n → HasOpened told m seg.0 a n
      having (inl h) = h
      having (inr h) = absurd (let wrong : Ok (replies.Cache cache) ≡ Err h.trouble = sym a_is ∙ h.answer_is in cc wrong)

      abbrev image : Image
      image = record { seg = seg; cache = cache }

      module _ (h : HasOpened told m seg.0 a n) where
        number : cache.0 ≡ length m.caches + 1
        number = let both : Ok (replies.Cache cache) ≡ Ok (replies.Cache (record { 0 = length m.caches + 1 })) = sym a_is ∙ h.answer_is in
            let same : cache ≡ record { 0 = length m.caches + 1 } = cc both in ap (λ (c : CacheId). c.0) same

        kept : AreKept m n
        kept = subst (AreKept m) (sym h.next_is) (λ k c e. still_numbered m.caches (Some h.cache) k c e)

        fresh_pages : cache_pages n cache.0 ≡ h.cache.pages
        fresh_pages = pages_there n cache.0 h.cache (ap (λ (x : Machine). cache_of x cache.0) h.next_is ∙ ap (numbered (m.caches ++ Some h.cache ∷ [])) number ∙ fresh_numbered m.caches (Some h.cache))

        actors_many : length n.actors ≡ length m.actors
        actors_many = ap (λ (x : Machine). length x.actors) h.next_is

        tied_now : AreTied n (numbered old.processes.items) none_spare (old.images.items ++ image ∷ [])
        tied_now = subst (λ (x : Machine). AreTied x (numbered old.processes.items) none_spare (old.images.items ++ image ∷ [])) (sym h.next_is)
            (tied_opened m (numbered old.processes.items) old.images.items t h.cache image h.named number (image_none old.images.items seg.0 none))

        able_now : AreAble G gmi (old.images.items ++ image ∷ []) (M.held after) (M.page_bytes after) (length old.processes.items) (numbered old.processes.items) none_spare
        able_now = able (old.images.items ++ image ∷ []) actors_many tied_now
            (sync_more n old.images.items image (M.held after) (synced (image_pages_kept m n old.processes.items none_spare old.images.items t kept)) (subst (λ (pages : List Page). HoldsIn told seg.0 (Some pages)) (sym fresh_pages) h.holds))

        seen_now : processes_seen n old.processes.items (old.images.items ++ image ∷ []) ≡ with_image (processes_seen m old.processes.items old.images.items) seg.0 (Some (cache_pages n cache.0))
        seen_now =
            (λ i. record {
              page_bytes = (h.next_is i).page_bytes;
              processes = processes_kept m n old.processes.items none_spare old.images.items t kept i;
              images = map_snoc (image_seen n) old.images.items image i;
            })
            ∙ (λ i. record {
              page_bytes = m.page_bytes;
              processes = map (option_map (process_seen m)) old.processes.items;
              images = images_kept m n old.processes.items none_spare old.images.items t kept i ++ (seg.0, cache_pages n cache.0) ∷ [];
            })
            ∙ ap (λ (o : Option (List Page)). imaged (processes_seen m old.processes.items old.images.items) seg.0 o (Some (cache_pages n cache.0)))
            (sym (image_seen_for m old.images.items seg.0 ∙ ap (option_map (λ (i : Image). cache_pages m i.cache.0)) none))

        has_image : HasImage m n old.processes.items old.images.items (old.images.items ++ image ∷ []) seg cache
        has_image = record {
          image = image;
          found = image_last old.images.items seg.0 image refl none;
          is = refl;
          seen = seen_now;
          used = subst (λ (pages : List Page). IsWithin (usage_of n) (usage_sum (usage_of m) (usage_to_open (Some pages)))) (sym fresh_pages)
              (subst (λ (x : Machine). IsWithin (usage_of x) (usage_sum (usage_of m) (usage_to_open (Some h.cache.pages)))) (sym h.next_is) (used_open m h.cache));
        }

      pub was_opened : IsOpened M G before old seg (Ok cache) after (with_images images)
      was_opened = let h = having row in record {
        can = subst (λ (xs : List Image). AreAble G gmi xs (M.held after) (M.page_bytes after) (length old.processes.items) (numbered old.processes.items) none_spare) (sym longer) (able_now h);
        processes = refl;
        made = raised_open (live_pages m) (live_pages n) (G.made old.gmi) (G.made gmi) (kept_sizes.live can.live) (made_less (Ok (replies.Cache cache)) a_is);
        segments = same_segments;
        rises = it.rises;
        rose = it.rose;
        opens = subst (λ (xs : List Image). HasImage m n old.processes.items old.images.items xs seg cache) (sym longer) (has_image h);
      }
