-- Caches that are kept are destroyed, the least recently used first.
use Rattle.std.proofs.Common.{◌≡◌, ◌⊎◌, inl, inr, ℕ, zero, suc, ◌+◌, ◌-◌, ◌*◌, ◌≤◌, false, List, [], ◌∷◌, length, drop, take, Option, Some, None, refl, sym, ap, subst, ◌∙◌, arith}
use Rattle.std.specs.Prelude.{IfSome, Ok, Err, slice_index_or}
use Rattle.std.specs.List.{AllByRecursion}
use Rattle.std.proofs.lemmas.List.{drop-map, length-drop, length-set}
use Rattle.vm_ids.specs.declared.command.Command.TheVariants as commands
use Rattle.vm_ids.specs.declared.reply.Reply.TheVariants as replies
use Rattle.vm_ids.specs.declared.reply.Trouble.TheVariants as troubles
use Rattle.vm_model.specs.Synchronised.{ArePushed, IsSynchronised}
use Rattle.vm_model.proofs.Parts.Lists.{numbered_place, sum_by_swap}
use Rattle.gmi_calls.proofs.Rising.{rise_none, rise_then}
use Rattle.interface_callers.proofs.Words.{Answer, AreBacked, Cache, Command, GhostsOfGmi, GhostsOfMapper, Machine, MapperCall, MOST_MADE, OutcomeAt, RaisesMade, Segments, Trouble, cache_of, counts_sum, live_pages, meanings_of, no_counts, pages_in, segments_of}
use Rattle.interface_callers.proofs.Temporary.{IsFault, destroy_answered}
use Rattle.interface_callers.proofs.Rows.{IsDone}
use Rattle.interface_callers.proofs.Blanks.{without}
use Rattle.seg_manager.specs.Keeping.{without as but_without}
use Rattle.seg_manager.specs.Seen.{kept_segments, references_seen}
use Rattle.seg_manager.specs.Tying.{AreTied, CanCall}
use Rattle.seg_manager.specs.Thinning.{Fails, Thins, Trying}
use Rattle.seg_manager.specs.declared.manager.SegManager.{SegManager}
use Rattle.seg_manager.specs.declared.tables.Kept.{Kept}
use Rattle.seg_manager.specs.declared.tables.Mapped.{Mapped}
use Rattle.seg_manager.specs.declared.tables.Named.{Named}
use Rattle.seg_manager.proofs.Calling.CallAgain.{able_after, backed_before, backed_next, call_is, denied_after, forest, made_after, seen_after, told_after}
use Rattle.seg_manager.proofs.Calling.OneGone.{IsPushed, first_free, left, seen_without, there, tied_without, without_first}
use Rattle.seg_manager.proofs.Lookup.Entries.{filter_few, is_other, still_all}
use Rattle.seg_manager.proofs.Seeing.WithoutSome.{take_more, without_both, without_none}
use Rattle.seg_manager.proofs.Calling.Pushed.{all_pushed}
use Rattle.seg_manager.proofs.Calling.Pushing.{pages_of, pushes_call, pushes_none, pushes_then}

pub drop_drop : {A : Type 0} (i j : ℕ) (xs : List A) → drop j (drop i xs) ≡ drop (i + j) xs
drop_drop zero j xs = ap (λ (n : ℕ). drop n xs) (let s : j ≡ 0 + j = omega arith in s)
drop_drop (suc i) j [] = nil j ∙ sym (nil (suc i + j))
  where
    nil : {A : Type 0} (n : ℕ) → drop n (let xs : List A = [] in xs) ≡ []
    nil zero = refl
    nil (suc n) = refl
drop_drop (suc i) j (x ∷ xs) = drop_drop i j xs ∙ ap (λ (n : ℕ). drop n (x ∷ xs)) (let s : suc (i + j) ≡ suc i + j = omega arith in s)

less_credit : (p live then kept made made_then raised : ℕ) → then + p ≡ live + 0 → raised ≡ then - live → made_then ≤ made + 8 * (p + raised) + 8 → made_then + 8 * then + 8 * kept ≤ made + 8 * live + 8 * suc kept
less_credit p live then kept made made_then raised e r h = omega (arith, e, r, h)

-- What is noted is tied to segments as they are then too.
pub retold : (m : Machine) (told now : Option Segments) (caches : List Named) (kept : List Kept) (room : ℕ) (regions : List Mapped) → AreTied m told caches kept room regions → IfSome now (λ h. AreBacked m.caches h) → AreTied m now caches kept room regions
retold m told now caches kept room regions t backed = record {
  caches = t.caches;
  regions = t.regions;
  apart = t.apart;
  kept = t.kept;
  named = t.named;
  once = t.once;
  fits = t.fits;
  backed = backed;
}

module _ {Manager X Chooser : Type 0} (M : GhostsOfMapper X) (G : GhostsOfGmi Manager X Chooser) where
  -- nothing was destroyed
  abbrev pub thins_none : (before : X) (manager : SegManager Manager) → CanCall G manager (M.held before) (M.page_bytes before) → Thins M G before manager before manager
  thins_none before manager can = record {
    can = can;
    seen = refl;
    denied = refl;
    limit = refl;
    regions = refl;
    gone = 0;
    gone_few = omega arith;
    kept = refl;
    machine = sym (without_none (G.machine manager.gmi (M.held before)));
    among = λ test h. h;
    few = omega arith;
    spare = omega arith;
    fits = refl;
    credit = omega arith;
    rises = no_counts;
    rose = rise_none (M.counts before);
    pushed = pushes_none M G before manager no_counts;
  }

  pub trying_none : (c : Command) (before : X) (manager : SegManager Manager) → CanCall G manager (M.held before) (M.page_bytes before) → Trying M G c before manager before manager
  trying_none c before manager can = record { thins = thins_none before manager can; cause = λ i less. absurd (omega (arith, less)) }

  abbrev pub thins_then : (before : X) (old : SegManager Manager) (mid : X) (by : SegManager Manager) (after : X) (new : SegManager Manager) → Thins M G before old mid by → Thins M G mid by after new → Thins M G before old after new
  thins_then before old mid by after new f g = record {
    can = g.can;
    seen = g.seen ∙ f.seen;
    denied = g.denied ∙ f.denied;
    limit = g.limit ∙ f.limit;
    regions = g.regions ∙ f.regions;
    gone = f.gone + g.gone;
    gone_few = omega (arith, f.gone_few, g.gone_few, ap length f.kept, length-drop f.gone old.kept.items);
    kept = g.kept ∙ ap (drop g.gone) f.kept ∙ drop_drop f.gone g.gone old.kept.items;
    machine = g.machine
        ∙ (λ i. but_without (take g.gone ((ap kept_segments f.kept ∙ sym (drop-map (λ (k : Kept). k.seg.0) f.gone old.kept.items)) i)) (f.machine i))
        ∙ without_both (take f.gone (kept_segments old.kept.items)) (take g.gone (drop f.gone (kept_segments old.kept.items))) (G.machine old.gmi (M.held before))
        ∙ ap (λ (segs : List ℕ). but_without segs (G.machine old.gmi (M.held before))) (sym (take_more f.gone g.gone (kept_segments old.kept.items)));
    among = λ test h. g.among test (f.among test h);
    few = omega (arith, f.few, g.few);
    spare = omega (arith, f.spare, g.spare);
    fits = g.fits ∙ f.fits;
    credit = omega (arith, f.credit, g.credit);
    rises = counts_sum f.rises g.rises;
    rose = rise_then (M.counts before) (M.counts mid) (M.counts after) f.rises g.rises f.rose g.rose;
    pushed = pushes_then M G before mid after old by f.rises g.rises (pages_of M G before mid old by (take f.gone (kept_segments old.kept.items)) f.machine) f.pushed g.pushed;
  }

  module _ (manager : SegManager Manager) (gmi : Manager) (before after : X) (first : Kept) (rest : List Kept) (a : Answer) (at : manager.kept.items ≡ first ∷ rest)
      (can : CanCall G manager (M.held before) (M.page_bytes before)) (call : MapperCall M (meanings_of G) before manager.gmi (commands.Destroy first.cache) a after gmi) where
    abbrev m : Machine
    m = G.machine manager.gmi (M.held before)

    abbrev n : Machine
    n = G.machine gmi (M.held after)

    abbrev was : Option Segments
    was = segments_of (M.held before)

    abbrev now : Option Segments
    now = segments_of (M.held after)

    abbrev caches : List Named
    caches = manager.caches.items

    abbrev regions : List Mapped
    regions = manager.regions.items

    abbrev room : ℕ
    room = manager.kept.room

    abbrev tied : AreTied m was caches (first ∷ rest) room regions
    tied = subst (λ (ks : List Kept). AreTied m was caches ks room regions) at can.tied

    abbrev it : (c : Cache) × (cache_of m first.cache.0 ≡ Some c) × (c.segment ≡ Some first.seg.0)
    it = there m was caches first rest room regions tied

    pub answered : IsDone a n (without m first.cache.0) ⊎ IsFault m first.cache.0 a n (call_is M G manager gmi before after (commands.Destroy first.cache) a can call).rises
    answered =
        let is = call_is M G manager gmi before after (commands.Destroy first.cache) a can call in
        destroy_answered now m (forest M G manager gmi before after (commands.Destroy first.cache) a can call) first.cache it.0 it.1 (first_free m was caches first rest room regions tied) a n is.rises is.is.outcome

    pushed_then : (o : Option Segments) → IfSome o (λ t. AreBacked m.caches t) → ArePushed m o first.cache.0 0 (pages_in (cache_of m first.cache.0)) → IsPushed m was caches first rest room regions tied o
    pushed_then None B p = tt
    pushed_then (Some u) B p = all_pushed m u first.cache.0 first.seg.0 it.0 B it.1 it.2 p

    module _ (g : IsDone a n (without m first.cache.0)) (later : SegManager Manager) (limit : later.limit ≡ manager.limit) (same : later.regions ≡ manager.regions) (kept : later.kept.items ≡ rest) (fits : later.kept.room ≡ room)
        (left_is : later.caches.items ≡ left m was caches first rest room regions tied) (roomy : manager.caches.spare ≤ later.caches.spare) where
      pushed : IsPushed m was caches first rest room regions tied now
      pushed =
          pushed_then now (backed_before M G manager gmi before after (commands.Destroy first.cache) a can call)
          (subst (λ (b : Answer). IsSynchronised m now (commands.Destroy first.cache) b) g.done (call_is M G manager gmi before after (commands.Destroy first.cache) a can call).is.synchronised)

      backed : IfSome now (λ t. AreBacked (without m first.cache.0).caches t)
      backed = subst (λ (x : Machine). IfSome now (λ t. AreBacked x.caches t)) g.next (backed_next M G manager gmi before after (commands.Destroy first.cache) a can call)

      tied_then : AreTied n now later.caches.items later.kept.items later.kept.room later.regions.items
      tied_then =
          subst (λ (x : Machine). AreTied x now later.caches.items later.kept.items later.kept.room later.regions.items) (sym g.next)
          (subst (λ (cs : List Named). AreTied (without m first.cache.0) now cs later.kept.items later.kept.room later.regions.items) (sym left_is)
          (subst (λ (ks : List Kept). AreTied (without m first.cache.0) now (left m was caches first rest room regions tied) ks later.kept.room later.regions.items) (sym kept)
          (subst (λ (k : ℕ). AreTied (without m first.cache.0) now (left m was caches first rest room regions tied) rest k later.regions.items) (sym fits)
          (subst (λ (rs : List Mapped). AreTied (without m first.cache.0) now (left m was caches first rest room regions tied) rest room rs) (sym (ap (λ v. v.items) same))
          (tied_without m was caches first rest room regions tied now backed)))))

      fewer : length n.caches ≤ MOST_MADE
      fewer = omega (arith, ap (λ (x : Machine). length x.caches) g.next, length-set m.caches (first.cache.0 - 1) None, can.few)

      swapped : live_pages n + pages_in (cache_of m first.cache.0) ≡ live_pages m + 0
      swapped = omega (arith, ap live_pages g.next, ap pages_in it.1, sum_by_swap pages_in m.caches (first.cache.0 - 1) (Some it.0) None (numbered_place m.caches first.cache.0 it.0 it.1).1)

      raised : RaisesMade m (commands.Destroy first.cache) (Ok replies.Done) n (G.made manager.gmi) (G.made gmi)
      raised = subst (λ (b : Answer). RaisesMade m (commands.Destroy first.cache) b n (G.made manager.gmi) (G.made gmi)) g.done call.made

      pub thins_one : Thins M G before manager after (record later { gmi = gmi })
      thins_one = record {
        can = able_after M G manager gmi before after (commands.Destroy first.cache) a can call later fewer tied_then;
        seen = (λ i. references_seen (g.next i) now (left_is i)) ∙ seen_without m was caches first rest room regions tied now (told_after M G manager gmi before after (commands.Destroy first.cache) a can call) pushed;
        denied = denied_after M G manager gmi before after (commands.Destroy first.cache) a can call;
        limit = limit;
        regions = same;
        gone = 1;
        gone_few = omega (arith, ap length at);
        kept = kept ∙ ap (drop 1) (sym at);
        machine = g.next ∙ sym (without_first m was caches first rest room regions tied) ∙ ap (λ (ks : List Kept). but_without (take 1 (kept_segments ks)) m) (sym at);
        among = λ test h. subst (AllByRecursion (λ (c : Named). test c ≡ false)) (sym left_is) (still_all (λ (c : Named). test c ≡ false) (is_other first.cache.0) caches h);
        few = omega (arith, ap length left_is, filter_few (is_other first.cache.0) caches);
        spare = roomy;
        fits = fits;
        credit = omega (arith, ap length kept, ap length at, less_credit (pages_in (cache_of m first.cache.0)) (live_pages m) (live_pages n) (length rest) (G.made manager.gmi) (G.made gmi) (live_pages n - live_pages m) swapped refl raised);
        rises = (call_is M G manager gmi before after (commands.Destroy first.cache) a can call).rises;
        rose = (call_is M G manager gmi before after (commands.Destroy first.cache) a can call).rose;
        pushed = pushes_call M G manager gmi before after (commands.Destroy first.cache) a can call;
      }

    pub fails_one : (g : IsFault m first.cache.0 a n (call_is M G manager gmi before after (commands.Destroy first.cache) a can call).rises) → Fails M G before manager (troubles.Mapper g.at) after (record manager { gmi = gmi })
    fails_one g = record {
      can = able_after M G manager gmi before after (commands.Destroy first.cache) a can call manager
          (omega (arith, ap (λ (x : Machine). length x.caches) g.same, can.few))
          (subst (λ (x : Machine). AreTied x now caches manager.kept.items room regions) (sym g.same)
          (retold m was now caches manager.kept.items room regions can.tied (backed_before M G manager gmi before after (commands.Destroy first.cache) a can call)));
      seen = ap (λ (x : Machine). references_seen x now caches) g.same ∙ seen_after M G manager gmi before after (commands.Destroy first.cache) a can call caches;
      denied = denied_after M G manager gmi before after (commands.Destroy first.cache) a can call;
      same = refl;
      caches = ap (λ (x : Machine). length x.caches) g.same;
      made = made_after M G manager gmi before after (commands.Destroy first.cache) a can call;
      rises = (call_is M G manager gmi before after (commands.Destroy first.cache) a can call).rises;
      rose = (call_is M G manager gmi before after (commands.Destroy first.cache) a can call).rose;
      pushed = pushes_call M G manager gmi before after (commands.Destroy first.cache) a can call;
      failed = g.failed;
      first = first;
      rest = rest;
      kept = at;
      at = g.at;
      is = refl;
      fault = subst (λ (b : Answer). OutcomeAt now m (forest M G manager gmi before after (commands.Destroy first.cache) a can call) (commands.Destroy first.cache) b n (call_is M G manager gmi before after (commands.Destroy first.cache) a can call).rises) g.is
          (call_is M G manager gmi before after (commands.Destroy first.cache) a can call).is.outcome;
      call = subst (λ (b : Answer). MapperCall M (meanings_of G) before manager.gmi (commands.Destroy first.cache) b after gmi) g.is call;
    }

    -- by what the destroy answered
    pub gone_first : a ≡ Ok replies.Done → IsDone a n (without m first.cache.0)
    gone_first e = elim answered [
      | inl g ↦ g
      | inr g ↦ absurd (let wrong : Err (troubles.Mapper g.at) ≡ Ok replies.Done = sym g.is ∙ e in cc wrong)
    ]

    pub failed_first : (trouble : Trouble) → a ≡ Err trouble → Fails M G before manager trouble after (record manager { gmi = gmi })
    failed_first trouble e = elim answered [
      | inl g ↦ absurd (let wrong : Ok replies.Done ≡ Err trouble = sym g.done ∙ e in cc wrong)
      | inr g ↦ (let both : Err (troubles.Mapper g.at) ≡ Err trouble = sym g.is ∙ e in let same : troubles.Mapper g.at ≡ trouble = cc both in
          subst (λ (x : Trouble). Fails M G before manager x after (record manager { gmi = gmi })) same (fails_one g))
    ]

-- the first of some, and the others
pub first_rest : (ks : List Kept) (k : Kept) → 1 ≤ length ks → k ≡ slice_index_or ks 0 k → ks ≡ k ∷ drop 1 ks
first_rest [] k some e = absurd (omega (arith, some))
first_rest (l ∷ ks) k some e = ap (λ (x : Kept). x ∷ ks) (sym e)
