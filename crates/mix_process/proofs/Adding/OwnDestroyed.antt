-- The caches of their own of parts are destroyed, one after the other.
use Rattle.std.proofs.Common.{◌≡◌, ◌≢◌, ◌⊎◌, inl, inr, ℕ, ◌+◌, ◌-◌, ◌*◌, ◌≤◌, ◌<◌, Bool, true, false, cond, List, [], ◌∷◌, ◌++◌, length, Some, None, refl, sym, ap, subst, ◌∙◌, arith}
use Rattle.std.specs.Prelude.{Ok, slice_get}
use Rattle.std.proofs.lemmas.List.{length-set}
use Rattle.std.proofs.lemmas.Option.{slice_get_within}
use Rattle.vm_ids.specs.declared.command.Command.TheVariants as vm_commands
use Rattle.vm_ids.specs.declared.reply.Reply.TheVariants as replies
use Rattle.vm_model.proofs.Parts.Lists.{numbered_place, sum_by_less}
use Rattle.gmi_calls.proofs.Rising.{rise_none, rise_then}
use Rattle.interface_callers.proofs.Words.{Answer, GhostsOfGmi, GhostsOfMapper, Machine, MapperCall, RaisesMade, cache_of, counts_sum, live_pages, meanings_of, no_counts, numbered, pages_in, segments_of}
use Rattle.interface_callers.proofs.Lists.{get_append, get_last, get_snoc}
use Rattle.interface_callers.proofs.Rows.{IsDone}
use Rattle.interface_callers.proofs.Temporary.{destroy_done}
use Rattle.interface_callers.proofs.Blanks.{without}
use Rattle.mix_process.specs.ProcessMachine.{may_write}
use Rattle.mix_process.specs.Inner.{AreApart, AreCleared, AreOwn, own_pages, spare_of}
use Rattle.mix_process.specs.Seen.{cache_pages, processes_seen}
use Rattle.mix_process.specs.Tying.{AreAble, AreTied, IsOwnCache}
use Rattle.mix_process.specs.declared.mix.Mix.{Mix}
use Rattle.mix_process.specs.declared.process.Part.{Part}
use Rattle.mix_process.proofs.Calling.CallAgain.{able_after, is_call, respared, segments_after, sync_after}
use Rattle.mix_process.proofs.Ties.Clearing.{images_without, kept_other, not_mapped, own_kept, seen_without, tied_without}

-- Lists that end in a part

own-append : (xs ys : List Part) → own_pages (xs ++ ys) ≡ own_pages xs + own_pages ys
own-append [] ys = omega arith
own-append (x ∷ xs) ys = omega (arith, own-append xs ys)

own_snoc : (xs : List Part) (p : Part) (b : Bool) → may_write p.area ≡ b → own_pages (xs ++ p ∷ []) ≡ own_pages xs + cond b p.pages 0
own_snoc xs p b e = own-append xs (p ∷ []) ∙ ap (λ (c : Bool). own_pages xs + (cond c p.pages 0 + 0)) e ∙ (let same : own_pages xs + (cond b p.pages 0 + 0) ≡ own_pages xs + cond b p.pages 0 = omega arith in same)

less_made : (m next : Machine) (c : ℕ) (pages before now : ℕ) → c ≡ pages → 1 ≤ pages → live_pages next ≤ live_pages m → now ≤ before + 8 * (c + (live_pages next - live_pages m)) + 8 → now ≤ before + 16 * pages
less_made m next c pages before now e some less made = omega (arith, e, some, less, made)

module _ {Manager X Chooser : Type 0} (M : GhostsOfMapper X) (G : GhostsOfGmi Manager X Chooser) (before : X) (old : Mix Manager) where
  -- nothing was destroyed yet
  pub cleared_none : (parts : List Part) → AreAble G old.gmi old.images.items (M.held before) (M.page_bytes before) (length old.processes.items) (numbered old.processes.items) (spare_of parts) → AreApart parts → AreOwn (G.machine old.gmi (M.held before)) parts → AreCleared M G before old parts parts before old
  cleared_none parts able apart own = record {
    able = able;
    same = refl;
    apart = apart;
    own = own;
    seen = refl;
    made = omega arith;
    alike = record { actors = refl; caches = refl; regions = refl };
    rises = no_counts;
    rose = rise_none (M.counts before);
    segments = refl;
  }

  module _ (parts rest : List Part) (part : Part) (now : X) (mix : Mix Manager) (c : AreCleared M G before old parts (rest ++ part ∷ []) now mix) where
    less_apart : AreApart rest
    less_apart i j p q e f own_p own_q same = c.apart i j p q (get_append rest (part ∷ []) i p e) (get_append rest (part ∷ []) j q f) own_p own_q same

    -- another part has another cache
    other : may_write part.area ≡ true → (j : ℕ) (p : Part) → slice_get rest j ≡ Some p → may_write p.area ≡ true → p.cache.0 ≢ part.cache.0
    other writes j p e own same =
        let place : j ≡ length rest = c.apart j (length rest) p part (get_append rest (part ∷ []) j p e) (get_last rest part) own writes same in
        let within : j < length rest = slice_get_within rest j p e in
        omega (arith, place, within)

    -- a part of text is passed
    pub cleared_skip : may_write part.area ≡ false → AreCleared M G before old parts rest now mix
    cleared_skip text = record {
      able = respared (numbered old.processes.items) (spare_of (rest ++ part ∷ [])) (spare_of rest) c.able
          (λ k s. elim (get_snoc rest part s.0 s.1 s.2) [
            | inl f ↦ (s.0, s.1, f, s.3, s.4)
            | inr f ↦ absurd (let wrong : true ≡ false = sym s.3 ∙ ap (λ (p : Part). may_write p.area) f.1 ∙ text in cc wrong)
          ])
          (λ k s. (s.0, s.1, get_append rest (part ∷ []) s.0 s.1 s.2, s.3, s.4));
      same = c.same;
      apart = less_apart;
      own = λ j p e own. c.own j p (get_append rest (part ∷ []) j p e) own;
      seen = c.seen;
      made = omega (arith, c.made, own_snoc rest part false text);
      alike = c.alike;
      rises = c.rises;
      rose = c.rose;
      segments = c.segments;
    }

    abbrev m : Machine
    m = G.machine mix.gmi (M.held now)

    -- a cache of its own is destroyed
    pub cleared_one : may_write part.area ≡ true → (a : Answer) (gmi : Manager) (after : X) → MapperCall M (meanings_of G) now mix.gmi (vm_commands.Destroy part.cache) a after gmi → AreCleared M G before old parts rest after (record mix { gmi = gmi })
    cleared_one writes a gmi after call =
        let t = c.able.tied in
        let spare : ℕ → Type 0 = spare_of (rest ++ part ∷ []) in
        let spared : spare_of (rest ++ part ∷ []) part.cache.0 = (length rest, part, get_last rest part, writes, refl) in
        let own : IsOwnCache m part = c.own (length rest) part (get_last rest part) writes in
        let it = is_call M G mix.gmi gmi now after (vm_commands.Destroy part.cache) a old.images.items (length old.processes.items) (numbered old.processes.items) (spare_of (rest ++ part ∷ [])) c.able call in
        let done : IsDone a (G.machine gmi (M.held after)) (without m part.cache.0) = destroy_done (segments_of (M.held after)) m (G.forest mix.gmi (M.held now)) part.cache own.cache own.there own.temporary (not_mapped m (numbered old.processes.items) (spare_of (rest ++ part ∷ [])) old.images.items t part.cache.0 spared) a (G.machine gmi (M.held after)) it.rises it.is.outcome in
        let fewer = λ (k : ℕ) (s : spare_of rest k). (let have : spare_of (rest ++ part ∷ []) k = (s.0, s.1, get_append rest (part ∷ []) s.0 s.1 s.2, s.3, s.4) in let apart : k ≢ part.cache.0 = λ e. other writes s.0 s.1 s.2 s.3 (s.4 ∙ e) in let both : spare_of (rest ++ part ∷ []) k × (k ≢ part.cache.0) = (have, apart) in both) in
        let others = λ (k : ℕ) (s : spare_of (rest ++ part ∷ []) k). (let which : (k ≡ part.cache.0) ⊎ spare_of rest k = elim (get_snoc rest part s.0 s.1 s.2) [ inl f ↦ inr (s.0, s.1, f, s.3, s.4) | inr f ↦ inl (sym s.4 ∙ ap (λ (p : Part). p.cache.0) f.1) ] in which) in
        let tied : AreTied (G.machine gmi (M.held after)) (numbered old.processes.items) (spare_of rest) old.images.items =
        subst (λ (x : Machine). AreTied x (numbered old.processes.items) (spare_of rest) old.images.items) (sym done.next) (tied_without m (numbered old.processes.items) (spare_of (rest ++ part ∷ [])) (spare_of rest) old.images.items t part.cache.0 spared fewer others) in
        let place = numbered_place m.caches part.cache.0 own.cache own.there in
        let less : live_pages (without m part.cache.0) ≤ live_pages m = sum_by_less pages_in m.caches (part.cache.0 - 1) (Some own.cache) None place.1 (omega arith) in
        let raised : RaisesMade m (vm_commands.Destroy part.cache) (Ok replies.Done) (without m part.cache.0) (G.made mix.gmi) (G.made gmi) =
        subst (λ (x : Machine). RaisesMade m (vm_commands.Destroy part.cache) (Ok replies.Done) x (G.made mix.gmi) (G.made gmi)) done.next
        (subst (λ (b : Answer). RaisesMade m (vm_commands.Destroy part.cache) b (G.machine gmi (M.held after)) (G.made mix.gmi) (G.made gmi)) done.done call.made) in
        let many : pages_in (cache_of m part.cache.0) ≡ part.pages = ap pages_in own.there ∙ own.many in
        record {
          able = able_after M G mix.gmi gmi now after (vm_commands.Destroy part.cache) a old.images.items (length old.processes.items) (numbered old.processes.items) (spare_of (rest ++ part ∷ [])) c.able call old.images.items (length old.processes.items) (numbered old.processes.items) (spare_of rest)
              (omega (arith, c.able.few, ap (λ (x : Machine). length x.actors) done.next)) (omega (arith, c.able.most, ap (λ (x : Machine). length x.actors) done.next)) tied
              (sync_after M G mix.gmi gmi now after (vm_commands.Destroy part.cache) a old.images.items (length old.processes.items) (numbered old.processes.items) (spare_of (rest ++ part ∷ [])) c.able call
              (λ i image e. ap (λ (x : Machine). cache_pages x image.cache.0) done.next ∙ images_without m (numbered old.processes.items) (spare_of (rest ++ part ∷ [])) (spare_of rest) old.images.items t part.cache.0 spared fewer others i image e));
          same = ap (λ (x : Mix Manager). let y : Mix Manager = record x { gmi = gmi } in y) c.same;
          apart = less_apart;
          own = λ j p e own_p. own_kept m (G.machine gmi (M.held after)) p (ap (λ (x : Machine). cache_of x p.cache.0) done.next ∙ kept_other m part.cache.0 own.cache own.there p.cache.0 (other writes j p e own_p)) (c.own j p (get_append rest (part ∷ []) j p e) own_p);
          seen = ap (λ (x : Machine). processes_seen x old.processes.items old.images.items) done.next ∙ seen_without m old.processes.items (spare_of (rest ++ part ∷ [])) (spare_of rest) old.images.items t part.cache.0 spared fewer others ∙ c.seen;
          made = omega (arith, c.made, own_snoc rest part true writes, less_made m (without m part.cache.0) (pages_in (cache_of m part.cache.0)) part.pages (G.made mix.gmi) (G.made gmi) many own.some less raised);
          alike = record {
            actors = ap (λ (x : Machine). length x.actors) done.next ∙ c.alike.actors;
            caches = ap (λ (x : Machine). length x.caches) done.next ∙ length-set m.caches (part.cache.0 - 1) None ∙ c.alike.caches;
            regions = ap (λ (x : Machine). x.regions_made) done.next ∙ c.alike.regions;
          };
          rises = counts_sum c.rises it.rises;
          rose = rise_then (M.counts before) (M.counts now) (M.counts after) c.rises it.rises c.rose it.rose;
          segments = segments_after M G mix.gmi gmi now after (vm_commands.Destroy part.cache) a old.images.items (length old.processes.items) (numbered old.processes.items) (spare_of (rest ++ part ∷ [])) c.able call ∙ c.segments;
        }
