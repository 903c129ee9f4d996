-- Caches that are kept are destroyed while more are kept than may be.
use Rattle.std.proofs.Common.{◌≡◌, ◌⊎◌, inl, inr, ℕ, zero, suc, ◌-◌, ◌<◌, ◌≤◌, List, [], ◌∷◌, length, drop, take, refl, sym, ap, ◌∙◌, arith}
use Rattle.std.proofs.lemmas.List.{drop-map, length-drop, length-map}
use Rattle.gmi_calls.proofs.Rising.{rise_then}
use Rattle.interface_callers.proofs.Words.{GhostsOfGmi, GhostsOfMapper, MapperCounts, Rise, Rose, Trouble, counts_sum}
use Rattle.seg_manager.specs.Seen.{kept_segments}
use Rattle.seg_manager.specs.Thinning.{Fails, Thins, Trims, credit}
use Rattle.seg_manager.specs.Tying.{CanCall}
use Rattle.seg_manager.specs.declared.manager.SegManager.{SegManager}
use Rattle.seg_manager.specs.declared.tables.Kept.{Kept}
use Rattle.seg_manager.proofs.Calling.Pushing.{pages_of, pushes_then}
use Rattle.seg_manager.proofs.Room.Thinned.{thins_none, thins_then}

-- so much was dropped as is missing
drop_missing : {A : Type 0} (n : ℕ) (xs ys : List A) → ys ≡ drop n xs → ys ≡ drop (length xs - length ys) xs
drop_missing n xs ys e = e ∙ by n xs ∙ ap (λ (k : ℕ). drop (length xs - k) xs) (sym (ap length e))
  where
    by : {A : Type 0} (n : ℕ) (xs : List A) → drop n xs ≡ drop (length xs - length (drop n xs)) xs
    by zero xs = ap (λ (k : ℕ). drop k xs) (let s : 0 ≡ length xs - length xs = omega arith in s)
    by (suc n) [] = refl
    by (suc n) (x ∷ xs) = by n xs ∙ ap (λ (k : ℕ). drop k (x ∷ xs)) (let s : suc (length xs - length (drop n xs)) ≡ suc (length xs) - length (drop n xs) = omega (arith, length-drop n xs) in s)

-- the same of the segments
segments_missing : (n : ℕ) (xs ys : List Kept) → ys ≡ drop n xs → kept_segments ys ≡ drop (length (kept_segments xs) - length (kept_segments ys)) (kept_segments xs)
segments_missing n xs ys e = drop_missing n (kept_segments xs) (kept_segments ys) (ap kept_segments e ∙ sym (drop-map (λ (k : Kept). k.seg.0) n xs))

module _ {Manager X Chooser : Type 0} (M : GhostsOfMapper X) (G : GhostsOfGmi Manager X Chooser) (before : X) (old : SegManager Manager) where
  -- Some were destroyed, while more were kept than may be.
  pub record IsTrimming (now : X) (manager : SegManager Manager) : Type 0 where
    pub thins : Thins M G before old now manager
    pub more : (old.limit ≤ length manager.kept.items) ⊎ (manager.kept.items ≡ old.kept.items)

  pub trimming_none : CanCall G old (M.held before) (M.page_bytes before) → IsTrimming before old
  trimming_none can = record { thins = thins_none M G before old can; more = inr refl }

  module _ (now : X) (manager : SegManager Manager) (t : IsTrimming now manager) where
    -- what a further destroy may raise
    pub made_less : G.made manager.gmi ≤ credit M G old before
    made_less = omega (arith, t.thins.credit)

    pub trimming_more : (after : X) (new : SegManager Manager) → manager.limit < length manager.kept.items → Thins M G now manager after new → new.kept.items ≡ drop 1 manager.kept.items → IsTrimming after new
    trimming_more after new many thins one = record {
      thins = thins_then M G before old now manager after new t.thins thins;
      more = inl (omega (arith, many, ap length one, length-drop 1 manager.kept.items, t.thins.limit));
    }

    -- what is left, and what was
    few : (length (kept_segments old.kept.items) - length (kept_segments manager.kept.items)) ≤ length (kept_segments old.kept.items) - old.limit
    few =
        let a : length (kept_segments old.kept.items) ≡ length old.kept.items = length-map old.kept.items (λ (k : Kept). k.seg.0) in
        let b : length (kept_segments manager.kept.items) ≡ length manager.kept.items = length-map manager.kept.items (λ (k : Kept). k.seg.0) in
        elim t.more [
          | inl h ↦ omega (arith, a, b, h)
          | inr e ↦ omega (arith, a, b, ap length e)
        ]

    pub trimmed : length manager.kept.items ≤ manager.limit → Trims M G before old now manager
    trimmed done = record {
      can = t.thins.can;
      seen = t.thins.seen;
      denied = t.thins.denied;
      limit = t.thins.limit;
      regions = t.thins.regions;
      kept = record {
        gone = length (kept_segments old.kept.items) - length (kept_segments manager.kept.items);
        is = segments_missing t.thins.gone old.kept.items manager.kept.items t.thins.kept;
        few = few;
        last = inl (all_gone t.more);
      };
      made = omega (arith, made_less);
      rises = t.thins.rises;
      rose = t.thins.rose;
      pushed = t.thins.pushed;
    }
      where
        a : length (kept_segments old.kept.items) ≡ length old.kept.items
        a = length-map old.kept.items (λ (k : Kept). k.seg.0)

        b : length (kept_segments manager.kept.items) ≡ length manager.kept.items
        b = length-map manager.kept.items (λ (k : Kept). k.seg.0)

        all_gone : (old.limit ≤ length manager.kept.items) ⊎ (manager.kept.items ≡ old.kept.items) → length (kept_segments old.kept.items) - length (kept_segments manager.kept.items) ≡ length (kept_segments old.kept.items) - old.limit
        all_gone (inl h) = omega (arith, a, b, h, done, t.thins.limit)
        all_gone (inr e) = omega (arith, a, b, ap length e, done, t.thins.limit)

    rise_failed : (a b r : MapperCounts) → Rise a b r → 0 < r.faults → Rose a.faults b.faults
    rise_failed a b r rise some less = omega (arith, rise.faults less, some)

    -- one couldn't be destroyed
    pub trimmed_failed : (trouble : Trouble) (after : X) (new : SegManager Manager) → Fails M G now manager trouble after new → Trims M G before old after new
    trimmed_failed trouble after new f = record {
      can = f.can;
      seen = f.seen ∙ t.thins.seen;
      denied = f.denied ∙ t.thins.denied;
      limit = ap (λ (x : SegManager Manager). x.limit) f.same ∙ t.thins.limit;
      regions = ap (λ (x : SegManager Manager). x.regions) f.same ∙ t.thins.regions;
      kept = record {
        gone = length (kept_segments old.kept.items) - length (kept_segments manager.kept.items);
        is = ap (λ (x : SegManager Manager). kept_segments x.kept.items) f.same ∙ segments_missing t.thins.gone old.kept.items manager.kept.items t.thins.kept;
        few = few;
        last = inr (rise_failed (M.counts before) (M.counts after) (counts_sum t.thins.rises f.rises)
            (rise_then (M.counts before) (M.counts now) (M.counts after) t.thins.rises f.rises t.thins.rose f.rose) (omega (arith, f.failed)));
      };
      made = omega (arith, made_less, f.made);
      rises = counts_sum t.thins.rises f.rises;
      rose = rise_then (M.counts before) (M.counts now) (M.counts after) t.thins.rises f.rises t.thins.rose f.rose;
      pushed = pushes_then M G before now after old manager t.thins.rises f.rises (pages_of M G before now old manager (take t.thins.gone (kept_segments old.kept.items)) t.thins.machine) t.thins.pushed f.pushed;
    }
