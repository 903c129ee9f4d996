-- Working nodes gave way, one alone or many at once, and the store follows.
use Rattle.std.proofs.Common.{◌≡◌, ℕ, zero, suc, ◌<◌, ◌≤◌, [], length, refl, sym, ap, ◌∙◌, subst, inl, inr, arith}
use Rattle.vm_ids.specs.declared.node_name.NodeName.TheVariants.{Working}
use Rattle.vm_ids.specs.declared.numbers.NodeId.{NodeId}
use Rattle.vm_ids.specs.Forest.Shape.{IsConsistent}
use Rattle.local_cache.specs.declared.own_state.OwnState.{OwnState}
use Rattle.local_cache.specs.declared.own_state.OwnState.TheVariants.{Absent, Zero, Resident, Slot, OnSegment}
use Rattle.local_cache.specs.Arena.{Arena}
use Rattle.local_cache.specs.Many.{IsPlain}
use Rattle.local_cache.specs.Own.{own_of, own_states}
use Rattle.local_cache.specs.Reading.{forest_of}
use Rattle.local_cache.specs.Sound.{IsSound}
use Rattle.residency.specs.World.{World, world}
use Rattle.residency.specs.declared.store.Store.{Store}
use Rattle.tree_merge.specs.declared.released.Released.{Released}
use Rattle.tree_merge.specs.declared.released.Released.TheVariants.{Nothing, Dropped, Moved}
use Rattle.tree_merge.specs.declared.step.Step.{Step}
use Rattle.tree_merge.specs.Releasing.{IsMerged, IsReleased}
use Rattle.tree_merge.specs.Settling.{AreMerged, AreMergedPlain, IsMergedPlain}
use Rattle.tree_merge.proofs.Releases.{ReleasedAt, merged_at, merged_released}
use Rattle.page_commands.specs.Following.{CanFollow, with_page_moved, without_page}
use Rattle.page_commands.specs.Steps.{AreSettleSteps, IsStoreTied, IsWorkingUnpinned, Releases}
use Rattle.page_commands.specs.Translating.{DropsFreed}
use Rattle.page_commands.proofs.CommandSteps.Steps.{one_step}
use Rattle.page_commands.proofs.FreedFrames.Freed.{same_freed}
use Rattle.page_commands.proofs.NodesGone.Elsewhere.{IsFollowed}
use Rattle.page_commands.proofs.NodesGone.Merged.{merged_can, merged_kept, merged_step}
use Rattle.page_commands.proofs.TiedStores.Kept.{kept_both, unpinned_kept}
use Rattle.page_commands.proofs.TiedStores.Sized.{released_fewer}

-- Some steps were done, with what they keep.
pub record Merges (s : Store) (a : Arena) (t : Store) (b : Arena) : Type 0 where
  pub steps : AreSettleSteps s a t b
  pub kept : Releases [] s a t b
  pub fewer : length (own_states b) ≤ length (own_states a)

-- some more behind them
merges_then : (s : Store) (a : Arena) (t : Store) (b : Arena) (u : Store) (c : Arena) → IsStoreTied s a → Merges s a t b → Merges t b u c → Merges s a u c
merges_then s a t b u c tied f g = record {
  steps = record {
    nodes = g.steps.nodes ∙ f.steps.nodes;
    forest = λ told size fit. g.steps.forest told size (f.kept.gives_back told size fit).tied ∙ f.steps.forest told size fit;
    frames = g.steps.frames ∙ f.steps.frames;
    consistent = g.steps.consistent;
    counters = (g.steps.counters.0 ∙ f.steps.counters.0, g.steps.counters.1 ∙ f.steps.counters.1);
    room = omega (arith, f.steps.room, g.steps.room);
    fewer = omega (arith, f.steps.fewer, g.steps.fewer);
  };
  kept = kept_both s a t b u c tied f.kept g.kept;
  fewer = omega (arith, f.fewer, g.fewer);
}

-- One alone
module _ (s : Store) (a b : Arena) (r : Released) (is : IsMerged a b r) (released : IsReleased a b r) (sound : IsSound a) (sound_b : IsSound b) (consistent : IsConsistent (forest_of a)) (tied : IsStoreTied s a) (unpinned : IsWorkingUnpinned s a) where
  one_merges : (t : Store) → IsFollowed s t b r → DropsFreed s t → Merges s a t b
  one_merges t after tables = record {
    steps = one_step s a t b sound consistent (merged_step a b sound r is released s tied unpinned t after sound_b);
    kept = merged_kept a b sound r is released s tied unpinned t after sound_b tables;
    fewer = released_fewer a b r released;
  }

-- Where a page goes, or is another node's, that is in no frame and in no slot, nothing falls free

nothing_left : (w : World) (n : NodeId) (x : OwnState) → IsPlain x → w ≡ without_page w n x
nothing_left w n Absent plain = refl
nothing_left w n Zero plain = refl
nothing_left w n (Resident dirty) plain = absurd plain
nothing_left w n (Slot k) plain = absurd plain
nothing_left w n OnSegment plain = refl

nothing_moved : (w : World) (from to : NodeId) (x : OwnState) → IsPlain x → w ≡ with_page_moved w from to x
nothing_moved w from to Absent plain = refl
nothing_moved w from to Zero plain = refl
nothing_moved w from to (Resident dirty) plain = absurd plain
nothing_moved w from to (Slot k) plain = absurd plain
nothing_moved w from to OnSegment plain = refl

plain_follows : (s : Store) (a b : Arena) (node : NodeId) (r : Released) → ReleasedAt a node r → IsReleased a b r → IsPlain (own_of a node) → IsFollowed s s b r
plain_follows s a b node Nothing at is plain told size = refl
plain_follows s a b node (Dropped n x) at is plain told size = nothing_left (world told size b s) n x (subst IsPlain (sym at.1) plain)
plain_follows s a b node (Moved from to) at is plain told size =
    nothing_moved (world told size b s) from to (own_of b to) (subst IsPlain (sym (is.passed ∙ ap (own_of a) at.0)) plain)

-- the store is as it was
plain_merges : (s : Store) (a b : Arena) → IsMergedPlain a b → IsSound b → IsConsistent (forest_of a) → IsStoreTied s a → IsWorkingUnpinned s a → Merges s a s b
plain_merges s a b is sound_b consistent tied unpinned =
    let r = is.released in
    let released = merged_released a b is.sound r is.merged in
    one_merges s a b r is.merged released is.sound sound_b consistent tied unpinned
    s (plain_follows s a b is.merged.node r (merged_at a b is.sound r is.merged) released is.plain) (same_freed s s refl refl)

-- Many at once
module _ (s : Store) (a : Arena) (consistent : IsConsistent (forest_of a)) (tied : IsStoreTied s a) (unpinned : IsWorkingUnpinned s a) where
  all_merge : (k : ℕ) (b : Arena) → IsSound b → AreMergedPlain a b (suc k) → Merges s a s b
  all_merge zero b sound_b is = plain_merges s a b (subst (λ c. IsMergedPlain c b) is.1 is.2) sound_b consistent tied unpinned
  all_merge (suc k) b sound_b is =
      let c : Arena = is.0 in
      let so_far : Merges s a s c = all_merge k c is.2.sound is.1 in
      let still : IsWorkingUnpinned s c = λ number. unpinned_kept [] s a s c tied so_far.kept (Working number) (unpinned number) in
      merges_then s a s c s b tied so_far (plain_merges s c b is.2 sound_b so_far.steps.consistent so_far.kept.tied still)

  some_merge : (count : ℕ) (b : Arena) → 0 < count → IsSound b → AreMergedPlain a b count → Merges s a s b
  some_merge zero b some sound_b is = absurd (omega (arith, some))
  some_merge (suc k) b some sound_b is = all_merge k b sound_b is

-- One alone or many at once
module _ (s : Store) (a b : Arena) (step : Step) (is : AreMerged a b step) (sound : IsSound a) (tied : IsStoreTied s a) (unpinned : IsWorkingUnpinned s a) where
  pub step_can : CanFollow s b step.released
  step_can = elim is.how [
    | inl many ↦ subst (CanFollow s b) (sym many.0) tt
    | inr one ↦ merged_can a b sound step.released one.1 one.2 s tied unpinned
  ]

  pub step_merges : IsSound b → IsConsistent (forest_of a) → (t : Store) → IsFollowed s t b step.released → DropsFreed s t → (step.released ≡ Nothing → t ≡ s) → Merges s a t b
  step_merges sound_b consistent t after tables same = elim is.how [
    | inl many ↦ subst (λ u. Merges s a u b) (sym (same many.0)) (some_merge s a consistent tied unpinned step.pages b is.some sound_b many.1)
    | inr one ↦ one_merges s a b step.released one.1 one.2 sound sound_b consistent tied unpinned t after tables
  ]
