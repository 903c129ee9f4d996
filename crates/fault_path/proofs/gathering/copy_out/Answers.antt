use Rattle.vm_ids.specs.declared.numbers.FrameId.{FrameId}
use Rattle.std.proofs.Common.{◌≡◌, ◌∙◌, subst, sym}
use Rattle.local_cache.specs.declared.own_state.OwnState.{OwnState}
use Rattle.local_cache.specs.declared.own_state.OwnState.TheVariants.{Zero}
use Rattle.local_cache.specs.Own.{own_of}
use Rattle.residency.specs.Between.{world_at}
use Rattle.residency.specs.World.{World}
use Rattle.fault_path.specs.Costs.{frames_to_copy, pulls_to_copy}
use Rattle.fault_path.specs.Gathering.{Gathers, IsCopiedOut}
use Rattle.residency.proofs.Translations.Kept.{drops_more}
use Rattle.fault_path.specs.Translating.{Nobody}
use Rattle.fault_path.proofs.Frames.ComingFrames.{more_come}
use Rattle.fault_path.specs.Coming.{IsBroughtIn}
use Rattle.fault_path.proofs.gathering.copy_out.Goals as goal

pub returns-in-Zero-clause-copied : goal.returns-in-Zero-clause-copied
returns-in-Zero-clause-copied g c =
    let old : World = world_at g.M.Mapper c.args.mapper.now c.args.caches.now c.args.store.now in
    let w : World = world_at g.M.Mapper c.zeroed.new.mapper c.zeroed.new.caches c.zeroed.new.store in
    let zero : own_of c.args.caches.now c.args.node ≡ Zero = sym c.own_state.ensures ∙ c.in-Zero.is in
    subst (λ (own : OwnState). Gathers c.zeroed.result (λ (f : FrameId). IsCopiedOut c.args.node f.0) (pulls_to_copy own) (frames_to_copy own) old w (g.M.Mapper.counts c.args.mapper.now) (g.M.Mapper.counts c.zeroed.new.mapper)) (sym zero) c.zeroed.ensures.copied

pub returns-in-Zero-clause-drops : goal.returns-in-Zero-clause-drops
returns-in-Zero-clause-drops g c = drops_more Nobody (λ n. n ≡ c.args.node) c.args.caches.now c.zeroed.new.caches c.args.store.now c.zeroed.new.store (λ n e. absurd e) c.zeroed.ensures.drops

pub returns-in-Zero-clause-frames : goal.returns-in-Zero-clause-frames
returns-in-Zero-clause-frames g c = more_come Nobody (IsBroughtIn c.args.caches.now c.args.node) _ _ (λ n e. absurd e) c.zeroed.ensures.frames
