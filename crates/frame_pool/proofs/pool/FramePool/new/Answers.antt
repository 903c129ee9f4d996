use Rattle.std.proofs.Common.{rules, ◌≡◌, ◌-◌, ℕ, false, List, Bool, ◌++◌, length, replicate, ap, ◌∙◌, arith}
use Rattle.std.proofs.lemmas.List.{length-replicate}
use Rattle.number_pool.specs.Layout.{numbers_seen}
use Rattle.frame_pool.specs.Region.{Pages}
use Rattle.frame_pool.proofs.Evictable.{sound_opened}
use Rattle.frame_pool.proofs.pool.FramePool.new.Goals as goal

-- the numbers of the frames are all free
none_held : (c : goal.In_ok-new-2) → numbers_seen c.held.inside ≡ replicate c.args.frames false
none_held c =
    c.held.view_is ∙ c.in_ok-reserve.ensures.ok
    ∙ ap (λ (old : List Bool). old ++ replicate (c.args.frames - length old) false) c.new-held.ensures
    ∙ ap (λ (n : ℕ). replicate n false) (omega arith)

pub invariant_of-result-2 : goal.invariant_of-result-2
invariant_of-result-2 c =
    sound_opened (record { held = numbers_seen c.held.inside; pinned = c.in_ok-vec.field-0; evictable = c.in_ok-new.field-0; region = c.in_ok-new-2.field-0 })
    c.args.frames c.requires.frames (none_held c) (search rules) c.in_ok-new.ensures
    (ap (λ (r : Pages). length r.bytes) c.in_ok-new-2.ensures ∙ length-replicate c.args.frames (replicate {A = ℕ} c.args.page 0))
