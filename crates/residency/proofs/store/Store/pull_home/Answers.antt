use Rattle.std.proofs.Common.{sym, ap, subst, ◌∙◌, ◌≡◌, ℕ, List, Bool, false, is_some, Ok, Err, refl, length, rules}
use Rattle.frame_pool.specs.Lending.{refill}
use Rattle.frame_pool.specs.Pool.{bytes_of}
use Rattle.local_cache.specs.declared.own_state.OwnState.TheVariants.{OnSegment}
use Rattle.residency.specs.Between.{world_at}
use Rattle.residency.specs.declared.miss.Miss.TheVariants.{Pull}
use Rattle.residency.specs.Filling.{Fills}
use Rattle.residency.specs.World.{World, is_clean}
use Rattle.residency.specs.declared.store.Store.{Store}
use Rattle.residency.proofs.Worlds.Homes.{world_is}
use Rattle.residency.proofs.Moves.GivenUp.{given_is, given_up, refill_same}
use Rattle.residency.proofs.Moves.Brought.{brought, home_brought}
use Rattle.residency.proofs.Moves.Filled.{brought_fills, given_up_fills}
use Rattle.residency.proofs.store.Store.pull_home.Goals as goal

pub unwrap-home-requires : goal.unwrap-home-requires
unwrap-home-requires g c = ap is_some c.home.ensures ∙ c.requires.right.tied.backed.homes c.args.node (ap is_clean c.requires.on_segment)

pub pull_in-requires-clause-there : goal.pull_in-requires-clause-there
pull_in-requires-clause-there g c = c.requires.right.tied.backed.lies c.args.node c.unwrap-home.result (sym c.home.ensures ∙ c.unwrap-home.ensures)

pub returns-in-Ok-clause-fills : goal.returns-in-Ok-clause-fills
returns-in-Ok-clause-fills g c =
    let w : World = world_at g.M.Mapper c.args.mapper.now c.args.caches.now c.args.self.now in
    let bytes : List ℕ = c.pull_in.new.into in
    let full : refill (bytes_of c.args.self.now.frames c.args.frame.0) bytes ≡ bytes = refill_same (bytes_of c.args.self.now.frames c.args.frame.0) bytes (c.pull_in.auto.into ∙ ap (λ (b : List ℕ). length b) c.bytes_mut.ensures.bytes) in
    let slots : List Bool = c.args.self.now.slots in
    let before = g.M.Mapper.counts c.args.mapper.now in
    let now = g.M.Mapper.counts c.pull_in.new.self in
    let last = g.M.Mapper.given c.pull_in.new.self in
    subst (λ (v : World). Fills (Ok c.args.frame) c.args.node c.args.frame.0 last w v before now)
    (sym (world_is _ (brought w c.args.frame.0 c.args.node false slots bytes)
    c.pull_in.ensures.held
    c.pull_in.ensures.page
    c.settle_in.ensures.caches
    (ap (λ (s : Store). s.frames) c.settle_in.ensures.store ∙ ap (λ (b : List ℕ). (brought w c.args.frame.0 c.args.node false slots b).frames) full)
    (ap (λ (s : Store). s.slots) c.settle_in.ensures.store)
    (ap (λ (s : Store). s.map) c.settle_in.ensures.store)
    (ap (λ (s : Store). length s.marks) c.settle_in.ensures.store) (ap (λ (s : Store). length s.tables) c.settle_in.ensures.store)))
    (brought_fills w c.args.frame c.args.node bytes last before now OnSegment c.requires.right c.requires.taken c.requires.on_segment (search rules) false slots c.requires.node refl refl refl
    (home_brought w c.args.frame.0 c.args.node c.unwrap-home.result bytes c.requires.right c.requires.taken c.requires.node c.requires.on_segment (sym c.home.ensures ∙ c.unwrap-home.ensures) c.in-Ok.ensures.bytes)
    (λ zero. absurd (cc zero)) (λ _. given_is (g.M.Mapper.given c.args.mapper.now) last bytes c.in-Ok.ensures.given) (search rules))

pub returns-in-Err-clause-fills : goal.returns-in-Err-clause-fills
returns-in-Err-clause-fills g c =
    let w : World = world_at g.M.Mapper c.args.mapper.now c.args.caches.now c.args.self.now in
    let bytes : List ℕ = refill (bytes_of c.args.self.now.frames c.args.frame.0) c.pull_in.new.into in
    let before = g.M.Mapper.counts c.args.mapper.now in
    let now = g.M.Mapper.counts c.pull_in.new.self in
    let last = g.M.Mapper.given c.pull_in.new.self in
    subst (λ (v : World). Fills (Err Pull) c.args.node c.args.frame.0 last w v before now)
    (sym (world_is _ (given_up w c.args.frame.0 bytes) c.pull_in.ensures.held c.pull_in.ensures.page refl
    (ap (λ (s : Store). s.frames) c.give_up.ensures) (ap (λ (s : Store). s.slots) c.give_up.ensures) (ap (λ (s : Store). s.map) c.give_up.ensures) (ap (λ (s : Store). length s.marks) c.give_up.ensures) (ap (λ (s : Store). length s.tables) c.give_up.ensures)))
    (given_up_fills w c.args.frame c.args.node bytes last before now OnSegment c.requires.right c.requires.taken c.requires.on_segment (search rules) (search rules) (search rules))
