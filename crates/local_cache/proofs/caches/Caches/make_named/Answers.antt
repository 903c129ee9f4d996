use Rattle.std.proofs.Common.{Some, refl, ap, ◌∙◌, map}
use Rattle.vm_ids.specs.Forest.Commands.{make, page_names}
use Rattle.local_cache.specs.declared.own_state.OwnState.TheVariants.{OnSegment}
use Rattle.local_cache.specs.Reading.{forest_of}
use Rattle.local_cache.proofs.NewCache.Forest.{made-forest, made-sound}
use Rattle.local_cache.proofs.caches.Caches.make_named.Goals as goal

pub returns-clause-forest : goal.returns-clause-forest
returns-clause-forest c sound =
    let made = c.make.ensures.made in
    made-forest c.args.self.now c.make.new.self c.make.result (Some c.args.seg) OnSegment made.0 made.2 refl sound
    ∙ ap (λ k. make (map (λ x. (x, OnSegment)) (page_names c.make.result 0 k)) (forest_of c.args.self.now)) made.1

pub returns-clause-sound : goal.returns-clause-sound
returns-clause-sound c sound =
    let made = c.make.ensures.made in
    made-sound c.args.self.now c.make.new.self c.make.result (Some c.args.seg) OnSegment made.0 made.2 refl sound
