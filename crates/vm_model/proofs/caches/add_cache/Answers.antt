use Rattle.std.proofs.Common.{◌≡◌, [], ◌∷◌, ◌++◌, Some, length, ap, rules, arith}
use Rattle.std.proofs.lemmas.List.{length-append, length-map}
use Rattle.std.proofs.lemmas.List.Elements.{All-push}
use Rattle.vm_model.specs.declared.tables.Cache.{Cache}
use Rattle.vm_model.specs.Seen.{HasPages}
use Rattle.vm_model.proofs.Machines.Sound.{placed-push, live-push}
use Rattle.vm_model.proofs.caches.add_cache.Goals as goal

pub returns-clause-sound : goal.returns-clause-sound
returns-clause-sound c =
    let t = c.args.tables.now in
    let made : Cache = c.args.cache in
    let sound = c.requires.sound in
    let items : c.push.new.self.items ≡ t.caches.items ++ Some made ∷ [] = search rules in
    record {
      some = sound.some;
      most = sound.most;
      few_actors = sound.few_actors;
      few_caches = omega (arith, c.requires.few, ap length items, length-append t.caches.items (Some made ∷ []));
      living = sound.living;
      live = rw items (omega (arith, sound.live, c.len-pages.ensures, made.pages.ok.0, c.requires.room, live-push t.caches.items (Some made), length-map made.pages.items (λ p. p.items)));
      whole = rw items (All-push (HasPages t.page_bytes) t.caches.items (Some made) sound.whole c.requires.whole);
      placed = rw items (placed-push t.page_bytes t.caches.items (Some made) t.actors.items sound.placed);
    }
