use Rattle.std.proofs.Common.{◌≡◌, ◌≤◌, List, [], ◌∷◌, Some, None, sym, ap, subst, ◌∙◌, slice_get, refl, inl}
use Rattle.vm_ids.specs.declared.numbers.NodeId.{NodeId}
use Rattle.local_cache.specs.Arena.{Arena, HasNode, cell}
use Rattle.local_cache.specs.Reading.{forest_of}
use Rattle.local_cache.specs.Sound.{IsSound, ◌∈◌}
use Rattle.history_tree.specs.Hanging.{IsGrown, IsPutBetween}
use Rattle.history_tree.proofs.Hang.{CanLink, Linked, links-first, links-more}
use Rattle.history_tree.proofs.linking.link.Goals as goal

none_there : (ts : List NodeId) → None ≡ slice_get ts 0 → ts ≡ []
none_there [] e = refl
none_there (t ∷ ts) e = absurd (cc e)

rest_of : (ts : List NodeId) (h : NodeId) → Some h ≡ slice_get ts 0 → (rest : List NodeId) × (ts ≡ h ∷ rest)
rest_of [] h e = absurd (cc e)
rest_of (t ∷ ts) h e = (ts, let same : h ≡ t = cc e in ap (λ k. k ∷ ts) (sym same))

first_child : (a : Arena) (s : NodeId) (h : NodeId) → IsSound a → HasNode a s → Some h ≡ slice_get (cell a s).tree 0 → HasNode a h
first_child a s h sound hs e = let r = rest_of (cell a s).tree h e in sound.kept.children s h hs (subst (λ ts. h ∈ ts) (sym r.1) (inl refl))

pub put_between-requires-clause-h : goal.put_between-requires-clause-h
put_between-requires-clause-h c = first_child c.args.caches.now c.args.s c.in-Some.h c.requires.sound c.requires.s c.in-Some.ensures

more : (a b : Arena) (d s h : NodeId) → CanLink a d s → Some h ≡ slice_get (cell a s).tree 0 → 1 ≤ a.room.nodes → IsPutBetween a b d s h → Linked a b d s
more a b d s h can e roomy put = let r = rest_of (cell a s).tree h e in subst (λ x. Linked a x d s) (sym put.is) (links-more a d s put.working h r.0 can r.1 put.fresh roomy)

pub returns-in-None : goal.returns-in-None
returns-in-None c =
    let r = c.requires in
    let can : CanLink c.args.caches.now c.args.d c.args.s = record { sound = r.sound; held_d = r.d; held_s = r.s; bare = r.bare; live = r.live; apart = r.apart } in
    record {
      forest = ap forest_of c.hang_one.ensures.changed ∙ (links-first c.args.caches.now c.args.d c.args.s can (none_there _ c.in-None.ensures)).forest;
      sound = subst IsSound (sym c.hang_one.ensures.changed) (links-first c.args.caches.now c.args.d c.args.s can (none_there _ c.in-None.ensures)).sound;
      grown = subst (IsGrown c.args.caches.now) (sym c.hang_one.ensures.changed) (links-first c.args.caches.now c.args.d c.args.s can (none_there _ c.in-None.ensures)).grown;
    }

pub returns-in-Some : goal.returns-in-Some
returns-in-Some c =
    let r = c.requires in
    let can : CanLink c.args.caches.now c.args.d c.args.s = record { sound = r.sound; held_d = r.d; held_s = r.s; bare = r.bare; live = r.live; apart = r.apart } in
    record {
      forest = (more c.args.caches.now _ c.args.d c.args.s c.in-Some.h can c.in-Some.ensures r.room c.put_between.ensures).forest;
      sound = (more c.args.caches.now _ c.args.d c.args.s c.in-Some.h can c.in-Some.ensures r.room c.put_between.ensures).sound;
      grown = (more c.args.caches.now _ c.args.d c.args.s c.in-Some.h can c.in-Some.ensures r.room c.put_between.ensures).grown;
    }
