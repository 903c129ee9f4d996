-- A node was renewed for a copy, and is to be hung on its source's.
use Rattle.std.proofs.Common.{◌≡◌, ◌≢◌, ◌+◌, ◌≤◌, Bool, true, Some, None, sym, ap, ◌∙◌, subst}
use Rattle.vm_ids.specs.declared.node_name.NodeName.TheVariants.{Live}
use Rattle.vm_ids.specs.declared.numbers.CacheId.{CacheId}
use Rattle.vm_ids.specs.declared.numbers.NodeId.{NodeId}
use Rattle.vm_ids.specs.declared.numbers.PageNo.{PageNo}
use Rattle.vm_ids.specs.Forest.Laws.Linking.{ArePages}
use Rattle.vm_ids.specs.Forest.Nodes.{childless, is_live, node}
use Rattle.vm_ids.specs.Forest.Nodes.Hang.{Root}
use Rattle.vm_ids.specs.Forest.Shape.{IsConsistent}
use Rattle.local_cache.specs.declared.own_state.OwnState.TheVariants.{Absent}
use Rattle.local_cache.specs.Arena.{Arena, HasNode, node_at}
use Rattle.local_cache.specs.Reading.{forest_of, name_of}
use Rattle.local_cache.specs.Sound.{IsSound}
use Rattle.tree_merge.specs.declared.released.Released.{Released}
use Rattle.tree_merge.specs.Stepping.{IsCopiedAlone, IsDetachedAlone, IsHung}
use Rattle.tree_merge.proofs.PagesAlone.Copied.{detached_room}
use Rattle.tree_merge.proofs.PagesAlone.Detached as after
use Rattle.tree_merge.proofs.PagesAlone.Others.{detached_there, live_name, page_has}

-- where both pages are named
module _ (a b : Arena) (sound : IsSound a) (consistent : IsConsistent (forest_of a)) (d s : NodeId) (held_s : HasNode a s) (fresh : NodeId) (r : Released)
    (to : CacheId) (to_page : PageNo) (from : CacheId) (from_page : PageNo) (pages : ArePages (forest_of a) (Live to to_page) (Live from from_page)) (named_s : name_of a s ≡ Live from from_page)
    (is : IsDetachedAlone a b to to_page Absent r) (at : node_at b to.0 to_page.0 ≡ Some fresh) where
  other : name_of a s ≢ Live to to_page
  other e = pages.apart (sym e ∙ named_s)

  at_s : node_at b from.0 from_page.0 ≡ Some s
  at_s = page_has a b sound to to_page Absent r is s held_s other from from_page named_s

  pub name_d : name_of b fresh ≡ Live to to_page
  name_d = after.fresh_name a b consistent to from to_page from_page pages is.forest is.sound fresh s at at_s

  pub name_s : name_of b s ≡ Live from from_page
  name_s = after.origin_name a b consistent to from to_page from_page pages is.forest is.sound fresh s at at_s

  pub bare_d : node (forest_of b) (name_of b fresh) ≡ childless None Root
  bare_d = after.fresh_bare a b consistent to from to_page from_page pages is.forest is.sound fresh s at at_s

  pub apart_d : fresh ≢ s
  apart_d = after.fresh_apart a b consistent to from to_page from_page pages is.forest is.sound fresh s at at_s

  pub held_d : HasNode b fresh
  held_d = (is.sound.kept.listed.nodes to.0 to_page.0 fresh at).0

  pub made_d : b.made ≤ a.made + 1
  made_d = after.made_after a b consistent to from to_page from_page pages is.forest is.sound

-- where they are told by their nodes
module _ (a b : Arena) (sound : IsSound a) (consistent : IsConsistent (forest_of a)) (d s : NodeId) (held_s : HasNode a s) (fresh : NodeId) (r : Released)
    (pages : ArePages (forest_of a) (name_of a d) (name_of a s))
    (is : (cache : CacheId) (page : PageNo) → name_of a d ≡ Live cache page → IsDetachedAlone a b cache page Absent r)
    (at : (cache : CacheId) (page : PageNo) → name_of a d ≡ Live cache page → node_at b cache.0 page.0 ≡ Some fresh) where
  to : (cache : CacheId) × (page : PageNo) × (name_of a d ≡ Live cache page)
  to = live_name (name_of a d) pages.live_destination

  from : (cache : CacheId) × (page : PageNo) × (name_of a s ≡ Live cache page)
  from = live_name (name_of a s) pages.live_source

  named : ArePages (forest_of a) (Live to.0 to.1) (Live from.0 from.1)
  named = subst (ArePages (forest_of a) (Live to.0 to.1)) from.2 (subst (λ x. ArePages (forest_of a) x (name_of a s)) to.2 pages)

  detached : IsDetachedAlone a b to.0 to.1 Absent r
  detached = is to.0 to.1 to.2

  pub renewed_sound : IsSound b
  renewed_sound = detached.sound

  pub renewed_bare : node (forest_of b) (name_of b fresh) ≡ childless None Root
  renewed_bare = bare_d a b sound consistent d s held_s fresh r to.0 to.1 from.0 from.1 named from.2 detached (at to.0 to.1 to.2)

  pub renewed_apart : fresh ≢ s
  renewed_apart = apart_d a b sound consistent d s held_s fresh r to.0 to.1 from.0 from.1 named from.2 detached (at to.0 to.1 to.2)

  pub renewed_held : HasNode b fresh
  renewed_held = held_d a b sound consistent d s held_s fresh r to.0 to.1 from.0 from.1 named from.2 detached (at to.0 to.1 to.2)

  pub source_held : HasNode b s
  source_held = (detached_there a b sound to.0 to.1 Absent r detached s held_s (λ e. named.apart (sym e ∙ from.2))).held ∙ held_s

  pub source_live : is_live (name_of b s) ≡ true
  source_live = ap is_live (name_s a b sound consistent d s held_s fresh r to.0 to.1 from.0 from.1 named from.2 detached (at to.0 to.1 to.2))

  pub renewed_made : b.made ≤ a.made + 1
  renewed_made = made_d a b sound consistent d s held_s fresh r to.0 to.1 from.0 from.1 named from.2 detached (at to.0 to.1 to.2)

  pub renewed_room : a.room.nodes ≤ b.room.nodes + 1
  renewed_room = detached_room a b to.0 to.1 Absent r detached

  -- it is hung on the source's: the page is copied
  pub hung_alone : (is_small : Bool) (c : Arena) → IsHung is_small b c (name_of b fresh) (name_of b s) → IsSound c
      → (cache : CacheId) (page : PageNo) (other : CacheId) (other_page : PageNo) → name_of a d ≡ Live cache page → name_of a s ≡ Live other other_page
      → IsCopiedAlone is_small a c cache page other other_page r
  hung_alone is_small c hung sound_c cache page other other_page named_d named_s =
      let two : ArePages (forest_of a) (Live cache page) (Live other other_page) =
      subst (ArePages (forest_of a) (Live cache page)) named_s (subst (λ x. ArePages (forest_of a) x (name_of a s)) named_d pages) in
      let one : IsDetachedAlone a b cache page Absent r = is cache page named_d in
      let name_d_b : name_of b fresh ≡ Live cache page = name_d a b sound consistent d s held_s fresh r cache page other other_page two named_s one (at cache page named_d) in
      let name_s_b : name_of b s ≡ Live other other_page = name_s a b sound consistent d s held_s fresh r cache page other other_page two named_s one (at cache page named_d) in
      record {
        between = b;
        detached = one;
        hung = subst (IsHung is_small b c (Live cache page)) name_s_b (subst (λ x. IsHung is_small b c x (name_of b s)) name_d_b hung);
        sound = sound_c;
      }
