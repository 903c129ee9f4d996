-- A page was moved, and what was released followed in the store: it is the rule for the forest of
-- bytes.
use Rattle.std.proofs.Common.{◌≡◌, ℕ, [], Option, Some, None, IsSome, refl, sym, ap, ◌∙◌, subst, inl, inr}
use Rattle.std.specs.Prelude.{option_map, replicate}
use Rattle.vm_ids.specs.Held.{Held}
use Rattle.vm_ids.specs.declared.node_name.NodeName.{NodeName}
use Rattle.vm_ids.specs.declared.node_name.NodeName.TheVariants.{Live}
use Rattle.vm_ids.specs.declared.numbers.CacheId.{CacheId}
use Rattle.vm_ids.specs.declared.numbers.PageNo.{PageNo}
use Rattle.vm_ids.specs.Forest.Changes.{put, rename}
use Rattle.vm_ids.specs.Forest.Nodes.{childless}
use Rattle.vm_ids.specs.Forest.Nodes.Hang.{Root}
use Rattle.vm_ids.specs.Forest.Rules.{move_page, retire}
use Rattle.local_cache.specs.declared.own_state.OwnState.TheVariants.{Zero}
use Rattle.vm_ids.specs.declared.numbers.NodeId.{NodeId}
use Rattle.local_cache.specs.Arena.{Arena, Cell, HasNode, cell, is_granted, locks_of, tables_with, with_name}
use Rattle.local_cache.specs.Home.{home_named, home_of}
use Rattle.local_cache.specs.Own.{own_of}
use Rattle.local_cache.specs.Whole.{SameCaches}
use Rattle.local_cache.proofs.Changes.Granted.{grants-tables_with}
use Rattle.local_cache.proofs.Changes.Locked.{locks-tables_with}
use Rattle.local_cache.proofs.Names.PageName.{name_other, renamed_own, renamed_sizes}
use Rattle.local_cache.proofs.Nodes.Cells.{cell-put}
use Rattle.local_cache.proofs.Nodes.OwnStates.{id_cases}
use Rattle.local_cache.specs.Reading.{name_of}
use Rattle.local_cache.specs.Sound.{IsSound}
use Rattle.residency.specs.declared.store.Store.{Store}
use Rattle.residency.specs.StoreForest.{store_forest}
use Rattle.residency.specs.World.{IsTied, is_clean, world}
use Rattle.tree_merge.specs.declared.released.Released.{Released}
use Rattle.move_pages.specs.Moved.{IsMoved}
use Rattle.tree_merge.proofs.Leaving.Sizes.{sizes_retired}
use Rattle.move_pages.proofs.Moves.{move_sizes, moved_kept, moved_vacant, origin_held, origin_name}
use Rattle.page_commands.specs.Following.{CanFollow, followed}
use Rattle.page_commands.specs.Homes.{IsUnclean, KeepsHomes, WasThere}
use Rattle.page_commands.specs.Steps.{ForAnyMapper, GivesBack, IsStoreTied, IsUnpinned, Releases, PinnedStayNamed, zeros_told}
use Rattle.page_commands.specs.Translating.{DropsFreed}
use Rattle.page_commands.proofs.TiedStores.Homes.{home_name}
use Rattle.page_commands.proofs.TiedStores.Kept.{gives_then, named_then, unpinned_by}
use Rattle.page_commands.proofs.NodesGone.Elsewhere.{StaysPut, can_with, followed_with, retired_put}
use Rattle.page_commands.proofs.NodesGone.Retired.{retire_back, retire_can, retire_forest, retire_homes, retire_named}
use Rattle.page_commands.proofs.NamedNodes.Taken.{free_homeless, retired_free}
use Rattle.page_commands.proofs.NamedNodes.Renamed.{renamed_back, renamed_bytes, renamed_home_other, renamed_pinned, renamed_unclean}
use Rattle.page_commands.proofs.NamedNodes.Detached.{fresh_back, fresh_forest, fresh_grants, fresh_is, fresh_locks, fresh_named, fresh_others}
use Rattle.page_commands.proofs.TiedStores.Named.{unclean_may}

renamed_name : (b : Arena) (n : NodeId) (x : NodeName) → name_of (with_name b n x) n ≡ x
unfolding cell
renamed_name b n x = ap (λ (c : Cell). c.name) (cell-put b n (record (cell b n) { name = x }))

-- what was granted stays under another name
renamed_grants : (b : Arena) (n : NodeId) (x : NodeName) (cache page : ℕ) → is_granted (with_name b n x) cache page ≡ is_granted b cache page
renamed_grants b n x cache page =
    let emptied : Arena = record b { caches = tables_with b.caches (name_of b n) None } in
    grants-tables_with emptied (with_name b n x) x (Some n) refl cache page ∙ grants-tables_with b emptied (name_of b n) None refl cache page

-- and so do the locks
renamed_locks : (b : Arena) (n : NodeId) (x : NodeName) (cache page : ℕ) → locks_of (with_name b n x) cache page ≡ locks_of b cache page
renamed_locks b n x cache page =
    let emptied : Arena = record b { caches = tables_with b.caches (name_of b n) None } in
    locks-tables_with emptied (with_name b n x) x (Some n) refl cache page ∙ locks-tables_with b emptied (name_of b n) None refl cache page

module _ (s : Store) (a : Arena) (sound : IsSound a) (tied : IsStoreTied s a) (from : CacheId) (from_page : PageNo) (to : CacheId) (to_page : PageNo) (unpinned : IsUnpinned s a (Live to to_page)) (unclean : IsUnclean a (Live to to_page)) (r : Released) (d : Arena) (m : IsMoved a d from from_page to to_page r) where
  abbrev x : NodeName
  x = Live to to_page

  abbrev y : NodeName
  y = Live from from_page

  abbrev b : Arena
  b = m.between

  abbrev c : Arena
  c = with_name m.between m.origin (Live to to_page)

  pub was : HasNode a m.cleared.node
  was = (sound.kept.listed.nodes to.0 to_page.0 m.cleared.node m.cleared.at).0

  pub was_named : name_of a m.cleared.node ≡ Live to to_page
  was_named = (sound.kept.listed.nodes to.0 to_page.0 m.cleared.node m.cleared.at).1

  pub there : HasNode m.between m.origin
  there = origin_held b m.cleared.sound to to_page m.cleared.vacant from from_page m.origin m.source c refl

  pub there_named : name_of m.between m.origin ≡ Live from from_page
  there_named = origin_name b m.cleared.sound to to_page m.cleared.vacant from from_page m.origin m.source c refl

  put_still : StaysPut r
  put_still = retired_put a b m.cleared.node r m.cleared.retired

  pub move_can : CanFollow s d r
  move_can = can_with s b d r put_still (retire_can s a b m.cleared.node x was was_named r m.cleared.retired m.cleared.told tied unpinned (unclean_may a x unclean))

  cleared_sizes : SameCaches a m.between
  cleared_sizes = sizes_retired a b m.cleared.node r m.cleared.retired

  moved_sizes : SameCaches a d
  moved_sizes = move_sizes b m.cleared.sound to to_page m.cleared.vacant from from_page m.origin m.source c refl m.fresh m.free d m.is a cleared_sizes

  module _ (t : Store) (after : (told : Option Held) (size : Option ℕ) → world told size d t ≡ followed (world told size d s) r) where
    pub before : (told : Option Held) (size : Option ℕ) → world told size m.between t ≡ followed (world told size m.between s) r
    before = followed_with s t b d r put_still after

  module _ (t : Store) (after : (told : Option Held) (size : Option ℕ) → world told size d t ≡ followed (world told size d s) r) (temporary : home_named a.caches (Live from from_page) ≡ None) where
    cleared_back : ForAnyMapper s a t b GivesBack
    cleared_back = retire_back s a b m.cleared.node x was was_named r m.cleared.retired m.cleared.told tied unpinned (unclean_may a x unclean) t (before t after)

    cleared_forest : ForAnyMapper s a t b (λ old now. store_forest now ≡ retire (store_forest old) (Live to to_page))
    cleared_forest = retire_forest s a b m.cleared.node x was was_named r m.cleared.retired m.cleared.told tied unpinned (unclean_may a x unclean) t (before t after) sound m.cleared.sound m.cleared.forest

    cleared_named : PinnedStayNamed s a b
    cleared_named = retire_named s a b m.cleared.node x was was_named r m.cleared.retired m.cleared.told tied unpinned (unclean_may a x unclean)

    cleared_homes : KeepsHomes [] a b
    cleared_homes = retire_homes s a b m.cleared.node x was was_named r m.cleared.retired m.cleared.told tied unpinned (unclean_may a x unclean)

    -- neither the node of the source nor the fresh one has a home
    source_home : home_named m.between.caches (Live from from_page) ≡ None
    source_home = home_name a b cleared_sizes y ∙ temporary

    left_home : home_named (with_name m.between m.origin (Live to to_page)).caches (Live from from_page) ≡ None
    left_home = home_name b c (renamed_sizes b m.cleared.sound.kept m.origin there y there_named to to_page m.cleared.vacant c refl) y ∙ source_home

    renamed_gives : (told : Option Held) (size : Option ℕ) → IsTied (world told size a s) → GivesBack (world told size b t) (world told size c t)
    renamed_gives told size fit = renamed_back b m.cleared.sound.kept m.origin there y there_named to to_page m.cleared.vacant c refl t source_home told size (cleared_back told size fit).tied
        (retired_free s a t b told size fit m.cleared.node x was_named r m.cleared.retired)

    pub move_back : ForAnyMapper s a t d GivesBack
    move_back told size fit =
        let one = cleared_back told size fit in
        let two = renamed_gives told size fit in
        gives_then (world told size a s) (world told size c t) (world told size d t) (gives_then (world told size a s) (world told size b t) (world told size c t) one two)
        (fresh_back t c m.fresh m.free from from_page Zero refl d m.is told size two.tied (free_homeless (world told size c t) y left_home))

    pub move_forest : IsSound d → ForAnyMapper s a t d (λ old now. store_forest now ≡ move_page (store_forest old) (Live to to_page) (Live from from_page) (zeros_told old))
    move_forest sound_d told size fit =
        let w = world told size a s in
        let one = cleared_back told size fit in
        fresh_forest t c m.fresh m.free from from_page Zero refl d m.is (moved_kept b m.cleared.sound to to_page m.cleared.vacant from from_page m.origin m.source c refl) sound_d.kept.named (moved_vacant b m.cleared.sound to to_page m.cleared.vacant from from_page m.origin m.source c refl) told size
        ∙ ap (λ f. put f y (childless (Some (zeros_told (world told size b t))) Root)) (renamed_bytes b m.cleared.sound.kept m.origin there y there_named to to_page m.cleared.vacant c refl t source_home told size one.tied ∙ ap (λ f. rename f y x) (cleared_forest told size fit))
        ∙ ap (λ (k : ℕ). put (rename (retire (store_forest w) x) y x) y (childless (Some (option_map (λ _. replicate k 0) told)) Root)) one.page

    move_named : IsUnpinned s a (Live from from_page) → PinnedStayNamed s a d
    move_named out =
        let tied_b = (cleared_back None None tied).tied in
        let two = renamed_gives None None tied in
        named_then s a t b d cleared_back tied cleared_named
        (λ f n pin at. fresh_named t c m.fresh m.free from from_page Zero refl d m.is two.tied f n pin at
        ∙ renamed_pinned b m.cleared.sound.kept m.origin there y there_named to to_page m.cleared.vacant c refl t (unpinned_by s a t b y tied cleared_back cleared_named out) f n pin at)

    -- a node of the destination's name was there, and neither page is one that a segment holds
    move_was : (n : NodeId) → IsSome (home_of d n) → WasThere [] a d n
    move_was n some = elim (id_cases n m.fresh) [
      | inl e ↦ absurd (
          let none : home_of d n ≡ None = ap (home_of d) e ∙ ap (home_named d.caches) (fresh_is t c m.fresh m.free from from_page Zero refl d m.is).0 ∙ home_name a d moved_sizes y ∙ temporary in
          cc)
      | inr other ↦ (
          let same = fresh_others t c m.fresh m.free from from_page Zero refl d m.is n other in
          elim (id_cases n m.origin) [
            | inl e ↦ record {
              node = m.cleared.node;
              named = was_named ∙ sym (same.0 ∙ ap (name_of c) e ∙ renamed_name b m.origin x);
              clean = inl (ap is_clean same.1 ∙ ap (λ i. is_clean (own_of c i)) e
                  ∙ renamed_unclean b m.cleared.sound.kept m.origin there y there_named to to_page m.cleared.vacant c refl t source_home None None (cleared_back None None tied).tied
                  ∙ sym (unclean m.cleared.node was_named));
            }
            | inr apart ↦
                let stays = name_other b m.cleared.sound.kept m.origin there y there_named to to_page m.cleared.vacant c refl n apart in
                let own = renamed_own b m.cleared.sound.kept m.origin there y there_named to to_page m.cleared.vacant c refl n in
                let homed : IsSome (home_of b n) = subst IsSome (same.2 ∙ renamed_home_other b m.cleared.sound.kept m.origin there y there_named to to_page m.cleared.vacant c refl n apart) some in
                let k = cleared_homes.nodes n homed in
                record {
                  node = k.node;
                  named = k.named ∙ sym (same.0 ∙ stays);
                  clean = elim k.clean [ inl q ↦ inl (ap is_clean (same.1 ∙ own) ∙ q) | inr i ↦ absurd i ];
                }
          ])
    ]

    move_grants : (cache page : ℕ) → is_granted d cache page ≡ is_granted a cache page
    move_grants cache page =
        fresh_grants t c m.fresh m.free from from_page Zero refl d m.is cache page
        ∙ renamed_grants b m.origin x cache page ∙ cleared_homes.grants cache page

    move_locks : (cache page : ℕ) → locks_of d cache page ≡ locks_of a cache page
    move_locks cache page =
        fresh_locks t c m.fresh m.free from from_page Zero refl d m.is cache page
        ∙ renamed_locks b m.origin x cache page ∙ cleared_homes.locks cache page

    pub move_kept : IsSound d → IsUnpinned s a (Live from from_page) → DropsFreed s t → Releases [] s a t d
    move_kept sound_d out tables = record {
      gives_back = move_back;
      tables = tables;
      sound = sound_d;
      tied = (move_back None None tied).tied;
      pinned = move_named out;
      sizes = moved_sizes;
      homes = record { nodes = move_was; grants = move_grants; locks = move_locks };
    }
