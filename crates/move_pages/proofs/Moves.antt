-- A page was retired, the node of another one took its name, and a fresh node the name of that.
use Rattle.std.proofs.Common.{◌≡◌, ◌≢◌, ◌+◌, ◌-◌, ◌≤◌, Some, None, refl, sym, ap, ◌∙◌, subst, arith}
use Rattle.vm_ids.specs.declared.node_name.NodeName.{NodeName}
use Rattle.vm_ids.specs.declared.node_name.NodeName.TheVariants.{Live}
use Rattle.vm_ids.specs.declared.numbers.CacheId.{CacheId}
use Rattle.vm_ids.specs.declared.numbers.NodeId.{NodeId}
use Rattle.vm_ids.specs.declared.numbers.PageNo.{PageNo}
use Rattle.vm_ids.specs.Forest.Changes.{put, rename}
use Rattle.vm_ids.specs.Forest.Nodes.{childless}
use Rattle.vm_ids.specs.Forest.Nodes.Hang.{Root}
use Rattle.vm_ids.specs.Forest.Rules.{move_page, retire}
use Rattle.vm_ids.specs.Forest.Shape.{IsConsistent}
use Rattle.vm_ids.specs.Forest.Laws.Linking.{ArePages}
use Rattle.vm_ids.proofs.Forest.OnePage.{move_page-consistent}
use Rattle.local_cache.specs.declared.own_state.OwnState.TheVariants.{Zero}
use Rattle.local_cache.specs.Arena.{Arena, HasNode, IsVacant, find, node_at, tables_with, with_name, with_new}
use Rattle.local_cache.specs.Own.{own_of}
use Rattle.local_cache.specs.Reading.{forest_of, name_of}
use Rattle.local_cache.specs.Sound.{IsKept, IsSound}
use Rattle.local_cache.specs.Whole.{SameCaches}
use Rattle.local_cache.proofs.NewNode.FreshNode.{page-forest, page-kept}
use Rattle.local_cache.proofs.NewNode.States.{fresh_own, fresh_own_other}
use Rattle.local_cache.proofs.Names.PageName.{renamed_forest, renamed_kept, renamed_own, renamed_room, renamed_sizes, renamed_vacant}
use Rattle.local_cache.proofs.Tables.Sizes.{sizes_by, sizes_then}
use Rattle.local_cache.proofs.Names.WorkingName.{room-with_new}

module _ (b : Arena) (sound : IsSound b) (to : CacheId) (to_page : PageNo) (vacant : IsVacant b to to_page) (from : CacheId) (from_page : PageNo) (n : NodeId) (at : node_at b from.0 from_page.0 ≡ Some n) (c : Arena) (is : c ≡ with_name b n (Live to to_page)) where
  abbrev x : NodeName
  x = Live to to_page

  abbrev y : NodeName
  y = Live from from_page

  pub origin_held : HasNode b n
  origin_held = (sound.kept.listed.nodes from.0 from_page.0 n at).0

  pub origin_name : name_of b n ≡ Live from from_page
  origin_name = (sound.kept.listed.nodes from.0 from_page.0 n at).1

  pub moved_kept : IsKept c
  moved_kept = renamed_kept b sound.kept n origin_held y origin_name to to_page vacant c is

  pub moved_vacant : IsVacant c from from_page
  moved_vacant = renamed_vacant b sound.kept n origin_held y origin_name to to_page vacant c is from from_page refl at

  pub moved_room : c.room.nodes ≡ b.room.nodes
  moved_room = renamed_room b sound.kept n origin_held y origin_name to to_page vacant c is

  module _ (e : NodeId) (free : find c e ≡ None) (d : Arena) (new : d ≡ with_new c e (Live from from_page) Zero) where
    module _ (a : Arena) (consistent : IsConsistent (forest_of a)) (pages : ArePages (forest_of a) (Live to to_page) (Live from from_page)) (nodes : forest_of b ≡ retire (forest_of a) (Live to to_page)) where
      pub move_nodes : forest_of d ≡ move_page (forest_of a) (Live to to_page) (Live from from_page) Zero
      move_nodes = ap forest_of new ∙ page-forest c moved_kept e free from from_page moved_vacant Zero
          ∙ ap (λ f. put f y (childless (Some Zero) Root)) (renamed_forest b sound.kept n origin_held y origin_name to to_page vacant c is ∙ ap (λ f. rename f y x) nodes)

      pub move_consistent : IsConsistent (forest_of d)
      move_consistent = subst IsConsistent (sym move_nodes) (move_page-consistent (forest_of a) consistent x y pages Zero)

      pub move_sound : IsSound d
      move_sound = record { kept = subst IsKept (sym new) (page-kept c moved_kept e free from from_page moved_vacant Zero); linked = move_consistent.shaped.linked }

    pub move_zero : own_of d e ≡ Zero
    move_zero = ap (λ (k : Arena). own_of k e) new ∙ fresh_own c e free y Zero

    pub move_others : (m : NodeId) → m ≢ e → own_of d m ≡ own_of b m
    move_others m ne = ap (λ (k : Arena). own_of k m) new ∙ fresh_own_other c e free y Zero m ne ∙ renamed_own b sound.kept n origin_held y origin_name to to_page vacant c is m

    new_tables : (with_new c e (Live from from_page) Zero).caches ≡ tables_with c.caches (Live from from_page) (Some e)
    unfolding with_new
    new_tables = refl

    pub move_sizes : (a : Arena) → SameCaches a b → SameCaches a d
    move_sizes a same = sizes_then a b d same (sizes_then b c d (renamed_sizes b sound.kept n origin_held y origin_name to to_page vacant c is) (sizes_by c d y (Some e) (ap (λ (k : Arena). k.caches) new ∙ new_tables)))

    pub move_room : (a : Arena) → a.room.nodes ≤ b.room.nodes → a.room.nodes ≤ d.room.nodes + 1
    move_room a less =
        let left : d.room.nodes ≡ c.room.nodes - 1 = ap (λ (k : Arena). k.room.nodes) new ∙ room-with_new c e y Zero in
        omega (arith, less, moved_room, left)
