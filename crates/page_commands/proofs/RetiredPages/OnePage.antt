-- One page is retired that is none or zeros: the store is as it was.
use Rattle.std.proofs.Common.{◌≡◌, ℕ, zero, suc, ◌<◌, true, false, length, Option, Some, None, is_some, refl, sym, ap, ◌∙◌, subst, inl, inr, arith}
use Rattle.std.proofs.lemmas.Bool.{false≢true}
use Rattle.vm_ids.specs.declared.node_name.NodeName.TheVariants.{Live}
use Rattle.vm_ids.specs.declared.numbers.CacheId.{CacheId}
use Rattle.vm_ids.specs.declared.numbers.NodeId.{NodeId}
use Rattle.vm_ids.specs.declared.numbers.PageNo.{PageNo}
use Rattle.vm_ids.specs.Forest.Nodes.{child_count}
use Rattle.vm_ids.proofs.Places.{true_below}
use Rattle.local_cache.specs.declared.own_state.OwnState.{OwnState}
use Rattle.local_cache.specs.Arena.{Arena, Cell, HasNode, find}
use Rattle.local_cache.specs.Own.{is_resident, own_of}
use Rattle.local_cache.specs.Reading.{forest_of, name_of}
use Rattle.local_cache.specs.Sound.{IsSound}
use Rattle.residency.specs.declared.store.Store.{Store}
use Rattle.residency.specs.World.{World, is_clean, world}
use Rattle.tree_merge.specs.Copying.{IsEmpty}
use Rattle.tree_merge.specs.Stepping.{IsRetiredBare}
use Rattle.page_commands.specs.Following.{without_page}
use Rattle.page_commands.specs.Homes.{IsUnclean}
use Rattle.page_commands.specs.Steps.{IsStoreTied, IsUnpinned}
use Rattle.page_commands.proofs.FreedFrames.Freed.{same_freed}
use Rattle.page_commands.proofs.NodesGone.Elsewhere.{IsFollowed}
use Rattle.page_commands.proofs.NodesGone.Passed.{gone_own}
use Rattle.page_commands.proofs.RetiredPages.OneFollowed.{one_retires}
use Rattle.page_commands.proofs.RetiredPages.Parts.{RetiresPage}
use Rattle.page_commands.proofs.TiedStores.Named.{unclean_may}
use Rattle.page_commands.proofs.TiedStores.Tied.{home}

-- A page that is none or zeros

empty_framed : (x : OwnState) → IsEmpty x → is_resident x ≡ false
empty_framed x (inl e) = ap is_resident e
empty_framed x (inr e) = ap is_resident e

empty_clean : (x : OwnState) → IsEmpty x → is_clean x ≡ false
empty_clean x (inl e) = ap is_clean e
empty_clean x (inr e) = ap is_clean e

-- where it goes nothing falls free
pub nothing_freed : (w : World) (n : NodeId) (x : OwnState) → IsEmpty x → w ≡ without_page w n x
nothing_freed w n x (inl e) = sym (ap (without_page w n) e)
nothing_freed w n x (inr e) = sym (ap (without_page w n) e)

module _ (t : Store) (a : Arena) (d : NodeId) (cache : CacheId) (page : PageNo) (sound : IsSound a) (held : HasNode a d) (named : name_of a d ≡ Live cache page) where
  is_page : (n : NodeId) → HasNode a n → name_of a n ≡ Live cache page → n ≡ d
  is_page n there name = sound.kept.named.apart n d there held (name ∙ sym named)

  -- one in no frame
  pub out_unpinned : is_resident (own_of a d) ≡ false → IsStoreTied t a → IsUnpinned t a (Live cache page)
  out_unpinned out tied f n pin at name =
      let within : f < length t.map = omega (arith, true_below t.frames.pinned f pin, tied.fitted.pinned_frames, tied.fitted.map_frames) in
      let here = home (world None None a t) f n tied within at in
      let resident : is_resident (own_of a d) ≡ true = subst (λ m. is_resident (own_of a m) ≡ true) (is_page n here.there name) here.resident in
      false≢true (sym out ∙ resident)

module _ (t : Store) (a : Arena) (d : NodeId) (cache : CacheId) (page : PageNo) (sound : IsSound a) (held : HasNode a d) (named : name_of a d ≡ Live cache page) (empty : IsEmpty (own_of a d)) where
  pub page_unpinned : IsStoreTied t a → IsUnpinned t a (Live cache page)
  page_unpinned = out_unpinned t a d cache page sound held named (empty_framed (own_of a d) empty)

  pub page_unclean : IsUnclean a (Live cache page)
  page_unclean n name = go (find a n) refl
    where
      go : (o : Option Cell) → find a n ≡ o → is_clean (own_of a n) ≡ false
      go None none = ap is_clean (gone_own a n none)
      go (Some k) some = ap (λ m. is_clean (own_of a m)) (is_page t a d cache page sound held named n (ap is_some some) name) ∙ empty_clean (own_of a d) empty

-- It is retired alone

module _ (t : Store) (a b : Arena) (cache : CacheId) (page : PageNo) (is : IsRetiredBare a b cache page) (sound : IsSound a) where
  empty : IsEmpty (own_of a is.alone.node)
  empty = is.empty is.alone.node is.alone.at

  held : HasNode a is.alone.node
  held = (sound.kept.listed.nodes cache.0 page.0 is.alone.node is.alone.at).0

  named : name_of a is.alone.node ≡ Live cache page
  named = (sound.kept.listed.nodes cache.0 page.0 is.alone.node is.alone.at).1

  followed : IsFollowed t t b is.released
  followed = go (child_count (forest_of a) (name_of a is.alone.node)) refl
    where
      go : (k : ℕ) → child_count (forest_of a) (name_of a is.alone.node) ≡ k → IsFollowed t t b is.released
      go zero e = subst (IsFollowed t t b) (sym (is.alone.retired.leaf e).0) (λ told size. nothing_freed (world told size b t) is.alone.node (own_of a is.alone.node) empty)
      go (suc k) e = subst (IsFollowed t t b) (sym (is.alone.retired.parent (omega (arith, e))).0) (λ told size. refl)

  pub bare_retires : IsStoreTied t a → RetiresPage (Live cache page) t a t b
  bare_retires tied =
      one_retires t a b cache page is.released is.alone sound tied
      (page_unpinned t a is.alone.node cache page sound held named empty tied) (unclean_may a (Live cache page) (page_unclean t a is.alone.node cache page sound held named empty))
      t followed (same_freed t t refl refl)
