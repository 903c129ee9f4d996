-- A page was detached, and its fresh node and that of another page exchange their names: that page
-- is moved.
use Rattle.std.proofs.Common.{◌≡◌, ◌≢◌, ℕ, ◌+◌, ◌<◌, Some, None, is_some, refl, sym, ap, ◌∙◌, subst, arith}
use Rattle.vm_ids.specs.declared.node_name.NodeName.{NodeName}
use Rattle.vm_ids.specs.declared.node_name.NodeName.TheVariants.{Live}
use Rattle.vm_ids.specs.declared.numbers.CacheId.{CacheId}
use Rattle.vm_ids.specs.declared.numbers.NodeId.{NodeId}
use Rattle.vm_ids.specs.declared.numbers.PageNo.{PageNo}
use Rattle.vm_ids.specs.Forest.Laws.Linking.{ArePages}
use Rattle.vm_ids.specs.Forest.Shape.{IsConsistent}
use Rattle.local_cache.specs.declared.own_state.OwnState.TheVariants.{Zero}
use Rattle.local_cache.specs.Arena.{Arena, HasNode, cell, find, node_at, with_name, with_new}
use Rattle.local_cache.specs.Many.{AreNamed}
use Rattle.local_cache.specs.ManyNodes.{next_node}
use Rattle.local_cache.specs.OnCells.{exchanged_many, exchanged_names}
use Rattle.local_cache.specs.Reading.{forest_of, name_of}
use Rattle.local_cache.specs.Sound.{IsSound}
use Rattle.local_cache.proofs.NewNode.States.{fresh_name}
use Rattle.local_cache.proofs.Nodes.Cells.{find-put_other}
use Rattle.tree_merge.specs.declared.released.Released.{Released}
use Rattle.tree_merge.specs.Stepping.{IsDetachedAlone}
use Rattle.tree_merge.proofs.CopiedPages.Changes.{find-new}
use Rattle.tree_merge.proofs.PagesAlone.Others.{IsThere, apart_fresh, between_there, detached_there}
use Rattle.tree_merge.proofs.PagesAlone.Retired.{alone_room, alone_sizes}
use Rattle.move_pages.specs.Moved.{IsMovedAlone}
use Rattle.move_pages.proofs.Moves.{move_consistent, move_nodes, move_others, move_room, move_sizes, move_sound, move_zero}
use Rattle.move_pages.proofs.MovedPages.Changes.{exchanged_is}

-- One node

one_node : (n : NodeId) → next_node n 0 ≡ n
one_node n = let same : n.0 + 0 ≡ n.0 = omega arith in λ i. record { 0 = same i }

one_named : (b : Arena) (n : NodeId) (cache : CacheId) (page : PageNo) → HasNode b n → name_of b n ≡ Live cache page → AreNamed b n cache page 1
one_named b n cache page held named k less =
    let first : k ≡ 0 = omega arith in
    subst (λ j. HasNode b (next_node n j) × (name_of b (next_node n j) ≡ Live cache (record { 0 = page.0 + j }))) (sym first)
    (subst (HasNode b) (sym (one_node n)) held, ap (name_of b) (one_node n) ∙ named ∙ (let same : page.0 ≡ page.0 + 0 = omega arith in λ i. Live cache (record { 0 = same i })))

-- the fresh node of a page that was detached
pub fresh_is : (a b : Arena) (cache : CacheId) (page : PageNo) (r : Released) (is : IsDetachedAlone a b cache page Zero r) (n : NodeId) → node_at b cache.0 page.0 ≡ Some n → n ≡ is.fresh
fresh_is a b cache page r is n at =
    let held : HasNode b is.fresh = ap (λ (x : Arena). is_some (find x is.fresh)) is.is ∙ ap is_some (find-new is.between is.fresh (Live cache page) Zero) in
    let name : name_of b is.fresh ≡ Live cache page = ap (λ (x : Arena). name_of x is.fresh) is.is ∙ fresh_name is.between is.fresh is.free (Live cache page) Zero in
    let both : Some n ≡ Some is.fresh = sym at ∙ is.sound.kept.listed.pages cache.0 page.0 is.fresh held name in
    cc both

module _ (a b : Arena) (sound : IsSound a) (consistent : IsConsistent (forest_of a)) (to : CacheId) (to_page : PageNo) (from : CacheId) (from_page : PageNo) (r : Released)
    (is : IsDetachedAlone a b to to_page Zero r) (s : NodeId) (held : HasNode a s) (named : name_of a s ≡ Live from from_page) (pages : ArePages (forest_of a) (Live to to_page) (Live from from_page)) where
  abbrev x : NodeName
  x = Live to to_page

  other : name_of a s ≢ Live to to_page
  other e = pages.apart (sym e ∙ named)

  there : IsThere a is.between s
  there = between_there a b sound to to_page Zero r is s held other

  name_s : name_of is.between s ≡ Live from from_page
  name_s = there.name ∙ named

  source : node_at is.between from.0 from_page.0 ≡ Some s
  source = is.retired.sound.kept.listed.pages from.0 from_page.0 s (there.held ∙ held) name_s

  s_fresh : s ≢ is.fresh
  s_fresh = apart_fresh a b sound to to_page Zero r is s held other

  abbrev c : Arena
  c = with_name is.between s (Live to to_page)

  free : find (with_name is.between s (Live to to_page)) is.fresh ≡ None
  free = find-put_other is.between s is.fresh (record (cell is.between s) { name = Live to to_page }) (λ e. s_fresh (sym e)) ∙ is.free

  new : exchanged_names b is.fresh s ≡ with_new (with_name is.between s (Live to to_page)) is.fresh (Live from from_page) Zero
  new = ap (λ (k : Arena). exchanged_names k is.fresh s) is.is
      ∙ exchanged_is is.between is.fresh s (Live to to_page) (Live from from_page) s_fresh name_s (λ e. pages.apart (sym e))

  pub moved_alone : IsMovedAlone a (exchanged_names b is.fresh s) from from_page to to_page r
  moved_alone =
      let d : Arena = exchanged_names b is.fresh s in
      record {
        forest = move_nodes is.between is.retired.sound to to_page is.retired.vacant from from_page s source c refl is.fresh free d new a consistent pages is.retired.forest;
        sound = move_sound is.between is.retired.sound to to_page is.retired.vacant from from_page s source c refl is.fresh free d new a consistent pages is.retired.forest;
        consistent = move_consistent is.between is.retired.sound to to_page is.retired.vacant from from_page s source c refl is.fresh free d new a consistent pages is.retired.forest;
        moved = record {
          between = is.between;
          cleared = is.retired;
          origin = s;
          source = source;
          fresh = is.fresh;
          free = free;
          is = new;
          zero = move_zero is.between is.retired.sound to to_page is.retired.vacant from from_page s source c refl is.fresh free d new;
          others = move_others is.between is.retired.sound to to_page is.retired.vacant from from_page s source c refl is.fresh free d new;
        };
        sizes = move_sizes is.between is.retired.sound to to_page is.retired.vacant from from_page s source c refl is.fresh free d new a (alone_sizes a is.between to to_page r is.retired);
        room = move_room is.between is.retired.sound to to_page is.retired.vacant from from_page s source c refl is.fresh free d new a (alone_room a is.between to to_page r is.retired);
      }

  -- where the fresh node is told as that of its page
  module _ (fresh : NodeId) (at : node_at b to.0 to_page.0 ≡ Some fresh) where
    source_there : IsThere a b s
    source_there = detached_there a b sound to to_page Zero r is s held other

    pub fresh_named : (cache : CacheId) × (page : PageNo) × AreNamed b fresh cache page 1
    fresh_named =
        let n = is.sound.kept.listed.nodes to.0 to_page.0 fresh at in
        (to, to_page, one_named b fresh to to_page n.0 n.1)

    pub source_named : (cache : CacheId) × (page : PageNo) × AreNamed b s cache page 1
    source_named = (from, from_page, one_named b s from from_page (source_there.held ∙ held) (source_there.name ∙ named))

    pub fresh_source : (i j : ℕ) → i < 1 → j < 1 → next_node fresh i ≢ next_node s j
    fresh_source i j low high e =
        let n = is.sound.kept.listed.nodes to.0 to_page.0 fresh at in
        let first : i ≡ 0 = omega arith in
        let second : j ≡ 0 = omega arith in
        let same : fresh ≡ s = sym (one_node fresh) ∙ ap (next_node fresh) (sym first) ∙ e ∙ ap (next_node s) second ∙ one_node s in
        pages.apart (sym n.1 ∙ ap (name_of b) same ∙ source_there.name ∙ named)

    pub moved_node : IsMovedAlone a (exchanged_many b fresh s 1) from from_page to to_page r
    moved_node =
        let same : fresh ≡ is.fresh = fresh_is a b to to_page r is fresh at in
        subst (λ (x : Arena). IsMovedAlone a x from from_page to to_page r)
        (λ i. exchanged_names b ((sym same ∙ sym (one_node fresh)) i) (sym (one_node s) i))
        moved_alone
