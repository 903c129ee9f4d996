-- Caches with the same nodes: their tables, counters and spare room may be others.
use Rattle.std.proofs.Common.{◌≡◌, ℕ, zero, suc, ◌+◌, ◌≤◌, List, ◌∷◌, map, Option, Some, None, is_some, unwrap_or, refl, sym, ap, ◌∙◌, subst}
use Rattle.std.specs.FinMap as ids
use Rattle.vm_ids.specs.Forest.Changes.{count_copy}
use Rattle.vm_ids.specs.Forest.NameMap as names
use Rattle.vm_ids.specs.Forest.Nodes.{Forest, node}
use Rattle.vm_ids.specs.Forest.Shape.{IsLinked}
use Rattle.vm_ids.specs.declared.numbers.CacheId.{CacheId}
use Rattle.vm_ids.specs.declared.numbers.NodeId.{NodeId}
use Rattle.local_cache.specs.Arena.{Arena, HasNode, Table, blank, cell, node_at, without_cache}
use Rattle.local_cache.specs.Reading.{at_key, forest_of, hang_by, name_of, node_of, page_of, stubs_of, walk}
use Rattle.local_cache.specs.Sound.{IsSound, ◌∈◌}
use Rattle.local_cache.specs.Threads.{IsThreaded}
use Rattle.local_cache.proofs.NewNode.Addition.{hang-names}
use Rattle.local_cache.proofs.Changes.SameNodes.{same_node}
use Rattle.local_cache.proofs.Tables.Listing.{without-node}
use Rattle.local_cache.proofs.Forest.StubRows.{keeps_links, threaded-kept}

module _ {P : Type 0} where
  -- links aren't counted
  counters-linked : (f : Forest P) (made copies : ℕ) → IsLinked f → IsLinked (record f { made = made; copies = copies })
  unfolding node
  counters-linked f made copies l = record { order = l.order; few = l.few; stub_bare = l.stub_bare; tree_links = l.tree_links; stub_links = l.stub_links; once = l.once }

module _ (a b : Arena) (cells : b.cells ≡ a.cells) where
  cell_same : (m : NodeId) → cell b m ≡ cell a m
  unfolding cell
  cell_same m = ap (λ cs. unwrap_or (ids.get cs m.0) blank) cells

  name_same : (m : NodeId) → name_of b m ≡ name_of a m
  name_same m = ap (λ c. c.name) (cell_same m)

  names_same : name_of b ≡ name_of a
  names_same = λ i m. name_same m i

  now_held : (m : NodeId) → HasNode a m → HasNode b m
  now_held m h = ap (λ cs. is_some (ids.get cs m.0)) cells ∙ h

  was_held : (m : NodeId) → HasNode b m → HasNode a m
  was_held m h = ap (λ cs. is_some (ids.get cs m.0)) (sym cells) ∙ h

  walk_same : (k : ℕ) (from : Option NodeId) → walk b k from ≡ walk a k from
  walk_same zero from = refl
  walk_same (suc k) None = refl
  walk_same (suc k) (Some n) = ap (λ c. n ∷ walk b k c.links.behind) (cell_same n) ∙ ap (λ ns. n ∷ ns) (walk_same k (cell a n).links.behind)

  stubs_same : (n : NodeId) → stubs_of b n ≡ stubs_of a n
  unfolding stubs_of
  stubs_same n = ap (λ c. walk b c.links.stubs c.links.first) (cell_same n) ∙ walk_same (cell a n).links.stubs (cell a n).links.first

  node_same : (n : NodeId) → node_of b n ≡ node_of a n
  node_same n = same_node (node_of b n) (node_of a n)
      (ap (λ c. page_of c.own) (cell_same n))
      (ap (λ c. hang_by b c.links.parent c.links.by_stub) (cell_same n) ∙ hang-names a b (cell a n).links.parent (cell a n).links.by_stub (λ m e. name_same m))
      (ap (λ c. map (name_of b) c.tree) (cell_same n) ∙ ap (λ f. map f (cell a n).tree) names_same)
      (ap (map (name_of b)) (stubs_same n) ∙ ap (λ f. map f (stubs_of a n)) names_same)

  -- the forest is the same but for its counters
  pub alike_forest : forest_of b ≡ record (forest_of a) { made = b.made; copies = b.copies }
  unfolding forest_of
  alike_forest = λ i. record {
    nodes = names.from_entries (map (λ k. (name_same (at_key k) i, node_same (at_key k) i)) (ids.keys (cells i)));
    made = b.made;
    copies = b.copies;
  }

  -- where as many working nodes were made, and the tables find the same nodes
  pub alike_sound : b.made ≡ a.made → ((cache page : ℕ) → node_at b cache page ≡ node_at a cache page) → IsSound a → IsSound b
  alike_sound made tables sound = record {
    kept = record {
      named = record {
        apart = λ n m h k e. sound.kept.named.apart n m (was_held n h) (was_held m k) (sym (name_same n) ∙ e ∙ name_same m);
        counted = λ n k h e. subst (λ j. k ≤ j) (sym made) (sound.kept.named.counted n k (was_held n h) (sym (name_same n) ∙ e));
      };
      listed = record {
        nodes = λ cache page n e. let was = sound.kept.listed.nodes cache page n (sym (tables cache page) ∙ e) in (now_held n was.0, name_same n ∙ was.1);
        pages = λ cache page n h e. tables cache page ∙ sound.kept.listed.pages cache page n (was_held n h) (sym (name_same n) ∙ e);
      };
      parents = λ n p h up. now_held p (sound.kept.parents n p (was_held n h) (ap (λ c. c.links.parent) (sym (cell_same n)) ∙ up));
      children = λ n m h i. now_held m (sound.kept.children n m (was_held n h) (subst (λ ns. m ∈ ns) (ap (λ c. c.tree) (cell_same n)) i));
      threaded = λ x h. subst (IsThreaded b x) (sym (stubs_same x))
          (threaded-kept a b x (stubs_of a x) (λ y i. keeps_links a b y (now_held y) (ap (λ c. c.links) (cell_same y)))
          (ap (λ c. c.links.first) (cell_same x)) (ap (λ c. c.links.last) (cell_same x)) (ap (λ c. c.links.stubs) (cell_same x)) (sound.kept.threaded x (was_held x h)));
    };
    linked = subst IsLinked (sym alike_forest) (counters-linked (forest_of a) b.made b.copies sound.linked);
  }

same_counters : (a : Arena) → record (forest_of a) { made = a.made; copies = a.copies } ≡ forest_of a
unfolding forest_of
same_counters a = refl

one_copied : (a : Arena) → record (forest_of a) { made = a.made; copies = a.copies + 1 } ≡ count_copy (forest_of a)
unfolding forest_of
one_copied a = refl

-- other tables
pub retabled_forest : (a : Arena) (ts : List (Option Table)) → forest_of (record a { caches = ts }) ≡ forest_of a
retabled_forest a ts = alike_forest a (record a { caches = ts }) refl ∙ same_counters a

-- more room, or less
pub roomier_forest : (a b : Arena) → b ≡ record a { room = b.room } → forest_of b ≡ forest_of a
roomier_forest a b e = ap forest_of e ∙ alike_forest a (record a { room = b.room }) refl ∙ same_counters a

pub roomier_sound : (a b : Arena) → IsSound a → b ≡ record a { room = b.room } → IsSound b
roomier_sound a b sound e = subst IsSound (sym e) (alike_sound a (record a { room = b.room }) refl refl (λ cache page. refl) sound)

-- one more page copied
pub copied_forest : (a b : Arena) → b ≡ record a { copies = a.copies + 1 } → forest_of b ≡ count_copy (forest_of a)
copied_forest a b e = ap forest_of e ∙ alike_forest a (record a { copies = a.copies + 1 }) refl ∙ one_copied a

pub copied_sound : (a b : Arena) → b ≡ record a { copies = a.copies + 1 } → IsSound a → IsSound b
copied_sound a b e sound = subst IsSound (sym e) (alike_sound a (record a { copies = a.copies + 1 }) refl refl (λ cache page. refl) sound)

-- a cache less, whose pages have no nodes
module _ (a b : Arena) (cache : CacheId) (e : b ≡ without_cache a cache) where
  pub removed_forest : forest_of b ≡ forest_of a
  removed_forest = ap forest_of e ∙ alike_forest a (without_cache a cache) refl ∙ same_counters a

  pub removed_sound : ((page : ℕ) → node_at a cache.0 page ≡ None) → IsSound a → IsSound b
  removed_sound none sound = subst IsSound (sym e) (alike_sound a (without_cache a cache) refl refl (without-node a.caches cache.0 none) sound)
