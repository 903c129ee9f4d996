-- Where own states alone change and each page is still, so is the page forest, and the caches are
-- sound still.
use Rattle.std.proofs.Common.{◌≡◌, ℕ, zero, suc, ◌∷◌, map, Option, Some, None, is_some, refl, sym, ap, ◌∙◌, subst}
use Rattle.vm_ids.specs.Forest.NameMap as names
use Rattle.vm_ids.specs.Forest.PageMap.{bare}
use Rattle.vm_ids.specs.declared.numbers.NodeId.{NodeId}
use Rattle.vm_ids.proofs.Forest.BareShape.{bare-linked}
use Rattle.local_cache.specs.Arena.{Arena, cell}
use Rattle.local_cache.specs.Reading.{AreNamesApart, at_key, forest_of, hang_by, name_of, stubs_of, walk}
use Rattle.local_cache.specs.ReadingBy.{Tells, forest_by, node_with, state_page}
use Rattle.local_cache.specs.Sound.{IsSound, ◌∈◌}
use Rattle.local_cache.specs.Threads.{IsThreaded}
use Rattle.local_cache.proofs.NewNode.Addition.{hang-names}
use Rattle.local_cache.proofs.Changes.SameNodes.{listed-like, named-like, same_node}
use Rattle.local_cache.proofs.Forest.Reading.{forest_of-by}
use Rattle.local_cache.proofs.Forest.ReadingBy.{bare-by}
use Rattle.local_cache.proofs.Forest.StubRows.{keeps_links, threaded-kept}
use Rattle.local_cache.proofs.Nodes.Values.{same_keys}
use Rattle.residency.specs.StoreForest.{store_forest}
use Rattle.residency.specs.World.{SameNodes, Still, World, own_page, without_own}
pub use Rattle.residency.proofs.Worlds.Nodes.{still_like}
use Rattle.residency.proofs.Worlds.Nodes.{read_same}
use Rattle.residency.proofs.Worlds.Telling.{tells}

module _ (a b : Arena) (same : SameNodes a b) where
  pub still_made : b.made ≡ a.made
  still_made = ap (λ k. k.made) same.rest

  pub still_copies : b.copies ≡ a.copies
  still_copies = ap (λ k. k.copies) same.rest

  pub still_room : b.room ≡ a.room
  still_room = ap (λ k. k.room) same.rest

  walk_same : (k : ℕ) (from : Option NodeId) → walk b k from ≡ walk a k from
  walk_same zero from = refl
  walk_same (suc k) None = refl
  walk_same (suc k) (Some n) = ap (λ o. n ∷ walk b k o) (read_same a b same (λ c. c.links.behind) (λ c. refl) n) ∙ ap (λ ns. n ∷ ns) (walk_same k (cell a n).links.behind)

  stubs_same : (n : NodeId) → stubs_of b n ≡ stubs_of a n
  unfolding stubs_of
  stubs_same n = ap (λ l. walk b l.stubs l.first) (read_same a b same (λ c. c.links) (λ c. refl) n) ∙ walk_same (cell a n).links.stubs (cell a n).links.first

  names_same : name_of b ≡ name_of a
  names_same = λ i m. (still_like a b same).name m i

  module _ {P : Type 0} where
    with_same : (n : NodeId) (o p : Option P) → o ≡ p → node_with b n o ≡ node_with a n p
    with_same n o p e = same_node (node_with b n o) (node_with a n p) e
        (ap (λ l. hang_by b l.parent l.by_stub) (read_same a b same (λ c. c.links) (λ c. refl) n) ∙ hang-names a b (cell a n).links.parent (cell a n).links.by_stub (λ m e. (still_like a b same).name m))
        (ap (map (name_of b)) (read_same a b same (λ c. c.tree) (λ c. refl) n) ∙ ap (λ f. map f (cell a n).tree) names_same)
        (ap (map (name_of b)) (stubs_same n) ∙ ap (λ f. map f (stubs_of a n)) names_same)

    -- the same pages make the same forest
    pub same_forest_by : (page now : NodeId → Option P) → ((n : NodeId) → now n ≡ page n) → forest_by now b ≡ forest_by page a
    unfolding forest_by
    same_forest_by page now e = λ i. record {
      nodes = names.from_entries (map (λ k. ((still_like a b same).name (at_key k) i, with_same (at_key k) (now (at_key k)) (page (at_key k)) (e (at_key k)) i)) (same_keys without_own a b same.nodes i));
      made = still_made i;
      copies = still_copies i;
    }

  pub still_named : AreNamesApart a → AreNamesApart b
  still_named named = named-like a b named (still_like a b same) (sym still_made)

  -- without its pages the forest is the same, where the same nodes have own pages
  pub still_bare : AreNamesApart a → Tells (state_page a) b → bare (forest_of a) ≡ bare (forest_of b)
  still_bare named alike = ap bare (forest_of-by a ∙ sym (same_forest_by (state_page a) (state_page a) (λ n. refl)))
      ∙ bare-by (state_page a) (state_page b) b (still_named named) alike ∙ ap bare (sym (forest_of-by b))

  pub still_sound : IsSound a → Tells (state_page a) b → IsSound b
  still_sound sound alike = record {
    kept = record {
      named = still_named sound.kept.named;
      listed = listed-like a b sound.kept.listed (still_like a b same);
      parents = λ n p h up. (still_like a b same).held p ∙ sound.kept.parents n p (sym ((still_like a b same).held n) ∙ h) (ap (λ l. l.parent) (sym (read_same a b same (λ c. c.links) (λ c. refl) n)) ∙ up);
      children = λ n m h i. (still_like a b same).held m ∙ sound.kept.children n m (sym ((still_like a b same).held n) ∙ h) (subst (λ ns. m ∈ ns) (read_same a b same (λ c. c.tree) (λ c. refl) n) i);
      threaded = λ x h. subst (IsThreaded b x) (sym (stubs_same x))
          (threaded-kept a b x (stubs_of a x) (λ y i. keeps_links a b y (λ h. (still_like a b same).held y ∙ h) (read_same a b same (λ c. c.links) (λ c. refl) y))
          (ap (λ l. l.first) (read_same a b same (λ c. c.links) (λ c. refl) x)) (ap (λ l. l.last) (read_same a b same (λ c. c.links) (λ c. refl) x)) (ap (λ l. l.stubs) (read_same a b same (λ c. c.links) (λ c. refl) x)) (sound.kept.threaded x (sym ((still_like a b same).held x) ∙ h)));
    };
    linked = bare-linked (forest_of a) (forest_of b) (still_bare sound.kept.named alike) sound.linked;
  }

module _ (a b : World) (s : Still a b) where
  pub still_tells : Tells (state_page a.caches) b.caches
  still_tells n = sym (tells a n) ∙ ap is_some (sym (s.stays.pages n)) ∙ tells b n

  -- every call that leaves each page leaves the page forest
  pub still_forest : store_forest b ≡ store_forest a
  unfolding store_forest
  still_forest = same_forest_by a.caches b.caches s.stays.caches (own_page a) (own_page b) s.stays.pages

  pub still_caches_sound : IsSound a.caches → IsSound b.caches
  still_caches_sound sound = still_sound a.caches b.caches s.stays.caches sound still_tells
