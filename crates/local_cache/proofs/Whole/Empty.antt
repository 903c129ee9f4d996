-- Caches without nodes.
use Rattle.std.proofs.Common.{◌≡◌, ℕ, zero, suc, [], Some, None, is_some, unwrap_or, refl, sym, ap, ◌∙◌, subst, arith}
use Rattle.std.proofs.lemmas.Bool.{false≢true}
use Rattle.vm_ids.specs.declared.node_name.NodeName.{NodeName}
use Rattle.vm_ids.specs.Forest.NameLists.{◌∈◌}
use Rattle.vm_ids.specs.Forest.Nodes.{childless, no_forest, node, parent_of}
use Rattle.vm_ids.specs.Forest.Nodes.Hang.{Root, StubOf, TreeOf}
use Rattle.vm_ids.specs.Forest.Shape.{IsLinked}
use Rattle.vm_ids.proofs.Forest.NameMap.{get-empty}
use Rattle.vm_ids.specs.declared.numbers.NodeId.{NodeId}
use Rattle.local_cache.specs.Arena.{Arena, HasNode, find, node_at}
use Rattle.local_cache.specs.Reading.{AreNamesApart, forest_of}
use Rattle.local_cache.specs.Sound.{IsSound}
use Rattle.local_cache.proofs.Tables.Listing.{node_in}
use Rattle.local_cache.proofs.Forest.Reading.{get-forest_of_none, reads_as}

module _ (a : Arena) (none : (n : NodeId) → find a n ≡ None) where
  pub no_held : (n : NodeId) → HasNode a n → ⊥
  no_held n h = false≢true (sym (ap is_some (none n)) ∙ h)

  no_node : (x : NodeName) → node (forest_of a) x ≡ childless None Root
  unfolding node
  no_node x = ap (λ o. unwrap_or o (childless None Root)) (get-forest_of_none a x (λ n h. absurd (no_held n h)))

  empty_named : AreNamesApart a
  empty_named = record { apart = λ n m h k e. absurd (no_held n h); counted = λ n k h e. absurd (no_held n h) }

  empty_linked : IsLinked (forest_of a)
  empty_linked = record {
    order = ((λ _. 0), (λ x p up. absurd (let clash : Some p ≡ None = sym up ∙ ap (λ n. parent_of n.hang) (no_node x) in cc clash)));
    few = λ x. rw (no_node x) (omega arith);
    stub_bare = λ x p e. ap (λ n. n.own) (no_node x);
    tree_links = λ x p. (
      λ i. absurd (subst (λ xs. x ∈ xs) (ap (λ n. n.tree) (no_node p)) i),
      λ e. absurd (let clash : Root ≡ TreeOf p = sym (ap (λ n. n.hang) (no_node x)) ∙ e in cc clash),
    );
    stub_links = λ x p. (
      λ i. absurd (subst (λ xs. x ∈ xs) (ap (λ n. n.stubs) (no_node p)) i),
      λ e. absurd (let clash : Root ≡ StubOf p = sym (ap (λ n. n.hang) (no_node x)) ∙ e in cc clash),
    );
    once = λ x. rw (no_node x) (tt, tt);
  }

  no_page : a.caches ≡ [] → (cache page : ℕ) → node_at a cache page ≡ None
  no_page tables zero page = refl
  no_page tables (suc k) page = ap (λ ts. node_in ts (suc k) page) tables

  pub empty_sound : a.caches ≡ [] → IsSound a
  empty_sound tables = record {
    kept = record {
      named = empty_named;
      listed = record {
        nodes = λ cache page n e. absurd (let clash : None ≡ Some n = sym (no_page tables cache page) ∙ e in cc clash);
        pages = λ cache page n h e. absurd (no_held n h);
      };
      parents = λ n p h e. absurd (no_held n h);
      children = λ n m h i. absurd (no_held n h);
      threaded = λ n h. absurd (no_held n h);
    };
    linked = empty_linked;
  }

  pub empty_forest : a.made ≡ 0 → a.copies ≡ 0 → forest_of a ≡ no_forest
  empty_forest made copies = reads_as a empty_named no_forest made copies
      (λ n h. absurd (no_held n h))
      (λ x is. absurd (false≢true (sym (ap is_some (get-empty x)) ∙ is)))
