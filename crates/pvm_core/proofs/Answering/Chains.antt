-- The chains and counts of a manager's forest are those of its page nodes.
use Rattle.std.proofs.Common.{◌≡◌, ℕ, ◌+◌, ◌<◌, ◌≤◌, true, false, List, [], ◌∷◌, length, map, filter, not, Option, Some, None, refl, sym, ap, ◌∙◌, arith}
use Rattle.std.specs.Prelude.{nat_lt}
use Rattle.std.proofs.lemmas.Bool.Decides.{nat_tests}
use Rattle.vm_ids.specs.Held.{Held}
use Rattle.vm_ids.specs.declared.numbers.CacheId.{CacheId}
use Rattle.vm_ids.specs.declared.node_name.NodeName.{NodeName}
use Rattle.vm_ids.specs.declared.refusal.Refusal.TheVariants as refusals
use Rattle.vm_ids.specs.declared.reply.Reply.TheVariants as replies
use Rattle.vm_ids.specs.Forest.Commands.{page_name}
use Rattle.vm_ids.specs.Forest.NameMap.{keys}
use Rattle.vm_ids.specs.Forest.Nodes.{Forest, child_count, is_live}
use Rattle.vm_ids.specs.Forest.PageMap.{map_entries, map_node, map_pages, map_values, no_page}
use Rattle.vm_ids.specs.Forest.Reading.{chain_of, counts_of}
use Rattle.vm_ids.proofs.Forest.PageMap.{copies-map, path_of-map, stubs-map, tree-map}
use Rattle.local_cache.specs.Reading as arena
use Rattle.fault_path.proofs.Calls.Kept.{store_bare}
use Rattle.local_cache.specs.Whole.{IsWhole}
use Rattle.vm_model.specs.Answering.{chain_answer, refuse, reply, unless, with_some}
use Rattle.vm_model.specs.Machine.{Cache, Machine, cache_of}
use Rattle.vm_model.specs.PageForest.{PageForest}
use Rattle.pvm_core.specs.Manager.{Manager, forest_of, world_of}

module _ {P Q : Type 0} (h : P → Q) where
  children-map : (f : Forest P) (y : NodeName) → child_count (map_pages h f) y ≡ child_count f y
  children-map f y = λ i. length (tree-map h f y i) + length (stubs-map h f y i)

  chain_of-map : (f : Forest P) (x : NodeName) → chain_of (map_pages h f) x ≡ chain_of f x
  unfolding chain_of
  chain_of-map f x = λ i. map (λ y. record { name = y; children = children-map f y i }) (path_of-map h f x i)

  names-map : {X Y : Type 0} (g : X → Y) (es : List (NodeName × X)) → map (λ e. e.0) (map_entries g es) ≡ map (λ e. e.0) es
  names-map g [] = refl
  names-map g (e ∷ es) = ap (λ xs. e.0 ∷ xs) (names-map g es)

  keys-map : (f : Forest P) → keys (map_pages h f).nodes ≡ keys f.nodes
  unfolding map_pages map_values
  keys-map f = names-map (map_node h) f.nodes.list

  counts_of-map : (f : Forest P) → counts_of (map_pages h f) ≡ counts_of f
  counts_of-map f = λ i. record { live = length (filter is_live (keys-map f i)); working = length (filter (λ x. not (is_live x)) (keys-map f i)); copies = copies-map h f i }

module _ (p : Manager) (h : Option Held) (nodes : IsWhole p.caches) where
  pub chains_of : (x : NodeName) → chain_of (forest_of p h) x ≡ chain_of (arena.forest_of p.caches) x
  chains_of x = sym (chain_of-map no_page (forest_of p h) x) ∙ ap (λ f. chain_of f x) (store_bare (world_of p h) nodes.sound) ∙ chain_of-map no_page (arena.forest_of p.caches) x

  pub counts_are : counts_of (forest_of p h) ≡ counts_of (arena.forest_of p.caches)
  counts_are = sym (counts_of-map no_page (forest_of p h)) ∙ ap counts_of (store_bare (world_of p h) nodes.sound) ∙ counts_of-map no_page (arena.forest_of p.caches)

module _ (m : Machine) (f : PageForest) (cache : CacheId) (page : ℕ) where
  pub chain_no_cache : cache_of m cache.0 ≡ None → chain_answer m f cache page ≡ refuse m refusals.NoCache
  unfolding chain_answer with_some
  chain_no_cache none = rw none refl

  module _ (c : Cache) (there : cache_of m cache.0 ≡ Some c) where
    past : (a b : ℕ) → a ≤ b → nat_lt a (b + 1) ≡ true
    past a b e = grind (arith, nat_tests)

    before : (a b : ℕ) → b < a → nat_lt a (b + 1) ≡ false
    before a b e = grind (arith, nat_tests)

    pub chain_out : length c.pages ≤ page → chain_answer m f cache page ≡ refuse m refusals.OutOfCache
    unfolding chain_answer with_some unless
    chain_out e = let out = past (length c.pages) page e in rw (there, out) refl

    pub chain_row : page < length c.pages → chain_answer m f cache page ≡ reply (replies.Chain (chain_of f (page_name cache page))) m
    unfolding chain_answer with_some unless
    chain_row e = let inside = before (length c.pages) page e in rw (there, inside) refl
