-- Translations stay right where nodes, own states and frames stay.
use Rattle.std.proofs.Common.{◌≡◌, ℕ, zero, suc, List, ◌∷◌, map, Option, Some, None, is_some, unwrap_or, refl, ap, subst, ◌∙◌}
use Rattle.std.specs.Prelude.{option_and_then}
use Rattle.std.specs.FinMap as ids
use Rattle.vm_ids.specs.declared.node_name.NodeName.{NodeName}
use Rattle.vm_ids.specs.declared.numbers.CacheId.{CacheId}
use Rattle.vm_ids.specs.declared.numbers.NodeId.{NodeId}
use Rattle.vm_ids.specs.Forest.NameMap as names
use Rattle.vm_ids.specs.Forest.Nodes.{node}
use Rattle.vm_ids.specs.Forest.Reading.{value_of}
use Rattle.vm_ids.specs.Forest.Rules.{heir}
use Rattle.global_map.specs.Pairs.{frame_of}
use Rattle.page_tables.specs.Translations.{entry_at}
use Rattle.page_tables.specs.declared.entry.Entry.{Entry}
use Rattle.local_cache.specs.Arena.{Arena, Cell, blank, cell, without_cache}
use Rattle.local_cache.specs.Reading.{at_key, forest_of, hang_by, name_of, node_of, stubs_of, walk}
use Rattle.local_cache.specs.ReadingBy.{forest_by, node_with}
use Rattle.local_cache.proofs.Changes.SameCells.{alike_forest}
use Rattle.local_cache.proofs.NewNode.Addition.{hang-names}
use Rattle.residency.specs.declared.store.Store.{Store}
use Rattle.residency.specs.Seeing.{IsAlone, frame_forest, own_frame, seen_in}
use Rattle.residency.specs.World.{page_by}
use Rattle.page_commands.specs.Homes.{IsWritable}
use Rattle.pvm_core.specs.Translated.{KeepsTranslations}
use Rattle.pvm_core.specs.Writes.{KeepsNodes}
use Rattle.pvm_core.proofs.Translating.Alike.{alike_right}
use Rattle.pvm_core.proofs.Translating.Writable.{granted_writable, tables_writable, without_writable}

module _ (a b : Arena) (cells : b.cells ≡ a.cells) where
  cell_same : (n : NodeId) → cell b n ≡ cell a n
  unfolding cell
  cell_same n = ap (λ cs. unwrap_or (ids.get cs n.0) blank) cells

  name_same : (n : NodeId) → name_of b n ≡ name_of a n
  name_same n = ap (λ c. c.name) (cell_same n)

  names_same : name_of b ≡ name_of a
  names_same = λ i n. name_same n i

  walk_same : (k : ℕ) (from : Option NodeId) → walk b k from ≡ walk a k from
  walk_same zero from = refl
  walk_same (suc k) None = refl
  walk_same (suc k) (Some n) = ap (λ c. n ∷ walk b k c.links.behind) (cell_same n) ∙ ap (λ ns. n ∷ ns) (walk_same k (cell a n).links.behind)

  stubs_same : (n : NodeId) → stubs_of b n ≡ stubs_of a n
  unfolding stubs_of
  stubs_same n = ap (λ c. walk b c.links.stubs c.links.first) (cell_same n) ∙ walk_same (cell a n).links.stubs (cell a n).links.first

  hang_same : (n : NodeId) → (node_of b n).hang ≡ (node_of a n).hang
  hang_same n = ap (λ c. hang_by b c.links.parent c.links.by_stub) (cell_same n) ∙ hang-names a b (cell a n).links.parent (cell a n).links.by_stub (λ m e. name_same m)

  tree_same : (n : NodeId) → (node_of b n).tree ≡ (node_of a n).tree
  tree_same n = ap (λ c. map (name_of b) c.tree) (cell_same n) ∙ ap (λ f. map f (cell a n).tree) names_same

  stub_names : (n : NodeId) → (node_of b n).stubs ≡ (node_of a n).stubs
  stub_names n = ap (map (name_of b)) (stubs_same n) ∙ ap (λ f. map f (stubs_of a n)) names_same

  same_frame : (frames : List (Option NodeId)) (n : NodeId) → own_frame b frames n ≡ own_frame a frames n
  same_frame frames n = ap (λ (c : Cell). page_by None (Some (frame_of frames n.0)) (λ slot. None) None c.own) (cell_same n)

  node_same : (frames : List (Option NodeId)) (n : NodeId) → node_with b n (own_frame b frames n) ≡ node_with a n (own_frame a frames n)
  node_same frames n = λ i. record { own = same_frame frames n i; hang = hang_same n i; tree = tree_same n i; stubs = stub_names n i }

  nodes_same : (frames : List (Option NodeId)) → (frame_forest b frames).nodes ≡ (frame_forest a frames).nodes
  unfolding frame_forest forest_by
  nodes_same frames = λ i. names.from_entries (map (λ k. (name_same (at_key k) i, node_same frames (at_key k) i)) (ids.keys (cells i)))

  module _ (made : b.made ≡ a.made) (copies : b.copies ≡ a.copies) where
    frames_same : (frames : List (Option NodeId)) → frame_forest b frames ≡ frame_forest a frames
    unfolding frame_forest forest_by
    frames_same frames = λ i. record { nodes = nodes_same frames i; made = made i; copies = copies i }

    -- a page is seen where it was
    pub cells_seen : (frames : List (Option NodeId)) (x : NodeName) → seen_in b frames x ≡ seen_in a frames x
    cells_seen frames x = ap (λ f. option_and_then (λ (o : Option ℕ). o) (value_of f x)) (frames_same frames)

    counted : record (forest_of a) { made = b.made; copies = b.copies } ≡ forest_of a
    unfolding forest_of
    counted = λ i. record (forest_of a) { made = made i; copies = copies i }

    same_forest : forest_of b ≡ forest_of a
    same_forest = alike_forest a b cells ∙ counted

    -- and is its node's alone where it was
    pub cells_alone : (x : NodeName) → IsAlone a x → IsAlone b x
    cells_alone x alone = record { owned = ap (λ f. is_some (node f x).own) same_forest ∙ alone.owned; last = ap (λ f. heir f x) same_forest ∙ alone.last }

    pub cells_right : (s t : Store) → t.tables ≡ s.tables → t.map ≡ s.map → ((x : NodeName) → IsWritable a x → IsWritable b x) → KeepsTranslations a b s t
    cells_right s t tables frames writable u = alike_right a b s t u (λ place e is. subst (λ (ts : List (Option Entry)). entry_at ts place ≡ Some e) tables is)
        (λ x f live seen. ap (λ m. seen_in b m x) frames ∙ cells_seen s.map x ∙ seen) (λ x live. cells_alone x) (λ x live. writable x)

-- there is more room for nodes, or less
pub roomier_right : (a b : Arena) (s : Store) → b ≡ record a { room = b.room } → KeepsTranslations a b s s
roomier_right a b s is = cells_right a b (ap (λ (k : Arena). k.cells) is) (ap (λ (k : Arena). k.made) is) (ap (λ (k : Arena). k.copies) is) s s refl refl (tables_writable a b (ap (λ (k : Arena). k.caches) is))

-- pages were granted
pub granted_right : (a b : Arena) (s : Store) → KeepsNodes a b → KeepsTranslations a b s s
granted_right a b s k = cells_right a b k.cells k.made k.copies s s refl refl (granted_writable a b k.same k.grants)

-- a cache is gone
pub without_right : (a b : Arena) (s : Store) (gone : CacheId) → b ≡ without_cache a gone → KeepsTranslations a b s s
without_right a b s gone is = cells_right a b (ap (λ (k : Arena). k.cells) is) (ap (λ (k : Arena). k.made) is) (ap (λ (k : Arena). k.copies) is) s s refl refl (without_writable a b gone is)
