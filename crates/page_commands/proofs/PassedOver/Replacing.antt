-- Pages that become what their segment holds, one behind the other, and those that are passed over.
use Rattle.std.proofs.Common.{◌≡◌, ℕ, zero, suc, ◌+◌, ◌-◌, ◌<◌, true, [], map, Option, Some, None, refl, sym, ap, ◌∙◌, subst, inl, inr, arith}
use Rattle.std.specs.Prelude.{option_and_then, option_map}
use Rattle.std.proofs.lemmas.Bool.{cases_lt}
use Rattle.vm_ids.specs.Held.{Held, slot_of}
use Rattle.vm_ids.specs.declared.node_name.NodeName.{NodeName}
use Rattle.vm_ids.specs.declared.numbers.CacheId.{CacheId}
use Rattle.vm_ids.specs.declared.numbers.NodeId.{NodeId}
use Rattle.vm_ids.specs.declared.numbers.PageNo.{PageNo}
use Rattle.vm_ids.specs.Forest.Commands.{page_name, page_names, replace_pages}
use Rattle.vm_ids.specs.Forest.NameLists.{◌∈◌}
use Rattle.vm_ids.specs.Forest.Nodes.{Forest, childless, node}
use Rattle.vm_ids.specs.Forest.Nodes.Hang.{Root}
use Rattle.vm_ids.specs.Forest.Rules.{detach}
use Rattle.vm_ids.specs.Forest.Shape.{IsConsistent}
use Rattle.vm_ids.proofs.Forest.Laws.Ranges.{ranges_hold_their_pages}
use Rattle.global_map.specs.Pairs.{frame_of}
use Rattle.local_cache.specs.declared.own_state.OwnState.TheVariants.{OnSegment}
use Rattle.local_cache.specs.Arena.{Arena, cell, node_at}
use Rattle.local_cache.specs.ManyNodes.{next_node}
use Rattle.local_cache.specs.Own.{own_of}
use Rattle.local_cache.specs.Reading.{forest_of, hang_by, name_of, page_of, stubs_of, walk}
use Rattle.local_cache.specs.ReadingBy.{forest_by, node_with, state_page}
use Rattle.local_cache.specs.Sound.{IsSound}
use Rattle.local_cache.proofs.Forest.Reading.{forest_of-by, node-forest_by}
use Rattle.residency.specs.declared.store.Store.{Store}
use Rattle.residency.specs.Seeing.{frame_forest, own_frame}
use Rattle.residency.specs.StoreForest.{store_forest}
use Rattle.residency.specs.World.{World, frame_page, home_page, is_clean, own_page, page_by, world, zero_page}
use Rattle.tree_merge.specs.Copying.{IsLone}
use Rattle.page_commands.specs.Commands.{Grows}
use Rattle.page_commands.specs.Homes.{IsClean, is_named, named_page}
use Rattle.page_commands.specs.Readings.{GoesBy, held_pages, new_frames, new_pages, new_states}
use Rattle.page_commands.specs.Steps.{IsStoreTied, Releases}
use Rattle.page_commands.specs.Untouched.{AreUntouched}
use Rattle.page_commands.proofs.Forgotten.Range.{same_place}
use Rattle.page_commands.proofs.PassedOver.Forgetting.{part_of}
use Rattle.page_commands.proofs.PassedOver.Itself.{replaced_itself}
use Rattle.page_commands.proofs.PassedOver.Nodes.{untouched_name}
use Rattle.page_commands.proofs.TiedStores.Kept.{kept_none, kept_then}
use Rattle.page_commands.proofs.TiedStores.Named.{named_home, named_same}
use Rattle.page_commands.proofs.CommandSteps.Replacing.{clean_then, named_held, segment_pages_same, with_page}

-- So many pages of a cache, from one on, became what their segment holds, one after the other.
pub record ReplacesPages (c : CacheId) (p n : ℕ) (s : Store) (a : Arena) (t : Store) (b : Arena) : Type 0 where
  pub rule : GoesBy (λ P put f. replace_pages (held_pages put (page_names c p n)) f) s a t b
  pub kept : Releases (page_names c p n) s a t b
  pub clean : (x : NodeName) → x ∈ page_names c p n → IsClean b x
  pub grows : Grows n a b

grows_none : (a : Arena) (n : ℕ) → IsConsistent (forest_of a) → Grows n a a
grows_none a n consistent = record { consistent = consistent; stays = λ x is. is; made = omega arith; room = omega arith; few = omega arith }

pub replaces_none : (c : CacheId) (p : ℕ) (s : Store) (a : Arena) → IsSound a → IsConsistent (forest_of a) → IsStoreTied s a → ReplacesPages c p 0 s a s a
replaces_none c p s a sound consistent tied = record {
  rule = record { nodes = refl; forest = λ told size fit. refl; frames = refl };
  kept = kept_none [] s a sound tied;
  clean = λ x i. absurd i;
  grows = grows_none a 0 consistent;
}

-- the pages from one on, behind those before it
replaced_joined : {P : Type 0} (page : NodeName → P) (c : CacheId) (p m n : ℕ) (f : Forest P)
    → replace_pages (with_page page (page_names c (p + m) n)) (replace_pages (with_page page (page_names c p m)) f) ≡ replace_pages (with_page page (page_names c p (m + n))) f
replaced_joined page c p zero n f =
    let from : p + 0 ≡ p = omega arith in
    let all : n ≡ 0 + n = omega arith in
    λ i. replace_pages (with_page page (page_names c (from i) (all i))) f
replaced_joined page c p (suc m) n f =
    let from : p + suc m ≡ p + 1 + m = omega arith in
    let all : suc (m + n) ≡ suc m + n = omega arith in
    (λ i. replace_pages (with_page page (page_names c (from i) n)) (replace_pages (with_page page (page_names c p (suc m))) f))
    ∙ replaced_joined page c (p + 1) m n (detach f (page_name c p) (Some (page (page_name c p))))
    ∙ ap (λ k. replace_pages (with_page page (page_names c p k)) f) all

module _ (c : CacheId) (p m n : ℕ) (s : Store) (a : Arena) (t : Store) (b : Arena) (u : Store) (e : Arena) (tied : IsStoreTied s a) (named : is_named a c ≡ true) (f : ReplacesPages c p m s a t b) (g : ReplacesPages c (p + m) n t b u e) where
  first_part : (x : NodeName) → x ∈ page_names c p m → x ∈ page_names c p (m + n)
  first_part x i = let at = (ranges_hold_their_pages c p m x).0 i in (ranges_hold_their_pages c p (m + n) x).1 (at.0, omega (arith, at.1), at.2)

  all_clean : (x : NodeName) → x ∈ page_names c p (m + n) → IsClean e x
  all_clean x i =
      let at = (ranges_hold_their_pages c p (m + n) x).0 i in
      subst (IsClean e) (sym at.2) (elim (cases_lt at.0 m) [
        | inl low ↦ clean_then (page_names c (p + m) n) b e g.kept.homes (page_name c (p + at.0))
            (named_home e c (named_same b e g.kept.sizes c ∙ named_same a b f.kept.sizes c ∙ named) (record { 0 = p + at.0 }))
            (λ j. let behind = (ranges_hold_their_pages c (p + m) n (page_name c (p + at.0))).0 j in
            let place : p + m + behind.0 ≡ p + (m + behind.0) = omega arith in
            let is = same_place c p at.0 (m + behind.0) (behind.2 ∙ ap (page_name c) place) in omega (arith, is, low))
            (f.clean (page_name c (p + at.0)) ((ranges_hold_their_pages c p m (page_name c (p + at.0))).1 (at.0, low, refl)))
        | inr high ↦ (
            let place : p + at.0 ≡ p + m + (at.0 - m) = omega (arith, high) in
            g.clean (page_name c (p + at.0)) ((ranges_hold_their_pages c (p + m) n (page_name c (p + at.0))).1 (at.0 - m, omega (arith, at.1, high), ap (page_name c) place)))
      ])

  pub replaces_then : ReplacesPages c p (m + n) s a u e
  replaces_then = record {
    rule = record {
      nodes = g.rule.nodes ∙ ap (replace_pages (held_pages new_states (page_names c (p + m) n))) f.rule.nodes ∙ replaced_joined (λ _. OnSegment) c p m n (forest_of a);
      forest = λ told size fit.
          let w = world told size a s in
          g.rule.forest told size (f.kept.gives_back told size fit).tied
          ∙ ap (λ ps. replace_pages ps (store_forest (world told size b t))) (segment_pages_same told size s a t b f.kept.sizes (page_names c (p + m) n))
          ∙ ap (replace_pages (held_pages (new_pages w) (page_names c (p + m) n))) (f.rule.forest told size fit)
          ∙ replaced_joined (named_page w) c p m n (store_forest w);
      frames = g.rule.frames ∙ ap (replace_pages (held_pages new_frames (page_names c (p + m) n))) f.rule.frames ∙ replaced_joined (λ _. None) c p m n (frame_forest a s.map);
    };
    kept = kept_then (page_names c p m) (page_names c (p + m) n) (page_names c p (m + n)) s a t b u e tied first_part (part_of c p (m + n) m n (omega arith)) f.kept g.kept;
    clean = all_clean;
    grows = record {
      consistent = g.grows.consistent;
      stays = λ x is. g.grows.stays x (f.grows.stays x is);
      made = omega (arith, f.grows.made, g.grows.made);
      room = omega (arith, f.grows.room, g.grows.room);
      few = omega (arith, f.grows.few, g.grows.few);
    };
  }

-- Untouched pages are what their segment holds

-- a lone node, with this own page
lone_with : {P : Type 0} (a : Arena) (n : NodeId) → IsLone (cell a n) → (o : Option P) → node_with a n o ≡ childless o Root
unfolding stubs_of
lone_with a n lone o = λ i. record {
  own = o;
  hang = hang_by a (lone.root i) (cell a n).links.by_stub;
  tree = map (name_of a) (lone.tree i);
  stubs = map (name_of a) (walk a (lone.stubs i) (cell a n).links.first);
}

module _ (s : Store) (a : Arena) (sound : IsSound a) (c : CacheId) (p : PageNo) (n : NodeId) (here : node_at a c.0 p.0 ≡ Some n) (count : ℕ) (are : AreUntouched a n count) where
  -- in the forest with any pages
  read : {P : Type 0} (page : NodeId → Option P) (k : ℕ) → k < count → node (forest_by page a) (page_name c (p.0 + k)) ≡ childless (page (next_node n k)) Root
  read page k low =
      let m : NodeId = next_node n k in
      ap (node (forest_by page a)) (sym (untouched_name a sound c p n here count are k low)) ∙ node-forest_by a page sound.kept.named m (are.alike k low).held ∙ lone_with a m (are.untouched k low).lone (page m)

  -- where these are given
  all_read : {P : Type 0} (page : NodeId → Option P) (given : NodeName → P) → ((k : ℕ) → k < count → page (next_node n k) ≡ Some (given (page_name c (p.0 + k))))
      → (x : NodeName) → x ∈ page_names c p.0 count → node (forest_by page a) x ≡ childless (Some (given x)) Root
  all_read page given pages x i =
      let at = (ranges_hold_their_pages c p.0 count x).0 i in
      subst (λ y. node (forest_by page a) y ≡ childless (Some (given y)) Root) (sym at.2) (read page at.0 at.1 ∙ ap (λ o. childless o Root) (pages at.0 at.1))

  untouched_own : (k : ℕ) → k < count → own_of a (next_node n k) ≡ OnSegment
  untouched_own k low = (are.untouched k low).own

  untouched_nodes : forest_of a ≡ replace_pages (held_pages new_states (page_names c p.0 count)) (forest_of a)
  untouched_nodes = replaced_itself (λ _. OnSegment) (page_names c p.0 count) (forest_of a) (λ x i.
      ap (λ f. node f x) (forest_of-by a) ∙ all_read (state_page a) (λ _. OnSegment) (λ k low. ap page_of (untouched_own k low)) x i)

  untouched_forest : (told : Option Held) (size : Option ℕ) → store_forest (world told size a s) ≡ replace_pages (held_pages (new_pages (world told size a s)) (page_names c p.0 count)) (store_forest (world told size a s))
  unfolding store_forest
  untouched_forest told size =
      let w = world told size a s in
      replaced_itself (named_page w) (page_names c p.0 count) (forest_by (own_page w) a) (all_read (own_page w) (named_page w) (λ k low. on_segment w (next_node n k) (untouched_own k low) ∙ ap (λ x. Some (named_page w x)) (untouched_name a sound c p n here count are k low)))
    where
      on_segment : (w : World) (m : NodeId) → own_of w.caches m ≡ OnSegment → own_page w m ≡ Some (named_page w (name_of w.caches m))
      on_segment w m own = ap (page_by (option_map (λ _. zero_page w) w.told) (option_map (λ _. frame_page w m) w.told) (λ slot. option_and_then (λ h. slot_of h slot) w.told) (home_page w m)) own

  untouched_frames : frame_forest a s.map ≡ replace_pages (held_pages new_frames (page_names c p.0 count)) (frame_forest a s.map)
  unfolding frame_forest
  untouched_frames = replaced_itself (λ _. None) (page_names c p.0 count) (forest_by (own_frame a s.map) a) (all_read (own_frame a s.map) (λ _. None) (λ k low. ap (page_by None (Some (frame_of s.map (next_node n k).0)) (λ slot. None) None) (untouched_own k low)))

  untouched_clean : (x : NodeName) → x ∈ page_names c p.0 count → IsClean a x
  untouched_clean x i m named =
      let at = (ranges_hold_their_pages c p.0 count x).0 i in
      let k = at.0 in
      let here_too = untouched_name a sound c p n here count are k at.1 in
      let one : m ≡ next_node n k = sound.kept.named.apart m (next_node n k) (named_held a m c (record { 0 = p.0 + k }) (named ∙ at.2)) (are.alike k at.1).held (named ∙ at.2 ∙ sym here_too) in
      ap (λ (j : NodeId). is_clean (own_of a j)) one ∙ ap is_clean (untouched_own k at.1)

  pub untouched_replaces : IsConsistent (forest_of a) → IsStoreTied s a → ReplacesPages c p.0 count s a s a
  untouched_replaces consistent tied = record {
    rule = record { nodes = untouched_nodes; forest = λ told size fit. untouched_forest told size; frames = untouched_frames };
    kept = kept_none (page_names c p.0 count) s a sound tied;
    clean = untouched_clean;
    grows = grows_none a count consistent;
  }
