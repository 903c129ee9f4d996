-- A fresh node for a page that has none: the forest of any pages has it, and a store stays tied.
use Rattle.std.proofs.Common.{◌≡◌, ◌≢◌, ℕ, ◌+◌, Bool, true, false, length, Option, Some, None, IsSome, is_some, refl, sym, ap, ◌∙◌, arith, inl, inr}
use Rattle.std.specs.List.{count_by}
use Rattle.std.specs.Prelude.{option_map, option_and_then}
use Rattle.vm_ids.specs.Held.{slot_of}
use Rattle.vm_ids.specs.declared.node_name.NodeName.{NodeName}
use Rattle.vm_ids.specs.declared.node_name.NodeName.TheVariants.{Live}
use Rattle.vm_ids.specs.declared.numbers.CacheId.{CacheId}
use Rattle.vm_ids.specs.declared.numbers.NodeId.{NodeId}
use Rattle.vm_ids.specs.declared.numbers.PageNo.{PageNo}
use Rattle.vm_ids.specs.Forest.Changes.{put as put_node}
use Rattle.vm_ids.specs.Forest.Nodes.{Forest, childless, node}
use Rattle.vm_ids.specs.Forest.Nodes.Hang.{Root}
use Rattle.vm_ids.specs.Forest.PageMap.{bare, no_page}
use Rattle.vm_ids.proofs.Forest.NodesAfter.{node-put, node-put_other}
use Rattle.vm_ids.proofs.Forest.PageMap.{put-map}
use Rattle.vm_ids.proofs.Places.{bit, bit_false}
use Rattle.local_cache.specs.declared.own_state.OwnState.{OwnState}
use Rattle.local_cache.specs.declared.own_state.OwnState.TheVariants.{Absent, Zero, Resident, Slot, OnSegment}
use Rattle.local_cache.specs.Arena as arena
use Rattle.local_cache.specs.Arena.{Arena, HasNode, IsVacant, find, new_cell, with_new}
use Rattle.local_cache.specs.Own.{is_in_slot, is_resident, is_slot, own_of, own_states}
use Rattle.local_cache.specs.Reading.{AreNamesApart, forest_of, name_of, page_of}
use Rattle.local_cache.specs.ReadingBy.{Tells, forest_by}
use Rattle.local_cache.specs.Sound.{IsKept}
use Rattle.local_cache.specs.declared.home.Home.{Home}
use Rattle.local_cache.specs.Home.{home_named, home_of}
use Rattle.local_cache.proofs.Names.Homes.{home-with_new, home-with_new_other}
use Rattle.local_cache.proofs.NewNode.FreshNode.{page-forest}
use Rattle.local_cache.proofs.NewNode.States.{found_other, fresh_found, fresh_name, fresh_name_other, fresh_own, fresh_own_other}
use Rattle.local_cache.proofs.Forest.ReadingBy.{bare-of, lifted, page-at, same_bare}
use Rattle.local_cache.proofs.Nodes.OwnStates.{id_cases}
use Rattle.residency.specs.World.{IsTied, World, frame_page, home_page, is_clean, own_page, page_at, page_by, zero_page}
use Rattle.page_commands.specs.Homes.{named_page}
use Rattle.page_commands.specs.Steps.{GivesBack, fresh_page, is_fresh}
use Rattle.page_commands.proofs.TiedStores.Backed.{own_page_as}
use Rattle.page_commands.proofs.TiedStores.States.{caches_give}
use Rattle.page_commands.proofs.NodesGone.Counting.{all_count, put_count}
use Rattle.page_commands.proofs.NodesGone.Passed.{gone_own}
use Rattle.page_commands.proofs.NamedNodes.Taken.{IsFreeHome, taken_backed}

pub fresh_count : (a : Arena) (d : NodeId) → find a d ≡ None → (x : NodeName) (s : OwnState) (p : OwnState → Bool) → count_by p (own_states (with_new a d x s)) ≡ bit (p s) + count_by p (own_states a)
unfolding with_new arena.put
fresh_count a d free x s p = put_count p a d (new_cell x s) free

module _ (w : World) (d : NodeId) (free : find w.caches d ≡ None) (x : NodeName) (s : OwnState) (fresh : is_fresh w.caches x s ≡ true) where
  abbrev a : Arena
  a = w.caches

  abbrev b : Arena
  b = with_new w.caches d x s

  abbrev v : World
  v = record w { caches = with_new w.caches d x s }

  not_resident : (t : OwnState) → is_fresh w.caches x t ≡ true → is_resident t ≡ false
  not_resident Absent e = refl
  not_resident Zero e = refl
  not_resident (Resident d) e = absurd (cc e)
  not_resident (Slot k) e = absurd (cc e)
  not_resident OnSegment e = refl

  not_in_slot : (t : OwnState) → is_fresh w.caches x t ≡ true → is_in_slot t ≡ false
  not_in_slot Absent e = refl
  not_in_slot Zero e = refl
  not_in_slot (Resident d) e = absurd (cc e)
  not_in_slot (Slot k) e = absurd (cc e)
  not_in_slot OnSegment e = refl

  not_slot : (k : ℕ) (t : OwnState) → is_fresh w.caches x t ≡ true → is_slot k t ≡ false
  not_slot k Absent e = refl
  not_slot k Zero e = refl
  not_slot k (Resident d) e = absurd (cc e)
  not_slot k (Slot j) e = absurd (cc e)
  not_slot k OnSegment e = refl

  same_count : (p : OwnState → Bool) → p s ≡ false → count_by p (own_states b) ≡ count_by p (own_states a)
  same_count p out = omega (arith, fresh_count a d free x s p, bit_false (p s) out)

  home_is : home_of (with_new w.caches d x s) d ≡ home_named w.caches.caches x
  home_is = home-with_new a d x s

  home_page_is : home_page v d ≡ named_page w x
  home_page_is = ap (λ (o : Option Home). option_and_then (λ h. option_and_then (page_at h) o) w.told) home_is

  -- a page in no frame and in no slot
  by_state : (t : OwnState) → is_fresh w.caches x t ≡ true → page_by (option_map (λ _. zero_page w) w.told) (option_map (λ _. frame_page w d) w.told) (λ k. option_and_then (λ h. slot_of h k) w.told) (home_page v d) t ≡ fresh_page w x t
  by_state Absent e = refl
  by_state Zero e = refl
  by_state (Resident d) e = absurd (cc e)
  by_state (Slot j) e = absurd (cc e)
  by_state OnSegment e = ap Some home_page_is

  pub fresh_page_is : own_page (record w { caches = with_new w.caches d x s }) d ≡ fresh_page w x s
  fresh_page_is = ap (page_by (option_map (λ _. zero_page w) w.told) (option_map (λ _. frame_page w d) w.told) (λ k. option_and_then (λ h. slot_of h k) w.told) (home_page v d)) (fresh_own a d free x s) ∙ by_state s fresh

  pub fresh_page_other : (m : NodeId) → m ≢ d → own_page (record w { caches = with_new w.caches d x s }) m ≡ own_page w m
  fresh_page_other m ne = own_page_as w b w.frames.held w.slots w.map m m (fresh_own_other a d free x s m ne) (λ r. refl) (λ k. home-with_new_other a d x s m ne)

  on_segment : (t : OwnState) → is_fresh w.caches x t ≡ true → is_clean t ≡ true → IsSome (home_named w.caches.caches x) × (fresh_page w x t ≡ Some (named_page w x))
  on_segment Absent e k = absurd (cc k)
  on_segment Zero e k = absurd (cc k)
  on_segment (Resident d) e k = absurd (cc e)
  on_segment (Slot j) e k = absurd (cc e)
  on_segment OnSegment e k = (e, refl)

  fresh_clean : is_clean (own_of (with_new w.caches d x s) d) ≡ true → IsSome (home_named w.caches.caches x) × (own_page (record w { caches = with_new w.caches d x s }) d ≡ Some (home_page (record w { caches = with_new w.caches d x s }) d))
  fresh_clean k = let on = on_segment s fresh (ap is_clean (sym (fresh_own a d free x s)) ∙ k) in (on.0, fresh_page_is ∙ on.1 ∙ ap Some (sym home_page_is))

  fresh_tied : IsFreeHome w x → IsTied w → IsTied (record w { caches = with_new w.caches d x s })
  fresh_tied room fit = record {
    placed = record {
      bound = λ m. fit.placed.bound m ∙ elim (id_cases m d) [
        | inl e ↦ ap (λ (k : NodeId). bit (is_resident (own_of a k))) e ∙ ap (λ (t : OwnState). bit (is_resident t)) (gone_own a d free) ∙ sym (ap (λ (k : NodeId). bit (is_resident (own_of b k))) e ∙ ap (λ (t : OwnState). bit (is_resident t)) (fresh_own a d free x s) ∙ ap bit (not_resident s fresh))
        | inr ne ↦ ap (λ (t : OwnState). bit (is_resident t)) (sym (fresh_own_other a d free x s m ne))
      ];
      held = fit.placed.held;
      slots = λ k. same_count (is_slot k) (not_slot k s fresh) ∙ fit.placed.slots k;
      in_slots = fit.placed.in_slots ∙ sym (same_count is_in_slot (not_in_slot s fresh));
    };
    backed = taken_backed w b d x room home_is (home-with_new_other a d x s) (fresh_own_other a d free x s) fresh_clean fit.backed;
    fitted = fit.fitted;
  }

  pub fresh_gives : IsFreeHome w x → IsTied w → GivesBack w (record w { caches = with_new w.caches d x s })
  fresh_gives room fit = caches_give w b (fresh_tied room fit)

-- The forest of any pages, with a fresh node at a page that has none
module _ {P : Type 0} (page now : NodeId → Option P) (a : Arena) (kept : IsKept a) (told : Tells page a) (d : NodeId) (free : find a d ≡ None) (cache : CacheId) (no : PageNo) (vacant : IsVacant a cache no) (s : OwnState) where
  abbrev x : NodeName
  x = Live cache no

  abbrev c : Arena
  c = with_new a d (Live cache no) s

  abbrev g : Forest P
  g = put_node (forest_by page a) (Live cache no) (childless (now d) Root)

  pub fresh-by : AreNamesApart (with_new a d (Live cache no) s) → Tells now (with_new a d (Live cache no) s) → ((m : NodeId) → m ≢ d → now m ≡ page m)
      → forest_by now (with_new a d (Live cache no) s) ≡ put_node (forest_by page a) (Live cache no) (childless (now d) Root)
  fresh-by named tells same = lifted now c named tells g
      (ap bare (page-forest a kept d free cache no vacant s) ∙ put-map no_page (forest_of a) x (childless (page_of s) Root)
      ∙ ap (λ f. put_node f x (childless (option_map no_page (page_of s)) Root)) (sym (bare-of page a kept.named told))
      ∙ ap (λ o. put_node (bare (forest_by page a)) x (childless o Root)) (sym (same_bare (now d) (page_of s) (tells d ∙ ap (λ (t : OwnState). is_some (page_of t)) (fresh_own a d free x s))))
      ∙ sym (put-map no_page (forest_by page a) x (childless (now d) Root)))
      (λ m h. elim (id_cases m d) [
        | inl e ↦ ap now e ∙ sym (ap (λ k. k.own) (node-put (forest_by page a) x (childless (now d) Root))) ∙ ap (λ y. (node g y).own) (sym (ap (name_of c) e ∙ fresh_name a d free x s))
        | inr ne ↦
            let held : HasNode a m = ap is_some (sym (found_other a d free x s m ne)) ∙ h in
            let there : HasNode c d = ap is_some (fresh_found a d free x s) in
            same m ne ∙ sym (page-at page a kept.named m held) ∙ ap (λ y. (node (forest_by page a) y).own) (sym (fresh_name_other a d free x s m ne))
            ∙ sym (ap (λ k. k.own) (node-put_other (forest_by page a) x (name_of c m) _ (λ e. ne (named.apart m d h there (e ∙ sym (fresh_name a d free x s))))))
      ])

-- there is one node more
pub fresh_more : (a b : Arena) (d : NodeId) → find a d ≡ None → (x : NodeName) (s : OwnState) → b ≡ with_new a d x s → length (own_states b) ≡ length (own_states a) + 1
unfolding with_new arena.put
fresh_more a b d free x s is =
    ap (λ (k : Arena). length (own_states k)) is ∙ sym (all_count (own_states (with_new a d x s))) ∙ put_count (λ t. true) a d (new_cell x s) free
    ∙ omega (arith, all_count (own_states a))
