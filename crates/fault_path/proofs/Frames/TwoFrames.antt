-- Two frames were gathered: a node gets the first, and then its heir the second.
use Rattle.std.proofs.Common.{◌≡◌, ◌≢◌, ℕ, ◌+◌, Bool, true, false, List, [], ◌∷◌, ◌++◌, length, filter, ap₂, cond, set, get_or, Option, Some, None, is_none, is_some, refl, sym, ap, ◌∙◌, subst, arith, inl, inr}
use Rattle.std.specs.Prelude.{option_map, option_and_then}
use Rattle.vm_ids.specs.Held.{slot_of}
use Rattle.std.proofs.lemmas.List.{get_or-set_other, set-get_or}
use Rattle.vm_ids.specs.declared.node_name.NodeName.{NodeName}
use Rattle.vm_ids.specs.declared.numbers.NodeId.{NodeId}
use Rattle.vm_ids.specs.Forest.NameLists.{◌∈◌, first, without}
use Rattle.vm_ids.specs.Forest.Nodes.{Forest, Hang, Node, node, parent_of}
use Rattle.vm_ids.specs.Forest.Nodes.Hang.{Root, TreeOf, StubOf}
use Rattle.vm_ids.specs.Forest.Changes.{count_copy}
use Rattle.vm_ids.specs.Forest.Reading.{value_of}
use Rattle.vm_ids.proofs.Forest.Columns.{gets-own_other, gets-stubs, gets-tree, left_stubs}
use Rattle.vm_ids.proofs.Forest.Names.{same_apart}
use Rattle.vm_ids.proofs.Forest.Values.{node-count_copy}
use Rattle.vm_ids.specs.Forest.Rules.{gets, heir, heir_gets, own}
use Rattle.vm_ids.specs.Forest.Shape.{IsLinked, IsWellShaped}
use Rattle.vm_ids.proofs.Places.{back}
use Rattle.frame_pool.specs.Pool.{bytes_of, is_pinned}
use Rattle.global_map.specs.Pairs.{node_of}
use Rattle.local_cache.specs.declared.own_state.OwnState.TheVariants.{Absent, Resident}
use Rattle.local_cache.specs.Arena.{Arena, HasNode}
use Rattle.local_cache.specs.Own.{own_of}
use Rattle.local_cache.specs.Reading.{forest_of, name_of}
use Rattle.local_cache.specs.Sound.{IsSound}
use Rattle.local_cache.proofs.Changes.SameNodes.{like_then}
use Rattle.residency.specs.StoreForest.{store_forest}
use Rattle.residency.specs.World.{IsTaken, PinnedStays, Still, World, frame_page, home_page, own_page, page_by, zero_page}
use Rattle.residency.proofs.Moves.GivenUp.{given_up, given_up_still}
use Rattle.residency.proofs.Worlds.Composed.{stays_then, still, still_then}
use Rattle.residency.proofs.Forests.StillForest.{still_copies, still_like, still_made, still_room}
use Rattle.fault_path.specs.Answers.{IsForestRight}
use Rattle.fault_path.specs.Faults.{IsOwner, Kept, readied}
use Rattle.fault_path.specs.Gathering.{HasPageOf, IsCopiedOut, IsDoubled, IsGathered, NoneGathered}
use Rattle.fault_path.specs.Giving.{IsHanded, IsOwned}
use Rattle.fault_path.proofs.OnePage.DirtyPage.{page_moves}
use Rattle.fault_path.proofs.Frames.GatheredFrames.{set_comm}
use Rattle.fault_path.proofs.Rules.Heirs.{heir_absent}
use Rattle.fault_path.proofs.Frames.SettledFrame.{homed}
use Rattle.fault_path.proofs.Calls.Kept.{store_heir, store_page, store_shaped}
use Rattle.fault_path.proofs.Rules.OneFrameForest.{hand_forest, hand_gives, handed_shaped, own_forest, own_gives, own_shaped, there_w}
use Rattle.fault_path.proofs.Frames.OneFrame.{GivesFrame}

pub absent_none : (w : World) (n : NodeId) → own_of w.caches n ≡ Absent → own_page w n ≡ None
absent_none w n e = ap (page_by (option_map (λ _. zero_page w) w.told) (option_map (λ _. frame_page w n) w.told) (λ k. option_and_then (λ h. slot_of h k) w.told) (home_page w n)) e

-- one kept, and then another
pub kept_then : (a b c : World) → Kept a b → Kept b c → Kept a c
kept_then a b c p q = record {
  right = q.right;
  sound = q.sound;
  shaped = q.shaped;
  pinned = λ f h. let i = p.pinned f h in let j = q.pinned f i.pinned in record { pinned = j.pinned; bytes = j.bytes ∙ i.bytes; node = j.node ∙ i.node };
  pins = q.pins ∙ p.pins;
  nodes = like_then a.caches b.caches c.caches p.nodes q.nodes;
  made = q.made ∙ p.made;
  room = q.room ∙ p.room;
  frames = q.frames ∙ p.frames;
  page = q.page ∙ p.page;
  page_bytes = q.page_bytes ∙ p.page_bytes;
  slots = q.slots ∙ p.slots;
}

same_filter : {p q : NodeName → Bool} (xs : List NodeName) → ((t : NodeName) → t ∈ xs → p t ≡ q t) → filter p xs ≡ filter q xs
same_filter [] e = refl
same_filter {p = p} {q = q} (x ∷ xs) e = ap (λ b. cond b (x ∷ filter p xs) (filter p xs)) (e x (inl refl)) ∙ ap (λ ys. cond (q x) (x ∷ ys) ys) (same_filter {p = p} {q = q} xs (λ t i. e t (inr i)))

module _ {P : Type 0} where
  -- ready for a write, where the node had no page, and where it had one
  pub readied_bare : (f : Forest P) (x : NodeName) → (node f x).own ≡ None → heir_gets (own f x) x ≡ readied f x
  readied_bare f x e = sym (ap (λ o. heir_gets (cond (is_none o) (own f x) f) x) e)

  pub readied_own : (f : Forest P) (x : NodeName) → is_some (node f x).own ≡ true → heir_gets f x ≡ readied f x
  readied_own f x e = sym (ap (λ b. heir_gets (cond b (own f x) f) x) (go (node f x).own e))
    where
      go : (o : Option P) → is_some o ≡ true → is_none o ≡ false
      go None e = absurd (cc e)
      go (Some v) e = refl

  -- x has the heir that it had once it owns its page
  pub heir-own : (f : Forest P) → IsLinked f → (x : NodeName) → heir (own f x) x ≡ heir f x
  unfolding own heir
  heir-own f linked x = ap (λ (n : Node P). first (filter (λ t. is_none (node (count_copy (gets f x (value_of f x))) t).own) n.tree ++ n.stubs)) (node-count_copy (gets f x (value_of f x)) x)
      ∙ ap₂ (λ ts ys. first (filter (λ t. is_none (node (count_copy (gets f x (value_of f x))) t).own) ts ++ ys)) (gets-tree f x x (value_of f x)) (gets-stubs f x x (value_of f x) ∙ own_stubs (node f x).hang refl)
      ∙ ap (λ ts. first (ts ++ (node f x).stubs)) (same_filter (node f x).tree (λ t i. ap (λ n. is_none n.own) (node-count_copy (gets f x (value_of f x)) t)
      ∙ ap is_none (gets-own_other f x t (value_of f x) (λ e. not_own_child t i e))))
    where
      not_own_child : (t : NodeName) → t ∈ (node f x).tree → t ≡ x → ⊥
      not_own_child t i e = let low = linked.order.1 t x (ap parent_of ((linked.tree_links t x).0 i)) in let same : linked.order.0 t ≡ linked.order.0 x = ap linked.order.0 e in absurd (omega arith)

      not_own_parent : (p : NodeName) → (node f x).hang ≡ StubOf p → p ≢ x
      not_own_parent p e q = let low = linked.order.1 x p (ap parent_of e) in let same : linked.order.0 p ≡ linked.order.0 x = ap linked.order.0 q in absurd (omega arith)

      own_stubs : (k : Hang) → (node f x).hang ≡ k → left_stubs x k x (node f x).stubs ≡ (node f x).stubs
      own_stubs Root e = refl
      own_stubs (TreeOf p) e = refl
      own_stubs (StubOf p) e = ap (λ b. cond b (without x (node f x).stubs) (node f x).stubs) (same_apart p x (not_own_parent p e))

-- A frame that was taken is given back, where no second one was gathered.
module _ (old w v : World) (f : ℕ) (gathered : IsGathered f old w) (none : NoneGathered w v) where
  stays : PinnedStays w v f
  stays = none.still.pinned f gathered.taken.pinned

  pub taken_still : IsTaken v f
  taken_still = record { within = omega (arith, gathered.taken.within, none.still.stays.frames); pinned = stays.pinned; unbound = stays.node ∙ gathered.taken.unbound }

  is_left : given_up v f (bytes_of v.frames f) ≡ record v { frames = record v.frames { held = set v.frames.held f false; pinned = set v.frames.pinned f false } }
  is_left = λ i. record v { frames = record v.frames { held = set v.frames.held f false; pinned = set v.frames.pinned f false; bytes = set-get_or v.frames.bytes f [] i } }

  pub released_still : Still old (record v { frames = record v.frames { held = set v.frames.held f false; pinned = set v.frames.pinned f false } })
  released_still = subst (Still old) is_left (
      let up = given_up_still v f (bytes_of v.frames f) none.still.stays.right taken_still in
      let first = still_then old w v gathered.still none.still in
      record {
        stays = stays_then old v (given_up v f (bytes_of v.frames f)) first.stays up.stays;
        pinned = λ g p.
            let i = first.pinned g p in
            let j = up.pinned g (λ e. absurd (let t : is_pinned old.frames g ≡ false = ap (is_pinned old.frames) e ∙ gathered.loose in cc)) i.pinned in
            record { pinned = j.pinned; bytes = j.bytes ∙ i.bytes; node = j.node ∙ i.node };
      })

  pub released_pins : set v.frames.pinned f false ≡ old.frames.pinned
  released_pins = ap (λ ps. set ps f false) (none.pinned ∙ gathered.pinned) ∙ back old.frames.pinned f gathered.loose

-- The page of o, which n reads, was copied out and doubled, and n owns it.
module _ {old w v : World} {f g : ℕ} {n o : NodeId} {b : Arena} (right : IsForestRight old) (copied : IsCopiedOut o f old w) (doubled : IsDoubled f g w v)
    (there : HasNode old.caches n) (absent : own_of old.caches n ≡ Absent) (owner : IsOwner old.caches n o) (is : IsOwned v.caches b n) where
  sound : IsSound old.caches
  sound = right.sound

  shaped : IsWellShaped (forest_of old.caches)
  shaped = right.shaped

  one : IsGathered f old w
  one = copied.gathered

  two : IsGathered g w v
  two = doubled.gathered

  apart : g ≢ f
  apart = doubled.apart

  whole : Still old v
  whole = still_then old w v one.still two.still

  taken_f : IsTaken v f
  taken_f = let k = two.still.pinned f one.taken.pinned in record { within = omega (arith, one.taken.within, two.still.stays.frames); pinned = k.pinned; unbound = doubled.stays.node ∙ one.taken.unbound }

  page_f : HasPageOf v f o
  page_f = page_moves w v f o two.still (there_w old v f whole taken_f sound shaped o owner.held) copied.page doubled.stays.bytes

  -- the node owns its page
  abbrev u : World
  u = homed v f n b

  pub step_forest : store_forest (homed v f n b) ≡ own (store_forest old) (name_of old.caches n)
  step_forest = own_forest old v f whole taken_f sound shaped n o there absent owner page_f b is

  pub step_gives : GivesFrame v (homed v f n b) f n
  step_gives = own_gives old v f whole taken_f sound shaped n o there absent owner page_f b is

  pub step_shaped : IsWellShaped (forest_of b)
  step_shaped = own_shaped old v f whole taken_f sound shaped n o there absent owner page_f b is

  pub step_name : (m : NodeId) → name_of b m ≡ name_of old.caches m
  step_name m = let like = still_like old.caches v.caches whole.stays.caches in let more = step_gives.like in more.name m ∙ like.name m

  pub step_there : (m : NodeId) → HasNode old.caches m → HasNode b m
  step_there m h = let like = still_like old.caches v.caches whole.stays.caches in let more = step_gives.like in more.held m ∙ like.held m ∙ h

  pub step_copies : b.copies ≡ old.caches.copies + 1
  step_copies = step_gives.copies ∙ ap (λ k. k + 1) (still_copies old.caches v.caches whole.stays.caches)

  linked : IsLinked (store_forest old)
  linked = let k = store_shaped old sound shaped in k.linked

  pub step_heir : (h : NodeId) → heir (forest_of old.caches) (name_of old.caches n) ≡ Some (name_of old.caches h) → heir (forest_of b) (name_of b n) ≡ Some (name_of b h)
  step_heir h e = sym (store_heir (homed v f n b) step_gives.sound (name_of b n)) ∙ ap (λ k. heir k (name_of b n)) step_forest ∙ ap (heir (own (store_forest old) (name_of old.caches n))) (step_name n)
      ∙ heir-own (store_forest old) linked (name_of old.caches n) ∙ store_heir old sound (name_of old.caches n) ∙ e ∙ ap Some (sym (step_name h))

  taken_g : IsTaken (homed v f n b) g
  taken_g = let k = step_gives.pinned g apart two.taken.pinned in record {
    within = omega (arith, two.taken.within, ap (λ hs. length hs) step_gives.held);
    pinned = k.pinned;
    unbound = step_gives.nodes g apart ∙ two.taken.unbound;
  }

  page_g : HasPageOf (homed v f n b) g n
  page_g = step_gives.here ∙ ap (λ (x : List ℕ). Some (option_map (λ _. x) v.told)) (sym doubled.bytes)

  still_u : Still (homed v f n b) (homed v f n b)
  still_u = still (homed v f n b) step_gives.right

  -- and its heir the page as it is
  module _ {h : NodeId} (held : HasNode old.caches h) (heir_is : heir (forest_of old.caches) (name_of old.caches n) ≡ Some (name_of old.caches h)) {d : Arena} (handed : IsHanded b d n h) where
    absent_h : own_of b h ≡ Absent
    absent_h = heir_absent b step_gives.sound (name_of b n) h (step_there h held) (step_heir h heir_is)

    some_n : is_some (own_page (homed v f n b) n) ≡ true
    some_n = ap is_some step_gives.here

    pub hands : GivesFrame (homed v f n b) (homed (homed v f n b) g h d) g h
    hands = hand_gives u u g still_u taken_g step_gives.sound step_shaped n h (step_there n there) some_n (step_there h held) (step_heir h heir_is) absent_h page_g d handed

    pub two_forest : store_forest (homed (homed v f n b) g h d) ≡ readied (store_forest old) (name_of old.caches n)
    two_forest = hand_forest u u g still_u taken_g step_gives.sound step_shaped n h (step_there n there) some_n (step_there h held) (step_heir h heir_is) absent_h page_g d handed
        ∙ ap (λ k. heir_gets k (name_of b n)) step_forest ∙ ap (heir_gets (own (store_forest old) (name_of old.caches n))) (step_name n)
        ∙ readied_bare (store_forest old) (name_of old.caches n) (store_page old sound n there ∙ absent_none old n absent)

    pub two_kept : Kept old (homed (homed v f n b) g h d)
    two_kept = record {
      right = hands.right;
      sound = hands.sound;
      shaped = handed_shaped u u g still_u taken_g step_gives.sound step_shaped n h (step_there n there) some_n (step_there h held) (step_heir h heir_is) absent_h page_g d handed;
      pinned = λ k p.
          let loose : k ≢ f = λ e. absurd (let t : is_pinned old.frames k ≡ false = ap (is_pinned old.frames) e ∙ one.loose in cc) in
          let at_w = one.still.pinned k p in
          let free : k ≢ g = λ e. absurd (let t : is_pinned w.frames k ≡ false = ap (is_pinned w.frames) e ∙ two.loose in let s = at_w.pinned in cc) in
          let a = whole.pinned k p in
          let c = step_gives.pinned k loose a.pinned in
          let e = hands.pinned k free c.pinned in
          record { pinned = e.pinned; bytes = e.bytes ∙ c.bytes ∙ a.bytes; node = e.node ∙ c.node ∙ a.node };
      pins = hands.pins ∙ ap (λ ps. set ps g false) (step_gives.pins ∙ ap (λ ps. set ps f false) (two.pinned ∙ ap (λ ps. set ps g true) one.pinned) ∙ set_comm (set old.frames.pinned f true) g f true false apart)
          ∙ ap (λ ps. set (set ps g true) g false) (back old.frames.pinned f one.loose) ∙ back old.frames.pinned g loose_g;
      nodes = like_then old.caches b d (like_then old.caches v.caches b (still_like old.caches v.caches whole.stays.caches) step_gives.like) hands.like;
      made = hands.made ∙ step_gives.made ∙ still_made old.caches v.caches whole.stays.caches;
      room = hands.room ∙ step_gives.room ∙ still_room old.caches v.caches whole.stays.caches;
      frames = ap (λ hs. length hs) (hands.held ∙ step_gives.held) ∙ whole.stays.frames;
      page = hands.page ∙ step_gives.page ∙ whole.stays.page;
      page_bytes = hands.page_bytes ∙ step_gives.page_bytes ∙ whole.stays.page_bytes;
      slots = ap (λ xs. length xs) (hands.slots ∙ step_gives.slots) ∙ whole.stays.slots;
    }
      where
        loose_g : get_or old.frames.pinned g false ≡ false
        loose_g = sym (get_or-set_other old.frames.pinned f g true false apart) ∙ ap (λ ps. get_or ps g false) (sym one.pinned) ∙ two.loose

    pub two_bound : node_of (homed (homed v f n b) g h d).map f ≡ Some n
    two_bound = hands.nodes f (λ e. apart (sym e)) ∙ step_gives.node

    pub two_resident : h ≢ n → own_of d n ≡ Resident true
    two_resident ne = hands.others n (λ e. ne (sym e)) ∙ step_gives.resident

    pub two_copies : d.copies ≡ old.caches.copies + 2
    two_copies = let a = hands.copies in let c = step_copies in omega (arith, a, c)
