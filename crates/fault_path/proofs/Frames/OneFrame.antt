-- A node gets a gathered frame: what that is for the store, and for the page forest.
use Rattle.std.proofs.Common.{◌≡◌, ◌≢◌, ℕ, ◌+◌, true, false, List, set, Option, Some, None, is_some, refl, sym, ap, ◌∙◌, arith}
use Rattle.std.specs.Prelude.{option_map}
use Rattle.std.proofs.lemmas.List.{get_or-set_same, get_or-set_other}
use Rattle.vm_ids.specs.declared.numbers.NodeId.{NodeId}
use Rattle.vm_ids.specs.Forest.Changes.{count_copy, cut_stub}
use Rattle.vm_ids.specs.Forest.Rules.{gets, hand_stubs}
use Rattle.frame_pool.specs.Pool.{bytes_of, is_pinned}
use Rattle.global_map.specs.Pairs.{node_of}
use Rattle.local_cache.specs.declared.own_state.OwnState.{OwnState}
use Rattle.local_cache.specs.declared.own_state.OwnState.TheVariants.{Absent, Resident}
use Rattle.local_cache.specs.Arena.{Arena, HasNode, find, with_own}
use Rattle.local_cache.specs.Changes.{Like, Relinked}
use Rattle.local_cache.specs.Own.{own_of}
use Rattle.local_cache.specs.Reading.{AreNamesApart, name_of, page_of}
use Rattle.local_cache.specs.ReadingBy.{Tells, forest_by}
use Rattle.local_cache.specs.Sound.{IsSound}
use Rattle.local_cache.proofs.Changes.SameNodes.{like_then, named-like}
use Rattle.local_cache.proofs.Forest.ReadingBy.{counted-by, counted-cell, own-forest_by}
use Rattle.local_cache.proofs.Nodes.OwnStates.{own_other, own_same}
use Rattle.page_stubs.proofs.Rules.OtherPages.{cut_stub-by, hand_stubs-by}
use Rattle.residency.specs.StoreForest.{store_forest}
use Rattle.residency.specs.World.{IsStoreRight, IsTaken, PinnedStays, World, own_page}
use Rattle.residency.proofs.Worlds.Telling.{tells}
use Rattle.fault_path.specs.Giving.{IsGiven, IsHanded, IsOwned}
use Rattle.fault_path.proofs.Frames.SettledFrame.{IsResidentIn, homed, homed_here, homed_other, homed_pinned, homed_right}
use Rattle.fault_path.proofs.OnePage.OwnPage.{given_copies, given_like, given_made, kept}

-- Frame f, which its taker had, is node n's, whose caches were changed for that, and one copy was
-- counted.
pub record GivesFrame (w v : World) (f : ℕ) (n : NodeId) : Type 0 where
  pub right : IsStoreRight v
  pub sound : IsSound v.caches
  pub like : Like w.caches v.caches
  pub made : v.caches.made ≡ w.caches.made
  pub copies : v.caches.copies ≡ w.caches.copies + 1
  pub room : v.caches.room ≡ w.caches.room
  pub here : own_page v n ≡ Some (option_map (λ _. bytes_of w.frames f) w.told)
  pub elsewhere : (m : NodeId) → m ≢ n → own_page v m ≡ own_page w m
  pub resident : own_of v.caches n ≡ Resident true
  pub others : (m : NodeId) → m ≢ n → own_of v.caches m ≡ own_of w.caches m
  pub node : node_of v.map f ≡ Some n
  pub nodes : (g : ℕ) → g ≢ f → node_of v.map g ≡ node_of w.map g
  pub pinned : (g : ℕ) → g ≢ f → is_pinned w.frames g ≡ true → PinnedStays w v g
  pub pins : v.frames.pinned ≡ set w.frames.pinned f false
  pub bytes : v.frames.bytes ≡ w.frames.bytes
  pub held : v.frames.held ≡ w.frames.held
  pub page : v.frames.page ≡ w.frames.page
  pub told : v.told ≡ w.told
  pub slots : v.slots ≡ w.slots
  pub page_bytes : v.page_bytes ≡ w.page_bytes

handed_named : (a b : Arena) → AreNamesApart a → Relinked a b → AreNamesApart b
handed_named a b named links = named-like a b named links.like links.made

module _ (w : World) (f : ℕ) (n : NodeId) (right : IsStoreRight w) (taken : IsTaken w f) (sound : IsSound w.caches) (there : HasNode w.caches n) (absent : own_of w.caches n ≡ Absent) where
  module _ (b : Arena) (in_b : IsResidentIn w.caches b n) (is_sound : IsSound b) (like : Like w.caches b) (made : b.made ≡ w.caches.made) (copies : b.copies ≡ w.caches.copies + 1) (room : b.room ≡ w.caches.room) where
    gives : GivesFrame w (homed w f n b) f n
    gives = record {
      right = homed_right w f n right taken there absent b in_b;
      sound = is_sound;
      like = like;
      made = made;
      copies = copies;
      room = room;
      here = homed_here w f n right taken there absent b in_b;
      elsewhere = homed_other w f n right taken there absent b in_b;
      resident = in_b.own n ∙ own_same w.caches n (Resident true);
      others = λ m d. in_b.own m ∙ own_other w.caches n m (Resident true) d;
      node = get_or-set_same w.map f (Some n) None (omega (arith, taken.within, right.tied.fitted.map_frames));
      nodes = λ g d. get_or-set_other w.map f g (Some n) None d;
      pinned = homed_pinned w f n right taken there absent b in_b;
      pins = refl;
      bytes = refl;
      held = refl;
      page = refl;
      told = refl;
      slots = refl;
      page_bytes = refl;
    }

  -- The caches after the node's state was set and its stub link cut, with the pages that are told
  -- at the end.
  module _ (given : Arena) (is : IsGiven w.caches given n) (now : NodeId → Option (Option (List ℕ))) (some : is_some (now n) ≡ true) (others : (m : NodeId) → m ≢ n → now m ≡ own_page w m) (told : Tells now (with_own w.caches n (Resident true))) where
    gets_by : forest_by now given ≡ gets (store_forest w) (name_of w.caches n) (now n)
    unfolding gets store_forest
    gets_by = cut_stub-by now (with_own w.caches n (Resident true)) given (kept w.caches sound n there).named told is.links (name_of w.caches n) is.forest
        ∙ ap (λ g. cut_stub g (name_of w.caches n)) (own-forest_by (own_page w) now w.caches sound.kept n there (Resident true) (tells w) some others told)

    told_given : Tells now given
    told_given m = told m ∙ ap (λ (s : OwnState). is_some (page_of s)) (sym (is.links.own m))

  own_counted : (a b : Arena) → b ≡ record a { copies = a.copies + 1 } → (m : NodeId) → own_of b m ≡ own_of a m
  own_counted a b is m = ap (λ (k : Arena). own_of k m) is ∙ ap (λ c. c.own) (counted-cell a (a.copies + 1) m)

  held_counted : (a b : Arena) → b ≡ record a { copies = a.copies + 1 } → (m : NodeId) → is_some (find b m) ≡ is_some (find a m)
  held_counted a b is m = ap (λ (k : Arena). is_some (find k m)) is

  name_counted : (a b : Arena) → b ≡ record a { copies = a.copies + 1 } → (m : NodeId) → name_of b m ≡ name_of a m
  name_counted a b is m = ap (λ (k : Arena). name_of k m) is ∙ ap (λ c. c.name) (counted-cell a (a.copies + 1) m)

  counted : (a b : Arena) → b ≡ record a { copies = a.copies + 1 } → Like a b
  counted a b is = record { held = held_counted a b is; name = name_counted a b is; caches = ap (λ (k : Arena). k.caches) is }

  -- own
  module _ (b : Arena) (is : IsOwned w.caches b n) where
    in_owned : IsResidentIn w.caches b n
    in_owned = record {
      like = like_then w.caches is.given b (given_like w.caches sound n there is.given is.is_given) (counted is.given b is.is);
      held = λ m. held_counted is.given b is.is m ∙ is.is_given.links.like.held m;
      own = λ m. own_counted is.given b is.is m ∙ is.is_given.links.own m;
    }

    pub owned_gives : GivesFrame w (homed w f n b) f n
    owned_gives = gives b in_owned is.sound in_owned.like
        (ap (λ (k : Arena). k.made) is.is ∙ given_made w.caches sound n there is.given is.is_given)
        (ap (λ (k : Arena). k.copies) is.is ∙ ap (λ k. k + 1) (given_copies w.caches sound n there is.given is.is_given))
        (ap (λ (k : Arena). k.room) is.is ∙ is.is_given.room)

    pub owned_forest : store_forest (homed w f n b) ≡ count_copy (gets (store_forest w) (name_of w.caches n) (own_page (homed w f n b) n))
    unfolding store_forest
    owned_forest =
        let now : NodeId → Option (Option (List ℕ)) = own_page (homed w f n b) in
        let told : Tells now (with_own w.caches n (Resident true)) = λ m. tells (homed w f n b) m ∙ ap (λ (s : OwnState). is_some (page_of s)) (in_owned.own m) in
        counted-by now is.given b is.is_given.sound.kept.named (told_given is.given is.is_given now (ap is_some owned_gives.here) owned_gives.elsewhere told) is.is
        ∙ ap count_copy (gets_by is.given is.is_given now (ap is_some owned_gives.here) owned_gives.elsewhere told)

  -- the heir gets a page and stubs
  module _ (b : Arena) (from : NodeId) (is : IsHanded w.caches b from n) where
    in_handed : IsResidentIn w.caches b n
    in_handed = record {
      like = like_then w.caches is.given b (given_like w.caches sound n there is.given is.is_given) (like_then is.given is.handed b is.links.like (counted is.handed b is.is));
      held = λ m. held_counted is.handed b is.is m ∙ is.links.like.held m ∙ is.is_given.links.like.held m;
      own = λ m. own_counted is.handed b is.is m ∙ is.links.own m ∙ is.is_given.links.own m;
    }

    pub handed_gives : GivesFrame w (homed w f n b) f n
    handed_gives = gives b in_handed is.sound in_handed.like
        (ap (λ (k : Arena). k.made) is.is ∙ sym is.links.made ∙ given_made w.caches sound n there is.given is.is_given)
        (ap (λ (k : Arena). k.copies) is.is ∙ ap (λ k. k + 1) (sym is.links.copies ∙ given_copies w.caches sound n there is.given is.is_given))
        (ap (λ (k : Arena). k.room) is.is ∙ is.room ∙ is.is_given.room)

    pub handed_forest : store_forest (homed w f n b) ≡ count_copy (hand_stubs (gets (store_forest w) (name_of w.caches n) (own_page (homed w f n b) n)) (name_of w.caches from) (name_of w.caches n))
    unfolding store_forest
    handed_forest =
        let now : NodeId → Option (Option (List ℕ)) = own_page (homed w f n b) in
        let told : Tells now (with_own w.caches n (Resident true)) = λ m. tells (homed w f n b) m ∙ ap (λ (s : OwnState). is_some (page_of s)) (in_handed.own m) in
        let first = told_given is.given is.is_given now (ap is_some handed_gives.here) handed_gives.elsewhere told in
        let second : Tells now is.handed = λ m. first m ∙ ap (λ (s : OwnState). is_some (page_of s)) (sym (is.links.own m)) in
        let like : Like w.caches is.given = given_like w.caches sound n there is.given is.is_given in
        let named : AreNamesApart is.handed = handed_named is.given is.handed is.is_given.sound.kept.named is.links in
        counted-by now is.handed b named second is.is
        ∙ ap count_copy (hand_stubs-by now is.given is.handed is.is_given.sound.kept.named first is.links (name_of is.given from) (name_of is.given n) is.forest
        ∙ ap (λ x. hand_stubs (forest_by now is.given) x (name_of is.given n)) (like.name from) ∙ ap (hand_stubs (forest_by now is.given) (name_of w.caches from)) (like.name n)
        ∙ ap (λ g. hand_stubs g (name_of w.caches from) (name_of w.caches n)) (gets_by is.given is.is_given now (ap is_some handed_gives.here) handed_gives.elsewhere told))
