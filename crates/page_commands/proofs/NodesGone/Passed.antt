-- A node went, and its own page is another node's: its frame is bound to that one.
use Rattle.std.proofs.Common.{◌≡◌, ◌≢◌, ℕ, ◌+◌, ◌<◌, ◌≤◌, ◌==◌, ◌||◌, Bool, true, false, length, get_or, set, Option, Some, None, is_some, unwrap_or, refl, sym, ap, ◌∙◌, arith, inl, inr, length-set}
use Rattle.std.specs.List.{count_by}
use Rattle.std.proofs.lemmas.Bool.{cases_eq, false≢true}
use Rattle.std.proofs.lemmas.List.{get_or-set_same, get_or-set_other}
use Rattle.std.proofs.lemmas.List.Folds.{position_or_len-set}
use Rattle.std.proofs.lemmas.List.Sums.{passes_at_first}
use Rattle.vm_ids.specs.declared.numbers.NodeId.{NodeId}
use Rattle.vm_ids.proofs.Places.{bit, bit_false, bit_true, count-set, only_place, other_number, same_number, some_place}
use Rattle.frame_pool.specs.Pool.{bytes_of, is_pinned}
use Rattle.global_map.specs.Pairs.{bound_times, frame_of, is_node}
use Rattle.local_cache.specs.declared.own_state.OwnState.{OwnState}
use Rattle.local_cache.specs.declared.own_state.OwnState.TheVariants.{Absent}
use Rattle.local_cache.specs.Arena.{Arena, Cell, HasNode, blank, cell, find, with_own}
use Rattle.local_cache.specs.Home.{home_of}
use Rattle.local_cache.specs.Own.{is_in_slot, is_resident, is_slot, own_of, own_states}
use Rattle.local_cache.proofs.Changes.SameNodes.{like-put}
use Rattle.local_cache.proofs.Nodes.OwnStates.{id_apart, id_cases, own_count, own_length, own_other, own_same}
use Rattle.residency.specs.World.{IsTied, World, frame_page, is_bound, is_clean, own_page}
use Rattle.residency.proofs.Worlds.Homes.{IsHome}
use Rattle.tree_merge.specs.Releasing.{Went}
use Rattle.page_commands.proofs.TiedStores.Tied.{home}
use Rattle.page_commands.proofs.TiedStores.Backed.{HomesStay, own_page_as, stay_backed}
use Rattle.page_commands.proofs.NodesGone.Counting.{went_count, went_length}

-- what is not there has no own page
pub gone_own : (b : Arena) (n : NodeId) → find b n ≡ None → own_of b n ≡ Absent
unfolding cell
gone_own b n e = ap (λ (o : Option Cell). (unwrap_or o blank).own) e

-- which node stands in a place
number : (k n : NodeId) → (k.0 == n.0) ≡ true → k ≡ n
number k n e = elim (id_cases k n) [ inl q ↦ q | inr d ↦ absurd (let t : (k.0 == n.0) ≡ false = other_number k.0 n.0 (λ q. id_apart k n d q) in cc) ]

pub node_is : (n : NodeId) (o : Option NodeId) → is_node n.0 o ≡ true → o ≡ Some n
node_is n None e = absurd (cc e)
node_is n (Some k) e = ap Some (number k n e)

-- a resident node stands at its frame
pub resident_home : (w : World) (n : NodeId) → IsTied w → is_resident (own_of w.caches n) ≡ true → IsHome w (frame_of w.map n.0) n
resident_home w n tied resident =
    let some : 1 ≤ bound_times w.map n.0 = omega (arith, tied.placed.bound n, bit_true (is_resident (own_of w.caches n)) resident) in
    let within : frame_of w.map n.0 < length w.map = some_place (is_node n.0) w.map some in
    let here : is_node n.0 (get_or w.map (frame_of w.map n.0) None) ≡ true = passes_at_first (is_node n.0) w.map None (some_place (is_node n.0) w.map some) in
    home w (frame_of w.map n.0) n tied within (node_is n (get_or w.map (frame_of w.map n.0) None) here)

-- The page of `from`, which went, is that of `to`, which had none.
module _ (a b : Arena) (from to : NodeId) (went : Went a b from) (ne : from ≢ to) (there : HasNode a to) (absent : own_of a to ≡ Absent) (moved : own_of b to ≡ own_of a from) (others : (m : NodeId) → m ≢ from → m ≢ to → own_of b m ≡ own_of a m) where
  abbrev a1 : Arena
  a1 = with_own a to (own_of a from)

  went1 : Went (with_own a to (own_of a from)) b from
  went1 =
      let like = like-put a to (record (cell a to) { own = own_of a from }) there refl in
      record { was = like.held from ∙ went.was; gone = went.gone; held = λ m d. went.held m d ∙ sym (like.held m) }

  owns1 : (m : NodeId) → m ≢ from → own_of b m ≡ own_of (with_own a to (own_of a from)) m
  owns1 m d = elim (id_cases m to) [
    | inl e ↦ ap (own_of b) e ∙ moved ∙ sym (ap (own_of a1) e ∙ own_same a to (own_of a from))
    | inr other ↦ others m d other ∙ sym (own_other a to m (own_of a from) other)
  ]

  -- as many nodes have each kind of own state as had it
  pub moved_count : (p : OwnState → Bool) → p Absent ≡ false → count_by p (own_states b) ≡ count_by p (own_states a)
  moved_count p out =
      let first : count_by p (own_states a1) ≡ bit (p (own_of a1 from)) + count_by p (own_states b) = went_count p a1 b from went1 owns1 in
      let second : count_by p (own_states a1) + bit (p (own_of a to)) ≡ count_by p (own_states a) + bit (p (own_of a from)) = own_count p a to (own_of a from) there in
      let same : bit (p (own_of a1 from)) ≡ bit (p (own_of a from)) = ap (λ (x : OwnState). bit (p x)) (own_other a to from (own_of a from) ne) in
      let none : bit (p (own_of a to)) ≡ 0 = ap (λ (x : OwnState). bit (p x)) absent ∙ ap bit out in
      omega arith

  pub passed_fewer : length (own_states b) ≤ length (own_states a)
  passed_fewer = omega (arith, went_length a1 b from went1 owns1, own_length a to (own_of a from) there)

-- and the store follows
module _ (w : World) (b : Arena) (from to : NodeId) (tied : IsTied w) (went : Went w.caches b from) (ne : from ≢ to) (there : HasNode w.caches to) (absent : own_of w.caches to ≡ Absent)
    (moved : own_of b to ≡ own_of w.caches from) (others : (m : NodeId) → m ≢ from → m ≢ to → own_of b m ≡ own_of w.caches m)
    (stay : HomesStay w.caches b) (unclean : is_clean (own_of w.caches from) ≡ false) where
  same_count : (p : OwnState → Bool) → p Absent ≡ false → count_by p (own_states b) ≡ count_by p (own_states w.caches)
  same_count = moved_count w.caches b from to went ne there absent moved others

  -- a page that its segment holds isn't that of either
  clean_apart : (m : NodeId) → is_clean (own_of b m) ≡ true → (m ≢ from) × (m ≢ to)
  clean_apart m k = (
    λ e. false≢true (sym (ap is_clean (ap (own_of b) e ∙ gone_own b from went.gone)) ∙ k),
    λ e. false≢true (sym (ap is_clean (ap (own_of b) e ∙ moved) ∙ unclean) ∙ k),
  )

  home_stays : (m : NodeId) → m ≢ from → m ≢ to → is_clean (own_of w.caches m) ≡ true → home_of b m ≡ home_of w.caches m
  home_stays m d e k = stay.clean m (ap is_clean (others m d e) ∙ k)

  -- that of the one wasn't one that its segment holds
  never_clean : is_clean (own_of w.caches from) ≡ true → home_of b to ≡ home_of w.caches from
  never_clean k = absurd (false≢true (sym unclean ∙ k))

  -- a page in a frame
  module _ (resident : is_resident (own_of w.caches from) ≡ true) where
    abbrev f : ℕ
    f = frame_of w.map from.0

    at : IsHome w (frame_of w.map from.0) from
    at = resident_home w from tied resident

    none_to : bound_times w.map to.0 ≡ 0
    none_to = tied.placed.bound to ∙ ap (λ (x : OwnState). bit (is_resident x)) absent

    times : (m : NodeId) → bound_times (set w.map (frame_of w.map from.0) (Some to)) m.0 + bit (is_node m.0 (get_or w.map (frame_of w.map from.0) None)) ≡ bound_times w.map m.0 + bit (to.0 == m.0)
    times m = count-set (is_node m.0) w.map f (Some to) None at.frame

    bound : (m : NodeId) → bound_times (set w.map (frame_of w.map from.0) (Some to)) m.0 ≡ bit (is_resident (own_of b m))
    bound m = elim (id_cases m from) [
      | inl e ↦ (
          let here : is_node m.0 (get_or w.map f None) ≡ true = ap (is_node m.0) at.node ∙ ap (λ (k : NodeId). from.0 == k.0) e ∙ same_number from.0 in
          let this : (to.0 == m.0) ≡ false = ap (λ (k : NodeId). to.0 == k.0) e ∙ other_number to.0 from.0 (λ q. id_apart from to ne (sym q)) in
          let once : bound_times w.map m.0 ≡ 1 = ap (λ (k : NodeId). bound_times w.map k.0) e ∙ at.once in
          let now : bit (is_resident (own_of b m)) ≡ 0 = ap (λ (x : OwnState). bit (is_resident x)) (ap (own_of b) e ∙ gone_own b from went.gone) in
          omega (arith, times m, bit_true (is_node m.0 (get_or w.map f None)) here, bit_false (to.0 == m.0) this))
      | inr d ↦ (
          let here : is_node m.0 (get_or w.map f None) ≡ false = ap (is_node m.0) at.node ∙ other_number from.0 m.0 (λ q. id_apart m from d (sym q)) in
          elim (id_cases m to) [
            | inl e ↦ (
                let this : (to.0 == m.0) ≡ true = ap (λ (k : NodeId). to.0 == k.0) e ∙ same_number to.0 in
                let was : bound_times w.map m.0 ≡ 0 = ap (λ (k : NodeId). bound_times w.map k.0) e ∙ none_to in
                let now : bit (is_resident (own_of b m)) ≡ 1 = ap (λ (x : OwnState). bit (is_resident x)) (ap (own_of b) e ∙ moved) ∙ ap bit resident in
                omega (arith, times m, bit_false (is_node m.0 (get_or w.map f None)) here, bit_true (to.0 == m.0) this))
            | inr other ↦ (
                let this : (to.0 == m.0) ≡ false = other_number to.0 m.0 (λ q. id_apart m to other (sym q)) in
                let now : bit (is_resident (own_of b m)) ≡ bit (is_resident (own_of w.caches m)) = ap (λ (x : OwnState). bit (is_resident x)) (others m d other) in
                omega (arith, times m, bit_false (is_node m.0 (get_or w.map f None)) here, bit_false (to.0 == m.0) this, tied.placed.bound m))
          ])
    ]

    -- each other page in a frame is in the one that it was in
    pub place_stays : (m : NodeId) → m ≢ from → m ≢ to → frame_of (set w.map (frame_of w.map from.0) (Some to)) m.0 ≡ frame_of w.map m.0
    place_stays m d e = position_or_len-set (is_node m.0) w.map f (Some to) None (other_number to.0 m.0 (λ q. id_apart m to e (sym q)) ∙ sym (ap (is_node m.0) at.node ∙ other_number from.0 m.0 (λ q. id_apart m from d (sym q))))

    frame_stays : (m : NodeId) → m ≢ from → m ≢ to → bytes_of w.frames (frame_of (set w.map (frame_of w.map from.0) (Some to)) m.0) ≡ frame_page w m
    frame_stays m d e = ap (bytes_of w.frames) (place_stays m d e)

    pub rekeyed_right : IsTied (record w { caches = b; map = set w.map (frame_of w.map from.0) (Some to) })
    rekeyed_right = record {
      placed = record {
        bound = bound;
        held = λ g. tied.placed.held g ∙ ap (λ (t : Bool). t || is_pinned w.frames g) (elim (cases_eq g f) [
          | inl e ↦ ap (λ (k : ℕ). is_bound w k) e ∙ ap is_some at.node ∙ sym (ap (λ (k : ℕ). is_some (get_or (set w.map f (Some to)) k None)) e ∙ ap is_some (get_or-set_same w.map f (Some to) None at.frame))
          | inr d ↦ ap is_some (sym (get_or-set_other w.map f g (Some to) None d))
        ]);
        slots = λ s. same_count (is_slot s) refl ∙ tied.placed.slots s;
        in_slots = tied.placed.in_slots ∙ sym (same_count is_in_slot refl);
      };
      backed = stay_backed w b w.frames.held w.slots (set w.map f (Some to)) stay (λ m k r. let d = clean_apart m k in frame_stays m d.0 d.1) (λ s h. h) tied.backed;
      fitted = record {
        map_frames = length-set w.map f (Some to) ∙ tied.fitted.map_frames;
        bytes_frames = tied.fitted.bytes_frames;
        pinned_frames = tied.fitted.pinned_frames;
        marks_frames = tied.fitted.marks_frames;
        places_frames = tied.fitted.places_frames;
        few = tied.fitted.few;
        page = tied.fitted.page;
      };
    }

    -- the page goes with it, and every other one stays
    pub place_to : frame_of (set w.map (frame_of w.map from.0) (Some to)) to.0 ≡ frame_of w.map from.0
    place_to = only_place (is_node to.0) (set w.map f (Some to)) f None (bound to ∙ ap (λ (x : OwnState). bit (is_resident x)) moved ∙ ap bit resident) (omega (arith, length-set w.map f (Some to), at.frame))
        (ap (is_node to.0) (get_or-set_same w.map f (Some to) None at.frame) ∙ same_number to.0)

    pub rekeyed_to : own_page (record w { caches = b; map = set w.map (frame_of w.map from.0) (Some to) }) to ≡ own_page w from
    rekeyed_to = own_page_as w b w.frames.held w.slots (set w.map f (Some to)) to from moved (λ r. ap (bytes_of w.frames) place_to) never_clean

    pub rekeyed_other : (m : NodeId) → m ≢ from → m ≢ to → own_page (record w { caches = b; map = set w.map (frame_of w.map from.0) (Some to) }) m ≡ own_page w m
    rekeyed_other m d e = own_page_as w b w.frames.held w.slots (set w.map f (Some to)) m m (others m d e) (λ r. frame_stays m d e) (home_stays m d e)

  -- a page in no frame
  module _ (away : is_resident (own_of w.caches from) ≡ false) where
    pub moved_right : IsTied (record w { caches = b })
    moved_right = record {
      placed = record {
        bound = λ m. tied.placed.bound m ∙ elim (id_cases m from) [
          | inl e ↦ ap (λ (k : NodeId). bit (is_resident (own_of w.caches k))) e ∙ ap bit away ∙ sym (ap (λ (x : OwnState). bit (is_resident x)) (ap (own_of b) e ∙ gone_own b from went.gone))
          | inr d ↦ elim (id_cases m to) [
            | inl e ↦ ap (λ (k : NodeId). bit (is_resident (own_of w.caches k))) e ∙ ap (λ (x : OwnState). bit (is_resident x)) absent ∙ sym (ap (λ (x : OwnState). bit (is_resident x)) (ap (own_of b) e ∙ moved) ∙ ap bit away)
            | inr other ↦ ap (λ (x : OwnState). bit (is_resident x)) (sym (others m d other))
          ]
        ];
        held = tied.placed.held;
        slots = λ s. same_count (is_slot s) refl ∙ tied.placed.slots s;
        in_slots = tied.placed.in_slots ∙ sym (same_count is_in_slot refl);
      };
      backed = stay_backed w b w.frames.held w.slots w.map stay (λ m k r. refl) (λ s h. h) tied.backed;
      fitted = tied.fitted;
    }

    pub moved_to : own_page (record w { caches = b }) to ≡ own_page w from
    moved_to = own_page_as w b w.frames.held w.slots w.map to from moved (λ r. absurd (false≢true (sym away ∙ r))) never_clean

    pub moved_other : (m : NodeId) → m ≢ from → m ≢ to → own_page (record w { caches = b }) m ≡ own_page w m
    moved_other m d e = own_page_as w b w.frames.held w.slots w.map m m (others m d e) (λ r. refl) (home_stays m d e)
