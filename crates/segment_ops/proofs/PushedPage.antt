-- What a node reads was brought in, and is pushed to its home.
use Rattle.std.proofs.Common.{◌≡◌, ℕ, ◌+◌, ◌||◌, Bool, true, false, List, Option, Some, None, is_some, refl, sym, ap, ◌∙◌, arith, inl, inr}
use Rattle.std.specs.Option.{IsSome}
use Rattle.std.specs.Prelude.{option_map, Result, Err}
use Rattle.std.proofs.lemmas.Bool.{cases_eq}
use Rattle.vm_ids.specs.Counting.{Counted, MapperCounts, RoseBy}
use Rattle.vm_ids.specs.declared.numbers.NodeId.{NodeId}
use Rattle.vm_ids.specs.Forest.Reading.{value_of}
use Rattle.vm_ids.proofs.Forest.Laws.Reading.{owners_own_themselves}
use Rattle.vm_ids.specs.Held.{Held}
use Rattle.frame_pool.specs.Pool.{Frames, bytes_of}
use Rattle.local_cache.specs.declared.home.Home.{Home}
use Rattle.local_cache.specs.declared.own_state.OwnState.{OwnState}
use Rattle.local_cache.specs.declared.own_state.OwnState.TheVariants.{Absent, Zero, Resident, Slot, OnSegment}
use Rattle.local_cache.specs.Arena.{Arena, HasNode, with_own}
use Rattle.local_cache.specs.Home.{home_of}
use Rattle.local_cache.specs.Own.{is_absent, is_on_segment, is_resident, own_of}
use Rattle.local_cache.specs.Reading.{forest_of, name_of, page_of}
use Rattle.local_cache.proofs.Forest.Reading.{node-forest_of}
use Rattle.local_cache.proofs.Nodes.OwnStates.{own_same}
use Rattle.residency.specs.Causes.{Later}
use Rattle.residency.specs.declared.miss.Miss.TheVariants.{Victim}
use Rattle.residency.specs.declared.store.Store.{Store}
use Rattle.residency.specs.Pushing.{TellsOn}
use Rattle.residency.specs.StoreForest.{store_forest}
use Rattle.residency.specs.World.{IsFrameOf, IsStoreRight, OthersStay, OthersStayBut, StaysOrLeaves, Still, World, brought_in, home_page, is_clean, own_page, world}
use Rattle.residency.proofs.Worlds.After.{absent_stays, held_stays}
use Rattle.residency.proofs.Worlds.Composed.{still_then}
use Rattle.residency.proofs.Worlds.Homes.{home, page_here}
use Rattle.residency.proofs.Worlds.Nodes.{same_home}
use Rattle.residency.proofs.Pushes.Outside.{put_at}
use Rattle.residency.proofs.Forests.StillForest.{still_forest, still_like}
use Rattle.fault_path.specs.Answers.{IsForestRight}
use Rattle.fault_path.specs.Faults.{IsOwner}
use Rattle.fault_path.proofs.Calls.Answered.{cause_then}
use Rattle.fault_path.proofs.OnePage.FoundPage.{found_frame}
use Rattle.fault_path.proofs.Calls.Kept.{absent_is}
use Rattle.segment_ops.specs.Pushing.{TellsValues, value_at}
use Rattle.segment_ops.specs.Saving.{HasFailed}
use Rattle.segment_ops.specs.Synced.{CleanStays, IsSynced, is_settled}
use Rattle.segment_ops.proofs.Pushed.{brought_clean, brought_unclean, home_now, pushed_pages, pushed_still, pushed_told, settled_clean, settled_still, still_home}
use Rattle.segment_ops.proofs.Values.{ReadsOn, held_home, tells_values, values_then}

-- where every page is still, no node reads anything else
pub still_reads : (a b : World) → Still a b → ReadsOn a b
still_reads a b still = record {
  values = λ n. ap (value_of (store_forest b)) ((still_like a.caches b.caches still.stays.caches).name n) ∙ ap (λ f. value_of f (name_of a.caches n)) (still_forest a b still);
  homes = λ n. same_home a.caches b.caches still.stays.caches n;
}

-- Who is clean stays clean

on_segment_clean : (x : OwnState) → is_on_segment x ≡ true → is_clean x ≡ true
on_segment_clean Absent e = absurd (cc e)
on_segment_clean Zero e = absurd (cc e)
on_segment_clean (Resident d) e = absurd (cc e)
on_segment_clean (Slot s) e = absurd (cc e)
on_segment_clean OnSegment e = refl

leaves_clean : (o : Option Home) (x y : OwnState) → IsSome o → StaysOrLeaves o x y → is_clean x ≡ true → is_clean y ≡ true
leaves_clean None x y some stays clean = absurd (cc some)
leaves_clean (Some h) x y some stays clean = go (is_on_segment y) refl
  where
    go : (b : Bool) → is_on_segment y ≡ b → is_clean y ≡ true
    go true e = on_segment_clean y e
    go false e = ap is_clean (stays.here e) ∙ clean

pub others_clean : (a b : World) → IsStoreRight a → OthersStay a b → CleanStays a.caches b.caches
others_clean a b right others m clean = leaves_clean (home_of a.caches m) (own_of a.caches m) (own_of b.caches m) (right.tied.backed.homes m clean) (others.states m) clean

pub others_clean_but : (a b : World) (n : NodeId) → IsStoreRight a → OthersStayBut n a b → own_of b.caches n ≡ brought_in (own_of a.caches n) → CleanStays a.caches b.caches
others_clean_but a b n right others state m clean = elim (cases_eq m.0 n.0) [
  | inl e ↦ (
      let same : m ≡ n = λ i. record { 0 = e i } in
      ap (λ k. is_clean (own_of b.caches k)) same ∙ ap is_clean state ∙ brought_clean (own_of a.caches n) (ap (λ k. is_clean (own_of a.caches k)) (sym same) ∙ clean))
  | inr d ↦ leaves_clean (home_of a.caches m) (own_of a.caches m) (own_of b.caches m) (right.tied.backed.homes m clean) (others.states m d) clean
]

-- What is pushed

absent_settled : (x : OwnState) → is_absent x ≡ true → is_settled x ≡ true
absent_settled x e = ap (λ b. b || is_clean x) e

brought_resident : (x : OwnState) → is_resident (brought_in x) ≡ true
brought_resident Absent = refl
brought_resident Zero = refl
brought_resident (Resident d) = refl
brought_resident (Slot s) = refl
brought_resident OnSegment = refl

some_page : (x : OwnState) → is_absent x ≡ false → (v : OwnState) × (page_of x ≡ Some v)
some_page Absent e = absurd (cc e)
some_page Zero e = (Zero, refl)
some_page (Resident d) e = (Resident d, refl)
some_page (Slot s) e = (Slot s, refl)
some_page OnSegment e = (OnSegment, refl)

-- The page of o, which n reads and the home of n doesn't hold, is in frame f.
pub record IsReadIn (n : NodeId) (at_home : Home) (o : NodeId) (f : ℕ) (old b : World) : Type 0 where
  pub right : IsForestRight old
  pub at : home_of old.caches n ≡ Some at_home
  pub unclean : is_clean (own_of old.caches n) ≡ false
  pub owner : IsOwner old.caches n o
  pub still : Still old b
  pub bound : IsFrameOf b.map f o
  pub state : own_of b.caches o ≡ brought_in (own_of old.caches o)

module _ {n : NodeId} {at_home : Home} {o : NodeId} {f : ℕ} {old b : World} (p : IsReadIn n at_home o f old b) where
  pub there : HasNode old.caches n
  there = held_home old p.right.sound p.right.shaped n at_home p.at

  pub there_b : HasNode b.caches n
  there_b = held_stays old.caches b.caches p.still.stays.caches n there

  pub at_b : home_of b.caches n ≡ Some at_home
  at_b = same_home old.caches b.caches p.still.stays.caches n ∙ p.at

  -- who has an own page is its own owner
  own_itself : is_absent (own_of b.caches n) ≡ false → o ≡ n
  own_itself some =
      let page = some_page (own_of old.caches n) (sym (absent_stays old b p.still n) ∙ some) in
      p.right.sound.kept.named.apart o n p.owner.held there (p.owner.name ∙ owners_own_themselves (forest_of old.caches) p.right.shaped (name_of old.caches n) page.0 (ap (λ k. k.own) (node-forest_of old.caches p.right.sound.kept.named n there) ∙ page.1))

  unclean_b : is_clean (own_of b.caches n) ≡ false
  unclean_b = go (is_absent (own_of b.caches n)) refl
    where
      go : (absent : Bool) → is_absent (own_of b.caches n) ≡ absent → is_clean (own_of b.caches n) ≡ false
      go true e = ap is_clean (absent_is (own_of b.caches n) e)
      go false e =
          let same = own_itself e in
          ap (λ k. is_clean (own_of b.caches k)) (sym same) ∙ ap is_clean p.state ∙ brought_unclean (own_of old.caches o) (ap (λ k. is_clean (own_of old.caches k)) same ∙ p.unclean)

  value_b : value_at b n ≡ Some (option_map (λ _. bytes_of b.frames f) b.told)
  value_b =
      ap (value_of (store_forest b)) ((still_like old.caches b.caches p.still.stays.caches).name n)
      ∙ found_frame old p.right.sound p.right.shaped n o there p.owner b p.still f p.bound.0 p.bound.1

  abbrev pushed : World
  pushed = record b { told = option_map (put_at at_home (bytes_of b.frames f)) b.told }

  pub page_still : Still old (record b { told = option_map (put_at at_home (bytes_of b.frames f)) b.told })
  page_still = still_then old b pushed p.still (pushed_still b n at_home (bytes_of b.frames f) p.still.stays.right at_b unclean_b)

  pub page_told : (c d e : MapperCounts) → TellsOn old b c d → Later d e → RoseBy 1 d.pushes e.pushes → TellsValues old (record b { told = option_map (put_at at_home (bytes_of b.frames f)) b.told }) c e
  page_told c d e told later rose =
      values_then old b (still_reads old b p.still) pushed c d e later (tells_values old p.right.sound p.right.shaped b c d told) (pushed_told b n at_home (bytes_of b.frames f) p.still.stays.right at_b unclean_b value_b d e rose)

  value_now : value_at pushed n ≡ Some (home_page pushed n)
  value_now =
      (still_reads b pushed (pushed_still b n at_home (bytes_of b.frames f) p.still.stays.right at_b unclean_b)).values n
      ∙ value_b ∙ ap Some (sym (home_now b n at_home (bytes_of b.frames f) p.still.stays.right at_b unclean_b))

  pub inherited_synced : is_absent (own_of b.caches n) ≡ true → IsSynced (record b { told = option_map (put_at at_home (bytes_of b.frames f)) b.told }) n
  inherited_synced absent = record { page = value_now; settled = absent_settled (own_of b.caches n) absent }

  -- a page of its own is clean then
  module _ (some : is_absent (own_of b.caches n) ≡ false) where
    resident : is_resident (own_of b.caches n) ≡ true
    resident = ap (λ k. is_resident (own_of b.caches k)) (sym (own_itself some)) ∙ ap is_resident p.state ∙ brought_resident (own_of old.caches o)

    in_frame : own_page pushed n ≡ Some (home_page pushed n)
    in_frame =
        let place = home b f n p.still.stays.right p.bound.0 (p.bound.1 ∙ ap Some (own_itself some)) in
        pushed_pages b n at_home (bytes_of b.frames f) p.still.stays.right at_b unclean_b n
        ∙ page_here b f n (own_of b.caches n) resident place.place
        ∙ ap Some (sym (home_now b n at_home (bytes_of b.frames f) p.still.stays.right at_b unclean_b))

    right_v : IsStoreRight pushed
    right_v = page_still.stays.right

    made_clean : Still pushed (record pushed { caches = with_own b.caches n (Resident false) })
    made_clean = settled_still pushed n right_v there_b resident (ap is_some at_b) in_frame

    pub own_still : Still old (record b { told = option_map (put_at at_home (bytes_of b.frames f)) b.told; caches = with_own b.caches n (Resident false) })
    own_still = still_then old pushed (record pushed { caches = with_own b.caches n (Resident false) }) page_still made_clean

    pub own_clean : CleanStays b.caches (with_own b.caches n (Resident false))
    own_clean = settled_clean pushed n right_v there_b resident (ap is_some at_b) in_frame

    pub own_synced : IsSynced (record b { told = option_map (put_at at_home (bytes_of b.frames f)) b.told; caches = with_own b.caches n (Resident false) }) n
    own_synced = record {
      page = (still_reads pushed (record pushed { caches = with_own b.caches n (Resident false) }) made_clean).values n ∙ value_now
          ∙ ap Some (sym (still_home pushed (record pushed { caches = with_own b.caches n (Resident false) }) n refl (same_home b.caches (with_own b.caches n (Resident false)) made_clean.stays.caches n)));
      settled = ap is_settled (own_same b.caches n (Resident false));
    }

-- the world after the push, where the mapper's pages are of the size that they had
pub pushed_is : (told now : Option Held) (size then : Option ℕ) (a d e : Arena) (s : Store) (at_home : Home) (f : ℕ) (bytes : List ℕ) (frames : Frames) → now ≡ option_map (put_at at_home bytes) told → bytes ≡ bytes_of frames f → frames ≡ s.frames → then ≡ size → d ≡ e
    → world now then d s ≡ record (world told size a s) { told = option_map (put_at at_home (bytes_of s.frames f)) told; caches = e }
pushed_is told now size then a d e s at_home f bytes frames put is of same caches =
    let held : now ≡ option_map (put_at at_home (bytes_of s.frames f)) told = put ∙ ap (λ x. option_map (put_at at_home x) told) (is ∙ ap (λ fs. bytes_of fs f) of) in
    λ i. world (held i) (same i) (caches i) s

-- counts of a push
pub pushed_later : {T E : Type 0} (c d : MapperCounts) {r : Result T E} → Counted 0 1 c d r → Later c d
pushed_later c d p = record { faults = p.faults.later; pulls = p.pulls_later; pushes = p.pushes_later }

pub push_failed : {T E : Type 0} (b c d : MapperCounts) {x : E} → Later b c → Counted {T = T} 0 1 c d (Err x) → HasFailed b d
push_failed b c d later p = record {
  miss = Victim;
  cause = record {
    faults = λ below. (let rose = p.faults.failed below in omega (arith, rose, later.faults));
    pushes = λ below. (let rose : d.pushes ≡ c.pushes + 1 = p.pushed below in omega (arith, rose, later.pushes));
  };
}

-- a failure is one still, where no count fell before it
pub failed_then : (a b c : MapperCounts) → Later a b → HasFailed b c → HasFailed a c
failed_then a b c later failed = record { miss = failed.miss; cause = cause_then a b c failed.miss later failed.cause }
