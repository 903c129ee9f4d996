-- What may change in the manager's machine while the ports stay tied to it.
use Rattle.std.proofs.Common.{◌≡◌, ◌⊎◌, inl, inr, ℕ, ◌+◌, ◌-◌, ◌≤◌, false, List, [], ◌∷◌, ◌++◌, length, Option, Some, None, refl, sym, ap, subst, ◌∙◌}
use Rattle.std.specs.Bool.{IsTrue}
use Rattle.std.specs.Prelude.{◌==◌, IsSome, slice_get}
use Rattle.std.proofs.lemmas.Bool.{cases_eq, eqb-true}
use Rattle.vm_model.proofs.Parts.Lists.{numbered_place}
use Rattle.vm_model.proofs.Parts.ListParts.{numbered_push, numbered_pushed, numbered_set, numbered_set_other}
use Rattle.interface_callers.proofs.Words.{Actor, Cache, Machine, Mapping, Region, add_region, blank, cache_of, is_mapped, put_cache, region_of, temporary}
use Rattle.interface_callers.proofs.Alike.{blank_shape, shape_back}
use Rattle.interface_callers.proofs.Lists.{one_of}
use Rattle.interface_callers.proofs.Mapped.{actor_mapped, maps_then}
use Rattle.transit_ipc.specs.Seen.{memory_seen}
use Rattle.transit_ipc.specs.Transit.{is_transit}
use Rattle.transit_ipc.specs.Tying.{AreTied, IsMessage, Waits}
use Rattle.transit_ipc.specs.declared.port.Message.{Message}
use Rattle.transit_ipc.specs.declared.port.Port.{Port}
use Rattle.transit_ipc.proofs.Ties.NewCache.{messages_with_cache, with_cache}
use Rattle.transit_ipc.proofs.Seeing.Seen.{numbered_seen, seen_cache}
use Rattle.transit_ipc.proofs.Ties.Alike.{some_shown, tied_like}
use Rattle.transit_ipc.proofs.Seeing.Messages.{seen_apart}

-- From one machine to the next: the messages that wait have their pages, no cache is gone, no
-- segment names one, and what regions map then is mapped before or seen before.
pub record IsFollowed (ports : List Port) (x y : Machine) : Type 0 where
  pub messages : (i j : ℕ) (message : Message) → Waits ports i j message → IsMessage y message
  pub alive : (n : ℕ) → IsSome (cache_of x n) → IsSome (cache_of y n)
  pub mapped : (n : ℕ) → IsTrue (is_mapped y n) → IsTrue (is_mapped x n) ⊎ IsSome (cache_of (memory_seen x ports) n)
  pub temporary : (n : ℕ) (c : Cache) → cache_of y n ≡ Some c → c.segment ≡ None

module _ (ports : List Port) (x y : Machine) (tied : AreTied x ports) (f : IsFollowed ports x y) where
  -- what is seen is seen then
  still_seen : (n : ℕ) → IsSome (cache_of (memory_seen x ports) n) → IsSome (cache_of (memory_seen y ports) n)
  still_seen n h = subst IsSome (sym (numbered_seen (is_transit ports) y.caches n))
      (some_shown (is_transit ports n) (cache_of x n) (cache_of y n) (f.alive n) (subst IsSome (numbered_seen (is_transit ports) x.caches n) h))

  pub tied_followed : AreTied y ports
  tied_followed = record {
    messages = f.messages;
    apart = tied.apart;
    mapped = λ n is. elim (f.mapped n is) [
      | inl was ↦ still_seen n (tied.mapped n was)
      | inr seen ↦ still_seen n seen
    ];
    temporary = f.temporary;
    deep = tied.deep;
    roomy = tied.roomy;
    few = tied.few;
  }

-- so do they where the bytes are left out, and where they are there
pub tied_blank : (ports : List Port) (m : Machine) → AreTied m ports → AreTied (blank m) ports
tied_blank ports m tied = tied_like m (blank m) ports (blank_shape m) tied

pub tied_whole : (ports : List Port) (m : Machine) → AreTied (blank m) ports → AreTied m ports
tied_whole ports m tied = tied_like (blank m) m ports (shape_back m (blank m) (blank_shape m)) tied

-- The changes of each command

module _ (ports : List Port) (m : Machine) (tied : AreTied m ports) where
  pub followed_self : IsFollowed ports m m
  followed_self = record { messages = tied.messages; alive = λ n h. h; mapped = λ n is. inl is; temporary = tied.temporary }

  -- messages wait in the caches that they had
  kept_messages : (y : Machine) → ((i j : ℕ) (x : Message) → Waits ports i j x → cache_of y x.cache.0 ≡ cache_of m x.cache.0) → (i j : ℕ) (x : Message) → Waits ports i j x → IsMessage y x
  kept_messages y same i j x w = let is : IsMessage m x = tied.messages i j x w in
      record { cache = is.cache; there = same i j x w ∙ is.there; some = is.some; many = is.many }

  -- an actor without regions
  pub followed_actor : IsFollowed ports m (record m { actors = m.actors ++ Some [] ∷ [] })
  followed_actor = record {
    messages = kept_messages (record m { actors = m.actors ++ Some [] ∷ [] }) (λ i j x w. refl);
    alive = λ n h. h;
    mapped = λ n is. inl (sym (actor_mapped m.actors n) ∙ is);
    temporary = tied.temporary;
  }

  -- a temporary cache
  pub followed_temp : (pages : ℕ) → IsFollowed ports m (with_cache m pages)
  followed_temp pages = record {
    messages = kept_messages (with_cache m pages) (messages_with_cache m ports tied pages);
    alive = λ n h. elim (cases_eq n (length m.caches + 1)) [
      | inl e ↦ subst IsSome (sym (last n e)) refl
      | inr other ↦ subst IsSome (sym (numbered_push m.caches fresh n other)) h
    ];
    mapped = λ n is. inl is;
    temporary = λ n c e. elim (cases_eq n (length m.caches + 1)) [
      | inl is ↦ (let both : Some (temporary m.page_bytes pages) ≡ Some c = sym (last n is) ∙ e in let same : temporary m.page_bytes pages ≡ c = cc both in ap (λ (d : Cache). d.segment) (sym same))
      | inr other ↦ tied.temporary n c (sym (numbered_push m.caches fresh n other) ∙ e)
    ];
  }
    where
      fresh : Option Cache
      fresh = Some (temporary m.page_bytes pages)

      last : (n : ℕ) → n ≡ length m.caches + 1 → cache_of (with_cache m pages) n ≡ fresh
      last n e = numbered_pushed m.caches fresh n e

  -- a cache that is seen has other pages
  pub followed_put : (k : ℕ) (c d : Cache) → cache_of m k ≡ Some c → is_transit ports k ≡ false → d.segment ≡ c.segment → IsFollowed ports m (put_cache m k d)
  followed_put k c d there seen same = record {
    messages = kept_messages (put_cache m k d) (λ i j x w. numbered_set_other m.caches k x.cache.0 (Some d) some (seen_apart ports i j k x w seen));
    alive = λ n h. elim (cases_eq n k) [
      | inl e ↦ subst IsSome (sym (at_put n e)) refl
      | inr other ↦ subst IsSome (sym (numbered_set_other m.caches k n (Some d) some other)) h
    ];
    mapped = λ n is. inl is;
    temporary = λ n e f. elim (cases_eq n k) [
      | inl is ↦ (let both : Some d ≡ Some e = sym (at_put n is) ∙ f in let put : d ≡ e = cc both in ap (λ (c : Cache). c.segment) (sym put) ∙ same ∙ tied.temporary k c there)
      | inr other ↦ tied.temporary n e (sym (numbered_set_other m.caches k n (Some d) some other) ∙ f)
    ];
  }
    where
      some : 1 ≤ k
      some = (numbered_place m.caches k c there).0

      at_put : (n : ℕ) → n ≡ k → cache_of (put_cache m k d) n ≡ Some d
      at_put n e = ap (cache_of (put_cache m k d)) e ∙ numbered_set m.caches k c (Some d) there

  -- a region of a cache that is seen
  pub followed_map : (actor : ℕ) (rs : Actor) (p : Mapping) (c : Cache) → slice_get m.actors (actor - 1) ≡ Some (Some rs) → cache_of m p.extent.cache.0 ≡ Some c → is_transit ports p.extent.cache.0 ≡ false
      → IsFollowed ports m (add_region m actor rs p)
  followed_map actor rs p c here there seen = record {
    messages = kept_messages (add_region m actor rs p) (λ i j x w. refl);
    alive = λ n h. h;
    mapped = λ n is. elim (one_of (fresh.cache == n) (is_mapped m n) (sym (maps_then m.actors (actor - 1) rs fresh here n) ∙ is)) [
      | inl same ↦ inr (subst (λ (k : ℕ). IsSome (cache_of (memory_seen m ports) k)) (eqb-true fresh.cache n same) (subst IsSome (sym (seen_cache m ports p.extent.cache.0 seen ∙ there)) refl))
      | inr was ↦ inl was
    ];
    temporary = tied.temporary;
  }
    where
      fresh : Region
      fresh = region_of (m.regions_made + 1) p
