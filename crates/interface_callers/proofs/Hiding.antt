-- Some caches of a machine are hidden, so that a command that is passed on finds them not: it is
-- answered as over the caches that are seen.
use Rattle.std.proofs.Common.{◌≡◌, ◌==◌, ℕ, ◌+◌, ◌-◌, Bool, true, false, cond, List, [], ◌∷◌, ◌++◌, length, set, take, drop, Option, Some, None, refl, sym, ap, subst, ◌∙◌}
use Rattle.std.specs.Prelude.{◌*◌, ◌%◌, ◌^◌, nat_le, nat_lt, Result, Ok, Err, is_some, not, option_and_then, slice_get, unwrap_or}
use Rattle.std.specs.Bool.{IsTrue}
use Rattle.std.specs.List.{list_any, range_with_len}
use Rattle.std.specs.Option.{option_map_or}
use Rattle.std.specs.Result.{IsOkAnd}
use Rattle.vm_ids.specs.declared.command.Command.TheVariants.{Copy, Load, PageOut, Store}
use Rattle.vm_ids.specs.declared.refusal.Refusal.TheVariants as refusals
use Rattle.vm_ids.specs.declared.reply.FaultAt.TheVariants as faults
use Rattle.vm_ids.specs.declared.reply.Reply.TheVariants as replies
use Rattle.vm_model.specs.Answering as plain
use Rattle.vm_model.proofs.Parts.Lists.{numbered_place}
use Rattle.interface_callers.proofs.Words.{Actor, ActorId, Cache, CacheId, FaultAt, IsFirstAsked, IsNamed, Machine, MapperCounts, Mapping, MayFault, MOST_MADE, Page, PageForest, Place, Refusal, Segments, Span, actor_of, cache_of, denies, is_denied_page, is_mapped, numbered, overwrite, page_at, place, put_cache, put_page, write_at}
use Rattle.interface_callers.proofs.Mapped.{place_maps}

-- The caches that are seen of a machine, which of them are hidden, and of which machines this is
-- said. One that is put is hidden as the one before it; what is mapped is seen.
pub record IsView (caches : Machine → List (Option Cache)) (hidden : Machine → ℕ → Bool) (IsFit : Machine → Type 0) : Type 0 where
  pub shown : (m : Machine) (n : ℕ) → hidden m n ≡ false → numbered (caches m) n ≡ cache_of m n
  pub none : (m : Machine) (n : ℕ) → hidden m n ≡ true → numbered (caches m) n ≡ None
  pub put : (m : Machine) (n : ℕ) (c d : Cache) → cache_of m n ≡ Some c → d.segment ≡ c.segment → hidden m n ≡ false → caches (put_cache m n d) ≡ set (caches m) (n - 1) (Some d)
  pub mapped : (m : Machine) → IsFit m → (n : ℕ) → is_mapped m n ≡ true → hidden m n ≡ false
  pub actor : (m : Machine) → caches (record m { actors = m.actors ++ Some [] ∷ [] }) ≡ caches m

-- a cache by its number, and by 0 where it isn't to be found
abbrev pub shown_at : Bool → CacheId → CacheId
shown_at b cache = cond b (record { 0 = 0 }) cache

abbrev pub mapping_at : Bool → Mapping → Mapping
mapping_at b p = record p { extent = record p.extent { cache = shown_at b p.extent.cache } }

abbrev pub span_at : Bool → Bool → Span → Span
span_at a b s = record s { from = shown_at a s.from; to = shown_at b s.to }

module _ {caches : Machine → List (Option Cache)} {hidden : Machine → ℕ → Bool} {IsFit : Machine → Type 0} (v : IsView caches hidden IsFit) where
  abbrev seen : Machine → Machine
  seen m = record m { caches = caches m }

  abbrev pub lift : plain.Answered → plain.Answered
  lift a = record { answer = a.answer; next = seen a.next }

  lift_unless : (bad : Bool) (r : Refusal) (m : Machine) (go : plain.Answered) → lift (plain.unless bad r m go) ≡ plain.unless bad r (seen m) (lift go)
  unfolding plain.unless
  lift_unless true r m go = refl
  lift_unless false r m go = refl

  lift_some : {A : Type 0} (o : Option A) (r : Refusal) (m : Machine) (go go' : A → plain.Answered) → ((x : A) → o ≡ Some x → lift (go x) ≡ go' x) → lift (plain.with_some o r m go) ≡ plain.with_some o r (seen m) go'
  unfolding plain.with_some
  lift_some None r m go go' same = refl
  lift_some (Some x) r m go go' same = same x refl

  lift_ok : {A : Type 0} (o : Result A Refusal) (m : Machine) (go go' : A → plain.Answered) → ((x : A) → o ≡ Ok x → lift (go x) ≡ go' x) → lift (plain.with_ok o m go) ≡ plain.with_ok o (seen m) go'
  unfolding plain.with_ok
  lift_ok (Err r) m go go' same = refl
  lift_ok (Ok x) m go go' same = same x refl

  -- where it isn't refused, what comes then lifts
  lift_then : (bad : Bool) (r : Refusal) (m : Machine) (go go' : plain.Answered) → lift go ≡ go' → lift (plain.unless bad r m go) ≡ plain.unless bad r (seen m) go'
  lift_then bad r m go go' e = lift_unless bad r m go ∙ ap (plain.unless bad r (seen m)) e

  pub actor_lifts : (m : Machine) → lift (plain.make_actor_of m) ≡ plain.make_actor_of (seen m)
  unfolding plain.make_actor_of
  actor_lifts m = lift_then _ _ m _ _ (ap (λ (cs : List (Option Cache)). plain.reply (replies.Actor (record { 0 = length m.actors + 1 })) (record m { actors = m.actors ++ Some [] ∷ []; caches = cs })) (v.actor m))

  -- Accesses

  -- what is accessed is seen
  pub visible : (m : Machine) → IsFit m → (actor address length : ℕ) (p : Place) → place m actor address length ≡ Ok p → hidden m p.region.cache ≡ false
  visible m fit actor address length p e = v.mapped m fit p.region.cache (place_maps m actor address length p e)

  same_page : (m : Machine) (p : Place) → hidden m p.region.cache ≡ false → page_at m p ≡ page_at (seen m) p
  same_page m p e = ap (λ (o : Option Cache). option_map_or (λ (c : Cache). unwrap_or (slice_get c.pages p.page) []) o []) (sym (v.shown m p.region.cache e))

  pub load_lifts : (m : Machine) → IsFit m → (actor address length : ℕ) → lift (plain.load_of m actor address length) ≡ plain.load_of (seen m) actor address length
  unfolding plain.load_of
  load_lifts m fit actor address length = lift_ok (place m actor address length) m _ _
      (λ p e. ap (λ (page : Page). plain.reply (replies.Bytes (take length (drop p.byte page))) (seen m)) (same_page m p (visible m fit actor address length p e)))

  denied_same : (m : Machine) (h : Segments) (cache page : ℕ) → hidden m cache ≡ false → is_denied_page m h cache page ≡ is_denied_page (seen m) h cache page
  denied_same m h cache page e = ap (λ (o : Option Cache). option_map_or (λ seg. denies h.denied seg page) (option_and_then (λ (c : Cache). c.segment) o) false) (sym (v.shown m cache e))

  -- a cache that is seen is put
  pub put_seen : (m : Machine) (n : ℕ) (c d : Cache) → cache_of m n ≡ Some c → d.segment ≡ c.segment → hidden m n ≡ false → seen (put_cache m n d) ≡ put_cache (seen m) n d
  put_seen m n c d there same e = ap (λ (cs : List (Option Cache)). record m { caches = cs }) (v.put m n c d there same e)

  written : (m : Machine) (p : Place) (bytes : Page) (o : Option Cache) → cache_of m p.region.cache ≡ o → hidden m p.region.cache ≡ false
      → seen (option_map_or (λ (c : Cache). put_cache m p.region.cache (put_page p.page bytes c)) o m) ≡ option_map_or (λ (c : Cache). put_cache (seen m) p.region.cache (put_page p.page bytes c)) o (seen m)
  written m p bytes None is e = refl
  written m p bytes (Some c) is e = put_seen m p.region.cache c (put_page p.page bytes c) is refl e

  write_lifts : (m : Machine) (p : Place) (bytes : List ℕ) → hidden m p.region.cache ≡ false → seen (write_at m p bytes) ≡ write_at (seen m) p bytes
  write_lifts m p bytes e =
      written m p (overwrite p.byte bytes (page_at m p)) (cache_of m p.region.cache) refl e
      ∙ (λ i. option_map_or (λ (c : Cache). put_cache (seen m) p.region.cache (put_page p.page (overwrite p.byte bytes (same_page m p e i)) c)) (sym (v.shown m p.region.cache e) i) (seen m))

  pub store_lifts : (m : Machine) → IsFit m → (actor address : ℕ) (bytes : List ℕ) (h : Segments) → lift (plain.store_of m actor address bytes h) ≡ plain.store_of (seen m) actor address bytes h
  unfolding plain.store_of
  store_lifts m fit actor address bytes h = lift_ok (place m actor address (length bytes)) m _ _ (λ p e.
      let there : hidden m p.region.cache ≡ false = visible m fit actor address (length bytes) p e in
      lift_unless (not p.region.may_write) refusals.Protection m _
      ∙ ap (plain.unless (not p.region.may_write) refusals.Protection (seen m))
      (lift_unless (is_denied_page m h p.region.cache p.page) refusals.WriteDenied m _
      ∙ (λ i. plain.unless (denied_same m h p.region.cache p.page there i) refusals.WriteDenied (seen m) (plain.reply replies.Done (write_lifts m p bytes there i)))))

  -- Mappings

  -- what a mapping comes to where the cache is found
  abbrev map_rest : Machine → ℕ → Mapping → Actor → Cache → plain.Answered
  map_rest m actor p regions cache =
      plain.unless (not (p.address % m.page_bytes == 0)) refusals.Unaligned m
      (plain.unless (nat_lt (2 ^ 48) (p.address + m.page_bytes * p.extent.pages)) refusals.BadAddress m
      (plain.unless (plain.passes_end cache p.extent.first.0 p.extent.pages) refusals.OutOfCache m
      (plain.unless (list_any (plain.overlaps m.page_bytes p.address p.extent.pages) regions) refusals.Overlap m
      (plain.unless (nat_le MOST_MADE m.regions_made) refusals.TooMany m
      (plain.reply (replies.Region (record { 0 = m.regions_made + 1 })) (plain.add_region m actor regions p))))))

  -- the same caches are seen with the region
  abbrev pub AddsTo : Machine → ℕ → Mapping → Type 0
  AddsTo m actor p = (rs : Actor) → slice_get m.actors (actor - 1) ≡ Some (Some rs) → caches (plain.add_region m actor rs p) ≡ caches m

  rest_lifts : (m : Machine) (actor : ℕ) (p : Mapping) (rs : Actor) (cache : Cache) → caches (plain.add_region m actor rs p) ≡ caches m → lift (map_rest m actor p rs cache) ≡ map_rest (seen m) actor p rs cache
  rest_lifts m actor p rs cache e = lift_then _ _ m _ _ (lift_then _ _ m _ _ (lift_then _ _ m _ _ (lift_then _ _ m _ _ (lift_then _ _ m _ _
      (ap (λ (cs : List (Option Cache)). plain.reply (replies.Region (record { 0 = m.regions_made + 1 })) (record (plain.add_region m actor rs p) { caches = cs })) e)))))

  -- a cache that is seen is mapped
  map_visible : (m : Machine) (actor : ℕ) (p : Mapping) → hidden m p.extent.cache.0 ≡ false → AddsTo m actor p → lift (plain.map_of m actor p) ≡ plain.map_of (seen m) actor p
  unfolding plain.map_of
  map_visible m actor p there adds = lift_some (actor_of m actor) refusals.NoActor m _ _ (λ rs e.
      lift_some (cache_of m p.extent.cache.0) refusals.NoCache m (map_rest m actor p rs) (map_rest (seen m) actor p rs) (λ c f. rest_lifts m actor p rs c (adds rs (numbered_place m.actors actor rs e).1))
      ∙ ap (λ (o : Option Cache). plain.with_some o refusals.NoCache (seen m) (map_rest (seen m) actor p rs)) (sym (v.shown m p.extent.cache.0 there)))

  -- a hidden cache isn't found, nor is the one with the number 0
  map_hidden : (b : Bool) (m : Machine) (actor : ℕ) (p : Mapping) → hidden m p.extent.cache.0 ≡ b → plain.map_of (seen m) actor (mapping_at b p) ≡ plain.map_of (seen m) actor p
  unfolding plain.map_of plain.with_some
  map_hidden false m actor p e = refl
  map_hidden true m actor p e = ap (plain.with_some (actor_of m actor) refusals.NoActor (seen m)) (λ i rs.
      plain.with_some (sym (v.none m p.extent.cache.0 e) i) refusals.NoCache (seen m) (map_rest (seen m) actor p rs))

  pub map_lifts : (b : Bool) (m : Machine) (actor : ℕ) (p : Mapping) → hidden m p.extent.cache.0 ≡ b → hidden m (shown_at b p.extent.cache).0 ≡ false → AddsTo m actor (mapping_at b p)
      → lift (plain.map_of m actor (mapping_at b p)) ≡ plain.map_of (seen m) actor p
  map_lifts b m actor p is there adds = map_visible m actor (mapping_at b p) there adds ∙ map_hidden b m actor p is

  -- Copies

  -- what a copy comes to where both caches are found
  abbrev copy_rest : Machine → Span → Segments → Cache → Cache → plain.Answered
  copy_rest m s h source destination =
      plain.unless (plain.passes_an_end s source destination) refusals.OutOfCache m
      (plain.unless (plain.overlaps_itself s) refusals.Overlap m
      (plain.unless (plain.is_any_locked m s.to s.to_page.0 s.pages) refusals.Locked m
      (plain.unless (plain.is_any_denied m h s) refusals.WriteDenied m
      (plain.reply replies.Done (plain.put_span m s source destination)))))

  any_denied_same : (m : Machine) (h : Segments) (s : Span) → hidden m s.to.0 ≡ false → plain.is_any_denied m h s ≡ plain.is_any_denied (seen m) h s
  any_denied_same m h s e = λ i. list_any (λ page. denied_same m h s.to.0 page e i) (range_with_len s.to_page.0 s.pages)

  copied_lifts : (m : Machine) (s : Span) (h : Segments) (source destination : Cache) → cache_of m s.to.0 ≡ Some destination → hidden m s.to.0 ≡ false → lift (copy_rest m s h source destination) ≡ copy_rest (seen m) s h source destination
  copied_lifts m s h source destination there e =
      lift_then _ _ m _ _ (lift_then _ _ m _ _ (lift_then _ _ m _ _
      (lift_unless (plain.is_any_denied m h s) refusals.WriteDenied m _
      ∙ (λ i. plain.unless (any_denied_same m h s e i) refusals.WriteDenied (seen m) (plain.reply replies.Done
      (put_seen m s.to.0 destination (plain.put_pages s.to_page.0 (take s.pages (drop s.from_page.0 source.pages)) destination) there refl e i))))))

  -- caches that are seen are copied
  copy_visible : (m : Machine) (s : Span) (h : Segments) → hidden m s.from.0 ≡ false → hidden m s.to.0 ≡ false → lift (plain.copy_of m s h) ≡ plain.copy_of (seen m) s h
  unfolding plain.copy_of
  copy_visible m s h from to =
      lift_some (cache_of m s.from.0) refusals.NoCache m
      (λ source. plain.with_some (cache_of m s.to.0) refusals.NoCache m (copy_rest m s h source))
      (λ source. plain.with_some (cache_of m s.to.0) refusals.NoCache (seen m) (copy_rest (seen m) s h source))
      (λ source e. lift_some (cache_of m s.to.0) refusals.NoCache m (copy_rest m s h source) (copy_rest (seen m) s h source) (λ destination f. copied_lifts m s h source destination f to))
      ∙ (λ i. plain.with_some (sym (v.shown m s.from.0 from) i) refusals.NoCache (seen m) (λ source.
      plain.with_some (sym (v.shown m s.to.0 to) i) refusals.NoCache (seen m) (copy_rest (seen m) s h source)))

  copy_hidden : (a b : Bool) (m : Machine) (s : Span) (h : Segments) → hidden m s.from.0 ≡ a → hidden m s.to.0 ≡ b → plain.copy_of (seen m) (span_at a b s) h ≡ plain.copy_of (seen m) s h
  unfolding plain.copy_of plain.with_some
  copy_hidden false false m s h e f = refl
  copy_hidden true b m s h e f = λ i. plain.with_some (sym (v.none m s.from.0 e) i) refusals.NoCache (seen m) (λ source.
      plain.with_some (cache_of (seen m) s.to.0) refusals.NoCache (seen m) (copy_rest (seen m) s h source))
  copy_hidden false true m s h e f = ap (plain.with_some (cache_of (seen m) s.from.0) refusals.NoCache (seen m)) (λ i source.
      plain.with_some (sym (v.none m s.to.0 f) i) refusals.NoCache (seen m) (copy_rest (seen m) s h source))

  pub copy_lifts : (a b : Bool) (m : Machine) (s : Span) (h : Segments) → hidden m s.from.0 ≡ a → hidden m s.to.0 ≡ b → hidden m (shown_at a s.from).0 ≡ false → hidden m (shown_at b s.to).0 ≡ false
      → lift (plain.copy_of m (span_at a b s) h) ≡ plain.copy_of (seen m) s h
  copy_lifts a b m s h from to from_seen to_seen = copy_visible m (span_at a b s) h from_seen to_seen ∙ copy_hidden a b m s h from to

  -- Faults

  named_seen : (m : Machine) (k : ℕ) → hidden m k ≡ false → IsNamed m k → IsNamed (seen m) k
  named_seen m k stays named = subst (λ (o : Option Cache). IsTrue (option_map_or (λ (c : Cache). is_some c.segment) o false)) (sym (v.shown m k stays)) named

  access_seen : (m : Machine) (o : Result Place Refusal) → ((p : Place) → o ≡ Ok p → hidden m p.region.cache ≡ false) → IsOkAnd o (λ (at : Place). IsNamed m at.region.cache) → IsOkAnd o (λ (at : Place). IsNamed (seen m) at.region.cache)
  access_seen m (Ok at) stays named = named_seen m at.region.cache (stays at refl) named
  access_seen m (Err r) stays named = named

  pub load_faults : (m : Machine) (f g : Option PageForest) (actor : ActorId) (address length : ℕ) (h : Segments) (at : FaultAt) (rises : MapperCounts) → MayFault m f (Load actor address length) h at rises → MayFault (seen m) g (Load actor address length) h at rises
  load_faults m f g actor address length h (faults.Page page) rises may = may
  load_faults m f g actor address length h faults.Victim rises may = may
  load_faults m f g actor address length h at rises may = absurd may

  pub store_faults : (m : Machine) → IsFit m → (f g : Option PageForest) (actor : ActorId) (address : ℕ) (bytes : List ℕ) (h : Segments) (at : FaultAt) (rises : MapperCounts) → MayFault m f (Store actor address bytes) h at rises → MayFault (seen m) g (Store actor address bytes) h at rises
  store_faults m fit f g actor address bytes h (faults.Access page) rises may = (may.0, access_seen m (place m actor.0 address (length bytes)) (λ p e. visible m fit actor.0 address (length bytes) p e) may.1)
  store_faults m fit f g actor address bytes h (faults.Page page) rises may = may
  store_faults m fit f g actor address bytes h faults.Victim rises may = may
  store_faults m fit f g actor address bytes h at rises may = absurd may

  pub page_out_faults : (m : Machine) (f g : Option PageForest) (count : ℕ) (h : Segments) (at : FaultAt) (rises : MapperCounts) → MayFault m f (PageOut count) h at rises → MayFault (seen m) g (PageOut count) h at rises
  page_out_faults m f g count h faults.Victim rises may = may
  page_out_faults m f g count h at rises may = absurd may

  asked_seen : (m : Machine) (h : Segments) (s : Span) (p : ℕ) → hidden m s.to.0 ≡ false → IsFirstAsked m h s p → IsFirstAsked (seen m) h s p
  asked_seen m h s p stays asked = (asked.0, asked.1, λ q from below. sym (denied_same m h s.to.0 q stays) ∙ asked.2 q from below)

  pub copy_faults : (a b : Bool) (m : Machine) (f : Option PageForest) (s : Span) → hidden m s.to.0 ≡ b → (h : Segments) (at : FaultAt) (rises : MapperCounts) → MayFault m f (Copy (span_at a b s)) h at rises → MayFault (seen m) f (Copy s) h at rises
  copy_faults a true m f s e h (faults.Access p) rises may = absurd (let wrong : false ≡ true = may.0 in cc wrong)
  copy_faults a true m f s e h (faults.Save done) rises may = absurd (let wrong : false ≡ true = may.0 in cc wrong)
  copy_faults a false m f s e h (faults.Access p) rises may = (named_seen m s.to.0 e may.0, asked_seen m h s p.0 e may.1)
  copy_faults a false m f s e h (faults.Save done) rises may = (named_seen m s.to.0 e may.0, may.1)
  copy_faults a b m f s e h at rises may = absurd may
