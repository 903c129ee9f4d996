-- What a store changes.
use Rattle.std.proofs.Common.{◌≡◌, ℕ, zero, suc, ◌+◌, ◌-◌, ◌<◌, ◌≤◌, true, false, List, [], ◌∷◌, length, set, get_or, Option, Some, None, refl, sym, ap, ◌∙◌, subst, arith}
use Rattle.std.specs.Prelude.{Ok, Err, option_map, option_and_then, slice_get}
use Rattle.std.specs.Option.{option_map_or}
use Rattle.vm_ids.specs.Held.{Held, Segments}
use Rattle.vm_ids.specs.declared.node_name.NodeName.{NodeName}
use Rattle.vm_ids.specs.declared.numbers.NodeId.{NodeId}
use Rattle.vm_ids.specs.declared.refusal.Refusal.{Refusal}
use Rattle.vm_ids.specs.declared.refusal.Refusal.TheVariants as refusals
use Rattle.vm_ids.specs.declared.reply.Reply.TheVariants as replies
use Rattle.vm_ids.specs.Forest.Changes.{edit, put, with_own}
use Rattle.vm_ids.specs.Forest.Nodes.{Forest, node}
use Rattle.vm_ids.specs.Forest.Rules.{write}
use Rattle.frame_pool.specs.Pool.{bytes_of, with_bytes}
use Rattle.global_map.specs.Pairs.{node_of}
use Rattle.local_cache.specs.Arena.{Table, table_at, table_of}
use Rattle.local_cache.specs.Reading.{name_of}
use Rattle.residency.specs.StoreForest.{store_forest}
use Rattle.residency.specs.World.{World}
use Rattle.residency.proofs.Worlds.Homes.{page_here}
use Rattle.residency.proofs.Worlds.Homes.{IsHome, home}
use Rattle.residency.proofs.Forests.WrittenForest.{written_forest}
use Rattle.fault_path.specs.Faults.{Kept, readied}
use Rattle.fault_path.proofs.Calls.Kept.{store_page}
use Rattle.vm_model.specs.Answering.{is_denied_page, overwrite, refuse, reply, store_of, unless, with_ok, write_at}
use Rattle.vm_model.specs.Machine.{Cache, Machine, cache_of}
use Rattle.vm_model.specs.Place.{Place, place}
use Rattle.local_cache.specs.Own.{own_of}
use Rattle.std.proofs.lemmas.List.{length-set}
use Rattle.vm_ids.specs.Forest.Commands.{page_name}
use Rattle.vm_ids.specs.Forest.Reading.{value_of}
use Rattle.vm_model.specs.Answering.{put_cache, put_page}
use Rattle.vm_model.specs.Machine.{Page}
use Rattle.vm_model.specs.PageForest.{PageForest}
use Rattle.pvm_core.specs.Manager.{Manager, cache_shown, caches_shown, machine_by, pages_shown, shown}
use Rattle.pvm_core.proofs.Meaning.Determined.{IsShaped, followed_is, get_numbered}
use Rattle.pvm_core.proofs.Accesses.Loading.{page_at_is}
use Rattle.std.proofs.Math.Seq.{map-set_same}
use Rattle.vm_model.specs.Laws.{IsFollowed}
use Rattle.vm_model.specs.Outcome.{blank, blank_cache}
use Rattle.vm_model.proofs.Forests.Following.{stored_followed}
use Rattle.pvm_core.proofs.Meaning.Shown.{get-caches, get-pages, id_of, length-pages, numbered-caches, shown_made}

-- Rows

module _ (m : Machine) (actor address : ℕ) (bytes : List ℕ) (h : Segments) where
  pub store_refused : (r : Refusal) → Err r ≡ place m actor address (length bytes) → store_of m actor address bytes h ≡ refuse m r
  unfolding store_of with_ok
  store_refused r e = let back = sym e in rw back refl

  pub store_protected : (at : Place) → Ok at ≡ place m actor address (length bytes) → at.region.may_write ≡ false → store_of m actor address bytes h ≡ refuse m refusals.Protection
  unfolding store_of with_ok unless
  store_protected at e no_write = let back = sym e in rw (back, no_write) refl

  pub store_row : (at : Place) → Ok at ≡ place m actor address (length bytes) → at.region.may_write ≡ true → is_denied_page m h at.region.cache at.page ≡ false → store_of m actor address bytes h ≡ reply replies.Done (write_at m at bytes)
  unfolding store_of with_ok unless
  store_row at e may_write allowed = let back = sym e in rw (back, may_write, allowed) refl

  pub store_denied : (at : Place) → Ok at ≡ place m actor address (length bytes) → at.region.may_write ≡ true → is_denied_page m h at.region.cache at.page ≡ true → store_of m actor address bytes h ≡ refuse m refusals.WriteDenied
  unfolding store_of with_ok unless
  store_denied at e may_write denied = let back = sym e in rw (back, may_write, denied) refl

-- The forest

-- the bytes of a node that is ready are changed: that is the rule write
written_by : {P : Type 0} (f : Forest P) (x : NodeName) (u v : P) (change : P → P) → (node (readied f x) x).own ≡ Some u → change u ≡ v → edit (readied f x) x (with_own (Some v)) ≡ write f x change
unfolding write
written_by f x u v change own is = ap (λ o. put (readied f x) x (with_own o (node (readied f x) x))) (sym (ap (option_map change) own ∙ ap Some is))

over : (told : Option Held) (byte : ℕ) (bytes old : List ℕ) → option_map (overwrite byte bytes) (option_map (λ _. old) told) ≡ option_map (λ _. overwrite byte bytes old) told
over None byte bytes old = refl
over (Some h) byte bytes old = refl

-- the bytes of a page that was made ready for a write are overwritten from one byte on
pub stored_forest : (w v : World) (f : ℕ) (n : NodeId) (x : NodeName) (byte : ℕ) (bytes : List ℕ) → Kept w v → store_forest v ≡ readied (store_forest w) x → name_of v.caches n ≡ x → f < length v.map → node_of v.map f ≡ Some n
    → store_forest (record v { frames = with_bytes v.frames f (overwrite byte bytes (bytes_of v.frames f)) }) ≡ write (store_forest w) x (option_map (overwrite byte bytes))
stored_forest w v f n x byte bytes k ready name frame bound =
    let new = overwrite byte bytes (bytes_of v.frames f) in
    let at : IsHome v f n = home v f n k.right frame bound in
    let own : (node (readied (store_forest w) x) x).own ≡ Some (option_map (λ _. bytes_of v.frames f) v.told)
    = (λ i. (node (sym ready i) (sym name i)).own) ∙ store_page v k.sound n at.there ∙ page_here v f n (own_of v.caches n) at.resident at.place in
    written_forest v f n new k.right k.sound at
    ∙ (λ i. edit (ready i) (name i) (with_own (Some (option_map (λ _. new) v.told))))
    ∙ written_by (store_forest w) x (option_map (λ _. bytes_of v.frames f) v.told) (option_map (λ _. new) v.told) (option_map (overwrite byte bytes)) own (over v.told byte bytes (bytes_of v.frames f))

-- The machine

module _ (p q : Manager) (f : PageForest) (at : Place) (bytes : List ℕ) (tables : q.caches.caches ≡ p.caches.caches) (same : (q.page_bytes ≡ p.page_bytes) × (length q.store.frames.held ≡ length p.store.frames.held) × (q.actors ≡ p.actors) × (q.regions_made ≡ p.regions_made))
    (t : Table) (there : table_of p.caches at.region.cache ≡ Some t) (less : at.page < length t.pages) (fits : at.byte + length bytes ≤ length (shown (value_of f (page_name (id_of at.region.cache) at.page)))) where
  abbrev c : Cache
  c = cache_shown f at.region.cache t

  abbrev old : Page
  old = shown (value_of f (page_name (id_of at.region.cache) at.page))

  abbrev changed : Cache
  changed = put_page at.page (overwrite at.byte bytes (shown (value_of f (page_name (id_of at.region.cache) at.page)))) (cache_shown f at.region.cache t)

  pub cache_is : cache_of (machine_by p f) at.region.cache ≡ Some (cache_shown f at.region.cache t)
  cache_is = numbered-caches f p.caches.caches at.region.cache ∙ ap (option_map (cache_shown f at.region.cache)) there

  page_old : slice_get (cache_shown f at.region.cache t).pages at.page ≡ Some (shown (value_of f (page_name (id_of at.region.cache) at.page)))
  page_old = get-pages f at.region.cache 0 (length t.pages) at.page less ∙ ap (λ (k : ℕ). Some (shown (value_of f (page_name (id_of at.region.cache) k)))) (let e : 0 + at.page ≡ at.page = omega arith in e)

  -- the bytes that are written
  pub write_is : write_at (machine_by p f) at bytes ≡ put_cache (machine_by p f) at.region.cache (put_page at.page (overwrite at.byte bytes (shown (value_of f (page_name (id_of at.region.cache) at.page)))) (cache_shown f at.region.cache t))
  write_is = ap (λ (v : Page). option_map_or (λ (c : Cache). put_cache (machine_by p f) at.region.cache (put_page at.page (overwrite at.byte bytes v) c)) (cache_of (machine_by p f) at.region.cache) (machine_by p f)) (page_at_is (machine_by p f) at old (ap (option_and_then (λ (c : Cache). slice_get c.pages at.page)) cache_is ∙ page_old))
      ∙ ap (λ (o : Option Cache). option_map_or (λ (c : Cache). put_cache (machine_by p f) at.region.cache (put_page at.page (overwrite at.byte bytes old) c)) o (machine_by p f)) cache_is

  long : length (put_page at.page (overwrite at.byte bytes old) c).pages ≡ length t.pages
  long = length-set (pages_shown f at.region.cache 0 (length t.pages)) at.page (overwrite at.byte bytes old) ∙ length-pages f at.region.cache 0 (length t.pages)

  shapes : (first : ℕ) (ts : List (Option Table)) (i k : ℕ) → get_or ts i None ≡ Some t → IsShaped (get_or (set (caches_shown f first ts) i (Some (put_page at.page (overwrite at.byte bytes (shown (value_of f (page_name (id_of at.region.cache) at.page)))) (cache_shown f at.region.cache t)))) k None) (get_or ts k None)
  shapes first [] i k e = absurd (cc e)
  shapes first (u ∷ ts) zero zero e = subst (λ (o : Option Table). IsShaped (Some changed) o) (sym e) (refl, long)
  shapes first (None ∷ ts) (suc i) zero e = tt
  shapes first (Some u ∷ ts) (suc i) zero e = (refl, length-pages f first 0 (length u.pages))
  shapes first (u ∷ ts) zero (suc k) e = shaped (first + 1) ts k
    where
      shaped : (first : ℕ) (ts : List (Option Table)) (k : ℕ) → IsShaped (get_or (caches_shown f first ts) k None) (get_or ts k None)
      shaped first [] k = tt
      shaped first (None ∷ ts) zero = tt
      shaped first (Some u ∷ ts) zero = (refl, length-pages f first 0 (length u.pages))
      shaped first (u ∷ ts) (suc k) = shaped (first + 1) ts k
  shapes first (u ∷ ts) (suc i) (suc k) e = shapes (first + 1) ts i k e

  table_place : (ts : List (Option Table)) (n : ℕ) → table_at ts n ≡ Some t → get_or ts (n - 1) None ≡ Some t
  table_place ts zero e = absurd (cc e)
  table_place ts (suc k) e = ap (λ (i : ℕ). get_or ts i None) (let s : suc k - 1 ≡ k = omega arith in s) ∙ e

  -- a machine whose bytes are told has them written
  pub machine_written : (g : PageForest) → IsFollowed (machine_by p f) f → 1 ≤ length (shown (value_of f (page_name (id_of at.region.cache) at.page))) → g ≡ write f (page_name (id_of at.region.cache) at.page) (option_map (overwrite at.byte bytes))
      → machine_by q g ≡ write_at (machine_by p f) at bytes
  machine_written g followed some rule = (λ i. record {
    page_bytes = same.0 i;
    frames = same.1 i;
    caches = (ap (caches_shown g 1) tables ∙ caches_now) i;
    actors = same.2 i;
    regions_made = same.3 i;
  }) ∙ sym write_is
    where
      now : IsFollowed (put_cache (machine_by p f) at.region.cache (put_page at.page (overwrite at.byte bytes (shown (value_of f (page_name (id_of at.region.cache) at.page)))) (cache_shown f at.region.cache t))) g
      now = subst (IsFollowed (put_cache (machine_by p f) at.region.cache changed)) (sym rule) (stored_followed (machine_by p f) f at bytes (cache_shown f at.region.cache t) (shown (value_of f (page_name (id_of at.region.cache) at.page))) cache_is page_old some followed)

      caches_now : caches_shown g 1 p.caches.caches ≡ set (caches_shown f 1 p.caches.caches) (at.region.cache - 1) (Some changed)
      caches_now = followed_is (put_cache (machine_by p f) at.region.cache changed) g now p.caches.caches (length-set (caches_shown f 1 p.caches.caches) (at.region.cache - 1) (Some changed) ∙ shown_made f 1 p.caches.caches)
          (λ k low. shapes 1 p.caches.caches (at.region.cache - 1) k (table_place p.caches.caches at.region.cache there))

  -- without its bytes the machine is as before
  pub blank_written : blank (write_at (machine_by p f) at bytes) ≡ blank (machine_by p f)
  blank_written = ap blank write_is ∙ ap (λ cs. record (blank (machine_by p f)) { caches = cs })
      (map-set_same (option_map blank_cache) (caches_shown f 1 p.caches.caches) (at.region.cache - 1) (Some changed) None
      (ap (λ ps. Some (record { segment = option_map (λ s. s.0) t.segment; pages = ps })) (map-set_same (λ (x : Page). []) (pages_shown f at.region.cache 0 (length t.pages)) at.page (overwrite at.byte bytes old) [] refl)
      ∙ sym (ap (option_map blank_cache) (at_place p.caches.caches at.region.cache there))))
    where
      at_place : (ts : List (Option Table)) (n : ℕ) → table_at ts n ≡ Some t → get_or (caches_shown f 1 ts) (n - 1) None ≡ Some (cache_shown f n t)
      at_place ts zero e = absurd (cc e)
      at_place ts (suc k) e = ap (λ (i : ℕ). get_or (caches_shown f 1 ts) i None) (let s : suc k - 1 ≡ k = omega arith in s) ∙ sym (get_numbered (caches_shown f 1 ts) k) ∙ get-caches f 1 ts k ∙ ap (option_map (cache_shown f (1 + k))) e ∙ ap (λ (i : ℕ). Some (cache_shown f i t)) (let s : 1 + k ≡ suc k = omega arith in s)
