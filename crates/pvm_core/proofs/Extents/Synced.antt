-- What the segment holds after a push.
use Rattle.std.proofs.Common.{◌≡◌, ℕ, ◌+◌, ◌<◌, ◌≤◌, List, length, Option, Some, None, refl, sym, ap, ◌∙◌, subst, arith}
use Rattle.std.specs.Prelude.{IfSome, IsSome, option_and_then, option_map}
use Rattle.vm_ids.specs.Held.{Held, segment_page, segments_in, segments_of}
use Rattle.vm_ids.specs.declared.command.Extent.{Extent}
use Rattle.vm_ids.specs.declared.numbers.NodeId.{NodeId}
use Rattle.vm_ids.specs.Forest.Commands.{page_name}
use Rattle.vm_ids.specs.Forest.Reading.{value_of}
use Rattle.local_cache.specs.declared.home.Home.{Home}
use Rattle.local_cache.specs.Arena.{Arena, Table, node_at, table_of}
use Rattle.local_cache.specs.Home.{home_named, home_of}
use Rattle.local_cache.specs.Reading.{name_of}
use Rattle.local_cache.specs.Whole.{IsWhole, size_of}
use Rattle.local_cache.proofs.NewCache.FoundPages.{some_of}
use Rattle.local_cache.proofs.Whole.LivePages.{page_there}
use Rattle.residency.specs.declared.store.Store.{Store}
use Rattle.residency.specs.StoreForest.{store_forest}
use Rattle.residency.specs.World as worlds
use Rattle.residency.specs.World.{IsStoreRight, page_at, world}
use Rattle.segment_ops.specs.Synced.{AreSynced, IsSynced}
use Rattle.vm_model.specs.PageForest.{page_in}
use Rattle.vm_model.specs.Synchronised.{ArePushed}
use Rattle.pvm_core.specs.Manager.{AreApart, Manager, forest_of, machine_of, shown}
use Rattle.pvm_core.proofs.Extents.Rows.{IsExtent}
use Rattle.pvm_core.proofs.Answering.Kept.{sizeless}
use Rattle.pvm_core.proofs.Homes.Named.{machine_segment}
use Rattle.pvm_core.proofs.Meaning.Values.{page_shown}

-- it doesn't depend on the size of the mapper's pages
pub synced_unsized : (g : Option Held) (j : Option ℕ) (b : Arena) (t : Store) (e : Extent) (past : ℕ) → AreSynced e past (world g j b t) → AreSynced e past (world g None b t)
synced_unsized g j b t e past synced page n first low at =
    let s = synced page n first low at in
    record { page = ap (λ f. value_of f (name_of b n)) (sym (sizeless g j b t)) ∙ s.page; settled = s.settled }

module _ (p : Manager) (h : Option Held) (apart : AreApart p.caches) (e : Extent) (x : IsExtent p.caches e) (b : Arena) (t : Store) (g : Option Held) (whole : IsWhole b) (right : IsStoreRight (world g None b t)) (tables : b.caches ≡ p.caches.caches)
    (forest : store_forest (world g None b t) ≡ forest_of p h) where
  size_now : size_of b e.cache.0 ≡ Some (length x.table.pages)
  size_now = ap (λ ts. option_map (λ (t : Table). length t.pages) (Rattle.local_cache.specs.Arena.table_at ts e.cache.0)) tables ∙ ap (option_map (λ (t : Table). length t.pages)) x.there

  home_now : (page : ℕ) (n : NodeId) → name_of b n ≡ page_name e.cache page → home_of b n ≡ Some (record { segment = x.segment; page = record { 0 = page } })
  home_now page n name =
      ap (home_named b.caches) name
      ∙ ap (λ ts. option_map (λ segment. record { segment = segment; page = record { 0 = page } }) (option_and_then (λ (t : Table). t.segment) (Rattle.local_cache.specs.Arena.table_at ts e.cache.0))) tables
      ∙ ap (λ o. option_map (λ segment. record { segment = segment; page = record { 0 = page } }) (option_and_then (λ (t : Table). t.segment) o)) x.there
      ∙ ap (option_map (λ segment. record { segment = segment; page = record { 0 = page } })) x.of

  -- a page of the range, where the mapper tells what it holds
  pub page_pushed : (k : Held) → g ≡ Some k → (page : ℕ) → page < length x.table.pages → ((n : NodeId) → node_at b e.cache.0 page ≡ Some n → IsSynced (world g None b t) n)
      → segment_page (segments_in k) x.segment.0 page ≡ page_in (machine_of p h) e.cache.0 page
  page_pushed k is page low synced =
      let found = some_of (node_at b e.cache.0 page) (page_there b whole.sound e.cache (record { 0 = page }) (whole.pages e.cache page (length x.table.pages) size_now low)) in
      let n : NodeId = found.0 in
      let listed = whole.sound.kept.listed.nodes e.cache.0 page n found.1 in
      let home = home_now page n listed.1 in
      let there : IsSome (segment_page (segments_in k) x.segment.0 page) = subst (λ (o : Option Held). IfSome o (λ k. IsSome (page_at k (record { segment = x.segment; page = record { 0 = page } })))) is (right.tied.backed.lies n (record { segment = x.segment; page = record { 0 = page } }) home) in
      let held : worlds.home_page (world g None b t) n ≡ segment_page (segments_in k) x.segment.0 page =
      ap (λ (o : Option Home). option_and_then (λ h. option_and_then (page_at h) o) g) home ∙ ap (λ (o : Option Held). option_and_then (λ h. page_at h (record { segment = x.segment; page = record { 0 = page } })) o) is in
      let value : value_of (forest_of p h) (page_name e.cache page) ≡ Some (segment_page (segments_in k) x.segment.0 page) =
      ap (λ f. value_of f (page_name e.cache page)) (sym forest) ∙ ap (value_of (store_forest (world g None b t))) (sym listed.1) ∙ (synced n found.1).page ∙ ap Some held in
      sym (page_shown (forest_of p h) p e.cache page x.table x.there low ∙ ap (λ o. Some (shown o)) value ∙ told_page (segment_page (segments_in k) x.segment.0 page) there)
    where
      told_page : (o : Option (List ℕ)) → IsSome o → Some (shown (Some o)) ≡ o
      told_page None some = absurd (cc some)
      told_page (Some bytes) some = refl

  pub are_pushed : (past : ℕ) → past ≤ e.first.0 + e.pages → AreSynced e past (world g None b t) → ArePushed (machine_of p h) (segments_of g) e.cache.0 e.first.0 past
  are_pushed past low synced = go g refl
    where
      go : (o : Option Held) → g ≡ o → ArePushed (machine_of p h) (segments_of o) e.cache.0 e.first.0 past
      go None is = tt
      go (Some k) is = λ seg page named first less.
          let two : Some x.segment.0 ≡ Some seg = sym (machine_segment p apart (forest_of p h) e.cache.0 x.table x.there x.segment x.of) ∙ named in
          let same : x.segment.0 ≡ seg = cc two in
          ap (λ (s : ℕ). segment_page (segments_in k) s page) (sym same)
          ∙ page_pushed k is page (omega (arith, less, low, x.ends)) (λ n at. synced page n first less at)
