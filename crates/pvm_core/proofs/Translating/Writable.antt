-- Pages that may be written may be so still.
use Rattle.std.proofs.Common.{◌≡◌, ℕ, true, false, List, Option, Some, None, is_some, unwrap_or, option_map, slice_get, sym, ap, subst, ◌∙◌, inl, inr}
use Rattle.std.specs.Prelude.{IsSome, option_and_then}
use Rattle.std.proofs.lemmas.Bool.{cases_eq}
use Rattle.vm_ids.specs.declared.node_name.NodeName.{NodeName}
use Rattle.vm_ids.specs.declared.node_name.NodeName.TheVariants.{Live, Working}
use Rattle.vm_ids.specs.declared.numbers.CacheId.{CacheId}
use Rattle.vm_ids.specs.declared.numbers.PageNo.{PageNo}
use Rattle.local_cache.specs.declared.home.Home.{Home}
use Rattle.local_cache.specs.Arena.{Arena, Table, is_granted, table_at, tables_without, without_cache}
use Rattle.local_cache.specs.Home.{home_named}
use Rattle.local_cache.specs.Whole.{SameCaches}
use Rattle.residency.specs.World.{SameNodes, is_name_granted}
use Rattle.page_commands.specs.Homes.{IsWritable, KeepsHomes}
use Rattle.page_commands.proofs.TiedStores.Homes.{home_name}
use Rattle.pvm_core.proofs.Destroying.Tables.{gone as gone_table, other_table}

-- where no grant goes, and segments name the caches that they named
pub granted_writable : (a b : Arena) → SameCaches a b → ((cache page : ℕ) → is_granted a cache page ≡ true → is_granted b cache page ≡ true) → (x : NodeName) → IsWritable a x → IsWritable b x
granted_writable a b same granted x writable home = go x (writable (sym (ap is_some (home_name a b same x)) ∙ home))
  where
    go : (x : NodeName) → is_name_granted a x ≡ true → is_name_granted b x ≡ true
    go (Live cache page) e = granted cache.0 page.0 e
    go (Working k) e = absurd (cc e)

-- where the tables of the caches stay
pub tables_writable : (a b : Arena) → b.caches ≡ a.caches → (x : NodeName) → IsWritable a x → IsWritable b x
tables_writable a b same x writable home = go x same (writable (subst (λ (ts : List (Option Table)). IsSome (home_named ts x)) same home))
  where
    go : (x : NodeName) → b.caches ≡ a.caches → is_name_granted a x ≡ true → is_name_granted b x ≡ true
    go (Live cache page) same e = ap (λ (ts : List (Option Table)). is_granted (record b { caches = ts }) cache.0 page.0) same ∙ e
    go (Working k) same e = absurd (cc e)

pub still_writable : (a b : Arena) → SameNodes a b → (x : NodeName) → IsWritable a x → IsWritable b x
still_writable a b same = tables_writable a b (ap (λ (k : Arena). k.caches) same.rest)

-- where pages are replaced
pub homes_writable : (names : List NodeName) (a b : Arena) → SameCaches a b → KeepsHomes names a b → (x : NodeName) → IsWritable a x → IsWritable b x
homes_writable names a b same homes = granted_writable a b same (λ cache page e. homes.grants cache page ∙ e)

-- where a cache is gone, which leaves nothing to be granted
pub without_writable : (a b : Arena) (gone : CacheId) → b ≡ without_cache a gone → (x : NodeName) → IsWritable a x → IsWritable b x
without_writable a b gone is x writable = subst (λ k. IsWritable k x) (sym is) (left x writable)
  where
    none_home : (page : PageNo) (o : Option Table) → o ≡ None → IsSome (option_map (λ segment. let h : Home = record { segment = segment; page = page } in h) (option_and_then (λ (t : Table). t.segment) o)) → ⊥
    none_home page None none some = absurd (cc some)
    none_home page (Some t) none some = absurd (cc none)

    left : (x : NodeName) → IsWritable a x → IsWritable (without_cache a gone) x
    left (Working k) writable home = writable home
    left (Live cache page) writable home = elim (cases_eq cache.0 gone.0) [
      | inr other ↦ (
          let same = other_table a.caches gone.0 cache.0 other in
          ap (λ (o : Option Table). unwrap_or (option_and_then (λ t. slice_get t.grants page.0) o) false) same
          ∙ writable (subst (λ (o : Option Table). IsSome (option_map (λ segment. let h : Home = record { segment = segment; page = page } in h) (option_and_then (λ (t : Table). t.segment) o))) same home))
      | inl same ↦ absurd (none_home page (table_at (tables_without a.caches gone.0) cache.0) (ap (table_at (tables_without a.caches gone.0)) same ∙ gone_table a.caches gone.0) home)
    ]
